-- `reading::read_unchecked` meets its contract: each line makes its step, and the cells hold what was read so far.
use mathlib.Core.Path.{refl}
use native.Mathlib.Omega.{arith}
use lib.ListN.{length-set}
use Rattle.std.proofs.Common.{Ok, Err}
use Rattle.reading.specs.declared.Step.TheVariants.{Layout, Job, Windowed, End}
use Rattle.reading.specs.Held.{so_far_none, layout_room, so_far_layout, job_cells, so_far_marked, so_far_windowed, so_far_end, read_stopped, read_last}
use Rattle.reading.proofs.Reading.{roomy, step_at}
use Rattle.reading.proofs.read_unchecked.Goals as goal

pub loop-p-init : goal.loop-p-init
loop-p-init c =
    record {
      ready = c.requires;
      parents_same = refl;
      tops_same = refl;
      bottoms_same = refl;
      marks_same = refl;
      windows_same = refl;
      so_far = so_far_none _ _ _ _ _ _ c.requires;
    }

pub bounds-parents-p : goal.bounds-parents-p
bounds-parents-p c =
    let i = c.loop-p.invariant in
    let line = step_at i (Ok (Layout c.in-Ok-Layout.parent)) (rw c.in-Ok-Layout.field-0-is at c.in-Ok-Layout.ensures) in
    layout_room _ _ _ _ _ _ _ _ _ _ i.so_far _ line (roomy i).parents_room

pub loop-p-preserved-in-Ok-Layout : goal.loop-p-preserved-in-Ok-Layout
loop-p-preserved-in-Ok-Layout c =
    let i = c.loop-p.invariant in
    let line = step_at i (Ok (Layout c.in-Ok-Layout.parent)) (rw c.in-Ok-Layout.field-0-is at c.in-Ok-Layout.ensures) in
    record {
      ready = i.ready;
      parents_same = simp length-set i.parents_same;
      tops_same = i.tops_same;
      bottoms_same = i.bottoms_same;
      marks_same = i.marks_same;
      windows_same = i.windows_same;
      so_far = so_far_layout _ _ _ _ _ _ _ _ _ _ i.so_far _ line (roomy i).parents_room;
    }

pub bounds-tops-p : goal.bounds-tops-p
bounds-tops-p c =
    let i = c.loop-p.invariant in
    let line = step_at i (Ok (Job c.in-Ok-Job.t c.in-Ok-Job.b c.in-Ok-Job.solo)) (rw c.in-Ok-Job.field-0-is at c.in-Ok-Job.ensures) in
    (job_cells _ _ _ _ _ _ _ _ _ _ i.so_far _ _ _ _ _ (omega arith) line (roomy i)).top_cell

pub bounds-bottoms-p : goal.bounds-bottoms-p
bounds-bottoms-p c =
    let i = c.loop-p.invariant in
    let line = step_at i (Ok (Job c.in-Ok-Job.t c.in-Ok-Job.b c.in-Ok-Job.solo)) (rw c.in-Ok-Job.field-0-is at c.in-Ok-Job.ensures) in
    (job_cells _ _ _ _ _ _ _ _ _ _ i.so_far _ _ _ _ _ (omega arith) line (roomy i)).bottom_cell

pub bounds-marks-p : goal.bounds-marks-p
bounds-marks-p c =
    let i = c.loop-p.invariant in
    let line = step_at i (Ok (Job c.in-Ok-Job.t c.in-Ok-Job.b c.in-Ok-Job.solo)) (rw c.in-Ok-Job.field-0-is at c.in-Ok-Job.ensures) in
    (job_cells _ _ _ _ _ _ _ _ _ _ i.so_far _ _ _ _ _ (omega arith) line (roomy i)).mark_cell

pub loop-p-preserved-in-Ok-Job : goal.loop-p-preserved-in-Ok-Job
loop-p-preserved-in-Ok-Job c =
    let i = c.loop-p.invariant in
    let line = step_at i (Ok (Job c.in-Ok-Job.t c.in-Ok-Job.b c.in-Ok-Job.solo)) (rw c.in-Ok-Job.field-0-is at c.in-Ok-Job.ensures) in
    record {
      ready = i.ready;
      parents_same = i.parents_same;
      tops_same = simp length-set i.tops_same;
      bottoms_same = simp length-set i.bottoms_same;
      marks_same = simp length-set i.marks_same;
      windows_same = i.windows_same;
      so_far = rw c.from.ensures (so_far_marked _ _ _ _ _ _ _ _ _ _ i.so_far _ _ _ line (roomy i));
    }

pub bounds-tops-p-in-Ok-Windowed : goal.bounds-tops-p-in-Ok-Windowed
bounds-tops-p-in-Ok-Windowed c =
    let i = c.loop-p.invariant in
    let line = step_at i (Ok (Windowed c.in-Ok-Windowed.top c.in-Ok-Windowed.bottom c.in-Ok-Windowed.window)) (rw c.in-Ok-Windowed.field-0-is at c.in-Ok-Windowed.ensures) in
    (job_cells _ _ _ _ _ _ _ _ _ _ i.so_far _ _ _ _ _ (omega arith) line (roomy i)).top_cell

pub bounds-bottoms-p-in-Ok-Windowed : goal.bounds-bottoms-p-in-Ok-Windowed
bounds-bottoms-p-in-Ok-Windowed c =
    let i = c.loop-p.invariant in
    let line = step_at i (Ok (Windowed c.in-Ok-Windowed.top c.in-Ok-Windowed.bottom c.in-Ok-Windowed.window)) (rw c.in-Ok-Windowed.field-0-is at c.in-Ok-Windowed.ensures) in
    (job_cells _ _ _ _ _ _ _ _ _ _ i.so_far _ _ _ _ _ (omega arith) line (roomy i)).bottom_cell

pub bounds-windows-p : goal.bounds-windows-p
bounds-windows-p c =
    let i = c.loop-p.invariant in
    let line = step_at i (Ok (Windowed c.in-Ok-Windowed.top c.in-Ok-Windowed.bottom c.in-Ok-Windowed.window)) (rw c.in-Ok-Windowed.field-0-is at c.in-Ok-Windowed.ensures) in
    (job_cells _ _ _ _ _ _ _ _ _ _ i.so_far _ _ _ _ _ (omega arith) line (roomy i)).window_cell

pub loop-p-preserved-in-Ok-Windowed : goal.loop-p-preserved-in-Ok-Windowed
loop-p-preserved-in-Ok-Windowed c =
    let i = c.loop-p.invariant in
    let line = step_at i (Ok (Windowed c.in-Ok-Windowed.top c.in-Ok-Windowed.bottom c.in-Ok-Windowed.window)) (rw c.in-Ok-Windowed.field-0-is at c.in-Ok-Windowed.ensures) in
    record {
      ready = i.ready;
      parents_same = i.parents_same;
      tops_same = simp length-set i.tops_same;
      bottoms_same = simp length-set i.bottoms_same;
      marks_same = i.marks_same;
      windows_same = simp length-set i.windows_same;
      so_far = so_far_windowed _ _ _ _ _ _ _ _ _ _ i.so_far _ _ _ line (roomy i);
    }

pub loop-p-preserved : goal.loop-p-preserved
loop-p-preserved c =
    let i = c.loop-p.invariant in
    let line = step_at i (Ok End) (rw c.in-Ok-End.field-0-is at c.in-Ok-End.ensures) in
    record {
      ready = i.ready;
      parents_same = i.parents_same;
      tops_same = i.tops_same;
      bottoms_same = i.bottoms_same;
      marks_same = i.marks_same;
      windows_same = i.windows_same;
      so_far = so_far_end _ _ _ _ _ _ _ _ _ _ i.so_far line;
    }

pub returns-in-Err-clause-read : goal.returns-in-Err-clause-read
returns-in-Err-clause-read c =
    let i = c.loop-p.invariant in
    let line = step_at i (Err c.in-Err.refusal) c.in-Err.ensures in
    read_stopped _ _ _ _ _ _ _ _ _ _ i.so_far _ c.stopped.result line c.stopped.ensures

pub returns-clause-read : goal.returns-clause-read
returns-clause-read c = read_last _ _ _ _ _ _ _ _ _ _ c.loop-p.invariant.so_far c.at_last.result c.loop-p-test.false c.at_last.ensures
