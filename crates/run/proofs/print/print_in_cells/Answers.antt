-- The cells have room for the minima, and the totals and zeros come after the passes.
use Rattle.std.proofs.Common.{ℕ, ◌≤◌, refl, sym, ap, arith, length}
use Rattle.std.proofs.lemmas.List.{length-replicate}
use Rattle.model.specs.Output.{output_bytes}
use Rattle.lines.specs.Writers.{output}
use Rattle.run.specs.Printing.{totals_room, plan_printed}
use Rattle.run.proofs.print.print_in_cells.Goals as goal

pub new-common-requires : goal.new-common-requires
new-common-requires g c = record { spanned = c.requires.plan.1.spanned; roomy = c.requires.roomy; minima_value = rw (length-replicate {A = ℕ} g.row.CELLS 65535) refl }

pub put_passes-requires-clause-output_bytes_in_bounds : goal.put_passes-requires-clause-output_bytes_in_bounds
put_passes-requires-clause-output_bytes_in_bounds g c = omega (arith, c.fits-out, ap length c.new-writer.ensures.kept)

pub put_totals-requires : goal.put_totals-requires
put_totals-requires g c =
    let p = c.requires.plan in
    let long : output_bytes ≤ length (output c.new-writer.result) = omega (arith, c.fits-out, ap length c.new-writer.ensures.kept) in
    totals_room p.0 _ _ _ _ _ _ p.1 _ _ _ _ long (rw (c.from.ensures, c.from-2.ensures) at (c.put_passes.ensures.appended p.0 c.args.parents.now) (rw c.new-common.ensures.same_tree p.1) c.new-common.ensures.searchable)

pub returns : goal.returns
returns g c = λ tb p of.
    let put = rw (c.from.ensures, c.from-2.ensures) at (c.put_passes.ensures.appended tb c.args.parents.now) (rw c.new-common.ensures.same_tree p) c.new-common.ensures.searchable in
    let long : output_bytes ≤ length c.args.out.now = omega (arith, c.fits-out) in
    let end = c.finish.ensures in
    plan_printed tb _ _ _ _ _ _ p _ of _ (omega arith) _ _ _ _ _ _ long (rw c.new-writer.ensures.kept at put) (rw (sym end.counted) at c.put_totals.ensures.appended) end.holds
