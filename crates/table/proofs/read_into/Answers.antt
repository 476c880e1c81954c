-- `table::read_into` meets its contract: what the lines come to, and clear buffers after a refusal.
use mathlib.Core.Path.{sym, ◌∙◌}
use Rattle.buffers.specs.Lent.{same_then}
use Rattle.table.specs.Lent.{clear_ready, table_into, refused_into}
use Rattle.table.proofs.read_into.Goals as goal

pub read_lines-answer-requires : goal.read_lines-answer-requires
read_lines-answer-requires c = clear_ready c.args.bytes.now c.requires c.clear.ensures.same c.clear.ensures.cleared

pub returns-then-is_err : goal.returns-then-is_err
returns-then-is_err c =
    let same = same_then c.clear.ensures.same (same_then c.read_lines-answer.ensures.same c.clear-then-is_err.ensures.same) in
    record {
      same = same;
      read = refused_into _ _ c.read_lines-answer.result c.read_lines-answer.new.buffers (sym c.is_err.ensures.value ∙ c.if-is_err.true) c.read_lines-answer.ensures.outcome c.clear-then-is_err.ensures.cleared same;
    }

pub returns-else-is_err : goal.returns-else-is_err
returns-else-is_err c =
    let same = same_then c.clear.ensures.same c.read_lines-answer.ensures.same in
    record { same = same; read = table_into _ _ c.read_lines-answer.result (sym c.is_err.ensures.value ∙ c.if-is_err.false) c.read_lines-answer.ensures.outcome same }
