-- `planner::plan_accepted` meets its contract: the passes are made and handed back.
use Rattle.std.proofs.Common.{refl, ◌∙◌, ◌≡◌, List, ℕ, replicate, length, subst, rules}
use Rattle.model.specs.Jobs.{Table, table_of}
use Rattle.hand_back.specs.HandBack.{Returned}
use Rattle.planner.specs.Planned.{enough}
use Rattle.planner.proofs.plan_accepted.Goals as goal

pub make_passes-totals-requires-clause-roomy : goal.make_passes-totals-requires-clause-roomy
make_passes-totals-requires-clause-roomy c = enough _ c.args.work.now c.requires.accepted.few c.requires.room.work_length

pub returns : goal.returns
returns c =
    let tb : Table = table_of c.args.table.parents.now c.args.uppers.now c.args.table.bottoms.now c.args.marks.now c.args.table.windows.now in
    let made = c.make_passes-totals.ensures.made in
    let filled : c.fill.new.self ≡ replicate (length c.make_passes-totals.new.work) 0 = search rules in
    record {
      totals = made.totals;
      returned = subst (λ (uppers : List ℕ). Returned tb c.hand_back.new.partners uppers c.hand_back.new.printed) (search rules) (c.hand_back.ensures tb (rw (c.from.ensures, c.from-2.ensures) made.plan));
      work_is = filled ∙ rw (made.kept ∙ c.requires.room.work_length) refl;
    }
