-- The first k passes are handed back, whatever table the plan is of.
use Rattle.model.specs.Jobs.{Table}
use Rattle.passes.specs.PlanPass.{Plan}
use Rattle.hand_back.specs.HandBack.{HandedBack}
use Rattle.hand_back.proofs.hand_back.Given as goal

abbrev pub invariant-loop-k : goal.invariant-loop-k
invariant-loop-k l = (tb : Table) → Plan tb l.parents l.tree l.initial.uppers l.bottoms l.work l.count → HandedBack tb l.k l.partners l.uppers l.printed
