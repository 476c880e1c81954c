-- `frame::is_beyond_windows` meets its contract: only a frame with a window can have one that is not known.
use mathlib.Core.Path.{◌≡◌, refl}
use mathlib.Core.Bool.{false}
use native.Mathlib.Omega.{arith}
use Rattle.std.proofs.lemmas.Bool.Decides.{nat_tests}
use Rattle.model.specs.Table.{beyond_windows}
use Rattle.model.specs.Answers.{frame_case}
use Rattle.model.specs.declared.Frame.{Frame}
use Rattle.model.specs.declared.Frame.TheVariants.{Layout, Job, Solo, Windowed, End}
use Rattle.model.specs.declared.LayoutNumber.{LayoutNumber}
use Rattle.model.specs.declared.WindowNumber.{WindowNumber}
use Rattle.frame.proofs.is_beyond_windows.Goals as goal

pub returns-in-Windowed : goal.returns-in-Windowed
unfolding beyond_windows
returns-in-Windowed c = rw (c.is_known.ensures, c.in-Windowed.is) (grind (arith, nat_tests))

none_without : (f : Frame) → ((t b : LayoutNumber) (v : WindowNumber) → f ≡ Windowed t b v → ⊥) → false ≡ beyond_windows (frame_case f)
unfolding beyond_windows
none_without (Layout p) h = refl
none_without (Job t b) h = refl
none_without (Solo t b) h = refl
none_without (Windowed t b v) h = absurd (h t b v refl)
none_without (End n m) h = refl

pub returns-in_default : goal.returns-in_default
returns-in_default c = none_without _ c.in_default.not-Windowed
