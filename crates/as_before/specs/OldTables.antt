-- Tables as they were written before 2026-04: their layouts stand first, and no line has a window.
use Rattle.std.specs.Prelude.{Bool, true, false, not, ◌||◌, ◌&&◌, List, [], ◌∷◌}
use Rattle.std.proofs.Math.Option.{Option, none, some}
use Rattle.model.specs.Lists.{any_of}
use Rattle.model.specs.Table.{Frame, layout_frame, job_frame, solo_frame, window_frame, end_frame}

-- a line that holds a layout
unfoldable pub is_layout : Option Frame → Bool
is_layout none = false
is_layout (some (layout_frame p)) = true
is_layout (some (job_frame t b)) = false
is_layout (some (solo_frame t b)) = false
is_layout (some (window_frame t b v)) = false
is_layout (some (end_frame n m)) = false

-- one layout or more, and none behind them
unfoldable pub layouts_first : List (Option Frame) → Bool
layouts_first [] = false
layouts_first (o ∷ os) = is_layout o && (layouts_first os || not (any_of is_layout os))

-- a line 05
unfoldable pub has_window : Option Frame → Bool
has_window none = false
has_window (some (layout_frame p)) = false
has_window (some (job_frame t b)) = false
has_window (some (solo_frame t b)) = false
has_window (some (window_frame t b v)) = true
has_window (some (end_frame n m)) = false
