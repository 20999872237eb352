-- A ring's state as the model has it: how many records each kept page holds.
use Rattle.std.specs.Prelude.{ℕ, ◌<◌, List, map, get_or, Option, Some, None, IfSome}
use Rattle.fl_model.specs.Ring as model
use Rattle.fl_ring.specs.Ring.{Shape, RingState, count}

-- where `count_of` tells how many records a body holds; a void page holds none
abbrev pub page_count : (List ℕ → ℕ) → Option (List ℕ) → ℕ
page_count count_of None = 0
page_count count_of (Some body) = count_of body

abbrev pub ring_counts : (List ℕ → ℕ) → RingState → model.Ring
ring_counts count_of s = record { counts = map (page_count count_of) s.kept; next = s.next; torn = s.torn; dirty = s.dirty }

abbrev pub model_shape : Shape → model.Shape
model_shape r = record { blocks = r.blocks; pages = r.per_block }

-- each committed page holds some record
abbrev pub HoldsSome : (List ℕ → ℕ) → RingState → Type 0
HoldsSome count_of s = (i : ℕ) → i < count s → IfSome (get_or s.kept i None) (λ body. 0 < count_of body)
