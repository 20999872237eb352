-- Laws on the states of a ring.
use Rattle.std.specs.Prelude.{◌≡◌, ℕ, List}
use Rattle.fl_flash.specs.Flash.{blank}
use Rattle.fl_model.specs.Ring as model
use Rattle.fl_model.specs.Mount as mount
use Rattle.fl_ring.specs.Counts.{ring_counts, model_shape, HoldsSome}
use Rattle.fl_ring.specs.Numbers.{renumbered, IsNumbered}
use Rattle.fl_ring.specs.Ring.{Shape, RingState, IsRing, OnRing, place, fresh, begun, sealed, voided, erased}

-- what a ring's steps make of its counts is what the model's steps do
pub record StepsAreTheModels (r : Shape) (count_of : List ℕ → ℕ) (s : RingState) : Type 0 where
  pub begins : ring_counts count_of (begun s) ≡ model.begun (ring_counts count_of s)
  pub seals : (body : List ℕ) → ring_counts count_of (sealed r s body) ≡ model.sealed (model_shape r) (count_of body) (ring_counts count_of s)
  pub voids : ring_counts count_of (voided r s) ≡ model.sealed (model_shape r) 0 (ring_counts count_of s)
  pub erases : ring_counts count_of (erased s) ≡ model.erased (ring_counts count_of s)
  pub renumbers : (at_least : ℕ) → HoldsSome count_of s → ring_counts count_of (renumbered r at_least s) ≡ mount.renumbered (model_shape r) at_least (ring_counts count_of s)
  pub facts : IsRing r s → model.IsRing (model_shape r) (ring_counts count_of s)

-- a flash whose pages are blank stands for a new ring
pub record BlankIsFresh (r : Shape) (page : ℕ → List ℕ) : Type 0 where
  pub on : ((n : ℕ) → page (place r n) ≡ blank r.size) → OnRing r page fresh
  pub numbered : IsNumbered fresh
