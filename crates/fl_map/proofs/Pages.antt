-- The pages of a ring, one after another.
use Rattle.std.proofs.Common.{◌≡◌, ℕ, suc, ◌+◌, ◌<◌, Option, List, [], ◌∷◌, ◌++◌, refl, arith}
use Rattle.std.proofs.Math.Nat.{add-mul}
use Rattle.fl_flash.specs.Flash.{FlashState, pages}
use Rattle.fl_mark.specs.Mark.{state_of_page}
use Rattle.fl_ring.specs.declared.ring.Ring.{Ring}
use Rattle.fl_frame.specs.Reads.{OnlyReads}
use Rattle.fl_ring.specs.Place.{shape_of, LiesOn}
use Rattle.fl_ring.specs.Ring.{room}
use Rattle.fl_ring.proofs.Exists.{page_exists}
use Rattle.fl_map.specs.Pages.{states_to, figures_to, with_page}

pub states_next : (page : ℕ → List ℕ) (first n : ℕ) → states_to page first (n + 1) ≡ states_to page first n ++ state_of_page (page (first + n)) ∷ []
states_next page first n = let e : n + 1 ≡ suc n = omega arith in rw e refl

pub figures_next : (row_len : Option ℕ) (page : ℕ → List ℕ) (first n : ℕ) → figures_to row_len page first (n + 1) ≡ with_page row_len (page (first + n)) (figures_to row_len page first n)
figures_next row_len page first n = let e : n + 1 ≡ suc n = omega arith in rw e refl

-- a page of the ring is a page of the flash
pub is_there : (ring : Ring) (f g : FlashState) (n i : ℕ) → LiesOn ring f → OnlyReads f n g → i < room (shape_of ring) → (shape_of ring).first + i < pages g
is_there ring f g n i lies reads lt =
    let end = add-mul ring.first_block ring.blocks ring.per_block in
    page_exists ring f g n ((shape_of ring).first + i) lies reads (omega (arith, lt, end))
