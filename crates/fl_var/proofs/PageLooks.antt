-- What a look at a page of variable data leaves, and what it tells: of the page in memory, and of one that was read.
use Rattle.std.proofs.Common.{◌≡◌, ℕ, ◌+◌, ◌<◌, ◌≤◌, Bool, cond, Some, List, length, drop, inl, inr, sym, ◌∙◌, ap, subst, arith, pos_of_ne-zero}
use Rattle.std.proofs.lemmas.Bool.{cases_lt, eq-eqb, ne_eqb}
use Rattle.std.proofs.lemmas.List.{length-drop}
use Rattle.fl_flash.specs.Flash.{FlashState, Goes, page_at}
use Rattle.fl_frame.proofs.CallsInTurn.{few-goes}
use Rattle.fl_page.specs.Header.{page_count}
use Rattle.fl_ring.specs.Place.{shape_of}
use Rattle.fl_ring.specs.Ring.{Shape, place}
use Rattle.fl_ring.specs.declared.ring.Ring.{Ring}
use Rattle.fl_ring.proofs.Exists.{lies_still}
use Rattle.fl_var.specs.Content.{HasContent}
use Rattle.fl_var.specs.Memory.{next_in, waiting_in, room_in, page_in, image_in, present, LiesOn}
use Rattle.fl_var.specs.declared.var_data.VarData.{VarData}
use Rattle.fl_var.proofs.PageImages.{image-other, waiting-room}

-- what is read lies where it lay
pub lies-later : (v : VarData) (f h : FlashState) → LiesOn v f → Goes f h → LiesOn v h
lies-later v f h lies goes = record {
  geometry = goes.geometry ∙ lies.geometry;
  within = subst (λ n. v.place.first_block + v.place.blocks ≤ n) (sym goes.blocks) lies.within;
  few = few-goes f h goes lies.few;
  ring = λ r has. lies_still r f h (lies.ring r has) goes;
}

-- a page that isn't the next one stands before it
pub before-next : (n next : ℕ) → n ≤ next → (n ≡ next → ⊥) → n < next
before-next n next le other = elim (cases_lt n next) [
  | inl lt ↦ lt
  | inr ge ↦ absurd (other (omega (arith, le, ge)))
]

-- .. so that it isn't behind it
pub not-behind : (n next : ℕ) → n ≤ next → (n ≡ next → ⊥) → next ≤ n → ⊥
not-behind n next le other ge = other (omega (arith, le, ge))

pub no-less : (n next : ℕ) → n ≡ next → n < next → ⊥
no-less n next is lt = omega (arith, is, lt)

-- what is present of the page in memory, and of another
pub present-next : (v : VarData) (number : ℕ) (bytes : List ℕ) → number ≡ next_in v → present v number bytes ≡ waiting_in v
present-next v number bytes is = ap (λ (b : Bool). cond b (waiting_in v) (drop 8 bytes)) (eq-eqb number (next_in v) is)

pub present-other : (v : VarData) (number : ℕ) (bytes : List ℕ) → (number ≡ next_in v → ⊥) → present v number bytes ≡ drop 8 bytes
present-other v number bytes other = ap (λ (b : Bool). cond b (waiting_in v) (drop 8 bytes)) (ne_eqb number (next_in v) other)

-- all bytes that wait are there
pub next-within : (v : VarData) (number n : ℕ) (bytes : List ℕ) → number ≡ next_in v → n ≡ length (waiting_in v) → (n ≡ 0 → ⊥) → (1 ≤ n) × (n ≤ length (present v number bytes)) × (n ≤ room_in v)
next-within v number n bytes is size some = (
  pos_of_ne-zero some,
  subst (λ (l : List ℕ). n ≤ length l) (sym (present-next v number bytes is)) (omega (arith, size)),
  omega (arith, size, waiting-room v),
)

-- .. and the content of a page that was read
pub page-within : (v : VarData) (number n : ℕ) (bytes : List ℕ) → (number ≡ next_in v → ⊥) → length bytes ≡ v.geometry.page → HasContent number bytes → n ≡ page_count bytes → (1 ≤ n) × (n ≤ length (present v number bytes)) × (n ≤ room_in v)
page-within v number n bytes other size has count = (
  omega (arith, has.some, count),
  subst (λ (l : List ℕ). n ≤ length l) (sym (present-other v number bytes other)) (omega (arith, has.some, has.room, count, length-drop 8 bytes)),
  omega (arith, has.room, count, size),
)

-- a page has room for its header and its marks
pub page-sized : (v : VarData) (bytes : List ℕ) → length bytes ≡ v.geometry.page → 24 ≤ length bytes
page-sized v bytes size = omega (arith, size, v.served.page_least)

pub page-headed : (v : VarData) (bytes : List ℕ) → length bytes ≡ v.geometry.page → 16 ≤ length bytes
page-headed v bytes size = omega (arith, size, v.served.page_least)

-- the bytes that were read are those of the page
module _ (v : VarData) (f : FlashState) (number : ℕ) (ring : Ring) (ring_is : v.ring ≡ Some ring) (q : ℕ) (at : q ≡ place (shape_of ring) number) (bytes : List ℕ) (got : bytes ≡ page_at f q) where
  pub bytes-page : bytes ≡ page_in v f number
  bytes-page = got ∙ ap (page_at f) (at ∙ ap (λ (s : Shape). place s number) (v.lies ring ring_is))

  pub bytes-image : (number ≡ next_in v → ⊥) → bytes ≡ image_in v f number
  bytes-image other = bytes-page ∙ sym (image-other v f number other)
