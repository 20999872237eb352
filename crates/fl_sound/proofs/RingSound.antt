-- All rules of a ring hold where a flash stands for it, its pages have the form of its bodies, and its keys ascend.
use Rattle.std.proofs.Common.{◌≡◌, ℕ, zero, suc, ◌+◌, ◌*◌, ◌<◌, ◌≤◌, nat_lt, Option, Some, None, is_some, List, [], ◌∷◌, length, map, get_or, sym, ◌∙◌, ap, subst, arith}
use Rattle.std.specs.List.{slice_get}
use Rattle.std.proofs.lemmas.Bool.{ltb-true, lt-ltb}
use Rattle.std.proofs.lemmas.Option.{none-some}
use Rattle.fl_base.specs.declared.types.Geometry.{Geometry}
use Rattle.fl_flash.specs.Flash.{FlashState, page_at}
use Rattle.fl_flash.specs.Places.{extent}
use Rattle.fl_model.specs.Ring as model
use Rattle.fl_model.proofs.Lists.{slice_get-some}
use Rattle.fl_ring.specs.Counts.{page_count}
use Rattle.fl_ring.specs.Mounting.{IsGood}
use Rattle.fl_ring.specs.Ring.{Shape, RingState, IsShape, place}
use Rattle.fl_ring.proofs.Lengths.{ring_lengths}
use Rattle.fl_rules.specs.Bodies.{HaveBodies}
use Rattle.fl_rules.specs.Marks.{kept_page}
use Rattle.fl_rules.specs.Numbering.{IsNumbered}
use Rattle.fl_rules.specs.RingRules.{KeyOrder, HaveKeys, IsRingSound}
use Rattle.fl_rules.specs.declared.numbering.Numbering.{Numbering}
use Rattle.fl_check.proofs.StandingRingHasNumbers.{good_numbering}
use Rattle.fl_check.proofs.GoodStates.{good_rest}
use Rattle.fl_check.proofs.RingReads.{Reads}
use Rattle.fl_sound.proofs.RingReads.{IsOf, reads}

-- where each body has a count, the counts tell which pages have one
pub counts-some : (count_of : List ℕ → ℕ) → ((body : List ℕ) → 0 < count_of body) → (kept : List (Option (List ℕ))) (i c : ℕ) → slice_get (map (page_count count_of) kept) i ≡ Some c
    → is_some (get_or kept i None) ≡ nat_lt 0 c
counts-some count_of some [] i c e = absurd (none-some c e)
counts-some count_of some (None ∷ kept) zero c e = ap (nat_lt 0) (same e)
  where
    same : ◌≡◌ {A = Option ℕ} (Some 0) (Some c) → 0 ≡ c
    same k = cc
counts-some count_of some (Some body ∷ kept) zero c e = sym (lt-ltb 0 (count_of body) (some body)) ∙ ap (nat_lt 0) (same e)
  where
    same : ◌≡◌ {A = Option ℕ} (Some (count_of body)) (Some c) → count_of body ≡ c
    same k = cc
counts-some count_of some (x ∷ kept) (suc i) c e = counts-some count_of some kept i c e

-- the pages of a ring on a flash have their size
pub sizes : (f : FlashState) (g : Geometry) (first blocks : ℕ) → f.start + extent f.geometry f.blocks ≤ length f.media.content → g ≡ f.geometry → first + blocks ≤ f.blocks → 1 ≤ blocks → 1 ≤ g.block
    → (n : ℕ) → length (page_at f (place (record { first = first * g.block; blocks = blocks; per_block = g.block; size = g.page }) n)) ≡ g.page
sizes f g first blocks reaches geometry within some block = ring_lengths f g first blocks reaches (sym geometry) within some block

-- a ring of which all rules hold, and what a check reads of it
pub record SoundRing (Form : ℕ → List ℕ → Type 0) (order : KeyOrder) (page : ℕ → List ℕ) (r : Shape) (at_least : ℕ) (ring : model.Ring) : Type 0 where
  pub n : Numbering
  pub reads : Reads page r at_least ring n
  pub sound : IsRingSound Form order page r at_least n

-- each page with a count has the form of a page with its number
abbrev pub AreFormed : (ℕ → List ℕ → Type 0) → (ℕ → List ℕ) → Shape → model.Ring → Type 0
AreFormed Form page r ring = (i c : ℕ) → slice_get ring.counts i ≡ Some c → 0 < c → Form (model.oldest ring + i) (page (place r (model.oldest ring + i)))

module _ (f : FlashState) (r : Shape) (at_least : ℕ) (s : RingState) (shape : IsShape r) (good : IsGood f r at_least s) (ring : model.Ring) (same : IsOf s ring) where
  -- so each committed page has it
  pub formed-bodies : (Form : ℕ → List ℕ → Type 0) → AreFormed Form (page_at f) r ring → (n : Numbering) → Reads (page_at f) r at_least ring n → HaveBodies Form (page_at f) r n
  formed-bodies Form forms n told i lt number counted committed =
      let c = slice_get-some ring.counts i (omega (arith, lt, told.kept)) in
      let some = ltb-true 0 c.0 (sym (told.committed i c.0 c.1) ∙ committed) in
      let next = told.next i c.0 c.1 some in
      let own : model.oldest ring + i ≡ number = omega (arith, lt, told.kept, next, same.next, same.count, good.on.ring.not_negative, counted) in
      subst (λ (k : ℕ). Form k (page_at f (kept_page r n.marks i))) own
      (subst (Form (model.oldest ring + i)) (sym (told.at i (omega (arith, lt, told.kept)))) (forms i c.0 c.1 some))

  module _ (Form : ℕ → List ℕ → Type 0) (order : KeyOrder) (forms : AreFormed Form (page_at f) r ring) (keys : (n : Numbering) → Reads (page_at f) r at_least ring n → HaveKeys order (page_at f) r n) where
    with-numbers : (n : Numbering) → IsNumbered (page_at f) r at_least n.marks n.next → SoundRing Form order (page_at f) r at_least ring
    with-numbers n numbered =
        let told = reads f r at_least s shape good ring same n numbered in
        record {
          n = n;
          reads = told;
          sound = record {
            formed = record { numbered = numbered; bodies = formed-bodies Form forms n told };
            keys = keys n told;
            rest = good_rest r s shape (page_at f) good.on n.marks numbered.marks;
          };
        }

    pub sound-ring : SoundRing Form order (page_at f) r at_least ring
    sound-ring = let h = good_numbering f r at_least s shape good in with-numbers (record { marks = h.m; next = h.next }) h.is
