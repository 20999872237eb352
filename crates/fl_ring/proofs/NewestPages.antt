-- The newest committed page of a ring, as a search finds it and as the repairs leave it, over any bytes.
use Rattle.std.proofs.Common.{◌≡◌, ℕ, ◌+◌, ◌-◌, ◌*◌, ◌%◌, ◌<◌, ◌≤◌, Bool, true, false, ◌&&◌, nat_le, cond, IsTrue, Option, Some, None, IfSome, IsSomeAnd, MatchOption, List, take, length, Ok, inl, inr, refl, sym, ◌∙◌, ap, subst, arith}
use Rattle.std.proofs.lemmas.Bool.{cases_lt, cases_Bool, cond-true, cond-false, leb-true, leb-false}
use Rattle.fl_base.specs.declared.types.Geometry.{Geometry}
use Rattle.fl_flash.specs.Flash.{FlashState, page_at, pages, Erased}
use Rattle.fl_mark.specs.Mark.{state_of_page}
use Rattle.fl_ring.specs.declared.newest.Newest.{Newest}
use Rattle.fl_ring.specs.declared.newest.NewestPage.{NewestPage}
use Rattle.fl_ring.specs.declared.ring.Ring.{Ring}
use Rattle.fl_ring.specs.Finding.{full_of, kept_at, IsFound}
use Rattle.fl_ring.specs.Head.{one, fulls}
use Rattle.fl_frame.specs.Reads.{OnlyReads}
use Rattle.fl_ring.specs.Mounting.{HasNumbers}
use Rattle.fl_ring.specs.Newest.{commits, page_back, NoneBefore, IsNewest, NoneCommitted, NewestAmong}
use Rattle.fl_ring.specs.Numbers.{next_by}
use Rattle.fl_ring.specs.Repairing.{VoidsNext, CleansAhead}
use Rattle.fl_ring.specs.Ring.{Shape, place, room, IsShape, is_due_at}
use Rattle.fl_ring.proofs.Clean.{places_apart, ahead_place, outside}
use Rattle.fl_ring.proofs.CutPages.{Reaches}
use Rattle.fl_ring.proofs.Facts.{due_false, sizes, two_blocks}
use Rattle.fl_ring.proofs.Founds.{same_pages}
use Rattle.fl_ring.proofs.Heads.{one_le}
use Rattle.fl_ring.proofs.Lengths.{page_length}
use Rattle.fl_ring.proofs.Modulo.{rest_back, mod_next}
use Rattle.fl_ring.proofs.TornPages.{kept_most, kept_ahead, kept_few, next_sealed, torn_there}
use Rattle.fl_ring.proofs.VoidBytes.{void_programmed}

-- the bytes of the page that was found last
abbrev pub Shows : (List ℕ) → Option Newest → Option NewestPage → Type 0
Shows bytes newest shown = MatchOption newest (shown ≡ None) (λ n. IsSomeAnd shown (λ p. (p.number ≡ n.number) × (p.header ≡ take 16 bytes)))

-- what a search finds among the numbers of the kept pages
module _ (page : ℕ → List ℕ) (r : Shape) (at kept oldest next : ℕ) (place_is : next % room r ≡ at) (few : kept < room r) (kept_is : oldest + kept ≡ next) where
  -- a kept page, so many before the next one
  back_place : (n : ℕ) → oldest ≤ n → n < next → page (place r n) ≡ page (page_back r at (next - n))
  back_place n from below =
      let k = next - n in
      let e : next - k ≡ n = omega (arith, below) in
      ap (λ (i : ℕ). page (r.first + i)) (ap (λ (i : ℕ). i % room r) (sym e) ∙ sym (rest_back (room r) next k (omega arith) (omega (arith, from, few, kept_is))) ∙ ap (λ (i : ℕ). (i + room r - k) % room r) place_is)

  none_after : (from end : ℕ) → oldest ≤ from → next < from + end → NoneBefore page r at end → NoneCommitted page r from next
  none_after from end low near none n above below =
      ap (λ (l : List ℕ). commits (state_of_page l)) (back_place n (omega (arith, low, above)) below) ∙ none (next - n) (omega (arith, below)) (omega (arith, above, below, near))

  pub newest_among : (bytes : List ℕ) (newest : Option Newest) (shown : Option NewestPage) → MatchOption newest (NoneBefore page r at (kept + 1)) (IsNewest page r at kept)
      → IfSome newest (λ n. n.number + n.back ≡ next) → IfSome newest (λ n. bytes ≡ page (page_back r at n.back)) → Shows bytes newest shown → NewestAmong page r oldest next shown
  newest_among bytes None shown is numbered held shows =
      subst (λ (o : Option NewestPage). NewestAmong page r oldest next o) (sym shows) (none_after oldest (kept + 1) (omega arith) (omega (arith, kept_is)) is)
  newest_among bytes (Some n) None is numbered held shows = absurd shows
  newest_among bytes (Some n) (Some p) is numbered held shows =
      let number : p.number ≡ n.number = shows.0 in
      let back : next - p.number ≡ n.back = omega (arith, number, numbered) in
      let low : oldest ≤ p.number = omega (arith, number, numbered, is.within, kept_is) in
      let high : p.number < next = omega (arith, number, numbered, is.some) in
      let here : page (place r p.number) ≡ page (page_back r at n.back) = back_place p.number low high ∙ ap (λ (k : ℕ). page (page_back r at k)) back in
      record {
        within = (low, high);
        committed = ap (λ (l : List ℕ). commits (state_of_page l)) here ∙ is.committed;
        later = none_after (p.number + 1) n.back (omega (arith, low)) (omega (arith, number, numbered)) is.others;
        header = shows.1 ∙ ap (λ (l : List ℕ). take 16 l) (held ∙ sym here);
      }

-- the number of the page that was found gives the next one
pub numbered_by : (r : Shape) (at kept at_least next : ℕ) (newest : Option Newest) → next ≡ next_by r at kept at_least newest → IfSome newest (λ n. n.number + n.back ≡ next)
numbered_by r at kept at_least next None e = tt
numbered_by r at kept at_least next (Some n) e = sym e

-- it stands in the buffer
pub held_for : (f g : FlashState) (n : ℕ) (r : Shape) (at at' : ℕ) (bytes bytes' : List ℕ) (newest : Option Newest) → OnlyReads f n g → at ≡ at' → bytes ≡ bytes'
    → IfSome newest (λ x. bytes' ≡ page_at g (page_back r at x.back)) → IfSome newest (λ x. bytes ≡ page_at f (page_back r at' x.back))
held_for f g n r at at' bytes bytes' newest reads place same held =
    subst (λ (l : List ℕ). IfSome newest (λ x. l ≡ page_at f (page_back r at' x.back))) (sym same)
    (subst (λ (k : ℕ). IfSome newest (λ x. bytes' ≡ page_at f (page_back r k x.back))) place
    (subst (λ (pg : ℕ → List ℕ). IfSome newest (λ x. bytes' ≡ pg (page_back r at x.back))) (same_pages f g n reads) held))

-- the oldest page stays, or its block goes
oldest_later : (f new : FlashState) (r : Shape) (at_least : ℕ) (ring : Ring) (h : HasNumbers f r at_least ring new) → h.numbers.oldest ≤ ring.oldest
oldest_later f new r at_least ring h = subst (λ (n : ℕ). h.numbers.oldest ≤ n) (sym h.oldest) (oldest_by (h.numbers.torn && is_due_at r ring.next (ring.next - h.numbers.oldest)))
  where
    oldest_by : (b : Bool) → h.numbers.oldest ≤ cond b (h.numbers.oldest + r.per_block) h.numbers.oldest
    oldest_by true = omega arith
    oldest_by false = omega arith

-- a ring is found to keep no more pages than it has
pub ring_few : (f new : FlashState) (r : Shape) (at_least : ℕ) (ring : Ring) → 1 ≤ r.blocks → HasNumbers f r at_least ring new → IsTrue f.media.tells → ring.next - ring.oldest ≤ room r
ring_few f new r at_least ring some h told =
    let few = kept_few f r at_least (omega (arith, some)) h.numbers (h.is_found told) in
    let next = h.next in
    let more = one_le h.numbers.torn in
    let low = oldest_later f new r at_least ring h in
    omega (arith, few, next, more, low, (h.is_found told).oldest)

-- the repairs of a ring that was found
module _ (f new : FlashState) (r : Shape) (at_least : ℕ) (ring : Ring) (shape : IsShape r) (told : IsTrue f.media.tells) (block : f.geometry.block ≡ r.per_block) (h : HasNumbers f r at_least ring new) where
  abbrev found : IsFound f r at_least h.numbers
  found = h.is_found told

  abbrev next : ℕ
  next = h.numbers.next

  abbrev after : ℕ
  after = next + one h.numbers.torn

  some : 0 < r.blocks
  some = omega (arith, shape.blocks)

  few : kept_at f r found.front < room r
  few = kept_few f r at_least some h.numbers found

  most : kept_at f r found.front ≤ (r.blocks - 1) * r.per_block + next % r.per_block
  most = omega (arith, kept_most r (fulls (full_of f r) r.blocks) found.front.sealed, next_sealed f r at_least some h.numbers found)

  older : h.numbers.oldest ≤ ring.oldest
  older = oldest_later f new r at_least ring h

  -- the block ahead holds no page that is kept then
  ahead_fits : after % r.per_block ≡ r.per_block - 1 → after ≤ ring.oldest + ((r.blocks - 1) * r.per_block - 1)
  ahead_fits last = by_torn h.numbers.torn refl
    where
      by_torn : (b : Bool) → h.numbers.torn ≡ b → after ≤ ring.oldest + ((r.blocks - 1) * r.per_block - 1)
      by_torn false whole =
          let same : after ≡ next = omega (arith, ap one whole) in
          let sealed : found.front.sealed ≡ r.per_block - 1 = sym (next_sealed f r at_least some h.numbers found) ∙ ap (λ (n : ℕ). n % r.per_block) (sym same) ∙ last in
          omega (arith, same, older, found.oldest, kept_ahead r (fulls (full_of f r) r.blocks) found.front.sealed (omega (arith, shape.blocks)) (omega (arith, shape.per_block)) sealed)
      by_torn true torn =
          let same : after ≡ next + 1 = omega (arith, ap one torn) in
          let at : (next + 1) % r.per_block ≡ r.per_block - 1 = ap (λ (n : ℕ). n % r.per_block) (sym same) ∙ last in
          let is_next : ring.next ≡ next + 1 = h.next ∙ same in
          let oldest : ring.oldest ≡ cond (is_due_at r (next + 1) (next + 1 - h.numbers.oldest)) (h.numbers.oldest + r.per_block) h.numbers.oldest =
          h.oldest ∙ ap (λ (b : Bool). cond (b && is_due_at r ring.next (ring.next - h.numbers.oldest)) (h.numbers.oldest + r.per_block) h.numbers.oldest) torn
          ∙ ap (λ (n : ℕ). cond (is_due_at r n (n - h.numbers.oldest)) (h.numbers.oldest + r.per_block) h.numbers.oldest) is_next in
          elim (cases_Bool (is_due_at r (next + 1) (next + 1 - h.numbers.oldest))) [
            | inl due ↦
                let goes : ring.oldest ≡ h.numbers.oldest + r.per_block = oldest ∙ cond-true (is_due_at r (next + 1) (next + 1 - h.numbers.oldest)) (h.numbers.oldest + r.per_block) h.numbers.oldest due in
                let inside : next % r.per_block + 1 ≡ r.per_block - 1 = elim (mod_next r.per_block next (omega (arith, shape.per_block))) [
                  | inl end ↦ absurd (let none = end.0 in let never : ⊥ = omega (arith, none, at, shape.per_block) in never)
                  | inr in_it ↦ sym in_it.0 ∙ at
                ] in
                omega (arith, same, goes, found.oldest, most, inside, two_blocks r shape, shape.per_block)
            | inr not_due ↦
                let stays : ring.oldest ≡ h.numbers.oldest = oldest ∙ cond-false (is_due_at r (next + 1) (next + 1 - h.numbers.oldest)) (h.numbers.oldest + r.per_block) h.numbers.oldest not_due in
                let small = due_false r (next + 1) (next + 1 - h.numbers.oldest) not_due at in
                omega (arith, same, stays, small, found.oldest)
          ]

  abbrev voided : FlashState
  voided = h.repairs.voided

  told_found : IsTrue h.found.media.tells
  told_found = subst IsTrue (sym h.looks.goes.tells) told

  -- the void mark
  by_void : (torn : Bool) → VoidsNext r next torn h.found voided → (n : ℕ) → (place r n ≡ place r next → ⊥) → page_at voided (place r n) ≡ page_at h.found (place r n)
  by_void true voids n other = (voids.ok told_found).others (place r n) other
  by_void false voids n other = ap (λ (x : FlashState). page_at x (place r n)) voids

  void_goes : (torn : Bool) → VoidsNext r next torn h.found voided → (voided.geometry ≡ h.found.geometry) × (voided.media.tells ≡ h.found.media.tells)
  void_goes true voids = (voids.goes.geometry, voids.goes.tells)
  void_goes false voids = (ap (λ (x : FlashState). x.geometry) voids, ap (λ (x : FlashState). x.media.tells) voids)

  -- the erase of the block ahead
  by_clean : CleansAhead r after voided (Ok tt) new → (n : ℕ) → ring.oldest ≤ n → n < after → page_at new (place r n) ≡ page_at voided (place r n)
  by_clean (inl leaves) n from below = ap (λ (pg : ℕ → List ℕ). pg (place r n)) (same_pages voided new r.per_block leaves.looks)
  by_clean (inr erases) n from below =
      let seen = erases.seen in
      let goes = void_goes h.numbers.torn h.repairs.voids in
      let told_seen : IsTrue seen.media.tells = subst IsTrue (sym (erases.looks.goes.tells ∙ goes.1)) told_found in
      let size : seen.geometry.block ≡ r.per_block = ap (λ (g : Geometry). g.block) (erases.looks.goes.geometry ∙ goes.0 ∙ h.looks.goes.geometry) ∙ block in
      let gone = subst (λ (b : ℕ). Erased (page_at seen) (erases.block * b) b seen.geometry.page (page_at new)) size (erases.erases.ok told_seen) in
      let last : after % r.per_block + 1 ≡ r.per_block = omega (arith, erases.last, shape.per_block) in
      let fits = ahead_fits erases.last in
      outside (page_at seen) (page_at new) (erases.block * r.per_block) r.per_block seen.geometry.page (place r n) gone
      (λ k lt is. places_apart r n (after + 1 + k) (omega (arith, below)) (omega (arith, fits, from, lt, sizes r shape, two_blocks r shape, shape.per_block))
      (is ∙ ap (λ (a : ℕ). a + k) erases.at ∙ sym (ahead_place r after k shape last lt)))
      ∙ ap (λ (pg : ℕ → List ℕ). pg (place r n)) (same_pages voided seen r.per_block erases.looks)

  -- a page that is kept has its bytes
  pub kept_stands : (n : ℕ) → ring.oldest ≤ n → n < next → page_at new (place r n) ≡ page_at f (place r n)
  kept_stands n from below =
      by_clean h.repairs.cleans n from (omega (arith, below))
      ∙ by_void h.numbers.torn h.repairs.voids n (λ is. places_apart r n next below (omega (arith, older, from, found.oldest, few)) is)
      ∙ ap (λ (pg : ℕ → List ℕ). pg (place r n)) (same_pages f h.found _ h.looks)

  module _ (size : f.geometry.page ≡ r.size) (reach : Reaches f) (exists : place r next < pages f) where
    -- the torn one isn't committed
    void_now : h.numbers.torn ≡ true → ring.oldest ≤ next → commits (state_of_page (page_at new (place r next))) ≡ false
    void_now torn from =
        let voids = subst (λ (b : Bool). VoidsNext r next b h.found voided) torn h.repairs.voids in
        let was : page_at h.found (place r next) ≡ page_at f (place r next) = ap (λ (pg : ℕ → List ℕ). pg (place r next)) (same_pages f h.found _ h.looks) in
        let long : length (page_at h.found (place r next)) ≡ r.size = ap length was ∙ page_length f (place r next) reach exists ∙ size in
        let is_torn = ap state_of_page was ∙ torn_there f r at_least some h.numbers found torn in
        ap (λ (l : List ℕ). commits (state_of_page l)) (by_clean h.repairs.cleans next from (omega (arith, ap one torn)) ∙ (voids.ok told_found).here)
        ∙ ap commits (void_programmed (page_at h.found (place r next)) r.size long (omega (arith, shape.size)) is_torn)

    none_now : (from : ℕ) → ring.oldest ≤ from → NoneCommitted (page_at f) r from next → NoneCommitted (page_at new) r from ring.next
    none_now from low none n above below = elim (cases_lt n next) [
      | inl before ↦ ap (λ (l : List ℕ). commits (state_of_page l)) (kept_stands n (omega (arith, low, above)) before) ∙ none n above before
      | inr late ↦ elim (cases_Bool h.numbers.torn) [
        | inl torn ↦
            let same : n ≡ next = omega (arith, late, below, h.next, ap one torn) in
            ap (λ (k : ℕ). commits (state_of_page (page_at new (place r k)))) same ∙ void_now torn (omega (arith, same, low, above))
        | inr whole ↦ absurd (let never : ⊥ = omega (arith, late, below, h.next, ap one whole) in never)
      ]
    ]

    -- the newest committed page, where it is still kept
    pub newest_kept : (newest kept : Option NewestPage) → MatchOption newest (kept ≡ None) (λ n. kept ≡ cond (nat_le ring.oldest n.number) (Some n) None)
        → NewestAmong (page_at f) r h.numbers.oldest next newest → NewestAmong (page_at new) r ring.oldest ring.next kept
    newest_kept None kept is among = subst (NewestAmong (page_at new) r ring.oldest ring.next) (sym is) (none_now ring.oldest (omega arith) (λ n above below. among n (omega (arith, older, above)) below))
    newest_kept (Some x) kept is among = elim (cases_Bool (nat_le ring.oldest x.number)) [
      | inl still ↦
          let low : ring.oldest ≤ x.number = leb-true ring.oldest x.number still in
          let high = among.within.1 in
          let here = kept_stands x.number low high in
          let up : next ≤ ring.next = omega (arith, h.next) in
          subst (NewestAmong (page_at new) r ring.oldest ring.next) (sym (is ∙ cond-true (nat_le ring.oldest x.number) (Some x) None still)) (record {
            within = (low, omega (arith, high, up));
            committed = ap (λ (l : List ℕ). commits (state_of_page l)) here ∙ among.committed;
            later = none_now (x.number + 1) (omega (arith, low)) among.later;
            header = among.header ∙ ap (λ (l : List ℕ). take 16 l) (sym here);
          })
      | inr gone ↦
          let above : x.number < ring.oldest = leb-false ring.oldest x.number gone in
          subst (NewestAmong (page_at new) r ring.oldest ring.next) (sym (is ∙ cond-false (nat_le ring.oldest x.number) (Some x) None gone))
          (none_now ring.oldest (omega arith) (λ n low high. among.later n (omega (arith, above, low)) high))
    ]
