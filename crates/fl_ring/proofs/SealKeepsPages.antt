-- The pages that a seal keeps have the bytes that they had.
use Rattle.std.proofs.Common.{◌≡◌, ℕ, ◌+◌, ◌-◌, ◌*◌, ◌≤◌, ◌<◌, Bool, true, false, if◌then◌else◌, IsTrue, List, [], ◌∷◌, ◌++◌, length, drop, Option, Some, Result, Ok, Err, OnOk, inl, inr, refl, sym, ◌∙◌, ap, subst, arith, replicate, length-append, length-drop}
use Rattle.std.proofs.lemmas.Bool.{cases_Bool}
use Rattle.std.proofs.lemmas.List.{length-map}
use Rattle.fl_flash.specs.Flash.{FlashState, page_at, programmed, Erased}
use Rattle.fl_flash.specs.declared.flash.FlashFault.{FlashFault}
use Rattle.fl_ring.specs.declared.ring.Ring.{Ring}
use Rattle.fl_ring.specs.Counts.{page_count, ring_counts}
use Rattle.fl_ring.specs.Kept.{PagesStand}
use Rattle.fl_ring.specs.Place.{shape_of, LiesOn}
use Rattle.fl_ring.specs.Repairing.{ahead_first}
use Rattle.fl_ring.specs.Ring.{Shape, RingState, IsShape, IsRing, count, oldest, place, is_due_at, is_due, appended, sealed, erased}
use Rattle.fl_ring.specs.Sealing.{IsReady, ErasesWhere, SealsLast, SealCalls}
use Rattle.fl_ring.specs.Written.{sealed_over}
use Rattle.fl_ring.proofs.NumbersAfterSeal.{due_as}
use Rattle.fl_ring.proofs.Clean.{places_apart, ahead_place, outside}
use Rattle.fl_ring.proofs.Facts.{Due, due_true, due_count, two_blocks, sizes, room_left}

module _ (r : Shape) (s : RingState) (body : List ℕ) (shape : IsShape r) (ring : IsRing r s) where
  abbrev longer : List (Option (List ℕ))
  longer = s.kept ++ Some body ∷ []

  -- the oldest number after it
  abbrev oldest_by : Bool → ℕ
  oldest_by due = oldest (if due then record (appended s (Some body)) { kept = drop r.per_block longer; dirty = true } else appended s (Some body))

  stays : is_due r (appended s (Some body)) ≡ false → oldest (sealed r s body) ≡ oldest s
  stays e = let at : oldest_by false ≡ oldest s = omega (arith, length-append s.kept (Some body ∷ [])) in ap oldest_by e ∙ at

  due_of : is_due r (appended s (Some body)) ≡ true → Due r (s.next + 1) (count s + 1)
  due_of e = subst (Due r (s.next + 1)) (length-append s.kept (Some body ∷ [])) (due_true r (s.next + 1) (length longer) shape e)

  goes : is_due r (appended s (Some body)) ≡ true → oldest (sealed r s body) ≡ oldest s + r.per_block
  goes e =
      let at : oldest_by true ≡ oldest s + r.per_block =
      omega (arith, length-append s.kept (Some body ∷ []), length-drop r.per_block longer, due_count r s shape ring (due_of e), two_blocks r shape, sizes r shape, ring.not_negative) in
      ap oldest_by e ∙ at

  pub oldest_later : oldest s ≤ oldest (sealed r s body)
  oldest_later = elim (cases_Bool (is_due r (appended s (Some body)))) [ inl e ↦ omega (arith, goes e) | inr e ↦ omega (arith, stays e) ]

  -- a kept page isn't the next one
  pub not_next : (n : ℕ) → oldest (sealed r s body) ≤ n → n < s.next → place r n ≡ place r s.next → ⊥
  not_next n from below = places_apart r n s.next below (omega (arith, oldest_later, room_left r s shape ring, ring.not_negative))

  -- nor does it stand in the block ahead where that is erased
  pub not_ahead : is_due r (appended s (Some body)) ≡ true → (n : ℕ) → oldest (sealed r s body) ≤ n → n < s.next → (k : ℕ) → k < r.per_block → place r n ≡ ahead_first r (s.next + 1) + k → ⊥
  not_ahead e n from below k lt is =
      let due = due_of e in
      places_apart r n (s.next + 1 + 1 + k) (omega arith) (omega (arith, goes e, due_count r s shape ring due, ring.not_negative)) (is ∙ sym (ahead_place r (s.next + 1) k shape due.last lt))

-- the erase leaves a page that isn't in the block ahead
erase_leaves : (r : Shape) (next : ℕ) (due : Bool) (marked new : FlashState) (q : ℕ) → ErasesWhere r next due marked (Ok tt) new → IsTrue marked.media.tells → marked.geometry.block ≡ r.per_block
    → (due ≡ true → (k : ℕ) → k < r.per_block → q ≡ ahead_first r (next + 1) + k → ⊥) → page_at new q ≡ page_at marked q
erase_leaves r next false marked new q ends told block clear = ap (λ (x : FlashState). page_at x q) ends.1
erase_leaves r next true marked new q ends told block clear =
    let gone = subst (λ (b : ℕ). Erased (page_at marked) (ends.block * b) b marked.geometry.page (page_at new)) block (ends.erases.ok told) in
    outside (page_at marked) (page_at new) (ends.block * r.per_block) r.per_block marked.geometry.page q gone (λ k lt is. clear refl k lt (is ∙ ap (λ (a : ℕ). a + k) ends.at))

-- the page that is sealed isn't in the block ahead
next_apart : (r : Shape) (next kept : ℕ) → IsShape r → is_due_at r (next + 1) kept ≡ true → (k : ℕ) → k < r.per_block → place r next ≡ ahead_first r (next + 1) + k → ⊥
next_apart r next kept shape e k lt is =
    let due = due_true r (next + 1) kept shape e in
    places_apart r next (next + 1 + 1 + k) (omega arith) (omega (arith, lt, two_blocks r shape, sizes r shape, shape.per_block)) (is ∙ sym (ahead_place r (next + 1) k shape due.last lt))

module _ (ring : Ring) (body : List ℕ) (old new : FlashState) (lies : LiesOn ring old) where
  abbrev due : Bool
  due = is_due_at (shape_of ring) (ring.next + 1) (ring.next + 1 - ring.oldest)

  all_keep : SealsLast (shape_of ring) ring.next due body old (Ok tt) new → IsTrue old.media.tells → (s : RingState) → IsReady ring old s → (n : ℕ) → oldest (sealed (shape_of ring) s body) ≤ n → n < s.next
      → page_at new (place (shape_of ring) n) ≡ page_at old (place (shape_of ring) n)
  all_keep last told s ready n from below =
      let r = shape_of ring in
      let told_then = subst IsTrue (sym last.body_first.goes.tells) told in
      let told_later = subst IsTrue (sym last.mark_then.goes.tells) told_then in
      let block : last.marked.geometry.block ≡ ring.per_block = ap (λ g. g.block) (last.mark_then.goes.geometry ∙ last.body_first.goes.geometry) ∙ lies.block in
      let other : place r n ≡ place r ring.next → ⊥ = λ same. not_next r s body ring.served ready.on.ring n from below (same ∙ ap (place r) ready.stands.next) in
      erase_leaves r ring.next due last.marked new (place r n) last.erase_last told_later block
      (λ e k lt is. not_ahead r s body ring.served ready.on.ring (sym (due_as ring s (Some body) ready.stands ready.on.ring.not_negative) ∙ e) n from below k lt
      (is ∙ ap (λ (m : ℕ). ahead_first r (m + 1) + k) ready.stands.next))
      ∙ (last.mark_then.ok told_then).others (place r n) other ∙ (last.body_first.ok told).others (place r n) other

  pub seal_keeps : (result : Result (Unit {0}) FlashFault) → SealCalls (shape_of ring) ring.next due body old result new
      → OnOk result (IsTrue old.media.tells → (s : RingState) → IsReady ring old s → (n : ℕ) → oldest (sealed (shape_of ring) s body) ≤ n → n < s.next
      → page_at new (place (shape_of ring) n) ≡ page_at old (place (shape_of ring) n))
  seal_keeps (Err e) calls = tt
  seal_keeps (Ok u) (inl last) = all_keep last
  seal_keeps (Ok u) (inr (inl fails)) = absurd (let e = fails.fails in cc e)
  seal_keeps (Ok u) (inr (inr fails)) = absurd (let e = fails.fails in cc e)

  -- the page that is sealed has its body and its mark over what it held
  all_here : SealsLast (shape_of ring) ring.next due body old (Ok tt) new → IsTrue old.media.tells → page_at new (place (shape_of ring) ring.next) ≡ sealed_over (shape_of ring) body (page_at old (place (shape_of ring) ring.next))
  all_here last told =
      let r = shape_of ring in
      let told_then = subst IsTrue (sym last.body_first.goes.tells) told in
      let told_later = subst IsTrue (sym last.mark_then.goes.tells) told_then in
      let block : last.marked.geometry.block ≡ ring.per_block = ap (λ g. g.block) (last.mark_then.goes.geometry ∙ last.body_first.goes.geometry) ∙ lies.block in
      erase_leaves r ring.next due last.marked new (place r ring.next) last.erase_last told_later block (λ e. next_apart r ring.next (ring.next + 1 - ring.oldest) ring.served e)
      ∙ ((last.mark_then.ok told_then).here ∙ ap (λ (page : List ℕ). programmed page (r.size - 8) (replicate 4 0)) (last.body_first.ok told).here)

  pub seal_here : (result : Result (Unit {0}) FlashFault) → SealCalls (shape_of ring) ring.next due body old result new
      → OnOk result (IsTrue old.media.tells → page_at new (place (shape_of ring) ring.next) ≡ sealed_over (shape_of ring) body (page_at old (place (shape_of ring) ring.next)))
  seal_here (Err e) calls = tt
  seal_here (Ok u) (inl last) = all_here last
  seal_here (Ok u) (inr (inl fails)) = absurd (let e = fails.fails in cc e)
  seal_here (Ok u) (inr (inr fails)) = absurd (let e = fails.fails in cc e)

-- the same of the ring as the model has it
pub seal_stands : (count_of : List ℕ → ℕ) (r : Shape) (s : RingState) (body : List ℕ) (old_at new_at : ℕ → List ℕ) → IsShape r → IsRing r s
    → ((n : ℕ) → oldest (sealed r s body) ≤ n → n < s.next → new_at n ≡ old_at n) → PagesStand (ring_counts count_of s) old_at (ring_counts count_of (erased (sealed r s body))) new_at
seal_stands count_of r s body old_at new_at shape ring same = record {
  later = omega (arith, length-map s.kept (page_count count_of), length-map (sealed r s body).kept (page_count count_of), oldest_later r s body shape ring);
  further = omega (arith, next_of (is_due r (appended s (Some body))));
  bytes = λ n from below. same n (omega (arith, length-map (sealed r s body).kept (page_count count_of), from)) below;
}
  where
    next_of : (due : Bool) → (if due then record (appended s (Some body)) { kept = drop r.per_block (s.kept ++ Some body ∷ []); dirty = true } else appended s (Some body)).next ≡ s.next + 1
    next_of true = refl
    next_of false = refl
