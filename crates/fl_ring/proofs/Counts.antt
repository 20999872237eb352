-- The steps of a ring are those of the model.
use Rattle.std.proofs.Common.{◌≡◌, ℕ, suc, ◌+◌, ◌-◌, ◌*◌, ◌%◌, ◌<◌, Bool, true, false, ◌||◌, nat_lt, if◌then◌else◌, List, [], ◌∷◌, map, length, drop, get_or, is_some, Option, Some, None, IfSome, refl, sym, ◌∙◌, ap, arith}
use Rattle.std.specs.List.{list_any, drop-map}
use Rattle.std.proofs.lemmas.Bool.{and_from, and_parts, lt-ltb}
use Rattle.std.proofs.lemmas.List.{length-map, map_push}
use Rattle.std.proofs.lemmas.Nat.Gcd.{dvd_of_mod-eq-zero, mod-eq-zero_of_dvd}
use Rattle.fl_model.specs.Ring as model
use Rattle.fl_model.specs.Mount as mount
use Rattle.fl_model.specs.Mount.{least_alike}
use Rattle.fl_ring.specs.Counts.{page_count, ring_counts, model_shape, HoldsSome}
use Rattle.fl_ring.specs.Numbers.{renumbered}
use Rattle.fl_ring.specs.Ring.{Shape, RingState, count, room, IsRing, is_due, is_due_at, begun, appended, trimmed, sealed, voided, erased}

-- the facts of the model's ring and those of its state
pub ring_from : (r : Shape) (s : RingState) (counts : List ℕ) → length counts ≡ count s → model.IsRing (model_shape r) (record { counts = counts; next = s.next; torn = s.torn; dirty = s.dirty }) → IsRing r s
ring_from r s counts len h = record {
  not_negative = omega (arith, len, h.not_negative);
  whole_blocks = ap (λ n. (s.next - n) % r.per_block) (sym len) ∙ mod-eq-zero_of_dvd r.per_block h.whole_blocks;
  whole_rounds = λ few. ap (λ n. (s.next - n) % (r.blocks * r.per_block)) (sym len) ∙ mod-eq-zero_of_dvd (r.blocks * r.per_block) (h.whole_rounds (omega (arith, len, few)));
  most = omega (arith, len, h.kept);
  most_ahead = λ e. let k = h.kept_at_end e in omega (arith, len, k);
  dirty_when = λ d. let k = h.dirty_at_end d in (k.0, sym len ∙ k.1);
  not_both = λ t d. h.not_both (and_from s.torn s.dirty t d);
}

pub ring_back : (r : Shape) (s : RingState) (counts : List ℕ) → length counts ≡ count s → IsRing r s → model.IsRing (model_shape r) (record { counts = counts; next = s.next; torn = s.torn; dirty = s.dirty })
ring_back r s counts len h = record {
  not_negative = omega (arith, len, h.not_negative);
  whole_blocks = dvd_of_mod-eq-zero r.per_block (ap (λ n. (s.next - n) % r.per_block) len ∙ h.whole_blocks);
  whole_rounds = λ few. dvd_of_mod-eq-zero (r.blocks * r.per_block) (ap (λ n. (s.next - n) % (r.blocks * r.per_block)) len ∙ h.whole_rounds (omega (arith, few, len)));
  kept = omega (arith, len, h.most);
  kept_at_end = λ e. let k = h.most_ahead e in omega (arith, len, k);
  dirty_at_end = λ d. let k = h.dirty_when d in (k.0, len ∙ k.1);
  not_both = λ both. let b = and_parts s.torn s.dirty both in h.not_both b.0 b.1;
}

module _ (count_of : List ℕ → ℕ) where
  pub counts_begun : (s : RingState) → ring_counts count_of (begun s) ≡ model.begun (ring_counts count_of s)
  counts_begun s = refl

  pub counts_erased : (s : RingState) → ring_counts count_of (erased s) ≡ model.erased (ring_counts count_of s)
  counts_erased s = refl

  pub counts_length : (s : RingState) → length (ring_counts count_of s).counts ≡ count s
  counts_length s = length-map s.kept (page_count count_of)

  module _ (r : Shape) where
    trims : (s : RingState) → ring_counts count_of (trimmed r s) ≡ model.trim (model_shape r) (ring_counts count_of s)
    trims s =
        by_due (is_due r s)
        ∙ ap (λ (n : ℕ). if is_due_at r s.next n then record (ring_counts count_of s) { counts = drop r.per_block (ring_counts count_of s).counts; dirty = true } else ring_counts count_of s) (sym (counts_length s))
      where
        by_due : (b : Bool) → ring_counts count_of (if b then record s { kept = drop r.per_block s.kept; dirty = true } else s)
            ≡ (if b then record (ring_counts count_of s) { counts = drop r.per_block (ring_counts count_of s).counts; dirty = true } else ring_counts count_of s)
        by_due true = ap (λ (l : List ℕ). record (ring_counts count_of s) { counts = l; dirty = true }) (sym (drop-map (page_count count_of) r.per_block s.kept))
        by_due false = refl

    kept_one : (s : RingState) (x : Option (List ℕ)) → ring_counts count_of (trimmed r (appended s x)) ≡ model.sealed (model_shape r) (page_count count_of x) (ring_counts count_of s)
    kept_one s x =
        trims (appended s x)
        ∙ ap (λ (l : List ℕ). model.trim (model_shape r) (record (ring_counts count_of s) { counts = l; next = s.next + 1; torn = false })) (map_push (page_count count_of) s.kept x)

    pub counts_sealed : (s : RingState) (body : List ℕ) → ring_counts count_of (sealed r s body) ≡ model.sealed (model_shape r) (count_of body) (ring_counts count_of s)
    counts_sealed s body = kept_one s (Some body)

    pub counts_voided : (s : RingState) → ring_counts count_of (voided r s) ≡ model.sealed (model_shape r) 0 (ring_counts count_of s)
    counts_voided s = kept_one s None

    -- pages with records are the committed ones
    any_some : (kept : List (Option (List ℕ))) → ((i : ℕ) → i < length kept → IfSome (get_or kept i None) (λ body. 0 < count_of body)) → list_any (nat_lt 0) (map (page_count count_of) kept) ≡ list_any is_some kept
    any_some [] some = refl
    any_some (None ∷ kept) some = any_some kept (λ i lt. some (suc i) (omega arith))
    any_some (Some body ∷ kept) some =
        ap (λ (b : Bool). b || list_any (nat_lt 0) (map (page_count count_of) kept)) (lt-ltb 0 (count_of body) (some 0 (omega arith)))

    pub counts_renumbered : (at_least : ℕ) (s : RingState) → HoldsSome count_of s → ring_counts count_of (renumbered r at_least s) ≡ mount.renumbered (model_shape r) at_least (ring_counts count_of s)
    counts_renumbered at_least s some =
        by_any (list_any is_some s.kept)
        ∙ ap (λ (b : Bool). if b then ring_counts count_of s else record (ring_counts count_of s) { next = least_alike (room r) s.next (at_least + length s.kept) }) (sym (any_some s.kept some))
        ∙ ap (λ (n : ℕ). if list_any (nat_lt 0) (ring_counts count_of s).counts then ring_counts count_of s else record (ring_counts count_of s) { next = least_alike (room r) s.next (at_least + n) }) (sym (counts_length s))
      where
        by_any : (b : Bool) → ring_counts count_of (if b then s else record s { next = least_alike (room r) s.next (at_least + length s.kept) })
            ≡ (if b then ring_counts count_of s else record (ring_counts count_of s) { next = least_alike (room r) s.next (at_least + length s.kept) })
        by_any true = refl
        by_any false = refl

    pub counts_ring : (s : RingState) → IsRing r s → model.IsRing (model_shape r) (ring_counts count_of s)
    counts_ring s ring = ring_back r s (ring_counts count_of s).counts (counts_length s) ring
