-- The pages of variable data that stand, by their counts.
use Rattle.std.proofs.Common.{◌≡◌, ℕ, ◌-◌, ◌<◌, ◌≤◌, inl, inr, Bool, true, false, cond, ◌&&◌, ◌==◌, nat_le, Option, Some, None, option_map, unwrap_or, sym, ◌∙◌, ap, arith}
use Rattle.std.specs.List.{slice_get}
use Rattle.std.proofs.lemmas.Bool.{cases_lt, le-leb, lt-leb, leb-true, eqb-true, and_parts, false≢true}
use Rattle.fl_model.specs.Query.{page_stands}
use Rattle.fl_model.specs.Ring.{Ring, oldest}

abbrev pub is_one : Option ℕ → Bool
is_one count = unwrap_or (option_map (λ c. c == 1) count) false

-- a page by whether its number is behind the others
abbrev stands_by : Ring → ℕ → Bool → Bool
stands_by ring page behind = cond behind true (nat_le (oldest ring) page && is_one (slice_get ring.counts (page - oldest ring)))

pub stands-behind : (ring : Ring) (page : ℕ) → ring.next ≤ page → page_stands ring page ≡ true
stands-behind ring page ge = ap (stands_by ring page) (le-leb ring.next page ge)

-- a page that was given up doesn't stand
pub stands-not : (ring : Ring) (page : ℕ) → page < oldest ring → page_stands ring page ≡ false
stands-not ring page lt =
    ap (stands_by ring page) (lt-leb ring.next page (omega (arith, lt)))
    ∙ ap (λ (b : Bool). b && is_one (slice_get ring.counts (page - oldest ring))) (lt-leb (oldest ring) page lt)

-- another one does where its count is 1
pub stands-count : (ring : Ring) (page : ℕ) → oldest ring ≤ page → page < ring.next → page_stands ring page ≡ is_one (slice_get ring.counts (page - oldest ring))
stands-count ring page ge lt =
    ap (stands_by ring page) (lt-leb ring.next page lt)
    ∙ ap (λ (b : Bool). b && is_one (slice_get ring.counts (page - oldest ring))) (le-leb (oldest ring) page ge)

pub stands-kept : (ring : Ring) (page : ℕ) → oldest ring ≤ page → slice_get ring.counts (page - oldest ring) ≡ Some 1 → page_stands ring page ≡ true
stands-kept ring page ge one = elim (cases_lt page ring.next) [
  | inr behind ↦ stands-behind ring page behind
  | inl lt ↦ stands-count ring page ge lt ∙ ap is_one one
]

pub kept-stands : (ring : Ring) (page : ℕ) → page < ring.next → page_stands ring page ≡ true → (oldest ring ≤ page) × (slice_get ring.counts (page - oldest ring) ≡ Some 1)
kept-stands ring page lt h =
    let both = and_parts (nat_le (oldest ring) page) (is_one (slice_get ring.counts (page - oldest ring))) (sym (ap (stands_by ring page) (lt-leb ring.next page lt)) ∙ h) in
    (leb-true (oldest ring) page both.0, one (slice_get ring.counts (page - oldest ring)) both.1)
  where
    one : (o : Option ℕ) → is_one o ≡ true → o ≡ Some 1
    one None e = absurd (false≢true e)
    one (Some c) e = ap Some (eqb-true c 1 e)
