-- A page whose bitmap misses the bits of a span has no row with a value of the span.
use Rattle.std.proofs.Common.{◌≡◌, ℕ, ◌^◌, Bool, false, IsTrue, nat_eq, Some, unwrap_or, List, [], ◌∷◌, fold, slice_get, bit_and, bit_or, ◌&&◌, inl, inr, arith, rules, refl, sym, ◌∙◌, ap}
use Rattle.std.specs.Prelude.{ℤ, pos, ◌≤ℤ◌, int_le}
use Rattle.std.specs.Int.{bit_at}
use Rattle.std.proofs.lemmas.Bool.{cases_Bool, false≢true}
use Rattle.std.proofs.Math.Bool.{and-false}
use Rattle.std.proofs.lemmas.Nat.Bits.{bit_at_and, bit_at_or, bit_at-pow_same, bit_at-zero, bit_at-lt}
use Rattle.fl_base.specs.declared.types.KeyRange.{KeyRange}
use Rattle.fl_base.specs.declared.types.Span.{Span}
use Rattle.fl_model.specs.Record.{Plan}
use Rattle.fl_model.specs.Table.{Entry}
use Rattle.fl_model.specs.Layout.{bitmap_of, bucket_of}
use Rattle.fl_model.specs.Query.{in_range, in_span, matches, selected}
use Rattle.fl_bitmap.specs.Widths.{is_bits}

-- the bits of the buckets of more rows
abbrev pub first_value : Entry → ℤ
first_value entry = unwrap_or (slice_get entry.kept.values 0) (pos 0)

abbrev pub onto : Plan → ℕ → List Entry → ℕ
onto plan bits entries = fold (λ b entry. bit_or b (2 ^ bucket_of plan (first_value entry))) bits entries

-- a bit that is there stays
pub onto-at : (plan : Plan) (bits : ℕ) (entries : List Entry) (k : ℕ) → bit_at bits k ≡ 1 → bit_at (onto plan bits entries) k ≡ 1
onto-at plan bits [] k one = one
onto-at plan bits (entry ∷ entries) k one =
    let new = 2 ^ bucket_of plan (first_value entry) in
    let kept : bit_at (bit_or bits new) k ≡ 1 = omega (arith, bit_at_or bits new k, one, bit_at-lt new k) in
    onto-at plan (bit_or bits new) entries k kept

-- the bits have the bucket of each value of the span
abbrev pub Spans : Plan → Span → ℕ → Type 0
Spans plan span mask = (v : ℤ) → span.low ≤ℤ v → v ≤ℤ span.high → bit_at mask (bucket_of plan v) ≡ 1

-- a first value of the span has its bit in both
pub meets : (plan : Plan) (bits mask k : ℕ) → bit_at bits k ≡ 1 → bit_at mask k ≡ 1 → bit_and bits mask ≡ 0 → ⊥
meets plan bits mask k here there none =
    let both : bit_at (bit_and bits mask) k ≡ 1 = omega (arith, bit_at_and bits mask k, here, there) in
    let neither : bit_at (bit_and bits mask) k ≡ 0 = ap (λ m. bit_at m k) none ∙ bit_at-zero k in
    omega (arith, both, neither)

-- a value that is none of the span's
pub no_match : (plan : Plan) (span : Span) (mask bits : ℕ) (range : KeyRange) (key : Bool) (values : List ℤ) → Spans plan span mask →
    bit_at bits (bucket_of plan (unwrap_or (slice_get values 0) (pos 0))) ≡ 1 → bit_and bits mask ≡ 0 →
    (key && in_span (Some span) (slice_get values 0)) ≡ false
no_match plan span mask bits range key [] spans one none = search (rules, and-false key)
no_match plan span mask bits range key (v ∷ values) spans one none =
    elim (cases_Bool (int_le span.low v && int_le v span.high)) [
      | inl in_it ↦ absurd (meets plan bits mask (bucket_of plan v) one (spans v (search (rules, in_it)) (search (rules, in_it))) none)
      | inr outside ↦ search (rules, and-false key, outside)
    ]

pub onto-misses : (plan : Plan) (span : Span) (mask : ℕ) (range : KeyRange) (bits : ℕ) (entries : List Entry) → Spans plan span mask →
    bit_and (onto plan bits entries) mask ≡ 0 → selected range (Some span) entries ≡ []
onto-misses plan span mask range bits [] spans none = refl
onto-misses plan span mask range bits (entry ∷ entries) spans none =
    let k = bucket_of plan (first_value entry) in
    let new : bit_at (bit_or bits (2 ^ k)) k ≡ 1 = omega (arith, bit_at_or bits (2 ^ k) k, bit_at-pow_same k, bit_at-lt bits k) in
    let all : ℕ = onto plan (bit_or bits (2 ^ k)) entries in
    let one : bit_at all k ≡ 1 = onto-at plan (bit_or bits (2 ^ k)) entries k new in
    let other : matches range (Some span) entry.kept ≡ false = no_match plan span mask all range (in_range range entry.kept.key) entry.kept.values spans one none in
    rw other (onto-misses plan span mask range (bit_or bits (2 ^ k)) entries spans none)

some-bits : (bits : ℕ) → IsTrue (is_bits bits) → nat_eq bits 0 ≡ false
some-bits bits is =
    elim (cases_Bool (nat_eq bits 0)) [
      | inl none ↦ absurd (no-bits bits (search (rules, none)) is)
      | inr some ↦ some
    ]
  where
    no-bits : (n : ℕ) → n ≡ 0 → IsTrue (is_bits n) → ⊥
    no-bits n none is = false≢true (ap (λ k. is_bits k) (sym none) ∙ is)

-- .. and no row of its page is selected
pub page-misses : (plan : Plan) (span : Span) (mask : ℕ) (range : KeyRange) (entries : List Entry) → IsTrue (is_bits plan.bits) → Spans plan span mask →
    bit_and (bitmap_of plan entries) mask ≡ 0 → selected range (Some span) entries ≡ []
page-misses plan span mask range entries is spans none =
    let bitmap : bitmap_of plan entries ≡ onto plan 0 entries = rw (some-bits plan.bits is) refl in
    onto-misses plan span mask range 0 entries spans (ap (λ b. bit_and b mask) (sym bitmap) ∙ none)
