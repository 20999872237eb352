-- The blobs that fields tell: the crate hex decodes as the grammar says.
use Rattle.std.proofs.Common.{◌≡◌, ◌≢◌, ◌⊎◌, inl, inr, ℕ, ◌+◌, ◌-◌, nat_lt, nat_le, ◌*◌, ◌/◌, ◌%◌, ◌<◌, Bool, true, false, Option, Some, None, Result, Ok, Err, List, [], ◌∷◌, length, refl, sym, ◌∙◌, arith, eqb}
use Rattle.std.specs.List.{AllByRecursion}
use Rattle.std.proofs.lemmas.Bool.{cases_lt, eqb-true}
use Rattle.std.proofs.lemmas.Bool.Decides.{nat_tests}
use Rattle.hex.specs.Hex.{decode_of, decode_pairs, digit_or_error, hex_digit_value, ◌>>=◌}
use Rattle.hex.specs.declared.error.FromHexError.{FromHexError}
use Rattle.hex.specs.declared.error.FromHexError.TheVariants as hex
use Rattle.fl_model.specs.Record.{bytes_equal}
use Rattle.fl_csv.specs.Lines.{blob_of, formed_blob, is_left_out}
use Rattle.fl_csv.specs.declared.record.GoneBlobs.{GoneBlobs}
use Rattle.fl_csv.specs.declared.record.GoneBlobs.TheVariants.{Refused, LeftOut}
use Rattle.fl_csv.specs.declared.record.CsvRefusal.{CsvRefusal}
use Rattle.fl_csv.specs.declared.record.CsvRefusal.TheVariants.{Number, NoMemory}
use Rattle.fl_words.specs.Reply.{hex_digit, hex_text}
use Rattle.fl_csv.specs.Text.{bytes_field}
use Rattle.fl_words.specs.Grammar.{hex_bytes, hex_value, onto_bytes}
use Rattle.fl_script.proofs.Blobs.{odd}

abbrev pub right : {A : Type 0} → Result A FromHexError → Option A
right (Ok x) = Some x
right (Err e) = None

same-digit : (byte : ℕ) → hex_digit_value byte ≡ hex_value byte
same-digit byte = grind (arith, nat_tests)

same-pair : (high low i : ℕ) (h l : Option ℕ) (bytes : Result (List ℕ) FromHexError)
    → right ((digit_or_error high i h >>= λ a. digit_or_error low (i + 1) l >>= λ b. Ok (a * 16 + b)) >>= λ byte. bytes >>= λ rest. Ok (byte ∷ rest))
    ≡ onto_bytes h l (right bytes)
same-pair high low i None l bytes = refl
same-pair high low i (Some h) None bytes = refl
same-pair high low i (Some h) (Some l) (Ok bytes) = refl
same-pair high low i (Some h) (Some l) (Err e) = refl

pub same-pairs : (i : ℕ) (digits : List ℕ) → right (decode_pairs i digits) ≡ hex_bytes digits
unfolding decode_pairs
same-pairs i [] = refl
same-pairs i (digit ∷ []) = refl
same-pairs i (high ∷ low ∷ digits) =
    same-pair high low i (hex_digit_value high) (hex_digit_value low) (decode_pairs (i + 2) digits)
    ∙ rw (same-digit high, same-digit low, same-pairs (i + 2) digits) refl

pub decodes : (digits : List ℕ) → right (decode_of digits) ≡ hex_bytes digits
decodes digits = by (eqb (length digits % 2) 1) refl
  where
    by : (t : Bool) → eqb (length digits % 2) 1 ≡ t → right (decode_of digits) ≡ hex_bytes digits
    by true e = rw e (sym (odd digits (eqb-true _ _ e)))
    by false e = rw e (same-pairs 0 digits)

-- a field that is neither empty nor a dash
pub not-dash : (place : ℕ) (field : List ℕ) → 0 < length field → bytes_equal field (45 ∷ []) ≡ false → blob_of place field ≡ formed_blob place (right (decode_of field))
not-dash place [] some dash = absurd (omega arith)
not-dash place (byte ∷ bytes) some dash = rw (dash, decodes (byte ∷ bytes)) refl

pub taken : (place : ℕ) (field bytes blob : List ℕ) → 0 < length field → bytes_equal field (45 ∷ []) ≡ false → decode_of field ≡ Ok bytes → blob ≡ bytes
    → blob_of place field ≡ Ok (Some blob)
taken place field bytes blob some dash ok same = not-dash place field some dash ∙ rw (ok, same) refl

pub refused : (place : ℕ) (field : List ℕ) (e : FromHexError) (why : CsvRefusal) → 0 < length field → bytes_equal field (45 ∷ []) ≡ false
    → (e ≡ hex.OutOfMemory) ⊎ (decode_of field ≡ Err e) → (e ≡ hex.OutOfMemory → why ≡ NoMemory) → (e ≢ hex.OutOfMemory → why ≡ Number place)
    → (why ≡ NoMemory) ⊎ (blob_of place field ≡ Err why)
refused place field e why some dash (inl memory) m n = inl (m memory)
refused place field hex.OutOfMemory why some dash (inr err) m n = inl (m refl)
refused place field hex.OddLength why some dash (inr err) m n = inr (not-dash place field some dash ∙ rw (err, n (λ q. cc q)) refl)
refused place field hex.InvalidStringLength why some dash (inr err) m n = inr (not-dash place field some dash ∙ rw (err, n (λ q. cc q)) refl)
refused place field (hex.InvalidHexCharacter byte at) why some dash (inr err) m n = inr (not-dash place field some dash ∙ rw (err, n (λ q. cc q)) refl)

-- ---- written

digit-value : (n : ℕ) → n < 16 → hex_value (hex_digit n) ≡ Some n
digit-value n lt = elim (cases_lt n 10) [
  | inl less ↦
      let small : nat_lt n 10 ≡ true = grind (arith, nat_tests, less) in
      let low : nat_le 48 (48 + n) ≡ true = grind (arith, nat_tests) in
      let high : nat_le (48 + n) 57 ≡ true = grind (arith, nat_tests, less) in
      let back : 48 + n - 48 ≡ n = omega arith in
      rw (small, low, high, back) refl
  | inr more ↦
      let small : nat_lt n 10 ≡ false = grind (arith, nat_tests, more) in
      let decimal : nat_le 48 (87 + n) ≡ true = grind (arith, nat_tests) in
      let above : nat_le (87 + n) 57 ≡ false = grind (arith, nat_tests) in
      let low : nat_le 97 (87 + n) ≡ true = grind (arith, nat_tests, more) in
      let high : nat_le (87 + n) 102 ≡ true = grind (arith, nat_tests, lt) in
      let back : 87 + n - 87 ≡ n = omega arith in
      rw (small, decimal, above, low, high, back) refl
]

digits-bytes : (bytes : List ℕ) → AllByRecursion (λ byte. byte < 256) bytes → hex_bytes (hex_text bytes) ≡ Some bytes
digits-bytes [] h = refl
digits-bytes (byte ∷ bytes) h =
    let high = digit-value (byte / 16) (omega (arith, h.0)) in
    let low = digit-value (byte % 16) (omega arith) in
    let whole : byte / 16 * 16 + byte % 16 ≡ byte = omega arith in
    rw (high, low, digits-bytes bytes h.1, whole) refl

no-dash : (byte : ℕ) (bytes : List ℕ) → bytes_equal (hex_text (byte ∷ bytes)) (45 ∷ []) ≡ false
no-dash byte bytes =
    let other : eqb (hex_digit (byte / 16)) 45 ≡ false = digit (byte / 16) in
    rw other refl
  where
    digit : (n : ℕ) → eqb (hex_digit n) 45 ≡ false
    digit n = grind (arith, nat_tests)

pub blob-written : (place : ℕ) (bytes : List ℕ) → AllByRecursion (λ byte. byte < 256) bytes → blob_of place (bytes_field bytes) ≡ Ok (Some bytes)
blob-written place [] h = refl
blob-written place (byte ∷ bytes) h = rw (no-dash byte bytes, digits-bytes (byte ∷ bytes) h) refl

-- digits and a dash don't say that a blob is gone
pub never-left : (gone : GoneBlobs) (bytes : List ℕ) → AllByRecursion (λ byte. byte < 256) bytes → is_left_out gone (bytes_field bytes) ≡ false
never-left Refused bytes h = refl
never-left LeftOut [] h = refl
never-left LeftOut (byte ∷ bytes) h =
    let other : eqb (hex_digit (byte / 16)) 103 ≡ false = digit (byte / 16) (omega (arith, h.0)) in
    rw other refl
  where
    digit : (n : ℕ) → n < 16 → eqb (hex_digit n) 103 ≡ false
    digit n lt = grind (arith, nat_tests, lt)
