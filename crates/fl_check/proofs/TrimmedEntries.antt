-- The entries of an index page, as far as their fields have room for what they tell: the page has no more of them.
use Rattle.std.proofs.Common.{◌≡◌, ℕ, ◌-◌, ◌/◌, ◌%◌, ◌^◌, ◌<◌, cond, List, [], ◌∷◌, ◌++◌, length, map, refl, sym, ◌∙◌, ap, arith}
use Rattle.std.specs.List.{flat_map, AllByRecursion}
use Rattle.std.proofs.Math.Nat.{mod-lt, mod-eq_of_lt, one-le-pow}
use Rattle.std.proofs.lemmas.List.{length-map}
use Rattle.fl_index.specs.Page.{full_view, fields_of}
use Rattle.fl_index.proofs.Bytes.{number_of-low}
use Rattle.fl_model.specs.Layout.{Full, IndexEntry, IndexPage, full_bytes, entry_bytes, index_body, filled}
use Rattle.fl_model.specs.Record.{Plan, entries_per_page}
use Rattle.fl_model.specs.Row.{le}
use Rattle.fl_schema.proofs.Numbers.{length-le}
use Rattle.fl_schema.proofs.RoundTrip.{le_each}
use Rattle.fl_rules.proofs.BytesBack.{le-number_as}

-- what the fields of an entry have room for
abbrev pub trimmed : Plan → IndexEntry → IndexEntry
trimmed plan entry = record { bitmap = entry.bitmap % 256 ^ (plan.bits / 8); full = full_view (fields_of entry.full) }

pub record IsTrimmed (plan : Plan) (entry : IndexEntry) : Type 0 where
  pub bitmap : entry.bitmap < 256 ^ (plan.bits / 8)
  pub full : full_view (fields_of entry.full) ≡ entry.full

-- an index page whose entries are so
pub record IsListed (plan : Plan) (listed : IndexPage) : Type 0 where
  pub many : length listed.entries ≡ entries_per_page plan
  pub small : listed.first < 2 ^ 32
  pub each : AllByRecursion (IsTrimmed plan) listed.entries

-- ---- the bytes

le-low : (width n : ℕ) → le width (n % 256 ^ width) ≡ le width n
le-low width n = ap (le width) (sym (number_of-low width n)) ∙ le-number_as width (le width n) (length-le width n) (λ k. le_each 0 width n k)

full-low : (full : Full) → full_bytes (full_view (fields_of full)) ≡ full_bytes full
full-low full =
    ap (λ (l : List ℕ). l ++ le 2 (full.count % 2 ^ 16) ++ le 4 (full.blob_end % 2 ^ 32)) (le-low 8 full.first_key)
    ∙ ap (λ (l : List ℕ). le 8 full.first_key ++ l ++ le 4 (full.blob_end % 2 ^ 32)) (le-low 2 full.count)
    ∙ ap (λ (l : List ℕ). le 8 full.first_key ++ le 2 full.count ++ l) (le-low 4 full.blob_end)

module _ (plan : Plan) where
  entry-low : (entry : IndexEntry) → entry_bytes plan (trimmed plan entry) ≡ entry_bytes plan entry
  entry-low entry =
      ap (λ (l : List ℕ). l ++ cond plan.full_index (full_bytes (full_view (fields_of entry.full))) []) (le-low (plan.bits / 8) entry.bitmap)
      ∙ ap (λ (l : List ℕ). le (plan.bits / 8) entry.bitmap ++ cond plan.full_index l []) (full-low entry.full)

  entries-low : (entries : List IndexEntry) → flat_map (entry_bytes plan) (map (trimmed plan) entries) ≡ flat_map (entry_bytes plan) entries
  entries-low [] = refl
  entries-low (entry ∷ entries) =
      ap (λ (l : List ℕ). l ++ flat_map (entry_bytes plan) (map (trimmed plan) entries)) (entry-low entry) ∙ ap (λ (l : List ℕ). entry_bytes plan entry ++ l) (entries-low entries)

  pub body-trimmed : (number first : ℕ) (entries : List IndexEntry) → index_body plan number first (map (trimmed plan) entries) ≡ index_body plan number first entries
  body-trimmed number first entries =
      ap (λ (k : ℕ). filled (plan.geometry.page - 8) (le 4 number ++ le 4 first ++ le 2 k ++ le 6 0 ++ flat_map (entry_bytes plan) (map (trimmed plan) entries))) (length-map entries (trimmed plan))
      ∙ ap (λ (l : List ℕ). filled (plan.geometry.page - 8) (le 4 number ++ le 4 first ++ le 2 (length entries) ++ le 6 0 ++ l)) (entries-low entries)

  -- ---- the fields

  abbrev full_with : ℕ → ℕ → ℕ → Full
  full_with key count end = record { first_key = key; count = count; blob_end = end }

  is-trimmed : (entry : IndexEntry) → IsTrimmed plan (trimmed plan entry)
  is-trimmed entry =
      let full = entry.full in
      let some : 0 < 256 ^ (plan.bits / 8) = omega (arith, one-le-pow (plan.bits / 8) 256 (omega arith)) in
      let some_8 : 0 < 2 ^ 64 = omega arith in
      let some_2 : 0 < 2 ^ 16 = omega arith in
      let some_4 : 0 < 2 ^ 32 = omega arith in
      let low_key : full.first_key % 2 ^ 64 < 2 ^ 64 = mod-lt full.first_key some_8 in
      let low_count : full.count % 2 ^ 16 < 2 ^ 16 = mod-lt full.count some_2 in
      let low_end : full.blob_end % 2 ^ 32 < 2 ^ 32 = mod-lt full.blob_end some_4 in
      let key : full.first_key % 2 ^ 64 % 2 ^ 64 ≡ full.first_key % 2 ^ 64 = mod-eq_of_lt low_key in
      let count : full.count % 2 ^ 16 % 2 ^ 16 ≡ full.count % 2 ^ 16 = mod-eq_of_lt low_count in
      let end : full.blob_end % 2 ^ 32 % 2 ^ 32 ≡ full.blob_end % 2 ^ 32 = mod-eq_of_lt low_end in
      record {
        bitmap = mod-lt entry.bitmap some;
        full =
            ap (λ (n : ℕ). full_with n (full.count % 2 ^ 16 % 2 ^ 16) (full.blob_end % 2 ^ 32 % 2 ^ 32)) key
            ∙ ap (λ (n : ℕ). full_with (full.first_key % 2 ^ 64) n (full.blob_end % 2 ^ 32 % 2 ^ 32)) count
            ∙ ap (λ (n : ℕ). full_with (full.first_key % 2 ^ 64) (full.count % 2 ^ 16) n) end;
      }

  pub all-trimmed : (entries : List IndexEntry) → AllByRecursion (IsTrimmed plan) (map (trimmed plan) entries)
  all-trimmed [] = tt
  all-trimmed (entry ∷ entries) = (is-trimmed entry, all-trimmed entries)
