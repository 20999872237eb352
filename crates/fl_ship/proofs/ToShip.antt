-- The rows that a cursor over the keys above a copy's last one gives are the records that come after the copy's.
use Rattle.std.proofs.Common.{◌≡◌, ℕ, ◌+◌, ◌-◌, ◌^◌, ◌<◌, ◌≤◌, ◌==◌, Bool, true, false, nat_le, nat_lt, if◌then◌else◌, Option, Some, None, List, [], ◌∷◌, map, refl, sym, ◌∙◌, ap, subst, arith}
use Rattle.std.specs.List.{AllByRecursion, filter, last_or}
use Rattle.std.specs.Option.{option_map, unwrap_or}
use Rattle.std.proofs.lemmas.Bool.{le-leb, leb-true, ltb-true, ltb-false, eqb-true}
use Rattle.std.proofs.lemmas.Option.{same_Some}
use Rattle.fl_base.specs.declared.types.KeyRange.{KeyRange}
use Rattle.fl_cursor.proofs.Selected.{range-at}
use Rattle.fl_model.specs.Facts.{BlobFits, FitsPlan}
use Rattle.fl_model.specs.Query.{in_range, selected}
use Rattle.fl_model.specs.Record.{Record, Plan, has_var, key_limit}
use Rattle.fl_model.specs.Row.{stored_row}
use Rattle.fl_model.specs.Ship.{comes_after, records_in, to_ship}
use Rattle.fl_model.specs.Table.{Table, Entry, last_entry}
use Rattle.fl_model.proofs.Lists.{each-weaker}
use Rattle.fl_ops.specs.Columns.{record_of, records_of}
use Rattle.fl_ship.specs.Missing.{keys_above}

-- an entry without a blob, with a key of at most 64 bits
pub record IsPlain (entry : Entry) : Type 0 where
  pub blob : entry.kept.blob ≡ None
  pub key : entry.kept.key ≤ 2 ^ 64 - 1

-- each of a table without variable data is one
fits-plain : (plan : Plan) (entry : Entry) → has_var plan ≡ false → key_limit plan < 2 ^ 64 → FitsPlan plan entry → IsPlain entry
fits-plain plan entry none few fits = record { blob = by-blob entry.kept.blob refl fits.blob; key = (let key = fits.key in omega (arith, key, few)) }
  where
    by-blob : (blob : Option (List ℕ)) → entry.kept.blob ≡ blob → BlobFits plan entry blob → entry.kept.blob ≡ None
    by-blob None is fit = is
    by-blob (Some bytes) is fit = let no : true ≡ false = sym fit.0 ∙ none in cc

pub all-plain : (plan : Plan) (entries : List Entry) → has_var plan ≡ false → key_limit plan < 2 ^ 64 → AllByRecursion (FitsPlan plan) entries → AllByRecursion IsPlain entries
all-plain plan entries none few fit = each-weaker (FitsPlan plan) IsPlain (λ entry fits. fits-plain plan entry none few fits) entries fit

-- it is its row
plain-record : (entry : Entry) → IsPlain entry → record_of (stored_row entry) ≡ entry.kept
plain-record entry plain = ap (λ (blob : Option (List ℕ)). record { key = entry.kept.key; values = entry.kept.values; blob = blob }) (sym plain.blob)

-- ---- those that are selected

selected-are : (range : KeyRange) (comes : Record → Bool) (entries : List Entry) → AllByRecursion IsPlain entries → ((entry : Entry) → IsPlain entry → in_range range entry.kept.key ≡ comes entry.kept) →
    records_of (map stored_row (selected range None entries)) ≡ filter comes (map (λ (entry : Entry). entry.kept) entries)
selected-are range comes [] plain same = refl
selected-are range comes (entry ∷ entries) plain same = by-test (selected-are range comes entries plain.1 same) (comes entry.kept) refl
  where
    by-test : records_of (map stored_row (selected range None entries)) ≡ filter comes (map (λ (other : Entry). other.kept) entries) → (b : Bool) → comes entry.kept ≡ b →
        records_of (map stored_row (selected range None (entry ∷ entries))) ≡ filter comes (map (λ (other : Entry). other.kept) (entry ∷ entries))
    by-test others true is =
        rw (same entry plain.0 ∙ is, is)
        (ap (λ (l : List Record). record_of (stored_row entry) ∷ l) others ∙ ap (λ (item : Record). item ∷ filter comes (map (λ (other : Entry). other.kept) entries)) (plain-record entry plain.0))
    by-test others false is = rw (same entry plain.0 ∙ is, is) others

-- ---- behind the last one of a copy

abbrev above : ℕ → KeyRange
above last = record { low = last + 1; high = 2 ^ 64 - 1 }

abbrev key_of : Option Entry → Option ℕ
key_of last = option_map (λ (entry : Entry). entry.kept.key) last

last-record : (o : Option Entry) (entries : List Entry) → last_or (option_map (λ (entry : Entry). entry.kept) o) (map (λ (entry : Entry). entry.kept) entries) ≡ option_map (λ (entry : Entry). entry.kept) (last_or o entries)
last-record o [] = refl
last-record o (entry ∷ entries) = last-record (Some entry) entries

comes-behind : (copy : Table) (item : Record) → comes_after (records_in copy) item ≡ unwrap_or (option_map (λ (other : Record). nat_lt other.key item.key) (option_map (λ (entry : Entry). entry.kept) (last_entry copy))) true
comes-behind copy item = ap (λ (o : Option Record). unwrap_or (option_map (λ (other : Record). nat_lt other.key item.key) o) true) (last-record None copy.entries)

next-le : (last key : ℕ) → nat_le (last + 1) key ≡ nat_lt last key
next-le last key = by-test (nat_lt last key) refl
  where
    by-test : (b : Bool) → nat_lt last key ≡ b → nat_le (last + 1) key ≡ b
    by-test true is = let lt = ltb-true last key is in le-leb (last + 1) key (omega (arith, lt))
    by-test false is = let le = ltb-false last key is in not-le (nat_le (last + 1) key) refl le
      where
        not-le : (b : Bool) → nat_le (last + 1) key ≡ b → key ≤ last → b ≡ false
        not-le true e le = let more = leb-true (last + 1) key e in absurd (omega (arith, more, le))
        not-le false e le = refl

no-range : {P : Type 0} (range : KeyRange) → None ≡ Some range → P
no-range range e = absurd (cc e)

in-range-is : (last : Option Entry) (range : KeyRange) (item : Record) → keys_above (key_of last) ≡ Some range → item.key ≤ 2 ^ 64 - 1 →
    in_range range item.key ≡ unwrap_or (option_map (λ (other : Record). nat_lt other.key item.key) (option_map (λ (entry : Entry). entry.kept) last)) true
in-range-is None range item is within = subst (λ (r : KeyRange). in_range r item.key ≡ true) (same_Some _ range is) (range-at 0 (2 ^ 64 - 1) item.key within ∙ le-leb 0 item.key (omega arith))
in-range-is (Some entry) range item is within = by-test (entry.kept.key == 2 ^ 64 - 1) is
  where
    by-test : (b : Bool) → (if b then None else Some (above entry.kept.key)) ≡ Some range → in_range range item.key ≡ nat_lt entry.kept.key item.key
    by-test true is = no-range range is
    by-test false is = subst (λ (r : KeyRange). in_range r item.key ≡ nat_lt entry.kept.key item.key) (same_Some _ range is) (range-at (entry.kept.key + 1) (2 ^ 64 - 1) item.key within ∙ next-le entry.kept.key item.key)

-- the rows of the keys above its last one
pub rows-to-ship : (source copy : Table) (last : Option ℕ) (range : KeyRange) → last ≡ option_map (λ (entry : Entry). entry.kept.key) (last_entry copy) → keys_above last ≡ Some range → AllByRecursion IsPlain source.entries →
    records_of (map stored_row (selected range None source.entries)) ≡ to_ship (records_in source) (records_in copy)
rows-to-ship source copy last range last_is is plain =
    selected-are range (comes_after (records_in copy)) source.entries plain
    (λ entry p. in-range-is (last_entry copy) range entry.kept (ap keys_above (sym last_is) ∙ is) p.key ∙ sym (comes-behind copy entry.kept))

-- .. and none comes after the greatest key
pub none-to-ship : (source copy : Table) (last : Option ℕ) → last ≡ option_map (λ (entry : Entry). entry.kept.key) (last_entry copy) → keys_above last ≡ None → AllByRecursion IsPlain source.entries → to_ship (records_in source) (records_in copy) ≡ []
none-to-ship source copy last last_is is plain = each source.entries plain
  where
    never : (item : Record) → item.key ≤ 2 ^ 64 - 1 → comes_after (records_in copy) item ≡ false
    never item within = comes-behind copy item ∙ by-last (last_entry copy) (ap keys_above (sym last_is) ∙ is)
      where
        by-last : (o : Option Entry) → keys_above (key_of o) ≡ None → unwrap_or (option_map (λ (other : Record). nat_lt other.key item.key) (option_map (λ (entry : Entry). entry.kept) o)) true ≡ false
        by-last None e = let no = e in cc
        by-last (Some entry) e = by-test (entry.kept.key == 2 ^ 64 - 1) refl e
          where
            by-test : (b : Bool) → (entry.kept.key == 2 ^ 64 - 1) ≡ b → (if b then None else Some (above entry.kept.key)) ≡ None → nat_lt entry.kept.key item.key ≡ false
            by-test false greatest e = let no = e in cc
            by-test true greatest e = let same = eqb-true entry.kept.key (2 ^ 64 - 1) greatest in not-lt (nat_lt entry.kept.key item.key) refl same
              where
                not-lt : (b : Bool) → nat_lt entry.kept.key item.key ≡ b → entry.kept.key ≡ 2 ^ 64 - 1 → b ≡ false
                not-lt true more same = let lt = ltb-true entry.kept.key item.key more in absurd (omega (arith, lt, same, within))
                not-lt false more same = refl

    each : (entries : List Entry) → AllByRecursion IsPlain entries → filter (comes_after (records_in copy)) (map (λ (entry : Entry). entry.kept) entries) ≡ []
    each [] plain = refl
    each (entry ∷ entries) plain = rw (never entry.kept plain.0.key) (each entries plain.1)
