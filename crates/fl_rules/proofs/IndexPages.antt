-- Index pages, by their bytes.
use Rattle.std.proofs.Common.{◌≡◌, ℕ, zero, suc, ◌+◌, ◌-◌, ◌*◌, ◌/◌, ◌^◌, ◌<◌, ◌≤◌, Bool, true, false, cond, List, [], ◌∷◌, ◌++◌, length, take, drop, slice_range, refl, sym, ap, ◌∙◌, arith, length-append, length-drop, div-mul-le_self}
use Rattle.std.specs.List.{flat_map}
use Rattle.std.proofs.Math.Seq.{take-add}
use Rattle.std.proofs.lemmas.List.{drop-drop, length-take-le, append-nil}
use Rattle.fl_model.proofs.Lists.{take_none}
use Rattle.fl_index.specs.Page.{form_len}
use Rattle.fl_index.specs.declared.page.EntryForm.{EntryForm}
use Rattle.fl_index.proofs.WaitingEntries.{plan_form, length-entry}
use Rattle.fl_base.specs.Bytes.{all_are}
use Rattle.fl_model.specs.Layout.{IndexEntry, full_bytes, entry_bytes, committed, filled}
use Rattle.fl_model.specs.Record.{Plan, entry_len, entries_per_page}
use Rattle.fl_model.specs.Row.{le, number_of}
use Rattle.fl_page.specs.Header.{page_number}
use Rattle.fl_schema.proofs.Numbers.{number_of-le}
use Rattle.fl_rules.specs.Endings.{IsFilled}
use Rattle.fl_rules.specs.IndexPage.{IsIndexPage}
use Rattle.fl_rules.proofs.BytesBack.{AreBytes, le-number_as, number-below}
use Rattle.fl_rules.proofs.Parts.{each-taken, each-dropped, field_is, zero_is, is_zero, joined, ends_of}

-- the entry that some bytes are, with a bitmap of so many of them
abbrev entry_from : ℕ → List ℕ → IndexEntry
entry_from width bytes = record {
  bitmap = number_of (take width bytes);
  full = record { first_key = number_of (take 8 (drop width bytes)); count = number_of (take 2 (drop (width + 8) bytes)); blob_end = number_of (take 4 (drop (width + 10) bytes)) };
}

-- so many entries of so many bytes each
abbrev entries_from : ℕ → ℕ → ℕ → List ℕ → List IndexEntry
entries_from zero len width bytes = []
entries_from (suc n) len width bytes = entry_from width bytes ∷ entries_from n len width (drop len bytes)

length-entries_from : (n len width : ℕ) (bytes : List ℕ) → length (entries_from n len width bytes) ≡ n
length-entries_from zero len width bytes = refl
length-entries_from (suc n) len width bytes = ap suc (length-entries_from n len width (drop len bytes))

-- what a full entry tells beside its bitmap is written as the same bytes
full-back : (width : ℕ) (bytes : List ℕ) → AreBytes bytes → width + 14 ≤ length bytes → full_bytes (entry_from width bytes).full ≡ take 14 (drop width bytes)
full-back width bytes each room =
    let key = field_is bytes width 8 _ each (omega (arith, room)) refl in
    let count = field_is bytes (width + 8) 2 _ each (omega (arith, room)) refl in
    let end = field_is bytes (width + 10) 4 _ each (omega (arith, room)) refl in
    sym (take-add 8 6 (drop width bytes)
    ∙ ap (λ (l : List ℕ). take 8 (drop width bytes) ++ take 6 l) (drop-drop 8 width bytes)
    ∙ ap (λ (l : List ℕ). take 8 (drop width bytes) ++ l) (take-add 2 4 (drop (width + 8) bytes) ∙ ap (λ (l : List ℕ). take 2 (drop (width + 8) bytes) ++ take 4 l) (drop-drop 2 (width + 8) bytes ∙ ap (λ (k : ℕ). drop k bytes) (let e : width + 8 + 2 ≡ width + 10 = omega arith in e)))
    ∙ ap (λ (l : List ℕ). l ++ (take 2 (drop (width + 8) bytes) ++ take 4 (drop (width + 10) bytes))) key
    ∙ ap (λ (l : List ℕ). le 8 (number_of (take 8 (drop width bytes))) ++ (l ++ take 4 (drop (width + 10) bytes))) count
    ∙ ap (λ (l : List ℕ). le 8 (number_of (take 8 (drop width bytes))) ++ (le 2 (number_of (take 2 (drop (width + 8) bytes))) ++ l)) end)

-- the bytes of an entry of a plan, by its form
pub form-len : (plan : Plan) (form : EntryForm) → plan.bits / 8 ≡ form.width → plan.full_index ≡ form.full → entry_len plan ≡ form_len form
form-len plan form width full = ap (λ (k : ℕ). k + cond plan.full_index 14 0) width ∙ ap (λ (b : Bool). form.width + cond b 14 0) full

module _ (plan : Plan) where
  entry-back : (bytes : List ℕ) → AreBytes bytes → entry_len plan ≤ length bytes → entry_bytes plan (entry_from (plan.bits / 8) bytes) ≡ take (entry_len plan) bytes
  entry-back bytes each room = by_full plan.full_index room
    where
      w : ℕ
      w = plan.bits / 8

      bitmap : plan.bits / 8 ≤ length bytes → le (plan.bits / 8) (number_of (take (plan.bits / 8) bytes)) ≡ take (plan.bits / 8) bytes
      bitmap few = le-number_as (plan.bits / 8) (take (plan.bits / 8) bytes) (length-take-le (plan.bits / 8) bytes few) (each-taken (plan.bits / 8) bytes each)

      by_full : (b : Bool) → plan.bits / 8 + cond b 14 0 ≤ length bytes
          → le (plan.bits / 8) (number_of (take (plan.bits / 8) bytes)) ++ cond b (full_bytes (entry_from (plan.bits / 8) bytes).full) [] ≡ take (plan.bits / 8 + cond b 14 0) bytes
      by_full true room =
          ap (λ (l : List ℕ). l ++ full_bytes (entry_from (plan.bits / 8) bytes).full) (bitmap (omega (arith, room)))
          ∙ ap (λ (l : List ℕ). take (plan.bits / 8) bytes ++ l) (full-back (plan.bits / 8) bytes each room) ∙ sym (take-add (plan.bits / 8) 14 bytes)
      by_full false room =
          append-nil (le (plan.bits / 8) (number_of (take (plan.bits / 8) bytes))) ∙ bitmap (omega (arith, room)) ∙ ap (λ (k : ℕ). take k bytes) (let e : plan.bits / 8 ≡ plan.bits / 8 + 0 = omega arith in e)

  entries-back : (n : ℕ) (bytes : List ℕ) → AreBytes bytes → n * entry_len plan ≤ length bytes
      → flat_map (entry_bytes plan) (entries_from n (entry_len plan) (plan.bits / 8) bytes) ≡ take (n * entry_len plan) bytes
  entries-back zero bytes each room = sym (ap (λ (k : ℕ). take k bytes) (let e : 0 * entry_len plan ≡ 0 = omega arith in e) ∙ take_none bytes)
  entries-back (suc n) bytes each room =
      let len = entry_len plan in
      let more : suc n * entry_len plan ≡ entry_len plan + n * entry_len plan = omega arith in
      let rest = entries-back n (drop (entry_len plan) bytes) (each-dropped (entry_len plan) bytes each) (omega (arith, room, more, length-drop (entry_len plan) bytes)) in
      ap (λ (l : List ℕ). l ++ flat_map (entry_bytes plan) (entries_from n (entry_len plan) (plan.bits / 8) (drop (entry_len plan) bytes))) (entry-back bytes each (omega (arith, room, more)))
      ∙ ap (λ (l : List ℕ). take (entry_len plan) bytes ++ l) rest ∙ sym (take-add (entry_len plan) (n * entry_len plan) bytes) ∙ ap (λ (k : ℕ). take k bytes) (sym more)

  length-entries : (entries : List IndexEntry) → length (flat_map (entry_bytes plan) entries) ≡ length entries * entry_len plan
  length-entries [] = omega arith
  length-entries (entry ∷ entries) =
      length-append (entry_bytes plan entry) (flat_map (entry_bytes plan) entries) ∙ omega (arith, length-entry (plan_form plan) entry, length-entries entries)

module _ (plan : Plan) (page : List ℕ) (number : ℕ) (size : plan.geometry.page ≡ length page) (least : 24 ≤ length page) (some : 1 ≤ entry_len plan) where
  abbrev front : ℕ → List IndexEntry → List ℕ
  front first entries = le 4 number ++ le 4 first ++ le 2 (length entries) ++ le 6 0 ++ flat_map (entry_bytes plan) entries

  -- as many as there is room for
  pub fits : 16 + entries_per_page plan * entry_len plan + 8 ≤ length page
  fits =
      let e = div-mul-le_self (plan.geometry.page - 24) (entry_len plan) in
      omega (arith, e, size, least)

  front-length : (first : ℕ) (entries : List IndexEntry) → length entries ≡ entries_per_page plan → length (front first entries) ≡ 16 + entries_per_page plan * entry_len plan
  front-length first entries full =
      length-append (le 4 number ++ le 4 first ++ le 2 (length entries) ++ le 6 0) (flat_map (entry_bytes plan) entries)
      ∙ ap (λ (k : ℕ). 16 + k) (length-entries plan entries ∙ ap (λ (k : ℕ). k * entry_len plan) full)

  pub is_index : AreBytes page → page_number page ≡ number → number_of (take 2 (drop 8 page)) ≡ entries_per_page plan → all_are 0 (slice_range page 10 16) ≡ true
      → IsFilled (16 + entries_per_page plan * entry_len plan) page → IsIndexPage plan number page
  is_index each number_is count_is none ends =
      let count = entries_per_page plan in
      let len = entry_len plan in
      let first = number_of (take 4 (drop 4 page)) in
      let entries : List IndexEntry = entries_from (entries_per_page plan) (entry_len plan) (plan.bits / 8) (drop 16 page) in
      let full : length (entries_from (entries_per_page plan) (entry_len plan) (plan.bits / 8) (drop 16 page)) ≡ entries_per_page plan =
      length-entries_from (entries_per_page plan) (entry_len plan) (plan.bits / 8) (drop 16 page) in
      let head : take 16 page ≡ le 4 number ++ le 4 first ++ le 2 (length entries) ++ le 6 0 =
      take-add 4 12 page
      ∙ ap (λ (l : List ℕ). take 4 page ++ l) (take-add 4 8 (drop 4 page) ∙ ap (λ (l : List ℕ). take 4 (drop 4 page) ++ take 8 l) (drop-drop 4 4 page))
      ∙ ap (λ (l : List ℕ). take 4 page ++ (take 4 (drop 4 page) ++ l)) (take-add 2 6 (drop 8 page) ∙ ap (λ (l : List ℕ). take 2 (drop 8 page) ++ take 6 l) (drop-drop 2 8 page))
      ∙ ap (λ (l : List ℕ). l ++ (take 4 (drop 4 page) ++ (take 2 (drop 8 page) ++ take 6 (drop 10 page)))) (field_is page 0 4 number each (omega (arith, least)) number_is)
      ∙ ap (λ (l : List ℕ). le 4 number ++ (l ++ (take 2 (drop 8 page) ++ take 6 (drop 10 page)))) (field_is page 4 4 first each (omega (arith, least)) refl)
      ∙ ap (λ (l : List ℕ). le 4 number ++ (le 4 first ++ (l ++ take 6 (drop 10 page)))) (field_is page 8 2 (length entries) each (omega (arith, least)) (count_is ∙ sym full))
      ∙ ap (λ (l : List ℕ). le 4 number ++ (le 4 first ++ (le 2 (length entries) ++ l))) (zero_is page 10 6 16 refl (omega (arith, least)) none) in
      let body : take (entries_per_page plan * entry_len plan) (drop 16 page) ≡ flat_map (entry_bytes plan) entries =
      sym (entries-back plan count (drop 16 page) (each-dropped 16 page each) (omega (arith, fits, length-drop 16 page))) in
      record {
        first = first;
        entries = entries;
        small = ap-lt (number-below (take 4 (drop 4 page)) (each-taken 4 (drop 4 page) (each-dropped 4 page each))) (length-take-le 4 (drop 4 page) (omega (arith, least, length-drop 4 page)));
        full = full;
        bytes =
            joined page (front first entries) (16 + count * len) (front-length first entries full)
            (take-add 16 (count * len) page ∙ ap (λ (l : List ℕ). l ++ take (count * len) (drop 16 page)) head ∙ ap (λ (l : List ℕ). (le 4 number ++ le 4 first ++ le 2 (length entries) ++ le 6 0) ++ l) body) ends
            ∙ ap (λ (k : ℕ). committed (filled (k - 8) (front first entries))) (sym size);
      }
    where
      ap-lt : {n k : ℕ} → n < 256 ^ k → k ≡ 4 → n < 2 ^ 32
      ap-lt {n} {k} below four = let e : 256 ^ k ≡ 256 ^ 4 = ap (λ (j : ℕ). 256 ^ j) four in omega (arith, below, e)

  module _ (is : IsIndexPage plan number page) (small : number < 2 ^ 32) (short : length page < 65536) where
    bytes : page ≡ committed (filled (length page - 8) (front is.first is.entries))
    bytes = is.bytes ∙ ap (λ (k : ℕ). committed (filled (k - 8) (front is.first is.entries))) size

    pub index_number : page_number page ≡ number
    index_number = ap (λ (l : List ℕ). number_of (take 4 l)) is.bytes ∙ number_of-le 4 number small

    pub index_count : number_of (take 2 (drop 8 page)) ≡ entries_per_page plan
    index_count =
        let few : entries_per_page plan ≤ entries_per_page plan * entry_len plan = grind (arith, some) in
        ap (λ (l : List ℕ). number_of (take 2 (drop 8 l))) is.bytes ∙ number_of-le 2 (length is.entries) (omega (arith, is.full, few, fits, short)) ∙ is.full

    pub index_zero : all_are 0 (slice_range page 10 16) ≡ true
    index_zero = is_zero page 10 6 16 refl (ap (λ (l : List ℕ). take 6 (drop 10 l)) is.bytes)

    pub index_ends : IsFilled (16 + entries_per_page plan * entry_len plan) page
    index_ends = ends_of page (front is.first is.entries) (16 + entries_per_page plan * entry_len plan) (front-length is.first is.entries is.full) bytes
