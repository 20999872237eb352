-- What a cursor that begins has left: all that matches.
use Rattle.std.proofs.Common.{◌≡◌, ℕ, ◌-◌, ◌^◌, ◌<◌, ◌≤◌, min, Bool, true, false, ◌&&◌, cond, nat_le, Option, Some, None, option_map, List, [], ◌∷◌, map, filter, refl, sym, ◌∙◌, ap, subst, arith}
use Rattle.std.specs.List.{slice_get, last_or, AllByRecursion}
use Rattle.std.proofs.lemmas.Bool.{leb-true, le-leb, ltb-true}
use Rattle.std.proofs.lemmas.Option.{same_Some}
use Rattle.std.proofs.Math.Bool.{and-true}
use Rattle.fl_base.specs.declared.types.KeyRange.{KeyRange}
use Rattle.fl_base.specs.declared.types.Span.{Span}
use Rattle.fl_model.specs.Facts.{FitsPlan}
use Rattle.fl_model.specs.Query.{begin, left_of, selected, matches, in_range, in_span, is_up_to}
use Rattle.fl_model.specs.Record.{Plan, key_limit}
use Rattle.fl_model.specs.Row.{stored_row}
use Rattle.fl_model.specs.Table.{Table, Entry, last_entry}
use Rattle.fl_model.proofs.Lists.{each-weaker, last_or-some}
use Rattle.fl_page.specs.Steps.{Ascends}
use Rattle.fl_cursor.specs.Ascending.{both}
use Rattle.fl_cursor.specs.Asked.{is_asked}

-- no key is above the last one
record UpTo (last first : Entry) (entries : List Entry) : Type 0 where
  first_too : first.kept.key ≤ last.kept.key
  others : AllByRecursion (λ (e : Entry). e.kept.key ≤ last.kept.key) entries

up-to-last : (last first : Entry) (entries : List Entry) → last_or (Some first) entries ≡ Some last → Ascends (Some first.kept.key) (map stored_row entries) → UpTo last first entries
up-to-last last first [] is ascends = record { first_too = let e = ap (λ (x : Entry). x.kept.key) (same_Some _ _ is) in omega (arith, e); others = tt }
up-to-last last first (e ∷ entries) is ascends =
    let h = up-to-last last e entries is ascends.1 in
    let lt = ltb-true first.kept.key e.kept.key ascends.0 in
    record { first_too = omega (arith, lt, h.first_too); others = (h.first_too, h.others) }

same-test : (range : KeyRange) (span : Option Span) (last : ℕ) (entry : Entry) → entry.kept.key ≤ last →
    ((matches range span entry.kept && true) && nat_le entry.kept.key (min range.high last)) ≡ matches range span entry.kept
same-test range span last entry le = by_match (matches range span entry.kept) refl
  where
    by_match : (b : Bool) → matches range span entry.kept ≡ b → ((b && true) && nat_le entry.kept.key (min range.high last)) ≡ b
    by_match false is = refl
    by_match true is =
        let range_part = (both (in_range range entry.kept.key) (in_span span (slice_get entry.kept.values 0)) is).0 in
        let high = leb-true entry.kept.key range.high (both (nat_le range.low entry.kept.key) (nat_le entry.kept.key range.high) range_part).1 in
        le-leb entry.kept.key (min range.high last) (omega (arith, high, le))

same-rows : (range : KeyRange) (span : Option Span) (last : ℕ) (entries : List Entry) → AllByRecursion (λ (e : Entry). e.kept.key ≤ last) entries →
    filter (λ entry. (matches range span entry.kept && true) && nat_le entry.kept.key (min range.high last)) entries ≡ selected range span entries
same-rows range span last [] h = refl
same-rows range span last (e ∷ entries) h =
    ap (λ b. cond b (e ∷ filter (λ entry. (matches range span entry.kept && true) && nat_le entry.kept.key (min range.high last)) entries)
    (filter (λ entry. (matches range span entry.kept && true) && nat_le entry.kept.key (min range.high last)) entries)) (same-test range span last e h.0)
    ∙ ap (λ (xs : List Entry). cond (matches range span e.kept) (e ∷ xs) xs) (same-rows range span last entries h.1)

pub begins-selected : (range : KeyRange) (span : Option Span) (table : Table) → Ascends None (map stored_row table.entries) → left_of (begin range span table) table.entries ≡ selected range span table.entries
begins-selected range span table ascends = by_entries table.entries refl ascends
  where
    with_last : (first last : Entry) (entries : List Entry) → table.entries ≡ first ∷ entries → last_or (Some first) entries ≡ Some last → Ascends (Some first.kept.key) (map stored_row entries) →
        left_of (begin range span table) table.entries ≡ selected range span table.entries
    with_last first last entries are is ascends =
        let h = up-to-last last first entries is ascends in
        let top : last_entry table ≡ Some last = ap (last_or None) are ∙ is in
        ap (λ (o : Option Entry). filter (λ entry. (matches range span entry.kept && true) && is_up_to (option_map (λ (l : Entry). min range.high l.kept.key) o) entry.kept.key) table.entries) top
        ∙ same-rows range span last.kept.key table.entries (subst (AllByRecursion (λ (e : Entry). e.kept.key ≤ last.kept.key)) (sym are) (h.first_too, h.others))

    by_entries : (entries : List Entry) → table.entries ≡ entries → Ascends None (map stored_row entries) → left_of (begin range span table) table.entries ≡ selected range span table.entries
    by_entries [] are ascends = ap (left_of (begin range span table)) are ∙ sym (ap (selected range span) are)
    by_entries (first ∷ entries) are ascends = let l = last_or-some first entries in with_last first l.0 entries are l.1 ascends.1

-- it asks for all that matches
pub all-asked : (range : KeyRange) (span : Option Span) (table : Table) → Ascends None (map stored_row table.entries) →
    AllByRecursion (λ (e : Entry). matches range span e.kept ≡ true → is_asked (begin range span table) (stored_row e) ≡ true) table.entries
all-asked range span table ascends = by_entries table.entries refl ascends
  where
    asks : (last e : Entry) → last_entry table ≡ Some last → e.kept.key ≤ last.kept.key → matches range span e.kept ≡ true → is_asked (begin range span table) (stored_row e) ≡ true
    asks last e top le is =
        let up_to : nat_le e.kept.key (min range.high last.kept.key) ≡ true = sym (ap (λ b. (b && true) && nat_le e.kept.key (min range.high last.kept.key)) is) ∙ (same-test range span last.kept.key e le ∙ is) in
        ap (λ (o : Option Entry). matches range span e.kept && is_up_to (option_map (λ (l : Entry). min range.high l.kept.key) o) e.kept.key) top
        ∙ (ap (λ b. b && nat_le e.kept.key (min range.high last.kept.key)) is ∙ up_to)

    by_entries : (entries : List Entry) → table.entries ≡ entries → Ascends None (map stored_row entries) →
        AllByRecursion (λ (e : Entry). matches range span e.kept ≡ true → is_asked (begin range span table) (stored_row e) ≡ true) entries
    by_entries [] are ascends = tt
    by_entries (first ∷ entries) are ascends =
        let l = last_or-some first entries in
        let h = up-to-last l.0 first entries l.1 ascends.1 in
        let top : last_entry table ≡ Some l.0 = ap (last_or None) are ∙ l.1 in
        each-weaker (λ (e : Entry). e.kept.key ≤ l.0.kept.key) (λ (e : Entry). matches range span e.kept ≡ true → is_asked (begin range span table) (stored_row e) ≡ true) (λ e le is. asks l.0 e top le is)
        (first ∷ entries) (h.first_too, h.others)

-- .. and so is each key up to the high one
pub all-up : (range : KeyRange) (span : Option Span) (table : Table) → Ascends None (map stored_row table.entries) →
    AllByRecursion (λ (e : Entry). e.kept.key ≤ range.high → is_up_to (begin range span table).top e.kept.key ≡ true) table.entries
all-up range span table ascends = by_entries table.entries refl ascends
  where
    up : (last e : Entry) → last_entry table ≡ Some last → e.kept.key ≤ last.kept.key → e.kept.key ≤ range.high → is_up_to (begin range span table).top e.kept.key ≡ true
    up last e top le high =
        ap (λ (o : Option Entry). is_up_to (option_map (λ (l : Entry). min range.high l.kept.key) o) e.kept.key) top ∙ le-leb e.kept.key (min range.high last.kept.key) (omega (arith, le, high))

    by_entries : (entries : List Entry) → table.entries ≡ entries → Ascends None (map stored_row entries) →
        AllByRecursion (λ (e : Entry). e.kept.key ≤ range.high → is_up_to (begin range span table).top e.kept.key ≡ true) entries
    by_entries [] are ascends = tt
    by_entries (first ∷ entries) are ascends =
        let l = last_or-some first entries in
        let h = up-to-last l.0 first entries l.1 ascends.1 in
        let top : last_entry table ≡ Some l.0 = ap (last_or None) are ∙ l.1 in
        each-weaker (λ (e : Entry). e.kept.key ≤ l.0.kept.key) (λ (e : Entry). e.kept.key ≤ range.high → is_up_to (begin range span table).top e.kept.key ≡ true) (λ e le high. up l.0 e top le high)
        (first ∷ entries) (h.first_too, h.others)

-- ---- all of them

-- a range without an upper end
pub range-at : (low high key : ℕ) → key ≤ high → in_range (record { low = low; high = high }) key ≡ nat_le low key
range-at low high key within = rw (le-leb key high within) (and-true (nat_le low key))

pub all-selected : (plan : Plan) (entries : List Entry) (low : ℕ) → low ≡ 0 → key_limit plan < 2 ^ 64 → AllByRecursion (FitsPlan plan) entries → selected (record { low = low; high = 2 ^ 64 - 1 }) None entries ≡ entries
all-selected plan [] low none few fit = refl
all-selected plan (entry ∷ entries) low none few fit =
    let key = fit.0.key in
    rw (range-at low (2 ^ 64 - 1) entry.kept.key (omega (arith, key, few)), le-leb low entry.kept.key (omega (arith, none))) (ap (λ (l : List Entry). entry ∷ l) (all-selected plan entries low none few fit.1))
