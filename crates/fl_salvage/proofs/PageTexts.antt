-- The text of the page with a number: that of its rows where it is there and has some, and else nothing.
use Rattle.std.proofs.Common.{◌≡◌, ◌⊎◌, ℕ, ◌-◌, ◌<◌, ◌≤◌, ◌&&◌, inl, inr, Bool, true, false, nat_lt, nat_le, Option, Result, List, [], length, sym, ◌∙◌, ap, subst, arith}
use Rattle.std.specs.Prelude.{◌/◌, ◌==◌, if◌then◌else◌}
use Rattle.std.specs.List.{flat_map}
use Rattle.std.proofs.lemmas.Bool.{and_from, and_parts, cases_Bool, eqb-true, ltb-true, leb-true, eq-eqb, lt-ltb, le-ltb, le-leb}
use Rattle.fl_base.specs.Causes.{Appends}
use Rattle.fl_base.proofs.Appended.{appends-none}
use Rattle.fl_model.specs.Record.{layout_len}
use Rattle.fl_model.specs.Row.{Row}
use Rattle.fl_page.specs.Header.{page_number, page_count}
use Rattle.fl_page.specs.Page.{IsGoodPage, rows_in}
use Rattle.fl_script.specs.Written.{Written}
use Rattle.fl_salvage.specs.Pages.{has_rows, numbered}
use Rattle.fl_salvage.specs.Text.{Form, page_text, row_text, rows_of}

module _ (form : Form) (bytes : List ℕ) (number : ℕ) where
  abbrev page : List ℕ
  page = numbered form.rows bytes number

  abbrev room : ℕ
  room = (length page - 24) / layout_len form.layout

  -- the rows by these tests
  abbrev rows_by : Bool → Bool → List Row
  rows_by short has = if short then [] else if has then rows_in form.layout page else []

  of_whole : (has : Bool) → length page ≡ form.rows.size → has_rows form.layout number page ≡ has → rows_of form.layout form.rows number page ≡ rows_by false has
  of_whole has whole is =
      let least : form.rows.size ≤ length page = omega (arith, whole) in
      ap (λ (short : Bool). rows_by short (has_rows form.layout number page)) (le-ltb (length page) form.rows.size least) ∙ ap (rows_by false) is

  no_text : (told : Option (List ℕ)) → rows_of form.layout form.rows number page ≡ [] → Appends told told (page_text form bytes number)
  no_text told none = subst (λ (rows : List Row). Appends told told (flat_map (row_text form bytes) rows)) (sym none) (appends-none told)

  pub missing-text : (told : Option (List ℕ)) → length page < form.rows.size → Appends told told (page_text form bytes number)
  missing-text told short = no_text told (ap (λ (b : Bool). rows_by b (has_rows form.layout number page)) (lt-ltb (length page) form.rows.size short))

  good : has_rows form.layout number page ≡ true → IsGoodPage form.layout number page
  good is =
      let sized = and_parts ((page_number page == number) && nat_lt 0 (page_count page)) (nat_le (page_count page) room) is in
      let named = and_parts (page_number page == number) (nat_lt 0 (page_count page)) sized.0 in
      record { number_is = eqb-true (page_number page) number named.0; some = ltb-true 0 (page_count page) named.1; room = leb-true (page_count page) room sized.1 }

  pub unformed-text : (told : Option (List ℕ)) → length page ≡ form.rows.size → (IsGoodPage form.layout number page → ⊥) → Appends told told (page_text form bytes number)
  unformed-text told whole bad = no_text told (of_whole false whole (unformed (cases_Bool (has_rows form.layout number page))))
    where
      unformed : (has_rows form.layout number page ≡ true) ⊎ (has_rows form.layout number page ≡ false) → has_rows form.layout number page ≡ false
      unformed (inl is) = absurd (bad (good is))
      unformed (inr is) = is

  pub rows-text : length page ≡ form.rows.size → IsGoodPage form.layout number page → page_text form bytes number ≡ flat_map (row_text form bytes) (rows_in form.layout page)
  rows-text whole holds =
      let named = and_from (page_number page == number) (nat_lt 0 (page_count page)) (eq-eqb (page_number page) number holds.number_is) (lt-ltb 0 (page_count page) holds.some) in
      ap (flat_map (row_text form bytes))
      (of_whole true whole (and_from ((page_number page == number) && nat_lt 0 (page_count page)) (nat_le (page_count page) room) named (le-leb (page_count page) room holds.room)))

  -- what was written of these rows was written of the page
  pub page-written : {E : Type 0} (told now : Option (List ℕ)) (result : Result (Unit {0}) E) (after : List ℕ) (rows : List Row) → after ≡ bytes → length page ≡ form.rows.size → IsGoodPage form.layout number page
      → rows ≡ rows_in form.layout page → Written told now result (flat_map (row_text form after) rows) → Written told now result (page_text form bytes number)
  page-written told now result after rows same whole holds are wrote =
      subst (Written told now result) (ap (λ (l : List ℕ). flat_map (row_text form l) rows) same ∙ ap (flat_map (row_text form bytes)) are ∙ sym (rows-text whole holds)) wrote
