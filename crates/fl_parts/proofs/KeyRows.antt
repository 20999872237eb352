-- The rows of one page, and their keys.
use Rattle.std.proofs.Common.{◌≡◌, ℕ, ◌+◌, ◌-◌, ◌*◌, ◌<◌, ◌≤◌, Bool, true, false, cond, nat_lt, Option, Some, None, unwrap_or, List, length, drop, refl, sym, ◌∙◌, ap, arith}
use Rattle.std.proofs.Math.Nat.{le-div_iff_mul-le}
use Rattle.std.proofs.lemmas.Bool.{ltb-true}
use Rattle.std.specs.List.{slice_get}
use Rattle.std.proofs.lemmas.List.{drop_all}
use Rattle.fl_model.specs.Record.{RowLayout, layout_len}
use Rattle.fl_model.specs.Row.{Row}
use Rattle.fl_mark.specs.Mark.{state_of_page}
use Rattle.fl_mark.specs.declared.page_state.PageState.TheVariants.{Committed}
use Rattle.fl_page.specs.Header.{page_count}
use Rattle.fl_page.specs.Page.{IsGoodPage}
use Rattle.fl_page.proofs.RowsFrom.{drop-row, length-rows_from}
use Rattle.fl_parts.specs.Reading.{rises, keys_fault, last_in}
use Rattle.fl_parts.specs.declared.mount_fault.MountFault.TheVariants.{BadKeys}
use Rattle.fl_parts.proofs.Writers.{few-rows}
use Rattle.fl_find.specs.Pages.{rows_on, rows_where}

-- one row on
pub keys-next : (number i : ℕ) (rows : List Row) (row : Row) (last first : Option ℕ) → slice_get rows i ≡ Some row → rises last row.key ≡ true →
    keys_fault number first rows ≡ keys_fault number last (drop i rows) → keys_fault number first rows ≡ keys_fault number (Some row.key) (drop (i + 1) rows)
keys-next number i rows row last first e up h =
    h ∙ (ap (keys_fault number last) (drop-row rows i row e) ∙ ap (λ b. cond b (keys_fault number (Some row.key) (drop (i + 1) rows)) (Some (BadKeys number (unwrap_or last 0) row.key))) up)

pub last-next : (i : ℕ) (rows : List Row) (row : Row) (last first : Option ℕ) → slice_get rows i ≡ Some row →
    last_in first rows ≡ last_in last (drop i rows) → last_in first rows ≡ last_in (Some row.key) (drop (i + 1) rows)
last-next i rows row last first e h = h ∙ ap (last_in last) (drop-row rows i row e)

-- a key that doesn't rise
pub keys-bad : (number i : ℕ) (rows : List Row) (row : Row) (before : ℕ) (first : Option ℕ) → slice_get rows i ≡ Some row → row.key ≤ before →
    keys_fault number first rows ≡ keys_fault number (Some before) (drop i rows) → keys_fault number first rows ≡ Some (BadKeys number before row.key)
keys-bad number i rows row before first e le h =
    h ∙ (ap (keys_fault number (Some before)) (drop-row rows i row e)
    ∙ ap (λ b. cond b (keys_fault number (Some row.key) (drop (i + 1) rows)) (Some (BadKeys number before row.key))) (by_test (nat_lt before row.key) refl))
  where
    by_test : (b : Bool) → nat_lt before row.key ≡ b → b ≡ false
    by_test true k = absurd (omega (arith, le, ltb-true before row.key k))
    by_test false k = refl

-- after the last row
pub keys-end : (number i : ℕ) (rows : List Row) (last first : Option ℕ) → length rows ≤ i → keys_fault number first rows ≡ keys_fault number last (drop i rows) → keys_fault number first rows ≡ None
keys-end number i rows last first le h = h ∙ ap (keys_fault number last) (drop_all i rows le)

pub last-end : (i : ℕ) (rows : List Row) (last first : Option ℕ) → length rows ≤ i → last_in first rows ≡ last_in last (drop i rows) → last ≡ last_in first rows
last-end i rows last first le h = sym (h ∙ ap (last_in last) (drop_all i rows le))

-- a committed page has as many rows as it says
pub page-length : (layout : RowLayout) (page : List ℕ) → state_of_page page ≡ Committed → length (rows_on layout page) ≡ page_count page
page-length layout page e = ap (λ s. length (rows_where s layout page)) e ∙ length-rows_from (page_count page) layout (drop 16 page)

pub good-few : (layout : RowLayout) (number : ℕ) (page : List ℕ) → IsGoodPage layout number page → 24 ≤ length page → length page ≤ 4096 → 1 ≤ layout_len layout → page_count page < 65536
good-few layout number page h least most some =
    let fits : page_count page * layout_len layout ≤ length page - 24 = (le-div_iff_mul-le {x = page_count page} {y = length page - 24} some).0 h.room in
    few-rows (page_count page) (layout_len layout) (16 + page_count page * layout_len layout) (length page) refl (omega (arith, fits, least)) some most
