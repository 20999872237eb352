-- The rows of pages that a lookup finds, and those of a kept page.
use Rattle.std.proofs.Common.{◌≡◌, ℕ, ◌+◌, ◌*◌, ◌<◌, Bool, true, Some, option_map, List, length, drop, refl, sym, ◌∙◌, ap, arith, Option, map, suc, ◌-◌, ◌≤◌, take}
use Rattle.std.specs.Prelude.{if◌then◌else◌, nat_le, unwrap_or, false}
use Rattle.std.specs.List.{slice_get, sum}
use Rattle.fl_find.specs.Pages.{rows_on, rows_where}
use Rattle.fl_find.specs.Rows.{HasKey}
use Rattle.fl_mark.specs.Mark.{state_of_page}
use Rattle.fl_mark.specs.declared.page_state.PageState.{PageState}
use Rattle.fl_mark.specs.declared.page_state.PageState.TheVariants.{Blank, Torn, Committed, Void}
use Rattle.fl_model.specs.Record.{Plan, RowLayout}
use Rattle.fl_model.specs.Row.{Row, stored_row}
use Rattle.fl_base.specs.Bits.{bits}
use Rattle.fl_model.specs.Spline.{is_covered, is_pending_key, lookup_limit, retained, voids_of}
use Rattle.fl_model.specs.Table as model
use Rattle.fl_page.specs.Page.{rows_in}
use Rattle.fl_page.specs.View.{page_of, layout_of_page, count_of, rows_of}
use Rattle.fl_page.specs.declared.view.PageView.{PageView}
use Rattle.fl_page.proofs.RowsFrom.{length-rows_from}
use Rattle.fl_model.specs.Table.{pending_entries, lose}
use Rattle.std.proofs.lemmas.List.{drop-take, take-take}
use Rattle.std.proofs.lemmas.List.Sums.{sum_by-take-le}
use Rattle.fl_model.specs.Image.{rows_at}
use Rattle.fl_model.proofs.Lists.{sum_by-next}
use Rattle.fl_parts.proofs.Pointed.{first-key}

-- the row that was found has the key
pub has-key : (rows : List Row) (key row : ℕ) → HasKey rows key row → option_map (λ (r : Row). r.key) (slice_get rows row) ≡ Some key
has-key rows key row h = ap (option_map (λ (r : Row). r.key)) h.here ∙ ap (λ (k : ℕ). Some k) h.key_is

-- ---- the row at a place

where-some : (layout : RowLayout) (page : List ℕ) (s : PageState) → 0 < length (rows_where s layout page) → rows_where s layout page ≡ rows_in layout page
where-some layout page Committed some = refl
where-some layout page Blank some = absurd (omega (arith, some))
where-some layout page Torn some = absurd (omega (arith, some))
where-some layout page Void some = absurd (omega (arith, some))

pub rows-some : (layout : RowLayout) (page : List ℕ) (row : ℕ) → row < length (rows_on layout page) → rows_on layout page ≡ rows_in layout page
rows-some layout page row less = where-some layout page (state_of_page page) (omega (arith, less))

-- the rows of a view are as many as it counts
pub row-within : (layout : RowLayout) (page : List ℕ) (view : PageView 8) (row : ℕ) → row < length (rows_on layout page) → rows_of view ≡ rows_in layout page → row < count_of view
row-within layout page view row less is =
    let many : length (rows_of view) ≡ count_of view = length-rows_from (count_of view) (layout_of_page view) (drop 16 (page_of view)) in
    omega (arith, less, ap (λ (rows : List Row). length rows) (rows-some layout page row less), ap (λ (rows : List Row). length rows) is, many)

pub row-viewed : (layout : RowLayout) (page : List ℕ) (view : PageView 8) (at : ℕ) (row : Row) → at < length (rows_on layout page) → rows_of view ≡ rows_in layout page → slice_get (rows_of view) at ≡ Some row →
    slice_get (rows_on layout page) at ≡ Some row
row-viewed layout page view at row less is e = ap (λ (rows : List Row). slice_get rows at) (rows-some layout page at less ∙ sym is) ∙ e

pub limit-pending : (knots : ℕ) (plan : Plan) (table : model.Table) (key : ℕ) → is_pending_key table key ≡ true → 0 ≡ lookup_limit knots plan table key
limit-pending knots plan table key is =
    sym (ap (λ (b : Bool). if b then 0 else if is_covered (retained knots plan.error table.points) key then 2 * plan.error + 2 + voids_of table else bits (length table.rows.counts) + 1 + voids_of table) is)

pub pending-told : (table : model.Table) (row : Row) (key : ℕ) → slice_get (map stored_row (pending_entries table)) 0 ≡ Some row → nat_le row.key key ≡ is_pending_key table key
pending-told table row key here = sym (ap (λ (o : Option ℕ). unwrap_or (option_map (λ first. nat_le first key) o) false) (first-key table row here))

-- a page whose rows aren't none is committed
pub has-rows : (layout : RowLayout) (page : List ℕ) (s : PageState) → (s ≡ Committed → ⊥) → length (rows_where s layout page) ≡ 0
has-rows layout page Committed other = absurd (other refl)
has-rows layout page Blank other = refl
has-rows layout page Torn other = refl
has-rows layout page Void other = refl

-- the entries of a page are written ones
pub rows-lose : (table : model.Table) (i c : ℕ) → slice_get table.rows.counts i ≡ Some c → sum table.rows.counts + table.pending ≡ length table.entries → rows_at (lose table) i c ≡ rows_at table i c
rows-lose table i c e counted =
    let s = sum (take i table.rows.counts) in
    let m = length table.entries - table.pending in
    let next : sum (take (suc i) table.rows.counts) ≡ s + c = sum_by-next (λ (n : ℕ). n) table.rows.counts i c e in
    let le : s + c ≤ m = omega (arith, next, sum_by-take-le (λ (n : ℕ). n) table.rows.counts (suc i), counted) in
    let split : s + (m - s) ≡ m = omega (arith, le) in
    ap (λ n. take c (drop s (take n table.entries))) (sym split) ∙ (ap (take c) (drop-take s (m - s) table.entries) ∙ take-take c (m - s) (drop s table.entries) (omega (arith, le)))
