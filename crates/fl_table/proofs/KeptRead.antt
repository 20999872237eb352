-- What a kept page of a table reads as.
use Rattle.std.proofs.Common.{◌≡◌, ℕ, ◌+◌, ◌-◌, ◌<◌, ◌≤◌, Bool, true, false, Option, Some, option_map, unwrap_or, Result, Ok, Err, List, length, map, drop, refl, sym, ◌∙◌, ap, subst, arith}
use Rattle.std.specs.List.{slice_get}
use Rattle.fl_flash.specs.Flash.{FlashState, page_at}
use Rattle.fl_flash.specs.Places.{extent}
use Rattle.fl_mark.specs.Mark.{state_of_page}
use Rattle.fl_mark.specs.declared.page_state.PageState.{PageState}
use Rattle.fl_mark.specs.declared.page_state.PageState.TheVariants.{Committed}
use Rattle.fl_model.specs.Image.{rows_at}
use Rattle.fl_model.specs.Record.{Plan, RowLayout, row_layout, row_len, layout_len}
use Rattle.fl_model.specs.Ring as rings
use Rattle.fl_model.specs.Row.{stored_row}
use Rattle.fl_model.specs.Table as model
use Rattle.fl_model.specs.Table.{lose}
use Rattle.fl_parts.proofs.Loose.{IsLoose, loose-of}
use Rattle.fl_parts.proofs.Plain.{IsPlainTable, table-parts, plain-lose}
use Rattle.fl_page.specs.Header.{page_count}
use Rattle.fl_page.specs.Page.{IsGoodPage, rows_in}
use Rattle.fl_page.specs.declared.fault.ReadFault.{ReadFault}
use Rattle.fl_page.specs.declared.fault.ReadFault.TheVariants.{Flash, BadPage}
use Rattle.fl_ring.specs.Place.{shape_of}
use Rattle.fl_ring.specs.Ring.{place}
use Rattle.fl_ring.specs.declared.ring.Ring.{Ring}
use Rattle.fl_schema.specs.Schema.{layout_of, types_of}
use Rattle.fl_page.proofs.RowsFrom.{length-rows_from}
use Rattle.fl_parts.specs.Kept.{IsFound, ShowsRows}
use Rattle.fl_parts.proofs.RowsFound.{has-rows, rows-lose}
use Rattle.fl_table.specs.Look.{place_of}
use Rattle.fl_table.specs.Memory.{LiesOn}
use Rattle.fl_table.specs.Standing.{Stands}
use Rattle.fl_table.specs.declared.table.Table.{Table}
use Rattle.fl_parts.proofs.TablePages.{plain-on}
use Rattle.fl_parts.proofs.KeptPages.{kept, length-kept}
use Rattle.fl_table.proofs.SealAnswers.{planned-ring, planned-large, lies-size}
use Rattle.fl_parts.proofs.States.{shape_in}
use Rattle.fl_find.specs.Pages.{rows_on, rows_where}

-- where a number stands
pub ring-place : {KNOTS SLOTS : ℕ} (t : Table KNOTS SLOTS) (ring : Ring) (number : ℕ) → t.ring ≡ Some ring → place_of t number ≡ place (shape_of ring) number
ring-place t ring number is = ap (λ (r : Option Ring). unwrap_or (option_map (λ ring. place (shape_of ring) number) r) 0) is

pub place-is : {KNOTS SLOTS : ℕ} (t : Table KNOTS SLOTS) (f : FlashState) (first : ℕ) (plan : Plan) (table : model.Table) (number : ℕ) → Stands t f first plan table → place_of t number ≡ place (shape_in first plan) number
place-is t f first plan table number stands =
    ring-place t stands.memory.ring number stands.memory.ring_is ∙ ap (λ s. place s number) (t.lies stands.memory.ring stands.memory.ring_is ∙ planned-ring t first plan stands.planned)

module _ {KNOTS SLOTS : ℕ} (t : Table KNOTS SLOTS) (f : FlashState) (first : ℕ) (plan : Plan) (table : model.Table) (stands : Stands t f first plan table) (lies : LiesOn t f) (reaches : f.start + extent f.geometry f.blocks ≤ length f.media.content)
    (i c : ℕ) (e : slice_get table.rows.counts i ≡ Some c) where
  abbrev page : List ℕ
  page = page_at f (place (shape_in first plan) (rings.oldest table.rows + i))

  limit : plan.blob_limit ≤ 1500
  limit = omega (arith, stands.planned.limit, t.blobs_fit)

  facts : IsPlainTable plan table
  facts = table-parts plan table stands.planned.log stands.facts

  layout-is : layout_of t.schema ≡ row_layout plan
  layout-is = sym stands.planned.layout

  len-is : row_len plan ≡ layout_len (layout_of t.schema)
  len-is = ap layout_len stands.planned.layout

  size-is : plan.geometry.page ≡ t.geometry.page
  size-is = ap (λ g. g.page) stands.planned.geometry

  pub record IsShown : Type 0 where
    pub good : state_of_page page ≡ Committed → IsGoodPage (row_layout plan) (rings.oldest table.rows + i) page
    pub rows : rows_on (row_layout plan) page ≡ map stored_row (rows_at (lose table) i c)
    pub many : length (rows_on (row_layout plan) page) ≡ c

  pub shown : IsShown
  shown =
      let sizes = lies-size t f first plan stands.planned lies.geometry lies.within reaches in
      let large = planned-large t first plan stands.planned in
      let lost : IsLoose plan (lose table) = loose-of plan (lose table) (plain-lose plan table facts) in
      let room : row_len plan + 24 ≤ plan.geometry.page = omega (arith, t.room_for_row, len-is, size-is) in
      let some : 1 ≤ row_len plan = omega (arith, t.some_row, len-is) in
      let short : plan.geometry.page ≤ 4096 = omega (arith, t.served.page_greatest, size-is) in
      let on = plain-on (page_at f) first plan (lose table) sizes large lost.rows stands.pages in
      let k = kept (page_at f) first plan (lose table) t.schema.key (types_of t.schema) t.schema.blobs layout-is limit lost refl large room some short sizes on i c e in
      record {
        good = k.good;
        rows = k.rows;
        many = length-kept (page_at f) first plan (lose table) t.schema.key (types_of t.schema) t.schema.blobs layout-is limit lost refl large room some short sizes on i c e;
      }

  -- its rows where it is committed, and it is committed just where it has some
  rows-of : state_of_page page ≡ Committed → rows_in (row_layout plan) page ≡ map stored_row (rows_at table i c)
  rows-of s =
      sym (ap (λ (x : PageState). rows_where x (row_layout plan) page) s) ∙ (shown.rows ∙ ap (map stored_row) (rows-lose table i c e stands.facts.counted))

  some-of : state_of_page page ≡ Committed → 0 < c
  some-of s =
      let many : length (rows_in (row_layout plan) page) ≡ c = sym (ap (λ (x : PageState). length (rows_where x (row_layout plan) page)) s) ∙ shown.many in
      omega (arith, many, length-rows_from (page_count page) (row_layout plan) (drop 16 page), (shown.good s).some)

  none-of : (state_of_page page ≡ Committed → ⊥) → c ≡ 0
  none-of other = sym shown.many ∙ has-rows (row_layout plan) page (state_of_page page) other

  shows-page : (result : Result Bool ReadFault) → IsFound (row_layout plan) (rings.oldest table.rows + i) page result → ShowsRows plan table i c page result
  shows-page (Ok true) h = (some-of h.0, rows-of h.0)
  shows-page (Ok false) h = none-of h
  shows-page (Err (BadPage bad)) h = h.1 (shown.good h.0)
  shows-page (Err (Flash fault)) h = tt

-- the same for the bytes of a number that were read
pub shows-rows : {KNOTS SLOTS : ℕ} (t : Table KNOTS SLOTS) (f : FlashState) (first : ℕ) (plan : Plan) (table : model.Table) → Stands t f first plan table → LiesOn t f → f.start + extent f.geometry f.blocks ≤ length f.media.content →
    (number c : ℕ) → rings.oldest table.rows ≤ number → slice_get table.rows.counts (number - rings.oldest table.rows) ≡ Some c →
    (bytes : List ℕ) → bytes ≡ page_at f (place_of t number) →
    (result : Result Bool ReadFault) → IsFound (layout_of t.schema) number bytes result → ShowsRows plan table (number - rings.oldest table.rows) c bytes result
shows-rows t f first plan table stands lies reaches number c low e bytes is result found =
    let i = number - rings.oldest table.rows in
    let here : number ≡ rings.oldest table.rows + i = omega (arith, low) in
    let at : bytes ≡ page_at f (place (shape_in first plan) (rings.oldest table.rows + i)) =
    is ∙ ap (page_at f) (place-is t f first plan table number stands ∙ ap (place (shape_in first plan)) here) in
    let found_there : IsFound (row_layout plan) (rings.oldest table.rows + i) (page_at f (place (shape_in first plan) (rings.oldest table.rows + i))) result =
    subst (λ (p : List ℕ). IsFound (row_layout plan) (rings.oldest table.rows + i) p result) at
    (subst (λ n. IsFound (row_layout plan) n bytes result) here (subst (λ (l : RowLayout). IsFound l number bytes result) (sym stands.planned.layout) found)) in
    subst (λ (p : List ℕ). ShowsRows plan table i c p result) (sym at) (shows-page t f first plan table stands lies reaches i c e result found_there)
