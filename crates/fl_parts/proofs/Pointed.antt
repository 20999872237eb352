-- The index of a table's points, as records come and pages are sealed.
use Rattle.std.proofs.Common.{◌≡◌, ℕ, zero, suc, ◌+◌, ◌<◌, ◌≤◌, Bool, Option, Some, option_map, List, [], ◌∷◌, ◌++◌, length, map, take, drop, refl, sym, ◌∙◌, ap, subst, arith, length-drop}
use Rattle.std.specs.Prelude.{unwrap_or, if◌then◌else◌}
use Rattle.std.specs.List.{slice_get, sum}
use Rattle.std.proofs.Math.Dec.{eqb-suc-zero}
use Rattle.std.proofs.lemmas.List.{take-append-le, drop-append-le}
use Rattle.std.proofs.lemmas.Option.{none-some}
use Rattle.fl_find.specs.Index.{IndexOf}
use Rattle.fl_find.specs.Standing.{HasPoints}
use Rattle.fl_find.specs.declared.index.KeyIndex.{KeyIndex}
use Rattle.fl_find.proofs.Firsts.{sum-cons}
use Rattle.fl_find.proofs.Points.{further, seals}
use Rattle.fl_model.specs.Facts.{IsTable}
use Rattle.fl_model.specs.Record.{Record, Plan}
use Rattle.fl_model.specs.Ring.{IsShape, oldest}
use Rattle.fl_model.specs.Row.{Row, stored_row}
use Rattle.fl_model.specs.Spline.{pages_from, page_key, points_of}
use Rattle.fl_model.specs.Table.{Table, Entry, first_key, DataRing, shape_of, first_pending, pending_entries, with_record, after_seal}
use Rattle.fl_spline.specs.Points.{IsFurther, last_of}

-- more entries behind the pages change nothing in them
pages-more : (number : ℕ) (counts : List ℕ) (entries more : List Entry) → sum counts ≤ length entries → pages_from number counts (entries ++ more) ≡ pages_from number counts entries
pages-more number [] entries more le = refl
pages-more number (zero ∷ counts) entries more le = let total = sum-cons 0 counts in pages-more (number + 1) counts entries more (omega (arith, total, le))
pages-more number (suc c ∷ counts) entries more le =
    let total = sum-cons (suc c) counts in
    let enough : suc c ≤ length entries = omega (arith, total, le) in
    let left = length-drop (suc c) entries in
    step (entries ++ more)
    ∙ (ap (λ (t : List Entry). (number, t) ∷ pages_from (number + 1) counts (drop (suc c) (entries ++ more))) (take-append-le (suc c) entries more enough)
    ∙ (ap (λ (d : List Entry). (number, take (suc c) entries) ∷ pages_from (number + 1) counts d) (drop-append-le (suc c) entries more enough)
    ∙ (ap (λ (l : List (ℕ × List Entry)). (number, take (suc c) entries) ∷ l) (pages-more (number + 1) counts (drop (suc c) entries) more (omega (arith, total, le, left)))
    ∙ sym (step entries))))
  where
    step : (es : List Entry) → pages_from number (suc c ∷ counts) es ≡ (number, take (suc c) es) ∷ pages_from (number + 1) counts (drop (suc c) es)
    step es = ap (λ (b : Bool). if b then pages_from (number + 1) counts es else (number, take (suc c) es) ∷ pages_from (number + 1) counts (drop (suc c) es)) (eqb-suc-zero c)

-- a record that is pending is on no page
pub points-added : (plan : Plan) (item : Record) (table : Table) → sum table.rows.counts ≤ length table.entries → HasPoints table → HasPoints (with_record plan item table)
points-added plan item table le points = record {
  older = points.older;
  points = points.points ∙ ap (λ (l : List (ℕ × ℕ)). points.older ++ l) (sym same);
  last = points.last ∙ ap last_of (sym same);
}
  where
    same : points_of (with_record plan item table) ≡ points_of table
    same = ap (map (λ (page : ℕ × List Entry). (page_key page, page.0))) (pages-more (oldest table.rows) table.rows.counts table.entries _ le)

pub points-sealed : (plan : Plan) (table : Table) → IsTable plan table → IsShape (shape_of plan DataRing) → HasPoints table → 0 < table.pending → HasPoints (after_seal plan DataRing table)
points-sealed plan table facts shape points some =
    let h = seals plan table facts shape points some in
    record { older = h.older; points = h.points; last = h.last }

-- the key of the first row that is pending
pub first-key : (table : Table) (row : Row) → slice_get (map stored_row (pending_entries table)) 0 ≡ Some row → first_pending table ≡ Some row.key
first-key table row = of (pending_entries table)
  where
    of : (es : List Entry) → slice_get (map stored_row es) 0 ≡ Some row → option_map (λ (e : Entry). e.kept.key) (slice_get es 0) ≡ Some row.key
    of [] h = absurd (none-some row h)
    of (e ∷ es) h = let same : stored_row e ≡ row = cc in ap (λ (r : Row). Some r.key) same

pub first-some : (entries : List Entry) → 0 < length entries → option_map (λ (e : Entry). e.kept.key) (slice_get entries 0) ≡ Some (first_key entries)
first-some [] some = absurd (omega (arith, some))
first-some (e ∷ es) some = refl

-- the point of a page that is sealed joins the others
pub index-sealed : {KNOTS SLOTS : ℕ} (plan : Plan) (table : Table) (index new : KeyIndex KNOTS SLOTS) (key number : ℕ) → IsTable plan table → HasPoints table → IndexOf plan.error table.points index →
    first_pending table ≡ Some key → number ≡ table.rows.next →
    ((error : ℕ) (points : List (ℕ × ℕ)) → IndexOf error points index → IsFurther points (key, number) → IndexOf error (points ++ (key, number) ∷ []) new) →
    IndexOf plan.error (after_seal plan DataRing table).points new
index-sealed plan table index new key number facts points of first at add =
    subst (λ (l : List (ℕ × ℕ)). IndexOf plan.error l new) joined
    (add plan.error table.points of (subst (λ n. IsFurther table.points (key, n)) (sym at) (further plan table facts points key first)))
  where
    joined : table.points ++ (key, number) ∷ [] ≡ (after_seal plan DataRing table).points
    joined = ap (λ n. table.points ++ (key, n) ∷ []) at
        ∙ sym (ap (λ (o : Option ℕ). table.points ++ unwrap_or (option_map (λ k. (k, table.rows.next) ∷ []) o) []) first)
