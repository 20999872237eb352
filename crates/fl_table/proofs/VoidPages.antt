-- The void pages of a table, as pages are sealed and given up.
use Rattle.std.proofs.Common.{◌≡◌, ℕ, ◌-◌, ◌%◌, ◌<◌, ◌==◌, Some, List, length, map, take, get_or, sym, ◌∙◌, ap, arith}
use Rattle.std.proofs.lemmas.List.FromFn.{take-map-range_with_len}
use Rattle.std.specs.List.{count_by, range_with_len}
use Rattle.std.proofs.lemmas.Option.{same_Some}
use Rattle.fl_flash.specs.Flash.{FlashState}
use Rattle.fl_model.specs.Record.{Plan}
use Rattle.fl_model.specs.Ring as model
use Rattle.fl_model.specs.Spline.{voids_of}
use Rattle.fl_model.specs.Table.{Table, DataRing, shape_of, after_seal}
use Rattle.fl_ring.specs.Place.{oldest_of}
use Rattle.fl_ring.specs.declared.ring.Ring.{Ring}
use Rattle.fl_parts.proofs.VoidPages.{voids_in, gives-up}
use Rattle.fl_table.specs.Look.{oldest_in, rows_noted, kept_counts}
use Rattle.fl_table.specs.Memory.{next_in}
use Rattle.fl_table.specs.Standing.{Stands}
use Rattle.fl_table.specs.declared.table.Table as code
use Rattle.fl_table.proofs.MemoryTells.{oldest-is, pages-is, kept-is}

-- what the notes in memory tell of them
pub voids-told : {KNOTS SLOTS : ℕ} (t : code.Table KNOTS SLOTS) (f : FlashState) (first : ℕ) (plan : Plan) (table : Table) → Stands t f first plan table → (ring : Ring) (counts : List ℕ) (from to gone voids : ℕ) → t.ring ≡ Some ring → from ≡ oldest_of ring →
    to ≡ model.oldest (after_seal plan DataRing table).rows → model.IsShape (shape_of plan DataRing) → 0 < table.pending → counts ≡ t.counts.items →
    gone ≡ count_by (λ count. count == 0) (map (λ n. get_or counts (n % length counts) 0) (range_with_len from (to - from))) → voids ≡ t.voids - gone →
    voids ≡ voids_of (after_seal plan DataRing table)
voids-told t f first plan table stands ring counts from to gone voids is at next shape some same told left =
    let g = gives-up plan table shape stands.facts.rows some in
    let old : from ≡ model.oldest table.rows = at ∙ ap oldest_of (same_Some ring stands.memory.ring (sym is ∙ stands.memory.ring_is)) ∙ stands.memory.oldest in
    let k : to - from ≡ model.oldest (after_seal plan DataRing table).rows - model.oldest table.rows = omega (arith, next, old) in
    let kept : take (model.oldest (after_seal plan DataRing table).rows - model.oldest table.rows) (kept_counts t)
    ≡ map (rows_noted t) (range_with_len (oldest_in t) (model.oldest (after_seal plan DataRing table).rows - model.oldest table.rows)) =
    take-map-range_with_len (rows_noted t) (oldest_in t) (next_in t - oldest_in t) (model.oldest (after_seal plan DataRing table).rows - model.oldest table.rows) (omega (arith, g.few, pages-is t f first plan table stands)) in
    let noted : map (λ n. get_or counts (n % length counts) 0) (range_with_len from (to - from)) ≡ take (model.oldest (after_seal plan DataRing table).rows - model.oldest table.rows) table.rows.counts =
    ap (λ (l : List ℕ). map (λ n. get_or l (n % length l) 0) (range_with_len from (to - from))) same
    ∙ (ap (λ m. map (λ n. get_or t.counts.items (n % m) 0) (range_with_len from (to - from))) (sym t.counts.ok.0)
    ∙ (ap (λ a. map (rows_noted t) (range_with_len a (to - from))) (old ∙ sym (oldest-is t f first plan table stands))
    ∙ (ap (λ m. map (rows_noted t) (range_with_len (oldest_in t) m)) k ∙ (sym kept ∙ ap (take (model.oldest (after_seal plan DataRing table).rows - model.oldest table.rows)) (kept-is t f first plan table stands))))) in
    omega (arith, left, told, ap (λ (l : List ℕ). voids_in l) noted, g.voids, stands.memory.voids)
