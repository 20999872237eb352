-- Operations of an index ring, and what they leave as it is: all else of their table.
use Rattle.std.proofs.Common.{◌≡◌, ℕ, suc, ◌+◌, ◌*◌, ◌<◌, ◌≤◌, Bool, true, false, cond, Option, Some, None, IfSome, option_map, List, [], ◌∷◌, length, refl, sym, ◌∙◌, ap, subst, arith, ◌⊎◌, inl, ◌&&◌, ◌==◌}
use Rattle.std.proofs.Math.Path.{fun_ext}
use Rattle.std.proofs.Math.Nat.{mod-lt, add-mul}
use Rattle.std.specs.List.{AllByRecursion}
use Rattle.fl_index.specs.declared.index.BitmapIndex.{BitmapIndex}
use Rattle.fl_index.specs.Memory as memory
use Rattle.fl_index.specs.Standing as standing
use Rattle.fl_index.specs.Standing.{HasIndex}
use Rattle.fl_index.proofs.SealEnds.{planned-ring}
use Rattle.fl_model.specs.Facts.{is_some_ring, counts_in}
use Rattle.fl_model.specs.Image.{IsRingImage, HoldsRows, HoldsEntries}
use Rattle.fl_model.specs.Index.{IndexEntry, IndexPage}
use Rattle.fl_model.specs.Mount.{index_end}
use Rattle.fl_model.specs.Record.{Plan, has_index, entries_per_page}
use Rattle.fl_model.specs.Ring as model
use Rattle.fl_model.specs.Ring.{oldest}
use Rattle.fl_model.specs.Table.{Table, RingName, DataRing, IndexRing, VarRing, LogRing, shape_of, full_pages, is_dirty, seal_buffer, lose, spent_from, after_seals}
use Rattle.fl_model.specs.Work.{Kind, Body, Mark, VoidMark, Erase}
use Rattle.fl_model.specs.Within.{seal_within, effect_within, all_done}
use Rattle.fl_ring.specs.Ring.{Shape, OutsideStands}
use Rattle.fl_parts.proofs.Fronts.{IsNumberedTo, erased-number, up_to, begun_number, sealed_number}
use Rattle.fl_parts.specs.Bitmaps.{ArePlanned, StandOutside, bitmap_seals}
use Rattle.fl_parts.specs.Pages.{HoldsTable, bytes_in, place_in}
use Rattle.fl_parts.proofs.BlobTables.{HoldsVar}
use Rattle.fl_parts.proofs.BlobsOfTable.{var-behind, var-same}
use Rattle.fl_parts.proofs.Plain.{IsPlainTable, IsIndexed, blobbed-moved, stand-as}
use Rattle.fl_parts.proofs.ListsStay.{HoldsIndexed}

-- operations of an index ring alone
abbrev pub IsOfIndex : RingName → Type 0
IsOfIndex IndexRing = Unit {0}
IsOfIndex DataRing = ⊥
IsOfIndex VarRing = ⊥
IsOfIndex LogRing = ⊥

abbrev pub AreOfIndex : List (RingName × Kind) → Type 0
AreOfIndex operations = AllByRecursion (λ operation. IsOfIndex operation.0) operations

-- they leave all else of the table
abbrev pub with_index : Table → Option model.Ring → List IndexPage → List IndexEntry → Table
with_index table index pages waiting = record table { index = index; index_pages = pages; waiting = waiting }

abbrev pub IsBeside : Table → Table → Type 0
IsBeside table new = (index : Option model.Ring) × (pages : List IndexPage) × (waiting : List IndexEntry) × (new ≡ with_index table index pages waiting)

pub beside-done : (plan : Plan) (table t : Table) (front : List (RingName × Kind)) → AreOfIndex front → IsBeside table t → IsBeside table (all_done (effect_within plan) front t)
beside-done plan table t [] h b = b
beside-done plan table t ((IndexRing, Body) ∷ front) h b = beside-done plan table (effect_within plan (IndexRing, Body) t) front h.1 (_, _, _, ap (effect_within plan (IndexRing, Body)) b.3)
beside-done plan table t ((IndexRing, Mark) ∷ front) h b = beside-done plan table (effect_within plan (IndexRing, Mark) t) front h.1 (_, _, _, ap (effect_within plan (IndexRing, Mark)) b.3)
beside-done plan table t ((IndexRing, VoidMark) ∷ front) h b = beside-done plan table (effect_within plan (IndexRing, VoidMark) t) front h.1 (_, _, _, ap (effect_within plan (IndexRing, VoidMark)) b.3)
beside-done plan table t ((IndexRing, Erase) ∷ front) h b = beside-done plan table (effect_within plan (IndexRing, Erase) t) front h.1 (_, _, _, ap (effect_within plan (IndexRing, Erase)) b.3)
beside-done plan table t ((DataRing, kind) ∷ front) h b = absurd h.0
beside-done plan table t ((VarRing, kind) ∷ front) h b = absurd h.0
beside-done plan table t ((LogRing, kind) ∷ front) h b = absurd h.0

pub number-done : (plan : Plan) (n : ℕ) (t : Table) (front : List (RingName × Kind)) → AreOfIndex front → IsNumberedTo n t.index → IsNumberedTo (n + length front) (all_done (effect_within plan) front t).index
number-done plan n t [] h k = up_to n (n + 0) t.index (omega arith) k
number-done plan n t ((IndexRing, kind) ∷ front) h k =
    up_to (n + 1 + length front) (n + suc (length front)) (all_done (effect_within plan) front (effect_within plan (IndexRing, kind) t)).index (omega arith)
    (number-done plan (n + 1) (effect_within plan (IndexRing, kind) t) front h.1 (one kind))
  where
    one : (kind : Kind) → IsNumberedTo (n + 1) (effect_within plan (IndexRing, kind) t).index
    one Body = begun_number n t.index k
    one Mark = sealed_number n (shape_of plan IndexRing) (entries_per_page plan) t.index k
    one VoidMark = sealed_number n (shape_of plan IndexRing) 0 t.index k
    one Erase = up_to n (n + 1) (option_map model.erased t.index) (omega arith) (erased-number n t.index k)
number-done plan n t ((DataRing, kind) ∷ front) h k = absurd h.0
number-done plan n t ((VarRing, kind) ∷ front) h k = absurd h.0
number-done plan n t ((LogRing, kind) ∷ front) h k = absurd h.0

-- the operations of a seal are of the index ring, and at most three
pub seal-of_index : (plan : Plan) (table : Table) → AreOfIndex (seal_within plan IndexRing table)
seal-of_index plan table = (tt, (tt, erase (is_dirty IndexRing (seal_buffer plan IndexRing table))))
  where
    erase : (b : Bool) → AreOfIndex (cond b ((IndexRing, Erase) ∷ []) [])
    erase true = (tt, tt)
    erase false = tt

-- the facts of a table whose index has these
pub indexed-of : (plan : Plan) (table : Table) (ring : model.Ring) → has_index plan ≡ true → HasIndex plan table ring → ring.next + (cond ring.torn 1 0) ≤ 4294967292 → ((table.pending ≡ 0 → ⊥) → ring.next ≤ spent_from + 64) →
    (oldest table.rows < index_end plan table → 0 < length table.rows.counts → table.rows.next + (cond table.rows.torn 1 0) ≤ spent_from + 1) → IsIndexed plan table
indexed-of plan table ring some h number pending listed = record {
  has = ap is_some_ring h.ring_is ∙ sym some;
  ring = subst (λ (o : Option model.Ring). IfSome o (model.IsRing (shape_of plan IndexRing))) (sym h.ring_is) h.is_ring;
  counts = subst (λ (o : Option model.Ring). AllByRecursion (λ count. (count ≡ 0) ⊎ (count ≡ entries_per_page plan)) (counts_in o)) (sym h.ring_is) h.counts;
  each = h.index_each ∙ ap (λ (o : Option model.Ring). full_pages (counts_in o)) (sym h.ring_is);
  fit = h.index_fit;
  firsts = h.firsts;
  waiting = λ t. h.waiting;
  listed = h.listed;
  tell = h.tell;
  wait = h.wait;
  number = subst (λ (o : Option model.Ring). IfSome o (λ r. r.next + (cond r.torn 1 0) ≤ 4294967292)) (sym h.ring_is) number;
  number_pending = λ p. subst (λ (o : Option model.Ring). IfSome o (λ r. r.next ≤ spent_from + 64)) (sym h.ring_is) (pending p);
  number_listed = listed;
}

-- the facts of a table beside whose index nothing changed
pub facts-with_index : (plan : Plan) (table : Table) (index : Option model.Ring) (pages : List IndexPage) (waiting : List IndexEntry) → IsPlainTable plan table → IsIndexed plan (with_index table index pages waiting) → IsPlainTable plan (with_index table index pages waiting)
facts-with_index plan table index pages waiting h indexed = record {
  plain = h.plain;
  bare = h.bare;
  rows = h.rows;
  kept = h.kept;
  few_pending = h.few_pending;
  index = indexed;
  blobs = blobbed-moved plan table (with_index table index pages waiting) refl refl h.blobs.fill (λ p. p) h.blobs.blobs (stand-as plan table (with_index table index pages waiting) refl (λ ring number. refl) h.blobs.stand) h.blobs;
  number = h.number;
  number_pending = h.number_pending;
}

pub beside-facts : (plan : Plan) (table new : Table) → IsBeside table new → IsPlainTable plan table → IsIndexed plan new → IsPlainTable plan new
beside-facts plan table new b h index = subst (IsPlainTable plan) (sym b.3) (facts-with_index plan table b.0 b.1 b.2 h (subst (IsIndexed plan) b.3 index))

-- the pages of the data ring lie before the index ring
pub rows-stand : (old new : ℕ → List ℕ) (first : ℕ) (plan : Plan) (r : Shape) → 0 < plan.data_blocks * plan.geometry.block → r.first ≡ (first + plan.data_blocks) * plan.geometry.block → OutsideStands r old new → (n : ℕ) → bytes_in new first plan DataRing n ≡ bytes_in old first plan DataRing n
rows-stand old new first plan r some at stands n =
    let small = mod-lt n some in
    stands (place_in first plan DataRing n) (inl (omega (arith, at, small, add-mul first plan.data_blocks plan.geometry.block)))

-- .. and those of variable data behind it
pub var-stand : (bitmaps : Option BitmapIndex) (old new : ℕ → List ℕ) (first : ℕ) (plan : Plan) → ArePlanned bitmaps (first + plan.data_blocks) plan → StandOutside bitmaps old new → (n : ℕ) → bytes_in new first plan VarRing n ≡ bytes_in old first plan VarRing n
var-stand None old new first plan planned outside n = outside (place_in first plan VarRing n)
var-stand (Some index) old new first plan planned outside n =
    let at = planned-ring index (first + plan.data_blocks) plan planned in
    var-behind old new first plan (memory.ring_shape index) (ap (λ (r : Shape). r.first) at) (ap (λ (r : Shape). r.blocks * r.per_block) at) outside n

pub rows-same : (old new : ℕ → List ℕ) (first : ℕ) (plan : Plan) (table : Table) → ((n : ℕ) → bytes_in new first plan DataRing n ≡ bytes_in old first plan DataRing n) →
    IsRingImage (shape_of plan DataRing) table.rows (bytes_in old first plan DataRing) (HoldsRows plan table) → IsRingImage (shape_of plan DataRing) table.rows (bytes_in new first plan DataRing) (HoldsRows plan table)
rows-same old new first plan table same h = subst (λ (at : ℕ → List ℕ). IsRingImage (shape_of plan DataRing) table.rows at (HoldsRows plan table)) (sym (fun_ext (λ n. same n))) h

-- the pages of the index ring
pub holds-indexed : (page : ℕ → List ℕ) (first : ℕ) (plan : Plan) (table : Table) (ring : model.Ring) → table.index ≡ Some ring → standing.HoldsIndex page (first + plan.data_blocks) plan table ring → HoldsIndexed page first plan table
holds-indexed page first plan table ring is h = subst (λ (o : Option model.Ring). IfSome o (λ r. IsRingImage (shape_of plan IndexRing) r (bytes_in page first plan IndexRing) (HoldsEntries plan table r))) (sym is) h

-- what is lost of both
pub lose-beside : (table new : Table) → IsBeside table new → IsBeside (lose table) (lose new)
lose-beside table new b = (b.0, b.1, [], ap lose b.3)

-- its pages on a flash
pub holds-beside : (old new : ℕ → List ℕ) (first : ℕ) (plan : Plan) (table after : Table) → IsBeside table after → ((n : ℕ) → bytes_in new first plan DataRing n ≡ bytes_in old first plan DataRing n) →
    ((n : ℕ) → bytes_in new first plan VarRing n ≡ bytes_in old first plan VarRing n) → HoldsTable old first plan table → HoldsIndexed new first plan after → HoldsTable new first plan after
holds-beside old new first plan table after b same same_var h indexed = record {
  rows = subst (λ (t : Table). IsRingImage (shape_of plan DataRing) t.rows (bytes_in new first plan DataRing) (HoldsRows plan t)) (sym b.3) (rows-same old new first plan table same h.rows);
  index = indexed;
  var = subst (λ (t : Table). HoldsVar new first plan t) (sym b.3) (var-same old new first plan table same_var h.var);
}

-- a seal of the waiting bitmaps leaves all else
pub beside-bitmaps : (plan : Plan) (table : Table) → IsBeside table (after_seals plan (bitmap_seals plan table) table)
beside-bitmaps plan table = by_index (has_index plan && (length table.waiting == entries_per_page plan))
  where
    by_index : (b : Bool) → IsBeside table (after_seals plan (cond b (IndexRing ∷ []) []) table)
    by_index true = (_, _, _, refl)
    by_index false = (table.index, table.index_pages, table.waiting, refl)
