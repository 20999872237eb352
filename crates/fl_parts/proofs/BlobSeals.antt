-- What the seals of variable data make of their table.
use Rattle.std.proofs.Common.{◌≡◌, ℕ, suc, ◌+◌, ◌-◌, ◌*◌, ◌<◌, ◌≤◌, inl, Bool, true, false, cond, Option, Some, None, IfSome, option_map, List, [], ◌∷◌, length, refl, sym, ◌∙◌, ap, subst, arith, length-append}
use Rattle.std.proofs.Math.Path.{fun_ext}
use Rattle.std.proofs.Math.Nat.{mod-lt, add-mul}
use Rattle.std.proofs.lemmas.List.{take_all}
use Rattle.std.specs.List.{AllByRecursion}
use Rattle.std.proofs.lemmas.Option.{same_Some}
use Rattle.fl_flash.specs.Flash.{FlashState, page_at}
use Rattle.fl_flash.specs.declared.flash.FlashFault.{FlashFault}
use Rattle.fl_model.specs.Agrees.{BlobsOf}
use Rattle.fl_model.specs.Content.{ContentPage}
use Rattle.fl_model.specs.Image.{IsRingImage, HoldsRows, HoldsEntries}
use Rattle.fl_model.specs.Record.{Plan}
use Rattle.fl_model.specs.Ring as model
use Rattle.fl_model.specs.Table.{Table, Entry, RingName, DataRing, IndexRing, VarRing, LogRing, shape_of, is_dirty, seal_buffer, after_seal, after_seals, lose, written}
use Rattle.fl_model.specs.Within.{seal_within, seals_within, effect_within, all_done}
use Rattle.fl_model.specs.Work.{Kind, Body, Mark, VoidMark, Erase, Device}
use Rattle.fl_model.proofs.Fronts.{IsFront, performed-front}
use Rattle.fl_model.proofs.Lists.{each-append, each-front}
use Rattle.fl_ring.specs.Ring.{OutsideStands}
use Rattle.fl_parts.specs.Blobs.{AreIn, IsPlanned, IsStanding}
use Rattle.fl_parts.specs.Pages.{HoldsTable, Rests, bytes_in, place_in}
use Rattle.fl_parts.proofs.BlobSteps.{AreVar}
use Rattle.fl_parts.proofs.VarFacts.{HasVar, blobs-in, front-of, var-begun, var-erased, var-sealed}
use Rattle.fl_parts.proofs.BlobTables.{HoldsVar, IsBlobbed, planned-var, ring-blobbed, ring-holds, standing-holds, var-shape}
use Rattle.fl_parts.proofs.TablePages.{lost-twice}
use Rattle.fl_parts.proofs.Fronts.{IsNumberedTo, up_to, begun_number, sealed_number, erased-number}
use Rattle.fl_parts.proofs.Plain.{IsPlainTable, table-facts}
use Rattle.fl_var.specs.Memory.{next_in, page_in, var_shape}
use Rattle.fl_var.specs.Placing.{Breaks}
use Rattle.fl_var.specs.Standing.{IsVarRing}
use Rattle.fl_var.specs.declared.var_data.VarData.{VarData}

-- operations of the ring of variable data alone
abbrev pub IsOfVar : RingName → Type 0
IsOfVar VarRing = Unit {0}
IsOfVar DataRing = ⊥
IsOfVar IndexRing = ⊥
IsOfVar LogRing = ⊥

abbrev pub AreOfVar : List (RingName × Kind) → Type 0
AreOfVar operations = AllByRecursion (λ operation. IsOfVar operation.0) operations

-- those of a seal are at most three
seal_of : (plan : Plan) (table : Table) → AreOfVar (seal_within plan VarRing table)
seal_of plan table = (tt, (tt, erase (is_dirty VarRing (seal_buffer plan VarRing table))))
  where
    erase : (b : Bool) → AreOfVar (cond b ((VarRing, Erase) ∷ []) [])
    erase true = (tt, tt)
    erase false = tt

seal_few : (plan : Plan) (table : Table) → length (seal_within plan VarRing table) ≤ 3
seal_few plan table = erase (is_dirty VarRing (seal_buffer plan VarRing table))
  where
    erase : (b : Bool) → length {A = RingName × Kind} ((VarRing, Body) ∷ (VarRing, Mark) ∷ (cond b ((VarRing, Erase) ∷ []) [])) ≤ 3
    erase true = omega arith
    erase false = omega arith

pub seals-of_var : (plan : Plan) (seals : List RingName) (table : Table) → AreVar seals → AreOfVar (seals_within plan seals table)
seals-of_var plan [] table are = tt
seals-of_var plan (VarRing ∷ seals) table are =
    each-append (λ (operation : RingName × Kind). IsOfVar operation.0) (seal_within plan VarRing table) (seals_within plan seals (after_seal plan VarRing table)) (seal_of plan table) (seals-of_var plan seals (after_seal plan VarRing table) are)
seals-of_var plan (DataRing ∷ seals) table are = absurd are
seals-of_var plan (IndexRing ∷ seals) table are = absurd are
seals-of_var plan (LogRing ∷ seals) table are = absurd are

pub seals-few : (plan : Plan) (seals : List RingName) (table : Table) → AreVar seals → length (seals_within plan seals table) ≤ 3 * length seals
seals-few plan [] table are = omega arith
seals-few plan (VarRing ∷ seals) table are =
    let one = seal_few plan table in
    let rest = seals-few plan seals (after_seal plan VarRing table) are in
    omega (arith, length-append (seal_within plan VarRing table) (seals_within plan seals (after_seal plan VarRing table)), one, rest)
seals-few plan (DataRing ∷ seals) table are = absurd are
seals-few plan (IndexRing ∷ seals) table are = absurd are
seals-few plan (LogRing ∷ seals) table are = absurd are

-- they leave all else of the table
abbrev pub with_var : Table → Option model.Ring → List ContentPage → List ℕ → Table
with_var table ring pages bytes = record table { var = ring; var_pages = pages; buffered = bytes }

abbrev pub IsBesideVar : Table → Table → Type 0
IsBesideVar table new = (ring : Option model.Ring) × (pages : List ContentPage) × (bytes : List ℕ) × (new ≡ with_var table ring pages bytes)

pub left-var : (plan : Plan) (table t : Table) (front : List (RingName × Kind)) → AreOfVar front → IsBesideVar table t → IsBesideVar table (all_done (effect_within plan) front t)
left-var plan table t [] h b = b
left-var plan table t ((VarRing, Body) ∷ front) h b = left-var plan table (effect_within plan (VarRing, Body) t) front h.1 (_, _, _, ap (effect_within plan (VarRing, Body)) b.3)
left-var plan table t ((VarRing, Mark) ∷ front) h b = left-var plan table (effect_within plan (VarRing, Mark) t) front h.1 (_, _, _, ap (effect_within plan (VarRing, Mark)) b.3)
left-var plan table t ((VarRing, VoidMark) ∷ front) h b = left-var plan table (effect_within plan (VarRing, VoidMark) t) front h.1 (_, _, _, ap (effect_within plan (VarRing, VoidMark)) b.3)
left-var plan table t ((VarRing, Erase) ∷ front) h b = left-var plan table (effect_within plan (VarRing, Erase) t) front h.1 (_, _, _, ap (effect_within plan (VarRing, Erase)) b.3)
left-var plan table t ((DataRing, kind) ∷ front) h b = absurd h.0
left-var plan table t ((IndexRing, kind) ∷ front) h b = absurd h.0
left-var plan table t ((LogRing, kind) ∷ front) h b = absurd h.0

-- each raises the number of the ring by one at most
number-done : (plan : Plan) (n : ℕ) (t : Table) (front : List (RingName × Kind)) → AreOfVar front → IsNumberedTo n t.var → IsNumberedTo (n + length front) (all_done (effect_within plan) front t).var
number-done plan n t [] h k = up_to n (n + 0) t.var (omega arith) k
number-done plan n t ((VarRing, kind) ∷ front) h k =
    up_to (n + 1 + length front) (n + suc (length front)) (all_done (effect_within plan) front (effect_within plan (VarRing, kind) t)).var (omega arith)
    (number-done plan (n + 1) (effect_within plan (VarRing, kind) t) front h.1 (one kind))
  where
    one : (kind : Kind) → IsNumberedTo (n + 1) (effect_within plan (VarRing, kind) t).var
    one Body = begun_number n t.var k
    one Mark = sealed_number n (shape_of plan VarRing) 1 t.var k
    one VoidMark = sealed_number n (shape_of plan VarRing) 0 t.var k
    one Erase = up_to n (n + 1) (option_map model.erased t.var) (omega arith) (erased-number n t.var k)
number-done plan n t ((DataRing, kind) ∷ front) h k = absurd h.0
number-done plan n t ((IndexRing, kind) ∷ front) h k = absurd h.0
number-done plan n t ((LogRing, kind) ∷ front) h k = absurd h.0

-- ---- what the ring keeps

-- operations of seals alone
abbrev IsSealing : RingName × Kind → Type 0
IsSealing (VarRing, Body) = Unit {0}
IsSealing (VarRing, Mark) = Unit {0}
IsSealing (VarRing, Erase) = Unit {0}
IsSealing _ = ⊥

abbrev AreSealing : List (RingName × Kind) → Type 0
AreSealing operations = AllByRecursion IsSealing operations

seals_sealing : (plan : Plan) (seals : List RingName) (table : Table) → AreVar seals → AreSealing (seals_within plan seals table)
seals_sealing plan [] table are = tt
seals_sealing plan (VarRing ∷ seals) table are =
    each-append IsSealing (seal_within plan VarRing table) (seals_within plan seals (after_seal plan VarRing table)) (tt, (tt, erase (is_dirty VarRing (seal_buffer plan VarRing table)))) (seals_sealing plan seals (after_seal plan VarRing table) are)
  where
    erase : (b : Bool) → AreSealing (cond b ((VarRing, Erase) ∷ []) [])
    erase true = (tt, tt)
    erase false = tt
seals_sealing plan (DataRing ∷ seals) table are = absurd are
seals_sealing plan (IndexRing ∷ seals) table are = absurd are
seals_sealing plan (LogRing ∷ seals) table are = absurd are

done_keeps : (plan : Plan) (t : Table) (ring : model.Ring) (front : List (RingName × Kind)) → model.IsShape (shape_of plan VarRing) → AreSealing front → HasVar plan t ring → (r : model.Ring) × HasVar plan (all_done (effect_within plan) front t) r
done_keeps plan t ring [] shape h k = (ring, k)
done_keeps plan t ring ((VarRing, Body) ∷ front) shape h k = done_keeps plan (effect_within plan (VarRing, Body) t) (model.begun ring) front shape h.1 (var-begun plan t ring k)
done_keeps plan t ring ((VarRing, Mark) ∷ front) shape h k = done_keeps plan (effect_within plan (VarRing, Mark) t) (model.sealed (shape_of plan VarRing) 1 ring) front shape h.1 (var-sealed plan t ring shape k)
done_keeps plan t ring ((VarRing, Erase) ∷ front) shape h k = done_keeps plan (effect_within plan (VarRing, Erase) t) (model.erased ring) front shape h.1 (var-erased plan t ring k)
done_keeps plan t ring ((VarRing, VoidMark) ∷ front) shape h k = absurd h.0
done_keeps plan t ring ((DataRing, kind) ∷ front) shape h k = absurd h.0
done_keeps plan t ring ((IndexRing, kind) ∷ front) shape h k = absurd h.0
done_keeps plan t ring ((LogRing, kind) ∷ front) shape h k = absurd h.0

-- after whole seals too
pub seals-keep : (plan : Plan) (t : Table) (ring : model.Ring) (seals : List RingName) → model.IsShape (shape_of plan VarRing) → AreVar seals → HasVar plan t ring → (r : model.Ring) → (after_seals plan seals t).var ≡ Some r → HasVar plan (after_seals plan seals t) r
seals-keep plan t ring [] shape are h r is = subst (HasVar plan t) (same_Some ring r (sym h.is ∙ is)) h
seals-keep plan t ring (VarRing ∷ seals) shape are h r is =
    seals-keep plan (after_seal plan VarRing t) (model.erased (model.sealed (shape_of plan VarRing) 1 ring)) seals shape are
    (var-erased plan (seal_buffer plan VarRing t) (model.sealed (shape_of plan VarRing) 1 ring) (var-sealed plan t ring shape h)) r is
seals-keep plan t ring (DataRing ∷ seals) shape are h r is = absurd are
seals-keep plan t ring (IndexRing ∷ seals) shape are h r is = absurd are
seals-keep plan t ring (LogRing ∷ seals) shape are h r is = absurd are

-- ---- the table with other variable data

pub facts-with_var : (plan : Plan) (table : Table) (ring : Option model.Ring) (pages : List ContentPage) (bytes : List ℕ) → IsPlainTable plan table → IsBlobbed plan (with_var table ring pages bytes) → IsPlainTable plan (with_var table ring pages bytes)
facts-with_var plan table ring pages bytes h blobs = record {
  plain = h.plain;
  bare = h.bare;
  rows = h.rows;
  kept = h.kept;
  few_pending = h.few_pending;
  index = record {
    has = h.index.has;
    ring = h.index.ring;
    counts = h.index.counts;
    each = h.index.each;
    fit = h.index.fit;
    firsts = h.index.firsts;
    waiting = h.index.waiting;
    listed = h.index.listed;
    tell = h.index.tell;
    wait = h.index.wait;
    number = h.index.number;
    number_pending = h.index.number_pending;
    number_listed = h.index.number_listed;
  };
  blobs = blobs;
  number = h.number;
  number_pending = h.number_pending;
}

-- the pages of the data ring and of the index lie before those of variable data
pub before-var : (v : VarData) (old new : ℕ → List ℕ) (first : ℕ) (plan : Plan) → IsPlanned v (first + plan.data_blocks + plan.index_blocks) plan → OutsideStands (var_shape v) old new → (n : ℕ) →
    (0 < plan.data_blocks * plan.geometry.block → bytes_in new first plan DataRing n ≡ bytes_in old first plan DataRing n) × (0 < plan.index_blocks * plan.geometry.block → bytes_in new first plan IndexRing n ≡ bytes_in old first plan IndexRing n)
before-var v old new first plan planned stands n =
    let all : (first + plan.data_blocks + plan.index_blocks) * plan.geometry.block ≡ first * plan.geometry.block + plan.data_blocks * plan.geometry.block + plan.index_blocks * plan.geometry.block =
    add-mul (first + plan.data_blocks) plan.index_blocks plan.geometry.block ∙ ap (λ k. k + plan.index_blocks * plan.geometry.block) (add-mul first plan.data_blocks plan.geometry.block) in (
      λ some. stands (place_in first plan DataRing n) (inl (omega (arith, planned.begins, all, mod-lt n some))),
      λ some. stands (place_in first plan IndexRing n) (inl (omega (arith, planned.begins, all, add-mul first plan.data_blocks plan.geometry.block, mod-lt n some))),
    )

-- what the flash holds of such a table
pub holds-with_var : (v : VarData) (old new : ℕ → List ℕ) (first : ℕ) (plan : Plan) (table : Table) (ring : Option model.Ring) (pages : List ContentPage) (bytes : List ℕ) → IsPlanned v (first + plan.data_blocks + plan.index_blocks) plan → OutsideStands (var_shape v) old new →
    0 < plan.data_blocks * plan.geometry.block → ((r : model.Ring) → table.index ≡ Some r → 0 < plan.index_blocks * plan.geometry.block) → HoldsTable old first plan table → HoldsVar new first plan (with_var table ring pages bytes) →
    HoldsTable new first plan (with_var table ring pages bytes)
holds-with_var v old new first plan table ring pages bytes planned outside rows index h var = record {
  rows = moved (subst (λ (at : ℕ → List ℕ). IsRingImage (shape_of plan DataRing) table.rows at (HoldsRows plan table)) (sym (fun_ext (λ n. (before-var v old new first plan planned outside n).0 rows))) h.rows);
  index = by_index table.index index h.index;
  var = var;
}
  where
    -- the rows are the same
    moved : IsRingImage (shape_of plan DataRing) table.rows (bytes_in new first plan DataRing) (HoldsRows plan table) → IsRingImage (shape_of plan DataRing) table.rows (bytes_in new first plan DataRing) (HoldsRows plan (with_var table ring pages bytes))
    moved image = image

    by_index : (o : Option model.Ring) → ((r : model.Ring) → o ≡ Some r → 0 < plan.index_blocks * plan.geometry.block) → IfSome o (λ r. IsRingImage (shape_of plan IndexRing) r (bytes_in old first plan IndexRing) (HoldsEntries plan table r)) →
        IfSome o (λ r. IsRingImage (shape_of plan IndexRing) r (bytes_in new first plan IndexRing) (HoldsEntries plan (with_var table ring pages bytes) r))
    by_index None some k = tt
    by_index (Some r) some k =
        subst (λ (at : ℕ → List ℕ). IsRingImage (shape_of plan IndexRing) r at (HoldsEntries plan table r)) (sym (fun_ext (λ n. (before-var v old new first plan planned outside n).1 (some r refl)))) k

-- ---- a seal that failed

-- .. from a table as what is in memory alone would be lost, whatever joined it
module _ (v : VarData) (f new : FlashState) (first : ℕ) (plan : Plan) (table : Table) (ring : model.Ring) (seals : List RingName) (are : AreVar seals) (lost : IsPlainTable plan (lose table)) (planned : IsPlanned v (first + plan.data_blocks + plan.index_blocks) plan)
    (has : HasVar plan table ring) (whole : ring.torn ≡ false) (next : next_in v ≡ ring.next)
    (holds : HoldsTable (page_at f) first plan (lose table)) (outside : OutsideStands (var_shape v) (page_at f) (page_at new)) (rows : 0 < plan.data_blocks * plan.geometry.block)
    (index : (r : model.Ring) → table.index ≡ Some r → 0 < plan.index_blocks * plan.geometry.block) (left : next_in v + 3 * length seals ≤ 4294967292)
    (rose : Bool) (device : Device) (fault : FlashFault) (b : Breaks plan seals table rose device fault v new) where
  front : IsFront (effect_within plan) (seals_within plan seals table) table b.now.state
  front = performed-front plan rose (seals_within plan seals table) device table b.now b.did

  of_front : AreOfVar front.front
  of_front = each-front (λ (operation : RingName × Kind). IsOfVar operation.0) front.front front.others (subst AreOfVar front.split (seals-of_var plan seals table are))

  beside : IsBesideVar table b.now.state
  beside = subst (IsBesideVar table) (sym front.state) (left-var plan table table front.front of_front (table.var, table.var_pages, table.buffered, refl))

  kept : HasVar plan b.now.state b.ring
  kept =
      let come = each-front IsSealing front.front front.others (subst AreSealing front.split (seals_sealing plan seals table are)) in
      let k = done_keeps plan table ring front.front (var-shape v (first + plan.data_blocks + plan.index_blocks) plan planned) come has in
      let here = subst (λ (t : Table). HasVar plan t k.0) (sym front.state) k.1 in
      subst (HasVar plan b.now.state) (same_Some k.0 b.ring (sym here.is ∙ b.ring_is)) here

  torn : ◌≡◌ {A = ℕ} (cond ring.torn 1 0) 0
  torn = ap {B = ℕ} (λ x. cond x 1 0) whole

  number : b.ring.next + (cond b.ring.torn 1 0) ≤ 4294967292
  number =
      let first_number : IsNumberedTo (next_in v) table.var = subst (IsNumberedTo (next_in v)) (sym has.is) (omega (arith, next, torn)) in
      let last = subst (IsNumberedTo (next_in v + length front.front)) (sym (ap (λ (t : Table). t.var) front.state) ∙ b.ring_is) (number-done plan (next_in v) table front.front of_front first_number) in
      omega (arith, last, left, seals-few plan seals table are, ap length front.split, length-append front.front front.others)

  pub blobs-break : Rests new first plan (lose b.now.state)
  blobs-break = subst (λ (t : Table). Rests new first plan (lose t)) (sym beside.3) rests
    where
      ring_is : beside.0 ≡ Some b.ring
      ring_is = sym (ap (λ (t : Table). t.var) beside.3) ∙ b.ring_is

      pages_are : b.now.state.var_pages ≡ beside.1
      pages_are = ap (λ (t : Table). t.var_pages) beside.3

      pages : IsVarRing plan beside.1 b.ring (page_in v new)
      pages = subst (λ (ps : List ContentPage). IsVarRing plan ps b.ring (page_in v new)) pages_are b.pages

      there : HasVar plan (with_var table beside.0 beside.1 beside.2) b.ring
      there = subst (λ (t : Table). HasVar plan t b.ring) beside.3 kept

      -- nothing pending is left
      twice : written (lose (with_var table beside.0 beside.1 beside.2)) ≡ written table
      twice = take_all (length (written table) - 0) (written table) (omega arith)

      inside : AreIn plan b.ring (written (lose (with_var table beside.0 beside.1 beside.2)))
      inside = subst (λ (es : List Entry). AreIn plan b.ring es) (sym twice) there.written

      stand : BlobsOf plan (lose (with_var table beside.0 beside.1 beside.2)) b.ring
      stand = blobs-in plan (with_var table beside.0 beside.1 beside.2) (lose (with_var table beside.0 beside.1 beside.2)) b.ring (front-of (length table.entries - table.pending) table.entries) refl there.written there.stand

      blobbed : IsBlobbed plan (lose (with_var table beside.0 beside.1 beside.2))
      blobbed = ring-blobbed plan (lose (with_var table beside.0 beside.1 beside.2)) b.ring (page_in v new) ring_is (planned-var v (first + plan.data_blocks + plan.index_blocks) plan planned) pages inside stand (omega arith) number (λ p. absurd (p refl))

      rests : Rests new first plan (lose (with_var table beside.0 beside.1 beside.2))
      rests = record {
        settled = record {
          facts = table-facts plan (lose (with_var table beside.0 beside.1 beside.2)) (facts-with_var plan (lose table) beside.0 beside.1 [] lost blobbed);
          lost = lost-twice (with_var table beside.0 beside.1 beside.2);
        };
        pages = holds-with_var v (page_at f) (page_at new) first plan (lose table) beside.0 beside.1 [] planned outside rows index holds
            (ring-holds v new first plan (lose (with_var table beside.0 beside.1 beside.2)) b.ring planned ring_is pages);
      }

-- ---- seals that were all done

pub blobs-finish : (v w : VarData) (f new : FlashState) (first : ℕ) (plan : Plan) (table after : Table) (beside : IsBesideVar table after) → IsPlanned v (first + plan.data_blocks + plan.index_blocks) plan →
    HoldsTable (page_at f) first plan (lose table) → OutsideStands (var_shape v) (page_at f) (page_at new) → 0 < plan.data_blocks * plan.geometry.block →
    ((r : model.Ring) → table.index ≡ Some r → 0 < plan.index_blocks * plan.geometry.block) → IsStanding w new (first + plan.data_blocks + plan.index_blocks) plan after → HoldsTable (page_at new) first plan (lose after)
blobs-finish v w f new first plan table after beside planned holds outside rows index stands =
    let var = standing-holds w new first plan after stands in
    subst (λ (t : Table). HoldsTable (page_at new) first plan (lose t)) (sym beside.3)
    (holds-with_var v (page_at f) (page_at new) first plan (lose table) beside.0 beside.1 [] planned outside rows index holds (subst (λ (t : Table). HoldsVar (page_at new) first plan (lose t)) beside.3 var))
