-- The next page of a ring after the mount of its table: one more where a torn page was given up.
use Rattle.std.proofs.Common.{◌≡◌, ◌⊎◌, ℕ, ◌+◌, ◌*◌, ◌%◌, ◌<◌, Bool, true, false, cond, nat_lt, Option, Some, option_map, unwrap_or, inl, inr, List, [], ◌∷◌, ◌++◌, length, map, refl, sym, ◌∙◌, ap, subst, arith}
use Rattle.std.specs.List.{list_any}
use Rattle.std.proofs.Math.Nat.{mod-add-mod}
use Rattle.fl_model.specs.Mount.{Turn, Of, turned, renumber, renumbered, least_alike, at_least_of, rings_of}
use Rattle.fl_model.specs.Record.{Plan, has_index, has_var}
use Rattle.fl_model.specs.Ring.{Shape, Ring, sealed, erased}
use Rattle.fl_model.specs.Table.{Table, RingName, DataRing, IndexRing, VarRing, shape_of, is_torn, is_dirty, seal_page}
use Rattle.fl_model.specs.Within.{TableMounts, TableMounted, TableStopped, TableUnread, TableGoesOn, all_done, effect_within, turn_within}
use Rattle.fl_model.specs.Work.{VoidMark, Erase, Device, PartEnd, Whole, CutIn, FailedIn, PartProgress}
use Rattle.fl_model.proofs.Performs.{performs-whole}
use Rattle.fl_model.proofs.Sealed.{sealed-next}
use Rattle.fl_ring.specs.Head.{one}
use Rattle.fl_ring.proofs.SamePlaces.{least_is_alike}

-- what a turn makes of a table
abbrev turn_done : Plan → Turn → Table → Table
turn_done plan turn table = all_done (effect_within plan) (turn_within plan turn (turned plan turn table)) (turned plan turn table)

-- a mount that ended well goes on behind its first turn
record IsBehind (plan : Plan) (rose : Bool) (turn : Turn) (turns : List Turn) (table : Table) (now : PartProgress Table) : Type 0 where
  device : Device
  did : TableMounts plan rose turns device (turn_done plan turn table) (TableMounted now)

mounted-behind : (plan : Plan) (rose : Bool) (turn : Turn) (turns : List Turn) (device : Device) (table : Table) (now : PartProgress Table) → TableMounts plan rose (turn ∷ turns) device table (TableMounted now) → IsBehind plan rose turn turns table now
mounted-behind plan rose turn turns device table now (inl h) = absurd (no h.0 h.2)
  where
    no : (n : PartProgress Table) → TableMounted now ≡ TableUnread n → ⊥
    no n e = cc
mounted-behind plan rose turn turns device table now (inr h) = by-end h.0.end refl h.2
  where
    no : (n : PartProgress Table) → TableMounted now ≡ TableStopped n → ⊥
    no n e = cc

    by-end : (e : PartEnd Table) → h.0.end ≡ e → TableGoesOn e h.0 (TableMounted now) (TableMounts plan rose turns h.0.device h.0.state (TableMounted now)) → IsBehind plan rose turn turns table now
    by-end Whole e k = record {
      device = h.0.device;
      did = subst (λ (s : Table). TableMounts plan rose turns h.0.device s (TableMounted now))
          (performs-whole (λ operation. operation.1) (effect_within plan) rose (turn_within plan turn (turned plan turn table)) device (turned plan turn table) h.0 h.1 e).0 k;
    }
    by-end (CutIn b) e k = absurd (no h.0 k)
    by-end (FailedIn b) e k = absurd (no h.0 k)

-- no turn is left
mounted-last : (plan : Plan) (rose : Bool) (device : Device) (table : Table) (now : PartProgress Table) → TableMounts plan rose [] device table (TableMounted now) → now.state ≡ table
mounted-last plan rose device table now h = ap (λ (p : PartProgress Table). p.state) (same h)
  where
    same : {a b : PartProgress Table} → TableMounted a ≡ TableMounted b → a ≡ b
    same e = cc

-- the number after the repair of a ring that got its numbers back
module _ (shape : Shape) (some : 0 < shape.blocks * shape.pages) where
  -- its place among the pages of the ring
  abbrev pub IsNextOf : Ring → Ring → Type 0
  IsNextOf before after = after.next % (shape.blocks * shape.pages) ≡ (before.next + one before.torn) % (shape.blocks * shape.pages)

  renumbered-next : (least : ℕ) (ring : Ring) → ((renumbered shape least ring).next % (shape.blocks * shape.pages) ≡ ring.next % (shape.blocks * shape.pages)) × ((renumbered shape least ring).torn ≡ ring.torn)
  renumbered-next least ring = by-any (list_any (nat_lt 0) ring.counts)
    where
      by-any : (any : Bool) → ((cond any ring (record ring { next = least_alike (shape.blocks * shape.pages) ring.next (least + length ring.counts) })).next % (shape.blocks * shape.pages) ≡ ring.next % (shape.blocks * shape.pages))
          × ((cond any ring (record ring { next = least_alike (shape.blocks * shape.pages) ring.next (least + length ring.counts) })).torn ≡ ring.torn)
      by-any true = (refl, refl)
      by-any false = (least_is_alike (shape.blocks * shape.pages) ring.next (least + length ring.counts) some, refl)

  repaired-next : (least : ℕ) (ring after : Ring) → after.next ≡ (renumbered shape least ring).next + one (renumbered shape least ring).torn → IsNextOf ring after
  repaired-next least ring after e =
      let r = renumbered-next least ring in
      let room = shape.blocks * shape.pages in
      ap (λ (n : ℕ). n % room) e
      ∙ ap (λ (t : Bool). ((renumbered shape least ring).next + one t) % room) r.1
      ∙ add-alike (renumbered shape least ring).next ring.next (one ring.torn) r.0
    where
      add-alike : (a b k : ℕ) → a % (shape.blocks * shape.pages) ≡ b % (shape.blocks * shape.pages) → (a + k) % (shape.blocks * shape.pages) ≡ (b + k) % (shape.blocks * shape.pages)
      add-alike a b k same = sym (mod-add-mod a (shape.blocks * shape.pages) k) ∙ ap (λ (n : ℕ). (n + k) % (shape.blocks * shape.pages)) same ∙ mod-add-mod b (shape.blocks * shape.pages) k

-- The turns of the other rings leave a ring as it is.
rows-still : (plan : Plan) (a d : Bool) (ring : RingName) (table : Table) → (ring ≡ IndexRing) ⊎ (ring ≡ VarRing) →
    (all_done (effect_within plan) ((cond a ((ring, VoidMark) ∷ []) []) ++ (cond d ((ring, Erase) ∷ []) [])) table).rows ≡ table.rows
rows-still plan a d ring table (inl is) = subst (λ (r : RingName). (all_done (effect_within plan) ((cond a ((r, VoidMark) ∷ []) []) ++ (cond d ((r, Erase) ∷ []) [])) table).rows ≡ table.rows) (sym is) (by-tests a d)
  where
    by-tests : (a d : Bool) → (all_done (effect_within plan) ((cond a ((IndexRing, VoidMark) ∷ []) []) ++ (cond d ((IndexRing, Erase) ∷ []) [])) table).rows ≡ table.rows
    by-tests true true = refl
    by-tests true false = refl
    by-tests false true = refl
    by-tests false false = refl
rows-still plan a d ring table (inr is) = subst (λ (r : RingName). (all_done (effect_within plan) ((cond a ((r, VoidMark) ∷ []) []) ++ (cond d ((r, Erase) ∷ []) [])) table).rows ≡ table.rows) (sym is) (by-tests a d)
  where
    by-tests : (a d : Bool) → (all_done (effect_within plan) ((cond a ((VarRing, VoidMark) ∷ []) []) ++ (cond d ((VarRing, Erase) ∷ []) [])) table).rows ≡ table.rows
    by-tests true true = refl
    by-tests true false = refl
    by-tests false true = refl
    by-tests false false = refl

index-still : (plan : Plan) (a d : Bool) (ring : RingName) (table : Table) → (ring ≡ DataRing) ⊎ (ring ≡ VarRing) →
    (all_done (effect_within plan) ((cond a ((ring, VoidMark) ∷ []) []) ++ (cond d ((ring, Erase) ∷ []) [])) table).index ≡ table.index
index-still plan a d ring table (inl is) = subst (λ (r : RingName). (all_done (effect_within plan) ((cond a ((r, VoidMark) ∷ []) []) ++ (cond d ((r, Erase) ∷ []) [])) table).index ≡ table.index) (sym is) (by-tests a d)
  where
    by-tests : (a d : Bool) → (all_done (effect_within plan) ((cond a ((DataRing, VoidMark) ∷ []) []) ++ (cond d ((DataRing, Erase) ∷ []) [])) table).index ≡ table.index
    by-tests true true = refl
    by-tests true false = refl
    by-tests false true = refl
    by-tests false false = refl
index-still plan a d ring table (inr is) = subst (λ (r : RingName). (all_done (effect_within plan) ((cond a ((r, VoidMark) ∷ []) []) ++ (cond d ((r, Erase) ∷ []) [])) table).index ≡ table.index) (sym is) (by-tests a d)
  where
    by-tests : (a d : Bool) → (all_done (effect_within plan) ((cond a ((VarRing, VoidMark) ∷ []) []) ++ (cond d ((VarRing, Erase) ∷ []) [])) table).index ≡ table.index
    by-tests true true = refl
    by-tests true false = refl
    by-tests false true = refl
    by-tests false false = refl

-- the operations of a repair: a torn page is given up, and a block that waits is erased
data-done : (plan : Plan) (a d : Bool) (table : Table) → (all_done (effect_within plan) ((cond a ((DataRing, VoidMark) ∷ []) []) ++ (cond d ((DataRing, Erase) ∷ []) [])) table).rows.next ≡ table.rows.next + one a
data-done plan true true table = sealed-next (shape_of plan DataRing) 0 table.rows
data-done plan true false table = sealed-next (shape_of plan DataRing) 0 table.rows
data-done plan false true table = omega arith
data-done plan false false table = omega arith

record HasNext (index : Option Ring) (next : ℕ) : Type 0 where
  ring : Ring
  is : index ≡ Some ring
  next_is : ring.next ≡ next

index-done : (plan : Plan) (a d : Bool) (table : Table) (ring : Ring) → table.index ≡ Some ring →
    HasNext (all_done (effect_within plan) ((cond a ((IndexRing, VoidMark) ∷ []) []) ++ (cond d ((IndexRing, Erase) ∷ []) [])) table).index (ring.next + one a)
index-done plan true true table ring is = record {
  ring = erased (sealed (shape_of plan IndexRing) 0 ring);
  is = ap (λ (o : Option Ring). option_map erased (option_map (sealed (shape_of plan IndexRing) 0) o)) is;
  next_is = sealed-next (shape_of plan IndexRing) 0 ring;
}
index-done plan true false table ring is = record { ring = sealed (shape_of plan IndexRing) 0 ring; is = ap (λ (o : Option Ring). option_map (sealed (shape_of plan IndexRing) 0) o) is; next_is = sealed-next (shape_of plan IndexRing) 0 ring }
index-done plan false true table ring is = record { ring = erased ring; is = ap (λ (o : Option Ring). option_map erased o) is; next_is = omega arith }
index-done plan false false table ring is = record { ring = ring; is = is; next_is = omega arith }

-- The mount of a table's rings ended well.
module _ (plan : Plan) (rose : Bool) (table : Table) (now : PartProgress Table) where
  var-behind : (b : Bool) (device : Device) (mid : Table) → TableMounts plan rose (map (λ (ring : RingName). Of ring) (cond b (VarRing ∷ []) [])) device mid (TableMounted now) → (now.state.rows ≡ mid.rows) × (now.state.index ≡ mid.index)
  var-behind false device mid h = let e = mounted-last plan rose device mid now h in (ap (λ (t : Table). t.rows) e, ap (λ (t : Table). t.index) e)
  var-behind true device mid h =
      let k = mounted-behind plan rose (Of VarRing) [] device mid now h in
      let e = mounted-last plan rose k.device (turn_done plan (Of VarRing) mid) now k.did in
      let t = renumber plan VarRing mid in
      let a = is_torn VarRing t in
      let d = is_dirty VarRing (cond a (seal_page plan VarRing 0 t) t) in (
        ap (λ (x : Table). x.rows) e ∙ rows-still plan a d VarRing t (inr refl),
        ap (λ (x : Table). x.index) e ∙ index-still plan a d VarRing t (inr refl),
      )

  record IsDataNext (start : Table) : Type 0 where
    next : (0 < plan.data_blocks * plan.geometry.block) → now.state.rows.next % (plan.data_blocks * plan.geometry.block) ≡ (start.rows.next + one start.rows.torn) % (plan.data_blocks * plan.geometry.block)
    index : now.state.index ≡ start.index

  data-behind : (device : Device) (mid : Table) → TableMounts plan rose (map (λ (ring : RingName). Of ring) (DataRing ∷ [] ++ (cond (has_var plan) (VarRing ∷ []) []))) device mid (TableMounted now) → IsDataNext mid
  data-behind device mid h =
      let k = mounted-behind plan rose (Of DataRing) (map (λ (ring : RingName). Of ring) (cond (has_var plan) (VarRing ∷ []) [])) device mid now h in
      let e = var-behind (has_var plan) k.device (turn_done plan (Of DataRing) mid) k.did in
      let t = renumber plan DataRing mid in
      let d = is_dirty DataRing (cond t.rows.torn (seal_page plan DataRing 0 t) t) in
      record {
        next = λ some. repaired-next (shape_of plan DataRing) some (at_least_of plan DataRing mid) mid.rows now.state.rows (ap (λ (r : Ring). r.next) e.0 ∙ data-done plan t.rows.torn d t);
        index = e.1 ∙ index-still plan t.rows.torn d DataRing t (inl refl);
      }

  -- of the data ring
  pub data-next : (device : Device) → 0 < plan.data_blocks * plan.geometry.block → TableMounts plan rose (map (λ (ring : RingName). Of ring) (rings_of plan)) device table (TableMounted now) →
      now.state.rows.next % (plan.data_blocks * plan.geometry.block) ≡ (table.rows.next + one table.rows.torn) % (plan.data_blocks * plan.geometry.block)
  data-next device some h = by-index (has_index plan) h
    where
      by-index : (b : Bool) → TableMounts plan rose (map (λ (ring : RingName). Of ring) ((cond b (IndexRing ∷ []) []) ++ DataRing ∷ [] ++ (cond (has_var plan) (VarRing ∷ []) []))) device table (TableMounted now) →
          now.state.rows.next % (plan.data_blocks * plan.geometry.block) ≡ (table.rows.next + one table.rows.torn) % (plan.data_blocks * plan.geometry.block)
      by-index false h = (data-behind device table h).next some
      by-index true h =
          let k = mounted-behind plan rose (Of IndexRing) (map (λ (ring : RingName). Of ring) (DataRing ∷ [] ++ (cond (has_var plan) (VarRing ∷ []) []))) device table now h in
          let t = renumber plan IndexRing table in
          let a = is_torn IndexRing t in
          let d = is_dirty IndexRing (cond a (seal_page plan IndexRing 0 t) t) in
          (data-behind k.device (turn_done plan (Of IndexRing) table) k.did).next some
          ∙ ap (λ (r : Ring). (r.next + one r.torn) % (plan.data_blocks * plan.geometry.block)) (rows-still plan a d IndexRing t (inl refl))

  -- .. and of the index ring
  pub record IsIndexNext (before : Ring) : Type 0 where
    pub ring : Ring
    pub is : now.state.index ≡ Some ring
    pub next : ring.next % (plan.index_blocks * plan.geometry.block) ≡ (before.next + one before.torn) % (plan.index_blocks * plan.geometry.block)

  pub index-next : (device : Device) (before : Ring) → 0 < plan.index_blocks * plan.geometry.block → has_index plan ≡ true → table.index ≡ Some before →
      TableMounts plan rose (map (λ (ring : RingName). Of ring) (rings_of plan)) device table (TableMounted now) → IsIndexNext before
  index-next device before some has is h =
      let h' = subst (λ (b : Bool). TableMounts plan rose (map (λ (ring : RingName). Of ring) ((cond b (IndexRing ∷ []) []) ++ DataRing ∷ [] ++ (cond (has_var plan) (VarRing ∷ []) []))) device table (TableMounted now)) has h in
      let k = mounted-behind plan rose (Of IndexRing) (map (λ (ring : RingName). Of ring) (DataRing ∷ [] ++ (cond (has_var plan) (VarRing ∷ []) []))) device table now h' in
      let t = renumber plan IndexRing table in
      let numbered = renumbered (shape_of plan IndexRing) 0 before in
      let there : t.index ≡ Some numbered = ap (λ (o : Option Ring). option_map (renumbered (shape_of plan IndexRing) 0) o) is in
      let torn : is_torn IndexRing t ≡ numbered.torn = ap (λ (o : Option Ring). unwrap_or (option_map (λ (r : Ring). r.torn) o) false) there in
      let a = is_torn IndexRing t in
      let d = is_dirty IndexRing (cond a (seal_page plan IndexRing 0 t) t) in
      let done = index-done plan a d t numbered there in
      record {
        ring = done.ring;
        is = (data-behind k.device (turn_done plan (Of IndexRing) table) k.did).index ∙ done.is;
        next = repaired-next (shape_of plan IndexRing) some 0 before done.ring (done.next_is ∙ ap (λ (b : Bool). numbered.next + one b) torn);
      }
