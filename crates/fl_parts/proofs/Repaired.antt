-- The mount of the data ring, in the words of its table.
use Rattle.std.proofs.Common.{◌≡◌, ℕ, ◌+◌, ◌-◌, ◌*◌, ◌≤◌, Bool, true, false, cond, ◌||◌, ◌&&◌, nat_lt, Option, Some, None, is_some, Result, List, [], ◌∷◌, ◌++◌, map, length, take, drop, refl, sym, ◌∙◌, ap, subst, arith, IsTrue}
use Rattle.std.proofs.lemmas.Bool.{ltb-true, ltb-false, or_parts}
use Rattle.std.proofs.lemmas.List.{take_all}
use Rattle.std.specs.List.{list_any, slice_get, sum}
use Rattle.fl_flash.specs.Flash.{FlashState}
use Rattle.fl_flash.specs.declared.flash.FlashFault.{FlashFault}
use Rattle.fl_model.specs.Record.{Plan}
use Rattle.fl_model.specs.Ring as model
use Rattle.fl_model.specs.Ring.{given_up}
use Rattle.fl_model.specs.Index.{IndexEntry}
use Rattle.fl_model.specs.Table.{Table, Entry, DataRing, shape_of, seal_page, lose, is_dirty}
use Rattle.fl_model.specs.Work.{Kind, Body, Mark, VoidMark, Erase, effect, Device}
use Rattle.fl_model.specs.Within.{repair_within}
use Rattle.fl_model.specs.Mount.{renumber, at_least_of}
use Rattle.fl_model.specs.Mount as numbering
use Rattle.fl_model.proofs.Pages.{page_with, pages_from}
use Rattle.fl_parts.proofs.Loose.{IsLoose}
use Rattle.fl_parts.proofs.MountKeeps.{loose-void, loose-erase, plain-void}
use Rattle.fl_parts.proofs.Plain.{IsPlainTable, plain-erase}
use Rattle.fl_ring.specs.Operations.{change, repair_kinds}
use Rattle.fl_ring.specs.Numbers.{renumbered}
use Rattle.fl_ring.specs.Ring.{RingState, voided, erased}
use Rattle.fl_ring.specs.Sealing.{Performed}
use Rattle.fl_ring.proofs.InTable.{of_ring, AreRepairs, erases-repair, repairs-front, repairs-come, repair-operations, TablePerformed, performed-lifts}
use Rattle.fl_parts.proofs.States.{shape_in, state_of, state-count, page-some}
use Rattle.fl_parts.proofs.VarFacts.{rest-of}
use Rattle.fl_parts.proofs.Sealed.{state-voided, state-erased}

-- nothing of the table is in memory
pub record IsIdle (table : Table) : Type 0 where
  pub pending : table.pending ≡ 0
  pub buffered : table.buffered ≡ []
  pub waiting : table.waiting ≡ []
  pub points : table.points ≡ []

pub idle-lost : (table : Table) → IsIdle table → table ≡ lose table
idle-lost table h =
    let all : take (length table.entries - table.pending) table.entries ≡ table.entries = take_all (length table.entries - table.pending) table.entries (omega (arith, h.pending)) in
    ap (λ (es : List Entry). record table { entries = es }) (sym all)
    ∙ (ap (λ (n : ℕ). record table { entries = take (length table.entries - table.pending) table.entries; pending = n }) h.pending
    ∙ (ap (λ (bytes : List ℕ). record table { entries = take (length table.entries - table.pending) table.entries; pending = 0; buffered = bytes }) h.buffered
    ∙ (ap (λ (ws : List IndexEntry). record table { entries = take (length table.entries - table.pending) table.entries; pending = 0; buffered = []; waiting = ws }) h.waiting
    ∙ ap (λ (ps : List (ℕ × ℕ)). record table { entries = take (length table.entries - table.pending) table.entries; pending = 0; buffered = []; waiting = []; points = ps }) h.points)))

pub lost-idle : (table : Table) → table ≡ lose table → IsIdle table
lost-idle table h = record {
  pending = ap (λ (t : Table). t.pending) h;
  buffered = ap (λ (t : Table). t.buffered) h;
  waiting = ap (λ (t : Table). t.waiting) h;
  points = ap (λ (t : Table). t.points) h;
}

-- the ring is renumbered as its table is
has_rows : (plan : Plan) (number c : ℕ) (entries : List Entry) → is_some (page_with plan number c entries) ≡ nat_lt 0 c
has_rows plan number c entries = by_test (nat_lt 0 c) refl
  where
    none : c ≡ 0 → page_with plan number c entries ≡ None
    none e = rw e refl

    by_test : (b : Bool) → nat_lt 0 c ≡ b → is_some (page_with plan number c entries) ≡ b
    by_test true e = ap is_some (page-some plan number c entries (ltb-true 0 c e))
    by_test false e = ap is_some (none (let k = ltb-false 0 c e in omega (arith, k)))

some_rows : (plan : Plan) (number : ℕ) (entries : List Entry) (counts : List ℕ) → list_any is_some (pages_from plan number entries counts) ≡ list_any (nat_lt 0) counts
some_rows plan number entries [] = refl
some_rows plan number entries (c ∷ counts) =
    ap (λ b. b || list_any is_some (pages_from plan (number + 1) (drop c entries) counts)) (has_rows plan number c entries)
    ∙ ap (λ b. nat_lt 0 c || b) (some_rows plan (number + 1) (drop c entries) counts)

-- void pages are the same with other numbers
void_pages : (plan : Plan) (number other : ℕ) (entries : List Entry) (counts : List ℕ) → list_any (nat_lt 0) counts ≡ false → pages_from plan number entries counts ≡ pages_from plan other entries counts
void_pages plan number other entries [] h = refl
void_pages plan number other entries (c ∷ counts) h =
    let parts = or_parts (nat_lt 0 c) (list_any (nat_lt 0) counts) h in
    let none : c ≡ 0 = let k = ltb-false 0 c parts.0 in omega (arith, k) in
    ap (λ (x : Option (List ℕ)). x ∷ pages_from plan (number + 1) (drop c entries) counts) (void number none ∙ sym (void other none))
    ∙ ap (λ (xs : List (Option (List ℕ))). page_with plan other c entries ∷ xs) (void_pages plan (number + 1) (other + 1) (drop c entries) counts parts.1)
  where
    void : (n : ℕ) → c ≡ 0 → page_with plan n c entries ≡ None
    void n e = ap (λ (k : ℕ). page_with plan n k entries) e

pub state-renumbered : (first : ℕ) (plan : Plan) (table : Table) → length table.rows.counts ≤ table.rows.next →
    renumbered (shape_in first plan) (at_least_of plan DataRing table) (state_of plan table) ≡ state_of plan (renumber plan DataRing table)
state-renumbered first plan table known =
    ap (λ b. cond b (state_of plan table) (record (state_of plan table) { next = number (length (state_of plan table).kept) })) (some_rows plan (model.oldest table.rows) table.entries table.rows.counts)
    ∙ by_test (list_any (nat_lt 0) table.rows.counts) refl
  where
    number : ℕ → ℕ
    number len = numbering.least_alike (plan.data_blocks * plan.geometry.block) table.rows.next (at_least_of plan DataRing table + len)

    by_test : (b : Bool) → list_any (nat_lt 0) table.rows.counts ≡ b →
        cond b (state_of plan table) (record (state_of plan table) { next = number (length (state_of plan table).kept) })
        ≡ state_of plan (record table { rows = cond b table.rows (record table.rows { next = number (length table.rows.counts) }) })
    by_test true e = refl
    by_test false e =
        ap (λ n. record (state_of plan table) { next = number n }) (state-count plan table)
        ∙ ap (λ (k : List (Option (List ℕ))). record { kept = k; next = number (length table.rows.counts); torn = table.rows.torn; dirty = table.rows.dirty })
        (void_pages plan (model.oldest table.rows) (number (length table.rows.counts) - length table.rows.counts) table.entries table.rows.counts e)

-- what a repair keeps of a table: nothing is in memory, and its other rings are the same
pub record IsRepaired (table now : Table) : Type 0 where
  pub idle : IsIdle now
  pub index : now.index ≡ table.index
  pub index_pages : now.index_pages ≡ table.index_pages
  pub var : now.var ≡ table.var
  pub var_pages : now.var_pages ≡ table.var_pages
  -- each record that it has the table had
  pub left : (i : ℕ) (entry : Entry) → slice_get now.entries i ≡ Some entry → (j : ℕ) × (slice_get table.entries j ≡ Some entry)

-- the facts on which a mount rests hold of a table, and all facts where they did
pub record IsHeld (Left : Type 0) (plan : Plan) (table : Table) : Type 0 where
  pub loose : IsLoose plan table
  pub plain : Left → IsPlainTable plan table

pub record IsRepairOf (Left : Type 0) (first : Table) (plan : Plan) (kinds : List Kind) (s : RingState) (table : Table) : Type 0 where
  pub state : s ≡ state_of plan (lose table)
  pub facts : IsHeld Left plan table
  pub repaired : IsRepaired first table
  pub come : AreRepairs (table.rows.torn ≡ true) kinds

not_dirty : (t d : Bool) → t ≡ true → (IsTrue (cond t d false) → ⊥) → d ≡ false
not_dirty true true e h = absurd (h refl)
not_dirty true false e h = refl
not_dirty false d e h = cc

repair-along : (Left : Type 0) (begin : Table) (first : ℕ) (plan : Plan) → model.IsShape (shape_of plan DataRing) → (kind : Kind) (kinds : List Kind) (s : RingState) (table : Table) →
    IsRepairOf Left begin plan (kind ∷ kinds) s table → IsRepairOf Left begin plan kinds (change (shape_in first plan) [] kind s) (effect plan DataRing kind table)
repair-along Left begin first plan shape Body kinds s table r = absurd r.come
repair-along Left begin first plan shape Mark kinds s table r = absurd r.come
repair-along Left begin first plan shape VoidMark kinds s table r =
    let after = seal_page plan DataRing 0 table in
    let clean = not_dirty table.rows.torn table.rows.dirty r.come.0 (λ b. r.facts.loose.rows.not_both (as_and table.rows.torn table.rows.dirty b)) in
    let idle : IsIdle after = record { pending = r.repaired.idle.pending; buffered = r.repaired.idle.buffered; waiting = r.repaired.idle.waiting; points = r.repaired.idle.points } in
    record {
      state = ap (voided (shape_in first plan)) (r.state ∙ ap (state_of plan) (sym (idle-lost table r.repaired.idle)))
          ∙ (state-voided first plan table shape r.facts.loose.rows.not_negative ∙ ap (state_of plan) (idle-lost after idle));
      facts = record {
        loose = loose-void plan table shape r.facts.loose r.repaired.idle.pending r.repaired.idle.waiting r.come.0 clean;
        plain = λ left. plain-void plan table shape (r.facts.plain left) r.repaired.idle.pending r.repaired.idle.waiting r.come.0 clean;
      };
      repaired = record {
        idle = idle;
        index = r.repaired.index;
        index_pages = r.repaired.index_pages;
        var = r.repaired.var;
        var_pages = r.repaired.var_pages;
        left = λ i entry e. let k = rest-of (sum (given_up (shape_of plan DataRing) 0 table.rows)) table.entries i entry e in r.repaired.left k.0 entry k.1;
      };
      come = erases-repair (after.rows.torn ≡ true) kinds r.come.1;
    }
  where
    as_and : (t d : Bool) → cond t d false ≡ true → (t && d) ≡ true
    as_and true d e = e
    as_and false d e = cc
repair-along Left begin first plan shape Erase kinds s table r = record {
  state = ap erased r.state ∙ state-erased plan table;
  facts = record { loose = loose-erase plan table r.facts.loose; plain = λ left. plain-erase plan table (r.facts.plain left) };
  repaired = record {
    idle = record { pending = r.repaired.idle.pending; buffered = r.repaired.idle.buffered; waiting = r.repaired.idle.waiting; points = r.repaired.idle.points };
    index = r.repaired.index;
    index_pages = r.repaired.index_pages;
    var = r.repaired.var;
    var_pages = r.repaired.var_pages;
    left = r.repaired.left;
  };
  come = erases-repair (table.rows.torn ≡ true) kinds r.come;
}

pub repair-kinds : (first : ℕ) (plan : Plan) (table : Table) → model.IsShape (shape_of plan DataRing) → length table.rows.counts ≤ table.rows.next →
    map (of_ring DataRing) (repair_kinds (shape_in first plan) (state_of plan table)) ≡ repair_within plan DataRing table
repair-kinds first plan table shape known = repair-operations DataRing plan table (shape_in first plan) (state_of plan table) refl (λ b e. dirt b)
  where
    dirt : (t : Bool) → (cond t (voided (shape_in first plan) (state_of plan table)) (state_of plan table)).dirty ≡ is_dirty DataRing (cond t (seal_page plan DataRing 0 table) table)
    dirt true = ap (λ (s : RingState). s.dirty) (state-voided first plan table shape known)
    dirt false = refl

-- a front of the repairs
pub repair-lifts : (Left : Type 0) (first : ℕ) (plan : Plan) (table : Table) (rose : Bool) (front others : List Kind) (device : Device) (result : Result (Unit {0}) FlashFault) (new : FlashState) →
    model.IsShape (shape_of plan DataRing) → IsHeld Left plan table → IsIdle table → repair_kinds (shape_in first plan) (state_of plan table) ≡ front ++ others →
    (h : Performed (shape_in first plan) (change (shape_in first plan) []) rose front device (state_of plan table) result new) →
    TablePerformed (IsRepairOf Left table plan) plan (map (of_ring DataRing) front) table rose device result new h.now.state
repair-lifts Left first plan table rose front others device result new shape facts idle split h =
    performed-lifts (IsRepairOf Left table plan) (shape_in first plan) plan DataRing [] (repair-along Left table first plan shape) rose front device (state_of plan table) table result new
    (record {
      state = ap (state_of plan) (idle-lost table idle);
      facts = facts;
      repaired = record { idle = idle; index = refl; index_pages = refl; var = refl; var_pages = refl; left = λ i entry e. (i, e) };
      come = repairs-front (table.rows.torn ≡ true) front others
          (subst (λ (ks : List Kind). AreRepairs (table.rows.torn ≡ true) ks) split (repairs-come (table.rows.torn ≡ true) (shape_in first plan) (state_of plan table) (λ e. e)));
    }) h
