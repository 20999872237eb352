-- The operations on the index ring are those of its table.
use Rattle.std.proofs.Common.{◌≡◌, ℕ, ◌+◌, ◌-◌, ◌^◌, ◌<◌, ◌≤◌, ◌⊎◌, inl, inr, Bool, true, false, cond, ◌&&◌, Option, Some, None, Result, List, [], ◌∷◌, ◌++◌, length, take, drop, refl, sym, ◌∙◌, ap, subst, arith, IsTrue}
use Rattle.std.proofs.lemmas.List.{append-nil, length_push}
use Rattle.std.specs.List.{slice_get, AllByRecursion}
use Rattle.std.specs.Option.{option_map, unwrap_or}
use Rattle.std.proofs.lemmas.Option.{none-some, same_Some}
use Rattle.fl_flash.specs.Flash.{FlashState}
use Rattle.fl_flash.specs.declared.flash.FlashFault.{FlashFault}
use Rattle.fl_model.specs.Record.{Plan, entries_per_page}
use Rattle.fl_model.specs.Ring as model
use Rattle.fl_model.specs.Table.{Table, RingName, IndexRing, shape_of, full_pages, firsts, with_ring, seal_page, seal_buffer, after_seal, is_dirty}
use Rattle.fl_model.specs.Layout.{IndexEntry, IndexPage, committed, index_body}
use Rattle.fl_model.specs.Image.{HoldsEntries}
use Rattle.fl_model.specs.Agrees.{TellPages}
use Rattle.fl_model.specs.Work.{Kind, Body, Mark, VoidMark, Erase, effect, Device, Whole, PartProgress}
use Rattle.fl_model.specs.Within.{seal_within, effect_within, TablePerforms}
use Rattle.fl_model.proofs.Lists.{slice_get-last, slice_get-push, each-push, last_or-push}
use Rattle.fl_model.proofs.Performs.{performs-whole}
use Rattle.fl_model.proofs.Among.{seal-all_done}
use Rattle.fl_ring.specs.Operations.{change, seal_kinds}
use Rattle.fl_ring.specs.Ring.{RingState, sealed, voided, begun, erased}
use Rattle.fl_ring.specs.Sealing.{Performed}
use Rattle.fl_ring.proofs.InTable.{AreErases, BeginsMark, erases-where, seal-operations, TablePerformed, performed-lifts}
use Rattle.fl_model.proofs.FullPages.{full-one, full-last}
use Rattle.fl_index.proofs.Lists.{firsts_of, firsts-append, end_after, Ascend, ascend-push}
use Rattle.fl_index.proofs.State.{shape_in, IsStateOf, holds-moved}
use Rattle.fl_index.proofs.Steps.{with_index, state-kept, last-shifted}

-- a full list of entries waits that makes this body, and no block waits for its erase
pub record MakesBody (plan : Plan) (body : List ℕ) (table : Table) (ring : model.Ring) : Type 0 where
  pub full : length table.waiting ≡ entries_per_page plan
  pub some : 0 < entries_per_page plan
  pub body_is : body ≡ index_body plan ring.next (table.rows.next - entries_per_page plan) table.waiting
  pub clean : ring.dirty ≡ false
  pub left : ring.next + 1 < 2 ^ 32

-- a page is begun
pub begun-state : (plan : Plan) (table : Table) (s : RingState) (is : IsStateOf plan table s) → is.ring.dirty ≡ false → is.ring.next + 1 < 2 ^ 32 → IsStateOf plan (with_ring IndexRing model.begun table) (begun s)
begun-state plan table s is clean left = record {
  ring = model.begun is.ring;
  facts = record {
    ring_is = ap (option_map model.begun) is.facts.ring_is;
    is_ring = record {
      not_negative = is.facts.is_ring.not_negative;
      whole_blocks = is.facts.is_ring.whole_blocks;
      whole_rounds = is.facts.is_ring.whole_rounds;
      kept = is.facts.is_ring.kept;
      kept_at_end = is.facts.is_ring.kept_at_end;
      dirty_at_end = is.facts.is_ring.dirty_at_end;
      not_both = λ d. no (sym clean ∙ d);
    };
    counts = is.facts.counts;
    index_each = is.facts.index_each;
    index_fit = is.facts.index_fit;
    firsts = is.facts.firsts;
    waiting = is.facts.waiting;
    listed = is.facts.listed;
    tell = is.facts.tell;
    wait = is.facts.wait;
    counted = is.facts.counted;
    number = left;
    rows_number = is.facts.rows_number;
  };
  counts = ap model.begun is.counts;
  bodies = λ i body lt at. holds-moved plan table (with_ring IndexRing model.begun table) is.ring (model.begun is.ring) i i (entries_per_page plan) (committed body) refl (λ p e. e) (is.bodies i body lt at);
}
  where
    no : ◌≡◌ {A = Bool} false true → ⊥
    no e = cc

-- the block ahead is erased
pub erased-state : (plan : Plan) (table : Table) (s : RingState) → IsStateOf plan table s → IsStateOf plan (with_ring IndexRing model.erased table) (erased s)
erased-state plan table s is = record {
  ring = model.erased is.ring;
  facts = record {
    ring_is = ap (option_map model.erased) is.facts.ring_is;
    is_ring = record {
      not_negative = is.facts.is_ring.not_negative;
      whole_blocks = is.facts.is_ring.whole_blocks;
      whole_rounds = is.facts.is_ring.whole_rounds;
      kept = is.facts.is_ring.kept;
      kept_at_end = is.facts.is_ring.kept_at_end;
      dirty_at_end = λ d. absurd (no d);
      not_both = λ d. both is.ring.torn d;
    };
    counts = is.facts.counts;
    index_each = is.facts.index_each;
    index_fit = is.facts.index_fit;
    firsts = is.facts.firsts;
    waiting = is.facts.waiting;
    listed = is.facts.listed;
    tell = is.facts.tell;
    wait = is.facts.wait;
    counted = is.facts.counted;
    number = is.facts.number;
    rows_number = is.facts.rows_number;
  };
  counts = ap model.erased is.counts;
  bodies = λ i body lt at. holds-moved plan table (with_ring IndexRing model.erased table) is.ring (model.erased is.ring) i i (entries_per_page plan) (committed body) refl (λ p e. e) (is.bodies i body lt at);
}
  where
    no : ◌≡◌ {A = Bool} false true → ⊥
    no e = cc

    both : (t : Bool) → (t && false) ≡ true → ⊥
    both true e = cc
    both false e = cc

-- the page of the entries that waited
abbrev pub page_waited : Plan → Table → IndexPage
page_waited plan table = record { first = table.rows.next - entries_per_page plan; entries = table.waiting }

-- a page that is sealed holds them
sealed-page : (plan : Plan) (body : List ℕ) (table : Table) (s : RingState) (is : IsStateOf plan table s) → MakesBody plan body table is.ring → (body' : List ℕ) → Some body ≡ Some body' →
    HoldsEntries plan (with_index table (model.extended (entries_per_page plan) is.ring) (table.index_pages ++ page_waited plan table ∷ [])) (model.extended (entries_per_page plan) is.ring) (length is.ring.counts) (entries_per_page plan) (committed body')
sealed-page plan body table s is m body' e = record {
  holds = page_waited plan table;
  is = ap (slice_get (table.index_pages ++ page_waited plan table ∷ [])) (full-last is.ring.counts (entries_per_page plan ∷ []) ∙ sym is.facts.index_each)
      ∙ slice_get-last table.index_pages (page_waited plan table);
  bytes = ap committed (sym (same_Some _ _ e) ∙ m.body_is) ∙ ap (λ n. committed (index_body plan n (table.rows.next - entries_per_page plan) table.waiting)) here;
}
  where
    here : is.ring.next ≡ is.ring.next + 1 - length (is.ring.counts ++ entries_per_page plan ∷ []) + length is.ring.counts
    here = let k : length (is.ring.counts ++ entries_per_page plan ∷ []) ≡ length is.ring.counts + 1 = length_push is.ring.counts (entries_per_page plan) in omega (arith, k, is.facts.is_ring.not_negative)

-- it lists the data pages behind those that are listed
rises-waited : (plan : Plan) (table : Table) (s : RingState) (is : IsStateOf plan table s) → length table.waiting ≡ entries_per_page plan →
    Ascend (entries_per_page plan) (firsts_of (table.index_pages ++ page_waited plan table ∷ []))
rises-waited plan table s is full =
    subst (Ascend (entries_per_page plan)) (sym (firsts-append table.index_pages (page_waited plan table ∷ [])))
    (ascend-push (entries_per_page plan) (table.rows.next - entries_per_page plan) (firsts table) is.facts.firsts (omega (arith, is.facts.listed, full)))

ends-waited : (plan : Plan) (table : Table) (s : RingState) (is : IsStateOf plan table s) → length table.waiting ≡ entries_per_page plan →
    end_after (entries_per_page plan) (firsts_of (table.index_pages ++ page_waited plan table ∷ [])) ≤ table.rows.next
ends-waited plan table s is full =
    let all = ap (end_after (entries_per_page plan)) (firsts-append table.index_pages (page_waited plan table ∷ [])) in
    let e = ap (λ (o : Option ℕ). unwrap_or (option_map (λ p. p + entries_per_page plan) o) 0) (last_or-push None (firsts table) (table.rows.next - entries_per_page plan)) in
    omega (arith, all, e, is.facts.listed, full)

-- .. and tells what they told
tells-waited : (plan : Plan) (table : Table) (s : RingState) (is : IsStateOf plan table s) → length table.waiting ≡ entries_per_page plan →
    (k : ℕ) (p : IndexPage) → slice_get (table.index_pages ++ page_waited plan table ∷ []) k ≡ Some p → TellPages plan table p.first p.entries
tells-waited plan table s is full k p e = by_place (slice_get-push table.index_pages (page_waited plan table) k p e)
  where
    by_place : (slice_get table.index_pages k ≡ Some p) ⊎ ((k ≡ length table.index_pages) × (page_waited plan table ≡ p)) → TellPages plan table p.first p.entries
    by_place (inl old) = is.facts.tell k p old
    by_place (inr new) =
        subst (λ (q : IndexPage). TellPages plan table q.first q.entries) new.1
        (subst (λ n. TellPages plan table (table.rows.next - n) table.waiting) full is.facts.wait)

-- the page is sealed
pub sealed-state : (first : ℕ) (plan : Plan) (body : List ℕ) (table : Table) (s : RingState) (is : IsStateOf plan table s) → model.IsShape (shape_of plan IndexRing) → MakesBody plan body table is.ring →
    IsStateOf plan (seal_buffer plan IndexRing table) (sealed (shape_in first plan) s body)
sealed-state first plan body table s is shape m =
    subst (λ (t : Table). IsStateOf plan t (sealed (shape_in first plan) s body)) (sym table_is)
    (state-kept first plan shape table s is m.clean (Some body) (entries_per_page plan) refl (page_waited plan table ∷ []) (inr refl) (sym (full-one (entries_per_page plan) m.some)) m.left
    (rises-waited plan table s is m.full) (ends-waited plan table s is m.full)
    (each-push (λ (p : IndexPage). length p.entries ≡ entries_per_page plan) table.index_pages (page_waited plan table) is.facts.index_fit m.full)
    (tells-waited plan table s is m.full)
    (sealed-page plan body table s is m))
  where
    table_is : seal_buffer plan IndexRing table ≡ with_index table (model.sealed (shape_of plan IndexRing) (entries_per_page plan) is.ring)
        (drop (full_pages (model.given_up (shape_of plan IndexRing) (entries_per_page plan) is.ring)) table.index_pages ++ page_waited plan table ∷ [])
    table_is = ap (λ (o : Option model.Ring). record table {
      index_pages = drop (full_pages (unwrap_or (option_map (model.given_up (shape_of plan IndexRing) (entries_per_page plan)) o) [])) table.index_pages ++ page_waited plan table ∷ [];
      index = option_map (model.sealed (shape_of plan IndexRing) (entries_per_page plan)) o;
      waiting = [];
    }) is.facts.ring_is

-- .. and where its pages stood before
pub record IndexShift (plan : Plan) (table : Table) (ring : model.Ring) : Type 0 where
  pub by : ℕ
  pub counts : (i : ℕ) → slice_get (model.sealed (shape_of plan IndexRing) (entries_per_page plan) ring).counts i ≡ slice_get (ring.counts ++ entries_per_page plan ∷ []) (by + i)
  pub old : (i : ℕ) → model.oldest (model.sealed (shape_of plan IndexRing) (entries_per_page plan) ring) + i ≡ model.oldest ring + (by + i)
  pub listed : (i : ℕ) → slice_get (drop (full_pages (model.given_up (shape_of plan IndexRing) (entries_per_page plan) ring)) table.index_pages ++ page_waited plan table ∷ []) (full_pages (take i (model.sealed (shape_of plan IndexRing) (entries_per_page plan) ring).counts))
      ≡ slice_get (table.index_pages ++ page_waited plan table ∷ []) (full_pages (take (by + i) (ring.counts ++ entries_per_page plan ∷ [])))

pub index-shift : (first : ℕ) (plan : Plan) (body : List ℕ) (table : Table) (s : RingState) (is : IsStateOf plan table s) → model.IsShape (shape_of plan IndexRing) → MakesBody plan body table is.ring → IndexShift plan table is.ring
index-shift first plan body table s is shape m =
    let l = last-shifted first plan shape table s is m.clean (Some body) (entries_per_page plan) refl (page_waited plan table ∷ []) (inr refl) (sym (full-one (entries_per_page plan) m.some)) m.left
    (rises-waited plan table s is m.full) (ends-waited plan table s is m.full)
    (each-push (λ (p : IndexPage). length p.entries ≡ entries_per_page plan) table.index_pages (page_waited plan table) is.facts.index_fit m.full)
    (tells-waited plan table s is m.full)
    (sealed-page plan body table s is m) in
    record { by = l.by; counts = l.counts; old = l.old; listed = l.listed }

-- a torn page is given up, where none waits
pub voided-state : (first : ℕ) (plan : Plan) (table : Table) (s : RingState) (is : IsStateOf plan table s) → model.IsShape (shape_of plan IndexRing) → table.waiting ≡ [] → is.ring.torn ≡ true →
    IsStateOf plan (seal_page plan IndexRing 0 table) (voided (shape_in first plan) s)
voided-state first plan table s is shape idle torn =
    subst (λ (t : Table). IsStateOf plan t (voided (shape_in first plan) s)) (sym table_is)
    (state-kept first plan shape table s is (clean is.ring.torn is.ring.dirty torn is.facts.is_ring.not_both) None 0 refl [] (inl refl) refl (left is.ring.torn torn is.facts.number)
    (subst (λ (ps : List IndexPage). Ascend (entries_per_page plan) (firsts_of ps)) (sym (append-nil table.index_pages)) is.facts.firsts)
    (let e = ap (λ (ps : List IndexPage). end_after (entries_per_page plan) (firsts_of ps)) (append-nil table.index_pages) in omega (arith, e, is.facts.listed))
    (subst (AllByRecursion (λ (p : IndexPage). length p.entries ≡ entries_per_page plan)) (sym (append-nil table.index_pages)) is.facts.index_fit)
    (λ k p e. is.facts.tell k p (ap (λ (ps : List IndexPage). slice_get ps k) (sym (append-nil table.index_pages)) ∙ e))
    (λ body e. absurd (none-some body e)))
  where
    clean : (t d : Bool) → t ≡ true → (IsTrue (t && d) → ⊥) → d ≡ false
    clean true true e h = absurd (h refl)
    clean true false e h = refl
    clean false d e h = cc

    left : (t : Bool) → t ≡ true → is.ring.next + cond t 1 0 < 2 ^ 32 → is.ring.next + 1 < 2 ^ 32
    left true e h = h
    left false e h = cc

    table_is : seal_page plan IndexRing 0 table ≡ with_index table (model.sealed (shape_of plan IndexRing) 0 is.ring) (drop (full_pages (model.given_up (shape_of plan IndexRing) 0 is.ring)) table.index_pages ++ [])
    table_is =
        ap (λ (o : Option model.Ring). record table {
          index_pages = drop (full_pages (unwrap_or (option_map (model.given_up (shape_of plan IndexRing) 0) o) [])) table.index_pages;
          index = option_map (model.sealed (shape_of plan IndexRing) 0) o;
        }) is.facts.ring_is
        ∙ (ap (λ (fs : List IndexPage). record table { index_pages = fs; index = Some (model.sealed (shape_of plan IndexRing) 0 is.ring) }) (sym (append-nil (drop (full_pages (model.given_up (shape_of plan IndexRing) 0 is.ring)) table.index_pages)))
        ∙ ap (λ (n : List IndexEntry). record table { index_pages = drop (full_pages (model.given_up (shape_of plan IndexRing) 0 is.ring)) table.index_pages ++ []; index = Some (model.sealed (shape_of plan IndexRing) 0 is.ring); waiting = n }) idle)

abbrev pub HasCome : Plan → List ℕ → List Kind → Table → model.Ring → Type 0
HasCome plan body [] table ring = Unit {0}
HasCome plan body (Body ∷ kinds) table ring = MakesBody plan body table ring × BeginsMark kinds
HasCome plan body (Mark ∷ kinds) table ring = MakesBody plan body table ring × AreErases kinds
HasCome plan body (VoidMark ∷ kinds) table ring = ⊥
HasCome plan body (Erase ∷ kinds) table ring = AreErases kinds

-- the ring's state is that of the table, of which these operations are left
pub record IsRingOf (plan : Plan) (body : List ℕ) (kinds : List Kind) (s : RingState) (table : Table) : Type 0 where
  pub state : IsStateOf plan table s
  pub come : HasCome plan body kinds table state.ring

erases_come : (plan : Plan) (body : List ℕ) (kinds : List Kind) (table : Table) (ring : model.Ring) → AreErases kinds → HasCome plan body kinds table ring
erases_come plan body [] table ring h = tt
erases_come plan body (Erase ∷ kinds) table ring h = h
erases_come plan body (Body ∷ kinds) table ring h = absurd h
erases_come plan body (Mark ∷ kinds) table ring h = absurd h
erases_come plan body (VoidMark ∷ kinds) table ring h = absurd h

mark_comes : (plan : Plan) (body : List ℕ) (kinds : List Kind) (table : Table) (ring : model.Ring) → MakesBody plan body table ring → BeginsMark kinds → HasCome plan body kinds table ring
mark_comes plan body [] table ring m h = tt
mark_comes plan body (Mark ∷ kinds) table ring m h = (m, h)
mark_comes plan body (Body ∷ kinds) table ring m h = absurd h
mark_comes plan body (VoidMark ∷ kinds) table ring m h = absurd h
mark_comes plan body (Erase ∷ kinds) table ring m h = absurd h

-- each operation keeps it
step-along : (first : ℕ) (plan : Plan) (body : List ℕ) → model.IsShape (shape_of plan IndexRing) → (kind : Kind) (kinds : List Kind) (s : RingState) (table : Table) →
    IsRingOf plan body (kind ∷ kinds) s table → IsRingOf plan body kinds (change (shape_in first plan) body kind s) (effect plan IndexRing kind table)
unfolding begun-state
step-along first plan body shape Body kinds s table r =
    let m = r.come.0 in
    record {
      state = begun-state plan table s r.state m.clean m.left;
      come = mark_comes plan body kinds (with_ring IndexRing model.begun table) (model.begun r.state.ring)
          (record { full = m.full; some = m.some; body_is = m.body_is; clean = m.clean; left = m.left }) r.come.1;
    }
step-along first plan body shape Mark kinds s table r =
    let state = sealed-state first plan body table s r.state shape r.come.0 in
    record { state = state; come = erases_come plan body kinds (seal_buffer plan IndexRing table) state.ring r.come.1 }
step-along first plan body shape VoidMark kinds s table r = absurd r.come
step-along first plan body shape Erase kinds s table r =
    let state = erased-state plan table s r.state in
    record { state = state; come = erases_come plan body kinds (with_ring IndexRing model.erased table) state.ring r.come }

-- the seal of an index page
pub seal-lifts : (first : ℕ) (plan : Plan) (body : List ℕ) (table : Table) (s : RingState) (is : IsStateOf plan table s) (rose : Bool) (device : Device) (result : Result (Unit {0}) FlashFault) (new : FlashState) →
    model.IsShape (shape_of plan IndexRing) → MakesBody plan body table is.ring →
    (h : Performed (shape_in first plan) (change (shape_in first plan) body) rose (seal_kinds (shape_in first plan) s body) device s result new) →
    TablePerformed (IsRingOf plan body) plan (seal_within plan IndexRing table) table rose device result new h.now.state
seal-lifts first plan body table s is rose device result new shape makes h =
    subst (λ (ops : List (RingName × Kind)). TablePerformed (IsRingOf plan body) plan ops table rose device result new h.now.state) (seal-operations IndexRing plan table (shape_in first plan) s body same_dirt)
    (performed-lifts (IsRingOf plan body) (shape_in first plan) plan IndexRing body (step-along first plan body shape) rose (seal_kinds (shape_in first plan) s body) device s table result new
    (record { state = is; come = (makes, erases-where (sealed (shape_in first plan) s body).dirty) }) h)
  where
    same_dirt : (sealed (shape_in first plan) s body).dirty ≡ is_dirty IndexRing (seal_buffer plan IndexRing table)
    same_dirt =
        let after = sealed-state first plan body table s is shape makes in
        ap (λ (r : model.Ring). r.dirty) (sym after.counts) ∙ ap (λ (o : Option model.Ring). unwrap_or (option_map (λ r. r.dirty) o) false) (sym after.facts.ring_is)

-- where all of it was done, the index page is sealed
pub seal-whole : (plan : Plan) (table : Table) (rose : Bool) (device : Device) (now : PartProgress Table) → TablePerforms plan rose (seal_within plan IndexRing table) device table now → now.end ≡ Whole →
    now.state ≡ after_seal plan IndexRing table
seal-whole plan table rose device now h whole =
    (performs-whole (λ operation. operation.1) (effect_within plan) rose (seal_within plan IndexRing table) device table now h whole).0 ∙ seal-all_done plan IndexRing table
