-- The mount of the index ring, in the words of its table.
use Rattle.std.proofs.Common.{◌≡◌, ◌⊎◌, inl, inr, ℕ, suc, ◌+◌, ◌-◌, ◌*◌, ◌/◌, ◌%◌, ◌^◌, ◌<◌, ◌≤◌, Bool, true, false, cond, nat_lt, IsTrue, Option, Some, None, IfSome, is_some, Result, Ok, Err, List, [], ◌∷◌, ◌++◌, map, length, get_or, refl, sym, ◌∙◌, ap, subst, arith}
use Rattle.std.proofs.Math.Nat.{mod-add-div', mul-le-mul_right, mul_assoc, add-mul-mod_self_right, dvd-mod_iff, dvd-mul_left}
use Rattle.std.proofs.lemmas.Nat.Gcd.{mod-eq-zero_of_dvd, dvd-zero}
use Rattle.std.specs.Int.{◌∣◌}
use Rattle.std.proofs.lemmas.Bool.{lt-ltb, false≢true}
use Rattle.std.proofs.lemmas.List.{append-nil, map-append}
use Rattle.std.proofs.lemmas.Option.{slice_get-map, slice_get-get_or}
use Rattle.std.specs.List.{slice_get, list_any}
use Rattle.std.specs.Option.{option_map}
use Rattle.fl_flash.specs.Flash.{FlashState, page_at}
use Rattle.fl_flash.specs.declared.flash.FlashFault.{FlashFault}
use Rattle.fl_flash.specs.declared.flash.FlashFault.TheVariants.{Media}
use Rattle.fl_model.specs.Record.{Plan, entries_per_page}
use Rattle.fl_model.specs.Ring as model
use Rattle.fl_model.specs.Row.{le}
use Rattle.fl_model.specs.Table.{Table, RingName, IndexRing, shape_of}
use Rattle.fl_model.specs.Image.{HoldsEntries}
use Rattle.fl_model.specs.Layout.{committed, index_body}
use Rattle.fl_model.specs.Mount as numbering
use Rattle.fl_model.specs.Mount.{renumber, least_alike}
use Rattle.fl_model.specs.Work.{Kind, Body, Mark, VoidMark, Erase, effect, Device, Whole, PartProgress}
use Rattle.fl_model.specs.Within.{repair_within, TablePerforms, TableUnreads}
use Rattle.fl_model.proofs.Renumber.{least-alike}
use Rattle.fl_model.proofs.Lists.{any-at}
use Rattle.fl_ring.specs.Counts.{page_count}
use Rattle.fl_frame.specs.Device.{SameDevice}
use Rattle.fl_ring.specs.Head.{one}
use Rattle.fl_ring.specs.Mounting.{IsGood, Mounted, RepairEnds}
use Rattle.fl_ring.specs.Newest.{number_of}
use Rattle.fl_ring.specs.Numbers.{renumbered}
use Rattle.fl_ring.specs.Operations.{change, repair_kinds}
use Rattle.fl_ring.specs.Place.{StandsFor}
use Rattle.fl_ring.specs.Ring.{Shape, RingState, OnRing, count, oldest, room}
use Rattle.fl_ring.specs.Sealing.{Performed}
use Rattle.fl_ring.specs.declared.ring.Ring.{Ring}
use Rattle.fl_ring.proofs.Counts.{counts_renumbered}
use Rattle.fl_ring.proofs.InTable.{of_ring, AreRepairs, erases-repair, repairs-front, repairs-come, counted-repairs, TablePerformed, performed-lifts, all-whole}
use Rattle.fl_ring.proofs.Mounts.{repair_end}
use Rattle.fl_ring.proofs.SamePlaces.{renumbered_same}
use Rattle.fl_schema.proofs.Numbers.{length-le, number_of-le}
use Rattle.fl_schema.proofs.References.{from_le_bytes_4}
use Rattle.fl_ring.proofs.Heads.{one-is}
use Rattle.fl_index.specs.Standing.{HasIndex}
use Rattle.fl_index.specs.Outcomes.{FaultEnds}
use Rattle.fl_index.proofs.RingInTable.{voided-state, erased-state}
use Rattle.fl_index.proofs.SealEnds.{fault-ends}
use Rattle.fl_index.proofs.State.{shape_in, full_count, committed-body, has-some, IsStateOf, holds-moved}

-- ---- the numbers

-- a ring that has the same pages at lower numbers, by whole rounds
ring-lower : (shape : model.Shape) (ring : model.Ring) → model.IsShape shape → model.IsRing shape ring →
    model.IsRing shape (record ring { next = length ring.counts + model.oldest ring % (shape.blocks * shape.pages) })
ring-lower shape ring s h =
    let c = length ring.counts in
    let room = shape.blocks * shape.pages in
    let old = model.oldest ring in
    let now : c + old % room - c ≡ old % room = omega arith in
    let rounds : ring.next ≡ (c + old % room) + old / room * shape.blocks * shape.pages =
    omega (arith, mod-add-div' old room, mul_assoc (old / room) shape.blocks shape.pages, h.not_negative) in
    let same : (c + old % room) % shape.pages ≡ ring.next % shape.pages = sym (ap (λ k. k % shape.pages) rounds ∙ add-mul-mod_self_right (c + old % room) (old / room * shape.blocks) shape.pages) in
    let dvd_pages : shape.pages ∣ room = dvd-mul_left shape.pages shape.blocks in
    record {
      not_negative = omega arith;
      whole_blocks = subst (λ n. shape.pages ∣ n) (sym now) ((dvd-mod_iff shape.pages {m = old} {n = room} dvd_pages).1 h.whole_blocks);
      whole_rounds = λ few. subst (λ n. room ∣ n) (sym (now ∙ mod-eq-zero_of_dvd room (h.whole_rounds few))) (dvd-zero room);
      kept = rw same h.kept;
      kept_at_end = λ e. h.kept_at_end (sym same ∙ e);
      dirty_at_end = λ d. (same ∙ (h.dirty_at_end d).0, (h.dirty_at_end d).1);
      not_both = h.not_both;
    }

state-next : (plan : Plan) (table : Table) (s : RingState) (is : IsStateOf plan table s) → s.next ≡ is.ring.next
state-next plan table s is = sym (ap (λ (r : model.Ring). r.next) is.counts)

state-torn : (plan : Plan) (table : Table) (s : RingState) (is : IsStateOf plan table s) → s.torn ≡ is.ring.torn
state-torn plan table s is = sym (ap (λ (r : model.Ring). r.torn) is.counts)

pub state-len : (plan : Plan) (table : Table) (s : RingState) (is : IsStateOf plan table s) → count s ≡ length is.ring.counts
state-len plan table s is = sym (ap (λ (r : model.Ring). length r.counts) is.counts ∙ counted s.kept)
  where
    counted : (kept : List (Option (List ℕ))) → length (map (page_count (full_count plan)) kept) ≡ length kept
    counted [] = refl
    counted (y ∷ kept) = ap suc (counted kept)

pub state-old : (plan : Plan) (table : Table) (s : RingState) (is : IsStateOf plan table s) → oldest s ≡ model.oldest is.ring
state-old plan table s is = omega (arith, state-next plan table s is, state-len plan table s is)

-- a page with a body has a count
body-count : (plan : Plan) (table : Table) (s : RingState) (is : IsStateOf plan table s) (i : ℕ) (body : List ℕ) → i < count s → get_or s.kept i None ≡ Some body → slice_get is.ring.counts i ≡ Some (entries_per_page plan)
body-count plan table s is i body lt e =
    ap (λ (r : model.Ring). slice_get r.counts i) is.counts
    ∙ (slice_get-map (page_count (full_count plan)) s.kept i
    ∙ (ap (option_map (page_count (full_count plan))) (slice_get-get_or s.kept i None lt) ∙ ap (λ (x : Option (List ℕ)). Some (page_count (full_count plan) x)) e))

same-kept : (r : Shape) (n : ℕ) (s : RingState) → (renumbered r n s).kept ≡ s.kept
same-kept r n s = by_test (list_any is_some s.kept)
  where
    by_test : (b : Bool) → (cond b s (record s { next = least_alike (room r) s.next (n + length s.kept) })).kept ≡ s.kept
    by_test true = refl
    by_test false = refl

module _ (first : ℕ) (plan : Plan) (shape : model.IsShape (shape_of plan IndexRing)) (some : 0 < entries_per_page plan) (table : Table) (s : RingState) (is : IsStateOf plan table s) where
  abbrev ring : model.Ring
  ring = is.ring

  abbrev lower : ℕ
  lower = numbering.least_alike (plan.index_blocks * plan.geometry.block) is.ring.next (0 + length is.ring.counts)

  lower_is : numbering.least_alike (plan.index_blocks * plan.geometry.block) is.ring.next (0 + length is.ring.counts) ≡ length is.ring.counts + model.oldest is.ring % (plan.index_blocks * plan.geometry.block)
  lower_is =
      ap (λ n. numbering.least_alike (plan.index_blocks * plan.geometry.block) is.ring.next n) (let e : 0 + length is.ring.counts ≡ length is.ring.counts = omega arith in e)
      ∙ least-alike (plan.index_blocks * plan.geometry.block) is.ring.next (length is.ring.counts)
      (let k : 3 * plan.geometry.block ≤ plan.index_blocks * plan.geometry.block = mul-le-mul_right plan.geometry.block shape.blocks in omega (arith, k, shape.pages)) is.facts.is_ring.not_negative

  lower_le : length is.ring.counts + model.oldest is.ring % (plan.index_blocks * plan.geometry.block) ≤ is.ring.next
  lower_le = let k = mod-add-div' (model.oldest is.ring) (plan.index_blocks * plan.geometry.block) in omega (arith, k, is.facts.is_ring.not_negative)

  torn_small : (n : ℕ) → n ≤ is.ring.next → n + cond is.ring.torn 1 0 < 2 ^ 32
  torn_small n le = omega (arith, is.facts.number, le)

  abbrev Numbered : Bool → Type 0
  Numbered b = HasIndex plan (record table { index = Some (cond b is.ring (record is.ring { next = numbering.least_alike (plan.index_blocks * plan.geometry.block) is.ring.next (0 + length is.ring.counts) })) })
      (cond b is.ring (record is.ring { next = numbering.least_alike (plan.index_blocks * plan.geometry.block) is.ring.next (0 + length is.ring.counts) }))

  facts_by : (b : Bool) → Numbered b
  facts_by true = record {
    ring_is = refl;
    is_ring = is.facts.is_ring;
    counts = is.facts.counts;
    index_each = is.facts.index_each;
    index_fit = is.facts.index_fit;
    firsts = is.facts.firsts;
    waiting = is.facts.waiting;
    listed = is.facts.listed;
    tell = is.facts.tell;
    wait = is.facts.wait;
    counted = is.facts.counted;
    number = is.facts.number;
    rows_number = is.facts.rows_number;
  }
  facts_by false = subst (λ n. HasIndex plan (record table { index = Some (record is.ring { next = n }) }) (record is.ring { next = n })) (sym lower_is) (record {
    ring_is = refl;
    is_ring = ring-lower (shape_of plan IndexRing) is.ring shape is.facts.is_ring;
    counts = is.facts.counts;
    index_each = is.facts.index_each;
    index_fit = is.facts.index_fit;
    firsts = is.facts.firsts;
    waiting = is.facts.waiting;
    listed = is.facts.listed;
    tell = is.facts.tell;
    wait = is.facts.wait;
    counted = is.facts.counted;
    number = torn_small (length is.ring.counts + model.oldest is.ring % (plan.index_blocks * plan.geometry.block)) lower_le;
    rows_number = is.facts.rows_number;
  })

  bodies_by : (b : Bool) → list_any (nat_lt 0) is.ring.counts ≡ b → (i : ℕ) (body : List ℕ) → i < count s → get_or s.kept i None ≡ Some body →
      HoldsEntries plan (record table { index = Some (cond b is.ring (record is.ring { next = numbering.least_alike (plan.index_blocks * plan.geometry.block) is.ring.next (0 + length is.ring.counts) })) })
      (cond b is.ring (record is.ring { next = numbering.least_alike (plan.index_blocks * plan.geometry.block) is.ring.next (0 + length is.ring.counts) })) i (entries_per_page plan) (committed body)
  bodies_by true e i body lt at =
      holds-moved plan table (record table { index = Some is.ring }) is.ring is.ring i i (entries_per_page plan) (committed body) refl (λ p e. e) (is.bodies i body lt at)
  bodies_by false e i body lt at =
      absurd (false≢true (sym e ∙ any-at (nat_lt 0) is.ring.counts i (entries_per_page plan) (body-count plan table s is i body lt at) (lt-ltb 0 (entries_per_page plan) some)))

  pub renumbered-state : IsStateOf plan (renumber plan IndexRing table) (renumbered (shape_in first plan) 0 s)
  renumbered-state =
      subst (λ (t : Table). IsStateOf plan t (renumbered (shape_in first plan) 0 s)) (ap (λ (o : Option model.Ring). record table { index = option_map (numbering.renumbered (shape_of plan IndexRing) 0) o }) (sym is.facts.ring_is))
      (record {
        ring = numbering.renumbered (shape_of plan IndexRing) 0 is.ring;
        facts = facts_by (list_any (nat_lt 0) is.ring.counts);
        counts = ap (numbering.renumbered (shape_of plan IndexRing) 0) is.counts ∙ sym (counts_renumbered (full_count plan) (shape_in first plan) 0 s (has-some plan some s));
        bodies = λ i body lt at. bodies_by (list_any (nat_lt 0) is.ring.counts) refl i body (subst (λ (k : List (Option (List ℕ))). i < length k) (same-kept (shape_in first plan) 0 s) lt)
            (subst (λ (k : List (Option (List ℕ))). get_or k i None ≡ Some body) (same-kept (shape_in first plan) 0 s) at);
      })

  -- a body begins with its number
  body_is : (i : ℕ) (body : List ℕ) → i < count s → get_or s.kept i None ≡ Some body → number_of body ≡ oldest s + i
  body_is i body lt at =
      let h = is.bodies i body lt at in
      let same = same_body body (index_body plan (model.oldest is.ring + i) h.holds.first h.holds.entries) h.bytes in
      let small : model.oldest is.ring + i < 2 ^ 32 = omega (arith, lt, state-len plan table s is, is.facts.is_ring.not_negative, is.facts.number) in
      ap number_of same ∙ (from_le_bytes_4 (le 4 (model.oldest is.ring + i)) (length-le 4 (model.oldest is.ring + i)) ∙ (number_of-le 4 (model.oldest is.ring + i) small ∙ omega (arith, state-old plan table s is)))
    where
      same_body : (a b : List ℕ) → committed a ≡ committed b → a ≡ b
      same_body a b e = let n = length (committed a) in sym (committed-body n (committed a) a refl refl) ∙ committed-body n (committed a) b refl e

  -- a table at rest is good for the mount of its index ring
  pub good-ring : (f : FlashState) → IsTrue f.media.tells → OnRing (shape_in first plan) (page_at f) s → IsGood f (shape_in first plan) 0 s
  good-ring f told on = record {
    told = told;
    on = on;
    numbered = λ i lt. by_body i lt (get_or s.kept i None) refl;
    fits =
        let after = renumbered-state in
        let next = state-next plan (renumber plan IndexRing table) (renumbered (shape_in first plan) 0 s) after in
        let torn : cond after.ring.torn 1 0 ≡ one s.torn = ap (λ (b : Bool). cond b 1 0) (sym (state-torn plan (renumber plan IndexRing table) (renumbered (shape_in first plan) 0 s) after) ∙ renumbered_same (shape_in first plan) s 0) ∙ sym (one-is s.torn) in
        omega (arith, next, torn, after.facts.number);
  }
    where
      by_body : (i : ℕ) → i < count s → (x : Option (List ℕ)) → get_or s.kept i None ≡ x → IfSome x (λ body. number_of body ≡ oldest s + i)
      by_body i lt None e = tt
      by_body i lt (Some body) e = body_is i body lt e

-- ---- the repairs

record IsRepairOf (plan : Plan) (kinds : List Kind) (s : RingState) (table : Table) : Type 0 where
  pub state : IsStateOf plan table s
  pub idle : table.waiting ≡ []
  pub come : AreRepairs (state.ring.torn ≡ true) kinds

repair-along : (first : ℕ) (plan : Plan) → model.IsShape (shape_of plan IndexRing) → (kind : Kind) (kinds : List Kind) (s : RingState) (table : Table) →
    IsRepairOf plan (kind ∷ kinds) s table → IsRepairOf plan kinds (change (shape_in first plan) [] kind s) (effect plan IndexRing kind table)
repair-along first plan shape Body kinds s table r = absurd r.come
repair-along first plan shape Mark kinds s table r = absurd r.come
repair-along first plan shape VoidMark kinds s table r =
    let state = voided-state first plan table s r.state shape r.idle r.come.0 in
    record { state = state; idle = r.idle; come = erases-repair (state.ring.torn ≡ true) kinds r.come.1 }
repair-along first plan shape Erase kinds s table r =
    let state = erased-state plan table s r.state in
    record { state = state; idle = r.idle; come = erases-repair (state.ring.torn ≡ true) kinds r.come }

module _ (first : ℕ) (plan : Plan) (shape : model.IsShape (shape_of plan IndexRing)) (table : Table) (s : RingState) (is : IsStateOf plan table s) (idle : table.waiting ≡ []) where
  pub repair-kinds : map (of_ring IndexRing) (repair_kinds (shape_in first plan) s) ≡ repair_within plan IndexRing table
  repair-kinds = counted-repairs IndexRing plan table (full_count plan) (shape_in first plan) s refl (is.facts.ring_is ∙ ap (λ (x : model.Ring). Some x) is.counts)

  -- a front of the repairs
  repair-lifts : (rose : Bool) (front others : List Kind) (device : Device) (result : Result (Unit {0}) FlashFault) (new : FlashState) → repair_kinds (shape_in first plan) s ≡ front ++ others →
      (h : Performed (shape_in first plan) (change (shape_in first plan) []) rose front device s result new) →
      TablePerformed (IsRepairOf plan) plan (map (of_ring IndexRing) front) table rose device result new h.now.state
  repair-lifts rose front others device result new split h =
      let come = repairs-come (is.ring.torn ≡ true) (shape_in first plan) s (λ e. sym (state-torn plan table s is) ∙ e) in
      performed-lifts (IsRepairOf plan) (shape_in first plan) plan IndexRing [] (repair-along first plan shape) rose front device s table result new
      (record { state = is; idle = idle; come = repairs-front (is.ring.torn ≡ true) front others (subst (λ (ks : List Kind). AreRepairs (is.ring.torn ≡ true) ks) split come) }) h

  -- the table after its index ring was mounted
  pub record IndexMount (rose : Bool) (device : Device) (memory : Ring) (new : FlashState) : Type 0 where
    pub now : PartProgress Table
    pub did : TablePerforms plan rose (repair_within plan IndexRing table) device table now
    pub whole : now.end ≡ Whole
    pub counts : SameDevice new now.device
    pub power : new.is_on ≡ true
    pub idle_now : now.state.waiting ≡ []
    pub s_now : RingState
    pub is_now : IsStateOf plan now.state s_now
    pub untorn : is_now.ring.torn ≡ false
    pub clean : is_now.ring.dirty ≡ false
    pub on : OnRing (shape_in first plan) (page_at new) s_now
    pub stands : StandsFor memory s_now

  pub mount-lifts : (rose : Bool) (device : Device) (memory : Ring) (new : FlashState) → Mounted (shape_in first plan) rose device s memory new → IndexMount rose device memory new
  mount-lifts rose device memory new m =
      let kinds = repair_kinds (shape_in first plan) s in
      let l = repair-lifts rose kinds [] device (Ok tt) new (sym (append-nil kinds)) m.performed in
      let whole = all-whole l.now.end tt new l.answer in
      let did : TablePerforms plan rose (repair_within plan IndexRing table) device table l.now = subst (λ (ops : List (RingName × Kind)). TablePerforms plan rose ops device table l.now) repair-kinds l.did in
      let tidy = repair_end (shape_in first plan) s rose device tt new m.performed in
      record {
        now = l.now;
        did = did;
        whole = whole.0;
        counts = l.counts;
        power = whole.1;
        idle_now = l.is.idle;
        s_now = m.performed.now.state;
        is_now = l.is.state;
        untorn = sym (state-torn plan l.now.state m.performed.now.state l.is.state) ∙ tidy.0;
        clean = ap (λ (r : model.Ring). r.dirty) l.is.state.counts ∙ tidy.1;
        on = m.performed.on;
        stands = m.stands;
      }

  -- a mount that failed in its ring
  pub record IndexFail (rose : Bool) (device : Device) (fault : FlashFault) (new : FlashState) : Type 0 where
    pub now : PartProgress Table
    pub did : (TablePerforms plan rose (repair_within plan IndexRing table) device table now × FaultEnds now.end fault new)
        ⊎ (TableUnreads plan rose (repair_within plan IndexRing table) device table now × (fault ≡ Media))
    pub counts : SameDevice new now.device
    pub idle_now : now.state.waiting ≡ []
    pub s_now : RingState
    pub is_now : IsStateOf plan now.state s_now
    pub on : OnRing (shape_in first plan) (page_at new) s_now

  pub mount-fails : (rose : Bool) (device : Device) (fault : FlashFault) (new : FlashState) → RepairEnds (shape_in first plan) rose (repair_kinds (shape_in first plan) s) device s (Err fault) new → IndexFail rose device fault new
  mount-fails rose device fault new (inl p) =
      let kinds = repair_kinds (shape_in first plan) s in
      let l = repair-lifts rose kinds [] device (Err fault) new (sym (append-nil kinds)) p in
      record {
        now = l.now;
        did = inl (subst (λ (ops : List (RingName × Kind)). TablePerforms plan rose ops device table l.now) repair-kinds l.did, fault-ends l.now.end fault new l.answer);
        counts = l.counts;
        idle_now = l.is.idle;
        s_now = p.now.state;
        is_now = l.is.state;
        on = p.on;
      }
  mount-fails rose device fault new (inr u) =
      let l = repair-lifts rose u.front u.others device (Ok tt) new u.split u.did in
      record {
        now = l.now;
        did = inr (
          record {
            may_fail = u.risen;
            front = map (of_ring IndexRing) u.front;
            others = map (of_ring IndexRing) u.others;
            split = sym repair-kinds ∙ (ap (map (of_ring IndexRing)) u.split ∙ map-append (of_ring IndexRing) u.front u.others);
            did = l.did;
            whole = (all-whole l.now.end tt new l.answer).0;
          },
          is_media u.is,
        );
        counts = l.counts;
        idle_now = l.is.idle;
        s_now = u.did.now.state;
        is_now = l.is.state;
        on = u.did.on;
      }
    where
      is_media : ◌≡◌ {A = Result (Unit {0}) FlashFault} (Err fault) (Err Media) → fault ≡ Media
      is_media e = cc
