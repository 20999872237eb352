-- The mount of an image's tables, one after another.
use Rattle.std.proofs.Common.{◌≡◌, ℕ, zero, suc, ◌+◌, ◌<◌, ◌≤◌, ◌⊎◌, Bool, true, false, nat_lt, if◌then◌else◌, inl, inr, Some, Err, List, [], ◌∷◌, ◌++◌, length, map, drop, refl, sym, ◌∙◌, ap, subst, arith, option_map, slice_get, eqb}
use Rattle.std.proofs.lemmas.Bool.{cases_lt, lt-ltb, le-ltb}
use Rattle.std.proofs.lemmas.Bool.Decides.{eqb_tells}
use Rattle.std.proofs.lemmas.List.{drop_all, length-map}
use Rattle.std.proofs.Math.Path.{fun_ext}
use Rattle.std.proofs.lemmas.Option.{slice_get-map, slice_get_within, slice_get_past, none-some}
use Rattle.std.proofs.lemmas.Iterator.Adapters.{option_map_id}
use Rattle.fl_flash.specs.Flash.{FlashState, Goes, page_at}
use Rattle.fl_flash.specs.declared.flash.FlashFault.{FlashFault}
use Rattle.fl_flash.specs.declared.flash.FlashFault.TheVariants.{Media}
use Rattle.fl_model.specs.Mount.{Mounts, MountEnd, Mounted, Stopped, Unread, turns_from, turns_of, ready}
use Rattle.fl_model.specs.Record.{Plan, has_log}
use Rattle.fl_model.specs.Table as model
use Rattle.fl_model.specs.Table.{lose}
use Rattle.fl_model.specs.Work.{Device, Finished, changed_at, PartEnd, Whole}
use Rattle.fl_model.specs.Within.{TableMounts, TableMountEnd, TableMounted, TableStopped, TableUnread, MountsAlong, with_table, progress_at, outcome_at}
use Rattle.fl_model.proofs.Among.{changed-there, changed-elsewhere}
use Rattle.fl_model.proofs.Lists.{slice_get-some, drop-at}
use Rattle.fl_model.proofs.MountAmongTables.{mounts-along}
use Rattle.fl_frame.specs.Device.{SameDevice}
use Rattle.fl_machine.specs.Step.{all_ready, made_ready}
use Rattle.fl_parts.specs.Failing.{FaultEnds}
use Rattle.fl_parts.specs.declared.mount_fault.MountFault.{MountFault}
use Rattle.fl_parts.specs.declared.mount_fault.MountFault.TheVariants as mount
use Rattle.fl_table.specs.declared.counts.Mounted as found
use Rattle.fl_rlc.specs.Outcomes.{MountsWell, MountsBadly, MountEnds}
use Rattle.fl_rlc.specs.Table.{IsSamePlan, OutsideStands}
use Rattle.fl_rlc.specs.declared.table.LoggedTable.{LoggedTable}
use Rattle.fl_store.specs.Tables.{first_of, entries_with, EntryStands, TablesStand, FaultIs, TablesMounted, TablesBroken, MountBreaks}
use Rattle.fl_store.specs.declared.tables.Entry.{Entry}
use Rattle.fl_store.proofs.CallsInTurn.{planned-same}
use Rattle.fl_store.proofs.TablesChanged.{entry-off, some-is, AtPlace, at-place, tables-changed, length-changed}

-- a table that was mounted is ready
abbrev shown_so : ℕ → ℕ → Plan → model.Table → model.Table
shown_so k i plan table = if nat_lt i k then made_ready plan table else table

-- The first k tables were mounted; what the mount of the others makes of all tables, the whole mount does.
pub record MountedSoFar (plans : List Plan) (start : List model.Table) (rose : Bool) (device : Device) (k : ℕ) (entries : List Entry) (f : FlashState) : Type 0 where
  pub now : Device
  pub tables : List model.Table
  pub shown : List model.Table
  pub counts : SameDevice f now
  pub power : f.is_on ≡ true
  pub stand : TablesStand f (λ i. nat_lt i k) plans entries shown
  pub all : length tables ≡ length plans
  pub shows : (i : ℕ) (plan : Plan) (table : model.Table) → slice_get plans i ≡ Some plan → slice_get tables i ≡ Some table → slice_get shown i ≡ Some (shown_so k i plan table)
  pub behind : (i : ℕ) → k ≤ i → slice_get tables i ≡ slice_get start i
  pub whole : (how : MountEnd) → Mounts plans rose (turns_from k (drop k plans)) now tables how → Mounts plans rose (turns_from 0 plans) device start how

pub mounted-none : (plans : List Plan) (start : List model.Table) (rose : Bool) (device : Device) (entries : List Entry) (f : FlashState) → SameDevice f device → f.is_on ≡ true → TablesStand f (λ i. false) plans entries start →
    MountedSoFar plans start rose device 0 entries f
mounted-none plans start rose device entries f counts power stand = record {
  now = device;
  tables = start;
  shown = start;
  counts = counts;
  power = power;
  stand = subst (λ (m : ℕ → Bool). TablesStand f m plans entries start) none stand;
  all = stand.all;
  shows = λ i plan table p t. t ∙ ap (λ (b : Bool). Some (if b then made_ready plan table else table)) (sym (le-ltb i 0 (omega arith)));
  behind = λ i le. refl;
  whole = λ how m. m;
}
  where
    none : ◌≡◌ {A = ℕ → Bool} (λ i. false) (λ i. nat_lt i 0)
    none = fun_ext (λ i. sym (le-ltb i 0 (omega arith)))

-- One more is mounted.
module _ (plans : List Plan) (start : List model.Table) (rose : Bool) (device : Device) (k : ℕ) (entries : List Entry) (entry : Entry) (u : LoggedTable 64 64) (f g : FlashState)
    (so_far : MountedSoFar plans start rose device k entries f) (here : slice_get entries k ≡ Some entry) (goes : Goes f g) (same : IsSamePlan entry.table u) (outside : OutsideStands entry.table (page_at f) (page_at g)) where
  pub own : AtPlace f (λ i. nat_lt i k) plans entries so_far.shown k entry
  own = at-place f (λ i. nat_lt i k) plans entries so_far.shown k entry so_far.stand here

  pub within : k < length plans
  within = omega (arith, slice_get_within entries k entry here, so_far.stand.as_many)

  abbrev pub was : model.Table
  was = (slice_get-some so_far.tables k (omega (arith, within, so_far.all))).0

  was_is : slice_get so_far.tables k ≡ Some was
  was_is = (slice_get-some so_far.tables k (omega (arith, within, so_far.all))).1

  own_was : own.table ≡ was
  own_was = some-is (slice_get so_far.shown k) own.table was own.table_is (so_far.shows k own.plan was own.plan_is was_is ∙ ap (λ (b : Bool). Some (if b then made_ready own.plan was else was)) (le-ltb k k (omega arith)))

  -- the mounts before it left the table as it was
  pub was_at : slice_get start k ≡ Some was
  was_at = sym (so_far.behind k (omega arith)) ∙ was_is

  -- what the mount of the table is told
  pub stood : EntryStands entry f false (first_of plans k) own.plan was
  stood = subst (λ x. EntryStands entry f false (first_of plans k) own.plan x) own_was (subst (λ b. EntryStands entry f b (first_of plans k) own.plan own.table) (le-ltb k k (omega arith)) own.stands)

  turns : turns_from k (drop k plans) ≡ map (λ turn. (k, turn)) (turns_of own.plan) ++ turns_from (k + 1) (drop (k + 1) plans)
  turns = ap (λ (ps : List Plan). turns_from k ps) (drop-at plans k own.plan own.plan_is ∙ ap (λ n. own.plan ∷ drop n plans) (let e : suc k ≡ k + 1 = omega arith in e))

  -- what it mounts
  along : (how : TableMountEnd) → TableMounts own.plan rose (turns_of own.plan) so_far.now was how → MountsAlong plans rose k (turns_of own.plan) (turns_from (k + 1) (drop (k + 1) plans)) so_far.now so_far.tables how
  along how did = mounts-along plans own.plan k rose (turns_of own.plan) (turns_from (k + 1) (drop (k + 1) plans)) so_far.now so_far.tables was how own.plan_is was_is did

  ended : (how : MountEnd) → Mounts plans rose (map (λ turn. (k, turn)) (turns_of own.plan) ++ turns_from (k + 1) (drop (k + 1) plans)) so_far.now so_far.tables how → Mounts plans rose (turns_from 0 plans) device start how
  ended how m = so_far.whole how (subst (λ rs. Mounts plans rose rs so_far.now so_far.tables how) (sym turns) m)

  abbrev now_there : Entry
  now_there = record { name = entry.name; table = u }

  abbrev left : model.Table → List model.Table
  left state = with_table k so_far.tables state

  ahead : (i : ℕ) → (k ≡ i → ⊥) → nat_lt i k ≡ nat_lt i (k + 1)
  ahead i other = by-order (cases_lt i k)
    where
      by-order : (i < k) ⊎ (k ≤ i) → nat_lt i k ≡ nat_lt i (k + 1)
      by-order (inl lt) = lt-ltb i k lt ∙ sym (lt-ltb i (k + 1) (omega (arith, lt)))
      by-order (inr ge) = le-ltb i k ge ∙ sym (le-ltb i (k + 1) (beyond (cases_lt k i)))
        where
          beyond : (k < i) ⊎ (i ≤ k) → k + 1 ≤ i
          beyond (inl lt) = omega (arith, lt)
          beyond (inr le) = absurd (other (omega (arith, ge, le)))

  pub mounted-more : (mounted : found.Mounted) → MountsWell (first_of plans k) own.plan was rose so_far.now mounted u g → MountedSoFar plans start rose device (k + 1) (entries_with entries k entry u) g
  mounted-more mounted w =
      let state = w.now.state in
      let shown_now = changed_at k (λ _. made_ready own.plan state) so_far.shown in
      let stands : EntryStands now_there g (nat_lt k (k + 1)) (first_of plans k) own.plan (made_ready own.plan state) =
      subst (λ b. EntryStands now_there g b (first_of plans k) own.plan (made_ready own.plan state)) (sym (lt-ltb k (k + 1) (omega arith)))
      (record { named = stood.named; geometry = stood.geometry ∙ sym goes.geometry; planned = planned-same entry.table u (first_of plans k) own.plan stood.planned same; on_flash = w.stands }) in
      record {
        now = w.now.device;
        tables = left state;
        shown = shown_now;
        counts = w.counts;
        power = w.power;
        stand = tables-changed f g (λ i. nat_lt i k) (λ i. nat_lt i (k + 1)) plans entries so_far.shown shown_now k entry now_there (λ x. x) (made_ready own.plan state) so_far.stand here outside goes.geometry
            (length-changed k (made_ready own.plan state) so_far.shown) (changed-there k own.table (made_ready own.plan state) so_far.shown own.table_is)
            (λ i other. changed-elsewhere k i (made_ready own.plan state) so_far.shown other ∙ sym (option_map_id (slice_get so_far.shown i)))
            (λ plan e. subst (λ p. EntryStands now_there g (nat_lt k (k + 1)) (first_of plans k) p (made_ready own.plan state)) (some-is (slice_get plans k) own.plan plan own.plan_is e) stands)
            (λ i plan e x other h. subst (λ b. EntryStands e g b (first_of plans i) plan x) (ahead i other) h);
        all = length-changed k state so_far.tables ∙ so_far.all;
        shows = λ i plan table p t. shows-more state i plan table p t (eqb_tells k i);
        behind = λ i le. changed-elsewhere k i state so_far.tables (λ is. absurd (omega (arith, le, is))) ∙ so_far.behind i (omega (arith, le));
        whole = λ how m. ended how (along (TableMounted w.now) w.did how m);
      }
    where
      shows-more : (state : model.Table) (i : ℕ) (plan : Plan) (table : model.Table) → slice_get plans i ≡ Some plan → slice_get (left state) i ≡ Some table → ((eqb k i ≡ true) × (k ≡ i)) ⊎ ((eqb k i ≡ false) × (k ≡ i → ⊥)) →
          slice_get (changed_at k (λ _. made_ready own.plan state) so_far.shown) i ≡ Some (shown_so (k + 1) i plan table)
      shows-more state i plan table p t (inl is) =
          let state_is : state ≡ table = some-is (slice_get (left state) k) state table (changed-there k was state so_far.tables was_is) (subst (λ j. slice_get (left state) j ≡ Some table) (sym is.1) t) in
          let plan_is : own.plan ≡ plan = some-is (slice_get plans k) own.plan plan own.plan_is (subst (λ j. slice_get plans j ≡ Some plan) (sym is.1) p) in
          subst (λ j. slice_get (changed_at k (λ _. made_ready own.plan state) so_far.shown) j ≡ Some (shown_so (k + 1) j plan table)) is.1
          (changed-there k own.table (made_ready own.plan state) so_far.shown own.table_is
          ∙ (ap (λ x. Some (made_ready x state)) plan_is ∙ (ap (λ x. Some (made_ready plan x)) state_is ∙ ap (λ (b : Bool). Some (if b then made_ready plan table else table)) (sym (lt-ltb k (k + 1) (omega arith))))))
      shows-more state i plan table p t (inr other) =
          changed-elsewhere k i (made_ready own.plan state) so_far.shown other.1
          ∙ (so_far.shows i plan table p (sym (changed-elsewhere k i state so_far.tables other.1) ∙ t) ∙ ap (λ (b : Bool). Some (if b then made_ready plan table else table)) (ahead i other.1))

  -- it isn't mounted, and neither are the others from then on: what they had in memory is lost
  rest-all : (state : model.Table) → EntryStands now_there g false (first_of plans k) own.plan (lose state) → TablesStand g (λ i. false) plans (entries_with entries k entry u) (map lose (left state))
  rest-all state rests =
      tables-changed f g (λ i. nat_lt i k) (λ i. false) plans entries so_far.shown (map lose (left state)) k entry now_there lose (lose state) so_far.stand here outside goes.geometry
      (length-map (left state) lose ∙ (length-changed k state so_far.tables ∙ (so_far.all ∙ sym so_far.stand.all)))
      (slice_get-map lose (left state) k ∙ ap (option_map lose) (changed-there k was state so_far.tables was_is)) (λ i other. slice_get-map lose (left state) i ∙ lost-there i other)
      (λ plan e. subst (λ p. EntryStands now_there g false (first_of plans k) p (lose state)) (some-is (slice_get plans k) own.plan plan own.plan_is e) rests)
      (λ i plan e x other h. entry-off e g (nat_lt i k) (first_of plans i) plan x h)
    where
      lost-ready : (plan : Plan) (table : model.Table) (logged : Bool) → lose table ≡ lose (if logged then table else ready plan table)
      lost-ready plan table true = refl
      lost-ready plan table false = refl

      lost-as : (plan : Plan) (table : model.Table) (b : Bool) → Some (lose table) ≡ option_map lose (Some (if b then made_ready plan table else table))
      lost-as plan table true = ap (λ x. Some x) (lost-ready plan table (has_log plan))
      lost-as plan table false = refl

      lost-there : (i : ℕ) → (k ≡ i → ⊥) → option_map lose (slice_get (left state) i) ≡ option_map lose (slice_get so_far.shown i)
      lost-there i other = ap (option_map lose) (changed-elsewhere k i state so_far.tables other) ∙ by-length (cases_lt i (length plans))
        where
          by-length : (i < length plans) ⊎ (length plans ≤ i) → option_map lose (slice_get so_far.tables i) ≡ option_map lose (slice_get so_far.shown i)
          by-length (inl lt) =
              let plan = slice_get-some plans i lt in
              let table = slice_get-some so_far.tables i (omega (arith, lt, so_far.all)) in
              ap (option_map lose) table.1 ∙ (lost-as plan.0 table.0 (nat_lt i k) ∙ ap (option_map lose) (sym (so_far.shows i plan.0 table.0 plan.1 table.1)))
          by-length (inr ge) =
              ap (option_map lose) (slice_get_past so_far.tables i (omega (arith, ge, so_far.all)) ∙ sym (slice_get_past so_far.shown i (omega (arith, ge, so_far.stand.all))))

  pub mounted-broken : (fault : FlashFault) → MountsBadly (first_of plans k) own.plan was rose so_far.now fault g → TablesBroken plans start rose device fault (entries_with entries k entry u) g
  mounted-broken fault b = record {
    end = progress_at k so_far.tables b.now;
    did = by-how b.did;
    counts = b.counts;
    rest = rest-all b.now.state (record { named = stood.named; geometry = stood.geometry ∙ sym goes.geometry; planned = planned-same entry.table u (first_of plans k) own.plan stood.planned same; on_flash = b.rests });
  }
    where
      fault-is : (e : PartEnd model.Table) → FaultEnds e fault g → FaultIs (outcome_at k so_far.tables e) fault
      fault-is Whole h = absurd h
      fault-is end h = h.0

      by-how : (TableMounts own.plan rose (turns_of own.plan) so_far.now was (TableStopped b.now) × FaultEnds b.now.end fault g) ⊎ (TableMounts own.plan rose (turns_of own.plan) so_far.now was (TableUnread b.now) × (fault ≡ Media)) →
          (Mounts plans rose (turns_from 0 plans) device start (Stopped (progress_at k so_far.tables b.now)) × FaultIs (outcome_at k so_far.tables b.now.end) fault)
          ⊎ (Mounts plans rose (turns_from 0 plans) device start (Unread (progress_at k so_far.tables b.now)) × (fault ≡ Media))
      by-how (inl h) = inl (ended (Stopped (progress_at k so_far.tables b.now)) (along (TableStopped b.now) h.0), fault-is b.now.end h.1)
      by-how (inr h) = inr (ended (Unread (progress_at k so_far.tables b.now)) (along (TableUnread b.now) h.0), h.1)

  pub mounted-err : (fault : MountFault) → MountEnds (first_of plans k) own.plan was rose so_far.now (Err fault) u g → MountBreaks plans start rose device fault (entries_with entries k entry u) g
  mounted-err (mount.Flash fault) h = mounted-broken fault h
  mounted-err fault h = absurd h

-- all were mounted
all-ready-at : (plans : List Plan) (tables : List model.Table) (i : ℕ) (plan : Plan) (table : model.Table) → slice_get plans i ≡ Some plan → slice_get tables i ≡ Some table → slice_get (all_ready plans tables) i ≡ Some (made_ready plan table)
all-ready-at [] tables i plan table p t = absurd (none-some plan p)
all-ready-at (q ∷ plans) [] i plan table p t = absurd (none-some table t)
all-ready-at (q ∷ plans) (y ∷ tables) zero plan table p t =
    let plan_is : q ≡ plan = cc in
    let table_is : y ≡ table = cc in
    ap (λ x. Some (made_ready x y)) plan_is ∙ ap (λ x. Some (made_ready plan x)) table_is
all-ready-at (q ∷ plans) (y ∷ tables) (suc i) plan table p t = all-ready-at plans tables i plan table p t

length-ready : (plans : List Plan) (tables : List model.Table) → length tables ≡ length plans → length (all_ready plans tables) ≡ length plans
length-ready [] tables e = e
length-ready (plan ∷ plans) [] e = absurd (omega (arith, e))
length-ready (plan ∷ plans) (table ∷ tables) e = ap suc (length-ready plans tables (omega (arith, e)))

pub mounted-all : (plans : List Plan) (start : List model.Table) (rose : Bool) (device : Device) (k : ℕ) (entries : List Entry) (f : FlashState) → k ≡ length entries → MountedSoFar plans start rose device k entries f → TablesMounted plans start rose device entries f
mounted-all plans start rose device k entries f is so_far = record {
  end = record { outcome = Finished; device = so_far.now; tables = so_far.tables };
  whole = refl;
  did = so_far.whole (Mounted (record { outcome = Finished; device = so_far.now; tables = so_far.tables }))
      (subst (λ (ps : List Plan). Mounts plans rose (turns_from k ps) so_far.now so_far.tables (Mounted (record { outcome = Finished; device = so_far.now; tables = so_far.tables }))) (sym (drop_all k plans (omega (arith, is, so_far.stand.as_many)))) refl);
  counts = so_far.counts;
  power = so_far.power;
  stand = record {
    as_many = so_far.stand.as_many;
    all = length-ready plans so_far.tables so_far.all;
    each = each;
  };
}
  where
    each : (i : ℕ) (plan : Plan) (entry : Entry) (x : model.Table) → slice_get plans i ≡ Some plan → slice_get entries i ≡ Some entry → slice_get (all_ready plans so_far.tables) i ≡ Some x → EntryStands entry f true (first_of plans i) plan x
    each i plan entry x p e t =
        let lt : i < k = omega (arith, slice_get_within entries i entry e, is) in
        let table = slice_get-some so_far.tables i (omega (arith, slice_get_within plans i plan p, so_far.all)) in
        let shown : slice_get so_far.shown i ≡ Some (made_ready plan table.0) = so_far.shows i plan table.0 p table.1 ∙ ap (λ (b : Bool). Some (if b then made_ready plan table.0 else table.0)) (lt-ltb i k lt) in
        let stands = subst (λ b. EntryStands entry f b (first_of plans i) plan (made_ready plan table.0)) (lt-ltb i k lt) (so_far.stand.each i plan entry (made_ready plan table.0) p e shown) in
        subst (λ y. EntryStands entry f true (first_of plans i) plan y) (some-is (slice_get (all_ready plans so_far.tables) i) (made_ready plan table.0) x (all-ready-at plans so_far.tables i plan table.0 p table.1) t) stands
