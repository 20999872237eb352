-- Each step of the machine writes pages of a table and gives up its oldest records; so does each run.
use Rattle.std.proofs.Common.{◌≡◌, ℕ, ◌+◌, ◌-◌, Bool, true, false, Option, Some, List, [], ◌∷◌, ◌++◌, length, map, drop, refl, sym, ◌∙◌, ap, subst, arith, ◌⊎◌, inl, inr, MatchBool, length-drop}
use Rattle.std.specs.List.{slice_get}
use Rattle.std.specs.Option.{option_map, unwrap_or}
use Rattle.std.proofs.lemmas.List.{append-nil, append_assoc, drop-drop, length-map}
use Rattle.std.proofs.lemmas.Option.{slice_get-map, same_Some}
use Rattle.std.proofs.Math.Seq.{drop-append_seam, drop-length, take-nil}
use Rattle.fl_model.specs.Mount.{MountEnd, Mounted, Mounts, Stopped, Unread, turns_from}
use Rattle.fl_model.specs.Record.{Config, Plan, Record, has_log}
use Rattle.fl_model.specs.Table.{Entry, Table, fresh_table, lose, written}
use Rattle.fl_model.specs.Work.{CutShort, Failed, Finished, Outcome}
use Rattle.fl_model.proofs.ShipWork.{Drops, drops-none, map-drop}
use Rattle.fl_model.specs.Ship.{Ascends, records_in}
use Rattle.fl_ship.proofs.Steps.{kept-lost}
use Rattle.fl_words.specs.Command as command
use Rattle.fl_words.specs.Command.{Command}
use Rattle.fl_words.specs.Reply as reply
use Rattle.fl_words.specs.Reply.{Reply}
use Rattle.fl_machine.specs.Machine.{Machine, stopped}
use Rattle.fl_machine.specs.Run.{Run, end_of}
use Rattle.fl_machine.specs.Step.{EndsAs, EndsMount, Moment, Says, StepOf}
use Rattle.fl_machine.proofs.StepCases.{IsQuiet, quiet-step, with-table}
use Rattle.fl_shipped.specs.Growing.{RunsGrow, paged_records, waiting_records, table_at, written_by, written_in}
use Rattle.fl_ship.proofs.MountDrops.{DropsOldest, IsLeft, lose-drops, mount-drops, mounted-drops}
use Rattle.fl_shipped.proofs.SealedPages.{joined, records}
use Rattle.fl_shipped.proofs.Orders.{InOrder, drops-from, from-drop, order-front, order-less}
use Rattle.fl_shipped.specs.Ascending.{KeysAscend, TakesLower, TakesLowerIn}
use Rattle.fl_shipped.proofs.CommandWrites.{Kept, StepKeeps, flush-keeps, kept-none, load-keeps, lost-keeps, put-keeps, step-stays}

-- ---- mounts

-- what waits loses its oldest too, where the table has no others
waiting-drops : (x y : Table) → DropsOldest x y → (gone : ℕ) × (waiting_records y ≡ drop gone (waiting_records x))
waiting-drops x y h =
    let rs = records_in x in
    let g = h.records.gone in
    let n = length rs - x.pending in
    let m = length (drop g rs) - x.pending in
    let len : length (drop g rs) ≡ length rs - g = length-drop g rs in
    let more : g + m ≡ n + ((g + m) - n) = omega (arith, len) in (
      (g + m) - n,
      waits y
          ∙ (ap (λ (p : ℕ). drop (length (records_in y) - p) (records_in y)) h.pending
          ∙ (ap (λ (ks : List Record). drop (length ks - x.pending) ks) h.records.is
          ∙ (drop-drop m g rs
          ∙ (ap (λ k. drop k rs) more ∙ (sym (drop-drop ((g + m) - n) n rs) ∙ ap (drop ((g + m) - n)) (sym (waits x))))))),
    )
  where
    waits : (t : Table) → waiting_records t ≡ drop (length (records_in t) - t.pending) (records_in t)
    waits t = map-drop (length t.entries - t.pending) t.entries ∙ ap (λ n. drop (n - t.pending) (records_in t)) (sym (length-map t.entries (λ (e : Entry). e.kept)))

oldest-keeps : (Bad : Type 0) (written : List Record) (x y : Table) → DropsOldest x y → Kept Bad written x → Kept Bad written y
oldest-keeps Bad all x y h kept =
    let paged = lose-drops x y h in
    let waiting = waiting-drops x y h in
    record {
      kept = from-drop all (paged_records x) (paged_records y) paged.gone kept.kept paged.is;
      order = subst (λ (rs : List Record). InOrder Bad (all ++ rs)) (sym waiting.1) (order-less Bad all (waiting_records x) waiting.0 kept.order);
    }

module _ (Bad : Type 0) (config : Config) (p : ℕ) (plan : Plan) (written : List Record) (x : Table) (old : Machine) (m : Moment) where
  stays : (c : Command) (new : Machine) → slice_get old.tables p ≡ Some x → Kept Bad written x → m.after ≡ new → new.tables ≡ old.tables → StepKeeps Bad plan p written x m c
  stays c new k kept e s = step-stays Bad config p plan written x old m c new k kept e s

  quiet : (c : Command) → IsQuiet c → slice_get old.tables p ≡ Some x → Kept Bad written x → StepOf config old m c → StepKeeps Bad plan p written x m c
  quiet c q k kept h = stays c m.after k kept refl (quiet-step config old m c q h).tables

  -- a mount writes no records
  mount-none : (y : Table) → written_by plan x y command.Mount ≡ []
  mount-none y = ap joined (take-nil (y.rows.next - x.rows.next))

  mount-lost : (left : List Table) → Kept Bad written x → IsLeft p x left → m.after.tables ≡ map lose left → StepKeeps Bad plan p written x m command.Mount
  mount-lost left kept h e = record {
    table = lose h.table;
    is = ap (λ (ts : List Table). slice_get ts p) e ∙ (slice_get-map lose left p ∙ ap (option_map lose) h.is);
    kept = kept-none Bad plan written x (lose h.table) command.Mount (mount-none (lose h.table)) (lost-keeps Bad written h.table (oldest-keeps Bad written x h.table h.drops kept));
  }

  mount-keeps : (how : MountEnd) → slice_get config.plans p ≡ Some plan → has_log plan ≡ false → slice_get old.tables p ≡ Some x → Kept Bad written x →
      Mounts config.plans m.rose (turns_from 0 config.plans) old.device old.tables how → EndsMount config old m how → StepKeeps Bad plan p written x m command.Mount
  mount-keeps (Mounted end) e none k kept did h =
      let y = mounted-drops config.plans plan p m.rose old.device old.tables end x e none k did in
      record {
        table = y.table;
        is = ap (λ (machine : Machine). slice_get machine.tables p) h.after_is ∙ y.is;
        kept = kept-none Bad plan written x y.table command.Mount (mount-none y.table) (oldest-keeps Bad written x y.table y.drops kept);
      }
  mount-keeps (Unread end) e none k kept did h =
      mount-lost end.tables kept (mount-drops config.plans plan p m.rose old.device old.tables (Unread end) x e none k did) (ap (λ (machine : Machine). machine.tables) h.after_is)
  mount-keeps (Stopped end) e none k kept did h = by_outcome end.outcome h
    where
      left : IsLeft p x end.tables
      left = mount-drops config.plans plan p m.rose old.device old.tables (Stopped end) x e none k did

      by_outcome : (o : Outcome) → EndsAs o old m end [] [] old → StepKeeps Bad plan p written x m command.Mount
      by_outcome Finished h = stays command.Mount old k kept h.after_is refl
      by_outcome (CutShort last) h = mount-lost end.tables kept left (ap (λ (machine : Machine). machine.tables) h.after_is)
      by_outcome (Failed last) h = mount-lost end.tables kept left (ap (λ (machine : Machine). machine.tables) h.after_is)

  -- the end of a session
  off-keeps : slice_get old.tables p ≡ Some x → Kept Bad written x → m.after ≡ stopped old → StepKeeps Bad plan p written x m command.Off
  off-keeps k kept e = record {
    table = lose x;
    is = ap (λ (machine : Machine). slice_get machine.tables p) e ∙ (slice_get-map lose old.tables p ∙ ap (option_map lose) k);
    kept = kept-none Bad plan written x (lose x) command.Off (ap joined (take-nil (x.rows.next - x.rows.next))) (lost-keeps Bad written x kept);
  }

  -- ---- each step

  step-keeps : (c : Command) → m.command ≡ c → (TakesLower config p plan written old m → Bad) → slice_get config.plans p ≡ Some plan → has_log plan ≡ false → slice_get old.tables p ≡ Some x → Kept Bad written x → StepOf config old m c → StepKeeps Bad plan p written x m c
  step-keeps command.Nothing same bad e none k kept h = quiet command.Nothing tt k kept h
  step-keeps command.Mount same bad e none k kept h = by_test old.mounted h
    where
      by_test : (b : Bool) → MatchBool b (Says m (reply.AlreadyMounted ∷ []) old) ((how : MountEnd) × Mounts config.plans m.rose (turns_from 0 config.plans) old.device old.tables how × EndsMount config old m how) → StepKeeps Bad plan p written x m command.Mount
      by_test true h = stays command.Mount _ k kept h.after_is refl
      by_test false (how, did, ends) = mount-keeps how e none k kept did ends
  step-keeps command.Off same bad e none k kept h = off-keeps k kept h.after_is
  step-keeps (command.Cut n kind) same bad e none k kept h = quiet (command.Cut n kind) tt k kept h
  step-keeps (command.Put name key values blob) same bad e none k kept h =
      let c = command.Put name key values blob in
      with-table config old m name _ _
      (λ at q b g. put-keeps Bad config p plan written x old m name (record { key = key; values = values; blob = blob }) at same bad b q e k kept g)
      (λ r s. stays c old k kept s.after_is refl) h
  step-keeps (command.Flush name) same bad e none k kept h =
      with-table config old m name _ _
      (λ at q b g. flush-keeps Bad config p plan written x old m name at q e k kept g)
      (λ r s. stays (command.Flush name) old k kept s.after_is refl) h
  step-keeps (command.Load name count step seed) same bad e none k kept h =
      with-table config old m name _ _
      (λ at q b g. load-keeps Bad config p plan written x old m name count step seed at same bad b q e k kept g)
      (λ r s. stays (command.Load name count step seed) old k kept s.after_is refl) h
  step-keeps (command.Get name key) same bad e none k kept h = quiet (command.Get name key) tt k kept h
  step-keeps (command.Blob name key) same bad e none k kept h = quiet (command.Blob name key) tt k kept h
  step-keeps (command.Scan name range span) same bad e none k kept h = quiet (command.Scan name range span) tt k kept h
  step-keeps (command.Open cursor name range span) same bad e none k kept h = quiet (command.Open cursor name range span) tt k kept h
  step-keeps (command.Next cursor count) same bad e none k kept h = quiet (command.Next cursor count) tt k kept h
  step-keeps (command.Close cursor) same bad e none k kept h = quiet (command.Close cursor) tt k kept h
  step-keeps (command.Select name range column op value) same bad e none k kept h = quiet (command.Select name range column op value) tt k kept h
  step-keeps (command.Project name range columns) same bad e none k kept h = quiet (command.Project name range columns) tt k kept h
  step-keeps (command.Agg name range column width) same bad e none k kept h = quiet (command.Agg name range column width) tt k kept h
  step-keeps (command.Join left right range) same bad e none k kept h = quiet (command.Join left right range) tt k kept h
  step-keeps (command.Stat name) same bad e none k kept h = quiet (command.Stat name) tt k kept h
  step-keeps command.Cost same bad e none k kept h = quiet command.Cost tt k kept h
  step-keeps (command.Device page block) same bad e none k kept h = absurd h
  step-keeps (command.Table line) same bad e none k kept h = absurd h

-- ---- each run

pub record RunKeeps (Bad : Type 0) (plan : Plan) (p : ℕ) (written : List Record) (old : Machine) (moments : List Moment) : Type 0 where
  pub table : Table
  pub is : slice_get (end_of old moments).tables p ≡ Some table
  pub kept : Kept Bad (written ++ written_in plan p old moments) table

pub run-keeps : (Bad : Type 0) (config : Config) (p : ℕ) (plan : Plan) (written : List Record) (x : Table) (old : Machine) (moments : List Moment) → (TakesLowerIn config p plan written old moments → Bad) →
    slice_get config.plans p ≡ Some plan → has_log plan ≡ false → slice_get old.tables p ≡ Some x → Kept Bad written x → Run config old moments → RunKeeps Bad plan p written old moments
run-keeps Bad config p plan written x old [] bad e none k kept run = record { table = x; is = k; kept = subst (λ (rs : List Record). Kept Bad rs x) (sym (append-nil written)) kept }
run-keeps Bad config p plan written x old (m ∷ moments) bad e none k kept run =
    let step = step-keeps Bad config p plan written x old m m.command refl (λ h. bad (inl h)) e none k kept run.0 in
    let there : (tables : List Table) (t : Table) → slice_get tables p ≡ Some t → table_at plan p tables ≡ t = λ tables t q. ap (λ (o : Option Table). unwrap_or o (fresh_table plan)) q in
    let wrote : written_by plan x step.table m.command ≡ written_by plan (table_at plan p old.tables) (table_at plan p m.after.tables) m.command =
    sym (ap (λ (t : Table). written_by plan t (table_at plan p m.after.tables) m.command) (there old.tables x k) ∙ ap (λ (t : Table). written_by plan x t m.command) (there m.after.tables step.table step.is)) in
    let now = written ++ written_by plan (table_at plan p old.tables) (table_at plan p m.after.tables) m.command in
    let rest = run-keeps Bad config p plan now step.table m.after moments (λ h. bad (inr h)) e none step.is (subst (λ (rs : List Record). Kept Bad (written ++ rs) step.table) wrote step.kept) run.1 in
    record { table = rest.table; is = rest.is; kept = subst (λ (rs : List Record). Kept Bad rs rest.table) (append_assoc written _ (written_in plan p m.after moments)) rest.kept }

-- ---- the laws

-- nothing waits in a table in which nothing is pending
none-waits : (t : Table) → t.pending ≡ 0 → waiting_records t ≡ []
none-waits t none =
    ap records
    (ap (λ (p : ℕ). drop (length t.entries - p) t.entries) none ∙ (ap (λ n. drop n t.entries) (let z : length t.entries - 0 ≡ length t.entries = omega arith in z) ∙ drop-length t.entries))

pub begins-kept : (Bad : Type 0) (written : List Record) (t : Table) → t.pending ≡ 0 → Drops written (records_in t) → InOrder Bad written → Kept Bad written t
begins-kept Bad all t none h order = record {
  kept = drops-from all (paged_records t) h.gone (kept-lost t none ∙ h.is);
  order = subst (λ (rs : List Record). InOrder Bad (all ++ rs)) (sym (none-waits t none)) (subst (InOrder Bad) (sym (append-nil all)) order);
}

pub grow : RunsGrow
grow config old moments place plan before after e none k run l =
    let drop_none = drops-none (paged_records before) in
    let start : Kept (Unit {0}) (paged_records before) before = record { kept = drops-from (paged_records before) (paged_records before) drop_none.gone drop_none.is; order = inr tt } in
    let left = run-keeps (Unit {0}) config place plan (paged_records before) before old moments (λ h. tt) e none k start run in
    let kept = subst (λ (t : Table). Kept (Unit {0}) (paged_records before ++ written_in plan place old moments) t) (same_Some left.table after (sym left.is ∙ l)) left.kept in
    record { given_up = kept.kept.given_up; is = kept.kept.is }

pub ascends-on : (config : Config) (old : Machine) (moments : List Moment) (place : ℕ) (plan : Plan) (before : Table) (written : List Record) → slice_get config.plans place ≡ Some plan → has_log plan ≡ false → slice_get old.tables place ≡ Some before →
    before.pending ≡ 0 → Drops written (records_in before) → Ascends written → Run config old moments → Ascends (written ++ written_in plan place old moments) ⊎ TakesLowerIn config place plan written old moments
ascends-on config old moments place plan before written e none k pending drops ascends run =
    let Bad = TakesLowerIn config place plan written old moments in
    let left = run-keeps Bad config place plan written before old moments (λ h. h) e none k (begins-kept Bad written before pending drops (inl ascends)) run in
    order-front Bad (written ++ written_in plan place old moments) (waiting_records left.table) left.kept.order

pub ascend : KeysAscend
ascend config old moments place plan before written e none k pending end ascends run =
    ascends-on config old moments place plan before written e none k pending
    (record { gone = length end.before; is = sym (ap (drop (length end.before)) end.is ∙ drop-append_seam end.before (records_in before)) }) ascends run
