-- The puts of a load, one after another.
use Rattle.std.proofs.Common.{◌≡◌, ℕ, suc, ◌+◌, ◌-◌, ◌^◌, ◌<◌, min, Bool, true, false, not, IsTrue, IfErr, Option, Some, None, Result, Ok, Err, List, [], ◌∷◌, slice_get, refl, sym, ◌∙◌, ap, subst, arith, MatchOption, option_map, unwrap_or, is_err, set-set, ℤ}
use Rattle.std.proofs.lemmas.Bool.{le-leb, false≢true, true≢false}
use Rattle.fl_base.specs.Causes.{Rose}
use Rattle.fl_base.specs.Generator.{next_random}
use Rattle.fl_flash.specs.Flash.{FlashState, Goes, page_at}
use Rattle.fl_flash.specs.declared.flash.FlashFault.{FlashFault}
use Rattle.fl_frame.specs.Watched.{IsWatched}
use Rattle.fl_model.specs.Bare.{bare, bare_table}
use Rattle.fl_model.specs.Record.{Config, Plan, Record}
use Rattle.fl_model.specs.Table as model
use Rattle.fl_model.specs.Table.{refusal_of, put_record, last_entry, Refusal, BadKey, BadColumns, BadValue, BadBlob, Spent}
use Rattle.fl_model.specs.Work.{Device, Progress, changed_at, PartEnd, Whole, CutIn, FailedIn, PartProgress}
use Rattle.fl_model.specs.Within.{with_table, progress_at, outcome_at}
use Rattle.fl_model.specs.Puts.{Puts}
use Rattle.fl_model.proofs.PutAmongTables.{puts-at}
use Rattle.fl_words.specs.Command as command
use Rattle.fl_words.specs.Command.{Command}
use Rattle.fl_words.specs.Reply as reply
use Rattle.fl_words.specs.Reply.{Reply, texts}
use Rattle.fl_machine.specs.Machine.{Machine, stopped}
use Rattle.fl_machine.specs.Reads.{none_read}
use Rattle.fl_machine.specs.Stays.{CommandStays, TablesStay, IsIdle, are_refusal}
use Rattle.fl_machine.specs.Step.{Moment, Says, Located, refused, LoadStep, LoadsFrom, LoadsOn, load_record, load_values}
use Rattle.fl_table.specs.declared.table.Table.{Table}
use Rattle.fl_table.specs.declared.faults.PutRefusal.{PutRefusal}
use Rattle.fl_table.specs.declared.faults.PutRefusal.TheVariants as put
use Rattle.fl_table.specs.Causes.{put_breaks}
use Rattle.fl_table.specs.Look.{layout_in}
use Rattle.fl_parts.specs.Failing.{FaultEnds}
use Rattle.fl_table.specs.Standing as without_log
use Rattle.fl_rlc.specs.Logged.{Stands}
use Rattle.fl_rlc.specs.Outcomes.{PutEnds}
use Rattle.fl_rlc.specs.Refusal.{RefusedSame}
use Rattle.fl_rlc.specs.Table.{IsSamePlan, OutsideStands, table_in}
use Rattle.fl_rlc.specs.declared.table.LoggedTable.{LoggedTable}
use Rattle.fl_store.specs.Tables.{first_of, entries_with, IsNamed}
use Rattle.fl_store.specs.declared.tables.Entry.{Entry}
use Rattle.fl_store.proofs.TablesChanged.{set-there, set-elsewhere, set-same, some-is, at-place}
use Rattle.fl_session.specs.Answer.{Answers, load_replies}
use Rattle.fl_store.specs.Replies.{fault_reply}
use Rattle.fl_session.specs.Load.{load_key}
use Rattle.fl_session.specs.declared.notes.Notes.{Notes}
use Rattle.fl_session.specs.Standing.{SessionStands}
use Rattle.fl_session.proofs.CommandReplies.{step-is, table-step}
use Rattle.fl_session.proofs.KeptPages.{TablesKeep, tables-keep_all, tables-on, tables-stay, mounted-stays}
use Rattle.fl_session.proofs.NamedTable.{Own, own-of}
use Rattle.fl_session.proofs.Rested.{session-ends}
use Rattle.fl_store.proofs.Risen.{has_risen, risen-rose}
use Rattle.fl_session.proofs.PutsAndFlushes.{works-on, stands-done, stands-broken, keeps-done, last_of, not-whole}

-- the machine in the midst of a load
abbrev pub amid : Machine → Device → List model.Table → Machine
amid old device tables = record old { device = device; tables = tables }

-- So many records were put to the table at a place, and what the rest of the load is to the machine, the whole is.
pub record LoadedSoFar (config : Config) (entries : List Entry) (at : ℕ) (entry : Entry) (asked : List ℕ) (notes : Notes) (old : Machine) (start : List ℕ) (t : LoggedTable 64 64) (f : FlashState) (rose : Bool) (count step seed loaded random : ℕ) : Type 0 where
  pub device : Device
  pub tables : List model.Table
  pub stands : SessionStands config (entries_with entries at entry t) f true notes (amid old device tables)
  -- the pages that are kept since the load's start
  pub keeps : TablesKeep config start f.media.content old.tables tables
  pub plan : Plan
  pub plan_is : slice_get config.plans at ≡ Some plan
  pub whole : (moment : Moment) → moment.rose ≡ rose → LoadsFrom config old moment plan at step seed (count - loaded) (loaded + 1) random loaded device tables →
      LoadsFrom config old moment plan at step seed count 1 (next_random seed) 0 old.device old.tables

-- the entry of a table that a load has changed
abbrev pub entry_now : Entry → LoggedTable 64 64 → Entry
entry_now entry t = record { name = entry.name; table = t }

entry-there : (entries : List Entry) (at : ℕ) (entry : Entry) (t : LoggedTable 64 64) → slice_get entries at ≡ Some entry → slice_get (entries_with entries at entry t) at ≡ Some (entry_now entry t)
entry-there entries at entry t here = set-there entries at entry (entry_now entry t) here

entries-again : (entries : List Entry) (at : ℕ) (entry : Entry) (t u : LoggedTable 64 64) → entries_with (entries_with entries at entry t) at (entry_now entry t) u ≡ entries_with entries at entry u
entries-again entries at entry t u = set-set entries at (entry_now entry t) (entry_now entry u)

still-named : (entries : List Entry) (at : ℕ) (entry : Entry) (t : LoggedTable 64 64) (asked : List ℕ) → slice_get entries at ≡ Some entry → IsNamed entries asked at → IsNamed (entries_with entries at entry t) asked at
still-named entries at entry t asked here named = record {
  entry = entry_now entry t;
  here = entry-there entries at entry t here;
  named = ap (λ (e : Entry). e.name) (some-is (slice_get entries at) entry named.entry here named.here) ∙ named.named;
  first = λ i other lt e. named.first i other lt (sym (set-elsewhere entries at i (entry_now entry t) (λ is. absurd (omega (arith, lt, is)))) ∙ e);
}

pub loaded-none : (config : Config) (entries : List Entry) (at : ℕ) (entry : Entry) (asked : List ℕ) (notes : Notes) (old : Machine) (t : LoggedTable 64 64) (f : FlashState) (rose : Bool) (count step seed random : ℕ) → random ≡ next_random seed →
    SessionStands config entries f true notes old → slice_get entries at ≡ Some entry → entry.table ≡ t →
    LoadedSoFar config entries at entry asked notes old f.media.content t f rose count step seed 0 random
loaded-none config entries at entry asked notes old t f rose count step seed random e h here is =
    let own = at-place f (λ i. true) config.plans entries old.tables at entry h.tables here in
    let same : entries ≡ entries_with entries at entry t = sym (ap (λ x. entries_with entries at entry x) (sym is) ∙ set-same entries at entry here) in
    record {
      device = old.device;
      tables = old.tables;
      stands = subst (λ es. SessionStands config es f true notes old) same h;
      keeps = tables-keep_all config f.media.content old.tables;
      plan = own.plan;
      plan_is = own.plan_is;
      whole = λ moment r l.
          subst (λ turns. LoadsFrom config old moment own.plan at step seed turns 1 (next_random seed) 0 old.device old.tables) (let k : count - 0 ≡ count = omega arith in k)
          (subst (λ s. LoadsFrom config old moment own.plan at step seed (count - 0) 1 s 0 old.device old.tables) e l);
    }

-- the next put of a load, over a table that is known
abbrev PutsNext : Config → Machine → Moment → Plan → ℕ → ℕ → ℕ → ℕ → ℕ → ℕ → ℕ → Device → List model.Table → model.Table → Option Refusal → Type 0
PutsNext config old moment plan at step seed turns i s loaded device tables table refusal =
    let item = load_record plan table step seed i s in
    MatchOption refusal
    ((end : Progress) × Puts config.plans moment.rose plan at item table device tables end
    × LoadsOn end.outcome old moment end loaded
    (LoadsFrom config old moment plan at step seed turns (i + 1) (next_random s) (loaded + 1) end.device (changed_at at (put_record plan item) tables)))
    (λ refusal. Says moment (reply.Loaded loaded ∷ refused refusal ∷ []) (amid old device tables))

loads-next : (config : Config) (old : Machine) (moment : Moment) (plan : Plan) (at step seed count loaded s : ℕ) (device : Device) (tables : List model.Table) (table : model.Table) (refusal : Option Refusal) →
    loaded < count → slice_get tables at ≡ Some table → refusal_of plan table (load_record plan table step seed (loaded + 1) s) ≡ refusal →
    PutsNext config old moment plan at step seed (count - (loaded + 1)) (loaded + 1) s loaded device tables table refusal →
    LoadsFrom config old moment plan at step seed (count - loaded) (loaded + 1) s loaded device tables
loads-next config old moment plan at step seed count loaded s device tables table refusal lt e is p =
    subst (λ turns. LoadsFrom config old moment plan at step seed turns (loaded + 1) s loaded device tables) (let k : suc (count - (loaded + 1)) ≡ count - loaded = omega arith in k)
    (subst (λ (o : Option model.Table). MatchOption o (Says moment [] (amid old device tables))
    (λ x. PutsNext config old moment plan at step seed (count - (loaded + 1)) (loaded + 1) s loaded device tables x (refusal_of plan x (load_record plan x step seed (loaded + 1) s)))) (sym e)
    (subst (λ r. PutsNext config old moment plan at step seed (count - (loaded + 1)) (loaded + 1) s loaded device tables table r) (sym is) p))

-- the record that is made is the machine's
abbrev pub made : ℕ → List ℤ → Record
made key values = record { key = key; values = values; blob = None }

made-is : (t : LoggedTable 64 64) (f : FlashState) (first : ℕ) (plan : Plan) (table : model.Table) (step seed i s key : ℕ) (values : List ℤ) (last : Option ℕ) → Stands t f first plan table → last ≡ option_map (λ entry. entry.kept.key) (last_entry table) →
    key ≡ load_key (unwrap_or last 0) step s → values ≡ load_values i seed 1 (layout_in (table_in t)).columns → made key values ≡ load_record plan table step seed i s
made-is t f first plan table step seed i s key values last stands e k v =
    let key_is : key ≡ (load_record plan table step seed i s).key = k ∙ ap (λ o. load_key (unwrap_or o 0) step s) e in
    let values_are : values ≡ load_values i seed 1 plan.columns = v ∙ ap (λ l. load_values i seed 1 l.columns) (sym stands.unlogged.planned.layout) in
    ap (λ n. made n values) key_is ∙ ap (λ vs. made (load_record plan table step seed i s).key vs) values_are

-- faults that rose, as a command tells them
pub rose-risen : (f g : FlashState) → Rose f.media.faults g.media.faults → IsTrue (has_risen f g)
rose-risen f g r = le-leb (min (f.media.faults + 1) (2 ^ 64 - 1)) g.media.faults r

-- a load that ended so
ends-load : (config : Config) (entries now : List Entry) (at : ℕ) (entry : Entry) (asked : List ℕ) (notes : Notes) (old : Machine) (f g : FlashState) (count step seed : ℕ) (mounted : Bool) (plan : Plan) (moment : Moment) →
    SessionStands config entries f true notes old → slice_get entries at ≡ Some entry → IsNamed entries asked at → moment.command ≡ command.Load asked count step seed → moment.rose ≡ has_risen f g → none_read moment → slice_get config.plans at ≡ Some plan →
    LoadsFrom config old moment plan at step seed count 1 (next_random seed) 0 old.device old.tables → SessionStands config now g mounted notes moment.after →
    (moment.last ≡ None → TablesStay config f.media.content g.media.content old.tables moment.after.tables) → are_refusal moment.replies ≡ false →
    Answers config old (command.Load asked count step seed) (SessionStands config now g mounted notes) f g (texts moment.replies)
ends-load config entries now at entry asked notes old f g count step seed mounted plan moment h here named is rose none plan_is loads stands stay tells =
    let own = own-of config old entries f notes asked at entry h here named in
    let place : Located = record { place = at; plan = own.plan; table = own.table } in
    let load : LoadStep config old moment count step seed place = subst (λ p. LoadsFrom config old moment p at step seed count 1 (next_random seed) 0 old.device old.tables) (some-is (slice_get config.plans at) plan own.plan plan_is own.plan_is) loads in
    record {
      moment = moment;
      command_is = is;
      step = step-is config old moment (command.Load asked count step seed) is (table-step config old moment asked (LoadStep config old moment count step seed) place h.is_mounted own.found load);
      stands_after = stands;
      stays = record {
        image = session-ends config now notes g mounted moment.after stands;
        idle = λ idle. absurd (works-on moment.replies tells (subst (λ c. IsIdle c moment.replies) is idle));
        stays = λ calm whole. subst (λ c. CommandStays config old c moment.after f.media.content g.media.content) (sym is)
            (mounted-stays config old.mounted f.media.content g.media.content old.tables moment.after.tables h.is_mounted (stay whole));
      };
      none = none;
      rose = λ e. risen-rose f g (subst IsTrue rose e);
      said_is = refl;
    }

-- all records were put
pub load-finished : (config : Config) (entries : List Entry) (at : ℕ) (entry : Entry) (asked : List ℕ) (notes : Notes) (old : Machine) (u : LoggedTable 64 64) (f g : FlashState) (count step seed loaded random : ℕ) → SessionStands config entries f true notes old →
    slice_get entries at ≡ Some entry → IsNamed entries asked at → loaded ≡ count → LoadedSoFar config entries at entry asked notes old f.media.content u g (has_risen f g) count step seed loaded random →
    Answers config old (command.Load asked count step seed) (SessionStands config (entries_with entries at entry u) g true notes) f g (texts (load_replies count (Ok tt)))
load-finished config entries at entry asked notes old u f g count step seed loaded random h here named e so_far =
    let moment : Moment = record { command = command.Load asked count step seed; rose = has_risen f g; reads = 0; last = None; replies = reply.Loaded count ∷ []; after = amid old so_far.device so_far.tables } in
    let ended : LoadsFrom config old moment so_far.plan at step seed 0 (loaded + 1) random loaded so_far.device so_far.tables = record { replies_are = ap (λ n. reply.Loaded n ∷ []) (sym e); after_is = refl; last_is = refl } in
    let loads = so_far.whole moment refl (subst (λ turns. LoadsFrom config old moment so_far.plan at step seed turns (loaded + 1) random loaded so_far.device so_far.tables) (let k : 0 ≡ count - loaded = omega arith in k) ended) in
    ends-load config entries (entries_with entries at entry u) at entry asked notes old f g count step seed true so_far.plan moment h here named refl refl refl so_far.plan_is loads so_far.stands (λ whole. tables-stay config f.media.content g.media.content old.tables so_far.tables so_far.keeps) refl

-- an operation of a put failed
abbrev stopped_so : Machine → Command → Bool → ℕ → ℕ → List model.Table → PartProgress model.Table → FlashFault → Moment
stopped_so old c rose at loaded tables now fault = record {
  command = c;
  rose = rose;
  reads = 0;
  last = last_of at tables now.end;
  replies = reply.Loaded loaded ∷ fault_reply fault ∷ [];
  after = stopped (amid old now.device (with_table at tables now.state));
}

stops-load : (old : Machine) (c : Command) (rose : Bool) (at loaded : ℕ) (tables : List model.Table) (now : PartProgress model.Table) (fault : FlashFault) (g : FlashState) (others : Type 0) (e : PartEnd model.Table) → now.end ≡ e → FaultEnds e fault g →
    LoadsOn (outcome_at at tables e) old (stopped_so old c rose at loaded tables now fault) (progress_at at tables now) loaded others
stops-load old c rose at loaded tables now fault g others Whole k h = absurd h
stops-load old c rose at loaded tables now fault g others (CutIn before) k h = record { replies_are = ap (λ x. reply.Loaded loaded ∷ fault_reply x ∷ []) h.0; after_is = refl; last_is = ap (last_of at tables) k }
stops-load old c rose at loaded tables now fault g others (FailedIn before) k h = record { replies_are = ap (λ x. reply.Loaded loaded ∷ fault_reply x ∷ []) h.0; after_is = refl; last_is = ap (last_of at tables) k }

-- One put of a load.
module _ (config : Config) (entries : List Entry) (at : ℕ) (entry : Entry) (asked : List ℕ) (notes : Notes) (old : Machine) (start : List ℕ) (t u : LoggedTable 64 64) (f g : FlashState) (rose : Bool) (count step seed loaded random : ℕ)
    (here : slice_get entries at ≡ Some entry) (named : IsNamed entries asked at) (so_far : LoadedSoFar config entries at entry asked notes old start t f rose count step seed loaded random) (left : loaded < count)
    (goes : Goes f g) (same : IsSamePlan t u) (outside : IsTrue f.media.tells → OutsideStands t (page_at f) (page_at g)) where
  abbrev pub mid_old : Machine
  mid_old = amid old so_far.device so_far.tables

  abbrev pub mid_entries : List Entry
  mid_entries = entries_with entries at entry t

  abbrev pub first : ℕ
  first = first_of config.plans at

  pub own : Own config mid_old f asked at (entry_now entry t)
  own = own-of config mid_old mid_entries f notes asked at (entry_now entry t) so_far.stands (entry-there entries at entry t here) (still-named entries at entry t asked here named)

  abbrev pub item : Record
  item = load_record own.plan own.table step seed (loaded + 1) random

  abbrev pub EndsNext : Result (Unit {0}) PutRefusal → Type 0
  EndsNext result = PutEnds first own.plan item own.table rose so_far.device result u f g

  -- it ended as the put of a record
  pub ends-next : (result : Result (Unit {0}) PutRefusal) (key : ℕ) (values : List ℤ) (last : Option ℕ) → (Rose f.media.faults g.media.faults → IsTrue rose) →
      (read : Table 64 64) → read ≡ table_in t → ((f : FlashState) (first : ℕ) (plan : Plan) (table : model.Table) → without_log.Stands read f first plan table → last ≡ option_map (λ entry. entry.kept.key) (last_entry table)) →
      key ≡ load_key (unwrap_or last 0) step random → values ≡ load_values (loaded + 1) seed 1 (layout_in (table_in t)).columns →
      ((first : ℕ) (plan : Plan) (table : model.Table) (rose : Bool) (device : Device) → IsWatched f g rose device → Stands t f first plan table → PutEnds first plan (made key values) table rose device result u f g) →
      EndsNext result
  ends-next result key values last risen read read_is told k v ends =
      let h = so_far.stands in
      let watched : IsWatched f g rose so_far.device = record { told = h.medium.told; on = h.power refl; risen = risen; counts = h.device } in
      subst (λ r. PutEnds first own.plan r own.table rose so_far.device result u f g)
      (made-is t f first own.plan own.table step seed (loaded + 1) random key values last own.stands.on_flash (told f first (bare own.plan) (bare_table own.table) (subst (λ (x : Table 64 64). without_log.Stands x f first (bare own.plan) (bare_table own.table)) (sym read_is) own.stands.on_flash.unlogged)) k v)
      (ends first own.plan own.table rose so_far.device watched own.stands.on_flash)

  -- what is left to do, where the put was accepted
  loads-so : (moment : Moment) (others : Option Refusal) → moment.rose ≡ rose → refusal_of own.plan own.table item ≡ others →
      PutsNext config old moment own.plan at step seed (count - (loaded + 1)) (loaded + 1) random loaded so_far.device so_far.tables own.table others →
      LoadsFrom config old moment own.plan at step seed count 1 (next_random seed) 0 old.device old.tables
  loads-so moment others r is p =
      let plan_is : so_far.plan ≡ own.plan = some-is (slice_get config.plans at) so_far.plan own.plan so_far.plan_is own.plan_is in
      let rest = loads-next config old moment own.plan at step seed count loaded random so_far.device so_far.tables own.table others left own.table_is is p in
      subst (λ q. LoadsFrom config old moment q at step seed count 1 (next_random seed) 0 old.device old.tables) plan_is
      (so_far.whole moment r (subst (λ q. LoadsFrom config old moment q at step seed (count - loaded) (loaded + 1) random loaded so_far.device so_far.tables) (sym plan_is) rest))

  -- it was done
  pub loaded-more : EndsNext (Ok tt) → LoadedSoFar config entries at entry asked notes old start u g rose count step seed (loaded + 1) (next_random random)
  loaded-more ends =
      let fin = ends.1 in
      let after = changed_at at (put_record own.plan item) so_far.tables in
      let done = stands-done config mid_old mid_entries at (entry_now entry t) asked notes u f g so_far.stands (entry-there entries at entry t here) own goes same outside (put_record own.plan item) fin.now.device fin.counts fin.power fin.stands in
      record {
        device = fin.now.device;
        tables = after;
        stands = subst (λ es. SessionStands config es g true notes (amid old fin.now.device after)) (entries-again entries at entry t u) done;
        keeps = tables-on config start f.media.content g.media.content old.tables so_far.tables after so_far.keeps
            (keeps-done config mid_old mid_entries at (entry_now entry t) asked notes u f g so_far.stands (entry-there entries at entry t here) own goes same outside (put_record own.plan item) fin.stand fin.log fin.stands);
        plan = own.plan;
        plan_is = own.plan_is;
        whole = λ moment r l.
            let end = progress_at at so_far.tables fin.now in
            let others = LoadsFrom config old moment own.plan at step seed (count - (loaded + 1)) (loaded + 1 + 1) (next_random random) (loaded + 1) fin.now.device after in
            let does = puts-at config.plans own.plan at rose item so_far.device so_far.tables own.table fin.now own.plan_is own.table_is fin.did in
            loads-so moment None r ends.0 (
              end,
              subst (λ b. Puts config.plans b own.plan at item own.table so_far.device so_far.tables end) (sym r) does,
              subst (λ e. LoadsOn (outcome_at at so_far.tables e) old moment end loaded others) (sym fin.whole) l,
            );
      }

  pub ends-done : (result : Result (Unit {0}) PutRefusal) → is_err result ≡ false → EndsNext result → EndsNext (Ok tt)
  ends-done (Ok done) e ends = ends
  ends-done (Err refusal) e ends = absurd (true≢false e)

  -- it was refused, or an operation of it failed
  load-broken : (before : FlashState) (fault : FlashFault) → SessionStands config entries before true notes old → rose ≡ has_risen before g → EndsNext (Err (put.Flash fault)) →
      Answers config old (command.Load asked count step seed) (SessionStands config (entries_with entries at entry u) g false notes) before g (texts (load_replies loaded (Err (put.Flash fault))))
  load-broken before fault stood risen ends =
      let b = ends.1 in
      let moment = stopped_so old (command.Load asked count step seed) rose at loaded so_far.tables b.now fault in
      let others = LoadsFrom config old moment own.plan at step seed (count - (loaded + 1)) (loaded + 1 + 1) (next_random random) (loaded + 1) b.now.device (changed_at at (put_record own.plan item) so_far.tables) in
      let does = puts-at config.plans own.plan at rose item so_far.device so_far.tables own.table b.now own.plan_is own.table_is b.did in
      let loads = loads-so moment None refl ends.0 (progress_at at so_far.tables b.now, does, stops-load old (command.Load asked count step seed) rose at loaded so_far.tables b.now fault g others b.now.end refl b.answer) in
      let broken = stands-broken config mid_old mid_entries at (entry_now entry t) asked notes u f g so_far.stands (entry-there entries at entry t here) own goes same outside b.now.state b.now.device b.counts b.rests in
      ends-load config entries (entries_with entries at entry u) at entry asked notes old before g count step seed false own.plan moment stood here named refl risen refl own.plan_is loads
      (subst (λ es. SessionStands config es g false notes moment.after) (entries-again entries at entry t u) broken) (λ whole. absurd (not-whole at so_far.tables b.now.end fault g b.answer whole)) refl

  load-refused : (before : FlashState) (refusal : Refusal) → start ≡ before.media.content → SessionStands config entries before true notes old → rose ≡ has_risen before g → u ≡ t → g ≡ f → refusal_of own.plan own.table item ≡ Some refusal →
      Answers config old (command.Load asked count step seed) (SessionStands config (entries_with entries at entry u) g true notes) before g (texts (reply.Loaded loaded ∷ refused refusal ∷ []))
  load-refused before refusal begun stood risen e k is =
      let moment : Moment = record { command = command.Load asked count step seed; rose = rose; reads = 0; last = None; replies = reply.Loaded loaded ∷ refused refusal ∷ []; after = mid_old } in
      let loads = loads-so moment (Some refusal) refl is (record { replies_are = refl; after_is = refl; last_is = refl }) in
      ends-load config entries (entries_with entries at entry u) at entry asked notes old before g count step seed true own.plan moment stood here named refl risen refl own.plan_is loads (rw (e, k) so_far.stands)
      (λ whole. tables-stay config before.media.content g.media.content old.tables so_far.tables (subst (λ (x : FlashState). TablesKeep config before.media.content x.media.content old.tables so_far.tables) (sym k)
      (subst (λ c. TablesKeep config c f.media.content old.tables so_far.tables) begun so_far.keeps))) refl

  pub load-stopped : (before : FlashState) (result : Result (Unit {0}) PutRefusal) → start ≡ before.media.content → SessionStands config entries before true notes old → rose ≡ has_risen before g → is_err result ≡ true → EndsNext result →
      IfErr result (λ e. RefusedSame t f e u g) →
      Answers config old (command.Load asked count step seed) (SessionStands config (entries_with entries at entry u) g (not (put_breaks result)) notes) before g (texts (load_replies loaded result))
  load-stopped before (Ok done) begun stood risen e ends r = absurd (false≢true e)
  load-stopped before (Err (put.Flash fault)) begun stood risen e ends r = load-broken before fault stood risen ends
  load-stopped before (Err (put.Key last)) begun stood risen e ends r = load-refused before (BadKey last) begun stood risen r.0 r.1 ends
  load-stopped before (Err (put.Columns wanted)) begun stood risen e ends r = load-refused before (BadColumns wanted) begun stood risen r.0 r.1 ends
  load-stopped before (Err (put.Value column)) begun stood risen e ends r = load-refused before (BadValue column) begun stood risen r.0 r.1 ends
  load-stopped before (Err (put.Blob limit)) begun stood risen e ends r = load-refused before (BadBlob limit) begun stood risen r.0 r.1 ends
  load-stopped before (Err put.Spent) begun stood risen e ends r = load-refused before Spent begun stood risen r.0 r.1 ends
  load-stopped before (Err put.Stopped) begun stood risen e ends r = absurd ends
