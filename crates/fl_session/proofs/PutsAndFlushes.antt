-- The puts and flushes of a session.
use Rattle.std.proofs.Common.{◌≡◌, ℕ, Bool, true, false, not, IsTrue, IfErr, Option, Some, None, Result, Ok, Err, List, [], ◌∷◌, map, set, slice_get, refl, sym, ◌∙◌, ap, subst, option_map, ℤ}
use Rattle.std.proofs.lemmas.Bool.{false≢true}
use Rattle.std.proofs.lemmas.List.{length-map}
use Rattle.std.proofs.lemmas.Option.{slice_get-map}
use Rattle.std.proofs.lemmas.Iterator.Adapters.{option_map_id}
use Rattle.fl_flash.specs.Flash.{FlashState, Goes, page_at}
use Rattle.fl_flash.specs.declared.flash.FlashFault.{FlashFault}
use Rattle.fl_flash.specs.declared.flash.FlashFault.TheVariants.{PowerLost, Media}
use Rattle.fl_frame.specs.Device.{SameDevice}
use Rattle.fl_frame.specs.Watched.{IsWatched}
use Rattle.fl_model.specs.Record.{Config, Plan, Record}
use Rattle.fl_model.specs.Table as model
use Rattle.fl_model.specs.Table.{RingName, lose, refusal_of, put_record, table_seals, flushed, Refusal, BadKey, BadColumns, BadValue, BadBlob, Spent}
use Rattle.fl_model.specs.Work.{Device, Progress, Performs, operations_of, changed_at, PartEnd, Whole, CutIn, FailedIn, PartProgress}
use Rattle.fl_model.specs.Within.{TablePerforms, seals_within, with_table, progress_at, outcome_at}
use Rattle.fl_model.specs.Puts.{Puts, TablePuts}
use Rattle.fl_model.proofs.Among.{seals-at, performs-at, changed-at, changed-there, changed-elsewhere}
use Rattle.fl_model.proofs.PutAmongTables.{puts-at}
use Rattle.fl_words.specs.Command as command
use Rattle.fl_words.specs.Command.{Command}
use Rattle.fl_words.specs.Reply as reply
use Rattle.fl_words.specs.Reply.{Reply, text}
use Rattle.fl_machine.specs.Machine.{Machine, stopped}
use Rattle.fl_machine.specs.Stays.{CommandStays, TablesStay, IsIdle, are_refusal}
use Rattle.fl_machine.specs.Step.{Moment, Step, Says, EndsAs, Located, refused, PutStep, FlushStep}
use Rattle.fl_table.specs.declared.faults.PutRefusal.{PutRefusal}
use Rattle.fl_table.specs.declared.faults.PutRefusal.TheVariants as put
use Rattle.fl_table.specs.declared.faults.FlushFault.{FlushFault}
use Rattle.fl_table.specs.declared.faults.FlushFault.TheVariants as flush
use Rattle.fl_table.specs.Causes.{put_breaks, flush_breaks}
use Rattle.fl_parts.specs.Failing.{BySeals, FaultEnds}
use Rattle.fl_parts.specs.Pages.{KeptStand}
use Rattle.fl_rlc.specs.Logged.{Stands, Rests}
use Rattle.fl_rlc.specs.Outcomes.{Finishes, Breaks, LogStays, PutEnds, FlushEnds}
use Rattle.fl_rlc.specs.Refusal.{RefusedSame}
use Rattle.fl_rlc.specs.Table.{IsSamePlan, OutsideStands}
use Rattle.fl_rlc.specs.declared.table.LoggedTable.{LoggedTable}
use Rattle.fl_store.specs.Tables.{first_of, entries_with, EntryStands, TablesStand}
use Rattle.fl_store.specs.declared.tables.Entry.{Entry}
use Rattle.fl_store.proofs.CallsInTurn.{planned-same}
use Rattle.fl_store.proofs.Risen.{has_risen, risen-rose, watched}
use Rattle.fl_store.proofs.Worked.{medium-goes}
use Rattle.fl_store.proofs.TablesChanged.{entry-off, some-is, set-same, length-changed, tables-changed}
use Rattle.fl_session.specs.Answer.{Answers}
use Rattle.fl_store.specs.Replies.{fault_reply, put_reply, flush_reply}
use Rattle.fl_session.specs.declared.notes.Notes.{Notes}
use Rattle.fl_session.specs.Standing.{SessionStands}
use Rattle.fl_session.proofs.CommandReplies.{answers-saying, saying, says, step-is, table-step}
use Rattle.fl_queries.proofs.RowLines.{one-text}
use Rattle.fl_session.proofs.KeptPages.{TablesKeep, table-keeps, tables-keep_changed, tables-stay, mounted-stays}
use Rattle.fl_session.proofs.NamedTable.{Own}
use Rattle.fl_session.proofs.Rested.{session-ends}

-- a reply that isn't a refusal is none of a command that did nothing
pub works-on : (replies : List Reply) → are_refusal replies ≡ false → IsTrue (are_refusal replies) → ⊥
works-on replies other is = false≢true (sym other ∙ is)

pub fault-no-refusal : (fault : FlashFault) → are_refusal (fault_reply fault ∷ []) ≡ false
fault-no-refusal PowerLost = refl
fault-no-refusal Media = refl

pub session-watched : (config : Config) (entries : List Entry) (notes : Notes) (f g : FlashState) (m : Machine) → SessionStands config entries f true notes m → IsWatched f g (has_risen f g) m.device
session-watched config entries notes f g m h =
    watched f g m.device h.medium.told (h.power refl) h.device

-- what the table at a place performs, all tables perform
performs-all : (config : Config) (old : Machine) (plan : Plan) (table : model.Table) (at : ℕ) (rose : Bool) (rings : List RingName) (now : PartProgress model.Table) → slice_get config.plans at ≡ Some plan → slice_get old.tables at ≡ Some table →
    TablePerforms plan rose (seals_within plan rings table) old.device table now → Performs config.plans rose (operations_of plan at rings table) old.device old.tables (progress_at at old.tables now)
performs-all config old plan table at rose rings now e k did =
    subst (λ ops. Performs config.plans rose ops old.device old.tables (progress_at at old.tables now)) (sym (seals-at plan at rings table))
    (performs-at config.plans plan at rose (seals_within plan rings table) old.device old.tables table now e k did)

-- a command did so by whether the medium's faults rose, and the tables after it
abbrev pub Works : Machine → Moment → (Bool → Progress → Type 0) → Machine → Type 0
Works old moment Did new = (end : Progress) × Did moment.rose end × EndsAs end.outcome old moment end [] (reply.Done ∷ []) (record new { device = end.device })

-- all were done
abbrev done_so : Command → Bool → Machine → Moment
done_so c rose after = record { command = c; rose = rose; reads = 0; last = None; replies = reply.Done ∷ []; after = after }

ends-whole : (old : Machine) (moment : Moment) (at : ℕ) (e : PartEnd model.Table) (end : Progress) (new : Machine) → e ≡ Whole → Says moment (reply.Done ∷ []) new → EndsAs (outcome_at at old.tables e) old moment end [] (reply.Done ∷ []) new
ends-whole old moment at e end new k s = rw k s

-- one failed
abbrev pub last_of : ℕ → List model.Table → PartEnd model.Table → Option (List model.Table)
last_of at tables Whole = None
last_of at tables (CutIn before) = Some (with_table at tables before)
last_of at tables (FailedIn before) = Some (with_table at tables before)

pub not-whole : (at : ℕ) (tables : List model.Table) (e : PartEnd model.Table) (fault : FlashFault) (f : FlashState) → FaultEnds e fault f → last_of at tables e ≡ None → ⊥
not-whole at tables Whole fault f h k = h
not-whole at tables (CutIn before) fault f h k = let no : ◌≡◌ {A = Option (List model.Table)} (Some (with_table at tables before)) None = k in cc
not-whole at tables (FailedIn before) fault f h k = let no : ◌≡◌ {A = Option (List model.Table)} (Some (with_table at tables before)) None = k in cc

abbrev broken_so : Command → Bool → Machine → ℕ → PartProgress model.Table → FlashFault → Moment
broken_so c rose old at now fault = record {
  command = c;
  rose = rose;
  reads = 0;
  last = last_of at old.tables now.end;
  replies = fault_reply fault ∷ [];
  after = stopped (record old { device = now.device; tables = with_table at old.tables now.state });
}

ends-broken : (c : Command) (rose : Bool) (old : Machine) (at : ℕ) (now : PartProgress model.Table) (fault : FlashFault) (f : FlashState) (e : PartEnd model.Table) (new : Machine) → now.end ≡ e → FaultEnds e fault f →
    EndsAs (outcome_at at old.tables e) old (broken_so c rose old at now fault) (progress_at at old.tables now) [] (reply.Done ∷ []) new
ends-broken c rose old at now fault f Whole new k h = absurd h
ends-broken c rose old at now fault f (CutIn before) new k h = record { replies_are = ap (λ x. fault_reply x ∷ []) h.0; after_is = refl; last_is = ap (last_of at old.tables) k }
ends-broken c rose old at now fault f (FailedIn before) new k h = record { replies_are = ap (λ x. fault_reply x ∷ []) h.0; after_is = refl; last_is = ap (last_of at old.tables) k }

-- A session before a call of one of its tables, which leaves the pages of the others, and after it.
module _ (config : Config) (old : Machine) (entries : List Entry) (at : ℕ) (entry : Entry) (asked : List ℕ) (notes : Notes) (u : LoggedTable 64 64) (f g : FlashState) (h : SessionStands config entries f true notes old) (here : slice_get entries at ≡ Some entry)
    (own : Own config old f asked at entry) (goes : Goes f g) (same : IsSamePlan entry.table u) (outside : IsTrue f.media.tells → OutsideStands entry.table (page_at f) (page_at g)) where
  abbrev pub now_there : Entry
  now_there = record { name = entry.name; table = u }

  abbrev pub first : ℕ
  first = first_of config.plans at

  own-plan : (plan : Plan) → slice_get config.plans at ≡ Some plan → own.plan ≡ plan
  own-plan plan e = some-is (slice_get config.plans at) own.plan plan own.plan_is e

  entry-done : (after : model.Table) → Stands u g first own.plan after → EntryStands now_there g true first own.plan after
  entry-done after stands = record { named = own.stands.named; geometry = own.stands.geometry ∙ sym goes.geometry; planned = planned-same entry.table u first own.plan own.stands.planned same; on_flash = stands }

  entry-broken : (after : model.Table) → Rests g first own.plan after → EntryStands now_there g false first own.plan after
  entry-broken after rests = record { named = own.stands.named; geometry = own.stands.geometry ∙ sym goes.geometry; planned = planned-same entry.table u first own.plan own.stands.planned same; on_flash = rests }

  pub stands-done : (after : model.Table → model.Table) (device : Device) → SameDevice g device → g.is_on ≡ true → Stands u g first own.plan (after own.table) →
      SessionStands config (entries_with entries at entry u) g true notes (record old { device = device; tables = changed_at at after old.tables })
  stands-done after device counts power stands =
      let one : changed_at at after old.tables ≡ changed_at at (λ _. after own.table) old.tables = changed-at at after old.tables own.table own.table_is in
      let all : TablesStand g (λ i. true) config.plans (entries_with entries at entry u) (changed_at at (λ _. after own.table) old.tables) =
      tables-changed f g (λ i. true) (λ i. true) config.plans entries old.tables (changed_at at (λ _. after own.table) old.tables) at entry now_there (λ x. x) (after own.table)
      h.tables here (outside h.medium.told) goes.geometry (length-changed at (after own.table) old.tables) (changed-there at own.table (after own.table) old.tables own.table_is)
      (λ i other. changed-elsewhere at i (after own.table) old.tables other ∙ sym (option_map_id (slice_get old.tables i)))
      (λ plan e. subst (λ p. EntryStands now_there g true first p (after own.table)) (own-plan plan e) (entry-done (after own.table) stands)) (λ i plan e x other k. k) in
      record {
        knots = h.knots;
        medium = medium-goes config f g goes h.medium;
        tables = subst (λ ts. TablesStand g (λ i. true) config.plans (entries_with entries at entry u) ts) (sym one) all;
        is_mounted = h.is_mounted;
        cursors = h.cursors;
        device = counts;
        cost_is = h.cost_is;
        power = λ k. power;
      }

  pub stands-broken : (state : model.Table) (device : Device) → SameDevice g device → Rests g first own.plan (lose state) →
      SessionStands config (entries_with entries at entry u) g false notes (stopped (record old { device = device; tables = with_table at old.tables state }))
  stands-broken state device counts rests =
      let left = with_table at old.tables state in
      record {
        knots = h.knots;
        medium = medium-goes config f g goes h.medium;
        tables = tables-changed f g (λ i. true) (λ i. false) config.plans entries old.tables (map lose left) at entry now_there lose (lose state)
            h.tables here (outside h.medium.told) goes.geometry (length-map left lose ∙ length-changed at state old.tables)
            (slice_get-map lose left at ∙ ap (option_map lose) (changed-there at own.table state old.tables own.table_is))
            (λ i other. slice_get-map lose left i ∙ ap (option_map lose) (changed-elsewhere at i state old.tables other))
            (λ plan e. subst (λ p. EntryStands now_there g false first p (lose state)) (own-plan plan e) (entry-broken (lose state) rests))
            (λ i plan e x other k. entry-off e g true (first_of config.plans i) plan x k);
        is_mounted = refl;
        cursors = refl;
        device = counts;
        cost_is = h.cost_is;
        power = λ k. cc;
      }

  abbrev at_own : Located
  at_own = record { place = at; plan = own.plan; table = own.table }

  -- .. and the pages that are kept stand
  pub keeps-done : (after : model.Table → model.Table) → KeptStand first own.plan own.table (after own.table) (page_at f) (page_at g) → LogStays first own.plan own.table (after own.table) f g → Stands u g first own.plan (after own.table) →
      TablesKeep config f.media.content g.media.content old.tables (changed_at at after old.tables)
  keeps-done after kept kept-log stands =
      let now = medium-goes config f g goes h.medium in
      let one : changed_at at after old.tables ≡ changed_at at (λ _. after own.table) old.tables = changed-at at after old.tables own.table own.table_is in
      let left = changed_at at (λ _. after own.table) old.tables in
      subst (λ ts. TablesKeep config f.media.content g.media.content old.tables ts) (sym one)
      (tables-keep_changed config f g entries old.tables left at entry own.plan own.table (after own.table) h.medium now h.tables (outside h.medium.told) own.plan_is own.table_is own.stands
      (length-changed at (after own.table) old.tables) (changed-there at own.table (after own.table) old.tables own.table_is) (λ i other. changed-elsewhere at i (after own.table) old.tables other)
      (table-keeps config f g at own.plan entry.table u own.table (after own.table) h.medium now kept kept-log own.stands.on_flash stands))

  -- What the table does is what all tables do. Its operations were done, or one failed.
  abbrev IsOfAll : (PartProgress model.Table → Type 0) → (Bool → Progress → Type 0) → Type 0
  IsOfAll Does Did = (now : PartProgress model.Table) → Does now → Did (has_risen f g) (progress_at at old.tables now)

  answers-done : (c : Command) (Does : PartProgress model.Table → Type 0) (Did : Bool → Progress → Type 0) (after : model.Table → model.Table) → IsOfAll Does Did →
      Finishes first own.plan Does own.table (after own.table) u f g →
      ((bytes now : List ℕ) (m : Machine) → TablesStay config bytes now old.tables m.tables → CommandStays config old c m bytes now) →
      ((moment : Moment) → Works old moment Did (record old { tables = changed_at at after old.tables }) → moment.command ≡ c → Step config old moment) →
      ((replies : List Reply) → are_refusal replies ≡ false → IsIdle c replies → ⊥) →
      Answers config old c (SessionStands config (entries_with entries at entry u) g true notes) f g (text reply.Done)
  answers-done c Does Did after all fin says step works =
      let after_is : Machine = record old { device = fin.now.device; tables = changed_at at after old.tables } in
      let moment = done_so c (has_risen f g) after_is in
      let stands = stands-done after fin.now.device fin.counts fin.power fin.stands in
      record {
        moment = moment;
        command_is = refl;
        step = step moment (
          progress_at at old.tables fin.now,
          all fin.now fin.did,
          ends-whole old moment at fin.now.end (progress_at at old.tables fin.now) after_is fin.whole (record { replies_are = refl; after_is = refl; last_is = refl }),
        ) refl;
        none = refl;
        stands_after = stands;
        stays = record {
          image = session-ends config (entries_with entries at entry u) notes g true after_is stands;
          idle = λ idle. absurd (works (reply.Done ∷ []) refl idle);
          stays = λ calm whole. says f.media.content g.media.content after_is (tables-stay config f.media.content g.media.content old.tables after_is.tables (keeps-done after fin.stand fin.log fin.stands));
        };
        rose = risen-rose f g;
        said_is = one-text reply.Done;
      }

  answers-broken : (c : Command) (Does : PartProgress model.Table → Type 0) (Did : Bool → Progress → Type 0) (new : Machine) (fault : FlashFault) → IsOfAll Does Did → Breaks first own.plan Does fault g →
      ((moment : Moment) → Works old moment Did new → moment.command ≡ c → Step config old moment) →
      ((replies : List Reply) → are_refusal replies ≡ false → IsIdle c replies → ⊥) →
      Answers config old c (SessionStands config (entries_with entries at entry u) g false notes) f g (text (fault_reply fault))
  answers-broken c Does Did new fault all b step works =
      let moment = broken_so c (has_risen f g) old at b.now fault in
      let stands = stands-broken b.now.state b.now.device b.counts b.rests in
      record {
        moment = moment;
        command_is = refl;
        step = step moment (
          progress_at at old.tables b.now,
          all b.now b.did,
          ends-broken c (has_risen f g) old at b.now fault g b.now.end (record new { device = b.now.device }) refl b.answer,
        ) refl;
        none = refl;
        stands_after = stands;
        stays = record { image = session-ends config (entries_with entries at entry u) notes g false moment.after stands; idle = λ idle. absurd (works (fault_reply fault ∷ []) (fault-no-refusal fault) idle); stays = λ calm whole. absurd (not-whole at old.tables b.now.end fault g b.answer whole) };
        rose = risen-rose f g;
        said_is = one-text (fault_reply fault);
      }

  -- a session whose table was refused a call stands as it did
  pub same-tables : u ≡ entry.table → g ≡ f → SessionStands config (entries_with entries at entry u) g true notes old
  same-tables e k =
      let there : set entries at entry ≡ entries = set-same entries at entry here in
      subst (λ x. SessionStands config (entries_with entries at entry u) x true notes old) (sym k)
      (subst (λ t. SessionStands config (entries_with entries at entry t) f true notes old) (sym e) (subst (λ es. SessionStands config es f true notes old) (sym there) h))

  -- a put
  module _ (key : ℕ) (values : List ℤ) (blob : Option (List ℕ)) where
    abbrev pub item : Record
    item = record { key = key; values = values; blob = blob }

    abbrev PutsTable : PartProgress model.Table → Type 0
    PutsTable = TablePuts own.plan (has_risen f g) item old.device own.table

    abbrev PutsAll : Bool → Progress → Type 0
    PutsAll rose = Puts config.plans rose own.plan at item own.table old.device old.tables

    puts-all : IsOfAll PutsTable PutsAll
    puts-all now did = puts-at config.plans own.plan at (has_risen f g) item old.device old.tables own.table now own.plan_is own.table_is did

    put-works : refusal_of own.plan own.table item ≡ None → (moment : Moment) →
        Works old moment PutsAll (record old { tables = changed_at at (put_record own.plan item) old.tables }) → moment.command ≡ command.Put asked key values blob → Step config old moment
    put-works none moment w is =
        let step : PutStep config old moment item at_own = rw none w in
        step-is config old moment (command.Put asked key values blob) is (table-step config old moment asked (PutStep config old moment item) at_own h.is_mounted own.found step)

    put-refused : (refusal : Refusal) → u ≡ entry.table → g ≡ f → refusal_of own.plan own.table item ≡ Some refusal →
        Answers config old (command.Put asked key values blob) (SessionStands config (entries_with entries at entry u) g true notes) f g (text (refused refusal))
    put-refused refusal e k is =
        let c = command.Put asked key values blob in
        let step : PutStep config old (saying c (refused refusal ∷ []) old) item at_own = rw is (says c (refused refusal ∷ []) old) in
        answers-saying config old c (refused refusal) old (entries_with entries at entry u) notes f g true (ap (λ (x : FlashState). x.media.content) k)
        (table-step config old (saying c (refused refusal ∷ []) old) asked (PutStep config old (saying c (refused refusal ∷ []) old) item) at_own h.is_mounted own.found step)
        (same-tables e k)

    pub put-answers : (result : Result (Unit {0}) PutRefusal) (mounted : Bool) → mounted ≡ not (put_breaks result) →
        PutEnds first own.plan item own.table (has_risen f g) old.device result u f g → IfErr result (λ e. RefusedSame entry.table f e u g) →
        Answers config old (command.Put asked key values blob) (SessionStands config (entries_with entries at entry u) g mounted notes) f g (text (put_reply result))
    put-answers (Ok done) mounted m ends r =
        rw m (answers-done (command.Put asked key values blob) PutsTable PutsAll (put_record own.plan item) puts-all ends.1 (λ bytes now m stay. mounted-stays config old.mounted bytes now old.tables m.tables h.is_mounted stay) (put-works ends.0) works-on)
    put-answers (Err (put.Flash fault)) mounted m ends r =
        rw m (answers-broken (command.Put asked key values blob) PutsTable PutsAll (record old { tables = changed_at at (put_record own.plan item) old.tables }) fault puts-all ends.1 (put-works ends.0) works-on)
    put-answers (Err (put.Key last)) mounted m ends r = rw m (put-refused (BadKey last) r.0 r.1 ends)
    put-answers (Err (put.Columns wanted)) mounted m ends r = rw m (put-refused (BadColumns wanted) r.0 r.1 ends)
    put-answers (Err (put.Value column)) mounted m ends r = rw m (put-refused (BadValue column) r.0 r.1 ends)
    put-answers (Err (put.Blob limit)) mounted m ends r = rw m (put-refused (BadBlob limit) r.0 r.1 ends)
    put-answers (Err put.Spent) mounted m ends r = rw m (put-refused Spent r.0 r.1 ends)
    put-answers (Err put.Stopped) mounted m ends r = absurd ends

  -- a flush
  abbrev FlushesTable : PartProgress model.Table → Type 0
  FlushesTable = BySeals own.plan (table_seals own.plan own.table) own.table (has_risen f g) old.device

  abbrev FlushesAll : Bool → Progress → Type 0
  FlushesAll rose = Performs config.plans rose (operations_of own.plan at (table_seals own.plan own.table) own.table) old.device old.tables

  flushes-all : IsOfAll FlushesTable FlushesAll
  flushes-all now did = performs-all config old own.plan own.table at (has_risen f g) (table_seals own.plan own.table) now own.plan_is own.table_is did

  flush-works : (moment : Moment) → Works old moment FlushesAll (record old { tables = changed_at at (flushed own.plan) old.tables }) → moment.command ≡ command.Flush asked → Step config old moment
  flush-works moment w is =
      step-is config old moment (command.Flush asked) is (table-step config old moment asked (FlushStep config old moment) at_own h.is_mounted own.found w)

  pub flush-answers : (result : Result (Unit {0}) FlushFault) (mounted : Bool) → mounted ≡ not (flush_breaks result) → FlushEnds first own.plan own.table (has_risen f g) old.device result u f g →
      Answers config old (command.Flush asked) (SessionStands config (entries_with entries at entry u) g mounted notes) f g (text (flush_reply result))
  flush-answers (Ok done) mounted m ends = rw m (answers-done (command.Flush asked) FlushesTable FlushesAll (flushed own.plan) flushes-all ends (λ bytes now m stay. mounted-stays config old.mounted bytes now old.tables m.tables h.is_mounted stay) flush-works works-on)
  flush-answers (Err (flush.Flash fault)) mounted m ends =
      rw m (answers-broken (command.Flush asked) FlushesTable FlushesAll (record old { tables = changed_at at (flushed own.plan) old.tables }) fault flushes-all ends flush-works works-on)
  flush-answers (Err flush.Stopped) mounted m ends = absurd ends
