-- The commands of a session that list what an operator makes of a range.
use Rattle.std.proofs.Common.{◌≡◌, ℕ, ◌+◌, ◌≤◌, Bool, true, IsTrue, arith, Option, Some, None, Result, ℤ, List, [], ◌∷◌, refl, sym, ◌∙◌, ap, map, subst, MatchOption, slice_get}
use Rattle.fl_base.specs.declared.types.KeyRange.{KeyRange}
use Rattle.fl_base.specs.declared.types.Op.{Op}
use Rattle.fl_flash.specs.Flash.{FlashState}
use Rattle.fl_model.specs.Bare.{bare, bare_table}
use Rattle.fl_model.specs.Limits.{scan_limit, least_reads}
use Rattle.fl_model.specs.Operators.{key_join, select}
use Rattle.fl_model.specs.Record.{Config, Plan, Record, RowLayout}
use Rattle.fl_model.specs.Table as model
use Rattle.fl_frame.specs.Contents.{OnlyReads}
use Rattle.fl_words.specs.Command as words
use Rattle.fl_words.specs.Reply as reply
use Rattle.fl_words.specs.Reply.{Reply, text}
use Rattle.fl_machine.specs.Machine.{Machine}
use Rattle.fl_machine.specs.Reads.{none_read, OnTable, OnColumns, FaultHasRead}
use Rattle.fl_machine.specs.Step.{Moment, Step, Located, WithTable, WithColumns, Counts, Says, no_column, records_of, pair_reply}
use Rattle.fl_rlc.specs.Table.{table_in}
use Rattle.fl_script.specs.ReplyView.{reply_text}
use Rattle.fl_script.specs.Written.{Written}
use Rattle.fl_script.specs.declared.reply.Reply as code
use Rattle.fl_table.specs.Look.{layout_in}
use Rattle.fl_table.specs.Memory.{IsPlanned}
use Rattle.fl_table.specs.Standing.{Stands}
use Rattle.fl_table.specs.declared.table.Table.{Table}
use Rattle.fl_store.specs.Tables.{first_of}
use Rattle.fl_store.specs.declared.tables.Entry.{Entry}
use Rattle.fl_session.specs.Answer.{Refusal, IsReached}
use Rattle.fl_queries.specs.Asked.{asked_records, lacked_column}
use Rattle.fl_session.specs.Cost.{HasRead, CountsReads, ReadsScan, ReadsAsStated}
use Rattle.fl_session.specs.Execute.{Executes}
use Rattle.fl_queries.specs.Lines.{Counted}
use Rattle.fl_queries.specs.Operators.{columns_by, lines_by}
use Rattle.fl_queries.specs.declared.operators.Operator.{Operator}
use Rattle.fl_queries.specs.declared.operators.Operator.TheVariants.{Select, Project, Aggregate}
use Rattle.fl_session.specs.Operated.{command_by}
use Rattle.fl_session.specs.Standing.{SessionStands}
use Rattle.fl_session.specs.declared.notes.Notes.{Notes}
use Rattle.fl_session.proofs.CommandReplies.{executes-answered, executes-read, answers-saying, saying, says, step-is, table-step}
use Rattle.fl_session.proofs.CountedReads.{read-none}
use Rattle.fl_session.proofs.GetReplies.{session-read, on-table, off-table}
use Rattle.fl_session.proofs.NamedTable.{own-of}
use Rattle.fl_session.proofs.RefusedCommands.{answers-refused}
use Rattle.std.proofs.lemmas.Result.{on_ok_weaker}
use Rattle.fl_session.proofs.Unlogged.{notes-bare}
use Rattle.fl_store.proofs.Queried.{planned-unlogged, stands-unlogged}

-- the session still stands
pub session-still : (config : Config) (entries : List Entry) (notes : Notes) (f g : FlashState) (m : Machine) → OnlyReads f g → SessionStands config entries f true notes m → SessionStands config entries g true notes m
session-still config entries notes f g m only h =
    let read = session-read f g only config entries notes notes.cost m h in
    subst (λ cost. SessionStands config entries g true notes (record m { cost = cost })) (sym h.cost_is) read

-- the first column that isn't there
lacked-column : (t : Table 64 64) (first : ℕ) (plan : Plan) (columns : List ℕ) (lacked : Option ℕ) → lacked ≡ lacked_column (layout_in t) columns → IsPlanned t first plan → no_column plan columns ≡ lacked
lacked-column t first plan columns lacked is h = ap (λ (l : RowLayout). lacked_column l columns) h.layout ∙ sym is

-- what an operator lists is a step of the machine, and it reads what its command may
steps-by : (operator : Operator) (config : Config) (old : Machine) (range : KeyRange) (at : List ℕ) (moment : Moment) → moment.command ≡ command_by operator at range →
    WithTable config old moment at (WithColumns old moment (columns_by operator) (λ place. Counts old moment (lines_by operator place.plan (records_of range place)) old)) → Step config old moment
steps-by (Select comparison) config old range at moment is w = step-is config old moment (words.Select at range comparison.column comparison.op comparison.value) is w
steps-by (Project columns) config old range at moment is w = step-is config old moment (words.Project at range columns.now) is w
steps-by (Aggregate column width) config old range at moment is w = step-is config old moment (words.Agg at range column width) is w

states-by : {E : Type 0} (operator : Operator) (config : Config) (old : Machine) (range : KeyRange) (asked : List ℕ) (result : Result (Unit {0}) E) (g : FlashState) (moment : Moment) →
    OnTable config old moment asked (OnColumns moment (columns_by operator) (ReadsScan config moment range None g result)) → ReadsAsStated config old moment g result (command_by operator asked range)
states-by (Select comparison) config old range asked result g moment read = read
states-by (Project columns) config old range asked result g moment read = read
states-by (Aggregate column width) config old range asked result g moment read = read

counts-by : (operator : Operator) (range : KeyRange) (asked : List ℕ) (f g : FlashState) (moment : Moment) → HasRead f moment.reads g → CountsReads f moment g (command_by operator asked range)
counts-by (Select comparison) range asked f g moment read = read
counts-by (Project columns) range asked f g moment read = read
counts-by (Aggregate column width) range asked f g moment read = read

-- its lines don't tell a log
lines-bare : (operator : Operator) (range : KeyRange) (plan : Plan) (table : model.Table) → lines_by operator (bare plan) (asked_records range (bare_table table)) ≡ lines_by operator plan (asked_records range table)
lines-bare (Select comparison) range plan table = ap (λ (note : Record → Reply). map note (select comparison.column comparison.op comparison.value (asked_records range table))) (notes-bare plan)
lines-bare (Project columns) range plan table = refl
lines-bare (Aggregate column width) range plan table = refl

module _ (E : Type 0) (config : Config) (old : Machine) (entries : List Entry) (asked : List ℕ) (notes : Notes) (f : FlashState) (mounted : Bool) (operator : Operator) (range : KeyRange) (told told_now : Option (List ℕ)) (result : Result (Unit {0}) E) where
  abbrev lines_at : Located → List Reply
  lines_at at = lines_by operator at.plan (records_of range at)

  -- it is executed
  pub operator-executes : (at : ℕ) (entry : Entry) (t : Table 64 64) (g : FlashState) (reads : ℕ) →
      SessionStands config entries f mounted notes old → IsReached entries mounted asked at → slice_get entries at ≡ Some entry → t ≡ table_in entry.table → OnlyReads f g → HasRead f reads g →
      None ≡ lacked_column (layout_in t) (columns_by operator) →
      ((first : ℕ) (plan : Plan) (table : model.Table) → IsTrue f.media.tells → f.is_on ≡ true → Stands t f first plan table → Counted (lines_by operator plan (asked_records range table)) (scan_limit 64 plan table range None range.low) (least_reads plan table range None) told told_now f.media.faults g.media.faults f.work.reads g.work.reads result) →
      Executes config old (command_by operator asked range) (SessionStands config entries g mounted notes) f g told told_now result
  operator-executes at entry t g reads h r there table_is only counted none lists =
      let h' = subst (λ m. SessionStands config entries f m notes old) r.mounted_is h in
      let own = own-of config old entries f notes asked at entry h' there r.named in
      let first = first_of config.plans at in
      let place : Located = record { place = at; plan = own.plan; table = own.table } in
      let s = subst (λ (rows : List Reply). Counted rows (scan_limit 64 own.plan own.table range None range.low) (least_reads own.plan own.table range None) told told_now f.media.faults g.media.faults f.work.reads g.work.reads result) (lines-bare operator range own.plan own.table)
      (lists first (bare own.plan) (bare_table own.table) h'.medium.told (h'.power refl) (stands-unlogged t entry table_is own.stands)) in
      let has : no_column own.plan (columns_by operator) ≡ None = lacked-column t first (bare own.plan) (columns_by operator) None none (planned-unlogged t entry table_is own.stands) in
      let moment : Moment = record { command = command_by operator asked range; rose = s.rose; reads = reads; last = None; replies = s.replies; after = old } in
      let here = subst (λ (none : Option ℕ). MatchOption none (Counts old moment (lines_at place) old) (λ column. Says moment (reply.NoColumn column ∷ []) old)) (sym has) (refl, refl, s.lists) in
      let step = steps-by operator config old range asked moment refl (table-step config old moment asked (WithColumns old moment (columns_by operator) (λ place. Counts old moment (lines_at place) old)) place h'.is_mounted own.found here) in
      let read : ReadsScan config moment range None g result place = record {
        within = omega (arith, s.within, counted.flash, ap (λ n. scan_limit n own.plan own.table range None range.low) h'.knots);
        least = on_ok_weaker result (λ some below unread. let more = some unread below in omega (arith, more, counted.flash)) s.some;
        failed = λ below unread. let more = s.failed unread below in omega (arith, more, counted.flash);
      } in
      let stated = on-table config old moment asked (OnColumns moment (columns_by operator) (ReadsScan config moment range None g result)) place h'.is_mounted own.found
      (subst (λ (none : Option ℕ). MatchOption none (ReadsScan config moment range None g result place) (λ column. none_read moment)) (sym has) read) in
      subst (λ m. Executes config old (command_by operator asked range) (SessionStands config entries g m notes) f g told told_now result) (sym r.mounted_is)
      (executes-read E config old (command_by operator asked range) entries notes f g true told told_now result moment only refl step (session-still config entries notes f g old only h') (counts-by operator range asked f g moment counted) (states-by operator config old range asked result g moment stated) s.risen s.wrote)

  -- it asks for a column that isn't there
  pub operator-no_column : (at : ℕ) (entry : Entry) (t : Table 64 64) →
      SessionStands config entries f mounted notes old → IsReached entries mounted asked at → slice_get entries at ≡ Some entry → t ≡ table_in entry.table → (column : ℕ) → Some column ≡ lacked_column (layout_in t) (columns_by operator) →
      Written told told_now result (text (reply.NoColumn column)) →
      Executes config old (command_by operator asked range) (SessionStands config entries f mounted notes) f f told told_now result
  operator-no_column at entry t h r there table_is column lacks wrote =
      let h' = subst (λ m. SessionStands config entries f m notes old) r.mounted_is h in
      let own = own-of config old entries f notes asked at entry h' there r.named in
      let place : Located = record { place = at; plan = own.plan; table = own.table } in
      let moment = saying (command_by operator asked range) (reply.NoColumn column ∷ []) old in
      let none_there : no_column own.plan (columns_by operator) ≡ Some column = lacked-column t (first_of config.plans at) (bare own.plan) (columns_by operator) (Some column) lacks (planned-unlogged t entry table_is own.stands) in
      let here = subst (λ (some : Option ℕ). MatchOption some (Counts old moment (lines_at place) old) (λ column. Says moment (reply.NoColumn column ∷ []) old)) (sym none_there) (says (command_by operator asked range) (reply.NoColumn column ∷ []) old) in
      let step = steps-by operator config old range asked moment refl (table-step config old moment asked (WithColumns old moment (columns_by operator) (λ place. Counts old moment (lines_at place) old)) place h'.is_mounted own.found here) in
      subst (λ m. Executes config old (command_by operator asked range) (SessionStands config entries f m notes) f f told told_now result) (sym r.mounted_is)
      (executes-answered E config old (command_by operator asked range) (SessionStands config entries f true notes) f f (text (reply.NoColumn column)) told told_now result
      (answers-saying config old (command_by operator asked range) (reply.NoColumn column) old entries notes f f true refl step h') (λ moment none. counts-by operator range asked f f moment (read-none f moment.reads none))
      (λ moment none. states-by operator config old range asked result f moment (on-table config old moment asked (OnColumns moment (columns_by operator) (ReadsScan config moment range None f result)) place h'.is_mounted own.found
      (subst (λ (some : Option ℕ). MatchOption some (ReadsScan config moment range None f result place) (λ column. none_read moment)) (sym none_there) none))) wrote)

  -- it isn't executed
  pub operator-refused : SessionStands config entries f mounted notes old → (said : code.Reply) → Refusal entries mounted asked said → Written told told_now result (reply_text said) →
      Executes config old (command_by operator asked range) (SessionStands config entries f mounted notes) f f told told_now result
  operator-refused h said r wrote =
      executes-answered E config old (command_by operator asked range) (SessionStands config entries f mounted notes) f f (reply_text said) told told_now result
      (answers-refused config old entries notes f mounted (command_by operator asked range) asked (λ moment. WithColumns old moment (columns_by operator) (λ place. Counts old moment (lines_at place) old)) said h r (λ moment is w. steps-by operator config old range asked moment is w)) (λ moment none. counts-by operator range asked f f moment (read-none f moment.reads none))
      (λ moment none. states-by operator config old range asked result f moment (off-table config old entries notes f mounted moment asked (OnColumns moment (columns_by operator) (ReadsScan config moment range None f result)) said h r none)) wrote

-- the same value by another name
pub select-by : {E : Type 0} {config : Config} {old : Machine} {name : List ℕ} {range : KeyRange} {column : ℕ} {op : Op} {v w : ℤ} {stands : Machine → Type 0} {f g : FlashState} {told now : Option (List ℕ)} {result : Result (Unit {0}) E} → v ≡ w →
    Executes config old (words.Select name range column op v) stands f g told now result → Executes config old (words.Select name range column op w) stands f g told now result
select-by {E} {config} {old} {name} {range} {column} {op} {v} {w} {stands} {f} {g} {told} {now} {result} same h = subst (λ x. Executes config old (words.Select name range column op x) stands f g told now result) same h

module _ (E : Type 0) (config : Config) (old : Machine) (entries : List Entry) (left right : List ℕ) (notes : Notes) (f : FlashState) (mounted : Bool) (range : KeyRange) (told told_now : Option (List ℕ)) (result : Result (Unit {0}) E) where
  abbrev pairs_at : Located → Located → List Reply
  pairs_at a b = map pair_reply (key_join (records_of range a) (records_of range b))

  abbrev CountsPairs : Moment → Located → Located → Type 0
  CountsPairs moment a b = Counts old moment (pairs_at a b) old

  -- it reads no more than two scans
  abbrev IsWithinBoth : Moment → Located → Located → Type 0
  IsWithinBoth moment a b = moment.reads ≤ scan_limit config.knots a.plan a.table range None range.low + scan_limit config.knots b.plan b.table range None range.low

  join-step : (moment : Moment) → moment.command ≡ words.Join left right range → WithTable config old moment left (λ a. WithTable config old moment right (CountsPairs moment a)) → Step config old moment
  join-step moment is w = step-is config old moment (words.Join left right range) is w

  -- the pairs of the rows of two tables
  pub join-executes : (l r : ℕ) (a b : Entry) (x y : Table 64 64) (g : FlashState) (reads : ℕ) → SessionStands config entries f mounted notes old → IsReached entries mounted left l → slice_get entries l ≡ Some a → IsReached entries mounted right r → slice_get entries r ≡ Some b →
      x ≡ table_in a.table → y ≡ table_in b.table → OnlyReads f g → HasRead f reads g →
      ((first second : ℕ) (p q : Plan) (t u : model.Table) → IsTrue f.media.tells → f.is_on ≡ true → Stands x f first p t → Stands y f second q u →
      Counted (pairs_at (record { place = l; plan = p; table = t }) (record { place = r; plan = q; table = u })) (scan_limit 64 p t range None range.low + scan_limit 64 q u range None range.low) 0
      told told_now f.media.faults g.media.faults f.work.reads g.work.reads result) →
      Executes config old (words.Join left right range) (SessionStands config entries g mounted notes) f g told told_now result
  join-executes l r a b x y g reads h at_left left_there at_right right_there x_is y_is only counted lists =
      let h' = subst (λ m. SessionStands config entries f m notes old) at_left.mounted_is h in
      let own = own-of config old entries f notes left l a h' left_there at_left.named in
      let other = own-of config old entries f notes right r b h' right_there at_right.named in
      let place : Located = record { place = l; plan = own.plan; table = own.table } in
      let beside : Located = record { place = r; plan = other.plan; table = other.table } in
      let s = lists (first_of config.plans l) (first_of config.plans r) (bare own.plan) (bare other.plan) (bare_table own.table) (bare_table other.table) h'.medium.told (h'.power refl)
      (stands-unlogged x a x_is own.stands) (stands-unlogged y b y_is other.stands) in
      let moment : Moment = record { command = words.Join left right range; rose = s.rose; reads = reads; last = None; replies = s.replies; after = old } in
      let step = join-step moment refl (table-step config old moment left (λ a. WithTable config old moment right (CountsPairs moment a)) place h'.is_mounted own.found
      (table-step config old moment right (CountsPairs moment place) beside h'.is_mounted other.found (refl, refl, s.lists))) in
      let within : IsWithinBoth moment place beside = omega (
        arith,
        s.within,
        counted.flash,
        ap (λ n. scan_limit n own.plan own.table range None range.low) h'.knots,
        ap (λ n. scan_limit n other.plan other.table range None range.low) h'.knots,
      ) in
      let stated : ReadsAsStated config old moment g result (words.Join left right range) = (
        on-table config old moment left (λ a. OnTable config old moment right (IsWithinBoth moment a)) place h'.is_mounted own.found
            (on-table config old moment right (IsWithinBoth moment place) beside h'.is_mounted other.found within),
        λ below. on-table config old moment left (λ a. OnTable config old moment right (λ b. FaultHasRead moment)) place h'.is_mounted own.found
            (on-table config old moment right (λ b. FaultHasRead moment) beside h'.is_mounted other.found (λ unread. let more = s.failed unread below in omega (arith, more, counted.flash))),
      ) in
      subst (λ m. Executes config old (words.Join left right range) (SessionStands config entries g m notes) f g told told_now result) (sym at_left.mounted_is)
      (executes-read E config old (words.Join left right range) entries notes f g true told told_now result moment only refl step (session-still config entries notes f g old only h') counted stated s.risen s.wrote)

  -- the left one isn't there, or nothing is mounted
  pub join-refused : SessionStands config entries f mounted notes old → (said : code.Reply) → Refusal entries mounted left said → Written told told_now result (reply_text said) →
      Executes config old (words.Join left right range) (SessionStands config entries f mounted notes) f f told told_now result
  join-refused h said r wrote =
      executes-answered E config old (words.Join left right range) (SessionStands config entries f mounted notes) f f (reply_text said) told told_now result
      (answers-refused config old entries notes f mounted (words.Join left right range) left (λ moment a. WithTable config old moment right (CountsPairs moment a)) said h r join-step) (λ moment none. read-none f moment.reads none)
      (λ moment none. (
        off-table config old entries notes f mounted moment left (λ a. OnTable config old moment right (IsWithinBoth moment a)) said h r none,
        λ below. off-table config old entries notes f mounted moment left (λ a. OnTable config old moment right (λ b. FaultHasRead moment)) said h r none,
      )) wrote

  -- .. or the right one
  pub join-alone : (l : ℕ) → SessionStands config entries f mounted notes old → IsReached entries mounted left l → (said : code.Reply) → Refusal entries mounted right said → Written told told_now result (reply_text said) →
      Executes config old (words.Join left right range) (SessionStands config entries f mounted notes) f f told told_now result
  join-alone l h at_left said r wrote =
      let h' = subst (λ m. SessionStands config entries f m notes old) at_left.mounted_is h in
      let own = own-of config old entries f notes left l at_left.named.entry h' at_left.named.here at_left.named in
      let place : Located = record { place = l; plan = own.plan; table = own.table } in
      executes-answered E config old (words.Join left right range) (SessionStands config entries f mounted notes) f f (reply_text said) told told_now result
      (answers-refused config old entries notes f mounted (words.Join left right range) right (λ moment. CountsPairs moment place) said h r
      (λ moment is w. join-step moment is (table-step config old moment left (λ a. WithTable config old moment right (CountsPairs moment a)) place h'.is_mounted own.found w))) (λ moment none. read-none f moment.reads none)
      (λ moment none. (
        on-table config old moment left (λ a. OnTable config old moment right (IsWithinBoth moment a)) place h'.is_mounted own.found
            (off-table config old entries notes f mounted moment right (IsWithinBoth moment place) said h r none),
        λ below. on-table config old moment left (λ a. OnTable config old moment right (λ b. FaultHasRead moment)) place h'.is_mounted own.found
            (off-table config old entries notes f mounted moment right (λ b. FaultHasRead moment) said h r none),
      )) wrote
