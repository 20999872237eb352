-- The next rows of a session's cursors.
use Rattle.std.proofs.Common.{◌≡◌, ℕ, ◌+◌, ◌-◌, ◌^◌, ◌<◌, ◌≤◌, Bool, true, false, IsTrue, Option, Some, None, option_map, Result, Ok, Err, OnOk, OnErr, List, [], ◌∷◌, take, set, refl, sym, ◌∙◌, ap, subst, arith, unwrap_or, min, IfSome, MatchBool, MatchOption, slice_get}
use Rattle.std.proofs.lemmas.List.{map-set}
use Rattle.fl_base.specs.Causes.{Appends, AppendsFront}
use Rattle.fl_cursor.specs.Asked.{asked_by, lowest}
use Rattle.fl_cursor.specs.Reads.{IsBounded}
use Rattle.fl_cursor.specs.declared.bookmark.Bookmark.{Bookmark}
use Rattle.fl_flash.specs.Flash.{FlashState}
use Rattle.fl_flash.specs.declared.armed.Armed.{Armed}
use Rattle.fl_flash.specs.declared.flash.Work.{Work}
use Rattle.fl_model.specs.Bare.{bare, bare_table}
use Rattle.fl_model.specs.Query as query
use Rattle.fl_model.specs.Query.{moved}
use Rattle.fl_model.specs.Record.{Config, Plan}
use Rattle.fl_model.specs.Table as model
use Rattle.fl_frame.specs.Contents.{Contents, OnlyReads}
use Rattle.fl_words.specs.Command as command
use Rattle.fl_words.specs.Reply as reply
use Rattle.fl_words.specs.Reply.{text, texts}
use Rattle.fl_machine.specs.Machine.{Machine, OpenCursor}
use Rattle.fl_machine.specs.OpenCursors.{IsWithin, IsOpenWithin, AreWithin}
use Rattle.fl_machine.specs.Reads.{none_read, lowest_of, OnCursor, FaultHasRead, LimitOf}
use Rattle.fl_machine.proofs.OpenCursors.{within-at}
use Rattle.fl_machine.proofs.BytesStay.{moment-same}
use Rattle.fl_model.specs.Limits.{scan_limit}
use Rattle.fl_machine.specs.Step.{Moment, StepOf, Says, NextStep, cursor_at}
use Rattle.fl_frame.specs.Device.{ArmsAs}
use Rattle.fl_rlc.specs.Table.{table_in}
use Rattle.fl_script.specs.Written.{Written}
use Rattle.fl_table.specs.Standing.{Stands}
use Rattle.fl_table.specs.declared.table.Table.{Table}
use Rattle.fl_store.specs.declared.tables.Entry.{Entry}
use Rattle.fl_store.specs.Tables.{first_of}
use Rattle.fl_store.proofs.TablesChanged.{at-place}
use Rattle.fl_store.proofs.Queried.{stands-unlogged}
use Rattle.fl_store.proofs.Worked.{medium-goes}
use Rattle.fl_queries.specs.Nexts.{Nexts, given_of}
use Rattle.fl_frame.proofs.ContentsInTurn.{OnlyReads-goes}
use Rattle.fl_session.specs.Cost.{HasRead, ReadsAsStated}
use Rattle.fl_session.specs.Execute.{Executes}
use Rattle.fl_session.specs.Notes.{cursor_of}
use Rattle.fl_session.specs.declared.notes.Notes.{Notes}
use Rattle.fl_session.specs.declared.notes.TableCursor.{TableCursor}
use Rattle.fl_session.specs.Standing.{SessionStands}
use Rattle.fl_session.proofs.CommandReplies.{answers-saying, executes-answered, saying, says}
use Rattle.fl_session.proofs.CountedReads.{read-none}
use Rattle.fl_session.proofs.CursorsOf.{cursor-told}
use Rattle.fl_store.proofs.TablesOnlyRead.{tables-read}
use Rattle.fl_session.proofs.Rested.{session-ends}
use Rattle.fl_session.proofs.Unlogged.{nexts-unlogged}

-- the session after reads, with a cursor that was moved
stands-moved : (config : Config) (entries : List Entry) (notes : Notes) (f g : FlashState) (n : ℕ) (cursor : TableCursor) (m : Machine) → OnlyReads f g → SessionStands config entries f true notes m →
    SessionStands config entries g true (record notes { cursors = set notes.cursors n (Some cursor) }) (record m { cursors = set m.cursors n (Some (cursor_of cursor)) })
stands-moved config entries notes f g n cursor m only h = record {
  knots = h.knots;
  medium = medium-goes config f g (OnlyReads-goes f g only) h.medium;
  tables = tables-read f g only config.plans entries m.tables h.tables;
  is_mounted = h.is_mounted;
  cursors = ap (λ (cs : List (Option OpenCursor)). set cs n (Some (cursor_of cursor))) h.cursors ∙ sym (map-set (option_map cursor_of) notes.cursors n (Some cursor));
  device = record {
    armed = subst (λ (a : Option Armed). ArmsAs m.device.armed a) (sym only.armed) h.device.armed;
    programs = h.device.programs ∙ sym (ap (λ (w : Work). w.programs) only.work);
    erases = h.device.erases ∙ sym (ap (λ (w : Work). w.erases) only.work);
  };
  cost_is = h.cost_is;
  power = λ mounted. only.power ∙ h.power mounted;
}

next-of : (config : Config) (old : Machine) (n count : ℕ) (moment : Moment) (mounted : Bool) (at : Option OpenCursor) → old.mounted ≡ mounted → cursor_at old n ≡ at →
    MatchBool mounted (MatchOption at (Says moment (reply.NoCursor ∷ []) old) (NextStep config old moment n count)) (Says moment (reply.NotMounted ∷ []) old) →
    StepOf config old moment (command.Next n count)
next-of config old n count moment mounted at m o h =
    subst (λ b. MatchBool b (MatchOption (cursor_at old n) (Says moment (reply.NoCursor ∷ []) old) (NextStep config old moment n count)) (Says moment (reply.NotMounted ∷ []) old)) (sym m)
    (subst (λ (x : Option OpenCursor). MatchBool mounted (MatchOption x (Says moment (reply.NoCursor ∷ []) old) (NextStep config old moment n count)) (Says moment (reply.NotMounted ∷ []) old)) (sym o) h)

bounded : (top : Option ℕ) (high : ℕ) → IfSome top (λ t. t ≤ high) → IsBounded top high
bounded None high h = h
bounded (Some top) high h = h

-- the lowest key that may still be given
lowest-same : (low : ℕ) (after : Option ℕ) → IfSome after (λ a. a < 2 ^ 64) → IfSome after (λ a. low ≤ a) → lowest low after ≡ unwrap_or (option_map (λ a. min (a + 1) (2 ^ 64 - 1)) after) low
lowest-same low None fits from = refl
lowest-same low (Some after) fits from = omega (arith, fits, from)

-- the machine with a cursor over this table at this place
abbrev with_cursor : Machine → ℕ → ℕ → query.Cursor → Machine
with_cursor m n table cursor = record m { cursors = set m.cursors n (Some (record { table = table; cursor = cursor })) }

at-some : {X : Type 0} (o : Option X) (x : X) (N : Type 0) (P : X → Type 0) → o ≡ Some x → P x → MatchOption o N P
at-some o x N P e p = subst (λ y. MatchOption y N P) (sym e) p

-- .. and what is said of its reads
on-cursor : (config : Config) (old : Machine) (moment : Moment) (n : ℕ) (cursor : TableCursor) (plan : Plan) (table : model.Table) (P : OpenCursor → Plan → model.Table → Type 0) → old.mounted ≡ true → cursor_at old n ≡ Some (cursor_of cursor) →
    slice_get config.plans cursor.table ≡ Some plan → slice_get old.tables cursor.table ≡ Some table → P (cursor_of cursor) plan table → OnCursor config old moment n P
on-cursor config old moment n cursor plan table P on at p t here =
    subst (λ b. MatchBool b (MatchOption (cursor_at old n) (none_read moment) (λ c. MatchOption (slice_get config.plans c.table) (none_read moment) (λ plan. MatchOption (slice_get old.tables c.table) (none_read moment) (P c plan)))) (none_read moment)) (sym on)
    (at-some (cursor_at old n) (cursor_of cursor) _ _ at (at-some (slice_get config.plans cursor.table) plan _ _ p (at-some (slice_get old.tables cursor.table) table _ _ t here)))

-- the rows were given and the cursor was moved, or a page wasn't read; where the sink failed the cursor may be anywhere
pub next-executes : (E : Type 0) (config : Config) (old : Machine) (entries : List Entry) (entry : Entry) (t : Table 64 64) (notes : Notes) (f g : FlashState) (reads n count : ℕ) (mounted : Bool) (cursor : TableCursor) (new : Bookmark) (told told_now : Option (List ℕ)) (result : Result (Unit {0}) E) →
    SessionStands config entries f mounted notes old → mounted ≡ true → slice_get notes.cursors n ≡ Some (Some cursor) → slice_get entries cursor.table ≡ Some entry → t ≡ table_in entry.table → IfSome cursor.mark.after (λ after. after < 2 ^ 64) → OnlyReads f g → HasRead f reads g → reads ≡ g.work.reads - f.work.reads →
    ((first : ℕ) (plan : Plan) (table : model.Table) → IsTrue f.media.tells → f.is_on ≡ true → Stands t f first plan table → Nexts plan table count cursor.mark new told told_now f.media.faults g.media.faults f.work.reads g.work.reads result) →
    Executes config old (command.Next n count) (SessionStands config entries g mounted (record notes { cursors = set notes.cursors n (Some (record cursor { mark = new })) })) f g told told_now result
next-executes E config old entries entry t notes f g reads n count mounted cursor new told told_now result h on e here table_is fits only counted reads_are nexts =
    let h' = subst (λ m. SessionStands config entries f m notes old) on h in
    let own = at-place f (λ i. true) config.plans entries old.tables cursor.table entry h'.tables here in
    let s = nexts-unlogged own.plan own.table (nexts (first_of config.plans cursor.table) (bare own.plan) (bare_table own.table) h'.medium.told (h'.power refl) (stands-unlogged t entry table_is own.stands)) in
    let end : query.Cursor = moved (asked_by cursor.mark) (take s.given (given_of count cursor.mark own.table)) in
    let moment : Moment = record { command = command.Next n count; rose = s.rose; reads = reads; last = None; replies = s.replies; after = with_cursor old n cursor.table end } in
    let at : cursor_at old n ≡ Some (cursor_of cursor) = ap (λ (cs : List (Option OpenCursor)). unwrap_or (slice_get cs n) None) h'.cursors ∙ cursor-told notes.cursors n (Some cursor) e in
    let moves : NextStep config old moment n count (cursor_of cursor) = at-some (slice_get config.plans cursor.table) own.plan _ _ own.plan_is (at-some (slice_get old.tables cursor.table) own.table _ _ own.table_is (refl, (s.given, s.some, refl, s.replied))) in
    let limited : AreWithin old.cursors → LimitOf config old moment (command.Next n count) = λ within.
    let is : IsWithin (asked_by cursor.mark) = subst IsOpenWithin at (within-at old.cursors n within) in
    let most = s.within (bounded cursor.mark.top cursor.mark.range.high is.top) in
    on-cursor config old moment n cursor own.plan own.table (λ c plan table. moment.reads ≤ scan_limit config.knots plan table c.cursor.range c.cursor.span (lowest_of c.cursor)) h'.is_mounted at own.plan_is own.table_is
    (omega (
      arith,
      most,
      reads_are,
      ap (λ k. scan_limit k own.plan own.table cursor.mark.range cursor.mark.span (lowest_of (asked_by cursor.mark))) h'.knots,
      ap (λ low. scan_limit 64 own.plan own.table cursor.mark.range cursor.mark.span low) (lowest-same cursor.mark.range.low cursor.mark.after fits is.after),
    )) in
    let failed : g.work.reads < 2 ^ 64 - 1 → OnCursor config old moment n (λ c plan table. FaultHasRead moment) = λ below.
    on-cursor config old moment n cursor own.plan own.table (λ c plan table. FaultHasRead moment) h'.is_mounted at own.plan_is own.table_is
    (λ unread. let more = s.failed unread below in omega (arith, more, reads_are)) in
    let notes' : Notes = record notes { cursors = set notes.cursors n (Some (record cursor { mark = new })) } in
    let stands = stands-moved config entries notes f g n (record cursor { mark = new }) old only h' in
    record {
      moment = moment;
      command_is = refl;
      step = next-of config old n count moment true (Some (cursor_of cursor)) h'.is_mounted at moves;
      after = with_cursor old n cursor.table (asked_by new);
      stands_after = subst (λ m. SessionStands config entries g m notes' (with_cursor old n cursor.table (asked_by new))) (sym on) stands;
      alike = record { cost = refl; tables = refl; mounted = refl; device = refl };
      same = same-after result end s.moved_to;
      reads = counted;
      stated = (limited, failed);
      stays = moment-same config old moment f.media.content g.media.content (session-ends config entries notes' g true (with_cursor old n cursor.table (asked_by new)) stands) (ap (λ (c : Contents). c.bytes) only.contents);
      rose = s.risen;
      told_all = all-told result (texts s.replies) s.wrote;
      told_front = front-told result (texts s.replies) s.wrote;
    }
  where
    same-after : (r : Result (Unit {0}) E) (end : query.Cursor) → OnOk r (asked_by new ≡ end) → OnOk r (with_cursor old n cursor.table (asked_by new) ≡ with_cursor old n cursor.table end)
    same-after (Ok done) end is = ap (with_cursor old n cursor.table) is
    same-after (Err failed) end is = tt

    all-told : (r : Result (Unit {0}) E) (said : List ℕ) → Written told told_now r said → OnOk r (Appends told told_now said)
    all-told (Ok done) said wrote = wrote
    all-told (Err failed) said wrote = tt

    front-told : (r : Result (Unit {0}) E) (said : List ℕ) → Written told told_now r said → OnErr r (AppendsFront told told_now said)
    front-told (Ok done) said wrote = tt
    front-told (Err failed) said wrote = wrote

-- .. or there is no session or no such cursor
module _ (E : Type 0) (config : Config) (old : Machine) (entries : List Entry) (notes : Notes) (f : FlashState) (n count : ℕ) (told told_now : Option (List ℕ)) (result : Result (Unit {0}) E) where
  next-answered : (mounted : Bool) (said : reply.Reply) → SessionStands config entries f mounted notes old → ((moment : Moment) → none_read moment → ReadsAsStated config old moment f result (command.Next n count)) → StepOf config old (saying (command.Next n count) (said ∷ []) old) (command.Next n count) → Written told told_now result (text said) →
      Executes config old (command.Next n count) (SessionStands config entries f mounted notes) f f told told_now result
  next-answered mounted said h limit step wrote =
      executes-answered E config old (command.Next n count) (SessionStands config entries f mounted notes) f f (text said) told told_now result
      (answers-saying config old (command.Next n count) said old entries notes f f mounted refl step h) (λ moment none. read-none f moment.reads none) limit wrote

  pub next-off : (mounted : Bool) → mounted ≡ false → SessionStands config entries f mounted notes old → Written told told_now result (text reply.NotMounted) →
      Executes config old (command.Next n count) (SessionStands config entries f mounted notes) f f told told_now result
  next-off mounted off h wrote =
      let c = command.Next n count in
      next-answered mounted reply.NotMounted h (λ moment none. (λ within. rw (h.is_mounted ∙ off) none, λ below. rw (h.is_mounted ∙ off) none)) (next-of config old n count (saying c (reply.NotMounted ∷ []) old) false (cursor_at old n) (h.is_mounted ∙ off) refl (says c (reply.NotMounted ∷ []) old)) wrote

  pub next-none : (mounted : Bool) → mounted ≡ true → slice_get notes.cursors n ≡ Some None → SessionStands config entries f mounted notes old → Written told told_now result (text reply.NoCursor) →
      Executes config old (command.Next n count) (SessionStands config entries f mounted notes) f f told told_now result
  next-none mounted on e h wrote =
      let c = command.Next n count in
      let h' = subst (λ m. SessionStands config entries f m notes old) on h in
      let at : cursor_at old n ≡ None = ap (λ (cs : List (Option OpenCursor)). unwrap_or (slice_get cs n) None) h'.cursors ∙ cursor-told notes.cursors n None e in
      next-answered mounted reply.NoCursor h (λ moment none. (λ within. rw (h'.is_mounted, at) none, λ below. rw (h'.is_mounted, at) none)) (next-of config old n count (saying c (reply.NoCursor ∷ []) old) true None h'.is_mounted at (says c (reply.NoCursor ∷ []) old)) wrote
