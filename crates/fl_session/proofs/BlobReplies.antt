-- The blob of a record, asked for in a session.
use Rattle.std.proofs.Common.{◌≡◌, ◌≤◌, ℕ, ◌-◌, Bool, true, IsTrue, Option, Some, None, Result, List, refl, sym, ap, subst, arith, slice_get}
use Rattle.fl_flash.specs.Flash.{FlashState}
use Rattle.fl_model.specs.Bare.{bare, bare_table}
use Rattle.fl_model.specs.Record.{Config, Plan}
use Rattle.fl_model.specs.Table as model
use Rattle.fl_frame.specs.Contents.{OnlyReads}
use Rattle.fl_words.specs.Command as command
use Rattle.fl_machine.specs.Machine.{Machine}
use Rattle.fl_machine.specs.Reads.{FaultHasRead, blob_limit}
use Rattle.fl_machine.specs.Step.{Moment, Located, BlobStep}
use Rattle.fl_rlc.specs.Table.{table_in}
use Rattle.fl_script.specs.ReplyView.{reply_text}
use Rattle.fl_script.specs.Written.{Written}
use Rattle.fl_script.specs.declared.reply.Reply as code
use Rattle.fl_table.specs.Standing.{Stands}
use Rattle.fl_table.specs.declared.table.Table.{Table}
use Rattle.fl_store.specs.declared.tables.Entry.{Entry}
use Rattle.fl_store.specs.Tables.{first_of}
use Rattle.fl_session.specs.Answer.{Refusal, IsReached}
use Rattle.fl_queries.specs.BlobShown.{ShowsBlob}
use Rattle.fl_session.specs.Cost.{HasRead}
use Rattle.fl_session.specs.Execute.{Executes}
use Rattle.fl_session.specs.declared.notes.Notes.{Notes}
use Rattle.fl_session.specs.Standing.{SessionStands}
use Rattle.fl_session.proofs.CommandReplies.{executes-answered, executes-read, step-is, table-step}
use Rattle.fl_session.proofs.CountedReads.{read-none}
use Rattle.fl_session.proofs.GetReplies.{on-table, off-table}
use Rattle.fl_session.proofs.Operations.{session-still}
use Rattle.fl_session.proofs.NamedTable.{own-of}
use Rattle.fl_session.proofs.RefusedCommands.{answers-refused}
use Rattle.fl_store.proofs.Queried.{stands-unlogged}
use Rattle.fl_session.proofs.Unlogged.{shows-unlogged}

-- the question is answered
pub blob-executes : (E : Type 0) (config : Config) (old : Machine) (entries : List Entry) (at : ℕ) (entry : Entry) (t : Table 64 64) (asked : List ℕ) (notes : Notes) (f g : FlashState) (reads key : ℕ) (mounted : Bool) (told told_now : Option (List ℕ)) (result : Result (Unit {0}) E) →
    SessionStands config entries f mounted notes old → IsReached entries mounted asked at → slice_get entries at ≡ Some entry → t ≡ table_in entry.table → OnlyReads f g → HasRead f reads g → reads ≡ g.work.reads - f.work.reads →
    ((first : ℕ) (plan : Plan) (table : model.Table) → IsTrue f.media.tells → f.is_on ≡ true → Stands t f first plan table → ShowsBlob plan table key told told_now f.media.faults g.media.faults f.work.reads g.work.reads result) →
    Executes config old (command.Blob asked key) (SessionStands config entries g mounted notes) f g told told_now result
blob-executes E config old entries at entry t asked notes f g reads key mounted told told_now result h r here table_is only counted reads_are shows =
    let h' = subst (λ m. SessionStands config entries f m notes old) r.mounted_is h in
    let own = own-of config old entries f notes asked at entry h' here r.named in
    let s = shows-unlogged own.plan own.table (shows (first_of config.plans at) (bare own.plan) (bare_table own.table) h'.medium.told (h'.power refl) (stands-unlogged t entry table_is own.stands)) in
    let moment : Moment = record { command = command.Blob asked key; rose = s.rose; reads = reads; last = None; replies = s.replies; after = old } in
    let place : Located = record { place = at; plan = own.plan; table = own.table } in
    let step = table-step config old moment asked (BlobStep old moment key) place h'.is_mounted own.found (refl, refl, s.replied) in
    let within : reads ≤ blob_limit config.knots own.plan own.table key = omega (arith, s.within, reads_are, ap (λ n. blob_limit n own.plan own.table key) h'.knots) in
    subst (λ m. Executes config old (command.Blob asked key) (SessionStands config entries g m notes) f g told told_now result) (sym r.mounted_is)
    (executes-read E config old (command.Blob asked key) entries notes f g true told told_now result moment only refl step (session-still config entries notes f g old only h') counted (
      on-table config old moment asked (λ at. moment.reads ≤ blob_limit config.knots at.plan at.table key) place h'.is_mounted own.found within,
      λ below. on-table config old moment asked (λ at. FaultHasRead moment) place h'.is_mounted own.found (λ unread. let more = s.failed unread below in omega (arith, more, counted.flash)),
    ) s.risen s.wrote)

-- .. and one that isn't
pub blob-refused : (E : Type 0) (config : Config) (old : Machine) (entries : List Entry) (notes : Notes) (f : FlashState) (mounted : Bool) (asked : List ℕ) (key : ℕ) (said : code.Reply) (told told_now : Option (List ℕ)) (result : Result (Unit {0}) E) →
    SessionStands config entries f mounted notes old → Refusal entries mounted asked said → Written told told_now result (reply_text said) →
    Executes config old (command.Blob asked key) (SessionStands config entries f mounted notes) f f told told_now result
blob-refused E config old entries notes f mounted asked key said told told_now result h r wrote =
    executes-answered E config old (command.Blob asked key) (SessionStands config entries f mounted notes) f f (reply_text said) told told_now result
    (answers-refused config old entries notes f mounted (command.Blob asked key) asked (λ moment. BlobStep old moment key) said h r (λ moment is w. step-is config old moment (command.Blob asked key) is w)) (λ moment none. read-none f moment.reads none)
    (λ moment none. (
      off-table config old entries notes f mounted moment asked (λ at. moment.reads ≤ blob_limit config.knots at.plan at.table key) said h r none,
      λ below. off-table config old entries notes f mounted moment asked (λ at. FaultHasRead moment) said h r none,
    )) wrote
