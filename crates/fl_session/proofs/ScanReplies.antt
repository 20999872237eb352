-- The scan of a session.
use Rattle.std.proofs.Common.{◌≡◌, ℕ, ◌-◌, Bool, true, IsTrue, Option, Some, None, Result, List, refl, sym, ap, subst, arith, slice_get}
use Rattle.fl_base.specs.declared.types.KeyRange.{KeyRange}
use Rattle.fl_base.specs.declared.types.Span.{Span}
use Rattle.fl_flash.specs.Flash.{FlashState}
use Rattle.fl_model.specs.Bare.{bare, bare_table}
use Rattle.fl_model.specs.Limits.{scan_limit}
use Rattle.fl_model.specs.Record.{Config, Plan}
use Rattle.fl_model.specs.Table as model
use Rattle.fl_frame.specs.Contents.{OnlyReads}
use Rattle.fl_words.specs.Command as command
use Rattle.fl_machine.specs.Machine.{Machine, OfScan}
use Rattle.fl_machine.specs.Step.{Moment, Located, ScanStep}
use Rattle.fl_rlc.specs.Table.{table_in}
use Rattle.fl_script.specs.ReplyView.{reply_text}
use Rattle.fl_script.specs.Written.{Written}
use Rattle.fl_script.specs.declared.reply.Reply as code
use Rattle.fl_table.specs.Standing.{Stands}
use Rattle.fl_table.specs.declared.table.Table.{Table}
use Rattle.fl_store.specs.declared.tables.Entry.{Entry}
use Rattle.fl_store.specs.Tables.{first_of}
use Rattle.fl_session.specs.Answer.{Refusal, IsReached}
use Rattle.fl_session.specs.Execute.{Executes}
use Rattle.fl_queries.specs.Lines.{Scans}
use Rattle.fl_session.specs.Cost.{HasRead, ReadsScan}
use Rattle.fl_session.specs.declared.notes.Notes.{Notes}
use Rattle.fl_session.specs.declared.cost.Cost.TheVariants as code_cost
use Rattle.fl_session.specs.Standing.{SessionStands}
use Rattle.fl_session.proofs.CommandReplies.{executes-answered, executes-read, step-is, table-step}
use Rattle.fl_session.proofs.NamedTable.{own-of}
use Rattle.fl_session.proofs.CountedReads.{read-none}
use Rattle.fl_session.proofs.GetReplies.{session-read, on-table, off-table}
use Rattle.fl_session.proofs.RefusedCommands.{answers-refused}
use Rattle.std.proofs.lemmas.Result.{on_ok_weaker}
use Rattle.fl_store.proofs.Queried.{stands-unlogged}
use Rattle.fl_session.proofs.Unlogged.{scans-unlogged}

-- a scan that is executed
pub scan-executes : (E : Type 0) (config : Config) (old : Machine) (entries : List Entry) (at : ℕ) (entry : Entry) (t : Table 64 64) (asked : List ℕ) (notes : Notes) (f g : FlashState) (reads : ℕ) (mounted : Bool) (range : KeyRange) (span : Option Span) (told told_now : Option (List ℕ)) (result : Result (Unit {0}) E) →
    SessionStands config entries f mounted notes old → IsReached entries mounted asked at → slice_get entries at ≡ Some entry → t ≡ table_in entry.table → OnlyReads f g → HasRead f reads g → reads ≡ g.work.reads - f.work.reads →
    ((first : ℕ) (plan : Plan) (table : model.Table) → IsTrue f.media.tells → f.is_on ≡ true → Stands t f first plan table → Scans plan table range span told told_now f.media.faults g.media.faults f.work.reads g.work.reads result) →
    Executes config old (command.Scan asked range span) (SessionStands config entries g mounted (record notes { cost = code_cost.OfScan reads })) f g told told_now result
scan-executes E config old entries at entry t asked notes f g reads mounted range span told told_now result h r here table_is only counted reads_are scans =
    let h' = subst (λ m. SessionStands config entries f m notes old) r.mounted_is h in
    let own = own-of config old entries f notes asked at entry h' here r.named in
    let s = scans-unlogged own.plan own.table range span (scans (first_of config.plans at) (bare own.plan) (bare_table own.table) h'.medium.told (h'.power refl) (stands-unlogged t entry table_is own.stands)) in
    let moment : Moment = record { command = command.Scan asked range span; rose = s.rose; reads = reads; last = None; replies = s.replies; after = record old { cost = OfScan reads } } in
    let place : Located = record { place = at; plan = own.plan; table = own.table } in
    let stated : ReadsScan config moment range span g result place = record {
      within = omega (arith, s.within, reads_are, ap (λ n. scan_limit n own.plan own.table range span range.low) h'.knots);
      least = on_ok_weaker result (λ least below unread. let more = least unread below in omega (arith, more, reads_are)) s.some;
      failed = λ below unread. let more = s.failed unread below in omega (arith, more, reads_are);
    } in
    let step = table-step config old moment asked (ScanStep config old moment range span) place h'.is_mounted own.found (refl, refl, s.lists) in
    let notes' : Notes = record notes { cost = code_cost.OfScan reads } in
    subst (λ m. Executes config old (command.Scan asked range span) (SessionStands config entries g m notes') f g told told_now result) (sym r.mounted_is)
    (executes-read E config old (command.Scan asked range span) entries notes' f g true told told_now result moment only refl step (session-read f g only config entries notes (code_cost.OfScan reads) old h') counted
    (on-table config old moment asked (ReadsScan config moment range span g result) place h'.is_mounted own.found stated) s.risen s.wrote)

-- .. and one that isn't
pub scan-refused : (E : Type 0) (config : Config) (old : Machine) (entries : List Entry) (notes : Notes) (f : FlashState) (mounted : Bool) (asked : List ℕ) (range : KeyRange) (span : Option Span) (said : code.Reply) (told told_now : Option (List ℕ)) (result : Result (Unit {0}) E) →
    SessionStands config entries f mounted notes old → Refusal entries mounted asked said → Written told told_now result (reply_text said) →
    Executes config old (command.Scan asked range span) (SessionStands config entries f mounted notes) f f told told_now result
scan-refused E config old entries notes f mounted asked range span said told told_now result h r wrote =
    executes-answered E config old (command.Scan asked range span) (SessionStands config entries f mounted notes) f f (reply_text said) told told_now result
    (answers-refused config old entries notes f mounted (command.Scan asked range span) asked (λ moment. ScanStep config old moment range span) said h r (λ moment is w. step-is config old moment (command.Scan asked range span) is w)) (λ moment none. read-none f moment.reads none) (λ moment none. off-table config old entries notes f mounted moment asked (ReadsScan config moment range span f result) said h r none) wrote
