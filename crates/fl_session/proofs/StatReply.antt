-- What a session tells of its table.
use Rattle.std.proofs.Common.{◌≡◌, ℕ, true, Bool, Some, List, [], ◌∷◌, refl, sym, ◌∙◌, ap, subst, slice_get}
use Rattle.fl_flash.specs.Flash.{FlashState}
use Rattle.fl_model.specs.Bare.{bare, bare_table}
use Rattle.fl_model.specs.Record.{Config, Plan}
use Rattle.fl_model.specs.Table as model
use Rattle.fl_words.specs.Command as command
use Rattle.fl_words.specs.Reply as reply
use Rattle.fl_words.specs.Reply.{text}
use Rattle.fl_machine.specs.Machine.{Machine}
use Rattle.fl_machine.specs.Step.{Says, Located, stat_reply}
use Rattle.fl_rlc.specs.Table.{table_in}
use Rattle.fl_script.specs.ReplyView.{reply_text}
use Rattle.fl_script.specs.declared.reply.Reply as code
use Rattle.fl_table.specs.Look.{counts_of}
use Rattle.fl_table.specs.Standing.{Stands}
use Rattle.fl_table.specs.declared.counts.TableCounts.{TableCounts}
use Rattle.fl_table.specs.declared.table.Table.{Table}
use Rattle.fl_store.specs.declared.tables.Entry.{Entry}
use Rattle.fl_store.specs.Tables.{first_of, IsNamed}
use Rattle.fl_session.specs.Answer.{Answers, Refusal, IsReached}
use Rattle.fl_session.specs.declared.notes.Notes.{Notes}
use Rattle.fl_session.specs.Standing.{SessionStands}
use Rattle.fl_session.proofs.CommandReplies.{answers-saying, saying, says, step-is, table-step}
use Rattle.fl_session.proofs.NamedTable.{own-of}
use Rattle.fl_session.proofs.RefusedCommands.{answers-refused}
use Rattle.fl_store.proofs.Queried.{stands-unlogged}

stat-answers : (config : Config) (old : Machine) (entries : List Entry) (asked : List ℕ) (at : ℕ) (entry : Entry) (t : Table 64 64) (notes : Notes) (f : FlashState) (counts : TableCounts) (programs erases : ℕ) →
    (h : SessionStands config entries f true notes old) → slice_get entries at ≡ Some entry → IsNamed entries asked at → t ≡ table_in entry.table → ((first : ℕ) (plan : Plan) (table : model.Table) → Stands t f first plan table → counts ≡ counts_of table) →
    programs ≡ f.work.programs → erases ≡ f.work.erases →
    Answers config old (command.Stat asked) (SessionStands config entries f true notes) f f (text (reply.Stat counts.rows counts.pending counts.pages counts.voids programs erases))
stat-answers config old entries asked at entry t notes f counts programs erases h here named table_is holds p e =
    let own = own-of config old entries f notes asked at entry h here named in
    let c = command.Stat asked in
    let r = stat_reply old own.table in
    let moment = saying c (r ∷ []) old in
    let place : Located = record { place = at; plan = own.plan; table = own.table } in
    let step = table-step config old moment asked (λ at. Says moment (stat_reply old at.table ∷ []) old) place h.is_mounted own.found (says c (r ∷ []) old) in
    subst (λ x. Answers config old c (SessionStands config entries f true notes) f f (text x))
    (same-stat own.table (holds (first_of config.plans at) (bare own.plan) (bare_table own.table) (stands-unlogged t entry table_is own.stands)) (h.device.programs ∙ sym p) (h.device.erases ∙ sym e))
    (answers-saying config old c r old entries notes f f true refl step h)
  where
    same-stat : (table : model.Table) → counts ≡ counts_of table → old.device.programs ≡ programs → old.device.erases ≡ erases → stat_reply old table ≡ reply.Stat counts.rows counts.pending counts.pages counts.voids programs erases
    same-stat table counted p' e' =
        ap (λ (x : TableCounts). reply.Stat x.rows x.pending x.pages x.voids old.device.programs old.device.erases) (sym counted)
        ∙ (ap (λ n. reply.Stat counts.rows counts.pending counts.pages counts.voids n old.device.erases) p'
        ∙ ap (λ n. reply.Stat counts.rows counts.pending counts.pages counts.voids programs n) e')

pub stat-call : (config : Config) (old : Machine) (entries : List Entry) (at : ℕ) (entry : Entry) (t : Table 64 64) (asked : List ℕ) (notes : Notes) (f : FlashState) (mounted : Bool) (counts : TableCounts) (programs erases : ℕ) →
    SessionStands config entries f mounted notes old → IsReached entries mounted asked at → slice_get entries at ≡ Some entry → t ≡ table_in entry.table → ((f : FlashState) (first : ℕ) (plan : Plan) (table : model.Table) → Stands t f first plan table → counts ≡ counts_of table) →
    programs ≡ f.work.programs → erases ≡ f.work.erases →
    Answers config old (command.Stat asked) (SessionStands config entries f mounted notes) f f (text (reply.Stat counts.rows counts.pending counts.pages counts.voids programs erases))
stat-call config old entries at entry t asked notes f mounted counts programs erases h r here table_is holds p e =
    let h' = subst (λ m. SessionStands config entries f m notes old) r.mounted_is h in
    subst (λ m. Answers config old (command.Stat asked) (SessionStands config entries f m notes) f f (text (reply.Stat counts.rows counts.pending counts.pages counts.voids programs erases))) (sym r.mounted_is)
    (stat-answers config old entries asked at entry t notes f counts programs erases h' here r.named table_is (holds f) p e)

pub stat-refused : (config : Config) (old : Machine) (entries : List Entry) (notes : Notes) (f : FlashState) (mounted : Bool) (asked : List ℕ) (said : code.Reply) →
    SessionStands config entries f mounted notes old → Refusal entries mounted asked said → Answers config old (command.Stat asked) (SessionStands config entries f mounted notes) f f (reply_text said)
stat-refused config old entries notes f mounted asked said h r =
    answers-refused config old entries notes f mounted (command.Stat asked) asked (λ moment at. Says moment (stat_reply old at.table ∷ []) old) said h r (λ moment is w. step-is config old moment (command.Stat asked) is w)
