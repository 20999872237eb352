-- The calls of a session's table, each by the command that makes it.
use Rattle.std.proofs.Common.{◌≡◌, ℕ, Bool, true, false, not, IsTrue, IfErr, Option, Some, Result, List, sym, ap, subst, ℤ, is_ok, OnOk, slice_get}
use Rattle.fl_flash.specs.Flash.{FlashState, Goes, page_at}
use Rattle.fl_frame.specs.Watched.{IsWatched}
use Rattle.fl_model.specs.Record.{Config, Plan}
use Rattle.fl_model.specs.Table as model
use Rattle.fl_model.specs.Work.{Device}
use Rattle.fl_words.specs.Command as command
use Rattle.fl_words.specs.Reply as reply
use Rattle.fl_words.specs.Reply.{text}
use Rattle.fl_machine.specs.Machine.{Machine}
use Rattle.fl_table.specs.Causes.{put_breaks, flush_breaks}
use Rattle.fl_table.specs.declared.faults.FlushFault.{FlushFault}
use Rattle.fl_table.specs.declared.faults.PutRefusal.{PutRefusal}
use Rattle.fl_rlc.specs.Logged.{Stands}
use Rattle.fl_rlc.specs.Outcomes.{PutEnds, FlushEnds}
use Rattle.fl_rlc.specs.Refusal.{RefusedSame}
use Rattle.fl_rlc.specs.Table.{IsSamePlan, OutsideStands}
use Rattle.fl_rlc.specs.declared.table.LoggedTable.{LoggedTable}
use Rattle.fl_store.specs.Tables.{first_of, entries_with, TablesStand, TablesMount}
use Rattle.fl_store.specs.declared.tables.BadMount.{BadMount}
use Rattle.fl_store.specs.declared.tables.Entry.{Entry}
use Rattle.fl_session.specs.Answer.{Answers, IsReached, mount_reply}
use Rattle.fl_store.specs.Replies.{put_reply, flush_reply}
use Rattle.fl_session.specs.Notes.{without_cursors}
use Rattle.fl_session.specs.declared.notes.Notes.{Notes}
use Rattle.fl_session.specs.Standing.{SessionStands}
use Rattle.fl_session.proofs.CommandReplies.{answers-media}
use Rattle.fl_session.proofs.MountsOf.{Repairs, stands-powered, mount-watched, mount-answers, answers-already}
use Rattle.fl_session.proofs.NamedTable.{own-of}
use Rattle.fl_store.proofs.Risen.{has_risen}
use Rattle.fl_session.proofs.PutsAndFlushes.{session-watched, put-answers, flush-answers}

pub put-call : (config : Config) (old : Machine) (entries : List Entry) (at : ℕ) (entry : Entry) (u : LoggedTable 64 64) (asked : List ℕ) (notes : Notes) (f g : FlashState) (mounted : Bool) (key : ℕ) (values : List ℤ) (blob : Option (List ℕ)) (result : Result (Unit {0}) PutRefusal) (breaks : Bool) (said : List ℕ) →
    SessionStands config entries f mounted notes old → IsReached entries mounted asked at → slice_get entries at ≡ Some entry → Goes f g → IsSamePlan entry.table u → (IsTrue f.media.tells → OutsideStands entry.table (page_at f) (page_at g)) →
    ((first : ℕ) (plan : Plan) (table : model.Table) (rose : Bool) (device : Device) → IsWatched f g rose device → Stands entry.table f first plan table → PutEnds first plan (record { key = key; values = values; blob = blob }) table rose device result u f g) →
    IfErr result (λ e. RefusedSame entry.table f e u g) → breaks ≡ put_breaks result → said ≡ text (put_reply result) →
    Answers config old (command.Put asked key values blob) (SessionStands config (entries_with entries at entry u) g (not breaks) notes) f g said
put-call config old entries at entry u asked notes f g mounted key values blob result breaks said h r here goes same outside ends refused b e =
    let h' = subst (λ m. SessionStands config entries f m notes old) r.mounted_is h in
    let own = own-of config old entries f notes asked at entry h' here r.named in
    let end = ends (first_of config.plans at) own.plan own.table (has_risen f g) old.device (session-watched config entries notes f g old h') own.stands.on_flash in
    subst (λ s. Answers config old (command.Put asked key values blob) (SessionStands config (entries_with entries at entry u) g (not breaks) notes) f g s) (sym e)
    (put-answers config old entries at entry asked notes u f g h' here own goes same outside key values blob result (not breaks) (ap not b) end refused)

pub flush-call : (config : Config) (old : Machine) (entries : List Entry) (at : ℕ) (entry : Entry) (u : LoggedTable 64 64) (asked : List ℕ) (notes : Notes) (f g : FlashState) (mounted : Bool) (result : Result (Unit {0}) FlushFault) (breaks : Bool) (said : List ℕ) →
    SessionStands config entries f mounted notes old → IsReached entries mounted asked at → slice_get entries at ≡ Some entry → Goes f g → IsSamePlan entry.table u → (IsTrue f.media.tells → OutsideStands entry.table (page_at f) (page_at g)) →
    ((first : ℕ) (plan : Plan) (table : model.Table) (rose : Bool) (device : Device) → IsWatched f g rose device → Stands entry.table f first plan table → FlushEnds first plan table rose device result u f g) →
    breaks ≡ flush_breaks result → said ≡ text (flush_reply result) →
    Answers config old (command.Flush asked) (SessionStands config (entries_with entries at entry u) g (not breaks) notes) f g said
flush-call config old entries at entry u asked notes f g mounted result breaks said h r here goes same outside ends b e =
    let h' = subst (λ m. SessionStands config entries f m notes old) r.mounted_is h in
    let own = own-of config old entries f notes asked at entry h' here r.named in
    let end = ends (first_of config.plans at) own.plan own.table (has_risen f g) old.device (session-watched config entries notes f g old h') own.stands.on_flash in
    subst (λ s. Answers config old (command.Flush asked) (SessionStands config (entries_with entries at entry u) g (not breaks) notes) f g s) (sym e)
    (flush-answers config old entries at entry asked notes u f g h' here own goes same outside result (not breaks) (ap not b) end)

-- a mount, with the power on
pub mount-call : (config : Config) (old : Machine) (entries now : List Entry) (notes : Notes) (f on g : FlashState) (mounted ok : Bool) (result : Result (Unit {0}) BadMount) (said : List ℕ) →
    SessionStands config entries f mounted notes old → mounted ≡ false → on ≡ record f { is_on = true } → Goes on g →
    ((plans : List Plan) (tables : List model.Table) (rose : Bool) (device : Device) → IsWatched on g rose device → TablesStand on (λ i. false) plans entries tables → TablesMount plans tables rose device result now g) →
    OnOk result (Repairs on g entries) → ok ≡ is_ok result → said ≡ text (mount_reply result) →
    Answers config old command.Mount (SessionStands config now g ok (without_cursors notes)) f g said
mount-call config old entries now notes f on g mounted ok result said h off is goes ends repaired n e =
    let h' = stands-powered config old entries notes f on mounted h off is in
    let power : on.is_on ≡ true = ap (λ (x : FlashState). x.is_on) is in
    let watched = mount-watched config entries notes on g old h' power in
    let end = ends config.plans old.tables (has_risen on g) old.device watched h'.tables in
    let answers = mount-answers config old notes entries now on g h' goes result ok n end watched repaired in
    subst (λ s. Answers config old command.Mount (SessionStands config now g ok (without_cursors notes)) f g s) (sym e)
    (answers-media config old command.Mount (SessionStands config now g ok (without_cursors notes)) on f g (text (mount_reply result)) (ap (λ (x : FlashState). x.media) is) answers)

pub already-call : (config : Config) (old : Machine) (entries : List Entry) (notes : Notes) (f : FlashState) (mounted : Bool) → SessionStands config entries f mounted notes old → mounted ≡ true →
    Answers config old command.Mount (SessionStands config entries f mounted notes) f f (text reply.AlreadyMounted)
already-call config old entries notes f mounted h on =
    subst (λ m. Answers config old command.Mount (SessionStands config entries f m notes) f f (text reply.AlreadyMounted)) (sym on)
    (answers-already config old entries notes f (subst (λ m. SessionStands config entries f m notes old) on h))
