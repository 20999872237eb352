-- The lines of a load, which are written one after another.
use Rattle.std.proofs.Common.{◌≡◌, ℕ, Bool, true, false, Option, Some, Result, Ok, Err, List, [], ◌∷◌, ◌++◌, refl, sym, subst, arith, is_err, not, slice_get}
use Rattle.std.proofs.lemmas.Bool.{false≢true}
use Rattle.fl_base.specs.Causes.{Appends, AppendsFront}
use Rattle.fl_base.proofs.Appended.{front-more, front-behind}
use Rattle.fl_flash.specs.Flash.{FlashState}
use Rattle.fl_model.specs.Record.{Config}
use Rattle.fl_words.specs.Command as command
use Rattle.fl_words.specs.Reply as reply
use Rattle.fl_words.specs.Reply.{Reply, text, texts}
use Rattle.fl_machine.specs.Machine.{Machine}
use Rattle.fl_machine.specs.Step.{LoadStep}
use Rattle.fl_script.specs.ReplyView.{reply_text}
use Rattle.fl_script.specs.Written.{Written}
use Rattle.fl_script.specs.declared.reply.Reply as code
use Rattle.fl_table.specs.Causes.{put_breaks}
use Rattle.fl_table.specs.declared.faults.PutRefusal.{PutRefusal}
use Rattle.fl_rlc.specs.declared.table.LoggedTable.{LoggedTable}
use Rattle.fl_store.specs.Tables.{entries_with, IsNamed}
use Rattle.fl_store.specs.declared.tables.Entry.{Entry}
use Rattle.fl_session.specs.Answer.{Answers, Refusal, IsReached, load_replies}
use Rattle.fl_store.specs.Replies.{put_reply}
use Rattle.fl_session.specs.Execute.{Executes}
use Rattle.fl_session.specs.declared.notes.Notes.{Notes}
use Rattle.fl_session.specs.Standing.{SessionStands}
use Rattle.fl_session.proofs.CommandReplies.{executes-answered, step-is}
use Rattle.fl_session.proofs.RefusedCommands.{answers-refused}

-- a front of a line is one of all lines
pub front-first : (told now : Option (List ℕ)) (count : ℕ) (outcome : Result (Unit {0}) PutRefusal) → AppendsFront told now (text (reply.Loaded count)) → AppendsFront told now (texts (load_replies count outcome))
front-first told now count (Ok done) h = front-more told now (text (reply.Loaded count)) [] h
front-first told now count (Err refusal) h = front-more told now (text (reply.Loaded count)) (texts (put_reply (Err refusal) ∷ [])) h

-- .. and a front of the second behind the first
pub front-second : (told mid now : Option (List ℕ)) (count : ℕ) (outcome : Result (Unit {0}) PutRefusal) (line : List ℕ) → is_err outcome ≡ true → line ≡ text (put_reply outcome) →
    Appends told mid (text (reply.Loaded count)) → AppendsFront mid now line → AppendsFront told now (texts (load_replies count outcome))
front-second told mid now count (Ok done) line e is first h = absurd (false≢true e)
front-second told mid now count (Err refusal) line e is first h =
    let second = text (put_reply (Err refusal)) in
    front-behind told mid now (text (reply.Loaded count)) (second ++ []) first (front-more mid now second [] (subst (λ l. AppendsFront mid now l) is h))

-- a load that is executed
pub load-executes : (E : Type 0) (config : Config) (old : Machine) (entries : List Entry) (at : ℕ) (entry : Entry) (u : LoggedTable 64 64) (asked : List ℕ) (notes : Notes) (f g : FlashState) (mounted breaks : Bool) (count step seed loaded : ℕ) (outcome : Result (Unit {0}) PutRefusal) (told told_now : Option (List ℕ)) (result : Result (Unit {0}) E) →
    SessionStands config entries f mounted notes old → IsReached entries mounted asked at → slice_get entries at ≡ Some entry → g.work.reads ≡ f.work.reads →
    ((config : Config) (entries : List Entry) (at : ℕ) (e : Entry) (name : List ℕ) (notes : Notes) (old : Machine) → SessionStands config entries f true notes old → slice_get entries at ≡ Some e → e.table ≡ entry.table → IsNamed entries name at →
    Answers config old (command.Load name count step seed) (SessionStands config (entries_with entries at e u) g (not (put_breaks outcome)) notes) f g (texts (load_replies loaded outcome))) →
    breaks ≡ put_breaks outcome → Written told told_now result (texts (load_replies loaded outcome)) →
    Executes config old (command.Load asked count step seed) (SessionStands config (entries_with entries at entry u) g (not breaks) notes) f g told told_now result
load-executes E config old entries at entry u asked notes f g mounted breaks count step seed loaded outcome told told_now result h r here unread answers b wrote =
    let h' = subst (λ m. SessionStands config entries f m notes old) r.mounted_is h in
    subst (λ broken. Executes config old (command.Load asked count step seed) (SessionStands config (entries_with entries at entry u) g (not broken) notes) f g told told_now result) (sym b)
    (executes-answered E config old (command.Load asked count step seed) (SessionStands config (entries_with entries at entry u) g (not (put_breaks outcome)) notes) f g (texts (load_replies loaded outcome)) told told_now result
    (answers config entries at entry asked notes old h' here refl r.named) (λ moment none. (none, omega (arith, unread))) (λ moment none. tt) wrote)

-- .. and one that isn't
pub load-refused : (E : Type 0) (config : Config) (old : Machine) (entries : List Entry) (notes : Notes) (f : FlashState) (mounted : Bool) (asked : List ℕ) (count step seed : ℕ) (said : code.Reply) (told told_now : Option (List ℕ)) (result : Result (Unit {0}) E) →
    SessionStands config entries f mounted notes old → Refusal entries mounted asked said → Written told told_now result (reply_text said) →
    Executes config old (command.Load asked count step seed) (SessionStands config entries f mounted notes) f f told told_now result
load-refused E config old entries notes f mounted asked count step seed said told told_now result h r wrote =
    executes-answered E config old (command.Load asked count step seed) (SessionStands config entries f mounted notes) f f (reply_text said) told told_now result
    (answers-refused config old entries notes f mounted (command.Load asked count step seed) asked (λ moment. LoadStep config old moment count step seed) said h r (λ moment is w. step-is config old moment (command.Load asked count step seed) is w)) (λ moment none. (none, omega arith)) (λ moment none. tt) wrote

-- a put that was done broke nothing
pub unbroken : (outcome : Result (Unit {0}) PutRefusal) → is_err outcome ≡ false → put_breaks outcome ≡ false
unbroken (Ok done) e = refl
unbroken (Err refusal) e = cc
