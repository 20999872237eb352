-- Commands on a table that aren't executed.
use Rattle.std.proofs.Common.{◌≡◌, ℕ, Bool, Option, List, [], ◌∷◌, refl, ◌∙◌, ℤ}
use Rattle.fl_flash.specs.Flash.{FlashState}
use Rattle.fl_model.specs.Record.{Config}
use Rattle.fl_words.specs.Command as command
use Rattle.fl_words.specs.Command.{Command}
use Rattle.fl_words.specs.Reply as reply
use Rattle.fl_words.specs.Reply.{text}
use Rattle.fl_machine.specs.Machine.{Machine}
use Rattle.fl_machine.specs.Step.{Moment, Step, Located, WithTable, PutStep, FlushStep}
use Rattle.fl_script.specs.ReplyView.{reply_text}
use Rattle.fl_script.specs.declared.reply.Reply as code
use Rattle.fl_store.specs.declared.tables.Entry.{Entry}
use Rattle.fl_session.specs.Answer.{Answers, Refusal}
use Rattle.fl_session.specs.declared.notes.Notes.{Notes}
use Rattle.fl_session.specs.Standing.{SessionStands}
use Rattle.fl_session.proofs.CommandReplies.{answers-saying, saying, step-is, not_mounted-step, no_table-step}
use Rattle.fl_session.proofs.NamedTable.{own-none}

pub answers-refused : (config : Config) (old : Machine) (entries : List Entry) (notes : Notes) (f : FlashState) (mounted : Bool) (c : Command) (asked : List ℕ) (P : Moment → Located → Type 0) (said : code.Reply) →
    SessionStands config entries f mounted notes old → Refusal entries mounted asked said → ((moment : Moment) → moment.command ≡ c → WithTable config old moment asked (P moment) → Step config old moment) →
    Answers config old c (SessionStands config entries f mounted notes) f f (reply_text said)
answers-refused config old entries notes f mounted c asked P code.TheVariants.NotMounted h r step =
    let moment = saying c (reply.NotMounted ∷ []) old in
    answers-saying config old c reply.NotMounted old entries notes f f mounted refl (step moment refl (not_mounted-step config old c asked (P moment) (h.is_mounted ∙ r))) h
answers-refused config old entries notes f mounted c asked P code.TheVariants.NoTable h r step =
    let moment = saying c (reply.NoTable ∷ []) old in
    let none = own-none config old entries f mounted notes asked h r.1 in
    answers-saying config old c reply.NoTable old entries notes f f mounted refl (step moment refl (no_table-step config old c asked (P moment) (h.is_mounted ∙ r.0) none)) h
answers-refused config old entries notes f mounted c asked P said h r step = absurd r

pub put-refused_so : (config : Config) (old : Machine) (entries : List Entry) (notes : Notes) (f : FlashState) (mounted : Bool) (asked : List ℕ) (key : ℕ) (values : List ℤ) (blob : Option (List ℕ)) (said : code.Reply) →
    SessionStands config entries f mounted notes old → Refusal entries mounted asked said → Answers config old (command.Put asked key values blob) (SessionStands config entries f mounted notes) f f (reply_text said)
put-refused_so config old entries notes f mounted asked key values blob said h r =
    answers-refused config old entries notes f mounted (command.Put asked key values blob) asked (λ moment. PutStep config old moment (record { key = key; values = values; blob = blob })) said h r (λ moment is w. step-is config old moment (command.Put asked key values blob) is w)

pub flush-refused_so : (config : Config) (old : Machine) (entries : List Entry) (notes : Notes) (f : FlashState) (mounted : Bool) (asked : List ℕ) (said : code.Reply) →
    SessionStands config entries f mounted notes old → Refusal entries mounted asked said → Answers config old (command.Flush asked) (SessionStands config entries f mounted notes) f f (reply_text said)
flush-refused_so config old entries notes f mounted asked said h r =
    answers-refused config old entries notes f mounted (command.Flush asked) asked (λ moment. FlushStep config old moment) said h r (λ moment is w. step-is config old moment (command.Flush asked) is w)
