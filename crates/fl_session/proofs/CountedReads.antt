-- What a session knows of the reads of its flash.
use Rattle.std.proofs.Common.{◌≡◌, ℕ, zero, suc, ◌+◌, ◌-◌, ◌^◌, ◌<◌, ◌≤◌, Bool, List, [], ◌∷◌, refl, ◌∙◌, ap, arith}
use Rattle.fl_flash.specs.Flash.{FlashState}
use Rattle.fl_flash.specs.declared.flash.Work.{Work}
use Rattle.fl_model.specs.Record.{Config}
use Rattle.fl_frame.specs.Contents as contents
use Rattle.fl_frame.specs.Contents.{counted}
use Rattle.fl_frame.proofs.ContentsInTurn.{counted-exact}
use Rattle.fl_words.specs.Command as command
use Rattle.fl_words.specs.Reply.{text}
use Rattle.fl_machine.specs.Machine.{Machine}
use Rattle.fl_machine.specs.Step.{cost_reply}
use Rattle.fl_store.specs.declared.tables.Entry.{Entry}
use Rattle.fl_session.specs.Answer.{Answers}
use Rattle.fl_session.specs.Cost.{cost_of, HasRead}
use Rattle.fl_session.specs.declared.notes.Notes.{Notes}
use Rattle.fl_session.specs.Standing.{SessionStands}
use Rattle.fl_session.proofs.CommandReplies.{answers-saying, says}

-- a count never falls
counted-least : (n before : ℕ) → before ≤ 2 ^ 64 - 1 → before ≤ counted n before
counted-least zero before below = omega arith
counted-least (suc n) before below = omega (arith, counted-least n before below)

-- flash and medium count the same reads
module _ (f g : FlashState) (only : contents.OnlyReads f g) where
  counts : g.work.reads ≡ counted only.reads f.work.reads
  counts = ap (λ (w : Work). w.reads) only.work

  rises : g.work.reads < 2 ^ 64 - 1 → g.work.reads ≡ f.work.reads + only.reads
  rises below = counts ∙ counted-exact only.reads f.work.reads (omega (arith, counts, below))

  pub has-read : (reads : ℕ) → f.work.reads < 2 ^ 64 → reads ≡ g.work.reads - f.work.reads → HasRead f reads g
  has-read reads small is = record {
    flash = omega (arith, is, counts, counted-least only.reads f.work.reads (omega (arith, small)));
    medium = λ below medium_below.
        let same = counted-exact only.reads f.media.reads (omega (arith, only.media, medium_below)) in
        omega (arith, is, rises below, only.media, same);
  }

-- nothing was read
pub read-none : (f : FlashState) (reads : ℕ) → reads ≡ 0 → HasRead f reads f
read-none f reads none = record { flash = omega (arith, none); medium = λ _ _. omega (arith, none) }

-- the reply to the question for the cost
pub cost-answers : (config : Config) (old : Machine) (entries : List Entry) (notes : Notes) (f : FlashState) (mounted : Bool) (said : List ℕ) →
    SessionStands config entries f mounted notes old → said ≡ text (cost_reply (cost_of notes.cost)) → Answers config old command.Cost (SessionStands config entries f mounted notes) f f said
cost-answers config old entries notes f mounted said h is =
    rw (is, ← h.cost_is)
    (answers-saying config old command.Cost (cost_reply old.cost) old entries notes f f mounted refl (says command.Cost (cost_reply old.cost ∷ []) old) h)
