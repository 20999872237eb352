use Rattle.std.proofs.Common.{◌≡◌, ℕ, Some, Err, List, take, ap, subst}
use Rattle.std.proofs.lemmas.Result.{IfOk-weaker, IfErr-weaker}
use Rattle.fl_base.specs.Causes.{Rose}
use Rattle.fl_words.specs.Config.{Lines}
use Rattle.fl_sizing.specs.Ends.{Refuses}
use Rattle.fl_sizing.specs.Lines.{IsEnded, RefusesText}
use Rattle.fl_sizing.specs.declared.end.PlanEnd.{PlanEnd}
use Rattle.fl_sizing.specs.declared.end.PlanStatus.{PlanStatus}
use Rattle.fl_sizing.specs.declared.end.PlanStatus.TheVariants.{Done, InputRead, OutWrite}
use Rattle.fl_sizing.proofs.PlanEnds.{text-refused, has-status, unread-refused, unread-statuses}
use Rattle.fl_sizing.proofs.plan.config_of_text.Goals as goal

pub returns-in-Ok-clause-ended : goal.returns-in-Ok-clause-ended
returns-in-Ok-clause-ended g c =
    IfOk-weaker c.config_of.result (IsEnded (take c.in-Ok.len c.read_text.new.into)) (λ (config : Lines). (text : List ℕ) → g.S.Source.left c.args.input.now ≡ Some text → IsEnded text config)
    (λ config e text is. subst (λ (t : List ℕ). IsEnded t config) (c.in-Ok.ensures.text.1 text is) e) c.config_of.ensures.ended

pub returns-in-Ok-clause-refused : goal.returns-in-Ok-clause-refused
returns-in-Ok-clause-refused g c =
    IfErr-weaker c.config_of.result (RefusesText (take c.in-Ok.len c.read_text.new.into)) (λ (end : PlanEnd). (text : List ℕ) → g.S.Source.left c.args.input.now ≡ Some text → Refuses text end)
    (λ end r text is. text-refused text end (subst (λ (t : List ℕ). RefusesText t end) (c.in-Ok.ensures.text.1 text is) r)) c.config_of.ensures.refused

pub returns-in-Ok-clause-read : goal.returns-in-Ok-clause-read
returns-in-Ok-clause-read g c =
    IfErr-weaker c.config_of.result (RefusesText (take c.in-Ok.len c.read_text.new.into)) (λ (end : PlanEnd). end.status ≡ InputRead → Rose (g.S.Source.faults c.args.input.now) (g.S.Source.faults c.read_text.new.input))
    (λ end r e. absurd (has-status (take c.in-Ok.len c.read_text.new.into) end InputRead r e)) c.config_of.ensures.refused

pub returns-in-Ok-clause-statuses : goal.returns-in-Ok-clause-statuses
returns-in-Ok-clause-statuses g c =
    let text = take c.in-Ok.len c.read_text.new.into in
    IfErr-weaker c.config_of.result (RefusesText text) (λ (end : PlanEnd). (end.status ≡ Done → ⊥) × (end.status ≡ OutWrite → ⊥))
    (λ end r. (λ e. has-status text end Done r e, λ e. has-status text end OutWrite r e)) c.config_of.ensures.refused

pub returns-in-Err-clause-refused : goal.returns-in-Err-clause-refused
returns-in-Err-clause-refused g c = λ text is.
    unread-refused text c.in-Err.status c.of.result c.of.ensures c.in-Err.ensures.statuses (λ e. c.in-Err.ensures.long (ap (λ (s : PlanStatus). Err s) e) text is)

pub returns-in-Err-clause-statuses : goal.returns-in-Err-clause-statuses
returns-in-Err-clause-statuses g c = unread-statuses c.in-Err.status c.of.result c.of.ensures c.in-Err.ensures.statuses
