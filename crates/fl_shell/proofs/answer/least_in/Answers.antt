use Rattle.std.proofs.Common.{◌<◌, ◌≤◌, ◌-◌, option_map, refl, sym, ◌∙◌, ap, arith}
use Rattle.fl_shell.proofs.FirstKey.{word-behind, word-here, word-none}
use Rattle.fl_shell.proofs.answer.least_in.Goals as goal

pub words-init : goal.words-init
words-init c = refl

pub returns-in_err-behind : goal.returns-in_err-behind
returns-in_err-behind c = ap (option_map (λ word. word.now)) c.from_residual.ensures ∙ sym (word-none c.words.rest.now (5 - c.words._at) _ c.words.invariant c.in_err-behind.ensures.words)

pub words-preserved : goal.words-preserved
words-preserved c =
    let within : c.words._at < 5 = omega arith in
    word-behind c.words.rest.now c.in_ok-behind.behind.now _ c.words._at _ within c.words.invariant c.in_ok-behind.ensures.words

pub returns-in_err-least : goal.returns-in_err-least
returns-in_err-least c = ap (option_map (λ word. word.now)) c.from_residual-in_err-least.ensures ∙ sym (word-none c.words.rest.now (5 - c.words._at) _ c.words.invariant c.in_err-least.ensures.words)

pub returns : goal.returns
returns c =
    let ended : 5 ≤ c.words._at = omega arith in
    sym (word-here c.words.rest.now c.in_ok-least.least.now _ c.words._at _ ended c.words.invariant c.in_ok-least.ensures.words)
