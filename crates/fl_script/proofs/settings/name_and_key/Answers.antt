use Rattle.std.proofs.Common.{◌≡◌, ℕ, List, map, Bor, Err, ap, ◌∙◌}
use Rattle.fl_words.specs.Command.{Command}
use Rattle.fl_words.specs.Grammar as grammar
use Rattle.fl_script.proofs.Few.{two}
use Rattle.fl_script.proofs.Steps.{with_form, no_form, on, stops, told}
use Rattle.fl_script.proofs.settings.name_and_key.Goals as goal

-- the words are no name and key, whatever is made of them
abbrev HasNoKey : List (Bor (List ℕ)) → grammar.LineFault → Type 0
HasNoKey words fault = (make : List ℕ → ℕ → Command) → grammar.key_line make (map (λ word. word.now) words) ≡ Err fault

pub returns-in_err-name : goal.returns-in_err-name
returns-in_err-name c =
    told _ _ _ _ (HasNoKey c.args.words.now) c.from_residual.ensures.1 c.in_err-name.ensures.1
    (λ make. ap (grammar.key_line make) (two c.args.words.now c.in-len2.len_at_least c.in-len2.len_below) ∙ no_form _ c.in_err-name.ensures.0)

pub returns-in_err-number : goal.returns-in_err-number
returns-in_err-number c =
    told _ _ _ _ (HasNoKey c.args.words.now) c.from_residual-in_err-number.ensures.1 c.in_err-number.ensures.1
    (λ make. ap (grammar.key_line make) (two c.args.words.now c.in-len2.len_at_least c.in-len2.len_below) ∙ with_form _ c.in_ok-name.ensures.0 ∙ stops _ c.in_err-number.ensures.0)

pub returns : goal.returns
returns c = λ make.
    rw c.in_ok-name.ensures.1 (ap (grammar.key_line make) (two c.args.words.now c.in-len2.len_at_least c.in-len2.len_below) ∙ with_form _ c.in_ok-name.ensures.0 ∙ on _ c.in_ok-number.ensures)
