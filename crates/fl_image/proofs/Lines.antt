-- The configuration of lines, one by one.
use Rattle.std.proofs.Common.{◌≡◌, ℕ, ◌+◌, ◌<◌, Option, List, length, drop, get_or, sym, ◌∙◌, ap}
use Rattle.std.specs.Option.{option_and_then}
use Rattle.std.proofs.lemmas.List.{at_drop_more}
use Rattle.fl_words.specs.Config.{Lines}
use Rattle.fl_words.specs.Grammar.{command_of}
use Rattle.fl_image.specs.Header.{after_command, after_lines}

pub with-next : (lines : Lines) (texts : List (List ℕ)) (k : ℕ) (text : List ℕ) (after : Option Lines) → k < length texts → text ≡ get_or texts k text → after_command lines (command_of text) ≡ after →
    after_lines lines (drop k texts) ≡ option_and_then (λ next. after_lines next (drop (k + 1) texts)) after
with-next lines texts k text after lt is to =
    at_drop_more (after_lines lines) texts k text lt
    ∙ ap (λ t. option_and_then (λ next. after_lines next (drop (k + 1) texts)) (after_command lines (command_of t))) (sym is)
    ∙ ap (option_and_then (λ next. after_lines next (drop (k + 1) texts))) to
