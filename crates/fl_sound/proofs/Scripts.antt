-- The configuration of a script is made by lines that are accepted.
use Rattle.std.proofs.Common.{◌≡◌, ℕ, ◌+◌, Option, Some, None, Result, Ok, Err, List, [], ◌∷◌, ◌++◌, refl, ◌∙◌, ap}
use Rattle.std.specs.Option.{option_and_then}
use Rattle.std.proofs.lemmas.Option.{same_Some}
use Rattle.fl_image.specs.Header.{unless_refused, after_command, after_lines, IsMade}
use Rattle.fl_image.proofs.Made.{makes-of}
use Rattle.fl_machine.specs.Script.{Ready, start_with, start_config, start_line, start_from, start_of, ended}
use Rattle.fl_model.specs.Record.{Config}
use Rattle.fl_words.specs.Command as command
use Rattle.fl_words.specs.Command.{Command}
use Rattle.fl_words.specs.Config.{ConfigFault, Lines, configured, no_lines, whole}
use Rattle.fl_words.specs.Grammar.{LineFault, command_of}

-- one line more
after-next : (text : List ℕ) (before now : Lines) → after_command before (command_of text) ≡ Some now → (texts : List (List ℕ)) (start : Lines) → after_lines start texts ≡ Some before
    → after_lines start (texts ++ text ∷ []) ≡ Some now
after-next text before now e [] start h =
    ap (λ (l : Lines). after_lines l (text ∷ [])) (same_Some start before h) ∙ ap (λ (o : Option Lines). option_and_then (λ next. after_lines next []) o) e
after-next text before now e (x ∷ texts) start h = by_first (after-next text before now e texts) (after_command start (command_of x)) h
  where
    by_first : ((s : Lines) → after_lines s texts ≡ Some before → after_lines s (texts ++ text ∷ []) ≡ Some now) → (o : Option Lines) → option_and_then (λ next. after_lines next texts) o ≡ Some before
        → option_and_then (λ next. after_lines next (texts ++ text ∷ [])) o ≡ Some now
    by_first rest None k = cc
    by_first rest (Some s) k = rest s k

module _ (knots : ℕ) (config : Config) (line : ℕ) (rest : List (List ℕ)) where
  -- the lines so far make the configuration
  made-with : (before : Lines) (texts : List (List ℕ)) → after_lines no_lines texts ≡ Some before → (n : ℕ) (others : List (List ℕ)) (o : Option Config) → whole knots before ≡ o → start_with o n others ≡ Ready config line rest → IsMade config
  made-with before texts h n others None k e = cc
  made-with before texts h n others (Some c) k e = record { lines = before; accepted = (texts, h); makes = makes-of knots before config (k ∙ ap (λ (x : Config). Some x) (same e)) }
    where
      same : Ready c n others ≡ Ready config line rest → c ≡ config
      same q = cc

  ended-with : (before : Lines) (texts : List (List ℕ)) → after_lines no_lines texts ≡ Some before → (n : ℕ) (others : List (List ℕ)) (o : Option Config) → whole knots before ≡ o → ended (start_with o n others) ≡ Ready config line rest → IsMade config
  ended-with before texts h n others None k e = cc
  ended-with before texts h n others (Some c) k e = made-with before texts h n others (Some c) k e

  made-from : (lines : List (List ℕ)) (n : ℕ) (before : Lines) (texts : List (List ℕ)) → after_lines no_lines texts ≡ Some before → ended (start_from knots n before lines) ≡ Ready config line rest → IsMade config
  made-from [] n before texts h e = made-with before texts h n [] (whole knots before) refl e
  made-from (text ∷ lines) n before texts h e = by_command (λ now k q. made-from lines (n + 1) now (texts ++ text ∷ []) (after-next text before now k texts no_lines h) q) (command_of text) refl e
    where
      by_result : ((now : Lines) → after_command before (command_of text) ≡ Some now → ended (start_from knots (n + 1) now lines) ≡ Ready config line rest → IsMade config) → (c : Command) → command_of text ≡ Ok c
          → (r : Result Lines ConfigFault) → configured before c ≡ r → ended (start_config n r (λ now. start_from knots (n + 1) now lines)) ≡ Ready config line rest → IsMade config
      by_result go c is (Ok now) k q = go now (ap (after_command before) is ∙ ap unless_refused k) q
      by_result go c is (Err fault) k q = cc

      other : ended (start_with (whole knots before) n (text ∷ lines)) ≡ Ready config line rest → IsMade config
      other q = ended-with before texts h n (text ∷ lines) (whole knots before) refl q

      by_command : ((now : Lines) → after_command before (command_of text) ≡ Some now → ended (start_from knots (n + 1) now lines) ≡ Ready config line rest → IsMade config) → (r : Result Command LineFault) → command_of text ≡ r
          → ended (start_line knots n before text lines r (λ now. start_from knots (n + 1) now lines)) ≡ Ready config line rest → IsMade config
      by_command go (Err fault) is q = cc
      by_command go (Ok (command.Device page block)) is q = by_result go (command.Device page block) is (configured before (command.Device page block)) refl q
      by_command go (Ok (command.Table words)) is q = by_result go (command.Table words) is (configured before (command.Table words)) refl q
      by_command go (Ok command.Nothing) is q = go before (ap (after_command before) is) q
      by_command go (Ok command.Mount) is q = other q
      by_command go (Ok command.Off) is q = other q
      by_command go (Ok (command.Cut a b)) is q = other q
      by_command go (Ok (command.Put a b c d)) is q = other q
      by_command go (Ok (command.Flush a)) is q = other q
      by_command go (Ok (command.Get a b)) is q = other q
      by_command go (Ok (command.Blob a b)) is q = other q
      by_command go (Ok (command.Scan a b c)) is q = other q
      by_command go (Ok (command.Open a b c d)) is q = other q
      by_command go (Ok (command.Next a b)) is q = other q
      by_command go (Ok (command.Close a)) is q = other q
      by_command go (Ok (command.Select a b c d x)) is q = other q
      by_command go (Ok (command.Project a b c)) is q = other q
      by_command go (Ok (command.Agg a b c d)) is q = other q
      by_command go (Ok (command.Join a b c)) is q = other q
      by_command go (Ok (command.Stat a)) is q = other q
      by_command go (Ok command.Cost) is q = other q
      by_command go (Ok (command.Load a b c d)) is q = other q

pub made : (knots : ℕ) (lines : List (List ℕ)) (config : Config) (line : ℕ) (rest : List (List ℕ)) → ended (start_of knots lines) ≡ Ready config line rest → IsMade config
made knots lines config line rest e = made-from knots config line rest lines 1 no_lines [] refl e
