-- A line that is too long is none of the shell's own, and no command.
use Rattle.std.proofs.Common.{◌≡◌, ℕ, ◌<◌, Bool, None, List, length, ap}
use Rattle.std.specs.Prelude.{if◌then◌else◌}
use Rattle.std.proofs.lemmas.Bool.{lt-ltb}
use Rattle.fl_words.specs.Grammar.{words_in, without_return}
use Rattle.fl_words.proofs.Lines.{too_long-command}
use Rattle.fl_machine.specs.Script.{runs, runs_read}
use Rattle.fl_shell.specs.Own.{own_of, own_words}

pub long-own : (line : List ℕ) → 4096 < length line → own_of line ≡ None
long-own line long = ap (λ (b : Bool). if b then None else own_words (words_in (without_return line))) (lt-ltb 4096 (length line) long)

pub long-runs : (line : List ℕ) → 4096 < length line → runs line ≡ None
long-runs line long = ap runs_read (too_long-command line long)
