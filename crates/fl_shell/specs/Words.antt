-- The words of the command line that name a shell.
use Rattle.std.specs.Prelude.{ℕ, ◌&&◌, Option, Some, None, List, [], ◌∷◌, codes, if◌then◌else◌}
use Rattle.fl_model.specs.Record.{bytes_equal}
use Rattle.fl_ends.specs.Words.{is_image_name}

-- the image that the words name: `shell` and one name
abbrev pub shell_named : List (List ℕ) → Option (List ℕ)
shell_named (word ∷ name ∷ []) = if bytes_equal word (codes "shell") && is_image_name name then Some name else None
shell_named words = None
