-- The words of the command line that name a ship.
use Rattle.std.specs.Prelude.{ℕ, ◌&&◌, Option, Some, None, Result, Ok, Err, List, [], ◌∷◌, codes, if◌then◌else◌}
use Rattle.fl_model.specs.Record.{bytes_equal}
use Rattle.fl_words.specs.Grammar.{LineFault, is_name, number_in}
use Rattle.fl_ends.specs.Words.{is_image_name}
use Rattle.fl_command.specs.declared.ship_words.ShipJob.{ShipJob}

-- of a table, so many records at most
abbrev pub records_named : List ℕ → Result ℕ LineFault → Option ShipJob
records_named name (Ok count) = Some (record { name = name; count = count })
records_named name (Err fault) = None

-- `ship`, the names of an image and of its copy, that of a table, and a number from 1 to 1,000,000
abbrev pub ship_named : List (List ℕ) → Option ShipJob
ship_named (word ∷ image ∷ copy ∷ name ∷ count ∷ []) =
    if bytes_equal word (codes "ship") && is_image_name image && is_image_name copy && is_name name then records_named name (number_in 1 1000000 count) else None
ship_named words = None
