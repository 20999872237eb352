-- Worked scripts over a table with a log, computed on the plain machine; its line and the refusals of its words.
use Rattle.std.proofs.Common.{◌≡◌, ℕ, false, ◌==◌, pos, Some, None, Ok, Err, List, [], ◌∷◌, ◌++◌, drop, map, refl, inl, codes, if◌then◌else◌}
use Rattle.std.specs.List.{flat_map}
use Rattle.fl_base.specs.declared.types.CutKind.TheVariants.{After, Half}
use Rattle.fl_model.specs.Record.{Plan, Config}
use Rattle.fl_model.specs.Table.{fresh_table, owed}
use Rattle.fl_words.specs.Command as command
use Rattle.fl_words.specs.Command.{Command, TableLine}
use Rattle.fl_words.specs.Grammar.{command_of, Form, Number}
use Rattle.fl_words.specs.Config.{Lines, configured, LogBlocks, LogVar, DeviceTooLarge}
use Rattle.fl_words.specs.Reply as reply
use Rattle.fl_machine.specs.Found.{IsLoggedAtRest}
use Rattle.fl_machine.specs.Machine.{Machine, begins}
use Rattle.fl_machine.specs.Run.{end_of}
use Rattle.fl_machine.specs.Plain.{plain_run}
use Rattle.fl_machine.proofs.Examples.{c1}
use Rattle.fl_machine.proofs.Rows.{said, put, puts, rows, scan}

abbrev logged : Plan
logged = record c1 { log_blocks = 3; bits = 0; width = 1 }

abbrev config : Config
config = record { geometry = record { page = 128; block = 4 }; plans = logged ∷ []; knots = 64 }

abbrev stat : Command
stat = command.Stat (codes "t")

-- three puts without a flush: a mount seals them
replayed : drop 4 (said config (command.Mount ∷ puts 1 3 ++ stat ∷ command.Off ∷ command.Mount ∷ scan ∷ stat ∷ []))
    ≡ reply.Stat 3 3 0 0 6 0 ∷ reply.Done ∷ reply.Done ∷ rows 1 3 ++ reply.EndCount 3 ∷ reply.Stat 3 0 1 0 8 0 ∷ []
replayed = refl

-- a put whose page of the log is cut, in its body and behind its mark
cut_body : drop 6 (said config (command.Mount ∷ puts 1 3 ++ command.Off ∷ command.Mount ∷ put 4 ∷ command.Cut 1 Half ∷ put 5 ∷ command.Mount ∷ scan ∷ []))
    ≡ reply.Done ∷ reply.Done ∷ reply.PowerLost ∷ reply.Done ∷ rows 1 4 ++ reply.EndCount 4 ∷ []
cut_body = refl

cut_after : drop 6 (said config (command.Mount ∷ puts 1 3 ++ command.Off ∷ command.Mount ∷ put 4 ∷ command.Cut 2 After ∷ put 5 ∷ command.Mount ∷ scan ∷ []))
    ≡ reply.Done ∷ reply.Done ∷ reply.PowerLost ∷ reply.Done ∷ rows 1 5 ++ reply.EndCount 5 ∷ []
cut_after = refl

-- the seals of the replay are cut again and again: the log keeps its records, and the data ring comes round
again : List Command
again = command.Cut 1 Half ∷ command.Mount ∷ []

abbrev more : List Command
more = command.Cut 2 Half ∷ command.Mount ∷ []

comes_round : drop 24 (said config (command.Mount ∷ put 1 ∷ command.Flush (codes "t") ∷ put 2 ∷ command.Off ∷ command.Cut 1 Half ∷ command.Mount ∷ more ++ more ++ more ++ more ++ more ++ more ++ more ++ more ++ command.Mount ∷ scan ∷ stat ∷ []))
    ≡ rows 2 1 ++ reply.EndCount 1 ∷ reply.Stat 1 0 7 6 26 1 ∷ []
comes_round = refl

-- the words of a table line
line : command_of (codes "table t 8 i32 3 0 0 0 0 1 1 0 rlc 3") ≡ Ok (command.Table (record { name = codes "t"; key = 8; columns = codes "i32"; data_blocks = 3; index_blocks = 0; var_blocks = 0; bits = 0; base = pos 0; width = 1; error = 1; blob_limit = 0; full_index = false; log_blocks = Some 3 }))
line = refl

half_line : command_of (codes "table t 8 i32 3 0 0 0 0 1 1 0 rlc") ≡ Err Form
half_line = refl

other_word : command_of (codes "table t 8 i32 3 0 0 0 0 1 1 0 log 3") ≡ Err Form
other_word = refl

no_number : command_of (codes "table t 8 i32 3 0 0 0 0 1 1 0 rlc x") ≡ Err Number
no_number = refl

-- the refusals of its blocks, after that of a device that is too large
abbrev lines : Lines
lines = record { device = Some (record { page = 128; block = 4 }); plans = [] }

abbrev table_line : ℕ → ℕ → TableLine
table_line var log = record { name = codes "t"; key = 8; columns = codes "i32"; data_blocks = 3; index_blocks = 0; var_blocks = var; bits = 0; base = pos 0; width = 1; error = 1; blob_limit = if var == 0 then 0 else 300; full_index = false; log_blocks = Some log }

too_few : configured lines (command.Table (table_line 0 2)) ≡ Err LogBlocks
too_few = refl

none_at_all : configured lines (command.Table (table_line 0 0)) ≡ Err LogBlocks
none_at_all = refl

with_blobs : configured lines (command.Table (table_line 4 3)) ≡ Err LogVar
with_blobs = refl

too_large : configured lines (command.Table (table_line 0 16385)) ≡ Err DeviceTooLarge
too_large = refl

-- a new table is at rest, so that the law on mounts speaks of it
new_rests : IsLoggedAtRest (fresh_table logged)
new_rests = record { counted = refl; greatest = tt; has_log = refl; logged = record { ascending = tt; whole = inl refl; safe = λ some. absurd (some refl) } }

-- the last number that isn't spent: the ninth put seals the page before it, and the mount leaves its record in the log
abbrev late : Machine
late = begins (record (fresh_table logged) {
  entries = record { kept = record { key = 0; values = pos 0 ∷ []; blob = None }; page = 0; offset = 0 } ∷ [];
  rows = record { counts = 1 ∷ []; next = 4294901759; torn = false; dirty = false };
} ∷ [])

spent_rows : drop 10 (flat_map (λ m. m.replies) (plain_run config late (command.Mount ∷ puts 1 9 ++ command.Off ∷ command.Mount ∷ scan ∷ put 10 ∷ [])))
    ≡ reply.Done ∷ reply.Done ∷ rows 0 9 ++ reply.EndCount 9 ∷ reply.RefusedSpent ∷ []
spent_rows = refl

still_owed : map (λ t. map (λ e. e.kept.key) (owed t)) (end_of late (plain_run config late (command.Mount ∷ puts 1 9 ++ command.Off ∷ command.Mount ∷ []))).tables ≡ (9 ∷ []) ∷ []
still_owed = refl
