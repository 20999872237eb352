-- Worked scripts over a table with full index entries and a log, computed on the plain machine; its line, its header and its refusals.
use Rattle.std.proofs.Common.{◌≡◌, ℕ, zero, suc, true, false, ◌==◌, pos, Some, None, Result, Ok, Err, List, [], ◌∷◌, ◌++◌, length, drop, map, replicate, refl, codes, if◌then◌else◌}
use Rattle.std.specs.List.{flat_map}
use Rattle.std.specs.Fmt.{digits}
use Rattle.fl_base.specs.declared.types.CutKind.TheVariants.{Half}
use Rattle.fl_model.specs.Record.{Plan, Config}
use Rattle.fl_model.specs.Table.{Table, firsts, fresh_table, owed}
use Rattle.fl_model.specs.Index.{index_entry}
use Rattle.fl_model.specs.Limits.{numbers_of}
use Rattle.fl_model.specs.MountLimit.{mount_limit}
use Rattle.fl_words.specs.Command as command
use Rattle.fl_words.specs.Command.{Command, TableLine}
use Rattle.fl_words.specs.Grammar.{command_of, Form, Number}
use Rattle.fl_words.specs.Config.{Lines, configured, ConfigFault, Format, LogBlocks, LogVar, DeviceTooLarge}
use Rattle.fl_words.specs.Medium.{table_text}
use Rattle.fl_words.specs.Reply as reply
use Rattle.fl_words.specs.Reply.{Reply}
use Rattle.fl_machine.specs.Machine.{Machine, begins}
use Rattle.fl_machine.specs.Plain.{plain_run}
use Rattle.fl_machine.proofs.Examples.{c1}
use Rattle.fl_machine.proofs.Rows.{said, put, puts, row, rows, scan, put_each, tables_after}

-- an index page lists six data pages; the data ring keeps more of them
abbrev both : Plan
both = record c1 { geometry = record { page = 128; block = 2 }; data_blocks = 6; index_blocks = 3; full_index = true; log_blocks = 3 }

abbrev config : Config
config = record { geometry = record { page = 128; block = 2 }; plans = both ∷ []; knots = 64 }

abbrev stat : Command
stat = command.Stat (codes "t")

-- six data pages whose entries wait, and two records that the log has alone
abbrev six_and_two : List Command
six_and_two = command.Mount ∷ put_each 1 6 ++ puts 7 2 ++ stat ∷ command.Off ∷ []

-- the mount seals the full list of entries into the index, and then the two records
both_sealed : drop 15 (said config (six_and_two ++ command.Mount ∷ stat ∷ scan ∷ []))
    ≡ reply.Stat 8 2 6 0 28 2 ∷ reply.Done ∷ reply.Done ∷ reply.Stat 8 0 7 0 32 2 ∷ rows 1 8 ++ reply.EndCount 8 ∷ []
both_sealed = refl

abbrev Shown : Type 0
Shown = List ℕ × ℕ × List ℕ

-- the first data pages of the index pages, the entries that wait, and the data pages
abbrev shown : List Command → List Shown
shown commands = map {B = Shown} (λ (table : Table). (firsts table, length table.waiting, numbers_of table)) (tables_after config commands)

both_listed : shown (six_and_two ++ command.Mount ∷ []) ≡ (0 ∷ [], 1, 0 ∷ 1 ∷ 2 ∷ 3 ∷ 4 ∷ 5 ∷ 6 ∷ []) ∷ []
both_listed = refl

-- a mount reads at most: each ring's search, the six data pages that no index page lists, or after the replay the index page and
-- one data page, and the newest pages of the data ring and of the log
both_mount : map (λ (table : Table). mount_limit both table) (tables_after config six_and_two) ≡ 35 ∷ []
both_mount = refl

both_mount_again : map (λ (table : Table). mount_limit both table) (tables_after config (six_and_two ++ command.Mount ∷ command.Off ∷ [])) ≡ 31 ∷ []
both_mount_again = refl

-- the seal of the index page is cut, and after it that of the data page: no entry is lost, and none is listed twice
both_cut : drop 16 (said config (six_and_two ++ command.Cut 1 Half ∷ command.Mount ∷ command.Cut 4 Half ∷ command.Mount ∷ command.Mount ∷ scan ∷ stat ∷ []))
    ≡ reply.Done ∷ reply.Done ∷ reply.PowerLost ∷ reply.Done ∷ reply.PowerLost ∷ reply.Done ∷ rows 1 8 ++ reply.EndCount 8 ∷ reply.Stat 8 0 8 1 36 2 ∷ []
both_cut = refl

cut_listed : shown (six_and_two ++ command.Cut 1 Half ∷ command.Mount ∷ command.Cut 4 Half ∷ command.Mount ∷ command.Mount ∷ [])
    ≡ (0 ∷ [], 2, 0 ∷ 1 ∷ 2 ∷ 3 ∷ 4 ∷ 5 ∷ 6 ∷ 7 ∷ []) ∷ []
cut_listed = refl

-- the data page of each replay is cut: void pages wait for the index too, and it lists them
abbrev again : ℕ → List Command
again zero = []
again (suc n) = command.Cut 2 Half ∷ command.Mount ∷ again n

abbrev cut_often : List Command
cut_often = command.Mount ∷ put 1 ∷ command.Flush (codes "t") ∷ put 2 ∷ command.Off ∷ command.Cut 1 Half ∷ command.Mount ∷ again 4 ++ command.Cut 4 Half ∷ command.Mount ∷ command.Mount ∷ []

voids_sealed : drop 18 (said config (cut_often ++ scan ∷ stat ∷ []))
    ≡ rows 1 2 ++ reply.EndCount 2 ∷ reply.Stat 2 0 8 6 22 0 ∷ []
voids_sealed = refl

voids_listed : shown cut_often ≡ (0 ∷ [], 2, 0 ∷ 1 ∷ 2 ∷ 3 ∷ 4 ∷ 5 ∷ 6 ∷ 7 ∷ []) ∷ []
voids_listed = refl

-- the data ring comes round in void pages alone, while an index page lists records that were given up: the void pages get other
-- numbers than those, and the log still has its record
abbrev narrow : Config
narrow = record { geometry = record { page = 128; block = 2 }; plans = record both { data_blocks = 3 } ∷ []; knots = 64 }

-- .. where the block ahead is erased at each second mount
abbrev again_each : ℕ → List Command
again_each zero = []
again_each (suc n) = command.Cut 2 Half ∷ command.Mount ∷ command.Cut 3 Half ∷ command.Mount ∷ again_each n

abbrev comes_round : List Command
comes_round = command.Mount ∷ put_each 1 7 ++ put 8 ∷ command.Off ∷ command.Cut 1 Half ∷ command.Mount ∷ again_each 3

round_void : map {B = List ℕ × List ℕ × List ℕ} (λ (table : Table). (firsts table, numbers_of table, map (λ e. e.kept.key) (owed table))) (tables_after narrow comes_round)
    ≡ (0 ∷ [], 10 ∷ 11 ∷ 12 ∷ [], 8 ∷ []) ∷ []
round_void = refl

round_found : drop 31 (said narrow (comes_round ++ command.Mount ∷ scan ∷ stat ∷ []))
    ≡ reply.Done ∷ row 8 ∷ reply.EndCount 1 ∷ reply.Stat 1 0 3 2 48 8 ∷ []
round_found = refl

-- where the index's numbers are spent, the record stays in the log, and no put is accepted
abbrev late : Machine
late = begins (record (fresh_table both) {
  entries = record { kept = record { key = 0; values = pos 0 ∷ []; blob = None }; page = 0; offset = 0 } ∷ [];
  rows = record { counts = 1 ∷ []; next = 7; torn = false; dirty = false };
  index = Some (record { counts = 6 ∷ []; next = 4294901760; torn = false; dirty = false });
  index_pages = record { first = 1; entries = replicate 6 (index_entry both []) } ∷ [];
  log = Some (record { counts = 1 ∷ []; next = 1; torn = false; dirty = false });
  logged = record { kept = record { key = 1; values = pos 0 ∷ []; blob = None }; page = 0; offset = 0 } ∷ [];
} ∷ [])

index_spent : flat_map (λ m. m.replies) (plain_run config late (command.Mount ∷ scan ∷ put 2 ∷ []))
    ≡ reply.Done ∷ row 0 ∷ reply.EndCount 1 ∷ reply.RefusedSpent ∷ []
index_spent = refl

-- the line and its header
line : command_of (codes "table t 8 i32 6 3 0 8 0 10 1 0 index2 rlc 3")
    ≡ Ok (command.Table (record { name = codes "t"; key = 8; columns = codes "i32"; data_blocks = 6; index_blocks = 3; var_blocks = 0; bits = 8; base = pos 0; width = 10; error = 1; blob_limit = 0; full_index = true; log_blocks = Some 3 }))
line = refl

text : table_text both ≡ codes "table t 8 i32 6 3 0 8 0 10 1 0 index2 rlc 3\n"
unfolding digits
text = refl

other_order : command_of (codes "table t 8 i32 6 3 0 8 0 10 1 0 rlc 3 index2") ≡ Err Form
other_order = refl

one_more : command_of (codes "table t 8 i32 6 3 0 8 0 10 1 0 index2 rlc 3 3") ≡ Err Form
one_more = refl

half_line : command_of (codes "table t 8 i32 6 3 0 8 0 10 1 0 index2 rlc") ≡ Err Form
half_line = refl

no_number : command_of (codes "table t 8 i32 6 3 0 8 0 10 1 0 index2 rlc x") ≡ Err Number
no_number = refl

-- the refusals of both words come last: the size of the device, an index, the blocks of the log, no variable data
abbrev table_line : ℕ → ℕ → ℕ → TableLine
table_line index var log = record { name = codes "t"; key = 8; columns = codes "i32"; data_blocks = 6; index_blocks = index; var_blocks = var; bits = 8; base = pos 0; width = 10; error = 1; blob_limit = if var == 0 then 0 else 100; full_index = true; log_blocks = Some log }

abbrev refused : ℕ → ℕ → ℕ → Result Lines ConfigFault
refused index var log = configured (record { device = Some (record { page = 128; block = 2 }); plans = [] }) (command.Table (table_line index var log))

too_large : refused 0 3 18446744073709551615 ≡ Err DeviceTooLarge
too_large = refl

no_index : refused 0 3 2 ≡ Err Format
no_index = refl

short_log : refused 3 3 2 ≡ Err LogBlocks
short_log = refl

long_log : refused 3 3 16385 ≡ Err LogBlocks
long_log = refl

with_blobs : refused 3 3 3 ≡ Err LogVar
with_blobs = refl

accepted : refused 3 0 3 ≡ Ok (record { device = Some (record { page = 128; block = 2 }); plans = both ∷ [] })
accepted = refl
