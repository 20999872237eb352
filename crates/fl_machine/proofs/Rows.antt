-- Worked scripts, computed on the plain machine.
use Rattle.std.proofs.Common.{◌≡◌, ℕ, zero, suc, ◌+◌, ◌-◌, ◌*◌, ◌/◌, true, false, pos, negsuc, Option, Some, None, List, [], ◌∷◌, ◌++◌, drop, map, replicate, refl, codes}
use Rattle.std.specs.List.{flat_map}
use Rattle.fl_base.specs.declared.types.CutKind.TheVariants.{Before, After, Half}
use Rattle.fl_model.specs.Record.{Plan, rows_per_page, entries_per_page, content_per_page, row_len, Config}
use Rattle.fl_words.specs.Command as command
use Rattle.fl_words.specs.Command.{Command}
use Rattle.fl_words.specs.Reply as reply
use Rattle.fl_words.specs.Reply.{Reply, NoRing, NoneKept, Length}
use Rattle.fl_machine.specs.Machine.{begins, fresh_tables}
use Rattle.fl_machine.specs.Plain.{plain_run}
use Rattle.fl_machine.specs.Run.{end_of}
use Rattle.fl_model.specs.Table.{Table, firsts}
use Rattle.fl_model.specs.Limits.{past, page_behind, scan_limit, numbers_of}
use Rattle.fl_model.specs.MountLimit.{mount_limit}
use Rattle.fl_machine.proofs.Examples.{c1, full}

abbrev pub config1 : Config
config1 = record { geometry = record { page = 128; block = 4 }; plans = c1 ∷ []; knots = 64 }

abbrev pub said : Config → List Command → List Reply
said config commands = flat_map (λ m. m.replies) (plain_run config (begins (fresh_tables config)) commands)

abbrev pub put : ℕ → Command
put key = command.Put (codes "t") key (pos 0 ∷ []) None

abbrev pub puts : ℕ → ℕ → List Command
puts first zero = []
puts first (suc n) = put first ∷ puts (first + 1) n

abbrev pub row : ℕ → Reply
row key = reply.Row key (pos 0 ∷ []) NoRing

abbrev pub rows : ℕ → ℕ → List Reply
rows first zero = []
rows first (suc n) = row first ∷ rows (first + 1) n

abbrev pub scan : Command
scan = command.Scan (codes "t") (record { low = 0; high = 100 }) None

-- put 1 -5 and no flush
row2 : said config1 (command.Mount ∷ command.Put (codes "t") 1 (negsuc 4 ∷ []) None ∷ scan ∷ []) ≡ reply.Done ∷ reply.Done ∷ reply.Row 1 (negsuc 4 ∷ []) NoRing ∷ reply.EndCount 1 ∷ []
row2 = refl

row3 : said config1 (put 5 ∷ command.Mount ∷ put 5 ∷ put 5 ∷ put 4 ∷ command.Put (codes "x") 6 (pos 1 ∷ []) None ∷ [])
    ≡ reply.NotMounted ∷ reply.Done ∷ reply.Done ∷ reply.RefusedKey 5 ∷ reply.RefusedKey 5 ∷ reply.NoTable ∷ []
row3 = refl

-- nine puts, the end of the session, and what is found
row5 : drop 10 (said config1 (command.Mount ∷ puts 1 9 ++ command.Off ∷ command.Mount ∷ scan ∷ [])) ≡ reply.Done ∷ reply.Done ∷ rows 1 8 ++ reply.EndCount 8 ∷ []
row5 = refl

row6 : drop 4 (said config1 (command.Mount ∷ puts 1 3 ++ command.Flush (codes "t") ∷ command.Stat (codes "t") ∷ command.Flush (codes "t") ∷ command.Stat (codes "t") ∷ command.Off ∷ command.Mount ∷ scan ∷ []))
    ≡ reply.Done ∷ reply.Stat 3 0 1 0 2 0 ∷ reply.Done ∷ reply.Stat 3 0 1 0 2 0 ∷ reply.Done ∷ reply.Done ∷ rows 1 3 ++ reply.EndCount 3 ∷ []
row6 = refl

-- a cut in the body, and in the mark
row7 : drop 5 (said config1 (command.Mount ∷ puts 1 3 ++ command.Cut 1 Half ∷ command.Flush (codes "t") ∷ command.Mount ∷ scan ∷ command.Stat (codes "t") ∷ []))
    ≡ reply.PowerLost ∷ reply.Done ∷ reply.EndCount 0 ∷ reply.Stat 0 0 1 1 2 0 ∷ []
row7 = refl

row7_mark : drop 5 (said config1 (command.Mount ∷ puts 1 3 ++ command.Cut 2 Half ∷ command.Flush (codes "t") ∷ command.Mount ∷ scan ∷ command.Stat (codes "t") ∷ []))
    ≡ reply.PowerLost ∷ reply.Done ∷ reply.EndCount 0 ∷ reply.Stat 0 0 1 1 3 0 ∷ []
row7_mark = refl

row8 : drop 5 (said config1 (command.Mount ∷ puts 1 3 ++ command.Cut 2 After ∷ command.Flush (codes "t") ∷ command.Mount ∷ scan ∷ command.Stat (codes "t") ∷ []))
    ≡ reply.PowerLost ∷ reply.Done ∷ rows 1 3 ++ reply.EndCount 3 ∷ reply.Stat 3 0 1 0 2 0 ∷ []
row8 = refl

-- the ring comes round
row9 : drop 98 (said config1 (command.Mount ∷ puts 1 97 ++ scan ∷ command.Stat (codes "t") ∷ []))
    ≡ rows 33 65 ++ reply.EndCount 65 ∷ reply.Stat 65 1 8 0 24 1 ∷ []
row9 = refl

-- the torn erase of the block ahead is done again at the mount
row10 : drop 90 (said config1 (command.Mount ∷ command.Cut 23 Before ∷ puts 1 89 ++ command.Mount ∷ scan ∷ command.Stat (codes "t") ∷ []))
    ≡ reply.PowerLost ∷ reply.Done ∷ rows 33 56 ++ reply.EndCount 56 ∷ reply.Stat 56 0 7 0 22 2 ∷ []
row10 = refl

-- blobs
abbrev pub c2 : Plan
c2 = record {
  geometry = record { page = 128; block = 4 };
  name = codes "s";
  key_bytes = 4;
  columns = record { width = 2; signed = true } ∷ [];
  data_blocks = 40;
  index_blocks = 3;
  var_blocks = 4;
  log_blocks = 0;
  bits = 64;
  base = pos 0;
  width = 100;
  error = 1;
  blob_limit = 300;
  full_index = false;
}

abbrev pub config2 : Config
config2 = record { geometry = record { page = 128; block = 4 }; plans = c2 ∷ []; knots = 64 }

sizes2 : (row_len c2 ≡ 16) × (rows_per_page c2 ≡ 6) × (entries_per_page c2 ≡ 13) × (content_per_page c2 ≡ 112)
sizes2 = (refl, refl, refl, refl)

abbrev pub put2 : ℕ → Option (List ℕ) → Command
put2 key blob = command.Put (codes "s") key (pos 0 ∷ []) blob

abbrev pub some300 : ℕ → Command
some300 key = put2 key (Some (replicate 300 key))

row16 : said config2 (command.Mount ∷ some300 1 ∷ put2 2 (Some []) ∷ put2 3 (Some (replicate 301 3)) ∷ put2 3 None
    ∷ command.Get (codes "s") 1 ∷ command.Get (codes "s") 2 ∷ command.Get (codes "s") 3
    ∷ command.Blob (codes "s") 1 ∷ command.Blob (codes "s") 2 ∷ command.Blob (codes "s") 3 ∷ command.Blob (codes "s") 9
    ∷ some300 4 ∷ some300 5 ∷ some300 6 ∷ some300 7 ∷ command.Blob (codes "s") 1 ∷ some300 8
    ∷ command.Blob (codes "s") 1 ∷ command.Blob (codes "s") 4 ∷ command.Blob (codes "s") 5 ∷ command.Get (codes "s") 1 ∷ command.Stat (codes "s") ∷ [])
    ≡ reply.Done ∷ reply.Done ∷ reply.Done ∷ reply.RefusedBlob 300 ∷ reply.Done
    ∷ reply.Row 1 (pos 0 ∷ []) (Length 300) ∷ reply.Row 2 (pos 0 ∷ []) (Length 0) ∷ reply.Row 3 (pos 0 ∷ []) NoneKept
    ∷ reply.Bytes (replicate 300 1) ∷ reply.BytesEmpty ∷ reply.NoBlob ∷ reply.Absent
    ∷ reply.Done ∷ reply.Done ∷ reply.Done ∷ reply.Done ∷ reply.Bytes (replicate 300 1) ∷ reply.Done
    ∷ reply.Gone ∷ reply.Gone ∷ reply.Bytes (replicate 300 5) ∷ reply.Row 1 (pos 0 ∷ []) (Length 300) ∷ reply.Stat 8 2 1 0 34 1 ∷ []
row16 = refl

-- a ring of void pages does not take its numbers again
abbrev pub c3 : Plan
c3 = record {
  geometry = record { page = 128; block = 2 };
  name = codes "u";
  key_bytes = 8;
  columns = record { width = 4; signed = true } ∷ [];
  data_blocks = 3;
  index_blocks = 0;
  var_blocks = 3;
  log_blocks = 0;
  bits = 0;
  base = pos 0;
  width = 1;
  error = 1;
  blob_limit = 224;
  full_index = false;
}

abbrev pub config3 : Config
config3 = record { geometry = record { page = 128; block = 2 }; plans = c3 ∷ []; knots = 64 }

abbrev pub put3 : ℕ → List ℕ → Command
put3 key blob = command.Put (codes "u") key (pos 0 ∷ []) (Some blob)

abbrev pub again : List Command
again = put3 5 (5 ∷ []) ∷ command.Cut 1 Half ∷ command.Flush (codes "u") ∷ command.Mount ∷ []

row17 : drop 6 (said config3 (command.Mount ∷ put3 1 (replicate 224 1) ∷ put3 2 (replicate 224 2) ∷ put3 3 (replicate 224 3) ∷ put3 4 (replicate 224 4) ∷ command.Flush (codes "u")
    ∷ again ++ again ++ again ++ command.Off ∷ command.Mount ∷ put3 5 (5 ∷ []) ∷ command.Flush (codes "u") ∷ put3 6 (6 ∷ []) ∷ command.Flush (codes "u")
    ∷ command.Blob (codes "u") 4 ∷ command.Blob (codes "u") 5 ∷ command.Blob (codes "u") 6 ∷ []))
    ≡ reply.Done ∷ reply.Done ∷ reply.PowerLost ∷ reply.Done ∷ reply.Done ∷ reply.Done ∷ reply.PowerLost ∷ reply.Done ∷ reply.Done ∷ reply.Done ∷ reply.PowerLost ∷ reply.Done
    ∷ reply.Done ∷ reply.Done ∷ reply.Done ∷ reply.Done ∷ reply.Done ∷ reply.Done ∷ reply.Gone ∷ reply.Bytes (5 ∷ []) ∷ reply.Bytes (6 ∷ []) ∷ []
row17 = refl

-- cursors between puts
row18 : drop 98 (said config1 (command.Mount ∷ puts 1 97 ++ command.Open 0 (codes "t") (record { low = 0; high = 1000 }) None ∷ command.Next 0 5
    ∷ puts 98 24 ++ command.Next 0 2 ∷ command.Next 0 100 ∷ command.Next 0 1 ∷ command.Close 0 ∷ command.Close 0 ∷ []))
    ≡ reply.Done ∷ rows 33 5 ++ reply.More ∷ replicate 24 reply.Done ++ rows 65 2 ++ reply.More ∷ rows 67 31 ++ reply.CursorEnd ∷ reply.CursorEnd ∷ reply.Done ∷ reply.NoCursor ∷ []
row18 = refl

-- full index entries: an index page holds six, and its entry for each page that was sealed before it
abbrev pub config_full : Config
config_full = record { geometry = record { page = 128; block = 4 }; plans = full ∷ []; knots = 64 }

abbrev pub put_full : ℕ → ℕ → Command
put_full key value = command.Put (codes "s") key (pos value ∷ []) None

-- so many records from a key on, whose value is ten times the number of the page in which they stand
abbrev pub full_puts : ℕ → ℕ → List Command
full_puts first zero = []
full_puts first (suc n) = put_full first (10 * ((first - 1) / 8)) ∷ full_puts (first + 1) n

abbrev pub full_rows : ℕ → ℕ → List Reply
full_rows first zero = []
full_rows first (suc n) = reply.Row first (pos 20 ∷ []) NoRing ∷ full_rows (first + 1) n

full_scan : drop 66 (said config_full (command.Mount ∷ full_puts 1 65 ++ command.Stat (codes "s") ∷ command.Scan (codes "s") (record { low = 17; high = 24 }) (Some (record { low = pos 20; high = pos 29 })) ∷ []))
    ≡ reply.Stat 65 1 8 0 18 0 ∷ full_rows 17 8 ++ reply.EndCount 8 ∷ []
full_scan = refl

-- the tables after commands
abbrev pub tables_after : Config → List Command → List Table
tables_after config commands = (end_of (begins (fresh_tables config)) (plain_run config (begins (fresh_tables config)) commands)).tables

-- the page behind the range is indexed, so that the scan reads it not
full_past : map {B = Option ℕ × ℕ} (λ (table : Table). (page_behind table 24, past full table (record { low = 17; high = 24 }) (Some (record { low = pos 20; high = pos 29 })))) (tables_after config_full (command.Mount ∷ full_puts 1 65))
    ≡ (Some 3, 0) ∷ []
full_past = refl

full_scan_limit : map (λ (table : Table). scan_limit 64 full table (record { low = 17; high = 24 }) (Some (record { low = pos 20; high = pos 29 })) 17) (tables_after config_full (command.Mount ∷ full_puts 1 65)) ≡ 7 ∷ []
full_scan_limit = refl

-- a mount after the flush: no more than this
abbrev flushed_full : List Command
flushed_full = command.Mount ∷ full_puts 1 65 ++ command.Flush (codes "s") ∷ command.Off ∷ []

full_mount : map (λ (table : Table). mount_limit full table) (tables_after config_full flushed_full) ≡ 66 ∷ []
full_mount = refl

-- a data ring of void pages alone gets numbers that no index page lists
abbrev pub small_full : Plan
small_full = record c1 { geometry = record { page = 128; block = 2 }; index_blocks = 3; full_index = true }

abbrev pub small_full_config : Config
small_full_config = record { geometry = record { page = 128; block = 2 }; plans = small_full ∷ []; knots = 64 }

abbrev pub put_each : ℕ → ℕ → List Command
put_each first zero = []
put_each first (suc n) = put first ∷ command.Flush (codes "t") ∷ put_each (first + 1) n

abbrev pub torn_again : ℕ → List Command
torn_again zero = []
torn_again (suc n) = put 8 ∷ command.Cut 1 Half ∷ command.Flush (codes "t") ∷ command.Mount ∷ torn_again n

abbrev pub all_void : List Command
all_void = command.Mount ∷ put_each 1 7 ++ torn_again 6

-- the index page lists data pages 0 to 5, and the void pages 10, 11 and 12 are kept
full_void : map {B = List ℕ × List ℕ} (λ (table : Table). (firsts table, numbers_of table)) (tables_after small_full_config all_void) ≡ (0 ∷ [], 10 ∷ 11 ∷ 12 ∷ []) ∷ []
full_void = refl

void_index : drop 39 (said small_full_config (all_void ++ put 8 ∷ command.Flush (codes "t") ∷ command.Off ∷ command.Mount ∷ scan ∷ command.Stat (codes "t") ∷ []))
    ≡ reply.Done ∷ reply.Done ∷ reply.Done ∷ reply.Done ∷ row 8 ∷ reply.EndCount 1 ∷ reply.Stat 1 0 4 3 30 5 ∷ []
void_index = refl
