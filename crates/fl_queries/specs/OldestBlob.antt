-- The oldest record of a table whose blob isn't gone.
use Rattle.std.specs.Prelude.{◌≡◌, ℕ, Bool, true, false, ◌||◌, nat_le, ◌==◌, Option, Some, None, option_map, Result, Ok, Err, List, find}
use Rattle.fl_base.specs.Causes.{Rose}
use Rattle.fl_base.specs.declared.types.BlobRef.{BlobRef}
use Rattle.fl_model.specs.Query.{BlobState, Without, Lost, Stands, blob_of}
use Rattle.fl_model.specs.Row.{Row}
use Rattle.fl_model.specs.Table.{Table}
use Rattle.fl_page.specs.declared.fault.ReadFault.{ReadFault}
use Rattle.fl_page.specs.declared.fault.ReadFault.TheVariants.{Flash, BadPage}
use Rattle.fl_script.specs.declared.reply.Reply.{Reply}
use Rattle.fl_script.specs.declared.reply.Reply.TheVariants.{ReadFault as Unread}

-- a blob isn't gone
abbrev pub is_left : BlobState → Bool
is_left Without = false
is_left Lost = false
is_left (Stands bytes) = true

-- the key of the first record whose blob isn't gone
abbrev pub oldest_blob : Table → Option ℕ
oldest_blob table = option_map (λ entry. entry.kept.key) (find (λ entry. is_left (blob_of table entry)) table.entries)

-- The blob that a row names isn't gone, where the oldest kept page of variable data has this number. One without a byte never is.
abbrev pub is_kept : ℕ → Option BlobRef → Bool
is_kept oldest None = false
is_kept oldest (Some at) = at.length == 0 || nat_le oldest at.page

-- the key of the first of these rows whose blob isn't gone
abbrev pub first_kept : ℕ → List Row → Option ℕ
first_kept oldest rows = option_map (λ row. row.key) (find (λ row. is_kept oldest row.blob) rows)

-- it is found, or a read fails; no page is bad
abbrev pub FindsAmong : Option ℕ → Result (Option ℕ) ReadFault → Type 0
FindsAmong key (Ok found) = found ≡ key
FindsAmong key (Err (Flash fault)) = Unit {0}
FindsAmong key (Err (BadPage bad)) = ⊥

-- .. and then the medium's count of faults rose
abbrev pub FindsOldest : Table → ℕ → ℕ → Result (Option ℕ) Reply → Type 0
FindsOldest table faults faults_now (Ok key) = key ≡ oldest_blob table
FindsOldest table faults faults_now (Err Unread) = Rose faults faults_now
FindsOldest table faults faults_now (Err reply) = ⊥
