-- The greatest numbers of reads of the parts of a mount, where index entries are full and the flash stands for a table.
use Rattle.std.specs.Prelude.{◌≡◌, ℕ, ◌+◌, ◌≤◌, true, not, Option, Some, None, count_by}
use Rattle.fl_flash.specs.Flash.{FlashState}
use Rattle.fl_index.specs.Memory.{IsPlanned}
use Rattle.fl_index.specs.Standing as standing
use Rattle.fl_index.specs.declared.index.BitmapIndex.{BitmapIndex}
use Rattle.fl_model.specs.Limits.{is_listed, numbers_of}
use Rattle.fl_model.specs.MountLimit.{ring_mount_limit, part_mount_limit, kept_in}
use Rattle.fl_model.specs.Record.{Plan}
use Rattle.fl_model.specs.Table.{Table, DataRing, IndexRing, VarRing, shape_of}
use Rattle.fl_parts.specs.BlobMount.{Rests}
use Rattle.fl_var.specs.declared.var_data.VarData.{VarData}

-- the part of the index: its ring alone is mounted
abbrev pub IsIndexLimited : Option BitmapIndex → FlashState → ℕ → Plan → Table → FlashState → Type 0
IsIndexLimited None old first plan table new = new.work.reads ≤ old.work.reads
IsIndexLimited (Some index) old first plan table new =
    IsPlanned index first plan → standing.Rests old first plan table → plan.full_index ≡ true →
    new.work.reads ≤ old.work.reads + part_mount_limit (shape_of plan IndexRing) table.index

-- .. of the variable data
abbrev pub IsVarLimited : Option VarData → FlashState → ℕ → Plan → Table → FlashState → Type 0
IsVarLimited None old first plan table new = new.work.reads ≤ old.work.reads
IsVarLimited (Some var) old first plan table new =
    Rests var old first plan table → new.work.reads ≤ old.work.reads + part_mount_limit (shape_of plan VarRing) table.var

-- .. and of the data ring, from the table before the mount of it and after its repairs: the kept index pages are read then, the
-- kept data pages that none of them lists, and the newest with rows
abbrev pub rows_mount_limit : Plan → Table → Table → ℕ
rows_mount_limit plan before after =
    ring_mount_limit (shape_of plan DataRing) before.rows + kept_in after.index + count_by (λ number. not (is_listed plan after number)) (numbers_of after) + 1
