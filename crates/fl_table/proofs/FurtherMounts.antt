-- The pages of a table that was mounted are those of one that a further mount may be given.
use Rattle.std.proofs.Common.{◌≡◌, ℕ, [], subst}
use Rattle.fl_flash.specs.Flash.{FlashState}
use Rattle.fl_model.specs.Mount.{ready}
use Rattle.fl_model.specs.Record.{Plan}
use Rattle.fl_model.specs.Table.{Table, lose}
use Rattle.fl_parts.specs.Mountable.{BlobsBefore, IsPaged, RowsBehind}
use Rattle.fl_parts.specs.Pages.{RestsToMount}
use Rattle.fl_parts.proofs.Loose.{paged-as}
use Rattle.fl_parts.proofs.TablePages.{lost-twice}
use Rattle.fl_table.specs.Laws.{MountsMayFollow}
use Rattle.fl_table.specs.Standing.{StandsAsTold}
use Rattle.fl_table.specs.declared.table.Table as code

-- a table that was only started, without what it has in memory
lost-paged : (plan : Plan) (table : Table) → table ≡ ready plan (lose table) → IsPaged plan table → IsPaged plan (lose table)
lost-paged plan table started h = paged-as plan (ready plan (lose table)) [] [] (subst (IsPaged plan) started h)

loaded-rests : (KNOTS SLOTS : ℕ) (t : code.Table KNOTS SLOTS) (f : FlashState) (first : ℕ) (plan : Plan) (table : Table) → StandsAsTold t f first plan table → RowsBehind plan (lose table) → BlobsBefore (lose table) → RestsToMount f first plan (lose table)
loaded-rests KNOTS SLOTS t f first plan table h behind before = record {
  mountable = record { lost = lost-twice table; paged = lost-paged plan table h.started h.paged; behind = behind; before = before };
  pages = h.pages;
}

pub mounts-follow : MountsMayFollow
mounts-follow = record {
  loaded = loaded-rests;
  failed = λ first plan rings table rose device fault f left behind before. record {
    mountable = record { lost = left.lost; paged = left.paged; behind = behind; before = before };
    pages = left.pages;
  };
}
