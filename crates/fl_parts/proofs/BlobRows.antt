-- The blobs of written records begin on pages with numbers.
use Rattle.std.proofs.Common.{◌≡◌, ℕ, ◌+◌, ◌^◌, ◌<◌, ◌≤◌, cond, Option, Some, None, IfSome, List, length, arith}
use Rattle.std.specs.List.{slice_get}
use Rattle.fl_model.specs.Record.{Plan}
use Rattle.fl_model.specs.Ring.{Ring}
use Rattle.fl_model.specs.Table.{Table, Entry, written}
use Rattle.fl_parts.specs.Blobs.{AreLed}
use Rattle.fl_parts.proofs.BlobTables.{IsLed}

pub written-numbered : (plan : Plan) (table : Table) → IsLed plan table → (i : ℕ) (entry : Entry) (blob : List ℕ) → slice_get (written table) i ≡ Some entry → entry.kept.blob ≡ Some blob → 0 < length blob → IfSome table.var (λ ring. entry.page + 1 < 2 ^ 32)
written-numbered plan table h i entry blob e k some = by_ring table.var h.number h.led
  where
    by_ring : (o : Option Ring) → IfSome o (λ ring. ring.next + (cond ring.torn 1 0) ≤ 4294967295) → IfSome o (λ ring. AreLed plan ring (written table)) → IfSome o (λ ring. entry.page + 1 < 2 ^ 32)
    by_ring None number led = tt
    by_ring (Some ring) number led = let lt = (led i entry blob e k some).0 in omega (arith, lt, number)
