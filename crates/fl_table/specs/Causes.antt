-- Why a put and a flush of a table fail, over any bytes.
use Rattle.std.specs.Prelude.{ℕ, ◌≡◌, Bool, true, false, Result, Err}
use Rattle.fl_flash.specs.Flash.{FlashState}
use Rattle.fl_frame.specs.Causes.{CausedBy}
use Rattle.fl_table.specs.declared.table.Table.{Table}
use Rattle.fl_table.specs.declared.faults.PutRefusal.{PutRefusal}
use Rattle.fl_table.specs.declared.faults.PutRefusal.TheVariants as put
use Rattle.fl_table.specs.declared.faults.FlushFault.{FlushFault}
use Rattle.fl_table.specs.declared.faults.FlushFault.TheVariants as flush

abbrev pub PutCausedBy : FlashState → PutRefusal → FlashState → Type 0
PutCausedBy old (put.Flash fault) new = CausedBy old fault new
PutCausedBy old _ new = new ≡ old

abbrev pub FlushCausedBy : FlashState → FlushFault → FlashState → Type 0
FlushCausedBy old (flush.Flash fault) new = CausedBy old fault new
FlushCausedBy old flush.Stopped new = new ≡ old

-- a refusal that isn't a fault of the flash leaves the table and the flash as they are
abbrev pub RefusedSame : {KNOTS SLOTS : ℕ} → Table KNOTS SLOTS → FlashState → PutRefusal → Table KNOTS SLOTS → FlashState → Type 0
RefusedSame old f (put.Flash fault) new g = Unit {0}
RefusedSame old f _ new g = (new ≡ old) × (g ≡ f)

-- whether an operation failed in it
abbrev pub put_breaks : Result (Unit {0}) PutRefusal → Bool
put_breaks (Err (put.Flash fault)) = true
put_breaks _ = false

abbrev pub flush_breaks : Result (Unit {0}) FlushFault → Bool
flush_breaks (Err (flush.Flash fault)) = true
flush_breaks _ = false
