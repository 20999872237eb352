-- Records that are put into a table one after another, and the flush behind them.
use Rattle.std.specs.Prelude.{◌≡◌, ℕ, ◌≤◌, None, Some, Result, Ok, Err, List, [], ◌∷◌, length, take, slice_get}
use Rattle.fl_flash.specs.declared.flash.FlashFault.TheVariants as flash
use Rattle.fl_store.specs.Works.{FailsInPut, FailsInFlush}
use Rattle.fl_model.specs.Record.{Record, Plan}
use Rattle.fl_model.specs.Ship.{KeepsOf, records_in}
use Rattle.fl_model.specs.Table as model
use Rattle.fl_model.specs.Table.{Table, refusal_of, put_record, flushed, lose}
use Rattle.fl_table.specs.declared.faults.FlushFault.TheVariants as flush
use Rattle.fl_table.specs.declared.faults.PutRefusal.TheVariants as put
use Rattle.fl_ship.specs.declared.fault.ShipFault.{ShipFault}
use Rattle.fl_ship.specs.declared.fault.ShipFault.TheVariants.{Read, Put, Flush}

-- the table after all of these are put, in order
abbrev pub put_all : Plan → List Record → Table → Table
put_all plan [] table = table
put_all plan (item ∷ items) table = put_all plan items (put_record plan item table)

-- none of them is refused
abbrev pub AreAccepted : Plan → List Record → Table → Type 0
AreAccepted plan [] table = Unit {0}
AreAccepted plan (item ∷ items) table = (refusal_of plan table item ≡ None) × AreAccepted plan items (put_record plan item table)

-- the first n of these records were put
pub record HasPut (plan : Plan) (given : List Record) (n : ℕ) (table after : Table) : Type 0 where
  pub few : n ≤ length given
  pub accepted : AreAccepted plan (take n given) table
  pub after_is : after ≡ put_all plan (take n given) table

-- .. and then there is this one
pub record ComesTo (plan : Plan) (given : List Record) (table : Table) (item : Record) (after : Table) : Type 0 where
  pub n : ℕ
  pub next : slice_get given n ≡ Some item
  pub has_put : HasPut plan given n table after

-- What a ship of these records leaves of the table, by its end: all of them are put and it is flushed; or a read failed before
-- one of them or behind the last, and those before are put; or one is refused since no page number is left, and nothing is
-- flushed; or an operation failed in a put or in the flush. No power is lost, since no cut is armed.
abbrev pub ShipsGiven : Plan → List Record → Table → Result ℕ ShipFault → Table → Type 0
ShipsGiven plan given table (Ok n) after = (n ≡ length given) × ((all : Table) × HasPut plan given n table all × (after ≡ flushed plan all))
ShipsGiven plan given table (Err (Read fault)) after = (n : ℕ) × HasPut plan given n table after
ShipsGiven plan given table (Err (Put put.Spent)) after = (item : Record) × ComesTo plan given table item after × (refusal_of plan after item ≡ Some model.Spent)
ShipsGiven plan given table (Err (Put (put.Flash flash.PowerLost))) after = ⊥
ShipsGiven plan given table (Err (Put (put.Flash flash.Media))) after =
    (item : Record) × ((before : Table) × ComesTo plan given table item before × (refusal_of plan before item ≡ None) × FailsInPut plan item before after)
ShipsGiven plan given table (Err (Put (put.Key last))) after = ⊥
ShipsGiven plan given table (Err (Put (put.Columns wanted))) after = ⊥
ShipsGiven plan given table (Err (Put (put.Value column))) after = ⊥
ShipsGiven plan given table (Err (Put (put.Blob limit))) after = ⊥
ShipsGiven plan given table (Err (Put put.Stopped)) after = ⊥
ShipsGiven plan given table (Err (Flush (flush.Flash flash.PowerLost))) after = ⊥
ShipsGiven plan given table (Err (Flush (flush.Flash flash.Media))) after = (all : Table) × HasPut plan given (length given) table all × FailsInFlush plan all after
ShipsGiven plan given table (Err (Flush flush.Stopped)) after = ⊥

-- However a ship ends, its table keeps a front of what it had and was given, without its oldest records, also once nothing is in
-- memory.
abbrev pub ShipsKeep : Type 0
ShipsKeep =
    (plan : Plan) (given : List Record) (table : Table) (result : Result ℕ ShipFault) (after : Table) → ShipsGiven plan given table result after →
    KeepsOf (records_in table) given (records_in after) × KeepsOf (records_in table) given (records_in (lose after))
