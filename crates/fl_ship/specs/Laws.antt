-- What ships do: between two images a ship is two steps of a shipment, the copy's mount and the ship; and over two tables it leaves
-- a part of all that the first one ever had, and reaches its end.
use Rattle.std.specs.Prelude.{◌≡◌, ◌⊎◌, ℕ, ◌<◌, None, Some, Result, Ok, List, [], slice_get}
use Rattle.std.specs.List.{last_or}
use Rattle.fl_image.specs.Header.{IsMade}
use Rattle.fl_machine.specs.Step.{located_from}
use Rattle.fl_model.specs.Record.{Record, Plan, Config}
use Rattle.fl_model.specs.Ship as model
use Rattle.fl_model.specs.Facts.{IsTable}
use Rattle.fl_model.specs.Ring.{IsShape}
use Rattle.fl_model.specs.Ship.{Ascends, CopyRests, HasLastOf, IsPart, Shipment, records_in}
use Rattle.fl_model.specs.Table.{Table, DataRing, lose, shape_of}
use Rattle.fl_words.specs.Medium.{IsImage}
use Rattle.fl_ship.specs.Ends.{Bytes, IsCopy, IsHalfMade, ShipEnds, ShipsSo, Told, shipped_records}
use Rattle.fl_ship.specs.Puts.{ShipsGiven}
use Rattle.fl_ship.specs.declared.fault.ShipFault.{ShipFault}
use Rattle.fl_ship.specs.declared.side.Side.TheVariants.{Copy}
use Rattle.fl_ship.specs.declared.status.ShipStatus.{ShipStatus}
use Rattle.fl_ship.specs.declared.status.ShipStatus.TheVariants.{Device}

-- what two tables have, and all that the first one ever had
abbrev pub shipment_of : List Record → List Record → List Record → Shipment
shipment_of ever source copy = record { ever = ever; source = source; copy = copy }

-- Both media stand for tables at the end, and those at the place were left by these steps.
pub record AreSteps (config : Config) (place : ℕ) (ever : List Record) (source copy : Table) (bytes : Bytes) : Type 0 where
  pub sources_now : List Table
  pub copies_now : List Table
  pub image : IsImage config bytes.source_now sources_now
  pub copy_image : IsCopy config bytes.copy_now copies_now
  pub source_now : Table
  pub copy_now : Table
  pub here : slice_get sources_now place ≡ Some source_now
  pub copy_here : slice_get copies_now place ≡ Some copy_now
  -- the copy's mount, which may take all that it has, and then what was shipped, or a mount of the source alone
  pub mounted : List Record
  pub rests : CopyRests (shipment_of ever (records_in source) (records_in copy)) (shipment_of ever (records_in source) mounted)
  pub ships : model.Ships (shipment_of ever (records_in source) mounted) (shipment_of ever (records_in source_now) (records_in copy_now))
      ⊎ CopyRests (shipment_of ever (records_in source) mounted) (shipment_of ever (records_in source_now) (records_in copy_now))

-- .. of the table with the name, however the ship ended, unless an empty copy was made in part
abbrev pub ShipsAreSteps : Type 0
ShipsAreSteps =
    (config : Config) (sources copies : List Table) (name : List ℕ) (count : ℕ) (told : Told) (bytes : Bytes) (status : ShipStatus) (place : ℕ) (plan : Plan) (source copy : Table) (ever : List Record) →
    IsMade config → IsImage config bytes.source sources → IsCopy config bytes.copy copies →
    located_from 0 config.plans sources name ≡ Some (record { place = place; plan = plan; table = source }) → slice_get copies place ≡ Some copy →
    ShipEnds config sources copies name count told bytes status → ((status ≡ Device Copy) × IsHalfMade config bytes told) ⊎ AreSteps config place ever source copy bytes

-- However a ship over two tables ends, it leaves a part of any list of which both were parts, also once nothing is in memory.
abbrev pub ShipsLeaveParts : Type 0
ShipsLeaveParts =
    (plan : Plan) (count : ℕ) (source copy after : Table) (result : Result ℕ ShipFault) (ever : List Record) →
    IsPart (records_in source) ever → IsPart (records_in copy) ever → Ascends ever → ShipsSo count result plan source copy after →
    IsPart (records_in after) ever × IsPart (records_in (lose after)) ever

-- One that ships fewer records than it may leaves the first table's last record as the copy's last.
abbrev pub ShipsReachTheEnd : Type 0
ShipsReachTheEnd =
    (plan : Plan) (count n : ℕ) (source copy after : Table) (ever : List Record) → IsTable plan copy → IsShape (shape_of plan DataRing) →
    IsPart (records_in source) ever → IsPart (records_in copy) ever → Ascends ever → (records_in copy ≡ []) ⊎ HasLastOf (records_in source) (records_in copy) →
    ShipsGiven plan (shipped_records count source copy) copy (Ok n) after → n < count → last_or None (records_in after) ≡ last_or None (records_in source)
