-- The work of a ship on the copy: its records are put in order, and then it is flushed.
use Rattle.std.specs.Prelude.{◌≡◌, Bool, List, [], ◌∷◌, MatchOption}
use Rattle.fl_model.specs.Record.{Record, Plan}
use Rattle.fl_model.specs.Table.{Table, refusal_of, table_seals, lose}
use Rattle.fl_model.specs.Work.{Device, Whole, PartProgress}
use Rattle.fl_model.specs.Within.{seals_within, TablePerforms}
use Rattle.fl_model.specs.Puts.{TablePuts, TablePutGoesOn}
use Rattle.fl_model.specs.Ship.{records_in, KeepsOf}

-- It goes on behind a put only where that was done. A record that is refused ends it, and then nothing is flushed.
abbrev pub TableShips : Plan → Bool → List Record → Device → Table → PartProgress Table → Type 0
TableShips plan rose [] device table now = TablePerforms plan rose (seals_within plan (table_seals plan table) table) device table now
TableShips plan rose (item ∷ items) device table now =
    MatchOption (refusal_of plan table item)
    ((mid : PartProgress Table) × TablePuts plan rose item device table mid × TablePutGoesOn mid.end mid now (TableShips plan rose items mid.device mid.state now))
    (λ refusal. now ≡ record { end = Whole; device = device; state = table })

-- However it ends, the copy keeps a front of what it had and was given, without its oldest records.
abbrev pub ShipKeeps : Type 0
ShipKeeps =
    (plan : Plan) (rose : Bool) (items : List Record) (device : Device) (table : Table) (now : PartProgress Table) →
    TableShips plan rose items device table now → KeepsOf (records_in table) items (records_in (lose now.state))
