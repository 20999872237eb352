-- A session that its caller holds: the room that it needs, and what it tells of a table beside its replies.
use Rattle.std.specs.Prelude.{◌≡◌, ℕ, true, false, Option, None, option_map, IsSomeAnd, Some, Result, Ok, Err, List}
use Rattle.fl_base.specs.declared.types.Geometry.{Geometry}
use Rattle.fl_model.specs.Record.{Config}
use Rattle.fl_model.specs.Table.{last_entry}
use Rattle.fl_words.specs.Config.{Lines}
use Rattle.fl_machine.specs.Machine.{Machine}
use Rattle.fl_machine.specs.Step.{Located, located}
use Rattle.fl_rlc.specs.Rings.{rings_of}
use Rattle.fl_rlc.specs.declared.rings.RingCounts.{RingCounts}
use Rattle.fl_script.specs.declared.reply.Reply.{Reply}
use Rattle.fl_script.specs.declared.reply.Reply.TheVariants.{NotMounted, NoTable}
use Rattle.fl_table.specs.Look.{counts_of}
use Rattle.fl_table.specs.declared.counts.TableCounts.{TableCounts}
use Rattle.fl_store.specs.Store.{IsLayoutOf}
use Rattle.fl_queries.specs.Room.{AreForgotten, HasRooms}
use Rattle.fl_session.specs.declared.opened.Rooms.{Rooms}

-- there is room for a session of the configuration that these lines make
pub record AreRoomsFor (rooms : Rooms) (lines : Lines) : Type 0 where
  pub layout : IsLayoutOf rooms.layout lines
  pub page : (g : Geometry) → lines.device ≡ Some g → HasRooms rooms.buf g.page
  pub forgotten : AreForgotten rooms.buf

-- This is told of the table with the name; or nothing is mounted, or no table has the name.
abbrev pub TellsTable : {A : Type 0} → Config → Machine → List ℕ → (Located → A → Type 0) → Result A Reply → Type 0
TellsTable config m name Tells (Ok told) = (m.mounted ≡ true) × IsSomeAnd (located config m name) (λ at. Tells at told)
TellsTable config m name Tells (Err NotMounted) = m.mounted ≡ false
TellsTable config m name Tells (Err NoTable) = (m.mounted ≡ true) × (located config m name ≡ None)
TellsTable config m name Tells (Err reply) = ⊥

-- the key of its last record
abbrev pub TellsLast : Located → Option ℕ → Type 0
TellsLast at key = key ≡ option_map (λ entry. entry.kept.key) (last_entry at.table)

-- how much it holds
abbrev pub TellsCounts : Located → TableCounts → Type 0
TellsCounts at counts = counts ≡ counts_of at.table

-- how many pages its rings keep
abbrev pub TellsRings : Located → RingCounts → Type 0
TellsRings at rings = rings ≡ rings_of at.table
