-- A session, and the states of the machine for which it stands.
use Rattle.std.specs.Prelude.{◌≡◌, ℕ, ◌<◌, Bool, true, false, IsTrue, List, length, Some, slice_get, if◌then◌else◌}
use Rattle.fl_flash.specs.Flash.{FlashState}
use Rattle.fl_flash.specs.Media.{MediaState}
use Rattle.fl_frame.specs.Device.{SameDevice}
use Rattle.fl_model.specs.Record.{Config}
use Rattle.fl_model.specs.Table as model
use Rattle.fl_words.specs.Medium.{IsImage}
use Rattle.fl_machine.specs.Machine.{Machine, begins, no_cursors}
use Rattle.fl_store.specs.Store.{IsOnMedium}
use Rattle.fl_store.specs.Tables.{TablesStand, LieOn, AreRunning}
use Rattle.fl_store.specs.declared.tables.Entry.{Entry}
use Rattle.fl_queries.specs.Room.{HasRooms, AreForgotten}
use Rattle.fl_queries.specs.declared.buffers.Buffers.{Buffers}
use Rattle.fl_session.specs.Cost.{cost_of}
use Rattle.fl_session.specs.Notes.{cursors_of}
use Rattle.fl_session.specs.declared.notes.Notes.{Notes}
use Rattle.fl_session.specs.declared.notes.TableCursor.{TableCursor}

-- a session over tables; it notes the cost of the last get or scan and, while it is mounted, the cursors that are open
pub record SessionStands (config : Config) (entries : List Entry) (f : FlashState) (mounted : Bool) (notes : Notes) (m : Machine) : Type 0 where
  pub knots : config.knots ≡ 64
  pub medium : IsOnMedium config f
  pub tables : TablesStand f (λ i. mounted) config.plans entries m.tables
  pub is_mounted : m.mounted ≡ mounted
  pub cursors : m.cursors ≡ (if mounted then cursors_of notes.cursors else no_cursors)
  pub device : SameDevice f m.device
  pub cost_is : m.cost ≡ cost_of notes.cost
  pub power : IsTrue mounted → f.is_on ≡ true

-- what holds of a session always: a cursor that is open is over one of its tables
pub record IsSound (entries : List Entry) (f : FlashState) (buf : Buffers) (mounted : Bool) (notes : Notes) : Type 0 where
  pub lie : LieOn entries f
  pub room : HasRooms buf f.geometry.page
  pub running : mounted ≡ true → AreRunning entries
  -- one that is mounted has the power on: to lose it ends the session
  pub power : mounted ≡ true → f.is_on ≡ true
  -- a session that isn't mounted, because it ended or hasn't begun, keeps no page
  pub forgotten : mounted ≡ false → AreForgotten buf
  pub cursors : (i : ℕ) (c : TableCursor) → slice_get notes.cursors i ≡ Some (Some c) → c.table < length entries

-- a medium stands for a state between two runs; it is no empty one
abbrev pub RestsOn : Config → List ℕ → Machine → Type 0
RestsOn config content m = (tables : List model.Table) × IsImage config content tables × (m ≡ begins tables)

-- .. and tells its content
abbrev pub RestsTold : Config → MediaState → Machine → Type 0
RestsTold config media m = IsTrue media.tells × RestsOn config media.content m
