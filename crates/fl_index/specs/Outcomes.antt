-- How the calls of an index end, over a flash that stands for the index of a table of the model.
use Rattle.std.specs.Prelude.{◌≡◌, ◌⊎◌, ℕ, ◌+◌, Bool, true, false, ◌==◌, Option, Some, None, option_map, Result, Ok, Err, List, [], ◌∷◌, length, if◌then◌else◌}
use Rattle.std.specs.List.{last_or}
use Rattle.fl_flash.specs.Flash.{FlashState, page_at}
use Rattle.fl_flash.specs.declared.flash.FlashFault.{FlashFault}
use Rattle.fl_flash.specs.declared.flash.FlashFault.TheVariants.{PowerLost, Media}
use Rattle.fl_model.specs.Record.{Plan, entries_per_page}
use Rattle.fl_model.specs.Ring.{Ring}
use Rattle.fl_model.specs.Table.{Table, RingName, IndexRing, firsts, after_seal, after_seals, lose}
use Rattle.fl_model.specs.Mount.{renumber}
use Rattle.fl_model.specs.Work.{Kind, Device, PartEnd, Whole, CutIn, FailedIn, PartProgress}
use Rattle.fl_model.specs.Within.{TablePerforms, TableUnreads, repair_within, seal_within, seals_within}
use Rattle.fl_frame.specs.Device.{SameDevice}
use Rattle.fl_ring.specs.Kept.{PagesStand}
use Rattle.fl_ring.specs.declared.fault.RingFault.{RingFault}
use Rattle.fl_ring.specs.declared.fault.RingFault.TheVariants.{Flash, BadHead, BadGap, BadPage, NoNumber}
use Rattle.fl_index.specs.declared.index.BitmapIndex.{BitmapIndex}
use Rattle.fl_index.specs.Memory.{oldest_in, waiting_in}
use Rattle.fl_index.specs.Standing.{Rests, RemembersAll, RemembersBelow, StandsWith, Stands, bytes_in}

-- an index page is sealed where as many bitmaps wait as it holds
abbrev pub index_seals : Plan → Table → List RingName
index_seals plan table = if length table.waiting == entries_per_page plan then IndexRing ∷ [] else []

-- The operations of a call were all done, and it left this table's index. The index pages that are kept have the bytes
-- that they had.
pub record Finishes (first : ℕ) (plan : Plan) (operations : List (RingName × Kind)) (table after : Table) (rose : Bool) (device : Device) (index : BitmapIndex) (old new : FlashState) : Type 0 where
  pub now : PartProgress Table
  pub did : TablePerforms plan rose operations device table now
  pub whole : now.end ≡ Whole
  pub counts : SameDevice new now.device
  pub power : new.is_on ≡ true
  pub stands : Stands index new first plan after
  pub stand : (before now_ring : Ring) → table.index ≡ Some before → after.index ≡ Some now_ring → PagesStand before (bytes_in (page_at old) first plan) now_ring (bytes_in (page_at new) first plan)

-- the fault that an operation answers where it fails so
abbrev pub FaultEnds : PartEnd Table → FlashFault → FlashState → Type 0
FaultEnds Whole fault new = ⊥
FaultEnds (CutIn before) fault new = (fault ≡ PowerLost) × (new.is_on ≡ false)
FaultEnds (FailedIn before) fault new = (fault ≡ Media) × (new.is_on ≡ true)

-- One of the operations failed, and the flash stands for what is left without what was in memory.
pub record Breaks (first : ℕ) (plan : Plan) (operations : List (RingName × Kind)) (table : Table) (rose : Bool) (device : Device) (fault : FlashFault) (new : FlashState) : Type 0 where
  pub now : PartProgress Table
  pub did : TablePerforms plan rose operations device table now
  pub answer : FaultEnds now.end fault new
  pub counts : SameDevice new now.device
  pub rests : Rests new first plan (lose now.state)

-- the seal of an index page
abbrev pub SealEnds : ℕ → Plan → Table → Bool → Device → Result (Unit {0}) FlashFault → BitmapIndex → FlashState → FlashState → Type 0
SealEnds first plan table rose device (Ok done) index old new =
    Finishes first plan (seal_within plan IndexRing table) table (after_seal plan IndexRing table) rose device index old new
SealEnds first plan table rose device (Err fault) index old new = Breaks first plan (seal_within plan IndexRing table) table rose device fault new

-- the seal of a full list of bitmaps
abbrev pub MakesRoom : ℕ → Plan → Table → Bool → Device → Result (Unit {0}) FlashFault → BitmapIndex → FlashState → FlashState → Type 0
MakesRoom first plan table rose device (Ok done) index old new =
    Finishes first plan (seals_within plan (index_seals plan table) table) table (after_seals plan (index_seals plan table) table) rose device index old new
MakesRoom first plan table rose device (Err fault) index old new = Breaks first plan (seals_within plan (index_seals plan table) table) table rose device fault new

-- the number after those that the index lists, where it lists any
abbrev pub end_of : Plan → Table → Option ℕ
end_of plan table = option_map (λ page. page + entries_per_page plan) (last_or None (firsts table))

-- A mount that ended well, or its first part: the ring is that of the table's index, of whose pages this much is remembered, and no
-- entry waits.
pub record EndsWell (Remembers : BitmapIndex → Plan → Table → Ring → Type 0) (first : ℕ) (plan : Plan) (table : Table) (rose : Bool) (device : Device) (end : Option ℕ) (index : BitmapIndex) (new : FlashState) : Type 0 where
  pub now : PartProgress Table
  pub did : TablePerforms plan rose (repair_within plan IndexRing (renumber plan IndexRing table)) device (renumber plan IndexRing table) now
  pub whole : now.end ≡ Whole
  pub counts : SameDevice new now.device
  pub power : new.is_on ≡ true
  pub stands : StandsWith Remembers index new first plan now.state
  pub idle : waiting_in index ≡ 0
  pub idle_now : now.state.waiting ≡ []
  pub answer : end ≡ end_of plan now.state

abbrev pub MountsWell : ℕ → Plan → Table → Bool → Device → Option ℕ → BitmapIndex → FlashState → Type 0
MountsWell first plan table rose device end index new = EndsWell RemembersAll first plan table rose device end index new

-- It failed in an operation of a repair, or in a read: what was repaired until then stays.
pub record MountsBadly (first : ℕ) (plan : Plan) (table : Table) (rose : Bool) (device : Device) (fault : FlashFault) (new : FlashState) : Type 0 where
  pub now : PartProgress Table
  pub did : (TablePerforms plan rose (repair_within plan IndexRing (renumber plan IndexRing table)) device (renumber plan IndexRing table) now × FaultEnds now.end fault new)
      ⊎ (TableUnreads plan rose (repair_within plan IndexRing (renumber plan IndexRing table)) device (renumber plan IndexRing table) now × (fault ≡ Media))
  pub counts : SameDevice new now.device
  pub rests : Rests new first plan now.state

-- how a mount ends, or its first part
abbrev pub EndsAs : (BitmapIndex → Plan → Table → Ring → Type 0) → ℕ → Plan → Table → Bool → Device → Result (Option ℕ) RingFault → BitmapIndex → FlashState → Type 0
EndsAs Remembers first plan table rose device (Ok end) index new = EndsWell Remembers first plan table rose device end index new
EndsAs Remembers first plan table rose device (Err (Flash fault)) index new = MountsBadly first plan table rose device fault new
EndsAs Remembers first plan table rose device (Err (BadHead heads)) index new = ⊥
EndsAs Remembers first plan table rose device (Err (BadGap page)) index new = ⊥
EndsAs Remembers first plan table rose device (Err (BadPage page wanted found)) index new = ⊥
EndsAs Remembers first plan table rose device (Err (NoNumber at_least)) index new = ⊥

abbrev pub MountEnds : ℕ → Plan → Table → Bool → Device → Result (Option ℕ) RingFault → BitmapIndex → FlashState → Type 0
MountEnds first plan table rose device result index new = EndsAs RemembersAll first plan table rose device result index new

-- .. after the first part the first data page of no index page is known
abbrev pub FindEnds : ℕ → Plan → Table → Bool → Device → Result (Option ℕ) RingFault → BitmapIndex → FlashState → Type 0
FindEnds first plan table rose device result index new = EndsAs (RemembersBelow (oldest_in index)) first plan table rose device result index new
