-- What clauses see of a record log in memory.
use Rattle.std.specs.Prelude.{◌≡◌, ℕ, ◌+◌, ◌^◌, ◌<◌, ◌≤◌, Bool, nat_lt, is_some, option_map, unwrap_or, List, [], length, if◌then◌else◌}
use Rattle.std.specs.Option.{ForSome}
use Rattle.fl_base.specs.declared.types.RingPlace.{RingPlace}
use Rattle.fl_flash.specs.Flash.{FlashState, pages, page_at}
use Rattle.fl_model.specs.Record.{Plan, RowLayout, layout_len}
use Rattle.fl_model.specs.Row.{Row}
use Rattle.fl_page.specs.WriterState.{WriterState}
use Rattle.fl_ring.specs.Mounting.{shape_at}
use Rattle.fl_ring.specs.Place.{next_of, oldest_of}
use Rattle.fl_ring.specs.Place as place
use Rattle.fl_ring.specs.Ring as ring
use Rattle.fl_ring.specs.Ring.{Shape}
use Rattle.fl_ring.specs.Written.{MaySealIn}
use Rattle.fl_var.specs.Ahead.{AheadBlank}
use Rattle.fl_rlc.specs.declared.log.RecordLog.{RecordLog}

-- the last mount succeeded, and no operation failed since
abbrev pub is_mounted : RecordLog → Bool
is_mounted log = is_some log.ring

-- the next page number of a mounted ring, and the oldest one that is kept
abbrev pub next_in : RecordLog → ℕ
next_in log = unwrap_or (option_map (λ r. next_of r) log.ring) 0

abbrev pub oldest_in : RecordLog → ℕ
oldest_in log = unwrap_or (option_map (λ r. oldest_of r) log.ring) 0

-- .. and the oldest one after the seal of the next page
abbrev pub oldest_after : RecordLog → ℕ
oldest_after log = unwrap_or (option_map (λ r. place.oldest_after r) log.ring) 0

-- the flash pages that the seal of the next page changes
abbrev pub MaySeal : RecordLog → ℕ → Type 0
MaySeal log = MaySealIn log.ring

-- where its oldest block goes with the seal of the next page, the block ahead is blank then
abbrev pub LogAhead : RecordLog → (ℕ → List ℕ) → Type 0
LogAhead log new = AheadBlank log.ring (λ page. ⊥) new

-- the rows of the next page, as they are gathered
abbrev pub rows_in : RecordLog → WriterState
rows_in log = log.rows

-- the rows that stay where one more comes: none where it has no room beside them
abbrev pub kept_rows : RowLayout → WriterState → List Row → List Row
kept_rows layout writer rows = if nat_lt (length writer.body) (writer.end + layout_len layout) then [] else rows

-- the bytes of a page
abbrev pub page_len : RecordLog → ℕ
page_len log = log.geometry.page

-- the blocks of the ring, and where it stands
abbrev pub place_in : RecordLog → RingPlace
place_in log = log.place

abbrev pub log_shape : RecordLog → Shape
log_shape log = shape_at log.place log.geometry

-- the bytes at the place of a page number
abbrev pub page_in : RecordLog → FlashState → ℕ → List ℕ
page_in log f number = page_at f (ring.place (log_shape log) number)

-- the log of a table of this plan, whose ring begins at this block
pub record IsPlanned (log : RecordLog) (first : ℕ) (plan : Plan) : Type 0 where
  pub geometry : plan.geometry ≡ log.geometry
  pub blocks : plan.log_blocks ≡ log.place.blocks
  pub begins : log.place.first_block ≡ first

-- what no call changes
pub record IsSamePlan (old new : RecordLog) : Type 0 where
  pub geometry : new.geometry ≡ old.geometry
  pub place : new.place ≡ old.place

-- a flash on which the ring lies
pub record LiesOn (log : RecordLog) (f : FlashState) : Type 0 where
  pub geometry : f.geometry ≡ log.geometry
  pub within : log.place.first_block + log.place.blocks ≤ f.blocks
  pub few : pages f < 2 ^ 32
  pub ring : ForSome log.ring (λ r. place.LiesOn r f)
