-- What a seal leaves of its ring in memory and of the flash, over any bytes.
use Rattle.std.specs.Prelude.{◌≡◌, ℕ, ◌+◌, ◌-◌, ◌<◌, ◌≤◌, Bool, Result, OnOk, IfErr, IsTrue, List}
use Rattle.fl_flash.specs.Flash.{FlashState, Goes, OffChangesNothing, page_at}
use Rattle.fl_flash.specs.declared.flash.FlashFault.{FlashFault}
use Rattle.fl_frame.specs.Causes.{CausedBy}
use Rattle.fl_ring.specs.Place.{next_of, oldest_after, oldest_of, shape_of, LiesOn, StandsFor}
use Rattle.fl_ring.specs.Ring.{RingState, IsRing, OutsideStands, erased, is_due_at, oldest, place, sealed}
use Rattle.fl_ring.specs.Sealing.{IsReady, SealCalls, SealWork}
use Rattle.fl_ring.specs.Written.{MaySeal, Writes, done, sealed_over}
use Rattle.fl_ring.specs.declared.ring.Ring.{Ring}

-- whether the oldest block goes with the seal of the next page
abbrev pub oldest_goes : Ring → Bool
oldest_goes ring = is_due_at (shape_of ring) (next_of ring + 1) (next_of ring + 1 - oldest_of ring)

-- What it leaves in memory.
pub record SealsInMemory (old : Ring) (body : List ℕ) (result : Result (Unit {0}) FlashFault) (new : Ring) (g : FlashState) : Type 0 where
  -- where the ring stands is the same
  pub same : shape_of new ≡ shape_of old
  -- after an Ok it has one page more, gave up its oldest block if that has to go, and lies on the flash that is left
  pub next : OnOk result (next_of new ≡ next_of old + 1)
  pub kept_from : OnOk result (oldest_of new ≡ oldest_after old)
  pub lies : OnOk result (LiesOn new g)
  -- .. and its numbers, if they stood for a state, stand for the one that the seal makes
  pub numbers : OnOk result ((s : RingState) → StandsFor old s → IsRing (shape_of old) s → StandsFor new (erased (sealed (shape_of old) s body)))

-- What it does to the flash.
pub record SealsOnFlash (ring : Ring) (body : List ℕ) (old : FlashState) (result : Result (Unit {0}) FlashFault) (new : FlashState) : Type 0 where
  -- its shape, its place and the bytes around it on the medium stay, and its power where no cut is armed
  pub goes : Goes old new
  -- the programs and the erase of a seal, in order, up to the one that failed
  pub calls : SealCalls (shape_of ring) (next_of ring) (oldest_goes ring) body old result new
  -- one seal was tried, and no page is another but those that it may change
  pub writes : Writes (MaySeal ring) (done result) 1 old new
  -- each page outside the ring stands, where the flash tells its bytes
  pub outside : IsTrue old.media.tells → OutsideStands (shape_of ring) (page_at old) (page_at new)
  -- after an Ok the body and the mark of a commit were programmed over what the next page held
  pub page : OnOk result (IsTrue old.media.tells → page_at new (place (shape_of ring) (next_of ring)) ≡ sealed_over (shape_of ring) body (page_at old (place (shape_of ring) (next_of ring))))
  -- .. and if the flash stood for the ring, with no page torn and no block that waits for its erase, the pages that are kept stand
  pub keeps : OnOk result (IsTrue old.media.tells → (s : RingState) → IsReady ring old s → (n : ℕ) → oldest (sealed (shape_of ring) s body) ≤ n → n < s.next
      → page_at new (place (shape_of ring) n) ≡ page_at old (place (shape_of ring) n))
  -- two programs, and an erase if the oldest block goes
  pub work : OnOk result (SealWork old.work (oldest_goes ring) new.work)
  -- nothing is read of the flash; a program may read the medium
  pub reads : new.work.reads ≡ old.work.reads
  pub media_reads : new.media.reads ≤ old.media.reads + 1
  -- a failure has its cause
  pub cause : IfErr result (λ e. CausedBy old e new)
  -- with the power off that is the answer, and nothing changes
  pub off : OffChangesNothing old result new
