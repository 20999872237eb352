-- What the calls of any table share: when they mean something, and what they leave of the flash and of a buffer.
use Rattle.std.specs.Prelude.{◌≡◌, ℕ, ◌+◌, ◌≤◌, Bool, true, Option, option_map, Result, OnOk, IfErr, IsTrue, List, length, None}
use Rattle.std.specs.Borrow.{Bor}
use Rattle.fl_flash.specs.Flash.{FlashState, Goes, page_at}
use Rattle.fl_frame.specs.Watched.{IsWatched}
use Rattle.fl_model.specs.Record.{Plan}
use Rattle.fl_model.specs.Table as model
use Rattle.fl_model.specs.Work.{Device}
use Rattle.fl_ring.specs.Written.{Writes}
use Rattle.fl_flash.specs.Buffer.{BufferState}

-- the bytes of a blob that is lent, and how many there are
abbrev pub bytes_in : Option (Bor (List ℕ)) → Option (List ℕ)
bytes_in blob = option_map (λ b. b.now) blob

abbrev pub length_in : Option (Bor (List ℕ)) → Option ℕ
length_in blob = option_map (λ b. length b.now) blob

-- The premise of what a call means: it is watched, over a flash that stands for a table of the model. The call ends so for each plan
-- and table for which the flash stands, from each block, whether the medium's faults rise in it, and for each device that counts alike.
abbrev pub Over : FlashState → FlashState → (ℕ → Plan → model.Table → Type 0) → (ℕ → Plan → model.Table → Bool → Device → Type 0) → Type 0
Over old new Standing Ends =
    (first : ℕ) → (plan : Plan) → (table : model.Table) → (rose : Bool) → (device : Device) → IsWatched old new rose device → Standing first plan table → Ends first plan table rose device

-- What a call that seals pages does to its flash.
pub record Changes {E : Type 0} (May : ℕ → Type 0) (Outside : (ℕ → List ℕ) → (ℕ → List ℕ) → Type 0) (most : ℕ) (Caused : FlashState → E → FlashState → Type 0) (old : FlashState) (result : Result (Unit {0}) E) (new : FlashState) : Type 0 where
  -- its shape, its place and the bytes around it on the medium stay, and its power where no cut is armed
  pub goes : Goes old new
  -- after an Ok the power is on, if it was before
  pub power : OnOk result (old.is_on ≡ true → new.is_on ≡ true)
  -- so many seals were tried at most, and no page is another but those that these may change
  pub writes : Writes May 0 most old new
  -- each page outside the rings stands, where the flash tells its bytes
  pub outside : IsTrue old.media.tells → Outside (page_at old) (page_at new)
  -- nothing is read of the flash; a program may read the medium
  pub reads : new.work.reads ≡ old.work.reads
  pub media_reads : new.media.reads ≤ old.media.reads + most
  -- a failure has its cause
  pub cause : IfErr result (λ e. Caused old e new)

-- The premise of what a call that only looks means: the flash stands for a table of the model, and tells its bytes. It says so for each
-- plan and table for which the flash stands, from each block.
abbrev pub OverTold : FlashState → (ℕ → Plan → model.Table → Type 0) → (Plan → model.Table → Type 0) → Type 0
OverTold f Standing Says = (first : ℕ) → (plan : Plan) → (table : model.Table) → IsTrue f.media.tells → Standing first plan table → Says plan table

-- A buffer is as long as before, and holds no page.
pub record HoldsNone (old new : BufferState) : Type 0 where
  pub room : length new.bytes ≡ length old.bytes
  pub holds : new.holds ≡ None
