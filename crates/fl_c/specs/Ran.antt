-- What a call did, by what its caller sees.
use Rattle.std.specs.Prelude.{◌≡◌, ◌⊎◌, ℕ, ◌<◌, IsTrue, true, List, Some, [], length}
use Rattle.fl_flash.specs.Media.{MediaState}
use Rattle.fl_ends.specs.RunNumber.{number_of}
use Rattle.fl_ends.specs.declared.run.Status.{Status}
use Rattle.fl_ends.specs.declared.run.Status.TheVariants.{Usage, ScriptRead}
use Rattle.fl_session.specs.CausedEach.{EndsCaused}
use Rattle.fl_session.specs.Ends.{Ends, told_of}
use Rattle.fl_c.specs.Ending.{line_of}

-- a medium in memory that nothing was done on: it tells its bytes
abbrev pub medium_of : List ℕ → MediaState
medium_of image = record { tells = true; content = image; faults = 0; reads = 0 }

-- The promise of a run, at the bytes that a caller sees: the image before and after it, and all replies. Where the image stands for
-- a state the replies are those of a run of the machine, and whatever bytes it has each command that was run has its cause.
pub record RanImage (knots : ℕ) (script image image_now replies : List ℕ) (status : Status) : Type 0 where
  pub medium : MediaState
  -- what is left of the script
  pub left : List ℕ
  pub ends : Ends knots script (told_of (medium_of image) medium (Some left) (Some []) (Some replies)) status
  pub causes : EndsCaused knots script (medium_of image) medium (Some left) (Some []) (Some replies) status
  pub after : medium.content ≡ image_now
  pub tells : IsTrue medium.tells
  -- the words are those of a run, and a script in memory can be read
  pub words : status ≡ Usage → ⊥
  pub read : status ≡ ScriptRead → ⊥

-- .. and the number and the line that tell how it ended
pub record RanOver (knots : ℕ) (script image image_now replies : List ℕ) (line number : ℕ) : Type 0 where
  pub status : Status
  pub number_is : number_of status ≡ number
  pub line_is : line_of status ≡ line
  pub ran : RanImage knots script image image_now replies status

-- A run was made whose image or whose replies have no room in buffers of these lengths.
pub record IsTooLong (knots : ℕ) (script image : List ℕ) (image_room replies_room : ℕ) : Type 0 where
  pub image_now : List ℕ
  pub replies : List ℕ
  pub status : Status
  pub ran : RanImage knots script image image_now replies status
  pub long : (image_room < length image_now) ⊎ (replies_room < length replies)
