-- The lines of an input, of which one that is too long is given by its front.
use Rattle.std.specs.Prelude.{◌≡◌, ℕ, ◌+◌, ◌<◌, ◌≤◌, ◌==◌, nat_lt, true, false, ◌⊎◌, Bool, Option, Some, Result, Ok, Err, List, [], ◌∷◌, ◌++◌, length, if◌then◌else◌}
use Rattle.fl_base.specs.Causes.{IsFront, Rose}
use Rattle.fl_lines.specs.Stream.{LinesState}
use Rattle.fl_lines.specs.declared.lines.LinesFault.{LinesFault}
use Rattle.fl_lines.specs.declared.lines.LinesFault.TheVariants.{Failed, Long}
use Rattle.fl_words.specs.Grammar.{lines_of}

-- what stands behind the first newline
abbrev pub behind_newline : List ℕ → List ℕ
behind_newline [] = []
behind_newline (byte ∷ bytes) = if byte == 10 then bytes else behind_newline bytes

-- what is left of a text behind the line that was given last: the rest of a line that is too long isn't
abbrev pub rest_in : LinesState → List ℕ → List ℕ
rest_in state left = if nat_lt 4096 (length state.line) then behind_newline (state.ahead ++ left) else state.ahead ++ left

-- a line is given whole, or by a front that is too long for a line
abbrev pub IsGivenAs : List ℕ → List ℕ → Type 0
IsGivenAs line given = (given ≡ line) ⊎ ((4096 < length given) × IsFront given line)

-- of a text so many bytes may still be given; none is left behind a last line without a newline
pub record IsLeft (state : LinesState) (left : List ℕ) (most total : ℕ) : Type 0 where
  pub ended : state.closed ≡ true → state.ahead ++ left ≡ []
  pub counted : state.closed ≡ false → length (state.ahead ++ left) + most ≡ total + state.most

-- The next line was given, or there is none; or the source failed, or the text has more bytes than may be given.
abbrev pub GivesNext : LinesState → List ℕ → ℕ → ℕ → Result Bool LinesFault → LinesState → List ℕ → Type 0
GivesNext old left most total (Ok true) new left_now = IsLeft new left_now most total × ((line : List ℕ) × IsGivenAs line new.line × (lines_of (rest_in old left) ≡ line ∷ lines_of (rest_in new left_now)))
GivesNext old left most total (Ok false) new left_now = (lines_of (rest_in old left) ≡ []) × (left_now ≡ [])
GivesNext old left most total (Err Failed) new left_now = Unit {0}
GivesNext old left most total (Err Long) new left_now = most < total

-- a line is asked for; bytes are read up to a newline that was given already, and none behind it
pub record AsksNext (old : LinesState) (left : Option (List ℕ)) (faults : ℕ) (result : Result Bool LinesFault) (new : LinesState) (left_now : Option (List ℕ)) (faults_now : ℕ) : Type 0 where
  pub later : faults ≤ faults_now
  pub failed : result ≡ Err Failed → Rose faults faults_now
  pub shrinks : result ≡ Ok true → new.most < old.most
  pub gives : (l : List ℕ) → left ≡ Some l → (most total : ℕ) → IsLeft old l most total → (l_now : List ℕ) × (left_now ≡ Some l_now) × GivesNext old l most total result new l_now
