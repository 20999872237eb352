-- A stream of the lines of a text.
use Rattle.std.specs.Prelude.{◌≡◌, ℕ, ◌+◌, ◌-◌, ◌<◌, ◌≤◌, Bool, true, false, ◌==◌, ◌⊎◌, All, Option, Some, None, Result, Ok, Err, List, [], ◌∷◌, ◌++◌, length, take, drop}
use Rattle.fl_base.specs.Causes.{Rose}
use Rattle.fl_lines.specs.declared.lines.LinesFault.{LinesFault}
use Rattle.fl_lines.specs.declared.lines.LinesFault.TheVariants.{Failed, Long}

pub record LinesState : Type 0 where
  -- the line that was given last
  pub line : List ℕ
  -- what was taken from the source and not given yet
  pub ahead : List ℕ
  -- how many bytes may still be given
  pub most : ℕ
  -- whether the last line was given, which has no newline
  pub closed : Bool

-- so many bytes were given as a line, and a newline
abbrev pub after_line : ℕ → LinesState → LinesState
after_line len s = record { line = take len s.ahead; ahead = drop (len + 1) s.ahead; most = s.most - (len + 1); closed = s.closed }

-- all that was ahead was given as a line
abbrev pub after_rest : LinesState → LinesState
after_rest s = record { line = s.ahead; ahead = []; most = s.most - length s.ahead; closed = s.closed }

-- a text without a newline
abbrev pub IsOneLine : List ℕ → Type 0
IsOneLine line = All (λ byte. (byte == 10) ≡ false) line

-- a line that ends with a newline was given
pub record GivesWhole (old : LinesState) (rest : List ℕ) (new : LinesState) (rest_now : List ℕ) : Type 0 where
  pub split : rest ≡ new.line ++ 10 ∷ rest_now
  pub one : IsOneLine new.line
  pub fits : length new.line < old.most
  pub most : new.most ≡ old.most - (length new.line + 1)
  pub open_before : old.closed ≡ false
  pub open_now : new.closed ≡ false

-- the last line was given, which has no newline
pub record GivesLast (old : LinesState) (rest : List ℕ) (new : LinesState) (rest_now : List ℕ) : Type 0 where
  pub split : rest ≡ new.line
  pub one : IsOneLine new.line
  pub some : 0 < length new.line
  pub fits : length new.line ≤ old.most
  pub nothing : rest_now ≡ []
  pub open_before : old.closed ≡ false
  pub closed_now : new.closed ≡ true

-- more bytes were given than a line has
pub record GivesLong (old : LinesState) (rest : List ℕ) (new : LinesState) : Type 0 where
  pub others : List ℕ
  pub split : rest ≡ new.line ++ others
  pub one : IsOneLine new.line
  pub long : 4096 < length new.line
  pub fits : length new.line ≤ old.most

-- what stands behind such a front is left, and fewer bytes may still be given
pub record LeavesRest (most : ℕ) (rest : List ℕ) (new : LinesState) (left_now : Option (List ℕ)) : Type 0 where
  pub left : List ℕ
  pub left_is : left_now ≡ Some left
  pub split : rest ≡ new.line ++ (new.ahead ++ left)
  pub fits : length new.line ≤ most
  pub most_now : new.most ≡ most - length new.line
  pub open_now : new.closed ≡ false

-- a part of a line was taken, and more bytes than that didn't come
pub record TakesPart (old : LinesState) (rest : List ℕ) (new : LinesState) (left : List ℕ) : Type 0 where
  pub split : rest ≡ new.ahead ++ left
  pub one : IsOneLine new.ahead
  pub short : length new.ahead ≤ 4096
  pub fits : length new.ahead ≤ old.most
  pub open_before : old.closed ≡ false

-- `rest` is what was ahead and what the source had left
abbrev pub Gives : LinesState → List ℕ → Result Bool LinesFault → LinesState → List ℕ → Type 0
Gives old rest (Ok true) new left =
    GivesWhole old rest new (new.ahead ++ left) ⊎ (GivesLast old rest new (new.ahead ++ left) ⊎ GivesLong old rest new)
Gives old rest (Ok false) new left = rest ≡ []
Gives old rest (Err Failed) new left = TakesPart old rest new left
-- as many bytes were taken as are at most, and one more came
Gives old rest (Err Long) new left = (more : List ℕ) × TakesPart old rest new more × (length new.ahead ≡ old.most) × (0 < length more)

-- What is ahead decides what is given: a whole line, more bytes than a line has, or that no line is left.
abbrev pub NeedsNoMore : LinesState → Type 0
NeedsNoMore s = (s.closed ≡ true) ⊎ ((IsOneLine s.ahead → ⊥) ⊎ (4096 < length s.ahead))

-- How many bytes were taken: with a line at most 4,097 that weren't given before, and no more than are read, none are left where
-- there is no line, and one more than are read of a text that is too long. `rest` is what was ahead and what the source had left.
abbrev pub TakesAhead : LinesState → List ℕ → Result Bool LinesFault → List ℕ → Type 0
TakesAhead old rest (Ok true) left = (part : List ℕ) × (rest ≡ part ++ left) × (length part ≤ 4097) × (length part ≤ old.most)
TakesAhead old rest (Ok false) left = left ≡ []
TakesAhead old rest (Err Failed) left = Unit {0}
TakesAhead old rest (Err Long) left = (part : List ℕ) × (rest ≡ part ++ left) × (length part ≡ old.most + 1)

-- a line is asked for
pub record Advances (old : LinesState) (left : Option (List ℕ)) (faults : ℕ) (result : Result Bool LinesFault) (new : LinesState) (left_now : Option (List ℕ)) (faults_now : ℕ) : Type 0 where
  pub later : faults ≤ faults_now
  pub failed : result ≡ Err Failed → Rose faults faults_now
  pub shrinks : result ≡ Ok true → new.most < old.most
  pub gives : (l : List ℕ) → left ≡ Some l → (old.closed ≡ true → old.ahead ++ l ≡ []) → (l_now : List ℕ) × (left_now ≡ Some l_now) × Gives old (old.ahead ++ l) result new l_now × TakesAhead old (old.ahead ++ l) result l_now

-- bytes are taken from the source, behind those that are ahead
pub record FillsBy (old left : List ℕ) (n : ℕ) (new left_now : List ℕ) : Type 0 where
  pub split : old ++ left ≡ new ++ left_now
  pub end : n ≡ 0 → (left ≡ []) × (new ≡ old)

abbrev pub Fills : {E : Type 0} → List ℕ → Option (List ℕ) → Result ℕ E → List ℕ → Option (List ℕ) → Type 0
Fills old None result new left_now = Unit {0}
Fills old (Some left) (Ok n) new left_now = (l : List ℕ) × (left_now ≡ Some l) × FillsBy old left n new l
Fills old (Some left) (Err e) new left_now = (new ≡ old) × (left_now ≡ Some left)
