-- How the lines of an input are taken, step by step.
use Rattle.std.specs.Prelude.{◌≡◌, ◌⊎◌, ℕ, ◌<◌, ◌≤◌, Bool, true, Option, Some, Result, Ok, Err, List, ◌++◌, length}
use Rattle.std.specs.List.{AllByRecursion}
use Rattle.fl_image.specs.declared.status.ToolStatus.{ToolStatus}
use Rattle.fl_image.specs.declared.status.ToolStatus.TheVariants.{Done, InputRead, OutWrite, InputLong, NoMemory, Device, BadImage, BadInput}
use Rattle.fl_lines.specs.Given.{Given}
use Rattle.fl_lines.specs.Stream.{LinesState, Advances}
use Rattle.fl_lines.specs.Taken.{TakesFew}
use Rattle.fl_lines.specs.Texts.{most_bytes}
use Rattle.fl_lines.specs.declared.lines.LinesFault.{LinesFault}
use Rattle.fl_lines.specs.declared.lines.LinesFault.TheVariants.{Failed, Long}
use Rattle.fl_import.specs.Lines.{IsHeaded, Takes}
use Rattle.fl_import.specs.Reading.{Stops, TakesSome, TakesUntil}

-- what was asked for is the line of a number, which isn't too long
abbrev pub NextOf : Result Bool LinesFault → List ℕ → ℕ → Result Bool ToolStatus → Type 0
NextOf given line number (Ok more) = (given ≡ Ok more) × (more ≡ true → length line ≤ 4096)
NextOf given line number (Err InputRead) = given ≡ Err Failed
NextOf given line number (Err InputLong) = given ≡ Err Long
NextOf given line number (Err (BadInput n)) = (given ≡ Ok true) × (n ≡ number) × (4096 < length line)
NextOf given line number (Err status) = ⊥

pub record NextLine (old : LinesState) (left : Option (List ℕ)) (faults number : ℕ) (result : Result Bool ToolStatus) (new : LinesState) (left_now : Option (List ℕ)) (faults_now : ℕ) : Type 0 where
  pub given : Result Bool LinesFault
  pub advances : Advances old left faults given new left_now faults_now
  pub next : NextOf given new.line number result

-- these lines of a text were taken so far
pub record TakesSoFar (columns : ℕ) (blobs : Bool) (text : List ℕ) (taken : List (List ℕ)) (state : LinesState) (left : Option (List ℕ)) : Type 0 where
  pub rest : List ℕ
  pub rest_is : left ≡ Some rest
  pub given : Given most_bytes text taken state.closed state.most (state.ahead ++ rest)
  pub short : AllByRecursion (λ line. length line ≤ 4096) taken
  pub headed : IsHeaded columns blobs taken

-- no more than these are taken
pub record TakesThese (columns : ℕ) (blobs : Bool) (text : List ℕ) (taken : List (List ℕ)) (rest : Option (List ℕ)) (status : ToolStatus) : Type 0 where
  pub left : List (List ℕ)
  pub takes : Takes columns blobs text taken left
  pub few : TakesFew text taken rest
  pub stops : Stops columns blobs text taken left rest status

-- no more are taken; where the flash failed, or there is no memory, it isn't the lines that say so
abbrev pub Ended : ℕ → Bool → List ℕ → Option (List ℕ) → ToolStatus → Type 0
Ended columns blobs text rest Device = TakesSome columns blobs text rest
Ended columns blobs text rest NoMemory = TakesSome columns blobs text rest
Ended columns blobs text rest status = TakesUntil columns blobs text rest status

-- a status of the first line
abbrev pub IsOfNames : ToolStatus → Type 0
IsOfNames InputRead = Unit {0}
IsOfNames InputLong = Unit {0}
IsOfNames NoMemory = Unit {0}
IsOfNames (BadInput number) = Unit {0}
IsOfNames status = ⊥

-- the lines of a text were taken so, by the status of the import
abbrev pub EndedAs : ℕ → Bool → List ℕ → Option (List ℕ) → ToolStatus → Type 0
EndedAs columns blobs text rest Done = TakesUntil columns blobs text rest Done
EndedAs columns blobs text rest InputRead = TakesUntil columns blobs text rest InputRead
EndedAs columns blobs text rest InputLong = TakesUntil columns blobs text rest InputLong
EndedAs columns blobs text rest (BadInput number) = TakesUntil columns blobs text rest (BadInput number)
EndedAs columns blobs text rest OutWrite = TakesUntil columns blobs text rest OutWrite ⊎ TakesUntil columns blobs text rest Done
EndedAs columns blobs text rest NoMemory = TakesSome columns blobs text rest
EndedAs columns blobs text rest Device = TakesSome columns blobs text rest
EndedAs columns blobs text rest status = ⊥

-- .. or none was, since the tables weren't mounted or there was no memory before
abbrev pub EndedOver : ℕ → Bool → List ℕ → Option (List ℕ) → ToolStatus → Type 0
EndedOver columns blobs text rest NoMemory = (rest ≡ Some text) ⊎ TakesSome columns blobs text rest
EndedOver columns blobs text rest Device = (rest ≡ Some text) ⊎ TakesSome columns blobs text rest
EndedOver columns blobs text rest (BadImage table) = rest ≡ Some text
EndedOver columns blobs text rest status = EndedAs columns blobs text rest status
