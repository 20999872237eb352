-- Why no more lines of an input are taken, and how far it was read.
use Rattle.std.specs.Prelude.{◌≡◌, ℕ, ◌+◌, ◌≤◌, Bool, true, false, Option, Some, List, [], length, take, drop}
use Rattle.fl_image.specs.declared.status.ToolStatus.{ToolStatus}
use Rattle.fl_image.specs.declared.status.ToolStatus.TheVariants.{Done, InputRead, OutWrite, InputLong, NoMemory, BadInput}
use Rattle.fl_lines.specs.Taken.{HasTaken, TakesFew}
use Rattle.fl_lines.specs.Texts.{is_long, most_bytes, rest_of, whole_lines}
use Rattle.fl_import.specs.Lines.{Takes, IsBad}

-- the next line was given
abbrev pub HasNext : List (List ℕ) → List (List ℕ) → Type 0
HasNext taken left = (1 ≤ length taken) × (1 ≤ length left)

-- the source failed behind so many bytes, of which all whole lines were taken; the line behind them isn't too long yet
pub record FailsBehind (text : List ℕ) (taken : List (List ℕ)) (rest : Option (List ℕ)) : Type 0 where
  pub count : ℕ
  pub within : count ≤ length text
  pub few : count ≤ most_bytes
  pub short : length (rest_of (take count text)) ≤ 4096
  pub rest_is : rest ≡ Some (drop count text)
  pub whole : taken ≡ whole_lines (take count text)

-- The lines `left` of the text aren't taken, for this reason. `rest` is what the source has left.
abbrev pub Stops : ℕ → Bool → List ℕ → List (List ℕ) → List (List ℕ) → Option (List ℕ) → ToolStatus → Type 0
-- there is none, and the input was read to its end
Stops columns blobs text taken left rest Done = (1 ≤ length taken) × (left ≡ []) × (is_long text ≡ false) × (rest ≡ Some [])
-- the next one can't be taken
Stops columns blobs text taken left rest (BadInput number) = (number ≡ length taken + 1) × IsBad columns blobs taken left
-- there is none within the bytes that are read, and the input has more, of which at most one was taken
Stops columns blobs text taken left rest InputLong = (left ≡ []) × (is_long text ≡ true) × HasTaken text (most_bytes + 1) rest
-- the source failed
Stops columns blobs text taken left rest InputRead = FailsBehind text taken rest
-- the next one was given, and then the sink failed, or there was no memory, also for the first one
Stops columns blobs text taken left rest OutWrite = HasNext taken left
Stops columns blobs text taken left rest NoMemory = 1 ≤ length left
Stops columns blobs text taken left rest status = ⊥

-- The lines of a text were taken so far, and at most 4,097 bytes were read from the first byte of the next one on.
pub record TakesUntil (columns : ℕ) (blobs : Bool) (text : List ℕ) (rest : Option (List ℕ)) (status : ToolStatus) : Type 0 where
  pub taken : List (List ℕ)
  pub left : List (List ℕ)
  pub takes : Takes columns blobs text taken left
  pub few : TakesFew text taken rest
  pub stops : Stops columns blobs text taken left rest status

-- .. whatever stopped them
pub record TakesSome (columns : ℕ) (blobs : Bool) (text : List ℕ) (rest : Option (List ℕ)) : Type 0 where
  pub taken : List (List ℕ)
  pub left : List (List ℕ)
  pub takes : Takes columns blobs text taken left
  pub few : TakesFew text taken rest
