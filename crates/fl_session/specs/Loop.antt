-- How the commands of a script are run one after another, from a first one on that was read: what is said of all that were run
-- (`All`), and of some in the reply of the last of which the sink failed (`Part`).
use Rattle.std.specs.Prelude.{◌≡◌, ℕ, ◌+◌, ◌<◌, ◌≤◌, Bool, false, Option, Some, None, List, [], ◌∷◌, ◌++◌, length, take, drop}
use Rattle.fl_words.specs.Command.{Command}
use Rattle.fl_machine.specs.Script.{accepted, first_refused}
use Rattle.fl_lines.specs.Taken.{HasTaken, TakesWithin}
use Rattle.fl_lines.specs.Texts.{whole_lines, rest_of, lines_within}
use Rattle.fl_ends.specs.declared.run.Status.{Status}
use Rattle.fl_ends.specs.declared.run.Status.TheVariants.{Done, Usage, Line, ScriptRead, OutWrite, MediaMake, Config, OtherConfig, ScriptLong, NoMemory}

-- a script from a line on: the line and its number, the text behind it and how much of it may be read, and whether the
-- line was the last one
pub record Tail : Type 0 where
  pub number : ℕ
  pub first : List ℕ
  pub text : List ℕ
  -- how many bytes of the text were taken with the line
  pub taken : ℕ
  pub most : ℕ
  pub closed : Bool

abbrev pub lines_in : Tail → List (List ℕ)
lines_in tail = tail.first ∷ lines_within tail.most tail.text

-- at most 4,097 bytes were taken from the first byte of the line on that stands behind these lines of the script, and at most
-- one more than are read
abbrev pub TakesTail : Tail → List (List ℕ) → Option (List ℕ) → Type 0
TakesTail tail [] left_now = left_now ≡ Some (drop tail.taken tail.text)
TakesTail tail (first ∷ given) left_now = TakesWithin tail.most tail.text given left_now

-- .. of the line of this number
pub record TailTakes (tail : Tail) (number : ℕ) (left_now : Option (List ℕ)) : Type 0 where
  pub before : List (List ℕ)
  pub others : List (List ℕ)
  pub split : lines_in tail ≡ before ++ others
  pub number_is : number ≡ tail.number + length before
  pub few : TakesTail tail before left_now

-- all lines were run
pub record EndsAll (tail : Tail) (All : List Command → Type 0) : Type 0 where
  pub accepts : first_refused tail.number (lines_in tail) ≡ None
  pub runs : All (accepted (lines_in tail))

-- the lines before one that is refused
pub record EndsBad (tail : Tail) (All : List Command → Type 0) (line : ℕ) : Type 0 where
  pub refuses : first_refused tail.number (lines_in tail) ≡ Some line
  pub runs : All (accepted (lines_in tail))

-- .. some of the lines, and in the reply of the last of them the sink failed
pub record EndsInReply (tail : Tail) (left_now : Option (List ℕ)) (Part : List Command → Type 0) : Type 0 where
  pub commands : List Command
  pub others : List Command
  pub split : commands ++ others ≡ accepted (lines_in tail)
  pub number : ℕ
  pub number_is : number + 1 ≡ tail.number + length commands
  pub takes : TailTakes tail number left_now
  pub runs : Part commands

-- .. the whole lines of what was taken from the source
pub record EndsTaken (tail : Tail) (left_now : Option (List ℕ)) (All : List Command → Type 0) : Type 0 where
  pub is_open : tail.closed ≡ false
  pub taken : ℕ
  pub within : taken ≤ length tail.text
  pub few : taken ≤ tail.most
  pub short : length (rest_of (take taken tail.text)) ≤ 4096
  pub left : left_now ≡ Some (drop taken tail.text)
  pub accepts : first_refused tail.number (tail.first ∷ whole_lines (take taken tail.text)) ≡ None
  pub runs : All (accepted (tail.first ∷ whole_lines (take taken tail.text)))

abbrev pub EndsCommands : Tail → Option (List ℕ) → (List Command → Type 0) → (List Command → Type 0) → Status → Type 0
EndsCommands tail left_now All Part (Done pending) = (length tail.text ≤ tail.most) × EndsAll tail All × (left_now ≡ Some [])
EndsCommands tail left_now All Part (Line n) = EndsBad tail All n × TailTakes tail n left_now
EndsCommands tail left_now All Part ScriptRead = EndsTaken tail left_now All
EndsCommands tail left_now All Part OutWrite = EndsInReply tail left_now Part
EndsCommands tail left_now All Part ScriptLong = (tail.most < length tail.text) × EndsAll tail All × HasTaken tail.text (tail.most + 1) left_now
EndsCommands tail left_now All Part Usage = ⊥
EndsCommands tail left_now All Part MediaMake = ⊥
EndsCommands tail left_now All Part (Config n) = ⊥
EndsCommands tail left_now All Part (OtherConfig wanted found at) = ⊥
EndsCommands tail left_now All Part NoMemory = ⊥
