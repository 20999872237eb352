-- What a line of a shell answers and leaves, and why, over any bytes and on any medium.
use Rattle.std.specs.Prelude.{◌≡◌, ◌⊎◌, ℕ, ◌+◌, ◌==◌, ◌&&◌, Bool, true, false, eqb, unwrap_or, Option, None, Some, option_map, Result, Ok, Err, List, [], ◌∷◌, ◌++◌, codes, slice_get, if◌then◌else◌}
use Rattle.std.specs.List.{starts_with}
use Rattle.fl_base.specs.declared.stream.SinkFailed.{SinkFailed}
use Rattle.fl_machine.specs.Script.{runs}
use Rattle.fl_model.specs.Record.{bytes_equal}
use Rattle.fl_rlc.specs.Table.{table_in}
use Rattle.fl_script.specs.ReplyView.{reply_text}
use Rattle.fl_script.specs.Written.{Written}
use Rattle.fl_script.specs.declared.reply.Reply as code
use Rattle.fl_ends.specs.declared.shell.Flushed.{Flushed}
use Rattle.fl_session.specs.Answer.{Refusal}
use Rattle.fl_session.specs.Caused as session
use Rattle.fl_session.specs.Caused.{IsHere, OnlyLooks, State}
use Rattle.fl_session.specs.Told.{TellsOf}
use Rattle.fl_store.specs.declared.tables.Entry.{Entry}
use Rattle.fl_table.specs.Look.{last_key_in}
use Rattle.fl_table.specs.Memory.{pending_in}
use Rattle.fl_words.specs.Command as command
use Rattle.fl_words.specs.Command.{Command}
use Rattle.fl_words.specs.Grammar.{words_in}
use Rattle.fl_words.specs.Reply as reply
use Rattle.fl_words.specs.Reply.{text}
use Rattle.fl_shell.specs.Own.{Own, Echo, First, Last, Describe, Misformed, own_of}
use Rattle.fl_shell.specs.Refusal.{Refuses, line_of}
use Rattle.fl_shell.specs.Talk.{groups_of, key_text}

-- ---- one line

-- a command is executed, and answered by its replies; a line that is none is refused
abbrev pub CausedRun : {E : Type 0} → Option Command → State → State → Option (List ℕ) → Option (List ℕ) → Result (Unit {0}) E → Type 0
CausedRun {E} (Some c) old new told told_now result = session.Caused {E = E} c old new told told_now result
CausedRun {E} None old new told told_now result = Refuses {E = E} told told_now result × (new ≡ old)

-- what is written of the first key where this was said of the groups: the least key of the first one, that there is none, or what was said
abbrev pub first_said : List ℕ → List ℕ
first_said said =
    if starts_with eqb said (codes "end ") then text reply.Absent
    else if starts_with eqb said (codes "group ") then unwrap_or (option_map line_of (slice_get (words_in said) 5)) said
    else said

abbrev pub first_told : Result (Unit {0}) SinkFailed → List ℕ → List ℕ
first_told (Ok done) said = first_said said
first_told (Err failed) said = codes "? the groups have too many bytes\n"

-- The groups of a table's rows are asked for, as the command does that asks for them; what is said of them, or a front of it, says what
-- is written.
pub record CausesFirst {E : Type 0} (old new : State) (name : List ℕ) (told told_now : Option (List ℕ)) (result : Result (Unit {0}) E) : Type 0 where
  pub said : List ℕ
  pub asked : Result (Unit {0}) SinkFailed
  pub cause : session.Caused {E = SinkFailed} (groups_of name) old new (Some []) (Some said) asked
  pub written : Written told told_now result (first_told asked said)

abbrev pub last_told : Result (Option ℕ) code.Reply → List ℕ
last_told (Ok key) = key_text key
last_told (Err refusal) = reply_text refusal

-- the last key of a table in memory is written, or why none is told
pub record CausesLast {E : Type 0} (old : State) (name : List ℕ) (told told_now : Option (List ℕ)) (result : Result (Unit {0}) E) : Type 0 where
  pub key : Result (Option ℕ) code.Reply
  pub tells : TellsOf old name (λ (entry : Entry) k. k ≡ last_key_in (table_in entry.table)) key
  pub written : Written told told_now result (last_told key)

-- something is written, and nothing is taken back
abbrev pub WritesSome : {E : Type 0} → Option (List ℕ) → Option (List ℕ) → Result (Unit {0}) E → Type 0
WritesSome told told_now result = (answer : List ℕ) × Written told told_now result answer

-- A line of the shell's own leaves memory and each byte as they were: pages are read for it at most.
abbrev pub CausedOwn : {E : Type 0} → Option Own → List ℕ → State → State → Option (List ℕ) → Option (List ℕ) → Result (Unit {0}) E → Type 0
CausedOwn {E} None line old new told told_now result = CausedRun {E = E} (runs line) old new told told_now result
CausedOwn {E} (Some (Echo word)) line old new told told_now result = Written told told_now result (line_of word) × (new ≡ old)
CausedOwn {E} (Some (First name)) line old new told told_now result = CausesFirst {E = E} old new name told told_now result
CausedOwn {E} (Some (Last name)) line old new told told_now result = CausesLast {E = E} old name told told_now result × (new ≡ old)
CausedOwn {E} (Some Describe) line old new told told_now result = WritesSome {E = E} told told_now result × OnlyLooks old new old.notes
CausedOwn {E} (Some Misformed) line old new told told_now result = Refuses {E = E} told told_now result × (new ≡ old)

abbrev pub CausedLine : {E : Type 0} → List ℕ → State → State → Option (List ℕ) → Option (List ℕ) → Result (Unit {0}) E → Type 0
CausedLine {E} line old new told told_now result = CausedOwn {E = E} (own_of line) line old new told told_now result

-- .. if there is a line in hand
abbrev pub CausedIf : {E : Type 0} → Bool → List ℕ → State → State → Option (List ℕ) → Option (List ℕ) → Result (Unit {0}) E → Type 0
CausedIf {E} true line old new told told_now result = CausedLine {E = E} line old new told told_now result
CausedIf {E} false line old new told told_now result = (new ≡ old) × (told_now ≡ told) × (result ≡ Ok tt)

-- ---- lines one after another

abbrev pub CausedLines : List (List ℕ) → State → State → Option (List ℕ) → Option (List ℕ) → Type 0
CausedLines [] old new told told_now = (new ≡ old) × (told_now ≡ told)
CausedLines (line ∷ lines) old new told told_now =
    (mid : State) × (told_mid : Option (List ℕ)) × CausedLine {E = SinkFailed} line old mid told told_mid (Ok tt) × CausedLines lines mid new told_mid told_now

-- .. and in the answer to the last of them the sink failed
pub record CausedInto (lines : List (List ℕ)) (old new : State) (told told_now : Option (List ℕ)) : Type 0 where
  pub before : List (List ℕ)
  pub last : List ℕ
  pub split : lines ≡ before ++ last ∷ []
  pub mid : State
  pub told_mid : Option (List ℕ)
  pub each : CausedLines before old mid told told_mid
  pub failed : SinkFailed
  pub cause : CausedLine {E = SinkFailed} last mid new told_mid told_now (Err failed)

-- they were answered whole, or but for the end of the last answer
abbrev pub CausedBy : List (List ℕ) → Bool → State → State → Option (List ℕ) → Option (List ℕ) → Type 0
CausedBy lines true old new told told_now = CausedLines lines old new told told_now
CausedBy lines false old new told told_now = CausedInto lines old new told told_now

-- ---- the flush of what is pending at the end

-- so many rows of the table with the name are pending in memory; none where a command on it is refused
abbrev pub PendingIs : State → List ℕ → ℕ → Type 0
PendingIs s name rows =
    ((at : ℕ) × (entry : Entry) × IsHere s name at entry × (rows ≡ pending_in (table_in entry.table)))
    ⊎ ((refusal : code.Reply) × Refusal s.entries s.mounted name refusal × (rows ≡ 0))

-- .. and of the tables with these names
abbrev pub PendingAre : State → List (List ℕ) → ℕ → Type 0
PendingAre s [] rows = rows ≡ 0
PendingAre s (name ∷ names) rows = (one : ℕ) × (others : ℕ) × PendingIs s name one × PendingAre s names others × (rows ≡ one + others)

-- the answer to a flush is `ok`
abbrev pub is_ok : Result (Unit {0}) SinkFailed → List ℕ → Bool
is_ok (Ok done) said = bytes_equal said (text reply.Done)
is_ok (Err failed) said = false

-- the table with the name is flushed as the command does that; `done` tells whether it said `ok`
pub record CausesFlush (old new : State) (name : List ℕ) (done : Bool) : Type 0 where
  pub said : List ℕ
  pub asked : Result (Unit {0}) SinkFailed
  pub cause : session.Caused {E = SinkFailed} (command.Flush name) old new (Some []) (Some said) asked
  pub done_is : done ≡ is_ok asked said

-- .. and each of these, one after another; `done` tells whether all of them did
abbrev pub CausesFlushes : List (List ℕ) → State → State → Bool → Type 0
CausesFlushes [] old new done = (new ≡ old) × (done ≡ true)
CausesFlushes (name ∷ names) old new done =
    (mid : State) × (one : Bool) × (others : Bool) × CausesFlush old mid name one × CausesFlushes names mid new others × (done ≡ (one && others))

-- What was pending is flushed, if anything was. It is told how many rows these were, and whether each flush said `ok` and no row is
-- pending then.
pub record FlushesOver (names : List (List ℕ)) (old new : State) (flushed : Flushed) : Type 0 where
  pub pending : PendingAre old names flushed.pending
  pub none : flushed.pending ≡ 0 → (new ≡ old) × (flushed.all ≡ true)
  pub some : (flushed.pending ≡ 0 → ⊥) → (done : Bool) × (left : ℕ) × CausesFlushes names old new done × PendingAre new names left × (flushed.all ≡ (done && (left == 0)))

-- ---- the whole input

-- these lines were answered, and then what was pending was flushed
abbrev pub TalkedOver : List (List ℕ) → List (List ℕ) → Bool → Flushed → Option (List ℕ) → Option (List ℕ) → State → State → Type 0
TalkedOver names lines whole flushed told told_now old new = (mid : State) × CausedBy lines whole old mid told told_now × FlushesOver names mid new flushed
