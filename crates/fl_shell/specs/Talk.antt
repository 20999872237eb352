-- What a shell answers, line by line, and the run of the machine that its commands are.
use Rattle.std.specs.Prelude.{◌≡◌, ℕ, ◌-◌, ◌*◌, ◌^◌, ◌==◌, Bool, true, false, Option, Some, None, option_map, List, [], ◌∷◌, ◌++◌, length, map, sum_by, decimal, codes, if◌then◌else◌}
use Rattle.std.specs.List.{AllByRecursion, flat_map, list_any}
use Rattle.std.specs.Fmt.{signed_decimal}
use Rattle.fl_base.specs.Causes.{Appends, IsFront, Rose}
use Rattle.fl_machine.specs.Machine.{Machine}
use Rattle.fl_machine.specs.Found.{FindsAt}
use Rattle.fl_machine.specs.Keeping.{KeepsPutsAt}
use Rattle.fl_machine.specs.Reads.{none_read}
use Rattle.fl_machine.specs.Run.{Run, end_of, commands_of, risen_in}
use Rattle.fl_machine.specs.Script.{KeepsReads, RoseBy, runs}
use Rattle.fl_machine.specs.Stays.{StaysEach}
use Rattle.fl_machine.specs.Step.{Located, located, Moment}
use Rattle.fl_model.specs.Record.{Config, Plan, has_var, rows_per_page}
use Rattle.fl_model.specs.Table.{Table, last_entry}
use Rattle.fl_rlc.specs.Rings.{rings_of}
use Rattle.fl_rlc.specs.declared.rings.RingCounts.{RingCounts}
use Rattle.fl_queries.specs.Keys.{all_keys}
use Rattle.fl_queries.specs.OldestBlob.{oldest_blob}
use Rattle.fl_sizing.specs.Sizes.{rows_kept}
use Rattle.fl_sizing.specs.Text.{figure_line}
use Rattle.fl_table.specs.Look.{counts_of}
use Rattle.fl_table.specs.declared.counts.TableCounts.{TableCounts}
use Rattle.fl_words.specs.Command as command
use Rattle.fl_words.specs.Command.{Command}
use Rattle.fl_words.specs.Reply as reply
use Rattle.fl_words.specs.Reply.{Reply, text, texts}
use Rattle.fl_words.specs.Medium.{device_text, table_text}
use Rattle.fl_ends.specs.declared.shell.Flushed.{Flushed}
use Rattle.fl_shell.specs.Refusal.{IsRefusal, line_of}
use Rattle.fl_shell.specs.Own.{Own, Echo, First, Last, Describe, Misformed, own_of}

-- What was done for a line: the command that the machine executed for it, if any, the bytes that were written, and where pages were
-- read beside commands, of which tables, by their places, such a read failed.
pub record Turn : Type 0 where
  pub moment : Option Moment
  pub answer : List ℕ
  pub unread : List Bool

-- the machine executed nothing, and so is as it was
abbrev pub IsSilent : Turn → Type 0
IsSilent turn = turn.moment ≡ None

-- the last key of the table with the name, or that it has no record
abbrev pub key_text : Option ℕ → List ℕ
key_text (Some key) = line_of (decimal key)
key_text None = text reply.Absent

abbrev pub key_of : Option Located → List ℕ
key_of None = text reply.NoTable
key_of (Some at) = key_text (option_map (λ entry. entry.kept.key) (last_entry at.table))

abbrev pub last_text : Config → Machine → List ℕ → List ℕ
last_text config old name = if old.mounted then key_of (located config old name) else text reply.NotMounted

-- the groups of all rows by a width that puts all keys but the very greatest into one
abbrev pub groups_of : List ℕ → Command
groups_of name = command.Agg name all_keys 0 (2 ^ 64 - 1)

-- the least key of the first of these groups, that there is none, or what the replies say instead
abbrev pub first_text : List Reply → List ℕ
first_text (reply.Group group count least greatest sum mean ∷ replies) = line_of (signed_decimal least)
first_text (reply.EndCount count ∷ replies) = text reply.Absent
first_text replies = texts replies

-- how much a table holds, and how many pages of its data ring are free
abbrev pub counts_text : TableCounts → ℕ → List ℕ
counts_text counts pages =
    figure_line (codes "  rows kept ") counts.rows ++ figure_line (codes "  rows pending ") counts.pending ++ figure_line (codes "  pages kept ") counts.pages
    ++ figure_line (codes "  pages void ") counts.voids ++ figure_line (codes "  pages free ") (pages - counts.pages)

-- how many pages a ring of so many pages keeps, and how many are free: all others
abbrev pub ring_text : List ℕ → List ℕ → ℕ → Option ℕ → List ℕ
ring_text kept_is free_is pages None = []
ring_text kept_is free_is pages (Some kept) = figure_line kept_is kept ++ figure_line free_is (pages - kept)

-- .. those of a table beside the data's
abbrev pub rings_text : Plan → RingCounts → List ℕ
rings_text plan rings =
    ring_text (codes "  index pages kept ") (codes "  index pages free ") (plan.index_blocks * plan.geometry.block) rings.table.index
    ++ ring_text (codes "  blob pages kept ") (codes "  blob pages free ") (plan.var_blocks * plan.geometry.block) rings.table.blobs
    ++ ring_text (codes "  log pages kept ") (codes "  log pages free ") (plan.log_blocks * plan.geometry.block) rings.log

abbrev pub key_line : Option ℕ → List ℕ
key_line (Some key) = figure_line (codes "  last key ") key
key_line None = codes "  last key none\n"

-- the key of the oldest record whose blob isn't gone, or that a page of rows isn't read
abbrev pub oldest_line : Bool → Option ℕ → List ℕ
oldest_line true key = codes "  oldest blob read fault\n"
oldest_line false (Some key) = figure_line (codes "  oldest blob ") key
oldest_line false None = codes "  oldest blob none\n"

abbrev pub blobs_text : Bool → Plan → Table → List ℕ
blobs_text unread plan table = if has_var plan then oldest_line unread (oldest_blob table) else []

-- what the table of a plan holds, while it is mounted
abbrev pub held_text : Plan → Table → List ℕ
held_text plan table =
    counts_text (counts_of table) (plan.data_blocks * plan.geometry.block) ++ key_line (option_map (λ entry. entry.kept.key) (last_entry table))

abbrev pub held_of : Plan → Option Located → List ℕ
held_of plan None = []
held_of plan (Some at) = held_text plan at.table

abbrev pub held_in : Config → Machine → Plan → List ℕ → List ℕ
held_in config old plan name = if old.mounted then held_of plan (located config old name) else []

-- .. and what its other rings keep, and its oldest blob
abbrev pub beside_of : Bool → Plan → Option Located → List ℕ
beside_of unread plan None = []
beside_of unread plan (Some at) = rings_text plan (rings_of at.table) ++ blobs_text unread plan at.table

abbrev pub beside_in : Config → Machine → Bool → Plan → List ℕ → List ℕ
beside_in config old unread plan name = if old.mounted then beside_of unread plan (located config old name) else []

-- how many rows a page has room for, and how many are always kept
abbrev pub sizes_text : Plan → List ℕ
sizes_text plan = figure_line (codes "  rows a page ") (rows_per_page plan) ++ figure_line (codes "  rows always kept of full pages ") (rows_kept plan)

abbrev pub described : Config → Machine → Bool → Plan → List ℕ
described config old unread plan =
    table_text plan ++ sizes_text plan ++ held_in config old plan plan.name ++ beside_in config old unread plan plan.name

-- .. of one after another; no read failed of those that aren't told of
abbrev pub described_each : Config → Machine → List Bool → List Plan → List ℕ
described_each config old unread [] = []
described_each config old [] (plan ∷ plans) = described config old false plan ++ described_each config old [] plans
described_each config old (failed ∷ unread) (plan ∷ plans) = described config old failed plan ++ described_each config old unread plans

-- the lines of the configuration, below that of each table what it holds, and how many tables there are
abbrev pub description : Config → Machine → List Bool → List ℕ
description config old unread = device_text config.geometry ++ described_each config old unread config.plans ++ text (reply.EndCount (length config.plans))

-- the machine executed this command
abbrev pub Executed : Command → Turn → (Moment → Type 0) → Type 0
Executed c turn P = (moment : Moment) × (turn.moment ≡ Some moment) × (moment.command ≡ c) × P moment

-- the answer to a line that the shell doesn't know: the replies to its command, or why it is none
abbrev pub AnswersRun : Option Command → Turn → Type 0
AnswersRun (Some c) turn = Executed c turn (λ moment. turn.answer ≡ texts moment.replies)
AnswersRun None turn = IsSilent turn × IsRefusal turn.answer

-- the answer to a line in this state
abbrev pub AnswersAs : Config → Machine → Option Own → List ℕ → Turn → Type 0
AnswersAs config old None line turn = AnswersRun (runs line) turn
AnswersAs config old (Some (Echo word)) line turn = IsSilent turn × (turn.answer ≡ line_of word)
AnswersAs config old (Some (First name)) line turn = Executed (groups_of name) turn (λ moment. turn.answer ≡ first_text moment.replies)
AnswersAs config old (Some (Last name)) line turn = IsSilent turn × (turn.answer ≡ last_text config old name)
AnswersAs config old (Some Describe) line turn = IsSilent turn × (turn.answer ≡ description config old turn.unread)
AnswersAs config old (Some Misformed) line turn = IsSilent turn × IsRefusal turn.answer

abbrev pub Answers : Config → Machine → List ℕ → Turn → Type 0
Answers config old line turn = AnswersAs config old (own_of line) line turn

-- the commands that the machine executed
abbrev pub moments_onto : Option Moment → List Moment → List Moment
moments_onto (Some moment) moments = moment ∷ moments
moments_onto None moments = moments

abbrev pub moments_of : List Turn → List Moment
moments_of [] = []
moments_of (turn ∷ turns) = moments_onto turn.moment (moments_of turns)

abbrev pub answers_of : List Turn → List ℕ
answers_of turns = flat_map (λ turn. turn.answer) turns

-- the state after a turn
abbrev pub after_turn : Machine → Turn → Machine
after_turn old turn = end_of old (moments_onto turn.moment [])

-- each line was answered, in the state after those before it
abbrev pub AnswersEach : Config → Machine → List (List ℕ) → List Turn → Type 0
AnswersEach config old [] [] = Unit {0}
AnswersEach config old [] (turn ∷ turns) = ⊥
AnswersEach config old (line ∷ lines) [] = ⊥
AnswersEach config old (line ∷ lines) (turn ∷ turns) = Answers config old line turn × AnswersEach config (after_turn old turn) lines turns

-- how many rows of the table with the name are pending; nothing is pending in a table that isn't mounted
abbrev pub pending_at : Option Located → ℕ
pending_at None = 0
pending_at (Some at) = at.table.pending

abbrev pub pending_in : Config → Machine → List ℕ → ℕ
pending_in config m name = if m.mounted then pending_at (located config m name) else 0

abbrev pub pending_rows : Config → Machine → ℕ
pending_rows config m = sum_by (λ plan. pending_in config m plan.name) config.plans

-- the flush of each table in its order, where rows are pending
abbrev pub flush_of : Plan → Command
flush_of plan = command.Flush plan.name

abbrev pub flushes_of : Config → Machine → List Command
flushes_of config m = if pending_rows config m == 0 then [] else map flush_of config.plans

-- it was answered by `ok`
abbrev pub IsDone : Moment → Type 0
IsDone moment = texts moment.replies ≡ text reply.Done

-- What was pending was flushed by these commands; and it is told how many rows these were, and whether each flush was done and
-- nothing is pending then.
pub record FlushesAll (config : Config) (m : Machine) (flushes : List Moment) (flushed : Flushed) : Type 0 where
  pub commands_are : commands_of flushes ≡ flushes_of config m
  pub counted : flushed.pending ≡ pending_rows config m
  pub done : flushed.all ≡ true → AllByRecursion IsDone flushes × (pending_rows config (end_of m flushes) ≡ 0)
  pub undone : flushed.all ≡ false → (AllByRecursion IsDone flushes × (pending_rows config (end_of m flushes) ≡ 0)) → ⊥

-- a read that failed beside the commands of a turn has its cause
abbrev pub HasCauses : ℕ → ℕ → Turn → Type 0
HasCauses faults faults_now turn = list_any (λ failed. failed) turn.unread ≡ true → Rose faults faults_now

-- What the machine executed: these moments are a run of it. `stands` says for which states the session stands then; `content` is the
-- medium's before and after.
pub record RanOver (config : Config) (old : Machine) (moments : List Moment) (stands : Machine → Type 0) (content content_now : List ℕ) (faults faults_now : ℕ) : Type 0 where
  pub run : Run config old moments
  pub stands_after : stands (end_of old moments)
  -- each leaves the medium as its state says, and what it doesn't touch there as it was
  pub stays : StaysEach config old moments content content_now
  -- the medium's faults rose in no more of them than it failed
  pub rose : RoseBy (risen_in moments) faults faults_now
  -- each mount that succeeds finds the records of each table
  pub found : (place : ℕ) → FindsAt config place old moments
  -- .. and of each table with a log all that was put
  pub kept : (place : ℕ) → KeepsPutsAt config place old moments

-- Of some turns `before` were answered whole, and these bytes are written: where all were, their answers; and where the sink failed,
-- those of all turns but the last, and a front of the last one's.
abbrev pub AreWritten : Bool → List Turn → List Turn → List ℕ → Type 0
AreWritten true turns before text = (before ≡ turns) × (text ≡ answers_of turns)
AreWritten false turns before text =
    (last : Turn) × (front : List ℕ) × (turns ≡ before ++ last ∷ []) × IsFront front last.answer × (text ≡ answers_of before ++ front)

-- Each of these lines was answered, whole or but for the end of the last answer, and then what was pending was flushed. What the
-- machine executed is a run of it, to which the other lines add nothing.
pub record Talked (config : Config) (old : Machine) (lines : List (List ℕ)) (whole : Bool) (flushed : Flushed) (stands : Machine → Type 0) (content content_now : List ℕ) (faults faults_now : ℕ) (told told_now : Option (List ℕ)) : Type 0 where
  pub turns : List Turn
  pub each : AnswersEach config old lines turns
  pub flushes : List Moment
  pub flushes_all : FlushesAll config (end_of old (moments_of turns)) flushes flushed
  pub ran : RanOver config old (moments_of turns ++ flushes) stands content content_now faults faults_now
  pub causes : AllByRecursion (HasCauses faults faults_now) turns
  pub before : List Turn
  pub text : List ℕ
  pub written : AreWritten whole turns before text
  pub told_all : Appends told told_now text
  -- the commands of the turns that were answered whole read as many pages as each may, and the flushes none
  pub reads : KeepsReads config old (moments_of before)
  pub unread : AllByRecursion none_read flushes
