-- The bytes of a medium after each command of a run: they stand for the state, and what the command's operations don't
-- touch is as it was.
use Rattle.std.specs.Prelude.{◌≡◌, ◌⊎◌, ℕ, ◌-◌, ◌*◌, ◌<◌, ◌≤◌, Bool, true, false, Some, None, List, [], ◌∷◌, ◌++◌, map, take, replicate, slice_get, sum_by, MatchBool, IsTrue}
use Rattle.fl_model.specs.Image.{bytes_at, page_bytes, first_block}
use Rattle.fl_model.specs.Layout.{is_blank, IsTornPage}
use Rattle.fl_model.specs.Record.{Plan, Config, blocks_of, has_log}
use Rattle.fl_model.specs.Ring.{Ring, oldest}
use Rattle.fl_model.specs.Table.{Table, RingName, DataRing, IndexRing, VarRing, LogRing, lose}
use Rattle.fl_words.specs.Command as command
use Rattle.fl_words.specs.Command.{Command}
use Rattle.fl_words.specs.Medium.{IsImage}
use Rattle.fl_words.specs.Reply as reply
use Rattle.fl_words.specs.Reply.{Reply}
use Rattle.fl_machine.specs.Machine.{Machine}
use Rattle.fl_machine.specs.Step.{Moment}

-- Each page of a ring that is kept before and after has the bytes that it had. The ring's other pages are those that were
-- sealed since, and blank ones.
abbrev pub RingStays : Config → List ℕ → List ℕ → ℕ → Plan → RingName → Ring → Ring → Type 0
RingStays config bytes now place plan ring before after =
    (number : ℕ) → oldest after ≤ number → number < before.next → bytes_at config now place plan ring number ≡ bytes_at config bytes place plan ring number

-- .. each ring of a table
pub record TableStays (config : Config) (bytes now : List ℕ) (place : ℕ) (plan : Plan) (before after : Table) : Type 0 where
  pub rows : RingStays config bytes now place plan DataRing before.rows after.rows
  pub index : (old new : Ring) → before.index ≡ Some old → after.index ≡ Some new → RingStays config bytes now place plan IndexRing old new
  pub var : (old new : Ring) → before.var ≡ Some old → after.var ≡ Some new → RingStays config bytes now place plan VarRing old new
  pub log : (old new : Ring) → before.log ≡ Some old → after.log ≡ Some new → RingStays config bytes now place plan LogRing old new

-- .. of each table
abbrev pub TablesStay : Config → List ℕ → List ℕ → List Table → List Table → Type 0
TablesStay config bytes now tables after =
    (place : ℕ) (plan : Plan) (old new : Table) → slice_get config.plans place ≡ Some plan → slice_get tables place ≡ Some old → slice_get after place ≡ Some new →
    TableStays config bytes now place plan old new

-- a page after the repairs of a mount: it stands, or it was torn and its last four bytes became zero, or it was erased
abbrev pub IsRepaired : Config → List ℕ → List ℕ → Type 0
IsRepaired config old new =
    (new ≡ old) ⊎ ((IsTornPage old × (new ≡ take (config.geometry.page - 4) old ++ replicate 4 0)) ⊎ (is_blank new ≡ true))

-- .. or it was blank, in the data or index ring of a table with a log, whose records are sealed at the end of the mount
pub record IsReplayed (config : Config) (page : ℕ) (old : List ℕ) : Type 0 where
  pub place : ℕ
  pub plan : Plan
  pub is : slice_get config.plans place ≡ Some plan
  pub logged : IsTrue (has_log plan)
  pub from : first_block config place plan DataRing * config.geometry.block ≤ page
  pub below : page < first_block config place plan VarRing * config.geometry.block
  pub blank : is_blank old ≡ true

abbrev pub PagesAreRepaired : Config → List ℕ → List ℕ → Type 0
PagesAreRepaired config bytes now =
    (page : ℕ) → page < sum_by blocks_of config.plans * config.geometry.block →
    IsRepaired config (page_bytes config bytes page) (page_bytes config now page) ⊎ IsReplayed config page (page_bytes config bytes page)

-- what a command of which each operation was done leaves as it was
abbrev pub CommandStays : Config → Machine → Command → Machine → List ℕ → List ℕ → Type 0
CommandStays config old command.Mount after bytes now = MatchBool old.mounted (now ≡ bytes) (PagesAreRepaired config bytes now)
CommandStays config old (command.Put name key values blob) after bytes now = MatchBool old.mounted (TablesStay config bytes now old.tables after.tables) (now ≡ bytes)
CommandStays config old (command.Flush name) after bytes now = MatchBool old.mounted (TablesStay config bytes now old.tables after.tables) (now ≡ bytes)
CommandStays config old (command.Load name count step seed) after bytes now = MatchBool old.mounted (TablesStay config bytes now old.tables after.tables) (now ≡ bytes)
CommandStays config old _ after bytes now = now ≡ bytes

-- this reply refuses a put, a flush, a load or a mount
abbrev pub is_refusal : Reply → Bool
is_refusal reply.NotMounted = true
is_refusal reply.AlreadyMounted = true
is_refusal reply.NoTable = true
is_refusal (reply.RefusedKey last) = true
is_refusal (reply.RefusedColumns wanted) = true
is_refusal (reply.RefusedValue column) = true
is_refusal (reply.RefusedBlob limit) = true
is_refusal reply.RefusedSpent = true
is_refusal _ = false

-- .. and is all that was replied
abbrev pub are_refusal : List Reply → Bool
are_refusal [] = false
are_refusal (said ∷ []) = is_refusal said
are_refusal (said ∷ next ∷ more) = false

-- a command that has no operations, or was refused
abbrev pub IsIdle : Command → List Reply → Type 0
IsIdle command.Mount replies = IsTrue (are_refusal replies)
IsIdle (command.Put name key values blob) replies = IsTrue (are_refusal replies)
IsIdle (command.Flush name) replies = IsTrue (are_refusal replies)
IsIdle (command.Load name count step seed) replies = IsTrue (are_refusal replies)
IsIdle _ replies = Unit {0}

-- the bytes before and after a moment
pub record MomentStays (config : Config) (old : Machine) (moment : Moment) (bytes now : List ℕ) : Type 0 where
  -- they stand for the state after it, whatever failed
  pub image : IsImage config now (map lose moment.after.tables)
  -- an idle one changes no byte, though a read or whatever else of the medium failed
  pub idle : IsIdle moment.command moment.replies → now ≡ bytes
  -- all its operations were done, and the reads of a mount
  pub stays : (moment.command ≡ command.Mount → moment.rose ≡ false) → moment.last ≡ None → CommandStays config old moment.command moment.after bytes now

-- .. and those before and after each of these moments
abbrev pub StaysEach : Config → Machine → List Moment → List ℕ → List ℕ → Type 0
StaysEach config old [] bytes now = now ≡ bytes
StaysEach config old (moment ∷ moments) bytes now =
    (mid : List ℕ) × MomentStays config old moment bytes mid × StaysEach config moment.after moments mid now
