-- Tables that a flash stands for are sound, and with which counts.
use Rattle.std.specs.Prelude.{◌≡◌, ℕ, ◌+◌, ◌≤◌, ◌==◌, Option, Some, IfSome, List, length, map, take, sum, sum_by, count_by, slice_get}
use Rattle.fl_base.specs.Causes.{Appends, AppendsFront}
use Rattle.fl_base.specs.declared.types.RingPlace.{RingPlace}
use Rattle.fl_flash.specs.Flash.{FlashState, page_at}
use Rattle.fl_flash.specs.Places.{extent}
use Rattle.fl_image_check.specs.Checking.{IsFound, CheckEnds}
use Rattle.fl_image.specs.Header.{IsMade}
use Rattle.fl_image_check.specs.Report.{report_text}
use Rattle.fl_image.specs.declared.status.ToolStatus.{ToolStatus}
use Rattle.fl_image.specs.declared.status.ToolStatus.TheVariants.{Done, NotImage, Unsound}
use Rattle.fl_machine.specs.Machine.{Machine}
use Rattle.fl_machine.specs.Script.{Ready, start_of, ended, StandsAfter}
use Rattle.fl_model.specs.Bare.{bare}
use Rattle.fl_model.specs.Record.{Plan, Config, blocks_of}
use Rattle.fl_model.specs.Table.{Table}
use Rattle.fl_plan.specs.Plan.{IsConfigOf, IsRingAt}
use Rattle.fl_plan.specs.declared.table_config.TableConfig.{TableConfig}
use Rattle.fl_rlc.specs.Logged.{Rests}
use Rattle.fl_words.specs.Config.{Lines}
use Rattle.fl_words.specs.Medium.{IsImage}
use Rattle.fl_check.specs.Whole.{Fits, LogFits, IsFinding, Finds}
use Rattle.fl_check.specs.declared.finding.Finding.{Finding}
use Rattle.fl_check.specs.declared.finding.Finding.TheVariants.{Sound}

-- how many pages are void
abbrev pub void_pages : List ℕ → ℕ
void_pages counts = count_by (λ count. count == 0) counts

-- a table is sound: so many rows, in so many kept pages, of which so many are void
abbrev pub sound_table : Table → Finding
sound_table table = Sound (sum table.rows.counts) (length table.rows.counts) (void_pages table.rows.counts)

-- the log of a plan stands behind the rings of its configuration, on a flash; no table with one has variable data
pub record LogStands (config : TableConfig) (log : Option RingPlace) (f : FlashState) (plan : Plan) : Type 0 where
  pub at : IsRingAt log (config.rows.first_block + plan.data_blocks + plan.index_blocks + plan.var_blocks) plan.log_blocks
  pub fits : LogFits log f
  pub alone : IfSome log (λ place. plan.var_blocks ≡ 0)

-- a flash whose medium reaches to its end stands for this table of a configuration, with its log where it has one
pub record StandsOn (config : TableConfig) (log : Option RingPlace) (f : FlashState) (plan : Plan) (table : Table) : Type 0 where
  pub fits : Fits config f
  pub reaches : f.start + extent f.geometry f.blocks ≤ length f.media.content
  pub config_is : IsConfigOf config (bare plan)
  pub log_stands : LogStands config log f plan
  pub rests : Rests f config.rows.first_block plan table

-- a flash over the bytes of an image, and where the image's i-th table lies on it
pub record LiesIn (config : Config) (bytes : List ℕ) (i : ℕ) (plan : Plan) (table : TableConfig) (log : Option RingPlace) (f : FlashState) : Type 0 where
  pub plan_is : slice_get config.plans i ≡ Some plan
  pub config_is : IsConfigOf table (bare plan)
  pub log_stands : LogStands table log f plan
  pub first : table.rows.first_block ≡ sum_by blocks_of (take i config.plans)
  pub fits : Fits table f
  pub content : f.media.content ≡ bytes
  pub start : f.start ≡ 1024
  pub geometry : f.geometry ≡ config.geometry
  pub blocks : f.blocks ≡ sum_by blocks_of config.plans

-- this is what is found, and nothing else
pub record FindsAlone (config : TableConfig) (log : Option RingPlace) (f : FlashState) (finding : Finding) : Type 0 where
  pub found : IsFinding config log (page_at f) finding
  pub alone : (other : Finding) → IsFinding config log (page_at f) other → other ≡ finding

-- the lines of sound tables
abbrev pub sound_text : Config → List Table → List ℕ
sound_text config tables = report_text config.plans (map sound_table tables)

-- How a check of the image of these tables ends: never with a fault. Whatever its status is, what it has written is a front of
-- their lines, and all of them where it is done.
pub record TellsSound (config : Config) (tables : List Table) (told told_now : Option (List ℕ)) (status : ToolStatus) : Type 0 where
  pub image : status ≡ NotImage → ⊥
  pub sound : status ≡ Unsound → ⊥
  pub front : AppendsFront told told_now (sound_text config tables)
  pub lines : status ≡ Done → Appends told told_now (sound_text config tables)

pub record TablesAreSound : Type 0 where
  -- a table for which a flash stands
  pub tables : (config : TableConfig) (log : Option RingPlace) (f : FlashState) (plan : Plan) (table : Table) → StandsOn config log f plan table → FindsAlone config log f (sound_table table)
  -- a table of an image
  pub images : (config : Config) (bytes : List ℕ) (tables : List Table) (i : ℕ) (plan : Plan) (table : Table) (c : TableConfig) (log : Option RingPlace) (f : FlashState) →
      IsImage config bytes tables → slice_get tables i ≡ Some table → LiesIn config bytes i plan c log f → FindsAlone c log f (sound_table table)
  -- a table of the image that a run leaves
  pub runs : (config : Config) (bytes : List ℕ) (machine : Machine) (i : ℕ) (plan : Plan) (table : Table) (c : TableConfig) (log : Option RingPlace) (f : FlashState) →
      StandsAfter config (Some bytes) machine → slice_get machine.tables i ≡ Some table → LiesIn config bytes i plan c log f → FindsAlone c log f (sound_table table)
  -- what a check of an image finds of its i-th table
  pub checks : (config : Config) (lines : Lines) (bytes : List ℕ) (tables : List Table) (i : ℕ) (table : Table) (finding : Finding) →
      lines.device ≡ Some config.geometry → lines.plans ≡ config.plans → IsImage config bytes tables → slice_get tables i ≡ Some table → IsFound Finds lines bytes i finding → finding ≡ sound_table table
  -- .. and how it ends, where accepted lines made the configuration
  pub ends : (config : Config) (bytes : List ℕ) (tables : List Table) (told told_now : Option (List ℕ)) (status : ToolStatus) →
      IsMade config → IsImage config bytes tables → CheckEnds Finds bytes told told_now status → TellsSound config tables told told_now status
  -- the configuration of each script is made so
  pub scripts : (knots : ℕ) (lines : List (List ℕ)) (config : Config) (line : ℕ) (rest : List (List ℕ)) → ended (start_of knots lines) ≡ Ready config line rest → IsMade config
