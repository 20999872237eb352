-- What a session tells of the oldest record whose blob isn't gone.
use Rattle.std.specs.Prelude.{◌≡◌, ℕ, ◌+◌, ◌≤◌, true, false, Option, None, option_map, unwrap_or, IsSomeAnd, Result, Err, List}
use Rattle.fl_flash.specs.Flash.{FlashState}
use Rattle.fl_machine.specs.Machine.{Machine}
use Rattle.fl_machine.specs.Step.{located}
use Rattle.fl_model.specs.Limits.{scan_limit}
use Rattle.fl_model.specs.Record.{Config}
use Rattle.fl_script.specs.declared.reply.Reply.{Reply}
use Rattle.fl_script.specs.declared.reply.Reply.TheVariants.{NotMounted, NoTable}
use Rattle.fl_queries.specs.OldestBlob.{FindsOldest}
use Rattle.fl_queries.specs.Keys.{all_keys}

-- Its key is found in the table with the name; or nothing is mounted, or no table has the name.
abbrev pub FindsOf : Config → Machine → List ℕ → ℕ → ℕ → Result (Option ℕ) Reply → Type 0
FindsOf config m name faults faults_now (Err NotMounted) = m.mounted ≡ false
FindsOf config m name faults faults_now (Err NoTable) = (m.mounted ≡ true) × (located config m name ≡ None)
FindsOf config m name faults faults_now result = (m.mounted ≡ true) × IsSomeAnd (located config m name) (λ at. FindsOldest at.table faults faults_now result)

-- the pages that are read for it at most: those of a scan of the table
abbrev pub reads_of : Config → Machine → List ℕ → ℕ
reads_of config m name = unwrap_or (option_map (λ at. scan_limit config.knots at.plan at.table all_keys None 0) (located config m name)) 0

-- The oldest blob of a table was looked for: pages were read, and the session stands for the same state.
pub record LooksFor (config : Config) (m : Machine) (name : List ℕ) (stands : Machine → Type 0) (flash flash_now : FlashState) (result : Result (Option ℕ) Reply) : Type 0 where
  pub finds : FindsOf config m name flash.media.faults flash_now.media.faults result
  pub stays : stands m
  pub content : flash_now.media.content ≡ flash.media.content
  pub reads : flash_now.work.reads ≤ flash.work.reads + reads_of config m name
