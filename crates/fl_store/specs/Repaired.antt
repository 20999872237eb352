-- What the mount of the tables leaves of a page.
use Rattle.std.specs.Prelude.{◌≡◌, ◌⊎◌, ℕ, ◌+◌, ◌*◌, ◌<◌, ◌≤◌, Some, List, slice_get, sum_by, IsTrue}
use Rattle.fl_base.specs.declared.types.Geometry.{Geometry}
use Rattle.fl_flash.specs.Flash.{blank}
use Rattle.fl_model.specs.Image.{page_bytes}
use Rattle.fl_model.specs.Record.{Plan, Config, blocks_of, has_log}
pub use Rattle.fl_rlc.specs.Left.{IsRepaired}
use Rattle.fl_store.specs.Tables.{first_of}

-- a blank page of the data or index ring of a table with a log: the mount seals the records there that the log has alone
pub record IsReplayed (plans : List Plan) (geometry : Geometry) (page : ℕ) (old : List ℕ) : Type 0 where
  pub place : ℕ
  pub plan : Plan
  pub is : slice_get plans place ≡ Some plan
  pub logged : IsTrue (has_log plan)
  pub from : first_of plans place * geometry.block ≤ page
  pub below : page < (first_of plans place + plan.data_blocks + plan.index_blocks) * geometry.block
  pub blank : old ≡ blank geometry.page

-- what becomes of a page
abbrev pub IsLeft : List Plan → Geometry → ℕ → List ℕ → List ℕ → Type 0
IsLeft plans geometry page old new = IsRepaired geometry.page old new ⊎ IsReplayed plans geometry page old

-- Each page of the tables' rings stands, or was torn and is void now, or is erased; or it was blank, and has records that only a
-- log had.
abbrev pub AreRepaired : Config → List ℕ → List ℕ → Type 0
AreRepaired config content content_now =
    (page : ℕ) → page < sum_by blocks_of config.plans * config.geometry.block → IsLeft config.plans config.geometry page (page_bytes config content page) (page_bytes config content_now page)

-- a page of the rings of a table that has another name
pub record IsOfOther (plans : List Plan) (name : List ℕ) (block page : ℕ) : Type 0 where
  pub at : ℕ
  pub plan : Plan
  pub here : slice_get plans at ≡ Some plan
  pub other : plan.name ≡ name → ⊥
  pub from : first_of plans at * block ≤ page
  pub upto : page < (first_of plans at + blocks_of plan) * block

-- Each page of the rings of the other tables stands, or was torn and is void now, or is erased; or it was blank, and has records
-- that only a log had.
abbrev pub OthersAreRepaired : Config → List ℕ → List ℕ → List ℕ → Type 0
OthersAreRepaired config name content content_now =
    (page : ℕ) → IsOfOther config.plans name config.geometry.block page → IsLeft config.plans config.geometry page (page_bytes config content page) (page_bytes config content_now page)
