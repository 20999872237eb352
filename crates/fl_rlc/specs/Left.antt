-- What the mount of a table that may have a log leaves of the pages of a flash.
use Rattle.std.specs.Prelude.{◌≡◌, ◌⊎◌, ℕ, ◌+◌, ◌-◌, ◌*◌, ◌<◌, ◌≤◌, List, replicate, IsTrue, IsSomeAnd}
use Rattle.fl_flash.specs.Flash.{programmed, blank}
use Rattle.fl_mark.specs.Mark.{state_of_page}
use Rattle.fl_mark.specs.declared.page_state.PageState.TheVariants.{Torn}
use Rattle.fl_model.specs.Bare.{bare}
use Rattle.fl_model.specs.Record.{Plan, blocks_of, has_log}
use Rattle.fl_model.specs.Table.{Table, DataRing, IndexRing}
use Rattle.fl_parts.specs.Pages.{place_in}

-- a page of so many bytes stands, or it was torn and its void mark was programmed, or it was erased
abbrev pub IsRepaired : ℕ → List ℕ → List ℕ → Type 0
IsRepaired size old new =
    (new ≡ old) ⊎ (((state_of_page old ≡ Torn) × (new ≡ programmed old (size - 4) (replicate 4 0))) ⊎ (new ≡ blank size))

-- a blank page of the data or index ring of a table with a log, where its blocks begin at `first`: the mount seals the
-- records there that the log has alone
pub record IsReplayed (first : ℕ) (plan : Plan) (page : ℕ) (old : List ℕ) : Type 0 where
  pub logged : IsTrue (has_log plan)
  pub from : first * plan.geometry.block ≤ page
  pub below : page < (first + plan.data_blocks + plan.index_blocks) * plan.geometry.block
  pub blank : old ≡ blank plan.geometry.page

-- The mount of a table: its pages are repaired, or have the records that its log had alone, and all others stand.
pub record LeavesPages (first : ℕ) (plan : Plan) (old new : ℕ → List ℕ) : Type 0 where
  pub each : (page : ℕ) → IsRepaired plan.geometry.page (old page) (new page) ⊎ IsReplayed first plan page (old page)
  pub before : (page : ℕ) → page < first * plan.geometry.block → new page ≡ old page
  pub behind : (page : ℕ) → (first + blocks_of plan) * plan.geometry.block ≤ page → new page ≡ old page

-- the page that is next in the data ring, or in the index ring
abbrev pub IsNextPage : ℕ → Plan → Table → ℕ → Type 0
IsNextPage first plan table page = (page ≡ place_in first plan DataRing table.rows.next) ⊎ IsSomeAnd table.index (λ ring. page ≡ place_in first plan IndexRing ring.next)

-- A replay: each page of the table's rings stands, or was erased, or is the one that was next. Those of its log are repaired,
-- and all others stand.
pub record ReplayLeaves (first : ℕ) (plan : Plan) (table : Table) (old new : ℕ → List ℕ) : Type 0 where
  pub rings : (page : ℕ) → page < (first + blocks_of (bare plan)) * plan.geometry.block → (new page ≡ old page) ⊎ ((new page ≡ blank plan.geometry.page) ⊎ IsNextPage first plan table page)
  pub log : (page : ℕ) → (first + blocks_of (bare plan)) * plan.geometry.block ≤ page → IsRepaired plan.geometry.page (old page) (new page)
  pub before : (page : ℕ) → page < first * plan.geometry.block → new page ≡ old page
  pub behind : (page : ℕ) → (first + blocks_of plan) * plan.geometry.block ≤ page → new page ≡ old page
