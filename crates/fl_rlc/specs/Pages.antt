-- The pages of a record log: each has the rows that were pending when it was sealed.
use Rattle.std.specs.Prelude.{◌≡◌, ℕ, ◌+◌, ◌-◌, ◌<◌, ◌≤◌, nat_lt, List, length, map, filter, if◌then◌else◌}
use Rattle.std.specs.List.{AllByRecursion}
use Rattle.fl_model.specs.Facts.{IsLogPage}
use Rattle.fl_model.specs.Image.{IsRingImage, HoldsPage}
use Rattle.fl_model.specs.Layout.{rows_body}
use Rattle.fl_model.specs.Record.{Plan, row_layout, rows_per_page}
use Rattle.fl_model.specs.Ring.{Ring, IsRing}
use Rattle.fl_model.specs.Row.{stored_row}
use Rattle.fl_model.specs.Table.{Entry, LogRing, shape_of}

-- the body of a page with these records: that of a data page without a bitmap
abbrev pub log_body : Plan → ℕ → List Entry → List ℕ
log_body plan number rows = rows_body (plan.geometry.page - 8) (row_layout plan) number 0 (map stored_row rows)

-- records that are one page's
pub record IsPage (plan : Plan) (rows : List Entry) : Type 0 where
  pub some : 0 < length rows
  pub few : length rows ≤ rows_per_page plan
  pub page : IsLogPage plan rows

-- pages that are those of a log; `pages` has the records of each kept page that isn't void
pub record IsLogRing (plan : Plan) (pages : List (List Entry)) (ring : Ring) (at : ℕ → List ℕ) : Type 0 where
  pub facts : IsRing (shape_of plan LogRing) ring
  pub number : ring.next + (if ring.torn then 1 else 0) ≤ 4294967292
  pub each : map (λ rows. length rows) pages ≡ filter (nat_lt 0) ring.counts
  pub few : AllByRecursion (λ count. count ≤ rows_per_page plan) ring.counts
  pub fit : AllByRecursion (IsLogPage plan) pages
  pub image : IsRingImage (shape_of plan LogRing) ring at (HoldsPage pages (log_body plan) ring)
