-- The points of a table go with its pages.
use Rattle.std.specs.Prelude.{◌≡◌, ℕ, ◌<◌, Some}
use Rattle.fl_model.specs.Record.{Plan}
use Rattle.fl_model.specs.Ring.{IsShape}
use Rattle.fl_model.specs.Table.{Table, DataRing, shape_of, first_pending, seal_buffer}
use Rattle.fl_model.specs.Facts.{IsTable}
use Rattle.fl_model.specs.Mount.{ready}
use Rattle.fl_spline.specs.Points.{IsFurther}
use Rattle.fl_find.specs.Standing.{HasPoints}

-- a table that was mounted has the points of its pages
abbrev pub MountsHavePoints : Plan → Table → Type 0
MountsHavePoints plan table = HasPoints (ready plan table)

-- the page that is sealed next is further than all points
abbrev pub SealsComeFurther : Plan → Table → Type 0
SealsComeFurther plan table = (key : ℕ) → IsTable plan table → HasPoints table → first_pending table ≡ Some key → IsFurther table.points (key, table.rows.next)

-- and its point joins them, also where the oldest pages are given up
abbrev pub SealsKeepPoints : Plan → Table → Type 0
SealsKeepPoints plan table = IsShape (shape_of plan DataRing) → IsTable plan table → HasPoints table → 0 < table.pending → HasPoints (seal_buffer plan DataRing table)
