-- What clauses see of a page view.
use Rattle.std.specs.Prelude.{ℕ, List, drop}
use Rattle.fl_model.specs.Record.{RowLayout}
use Rattle.fl_model.specs.Row.{Row}
use Rattle.fl_schema.specs.Schema.{kind_layout}
use Rattle.fl_page.specs.declared.view.PageView.{PageView}
use Rattle.fl_page.specs.Page.{rows_from}

abbrev pub page_of : {COLS : ℕ} → PageView COLS → List ℕ
page_of view = view.bytes.now

abbrev pub layout_of_page : {COLS : ℕ} → PageView COLS → RowLayout
layout_of_page view = kind_layout view.kind

abbrev pub count_of : {COLS : ℕ} → PageView COLS → ℕ
count_of view = view.count

abbrev pub rows_of : {COLS : ℕ} → PageView COLS → List Row
rows_of view = rows_from (count_of view) (layout_of_page view) (drop 16 (page_of view))
