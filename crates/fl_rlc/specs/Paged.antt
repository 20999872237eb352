-- What a put programs, over any bytes.
use Rattle.std.specs.Prelude.{◌≡◌, ◌⊎◌, ℕ, ◌+◌, IfSome, IsTrue, Option, List, [], ◌∷◌, ◌++◌, length}
use Rattle.fl_flash.specs.Flash.{FlashState, page_at}
use Rattle.fl_model.specs.Layout.{rows_body}
use Rattle.fl_model.specs.Record.{RowLayout}
use Rattle.fl_model.specs.Row.{Row}
use Rattle.fl_page.specs.Writer.{Gathers}
use Rattle.fl_ring.specs.Ring.{place}
use Rattle.fl_ring.specs.Written.{Writes, sealed_over}
use Rattle.fl_parts.specs.Bitmaps.{IsOutside}
use Rattle.fl_table.specs.BlobAt.{data_in}
use Rattle.fl_parts.specs.Blobs.{most_pages, MayFill}
use Rattle.fl_table.specs.Look.{layout_in}
use Rattle.fl_table.specs.Memory.{ring_shape}
use Rattle.fl_table.specs.Paged.{IsApart, RowsAhead, RowsPaged, next_page}
use Rattle.fl_rlc.specs.Memory.{kept_rows, log_shape, next_in, rows_in, LogAhead}
use Rattle.fl_rlc.specs.Table.{MayPut, MaySealLog, log_in, rings_in, table_in}
use Rattle.fl_rlc.specs.declared.log.RecordLog.{RecordLog}
use Rattle.fl_rlc.specs.declared.table.LoggedTable.{LoggedTable}

-- the flash page that the gathered rows of a log are for
abbrev pub log_page : RecordLog → ℕ
log_page log = place (log_shape log) (next_in log)

-- the body that these rows make, and the mark of a commit, were programmed over what the log's next page held
abbrev pub RowsLogged : RecordLog → RowLayout → List Row → (ℕ → List ℕ) → (ℕ → List ℕ) → Type 0
RowsLogged log layout rows old new = new (log_page log) ≡ sealed_over (log_shape log) (rows_body (length (rows_in log).body) layout (next_in log) 0 rows) (old (log_page log))

-- those that stay of the gathered rows, and this one
abbrev pub RowLogged : RowLayout → Row → Option RecordLog → (ℕ → List ℕ) → (ℕ → List ℕ) → Type 0
RowLogged layout row held old new = IfSome held (λ log. (rows : List Row) → Gathers layout rows (rows_in log) → RowsLogged log layout (kept_rows layout (rows_in log) rows ++ row ∷ []) old new)

-- .. in a put, where the log's page is in no other ring. The block ahead was erased where the oldest one goes.
abbrev pub PutLogged : {KNOTS SLOTS : ℕ} → LoggedTable KNOTS SLOTS → Row → FlashState → FlashState → Type 0
PutLogged t row f g =
    IsTrue f.media.tells →
    (IfSome (log_in t) (λ log. IsOutside (ring_shape (table_in t)) (log_page log) × IsApart (table_in t) (log_page log)) → RowLogged (layout_in (table_in t)) row (log_in t) (page_at f) (page_at g)) × IfSome (log_in t) (λ log. LogAhead log (page_at g))

-- A put found the page of pending rows full: they were flushed as those of its table are, and neither a blob nor the log changed their page, where it is in no other ring.
pub record HasMadePage {KNOTS SLOTS : ℕ} (t : LoggedTable KNOTS SLOTS) (blob : Option (List ℕ)) (f g : FlashState) : Type 0 where
  pub writes : Writes (MayPut t blob) 1 (rings_in t + most_pages (data_in (table_in t)) blob) f g
  pub page : IsTrue f.media.tells → IsApart (table_in t) (next_page (table_in t)) → IfSome (log_in t) (λ log. IsOutside (log_shape log) (next_page (table_in t))) → RowsPaged (table_in t) (page_at f) (page_at g)
  pub ahead : IsTrue f.media.tells → RowsAhead (table_in t) (λ page. MayFill blob (data_in (table_in t)) page ⊎ MaySealLog (log_in t) page) (page_at g)
