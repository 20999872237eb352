-- Pages that have the form of data pages have rows.
use Rattle.std.proofs.Common.{ℕ, ◌+◌, ◌-◌, ◌*◌, ◌<◌, ◌≤◌, Bool, Option, List, length, drop, refl, arith}
use Rattle.std.proofs.lemmas.List.{length-take}
use Rattle.std.proofs.Math.Nat.{le-div_iff_mul-le}
use Rattle.fl_bitmap.specs.declared.buckets.Buckets.{Buckets}
use Rattle.fl_flash.specs.Flash.{FlashState, page_at}
use Rattle.fl_model.specs.Record.{layout_len}
use Rattle.fl_page.specs.Header.{page_count}
use Rattle.fl_page.specs.Page.{IsGoodPage}
use Rattle.fl_page.proofs.WriterSteps.{layout_some}
use Rattle.fl_ring.specs.Ring.{Shape}
use Rattle.fl_schema.specs.Form.{layout_with}
use Rattle.fl_schema.specs.declared.column.ColumnType.{ColumnType}
use Rattle.fl_schema.specs.declared.schema.KeyWidth.{KeyWidth}
use Rattle.fl_rules.specs.Bodies.{HaveBodies}
use Rattle.fl_rules.specs.DataPage.{IsDataPage}
use Rattle.fl_rules.specs.Marks.{kept_page}
use Rattle.fl_rules.specs.Numbers.{HaveNumbers}
use Rattle.fl_rules.specs.Rising.{HaveRows}
use Rattle.fl_rules.specs.RingRules.{IsFormed}
use Rattle.fl_rules.specs.declared.numbering.Numbering.{Numbering}
use Rattle.fl_rules.proofs.DataPages.{data_good}

-- no page has more bytes than the flash says
pub page_short : (f : FlashState) (p : ℕ) → length (page_at f p) ≤ f.geometry.page
page_short f p =
    let begin = f.start + p * f.geometry.page in
    let e = length-take (begin + f.geometry.page - begin) (drop begin f.media.content) in
    omega (arith, e)

-- a page has few rows
pub good_few : (key : KeyWidth) (types : List ColumnType) (blobs : Bool) (page : List ℕ) (number : ℕ) → IsGoodPage (layout_with key types blobs) number page → length page ≤ 4096 → page_count page ≤ 4096
good_few key types blobs page number good short =
    let some = layout_some key types blobs in
    let fits = (le-div_iff_mul-le {x = page_count page} {y = length page - 24} some).0 good.room in
    let each : page_count page ≤ page_count page * layout_len (layout_with key types blobs) = grind (arith, some) in
    omega (arith, fits, each, short)

module _ (key : KeyWidth) (types : List ColumnType) (blobs : Bool) (buckets : Option Buckets) where
  -- a data page has its header
  long : (number : ℕ) (page : List ℕ) → IsDataPage (layout_with key types blobs) buckets number page → 24 ≤ length page
  long number page is =
      let some = layout_some key types blobs in
      let fits = (le-div_iff_mul-le {x = length is.rows} {y = length page - 24} some).0 is.few in
      let each : 1 ≤ length is.rows * layout_len (layout_with key types blobs) = grind (arith, is.some, some) in
      omega (arith, fits, each)

  -- where they have their numbers and bodies
  pub rows_of : (page : ℕ → List ℕ) (r : Shape) (at_least : ℕ) (n : Numbering) → ((p : ℕ) → length (page p) < 65536) → HaveNumbers page r n.marks at_least n.next
      → HaveBodies (λ number bytes. IsDataPage (layout_with key types blobs) buckets number bytes) page r n → HaveRows (layout_with key types blobs) page r n.marks
  rows_of page r at_least n short numbers bodies = λ i lt committed.
      let bytes = page (kept_page r n.marks i) in
      let number = n.next - (n.marks.kept - i) in
      let own = (numbers.each i lt).not_negative in
      let is = bodies i lt number (omega (arith, own)) committed in
      let left = numbers.left in
      let good = data_good key types blobs bytes number buckets (long number bytes is) is (omega (arith, left)) (short (kept_page r n.marks i)) in
      record { number_is = refl; some = good.some; room = good.room }

  pub have_rows : (page : ℕ → List ℕ) (r : Shape) (at_least : ℕ) (n : Numbering) → ((p : ℕ) → length (page p) < 65536)
      → IsFormed (λ number bytes. IsDataPage (layout_with key types blobs) buckets number bytes) page r at_least n → HaveRows (layout_with key types blobs) page r n.marks
  have_rows page r at_least n short formed = rows_of page r at_least n short formed.numbered.numbers formed.bodies
