-- The page of the pending rows, over the seals of a table's rings.
use Rattle.std.proofs.Common.{◌≡◌, ℕ, ◌≤◌, Option, Some, None, IfSome, Ok, List, IsTrue, length, sym, ◌∙◌, ap, subst}
use Rattle.fl_flash.specs.Flash.{FlashState, page_at}
use Rattle.fl_frame.proofs.CallsInTurn.{goes-then}
use Rattle.fl_index.specs.declared.index.BitmapIndex.{BitmapIndex}
use Rattle.fl_model.specs.Layout.{rows_body}
use Rattle.fl_ring.specs.Place.{next_of, shape_of}
use Rattle.fl_ring.specs.Written.{Writes, sealed_over, MaySealIn}
use Rattle.fl_ring.specs.declared.ring.Ring.{Ring}
use Rattle.fl_ring.proofs.Written.{page-as}
use Rattle.fl_schema.specs.Schema.{layout_of}
use Rattle.fl_parts.specs.Bitmaps as bitmaps
use Rattle.fl_parts.specs.Blobs as variable
use Rattle.fl_table.specs.Memory.{next_in, ring_shape, HasRoom, LiesOn}
use Rattle.fl_table.specs.Paged.{RowsAhead, HasFlushed, HasMadePage, IsApart, RowsPaged, next_page}
use Rattle.fl_table.specs.Sealing.{ReachesRows}
use Rattle.fl_table.specs.declared.table.Table.{Table}
use Rattle.fl_table.proofs.Finds.{next-in}
use Rattle.fl_parts.proofs.Outsides.{not-filled, stand-outside, var-outside, fill-moved}
use Rattle.fl_table.proofs.ReadsKeepTable.{lies-moved}
use Rattle.fl_table.proofs.Sealing.{RowsMake, rings-write}
use Rattle.fl_table.proofs.Writing.{put-writes}
use Rattle.fl_var.specs.Content.{content_body}
use Rattle.fl_var.specs.Memory as memory
use Rattle.fl_var.specs.Memory.{bytes_page, var_shape, waiting_in, BytesAhead, BytesPaged}
use Rattle.fl_var.proofs.Ahead.{ahead-later, held-ahead}
use Rattle.fl_var.specs.declared.var_data.VarData.{VarData}

-- the seals of a table's rings were all done
module _ {KNOTS SLOTS : ℕ} (t : Table KNOTS SLOTS) (ring : Ring) (has : t.ring ≡ Some ring) (body : List ℕ) (makes : RowsMake t ring body) (f : FlashState) (lies : LiesOn t f) (listed : Option BitmapIndex) (rest : Option VarData) (now : Ring) (g : FlashState)
    (h : ReachesRows t.bitmaps t.blobs ring body f (Ok tt) listed rest now g) where
  first_told : IsTrue f.media.tells → IsTrue h.first.media.tells
  first_told told = subst IsTrue (sym h.entries.flash.goes.tells) told

  then_told : IsTrue f.media.tells → IsTrue h.then.media.tells
  then_told told = subst IsTrue (sym h.bytes.flash.goes.tells) (first_told told)

  -- the page of rows, which stood before in each other ring
  rows-paged : IsTrue f.media.tells → IsApart t (next_page t) → RowsPaged t (page_at f) (page_at g)
  rows-paged told apart = λ rows gathers.
      let next = next-in t ring has in
      let made = makes (layout_of t.schema) rows gathers ∙ ap (λ n. rows_body (length t.writer.body) (layout_of t.schema) n t.bitmap rows) (sym next) in
      let stood : page_at h.first (next_page t) ≡ page_at f (next_page t) = stand-outside t.bitmaps (page_at f) (page_at h.first) (next_page t) (h.entries.flash.outside told) apart.index in
      let stands : page_at h.then (next_page t) ≡ page_at h.first (next_page t) = var-outside t.blobs (page_at h.first) (page_at h.then) (next_page t) (h.bytes.flash.outside (first_told told)) apart.blobs in
      page-as (shape_of ring) (ring_shape t) (next_of ring) (next_in t) body (rows_body (length t.writer.body) (layout_of t.schema) (next_in t) t.bitmap rows) (page_at h.then) (page_at g) (t.lies ring has) (sym next) made (h.rows.flash.page (then_told told))
      ∙ ap (λ (page : List ℕ). sealed_over (ring_shape t) (rows_body (length t.writer.body) (layout_of t.schema) (next_in t) t.bitmap rows) page) (stands ∙ stood)

  -- what the seal of the rows leaves
  rows-leave : IsTrue f.media.tells → (page : ℕ) → (MaySealIn t.ring page → ⊥) → page_at g page ≡ page_at h.then page
  rows-leave told page not = h.rows.flash.writes.tries.stands (then_told told) page (λ may. not (subst (λ (o : Option Ring). MaySealIn o page) (sym has) may))

  -- the page of the bytes of blobs, between the seals of the index and of the rows
  blobs-paged : (o : Option VarData) → IfSome o (λ var. 1 ≤ length (waiting_in var) → IsTrue h.first.media.tells → BytesPaged var (page_at h.first) (page_at h.then)) →
      IfSome o (λ var. 1 ≤ length (waiting_in var) → IsTrue f.media.tells → (bitmaps.MaySeal t.bitmaps (bytes_page var) → ⊥) → (MaySealIn t.ring (bytes_page var) → ⊥) → BytesPaged var (page_at f) (page_at g))
  blobs-paged None paged = tt
  blobs-paged (Some var) paged = λ some told index rows.
      let stood : page_at h.first (bytes_page var) ≡ page_at f (bytes_page var) = h.entries.flash.writes.tries.stands told (bytes_page var) index in
      rows-leave told (bytes_page var) rows ∙ (paged some (first_told told) ∙ ap (λ (page : List ℕ). sealed_over (var_shape var) (content_body (memory.room_in var) (memory.next_in var) (waiting_in var)) page) stood)

  -- .. and the block ahead of their ring
  blobs-ahead : (o : Option VarData) → IfSome o (λ var. 1 ≤ length (waiting_in var) → IsTrue h.first.media.tells → BytesAhead var (λ page. ⊥) (page_at h.then)) →
      IfSome o (λ var. 1 ≤ length (waiting_in var) → IsTrue f.media.tells → BytesAhead var (MaySealIn t.ring) (page_at g))
  blobs-ahead None ahead = tt
  blobs-ahead (Some var) ahead = λ some told.
      ahead-later var.ring (λ page. ⊥) (MaySealIn t.ring) (page_at h.then) (page_at g) (λ page not no. no) (rows-leave told) (ahead some (first_told told))

  pub rings-flushed : HasFlushed t f g
  rings-flushed =
      let lies_then = lies-moved t f h.then (goes-then f h.first h.then h.entries.flash.goes h.bytes.flash.goes) lies in
      record {
        writes = rings-write t ring has body f listed rest now g h;
        page = rows-paged;
        blobs = blobs-paged t.blobs h.bytes.page;
        ahead = λ told. held-ahead ring body h.then g (lies_then.ring ring has) (then_told told) t.ring has tt h.rows.flash.calls;
        blobs_ahead = blobs-ahead t.blobs h.bytes.ahead;
      }

-- a blob that is placed behind the page leaves it
pub page-made : {KNOTS SLOTS : ℕ} (t u : Table KNOTS SLOTS) (blob : Option (List ℕ)) (f m g : FlashState) → m.media.tells ≡ f.media.tells → variable.AreSamePlan t.blobs u.blobs → (HasRoom t → ⊥) → HasFlushed t f m →
    Writes (variable.MayFill blob u.blobs) 0 (variable.pages_for u.blobs blob) m g → HasMadePage t blob f g
page-made t u blob f m g tells plan full made fill = record {
  writes = put-writes t u blob 1 f m g tells plan (λ room. absurd (full room)) made.writes fill;
  page = λ told apart rows gathers.
      let stood : page_at g (next_page t) ≡ page_at m (next_page t) =
      fill.tries.stands (subst IsTrue (sym tells) told) (next_page t) (λ may. not-filled blob t.blobs (next_page t) apart.blobs (fill-moved blob t.blobs u.blobs plan (next_page t) may)) in
      stood ∙ made.page told apart rows gathers;
  ahead = λ told.
      ahead-later t.ring (λ page. ⊥) (variable.MayFill blob t.blobs) (page_at m) (page_at g) (λ page not no. no)
      (λ page not. fill.tries.stands (subst IsTrue (sym tells) told) page (λ may. not (fill-moved blob t.blobs u.blobs plan page may))) (made.ahead told);
}

-- .. and so do calls behind it the block ahead
pub rows-ahead-later : {KNOTS SLOTS : ℕ} (t : Table KNOTS SLOTS) (Changed May : ℕ → Type 0) (old new : ℕ → List ℕ) → ((page : ℕ) → (May page → ⊥) → Changed page → ⊥) → ((page : ℕ) → (May page → ⊥) → new page ≡ old page) → RowsAhead t Changed old → RowsAhead t May new
rows-ahead-later t Changed May old new wider stands h = ahead-later t.ring Changed May old new wider stands h
