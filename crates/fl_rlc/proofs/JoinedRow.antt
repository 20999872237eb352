-- A row joins those of a log's next page, and then all of them are sealed.
use Rattle.std.proofs.Common.{◌≡◌, ℕ, Bool, Option, unwrap_or, Result, Ok, Err, List, [], ◌∷◌, ◌++◌, map, sym, ◌∙◌, ap, subst}
use Rattle.std.specs.Prelude.{◌+◌, option_map, is_some, OnOk}
use Rattle.fl_base.specs.declared.types.Geometry.{Geometry}
use Rattle.fl_base.specs.declared.types.RingPlace.{RingPlace}
use Rattle.fl_flash.specs.Flash.{FlashState, page_at}
use Rattle.fl_flash.specs.declared.flash.FlashFault.{FlashFault}
use Rattle.fl_model.specs.Record.{Plan, RowLayout}
use Rattle.fl_model.specs.Row.{Row, stored_row}
use Rattle.fl_model.specs.Table as model
use Rattle.fl_model.specs.Table.{log_pages, pending_entries}
use Rattle.fl_model.specs.Work.{Device}
use Rattle.fl_page.specs.Writer.{Gathers}
use Rattle.fl_ring.specs.Kept.{PagesStand}
use Rattle.fl_ring.specs.Mounting.{shape_at}
use Rattle.fl_ring.specs.Place as place_words
use Rattle.fl_ring.specs.Ring.{Shape, place}
use Rattle.fl_ring.specs.declared.ring.Ring as memory
use Rattle.fl_rlc.specs.Memory.{next_in, oldest_in, oldest_after, rows_in, kept_rows, page_in, log_shape, IsSamePlan}
use Rattle.fl_rlc.specs.Pages.{IsLogRing}
use Rattle.fl_rlc.specs.Rows.{Joins, HasLogged}
use Rattle.fl_rlc.specs.Sealing as specs
use Rattle.fl_rlc.specs.Sealing.{SealEnds}
use Rattle.fl_rlc.specs.Standing.{HasRing}
use Rattle.fl_rlc.specs.declared.log.RecordLog.{RecordLog}

-- two logs of one plan have their ring at one place
pub same-shape : (old new : RecordLog) → IsSamePlan old new → log_shape new ≡ log_shape old
same-shape old new same = ap (λ (p : RingPlace). shape_at p new.geometry) same.place ∙ ap (λ (g : Geometry). shape_at old.place g) same.geometry

pub same-pages : (old new : RecordLog) (f : FlashState) → IsSamePlan old new → page_in new f ≡ page_in old f
same-pages old new f same = ap {B = ℕ → List ℕ} (λ (r : Shape) (n : ℕ). page_at f (place r n)) (same-shape old new same)

-- .. and where the ring in memory is the same too, it stands for the same
pub ring-moved : (old new : RecordLog) (f : FlashState) (first : ℕ) (plan : Plan) (table : model.Table) → IsSamePlan old new → new.ring ≡ old.ring → HasRing old f first plan table → HasRing new f first plan table
ring-moved old new f first plan table same ring h = record {
  planned = record {
    geometry = h.planned.geometry ∙ sym same.geometry;
    blocks = h.planned.blocks ∙ ap (λ (p : RingPlace). p.blocks) (sym same.place);
    begins = ap (λ (p : RingPlace). p.first_block) same.place ∙ h.planned.begins;
  };
  mounted = ap (λ (o : Option memory.Ring). is_some o) ring ∙ h.mounted;
  ring = h.ring;
  ring_is = h.ring_is;
  pages = subst (λ (at : ℕ → List ℕ). IsLogRing plan (log_pages table) h.ring at) (sym (same-pages old new f same)) h.pages;
  logged_some = h.logged_some;
  whole = h.whole;
  clean = h.clean;
  next = ap (λ (o : Option memory.Ring). unwrap_or (option_map (λ r. place_words.next_of r) o) 0) ring ∙ h.next;
  oldest_is = ap (λ (o : Option memory.Ring). unwrap_or (option_map (λ r. place_words.oldest_of r) o) 0) ring ∙ h.oldest_is;
}

-- the row has joined, so that the log is ready
pub joined-ready : (old new : RecordLog) (f : FlashState) (first : ℕ) (plan : Plan) (table : model.Table) (layout : RowLayout) (row : Row) → IsSamePlan old new → new.ring ≡ old.ring →
    (h : Joins old f first plan table layout row) → Gathers layout (kept_rows layout (rows_in old) h.rows ++ row ∷ []) (rows_in new) → specs.IsReady new f first plan table
joined-ready old new f first plan table layout row same ring h gathers = record {
  stands = record {
    ring = ring-moved old new f first plan table same ring h.ring;
    rows = subst (λ (l : RowLayout). Gathers l (map stored_row (pending_entries table)) (rows_in new)) h.layout_is
        (subst (λ (rows : List Row). Gathers layout rows (rows_in new)) (sym h.pending) gathers);
  };
  page = h.page;
  as_many = h.as_many;
}

-- the row has joined, and the page with it was sealed
pub joined-logged : (layout : RowLayout) (row : Row) (old mid new : RecordLog) (result : Result (Unit {0}) FlashFault) → mid.ring ≡ old.ring →
    ((rows : List Row) → Gathers layout rows (rows_in old) → Gathers layout (kept_rows layout (rows_in old) rows ++ row ∷ []) (rows_in mid)) →
    OnOk result (next_in new ≡ next_in mid + 1) → OnOk result (oldest_in new ≡ oldest_after mid) → ((l : RowLayout) (rows : List Row) → Gathers l rows (rows_in mid) → Gathers l rows (rows_in new)) → OnOk result (HasLogged layout row old new)
joined-logged layout row old mid new (Ok done) ring joins next kept stay = record {
  next = next ∙ ap (λ (o : Option memory.Ring). unwrap_or (option_map (λ r. place_words.next_of r) o) 0 + 1) ring;
  oldest = kept ∙ ap (λ (o : Option memory.Ring). unwrap_or (option_map (λ r. place_words.oldest_after r) o) 0) ring;
  rows = λ rows h. stay layout (kept_rows layout (rows_in old) rows ++ row ∷ []) (joins rows h);
}
joined-logged layout row old mid new (Err fault) ring joins next kept stay = tt

-- the seal of the log with the row is one of the log without it
pub seal-moved : (old mid : RecordLog) (f : FlashState) (first : ℕ) (plan : Plan) (table : model.Table) (rose : Bool) (device : Device) (result : Result (Unit {0}) FlashFault) (now : RecordLog) (new : FlashState) → IsSamePlan old mid →
    SealEnds first plan table rose device mid f result now new → SealEnds first plan table rose device old f result now new
seal-moved old mid f first plan table rose device (Ok u) now new same h = record {
  now = h.now;
  did = h.did;
  whole = h.whole;
  counts = h.counts;
  power = h.power;
  stands = h.stands;
  stand = λ before e. subst (λ (at : ℕ → List ℕ). PagesStand before at h.stands.ring.ring (page_in now new)) (same-pages old mid f same) (h.stand before e);
}
seal-moved old mid f first plan table rose device (Err fault) now new same h = record {
  now = h.now;
  did = h.did;
  answer = h.answer;
  counts = h.counts;
  ring = h.ring;
  ring_is = h.ring_is;
  pages = subst (λ (at : ℕ → List ℕ). IsLogRing plan (log_pages h.now.state) h.ring at) (same-pages old mid new same) h.pages;
  logged_some = h.logged_some;
  rest = h.rest;
}
