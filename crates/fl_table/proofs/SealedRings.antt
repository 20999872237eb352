-- How the seals of a table's rings in turn end, for the table of the model.
use Rattle.std.proofs.Common.{◌≡◌, ℕ, ◌+◌, ◌*◌, ◌≤◌, true, false, cond, ◌&&◌, ◌==◌, nat_lt, Bool, Option, Some, Result, Ok, Err, List, [], ◌∷◌, ◌++◌, length, is_some, inl, inr, refl, sym, ◌∙◌, ap, subst, arith}
use Rattle.fl_flash.specs.Flash.{FlashState, Goes, page_at}
use Rattle.fl_flash.specs.Places.{extent}
use Rattle.fl_flash.specs.declared.flash.FlashFault.{FlashFault}
use Rattle.fl_frame.proofs.WatchedInTurn.{watched-first, watched-then}
use Rattle.fl_frame.proofs.CallsInTurn.{goes-then}
use Rattle.fl_frame.specs.Watched.{IsWatched}
use Rattle.fl_index.specs.declared.index.BitmapIndex.{BitmapIndex}
use Rattle.fl_model.specs.Facts.{IsTable}
use Rattle.fl_model.specs.Layout.{rows_body}
use Rattle.fl_model.specs.Record.{Plan, entries_per_page, has_index}
use Rattle.fl_model.specs.Table.{Table, RingName, DataRing, IndexRing, VarRing, after_seals, fill, lose, pending_entries, table_seals}
use Rattle.fl_model.specs.Work.{Device}
use Rattle.fl_parts.proofs.BlobsOfTable as blobbing
use Rattle.fl_parts.proofs.BlobsOfTable.{after-empty, same-some}
use Rattle.fl_parts.proofs.IndexOfTable.{made-after, made-end, made-room, made-running, plan-same, still-few}
use Rattle.fl_parts.proofs.Plain.{some-table_seals, table-facts}
use Rattle.fl_parts.proofs.States.{shape_in, state_of, HaveSize}
use Rattle.fl_parts.specs.Bitmaps as bitmaps
use Rattle.fl_parts.specs.Bitmaps.{RoomMade, bitmap_seals}
use Rattle.fl_parts.specs.Blobs as variable
use Rattle.fl_parts.specs.Blobs.{rest_seals}
use Rattle.fl_parts.specs.Pages.{HoldsTable}
use Rattle.fl_ring.specs.Operations.{change, seal_kinds}
use Rattle.fl_ring.specs.Place.{shape_of, StandsFor}
use Rattle.fl_ring.specs.Ring.{Shape, OutsideStands}
use Rattle.fl_ring.specs.Sealing.{Performed, IsReady}
use Rattle.fl_ring.specs.declared.ring.Ring.{Ring}
use Rattle.fl_table.proofs.BlobStands.{bitmaps-stand, rest-done}
use Rattle.fl_parts.proofs.Outsides.{index-before}
use Rattle.fl_table.proofs.IndexSeals.{bitmaps-end}
use Rattle.fl_parts.proofs.IndexAlone.{var-stand, with_index}
use Rattle.fl_table.proofs.SealAnswers.{counts-room, lies-size, planned-ring, planned-same, ring-next, seal-ready, sealing-of, writer-count}
use Rattle.fl_parts.proofs.SealEnds.{IsSealed, IsSealing, KeepsAll, seal-breaks, seal-finishes}
use Rattle.fl_table.proofs.Sealing.{RowsMake}
use Rattle.fl_table.proofs.SealsInTurn.{ends-alone, seals-then}
use Rattle.fl_parts.proofs.InTurn.{seals-stop}
use Rattle.fl_table.specs.Outcomes.{Finishes, SealsEnd}
use Rattle.fl_parts.specs.Failing.{Breaks, BySeals}
use Rattle.fl_table.specs.Sealing.{ReachesRows, SealsBytes, SealsEntries, SealsInTurn, SealsRows}
use Rattle.fl_table.specs.Standing.{Stands}
use Rattle.fl_table.specs.declared.table.Table as code
use Rattle.fl_var.specs.declared.var_data.VarData.{VarData}

-- a table with this index, in which room was made, ..
abbrev pub indexed : {KNOTS SLOTS : ℕ} (t : code.Table KNOTS SLOTS) (now : Option BitmapIndex) → bitmaps.AreSamePlan t.bitmaps now → RoomMade t.bitmaps now → code.Table KNOTS SLOTS
indexed t now same made = record t {
  bitmaps = now;
  few_pages = still-few (t.place.blocks * t.geometry.block + 6) t.bitmaps now same t.few_pages;
  running = λ is. made-running t.bitmaps now made;
  follow = λ ring is. made-end t.bitmaps now _ made (t.follow ring is);
  pages_left = λ some. omega (arith, made-after t.bitmaps now made, t.pages_left some);
}

-- .. or with these variable data, none of whose bytes wait
abbrev pub rested : {KNOTS SLOTS : ℕ} (t : code.Table KNOTS SLOTS) (now : Option VarData) → variable.AreSamePlan t.blobs now → variable.AreRunning now → variable.AreEmpty now → variable.next_of now ≡ variable.next_after t.blobs → code.Table KNOTS SLOTS
rested t now same running empty next = record t {
  blobs = now;
  has_blobs = t.has_blobs ∙ sym (same-some t.blobs now same);
  blobs_running = λ is. running;
  blobs_left = λ is some. omega (arith, after-empty now empty, next, t.blobs_left is some);
}

pending : {KNOTS SLOTS : ℕ} (t : code.Table KNOTS SLOTS) (old : FlashState) (first : ℕ) (plan : Plan) (table : Table) → 1 ≤ t.writer.count → Stands t old first plan table → table.pending ≡ 0 → ⊥
pending t old first plan table some stands none = absurd (omega (arith, none, writer-count t old first plan table stands, some))

module _ {KNOTS SLOTS : ℕ} (t : code.Table KNOTS SLOTS) (old new : FlashState) (first : ℕ) (plan : Plan) (table : Table) (rose : Bool) (device : Device) (some : 1 ≤ t.writer.count) where
  -- the seal of the waiting entries was done, ..
  entries-finish : Stands t old first plan table → IsWatched old new rose device → (listed : Option BitmapIndex) (h : SealsEntries t.bitmaps old (Ok tt) listed new) →
      Finishes first plan (BySeals plan (bitmap_seals plan table) table rose device) table (after_seals plan (bitmap_seals plan table) table) (indexed t listed h.same h.made) old new
  entries-finish stands watched listed h =
      let t1 = indexed t listed h.same h.made in
      let outside = h.flash.outside watched.told in
      let memory = stands.memory in
      let made = bitmaps-end t old new first plan table rose device t.bitmaps (Ok tt) listed refl stands (pending t old first plan table some stands) watched (t.pages_left some) outside h.made (h.ends (first + plan.data_blocks) plan table rose device) in
      let is = made.beside.3 in
      record {
        now = made.now;
        did = made.did;
        whole = made.whole;
        counts = made.counts;
        power = made.power;
        stands = subst (Stands t1 new first plan) (sym is) (record {
          planned = planned-same t t1 first plan stands.planned (record { geometry = refl; layout = refl; place = refl; buckets = refl; error = refl; bitmaps = h.same; blobs = blobbing.plan-same t.blobs; limit = refl });
          facts = subst (IsTable plan) is made.facts;
          whole = stands.whole;
          clean = stands.clean;
          pages = subst (λ (x : Table). HoldsTable (page_at new) first plan (lose x)) is made.pages;
          memory = record {
            ring = memory.ring;
            ring_is = memory.ring_is;
            next = memory.next;
            oldest = memory.oldest;
            gathers = memory.gathers;
            bitmap = memory.bitmap;
            blob_end = memory.blob_end;
            last = memory.last;
            counts = memory.counts;
            voids = memory.voids;
            index = memory.index;
          };
          bitmaps = subst (bitmaps.Stand listed new (first + plan.data_blocks) plan) is made.bitmaps;
          blobs = blobbing.stand-moved t.blobs old new first plan table (with_index table made.beside.0 made.beside.1 made.beside.2) (var-stand t.bitmaps (page_at old) (page_at new) first plan stands.planned.index outside) refl refl refl (λ i entry e. (i, e)) stands.blobs;
          points = record { older = stands.points.older; points = stands.points.points; last = stands.points.last };
        });
        stand = made.stand;
      }

  -- .. and that of the bytes of blobs
  bytes-finish : is_some t.ring ≡ true → Stands t old first plan table → IsWatched old new rose device → (rest : Option VarData) (h : SealsBytes t.blobs old (Ok tt) rest new) →
      Finishes first plan (BySeals plan (rest_seals table) table rose device) table (after_seals plan (rest_seals table) table) (rested t rest h.same h.running h.empty h.next) old new
  bytes-finish runs stands watched rest h =
      let t1 = rested t rest h.same h.running h.empty h.next in
      let outside = h.flash.outside watched.told in
      let memory = stands.memory in
      let done = rest-done t old new first plan table rose device stands watched t.blobs (Ok tt) rest refl (t.blobs_left runs some) outside h.next (h.ends (first + plan.data_blocks + plan.index_blocks) plan table rose device) in
      let is = done.beside.3 in
      record {
        now = done.now;
        did = done.did;
        whole = done.whole;
        counts = done.counts;
        power = done.power;
        stands = subst (Stands t1 new first plan) (sym is) (record {
          planned = planned-same t t1 first plan stands.planned (record { geometry = refl; layout = refl; place = refl; buckets = refl; error = refl; bitmaps = plan-same t.bitmaps; blobs = h.same; limit = refl });
          facts = subst (IsTable plan) is (table-facts plan (after_seals plan (rest_seals table) table) done.facts);
          whole = stands.whole;
          clean = stands.clean;
          pages = subst (λ (x : Table). HoldsTable (page_at new) first plan (lose x)) is done.pages;
          memory = record {
            ring = memory.ring;
            ring_is = memory.ring_is;
            next = memory.next;
            oldest = memory.oldest;
            gathers = memory.gathers;
            bitmap = memory.bitmap;
            blob_end = memory.blob_end;
            last = memory.last;
            counts = memory.counts;
            voids = memory.voids;
            index = memory.index;
          };
          bitmaps = bitmaps-stand t.bitmaps old new first plan table done.beside.0 done.beside.1 done.beside.2 stands.planned.index (omega (arith, ap (λ x. x.block) stands.planned.geometry, t.served.block_least))
              (λ some. index-before t.blobs (page_at old) (page_at new) first plan stands.planned.var outside some) stands.bitmaps;
          blobs = subst (variable.Stand rest new (first + plan.data_blocks + plan.index_blocks) plan) is done.blobs;
          points = record { older = stands.points.older; points = stands.points.points; last = stands.points.last };
        });
        stand = done.stand;
      }

-- the page of rows, where room was made in the index and no byte of a blob waits
module _ {KNOTS SLOTS : ℕ} (t : code.Table KNOTS SLOTS) (ring : Ring) (has : t.ring ≡ Some ring) (body : List ℕ) (makes : RowsMake t ring body) (old new : FlashState) (first : ℕ) (plan : Plan) (table : Table) (rose : Bool) (device : Device) (some : 1 ≤ t.writer.count)
    (stands : Stands t old first plan table) (watched : IsWatched old new rose device) (room : bitmaps.HaveRoom t.bitmaps) (empty : variable.AreEmpty t.blobs) (geometry : old.geometry ≡ t.geometry) (within : t.place.first_block + t.place.blocks ≤ old.blocks)
    (reaches : old.start + extent old.geometry old.blocks ≤ length old.media.content) (reaches_now : new.start + extent new.geometry new.blocks ≤ length new.media.content) (goes : Goes old new) where
  shape : shape_of ring ≡ shape_in first plan
  shape = t.lies ring has ∙ planned-ring t first plan stands.planned

  sizes_now : HaveSize first plan (page_at new)
  sizes_now = lies-size t new first plan stands.planned (goes.geometry ∙ geometry) (omega (arith, goes.blocks, within)) reaches_now

  is_sealing : IsSealing (page_at old) first plan table body
  is_sealing =
      sealing-of t old first plan table body stands some room empty
      (λ layout rows gathers. makes layout rows gathers ∙ ap (λ n. rows_body (length t.writer.body) layout n t.bitmap rows) (ring-next t old first plan table ring stands has))

  ready : IsReady ring old (state_of plan (lose table))
  ready = seal-ready t old first plan table ring stands has shape (lies-size t old first plan stands.planned geometry within reaches)

  outside : (result : Result (Unit {0}) FlashFault) (now : Ring) → SealsRows ring body old result now new → OutsideStands (shape_in first plan) (page_at old) (page_at new)
  outside result now h = subst (λ (r : Shape). OutsideStands r (page_at old) (page_at new)) shape (h.flash.outside watched.told)

  rows-break : (fault : FlashFault) (now : Ring) → SealsRows ring body old (Err fault) now new → SealsEnd first plan (DataRing ∷ []) table rose device (Err fault) t old new
  rows-break fault now h =
      let s = state_of plan (lose table) in
      ends-alone first plan table rose device (Err fault) t old new
      (seal-breaks first plan table body rose device new (page_at old) is_sealing sizes_now (outside (Err fault) now h) fault
      (subst (λ (r : Shape). Performed r (change r body) rose (seal_kinds r s body) device s (Err fault) new) shape (h.seals s rose device ready watched).performed))

  rows-finish : (now : Ring) → SealsRows ring body old (Ok tt) now new → IsSealed first plan table rose device now (page_at old) new t.counts.items
  rows-finish now h =
      let s = state_of plan (lose table) in
      let seals = h.seals s rose device ready watched in
      let both : (k : Performed (shape_in first plan) (change (shape_in first plan) body) rose (seal_kinds (shape_in first plan) s body) device s (Ok tt) new) × StandsFor now k.now.state =
      subst (λ (r : Shape). (k : Performed r (change r body) rose (seal_kinds r s body) device s (Ok tt) new) × StandsFor now k.now.state) shape (seals.performed, seals.stands) in
      seal-finishes first plan table body rose device new (page_at old) is_sealing sizes_now (outside (Ok tt) now h) tt now t.counts.items both.0 both.1 (counts-room t first plan stands.planned) stands.memory.counts
      (subst (λ (r : Shape). KeepsAll r s body (page_at old) (page_at new)) shape (h.flash.keeps watched.told s ready))

-- the seals of the other rings leave the pending rows
entries-left : (plan : Plan) (table : Table) → pending_entries (after_seals plan (bitmap_seals plan table) table) ≡ pending_entries table
entries-left plan table = by_seals (has_index plan && (length table.waiting == entries_per_page plan))
  where
    by_seals : (b : Bool) → pending_entries (after_seals plan (cond b (IndexRing ∷ []) []) table) ≡ pending_entries table
    by_seals true = refl
    by_seals false = refl

rest-left : (plan : Plan) (table : Table) → pending_entries (after_seals plan (rest_seals table) table) ≡ pending_entries table
rest-left plan table = by_seals (nat_lt 0 (fill table))
  where
    by_seals : (b : Bool) → pending_entries (after_seals plan (cond b (VarRing ∷ []) []) table) ≡ pending_entries table
    by_seals true = refl
    by_seals false = refl

-- the table in memory before the seal of its rows
abbrev pub before_rows : {KNOTS SLOTS : ℕ} (t : code.Table KNOTS SLOTS) (ring : Ring) (body : List ℕ) (old : FlashState) (result : Result (Unit {0}) FlashFault) (listed : Option BitmapIndex) (rest : Option VarData) (now : Ring) (new : FlashState) →
    ReachesRows t.bitmaps t.blobs ring body old result listed rest now new → code.Table KNOTS SLOTS
before_rows t ring body old result listed rest now new h = rested (indexed t listed h.entries.same h.entries.made) rest h.bytes.same h.bytes.running h.bytes.empty h.bytes.next

-- the first two seals were done, and so the table stands when its rows are sealed
pub record StandsBefore {KNOTS SLOTS : ℕ} (before : code.Table KNOTS SLOTS) (first : ℕ) (plan : Plan) (table : Table) (rose : Bool) (device : Device) (old then : FlashState) (result : Result (Unit {0}) FlashFault) (new : FlashState) : Type 0 where
  pub after : Table
  pub later : Device
  pub watched : IsWatched then new rose later
  pub stands : Stands before then first plan after
  pub entries : pending_entries after ≡ pending_entries table
  pub ends : (last : code.Table KNOTS SLOTS) → SealsEnd first plan (DataRing ∷ []) after rose later result last then new → SealsEnd first plan (table_seals plan table) table rose device result last old new

module _ {KNOTS SLOTS : ℕ} (t : code.Table KNOTS SLOTS) (ring : Ring) (has : t.ring ≡ Some ring) (body : List ℕ) (old new : FlashState) (first : ℕ) (plan : Plan) (table : Table) (rose : Bool) (device : Device) (some : 1 ≤ t.writer.count)
    (stands : Stands t old first plan table) (watched : IsWatched old new rose device) (listed : Option BitmapIndex) (rest : Option VarData) (now : Ring) where
  runs : is_some t.ring ≡ true
  runs = ap (λ (o : Option Ring). is_some o) has

  abbrev after_entries : Table
  after_entries = after_seals plan (bitmap_seals plan table) table

  all : table_seals plan table ≡ bitmap_seals plan table ++ (rest_seals after_entries ++ DataRing ∷ [])
  all = some-table_seals plan table (pending t old first plan table some stands)

  -- the first seal was done
  first-done : (then : FlashState) → Goes then new → (h : SealsEntries t.bitmaps old (Ok tt) listed then) → Finishes first plan (BySeals plan (bitmap_seals plan table) table rose device) table after_entries (indexed t listed h.same h.made) old then
  first-done then goes h = entries-finish t old then first plan table rose device some stands (watched-first old then new rose device watched goes) listed h

  pub stands-before : (result : Result (Unit {0}) FlashFault) (h : ReachesRows t.bitmaps t.blobs ring body old result listed rest now new) → StandsBefore (before_rows t ring body old result listed rest now new h) first plan table rose device old h.then result new
  stands-before result h =
      let goes = goes-then h.first h.then new h.bytes.flash.goes h.rows.flash.goes in
      let t1 = indexed t listed h.entries.same h.entries.made in
      let t2 = before_rows t ring body old result listed rest now new h in
      let one = first-done h.first goes h.entries in
      let watched_one = watched-then old h.first new rose device one.now.device watched h.entries.flash.goes one.power one.counts in
      let two = bytes-finish t1 h.first h.then first plan after_entries rose one.now.device some runs one.stands (watched-first h.first h.then new rose one.now.device watched_one h.rows.flash.goes) rest h.bytes in
      record {
        after = after_seals plan (rest_seals after_entries) after_entries;
        later = two.now.device;
        watched = watched-then h.first h.then new rose one.now.device two.now.device watched_one h.bytes.flash.goes two.power two.counts;
        stands = two.stands;
        entries = rest-left plan after_entries ∙ entries-left plan table;
        ends = λ last end.
            subst (λ (rings : List RingName). SealsEnd first plan rings table rose device result last old new) (sym all)
            (seals-then first plan (bitmap_seals plan table) (rest_seals after_entries ++ DataRing ∷ []) table rose device t1 old h.first result last new one
            (seals-then first plan (rest_seals after_entries) (DataRing ∷ []) after_entries rose one.now.device t2 h.first h.then result last new two end));
      }

  module _ (makes : RowsMake t ring body) (geometry : old.geometry ≡ t.geometry) (within : t.place.first_block + t.place.blocks ≤ old.blocks) (reaches : new.start + extent new.geometry new.blocks ≤ length new.media.content) where
    -- the rows were sealed, ..
    pub rows-sealed : (h : ReachesRows t.bitmaps t.blobs ring body old (Ok tt) listed rest now new) →
        let before = stands-before (Ok tt) h in IsSealed first plan before.after rose before.later now (page_at h.then) new t.counts.items
    rows-sealed h =
        let k = stands-before (Ok tt) h in
        let goes = goes-then old h.first h.then h.entries.flash.goes h.bytes.flash.goes in
        rows-finish (before_rows t ring body old (Ok tt) listed rest now new h) ring has body makes h.then new first plan k.after rose k.later some k.stands k.watched (made-room t.bitmaps listed h.entries.made) h.bytes.empty (goes.geometry ∙ geometry) (omega (arith, goes.blocks, within))
        h.reaches reaches h.rows.flash.goes now h.rows

    -- .. or one of the three seals broke
    pub rings-break : (fault : FlashFault) → SealsInTurn t.bitmaps t.blobs ring body old (Err fault) listed rest now new → Breaks first plan (BySeals plan (table_seals plan table) table rose device) fault new
    rings-break fault (inl h) =
        subst (λ (rings : List RingName). SealsEnd first plan rings table rose device (Err fault) t old new) (sym all)
        (seals-stop first plan (bitmap_seals plan table) (rest_seals after_entries ++ DataRing ∷ []) table rose device fault new
        (bitmaps-end t old new first plan table rose device t.bitmaps (Err fault) listed refl stands (pending t old first plan table some stands) watched (t.pages_left some) (h.0.flash.outside watched.told) tt (h.0.ends (first + plan.data_blocks) plan table rose device)))
    rings-break fault (inr (inl h)) =
        let t1 = indexed t listed h.entries.same h.entries.made in
        let one = first-done h.first h.bytes.flash.goes h.entries in
        let watched_one = watched-then old h.first new rose device one.now.device watched h.entries.flash.goes one.power one.counts in
        subst (λ (rings : List RingName). SealsEnd first plan rings table rose device (Err fault) t old new) (sym all)
        (seals-then first plan (bitmap_seals plan table) (rest_seals after_entries ++ DataRing ∷ []) table rose device t1 old h.first (Err fault) t new one
        (seals-stop first plan (rest_seals after_entries) (DataRing ∷ []) after_entries rose one.now.device fault new
        (rest-done t1 h.first new first plan after_entries rose one.now.device one.stands watched_one t.blobs (Err fault) rest refl (t.blobs_left runs some) (h.bytes.flash.outside watched_one.told) tt
        (h.bytes.ends (first + plan.data_blocks + plan.index_blocks) plan after_entries rose one.now.device))))
    rings-break fault (inr (inr h)) =
        let k = stands-before (Err fault) h in
        let goes = goes-then old h.first h.then h.entries.flash.goes h.bytes.flash.goes in
        k.ends t
        (rows-break (before_rows t ring body old (Err fault) listed rest now new h) ring has body makes h.then new first plan k.after rose k.later some k.stands k.watched (made-room t.bitmaps listed h.entries.made) h.bytes.empty (goes.geometry ∙ geometry) (omega (arith, goes.blocks, within))
        h.reaches reaches h.rows.flash.goes fault now h.rows)
