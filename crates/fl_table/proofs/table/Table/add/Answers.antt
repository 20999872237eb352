use Rattle.std.proofs.Common.{rules, arith, cond, max, refl, Bool, true, false, Option, None, ◌≤◌, ◌≡◌, ◌+◌, ◌*◌, ◌%◌, ◌==◌, ℕ, Some, List, [], ◌∷◌, ◌++◌, map, option_map, get_or, length, count_by, slice_get, sym, ◌∙◌, ap, subst, pos}
use Rattle.std.proofs.lemmas.Int.{to_z-of_z}
use Rattle.std.proofs.lemmas.List.{map-append, length-map}
use Rattle.std.proofs.Math.IntN.{ℤ}
use Rattle.fl_find.specs.Index.{IndexOf}
use Rattle.fl_model.specs.Layout.{bitmap_of}
use Rattle.fl_model.specs.Record.{layout_len}
use Rattle.fl_model.specs.Ring as rings
use Rattle.fl_model.specs.Row.{Row, bytes_of_row, stored_row}
use Rattle.fl_model.specs.Table as model
use Rattle.fl_model.specs.BlobEnds.{reference_end}
use Rattle.fl_model.proofs.BlobEnds.{ends-push}
use Rattle.fl_page.specs.Writer.{Gathers}
use Rattle.fl_schema.specs.Schema.{layout_of, types_of}
use Rattle.fl_schema.proofs.RoundTrip.{length-bytes_of_row}
use Rattle.fl_parts.specs.BlobEnds.{least_of}
use Rattle.fl_parts.specs.Entries.{bitmap_with}
use Rattle.fl_parts.proofs.BlobEnds.{least-few}
use Rattle.fl_parts.proofs.Writers.{rest-push}
use Rattle.fl_parts.proofs.JoinedEntries.{bits-more, last-more, pending-more}
use Rattle.fl_index.specs.Memory as memory
use Rattle.fl_index.specs.declared.index.BitmapIndex.{BitmapIndex}
use Rattle.fl_page.specs.WriterState.{WriterState}
use Rattle.fl_parts.specs.Bitmaps.{next_of, next_after}
use Rattle.fl_parts.proofs.BlobsOfTable as blobbing
use Rattle.fl_parts.proofs.IndexOfTable.{plan-same}
use Rattle.fl_table.proofs.Finds.{next-in}
use Rattle.fl_parts.proofs.Sizes.{schema-fits}
use Rattle.fl_table.proofs.table.Table.add.Goals as goal

-- one row more
rows-more : (w v : WriterState) (n : ℕ) → v.count ≡ w.count + 1 → v.end ≡ w.end + n → w.end ≡ 16 + w.count * n → v.end ≡ 16 + v.count * n
rows-more w v n count end rows = rw count (omega (arith, end, rows))

-- a full list of bitmaps takes one page more
one-more : (b : Bool) (m n : ℕ) → m ≤ n → m + cond b 1 0 ≤ n + 1
one-more true m n le = omega (arith, le)
one-more false m n le = omega (arith, le)

after-next : (bitmaps : Option BitmapIndex) (n : ℕ) → next_of bitmaps ≤ n → next_after bitmaps ≤ n + 1
after-next None n le = omega arith
after-next (Some index) n le = one-more (memory.waiting_in index == memory.per_page index) (memory.next_in index) n le

pub returns-clause-same : goal.returns-clause-same
returns-clause-same g c = record {
  geometry = refl;
  layout = refl;
  place = refl;
  buckets = refl;
  error = refl;
  bitmaps = plan-same c.args.self.now.bitmaps;
  blobs = blobbing.plan-same c.args.self.now.blobs;
  limit = refl;
}

pub returns-clause-bits : goal.returns-clause-bits
returns-clause-bits g c =
    let t = c.args.self.now in
    let bits : c.with_value-self.result ≡ bitmap_with t.buckets t.bitmap (get_or c.args.values.now 0 (pos 0)) = search (rules, to_z-of_z) in
    bits

pub returns-clause-memory : goal.returns-clause-memory
returns-clause-memory g c = λ plan table after entry memory same entries one few buckets row.
    let t = c.args.self.now in
    let this : Row = record { key = c.args.key; values = c.args.values.now; blob = c.args.blob } in
    let pending = pending-more table after entry entries one few in
    let values : entry.kept.values ≡ c.args.values.now = ap (λ (r : Row). r.values) row in
    let key : entry.kept.key ≡ c.args.key = ap (λ (r : Row). r.key) row in
    let bits : c.with_value-self.result ≡ bitmap_with t.buckets t.bitmap (get_or c.args.values.now 0 (pos 0)) = returns-clause-bits g c in
    let gathers = c.push_row.ensures.rows (map stored_row (model.pending_entries table)) memory.gathers in
    let rows : map stored_row (model.pending_entries after) ≡ map stored_row (model.pending_entries table) ++ this ∷ [] =
    ap (map stored_row) pending ∙ (map-append stored_row (model.pending_entries table) (entry ∷ []) ∙ ap (λ (r : Row). map stored_row (model.pending_entries table) ++ r ∷ []) row) in
    record {
      ring = memory.ring;
      ring_is = memory.ring_is;
      next = memory.next ∙ sym (ap (λ (r : rings.Ring). r.next) same.rows);
      oldest = memory.oldest ∙ sym (ap rings.oldest same.rows);
      gathers = subst (λ (rs : List Row). Gathers (layout_of t.schema) rs c.push_row.new.self) (sym rows) gathers;
      bitmap = bits ∙ (ap (λ (vs : List ℤ). bitmap_with t.buckets t.bitmap (get_or vs 0 (pos 0))) (sym values)
          ∙ (ap (λ n. bitmap_with t.buckets n (get_or entry.kept.values 0 (pos 0))) memory.bitmap
          ∙ (bits-more plan t.buckets (model.pending_entries table) entry buckets ∙ ap (bitmap_of plan) (sym pending))));
      blob_end = c.max-self.ensures ∙ (ap (λ n. max t.blob_end n) (c.least_of.ensures ∙ (ap least_of c.reference_end.ensures ∙ least-few (reference_end c.args.blob) c.requires.blob_page))
          ∙ (ap (λ n. max n (reference_end c.args.blob)) memory.blob_end
          ∙ (ap (λ (r : Row). max (model.end_of_blobs (model.pending_entries table)) (reference_end r.blob)) (sym row)
          ∙ (sym (ends-push (model.pending_entries table) entry) ∙ ap model.end_of_blobs (sym pending)))));
      last = sym (ap (option_map (λ (e : model.Entry). e.kept.key)) (last-more table after entry entries) ∙ ap (λ n. Some n) key);
      counts = λ i count e.
          subst (λ (r : rings.Ring). get_or t.counts.items ((rings.oldest r + i) % (plan.data_blocks * plan.geometry.block)) 0 ≡ count) (sym same.rows) (memory.counts i count (ap (λ (r : rings.Ring). slice_get r.counts i) (sym same.rows) ∙ e));
      voids = memory.voids ∙ sym (ap (λ (r : rings.Ring). count_by (λ count. count == 0) r.counts) same.rows);
      index = subst (λ (ps : List (ℕ × ℕ)). IndexOf plan.error ps t.index) (sym same.points) memory.index;
    }

pub invariant_of-self : goal.invariant_of-self
invariant_of-self g c =
    let t = c.args.self.now in
    let row : Row = record { key = c.args.key; values = c.args.values.now; blob = c.args.blob } in
    record {
      few_knots = t.few_knots;
      few_slots = t.few_slots;
      served = t.served;
      some_blocks = t.some_blocks;
      few_blocks = t.few_blocks;
      some_columns = t.some_columns;
      few_columns = t.few_columns;
      some_row = t.some_row;
      room_for_row = t.room_for_row;
      has_blobs = t.has_blobs;
      blobs_fit = t.blobs_fit;
      page = omega (arith, c.push_row.ensures.size, t.page);
      rows_end = rows-more t.writer c.push_row.new.self (layout_len (layout_of t.schema)) (ap (λ (w : WriterState). w.count) c.push_row.ensures.exact) (ap (λ (w : WriterState). w.end) c.push_row.ensures.exact) t.rows_end;
      rows_room = omega (arith, ap (λ (w : WriterState). w.end) c.push_row.ensures.exact, c.push_row.ensures.size, c.requires.room);
      blank_rest = rest-push t.writer c.push_row.new.self (bytes_of_row (layout_of t.schema) row) (layout_len (layout_of t.schema)) c.push_row.ensures.exact
          (length-bytes_of_row t.schema.key (types_of t.schema) t.schema.blobs row c.requires.fits) c.requires.room c.push_row.ensures.size t.blank_rest;
      counted = t.counted;
      lies = t.lies;
      left = λ ring is some. omega (arith, next-in t ring is, c.requires.left);
      few_pages = t.few_pages;
      running = t.running;
      follow = t.follow;
      pages_left = λ some. after-next t.bitmaps model.spent_from c.requires.index_left;
      blobs_running = t.blobs_running;
      blobs_left = λ is some. c.requires.blobs_left;
    }

pub returns-clause-last : goal.returns-clause-last
returns-clause-last g c = refl

pub returns-clause-rows : goal.returns-clause-rows
returns-clause-rows g c = λ rows h. c.push_row.ensures.rows rows h

pub returns-clause-known : goal.returns-clause-known
returns-clause-known g c = record { ring = refl; counts = refl; voids = refl; index = refl; bitmaps = refl }

pub returns-clause-blobs : goal.returns-clause-blobs
returns-clause-blobs g c = refl

pub returns-clause-stopped : goal.returns-clause-stopped
returns-clause-stopped g c = refl

pub returns-clause-lies : goal.returns-clause-lies
returns-clause-lies g c = λ f lies. record {
  geometry = lies.geometry;
  within = lies.within;
  few = lies.few;
  ring = lies.ring;
  bitmaps = lies.bitmaps;
  blobs = lies.blobs;
}

pub push_row-requires : goal.push_row-requires
push_row-requires g c = (schema-fits, (c.requires.fits, c.requires.room))

pub bounds-values-0 : goal.bounds-values-0
bounds-values-0 g c =
    let as_many : length c.args.values.now ≡ length (types_of c.args.self.now.schema) = rw length-map at c.requires.fits.as_many in
    subst (λ (n : ℕ). 1 ≤ n) (sym as_many) c.args.self.now.some_columns

pub returns-clause-pending : goal.returns-clause-pending
returns-clause-pending g c = ap (λ (w : WriterState). w.count) c.push_row.ensures.exact
