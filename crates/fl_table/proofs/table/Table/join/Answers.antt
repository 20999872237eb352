use Rattle.std.proofs.Common.{true, false, Bool, None, is_some, ◌&&◌, ◌==◌, cond, IfSome, ◌≡◌, ℕ, ◌+◌, ◌^◌, ◌<◌, ◌≤◌, Bor, List, [], ◌∷◌, ◌++◌, Some, option_map, arith, refl, sym, ◌∙◌, ap, subst, Option}
use Rattle.std.proofs.lemmas.Bool.{false≢true}
use Rattle.fl_base.specs.declared.types.BlobRef.{BlobRef}
use Rattle.fl_model.specs.Record.{Record, RowLayout}
use Rattle.fl_model.specs.Row.{stored_row, FitsReference}
use Rattle.fl_model.specs.Table as model
use Rattle.fl_model.specs.BlobEnds.{reference_end}
use Rattle.fl_index.specs.declared.index.BitmapIndex.{BitmapIndex}
use Rattle.fl_parts.specs.Bitmaps as bitmaps
use Rattle.fl_parts.specs.Blobs as variable
use Rattle.fl_table.specs.Memory.{PendingAre}
use Rattle.fl_table.specs.Standing.{Stands}
use Rattle.fl_flash.specs.Flash.{page_at}
use Rattle.fl_parts.proofs.BlobsOfTable.{after-most, pages-few, same-some, still-planned}
use Rattle.fl_parts.proofs.IndexOfTable.{none-is, none-there, plan-same}
use Rattle.fl_parts.proofs.Outsides.{var-outside}
use Rattle.fl_table.proofs.JoinedRecord.{join-done, join-breaks}
use Rattle.fl_parts.proofs.JoinedEntries.{entry_of, entry-row, joined_to}
use Rattle.fl_parts.proofs.Plain.{table-facts}
use Rattle.fl_parts.proofs.Pointed.{points-added}
use Rattle.fl_table.proofs.SealAnswers.{planned-same}
use Rattle.fl_parts.proofs.CallsOff.{off-ok, off-err}
use Rattle.fl_table.proofs.ReadsKeepTable.{lies-moved}
use Rattle.fl_schema.specs.Schema.{layout_of}
use Rattle.fl_ring.specs.declared.ring.Ring.{Ring}
use Rattle.fl_parts.proofs.Sizes.{table-fits}
use Rattle.fl_table.proofs.table.Table.join.Goals as goal
use Rattle.fl_var.specs.declared.var_data.VarData.{VarData}

pub returns-in-Err-clause-ends : goal.returns-in-Err-clause-ends
returns-in-Err-clause-ends g c = λ first plan table rose device watched stands ok.
    let t = c.args.self.now in
    let f = g.F.Flash.state c.args.flash.now in
    let new = g.F.Flash.state c.place.new.flash in
    let item : Record = record { key = c.args.key; values = c.args.values.now; blob = option_map (λ (b : Bor (List ℕ)). b.now) c.args.blob } in
    join-breaks t f new first plan table rose device item stands watched ok c.requires.index_left t.blobs c.in-Err.fault c.place.new.blobs refl (c.in-Err.ensures.outside watched.told) c.requires.blobs_left
    (c.in-Err.ensures.ends (first + plan.data_blocks + plan.index_blocks) plan table item rose device refl)

pub returns-clause-ends : goal.returns-clause-ends
returns-clause-ends g c = λ first plan table rose device watched stands ok.
    let t = c.args.self.now in
    let f = g.F.Flash.state c.args.flash.now in
    let new = g.F.Flash.state c.place.new.flash in
    let item : Record = record { key = c.args.key; values = c.args.values.now; blob = option_map (λ (b : Bor (List ℕ)). b.now) c.args.blob } in
    let few = pages-few t.blobs item.blob c.requires.few in
    let left : variable.next_after c.place.new.blobs ≤ model.spent_from + 64 = omega (arith, after-most c.place.new.blobs, c.in-Ok.ensures.next, few, c.requires.blobs_left) in
    let h = join-done t f new first plan table rose device item stands watched ok c.requires.index_left t.blobs c.in-Ok.at c.place.new.blobs refl left (c.in-Ok.ensures.outside watched.told)
    (c.in-Ok.ensures.ends (first + plan.data_blocks + plan.index_blocks) plan table item rose device refl) in
    let entry = entry_of plan item table in
    let memory = stands.memory in
    let row : stored_row entry ≡ record { key = c.args.key; values = c.args.values.now; blob = c.in-Ok.at } = entry-row plan item table ∙ ap (λ (o : Option BlobRef). record { key = c.args.key; values = c.args.values.now; blob = o }) (sym h.at_is) in
    let points = points-added plan item table (omega (arith, stands.facts.counted)) stands.points in
    record {
      now = h.now;
      did = h.did;
      whole = h.whole;
      counts = h.counts;
      power = h.power;
      stands = subst (λ (x : model.Table). Stands c.add.new.self new first plan x) (sym h.is) (record {
        planned = planned-same _ c.add.new.self first plan (record {
          geometry = stands.planned.geometry;
          layout = stands.planned.layout;
          begins = stands.planned.begins;
          blocks = stands.planned.blocks;
          index = stands.planned.index;
          var = still-planned t.blobs c.place.new.blobs (first + plan.data_blocks + plan.index_blocks) plan stands.planned.var c.in-Ok.ensures.same;
          limit = stands.planned.limit;
          buckets = stands.planned.buckets;
          error = stands.planned.error;
          log = stands.planned.log;
        }) c.add.ensures.same;
        facts = table-facts plan (joined_to table entry h.ring h.content h.bytes) h.facts;
        whole = stands.whole;
        clean = stands.clean;
        pages = h.pages;
        memory = c.add.ensures.memory plan table (joined_to table entry h.ring h.content h.bytes) entry (record {
          ring = memory.ring;
          ring_is = memory.ring_is;
          next = memory.next;
          oldest = memory.oldest;
          gathers = memory.gathers;
          bitmap = memory.bitmap;
          blob_end = memory.blob_end;
          last = memory.last;
          counts = memory.counts;
          voids = memory.voids;
          index = memory.index;
        }) (record { rows = refl; points = refl }) refl refl (omega (arith, stands.facts.counted)) stands.planned.buckets row;
        bitmaps = subst (λ (o : Option BitmapIndex). bitmaps.Stand o new (first + plan.data_blocks) plan (joined_to table entry h.ring h.content h.bytes)) (sym c.add.ensures.known.bitmaps) h.bitmaps;
        blobs = subst (λ (o : Option VarData). variable.Stand o new (first + plan.data_blocks + plan.index_blocks) plan (joined_to table entry h.ring h.content h.bytes)) (sym c.add.ensures.blobs) h.blobs;
        points = record { older = points.older; points = points.points; last = points.last };
      });
      stand = h.stand;
    }

pub returns-clause-lies : goal.returns-clause-lies
returns-clause-lies g c =
    let lies = lies-moved c.args.self.now (g.F.Flash.state c.args.flash.now) (g.F.Flash.state c.place.new.flash) c.in-Ok.ensures.goes c.requires.lies in
    c.add.ensures.lies (g.F.Flash.state c.place.new.flash) (record { geometry = lies.geometry; within = lies.within; few = lies.few; ring = lies.ring; bitmaps = lies.bitmaps; blobs = c.in-Ok.ensures.lies })

pub invariant_of-self : goal.invariant_of-self
invariant_of-self g c =
    let t = c.args.self.now in
    record {
      few_knots = t.few_knots;
      few_slots = t.few_slots;
      served = t.served;
      some_blocks = t.some_blocks;
      few_blocks = t.few_blocks;
      some_columns = t.some_columns;
      few_columns = t.few_columns;
      some_row = t.some_row;
      room_for_row = t.room_for_row;
      has_blobs = t.has_blobs ∙ sym (same-some t.blobs c.place.new.blobs c.in-Ok.ensures.same);
      blobs_fit = t.blobs_fit;
      page = t.page;
      rows_end = t.rows_end;
      rows_room = t.rows_room;
      blank_rest = t.blank_rest;
      counted = t.counted;
      lies = t.lies;
      left = t.left;
      few_pages = t.few_pages;
      running = t.running;
      follow = t.follow;
      pages_left = t.pages_left;
      blobs_running = λ is. c.in-Ok.ensures.running;
      blobs_left = λ is some.
          let few = pages-few t.blobs (option_map (λ (b : Bor (List ℕ)). b.now) c.args.blob) c.requires.few in
          omega (arith, after-most c.place.new.blobs, c.in-Ok.ensures.next, few, c.requires.blobs_left);
    }

pub returns-clause-off : goal.returns-clause-off
returns-clause-off g c = λ some down. absurd (off-ok (g.F.Flash.state c.args.flash.now) (g.F.Flash.state c.place.new.flash) c.in-Ok.at (c.in-Ok.ensures.off some) down)

pub returns-in-Err-clause-off : goal.returns-in-Err-clause-off
returns-in-Err-clause-off g c = λ some. off-err (g.F.Flash.state c.args.flash.now) (g.F.Flash.state c.place.new.flash) c.in-Err.fault (c.in-Err.ensures.off some)

-- a place that was given stands in a row of a table that has blobs
fits-at : (layout : RowLayout) (has given : Bool) (at : Option BlobRef) → layout.blobs ≡ has → is_some at ≡ (has && given) → variable.FitsRow at → IfSome at (FitsReference layout)
fits-at layout has given None blobs is fits = tt
fits-at layout true given (Some at) blobs is fits = (blobs, λ page offset len. absurd (omega (arith, offset, fits.0)))
fits-at layout false given (Some at) blobs is fits = cc

-- .. and a number follows its page
end-fits : (at : Option BlobRef) → variable.FitsRow at → reference_end at < 2 ^ 32
end-fits None fits = omega arith
end-fits (Some at) fits = by_len (at.length == 0)
  where
    by_len : (b : Bool) → cond b 0 (at.page + 1) < 2 ^ 32
    by_len true = omega arith
    by_len false = fits.1

pub add-requires : goal.add-requires
add-requires g c =
    let t = c.args.self.now in
    let few = pages-few t.blobs (option_map (λ (b : Bor (List ℕ)). b.now) c.args.blob) c.requires.few in (
      table-fits g.row.KNOTS g.row.SLOTS c.args.self.now.few_knots c.args.self.now.few_slots,
      (
        record {
          key = c.requires.fits.key;
          as_many = c.requires.fits.as_many;
          values = c.requires.fits.values;
          blob = fits-at (layout_of t.schema) (is_some t.blobs) (is_some c.args.blob) c.in-Ok.at t.has_blobs c.in-Ok.ensures.given c.in-Ok.ensures.fits;
        },
        (c.requires.room, (c.requires.left, (c.requires.index_left, (omega (arith, after-most c.place.new.blobs, c.in-Ok.ensures.next, few, c.requires.blobs_left), end-fits c.in-Ok.at c.in-Ok.ensures.fits)))),
      ),
    )

pub returns-in-Err-clause-lies : goal.returns-in-Err-clause-lies
returns-in-Err-clause-lies g c =
    let lies = lies-moved c.args.self.now (g.F.Flash.state c.args.flash.now) (g.F.Flash.state c.place.new.flash) c.in-Err.ensures.goes c.requires.lies in
    record {
      geometry = lies.geometry;
      within = lies.within;
      few = lies.few;
      ring = λ ring is. absurd (none-there {X = Ring} None ring refl is);
      bitmaps = lies.bitmaps;
      blobs = c.in-Err.ensures.lies;
    }

pub invariant_of-self-in-Err : goal.invariant_of-self-in-Err
invariant_of-self-in-Err g c =
    let t = c.args.self.now in
    record {
      few_knots = t.few_knots;
      few_slots = t.few_slots;
      served = t.served;
      some_blocks = t.some_blocks;
      few_blocks = t.few_blocks;
      some_columns = t.some_columns;
      few_columns = t.few_columns;
      some_row = t.some_row;
      room_for_row = t.room_for_row;
      has_blobs = t.has_blobs ∙ sym (same-some t.blobs c.place.new.blobs c.in-Err.ensures.same);
      blobs_fit = t.blobs_fit;
      page = t.page;
      rows_end = t.rows_end;
      rows_room = t.rows_room;
      blank_rest = t.blank_rest;
      counted = t.counted;
      lies = λ ring is. absurd (none-there {X = Ring} None ring refl is);
      left = λ ring is. absurd (none-there {X = Ring} None ring refl is);
      few_pages = t.few_pages;
      running = λ is. absurd (none-is {X = Ring} None refl is);
      follow = λ ring is. absurd (none-there {X = Ring} None ring refl is);
      pages_left = t.pages_left;
      blobs_running = λ is. absurd (none-is {X = Ring} None refl is);
      blobs_left = λ is. absurd (none-is {X = Ring} None refl is);
    }

pub returns-in-Err-clause-same : goal.returns-in-Err-clause-same
returns-in-Err-clause-same g c = record {
  geometry = refl;
  layout = refl;
  place = refl;
  buckets = refl;
  error = refl;
  bitmaps = plan-same c.args.self.now.bitmaps;
  blobs = c.in-Err.ensures.same;
  limit = refl;
}

pub returns-in-Err-clause-running : goal.returns-in-Err-clause-running
returns-in-Err-clause-running g c = tt

pub returns-in-Err-clause-calm : goal.returns-in-Err-clause-calm
returns-in-Err-clause-calm g c = tt

pub returns-in-Err-clause-stopped : goal.returns-in-Err-clause-stopped
returns-in-Err-clause-stopped g c = (refl, refl)

pub returns-clause-same : goal.returns-clause-same
returns-clause-same g c = record {
  geometry = c.add.ensures.same.geometry;
  layout = c.add.ensures.same.layout;
  place = c.add.ensures.same.place;
  buckets = c.add.ensures.same.buckets;
  error = c.add.ensures.same.error;
  bitmaps = c.add.ensures.same.bitmaps;
  blobs = subst (λ (o : Option VarData). variable.AreSamePlan c.args.self.now.blobs o) (sym c.add.ensures.blobs) c.in-Ok.ensures.same;
  limit = c.add.ensures.same.limit;
}

pub returns-clause-running : goal.returns-clause-running
returns-clause-running g c = ap (λ (o : Option Ring). is_some o) c.add.ensures.known.ring ∙ c.requires.running

pub returns-clause-calm : goal.returns-clause-calm
returns-clause-calm g c = c.add.ensures.stopped

pub returns-clause-stopped : goal.returns-clause-stopped
returns-clause-stopped g c = tt

pub place-requires-clause-running : goal.place-requires-clause-running
place-requires-clause-running g c = c.args.self.now.blobs_running c.requires.running

pub place-requires-clause-lies : goal.place-requires-clause-lies
place-requires-clause-lies g c = c.requires.lies.blobs

pub place-requires-clause-few : goal.place-requires-clause-few
place-requires-clause-few g c = c.requires.few

pub returns-in-Err-clause-pending_stays : goal.returns-in-Err-clause-pending_stays
returns-in-Err-clause-pending_stays g c = refl

pub returns-in-Err-clause-last_stays : goal.returns-in-Err-clause-last_stays
returns-in-Err-clause-last_stays g c = refl

pub returns-clause-pending_stays : goal.returns-clause-pending_stays
returns-clause-pending_stays g c = tt

pub returns-clause-last_stays : goal.returns-clause-last_stays
returns-clause-last_stays g c = tt

few-left : (blobs : Option VarData) → variable.next_of blobs ≤ model.spent_from → variable.NumbersLeft blobs
few-left None le = tt
few-left (Some var) le = omega (arith, le)

pub place-requires-clause-left : goal.place-requires-clause-left
place-requires-clause-left g c = few-left c.args.self.now.blobs c.requires.blobs_left

pub returns-in-Err-clause-quiet : goal.returns-in-Err-clause-quiet
returns-in-Err-clause-quiet g c = λ few. absurd (false≢true (c.in-Err.ensures.quiet few).0)

pub returns-clause-quiet : goal.returns-clause-quiet
returns-clause-quiet g c = λ few. (refl, (c.in-Ok.ensures.quiet few).1)

pub returns-in-Err-clause-joined : goal.returns-in-Err-clause-joined
returns-in-Err-clause-joined g c = tt

pub returns-clause-joined : goal.returns-clause-joined
returns-clause-joined g c =
    let known = c.add.ensures.known in
    record {
      same = returns-clause-same g c;
      last = c.add.ensures.last;
      pending = c.add.ensures.pending;
      rows = λ rows h. subst (λ (o : Option BlobRef). PendingAre c.add.new.self (rows ++ (record { key = c.args.key; values = c.args.values.now; blob = o }) ∷ [])) c.in-Ok.ensures.placed.0 (c.add.ensures.rows rows h);
      bits = c.add.ensures.bits;
      known = record { ring = known.ring; counts = known.counts; voids = known.voids; index = known.index; bitmaps = known.bitmaps };
      blobs = subst (λ (o : Option VarData). variable.HavePlaced (option_map (λ (b : Bor (List ℕ)). b.now) c.args.blob) c.args.self.now.blobs o) (sym c.add.ensures.blobs) c.in-Ok.ensures.placed.1;
    }

pub returns-in-Err-clause-flash : goal.returns-in-Err-clause-flash
returns-in-Err-clause-flash g c =
    let t = c.args.self.now in
    let placed = c.in-Err.ensures in
    record {
      goes = placed.goes;
      power = tt;
      writes = placed.writes;
      outside = λ told page rows index blobs. var-outside t.blobs (page_at (g.F.Flash.state c.args.flash.now)) (page_at (g.F.Flash.state c.place.new.flash)) page (placed.outside told) blobs;
      reads = placed.reads;
      media_reads = placed.media_reads;
      cause = placed.cause;
    }

pub returns-clause-flash : goal.returns-clause-flash
returns-clause-flash g c =
    let t = c.args.self.now in
    let placed = c.in-Ok.ensures in
    record {
      goes = placed.goes;
      power = placed.power;
      writes = placed.writes;
      outside = λ told page rows index blobs. var-outside t.blobs (page_at (g.F.Flash.state c.args.flash.now)) (page_at (g.F.Flash.state c.place.new.flash)) page (placed.outside told) blobs;
      reads = placed.reads;
      media_reads = placed.media_reads;
      cause = tt;
    }
