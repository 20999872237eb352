use Rattle.std.proofs.Common.{rules, ◌≡◌, ◌+◌, ◌*◌, ◌%◌, ◌≤◌, Option, Some, Ok, Err, IfSome, List, ℕ, arith, sym, ◌∙◌, ap, subst, refl, set, get_or, map, option_map, length, length-set, is_some}
use Rattle.std.specs.List.{sum}
use Rattle.fl_flash.specs.Flash.{page_at}
use Rattle.fl_index.specs.Page.{full_view}
use Rattle.fl_model.specs.Layout.{Full, full_of, rows_body}
use Rattle.fl_model.specs.Ring as rings
use Rattle.fl_model.specs.Row.{stored_row}
use Rattle.fl_model.specs.Table as model
use Rattle.fl_model.specs.Table.{DataRing, after_seal, shape_of as shape_of_ring}
use Rattle.fl_model.specs.Record.{layout_len}
use Rattle.fl_page.specs.Writer.{Gathers}
use Rattle.fl_page.specs.WriterState.{WriterState}
use Rattle.fl_parts.proofs.BlobsOfTable as blobbing
use Rattle.fl_parts.proofs.BlobsOfTable.{numbers-left, same-some, var-stands}
use Rattle.fl_parts.proofs.IndexOfTable.{made-end, made-next, made-room, made-running, made-sealed, none-is, none-there, noted-end, number-left, plan-then, ring-stays, stand-sealed, still-few, still-lies, still-next, still-running}
use Rattle.fl_parts.proofs.ListsStay.{index-stands}
use Rattle.fl_parts.proofs.Plain.{table-parts, table-facts}
use Rattle.fl_parts.proofs.Pointed.{first-some, index-sealed, points-sealed}
use Rattle.fl_parts.proofs.Sizes.{index-fits, table-fits}
use Rattle.fl_parts.proofs.States.{shape_in}
use Rattle.fl_parts.proofs.VarFacts.{rest-of}
use Rattle.fl_parts.proofs.Writers.{end-none, end-same, few-rows, gathers-none, rest-clear, rest-finish, some-room}
use Rattle.fl_parts.specs.Bitmaps.{EndAt}
use Rattle.fl_ring.specs.Mounting.{shape_at}
use Rattle.fl_ring.specs.Place as place
use Rattle.fl_ring.specs.Place.{next_of, oldest_after, oldest_of, shape_of}
use Rattle.fl_ring.specs.Ring.{OutsideStands, Shape}
use Rattle.fl_ring.specs.declared.ring.Ring.{Ring}
use Rattle.fl_schema.specs.Schema.{layout_of}
use Rattle.fl_table.proofs.Counted.{learned-as, left-out-as, voids-left}
use Rattle.fl_table.proofs.Finds.{next-in, oldest-in}
use Rattle.fl_table.proofs.Paged.{rings-flushed}
use Rattle.fl_table.proofs.ReadsKeepTable.{lies-moved}
use Rattle.fl_table.proofs.SealAnswers.{counts-room, note-same, pending-length, planned-ring, planned-same, planned-shape, ring-next, writer-count, written-back}
use Rattle.fl_table.proofs.SealedRings.{before_rows, rings-break, rows-sealed, stands-before}
use Rattle.fl_table.proofs.Sealing.{rings-change, rings-left, rings-off, rings-stay}
use Rattle.fl_table.proofs.SealsInTurn.{ends-alone}
use Rattle.fl_table.proofs.VoidPages.{voids-told}
use Rattle.fl_table.specs.Look.{oldest_in}
use Rattle.fl_table.specs.Memory.{next_in}
use Rattle.fl_table.proofs.table.Table.seal.Goals as goal

-- ---- what the seals ask for

pub pending_entry-full-requires : goal.pending_entry-full-requires
pending_entry-full-requires g c = (table-fits g.row.KNOTS g.row.SLOTS c.args.self.now.few_knots c.args.self.now.few_slots, c.requires.some)

pub unreachable-requires : goal.unreachable-requires
unreachable-requires g c = none-is c.args.self.now.ring (sym c.take.ensures.value ∙ c.in_default.is) c.requires.running

pub unreachable-unreachable : goal.unreachable-unreachable
unreachable-unreachable g c = c.unreachable.type_inv

pub finish-requires : goal.finish-requires
finish-requires g c = tt

pub seal_rings-requires : goal.seal_rings-requires
seal_rings-requires g c =
    let t = c.args.self.now in
    let has : t.ring ≡ Some c.in-Some.ring = (sym c.take.ensures.value ∙ c.in-Some.is) in
    record {
      index_runs = t.running c.requires.running;
      index_lies = c.requires.lies.bitmaps;
      index_left = number-left t.bitmaps (t.pages_left c.requires.some);
      blobs_run = t.blobs_running c.requires.running;
      blobs_lie = c.requires.lies.blobs;
      blobs_left = numbers-left t.blobs (t.blobs_left c.requires.running c.requires.some);
      ring_lies = c.requires.lies.ring c.in-Some.ring has;
      size = omega (arith, ap (λ (xs : List ℕ). length xs) c.body.ensures, c.finish.ensures.size, t.page, ap (λ (r : Shape). r.size) (t.lies c.in-Some.ring has));
      numbered = search rules;
      left = omega (arith, t.left c.in-Some.ring has c.requires.some);
    }

pub voids_among-gone-requires : goal.voids_among-gone-requires
voids_among-gone-requires g c =
    let t = c.args.self.now in
    omega (arith, c.deref.ensures.len, t.counted, some-room t.place.blocks t.geometry.block t.some_blocks t.served.block_least)

pub note-requires-clause-some : goal.note-requires-clause-some
note-requires-clause-some g c =
    let t = c.args.self.now in
    omega (arith, c.deref_mut.ensures.len, t.counted, some-room t.place.blocks t.geometry.block t.some_blocks t.served.block_least)

pub note-requires-clause-few : goal.note-requires-clause-few
note-requires-clause-few g c =
    let t = c.args.self.now in
    let count : c.count.result ≡ t.writer.count = c.count.ensures ∙ ap (λ w. w.count) c.finish.ensures.exact in
    omega (arith, count, few-rows t.writer.count _ t.writer.end (length t.writer.body) t.rows_end t.rows_room t.some_row (omega (arith, t.page, t.served.page_greatest)))

pub add_further-requires : goal.add_further-requires
add_further-requires g c = index-fits g.row.KNOTS g.row.SLOTS c.args.self.now.few_knots c.args.self.now.few_slots

pub note_entry-requires-clause-room : goal.note_entry-requires-clause-room
note_entry-requires-clause-room g c = λ end. made-room c.args.self.now.bitmaps c.seal_rings.new.bitmaps c.in_default-seal_rings.ensures.entries.made

pub note_entry-requires-clause-left : goal.note_entry-requires-clause-left
note_entry-requires-clause-left g c =
    let left : next_of c.in-Some.ring ≤ model.spent_from = c.args.self.now.left c.in-Some.ring (sym c.take.ensures.value ∙ c.in-Some.is) c.requires.some in
    omega (arith, left, c.next_number-number.ensures)

-- ---- a seal failed

pub invariant_of-self : goal.invariant_of-self
invariant_of-self g c =
    let t = c.args.self.now in
    let end : c.finish.new.self.end ≡ t.writer.end = ap (λ w. w.end) c.finish.ensures.exact in
    let stay = rings-stay c.args.self.now c.in-Some.ring (sym c.take.ensures.value ∙ c.in-Some.is) c.body.result.now (g.F.Flash.state c.args.flash.now) c.seal_rings.new.bitmaps c.seal_rings.new.blobs c.seal_rings.new.ring (g.F.Flash.state c.seal_rings.new.flash) (Err c.in-Err.fault) c.requires.lies.blobs c.in-Err.ensures in
    record {
      few_knots = t.few_knots;
      few_slots = t.few_slots;
      served = t.served;
      some_blocks = t.some_blocks;
      few_blocks = t.few_blocks;
      some_columns = t.some_columns;
      few_columns = t.few_columns;
      some_row = t.some_row;
      room_for_row = t.room_for_row;
      has_blobs = t.has_blobs ∙ sym (same-some t.blobs c.seal_rings.new.blobs stay.1);
      blobs_fit = t.blobs_fit;
      page = omega (arith, c.finish.ensures.size, t.page);
      rows_end = end-same t.writer c.finish.new.self (layout_len (layout_of t.schema)) (ap (λ (w : WriterState). w.count) c.finish.ensures.exact) end t.rows_end;
      rows_room = omega (arith, end, c.finish.ensures.size, t.rows_room);
      blank_rest = rest-finish t.writer c.finish.new.self c.next_number-number.result t.bitmap c.finish.ensures.exact c.finish.ensures.size (omega (arith, t.rows_end)) t.blank_rest;
      counted = t.counted;
      lies = λ ring is. absurd (none-there c.take.new.self ring c.take.ensures.after is);
      left = λ ring is. absurd (none-there c.take.new.self ring c.take.ensures.after is);
      few_pages = still-few (t.place.blocks * t.geometry.block + 6) t.bitmaps c.seal_rings.new.bitmaps stay.0 t.few_pages;
      running = λ is. absurd (none-is c.take.new.self c.take.ensures.after is);
      follow = λ ring is. absurd (none-there c.take.new.self ring c.take.ensures.after is);
      pages_left = λ some. rings-left c.args.self.now c.in-Some.ring (sym c.take.ensures.value ∙ c.in-Some.is) c.body.result.now (g.F.Flash.state c.args.flash.now) c.seal_rings.new.bitmaps c.seal_rings.new.blobs c.seal_rings.new.ring (g.F.Flash.state c.seal_rings.new.flash) c.in-Err.fault (t.pages_left c.requires.some) c.in-Err.ensures;
      blobs_running = λ is. absurd (none-is c.take.new.self c.take.ensures.after is);
      blobs_left = λ is. absurd (none-is c.take.new.self c.take.ensures.after is);
    }

pub returns-in-Err-clause-same : goal.returns-in-Err-clause-same
returns-in-Err-clause-same g c =
    let stay = rings-stay c.args.self.now c.in-Some.ring (sym c.take.ensures.value ∙ c.in-Some.is) c.body.result.now (g.F.Flash.state c.args.flash.now) c.seal_rings.new.bitmaps c.seal_rings.new.blobs c.seal_rings.new.ring (g.F.Flash.state c.seal_rings.new.flash) (Err c.in-Err.fault) c.requires.lies.blobs c.in-Err.ensures in
    record { geometry = refl; layout = refl; place = refl; buckets = refl; error = refl; bitmaps = stay.0; blobs = stay.1; limit = refl }

pub returns-in-Err-clause-lies : goal.returns-in-Err-clause-lies
returns-in-Err-clause-lies g c =
    let stay = rings-stay c.args.self.now c.in-Some.ring (sym c.take.ensures.value ∙ c.in-Some.is) c.body.result.now (g.F.Flash.state c.args.flash.now) c.seal_rings.new.bitmaps c.seal_rings.new.blobs c.seal_rings.new.ring (g.F.Flash.state c.seal_rings.new.flash) (Err c.in-Err.fault) c.requires.lies.blobs c.in-Err.ensures in
    let lies = lies-moved c.args.self.now (g.F.Flash.state c.args.flash.now) (g.F.Flash.state c.seal_rings.new.flash) (rings-change c.args.self.now c.in-Some.ring (sym c.take.ensures.value ∙ c.in-Some.is) c.body.result.now (g.F.Flash.state c.args.flash.now) c.seal_rings.new.bitmaps c.seal_rings.new.blobs c.seal_rings.new.ring (g.F.Flash.state c.seal_rings.new.flash) (Err c.in-Err.fault) c.in-Err.ensures).goes c.requires.lies in
    record { geometry = lies.geometry; within = lies.within; few = lies.few; ring = λ ring is. absurd (none-there c.take.new.self ring c.take.ensures.after is); bitmaps = stay.2; blobs = stay.3 }

pub returns-in-Err-clause-ends : goal.returns-in-Err-clause-ends
returns-in-Err-clause-ends g c = λ first plan table rose device watched stands.
    let t = c.args.self.now in
    let lies = c.requires.lies in
    rings-break t c.in-Some.ring (sym c.take.ensures.value ∙ c.in-Some.is) c.body.result.now (g.F.Flash.state c.args.flash.now) (g.F.Flash.state c.seal_rings.new.flash) first plan table rose device c.requires.some stands watched c.seal_rings.new.bitmaps c.seal_rings.new.blobs c.seal_rings.new.ring
    (λ layout rows gathers. c.body.ensures ∙ (c.finish.ensures.body layout rows gathers ∙ ap (λ n. rows_body (length t.writer.body) layout n t.bitmap rows) c.next_number-number.ensures))
    lies.geometry lies.within (g.met.F.Flash.reaches c.seal_rings.new.flash) c.in-Err.fault c.in-Err.ensures

pub returns-in-Err-clause-emptied : goal.returns-in-Err-clause-emptied
returns-in-Err-clause-emptied g c = tt

pub returns-in-Err-clause-last : goal.returns-in-Err-clause-last
returns-in-Err-clause-last g c = refl

pub returns-in-Err-clause-pending_stays : goal.returns-in-Err-clause-pending_stays
returns-in-Err-clause-pending_stays g c = ap (λ (w : WriterState). w.count) c.finish.ensures.exact

pub returns-in-Err-clause-running : goal.returns-in-Err-clause-running
returns-in-Err-clause-running g c = tt

pub returns-in-Err-clause-index_next : goal.returns-in-Err-clause-index_next
returns-in-Err-clause-index_next g c = tt

pub returns-in-Err-clause-calm : goal.returns-in-Err-clause-calm
returns-in-Err-clause-calm g c = tt

pub returns-in-Err-clause-stopped : goal.returns-in-Err-clause-stopped
returns-in-Err-clause-stopped g c = (ap (λ (o : Option Ring). is_some o) c.take.ensures.after, refl)

pub returns-in-Err-clause-off : goal.returns-in-Err-clause-off
returns-in-Err-clause-off g c = rings-off c.args.self.now c.in-Some.ring (sym c.take.ensures.value ∙ c.in-Some.is) c.body.result.now (g.F.Flash.state c.args.flash.now) c.seal_rings.new.bitmaps c.seal_rings.new.blobs c.seal_rings.new.ring (g.F.Flash.state c.seal_rings.new.flash) (Err c.in-Err.fault) c.in-Err.ensures

pub returns-in-Err-clause-sealed : goal.returns-in-Err-clause-sealed
returns-in-Err-clause-sealed g c = tt

pub returns-in-Err-clause-flash : goal.returns-in-Err-clause-flash
returns-in-Err-clause-flash g c = rings-change c.args.self.now c.in-Some.ring (sym c.take.ensures.value ∙ c.in-Some.is) c.body.result.now (g.F.Flash.state c.args.flash.now) c.seal_rings.new.bitmaps c.seal_rings.new.blobs c.seal_rings.new.ring (g.F.Flash.state c.seal_rings.new.flash) (Err c.in-Err.fault) c.in-Err.ensures

-- ---- all were done

pub invariant_of-self-2 : goal.invariant_of-self-2
invariant_of-self-2 g c =
    let t = c.args.self.now in
    let has : t.ring ≡ Some c.in-Some.ring = (sym c.take.ensures.value ∙ c.in-Some.is) in
    let end : c.finish.new.self.end ≡ t.writer.end = ap (λ w. w.end) c.finish.ensures.exact in
    let none : c.clear.new.self.count ≡ 0 = ap (λ w. w.count) c.clear.ensures.exact in
    let first : c.clear.new.self.end ≡ 16 = ap (λ w. w.end) c.clear.ensures.exact in
    let h = c.in_default-seal_rings.ensures in
    record {
      few_knots = t.few_knots;
      few_slots = t.few_slots;
      served = t.served;
      some_blocks = t.some_blocks;
      few_blocks = t.few_blocks;
      some_columns = t.some_columns;
      few_columns = t.few_columns;
      some_row = t.some_row;
      room_for_row = t.room_for_row;
      has_blobs = t.has_blobs ∙ sym (same-some t.blobs c.seal_rings.new.blobs h.bytes.same);
      blobs_fit = t.blobs_fit;
      page = omega (arith, c.clear.ensures.size, c.finish.ensures.size, t.page);
      rows_end = end-none c.clear.new.self (layout_len (layout_of t.schema)) none first;
      rows_room = omega (arith, first, c.clear.ensures.size, c.finish.ensures.size, t.page, t.room_for_row);
      blank_rest = rest-clear c.finish.new.self c.clear.new.self c.clear.ensures.exact (omega (arith, end, t.rows_end)) (omega (arith, end, t.rows_room, c.finish.ensures.size))
          (rest-finish t.writer c.finish.new.self c.next_number-number.result t.bitmap c.finish.ensures.exact c.finish.ensures.size (omega (arith, t.rows_end)) t.blank_rest);
      counted = search rules;
      lies = λ ring is. subst (λ (o : Option Ring). IfSome o (λ r. shape_of r ≡ shape_at t.place t.geometry)) is (h.rows.memory.same ∙ t.lies c.in-Some.ring has);
      left = λ ring is some. absurd (omega (arith, some, none));
      few_pages = still-few (t.place.blocks * t.geometry.block + 6) c.seal_rings.new.bitmaps c.note_entry.new.bitmaps c.note_entry.ensures.same (still-few (t.place.blocks * t.geometry.block + 6) t.bitmaps c.seal_rings.new.bitmaps h.entries.same t.few_pages);
      running = λ is. still-running c.seal_rings.new.bitmaps c.note_entry.new.bitmaps c.note_entry.ensures.still (made-running t.bitmaps c.seal_rings.new.bitmaps h.entries.made);
      follow = λ ring is.
          let end = noted-end c.seal_rings.new.bitmaps c.note_entry.new.bitmaps c.next_number-number.result t.bitmap c.pending_entry-full.result c.note_entry.ensures.noted
          (subst (λ (n : ℕ). EndAt c.seal_rings.new.bitmaps n) (sym c.next_number-number.ensures) (made-end t.bitmaps c.seal_rings.new.bitmaps _ h.entries.made (t.follow c.in-Some.ring has))) in
          let next : c.next_number-number.result + 1 ≡ next_of c.seal_rings.new.ring = omega (arith, c.next_number-number.ensures, h.rows.memory.next) in
          subst (λ (o : Option Ring). IfSome o (λ r. EndAt c.note_entry.new.bitmaps (next_of r))) is (subst (λ (n : ℕ). EndAt c.note_entry.new.bitmaps n) next end);
      pages_left = λ some. absurd (omega (arith, some, none));
      blobs_running = λ is. h.bytes.running;
      blobs_left = λ is some. absurd (omega (arith, some, none));
    }

pub returns-clause-same : goal.returns-clause-same
returns-clause-same g c =
    let h = c.in_default-seal_rings.ensures in
    record { geometry = refl; layout = refl; place = refl; buckets = refl; error = c.add_further.ensures.error; bitmaps = plan-then c.args.self.now.bitmaps c.seal_rings.new.bitmaps c.note_entry.new.bitmaps h.entries.same c.note_entry.ensures.same; blobs = h.bytes.same; limit = refl }

pub returns-clause-lies : goal.returns-clause-lies
returns-clause-lies g c =
    let stay = rings-stay c.args.self.now c.in-Some.ring (sym c.take.ensures.value ∙ c.in-Some.is) c.body.result.now (g.F.Flash.state c.args.flash.now) c.seal_rings.new.bitmaps c.seal_rings.new.blobs c.seal_rings.new.ring (g.F.Flash.state c.seal_rings.new.flash) (Ok tt) c.requires.lies.blobs c.in_default-seal_rings.ensures in
    let lies = lies-moved c.args.self.now (g.F.Flash.state c.args.flash.now) (g.F.Flash.state c.seal_rings.new.flash) (rings-change c.args.self.now c.in-Some.ring (sym c.take.ensures.value ∙ c.in-Some.is) c.body.result.now (g.F.Flash.state c.args.flash.now) c.seal_rings.new.bitmaps c.seal_rings.new.blobs c.seal_rings.new.ring (g.F.Flash.state c.seal_rings.new.flash) (Ok tt) c.in_default-seal_rings.ensures).goes c.requires.lies in
    record { geometry = lies.geometry; within = lies.within; few = lies.few; ring = λ ring is. subst (λ (o : Option Ring). IfSome o (λ r. place.LiesOn r (g.F.Flash.state c.seal_rings.new.flash))) is c.in_default-seal_rings.ensures.rows.memory.lies; bitmaps = still-lies c.seal_rings.new.bitmaps c.note_entry.new.bitmaps (g.F.Flash.state c.seal_rings.new.flash) c.note_entry.ensures.same c.note_entry.ensures.still stay.2; blobs = stay.3 }

pub returns-clause-ends : goal.returns-clause-ends
returns-clause-ends g c = λ first plan table rose device watched stands.
    let t = c.args.self.now in
    let old = (g.F.Flash.state c.args.flash.now) in
    let new = (g.F.Flash.state c.seal_rings.new.flash) in
    let ring = c.in-Some.ring in
    let has : t.ring ≡ Some ring = (sym c.take.ensures.value ∙ c.in-Some.is) in
    let body = c.body.result.now in
    let listed = c.seal_rings.new.bitmaps in
    let rest = c.seal_rings.new.blobs in
    let now = c.seal_rings.new.ring in
    let h = c.in_default-seal_rings.ensures in
    let lies = c.requires.lies in
    let b = before_rows t ring body old (Ok tt) listed rest now new h in
    let k = stands-before t ring has body old new first plan table rose device c.requires.some stands watched listed rest now (Ok tt) h in
    let sealed = rows-sealed t ring has body old new first plan table rose device c.requires.some stands watched listed rest now
    (λ layout rows gathers. c.body.ensures ∙ (c.finish.ensures.body layout rows gathers ∙ ap (λ n. rows_body (length t.writer.body) layout n t.bitmap rows) c.next_number-number.ensures))
    lies.geometry lies.within (g.met.F.Flash.reaches c.seal_rings.new.flash) h in
    let after = k.after in
    let planned = k.stands.planned in
    let memory = k.stands.memory in
    let shape : shape_of ring ≡ shape_in first plan = t.lies ring has ∙ planned-ring t first plan stands.planned in
    let outside : OutsideStands (shape_in first plan) (page_at h.then) (page_at new) = subst (λ (r : Shape). OutsideStands r (page_at h.then) (page_at new)) shape (h.rows.flash.outside k.watched.told) in
    let number : c.next_number-number.result ≡ after.rows.next = c.next_number-number.ensures ∙ ring-next b h.then first plan after ring k.stands has in
    let pending : t.writer.count ≡ after.pending = writer-count b h.then first plan after k.stands in
    let count : c.count.result ≡ after.pending = c.count.ensures ∙ (ap (λ w. w.count) c.finish.ensures.exact ∙ pending) in
    let room : length t.counts.items ≡ plan.data_blocks * plan.geometry.block = counts-room t first plan stands.planned in
    let end : c.finish.new.self.end ≡ t.writer.end = ap (λ w. w.end) c.finish.ensures.exact in
    let blank = rest-clear c.finish.new.self c.clear.new.self c.clear.ensures.exact (omega (arith, end, t.rows_end)) (omega (arith, end, t.rows_room, c.finish.ensures.size))
    (rest-finish t.writer c.finish.new.self c.next_number-number.result t.bitmap c.finish.ensures.exact c.finish.ensures.size (omega (arith, t.rows_end)) t.blank_rest) in
    let noted : c.note.new.counts ≡ set t.counts.items (after.rows.next % (plan.data_blocks * plan.geometry.block)) after.pending =
    c.note.ensures ∙ note-same c.deref_mut.result.now t.counts.items c.next_number-number.result after.rows.next c.count.result after.pending (plan.data_blocks * plan.geometry.block) c.deref_mut.ensures.value number count room in
    let size : length c.note.new.counts ≡ length t.counts.items = ap length noted ∙ length-set t.counts.items (after.rows.next % (plan.data_blocks * plan.geometry.block)) after.pending in
    let back = written-back t.counts.items c.note.new.counts t.counts.len size t.counts.ok.0 in
    let entry : full_view c.pending_entry-full.result ≡ full_of (model.pending_entries after) = c.pending_entry-full.ensures.stands old first plan table stands ∙ ap full_of (sym k.entries) in
    let first_key : model.first_pending after ≡ Some c.pending_entry-full.result.first_key =
    first-some (model.pending_entries after) (omega (arith, c.requires.some, pending, pending-length plan after k.stands.facts.counted)) ∙ ap (λ k. Some k) (sym (ap (λ (f : Full). f.first_key) entry)) in
    k.ends _ (ends-alone first plan after rose k.later (Ok tt) _ h.then new (record {
      now = sealed.now;
      did = sealed.did;
      whole = sealed.whole;
      counts = sealed.counted;
      power = sealed.power;
      stands = record {
        planned = planned-same b _ first plan planned (record { geometry = refl; layout = refl; place = refl; buckets = refl; error = c.add_further.ensures.error; bitmaps = c.note_entry.ensures.same; blobs = blobbing.plan-same rest; limit = refl });
        facts = table-facts plan (after_seal plan DataRing after) sealed.facts;
        whole = sealed.untorn;
        clean = refl;
        pages = sealed.pages;
        memory = record {
          ring = now;
          ring_is = refl;
          next = sealed.next;
          oldest = sealed.oldest_is;
          gathers = subst (λ (es : List model.Entry). Gathers (layout_of t.schema) (map stored_row es) c.clear.new.self) (sym sealed.none)
              (gathers-none (layout_of t.schema) c.clear.new.self (ap (λ w. w.count) c.clear.ensures.exact) (ap (λ w. w.end) c.clear.ensures.exact) blank);
          bitmap = sealed.no_bits;
          blob_end = sym (ap model.end_of_blobs sealed.none);
          last = memory.last ∙ ap (option_map (λ (entry : model.Entry). entry.kept.key)) sealed.last;
          counts = λ i count e. ap (λ (cs : List ℕ). get_or cs ((rings.oldest (after_seal plan DataRing after).rows + i) % (plan.data_blocks * plan.geometry.block)) 0) (back ∙ noted) ∙ sealed.counts_are i count e;
          voids = voids-told b h.then first plan after k.stands ring c.deref.result.now c.oldest-oldest.result c.oldest.result c.voids_among-gone.result c.saturating_sub-self.result has c.oldest-oldest.ensures
              (c.oldest.ensures ∙ sealed.oldest_is) (planned-shape b first plan planned) (omega (arith, c.requires.some, pending)) c.deref.ensures.value c.voids_among-gone.ensures c.saturating_sub-self.ensures;
          index = index-sealed plan after t.index c.add_further.new.self c.pending_entry-full.result.first_key c.next_number-number.result k.stands.facts k.stands.points memory.index first_key number c.add_further.ensures.points;
        };
        bitmaps = stand-sealed listed c.note_entry.new.bitmaps h.then new first plan after c.next_number-number.result t.bitmap c.pending_entry-full.result planned.index (table-parts plan after planned.log k.stands.facts) sealed.facts
            (index-stands (page_at h.then) (page_at new) first plan outside) number memory.bitmap entry c.note_entry.ensures.noted k.stands.bitmaps;
        blobs = blobbing.stand-moved rest h.then new first plan after (after_seal plan DataRing after) (var-stands (page_at h.then) (page_at new) first plan outside) refl refl refl
            (rest-of (sum (rings.given_up (shape_of_ring plan DataRing) after.pending after.rows)) after.entries) k.stands.blobs;
        points = points-sealed plan after k.stands.facts (planned-shape b first plan planned) k.stands.points (omega (arith, c.requires.some, pending));
      };
      stand = sealed.stand;
    }))

pub returns-clause-emptied : goal.returns-clause-emptied
returns-clause-emptied g c =
    let t = c.args.self.now in
    let ring = c.in-Some.ring in
    let has : t.ring ≡ Some ring = (sym c.take.ensures.value ∙ c.in-Some.is) in
    let h = c.in_default-seal_rings.ensures in
    let end : c.finish.new.self.end ≡ t.writer.end = ap (λ w. w.end) c.finish.ensures.exact in
    let number : c.next_number-number.result ≡ next_in t = c.next_number-number.ensures ∙ sym (next-in t ring has) in
    let count : c.count.result ≡ t.writer.count = c.count.ensures ∙ ap (λ w. w.count) c.finish.ensures.exact in
    let noted : c.note.new.counts ≡ set t.counts.items (next_in t % length t.counts.items) t.writer.count =
    c.note.ensures ∙ note-same c.deref_mut.result.now t.counts.items c.next_number-number.result (next_in t) c.count.result t.writer.count (length t.counts.items) c.deref_mut.ensures.value number count refl in
    let size : length c.note.new.counts ≡ length t.counts.items = ap length noted ∙ length-set t.counts.items (next_in t % length t.counts.items) t.writer.count in
    let key = c.pending_entry-full.result.first_key in
    record {
      same = record { geometry = refl; layout = refl; place = refl; buckets = refl; error = c.add_further.ensures.error; bitmaps = plan-then c.args.self.now.bitmaps c.seal_rings.new.bitmaps c.note_entry.new.bitmaps h.entries.same c.note_entry.ensures.same; blobs = h.bytes.same; limit = refl };
      next = omega (arith, h.rows.memory.next, next-in t ring has);
      empty = record {
        none = ap (λ (w : WriterState). w.count) c.clear.ensures.exact;
        rows = gathers-none (layout_of t.schema) c.clear.new.self (ap (λ w. w.count) c.clear.ensures.exact) (ap (λ w. w.end) c.clear.ensures.exact)
            (rest-clear c.finish.new.self c.clear.new.self c.clear.ensures.exact (omega (arith, end, t.rows_end)) (omega (arith, end, t.rows_room, c.finish.ensures.size))
            (rest-finish t.writer c.finish.new.self c.next_number-number.result t.bitmap c.finish.ensures.exact c.finish.ensures.size (omega (arith, t.rows_end)) t.blank_rest));
        bits = refl;
        ends = refl;
        blobs = h.bytes.empty;
      };
      blob_next = h.bytes.next;
      blob_oldest = h.bytes.oldest;
      index = ring-stays t.bitmaps c.seal_rings.new.bitmaps c.seal_rings.new.bitmaps c.note_entry.new.bitmaps (made-sealed t.bitmaps c.seal_rings.new.bitmaps h.entries.made) refl c.note_entry.ensures.still;
      counted = record {
        oldest = subst (λ (o : Option Ring). IfSome o (λ r. oldest_of c.seal_rings.new.ring ≡ oldest_after r)) (sym has) h.rows.memory.kept_from;
        noted = written-back t.counts.items c.note.new.counts t.counts.len size t.counts.ok.0 ∙ noted;
        voids = voids-left c.saturating_sub-self.result c.voids_among-gone.result t.voids c.oldest-oldest.result c.oldest.result (oldest_in t) (oldest_of c.seal_rings.new.ring) c.deref.result.now t.counts.items
            c.saturating_sub-self.ensures c.voids_among-gone.ensures c.deref.ensures.value (c.oldest-oldest.ensures ∙ sym (oldest-in t ring has)) c.oldest.ensures;
        learned = λ row rows gathers.
            learned-as t.index c.add_further.new.self key c.next_number-number.result row.key (next_in t) (c.pending_entry-full.ensures.first row rows gathers) number c.add_further.ensures.points;
        left_out = λ row rows gathers.
            left-out-as t.index c.add_further.new.self key c.next_number-number.result row.key (next_in t) (c.pending_entry-full.ensures.first row rows gathers) number c.add_further.ensures.left_out;
      };
    }

pub returns-clause-last : goal.returns-clause-last
returns-clause-last g c = refl

pub returns-clause-pending_stays : goal.returns-clause-pending_stays
returns-clause-pending_stays g c = tt

pub returns-clause-running : goal.returns-clause-running
returns-clause-running g c = refl

pub returns-clause-index_next : goal.returns-clause-index_next
returns-clause-index_next g c = omega (arith, still-next c.seal_rings.new.bitmaps c.note_entry.new.bitmaps c.note_entry.ensures.still, made-next c.args.self.now.bitmaps c.seal_rings.new.bitmaps c.in_default-seal_rings.ensures.entries.made)

pub returns-clause-calm : goal.returns-clause-calm
returns-clause-calm g c = refl

pub returns-clause-stopped : goal.returns-clause-stopped
returns-clause-stopped g c = tt

pub returns-clause-off : goal.returns-clause-off
returns-clause-off g c = rings-off c.args.self.now c.in-Some.ring (sym c.take.ensures.value ∙ c.in-Some.is) c.body.result.now (g.F.Flash.state c.args.flash.now) c.seal_rings.new.bitmaps c.seal_rings.new.blobs c.seal_rings.new.ring (g.F.Flash.state c.seal_rings.new.flash) (Ok tt) c.in_default-seal_rings.ensures

pub returns-clause-sealed : goal.returns-clause-sealed
returns-clause-sealed g c =
    let t = c.args.self.now in
    rings-flushed t c.in-Some.ring (sym c.take.ensures.value ∙ c.in-Some.is) c.body.result.now
    (λ layout rows gathers. c.body.ensures ∙ (c.finish.ensures.body layout rows gathers ∙ ap (λ n. rows_body (length t.writer.body) layout n t.bitmap rows) c.next_number-number.ensures))
    (g.F.Flash.state c.args.flash.now) c.requires.lies c.seal_rings.new.bitmaps c.seal_rings.new.blobs c.seal_rings.new.ring (g.F.Flash.state c.seal_rings.new.flash) c.in_default-seal_rings.ensures

pub returns-clause-flash : goal.returns-clause-flash
returns-clause-flash g c = rings-change c.args.self.now c.in-Some.ring (sym c.take.ensures.value ∙ c.in-Some.is) c.body.result.now (g.F.Flash.state c.args.flash.now) c.seal_rings.new.bitmaps c.seal_rings.new.blobs c.seal_rings.new.ring (g.F.Flash.state c.seal_rings.new.flash) (Ok tt) c.in_default-seal_rings.ensures
