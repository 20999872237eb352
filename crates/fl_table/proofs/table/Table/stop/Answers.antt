use Rattle.std.proofs.Common.{Bool, ◌||◌, None, refl, sym, ◌∙◌, ap}
use Rattle.std.proofs.lemmas.Bool.{true≢false}
use Rattle.fl_ring.specs.declared.ring.Ring.{Ring}
use Rattle.fl_parts.proofs.IndexOfTable.{none-is, none-there, plan-same}
use Rattle.fl_parts.proofs.BlobsOfTable as blobbing
use Rattle.fl_table.proofs.SealAnswers.{plan-self}
use Rattle.fl_parts.proofs.Sizes.{table-fits}
use Rattle.fl_table.proofs.table.Table.stop.Goals as goal

pub is_running-requires : goal.is_running-requires
is_running-requires g c = table-fits g.row.KNOTS g.row.SLOTS c.args.self.now.few_knots c.args.self.now.few_slots

-- without its ring
pub invariant_of-self : goal.invariant_of-self
invariant_of-self g c =
    let t = c.args.self.now in
    record {
      few_knots = t.few_knots;
      few_slots = t.few_slots;
      served = t.served;
      some_blocks = t.some_blocks;
      few_blocks = t.few_blocks;
      some_columns = t.some_columns;
      few_columns = t.few_columns;
      some_row = t.some_row;
      room_for_row = t.room_for_row;
      has_blobs = t.has_blobs;
      blobs_fit = t.blobs_fit;
      page = t.page;
      rows_end = t.rows_end;
      rows_room = t.rows_room;
      blank_rest = t.blank_rest;
      counted = t.counted;
      lies = λ ring is. absurd (none-there {X = Ring} None ring refl is);
      left = λ ring is. absurd (none-there {X = Ring} None ring refl is);
      few_pages = t.few_pages;
      running = λ is. absurd (none-is {X = Ring} None refl is);
      follow = λ ring is. absurd (none-there {X = Ring} None ring refl is);
      pages_left = t.pages_left;
      blobs_running = λ is. absurd (none-is {X = Ring} None refl is);
      blobs_left = λ is. absurd (none-is {X = Ring} None refl is);
    }

pub returns-then-is_running-clause-stopped : goal.returns-then-is_running-clause-stopped
returns-then-is_running-clause-stopped g c = ap (λ (b : Bool). b || c.args.self.now.stopped) (sym (sym c.is_running.ensures ∙ c.if-is_running.true))

pub returns-then-is_running-clause-running : goal.returns-then-is_running-clause-running
returns-then-is_running-clause-running g c = refl

pub returns-then-is_running-clause-still : goal.returns-then-is_running-clause-still
returns-then-is_running-clause-still g c = λ down. absurd (true≢false (sym (sym c.is_running.ensures ∙ c.if-is_running.true) ∙ down))

pub returns-then-is_running-clause-pending : goal.returns-then-is_running-clause-pending
returns-then-is_running-clause-pending g c = refl

pub returns-then-is_running-clause-last : goal.returns-then-is_running-clause-last
returns-then-is_running-clause-last g c = refl

pub returns-then-is_running-clause-same : goal.returns-then-is_running-clause-same
returns-then-is_running-clause-same g c =
    let t = c.args.self.now in
    record { geometry = refl; layout = refl; place = refl; buckets = refl; error = refl; bitmaps = plan-same t.bitmaps; blobs = blobbing.plan-same t.blobs; limit = refl }

pub returns-then-is_running-clause-lies : goal.returns-then-is_running-clause-lies
returns-then-is_running-clause-lies g c = λ f lies. record {
  geometry = lies.geometry;
  within = lies.within;
  few = lies.few;
  ring = λ ring is. absurd (none-there {X = Ring} None ring refl is);
  bitmaps = lies.bitmaps;
  blobs = lies.blobs;
}

-- it wasn't mounted
pub returns-else-is_running-clause-stopped : goal.returns-else-is_running-clause-stopped
returns-else-is_running-clause-stopped g c = ap (λ (b : Bool). b || c.args.self.now.stopped) (sym (sym c.is_running.ensures ∙ c.if-is_running.false))

pub returns-else-is_running-clause-running : goal.returns-else-is_running-clause-running
returns-else-is_running-clause-running g c = sym c.is_running.ensures ∙ c.if-is_running.false

pub returns-else-is_running-clause-still : goal.returns-else-is_running-clause-still
returns-else-is_running-clause-still g c = λ down. refl

pub returns-else-is_running-clause-pending : goal.returns-else-is_running-clause-pending
returns-else-is_running-clause-pending g c = refl

pub returns-else-is_running-clause-last : goal.returns-else-is_running-clause-last
returns-else-is_running-clause-last g c = refl

pub returns-else-is_running-clause-same : goal.returns-else-is_running-clause-same
returns-else-is_running-clause-same g c = plan-self c.args.self.now

pub returns-else-is_running-clause-lies : goal.returns-else-is_running-clause-lies
returns-else-is_running-clause-lies g c = λ f lies. lies
