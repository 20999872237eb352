use Rattle.std.proofs.Common.{◌≤◌, ◌-◌, ◌+◌, ℕ, length, IsTrue}
use Rattle.fl_index.specs.Memory.{oldest_in, next_in}
use Rattle.fl_index.specs.Standing.{StandsBelow}
use Rattle.fl_model.specs.Record.{Plan}
use Rattle.fl_model.specs.Table as model
use Rattle.fl_ring.specs.Place.{next_of, oldest_of}
use Rattle.fl_schema.specs.Schema.{layout_of}
use Rattle.fl_parts.specs.ByEntries.{Come}
use Rattle.fl_parts.specs.Coming.{AreRemembered, IsComeTo}
use Rattle.fl_parts.specs.KeptSteps.{HasComeBy, Keeps, LeavesIndex}
use Rattle.fl_parts.specs.Knowing.{KnowsWith}
use Rattle.fl_parts.proofs.ListedPages.{HasPassed}
use Rattle.fl_parts.proofs.by_entries.see_listed.Given as goal

abbrev pub invariant-loop-page : goal.invariant-loop-page
invariant-loop-page g l =
    let before = g.F.Flash.state l.initial.flash in
    let now = g.F.Flash.state l.flash in
    let first = oldest_in l.initial.bitmaps in record {
      from : first ≤ l.page;
      most : l.page ≤ next_in l.initial.bitmaps;
      come : HasComeBy l.ring l.number (l.page - first + (l.number - oldest_of l.ring)) before l.initial.known l.known now;
      leaves : LeavesIndex l.initial.bitmaps before (l.page - first + (l.number - oldest_of l.ring)) l.bitmaps now;
      keeps : Keeps l.initial.counts l.initial.index l.initial.buf l.counts l.index l.buf;
      stands : (first : ℕ) → (plan : Plan) → (table : model.Table) → IsTrue before.media.tells → StandsBelow (oldest_in l.initial.bitmaps) l.initial.bitmaps before first plan table → StandsBelow l.page l.bitmaps now first plan table;
      remembers : IsTrue before.media.tells → AreRemembered l.initial.bitmaps before first l.page l.bitmaps;
      passed : IsTrue before.media.tells → next_of l.ring - oldest_of l.ring ≤ length l.initial.counts → (error : ℕ) (t : Come) → IsComeTo t (layout_of l.schema) l.limit l.initial.bitmaps l.ring before → KnowsWith error t 0 0 l.initial.known l.initial.counts l.initial.index →
          HasPassed error t (l.page - first) l.number l.end before.work.reads now.work.reads l.known l.counts l.index l.bitmaps;
    }
