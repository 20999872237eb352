use Rattle.std.proofs.Common.{◌≤◌, ◌-◌, ℕ, length, IsTrue}
use Rattle.fl_ring.specs.Place.{oldest_of, next_of}
use Rattle.fl_schema.specs.Schema.{layout_of}
use Rattle.fl_parts.specs.ByEntries.{Come}
use Rattle.fl_parts.specs.Coming.{AreRowsOf, AreUnlisted}
use Rattle.fl_parts.specs.KeptSteps.{HasCome, Keeps, LeavesNoted}
use Rattle.fl_parts.specs.Knowing.{KnowsWith, is_waiting}
use Rattle.fl_parts.specs.Reading.{pages_of, GatherUpTo, AreGathered}
use Rattle.fl_parts.proofs.load.read_pages.Given as goal

abbrev pub invariant-loop-number : goal.invariant-loop-number
invariant-loop-number g l = record {
  from : l.initial.from ≤ l.number;
  come : HasCome l.ring l.number l.known;
  newest : is_waiting l.known.newest ≤ is_waiting l.initial.known.newest;
  leaves : LeavesNoted l.initial.bitmaps (g.F.Flash.state l.initial.flash) (l.number - l.initial.from) l.bitmaps (g.F.Flash.state l.flash);
  keeps : Keeps l.initial.counts l.initial.index l.initial.buf l.counts l.index l.buf;
  gathered : AreGathered l.initial.bitmaps l.number l.bitmaps;
  waits : IsTrue (g.F.Flash.state l.initial.flash).media.tells → GatherUpTo (layout_of l.schema) l.initial.bitmaps (pages_of l.ring (g.F.Flash.state l.initial.flash)) l.number l.bitmaps;
  knows : IsTrue (g.F.Flash.state l.initial.flash).media.tells → next_of l.ring - oldest_of l.ring ≤ length l.initial.counts → (error : ℕ) (t : Come) → AreRowsOf t (layout_of l.schema) l.ring (g.F.Flash.state l.initial.flash) → AreUnlisted t l.initial.from →
      KnowsWith error t t.index_pages (l.initial.from - t.oldest) l.initial.known l.initial.counts l.initial.index → KnowsWith error t t.index_pages (l.number - t.oldest) l.known l.counts l.index;
}
