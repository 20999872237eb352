use Rattle.std.proofs.Common.{◌≤◌, ◌-◌, ◌+◌, ℕ}
use Rattle.fl_frame.specs.Reads.{OnlyReads}
use Rattle.fl_schema.specs.Schema.{layout_of}
use Rattle.fl_parts.specs.ByEntries.{Come, unlisted_of}
use Rattle.fl_parts.specs.KeptSteps.{AreNextPages, HasComeBy, Keeps}
use Rattle.fl_parts.specs.Knowing.{KnowsWith}
use Rattle.fl_parts.proofs.by_entries.see_pages.Given as goal

abbrev pub invariant-loop-number : goal.invariant-loop-number
invariant-loop-number g l = record {
  from : l.initial.from ≤ l.number;
  come : HasComeBy l.ring l.number (l.number - l.initial.from) (g.F.Flash.state l.initial.flash) l.initial.known l.known (g.F.Flash.state l.flash);
  reads : OnlyReads (g.F.Flash.state l.initial.flash) (l.number - l.initial.from) (g.F.Flash.state l.flash);
  keeps : Keeps l.initial.counts l.initial.index l.initial.buf l.counts l.index l.buf;
  knows : (error : ℕ) (t : Come) (k : ℕ) → AreNextPages t k l.initial.from l.end (layout_of l.schema) l.ring (g.F.Flash.state l.initial.flash) l.bitmaps l.initial.counts → KnowsWith error t k (l.initial.from - t.oldest) l.initial.known l.initial.counts l.initial.index →
      KnowsWith error t k (l.number - t.oldest) l.known l.counts l.index
      × ((g.F.Flash.state l.flash).work.reads + unlisted_of t t.oldest (l.initial.from - t.oldest) ≤ (g.F.Flash.state l.initial.flash).work.reads + unlisted_of t t.oldest (l.number - t.oldest));
}
