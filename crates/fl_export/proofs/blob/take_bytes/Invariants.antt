use Rattle.std.proofs.Common.{◌≡◌}
use Rattle.fl_frame.specs.Contents.{OnlyReads}
use Rattle.fl_var.specs.Memory.{LiesOn}
use Rattle.fl_var.specs.Reading.{data_of, buffer_of, count_left, Reads, IsWholeIn}
use Rattle.fl_export.proofs.TakenChunks.{Took}
use Rattle.fl_export.proofs.blob.take_bytes.Given as goal

abbrev pub invariant-chunks : goal.invariant-chunks
invariant-chunks g l = record {
  counts : OnlyReads (g.F.Flash.state l.fn.flash) (g.F.Flash.state l.flash);
  lies : LiesOn (data_of l.reader) (g.F.Flash.state l.flash);
  same : data_of l.reader ≡ data_of l.fn.reader;
  buffer : buffer_of l.reader ≡ buffer_of l.fn.reader;
  took : Reads l.fn.reader (g.F.Flash.state l.fn.flash) → IsWholeIn l.fn.reader (g.F.Flash.state l.fn.flash) →
      Took l.fn.reader (g.F.Flash.state l.fn.flash) l.fn.bytes.items l.reader (g.F.Flash.state l.flash) l.bytes.items;
}

abbrev pub decreases-chunks : goal.decreases-chunks
decreases-chunks g l = count_left l.reader
