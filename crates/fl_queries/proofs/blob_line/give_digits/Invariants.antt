use Rattle.std.proofs.Common.{◌≡◌, ◌++◌, ℕ, ◌≤◌, List}
use Rattle.fl_base.specs.Causes.{Appends}
use Rattle.fl_frame.specs.Contents.{OnlyReads}
use Rattle.fl_var.specs.Memory.{LiesOn}
use Rattle.fl_page.specs.declared.fault.BadPage.{BadPage}
use Rattle.fl_var.specs.Reading.{bytes_left, data_of, buffer_of, count_left, Reads, IsWholeIn, IsThereBehind, IsBadAhead}
use Rattle.fl_words.specs.Reply.{hex_text}
use Rattle.fl_queries.proofs.BlobLines.{Gave}
use Rattle.fl_queries.proofs.blob_line.give_digits.Given as goal

abbrev pub invariant-loop-reader : goal.invariant-loop-reader
invariant-loop-reader g l = record {
  counts : OnlyReads (g.F.Flash.state l.fn.flash) (g.F.Flash.state l.flash);
  lies : LiesOn (data_of l.reader) (g.F.Flash.state l.flash);
  same : data_of l.reader ≡ data_of l.fn.reader;
  buffer : buffer_of l.reader ≡ buffer_of l.fn.reader;
  later : g.K.Sink.faults l.fn.out ≤ g.K.Sink.faults l.out;
  ready : Reads l.fn.reader (g.F.Flash.state l.fn.flash) → Reads l.reader (g.F.Flash.state l.flash);
  sound : Reads l.fn.reader (g.F.Flash.state l.fn.flash) → IsThereBehind l.reader (g.F.Flash.state l.flash) → IsThereBehind l.fn.reader (g.F.Flash.state l.fn.flash);
  ahead : Reads l.fn.reader (g.F.Flash.state l.fn.flash) → (bad : BadPage) → IsBadAhead l.reader (g.F.Flash.state l.flash) bad → IsBadAhead l.fn.reader (g.F.Flash.state l.fn.flash) bad;
  digits : (bytes : List ℕ) × Appends (g.K.Sink.written l.fn.out) (g.K.Sink.written l.out) (hex_text bytes)
      × (Reads l.fn.reader (g.F.Flash.state l.fn.flash) → bytes ++ bytes_left l.reader (g.F.Flash.state l.flash) ≡ bytes_left l.fn.reader (g.F.Flash.state l.fn.flash));
  gave : Reads l.fn.reader (g.F.Flash.state l.fn.flash) → IsWholeIn l.fn.reader (g.F.Flash.state l.fn.flash) →
      Gave l.fn.reader (g.F.Flash.state l.fn.flash) (g.K.Sink.written l.fn.out) l.reader (g.F.Flash.state l.flash) (g.K.Sink.written l.out);
}

abbrev pub decreases-loop-reader : goal.decreases-loop-reader
decreases-loop-reader g l = count_left l.reader
