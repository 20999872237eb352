use Rattle.std.proofs.Common.{◌≡◌, ◌+◌, ◌-◌, ◌^◌, ◌<◌, ◌≤◌}
use Rattle.fl_frame.specs.Contents.{Contents, contents_of, OnlyReads}
use Rattle.fl_page.specs.declared.fault.BadPage.{BadPage}
use Rattle.fl_queries.specs.ListSays.{WroteLines}
use Rattle.fl_queries.proofs.LinesListed.{SoFar}
use Rattle.fl_queries.proofs.reply_lines.list_lines.Given as goal

abbrev pub invariant-loop-given : goal.invariant-loop-given
invariant-loop-given g l =
    let L = g.L.ReplyLines in
    let contents = contents_of (g.F.Flash.state l.fn.flash) in
    record {
      reads_only : OnlyReads (g.F.Flash.state l.fn.flash) (g.F.Flash.state l.flash);
      names : L.names l.lines ≡ L.names l.fn.lines;
      ready : (contents : Contents) → L.ready l.fn.lines contents → L.ready l.lines contents;
      fits : L.fits l.lines l.fn.form;
      later : g.K.Sink.faults l.fn.out ≤ g.K.Sink.faults l.out;
      lines : WroteLines (SoFar (L.made l.fn.form l.fn.lines l.lines) (L.told l.fn.lines contents) (L.lines l.fn.lines l.fn.form contents) (L.lines l.lines l.fn.form contents)) l.fn.count (g.K.Sink.written l.fn.out) (g.K.Sink.written l.out) l.given;
      same_test : (contents : Contents) (bad : BadPage) → L.passes l.lines contents bad → L.passes l.fn.lines contents bad;
      sound : L.sound l.lines contents → L.sound l.fn.lines contents;
      told : L.told l.fn.lines contents → L.told l.lines contents;
      most : L.told l.fn.lines contents → (g.F.Flash.state l.flash).work.reads + L.most l.lines contents ≤ (g.F.Flash.state l.fn.flash).work.reads + L.most l.fn.lines contents;
      least : L.told l.fn.lines contents → (g.F.Flash.state l.flash).work.reads < 2 ^ 64 - 1 →
          (g.F.Flash.state l.fn.flash).work.reads + L.least l.fn.lines contents ≤ (g.F.Flash.state l.flash).work.reads + L.least l.lines contents;
    }
