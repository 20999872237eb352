use Rattle.std.proofs.Common.{◌≡◌, ◌+◌, ◌≤◌, length}
use Rattle.fl_frame.specs.Contents.{Contents, contents_of, OnlyReads}
use Rattle.fl_page.specs.declared.fault.BadPage.{BadPage}
use Rattle.fl_queries.specs.OldestBlob.{first_kept}
use Rattle.fl_queries.proofs.oldest.first_kept.Given as goal

abbrev pub invariant-rows : goal.invariant-rows
invariant-rows g l =
    let R = g.R.Rows in
    let contents = contents_of (g.F.Flash.state l.fn.flash) in
    record {
      counts : OnlyReads (g.F.Flash.state l.fn.flash) (g.F.Flash.state l.flash);
      names : R.names l.input ≡ R.names l.fn.input;
      ready : (contents : Contents) → R.ready l.fn.input contents → R.ready l.input contents;
      same_test : (contents : Contents) (bad : BadPage) → R.passes l.input contents bad → R.passes l.fn.input contents bad;
      told : R.told l.fn.input contents → R.told l.input contents;
      found : R.told l.fn.input contents → first_kept l.fn.oldest (R.left l.fn.input contents) ≡ first_kept l.fn.oldest (R.left l.input contents);
      passed : R.told l.fn.input contents → l._at + length (R.left l.input contents) ≡ length (R.left l.fn.input contents);
      most : R.told l.fn.input contents → (g.F.Flash.state l.flash).work.reads + R.most l.input contents ≤ (g.F.Flash.state l.fn.flash).work.reads + R.most l.fn.input contents;
    }
