use Rattle.std.proofs.Common.{◌≡◌, Bool, List, ℕ, refl, ◌∙◌, ap, ◌++◌}
use Rattle.fl_page.proofs.ReadsInTurn.{IsCaused-later}
use Rattle.fl_frame.proofs.ContentsInTurn.{OnlyReads-same, OnlyReads-then}
use Rattle.fl_var.specs.Reading.{chunk_of}
use Rattle.fl_store.proofs.Called.{err-is}
use Rattle.fl_export.proofs.TakenChunks.{took-none, took-more, took-all, read-good}
use Rattle.fl_export.proofs.blob.take_bytes.Goals as goal

pub chunks-init : goal.chunks-init
chunks-init g c = record {
  counts = OnlyReads-same _;
  lies = c.requires.lies;
  same = refl;
  buffer = refl;
  took = λ ready whole. took-none c.args.reader.now (g.F.Flash.state c.args.flash.now) c.args.bytes.now.items ready whole;
}

pub returns-in_err-step-clause-counts : goal.returns-in_err-step-clause-counts
returns-in_err-step-clause-counts g c = OnlyReads-then _ _ _ c.chunks.invariant.counts c.in_err-step.ensures.counts

pub returns-in_err-step-clause-unread : goal.returns-in_err-step-clause-unread
returns-in_err-step-clause-unread g c =
    rw (err-is c.from_residual.result _ c.from_residual.ensures.1) (IsCaused-later (g.F.Flash.state c.args.flash.now) (g.F.Flash.state c.chunks.flash) (g.F.Flash.state c.step.new.flash) c.in_err-step.field-0.0 c.chunks.invariant.counts c.in_err-step.ensures.fails)

pub returns-in_err-step-clause-gathers : goal.returns-in_err-step-clause-gathers
returns-in_err-step-clause-gathers g c = λ ready whole.
    let so_far = c.chunks.invariant.took ready whole in
    rw (err-is c.from_residual.result _ c.from_residual.ensures.1) (read-good Bool c.in_err-step.field-0.0 (c.in_err-step.ensures.whole so_far.ready so_far.whole).0)

pub chunks-preserved : goal.chunks-preserved
chunks-preserved g c =
    let inv = c.chunks.invariant in
    let e = c.in_ok-step.ensures in
    record {
      counts = OnlyReads-then _ _ _ inv.counts e.counts;
      lies = e.lies;
      same = e.data ∙ inv.same;
      buffer = e.buffer ∙ inv.buffer;
      took = λ ready whole.
          let so_far = inv.took ready whole in
          let steps = rw c.if-branch.true at (e.steps so_far.ready) in
          let more : c.extend_from_slice.new.self.items ≡ c.chunks.bytes.items ++ chunk_of c.step.new.self =
          c.in_ok-extend_from_slice.ensures.items ∙ ap (λ (l : List ℕ). c.chunks.bytes.items ++ l) c.chunk.ensures in
          took-more c.args.reader.now c.chunks.reader (g.F.Flash.state c.args.flash.now) (g.F.Flash.state c.chunks.flash) c.args.bytes.now.items c.chunks.bytes.items so_far
          c.step.new.self (g.F.Flash.state c.step.new.flash) (chunk_of c.step.new.self) c.extend_from_slice.new.self.items steps.0 (e.ready so_far.ready) (e.whole so_far.ready so_far.whole).1 more;
    }

pub returns-in_err-extend_from_slice-clause-counts : goal.returns-in_err-extend_from_slice-clause-counts
returns-in_err-extend_from_slice-clause-counts g c = OnlyReads-then _ _ _ c.chunks.invariant.counts c.in_ok-step.ensures.counts

pub returns-in_err-extend_from_slice-clause-gathers : goal.returns-in_err-extend_from_slice-clause-gathers
returns-in_err-extend_from_slice-clause-gathers g c = λ ready whole.
    rw (err-is c.from_residual-in_err-extend_from_slice.result _ c.from_residual-in_err-extend_from_slice.ensures.1) tt

pub returns-clause-counts : goal.returns-clause-counts
returns-clause-counts g c = OnlyReads-then _ _ _ c.chunks.invariant.counts c.in_ok-step.ensures.counts

pub returns-clause-gathers : goal.returns-clause-gathers
returns-clause-gathers g c = λ ready whole.
    let so_far = c.chunks.invariant.took ready whole in
    let steps = rw c.if-branch.false at (c.in_ok-step.ensures.steps so_far.ready) in
    took-all c.args.reader.now c.chunks.reader (g.F.Flash.state c.args.flash.now) (g.F.Flash.state c.chunks.flash) c.args.bytes.now.items c.chunks.bytes.items so_far steps.0
