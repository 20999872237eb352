use Rattle.std.proofs.Common.{◌≡◌, ℕ, Bool, true, false, Result, Ok, Err, List, [], ◌++◌, append_assoc, refl, sym, ◌∙◌, ap, subst, arith, append-nil, le_trans, pos_of_ne-zero}
use Rattle.std.proofs.lemmas.Result.{err_from_is_err_and}
use Rattle.std.proofs.lemmas.Bool.{false≢true}
use Rattle.fl_base.specs.Causes.{Appends, AppendsFront}
use Rattle.fl_base.proofs.Appended.{appends-none}
use Rattle.fl_base.proofs.Risen.{rose-back}
use Rattle.fl_page.proofs.ReadsInTurn.{IsCaused-later}
use Rattle.fl_frame.proofs.ContentsInTurn.{OnlyReads-same, OnlyReads-then}
use Rattle.fl_page.specs.declared.fault.ReadFault.{ReadFault}
use Rattle.fl_var.specs.Reading.{bytes_left, chunk_of, count_left}
use Rattle.fl_words.specs.Reply.{hex_text}
use Rattle.fl_queries.proofs.AnyBlobs.{digits-into, digits-more}
use Rattle.fl_queries.proofs.BadBlobs.{ahead-held, none-behind}
use Rattle.fl_queries.proofs.BlobLines.{gave-none, gave-chunk, gave-failed, gave-all, gave-unread}
use Rattle.fl_queries.proofs.blob_line.give_digits.Goals as goal

-- a step that failed wasn't at the end
not_done : {e : ReadFault} → ◌≡◌ {A = Result Bool ReadFault} (Err e) (Ok false) → ⊥
not_done e = cc

pub loop-reader-init : goal.loop-reader-init
loop-reader-init g c = record {
  counts = OnlyReads-same _;
  lies = c.requires.lies;
  same = refl;
  buffer = refl;
  later = omega arith;
  ready = λ h. h;
  sound = λ ready there. there;
  ahead = λ ready bad h. h;
  digits = ([], appends-none _, λ ready. refl);
  gave = λ ready whole. gave-none c.args.reader.now (g.F.Flash.state c.args.flash.now) (g.K.Sink.written c.args.out.now) ready whole;
}

pub returns-in_err-step-clause-counts : goal.returns-in_err-step-clause-counts
returns-in_err-step-clause-counts g c = OnlyReads-then _ _ _ c.loop-reader.invariant.counts c.in_err-step.ensures.counts

pub returns-in_err-step-clause-reads : goal.returns-in_err-step-clause-reads
returns-in_err-step-clause-reads g c = λ ready whole.
    let so_far = c.loop-reader.invariant.gave ready whole in
    omega (arith, so_far.few, c.in_err-step.ensures.most so_far.ready so_far.whole)

pub returns-in_err-step-clause-gives : goal.returns-in_err-step-clause-gives
returns-in_err-step-clause-gives g c = λ ready whole turned.
    let so_far = c.loop-reader.invariant.gave ready whole in
    let p = err_from_is_err_and c.from_residual.result c.from_residual.ensures.1 in
    rw (p.1, p.2) (gave-unread c.args.reader.now c.loop-reader.reader c.step.new.self (g.F.Flash.state c.args.flash.now) (g.F.Flash.state c.loop-reader.flash) (g.F.Flash.state c.step.new.flash)
    (g.K.Sink.written c.args.out.now) (g.K.Sink.written c.loop-reader.out) so_far c.in_err-step.field-0.0 (c.in_err-step.ensures.whole so_far.ready so_far.whole).0 turned
    (pos_of_ne-zero {n = count_left c.loop-reader.reader} (λ none. not_done (c.in_err-step.ensures.done none).0)) (λ here. false≢true (c.in_err-step.ensures.held here).0))

pub loop-reader-preserved : goal.loop-reader-preserved
loop-reader-preserved g c =
    let inv = c.loop-reader.invariant in
    let e = c.in_ok-step.ensures in
    record {
      counts = OnlyReads-then _ _ _ inv.counts e.counts;
      lies = e.lies;
      same = e.data ∙ inv.same;
      buffer = e.buffer ∙ inv.buffer;
      later = omega (arith, inv.later, c.in_ok-write_digits.ensures.cause.later);
      ready = λ h. e.ready (inv.ready h);
      sound = λ ready there. inv.sound ready (e.sound (inv.ready ready) there);
      ahead = λ ready bad h. inv.ahead ready bad (e.ahead (inv.ready ready) bad h);
      digits = (
        inv.digits.0 ++ chunk_of c.step.new.self,
        digits-more _ _ _ inv.digits.0 (chunk_of c.step.new.self) inv.digits.1 (subst (λ (l : List ℕ). Appends (g.K.Sink.written c.loop-reader.out) (g.K.Sink.written c.write_digits.new.out) (hex_text l)) c.chunk.ensures c.in_ok-write_digits.ensures.text),
        λ ready.
            let steps = rw c.if-branch.true at (e.steps (inv.ready ready)) in
            append_assoc inv.digits.0 (chunk_of c.step.new.self) (bytes_left c.step.new.self (g.F.Flash.state c.step.new.flash)) ∙ (ap (λ (l : List ℕ). inv.digits.0 ++ l) (sym steps.0) ∙ inv.digits.2 ready),
      );
      gave = λ ready whole.
          let so_far = inv.gave ready whole in
          let steps = rw c.if-branch.true at (e.steps so_far.ready) in
          let wrote : Appends (g.K.Sink.written c.loop-reader.out) (g.K.Sink.written c.write_digits.new.out) (hex_text (chunk_of c.step.new.self)) =
          subst (λ (l : List ℕ). Appends (g.K.Sink.written c.loop-reader.out) (g.K.Sink.written c.write_digits.new.out) (hex_text l)) c.chunk.ensures c.in_ok-write_digits.ensures.text in
          gave-chunk c.args.reader.now c.loop-reader.reader c.step.new.self (g.F.Flash.state c.args.flash.now) (g.F.Flash.state c.loop-reader.flash) (g.F.Flash.state c.step.new.flash)
          (g.K.Sink.written c.args.out.now) (g.K.Sink.written c.loop-reader.out) so_far (chunk_of c.step.new.self) (g.K.Sink.written c.write_digits.new.out) steps.0 wrote
          (e.ready so_far.ready) (e.whole so_far.ready so_far.whole).1 (e.few so_far.ready so_far.whole) e.chunk steps.1;
    }

pub returns-in_err-write_digits-clause-counts : goal.returns-in_err-write_digits-clause-counts
returns-in_err-write_digits-clause-counts g c = OnlyReads-then _ _ _ c.loop-reader.invariant.counts c.in_ok-step.ensures.counts

pub returns-in_err-write_digits-clause-reads : goal.returns-in_err-write_digits-clause-reads
returns-in_err-write_digits-clause-reads g c = λ ready whole.
    let so_far = c.loop-reader.invariant.gave ready whole in
    omega (arith, so_far.few, c.in_ok-step.ensures.most so_far.ready so_far.whole)

pub returns-in_err-write_digits-clause-gives : goal.returns-in_err-write_digits-clause-gives
returns-in_err-write_digits-clause-gives g c = λ ready whole turned.
    let so_far = c.loop-reader.invariant.gave ready whole in
    let steps = rw c.if-branch.true at (c.in_ok-step.ensures.steps so_far.ready) in
    let p = err_from_is_err_and c.from_residual-in_err-write_digits.result c.from_residual-in_err-write_digits.ensures.1 in
    let wrote : AppendsFront (g.K.Sink.written c.loop-reader.out) (g.K.Sink.written c.write_digits.new.out) (hex_text (chunk_of c.step.new.self)) =
    subst (λ (l : List ℕ). AppendsFront (g.K.Sink.written c.loop-reader.out) (g.K.Sink.written c.write_digits.new.out) (hex_text l)) c.chunk.ensures c.in_err-write_digits.ensures.text in
    rw (p.1, p.2) (gave-failed c.args.reader.now c.loop-reader.reader c.step.new.self (g.F.Flash.state c.args.flash.now) (g.F.Flash.state c.loop-reader.flash) (g.F.Flash.state c.step.new.flash)
    (g.K.Sink.written c.args.out.now) (g.K.Sink.written c.loop-reader.out) so_far (chunk_of c.step.new.self) (g.K.Sink.written c.write_digits.new.out) steps.0 wrote)

pub returns-clause-counts : goal.returns-clause-counts
returns-clause-counts g c = OnlyReads-then _ _ _ c.loop-reader.invariant.counts c.in_ok-step.ensures.counts

pub returns-clause-reads : goal.returns-clause-reads
returns-clause-reads g c = λ ready whole.
    let so_far = c.loop-reader.invariant.gave ready whole in
    omega (arith, so_far.few, c.in_ok-step.ensures.most so_far.ready so_far.whole)

pub returns-clause-gives : goal.returns-clause-gives
returns-clause-gives g c = λ ready whole turned.
    let so_far = c.loop-reader.invariant.gave ready whole in
    let steps = rw c.if-branch.false at (c.in_ok-step.ensures.steps so_far.ready) in
    gave-all c.args.reader.now c.loop-reader.reader c.step.new.self (g.F.Flash.state c.args.flash.now) (g.F.Flash.state c.loop-reader.flash) (g.F.Flash.state c.step.new.flash)
    (g.K.Sink.written c.args.out.now) (g.K.Sink.written c.loop-reader.out) so_far steps.0

pub returns-in_err-step-clause-unread : goal.returns-in_err-step-clause-unread
returns-in_err-step-clause-unread g c =
    let p = err_from_is_err_and c.from_residual.result c.from_residual.ensures.1 in
    rw (p.1, p.2) (IsCaused-later (g.F.Flash.state c.args.flash.now) (g.F.Flash.state c.loop-reader.flash) (g.F.Flash.state c.step.new.flash) c.in_err-step.field-0.0 c.loop-reader.invariant.counts c.in_err-step.ensures.fails)

pub returns-in_err-step-clause-digits : goal.returns-in_err-step-clause-digits
returns-in_err-step-clause-digits g c =
    let p = err_from_is_err_and c.from_residual.result c.from_residual.ensures.1 in
    let inv = c.loop-reader.invariant in
    rw (p.1, p.2) (
      (inv.digits.0, inv.digits.1),
      ahead-held (g.F.Flash.state c.args.flash.now) (g.F.Flash.state c.loop-reader.flash) c.args.reader.now c.loop-reader.reader c.in_err-step.field-0.0 inv.ready inv.ahead
          (pos_of_ne-zero {n = count_left c.loop-reader.reader} (λ none. not_done (c.in_err-step.ensures.done none).0)) (λ here. false≢true (c.in_err-step.ensures.held here).0) c.in_err-step.ensures.bad,
    )

pub returns-in_err-write_digits-clause-digits : goal.returns-in_err-write_digits-clause-digits
returns-in_err-write_digits-clause-digits g c =
    let inv = c.loop-reader.invariant in
    let p = err_from_is_err_and c.from_residual-in_err-write_digits.result c.from_residual-in_err-write_digits.ensures.1 in
    rw (p.1, p.2) (
      inv.digits.0 ++ chunk_of c.step.new.self,
      digits-into _ _ _ inv.digits.0 (chunk_of c.step.new.self) inv.digits.1 (subst (λ (l : List ℕ). AppendsFront (g.K.Sink.written c.loop-reader.out) (g.K.Sink.written c.write_digits.new.out) (hex_text l)) c.chunk.ensures c.in_err-write_digits.ensures.text),
    )

pub returns-clause-digits : goal.returns-clause-digits
returns-clause-digits g c =
    let inv = c.loop-reader.invariant in (
      inv.digits.0,
      inv.digits.1,
      λ ready.
          let steps = rw c.if-branch.false at (c.in_ok-step.ensures.steps (inv.ready ready)) in (
            inv.sound ready (none-behind c.loop-reader.reader (g.F.Flash.state c.loop-reader.flash) (sym c.if-branch.false ∙ c.in_ok-step.ensures.more)),
            sym (append-nil inv.digits.0) ∙ (ap (λ (l : List ℕ). inv.digits.0 ++ l) (sym steps.0) ∙ inv.digits.2 ready),
          ),
    )

pub returns-in_err-step-clause-lies : goal.returns-in_err-step-clause-lies
returns-in_err-step-clause-lies g c = c.in_err-step.ensures.lies

pub returns-in_err-step-clause-data : goal.returns-in_err-step-clause-data
returns-in_err-step-clause-data g c = c.in_err-step.ensures.data ∙ c.loop-reader.invariant.same

pub returns-in_err-step-clause-buffer : goal.returns-in_err-step-clause-buffer
returns-in_err-step-clause-buffer g c = c.in_err-step.ensures.buffer ∙ c.loop-reader.invariant.buffer

pub returns-in_err-step-clause-later : goal.returns-in_err-step-clause-later
returns-in_err-step-clause-later g c = c.loop-reader.invariant.later

pub returns-in_err-write_digits-clause-lies : goal.returns-in_err-write_digits-clause-lies
returns-in_err-write_digits-clause-lies g c = c.in_ok-step.ensures.lies

pub returns-in_err-write_digits-clause-data : goal.returns-in_err-write_digits-clause-data
returns-in_err-write_digits-clause-data g c = c.in_ok-step.ensures.data ∙ c.loop-reader.invariant.same

pub returns-in_err-write_digits-clause-buffer : goal.returns-in_err-write_digits-clause-buffer
returns-in_err-write_digits-clause-buffer g c = c.in_ok-step.ensures.buffer ∙ c.loop-reader.invariant.buffer

pub returns-in_err-write_digits-clause-later : goal.returns-in_err-write_digits-clause-later
returns-in_err-write_digits-clause-later g c = le_trans c.loop-reader.invariant.later c.write_digits.ensures.cause.later

pub returns-clause-lies : goal.returns-clause-lies
returns-clause-lies g c = c.in_ok-step.ensures.lies

pub returns-clause-data : goal.returns-clause-data
returns-clause-data g c = c.in_ok-step.ensures.data ∙ c.loop-reader.invariant.same

pub returns-clause-buffer : goal.returns-clause-buffer
returns-clause-buffer g c = c.in_ok-step.ensures.buffer ∙ c.loop-reader.invariant.buffer

pub returns-clause-later : goal.returns-clause-later
returns-clause-later g c = c.loop-reader.invariant.later

pub returns-in_err-step-clause-sink : goal.returns-in_err-step-clause-sink
returns-in_err-step-clause-sink g c = let p = err_from_is_err_and c.from_residual.result c.from_residual.ensures.1 in rw (p.1, p.2) tt

pub returns-in_err-write_digits-clause-sink : goal.returns-in_err-write_digits-clause-sink
returns-in_err-write_digits-clause-sink g c = let p = err_from_is_err_and c.from_residual-in_err-write_digits.result c.from_residual-in_err-write_digits.ensures.1 in rw (p.1, p.2) (rose-back _ _ _ c.loop-reader.invariant.later c.in_err-write_digits.ensures.cause.failed)

pub returns-in_err-write_digits-clause-unread : goal.returns-in_err-write_digits-clause-unread
returns-in_err-write_digits-clause-unread g c = let p = err_from_is_err_and c.from_residual-in_err-write_digits.result c.from_residual-in_err-write_digits.ensures.1 in rw (p.1, p.2) tt

pub returns-clause-sink : goal.returns-clause-sink
returns-clause-sink g c = tt

pub returns-clause-unread : goal.returns-clause-unread
returns-clause-unread g c = tt

pub step-requires : goal.step-requires
step-requires g c = record { lies = c.loop-reader.invariant.lies }
