use Rattle.std.proofs.Common.{Err, sym, ◌∙◌, ap, arith, ◌+◌, ◌≤◌, refl, subst, pos_of_ne-zero}
use Rattle.std.proofs.lemmas.Result.{err_from_is_err_and}
use Rattle.fl_page.specs.declared.fault.ReadFault.{ReadFault}
use Rattle.fl_var.proofs.Wholes.{none-bad-any, steps-err}
use Rattle.std.proofs.Math.Nat.{le_refl, le-add_right}
use Rattle.std.proofs.lemmas.Bool.{false≢true, ltb-true}
use Rattle.fl_frame.proofs.ContentsInTurn.{OnlyReads-same}
use Rattle.fl_frame.proofs.ReadsInTurn.{none_read}
use Rattle.fl_var.specs.Memory.{present, LiesOn}
use Rattle.fl_var.specs.Reading.{pages_left}
use Rattle.fl_var.specs.declared.var_data.VarData.{VarData}
use Rattle.fl_var.proofs.Readers.{more-none, more-some, no-slice, take-none, no-chunk}
use Rattle.fl_var.proofs.reader.BlobReader.step.Goals as goal

pub returns-in_err-turn-clause-steps : goal.returns-in_err-turn-clause-steps
returns-in_err-turn-clause-steps g c = λ reads.
    let p = err_from_is_err_and c.from_residual.result c.from_residual.ensures.1 in
    steps-err c.from_residual.result c.in_err-turn.field-0.0 _ _ _ (p.1 ∙ ap (λ (e : ReadFault). Err e) p.2) (c.in_err-turn.ensures.bytes (record { told = reads.told; within = reads.within; used = reads.used; size = reads.size; bytes = reads.bytes }))

pub returns-in_err-turn-clause-whole : goal.returns-in_err-turn-clause-whole
returns-in_err-turn-clause-whole g c = λ reads whole.
    let p = err_from_is_err_and c.from_residual.result c.from_residual.ensures.1 in
    let h = c.in_err-turn.ensures.whole (record { told = reads.told; within = reads.within; used = reads.used; size = reads.size; bytes = reads.bytes }) whole in
    (rw (p.1, p.2) (none-bad-any c.in_err-turn.field-0.0 h.0), h.1)

pub returns-clause-ready : goal.returns-clause-ready
returns-clause-ready g c = λ reads.
    c.take.ensures.ready (g.F.Flash.state c.turn.new.flash) (c.in_ok-turn.ensures.ready (record { told = reads.told; within = reads.within; used = reads.used; size = reads.size; bytes = reads.bytes }))

pub returns-clause-steps : goal.returns-clause-steps
returns-clause-steps g c = λ reads.
    let h = g.F.Flash.state c.turn.new.flash in
    let ready = c.in_ok-turn.ensures.ready (record { told = reads.told; within = reads.within; used = reads.used; size = reads.size; bytes = reads.bytes }) in
    let same = c.in_ok-turn.ensures.bytes (record { told = reads.told; within = reads.within; used = reads.used; size = reads.size; bytes = reads.bytes }) in
    (sym same ∙ c.take.ensures.bytes h ready, c.take.ensures.some)

pub returns-clause-whole : goal.returns-clause-whole
returns-clause-whole g c = λ reads whole.
    let h = g.F.Flash.state c.turn.new.flash in
    let later = c.in_ok-turn.ensures.whole (record { told = reads.told; within = reads.within; used = reads.used; size = reads.size; bytes = reads.bytes }) whole in
    (tt, c.take.ensures.whole h later.1)

pub returns-in_err-turn-clause-most : goal.returns-in_err-turn-clause-most
returns-in_err-turn-clause-most g c = λ reads whole.
    c.in_err-turn.ensures.most (record { told = reads.told; within = reads.within; used = reads.used; size = reads.size; bytes = reads.bytes }) whole

pub returns-clause-few : goal.returns-clause-few
returns-clause-few g c = λ reads whole.
    let turned = c.in_ok-turn.ensures.few (record { told = reads.told; within = reads.within; used = reads.used; size = reads.size; bytes = reads.bytes }) whole in
    omega (arith, turned, c.take.ensures.few)

pub returns-in_err-turn-clause-sound : goal.returns-in_err-turn-clause-sound
returns-in_err-turn-clause-sound g c = λ reads there.
    c.in_err-turn.ensures.sound (record { told = reads.told; within = reads.within; used = reads.used; size = reads.size; bytes = reads.bytes }) there

pub returns-in_err-turn-clause-ahead : goal.returns-in_err-turn-clause-ahead
returns-in_err-turn-clause-ahead g c = λ reads bad h.
    c.in_err-turn.ensures.ahead (record { told = reads.told; within = reads.within; used = reads.used; size = reads.size; bytes = reads.bytes }) bad h

pub returns-clause-sound : goal.returns-clause-sound
returns-clause-sound g c = λ reads there.
    let ready = c.in_ok-turn.ensures.ready (record { told = reads.told; within = reads.within; used = reads.used; size = reads.size; bytes = reads.bytes }) in
    c.in_ok-turn.ensures.sound (record { told = reads.told; within = reads.within; used = reads.used; size = reads.size; bytes = reads.bytes }) (c.take.ensures.sound (g.F.Flash.state c.turn.new.flash) ready there)

pub returns-clause-ahead : goal.returns-clause-ahead
returns-clause-ahead g c = λ reads bad h.
    c.in_ok-turn.ensures.ahead (record { told = reads.told; within = reads.within; used = reads.used; size = reads.size; bytes = reads.bytes }) bad (c.take.ensures.ahead (g.F.Flash.state c.turn.new.flash) bad h)

pub returns-clause-most : goal.returns-clause-most
returns-clause-most g c = λ reads whole. c.in_ok-turn.ensures.most (record { told = reads.told; within = reads.within; used = reads.used; size = reads.size; bytes = reads.bytes }) whole

pub returns-then-self-eq0-clause-reads : goal.returns-then-self-eq0-clause-reads
returns-then-self-eq0-clause-reads g c = none_read (g.F.Flash.state c.args.flash.now) 1

pub returns-then-self-eq0-clause-counts : goal.returns-then-self-eq0-clause-counts
returns-then-self-eq0-clause-counts g c = OnlyReads-same (g.F.Flash.state c.args.flash.now)

pub returns-then-self-eq0-clause-data : goal.returns-then-self-eq0-clause-data
returns-then-self-eq0-clause-data g c = refl

pub returns-then-self-eq0-clause-buffer : goal.returns-then-self-eq0-clause-buffer
returns-then-self-eq0-clause-buffer g c = refl

pub returns-then-self-eq0-clause-lies : goal.returns-then-self-eq0-clause-lies
returns-then-self-eq0-clause-lies g c = c.requires.lies

pub returns-then-self-eq0-clause-ready : goal.returns-then-self-eq0-clause-ready
returns-then-self-eq0-clause-ready g c = λ reads. record { told = reads.told; within = reads.within; used = reads.used; size = reads.size; bytes = reads.bytes }

pub returns-then-self-eq0-clause-more : goal.returns-then-self-eq0-clause-more
returns-then-self-eq0-clause-more g c = more-none c.args.self.now.left c.if-self-eq0.true

pub returns-then-self-eq0-clause-held : goal.returns-then-self-eq0-clause-held
returns-then-self-eq0-clause-held g c = λ here. (refl, refl)

pub returns-then-self-eq0-clause-done : goal.returns-then-self-eq0-clause-done
returns-then-self-eq0-clause-done g c = λ none. (refl, refl)

pub returns-then-self-eq0-clause-some : goal.returns-then-self-eq0-clause-some
returns-then-self-eq0-clause-some g c = λ more. absurd (false≢true more)

pub returns-then-self-eq0-clause-chunk : goal.returns-then-self-eq0-clause-chunk
returns-then-self-eq0-clause-chunk g c = no-chunk (present c.args.self.now.var.now c.args.self.now.page c.args.self.now.buf.now.bytes) c.args.self.now.end c.args.self.now.end c.args.self.now.left c.args.self.now.left refl refl

pub returns-then-self-eq0-clause-steps : goal.returns-then-self-eq0-clause-steps
returns-then-self-eq0-clause-steps g c = λ reads. (take-none c.args.self.now.left _ c.if-self-eq0.true, take-none c.args.self.now.left _ c.if-self-eq0.true)

pub returns-then-self-eq0-clause-whole : goal.returns-then-self-eq0-clause-whole
returns-then-self-eq0-clause-whole g c = λ reads whole. (tt, whole)

pub returns-then-self-eq0-clause-few : goal.returns-then-self-eq0-clause-few
returns-then-self-eq0-clause-few g c = λ reads whole. le_refl ((g.F.Flash.state c.args.flash.now).work.reads + pages_left c.args.self.now)

pub returns-then-self-eq0-clause-most : goal.returns-then-self-eq0-clause-most
returns-then-self-eq0-clause-most g c = λ reads whole. le-add_right (g.F.Flash.state c.args.flash.now).work.reads (pages_left c.args.self.now)

pub returns-then-self-eq0-clause-sound : goal.returns-then-self-eq0-clause-sound
returns-then-self-eq0-clause-sound g c = λ reads there. there

pub returns-then-self-eq0-clause-ahead : goal.returns-then-self-eq0-clause-ahead
returns-then-self-eq0-clause-ahead g c = λ reads bad ahead. ahead

pub returns-in_err-turn-clause-reads : goal.returns-in_err-turn-clause-reads
returns-in_err-turn-clause-reads g c = c.turn.ensures.reads

pub returns-in_err-turn-clause-counts : goal.returns-in_err-turn-clause-counts
returns-in_err-turn-clause-counts g c = c.turn.ensures.counts

pub returns-in_err-turn-clause-data : goal.returns-in_err-turn-clause-data
returns-in_err-turn-clause-data g c = c.turn.ensures.data

pub returns-in_err-turn-clause-buffer : goal.returns-in_err-turn-clause-buffer
returns-in_err-turn-clause-buffer g c = c.turn.ensures.buffer

pub returns-in_err-turn-clause-lies : goal.returns-in_err-turn-clause-lies
returns-in_err-turn-clause-lies g c = c.turn.ensures.lies

pub returns-in_err-turn-clause-ready : goal.returns-in_err-turn-clause-ready
returns-in_err-turn-clause-ready g c = λ reads. c.turn.ensures.ready (record { told = reads.told; within = reads.within; used = reads.used; size = reads.size; bytes = reads.bytes })

pub returns-in_err-turn-clause-more : goal.returns-in_err-turn-clause-more
returns-in_err-turn-clause-more g c =
    let p = err_from_is_err_and c.from_residual.result c.from_residual.ensures.1 in
    rw p.1 tt

pub returns-in_err-turn-clause-held : goal.returns-in_err-turn-clause-held
returns-in_err-turn-clause-held g c = λ here. absurd (false≢true (c.in_err-turn.ensures.held (ltb-true c.args.self.now.end c.args.self.now.used here)).0)

pub returns-in_err-turn-clause-done : goal.returns-in_err-turn-clause-done
returns-in_err-turn-clause-done g c = λ none. absurd (c.if-self-eq0.false none)

pub returns-in_err-turn-clause-some : goal.returns-in_err-turn-clause-some
returns-in_err-turn-clause-some g c =
    let p = err_from_is_err_and c.from_residual.result c.from_residual.ensures.1 in
    rw p.1 tt

pub returns-in_err-turn-clause-chunk : goal.returns-in_err-turn-clause-chunk
returns-in_err-turn-clause-chunk g c = no-chunk (present c.turn.new.self.var.now c.turn.new.self.page c.turn.new.self.buf.now.bytes) c.turn.new.self.begin c.turn.new.self.end c.args.self.now.left c.turn.new.self.left c.turn.ensures.empty c.turn.ensures.left

pub returns-in_err-turn-clause-none : goal.returns-in_err-turn-clause-none
returns-in_err-turn-clause-none g c =
    let p = err_from_is_err_and c.from_residual.result c.from_residual.ensures.1 in
    rw p.1 (no-slice (present c.turn.new.self.var.now c.turn.new.self.page c.turn.new.self.buf.now.bytes) c.turn.new.self.begin c.turn.new.self.end c.turn.ensures.empty)

pub returns-in_err-turn-clause-few : goal.returns-in_err-turn-clause-few
returns-in_err-turn-clause-few g c =
    λ reads whole.
    let p = err_from_is_err_and c.from_residual.result c.from_residual.ensures.1 in
    rw p.1 tt

pub returns-in_err-turn-clause-fails : goal.returns-in_err-turn-clause-fails
returns-in_err-turn-clause-fails g c =
    let p = err_from_is_err_and c.from_residual.result c.from_residual.ensures.1 in
    rw (p.1, p.2) c.in_err-turn.ensures.fails

pub returns-in_err-turn-clause-bad : goal.returns-in_err-turn-clause-bad
returns-in_err-turn-clause-bad g c =
    λ reads.
    let p = err_from_is_err_and c.from_residual.result c.from_residual.ensures.1 in
    rw (p.1, p.2) (c.in_err-turn.ensures.bad reads.told)

pub returns-clause-reads : goal.returns-clause-reads
returns-clause-reads g c = c.turn.ensures.reads

pub returns-clause-counts : goal.returns-clause-counts
returns-clause-counts g c = c.turn.ensures.counts

pub returns-clause-data : goal.returns-clause-data
returns-clause-data g c = c.take.ensures.data ∙ c.turn.ensures.data

pub returns-clause-buffer : goal.returns-clause-buffer
returns-clause-buffer g c = c.take.ensures.buffer ∙ c.turn.ensures.buffer

pub returns-clause-lies : goal.returns-clause-lies
returns-clause-lies g c = subst (λ (v : VarData). LiesOn v (g.F.Flash.state c.turn.new.flash)) (sym c.take.ensures.data) c.turn.ensures.lies

pub returns-clause-more : goal.returns-clause-more
returns-clause-more g c = more-some c.args.self.now.left c.if-self-eq0.false

pub returns-clause-held : goal.returns-clause-held
returns-clause-held g c = λ here. (refl, (c.in_ok-turn.ensures.held (ltb-true c.args.self.now.end c.args.self.now.used here)).1)

pub returns-clause-done : goal.returns-clause-done
returns-clause-done g c = λ none. absurd (c.if-self-eq0.false none)

pub returns-clause-some : goal.returns-clause-some
returns-clause-some g c = λ more. c.take.ensures.some

pub returns-clause-chunk : goal.returns-clause-chunk
returns-clause-chunk g c = sym c.turn.ensures.left ∙ c.take.ensures.chunk

pub turn-requires-clause-lies : goal.turn-requires-clause-lies
turn-requires-clause-lies g c = c.requires.lies

pub turn-requires-clause-left : goal.turn-requires-clause-left
turn-requires-clause-left g c = pos_of_ne-zero c.if-self-eq0.false

pub turn-requires-clause-empty : goal.turn-requires-clause-empty
turn-requires-clause-empty g c = refl

pub take-requires-clause-some : goal.take-requires-clause-some
take-requires-clause-some g c = c.in_ok-turn.ensures.some

pub take-requires-clause-left : goal.take-requires-clause-left
take-requires-clause-left g c = subst (λ n. 1 ≤ n) (sym c.turn.ensures.left) (pos_of_ne-zero c.if-self-eq0.false)

pub take-requires-clause-empty : goal.take-requires-clause-empty
take-requires-clause-empty g c = c.turn.ensures.empty

pub invariant_of-self : goal.invariant_of-self
invariant_of-self g c = record { mounted = c.args.self.now.mounted; ordered = le_refl c.args.self.now.end; before = c.args.self.now.before; within = c.args.self.now.within; size = c.args.self.now.size; known = c.args.self.now.known; fits = c.args.self.now.fits; all = c.args.self.now.all }
