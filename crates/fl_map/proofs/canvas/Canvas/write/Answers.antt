use Rattle.std.proofs.Common.{ℕ, List, ◌∙◌, subst}
use Rattle.std.proofs.lemmas.Result.{err_from_is_err_and}
use Rattle.fl_base.specs.Causes.{Appends, AppendsFront}
use Rattle.fl_script.specs.Written.{Written}
use Rattle.fl_map.specs.Drawn.{opening, closing}
use Rattle.fl_map.proofs.ThreeTexts.{first-failed, second-failed, third-written}
use Rattle.fl_map.proofs.canvas.Canvas.write.Goals as goal

pub returns-in_err-write_all-clause-text : goal.returns-in_err-write_all-clause-text
returns-in_err-write_all-clause-text g c =
    let p = err_from_is_err_and c.from_residual.result c.from_residual.ensures.1 in
    let front = subst (λ (t : List ℕ). AppendsFront (g.K.Sink.written c.args.out.now) (g.K.Sink.written c.write_all.new.out) t) (c.bytes.ensures ∙ c.add_opening_of.ensures) c.in_err-write_all.ensures.text in
    rw p.1 (first-failed (g.K.Sink.written c.args.out.now) (g.K.Sink.written c.write_all.new.out) (opening c.args.self.now.drawing c.args.per_block c.args.self.now.top) c.args.self.now.text.items (closing c.args.self.now.drawing) front)

pub returns-in_err-write_all-2-clause-text : goal.returns-in_err-write_all-2-clause-text
returns-in_err-write_all-2-clause-text g c =
    let p = err_from_is_err_and c.from_residual-in_err-write_all-2.result c.from_residual-in_err-write_all-2.ensures.1 in
    let done = subst (λ (t : List ℕ). Appends (g.K.Sink.written c.args.out.now) (g.K.Sink.written c.write_all.new.out) t) (c.bytes.ensures ∙ c.add_opening_of.ensures) c.in_ok-write_all.ensures.text in
    let front = subst (λ (t : List ℕ). AppendsFront (g.K.Sink.written c.write_all.new.out) (g.K.Sink.written c.write_all-2.new.out) t) c.deref.ensures.value c.in_err-write_all-2.ensures.text in
    rw p.1 (second-failed (g.K.Sink.written c.args.out.now) (g.K.Sink.written c.write_all.new.out) (g.K.Sink.written c.write_all-2.new.out)
    (opening c.args.self.now.drawing c.args.per_block c.args.self.now.top) c.args.self.now.text.items (closing c.args.self.now.drawing) done front)

pub returns-clause-text : goal.returns-clause-text
returns-clause-text g c =
    let done = subst (λ (t : List ℕ). Appends (g.K.Sink.written c.args.out.now) (g.K.Sink.written c.write_all.new.out) t) (c.bytes.ensures ∙ c.add_opening_of.ensures) c.in_ok-write_all.ensures.text in
    let body = subst (λ (t : List ℕ). Appends (g.K.Sink.written c.write_all.new.out) (g.K.Sink.written c.write_all-2.new.out) t) c.deref.ensures.value c.in_ok-write_all-2.ensures.text in
    let last = subst (λ (t : List ℕ). Written (g.K.Sink.written c.write_all-2.new.out) (g.K.Sink.written c.write_all-3.new.out) c.write_all-3.result t) c.closing.ensures c.write_all-3.ensures.text in
    third-written (g.K.Sink.written c.args.out.now) (g.K.Sink.written c.write_all.new.out) (g.K.Sink.written c.write_all-2.new.out) (g.K.Sink.written c.write_all-3.new.out)
    (opening c.args.self.now.drawing c.args.per_block c.args.self.now.top) c.args.self.now.text.items (closing c.args.self.now.drawing) c.write_all-3.result done body last
