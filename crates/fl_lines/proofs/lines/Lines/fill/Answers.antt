use Rattle.std.proofs.Common.{◌≡◌, ℕ, ◌-◌, ◌≤◌, ◌<◌, ◌++◌, length, take, drop, refl, sym, ◌∙◌, ap, subst, arith}
use Rattle.std.proofs.lemmas.List.{length-take-le, length-drop}
use Rattle.std.proofs.lemmas.Result.{err_from_is_err_and}
use Rattle.fl_base.specs.declared.stream.SourceFailed.{SourceFailed}
use Rattle.fl_lines.specs.Stream.{LinesState}
use Rattle.fl_lines.proofs.Pieces.{front-read, fills, copied}
use Rattle.fl_lines.proofs.Rooms.{few-front, room-kept}
use Rattle.fl_lines.proofs.lines.Lines.fill.Goals as goal

pub returns-clause-taken : goal.returns-clause-taken
returns-clause-taken g c =
    let s = c.self.inside in
    let h = c.in_ok-count.ensures in
    let len = s.to - s.from in
    let xs = c.deref_mut.result.now in
    let size : length xs ≡ 4097 = omega (arith, ap length c.deref_mut.ensures.value, c.copy_within.ensures.len, c.self.invariant.0) in
    let front : take len xs ≡ c.args.self.now.ahead =
    ap (take len) (c.deref_mut.ensures.value ∙ c.copy_within.ensures.items)
    ∙ (copied s.buf.items s.from s.to (omega arith) (omega (arith, c.self.invariant)) ∙ ap (λ (x : LinesState). x.ahead) c.self.view_is) in
    let zs : length (take len xs) ≡ len = length-take-le len xs (omega (arith, size, c.self.invariant)) in
    let ahead : length c.args.self.now.ahead ≡ len = ap length (sym front) ∙ zs in
    let most : c.args.self.now.most ≡ s.most = ap (λ (x : LinesState). x.most) (sym c.self.view_is) in
    let end : (c.min-end.result ≤ 4097) × (len < c.min-end.result) =
    (omega (arith, c.min-end.ensures), omega (arith, c.min-end.ensures, ahead, most, c.requires.room, c.requires.more)) in
    let into : length c.read.new.into ≡ c.min-end.result - len =
    c.read.auto.into ∙ length-take-le (c.min-end.result - len) (drop len xs) (omega (arith, length-drop len xs, size, end.0)) in
    fills SourceFailed _ _ c.read.new.into _ _ c.in_ok-count.count
    (front-read (take len xs) c.read.new.into _ _ len c.in_ok-count.count _ _ zs h.count refl (omega (arith, h.count, into, end.0, end.1, c.copy_within.ensures.len, c.self.invariant.0))
    ∙ ap (λ z. z ++ take c.in_ok-count.count c.read.new.into) front)
    (omega (arith, into, end.1)) h.bytes

pub overflow_sub-len : goal.overflow_sub-len
overflow_sub-len g c = c.self.invariant.3

pub copy_within-requires-clause-start_le_end : goal.copy_within-requires-clause-start_le_end
copy_within-requires-clause-start_le_end g c = c.self.invariant.3

pub copy_within-requires-clause-in_bounds : goal.copy_within-requires-clause-in_bounds
copy_within-requires-clause-in_bounds g c = subst (λ (n : ℕ). c.self.inside.to ≤ n) (sym c.self.invariant.0) c.self.invariant.4

pub invariant_of-self : goal.invariant_of-self
invariant_of-self g c = room-kept _ c.self.inside.from c.self.inside.to c.self.inside.most (c.copy_within.ensures.len ∙ c.self.invariant.0) c.self.invariant.4 c.self.invariant.5

pub returns-in_err-count-clause-most : goal.returns-in_err-count-clause-most
returns-in_err-count-clause-most g c = ap (λ (x : LinesState). x.most) c.self.view_is

pub returns-in_err-count-clause-closed : goal.returns-in_err-count-clause-closed
returns-in_err-count-clause-closed g c = ap (λ (x : LinesState). x.closed) c.self.view_is

pub returns-in_err-count-clause-longer : goal.returns-in_err-count-clause-longer
returns-in_err-count-clause-longer g c = rw (err_from_is_err_and c.from_residual.result c.from_residual.ensures.1).1 tt

pub returns-in_err-count-clause-few : goal.returns-in_err-count-clause-few
returns-in_err-count-clause-few g c = few-front _ c.self.inside.from c.self.inside.to c.self.invariant.4

pub returns-clause-most : goal.returns-clause-most
returns-clause-most g c = ap (λ (x : LinesState). x.most) c.self.view_is

pub returns-clause-closed : goal.returns-clause-closed
returns-clause-closed g c = ap (λ (x : LinesState). x.closed) c.self.view_is
