use Rattle.std.proofs.Common.{◌-◌, ◌≤◌, replicate, subst, arith, le_refl}
use Rattle.std.proofs.lemmas.List.{take-replicate}
use Rattle.fl_config.specs.Opening.{Grown, GrownInPart}
use Rattle.fl_config.proofs.PiecewiseAppends.{grown-blank, blank-begins, blank-ends, blank-fails}
use Rattle.fl_config.proofs.image.append_blank.Goals as goal

pub loop-left-preserved : goal.loop-left-preserved
loop-left-preserved g c =
    let grown : Grown (g.M.Media.state c.loop-left.media) (replicate c.min-piece.result 255) (g.M.Media.state c.append.new.media) =
    subst (λ l. Grown (g.M.Media.state c.loop-left.media) l (g.M.Media.state c.append.new.media)) (take-replicate c.min-piece.result 65536 255 (omega (arith, c.min-piece.ensures))) c.in_ok-append.ensures in
    record {
      some = omega (arith, c.loop-left.invariant.some);
      grown = grown-blank _ _ _ (c.args.count - c.loop-left.left) c.min-piece.result _ c.loop-left.invariant.grown grown (omega (arith, c.loop-left.invariant.some, c.min-piece.ensures));
    }

pub loop-left-init : goal.loop-left-init
loop-left-init g c = record { some = le_refl _; grown = blank-begins _ c.args.count }

pub returns : goal.returns
returns g c = blank-ends _ _ c.args.count c.loop-left.left c.loop-left-test.false c.loop-left.invariant.grown

pub returns-in_err-append : goal.returns-in_err-append
returns-in_err-append g c =
    let few : c.min-piece.result ≤ c.loop-left.left = omega (arith, c.min-piece.ensures) in
    let part : GrownInPart (g.M.Media.state c.loop-left.media) (replicate c.min-piece.result 255) (g.M.Media.state c.append.new.media) =
    subst (λ l. GrownInPart (g.M.Media.state c.loop-left.media) l (g.M.Media.state c.append.new.media)) (take-replicate c.min-piece.result 65536 255 (omega (arith, c.min-piece.ensures))) c.in_err-append.ensures in
    blank-fails _ _ _ _ c.args.count c.loop-left.left c.min-piece.result c.from_residual.ensures.0 c.loop-left.invariant.some few c.loop-left.invariant.grown part
