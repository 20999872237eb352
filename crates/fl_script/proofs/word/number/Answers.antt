use Rattle.std.proofs.Common.{sym, ◌∙◌, refl, arith}
use Rattle.fl_script.proofs.Digits.{large_at, end_at}
use Rattle.fl_script.proofs.word.number.Goals as goal

pub returns-in_default : goal.returns-in_default
returns-in_default c =
    (c.loop-byte.invariant.0 ∙ large_at _ _ _ c.loop-byte-test.true (sym c.is_ascii_digit.ensures.value ∙ c.if-not-is_ascii_digit.false) c.in_default.ensures, refl)

pub returns : goal.returns
returns c = c.loop-byte.invariant.0 ∙ end_at _ _ _ c.loop-byte-test.false (omega (arith, c.loop-byte.invariant.1))
