use Rattle.std.proofs.Common.{◌≡◌, Option, Some, sym, ◌∙◌, subst, refl, arith}
use Rattle.std.specs.Prelude.{IfSome}
use Rattle.fl_index.specs.declared.page.Full as code
use Rattle.fl_parts.specs.Coming.{loaded_full}
use Rattle.fl_parts.proofs.by_entries.bad_entry.Goals as goal

pub loop-number-init : goal.loop-number-init
loop-number-init c = record { fine = λ before low high. absurd (omega (arith, low, high)) }

pub returns-then-count-limit-clause-first : goal.returns-then-count-limit-clause-first
returns-then-count-limit-clause-first c =
    let is : loaded_full c.args.bitmaps.now c.loop-number.number ≡ Some c.in-Some.full = sym c.listed.ensures ∙ c.in-Some.is in
    (c.loop-number.number, c.from-count.result, c.loop-number.auto.number, c.loop-number-test.true, c.if-count-limit.true, refl, subst (λ (o : Option code.Full). IfSome o (λ full. full.count ≡ c.from-count.result)) (sym is) (sym c.from-count.ensures), λ before from_low below. c.loop-number.invariant.fine before from_low below)
