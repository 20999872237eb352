use Rattle.std.proofs.Common.{sym, ◌∙◌}
use Rattle.fl_rules.proofs.Parts.{filled_is, filled_ones, filled_ended}
use Rattle.fl_rules.proofs.bytes.ends_filled.Goals as goal

pub returns-then-each_is : goal.returns-then-each_is
returns-then-each_is c = (
  λ is. filled_is c.args.page.now c.args.end c.requires (sym c.each_is.ensures ∙ c.if-each_is.true) (c.ends_committed.ensures.0 is),
  λ is. c.ends_committed.ensures.1 (filled_ended c.args.page.now c.args.end c.requires is),
)

pub returns-else-each_is : goal.returns-else-each_is
returns-else-each_is c = (
  λ is. absurd (cc (sym is ∙ c.if-each_is.false)),
  λ is. c.each_is.ensures ∙ filled_ones c.args.page.now c.args.end c.requires is,
)
