use Rattle.std.proofs.Common.{sym, ◌∙◌}
use Rattle.fl_rules.proofs.Parts.{marks_are, marks_zero, marks_ones}
use Rattle.fl_rules.proofs.bytes.ends_committed.Goals as goal

pub returns-then-each_is : goal.returns-then-each_is
returns-then-each_is c = (
  λ is. marks_are c.args.page.now c.requires (sym c.each_is.ensures ∙ c.if-each_is.true) (sym c.each_is-then-each_is.ensures ∙ is),
  λ is. c.each_is-then-each_is.ensures ∙ marks_ones c.args.page.now c.requires is,
)

pub returns-else-each_is : goal.returns-else-each_is
returns-else-each_is c = (
  λ is. absurd (cc is),
  λ is. c.each_is.ensures ∙ marks_zero c.args.page.now c.requires is,
)
