use Rattle.std.proofs.Common.{refl, sym, ◌∙◌}
use Rattle.std.proofs.lemmas.Bool.{false≢true}
use Rattle.fl_shell.specs.Begin.{Ends}
use Rattle.fl_shell.proofs.LeadingLines.{caused-on, ends-refused, takes-on}
use Rattle.fl_shell.proofs.begin.end_with.Goals as goal

pub returns-then-is_complete-clause-takes : goal.returns-then-is_complete-clause-takes
returns-then-is_complete-clause-takes g c = (refl, sym c.is_complete.ensures.exact ∙ c.if-is_complete.true, refl, refl)

pub returns : goal.returns
returns g c =
    let K = g.K.Sink in
    let lines = c.args.config.now in
    record {
      takes = takes-on lines lines Ends (K.written c.args.out.now) (K.written c.refuse.new.out) c.refuse.result c.goes_on.result c.goes_on.ensures
          (ends-refused lines (K.written c.args.out.now) (K.written c.refuse.new.out) c.refuse.result (λ w. false≢true (sym c.if-is_complete.false ∙ (c.is_complete.ensures.exact ∙ w))) c.refuse.ensures.text);
      cause = caused-on (K.faults c.args.out.now) (K.faults c.refuse.new.out) c.refuse.result c.goes_on.result c.goes_on.ensures c.refuse.ensures.cause;
    }
