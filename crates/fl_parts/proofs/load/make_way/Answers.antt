use Rattle.std.proofs.Common.{sym, ◌∙◌, ap, arith}
use Rattle.fl_ring.specs.Newest.{commits}
use Rattle.std.proofs.lemmas.Result.{on_ok_weaker}
use Rattle.fl_parts.proofs.SparedReads.{none-waits}
use Rattle.fl_parts.proofs.load.make_way.Goals as goal

pub returns-clause-knows : goal.returns-clause-knows
returns-clause-knows g c = λ error t k n h lt fits rows.
    c.settle.ensures.knows error t k n n h (omega arith) lt fits (rows ∙ (ap commits (sym c.state_of.ensures) ∙ ap commits c.in-Committed.is))

pub returns-clause-waits : goal.returns-clause-waits
returns-clause-waits g c = on_ok_weaker c.settle.result (λ e. none-waits c.settle.new.known.newest _ e) c.settle.ensures.none
