use Rattle.std.proofs.Common.{Err, ap, arith}
use Rattle.fl_image.specs.declared.status.ToolStatus.{ToolStatus}
use Rattle.fl_store.proofs.Called.{err-is}
use Rattle.fl_store.proofs.FoundTables.{finds-none}
use Rattle.fl_store.proofs.Named.{image-without}
use Rattle.fl_store.proofs.found_table.FoundTable.on.Goals as goal

pub returns-in_err-config-clause-none : goal.returns-in_err-config-clause-none
returns-in_err-config-clause-none g c =
    rw (err-is c.from_residual.result _ c.from_residual.ensures.1) (finds-none (g.M.Media.state c.args.media.now) (g.M.Media.state c.on.new.media) c.args.name c.in_err-config.field-0.0 c.in_err-config.ensures.statuses
    (λ is. c.in_err-config.ensures.none (ap (λ (s : ToolStatus). Err s) is)) (λ is. c.in_err-config.ensures.device (ap (λ (s : ToolStatus). Err s) is)))

pub returns-in-Some-clause-table : goal.returns-in-Some-clause-table
returns-in-Some-clause-table g c = record {
  image = c.in_ok-config.ensures.image;
  layout = c.in_ok-config.ensures.layout;
  named = c.in-Some.ensures;
  few = omega (arith, c.in_ok-config.ensures.layout.tables.as_many, c.tables-tables.ensures.exact, c.tables-tables.ensures.few);
  whole = c.in_ok-config.ensures.whole;
}

pub returns-in-None-clause-none : goal.returns-in-None-clause-none
returns-in-None-clause-none g c = λ tells.
    let found = c.in_ok-config.ensures.image tells in
    image-without (g.M.Media.state c.args.media.now).content c.args.name c.in_ok-config.field-0.config c.in_ok-config.field-0.layout.tables.entries.items found.0 found.1 c.in_ok-config.ensures.layout.tables c.in-None.ensures
