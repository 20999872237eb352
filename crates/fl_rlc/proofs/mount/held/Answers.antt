use Rattle.std.proofs.Common.{ap}
use Rattle.fl_table.specs.declared.counts.Mounted.{Mounted}
use Rattle.fl_table.specs.declared.counts.TableCounts.{TableCounts}
use Rattle.fl_parts.proofs.Sizes.{table-fits}
use Rattle.fl_rlc.proofs.mount.held.Goals as goal

pub returns-clause-stands : goal.returns-clause-stands
returns-clause-stands g c = λ f first plan b h. ap {A = TableCounts} {B = Mounted} (λ (x : TableCounts). record { rows = x.rows; pages = x.pages; voids = x.voids }) (c.counts-counts.ensures.stands f first plan b h)

pub counts-counts-requires : goal.counts-counts-requires
counts-counts-requires g c = table-fits g.row.KNOTS g.row.SLOTS c.args.table.now.few_knots c.args.table.now.few_slots

pub returns-clause-exact : goal.returns-clause-exact
returns-clause-exact g c = ap {A = TableCounts} {B = Mounted} (λ (x : TableCounts). record { rows = x.rows; pages = x.pages; voids = x.voids }) c.counts-counts.ensures.exact
