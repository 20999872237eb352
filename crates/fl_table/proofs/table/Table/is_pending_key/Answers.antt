use Rattle.std.proofs.Common.{◌≡◌, nat_le, nat_lt, ap, ◌∙◌, arith}
use Rattle.fl_schema.specs.Schema.{row_of}
use Rattle.fl_parts.proofs.RowsFound.{pending-told}
use Rattle.fl_table.proofs.PendingKey.{none-pending, first-pending}
use Rattle.fl_parts.proofs.Sizes.{table-fits}
use Rattle.fl_table.proofs.table.Table.is_pending_key.Goals as goal

pub returns-then-pending_rows-gt0 : goal.returns-then-pending_rows-gt0
returns-then-pending_rows-gt0 g c = record {
  exact = ap (λ k. nat_le k c.args.key) c.key.ensures ∙ first-pending c.args.self.now c.args.key (row_of c.pending_row.result) c.pending_row.ensures.row;
  stands = λ f first plan table stands. ap (λ k. nat_le k c.args.key) c.key.ensures ∙ pending-told table (row_of c.pending_row.result) c.args.key (c.pending_row.ensures.stands f first plan table stands);
}

pub pending_rows-requires : goal.pending_rows-requires
pending_rows-requires g c = table-fits g.row.KNOTS g.row.SLOTS c.args.self.now.few_knots c.args.self.now.few_slots

pub returns-else-pending_rows-gt0-clause-exact : goal.returns-else-pending_rows-gt0-clause-exact
returns-else-pending_rows-gt0-clause-exact g c =
    let none : c.pending_rows.result ≡ 0 = omega arith in
    ap (λ n. nat_lt 0 n) none ∙ none-pending c.args.self.now c.args.key (omega (arith, c.pending_rows.ensures.exact, none))
