use Rattle.std.proofs.Common.{rules, ◌≡◌, ◌≤◌, false, arith, ℕ, refl, sym, ◌∙◌, ap}
use Rattle.fl_model.specs.Query.{is_up_to}
use Rattle.fl_schema.specs.Schema.{row_of}
use Rattle.fl_cursor.specs.Asked.{asked_by, lowest_of}
use Rattle.fl_cursor.proofs.StartPlaces.{starts-nowhere, starts-pending}
use Rattle.fl_parts.proofs.Sizes.{table-fits}
use Rattle.fl_table.specs.Memory.{pending_in}
use Rattle.fl_cursor.proofs.bookmark.Bookmark.first_place.Goals as goal

none-past : (n : ℕ) → 0 ≤ n
none-past n = omega arith

pub returns-then-not-is_up_to-clause-passes : goal.returns-then-not-is_up_to-clause-passes
returns-then-not-is_up_to-clause-passes g c = λ contents page standing.
    let past : is_up_to c.args.self.now.top (lowest_of (asked_by c.args.self.now)) ≡ false = search rules in
    starts-nowhere c.args.table.now contents (asked_by c.args.self.now) past

pub returns-then-key-lowest-clause-passes : goal.returns-then-key-lowest-clause-passes
returns-then-key-lowest-clause-passes g c = λ contents page standing.
    let key : c.key.result ≡ (row_of c.pending_row.result).key = search rules in
    let low : c.lowest-lowest.result ≡ lowest_of (asked_by c.args.self.now) = search rules in
    let le : (row_of c.pending_row.result).key ≤ lowest_of (asked_by c.args.self.now) = omega (arith, key, low, c.if-key-lowest.true) in
    starts-pending c.args.table.now contents (asked_by c.args.self.now) (row_of c.pending_row.result) standing c.pending_row.ensures.row le

pub returns-then-not-is_up_to-clause-placed : goal.returns-then-not-is_up_to-clause-placed
returns-then-not-is_up_to-clause-placed g c = λ page. tt

pub returns-then-not-is_up_to-clause-outside : goal.returns-then-not-is_up_to-clause-outside
returns-then-not-is_up_to-clause-outside g c = refl

pub returns-then-not-is_up_to-clause-begun : goal.returns-then-not-is_up_to-clause-begun
returns-then-not-is_up_to-clause-begun g c = ap (λ (n : ℕ). is_up_to c.args.self.now.top n) (sym c.lowest-lowest.ensures) ∙ (sym c.is_up_to.ensures ∙ c.if-not-is_up_to.true)

pub returns-then-key-lowest-clause-placed : goal.returns-then-key-lowest-clause-placed
returns-then-key-lowest-clause-placed g c = λ page. none-past (pending_in c.args.table.now)

pub returns-then-key-lowest-clause-outside : goal.returns-then-key-lowest-clause-outside
returns-then-key-lowest-clause-outside g c = refl

pub pending_rows-requires : goal.pending_rows-requires
pending_rows-requires g c = table-fits g.row.KNOTS g.row.SLOTS c.args.table.now.few_knots c.args.table.now.few_slots
