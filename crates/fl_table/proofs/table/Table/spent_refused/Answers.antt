use Rattle.std.proofs.Common.{ℕ, Bool, ◌||◌, nat_le, max, ◌∙◌, ap}
use Rattle.fl_model.specs.Table.{spent_from}
use Rattle.fl_parts.specs.Bitmaps as bitmaps
use Rattle.fl_parts.specs.Blobs as variable
use Rattle.fl_table.specs.Memory.{next_in}
use Rattle.fl_table.specs.Refusal.{refused_if}
use Rattle.fl_table.specs.declared.faults.PutRefusal.TheVariants.{Spent}
use Rattle.fl_table.proofs.Refusing.{reached, spent-ring, then-refused}
use Rattle.fl_parts.proofs.Sizes.{table-fits}
use Rattle.fl_table.proofs.table.Table.spent_refused.Goals as goal

pub next_number-requires : goal.next_number-requires
next_number-requires g c = table-fits g.row.KNOTS g.row.SLOTS c.args.self.now.few_knots c.args.self.now.few_slots

pub next_index_page-requires : goal.next_index_page-requires
next_index_page-requires g c = table-fits g.row.KNOTS g.row.SLOTS c.args.self.now.few_knots c.args.self.now.few_slots

pub next_blob_page-requires : goal.next_blob_page-requires
next_blob_page-requires g c = table-fits g.row.KNOTS g.row.SLOTS c.args.self.now.few_knots c.args.self.now.few_slots

pub returns : goal.returns
returns g c =
    let t = c.args.self.now in
    let index = bitmaps.next_of t.bitmaps in
    let blob = variable.next_of t.blobs in
    let pages = c.max-pages.ensures ∙ (ap (λ (n : ℕ). max n c.next_index_page.result) c.next_number.ensures.exact ∙ ap (λ (n : ℕ). max (next_in t) n) c.next_index_page.ensures) in
    let next = c.max-next.ensures ∙ (ap (λ (n : ℕ). max n c.next_blob_page.result) pages ∙ ap (λ (n : ℕ). max (max (next_in t) index) n) c.next_blob_page.ensures) in
    c.then_some.ensures
    ∙ (then-refused (nat_le spent_from c.max-next.result) Spent
    ∙ ap (λ (b : Bool). refused_if b Spent) (ap (λ (n : ℕ). nat_le spent_from n) next ∙ (reached spent_from (next_in t) index blob ∙ ap (λ (b : Bool). b || nat_le spent_from index || nat_le spent_from blob) (spent-ring t.ring))))
