use Rattle.std.proofs.Common.{sym, ◌∙◌, ap}
use Rattle.fl_parts.specs.Bitmaps.{next_of}
use Rattle.fl_table.proofs.table.Table.next_index_page.Goals as goal

pub returns-in-Some : goal.returns-in-Some
returns-in-Some g c = c.next_number.ensures.exact ∙ ap next_of (sym c.in-Some.is)

pub returns-in-None : goal.returns-in-None
returns-in-None g c = ap next_of (sym c.in-None.is)
