use Rattle.std.proofs.Common.{◌≡◌, ◌+◌, ◌-◌, length, IsTrue}
use Rattle.fl_flash.specs.Flash.{page_at}
use Rattle.fl_index.specs.Page.{page_first}
use Rattle.fl_frame.specs.Reads.{OnlyReads}
use Rattle.fl_ring.specs.Place.{shape_of}
use Rattle.fl_rules.specs.Claims.{AllBelow}
use Rattle.fl_check.specs.Entries.{over, IsEntry, kept_below}
use Rattle.fl_check.proofs.rule_6_entry.has_entries.Given as goal

abbrev pub invariant-loop-j : goal.invariant-loop-j
invariant-loop-j g l = record {
  reads : OnlyReads (g.F.Flash.state l.initial.flash) (kept_below l.l.rows (page_first l.listing + l.j) - kept_below l.l.rows (page_first l.listing)) (g.F.Flash.state l.flash);
  room : length l.buf.bytes ≡ (shape_of l.rows).size;
  entries : IsTrue (g.F.Flash.state l.initial.flash).media.tells → AllBelow (IsEntry (page_at (g.F.Flash.state l.initial.flash)) (shape_of l.rows) (over l.l) l.listing) l.j;
}
