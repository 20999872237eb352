use Rattle.std.proofs.Common.{◌≡◌, ◌<◌, ◌^◌, true, false}
use Rattle.fl_frame.specs.Contents.{contents_of, OnlyReads}
use Rattle.fl_cursor.specs.Cursor.{has_ended}
use Rattle.fl_table.specs.Memory.{next_in}
use Rattle.fl_cursor.specs.Ends.{EndsPages}
use Rattle.fl_cursor.specs.Sound.{IsSoundAhead, pages_end}
use Rattle.fl_cursor.specs.Going.{Goes, is_start, is_in_page, is_at_pages, pages_left}
use Rattle.fl_cursor.specs.declared.place.Here.TheVariants.{Nowhere}
use Rattle.fl_cursor.proofs.cursor.Cursor.advance.Given as goal

abbrev pub invariant-loop-self : goal.invariant-loop-self
invariant-loop-self g l =
    record {
      reads_only : OnlyReads (g.F.Flash.state l.fn.flash) (g.F.Flash.state l.flash);
      goes : Goes false (contents_of (g.F.Flash.state l.fn.flash)) (g.F.Flash.state l.fn.flash).work.reads l.fn.self (g.F.Flash.state l.flash).work.reads l.self;
      here : l.self.here ≡ Nowhere;
      begun : is_start l.self.place ≡ false;
      outside : is_in_page l.self.place ≡ false;
      ended : has_ended l.fn.self ≡ true → (has_ended l.self ≡ true) × (g.F.Flash.state l.flash ≡ g.F.Flash.state l.fn.flash);
      behind : is_at_pages l.fn.self.place ≡ false → (is_at_pages l.self.place ≡ false) × (g.F.Flash.state l.flash ≡ g.F.Flash.state l.fn.flash);
      few : next_in l.self.table.now < 2 ^ 32;
      end : EndsPages l.self.table.now l.self.mark.top l.end;
      end_is : l.end ≡ pages_end l.self.table.now l.self.mark.top;
      sound : IsSoundAhead l.self (contents_of (g.F.Flash.state l.fn.flash)) → IsSoundAhead l.fn.self (contents_of (g.F.Flash.state l.fn.flash));
    }

abbrev pub decreases-loop-self : goal.decreases-loop-self
decreases-loop-self g l = pages_left l.self.table.now l.self.place
