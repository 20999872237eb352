-- The bad pages that a look for a gap meets.
use Rattle.std.proofs.Common.{◌≡◌, ℕ, ◌<◌, ◌≤◌, inl, Result, Err, sym, ap, subst}
use Rattle.fl_cursor.specs.Cursor.{IfBad, IsBadPage, MayBeBad}
use Rattle.fl_cursor.specs.Listed.{bytes_at}
use Rattle.fl_flash.specs.Flash.{FlashState}
use Rattle.fl_mark.specs.Mark.{state_of_page}
use Rattle.fl_mark.specs.declared.page_state.PageState.TheVariants.{Committed}
use Rattle.fl_frame.specs.Contents.{Contents, contents_of}
use Rattle.fl_page.specs.Page.{IsGoodPage, bad_page}
use Rattle.fl_page.specs.declared.fault.BadPage.{BadPage}
use Rattle.fl_page.specs.declared.fault.ReadFault.{ReadFault}
use Rattle.fl_page.specs.declared.fault.ReadFault.TheVariants as read
use Rattle.fl_table.specs.Finding.{HasBadPage, LookupFails}
use Rattle.fl_table.specs.Look.{layout_in, oldest_in}
use Rattle.fl_table.specs.Memory.{next_in}
use Rattle.fl_table.specs.declared.table.Table.{Table}
use Rattle.fl_ship.specs.declared.fault.ShipFault.TheVariants.{Read}
use Rattle.fl_ship.specs.declared.stop.Stop.{Stop}
use Rattle.fl_ship.specs.declared.stop.Stop.TheVariants as stop

-- a page that a lookup finds bad is one of those that a cursor does
lookup-bad : (t : Table 64 64) (f : FlashState) (bad : BadPage) → HasBadPage t f bad → IsBadPage t (contents_of f) bad
lookup-bad t f bad h =
    let wanted : h.number ≡ bad.wanted = sym (ap (λ (b : BadPage). b.wanted) h.is_bad.told) in
    record {
      from = subst (λ (n : ℕ). oldest_in t ≤ n) wanted h.kept.0;
      before = subst (λ (n : ℕ). n < next_in t) wanted h.kept.1;
      committed = subst (λ (n : ℕ). state_of_page (bytes_at t (contents_of f) n) ≡ Committed) wanted h.is_bad.committed;
      not_good = subst (λ (n : ℕ). IsGoodPage (layout_in t) n (bytes_at t (contents_of f) n) → ⊥) wanted h.is_bad.not_good;
      told = subst (λ (n : ℕ). bad ≡ bad_page n (bytes_at t (contents_of f) n)) wanted h.is_bad.told;
    }

same-page : (a b : ReadFault) → ◌≡◌ {A = Result (Unit {0}) Stop} (Err (stop.Ship (Read a))) (Err (stop.Ship (Read b))) → a ≡ b
same-page a b e = cc

pub find-bad : (t : Table 64 64) (f g : FlashState) (fault : ReadFault) (bad : BadPage) → ◌≡◌ {A = Result (Unit {0}) Stop} (Err (stop.Ship (Read fault))) (Err (stop.Ship (Read (read.BadPage bad)))) → LookupFails t f fault g → MayBeBad t (contents_of f) bad
find-bad t f g fault bad is h =
    let at : LookupFails t f (read.BadPage bad) g = subst (λ (e : ReadFault). LookupFails t f e g) (same-page fault (read.BadPage bad) is) h in
    λ tells. inl (lookup-bad t f bad (at.0 tells))

-- .. and one that a cursor meets, over the same contents
pub step-bad : (t : Table 64 64) (now held : Contents) (fault : ReadFault) (bad : BadPage) → now ≡ held → ◌≡◌ {A = Result (Unit {0}) Stop} (Err (stop.Ship (Read fault))) (Err (stop.Ship (Read (read.BadPage bad)))) → IfBad (MayBeBad t now) fault → MayBeBad t held bad
step-bad t now held fault bad same is h =
    subst (λ (k : Contents). MayBeBad t k bad) same (let at : IfBad (MayBeBad t now) (read.BadPage bad) = subst (λ (e : ReadFault). IfBad (MayBeBad t now) e) (same-page fault (read.BadPage bad) is) h in at)
