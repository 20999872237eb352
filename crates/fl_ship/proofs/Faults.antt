-- Which fault a ship has, and how many reads it took.
use Rattle.std.proofs.Common.{◌≡◌, ℕ, ◌+◌, ◌≤◌, Bool, true, false, not, Result, Ok, Err, List, refl, sym, ◌∙◌, ap, subst, arith}
use Rattle.fl_flash.specs.Flash.{FlashState, Goes}
use Rattle.fl_flash.specs.declared.flash.FlashFault.{FlashFault}
use Rattle.fl_frame.proofs.WatchedInTurn.{cause-later}
use Rattle.fl_model.specs.Row.{Row}
use Rattle.fl_page.specs.Steps.{Steps}
use Rattle.fl_page.specs.declared.fault.BadPage.{BadPage}
use Rattle.fl_page.specs.declared.fault.ReadFault.{ReadFault}
use Rattle.fl_page.specs.declared.fault.ReadFault.TheVariants as read
use Rattle.fl_table.specs.Causes.{put_breaks}
use Rattle.fl_table.specs.declared.faults.FlushFault.TheVariants as flush
use Rattle.fl_table.specs.declared.faults.PutRefusal.{PutRefusal}
use Rattle.fl_table.specs.declared.faults.PutRefusal.TheVariants as put
use Rattle.fl_ship.specs.Missing.{LookCausedBy}
use Rattle.fl_ship.specs.Rows.{FlushCausedBy, PutCausedBy, ShipCausedBy, goes_on}
use Rattle.fl_ship.specs.Tables.{StopCausedBy}
use Rattle.fl_ship.specs.declared.fault.ShipFault.{ShipFault}
use Rattle.fl_ship.specs.declared.fault.ShipFault.TheVariants.{Read, Put, Flush}
use Rattle.fl_ship.specs.declared.stop.Stop.{Stop}
use Rattle.fl_ship.specs.declared.stop.Stop.TheVariants as stop

-- a fault of a read is that one
pub same-read : (a b : ReadFault) → ◌≡◌ {A = Result ℕ ShipFault} (Err (Read a)) (Err (Read b)) → ◌≡◌ {A = Result Bool ReadFault} (Err a) (Err b)
same-read a b e = let same : a ≡ b = cc e in ap (λ (fault : ReadFault). Err fault) same

-- .. and no bad page, where the rows are told
pub told-good : (fault : ReadFault) (bad : BadPage) (before after : List Row) (row : Row) → Steps (Err fault) before row after → ◌≡◌ {A = Result ℕ ShipFault} (Err (Read fault)) (Err (Read (read.BadPage bad))) → ⊥
told-good (read.Flash e) bad before after row steps is = cc is
told-good (read.BadPage page) bad before after row steps is = steps

pub read-not-put : (fault : ReadFault) (refusal : PutRefusal) → ◌≡◌ {A = Result ℕ ShipFault} (Err (Read fault)) (Err (Put refusal)) → ⊥
read-not-put fault refusal e = cc

pub put-not-read : (refusal : PutRefusal) (fault : ReadFault) → ◌≡◌ {A = Result ℕ ShipFault} (Err (Put refusal)) (Err (Read fault)) → ⊥
put-not-read refusal fault e = cc

-- a put that is refused has its cause since an earlier time too
pub put-caused-later : (from from_now onto mid now : FlashState) (refusal : PutRefusal) → Goes onto mid → (onto.is_on ≡ true → mid.is_on ≡ true) → PutCausedBy mid now refusal → ShipCausedBy from from_now onto now (Put refusal)
put-caused-later from from_now onto mid now (put.Flash fault) goes on cause = cause-later onto mid now goes on fault cause
put-caused-later from from_now onto mid now put.Spent goes on cause = tt
put-caused-later from from_now onto mid now (put.Key last) goes on cause = cause
put-caused-later from from_now onto mid now (put.Columns wanted) goes on cause = cause
put-caused-later from from_now onto mid now (put.Value column) goes on cause = cause
put-caused-later from from_now onto mid now (put.Blob limit) goes on cause = cause
put-caused-later from from_now onto mid now put.Stopped goes on cause = cause

-- .. and the table goes on where no operation failed
pub goes-on-refused : (onto now : FlashState) (refusal : PutRefusal) → PutCausedBy onto now refusal → not (put_breaks (Err refusal)) ≡ goes_on (Err (Put refusal))
goes-on-refused onto now (put.Flash fault) cause = refl
goes-on-refused onto now put.Spent cause = refl
goes-on-refused onto now (put.Key last) cause = absurd cause
goes-on-refused onto now (put.Columns wanted) cause = absurd cause
goes-on-refused onto now (put.Value column) cause = absurd cause
goes-on-refused onto now (put.Blob limit) cause = absurd cause
goes-on-refused onto now put.Stopped cause = absurd cause

pub done-not-failed : {X E : Type 0} (done : X) (fault : E) → ◌≡◌ {A = Result X E} (Ok done) (Err fault) → ⊥
done-not-failed done fault e = cc

-- ---- a ship of a table that stopped

pub ship-no-gap : (fault : ShipFault) (last oldest : ℕ) → ◌≡◌ {A = Result ℕ Stop} (Err (stop.Ship fault)) (Err (stop.Gap last oldest)) → ⊥
ship-no-gap fault last oldest e = cc

-- .. in a flush that failed
module _ (from from_now onto onto_now : FlashState) (fault : ShipFault) (cause : FlushCausedBy onto onto_now fault) where
  pub flush-caused : ShipCausedBy from from_now onto onto_now fault
  flush-caused = subst (ShipCausedBy from from_now onto onto_now) (sym cause.1) cause.2

  -- .. since an earlier time too
  pub flush-caused-later : (first : FlashState) → Goes first onto → (first.is_on ≡ true → onto.is_on ≡ true) → ShipCausedBy from from_now first onto_now fault
  flush-caused-later first goes on = subst (ShipCausedBy from from_now first onto_now) (sym cause.1) (cause-later first onto onto_now goes on cause.0 cause.2)

  pub flush-stops : goes_on (Err fault) ≡ false
  flush-stops = ap (λ (other : ShipFault). goes_on (Err other)) cause.1

  pub flush-not-read : (other : ReadFault) → ◌≡◌ {A = Result ℕ ShipFault} (Err fault) (Err (Read other)) → ⊥
  flush-not-read other e = let same : fault ≡ Read other = cc e in no cause.0 (sym cause.1 ∙ same)
    where
      no : (failed : FlashFault) → Flush (flush.Flash failed) ≡ Read other → ⊥
      no failed is = cc

  pub flush-not-put : (refusal : PutRefusal) → ◌≡◌ {A = Result ℕ ShipFault} (Err fault) (Err (Put refusal)) → ⊥
  flush-not-put refusal e = let same : fault ≡ Put refusal = cc e in no cause.0 (sym cause.1 ∙ same)
    where
      no : (failed : FlashFault) → Flush (flush.Flash failed) ≡ Put refusal → ⊥
      no failed is = cc

  pub flush-good : (bad : BadPage) → ◌≡◌ {A = Result ℕ Stop} (Err (stop.Ship fault)) (Err (stop.Ship (Read (read.BadPage bad)))) → ⊥
  flush-good bad e = let same : fault ≡ Read (read.BadPage bad) = cc e in no cause.0 (sym cause.1 ∙ same)
    where
      no : (failed : FlashFault) → Flush (flush.Flash failed) ≡ Read (read.BadPage bad) → ⊥
      no failed is = cc

-- .. or in a look for a gap
pub look-caused : (from from_now onto : FlashState) (why : Stop) → LookCausedBy from from_now why → StopCausedBy from from_now onto onto why
look-caused from from_now onto (stop.Gap last oldest) cause = tt
look-caused from from_now onto (stop.Ship (Read fault)) cause = cause
look-caused from from_now onto (stop.Ship (Put refusal)) cause = absurd cause
look-caused from from_now onto (stop.Ship (Flush fault)) cause = absurd cause

pub none-shipped : (count : ℕ) → 0 ≤ count
none-shipped count = omega arith

-- ---- reads, of which some are left

pub reads-behind : (before mid now most left all : ℕ) → now + left ≤ mid + most → mid + most ≤ before + all → now ≤ before + all
reads-behind before mid now most left all step so_far = omega (arith, step, so_far)

pub reads-whole : (now left bound : ℕ) → now + left ≤ bound → now ≤ bound
reads-whole now left bound so_far = omega (arith, so_far)
