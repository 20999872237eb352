-- Where a step in the page in hand leads, and how many pages are left behind a page that is passed.
use Rattle.std.proofs.Common.{◌≡◌, ℕ, ◌+◌, ◌<◌, ◌≤◌, Bool, true, false, cond, refl, sym, ◌∙◌, ap, subst, arith}
use Rattle.std.proofs.lemmas.Bool.{true≢false}
use Rattle.fl_table.specs.Memory.{next_in}
use Rattle.fl_table.specs.declared.table.Table.{Table}
use Rattle.fl_cursor.specs.Asked.{is_last}
use Rattle.fl_cursor.specs.Cursor.{table_of, has_ended, is_end}
use Rattle.fl_cursor.specs.Going.{StepsInPage, took, pages_left, is_start, is_in_page, is_at_pages}
use Rattle.fl_cursor.specs.declared.cursor.Cursor.{Cursor}
use Rattle.fl_cursor.specs.declared.place.Here.{Here}
use Rattle.fl_cursor.specs.declared.place.Place.{Place}
use Rattle.fl_cursor.specs.declared.place.Place.TheVariants.{Start, Pages, InPage, Pending, Ended}

outside-other : (place : Place) → ((number row : ℕ) → place ≡ InPage number row → ⊥) → is_in_page place ≡ false
outside-other Start other = refl
outside-other (Pages next) other = refl
outside-other (InPage number row) other = absurd (other number row refl)
outside-other (Pending row) other = refl
outside-other Ended other = refl

-- a place that is known
pub begun-other : (place : Place) → (place ≡ Start → ⊥) → is_start place ≡ false
begun-other Start other = absurd (other refl)
begun-other (Pages next) other = refl
begun-other (InPage number row) other = refl
begun-other (Pending row) other = refl
begun-other Ended other = refl

-- behind the pages are the pending rows, and the end
pub pending-or-ended : (place : Place) → is_at_pages place ≡ false → ((row : ℕ) → place ≡ Pending row → ⊥) → is_end place ≡ true
pending-or-ended Start past other = absurd (true≢false past)
pending-or-ended (Pages next) past other = absurd (true≢false past)
pending-or-ended (InPage number row) past other = absurd (true≢false past)
pending-or-ended (Pending row) past other = absurd (other row refl)
pending-or-ended Ended past other = refl

-- behind a pending row no page is looked at
pub taken-behind : (last : Bool) (row : ℕ) → is_at_pages (cond last Ended (Pending row)) ≡ false
taken-behind true row = refl
taken-behind false row = refl

-- no page is in hand
pub step-none : {KNOTS SLOTS : ℕ} (old : Cursor KNOTS SLOTS) → is_start old.place ≡ false → ((number row : ℕ) → old.place ≡ InPage number row → ⊥) → StepsInPage false old old
step-none old begun other = record {
  here = refl;
  begun = begun;
  outside = outside-other old.place other;
  fewer = omega arith;
  stays_ended = λ e. (refl, e);
  behind = λ past. (refl, past);
}

taken-begun : (last : Bool) (number row : ℕ) → is_start (cond last Ended (InPage number row)) ≡ false
taken-begun true number row = refl
taken-begun false number row = refl

taken-left : {KNOTS SLOTS : ℕ} (t : Table KNOTS SLOTS) (last : Bool) (number row k : ℕ) → pages_left t (cond last Ended (InPage number k)) ≤ pages_left t (InPage number row)
taken-left t true number row k = omega arith
taken-left t false number row k = omega arith

module _ {KNOTS SLOTS : ℕ} (old : Cursor KNOTS SLOTS) (number row : ℕ) (here_is : old.place ≡ InPage number row) where
  not-ended : has_ended old ≡ true → ⊥
  not-ended e = true≢false (sym e ∙ ap is_end here_is)

  not-behind : is_at_pages old.place ≡ false → ⊥
  not-behind past = true≢false (sym (ap is_at_pages here_is) ∙ past)

  as-here : (place : Place) → pages_left (table_of old) place ≤ pages_left (table_of old) (InPage number row) → pages_left (table_of old) place ≤ pages_left (table_of old) old.place
  as-here place few = subst (λ (p : Place). pages_left (table_of old) place ≤ pages_left (table_of old) p) (sym here_is) few

  -- a row is taken
  pub step-taken : (new : Cursor KNOTS SLOTS) (key k : ℕ) (here : Here) → new ≡ took key here (InPage number k) old → StepsInPage true old new
  step-taken new key k here is = subst (StepsInPage true old) (sym is) (record {
    here = tt;
    begun = taken-begun (is_last old.mark.top key) number k;
    outside = tt;
    fewer = as-here (cond (is_last old.mark.top key) Ended (InPage number k)) (taken-left (table_of old) (is_last old.mark.top key) number row k);
    stays_ended = λ e. absurd (not-ended e);
    behind = λ past. absurd (not-behind past);
  })

  -- none is, and the next page comes
  pub step-behind : number < next_in (table_of old) → StepsInPage false old (record old { place = Pages (number + 1) })
  step-behind before = record {
    here = refl;
    begun = refl;
    outside = refl;
    fewer = as-here (Pages (number + 1)) (omega (arith, before));
    stays_ended = λ e. absurd (not-ended e);
    behind = λ past. absurd (not-behind past);
  }

  -- .. or no row is left
  pub step-nowhere : StepsInPage false old (record old { place = Ended })
  step-nowhere = record {
    here = refl;
    begun = refl;
    outside = refl;
    fewer = as-here Ended (omega arith);
    stays_ended = λ e. absurd (not-ended e);
    behind = λ past. absurd (not-behind past);
  }

-- a page that is passed leaves fewer, and so does each other place
module _ {KNOTS SLOTS : ℕ} (old : Cursor KNOTS SLOTS) (next : ℕ) (here_is : old.place ≡ Pages next) where
  fewer-here : (place : Place) → pages_left (table_of old) place < pages_left (table_of old) (Pages next) → pages_left (table_of old) place < pages_left (table_of old) old.place
  fewer-here place few = subst (λ (p : Place). pages_left (table_of old) place < pages_left (table_of old) p) (sym here_is) few

  pub fewer-pending : pages_left (table_of old) (Pending 0) < pages_left (table_of old) old.place
  fewer-pending = fewer-here (Pending 0) (omega arith)

  pub fewer-ended : pages_left (table_of old) Ended < pages_left (table_of old) old.place
  fewer-ended = fewer-here Ended (omega arith)

  pub fewer-behind : next < next_in (table_of old) → pages_left (table_of old) (Pages (next + 1)) < pages_left (table_of old) old.place
  fewer-behind before = fewer-here (Pages (next + 1)) (omega (arith, before))

  pub fewer-entered : pages_left (table_of old) (InPage next 0) < pages_left (table_of old) old.place
  fewer-entered = fewer-here (InPage next 0) (omega arith)
