-- The rules of a table's rings, and the first that doesn't hold.
use Rattle.std.proofs.Common.{◌≡◌, inl, inr, ℕ, Option, Some, None, List, sym, subst}
use Rattle.fl_base.specs.declared.types.RingPlace.{RingPlace}
use Rattle.fl_plan.specs.declared.table_config.TableConfig.{TableConfig}
use Rattle.fl_check.specs.Entries.{EntriesBreak}
use Rattle.fl_rules.specs.References.{ReferencesBreak}
use Rattle.fl_rules.specs.RingRules.{OverPages, BreaksRing}
use Rattle.fl_check.specs.Whole.{OfRing, shape_in, rows_shape, layout_in, indexing, index_end, tally_in, IsRowsForm, IsIndexSound, AreRowsSound, IsVarSound, AreRingsSound, AreEntriesSound, BreaksIndex, BreaksRows, BreaksVarBy, BreaksVar, BreaksLogRing, BreaksLog, IsFirstFault}
use Rattle.fl_check.specs.declared.finding.RingName.{RingName}
use Rattle.fl_check.specs.declared.finding.RingName.TheVariants.{Index, Data, Var, Log}
use Rattle.fl_check.specs.declared.halt.Fault.{Fault}
use Rattle.fl_rules.specs.declared.numbering.Numbering.{Numbering}
use Rattle.fl_rules.specs.declared.rule.Rule.TheVariants.{Entry, Blob}
use Rattle.fl_check.specs.declared.table.TableNumbers.{TableNumbers}

-- of a ring that is there
pub of_ring : (Holds : RingPlace → Numbering → Type 0) (o : Option RingPlace) (x : Option Numbering) (place : RingPlace) (n : Numbering) → o ≡ Some place → x ≡ Some n → Holds place n → OfRing Holds o x
of_ring Holds o x place n e is holds = rw (e, is) holds

pub in_ring : (Holds : RingPlace → Numbering → Type 0) (o : Option RingPlace) (x : Option Numbering) (place : RingPlace) (n : Numbering) → o ≡ Some place → x ≡ Some n → OfRing Holds o x → Holds place n
in_ring Holds o x place n e is holds = subst (λ (y : Option Numbering). OfRing Holds (Some place) y) is (subst (λ (p : Option RingPlace). OfRing Holds p x) e holds)

-- .. and of one that isn't
pub of_none : (Holds : RingPlace → Numbering → Type 0) (o : Option RingPlace) → o ≡ None → OfRing Holds o None
of_none Holds o e = rw e tt

pub no_ring : (Holds Others : RingPlace → Numbering → Type 0) (o : Option RingPlace) (x : Option Numbering) → o ≡ None → OfRing Holds o x → OfRing Others o x
no_ring Holds Others o None e holds = rw e tt
no_ring Holds Others o (Some n) e holds = absurd (subst (λ (p : Option RingPlace). OfRing Holds p (Some n)) e holds)

pub some_ring : (Holds : RingPlace → Numbering → Type 0) (o : Option RingPlace) (x : Option Numbering) (place : RingPlace) → o ≡ Some place → x ≡ None → OfRing Holds o x → ⊥
some_ring Holds o x place e is holds = subst (λ (y : Option Numbering). OfRing Holds (Some place) y) is (subst (λ (p : Option RingPlace). OfRing Holds p x) e holds)

module _ (config : TableConfig) (log : Option RingPlace) (page : ℕ → List ℕ) where
  pub index_fault : (fault : Fault) → (fault.ring ≡ Index) × BreaksIndex config page fault.page fault.rule → IsFirstFault config log page fault.ring fault.page fault.rule
  index_fault fault x = subst (λ (name : RingName). IsFirstFault config log page name fault.page fault.rule) (sym x.0) (inl x.1)

  pub rows_fault : (index : Option Numbering) (at_least : ℕ) (fault : Fault) → IsIndexSound config page index → at_least ≡ index_end config page index
      → (fault.ring ≡ Data) × BreaksRing (IsRowsForm config) (OverPages (layout_in config)) page (rows_shape config) at_least fault.rule fault.page → IsFirstFault config log page fault.ring fault.page fault.rule
  rows_fault index at_least fault sound e x = subst (λ (name : RingName). IsFirstFault config log page name fault.page fault.rule) (sym x.0) (inl here)
    where
      here : BreaksRows config page fault.page fault.rule
      here = record {
        index = index;
        index_sound = sound;
        breaks = subst (λ (k : ℕ). BreaksRing (IsRowsForm config) (OverPages (layout_in config)) page (rows_shape config) k fault.rule fault.page) e x.1;
      }

  pub var_fault : (index : Option Numbering) (rows : Numbering) (at_least : ℕ) (fault : Fault) → IsIndexSound config page index → AreRowsSound config page index rows
      → at_least ≡ (tally_in config page rows).blob_end → (fault.ring ≡ Var) × BreaksVarBy config page at_least fault.page fault.rule → IsFirstFault config log page fault.ring fault.page fault.rule
  var_fault index rows at_least fault index_sound rows_sound e x = subst (λ (name : RingName). IsFirstFault config log page name fault.page fault.rule) (sym x.0) here
    where
      here : BreaksVar config page fault.page fault.rule
      here = record { index = index; rows = rows; index_sound = index_sound; rows_sound = rows_sound; breaks = subst (λ (k : ℕ). BreaksVarBy config page k fault.page fault.rule) e x.1 }

  pub log_fault : (index : Option Numbering) (rows : Numbering) (var : Option Numbering) (fault : Fault) → IsIndexSound config page index → AreRowsSound config page index rows → IsVarSound config page rows var
      → (fault.ring ≡ Log) × BreaksLogRing config log page fault.page fault.rule → IsFirstFault config log page fault.ring fault.page fault.rule
  log_fault index rows var fault index_sound rows_sound var_sound x = subst (λ (name : RingName). IsFirstFault config log page name fault.page fault.rule) (sym x.0) here
    where
      here : BreaksLog config log page fault.page fault.rule
      here = record { index = index; rows = rows; var = var; index_sound = index_sound; rows_sound = rows_sound; var_sound = var_sound; breaks = x.1 }

  module _ (t : TableNumbers) (rings : AreRingsSound config log page t) (place : RingPlace) (n : Numbering) (fault : Fault) where
    pub entries_fault : config.index ≡ Some place → t.index ≡ Some n → fault.ring ≡ Index → fault.rule ≡ Entry
        → EntriesBreak page (shape_in config place) (rows_shape config) (indexing config n t.rows) fault.page → IsFirstFault config log page fault.ring fault.page fault.rule
    entries_fault is numbered ring rule breaks =
        subst (λ (name : RingName). IsFirstFault config log page name fault.page fault.rule) (sym ring)
        (inr (rule, (record { t = t; rings = rings; place = place; n = n; is = is; numbered = numbered; breaks = breaks })))

    pub references_fault : AreEntriesSound config page t → config.var ≡ Some place → t.var ≡ Some n → fault.ring ≡ Data → fault.rule ≡ Blob
        → ReferencesBreak (layout_in config) page (rows_shape config) t.rows.marks (shape_in config place) n fault.page → IsFirstFault config log page fault.ring fault.page fault.rule
    references_fault entries is numbered ring rule breaks =
        subst (λ (name : RingName). IsFirstFault config log page name fault.page fault.rule) (sym ring)
        (inr (rule, (record { t = t; rings = rings; entries = entries; place = place; n = n; is = is; numbered = numbered; breaks = breaks })))
