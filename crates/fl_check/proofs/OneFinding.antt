-- Of a table on some pages there is one finding and no other.
use Rattle.std.proofs.Common.{◌≡◌, ◌⊎◌, inl, inr, ℕ, List, Option, Some, None, refl, sym, ◌∙◌, ap, subst}
use Rattle.std.proofs.lemmas.Option.{same_Some}
use Rattle.fl_base.specs.declared.types.RingPlace.{RingPlace}
use Rattle.fl_plan.specs.declared.table_config.TableConfig.{TableConfig}
use Rattle.fl_ring.specs.Ring.{Shape}
use Rattle.fl_rules.specs.Claims.{AllBelow}
use Rattle.fl_check.specs.Entries.{IndexOver, HasEntries, HaveEntries, EntriesBreak}
use Rattle.fl_rules.specs.Marks.{kept_page}
use Rattle.fl_rules.specs.References.{PageLeads, ReferencesBreak}
use Rattle.fl_rules.specs.RingRules.{NoRows, OverPages, WithinPages, IsRingSound, BreaksRing}
use Rattle.fl_check.specs.Whole.{OfRing, shape_in, rows_shape, layout_in, indexing, index_end, tally_in, IsIndexForm, IsRowsForm, IsVarForm, IsLogForm, IsIndexSound, AreRowsSound, IsVarSound, IsLogSound, AreRingsSound, AreEntriesSound, AreReferencesSound, IsSound, IsFirstFault, IsFinding}
use Rattle.fl_check.specs.declared.finding.Finding.{Finding}
use Rattle.fl_check.specs.declared.finding.Finding.TheVariants.{Sound, Fault}
use Rattle.fl_check.specs.declared.finding.RingName.{RingName}
use Rattle.fl_check.specs.declared.finding.RingName.TheVariants.{Index, Data, Var, Log}
use Rattle.fl_check.specs.declared.halt.Fault as halt
use Rattle.fl_rules.specs.declared.numbering.Numbering.{Numbering}
use Rattle.fl_rules.specs.declared.rule.Breach.{Breach}
use Rattle.fl_rules.specs.declared.rule.Rule.{Rule}
use Rattle.fl_rules.specs.declared.rule.Rule.TheVariants.{Entry, Blob}
use Rattle.fl_rules.specs.declared.tally.Tally.{Tally}
use Rattle.fl_check.specs.declared.table.TableNumbers.{TableNumbers}
use Rattle.fl_check.proofs.Decisions.{Decided, After, then_decided, then_claimed}
use Rattle.fl_check.proofs.OneBreach.{ring_decided}
use Rattle.fl_check.proofs.NumbersAreUnique.{fails_once}
use Rattle.fl_check.proofs.Wholes.{in_ring}

-- ---- the rings of a table

abbrev fault_at : RingName → ℕ → Rule → halt.Fault
fault_at ring page rule = record { ring = ring; page = page; rule = rule }

fault_same : (a b : halt.Fault) → a.ring ≡ b.ring → a.page ≡ b.page → a.rule ≡ b.rule → a ≡ b
fault_same a b ring page rule =
    ap (λ (n : RingName). fault_at n a.page a.rule) ring ∙ ap (λ (p : ℕ). fault_at b.ring p a.rule) page ∙ ap (λ (r : Rule). fault_at b.ring b.page r) rule

abbrev breach_of : halt.Fault → Breach
breach_of fault = record { rule = fault.rule; page = fault.page }

-- the rules of a ring with this name
named : {X : Type 0} (name : RingName) (P : X → Type 0) (Breaks : ℕ → Rule → Type 0) → Decided P (λ (b : Breach). Breaks b.page b.rule) → Decided P (λ (fault : halt.Fault). (fault.ring ≡ name) × Breaks fault.page fault.rule)
named name P Breaks d = record {
  one = d.one;
  first = λ a b h k. let same = d.first (breach_of a) (breach_of b) h.1 k.1 in
      fault_same a b (h.0 ∙ sym k.0) (ap (λ (x : Breach). x.page) same) (ap (λ (x : Breach). x.rule) same);
  either = λ x b h k. d.either x (breach_of b) h k.1;
}

-- of a ring that a table may not have
pub record BreaksAt (Breaks : RingPlace → halt.Fault → Type 0) (o : Option RingPlace) (fault : halt.Fault) : Type 0 where
  pub place : RingPlace
  pub is : o ≡ Some place
  pub breaks : Breaks place fault

of_decided : (Holds : RingPlace → Numbering → Type 0) (Breaks : RingPlace → halt.Fault → Type 0) → ((place : RingPlace) → Decided (Holds place) (Breaks place)) → (o : Option RingPlace)
    → Decided (λ (x : Option Numbering). OfRing Holds o x) (BreaksAt Breaks o)
of_decided Holds Breaks d o = record {
  one = one o;
  first = λ b c h k. (d k.place).first b c (subst (λ (place : RingPlace). Breaks place b) (same_Some h.place k.place (sym h.is ∙ k.is)) h.breaks) k.breaks;
  either = λ x b h k. either x b (subst (λ (p : Option RingPlace). OfRing Holds p x) k.is h) k.breaks;
}
  where
    one : (o : Option RingPlace) (x y : Option Numbering) → OfRing Holds o x → OfRing Holds o y → x ≡ y
    one None None None h k = refl
    one None None (Some n) h k = absurd k
    one None (Some n) y h k = absurd h
    one (Some place) None y h k = absurd h
    one (Some place) (Some n) None h k = absurd k
    one (Some place) (Some n) (Some i) h k = ap (λ (z : Numbering). Some z) ((d place).one n i h k)

    either : {place : RingPlace} (x : Option Numbering) (b : halt.Fault) → OfRing Holds (Some place) x → Breaks place b → ⊥
    either None b h k = h
    either {place} (Some n) b h k = (d place).either n b h k

module _ (config : TableConfig) (log : Option RingPlace) (page : ℕ → List ℕ) where
  abbrev IndexBreaks : RingPlace → halt.Fault → Type 0
  IndexBreaks place fault = (fault.ring ≡ Index) × BreaksRing (IsIndexForm config) NoRows page (shape_in config place) 0 fault.rule fault.page

  abbrev RowsBreak : Option Numbering → halt.Fault → Type 0
  RowsBreak index fault =
      (fault.ring ≡ Data) × BreaksRing (IsRowsForm config) (OverPages (layout_in config)) page (rows_shape config) (index_end config page index) fault.rule fault.page

  abbrev VarBreaks : Numbering → RingPlace → halt.Fault → Type 0
  VarBreaks rows place fault = (fault.ring ≡ Var) × BreaksRing IsVarForm NoRows page (shape_in config place) (tally_in config page rows).blob_end fault.rule fault.page

  abbrev Two : Type 0
  Two = Option Numbering × Numbering

  abbrev IndexSound : Option Numbering → Type 0
  IndexSound index = IsIndexSound config page index

  abbrev TwoSound : Two → Type 0
  TwoSound x = IsIndexSound config page x.0 × AreRowsSound config page x.0 x.1

  abbrev TwoBreak : halt.Fault → Type 0
  TwoBreak fault = BreaksAt IndexBreaks config.index fault ⊎ After IndexSound RowsBreak fault

  abbrev VarBreaksIn : Two → halt.Fault → Type 0
  VarBreaksIn x fault = BreaksAt (VarBreaks x.1) config.var fault

  abbrev Three : Type 0
  Three = Two × Option Numbering

  abbrev ThreeSound : Three → Type 0
  ThreeSound x = TwoSound x.0 × IsVarSound config page x.0.1 x.1

  abbrev ThreeBreak : halt.Fault → Type 0
  ThreeBreak fault = TwoBreak fault ⊎ After TwoSound VarBreaksIn fault

  abbrev LogBreaks : RingPlace → halt.Fault → Type 0
  LogBreaks place fault = (fault.ring ≡ Log) × BreaksRing (IsLogForm config) (WithinPages (layout_in config)) page (shape_in config place) 0 fault.rule fault.page

  abbrev LogBreaksIn : Three → halt.Fault → Type 0
  LogBreaksIn x fault = BreaksAt LogBreaks log fault

  abbrev RingsBreak : halt.Fault → Type 0
  RingsBreak fault = ThreeBreak fault ⊎ After ThreeSound LogBreaksIn fault

  index_decided : Decided IndexSound (BreaksAt IndexBreaks config.index)
  index_decided =
      of_decided (λ place n. IsRingSound (IsIndexForm config) NoRows page (shape_in config place) 0 n) IndexBreaks
      (λ place. named Index _ (λ p rule. BreaksRing (IsIndexForm config) NoRows page (shape_in config place) 0 rule p) (ring_decided (IsIndexForm config) NoRows page (shape_in config place) 0)) config.index

  two_decided : Decided TwoSound TwoBreak
  two_decided =
      then_decided IndexSound (BreaksAt IndexBreaks config.index) (λ (index : Option Numbering) (rows : Numbering). AreRowsSound config page index rows) RowsBreak TwoSound TwoBreak
      (λ (x : Two). x.0) (λ (x : Two). x.1) index_decided
      (λ index. named Data _ (λ p rule. BreaksRing (IsRowsForm config) (OverPages (layout_in config)) page (rows_shape config) (index_end config page index) rule p)
      (ring_decided (IsRowsForm config) (OverPages (layout_in config)) page (rows_shape config) (index_end config page index)))
      (λ x y index rows. ap (λ (i : Option Numbering). two i x.1) index ∙ ap (λ (n : Numbering). two y.0 n) rows) (λ x h. h) (λ b breaks. breaks)
    where
      two : Option Numbering → Numbering → Two
      two index rows = (index, rows)

  three_decided : Decided ThreeSound ThreeBreak
  three_decided =
      then_decided TwoSound TwoBreak (λ (x : Two) (var : Option Numbering). IsVarSound config page x.1 var) VarBreaksIn ThreeSound ThreeBreak
      (λ (x : Three). x.0) (λ (x : Three). x.1) two_decided
      (λ x. of_decided (λ place n. IsRingSound IsVarForm NoRows page (shape_in config place) (tally_in config page x.1).blob_end n) (VarBreaks x.1)
      (λ place. named Var _ (λ p rule. BreaksRing IsVarForm NoRows page (shape_in config place) (tally_in config page x.1).blob_end rule p)
      (ring_decided IsVarForm NoRows page (shape_in config place) (tally_in config page x.1).blob_end)) config.var)
      (λ x y two var. ap (λ (t : Two). three t x.1) two ∙ ap (λ (v : Option Numbering). three y.0 v) var) (λ x h. h) (λ b breaks. breaks)
    where
      three : Two → Option Numbering → Three
      three two var = (two, var)

  rings_decided : Decided (AreRingsSound config log page) RingsBreak
  rings_decided =
      then_decided ThreeSound ThreeBreak (λ (x : Three) (newest : Option Numbering). IsLogSound config log page newest) LogBreaksIn (AreRingsSound config log page) RingsBreak
      (λ (t : TableNumbers). ((t.index, t.rows), t.var)) (λ (t : TableNumbers). t.log) three_decided
      (λ x. of_decided (λ place n. IsRingSound (IsLogForm config) (WithinPages (layout_in config)) page (shape_in config place) 0 n) LogBreaks
      (λ place. named Log _ (λ p rule. BreaksRing (IsLogForm config) (WithinPages (layout_in config)) page (shape_in config place) 0 rule p)
      (ring_decided (IsLogForm config) (WithinPages (layout_in config)) page (shape_in config place) 0)) log)
      (λ t u three newest. ap (λ (x : Three). table_of x t.log) three ∙ ap (λ (v : Option Numbering). table_of ((u.index, u.rows), u.var) v) newest)
      (λ t h. (((h.index, h.rows), h.var), h.logged)) (λ b breaks. breaks)
    where
      table_of : Three → Option Numbering → TableNumbers
      table_of x newest = record { index = x.0.0; rows = x.0.1; var = x.1; log = newest }

  -- ---- the index

  pub record EntriesBreakIn (t : TableNumbers) (fault : halt.Fault) : Type 0 where
    pub place : RingPlace
    pub n : Numbering
    pub is : config.index ≡ Some place
    pub numbered : t.index ≡ Some n
    pub ring : fault.ring ≡ Index
    pub rule : fault.rule ≡ Entry
    pub breaks : EntriesBreak page (shape_in config place) (rows_shape config) (indexing config n t.rows) fault.page

  entries_once : (index rows : Shape) (l : IndexOver) (p q : ℕ) → EntriesBreak page index rows l p → EntriesBreak page index rows l q → p ≡ q
  entries_once index rows l p q a b = a.is ∙ ap (kept_page index l.index) (fails_once (HasEntries page index rows l) l.index.kept a.i b.i a.first b.first) ∙ sym b.is

  entries_decided : (t : TableNumbers) → Decided (λ (u : Unit {0}). AreEntriesSound config page t) (EntriesBreakIn t)
  entries_decided t = record {
    one = λ x y h k. refl;
    first = first;
    either = either;
  }
    where
      first : (b c : halt.Fault) → EntriesBreakIn t b → EntriesBreakIn t c → b ≡ c
      first b c h k =
          let moved = subst (λ (n : Numbering). EntriesBreak page (shape_in config k.place) (rows_shape config) (indexing config n t.rows) b.page) (same_Some h.n k.n (sym h.numbered ∙ k.numbered))
          (subst (λ (place : RingPlace). EntriesBreak page (shape_in config place) (rows_shape config) (indexing config h.n t.rows) b.page) (same_Some h.place k.place (sym h.is ∙ k.is)) h.breaks) in
          fault_same b c (h.ring ∙ sym k.ring) (entries_once (shape_in config k.place) (rows_shape config) (indexing config k.n t.rows) b.page c.page moved k.breaks) (h.rule ∙ sym k.rule)

      either : (u : Unit {0}) (b : halt.Fault) → AreEntriesSound config page t → EntriesBreakIn t b → ⊥
      either u b sound h =
          let have = in_ring (λ place n. HaveEntries page (shape_in config place) (rows_shape config) (indexing config n t.rows)) config.index t.index h.place h.n h.is h.numbered sound in
          h.breaks.first.here (have h.breaks.i h.breaks.first.within)

  -- ---- the references

  pub record ReferencesBreakIn (t : TableNumbers) (fault : halt.Fault) : Type 0 where
    pub place : RingPlace
    pub n : Numbering
    pub is : config.var ≡ Some place
    pub numbered : t.var ≡ Some n
    pub ring : fault.ring ≡ Data
    pub rule : fault.rule ≡ Blob
    pub breaks : ReferencesBreak (layout_in config) page (rows_shape config) t.rows.marks (shape_in config place) n fault.page

  references_once : (t : TableNumbers) (var : Shape) (n : Numbering) (p q : ℕ) → ReferencesBreak (layout_in config) page (rows_shape config) t.rows.marks var n p
      → ReferencesBreak (layout_in config) page (rows_shape config) t.rows.marks var n q → p ≡ q
  references_once t var n p q a b =
      a.is ∙ ap (kept_page (rows_shape config) t.rows.marks) (fails_once (PageLeads (layout_in config) page (rows_shape config) t.rows.marks var n) t.rows.marks.kept a.i b.i a.first b.first) ∙ sym b.is

  references_decided : (t : TableNumbers) → Decided (λ (u : Unit {0}). AreReferencesSound config page t) (ReferencesBreakIn t)
  references_decided t = record {
    one = λ x y h k. refl;
    first = first;
    either = either;
  }
    where
      first : (b c : halt.Fault) → ReferencesBreakIn t b → ReferencesBreakIn t c → b ≡ c
      first b c h k =
          let moved = subst (λ (n : Numbering). ReferencesBreak (layout_in config) page (rows_shape config) t.rows.marks (shape_in config k.place) n b.page) (same_Some h.n k.n (sym h.numbered ∙ k.numbered))
          (subst (λ (place : RingPlace). ReferencesBreak (layout_in config) page (rows_shape config) t.rows.marks (shape_in config place) h.n b.page) (same_Some h.place k.place (sym h.is ∙ k.is)) h.breaks) in
          fault_same b c (h.ring ∙ sym k.ring) (references_once t (shape_in config k.place) k.n b.page c.page moved k.breaks) (h.rule ∙ sym k.rule)

      either : (u : Unit {0}) (b : halt.Fault) → AreReferencesSound config page t → ReferencesBreakIn t b → ⊥
      either u b sound h =
          let have = in_ring (λ place n. AllBelow (PageLeads (layout_in config) page (rows_shape config) t.rows.marks (shape_in config place) n) t.rows.marks.kept) config.var t.var h.place h.n h.is h.numbered sound in
          h.breaks.first.here (have h.breaks.i h.breaks.first.within)

  -- ---- all rules

  abbrev EntriesSound : TableNumbers → Type 0
  EntriesSound t = AreRingsSound config log page t × AreEntriesSound config page t

  abbrev UpToEntries : halt.Fault → Type 0
  UpToEntries fault = RingsBreak fault ⊎ After (AreRingsSound config log page) EntriesBreakIn fault

  indexed_decided : Decided EntriesSound UpToEntries
  indexed_decided = then_claimed (AreRingsSound config log page) RingsBreak (AreEntriesSound config page) EntriesBreakIn EntriesSound UpToEntries rings_decided entries_decided (λ t h. h) (λ b breaks. breaks)

  by_name : (ring : RingName) (p : ℕ) (rule : Rule) → IsFirstFault config log page ring p rule → UpToEntries (fault_at ring p rule) ⊎ After EntriesSound ReferencesBreakIn (fault_at ring p rule)
  by_name Index p rule (inl own) = inl (inl (inl (inl (inl (record { place = own.place; is = own.is; breaks = (refl, own.breaks) })))))
  by_name Index p rule (inr both) =
      inl (inr (record { x = both.1.t; passes = both.1.rings; breaks = record { place = both.1.place; n = both.1.n; is = both.1.is; numbered = both.1.numbered; ring = refl; rule = both.0; breaks = both.1.breaks } }))
  by_name Data p rule (inl own) = inl (inl (inl (inl (inr (record { x = own.index; passes = own.index_sound; breaks = (refl, own.breaks) })))))
  by_name Data p rule (inr both) =
      inr (record { x = both.1.t; passes = (both.1.rings, both.1.entries); breaks = record { place = both.1.place; n = both.1.n; is = both.1.is; numbered = both.1.numbered; ring = refl; rule = both.0; breaks = both.1.breaks } })
  by_name Var p rule own =
      inl (inl (inl (inr (record { x = (own.index, own.rows); passes = (own.index_sound, own.rows_sound); breaks = record { place = own.breaks.place; is = own.breaks.is; breaks = (refl, own.breaks.breaks) } }))))
  by_name Log p rule own =
      inl (inl (inr (record {
        x = ((own.index, own.rows), own.var);
        passes = ((own.index_sound, own.rows_sound), own.var_sound);
        breaks = record { place = own.breaks.place; is = own.breaks.is; breaks = (refl, own.breaks.breaks) };
      })))

  pub table_decided : Decided (IsSound config log page) (λ (fault : halt.Fault). IsFirstFault config log page fault.ring fault.page fault.rule)
  table_decided =
      then_claimed EntriesSound UpToEntries (AreReferencesSound config page) ReferencesBreakIn (IsSound config log page) (λ (fault : halt.Fault). IsFirstFault config log page fault.ring fault.page fault.rule) indexed_decided
      references_decided (λ t sound. ((sound.rings, sound.entries), sound.references)) (λ b breaks. by_name b.ring b.page b.rule breaks)

  -- ---- what is found

  pub one_finding : (a b : Finding) → IsFinding config log page a → IsFinding config log page b → a ≡ b
  one_finding (Sound rows pages voids) (Sound rows' pages' voids') h k =
      let same = table_decided.one h.1.t k.1.t h.1.sound k.1.sound in
      let tally = h.1.tally_is ∙ ap (λ (t : TableNumbers). tally_in config page t.rows) same ∙ sym k.1.tally_is in
      let kept : pages ≡ pages' = h.1.kept_is ∙ ap (λ (t : TableNumbers). t.rows.marks.kept) same ∙ sym k.1.kept_is in
      ap (λ (n : ℕ). Sound n pages voids) (ap (λ (x : Tally). x.rows) tally) ∙ ap (λ (n : ℕ). Sound rows' n voids) kept ∙ ap (λ (n : ℕ). Sound rows' pages' n) (ap (λ (x : Tally). x.voids) tally)
  one_finding (Sound rows pages voids) (Fault ring p rule) h k = absurd (table_decided.either h.1.t (fault_at ring p rule) h.1.sound k)
  one_finding (Fault ring p rule) (Sound rows pages voids) h k = absurd (table_decided.either k.1.t (fault_at ring p rule) k.1.sound h)
  one_finding (Fault ring p rule) (Fault ring' p' rule') h k =
      let same = table_decided.first (fault_at ring p rule) (fault_at ring' p' rule') h k in
      ap (λ (n : RingName). Fault n p rule) (ap (λ (x : halt.Fault). x.ring) same) ∙ ap (λ (n : ℕ). Fault ring' n rule) (ap (λ (x : halt.Fault). x.page) same) ∙ ap (λ (n : Rule). Fault ring' p' n) (ap (λ (x : halt.Fault). x.rule) same)
