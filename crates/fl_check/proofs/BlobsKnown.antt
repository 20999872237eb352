-- What is known of the references of a table's rows.
use Rattle.std.proofs.Common.{◌≡◌, ℕ, MatchOption, Option, Some, None, IfNone, IfSome, List, IsTrue, sym, subst}
use Rattle.fl_base.specs.declared.types.RingPlace.{RingPlace}
use Rattle.fl_flash.specs.Flash.{FlashState, page_at}
use Rattle.fl_model.specs.Record.{RowLayout}
use Rattle.fl_plan.specs.declared.table_config.TableConfig.{TableConfig}
use Rattle.fl_ring.specs.Ring.{Shape}
use Rattle.fl_rules.specs.Claims.{AllBelow}
use Rattle.fl_rules.specs.ContentPage.{IsContentPage}
use Rattle.fl_frame.specs.Reads.{OnlyLooks}
use Rattle.fl_rules.specs.Reaches.{AreReaches, HasContent, AreMeasured}
use Rattle.fl_rules.specs.References.{HasKeptRows, PageLeads, ReferencesBreak}
use Rattle.fl_rules.specs.Rising.{HaveRows}
use Rattle.fl_rules.specs.RingRules.{NoRows, IsRingSound}
use Rattle.fl_check.specs.Whole.{Fits, shape_in, rows_shape, layout_in, index_end, tally_in, AreRingsSound, AreEntriesSound, AreReferencesSound, IsFirstFault}
use Rattle.fl_check.specs.declared.finding.RingName.TheVariants.{Data}
use Rattle.fl_check.specs.declared.halt.Fault.{Fault}
use Rattle.fl_rules.specs.declared.marks.Marks.{Marks}
use Rattle.fl_rules.specs.declared.numbering.Numbering.{Numbering}
use Rattle.fl_rules.specs.declared.rule.Rule.TheVariants.{Blob}
use Rattle.fl_check.specs.declared.table.TableNumbers.{TableNumbers}
use Rattle.fl_frame.proofs.ReadsInTurn.{looks_pages}
use Rattle.fl_rules.proofs.LooksChangeNothing.{told_still}
use Rattle.fl_check.proofs.RingsKnown.{sound_rows, sound_content}
use Rattle.fl_check.proofs.RulesTold.{told_of}
use Rattle.fl_check.proofs.Wholes.{of_ring, in_ring, references_fault}

-- ---- of any pages that have rows and content

-- what a look for a misleading reference answers
module _ (rows : Marks) (var : Numbering) (broken : Option ℕ) where
  abbrev pub MisledTold : RowLayout → (ℕ → List ℕ) → Shape → Shape → Type 0
  MisledTold layout page d r =
      HaveRows layout page d rows → AllBelow (HasContent page r var.marks.at) var.marks.kept
      → MatchOption broken (AllBelow (PageLeads layout page d rows r var) rows.kept) (λ p. ReferencesBreak layout page d rows r var p)

  pub misled_told : (config : TableConfig) (f mid : FlashState) (place : RingPlace) (layout : RowLayout) (d r : Shape) (listed : List ℕ) → OnlyLooks f mid → layout ≡ layout_in config → d ≡ rows_shape config
      → r ≡ shape_in config place → (IsTrue f.media.tells → AreReaches (page_at f) r var.marks.at var.marks.kept listed)
      → (IsTrue mid.media.tells → AllBelow (HasKeptRows layout (page_at mid) d rows) rows.kept → AreMeasured (page_at mid) r var.marks.at var.marks.kept listed
      → IfNone broken (AllBelow (PageLeads layout (page_at mid) d rows r var) rows.kept))
      → (IsTrue mid.media.tells → AllBelow (HasKeptRows layout (page_at mid) d rows) rows.kept → AreMeasured (page_at mid) r var.marks.at var.marks.kept listed
      → IfSome broken (ReferencesBreak layout (page_at mid) d rows r var))
      → IsTrue f.media.tells → MisledTold (layout_in config) (page_at f) (rows_shape config) (shape_in config place)
  misled_told config f mid place layout d r listed looks layout_is d_is r_is reaches none some told =
      let late = told_still f mid looks told in
      let reached = subst (λ (page : ℕ → List ℕ). AreReaches page r var.marks.at var.marks.kept listed) (sym (looks_pages f mid looks)) (reaches told) in
      let here : MisledTold layout (page_at mid) d r = λ have content. told_of broken _ (λ p. ReferencesBreak layout (page_at mid) d rows r var p)
      (none late have (record { reaches = reached; content = content })) (some late have (record { reaches = reached; content = content })) in
      subst (λ (x : Shape). MisledTold (layout_in config) (page_at f) (rows_shape config) x) r_is
      (subst (λ (x : Shape). MisledTold (layout_in config) (page_at f) x r) d_is
      (subst (λ (x : RowLayout). MisledTold x (page_at f) d r) layout_is
      (subst (λ (page : ℕ → List ℕ). MisledTold layout page d r) (looks_pages f mid looks) here)))

-- ---- where the rings are sound

module _ (config : TableConfig) (log : Option RingPlace) (f : FlashState) (t : TableNumbers) (fits : Fits config f) (place : RingPlace) (n : Numbering) (place_is : config.var ≡ Some place) (n_is : t.var ≡ Some n)
    (rings : AreRingsSound config log (page_at f) t) (broken : Option ℕ) (told : MisledTold t.rows.marks n broken (layout_in config) (page_at f) (rows_shape config) (shape_in config place)) where
  leads : MatchOption broken (AllBelow (PageLeads (layout_in config) (page_at f) (rows_shape config) t.rows.marks (shape_in config place) n) t.rows.marks.kept)
      (λ p. ReferencesBreak (layout_in config) (page_at f) (rows_shape config) t.rows.marks (shape_in config place) n p)
  leads =
      told (sound_rows config f (index_end config (page_at f) t.index) t.rows fits rings.rows)
      (sound_content config f place (tally_in config (page_at f) t.rows).blob_end n fits
      (in_ring (λ place n. IsRingSound (λ number bytes. IsContentPage number bytes) NoRows (page_at f) (shape_in config place) (tally_in config (page_at f) t.rows).blob_end n) config.var t.var place n place_is n_is rings.var))

  -- no page was found
  pub all_lead : broken ≡ None → AreReferencesSound config (page_at f) t
  all_lead is =
      of_ring (λ place n. AllBelow (PageLeads (layout_in config) (page_at f) (rows_shape config) t.rows.marks (shape_in config place) n) t.rows.marks.kept) config.var t.var place n place_is n_is
      (subst (λ (x : Option ℕ). MatchOption x (AllBelow (PageLeads (layout_in config) (page_at f) (rows_shape config) t.rows.marks (shape_in config place) n) t.rows.marks.kept)
      (λ p. ReferencesBreak (layout_in config) (page_at f) (rows_shape config) t.rows.marks (shape_in config place) n p)) is leads)

  -- .. or this one was
  pub one_misleads : (fault : Fault) → broken ≡ Some fault.page → fault.ring ≡ Data → fault.rule ≡ Blob → AreEntriesSound config (page_at f) t
      → IsFirstFault config log (page_at f) fault.ring fault.page fault.rule
  one_misleads fault is ring rule entries =
      references_fault config log (page_at f) t rings place n fault entries place_is n_is ring rule
      (subst (λ (x : Option ℕ). MatchOption x (AllBelow (PageLeads (layout_in config) (page_at f) (rows_shape config) t.rows.marks (shape_in config place) n) t.rows.marks.kept)
      (λ p. ReferencesBreak (layout_in config) (page_at f) (rows_shape config) t.rows.marks (shape_in config place) n p)) is leads)
