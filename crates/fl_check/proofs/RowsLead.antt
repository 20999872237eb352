-- The references of rows, one after another.
use Rattle.std.proofs.Common.{◌≡◌, ℕ, ◌+◌, ◌<◌, Bool, true, Option, Some, None, IfSome, Result, Ok, Err, MatchResult, List, length, drop, slice_get, inl, inr, sym, ◌∙◌, ap, subst, arith}
use Rattle.std.proofs.lemmas.Bool.{cases_eq}
use Rattle.fl_base.specs.declared.types.BlobRef.{BlobRef}
use Rattle.fl_mark.specs.Mark.{state_of_page}
use Rattle.fl_mark.specs.declared.page_state.PageState.{PageState}
use Rattle.fl_model.specs.Record.{RowLayout}
use Rattle.fl_model.specs.Row.{Row}
use Rattle.fl_page.specs.Header.{page_number, page_count}
use Rattle.fl_page.specs.Page.{IsGoodPage, bad_page, rows_from, rows_in}
use Rattle.fl_page.specs.View.{page_of, layout_of_page, count_of, rows_of}
use Rattle.fl_page.specs.declared.fault.BadPage.{BadPage}
use Rattle.fl_page.specs.declared.view.PageView.{PageView}
use Rattle.fl_ring.specs.Newest.{commits}
use Rattle.fl_ring.specs.Ring.{Shape}
use Rattle.fl_rules.specs.Claims.{AllBelow}
use Rattle.fl_rules.specs.Marks.{kept_page}
use Rattle.fl_rules.specs.References.{Leads, BlobLeads, RowLeads, RowsLead, HasKeptRows, PageLeads, ReferencesBreak}
use Rattle.fl_rules.specs.declared.marks.Marks.{Marks}
use Rattle.fl_rules.specs.declared.numbering.Numbering.{Numbering}

-- what the view of a page says
abbrev pub IsViewed : {COLS : ℕ} → RowLayout → ℕ → List ℕ → PageView COLS → Type 0
IsViewed layout number bytes view = (page_of view ≡ bytes) × (layout_of_page view ≡ layout) × (count_of view ≡ page_count bytes) × IsGoodPage layout number bytes

abbrev pub IsRefused : RowLayout → ℕ → List ℕ → BadPage → Type 0
IsRefused layout number bytes bad = (bad ≡ bad_page number bytes) × (IsGoodPage layout number bytes → ⊥)

pub viewed : {COLS : ℕ} (layout : RowLayout) (number : ℕ) (bytes : List ℕ) (result : Result (PageView COLS) BadPage) (view : PageView COLS) → result ≡ Ok view
    → MatchResult result (IsViewed layout number bytes) (IsRefused layout number bytes) → IsViewed layout number bytes view
viewed {COLS} layout number bytes result view e is = subst (λ (x : Result (PageView COLS) BadPage). MatchResult x (IsViewed layout number bytes) (IsRefused layout number bytes)) e is

pub refused : {COLS : ℕ} (layout : RowLayout) (number : ℕ) (bytes : List ℕ) (result : Result (PageView COLS) BadPage) (bad : BadPage) → result ≡ Err bad
    → MatchResult result (IsViewed layout number bytes) (IsRefused layout number bytes) → IsRefused layout number bytes bad
refused {COLS} layout number bytes result bad e is = subst (λ (x : Result (PageView COLS) BadPage). MatchResult x (IsViewed layout number bytes) (IsRefused layout number bytes)) e is

-- a view has the rows of its bytes
pub view_rows : {COLS : ℕ} (view : PageView COLS) (layout : RowLayout) (bytes : List ℕ) → page_of view ≡ bytes → layout_of_page view ≡ layout → count_of view ≡ page_count bytes → rows_of view ≡ rows_in layout bytes
view_rows view layout bytes page kind count =
    ap (λ (n : ℕ). rows_from n (layout_of_page view) (drop 16 (page_of view))) count
    ∙ ap (λ (l : RowLayout). rows_from (page_count bytes) l (drop 16 (page_of view))) kind
    ∙ ap (λ (b : List ℕ). rows_from (page_count bytes) layout (drop 16 b)) page

module _ (page : ℕ → List ℕ) (r : Shape) (n : Numbering) (blob : Option BlobRef) where
  pub lead_none : blob ≡ None → BlobLeads page r n blob
  lead_none e = subst (λ (o : Option BlobRef). BlobLeads page r n o) (sym e) tt

  pub lead_empty : (at : BlobRef) → blob ≡ Some at → at.length ≡ 0 → BlobLeads page r n blob
  lead_empty at e empty = subst (λ (o : Option BlobRef). BlobLeads page r n o) (sym e) (λ some. absurd (omega (arith, some, empty)))

  pub lead_some : (at : BlobRef) → blob ≡ Some at → Leads page r n at → BlobLeads page r n blob
  lead_some at e leads = subst (λ (o : Option BlobRef). BlobLeads page r n o) (sym e) (λ _. leads)

  pub lead_not : (at : BlobRef) → blob ≡ Some at → 0 < at.length → (Leads page r n at → ⊥) → BlobLeads page r n blob → ⊥
  lead_not at e some refuted all = refuted (subst (λ (o : Option BlobRef). BlobLeads page r n o) e all some)

-- the blob of one row was followed
module _ (page : ℕ → List ℕ) (r : Shape) (n : Numbering) (rows : List Row) (i : ℕ) (row : Row) (row_is : slice_get rows i ≡ Some row) (blob : Option BlobRef) (blob_is : blob ≡ row.blob) where
  pub row_not : i < length rows → (BlobLeads page r n blob → ⊥) → RowsLead page r n rows → ⊥
  row_not lt refuted all = refuted (subst (λ (o : Option BlobRef). BlobLeads page r n o) (sym blob_is) (all i lt row row_is))

  pub row_next : BlobLeads page r n blob → AllBelow (RowLeads page r n rows) i → AllBelow (RowLeads page r n rows) (i + 1)
  row_next there before j lt other other_is = elim (cases_eq j i) [
    | inl same ↦
        let both : Some row ≡ Some other = sym row_is ∙ ap (slice_get rows) (sym same) ∙ other_is in
        subst (λ (o : Option Row). IfSome o (λ x. BlobLeads page r n x.blob)) both (subst (λ (o : Option BlobRef). BlobLeads page r n o) blob_is there)
    | inr apart ↦ before j (omega (arith, apart, lt)) other other_is
  ]

-- the i-th kept data page was read
module _ (page : ℕ → List ℕ) (layout : RowLayout) (d : Shape) (m : Marks) (r : Shape) (n : Numbering) (i : ℕ) (lt : i < m.kept) (bytes : List ℕ) (bytes_are : bytes ≡ page (kept_page d m i)) where
  pub page_not : (place : ℕ) → place ≡ kept_page d m i → commits (state_of_page bytes) ≡ true → (RowsLead page r n (rows_in layout bytes) → ⊥) → AllBelow (PageLeads layout page d m r n) i
      → ReferencesBreak layout page d m r n place
  page_not place place_is committed refuted before = record {
    i = i;
    first = record {
      within = lt;
      before = before;
      here = λ all. refuted (subst (λ (l : List ℕ). commits (state_of_page l) ≡ true → RowsLead page r n (rows_in layout l)) (sym bytes_are) all committed);
    };
    is = place_is;
  }

  pub page_next : (commits (state_of_page bytes) ≡ true → IsGoodPage layout (page_number bytes) bytes → RowsLead page r n (rows_in layout bytes)) → AllBelow (HasKeptRows layout page d m) m.kept
      → AllBelow (PageLeads layout page d m r n) i → AllBelow (PageLeads layout page d m r n) (i + 1)
  page_next there forms before j le = elim (cases_eq j i) [
    | inl same ↦
        subst (λ (x : ℕ). PageLeads layout page d m r n x) (sym same) (λ committed.
        subst (λ (l : List ℕ). commits (state_of_page l) ≡ true → IsGoodPage layout (page_number l) l → RowsLead page r n (rows_in layout l)) bytes_are there committed (forms i lt committed))
    | inr apart ↦ before j (omega (arith, apart, le))
  ]

-- whether it is committed
pub committed_as : (bytes page : List ℕ) (s : PageState) (b : Bool) → bytes ≡ page → s ≡ state_of_page page → b ≡ commits s → commits (state_of_page bytes) ≡ b
committed_as bytes page s b same state_is is = ap commits (ap state_of_page same ∙ sym state_is) ∙ sym is
