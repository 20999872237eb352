-- The rows and the void pages of a ring as a check tallies them, and as its state has them.
use Rattle.std.proofs.Common.{◌≡◌, ℕ, suc, ◌+◌, ◌<◌, ◌++◌, Option, Some, None, IfSome, List, [], ◌∷◌, length, map, sum, get_or, sym, ◌∙◌, ap, subst, arith}
use Rattle.std.specs.List.{flat_map}
use Rattle.std.proofs.lemmas.Bool.{cond-true, cond-false}
use Rattle.std.proofs.lemmas.List.Sums.{sum_by-cons}
use Rattle.fl_mark.specs.Mark.{state_of_page}
use Rattle.fl_model.specs.Record.{RowLayout}
use Rattle.fl_model.specs.Row.{Row}
use Rattle.fl_model.specs.Table.{full_pages}
use Rattle.fl_model.proofs.FullPages.{full-cons, full-one, full-void}
use Rattle.fl_model.specs.BlobEnds.{blobs_end}
use Rattle.fl_model.proofs.BlobEnds.{ends-append}
use Rattle.fl_page.specs.Page.{rows_in}
use Rattle.fl_ring.specs.Counts.{page_count}
use Rattle.fl_ring.specs.Newest.{commits}
use Rattle.fl_ring.specs.Ring.{Shape}
use Rattle.fl_rules.specs.Marks.{kept_page}
use Rattle.fl_rules.specs.Tally.{tally_of}
use Rattle.fl_rules.specs.declared.marks.Marks.{Marks}
use Rattle.fl_rules.specs.declared.tally.Tally.{Tally}
use Rattle.fl_check.proofs.AscendingPages.{HasRowsOf}

module _ (layout : RowLayout) (rows_of : Option (List ℕ) → List Row) (count_of : List ℕ → ℕ) (same : (body : List ℕ) → count_of body ≡ length (rows_of (Some body))) (page : ℕ → List ℕ) (r : Shape) (m : Marks) where
  abbrev tally : ℕ → Tally
  tally k = tally_of layout page r m k

  abbrev counts : List (Option (List ℕ)) → List ℕ
  counts kept = map (page_count count_of) kept

  -- so many more rows and void pages are told behind some pages, and the end of their blobs
  pub record IsTallied (kept : List (Option (List ℕ))) (k : ℕ) : Type 0 where
    pub rows : (tally_of layout page r m (k + length kept)).rows ≡ (tally_of layout page r m k).rows + sum (map (page_count count_of) kept)
    pub voids : (tally_of layout page r m (k + length kept)).voids + full_pages (map (page_count count_of) kept) ≡ (tally_of layout page r m k).voids + length kept
    pub ends : (tally_of layout page r m (k + length kept)).blob_end ≡ blobs_end (tally_of layout page r m k).blob_end (flat_map rows_of kept)

  pub tallied : (kept : List (Option (List ℕ))) (k : ℕ) → ((i : ℕ) → i < length kept → HasRowsOf layout rows_of (page (kept_page r m (k + i))) (get_or kept i None) × IfSome (get_or kept i None) (λ body. 0 < count_of body)) → IsTallied kept k
  tallied [] k has = record {
    rows = ap (λ (n : ℕ). (tally n).rows) (let e : k + 0 ≡ k = omega arith in e) ∙ omega arith;
    voids = ap (λ (n : ℕ). (tally n).voids + 0) (let e : k + 0 ≡ k = omega arith in e);
    ends = ap (λ (n : ℕ). (tally n).blob_end) (let e : k + 0 ≡ k = omega arith in e);
  }
  tallied (x ∷ kept) k has =
      let rest : IsTallied kept (suc k) = tallied kept (suc k) (λ i lt. subst (λ (j : ℕ). HasRowsOf layout rows_of (page (kept_page r m j)) (get_or kept i None) × IfSome (get_or kept i None) (λ body. 0 < count_of body)) (let e : k + suc i ≡ suc k + i = omega arith in e) (has (suc i) (omega (arith, lt)))) in
      by_page x (subst (λ (j : ℕ). HasRowsOf layout rows_of (page (kept_page r m j)) x × IfSome x (λ body. 0 < count_of body)) (let e : k + 0 ≡ k = omega arith in e) (has 0 (omega arith))) rest
    where
      behind : k + suc (length kept) ≡ suc k + length kept
      behind = omega arith

      by_page : (x : Option (List ℕ)) → HasRowsOf layout rows_of (page (kept_page r m k)) x × IfSome x (λ body. 0 < count_of body) → IsTallied kept (suc k) → IsTallied (x ∷ kept) k
      by_page None here rest =
          let told : tally (suc k) ≡ record (tally k) { voids = (tally k).voids + 1 } =
          cond-false (commits (state_of_page (page (kept_page r m k)))) (record { rows = (tally k).rows + length (rows_in layout (page (kept_page r m k))); voids = (tally k).voids; blob_end = blobs_end (tally k).blob_end (rows_in layout (page (kept_page r m k))) })
          (record (tally k) { voids = (tally k).voids + 1 }) here.0.0 in
          record {
            rows = ap (λ (n : ℕ). (tally n).rows) behind ∙ rest.rows ∙ ap (λ (t : Tally). t.rows + sum (counts kept)) told ∙ ap (λ (n : ℕ). (tally k).rows + n) (sym (sum_by-cons (λ (n : ℕ). n) 0 (counts kept) ∙ omega arith));
            voids =
                ap (λ (n : ℕ). (tally n).voids + full_pages (0 ∷ counts kept)) behind
                ∙ omega (arith, full-cons 0 (counts kept), full-void 0 (omega arith), rest.voids, ap (λ (t : Tally). t.voids) told);
            ends =
                ap (λ (n : ℕ). (tally n).blob_end) behind ∙ rest.ends ∙ ap (λ (t : Tally). blobs_end t.blob_end (flat_map rows_of kept)) told
                ∙ ap (λ (l : List Row). blobs_end (tally k).blob_end (l ++ flat_map rows_of kept)) (sym here.0.1);
          }
      by_page (Some body) here rest =
          let told : tally (suc k) ≡ record { rows = (tally k).rows + length (rows_in layout (page (kept_page r m k))); voids = (tally k).voids; blob_end = blobs_end (tally k).blob_end (rows_in layout (page (kept_page r m k))) } =
          cond-true (commits (state_of_page (page (kept_page r m k)))) (record { rows = (tally k).rows + length (rows_in layout (page (kept_page r m k))); voids = (tally k).voids; blob_end = blobs_end (tally k).blob_end (rows_in layout (page (kept_page r m k))) })
          (record (tally k) { voids = (tally k).voids + 1 }) here.0.0 in
          let many : length (rows_in layout (page (kept_page r m k))) ≡ count_of body = ap (λ (l : List Row). length l) here.0.1 ∙ sym (same body) in
          record {
            rows =
                ap (λ (n : ℕ). (tally n).rows) behind ∙ rest.rows ∙ ap (λ (t : Tally). t.rows + sum (counts kept)) told
                ∙ omega (arith, many, sum_by-cons (λ (n : ℕ). n) (count_of body) (counts kept));
            voids =
                ap (λ (n : ℕ). (tally n).voids + full_pages (count_of body ∷ counts kept)) behind
                ∙ omega (arith, full-cons (count_of body) (counts kept), full-one (count_of body) here.1, rest.voids, ap (λ (t : Tally). t.voids) told);
            ends =
                ap (λ (n : ℕ). (tally n).blob_end) behind ∙ rest.ends ∙ ap (λ (t : Tally). blobs_end t.blob_end (flat_map rows_of kept)) told
                ∙ ap (λ (l : List Row). blobs_end (blobs_end (tally k).blob_end l) (flat_map rows_of kept)) here.0.1
                ∙ sym (ends-append (tally k).blob_end (rows_of (Some body)) (flat_map rows_of kept));
          }
