-- All data pages came, and the one that waits is the newest with rows: it is read.
use Rattle.std.proofs.Common.{◌≡◌, ℕ, suc, ◌+◌, ◌-◌, ◌%◌, ◌≤◌, true, max, Option, Some, None, List, [], ◌∷◌, ◌++◌, length, sym, ◌∙◌, ap, subst, arith}
use Rattle.std.specs.Prelude.{cond, unwrap_or, slice_set}
use Rattle.fl_base.proofs.Tests.{not_zero}
use Rattle.fl_find.specs.Index.{IndexOf}
use Rattle.fl_find.specs.Pages.{first_key, rows_on}
use Rattle.fl_find.specs.declared.index.KeyIndex.{KeyIndex}
use Rattle.fl_model.specs.Layout.{Full}
use Rattle.fl_model.specs.Record.{RowLayout}
use Rattle.fl_model.specs.BlobEnds.{blobs_end}
use Rattle.fl_page.specs.declared.fault.BadPage.{BadPage as Refusal}
use Rattle.fl_spline.specs.Points.{IsFurther}
use Rattle.fl_parts.specs.ByEntries.{Come, entry, by_rows, by_page, facts_on, no_rows, points_of, read_fault, mount_fault, page_check}
use Rattle.fl_parts.specs.Knowing.{KnowsBy, KnowsAside, KnowsWith, counted_to}
use Rattle.fl_parts.specs.Reading.{last_in}
use Rattle.fl_parts.specs.declared.mount_fault.MountFault.{MountFault}
use Rattle.fl_parts.specs.declared.mount_fault.MountFault.TheVariants.{BadPage}
use Rattle.fl_parts.specs.declared.known.Known.{Known}
use Rattle.fl_parts.specs.declared.known.Listed.{Listed}
use Rattle.fl_parts.proofs.NextPage.{void-run}
use Rattle.fl_parts.proofs.PointsKnown.{further-known}
use Rattle.fl_parts.proofs.WaitingPageComes.{knows-aside, points-aside}
use Rattle.fl_parts.proofs.Steps.{newest-read, newest-check, newest-refused, fault-refused, newest-all}
use Rattle.fl_parts.proofs.Unlisted.{first-some, last-some}

module _ {KNOTS SLOTS : ℕ} (error : ℕ) (t : Come) (known : Known) (counts : List ℕ) (index : KeyIndex KNOTS SLOTS) (h : KnowsWith error t t.index_pages t.pages known counts index)
    (listed : Listed) (e : known.newest ≡ Some listed) (layout : RowLayout) (bytes : List ℕ) (layout_is : t.layout ≡ layout) (bytes_are : t.rows listed.number ≡ bytes) where
  abbrev waits : KnowsAside t t.index_pages t.pages listed known counts
  waits = knows-aside error t t.index_pages t.pages known counts index h listed e

  check-here : page_check t waits.m ≡ read_fault layout listed.number bytes true known.last
  check-here =
      newest-check t known counts listed waits
      ∙ (ap (λ (l : RowLayout). read_fault l listed.number (t.rows listed.number) true known.last) layout_is ∙ ap (λ (b : List ℕ). read_fault layout listed.number b true known.last) bytes_are)

  rows-here : rows_on t.layout (t.rows listed.number) ≡ rows_on layout bytes
  rows-here = ap (λ (l : RowLayout). rows_on l (t.rows listed.number)) layout_is ∙ ap (rows_on layout) bytes_are

  pub found-refused : (fault : MountFault) → read_fault layout listed.number bytes true known.last ≡ Some fault → mount_fault t ≡ Some fault
  found-refused fault is = newest-refused t known counts listed waits fault (check-here ∙ is)

  pub found-blamed : (bad : Refusal) → read_fault layout listed.number bytes true known.last ≡ None → known.fault ≡ Some bad → mount_fault t ≡ Some (BadPage bad)
  found-blamed bad fine is = fault-refused t known counts listed waits bad (check-here ∙ fine) is

  pub found-all : (now : Known) (new : KeyIndex KNOTS SLOTS) (key rows last end : ℕ) → read_fault layout listed.number bytes true known.last ≡ None → known.fault ≡ None → t.pages ≤ length counts → first_key (rows_on layout bytes) ≡ Some key →
      rows ≡ length (rows_on layout bytes) → last ≡ unwrap_or (last_in known.last (rows_on layout bytes)) key → end ≡ blobs_end 0 (rows_on layout bytes) →
      now ≡ record known { rows = known.rows + rows; last = Some last; blob_end = max known.blob_end end; newest = None } →
      ((error : ℕ) (points : List (ℕ × ℕ)) → IndexOf error points index → IsFurther points (key, listed.number) → IndexOf error (points ++ (key, listed.number) ∷ []) new) →
      KnowsWith error t t.index_pages t.pages now (slice_set counts (listed.number % length counts) rows) new
  found-all now new key rows last end fine none fits first many last_is end_is is add =
      let a = waits in
      let some = first-some (rows_on layout bytes) key first in
      let all = newest-all t known counts listed a rows now (check-here ∙ fine) none (many ∙ sym (ap length rows-here)) (omega (arith, many, some)) fits (ap (λ (x : Known). x.rows) is) (ap (λ (x : Known). x.voids) is)
      (ap (λ (x : Known). x.last) is ∙ (ap (λ (l : ℕ). Some l) last_is ∙ (last-some (rows_on layout bytes) known.last key key first ∙ ap (last_in known.last) (sym rows-here))))
      (ap (λ (x : Known). x.blob_end) is ∙ ap (max known.blob_end) (end_is ∙ sym (ap (blobs_end 0) rows-here))) (ap (λ (x : Known). x.fault) is ∙ none) in
      let newest : now.newest ≡ None = ap (λ (x : Known). x.newest) is in
      let facts : facts_on t (t.oldest + a.m) ≡ by_rows (rows_on layout bytes) =
      ap (λ b. cond b (by_page t (t.oldest + a.m)) (unwrap_or (entry t (t.oldest + a.m)) no_rows)) (newest-read t known counts listed a) ∙ (ap (by_page t) (sym a.number_is) ∙ ap by_rows rows-here) in
      let first_is : (facts_on t (t.oldest + a.m)).first_key ≡ key = ap (λ (f : Full). f.first_key) facts ∙ ap (λ (o : Option ℕ). unwrap_or o 0) first in
      let count_is : (facts_on t (t.oldest + a.m)).count ≡ length (rows_on layout bytes) = ap (λ (f : Full). f.count) facts in
      let further = further-known t a.m (λ i lt. all.counted.fine i (omega (arith, lt, a.within))) (omega (arith, count_is, some)) in
      let run = void-run t (suc a.m) (t.pages - suc a.m) t.pages (omega (arith, a.within)) a.newest in
      let points = add error (points_of (facts_on t) t.oldest a.m) (points-aside error t t.index_pages t.pages known counts index h listed e)
      (subst (λ p. IsFurther (points_of (facts_on t) t.oldest a.m) (key, p)) (sym a.number_is) (subst (λ p. IsFurther (points_of (facts_on t) t.oldest a.m) (p, t.oldest + a.m)) first_is further)) in
      let next : points_of (facts_on t) t.oldest (suc a.m) ≡ points_of (facts_on t) t.oldest a.m ++ (key, listed.number) ∷ [] =
      ap (λ b. points_of (facts_on t) t.oldest a.m ++ cond b [] (((facts_on t (t.oldest + a.m)).first_key, t.oldest + a.m) ∷ [])) (not_zero (facts_on t (t.oldest + a.m)).count (omega (arith, count_is, some)))
      ∙ (ap (λ p. points_of (facts_on t) t.oldest a.m ++ (p, t.oldest + a.m) ∷ []) first_is ∙ ap (λ p. points_of (facts_on t) t.oldest a.m ++ (key, p) ∷ []) (sym a.number_is)) in
      record {
        knows = subst (λ (o : Option Listed). KnowsBy o t t.index_pages t.pages now (slice_set counts (listed.number % length counts) rows)) (sym newest) all;
        points = subst (λ (o : Option Listed). IndexOf error (points_of (facts_on t) t.oldest (counted_to t t.pages o)) new) (sym newest)
            (subst (λ (l : List (ℕ × ℕ)). IndexOf error l new) (sym (run.points ∙ next)) points);
      }
