-- What a lookup finds, in the words of the store's model.
use Rattle.std.proofs.Common.{◌≡◌, ℕ, zero, suc, ◌+◌, ◌-◌, ◌*◌, ◌<◌, ◌≤◌, min, true, false, Option, Some, None, option_map, List, [], ◌∷◌, length, map, drop, refl, sym, ◌∙◌, ap, subst, arith, Result, Ok, Err, IfOk}
use Rattle.std.specs.Prelude.{unwrap_or, IfSome, IfErr}
use Rattle.std.specs.List.{sum}
use Rattle.std.proofs.lemmas.Bool.{false≢true}
use Rattle.fl_flash.specs.Flash.{FlashState}
use Rattle.fl_model.specs.Record.{Plan, RowLayout}
use Rattle.fl_model.specs.Ring as model
use Rattle.fl_model.specs.Row.{stored_row}
use Rattle.fl_model.specs.Table.{Table, Entry, written, lose}
use Rattle.fl_model.specs.Image.{rows_at}
use Rattle.fl_base.specs.Bits.{bits}
use Rattle.fl_model.specs.Spline.{retained, is_covered, is_pending_key, estimate, page_at, points_of, voids_of, lookup_limit, lookup_reads}
use Rattle.fl_model.proofs.Lists.{slice_get-some}
use Rattle.fl_page.specs.declared.fault.BadPage.{BadPage}
use Rattle.fl_page.specs.declared.fault.ReadFault.{ReadFault}
use Rattle.fl_page.specs.declared.fault.ReadFault.TheVariants as fault
use Rattle.fl_ring.specs.Place.{shape_of, next_of, oldest_of}
use Rattle.fl_ring.specs.declared.ring.Ring.{Ring}
use Rattle.fl_search.specs.Search.{IsPageOf, Ascends, RoseBy, RoseSome, looked_at, voids_in, voids_from}
use Rattle.fl_spline.specs.Points.{Rises, last_of}
use Rattle.fl_spline.specs.Segment.{InWindow}
use Rattle.fl_spline.proofs.Window.{in-window}
use Rattle.fl_spline.proofs.Ends.{none-are}
use Rattle.fl_find.specs.Pages.{first_key, first_on, bytes_at}
use Rattle.fl_find.specs.Looking.{LookFails, HasBadPage}
use Rattle.fl_find.specs.Standing.{HoldsPages, HasPoints, HoldsEntries}
use Rattle.fl_find.specs.Finding.{IsFound, FindsPage}
use Rattle.fl_find.proofs.Firsts.{key_of, AreFirsts, firsts-each, firsts-more, page_from-is, voids-counted, firsts-ascend, IsPoint, point-of, point-behind}
use Rattle.fl_find.proofs.Windows.{IsWindow, window-page, window-back, window-looks, one-page}

pub first-stored : (entries : List Entry) → first_key (map stored_row entries) ≡ key_of entries
first-stored [] = refl
first-stored (entry ∷ entries) = refl

-- the estimate of a key's page
abbrev estimate_of : ℕ → Plan → Table → ℕ → ℕ
estimate_of knots plan table key = estimate (retained knots plan.error table.points) key

-- the number after the window of a key
abbrev pub end_of : ℕ → Plan → Table → ℕ → ℕ
end_of knots plan table key = min (estimate_of knots plan table key + plan.error + 1) table.rows.next

module _ (layout : RowLayout) (ring : Ring) (f : FlashState) (plan : Plan) (table : Table) (holds : HoldsPages layout ring f plan table) where
  first : ℕ → Option ℕ
  first = first_on layout (shape_of ring) f

  fits : length table.rows.counts ≤ table.rows.next
  fits = holds.facts.rows.not_negative

  enough : sum table.rows.counts ≤ length table.entries
  enough = omega (arith, holds.facts.counted)

  end_is : model.oldest table.rows + length table.rows.counts ≡ table.rows.next
  end_is = omega (arith, fits)

  firsts : AreFirsts (first_on layout (shape_of ring) f) (model.oldest table.rows) table.rows.counts table.entries
  firsts = firsts-more (first_on layout (shape_of ring) f) (model.oldest table.rows) table.rows.counts table.entries (length table.entries - table.pending) (omega (arith, holds.facts.counted))
      (firsts-each (first_on layout (shape_of ring) f) (model.oldest table.rows) table.rows.counts (written table) (λ i count e.
      ap first_key (holds.pages i count e).rows ∙ first-stored (rows_at (lose table) i count)))

  pub found : (key : ℕ) → IsPageOf (first_on layout (shape_of ring) f) (model.oldest table.rows) table.rows.next key (page_at table key)
  found key = subst (λ n. IsPageOf (first_on layout (shape_of ring) f) (model.oldest table.rows) n key (page_at table key)) end_is
      (page_from-is (first_on layout (shape_of ring) f) (model.oldest table.rows) table.rows.counts table.entries key (model.oldest table.rows) None firsts enough (omega arith) (λ n from before. absurd (omega (arith, from, before))))

  pub ascend : Ascends (first_on layout (shape_of ring) f) (model.oldest table.rows) table.rows.next
  ascend = subst (λ n. Ascends (first_on layout (shape_of ring) f) (model.oldest table.rows) n) end_is
      (firsts-ascend (first_on layout (shape_of ring) f) (model.oldest table.rows) table.rows.counts table.entries firsts holds.facts.ascending)

  pub voids : voids_in (first_on layout (shape_of ring) f) (model.oldest table.rows) table.rows.next ≡ voids_of table
  voids = ap (λ n. voids_from (first_on layout (shape_of ring) f) (model.oldest table.rows) n) (omega (arith, fits))
      ∙ voids-counted (first_on layout (shape_of ring) f) (model.oldest table.rows) table.rows.counts table.entries firsts enough

  point : (points : HasPoints table) (n x : ℕ) → model.oldest table.rows ≤ n → n < table.rows.next → first_on layout (shape_of ring) f n ≡ Some x → IsPoint table.points x n
  point points n x from before e =
      subst (λ (l : List (ℕ × ℕ)). IsPoint l x n) (sym points.points)
      (point-behind points.older (points_of table) x n
      (point-of (first_on layout (shape_of ring) f) (model.oldest table.rows) table.rows.counts table.entries n x firsts enough from (omega (arith, before, end_is)) e))

  window : (points : HasPoints table) (key page error : ℕ) → InWindow error table.points key page → IsWindow (first_on layout (shape_of ring) f) (model.oldest table.rows) table.rows.next key page error
  window points key page error w = record {
    from = λ n x from before e le.
        let p = point points n x from before e in
        let x_is = ap (λ (q : ℕ × ℕ). q.0) p.here in
        let n_is = ap (λ (q : ℕ × ℕ). q.1) p.here in
        let low = w.from p.index p.within (omega (arith, x_is, le)) in
        omega (arith, low, n_is);
    to = λ n x from before e lt.
        let p = point points n x from before e in
        let x_is = ap (λ (q : ℕ × ℕ). q.0) p.here in
        let n_is = ap (λ (q : ℕ × ℕ). q.1) p.here in
        let high = w.to p.index p.within (omega (arith, x_is, lt)) in
        omega (arith, high, n_is);
  }

  covered-window : (knots : ℕ) (points : HasPoints table) (key : ℕ) → Rises table.points → is_covered (retained knots plan.error table.points) key ≡ true →
      IsWindow (first_on layout (shape_of ring) f) (model.oldest table.rows) table.rows.next key (estimate_of knots plan table key) plan.error
  covered-window knots points key up covered = window points key (estimate_of knots plan table key) plan.error (in-window knots plan.error key table.points up covered)

  -- a covered key has a page, so there is a number before the next one
  some-page : (knots : ℕ) (points : HasPoints table) (key : ℕ) → is_covered (retained knots plan.error table.points) key ≡ true → 0 < table.rows.next
  some-page knots points key covered = by_counts table.rows.counts refl
    where
      none_covered : (n : ℕ) → is_covered (drop n []) key ≡ false
      none_covered zero = refl
      none_covered (suc n) = refl

      by_counts : (counts : List ℕ) → table.rows.counts ≡ counts → 0 < table.rows.next
      by_counts (c ∷ counts) e = let many = ap length e in omega (arith, many, fits)
      by_counts [] e =
          let none : points_of table ≡ [] = points_none (table.rows.counts) e in
          let empty : table.points ≡ [] = none-are table.points (points.last ∙ ap last_of none) in
          absurd (false≢true (sym (ap (λ (l : List (ℕ × ℕ)). is_covered (retained knots plan.error l) key) empty ∙ none_covered (0 - knots)) ∙ covered))
        where
          points_none : (counts : List ℕ) → table.rows.counts ≡ [] → points_of table ≡ []
          points_none counts e = ap (λ (l : List ℕ). map (λ page. (Rattle.fl_model.specs.Spline.page_key page, page.0)) (Rattle.fl_model.specs.Spline.pages_from (model.oldest table.rows) l table.entries)) e

  reads-are : (top_at error next lo : ℕ) (page : Option ℕ) → 0 < next → IfSome page (λ n. n < min (top_at + error + 1) next) →
      unwrap_or (option_map (λ n. min (top_at + error) (next - 1) - n + 1) page) (min (top_at + error) (next - 1) + 1 - lo) ≡ looked_at lo (min (top_at + error + 1) next) page
  reads-are top_at error next lo None some within = omega (arith, some)
  reads-are top_at error next lo (Some n) some within = omega (arith, some, within)

  before-end : (lo end key : ℕ) (page : Option ℕ) → IsPageOf (first_on layout (shape_of ring) f) lo end key page → IfSome page (λ n. n < end)
  before-end lo end key None is = tt
  before-end lo end key (Some n) is = is.before

  some-looked : (lo end before now key : ℕ) (page : Option ℕ) → IsPageOf (first_on layout (shape_of ring) f) lo end key page → RoseBy (looked_at lo end page) before now → IfSome page (λ n. RoseSome before now)
  some-looked lo end before now key None is rose = tt
  some-looked lo end before now key (Some n) is rose = λ small. let r = rose small in omega (arith, r, is.before)

  -- a covered key, whose window ends here
  pub finds-near : (knots : ℕ) (points : HasPoints table) (key before now : ℕ) (page : Option ℕ) → Rises table.points → is_covered (retained knots plan.error table.points) key ≡ true →
      IsPageOf (first_on layout (shape_of ring) f) (model.oldest table.rows) (end_of knots plan table key) key page →
      RoseBy (looked_at (model.oldest table.rows) (end_of knots plan table key) page) before now → IsFound knots plan table key before now page
  finds-near knots points key before now page up covered is rose =
      let w = covered-window knots points key up covered in
      let some = some-page knots points key covered in
      let same : page ≡ page_at table key = one-page (first_on layout (shape_of ring) f) (model.oldest table.rows) table.rows.next key page (page_at table key)
      (window-page (first_on layout (shape_of ring) f) (model.oldest table.rows) table.rows.next key (estimate_of knots plan table key) plan.error page w is) (found key) in
      let back = window-back (first_on layout (shape_of ring) f) (model.oldest table.rows) table.rows.next key (estimate_of knots plan table key) plan.error (page_at table key) w (found key) in
      let reads = reads-are (estimate_of knots plan table key) plan.error table.rows.next (model.oldest table.rows) (page_at table key) some
      (before-end (model.oldest table.rows) (end_of knots plan table key) key (page_at table key) back) in
      record {
        page_is = same;
        exact = λ c small. rose small ∙ ap (λ n. before + n) (ap (λ (p : Option ℕ). looked_at (model.oldest table.rows) (end_of knots plan table key) p) same ∙ sym reads);
        some = some-looked (model.oldest table.rows) (end_of knots plan table key) before now key page is rose;
      }

  -- one that isn't covered
  pub finds-far : (knots key before now : ℕ) (page : Option ℕ) → is_covered (retained knots plan.error table.points) key ≡ false →
      IsPageOf (first_on layout (shape_of ring) f) (model.oldest table.rows) table.rows.next key page → IfSome page (λ n. RoseSome before now) → IsFound knots plan table key before now page
  finds-far knots key before now page uncovered is some = record {
    page_is = one-page (first_on layout (shape_of ring) f) (model.oldest table.rows) table.rows.next key page (page_at table key) is (found key);
    exact = λ covered. absurd (false≢true (sym uncovered ∙ covered));
    some = some;
  }

  pub limit-near : (knots : ℕ) (points : HasPoints table) (key before now : ℕ) → Rises table.points → is_covered (retained knots plan.error table.points) key ≡ true → is_pending_key table key ≡ false →
      ((page : Option ℕ) → IsPageOf (first_on layout (shape_of ring) f) (model.oldest table.rows) (end_of knots plan table key) key page →
      now ≤ before + looked_at (model.oldest table.rows) (end_of knots plan table key) page) → now ≤ before + lookup_limit knots plan table key
  limit-near knots points key before now up covered pending most =
      let w = covered-window knots points key up covered in
      let back = window-back (first_on layout (shape_of ring) f) (model.oldest table.rows) table.rows.next key (estimate_of knots plan table key) plan.error (page_at table key) w (found key) in
      let few = window-looks (first_on layout (shape_of ring) f) (model.oldest table.rows) table.rows.next key (estimate_of knots plan table key) plan.error (page_at table key) w (omega (arith, fits)) (found key) in
      let most_is = most (page_at table key) back in
      let limit : lookup_limit knots plan table key ≡ 2 * plan.error + 2 + voids_of table = rw (pending, covered) refl in
      omega (arith, limit, few, most_is, voids)

  pub limit-far : (knots key before now : ℕ) → is_covered (retained knots plan.error table.points) key ≡ false → is_pending_key table key ≡ false →
      now ≤ before + bits (table.rows.next - model.oldest table.rows) + 1 + voids_in (first_on layout (shape_of ring) f) (model.oldest table.rows) table.rows.next → now ≤ before + lookup_limit knots plan table key
  limit-far knots key before now uncovered pending most =
      let limit : lookup_limit knots plan table key ≡ bits (length table.rows.counts) + 1 + voids_of table = rw (pending, uncovered) refl in
      let count : bits (table.rows.next - model.oldest table.rows) ≡ bits (length table.rows.counts) = ap bits (omega (arith, fits)) in
      omega (arith, limit, count, most, voids)

  no-bad : (bad : BadPage) → HasBadPage layout ring f bad → ⊥
  no-bad bad h =
      let at = slice_get-some table.rows.counts (h.number - model.oldest table.rows) (omega (arith, h.kept.from, h.kept.before, holds.next, holds.oldest, fits)) in
      let number : model.oldest table.rows + (h.number - model.oldest table.rows) ≡ h.number = omega (arith, h.kept.from, holds.oldest) in
      let page = subst (λ n. HoldsEntries layout n (rows_at (lose table) (h.number - model.oldest table.rows) at.0) (bytes_at (shape_of ring) f n)) number (holds.pages (h.number - model.oldest table.rows) at.0 at.1) in
      h.is_bad.not_good (page.good h.is_bad.committed)

  pub finds-result : (knots key before now : ℕ) (new : FlashState) (result : Result (Option ℕ) ReadFault) → IfOk result (λ page. IsFound knots plan table key before now page) →
      IfErr result (λ e. LookFails layout ring f e new) → FindsPage knots plan table key before now result
  finds-result knots key before now new (Ok page) ok err = ok
  finds-result knots key before now new (Err (fault.Flash e)) ok err = tt
  finds-result knots key before now new (Err (fault.BadPage bad)) ok err = no-bad bad (err.0 holds.tells)

  -- the numbers of the ring are those of the model
  at-numbers : (P : ℕ → ℕ → Type 0) → P (oldest_of ring) (next_of ring) → P (model.oldest table.rows) table.rows.next
  at-numbers P h = subst (λ n. P (model.oldest table.rows) n) holds.next (subst (λ n. P n (next_of ring)) holds.oldest h)

  pub ascend-ring : Ascends (first_on layout (shape_of ring) f) (oldest_of ring) (next_of ring)
  ascend-ring = subst (λ n. Ascends (first_on layout (shape_of ring) f) (oldest_of ring) n) (sym holds.next) (subst (λ n. Ascends (first_on layout (shape_of ring) f) n table.rows.next) (sym holds.oldest) ascend)

  pub near-found : (knots : ℕ) (points : HasPoints table) (key before now end : ℕ) (new : FlashState) (result : Result (Option ℕ) ReadFault) → Rises table.points →
      is_covered (retained knots plan.error table.points) key ≡ true → end ≡ end_of knots plan table key →
      IfOk result (λ page. IsPageOf (first_on layout (shape_of ring) f) (oldest_of ring) end key page) → IfOk result (λ page. RoseBy (looked_at (oldest_of ring) end page) before now) →
      IfErr result (λ e. LookFails layout ring f e new) → FindsPage knots plan table key before now result
  near-found knots points key before now end new (Ok page) up covered end_at is rose err =
      finds-near knots points key before now page up covered
      (subst (λ n. IsPageOf (first_on layout (shape_of ring) f) n (end_of knots plan table key) key page) holds.oldest (subst (λ n. IsPageOf (first_on layout (shape_of ring) f) (oldest_of ring) n key page) end_at is))
      (subst (λ n. RoseBy (looked_at n (end_of knots plan table key) page) before now) holds.oldest (subst (λ n. RoseBy (looked_at (oldest_of ring) n page) before now) end_at rose))
  near-found knots points key before now end new (Err e) up covered end_at is rose err = finds-result knots key before now new (Err e) tt err

  pub far-found : (knots key before now : ℕ) (new : FlashState) (result : Result (Option ℕ) ReadFault) → is_covered (retained knots plan.error table.points) key ≡ false →
      IfOk result (λ page. IsPageOf (first_on layout (shape_of ring) f) (oldest_of ring) (next_of ring) key page) → IfOk result (λ page. IfSome page (λ n. RoseSome before now)) →
      IfErr result (λ e. LookFails layout ring f e new) → FindsPage knots plan table key before now result
  far-found knots key before now new (Ok page) uncovered is rose err =
      finds-far knots key before now page uncovered (at-numbers (λ lo hi. IsPageOf (first_on layout (shape_of ring) f) lo hi key page) is) rose
  far-found knots key before now new (Err e) uncovered is rose err = finds-result knots key before now new (Err e) tt err

  pub near-limit : (knots : ℕ) (points : HasPoints table) (key before now end : ℕ) → Rises table.points → is_covered (retained knots plan.error table.points) key ≡ true → is_pending_key table key ≡ false →
      end ≡ end_of knots plan table key →
      ((page : Option ℕ) → IsPageOf (first_on layout (shape_of ring) f) (oldest_of ring) end key page → now ≤ before + looked_at (oldest_of ring) end page) → now ≤ before + lookup_limit knots plan table key
  near-limit knots points key before now end up covered pending end_at most =
      limit-near knots points key before now up covered pending (λ page is.
      subst (λ n. now ≤ before + looked_at n (end_of knots plan table key) page) holds.oldest
      (subst (λ n. now ≤ before + looked_at (oldest_of ring) n page) end_at
      (most page (subst (λ n. IsPageOf (first_on layout (shape_of ring) f) (oldest_of ring) n key page) (sym end_at)
      (subst (λ n. IsPageOf (first_on layout (shape_of ring) f) n (end_of knots plan table key) key page) (sym holds.oldest) is)))))

  pub far-limit : (knots key before now : ℕ) → is_covered (retained knots plan.error table.points) key ≡ false → is_pending_key table key ≡ false →
      now ≤ before + bits (next_of ring - oldest_of ring) + 1 + voids_in (first_on layout (shape_of ring) f) (oldest_of ring) (next_of ring) → now ≤ before + lookup_limit knots plan table key
  far-limit knots key before now uncovered pending most =
      limit-far knots key before now uncovered pending (at-numbers (λ lo hi. now ≤ before + bits (hi - lo) + 1 + voids_in (first_on layout (shape_of ring) f) lo hi) most)
