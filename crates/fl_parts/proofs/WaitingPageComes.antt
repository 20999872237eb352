-- A page with rows comes behind the one that waits.
use Rattle.std.proofs.Common.{◌≡◌, ℕ, suc, ◌+◌, ◌-◌, ◌*◌, ◌%◌, ◌<◌, ◌≤◌, true, false, max, Option, Some, None, List, [], ◌∷◌, ◌++◌, length, refl, sym, ◌∙◌, ap, subst, arith}
use Rattle.std.specs.Prelude.{cond, IfSome, unwrap_or, slice_set}
use Rattle.fl_base.proofs.Tests.{not_zero}
use Rattle.fl_find.specs.Index.{IndexOf}
use Rattle.fl_find.specs.declared.index.KeyIndex.{KeyIndex}
use Rattle.fl_model.specs.Layout.{Full}
use Rattle.fl_page.specs.declared.fault.BadPage.{BadPage as Refusal}
use Rattle.fl_spline.specs.Points.{IsFurther}
use Rattle.fl_parts.specs.ByEntries.{Come, has_rows, facts_on, points_of, mount_fault}
use Rattle.fl_parts.specs.Knowing.{KnowsBy, KnowsAll, KnowsAside, KnowsWith, IsWithin, counted_to, is_waiting}
use Rattle.fl_parts.specs.Reading.{rises}
use Rattle.fl_parts.specs.declared.mount_fault.MountFault.TheVariants.{BadPage, BadKeys}
use Rattle.fl_parts.specs.declared.known.Known.{Known}
use Rattle.fl_parts.specs.declared.known.Listed.{Listed}
use Rattle.fl_parts.proofs.Aside.{aside-refused, behind-refused, counted-aside, facts-aside}
use Rattle.fl_parts.proofs.NextPage.{void-run}
use Rattle.fl_parts.proofs.PointsKnown.{further-known}

module _ {KNOTS SLOTS : ℕ} (error : ℕ) (t : Come) (k n : ℕ) (known : Known) (counts : List ℕ) (index : KeyIndex KNOTS SLOTS) (h : KnowsWith error t k n known counts index) where
  -- what is known by the page that waits
  pub knows-aside : (listed : Listed) → known.newest ≡ Some listed → KnowsAside t k n listed known counts
  knows-aside listed e = subst (λ (o : Option Listed). KnowsBy o t k n known counts) e h.knows

  pub knows-all : known.newest ≡ None → KnowsAll t k n known counts
  knows-all e = subst (λ (o : Option Listed). KnowsBy o t k n known counts) e h.knows

  pub points-all : known.newest ≡ None → IndexOf error (points_of (facts_on t) t.oldest n) index
  points-all e = subst (λ (o : Option Listed). IndexOf error (points_of (facts_on t) t.oldest (counted_to t n o)) index) e h.points

  pub points-aside : (listed : Listed) (e : known.newest ≡ Some listed) → IndexOf error (points_of (facts_on t) t.oldest (knows-aside listed e).m) index
  points-aside listed e =
      let a = knows-aside listed e in
      subst (λ m. IndexOf error (points_of (facts_on t) t.oldest m) index) (let k : listed.number - t.oldest ≡ a.m = omega (arith, a.number_is) in k)
      (subst (λ (o : Option Listed). IndexOf error (points_of (facts_on t) t.oldest (counted_to t n o)) index) e h.points)

  module _ (later : ℕ) (behind : n ≤ later) (within : later < t.pages) (rows : has_rows t (t.oldest + later) ≡ true) (listed : Listed) (e : known.newest ≡ Some listed) where
    pub settle-refused : rises known.last listed.full.first_key ≡ false → mount_fault t ≡ Some (BadKeys listed.number (unwrap_or known.last 0) listed.full.first_key)
    settle-refused low = aside-refused t k n listed known counts (knows-aside listed e) later behind within rows low

    pub settle-blamed : (bad : Refusal) → rises known.last listed.full.first_key ≡ true → known.fault ≡ Some bad → mount_fault t ≡ Some (BadPage bad)
    settle-blamed bad up is = behind-refused t k n listed known counts (knows-aside listed e) later behind within rows bad up is

    pub settled : (now : Known) (new : KeyIndex KNOTS SLOTS) → rises known.last listed.full.first_key ≡ true → known.fault ≡ None → n ≤ length counts → now ≡ record known { rows = known.rows + listed.full.count; last = Some listed.full.first_key; blob_end = max known.blob_end listed.full.blob_end; newest = None } →
        ((error : ℕ) (points : List (ℕ × ℕ)) → IndexOf error points index → IsFurther points (listed.full.first_key, listed.number) → IndexOf error (points ++ (listed.full.first_key, listed.number) ∷ []) new) →
        KnowsWith error t k n now (slice_set counts (listed.number % length counts) listed.full.count) new
    settled now new up none fits is add =
        let a = knows-aside listed e in
        let all = counted-aside t k n listed known counts a later behind within rows now up none fits (ap (λ (x : Known). x.rows) is) (ap (λ (x : Known). x.voids) is) (ap (λ (x : Known). x.last) is) (ap (λ (x : Known). x.blob_end) is) (ap (λ (x : Known). x.fault) is ∙ none) in
        let newest : now.newest ≡ None = ap (λ (x : Known). x.newest) is in
        let facts = facts-aside t k n listed known counts a later behind within rows in
        let key : (facts_on t (t.oldest + a.m)).first_key ≡ listed.full.first_key = ap (λ (f : Full). f.first_key) facts in
        let count : (facts_on t (t.oldest + a.m)).count ≡ listed.full.count = ap (λ (f : Full). f.count) facts in
        let further = further-known t a.m (λ i lt. all.counted.fine i (omega (arith, lt, a.within))) (omega (arith, count, a.some)) in
        let run = void-run t (suc a.m) (n - suc a.m) n (omega (arith, a.within)) a.newest in
        let points = add error (points_of (facts_on t) t.oldest a.m) (points-aside listed e)
        (subst (λ p. IsFurther (points_of (facts_on t) t.oldest a.m) (listed.full.first_key, p)) (sym a.number_is) (subst (λ p. IsFurther (points_of (facts_on t) t.oldest a.m) (p, t.oldest + a.m)) key further)) in
        let next : points_of (facts_on t) t.oldest (suc a.m) ≡ points_of (facts_on t) t.oldest a.m ++ (listed.full.first_key, listed.number) ∷ [] =
        ap (λ b. points_of (facts_on t) t.oldest a.m ++ cond b [] (((facts_on t (t.oldest + a.m)).first_key, t.oldest + a.m) ∷ [])) (not_zero (facts_on t (t.oldest + a.m)).count (omega (arith, count, a.some)))
        ∙ (ap (λ p. points_of (facts_on t) t.oldest a.m ++ (p, t.oldest + a.m) ∷ []) key ∙ ap (λ p. points_of (facts_on t) t.oldest a.m ++ (listed.full.first_key, p) ∷ []) (sym a.number_is)) in
        record {
          knows = subst (λ (o : Option Listed). KnowsBy o t k n now (slice_set counts (listed.number % length counts) listed.full.count)) (sym newest) all;
          points = subst (λ (o : Option Listed). IndexOf error (points_of (facts_on t) t.oldest (counted_to t n o)) new) (sym newest)
              (subst (λ (l : List (ℕ × ℕ)). IndexOf error l new) (sym (run.points ∙ next)) points);
        }

-- nothing waits
pub within-settled : (oldest n : ℕ) (known now : Known) (listed : Listed) → known.newest ≡ Some listed → listed.full.count < 65536 → now.rows ≡ known.rows + listed.full.count → now.voids ≡ known.voids → now.newest ≡ None → IsWithin oldest n known → IsWithin oldest n now
within-settled oldest n known now listed e few rows voids none h = record {
  rows = let one : is_waiting known.newest ≡ 1 = ap is_waiting e in let zero_is : is_waiting now.newest ≡ 0 = ap is_waiting none in omega (arith, h.rows, ap (λ w. w * 65536) one, ap (λ w. w * 65536) zero_is, rows, few);
  voids = omega (arith, voids, h.voids);
  newest = subst (λ (o : Option Listed). IfSome o (λ listed. (oldest ≤ listed.number) × (listed.number < oldest + n))) (sym none) tt;
}

pub none-of : {X : Type 0} (o : Option X) → ((x : X) → o ≡ Some x → ⊥) → o ≡ None
none-of None h = refl
none-of (Some x) h = absurd (h x refl)
