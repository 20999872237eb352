-- The pages that may have a row with at most a key.
use Rattle.std.proofs.Common.{◌≡◌, ◌⊎◌, inl, inr, ℕ, suc, ◌+◌, ◌<◌, ◌≤◌, Bool, true, false, cond, ◌==◌, min, Option, Some, None, List, [], ◌∷◌, length, map, take, drop, filter, nat_le, refl, sym, ◌∙◌, ap, subst, arith}
use Rattle.std.specs.Prelude.{IfSome}
use Rattle.std.specs.List.{AllByRecursion, last_or}
use Rattle.std.proofs.lemmas.Bool.{leb-true}
use Rattle.std.proofs.lemmas.Option.{none-some}
use Rattle.fl_model.specs.Facts.{IsTable}
use Rattle.fl_model.specs.Record.{Plan}
use Rattle.fl_model.specs.Ring.{oldest}
use Rattle.fl_model.specs.Spline.{retained, is_covered, estimate, pages_from, pages_of, page_key, page_at, points_of}
use Rattle.fl_model.specs.Table.{Table, Entry}
use Rattle.fl_spline.specs.Points.{Rises}
use Rattle.fl_spline.proofs.Window.{in-window}
use Rattle.fl_find.specs.Finding.{pages_end}
use Rattle.fl_find.specs.Standing.{HasPoints}
use Rattle.fl_find.proofs.Firsts.{IsPoint, point-behind}

abbrev point : ℕ × List Entry → ℕ × ℕ
point page = (page_key page, page.0)

abbrev AreBelow : ℕ → List (ℕ × List Entry) → Type 0
AreBelow end pages = AllByRecursion (λ page. page.0 < end) pages

each-below : (number : ℕ) (counts : List ℕ) (entries : List Entry) → AreBelow (number + length counts) (pages_from number counts entries)
each-below number [] entries = tt
each-below number (count ∷ counts) entries = by_count (later entries (each-below (number + 1) counts entries)) (later (drop count entries) (each-below (number + 1) counts (drop count entries))) (count == 0)
  where
    later : (entries : List Entry) → AreBelow (number + 1 + length counts) (pages_from (number + 1) counts entries) → AreBelow (number + length (count ∷ counts)) (pages_from (number + 1) counts entries)
    later entries below = subst (λ end. AreBelow end (pages_from (number + 1) counts entries)) (let e : number + 1 + length counts ≡ number + length (count ∷ counts) = omega arith in e) below

    by_count : AreBelow (number + length (count ∷ counts)) (pages_from (number + 1) counts entries) → AreBelow (number + length (count ∷ counts)) (pages_from (number + 1) counts (drop count entries)) →
        (b : Bool) → AreBelow (number + length (count ∷ counts)) (cond b (pages_from (number + 1) counts entries) ((number, take count entries) ∷ pages_from (number + 1) counts (drop count entries)))
    by_count void some true = void
    by_count void some false = (omega arith, some)

-- the point of a page that begins by a key
record HasPoint (end : ℕ) (pages : List (ℕ × List Entry)) (key number : ℕ) : Type 0 where
  first : ℕ
  up_to : first ≤ key
  below : number < end
  is_point : IsPoint (map point pages) first number

-- the last page that does has one
last-point : (end key : ℕ) (before : Option ℕ) (pages : List (ℕ × List Entry)) (number : ℕ) → AreBelow end pages →
    last_or before (map (λ page. page.0) (filter (λ page. nat_le (page_key page) key) pages)) ≡ Some number → (before ≡ Some number) ⊎ HasPoint end pages key number
last-point end key before [] number below e = inl e
last-point end key before (page ∷ pages) number below e = by_key (λ before e. last-point end key before pages number below.1 e) (nat_le (page_key page) key) refl
  where
    step : (b : Bool) → nat_le (page_key page) key ≡ b → last_or before (map (λ page. page.0) (cond b (page ∷ filter (λ page. nat_le (page_key page) key) pages) (filter (λ page. nat_le (page_key page) key) pages))) ≡ Some number
    step b k = sym (ap (λ b. last_or before (map (λ page. page.0) (cond b (page ∷ filter (λ page. nat_le (page_key page) key) pages) (filter (λ page. nat_le (page_key page) key) pages)))) k) ∙ e

    later : HasPoint end pages key number → HasPoint end (page ∷ pages) key number
    later p = record {
      first = p.first;
      up_to = p.up_to;
      below = p.below;
      is_point = record { index = suc p.is_point.index; within = omega (arith, p.is_point.within); here = p.is_point.here };
    }

    same : ◌≡◌ {A = Option ℕ} (Some page.0) (Some number) → page.0 ≡ number
    same e = cc

    here : page.0 ≡ number → nat_le (page_key page) key ≡ true → HasPoint end (page ∷ pages) key number
    here is k = record {
      first = page_key page;
      up_to = leb-true (page_key page) key k;
      below = omega (arith, below.0, is);
      is_point = record { index = 0; within = omega arith; here = ap (λ n. (page_key page, n)) is };
    }

    by_key : ((o : Option ℕ) → last_or o (map (λ page. page.0) (filter (λ page. nat_le (page_key page) key) pages)) ≡ Some number → (o ≡ Some number) ⊎ HasPoint end pages key number) →
        (b : Bool) → nat_le (page_key page) key ≡ b → (before ≡ Some number) ⊎ HasPoint end (page ∷ pages) key number
    by_key others true k = elim (others (Some page.0) (step true k)) [ inl e ↦ inr (here (same e) k) | inr p ↦ inr (later p) ]
    by_key others false k = elim (others before (step false k)) [ inl e ↦ inl e | inr p ↦ inr (later p) ]

-- no page behind the end begins by the key
pub end-past : (knots : ℕ) (plan : Plan) (table : Table) (key : ℕ) → IsTable plan table → HasPoints table → Rises table.points → IfSome (page_at table key) (λ page. page < pages_end knots plan table key)
end-past knots plan table key facts points up = by_page (page_at table key) refl
  where
    by_covered : (page : ℕ) (b : Bool) → is_covered (retained knots plan.error table.points) key ≡ b → HasPoint (oldest table.rows + length table.rows.counts) (pages_of table) key page →
        page < cond b (min (estimate (retained knots plan.error table.points) key + plan.error + 1) table.rows.next) table.rows.next
    by_covered page true covered p =
        let w = in-window knots plan.error key table.points up covered in
        let q = subst (λ (l : List (ℕ × ℕ)). IsPoint l p.first page) (sym points.points) (point-behind points.older (points_of table) p.first page p.is_point) in
        let first_is = ap (λ (r : ℕ × ℕ). r.0) q.here in
        let page_is = ap (λ (r : ℕ × ℕ). r.1) q.here in
        let low = w.from q.index q.within (omega (arith, first_is, p.up_to)) in
        omega (arith, low, page_is, p.below, facts.rows.not_negative)
    by_covered page false covered p = omega (arith, p.below, facts.rows.not_negative)

    by_page : (o : Option ℕ) → page_at table key ≡ o → IfSome o (λ page. page < pages_end knots plan table key)
    by_page None e = tt
    by_page (Some page) e = elim (last-point (oldest table.rows + length table.rows.counts) key None (pages_of table) page (each-below (oldest table.rows) table.rows.counts table.entries) e) [
      | inl none ↦ absurd (none-some _ none)
      | inr p ↦ by_covered page (is_covered (retained knots plan.error table.points) key) refl p
    ]
