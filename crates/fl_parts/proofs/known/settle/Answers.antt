use Rattle.std.proofs.Common.{rules, ◌≡◌, ◌+◌, ◌%◌, ℕ, List, [], ◌∷◌, ◌++◌, max, Some, None, length, slice_set, sym, ◌∙◌, ap, subst, arith}
use Rattle.std.proofs.lemmas.Result.{err_from_is_err_and}
use Rattle.fl_parts.specs.Knowing.{KnowsWith}
use Rattle.fl_find.specs.Index.{IndexOf}
use Rattle.fl_spline.specs.Points.{IsFurther}
use Rattle.fl_parts.specs.declared.known.Known.{Known}
use Rattle.fl_parts.specs.declared.known.PageFacts.{PageFacts}
use Rattle.fl_parts.proofs.WaitingPageComes.{settle-refused, settle-blamed, settled, within-settled}
use Rattle.fl_parts.proofs.known.settle.Goals as goal

pub returns-in_err-check_rise-clause-knows : goal.returns-in_err-check_rise-clause-knows
returns-in_err-check_rise-clause-knows g c = λ error t k n later h behind within fits rows.
    let p = err_from_is_err_and c.from_residual.result c.from_residual.ensures.1 in
    let fault = c.in_err-check_rise.ensures.fault in
    rw (p.1, p.2) (tt, settle-refused error t k n c.args.known.now c.args.counts.now c.args.index.now h later behind within rows c.in-Some.listed c.in-Some.is fault.0 ∙ ap (λ e. Some e) (sym fault.1))

pub returns-in-Some-fault-clause-knows : goal.returns-in-Some-fault-clause-knows
returns-in-Some-fault-clause-knows g c = λ error t k n later h behind within fits rows.
    (tt, settle-blamed error t k n c.args.known.now c.args.counts.now c.args.index.now h later behind within rows c.in-Some.listed c.in-Some.is c.in-Some-fault.bad c.in_ok-check_rise.ensures.up c.in-Some-fault.is)

pub count_page-requires : goal.count_page-requires
count_page-requires g c =
    let few = c.told-page.ensures.few in
    (search (rules, arith), (c.requires.some, (few, omega (arith, few, c.requires.few))))

pub returns-clause-within : goal.returns-clause-within
returns-clause-within g c = λ oldest n h.
    let page = c.told-page.ensures.exact in
    let rows : c.told-page.result.rows ≡ c.in-Some.listed.full.count = ap (λ (p : PageFacts). p.rows) page in
    within-settled oldest n c.args.known.now c.count_page.new.known c.in-Some.listed c.in-Some.is (omega (arith, c.told-page.ensures.few, rows)) (ap (λ (x : Known). x.rows) c.count_page.ensures.known ∙ ap (λ r. c.args.known.now.rows + r) rows)
    (ap (λ (x : Known). x.voids) c.count_page.ensures.known) (ap (λ (x : Known). x.newest) c.count_page.ensures.known) h

pub returns-clause-knows : goal.returns-clause-knows
returns-clause-knows g c = λ error t k n later h behind within fits rows.
    let listed = c.in-Some.listed in
    let known = c.args.known.now in
    let now = c.count_page.new.known in
    let new = c.count_page.new.index in
    let page = c.told-page.ensures.exact in
    let counts : c.count_page.new.counts ≡ slice_set c.args.counts.now (listed.number % length c.args.counts.now) listed.full.count =
    c.count_page.ensures.counts ∙ ap (λ (p : PageFacts). slice_set c.args.counts.now (listed.number % length c.args.counts.now) p.rows) page in
    let is : now ≡ record known { rows = known.rows + listed.full.count; last = Some listed.full.first_key; blob_end = max known.blob_end listed.full.blob_end; newest = None } =
    c.count_page.ensures.known ∙ ap (λ (p : PageFacts). record known { rows = known.rows + p.rows; last = Some p.last; blob_end = max known.blob_end p.blob_end; newest = None }) page in (
      subst (λ (cs : List ℕ). KnowsWith error t k n now cs new) (sym counts)
          (settled error t k n known c.args.counts.now c.args.index.now h later behind within rows listed c.in-Some.is now new c.in_ok-check_rise.ensures.up c.in_default-fault.is fits is
          (subst (λ (p : PageFacts). (error : ℕ) (points : List (ℕ × ℕ)) → IndexOf error points c.args.index.now → IsFurther points (p.first, listed.number) → IndexOf error (points ++ (p.first, listed.number) ∷ []) new) page c.count_page.ensures.points)),
      tt,
    )
