use Rattle.std.proofs.Common.{rules, ◌≡◌, ◌<◌, ◌≤◌, ℕ, suc, List, [], ◌∷◌, ◌++◌, Option, max, unwrap_or, ◌+◌, length, sym, ◌∙◌, ap, subst, arith}
use Rattle.std.proofs.lemmas.Result.{err_from_is_err_and}
use Rattle.std.specs.Prelude.{◌^◌}
use Rattle.std.proofs.lemmas.List.{length-set}
use Rattle.fl_find.specs.Index.{IndexOf}
use Rattle.fl_find.specs.Pages.{rows_on}
use Rattle.fl_ring.specs.Newest.{commits}
use Rattle.fl_schema.specs.Schema.{layout_of}
use Rattle.fl_spline.specs.Points.{IsFurther}
use Rattle.fl_parts.specs.Knowing.{KnowsWith, is_waiting}
use Rattle.fl_parts.specs.declared.known.Known.{Known}
use Rattle.fl_parts.specs.declared.known.Listed.{Listed}
use Rattle.fl_parts.specs.declared.known.PageFacts.{PageFacts}
use Rattle.fl_parts.proofs.Refused.{refused-refused}
use Rattle.fl_parts.proofs.ListedPageComes.{within-void}
use Rattle.fl_parts.proofs.Unlisted.{unlisted-rows, saw-refused, saw-rows, saw-none, read-bare, some-committed, first-none, within-rows}
use Rattle.fl_parts.proofs.KeptParts.{few-rest}
use Rattle.fl_parts.proofs.Untouched.{no-success}
use Rattle.fl_parts.proofs.load.see_page.Goals as goal

within-counts : (n pages size : ℕ) → n < pages → pages ≤ size → n ≤ size
within-counts n pages size lt fits = omega (arith, lt, fits)

below-counts : (n pages size now : ℕ) → n < pages → pages ≤ size → now ≡ size → n < now
below-counts n pages size now lt fits same = omega (arith, lt, fits, same)

few-rows : (rows all : ℕ) → all < 65536 → rows ≡ all → rows < 65536
few-rows rows all few is = omega (arith, few, is)

some-left : (size now : ℕ) → 1 ≤ size → now ≡ size → 1 ≤ now
some-left size now some same = omega (arith, some, same)

all-few : (rows now more : ℕ) → more < 65536 → now ≤ rows + 65535 → rows + 131072 < 2 ^ 64 → now + more < 2 ^ 64
all-few rows now more few le left = omega (arith, few, le, left)

pub returns-in_err-make_way-clause-knows : goal.returns-in_err-make_way-clause-knows
returns-in_err-make_way-clause-knows g c = λ error t k n h is un.
    let p = err_from_is_err_and c.from_residual.result c.from_residual.ensures.1 in
    let rows = unlisted-rows error t k n c.args.known.now c.args.counts.now c.args.index.now h is.next (layout_of c.args.schema.now) c.args.number c.args.bytes.now is.at un in
    rw (p.1, p.2) (tt, (c.in_err-make_way.ensures.knows error t k n h is.lt (within-counts _ _ _ is.lt is.fits) rows).1)

pub returns-in_err-make_way-clause-only : goal.returns-in_err-make_way-clause-only
returns-in_err-make_way-clause-only g c =
    let p = err_from_is_err_and c.from_residual.result c.from_residual.ensures.1 in
    rw (p.1, p.2) c.in_err-make_way.ensures.only

pub returns-in_err-page-clause-knows : goal.returns-in_err-page-clause-knows
returns-in_err-page-clause-knows g c = λ error t k n h is un.
    let layout = layout_of c.args.schema.now in
    let p = err_from_is_err_and c.from_residual-in_err-page.result c.from_residual-in_err-page.ensures.1 in
    let rows = unlisted-rows error t k n c.args.known.now c.args.counts.now c.args.index.now h is.next layout c.args.number c.args.bytes.now is.at un in
    let way = (c.in_ok-make_way.ensures.knows error t k n h is.lt (within-counts _ _ _ is.lt is.fits) rows).0 in
    let refused = c.in_err-page.ensures.fault in
    let none = c.in_ok-make_way.ensures.none (ap commits refused.committed) in
    rw (p.1, p.2) (tt, saw-refused error t k n c.make_way.new.known c.make_way.new.counts c.make_way.new.index way is.next layout c.args.number c.args.bytes.now is.at un c.in_err-page.field-0.0 none refused)

pub returns-in_err-page-clause-only : goal.returns-in_err-page-clause-only
returns-in_err-page-clause-only g c =
    let p = err_from_is_err_and c.from_residual-in_err-page.result c.from_residual-in_err-page.ensures.1 in
    rw (p.1, p.2) (refused-refused (layout_of c.args.schema.now) c.args.number c.args.bytes.now c.make_way.new.known.last c.in_err-page.field-0.0 c.in_err-page.ensures.fault)

pub returns-in_err-make_way-clause-counted : goal.returns-in_err-make_way-clause-counted
returns-in_err-make_way-clause-counted g c = no-success _ _ c.from_residual.result c.from_residual.ensures.1

pub returns-in_err-page-clause-counted : goal.returns-in_err-page-clause-counted
returns-in_err-page-clause-counted g c = no-success _ _ c.from_residual-in_err-page.result c.from_residual-in_err-page.ensures.1

pub returns-in_err-make_way-clause-page : goal.returns-in_err-make_way-clause-page
returns-in_err-make_way-clause-page g c = no-success _ _ c.from_residual.result c.from_residual.ensures.1

pub returns-in_err-page-clause-page : goal.returns-in_err-page-clause-page
returns-in_err-page-clause-page g c = no-success _ _ c.from_residual-in_err-page.result c.from_residual-in_err-page.ensures.1

pub returns-in-Some-clause-page : goal.returns-in-Some-clause-page
returns-in-Some-clause-page g c = c.in_ok-page.ensures.page

pub returns-in-None-clause-page : goal.returns-in-None-clause-page
returns-in-None-clause-page g c = c.in_ok-page.ensures.page

pub returns-in_err-make_way-clause-size : goal.returns-in_err-make_way-clause-size
returns-in_err-make_way-clause-size g c = c.in_err-make_way.ensures.size

pub returns-in_err-make_way-clause-error : goal.returns-in_err-make_way-clause-error
returns-in_err-make_way-clause-error g c = c.in_err-make_way.ensures.error

pub returns-in_err-page-clause-size : goal.returns-in_err-page-clause-size
returns-in_err-page-clause-size g c = c.in_ok-make_way.ensures.size

pub returns-in_err-page-clause-error : goal.returns-in_err-page-clause-error
returns-in_err-page-clause-error g c = c.in_ok-make_way.ensures.error

pub returns-in-Some-clause-size : goal.returns-in-Some-clause-size
returns-in-Some-clause-size g c = ap length c.count_page.ensures.counts ∙ (length-set c.make_way.new.counts _ _ ∙ c.in_ok-make_way.ensures.size)

pub returns-in-Some-clause-error : goal.returns-in-Some-clause-error
returns-in-Some-clause-error g c = c.count_page.ensures.error ∙ c.in_ok-make_way.ensures.error

pub returns-in-None-clause-size : goal.returns-in-None-clause-size
returns-in-None-clause-size g c = ap length c.count_void.ensures.counts ∙ (length-set c.make_way.new.counts _ _ ∙ c.in_ok-make_way.ensures.size)

pub returns-in-None-clause-error : goal.returns-in-None-clause-error
returns-in-None-clause-error g c = c.in_ok-make_way.ensures.error

pub returns-in-Some-clause-only : goal.returns-in-Some-clause-only
returns-in-Some-clause-only g c = tt

pub returns-in-None-clause-only : goal.returns-in-None-clause-only
returns-in-None-clause-only g c = tt

pub returns-in-Some-clause-counted : goal.returns-in-Some-clause-counted
returns-in-Some-clause-counted g c =
    let known = c.make_way.new.known in
    let page = c.facts.ensures in
    record {
      within = λ oldest n h.
          within-rows oldest n known c.count_page.new.known c.facts.result.rows c.facts.result.last (max known.blob_end c.facts.result.blob_end) (few-rows _ _ c.in_ok-page.ensures.page.few (ap (λ (p : PageFacts). p.rows) page)) c.count_page.ensures.known
          (c.in_ok-make_way.ensures.within oldest n h);
      waits = subst (λ (o : Option Listed). is_waiting o ≤ is_waiting c.args.known.now.newest) (sym (ap (λ (k : Known). k.newest) c.count_page.ensures.known)) c.in_ok-make_way.ensures.waits;
    }

pub returns-in-Some-clause-knows : goal.returns-in-Some-clause-knows
returns-in-Some-clause-knows g c = λ error t k n h is un.
    let layout = layout_of c.args.schema.now in
    let bytes = c.args.bytes.now in
    let known = c.make_way.new.known in
    let counts = c.make_way.new.counts in
    let page = c.facts.ensures in
    let ensures = c.in_ok-page.ensures in
    let rows = unlisted-rows error t k n c.args.known.now c.args.counts.now c.args.index.now h is.next layout c.args.number bytes is.at un in
    let way = (c.in_ok-make_way.ensures.knows error t k n h is.lt (within-counts _ _ _ is.lt is.fits) rows).0 in
    let first = sym ensures.page.first ∙ c.in-Some.is in
    let none = c.in_ok-make_way.ensures.none (some-committed layout bytes c.in-Some.first first) in
    let size = c.in_ok-make_way.ensures.size in
    let key : c.facts.result.first ≡ c.in-Some.first = ap (λ (p : PageFacts). p.first) page in (
      subst (λ (cs : List ℕ). KnowsWith error t k (suc n) c.count_page.new.known cs c.count_page.new.index) (sym c.count_page.ensures.counts)
          (saw-rows error t k n known counts c.make_way.new.index way is.next layout c.args.number bytes is.at un c.count_page.new.known c.count_page.new.index c.in-Some.first c.facts.result.rows c.facts.result.last c.facts.result.blob_end none ensures.read (below-counts _ _ _ _ is.lt is.fits size) first
          (ap (λ (p : PageFacts). p.rows) page ∙ ensures.page.rows) (ap (λ (p : PageFacts). p.last) page ∙ ap (λ (o : Option ℕ). unwrap_or o c.in-Some.first) ensures.last) (ap (λ (p : PageFacts). p.blob_end) page ∙ ensures.page.blob_end) c.count_page.ensures.known
          (subst (λ f. (error : ℕ) (points : List (ℕ × ℕ)) → IndexOf error points c.make_way.new.index → IsFurther points (f, c.args.number) → IndexOf error (points ++ (f, c.args.number) ∷ []) c.count_page.new.index) key c.count_page.ensures.points)),
      tt,
    )

pub returns-in-None-clause-counted : goal.returns-in-None-clause-counted
returns-in-None-clause-counted g c =
    let known = c.make_way.new.known in
    record {
      within = λ oldest n h. within-void oldest n known c.count_void.new.known (max known.blob_end 0) c.count_void.ensures.known (c.in_ok-make_way.ensures.within oldest n h);
      waits = subst (λ (o : Option Listed). is_waiting o ≤ is_waiting c.args.known.now.newest) (sym (ap (λ (k : Known). k.newest) c.count_void.ensures.known)) c.in_ok-make_way.ensures.waits;
    }

pub returns-in-None-clause-knows : goal.returns-in-None-clause-knows
returns-in-None-clause-knows g c = λ error t k n h is un.
    let layout = layout_of c.args.schema.now in
    let bytes = c.args.bytes.now in
    let ensures = c.in_ok-page.ensures in
    let rows = unlisted-rows error t k n c.args.known.now c.args.counts.now c.args.index.now h is.next layout c.args.number bytes is.at un in
    let way = (c.in_ok-make_way.ensures.knows error t k n h is.lt (within-counts _ _ _ is.lt is.fits) rows).0 in
    let none = first-none (rows_on layout bytes) (sym ensures.page.first ∙ c.in-None.is) in
    let bare = read-bare layout c.args.number bytes c.make_way.new.known.last ensures.read none in (
      subst (λ (cs : List ℕ). KnowsWith error t k (suc n) c.count_void.new.known cs c.make_way.new.index) (sym c.count_void.ensures.counts)
          (saw-none error t k n c.make_way.new.known c.make_way.new.counts c.make_way.new.index way is.next layout c.args.number bytes is.at un c.count_void.new.known bare (below-counts _ _ _ _ is.lt is.fits c.in_ok-make_way.ensures.size) c.count_void.ensures.known),
      tt,
    )

pub count_page-requires : goal.count_page-requires
count_page-requires g c =
    let few = few-rows _ _ c.in_ok-page.ensures.page.few (ap (λ (p : PageFacts). p.rows) c.facts.ensures) in
    (search (rules, arith), (some-left _ _ c.requires.some c.in_ok-make_way.ensures.size, (few, all-few _ _ _ few c.in_ok-make_way.ensures.rows c.requires.few.rows)))

pub count_void-requires-clause-some : goal.count_void-requires-clause-some
count_void-requires-clause-some g c = some-left _ _ c.requires.some c.in_ok-make_way.ensures.size

pub count_void-requires-clause-few : goal.count_void-requires-clause-few
count_void-requires-clause-few g c = subst (λ v. v + 1 < 2 ^ 32) (sym c.in_ok-make_way.ensures.voids) c.requires.few.voids

pub make_way-requires : goal.make_way-requires
make_way-requires g c = (search (rules, arith), (c.requires.least, (c.requires.some, few-rest _ c.requires.few.rows)))
