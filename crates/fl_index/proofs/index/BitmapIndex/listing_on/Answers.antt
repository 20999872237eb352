use Rattle.std.proofs.Common.{ℕ, ◌-◌, ◌<◌, ◌≤◌, Option, refl, sym, ◌∙◌, ap, subst}
use Rattle.std.specs.Option.{unwrap_or}
use Rattle.std.proofs.lemmas.Option.{none-some}
use Rattle.fl_index.specs.Memory.{first_in, per_page}
use Rattle.fl_index.proofs.ListingOn.{first-at, lists-it, ends-before, begins-after}
use Rattle.fl_index.proofs.SealAnswers.{some-room}
use Rattle.fl_index.proofs.index.BitmapIndex.listing_on.Goals as goal

pub nonzero_rem-page : goal.nonzero_rem-page
nonzero_rem-page c = some-room c.args.self.now c.len.result c.len.ensures

pub returns-in-Some-clause-none : goal.returns-in-Some-clause-none
returns-in-Some-clause-none c = λ e. absurd (none-some _ (sym e))

pub returns-in-Some-clause-some : goal.returns-in-Some-clause-some
returns-in-Some-clause-some c =
    let t = c.args.self.now in
    let is = first-at t c.args.page c.len.result c.index-first.result.now c.len.ensures c.index-first.ensures ∙ c.in-Some.is in
    let few = subst (λ (n : ℕ). c.args.number - c.in-Some.first < n) c.capacity.ensures.exact c.if-number-first.true in
    (refl, (lists-it (per_page t) c.args.number c.in-Some.first (first_in t c.args.page) is c.if-first-number.true few, ap (λ (o : Option ℕ). c.args.number - unwrap_or o 0) (sym is), few))

pub returns-in_default-clause-none : goal.returns-in_default-clause-none
returns-in_default-clause-none c = λ e.
    let t = c.args.self.now in
    ends-before (per_page t) c.args.number c.in-Some.first (first_in t c.args.page) (first-at t c.args.page c.len.result c.index-first.result.now c.len.ensures c.index-first.ensures ∙ c.in-Some.is) (subst (λ (n : ℕ). n ≤ c.args.number - c.in-Some.first) c.capacity.ensures.exact c.if-number-first.false) c.if-first-number.true

pub returns-in_default-2-clause-none : goal.returns-in_default-2-clause-none
returns-in_default-2-clause-none c = λ e.
    let t = c.args.self.now in
    begins-after (per_page t) c.args.number c.in-Some.first (first_in t c.args.page) (first-at t c.args.page c.len.result c.index-first.result.now c.len.ensures c.index-first.ensures ∙ c.in-Some.is) c.if-first-number.false
