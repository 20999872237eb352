use Rattle.std.proofs.Common.{ℕ, ◌+◌, ◌%◌, ◌≡◌, refl, sym, ◌∙◌, ap, subst, arith, inl, ◌<◌, ◌≤◌}
use Rattle.fl_rules.specs.declared.rule.Rule.TheVariants.{Number}
use Rattle.fl_rules.specs.Numbers.{IsLeft, HaveNumbers}
use Rattle.fl_rules.specs.Stop.{breach}
use Rattle.fl_rules.proofs.Stops.{if_at}
use Rattle.fl_flash.specs.Flash.{page_at}
use Rattle.fl_ring.specs.Place.{shape_of}
use Rattle.fl_ring.specs.Ring.{room}
use Rattle.fl_rules.proofs.NumbersOfRing.{all_for, misnumbered_for, numbers_for, too_great_for}
use Rattle.std.proofs.lemmas.Result.{err_from_is_err_and, IfOk-weaker}
use Rattle.std.proofs.lemmas.Option.{MatchOption-at_some}
use Rattle.fl_frame.proofs.ReadsInTurn.{none_read}
use Rattle.fl_rules.proofs.OneMorePage.{some_back, few_back}
use Rattle.fl_rules.proofs.rule_3_number.check_by.Goals as goal

kept-within : {back kept room : ℕ} → back ≤ kept → kept < room → back ≤ room
kept-within le lt = omega (arith, le, lt)

pub returns-in-Some-clause-broken : goal.returns-in-Some-clause-broken
returns-in-Some-clause-broken g c =
    let f = page_at (g.F.Flash.state c.args.flash.now) in
    let r = shape_of c.args.ring.now in
    let newest = c.args.newest in
    let e : c.from.result + c.from-2.result ≡ newest.number + newest.back = omega (arith, c.from.ensures, c.from-2.ensures) in
    let fits : newest.number % room r ≡ _ = ap (λ (k : ℕ). newest.number % k) (sym c.room.ensures.pages) ∙ c.if-newest-room.false ∙ c.back_from.ensures.place in
    rw c.broken-in-Some.ensures (λ told newest_is. (
      refl,
      misnumbered_for f r c.args.m c.args.at_least newest (c.from.result + c.from-2.result) e newest_is fits
          c.in_ok-misnumbered.misnumbered c.in-Some.i c.page_back-in-Some.result (c.in_ok-misnumbered.ensures.some told) c.in-Some.is c.page_back-in-Some.ensures.page,
    ))

pub returns-in-None-clause-numbers : goal.returns-in-None-clause-numbers
returns-in-None-clause-numbers g c =
    let f = page_at (g.F.Flash.state c.args.flash.now) in
    let r = shape_of c.args.ring.now in
    let m = c.args.m in
    let newest = c.args.newest in
    let next = c.from.result + c.from-2.result in
    let e : next ≡ newest.number + newest.back = omega (arith, c.from.ensures, c.from-2.ensures) in
    let fits : newest.number % room r ≡ _ = ap (λ (k : ℕ). newest.number % k) (sym c.room.ensures.pages) ∙ c.if-newest-room.false ∙ c.back_from.ensures.place in
    IfOk-weaker c.number_left.result _ _
    (λ n left told newest_is. subst (λ (k : ℕ). HaveNumbers f r m c.args.at_least k) (sym left.0)
    (numbers_for f r m c.args.at_least newest next e newest_is fits (all_for f r m next c.in_ok-misnumbered.misnumbered (c.in_ok-misnumbered.ensures.none told) c.in-None.is) left.1))
    c.number_left.ensures.next

pub returns-in-None-clause-broken : goal.returns-in-None-clause-broken
returns-in-None-clause-broken g c =
    let f = page_at (g.F.Flash.state c.args.flash.now) in
    let r = shape_of c.args.ring.now in
    let m = c.args.m in
    let newest = c.args.newest in
    let next = c.from.result + c.from-2.result in
    let e : next ≡ newest.number + newest.back = omega (arith, c.from.ensures, c.from-2.ensures) in
    let fits : newest.number % room r ≡ _ = ap (λ (k : ℕ). newest.number % k) (sym c.room.ensures.pages) ∙ c.if-newest-room.false ∙ c.back_from.ensures.place in
    if_at _ (IsLeft m next → ⊥) (breach Number r.first) c.number_left.result
    (λ none told newest_is. (
      refl,
      too_great_for f r m c.args.at_least newest next e newest_is fits r.first
          (all_for f r m next c.in_ok-misnumbered.misnumbered (c.in_ok-misnumbered.ensures.none told) c.in-None.is) none refl,
    ))
    c.number_left.ensures.broken

pub returns-in_err-misnumbered-clause-reads : goal.returns-in_err-misnumbered-clause-reads
returns-in_err-misnumbered-clause-reads g c = c.first_misnumbered.ensures.reads

pub returns-in_err-misnumbered-clause-room : goal.returns-in_err-misnumbered-clause-room
returns-in_err-misnumbered-clause-room g c = c.first_misnumbered.ensures.room

pub returns-in_err-misnumbered-clause-numbers : goal.returns-in_err-misnumbered-clause-numbers
returns-in_err-misnumbered-clause-numbers g c =
    let p = err_from_is_err_and c.from_residual.result c.from_residual.ensures.1 in
    rw p.1 tt

pub returns-in_err-misnumbered-clause-broken : goal.returns-in_err-misnumbered-clause-broken
returns-in_err-misnumbered-clause-broken g c =
    let p = err_from_is_err_and c.from_residual.result c.from_residual.ensures.1 in
    rw (p.1, p.2) tt

pub returns-in_err-misnumbered-clause-fails : goal.returns-in_err-misnumbered-clause-fails
returns-in_err-misnumbered-clause-fails g c =
    let p = err_from_is_err_and c.from_residual.result c.from_residual.ensures.1 in
    rw (p.1, p.2) c.in_err-misnumbered.ensures.fails

pub returns-in-Some-clause-reads : goal.returns-in-Some-clause-reads
returns-in-Some-clause-reads g c = c.first_misnumbered.ensures.reads

pub returns-in-Some-clause-room : goal.returns-in-Some-clause-room
returns-in-Some-clause-room g c = c.first_misnumbered.ensures.room

pub returns-in-None-clause-reads : goal.returns-in-None-clause-reads
returns-in-None-clause-reads g c = c.first_misnumbered.ensures.reads

pub returns-in-None-clause-room : goal.returns-in-None-clause-room
returns-in-None-clause-room g c = c.first_misnumbered.ensures.room

pub back_from-requires-clause-place : goal.back_from-requires-clause-place
back_from-requires-clause-place g c = c.requires.within.at

pub back_from-requires-clause-some : goal.back_from-requires-clause-some
back_from-requires-clause-some g c = c.requires.some

pub page_back-requires-clause-place : goal.page_back-requires-clause-place
page_back-requires-clause-place g c = c.requires.within.at

pub page_back-requires-clause-some : goal.page_back-requires-clause-some
page_back-requires-clause-some g c = c.requires.some

pub returns-then-newest-room-clause-reads : goal.returns-then-newest-room-clause-reads
returns-then-newest-room-clause-reads g c = none_read (g.F.Flash.state c.args.flash.now) c.args.m.kept

pub returns-then-newest-room-clause-room : goal.returns-then-newest-room-clause-room
returns-then-newest-room-clause-room g c = c.requires.room

pub returns-then-newest-room-clause-numbers : goal.returns-then-newest-room-clause-numbers
returns-then-newest-room-clause-numbers g c = tt

pub returns-then-newest-room-clause-broken : goal.returns-then-newest-room-clause-broken
returns-then-newest-room-clause-broken g c =
    rw c.broken.ensures (λ told newest_is. (
      refl,
      inl (record {
        newest = c.args.newest;
        newest_is = newest_is;
        unfit = λ fits. c.if-newest-room.true (ap (λ (k : ℕ). c.args.newest.number % k) c.room.ensures.pages ∙ fits ∙ sym c.back_from.ensures.place);
        is = c.page_back.ensures.page;
      }),
    ))

pub returns-then-newest-room-clause-fails : goal.returns-then-newest-room-clause-fails
returns-then-newest-room-clause-fails g c = rw c.broken.ensures tt

pub first_misnumbered-requires-clause-lies : goal.first_misnumbered-requires-clause-lies
first_misnumbered-requires-clause-lies g c = c.requires.lies

pub first_misnumbered-requires-clause-room : goal.first_misnumbered-requires-clause-room
first_misnumbered-requires-clause-room g c = c.requires.room

pub first_misnumbered-requires-clause-within : goal.first_misnumbered-requires-clause-within
first_misnumbered-requires-clause-within g c = c.requires.within

pub page_back-requires-in-Some-clause-place : goal.page_back-requires-in-Some-clause-place
page_back-requires-in-Some-clause-place g c = c.requires.within.at

pub page_back-requires-in-Some-clause-some : goal.page_back-requires-in-Some-clause-some
page_back-requires-in-Some-clause-some g c = some_back (MatchOption-at_some _ _ c.in-Some.i c.in-Some.is c.in_ok-misnumbered.ensures.within)

pub page_back-requires-in-Some-clause-few : goal.page_back-requires-in-Some-clause-few
page_back-requires-in-Some-clause-few g c = few_back _ c.requires.within.kept

pub returns-in-Some-clause-numbers : goal.returns-in-Some-clause-numbers
returns-in-Some-clause-numbers g c = tt

pub returns-in-Some-clause-fails : goal.returns-in-Some-clause-fails
returns-in-Some-clause-fails g c = rw c.broken-in-Some.ensures tt

pub back_from-requires-clause-few : goal.back_from-requires-clause-few
back_from-requires-clause-few g c = kept-within c.requires.back c.requires.within.kept

pub page_back-requires-clause-few : goal.page_back-requires-clause-few
page_back-requires-clause-few g c = kept-within c.requires.back c.requires.within.kept
