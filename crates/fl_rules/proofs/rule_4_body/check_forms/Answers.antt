use Rattle.std.proofs.Common.{refl, le_of_lt}
use Rattle.std.proofs.lemmas.Result.{err_from_is_err_and}
use Rattle.std.proofs.lemmas.Option.{MatchOption-at_some, MatchOption-at_none}
use Rattle.fl_rules.proofs.OneMorePage.{some_back, few_back}
use Rattle.fl_rules.proofs.rule_4_body.check_forms.Goals as goal

pub first_unformed-requires-clause-lies : goal.first_unformed-requires-clause-lies
first_unformed-requires-clause-lies g c = c.requires.lies

pub first_unformed-requires-clause-room : goal.first_unformed-requires-clause-room
first_unformed-requires-clause-room g c = c.requires.room

pub first_unformed-requires-clause-within : goal.first_unformed-requires-clause-within
first_unformed-requires-clause-within g c = c.requires.within

pub returns-in_err-unformed-clause-reads : goal.returns-in_err-unformed-clause-reads
returns-in_err-unformed-clause-reads g c = c.first_unformed.ensures.reads

pub returns-in_err-unformed-clause-room : goal.returns-in_err-unformed-clause-room
returns-in_err-unformed-clause-room g c = c.first_unformed.ensures.room

pub returns-in_err-unformed-clause-bodies : goal.returns-in_err-unformed-clause-bodies
returns-in_err-unformed-clause-bodies g c =
    let p = err_from_is_err_and c.from_residual.result c.from_residual.ensures.1 in
    rw p.1 tt

pub returns-in_err-unformed-clause-broken : goal.returns-in_err-unformed-clause-broken
returns-in_err-unformed-clause-broken g c =
    let p = err_from_is_err_and c.from_residual.result c.from_residual.ensures.1 in
    rw (p.1, p.2) tt

pub returns-in_err-unformed-clause-fails : goal.returns-in_err-unformed-clause-fails
returns-in_err-unformed-clause-fails g c =
    let p = err_from_is_err_and c.from_residual.result c.from_residual.ensures.1 in
    rw (p.1, p.2) c.in_err-unformed.ensures.fails

pub page_back-requires-clause-place : goal.page_back-requires-clause-place
page_back-requires-clause-place g c = c.requires.within.at

pub page_back-requires-clause-some : goal.page_back-requires-clause-some
page_back-requires-clause-some g c = some_back (MatchOption-at_some _ _ c.in-Some.i c.in-Some.is c.in_ok-unformed.ensures.within)

pub page_back-requires-clause-few : goal.page_back-requires-clause-few
page_back-requires-clause-few g c = few_back _ c.requires.within.kept

pub returns-in-Some-clause-reads : goal.returns-in-Some-clause-reads
returns-in-Some-clause-reads g c = c.first_unformed.ensures.reads

pub returns-in-Some-clause-room : goal.returns-in-Some-clause-room
returns-in-Some-clause-room g c = c.first_unformed.ensures.room

pub returns-in-Some-clause-bodies : goal.returns-in-Some-clause-bodies
returns-in-Some-clause-bodies g c = tt

pub returns-in-Some-clause-broken : goal.returns-in-Some-clause-broken
returns-in-Some-clause-broken g c =
    rw c.broken.ensures (λ told. (
      refl,
      record {
        i = c.in-Some.i;
        first = MatchOption-at_some _ _ c.in-Some.i c.in-Some.is (c.in_ok-unformed.ensures.some told);
        is = c.page_back.ensures.page;
      },
    ))

pub returns-in-Some-clause-fails : goal.returns-in-Some-clause-fails
returns-in-Some-clause-fails g c = rw c.broken.ensures tt

pub returns-in-None-clause-reads : goal.returns-in-None-clause-reads
returns-in-None-clause-reads g c = c.first_unformed.ensures.reads

pub returns-in-None-clause-room : goal.returns-in-None-clause-room
returns-in-None-clause-room g c = c.first_unformed.ensures.room

pub returns-in-None-clause-bodies : goal.returns-in-None-clause-bodies
returns-in-None-clause-bodies g c = λ told. MatchOption-at_none _ _ c.in-None.is (c.in_ok-unformed.ensures.none told)

pub returns-in-None-clause-broken : goal.returns-in-None-clause-broken
returns-in-None-clause-broken g c = tt

pub returns-in-None-clause-fails : goal.returns-in-None-clause-fails
returns-in-None-clause-fails g c = tt

pub overflow_sub-n : goal.overflow_sub-n
overflow_sub-n g c = le_of_lt (MatchOption-at_some _ _ c.in-Some.i c.in-Some.is c.in_ok-unformed.ensures.within)
