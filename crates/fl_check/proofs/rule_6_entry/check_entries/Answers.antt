use Rattle.std.proofs.Common.{ℕ, Option, IfSome, IfNone, subst}
use Rattle.fl_flash.specs.Flash.{page_at}
use Rattle.fl_ring.specs.Place.{shape_of}
use Rattle.fl_rules.specs.Claims.{FailsFirst}
use Rattle.fl_check.specs.Entries.{over, HasEntries, HaveEntries}
use Rattle.std.proofs.lemmas.Result.{err_from_is_err_and}
use Rattle.std.proofs.lemmas.Option.{MatchOption-at_some}
use Rattle.fl_rules.proofs.OneMorePage.{some_back, few_back}
use Rattle.fl_check.proofs.rule_6_entry.check_entries.Goals as goal

pub returns-in-Some-clause-some : goal.returns-in-Some-clause-some
returns-in-Some-clause-some g c =
    let page = page_at (g.F.Flash.state c.args.flash.now) in
    λ told. record {
      i = c.in-Some.i;
      first = subst (λ (o : Option ℕ). IfSome o (FailsFirst (HasEntries page (shape_of c.args.index.now) (shape_of c.args.rows.now) (over c.args.l)) c.args.l.index.kept)) c.in-Some.is (c.in_ok-found.ensures.some told);
      is = c.page_back-page.ensures.page;
    }

pub returns-in-None-clause-none : goal.returns-in-None-clause-none
returns-in-None-clause-none g c =
    let page = page_at (g.F.Flash.state c.args.flash.now) in
    λ told. subst (λ (o : Option ℕ). IfNone o (HaveEntries page (shape_of c.args.index.now) (shape_of c.args.rows.now) (over c.args.l))) c.in-None.is (c.in_ok-found.ensures.none told)

pub first_misentered-requires-clause-index : goal.first_misentered-requires-clause-index
first_misentered-requires-clause-index g c = c.requires.index

pub first_misentered-requires-clause-rows : goal.first_misentered-requires-clause-rows
first_misentered-requires-clause-rows g c = c.requires.rows

pub first_misentered-requires-clause-listing : goal.first_misentered-requires-clause-listing
first_misentered-requires-clause-listing g c = c.requires.listing

pub first_misentered-requires-clause-room : goal.first_misentered-requires-clause-room
first_misentered-requires-clause-room g c = c.requires.room

pub first_misentered-requires-clause-some : goal.first_misentered-requires-clause-some
first_misentered-requires-clause-some g c = c.requires.some

pub first_misentered-requires-clause-few : goal.first_misentered-requires-clause-few
first_misentered-requires-clause-few g c = c.requires.few

pub returns-in_err-found-clause-reads : goal.returns-in_err-found-clause-reads
returns-in_err-found-clause-reads g c = c.first_misentered.ensures.reads

pub returns-in_err-found-clause-listing : goal.returns-in_err-found-clause-listing
returns-in_err-found-clause-listing g c = c.first_misentered.ensures.listing

pub returns-in_err-found-clause-room : goal.returns-in_err-found-clause-room
returns-in_err-found-clause-room g c = c.first_misentered.ensures.room

pub returns-in_err-found-clause-none : goal.returns-in_err-found-clause-none
returns-in_err-found-clause-none g c =
    let p = err_from_is_err_and c.from_residual.result c.from_residual.ensures.1 in
    rw p.1 tt

pub returns-in_err-found-clause-some : goal.returns-in_err-found-clause-some
returns-in_err-found-clause-some g c =
    let p = err_from_is_err_and c.from_residual.result c.from_residual.ensures.1 in
    rw p.1 tt

pub returns-in_err-found-clause-fails : goal.returns-in_err-found-clause-fails
returns-in_err-found-clause-fails g c =
    let p = err_from_is_err_and c.from_residual.result c.from_residual.ensures.1 in
    rw (p.1, p.2) c.in_err-found.ensures.fails

pub page_back-page-requires-clause-place : goal.page_back-page-requires-clause-place
page_back-page-requires-clause-place g c = c.requires.index_within.at

pub page_back-page-requires-clause-some : goal.page_back-page-requires-clause-some
page_back-page-requires-clause-some g c = some_back (MatchOption-at_some _ _ c.in-Some.i c.in-Some.is c.in_ok-found.ensures.within)

pub page_back-page-requires-clause-few : goal.page_back-page-requires-clause-few
page_back-page-requires-clause-few g c = few_back _ c.requires.index_within.kept

pub returns-in-Some-clause-reads : goal.returns-in-Some-clause-reads
returns-in-Some-clause-reads g c = c.first_misentered.ensures.reads

pub returns-in-Some-clause-listing : goal.returns-in-Some-clause-listing
returns-in-Some-clause-listing g c = c.first_misentered.ensures.listing

pub returns-in-Some-clause-room : goal.returns-in-Some-clause-room
returns-in-Some-clause-room g c = c.first_misentered.ensures.room

pub returns-in-None-clause-reads : goal.returns-in-None-clause-reads
returns-in-None-clause-reads g c = c.first_misentered.ensures.reads

pub returns-in-None-clause-listing : goal.returns-in-None-clause-listing
returns-in-None-clause-listing g c = c.first_misentered.ensures.listing

pub returns-in-None-clause-room : goal.returns-in-None-clause-room
returns-in-None-clause-room g c = c.first_misentered.ensures.room
