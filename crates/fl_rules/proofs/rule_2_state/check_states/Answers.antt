use Rattle.std.proofs.Common.{ℕ, List, Option, IfNone, sym, subst, ◌+◌, inl, refl, le-add_right, le_of_lt}
use Rattle.std.proofs.lemmas.Result.{err_from_is_err_and, IfErr-weaker, on_ok_weaker}
use Rattle.fl_flash.specs.Flash.{page_at}
use Rattle.fl_ring.specs.Place.{shape_of}
use Rattle.fl_ring.proofs.Founds.{same_pages}
use Rattle.fl_frame.proofs.ReadsInTurn.{told_still, looks_by, more_reads}
use Rattle.fl_rules.specs.Claims.{AllBelow}
use Rattle.fl_rules.specs.States.{IsSealed, StatesBreak, HaveStates}
use Rattle.fl_rules.proofs.Stops.{if_broken}
use Rattle.fl_frame.specs.Causes.{ReadFails}
use Rattle.fl_ring.proofs.Exists.{lies_still}
use Rattle.fl_ring.proofs.ReadsInTurn.{fewer_reads}
use Rattle.fl_rules.specs.Stop.{IfFlash}
use Rattle.fl_rules.proofs.Results.{flash_so}
use Rattle.fl_rules.proofs.LooksChangeNothing.{fails_later}
use Rattle.fl_rules.proofs.OneMorePage.{few_back, some_back}
use Rattle.std.proofs.lemmas.Option.{MatchOption-at_some}
use Rattle.fl_rules.proofs.rule_2_state.check_states.Goals as goal

pub returns-in-None-clause-broken : goal.returns-in-None-clause-broken
returns-in-None-clause-broken g c =
    let f = g.F.Flash.state c.args.flash.now in
    let second = g.F.Flash.state c.first_unsealed.new.flash in
    let r = shape_of c.args.ring.now in
    let m = c.args.m in
    let reads = c.first_unsealed.ensures.reads in
    let same = same_pages f second m.kept reads in
    if_broken _ _ c.check_head.result
    (λ b breaks told. let both = breaks (told_still f second m.kept reads told)
    (subst (λ (page : ℕ → List ℕ). AllBelow (IsSealed page r m) m.kept) (sym same)
    (subst (λ (x : Option ℕ). IfNone x (AllBelow (IsSealed (page_at f) r m) m.kept)) c.in-None.is (c.in_ok-unsealed.ensures.none told))) in
    (both.0, subst (λ (page : ℕ → List ℕ). StatesBreak page r m b.page) same both.1))
    c.check_head.ensures.broken

pub first_unsealed-requires-clause-lies : goal.first_unsealed-requires-clause-lies
first_unsealed-requires-clause-lies g c = c.requires.lies

pub first_unsealed-requires-clause-room : goal.first_unsealed-requires-clause-room
first_unsealed-requires-clause-room g c = c.requires.room

pub first_unsealed-requires-clause-within : goal.first_unsealed-requires-clause-within
first_unsealed-requires-clause-within g c = c.requires.within

pub returns-in_err-unsealed-clause-reads : goal.returns-in_err-unsealed-clause-reads
returns-in_err-unsealed-clause-reads g c = fewer_reads (g.F.Flash.state c.args.flash.now) (g.F.Flash.state c.first_unsealed.new.flash) c.args.m.kept (c.args.m.kept + ((shape_of c.args.ring.now).per_block + 1)) c.first_unsealed.ensures.reads (le-add_right c.args.m.kept ((shape_of c.args.ring.now).per_block + 1))

pub returns-in_err-unsealed-clause-room : goal.returns-in_err-unsealed-clause-room
returns-in_err-unsealed-clause-room g c = c.first_unsealed.ensures.room

pub returns-in_err-unsealed-clause-states : goal.returns-in_err-unsealed-clause-states
returns-in_err-unsealed-clause-states g c =
    let p = err_from_is_err_and c.from_residual.result c.from_residual.ensures.1 in
    rw p.1 tt

pub returns-in_err-unsealed-clause-broken : goal.returns-in_err-unsealed-clause-broken
returns-in_err-unsealed-clause-broken g c =
    let p = err_from_is_err_and c.from_residual.result c.from_residual.ensures.1 in
    rw (p.1, p.2) tt

pub returns-in_err-unsealed-clause-fails : goal.returns-in_err-unsealed-clause-fails
returns-in_err-unsealed-clause-fails g c =
    let p = err_from_is_err_and c.from_residual.result c.from_residual.ensures.1 in
    rw (p.1, p.2) c.in_err-unsealed.ensures.fails

pub page_back-requires-clause-place : goal.page_back-requires-clause-place
page_back-requires-clause-place g c = c.requires.within.at

pub page_back-requires-clause-few : goal.page_back-requires-clause-few
page_back-requires-clause-few g c = few_back _ c.requires.within.kept

pub check_head-requires-clause-lies : goal.check_head-requires-clause-lies
check_head-requires-clause-lies g c = lies_still c.args.ring.now (g.F.Flash.state c.args.flash.now) (g.F.Flash.state c.first_unsealed.new.flash) c.requires.lies c.first_unsealed.ensures.reads.goes

pub check_head-requires-clause-room : goal.check_head-requires-clause-room
check_head-requires-clause-room g c = c.first_unsealed.ensures.room

pub check_head-requires-clause-within : goal.check_head-requires-clause-within
check_head-requires-clause-within g c = c.requires.within

pub returns-in-Some-clause-reads : goal.returns-in-Some-clause-reads
returns-in-Some-clause-reads g c = fewer_reads (g.F.Flash.state c.args.flash.now) (g.F.Flash.state c.first_unsealed.new.flash) c.args.m.kept (c.args.m.kept + ((shape_of c.args.ring.now).per_block + 1)) c.first_unsealed.ensures.reads (le-add_right c.args.m.kept ((shape_of c.args.ring.now).per_block + 1))

pub returns-in-Some-clause-room : goal.returns-in-Some-clause-room
returns-in-Some-clause-room g c = c.first_unsealed.ensures.room

pub returns-in-None-clause-reads : goal.returns-in-None-clause-reads
returns-in-None-clause-reads g c = more_reads (g.F.Flash.state c.args.flash.now) (g.F.Flash.state c.first_unsealed.new.flash) (g.F.Flash.state c.check_head.new.flash) c.args.m.kept ((shape_of c.args.ring.now).per_block + 1) c.first_unsealed.ensures.reads c.check_head.ensures.reads

pub returns-in-None-clause-room : goal.returns-in-None-clause-room
returns-in-None-clause-room g c = c.check_head.ensures.room

pub returns-in-None-clause-states : goal.returns-in-None-clause-states
returns-in-None-clause-states g c =
    let f = g.F.Flash.state c.args.flash.now in
    let second = g.F.Flash.state c.first_unsealed.new.flash in
    let r = shape_of c.args.ring.now in
    let m = c.args.m in
    let reads = c.first_unsealed.ensures.reads in
    let same = same_pages f second m.kept reads in
    on_ok_weaker c.check_head.result
    (λ states told. subst (λ (page : ℕ → List ℕ). HaveStates page r m) same (states (told_still f second m.kept reads told)
    (subst (λ (page : ℕ → List ℕ). AllBelow (IsSealed page r m) m.kept) (sym same)
    (subst (λ (x : Option ℕ). IfNone x (AllBelow (IsSealed (page_at f) r m) m.kept)) c.in-None.is (c.in_ok-unsealed.ensures.none told)))))
    c.check_head.ensures.states

pub returns-in-None-clause-fails : goal.returns-in-None-clause-fails
returns-in-None-clause-fails g c =
    let f = g.F.Flash.state c.args.flash.now in
    let second = g.F.Flash.state c.first_unsealed.new.flash in
    let last = g.F.Flash.state c.check_head.new.flash in
    IfErr-weaker c.check_head.result (IfFlash (λ e. ReadFails second e last)) (IfFlash (λ e. ReadFails f e last))
    (λ stop. flash_so (λ e. ReadFails second e last) (λ e. ReadFails f e last) stop (λ e. fails_later f second last e (looks_by f second c.args.m.kept c.first_unsealed.ensures.reads))) c.check_head.ensures.fails

pub page_back-requires-clause-some : goal.page_back-requires-clause-some
page_back-requires-clause-some g c = some_back (MatchOption-at_some _ _ c.in-Some.i c.in-Some.is c.in_ok-unsealed.ensures.within)

pub returns-in-Some-clause-states : goal.returns-in-Some-clause-states
returns-in-Some-clause-states g c = tt

pub returns-in-Some-clause-broken : goal.returns-in-Some-clause-broken
returns-in-Some-clause-broken g c =
    rw c.broken.ensures (λ told. (
      refl,
      inl (record {
        i = c.in-Some.i;
        first = MatchOption-at_some _ _ c.in-Some.i c.in-Some.is (c.in_ok-unsealed.ensures.some told);
        is = c.page_back.ensures.page;
      }),
    ))

pub returns-in-Some-clause-fails : goal.returns-in-Some-clause-fails
returns-in-Some-clause-fails g c = rw c.broken.ensures tt

pub overflow_sub-m : goal.overflow_sub-m
overflow_sub-m g c = le_of_lt (MatchOption-at_some _ _ c.in-Some.i c.in-Some.is c.in_ok-unsealed.ensures.within)
