use Rattle.std.proofs.Common.{ℕ, List, Some, None, refl, sym, subst, ◌+◌, le-add_right}
use Rattle.std.proofs.lemmas.Result.{err_from_is_err_and, IfErr-weaker, IfOk-weaker}
use Rattle.fl_flash.specs.Flash.{page_at}
use Rattle.fl_ring.specs.Place.{shape_of}
use Rattle.fl_ring.proofs.Founds.{same_pages}
use Rattle.fl_frame.proofs.ReadsInTurn.{told_still, looks_by, more_reads}
use Rattle.fl_rules.specs.Numbers.{NewestOf, next_of, IsLeft, HaveNumbers, NumbersBreak}
use Rattle.fl_rules.specs.Stop.{breach, IfFlash}
use Rattle.fl_rules.specs.declared.rule.Rule.TheVariants.{Number}
use Rattle.fl_rules.proofs.NumbersOfRing.{newest_some, newest_none, spent_for}
use Rattle.fl_rules.proofs.Stops.{if_broken, if_at}
use Rattle.fl_frame.specs.Causes.{ReadFails}
use Rattle.fl_ring.proofs.Exists.{lies_still}
use Rattle.fl_ring.proofs.ReadsInTurn.{fewer_reads}
use Rattle.fl_rules.proofs.Results.{flash_so}
use Rattle.fl_rules.proofs.LooksChangeNothing.{fails_later}
use Rattle.std.proofs.lemmas.Option.{MatchOption-at_some}
use Rattle.fl_rules.proofs.rule_3_number.check_numbers.Goals as goal

pub returns-in-Some-clause-numbers : goal.returns-in-Some-clause-numbers
returns-in-Some-clause-numbers g c =
    let f = g.F.Flash.state c.args.flash.now in
    let second = g.F.Flash.state c.find_newest.new.flash in
    let r = shape_of c.args.ring.now in
    let m = c.args.m in
    let reads = c.find_newest.ensures.reads in
    let same = same_pages f second m.kept reads in
    IfOk-weaker c.check_by.result _ _
    (λ next numbers told. subst (λ (page : ℕ → List ℕ). HaveNumbers page r m c.args.at_least next) same
    (numbers (told_still f second m.kept reads told)
    (subst (λ (page : ℕ → List ℕ). NewestOf page r m (Some c.in-Some.newest)) (sym same) (newest_some (page_at f) r m c.in_ok-newest.newest c.in-Some.newest c.in-Some.is (c.in_ok-newest.ensures.newest told)))))
    c.check_by.ensures.numbers

pub returns-in-Some-clause-broken : goal.returns-in-Some-clause-broken
returns-in-Some-clause-broken g c =
    let f = g.F.Flash.state c.args.flash.now in
    let second = g.F.Flash.state c.find_newest.new.flash in
    let r = shape_of c.args.ring.now in
    let m = c.args.m in
    let reads = c.find_newest.ensures.reads in
    let same = same_pages f second m.kept reads in
    if_broken _ _ c.check_by.result
    (λ b breaks told. let both = breaks (told_still f second m.kept reads told)
    (subst (λ (page : ℕ → List ℕ). NewestOf page r m (Some c.in-Some.newest)) (sym same) (newest_some (page_at f) r m c.in_ok-newest.newest c.in-Some.newest c.in-Some.is (c.in_ok-newest.ensures.newest told))) in
    (both.0, subst (λ (page : ℕ → List ℕ). NumbersBreak page r m c.args.at_least b.page) same both.1))
    c.check_by.ensures.broken

pub returns-in-None-clause-broken : goal.returns-in-None-clause-broken
returns-in-None-clause-broken g c =
    let f = g.F.Flash.state c.args.flash.now in
    let r = shape_of c.args.ring.now in
    let m = c.args.m in
    if_at _ (IsLeft m (next_of r m c.args.at_least None) → ⊥) (breach Number r.first) c.check_from.result
    (λ spent told. (refl, spent_for (page_at f) r m c.args.at_least r.first (newest_none (page_at f) r m c.in_ok-newest.newest c.in-None.is (c.in_ok-newest.ensures.none told)) spent refl))
    c.check_from.ensures.broken

pub find_newest-requires-clause-lies : goal.find_newest-requires-clause-lies
find_newest-requires-clause-lies g c = c.requires.lies

pub find_newest-requires-clause-room : goal.find_newest-requires-clause-room
find_newest-requires-clause-room g c = c.requires.room

pub find_newest-requires-clause-place : goal.find_newest-requires-clause-place
find_newest-requires-clause-place g c = c.requires.within.at

pub find_newest-requires-clause-few : goal.find_newest-requires-clause-few
find_newest-requires-clause-few g c = c.requires.within.kept

pub returns-in_err-newest-clause-reads : goal.returns-in_err-newest-clause-reads
returns-in_err-newest-clause-reads g c = fewer_reads (g.F.Flash.state c.args.flash.now) (g.F.Flash.state c.find_newest.new.flash) c.args.m.kept (c.args.m.kept + c.args.m.kept) c.find_newest.ensures.reads (le-add_right c.args.m.kept c.args.m.kept)

pub returns-in_err-newest-clause-room : goal.returns-in_err-newest-clause-room
returns-in_err-newest-clause-room g c = c.find_newest.ensures.room

pub returns-in_err-newest-clause-numbers : goal.returns-in_err-newest-clause-numbers
returns-in_err-newest-clause-numbers g c =
    let p = err_from_is_err_and c.from_residual.result c.from_residual.ensures.1 in
    rw p.1 tt

pub returns-in_err-newest-clause-broken : goal.returns-in_err-newest-clause-broken
returns-in_err-newest-clause-broken g c =
    let p = err_from_is_err_and c.from_residual.result c.from_residual.ensures.1 in
    rw (p.1, p.2) tt

pub returns-in_err-newest-clause-fails : goal.returns-in_err-newest-clause-fails
returns-in_err-newest-clause-fails g c =
    let p = err_from_is_err_and c.from_residual.result c.from_residual.ensures.1 in
    rw (p.1, p.2) c.in_err-newest.ensures.fails

pub check_by-requires-clause-lies : goal.check_by-requires-clause-lies
check_by-requires-clause-lies g c = lies_still c.args.ring.now (g.F.Flash.state c.args.flash.now) (g.F.Flash.state c.find_newest.new.flash) c.requires.lies c.find_newest.ensures.reads.goes

pub check_by-requires-clause-room : goal.check_by-requires-clause-room
check_by-requires-clause-room g c = c.find_newest.ensures.room

pub check_by-requires-clause-within : goal.check_by-requires-clause-within
check_by-requires-clause-within g c = c.requires.within

pub returns-in-Some-clause-reads : goal.returns-in-Some-clause-reads
returns-in-Some-clause-reads g c = more_reads (g.F.Flash.state c.args.flash.now) (g.F.Flash.state c.find_newest.new.flash) (g.F.Flash.state c.check_by.new.flash) c.args.m.kept c.args.m.kept c.find_newest.ensures.reads c.check_by.ensures.reads

pub returns-in-Some-clause-room : goal.returns-in-Some-clause-room
returns-in-Some-clause-room g c = c.check_by.ensures.room

pub returns-in-Some-clause-fails : goal.returns-in-Some-clause-fails
returns-in-Some-clause-fails g c =
    let f = g.F.Flash.state c.args.flash.now in
    let second = g.F.Flash.state c.find_newest.new.flash in
    let last = g.F.Flash.state c.check_by.new.flash in
    IfErr-weaker c.check_by.result (IfFlash (λ e. ReadFails second e last)) (IfFlash (λ e. ReadFails f e last))
    (λ stop. flash_so (λ e. ReadFails second e last) (λ e. ReadFails f e last) stop (λ e. fails_later f second last e (looks_by f second c.args.m.kept c.find_newest.ensures.reads))) c.check_by.ensures.fails

pub returns-in-None-clause-reads : goal.returns-in-None-clause-reads
returns-in-None-clause-reads g c = fewer_reads (g.F.Flash.state c.args.flash.now) (g.F.Flash.state c.find_newest.new.flash) c.args.m.kept (c.args.m.kept + c.args.m.kept) c.find_newest.ensures.reads (le-add_right c.args.m.kept c.args.m.kept)

pub returns-in-None-clause-room : goal.returns-in-None-clause-room
returns-in-None-clause-room g c = c.find_newest.ensures.room

pub check_by-requires-clause-some : goal.check_by-requires-clause-some
check_by-requires-clause-some g c = (MatchOption-at_some _ _ c.in-Some.newest c.in-Some.is c.in_ok-newest.ensures.within).0

pub check_by-requires-clause-back : goal.check_by-requires-clause-back
check_by-requires-clause-back g c = (MatchOption-at_some _ _ c.in-Some.newest c.in-Some.is c.in_ok-newest.ensures.within).1

pub check_from-requires : goal.check_from-requires
check_from-requires g c = record { within = c.requires.within }
