use Rattle.std.proofs.lemmas.Result.{err_from_is_err_and}
use Rattle.std.proofs.Common.{inl, arith, ◌≡◌, ℕ, ◌+◌, ◌-◌, ◌<◌, ◌≤◌, refl, sym, subst, inr, le_of_lt}
use Rattle.fl_ring.specs.Place.{shape_of}
use Rattle.fl_ring.specs.Ring.{room}
use Rattle.fl_ring.proofs.ReadsInTurn.{fewer_reads}
use Rattle.std.proofs.lemmas.Option.{MatchOption-at_some, MatchOption-at_none}
use Rattle.fl_frame.proofs.ReadsInTurn.{none_read}
use Rattle.fl_flash.specs.Flash.{page_at}
use Rattle.fl_rules.specs.States.{AreBlank, IsWritten}
use Rattle.fl_rules.proofs.rule_8_blank.check_rest.Goals as goal

-- ---- how many pages are neither kept nor in the head

rest-few : {got all : ℕ} (kept : ℕ) → got ≡ all → got - kept ≤ all
rest-few kept is = omega (arith, is)

rest-ordered : (kept sealed : ℕ) {size pages got all : ℕ} → size ≡ pages → got ≡ all → kept + pages ≤ all + sealed → size - sealed ≤ got - kept
rest-ordered kept sealed size_is is few = omega (arith, size_is, is, few)

rest-within : (kept : ℕ) {got all j : ℕ} → got ≡ all → j < got - kept → j ≤ all
rest-within kept is lt = omega (arith, is, lt)

pub returns-then-may_wait-clause-reads : goal.returns-then-may_wait-clause-reads
returns-then-may_wait-clause-reads g c = none_read (g.F.Flash.state c.args.flash.now) (room (shape_of c.args.ring.now))

pub returns-then-may_wait-clause-room : goal.returns-then-may_wait-clause-room
returns-then-may_wait-clause-room g c = c.requires.room

pub returns-then-may_wait-clause-blank : goal.returns-then-may_wait-clause-blank
returns-then-may_wait-clause-blank g c = λ told. inl (c.may_wait.ensures.yes c.if-may_wait.true)

pub first_written-requires-clause-lies : goal.first_written-requires-clause-lies
first_written-requires-clause-lies g c = c.requires.lies

pub first_written-requires-clause-room : goal.first_written-requires-clause-room
first_written-requires-clause-room g c = c.requires.room

pub first_written-requires-clause-place : goal.first_written-requires-clause-place
first_written-requires-clause-place g c = c.requires.within.at

pub returns-in_err-written-clause-reads : goal.returns-in_err-written-clause-reads
returns-in_err-written-clause-reads g c = fewer_reads (g.F.Flash.state c.args.flash.now) (g.F.Flash.state c.first_written.new.flash) _ (room (shape_of c.args.ring.now)) c.first_written.ensures.reads (rest-few c.args.m.kept c.room.ensures.pages)

pub returns-in_err-written-clause-room : goal.returns-in_err-written-clause-room
returns-in_err-written-clause-room g c = c.first_written.ensures.room

pub returns-in_err-written-clause-blank : goal.returns-in_err-written-clause-blank
returns-in_err-written-clause-blank g c =
    let p = err_from_is_err_and c.from_residual.result c.from_residual.ensures.1 in
    rw p.1 tt

pub returns-in_err-written-clause-broken : goal.returns-in_err-written-clause-broken
returns-in_err-written-clause-broken g c =
    let p = err_from_is_err_and c.from_residual.result c.from_residual.ensures.1 in
    rw (p.1, p.2) tt

pub returns-in_err-written-clause-fails : goal.returns-in_err-written-clause-fails
returns-in_err-written-clause-fails g c =
    let p = err_from_is_err_and c.from_residual.result c.from_residual.ensures.1 in
    rw (p.1, p.2) c.in_err-written.ensures.fails

pub page_after-requires-clause-place : goal.page_after-requires-clause-place
page_after-requires-clause-place g c = c.requires.within.at

pub returns-in-None-clause-reads : goal.returns-in-None-clause-reads
returns-in-None-clause-reads g c = fewer_reads (g.F.Flash.state c.args.flash.now) (g.F.Flash.state c.first_written.new.flash) _ (room (shape_of c.args.ring.now)) c.first_written.ensures.reads (rest-few c.args.m.kept c.room.ensures.pages)

pub returns-in-None-clause-room : goal.returns-in-None-clause-room
returns-in-None-clause-room g c = c.first_written.ensures.room

pub returns-in-Some-clause-reads : goal.returns-in-Some-clause-reads
returns-in-Some-clause-reads g c = fewer_reads (g.F.Flash.state c.args.flash.now) (g.F.Flash.state c.first_written.new.flash) _ (room (shape_of c.args.ring.now)) c.first_written.ensures.reads (rest-few c.args.m.kept c.room.ensures.pages)

pub returns-in-Some-clause-room : goal.returns-in-Some-clause-room
returns-in-Some-clause-room g c = c.first_written.ensures.room

pub returns-then-may_wait-clause-broken : goal.returns-then-may_wait-clause-broken
returns-then-may_wait-clause-broken g c = tt

pub returns-then-may_wait-clause-fails : goal.returns-then-may_wait-clause-fails
returns-then-may_wait-clause-fails g c = tt

pub returns-in-None-clause-broken : goal.returns-in-None-clause-broken
returns-in-None-clause-broken g c = tt

pub returns-in-None-clause-fails : goal.returns-in-None-clause-fails
returns-in-None-clause-fails g c = tt

pub returns-in-Some-clause-blank : goal.returns-in-Some-clause-blank
returns-in-Some-clause-blank g c = tt

pub returns-in-Some-clause-fails : goal.returns-in-Some-clause-fails
returns-in-Some-clause-fails g c = rw c.broken.ensures tt

pub may_wait-requires : goal.may_wait-requires
may_wait-requires g c = record { within = c.requires.within }

pub overflow_sub-from : goal.overflow_sub-from
overflow_sub-from g c = subst (λ (k : ℕ). c.args.m.pages.front.sealed ≤ k) (sym c.per_block.ensures.pages) (le_of_lt c.requires.within.sealed)

pub overflow_sub-room : goal.overflow_sub-room
overflow_sub-room g c = subst (λ (k : ℕ). c.args.m.kept ≤ k) (sym c.room.ensures.pages) (le_of_lt c.requires.within.kept)

pub first_written-requires-clause-ordered : goal.first_written-requires-clause-ordered
first_written-requires-clause-ordered g c = rest-ordered c.args.m.kept c.args.m.pages.front.sealed c.per_block.ensures.pages c.room.ensures.pages c.requires.within.few

pub first_written-requires-clause-few : goal.first_written-requires-clause-few
first_written-requires-clause-few g c = rest-few c.args.m.kept c.room.ensures.pages

pub page_after-requires-clause-few : goal.page_after-requires-clause-few
page_after-requires-clause-few g c = rest-within c.args.m.kept c.room.ensures.pages (MatchOption-at_some _ _ c.in-Some.j c.in-Some.is c.in_ok-written.ensures.within)

pub returns-in-None-clause-blank : goal.returns-in-None-clause-blank
returns-in-None-clause-blank g c =
    λ told.
    let none = MatchOption-at_none _ _ c.in-None.is (c.in_ok-written.ensures.none told) in
    inr (subst (λ (p : ℕ). AreBlank (page_at (g.F.Flash.state c.args.flash.now)) (shape_of c.args.ring.now) c.args.m.at (p - c.args.m.pages.front.sealed) (room (shape_of c.args.ring.now) - c.args.m.kept)) c.per_block.ensures.pages
    (subst (λ (n : ℕ). AreBlank (page_at (g.F.Flash.state c.args.flash.now)) (shape_of c.args.ring.now) c.args.m.at (c.per_block.result - c.args.m.pages.front.sealed) (n - c.args.m.kept)) c.room.ensures.pages none))

pub returns-in-Some-clause-broken : goal.returns-in-Some-clause-broken
returns-in-Some-clause-broken g c =
    rw c.broken.ensures (λ told.
    let some = MatchOption-at_some _ _ c.in-Some.j c.in-Some.is (c.in_ok-written.ensures.some told) in (
      refl,
      record {
        must = c.may_wait.ensures.no c.if-may_wait.false;
        j = c.in-Some.j;
        first = subst (λ (p : ℕ). IsWritten (page_at (g.F.Flash.state c.args.flash.now)) (shape_of c.args.ring.now) c.args.m.at (p - c.args.m.pages.front.sealed) (room (shape_of c.args.ring.now) - c.args.m.kept) c.in-Some.j) c.per_block.ensures.pages
            (subst (λ (n : ℕ). IsWritten (page_at (g.F.Flash.state c.args.flash.now)) (shape_of c.args.ring.now) c.args.m.at (c.per_block.result - c.args.m.pages.front.sealed) (n - c.args.m.kept) c.in-Some.j) c.room.ensures.pages some);
        is = c.page_after.ensures.page;
      },
    ))
