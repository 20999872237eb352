use Rattle.std.proofs.Common.{ℕ, ◌+◌, refl, arith, ◌≡◌, ◌≤◌, sym, ◌∙◌, subst, inl, inr, ◌<◌}
use Rattle.std.proofs.lemmas.Bool.{not-false, not-true, false≢true}
use Rattle.std.proofs.lemmas.Result.{err_from_is_err_and}
use Rattle.fl_flash.specs.Flash.{page_at}
use Rattle.fl_ring.specs.Place.{shape_of}
use Rattle.fl_ring.proofs.ReadsInTurn.{fewer_reads}
use Rattle.fl_rules.proofs.Breaks.{written_some, begun_for}
use Rattle.fl_rules.proofs.OneMorePage.{some_more}
use Rattle.std.proofs.lemmas.Option.{MatchOption-at_none}
use Rattle.fl_frame.proofs.ReadsInTurn.{none_read}
use Rattle.fl_rules.proofs.Rooms.{page_small, count_small, block_within}
use Rattle.fl_rules.specs.States.{AreBlank}
use Rattle.fl_rules.proofs.rule_2_state.check_head.Goals as goal

next-few : {a b : ℕ} → a ≡ b → a + 1 ≤ b + 1
next-few same = omega (arith, same)

ordered-all : {n pages ordered : ℕ} → n ≡ pages → ordered ≤ pages → n ≤ ordered → ordered ≡ pages
ordered-all is most least = omega (arith, is, most, least)

not-last : {n pages : ℕ} (sealed : ℕ) → n ≡ pages → sealed + 1 < n → sealed + 1 ≡ pages → ⊥
not-last sealed is below last = omega (arith, is, below, last)

pub returns-in-Some-clause-broken : goal.returns-in-Some-clause-broken
returns-in-Some-clause-broken g c =
    let f = page_at (g.F.Flash.state c.args.flash.now) in
    let r = shape_of c.args.ring.now in
    let m = c.args.m in
    let count = c.per_block-count.ensures.pages in
    rw c.broken-in-Some.ensures (λ told kept. (
      refl,
      begun_for f r m c.page_in-in-Some.result kept (omega (arith, count, c.requires.within.ordered, c.if-m-count.false))
          (omega (arith, count, c.requires.within.sealed, c.if-m-count-2.false)) (not-false c.args.m.pages.front.torn c.if-not-m.false) c.in-Some.field-0
          (written_some f r m.at 1 (c.per_block-count.result + 1) (r.per_block + 1) c.in-Some.field-0 c.in_ok-written.written c.in-Some.is (omega (arith, count)) (c.in_ok-written.ensures.some told))
          c.page_in-in-Some.ensures.page,
    ))

pub returns-then-m-count-clause-reads : goal.returns-then-m-count-clause-reads
returns-then-m-count-clause-reads g c = none_read (g.F.Flash.state c.args.flash.now) ((shape_of c.args.ring.now).per_block + 1)

pub returns-then-m-count-clause-room : goal.returns-then-m-count-clause-room
returns-then-m-count-clause-room g c = c.requires.room

pub returns-then-m-count-2-clause-reads : goal.returns-then-m-count-2-clause-reads
returns-then-m-count-2-clause-reads g c = none_read (g.F.Flash.state c.args.flash.now) ((shape_of c.args.ring.now).per_block + 1)

pub returns-then-m-count-2-clause-room : goal.returns-then-m-count-2-clause-room
returns-then-m-count-2-clause-room g c = c.requires.room

pub returns-then-not-m-clause-reads : goal.returns-then-not-m-clause-reads
returns-then-not-m-clause-reads g c = none_read (g.F.Flash.state c.args.flash.now) ((shape_of c.args.ring.now).per_block + 1)

pub returns-then-not-m-clause-room : goal.returns-then-not-m-clause-room
returns-then-not-m-clause-room g c = c.requires.room

pub first_written-requires-clause-lies : goal.first_written-requires-clause-lies
first_written-requires-clause-lies g c = c.requires.lies

pub first_written-requires-clause-room : goal.first_written-requires-clause-room
first_written-requires-clause-room g c = c.requires.room

pub first_written-requires-clause-place : goal.first_written-requires-clause-place
first_written-requires-clause-place g c = c.requires.within.at

pub returns-in_err-written-clause-reads : goal.returns-in_err-written-clause-reads
returns-in_err-written-clause-reads g c = fewer_reads (g.F.Flash.state c.args.flash.now) (g.F.Flash.state c.first_written.new.flash) (c.per_block-count.result + 1) ((shape_of c.args.ring.now).per_block + 1) c.first_written.ensures.reads (next-few c.per_block-count.ensures.pages)

pub returns-in_err-written-clause-room : goal.returns-in_err-written-clause-room
returns-in_err-written-clause-room g c = c.first_written.ensures.room

pub returns-in_err-written-clause-states : goal.returns-in_err-written-clause-states
returns-in_err-written-clause-states g c =
    let p = err_from_is_err_and c.from_residual.result c.from_residual.ensures.1 in
    rw p.1 tt

pub returns-in_err-written-clause-broken : goal.returns-in_err-written-clause-broken
returns-in_err-written-clause-broken g c =
    let p = err_from_is_err_and c.from_residual.result c.from_residual.ensures.1 in
    rw (p.1, p.2) tt

pub returns-in_err-written-clause-fails : goal.returns-in_err-written-clause-fails
returns-in_err-written-clause-fails g c =
    let p = err_from_is_err_and c.from_residual.result c.from_residual.ensures.1 in
    rw (p.1, p.2) c.in_err-written.ensures.fails

pub returns-in-Some-clause-reads : goal.returns-in-Some-clause-reads
returns-in-Some-clause-reads g c = fewer_reads (g.F.Flash.state c.args.flash.now) (g.F.Flash.state c.first_written.new.flash) (c.per_block-count.result + 1) ((shape_of c.args.ring.now).per_block + 1) c.first_written.ensures.reads (next-few c.per_block-count.ensures.pages)

pub returns-in-Some-clause-room : goal.returns-in-Some-clause-room
returns-in-Some-clause-room g c = c.first_written.ensures.room

pub returns-in-None-clause-reads : goal.returns-in-None-clause-reads
returns-in-None-clause-reads g c = fewer_reads (g.F.Flash.state c.args.flash.now) (g.F.Flash.state c.first_written.new.flash) (c.per_block-count.result + 1) ((shape_of c.args.ring.now).per_block + 1) c.first_written.ensures.reads (next-few c.per_block-count.ensures.pages)

pub returns-in-None-clause-room : goal.returns-in-None-clause-room
returns-in-None-clause-room g c = c.first_written.ensures.room

pub returns-then-m-count-clause-states : goal.returns-then-m-count-clause-states
returns-then-m-count-clause-states g c = tt

pub returns-then-m-count-clause-fails : goal.returns-then-m-count-clause-fails
returns-then-m-count-clause-fails g c = rw c.broken.ensures tt

pub returns-then-m-count-2-clause-broken : goal.returns-then-m-count-2-clause-broken
returns-then-m-count-2-clause-broken g c = tt

pub returns-then-m-count-2-clause-fails : goal.returns-then-m-count-2-clause-fails
returns-then-m-count-2-clause-fails g c = tt

pub returns-then-not-m-clause-broken : goal.returns-then-not-m-clause-broken
returns-then-not-m-clause-broken g c = tt

pub returns-then-not-m-clause-fails : goal.returns-then-not-m-clause-fails
returns-then-not-m-clause-fails g c = tt

pub returns-in-Some-clause-states : goal.returns-in-Some-clause-states
returns-in-Some-clause-states g c = tt

pub returns-in-Some-clause-fails : goal.returns-in-Some-clause-fails
returns-in-Some-clause-fails g c = rw c.broken-in-Some.ensures tt

pub returns-in-None-clause-broken : goal.returns-in-None-clause-broken
returns-in-None-clause-broken g c = tt

pub returns-in-None-clause-fails : goal.returns-in-None-clause-fails
returns-in-None-clause-fails g c = tt

pub page_in-requires-clause-block : goal.page_in-requires-clause-block
page_in-requires-clause-block g c = c.requires.within.head

pub page_in-requires-clause-page : goal.page_in-requires-clause-page
page_in-requires-clause-page g c = subst (λ (k : ℕ). c.args.m.pages.ordered < k) c.per_block-count.ensures.pages c.if-m-count.true

pub returns-then-m-count-clause-broken : goal.returns-then-m-count-clause-broken
returns-then-m-count-clause-broken g c =
    rw c.broken.ensures (λ told kept. (
      refl,
      inr (inl (record {
        kept = kept;
        some = subst (λ (k : ℕ). c.args.m.pages.ordered < k) c.per_block-count.ensures.pages c.if-m-count.true;
        is = c.page_in.ensures.page;
      })),
    ))

pub overflow_add-m : goal.overflow_add-m
overflow_add-m g c = record { fits = page_small c.requires.within.sealed c.args.ring.now.small_blocks }

pub returns-then-m-count-2-clause-states : goal.returns-then-m-count-2-clause-states
returns-then-m-count-2-clause-states g c =
    λ told kept. record {
      kept = kept;
      ordered = ordered-all c.per_block-count.ensures.pages c.requires.within.ordered c.if-m-count.false;
      ahead = λ last. absurd (not-last c.args.m.pages.front.sealed c.per_block-count.ensures.pages c.if-m-count-2.true last);
    }

pub returns-then-not-m-clause-states : goal.returns-then-not-m-clause-states
returns-then-not-m-clause-states g c =
    λ told kept. record {
      kept = kept;
      ordered = ordered-all c.per_block-count.ensures.pages c.requires.within.ordered c.if-m-count.false;
      ahead = λ last torn. absurd (false≢true (sym (not-true c.args.m.pages.front.torn c.if-not-m.true) ∙ torn));
    }

pub overflow_add-count : goal.overflow_add-count
overflow_add-count g c = record { fits = count_small c.per_block-count.ensures.few }

pub first_written-requires-clause-ordered : goal.first_written-requires-clause-ordered
first_written-requires-clause-ordered g c = some_more _

pub first_written-requires-clause-few : goal.first_written-requires-clause-few
first_written-requires-clause-few g c = block_within _ c.args.ring.now.blocks c.args.ring.now.per_block c.per_block-count.ensures.pages c.args.ring.now.served.blocks c.args.ring.now.served.per_block

pub page_in-requires-in-Some-clause-block : goal.page_in-requires-in-Some-clause-block
page_in-requires-in-Some-clause-block g c = c.requires.within.head

pub page_in-requires-in-Some-clause-page : goal.page_in-requires-in-Some-clause-page
page_in-requires-in-Some-clause-page g c = c.requires.within.sealed

pub returns-in-None-clause-states : goal.returns-in-None-clause-states
returns-in-None-clause-states g c =
    λ told kept. record {
      kept = kept;
      ordered = ordered-all c.per_block-count.ensures.pages c.requires.within.ordered c.if-m-count.false;
      ahead = λ last torn. subst (λ (k : ℕ). AreBlank (page_at (g.F.Flash.state c.args.flash.now)) (shape_of c.args.ring.now) c.args.m.at 1 (k + 1)) c.per_block-count.ensures.pages (MatchOption-at_none _ _ c.in-None.is (c.in_ok-written.ensures.none told));
    }
