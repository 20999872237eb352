use Rattle.std.proofs.Common.{◌≡◌, ℕ, List, ◌+◌, ◌-◌, ◌<◌, ◌≤◌, Option, IfSome, IfNone, refl, sym, subst, arith}
use Rattle.fl_flash.specs.Flash.{page_at}
use Rattle.fl_frame.specs.Reads.{OnlyReads}
use Rattle.fl_ring.specs.Place.{shape_of}
use Rattle.fl_ring.proofs.Founds.{same_pages}
use Rattle.fl_ring.proofs.ReadsInTurn.{fewer_reads}
use Rattle.fl_frame.proofs.ReadsInTurn.{more_reads, told_still, none_read}
use Rattle.fl_rules.specs.Claims.{FailsFirst}
use Rattle.fl_check.specs.Entries.{over, kept_below, AreSeen, HasEntries}
use Rattle.fl_check.specs.declared.rule_6_entry.Seen.{Seen}
use Rattle.fl_check.proofs.ListedPages.{none_seen, all_entered, overrun}
use Rattle.std.proofs.lemmas.Result.{err_from_is_err_and}
use Rattle.fl_rules.proofs.OneMorePage.{read_fails}
use Rattle.fl_check.proofs.rule_6_entry.first_misentered.Goals as goal

pub loop-i-init : goal.loop-i-init
loop-i-init g c =
    let f = g.F.Flash.state c.args.flash.now in
    record {
      reads = none_read f _;
      listing = c.requires.listing;
      room = c.requires.room;
      few = omega arith;
      last = λ some. absurd (omega (arith, some));
      seen = λ told. none_seen (page_at f) (shape_of c.args.index.now) (shape_of c.args.rows.now) (over c.args.l) (record { last = 0; end = 0 }) refl;
    }

pub loop-i-preserved : goal.loop-i-preserved
loop-i-preserved g c =
    let f = g.F.Flash.state c.args.flash.now in
    let before = g.F.Flash.state c.loop-i.flash in
    let after = g.F.Flash.state c.see_listing.new.flash in
    let index = shape_of c.args.index.now in
    let rows = shape_of c.args.rows.now in
    let l = over c.args.l in
    let reads = c.loop-i.invariant.reads in
    let same = same_pages f before _ reads in
    let few = subst (λ (o : Option Seen). IfSome o (λ s. (OnlyReads before (1 + (kept_below l.rows s.end - kept_below l.rows c.loop-i.seen.end)) after) × (c.loop-i.seen.end ≤ s.end))) c.in-Some.is c.in_ok-step.ensures.few_reads in
    record {
      reads = fewer_reads f after _ _ (more_reads f before after _ _ reads few.0) (omega (arith, few.1));
      listing = c.see_listing.ensures.listing;
      room = c.see_listing.ensures.room;
      few = omega (arith, c.loop-i-test.true);
      last = subst (λ (o : Option Seen). IfSome o (λ s. 0 < s.end → s.last < c.loop-i.i + 1)) c.in-Some.is c.in_ok-step.ensures.last;
      seen = λ told. subst (λ (page : ℕ → List ℕ). AreSeen page index rows l (c.loop-i.i + 1) c.in-Some.more) same
          (subst (λ (o : Option Seen). IfSome o (AreSeen (page_at before) index rows l (c.loop-i.i + 1))) c.in-Some.is
          (c.in_ok-step.ensures.some (told_still f before _ reads told) (subst (λ (page : ℕ → List ℕ). AreSeen page index rows l c.loop-i.i c.loop-i.seen) (sym same) (c.loop-i.invariant.seen told))));
    }

pub returns-in-None-clause-reads : goal.returns-in-None-clause-reads
returns-in-None-clause-reads g c =
    let f = g.F.Flash.state c.args.flash.now in
    let after = g.F.Flash.state c.see_listing.new.flash in
    fewer_reads f after _ _ (more_reads f (g.F.Flash.state c.loop-i.flash) after _ _ c.loop-i.invariant.reads c.see_listing.ensures.reads) (omega (arith, c.loop-i-test.true))

pub returns-in-None-clause-some : goal.returns-in-None-clause-some
returns-in-None-clause-some g c =
    let f = g.F.Flash.state c.args.flash.now in
    let before = g.F.Flash.state c.loop-i.flash in
    let index = shape_of c.args.index.now in
    let rows = shape_of c.args.rows.now in
    let l = over c.args.l in
    let reads = c.loop-i.invariant.reads in
    let same = same_pages f before _ reads in
    λ told. subst (λ (page : ℕ → List ℕ). FailsFirst (HasEntries page index rows l) l.index.kept c.loop-i.i) same
    (subst (λ (o : Option Seen). IfNone o (FailsFirst (HasEntries (page_at before) index rows l) l.index.kept c.loop-i.i)) c.in-None.is
    (c.in_ok-step.ensures.none (told_still f before _ reads told) (subst (λ (page : ℕ → List ℕ). AreSeen page index rows l c.loop-i.i c.loop-i.seen) (sym same) (c.loop-i.invariant.seen told))))

pub returns-then-next-seen-clause-reads : goal.returns-then-next-seen-clause-reads
returns-then-next-seen-clause-reads g c =
    fewer_reads (g.F.Flash.state c.args.flash.now) (g.F.Flash.state c.loop-i.flash) _ _ c.loop-i.invariant.reads (omega (arith, c.loop-i.invariant.few))

pub returns-then-next-seen-clause-some : goal.returns-then-next-seen-clause-some
returns-then-next-seen-clause-some g c =
    let page = page_at (g.F.Flash.state c.args.flash.now) in
    let index = shape_of c.args.index.now in
    let rows = shape_of c.args.rows.now in
    let l = over c.args.l in
    let all : c.loop-i.i ≡ l.index.kept = omega (arith, c.loop-i.invariant.few, c.loop-i-test.false) in
    λ told. overrun page index rows l c.loop-i.seen (subst (λ (n : ℕ). AreSeen page index rows l n c.loop-i.seen) all (c.loop-i.invariant.seen told)) (omega (arith, c.if-next-seen.true, c.from-next.ensures))

pub returns-then-next-seen-clause-within : goal.returns-then-next-seen-clause-within
returns-then-next-seen-clause-within g c =
    let last = c.loop-i.invariant.last (omega (arith, c.if-next-seen.true)) in
    omega (arith, last, c.loop-i.invariant.few)

pub returns-clause-reads : goal.returns-clause-reads
returns-clause-reads g c =
    fewer_reads (g.F.Flash.state c.args.flash.now) (g.F.Flash.state c.loop-i.flash) _ _ c.loop-i.invariant.reads (omega (arith, c.loop-i.invariant.few))

pub returns-clause-none : goal.returns-clause-none
returns-clause-none g c =
    let page = page_at (g.F.Flash.state c.args.flash.now) in
    let index = shape_of c.args.index.now in
    let rows = shape_of c.args.rows.now in
    let l = over c.args.l in
    let all : c.loop-i.i ≡ l.index.kept = omega (arith, c.loop-i.invariant.few, c.loop-i-test.false) in
    λ told. all_entered page index rows l c.loop-i.seen (subst (λ (n : ℕ). AreSeen page index rows l n c.loop-i.seen) all (c.loop-i.invariant.seen told)) (omega (arith, c.if-next-seen.false, c.from-next.ensures))

pub returns-in_err-step-clause-listing : goal.returns-in_err-step-clause-listing
returns-in_err-step-clause-listing g c = c.see_listing.ensures.listing

pub returns-in_err-step-clause-room : goal.returns-in_err-step-clause-room
returns-in_err-step-clause-room g c = c.see_listing.ensures.room

pub returns-in_err-step-clause-none : goal.returns-in_err-step-clause-none
returns-in_err-step-clause-none g c =
    let p = err_from_is_err_and c.from_residual.result c.from_residual.ensures.1 in
    rw p.1 tt

pub returns-in_err-step-clause-some : goal.returns-in_err-step-clause-some
returns-in_err-step-clause-some g c =
    let p = err_from_is_err_and c.from_residual.result c.from_residual.ensures.1 in
    rw p.1 tt

pub returns-in_err-step-clause-within : goal.returns-in_err-step-clause-within
returns-in_err-step-clause-within g c =
    let p = err_from_is_err_and c.from_residual.result c.from_residual.ensures.1 in
    rw p.1 tt

pub returns-in_err-step-clause-fails : goal.returns-in_err-step-clause-fails
returns-in_err-step-clause-fails g c =
    let p = err_from_is_err_and c.from_residual.result c.from_residual.ensures.1 in
    rw (p.1, p.2) (read_fails (g.F.Flash.state c.args.flash.now) (g.F.Flash.state c.loop-i.flash) (g.F.Flash.state c.see_listing.new.flash) _ 0 c.loop-i.invariant.reads c.in_err-step.field-0.0 c.in_err-step.ensures.fails)

pub returns-in-None-clause-listing : goal.returns-in-None-clause-listing
returns-in-None-clause-listing g c = c.see_listing.ensures.listing

pub returns-in-None-clause-room : goal.returns-in-None-clause-room
returns-in-None-clause-room g c = c.see_listing.ensures.room

pub returns-in-None-clause-none : goal.returns-in-None-clause-none
returns-in-None-clause-none g c = λ told. tt

pub returns-in-None-clause-within : goal.returns-in-None-clause-within
returns-in-None-clause-within g c = c.loop-i-test.true

pub returns-in-None-clause-fails : goal.returns-in-None-clause-fails
returns-in-None-clause-fails g c = tt

pub returns-then-next-seen-clause-listing : goal.returns-then-next-seen-clause-listing
returns-then-next-seen-clause-listing g c = c.loop-i.invariant.listing

pub returns-then-next-seen-clause-room : goal.returns-then-next-seen-clause-room
returns-then-next-seen-clause-room g c = c.loop-i.invariant.room

pub returns-then-next-seen-clause-none : goal.returns-then-next-seen-clause-none
returns-then-next-seen-clause-none g c = λ told. tt

pub returns-then-next-seen-clause-fails : goal.returns-then-next-seen-clause-fails
returns-then-next-seen-clause-fails g c = tt

pub returns-clause-listing : goal.returns-clause-listing
returns-clause-listing g c = c.loop-i.invariant.listing

pub returns-clause-room : goal.returns-clause-room
returns-clause-room g c = c.loop-i.invariant.room

pub returns-clause-some : goal.returns-clause-some
returns-clause-some g c = λ told. tt

pub returns-clause-within : goal.returns-clause-within
returns-clause-within g c = tt

pub returns-clause-fails : goal.returns-clause-fails
returns-clause-fails g c = tt
