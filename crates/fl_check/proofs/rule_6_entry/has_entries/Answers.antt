use Rattle.std.proofs.Common.{ℕ, List, ◌+◌, ◌*◌, ◌≤◌, inl, inr, sym, subst, arith, le_antisymm}
use Rattle.std.proofs.Math.Nat.{mul-le-mul_right}
use Rattle.std.proofs.lemmas.Bool.{cases_eq, true≢false, false≢true}
use Rattle.fl_flash.specs.Flash.{page_at}
use Rattle.fl_index.specs.Page.{form_len}
use Rattle.fl_ring.specs.Place.{shape_of}
use Rattle.fl_ring.proofs.Founds.{same_pages}
use Rattle.fl_frame.proofs.ReadsInTurn.{more_reads, told_still}
use Rattle.fl_check.specs.Entries.{over, IsEntry}
use Rattle.std.proofs.lemmas.Result.{err_from_is_err_and}
use Rattle.fl_rules.proofs.OneMorePage.{read_fails}
use Rattle.fl_ring.proofs.Exists.{lies_still}
use Rattle.fl_ring.proofs.ReadsInTurn.{fewer_reads}
use Rattle.fl_rules.specs.Claims.{AllBelow}
use Rattle.fl_check.proofs.rule_6_entry.has_entries.Goals as goal

pub is_entry-requires-clause-entry : goal.is_entry-requires-clause-entry
is_entry-requires-clause-entry g c =
    let up : (c.loop-j.j + 1) * form_len c.args.l.form ≤ c.args.many * form_len c.args.l.form = mul-le-mul_right (form_len c.args.l.form) (omega (arith, c.loop-j-test.true)) in
    omega (arith, up, c.requires.entries)

pub returns-then-not-is-clause-reads : goal.returns-then-not-is-clause-reads
returns-then-not-is-clause-reads g c =
    let f = g.F.Flash.state c.args.flash.now in
    fewer_reads f (g.F.Flash.state c.is_entry.new.flash) _ _ (more_reads f (g.F.Flash.state c.loop-j.flash) (g.F.Flash.state c.is_entry.new.flash) _ _ c.loop-j.invariant.reads c.is_entry.ensures.reads)
    (omega (arith, c.loop-j-test.true))

pub returns-then-not-is-clause-no : goal.returns-then-not-is-clause-no
returns-then-not-is-clause-no g c =
    let f = g.F.Flash.state c.args.flash.now in
    let before = g.F.Flash.state c.loop-j.flash in
    λ no told all. c.in_ok-is.ensures.no c.if-not-is.true (told_still f before _ c.loop-j.invariant.reads told)
    (subst (λ (page : ℕ → List ℕ). IsEntry page (shape_of c.args.rows.now) (over c.args.l) c.args.listing.now c.loop-j.j) (sym (same_pages f before _ c.loop-j.invariant.reads)) (all c.loop-j.j c.loop-j-test.true))

pub loop-j-preserved : goal.loop-j-preserved
loop-j-preserved g c =
    let f = g.F.Flash.state c.args.flash.now in
    let before = g.F.Flash.state c.loop-j.flash in
    let reads = c.loop-j.invariant.reads in
    record {
      reads = fewer_reads f (g.F.Flash.state c.is_entry.new.flash) _ _ (more_reads f before (g.F.Flash.state c.is_entry.new.flash) _ _ reads c.is_entry.ensures.reads) (omega arith);
      room = c.is_entry.ensures.room;
      entries = λ told i lt. elim (cases_eq i c.loop-j.j) [
        | inl same ↦
            subst (λ (k : ℕ). IsEntry (page_at f) (shape_of c.args.rows.now) (over c.args.l) c.args.listing.now k) (sym same)
            (subst (λ (page : ℕ → List ℕ). IsEntry page (shape_of c.args.rows.now) (over c.args.l) c.args.listing.now c.loop-j.j) (same_pages f before _ reads)
            (c.in_ok-is.ensures.yes c.if-not-is.false (told_still f before _ reads told)))
        | inr other ↦ c.loop-j.invariant.entries told i (omega (arith, other, lt))
      ];
    }

pub returns-in_err-is-clause-room : goal.returns-in_err-is-clause-room
returns-in_err-is-clause-room g c = c.is_entry.ensures.room

pub returns-in_err-is-clause-yes : goal.returns-in_err-is-clause-yes
returns-in_err-is-clause-yes g c =
    let p = err_from_is_err_and c.from_residual.result c.from_residual.ensures.1 in
    rw p.1 tt

pub returns-in_err-is-clause-no : goal.returns-in_err-is-clause-no
returns-in_err-is-clause-no g c =
    let p = err_from_is_err_and c.from_residual.result c.from_residual.ensures.1 in
    rw p.1 tt

pub returns-in_err-is-clause-fails : goal.returns-in_err-is-clause-fails
returns-in_err-is-clause-fails g c =
    let p = err_from_is_err_and c.from_residual.result c.from_residual.ensures.1 in
    rw (p.1, p.2) (read_fails (g.F.Flash.state c.args.flash.now) (g.F.Flash.state c.loop-j.flash) (g.F.Flash.state c.is_entry.new.flash) _ 0 c.loop-j.invariant.reads c.in_err-is.field-0.0 c.in_err-is.ensures.fails)

pub returns-then-not-is-clause-room : goal.returns-then-not-is-clause-room
returns-then-not-is-clause-room g c = c.is_entry.ensures.room

pub returns-then-not-is-clause-fails : goal.returns-then-not-is-clause-fails
returns-then-not-is-clause-fails g c = tt

pub returns-clause-room : goal.returns-clause-room
returns-clause-room g c = c.loop-j.invariant.room

pub returns-clause-fails : goal.returns-clause-fails
returns-clause-fails g c = tt

pub is_entry-requires-clause-lies : goal.is_entry-requires-clause-lies
is_entry-requires-clause-lies g c = lies_still c.args.rows.now (g.F.Flash.state c.args.flash.now) (g.F.Flash.state c.loop-j.flash) c.requires.lies c.loop-j.invariant.reads.goes

pub is_entry-requires-clause-room : goal.is_entry-requires-clause-room
is_entry-requires-clause-room g c = c.loop-j.invariant.room

pub is_entry-requires-clause-within : goal.is_entry-requires-clause-within
is_entry-requires-clause-within g c = c.requires.within

pub is_entry-requires-clause-some : goal.is_entry-requires-clause-some
is_entry-requires-clause-some g c = c.requires.some

pub is_entry-requires-clause-few : goal.is_entry-requires-clause-few
is_entry-requires-clause-few g c = c.requires.few

pub is_entry-requires-clause-short : goal.is_entry-requires-clause-short
is_entry-requires-clause-short g c = c.requires.short

pub returns-in_err-is-clause-reads : goal.returns-in_err-is-clause-reads
returns-in_err-is-clause-reads g c =
    let f = g.F.Flash.state c.args.flash.now in
    fewer_reads f (g.F.Flash.state c.is_entry.new.flash) _ _ (more_reads f (g.F.Flash.state c.loop-j.flash) (g.F.Flash.state c.is_entry.new.flash) _ _ c.loop-j.invariant.reads c.is_entry.ensures.reads)
    (omega (arith, c.loop-j-test.true))

pub returns-then-not-is-clause-yes : goal.returns-then-not-is-clause-yes
returns-then-not-is-clause-yes g c = λ yes. absurd (false≢true yes)

pub returns-clause-yes : goal.returns-clause-yes
returns-clause-yes g c = λ yes told.
    subst (λ (k : ℕ). AllBelow (IsEntry (page_at (g.F.Flash.state c.args.flash.now)) (shape_of c.args.rows.now) (over c.args.l) c.args.listing.now) k) (le_antisymm c.loop-j.auto.j-end c.loop-j-test.false)
    (c.loop-j.invariant.entries told)

pub returns-clause-no : goal.returns-clause-no
returns-clause-no g c = λ no. absurd (true≢false no)
