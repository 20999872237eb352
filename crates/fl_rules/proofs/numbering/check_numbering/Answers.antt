use Rattle.std.proofs.Common.{ℕ, ◌+◌, ◌*◌, ◌<◌, ◌≤◌, List, refl, sym, subst, arith}
use Rattle.std.proofs.lemmas.Result.{err_from_is_err_and}
use Rattle.fl_flash.specs.Flash.{page_at}
use Rattle.fl_frame.proofs.ReadsInTurn.{looks_by, more_reads, looks_pages}
use Rattle.fl_ring.specs.Place.{shape_of}
use Rattle.fl_ring.specs.Ring.{room}
use Rattle.fl_ring.proofs.Exists.{lies_still}
use Rattle.fl_ring.proofs.ReadsInTurn.{fewer_reads}
use Rattle.fl_rules.specs.Numbering.{BreaksStates, BreaksNumbers, BreaksFirst, numbering_reads}
use Rattle.fl_rules.specs.Numbers.{HaveNumbers, NumbersBreak}
use Rattle.fl_rules.specs.States.{HaveStates, StatesBreak}
use Rattle.fl_rules.specs.declared.rule.Breach.{Breach}
use Rattle.fl_rules.specs.declared.rule.Rule.{Rule}
use Rattle.fl_rules.proofs.Results.{broken_so, flash_so, no_fault, same_fault}
use Rattle.fl_rules.proofs.LooksChangeNothing.{seen, told_still, fails_later}
use Rattle.fl_rules.proofs.numbering.check_numbering.Goals as goal

-- ---- the reads

marks-few : (blocks per_block all : ℕ) → blocks + per_block ≤ blocks + 2 * per_block + 1 + 3 * all
marks-few blocks per_block all = omega arith

states-few : (blocks per_block all kept : ℕ) → kept < all → blocks + per_block + (kept + (per_block + 1)) ≤ blocks + 2 * per_block + 1 + 3 * all
states-few blocks per_block all kept lt = omega (arith, lt)

numbers-few : (blocks per_block all kept : ℕ) → kept < all → blocks + per_block + (kept + (per_block + 1)) + (kept + kept) ≤ blocks + 2 * per_block + 1 + 3 * all
numbers-few blocks per_block all kept lt = omega (arith, lt)

-- ---- the goals

pub returns-in_err-marks-clause-reads : goal.returns-in_err-marks-clause-reads
returns-in_err-marks-clause-reads g c =
    let f = g.F.Flash.state c.args.flash.now in
    let second = g.F.Flash.state c.read_marks.new.flash in
    let r = shape_of c.args.ring.now in
    fewer_reads f second (r.blocks + r.per_block) (numbering_reads r) c.read_marks.ensures.reads (marks-few r.blocks r.per_block (room r))

pub returns-in_err-marks-clause-room : goal.returns-in_err-marks-clause-room
returns-in_err-marks-clause-room g c = c.read_marks.ensures.room

pub returns-in_err-marks-clause-numbered : goal.returns-in_err-marks-clause-numbered
returns-in_err-marks-clause-numbered g c =
    let p = err_from_is_err_and c.from_residual.result c.from_residual.ensures.1 in
    rw p.1 tt

pub returns-in_err-marks-clause-within : goal.returns-in_err-marks-clause-within
returns-in_err-marks-clause-within g c =
    let p = err_from_is_err_and c.from_residual.result c.from_residual.ensures.1 in
    rw p.1 tt

pub returns-in_err-marks-clause-broken : goal.returns-in_err-marks-clause-broken
returns-in_err-marks-clause-broken g c =
    let p = err_from_is_err_and c.from_residual.result c.from_residual.ensures.1 in
    rw (p.1, p.2) (broken_so _ _ c.in_err-marks.field-0.0
    (λ b breaks told.
    let both = breaks told in
    subst (λ (at : Breach). BreaksFirst (page_at (g.F.Flash.state c.args.flash.now)) (shape_of c.args.ring.now) c.args.at_least at.rule at.page) (sym both.1) (both.0, refl)) c.in_err-marks.ensures.broken)

pub returns-in_err-marks-clause-fails : goal.returns-in_err-marks-clause-fails
returns-in_err-marks-clause-fails g c =
    let p = err_from_is_err_and c.from_residual.result c.from_residual.ensures.1 in
    rw (p.1, p.2) c.in_err-marks.ensures.fails

pub returns-in_err-marks-clause-off : goal.returns-in_err-marks-clause-off
returns-in_err-marks-clause-off g c =
    let p = err_from_is_err_and c.from_residual.result c.from_residual.ensures.1 in
    rw (p.1, p.2) (λ off. let both = c.in_err-marks.ensures.off off in (same_fault both.0, both.1))

pub check_states-requires-clause-lies : goal.check_states-requires-clause-lies
check_states-requires-clause-lies g c = lies_still c.args.ring.now (g.F.Flash.state c.args.flash.now) (g.F.Flash.state c.read_marks.new.flash) c.requires.lies c.read_marks.ensures.reads.goes

pub check_states-requires-clause-room : goal.check_states-requires-clause-room
check_states-requires-clause-room g c = c.read_marks.ensures.room

pub check_states-requires-clause-within : goal.check_states-requires-clause-within
check_states-requires-clause-within g c = c.in_ok-marks.ensures.within

pub returns-in_err-check_states-clause-reads : goal.returns-in_err-check_states-clause-reads
returns-in_err-check_states-clause-reads g c =
    let f = g.F.Flash.state c.args.flash.now in
    let second = g.F.Flash.state c.read_marks.new.flash in
    let r = shape_of c.args.ring.now in
    let third = g.F.Flash.state c.check_states.new.flash in
    let m = c.in_ok-marks.marks in
    fewer_reads f third _ (numbering_reads r) (more_reads f second third (r.blocks + r.per_block) (m.kept + (r.per_block + 1)) c.read_marks.ensures.reads c.check_states.ensures.reads)
    (states-few r.blocks r.per_block (room r) m.kept c.in_ok-marks.ensures.within.kept)

pub returns-in_err-check_states-clause-room : goal.returns-in_err-check_states-clause-room
returns-in_err-check_states-clause-room g c = c.check_states.ensures.room

pub returns-in_err-check_states-clause-numbered : goal.returns-in_err-check_states-clause-numbered
returns-in_err-check_states-clause-numbered g c =
    let p = err_from_is_err_and c.from_residual-in_err-check_states.result c.from_residual-in_err-check_states.ensures.1 in
    rw p.1 tt

pub returns-in_err-check_states-clause-within : goal.returns-in_err-check_states-clause-within
returns-in_err-check_states-clause-within g c =
    let p = err_from_is_err_and c.from_residual-in_err-check_states.result c.from_residual-in_err-check_states.ensures.1 in
    rw p.1 tt

pub returns-in_err-check_states-clause-broken : goal.returns-in_err-check_states-clause-broken
returns-in_err-check_states-clause-broken g c =
    let f = g.F.Flash.state c.args.flash.now in
    let second = g.F.Flash.state c.read_marks.new.flash in
    let r = shape_of c.args.ring.now in
    let m = c.in_ok-marks.marks in
    let looks = looks_by f second (r.blocks + r.per_block) c.read_marks.ensures.reads in
    let p = err_from_is_err_and c.from_residual-in_err-check_states.result c.from_residual-in_err-check_states.ensures.1 in
    rw (p.1, p.2) (broken_so _ _ c.in_err-check_states.field-0.0
    (λ b breaks told.
    let both = breaks (told_still f second looks told) in
    let here : BreaksStates (page_at f) r b.page = record { m = m; marks = c.in_ok-marks.ensures.marks told; breaks = subst (λ (page : ℕ → List ℕ). StatesBreak page r m b.page) (looks_pages f second looks) both.1 } in
    subst (λ (rule : Rule). BreaksFirst (page_at f) r c.args.at_least rule b.page) (sym both.0) here)
    c.in_err-check_states.ensures.broken)

pub returns-in_err-check_states-clause-fails : goal.returns-in_err-check_states-clause-fails
returns-in_err-check_states-clause-fails g c =
    let f = g.F.Flash.state c.args.flash.now in
    let second = g.F.Flash.state c.read_marks.new.flash in
    let r = shape_of c.args.ring.now in
    let third = g.F.Flash.state c.check_states.new.flash in
    let looks = looks_by f second (r.blocks + r.per_block) c.read_marks.ensures.reads in
    let p = err_from_is_err_and c.from_residual-in_err-check_states.result c.from_residual-in_err-check_states.ensures.1 in
    rw (p.1, p.2) (flash_so _ _ c.in_err-check_states.field-0.0 (λ e fails. fails_later f second third e looks fails) c.in_err-check_states.ensures.fails)

pub returns-in_err-check_states-clause-off : goal.returns-in_err-check_states-clause-off
returns-in_err-check_states-clause-off g c = λ off. absurd (no_fault (c.in_ok-marks.ensures.off off).0)

pub check_numbers-requires-clause-lies : goal.check_numbers-requires-clause-lies
check_numbers-requires-clause-lies g c =
    let f = g.F.Flash.state c.args.flash.now in
    let second = g.F.Flash.state c.read_marks.new.flash in
    let r = shape_of c.args.ring.now in
    let third = g.F.Flash.state c.check_states.new.flash in
    let m = c.in_ok-marks.marks in
    lies_still c.args.ring.now f third c.requires.lies (more_reads f second third (r.blocks + r.per_block) (m.kept + (r.per_block + 1)) c.read_marks.ensures.reads c.check_states.ensures.reads).goes

pub check_numbers-requires-clause-room : goal.check_numbers-requires-clause-room
check_numbers-requires-clause-room g c = c.check_states.ensures.room

pub check_numbers-requires-clause-within : goal.check_numbers-requires-clause-within
check_numbers-requires-clause-within g c = c.in_ok-marks.ensures.within

pub returns-in_err-next-clause-reads : goal.returns-in_err-next-clause-reads
returns-in_err-next-clause-reads g c =
    let f = g.F.Flash.state c.args.flash.now in
    let second = g.F.Flash.state c.read_marks.new.flash in
    let r = shape_of c.args.ring.now in
    let third = g.F.Flash.state c.check_states.new.flash in
    let m = c.in_ok-marks.marks in
    let last = g.F.Flash.state c.check_numbers.new.flash in
    fewer_reads f last _ (numbering_reads r) (more_reads f third last _ (m.kept + m.kept) (more_reads f second third (r.blocks + r.per_block) (m.kept + (r.per_block + 1)) c.read_marks.ensures.reads c.check_states.ensures.reads) c.check_numbers.ensures.reads)
    (numbers-few r.blocks r.per_block (room r) m.kept c.in_ok-marks.ensures.within.kept)

pub returns-in_err-next-clause-room : goal.returns-in_err-next-clause-room
returns-in_err-next-clause-room g c = c.check_numbers.ensures.room

pub returns-in_err-next-clause-numbered : goal.returns-in_err-next-clause-numbered
returns-in_err-next-clause-numbered g c =
    let p = err_from_is_err_and c.from_residual-in_err-next.result c.from_residual-in_err-next.ensures.1 in
    rw p.1 tt

pub returns-in_err-next-clause-within : goal.returns-in_err-next-clause-within
returns-in_err-next-clause-within g c =
    let p = err_from_is_err_and c.from_residual-in_err-next.result c.from_residual-in_err-next.ensures.1 in
    rw p.1 tt

pub returns-in_err-next-clause-broken : goal.returns-in_err-next-clause-broken
returns-in_err-next-clause-broken g c =
    let f = g.F.Flash.state c.args.flash.now in
    let second = g.F.Flash.state c.read_marks.new.flash in
    let r = shape_of c.args.ring.now in
    let third = g.F.Flash.state c.check_states.new.flash in
    let m = c.in_ok-marks.marks in
    let looks = looks_by f second (r.blocks + r.per_block) c.read_marks.ensures.reads in
    let later = looks_by f third _ (more_reads f second third (r.blocks + r.per_block) (m.kept + (r.per_block + 1)) c.read_marks.ensures.reads c.check_states.ensures.reads) in
    let p = err_from_is_err_and c.from_residual-in_err-next.result c.from_residual-in_err-next.ensures.1 in
    rw (p.1, p.2) (broken_so _ _ c.in_err-next.field-0.0
    (λ b breaks told.
    let both = breaks (told_still f third later told) in
    let here : BreaksNumbers (page_at f) r c.args.at_least b.page = record {
      m = m;
      marks = c.in_ok-marks.ensures.marks told;
      states = seen f second (λ (page : ℕ → List ℕ). HaveStates page r m) looks c.in_ok-check_states.ensures.states told;
      breaks = subst (λ (page : ℕ → List ℕ). NumbersBreak page r m c.args.at_least b.page) (looks_pages f third later) both.1;
    } in
    subst (λ (rule : Rule). BreaksFirst (page_at f) r c.args.at_least rule b.page) (sym both.0) here)
    c.in_err-next.ensures.broken)

pub returns-in_err-next-clause-fails : goal.returns-in_err-next-clause-fails
returns-in_err-next-clause-fails g c =
    let f = g.F.Flash.state c.args.flash.now in
    let second = g.F.Flash.state c.read_marks.new.flash in
    let r = shape_of c.args.ring.now in
    let third = g.F.Flash.state c.check_states.new.flash in
    let m = c.in_ok-marks.marks in
    let last = g.F.Flash.state c.check_numbers.new.flash in
    let later = looks_by f third _ (more_reads f second third (r.blocks + r.per_block) (m.kept + (r.per_block + 1)) c.read_marks.ensures.reads c.check_states.ensures.reads) in
    let p = err_from_is_err_and c.from_residual-in_err-next.result c.from_residual-in_err-next.ensures.1 in
    rw (p.1, p.2) (flash_so _ _ c.in_err-next.field-0.0 (λ e fails. fails_later f third last e later fails) c.in_err-next.ensures.fails)

pub returns-in_err-next-clause-off : goal.returns-in_err-next-clause-off
returns-in_err-next-clause-off g c = λ off. absurd (no_fault (c.in_ok-marks.ensures.off off).0)

pub returns-clause-reads : goal.returns-clause-reads
returns-clause-reads g c =
    let f = g.F.Flash.state c.args.flash.now in
    let second = g.F.Flash.state c.read_marks.new.flash in
    let r = shape_of c.args.ring.now in
    let third = g.F.Flash.state c.check_states.new.flash in
    let m = c.in_ok-marks.marks in
    let last = g.F.Flash.state c.check_numbers.new.flash in
    fewer_reads f last _ (numbering_reads r) (more_reads f third last _ (m.kept + m.kept) (more_reads f second third (r.blocks + r.per_block) (m.kept + (r.per_block + 1)) c.read_marks.ensures.reads c.check_states.ensures.reads) c.check_numbers.ensures.reads)
    (numbers-few r.blocks r.per_block (room r) m.kept c.in_ok-marks.ensures.within.kept)

pub returns-clause-room : goal.returns-clause-room
returns-clause-room g c = c.check_numbers.ensures.room

pub returns-clause-numbered : goal.returns-clause-numbered
returns-clause-numbered g c =
    let f = g.F.Flash.state c.args.flash.now in
    let second = g.F.Flash.state c.read_marks.new.flash in
    let r = shape_of c.args.ring.now in
    let third = g.F.Flash.state c.check_states.new.flash in
    let m = c.in_ok-marks.marks in
    let looks = looks_by f second (r.blocks + r.per_block) c.read_marks.ensures.reads in
    let later = looks_by f third _ (more_reads f second third (r.blocks + r.per_block) (m.kept + (r.per_block + 1)) c.read_marks.ensures.reads c.check_states.ensures.reads) in
    λ told. record {
      marks = c.in_ok-marks.ensures.marks told;
      states = seen f second (λ (page : ℕ → List ℕ). HaveStates page r m) looks c.in_ok-check_states.ensures.states told;
      numbers = seen f third (λ (page : ℕ → List ℕ). HaveNumbers page r m c.args.at_least c.in_ok-next.next) later c.in_ok-next.ensures.numbers told;
    }

pub returns-clause-within : goal.returns-clause-within
returns-clause-within g c = c.in_ok-marks.ensures.within

pub returns-clause-off : goal.returns-clause-off
returns-clause-off g c = λ off. absurd (no_fault (c.in_ok-marks.ensures.off off).0)

pub read_marks-requires-clause-lies : goal.read_marks-requires-clause-lies
read_marks-requires-clause-lies g c = c.requires.lies

pub read_marks-requires-clause-room : goal.read_marks-requires-clause-room
read_marks-requires-clause-room g c = c.requires.room
