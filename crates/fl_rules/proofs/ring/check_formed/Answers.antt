use Rattle.std.proofs.Common.{ℕ, List, subst}
use Rattle.std.proofs.lemmas.Result.{err_from_is_err_and}
use Rattle.fl_flash.specs.Flash.{page_at}
use Rattle.fl_frame.proofs.ReadsInTurn.{looks_by, looks_more, looks_pages}
use Rattle.fl_ring.specs.Place.{shape_of}
use Rattle.fl_ring.proofs.Exists.{lies_still}
use Rattle.fl_rules.specs.Bodies.{HaveBodies, BodiesBreak}
use Rattle.fl_rules.specs.Numbering.{numbering_reads}
use Rattle.fl_rules.proofs.Results.{broken_so, flash_so, no_fault}
use Rattle.fl_rules.proofs.LooksChangeNothing.{seen, told_still, fails_later}
use Rattle.fl_rules.proofs.RingRules.{first_breaks, bodies_break}
use Rattle.fl_rules.proofs.ring.check_formed.Goals as goal

pub returns-in_err-n-clause-looks : goal.returns-in_err-n-clause-looks
returns-in_err-n-clause-looks g c = looks_by (g.F.Flash.state c.args.flash.now) (g.F.Flash.state c.check_numbering.new.flash) (numbering_reads (shape_of c.args.ring.now)) c.check_numbering.ensures.reads

pub returns-in_err-n-clause-room : goal.returns-in_err-n-clause-room
returns-in_err-n-clause-room g c = c.check_numbering.ensures.room

pub returns-in_err-n-clause-formed : goal.returns-in_err-n-clause-formed
returns-in_err-n-clause-formed g c =
    let p = err_from_is_err_and c.from_residual.result c.from_residual.ensures.1 in
    rw p.1 tt

pub returns-in_err-n-clause-within : goal.returns-in_err-n-clause-within
returns-in_err-n-clause-within g c =
    let p = err_from_is_err_and c.from_residual.result c.from_residual.ensures.1 in
    rw p.1 tt

pub returns-in_err-n-clause-broken : goal.returns-in_err-n-clause-broken
returns-in_err-n-clause-broken g c =
    let p = err_from_is_err_and c.from_residual.result c.from_residual.ensures.1 in
    rw (p.1, p.2) (broken_so _ _ c.in_err-n.field-0.0
    (λ b breaks told order. first_breaks (g.B.Form.holds c.args.form.now) order (page_at (g.F.Flash.state c.args.flash.now)) (shape_of c.args.ring.now) c.args.at_least b.rule b.page (breaks told)) c.in_err-n.ensures.broken)

pub returns-in_err-n-clause-fails : goal.returns-in_err-n-clause-fails
returns-in_err-n-clause-fails g c =
    let p = err_from_is_err_and c.from_residual.result c.from_residual.ensures.1 in
    rw (p.1, p.2) c.in_err-n.ensures.fails

pub returns-in_err-n-clause-off : goal.returns-in_err-n-clause-off
returns-in_err-n-clause-off g c =
    let p = err_from_is_err_and c.from_residual.result c.from_residual.ensures.1 in
    rw (p.1, p.2) c.in_err-n.ensures.off

pub check_forms-requires-clause-lies : goal.check_forms-requires-clause-lies
check_forms-requires-clause-lies g c = lies_still c.args.ring.now (g.F.Flash.state c.args.flash.now) (g.F.Flash.state c.check_numbering.new.flash) c.requires.lies c.check_numbering.ensures.reads.goes

pub check_forms-requires-clause-room : goal.check_forms-requires-clause-room
check_forms-requires-clause-room g c = c.check_numbering.ensures.room

pub check_forms-requires-clause-within : goal.check_forms-requires-clause-within
check_forms-requires-clause-within g c = c.in_ok-n.ensures.within

pub returns-in_err-check_forms-clause-looks : goal.returns-in_err-check_forms-clause-looks
returns-in_err-check_forms-clause-looks g c =
    let f = g.F.Flash.state c.args.flash.now in
    let mid = g.F.Flash.state c.check_numbering.new.flash in
    let r = shape_of c.args.ring.now in
    let late = g.F.Flash.state c.check_forms.new.flash in
    looks_more f mid late (looks_by f mid (numbering_reads r) c.check_numbering.ensures.reads) (looks_by mid late c.in_ok-n.n.marks.kept c.check_forms.ensures.reads)

pub returns-in_err-check_forms-clause-room : goal.returns-in_err-check_forms-clause-room
returns-in_err-check_forms-clause-room g c = c.check_forms.ensures.room

pub returns-in_err-check_forms-clause-formed : goal.returns-in_err-check_forms-clause-formed
returns-in_err-check_forms-clause-formed g c =
    let p = err_from_is_err_and c.from_residual-in_err-check_forms.result c.from_residual-in_err-check_forms.ensures.1 in
    rw p.1 tt

pub returns-in_err-check_forms-clause-within : goal.returns-in_err-check_forms-clause-within
returns-in_err-check_forms-clause-within g c =
    let p = err_from_is_err_and c.from_residual-in_err-check_forms.result c.from_residual-in_err-check_forms.ensures.1 in
    rw p.1 tt

pub returns-in_err-check_forms-clause-broken : goal.returns-in_err-check_forms-clause-broken
returns-in_err-check_forms-clause-broken g c =
    let f = g.F.Flash.state c.args.flash.now in
    let mid = g.F.Flash.state c.check_numbering.new.flash in
    let r = shape_of c.args.ring.now in
    let looks = looks_by f mid (numbering_reads r) c.check_numbering.ensures.reads in
    let holds = g.B.Form.holds c.args.form.now in
    let n = c.in_ok-n.n in
    let p = err_from_is_err_and c.from_residual-in_err-check_forms.result c.from_residual-in_err-check_forms.ensures.1 in
    rw (p.1, p.2) (broken_so _ _ c.in_err-check_forms.field-0.0
    (λ b breaks told order.
    let both = breaks (told_still f mid looks told) in
    bodies_break holds order (page_at f) r c.args.at_least n b (c.in_ok-n.ensures.numbered told) (both.0, subst (λ (page : ℕ → List ℕ). BodiesBreak holds page r n b.page) (looks_pages f mid looks) both.1))
    c.in_err-check_forms.ensures.broken)

pub returns-in_err-check_forms-clause-fails : goal.returns-in_err-check_forms-clause-fails
returns-in_err-check_forms-clause-fails g c =
    let f = g.F.Flash.state c.args.flash.now in
    let mid = g.F.Flash.state c.check_numbering.new.flash in
    let r = shape_of c.args.ring.now in
    let looks = looks_by f mid (numbering_reads r) c.check_numbering.ensures.reads in
    let late = g.F.Flash.state c.check_forms.new.flash in
    let p = err_from_is_err_and c.from_residual-in_err-check_forms.result c.from_residual-in_err-check_forms.ensures.1 in
    rw (p.1, p.2) (flash_so _ _ c.in_err-check_forms.field-0.0 (λ e fails. fails_later f mid late e looks fails) c.in_err-check_forms.ensures.fails)

pub returns-in_err-check_forms-clause-off : goal.returns-in_err-check_forms-clause-off
returns-in_err-check_forms-clause-off g c = λ off. absurd (no_fault (c.in_ok-n.ensures.off off).0)

pub returns-clause-looks : goal.returns-clause-looks
returns-clause-looks g c =
    let f = g.F.Flash.state c.args.flash.now in
    let mid = g.F.Flash.state c.check_numbering.new.flash in
    let r = shape_of c.args.ring.now in
    let late = g.F.Flash.state c.check_forms.new.flash in
    looks_more f mid late (looks_by f mid (numbering_reads r) c.check_numbering.ensures.reads) (looks_by mid late c.in_ok-n.n.marks.kept c.check_forms.ensures.reads)

pub returns-clause-room : goal.returns-clause-room
returns-clause-room g c = c.check_forms.ensures.room

pub returns-clause-formed : goal.returns-clause-formed
returns-clause-formed g c =
    let f = g.F.Flash.state c.args.flash.now in
    let mid = g.F.Flash.state c.check_numbering.new.flash in
    let r = shape_of c.args.ring.now in
    let looks = looks_by f mid (numbering_reads r) c.check_numbering.ensures.reads in
    let n = c.in_ok-n.n in
    λ told. record {
      numbered = c.in_ok-n.ensures.numbered told;
      bodies = seen f mid (λ (page : ℕ → List ℕ). HaveBodies (g.B.Form.holds c.args.form.now) page r n) looks c.in_ok-check_forms.ensures.bodies told;
    }

pub returns-clause-within : goal.returns-clause-within
returns-clause-within g c = c.in_ok-n.ensures.within

pub returns-clause-off : goal.returns-clause-off
returns-clause-off g c = λ off. absurd (no_fault (c.in_ok-n.ensures.off off).0)

pub check_numbering-requires-clause-lies : goal.check_numbering-requires-clause-lies
check_numbering-requires-clause-lies g c = c.requires.lies

pub check_numbering-requires-clause-room : goal.check_numbering-requires-clause-room
check_numbering-requires-clause-room g c = c.requires.room
