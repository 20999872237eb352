use Rattle.std.proofs.Common.{sym, ◌∙◌, Err, refl}
use Rattle.fl_flash.specs.Flash.{page_at}
use Rattle.fl_ring.specs.Place.{shape_of}
use Rattle.fl_rules.specs.Bodies.{HaveBodies, BodiesBreak}
use Rattle.fl_rules.specs.declared.rule.Rule.TheVariants.{Body}
use Rattle.fl_check.proofs.RulesTold.{told_by, bodies_told, fails_told, if_kept}
use Rattle.std.proofs.lemmas.Result.{err_from_is_err_and}
use Rattle.fl_frame.proofs.ReadsInTurn.{looks_by}
use Rattle.fl_rules.specs.Marks.{AreWithin}
use Rattle.fl_rules.specs.declared.numbering.Numbering.{Numbering}
use Rattle.fl_check.proofs.ring_rules.rule_bodies.Goals as goal

pub returns-clause-bodies : goal.returns-clause-bodies
returns-clause-bodies g c = λ told.
    let form = g.B.Form.holds c.args.form.now in
    let page = page_at (g.F.Flash.state c.args.flash.now) in
    let r = shape_of c.args.ring.now in
    let n = c.args.n in
    let body = c.in_ok-body.body in
    bodies_told form page r n body c.is_none.result c.then_some.result c.then_some.ensures c.is_none.ensures
    (told_by c.check_forms.result body _ (HaveBodies form page r n) Body (λ p. BodiesBreak form page r n p) (sym c.first_page.ensures ∙ c.in_ok-body.was) c.check_forms.ensures.bodies c.check_forms.ensures.broken told)

pub check_forms-requires-clause-lies : goal.check_forms-requires-clause-lies
check_forms-requires-clause-lies g c = c.requires.lies

pub check_forms-requires-clause-room : goal.check_forms-requires-clause-room
check_forms-requires-clause-room g c = c.requires.room

pub check_forms-requires-clause-within : goal.check_forms-requires-clause-within
check_forms-requires-clause-within g c = c.requires.within

pub returns-in_err-body-clause-looks : goal.returns-in_err-body-clause-looks
returns-in_err-body-clause-looks g c = looks_by (g.F.Flash.state c.args.flash.now) (g.F.Flash.state c.check_forms.new.flash) _ c.check_forms.ensures.reads

pub returns-in_err-body-clause-room : goal.returns-in_err-body-clause-room
returns-in_err-body-clause-room g c = c.check_forms.ensures.room

pub returns-in_err-body-clause-within : goal.returns-in_err-body-clause-within
returns-in_err-body-clause-within g c =
    let p = err_from_is_err_and c.from_residual.result c.from_residual.ensures.1 in
    rw p.1 tt

pub returns-in_err-body-clause-number : goal.returns-in_err-body-clause-number
returns-in_err-body-clause-number g c =
    let p = err_from_is_err_and c.from_residual.result c.from_residual.ensures.1 in
    rw p.1 tt

pub returns-in_err-body-clause-bodies : goal.returns-in_err-body-clause-bodies
returns-in_err-body-clause-bodies g c =
    let p = err_from_is_err_and c.from_residual.result c.from_residual.ensures.1 in
    rw p.1 tt

pub returns-in_err-body-clause-fails : goal.returns-in_err-body-clause-fails
returns-in_err-body-clause-fails g c =
    let p = err_from_is_err_and c.from_residual.result c.from_residual.ensures.1 in
    rw (p.1, p.2) (fails_told c.check_forms.result (Err c.in_err-body.field-0.0) _ (sym c.in_err-body.was ∙ c.first_page.ensures) c.check_forms.ensures.fails)

pub returns-clause-looks : goal.returns-clause-looks
returns-clause-looks g c = looks_by (g.F.Flash.state c.args.flash.now) (g.F.Flash.state c.check_forms.new.flash) _ c.check_forms.ensures.reads

pub returns-clause-room : goal.returns-clause-room
returns-clause-room g c = c.check_forms.ensures.room

pub returns-clause-within : goal.returns-clause-within
returns-clause-within g c = if_kept (λ (n : Numbering). AreWithin (shape_of c.args.ring.now) n.marks) c.is_none.result c.args.n c.then_some.result c.then_some.ensures c.requires.within

pub returns-clause-number : goal.returns-clause-number
returns-clause-number g c = refl
