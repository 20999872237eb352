use Rattle.std.proofs.Common.{ℕ, List, subst}
use Rattle.std.proofs.lemmas.Result.{err_from_is_err_and}
use Rattle.fl_flash.specs.Flash.{page_at}
use Rattle.fl_ring.specs.Place.{shape_of}
use Rattle.fl_schema.specs.Schema.{layout_of}
use Rattle.fl_rules.specs.Bodies.{HaveBodies, BodiesBreak}
use Rattle.fl_rules.specs.DataPage.{IsDataPage}
use Rattle.fl_rules.specs.Rest.{IsRestBlank, RestBreaks}
use Rattle.fl_rules.specs.RingRules.{WithinPages, IsAscending}
use Rattle.fl_rules.proofs.Results.{broken_so, flash_so}
use Rattle.fl_frame.proofs.ReadsInTurn.{looks_by, looks_more, looks_pages}
use Rattle.fl_rules.proofs.LooksChangeNothing.{seen, told_still, fails_later}
use Rattle.fl_rules.proofs.RingRules.{keys_break, rest_break}
use Rattle.fl_ring.specs.Ring.{room}
use Rattle.fl_ring.proofs.Exists.{lies_still}
use Rattle.fl_rules.proofs.ring.check_log.Goals as goal

pub returns-in_err-n-clause-broken : goal.returns-in_err-n-clause-broken
returns-in_err-n-clause-broken g c =
    let p = err_from_is_err_and c.from_residual.result c.from_residual.ensures.1 in
    rw (p.1, p.2) (broken_so _ _ c.in_err-n.field-0.0 (λ b breaks told. breaks told (WithinPages (layout_of c.args.form.now.schema.now))) c.in_err-n.ensures.broken)

pub returns-in_err-check_forms-clause-broken : goal.returns-in_err-check_forms-clause-broken
returns-in_err-check_forms-clause-broken g c =
    let f = g.F.Flash.state c.args.flash.now in
    let mid = g.F.Flash.state c.check_formed.new.flash in
    let r = shape_of c.args.ring.now in
    let n = c.in_ok-n.n in
    let layout = layout_of c.args.form.now.schema.now in
    let looks = c.check_formed.ensures.looks in
    let p = err_from_is_err_and c.from_residual-in_err-check_forms.result c.from_residual-in_err-check_forms.ensures.1 in
    rw (p.1, p.2) (broken_so _ _ c.in_err-check_forms.field-0.0
    (λ b breaks told.
    let both = breaks (told_still f mid looks told) in
    keys_break (λ number bytes. IsDataPage layout c.args.form.now.buckets number bytes) (WithinPages layout) (page_at f) r 0 n b (c.in_ok-n.ensures.formed told)
    (both.0, subst (λ (page : ℕ → List ℕ). BodiesBreak (λ number bytes. IsAscending layout number bytes) page r n b.page) (looks_pages f mid looks) both.1))
    c.in_err-check_forms.ensures.broken)

pub returns-in_err-check_rest-clause-broken : goal.returns-in_err-check_rest-clause-broken
returns-in_err-check_rest-clause-broken g c =
    let f = g.F.Flash.state c.args.flash.now in
    let mid = g.F.Flash.state c.check_formed.new.flash in
    let late = g.F.Flash.state c.check_forms.new.flash in
    let r = shape_of c.args.ring.now in
    let n = c.in_ok-n.n in
    let layout = layout_of c.args.form.now.schema.now in
    let looks = c.check_formed.ensures.looks in
    let later = looks_more f mid late looks (looks_by mid late n.marks.kept c.check_forms.ensures.reads) in
    let p = err_from_is_err_and c.from_residual-in_err-check_rest.result c.from_residual-in_err-check_rest.ensures.1 in
    rw (p.1, p.2) (broken_so _ _ c.in_err-check_rest.field-0.0
    (λ b breaks told.
    let both = breaks (told_still f late later told) in
    rest_break (λ number bytes. IsDataPage layout c.args.form.now.buckets number bytes) (WithinPages layout) (page_at f) r 0 n b (c.in_ok-n.ensures.formed told)
    (seen f mid (λ (page : ℕ → List ℕ). HaveBodies (λ number bytes. IsAscending layout number bytes) page r n) looks c.in_ok-check_forms.ensures.bodies told)
    (both.0, subst (λ (page : ℕ → List ℕ). RestBreaks page r n.marks b.page) (looks_pages f late later) both.1))
    c.in_err-check_rest.ensures.broken)

pub returns-clause-sound : goal.returns-clause-sound
returns-clause-sound g c = λ told.
    let f = g.F.Flash.state c.args.flash.now in
    let mid = g.F.Flash.state c.check_formed.new.flash in
    let late = g.F.Flash.state c.check_forms.new.flash in
    let r = shape_of c.args.ring.now in
    let n = c.in_ok-n.n in
    let layout = layout_of c.args.form.now.schema.now in
    let looks = c.check_formed.ensures.looks in
    let later = looks_more f mid late looks (looks_by mid late n.marks.kept c.check_forms.ensures.reads) in
    record {
      formed = c.in_ok-n.ensures.formed told;
      keys = seen f mid (λ (page : ℕ → List ℕ). HaveBodies (λ number bytes. IsAscending layout number bytes) page r n) looks c.in_ok-check_forms.ensures.bodies told;
      rest = seen f late (λ (page : ℕ → List ℕ). IsRestBlank page r n.marks) later c.in_ok-check_rest.ensures.blank told;
    }

pub check_formed-requires-clause-lies : goal.check_formed-requires-clause-lies
check_formed-requires-clause-lies g c = c.requires.lies

pub check_formed-requires-clause-room : goal.check_formed-requires-clause-room
check_formed-requires-clause-room g c = c.requires.room

pub returns-in_err-n-clause-looks : goal.returns-in_err-n-clause-looks
returns-in_err-n-clause-looks g c = c.check_formed.ensures.looks

pub returns-in_err-n-clause-room : goal.returns-in_err-n-clause-room
returns-in_err-n-clause-room g c = c.check_formed.ensures.room

pub returns-in_err-n-clause-sound : goal.returns-in_err-n-clause-sound
returns-in_err-n-clause-sound g c =
    let p = err_from_is_err_and c.from_residual.result c.from_residual.ensures.1 in
    rw p.1 tt

pub returns-in_err-n-clause-fails : goal.returns-in_err-n-clause-fails
returns-in_err-n-clause-fails g c =
    let p = err_from_is_err_and c.from_residual.result c.from_residual.ensures.1 in
    rw (p.1, p.2) c.in_err-n.ensures.fails

pub returns-in_err-check_forms-clause-looks : goal.returns-in_err-check_forms-clause-looks
returns-in_err-check_forms-clause-looks g c = looks_more (g.F.Flash.state c.args.flash.now) (g.F.Flash.state c.check_formed.new.flash) (g.F.Flash.state c.check_forms.new.flash) c.check_formed.ensures.looks (looks_by (g.F.Flash.state c.check_formed.new.flash) (g.F.Flash.state c.check_forms.new.flash) c.in_ok-n.n.marks.kept c.check_forms.ensures.reads)

pub returns-in_err-check_forms-clause-room : goal.returns-in_err-check_forms-clause-room
returns-in_err-check_forms-clause-room g c = c.check_forms.ensures.room

pub returns-in_err-check_forms-clause-sound : goal.returns-in_err-check_forms-clause-sound
returns-in_err-check_forms-clause-sound g c =
    let p = err_from_is_err_and c.from_residual-in_err-check_forms.result c.from_residual-in_err-check_forms.ensures.1 in
    rw p.1 tt

pub returns-in_err-check_forms-clause-fails : goal.returns-in_err-check_forms-clause-fails
returns-in_err-check_forms-clause-fails g c =
    let p = err_from_is_err_and c.from_residual-in_err-check_forms.result c.from_residual-in_err-check_forms.ensures.1 in
    rw (p.1, p.2) (flash_so _ _ c.in_err-check_forms.field-0.0
    (λ e fails. fails_later (g.F.Flash.state c.args.flash.now) (g.F.Flash.state c.check_formed.new.flash) (g.F.Flash.state c.check_forms.new.flash) e c.check_formed.ensures.looks fails) c.in_err-check_forms.ensures.fails)

pub check_rest-requires-clause-lies : goal.check_rest-requires-clause-lies
check_rest-requires-clause-lies g c = lies_still c.args.ring.now (g.F.Flash.state c.args.flash.now) (g.F.Flash.state c.check_forms.new.flash) c.requires.lies (looks_more (g.F.Flash.state c.args.flash.now) (g.F.Flash.state c.check_formed.new.flash) (g.F.Flash.state c.check_forms.new.flash) c.check_formed.ensures.looks (looks_by (g.F.Flash.state c.check_formed.new.flash) (g.F.Flash.state c.check_forms.new.flash) c.in_ok-n.n.marks.kept c.check_forms.ensures.reads)).goes

pub check_rest-requires-clause-room : goal.check_rest-requires-clause-room
check_rest-requires-clause-room g c = c.check_forms.ensures.room

pub check_rest-requires-clause-within : goal.check_rest-requires-clause-within
check_rest-requires-clause-within g c = c.in_ok-n.ensures.within

pub returns-in_err-check_rest-clause-looks : goal.returns-in_err-check_rest-clause-looks
returns-in_err-check_rest-clause-looks g c = looks_more (g.F.Flash.state c.args.flash.now) (g.F.Flash.state c.check_forms.new.flash) (g.F.Flash.state c.check_rest.new.flash) (looks_more (g.F.Flash.state c.args.flash.now) (g.F.Flash.state c.check_formed.new.flash) (g.F.Flash.state c.check_forms.new.flash) c.check_formed.ensures.looks (looks_by (g.F.Flash.state c.check_formed.new.flash) (g.F.Flash.state c.check_forms.new.flash) c.in_ok-n.n.marks.kept c.check_forms.ensures.reads)) (looks_by (g.F.Flash.state c.check_forms.new.flash) (g.F.Flash.state c.check_rest.new.flash) (room (shape_of c.args.ring.now)) c.check_rest.ensures.reads)

pub returns-in_err-check_rest-clause-room : goal.returns-in_err-check_rest-clause-room
returns-in_err-check_rest-clause-room g c = c.check_rest.ensures.room

pub returns-in_err-check_rest-clause-sound : goal.returns-in_err-check_rest-clause-sound
returns-in_err-check_rest-clause-sound g c =
    let p = err_from_is_err_and c.from_residual-in_err-check_rest.result c.from_residual-in_err-check_rest.ensures.1 in
    rw p.1 tt

pub returns-in_err-check_rest-clause-fails : goal.returns-in_err-check_rest-clause-fails
returns-in_err-check_rest-clause-fails g c =
    let p = err_from_is_err_and c.from_residual-in_err-check_rest.result c.from_residual-in_err-check_rest.ensures.1 in
    rw (p.1, p.2) (flash_so _ _ c.in_err-check_rest.field-0.0
    (λ e fails. fails_later (g.F.Flash.state c.args.flash.now) (g.F.Flash.state c.check_forms.new.flash) (g.F.Flash.state c.check_rest.new.flash) e (looks_more (g.F.Flash.state c.args.flash.now) (g.F.Flash.state c.check_formed.new.flash) (g.F.Flash.state c.check_forms.new.flash) c.check_formed.ensures.looks (looks_by (g.F.Flash.state c.check_formed.new.flash) (g.F.Flash.state c.check_forms.new.flash) c.in_ok-n.n.marks.kept c.check_forms.ensures.reads)) fails) c.in_err-check_rest.ensures.fails)

pub returns-clause-looks : goal.returns-clause-looks
returns-clause-looks g c = looks_more (g.F.Flash.state c.args.flash.now) (g.F.Flash.state c.check_forms.new.flash) (g.F.Flash.state c.check_rest.new.flash) (looks_more (g.F.Flash.state c.args.flash.now) (g.F.Flash.state c.check_formed.new.flash) (g.F.Flash.state c.check_forms.new.flash) c.check_formed.ensures.looks (looks_by (g.F.Flash.state c.check_formed.new.flash) (g.F.Flash.state c.check_forms.new.flash) c.in_ok-n.n.marks.kept c.check_forms.ensures.reads)) (looks_by (g.F.Flash.state c.check_forms.new.flash) (g.F.Flash.state c.check_rest.new.flash) (room (shape_of c.args.ring.now)) c.check_rest.ensures.reads)

pub returns-clause-room : goal.returns-clause-room
returns-clause-room g c = c.check_rest.ensures.room
