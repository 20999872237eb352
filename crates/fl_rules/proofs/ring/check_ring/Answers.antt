use Rattle.std.proofs.Common.{ℕ, List, subst}
use Rattle.fl_ring.specs.Place.{shape_of}
use Rattle.fl_rules.specs.Rest.{IsRestBlank, RestBreaks}
use Rattle.fl_rules.proofs.LooksChangeNothing.{seen, fails_later, told_still}
use Rattle.std.proofs.lemmas.Result.{err_from_is_err_and}
use Rattle.fl_frame.proofs.ReadsInTurn.{looks_by, looks_more, looks_pages}
use Rattle.fl_ring.specs.Ring.{room}
use Rattle.fl_ring.proofs.Exists.{lies_still}
use Rattle.fl_rules.proofs.Results.{broken_so, flash_so, no_fault}
use Rattle.fl_flash.specs.Flash.{page_at}
use Rattle.fl_rules.specs.RingRules.{NoRows}
use Rattle.fl_rules.proofs.RingRules.{rest_break}
use Rattle.fl_rules.proofs.ring.check_ring.Goals as goal

pub returns-clause-sound : goal.returns-clause-sound
returns-clause-sound g c = λ told.
    let f = g.F.Flash.state c.args.flash.now in
    let mid = g.F.Flash.state c.check_formed.new.flash in
    let r = shape_of c.args.ring.now in
    let n = c.in_ok-n.n in
    record {
      formed = c.in_ok-n.ensures.formed told;
      keys = tt;
      rest = seen f mid (λ (page : ℕ → List ℕ). IsRestBlank page r n.marks) c.check_formed.ensures.looks c.in_ok-check_rest.ensures.blank told;
    }

pub check_formed-requires-clause-lies : goal.check_formed-requires-clause-lies
check_formed-requires-clause-lies g c = c.requires.lies

pub check_formed-requires-clause-room : goal.check_formed-requires-clause-room
check_formed-requires-clause-room g c = c.requires.room

pub returns-in_err-n-clause-looks : goal.returns-in_err-n-clause-looks
returns-in_err-n-clause-looks g c = c.check_formed.ensures.looks

pub returns-in_err-n-clause-room : goal.returns-in_err-n-clause-room
returns-in_err-n-clause-room g c = c.check_formed.ensures.room

pub returns-in_err-n-clause-sound : goal.returns-in_err-n-clause-sound
returns-in_err-n-clause-sound g c =
    let p = err_from_is_err_and c.from_residual.result c.from_residual.ensures.1 in
    rw p.1 tt

pub returns-in_err-n-clause-within : goal.returns-in_err-n-clause-within
returns-in_err-n-clause-within g c =
    let p = err_from_is_err_and c.from_residual.result c.from_residual.ensures.1 in
    rw p.1 tt

pub returns-in_err-n-clause-broken : goal.returns-in_err-n-clause-broken
returns-in_err-n-clause-broken g c =
    let p = err_from_is_err_and c.from_residual.result c.from_residual.ensures.1 in
    rw (p.1, p.2) (broken_so _ _ c.in_err-n.field-0.0 (λ b breaks told. breaks told NoRows) c.in_err-n.ensures.broken)

pub returns-in_err-n-clause-fails : goal.returns-in_err-n-clause-fails
returns-in_err-n-clause-fails g c =
    let p = err_from_is_err_and c.from_residual.result c.from_residual.ensures.1 in
    rw (p.1, p.2) c.in_err-n.ensures.fails

pub returns-in_err-n-clause-off : goal.returns-in_err-n-clause-off
returns-in_err-n-clause-off g c =
    let p = err_from_is_err_and c.from_residual.result c.from_residual.ensures.1 in
    rw (p.1, p.2) c.in_err-n.ensures.off

pub check_rest-requires-clause-lies : goal.check_rest-requires-clause-lies
check_rest-requires-clause-lies g c = lies_still c.args.ring.now (g.F.Flash.state c.args.flash.now) (g.F.Flash.state c.check_formed.new.flash) c.requires.lies c.check_formed.ensures.looks.goes

pub check_rest-requires-clause-room : goal.check_rest-requires-clause-room
check_rest-requires-clause-room g c = c.check_formed.ensures.room

pub check_rest-requires-clause-within : goal.check_rest-requires-clause-within
check_rest-requires-clause-within g c = c.in_ok-n.ensures.within

pub returns-in_err-check_rest-clause-looks : goal.returns-in_err-check_rest-clause-looks
returns-in_err-check_rest-clause-looks g c = looks_more (g.F.Flash.state c.args.flash.now) (g.F.Flash.state c.check_formed.new.flash) (g.F.Flash.state c.check_rest.new.flash) c.check_formed.ensures.looks (looks_by (g.F.Flash.state c.check_formed.new.flash) (g.F.Flash.state c.check_rest.new.flash) (room (shape_of c.args.ring.now)) c.check_rest.ensures.reads)

pub returns-in_err-check_rest-clause-room : goal.returns-in_err-check_rest-clause-room
returns-in_err-check_rest-clause-room g c = c.check_rest.ensures.room

pub returns-in_err-check_rest-clause-sound : goal.returns-in_err-check_rest-clause-sound
returns-in_err-check_rest-clause-sound g c =
    let p = err_from_is_err_and c.from_residual-in_err-check_rest.result c.from_residual-in_err-check_rest.ensures.1 in
    rw p.1 tt

pub returns-in_err-check_rest-clause-within : goal.returns-in_err-check_rest-clause-within
returns-in_err-check_rest-clause-within g c =
    let p = err_from_is_err_and c.from_residual-in_err-check_rest.result c.from_residual-in_err-check_rest.ensures.1 in
    rw p.1 tt

pub returns-in_err-check_rest-clause-fails : goal.returns-in_err-check_rest-clause-fails
returns-in_err-check_rest-clause-fails g c =
    let p = err_from_is_err_and c.from_residual-in_err-check_rest.result c.from_residual-in_err-check_rest.ensures.1 in
    rw (p.1, p.2) (flash_so _ _ c.in_err-check_rest.field-0.0
    (λ e fails. fails_later (g.F.Flash.state c.args.flash.now) (g.F.Flash.state c.check_formed.new.flash) (g.F.Flash.state c.check_rest.new.flash) e c.check_formed.ensures.looks fails) c.in_err-check_rest.ensures.fails)

pub returns-in_err-check_rest-clause-off : goal.returns-in_err-check_rest-clause-off
returns-in_err-check_rest-clause-off g c = λ off. absurd (no_fault (c.in_ok-n.ensures.off off).0)

pub returns-in_err-check_rest-clause-broken : goal.returns-in_err-check_rest-clause-broken
returns-in_err-check_rest-clause-broken g c =
    let f = g.F.Flash.state c.args.flash.now in
    let mid = g.F.Flash.state c.check_formed.new.flash in
    let r = shape_of c.args.ring.now in
    let n = c.in_ok-n.n in
    let looks = c.check_formed.ensures.looks in
    let p = err_from_is_err_and c.from_residual-in_err-check_rest.result c.from_residual-in_err-check_rest.ensures.1 in
    rw (p.1, p.2) (broken_so _ _ c.in_err-check_rest.field-0.0
    (λ b breaks told.
    let both = breaks (told_still f mid looks told) in
    rest_break (g.B.Form.holds c.args.form.now) NoRows (page_at f) r c.args.at_least n b (c.in_ok-n.ensures.formed told) tt
    (both.0, subst (λ (page : ℕ → List ℕ). RestBreaks page r n.marks b.page) (looks_pages f mid looks) both.1))
    c.in_err-check_rest.ensures.broken)

pub returns-clause-looks : goal.returns-clause-looks
returns-clause-looks g c = looks_more (g.F.Flash.state c.args.flash.now) (g.F.Flash.state c.check_formed.new.flash) (g.F.Flash.state c.check_rest.new.flash) c.check_formed.ensures.looks (looks_by (g.F.Flash.state c.check_formed.new.flash) (g.F.Flash.state c.check_rest.new.flash) (room (shape_of c.args.ring.now)) c.check_rest.ensures.reads)

pub returns-clause-room : goal.returns-clause-room
returns-clause-room g c = c.check_rest.ensures.room

pub returns-clause-within : goal.returns-clause-within
returns-clause-within g c = c.in_ok-n.ensures.within

pub returns-clause-off : goal.returns-clause-off
returns-clause-off g c = λ off. absurd (no_fault (c.in_ok-n.ensures.off off).0)
