use Rattle.std.proofs.Common.{◌≡◌, Option, sym, subst}
use Rattle.std.proofs.lemmas.Result.{IfOk-weaker}
use Rattle.fl_base.specs.declared.types.RingPlace.{RingPlace}
use Rattle.fl_flash.specs.Flash.{page_at}
use Rattle.fl_ring.specs.Place.{shape_of}
use Rattle.fl_ring.specs.Ring.{Shape}
use Rattle.fl_rules.specs.ContentPage.{IsContentPage}
use Rattle.fl_check.specs.Ruled.{RingTold}
use Rattle.fl_check.specs.Whole.{IfWithin, shape_in}
use Rattle.fl_check.proofs.TableRings.{shape_is, room_in, room_back, some_blocks, some_lies, if_there}
use Rattle.fl_frame.proofs.ReadsInTurn.{looks_none}
use Rattle.fl_check.proofs.TableTold.{at_place}
use Rattle.fl_check.proofs.table.Checked.rule_var.Goals as goal

pub unnumbered-ring-requires-clause-blocks : goal.unnumbered-ring-requires-clause-blocks
unnumbered-ring-requires-clause-blocks g c = some_blocks c.args.self.now.config.now.var c.in-Some.place c.in-Some.is c.requires.fits.limits.var

pub unnumbered-ring-requires-clause-lies : goal.unnumbered-ring-requires-clause-lies
unnumbered-ring-requires-clause-lies g c = some_lies c.args.self.now.config.now.var c.in-Some.place c.in-Some.is (g.F.Flash.state c.args.flash.now).blocks c.requires.fits.var

pub unnumbered-ring-requires-clause-few : goal.unnumbered-ring-requires-clause-few
unnumbered-ring-requires-clause-few g c = c.requires.fits.few

pub rule_ring-requires-clause-lies : goal.rule_ring-requires-clause-lies
rule_ring-requires-clause-lies g c = c.unnumbered-ring.ensures.lies

pub rule_ring-requires-clause-room : goal.rule_ring-requires-clause-room
rule_ring-requires-clause-room g c = room_in c.args.self.now.config.now (g.F.Flash.state c.args.flash.now) c.requires.fits c.in-Some.place (shape_of c.unnumbered-ring.result) c.unnumbered-ring.ensures.shape c.requires.room

pub returns-in_default-clause-looks : goal.returns-in_default-clause-looks
returns-in_default-clause-looks g c = looks_none (g.F.Flash.state c.args.flash.now)

pub returns-in_default-clause-room : goal.returns-in_default-clause-room
returns-in_default-clause-room g c = c.requires.room

pub returns-in_default-clause-within : goal.returns-in_default-clause-within
returns-in_default-clause-within g c = subst (λ (o : Option RingPlace). IfWithin c.args.self.now.config.now o c.of_no_ring.result.numbering) (sym c.in_default.is) tt

pub returns-in_default-clause-rules : goal.returns-in_default-clause-rules
returns-in_default-clause-rules g c = λ told. rw c.in_default.is (c.of_no_ring.ensures.faults, c.of_no_ring.ensures.none)

pub returns-clause-looks : goal.returns-clause-looks
returns-clause-looks g c = c.rule_ring.ensures.looks

pub returns-clause-room : goal.returns-clause-room
returns-clause-room g c = room_back c.args.self.now.config.now (g.F.Flash.state c.args.flash.now) c.requires.fits c.in-Some.place (shape_of c.unnumbered-ring.result) c.unnumbered-ring.ensures.shape c.rule_ring.ensures.room

pub returns-clause-within : goal.returns-clause-within
returns-clause-within g c =
    IfOk-weaker c.rule_ring.result _ _
    (λ told is. if_there c.args.self.now.config.now c.args.self.now.config.now.var c.in-Some.place (shape_of c.unnumbered-ring.result) told.numbering c.in-Some.is (shape_is c.args.self.now.config.now (g.F.Flash.state c.args.flash.now) c.requires.fits c.in-Some.place (shape_of c.unnumbered-ring.result) c.unnumbered-ring.ensures.shape) is)
    c.rule_ring.ensures.within

pub returns-clause-rules : goal.returns-clause-rules
returns-clause-rules g c =
    let page = page_at (g.F.Flash.state c.args.flash.now) in
    let config = c.args.self.now.config.now in
    let place = c.in-Some.place in
    let before : shape_of c.unnumbered-ring.result ≡ shape_in config place = shape_is c.args.self.now.config.now (g.F.Flash.state c.args.flash.now) c.requires.fits place (shape_of c.unnumbered-ring.result) c.unnumbered-ring.ensures.shape in
    IfOk-weaker c.rule_ring.result _ _
    (λ told is known. at_place (λ place faults n. RingTold (λ number bytes. IsContentPage number bytes) page (shape_in config place) c.args.at_least faults n) config.var place told.faults told.numbering c.in-Some.is
    (subst (λ (r : Shape). RingTold (λ number bytes. IsContentPage number bytes) page r c.args.at_least told.faults told.numbering) before (is known)))
    c.rule_ring.ensures.rules

pub returns-clause-fails : goal.returns-clause-fails
returns-clause-fails g c = c.rule_ring.ensures.fails
