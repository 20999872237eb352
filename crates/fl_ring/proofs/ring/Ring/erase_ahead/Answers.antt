use Rattle.std.proofs.Common.{refl}
use Rattle.fl_model.specs.Work.{Erase}
use Rattle.fl_ring.specs.Ring.{erased}
use Rattle.fl_ring.proofs.EraseAhead.{erase_ok, erase_any, erase_exact}
use Rattle.fl_ring.proofs.Exists.{ahead_exists}
use Rattle.fl_ring.proofs.OperationsOutside.{operates_erase, step_erase}
use Rattle.fl_ring.proofs.ring.Ring.erase_ahead.Goals as goal

pub returns-clause-operates : goal.returns-clause-operates
returns-clause-operates g c =
    operates_erase c.args.self.now (g.F.Flash.state c.args.flash.now) (g.F.Flash.state c.erase.new.self) c.erase.result Erase refl c.ahead_block.result c.requires.lies.block c.ahead_block.ensures c.erase.ensures

pub returns-clause-step : goal.returns-clause-step
returns-clause-step g c = λ s rose device stands on whole waiting watched.
    let ring = c.args.self.now in
    let f = g.F.Flash.state c.args.flash.now in
    let new = g.F.Flash.state c.erase.new.self in
    let b = c.ahead_block.result in
    step_erase ring f new c.erase.result Erase refl b c.requires.lies.block c.ahead_block.ensures c.erase.ensures s (erased s) rose device watched
    (erase_ok ring s f new b stands c.requires.lies.page c.requires.lies.block c.ahead_block.ensures on whole waiting)
    (erase_any ring s f new b stands c.requires.lies.page c.requires.lies.block c.ahead_block.ensures on whole waiting)
    (erase_exact ring s f new b stands c.requires.lies.page c.requires.lies.block c.ahead_block.ensures on whole waiting (g.met.F.Flash.reaches c.args.flash.now) (ahead_exists ring f b c.requires.lies c.ahead_block.ensures) c.erase.ensures.goes)
