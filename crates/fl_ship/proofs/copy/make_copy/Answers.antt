use Rattle.std.proofs.Common.{◌≡◌, arith, sym, ◌∙◌}
use Rattle.std.proofs.lemmas.List.{nil_from_length}
use Rattle.fl_ship.proofs.MadeCopy.{counts-in, failed-in}
use Rattle.fl_ship.proofs.copy.make_copy.Goals as goal

pub returns-clause-tells : goal.returns-clause-tells
returns-clause-tells g c = (counts-in c.args.config.now c.requires (g.C.Media.state c.args.copy.now) (g.C.Media.state c.open_copy.new.copy) c.open_copy.result c.open_copy.ensures).0

pub returns-clause-later : goal.returns-clause-later
returns-clause-later g c = (counts-in c.args.config.now c.requires (g.C.Media.state c.args.copy.now) (g.C.Media.state c.open_copy.new.copy) c.open_copy.result c.open_copy.ensures).1

pub returns-clause-failed : goal.returns-clause-failed
returns-clause-failed g c =
    let none : c.len.result ≡ 0 = omega (arith, c.if-len-gt0.false) in
    failed-in c.args.config.now c.requires (g.C.Media.state c.args.copy.now) (g.C.Media.state c.open_copy.new.copy) c.open_copy.result c.open_copy.ensures (nil_from_length _ (sym c.len.ensures ∙ none))
