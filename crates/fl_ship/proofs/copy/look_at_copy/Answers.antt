use Rattle.fl_ship.proofs.MadeCopy.{some-bytes, looks-at, own-image, other-image, broken-copy, status-in}
use Rattle.fl_ship.proofs.copy.look_at_copy.Goals as goal

pub returns-clause-looks : goal.returns-clause-looks
returns-clause-looks g c =
    looks-at c.args.config.now c.requires (g.C.Media.state c.args.copy.now) (g.C.Media.state c.open_copy.new.copy) c.open_copy.result c.open_copy.ensures (some-bytes _ c.len.result c.len.ensures c.if-len-eq0.false)

pub returns-clause-unread : goal.returns-clause-unread
returns-clause-unread g c = λ empty. absurd (some-bytes _ c.len.result c.len.ensures c.if-len-eq0.false empty)

pub returns-clause-own : goal.returns-clause-own
returns-clause-own g c =
    own-image c.args.config.now c.requires (g.C.Media.state c.args.copy.now) (g.C.Media.state c.open_copy.new.copy) c.open_copy.result c.open_copy.ensures (some-bytes _ c.len.result c.len.ensures c.if-len-eq0.false)

pub returns-clause-other : goal.returns-clause-other
returns-clause-other g c =
    other-image c.args.config.now c.requires (g.C.Media.state c.args.copy.now) (g.C.Media.state c.open_copy.new.copy) c.open_copy.result c.open_copy.ensures (some-bytes _ c.len.result c.len.ensures c.if-len-eq0.false)

pub returns-clause-device : goal.returns-clause-device
returns-clause-device g c = broken-copy c.args.config.now c.requires (g.C.Media.state c.args.copy.now) (g.C.Media.state c.open_copy.new.copy) c.open_copy.result c.open_copy.ensures

pub returns-clause-statuses : goal.returns-clause-statuses
returns-clause-statuses g c = status-in c.args.config.now c.requires (g.C.Media.state c.args.copy.now) (g.C.Media.state c.open_copy.new.copy) c.open_copy.result c.open_copy.ensures
