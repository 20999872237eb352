use Rattle.fl_find.proofs.PageLooks.{since-then, fails-on}
use Rattle.fl_find.proofs.Sound.{key-told, tells-looked}
use Rattle.fl_find.proofs.keys.PageKeysFirstKeys.first_key.Goals as goal

pub returns-then-is_err-clause-since : goal.returns-then-is_err-clause-since
returns-then-is_err-clause-since g c = λ first from. since-then _ _ _ _ _ _ _ _ _ _ from c.read_first-read.ensures.looks c.read_first-read.ensures.fresh

pub returns-then-is_err-clause-fails : goal.returns-then-is_err-clause-fails
returns-then-is_err-clause-fails g c = λ first from.
    fails-on c.read_first-read.result _ _ _ _ _ _ _ c.args.number from.ring_is from.layout_is from.looks (c.read_first-read.ensures.fails c.requires) c.read_first-read.ensures.blames

pub returns-else-is_err-clause-fails : goal.returns-else-is_err-clause-fails
returns-else-is_err-clause-fails g c = λ first from.
    fails-on c.read_first-read.result _ _ _ _ _ _ _ c.args.number from.ring_is from.layout_is from.looks (c.read_first-read.ensures.fails c.requires) c.read_first-read.ensures.blames

pub returns-else-is_err-clause-since : goal.returns-else-is_err-clause-since
returns-else-is_err-clause-since g c = λ first from. since-then _ _ _ _ _ _ _ _ _ _ from c.read_first-read.ensures.looks c.read_first-read.ensures.fresh

pub returns-then-is_err-clause-key : goal.returns-then-is_err-clause-key
returns-then-is_err-clause-key g c = λ first tells.
    key-told _ _ _ first c.args.number c.read_first-read.result c.requires c.read_first-read.ensures.key c.read_first-read.ensures.sound tells

pub returns-then-is_err-clause-tells : goal.returns-then-is_err-clause-tells
returns-then-is_err-clause-tells g c = λ first tells. tells-looked _ _ _ _ first c.read_first-read.ensures.looks tells

pub returns-else-is_err-clause-key : goal.returns-else-is_err-clause-key
returns-else-is_err-clause-key g c = λ first tells.
    key-told _ _ _ first c.args.number c.read_first-read.result c.requires c.read_first-read.ensures.key c.read_first-read.ensures.sound tells

pub returns-else-is_err-clause-tells : goal.returns-else-is_err-clause-tells
returns-else-is_err-clause-tells g c = λ first tells. tells-looked _ _ _ _ first c.read_first-read.ensures.looks tells
