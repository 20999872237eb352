use Rattle.std.proofs.Common.{◌≡◌, ℕ, List, length, drop, sym, subst, arith}
use Rattle.std.proofs.lemmas.List.{take_at, length-take-le}
use Rattle.fl_flash.specs.Media.{ReadAt}
use Rattle.fl_flash.proofs.block.read_to.Goals as goal

pub returns-clause-read : goal.returns-clause-read
returns-clause-read g c =
    let room = c.args.room.now in
    let size : length c.read_at.new.into ≡ c.args.len = omega (arith, c.read_at.auto.into, length-take-le c.args.len room c.requires.room) in
    subst (λ (l : List ℕ). ReadAt (g.M.Media.state c.args.media.now) c.args.at c.read_at.result l (g.M.Media.state c.read_at.new.self)) (sym (take_at c.read_at.new.into (drop c.args.len room) c.args.len size)) c.read_at.ensures
