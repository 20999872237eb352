use Rattle.std.proofs.Common.{rules, ◌≡◌, ◌≤◌, ◌==◌, false, cond, length, sym, ap, subst, arith}
use Rattle.std.specs.Prelude.{OnOk}
use Rattle.std.proofs.lemmas.Grind.{common_steps}
use Rattle.fl_ring.specs.Written.{done}
use Rattle.fl_ring.proofs.Written.{writes-none, writes-fewer}
use Rattle.fl_var.specs.Memory.{oldest_in, oldest_after, waiting_in, MaySeal}
use Rattle.fl_var.proofs.OldestKept.{rest-one}
use Rattle.fl_var.proofs.Placed.{rest-none, rest-waits, rest-some}
use Rattle.fl_var.proofs.var_data.VarData.seal_rest.Goals as goal

pub returns-then-is_empty-clause-ends : goal.returns-then-is_empty-clause-ends
returns-then-is_empty-clause-ends g c = λ plan table rose device watched stands.
    let none : length (waiting_in c.args.self.now) ≡ 0 = search rules in
    rest-none plan table rose device c.args.self.now (g.F.Flash.state c.args.flash.now) none watched stands

pub returns-clause-ends : goal.returns-clause-ends
returns-clause-ends g c = λ plan table rose device watched stands.
    let v = c.args.self.now in
    let f = g.F.Flash.state c.args.flash.now in
    let is_empty : c.is_empty.result ≡ false = c.if-is_empty.false in
    let some : 1 ≤ length (waiting_in c.args.self.now) = grind (arith, common_steps) in
    rest-some plan table v f some stands rose device c.seal.result c.seal.new.self (g.F.Flash.state c.seal.new.flash) c.seal.ensures.empty
    (c.seal.ensures.ends plan table rose device watched stands.ring (rest-waits plan table v f some stands))

pub returns-then-is_empty-clause-oldest : goal.returns-then-is_empty-clause-oldest
returns-then-is_empty-clause-oldest g c =
    let none : length (waiting_in c.args.self.now) ≡ 0 = search rules in
    ap (λ n. oldest_after c.args.self.now (cond (n == 0) 0 1)) (sym none)

pub returns-clause-oldest : goal.returns-clause-oldest
returns-clause-oldest g c =
    let is_empty : c.is_empty.result ≡ false = c.if-is_empty.false in
    let some : 1 ≤ length (waiting_in c.args.self.now) = grind (arith, common_steps) in
    subst (λ n. OnOk c.seal.result (oldest_in c.seal.new.self ≡ oldest_after c.args.self.now n)) (sym (rest-one (length (waiting_in c.args.self.now)) some)) c.seal.ensures.oldest

pub returns-then-is_empty-clause-writes : goal.returns-then-is_empty-clause-writes
returns-then-is_empty-clause-writes g c = writes-none (MaySeal c.args.self.now) 1 (g.F.Flash.state c.args.flash.now)

pub returns-clause-writes : goal.returns-clause-writes
returns-clause-writes g c = writes-fewer (MaySeal c.args.self.now) (done c.seal.result) 1 _ _ c.seal.ensures.writes

pub returns-then-is_empty-clause-ahead : goal.returns-then-is_empty-clause-ahead
returns-then-is_empty-clause-ahead g c = λ some.
    let none : length (waiting_in c.args.self.now) ≡ 0 = search rules in
    absurd (omega (arith, some, none))

pub returns-clause-ahead : goal.returns-clause-ahead
returns-clause-ahead g c = λ some. c.seal.ensures.ahead

pub returns-then-is_empty-clause-page : goal.returns-then-is_empty-clause-page
returns-then-is_empty-clause-page g c = λ some.
    let none : length (waiting_in c.args.self.now) ≡ 0 = search rules in
    absurd (omega (arith, some, none))

pub returns-clause-page : goal.returns-clause-page
returns-clause-page g c = λ some. c.seal.ensures.page
