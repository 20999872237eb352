use Rattle.std.proofs.Common.{rules, ◌≡◌, ◌+◌, Bool, true, false, cond, [], sym, ◌∙◌, ap, subst}
use Rattle.std.specs.Prelude.{OnOk}
use Rattle.std.proofs.lemmas.Bool.{false≢true, true≢false}
use Rattle.fl_ring.specs.Written.{Writes, done}
use Rattle.fl_ring.proofs.Written.{writes-fewer, writes-none}
use Rattle.fl_var.specs.Memory.{next_in, oldest_in, oldest_after, waiting_in, IsOnRing, MaySeal}
use Rattle.fl_var.specs.Placing.{is_full_in}
use Rattle.fl_var.proofs.Placed.{full-same, room-sealed, room-left, room-waits}
use Rattle.fl_var.proofs.Written.{on-ring}
use Rattle.fl_var.proofs.var_data.VarData.make_room.Goals as goal

pub returns-then-not-is_full-clause-ends : goal.returns-then-not-is_full-clause-ends
returns-then-not-is_full-clause-ends g c = λ plan table rest rose device watched has waits.
    let v = c.args.self.now in
    let e : is_full_in c.args.self.now ≡ false = sym (full-same v) ∙ search rules in
    room-left plan table rose device v (g.F.Flash.state c.args.flash.now) (is_full_in v) e watched has

pub returns-clause-quiet : goal.returns-clause-quiet
returns-clause-quiet g c = λ left.
    let v = c.args.self.now in
    let e : is_full_in c.args.self.now ≡ true = sym (full-same v) ∙ search rules in
    let no : true ≡ false = sym e ∙ left in
    absurd (true≢false no)

pub returns-clause-ends : goal.returns-clause-ends
returns-clause-ends g c = λ plan table rest rose device watched has waits.
    let v = c.args.self.now in
    let e : is_full_in c.args.self.now ≡ true = sym (full-same v) ∙ search rules in
    room-sealed plan table rose device v (g.F.Flash.state c.args.flash.now) (is_full_in v) c.seal.result c.seal.new.self (g.F.Flash.state c.seal.new.flash) e (c.seal.ensures.ends plan table rose device watched has (room-waits v plan table.buffered rest has.planned e waits))

pub returns-clause-next : goal.returns-clause-next
returns-clause-next g c =
    let v = c.args.self.now in
    let e : is_full_in c.args.self.now ≡ true = sym (full-same v) ∙ search rules in
    subst (λ (b : Bool). OnOk c.seal.result (next_in c.seal.new.self ≡ cond b (next_in c.args.self.now + 1) (next_in c.args.self.now))) (sym e) c.seal.ensures.next

pub returns-then-not-is_full-clause-oldest : goal.returns-then-not-is_full-clause-oldest
returns-then-not-is_full-clause-oldest g c =
    let v = c.args.self.now in
    let e : is_full_in c.args.self.now ≡ false = sym (full-same v) ∙ search rules in
    ap (λ (b : Bool). oldest_after v (cond b 1 0)) (sym e)

pub returns-clause-oldest : goal.returns-clause-oldest
returns-clause-oldest g c =
    let v = c.args.self.now in
    let e : is_full_in c.args.self.now ≡ true = sym (full-same v) ∙ search rules in
    subst (λ (b : Bool). OnOk c.seal.result (oldest_in c.seal.new.self ≡ oldest_after c.args.self.now (cond b 1 0))) (sym e) c.seal.ensures.oldest

pub returns-then-not-is_full-clause-waits : goal.returns-then-not-is_full-clause-waits
returns-then-not-is_full-clause-waits g c =
    let v = c.args.self.now in
    let e : is_full_in c.args.self.now ≡ false = sym (full-same v) ∙ search rules in
    ap (λ (b : Bool). cond b [] (waiting_in v)) (sym e)

pub returns-clause-waits : goal.returns-clause-waits
returns-clause-waits g c =
    let v = c.args.self.now in
    let e : is_full_in c.args.self.now ≡ true = sym (full-same v) ∙ search rules in
    subst (λ (b : Bool). OnOk c.seal.result (waiting_in c.seal.new.self ≡ cond b [] (waiting_in c.args.self.now))) (sym e) c.seal.ensures.empty

pub returns-then-not-is_full-clause-off : goal.returns-then-not-is_full-clause-off
returns-then-not-is_full-clause-off g c = λ full.
    let e : is_full_in c.args.self.now ≡ false = sym (full-same c.args.self.now) ∙ search rules in
    absurd (false≢true (sym e ∙ full))

pub returns-then-not-is_full-clause-writes : goal.returns-then-not-is_full-clause-writes
returns-then-not-is_full-clause-writes g c = writes-none (IsOnRing c.args.self.now) (cond (is_full_in c.args.self.now) 1 0) (g.F.Flash.state c.args.flash.now)

pub returns-clause-writes : goal.returns-clause-writes
returns-clause-writes g c =
    let v = c.args.self.now in
    let e : is_full_in c.args.self.now ≡ true = sym (full-same v) ∙ search rules in
    subst (λ (b : Bool). Writes (IsOnRing c.args.self.now) 0 (cond b 1 0) (g.F.Flash.state c.args.flash.now) (g.F.Flash.state c.seal.new.flash)) (sym e)
    (on-ring v (MaySeal v) 0 1 (g.F.Flash.state c.args.flash.now) (g.F.Flash.state c.seal.new.flash) c.seal.ensures.outside (writes-fewer (MaySeal v) (done c.seal.result) 1 _ _ c.seal.ensures.writes))
