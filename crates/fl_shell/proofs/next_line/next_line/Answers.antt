use Rattle.std.proofs.Common.{◌≡◌, true, false, Ok, length, nat_lt, rules, refl, ap, subst, arith, le_trans}
use Rattle.fl_lines.specs.Stream.{Advances}
use Rattle.fl_shell.proofs.NextLine.{LeftOver, gives-line, over-rest}
use Rattle.fl_shell.proofs.next_line.next_line.Goals as goal

pub returns-then-not-is_rest : goal.returns-then-not-is_rest
returns-then-not-is_rest g c =
    let S = g.S.Source in
    let i = c.pieces.invariant in
    let off : c.pieces.is_rest ≡ false = search rules in
    let yes : c.in_ok-advance.field-0 ≡ true = search rules in
    let a : Advances c.pieces.lines (S.left c.pieces.input) (S.faults c.pieces.input) (Ok true) c.advance.new.self (S.left c.advance.new.script) (S.faults c.advance.new.script) =
    subst (λ b. Advances c.pieces.lines (S.left c.pieces.input) (S.faults c.pieces.input) (Ok b) c.advance.new.self (S.left c.advance.new.script) (S.faults c.advance.new.script)) yes c.in_ok-advance.ensures.advances in
    record {
      later = le_trans i.later a.later;
      failed = λ e. cc;
      shrinks = λ e. omega (arith, i.most, a.shrinks refl);
      gives = λ l told most total within.
          gives-line c.args.lines.now c.pieces.lines c.advance.new.self l most total (S.left c.pieces.input) (S.left c.advance.new.script) (S.faults c.pieces.input) (S.faults c.advance.new.script)
          (subst (λ b. LeftOver c.args.lines.now l most total b c.pieces.lines (S.left c.pieces.input)) off (i.left l told most total within)) a (λ over. c.in_ok-advance.ensures.behind (ap Ok yes) over);
    }

pub pieces-preserved : goal.pieces-preserved
pieces-preserved g c =
    let S = g.S.Source in
    let i = c.pieces.invariant in
    let on : c.pieces.is_rest ≡ true = search rules in
    let yes : c.in_ok-advance.field-0 ≡ true = search rules in
    let a : Advances c.pieces.lines (S.left c.pieces.input) (S.faults c.pieces.input) (Ok true) c.advance.new.self (S.left c.advance.new.script) (S.faults c.advance.new.script) =
    subst (λ b. Advances c.pieces.lines (S.left c.pieces.input) (S.faults c.pieces.input) (Ok b) c.advance.new.self (S.left c.advance.new.script) (S.faults c.advance.new.script)) yes c.in_ok-advance.ensures.advances in
    record {
      later = le_trans i.later a.later;
      most = omega (arith, i.most, a.shrinks refl);
      left = λ l told most total within.
          subst (λ line. LeftOver c.args.lines.now l most total (nat_lt 4096 (length line)) c.advance.new.self (S.left c.advance.new.script)) (search rules)
          (over-rest c.args.lines.now c.pieces.lines c.advance.new.self l most total (S.left c.pieces.input) (S.left c.advance.new.script) (S.faults c.pieces.input) (S.faults c.advance.new.script)
          (subst (λ b. LeftOver c.args.lines.now l most total b c.pieces.lines (S.left c.pieces.input)) on (i.left l told most total within)) a (λ over. c.in_ok-advance.ensures.behind (ap Ok yes) over));
    }
