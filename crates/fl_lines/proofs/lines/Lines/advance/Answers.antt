use Rattle.std.proofs.Common.{◌≡◌, ◌<◌, ◌≤◌, length, refl, sym, ◌∙◌, ap, subst, false, Some, take, rules, arith}
use Rattle.std.specs.Prelude.{slice_get}
use Rattle.fl_base.specs.declared.stream.SourceFailed.{SourceFailed}
use Rattle.fl_lines.specs.Stream.{LinesState, IsOneLine}
use Rattle.fl_lines.proofs.Pieces.{advances-line}
use Rattle.fl_lines.proofs.LongLinesLeft.{leaves-rest}
use Rattle.fl_lines.proofs.Rooms.{few-behind, few-none, line-short, none-ahead}
use Rattle.fl_lines.proofs.Untouched.{untouched-first, untouched-source, untouched-more, needs-more, told-more}
use Rattle.fl_lines.proofs.lines.Lines.advance.Goals as goal

pub returns-in-Some-clause-advances : goal.returns-in-Some-clause-advances
returns-in-Some-clause-advances g c =
    let i = c.bytes.invariant in
    let v = c.ahead-ahead.ensures.value in
    let h = c.in-Some.ensures in
    advances-line _ c.bytes.self _ _ _ _ _ c.in-Some.len i.is_open i.was_open i.most i.later i.told
    (subst (λ a. slice_get a c.in-Some.len ≡ Some 10) v h.1)
    (subst (λ a. IsOneLine (take c.in-Some.len a)) v h.2)
    (subst (λ a. length a ≤ c.bytes.self.most) v c.ahead-ahead.ensures.few)
    (subst (λ a. length a ≤ 4097) v c.ahead-ahead.ensures.room)
    c.give_line.ensures

pub returns-in-Some-clause-alone : goal.returns-in-Some-clause-alone
returns-in-Some-clause-alone g c n = untouched-source _ _ _ _ c.bytes.invariant.first n

pub returns-then-len-eq-ROOM-clause-alone : goal.returns-then-len-eq-ROOM-clause-alone
returns-then-len-eq-ROOM-clause-alone g c n = untouched-source _ _ _ _ c.bytes.invariant.first n

pub returns-then-len-self-clause-alone : goal.returns-then-len-self-clause-alone
returns-then-len-self-clause-alone g c n =
    let i = c.bytes.invariant in
    let one : IsOneLine c.bytes.self.ahead = search rules in
    let short : length c.bytes.self.ahead ≤ 4096 = omega (arith, ap length c.ahead-ahead.ensures.value) in
    absurd (needs-more _ _ _ _ i.first i.was_open one short n)

pub returns-in-Ok-eq0-clause-alone : goal.returns-in-Ok-eq0-clause-alone
returns-in-Ok-eq0-clause-alone g c n =
    let i = c.bytes.invariant in
    let one : IsOneLine c.bytes.self.ahead = search rules in
    let short : length c.bytes.self.ahead ≤ 4096 = omega (arith, ap length c.ahead-ahead.ensures.value) in
    absurd (needs-more _ _ _ _ i.first i.was_open one short n)

pub returns-in-Err-clause-alone : goal.returns-in-Err-clause-alone
returns-in-Err-clause-alone g c n =
    let i = c.bytes.invariant in
    let one : IsOneLine c.bytes.self.ahead = search rules in
    let short : length c.bytes.self.ahead ≤ 4096 = omega (arith, ap length c.ahead-ahead.ensures.value) in
    absurd (needs-more _ _ _ _ i.first i.was_open one short n)

pub bytes-init : goal.bytes-init
bytes-init g c =
    let is_open : c.args.self.now.closed ≡ false = sym (ap (λ (s : LinesState). s.closed) c.self.view_is) ∙ c.if-self.false in
    record { is_open = is_open; was_open = is_open; most = refl; first = untouched-first _ _; later = omega arith; told = λ left is. (left, is, refl) }

pub bytes-preserved : goal.bytes-preserved
bytes-preserved g c =
    let i = c.bytes.invariant in
    let one : IsOneLine c.bytes.self.ahead = search rules in
    let short : length c.bytes.self.ahead ≤ 4096 = omega (arith, ap length c.ahead-ahead.ensures.value) in
    let h = c.in-Ok.ensures in
    record {
      is_open = h.closed ∙ i.is_open;
      was_open = i.was_open;
      most = h.most ∙ i.most;
      first = untouched-more _ _ _ _ _ _ i.first i.was_open one short;
      later = omega (arith, h.cause.later, i.later);
      told = told-more SourceFailed _ _ _ _ _ _ _ i.told h.taken;
    }

pub returns-then-len-eq-ROOM-clause-behind : goal.returns-then-len-eq-ROOM-clause-behind
returns-then-len-eq-ROOM-clause-behind g c = λ given long left is.
    let i = c.bytes.invariant in
    let t = i.told left is in
    leaves-rest _ _ _ c.bytes.self _ _ c.give_rest.ensures i.is_open i.most (subst (λ a. length a ≤ c.bytes.self.most) c.ahead-ahead.ensures.value c.ahead-ahead.ensures.few) t.1 t.2

pub give_line-requires : goal.give_line-requires
give_line-requires g c = subst (λ a. c.in-Some.len < length a) c.ahead-ahead.ensures.value c.in-Some.ensures.0

pub returns-in-Some-clause-few : goal.returns-in-Some-clause-few
returns-in-Some-clause-few g c = few-behind c.bytes.self _ c.in-Some.len c.give_line.ensures (subst (λ a. length a ≤ 4097) c.ahead-ahead.ensures.value c.ahead-ahead.ensures.room)

pub returns-in-Some-clause-behind : goal.returns-in-Some-clause-behind
returns-in-Some-clause-behind g c = λ given long left is. line-short c.bytes.self _ c.in-Some.len c.give_line.ensures (subst (λ a. c.in-Some.len < length a) c.ahead-ahead.ensures.value c.in-Some.ensures.0) (subst (λ a. length a ≤ 4097) c.ahead-ahead.ensures.value c.ahead-ahead.ensures.room) long

pub returns-then-len-eq-ROOM-clause-few : goal.returns-then-len-eq-ROOM-clause-few
returns-then-len-eq-ROOM-clause-few g c = few-none c.bytes.self _ c.give_rest.ensures

pub ask_for_more-requires-clause-is_open : goal.ask_for_more-requires-clause-is_open
ask_for_more-requires-clause-is_open g c = c.bytes.invariant.is_open

pub returns-then-len-self-clause-few : goal.returns-then-len-self-clause-few
returns-then-len-self-clause-few g c = c.ask_for_more.ensures.few

pub returns-in-Ok-eq0-clause-few : goal.returns-in-Ok-eq0-clause-few
returns-in-Ok-eq0-clause-few g c = none-ahead _ c.close.ensures.nothing
