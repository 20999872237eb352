use Rattle.std.proofs.Common.{◌≡◌, ℕ, ◌-◌, length, Ok, refl, subst, arith, rules}
use Rattle.fl_base.specs.Stream.{Reads}
use Rattle.fl_base.specs.declared.stream.SourceFailed.{SourceFailed}
use Rattle.fl_base.proofs.SourceToEnd.{put-size, so-far-all, so-far-ended, so-far-failed, so-far-more}
use Rattle.fl_sizing.proofs.input.read_text.Goals as goal

pub returns-in-Ok-eq0-clause-text : goal.returns-in-Ok-eq0-clause-text
returns-in-Ok-eq0-clause-text g c =
    let inv = c.bytes.invariant in
    let zero : c.in-Ok-eq0.field-0 ≡ 0 = search rules in
    let ends = subst (λ (k : ℕ). Reads {E = SourceFailed} (g.S.Source.left c.bytes.input) (g.S.Source.left c.read.new.self) (Ok k) c.read.new.into) zero c.in-Ok-eq0.ensures.bytes in
    let part : length c.read.new.into ≡ 65537 - c.bytes.len = search rules in (
      c.bytes-test.true,
      λ text is. so-far-all SourceFailed text (g.S.Source.left c.bytes.input) (g.S.Source.left c.read.new.self) c.bytes.len c.bytes.into c.read.new.into _ _ (inv.read text is) (omega (arith, inv.most, inv.size))
          (omega (arith, part, c.bytes-test.true)) ends refl,
    )

pub bytes-preserved : goal.bytes-preserved
bytes-preserved g c =
    let inv = c.bytes.invariant in
    let part : length c.read.new.into ≡ 65537 - c.bytes.len = search rules in
    let all : length c.read.new.into ≡ length c.bytes.into - c.bytes.len = omega (arith, part, inv.size) in
    record {
      most = omega (arith, part, c.in-Ok.ensures.count, inv.most);
      size = put-size c.bytes.len (length c.bytes.into - c.bytes.len) 65537 c.bytes.into c.read.new.into all (omega (arith, inv.most, inv.size)) inv.size;
      later = omega (arith, inv.later, c.read.ensures.cause.later);
      read = λ text is. so-far-more SourceFailed text (g.S.Source.left c.bytes.input) (g.S.Source.left c.read.new.self) c.bytes.len c.in-Ok.count c.bytes.into c.read.new.into _ _ (inv.read text is) (omega (arith, inv.most, inv.size)) c.in-Ok.ensures.count c.in-Ok.ensures.bytes refl;
    }

pub returns-in-Ok-eq0-clause-taken : goal.returns-in-Ok-eq0-clause-taken
returns-in-Ok-eq0-clause-taken g c = λ text is.
    let inv = c.bytes.invariant in
    let zero : c.in-Ok-eq0.field-0 ≡ 0 = search rules in
    let ends = subst (λ (k : ℕ). Reads {E = SourceFailed} (g.S.Source.left c.bytes.input) (g.S.Source.left c.read.new.self) (Ok k) c.read.new.into) zero c.in-Ok-eq0.ensures.bytes in
    (c.bytes.len, inv.most, so-far-ended SourceFailed text (g.S.Source.left c.bytes.input) (g.S.Source.left c.read.new.self) c.bytes.len c.bytes.into c.read.new.into (inv.read text is) ends)

pub returns-in-Err-clause-taken : goal.returns-in-Err-clause-taken
returns-in-Err-clause-taken g c = λ text is.
    (c.bytes.len, c.bytes.invariant.most, so-far-failed SourceFailed text (g.S.Source.left c.bytes.input) (g.S.Source.left c.read.new.self) c.bytes.len c.bytes.into c.read.new.into _ (c.bytes.invariant.read text is) c.in-Err.ensures.bytes)

pub returns-clause-taken : goal.returns-clause-taken
returns-clause-taken g c = λ text is. (c.bytes.len, c.bytes.invariant.most, (c.bytes.invariant.read text is).rest)
