use Rattle.std.proofs.Common.{◌≡◌, length, ◌∙◌, sym, subst, arith, rules}
use Rattle.fl_image.specs.Header.{IsHeaderOf}
use Rattle.fl_image.proofs.Found.{no-image, front-read, other-head, other-length}
use Rattle.fl_image.proofs.image.config_of_image.Goals as goal

pub returns-then-len-clause-none : goal.returns-then-len-clause-none
returns-then-len-clause-none g c e told config accepted is =
    no-image (g.M.Media.state c.args.media.now).content config (omega (arith, c.len-len.ensures, c.if-len.true)) is

pub returns-in_default-config_of_header-clause-none : goal.returns-in_default-config_of_header-clause-none
returns-in_default-config_of_header-clause-none g c e told config accepted is =
    let content = (g.M.Media.state c.args.media.now).content in
    let size : length c.read_at.new.into ≡ 1024 = search rules in
    other-head content c.read_at.new.into config (front-read content c.read_at.new.into size (c.in-Ok.ensures.bytes told)) (c.in_default-config_of_header.ensures.none config accepted) is

pub returns-then-image_len-len-clause-none : goal.returns-then-image_len-len-clause-none
returns-then-image_len-len-clause-none g c e told config accepted is =
    let content = (g.M.Media.state c.args.media.now).content in
    let size : length c.read_at.new.into ≡ 1024 = search rules in
    other-length content c.read_at.new.into c.in-Some.config config (front-read content c.read_at.new.into size (c.in-Ok.ensures.bytes told)) size
    c.in-Some.ensures.some.0 c.in-Some.ensures.some.1
    (λ configured makes is. c.if-image_len-len.true (c.image_len.ensures.exact configured makes ∙ sym is ∙ sym c.len-len.ensures))
    accepted is

pub returns-clause-image : goal.returns-clause-image
returns-clause-image g c told =
    let content = (g.M.Media.state c.args.media.now).content in
    let size : length c.read_at.new.into ≡ 1024 = search rules in
    let front = front-read content c.read_at.new.into size (c.in-Ok.ensures.bytes told) in (
      c.in-Some.ensures.some.0,
      record {
        head = subst (λ l. IsHeaderOf l c.in-Some.config) (sym front) c.in-Some.ensures.some.1;
        size = λ configured makes. sym c.len-len.ensures ∙ sym c.if-image_len-len.false ∙ c.image_len.ensures.exact configured makes;
      },
    )
