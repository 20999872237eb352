use Rattle.std.proofs.Common.{◌≡◌, refl, sym, ◌∙◌, arith}
use Rattle.fl_page.specs.Header.{page_number, page_count}
use Rattle.fl_schema.proofs.References.{field_4, field_2}
use Rattle.fl_rules.proofs.ContentPages.{is_content, content_zero}
use Rattle.fl_rules.proofs.content_page.content_page_is_good.Goals as goal

pub returns-then-each_is : goal.returns-then-each_is
returns-then-each_is c =
    let page = c.args.page.now in
    let number : c.get_u32.result ≡ page_number c.args.page.now = c.get_u32.ensures ∙ field_4 page 0 0 0 4 refl refl (omega (arith, c.requires.least)) in
    let used : c.get_u16-used.result ≡ page_count c.args.page.now = c.get_u16-used.ensures ∙ field_2 page 0 4 4 6 refl refl (omega (arith, c.requires.least)) in (
      λ marks. is_content page c.args.number c.requires.least (λ k. let byte = c.type_inv.page k in omega arith) (sym number ∙ c.if-get_u32-number.false) (omega (arith, used, c.if-used-eq0.false)) (omega (arith, used, c.if-used-page.false))
          (sym c.each_is.ensures ∙ c.if-each_is.true) (c.ends_committed.ensures.0 marks),
      λ is. c.ends_committed.ensures.1 is.marks,
    )

pub returns-else-each_is : goal.returns-else-each_is
returns-else-each_is c = (
  λ is. absurd (cc (sym is ∙ c.if-each_is.false)),
  λ is. c.each_is.ensures ∙ content_zero c.args.page.now c.args.number is,
)
