use Rattle.std.proofs.Common.{◌≡◌, ℕ, ◌+◌, ◌-◌, ◌*◌, ◌/◌, ◌^◌, ◌<◌, ◌≤◌, take, drop, length, refl, sym, ◌∙◌, ap, subst, arith}
use Rattle.fl_index.proofs.WaitingEntries.{width-le}
use Rattle.fl_model.specs.Record.{entry_len, entries_per_page}
use Rattle.fl_model.specs.Row.{number_of}
use Rattle.fl_page.specs.Header.{page_number}
use Rattle.fl_schema.proofs.References.{field_4, field_2}
use Rattle.fl_rules.specs.Endings.{IsFilled}
use Rattle.fl_rules.proofs.IndexPages.{form-len, is_index, index_zero, index_ends}
use Rattle.fl_rules.proofs.index_page.index_page_is_good.Goals as goal

pub returns-then-each_is : goal.returns-then-each_is
returns-then-each_is c = λ plan width full size.
    let page = c.args.page.now in
    let len : entry_len plan ≡ c.entry_len-len.result = form-len plan c.args.form width full ∙ sym c.entry_len-len.ensures in
    let some : 1 ≤ entry_len plan = omega (arith, len, c.entry_len-len.ensures, width-le c.args.form, c.requires.some) in
    let room : (length c.args.page.now - 24) / c.entry_len-len.result ≡ entries_per_page plan =
    ap (λ (k : ℕ). (k - 24) / c.entry_len-len.result) (sym size) ∙ ap (λ (k : ℕ). (plan.geometry.page - 24) / k) (sym len) in
    let end : 16 + (length c.args.page.now - 24) / c.entry_len-len.result * c.entry_len-len.result ≡ 16 + entries_per_page plan * entry_len plan =
    ap (λ (k : ℕ). 16 + k * c.entry_len-len.result) room ∙ ap (λ (k : ℕ). 16 + entries_per_page plan * k) (sym len) in
    let number : c.get_u32.result ≡ page_number c.args.page.now = c.get_u32.ensures ∙ field_4 page 0 0 0 4 refl refl (omega (arith, c.requires.least)) in
    let count : c.get_u16.result ≡ number_of (take 2 (drop 8 c.args.page.now)) = c.get_u16.ensures ∙ field_2 page 0 8 8 10 refl refl (omega (arith, c.requires.least)) in
    let small : c.args.number < 2 ^ 32 = omega (arith, c.ranges.number.fits) in (
      λ ends. is_index plan page c.args.number size c.requires.least some (λ k. let byte = c.type_inv.page k in omega arith) (sym number ∙ c.if-get_u32-number.false)
          (sym count ∙ c.if-get_u16-room.false ∙ room) (sym c.each_is.ensures ∙ c.if-each_is.true) (subst (λ (k : ℕ). IsFilled k page) end (c.ends_filled.ensures.0 ends)),
      λ is. c.ends_filled.ensures.1 (subst (λ (k : ℕ). IsFilled k page) (sym end) (index_ends plan page c.args.number size c.requires.least some is small c.requires.most)),
    )

pub returns-else-each_is : goal.returns-else-each_is
returns-else-each_is c = λ plan width full size.
    let some : 1 ≤ entry_len plan = omega (arith, form-len plan c.args.form width full, width-le c.args.form, c.requires.some) in (
      λ is. absurd (cc (sym is ∙ c.if-each_is.false)),
      λ is. c.each_is.ensures ∙ index_zero plan c.args.page.now c.args.number size c.requires.least some is (omega (arith, c.ranges.number.fits)) c.requires.most,
    )
