use Rattle.std.proofs.Common.{List, ℕ, ◌++◌, codes, ap, ◌∙◌}
use Rattle.fl_base.proofs.Chains.{more, last}
use Rattle.fl_sizing.specs.Text.{words_line, rows_text, rings_text, costs_text}
use Rattle.fl_sizing.proofs.text.add_table.Goals as goal

pub returns : goal.returns
returns c =
    let l = c.args.text.now.items in
    let s = c.args.sizes.now in
    let name = words_line (codes "table " ++ c.args.name.now) in
    let rows = rows_text c.args.interval s in
    let rings = rings_text s in
    let named = c.in_ok-add_words.ensures ∙ ap (λ (n : List ℕ). l ++ words_line (codes "table " ++ n)) c.bytes.ensures.same in
    let e2 = more l name rows c.add_words.new.text.items c.add_rows.new.text.items named c.in_ok-add_rows.ensures in
    let e3 = more l (name ++ rows) rings c.add_rows.new.text.items c.add_rings.new.text.items e2 c.in_ok-add_rings.ensures in
    last c.add_costs.result l (name ++ rows ++ rings) (costs_text s) c.add_rings.new.text.items c.add_costs.new.text.items e3 c.add_costs.ensures
