use Rattle.std.proofs.Common.{ℕ, ◌+◌, List, ◌++◌, codes, decimal, refl, ◌∙◌, ap}
use Rattle.fl_base.proofs.Chains.{more}
use Rattle.fl_map.specs.Svg.{fault_words}
use Rattle.fl_map.specs.Words.{state_word}
use Rattle.fl_map.proofs.picture.add_title.Goals as goal

pub returns : goal.returns
returns c =
    let l = c.args.line.now in
    let begin : List ℕ = codes "'><title>page " in
    let page : List ℕ = decimal (c.args.note.now.first + c.args.i) in
    let state = state_word c.args.state in
    let words = fault_words c.args.note.now c.args.i in
    let e0 = more l begin page (l ++ begin) c.add_number.new.self refl c.add_number.ensures.text in
    let e1 = more l (begin ++ page) (codes " ") c.add_number.new.self c.add.new.self e0 c.add.ensures in
    let e2 = more l (begin ++ page ++ codes " ") state c.add.new.self c.add-2.new.self e1 (c.add-2.ensures ∙ ap (λ (t : List ℕ). c.add.new.self ++ t) c.state_word.ensures.text) in
    let e3 = more l (begin ++ page ++ codes " " ++ state) words c.add-2.new.self c.add-3.new.self e2 (c.add-3.ensures ∙ ap (λ (t : List ℕ). c.add-2.new.self ++ t) c.fault_words.ensures.text) in
    more l (begin ++ page ++ codes " " ++ state ++ words) (codes "</title></rect>\n") c.add-3.new.self c.add-4.new.self e3 c.add-4.ensures
