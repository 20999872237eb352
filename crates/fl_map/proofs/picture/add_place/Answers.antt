use Rattle.std.proofs.Common.{◌≡◌, ℕ, ◌+◌, ◌≤◌, List, ◌++◌, codes, decimal, length, length-append, ◌∙◌, ap, arith}
use Rattle.fl_map.specs.Svg.{left_of, page_class, top_of}
use Rattle.fl_map.proofs.picture.add_place.Goals as goal

-- lengths, one after another
second : (l0 l1 : ℕ) → l0 ≡ 0 → l1 ≤ l0 + 9 + 20 → l1 ≤ 29
second l0 l1 e h = omega (arith, e, h)

third : (l1 l2 : ℕ) → l1 ≤ 29 → l2 ≤ l1 + 5 + 20 → l2 ≤ 54
third l1 l2 e h = omega (arith, e, h)

added : (l r b : List ℕ) (m n : ℕ) → l ≡ r ++ b → length r ≤ m → length b ≤ n → length l ≤ m + n
added l r b m n is low high = rw is (omega (arith, length-append r b, low, high))

at-most : (l m n : ℕ) → l ≤ m → m ≤ n → l ≤ n
at-most l m n low high = omega (arith, low, high)

pub left_of-requires : goal.left_of-requires
left_of-requires c = record { some = c.requires.some }

pub top_of-requires-clause-some : goal.top_of-requires-clause-some
top_of-requires-clause-some c = c.requires.some

pub top_of-requires-clause-few : goal.top_of-requires-clause-few
top_of-requires-clause-few c = c.requires.few

pub top_of-requires-clause-top : goal.top_of-requires-clause-top
top_of-requires-clause-top c = c.requires.top

pub page_class-requires : goal.page_class-requires
page_class-requires c = c.requires.few

pub head_class-requires : goal.head_class-requires
head_class-requires c = c.requires.some

pub add_number-requires : goal.add_number-requires
add_number-requires c = rw c.requires.empty (omega arith)

pub returns-clause-text : goal.returns-clause-text
returns-clause-text c =
    let left : List ℕ = codes "<rect x='" ++ decimal (left_of c.args.note.now c.args.i) in
    let top : List ℕ = decimal (top_of c.args.note.now c.args.top c.args.i) in
    let class = page_class c.args.note.now c.args.i c.args.state in
    let e0 : c.add_number.new.self ≡ left = c.add_number.ensures.text ∙ ap (λ (l : List ℕ). l ++ codes "<rect x='" ++ decimal c.left_of.result) c.requires.empty ∙ ap (λ (n : ℕ). codes "<rect x='" ++ decimal n) c.left_of.ensures.exact in
    let e1 : c.add_number-2.new.self ≡ left ++ codes "' y='" ++ top = c.add_number-2.ensures.text ∙ ap (λ (l : List ℕ). l ++ codes "' y='" ++ decimal c.top_of.result) e0 ∙ ap (λ (n : ℕ). left ++ codes "' y='" ++ decimal n) c.top_of.ensures.exact in
    let e2 : c.add.new.self ≡ left ++ codes "' y='" ++ top ++ codes "' width='10' height='10' class='" = c.add.ensures ∙ ap (λ (l : List ℕ). l ++ codes "' width='10' height='10' class='") e1 in
    let e3 : c.add-2.new.self ≡ left ++ codes "' y='" ++ top ++ codes "' width='10' height='10' class='" ++ class =
    c.add-2.ensures ∙ ap (λ (l : List ℕ). l ++ c.page_class.result.now) e2 ∙ ap (λ (t : List ℕ). left ++ codes "' y='" ++ top ++ codes "' width='10' height='10' class='" ++ t) c.page_class.ensures.text in
    c.add-3.ensures ∙ ap (λ (l : List ℕ). l ++ c.head_class.result.now) e3
    ∙ ap (λ (t : List ℕ). left ++ codes "' y='" ++ top ++ codes "' width='10' height='10' class='" ++ class ++ t) c.head_class.ensures.text

pub returns-clause-short : goal.returns-clause-short
returns-clause-short c =
    let l2 = third _ _ (second _ _ (ap (λ (l : List ℕ). length l) c.requires.empty) c.add_number.ensures.short) c.add_number-2.ensures.short in
    let l3 = added c.add.new.self _ _ 54 32 c.add.ensures l2 (omega arith) in
    let l4 = added c.add-2.new.self _ _ 86 1 c.add-2.ensures l3 c.page_class.ensures.short in
    at-most _ 89 128 (added c.add-3.new.self _ _ 87 2 c.add-3.ensures l4 c.head_class.ensures.short) (omega arith)
