use Rattle.std.proofs.Common.{rules, ◌≡◌, ◌+◌, ◌-◌, ◌≤◌, ℕ, List, length, take, drop, replicate, sym, ◌∙◌, ap, subst, arith}
use Rattle.std.proofs.lemmas.List.{with_items_is, places}
use borrow.Rule.Slice.PartMut.{put_mid}
use Rattle.fl_var.specs.WaitingState.{IsBlankBehind}
use Rattle.fl_var.proofs.WaitingContent.{blank-clear}
use Rattle.fl_var.proofs.waiting.Waiting.clear.Goals as goal

pub returns-clause-blank : goal.returns-clause-blank
returns-clause-blank c =
    let d = c.deref_mut.result.now in
    let w = c.fill.new.self in
    let f = c.self.inside.fill in
    let x = put_mid 8 (8 + f - 8) d w in
    let room : 8 + f ≤ length d = search rules in
    let len : length (put_mid 8 (8 + f - 8) d w) ≡ length d = search (rules, places) in
    let items = with_items_is c.self.inside.page (put_mid 8 (8 + f - 8) d w) (search (rules, places)) in
    let blank : drop (8 + f) d ≡ replicate (length d - (8 + f)) 255 =
    subst (λ (l : List ℕ). drop (8 + f) l ≡ replicate (length l - (8 + f)) 255) (sym c.deref_mut.ensures.value) (subst IsBlankBehind (sym c.self.view_is) c.requires.blank) in
    let part : length (take (8 + f - 8) (drop 8 d)) ≡ f = search (rules, places) in
    let fill : w ≡ replicate f 255 = c.fill.ensures.after (λ y h. h) ∙ ap (λ (k : ℕ). replicate k 255) part in
    subst (λ (l : List ℕ). drop (8 + 0) l ≡ replicate (length l - (8 + 0)) 255) (sym items)
    (blank-clear d w f (length (put_mid 8 (8 + f - 8) d w)) (8 + f - 8) room fill len (omega arith) blank)
