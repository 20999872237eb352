use Rattle.std.proofs.Common.{rules, ◌≡◌, ◌+◌, ◌-◌, ◌≤◌, ◌++◌, ℕ, List, length, take, drop, replicate, sym, ◌∙◌, ap, subst}
use Rattle.std.proofs.lemmas.List.{with_items_is, places}
use borrow.Rule.Slice.PartMut.{put_mid}
use Rattle.fl_var.specs.WaitingState.{WaitingState, content_in, IsBlankBehind}
use Rattle.fl_var.proofs.WaitingContent.{content-put, blank-put}
use Rattle.fl_var.proofs.waiting.Waiting.put.Goals as goal

pub returns-clause-content : goal.returns-clause-content
returns-clause-content c =
    let d = c.deref_mut.result.now in
    let w = c.copy_from_slice.new.self in
    let f = c.self.inside.fill in
    let n = c.min-count.result in
    let items = with_items_is c.self.inside.page (put_mid (8 + f) (8 + f + n - (8 + f)) d w) (search (rules, places)) in
    let size : n ≡ length w = search (rules, places) in
    let room : 8 + f ≤ length d = search rules in
    let new : w ≡ take n c.args.bytes.now = search rules in
    ap (λ (l : List ℕ). take (f + n) (drop 8 l)) items
    ∙ (content-put d w f n room size
    ∙ (ap (λ (l : List ℕ). take f (drop 8 l) ++ w) c.deref_mut.ensures.value
    ∙ (ap (λ (s : WaitingState). content_in s ++ w) c.self.view_is ∙ ap (λ (l : List ℕ). content_in c.args.self.now ++ l) new)))

pub returns-clause-blank : goal.returns-clause-blank
returns-clause-blank c =
    let d = c.deref_mut.result.now in
    let w = c.copy_from_slice.new.self in
    let f = c.self.inside.fill in
    let n = c.min-count.result in
    let x = put_mid (8 + f) (8 + f + n - (8 + f)) d w in
    let items = with_items_is c.self.inside.page (put_mid (8 + f) (8 + f + n - (8 + f)) d w) (search (rules, places)) in
    let size : n ≡ length w = search (rules, places) in
    let room : 8 + f ≤ length d = search rules in
    let len : length (put_mid (8 + f) (8 + f + n - (8 + f)) d w) ≡ length d = search (rules, places) in
    let blank : drop (8 + f) d ≡ replicate (length d - (8 + f)) 255 =
    subst (λ (l : List ℕ). drop (8 + f) l ≡ replicate (length l - (8 + f)) 255) (sym c.deref_mut.ensures.value) (subst IsBlankBehind (sym c.self.view_is) c.requires.blank) in
    subst (λ (l : List ℕ). drop (8 + (f + n)) l ≡ replicate (length l - (8 + (f + n))) 255) (sym items)
    (blank-put d w f n (length (put_mid (8 + f) (8 + f + n - (8 + f)) d w)) room size len blank)
