use Rattle.std.proofs.Common.{◌∙◌, ◌∷◌, refl, sym, ap, le_refl}
use Rattle.std.proofs.lemmas.Bool.{true≢false, OnTrue_at, OnFalse_at}
use Rattle.std.proofs.lemmas.Result.{err_from_is_err_and}
use Rattle.fl_frame.proofs.ContentsInTurn.{OnlyReads-same}
use Rattle.fl_ops.specs.Pairs.{pair_of}
use Rattle.fl_ops.proofs.Calls.{err-ok}
use Rattle.fl_ops.proofs.ContinuedRows.{Continues-same}
use Rattle.fl_ops.proofs.Joins.{steps-fault, ended-none, open-pairs}
use Rattle.fl_ops.proofs.join.KeyJoin.step.Goals as goal

-- no pair came before

pub returns-then-self-clause-reads_only : goal.returns-then-self-clause-reads_only
returns-then-self-clause-reads_only g c = OnlyReads-same _

pub returns-then-self-clause-bad_page : goal.returns-then-self-clause-bad_page
returns-then-self-clause-bad_page g c = λ bad is. absurd (err-ok (sym is))

pub returns-then-self-clause-left : goal.returns-then-self-clause-left
returns-then-self-clause-left g c = Continues-same _

pub returns-then-self-clause-right : goal.returns-then-self-clause-right
returns-then-self-clause-right g c = Continues-same _

pub returns-then-self-clause-left_sound : goal.returns-then-self-clause-left_sound
returns-then-self-clause-left_sound g c = λ sound. sound

pub returns-then-self-clause-right_sound : goal.returns-then-self-clause-right_sound
returns-then-self-clause-right_sound g c = λ sound. sound

pub returns-then-self-clause-all_sound : goal.returns-then-self-clause-all_sound
returns-then-self-clause-all_sound g c = λ begun. absurd (true≢false (sym c.if-self.true ∙ begun))

pub returns-then-self-clause-end : goal.returns-then-self-clause-end
returns-then-self-clause-end g c = c.if-self.true

pub returns-then-self-clause-stays_ended : goal.returns-then-self-clause-stays_ended
returns-then-self-clause-stays_ended g c = λ ended. (refl, refl)

pub returns-then-self-clause-steps : goal.returns-then-self-clause-steps
returns-then-self-clause-steps g c = λ left right. (ended-none _ _ c.if-self.true, ended-none _ _ c.if-self.true)

pub returns-then-self-clause-most : goal.returns-then-self-clause-most
returns-then-self-clause-most g c = λ left right. le_refl _

pub next_pair-requires-clause-left : goal.next_pair-requires-clause-left
next_pair-requires-clause-left g c = c.requires.left

pub next_pair-requires-clause-right : goal.next_pair-requires-clause-right
next_pair-requires-clause-right g c = c.requires.right

-- a row failed to come

pub returns-in_err-next_pair-clause-reads_only : goal.returns-in_err-next_pair-clause-reads_only
returns-in_err-next_pair-clause-reads_only g c = c.next_pair.ensures.reads_only

pub returns-in_err-next_pair-clause-left : goal.returns-in_err-next_pair-clause-left
returns-in_err-next_pair-clause-left g c = c.next_pair.ensures.left

pub returns-in_err-next_pair-clause-right : goal.returns-in_err-next_pair-clause-right
returns-in_err-next_pair-clause-right g c = c.next_pair.ensures.right

pub returns-in_err-next_pair-clause-cause : goal.returns-in_err-next_pair-clause-cause
returns-in_err-next_pair-clause-cause g c =
    let p = err_from_is_err_and c.from_residual.result c.from_residual.ensures.1 in
    rw (p.1, p.2) c.in_err-next_pair.ensures.cause

pub returns-in_err-next_pair-clause-bad_page : goal.returns-in_err-next_pair-clause-bad_page
returns-in_err-next_pair-clause-bad_page g c = λ bad is.
    let p = err_from_is_err_and c.from_residual.result c.from_residual.ensures.1 in
    c.in_err-next_pair.ensures.bad_page bad (rw (p.1, p.2) at is)

pub returns-in_err-next_pair-clause-left_sound : goal.returns-in_err-next_pair-clause-left_sound
returns-in_err-next_pair-clause-left_sound g c = rw (err_from_is_err_and c.from_residual.result c.from_residual.ensures.1).1 tt

pub returns-in_err-next_pair-clause-right_sound : goal.returns-in_err-next_pair-clause-right_sound
returns-in_err-next_pair-clause-right_sound g c = rw (err_from_is_err_and c.from_residual.result c.from_residual.ensures.1).1 tt

pub returns-in_err-next_pair-clause-here : goal.returns-in_err-next_pair-clause-here
returns-in_err-next_pair-clause-here g c = rw (err_from_is_err_and c.from_residual.result c.from_residual.ensures.1).1 tt

pub returns-in_err-next_pair-clause-end : goal.returns-in_err-next_pair-clause-end
returns-in_err-next_pair-clause-end g c = rw (err_from_is_err_and c.from_residual.result c.from_residual.ensures.1).1 tt

pub returns-in_err-next_pair-clause-all_sound : goal.returns-in_err-next_pair-clause-all_sound
returns-in_err-next_pair-clause-all_sound g c = λ begun. rw (err_from_is_err_and c.from_residual.result c.from_residual.ensures.1).1 tt

pub returns-in_err-next_pair-clause-stays_ended : goal.returns-in_err-next_pair-clause-stays_ended
returns-in_err-next_pair-clause-stays_ended g c = λ ended. absurd (true≢false (sym ended ∙ c.if-self.false))

pub returns-in_err-next_pair-clause-steps : goal.returns-in_err-next_pair-clause-steps
returns-in_err-next_pair-clause-steps g c = λ left right.
    let p = err_from_is_err_and c.from_residual.result c.from_residual.ensures.1 in
    rw (p.1, p.2) (steps-fault c.in_err-next_pair.field-0.0 _ _ _ _ _ _ (c.in_err-next_pair.ensures.steps left right))

pub returns-in_err-next_pair-clause-most : goal.returns-in_err-next_pair-clause-most
returns-in_err-next_pair-clause-most g c = λ left right. rw (err_from_is_err_and c.from_residual.result c.from_residual.ensures.1).1 (c.in_err-next_pair.ensures.most left right)

-- no pair is left

pub returns-then-not-branch-clause-reads_only : goal.returns-then-not-branch-clause-reads_only
returns-then-not-branch-clause-reads_only g c = c.next_pair.ensures.reads_only

pub returns-then-not-branch-clause-left : goal.returns-then-not-branch-clause-left
returns-then-not-branch-clause-left g c = c.next_pair.ensures.left

pub returns-then-not-branch-clause-right : goal.returns-then-not-branch-clause-right
returns-then-not-branch-clause-right g c = c.next_pair.ensures.right

pub returns-then-not-branch-clause-bad_page : goal.returns-then-not-branch-clause-bad_page
returns-then-not-branch-clause-bad_page g c = λ bad is. absurd (err-ok (sym is))

pub returns-then-not-branch-clause-left_sound : goal.returns-then-not-branch-clause-left_sound
returns-then-not-branch-clause-left_sound g c = c.in_ok-next_pair.ensures.left_sound

pub returns-then-not-branch-clause-right_sound : goal.returns-then-not-branch-clause-right_sound
returns-then-not-branch-clause-right_sound g c = c.in_ok-next_pair.ensures.right_sound

pub returns-then-not-branch-clause-most : goal.returns-then-not-branch-clause-most
returns-then-not-branch-clause-most g c = c.in_ok-next_pair.ensures.most

pub returns-then-not-branch-clause-all_sound : goal.returns-then-not-branch-clause-all_sound
returns-then-not-branch-clause-all_sound g c = λ begun. OnFalse_at c.if-not-branch.true c.in_ok-next_pair.ensures.all_sound

pub returns-then-not-branch-clause-end : goal.returns-then-not-branch-clause-end
returns-then-not-branch-clause-end g c = refl

pub returns-then-not-branch-clause-stays_ended : goal.returns-then-not-branch-clause-stays_ended
returns-then-not-branch-clause-stays_ended g c = λ ended. absurd (true≢false (sym ended ∙ c.if-self.false))

pub returns-then-not-branch-clause-steps : goal.returns-then-not-branch-clause-steps
returns-then-not-branch-clause-steps g c = λ left right.
    let none = rw c.if-not-branch.true at c.in_ok-next_pair.ensures.steps left right in
    (open-pairs _ _ c.if-self.false ∙ none.0, refl)

-- a pair came

pub returns-clause-reads_only : goal.returns-clause-reads_only
returns-clause-reads_only g c = c.next_pair.ensures.reads_only

pub returns-clause-left : goal.returns-clause-left
returns-clause-left g c = c.next_pair.ensures.left

pub returns-clause-right : goal.returns-clause-right
returns-clause-right g c = c.next_pair.ensures.right

pub returns-clause-bad_page : goal.returns-clause-bad_page
returns-clause-bad_page g c = λ bad is. absurd (err-ok (sym is))

pub returns-clause-left_sound : goal.returns-clause-left_sound
returns-clause-left_sound g c = c.in_ok-next_pair.ensures.left_sound

pub returns-clause-right_sound : goal.returns-clause-right_sound
returns-clause-right_sound g c = c.in_ok-next_pair.ensures.right_sound

pub returns-clause-most : goal.returns-clause-most
returns-clause-most g c = c.in_ok-next_pair.ensures.most

pub returns-clause-here : goal.returns-clause-here
returns-clause-here g c = OnTrue_at c.if-not-branch.false c.in_ok-next_pair.ensures.here

pub returns-clause-stays_ended : goal.returns-clause-stays_ended
returns-clause-stays_ended g c = λ ended. absurd (true≢false (sym ended ∙ c.if-self.false))

pub returns-clause-steps : goal.returns-clause-steps
returns-clause-steps g c = λ left right.
    open-pairs _ _ c.if-self.false ∙ (rw c.if-not-branch.false at c.in_ok-next_pair.ensures.steps left right)
    ∙ ap (λ pairs. pair_of (g.A.RowHere.present c.next_pair.new.left) (g.B.RowHere.present c.next_pair.new.right) ∷ pairs) (sym (open-pairs _ _ c.if-self.false))
