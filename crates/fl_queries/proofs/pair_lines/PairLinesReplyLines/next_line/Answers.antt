use Rattle.std.proofs.Common.{◌+◌, ◌≤◌, ◌++◌, List, inl, inr, ◌∙◌, ap, arith}
use Rattle.std.specs.Borrow.{GName}
use Rattle.std.specs.List.{AllByRecursion}
use Rattle.fl_model.proofs.Lists.{each-push}
use Rattle.fl_frame.proofs.ContentsInTurn.{OnlyReads-reads}
use Rattle.fl_frame.specs.Contents.{contents_of}
use Rattle.fl_machine.specs.Step.{pair_reply}
use Rattle.fl_ops.specs.Pairs.{pair_of}
use Rattle.fl_parts.proofs.ListedPages.{any-ok}
use Rattle.fl_queries.specs.ListSays.{IsPair}
use Rattle.fl_queries.proofs.LineSteps.{either-sound, makes-line, no-least, steps-map}
use Rattle.fl_queries.proofs.pair_lines.PairLinesReplyLines.next_line.Goals as goal

pub returns-clause-reads_only : goal.returns-clause-reads_only
returns-clause-reads_only g c = c.next_pair.ensures.reads_only

pub returns-clause-names : goal.returns-clause-names
returns-clause-names g c =
    ap (λ (l : List GName). l ++ g.B.Rows.names c.next_pair.new.right) c.next_pair.ensures.left.same_names
    ∙ ap (λ (l : List GName). g.A.Rows.names c.args.self.now.left ++ l) c.next_pair.ensures.right.same_names

pub returns-clause-stays_ready : goal.returns-clause-stays_ready
returns-clause-stays_ready g c = λ contents h. (c.next_pair.ensures.left.stays_ready contents h.0, c.next_pair.ensures.right.stays_ready contents h.1)

pub returns-clause-fits : goal.returns-clause-fits
returns-clause-fits g c = λ form h. rw (c.next_pair.ensures.left.same_schema, c.next_pair.ensures.right.same_schema) h

pub returns-clause-makes : goal.returns-clause-makes
returns-clause-makes g c = λ form first before h.
    makes-line (AllByRecursion IsPair) c.next_pair.result before (pair_reply (pair_of (g.A.RowHere.present c.next_pair.new.left) (g.B.RowHere.present c.next_pair.new.right))) h
    (each-push IsPair before (pair_reply (pair_of (g.A.RowHere.present c.next_pair.new.left) (g.B.RowHere.present c.next_pair.new.right))) h tt)

pub returns-clause-same_test : goal.returns-clause-same_test
returns-clause-same_test g c = λ contents bad h. elim h [
  | inl a ↦ inl ((c.next_pair.ensures.left.same_test contents bad).0 a)
  | inr b ↦ inr ((c.next_pair.ensures.right.same_test contents bad).0 b)
]

pub returns-clause-sound : goal.returns-clause-sound
returns-clause-sound g c =
    either-sound (g.A.Rows.sound c.next_pair.new.left (contents_of (g.F.Flash.state c.args.flash.now))) (g.B.Rows.sound c.next_pair.new.right (contents_of (g.F.Flash.state c.args.flash.now))) (g.A.Rows.sound c.args.self.now.left (contents_of (g.F.Flash.state c.args.flash.now))) (g.B.Rows.sound c.args.self.now.right (contents_of (g.F.Flash.state c.args.flash.now))) c.next_pair.result c.next_pair.ensures.left_sound c.next_pair.ensures.right_sound

pub returns-clause-stays_told : goal.returns-clause-stays_told
returns-clause-stays_told g c = λ told. (c.next_pair.ensures.left.stays_told told.0, c.next_pair.ensures.right.stays_told told.1)

pub returns-clause-steps : goal.returns-clause-steps
returns-clause-steps g c = λ form told. steps-map pair_reply c.next_pair.result _ _ _ (c.next_pair.ensures.steps told.0 told.1)

pub returns-clause-most : goal.returns-clause-most
returns-clause-most g c = λ told. c.next_pair.ensures.most told.0 told.1

pub returns-clause-least : goal.returns-clause-least
returns-clause-least g c = λ told below.
    let rises = OnlyReads-reads _ _ c.next_pair.ensures.reads_only below in
    let some : (g.F.Flash.state c.args.flash.now).work.reads + 0 ≤ (g.F.Flash.state c.next_pair.new.flash).work.reads + 0 = omega (arith, rises) in
    any-ok c.next_pair.result some

pub returns-clause-none_left : goal.returns-clause-none_left
returns-clause-none_left g c = λ told. no-least c.next_pair.result
