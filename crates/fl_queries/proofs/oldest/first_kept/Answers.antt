use Rattle.std.proofs.Common.{◌≡◌, ◌+◌, ◌≤◌, true, false, Some, Ok, refl, sym, ◌∙◌, ap, subst, arith}
use Rattle.std.proofs.lemmas.Result.{err_from_is_err_and}
use Rattle.fl_model.specs.Row.{Row}
use Rattle.fl_frame.specs.Contents.{Contents, contents_of}
use Rattle.fl_page.specs.Steps.{Steps}
use Rattle.fl_page.proofs.ReadsInTurn.{IsCaused-later}
use Rattle.fl_frame.proofs.ContentsInTurn.{OnlyReads-same, OnlyReads-then}
use Rattle.fl_queries.specs.OldestBlob.{first_kept, is_kept}
use Rattle.fl_queries.proofs.AnyLines.{bad-by}
use Rattle.fl_queries.proofs.OldestBlobs.{among-taken, among-passed, among-ended, among-unread, fewer-left}
use Rattle.fl_queries.proofs.oldest.first_kept.Goals as goal

pub rows-init : goal.rows-init
rows-init g c = record {
  counts = OnlyReads-same _;
  names = refl;
  ready = λ contents h. h;
  same_test = λ contents bad h. h;
  told = λ t. t;
  found = λ t. refl;
  passed = λ t. omega arith;
  most = λ t. omega arith;
}

pub returns-in_err-step-clause-counts : goal.returns-in_err-step-clause-counts
returns-in_err-step-clause-counts g c = OnlyReads-then _ _ _ c.rows.invariant.counts c.step.ensures.reads_only

pub returns-in_err-step-clause-names : goal.returns-in_err-step-clause-names
returns-in_err-step-clause-names g c = c.step.ensures.names ∙ c.rows.invariant.names

pub returns-in_err-step-clause-ready : goal.returns-in_err-step-clause-ready
returns-in_err-step-clause-ready g c = λ contents h. c.step.ensures.stays_ready contents (c.rows.invariant.ready contents h)

pub returns-in_err-step-clause-cause : goal.returns-in_err-step-clause-cause
returns-in_err-step-clause-cause g c =
    let p = err_from_is_err_and c.from_residual.result c.from_residual.ensures.1 in
    rw (p.1, p.2) (IsCaused-later (g.F.Flash.state c.args.flash.now) (g.F.Flash.state c.rows.flash) (g.F.Flash.state c.step.new.flash) c.in_err-step.field-0.0 c.rows.invariant.counts c.in_err-step.ensures.cause)

pub returns-in_err-step-clause-bad_page : goal.returns-in_err-step-clause-bad_page
returns-in_err-step-clause-bad_page g c =
    let inv = c.rows.invariant in
    let p = err_from_is_err_and c.from_residual.result c.from_residual.ensures.1 in
    rw (p.1, p.2) (bad-by _ _ c.in_err-step.field-0.0 c.in_err-step.ensures.bad_page
    (λ bad h. inv.same_test _ bad (subst (λ (k : Contents). g.R.Rows.passes c.rows.input k bad) inv.counts.contents h)))

pub returns-in_err-step-clause-finds : goal.returns-in_err-step-clause-finds
returns-in_err-step-clause-finds g c = λ t few.
    let R = g.R.Rows in
    let same = c.rows.invariant.counts.contents in
    let told = subst (λ (k : Contents). R.told c.rows.input k) (sym same) (c.rows.invariant.told t) in
    let steps = c.in_err-step.ensures.steps told in
    let p = err_from_is_err_and c.from_residual.result c.from_residual.ensures.1 in
    rw (p.1, p.2) (among-unread (first_kept c.args.oldest (R.left c.args.input.now (contents_of (g.F.Flash.state c.args.flash.now)))) c.in_err-step.field-0.0 _ _ _ steps)

pub returns-in_err-step-clause-reads : goal.returns-in_err-step-clause-reads
returns-in_err-step-clause-reads g c = λ t.
    let R = g.R.Rows in
    let same = c.rows.invariant.counts.contents in
    let told = subst (λ (k : Contents). R.told c.rows.input k) (sym same) (c.rows.invariant.told t) in
    let before = c.rows.invariant.most t in
    let more = subst (λ (k : Contents). (g.F.Flash.state c.step.new.flash).work.reads + 0 ≤ (g.F.Flash.state c.rows.flash).work.reads + R.most c.rows.input k) same (c.in_err-step.ensures.most told) in
    omega (arith, before, more)

pub returns-then-not-branch-clause-counts : goal.returns-then-not-branch-clause-counts
returns-then-not-branch-clause-counts g c = OnlyReads-then _ _ _ c.rows.invariant.counts c.step.ensures.reads_only

pub returns-then-not-branch-clause-names : goal.returns-then-not-branch-clause-names
returns-then-not-branch-clause-names g c = c.step.ensures.names ∙ c.rows.invariant.names

pub returns-then-not-branch-clause-ready : goal.returns-then-not-branch-clause-ready
returns-then-not-branch-clause-ready g c = λ contents h. c.step.ensures.stays_ready contents (c.rows.invariant.ready contents h)

pub returns-then-not-branch-clause-finds : goal.returns-then-not-branch-clause-finds
returns-then-not-branch-clause-finds g c = λ t few.
    let R = g.R.Rows in
    let same = c.rows.invariant.counts.contents in
    let told = subst (λ (k : Contents). R.told c.rows.input k) (sym same) (c.rows.invariant.told t) in
    let steps : Steps (Ok false) (R.left c.rows.input (contents_of (g.F.Flash.state c.args.flash.now))) (g.R.RowHere.present c.step.new.self) (R.left c.step.new.self (contents_of (g.F.Flash.state c.args.flash.now))) =
    subst (λ (k : Contents). Steps (Ok false) (R.left c.rows.input k) (g.R.RowHere.present c.step.new.self) (R.left c.step.new.self k)) same (rw c.if-not-branch.true at (c.in_ok-step.ensures.steps told)) in
    sym (c.rows.invariant.found t ∙ among-ended c.args.oldest _ steps.0)

pub returns-then-not-branch-clause-reads : goal.returns-then-not-branch-clause-reads
returns-then-not-branch-clause-reads g c = λ t.
    let R = g.R.Rows in
    let same = c.rows.invariant.counts.contents in
    let told = subst (λ (k : Contents). R.told c.rows.input k) (sym same) (c.rows.invariant.told t) in
    let before = c.rows.invariant.most t in
    let more = subst (λ (k : Contents). (g.F.Flash.state c.step.new.flash).work.reads + R.most c.step.new.self k ≤ (g.F.Flash.state c.rows.flash).work.reads + R.most c.rows.input k) same (c.in_ok-step.ensures.most told) in
    omega (arith, before, more)

pub returns-then-is_kept-clause-counts : goal.returns-then-is_kept-clause-counts
returns-then-is_kept-clause-counts g c = OnlyReads-then _ _ _ c.rows.invariant.counts c.step.ensures.reads_only

pub returns-then-is_kept-clause-names : goal.returns-then-is_kept-clause-names
returns-then-is_kept-clause-names g c = c.step.ensures.names ∙ c.rows.invariant.names

pub returns-then-is_kept-clause-ready : goal.returns-then-is_kept-clause-ready
returns-then-is_kept-clause-ready g c = λ contents h. c.step.ensures.stays_ready contents (c.rows.invariant.ready contents h)

pub returns-then-is_kept-clause-finds : goal.returns-then-is_kept-clause-finds
returns-then-is_kept-clause-finds g c = λ t few.
    let R = g.R.Rows in
    let row = g.R.RowHere.present c.step.new.self in
    let same = c.rows.invariant.counts.contents in
    let told = subst (λ (k : Contents). R.told c.rows.input k) (sym same) (c.rows.invariant.told t) in
    let steps : Steps (Ok true) (R.left c.rows.input (contents_of (g.F.Flash.state c.args.flash.now))) (g.R.RowHere.present c.step.new.self) (R.left c.step.new.self (contents_of (g.F.Flash.state c.args.flash.now))) =
    subst (λ (k : Contents). Steps (Ok true) (R.left c.rows.input k) (g.R.RowHere.present c.step.new.self) (R.left c.step.new.self k)) same (rw c.if-not-branch.false at (c.in_ok-step.ensures.steps told)) in
    let kept : is_kept c.args.oldest (g.R.RowHere.present c.step.new.self).blob ≡ true = ap (λ (r : Row). is_kept c.args.oldest r.blob) (sym c.row-row.ensures.row) ∙ (sym c.is_kept.ensures ∙ c.if-is_kept.true) in
    ap Some (c.key.ensures ∙ ap (λ (r : Row). r.key) c.row-row.ensures.row) ∙ sym (c.rows.invariant.found t ∙ among-taken c.args.oldest row _ _ steps kept)

pub returns-then-is_kept-clause-reads : goal.returns-then-is_kept-clause-reads
returns-then-is_kept-clause-reads g c = λ t.
    let R = g.R.Rows in
    let same = c.rows.invariant.counts.contents in
    let told = subst (λ (k : Contents). R.told c.rows.input k) (sym same) (c.rows.invariant.told t) in
    let before = c.rows.invariant.most t in
    let more = subst (λ (k : Contents). (g.F.Flash.state c.step.new.flash).work.reads + R.most c.step.new.self k ≤ (g.F.Flash.state c.rows.flash).work.reads + R.most c.rows.input k) same (c.in_ok-step.ensures.most told) in
    omega (arith, before, more)

pub rows-preserved : goal.rows-preserved
rows-preserved g c =
    let R = g.R.Rows in
    let row = g.R.RowHere.present c.step.new.self in
    let same = c.rows.invariant.counts.contents in
    let gone : is_kept c.args.oldest (g.R.RowHere.present c.step.new.self).blob ≡ false = ap (λ (r : Row). is_kept c.args.oldest r.blob) (sym c.row-row.ensures.row) ∙ (sym c.is_kept.ensures ∙ c.if-is_kept.false) in
    record {
      counts = OnlyReads-then _ _ _ c.rows.invariant.counts c.step.ensures.reads_only;
      names = c.step.ensures.names ∙ c.rows.invariant.names;
      ready = λ contents h. c.step.ensures.stays_ready contents (c.rows.invariant.ready contents h);
      same_test = λ contents bad h. c.rows.invariant.same_test contents bad ((c.step.ensures.same_test contents bad).0 h);
      told = λ t.
          let told = subst (λ (k : Contents). R.told c.rows.input k) (sym same) (c.rows.invariant.told t) in
          subst (λ (k : Contents). R.told c.step.new.self k) same (c.step.ensures.stays_told told);
      found = λ t.
          let told = subst (λ (k : Contents). R.told c.rows.input k) (sym same) (c.rows.invariant.told t) in
          let steps : Steps (Ok true) (R.left c.rows.input (contents_of (g.F.Flash.state c.args.flash.now))) (g.R.RowHere.present c.step.new.self) (R.left c.step.new.self (contents_of (g.F.Flash.state c.args.flash.now))) =
          subst (λ (k : Contents). Steps (Ok true) (R.left c.rows.input k) (g.R.RowHere.present c.step.new.self) (R.left c.step.new.self k)) same (rw c.if-not-branch.false at (c.in_ok-step.ensures.steps told)) in
          c.rows.invariant.found t ∙ among-passed c.args.oldest row _ _ steps gone;
      passed = λ t.
          let told = subst (λ (k : Contents). R.told c.rows.input k) (sym same) (c.rows.invariant.told t) in
          let steps : Steps (Ok true) (R.left c.rows.input (contents_of (g.F.Flash.state c.args.flash.now))) (g.R.RowHere.present c.step.new.self) (R.left c.step.new.self (contents_of (g.F.Flash.state c.args.flash.now))) =
          subst (λ (k : Contents). Steps (Ok true) (R.left c.rows.input k) (g.R.RowHere.present c.step.new.self) (R.left c.step.new.self k)) same (rw c.if-not-branch.false at (c.in_ok-step.ensures.steps told)) in
          let one = fewer-left row _ _ steps in
          omega (arith, c.rows.invariant.passed t, one);
      most = λ t.
          let told = subst (λ (k : Contents). R.told c.rows.input k) (sym same) (c.rows.invariant.told t) in
          let before = c.rows.invariant.most t in
          let more = subst (λ (k : Contents). (g.F.Flash.state c.step.new.flash).work.reads + R.most c.step.new.self k ≤ (g.F.Flash.state c.rows.flash).work.reads + R.most c.rows.input k) same (c.in_ok-step.ensures.most told) in
          omega (arith, before, more);
    }

pub returns-clause-finds : goal.returns-clause-finds
returns-clause-finds g c = λ t few. absurd (let all = c.rows.invariant.passed t in omega (arith, all, few))

pub returns-clause-reads : goal.returns-clause-reads
returns-clause-reads g c = λ t. omega (arith, c.rows.invariant.most t)
