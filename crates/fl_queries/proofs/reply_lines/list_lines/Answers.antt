use Rattle.std.proofs.Common.{◌≡◌, ◌+◌, ◌≤◌, [], ◌∷◌, refl, sym, ◌∙◌, subst, arith, le_trans}
use Rattle.std.proofs.lemmas.Result.{err_from_is_err_and}
use Rattle.fl_base.proofs.Risen.{rose-back}
use Rattle.fl_frame.specs.Contents.{Contents, contents_of}
use Rattle.fl_frame.proofs.ContentsInTurn.{OnlyReads-same, OnlyReads-then, OnlyReads-reads}
use Rattle.fl_page.proofs.ReadsInTurn.{IsCaused-later}
use Rattle.fl_queries.specs.Lines.{AreMade}
use Rattle.fl_queries.specs.ListSays.{WroteLines}
use Rattle.fl_queries.proofs.AnyLines.{bad-by, wrote-as, wrote-into, wrote-more, wrote-none}
use Rattle.fl_queries.proofs.LinesListed.{SoFar, made-as, no-bad, none-behind, one-behind}
use Rattle.fl_queries.proofs.reply_lines.list_lines.Goals as goal

pub loop-given-init : goal.loop-given-init
loop-given-init g c = record {
  reads_only = OnlyReads-same _;
  names = refl;
  ready = λ contents h. h;
  fits = c.requires.fits;
  later = omega arith;
  lines = wrote-none (SoFar (g.L.ReplyLines.made c.args.form c.args.lines.now c.args.lines.now) (g.L.ReplyLines.told c.args.lines.now (contents_of (g.F.Flash.state c.args.flash.now))) (g.L.ReplyLines.lines c.args.lines.now c.args.form (contents_of (g.F.Flash.state c.args.flash.now))) (g.L.ReplyLines.lines c.args.lines.now c.args.form (contents_of (g.F.Flash.state c.args.flash.now)))) _ _ (record { made = g.met.L.ReplyLines.made_none c.args.form c.args.lines.now; behind = λ t. refl });
  same_test = λ contents bad h. h;
  sound = λ s. s;
  told = λ t. t;
  most = λ t. omega arith;
  least = λ t below. omega arith;
}

pub show_line-requires-clause-fits : goal.show_line-requires-clause-fits
show_line-requires-clause-fits g c = c.next_line.ensures.fits c.args.form c.loop-given.invariant.fits

pub show_line-requires-clause-here : goal.show_line-requires-clause-here
show_line-requires-clause-here g c = rw c.if-not-branch.false at c.in_ok-next_line.ensures.here

pub loop-given-preserved : goal.loop-given-preserved
loop-given-preserved g c =
    let inv = c.loop-given.invariant in
    record {
      reads_only = OnlyReads-then _ _ _ inv.reads_only c.next_line.ensures.reads_only;
      names = c.next_line.ensures.names ∙ inv.names;
      ready = λ contents h. c.next_line.ensures.stays_ready contents (inv.ready contents h);
      fits = c.next_line.ensures.fits c.args.form inv.fits;
      later = omega (arith, inv.later, c.in_ok-show_line.ensures.cause.later);
      lines = wrote-more _ (SoFar (g.L.ReplyLines.made c.args.form c.args.lines.now c.next_line.new.self) (g.L.ReplyLines.told c.args.lines.now (contents_of (g.F.Flash.state c.args.flash.now))) (g.L.ReplyLines.lines c.args.lines.now c.args.form (contents_of (g.F.Flash.state c.args.flash.now))) (g.L.ReplyLines.lines c.next_line.new.self c.args.form (contents_of (g.F.Flash.state c.args.flash.now)))) _ _ _ _ inv.lines _ c.loop-given-test.true (g.L.ReplyLines.present c.next_line.new.self c.args.form) (record {
        made = rw c.if-not-branch.false at (c.in_ok-next_line.ensures.makes c.args.form c.args.lines.now inv.lines.lines inv.lines.are_lines.made);
        behind = λ t.
            let told = subst (λ (k : Contents). g.L.ReplyLines.told c.loop-given.lines k) (sym inv.reads_only.contents) (inv.told t) in
            one-behind inv.lines.lines _ _ _ _ (inv.lines.are_lines.behind t) (subst (λ (k : Contents). g.L.ReplyLines.lines c.loop-given.lines c.args.form k ≡ g.L.ReplyLines.present c.next_line.new.self c.args.form ∷ g.L.ReplyLines.lines c.next_line.new.self c.args.form k) inv.reads_only.contents
            (rw c.if-not-branch.false at (c.in_ok-next_line.ensures.steps c.args.form told)));
      }) c.in_ok-show_line.ensures.text;
      same_test = λ contents bad h. inv.same_test contents bad (c.next_line.ensures.same_test contents bad h);
      sound = λ s. inv.sound (subst (λ (k : Contents). g.L.ReplyLines.sound c.next_line.new.self k → g.L.ReplyLines.sound c.loop-given.lines k) inv.reads_only.contents c.in_ok-next_line.ensures.sound s);
      told = λ t.
          let told = subst (λ (k : Contents). g.L.ReplyLines.told c.loop-given.lines k) (sym inv.reads_only.contents) (inv.told t) in
          subst (λ (k : Contents). g.L.ReplyLines.told c.next_line.new.self k) inv.reads_only.contents (c.next_line.ensures.stays_told told);
      most = λ t.
          let told = subst (λ (k : Contents). g.L.ReplyLines.told c.loop-given.lines k) (sym inv.reads_only.contents) (inv.told t) in
          let before = inv.most t in
          let more = subst (λ (k : Contents). (g.F.Flash.state c.next_line.new.flash).work.reads + g.L.ReplyLines.most c.next_line.new.self k ≤ (g.F.Flash.state c.loop-given.flash).work.reads + g.L.ReplyLines.most c.loop-given.lines k) inv.reads_only.contents
          (c.in_ok-next_line.ensures.most told) in
          omega (arith, before, more);
      least = λ t below.
          let told = subst (λ (k : Contents). g.L.ReplyLines.told c.loop-given.lines k) (sym inv.reads_only.contents) (inv.told t) in
          let rises = OnlyReads-reads _ _ c.next_line.ensures.reads_only below in
          let first = inv.least t (omega (arith, rises, below)) in
          let some = subst (λ (k : Contents). (g.F.Flash.state c.loop-given.flash).work.reads + g.L.ReplyLines.least c.loop-given.lines k ≤ (g.F.Flash.state c.next_line.new.flash).work.reads + g.L.ReplyLines.least c.next_line.new.self k) inv.reads_only.contents
          (c.in_ok-next_line.ensures.least told below) in
          omega (arith, first, some);
    }

pub returns-in_err-next_line-clause-reads_only : goal.returns-in_err-next_line-clause-reads_only
returns-in_err-next_line-clause-reads_only g c = OnlyReads-then _ _ _ c.loop-given.invariant.reads_only c.next_line.ensures.reads_only

pub returns-then-not-branch-clause-reads_only : goal.returns-then-not-branch-clause-reads_only
returns-then-not-branch-clause-reads_only g c = OnlyReads-then _ _ _ c.loop-given.invariant.reads_only c.next_line.ensures.reads_only

pub returns-in_err-show_line-clause-reads_only : goal.returns-in_err-show_line-clause-reads_only
returns-in_err-show_line-clause-reads_only g c = OnlyReads-then _ _ _ c.loop-given.invariant.reads_only c.next_line.ensures.reads_only

pub returns-in_err-next_line-clause-lines : goal.returns-in_err-next_line-clause-lines
returns-in_err-next_line-clause-lines g c =
    let inv = c.loop-given.invariant in
    let p = err_from_is_err_and c.from_residual.result c.from_residual.ensures.1 in
    rw (p.1, p.2) (
      (c.loop-given.given, c.loop-given-test.true, wrote-as _ (AreMade (g.L.ReplyLines.made c.args.form c.args.lines.now c.next_line.new.self) (g.L.ReplyLines.told c.args.lines.now (contents_of (g.F.Flash.state c.args.flash.now))) (g.L.ReplyLines.lines c.args.lines.now c.args.form (contents_of (g.F.Flash.state c.args.flash.now)))) _ _ _ _ inv.lines (made-as _ (g.L.ReplyLines.made c.args.form c.args.lines.now c.next_line.new.self) _ _ _ inv.lines.lines inv.lines.are_lines (c.in_err-next_line.ensures.makes c.args.form c.args.lines.now inv.lines.lines inv.lines.are_lines.made))),
      bad-by _ _ c.in_err-next_line.field-0.0 c.in_err-next_line.ensures.bad_page
          (λ bad h. inv.same_test _ bad (subst (λ (k : Contents). g.L.ReplyLines.passes c.loop-given.lines k bad) inv.reads_only.contents h)),
    )

pub returns-then-not-branch-clause-lines : goal.returns-then-not-branch-clause-lines
returns-then-not-branch-clause-lines g c =
    let inv = c.loop-given.invariant in
    wrote-as _ (AreMade (g.L.ReplyLines.made c.args.form c.args.lines.now c.next_line.new.self) (g.L.ReplyLines.told c.args.lines.now (contents_of (g.F.Flash.state c.args.flash.now))) (g.L.ReplyLines.lines c.args.lines.now c.args.form (contents_of (g.F.Flash.state c.args.flash.now)))) _ _ _ _ inv.lines (made-as _ (g.L.ReplyLines.made c.args.form c.args.lines.now c.next_line.new.self) _ _ _ inv.lines.lines inv.lines.are_lines (rw c.if-not-branch.true at (c.in_ok-next_line.ensures.makes c.args.form c.args.lines.now inv.lines.lines inv.lines.are_lines.made)))

pub returns-in_err-show_line-clause-lines : goal.returns-in_err-show_line-clause-lines
returns-in_err-show_line-clause-lines g c =
    let inv = c.loop-given.invariant in
    let p = err_from_is_err_and c.from_residual-in_err-show_line.result c.from_residual-in_err-show_line.ensures.1 in
    rw (p.1, p.2) (wrote-into _ (AreMade (g.L.ReplyLines.made c.args.form c.args.lines.now c.next_line.new.self) (g.L.ReplyLines.told c.args.lines.now (contents_of (g.F.Flash.state c.args.flash.now))) (g.L.ReplyLines.lines c.args.lines.now c.args.form (contents_of (g.F.Flash.state c.args.flash.now)))) _ _ _ _ inv.lines _ c.loop-given-test.true (g.L.ReplyLines.present c.next_line.new.self c.args.form) (record {
      made = rw c.if-not-branch.false at (c.in_ok-next_line.ensures.makes c.args.form c.args.lines.now inv.lines.lines inv.lines.are_lines.made);
      front = λ t.
          let told = subst (λ (k : Contents). g.L.ReplyLines.told c.loop-given.lines k) (sym inv.reads_only.contents) (inv.told t) in (
            g.L.ReplyLines.lines c.next_line.new.self c.args.form (contents_of (g.F.Flash.state c.args.flash.now)),
            one-behind inv.lines.lines _ _ _ _ (inv.lines.are_lines.behind t) (subst (λ (k : Contents). g.L.ReplyLines.lines c.loop-given.lines c.args.form k ≡ g.L.ReplyLines.present c.next_line.new.self c.args.form ∷ g.L.ReplyLines.lines c.next_line.new.self c.args.form k) inv.reads_only.contents
                (rw c.if-not-branch.false at (c.in_ok-next_line.ensures.steps c.args.form told))),
          );
    }) c.in_err-show_line.ensures.text)

pub returns-clause-lines : goal.returns-clause-lines
returns-clause-lines g c =
    let inv = c.loop-given.invariant in
    let is : c.loop-given.given ≡ c.args.count = omega (arith, inv.lines.upto, c.loop-given-test.false) in
    subst (λ n. WroteLines (AreMade (g.L.ReplyLines.made c.args.form c.args.lines.now c.loop-given.lines) (g.L.ReplyLines.told c.args.lines.now (contents_of (g.F.Flash.state c.args.flash.now))) (g.L.ReplyLines.lines c.args.lines.now c.args.form (contents_of (g.F.Flash.state c.args.flash.now)))) c.args.count (g.K.Sink.written c.args.out.now) (g.K.Sink.written c.loop-given.out) n) is
    (wrote-as _ (AreMade (g.L.ReplyLines.made c.args.form c.args.lines.now c.loop-given.lines) (g.L.ReplyLines.told c.args.lines.now (contents_of (g.F.Flash.state c.args.flash.now))) (g.L.ReplyLines.lines c.args.lines.now c.args.form (contents_of (g.F.Flash.state c.args.flash.now)))) _ _ _ _ inv.lines (made-as _ (g.L.ReplyLines.made c.args.form c.args.lines.now c.loop-given.lines) _ _ _ inv.lines.lines inv.lines.are_lines inv.lines.are_lines.made))

pub returns-then-not-branch-clause-whole : goal.returns-then-not-branch-clause-whole
returns-then-not-branch-clause-whole g c = λ t less.
    let inv = c.loop-given.invariant in
    let told = subst (λ (k : Contents). g.L.ReplyLines.told c.loop-given.lines k) (sym inv.reads_only.contents) (inv.told t) in
    let step : (g.L.ReplyLines.lines c.loop-given.lines c.args.form (contents_of (g.F.Flash.state c.loop-given.flash)) ≡ []) × (g.L.ReplyLines.lines c.next_line.new.self c.args.form (contents_of (g.F.Flash.state c.loop-given.flash)) ≡ []) = rw c.if-not-branch.true at (c.in_ok-next_line.ensures.steps c.args.form told) in
    let none : g.L.ReplyLines.lines c.loop-given.lines c.args.form (contents_of (g.F.Flash.state c.args.flash.now)) ≡ [] = subst (λ (k : Contents). g.L.ReplyLines.lines c.loop-given.lines c.args.form k ≡ []) inv.reads_only.contents step.0 in
    none-behind inv.lines.lines _ _ c.loop-given.given (inv.lines.are_lines.behind t) none inv.lines.many

pub returns-clause-whole : goal.returns-clause-whole
returns-clause-whole g c = λ t less. absurd (omega (arith, less))

pub returns-in_err-next_line-clause-good : goal.returns-in_err-next_line-clause-good
returns-in_err-next_line-clause-good g c = λ t.
    let inv = c.loop-given.invariant in
    let told = subst (λ (k : Contents). g.L.ReplyLines.told c.loop-given.lines k) (sym inv.reads_only.contents) (inv.told t) in
    let p = err_from_is_err_and c.from_residual.result c.from_residual.ensures.1 in
    rw (p.1, p.2) (no-bad c.in_err-next_line.field-0.0 _ _ _ (c.in_err-next_line.ensures.steps c.args.form told))

pub returns-in_err-show_line-clause-good : goal.returns-in_err-show_line-clause-good
returns-in_err-show_line-clause-good g c = λ t.
    let p = err_from_is_err_and c.from_residual-in_err-show_line.result c.from_residual-in_err-show_line.ensures.1 in
    rw (p.1, p.2) tt

pub returns-then-not-branch-clause-sound : goal.returns-then-not-branch-clause-sound
returns-then-not-branch-clause-sound g c = λ less.
    let inv = c.loop-given.invariant in
    let all : g.L.ReplyLines.sound c.loop-given.lines (contents_of (g.F.Flash.state c.loop-given.flash)) = rw c.if-not-branch.true at c.in_ok-next_line.ensures.all_sound in
    inv.sound (subst (λ (k : Contents). g.L.ReplyLines.sound c.loop-given.lines k) inv.reads_only.contents all)

pub returns-clause-sound : goal.returns-clause-sound
returns-clause-sound g c = λ less. absurd (omega (arith, less))

pub returns-in_err-next_line-clause-unread : goal.returns-in_err-next_line-clause-unread
returns-in_err-next_line-clause-unread g c =
    let p = err_from_is_err_and c.from_residual.result c.from_residual.ensures.1 in
    rw (p.1, p.2) (IsCaused-later _ (g.F.Flash.state c.loop-given.flash) _ c.in_err-next_line.field-0.0 c.loop-given.invariant.reads_only c.in_err-next_line.ensures.cause)

pub returns-in_err-show_line-clause-unread : goal.returns-in_err-show_line-clause-unread
returns-in_err-show_line-clause-unread g c =
    let p = err_from_is_err_and c.from_residual-in_err-show_line.result c.from_residual-in_err-show_line.ensures.1 in
    rw (p.1, p.2) tt

pub returns-in_err-next_line-clause-reads : goal.returns-in_err-next_line-clause-reads
returns-in_err-next_line-clause-reads g c = λ t.
    let inv = c.loop-given.invariant in
    let told = subst (λ (k : Contents). g.L.ReplyLines.told c.loop-given.lines k) (sym inv.reads_only.contents) (inv.told t) in
    let before = inv.most t in
    let more = subst (λ (k : Contents). (g.F.Flash.state c.next_line.new.flash).work.reads + 0 ≤ (g.F.Flash.state c.loop-given.flash).work.reads + g.L.ReplyLines.most c.loop-given.lines k) inv.reads_only.contents
    (c.in_err-next_line.ensures.most told) in
    let p = err_from_is_err_and c.from_residual.result c.from_residual.ensures.1 in
    rw (p.1, p.2) (record { within = omega (arith, before, more); some = tt })

pub returns-then-not-branch-clause-reads : goal.returns-then-not-branch-clause-reads
returns-then-not-branch-clause-reads g c = λ t.
    let inv = c.loop-given.invariant in
    let told = subst (λ (k : Contents). g.L.ReplyLines.told c.loop-given.lines k) (sym inv.reads_only.contents) (inv.told t) in
    let before = inv.most t in
    let more = subst (λ (k : Contents). (g.F.Flash.state c.next_line.new.flash).work.reads + g.L.ReplyLines.most c.next_line.new.self k ≤ (g.F.Flash.state c.loop-given.flash).work.reads + g.L.ReplyLines.most c.loop-given.lines k) inv.reads_only.contents
    (c.in_ok-next_line.ensures.most told) in
    record {
      within = omega (arith, before, more);
      some = λ less below.
          let rises = OnlyReads-reads _ _ c.next_line.ensures.reads_only below in
          let first = inv.least t (omega (arith, rises, below)) in
          let some = subst (λ (k : Contents). (g.F.Flash.state c.loop-given.flash).work.reads + g.L.ReplyLines.least c.loop-given.lines k ≤ (g.F.Flash.state c.next_line.new.flash).work.reads + g.L.ReplyLines.least c.next_line.new.self k) inv.reads_only.contents
          (c.in_ok-next_line.ensures.least told below) in
          let none : g.L.ReplyLines.least c.next_line.new.self (contents_of (g.F.Flash.state c.args.flash.now)) ≡ 0 = subst (λ (k : Contents). g.L.ReplyLines.least c.next_line.new.self k ≡ 0) inv.reads_only.contents
          (rw c.if-not-branch.true at (c.in_ok-next_line.ensures.none_left told)) in
          omega (arith, first, some, none);
    }

pub returns-in_err-show_line-clause-reads : goal.returns-in_err-show_line-clause-reads
returns-in_err-show_line-clause-reads g c = λ t.
    let inv = c.loop-given.invariant in
    let told = subst (λ (k : Contents). g.L.ReplyLines.told c.loop-given.lines k) (sym inv.reads_only.contents) (inv.told t) in
    let before = inv.most t in
    let more = subst (λ (k : Contents). (g.F.Flash.state c.next_line.new.flash).work.reads + g.L.ReplyLines.most c.next_line.new.self k ≤ (g.F.Flash.state c.loop-given.flash).work.reads + g.L.ReplyLines.most c.loop-given.lines k) inv.reads_only.contents
    (c.in_ok-next_line.ensures.most told) in
    let p = err_from_is_err_and c.from_residual-in_err-show_line.result c.from_residual-in_err-show_line.ensures.1 in
    rw (p.1, p.2) (record { within = omega (arith, before, more); some = tt })

pub returns-clause-reads : goal.returns-clause-reads
returns-clause-reads g c = λ t. record { within = omega (arith, c.loop-given.invariant.most t); some = λ less below. absurd (omega (arith, less)) }

pub returns-in_err-next_line-clause-names : goal.returns-in_err-next_line-clause-names
returns-in_err-next_line-clause-names g c = c.next_line.ensures.names ∙ c.loop-given.invariant.names

pub returns-in_err-next_line-clause-stays_ready : goal.returns-in_err-next_line-clause-stays_ready
returns-in_err-next_line-clause-stays_ready g c = λ contents ready. c.next_line.ensures.stays_ready contents (c.loop-given.invariant.ready contents ready)

pub returns-then-not-branch-clause-names : goal.returns-then-not-branch-clause-names
returns-then-not-branch-clause-names g c = c.next_line.ensures.names ∙ c.loop-given.invariant.names

pub returns-then-not-branch-clause-stays_ready : goal.returns-then-not-branch-clause-stays_ready
returns-then-not-branch-clause-stays_ready g c = λ contents ready. c.next_line.ensures.stays_ready contents (c.loop-given.invariant.ready contents ready)

pub returns-in_err-show_line-clause-names : goal.returns-in_err-show_line-clause-names
returns-in_err-show_line-clause-names g c = c.next_line.ensures.names ∙ c.loop-given.invariant.names

pub returns-in_err-show_line-clause-stays_ready : goal.returns-in_err-show_line-clause-stays_ready
returns-in_err-show_line-clause-stays_ready g c = λ contents ready. c.next_line.ensures.stays_ready contents (c.loop-given.invariant.ready contents ready)

pub returns-clause-reads_only : goal.returns-clause-reads_only
returns-clause-reads_only g c = c.loop-given.invariant.reads_only

pub returns-clause-names : goal.returns-clause-names
returns-clause-names g c = c.loop-given.invariant.names

pub returns-clause-stays_ready : goal.returns-clause-stays_ready
returns-clause-stays_ready g c = c.loop-given.invariant.ready

pub returns-in_err-next_line-clause-cause : goal.returns-in_err-next_line-clause-cause
returns-in_err-next_line-clause-cause g c = let p = err_from_is_err_and c.from_residual.result c.from_residual.ensures.1 in record { later = c.loop-given.invariant.later; failed = rw (p.1, p.2) tt }

pub returns-then-not-branch-clause-cause : goal.returns-then-not-branch-clause-cause
returns-then-not-branch-clause-cause g c = record { later = c.loop-given.invariant.later; failed = tt }

pub returns-in_err-show_line-clause-cause : goal.returns-in_err-show_line-clause-cause
returns-in_err-show_line-clause-cause g c = let p = err_from_is_err_and c.from_residual-in_err-show_line.result c.from_residual-in_err-show_line.ensures.1 in record { later = le_trans c.loop-given.invariant.later c.show_line.ensures.cause.later; failed = rw (p.1, p.2) (rose-back _ _ _ c.loop-given.invariant.later c.in_err-show_line.ensures.cause.failed) }

pub returns-clause-cause : goal.returns-clause-cause
returns-clause-cause g c = record { later = c.loop-given.invariant.later; failed = tt }

pub returns-in_err-next_line-clause-whole : goal.returns-in_err-next_line-clause-whole
returns-in_err-next_line-clause-whole g c = λ t. let p = err_from_is_err_and c.from_residual.result c.from_residual.ensures.1 in rw p.1 tt

pub returns-in_err-next_line-clause-sound : goal.returns-in_err-next_line-clause-sound
returns-in_err-next_line-clause-sound g c = let p = err_from_is_err_and c.from_residual.result c.from_residual.ensures.1 in rw p.1 tt

pub returns-in_err-show_line-clause-whole : goal.returns-in_err-show_line-clause-whole
returns-in_err-show_line-clause-whole g c = λ t. let p = err_from_is_err_and c.from_residual-in_err-show_line.result c.from_residual-in_err-show_line.ensures.1 in rw p.1 tt

pub returns-in_err-show_line-clause-sound : goal.returns-in_err-show_line-clause-sound
returns-in_err-show_line-clause-sound g c = let p = err_from_is_err_and c.from_residual-in_err-show_line.result c.from_residual-in_err-show_line.ensures.1 in rw p.1 tt

pub next_line-requires : goal.next_line-requires
next_line-requires g c = subst (λ (k : Contents). g.L.ReplyLines.ready c.loop-given.lines k) (sym c.loop-given.invariant.reads_only.contents) (c.loop-given.invariant.ready (contents_of (g.F.Flash.state c.args.flash.now)) c.requires.ready)
