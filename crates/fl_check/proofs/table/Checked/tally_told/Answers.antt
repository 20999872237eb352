use Rattle.std.proofs.Common.{Option, IfSome, sym, ◌∙◌, ap, subst}
use Rattle.std.proofs.lemmas.Result.{IfOk-weaker}
use Rattle.fl_flash.specs.Flash.{page_at}
use Rattle.fl_rules.specs.declared.numbering.Numbering.{Numbering}
use Rattle.fl_rules.specs.Marks.{AreWithin}
use Rattle.fl_check.specs.Whole.{rows_shape, layout_in}
use Rattle.fl_rules.specs.Rising.{HaveRows}
use Rattle.fl_check.specs.Rules.{tally_told}
use Rattle.fl_frame.proofs.ReadsInTurn.{looks_none}
use Rattle.fl_check.proofs.table.Checked.tally_told.Goals as goal

pub tally_rows-requires-clause-fits : goal.tally_rows-requires-clause-fits
tally_rows-requires-clause-fits g c = c.requires.fits

pub tally_rows-requires-clause-room : goal.tally_rows-requires-clause-room
tally_rows-requires-clause-room g c = c.requires.room

pub tally_rows-requires-clause-within : goal.tally_rows-requires-clause-within
tally_rows-requires-clause-within g c = subst (λ (o : Option Numbering). IfSome o (λ n. AreWithin (rows_shape c.args.self.now.config.now) n.marks)) c.in-Some.is c.requires.within

pub returns-in_default-clause-looks : goal.returns-in_default-clause-looks
returns-in_default-clause-looks g c = looks_none (g.F.Flash.state c.args.flash.now)

pub returns-in_default-clause-room : goal.returns-in_default-clause-room
returns-in_default-clause-room g c = c.requires.room

pub returns-in_default-clause-tally : goal.returns-in_default-clause-tally
returns-in_default-clause-tally g c = λ told have. c.of_no_pages.ensures ∙ sym (ap (λ (x : Option Numbering). tally_told c.args.self.now.config.now (page_at (g.F.Flash.state c.args.flash.now)) x) c.in_default.is)

pub returns-clause-looks : goal.returns-clause-looks
returns-clause-looks g c = c.tally_rows.ensures.looks

pub returns-clause-room : goal.returns-clause-room
returns-clause-room g c = c.tally_rows.ensures.room

pub returns-clause-tally : goal.returns-clause-tally
returns-clause-tally g c =
    IfOk-weaker c.tally_rows.result _ _
    (λ tally is told have. is told (subst (λ (o : Option Numbering). IfSome o (λ n. HaveRows (layout_in c.args.self.now.config.now) (page_at (g.F.Flash.state c.args.flash.now)) (rows_shape c.args.self.now.config.now) n.marks)) c.in-Some.is have)
    ∙ sym (ap (λ (x : Option Numbering). tally_told c.args.self.now.config.now (page_at (g.F.Flash.state c.args.flash.now)) x) c.in-Some.is))
    c.tally_rows.ensures.tally

pub returns-clause-fails : goal.returns-clause-fails
returns-clause-fails g c = c.tally_rows.ensures.fails
