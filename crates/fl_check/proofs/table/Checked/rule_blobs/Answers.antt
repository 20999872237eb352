use Rattle.fl_flash.specs.Flash.{page_at}
use Rattle.fl_check.proofs.TableTold.{blobs_at}
use Rattle.std.proofs.Common.{Option, IfSome, refl, subst}
use Rattle.std.proofs.lemmas.Result.{IfOk-weaker}
use Rattle.fl_rules.specs.declared.numbering.Numbering.{Numbering}
use Rattle.fl_rules.specs.Marks.{AreWithin}
use Rattle.fl_check.specs.Whole.{rows_shape}
use Rattle.fl_check.proofs.TableRings.{within_there}
use Rattle.fl_frame.proofs.ReadsInTurn.{looks_none}
use Rattle.fl_check.proofs.table.Checked.rule_blobs.Goals as goal

pub returns-clause-blobs : goal.returns-clause-blobs
returns-clause-blobs g c =
    let config = c.args.self.now.config.now in
    IfOk-weaker c.find_misled.result _ _
    (λ blob is told. blobs_at config (page_at (g.F.Flash.state c.args.flash.now)) config.var c.args.var c.args.rows c.in-Some.place c.in-Some-var.var c.in-Some-rows.rows blob c.in-Some.is c.in-Some-var.is
    c.in-Some-rows.is (is told))
    c.find_misled.ensures.blobs

pub find_misled-requires-clause-fits : goal.find_misled-requires-clause-fits
find_misled-requires-clause-fits g c = c.requires.fits

pub find_misled-requires-clause-place : goal.find_misled-requires-clause-place
find_misled-requires-clause-place g c = c.in-Some.is

pub find_misled-requires-clause-listed : goal.find_misled-requires-clause-listed
find_misled-requires-clause-listed g c = c.requires.listed

pub find_misled-requires-clause-room : goal.find_misled-requires-clause-room
find_misled-requires-clause-room g c = c.requires.room

pub find_misled-requires-clause-rows : goal.find_misled-requires-clause-rows
find_misled-requires-clause-rows g c = subst (λ (o : Option Numbering). IfSome o (λ n. AreWithin (rows_shape c.args.self.now.config.now) n.marks)) c.in-Some-rows.is c.requires.rows

pub find_misled-requires-clause-var : goal.find_misled-requires-clause-var
find_misled-requires-clause-var g c = within_there c.args.self.now.config.now c.args.self.now.config.now.var c.args.var c.in-Some.place c.in-Some-var.var c.in-Some.is c.in-Some-var.is c.requires.var

pub returns-in_default-clause-looks : goal.returns-in_default-clause-looks
returns-in_default-clause-looks g c = looks_none (g.F.Flash.state c.args.flash.now)

pub returns-in_default-clause-blobs : goal.returns-in_default-clause-blobs
returns-in_default-clause-blobs g c = λ told have content. rw c.in_default.is refl

pub returns-in_default-var-clause-looks : goal.returns-in_default-var-clause-looks
returns-in_default-var-clause-looks g c = looks_none (g.F.Flash.state c.args.flash.now)

pub returns-in_default-var-clause-blobs : goal.returns-in_default-var-clause-blobs
returns-in_default-var-clause-blobs g c = λ told have content. rw (c.in-Some.is, c.in_default-var.is) refl

pub returns-in_default-rows-clause-looks : goal.returns-in_default-rows-clause-looks
returns-in_default-rows-clause-looks g c = looks_none (g.F.Flash.state c.args.flash.now)

pub returns-in_default-rows-clause-blobs : goal.returns-in_default-rows-clause-blobs
returns-in_default-rows-clause-blobs g c = λ told have content. rw (c.in-Some.is, c.in-Some-var.is, c.in_default-rows.is) refl

pub returns-clause-looks : goal.returns-clause-looks
returns-clause-looks g c = c.find_misled.ensures.looks

pub returns-clause-fails : goal.returns-clause-fails
returns-clause-fails g c = c.find_misled.ensures.fails
