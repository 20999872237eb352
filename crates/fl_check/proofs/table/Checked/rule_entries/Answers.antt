use Rattle.std.proofs.Common.{Option, IfSome, refl, subst}
use Rattle.std.proofs.lemmas.Result.{IfOk-weaker}
use Rattle.fl_flash.specs.Flash.{page_at}
use Rattle.fl_rules.specs.declared.numbering.Numbering.{Numbering}
use Rattle.fl_rules.specs.Marks.{AreWithin}
use Rattle.fl_check.specs.Whole.{rows_shape}
use Rattle.fl_check.proofs.TableRings.{within_there}
use Rattle.fl_frame.proofs.ReadsInTurn.{looks_none}
use Rattle.fl_check.proofs.TableTold.{entries_known}
use Rattle.fl_check.proofs.table.Checked.rule_entries.Goals as goal

pub find_misentered-requires-clause-fits : goal.find_misentered-requires-clause-fits
find_misentered-requires-clause-fits g c = c.requires.fits

pub find_misentered-requires-clause-place : goal.find_misentered-requires-clause-place
find_misentered-requires-clause-place g c = c.in-Some.is

pub find_misentered-requires-clause-listing : goal.find_misentered-requires-clause-listing
find_misentered-requires-clause-listing g c = c.requires.listing

pub find_misentered-requires-clause-room : goal.find_misentered-requires-clause-room
find_misentered-requires-clause-room g c = c.requires.room

pub find_misentered-requires-clause-index : goal.find_misentered-requires-clause-index
find_misentered-requires-clause-index g c = within_there c.args.self.now.config.now c.args.self.now.config.now.index c.args.index c.in-Some.place c.in-Some-index.index c.in-Some.is c.in-Some-index.is c.requires.index

pub find_misentered-requires-clause-rows : goal.find_misentered-requires-clause-rows
find_misentered-requires-clause-rows g c = subst (λ (o : Option Numbering). IfSome o (λ n. AreWithin (rows_shape c.args.self.now.config.now) n.marks)) c.in-Some-rows.is c.requires.rows

pub returns-in_default-clause-looks : goal.returns-in_default-clause-looks
returns-in_default-clause-looks g c = looks_none (g.F.Flash.state c.args.flash.now)

pub returns-in_default-clause-room : goal.returns-in_default-clause-room
returns-in_default-clause-room g c = c.requires.room

pub returns-in_default-clause-entries : goal.returns-in_default-clause-entries
returns-in_default-clause-entries g c = λ told. rw c.in_default.is refl

pub returns-in_default-index-clause-looks : goal.returns-in_default-index-clause-looks
returns-in_default-index-clause-looks g c = looks_none (g.F.Flash.state c.args.flash.now)

pub returns-in_default-index-clause-room : goal.returns-in_default-index-clause-room
returns-in_default-index-clause-room g c = c.requires.room

pub returns-in_default-index-clause-entries : goal.returns-in_default-index-clause-entries
returns-in_default-index-clause-entries g c = λ told. rw (c.in-Some.is, c.in_default-index.is) refl

pub returns-in_default-rows-clause-looks : goal.returns-in_default-rows-clause-looks
returns-in_default-rows-clause-looks g c = looks_none (g.F.Flash.state c.args.flash.now)

pub returns-in_default-rows-clause-room : goal.returns-in_default-rows-clause-room
returns-in_default-rows-clause-room g c = c.requires.room

pub returns-in_default-rows-clause-entries : goal.returns-in_default-rows-clause-entries
returns-in_default-rows-clause-entries g c = λ told. rw (c.in-Some.is, c.in-Some-index.is, c.in_default-rows.is) refl

pub returns-clause-looks : goal.returns-clause-looks
returns-clause-looks g c = c.find_misentered.ensures.looks

pub returns-clause-room : goal.returns-clause-room
returns-clause-room g c = c.find_misentered.ensures.room

pub returns-clause-entries : goal.returns-clause-entries
returns-clause-entries g c =
    IfOk-weaker c.find_misentered.result _ _
    (λ entry is told. entries_known c.args.self.now.config.now (page_at (g.F.Flash.state c.args.flash.now)) c.args.self.now.config.now.index c.args.index c.args.rows c.in-Some.place c.in-Some-index.index c.in-Some-rows.rows entry c.in-Some.is c.in-Some-index.is c.in-Some-rows.is (is told))
    c.find_misentered.ensures.entries

pub returns-clause-fails : goal.returns-clause-fails
returns-clause-fails g c = c.find_misentered.ensures.fails
