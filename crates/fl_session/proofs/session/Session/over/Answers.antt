use Rattle.std.proofs.Common.{sym, ◌∙◌, ap, subst, List}
use Rattle.fl_flash.specs.Flash.{FlashState}
use Rattle.fl_image.proofs.Made.{knots-of, makes-of}
use Rattle.fl_store.specs.Store.{IsOpened}
use Rattle.fl_store.specs.Tables.{AreNewTables}
use Rattle.fl_store.specs.declared.tables.Entry.{Entry}
use Rattle.fl_store.specs.declared.tables.Tables.{Tables}
use Rattle.fl_session.proofs.Over.{new-sound}
use Rattle.fl_session.proofs.Rested.{session-begins}
use Rattle.fl_session.proofs.session.Session.over.Goals as goal

pub returns-clause-begins : goal.returns-clause-begins
returns-clause-begins g c = λ configured m w rests.
    let lines = c.args.config.now in
    session-begins configured _ _ _ _ _ _ m rests.1.0 (ap (λ (t : Tables). t.entries.items) c.new.ensures.rooms.0) c.new.ensures.flash c.new.ensures.off c.new.ensures.fresh (knots-of 64 lines configured w)
    c.over-flash.ensures.opened.calm (c.over-flash.ensures.holds configured rests.1.0 rests.0 (makes-of 64 lines configured w) rests.1.1) rests.1.2

pub returns-clause-fresh : goal.returns-clause-fresh
returns-clause-fresh g c = record {
  tables = subst (λ (es : List Entry). AreNewTables es c.args.config.now) (sym (ap (λ (t : Tables). t.entries.items) (c.new.ensures.rooms.0 ∙ c.over-flash.ensures.tables))) c.requires.rooms.layout.tables;
  down = c.new.ensures.off;
  notes = c.new.ensures.fresh;
  flash = subst (λ (f : FlashState). IsOpened c.args.config.now (g.M.Media.state c.args.media.now) f) (sym c.new.ensures.flash) c.over-flash.ensures.opened;
}

pub returns-clause-sound : goal.returns-clause-sound
returns-clause-sound g c =
    new-sound _ _ _ _ _ _ _ _ (ap (λ (t : Tables). t.entries.items) c.new.ensures.rooms.0) c.new.ensures.flash c.new.ensures.rooms.1 c.new.ensures.off c.new.ensures.fresh
    c.over-flash.ensures.lie (c.requires.rooms.page _ c.over-flash.ensures.opened.device) c.requires.rooms.forgotten

pub returns-clause-unread : goal.returns-clause-unread
returns-clause-unread g c = ap (λ (x : FlashState). x.work.reads) c.new.ensures.flash ∙ c.over-flash.ensures.opened.unread

pub returns-clause-medium : goal.returns-clause-medium
returns-clause-medium g c = ap (λ (x : FlashState). x.media) c.new.ensures.flash ∙ c.over-flash.ensures.opened.media

pub returns-clause-start : goal.returns-clause-start
returns-clause-start g c = ap (λ (x : FlashState). x.start) c.new.ensures.flash ∙ c.over-flash.ensures.opened.start

pub returns-clause-origin : goal.returns-clause-origin
returns-clause-origin g c = ap (λ (x : FlashState). x.origin) c.new.ensures.flash ∙ c.over-flash.ensures.origin
