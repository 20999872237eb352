-- Each clause is that of the lookup of the entry, told of the bitmap alone.
use Rattle.std.proofs.Common.{ℕ, Option, IfSome, Ok, Err, subst, sym}
use Rattle.std.proofs.lemmas.Option.{IfSome_then}
use Rattle.fl_index.specs.Looking.{bitmap_alone, looked_at, IsFound, ByMemory, ShowsBitmap}
use Rattle.fl_index.proofs.BitmapsAlone.{memory-alone, found-alone, read-alone, shows-alone}
use Rattle.fl_index.proofs.index.BitmapIndex.bitmap_of.Goals as goal

pub returns-in-Ok-clause-memory : goal.returns-in-Ok-clause-memory
returns-in-Ok-clause-memory g c = λ none.
    subst (λ (o : Option ℕ). ByMemory bitmap_alone c.args.self.now c.args.number (g.F.Flash.state c.args.flash.now) c.args.buf.now (Ok o) (g.F.Flash.state c.entry_of.new.flash) c.entry_of.new.buf) (sym c.bitmap_found.ensures)
    (memory-alone c.args.self.now c.args.number (g.F.Flash.state c.args.flash.now) c.args.buf.now (Ok c.in-Ok.found) (g.F.Flash.state c.entry_of.new.flash) c.entry_of.new.buf (c.in-Ok.ensures.memory none))

pub returns-in-Err-clause-memory : goal.returns-in-Err-clause-memory
returns-in-Err-clause-memory g c = λ none.
    memory-alone c.args.self.now c.args.number (g.F.Flash.state c.args.flash.now) c.args.buf.now (Err c.in-Err.fault) (g.F.Flash.state c.entry_of.new.flash) c.entry_of.new.buf (c.in-Err.ensures.memory none)

pub returns-in-Ok-clause-found : goal.returns-in-Ok-clause-found
returns-in-Ok-clause-found g c =
    subst (λ (o : Option ℕ). IfSome (looked_at c.args.self.now c.args.number c.args.buf.now) (λ listing. IsFound bitmap_alone c.args.self.now listing c.args.number c.entry_of.new.buf.bytes (Ok o))) (sym c.bitmap_found.ensures)
    (found-alone c.args.self.now c.args.number c.entry_of.new.buf.bytes (Ok c.in-Ok.found) (looked_at c.args.self.now c.args.number c.args.buf.now) c.in-Ok.ensures.found)

pub returns-in-Err-clause-found : goal.returns-in-Err-clause-found
returns-in-Err-clause-found g c =
    found-alone c.args.self.now c.args.number c.entry_of.new.buf.bytes (Err c.in-Err.fault) (looked_at c.args.self.now c.args.number c.args.buf.now) c.in-Err.ensures.found

pub returns-in-Err-clause-page : goal.returns-in-Err-clause-page
returns-in-Err-clause-page g c =
    IfSome_then (looked_at c.args.self.now c.args.number c.args.buf.now) c.in-Err.ensures.page (λ listing h told fresh. read-alone (Err c.in-Err.fault) _ (h told fresh))

pub returns-in-Err-clause-holds : goal.returns-in-Err-clause-holds
returns-in-Err-clause-holds g c =
    IfSome_then (looked_at c.args.self.now c.args.number c.args.buf.now) c.in-Err.ensures.holds (λ listing h. read-alone (Err c.in-Err.fault) _ h)

pub returns-in-Err-clause-read : goal.returns-in-Err-clause-read
returns-in-Err-clause-read g c =
    IfSome_then (looked_at c.args.self.now c.args.number c.args.buf.now) c.in-Err.ensures.read (λ listing h other. read-alone (Err c.in-Err.fault) _ (h other))

pub returns-in-Ok-clause-stands : goal.returns-in-Ok-clause-stands
returns-in-Ok-clause-stands g c = λ first plan table told stands fresh.
    subst (λ (o : Option ℕ). ShowsBitmap plan table c.args.number (Ok o)) (sym c.bitmap_found.ensures)
    (shows-alone plan table c.args.number (Ok c.in-Ok.found) (c.in-Ok.ensures.stands first plan table told stands fresh))

pub returns-in-Err-clause-stands : goal.returns-in-Err-clause-stands
returns-in-Err-clause-stands g c = λ first plan table told stands fresh.
    shows-alone plan table c.args.number (Err c.in-Err.fault) (c.in-Err.ensures.stands first plan table told stands fresh)

pub returns-in-Ok-clause-reads : goal.returns-in-Ok-clause-reads
returns-in-Ok-clause-reads g c = c.entry_of.ensures.reads

pub returns-in-Ok-clause-counts : goal.returns-in-Ok-clause-counts
returns-in-Ok-clause-counts g c = c.entry_of.ensures.counts

pub returns-in-Ok-clause-room : goal.returns-in-Ok-clause-room
returns-in-Ok-clause-room g c = c.entry_of.ensures.room

pub returns-in-Ok-clause-held : goal.returns-in-Ok-clause-held
returns-in-Ok-clause-held g c = c.entry_of.ensures.held

pub returns-in-Ok-clause-fresh : goal.returns-in-Ok-clause-fresh
returns-in-Ok-clause-fresh g c = c.entry_of.ensures.fresh

pub returns-in-Ok-clause-most : goal.returns-in-Ok-clause-most
returns-in-Ok-clause-most g c = c.entry_of.ensures.most

pub returns-in-Ok-clause-scans : goal.returns-in-Ok-clause-scans
returns-in-Ok-clause-scans g c = c.in-Ok.ensures.scans

pub returns-in-Ok-clause-least : goal.returns-in-Ok-clause-least
returns-in-Ok-clause-least g c = c.in-Ok.ensures.least

pub returns-in-Ok-clause-again : goal.returns-in-Ok-clause-again
returns-in-Ok-clause-again g c = c.in-Ok.ensures.again

pub returns-in-Ok-clause-good : goal.returns-in-Ok-clause-good
returns-in-Ok-clause-good g c = c.in-Ok.ensures.good

pub returns-in-Ok-clause-bad : goal.returns-in-Ok-clause-bad
returns-in-Ok-clause-bad g c = c.in-Ok.ensures.bad

pub returns-in-Ok-clause-cause : goal.returns-in-Ok-clause-cause
returns-in-Ok-clause-cause g c = c.in-Ok.ensures.cause

pub returns-in-Ok-clause-unread : goal.returns-in-Ok-clause-unread
returns-in-Ok-clause-unread g c = c.in-Ok.ensures.unread

pub returns-in-Err-clause-reads : goal.returns-in-Err-clause-reads
returns-in-Err-clause-reads g c = c.entry_of.ensures.reads

pub returns-in-Err-clause-counts : goal.returns-in-Err-clause-counts
returns-in-Err-clause-counts g c = c.entry_of.ensures.counts

pub returns-in-Err-clause-room : goal.returns-in-Err-clause-room
returns-in-Err-clause-room g c = c.entry_of.ensures.room

pub returns-in-Err-clause-held : goal.returns-in-Err-clause-held
returns-in-Err-clause-held g c = c.entry_of.ensures.held

pub returns-in-Err-clause-fresh : goal.returns-in-Err-clause-fresh
returns-in-Err-clause-fresh g c = c.entry_of.ensures.fresh

pub returns-in-Err-clause-most : goal.returns-in-Err-clause-most
returns-in-Err-clause-most g c = c.entry_of.ensures.most

pub returns-in-Err-clause-scans : goal.returns-in-Err-clause-scans
returns-in-Err-clause-scans g c = c.in-Err.ensures.scans

pub returns-in-Err-clause-least : goal.returns-in-Err-clause-least
returns-in-Err-clause-least g c = c.in-Err.ensures.least

pub returns-in-Err-clause-again : goal.returns-in-Err-clause-again
returns-in-Err-clause-again g c = c.in-Err.ensures.again

pub returns-in-Err-clause-good : goal.returns-in-Err-clause-good
returns-in-Err-clause-good g c = c.in-Err.ensures.good

pub returns-in-Err-clause-bad : goal.returns-in-Err-clause-bad
returns-in-Err-clause-bad g c = c.in-Err.ensures.bad

pub returns-in-Err-clause-cause : goal.returns-in-Err-clause-cause
returns-in-Err-clause-cause g c = c.in-Err.ensures.cause

pub returns-in-Err-clause-unread : goal.returns-in-Err-clause-unread
returns-in-Err-clause-unread g c = c.in-Err.ensures.unread

pub returns-in-Ok-clause-page : goal.returns-in-Ok-clause-page
returns-in-Ok-clause-page g c = c.in-Ok.ensures.page

pub returns-in-Ok-clause-holds : goal.returns-in-Ok-clause-holds
returns-in-Ok-clause-holds g c = c.in-Ok.ensures.holds

pub returns-in-Ok-clause-read : goal.returns-in-Ok-clause-read
returns-in-Ok-clause-read g c = c.in-Ok.ensures.read

pub entry_of-requires-clause-lies : goal.entry_of-requires-clause-lies
entry_of-requires-clause-lies g c = c.requires.lies

pub entry_of-requires-clause-room : goal.entry_of-requires-clause-room
entry_of-requires-clause-room g c = c.requires.room
