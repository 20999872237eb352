use Rattle.std.proofs.Common.{◌≡◌, List, ℕ, ap, subst, ◌∙◌}
use Rattle.fl_flash.specs.Flash.{page_at}
use Rattle.fl_schema.specs.Schema.{layout_of}
use Rattle.fl_ring.proofs.Exists.{lies_exists}
use Rattle.fl_find.specs.Looking.{IsSound}
use Rattle.fl_find.specs.Pages.{IsBadPage}
use Rattle.fl_find.proofs.PageLooks.{looks-read, fresh-read}
use Rattle.fl_find.proofs.first.read_first.Goals as goal

pub read-requires-clause-exists : goal.read-requires-clause-exists
read-requires-clause-exists g c = lies_exists c.args.ring.now (g.F.Flash.state c.args.flash.now) c.place_of.result c.requires.lies c.place_of.ensures.within

pub returns-in-Err-clause-looks : goal.returns-in-Err-clause-looks
returns-in-Err-clause-looks g c = looks-read _ _ _ _ _ _ c.read.ensures

pub returns-in-Ok-clause-looks : goal.returns-in-Ok-clause-looks
returns-in-Ok-clause-looks g c = looks-read _ _ _ _ _ _ c.read.ensures

pub returns-in-Err-first_in-clause-looks : goal.returns-in-Err-first_in-clause-looks
returns-in-Err-first_in-clause-looks g c = looks-read _ _ _ _ _ _ c.read.ensures

pub returns-in-Err-clause-fresh : goal.returns-in-Err-clause-fresh
returns-in-Err-clause-fresh g c = fresh-read _ _ _ _ _ _ c.read.ensures

pub returns-in-Ok-clause-fresh : goal.returns-in-Ok-clause-fresh
returns-in-Ok-clause-fresh g c = fresh-read _ _ _ _ _ _ c.read.ensures

pub returns-in-Err-first_in-clause-fresh : goal.returns-in-Err-first_in-clause-fresh
returns-in-Err-first_in-clause-fresh g c = fresh-read _ _ _ _ _ _ c.read.ensures

pub returns-in-Ok-clause-sound : goal.returns-in-Ok-clause-sound
returns-in-Ok-clause-sound g c = λ told.
    let got : c.read.new.into.bytes ≡ page_at (g.F.Flash.state c.args.flash.now) c.place_of.result = rw c.in_default.is at c.read.ensures.bytes told in
    subst (λ (page : List ℕ). IsSound (layout_of c.args.schema.now) c.args.number page) (c.bytes.ensures ∙ (got ∙ ap (page_at (g.F.Flash.state c.args.flash.now)) c.place_of.ensures.place)) c.in-Ok.ensures.sound

pub returns-in-Err-clause-blames : goal.returns-in-Err-clause-blames
returns-in-Err-clause-blames g c = tt

pub returns-in-Ok-clause-blames : goal.returns-in-Ok-clause-blames
returns-in-Ok-clause-blames g c = tt

pub returns-in-Err-first_in-clause-blames : goal.returns-in-Err-first_in-clause-blames
returns-in-Err-first_in-clause-blames g c = λ told.
    let got : c.read.new.into.bytes ≡ page_at (g.F.Flash.state c.args.flash.now) c.place_of.result = rw c.in_default.is at c.read.ensures.bytes told in
    subst (λ (page : List ℕ). IsBadPage (layout_of c.args.schema.now) c.args.number page c.in-Err-first_in.bad) (c.bytes.ensures ∙ (got ∙ ap (page_at (g.F.Flash.state c.args.flash.now)) c.place_of.ensures.place)) c.in-Err-first_in.ensures.bad
