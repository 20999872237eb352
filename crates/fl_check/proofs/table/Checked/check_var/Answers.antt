use Rattle.std.proofs.Common.{◌≡◌, Some, refl, sym, ◌∙◌, ap, subst}
use Rattle.fl_base.specs.declared.types.Geometry.{Geometry}
use Rattle.fl_flash.specs.Flash.{page_at}
use Rattle.fl_ring.specs.Mounting.{shape_at}
use Rattle.fl_ring.specs.Place.{shape_of}
use Rattle.fl_ring.specs.Ring.{Shape}
use Rattle.fl_rules.specs.ContentPage.{IsContentPage}
use Rattle.fl_rules.specs.RingRules.{NoRows, IsRingSound, BreaksRing}
use Rattle.fl_check.specs.Whole.{shape_in}
use Rattle.fl_check.proofs.Halts.{ok_of, failed_so, failed_of, found_so, found_of}
use Rattle.fl_check.proofs.Wholes.{of_ring, of_none}
use Rattle.fl_check.proofs.TableRings.{shape_is, room_in, room_back, some_blocks, some_lies}
use Rattle.fl_frame.proofs.ReadsInTurn.{looks_none}
use Rattle.fl_rules.specs.Marks.{AreWithin}
use Rattle.std.proofs.lemmas.Result.{err_from_is_err_and}
use Rattle.fl_rules.specs.Stop.{breach}
use Rattle.fl_check.proofs.table.Checked.check_var.Goals as goal

pub returns-clause-sound : goal.returns-clause-sound
returns-clause-sound g c = λ told.
    let f = g.F.Flash.state c.args.flash.now in
    let config = c.args.self.now.config.now in
    let n = c.in_ok-n.n in
    let place = c.in-Some.place in
    let before : shape_of c.unnumbered-ring.result ≡ shape_in c.args.self.now.config.now c.in-Some.place =
    c.unnumbered-ring.ensures.shape ∙ ap (λ (x : Geometry). shape_at c.in-Some.place x) (sym c.requires.fits.geometry) in
    of_ring (λ place n. IsRingSound (λ number bytes. IsContentPage number bytes) NoRows (page_at f) (shape_in config place) c.args.at_least n) config.var (Some n) place n c.in-Some.is refl
    (subst (λ (r : Shape). IsRingSound (λ number bytes. IsContentPage number bytes) NoRows (page_at f) r c.args.at_least n) before
    (ok_of c.check_ring.result _ n c.in_ok-n.ensures.ok c.check_ring.ensures.sound told))

pub unnumbered-ring-requires-clause-blocks : goal.unnumbered-ring-requires-clause-blocks
unnumbered-ring-requires-clause-blocks g c = some_blocks c.args.self.now.config.now.var c.in-Some.place c.in-Some.is c.requires.fits.limits.var

pub unnumbered-ring-requires-clause-lies : goal.unnumbered-ring-requires-clause-lies
unnumbered-ring-requires-clause-lies g c = some_lies c.args.self.now.config.now.var c.in-Some.place c.in-Some.is (g.F.Flash.state c.args.flash.now).blocks c.requires.fits.var

pub unnumbered-ring-requires-clause-few : goal.unnumbered-ring-requires-clause-few
unnumbered-ring-requires-clause-few g c = c.requires.fits.few

pub check_ring-requires-clause-lies : goal.check_ring-requires-clause-lies
check_ring-requires-clause-lies g c = c.unnumbered-ring.ensures.lies

pub check_ring-requires-clause-room : goal.check_ring-requires-clause-room
check_ring-requires-clause-room g c = room_in c.args.self.now.config.now (g.F.Flash.state c.args.flash.now) c.requires.fits c.in-Some.place (shape_of c.unnumbered-ring.result) c.unnumbered-ring.ensures.shape c.requires.room

pub returns-in_default-clause-looks : goal.returns-in_default-clause-looks
returns-in_default-clause-looks g c = looks_none (g.F.Flash.state c.args.flash.now)

pub returns-in_default-clause-room : goal.returns-in_default-clause-room
returns-in_default-clause-room g c = c.requires.room

pub returns-in_default-clause-within : goal.returns-in_default-clause-within
returns-in_default-clause-within g c = of_none (λ place n. AreWithin (shape_in c.args.self.now.config.now place) n.marks) c.args.self.now.config.now.var c.in_default.is

pub returns-in_default-clause-sound : goal.returns-in_default-clause-sound
returns-in_default-clause-sound g c = λ told. of_none (λ place n. IsRingSound (λ number bytes. IsContentPage number bytes) NoRows (page_at (g.F.Flash.state c.args.flash.now)) (shape_in c.args.self.now.config.now place) c.args.at_least n) c.args.self.now.config.now.var c.in_default.is

pub returns-in_err-n-clause-looks : goal.returns-in_err-n-clause-looks
returns-in_err-n-clause-looks g c = c.check_ring.ensures.looks

pub returns-in_err-n-clause-room : goal.returns-in_err-n-clause-room
returns-in_err-n-clause-room g c = room_back c.args.self.now.config.now (g.F.Flash.state c.args.flash.now) c.requires.fits c.in-Some.place (shape_of c.unnumbered-ring.result) c.unnumbered-ring.ensures.shape c.check_ring.ensures.room

pub returns-in_err-n-clause-within : goal.returns-in_err-n-clause-within
returns-in_err-n-clause-within g c =
    let p = err_from_is_err_and c.from_residual.result c.from_residual.ensures.1 in
    rw p.1 tt

pub returns-in_err-n-clause-sound : goal.returns-in_err-n-clause-sound
returns-in_err-n-clause-sound g c =
    let p = err_from_is_err_and c.from_residual.result c.from_residual.ensures.1 in
    rw p.1 tt

pub returns-in_err-n-clause-broken : goal.returns-in_err-n-clause-broken
returns-in_err-n-clause-broken g c =
    let f = g.F.Flash.state c.args.flash.now in
    let before : shape_of c.unnumbered-ring.result ≡ shape_in c.args.self.now.config.now c.in-Some.place =
    shape_is c.args.self.now.config.now (g.F.Flash.state c.args.flash.now) c.requires.fits c.in-Some.place (shape_of c.unnumbered-ring.result) c.unnumbered-ring.ensures.shape in
    let p = err_from_is_err_and c.from_residual.result c.from_residual.ensures.1 in
    rw (p.1, p.2) (found_so _ _ c.in_err-n.field-0.0
    (λ fault is told. (
      is.0,
      (record {
        place = c.in-Some.place;
        is = c.in-Some.is;
        breaks = subst (λ (r : Shape). BreaksRing (λ number bytes. IsContentPage number bytes) NoRows (page_at f) r c.args.at_least fault.rule fault.page) before
            (found_of c.check_ring.result _ (breach fault.rule fault.page) is.1 c.check_ring.ensures.broken told);
      }),
    ))
    c.in_err-n.ensures.found)

pub returns-in_err-n-clause-fails : goal.returns-in_err-n-clause-fails
returns-in_err-n-clause-fails g c =
    let p = err_from_is_err_and c.from_residual.result c.from_residual.ensures.1 in
    rw (p.1, p.2) (failed_so _ _ c.in_err-n.field-0.0 (λ e is. failed_of c.check_ring.result _ e is c.check_ring.ensures.fails) c.in_err-n.ensures.failed)

pub returns-clause-looks : goal.returns-clause-looks
returns-clause-looks g c = c.check_ring.ensures.looks

pub returns-clause-room : goal.returns-clause-room
returns-clause-room g c = room_back c.args.self.now.config.now (g.F.Flash.state c.args.flash.now) c.requires.fits c.in-Some.place (shape_of c.unnumbered-ring.result) c.unnumbered-ring.ensures.shape c.check_ring.ensures.room

pub returns-clause-within : goal.returns-clause-within
returns-clause-within g c =
    of_ring (λ place n. AreWithin (shape_in c.args.self.now.config.now place) n.marks) c.args.self.now.config.now.var (Some c.in_ok-n.n) c.in-Some.place c.in_ok-n.n c.in-Some.is refl
    (subst (λ (r : Shape). AreWithin r c.in_ok-n.n.marks) (shape_is c.args.self.now.config.now (g.F.Flash.state c.args.flash.now) c.requires.fits c.in-Some.place (shape_of c.unnumbered-ring.result) c.unnumbered-ring.ensures.shape)
    (ok_of c.check_ring.result _ c.in_ok-n.n c.in_ok-n.ensures.ok c.check_ring.ensures.within))
