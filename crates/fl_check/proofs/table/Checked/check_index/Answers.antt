use Rattle.std.proofs.Common.{◌≡◌, Some, refl, sym, ◌∙◌, ap, subst, Option, IsTrue}
use Rattle.std.proofs.lemmas.Result.{err_from_is_err_and}
use Rattle.fl_base.specs.declared.types.Geometry.{Geometry}
use Rattle.fl_flash.specs.Flash.{page_at}
use Rattle.fl_ring.specs.Mounting.{shape_at}
use Rattle.fl_ring.specs.Place.{shape_of}
use Rattle.fl_ring.specs.Ring.{Shape}
use Rattle.fl_rules.specs.RingRules.{NoRows, IsRingSound, BreaksRing}
use Rattle.fl_rules.specs.Stop.{breach}
use Rattle.fl_check.specs.Whole.{shape_in, IsIndexForm}
use Rattle.fl_check.proofs.Halts.{found_so, ok_of, found_of, failed_so, failed_of}
use Rattle.fl_check.proofs.Wholes.{of_ring, of_none}
use Rattle.std.specs.Prelude.{is_some}
use Rattle.fl_base.specs.declared.types.RingPlace.{RingPlace}
use Rattle.fl_check.proofs.TableRings.{shape_is, room_in, room_back, some_blocks, some_lies}
use Rattle.fl_frame.proofs.ReadsInTurn.{looks_none}
use Rattle.std.proofs.lemmas.Option.{none-some}
use Rattle.std.proofs.lemmas.Bool.{false≢true}
use Rattle.fl_flash.specs.declared.flash.FlashFault.TheVariants.{PowerLost}
use Rattle.fl_rules.proofs.Results.{no_fault, same_fault}
use Rattle.fl_rules.specs.Marks.{AreWithin}
use Rattle.fl_check.proofs.table.Checked.check_index.Goals as goal

pub returns-in_err-n-clause-broken : goal.returns-in_err-n-clause-broken
returns-in_err-n-clause-broken g c =
    let f = g.F.Flash.state c.args.flash.now in
    let config = c.args.self.now.config.now in
    let before : shape_of c.unnumbered-ring.result ≡ shape_in c.args.self.now.config.now c.in-Some.place =
    c.unnumbered-ring.ensures.shape ∙ ap (λ (x : Geometry). shape_at c.in-Some.place x) (sym c.requires.fits.geometry) in
    let p = err_from_is_err_and c.from_residual.result c.from_residual.ensures.1 in
    rw (p.1, p.2) (found_so _ _ c.in_err-n.field-0.0
    (λ fault is told. (
      is.0,
      (record {
        place = c.in-Some.place;
        is = c.in-Some.is;
        breaks = subst (λ (r : Shape). BreaksRing (IsIndexForm config) NoRows (page_at f) r 0 fault.rule fault.page) before
            (found_of c.check_ring.result _ (breach fault.rule fault.page) is.1 c.check_ring.ensures.broken told);
      }),
    ))
    c.in_err-n.ensures.found)

pub returns-clause-sound : goal.returns-clause-sound
returns-clause-sound g c = λ told.
    let f = g.F.Flash.state c.args.flash.now in
    let config = c.args.self.now.config.now in
    let n = c.in_ok-n.n in
    let before : shape_of c.unnumbered-ring.result ≡ shape_in c.args.self.now.config.now c.in-Some.place =
    c.unnumbered-ring.ensures.shape ∙ ap (λ (x : Geometry). shape_at c.in-Some.place x) (sym c.requires.fits.geometry) in
    of_ring (λ place n. IsRingSound (IsIndexForm config) NoRows (page_at f) (shape_in config place) 0 n) config.index (Some n) c.in-Some.place n c.in-Some.is refl
    (subst (λ (r : Shape). IsRingSound (IsIndexForm config) NoRows (page_at f) r 0 n) before (ok_of c.check_ring.result _ n c.in_ok-n.ensures.ok c.check_ring.ensures.sound told))

pub unnumbered-ring-requires-clause-blocks : goal.unnumbered-ring-requires-clause-blocks
unnumbered-ring-requires-clause-blocks g c = some_blocks c.args.self.now.config.now.index c.in-Some.place c.in-Some.is c.requires.fits.limits.index

pub unnumbered-ring-requires-clause-lies : goal.unnumbered-ring-requires-clause-lies
unnumbered-ring-requires-clause-lies g c = some_lies c.args.self.now.config.now.index c.in-Some.place c.in-Some.is (g.F.Flash.state c.args.flash.now).blocks c.requires.fits.index

pub unnumbered-ring-requires-clause-few : goal.unnumbered-ring-requires-clause-few
unnumbered-ring-requires-clause-few g c = c.requires.fits.few

pub entry_form-requires-clause-limits : goal.entry_form-requires-clause-limits
entry_form-requires-clause-limits g c = c.requires.fits.limits

pub entry_form-requires-clause-index : goal.entry_form-requires-clause-index
entry_form-requires-clause-index g c = subst (λ (o : Option RingPlace). IsTrue (is_some o)) (sym c.in-Some.is) refl

pub check_ring-requires-clause-lies : goal.check_ring-requires-clause-lies
check_ring-requires-clause-lies g c = c.unnumbered-ring.ensures.lies

pub check_ring-requires-clause-room : goal.check_ring-requires-clause-room
check_ring-requires-clause-room g c = room_in c.args.self.now.config.now (g.F.Flash.state c.args.flash.now) c.requires.fits c.in-Some.place (shape_of c.unnumbered-ring.result) c.unnumbered-ring.ensures.shape c.requires.room

pub returns-in_default-clause-looks : goal.returns-in_default-clause-looks
returns-in_default-clause-looks g c = looks_none (g.F.Flash.state c.args.flash.now)

pub returns-in_default-clause-room : goal.returns-in_default-clause-room
returns-in_default-clause-room g c = c.requires.room

pub returns-in_default-clause-within : goal.returns-in_default-clause-within
returns-in_default-clause-within g c = of_none (λ place n. AreWithin (shape_in c.args.self.now.config.now place) n.marks) c.args.self.now.config.now.index c.in_default.is

pub returns-in_default-clause-sound : goal.returns-in_default-clause-sound
returns-in_default-clause-sound g c = λ told. of_none (λ place n. IsRingSound (IsIndexForm c.args.self.now.config.now) NoRows (page_at (g.F.Flash.state c.args.flash.now)) (shape_in c.args.self.now.config.now place) 0 n) c.args.self.now.config.now.index c.in_default.is

pub returns-in_default-clause-off : goal.returns-in_default-clause-off
returns-in_default-clause-off g c = λ some off. absurd (false≢true (subst (λ (o : Option RingPlace). IsTrue (is_some o)) c.in_default.is some))

pub returns-in_default-clause-none : goal.returns-in_default-clause-none
returns-in_default-clause-none g c = λ none. (refl, refl)

pub returns-in_err-n-clause-looks : goal.returns-in_err-n-clause-looks
returns-in_err-n-clause-looks g c = c.check_ring.ensures.looks

pub returns-in_err-n-clause-room : goal.returns-in_err-n-clause-room
returns-in_err-n-clause-room g c = room_back c.args.self.now.config.now (g.F.Flash.state c.args.flash.now) c.requires.fits c.in-Some.place (shape_of c.unnumbered-ring.result) c.unnumbered-ring.ensures.shape c.check_ring.ensures.room

pub returns-in_err-n-clause-within : goal.returns-in_err-n-clause-within
returns-in_err-n-clause-within g c =
    let p = err_from_is_err_and c.from_residual.result c.from_residual.ensures.1 in
    rw p.1 tt

pub returns-in_err-n-clause-sound : goal.returns-in_err-n-clause-sound
returns-in_err-n-clause-sound g c =
    let p = err_from_is_err_and c.from_residual.result c.from_residual.ensures.1 in
    rw p.1 tt

pub returns-in_err-n-clause-fails : goal.returns-in_err-n-clause-fails
returns-in_err-n-clause-fails g c =
    let p = err_from_is_err_and c.from_residual.result c.from_residual.ensures.1 in
    rw (p.1, p.2) (failed_so _ _ c.in_err-n.field-0.0 (λ e is. failed_of c.check_ring.result _ e is c.check_ring.ensures.fails) c.in_err-n.ensures.failed)

pub returns-in_err-n-clause-off : goal.returns-in_err-n-clause-off
returns-in_err-n-clause-off g c =
    let p = err_from_is_err_and c.from_residual.result c.from_residual.ensures.1 in
    rw (p.1, p.2) (λ some off. let both = c.check_ring.ensures.off off in (same_fault (c.in_err-n.ensures.lost PowerLost both.0), both.1))

pub returns-in_err-n-clause-none : goal.returns-in_err-n-clause-none
returns-in_err-n-clause-none g c = λ none. absurd (none-some c.in-Some.place (sym none ∙ c.in-Some.is))

pub returns-clause-looks : goal.returns-clause-looks
returns-clause-looks g c = c.check_ring.ensures.looks

pub returns-clause-room : goal.returns-clause-room
returns-clause-room g c = room_back c.args.self.now.config.now (g.F.Flash.state c.args.flash.now) c.requires.fits c.in-Some.place (shape_of c.unnumbered-ring.result) c.unnumbered-ring.ensures.shape c.check_ring.ensures.room

pub returns-clause-within : goal.returns-clause-within
returns-clause-within g c =
    of_ring (λ place n. AreWithin (shape_in c.args.self.now.config.now place) n.marks) c.args.self.now.config.now.index (Some c.in_ok-n.n) c.in-Some.place c.in_ok-n.n c.in-Some.is refl
    (subst (λ (r : Shape). AreWithin r c.in_ok-n.n.marks) (shape_is c.args.self.now.config.now (g.F.Flash.state c.args.flash.now) c.requires.fits c.in-Some.place (shape_of c.unnumbered-ring.result) c.unnumbered-ring.ensures.shape)
    (ok_of c.check_ring.result _ c.in_ok-n.n c.in_ok-n.ensures.ok c.check_ring.ensures.within))

pub returns-clause-off : goal.returns-clause-off
returns-clause-off g c = λ some off. absurd (no_fault (c.in_ok-n.ensures.lost PowerLost (c.check_ring.ensures.off off).0))

pub returns-clause-none : goal.returns-clause-none
returns-clause-none g c = λ none. absurd (none-some c.in-Some.place (sym none ∙ c.in-Some.is))
