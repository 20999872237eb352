use Rattle.std.proofs.Common.{ℕ, List, length, Ok, Option, is_some, zero-le, refl, sym, ◌∙◌, ap, subst}
use Rattle.std.specs.Option.{option_map, unwrap_or}
use Rattle.std.proofs.lemmas.Result.{err_from_is_err_and}
use Rattle.fl_flash.specs.Buffer.{BufferState}
use Rattle.fl_flash.specs.Flash.{page_at}
use Rattle.fl_ring.specs.Place.{next_of, oldest_of}
use Rattle.fl_ring.specs.declared.ring.Ring.{Ring}
use Rattle.fl_ring.proofs.Exists.{lies_exists, lies_still}
use Rattle.fl_ring.proofs.CutPages.{same_content}
use Rattle.fl_index.specs.Loading.{IsLoaded}
use Rattle.fl_index.proofs.Lies.{lies-later}
use Rattle.fl_index.proofs.LoadedPages.{loaded-from, loads-well}
use Rattle.fl_index.proofs.Lookups.{place-same}
use Rattle.fl_index.proofs.SealEnds.{lies-size}
use Rattle.std.proofs.lemmas.Bool.{true≢false}
use Rattle.fl_flash.specs.declared.flash.FlashFault.TheVariants.{PowerLost}
use Rattle.fl_base.specs.declared.types.Geometry.{Geometry}
use Rattle.fl_frame.proofs.ReadsInTurn.{was_on}
use Rattle.fl_ring.proofs.Mounts.{err_as}
use Rattle.fl_frame.proofs.SingleReads.{one_read, read_fails, read_once}
use Rattle.fl_index.proofs.Limits.{none-left}
use Rattle.fl_index.proofs.index.BitmapIndex.load.Goals as goal

pub returns-clause-stands : goal.returns-clause-stands
returns-clause-stands g c = λ first plan table told stands.
    let t = c.args.self.now in
    let f = g.F.Flash.state c.args.flash.now in
    let new = g.F.Flash.state c.read-read.new.self in
    let lies = c.requires.lies in
    let read = c.in_ok-read.ensures in
    let same = c.take.ensures.same in
    let bytes = c.bytes.ensures ∙ (ap (λ (b : BufferState). b.bytes) c.forget.ensures ∙ (read.bytes told ∙ ap (page_at f) (c.place_of-page.ensures.place ∙ place-same t c.in-Some.ring c.in-Some.is c.args.number))) in
    loads-well t c.take.new.self f new first plan table c.args.number stands (lies-size t f first plan stands.planned lies.geometry lies.within (g.met.F.Flash.reaches c.args.flash.now)) c.requires.kept.0 c.requires.kept.1
    (record { geometry = same.geometry; place = same.place; bits = same.bits; full = same.full }) c.take.ensures.still (same_content f new read.goes read.same) c.take.ensures.others c.take.result
    (subst (λ (l : List ℕ). IsLoaded t c.args.number l c.take.result c.take.new.self) bytes (loaded-from _ t c.args.number c.bytes.result.now c.take.result c.take.new.self refl refl c.take.ensures.loaded))

pub returns-in_err-read-clause-loaded : goal.returns-in_err-read-clause-loaded
returns-in_err-read-clause-loaded g c =
    let p = err_from_is_err_and c.from_residual.result c.from_residual.ensures.1 in
    rw p.1 tt

pub returns-in_err-read-clause-once : goal.returns-in_err-read-clause-once
returns-in_err-read-clause-once g c =
    let p = err_from_is_err_and c.from_residual.result c.from_residual.ensures.1 in
    rw p.1 tt

pub returns-in_err-read-clause-power : goal.returns-in_err-read-clause-power
returns-in_err-read-clause-power g c =
    let p = err_from_is_err_and c.from_residual.result c.from_residual.ensures.1 in
    rw p.1 tt

pub returns-in_err-read-clause-stands : goal.returns-in_err-read-clause-stands
returns-in_err-read-clause-stands g c = λ first plan table told stands.
    let p = err_from_is_err_and c.from_residual.result c.from_residual.ensures.1 in
    rw p.1 tt

pub returns-in_err-read-clause-dropped : goal.returns-in_err-read-clause-dropped
returns-in_err-read-clause-dropped g c =
    let p = err_from_is_err_and c.from_residual.result c.from_residual.ensures.1 in
    rw p.1 (refl, λ n. refl)

pub returns-in_err-read-clause-others : goal.returns-in_err-read-clause-others
returns-in_err-read-clause-others g c = λ n other. refl

pub returns-in_err-read-clause-ring : goal.returns-in_err-read-clause-ring
returns-in_err-read-clause-ring g c = (refl, refl, refl)

pub returns-in_err-read-clause-same : goal.returns-in_err-read-clause-same
returns-in_err-read-clause-same g c = record { geometry = refl; place = refl; bits = refl; full = refl }

pub returns-in_err-read-clause-lies : goal.returns-in_err-read-clause-lies
returns-in_err-read-clause-lies g c =
    lies-later c.args.self.now _ (g.F.Flash.state c.args.flash.now) (g.F.Flash.state c.read-read.new.self) (record { geometry = refl; place = refl; bits = refl; full = refl }) c.requires.lies c.in_err-read.ensures.goes (λ r has. lies_still r (g.F.Flash.state c.args.flash.now) (g.F.Flash.state c.read-read.new.self) (c.requires.lies.ring r has) c.in_err-read.ensures.goes)

pub returns-in_err-read-clause-room : goal.returns-in_err-read-clause-room
returns-in_err-read-clause-room g c = ap (λ (b : BufferState). length b.bytes) c.forget.ensures ∙ c.in_err-read.ensures.size_stays

pub returns-in_err-read-clause-holds : goal.returns-in_err-read-clause-holds
returns-in_err-read-clause-holds g c = ap (λ (b : BufferState). b.holds) c.forget.ensures

pub returns-clause-room : goal.returns-clause-room
returns-clause-room g c = ap (λ (b : BufferState). length b.bytes) c.forget.ensures ∙ c.in_ok-read.ensures.size_stays

pub returns-clause-holds : goal.returns-clause-holds
returns-clause-holds g c = ap (λ (b : BufferState). b.holds) c.forget.ensures

pub take-requires-clause-none : goal.take-requires-clause-none
take-requires-clause-none g c = refl

pub returns-clause-others : goal.returns-clause-others
returns-clause-others g c = c.take.ensures.others

pub returns-clause-same : goal.returns-clause-same
returns-clause-same g c = record { geometry = c.take.ensures.same.geometry; place = c.take.ensures.same.place; bits = c.take.ensures.same.bits; full = c.take.ensures.same.full }

pub returns-clause-lies : goal.returns-clause-lies
returns-clause-lies g c =
    lies-later c.args.self.now c.take.new.self (g.F.Flash.state c.args.flash.now) (g.F.Flash.state c.read-read.new.self) (record { geometry = c.take.ensures.same.geometry; place = c.take.ensures.same.place; bits = c.take.ensures.same.bits; full = c.take.ensures.same.full })
    c.requires.lies c.in_ok-read.ensures.goes (λ r has. lies_still r (g.F.Flash.state c.args.flash.now) (g.F.Flash.state c.read-read.new.self) (c.requires.lies.ring r (sym c.take.ensures.still ∙ has)) c.in_ok-read.ensures.goes)

pub returns-clause-ring : goal.returns-clause-ring
returns-clause-ring g c = (ap (λ (o : Option Ring). is_some o) c.take.ensures.still, ap (λ (o : Option Ring). unwrap_or (option_map (λ r. oldest_of r) o) 0) c.take.ensures.still, ap (λ (o : Option Ring). unwrap_or (option_map (λ r. next_of r) o) 0) c.take.ensures.still)

pub invariant_of-self : goal.invariant_of-self
invariant_of-self g c =
    let t = c.args.self.now in
    record {
      served = t.served;
      some_blocks = t.some_blocks;
      few_blocks = t.few_blocks;
      some_bits = t.some_bits;
      remembered = t.remembered;
      page = t.page;
      blank_rest = t.blank_rest;
      few = zero-le;
      left = none-left t.first t.waiting t.left;
      lies = t.lies;
    }

pub read-read-requires-clause-exists : goal.read-read-requires-clause-exists
read-read-requires-clause-exists g c = lies_exists c.in-Some.ring (g.F.Flash.state c.args.flash.now) c.place_of-page.result (c.requires.lies.ring c.in-Some.ring c.in-Some.is) c.place_of-page.ensures.within

pub read-read-requires-clause-room : goal.read-read-requires-clause-room
read-read-requires-clause-room g c = c.requires.room

pub returns-in_err-read-clause-reads : goal.returns-in_err-read-clause-reads
returns-in_err-read-clause-reads g c = one_read _ _ _ _ _ _ c.read-read.ensures

pub returns-in_err-read-clause-fails : goal.returns-in_err-read-clause-fails
returns-in_err-read-clause-fails g c =
    let p = err_from_is_err_and c.from_residual.result c.from_residual.ensures.1 in
    rw (p.1, p.2) (read_fails _ _ _ _ c.in_err-read.field-0.0 _ c.in_err-read.ensures)

pub returns-in_err-read-clause-off : goal.returns-in_err-read-clause-off
returns-in_err-read-clause-off g c =
    let p = err_from_is_err_and c.from_residual.result c.from_residual.ensures.1 in
    rw (p.1, p.2) (λ down. let x = c.in_err-read.ensures.off down in (err_as c.in_err-read.field-0.0 PowerLost x.0, x.1))

pub take-requires-clause-size : goal.take-requires-clause-size
take-requires-clause-size g c = ap (λ (l : List ℕ). length l) c.bytes.ensures ∙ (ap (λ (b : BufferState). length b.bytes) c.forget.ensures ∙ (c.in_ok-read.ensures.size_stays ∙ (c.requires.room ∙ ap (λ (x : Geometry). x.page) c.requires.lies.geometry)))

pub returns-clause-loaded : goal.returns-clause-loaded
returns-clause-loaded g c = λ told.
    let t = c.args.self.now in
    let f = g.F.Flash.state c.args.flash.now in
    let bytes = c.bytes.ensures ∙ (ap (λ (b : BufferState). b.bytes) c.forget.ensures ∙ (c.in_ok-read.ensures.bytes told ∙ ap (page_at f) (c.place_of-page.ensures.place ∙ place-same t c.in-Some.ring c.in-Some.is c.args.number))) in
    subst (λ (l : List ℕ). IsLoaded t c.args.number l c.take.result c.take.new.self) bytes (loaded-from _ t c.args.number c.bytes.result.now c.take.result c.take.new.self refl refl c.take.ensures.loaded)

pub returns-clause-reads : goal.returns-clause-reads
returns-clause-reads g c = one_read _ _ _ _ _ _ c.read-read.ensures

pub returns-clause-once : goal.returns-clause-once
returns-clause-once g c = read_once _ _ _ _ c.in_ok-read.field-0 _ c.in_ok-read.ensures

pub returns-clause-off : goal.returns-clause-off
returns-clause-off g c = λ down. absurd (true≢false (sym (was_on (g.F.Flash.state c.args.flash.now) (Ok c.in_ok-read.field-0) (g.F.Flash.state c.read-read.new.self) c.in_ok-read.field-0 c.in_ok-read.ensures.off refl) ∙ down))

pub returns-clause-power : goal.returns-clause-power
returns-clause-power g c = c.in_ok-read.ensures.cause.on
