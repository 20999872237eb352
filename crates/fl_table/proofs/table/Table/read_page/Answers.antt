use Rattle.std.proofs.Common.{rules, refl, Bool, ℕ, ◌<◌, Option, option_map, unwrap_or, List, subst, ◌≡◌, ◌≤◌, true, false, None, Some, Ok, Err, sym, ◌∙◌, ap, arith, length, Result}
use Rattle.fl_flash.specs.Flash.{page_at, FlashState, OffChangesNothing}
use Rattle.fl_flash.specs.declared.flash.FlashFault.{FlashFault}
use Rattle.fl_mark.specs.Mark.{state_of_page}
use Rattle.fl_mark.specs.declared.page_state.PageState.{PageState}
use Rattle.fl_mark.specs.declared.page_state.PageState.TheVariants.{Committed}
use Rattle.fl_model.specs.Record.{RowLayout}
use Rattle.fl_model.specs.Ring as rings
use Rattle.fl_page.specs.declared.fault.BadPage as code
use Rattle.fl_page.specs.declared.fault.ReadFault.TheVariants.{BadPage}
use Rattle.fl_page.specs.Page.{IsGoodPage, bad_page}
use Rattle.fl_frame.proofs.ContentsInTurn.{OnlyReads-read}
use Rattle.fl_frame.proofs.SingleReads.{one_read}
use Rattle.fl_page.proofs.ReadsInTurn.{IsCaused-read}
use Rattle.fl_ring.specs.Place.{next_of}
use Rattle.fl_ring.specs.declared.ring.Ring.{Ring}
use Rattle.fl_ring.proofs.Exists.{lies_exists}
use Rattle.fl_parts.specs.Kept.{IsFound}
use Rattle.fl_table.specs.Look.{layout_in, place_of}
use Rattle.fl_table.proofs.KeptRead.{ring-place, shows-rows}
use Rattle.fl_table.proofs.MemoryTells.{oldest-is}
use Rattle.fl_parts.proofs.Sizes.{schema-fits, view-fits}
use Rattle.fl_base.specs.declared.types.Geometry.{Geometry}
use Rattle.fl_flash.specs.declared.flash.Work.{Work}
use Rattle.fl_table.proofs.table.Table.read_page.Goals as goal

pub read-requires-clause-exists : goal.read-requires-clause-exists
read-requires-clause-exists g c =
    lies_exists c.in-Some.ring (g.F.Flash.state c.args.flash.now) c.place_of.result (c.requires.lies.ring c.in-Some.ring c.in-Some.is) c.place_of.ensures.within

-- a committed page whose rows don't fit
bad-found : (layout : RowLayout) (number : ℕ) (told rows page : List ℕ) (state : PageState) (bad : code.BadPage) → told ≡ page → rows ≡ page → state ≡ state_of_page told → state ≡ Committed → bad ≡ bad_page number rows → (IsGoodPage layout number rows → ⊥) →
    IsFound layout number page (Err (BadPage bad))
bad-found layout number told rows page state bad same kept is committed blamed unfit =
    (ap state_of_page (sym same) ∙ (sym is ∙ committed), subst (λ (p : List ℕ). IsGoodPage layout number p → ⊥) kept unfit, blamed ∙ ap (λ (p : List ℕ). bad_page number p) kept)

pub returns-in_default-state_of-clause-stands : goal.returns-in_default-state_of-clause-stands
returns-in_default-state_of-clause-stands g c = λ first plan table count told stands e.
    let t = c.args.self.now in
    let f = g.F.Flash.state c.args.flash.now in
    let low : rings.oldest table.rows ≤ c.args.number = omega (arith, c.requires.kept, oldest-is t f first plan table stands) in
    let at : place_of t c.args.number ≡ c.place_of.result = ring-place t c.in-Some.ring c.args.number c.in-Some.is ∙ sym c.place_of.ensures.place in
    let bytes : c.read.new.into.bytes ≡ page_at f (place_of t c.args.number) = c.in_default-read.ensures.bytes told ∙ ap (page_at f) (sym at) in
    let found : IsFound (layout_in t) c.args.number c.read.new.into.bytes (Ok false) = search rules in
    shows-rows t f first plan table stands c.requires.lies (g.met.F.Flash.reaches c.args.flash.now) c.args.number count low e c.read.new.into.bytes bytes (Ok false) found

pub returns-in-Ok-clause-stands : goal.returns-in-Ok-clause-stands
returns-in-Ok-clause-stands g c = λ first plan table count told stands e.
    let t = c.args.self.now in
    let f = g.F.Flash.state c.args.flash.now in
    let low : rings.oldest table.rows ≤ c.args.number = omega (arith, c.requires.kept, oldest-is t f first plan table stands) in
    let at : place_of t c.args.number ≡ c.place_of.result = ring-place t c.in-Some.ring c.args.number c.in-Some.is ∙ sym c.place_of.ensures.place in
    let bytes : c.read.new.into.bytes ≡ page_at f (place_of t c.args.number) = c.in_default-read.ensures.bytes told ∙ ap (page_at f) (sym at) in
    let found : IsFound (layout_in t) c.args.number c.read.new.into.bytes (Ok true) = search rules in
    shows-rows t f first plan table stands c.requires.lies (g.met.F.Flash.reaches c.args.flash.now) c.args.number count low e c.read.new.into.bytes bytes (Ok true) found

pub returns-in-Err-of-clause-stands : goal.returns-in-Err-of-clause-stands
returns-in-Err-of-clause-stands g c = λ first plan table count told stands e.
    let t = c.args.self.now in
    let f = g.F.Flash.state c.args.flash.now in
    let low : rings.oldest table.rows ≤ c.args.number = omega (arith, c.requires.kept, oldest-is t f first plan table stands) in
    let at : place_of t c.args.number ≡ c.place_of.result = ring-place t c.in-Some.ring c.args.number c.in-Some.is ∙ sym c.place_of.ensures.place in
    let bytes : c.read.new.into.bytes ≡ page_at f (place_of t c.args.number) = c.in_default-read.ensures.bytes told ∙ ap (page_at f) (sym at) in
    let found = bad-found (layout_in t) c.args.number c.bytes.result.now c.bytes-2.result.now c.read.new.into.bytes c.state_of.result c.in-Err-of.bad c.bytes.ensures c.bytes-2.ensures c.state_of.ensures c.in-Committed.is c.in-Err-of.ensures.0 c.in-Err-of.ensures.1 in
    shows-rows t f first plan table stands c.requires.lies (g.met.F.Flash.reaches c.args.flash.now) c.args.number count low e c.read.new.into.bytes bytes (Err (BadPage c.in-Err-of.bad)) found

pub returns-in-Err-of-clause-found : goal.returns-in-Err-of-clause-found
returns-in-Err-of-clause-found g c =
    bad-found (layout_in c.args.self.now) c.args.number c.bytes.result.now c.bytes-2.result.now c.read.new.into.bytes c.state_of.result c.in-Err-of.bad c.bytes.ensures c.bytes-2.ensures c.state_of.ensures c.in-Committed.is c.in-Err-of.ensures.0 c.in-Err-of.ensures.1

pub returns-in-Err-clause-counts : goal.returns-in-Err-clause-counts
returns-in-Err-clause-counts g c = OnlyReads-read _ _ _ _ _ _ c.read.ensures

pub returns-in_default-state_of-clause-counts : goal.returns-in_default-state_of-clause-counts
returns-in_default-state_of-clause-counts g c = OnlyReads-read _ _ _ _ _ _ c.read.ensures

pub returns-in-Ok-clause-counts : goal.returns-in-Ok-clause-counts
returns-in-Ok-clause-counts g c = OnlyReads-read _ _ _ _ _ _ c.read.ensures

pub returns-in-Err-of-clause-counts : goal.returns-in-Err-of-clause-counts
returns-in-Err-of-clause-counts g c = OnlyReads-read _ _ _ _ _ _ c.read.ensures

pub returns-in-Err-clause-cause : goal.returns-in-Err-clause-cause
returns-in-Err-clause-cause g c = IsCaused-read _ _ _ _ (Err c.in-Err.fault) _ c.in-Err.ensures

pub returns-in-Err-clause-reads : goal.returns-in-Err-clause-reads
returns-in-Err-clause-reads g c = one_read _ _ _ _ _ _ c.read.ensures

pub returns-in_default-state_of-clause-reads : goal.returns-in_default-state_of-clause-reads
returns-in_default-state_of-clause-reads g c = one_read _ _ _ _ _ _ c.read.ensures

pub returns-in-Ok-clause-reads : goal.returns-in-Ok-clause-reads
returns-in-Ok-clause-reads g c = one_read _ _ _ _ _ _ c.read.ensures

pub returns-in-Err-of-clause-reads : goal.returns-in-Err-of-clause-reads
returns-in-Err-of-clause-reads g c = one_read _ _ _ _ _ _ c.read.ensures

pub returns-in_default-state_of-clause-holds : goal.returns-in_default-state_of-clause-holds
returns-in_default-state_of-clause-holds g c = c.in_default-read.ensures.holds ∙ ap Some (c.place_of.ensures.place ∙ sym (ring-place c.args.self.now c.in-Some.ring c.args.number c.in-Some.is))

pub returns-in-Ok-clause-holds : goal.returns-in-Ok-clause-holds
returns-in-Ok-clause-holds g c = c.in_default-read.ensures.holds ∙ ap Some (c.place_of.ensures.place ∙ sym (ring-place c.args.self.now c.in-Some.ring c.args.number c.in-Some.is))

pub returns-in-Err-of-clause-holds : goal.returns-in-Err-of-clause-holds
returns-in-Err-of-clause-holds g c = c.in_default-read.ensures.holds ∙ ap Some (c.place_of.ensures.place ∙ sym (ring-place c.args.self.now c.in-Some.ring c.args.number c.in-Some.is))

pub returns-in-Err-clause-holds : goal.returns-in-Err-clause-holds
returns-in-Err-clause-holds g c = c.in-Err.ensures.none

pub returns-in_default-state_of-clause-room : goal.returns-in_default-state_of-clause-room
returns-in_default-state_of-clause-room g c = c.read.ensures.size_stays

pub returns-in-Ok-clause-room : goal.returns-in-Ok-clause-room
returns-in-Ok-clause-room g c = c.read.ensures.size_stays

pub returns-in-Err-of-clause-one : goal.returns-in-Err-of-clause-one
returns-in-Err-of-clause-one g c = tt

pub returns-in-Err-of-clause-room : goal.returns-in-Err-of-clause-room
returns-in-Err-of-clause-room g c = c.read.ensures.size_stays

pub unreachable-unreachable : goal.unreachable-unreachable
unreachable-unreachable g c = c.unreachable.type_inv

pub read-requires-clause-room : goal.read-requires-clause-room
read-requires-clause-room g c = c.requires.room

pub returns-in-Err-clause-room : goal.returns-in-Err-clause-room
returns-in-Err-clause-room g c = c.read.ensures.size_stays

-- a table without a ring keeps no page
none-kept : (number : ℕ) (o : Option Ring) → o ≡ None → number < unwrap_or (option_map (λ ring. next_of ring) o) 0 → ⊥
none-kept number o e lt = no (subst (λ (o : Option Ring). number < unwrap_or (option_map (λ ring. next_of ring) o) 0) e lt)
  where
    no : number < 0 → ⊥
    no lt = omega (arith, lt)

pub unreachable-requires : goal.unreachable-requires
unreachable-requires g c = none-kept c.args.number c.args.self.now.ring c.in_default.is c.requires.kept.1

-- a read that succeeds has the power on
is-on : (done : Unit {0}) (old new : FlashState) → OffChangesNothing old (Ok done) new → old.is_on ≡ true
is-on done old new off = by_power old.is_on refl
  where
    no : (fault : FlashFault) → ◌≡◌ {A = Result (Unit {0}) FlashFault} (Ok done) (Err fault) → ⊥
    no fault e = cc

    by_power : (on : Bool) → old.is_on ≡ on → old.is_on ≡ true
    by_power true e = e
    by_power false e = absurd (no _ (off e).0)

-- a page of 64 bytes or more has its marks and its header
long-marks : (len page : ℕ) → len ≡ page → 64 ≤ page → 8 ≤ len
long-marks len page e least = omega (arith, e, least)

long-header : (len page : ℕ) → len ≡ page → 64 ≤ page → 24 ≤ len
long-header len page e least = omega (arith, e, least)

pub returns-in_default-state_of-clause-one : goal.returns-in_default-state_of-clause-one
returns-in_default-state_of-clause-one g c = ap (λ (w : Work). w.reads) (c.in_default-read.ensures.counted (is-on c.in_default-read.field-0 (g.F.Flash.state c.args.flash.now) (g.F.Flash.state c.read.new.self) c.in_default-read.ensures.off))

pub returns-in_default-state_of-clause-power : goal.returns-in_default-state_of-clause-power
returns-in_default-state_of-clause-power g c = c.in_default-read.ensures.power ∙ is-on c.in_default-read.field-0 (g.F.Flash.state c.args.flash.now) (g.F.Flash.state c.read.new.self) c.in_default-read.ensures.off

pub returns-in-Ok-clause-one : goal.returns-in-Ok-clause-one
returns-in-Ok-clause-one g c = ap (λ (w : Work). w.reads) (c.in_default-read.ensures.counted (is-on c.in_default-read.field-0 (g.F.Flash.state c.args.flash.now) (g.F.Flash.state c.read.new.self) c.in_default-read.ensures.off))

pub returns-in-Ok-clause-power : goal.returns-in-Ok-clause-power
returns-in-Ok-clause-power g c = c.in_default-read.ensures.power ∙ is-on c.in_default-read.field-0 (g.F.Flash.state c.args.flash.now) (g.F.Flash.state c.read.new.self) c.in_default-read.ensures.off

pub returns-in_default-state_of-clause-page : goal.returns-in_default-state_of-clause-page
returns-in_default-state_of-clause-page g c = λ told. c.in_default-read.ensures.bytes told ∙ ap (page_at (g.F.Flash.state c.args.flash.now)) (sym (ring-place c.args.self.now c.in-Some.ring c.args.number c.in-Some.is ∙ sym c.place_of.ensures.place))

pub returns-in-Ok-clause-page : goal.returns-in-Ok-clause-page
returns-in-Ok-clause-page g c = λ told. c.in_default-read.ensures.bytes told ∙ ap (page_at (g.F.Flash.state c.args.flash.now)) (sym (ring-place c.args.self.now c.in-Some.ring c.args.number c.in-Some.is ∙ sym c.place_of.ensures.place))

pub returns-in-Err-of-clause-page : goal.returns-in-Err-of-clause-page
returns-in-Err-of-clause-page g c = λ told. c.in_default-read.ensures.bytes told ∙ ap (page_at (g.F.Flash.state c.args.flash.now)) (sym (ring-place c.args.self.now c.in-Some.ring c.args.number c.in-Some.is ∙ sym c.place_of.ensures.place))

pub state_of-requires : goal.state_of-requires
state_of-requires g c =
    let least = subst (λ (x : Geometry). 64 ≤ x.page) (sym c.requires.lies.geometry) c.args.self.now.served.page_least in
    long-marks _ _ (ap (λ (xs : List ℕ). length xs) c.bytes.ensures ∙ (c.read.ensures.size_stays ∙ c.requires.room)) least

pub of-requires : goal.of-requires
of-requires g c =
    let least = subst (λ (x : Geometry). 64 ≤ x.page) (sym c.requires.lies.geometry) c.args.self.now.served.page_least in
    (schema-fits, (view-fits, long-header _ _ (ap (λ (xs : List ℕ). length xs) c.bytes-2.ensures ∙ (c.read.ensures.size_stays ∙ c.requires.room)) least))
