use Rattle.std.proofs.Common.{◌≡◌, ◌⊎◌, inl, inr, ℕ, ◌-◌, cond, Option, Some, None, IfSome, IsTrue, List, length, refl, sym, ◌∙◌, ap, subst, arith}
use Rattle.std.proofs.Math.Nat.{le-add_right}
use Rattle.std.proofs.lemmas.Option.{none-some, same_Some, MatchOption-from_none}
use Rattle.fl_base.specs.declared.types.Geometry.{Geometry}
use Rattle.fl_ring.specs.Place.{shape_of}
use Rattle.fl_ring.specs.Ring.{place}
use Rattle.fl_flash.specs.Buffer.{BufferState}
use Rattle.fl_flash.specs.Flash.{page_at}
use Rattle.fl_flash.specs.Media.{next_count}
use Rattle.fl_index.specs.Page.{page_number, IsGoodPage}
use Rattle.fl_frame.proofs.ReadsInTurn.{same_page, none_read}
use Rattle.fl_frame.proofs.ContentsInTurn.{OnlyReads-same}
use Rattle.fl_index.specs.Looking.{looked_at, listing_of, entire, IsFound, IsFresh, IsHeld, IfRead}
use Rattle.fl_index.specs.Memory.{is_waiting, found_waiting, first_waiting, listing_in, place_in}
use Rattle.fl_index.proofs.Scans.{memory-least, good-found, caused-none, bad-page, scan-most, unread-again, scan-least}
use Rattle.fl_index.proofs.LookupsOfTable.{X_is, waits-shows, none-shows, page-is, found-shows}
use Rattle.fl_index.proofs.Held.{none-by}
use Rattle.fl_index.proofs.Lookups.{some-of, none-of, read-any, listing-here, looked-here, kept-here, held-is, here-bytes, place-same, scans-on, ok-any}
use Rattle.fl_index.proofs.LookupCalls.{header-fits, holds-good, some-any, some-at, unread-never, none-waits, none-listed, no-ring-in, no-ring-by, from-memory, scan-stays}
use Rattle.fl_index.proofs.index.BitmapIndex.entry_of.Goals as goal

pub returns-in-Some-clause-stands : goal.returns-in-Some-clause-stands
returns-in-Some-clause-stands g c = λ first plan table told stands fresh.
    let t = c.args.self.now in
    let w = some-of (is_waiting t c.args.number) (found_waiting t (c.args.number - first_waiting t)) c.in-Some.found (sym c.waiting_entry.ensures ∙ c.in-Some.is) in
    waits-shows t (g.F.Flash.state c.args.flash.now) first plan table stands c.args.number c.in-Some.found w.0 w.1

pub returns-in_default-listing-clause-stands : goal.returns-in_default-listing-clause-stands
returns-in_default-listing-clause-stands g c = λ first plan table told stands fresh.
    let t = c.args.self.now in
    let w = none-of (is_waiting t c.args.number) (found_waiting t (c.args.number - first_waiting t)) (sym c.waiting_entry.ensures ∙ c.in_default.is) in
    none-shows t (g.F.Flash.state c.args.flash.now) first plan table stands c.args.number w (none-by t c.args.number c.args.buf.now (c.listing.ensures.none c.in_default-listing.is))

pub returns-clause-page : goal.returns-clause-page
returns-clause-page g c =
    let t = c.args.self.now in
    let f = g.F.Flash.state c.args.flash.now in
    let page = c.in-Some-listing.listing.page in
    let w = none-of (is_waiting t c.args.number) (found_waiting t (c.args.number - first_waiting t)) (sym c.waiting_entry.ensures ∙ c.in_default.is) in
    subst (λ (o : Option ℕ). IfSome o (λ listing. IsTrue f.media.tells → IsFresh t f c.args.buf.now → IfRead c.listed.result (c.hold.new.buf.bytes ≡ page_at f (place_in t listing))))
    (sym (looked-here t c.in-Some-ring.ring c.in-Some-ring.is c.args.number page c.args.buf.now c.in-Some-listing.ensures.some.0 w))
    (λ told fresh. read-any c.listed.result _ (here-bytes t c.in-Some-ring.ring c.in-Some-ring.is c.args.number page c.args.buf.now c.in-Some-listing.ensures.some.0 f c.hold.new.buf fresh (c.in_default-hold.ensures.page told)))

pub returns-clause-stands : goal.returns-clause-stands
returns-clause-stands g c = λ first plan table told stands fresh.
    let t = c.args.self.now in
    let f = g.F.Flash.state c.args.flash.now in
    let page = c.in-Some-listing.listing.page in
    let bytes = here-bytes t c.in-Some-ring.ring c.in-Some-ring.is c.args.number page c.args.buf.now c.in-Some-listing.ensures.some.0 f c.hold.new.buf fresh (c.in_default-hold.ensures.page told) in
    let p = page-is t f first plan table stands c.args.number page (listing-here t c.in-Some-ring.ring c.in-Some-ring.is c.args.number page c.args.buf.now c.in-Some-listing.ensures.some.0 f first plan table stands) c.bytes.result.now (c.bytes.ensures ∙ bytes) in
    found-shows t f first plan table stands c.args.number page c.bytes.result.now c.listed.result p (c.listed.ensures.found c.args.number c.in-Some-listing.ensures.some.1.1)

pub returns-clause-scans : goal.returns-clause-scans
returns-clause-scans g c = λ first plan table from told stands fresh scanning.
    let t = c.args.self.now in
    let f = g.F.Flash.state c.args.flash.now in
    let new = g.F.Flash.state c.hold.new.flash in
    let page = c.in-Some-listing.listing.page in
    let ring = c.in-Some-ring.ring in
    let listing = c.in-Some-listing.ensures.some.0 in
    let bytes = here-bytes t ring c.in-Some-ring.is c.args.number page c.args.buf.now listing f c.hold.new.buf fresh (c.in_default-hold.ensures.page told) in
    ok-any c.listed.result _ (scans-on t f first plan table stands c.args.number page (listing-here t ring c.in-Some-ring.is c.args.number page c.args.buf.now listing f first plan table stands) c.args.buf.now c.hold.new.buf bytes from f new scanning
    c.in_default-hold.ensures.reads.reads (c.in_default-hold.ensures.holds ∙ ap (λ (n : ℕ). Some n) (place-same t ring c.in-Some-ring.is page))
    (λ held. c.in_default-hold.ensures.held (held.place ∙ ap (λ (n : ℕ). Some n) (sym (place-same t ring c.in-Some-ring.is page))) held.number_is))

pub returns-clause-read : goal.returns-clause-read
returns-clause-read g c =
    let t = c.args.self.now in
    let old = g.F.Flash.state c.args.flash.now in
    let new = g.F.Flash.state c.hold.new.flash in
    let page = c.in-Some-listing.listing.page in
    let w = none-of (is_waiting t c.args.number) (found_waiting t (c.args.number - first_waiting t)) (sym c.waiting_entry.ensures ∙ c.in_default.is) in
    subst (λ (o : Option ℕ). IfSome o (λ listing. (c.args.buf.now.holds ≡ Some (place_in t listing) → page_number c.args.buf.now.bytes ≡ listing → ⊥) → IfRead c.listed.result (new.work.reads ≡ next_count old.work.reads)))
    (sym (looked-here t c.in-Some-ring.ring c.in-Some-ring.is c.args.number page c.args.buf.now c.in-Some-listing.ensures.some.0 w))
    (λ other. read-any c.listed.result _ (c.in_default-hold.ensures.read (λ holds number. other (holds ∙ ap (λ (n : ℕ). Some n) (place-same t c.in-Some-ring.ring c.in-Some-ring.is page)) number)))

pub returns-clause-fresh : goal.returns-clause-fresh
returns-clause-fresh g c = λ told fresh number held.
    let t = c.args.self.now in
    let f = g.F.Flash.state c.args.flash.now in
    let new = g.F.Flash.state c.hold.new.flash in
    let page = c.in-Some-listing.listing.page in
    let ring = c.in-Some-ring.ring in
    let bytes = here-bytes t ring c.in-Some-ring.is c.args.number page c.args.buf.now c.in-Some-listing.ensures.some.0 f c.hold.new.buf fresh (c.in_default-hold.ensures.page told) in
    let holds : c.hold.new.buf.holds ≡ Some (place_in t page) = c.in_default-hold.ensures.holds ∙ ap (λ (n : ℕ). Some n) (place-same t ring c.in-Some-ring.is page) in
    bytes ∙ (ap (page_at f) (same_Some (place_in t page) (place_in t number) (sym holds ∙ held.place)) ∙ sym (same_page f new 1 (place_in t number) c.in_default-hold.ensures.reads))

pub returns-in_default-listing-clause-least : goal.returns-in_default-listing-clause-least
returns-in_default-listing-clause-least g c = λ first plan table from numbers told stands fresh scanning later lt.
    let t = c.args.self.now in
    let w = none-of (is_waiting t c.args.number) (found_waiting t (c.args.number - first_waiting t)) (sym c.waiting_entry.ensures ∙ c.in_default.is) in
    let none : listing_of t c.args.number ≡ None = ap (λ b. cond b None (listing_in t c.args.number)) w ∙ none-by t c.args.number c.args.buf.now (c.listing.ensures.none c.in_default-listing.is) in
    memory-least t c.args.number from (g.F.Flash.state c.args.flash.now).work.reads numbers c.args.buf.now none scanning

pub returns-in-Err-clause-most : goal.returns-in-Err-clause-most
returns-in-Err-clause-most g c = λ first plan table from told stands fresh scanning.
    let t = c.args.self.now in
    let page = c.in-Some-listing.listing.page in
    let ring = c.in-Some-ring.ring in
    scan-most t (g.F.Flash.state c.args.flash.now) first plan table stands c.args.number page (listing-here t ring c.in-Some-ring.is c.args.number page c.args.buf.now c.in-Some-listing.ensures.some.0 (g.F.Flash.state c.args.flash.now) first plan table stands)
    from c.args.buf.now (g.F.Flash.state c.args.flash.now) (g.F.Flash.state c.hold.new.flash) scanning c.hold.ensures.reads.reads
    (λ held. (c.hold.ensures.held (held.place ∙ ap (λ (n : ℕ). Some n) (sym (place-same t ring c.in-Some-ring.is page))) held.number_is).0)

pub returns-clause-most : goal.returns-clause-most
returns-clause-most g c = λ first plan table from told stands fresh scanning.
    let t = c.args.self.now in
    let page = c.in-Some-listing.listing.page in
    let ring = c.in-Some-ring.ring in
    scan-most t (g.F.Flash.state c.args.flash.now) first plan table stands c.args.number page (listing-here t ring c.in-Some-ring.is c.args.number page c.args.buf.now c.in-Some-listing.ensures.some.0 (g.F.Flash.state c.args.flash.now) first plan table stands)
    from c.args.buf.now (g.F.Flash.state c.args.flash.now) (g.F.Flash.state c.hold.new.flash) scanning c.hold.ensures.reads.reads
    (λ held. (c.hold.ensures.held (held.place ∙ ap (λ (n : ℕ). Some n) (sym (place-same t ring c.in-Some-ring.is page))) held.number_is).0)

pub returns-clause-least : goal.returns-clause-least
returns-clause-least g c = λ first plan table from numbers told stands fresh scanning later lt.
    let t = c.args.self.now in
    let f = g.F.Flash.state c.args.flash.now in
    let page = c.in-Some-listing.listing.page in
    let ring = c.in-Some-ring.ring in
    let w = none-of (is_waiting t c.args.number) (found_waiting t (c.args.number - first_waiting t)) (sym c.waiting_entry.ensures ∙ c.in_default.is) in
    let listing = c.in-Some-listing.ensures.some.0 in
    let here = listing-here t ring c.in-Some-ring.is c.args.number page c.args.buf.now listing f first plan table stands in
    let bytes = here-bytes t ring c.in-Some-ring.is c.args.number page c.args.buf.now listing f c.hold.new.buf fresh (c.in_default-hold.ensures.page told) in
    let p = page-is t f first plan table stands c.args.number page here c.hold.new.buf.bytes bytes in
    ok-any c.listed.result _
    (scan-least t f first plan table stands c.args.number page here from c.args.buf.now c.hold.new.buf f (g.F.Flash.state c.hold.new.flash) numbers scanning (ap (λ b. cond b None (listing_in t c.args.number)) w ∙ here) later
    (λ other. let one = c.in_default-hold.ensures.read (λ holds number. other (held-is t ring c.in-Some-ring.is c.args.number page c.args.buf.now listing f c.hold.new.buf holds number)) in omega (arith, one, lt))
    (λ held. c.hold.ensures.held (held.place ∙ ap (λ (n : ℕ). Some n) (sym (place-same t ring c.in-Some-ring.is page))) held.number_is)
    (c.in_default-hold.ensures.holds ∙ ap (λ (n : ℕ). Some n) (place-same t ring c.in-Some-ring.is page))
    p.is.good.number_is)

pub returns-in-Err-clause-again : goal.returns-in-Err-clause-again
returns-in-Err-clause-again g c = λ first plan table from told stands fresh scanning.
    let t = c.args.self.now in
    let page = c.in-Some-listing.listing.page in
    let ring = c.in-Some-ring.ring in
    unread-again t (g.F.Flash.state c.args.flash.now) first plan table stands c.args.number page (listing-here t ring c.in-Some-ring.is c.args.number page c.args.buf.now c.in-Some-listing.ensures.some.0 (g.F.Flash.state c.args.flash.now) first plan table stands) from c.args.buf.now scanning
    (λ held.
    let holds = held.place ∙ ap (λ (n : ℕ). Some n) (sym (place-same t ring c.in-Some-ring.is page)) in
    let same = c.hold.ensures.held holds held.number_is in
    none-some _ (sym c.in-Err.ensures.none ∙ (ap (λ (b : BufferState). b.holds) same.1 ∙ holds)))

pub returns-clause-again : goal.returns-clause-again
returns-clause-again g c = λ first plan table from told stands fresh scanning.
    let t = c.args.self.now in
    let f = g.F.Flash.state c.args.flash.now in
    let page = c.in-Some-listing.listing.page in
    let ring = c.in-Some-ring.ring in
    let listing = c.in-Some-listing.ensures.some.0 in
    let bytes = here-bytes t ring c.in-Some-ring.is c.args.number page c.args.buf.now listing f c.hold.new.buf fresh (c.in_default-hold.ensures.page told) in
    let p = page-is t f first plan table stands c.args.number page (listing-here t ring c.in-Some-ring.is c.args.number page c.args.buf.now listing f first plan table stands) c.bytes.result.now (c.bytes.ensures ∙ bytes) in
    let good = subst (λ n. IsGoodPage n c.in-Some-listing.listing.page c.bytes.result.now) (sym (X_is t f first plan table stands)) p.is.good in
    good-found t page c.args.number c.bytes.result.now c.listed.result _ good (c.listed.ensures.found c.args.number c.in-Some-listing.ensures.some.1.1) c.listed.ensures.no_flash

pub returns-clause-cause : goal.returns-clause-cause
returns-clause-cause g c = caused-none (g.F.Flash.state c.args.flash.now) (g.F.Flash.state c.hold.new.flash) c.listed.result c.listed.ensures.no_flash

pub returns-clause-bad : goal.returns-clause-bad
returns-clause-bad g c =
    let t = c.args.self.now in
    let f = g.F.Flash.state c.args.flash.now in
    let page = c.in-Some-listing.listing.page in
    let ring = c.in-Some-ring.ring in
    let listing = c.in-Some-listing.ensures.some.0 in
    let same = place-same t ring c.in-Some-ring.is page in
    bad-page t f c.args.number page c.args.buf.now c.hold.new.buf c.listed.result (kept-here t ring c.in-Some-ring.is c.args.number page c.args.buf.now listing)
    (subst (λ (bytes : List ℕ). IsFound entire c.args.self.now c.in-Some-listing.listing.page c.args.number bytes c.listed.result) c.bytes.ensures (c.listed.ensures.found c.args.number c.in-Some-listing.ensures.some.1.1))
    (λ told. moved (place (shape_of c.in-Some-ring.ring) c.in-Some-listing.listing.page) same (c.in_default-hold.ensures.page told))
  where
    moved : (at : ℕ) → at ≡ place_in c.args.self.now c.in-Some-listing.listing.page → (c.hold.new.buf.bytes ≡ page_at (g.F.Flash.state c.args.flash.now) at) ⊎ ((c.args.buf.now.holds ≡ Some at) × (page_number c.args.buf.now.bytes ≡ c.in-Some-listing.listing.page) × (c.hold.new.buf ≡ c.args.buf.now)) →
        (c.hold.new.buf.bytes ≡ page_at (g.F.Flash.state c.args.flash.now) (place_in c.args.self.now c.in-Some-listing.listing.page)) ⊎ (IsHeld c.args.self.now c.in-Some-listing.listing.page c.args.buf.now × (c.hold.new.buf ≡ c.args.buf.now))
    moved at is (inl e) = inl (e ∙ ap (page_at (g.F.Flash.state c.args.flash.now)) is)
    moved at is (inr h) =
        inr (record { kept = kept-here c.args.self.now c.in-Some-ring.ring c.in-Some-ring.is c.args.number c.in-Some-listing.listing.page c.args.buf.now c.in-Some-listing.ensures.some.0; place = h.0 ∙ ap (λ (n : ℕ). Some n) is; number_is = h.1 }, h.2)

pub returns-in-Some-clause-least : goal.returns-in-Some-clause-least
returns-in-Some-clause-least g c = λ first plan table from numbers told stands fresh scanning later lt.
    let t = c.args.self.now in
    let w = some-of (is_waiting t c.args.number) (found_waiting t (c.args.number - first_waiting t)) c.in-Some.found (sym c.waiting_entry.ensures ∙ c.in-Some.is) in
    let none : listing_of t c.args.number ≡ None = ap (λ b. cond b None (listing_in t c.args.number)) w.0 in
    memory-least t c.args.number from (g.F.Flash.state c.args.flash.now).work.reads numbers c.args.buf.now none scanning

pub returns-in-Some-clause-reads : goal.returns-in-Some-clause-reads
returns-in-Some-clause-reads g c = none_read _ 1

pub returns-in-Some-clause-counts : goal.returns-in-Some-clause-counts
returns-in-Some-clause-counts g c = OnlyReads-same _

pub returns-in-Some-clause-room : goal.returns-in-Some-clause-room
returns-in-Some-clause-room g c = refl

pub returns-in-Some-clause-memory : goal.returns-in-Some-clause-memory
returns-in-Some-clause-memory g c = λ none. from-memory c.args.self.now c.args.number c.args.buf.now (g.F.Flash.state c.args.flash.now) _ (sym c.in-Some.is ∙ c.waiting_entry.ensures)

pub returns-in-Some-clause-found : goal.returns-in-Some-clause-found
returns-in-Some-clause-found g c =
    let t = c.args.self.now in
    MatchOption-from_none (looked_at t c.args.number c.args.buf.now) _ (none-waits t c.args.number c.args.buf.now (some-of (is_waiting t c.args.number) (found_waiting t (c.args.number - first_waiting t)) c.in-Some.found (sym c.waiting_entry.ensures ∙ c.in-Some.is)).0)

pub returns-in-Some-clause-page : goal.returns-in-Some-clause-page
returns-in-Some-clause-page g c =
    let t = c.args.self.now in
    MatchOption-from_none (looked_at t c.args.number c.args.buf.now) _ (none-waits t c.args.number c.args.buf.now (some-of (is_waiting t c.args.number) (found_waiting t (c.args.number - first_waiting t)) c.in-Some.found (sym c.waiting_entry.ensures ∙ c.in-Some.is)).0)

pub returns-in-Some-clause-holds : goal.returns-in-Some-clause-holds
returns-in-Some-clause-holds g c =
    let t = c.args.self.now in
    MatchOption-from_none (looked_at t c.args.number c.args.buf.now) _ (none-waits t c.args.number c.args.buf.now (some-of (is_waiting t c.args.number) (found_waiting t (c.args.number - first_waiting t)) c.in-Some.found (sym c.waiting_entry.ensures ∙ c.in-Some.is)).0)

pub returns-in-Some-clause-held : goal.returns-in-Some-clause-held
returns-in-Some-clause-held g c =
    let t = c.args.self.now in
    MatchOption-from_none (looked_at t c.args.number c.args.buf.now) _ (none-waits t c.args.number c.args.buf.now (some-of (is_waiting t c.args.number) (found_waiting t (c.args.number - first_waiting t)) c.in-Some.found (sym c.waiting_entry.ensures ∙ c.in-Some.is)).0)

pub returns-in-Some-clause-read : goal.returns-in-Some-clause-read
returns-in-Some-clause-read g c =
    let t = c.args.self.now in
    MatchOption-from_none (looked_at t c.args.number c.args.buf.now) _ (none-waits t c.args.number c.args.buf.now (some-of (is_waiting t c.args.number) (found_waiting t (c.args.number - first_waiting t)) c.in-Some.found (sym c.waiting_entry.ensures ∙ c.in-Some.is)).0)

pub returns-in-Some-clause-fresh : goal.returns-in-Some-clause-fresh
returns-in-Some-clause-fresh g c = λ told fresh. fresh

pub returns-in-Some-clause-scans : goal.returns-in-Some-clause-scans
returns-in-Some-clause-scans g c = λ first plan table from told stands fresh scanning. scan-stays c.args.self.now c.args.number c.args.buf.now from (g.F.Flash.state c.args.flash.now) scanning

pub returns-in-Some-clause-most : goal.returns-in-Some-clause-most
returns-in-Some-clause-most g c = λ first plan table from told stands fresh scanning. le-add_right _ _

pub returns-in-Some-clause-good : goal.returns-in-Some-clause-good
returns-in-Some-clause-good g c = λ good. good

pub returns-in_default-listing-clause-reads : goal.returns-in_default-listing-clause-reads
returns-in_default-listing-clause-reads g c = none_read _ 1

pub returns-in_default-listing-clause-counts : goal.returns-in_default-listing-clause-counts
returns-in_default-listing-clause-counts g c = OnlyReads-same _

pub returns-in_default-listing-clause-room : goal.returns-in_default-listing-clause-room
returns-in_default-listing-clause-room g c = refl

pub returns-in_default-listing-clause-memory : goal.returns-in_default-listing-clause-memory
returns-in_default-listing-clause-memory g c = λ none. from-memory c.args.self.now c.args.number c.args.buf.now (g.F.Flash.state c.args.flash.now) _ (sym c.in_default.is ∙ c.waiting_entry.ensures)

pub returns-in_default-listing-clause-found : goal.returns-in_default-listing-clause-found
returns-in_default-listing-clause-found g c =
    let t = c.args.self.now in
    MatchOption-from_none (looked_at t c.args.number c.args.buf.now) _ (none-listed t c.args.number c.args.buf.now (none-of (is_waiting t c.args.number) (found_waiting t (c.args.number - first_waiting t)) (sym c.waiting_entry.ensures ∙ c.in_default.is)) (c.listing.ensures.none c.in_default-listing.is))

pub returns-in_default-listing-clause-page : goal.returns-in_default-listing-clause-page
returns-in_default-listing-clause-page g c =
    let t = c.args.self.now in
    MatchOption-from_none (looked_at t c.args.number c.args.buf.now) _ (none-listed t c.args.number c.args.buf.now (none-of (is_waiting t c.args.number) (found_waiting t (c.args.number - first_waiting t)) (sym c.waiting_entry.ensures ∙ c.in_default.is)) (c.listing.ensures.none c.in_default-listing.is))

pub returns-in_default-listing-clause-holds : goal.returns-in_default-listing-clause-holds
returns-in_default-listing-clause-holds g c =
    let t = c.args.self.now in
    MatchOption-from_none (looked_at t c.args.number c.args.buf.now) _ (none-listed t c.args.number c.args.buf.now (none-of (is_waiting t c.args.number) (found_waiting t (c.args.number - first_waiting t)) (sym c.waiting_entry.ensures ∙ c.in_default.is)) (c.listing.ensures.none c.in_default-listing.is))

pub returns-in_default-listing-clause-held : goal.returns-in_default-listing-clause-held
returns-in_default-listing-clause-held g c =
    let t = c.args.self.now in
    MatchOption-from_none (looked_at t c.args.number c.args.buf.now) _ (none-listed t c.args.number c.args.buf.now (none-of (is_waiting t c.args.number) (found_waiting t (c.args.number - first_waiting t)) (sym c.waiting_entry.ensures ∙ c.in_default.is)) (c.listing.ensures.none c.in_default-listing.is))

pub returns-in_default-listing-clause-read : goal.returns-in_default-listing-clause-read
returns-in_default-listing-clause-read g c =
    let t = c.args.self.now in
    MatchOption-from_none (looked_at t c.args.number c.args.buf.now) _ (none-listed t c.args.number c.args.buf.now (none-of (is_waiting t c.args.number) (found_waiting t (c.args.number - first_waiting t)) (sym c.waiting_entry.ensures ∙ c.in_default.is)) (c.listing.ensures.none c.in_default-listing.is))

pub returns-in_default-listing-clause-fresh : goal.returns-in_default-listing-clause-fresh
returns-in_default-listing-clause-fresh g c = λ told fresh. fresh

pub returns-in_default-listing-clause-scans : goal.returns-in_default-listing-clause-scans
returns-in_default-listing-clause-scans g c = λ first plan table from told stands fresh scanning. scan-stays c.args.self.now c.args.number c.args.buf.now from (g.F.Flash.state c.args.flash.now) scanning

pub returns-in_default-listing-clause-most : goal.returns-in_default-listing-clause-most
returns-in_default-listing-clause-most g c = λ first plan table from told stands fresh scanning. le-add_right _ _

pub returns-in_default-listing-clause-good : goal.returns-in_default-listing-clause-good
returns-in_default-listing-clause-good g c = λ good. good

pub returns-in_default-ring-clause-reads : goal.returns-in_default-ring-clause-reads
returns-in_default-ring-clause-reads g c = none_read _ 1

pub returns-in_default-ring-clause-counts : goal.returns-in_default-ring-clause-counts
returns-in_default-ring-clause-counts g c = OnlyReads-same _

pub returns-in_default-ring-clause-room : goal.returns-in_default-ring-clause-room
returns-in_default-ring-clause-room g c = refl

pub returns-in_default-ring-clause-memory : goal.returns-in_default-ring-clause-memory
returns-in_default-ring-clause-memory g c = λ none. from-memory c.args.self.now c.args.number c.args.buf.now (g.F.Flash.state c.args.flash.now) _ (sym c.in_default.is ∙ c.waiting_entry.ensures)

pub returns-in_default-ring-clause-fresh : goal.returns-in_default-ring-clause-fresh
returns-in_default-ring-clause-fresh g c = λ told fresh. fresh

pub returns-in_default-ring-clause-scans : goal.returns-in_default-ring-clause-scans
returns-in_default-ring-clause-scans g c = λ first plan table from told stands fresh scanning. scan-stays c.args.self.now c.args.number c.args.buf.now from (g.F.Flash.state c.args.flash.now) scanning

pub returns-in_default-ring-clause-most : goal.returns-in_default-ring-clause-most
returns-in_default-ring-clause-most g c = λ first plan table from told stands fresh scanning. le-add_right _ _

pub returns-in_default-ring-clause-good : goal.returns-in_default-ring-clause-good
returns-in_default-ring-clause-good g c = λ good. good

pub listing-requires-clause-mine : goal.listing-requires-clause-mine
listing-requires-clause-mine g c = c.in-Some-ring.is

pub hold-requires-clause-lies : goal.hold-requires-clause-lies
hold-requires-clause-lies g c = c.requires.lies.ring c.in-Some-ring.ring c.in-Some-ring.is

pub hold-requires-clause-room : goal.hold-requires-clause-room
hold-requires-clause-room g c = c.requires.room

pub returns-in-Err-clause-reads : goal.returns-in-Err-clause-reads
returns-in-Err-clause-reads g c = c.in-Err.ensures.reads

pub returns-in-Err-clause-counts : goal.returns-in-Err-clause-counts
returns-in-Err-clause-counts g c = c.in-Err.ensures.counts

pub returns-in-Err-clause-room : goal.returns-in-Err-clause-room
returns-in-Err-clause-room g c = c.in-Err.ensures.room

pub returns-in-Err-clause-memory : goal.returns-in-Err-clause-memory
returns-in-Err-clause-memory g c = λ none.
    let t = c.args.self.now in
    absurd (none-some c.in-Some-listing.listing.page (sym none ∙ looked-here t c.in-Some-ring.ring c.in-Some-ring.is c.args.number c.in-Some-listing.listing.page c.args.buf.now c.in-Some-listing.ensures.some.0 (none-of (is_waiting t c.args.number) (found_waiting t (c.args.number - first_waiting t)) (sym c.waiting_entry.ensures ∙ c.in_default.is))))

pub returns-in-Err-clause-found : goal.returns-in-Err-clause-found
returns-in-Err-clause-found g c = some-any (looked_at c.args.self.now c.args.number c.args.buf.now) _ (λ n. tt)

pub returns-in-Err-clause-page : goal.returns-in-Err-clause-page
returns-in-Err-clause-page g c = some-any (looked_at c.args.self.now c.args.number c.args.buf.now) _ (λ n told fresh. tt)

pub returns-in-Err-clause-holds : goal.returns-in-Err-clause-holds
returns-in-Err-clause-holds g c = some-any (looked_at c.args.self.now c.args.number c.args.buf.now) _ (λ n. tt)

pub returns-in-Err-clause-read : goal.returns-in-Err-clause-read
returns-in-Err-clause-read g c = some-any (looked_at c.args.self.now c.args.number c.args.buf.now) _ (λ n other. tt)

pub returns-in-Err-clause-held : goal.returns-in-Err-clause-held
returns-in-Err-clause-held g c =
    let t = c.args.self.now in
    some-at (looked_at t c.args.number c.args.buf.now) _ c.in-Some-listing.listing.page (looked-here t c.in-Some-ring.ring c.in-Some-ring.is c.args.number c.in-Some-listing.listing.page c.args.buf.now c.in-Some-listing.ensures.some.0 (none-of (is_waiting t c.args.number) (found_waiting t (c.args.number - first_waiting t)) (sym c.waiting_entry.ensures ∙ c.in_default.is)))
    (λ held. c.hold.ensures.held (held.place ∙ ap (λ (n : ℕ). Some n) (sym (place-same t c.in-Some-ring.ring c.in-Some-ring.is c.in-Some-listing.listing.page))) held.number_is)

pub returns-in-Err-clause-fresh : goal.returns-in-Err-clause-fresh
returns-in-Err-clause-fresh g c = λ told fresh number held. absurd (none-some _ (sym c.in-Err.ensures.none ∙ held.place))

pub returns-in-Err-clause-cause : goal.returns-in-Err-clause-cause
returns-in-Err-clause-cause g c = c.in-Err.ensures.cause

pub returns-in-Err-clause-unread : goal.returns-in-Err-clause-unread
returns-in-Err-clause-unread g c = c.in-Err.ensures.none

pub listed-requires-clause-size : goal.listed-requires-clause-size
listed-requires-clause-size g c = ap length c.bytes.ensures ∙ (c.in_default-hold.ensures.room ∙ (c.requires.room ∙ ap (λ (x : Geometry). x.page) c.requires.lies.geometry))

pub listed-requires-clause-within : goal.listed-requires-clause-within
listed-requires-clause-within g c = c.in-Some-listing.ensures.some.1.2

pub returns-clause-reads : goal.returns-clause-reads
returns-clause-reads g c = c.in_default-hold.ensures.reads

pub returns-clause-counts : goal.returns-clause-counts
returns-clause-counts g c = c.in_default-hold.ensures.counts

pub returns-clause-room : goal.returns-clause-room
returns-clause-room g c = c.in_default-hold.ensures.room

pub returns-clause-memory : goal.returns-clause-memory
returns-clause-memory g c = λ none.
    let t = c.args.self.now in
    absurd (none-some c.in-Some-listing.listing.page (sym none ∙ looked-here t c.in-Some-ring.ring c.in-Some-ring.is c.args.number c.in-Some-listing.listing.page c.args.buf.now c.in-Some-listing.ensures.some.0 (none-of (is_waiting t c.args.number) (found_waiting t (c.args.number - first_waiting t)) (sym c.waiting_entry.ensures ∙ c.in_default.is))))

pub returns-clause-found : goal.returns-clause-found
returns-clause-found g c =
    let t = c.args.self.now in
    some-at (looked_at t c.args.number c.args.buf.now) _ c.in-Some-listing.listing.page (looked-here t c.in-Some-ring.ring c.in-Some-ring.is c.args.number c.in-Some-listing.listing.page c.args.buf.now c.in-Some-listing.ensures.some.0 (none-of (is_waiting t c.args.number) (found_waiting t (c.args.number - first_waiting t)) (sym c.waiting_entry.ensures ∙ c.in_default.is)))
    (subst (λ (bytes : List ℕ). IsFound entire t c.in-Some-listing.listing.page c.args.number bytes c.listed.result) c.bytes.ensures (c.listed.ensures.found c.args.number c.in-Some-listing.ensures.some.1.1))

pub returns-clause-holds : goal.returns-clause-holds
returns-clause-holds g c =
    let t = c.args.self.now in
    some-at (looked_at t c.args.number c.args.buf.now) _ c.in-Some-listing.listing.page (looked-here t c.in-Some-ring.ring c.in-Some-ring.is c.args.number c.in-Some-listing.listing.page c.args.buf.now c.in-Some-listing.ensures.some.0 (none-of (is_waiting t c.args.number) (found_waiting t (c.args.number - first_waiting t)) (sym c.waiting_entry.ensures ∙ c.in_default.is)))
    (read-any c.listed.result _ (c.in_default-hold.ensures.holds ∙ ap (λ (n : ℕ). Some n) (place-same t c.in-Some-ring.ring c.in-Some-ring.is c.in-Some-listing.listing.page)))

pub returns-clause-held : goal.returns-clause-held
returns-clause-held g c =
    let t = c.args.self.now in
    some-at (looked_at t c.args.number c.args.buf.now) _ c.in-Some-listing.listing.page (looked-here t c.in-Some-ring.ring c.in-Some-ring.is c.args.number c.in-Some-listing.listing.page c.args.buf.now c.in-Some-listing.ensures.some.0 (none-of (is_waiting t c.args.number) (found_waiting t (c.args.number - first_waiting t)) (sym c.waiting_entry.ensures ∙ c.in_default.is)))
    (λ held. c.hold.ensures.held (held.place ∙ ap (λ (n : ℕ). Some n) (sym (place-same t c.in-Some-ring.ring c.in-Some-ring.is c.in-Some-listing.listing.page))) held.number_is)

pub returns-clause-unread : goal.returns-clause-unread
returns-clause-unread g c = unread-never c.listed.result _ c.listed.ensures.no_flash

pub returns-in_default-ring-clause-found : goal.returns-in_default-ring-clause-found
returns-in_default-ring-clause-found g c =
    let t = c.args.self.now in
    MatchOption-from_none (looked_at t c.args.number c.args.buf.now) _ (none-listed t c.args.number c.args.buf.now (none-of (is_waiting t c.args.number) (found_waiting t (c.args.number - first_waiting t)) (sym c.waiting_entry.ensures ∙ c.in_default.is)) (no-ring-by t c.args.number c.args.buf.now c.in_default-ring.is))

pub returns-in_default-ring-clause-page : goal.returns-in_default-ring-clause-page
returns-in_default-ring-clause-page g c =
    let t = c.args.self.now in
    MatchOption-from_none (looked_at t c.args.number c.args.buf.now) _ (none-listed t c.args.number c.args.buf.now (none-of (is_waiting t c.args.number) (found_waiting t (c.args.number - first_waiting t)) (sym c.waiting_entry.ensures ∙ c.in_default.is)) (no-ring-by t c.args.number c.args.buf.now c.in_default-ring.is))

pub returns-in_default-ring-clause-holds : goal.returns-in_default-ring-clause-holds
returns-in_default-ring-clause-holds g c =
    let t = c.args.self.now in
    MatchOption-from_none (looked_at t c.args.number c.args.buf.now) _ (none-listed t c.args.number c.args.buf.now (none-of (is_waiting t c.args.number) (found_waiting t (c.args.number - first_waiting t)) (sym c.waiting_entry.ensures ∙ c.in_default.is)) (no-ring-by t c.args.number c.args.buf.now c.in_default-ring.is))

pub returns-in_default-ring-clause-held : goal.returns-in_default-ring-clause-held
returns-in_default-ring-clause-held g c =
    let t = c.args.self.now in
    MatchOption-from_none (looked_at t c.args.number c.args.buf.now) _ (none-listed t c.args.number c.args.buf.now (none-of (is_waiting t c.args.number) (found_waiting t (c.args.number - first_waiting t)) (sym c.waiting_entry.ensures ∙ c.in_default.is)) (no-ring-by t c.args.number c.args.buf.now c.in_default-ring.is))

pub returns-in_default-ring-clause-read : goal.returns-in_default-ring-clause-read
returns-in_default-ring-clause-read g c =
    let t = c.args.self.now in
    MatchOption-from_none (looked_at t c.args.number c.args.buf.now) _ (none-listed t c.args.number c.args.buf.now (none-of (is_waiting t c.args.number) (found_waiting t (c.args.number - first_waiting t)) (sym c.waiting_entry.ensures ∙ c.in_default.is)) (no-ring-by t c.args.number c.args.buf.now c.in_default-ring.is))

pub returns-in_default-ring-clause-stands : goal.returns-in_default-ring-clause-stands
returns-in_default-ring-clause-stands g c = λ first plan table told stands fresh.
    let t = c.args.self.now in
    none-shows t (g.F.Flash.state c.args.flash.now) first plan table stands c.args.number (none-of (is_waiting t c.args.number) (found_waiting t (c.args.number - first_waiting t)) (sym c.waiting_entry.ensures ∙ c.in_default.is)) (no-ring-in t c.args.number c.args.buf.now c.in_default-ring.is)

pub returns-in_default-ring-clause-least : goal.returns-in_default-ring-clause-least
returns-in_default-ring-clause-least g c = λ first plan table from numbers told stands fresh scanning later lt.
    let t = c.args.self.now in
    let none : listing_of t c.args.number ≡ None = ap (λ b. cond b None (listing_in t c.args.number)) (none-of (is_waiting t c.args.number) (found_waiting t (c.args.number - first_waiting t)) (sym c.waiting_entry.ensures ∙ c.in_default.is)) ∙ no-ring-in t c.args.number c.args.buf.now c.in_default-ring.is in
    memory-least t c.args.number from (g.F.Flash.state c.args.flash.now).work.reads numbers c.args.buf.now none scanning

pub listing-requires-clause-room : goal.listing-requires-clause-room
listing-requires-clause-room g c = header-fits _ _ (c.requires.room ∙ ap (λ (x : Geometry). x.page) c.requires.lies.geometry) c.args.self.now.served.page_least

pub returns-clause-good : goal.returns-clause-good
returns-clause-good g c = λ good.
    let t = c.args.self.now in
    let page = c.in-Some-listing.listing.page in
    holds-good t page c.args.number c.hold.new.buf c.listed.result (subst (λ (bytes : List ℕ). IsFound entire t page c.args.number bytes c.listed.result) c.bytes.ensures (c.listed.ensures.found c.args.number c.in-Some-listing.ensures.some.1.1))
