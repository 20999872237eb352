use Rattle.fl_ring.proofs.Exists.{lies_exists}
use Rattle.fl_page.proofs.ReadsInTurn.{IsCaused-read}
use Rattle.std.proofs.Common.{ℕ, ◌≡◌, List, length, Some, OnOk, inr, refl, sym, ◌∙◌, ap, subst}
use Rattle.fl_frame.proofs.ContentsInTurn.{OnlyReads-same, OnlyReads-read}
use Rattle.fl_frame.proofs.SingleReads.{one_read}
use Rattle.fl_frame.proofs.ReadsInTurn.{none_read}
use Rattle.fl_ring.proofs.ReadsInTurn.{header_fits}
use Rattle.fl_index.specs.Page.{page_number}
use Rattle.fl_index.proofs.ListingOn.{place-held}
use Rattle.fl_index.proofs.Limits.{once-read, bytes-read}
use Rattle.fl_index.proofs.lookup.hold.Goals as goal

pub read-requires-clause-exists : goal.read-requires-clause-exists
read-requires-clause-exists g c =
    lies_exists c.args.ring.now (g.F.Flash.state c.args.flash.now) c.place_of-page.result c.requires.lies c.place_of-page.ensures.within

pub returns-clause-counts : goal.returns-clause-counts
returns-clause-counts g c = OnlyReads-read _ _ _ _ _ _ c.read.ensures

pub returns-clause-cause : goal.returns-clause-cause
returns-clause-cause g c = IsCaused-read _ _ _ _ _ _ c.read.ensures

pub number_in-requires : goal.number_in-requires
number_in-requires g c = header_fits _ _ (ap (λ (l : List ℕ). length l) c.bytes.ensures ∙ (c.requires.room ∙ c.requires.lies.page)) c.args.ring.now.served.size

pub returns-then-number_in-number-clause-reads : goal.returns-then-number_in-number-clause-reads
returns-then-number_in-number-clause-reads g c = none_read (g.F.Flash.state c.args.flash.now) 1

pub returns-then-number_in-number-clause-counts : goal.returns-then-number_in-number-clause-counts
returns-then-number_in-number-clause-counts g c = OnlyReads-same (g.F.Flash.state c.args.flash.now)

pub returns-then-number_in-number-clause-room : goal.returns-then-number_in-number-clause-room
returns-then-number_in-number-clause-room g c = refl

pub returns-then-number_in-number-clause-held : goal.returns-then-number_in-number-clause-held
returns-then-number_in-number-clause-held g c = λ holds is. (refl, refl)

pub read-requires-clause-room : goal.read-requires-clause-room
read-requires-clause-room g c = c.requires.room

pub returns-clause-reads : goal.returns-clause-reads
returns-clause-reads g c = one_read _ _ _ _ _ _ c.read.ensures

pub returns-clause-room : goal.returns-clause-room
returns-clause-room g c = c.read.ensures.size_stays

pub returns-clause-holds : goal.returns-clause-holds
returns-clause-holds g c = subst (λ (p : ℕ). OnOk c.read.result (c.read.new.into.holds ≡ Some p)) c.place_of-page.ensures.place c.read.ensures.holds

pub returns-clause-page : goal.returns-clause-page
returns-clause-page g c = bytes-read _ _ _ _ _ _ c.read.result _ c.place_of-page.ensures.place c.read.ensures

pub returns-clause-read : goal.returns-clause-read
returns-clause-read g c = once-read _ _ _ _ _ _ c.read.result c.read.ensures

pub returns-clause-none : goal.returns-clause-none
returns-clause-none g c = c.read.ensures.none

pub returns-then-number_in-number-clause-holds : goal.returns-then-number_in-number-clause-holds
returns-then-number_in-number-clause-holds g c = sym c.holds.ensures ∙ (place-held _ _ (sym c.eq.ensures ∙ c.if-eq.true) ∙ ap (λ (n : ℕ). Some n) c.place_of-page.ensures.place)

pub returns-then-number_in-number-clause-page : goal.returns-then-number_in-number-clause-page
returns-then-number_in-number-clause-page g c = λ told. inr (sym c.holds.ensures ∙ (place-held _ _ (sym c.eq.ensures ∙ c.if-eq.true) ∙ ap (λ (n : ℕ). Some n) c.place_of-page.ensures.place), sym (ap page_number c.bytes.ensures) ∙ (sym c.number_in.ensures ∙ c.if-number_in-number.true), refl)

pub returns-then-number_in-number-clause-read : goal.returns-then-number_in-number-clause-read
returns-then-number_in-number-clause-read g c = λ other. absurd (other (sym c.holds.ensures ∙ (place-held _ _ (sym c.eq.ensures ∙ c.if-eq.true) ∙ ap (λ (n : ℕ). Some n) c.place_of-page.ensures.place)) (sym (ap page_number c.bytes.ensures) ∙ (sym c.number_in.ensures ∙ c.if-number_in-number.true)))
