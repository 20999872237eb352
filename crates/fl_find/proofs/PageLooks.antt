-- Looks at pages, one after another.
use Rattle.std.proofs.Common.{◌≡◌, ℕ, ◌+◌, ◌≤◌, IsTrue, List, refl, sym, ap, subst, ◌∙◌, arith, Result, Ok, Err}
use Rattle.std.specs.Prelude.{IfErr}
use Rattle.std.proofs.lemmas.Option.{none-some, same_Some}
use Rattle.fl_flash.specs.Buffer.{BufferState}
use Rattle.fl_flash.specs.Places.{page_of}
use Rattle.fl_flash.specs.Flash.{FlashState, ReadsPage, page_at}
use Rattle.fl_flash.specs.declared.flash.FlashFault.{FlashFault}
use Rattle.fl_flash.specs.declared.flash.FlashFault.TheVariants.{PowerLost, Media}
use Rattle.fl_model.specs.Record.{RowLayout}
use Rattle.fl_frame.specs.Contents.{Contents}
use Rattle.fl_frame.proofs.ContentsInTurn.{OnlyReads-read, OnlyReads-same, OnlyReads-then, OnlyReads-reads}
use Rattle.fl_page.specs.declared.fault.BadPage.{BadPage}
use Rattle.fl_page.specs.declared.fault.ReadFault.{ReadFault}
use Rattle.fl_page.specs.declared.fault.ReadFault.TheVariants as fault
use Rattle.fl_ring.specs.Place.{shape_of}
use Rattle.fl_ring.specs.Ring.{place}
use Rattle.fl_ring.specs.declared.ring.Ring.{Ring}
use Rattle.fl_search.specs.Search.{RoseSome}
use Rattle.fl_find.specs.Pages.{IsBadPage, IsFresh}
use Rattle.fl_find.specs.Looking.{BlamesThis, OnlyLooks, HasBadPage, LookFails, Since}

pub looks-read : (old new : FlashState) (page size : ℕ) (result : Result (Unit {0}) FlashFault) (into : BufferState) → ReadsPage old page size result into new → OnlyLooks old new
looks-read old new page size result into is = record { reads = OnlyReads-read old new page size result into is; power = is.power; cuts = is.cuts }

pub looks-same : (f : FlashState) → OnlyLooks f f
looks-same f = record { reads = OnlyReads-same f; power = refl; cuts = refl }

pub looks-then : (a b c : FlashState) → OnlyLooks a b → OnlyLooks b c → OnlyLooks a c
looks-then a b c first second = record {
  reads = OnlyReads-then a b c first.reads second.reads;
  power = second.power ∙ first.power;
  cuts = second.cuts ∙ first.cuts;
}

pub looks-pages : (old new : FlashState) → OnlyLooks old new → page_at new ≡ page_at old
looks-pages old new looks = ap (λ (c : Contents). page_of c.bytes c.start c.geometry.page) looks.reads.contents

pub looks-tell : (old new : FlashState) → OnlyLooks old new → new.media.tells ≡ old.media.tells
looks-tell old new looks = ap (λ (c : Contents). c.tells) looks.reads.contents

pub since-same : (ring : Ring) (layout : RowLayout) (f : FlashState) (buf : BufferState) → Since ring layout f buf ring layout f buf
since-same ring layout f buf = record { ring_is = refl; layout_is = refl; looks = looks-same f; fresh = λ h. h }

pub since-then : (ring : Ring) (layout : RowLayout) (f : FlashState) (buf : BufferState) (now : Ring) (layout_now : RowLayout) (a : FlashState) (buf_a : BufferState) (b : FlashState) (buf_b : BufferState) →
    Since ring layout f buf now layout_now a buf_a → OnlyLooks a b → IsFresh b buf_b → Since ring layout f buf now layout_now b buf_b
since-then ring layout f buf now layout_now a buf_a b buf_b since looks fresh =
    record { ring_is = since.ring_is; layout_is = since.layout_is; looks = looks-then f a b since.looks looks; fresh = λ h. fresh }

-- a buffer that was read into
pub fresh-read : (old new : FlashState) (page size : ℕ) (result : Result (Unit {0}) FlashFault) (into : BufferState) → ReadsPage old page size result into new → IsFresh new into
fresh-read old new page size (Ok u) into is p told holds =
    is.bytes (subst (λ t. IsTrue t) is.goes.tells told) ∙ (ap (page_at old) (same_Some page p (sym is.holds ∙ holds)) ∙ ap (λ (pages : ℕ → List ℕ). pages p) (sym (looks-pages old new (looks-read old new page size (Ok u) into is))))
fresh-read old new page size (Err e) into is p told holds = absurd (none-some p (sym is.none ∙ holds))

-- reads that rose stay so
pub rose-later : (a b c : FlashState) → RoseSome a.work.reads b.work.reads → OnlyLooks b c → RoseSome a.work.reads c.work.reads
rose-later a b c rose looks below =
    let less = OnlyReads-reads b c looks.reads below in
    let up = rose (omega (arith, less, below)) in
    omega (arith, less, up)

pub rose-before : (a b c : FlashState) → OnlyLooks a b → RoseSome b.work.reads c.work.reads → RoseSome a.work.reads c.work.reads
rose-before a b c looks rose below =
    let up = rose below in
    let less = OnlyReads-reads a b looks.reads (omega (arith, up, below)) in
    omega (arith, less, up)

-- one read more at most
pub few-more : (before m v mid now : ℕ) → mid ≤ before + m + v → now ≤ mid + 1 → now ≤ before + m + 1 + v
few-more before m v mid now few more = omega (arith, few, more)

pub most-more : (before m mid now : ℕ) → mid ≤ before + m → now ≤ mid + 1 → now ≤ before + m + 1
most-more before m mid now most more = omega (arith, most, more)

-- a page that is bad later was bad before
bad-before : (layout : RowLayout) (ring : Ring) (a b : FlashState) (bad : BadPage) → OnlyLooks a b → HasBadPage layout ring b bad → HasBadPage layout ring a bad
bad-before layout ring a b bad looks h = record {
  number = h.number;
  kept = h.kept;
  is_bad = subst (λ (page : ℕ → List ℕ). IsBadPage layout h.number (page (place (shape_of ring) h.number)) bad) (looks-pages a b looks) h.is_bad;
}

fails-looked : (layout : RowLayout) (ring : Ring) (a b c : FlashState) (e : ReadFault) → OnlyLooks a b → LookFails layout ring b e c → LookFails layout ring a e c
fails-looked layout ring a b c (fault.Flash PowerLost) looks h = (sym looks.power ∙ h.0, h.1)
fails-looked layout ring a b c (fault.Flash Media) looks h = (omega (arith, looks.reads.faults, h.0), rose-before a b c looks h.1)
fails-looked layout ring a b c (fault.BadPage bad) looks h = (λ told. bad-before layout ring a b bad looks (h.0 (subst (λ t. IsTrue t) (sym (looks-tell a b looks)) told)), rose-before a b c looks h.1)

-- a fault of a later look has its cause in all of them
pub fails-later : (ring : Ring) (layout : RowLayout) (f : FlashState) (now : Ring) (layout_now : RowLayout) (a b : FlashState) (e : ReadFault) → now ≡ ring → layout_now ≡ layout → OnlyLooks f a →
    LookFails layout_now now a e b → LookFails layout ring f e b
fails-later ring layout f now layout_now a b e ring_is layout_is looks h =
    fails-looked layout ring f a b e looks
    (subst (λ (r : Ring). LookFails layout r a e b) ring_is (subst (λ (l : RowLayout). LookFails l now a e b) layout_is h))

blames-later : (ring : Ring) (layout : RowLayout) (f : FlashState) (now : Ring) (layout_now : RowLayout) (a : FlashState) (number : ℕ) (e : ReadFault) → now ≡ ring → layout_now ≡ layout → OnlyLooks f a →
    BlamesThis layout_now now a number e → BlamesThis layout ring f number e
blames-later ring layout f now layout_now a number (fault.Flash x) ring_is layout_is looks h = tt
blames-later ring layout f now layout_now a number (fault.BadPage bad) ring_is layout_is looks h = λ told.
    subst (λ (page : ℕ → List ℕ). IsBadPage layout number (page (place (shape_of ring) number)) bad) (looks-pages f a looks)
    (subst (λ (r : Ring). IsBadPage layout number (page_at a (place (shape_of r) number)) bad) ring_is
    (subst (λ (l : RowLayout). IsBadPage l number (page_at a (place (shape_of now) number)) bad) layout_is
    (h (subst (λ t. IsTrue t) (sym (looks-tell f a looks)) told))))

-- .. and it is the page that was looked at that is blamed
pub fails-on : {T : Type 0} (result : Result T ReadFault) (ring : Ring) (layout : RowLayout) (f : FlashState) (now : Ring) (layout_now : RowLayout) (a b : FlashState) (number : ℕ) → now ≡ ring → layout_now ≡ layout → OnlyLooks f a →
    IfErr result (λ e. LookFails layout_now now a e b) → IfErr result (BlamesThis layout_now now a number) → IfErr result (λ e. LookFails layout ring f e b × BlamesThis layout ring f number e)
fails-on (Ok x) ring layout f now layout_now a b number ring_is layout_is looks fails blames = tt
fails-on (Err e) ring layout f now layout_now a b number ring_is layout_is looks fails blames =
    (fails-later ring layout f now layout_now a b e ring_is layout_is looks fails, blames-later ring layout f now layout_now a number e ring_is layout_is looks blames)
