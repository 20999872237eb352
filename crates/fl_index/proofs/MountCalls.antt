-- What the calls of a mount say of its index, over any bytes.
use Rattle.std.proofs.Common.{◌≡◌, ℕ, ◌+◌, ◌-◌, ◌*◌, ◌<◌, ◌≤◌, IsTrue, Option, Some, None, ◌%◌, get_or, length, List, inl, inr, refl, sym, ◌∙◌, ap, subst, arith}
use Rattle.std.proofs.Math.Nat.{mul-le-mul_right, mul-le-mul_left}
use Rattle.std.proofs.lemmas.Option.{same_Some}
use Rattle.fl_base.specs.declared.types.Geometry.{Geometry}
use Rattle.fl_base.specs.declared.types.RingPlace.{RingPlace}
use Rattle.fl_flash.specs.Flash.{FlashState, page_at}
use Rattle.fl_flash.specs.declared.flash.FlashFault.{FlashFault}
use Rattle.fl_ring.specs.Finding.{FoundFault}
use Rattle.fl_frame.specs.Reads.{OnlyReads, FewReads}
use Rattle.fl_frame.specs.Causes.{ReadFails}
use Rattle.fl_ring.specs.Mounting.{shape_at, search_reads, HasNumbers, FailsAs}
use Rattle.fl_ring.specs.Place.{next_of, oldest_of, shape_of}
use Rattle.fl_ring.specs.Repairing.{Beside}
use Rattle.fl_ring.specs.Ring.{Shape, OutsideStands, place}
use Rattle.fl_ring.specs.declared.fault.RingFault.{RingFault}
use Rattle.fl_ring.specs.declared.fault.RingFault.TheVariants.{Flash, BadHead, BadGap, BadPage, NoNumber}
use Rattle.fl_ring.specs.declared.ring.Ring.{Ring}
use Rattle.fl_ring.proofs.Founds.{same_pages}
use Rattle.fl_frame.proofs.ReadsInTurn.{same_page}
use Rattle.fl_ring.proofs.NewestPages.{ring_few}
use Rattle.fl_index.specs.declared.index.BitmapIndex.{BitmapIndex}
use Rattle.fl_index.specs.Finding.{ReadsRing, FindsEnd, FindsIndex, RefusesEnd, RefusesIndex, HasEnd, IsEnd, pages_of}
use Rattle.fl_index.specs.Headers.{AreRemembered, kept_page}
use Rattle.fl_index.specs.Memory.{IsSamePlan, first_in, per_page}
use Rattle.fl_index.specs.Page.{page_entries, newest_of, first_on}
use Rattle.fl_index.proofs.MountEnded.{IsBadEnd}

-- a first data page is remembered by its page's number
pub remembered-at : (now : BitmapIndex) (ring : Ring) (page : ℕ → List ℕ) → AreRemembered page (oldest_of ring) (next_of ring - oldest_of ring) now.firsts.items →
    (number : ℕ) → oldest_of ring ≤ number → number < next_of ring → first_in now number ≡ first_on (page number)
remembered-at now ring page h number low high =
    let at : oldest_of ring + (number - oldest_of ring) ≡ number = omega (arith, low) in
    ap (λ k. get_or now.firsts.items (number % k) None) now.firsts.ok.0
    ∙ (ap (λ k. get_or now.firsts.items (k % length now.firsts.items) None) (sym at)
    ∙ (h (number - oldest_of ring) (omega (arith, low, high)) ∙ ap (λ k. first_on (page k)) at))

-- where its ring lies
pub same-shape : (old new : BitmapIndex) (f : FlashState) → IsSamePlan old new → f.geometry ≡ old.geometry → shape_at new.place f.geometry ≡ shape_at old.place old.geometry
same-shape old new f same geometry = ap (λ (p : RingPlace). shape_at p f.geometry) same.place ∙ ap (λ (g : Geometry). shape_at old.place g) geometry

pub same-entries : (old new : BitmapIndex) → IsSamePlan old new → per_page new ≡ per_page old
same-entries old new same = rw (same.geometry, same.bits, same.full) refl

-- the ring was refused
pub refuses-ring : (old new : BitmapIndex) (f g : FlashState) (e : RingFault) → IsSamePlan old new → f.geometry ≡ old.geometry → FoundFault f (shape_at new.place f.geometry) 0 e → FailsAs f (shape_at new.place f.geometry) 0 e g → RefusesEnd old f e g
refuses-ring old new f g e same geometry found fails =
    by_fault e (subst (λ (r : Shape). FoundFault f r 0 e) (same-shape old new f same geometry) found) (subst (λ (r : Shape). FailsAs f r 0 e g) (same-shape old new f same geometry) fails)
  where
    by_fault : (e : RingFault) → FoundFault f (shape_at old.place old.geometry) 0 e → FailsAs f (shape_at old.place old.geometry) 0 e g → RefusesEnd old f e g
    by_fault (Flash fault) found fails = fails
    by_fault (BadHead heads) found fails = record { found = found; reads = fails }
    by_fault (BadGap page) found fails = record { found = found; reads = fails }
    by_fault (BadPage page wanted there) found fails = inl (record { found = found; reads = fails })
    by_fault (NoNumber least) found fails = record { found = found; reads = fails }

-- the ring was found, and its newest page tells the end of the index
module _ (old new : BitmapIndex) (f g : FlashState) (same : IsSamePlan old new) (geometry : f.geometry ≡ old.geometry) (ring : Ring) (numbers : HasNumbers f (shape_at new.place f.geometry) 0 ring g) (shape : shape_of ring ≡ shape_at new.place f.geometry) where
  numbers-of : HasNumbers f (shape_at old.place old.geometry) 0 ring g
  numbers-of = subst (λ (r : Shape). HasNumbers f r 0 ring g) (same-shape old new f same geometry) numbers

  -- the pages by their numbers
  pages_are : kept_page ring g ≡ pages_of old g
  pages_are = let by_shape : Shape → ℕ → List ℕ = λ r number. page_at g (place r number) in ap by_shape (shape ∙ same-shape old new f same geometry)

  pub refuses-end : (e : RingFault) → IsBadEnd (place (shape_of ring)) (kept_page ring g) (per_page new) (newest_of (kept_page ring g) (oldest_of ring) (next_of ring - oldest_of ring)) e → RefusesEnd old f e g
  refuses-end e bad = subst (λ (x : RingFault). RefusesEnd old f x g) (sym bad.fault_is) (inr (record {
    ring = ring;
    numbers = numbers-of;
    number = bad.number;
    newest = ap (λ (page : ℕ → List ℕ). newest_of page (oldest_of ring) (next_of ring - oldest_of ring)) (sym pages_are) ∙ bad.newest;
    unfit = λ end. bad.unfit (subst (λ (page : ℕ → List ℕ). HasEnd (per_page new) (page bad.number)) (sym pages_are)
        (subst (λ k. HasEnd k (pages_of old g bad.number)) (sym (same-entries old new same)) end));
    fault_is =
        ap (λ (r : Shape). BadPage (place r bad.number) (per_page new) (page_entries (kept_page ring g bad.number))) (shape ∙ same-shape old new f same geometry)
        ∙ (ap (λ k. BadPage (place (shape_at old.place old.geometry) bad.number) k (page_entries (kept_page ring g bad.number))) (same-entries old new same)
        ∙ ap (λ (page : ℕ → List ℕ). BadPage (place (shape_at old.place old.geometry) bad.number) (per_page old) (page_entries (page bad.number))) pages_are);
  }))

  pub finds-end : (now : BitmapIndex) (end : Option ℕ) → now.ring ≡ Some ring →
      IsEnd (per_page new) (kept_page ring g) (newest_of (kept_page ring g) (oldest_of ring) (next_of ring - oldest_of ring)) end → FindsEnd old f end now g
  finds-end now end ring_is end_is = record {
    ring = ring;
    ring_is = ring_is;
    numbers = numbers-of;
    end_is = subst (λ k. IsEnd k (pages_of old g) (newest_of (pages_of old g) (oldest_of ring) (next_of ring - oldest_of ring)) end) (same-entries old new same)
        (subst (λ (page : ℕ → List ℕ). IsEnd (per_page new) page (newest_of page (oldest_of ring) (next_of ring - oldest_of ring)) end) pages_are end_is);
  }

-- a refusal of the first part refuses the mount
pub refuses-index : (old : BitmapIndex) (f g : FlashState) (e : RingFault) → RefusesEnd old f e g → RefusesIndex old f e g
refuses-index old f g (Flash fault) h = inl h
refuses-index old f g (BadHead heads) h = h
refuses-index old f g (BadGap page) h = h
refuses-index old f g (BadPage page wanted there) h = h
refuses-index old f g (NoNumber least) h = h

-- four for each page
pub four-each : (blocks pages : ℕ) → 3 ≤ blocks → 2 ≤ pages → blocks + pages + blocks * pages + pages + blocks * pages ≤ 4 * (blocks * pages)
four-each blocks pages b p =
    let rows : blocks * 2 ≤ blocks * pages = mul-le-mul_left blocks p in
    let columns : 3 * pages ≤ blocks * pages = mul-le-mul_right pages b in
    omega (arith, rows, columns)

-- .. so few reads are those of the search and the repair
pub few-found : (old : BitmapIndex) (f mid : FlashState) → Beside (shape_at old.place old.geometry) (search_reads (shape_at old.place old.geometry) + old.geometry.block) 1 1 f mid → FewReads (4 * (old.place.blocks * old.geometry.block)) f mid
few-found old f mid beside =
    let all = four-each old.place.blocks old.geometry.block old.some_blocks old.served.block_least in
    record { reads = omega (arith, beside.few_reads, all); media_reads = omega (arith, beside.media_reads, all) }

-- the kept pages are read on the flash that the first part left
module _ (old found : BitmapIndex) (f mid g : FlashState) (end : Option ℕ) (h : FindsEnd old f end found mid) (ring : Ring) (same : IsSamePlan old found) (was : found.ring ≡ Some ring) (reads : OnlyReads mid (next_of ring - oldest_of ring) g) where
  ring-is : h.ring ≡ ring
  ring-is = same_Some _ _ (sym h.ring_is ∙ was)

  pub found-shape : shape_of ring ≡ shape_at old.place old.geometry
  found-shape =
      found.lies ring was
      ∙ ap (λ (p : RingPlace). shape_at p found.geometry) same.place ∙ ap (λ (x : Geometry). shape_at old.place x) same.geometry

  reads-ring : ReadsRing old f ring g
  reads-ring = record { repaired = mid; numbers = subst (λ (x : Ring). HasNumbers f (shape_at old.place old.geometry) 0 x mid) ring-is h.numbers; reads = reads }

  pub unread-pages : (fault : FlashFault) → ReadFails mid fault g → RefusesIndex old f (Flash fault) g
  unfolding reads-ring
  unread-pages fault fails = inr (record { ring = ring; ring_reads = reads-ring; fails = fails })

  pub found-few : IsTrue f.media.tells → next_of ring - oldest_of ring ≤ old.place.blocks * old.geometry.block
  found-few told = ring_few f mid (shape_at old.place old.geometry) 0 ring (omega (arith, old.some_blocks)) (subst (λ (x : Ring). HasNumbers f (shape_at old.place old.geometry) 0 x mid) ring-is h.numbers) told

  pages_now : kept_page ring mid ≡ pages_of old g
  pages_now =
      let by_pages : (ℕ → List ℕ) → ℕ → List ℕ = λ page number. page (place (shape_of ring) number) in
      let by_shape : Shape → ℕ → List ℕ = λ r number. page_at g (place r number) in
      ap by_pages (sym (same_pages mid g (next_of ring - oldest_of ring) reads)) ∙ ap by_shape found-shape

  pages_before : pages_of old mid ≡ pages_of old g
  pages_before = let by_pages : (ℕ → List ℕ) → ℕ → List ℕ = λ page number. page (place (shape_at old.place old.geometry) number) in ap by_pages (sym (same_pages mid g (next_of ring - oldest_of ring) reads))

  pub finds-index : (now : BitmapIndex) → now.ring ≡ Some ring → AreRemembered (kept_page ring mid) (oldest_of ring) (next_of ring - oldest_of ring) now.firsts.items → FindsIndex old f end now g
  finds-index now ring_is firsts = record {
    ring = ring;
    ring_is = ring_is;
    ring_reads = reads-ring;
    firsts = λ number low high. remembered-at now ring (kept_page ring mid) firsts number low high ∙ ap (λ (page : ℕ → List ℕ). first_on (page number)) pages_now;
    end_is = subst (λ (page : ℕ → List ℕ). IsEnd (per_page old) page (newest_of page (oldest_of ring) (next_of ring - oldest_of ring)) end) pages_before
        (subst (λ (x : Ring). IsEnd (per_page old) (pages_of old mid) (newest_of (pages_of old mid) (oldest_of x) (next_of x - oldest_of x)) end) ring-is h.end_is);
  }

  pub outside-stands : OutsideStands (shape_at old.place old.geometry) (page_at f) (page_at mid) → OutsideStands (shape_at old.place old.geometry) (page_at f) (page_at g)
  outside-stands out q at = same_page mid g (next_of ring - oldest_of ring) q reads ∙ out q at

  pub few-all : Beside (shape_at old.place old.geometry) (search_reads (shape_at old.place old.geometry) + old.geometry.block) 1 1 f mid → IsTrue f.media.tells → FewReads (4 * (old.place.blocks * old.geometry.block)) f g
  few-all beside told =
      let all = four-each old.place.blocks old.geometry.block old.some_blocks old.served.block_least in
      record {
        reads = omega (arith, beside.few_reads, reads.reads, found-few told, all);
        media_reads = omega (arith, beside.media_reads, reads.media_reads, found-few told, all);
      }
