-- What the calls of a mount say of its table.
use Rattle.std.proofs.Common.{◌≡◌, ℕ, ◌+◌, ◌-◌, ◌<◌, ◌≤◌, true, Option, Some, None, List, refl, sym, ◌∙◌, ap, subst, inl, inr}
use Rattle.fl_base.specs.declared.types.Geometry.{Geometry}
use Rattle.fl_base.specs.declared.types.RingPlace.{RingPlace}
use Rattle.fl_flash.specs.Flash.{FlashState, page_at}
use Rattle.fl_model.specs.Record.{Plan}
use Rattle.fl_frame.specs.Causes.{ReadFails}
use Rattle.fl_ring.specs.Finding.{FoundFault}
use Rattle.fl_frame.specs.Reads.{OnlyReads}
use Rattle.fl_ring.specs.Mounting.{shape_at, HasNumbers, FailsAs}
use Rattle.fl_ring.specs.Place.{next_of, oldest_of, shape_of}
use Rattle.fl_ring.specs.Ring.{Shape, OutsideStands, place}
use Rattle.fl_ring.specs.declared.fault.RingFault.{RingFault}
use Rattle.fl_ring.specs.declared.fault.RingFault.TheVariants as ring
use Rattle.fl_ring.specs.declared.ring.Ring.{Ring}
use Rattle.fl_ring.proofs.Founds.{same_pages}
use Rattle.fl_frame.proofs.ReadsInTurn.{same_page}
use Rattle.fl_schema.specs.Schema.{layout_of}
use Rattle.fl_parts.specs.Faults.{IfFlash, IfPage, is_of_pages, of_ring}
use Rattle.fl_model.specs.Table.{IndexRing, VarRing}
use Rattle.fl_table.specs.Memory.{IsPlanned, IsSamePlan}
use Rattle.fl_parts.specs.Pages.{bytes_in, place_in}
use Rattle.fl_parts.proofs.BlobsOfTable.{var-stands}
use Rattle.fl_parts.proofs.ListsStay.{index-stands}
use Rattle.fl_table.proofs.SealAnswers.{planned-ring}
use Rattle.fl_find.specs.declared.index.KeyIndex.{KeyIndex}
use Rattle.fl_index.specs.declared.index.BitmapIndex.{BitmapIndex}
use Rattle.fl_parts.specs.Bitmaps.{room_of}
use Rattle.fl_parts.specs.ByEntries.{Come, facts_on, rows_of, voids_of, end_of, known_after, mount_fault}
use Rattle.fl_parts.specs.Coming.{FirstsKnown, WaitUnlisted, index_pages_of, most_in}
use Rattle.fl_parts.specs.Knowing.{IsLearned, KnowsAll, KnowsBy, KnowsWith}
use Rattle.fl_parts.specs.IndexMount.{RemembersKept}
use Rattle.fl_table.specs.Mounting.{ReadsRing, FindsData, HasBadPage, RefusesData, comes_in}
use Rattle.fl_parts.specs.Reading.{pages_of}
use Rattle.fl_table.specs.declared.counts.Mounted.{Mounted}
use Rattle.fl_parts.specs.declared.known.Known.{Known}
use Rattle.fl_parts.specs.declared.known.Listed.{Listed}
use Rattle.fl_parts.specs.declared.mount_fault.MountFault.{MountFault}
use Rattle.fl_parts.specs.declared.mount_fault.MountFault.TheVariants.{Flash, Ring as OfRing, BadPage, BadKeys, BadIndex, BadBlob, BadEntry}
use Rattle.fl_table.specs.declared.table.Table.{Table}
use Rattle.fl_parts.proofs.MountProgress.{come-as, come-rows}
use Rattle.fl_parts.proofs.Firsts.{firsts-read, kept-firsts}
use Rattle.fl_table.proofs.Learned.{learned-all}
use Rattle.fl_parts.proofs.Steps.{ends-well}

-- where its ring lies
pub same-shape : {KNOTS SLOTS : ℕ} (old new : Table KNOTS SLOTS) (f : FlashState) → IsSamePlan old new → f.geometry ≡ old.geometry → shape_at new.place f.geometry ≡ shape_at old.place old.geometry
same-shape old new f same geometry = ap (λ (p : RingPlace). shape_at p f.geometry) same.place ∙ ap (λ (g : Geometry). shape_at old.place g) geometry

-- the other rings stand beside the mount of the data ring
abbrev pub OthersStill : FlashState → FlashState → ℕ → Plan → Type 0
OthersStill f g first plan = (k : ℕ) → (bytes_in (page_at g) first plan IndexRing k ≡ bytes_in (page_at f) first plan IndexRing k) × (bytes_in (page_at g) first plan VarRing k ≡ bytes_in (page_at f) first plan VarRing k)

pub index-still : {KNOTS SLOTS : ℕ} (t : Table KNOTS SLOTS) (f mid : FlashState) (first : ℕ) (plan : Plan) → IsPlanned t first plan → f.geometry ≡ t.geometry → OutsideStands (shape_at t.place f.geometry) (page_at f) (page_at mid) → OthersStill f mid first plan
index-still t f mid first plan planned geometry outside =
    let stands = subst (λ (r : Shape). OutsideStands r (page_at f) (page_at mid)) (ap (λ (x : Geometry). shape_at t.place x) geometry ∙ planned-ring t first plan planned) outside in
    λ k. (index-stands (page_at f) (page_at mid) first plan stands k, var-stands (page_at f) (page_at mid) first plan stands k)

pub index-read : {KNOTS SLOTS : ℕ} (t : Table KNOTS SLOTS) (f mid g : FlashState) (n first : ℕ) (plan : Plan) → IsPlanned t first plan → f.geometry ≡ t.geometry → OnlyReads mid n g → OutsideStands (shape_at t.place f.geometry) (page_at f) (page_at mid) → OthersStill f g first plan
index-read t f mid g n first plan planned geometry reads outside k =
    let still = index-still t f mid first plan planned geometry outside k in
    (same_page mid g n (place_in first plan IndexRing k) reads ∙ still.0, same_page mid g n (place_in first plan VarRing k) reads ∙ still.1)

-- the kept pages are read on a flash that a repair left
module _ {KNOTS SLOTS : ℕ} (old new : Table KNOTS SLOTS) (f mid g : FlashState) (n : ℕ) (same : IsSamePlan old new) (geometry : f.geometry ≡ old.geometry) (reads : OnlyReads mid n g) where
  pub outside-stands : OutsideStands (shape_at new.place f.geometry) (page_at f) (page_at mid) → OutsideStands (shape_at old.place old.geometry) (page_at f) (page_at g)
  outside-stands h q out = same_page mid g n q reads ∙ subst (λ (r : Shape). OutsideStands r (page_at f) (page_at mid)) (same-shape old new f same geometry) h q out

  module _ (bitmaps : Option BitmapIndex) (ring : Ring) (least : ℕ) (numbers : HasNumbers f (shape_at new.place f.geometry) least ring mid) (lies : shape_of ring ≡ shape_at new.place f.geometry) (within : least ≤ next_of ring) (all : n ≡ index_pages_of bitmaps + (next_of ring - oldest_of ring)) where
    pub reads-ring : ReadsRing old bitmaps f least ring g
    reads-ring = record {
      repaired = mid;
      numbers = subst (λ (r : Shape). HasNumbers f r least ring mid) (same-shape old new f same geometry) numbers;
      shape = lies ∙ same-shape old new f same geometry;
      within = within;
      reads = subst (λ (k : ℕ). OnlyReads mid k g) all reads;
    }

    -- the mount comes to the same pages after the reads as before them
    same-come : comes_in old bitmaps ring g ≡ comes_in old bitmaps ring mid
    same-come = come-as (layout_of old.schema) (most_in old.geometry.page (layout_of old.schema)) bitmaps ring mid g (same_pages mid g n reads)

    -- .. and the same entries wait
    pub same-waits : (end next : ℕ) (now : Option BitmapIndex) → WaitUnlisted (comes_in old bitmaps ring mid) (pages_of ring mid) bitmaps end next now → WaitUnlisted (comes_in old bitmaps ring g) (pages_of ring g) bitmaps end next now
    same-waits end next now h =
        subst (λ (page : ℕ → List ℕ). WaitUnlisted (comes_in old bitmaps ring g) page bitmaps end next now) (sym (ap (λ (page : ℕ → List ℕ). λ (number : ℕ). page (place (shape_of ring) number)) (same_pages mid g n reads)))
        (subst (λ (t : Come). WaitUnlisted t (pages_of ring mid) bitmaps end next now) (sym same-come) h)

    refused-page : (fault : MountFault) → mount_fault (comes_in old bitmaps ring mid) ≡ Some fault → HasBadPage old bitmaps f least fault g
    refused-page fault h = record { ring = ring; ring_reads = reads-ring; refused = ap mount_fault same-come ∙ h }

    pub refuses-page : (e : MountFault) → is_of_pages e ≡ true → IfFlash (λ fault. ReadFails mid fault g) e → IfPage (λ fault. mount_fault (comes_in old bitmaps ring mid) ≡ Some fault) e → RefusesData old bitmaps f least e g
    unfolding reads-ring
    refuses-page (Flash fault) only fails h = inr (record { ring = ring; ring_reads = reads-ring; fails = fails })
    refuses-page (OfRing fault) only fails h = absurd (cc only)
    refuses-page (BadPage bad) only fails h = refused-page (BadPage bad) h
    refuses-page (BadKeys number last first) only fails h = refused-page (BadKeys number last first) h
    refuses-page (BadIndex end next) only fails h = absurd (cc only)
    refuses-page (BadBlob number next) only fails h = absurd (cc only)
    refuses-page (BadEntry number count limit) only fails h = refused-page (BadEntry number count limit) h

    -- what is known of all data pages is what the mount answers
    pub finds-data : (error : ℕ) (known : Known) (counts : List ℕ) (index : KeyIndex KNOTS SLOTS) → known.newest ≡ None →
        KnowsWith error (comes_in old bitmaps ring mid) (comes_in old bitmaps ring mid).index_pages (comes_in old bitmaps ring mid).pages known counts index →
        FindsData old bitmaps f least ring (record { rows = known.rows; pages = next_of ring - oldest_of ring; voids = known.voids }) known.last known.blob_end g
    finds-data error known counts index none h =
        let t = comes_in old bitmaps ring g in
        let all : KnowsAll t t.index_pages t.pages known counts =
        subst (λ (t : Come). KnowsAll t t.index_pages t.pages known counts) (sym same-come)
        (subst (λ (o : Option Listed). KnowsBy o (comes_in old bitmaps ring mid) (comes_in old bitmaps ring mid).index_pages (comes_in old bitmaps ring mid).pages known counts) none h.knows) in
        let is = come-rows (layout_of old.schema) (most_in old.geometry.page (layout_of old.schema)) bitmaps ring g in
        let n = next_of ring - oldest_of ring in
        record {
          ring_reads = reads-ring;
          fine = ends-well t known counts all;
          mounted_is = mounted_as (rows_of (facts_on t) (oldest_of ring) n) (voids_of (facts_on t) (oldest_of ring) n) (all.counted.rows ∙ at (rows_of (facts_on t)) is.oldest is.pages) (all.voids ∙ at (voids_of (facts_on t)) is.oldest is.pages);
          last_is = all.counted.last ∙ ap (known_after t) is.pages;
          end_is = all.blob_end ∙ at (end_of (facts_on t)) is.oldest is.pages;
        }
      where
        at : {o p : ℕ} (total : ℕ → ℕ → ℕ) → o ≡ oldest_of ring → p ≡ next_of ring - oldest_of ring → total o p ≡ total (oldest_of ring) (next_of ring - oldest_of ring)
        at {o = o} {p = p} total e k = ap (λ o. total o p) e ∙ ap (total (oldest_of ring)) k

        mounted_as : (rows voids : ℕ) → known.rows ≡ rows → known.voids ≡ voids →
            ◌≡◌ {A = Mounted} (record { rows = known.rows; pages = next_of ring - oldest_of ring; voids = known.voids }) (record { rows = rows; pages = next_of ring - oldest_of ring; voids = voids })
        mounted_as rows voids e k = rw (e, k) refl

    -- .. and so is what the table keeps in memory of them
    pub learns : (error : ℕ) (known : Known) (counts : List ℕ) (index : KeyIndex KNOTS SLOTS) → known.newest ≡ None →
        KnowsWith error (comes_in old bitmaps ring mid) (comes_in old bitmaps ring mid).index_pages (comes_in old bitmaps ring mid).pages known counts index →
        IsLearned error (comes_in old bitmaps ring g) known.voids counts index
    learns error known counts index none h =
        subst (λ (t : Come). IsLearned error t known.voids counts index) (sym same-come)
        (learned-all error (comes_in old bitmaps ring mid) (comes_in old bitmaps ring mid).index_pages known counts index h none)

    -- .. and the first data page of each kept index page is remembered
    pub finds-firsts : (error : ℕ) (known : Known) (counts : List ℕ) (index : KeyIndex KNOTS SLOTS) (now : Option BitmapIndex) → known.newest ≡ None →
        KnowsWith error (comes_in old bitmaps ring mid) (comes_in old bitmaps ring mid).index_pages (comes_in old bitmaps ring mid).pages known counts index →
        index_pages_of bitmaps ≤ room_of bitmaps → FirstsKnown bitmaps mid now → RemembersKept bitmaps g now
    finds-firsts error known counts index now none h few firsts =
        firsts-read bitmaps now mid g n reads
        (kept-firsts (layout_of old.schema) (most_in old.geometry.page (layout_of old.schema)) bitmaps now ring mid (ap mount_fault (sym same-come) ∙ (finds-data error known counts index none h).fine) few firsts)

-- the ring was refused
pub refuses-ring : {KNOTS SLOTS : ℕ} (old new : Table KNOTS SLOTS) (bitmaps : Option BitmapIndex) (f g : FlashState) (least : ℕ) (e : RingFault) → IsSamePlan old new → f.geometry ≡ old.geometry → FoundFault f (shape_at new.place f.geometry) least e → FailsAs f (shape_at new.place f.geometry) least e g →
    RefusesData old bitmaps f least (of_ring e) g
refuses-ring old new bitmaps f g least e same geometry found fails =
    by_fault e (subst (λ (r : Shape). FoundFault f r least e) (same-shape old new f same geometry) found) (subst (λ (r : Shape). FailsAs f r least e g) (same-shape old new f same geometry) fails)
  where
    by_fault : (e : RingFault) → FoundFault f (shape_at old.place old.geometry) least e → FailsAs f (shape_at old.place old.geometry) least e g → RefusesData old bitmaps f least (of_ring e) g
    by_fault (ring.Flash fault) found fails = inl fails
    by_fault (ring.BadHead heads) found fails = record { found = found; reads = fails }
    by_fault (ring.BadGap page) found fails = record { found = found; reads = fails }
    by_fault (ring.BadPage page wanted there) found fails = record { found = found; reads = fails }
    by_fault (ring.NoNumber least) found fails = record { found = found; reads = fails }

-- the ring was found, and the index ends behind it
pub refuses-end : {KNOTS SLOTS : ℕ} (old new : Table KNOTS SLOTS) (bitmaps : Option BitmapIndex) (f g : FlashState) (least next : ℕ) (ring : Ring) → IsSamePlan old new → f.geometry ≡ old.geometry → HasNumbers f (shape_at new.place f.geometry) least ring g → next ≡ next_of ring → next < least →
    RefusesData old bitmaps f least (BadIndex least next) g
refuses-end old new bitmaps f g least next ring same geometry numbers is beyond = record {
  ring = ring;
  numbers = subst (λ (r : Shape). HasNumbers f r least ring g) (same-shape old new f same geometry) numbers;
  end_is = refl;
  next_is = is;
  beyond = beyond;
}
