-- What the parts of a mount cost together, and what a part says of the whole: what it found, and why it failed.
use Rattle.std.proofs.Common.{◌≡◌, ℕ, ◌+◌, ◌*◌, Bool, true, false, sym, ap, subst, arith, ◌%◌, Option, Some, None, IfSome, get_or, ◌∙◌}
use Rattle.fl_flash.specs.Flash.{FlashState, Goes}
use Rattle.fl_ring.specs.Head.{one}
use Rattle.fl_frame.specs.Reads.{FewReads}
use Rattle.fl_index.specs.declared.index.BitmapIndex.{BitmapIndex}
use Rattle.fl_index.specs.Memory as memory
use Rattle.fl_ring.specs.declared.fault.RingFault.TheVariants as ring
use Rattle.fl_index.specs.Finding.{FindsIndex}
use Rattle.fl_frame.proofs.WatchedInTurn.{cause-later}
use Rattle.fl_flash.specs.declared.flash.FlashFault.TheVariants.{PowerLost, Media}
use Rattle.fl_ring.specs.Causes as ring_causes
use Rattle.fl_frame.specs.Causes.{CausedBy, ReadFails}
use Rattle.fl_ring.specs.declared.fault.RingFault.{RingFault}
use Rattle.fl_parts.specs.IndexMount.{FewRepairs, FindsBy, FindsBitmaps}
use Rattle.fl_parts.specs.Bitmaps.{AreSamePlan, AreStillFound, StaysFound}
use Rattle.fl_parts.specs.Faults.{MountCausedBy, IfFlash, is_of_pages, of_ring}
use Rattle.fl_parts.specs.declared.mount_fault.MountFault.{MountFault}
use Rattle.fl_parts.specs.declared.mount_fault.MountFault.TheVariants as mount
use Rattle.fl_parts.specs.declared.mount_fault.MountFault.TheVariants.{Flash, Ring as OfRing, BadPage, BadKeys, BadIndex, BadBlob, BadEntry}

-- what the mount of the index alone reads, and how often it repairs, where the other rings weren't come to
pub index-reads : (a b c : ℕ) (old new : FlashState) → FewReads (4 * b) old new → FewReads (4 * (a + b + c)) old new
index-reads a b c old new few = record { reads = omega (arith, few.reads); media_reads = omega (arith, few.media_reads) }

pub index-repairs : (a b : ℕ) (old new : FlashState) → FewRepairs a old new → FewRepairs (a + b + 1) old new
index-repairs a b old new few = record { programs = omega (arith, few.programs); erases = omega (arith, few.erases) }

-- the repairs of the index, and behind them those of the other rings
pub repairs-joined : (a b : ℕ) (old mid new : FlashState) → FewRepairs a old mid → FewRepairs (1 + b) mid new → FewRepairs (a + b + 1) old new
repairs-joined a b old mid new one other = record { programs = omega (arith, one.programs, other.programs); erases = omega (arith, one.erases, other.erases) }

-- Where entries aren't full, the index that was found is the same where its ring and what is remembered of its pages are.
pub still-found : (was mid now : Option BitmapIndex) (old new : FlashState) (end : Option ℕ) → FindsBitmaps was old end mid new → AreSamePlan was mid → AreStillFound mid now → IfSome was (λ index. (memory.form_in index).full ≡ false) →
    FindsBitmaps was old end now new
still-found None None None old new end h same still bare = h
still-found None None (Some now) old new end h same still bare = absurd still
still-found None (Some mid) now old new end h same still bare = absurd h
still-found (Some was) None now old new end h same still bare = absurd h
still-found (Some was) (Some mid) None old new end h same still bare = absurd still
still-found (Some was) (Some mid) (Some now) old new end h same still bare =
    subst (λ (full : Bool). FindsBy full was old end now new) (sym bare)
    (by_ring (subst (λ (full : Bool). FindsBy full was old end mid new) bare h) (subst (λ (full : Bool). StaysFound full mid now) (same.full ∙ bare) still))
  where
    by_ring : FindsIndex was old end mid new → memory.IsSameRing mid now → FindsIndex was old end now new
    by_ring h still = record {
      ring = h.ring;
      ring_is = still.ring ∙ h.ring_is;
      ring_reads = h.ring_reads;
      firsts = λ number low high. ap (λ v. get_or v.items (number % v.len) None) still.firsts ∙ h.firsts number low high;
      end_is = h.end_is;
    }

-- why a later part of a mount failed
pub mount-cause-later : (old mid new : FlashState) → Goes old mid → (old.is_on ≡ true → mid.is_on ≡ true) → (e : MountFault) → MountCausedBy mid e new → MountCausedBy old e new
mount-cause-later old mid new goes on (mount.Flash fault) h = cause-later old mid new goes on fault h
mount-cause-later old mid new goes on (mount.Ring (ring.Flash fault)) h = absurd h
mount-cause-later old mid new goes on (mount.Ring (ring.BadHead heads)) h = tt
mount-cause-later old mid new goes on (mount.Ring (ring.BadGap page)) h = tt
mount-cause-later old mid new goes on (mount.Ring (ring.BadPage page wanted found)) h = tt
mount-cause-later old mid new goes on (mount.Ring (ring.NoNumber least)) h = tt
mount-cause-later old mid new goes on (mount.BadPage bad) h = tt
mount-cause-later old mid new goes on (mount.BadKeys page last first) h = tt
mount-cause-later old mid new goes on (mount.BadIndex end next) h = tt
mount-cause-later old mid new goes on (mount.BadBlob page next) h = tt
mount-cause-later old mid new goes on (mount.BadEntry page count limit) h = tt

-- why the ring's mount failed
pub ring-cause : (old new : FlashState) (e : RingFault) → ring_causes.IfFlash (λ fault. CausedBy old fault new) e → MountCausedBy old (of_ring e) new
ring-cause old new (ring.Flash fault) cause = cause
ring-cause old new (ring.BadHead heads) cause = tt
ring-cause old new (ring.BadGap page) cause = tt
ring-cause old new (ring.BadPage page wanted there) cause = tt
ring-cause old new (ring.NoNumber least) cause = tt

-- why a kept page wasn't read, or refused
pub pages-cause : (old mid new : FlashState) → Goes old mid → mid.is_on ≡ true → (e : MountFault) → is_of_pages e ≡ true → IfFlash (λ fault. ReadFails mid fault new) e → MountCausedBy old e new
pages-cause old mid new goes on (Flash PowerLost) only off = absurd (not_both on off)
  where
    not_both : mid.is_on ≡ true → mid.is_on ≡ false → ⊥
    not_both e k = cc
pages-cause old mid new goes on (Flash Media) only rises = omega (arith, rises, goes.faults)
pages-cause old mid new goes on (OfRing fault) only fails = absurd (cc only)
pages-cause old mid new goes on (BadPage bad) only fails = tt
pages-cause old mid new goes on (BadKeys number last first) only fails = tt
pages-cause old mid new goes on (BadIndex end next) only fails = tt
pages-cause old mid new goes on (BadBlob number next) only fails = tt
pages-cause old mid new goes on (BadEntry number count limit) only fails = tt
