-- How the mount of an index ends, by the mount of its ring and the read of its pages.
use Rattle.std.proofs.Common.{◌≡◌, inr, ℕ, ◌+◌, ◌-◌, ◌*◌, ◌%◌, ◌^◌, ◌<◌, ◌≤◌, Bool, true, false, IsTrue, Option, Some, None, IfSome, MatchOption, Result, Ok, Err, List, [], length, get_or, refl, sym, ◌∙◌, ap, subst, arith}
use Rattle.std.proofs.lemmas.List.{append-nil}
use Rattle.std.specs.Option.{option_map, unwrap_or}
use Rattle.std.proofs.lemmas.Option.{same_Some}
use Rattle.fl_base.specs.Causes.{Rose}
use Rattle.fl_flash.specs.Flash.{FlashState, page_at}
use Rattle.fl_flash.specs.Places.{extent}
use Rattle.fl_flash.specs.declared.armed.Armed.{Armed}
use Rattle.fl_flash.specs.declared.flash.FlashFault.{FlashFault}
use Rattle.fl_flash.specs.declared.flash.FlashFault.TheVariants.{PowerLost, Media}
use Rattle.fl_model.specs.Record.{Plan, entries_per_page}
use Rattle.fl_model.specs.Ring as model
use Rattle.fl_model.specs.Table.{Table, IndexRing, shape_of}
use Rattle.fl_model.specs.Mount.{renumber}
use Rattle.fl_model.specs.MountLimit.{ring_mount_limit, part_mount_limit}
use Rattle.fl_model.specs.Work.{Device}
use Rattle.fl_model.specs.Within.{repair_within}
use Rattle.fl_model.proofs.Lists.{slice_get-short}
use Rattle.fl_frame.specs.Device.{ArmsAs, SameDevice}
use Rattle.fl_frame.specs.Reads.{OnlyReads}
use Rattle.fl_frame.specs.Causes.{ReadFails}
use Rattle.fl_ring.specs.Mounting as ring_mount
use Rattle.fl_ring.specs.Numbers.{renumbered, voids_at_end}
use Rattle.fl_ring.specs.Place.{next_of, oldest_of}
use Rattle.fl_ring.specs.Place as place
use Rattle.fl_ring.specs.Ring.{Shape, RingState, OnRing, IsShape}
use Rattle.fl_ring.specs.Ring.{place as place_at}
use Rattle.fl_frame.specs.Watched.{IsWatched}
use Rattle.fl_ring.specs.declared.fault.RingFault.{RingFault}
use Rattle.fl_ring.specs.declared.fault.RingFault.TheVariants.{Flash, BadHead, BadGap, BadPage, NoNumber}
use Rattle.fl_ring.specs.declared.ring.Ring.{Ring}
use Rattle.fl_ring.proofs.Founds.{same_pages}
use Rattle.fl_ring.proofs.VoidsAtEnd.{voids_are}
use Rattle.fl_index.specs.declared.index.BitmapIndex.{BitmapIndex}
use Rattle.fl_index.specs.declared.mount.Newest.{Newest}
use Rattle.fl_index.specs.Finding.{HasEnd, IsEnd}
use Rattle.fl_index.specs.Headers.{IsNewest, AreRemembered, kept_page}
use Rattle.fl_index.specs.Memory.{IsPlanned, LiesOn, per_page, waiting_in}
use Rattle.fl_index.specs.Outcomes.{MountsWell, EndsAs, MountEnds, FindEnds}
use Rattle.fl_index.specs.Page.{page_entries, first_on, newest_of}
use Rattle.fl_index.specs.Standing.{HoldsIndex, Rests, bytes_in}
use Rattle.fl_index.proofs.MountPages.{IsNewestEnd, newest-end, first-there}
use Rattle.fl_index.proofs.MountsInTable.{state-old, renumbered-state, good-ring, IndexMount, mount-lifts, mount-fails}
use Rattle.fl_index.proofs.SealEnds.{planned-shape, planned-large, served-shape, some-entries, planned-page, lies-size, few-kept}
use Rattle.fl_index.proofs.State.{shape_in, full_count, has-some, HaveSize, IsStateOf, to-state, to-index}

-- what a mount is told of the index
pub record IsMounting (first : ℕ) (plan : Plan) (table : Table) (old : FlashState) : Type 0 where
  pub shape : model.IsShape (shape_of plan IndexRing)
  pub served : IsShape (shape_in first plan)
  pub some : 0 < entries_per_page plan
  pub large : 64 ≤ plan.geometry.page
  pub few : plan.geometry.page ≤ 4096
  pub idle : table.waiting ≡ []
  pub s : RingState
  pub is : IsStateOf plan table s
  pub on : OnRing (shape_in first plan) (page_at old) s

pub mounting-of : (t : BitmapIndex) (f : FlashState) (first : ℕ) (plan : Plan) (table : Table) → IsPlanned t first plan → LiesOn t f → f.start + extent f.geometry f.blocks ≤ length f.media.content → Rests f first plan table →
    IsMounting first plan table f
mounting-of t f first plan table planned lies reaches rests =
    let sizes = lies-size t f first plan planned lies.geometry lies.within reaches in
    let found = to-state first plan (page_at f) sizes (served-shape t first plan planned) (some-entries t first plan planned) table rests.ring rests.facts rests.pages in
    record {
      shape = planned-shape t first plan planned;
      served = served-shape t first plan planned;
      some = some-entries t first plan planned;
      large = planned-large t first plan planned;
      few = omega (arith, ap (λ g. g.page) planned.geometry, t.served.page_greatest);
      idle = rests.idle;
      s = found.s;
      is = found.is;
      on = found.on;
    }

pub never-fails : (end : Option ℕ) (e : RingFault) → ◌≡◌ {A = Result (Option ℕ) RingFault} (Ok end) (Err e) → ⊥
never-fails end e is = cc

-- a mount that failed remembers nothing
pub fails-alike : (R S : BitmapIndex → Plan → Table → model.Ring → Type 0) (first : ℕ) (plan : Plan) (table : Table) (rose : Bool) (device : Device) (e : RingFault) (index : BitmapIndex) (new : FlashState) →
    EndsAs R first plan table rose device (Err e) index new → EndsAs S first plan table rose device (Err e) index new
fails-alike R S first plan table rose device (Flash fault) index new ends = ends
fails-alike R S first plan table rose device (BadHead heads) index new ends = ends
fails-alike R S first plan table rose device (BadGap page) index new ends = ends
fails-alike R S first plan table rose device (BadPage page wanted found) index new ends = ends
fails-alike R S first plan table rose device (NoNumber at_least) index new ends = ends

-- ---- the answer

pub end-is : (at : ℕ → ℕ) (page : ℕ → List ℕ) (most : ℕ) (o : Option ℕ) (newest : Option Newest) (end : Option ℕ) → IsNewest at page o newest →
    MatchOption newest (end ≡ None) (λ n. (n.count ≡ most) × (n.first + most < 2 ^ 32) × (end ≡ Some (n.first + most))) → IsEnd most page o end
end-is at page most None newest end h m = subst (λ (n : Option Newest). MatchOption n (end ≡ None) (λ n. (n.count ≡ most) × (n.first + most < 2 ^ 32) × (end ≡ Some (n.first + most)))) h m
end-is at page most (Some number) newest end h m =
    let k = subst (λ (n : Option Newest). MatchOption n (end ≡ None) (λ n. (n.count ≡ most) × (n.first + most < 2 ^ 32) × (end ≡ Some (n.first + most)))) h m in
    (record { full = k.0; fits = k.1 }, k.2)

pub record IsBadEnd (at : ℕ → ℕ) (page : ℕ → List ℕ) (most : ℕ) (o : Option ℕ) (e : RingFault) : Type 0 where
  pub number : ℕ
  pub newest : o ≡ Some number
  pub unfit : HasEnd most (page number) → ⊥
  pub fault_is : e ≡ BadPage (at number) most (page_entries (page number))

pub bad-end : (at : ℕ → ℕ) (page : ℕ → List ℕ) (most : ℕ) (o : Option ℕ) (newest : Option Newest) (e : RingFault) → IsNewest at page o newest →
    IfSome newest (λ n. (n.count ≡ most → n.first + most < 2 ^ 32 → ⊥) × (e ≡ BadPage n.page most n.count)) → (newest ≡ None → ⊥) → IsBadEnd at page most o e
bad-end at page most None newest e h m some = absurd (some h)
bad-end at page most (Some number) newest e h m some =
    let k = subst (λ (n : Option Newest). IfSome n (λ n. (n.count ≡ most → n.first + most < 2 ^ 32 → ⊥) × (e ≡ BadPage n.page most n.count))) h m in
    record { number = number; newest = refl; unfit = λ end. k.0 end.full end.fits; fault_is = k.1 }

module _ (first : ℕ) (plan : Plan) (table : Table) (rose : Bool) (device : Device) (old : FlashState) (h : IsMounting first plan table old) where
  abbrev after : IsStateOf plan (renumber plan IndexRing table) (renumbered (shape_in first plan) 0 h.s)
  after = renumbered-state first plan h.shape h.some table h.s h.is

  -- what the ring's mount says of its state says it of the table
  pub ring-ends : (r : Shape) → r ≡ shape_in first plan → (new : FlashState) (result : Result Ring RingFault) →
      ((s : RingState) (rose : Bool) (device : Device) → ring_mount.IsGood old r 0 s → IsWatched old new rose device → ring_mount.MountEnds r rose device (renumbered r 0 s) result new) →
      IsWatched old new rose device → ring_mount.MountEnds (shape_in first plan) rose device (renumbered (shape_in first plan) 0 h.s) result new
  ring-ends r e new result ends watched =
      subst (λ (x : Shape). ring_mount.MountEnds x rose device (renumbered x 0 h.s) result new) e
      (ends h.s rose device (subst (λ (x : Shape). ring_mount.IsGood old x 0 h.s) (sym e) (good-ring first plan h.shape h.some table h.s h.is old watched.told h.on)) watched)

  -- the limit on its reads, as the ring's mount has it
  pub limit-is : part_mount_limit (shape_of plan IndexRing) table.index ≡ plan.index_blocks + 2 * plan.geometry.block + 1 + voids_at_end h.s.kept
  limit-is =
      ap (λ (o : Option model.Ring). part_mount_limit (shape_of plan IndexRing) o) h.is.facts.ring_is
      ∙ ap (λ (r : model.Ring). ring_mount_limit (shape_of plan IndexRing) r) h.is.counts
      ∙ ap (λ (n : ℕ). plan.index_blocks + 2 * plan.geometry.block + 1 + n) (voids_are (full_count plan) h.s (has-some plan h.some h.s))

  -- the mount of the ring failed
  pub ring-fails : (Remembers : BitmapIndex → Plan → Table → model.Ring → Type 0) (e : RingFault) (now : BitmapIndex) (new : FlashState) → HaveSize first plan (page_at new) →
      ring_mount.MountEnds (shape_in first plan) rose device (renumbered (shape_in first plan) 0 h.s) (Err e) new → EndsAs Remembers first plan table rose device (Err e) now new
  ring-fails Remembers (Flash fault) now new sizes m =
      let l = mount-fails first plan h.shape (renumber plan IndexRing table) (renumbered (shape_in first plan) 0 h.s) after h.idle rose device fault new m in
      record {
        now = l.now;
        did = l.did;
        counts = l.counts;
        rests = record { ring = l.is_now.ring; facts = l.is_now.facts; idle = l.idle_now; pages = to-index first plan (page_at new) sizes h.served h.some l.now.state l.s_now l.is_now l.on };
      }
  ring-fails Remembers (BadHead heads) now new sizes m = absurd m
  ring-fails Remembers (BadGap page) now new sizes m = absurd m
  ring-fails Remembers (BadPage page wanted found) now new sizes m = absurd m
  ring-fails Remembers (NoNumber least) now new sizes m = absurd m

  -- it ended well
  pub ring-mounts : (ring : Ring) (new : FlashState) → ring_mount.MountEnds (shape_in first plan) rose device (renumbered (shape_in first plan) 0 h.s) (Ok ring) new →
      IndexMount first plan h.shape (renumber plan IndexRing table) (renumbered (shape_in first plan) 0 h.s) (renumbered-state first plan h.shape h.some table h.s h.is) h.idle rose device ring new
  ring-mounts ring new m = mount-lifts first plan h.shape (renumber plan IndexRing table) (renumbered (shape_in first plan) 0 h.s) after h.idle rose device ring new m

  -- and then its newest page tells the end of the index
  module _ (ring : Ring) (new : FlashState) (l : IndexMount first plan h.shape (renumber plan IndexRing table) (renumbered (shape_in first plan) 0 h.s) (renumbered-state first plan h.shape h.some table h.s h.is) h.idle rose device ring new)
      (sizes : HaveSize first plan (page_at new)) where
    image : HoldsIndex (page_at new) first plan l.now.state l.is_now.ring
    image = to-index first plan (page_at new) sizes h.served h.some l.now.state l.s_now l.is_now l.on

    old_is : oldest_of ring ≡ model.oldest l.is_now.ring
    old_is = l.stands.oldest ∙ state-old plan l.now.state l.s_now l.is_now

    next_is : next_of ring ≡ l.is_now.ring.next
    next_is = l.stands.next ∙ ap (λ (r : model.Ring). r.next) (sym l.is_now.counts)

    many : next_of ring - oldest_of ring ≡ length l.is_now.ring.counts
    many = omega (arith, next_is, old_is, l.is_now.facts.is_ring.not_negative)

    -- the pages by their numbers
    pages_are : place.shape_of ring ≡ shape_in first plan → kept_page ring new ≡ bytes_in (page_at new) first plan
    pages_are is = let pages : Shape → ℕ → List ℕ = λ r number. page_at new (place_at r number) in ap pages is

    newest_is : IsNewestEnd (page_at new) first plan l.now.state l.is_now.ring l.is_now.facts image sizes h.large h.few (newest_of (bytes_in (page_at new) first plan) (model.oldest l.is_now.ring) (length l.is_now.ring.counts))
    newest_is = newest-end (page_at new) first plan l.now.state l.is_now.ring l.is_now.facts image sizes h.large h.few

    newest_same : place.shape_of ring ≡ shape_in first plan → newest_of (kept_page ring new) (oldest_of ring) (next_of ring - oldest_of ring) ≡ newest_of (bytes_in (page_at new) first plan) (model.oldest l.is_now.ring) (length l.is_now.ring.counts)
    newest_same is =
        ap (λ (page : ℕ → List ℕ). newest_of page (oldest_of ring) (next_of ring - oldest_of ring)) (pages_are is)
        ∙ (ap (λ k. newest_of (bytes_in (page_at new) first plan) k (next_of ring - oldest_of ring)) old_is ∙ ap (newest_of (bytes_in (page_at new) first plan) (model.oldest l.is_now.ring)) many)

    -- it is no bad one
    pub no-bad-end : (t : BitmapIndex) (e : RingFault) (now : BitmapIndex) → IsPlanned t first plan → place.shape_of ring ≡ shape_in first plan →
        IsBadEnd (place_at (place.shape_of ring)) (kept_page ring new) (per_page t) (newest_of (kept_page ring new) (oldest_of ring) (next_of ring - oldest_of ring)) e → FindEnds first plan table rose device (Err e) now new
    no-bad-end t e now planned is bad =
        absurd (bad.unfit (subst (λ (page : ℕ → List ℕ). HasEnd (per_page t) (page bad.number)) (sym (pages_are is))
        (subst (λ k. HasEnd k (bytes_in (page_at new) first plan bad.number)) (sym (planned-page t first plan planned)) (newest_is.fits bad.number (sym (newest_same is) ∙ bad.newest)))))

    -- the ring of the index was found
    pub finds-well : (now : BitmapIndex) (end : Option ℕ) → IsPlanned now first plan → place.shape_of ring ≡ shape_in first plan → now.ring ≡ Some ring → waiting_in now ≡ 0 →
        IsEnd (per_page now) (kept_page ring new) (newest_of (kept_page ring new) (oldest_of ring) (next_of ring - oldest_of ring)) end → FindEnds first plan table rose device (Ok end) now new
    finds-well now end planned is ring_is none end_is = record {
      now = l.now;
      did = l.did;
      whole = l.whole;
      counts = l.counts;
      power = l.power;
      stands = record {
        planned = planned;
        ring = l.is_now.ring;
        facts = l.is_now.facts;
        whole = l.untorn;
        clean = l.clean;
        pages = image;
        in_memory = ring;
        memory_is = ring_is;
        next = next_is;
        oldest_is = old_is;
        first_of = λ i c below e. absurd (let at = ap (λ (o : Option Ring). unwrap_or (option_map (λ r. oldest_of r) o) 0) ring_is in let never : ⊥ = omega (arith, below, at, old_is) in never);
      };
      idle = none;
      idle_now = l.idle_now;
      answer = newest_is.end end
          (subst (λ (o : Option ℕ). IsEnd (entries_per_page plan) (bytes_in (page_at new) first plan) o end) (newest_same is)
          (subst (λ k. IsEnd k (bytes_in (page_at new) first plan) (newest_of (kept_page ring new) (oldest_of ring) (next_of ring - oldest_of ring)) end) (planned-page now first plan planned)
          (subst (λ (page : ℕ → List ℕ). IsEnd (per_page now) page (newest_of (kept_page ring new) (oldest_of ring) (next_of ring - oldest_of ring)) end) (pages_are is) end_is)));
    }

-- the reads of the kept pages of an index whose ring was found
module _ (first : ℕ) (plan : Plan) (table : Table) (rose : Bool) (device : Device) (found : BitmapIndex) (mid new : FlashState) (n : ℕ) (end : Option ℕ) (w : FindEnds first plan table rose device (Ok end) found mid) (reads : OnlyReads mid n new) where
  same_device : SameDevice new w.now.device
  same_device = record {
    armed = subst (λ (a : Option Armed). ArmsAs w.now.device.armed a) (sym reads.armed) w.counts.armed;
    programs = w.counts.programs ∙ sym reads.programs;
    erases = w.counts.erases ∙ sym reads.erases;
  }

  image_now : HoldsIndex (page_at new) first plan w.now.state w.stands.ring
  image_now = subst (λ (page : ℕ → List ℕ). HoldsIndex page first plan w.now.state w.stands.ring) (sym (same_pages mid new n reads)) w.stands.pages

  pub reads-fail : (fault : FlashFault) (now : BitmapIndex) → ReadFails mid fault new → (Rose mid.media.faults new.media.faults → IsTrue rose) → MountEnds first plan table rose device (Err (Flash fault)) now new
  reads-fail PowerLost now off risen = absurd (not_both w.power off)
    where
      not_both : mid.is_on ≡ true → mid.is_on ≡ false → ⊥
      not_both e k = cc
  reads-fail Media now rises risen = record {
    now = w.now;
    did = inr (
      record {
        may_fail = risen rises;
        front = repair_within plan IndexRing (renumber plan IndexRing table);
        others = [];
        split = sym (append-nil (repair_within plan IndexRing (renumber plan IndexRing table)));
        did = w.did;
        whole = w.whole;
      },
      refl,
    );
    counts = same_device;
    rests = record { ring = w.stands.ring; facts = w.stands.facts; idle = w.idle_now; pages = image_now };
  }

  -- the index that was mounted
  pub mounts-well : (ring : Ring) (now : BitmapIndex) → IsPlanned now first plan → place.shape_of ring ≡ shape_in first plan → HaveSize first plan (page_at mid) → model.IsShape (shape_of plan IndexRing) → 64 ≤ plan.geometry.page → plan.geometry.page ≤ 4096 →
      found.ring ≡ Some ring → now.ring ≡ Some ring → waiting_in now ≡ 0 →
      (next_of ring - oldest_of ring ≤ length now.firsts.items → AreRemembered (kept_page ring mid) (oldest_of ring) (next_of ring - oldest_of ring) now.firsts.items) → MountsWell first plan table rose device end now new
  mounts-well ring now planned is sizes shape large few was ring_is none remembered =
      let same : w.stands.in_memory ≡ ring = same_Some _ _ (sym w.stands.memory_is ∙ was) in
      let old_is : oldest_of ring ≡ model.oldest w.stands.ring = ap (λ (r : Ring). oldest_of r) (sym same) ∙ w.stands.oldest_is in
      let next_is : next_of ring ≡ w.stands.ring.next = ap (λ (r : Ring). next_of r) (sym same) ∙ w.stands.next in
      let many : next_of ring - oldest_of ring ≡ length w.stands.ring.counts = omega (arith, next_is, old_is, w.stands.facts.is_ring.not_negative) in
      let pages : Shape → ℕ → List ℕ = λ r number. page_at mid (place_at r number) in
      let n_is : now.firsts.len ≡ plan.index_blocks * plan.geometry.block = now.remembered ∙ rw (planned.blocks, planned.geometry) refl in
      let room : length now.firsts.items ≡ plan.index_blocks * plan.geometry.block = sym now.firsts.ok.0 ∙ n_is in
      let fits = few-kept (shape_of plan IndexRing) w.stands.ring shape w.stands.facts.is_ring in
      let are = remembered (omega (arith, many, fits, room)) in
      record {
        now = w.now;
        did = w.did;
        whole = w.whole;
        counts = same_device;
        power = reads.power ∙ w.power;
        stands = record {
          planned = planned;
          ring = w.stands.ring;
          facts = w.stands.facts;
          whole = w.stands.whole;
          clean = w.stands.clean;
          pages = image_now;
          in_memory = ring;
          memory_is = ring_is;
          next = next_is;
          oldest_is = old_is;
          first_of = λ i c e.
              ap (λ k. get_or now.firsts.items ((model.oldest w.stands.ring + i) % k) None) now.firsts.ok.0
              ∙ (ap (λ k. get_or now.firsts.items ((k + i) % length now.firsts.items) None) (sym old_is)
              ∙ (are i (omega (arith, many, slice_get-short w.stands.ring.counts i c e))
              ∙ (ap (λ (page : ℕ → List ℕ). first_on (page (oldest_of ring + i))) (ap pages is)
              ∙ (ap (λ k. first_on (bytes_in (page_at mid) first plan (k + i))) old_is
              ∙ first-there (page_at mid) first plan w.now.state w.stands.ring w.stands.facts w.stands.pages sizes large few i c e))));
        };
        idle = none;
        idle_now = w.idle_now;
        answer = w.answer;
      }
