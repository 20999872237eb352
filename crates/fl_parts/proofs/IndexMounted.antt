-- What the mount of an index ring leaves of its table, as a part of the table's mount.
use Rattle.std.proofs.Common.{◌≡◌, ℕ, ◌+◌, ◌*◌, ◌<◌, ◌≤◌, Bool, true, false, cond, Option, Some, None, option_map, unwrap_or, IfSome, nat_lt, List, [], ◌∷◌, ◌++◌, length, refl, sym, ◌∙◌, ap, subst, arith, ◌⊎◌, inl, inr, map, drop}
use Rattle.fl_model.specs.Index.{IndexPage}
use Rattle.std.specs.List.{list_any}
use Rattle.fl_flash.specs.Flash.{FlashState, page_at}
use Rattle.fl_flash.specs.declared.flash.FlashFault.{FlashFault}
use Rattle.fl_flash.specs.declared.flash.FlashFault.TheVariants.{Media}
use Rattle.fl_index.specs.declared.index.BitmapIndex.{BitmapIndex}
use Rattle.fl_index.specs.Outcomes as outcomes
use Rattle.fl_index.specs.Standing as standing
use Rattle.fl_index.specs.Standing.{HasIndex}
use Rattle.fl_index.proofs.Lists.{end-drop, end_after, firsts-drop}
use Rattle.fl_model.specs.Facts.{IsSettled}
use Rattle.fl_model.specs.Mount.{renumber, renumbered, rings_of, index_end, least_alike}
use Rattle.fl_model.specs.Record.{Plan, has_index, entries_per_page}
use Rattle.fl_model.specs.Ring as model
use Rattle.fl_model.specs.Ring.{oldest}
use Rattle.fl_model.specs.Table.{Table, RingName, DataRing, IndexRing, VarRing, shape_of, full_pages, is_torn, spent_from}
use Rattle.fl_model.specs.Work.{VoidMark, Erase, Device, PartEnd, Whole, CutIn, FailedIn, PartProgress}
use Rattle.fl_model.specs.Within.{repair_within, effect_within, TablePerforms, TableUnreads, TableGoesOn, TableMounts, TableStopped, TableUnread}
use Rattle.fl_model.proofs.Fronts.{IsFront, performed-front, unread-front, repairs-keep}
use Rattle.fl_parts.specs.Failing.{FaultEnds, MountsBadly, var_rings}
use Rattle.fl_parts.specs.Mountable.{BlobsBefore, IsMountable}
use Rattle.fl_parts.specs.Pages.{RestsToMount, bytes_in}
use Rattle.fl_parts.proofs.Fronts.{IsNumberedTo, erased-number}
use Rattle.fl_parts.proofs.InTurn.{of_rings}
use Rattle.fl_parts.proofs.IndexAlone.{IsBeside, indexed-of, beside-facts, holds-beside, holds-indexed}
use Rattle.fl_parts.proofs.Loose.{IsListed, IsLoose, listed-of, loose-paged, loose-with_index, paged-loose}
use Rattle.fl_parts.proofs.Plain.{IsPlainTable, table-facts, table-parts, least-below}
use Rattle.fl_parts.proofs.VarRepairs.{voided_number}
use Rattle.fl_parts.proofs.Repaired.{IsIdle, idle-lost, lost-idle}

-- what the repairs of an index ring leave of a table
pub record IsLeft (n : ℕ) (plan : Plan) (table new : Table) : Type 0 where
  pub beside : IsBeside table new
  pub number : IsNumberedTo n new.index
  pub end : index_end plan new ≤ index_end plan table
  pub waiting : new.waiting ≡ table.waiting

-- renumbered from 0 on, a ring's number is the same or less
lower_number : (n : ℕ) (shape : model.Shape) (o : Option model.Ring) → 0 < shape.blocks * shape.pages → IfSome o (model.IsRing shape) → IsNumberedTo n o → IsNumberedTo n (option_map (renumbered shape 0) o)
lower_number n shape None some h k = tt
lower_number n shape (Some r) some h k = by_test (list_any (nat_lt 0) r.counts)
  where
    by_test : (b : Bool) → IsNumberedTo n (Some (cond b r (record r { next = least_alike (shape.blocks * shape.pages) r.next (0 + length r.counts) })))
    by_test true = k
    by_test false = let low = least-below (shape.blocks * shape.pages) r.next (0 + length r.counts) some (omega (arith, h.not_negative)) in omega (arith, low, k)

-- a table at rest, of which the index ring is mounted
module _ (old new : FlashState) (first : ℕ) (plan : Plan) (table : Table) (rose : Bool) (device : Device) (has : has_index plan ≡ true) (some : 0 < plan.index_blocks * plan.geometry.block)
    (log_none : plan.log_blocks ≡ 0) (rests : RestsToMount old first plan table) (same_rows : (n : ℕ) → bytes_in (page_at new) first plan DataRing n ≡ bytes_in (page_at old) first plan DataRing n)
    (same_var : (n : ℕ) → bytes_in (page_at new) first plan VarRing n ≡ bytes_in (page_at old) first plan VarRing n) where
  idle : IsIdle table
  idle = lost-idle table rests.mountable.lost

  loose : IsLoose plan table
  loose = paged-loose plan table log_none idle.pending idle.buffered idle.waiting rests.mountable.paged

  -- what the repairs left
  module _ (left : Table) (ring : model.Ring) (f : IsFront (effect_within plan) (repair_within plan IndexRing (renumber plan IndexRing table)) (renumber plan IndexRing table) left) (known : HasIndex plan left ring)
      (image : standing.HoldsIndex (page_at new) (first + plan.data_blocks) plan left ring) where
    is-left : (n : ℕ) → IsNumberedTo n table.index → IsLeft n plan table left
    is-left n number = repairs-keep (IsLeft n plan table) plan IndexRing (renumber plan IndexRing table) left f voids erases
        (record { beside = (_, _, _, refl); number = lower_number n (shape_of plan IndexRing) table.index some loose.index.ring number; end = omega arith; waiting = refl })
      where
        voids : is_torn IndexRing (renumber plan IndexRing table) ≡ true → IsLeft n plan table (renumber plan IndexRing table) → IsLeft n plan table (effect_within plan (IndexRing, VoidMark) (renumber plan IndexRing table))
        voids e k = record {
          beside = (_, _, _, ap (effect_within plan (IndexRing, VoidMark)) k.beside.3);
          number = voided_number n (shape_of plan IndexRing) (renumber plan IndexRing table).index e k.number;
          end =
              let gone = full_pages (unwrap_or (option_map (model.given_up (shape_of plan IndexRing) 0) (renumber plan IndexRing table).index) []) in
              let less : end_after (entries_per_page plan) (map (λ (page : IndexPage). page.first) (drop gone (renumber plan IndexRing table).index_pages)) ≤ end_after (entries_per_page plan) (map (λ (page : IndexPage). page.first) (renumber plan IndexRing table).index_pages) =
              subst (λ (fs : List ℕ). end_after (entries_per_page plan) fs ≤ end_after (entries_per_page plan) (map (λ (page : IndexPage). page.first) (renumber plan IndexRing table).index_pages)) (sym (firsts-drop gone (renumber plan IndexRing table).index_pages))
              (end-drop (entries_per_page plan) gone (map (λ (page : IndexPage). page.first) (renumber plan IndexRing table).index_pages)) in
              omega (arith, less, k.end);
          waiting = k.waiting;
        }

        erases : (t : Table) → IsLeft n plan table t → IsLeft n plan table (effect_within plan (IndexRing, Erase) t)
        erases t k = record { beside = (_, _, _, ap (effect_within plan (IndexRing, Erase)) k.beside.3); number = erased-number n t.index k.number; end = k.end; waiting = k.waiting }

    is : IsLeft 4294967295 plan table left
    is = is-left 4294967295 loose.index.number

    rows_are : left.rows ≡ table.rows
    rows_are = ap (λ (x : Table). x.rows) is.beside.3

    pending_is : left.pending ≡ table.pending
    pending_is = ap (λ (x : Table). x.pending) is.beside.3

    left_idle : IsIdle left
    left_idle = record { pending = pending_is ∙ idle.pending; buffered = ap (λ (x : Table). x.buffered) is.beside.3 ∙ idle.buffered; waiting = is.waiting ∙ idle.waiting; points = ap (λ (x : Table). x.points) is.beside.3 ∙ idle.points }

    left-loose : IsLoose plan left
    left-loose = subst (IsLoose plan) (sym is.beside.3) (loose-with_index plan table is.beside.0 is.beside.1 is.beside.2 loose
        (subst (IsListed plan) is.beside.3 (listed-of plan left ring has known (subst (IsNumberedTo 4294967295) known.ring_is is.number))))

    -- a mount of the other rings may go on, and all facts hold where they did
    left-mountable : IsMountable plan left
    left-mountable = record {
      lost = idle-lost left left_idle;
      paged = loose-paged plan left left_idle.pending left-loose;
      behind = λ void lt more. subst (λ (r : model.Ring). r.next + (cond r.torn 1 0) ≤ spent_from + 1) (sym rows_are)
          (rests.mountable.behind (ap (λ (r : model.Ring). list_any (nat_lt 0) r.counts) (sym rows_are) ∙ void) (let e = ap oldest rows_are in let le = is.end in omega (arith, e, lt, le)) (omega (arith, ap (λ (r : model.Ring). length r.counts) rows_are, more)));
      before = subst BlobsBefore (sym is.beside.3) rests.mountable.before;
    }

    pub left-settled : IsSettled plan table → IsSettled plan left
    left-settled settled =
        let facts = table-parts plan table log_none settled.facts in
        let number : ring.next + (cond ring.torn 1 0) ≤ 4294967292 = subst (IsNumberedTo 4294967292) known.ring_is (is-left 4294967292 facts.index.number).number in
        let after : IsPlainTable plan left = beside-facts plan table left is.beside facts (indexed-of plan left ring has known number (λ p. absurd (p (pending_is ∙ idle.pending)))
        (λ lt more. subst (λ (r : model.Ring). r.next + (cond r.torn 1 0) ≤ spent_from + 1) (sym rows_are)
        (facts.index.number_listed (let e = ap oldest rows_are in let le = is.end in omega (arith, e, lt, le)) (omega (arith, ap (λ (r : model.Ring). length r.counts) rows_are, more))))) in
        record { facts = table-facts plan left after; lost = idle-lost left left_idle }

    pub left-rests : RestsToMount new first plan left
    left-rests = record {
      mountable = left-mountable;
      pages = holds-beside (page_at old) (page_at new) first plan table left is.beside same_rows same_var rests.pages (holds-indexed (page_at new) first plan left ring known.ring_is image);
    }

  pub two_rings : rings_of plan ≡ IndexRing ∷ DataRing ∷ var_rings plan
  two_rings = ap (λ (b : Bool). (cond b (IndexRing ∷ []) []) ++ DataRing ∷ [] ++ var_rings plan) has

  -- the mount of the index ring failed
  pub index-fails : (fault : FlashFault) → outcomes.MountsBadly (first + plan.data_blocks) plan table rose device fault new → MountsBadly first plan (rings_of plan) table rose device fault new
  index-fails fault h = record {
    now = h.now;
    did = subst (λ (rings : List RingName). (TableMounts plan rose (of_rings rings) device table (TableStopped h.now) × FaultEnds h.now.end fault new) ⊎ (TableMounts plan rose (of_rings rings) device table (TableUnread h.now) × (fault ≡ Media))) (sym two_rings) (by_did h.did);
    counts = h.counts;
    lost = (left-rests h.now.state h.rests.ring (front h.did) h.rests.facts h.rests.pages).mountable.lost;
    paged = (left-rests h.now.state h.rests.ring (front h.did) h.rests.facts h.rests.pages).mountable.paged;
    pages = (left-rests h.now.state h.rests.ring (front h.did) h.rests.facts h.rests.pages).pages;
    rests = λ settled. record {
      settled = left-settled h.now.state h.rests.ring (front h.did) h.rests.facts h.rests.pages settled;
      pages = (left-rests h.now.state h.rests.ring (front h.did) h.rests.facts h.rests.pages).pages;
    };
  }
    where
      stops : (now : PartProgress Table) (e : PartEnd Table) → now.end ≡ e → outcomes.FaultEnds e fault new →
          TableGoesOn now.end now (TableStopped now) (TableMounts plan rose (of_rings (DataRing ∷ var_rings plan)) now.device now.state (TableStopped now)) × FaultEnds e fault new
      stops now Whole k a = absurd a
      stops now (CutIn b) k a = (rw k refl, a)
      stops now (FailedIn b) k a = (rw k refl, a)

      by_did : (TablePerforms plan rose (repair_within plan IndexRing (renumber plan IndexRing table)) device (renumber plan IndexRing table) h.now × outcomes.FaultEnds h.now.end fault new)
          ⊎ (TableUnreads plan rose (repair_within plan IndexRing (renumber plan IndexRing table)) device (renumber plan IndexRing table) h.now × (fault ≡ Media)) →
          (TableMounts plan rose (of_rings (IndexRing ∷ DataRing ∷ var_rings plan)) device table (TableStopped h.now) × FaultEnds h.now.end fault new) ⊎ (TableMounts plan rose (of_rings (IndexRing ∷ DataRing ∷ var_rings plan)) device table (TableUnread h.now) × (fault ≡ Media))
      by_did (inl p) = let s = stops h.now h.now.end refl p.1 in inl (inr (h.now, p.0, s.0), s.1)
      by_did (inr u) = inr (inl (h.now, u.0, refl), u.1)

      front : (TablePerforms plan rose (repair_within plan IndexRing (renumber plan IndexRing table)) device (renumber plan IndexRing table) h.now × outcomes.FaultEnds h.now.end fault new)
          ⊎ (TableUnreads plan rose (repair_within plan IndexRing (renumber plan IndexRing table)) device (renumber plan IndexRing table) h.now × (fault ≡ Media)) →
          IsFront (effect_within plan) (repair_within plan IndexRing (renumber plan IndexRing table)) (renumber plan IndexRing table) h.now.state
      front (inl p) = performed-front plan rose (repair_within plan IndexRing (renumber plan IndexRing table)) device (renumber plan IndexRing table) h.now p.0
      front (inr u) = unread-front plan rose (repair_within plan IndexRing (renumber plan IndexRing table)) device (renumber plan IndexRing table) h.now u.0

  -- it ended well, and then the data ring is mounted
  pub index-mounts : (Remembers : BitmapIndex → Plan → Table → model.Ring → Type 0) (end : Option ℕ) (now : BitmapIndex) (h : outcomes.EndsWell Remembers (first + plan.data_blocks) plan table rose device end now new) → RestsToMount new first plan h.now.state
  index-mounts Remembers end now h =
      left-rests h.now.state h.stands.ring (performed-front plan rose (repair_within plan IndexRing (renumber plan IndexRing table)) device (renumber plan IndexRing table) h.now h.did)
      h.stands.facts h.stands.pages

  pub index-settles : (Remembers : BitmapIndex → Plan → Table → model.Ring → Type 0) (end : Option ℕ) (now : BitmapIndex) (h : outcomes.EndsWell Remembers (first + plan.data_blocks) plan table rose device end now new) → IsSettled plan table → IsSettled plan h.now.state
  index-settles Remembers end now h =
      left-settled h.now.state h.stands.ring (performed-front plan rose (repair_within plan IndexRing (renumber plan IndexRing table)) device (renumber plan IndexRing table) h.now h.did)
      h.stands.facts h.stands.pages
