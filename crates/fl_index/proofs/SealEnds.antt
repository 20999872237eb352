-- How the seal of an index page ends, by what it did to the ring.
use Rattle.std.proofs.Common.{◌≡◌, ◌≢◌, ◌⊎◌, inl, inr, ℕ, suc, ◌+◌, ◌-◌, ◌*◌, ◌/◌, ◌%◌, ◌<◌, ◌≤◌, Bool, cond, ◌==◌, IsTrue, Option, Some, None, IfSome, Ok, Err, List, [], ◌∷◌, ◌++◌, length, take, drop, get_or, set, sum, refl, sym, ◌∙◌, ap, subst, arith, length-take, get_or-set_other, get_or-set_same, not-suc-le-zero}
use Rattle.std.proofs.lemmas.Bool.{cases_lt}
use Rattle.std.proofs.lemmas.List.{take-take, drop-take}
use Rattle.std.proofs.lemmas.List.Sums.{sum_by-take-drop, sum_by-cons}
use Rattle.std.proofs.Math.Nat.{mod-lt, add-mul, div-add-mod'}
use Rattle.std.specs.List.{slice_get}
use Rattle.std.specs.Option.{option_map, unwrap_or}
use Rattle.std.proofs.lemmas.Option.{none-some, same_Some}
use Rattle.fl_base.proofs.Tests.{not_zero}
use Rattle.fl_bitmap.proofs.Widths.{widths}
use Rattle.fl_bitmap.specs.Widths.{is_bits}
use Rattle.fl_flash.specs.Flash.{FlashState, page_at}
use Rattle.fl_flash.specs.Places.{extent}
use Rattle.fl_flash.specs.declared.flash.FlashFault.{FlashFault}
use Rattle.fl_model.specs.Agrees.{TellPages, TellsAt, is_told}
use Rattle.fl_model.specs.Layout.{IndexPage, IndexEntry}
use Rattle.fl_model.specs.Record.{Plan, entry_len, entries_per_page}
use Rattle.fl_model.specs.Ring as model
use Rattle.fl_model.specs.Table.{Table, Entry, IndexRing, shape_of, full_pages, after_seal, lose, firsts}
use Rattle.fl_model.specs.Image.{rows_at}
use Rattle.fl_model.specs.Work.{Device, PartEnd}
use Rattle.fl_model.specs.Within.{seal_within}
use Rattle.fl_model.proofs.Lists.{slice_get-drop, slice_get-push, slice_get-left, slice_get-short, slice_get-last}
use Rattle.fl_model.proofs.Sealed.{sealed-torn}
use Rattle.fl_ring.specs.Counts.{ring_counts}
use Rattle.fl_ring.specs.Mounting.{shape_at}
use Rattle.fl_ring.specs.Operations.{change, seal_kinds}
use Rattle.fl_ring.specs.Place as place
use Rattle.fl_ring.specs.Place.{StandsFor}
use Rattle.fl_ring.specs.Ring.{Shape, RingState, OnRing, IsShape, count, oldest, sealed, place as place_at}
use Rattle.fl_ring.specs.Sealing.{Performed, IsReady}
use Rattle.fl_ring.specs.declared.ring.Ring.{Ring}
use Rattle.fl_ring.proofs.InTable.{TableAnswers, all-whole, answers-fault}
use Rattle.fl_ring.proofs.Lengths.{ring_lengths}
use Rattle.fl_ring.proofs.Modulo.{apart}
use Rattle.fl_ring.proofs.SealSteps.{whole_end}
use Rattle.fl_ring.proofs.Whole.{whole_seal}
use Rattle.fl_index.specs.declared.index.BitmapIndex.{BitmapIndex}
use Rattle.fl_index.specs.Memory.{IsPlanned, IsSamePlan, first_in, first_waiting, waiting_in, form_in, len_in, per_page}
use Rattle.fl_index.specs.Standing.{HasIndex, HoldsIndex, Rests, StandsForRing, Stands, bytes_in}
use Rattle.fl_index.specs.Outcomes.{FaultEnds, Finishes, Breaks}
use Rattle.fl_model.proofs.FullPages.{full-pushed, full-last, full-within}
use Rattle.fl_index.specs.Page.{form_len}
use Rattle.fl_index.proofs.Lists.{firsts-length, firsts-get, firsts-append, firsts_of}
use Rattle.fl_index.proofs.WaitingEntries.{none-in, plan_form, width-le, width-le22}
use Rattle.fl_index.proofs.State.{shape_in, HaveSize, full_count, IsStateOf, holds-moved, to-index}
use Rattle.fl_index.proofs.RingInTable.{MakesBody, seal-lifts, seal-whole, index-shift, page_waited}
use Rattle.fl_index.proofs.Memories.{planned-same}
use Rattle.fl_index.proofs.KeptPagesStay.{seal-stands}

-- the answer to a failed operation
pub fault-ends : (e : PartEnd Table) (fault : FlashFault) (new : FlashState) → TableAnswers e (Err fault) new → FaultEnds e fault new
fault-ends e fault new a = answers-fault (λ (x : PartEnd Table). FaultEnds x fault new) fault new (λ before h. h) (λ before h. h) e a

-- what the plan of an index says of its ring
module _ (index : BitmapIndex) (first : ℕ) (plan : Plan) (h : IsPlanned index first plan) where
  pub planned-shape : model.IsShape (shape_of plan IndexRing)
  planned-shape = record {
    blocks = omega (arith, h.blocks, index.some_blocks);
    pages = omega (arith, ap (λ g. g.block) h.geometry, index.served.block_least);
  }

  pub planned-large : 64 ≤ plan.geometry.page
  planned-large = omega (arith, ap (λ g. g.page) h.geometry, index.served.page_least)

  pub served-shape : IsShape (shape_in first plan)
  served-shape = record { blocks = planned-shape.blocks; per_block = planned-shape.pages; size = planned-large }

  pub planned-ring : shape_at index.place index.geometry ≡ shape_in first plan
  planned-ring = rw (h.begins, h.geometry, h.blocks) refl

  pub planned-bits : IsTrue (is_bits plan.bits)
  planned-bits = subst (λ n. IsTrue (is_bits n)) (sym h.bits) index.some_bits

  pub planned-form : form_in index ≡ plan_form plan
  planned-form = rw (h.bits, h.full) refl

  pub planned-len : len_in index ≡ entry_len plan
  planned-len = ap form_len planned-form

  pub planned-page : per_page index ≡ entries_per_page plan
  planned-page = ap (λ n. (n - 24) / len_in index) (ap (λ g. g.page) (sym h.geometry)) ∙ ap (λ n. (plan.geometry.page - 24) / n) planned-len

  pub planned-widths : (1 ≤ plan.bits / 8) × (plan.bits / 8 ≤ 8)
  planned-widths = widths plan.bits planned-bits

  -- an index page holds some entry
  pub some-entries : 0 < entries_per_page plan
  some-entries =
      let most = width-le22 (plan_form plan) planned-widths.1 in
      let least = width-le (plan_form plan) in
      by_len (entry_len plan) (omega (arith, least, planned-widths.0)) most
    where
      by_len : (w : ℕ) → 1 ≤ w → w ≤ 22 → 0 < (plan.geometry.page - 24) / w
      by_len w some few = elim (cases_lt 0 ((plan.geometry.page - 24) / w)) [
        | inl some ↦ some
        | inr none ↦
            let zero_is : (plan.geometry.page - 24) / w ≡ 0 = omega (arith, none) in
            let small = mod-lt (plan.geometry.page - 24) some in
            let whole = div-add-mod' (plan.geometry.page - 24) w in
            let nothing : (plan.geometry.page - 24) / w * w ≡ 0 = ap (λ n. n * w) zero_is ∙ omega arith in
            absurd (omega (arith, whole, nothing, small, few, planned-large))
      ]

-- the pages of a flash on which it lies have their size
pub lies-size : (index : BitmapIndex) (f : FlashState) (first : ℕ) (plan : Plan) → IsPlanned index first plan → f.geometry ≡ index.geometry → index.place.first_block + index.place.blocks ≤ f.blocks → f.start + extent f.geometry f.blocks ≤ length f.media.content →
    HaveSize first plan (page_at f)
lies-size index f first plan h geometry within reaches =
    let some = planned-shape index first plan h in
    ring_lengths f plan.geometry first plan.index_blocks reaches (geometry ∙ sym h.geometry) (omega (arith, h.begins, h.blocks, within)) (omega (arith, some.blocks)) (omega (arith, some.pages))

-- rows that are not pending stand before those that are
pub rows-lost : (table : Table) → sum table.rows.counts + table.pending ≡ length table.entries → (n rows : ℕ) → slice_get table.rows.counts n ≡ Some rows → rows_at (lose table) n rows ≡ rows_at table n rows
rows-lost table counted n rows e =
    let before = sum (take n table.rows.counts) in
    let all = sum_by-take-drop (λ (k : ℕ). k) table.rows.counts n in
    let some = first_counts (drop n table.rows.counts) (slice_get-drop n table.rows.counts 0 ∙ (ap (slice_get table.rows.counts) (let k : n + 0 ≡ n = omega arith in k) ∙ e)) in
    let last = length table.entries - table.pending in
    let rest : before + (last - before) ≡ last = omega (arith, all, some, counted) in
    ap (λ k. take rows (drop before (take k table.entries))) (sym rest)
    ∙ (ap (take rows) (drop-take before (last - before) table.entries) ∙ take-take rows (last - before) (drop before table.entries) (omega (arith, all, some, counted)))
  where
    first_counts : (xs : List ℕ) → slice_get xs 0 ≡ Some rows → rows ≤ sum xs
    first_counts [] e = absurd (none-some rows e)
    first_counts (x ∷ xs) e = let same : x ≡ rows = cc in omega (arith, same, sum_by-cons (λ (k : ℕ). k) x xs)

-- what entries tell they tell where the pending rows are lost
tell-lost : (plan : Plan) (table : Table) → sum table.rows.counts + table.pending ≡ length table.entries → (first : ℕ) (entries : List IndexEntry) → TellPages plan table first entries → TellPages plan (lose table) first entries
tell-lost plan table counted first entries h j n lt e = by_count (slice_get table.rows.counts n) refl (h j n lt e)
  where
    by_count : (c : Option ℕ) → slice_get table.rows.counts n ≡ c → IfSome c (λ count. IsTrue (is_told plan count) → TellsAt plan (rows_at table n count) (slice_get entries j)) →
        IfSome c (λ count. IsTrue (is_told plan count) → TellsAt plan (rows_at (lose table) n count) (slice_get entries j))
    by_count None k h = tt
    by_count (Some count) k h = λ told. subst (λ (rows : List Entry). TellsAt plan rows (slice_get entries j)) (sym (rows-lost table counted n count k)) (h told)

-- the same pages hold what is left where the pending rows and the waiting entries are lost
pub lost-rests : (f : FlashState) (first : ℕ) (plan : Plan) (table : Table) (ring : model.Ring) → HasIndex plan table ring → HoldsIndex (page_at f) first plan table ring → Rests f first plan (lose table)
lost-rests f first plan table ring facts image = record {
  ring = ring;
  facts = record {
    ring_is = facts.ring_is;
    is_ring = facts.is_ring;
    counts = facts.counts;
    index_each = facts.index_each;
    index_fit = facts.index_fit;
    firsts = facts.firsts;
    waiting = omega arith;
    listed = omega (arith, facts.listed);
    tell = λ k page e. tell-lost plan table facts.counted page.first page.entries (facts.tell k page e);
    wait = λ j n lt e. absurd (not-suc-le-zero lt);
    counted = omega (arith, facts.counted, length-take (length table.entries - table.pending) table.entries);
    number = facts.number;
    rows_number = facts.rows_number;
  };
  idle = refl;
  pages = record {
    void = image.void;
    kept = λ i c e some. holds-moved plan table (lose table) ring ring i i c (bytes_in (page_at f) first plan (model.oldest ring + i)) refl (λ x h. h) (image.kept i c e some);
    blank_next = image.blank_next;
    torn_next = image.torn_next;
    dirty = image.dirty;
    others = image.others;
  };
}

-- a ring keeps fewer pages than it has
pub few-kept : (shape : model.Shape) (ring : model.Ring) → model.IsShape shape → model.IsRing shape ring → length ring.counts < shape.blocks * shape.pages
few-kept shape ring s facts =
    let small : ring.next % shape.pages < shape.pages = mod-lt ring.next (let k : 0 < shape.pages = omega (arith, s.pages) in k) in
    let last : (shape.blocks - 1 + 1) * shape.pages ≡ (shape.blocks - 1) * shape.pages + shape.pages = add-mul (shape.blocks - 1) 1 shape.pages ∙ omega arith in
    let same : shape.blocks - 1 + 1 ≡ shape.blocks = omega (arith, s.blocks) in
    omega (arith, facts.kept, small, last, ap (λ n. n * shape.pages) same)

-- The first data pages that are remembered after a page was sealed; `by` pages were given up.
module _ (shape : model.Shape) (is_shape : model.IsShape shape) (ring last : model.Ring) (facts : model.IsRing shape ring) (firsts after : List ℕ) (X page : ℕ) (some : 0 < X) (as_many : length firsts ≡ full_pages ring.counts)
    (by : ℕ) (counts : (i : ℕ) → slice_get last.counts i ≡ slice_get (ring.counts ++ X ∷ []) (by + i)) (old : (i : ℕ) → model.oldest last + i ≡ model.oldest ring + (by + i))
    (listed : (i : ℕ) → slice_get after (full_pages (take i last.counts)) ≡ slice_get (firsts ++ page ∷ []) (full_pages (take (by + i) (ring.counts ++ X ∷ []))))
    (items : List (Option ℕ)) (rooms : length items ≡ shape.blocks * shape.pages)
    (were : (i c : ℕ) → slice_get ring.counts i ≡ Some c → get_or items ((model.oldest ring + i) % length items) None ≡ cond (c == 0) None (slice_get firsts (full_pages (take i ring.counts)))) where
  few : length ring.counts < length items
  few = omega (arith, few-kept shape ring is_shape facts, rooms)

  at_grown : (j c : ℕ) → slice_get (ring.counts ++ X ∷ []) j ≡ Some c →
      get_or (set items (ring.next % length items) (Some page)) ((model.oldest ring + j) % length items) None ≡ cond (c == 0) None (slice_get (firsts ++ page ∷ []) (full_pages (take j (ring.counts ++ X ∷ []))))
  at_grown j c e = by_place (slice_get-push ring.counts X j c e)
    where
      older : j < length ring.counts → slice_get ring.counts j ≡ Some c → (0 < c) ⊎ (c ≤ 0) →
          cond (c == 0) None (slice_get firsts (full_pages (take j ring.counts))) ≡ cond (c == 0) None (slice_get (firsts ++ page ∷ []) (full_pages (take j (ring.counts ++ X ∷ []))))
      older lt k (inl more) =
          ap (λ (o : Option ℕ). cond (c == 0) None o) (sym (ap (slice_get (firsts ++ page ∷ [])) (full-pushed ring.counts (X ∷ []) j (omega (arith, lt)))
          ∙ slice_get-left firsts (page ∷ []) (full_pages (take j ring.counts)) (let w = full-within ring.counts j c lt k more in omega (arith, w, as_many))))
      older lt k (inr none) = let z : c ≡ 0 = omega (arith, none) in
          subst (λ n. cond (n == 0) None (slice_get firsts (full_pages (take j ring.counts))) ≡ cond (n == 0) None (slice_get (firsts ++ page ∷ []) (full_pages (take j (ring.counts ++ X ∷ []))))) (sym z) refl

      by_place : (slice_get ring.counts j ≡ Some c) ⊎ ((j ≡ length ring.counts) × (X ≡ c)) →
          get_or (set items (ring.next % length items) (Some page)) ((model.oldest ring + j) % length items) None ≡ cond (c == 0) None (slice_get (firsts ++ page ∷ []) (full_pages (take j (ring.counts ++ X ∷ []))))
      by_place (inl k) =
          let lt = slice_get-short ring.counts j c k in
          let ne : (model.oldest ring + j) % length items ≢ ring.next % length items =
          apart (length items) (model.oldest ring + j) ring.next (omega (arith, lt, facts.not_negative)) (omega (arith, lt, few, facts.not_negative)) in
          get_or-set_other items (ring.next % length items) ((model.oldest ring + j) % length items) (Some page) None ne ∙ (were j c k ∙ older lt k (cases_lt 0 c))
      by_place (inr k) =
          let at : model.oldest ring + j ≡ ring.next = omega (arith, k.0, facts.not_negative) in
          let within : ring.next % length items < length items = mod-lt ring.next (omega (arith, few)) in
          ap (λ n. get_or (set items (ring.next % length items) (Some page)) (n % length items) None) at
          ∙ (get_or-set_same items (ring.next % length items) (Some page) None within
          ∙ (sym (slice_get-last firsts page)
          ∙ (ap (slice_get (firsts ++ page ∷ [])) (as_many ∙ (sym (full-last ring.counts (X ∷ [])) ∙ ap (λ n. full_pages (take n (ring.counts ++ X ∷ []))) (sym k.0)))
          ∙ ap (λ (b : Bool). cond b None (slice_get (firsts ++ page ∷ []) (full_pages (take j (ring.counts ++ X ∷ []))))) (sym (not_zero c (omega (arith, k.1, some)))))))

  pub remembered-last : (i c : ℕ) → slice_get last.counts i ≡ Some c →
      get_or (set items (ring.next % length items) (Some page)) ((model.oldest last + i) % length items) None ≡ cond (c == 0) None (slice_get after (full_pages (take i last.counts)))
  remembered-last i c e =
      ap (λ n. get_or (set items (ring.next % length items) (Some page)) (n % length items) None) (old i)
      ∙ (at_grown (by + i) c (sym (counts i) ∙ e) ∙ ap (λ (o : Option ℕ). cond (c == 0) None o) (sym (listed i)))

-- the first data pages after a seal
abbrev sealed_firsts : Plan → Table → model.Ring → List ℕ
sealed_firsts plan table ring = firsts_of (drop (full_pages (model.given_up (shape_of plan IndexRing) (entries_per_page plan) ring)) table.index_pages ++ page_waited plan table ∷ [])

firsts_are : (plan : Plan) (table : Table) (ring : model.Ring) → table.index ≡ Some ring → sealed_firsts plan table ring ≡ firsts (after_seal plan IndexRing table)
firsts_are plan table ring is =
    ap (λ (o : Option model.Ring). firsts_of (drop (full_pages (unwrap_or (option_map (model.given_up (shape_of plan IndexRing) (entries_per_page plan)) o) [])) table.index_pages ++ page_waited plan table ∷ [])) (sym is)

-- what is known of an index that is about to seal
pub record IsSealing (index : BitmapIndex) (f : FlashState) (first : ℕ) (plan : Plan) (table : Table) (body : List ℕ) : Type 0 where
  pub stands : Stands index f first plan table
  pub sizes : HaveSize first plan (page_at f)
  pub full : length table.waiting ≡ entries_per_page plan
  pub s : RingState
  pub is : IsStateOf plan table s
  pub on : OnRing (shape_in first plan) (page_at f) s
  pub same : is.ring ≡ stands.in_ring.ring
  pub makes : MakesBody plan body table is.ring

module _ (index : BitmapIndex) (f : FlashState) (first : ℕ) (plan : Plan) (table : Table) (body : List ℕ) (h : IsSealing index f first plan table body) where
  abbrev planned : IsPlanned index first plan
  planned = h.stands.in_ring.planned

  shape : model.IsShape (shape_of plan IndexRing)
  shape = planned-shape index first plan h.stands.in_ring.planned

  some : 0 < entries_per_page plan
  some = some-entries index first plan h.stands.in_ring.planned

  state_next : h.s.next ≡ h.is.ring.next
  state_next = sym (ap (λ (r : model.Ring). r.next) h.is.counts)

  state_len : count h.s ≡ length h.is.ring.counts
  state_len = sym (ap (λ (r : model.Ring). length r.counts) h.is.counts ∙ counted h.s.kept)
    where
      counted : (kept : List (Option (List ℕ))) → length (ring_counts (full_count plan) (record h.s { kept = kept })).counts ≡ length kept
      counted [] = refl
      counted (y ∷ kept) = ap suc (counted kept)

  -- the ring is ready for the seal
  pub seal-ready : (ring : Ring) → index.ring ≡ Some ring → place.shape_of ring ≡ shape_in first plan → IsReady ring f h.s
  seal-ready ring has at =
      let same : h.stands.in_ring.in_memory ≡ ring = same_Some _ _ (sym h.stands.in_ring.memory_is ∙ has) in
      record {
        stands = record {
          next = subst (λ (r : Ring). r.next ≡ h.s.next) same (h.stands.in_ring.next ∙ (ap (λ (r : model.Ring). r.next) (sym h.same) ∙ sym state_next));
          oldest = subst (λ (r : Ring). r.oldest ≡ h.s.next - count h.s) same (h.stands.in_ring.oldest_is ∙ (ap (λ (r : model.Ring). model.oldest r) (sym h.same) ∙ omega (arith, state_next, state_len)));
        };
        on = subst (λ (r : Shape). OnRing r (page_at f) h.s) (sym at) h.on;
        whole = ap (λ (r : model.Ring). r.torn) (sym h.is.counts ∙ h.same) ∙ h.stands.in_ring.whole;
        clean = ap (λ (r : model.Ring). r.dirty) (sym h.is.counts ∙ h.same) ∙ h.stands.in_ring.clean;
      }

  module _ (rose : Bool) (device : Device) (new : FlashState) (sizes : HaveSize first plan (page_at new)) where
    -- an operation of it failed
    pub seal-breaks : (fault : FlashFault) →
        Performed (shape_in first plan) (change (shape_in first plan) body) rose (seal_kinds (shape_in first plan) h.s body) device h.s (Err fault) new →
        Breaks first plan (seal_within plan IndexRing table) table rose device fault new
    seal-breaks fault p =
        let l = seal-lifts first plan body table h.s h.is rose device (Err fault) new shape h.makes p in
        record {
          now = l.now;
          did = l.did;
          answer = fault-ends l.now.end fault new l.answer;
          counts = l.counts;
          rests = lost-rests new first plan l.now.state l.is.state.ring l.is.state.facts
              (to-index first plan (page_at new) sizes (served-shape index first plan h.stands.in_ring.planned) some l.now.state p.now.state l.is.state p.on);
        }

    -- all were done
    pub seal-finishes : (after : Ring) (u : Unit {0}) (now : BitmapIndex) →
        (p : Performed (shape_in first plan) (change (shape_in first plan) body) rose (seal_kinds (shape_in first plan) h.s body) device h.s (Ok u) new) →
        StandsFor after p.now.state → IsSamePlan index now → now.ring ≡ Some after → waiting_in now ≡ 0 → first_waiting now ≡ first_waiting index + waiting_in index →
        now.firsts.items ≡ set index.firsts.items (h.is.ring.next % length index.firsts.items) (Some (first_waiting index)) →
        ((n : ℕ) → oldest (sealed (shape_in first plan) h.s body) ≤ n → n < h.s.next → page_at new (place_at (shape_in first plan) n) ≡ page_at f (place_at (shape_in first plan) n)) →
        Finishes first plan (seal_within plan IndexRing table) table (after_seal plan IndexRing table) rose device now f new
    seal-finishes after u now p stands same ring_now none moved remembered keeps =
        let l = seal-lifts first plan body table h.s h.is rose device (Ok u) new shape h.makes p in
        let all = all-whole l.now.end u new l.answer in
        let whole = seal-whole plan table rose device l.now l.did all.0 in
        let state : IsStateOf plan (after_seal plan IndexRing table) p.now.state = subst (λ (t : Table). IsStateOf plan t p.now.state) whole l.is.state in
        let planned_now = planned-same index now first plan h.stands.in_ring.planned same in
        let last = last_ring_is state in
        let page_is : first_waiting index ≡ table.rows.next - entries_per_page plan = h.stands.waits.first_is ∙ ap (λ n. table.rows.next - n) h.full in
        record {
          now = l.now;
          did = l.did;
          whole = all.0;
          counts = l.counts;
          power = all.1;
          stand = seal-stands first plan body table h.s h.is (page_at f) (page_at new) (served-shape index first plan h.stands.in_ring.planned) h.on.ring keeps (after_seal plan IndexRing table) p.now.state
              (whole_seal (shape_in first plan) h.s body rose device p.now p.did (whole_end p.now.end u new p.answer)) state;
          stands = record {
            in_ring = record {
              planned = planned_now;
              ring = state.ring;
              facts = state.facts;
              whole = ap (λ (r : model.Ring). r.torn) last ∙ sealed-torn (shape_of plan IndexRing) (entries_per_page plan) h.is.ring;
              clean = ap (λ (r : model.Ring). r.dirty) last;
              pages = to-index first plan (page_at new) sizes (served-shape index first plan h.stands.in_ring.planned) some (after_seal plan IndexRing table) p.now.state state p.on;
              in_memory = after;
              memory_is = ring_now;
              next = stands.next ∙ ap (λ (r : model.Ring). r.next) (sym state.counts);
              oldest_is = stands.oldest ∙ oldest_of state;
              first_of = λ i c e. first_of now planned_now (remembered ∙ ap (λ n. set index.firsts.items (h.is.ring.next % length index.firsts.items) (Some n)) page_is) state.ring last i c e;
            };
            waits = record {
              first_is = moved ∙ omega (arith, page_is, h.full, h.stands.waits.count_is, h.is.facts.listed);
              count_is = none;
              gathered = none-in (form_in now) (drop 16 now.body.items);
            };
          };
        }
      where
        last_ring_is : (state : IsStateOf plan (after_seal plan IndexRing table) p.now.state) → state.ring ≡ model.erased (model.sealed (shape_of plan IndexRing) (entries_per_page plan) h.is.ring)
        last_ring_is state =
            same_Some _ _ (sym state.facts.ring_is ∙ ap (λ (o : Option model.Ring). option_map model.erased (option_map (model.sealed (shape_of plan IndexRing) (entries_per_page plan)) o)) h.is.facts.ring_is)

        oldest_of : (state : IsStateOf plan (after_seal plan IndexRing table) p.now.state) → p.now.state.next - count p.now.state ≡ model.oldest state.ring
        oldest_of state = ap (λ n. p.now.state.next - n) (sym (counted p.now.state.kept)) ∙ ap (λ (r : model.Ring). model.oldest r) (sym state.counts)
          where
            counted : (kept : List (Option (List ℕ))) → length (ring_counts (full_count plan) (record p.now.state { kept = kept })).counts ≡ length kept
            counted [] = refl
            counted (y ∷ kept) = ap suc (counted kept)

        rooms : (index : BitmapIndex) → IsPlanned index first plan → (length index.firsts.items ≡ plan.index_blocks * plan.geometry.block) × (index.firsts.len ≡ plan.index_blocks * plan.geometry.block)
        rooms index a =
            let n : index.firsts.len ≡ plan.index_blocks * plan.geometry.block = index.remembered ∙ rw (a.blocks, a.geometry) refl in
            (sym index.firsts.ok.0 ∙ n, n)

        first_of : (now : BitmapIndex) → IsPlanned now first plan → now.firsts.items ≡ set index.firsts.items (h.is.ring.next % length index.firsts.items) (Some (table.rows.next - entries_per_page plan)) →
            (r : model.Ring) → r ≡ model.erased (model.sealed (shape_of plan IndexRing) (entries_per_page plan) h.is.ring) →
            (i c : ℕ) → slice_get r.counts i ≡ Some c → first_in now (model.oldest r + i) ≡ cond (c == 0) None (slice_get (firsts (after_seal plan IndexRing table)) (full_pages (take i r.counts)))
        first_of now planned_now is r last i c e =
            let X = entries_per_page plan in
            let page = table.rows.next - entries_per_page plan in
            let a = rooms now planned_now in
            let b = rooms index h.stands.in_ring.planned in
            let shift = index-shift first plan body table h.s h.is shape h.makes in
            let e' : slice_get (model.sealed (shape_of plan IndexRing) (entries_per_page plan) h.is.ring).counts i ≡ Some c = ap (λ (r : model.Ring). slice_get r.counts i) (sym last) ∙ e in
            let pages = drop (full_pages (model.given_up (shape_of plan IndexRing) (entries_per_page plan) h.is.ring)) table.index_pages ++ page_waited plan table ∷ [] in
            let firsts_shifted : (j : ℕ) → slice_get (sealed_firsts plan table h.is.ring) (full_pages (take j (model.sealed (shape_of plan IndexRing) (entries_per_page plan) h.is.ring).counts))
            ≡ slice_get (firsts table ++ page ∷ []) (full_pages (take (shift.by + j) (h.is.ring.counts ++ X ∷ []))) =
            λ j. firsts-get pages (full_pages (take j (model.sealed (shape_of plan IndexRing) (entries_per_page plan) h.is.ring).counts))
            ∙ (ap (option_map (λ (p : IndexPage). p.first)) (shift.listed j)
            ∙ (sym (firsts-get (table.index_pages ++ page_waited plan table ∷ []) (full_pages (take (shift.by + j) (h.is.ring.counts ++ X ∷ []))))
            ∙ ap (λ (fs : List ℕ). slice_get fs (full_pages (take (shift.by + j) (h.is.ring.counts ++ X ∷ [])))) (firsts-append table.index_pages (page_waited plan table ∷ [])))) in
            let old_memory : StandsForRing index f first plan table = h.stands.in_ring in
            ap (λ n. get_or now.firsts.items ((model.oldest r + i) % n) None) (a.1 ∙ sym b.0)
            ∙ (ap (λ (xs : List (Option ℕ)). get_or xs ((model.oldest r + i) % length index.firsts.items) None) is
            ∙ (ap (λ (r : model.Ring). get_or (set index.firsts.items (h.is.ring.next % length index.firsts.items) (Some (table.rows.next - entries_per_page plan))) ((model.oldest r + i) % length index.firsts.items) None) last
            ∙ (remembered-last (shape_of plan IndexRing) shape h.is.ring (model.sealed (shape_of plan IndexRing) (entries_per_page plan) h.is.ring) h.is.facts.is_ring (firsts table) (sealed_firsts plan table h.is.ring) (entries_per_page plan) (table.rows.next - entries_per_page plan) some (firsts-length table.index_pages ∙ h.is.facts.index_each)
            shift.by shift.counts shift.old firsts_shifted index.firsts.items b.0
            (λ j d k. ap (λ n. get_or index.firsts.items ((model.oldest h.is.ring + j) % n) None) (b.0 ∙ sym b.1)
            ∙ (ap (λ (r : model.Ring). first_in index (model.oldest r + j)) h.same
            ∙ (old_memory.first_of j d (ap (λ (r : model.Ring). slice_get r.counts j) (sym h.same) ∙ k) ∙ ap (λ (r : model.Ring). cond (d == 0) None (slice_get (firsts table) (full_pages (take j r.counts)))) (sym h.same))))
            i c e'
            ∙ (ap (λ (fs : List ℕ). cond (c == 0) None (slice_get fs (full_pages (take i (model.sealed (shape_of plan IndexRing) (entries_per_page plan) h.is.ring).counts)))) (firsts_are plan table h.is.ring h.is.facts.ring_is)
            ∙ ap (λ (r : model.Ring). cond (c == 0) None (slice_get (firsts (after_seal plan IndexRing table)) (full_pages (take i r.counts)))) (sym last)))))
