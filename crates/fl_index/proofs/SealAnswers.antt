-- What an index that is sealed tells of its ring and its bitmaps.
use Rattle.std.proofs.Common.{◌≡◌, inl, inr, Bool, true, false, Ok, IsErr, List, ℕ, ◌+◌, ◌-◌, ◌*◌, ◌^◌, ◌<◌, ◌≤◌, Option, Some, length, drop, replicate, sym, ◌∙◌, ap, subst, arith}
use Rattle.std.proofs.Math.Nat.{mul-le-mul_right, div-add-mod'}
use Rattle.std.specs.Option.{option_map, unwrap_or}
use Rattle.std.proofs.lemmas.Option.{same_Some}
use Rattle.fl_base.specs.Bytes.{splice}
use Rattle.fl_flash.specs.Flash.{FlashState, page_at}
use Rattle.fl_model.specs.Record.{Plan, entry_len, entries_per_page}
use Rattle.fl_model.specs.Ring as model
use Rattle.fl_model.specs.Table.{Table}
use Rattle.fl_model.specs.Layout.{index_body}
use Rattle.fl_ring.specs.Place as place
use Rattle.fl_flash.specs.declared.flash.FlashFault.{FlashFault}
use Rattle.fl_ring.specs.Ring.{RingState, Shape}
use Rattle.fl_ring.specs.Sealing.{SealCalls, ErasesWhere}
use Rattle.fl_ring.specs.declared.ring.Ring.{Ring}
use Rattle.fl_index.specs.declared.index.BitmapIndex.{BitmapIndex}
use Rattle.fl_index.specs.Memory.{next_in, per_page, waiting_in, len_in}
use Rattle.fl_index.specs.Page.{header_bytes}
use Rattle.fl_index.specs.Standing.{Stands}
use Rattle.fl_index.proofs.WaitingEntries.{InFront, plan_form, body-is}
use Rattle.fl_index.specs.declared.page.EntryForm.{EntryForm}
use Rattle.fl_index.proofs.RingInTable.{MakesBody}
use Rattle.fl_index.proofs.State.{HaveSize, IsStateOf, to-state}
use Rattle.fl_index.proofs.SealEnds.{IsSealing, planned-page, planned-form, planned-len, served-shape, some-entries}

pub some-room : (index : BitmapIndex) (len : ℕ) → len ≡ index.firsts.len → 0 < len
some-room index len is =
    let up : 3 * index.geometry.block ≤ index.place.blocks * index.geometry.block = mul-le-mul_right index.geometry.block index.some_blocks in
    omega (arith, is, index.remembered, up, index.served.block_least)

pub sealing-of : (index : BitmapIndex) (f : FlashState) (first : ℕ) (plan : Plan) (table : Table) (ring : Ring) (number : ℕ) → Stands index f first plan table → HaveSize first plan (page_at f) →
    index.ring ≡ Some ring → number ≡ place.next_of ring → next_in index + 1 < 2 ^ 32 → waiting_in index ≡ per_page index →
    IsSealing index f first plan table (splice index.body.items 0 (header_bytes number index.first index.waiting))
sealing-of index f first plan table ring number stands sizes has at left full =
    let in_ring = stands.in_ring in
    let planned = in_ring.planned in
    let found = to-state first plan (page_at f) sizes (served-shape index first plan planned) (some-entries index first plan planned) table in_ring.ring in_ring.facts in_ring.pages in
    let X = planned-page index first plan planned in
    let all : length table.waiting ≡ entries_per_page plan = sym stands.waits.count_is ∙ (full ∙ X) in
    let same_ring : in_ring.in_memory ≡ ring = same_Some _ _ (sym in_ring.memory_is ∙ has) in
    let next : place.next_of ring ≡ in_ring.ring.next = subst (λ (r : Ring). r.next ≡ in_ring.ring.next) same_ring in_ring.next in
    let page_is : index.first ≡ table.rows.next - entries_per_page plan = stands.waits.first_is ∙ ap (λ n. table.rows.next - n) all in
    let size : length index.body.items + 8 ≡ plan.geometry.page = index.page ∙ ap (λ g. g.page) (sym planned.geometry) in
    let w = planned-len index first plan planned in
    let whole : entries_per_page plan * entry_len plan ≤ plan.geometry.page - 24 = omega (arith, div-add-mod' (plan.geometry.page - 24) (entry_len plan)) in
    let blank : drop (16 + entries_per_page plan * entry_len plan) index.body.items ≡ replicate (length index.body.items - (16 + entries_per_page plan * entry_len plan)) 255 =
    subst (λ k. drop (16 + k) index.body.items ≡ replicate (length index.body.items - (16 + k)) 255) (ap (λ n. n * len_in index) X ∙ ap (λ n. entries_per_page plan * n) w) index.blank_rest in
    let gathered : InFront (plan_form plan) (drop 16 index.body.items) table.waiting = subst (λ (form : EntryForm). InFront form (drop 16 index.body.items) table.waiting) (planned-form index first plan planned) stands.waits.gathered in
    let made = body-is plan number index.first index.body.items table.waiting (entries_per_page plan) all size (omega (arith, whole, size, index.served.page_least)) gathered blank in
    let body : splice index.body.items 0 (header_bytes number index.first index.waiting) ≡ index_body plan in_ring.ring.next (table.rows.next - entries_per_page plan) table.waiting =
    ap (λ n. splice index.body.items 0 (header_bytes number index.first n)) (stands.waits.count_is ∙ all) ∙ (made
    ∙ (ap (λ n. index_body plan n index.first table.waiting) (at ∙ next) ∙ ap (λ n. index_body plan in_ring.ring.next n table.waiting) page_is)) in
    record {
      stands = stands;
      sizes = sizes;
      full = all;
      s = found.s;
      is = found.is;
      on = found.on;
      same = same_state found.is.ring (found.is.facts.ring_is) in_ring.ring in_ring.facts.ring_is;
      makes = subst (λ (r : model.Ring). MakesBody plan (splice index.body.items 0 (header_bytes number index.first index.waiting)) table r) (sym (same_state found.is.ring (found.is.facts.ring_is) in_ring.ring in_ring.facts.ring_is))
          (record {
            full = all;
            some = some-entries index first plan planned;
            body_is = body;
            clean = in_ring.clean;
            left = omega (arith, left, next, next_is ring has);
          });
    }
  where
    same_state : (a : model.Ring) → table.index ≡ Some a → (b : model.Ring) → table.index ≡ Some b → a ≡ b
    same_state a x b y = same_Some a b (sym x ∙ y)

    next_is : (r : Ring) → index.ring ≡ Some r → next_in index ≡ place.next_of r
    next_is r e = ap (λ (o : Option Ring). unwrap_or (option_map (λ r. place.next_of r) o) 0) e

-- the number in memory is that of the table's index
pub number-of : (index : BitmapIndex) (f : FlashState) (first : ℕ) (plan : Plan) (table : Table) (ring : Ring) (number : ℕ) → Stands index f first plan table → index.ring ≡ Some ring → number ≡ place.next_of ring →
    (s : RingState) (is : IsStateOf plan table s) → number ≡ is.ring.next
number-of index f first plan table ring number stands has at s is =
    let in_ring = stands.in_ring in
    let next : place.next_of ring ≡ in_ring.ring.next = subst (λ (r : Ring). r.next ≡ in_ring.ring.next) (same_Some _ _ (sym in_ring.memory_is ∙ has)) in_ring.next in
    at ∙ (next ∙ ap (λ (r : model.Ring). r.next) (same_Some _ _ (sym in_ring.facts.ring_is ∙ is.facts.ring_is)))

-- the power is on after a seal that went well
pub seal-on : (r : Shape) (next : ℕ) (due : Bool) (body : List ℕ) (u : Unit {0}) (old new : FlashState) → SealCalls r next due body old (Ok u) new → new.is_on ≡ true
seal-on r next due body u old new (inl h) = by_due due h.erase_last
  where
    by_due : (due : Bool) → ErasesWhere r next due h.marked (Ok u) new → new.is_on ≡ true
    by_due true e = e.erases.cause.on
    by_due false e = ap (λ (f : FlashState). f.is_on) e.1 ∙ h.mark_then.cause.on
seal-on r next due body u old new (inr (inl h)) = absurd (not_err h.fails)
  where
    not_err : IsErr {T = Unit {0}} {E = FlashFault} (Ok u) → ⊥
    not_err e = cc
seal-on r next due body u old new (inr (inr h)) = absurd (not_err h.fails)
  where
    not_err : IsErr {T = Unit {0}} {E = FlashFault} (Ok u) → ⊥
    not_err e = cc
