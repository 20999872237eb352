-- What stays of an index in memory where its waiting entries change.
use Rattle.std.proofs.Common.{◌≡◌, ℕ, ◌+◌, ◌-◌, ◌*◌, ◌%◌, ◌<◌, ◌≤◌, None, get_or, length, sym, ◌∙◌, ap, arith}
use Rattle.std.proofs.Math.Nat.{add-mul, mul-le-mul_right, div-add-mod'}
use Rattle.fl_flash.specs.Flash.{FlashState}
use Rattle.fl_model.specs.Record.{Plan}
use Rattle.fl_model.specs.Table as model
use Rattle.fl_index.specs.declared.index.BitmapIndex.{BitmapIndex}
use Rattle.fl_index.specs.Memory.{IsPlanned, IsSamePlan, IsSameRing, first_in, per_page, len_in}
use Rattle.fl_index.specs.Standing.{StandsForRing}

pub planned-same : (old new : BitmapIndex) (first : ℕ) (plan : Plan) → IsPlanned old first plan → IsSamePlan old new → IsPlanned new first plan
planned-same old new first plan h same = record {
  geometry = h.geometry ∙ sym same.geometry;
  begins = ap (λ p. p.first_block) same.place ∙ h.begins;
  blocks = h.blocks ∙ sym (ap (λ p. p.blocks) same.place);
  bits = h.bits ∙ sym same.bits;
  full = h.full ∙ sym same.full;
}

pub ring-same : (old new : BitmapIndex) (f : FlashState) (first : ℕ) (plan : Plan) (table : model.Table) → IsSamePlan old new → IsSameRing old new → StandsForRing old f first plan table → StandsForRing new f first plan table
ring-same old new f first plan table same still h = record {
  planned = planned-same old new first plan h.planned same;
  ring = h.ring;
  facts = h.facts;
  whole = h.whole;
  clean = h.clean;
  pages = h.pages;
  in_memory = h.in_memory;
  memory_is = still.ring ∙ h.memory_is;
  next = h.next;
  oldest_is = h.oldest_is;
  first_of = λ i count e. remembered i ∙ h.first_of i count e;
}
  where
    remembered : (i : ℕ) → first_in new (h.ring.next - length h.ring.counts + i) ≡ first_in old (h.ring.next - length h.ring.counts + i)
    remembered i = ap (λ v. get_or v.items ((h.ring.next - length h.ring.counts + i) % v.len) None) still.firsts

-- there is room for one entry more
pub entry-room : (index : BitmapIndex) → index.waiting < per_page index → 16 + index.waiting * len_in index + len_in index ≤ length index.body.items
entry-room index few =
    let w = len_in index in
    let up : (index.waiting + 1) * w ≤ per_page index * w = mul-le-mul_right w (let k : index.waiting + 1 ≤ per_page index = omega (arith, few) in k) in
    let split : (index.waiting + 1) * w ≡ index.waiting * w + 1 * w = add-mul index.waiting 1 w in
    let whole : per_page index * w ≤ index.geometry.page - 24 = omega (arith, div-add-mod' (index.geometry.page - 24) w) in
    omega (arith, up, split, whole, index.page, index.served.page_least)
