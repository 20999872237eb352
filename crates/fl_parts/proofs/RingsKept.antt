-- How many pages the index and the variable data of a table keep in memory, of the table of the model for which they stand.
use Rattle.std.proofs.Common.{◌≡◌, ℕ, ◌-◌, ◌≤◌, Option, Some, None, option_map, unwrap_or, length, refl, sym, ◌∙◌, ap, arith}
use Rattle.std.specs.Prelude.{nat_lt}
use Rattle.std.proofs.lemmas.Bool.{true≢false}
use Rattle.fl_flash.specs.Flash.{FlashState}
use Rattle.fl_index.specs.Memory as of_index
use Rattle.fl_index.specs.declared.index.BitmapIndex.{BitmapIndex}
use Rattle.fl_model.specs.Facts.{is_some_ring}
use Rattle.fl_model.specs.Record.{Plan}
use Rattle.fl_model.specs.Ring.{Ring, oldest}
use Rattle.fl_model.specs.Table as model
use Rattle.fl_ring.specs.Place.{next_of, oldest_of}
use Rattle.fl_ring.specs.declared.ring.Ring as code
use Rattle.fl_var.specs.Memory as of_var
use Rattle.fl_var.specs.declared.var_data.VarData.{VarData}
use Rattle.fl_parts.specs.Bitmaps as bitmaps
use Rattle.fl_parts.specs.Blobs as variable
use Rattle.fl_parts.specs.Rings.{index_pages, blob_pages, oldest_page}

-- no ring has no pages
pub no-ring : (of : Ring → ℕ) (ring : Option Ring) (blocks : ℕ) → is_some_ring ring ≡ nat_lt 0 blocks → blocks ≡ 0 → option_map of ring ≡ None
no-ring of None blocks has none = refl
no-ring of (Some ring) blocks has none = absurd (true≢false (has ∙ ap (nat_lt 0) none))

pub kept-length : (next old : ℕ) (ring : Ring) → length ring.counts ≤ ring.next → next ≡ ring.next → old ≡ oldest ring → next - old ≡ length ring.counts
kept-length next old ring few next_is old_is = omega (arith, few, next_is, old_is)

pub index-kept : (o : Option BitmapIndex) (f : FlashState) (first : ℕ) (plan : Plan) (table : model.Table) → bitmaps.ArePlanned o first plan → is_some_ring table.index ≡ nat_lt 0 plan.index_blocks → bitmaps.Stand o f first plan table →
    index_pages o ≡ option_map (λ (ring : Ring). length ring.counts) table.index
index-kept None f first plan table planned has stands = sym (no-ring (λ (ring : Ring). length ring.counts) table.index plan.index_blocks has planned.0)
index-kept (Some i) f first plan table planned has stands =
    let s = stands.in_ring in
    let next : of_index.next_in i ≡ s.ring.next = ap (λ (r : Option code.Ring). unwrap_or (option_map (λ ring. next_of ring) r) 0) s.memory_is ∙ s.next in
    let old : of_index.oldest_in i ≡ oldest s.ring = ap (λ (r : Option code.Ring). unwrap_or (option_map (λ ring. oldest_of ring) r) 0) s.memory_is ∙ s.oldest_is in
    ap (λ (n : ℕ). Some n) (kept-length (of_index.next_in i) (of_index.oldest_in i) s.ring s.facts.is_ring.not_negative next old)
    ∙ sym (ap (option_map (λ (ring : Ring). length ring.counts)) s.facts.ring_is)

pub blobs-kept : (o : Option VarData) (f : FlashState) (first : ℕ) (plan : Plan) (table : model.Table) → variable.ArePlanned o first plan → is_some_ring table.var ≡ nat_lt 0 plan.var_blocks → variable.Stand o f first plan table →
    blob_pages o ≡ option_map (λ (ring : Ring). length ring.counts) table.var
blobs-kept None f first plan table planned has stands = sym (no-ring (λ (ring : Ring). length ring.counts) table.var plan.var_blocks has planned)
blobs-kept (Some v) f first plan table planned has stands =
    let s = stands.in_pages.ring in
    ap (λ (n : ℕ). Some n) (kept-length (of_var.next_in v) (of_var.oldest_in v) s.ring s.pages.facts.not_negative s.next s.oldest_is)
    ∙ sym (ap (option_map (λ (ring : Ring). length ring.counts)) s.ring_is)

pub oldest-kept : (o : Option VarData) (f : FlashState) (first : ℕ) (plan : Plan) (table : model.Table) → variable.ArePlanned o first plan → is_some_ring table.var ≡ nat_lt 0 plan.var_blocks → variable.Stand o f first plan table →
    oldest_page o ≡ option_map (λ (ring : Ring). oldest ring) table.var
oldest-kept None f first plan table planned has stands = sym (no-ring (λ (ring : Ring). oldest ring) table.var plan.var_blocks has planned)
oldest-kept (Some v) f first plan table planned has stands =
    let s = stands.in_pages.ring in
    ap (λ (n : ℕ). Some n) s.oldest_is ∙ sym (ap (option_map (λ (ring : Ring). oldest ring)) s.ring_is)
