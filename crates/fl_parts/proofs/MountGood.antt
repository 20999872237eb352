-- A table at rest is good for the mount of its ring.
use Rattle.std.proofs.Common.{◌≡◌, ℕ, ◌+◌, ◌*◌, ◌^◌, ◌<◌, ◌≤◌, Bool, true, false, cond, nat_lt, ◌==◌, Option, Some, None, IfSome, List, length, take, drop, refl, sym, ◌∙◌, ap, subst, arith, IsTrue}
use Rattle.std.specs.List.{list_any, sum}
use Rattle.fl_flash.specs.Flash.{FlashState, page_at}
use Rattle.fl_model.specs.Record.{Plan, has_index}
use Rattle.fl_model.specs.Ring as model
use Rattle.fl_model.specs.Row.{le}
use Rattle.fl_model.specs.Table.{Table, Entry, DataRing, shape_of}
use Rattle.fl_model.specs.Layout.{data_body}
use Rattle.fl_model.specs.Mount.{renumber, at_least_of, index_end}
use Rattle.fl_model.specs.Mount as numbering
use Rattle.fl_model.proofs.Lists.{slice_get-some}
use Rattle.fl_model.proofs.Pages.{pages-at}
use Rattle.fl_ring.proofs.SamePlaces.{renumbered_on}
use Rattle.fl_parts.proofs.Memories.{few-kept}
use Rattle.fl_parts.proofs.Loose.{IsLoose}
use Rattle.fl_parts.proofs.MountKeeps.{loose-renumber, plain-renumber}
use Rattle.fl_ring.specs.Head.{one}
use Rattle.fl_ring.specs.Mounting.{IsGood}
use Rattle.fl_ring.specs.Newest.{number_of}
use Rattle.fl_ring.specs.Numbers.{renumbered, IsNumbered}
use Rattle.fl_ring.specs.Ring.{RingState, OnRing, oldest}
use Rattle.fl_schema.proofs.Numbers.{length-le, number_of-le}
use Rattle.fl_schema.proofs.References.{from_le_bytes_4}
use Rattle.fl_ring.proofs.Heads.{one-is}
use Rattle.fl_parts.proofs.States.{shape_in, state_of, state-count, state-oldest, ring-back}
use Rattle.fl_parts.proofs.Repaired.{IsHeld, IsIdle, state-renumbered}
use Rattle.fl_parts.specs.Mountable.{RowsBehind}

-- a body begins with its number
body-number : (plan : Plan) (number : ℕ) (entries : List Entry) → number < 2 ^ 32 → number_of (data_body plan number entries) ≡ number
body-number plan number entries small = from_le_bytes_4 (le 4 number) (length-le 4 number) ∙ number_of-le 4 number small

state-numbered : (plan : Plan) (table : Table) → IsLoose plan table → IsNumbered (state_of plan table)
state-numbered plan table facts i lt =
    let len = state-count plan table in
    let old = state-oldest plan table in
    let c = slice_get-some table.rows.counts i (omega (arith, lt, len)) in
    let small : model.oldest table.rows + i < 2 ^ 32 = omega (arith, lt, len, facts.rows.not_negative, facts.number) in
    subst (λ (x : Option (List ℕ)). IfSome x (λ body. number_of body ≡ oldest (state_of plan table) + i)) (sym (pages-at plan (model.oldest table.rows) table.entries table.rows.counts i c.0 c.1))
    (by_count small (omega (arith, old)) (c.0 == 0) (take c.0 (drop (sum (take i table.rows.counts)) table.entries)))
  where
    by_count : model.oldest table.rows + i < 2 ^ 32 → model.oldest table.rows + i ≡ oldest (state_of plan table) + i → (b : Bool) (entries : List Entry) →
        IfSome (cond b None (Some (data_body plan (model.oldest table.rows + i) entries))) (λ body. number_of body ≡ oldest (state_of plan table) + i)
    by_count small e true entries = tt
    by_count small e false entries = body-number plan (model.oldest table.rows + i) entries small ∙ e

module _ (Left : Type 0) (first : ℕ) (plan : Plan) (table : Table) (shape : model.IsShape (shape_of plan DataRing)) (large : 64 ≤ plan.geometry.page) (few : IsTrue (has_index plan) → plan.data_blocks * plan.geometry.block + 6 ≤ 65536)
    (held : IsHeld Left plan table) (behind : RowsBehind plan table) (idle : IsIdle table) (page : ℕ → List ℕ) (on : OnRing (shape_in first plan) page (state_of plan table)) where
  pub ring-renumbered : renumbered (shape_in first plan) (index_end plan table) (state_of plan table) ≡ state_of plan (renumber plan DataRing table)
  ring-renumbered = state-renumbered first plan table held.loose.rows.not_negative

  pub numbered-facts : IsHeld Left plan (renumber plan DataRing table)
  numbered-facts =
      let facts = held.loose in
      let there = renumbered_on (shape_in first plan) page (state_of plan table) (index_end plan table) (record { blocks = shape.blocks; per_block = shape.pages; size = large }) on in
      let kept = few-kept plan table shape facts.rows in
      let back = ring-back first plan (renumber plan DataRing table) (subst (λ (s : RingState). OnRing (shape_in first plan) page s) ring-renumbered there).ring in
      record {
        loose = loose-renumber plan table shape few kept facts back idle.waiting behind;
        plain = λ left. plain-renumber plan table shape few kept facts back idle.waiting (held.plain left) idle.pending;
      }

  pub numbered-idle : IsIdle (renumber plan DataRing table)
  numbered-idle = record { pending = idle.pending; buffered = idle.buffered; waiting = idle.waiting; points = idle.points }

  same_torn : (renumber plan DataRing table).rows.torn ≡ table.rows.torn
  same_torn = by_test (list_any (nat_lt 0) table.rows.counts)
    where
      by_test : (b : Bool) → (cond b table.rows (record table.rows { next = numbering.least_alike (plan.data_blocks * plan.geometry.block) table.rows.next (at_least_of plan DataRing table + length table.rows.counts) })).torn ≡ table.rows.torn
      by_test true = refl
      by_test false = refl

  pub good-ring : (f : FlashState) → page ≡ page_at f → IsTrue f.media.tells → IsGood f (shape_in first plan) (index_end plan table) (state_of plan table)
  good-ring f is told = record {
    told = told;
    on = subst (λ (p : ℕ → List ℕ). OnRing (shape_in first plan) p (state_of plan table)) is on;
    numbered = state-numbered plan table held.loose;
    fits =
        let next = ap (λ (s : RingState). s.next) ring-renumbered in
        let torn : cond (renumber plan DataRing table).rows.torn 1 0 ≡ one table.rows.torn = ap (λ (b : Bool). cond b 1 0) same_torn ∙ sym (one-is table.rows.torn) in
        omega (arith, next, torn, numbered-facts.loose.number);
  }
