-- A table and its pages.
use Rattle.std.proofs.Common.{◌≡◌, ℕ, ◌+◌, ◌-◌, ◌≤◌, List, length, sym, ap, arith}
use Rattle.std.proofs.lemmas.List.{take_all}
use Rattle.fl_flash.specs.Flash.{FlashState, page_at}
use Rattle.fl_flash.specs.Places.{extent}
use Rattle.fl_model.specs.Record.{Plan}
use Rattle.fl_model.specs.Ring.{IsRing}
use Rattle.fl_model.specs.Table.{Table, DataRing, shape_of, lose}
use Rattle.fl_parts.proofs.BlobTables.{HoldsVar}
use Rattle.fl_parts.proofs.Plain.{IsPlainTable, plain-lose, table-facts}
use Rattle.fl_ring.specs.Ring.{OnRing}
use Rattle.fl_ring.proofs.Lengths.{ring_lengths}
use Rattle.fl_parts.specs.Pages.{HoldsTable, Rests}
use Rattle.fl_parts.proofs.ListsStay.{HoldsIndexed}
use Rattle.fl_parts.proofs.States.{shape_in, state_of, HaveSize, to-ring, to-image}

-- the pages of its rings are all that it holds
pub plain-holds : (page : ℕ → List ℕ) (first : ℕ) (plan : Plan) (table : Table) → HaveSize first plan page → 64 ≤ plan.geometry.page → IsRing (shape_of plan DataRing) table.rows →
    OnRing (shape_in first plan) page (state_of plan table) → HoldsIndexed page first plan table → HoldsVar page first plan table → HoldsTable page first plan table
plain-holds page first plan table sizes large facts on indexed var = record {
  rows = to-image page first plan table sizes large facts on;
  index = indexed;
  var = var;
}

pub plain-on : (page : ℕ → List ℕ) (first : ℕ) (plan : Plan) (table : Table) → HaveSize first plan page → 64 ≤ plan.geometry.page → IsRing (shape_of plan DataRing) table.rows →
    HoldsTable page first plan table → OnRing (shape_in first plan) page (state_of plan table)
plain-on page first plan table sizes large facts h = to-ring page first plan table sizes large facts h.rows

-- what was lost is lost
pub lost-twice : (table : Table) → lose table ≡ lose (lose table)
lost-twice table =
    let es = (lose table).entries in
    ap (λ xs. record (lose table) { entries = xs }) (sym (take_all (length es - 0) es (omega arith)))

pub plain-rests : (f : FlashState) (first : ℕ) (plan : Plan) (table : Table) → HaveSize first plan (page_at f) → 64 ≤ plan.geometry.page → IsPlainTable plan table →
    OnRing (shape_in first plan) (page_at f) (state_of plan (lose table)) → HoldsIndexed (page_at f) first plan table → HoldsVar (page_at f) first plan table → Rests f first plan (lose table)
plain-rests f first plan table sizes large facts on indexed var = record {
  settled = record { facts = table-facts plan (lose table) (plain-lose plan table facts); lost = lost-twice table };
  pages = plain-holds (page_at f) first plan (lose table) sizes large facts.rows on indexed var;
}

-- the pages of a flash have their size
pub have-size : (f : FlashState) (first : ℕ) (plan : Plan) → f.start + extent f.geometry f.blocks ≤ length f.media.content → f.geometry ≡ plan.geometry → first + plan.data_blocks ≤ f.blocks →
    1 ≤ plan.data_blocks → 2 ≤ plan.geometry.block → HaveSize first plan (page_at f)
have-size f first plan reaches geometry within some block = ring_lengths f plan.geometry first plan.data_blocks reaches geometry within some (omega (arith, block))
