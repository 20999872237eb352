-- A table of an image, and where a salvage looks for the pages of its rings.
use Rattle.std.proofs.Common.{◌≡◌, ℕ, ◌+◌, ◌-◌, ◌*◌, ◌%◌, ◌<◌, ◌≤◌, Bool, true, cond, Some, None, List, length, take, drop, sym, ◌∙◌, ap, arith}
use Rattle.std.specs.List.{sum_by}
use Rattle.std.proofs.Math.Nat.{mul-le-mul_right}
use Rattle.std.proofs.lemmas.Option.{same_Some}
use Rattle.fl_model.specs.Facts.{IsTable}
use Rattle.fl_model.specs.Image.{IsTableImage, bytes_at}
use Rattle.fl_model.specs.Record.{Plan, Config, blocks_of, has_var, row_layout, row_len}
use Rattle.fl_model.specs.Table.{Table, DataRing, VarRing}
use Rattle.fl_schema.specs.Form.{layout_with}
use Rattle.fl_schema.specs.declared.column.ColumnType.{ColumnType}
use Rattle.fl_schema.specs.declared.schema.KeyWidth.{KeyWidth}
use Rattle.fl_salvage.specs.Pages.{numbered, page_of}
use Rattle.fl_salvage.specs.Ends.{form_at}
use Rattle.fl_saved.proofs.Places.{full-page}

-- a plan that lines made: its pages, the types of its rows, and its rings
pub record IsMadePlan (plan : Plan) : Type 0 where
  pub page_low : 64 ≤ plan.geometry.page
  pub page_high : plan.geometry.page ≤ 4096
  pub block_some : 0 < plan.geometry.block
  pub key : KeyWidth
  pub types : List ColumnType
  pub layout : layout_with key types (has_var plan) ≡ row_layout plan
  pub room : row_len plan ≤ plan.geometry.page - 24
  pub rows : 0 < plan.data_blocks

-- the bytes stand for a table of such a plan, behind so many blocks, and reach to the end of its rings
pub record IsHere (config : Config) (bytes : List ℕ) (place : ℕ) (plan : Plan) (table : Table) : Type 0 where
  pub made : IsMadePlan plan
  pub geometry : plan.geometry ≡ config.geometry
  pub reaches : 1024 + (sum_by blocks_of (take place config.plans) + blocks_of plan) * plan.geometry.block * plan.geometry.page ≤ length bytes
  pub image : IsTableImage config bytes place plan table

module _ (config : Config) (bytes : List ℕ) (place : ℕ) (plan : Plan) (table : Table) (is : IsHere config bytes place plan table) where
  abbrev first : ℕ
  first = sum_by blocks_of (take place config.plans)

  pub facts : IsTable plan table
  facts = is.image.settled.facts

  pub idle : table.pending ≡ 0
  idle = ap (λ (t : Table). t.pending) is.image.settled.lost

  -- the data ring, as the salvage finds it
  pub rows-at : (number : ℕ) → bytes_at config bytes place plan DataRing number ≡ numbered (form_at config.plans place plan).rows bytes number
  rows-at number = ap (λ (g : ℕ). take g (drop (1024 + (sum_by blocks_of (take place config.plans) * plan.geometry.block + number % (plan.data_blocks * plan.geometry.block)) * g) bytes)) (sym (ap (λ g. g.page) is.geometry))

  ends-within : (blocks part : ℕ) → blocks + part ≤ sum_by blocks_of (take place config.plans) + blocks_of plan → 1024 + (blocks * plan.geometry.block + part * plan.geometry.block) * plan.geometry.page ≤ length bytes
  ends-within blocks part le =
      let a : (blocks + part) * plan.geometry.block ≤ (sum_by blocks_of (take place config.plans) + blocks_of plan) * plan.geometry.block = mul-le-mul_right plan.geometry.block le in
      let b : (blocks + part) * plan.geometry.block * plan.geometry.page ≤ (sum_by blocks_of (take place config.plans) + blocks_of plan) * plan.geometry.block * plan.geometry.page = mul-le-mul_right plan.geometry.page a in
      let c : (blocks * plan.geometry.block + part * plan.geometry.block) * plan.geometry.page ≡ (blocks + part) * plan.geometry.block * plan.geometry.page = omega arith in
      omega (arith, b, c, is.reaches)

  pub rows-size : (p : ℕ) → p < plan.data_blocks * plan.geometry.block → length (page_of (form_at config.plans place plan).rows bytes p) ≡ plan.geometry.page
  rows-size p lt = full-page (sum_by blocks_of (take place config.plans) * plan.geometry.block) (plan.data_blocks * plan.geometry.block) plan.geometry.page bytes p lt (ends-within (sum_by blocks_of (take place config.plans)) plan.data_blocks (omega arith))

  -- its ring of variable data: the first page, how many there are, and their size
  abbrev pub var_first : ℕ
  var_first = (sum_by blocks_of (take place config.plans) + plan.data_blocks + plan.index_blocks) * plan.geometry.block

  module _ (ring : _) (ring_is : (form_at config.plans place plan).var ≡ Some ring) (has : has_var plan ≡ true) where
    is-ring : record { first = var_first; pages = plan.var_blocks * plan.geometry.block; size = plan.geometry.page } ≡ ring
    is-ring = same_Some _ _ (sym (ap (λ (b : Bool). cond b (Some (record { first = var_first; pages = plan.var_blocks * plan.geometry.block; size = plan.geometry.page })) None) has) ∙ ring_is)

    first_is : ring.first ≡ var_first
    first_is = ap (λ r. r.first) (sym is-ring)

    pub pages_is : ring.pages ≡ plan.var_blocks * plan.geometry.block
    pages_is = ap (λ r. r.pages) (sym is-ring)

    pub size_is : ring.size ≡ plan.geometry.page
    size_is = ap (λ r. r.size) (sym is-ring)

    pub var-at : (number : ℕ) → bytes_at config bytes place plan VarRing number ≡ numbered ring bytes number
    var-at number =
        ap (λ (g : ℕ). take g (drop (1024 + (var_first + number % (plan.var_blocks * plan.geometry.block)) * g) bytes)) (sym (ap (λ g. g.page) is.geometry))
        ∙ ap (λ (g : ℕ). take g (drop (1024 + (var_first + number % (plan.var_blocks * plan.geometry.block)) * g) bytes)) (sym size_is)
        ∙ ap (λ (k : ℕ). take ring.size (drop (1024 + (k + number % (plan.var_blocks * plan.geometry.block)) * ring.size) bytes)) (sym first_is)
        ∙ ap (λ (k : ℕ). take ring.size (drop (1024 + (ring.first + number % k) * ring.size) bytes)) (sym pages_is)

    pub var-size : (p : ℕ) → p < plan.var_blocks * plan.geometry.block → length (page_of ring bytes p) ≡ plan.geometry.page
    var-size p lt =
        let e : 1024 + (ring.first + ring.pages) * ring.size ≡ 1024 + (var_first + plan.var_blocks * plan.geometry.block) * plan.geometry.page =
        ap (λ k. 1024 + (ring.first + ring.pages) * k) size_is ∙ ap (λ k. 1024 + (k + ring.pages) * plan.geometry.page) first_is ∙ ap (λ k. 1024 + (var_first + k) * plan.geometry.page) pages_is in
        full-page ring.first ring.pages ring.size bytes p (omega (arith, lt, pages_is)) (omega (arith, e, ends-within (sum_by blocks_of (take place config.plans) + plan.data_blocks + plan.index_blocks) plan.var_blocks (omega arith))) ∙ size_is
