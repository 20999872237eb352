-- The table's rings and its log lie beside each other: what a call does to one leaves the other.
use Rattle.std.proofs.Common.{◌≡◌, ℕ, ◌+◌, ◌*◌, ◌%◌, ◌<◌, ◌≤◌, inl, inr, List, sym, ◌∙◌, ap, arith}
use Rattle.std.proofs.Math.Path.{fun_ext}
use Rattle.std.proofs.Math.Nat.{mod-lt, mul-le-mul_right, add-mul}
use Rattle.std.proofs.lemmas.Bool.{ltb-true}
use Rattle.fl_base.specs.declared.types.Geometry.{Geometry}
use Rattle.fl_flash.specs.Flash.{FlashState, page_at}
use Rattle.fl_model.specs.Bare.{bare}
use Rattle.fl_model.specs.Record.{Plan, blocks_of}
use Rattle.fl_model.specs.Ring.{IsShape}
use Rattle.fl_model.specs.Table.{DataRing, LogRing, shape_of}
use Rattle.fl_ring.specs.Ring as ring
use Rattle.fl_table.specs.Memory as table
use Rattle.fl_table.specs.Mounting.{OutsideStands}
use Rattle.fl_parts.specs.Pages.{bytes_in}
use Rattle.fl_table.specs.declared.table.Table.{Table}
use Rattle.fl_table.proofs.SealAnswers.{planned-shape}
use Rattle.fl_parts.proofs.Apart.{PagesApart, some-pages}
use Rattle.fl_table.proofs.Apart.{beside-stands}
use Rattle.fl_rlc.specs.Memory.{page_in, log_shape, IsPlanned}
use Rattle.fl_rlc.specs.declared.log.RecordLog.{RecordLog}

-- the log's pages, by its plan
pub log-bytes : (l : RecordLog) (f : FlashState) (first : ℕ) (plan : Plan) → IsPlanned l (first + blocks_of (bare plan)) plan → page_in l f ≡ bytes_in (page_at f) first plan LogRing
log-bytes l f first plan h =
    ap {B = ℕ → List ℕ} (λ (g : Geometry) (n : ℕ). page_at f (l.place.first_block * g.block + n % (l.place.blocks * g.block))) (sym h.geometry)
    ∙ (ap {B = ℕ → List ℕ} (λ (b : ℕ) (n : ℕ). page_at f (l.place.first_block * plan.geometry.block + n % (b * plan.geometry.block))) (sym h.blocks)
    ∙ ap {B = ℕ → List ℕ} (λ (b : ℕ) (n : ℕ). page_at f (b * plan.geometry.block + n % (plan.log_blocks * plan.geometry.block))) (let k : l.place.first_block ≡ first + plan.data_blocks + plan.index_blocks + plan.var_blocks = omega (arith, h.begins) in k))

-- a call of the table leaves them
pub log-still : {KNOTS SLOTS : ℕ} (t : Table KNOTS SLOTS) (l : RecordLog) (f g : FlashState) (first : ℕ) (plan : Plan) → table.IsPlanned t first (bare plan) → OutsideStands t (page_at f) (page_at g) →
    IsPlanned l (first + blocks_of (bare plan)) plan → page_in l g ≡ page_in l f
log-still t l f g first plan planned outside h =
    fun_ext (λ n. beside-stands t first (bare plan) (page_at f) (page_at g) planned outside (ring.place (log_shape l) n) (inr (behind n)))
  where
    behind : (n : ℕ) → (first + blocks_of (bare plan)) * plan.geometry.block ≤ l.place.first_block * l.geometry.block + n % (l.place.blocks * l.geometry.block)
    behind n =
        let same : l.place.first_block * l.geometry.block ≡ (first + blocks_of (bare plan)) * plan.geometry.block =
        ap (λ (b : ℕ). b * l.geometry.block) h.begins ∙ ap (λ (k : Geometry). (first + blocks_of (bare plan)) * k.block) (sym h.geometry) in
        omega (arith, same)

-- .. and one of the log those of the table
pub table-still : {KNOTS SLOTS : ℕ} (t : Table KNOTS SLOTS) (l : RecordLog) (f g : FlashState) (first : ℕ) (plan : Plan) → table.IsPlanned t first (bare plan) → ring.OutsideStands (log_shape l) (page_at f) (page_at g) →
    IsPlanned l (first + blocks_of (bare plan)) plan → PagesApart f g first (bare plan)
table-still t l f g first plan planned outside h = record {
  rows = λ n. before first plan.data_blocks n (omega (arith, shape.blocks)) (omega arith);
  index = λ has n. before (first + plan.data_blocks) plan.index_blocks n (ltb-true 0 plan.index_blocks has) (omega arith);
  var = λ has n. before (first + plan.data_blocks + plan.index_blocks) plan.var_blocks n (ltb-true 0 plan.var_blocks has) (omega arith);
}
  where
    shape : IsShape (shape_of (bare plan) DataRing)
    shape = planned-shape t first (bare plan) planned

    begins : l.place.first_block * l.geometry.block ≡ (first + blocks_of (bare plan)) * plan.geometry.block
    begins = ap (λ (b : ℕ). b * l.geometry.block) h.begins ∙ ap (λ (k : Geometry). (first + blocks_of (bare plan)) * k.block) (sym h.geometry)

    before : (at blocks n : ℕ) → 0 < blocks → at + blocks ≤ first + blocks_of (bare plan) →
        page_at g (at * plan.geometry.block + n % (blocks * plan.geometry.block)) ≡ page_at f (at * plan.geometry.block + n % (blocks * plan.geometry.block))
    before at blocks n some upto =
        let small : n % (blocks * plan.geometry.block) < blocks * plan.geometry.block = mod-lt n (some-pages blocks plan.geometry.block some shape.pages) in
        let all : (at + blocks) * plan.geometry.block ≤ (first + blocks_of (bare plan)) * plan.geometry.block = mul-le-mul_right plan.geometry.block upto in
        outside (at * plan.geometry.block + n % (blocks * plan.geometry.block)) (inl (omega (arith, small, all, begins, add-mul at blocks plan.geometry.block)))
