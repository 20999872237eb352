-- What the mount of a log and the replay of its newest page leave of the pages of a flash.
use Rattle.std.proofs.Common.{◌≡◌, ◌⊎◌, ℕ, ◌+◌, ◌*◌, ◌<◌, ◌≤◌, Bool, true, false, cond, IsTrue, IsSomeAnd, Option, Some, None, is_some, List, ◌++◌, length, inl, inr, refl, sym, ◌∙◌, ap, subst, arith}
use Rattle.std.proofs.Math.Nat.{mul-le-mul_right, add-mul}
use Rattle.fl_base.specs.declared.types.Geometry.{Geometry}
use Rattle.fl_flash.specs.Flash.{FlashState, page_at, blank}
use Rattle.fl_flash.specs.Places.{extent}
use Rattle.fl_model.specs.Bare.{bare}
use Rattle.fl_model.specs.Mount.{joined}
use Rattle.fl_model.specs.Record.{Plan, blocks_of}
use Rattle.fl_model.specs.Ring as model
use Rattle.fl_model.specs.Table.{Table, DataRing, IndexRing, table_seals, after_seals, is_rows_spent, owed}
use Rattle.fl_ring.specs.Mounting.{HasNumbers}
use Rattle.fl_ring.specs.Ring.{room}
use Rattle.fl_ring.specs.declared.ring.Ring.{Ring}
use Rattle.fl_parts.specs.Blobs.{ArePlanned}
use Rattle.fl_table.specs.Mounting.{OutsideStands}
use Rattle.fl_parts.specs.Pages.{KeptStand, place_in}
use Rattle.fl_table.specs.Standing.{Stands}
use Rattle.fl_table.specs.declared.table.Table as code
use Rattle.fl_table.proofs.Apart.{beside-stands}
use Rattle.fl_var.specs.declared.var_data.VarData.{VarData}
use Rattle.fl_rlc.specs.Left.{IsRepaired, IsNextPage, ReplayLeaves}
use Rattle.fl_rlc.specs.Memory.{log_shape, IsPlanned}
use Rattle.fl_rlc.specs.declared.log.RecordLog.{RecordLog}
use Rattle.fl_rlc.proofs.RingRepairs.{Repairs, ring-repairs}
use Rattle.fl_rlc.proofs.SealedPages.{flush-leaves}

-- a table without variable data has no blocks for them
pub no-var-blocks : (blobs : Option VarData) (first : ℕ) (plan : Plan) → is_some blobs ≡ false → ArePlanned blobs first plan → plan.var_blocks ≡ 0
no-var-blocks None first plan e planned = planned
no-var-blocks (Some var) first plan e planned = cc

-- the records of a log that join its table leave its rings
pub joined-rings : (table : Table) → ((joined table).rows ≡ table.rows) × ((joined table).index ≡ table.index)
joined-rings table = by-spent (is_rows_spent table)
  where
    by-spent : (spent : Bool) → ((cond spent table (record table { entries = table.entries ++ owed table; pending = length (owed table) })).rows ≡ table.rows) × ((cond spent table (record table { entries = table.entries ++ owed table; pending = length (owed table) })).index ≡ table.index)
    by-spent true = (refl, refl)
    by-spent false = (refl, refl)

-- the ring of the log was found and repaired
module _ (l : RecordLog) (old f1 : FlashState) (first : ℕ) (plan : Plan) (table : Table) (planned : IsPlanned l (first + blocks_of (bare plan)) plan) (told : IsTrue old.media.tells) (geometry : old.geometry ≡ l.geometry) (ring : Ring) (numbers : HasNumbers old (log_shape l) 0 ring f1) where
  log-repairs : Repairs plan.geometry.page ((first + blocks_of (bare plan)) * plan.geometry.block) ((first + blocks_of plan) * plan.geometry.block) (page_at old) (page_at f1)
  log-repairs =
      let all = ring-repairs (log_shape l) (omega (arith, l.some_blocks)) (omega (arith, l.served.block_least)) 0 ring old f1 told (ap (λ (g : Geometry). g.block) geometry) (ap (λ (g : Geometry). g.page) geometry) numbers in
      let begins : (log_shape l).first ≡ (first + blocks_of (bare plan)) * plan.geometry.block = rw (planned.begins, planned.geometry) refl in
      let size : (log_shape l).size ≡ plan.geometry.page = ap (λ (g : Geometry). g.page) (sym planned.geometry) in
      let pages : room (log_shape l) ≡ plan.log_blocks * plan.geometry.block = rw (planned.blocks, planned.geometry) refl in
      let end : first + blocks_of (bare plan) + plan.log_blocks ≡ first + blocks_of plan = omega arith in
      let ends : (log_shape l).first + room (log_shape l) ≡ (first + blocks_of plan) * plan.geometry.block = omega (arith, begins, pages, add-mul (first + blocks_of (bare plan)) plan.log_blocks plan.geometry.block, ap (λ (b : ℕ). b * plan.geometry.block) end) in
      subst (λ (n : ℕ). Repairs n ((first + blocks_of (bare plan)) * plan.geometry.block) ((first + blocks_of plan) * plan.geometry.block) (page_at old) (page_at f1)) size
      (subst (λ (n : ℕ). Repairs (log_shape l).size n ((first + blocks_of plan) * plan.geometry.block) (page_at old) (page_at f1)) begins
      (subst (λ (n : ℕ). Repairs (log_shape l).size (log_shape l).first n (page_at old) (page_at f1)) ends all.1))

  low : first * plan.geometry.block ≤ (first + blocks_of (bare plan)) * plan.geometry.block
  low = mul-le-mul_right plan.geometry.block (omega arith)

  high : (first + blocks_of (bare plan)) * plan.geometry.block ≤ (first + blocks_of plan) * plan.geometry.block
  high = mul-le-mul_right plan.geometry.block (omega arith)

  -- it keeps no page with records
  pub none-leaves : ReplayLeaves first plan table (page_at old) (page_at f1)
  none-leaves =
      let r = log-repairs in
      record {
        rings = λ page lt. inl (r.before page lt);
        log = λ page le. r.each page;
        before = λ page lt. r.before page (omega (arith, lt, low));
        behind = r.behind;
      }

  -- the records of its newest page joined the table, which was flushed then
  module _ {K S : ℕ} (t2 t3 : code.Table K S) (f2 f3 : FlashState) (same : page_at f2 ≡ page_at f1) (b : Table) (rows_same : b.rows ≡ table.rows) (index_same : b.index ≡ table.index) (stands2 : Stands t2 f2 first (bare plan) b)
      (stands3 : Stands t3 f3 first (bare plan) (after_seals (bare plan) (table_seals (bare plan) b) b)) (no_var : plan.var_blocks ≡ 0) (outside : OutsideStands t2 (page_at f2) (page_at f3))
      (kept : KeptStand first (bare plan) b (after_seals (bare plan) (table_seals (bare plan) b) b) (page_at f2) (page_at f3)) (reaches : f3.start + extent f3.geometry f3.blocks ≤ length f3.media.content) (geometry3 : f3.geometry ≡ plan.geometry)
      (within : first + blocks_of (bare plan) ≤ f3.blocks) where
    next-same : (page : ℕ) → IsNextPage first (bare plan) b page → IsNextPage first plan table page
    next-same page (inl is) = inl (is ∙ ap (λ (r : model.Ring). place_in first plan DataRing r.next) rows_same)
    next-same page (inr is) = inr (subst (λ (o : Option model.Ring). IsSomeAnd o (λ r. page ≡ place_in first plan IndexRing r.next)) index_same is)

    beside : (page : ℕ) → (page < first * plan.geometry.block) ⊎ ((first + blocks_of (bare plan)) * plan.geometry.block ≤ page) → page_at f3 page ≡ page_at f1 page
    beside page is = beside-stands t2 first (bare plan) (page_at f2) (page_at f3) stands2.planned outside page is ∙ ap (λ (at : ℕ → List ℕ). at page) same

    pub seal-leaves : ReplayLeaves first plan table (page_at old) (page_at f3)
    seal-leaves =
        let r = log-repairs in
        record {
          rings = λ page lt. by-left page lt (flush-leaves t2 t3 f2 f3 first (bare plan) b stands2 stands3 no_var outside kept reaches geometry3 within page lt);
          log = λ page le. subst (λ (bytes : List ℕ). IsRepaired plan.geometry.page (page_at old page) bytes) (sym (beside page (inr le))) (r.each page);
          before = λ page lt. beside page (inl lt) ∙ r.before page (omega (arith, lt, low));
          behind = λ page le. beside page (inr (omega (arith, le, high))) ∙ r.behind page le;
        }
      where
        by-left : (page : ℕ) → page < (first + blocks_of (bare plan)) * plan.geometry.block → (page_at f3 page ≡ page_at f2 page) ⊎ ((page_at f3 page ≡ blank plan.geometry.page) ⊎ IsNextPage first (bare plan) b page) →
            (page_at f3 page ≡ page_at old page) ⊎ ((page_at f3 page ≡ blank plan.geometry.page) ⊎ IsNextPage first plan table page)
        by-left page lt (inl stays) = inl (stays ∙ (ap (λ (at : ℕ → List ℕ). at page) same ∙ log-repairs.before page lt))
        by-left page lt (inr (inl empty)) = inr (inl empty)
        by-left page lt (inr (inr next)) = inr (inr (next-same page next))
