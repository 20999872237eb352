-- A table that isn't mounted rests wherever the pages of its blocks stand.
use Rattle.std.proofs.Common.{◌≡◌, ℕ, ◌+◌, ◌*◌, ◌≤◌, IfSome, List, sym, subst, arith}
use Rattle.std.proofs.Math.Path.{fun_ext}
use Rattle.std.proofs.Math.Nat.{mul-le-mul_right}
use Rattle.fl_flash.specs.Flash.{FlashState, page_at}
use Rattle.fl_model.specs.Image.{IsRingImage, HoldsLogged}
use Rattle.fl_model.specs.Record.{Plan}
use Rattle.fl_model.specs.Table.{Table, RingName, DataRing, IndexRing, VarRing, LogRing, shape_of}
use Rattle.fl_parts.specs.Pages.{place_in}
use Rattle.fl_parts.proofs.Images.{holds-same}
use Rattle.fl_rlc.specs.Logged.{Rests}

-- each page of its rings stands behind the beginning of its blocks
place-behind : (first : ℕ) (plan : Plan) (ring : RingName) (n : ℕ) → first * plan.geometry.block ≤ place_in first plan ring n
place-behind first plan DataRing n = omega arith
place-behind first plan IndexRing n = let k : first * plan.geometry.block ≤ (first + plan.data_blocks) * plan.geometry.block = mul-le-mul_right plan.geometry.block (omega arith) in omega (arith, k)
place-behind first plan VarRing n = let k : first * plan.geometry.block ≤ (first + plan.data_blocks + plan.index_blocks) * plan.geometry.block = mul-le-mul_right plan.geometry.block (omega arith) in omega (arith, k)
place-behind first plan LogRing n =
    let k : first * plan.geometry.block ≤ (first + plan.data_blocks + plan.index_blocks + plan.var_blocks) * plan.geometry.block = mul-le-mul_right plan.geometry.block (omega arith) in omega (arith, k)

pub rests-behind : (f g : FlashState) (first : ℕ) (plan : Plan) (table : Table) → ((page : ℕ) → first * plan.geometry.block ≤ page → page_at g page ≡ page_at f page) → Rests f first plan table → Rests g first plan table
rests-behind f g first plan table same h = record {
  settled = h.settled;
  pages = holds-same (page_at f) (page_at g) first plan table there h.pages;
  log = subst (λ (at : ℕ → List ℕ). IfSome table.log (λ ring. IsRingImage (shape_of plan LogRing) ring at (HoldsLogged plan table ring))) (sym (fun_ext (λ n. there LogRing n))) h.log;
}
  where
    there : (ring : RingName) (n : ℕ) → page_at g (place_in first plan ring n) ≡ page_at f (place_in first plan ring n)
    there ring n = same (place_in first plan ring n) (place-behind first plan ring n)
