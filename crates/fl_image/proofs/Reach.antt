-- The pages of the device lie on each image of a configuration.
use Rattle.std.proofs.Common.{◌≡◌, ℕ, ◌+◌, ◌*◌, ◌≤◌, IsTrue, Option, Some, None, List, [], ◌∷◌, length, refl, sym, ◌∙◌, ap, arith, rules}
use Rattle.std.specs.Prelude.{sum_by}
use Rattle.fl_base.specs.declared.types.Geometry.{Geometry}
use Rattle.fl_config.specs.Whole.{is_whole, is_whole_of, Makes}
use Rattle.fl_model.specs.Image.{medium_len}
use Rattle.fl_model.specs.Record.{Plan, Config, blocks_of}
use Rattle.fl_words.specs.Config.{Lines}

-- the pages of the device lie on the medium
pub reach : (lines : Lines) (geometry : Geometry) (blocks : ℕ) (old new : List ℕ) → IsTrue (is_whole lines) → lines.device ≡ Some geometry → blocks ≡ sum_by blocks_of lines.plans
    → ((config : Config) → Makes lines config → length old ≡ medium_len config) → new ≡ old → 1024 + blocks * geometry.block * geometry.page ≤ length new
reach lines geometry blocks old new whole device all size same = by lines.device lines.plans refl refl whole
  where
    by : (d : Option Geometry) (plans : List Plan) → lines.device ≡ d → lines.plans ≡ plans → IsTrue (is_whole_of d plans) → 1024 + blocks * geometry.block * geometry.page ≤ length new
    by None plans e p w = absurd (search (rules, w))
    by (Some g) [] e p w = absurd (search (rules, w))
    by (Some g) (plan ∷ plans) e p w =
        let makes : Makes lines (record { geometry = g; plans = plan ∷ plans; knots = 0 }) = rw (e, p) refl in
        let is : g ≡ geometry = cc (e, device) in
        let total : length old ≡ 1024 + sum_by blocks_of (plan ∷ plans) * g.block * g.page = size (record { geometry = g; plans = plan ∷ plans; knots = 0 }) makes in
        let count : sum_by blocks_of (plan ∷ plans) ≡ blocks = ap (λ (l : List Plan). sum_by blocks_of l) (sym p) ∙ sym all in
        let exact : length old ≡ 1024 + blocks * geometry.block * geometry.page =
        total ∙ ap (λ (n : ℕ). 1024 + n * g.block * g.page) count ∙ ap (λ (h : Geometry). 1024 + blocks * h.block * h.page) is in
        omega (arith, exact, ap (λ (l : List ℕ). length l) same)
