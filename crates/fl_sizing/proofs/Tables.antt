-- What is told of tables, one after another.
use Rattle.std.proofs.Common.{◌≡◌, ℕ, ◌+◌, ◌<◌, Option, Some, IfSome, List, [], ◌∷◌, ◌++◌, length, take, sym, ◌∙◌, ap, subst}
use Rattle.std.specs.List.{flat_map, slice_get, sum_by}
use Rattle.std.proofs.lemmas.Grind.{flat_map-append}
use Rattle.std.proofs.lemmas.List.Sums.{sum_by_push}
use Rattle.std.proofs.lemmas.List.Concat.{flat_map-cons}
use Rattle.std.proofs.lemmas.List.{append-nil}
use Rattle.fl_base.specs.declared.types.RingPlace.{RingPlace}
use Rattle.fl_model.specs.Bare.{bare}
use Rattle.fl_model.specs.Record.{Plan, blocks_of}
use Rattle.fl_model.proofs.Lists.{slice_get-some, take-one_more}
use Rattle.fl_plan.specs.Plan.{Label, IsConfigOf, IsRingAt, blocks_in, label_of, plan_of_table, with_log}
use Rattle.fl_plan.specs.declared.table_config.TableConfig.{TableConfig}
use Rattle.fl_plan.proofs.RingPlaces.{ring-blocks}
use Rattle.fl_sizing.specs.Sizes.{sizes_of}
use Rattle.fl_sizing.specs.Text.{named_text, table_text}
use Rattle.fl_sizing.specs.declared.sizes.TableSizes.{TableSizes}

-- the place of the log of a table, or none
abbrev pub LogIs : List Plan → ℕ → Option RingPlace → Type 0
LogIs plans i log =
    IfSome (slice_get plans i) (λ plan. IsRingAt log (sum_by blocks_of (take i plans) + plan.data_blocks + plan.index_blocks + plan.var_blocks) plan.log_blocks)

log-is : (plans : List Plan) (i : ℕ) (log : Option RingPlace) (plan : Plan) → slice_get plans i ≡ Some plan → LogIs plans i log → blocks_in log ≡ plan.log_blocks
log-is plans i log plan here logged =
    let first = sum_by blocks_of (take i plans) in
    ring-blocks log (first + plan.data_blocks + plan.index_blocks + plan.var_blocks) plan.log_blocks
    (subst (λ (o : Option Plan). IfSome o (λ plan. IsRingAt log (first + plan.data_blocks + plan.index_blocks + plan.var_blocks) plan.log_blocks)) here logged)

-- the plan of a table with its log
log-there : (config : TableConfig) (log : Option RingPlace) (plan : Plan) → IsConfigOf config (bare plan) → blocks_in log ≡ plan.log_blocks → with_log (blocks_in log) (plan_of_table (label_of (bare plan)) config) ≡ plan
log-there config log plan is blocks = ap (with_log (blocks_in log)) is.is ∙ ap (λ (n : ℕ). with_log n plan) blocks

-- one table more in a sum
pub next-sum : (f : Plan → ℕ) (plans : List Plan) (i : ℕ) (config : TableConfig) (log : Option RingPlace) (n : ℕ) → i < length plans → IfSome (slice_get plans i) (λ plan. IsConfigOf config (bare plan)) →
    LogIs plans i log → ((label : Label) → n ≡ f (with_log (blocks_in log) (plan_of_table label config))) → sum_by f (take (i + 1) plans) ≡ sum_by f (take i plans) + n
next-sum f plans i config log n lt of logged exact =
    let at = slice_get-some plans i lt in
    let is : IsConfigOf config (bare at.0) = subst (λ (o : Option Plan). IfSome o (λ plan. IsConfigOf config (bare plan))) at.1 of in
    let same : n ≡ f at.0 = exact (label_of (bare at.0)) ∙ ap f (log-there config log at.0 is (log-is plans i log at.0 at.1 logged)) in
    ap (sum_by f) (take-one_more plans i at.0 at.1) ∙ sum_by_push f (take i plans) at.0 ∙ ap (λ k. sum_by f (take i plans) + k) (sym same)

-- .. and in what is told of them
pub next-text : (interval : Option ℕ) (plans : List Plan) (i : ℕ) (name : List ℕ) (config : TableConfig) (log : Option RingPlace) (sizes : TableSizes) → i < length plans →
    IfSome (slice_get plans i) (λ plan. name ≡ plan.name) → IfSome (slice_get plans i) (λ plan. IsConfigOf config (bare plan)) → LogIs plans i log → ((label : Label) → sizes ≡ sizes_of (with_log (blocks_in log) (plan_of_table label config))) →
    flat_map (table_text interval) (take (i + 1) plans) ≡ flat_map (table_text interval) (take i plans) ++ named_text interval name sizes
next-text interval plans i name config log sizes lt named of logged exact =
    let at = slice_get-some plans i lt in
    let is : IsConfigOf config (bare at.0) = subst (λ (o : Option Plan). IfSome o (λ plan. IsConfigOf config (bare plan))) at.1 of in
    let called : name ≡ at.0.name = subst (λ (o : Option Plan). IfSome o (λ plan. name ≡ plan.name)) at.1 named in
    let same : sizes ≡ sizes_of at.0 = exact (label_of (bare at.0)) ∙ ap sizes_of (log-there config log at.0 is (log-is plans i log at.0 at.1 logged)) in
    let before = flat_map (table_text interval) (take i plans) in
    ap (flat_map (table_text interval)) (take-one_more plans i at.0 at.1)
    ∙ flat_map-append (table_text interval) (take i plans) (at.0 ∷ [])
    ∙ ap (λ t. before ++ t) (flat_map-cons (table_text interval) at.0 [] ∙ append-nil (table_text interval at.0))
    ∙ ap (λ (n : List ℕ). before ++ named_text interval n (sizes_of at.0)) (sym called)
    ∙ ap (λ (s : TableSizes). before ++ named_text interval name s) (sym same)
