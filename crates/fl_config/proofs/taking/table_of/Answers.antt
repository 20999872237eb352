use Rattle.std.proofs.Common.{◌≡◌, ◌++◌, ◌&&◌, false, not, map, rules, refl, ◌∙◌, ap}
use Rattle.std.specs.Prelude.{◌==◌, is_some}
use Rattle.fl_words.specs.Config.{plan_of, bad_blob_limit}
use Rattle.fl_plan.specs.Plan.{blocks_in}
use Rattle.fl_config.specs.Entry.{plan_in}
use Rattle.fl_config.specs.Label.{LineLabel, plan_with}
use Rattle.fl_config.specs.Lines.{place_faults, line_faults}
use Rattle.fl_config.specs.Words.{line_of, label_in}
use Rattle.fl_plan.proofs.Faults.{some-first}
use Rattle.fl_plan.proofs.RingPlaces.{ring-blocks}
use Rattle.fl_config.proofs.Told.{tells-err}
use Rattle.fl_config.proofs.Takes.{last_part, some-size, none-size, told-next, told-last, told-none, last-passes, log-taken, passes-alone}
use Rattle.fl_config.proofs.taking.table_of.Goals as goal

pub returns-in_err-check_place-clause-refusal : goal.returns-in_err-check_place-clause-refusal
returns-in_err-check_place-clause-refusal c =
    let plans = map plan_in c.args.tables.now.items in
    let line = line_of c.args.words.now in
    tells-err _ _ _ c.from_residual.ensures.1
    (some-first _ (place_faults plans line) (line_faults c.args.geometry line ++ last_part c.args.geometry plans line) c.in_err-check_place.ensures)

pub returns-in_err-config-clause-refusal : goal.returns-in_err-config-clause-refusal
returns-in_err-config-clause-refusal c =
    let plans = map plan_in c.args.tables.now.items in
    tells-err _ _ _ c.from_residual-in_err-config.ensures.1
    (told-next c.args.geometry plans (line_of c.args.words.now) _ c.in_ok-check_place.ensures c.in_err-config.ensures.refusal)

pub returns-in_err-check_size-clause-refusal : goal.returns-in_err-check_size-clause-refusal
returns-in_err-check_size-clause-refusal c =
    let plans = map plan_in c.args.tables.now.items in
    let line = line_of c.args.words.now in
    let label : LineLabel = label_in line in
    let made = c.in_ok-config.ensures.table in
    tells-err _ _ _ c.from_residual-in_err-check_size.ensures.1
    (told-last c.args.geometry plans line _ c.in_ok-check_place.ensures c.in_ok-config.ensures.refusal (some-size c.args.geometry c.args.blocks plans line c.in_ok-config.config label _ c.requires.blocks_are made.plan (c.in_err-check_size.ensures label refl)))

pub returns-clause-refusal : goal.returns-clause-refusal
returns-clause-refusal c =
    let plans = map plan_in c.args.tables.now.items in
    let line = line_of c.args.words.now in
    let label : LineLabel = label_in line in
    let made = c.in_ok-config.ensures.table in
    told-none c.args.geometry plans line c.in_ok-check_place.ensures c.in_ok-config.ensures.refusal (none-size c.args.geometry c.args.blocks plans line c.in_ok-config.config label c.requires.blocks_are made.plan (c.in_ok-check_size.ensures label refl))

pub log_at-log-requires-clause-log : goal.log_at-log-requires-clause-log
log_at-log-requires-clause-log c =
    let plans = map plan_in c.args.tables.now.items in
    let line = line_of c.args.words.now in
    let label : LineLabel = label_in line in
    let made = c.in_ok-config.ensures.table in
    (last-passes c.args.geometry plans (plan_of c.args.geometry line) line.log_blocks (none-size c.args.geometry c.args.blocks plans line c.in_ok-config.config label c.requires.blocks_are made.plan (c.in_ok-check_size.ensures label refl))).log

pub returns-clause-plan : goal.returns-clause-plan
returns-clause-plan c =
    let line = line_of c.args.words.now in
    let label : LineLabel = record { name = line.name; base = line.base; width = line.width; log_blocks = blocks_in c.log_at-log.result } in
    let same : plan_with label c.in_ok-config.config ≡ plan_of c.args.geometry line =
    ap (λ n. plan_with (record { name = line.name; base = line.base; width = line.width; log_blocks = n }) c.in_ok-config.config) (ring-blocks c.log_at-log.result _ _ c.log_at-log.ensures)
    ∙ c.in_ok-config.ensures.table.plan in
    search (rules, same)

pub returns-clause-taken : goal.returns-clause-taken
returns-clause-taken c =
    let plans = map plan_in c.args.tables.now.items in
    let line = line_of c.args.words.now in
    let label : LineLabel = label_in line in
    let made = c.in_ok-config.ensures.table in
    let passes = last-passes c.args.geometry plans (plan_of c.args.geometry line) line.log_blocks (none-size c.args.geometry c.args.blocks plans line c.in_ok-config.config label c.requires.blocks_are made.plan (c.in_ok-check_size.ensures label refl)) in
    let blobs : (is_some line.log_blocks && not (blocks_in c.in_ok-config.config.var == 0)) ≡ false = ap (λ p. is_some line.log_blocks && not (p.var_blocks == 0)) made.plan ∙ passes.blobs in
    record {
      geometry_is = ap (λ p. p.geometry) made.plan;
      stands = made.stands;
      limits = made.limits;
      passes = passes-alone c.in_ok-config.config c.args.blocks _ label line.log_blocks refl made.limits (ap bad_blob_limit made.plan ∙ made.blob) (c.in_ok-check_size.ensures label refl);
      log = log-taken c.log_at-log.result _ line.log_blocks (blocks_in c.in_ok-config.config.var) c.log_at-log.ensures passes.log blobs;
    }

pub returns-clause-size : goal.returns-clause-size
returns-clause-size c =
    let plans = map plan_in c.args.tables.now.items in
    let line = line_of c.args.words.now in
    let label : LineLabel = label_in line in
    let made = c.in_ok-config.ensures.table in
    (last-passes c.args.geometry plans (plan_of c.args.geometry line) line.log_blocks (none-size c.args.geometry c.args.blocks plans line c.in_ok-config.config label c.requires.blocks_are made.plan (c.in_ok-check_size.ensures label refl))).size
