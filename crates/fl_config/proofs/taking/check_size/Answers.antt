use Rattle.std.proofs.Common.{◌≡◌, ◌+◌, ◌-◌, ◌&&◌, ◌==◌, true, false, nat_lt, not, rules, refl, arith, ◌∙◌}
use Rattle.std.specs.Prelude.{is_some, unwrap_or}
use Rattle.fl_model.specs.Record.{row_len, blocks_of}
use Rattle.fl_words.specs.Config.{bad_log}
use Rattle.fl_plan.specs.Plan.{blocks_in}
use Rattle.fl_plan.specs.Refusal.{pages_misfit, nameless}
use Rattle.fl_plan.proofs.Faults.{blocks_in-le}
use Rattle.fl_config.specs.Label.{plan_with}
use Rattle.fl_config.proofs.Takes.{size-is}
use Rattle.fl_config.proofs.taking.check_size.Goals as goal

pub returns-then-row_len-config : goal.returns-then-row_len-config
returns-then-row_len-config c label has =
    let long = rw (c.row_len.ensures.exact nameless) at c.if-row_len-config.true in
    let rows : nat_lt (c.args.config.now.geometry.page - 24) (row_len (plan_with label c.args.config.now)) ≡ true = search (rules, long) in
    rw rows refl

pub overflow_add-all : goal.overflow_add-all
overflow_add-all c =
    let limits = c.requires.limits in
    omega (arith, c.blocks-2.ensures nameless, c.requires.few, limits.rows.1, blocks_in-le c.args.config.now.index limits.index, blocks_in-le c.args.config.now.var limits.var)

pub overflow_add-all-2 : goal.overflow_add-all-2
overflow_add-all-2 c =
    let limits = c.requires.limits in
    omega (arith, c.blocks-2.ensures nameless, c.blocks_of_log.ensures.few, c.requires.few, limits.rows.1, blocks_in-le c.args.config.now.index limits.index, blocks_in-le c.args.config.now.var limits.var)

pub has_room_for-requires-clause-few : goal.has_room_for-requires-clause-few
has_room_for-requires-clause-few c =
    let limits = c.requires.limits in
    omega (arith, c.blocks-2.ensures nameless, c.blocks_of_log.ensures.few, c.requires.few, limits.rows.1, blocks_in-le c.args.config.now.index limits.index, blocks_in-le c.args.config.now.var limits.var)

pub returns-then-not-has_room_for : goal.returns-then-not-has_room_for
returns-then-not-has_room_for c label has =
    let geometry = c.args.config.now.geometry in
    let plan = plan_with label c.args.config.now in
    let short = rw (c.row_len.ensures.exact nameless) at c.if-row_len-config.false in
    let rows : nat_lt (geometry.page - 24) (row_len plan) ≡ false = search (rules, short) in
    let misfit : pages_misfit geometry (c.args.blocks + c.blocks-2.result + c.blocks_of_log.result) ≡ true = search rules in
    let sum : c.blocks-2.result + unwrap_or c.args.log 0 ≡ blocks_of plan = omega (arith, c.blocks-2.ensures nameless, has) in
    let size : pages_misfit geometry (c.args.blocks + blocks_of plan) ≡ true =
    size-is geometry c.args.blocks c.blocks-2.result c.blocks_of_log.result (unwrap_or c.args.log 0) (blocks_of plan) sum (c.blocks_of_log.ensures.same geometry (c.args.blocks + c.blocks-2.result) c.requires.limits.geometry) ∙ misfit in
    rw rows (rw size refl)

pub returns-then-lacks_index : goal.returns-then-lacks_index
returns-then-lacks_index c label has =
    let geometry = c.args.config.now.geometry in
    let plan = plan_with label c.args.config.now in
    let short = rw (c.row_len.ensures.exact nameless) at c.if-row_len-config.false in
    let rows : nat_lt (geometry.page - 24) (row_len plan) ≡ false = search (rules, short) in
    let misfit : pages_misfit geometry (c.args.blocks + c.blocks-2.result + c.blocks_of_log.result) ≡ false = search rules in
    let sum : c.blocks-2.result + unwrap_or c.args.log 0 ≡ blocks_of plan = omega (arith, c.blocks-2.ensures nameless, has) in
    let size : pages_misfit geometry (c.args.blocks + blocks_of plan) ≡ false =
    size-is geometry c.args.blocks c.blocks-2.result c.blocks_of_log.result (unwrap_or c.args.log 0) (blocks_of plan) sum (c.blocks_of_log.ensures.same geometry (c.args.blocks + c.blocks-2.result) c.requires.limits.geometry) ∙ misfit in
    let lacks : (c.args.config.now.full_index && (blocks_in c.args.config.now.index == 0)) ≡ true = search rules in
    rw rows (rw size (rw lacks refl))

pub returns-then-is_bad_log : goal.returns-then-is_bad_log
returns-then-is_bad_log c label has =
    let geometry = c.args.config.now.geometry in
    let plan = plan_with label c.args.config.now in
    let short = rw (c.row_len.ensures.exact nameless) at c.if-row_len-config.false in
    let rows : nat_lt (geometry.page - 24) (row_len plan) ≡ false = search (rules, short) in
    let misfit : pages_misfit geometry (c.args.blocks + c.blocks-2.result + c.blocks_of_log.result) ≡ false = search rules in
    let sum : c.blocks-2.result + unwrap_or c.args.log 0 ≡ blocks_of plan = omega (arith, c.blocks-2.ensures nameless, has) in
    let size : pages_misfit geometry (c.args.blocks + blocks_of plan) ≡ false =
    size-is geometry c.args.blocks c.blocks-2.result c.blocks_of_log.result (unwrap_or c.args.log 0) (blocks_of plan) sum (c.blocks_of_log.ensures.same geometry (c.args.blocks + c.blocks-2.result) c.requires.limits.geometry) ∙ misfit in
    let lacks : (c.args.config.now.full_index && (blocks_in c.args.config.now.index == 0)) ≡ false = search rules in
    let bad : bad_log c.args.log ≡ true = search rules in
    rw rows (rw size (rw lacks (rw bad refl)))

pub returns-then-has_log_and_blobs : goal.returns-then-has_log_and_blobs
returns-then-has_log_and_blobs c label has =
    let geometry = c.args.config.now.geometry in
    let plan = plan_with label c.args.config.now in
    let short = rw (c.row_len.ensures.exact nameless) at c.if-row_len-config.false in
    let rows : nat_lt (geometry.page - 24) (row_len plan) ≡ false = search (rules, short) in
    let misfit : pages_misfit geometry (c.args.blocks + c.blocks-2.result + c.blocks_of_log.result) ≡ false = search rules in
    let sum : c.blocks-2.result + unwrap_or c.args.log 0 ≡ blocks_of plan = omega (arith, c.blocks-2.ensures nameless, has) in
    let size : pages_misfit geometry (c.args.blocks + blocks_of plan) ≡ false =
    size-is geometry c.args.blocks c.blocks-2.result c.blocks_of_log.result (unwrap_or c.args.log 0) (blocks_of plan) sum (c.blocks_of_log.ensures.same geometry (c.args.blocks + c.blocks-2.result) c.requires.limits.geometry) ∙ misfit in
    let lacks : (c.args.config.now.full_index && (blocks_in c.args.config.now.index == 0)) ≡ false = search rules in
    let bad : bad_log c.args.log ≡ false = search rules in
    let blobs : (is_some c.args.log && not (blocks_in c.args.config.now.var == 0)) ≡ true = search rules in
    rw rows (rw size (rw lacks (rw bad (rw blobs refl))))

pub returns : goal.returns
returns c label has =
    let geometry = c.args.config.now.geometry in
    let plan = plan_with label c.args.config.now in
    let short = rw (c.row_len.ensures.exact nameless) at c.if-row_len-config.false in
    let rows : nat_lt (geometry.page - 24) (row_len plan) ≡ false = search (rules, short) in
    let misfit : pages_misfit geometry (c.args.blocks + c.blocks-2.result + c.blocks_of_log.result) ≡ false = search rules in
    let sum : c.blocks-2.result + unwrap_or c.args.log 0 ≡ blocks_of plan = omega (arith, c.blocks-2.ensures nameless, has) in
    let size : pages_misfit geometry (c.args.blocks + blocks_of plan) ≡ false =
    size-is geometry c.args.blocks c.blocks-2.result c.blocks_of_log.result (unwrap_or c.args.log 0) (blocks_of plan) sum (c.blocks_of_log.ensures.same geometry (c.args.blocks + c.blocks-2.result) c.requires.limits.geometry) ∙ misfit in
    let lacks : (c.args.config.now.full_index && (blocks_in c.args.config.now.index == 0)) ≡ false = search rules in
    let bad : bad_log c.args.log ≡ false = search rules in
    let blobs : (is_some c.args.log && not (blocks_in c.args.config.now.var == 0)) ≡ false = search rules in
    rw rows (rw size (rw lacks (rw bad (rw blobs refl))))
