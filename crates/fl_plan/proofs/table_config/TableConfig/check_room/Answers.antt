use Rattle.std.proofs.Common.{◌≡◌, ◌-◌, true, false, nat_lt, rules, refl}
use Rattle.fl_model.specs.Record.{row_len}
use Rattle.fl_words.specs.Config.{bad_blob_limit}
use Rattle.fl_plan.specs.Plan.{plan_of_table}
use Rattle.fl_plan.proofs.table_config.TableConfig.check_room.Goals as goal

pub returns-then-row_len-self : goal.returns-then-row_len-self
returns-then-row_len-self c label =
    let blobs : bad_blob_limit (plan_of_table label c.args.self.now) ≡ false = search rules in
    let long = rw (c.row_len.ensures.exact label) at c.if-row_len-self.true in
    let rows : nat_lt (c.args.self.now.geometry.page - 24) (row_len (plan_of_table label c.args.self.now)) ≡ true = search (rules, long) in
    rw blobs (rw rows refl)

pub returns : goal.returns
returns c label =
    let blobs : bad_blob_limit (plan_of_table label c.args.self.now) ≡ false = search rules in
    let short = rw (c.row_len.ensures.exact label) at c.if-row_len-self.false in
    let rows : nat_lt (c.args.self.now.geometry.page - 24) (row_len (plan_of_table label c.args.self.now)) ≡ false = search (rules, short) in
    rw blobs (rw rows refl)
