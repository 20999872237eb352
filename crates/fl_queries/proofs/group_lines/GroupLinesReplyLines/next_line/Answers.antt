use Rattle.std.proofs.Common.{◌≡◌, [], ◌∷◌, map, ap, Bool, true, false, Result, Ok, Err}
use Rattle.fl_frame.specs.Contents.{contents_of}
use Rattle.fl_machine.specs.Step.{group_reply}
use Rattle.fl_ops.specs.Groups.{input_of, group_in, groups_left}
use Rattle.fl_queries.specs.ListSays.{IsGroup}
use Rattle.std.proofs.lemmas.Result.{err_from_is_err_and}
use Rattle.fl_model.proofs.Lists.{each-push}
use Rattle.fl_page.specs.declared.fault.ReadFault.{ReadFault}
use Rattle.fl_page.specs.declared.fault.ReadFault.TheVariants.{BadPage}
use Rattle.fl_queries.proofs.group_lines.GroupLinesReplyLines.next_line.Goals as goal

never-bad : (more : Bool) (fault : ReadFault) → ◌≡◌ {A = Result Bool ReadFault} (Ok more) (Err fault) → ⊥
never-bad more fault is = cc

pub returns-in-Some-clause-makes : goal.returns-in-Some-clause-makes
returns-in-Some-clause-makes g c = λ form first before h. each-push IsGroup before (group_reply (group_in c.in-Some.group)) h tt

pub returns-in-Some-clause-steps : goal.returns-in-Some-clause-steps
returns-in-Some-clause-steps g c = λ form told.
    let step : groups_left c.args.self.now.groups (g.R.RowHere.present (input_of c.args.self.now.groups)) (g.R.Rows.left (input_of c.args.self.now.groups) (contents_of (g.F.Flash.state c.args.flash.now))) ≡ group_in c.in-Some.group ∷ groups_left c.step.new.self (g.R.RowHere.present (input_of c.step.new.self)) (g.R.Rows.left (input_of c.step.new.self) (contents_of (g.F.Flash.state c.args.flash.now))) = rw c.in-Some.is at (c.in_ok-group.ensures.steps told) in
    ap (map group_reply) step

pub returns-in-None-clause-steps : goal.returns-in-None-clause-steps
returns-in-None-clause-steps g c = λ form told.
    let step : (groups_left c.args.self.now.groups (g.R.RowHere.present (input_of c.args.self.now.groups)) (g.R.Rows.left (input_of c.args.self.now.groups) (contents_of (g.F.Flash.state c.args.flash.now))) ≡ []) × (groups_left c.step.new.self (g.R.RowHere.present (input_of c.step.new.self)) (g.R.Rows.left (input_of c.step.new.self) (contents_of (g.F.Flash.state c.args.flash.now))) ≡ []) = rw c.in-None.is at (c.in_ok-group.ensures.steps told) in
    (ap (map group_reply) step.0, ap (map group_reply) step.1)

pub returns-in-Some-clause-reads_only : goal.returns-in-Some-clause-reads_only
returns-in-Some-clause-reads_only g c = c.step.ensures.reads_only

pub returns-in-Some-clause-names : goal.returns-in-Some-clause-names
returns-in-Some-clause-names g c = c.step.ensures.input.same_names

pub returns-in-Some-clause-stays_told : goal.returns-in-Some-clause-stays_told
returns-in-Some-clause-stays_told g c = c.step.ensures.input.stays_told

pub returns-in-Some-clause-stays_ready : goal.returns-in-Some-clause-stays_ready
returns-in-Some-clause-stays_ready g c = c.step.ensures.input.stays_ready

pub returns-in-None-clause-reads_only : goal.returns-in-None-clause-reads_only
returns-in-None-clause-reads_only g c = c.step.ensures.reads_only

pub returns-in-None-clause-names : goal.returns-in-None-clause-names
returns-in-None-clause-names g c = c.step.ensures.input.same_names

pub returns-in-None-clause-stays_told : goal.returns-in-None-clause-stays_told
returns-in-None-clause-stays_told g c = c.step.ensures.input.stays_told

pub returns-in-None-clause-stays_ready : goal.returns-in-None-clause-stays_ready
returns-in-None-clause-stays_ready g c = c.step.ensures.input.stays_ready

pub returns-in_err-group-clause-fits : goal.returns-in_err-group-clause-fits
returns-in_err-group-clause-fits g c = λ form h. tt

pub returns-in_err-group-clause-same_test : goal.returns-in_err-group-clause-same_test
returns-in_err-group-clause-same_test g c = λ contents bad. (c.step.ensures.input.same_test contents bad).0

pub returns-in_err-group-clause-reads_only : goal.returns-in_err-group-clause-reads_only
returns-in_err-group-clause-reads_only g c = c.step.ensures.reads_only

pub returns-in_err-group-clause-names : goal.returns-in_err-group-clause-names
returns-in_err-group-clause-names g c = c.step.ensures.input.same_names

pub returns-in_err-group-clause-stays_told : goal.returns-in_err-group-clause-stays_told
returns-in_err-group-clause-stays_told g c = c.step.ensures.input.stays_told

pub returns-in_err-group-clause-stays_ready : goal.returns-in_err-group-clause-stays_ready
returns-in_err-group-clause-stays_ready g c = c.step.ensures.input.stays_ready

pub returns-in_err-group-clause-cause : goal.returns-in_err-group-clause-cause
returns-in_err-group-clause-cause g c = let p = err_from_is_err_and c.from_residual.result c.from_residual.ensures.1 in rw (p.1, p.2) c.in_err-group.ensures.cause

pub returns-in_err-group-clause-here : goal.returns-in_err-group-clause-here
returns-in_err-group-clause-here g c = let p = err_from_is_err_and c.from_residual.result c.from_residual.ensures.1 in rw p.1 tt

pub returns-in_err-group-clause-sound : goal.returns-in_err-group-clause-sound
returns-in_err-group-clause-sound g c = let p = err_from_is_err_and c.from_residual.result c.from_residual.ensures.1 in rw p.1 tt

pub returns-in_err-group-clause-all_sound : goal.returns-in_err-group-clause-all_sound
returns-in_err-group-clause-all_sound g c = let p = err_from_is_err_and c.from_residual.result c.from_residual.ensures.1 in rw p.1 tt

pub returns-in_err-group-clause-makes : goal.returns-in_err-group-clause-makes
returns-in_err-group-clause-makes g c = λ form first before h. let p = err_from_is_err_and c.from_residual.result c.from_residual.ensures.1 in rw p.1 h

pub returns-in_err-group-clause-most : goal.returns-in_err-group-clause-most
returns-in_err-group-clause-most g c = λ told. let p = err_from_is_err_and c.from_residual.result c.from_residual.ensures.1 in rw p.1 (c.in_err-group.ensures.most told)

pub returns-in_err-group-clause-least : goal.returns-in_err-group-clause-least
returns-in_err-group-clause-least g c = λ told lt. let p = err_from_is_err_and c.from_residual.result c.from_residual.ensures.1 in rw p.1 tt

pub returns-in_err-group-clause-none_left : goal.returns-in_err-group-clause-none_left
returns-in_err-group-clause-none_left g c = λ told. let p = err_from_is_err_and c.from_residual.result c.from_residual.ensures.1 in rw p.1 tt

pub returns-in-Some-clause-fits : goal.returns-in-Some-clause-fits
returns-in-Some-clause-fits g c = λ form h. tt

pub returns-in-Some-clause-same_test : goal.returns-in-Some-clause-same_test
returns-in-Some-clause-same_test g c = λ contents bad. (c.step.ensures.input.same_test contents bad).0

pub returns-in-Some-clause-cause : goal.returns-in-Some-clause-cause
returns-in-Some-clause-cause g c = tt

pub returns-in-Some-clause-here : goal.returns-in-Some-clause-here
returns-in-Some-clause-here g c = tt

pub returns-in-Some-clause-bad_page : goal.returns-in-Some-clause-bad_page
returns-in-Some-clause-bad_page g c = λ bad is. absurd (never-bad true (BadPage bad) is)

pub returns-in-Some-clause-sound : goal.returns-in-Some-clause-sound
returns-in-Some-clause-sound g c = c.in_ok-group.ensures.sound

pub returns-in-Some-clause-most : goal.returns-in-Some-clause-most
returns-in-Some-clause-most g c = c.in_ok-group.ensures.most

pub returns-in-Some-clause-least : goal.returns-in-Some-clause-least
returns-in-Some-clause-least g c = c.in_ok-group.ensures.least

pub returns-in-None-clause-fits : goal.returns-in-None-clause-fits
returns-in-None-clause-fits g c = λ form h. tt

pub returns-in-None-clause-same_test : goal.returns-in-None-clause-same_test
returns-in-None-clause-same_test g c = λ contents bad. (c.step.ensures.input.same_test contents bad).0

pub returns-in-None-clause-cause : goal.returns-in-None-clause-cause
returns-in-None-clause-cause g c = tt

pub returns-in-None-clause-here : goal.returns-in-None-clause-here
returns-in-None-clause-here g c = tt

pub returns-in-None-clause-bad_page : goal.returns-in-None-clause-bad_page
returns-in-None-clause-bad_page g c = λ bad is. absurd (never-bad false (BadPage bad) is)

pub returns-in-None-clause-sound : goal.returns-in-None-clause-sound
returns-in-None-clause-sound g c = c.in_ok-group.ensures.sound

pub returns-in-None-clause-most : goal.returns-in-None-clause-most
returns-in-None-clause-most g c = c.in_ok-group.ensures.most

pub returns-in-None-clause-least : goal.returns-in-None-clause-least
returns-in-None-clause-least g c = c.in_ok-group.ensures.least

pub returns-in-Some-clause-all_sound : goal.returns-in-Some-clause-all_sound
returns-in-Some-clause-all_sound g c = tt

pub returns-in-Some-clause-none_left : goal.returns-in-Some-clause-none_left
returns-in-Some-clause-none_left g c = λ told. tt

pub returns-in-None-clause-makes : goal.returns-in-None-clause-makes
returns-in-None-clause-makes g c = λ form first before h. h

pub returns-in-None-clause-all_sound : goal.returns-in-None-clause-all_sound
returns-in-None-clause-all_sound g c = rw c.in-None.is at c.in_ok-group.ensures.all_sound

pub returns-in-None-clause-none_left : goal.returns-in-None-clause-none_left
returns-in-None-clause-none_left g c = λ told. rw c.in-None.is at (c.in_ok-group.ensures.none_left told)
