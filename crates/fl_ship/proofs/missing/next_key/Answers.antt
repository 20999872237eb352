use Rattle.std.proofs.Common.{◌≡◌, true, false, Some, Ok, Err, map, sym, ◌∙◌, ap, subst}
use Rattle.std.proofs.lemmas.Result.{err_from_is_err_and}
use Rattle.fl_cursor.specs.Cursor.{left_of, present_of, has_ended}
use Rattle.fl_cursor.specs.Going.{Goes}
use Rattle.fl_cursor.proofs.StepsOfRows.{steps-after}
use Rattle.fl_model.specs.Row.{Row}
use Rattle.fl_model.specs.Table.{Entry}
use Rattle.fl_frame.specs.Contents.{contents_of}
use Rattle.fl_ship.specs.Missing.{FirstIs}
use Rattle.fl_ship.proofs.Firsts.{first-found, first-none, first-unread}
use Rattle.fl_ship.proofs.missing.next_key.Goals as goal

pub returns-in_err-advance-clause-next : goal.returns-in_err-advance-clause-next
returns-in_err-advance-clause-next g c = λ entries told are.
    let held = contents_of (g.A.Flash.state c.args.from.now) in
    let old = c.args.cursor.now in
    let new = c.advance.new.self in
    let e = c.in_err-advance.ensures in
    let p = err_from_is_err_and c.from_residual.result c.from_residual.ensures.1 in
    rw (p.1, p.2) (first-unread (map (λ (entry : Entry). entry.kept) entries) c.in_err-advance.field-0.0 (left_of old held) (present_of new) (left_of new held)
    (steps-after old new held (g.A.Flash.state c.args.from.now).work.reads (g.A.Flash.state c.advance.new.flash).work.reads (Err c.in_err-advance.field-0.0) tt e.fails e.bad_page tt told))

pub returns-then-branch-clause-next : goal.returns-then-branch-clause-next
returns-then-branch-clause-next g c = λ entries told are.
    let held = contents_of (g.A.Flash.state c.args.from.now) in
    let new = c.advance.new.self in
    let goes : Goes true (contents_of (g.A.Flash.state c.args.from.now)) (g.A.Flash.state c.args.from.now).work.reads c.args.cursor.now (g.A.Flash.state c.advance.new.flash).work.reads c.advance.new.self =
    rw c.if-branch.true at c.in_ok-advance.ensures.goes in
    subst (λ key. FirstIs (map (λ (entry : Entry). entry.kept) entries) (Ok (Some key))) (sym (c.key.ensures ∙ ap (λ (r : Row). r.key) c.row.ensures.row))
    (first-found entries (present_of new) (left_of new held) (sym are ∙ goes.gives told))

pub returns-clause-next : goal.returns-clause-next
returns-clause-next g c = λ entries told are.
    let held = contents_of (g.A.Flash.state c.args.from.now) in
    let old = c.args.cursor.now in
    let new = c.advance.new.self in
    let goes : Goes false (contents_of (g.A.Flash.state c.args.from.now)) (g.A.Flash.state c.args.from.now).work.reads c.args.cursor.now (g.A.Flash.state c.advance.new.flash).work.reads c.advance.new.self =
    rw c.if-branch.false at c.in_ok-advance.ensures.goes in
    let end : has_ended c.advance.new.self ≡ true = rw c.if-branch.false at c.in_ok-advance.ensures.end in
    let steps = steps-after old new held (g.A.Flash.state c.args.from.now).work.reads (g.A.Flash.state c.advance.new.flash).work.reads (Ok false) goes tt tt end told in
    first-none entries (sym are ∙ steps.0)

pub returns-in_err-advance-clause-bad_page : goal.returns-in_err-advance-clause-bad_page
returns-in_err-advance-clause-bad_page g c =
    let p = err_from_is_err_and c.from_residual.result c.from_residual.ensures.1 in
    rw (p.1, p.2) c.in_err-advance.ensures.bad_page
