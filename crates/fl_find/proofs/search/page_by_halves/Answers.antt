use Rattle.std.proofs.Common.{rules, ◌≡◌, false, IsTrue, refl, sym, ◌∙◌, ap, subst}
use Rattle.fl_frame.specs.Contents.{Contents}
use Rattle.std.specs.Option.{is_some}
use Rattle.std.proofs.lemmas.Result.{err_from_is_err_and}
use Rattle.fl_ring.specs.Place.{shape_of}
use Rattle.fl_schema.specs.Schema.{layout_of}
use Rattle.fl_find.proofs.PageLooks.{looks-then, looks-tell, fails-later, rose-later, few-more, most-more}
use Rattle.fl_find.proofs.Moves.{starts-none}
use Rattle.std.proofs.Math.Nat.{le-add_right}
use Rattle.fl_find.proofs.search.page_by_halves.Goals as goal

pub returns-in_err-read_first-clause-looks : goal.returns-in_err-read_first-clause-looks
returns-in_err-read_first-clause-looks g c = looks-then _ _ _ c.halves.ensures.looks c.read_first.ensures.looks

pub returns-in_err-read_first-clause-fails : goal.returns-in_err-read_first-clause-fails
returns-in_err-read_first-clause-fails g c =
    let p = err_from_is_err_and c.from_residual-in_err-read_first.result c.from_residual-in_err-read_first.ensures.1 in
    let within = rw c.in-Some.is at c.in_ok-number.ensures.within in
    let fails = c.in_err-read_first.ensures.fails (record { from = within.0; before = within.1 }) in
    rw (p.1, p.2) (fails-later _ _ (g.F.Flash.state c.args.flash.now) _ _ _ _ c.in_err-read_first.field-0.0 refl refl c.halves.ensures.looks fails)

pub returns-then-is_none-clause-looks : goal.returns-then-is_none-clause-looks
returns-then-is_none-clause-looks g c = looks-then _ _ _ c.halves.ensures.looks c.read_first.ensures.looks

pub returns-then-is_none-clause-fails : goal.returns-then-is_none-clause-fails
returns-then-is_none-clause-fails g c = (
  (λ told.
      let starts = rw c.in-Some.is at c.in_ok-number.ensures.starts told in
      let none : is_some c.in_ok-read_first.field-0 ≡ false = search rules in
      absurd (starts-none (layout_of c.args.schema.now) (shape_of c.args.ring.now) _ _ c.in-Some.number c.args.key c.in_ok-read_first.field-0 c.halves.ensures.looks starts
      (c.in_ok-read_first.ensures.key (subst (λ b. IsTrue b) (sym (looks-tell _ _ c.halves.ensures.looks)) told)) none)),
  rose-later (g.F.Flash.state c.args.flash.now) (g.F.Flash.state c.halves.new.flash) (g.F.Flash.state c.read_first.new.flash) (rw c.in-Some.is at c.in_ok-number.ensures.some) c.read_first.ensures.looks,
)

pub returns-clause-looks : goal.returns-clause-looks
returns-clause-looks g c = looks-then _ _ _ c.halves.ensures.looks c.read_first.ensures.looks

pub returns-clause-starts : goal.returns-clause-starts
returns-clause-starts g c = λ told. let starts = rw c.in-Some.is at c.in_ok-number.ensures.starts told in starts

pub returns-in_err-number-clause-looks : goal.returns-in_err-number-clause-looks
returns-in_err-number-clause-looks g c = c.halves.ensures.looks

pub returns-in_err-number-clause-lies : goal.returns-in_err-number-clause-lies
returns-in_err-number-clause-lies g c = c.halves.ensures.lies

pub returns-in_err-number-clause-room : goal.returns-in_err-number-clause-room
returns-in_err-number-clause-room g c = c.halves.ensures.room

pub returns-in_err-number-clause-fresh : goal.returns-in_err-number-clause-fresh
returns-in_err-number-clause-fresh g c = c.halves.ensures.fresh

pub returns-in_err-number-clause-limit : goal.returns-in_err-number-clause-limit
returns-in_err-number-clause-limit g c = λ told. few-more _ _ _ _ _ (c.halves.ensures.limit told) (le-add_right _ 1)

pub returns-in_err-number-clause-most : goal.returns-in_err-number-clause-most
returns-in_err-number-clause-most g c = most-more _ _ _ _ c.halves.ensures.most (le-add_right _ 1)

pub returns-in_default-clause-looks : goal.returns-in_default-clause-looks
returns-in_default-clause-looks g c = c.halves.ensures.looks

pub returns-in_default-clause-lies : goal.returns-in_default-clause-lies
returns-in_default-clause-lies g c = c.halves.ensures.lies

pub returns-in_default-clause-room : goal.returns-in_default-clause-room
returns-in_default-clause-room g c = c.halves.ensures.room

pub returns-in_default-clause-fresh : goal.returns-in_default-clause-fresh
returns-in_default-clause-fresh g c = c.halves.ensures.fresh

pub returns-in_default-clause-limit : goal.returns-in_default-clause-limit
returns-in_default-clause-limit g c = λ told. few-more _ _ _ _ _ (c.halves.ensures.limit told) (le-add_right _ 1)

pub returns-in_default-clause-most : goal.returns-in_default-clause-most
returns-in_default-clause-most g c = most-more _ _ _ _ c.halves.ensures.most (le-add_right _ 1)

pub returns-in_err-number-clause-page : goal.returns-in_err-number-clause-page
returns-in_err-number-clause-page g c =
    λ told up.
    let p = err_from_is_err_and c.from_residual.result c.from_residual.ensures.1 in
    rw p.1 tt

pub returns-in_err-number-clause-starts : goal.returns-in_err-number-clause-starts
returns-in_err-number-clause-starts g c =
    λ told.
    let p = err_from_is_err_and c.from_residual.result c.from_residual.ensures.1 in
    rw p.1 tt

pub returns-in_err-number-clause-some : goal.returns-in_err-number-clause-some
returns-in_err-number-clause-some g c =
    let p = err_from_is_err_and c.from_residual.result c.from_residual.ensures.1 in
    rw p.1 tt

pub returns-in_err-number-clause-holds : goal.returns-in_err-number-clause-holds
returns-in_err-number-clause-holds g c =
    let p = err_from_is_err_and c.from_residual.result c.from_residual.ensures.1 in
    rw p.1 tt

pub returns-in_err-number-clause-within : goal.returns-in_err-number-clause-within
returns-in_err-number-clause-within g c =
    let p = err_from_is_err_and c.from_residual.result c.from_residual.ensures.1 in
    rw p.1 tt

pub returns-in_err-number-clause-fails : goal.returns-in_err-number-clause-fails
returns-in_err-number-clause-fails g c =
    let p = err_from_is_err_and c.from_residual.result c.from_residual.ensures.1 in
    rw (p.1, p.2) c.in_err-number.ensures.fails

pub returns-in_default-clause-page : goal.returns-in_default-clause-page
returns-in_default-clause-page g c = λ told up. rw c.in_default.is at c.in_ok-number.ensures.page told up

pub returns-in_err-read_first-clause-lies : goal.returns-in_err-read_first-clause-lies
returns-in_err-read_first-clause-lies g c = c.read_first.ensures.lies

pub returns-in_err-read_first-clause-room : goal.returns-in_err-read_first-clause-room
returns-in_err-read_first-clause-room g c = c.read_first.ensures.room ∙ c.halves.ensures.room

pub returns-in_err-read_first-clause-fresh : goal.returns-in_err-read_first-clause-fresh
returns-in_err-read_first-clause-fresh g c = λ fresh. c.read_first.ensures.fresh

pub returns-in_err-read_first-clause-limit : goal.returns-in_err-read_first-clause-limit
returns-in_err-read_first-clause-limit g c = λ told. few-more _ _ _ _ _ (c.halves.ensures.limit told) c.read_first.ensures.most

pub returns-in_err-read_first-clause-most : goal.returns-in_err-read_first-clause-most
returns-in_err-read_first-clause-most g c = most-more _ _ _ _ c.halves.ensures.most c.read_first.ensures.most

pub returns-then-is_none-clause-lies : goal.returns-then-is_none-clause-lies
returns-then-is_none-clause-lies g c = c.read_first.ensures.lies

pub returns-then-is_none-clause-room : goal.returns-then-is_none-clause-room
returns-then-is_none-clause-room g c = c.read_first.ensures.room ∙ c.halves.ensures.room

pub returns-then-is_none-clause-fresh : goal.returns-then-is_none-clause-fresh
returns-then-is_none-clause-fresh g c = λ fresh. c.read_first.ensures.fresh

pub returns-then-is_none-clause-limit : goal.returns-then-is_none-clause-limit
returns-then-is_none-clause-limit g c = λ told. few-more _ _ _ _ _ (c.halves.ensures.limit told) c.read_first.ensures.most

pub returns-then-is_none-clause-most : goal.returns-then-is_none-clause-most
returns-then-is_none-clause-most g c = most-more _ _ _ _ c.halves.ensures.most c.read_first.ensures.most

pub returns-clause-lies : goal.returns-clause-lies
returns-clause-lies g c = c.read_first.ensures.lies

pub returns-clause-room : goal.returns-clause-room
returns-clause-room g c = c.read_first.ensures.room ∙ c.halves.ensures.room

pub returns-clause-fresh : goal.returns-clause-fresh
returns-clause-fresh g c = λ fresh. c.read_first.ensures.fresh

pub returns-clause-limit : goal.returns-clause-limit
returns-clause-limit g c = λ told. few-more _ _ _ _ _ (c.halves.ensures.limit told) c.read_first.ensures.most

pub returns-clause-most : goal.returns-clause-most
returns-clause-most g c = most-more _ _ _ _ c.halves.ensures.most c.read_first.ensures.most

pub returns-in_err-read_first-clause-page : goal.returns-in_err-read_first-clause-page
returns-in_err-read_first-clause-page g c =
    λ told up.
    let p = err_from_is_err_and c.from_residual-in_err-read_first.result c.from_residual-in_err-read_first.ensures.1 in
    rw p.1 tt

pub returns-in_err-read_first-clause-starts : goal.returns-in_err-read_first-clause-starts
returns-in_err-read_first-clause-starts g c =
    λ told.
    let p = err_from_is_err_and c.from_residual-in_err-read_first.result c.from_residual-in_err-read_first.ensures.1 in
    rw p.1 tt

pub returns-in_err-read_first-clause-some : goal.returns-in_err-read_first-clause-some
returns-in_err-read_first-clause-some g c =
    let p = err_from_is_err_and c.from_residual-in_err-read_first.result c.from_residual-in_err-read_first.ensures.1 in
    rw p.1 tt

pub returns-in_err-read_first-clause-holds : goal.returns-in_err-read_first-clause-holds
returns-in_err-read_first-clause-holds g c =
    let p = err_from_is_err_and c.from_residual-in_err-read_first.result c.from_residual-in_err-read_first.ensures.1 in
    rw p.1 tt

pub returns-in_err-read_first-clause-within : goal.returns-in_err-read_first-clause-within
returns-in_err-read_first-clause-within g c =
    let p = err_from_is_err_and c.from_residual-in_err-read_first.result c.from_residual-in_err-read_first.ensures.1 in
    rw p.1 tt

pub returns-clause-page : goal.returns-clause-page
returns-clause-page g c = λ told up. rw c.in-Some.is at c.in_ok-number.ensures.page told up

pub returns-clause-some : goal.returns-clause-some
returns-clause-some g c = rose-later (g.F.Flash.state c.args.flash.now) (g.F.Flash.state c.halves.new.flash) (g.F.Flash.state c.read_first.new.flash) (rw c.in-Some.is at c.in_ok-number.ensures.some) c.read_first.ensures.looks

pub returns-clause-within : goal.returns-clause-within
returns-clause-within g c = rw c.in-Some.is at c.in_ok-number.ensures.within

pub halves-requires-clause-lies : goal.halves-requires-clause-lies
halves-requires-clause-lies g c = c.requires.lies

pub halves-requires-clause-room : goal.halves-requires-clause-room
halves-requires-clause-room g c = c.requires.room

pub read_first-requires-clause-lies : goal.read_first-requires-clause-lies
read_first-requires-clause-lies g c = c.halves.ensures.lies

pub read_first-requires-clause-room : goal.read_first-requires-clause-room
read_first-requires-clause-room g c = c.halves.ensures.room ∙ (c.requires.room ∙ sym (ap (λ (x : Contents). x.geometry.page) c.halves.ensures.looks.reads.contents))
