use Rattle.std.proofs.Common.{inl, inr, ℕ, List, le_refl, subst}
use Rattle.std.proofs.lemmas.Result.{err_from_is_err_and}
use Rattle.fl_base.specs.Causes.{Appends, AppendsFront}
use Rattle.fl_base.proofs.Appended.{appends-none}
use Rattle.fl_image.proofs.MediaLooks.{looks-same, looks-then}
use Rattle.fl_salvage.specs.Text.{form_of, salvaged_text}
use Rattle.fl_salvage.proofs.SalvageEnds.{err-ends}
use Rattle.fl_salvage.proofs.MediaOnlyRead.{tells-on, caused-later, unread-caused}
use Rattle.fl_salvage.proofs.salvage.salvage_table.Goals as goal

pub returns-in_err-rooms-clause-ends : goal.returns-in_err-rooms-clause-ends
returns-in_err-rooms-clause-ends g c tells = err-ends (form_of c.args.table.now) (g.M.Media.state c.args.media.now).content _ _ _ c.from_residual.ensures.0 (inl (appends-none (g.K.Sink.written c.args.out.now)))

pub returns-in_err-numbers-clause-ends : goal.returns-in_err-numbers-clause-ends
returns-in_err-numbers-clause-ends g c tells = err-ends (form_of c.args.table.now) (g.M.Media.state c.args.media.now).content _ _ _ c.from_residual-in_err-numbers.ensures.0 (inl (appends-none (g.K.Sink.written c.args.out.now)))

pub returns-in_err-passed-clause-ends : goal.returns-in_err-passed-clause-ends
returns-in_err-passed-clause-ends g c tells = err-ends (form_of c.args.table.now) (g.M.Media.state c.args.media.now).content _ _ _ c.from_residual-in_err-passed.ensures.0 (inl (appends-none (g.K.Sink.written c.args.out.now)))

pub returns-in_err-passed-clause-cause : goal.returns-in_err-passed-clause-cause
returns-in_err-passed-clause-cause g c =
    let p = err_from_is_err_and c.from_residual-in_err-passed.result c.from_residual-in_err-passed.ensures.1 in
    rw (p.1, p.2) (unread-caused (g.M.Media.state c.args.media.now) (g.M.Media.state c.find_numbers.new.media) (g.K.Sink.faults c.args.out.now) (g.K.Sink.faults c.args.out.now) c.in_err-passed.field-0.0 c.in_err-passed.ensures.cause)

pub returns-in_err-write_table-clause-ends : goal.returns-in_err-write_table-clause-ends
returns-in_err-write_table-clause-ends g c tells =
    let looks = c.find_numbers.ensures.looks in
    let wrote = subst (λ (l : List ℕ). AppendsFront (g.K.Sink.written c.args.out.now) (g.K.Sink.written c.write_table.new.out) (salvaged_text (form_of c.args.table.now) l c.deref.result.now)) looks.content
    (c.in_err-write_table.ensures.writes (tells-on _ _ looks tells)) in
    err-ends (form_of c.args.table.now) (g.M.Media.state c.args.media.now).content _ _ _ c.from_residual-in_err-write_table.ensures.0 (inr (record {
      numbers = c.find_numbers.new.numbers.items;
      ordered = c.in_ok-passed.ensures.numbers tells;
      wrote = subst (λ (l : List ℕ). AppendsFront (g.K.Sink.written c.args.out.now) (g.K.Sink.written c.write_table.new.out) (salvaged_text (form_of c.args.table.now) (g.M.Media.state c.args.media.now).content l)) c.deref.ensures.value wrote;
    }))

pub returns-in_err-write_table-clause-cause : goal.returns-in_err-write_table-clause-cause
returns-in_err-write_table-clause-cause g c =
    let p = err_from_is_err_and c.from_residual-in_err-write_table.result c.from_residual-in_err-write_table.ensures.1 in
    rw (p.1, p.2) (caused-later (g.M.Media.state c.args.media.now) (g.M.Media.state c.find_numbers.new.media) (g.M.Media.state c.write_table.new.media) (g.K.Sink.faults c.args.out.now) (g.K.Sink.faults c.args.out.now) (g.K.Sink.faults c.write_table.new.out) c.in_err-write_table.field-0.0 c.find_numbers.ensures.looks (le_refl (g.K.Sink.faults c.args.out.now)) c.in_err-write_table.ensures.cause)

pub returns-clause-ends : goal.returns-clause-ends
returns-clause-ends g c tells =
    let looks = c.find_numbers.ensures.looks in
    let wrote = subst (λ (l : List ℕ). Appends (g.K.Sink.written c.args.out.now) (g.K.Sink.written c.write_table.new.out) (salvaged_text (form_of c.args.table.now) l c.deref.result.now)) looks.content
    (c.in_ok-write_table.ensures.writes (tells-on _ _ looks tells)) in (
      c.in_ok-passed.ensures.passed tells,
      record {
        numbers = c.find_numbers.new.numbers.items;
        ordered = c.in_ok-passed.ensures.numbers tells;
        wrote = subst (λ (l : List ℕ). Appends (g.K.Sink.written c.args.out.now) (g.K.Sink.written c.write_table.new.out) (salvaged_text (form_of c.args.table.now) (g.M.Media.state c.args.media.now).content l)) c.deref.ensures.value wrote;
      },
    )

pub returns-in_err-rooms-clause-looks : goal.returns-in_err-rooms-clause-looks
returns-in_err-rooms-clause-looks g c = looks-same (g.M.Media.state c.args.media.now)

pub returns-in_err-rooms-clause-later : goal.returns-in_err-rooms-clause-later
returns-in_err-rooms-clause-later g c = le_refl (g.K.Sink.faults c.args.out.now)

pub returns-in_err-rooms-clause-cause : goal.returns-in_err-rooms-clause-cause
returns-in_err-rooms-clause-cause g c =
    let p = err_from_is_err_and c.from_residual.result c.from_residual.ensures.1 in
    rw (p.1, p.2) tt

pub returns-in_err-numbers-clause-looks : goal.returns-in_err-numbers-clause-looks
returns-in_err-numbers-clause-looks g c = looks-same (g.M.Media.state c.args.media.now)

pub returns-in_err-numbers-clause-later : goal.returns-in_err-numbers-clause-later
returns-in_err-numbers-clause-later g c = le_refl (g.K.Sink.faults c.args.out.now)

pub returns-in_err-numbers-clause-cause : goal.returns-in_err-numbers-clause-cause
returns-in_err-numbers-clause-cause g c =
    let p = err_from_is_err_and c.from_residual-in_err-numbers.result c.from_residual-in_err-numbers.ensures.1 in
    rw (p.1, p.2) tt

pub find_numbers-requires-clause-ring : goal.find_numbers-requires-clause-ring
find_numbers-requires-clause-ring g c = c.args.table.now.rows_are

pub find_numbers-requires-clause-empty : goal.find_numbers-requires-clause-empty
find_numbers-requires-clause-empty g c = c.in_ok-numbers.ensures

pub returns-in_err-passed-clause-looks : goal.returns-in_err-passed-clause-looks
returns-in_err-passed-clause-looks g c = c.find_numbers.ensures.looks

pub returns-in_err-passed-clause-later : goal.returns-in_err-passed-clause-later
returns-in_err-passed-clause-later g c = le_refl (g.K.Sink.faults c.args.out.now)

pub returns-in_err-write_table-clause-looks : goal.returns-in_err-write_table-clause-looks
returns-in_err-write_table-clause-looks g c = looks-then _ _ _ c.find_numbers.ensures.looks c.write_table.ensures.looks

pub returns-in_err-write_table-clause-later : goal.returns-in_err-write_table-clause-later
returns-in_err-write_table-clause-later g c = c.write_table.ensures.later

pub returns-clause-looks : goal.returns-clause-looks
returns-clause-looks g c = looks-then _ _ _ c.find_numbers.ensures.looks c.write_table.ensures.looks

pub returns-clause-later : goal.returns-clause-later
returns-clause-later g c = c.write_table.ensures.later
