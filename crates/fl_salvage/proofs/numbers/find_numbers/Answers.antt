use Rattle.std.proofs.Common.{◌≡◌, ℕ, List, sym, subst}
use Rattle.fl_salvage.specs.Pages.{AreFew, found_at, page_of}
use Rattle.fl_salvage.specs.declared.passed_over.PassedOver.{PassedOver}
use Rattle.fl_schema.specs.Schema.{layout_of}
use Rattle.fl_salvage.proofs.CountedPages.{few-none, numbers-next, passed-next}
use Rattle.fl_salvage.proofs.MediaOnlyRead.{tells-on, unread-later}
use Rattle.std.proofs.lemmas.Result.{err_from_is_err_and}
use Rattle.fl_image.proofs.MediaLooks.{looks-same, looks-then}
use Rattle.fl_salvage.specs.Faults.{IsUnread}
use Rattle.fl_salvage.specs.declared.fault.SalvageFault.{SalvageFault}
use Rattle.fl_salvage.proofs.numbers.find_numbers.Goals as goal

pub loop-place-init : goal.loop-place-init
loop-place-init g c = record {
  looks = looks-same _;
  room = c.requires.room;
  few = subst (λ (p : PassedOver). AreFew 0 p) (sym c.none-passed.ensures) few-none;
  numbers = λ tells. c.requires.empty;
  passed = λ tells. c.none-passed.ensures;
}

pub loop-place-preserved : goal.loop-place-preserved
loop-place-preserved g c =
    let looks = c.loop-place.invariant.looks in
    let layout = layout_of c.args.schema.now in
    let content = (g.M.Media.state c.args.media.now).content in
    record {
      looks = looks-then _ _ _ looks c.find_at.ensures.looks;
      room = c.find_at.ensures.room;
      few = c.with-passed.ensures.few;
      numbers = λ tells.
          let found_is = subst (λ (l : List ℕ). c.in_ok-found.found ≡ found_at layout c.args.ring l c.loop-place.place) looks.content (c.in_ok-found.ensures.found (tells-on _ _ looks tells)) in
          numbers-next layout c.args.ring content c.loop-place.place c.in_ok-found.found c.find_at.new.page c.loop-place.numbers.items c.keep_number.new.numbers.items found_is
          (λ rows. subst (λ (l : List ℕ). c.find_at.new.page ≡ page_of c.args.ring l c.loop-place.place) looks.content (c.in_ok-found.ensures.page (tells-on _ _ looks tells) rows))
          (c.loop-place.invariant.numbers tells) c.in_ok-keep_number.ensures.kept;
      passed = λ tells.
          let found_is = subst (λ (l : List ℕ). c.in_ok-found.found ≡ found_at layout c.args.ring l c.loop-place.place) looks.content (c.in_ok-found.ensures.found (tells-on _ _ looks tells)) in
          passed-next layout c.args.ring content c.loop-place.place c.in_ok-found.found c.loop-place.passed c.with-passed.result found_is (c.loop-place.invariant.passed tells) c.with-passed.ensures.exact;
    }

pub find_at-requires-clause-ring : goal.find_at-requires-clause-ring
find_at-requires-clause-ring g c = c.requires.ring

pub find_at-requires-clause-place : goal.find_at-requires-clause-place
find_at-requires-clause-place g c = c.loop-place-test.true

pub find_at-requires-clause-room : goal.find_at-requires-clause-room
find_at-requires-clause-room g c = c.loop-place.invariant.room

pub returns-in_err-found-clause-looks : goal.returns-in_err-found-clause-looks
returns-in_err-found-clause-looks g c = looks-then _ _ _ c.loop-place.invariant.looks c.find_at.ensures.looks

pub returns-in_err-found-clause-room : goal.returns-in_err-found-clause-room
returns-in_err-found-clause-room g c = c.find_at.ensures.room

pub returns-in_err-found-clause-numbers : goal.returns-in_err-found-clause-numbers
returns-in_err-found-clause-numbers g c =
    let p = err_from_is_err_and c.from_residual.result c.from_residual.ensures.1 in
    rw p.1 tt

pub returns-in_err-found-clause-passed : goal.returns-in_err-found-clause-passed
returns-in_err-found-clause-passed g c =
    let p = err_from_is_err_and c.from_residual.result c.from_residual.ensures.1 in
    rw p.1 tt

pub returns-in_err-found-clause-cause : goal.returns-in_err-found-clause-cause
returns-in_err-found-clause-cause g c =
    let p = err_from_is_err_and c.from_residual.result c.from_residual.ensures.1 in
    rw (p.1, p.2) (unread-later (g.M.Media.state c.args.media.now) (g.M.Media.state c.loop-place.media) (g.M.Media.state c.find_at.new.media) c.in_err-found.field-0.0 c.loop-place.invariant.looks c.in_err-found.ensures.cause)

pub returns-in_err-keep_number-clause-looks : goal.returns-in_err-keep_number-clause-looks
returns-in_err-keep_number-clause-looks g c = looks-then _ _ _ c.loop-place.invariant.looks c.find_at.ensures.looks

pub returns-in_err-keep_number-clause-room : goal.returns-in_err-keep_number-clause-room
returns-in_err-keep_number-clause-room g c = c.find_at.ensures.room

pub returns-in_err-keep_number-clause-numbers : goal.returns-in_err-keep_number-clause-numbers
returns-in_err-keep_number-clause-numbers g c =
    let p = err_from_is_err_and c.from_residual-in_err-keep_number.result c.from_residual-in_err-keep_number.ensures.1 in
    rw p.1 tt

pub returns-in_err-keep_number-clause-passed : goal.returns-in_err-keep_number-clause-passed
returns-in_err-keep_number-clause-passed g c =
    let p = err_from_is_err_and c.from_residual-in_err-keep_number.result c.from_residual-in_err-keep_number.ensures.1 in
    rw p.1 tt

pub returns-in_err-keep_number-clause-cause : goal.returns-in_err-keep_number-clause-cause
returns-in_err-keep_number-clause-cause g c =
    let p = err_from_is_err_and c.from_residual-in_err-keep_number.result c.from_residual-in_err-keep_number.ensures.1 in
    rw (p.1, p.2) (subst (λ (fault : SalvageFault). IsUnread (g.M.Media.state c.args.media.now) (g.M.Media.state c.find_at.new.media) fault) (sym c.in_err-keep_number.ensures.memory) tt)

pub returns-clause-looks : goal.returns-clause-looks
returns-clause-looks g c = c.loop-place.invariant.looks

pub returns-clause-room : goal.returns-clause-room
returns-clause-room g c = c.loop-place.invariant.room
