use Rattle.std.proofs.Common.{ℕ, MatchOption, List, refl, sym, ◌∙◌, Err}
use Rattle.fl_flash.specs.Flash.{page_at}
use Rattle.fl_ring.specs.Place.{shape_of}
use Rattle.fl_rules.specs.Rest.{IsRestBlank, RestBreaks}
use Rattle.fl_check.specs.Ruled.{NumbersTold}
use Rattle.fl_rules.specs.States.{HaveStates, StatesBreak}
use Rattle.fl_rules.specs.declared.rule.Rule.TheVariants.{State, Rest}
use Rattle.fl_frame.proofs.ReadsInTurn.{looks_by, looks_more}
use Rattle.fl_rules.proofs.LooksChangeNothing.{seen, fails_later}
use Rattle.fl_check.proofs.RulesTold.{told_by, fails_told}
use Rattle.std.proofs.lemmas.Result.{err_from_is_err_and}
use Rattle.fl_ring.proofs.Exists.{lies_still}
use Rattle.fl_check.proofs.ring_rules.rule_marked.Goals as goal

pub returns-clause-rules : goal.returns-clause-rules
returns-clause-rules g c = λ told marks.
    let f = g.F.Flash.state c.args.flash.now in
    let mid = g.F.Flash.state c.check_states.new.flash in
    let late = g.F.Flash.state c.check_rest.new.flash in
    let r = shape_of c.args.ring.now in
    let m = c.args.marks in
    let rest = c.in_ok-rest.rest in
    let answer = c.in_ok-told.told in
    let first = looks_by f mid _ c.check_states.ensures.reads in
    let then = looks_more f mid late first (looks_by mid late _ c.check_rest.ensures.reads) in
    record {
      m = m;
      marks = marks;
      state = told_by c.check_states.result c.in_ok-state.state _ (HaveStates (page_at f) r m) State (λ p. StatesBreak (page_at f) r m p) (sym c.first_page.ensures ∙ c.in_ok-state.was) c.check_states.ensures.states c.check_states.ensures.broken told;
      numbers = seen f late (λ (page : ℕ → List ℕ). NumbersTold (g.B.Form.holds c.args.form.now) page r m c.args.at_least answer.number answer.body answer.numbering) then c.in_ok-told.ensures.numbers told;
      keys = refl;
      rest = seen f mid (λ (page : ℕ → List ℕ). MatchOption rest (IsRestBlank page r m) (λ p. RestBreaks page r m p)) first
          (told_by c.check_rest.result rest _ (IsRestBlank (page_at mid) r m) Rest (λ p. RestBreaks (page_at mid) r m p) (sym c.first_page-2.ensures ∙ c.in_ok-rest.was) c.check_rest.ensures.blank c.check_rest.ensures.broken) told;
    }

pub check_states-requires-clause-lies : goal.check_states-requires-clause-lies
check_states-requires-clause-lies g c = c.requires.lies

pub check_states-requires-clause-room : goal.check_states-requires-clause-room
check_states-requires-clause-room g c = c.requires.room

pub check_states-requires-clause-within : goal.check_states-requires-clause-within
check_states-requires-clause-within g c = c.requires.within

pub check_rest-requires-clause-lies : goal.check_rest-requires-clause-lies
check_rest-requires-clause-lies g c = lies_still c.args.ring.now (g.F.Flash.state c.args.flash.now) (g.F.Flash.state c.check_states.new.flash) c.requires.lies c.check_states.ensures.reads.goes

pub check_rest-requires-clause-room : goal.check_rest-requires-clause-room
check_rest-requires-clause-room g c = c.check_states.ensures.room

pub check_rest-requires-clause-within : goal.check_rest-requires-clause-within
check_rest-requires-clause-within g c = c.requires.within

pub rule_numbers-requires-clause-lies : goal.rule_numbers-requires-clause-lies
rule_numbers-requires-clause-lies g c = lies_still c.args.ring.now (g.F.Flash.state c.args.flash.now) (g.F.Flash.state c.check_rest.new.flash) c.requires.lies (looks_more (g.F.Flash.state c.args.flash.now) (g.F.Flash.state c.check_states.new.flash) (g.F.Flash.state c.check_rest.new.flash) (looks_by (g.F.Flash.state c.args.flash.now) (g.F.Flash.state c.check_states.new.flash) _ c.check_states.ensures.reads) (looks_by (g.F.Flash.state c.check_states.new.flash) (g.F.Flash.state c.check_rest.new.flash) _ c.check_rest.ensures.reads)).goes

pub rule_numbers-requires-clause-room : goal.rule_numbers-requires-clause-room
rule_numbers-requires-clause-room g c = c.check_rest.ensures.room

pub rule_numbers-requires-clause-within : goal.rule_numbers-requires-clause-within
rule_numbers-requires-clause-within g c = c.requires.within

pub returns-in_err-state-clause-looks : goal.returns-in_err-state-clause-looks
returns-in_err-state-clause-looks g c = looks_by (g.F.Flash.state c.args.flash.now) (g.F.Flash.state c.check_states.new.flash) _ c.check_states.ensures.reads

pub returns-in_err-state-clause-room : goal.returns-in_err-state-clause-room
returns-in_err-state-clause-room g c = c.check_states.ensures.room

pub returns-in_err-state-clause-within : goal.returns-in_err-state-clause-within
returns-in_err-state-clause-within g c =
    let p = err_from_is_err_and c.from_residual.result c.from_residual.ensures.1 in
    rw p.1 tt

pub returns-in_err-state-clause-head : goal.returns-in_err-state-clause-head
returns-in_err-state-clause-head g c =
    let p = err_from_is_err_and c.from_residual.result c.from_residual.ensures.1 in
    rw p.1 tt

pub returns-in_err-state-clause-rules : goal.returns-in_err-state-clause-rules
returns-in_err-state-clause-rules g c =
    let p = err_from_is_err_and c.from_residual.result c.from_residual.ensures.1 in
    rw p.1 tt

pub returns-in_err-state-clause-fails : goal.returns-in_err-state-clause-fails
returns-in_err-state-clause-fails g c =
    let p = err_from_is_err_and c.from_residual.result c.from_residual.ensures.1 in
    rw (p.1, p.2) (fails_told c.check_states.result (Err c.in_err-state.field-0.0) _ (sym c.in_err-state.was ∙ c.first_page.ensures) c.check_states.ensures.fails)

pub returns-in_err-rest-clause-looks : goal.returns-in_err-rest-clause-looks
returns-in_err-rest-clause-looks g c = looks_more (g.F.Flash.state c.args.flash.now) (g.F.Flash.state c.check_states.new.flash) (g.F.Flash.state c.check_rest.new.flash) (looks_by (g.F.Flash.state c.args.flash.now) (g.F.Flash.state c.check_states.new.flash) _ c.check_states.ensures.reads) (looks_by (g.F.Flash.state c.check_states.new.flash) (g.F.Flash.state c.check_rest.new.flash) _ c.check_rest.ensures.reads)

pub returns-in_err-rest-clause-room : goal.returns-in_err-rest-clause-room
returns-in_err-rest-clause-room g c = c.check_rest.ensures.room

pub returns-in_err-rest-clause-within : goal.returns-in_err-rest-clause-within
returns-in_err-rest-clause-within g c =
    let p = err_from_is_err_and c.from_residual-in_err-rest.result c.from_residual-in_err-rest.ensures.1 in
    rw p.1 tt

pub returns-in_err-rest-clause-head : goal.returns-in_err-rest-clause-head
returns-in_err-rest-clause-head g c =
    let p = err_from_is_err_and c.from_residual-in_err-rest.result c.from_residual-in_err-rest.ensures.1 in
    rw p.1 tt

pub returns-in_err-rest-clause-rules : goal.returns-in_err-rest-clause-rules
returns-in_err-rest-clause-rules g c =
    let p = err_from_is_err_and c.from_residual-in_err-rest.result c.from_residual-in_err-rest.ensures.1 in
    rw p.1 tt

pub returns-in_err-rest-clause-fails : goal.returns-in_err-rest-clause-fails
returns-in_err-rest-clause-fails g c =
    let p = err_from_is_err_and c.from_residual-in_err-rest.result c.from_residual-in_err-rest.ensures.1 in
    rw (p.1, p.2) (fails_later (g.F.Flash.state c.args.flash.now) (g.F.Flash.state c.check_states.new.flash) (g.F.Flash.state c.check_rest.new.flash) c.in_err-rest.field-0.0 (looks_by (g.F.Flash.state c.args.flash.now) (g.F.Flash.state c.check_states.new.flash) _ c.check_states.ensures.reads)
    (fails_told c.check_rest.result (Err c.in_err-rest.field-0.0) _ (sym c.in_err-rest.was ∙ c.first_page-2.ensures) c.check_rest.ensures.fails))

pub returns-in_err-told-clause-looks : goal.returns-in_err-told-clause-looks
returns-in_err-told-clause-looks g c = looks_more (g.F.Flash.state c.args.flash.now) (g.F.Flash.state c.check_rest.new.flash) (g.F.Flash.state c.rule_numbers.new.flash) (looks_more (g.F.Flash.state c.args.flash.now) (g.F.Flash.state c.check_states.new.flash) (g.F.Flash.state c.check_rest.new.flash) (looks_by (g.F.Flash.state c.args.flash.now) (g.F.Flash.state c.check_states.new.flash) _ c.check_states.ensures.reads) (looks_by (g.F.Flash.state c.check_states.new.flash) (g.F.Flash.state c.check_rest.new.flash) _ c.check_rest.ensures.reads)) c.rule_numbers.ensures.looks

pub returns-in_err-told-clause-room : goal.returns-in_err-told-clause-room
returns-in_err-told-clause-room g c = c.rule_numbers.ensures.room

pub returns-in_err-told-clause-within : goal.returns-in_err-told-clause-within
returns-in_err-told-clause-within g c =
    let p = err_from_is_err_and c.from_residual-in_err-told.result c.from_residual-in_err-told.ensures.1 in
    rw p.1 tt

pub returns-in_err-told-clause-head : goal.returns-in_err-told-clause-head
returns-in_err-told-clause-head g c =
    let p = err_from_is_err_and c.from_residual-in_err-told.result c.from_residual-in_err-told.ensures.1 in
    rw p.1 tt

pub returns-in_err-told-clause-rules : goal.returns-in_err-told-clause-rules
returns-in_err-told-clause-rules g c =
    let p = err_from_is_err_and c.from_residual-in_err-told.result c.from_residual-in_err-told.ensures.1 in
    rw p.1 tt

pub returns-in_err-told-clause-fails : goal.returns-in_err-told-clause-fails
returns-in_err-told-clause-fails g c =
    let p = err_from_is_err_and c.from_residual-in_err-told.result c.from_residual-in_err-told.ensures.1 in
    rw (p.1, p.2) (fails_later (g.F.Flash.state c.args.flash.now) (g.F.Flash.state c.check_rest.new.flash) (g.F.Flash.state c.rule_numbers.new.flash) c.in_err-told.field-0.0 (looks_more (g.F.Flash.state c.args.flash.now) (g.F.Flash.state c.check_states.new.flash) (g.F.Flash.state c.check_rest.new.flash) (looks_by (g.F.Flash.state c.args.flash.now) (g.F.Flash.state c.check_states.new.flash) _ c.check_states.ensures.reads) (looks_by (g.F.Flash.state c.check_states.new.flash) (g.F.Flash.state c.check_rest.new.flash) _ c.check_rest.ensures.reads)) c.in_err-told.ensures.fails)

pub returns-clause-looks : goal.returns-clause-looks
returns-clause-looks g c = looks_more (g.F.Flash.state c.args.flash.now) (g.F.Flash.state c.check_rest.new.flash) (g.F.Flash.state c.rule_numbers.new.flash) (looks_more (g.F.Flash.state c.args.flash.now) (g.F.Flash.state c.check_states.new.flash) (g.F.Flash.state c.check_rest.new.flash) (looks_by (g.F.Flash.state c.args.flash.now) (g.F.Flash.state c.check_states.new.flash) _ c.check_states.ensures.reads) (looks_by (g.F.Flash.state c.check_states.new.flash) (g.F.Flash.state c.check_rest.new.flash) _ c.check_rest.ensures.reads)) c.rule_numbers.ensures.looks

pub returns-clause-room : goal.returns-clause-room
returns-clause-room g c = c.rule_numbers.ensures.room

pub returns-clause-within : goal.returns-clause-within
returns-clause-within g c = c.in_ok-told.ensures.within

pub returns-clause-head : goal.returns-clause-head
returns-clause-head g c = refl
