use Rattle.std.proofs.Common.{◌≤◌, ℕ, List, length, Ok, refl, sym, ◌∙◌, ap, subst}
use Rattle.std.proofs.lemmas.Bool.{true≢false}
use Rattle.std.proofs.lemmas.Result.{err_from_is_err_and}
use Rattle.fl_frame.proofs.ReadsInTurn.{was_on}
use Rattle.fl_mark.specs.Mark.{state_of_page}
use Rattle.fl_flash.specs.declared.flash.FlashFault.TheVariants.{PowerLost}
use Rattle.fl_ring.proofs.Mounts.{err_as}
use Rattle.fl_frame.proofs.SingleReads.{one_read, read_fails}
use Rattle.fl_ring.proofs.page_state.look.Goals as goal

pub read-requires-clause-exists : goal.read-requires-clause-exists
read-requires-clause-exists g c = c.requires.exists

pub read-requires-clause-room : goal.read-requires-clause-room
read-requires-clause-room g c = c.requires.room

pub returns-in_err-read-clause-reads : goal.returns-in_err-read-clause-reads
returns-in_err-read-clause-reads g c = one_read _ _ _ _ _ _ c.read.ensures

pub returns-in_err-read-clause-room : goal.returns-in_err-read-clause-room
returns-in_err-read-clause-room g c = c.in_err-read.ensures.size_stays

pub returns-in_err-read-clause-state : goal.returns-in_err-read-clause-state
returns-in_err-read-clause-state g c =
    let p = err_from_is_err_and c.from_residual.result c.from_residual.ensures.1 in
    rw p.1 tt

pub returns-in_err-read-clause-bytes : goal.returns-in_err-read-clause-bytes
returns-in_err-read-clause-bytes g c =
    let p = err_from_is_err_and c.from_residual.result c.from_residual.ensures.1 in
    rw p.1 tt

pub returns-in_err-read-clause-power : goal.returns-in_err-read-clause-power
returns-in_err-read-clause-power g c =
    let p = err_from_is_err_and c.from_residual.result c.from_residual.ensures.1 in
    rw p.1 tt

pub returns-in_err-read-clause-fails : goal.returns-in_err-read-clause-fails
returns-in_err-read-clause-fails g c =
    let p = err_from_is_err_and c.from_residual.result c.from_residual.ensures.1 in
    rw (p.1, p.2) (read_fails _ _ _ _ c.in_err-read.field-0.0 _ c.in_err-read.ensures)

pub returns-in_err-read-clause-off : goal.returns-in_err-read-clause-off
returns-in_err-read-clause-off g c =
    let p = err_from_is_err_and c.from_residual.result c.from_residual.ensures.1 in
    rw (p.1, p.2) (λ down. let x = c.in_err-read.ensures.off down in (err_as c.in_err-read.field-0.0 PowerLost x.0, x.1))

pub state_of-requires : goal.state_of-requires
state_of-requires g c = subst (λ (n : ℕ). 8 ≤ n) (sym (ap (λ (l : List ℕ). length l) c.bytes.ensures ∙ c.in_ok-read.ensures.size_stays)) c.requires.size

pub returns-clause-reads : goal.returns-clause-reads
returns-clause-reads g c = one_read _ _ _ _ _ _ c.read.ensures

pub returns-clause-room : goal.returns-clause-room
returns-clause-room g c = c.in_ok-read.ensures.size_stays

pub returns-clause-state : goal.returns-clause-state
returns-clause-state g c = λ told. c.state_of.ensures ∙ ap state_of_page (c.bytes.ensures ∙ c.in_ok-read.ensures.bytes told)

pub returns-clause-bytes : goal.returns-clause-bytes
returns-clause-bytes g c = c.in_ok-read.ensures.bytes

pub returns-clause-off : goal.returns-clause-off
returns-clause-off g c = λ down. absurd (true≢false (sym (was_on (g.F.Flash.state c.args.flash.now) (Ok c.in_ok-read.field-0) (g.F.Flash.state c.read.new.self) c.in_ok-read.field-0 c.in_ok-read.ensures.off refl) ∙ down))

pub returns-clause-power : goal.returns-clause-power
returns-clause-power g c = c.in_ok-read.ensures.cause.on
