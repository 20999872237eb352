use Rattle.std.proofs.Common.{ℕ, List, length, Some, sym, ◌∙◌, ap}
use Rattle.std.proofs.lemmas.Result.{err_from_is_err_and}
use Rattle.fl_flash.specs.Buffer.{BufferState}
use Rattle.fl_mark.specs.declared.page_state.PageState.{PageState}
use Rattle.fl_index.specs.Page.{first_on, first_where, page_first}
use Rattle.fl_frame.proofs.SingleReads.{one_read, read_fails}
use Rattle.fl_ring.proofs.ReadsInTurn.{mark_fits, header_fits}
use Rattle.fl_index.proofs.mount.read_first.Goals as goal

pub read-requires-clause-exists : goal.read-requires-clause-exists
read-requires-clause-exists g c = c.requires.exists

pub read-requires-clause-room : goal.read-requires-clause-room
read-requires-clause-room g c = c.requires.room

pub returns-in_err-read-clause-room : goal.returns-in_err-read-clause-room
returns-in_err-read-clause-room g c = c.in_err-read.ensures.size_stays

pub returns-in_err-read-clause-none : goal.returns-in_err-read-clause-none
returns-in_err-read-clause-none g c = c.in_err-read.ensures.none

pub returns-in_err-read-clause-first : goal.returns-in_err-read-clause-first
returns-in_err-read-clause-first g c =
    let p = err_from_is_err_and c.from_residual.result c.from_residual.ensures.1 in
    rw p.1 tt

pub returns-in_err-read-clause-power : goal.returns-in_err-read-clause-power
returns-in_err-read-clause-power g c =
    let p = err_from_is_err_and c.from_residual.result c.from_residual.ensures.1 in
    rw p.1 tt

pub returns-clause-room : goal.returns-clause-room
returns-clause-room g c = ap (λ (b : BufferState). length b.bytes) c.forget.ensures ∙ c.in_ok-read.ensures.size_stays

pub returns-clause-none : goal.returns-clause-none
returns-clause-none g c = ap (λ (b : BufferState). b.holds) c.forget.ensures

pub returns-in_err-read-clause-reads : goal.returns-in_err-read-clause-reads
returns-in_err-read-clause-reads g c = one_read _ _ _ _ _ _ c.read.ensures

pub returns-in_err-read-clause-fails : goal.returns-in_err-read-clause-fails
returns-in_err-read-clause-fails g c =
    let p = err_from_is_err_and c.from_residual.result c.from_residual.ensures.1 in
    rw (p.1, p.2) (read_fails _ _ _ _ c.in_err-read.field-0.0 _ c.in_err-read.ensures)

pub returns-clause-reads : goal.returns-clause-reads
returns-clause-reads g c = one_read _ _ _ _ _ _ c.read.ensures

pub returns-clause-power : goal.returns-clause-power
returns-clause-power g c = c.in_ok-read.ensures.cause.on

pub state_of-requires : goal.state_of-requires
state_of-requires g c = mark_fits _ _ (ap (λ (l : List ℕ). length l) c.bytes-bytes.ensures ∙ (ap (λ (b : BufferState). length b.bytes) c.forget.ensures ∙ (c.in_ok-read.ensures.size_stays ∙ c.requires.room))) (g.met.F.Flash.serves c.args.flash.now).page_least

pub first_in-requires : goal.first_in-requires
first_in-requires g c = header_fits _ _ (ap (λ (l : List ℕ). length l) c.bytes-bytes.ensures ∙ (ap (λ (b : BufferState). length b.bytes) c.forget.ensures ∙ (c.in_ok-read.ensures.size_stays ∙ c.requires.room))) (g.met.F.Flash.serves c.args.flash.now).page_least

pub returns-clause-first : goal.returns-clause-first
returns-clause-first g c = λ told.
    let bytes = c.bytes-bytes.result.now in
    ap (λ (n : ℕ). Some n) c.first_in.ensures ∙ (ap (λ (s : PageState). first_where s (page_first bytes)) (sym c.in-Committed.is ∙ c.state_of.ensures)
    ∙ ap first_on (c.bytes-bytes.ensures ∙ (ap (λ (b : BufferState). b.bytes) c.forget.ensures ∙ c.in_ok-read.ensures.bytes told)))
