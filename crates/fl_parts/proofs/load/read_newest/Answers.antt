use Rattle.std.proofs.Common.{rules, ◌≡◌, ◌+◌, ◌<◌, ◌≤◌, ℕ, List, [], ◌∷◌, ◌++◌, Option, Some, unwrap_or, length, sym, ◌∙◌, ap, subst, refl, arith}
use Rattle.std.specs.Prelude.{◌^◌}
use Rattle.std.proofs.lemmas.List.{length-set}
use Rattle.std.proofs.lemmas.Result.{err_from_is_err_and}
use Rattle.fl_find.specs.Index.{IndexOf}
use Rattle.fl_flash.specs.Buffer.{BufferState}
use Rattle.fl_flash.specs.Flash.{page_at}
use Rattle.fl_ring.proofs.Exists.{page_exists}
use Rattle.fl_frame.proofs.ReadsInTurn.{no_reads, none_read}
use Rattle.fl_schema.specs.Schema.{layout_of}
use Rattle.fl_spline.specs.Points.{IsFurther}
use Rattle.fl_parts.specs.ByEntries.{mount_fault}
use Rattle.fl_parts.specs.Knowing.{KnowsWith, is_waiting}
use Rattle.fl_parts.specs.declared.mount_fault.MountFault.{MountFault}
use Rattle.fl_frame.specs.Reads.{OnlyReads}
use Rattle.fl_frame.proofs.SingleReads.{one_read, read_fails}
use Rattle.fl_parts.specs.declared.known.Known.{Known}
use Rattle.fl_parts.specs.declared.known.Listed.{Listed}
use Rattle.fl_parts.specs.declared.known.PageFacts.{PageFacts}
use Rattle.fl_parts.proofs.KeptParts.{fails-refused, keeps-none, some-places}
use Rattle.fl_parts.proofs.Newest.{found-refused, found-blamed, found-all}
use Rattle.fl_parts.proofs.Refused.{page-page}
use Rattle.fl_parts.proofs.Unlisted.{read-some}
use Rattle.fl_parts.proofs.Untouched.{no-success}
use Rattle.fl_parts.proofs.load.read_newest.Goals as goal

few-rows : (rows all : ℕ) → all < 65536 → rows ≡ all → rows < 65536
few-rows rows all few is = omega (arith, few, is)

all-few : (rows more : ℕ) → rows + 65536 < 2 ^ 64 → more < 65536 → rows + more < 2 ^ 64
all-few rows more few le = omega (arith, few, le)

pub read-requires-clause-exists : goal.read-requires-clause-exists
read-requires-clause-exists g c =
    page_exists c.args.ring.now (g.F.Flash.state c.args.flash.now) (g.F.Flash.state c.args.flash.now) 0 c.place_of.result c.requires.may.lies (no_reads (g.F.Flash.state c.args.flash.now)) c.place_of.ensures.within

pub returns-in_err-read-clause-reads : goal.returns-in_err-read-clause-reads
returns-in_err-read-clause-reads g c = subst (λ (o : Option Listed). OnlyReads (g.F.Flash.state c.args.flash.now) (is_waiting o) (g.F.Flash.state c.read.new.self)) (sym c.in-Some.is) (one_read _ _ _ _ _ _ c.read.ensures)

pub returns-in_err-page-clause-reads : goal.returns-in_err-page-clause-reads
returns-in_err-page-clause-reads g c = subst (λ (o : Option Listed). OnlyReads (g.F.Flash.state c.args.flash.now) (is_waiting o) (g.F.Flash.state c.read.new.self)) (sym c.in-Some.is) (one_read _ _ _ _ _ _ c.read.ensures)

pub returns-in-Some-fault-clause-reads : goal.returns-in-Some-fault-clause-reads
returns-in-Some-fault-clause-reads g c = subst (λ (o : Option Listed). OnlyReads (g.F.Flash.state c.args.flash.now) (is_waiting o) (g.F.Flash.state c.read.new.self)) (sym c.in-Some.is) (one_read _ _ _ _ _ _ c.read.ensures)

pub returns-in-Some-first-clause-reads : goal.returns-in-Some-first-clause-reads
returns-in-Some-first-clause-reads g c = subst (λ (o : Option Listed). OnlyReads (g.F.Flash.state c.args.flash.now) (is_waiting o) (g.F.Flash.state c.read.new.self)) (sym c.in-Some.is) (one_read _ _ _ _ _ _ c.read.ensures)

pub returns-in_default-first-clause-reads : goal.returns-in_default-first-clause-reads
returns-in_default-first-clause-reads g c = subst (λ (o : Option Listed). OnlyReads (g.F.Flash.state c.args.flash.now) (is_waiting o) (g.F.Flash.state c.read.new.self)) (sym c.in-Some.is) (one_read _ _ _ _ _ _ c.read.ensures)

pub returns-in_err-read-clause-fails : goal.returns-in_err-read-clause-fails
returns-in_err-read-clause-fails g c =
    let p = err_from_is_err_and c.from_residual.result c.from_residual.ensures.1 in
    rw (p.1, p.2) (record { only = refl; fails = read_fails (g.F.Flash.state c.args.flash.now) (g.F.Flash.state c.read.new.self) c.place_of.result (length c.args.buf.now.bytes) c.in_err-read.field-0.0 c.read.new.into c.in_err-read.ensures })

pub returns-in_err-page-clause-fails : goal.returns-in_err-page-clause-fails
returns-in_err-page-clause-fails g c =
    let p = err_from_is_err_and c.from_residual-in_err-page.result c.from_residual-in_err-page.ensures.1 in
    rw (p.1, p.2) (fails-refused (g.F.Flash.state c.args.flash.now) (g.F.Flash.state c.read.new.self) c.in_err-page.field-0.0 c.in_err-page.ensures.only)

pub returns-in-Some-fault-clause-fails : goal.returns-in-Some-fault-clause-fails
returns-in-Some-fault-clause-fails g c = record { only = refl; fails = tt }

pub returns-in_err-read-clause-knows : goal.returns-in_err-read-clause-knows
returns-in_err-read-clause-knows g c = λ told few error t is h.
    let p = err_from_is_err_and c.from_residual.result c.from_residual.ensures.1 in
    rw (p.1, p.2) (tt, tt)

pub returns-in_default-clause-knows : goal.returns-in_default-clause-knows
returns-in_default-clause-knows g c = λ told few error t is h. (h, tt)

pub returns-in_err-page-clause-knows : goal.returns-in_err-page-clause-knows
returns-in_err-page-clause-knows g c = λ told few error t is h.
    let p = err_from_is_err_and c.from_residual-in_err-page.result c.from_residual-in_err-page.ensures.1 in
    let waiting = c.in-Some.waiting in
    let f = g.F.Flash.state c.args.flash.now in
    let bytes = c.bytes.ensures ∙ (c.in_ok-read.ensures.bytes told ∙ ap (page_at f) c.place_of.ensures.place) in
    rw (p.1, p.2) (
      tt,
      page-page c.in_err-page.field-0.0 (λ (e : MountFault). mount_fault t ≡ Some e)
          (found-refused error t c.args.known.now c.args.counts.now c.args.index.now h waiting c.in-Some.is (layout_of c.args.schema.now) c.bytes.result.now is.layout_is (is.rows waiting.number ∙ sym bytes) c.in_err-page.field-0.0 c.in_err-page.ensures.fault),
    )

pub returns-in-Some-fault-clause-knows : goal.returns-in-Some-fault-clause-knows
returns-in-Some-fault-clause-knows g c = λ told few error t is h.
    let waiting = c.in-Some.waiting in
    let f = g.F.Flash.state c.args.flash.now in
    let bytes = c.bytes.ensures ∙ (c.in_ok-read.ensures.bytes told ∙ ap (page_at f) c.place_of.ensures.place) in
    (tt, found-blamed error t c.args.known.now c.args.counts.now c.args.index.now h waiting c.in-Some.is (layout_of c.args.schema.now) c.bytes.result.now is.layout_is (is.rows waiting.number ∙ sym bytes) c.in-Some-fault.bad c.in_ok-page.ensures.fine c.in-Some-fault.is)

pub returns-in-Some-first-clause-knows : goal.returns-in-Some-first-clause-knows
returns-in-Some-first-clause-knows g c = λ told few error t is h.
    let waiting = c.in-Some.waiting in
    let layout = layout_of c.args.schema.now in
    let f = g.F.Flash.state c.args.flash.now in
    let bytes = c.bytes.ensures ∙ (c.in_ok-read.ensures.bytes told ∙ ap (page_at f) c.place_of.ensures.place) in
    let page = c.facts.ensures in
    let ensures = c.in_ok-page.ensures in
    let key : c.facts.result.first ≡ c.in-Some-first.first = ap (λ (p : PageFacts). p.first) page in
    let fits : t.pages ≤ length c.args.counts.now = omega (arith, is.pages, few) in (
      subst (λ (cs : List ℕ). KnowsWith error t t.index_pages t.pages c.count_page.new.known cs c.count_page.new.index) (sym c.count_page.ensures.counts)
          (found-all error t c.args.known.now c.args.counts.now c.args.index.now h waiting c.in-Some.is layout c.bytes.result.now is.layout_is (is.rows waiting.number ∙ sym bytes) c.count_page.new.known c.count_page.new.index
          c.in-Some-first.first c.facts.result.rows c.facts.result.last c.facts.result.blob_end ensures.fine c.in_default-fault.is fits (sym ensures.page.first ∙ c.in-Some-first.is)
          (ap (λ (p : PageFacts). p.rows) page ∙ ensures.page.rows) (ap (λ (p : PageFacts). p.last) page ∙ ap (λ (o : Option ℕ). unwrap_or o c.in-Some-first.first) ensures.last) (ap (λ (p : PageFacts). p.blob_end) page ∙ ensures.page.blob_end) c.count_page.ensures.known
          (subst (λ f. (error : ℕ) (points : List (ℕ × ℕ)) → IndexOf error points c.args.index.now → IsFurther points (f, waiting.number) → IndexOf error (points ++ (f, waiting.number) ∷ []) c.count_page.new.index) key c.count_page.ensures.points)),
      tt,
    )

pub returns-in_default-first-clause-knows : goal.returns-in_default-first-clause-knows
returns-in_default-first-clause-knows g c = λ told few error t is h.
    let ensures = c.in_ok-page.ensures in
    let some = read-some (layout_of c.args.schema.now) c.in-Some.waiting.number c.bytes.result.now c.args.known.now.last ensures.fine in
    absurd (c.in_default-first.not-Some some.0 (ensures.page.first ∙ some.1))

pub returns-in_default-clause-reads : goal.returns-in_default-clause-reads
returns-in_default-clause-reads g c = none_read (g.F.Flash.state c.args.flash.now) _

pub count_page-requires : goal.count_page-requires
count_page-requires g c =
    let rows = few-rows _ _ c.in_ok-page.ensures.page.few (ap (λ (p : PageFacts). p.rows) c.facts.ensures) in
    (search (rules, arith), (some-places c.requires.may, (rows, all-few _ _ c.requires.rows rows)))

pub returns-in_default-clause-counted : goal.returns-in_default-clause-counted
returns-in_default-clause-counted g c = c.in_default.is

pub returns-in_default-clause-keeps : goal.returns-in_default-clause-keeps
returns-in_default-clause-keeps g c = keeps-none c.args.counts.now c.args.index.now c.args.buf.now c.requires.may.none

pub returns-in_default-clause-fails : goal.returns-in_default-clause-fails
returns-in_default-clause-fails g c = tt

pub returns-in_err-read-clause-counted : goal.returns-in_err-read-clause-counted
returns-in_err-read-clause-counted g c = no-success _ _ c.from_residual.result c.from_residual.ensures.1

pub returns-in_err-read-clause-keeps : goal.returns-in_err-read-clause-keeps
returns-in_err-read-clause-keeps g c = record { size = refl; error = refl; room = c.in_err-read.ensures.size_stays; none = c.in_err-read.ensures.none }

pub returns-in_err-page-clause-counted : goal.returns-in_err-page-clause-counted
returns-in_err-page-clause-counted g c = no-success _ _ c.from_residual-in_err-page.result c.from_residual-in_err-page.ensures.1

pub returns-in_err-page-clause-keeps : goal.returns-in_err-page-clause-keeps
returns-in_err-page-clause-keeps g c = let forgot = c.forget.ensures in record { size = refl; error = refl; room = ap (λ (b : BufferState). length b.bytes) forgot ∙ c.in_ok-read.ensures.size_stays; none = ap (λ (b : BufferState). b.holds) forgot }

pub returns-in-Some-fault-clause-counted : goal.returns-in-Some-fault-clause-counted
returns-in-Some-fault-clause-counted g c = tt

pub returns-in-Some-fault-clause-keeps : goal.returns-in-Some-fault-clause-keeps
returns-in-Some-fault-clause-keeps g c = let forgot = c.forget.ensures in record { size = refl; error = refl; room = ap (λ (b : BufferState). length b.bytes) forgot ∙ c.in_ok-read.ensures.size_stays; none = ap (λ (b : BufferState). b.holds) forgot }

pub returns-in-Some-first-clause-counted : goal.returns-in-Some-first-clause-counted
returns-in-Some-first-clause-counted g c = ap (λ (k : Known). k.newest) c.count_page.ensures.known

pub returns-in-Some-first-clause-keeps : goal.returns-in-Some-first-clause-keeps
returns-in-Some-first-clause-keeps g c =
    let forgot = c.forget.ensures in
    record {
      size = ap length c.count_page.ensures.counts ∙ length-set c.args.counts.now _ _;
      error = c.count_page.ensures.error;
      room = ap (λ (b : BufferState). length b.bytes) forgot ∙ c.in_ok-read.ensures.size_stays;
      none = ap (λ (b : BufferState). b.holds) forgot;
    }

pub returns-in-Some-first-clause-fails : goal.returns-in-Some-first-clause-fails
returns-in-Some-first-clause-fails g c = tt

pub returns-in_default-first-clause-counted : goal.returns-in_default-first-clause-counted
returns-in_default-first-clause-counted g c = refl

pub returns-in_default-first-clause-keeps : goal.returns-in_default-first-clause-keeps
returns-in_default-first-clause-keeps g c = let forgot = c.forget.ensures in record { size = refl; error = refl; room = ap (λ (b : BufferState). length b.bytes) forgot ∙ c.in_ok-read.ensures.size_stays; none = ap (λ (b : BufferState). b.holds) forgot }

pub returns-in_default-first-clause-fails : goal.returns-in_default-first-clause-fails
returns-in_default-first-clause-fails g c = tt
