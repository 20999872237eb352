use Rattle.std.proofs.Common.{rules, arith, ◌≡◌, ◌≤◌, ℕ, List, Some, length, refl, ap, subst, ◌∙◌, sym}
use Rattle.std.specs.Prelude.{IfOk}
use Rattle.std.proofs.lemmas.Result.{err_from_is_err_and}
use Rattle.fl_frame.proofs.SingleReads.{one_read, read_fails}
use Rattle.fl_flash.specs.Buffer.{BufferState}
use Rattle.fl_schema.specs.Schema.{layout_of}
use Rattle.fl_parts.specs.ByEntries.{mount_fault}
use Rattle.fl_parts.specs.KeptSteps.{HasRows}
use Rattle.fl_parts.specs.Knowing.{IsUnlisted}
use Rattle.fl_parts.specs.declared.mount_fault.MountFault.{MountFault}
use Rattle.fl_parts.proofs.KeptParts.{err-page, err-refused}
use Rattle.fl_parts.proofs.ListedPages.{any-ok}
use Rattle.fl_parts.proofs.Untouched.{no-success}
use Rattle.fl_parts.proofs.load.read_page.Goals as goal

in-bounds : (size page : ℕ) → 64 ≤ page → page ≤ 4096 → size ≡ page → (24 ≤ size) × (size ≤ 4096)
in-bounds size page least most is = (omega (arith, least, is), omega (arith, most, is))

pub returns-clause-fails : goal.returns-clause-fails
returns-clause-fails g c = err-refused (g.F.Flash.state c.args.flash.now) (g.F.Flash.state c.read.new.self) c.see_page-page.result c.see_page-page.ensures.only

pub returns-clause-keeps : goal.returns-clause-keeps
returns-clause-keeps g c =
    let forgot = c.forget.ensures in
    record {
      size = c.see_page-page.ensures.size;
      error = c.see_page-page.ensures.error;
      room = ap (λ (b : BufferState). length b.bytes) forgot ∙ c.in_ok-read.ensures.size_stays;
      none = ap (λ (b : BufferState). b.holds) forgot;
    }

pub returns-clause-counted : goal.returns-clause-counted
returns-clause-counted g c = c.see_page-page.ensures.counted

pub returns-clause-page : goal.returns-clause-page
returns-clause-page g c =
    let bytes = c.bytes.ensures ∙ sym (ap (λ (b : BufferState). b.bytes) c.forget.ensures) in
    subst (λ (xs : List ℕ). IfOk c.see_page-page.result (HasRows (layout_of c.args.schema.now) xs)) bytes c.see_page-page.ensures.page

pub returns-clause-bytes : goal.returns-clause-bytes
returns-clause-bytes g c = any-ok c.see_page-page.result (λ told. ap (λ (b : BufferState). b.bytes) c.forget.ensures ∙ c.in_ok-read.ensures.bytes told)

pub returns-clause-knows : goal.returns-clause-knows
returns-clause-knows g c = λ told error t k n h is un.
    let bytes = c.bytes.ensures ∙ c.in_ok-read.ensures.bytes told in
    let saw = c.see_page-page.ensures.knows error t k n h is (subst (λ (xs : List ℕ). IsUnlisted t (layout_of c.args.schema.now) c.args.number xs) (sym bytes) un) in
    (saw.0, err-page (λ (e : MountFault). mount_fault t ≡ Some e) c.see_page-page.result saw.1)

pub returns-clause-reads : goal.returns-clause-reads
returns-clause-reads g c = one_read _ _ _ _ _ _ c.read.ensures

pub returns-in_err-read-clause-reads : goal.returns-in_err-read-clause-reads
returns-in_err-read-clause-reads g c = one_read _ _ _ _ _ _ c.read.ensures

pub returns-in_err-read-clause-keeps : goal.returns-in_err-read-clause-keeps
returns-in_err-read-clause-keeps g c = record { size = refl; error = refl; room = c.in_err-read.ensures.size_stays; none = c.in_err-read.ensures.none }

pub returns-in_err-read-clause-counted : goal.returns-in_err-read-clause-counted
returns-in_err-read-clause-counted g c = no-success _ _ c.from_residual.result c.from_residual.ensures.1

pub returns-in_err-read-clause-page : goal.returns-in_err-read-clause-page
returns-in_err-read-clause-page g c = no-success _ _ c.from_residual.result c.from_residual.ensures.1

pub returns-in_err-read-clause-bytes : goal.returns-in_err-read-clause-bytes
returns-in_err-read-clause-bytes g c = no-success _ _ c.from_residual.result c.from_residual.ensures.1

pub returns-in_err-read-clause-knows : goal.returns-in_err-read-clause-knows
returns-in_err-read-clause-knows g c = λ told error t k n h is un.
    let p = err_from_is_err_and c.from_residual.result c.from_residual.ensures.1 in
    rw (p.1, p.2) (tt, tt)

pub returns-in_err-read-clause-fails : goal.returns-in_err-read-clause-fails
returns-in_err-read-clause-fails g c =
    let p = err_from_is_err_and c.from_residual.result c.from_residual.ensures.1 in
    rw (p.1, p.2) (record { only = refl; fails = read_fails (g.F.Flash.state c.args.flash.now) (g.F.Flash.state c.read.new.self) c.args.at (length c.args.buf.now.bytes) c.in_err-read.field-0.0 c.read.new.into c.in_err-read.ensures })

pub see_page-page-requires : goal.see_page-page-requires
see_page-page-requires g c =
    let served = g.met.F.Flash.serves c.args.flash.now in
    let bounds = in-bounds _ _ served.page_least served.page_greatest (ap length c.bytes.ensures ∙ (c.in_ok-read.ensures.size_stays ∙ c.requires.room)) in
    (search (rules, arith), (bounds.0, (bounds.1, (c.requires.row, (c.requires.some, c.requires.few)))))
