-- The read of a log's newest page, over any bytes and over a flash that stands for a table and its log.
use Rattle.std.proofs.Common.{◌≡◌, ℕ, ◌-◌, ◌^◌, ◌<◌, ◌≤◌, Bool, true, false, None, List, refl, sym, ◌∙◌, ap, subst, arith, inl, inr, IsTrue}
use Rattle.std.proofs.Math.Nat.{div-le_self}
use Rattle.std.proofs.lemmas.Bool.{true≢false}
use Rattle.std.proofs.lemmas.Option.{none-some}
use Rattle.fl_base.specs.Causes.{Rose}
use Rattle.fl_base.specs.declared.types.Geometry.{Geometry}
use Rattle.fl_flash.specs.Flash.{FlashState}
use Rattle.fl_flash.specs.declared.flash.FlashFault.{FlashFault}
use Rattle.fl_flash.specs.declared.flash.FlashFault.TheVariants.{PowerLost, Media}
use Rattle.fl_model.specs.Bare.{bare, bare_table}
use Rattle.fl_model.specs.Layout.{committed}
use Rattle.fl_model.specs.Record.{Plan, RowLayout, row_layout, layout_len, row_len, rows_per_page}
use Rattle.fl_model.specs.Table as model
use Rattle.fl_page.specs.Page.{rows_in}
use Rattle.fl_frame.specs.Causes.{ReadFails}
use Rattle.fl_schema.specs.Schema.{types_of}
use Rattle.fl_table.specs.BlobAt.{has_blobs}
use Rattle.fl_parts.specs.Faults.{IfFlash, IfPage, is_of_pages}
use Rattle.fl_table.specs.Look.{layout_in}
use Rattle.fl_table.specs.Standing.{Stands}
use Rattle.fl_parts.specs.declared.mount_fault.MountFault.{MountFault}
use Rattle.fl_parts.specs.declared.mount_fault.MountFault.TheVariants as mount
use Rattle.fl_table.specs.declared.table.Table.{Table}
use Rattle.fl_parts.proofs.Refused.{IsPageFault, of_keys}
use Rattle.fl_rlc.specs.Pages.{log_body, IsPage}
use Rattle.fl_rlc.specs.Replaying.{MayStand, IsBad}
use Rattle.fl_rlc.proofs.NewestRows.{IsRead, log-page}
use Rattle.fl_rlc.proofs.TakenRecord.{plain-of}

-- a page that may stand isn't bad
pub never-bad : (layout : RowLayout) (number : ℕ) (page : List ℕ) (fault : MountFault) → MayStand layout number page → IsBad layout number page fault → ⊥
never-bad layout number page fault h (inl bad) = bad.0 h.good
never-bad layout number page fault h (inr keys) = none-some fault (sym h.keys ∙ keys.1)

-- a bad page is a fault of a page alone
of-page : (layout : RowLayout) (number : ℕ) (page : List ℕ) (fault : MountFault) → IsBad layout number page fault → IsPageFault fault
of-page layout number page fault (inl bad) = subst IsPageFault (sym bad.1) (record { of_pages = refl; refused = refl; no_flash = λ P. tt })
of-page layout number page fault (inr keys) = of_keys number None (rows_in layout page) fault keys.1

pub bad-of_pages : (layout : RowLayout) (number : ℕ) (page : List ℕ) (fault : MountFault) → IsBad layout number page fault → is_of_pages fault ≡ true
bad-of_pages layout number page fault h = (of-page layout number page fault h).of_pages

pub bad-no_flash : (layout : RowLayout) (number : ℕ) (page : List ℕ) (fault : MountFault) (P : FlashFault → Type 0) → IsBad layout number page fault → IfFlash P fault
bad-no_flash layout number page fault P h = (of-page layout number page fault h).no_flash P

-- a read with the power on fails only where the medium does
pub read-fails : (old new : FlashState) (fault : FlashFault) (rose : Bool) → old.is_on ≡ true → (Rose old.media.faults new.media.faults → IsTrue rose) → ReadFails old fault new → IsTrue rose × (fault ≡ Media)
read-fails old new PowerLost rose on risen off = absurd (true≢false (sym on ∙ off))
read-fails old new Media rose on risen h = (risen h, refl)

-- the newest page of a table with a log may stand, and has the records that are logged
pub newest-read : {KNOTS SLOTS : ℕ} (t : Table KNOTS SLOTS) (f : FlashState) (first : ℕ) (plan : Plan) (table : model.Table) (number : ℕ) → has_blobs t ≡ false → Stands t f first (bare plan) (bare_table table) →
    IsPage plan table.logged → number < 2 ^ 32 → IsRead plan number table.logged (committed (log_body plan number table.logged))
newest-read t f first plan table number none s page small =
    let len : layout_len (row_layout plan) ≡ layout_len (layout_in t) = ap layout_len s.planned.layout in
    let bytes : plan.geometry.page ≡ t.geometry.page = ap (λ (g : Geometry). g.page) s.planned.geometry in
    let most : rows_per_page plan ≤ plan.geometry.page - 24 = div-le_self (plan.geometry.page - 24) (row_len plan) in
    log-page t.schema.key (types_of t.schema) t.schema.blobs plan number table.logged (sym s.planned.layout) (plain-of t f first (bare plan) (bare_table table) none s).no_var
    (omega (arith, len, t.some_row)) (omega (arith, len, bytes, t.room_for_row)) (omega (arith, most, bytes, t.served.page_greatest)) page small

-- what is known of a bad page, where the bytes are told
pub if-told : (T : Type 0) (P : MountFault → Type 0) (fault : MountFault) → T → IfPage (λ e. T → P e) fault → IfPage P fault
if-told T P (mount.Flash fault) told h = tt
if-told T P (mount.Ring fault) told h = tt
if-told T P (mount.BadPage bad) told h = h told
if-told T P (mount.BadKeys page last first) told h = h told
if-told T P (mount.BadIndex end next) told h = tt
if-told T P (mount.BadBlob page next) told h = tt
if-told T P (mount.BadEntry page count limit) told h = h told
