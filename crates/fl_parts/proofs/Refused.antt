-- What a refused page answers.
use Rattle.std.proofs.Common.{◌≡◌, ℕ, Bool, true, false, cond, Option, Some, unwrap_or, List, [], ◌∷◌, refl, sym, subst, inl, inr}
use Rattle.std.proofs.lemmas.Option.{none-some}
use Rattle.fl_flash.specs.declared.flash.FlashFault.{FlashFault}
use Rattle.fl_model.specs.Record.{RowLayout}
use Rattle.fl_model.specs.Row.{Row}
use Rattle.fl_page.specs.Page.{rows_in}
use Rattle.fl_parts.specs.Faults.{IfFlash, IfPage, is_of_pages, is_refused}
use Rattle.fl_parts.specs.Reading.{rises, keys_fault, IsRefused}
use Rattle.fl_parts.specs.declared.mount_fault.MountFault.{MountFault}
use Rattle.fl_parts.specs.declared.mount_fault.MountFault.TheVariants.{Flash, Ring, BadPage, BadKeys, BadIndex, BadBlob, BadEntry}

-- it is a fault of a page alone
pub record IsPageFault (fault : MountFault) : Type 1 where
  pub of_pages : is_of_pages fault ≡ true
  pub refused : is_refused fault ≡ true
  pub no_flash : (P : FlashFault → Type 0) → IfFlash P fault

pub of_keys : (number : ℕ) (last : Option ℕ) (rows : List Row) (fault : MountFault) → keys_fault number last rows ≡ Some fault → IsPageFault fault
of_keys number last [] fault e = absurd (none-some fault e)
of_keys number last (row ∷ rows) fault e = by_test (of_keys number (Some row.key) rows fault) (rises last row.key) e
  where
    same : Some (BadKeys number (unwrap_or last 0) row.key) ≡ Some fault → BadKeys number (unwrap_or last 0) row.key ≡ fault
    same e = cc

    by_test : (keys_fault number (Some row.key) rows ≡ Some fault → IsPageFault fault) → (b : Bool) → cond b (keys_fault number (Some row.key) rows) (Some (BadKeys number (unwrap_or last 0) row.key)) ≡ Some fault → IsPageFault fault
    by_test more true e = more e
    by_test more false e = subst IsPageFault (same e) (record { of_pages = refl; refused = refl; no_flash = λ P. tt })

of_page : (layout : RowLayout) (number : ℕ) (page : List ℕ) (last : Option ℕ) (fault : MountFault) → IsRefused layout number page last fault → IsPageFault fault
of_page layout number page last fault h = elim h.why [
  | inl bad ↦ subst IsPageFault (sym bad.1) (record { of_pages = refl; refused = refl; no_flash = λ P. tt })
  | inr keys ↦ of_keys number last (rows_in layout page) fault keys.1
]

pub refused-of_pages : (layout : RowLayout) (number : ℕ) (page : List ℕ) (last : Option ℕ) (fault : MountFault) → IsRefused layout number page last fault → is_of_pages fault ≡ true
refused-of_pages layout number page last fault h = (of_page layout number page last fault h).of_pages

pub refused-no_flash : (layout : RowLayout) (number : ℕ) (page : List ℕ) (last : Option ℕ) (fault : MountFault) (P : FlashFault → Type 0) → IsRefused layout number page last fault → IfFlash P fault
refused-no_flash layout number page last fault P h = (of_page layout number page last fault h).no_flash P

pub refused-refused : (layout : RowLayout) (number : ℕ) (page : List ℕ) (last : Option ℕ) (fault : MountFault) → IsRefused layout number page last fault → is_refused fault ≡ true
refused-refused layout number page last fault h = (of_page layout number page last fault h).refused

-- so it is with each fault of a page
pub page-pages : (fault : MountFault) → is_refused fault ≡ true → is_of_pages fault ≡ true
page-pages (Flash fault) h = refl
page-pages (Ring fault) h = cc
page-pages (BadPage bad) h = refl
page-pages (BadKeys page last first) h = refl
page-pages (BadIndex end next) h = cc
page-pages (BadBlob page next) h = cc
page-pages (BadEntry page count limit) h = refl

pub page-no_flash : (fault : MountFault) (P : FlashFault → Type 0) → is_refused fault ≡ true → IfFlash P fault
page-no_flash (Flash fault) P h = absurd (cc h)
page-no_flash (Ring fault) P h = tt
page-no_flash (BadPage bad) P h = tt
page-no_flash (BadKeys page last first) P h = tt
page-no_flash (BadIndex end next) P h = tt
page-no_flash (BadBlob page next) P h = tt
page-no_flash (BadEntry page count limit) P h = tt

pub page-page : (fault : MountFault) (P : MountFault → Type 0) → P fault → IfPage P fault
page-page (Flash fault) P h = tt
page-page (Ring fault) P h = tt
page-page (BadPage bad) P h = h
page-page (BadKeys page last first) P h = h
page-page (BadIndex end next) P h = tt
page-page (BadBlob page next) P h = tt
page-page (BadEntry page count limit) P h = h
