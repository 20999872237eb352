-- What a lookup finds in a table, and how many pages it reads.
use Rattle.std.specs.Prelude.{◌≡◌, ℕ, ◌+◌, min, true, if◌then◌else◌, Option, IfSome, Result, Ok, Err}
use Rattle.fl_model.specs.Record.{Plan}
use Rattle.fl_model.specs.Table.{Table}
use Rattle.fl_model.specs.Spline.{retained, is_covered, estimate, page_at, lookup_reads}
use Rattle.fl_page.specs.declared.fault.ReadFault.{ReadFault}
use Rattle.fl_page.specs.declared.fault.ReadFault.TheVariants as fault
use Rattle.fl_search.specs.Search.{RoseBy, RoseSome}

-- the page of a key; the count of reads rose from one number to another
pub record IsFound (knots : ℕ) (plan : Plan) (table : Table) (key before now : ℕ) (page : Option ℕ) : Type 0 where
  pub page_is : page ≡ page_at table key
  pub exact : is_covered (retained knots plan.error table.points) key ≡ true → RoseBy (lookup_reads knots plan table key) before now
  pub some : IfSome page (λ number. RoseSome before now)

-- it is found unless the flash fails; no page is bad
abbrev pub FindsPage : ℕ → Plan → Table → ℕ → ℕ → ℕ → Result (Option ℕ) ReadFault → Type 0
FindsPage knots plan table key before now (Ok page) = IsFound knots plan table key before now page
FindsPage knots plan table key before now (Err (fault.Flash e)) = Unit {0}
FindsPage knots plan table key before now (Err (fault.BadPage bad)) = ⊥

-- the number after the last page that may have a row with at most this key
abbrev pub pages_end : ℕ → Plan → Table → ℕ → ℕ
pages_end knots plan table key =
    if is_covered (retained knots plan.error table.points) key
    then min (estimate (retained knots plan.error table.points) key + plan.error + 1) table.rows.next
    else table.rows.next
