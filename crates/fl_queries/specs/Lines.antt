-- Lines that are made one after another, and the replies that they are.
use Rattle.std.specs.Prelude.{◌≡◌, ℕ, ◌+◌, ◌-◌, ◌^◌, ◌<◌, ◌≤◌, Bool, true, false, IsTrue, IfErr, IfOk, OnOk, Option, Result, Ok, Err, List, [], ◌∷◌, ◌++◌, length}
use Rattle.fl_base.specs.Causes.{Rose}
use Rattle.fl_base.specs.declared.types.KeyRange.{KeyRange}
use Rattle.fl_base.specs.declared.types.Span.{Span}
use Rattle.fl_model.specs.Limits.{scan_limit, least_reads}
use Rattle.fl_model.specs.Query.{selected}
use Rattle.fl_model.specs.Record.{Plan}
use Rattle.fl_model.specs.Table as model
use Rattle.fl_page.specs.declared.fault.ReadFault.{ReadFault}
use Rattle.fl_page.specs.declared.fault.ReadFault.TheVariants.{Flash, BadPage}
use Rattle.fl_search.specs.Search.{RoseSome}
use Rattle.fl_words.specs.Reply as words
use Rattle.fl_words.specs.Reply.{texts}
use Rattle.fl_machine.specs.Step as machine
use Rattle.fl_script.specs.Written.{Written}
use Rattle.fl_queries.specs.Listed.{IfSink, ends_unread}
use Rattle.fl_queries.specs.declared.listing.ListFault.{ListFault}
use Rattle.fl_queries.specs.declared.listing.ListFault.TheVariants.{Sink, Read}

-- What a step with this result makes of the lines made so far: with true the present one is behind them.
abbrev pub MakesLine : (List words.Reply → Type 0) → Result Bool ReadFault → List words.Reply → words.Reply → Type 0
MakesLine Made (Ok true) before line = Made (before ++ line ∷ [])
MakesLine Made (Ok false) before line = Made before
MakesLine Made (Err fault) before line = Made before

-- this is said of lines that were made, and where all are told they are the first of these
pub record AreMade (Made : List words.Reply → Type 0) (Told : Type 0) (all lines : List words.Reply) : Type 0 where
  pub made : Made lines
  pub front : Told → (rest : List words.Reply) × (lines ++ rest ≡ all)

-- no page was bad
abbrev pub IsNoBadPage : ListFault → Type 0
IsNoBadPage (Sink failed) = Unit {0}
IsNoBadPage (Read (Flash fault)) = Unit {0}
IsNoBadPage (Read (BadPage bad)) = ⊥

-- The count of reads rose from one number to another while lines were listed, up to so many: by at most so many, and where all
-- were listed by at least so many, unless it is at its end.
pub record ReadsLines (count most least reads reads_now : ℕ) (result : Result ℕ ListFault) : Type 0 where
  pub within : reads_now ≤ reads + most
  pub some : IfOk result (λ given. given < count → reads_now < 2 ^ 64 - 1 → reads + least ≤ reads_now)

-- The lines and their number were written, or a front of them where the sink failed; or a read failed behind some of them.
-- The count of reads rose by at most so many, and where no read failed by at least so many. A read that failed is counted.
pub record Counted {E : Type 0} (lines : List words.Reply) (most least : ℕ) (told told_now : Option (List ℕ)) (faults faults_now reads reads_now : ℕ) (result : Result (Unit {0}) E) : Type 0 where
  pub rose : Bool
  pub risen : IsTrue rose → Rose faults faults_now
  pub replies : List words.Reply
  pub lists : machine.Lists rose lines (words.EndCount (length lines)) replies
  pub wrote : Written told told_now result (texts replies)
  pub within : reads_now ≤ reads + most
  pub some : OnOk result (ends_unread replies ≡ false → reads_now < 2 ^ 64 - 1 → reads + least ≤ reads_now)
  pub failed : IsTrue (ends_unread replies) → RoseSome reads reads_now

-- .. those of the rows that a scan of this table of the model gives, within its limit and no less than its least number
abbrev pub Scans : {E : Type 0} → Plan → model.Table → KeyRange → Option Span → Option (List ℕ) → Option (List ℕ) → ℕ → ℕ → ℕ → ℕ → Result (Unit {0}) E → Type 0
Scans plan table range span = Counted (machine.rows_of plan (selected range span table.entries)) (scan_limit 64 plan table range span range.low) (least_reads plan table range span)

pub record HasSinkCause (before now : ℕ) (result : Result ℕ ListFault) : Type 0 where
  pub later : before ≤ now
  pub failed : IfErr result (λ fault. IfSink fault (Rose before now))
