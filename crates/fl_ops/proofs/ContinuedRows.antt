-- Rows that continue, and continue again.
use Rattle.std.proofs.Common.{refl, ◌∙◌, ℕ, List, Option}
use Rattle.std.specs.Borrow.{GName}
use Rattle.fl_model.specs.Record.{RowLayout}
use Rattle.fl_frame.specs.Contents.{Contents}
use Rattle.fl_page.specs.declared.fault.BadPage.{BadPage}
use Rattle.fl_ops.specs.Inputs.{Continues}

pub Continues-same : {Rows : Type 0} {names : Rows → List GName} {schema : Rows → RowLayout} {above : Rows → Option ℕ}
    {ready told : Rows → Contents → Type 0} {passes : Rows → Contents → BadPage → Type 0} {held : Contents} (a : Rows)
    → Continues names schema above ready told passes held a a
Continues-same a = record {
  same_names = refl;
  same_schema = refl;
  never_falls = λ key is. is;
  stays_ready = λ contents is. is;
  same_test = λ contents bad. (λ is. is, λ is. is);
  stays_told = λ is. is;
}

pub Continues-then : {Rows : Type 0} {names : Rows → List GName} {schema : Rows → RowLayout} {above : Rows → Option ℕ}
    {ready told : Rows → Contents → Type 0} {passes : Rows → Contents → BadPage → Type 0} {held : Contents} (a b c : Rows)
    → Continues names schema above ready told passes held a b → Continues names schema above ready told passes held b c
    → Continues names schema above ready told passes held a c
Continues-then a b c first next = record {
  same_names = next.same_names ∙ first.same_names;
  same_schema = next.same_schema ∙ first.same_schema;
  never_falls = λ key is. first.never_falls key (next.never_falls key is);
  stays_ready = λ contents is. next.stays_ready contents (first.stays_ready contents is);
  same_test = λ contents bad. (λ is. (first.same_test contents bad).0 ((next.same_test contents bad).0 is), λ is. (next.same_test contents bad).1 ((first.same_test contents bad).1 is));
  stays_told = λ is. next.stays_told (first.stays_told is);
}
