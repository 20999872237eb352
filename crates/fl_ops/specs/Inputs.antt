-- What the operators keep of their inputs, and a step over any list.
use Rattle.std.specs.Prelude.{◌≡◌, ◌↔◌, ℕ, Bool, true, false, Result, Ok, Err, Option, List, [], ◌∷◌}
use Rattle.std.specs.Borrow.{GName}
use Rattle.fl_model.specs.Record.{RowLayout}
use Rattle.fl_model.specs.Query.{is_above}
use Rattle.fl_frame.specs.Contents.{Contents}
use Rattle.fl_page.specs.declared.fault.BadPage.{BadPage}
use Rattle.fl_page.specs.declared.fault.ReadFault.{ReadFault}
use Rattle.fl_page.specs.declared.fault.ReadFault.TheVariants.{Flash, BadPage as BadPage'}

-- Rows after some steps over a flash that holds these contents: they hold the same references, have the same schema and
-- the same test of a bad page, can go over each flash that they could go over, and are told where they were. The key
-- above which the next one lies didn't fall.
pub record Continues {Rows : Type 0} (names : Rows → List GName) (schema : Rows → RowLayout) (above : Rows → Option ℕ)
    (ready told : Rows → Contents → Type 0) (passes : Rows → Contents → BadPage → Type 0) (held : Contents) (old new : Rows) : Type 0 where
  pub same_names : names new ≡ names old
  pub same_schema : schema new ≡ schema old
  pub never_falls : (key : ℕ) → is_above (above new) key ≡ true → is_above (above old) key ≡ true
  pub stays_ready : (contents : Contents) → ready old contents → ready new contents
  pub same_test : (contents : Contents) (bad : BadPage) → passes new contents bad ↔ passes old contents bad
  pub stays_told : told old held → told new held

-- What a step with this result made of a list: true takes the first, and false comes where none is left. Where the list
-- is told no page is bad.
abbrev pub StepsOver : {Item : Type 0} → Result Bool ReadFault → List Item → Item → List Item → Type 0
StepsOver (Ok true) before item after = before ≡ item ∷ after
StepsOver (Ok false) before item after = (before ≡ []) × (after ≡ [])
StepsOver (Err (Flash fault)) before item after = Unit {0}
StepsOver (Err (BadPage' bad)) before item after = ⊥
