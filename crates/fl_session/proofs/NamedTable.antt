-- The table that a command names, and where it stands.
use Rattle.std.proofs.Common.{◌≡◌, ℕ, ◌+◌, ◌<◌, Bool, true, None, Some, List, length, get_or, refl, ◌∙◌, ap, arith, slice_get}
use Rattle.std.proofs.lemmas.Option.{slice_get_within, slice_get_read}
use Rattle.fl_flash.specs.Flash.{FlashState}
use Rattle.fl_model.specs.Record.{Config, Plan}
use Rattle.fl_model.specs.Table as model
use Rattle.fl_machine.specs.Machine.{Machine}
use Rattle.fl_machine.specs.Step.{located}
use Rattle.fl_store.specs.Tables.{first_of, IsNamed, Names, EntryStands}
use Rattle.fl_store.specs.declared.tables.Entry.{Entry}
use Rattle.fl_store.proofs.TableByName.{AsLocated, located-first, located-none, first-named, none-named, stand-named}
use Rattle.fl_store.proofs.TablesChanged.{at-place}
use Rattle.fl_session.specs.Answer.{IsReached}
use Rattle.fl_session.specs.Standing.{SessionStands}
use Rattle.fl_session.specs.declared.notes.Notes.{Notes}

-- the table that a command on this name is executed on
pub record Own (config : Config) (m : Machine) (f : FlashState) (asked : List ℕ) (at : ℕ) (entry : Entry) : Type 0 where
  pub plan : Plan
  pub plan_is : slice_get config.plans at ≡ Some plan
  pub table : model.Table
  pub table_is : slice_get m.tables at ≡ Some table
  pub stands : EntryStands entry f true (first_of config.plans at) plan table
  pub found : located config m asked ≡ Some (record { place = at; plan = plan; table = table })

pub own-of : (config : Config) (m : Machine) (entries : List Entry) (f : FlashState) (notes : Notes) (asked : List ℕ) (at : ℕ) (entry : Entry) → SessionStands config entries f true notes m → slice_get entries at ≡ Some entry → IsNamed entries asked at →
    Own config m f asked at entry
own-of config m entries f notes asked at entry h here named =
    let o = at-place f (λ i. true) config.plans entries m.tables at entry h.tables here in
    let first = first-named config.plans entries (stand-named f (λ i. true) config.plans entries m.tables h.tables) asked at named o.plan o.plan_is in
    record {
      plan = o.plan;
      plan_is = o.plan_is;
      table = o.table;
      table_is = o.table_is;
      stands = o.stands;
      found = located-first config.plans m.tables 0 at asked o.plan o.table o.plan_is o.table_is first.0 first.1 ∙ ap (λ (n : ℕ). AsLocated n o.plan o.table) (let e : 0 + at ≡ at = omega arith in e);
    }

pub own-none : (config : Config) (m : Machine) (entries : List Entry) (f : FlashState) (mounted : Bool) (notes : Notes) (asked : List ℕ) → SessionStands config entries f mounted notes m → Names entries asked None → located config m asked ≡ None
own-none config m entries f mounted notes asked h none =
    located-none config.plans m.tables 0 asked (none-named config.plans entries (stand-named f (λ i. mounted) config.plans entries m.tables h.tables) asked none)

-- the place that was found for a command
pub reached-within : (entries : List Entry) (n : ℕ) (mounted : Bool) (asked : List ℕ) (at : ℕ) → n ≡ length entries → IsReached entries mounted asked at → at < n
reached-within entries n mounted asked at len r = omega (arith, slice_get_within entries at r.named.entry r.named.here, len)

pub reached-here : (entries : List Entry) (mounted : Bool) (asked : List ℕ) (at : ℕ) (entry : Entry) → IsReached entries mounted asked at → entry ≡ get_or entries at entry → slice_get entries at ≡ Some entry
reached-here entries mounted asked at entry r is = slice_get_read entries (length entries) at entry refl (slice_get_within entries at r.named.entry r.named.here) is
