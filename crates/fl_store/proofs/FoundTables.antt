-- No table with a name was found on a medium, as an image that stands for tables tells it.
use Rattle.std.proofs.Common.{◌≡◌, ◌⊎◌, inl, inr, false, IsTrue, None, List, ℕ, sym, ◌∙◌, ap, subst}
use Rattle.std.proofs.lemmas.Bool.{false≢true}
use Rattle.fl_base.specs.Causes.{Rose}
use Rattle.fl_config.specs.Whole.{Makes}
use Rattle.fl_flash.specs.Flash.{FlashState}
use Rattle.fl_flash.specs.Media.{MediaState}
use Rattle.fl_image.specs.Header.{IsMade}
use Rattle.fl_image.specs.Image.{OnlyLooksAt}
use Rattle.fl_image.specs.declared.status.ToolStatus.{ToolStatus}
use Rattle.fl_image.specs.declared.status.ToolStatus.TheVariants.{NoMemory, NotImage, Device, NoTable}
use Rattle.fl_machine.specs.Step.{located_from}
use Rattle.fl_model.specs.Record.{Config}
use Rattle.fl_model.specs.Table.{Table}
use Rattle.fl_words.specs.Medium.{IsImage}
use Rattle.fl_store.specs.FoundTable.{FindsNone, FindsTable}
use Rattle.fl_store.specs.Named.{has_name}
use Rattle.fl_store.specs.Store.{Holds}
use Rattle.fl_store.specs.declared.found_table.FoundTable.{FoundTable}
use Rattle.fl_store.specs.declared.tables.Entry.{Entry}
use Rattle.fl_image.proofs.Made.{made-by}
use Rattle.fl_store.proofs.TableByName.{located-none, name-there}
use Rattle.fl_store.proofs.Opened.{made-image, same-lines}
use Rattle.fl_store.proofs.Worked.{held-since}

module _ (old new : MediaState) (name : List ℕ) where
  -- no image was found
  pub finds-none : (status : ToolStatus) → (status ≡ NotImage) ⊎ ((status ≡ Device) ⊎ (status ≡ NoMemory)) →
      (status ≡ NotImage → FindsNone old new name NotImage) → (status ≡ Device → Rose old.faults new.faults) → FindsNone old new name status
  finds-none status (inl is) none rose = subst (FindsNone old new name) (sym is) (none is)
  finds-none status (inr (inl is)) none rose = subst (FindsNone old new name) (sym is) (rose is)
  finds-none status (inr (inr is)) none rose = subst (FindsNone old new name) (sym is) tt

  -- what holds of each of the statuses
  pub by-none : (P : ToolStatus → Type 0) (status : ToolStatus) → FindsNone old new name status → (FindsNone old new name NotImage → P NotImage) → (FindsNone old new name NoTable → P NoTable) → (Rose old.faults new.faults → P Device) → P NoMemory → P status
  by-none P NotImage none image table device memory = image none
  by-none P NoTable none image table device memory = table none
  by-none P Device none image table device memory = device none
  by-none P NoMemory none image table device memory = memory
  by-none P status none image table device memory = absurd none

  -- ---- over an image that stands for tables

  module _ (config : Config) (made : IsMade config) (tables : List Table) (tells : IsTrue old.tells) (image : IsImage config old.content tables) where
    pub not-none : FindsNone old new name NotImage → ⊥
    not-none none = none tells made.lines made.accepted (made-image config made old.content tables image)

    pub nameless : FindsNone old new name NoTable → located_from 0 config.plans tables name ≡ None
    nameless none =
        let h = none tells in
        let plans = (made-by h.lines config (same-lines config made old.content tables h.lines image h.accepted h.image)).plans_are in
        located-none config.plans tables 0 name (λ i other e k. false≢true (sym (ap (has_name name) (sym plans) ∙ h.named) ∙ name-there config.plans i name other e k))

    -- .. and a store over an image that was found holds its tables
    pub found-holds : OnlyLooksAt old new → (found : FoundTable) → FindsTable old name found → (entries : List Entry) (f : FlashState) →
        ((configured : Config) (ts : List Table) → IsTrue new.tells → Makes found.config configured → IsImage configured new.content ts → Holds configured entries f false ts) → Holds config entries f false tables
    found-holds looks found table entries f over =
        let is = table.image tells in
        held-since config tables found.config old new entries f tells (same-lines config made old.content tables found.config image is.0 is.1) image looks over
