-- What is made of an image and a copy that were looked at.
use Rattle.std.proofs.Common.{◌≡◌, ◌⊎◌, ℕ, false, IfErr, IfOk, Result, Ok, Err, List, [], length, arith}
use Rattle.std.specs.Prelude.{IsTrue}
use Rattle.std.proofs.lemmas.Option.{slice_get_within}
use Rattle.fl_config.specs.Whole.{is_whole, Makes}
use Rattle.fl_flash.specs.Media.{MediaState}
use Rattle.fl_image.specs.Header.{IsAccepted, IsMade}
use Rattle.fl_image.specs.Image.{IsImageOf, OnlyLooksAt}
use Rattle.fl_model.specs.Image.{medium_len}
use Rattle.fl_model.specs.Record.{Config}
use Rattle.fl_model.specs.Table.{Table}
use Rattle.fl_store.specs.Store.{IsLayoutOf}
use Rattle.fl_store.specs.declared.found.FoundImage.{FoundImage}
use Rattle.fl_words.specs.Medium.{IsImage}
use Rattle.fl_ship.specs.Fits.{StatusFits}
use Rattle.fl_ship.specs.Ready.{EndsEarly, IsEarly, IsPrepared, IsReady, IsUnprepared}
use Rattle.fl_ship.specs.declared.ready.Ready.{Ready}
use Rattle.fl_ship.specs.declared.side.Side.{Side}
use Rattle.fl_ship.specs.declared.status.ShipStatus.{ShipStatus}
use Rattle.fl_ship.specs.declared.status.ShipStatus.TheVariants.{Done, OutWrite, NoMemory, NotImage, Device, BadImage, NoTable, Gap, OtherForm, Spent}
use Rattle.fl_ship.proofs.Causes.{images-for, images-without}
use Rattle.fl_ship.proofs.Forms.{named-alike}
use Rattle.fl_ship.proofs.ImageEnds.{form-ends, memory-ends, nameless-ends}

module _ (found : FoundImage) (name : List ℕ) where
  pub early : (r : Result Ready ShipStatus) → IfErr r (IsUnprepared found name) → IfErr r IsEarly
  early (Ok ready) un = tt
  early (Err NoMemory) un = tt
  early (Err NoTable) un = tt
  early (Err OtherForm) un = tt
  early (Err (NotImage side)) un = tt
  early (Err (Device side)) un = tt
  early (Err (Done shipped)) un = un
  early (Err OutWrite) un = un
  early (Err (BadImage side table)) un = un
  early (Err (Gap last oldest)) un = un
  early (Err Spent) un = un

  pub no-device : (r : Result Ready ShipStatus) (side : Side) → IfErr r (IsUnprepared found name) → r ≡ Err (Device side) → ⊥
  no-device r side un is = rw is at un

  module _ (layout : IsLayoutOf found.layout found.config) (source source_now copy copy_now : MediaState) (looks : OnlyLooksAt source source_now) (copy_looks : OnlyLooksAt copy copy_now)
      (makes : (config : Config) (tables : List Table) → IsTrue source.tells → IsMade config → IsImage config source.content tables → Makes found.config config) where
    pub ends : (r : Result Ready ShipStatus) → IfErr r (IsUnprepared found name) → IfErr r (EndsEarly name source source_now copy copy_now)
    ends (Ok ready) un = tt
    ends (Err NoMemory) un = λ config sources copies count told tells copy_tells made image stands.
        memory-ends config sources copies name count source source_now copy copy_now told image stands looks copy_looks
    ends (Err NoTable) un = λ config sources copies count told tells copy_tells made image stands.
        nameless-ends config sources copies name count source source_now copy copy_now told image stands looks found.config found.layout.tables.entries.items (makes config sources tells made image) layout.tables copy_looks un
    ends (Err OtherForm) un = λ config sources copies count told tells copy_tells made image stands.
        form-ends config sources copies name count source source_now copy copy_now told image stands looks found.config found.layout.tables.entries.items (makes config sources tells made image) layout.tables copy_looks un.0 un.1 un.2
    ends (Err (NotImage side)) un = absurd un
    ends (Err (Device side)) un = absurd un
    ends (Err (Done shipped)) un = absurd un
    ends (Err OutWrite) un = absurd un
    ends (Err (BadImage side table)) un = absurd un
    ends (Err (Gap last oldest)) un = absurd un
    ends (Err Spent) un = absurd un

  module _ (layout : IsLayoutOf found.layout found.config) (source copy : MediaState) (image : IsTrue source.tells → IsAccepted found.config × IsImageOf source.content found.config)
      (own : IsTrue copy.tells → (copy.content ≡ []) ⊎ IsImageOf copy.content found.config) where
    pub fits : (r : Result Ready ShipStatus) → IfErr r (IsUnprepared found name) → IfErr r (λ status. IsTrue source.tells → IsTrue copy.tells → StatusFits source.content copy.content name status)
    fits (Ok ready) un = tt
    fits (Err NoMemory) un = λ tells copy_tells. tt
    fits (Err NoTable) un = λ tells copy_tells.
        images-without source.content copy.content name found.config found.layout.tables.entries.items (image tells).0 (image tells).1 (own copy_tells) layout.tables un
    fits (Err OtherForm) un = λ tells copy_tells.
        images-for source.content copy.content name found.config found.layout.tables.entries.items (image tells).0 (image tells).1 (own copy_tells) layout.tables un.0 un.1 false un.2
    fits (Err (NotImage side)) un = absurd un
    fits (Err (Device side)) un = absurd un
    fits (Err (Done shipped)) un = absurd un
    fits (Err OutWrite) un = absurd un
    fits (Err (BadImage side table)) un = absurd un
    fits (Err (Gap last oldest)) un = absurd un
    fits (Err Spent) un = absurd un

    module _ (whole : IsTrue (is_whole found.config)) (makes : (config : Config) (tables : List Table) → IsTrue source.tells → IsMade config → IsImage config source.content tables → Makes found.config config)
        (size : (config : Config) → Makes found.config config → length source.content ≡ medium_len config)
        (copy_size : (config : Config) → Makes found.config config → (copy.content ≡ [] → ⊥) → length copy.content ≡ medium_len config) where
      pub ready : (r : Result Ready ShipStatus) → IfOk r (λ ready. IsPrepared ready found name) → IfOk r (λ ready. IsReady ready name source copy)
      ready (Err status) is = tt
      ready (Ok r) is = record {
        whole = rw is.config whole;
        source_layout = rw (is.source, is.config) layout;
        copy_layout = rw is.config is.copy;
        rows = rw is.config is.rows;
        index = rw is.config is.index;
        at = rw is.config (omega (arith, slice_get_within found.layout.tables.entries.items r.at is.named.entry is.named.here, layout.tables.as_many));
        named = rw is.source is.named;
        copy_named = named-alike found.layout.tables.entries.items r.copy.tables.entries.items found.config layout.tables is.copy.tables name r.at is.named;
        shipped = rw is.config is.shipped;
        size = rw is.config size;
        copy_size = rw is.config copy_size;
        makes = rw is.config makes;
        image = rw is.config image;
        own = rw is.config own;
      }
