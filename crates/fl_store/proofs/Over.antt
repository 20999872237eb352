-- A store that is made over a medium, and one that gives it back.
use Rattle.std.proofs.Common.{◌≡◌, ℕ, true, false, IsTrue, None, Some, List, map, sum_by, refl, sym, ◌∙◌, ap, subst}
use base.Fml.{GName}
use Rattle.fl_base.specs.declared.types.Geometry.{Geometry}
use Rattle.fl_config.specs.Whole.{Makes}
use Rattle.fl_flash.specs.Flash.{FlashState}
use Rattle.fl_flash.specs.Media.{MediaState}
use Rattle.fl_flash.specs.Sim.{on_medium}
use Rattle.fl_image.proofs.Made.{made-by}
use Rattle.fl_model.specs.Record.{Config, blocks_of}
use Rattle.fl_model.specs.Table.{Table, lose}
use Rattle.fl_words.specs.Config.{Lines}
use Rattle.fl_words.specs.Medium.{IsImage}
use Rattle.fl_store.specs.Store.{IsOpened, Holds}
use Rattle.fl_store.specs.Tables.{AreNewTables}
use Rattle.fl_store.specs.declared.tables.Entry.{Entry}
use Rattle.fl_store.proofs.Images.{image-tables, tables-image}
use Rattle.fl_store.proofs.TablesChanged.{some-is}
use Rattle.fl_store.proofs.Unmounted.{off}

abbrev New : Geometry → ℕ → GName → MediaState → FlashState
New geometry blocks origin medium = on_medium geometry blocks 1024 origin true None 0 (record { reads = 0; programs = 0; erases = 0 }) medium

module _ (lines : Lines) (f : FlashState) (medium : MediaState) (geometry : Geometry) (blocks : ℕ) (origin : GName) (is : f ≡ New geometry blocks origin medium) (device : lines.device ≡ Some geometry) where
  pub flash-over : blocks ≡ sum_by blocks_of lines.plans → (g : Geometry) → lines.device ≡ Some g → f ≡ New g (sum_by blocks_of lines.plans) origin medium
  flash-over all g own =
      is ∙ (ap (λ (x : Geometry). New x blocks origin medium) (some-is lines.device geometry g device own)
      ∙ ap (λ (n : ℕ). New g n origin medium) all)

  pub opened-over : blocks ≡ sum_by blocks_of lines.plans → IsOpened lines medium f
  opened-over all =
      subst (λ (x : FlashState). IsOpened lines medium x) (sym is)
      (record { media = refl; start = refl; device = device; blocks = all; on = refl; calm = record { armed = refl; programs = refl; erases = refl }; unread = refl })

  pub origin-over : f.origin ≡ origin
  origin-over = ap (λ (x : FlashState). x.origin) is

  -- over an image of new tables it holds these
  pub holds-over : (entries : List Entry) → AreNewTables entries lines → (config : Config) (tables : List Table) → IsTrue medium.tells → Makes lines config → IsImage config medium.content tables → Holds config entries f false tables
  holds-over entries new config tables told makes image =
      subst (λ (x : FlashState). Holds config entries x false tables) (sym is) (record {
        medium = record { told = told; len = image.len; head = image.head; start = refl; geometry = same };
        stand = image-tables config lines entries (New geometry blocks origin medium) tables refl same makes new image;
      })
    where
      same : geometry ≡ config.geometry
      same = some-is lines.device geometry config.geometry device (made-by lines config makes).device_is

module _ (config : Config) (entries : List Entry) (f : FlashState) (medium : MediaState) (tables : List Table) (is : medium ≡ f.media) where
  pub image-closed : Holds config entries f false tables → IsImage config medium.content tables
  image-closed holds =
      subst (λ (m : MediaState). IsImage config m.content tables) (sym is)
      (tables-image config entries f tables holds.medium.len holds.medium.head holds.medium.start holds.medium.geometry holds.stand)

  pub image-lost : Holds config entries f true tables → IsImage config medium.content (map lose tables)
  image-lost holds =
      subst (λ (m : MediaState). IsImage config m.content (map lose tables)) (sym is)
      (tables-image config entries f (map lose tables) holds.medium.len holds.medium.head holds.medium.start holds.medium.geometry (off f true config.plans entries tables holds.stand))
