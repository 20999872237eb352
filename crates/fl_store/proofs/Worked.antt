-- What is left of a medium on which a store was opened and closed.
use Rattle.std.proofs.Common.{◌≡◌, ℕ, ◌*◌, ◌<◌, false, IsTrue, List, take, sum_by, sym, ◌∙◌, subst}
use Rattle.fl_base.specs.Causes.{Rose}
use Rattle.fl_base.specs.declared.types.Geometry.{Geometry}
use Rattle.fl_config.specs.Whole.{Makes}
use Rattle.fl_flash.specs.Flash.{FlashState, Goes, page_at}
use Rattle.fl_flash.specs.Media.{MediaState}
use Rattle.fl_image.specs.Image.{OnlyLooksAt}
use Rattle.fl_model.specs.Image.{page_bytes}
use Rattle.fl_model.specs.Record.{Config, blocks_of}
use Rattle.fl_model.specs.Table.{Table}
use Rattle.fl_parts.proofs.Images.{pages-medium}
use Rattle.fl_words.specs.Config.{Lines}
use Rattle.fl_words.specs.Medium.{IsImage}
use Rattle.fl_store.specs.MountEnds.{Keeps}
use Rattle.fl_store.specs.Repaired.{IsLeft, IsOfOther, AreRepaired, OthersAreRepaired}
use Rattle.fl_store.specs.Store.{Holds, IsOnMedium, IsOpened}
use Rattle.fl_store.specs.Tables.{TablesStand}
use Rattle.fl_store.specs.declared.tables.Entry.{Entry}
use Rattle.fl_store.proofs.Images.{tables-image}

-- a flash that was opened on one medium goes on, and was given back as another
pub record Worked (lines : Lines) (old new : MediaState) (f g : FlashState) : Type 0 where
  pub opened : IsOpened lines old f
  pub goes : Goes f g
  pub closed : new ≡ g.media

pub worked-by : {lines : Lines} {old new : MediaState} {f g : FlashState} → IsOpened lines old f → Goes f g → new ≡ g.media → Worked lines old new f g
worked-by opened goes closed = record { opened = opened; goes = goes; closed = closed }

-- a store whose medium was looked at before it was opened holds what that stood for
pub held-since : (config : Config) (tables : List Table) (lines : Lines) (old mid : MediaState) (entries : List Entry) (f : FlashState) → IsTrue old.tells → Makes lines config → IsImage config old.content tables → OnlyLooksAt old mid →
    ((configured : Config) (ts : List Table) → IsTrue mid.tells → Makes lines configured → IsImage configured mid.content ts → Holds configured entries f false ts) → Holds config entries f false tables
held-since config tables lines old mid entries f tells makes image looks holds =
    holds config tables (subst IsTrue (sym looks.tells) tells) makes (subst (λ (content : List ℕ). IsImage config content tables) (sym looks.content) image)

-- what goes on stays on a medium of the configuration
pub medium-goes : (config : Config) (f g : FlashState) → Goes f g → IsOnMedium config f → IsOnMedium config g
medium-goes config f g goes on = record {
  told = subst IsTrue (sym goes.tells) on.told;
  len = goes.size ∙ on.len;
  head = subst (λ (n : ℕ). take n g.media.content ≡ take n f.media.content) on.start (goes.front on.told) ∙ on.head;
  start = goes.start ∙ on.start;
  geometry = goes.geometry ∙ on.geometry;
}

-- what is left of a page of the flash is left of it on the medium
page-left : (config : Config) (f g : FlashState) → Goes f g → IsOnMedium config f → (page : ℕ) → IsLeft config.plans f.geometry page (page_at f page) (page_at g page) →
    IsLeft config.plans config.geometry page (page_bytes config f.media.content page) (page_bytes config g.media.content page)
page-left config f g goes on page left =
    subst (λ (x : Geometry). IsLeft config.plans x page (page_bytes config f.media.content page) (page_bytes config g.media.content page)) on.geometry
    (subst (λ (at : ℕ → List ℕ). IsLeft config.plans f.geometry page (at page) (page_bytes config g.media.content page)) (sym (pages-medium config f on.start on.geometry))
    (subst (λ (at : ℕ → List ℕ). IsLeft config.plans f.geometry page (page_at f page) (at page)) (sym (pages-medium config g (goes.start ∙ on.start) (goes.geometry ∙ on.geometry))) left))

module _ (lines : Lines) (old new : MediaState) (f g : FlashState) (worked : Worked lines old new f g) where
  -- from what holds of the two media as the flash has them
  as-closed : (P : MediaState → MediaState → Type 0) → P f.media g.media → P old new
  as-closed P h = subst (P old) (sym worked.closed) (subst (λ (m : MediaState). P m g.media) worked.opened.media h)

  -- whatever it held
  pub worked-keeps : Keeps old new
  worked-keeps = as-closed Keeps (record {
    tells = worked.goes.tells;
    len = worked.goes.size;
    head = λ told. subst (λ (n : ℕ). take n g.media.content ≡ take n f.media.content) worked.opened.start (worked.goes.front told);
    later = worked.goes.faults;
  })

  pub worked-rose : Rose f.media.faults g.media.faults → Rose old.faults new.faults
  worked-rose rose = as-closed (λ a b. Rose a.faults b.faults) rose

  module _ (config : Config) (on : IsOnMedium config f) where
    -- the image of the tables that stand at the end
    pub worked-image : (now : List Entry) (tables : List Table) → TablesStand g (λ i. false) config.plans now tables → IsImage config new.content tables
    worked-image now tables stand =
        let after = medium-goes config f g worked.goes on in
        as-closed (λ a b. IsImage config b.content tables) (tables-image config now g tables after.len after.head after.start after.geometry stand)

    -- .. with the pages that are left of those before
    pub worked-repaired : ((page : ℕ) → page < sum_by blocks_of config.plans * f.geometry.block → IsLeft config.plans f.geometry page (page_at f page) (page_at g page)) → AreRepaired config old.content new.content
    worked-repaired each = as-closed (λ a b. AreRepaired config a.content b.content) (λ page within.
        page-left config f g worked.goes on page (each page (subst (λ (x : Geometry). page < sum_by blocks_of config.plans * x.block) (sym on.geometry) within)))

    pub worked-others : (name : List ℕ) → ((page : ℕ) → IsOfOther config.plans name f.geometry.block page → IsLeft config.plans f.geometry page (page_at f page) (page_at g page)) → OthersAreRepaired config name old.content new.content
    worked-others name each = as-closed (λ a b. OthersAreRepaired config name a.content b.content) (λ page other.
        page-left config f g worked.goes on page (each page (subst (λ (x : Geometry). IsOfOther config.plans name x.block page) (sym on.geometry) other)))
