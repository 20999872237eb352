-- How an export of an image ends, from how one over its flash does.
use Rattle.std.proofs.Common.{ℕ, inl, inr, false, IsTrue, Option, List}
use Rattle.fl_base.specs.Causes.{Rose}
use Rattle.fl_base.specs.declared.types.KeyRange.{KeyRange}
use Rattle.fl_base.proofs.Appended.{appends-none}
use Rattle.fl_base.proofs.Risen.{rose-back}
use Rattle.fl_flash.specs.Flash.{FlashState}
use Rattle.fl_flash.specs.Media.{MediaState}
use Rattle.fl_image.specs.Header.{IsMade}
use Rattle.fl_image.specs.Image.{OnlyLooksAt}
use Rattle.fl_image.specs.declared.status.ToolStatus.{ToolStatus}
use Rattle.fl_image.specs.declared.status.ToolStatus.TheVariants.{Done, OutWrite, NoMemory, Device}
use Rattle.fl_model.specs.Record.{Config}
use Rattle.fl_model.specs.Table.{Table}
use Rattle.fl_words.specs.Config.{Lines}
use Rattle.fl_words.specs.Medium.{IsImage}
use Rattle.fl_store.specs.FoundTable.{FindsNone}
use Rattle.fl_store.specs.MountEnds.{IsUntouched, told_of}
use Rattle.fl_store.specs.Store.{IsOnMedium}
use Rattle.fl_store.specs.Tables.{TablesStand}
use Rattle.fl_store.specs.declared.tables.Entry.{Entry}
use Rattle.fl_store.proofs.FoundTables.{by-none, nameless, not-none}
use Rattle.fl_store.proofs.MountEnds.{fails-seen}
use Rattle.fl_store.proofs.Worked.{Worked, worked-image, worked-rose}
use Rattle.fl_export.specs.Ends.{Exports, ExportEnds}
use Rattle.fl_export.specs.Tables.{EndsOn}

module _ (config : Config) (tables : List Table) (name : List ℕ) (range : KeyRange) (old new : MediaState) where
  -- a store was opened on the medium, which had been looked at, and closed
  module _ (lines : Lines) (mid : MediaState) (f g : FlashState) (told told_now : Option (List ℕ)) (now : List Entry) (looks : OnlyLooksAt old mid) (worked : Worked lines mid new f g) (on : IsOnMedium config f) where
    rises : Rose f.media.faults g.media.faults → Rose old.faults new.faults
    rises rose = rose-back old.faults mid.faults new.faults looks.later (worked-rose lines mid new f g worked rose)

    seen : (ts : List Table) → TablesStand g (λ i. false) config.plans now ts → IsImage config new.content ts
    seen = worked-image lines mid new f g worked config on now

    exports-seen : (Wrote : List ℕ → Type 0) → Exports config.plans tables name range (told_of f.media g.media told told_now) (TablesStand g (λ i. false) config.plans now) Wrote →
        Exports config.plans tables name range (told_of old new told told_now) (IsImage config new.content) Wrote
    exports-seen Wrote h = record { rose = h.rose; risen = λ r. rises (h.risen r); end = h.end; did = h.did; holds = seen _ h.holds; at = h.at; found = h.found; wrote = h.wrote }

    pub ends-seen : (status : ToolStatus) → EndsOn config.plans tables name range f g told told_now now status → ExportEnds config tables name range (told_of old new told told_now) old.content new.content status
    ends-seen Done h = exports-seen _ h
    ends-seen OutWrite h = exports-seen _ h
    ends-seen NoMemory h = inr (exports-seen _ h)
    ends-seen Device (rose, inl h) = inr (rises rose, inl (fails-seen config.plans tables name told told_now f.media.faults g.media.faults old.faults new.faults _ _ rises seen h))
    ends-seen Device (rose, inr h) = inr (rises rose, inr (exports-seen _ h))
    ends-seen status h = absurd h

  -- no table was found
  pub early-ends : (told : Option (List ℕ)) → IsMade config → IsTrue old.tells → IsImage config old.content tables → OnlyLooksAt old new → (status : ToolStatus) → FindsNone old new name status →
      ExportEnds config tables name range (told_of old new told told) old.content new.content status
  early-ends told made tells image looks status none =
      by-none old new name (λ s. ExportEnds config tables name range (told_of old new told told) old.content new.content s) status none
      (λ h. absurd (not-none old new name config made tables tells image h)) (λ h. (nameless old new name config made tables tells image h, untouched)) (λ rose. inl (rose, untouched)) (inl untouched)
    where
      untouched : IsUntouched old.content new.content (told_of old new told told)
      untouched = record { same = looks.content; nothing = appends-none told }
