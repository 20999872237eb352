-- What a job does to an image, from its calls.
use Rattle.std.proofs.Common.{◌≡◌, ℕ, ◌<◌, IsTrue, Result, Ok, Some, List, length, refl, sym, ◌∙◌, ap, subst, slice_get}
use Rattle.fl_flash.specs.Flash.{FlashState, Goes, page_at}
use Rattle.fl_flash.specs.Media.{MediaState}
use Rattle.fl_flash.specs.Places.{page_of}
use Rattle.fl_image.specs.Image.{OnlyLooksAt}
use Rattle.fl_image.specs.declared.status.ToolStatus.{ToolStatus}
use Rattle.fl_model.proofs.Lists.{slice_get-some}
use Rattle.fl_frame.specs.Contents.{Contents, OnlyReads}
use Rattle.fl_rlc.specs.Table as logged
use Rattle.fl_store.specs.FoundTable.{FindsNone, FindsTable}
use Rattle.fl_store.specs.Jobs.{ChangesOwn, IsUnopened, JobOver, MountsThen}
use Rattle.fl_store.specs.MountsOver.{MountsOver}
use Rattle.fl_store.specs.Mounting.{AreSamePlans, IsBeside, tried}
use Rattle.fl_store.specs.Store.{IsOpened}
use Rattle.fl_store.specs.declared.found_table.FoundTable.{FoundTable}
use Rattle.fl_store.specs.declared.tables.BadMount.{BadMount}
use Rattle.fl_store.specs.declared.tables.Entry.{Entry}
use Rattle.fl_store.specs.declared.tables.Tables.{Tables}
use Rattle.fl_store.proofs.FoundTables.{by-none}
use Rattle.fl_store.proofs.Outsides.{outside-then}

-- ---- over a flash

module _ (entries now : List Entry) (f between : FlashState) (outcome : Result (Unit {0}) BadMount) (mounts : MountsOver entries now f outcome between) where
  -- nothing is done behind the mount
  pub mounts-alone : (Did : Result (Unit {0}) BadMount → List Entry → FlashState → Type 0) → Did outcome now between → MountsThen entries f between Did
  mounts-alone Did did = record { outcome = outcome; now = now; between = between; mounts = mounts; did = did; outside = mounts.outside }

  -- .. or pages are read
  pub mounts-read : (g : FlashState) → OnlyReads between g → (Did : Result (Unit {0}) BadMount → List Entry → FlashState → Type 0) → Did outcome now between → MountsThen entries f g Did
  mounts-read g only Did did = record {
    outcome = outcome;
    now = now;
    between = between;
    mounts = mounts;
    did = did;
    outside = λ tells page beside. ap (λ (c : Contents). page_of c.bytes c.start c.geometry.page page) only.contents ∙ mounts.outside tells page beside;
  }

-- .. or one table is worked on
pub mounts-work : (entries now : List Entry) (f between g : FlashState) (outcome : Result (Unit {0}) BadMount) (done : Unit {0}) → outcome ≡ Ok done → MountsOver entries now f outcome between → Goes f between → (at : ℕ) → ChangesOwn entries at between g →
    (Did : Result (Unit {0}) BadMount → List Entry → FlashState → Type 0) → Did outcome now between → MountsThen entries f g Did
mounts-work entries now f between g outcome done is mounts goes at own Did did = record {
  outcome = outcome;
  now = now;
  between = between;
  mounts = mounts;
  did = did;
  outside = λ tells page beside.
      let mine : IsBeside own.entry.table page = subst (λ (r : Result (Unit {0}) BadMount). ((i : ℕ) (entry : Entry) → slice_get (tried r entries) i ≡ Some entry → IsBeside entry.table page) → IsBeside own.entry.table page) (sym is)
      (λ all. all at own.entry own.here) beside in
      own.outside (subst IsTrue (sym goes.tells) tells) page mine.ring mine.index mine.var mine.log ∙ mounts.outside tells page beside;
}

-- what changes outside of no ring of a mounted table changes outside of none of the one that was mounted
pub own-changes : (entries now : List Entry) (at : ℕ) (entry : Entry) (f g : FlashState) → AreSamePlans entries now → at < length entries → slice_get now at ≡ Some entry → (IsTrue f.media.tells → logged.OutsideStands entry.table (page_at f) (page_at g)) → ChangesOwn entries at f g
own-changes entries now at entry f g same within here outside =
    let was = slice_get-some entries at within in
    record {
      entry = was.0;
      here = was.1;
      outside = λ tells. outside-then was.0.table entry.table (page_at f) (page_at f) (page_at g) (same at was.0 entry was.1 here) (λ page ring index var log. refl) (outside tells);
    }

-- ---- over a medium

pub job-over : (name : List ℕ) (old looked new : MediaState) (found : FoundTable) (tables : Tables) (begin end : FlashState) (Did : ℕ → List Entry → FlashState → FlashState → Type 0) →
    FindsTable old name found → OnlyLooksAt old looked → tables ≡ found.layout.tables → IsOpened found.config looked begin → Goes begin end → new ≡ end.media → Did found.at tables.entries.items begin end → JobOver name old new Did
job-over name old looked new found tables begin end Did finds looks made opened goes left did = record {
  lines = found.config;
  image = finds.image;
  entries = found.layout.tables.entries.items;
  made = finds.layout.tables;
  at = found.at;
  named = finds.named;
  looked = looked;
  looks = looks;
  begin = begin;
  opened = opened;
  end = end;
  did = subst (λ (t : Tables). Did found.at t.entries.items begin end) made did;
  goes = goes;
  left = left;
}

pub unopened : (old new : MediaState) (name : List ℕ) (status : ToolStatus) → FindsNone old new name status → IsUnopened status
unopened old new name status none = by-none old new name IsUnopened status none (λ h. tt) (λ h. tt) (λ rose. tt) tt
