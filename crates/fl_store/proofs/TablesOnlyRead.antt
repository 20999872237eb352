-- Tables over a flash that is only read.
use Rattle.std.proofs.Common.{◌≡◌, ℕ, Bool, true, false, IsTrue, List, refl, sym, ◌∙◌, ap, subst, MatchBool, ◌+◌, ◌≤◌, length}
use Rattle.fl_flash.specs.Flash.{FlashState, page_at}
use Rattle.fl_flash.specs.Places.{extent, page_of}
use Rattle.fl_model.specs.Bare.{bare}
use Rattle.fl_model.specs.Record.{Plan}
use Rattle.fl_model.specs.Table as model
use Rattle.fl_frame.specs.Contents.{Contents, contents_of, OnlyReads}
use Rattle.fl_frame.proofs.ContentsInTurn.{OnlyReads-goes}
use Rattle.fl_cursor.specs.Cursor.{IsStanding}
use Rattle.fl_table.specs.Memory.{LiesOn}
use Rattle.fl_table.specs.Standing.{Stands}
use Rattle.fl_table.specs.declared.table.Table.{Table}
use Rattle.fl_rlc.specs.Logged as logged
use Rattle.fl_rlc.specs.declared.table.LoggedTable.{LoggedTable}
use Rattle.fl_rlc.proofs.Others.{logged-apart, logged-rests-apart}
use Rattle.fl_model.specs.Table.{RingName, DataRing, IndexRing, VarRing, LogRing}
use Rattle.fl_parts.specs.Pages.{place_in}
use Rattle.fl_store.specs.Tables.{first_of, EntryStands, TablesStand}
use Rattle.fl_store.specs.declared.tables.Entry.{Entry}
use Rattle.fl_parts.proofs.Apart.{PagesApart}
use Rattle.fl_table.proofs.Apart.{stands-pages}
use Rattle.fl_table.proofs.ReadsKeepTable.{lies-moved}
use Rattle.fl_store.proofs.TablesChanged.{tables-still}

-- Each page stands, and so does the geometry.
module _ (f g : FlashState) (same : page_at g ≡ page_at f) where
  page-same : (first : ℕ) (plan : Plan) (ring : RingName) (n : ℕ) → page_at g (place_in first plan ring n) ≡ page_at f (place_in first plan ring n)
  page-same first plan ring n = ap (λ (page : ℕ → List ℕ). page (place_in first plan ring n)) same

  all-apart : (first : ℕ) (plan : Plan) → PagesApart f g first (bare plan)
  all-apart first plan = record {
    rows = λ n. page-same first (bare plan) DataRing n;
    index = λ has n. page-same first (bare plan) IndexRing n;
    var = λ has n. page-same first (bare plan) VarRing n;
  }

  on_flash-kept : (t : LoggedTable 64 64) (mounted : Bool) (first : ℕ) (plan : Plan) (table : model.Table) → MatchBool mounted (logged.Stands t f first plan table) (logged.Rests f first plan table) →
      MatchBool mounted (logged.Stands t g first plan table) (logged.Rests g first plan table)
  on_flash-kept t true first plan table h = logged-apart f g first plan (all-apart first plan) (λ has n. page-same first plan LogRing n) t table h
  on_flash-kept t false first plan table h = logged-rests-apart f g first plan (all-apart first plan) (λ has n. page-same first plan LogRing n) table h

  module _ (same-geometry : g.geometry ≡ f.geometry) where
    entry-kept : (entry : Entry) (mounted : Bool) (first : ℕ) (plan : Plan) (table : model.Table) → EntryStands entry f mounted first plan table → EntryStands entry g mounted first plan table
    entry-kept entry mounted first plan table h =
        record { named = h.named; geometry = h.geometry ∙ sym same-geometry; planned = h.planned; on_flash = on_flash-kept entry.table mounted first plan table h.on_flash }

    pub tables-kept : (mounted : ℕ → Bool) (plans : List Plan) (entries : List Entry) (tables : List model.Table) → TablesStand f mounted plans entries tables → TablesStand g mounted plans entries tables
    tables-kept mounted plans entries tables h = tables-still f g mounted plans entries tables h (λ i plan e x k. entry-kept e (mounted i) (first_of plans i) plan x k)

module _ (f g : FlashState) (only : OnlyReads f g) where
  pub tells-read : IsTrue f.media.tells → IsTrue g.media.tells
  tells-read told = subst IsTrue (sym (ap (λ (c : Contents). c.tells) only.contents)) told

  pub lies-read : (t : Table 64 64) → LiesOn t f → LiesOn t g
  lies-read t lies = lies-moved t f g (OnlyReads-goes f g only) lies

  pub page-read : g.geometry.page ≡ f.geometry.page
  page-read = ap (λ (c : Contents). c.geometry.page) only.contents

  pub pages-read : page_at g ≡ page_at f
  pages-read = ap (λ (c : Contents). page_of c.bytes c.start c.geometry.page) only.contents

  -- a table still stands
  pub stands-read : (t : Table 64 64) (first : ℕ) (plan : Plan) (table : model.Table) → Stands t f first plan table → Stands t g first plan table
  stands-read t first plan table h = stands-pages f g pages-read t first plan table h

  -- .. and so do all, with their logs
  pub tables-read : (plans : List Plan) (entries : List Entry) (tables : List model.Table) → TablesStand f (λ i. true) plans entries tables → TablesStand g (λ i. true) plans entries tables
  tables-read plans entries tables h = tables-kept f g pages-read (ap (λ (c : Contents). c.geometry) only.contents) (λ i. true) plans entries tables h

module _ (t : Table 64 64) (f : FlashState) (first : ℕ) (plan : Plan) (table : model.Table) (tells : IsTrue f.media.tells) (reaches : f.start + extent f.geometry f.blocks ≤ length f.media.content) (lies : LiesOn t f) (stands : Stands t f first plan table) where
  abbrev pub is-standing : IsStanding t (contents_of f)
  is-standing = record { flash = f; same = refl; tells = tells; reaches = reaches; lies = lies; first = first; plan = plan; table = table; stands = stands }
