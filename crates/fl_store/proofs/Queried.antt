-- The table of a store that queries are asked of: it stands without its log.
use Rattle.std.proofs.Common.{◌≡◌, ℕ, true, false, Option, None, Some, Result, Ok, Err, IfErr, List, length, refl, sym, ◌∙◌, ap, subst, IfOk, IfSome, option_map, unwrap_or, slice_get}
use Rattle.std.proofs.Math.Path.{fun_ext}
use Rattle.std.proofs.lemmas.Option.{slice_get_within}
use Rattle.fl_flash.specs.Buffer.{BufferState}
use Rattle.fl_flash.specs.Flash.{FlashState}
use Rattle.fl_model.specs.Bare.{bare, bare_table}
use Rattle.fl_model.specs.Query.{blob_in, blob_of}
use Rattle.fl_model.specs.Record.{Config, Plan}
use Rattle.fl_model.specs.Row.{Row}
use Rattle.fl_model.specs.Table as model
use Rattle.fl_page.specs.declared.fault.ReadFault.{ReadFault}
use Rattle.fl_page.specs.declared.fault.ReadFault.TheVariants as fault
use Rattle.fl_rlc.specs.Table.{is_running, LiesOn, table_in}
use Rattle.fl_table.specs.BlobAt.{has_blobs}
use Rattle.fl_table.specs.Finding.{Finds, IsRowAt, LookupFails, row_of_place}
use Rattle.fl_table.specs.Look.{layout_in}
use Rattle.fl_table.specs.Memory as memory
use Rattle.fl_table.specs.Standing as standing
use Rattle.fl_table.specs.declared.find.RowAt.{RowAt}
use Rattle.fl_table.specs.declared.find.RowAt.TheVariants as at
use Rattle.fl_table.specs.declared.table.Table.{Table}
use Rattle.fl_store.specs.Calls as calls
use Rattle.fl_store.specs.Calls.{GetEnds, IsRowIn, Located, columns_at}
use Rattle.fl_store.specs.InMemory.{has_blobs_at}
use Rattle.fl_store.specs.Store.{Holds}
use Rattle.fl_store.specs.Tables.{first_of, EntryStands, IsNamed, Names}
use Rattle.fl_store.specs.declared.tables.Entry.{Entry}
use Rattle.fl_store.proofs.TablesChanged.{some-is}

module _ (t : Table 64 64) (entry : Entry) (is : t ≡ table_in entry.table) where
  pub stands-unlogged : {f : FlashState} {first : ℕ} {plan : Plan} {table : model.Table} → EntryStands entry f true first plan table → standing.Stands t f first (bare plan) (bare_table table)
  stands-unlogged {f} {first} {plan} {table} h = subst (λ (x : Table 64 64). standing.Stands x f first (bare plan) (bare_table table)) (sym is) h.on_flash.unlogged

  pub planned-unlogged : {f : FlashState} {first : ℕ} {plan : Plan} {table : model.Table} → EntryStands entry f true first plan table → memory.IsPlanned t first (bare plan)
  planned-unlogged {f} {first} {plan} {table} h = subst (λ (x : Table 64 64). memory.IsPlanned x first (bare plan)) (sym is) h.planned.table

  pub runs-unlogged : is_running entry.table ≡ true → memory.is_running t ≡ true
  runs-unlogged runs = ap (λ (x : Table 64 64). memory.is_running x) is ∙ runs

  pub lies-unlogged : {f : FlashState} → LiesOn entry.table f → memory.LiesOn t f
  lies-unlogged {f} lies = subst (λ (x : Table 64 64). memory.LiesOn x f) (sym is) lies.table

  -- the one at a place of a store
  module _ (entries : List Entry) (at : ℕ) (here : slice_get entries at ≡ Some entry) where
    pub stands-at : (config : Config) (f : FlashState) (tables : List model.Table) (plan : Plan) (table : model.Table) → Holds config entries f true tables → Located config tables at plan table →
        standing.Stands t f (first_of config.plans at) (bare plan) (bare_table table)
    stands-at config f tables plan table h own = stands-unlogged (h.stand.each at plan entry table own.plan_is here own.table_is)

    pub columns-are : length (layout_in t).columns ≡ columns_at entries at
    columns-are =
        ap (λ (x : Table 64 64). length (layout_in x).columns) is
        ∙ sym (ap (λ (o : Option Entry). unwrap_or (option_map (λ (e : Entry). length (layout_in (table_in e.table)).columns) o) 0) here)

    pub blobs-are : has_blobs t ≡ has_blobs_at entries at
    blobs-are =
        ap (λ (x : Table 64 64). has_blobs x) is
        ∙ sym (ap (λ (o : Option Entry). unwrap_or (option_map (λ (e : Entry). has_blobs (table_in e.table)) o) false) here)

    row-in : (buf : BufferState) (place : RowAt) → IsRowAt t buf place → IsRowIn entries at buf place
    row-in buf place h other e =
        subst (λ (x : Entry). IsRowAt (table_in x.table) buf place) (some-is (slice_get entries at) entry other here e) (subst (λ (x : Table 64 64). IsRowAt x buf place) is h)

    pub rows-in : (buf : BufferState) (result : Result (Option RowAt) ReadFault) → IfOk result (λ found. IfSome found (IsRowAt t buf)) → IfOk result (λ found. IfSome found (IsRowIn entries at buf))
    rows-in buf (Ok (Some place)) h = row-in buf place h
    rows-in buf result h = tt

    pub row-at : (buf : BufferState) (place : RowAt) → IsRowIn entries at buf place → IsRowAt t buf place
    row-at buf place h = subst (λ (x : Table 64 64). IsRowAt x buf place) (sym is) (h entry here)

    -- what holds of the table that is asked holds of the one at the place
    pub at-place : (P : Table 64 64 → Type 0) → P t → (other : Entry) → slice_get entries at ≡ Some other → P (table_in other.table)
    at-place P h other e = subst (λ (x : Entry). P (table_in x.table)) (some-is (slice_get entries at) entry other here e) (subst P is h)

    pub found-at : (P : Table 64 64 → Option RowAt → Type 0) (result : Result (Option RowAt) ReadFault) → IfOk result (P t) →
        IfOk result (λ found. (other : Entry) → slice_get entries at ≡ Some other → P (table_in other.table) found)
    found-at P (Ok found) h = at-place (λ (x : Table 64 64). P x found) h
    found-at P (Err e) h = tt

    pub fails-at : (f g : FlashState) (result : Result (Option RowAt) ReadFault) → IfErr result (λ e. LookupFails t f e g) → IfErr result (λ e. (other : Entry) → slice_get entries at ≡ Some other → LookupFails (table_in other.table) f e g)
    fails-at f g (Ok found) h = tt
    fails-at f g (Err e) h = λ other k.
        subst (λ (x : Entry). LookupFails (table_in x.table) f e g) (some-is (slice_get entries at) entry other here k) (subst (λ (x : Table 64 64). LookupFails x f e g) is h)

-- ---- what a lookup finds

pub row-bare : (plan : Plan) (table : model.Table) (buf : BufferState) (place : RowAt) (row : Option Row) → row_of_place (bare plan) (bare_table table) buf place ≡ row → row_of_place plan table buf place ≡ row
row-bare plan table buf (at.Pending i) row h = h
row-bare plan table buf (at.InPage place) row h = h

pub get-ends : (plan : Plan) (table : model.Table) (key before now : ℕ) (buf : BufferState) (result : Result (Option RowAt) ReadFault) → Finds 64 (bare plan) (bare_table table) key before now buf result → GetEnds plan table key buf result
get-ends plan table key before now buf (Ok None) h = h.entry
get-ends plan table key before now buf (Ok (Some place)) h = record { entry = h.entry.entry; found = h.entry.found; row = row-bare plan table buf place _ h.entry.row }
get-ends plan table key before now buf (Err (fault.Flash e)) h = h
get-ends plan table key before now buf (Err (fault.BadPage bad)) h = absurd h

-- ---- what is left of a blob

left-bare : (table : model.Table) (entry : model.Entry) (blob : Option (List ℕ)) → blob_in (bare_table table) entry blob ≡ blob_in table entry blob
left-bare table entry None = refl
left-bare table entry (Some bytes) = refl

pub blobs-bare : (table : model.Table) → blob_of (bare_table table) ≡ blob_of table
blobs-bare table = fun_ext (λ (entry : model.Entry). left-bare table entry entry.kept.blob)

-- ---- the table with a name

pub finds-named : (entries : List Entry) (word name : List ℕ) (result : Option ℕ) → name ≡ word → Names entries name result → calls.Finds entries word result
finds-named entries word name (Some at) is h = (slice_get_within entries at h.entry h.here, subst (λ n. IsNamed entries n at) is h)
finds-named entries word name None is h = λ named i other e same. h i other e (same ∙ sym is)
