-- A table that is sound: its rings keep their rules, the entries of its index tell of its data pages, and the references of
-- its rows lead to their blobs. And of one that isn't, the first rule that doesn't hold.
use Rattle.std.specs.Prelude.{◌≡◌, ◌⊎◌, ℕ, ◌+◌, ◌^◌, ◌/◌, ◌<◌, ◌≤◌, Option, Some, None, IfSome, nat_lt, List, length}
use Rattle.fl_base.specs.declared.types.RingPlace.{RingPlace}
use Rattle.fl_flash.specs.Flash.{FlashState, pages, page_at}
use Rattle.fl_index.specs.declared.page.EntryForm.{EntryForm}
use Rattle.fl_model.specs.Record.{RowLayout}
use Rattle.fl_plan.specs.declared.table_config.TableConfig.{TableConfig}
use Rattle.fl_plan.specs.Limits.{IsRingSize, IsWithinLimits}
use Rattle.fl_plan.specs.Plan.{bits_in, blocks_in, plan_of_table}
use Rattle.fl_plan.specs.Refusal.{config_fault, nameless}
use Rattle.fl_ring.specs.Mounting.{shape_at}
use Rattle.fl_ring.specs.Ring.{Shape}
use Rattle.fl_schema.specs.Form.{layout_with}
use Rattle.fl_rules.specs.Claims.{AllBelow}
use Rattle.fl_rules.specs.ContentPage.{IsContentPage}
use Rattle.fl_rules.specs.DataPage.{IsDataPage}
use Rattle.fl_rules.specs.IndexPage.{IsIndexPage}
use Rattle.fl_rules.specs.Marks.{AreWithin}
use Rattle.fl_rules.specs.References.{PageLeads, ReferencesBreak}
use Rattle.fl_rules.specs.RingRules.{NoRows, OverPages, WithinPages, IsRingSound, BreaksRing}
use Rattle.fl_rules.specs.Tally.{listed_to, tally_of}
use Rattle.fl_rules.specs.declared.numbering.Numbering.{Numbering}
use Rattle.fl_rules.specs.declared.rule.Rule.{Rule}
use Rattle.fl_rules.specs.declared.rule.Rule.TheVariants.{Entry, Blob}
use Rattle.fl_rules.specs.declared.tally.Tally.{Tally}
use Rattle.fl_check.specs.Entries.{IndexOver, entries_in, HaveEntries, EntriesBreak}
use Rattle.fl_check.specs.declared.finding.Finding.{Finding}
use Rattle.fl_check.specs.declared.finding.Finding.TheVariants.{Sound, Fault}
use Rattle.fl_check.specs.declared.finding.RingName.{RingName}
use Rattle.fl_check.specs.declared.finding.RingName.TheVariants.{Index, Data, Var, Log}
use Rattle.fl_check.specs.declared.table.TableNumbers.{TableNumbers}

-- ---- a table on a flash

-- the rings of a table that isn't refused lie on the flash
pub record Fits (config : TableConfig) (f : FlashState) : Type 0 where
  pub geometry : config.geometry ≡ f.geometry
  pub limits : IsWithinLimits config
  pub passes : config_fault config ≡ None
  pub rows : config.rows.first_block + config.rows.blocks ≤ f.blocks
  pub index : IfSome config.index (λ place. place.first_block + place.blocks ≤ f.blocks)
  pub var : IfSome config.var (λ place. place.first_block + place.blocks ≤ f.blocks)
  pub few : pages f < 2 ^ 32

-- .. and so does its log, if it has one
abbrev pub LogFits : Option RingPlace → FlashState → Type 0
LogFits log f = IfSome log (λ place. IsRingSize place × (place.first_block + place.blocks ≤ f.blocks))

abbrev pub shape_in : TableConfig → RingPlace → Shape
shape_in config place = shape_at place config.geometry

abbrev pub rows_shape : TableConfig → Shape
rows_shape config = shape_in config config.rows

-- the layout of its rows
abbrev pub layout_in : TableConfig → RowLayout
layout_in config = layout_with config.key config.columns.items (nat_lt 0 (blocks_in config.var))

-- the form of the entries of its index
abbrev pub form_in : TableConfig → EntryForm
form_in config = record { width = bits_in config.buckets / 8; full = config.full_index }

-- ---- the forms of its pages

abbrev pub IsIndexForm : TableConfig → ℕ → List ℕ → Type 0
IsIndexForm config number page = (length page ≡ config.geometry.page) × IsIndexPage (plan_of_table nameless config) number page

abbrev pub IsRowsForm : TableConfig → ℕ → List ℕ → Type 0
IsRowsForm config number page = IsDataPage (layout_in config) config.buckets number page

abbrev pub IsVarForm : ℕ → List ℕ → Type 0
IsVarForm number page = IsContentPage number page

-- a page of the log has rows without a bitmap
abbrev pub IsLogForm : TableConfig → ℕ → List ℕ → Type 0
IsLogForm config number page = IsDataPage (layout_in config) None number page

-- ---- its rings

-- of a ring that a table may not have
abbrev pub OfRing : (RingPlace → Numbering → Type 0) → Option RingPlace → Option Numbering → Type 0
OfRing Holds None None = Unit {0}
OfRing Holds (Some place) (Some n) = Holds place n
OfRing Holds None (Some n) = ⊥
OfRing Holds (Some place) None = ⊥

-- its kept pages have their places in it
abbrev pub LiesWithin : TableConfig → Option RingPlace → Option Numbering → Type 0
LiesWithin config place n = OfRing (λ place n. AreWithin (shape_in config place) n.marks) place n

-- .. if there is one, and its pages tell their marks
abbrev pub IfWithin : TableConfig → Option RingPlace → Option Numbering → Type 0
IfWithin config (Some place) (Some n) = AreWithin (shape_in config place) n.marks
IfWithin config (Some place) None = Unit {0}
IfWithin config None n = Unit {0}

abbrev pub IsIndexSound : TableConfig → (ℕ → List ℕ) → Option Numbering → Type 0
IsIndexSound config page index = OfRing (λ place n. IsRingSound (IsIndexForm config) NoRows page (shape_in config place) 0 n) config.index index

-- the number after the data pages that the index lists
abbrev pub end_in : TableConfig → (ℕ → List ℕ) → Option RingPlace → Option Numbering → ℕ
end_in config page (Some place) (Some n) = listed_to (entries_in config.geometry.page (form_in config)) page (shape_in config place) n.marks n.marks.kept
end_in config page None n = 0
end_in config page (Some place) None = 0

abbrev pub index_end : TableConfig → (ℕ → List ℕ) → Option Numbering → ℕ
index_end config page index = end_in config page config.index index

-- the numbers of data pages that tell none begin there
abbrev pub AreRowsSound : TableConfig → (ℕ → List ℕ) → Option Numbering → Numbering → Type 0
AreRowsSound config page index rows = IsRingSound (IsRowsForm config) (OverPages (layout_in config)) page (rows_shape config) (index_end config page index) rows

abbrev pub tally_in : TableConfig → (ℕ → List ℕ) → Numbering → Tally
tally_in config page rows = tally_of (layout_in config) page (rows_shape config) rows.marks rows.marks.kept

-- the numbers of pages of variable data that tell none begin behind the pages that blobs name
abbrev pub IsVarSound : TableConfig → (ℕ → List ℕ) → Numbering → Option Numbering → Type 0
IsVarSound config page rows var = OfRing (λ place n. IsRingSound IsVarForm NoRows page (shape_in config place) (tally_in config page rows).blob_end n) config.var var

-- the keys of a log ascend in each of its pages
abbrev pub IsLogSound : TableConfig → Option RingPlace → (ℕ → List ℕ) → Option Numbering → Type 0
IsLogSound config log page newest =
    OfRing (λ place n. IsRingSound (IsLogForm config) (WithinPages (layout_in config)) page (shape_in config place) 0 n) log newest

pub record AreRingsSound (config : TableConfig) (log : Option RingPlace) (page : ℕ → List ℕ) (t : TableNumbers) : Type 0 where
  pub index : IsIndexSound config page t.index
  pub rows : AreRowsSound config page t.index t.rows
  pub var : IsVarSound config page t.rows t.var
  pub logged : IsLogSound config log page t.log

-- ---- its index and its references

abbrev pub indexing : TableConfig → Numbering → Numbering → IndexOver
indexing config index rows = record { form = form_in config; layout = layout_in config; index = index.marks; rows = rows }

abbrev pub AreEntriesSound : TableConfig → (ℕ → List ℕ) → TableNumbers → Type 0
AreEntriesSound config page t = OfRing (λ place n. HaveEntries page (shape_in config place) (rows_shape config) (indexing config n t.rows)) config.index t.index

abbrev pub AreReferencesSound : TableConfig → (ℕ → List ℕ) → TableNumbers → Type 0
AreReferencesSound config page t =
    OfRing (λ place n. AllBelow (PageLeads (layout_in config) page (rows_shape config) t.rows.marks (shape_in config place) n) t.rows.marks.kept) config.var t.var

-- all rules hold
pub record IsSound (config : TableConfig) (log : Option RingPlace) (page : ℕ → List ℕ) (t : TableNumbers) : Type 0 where
  pub rings : AreRingsSound config log page t
  pub entries : AreEntriesSound config page t
  pub references : AreReferencesSound config page t

-- ---- the first rule that doesn't hold

-- a rule of the index ring
pub record BreaksIndex (config : TableConfig) (page : ℕ → List ℕ) (p : ℕ) (rule : Rule) : Type 0 where
  pub place : RingPlace
  pub is : config.index ≡ Some place
  pub breaks : BreaksRing (IsIndexForm config) NoRows page (shape_in config place) 0 rule p

-- .. or one of the data ring
pub record BreaksRows (config : TableConfig) (page : ℕ → List ℕ) (p : ℕ) (rule : Rule) : Type 0 where
  pub index : Option Numbering
  pub index_sound : IsIndexSound config page index
  pub breaks : BreaksRing (IsRowsForm config) (OverPages (layout_in config)) page (rows_shape config) (index_end config page index) rule p

-- .. or one of the ring of variable data, whose numbers begin here where no page tells its own
pub record BreaksVarBy (config : TableConfig) (page : ℕ → List ℕ) (at_least p : ℕ) (rule : Rule) : Type 0 where
  pub place : RingPlace
  pub is : config.var ≡ Some place
  pub breaks : BreaksRing IsVarForm NoRows page (shape_in config place) at_least rule p

pub record BreaksVar (config : TableConfig) (page : ℕ → List ℕ) (p : ℕ) (rule : Rule) : Type 0 where
  pub index : Option Numbering
  pub rows : Numbering
  pub index_sound : IsIndexSound config page index
  pub rows_sound : AreRowsSound config page index rows
  pub breaks : BreaksVarBy config page (tally_in config page rows).blob_end p rule

-- .. or one of the log, where all other rings are sound
pub record BreaksLogRing (config : TableConfig) (log : Option RingPlace) (page : ℕ → List ℕ) (p : ℕ) (rule : Rule) : Type 0 where
  pub place : RingPlace
  pub is : log ≡ Some place
  pub breaks : BreaksRing (IsLogForm config) (WithinPages (layout_in config)) page (shape_in config place) 0 rule p

pub record BreaksLog (config : TableConfig) (log : Option RingPlace) (page : ℕ → List ℕ) (p : ℕ) (rule : Rule) : Type 0 where
  pub index : Option Numbering
  pub rows : Numbering
  pub var : Option Numbering
  pub index_sound : IsIndexSound config page index
  pub rows_sound : AreRowsSound config page index rows
  pub var_sound : IsVarSound config page rows var
  pub breaks : BreaksLogRing config log page p rule

-- .. or that on the entries of the index
pub record BreaksEntries (config : TableConfig) (log : Option RingPlace) (page : ℕ → List ℕ) (p : ℕ) : Type 0 where
  pub t : TableNumbers
  pub rings : AreRingsSound config log page t
  pub place : RingPlace
  pub n : Numbering
  pub is : config.index ≡ Some place
  pub numbered : t.index ≡ Some n
  pub breaks : EntriesBreak page (shape_in config place) (rows_shape config) (indexing config n t.rows) p

-- .. or that on the references
pub record BreaksReferences (config : TableConfig) (log : Option RingPlace) (page : ℕ → List ℕ) (p : ℕ) : Type 0 where
  pub t : TableNumbers
  pub rings : AreRingsSound config log page t
  pub entries : AreEntriesSound config page t
  pub place : RingPlace
  pub n : Numbering
  pub is : config.var ≡ Some place
  pub numbered : t.var ≡ Some n
  pub breaks : ReferencesBreak (layout_in config) page (rows_shape config) t.rows.marks (shape_in config place) n p

-- all rules before it hold, and this page of the ring is the first that breaks it
abbrev pub IsFirstFault : TableConfig → Option RingPlace → (ℕ → List ℕ) → RingName → ℕ → Rule → Type 0
IsFirstFault config log page Index p rule = BreaksIndex config page p rule ⊎ ((rule ≡ Entry) × BreaksEntries config log page p)
IsFirstFault config log page Data p rule = BreaksRows config page p rule ⊎ ((rule ≡ Blob) × BreaksReferences config log page p)
IsFirstFault config log page Var p rule = BreaksVar config page p rule
IsFirstFault config log page Log p rule = BreaksLog config log page p rule

-- a sound table, and what its data ring holds
pub record Holds (config : TableConfig) (log : Option RingPlace) (page : ℕ → List ℕ) (tally : Tally) (kept : ℕ) : Type 0 where
  pub t : TableNumbers
  pub sound : IsSound config log page t
  pub tally_is : tally ≡ tally_in config page t.rows
  pub kept_is : kept ≡ t.rows.marks.kept

abbrev pub IsFinding : TableConfig → Option RingPlace → (ℕ → List ℕ) → Finding → Type 0
IsFinding config log page (Sound rows pages voids) = (blob_end : ℕ) × Holds config log page (record { rows = rows; voids = voids; blob_end = blob_end }) pages
IsFinding config log page (Fault ring p rule) = IsFirstFault config log page ring p rule

-- what is found rightly of a table over a flash
abbrev pub Finds : TableConfig → Option RingPlace → FlashState → Finding → Type 0
Finds config log f finding = IsFinding config log (page_at f) finding
