-- What is told of each rule of a table.
use Rattle.std.specs.Prelude.{◌≡◌, ℕ, false, if◌then◌else◌, Option, Some, None, MatchOption, List, ◌∷◌}
use Rattle.fl_base.specs.declared.types.RingPlace.{RingPlace}
use Rattle.fl_plan.specs.declared.table_config.TableConfig.{TableConfig}
use Rattle.fl_rules.specs.Claims.{AllBelow}
use Rattle.fl_check.specs.Entries.{HaveEntries, EntriesBreak}
use Rattle.fl_check.specs.Faults.{no_faults, are_clear, findings_of}
use Rattle.fl_rules.specs.Reaches.{HasContent}
use Rattle.fl_rules.specs.References.{PageLeads, ReferencesBreak}
use Rattle.fl_rules.specs.RingRules.{OverPages, WithinPages}
use Rattle.fl_check.specs.Ruled.{RingTold, RowsTold}
use Rattle.fl_rules.specs.Tally.{no_pages}
use Rattle.fl_check.specs.Whole.{shape_in, rows_shape, layout_in, indexing, index_end, tally_in, IsIndexForm, IsRowsForm, IsVarForm, IsLogForm, IsFinding}
use Rattle.fl_check.specs.declared.faults.RingFaults.{RingFaults}
use Rattle.fl_check.specs.declared.faults.TableFaults.{TableFaults}
use Rattle.fl_check.specs.declared.faults.TableRules.{TableRules}
use Rattle.fl_check.specs.declared.faults.TableRules.TheVariants.{Kept, Broken}
use Rattle.fl_check.specs.declared.finding.Finding.{Finding}
use Rattle.fl_check.specs.declared.finding.Finding.TheVariants.{Sound}
use Rattle.fl_rules.specs.declared.numbering.Numbering.{Numbering}
use Rattle.fl_rules.specs.declared.tally.Tally.{Tally}

-- of a ring that a table may not have
abbrev pub OfToldRing : (RingPlace → RingFaults → Option Numbering → Type 0) → Option RingPlace → RingFaults → Option Numbering → Type 0
OfToldRing Told None faults told = (faults ≡ no_faults) × (told ≡ None)
OfToldRing Told (Some place) faults told = Told place faults told

-- what the data pages tell, where they tell their marks and numbers
abbrev pub tally_told : TableConfig → (ℕ → List ℕ) → Option Numbering → Tally
tally_told config page None = no_pages
tally_told config page (Some rows) = tally_in config page rows

abbrev pub kept_in : Option Numbering → ℕ
kept_in None = 0
kept_in (Some n) = n.marks.kept

-- what is said of a table with these faults
abbrev pub rules_of : TableFaults → Option Numbering → Tally → TableRules
rules_of faults rows tally = if are_clear faults then Kept tally.rows (kept_in rows) tally.voids else Broken faults

-- the marks and numbers that a ring tells, if its rule on the states holds too: only then it ends where they say
abbrev pub in_order : Option ℕ → Option Numbering → Option Numbering
in_order None told = told
in_order (Some p) told = None

-- the rule on the entries, where both rings tell their marks and numbers
abbrev pub EntriesTold : TableConfig → (ℕ → List ℕ) → Option RingPlace → Option Numbering → Option Numbering → Option ℕ → Type 0
EntriesTold config page (Some place) (Some index) (Some rows) entry =
    MatchOption entry (HaveEntries page (shape_in config place) (rows_shape config) (indexing config index rows)) (λ p. EntriesBreak page (shape_in config place) (rows_shape config) (indexing config index rows) p)
EntriesTold config page None index rows entry = entry ≡ None
EntriesTold config page (Some place) None rows entry = entry ≡ None
EntriesTold config page (Some place) (Some index) None entry = entry ≡ None

-- .. and that on the references
abbrev pub BlobsTold : TableConfig → (ℕ → List ℕ) → Option RingPlace → Option Numbering → Option Numbering → Option ℕ → Type 0
BlobsTold config page (Some place) (Some var) (Some rows) blob =
    MatchOption blob (AllBelow (PageLeads (layout_in config) page (rows_shape config) rows.marks (shape_in config place) var) rows.marks.kept)
    (λ p. ReferencesBreak (layout_in config) page (rows_shape config) rows.marks (shape_in config place) var p)
BlobsTold config page None var rows blob = blob ≡ None
BlobsTold config page (Some place) None rows blob = blob ≡ None
BlobsTold config page (Some place) (Some var) None blob = blob ≡ None

-- the committed pages of variable data have content
abbrev pub HaveContent : TableConfig → (ℕ → List ℕ) → Option RingPlace → Option Numbering → Type 0
HaveContent config page (Some place) (Some var) = AllBelow (HasContent page (shape_in config place) var.marks.at) var.marks.kept
HaveContent config page (Some place) None = Unit {0}
HaveContent config page None var = Unit {0}

-- Each rule of a table that is looked at holds, or this is the first page that breaks it.
pub record AreTold (config : TableConfig) (log : Option RingPlace) (page : ℕ → List ℕ) (faults : TableFaults) : Type 0 where
  pub index : Option Numbering
  pub rows : Option Numbering
  pub var : Option Numbering
  pub logged : Option Numbering
  pub in_index : OfToldRing (λ place faults told. RingTold (IsIndexForm config) page (shape_in config place) 0 faults told) config.index faults.index index
  pub in_rows : RowsTold (IsRowsForm config) (OverPages (layout_in config)) page (rows_shape config) (index_end config page index) faults.rows rows
  pub in_var : OfToldRing (λ place faults told. RingTold IsVarForm page (shape_in config place) (tally_told config page rows).blob_end faults told) config.var faults.var var
  pub in_log : OfToldRing (λ place faults told. RowsTold (IsLogForm config) (WithinPages (layout_in config)) page (shape_in config place) 0 faults told) log faults.log logged
  pub entry : EntriesTold config page config.index index (in_order faults.rows.state rows) faults.entry
  pub blob : BlobsTold config page config.var (in_order faults.var.state var) (in_order faults.rows.state rows) faults.blob

-- the table is sound, or some rules are broken
abbrev pub AreRules : TableConfig → Option RingPlace → (ℕ → List ℕ) → TableRules → Type 0
AreRules config log page (Kept rows pages voids) = IsFinding config log page (Sound rows pages voids)
AreRules config log page (Broken faults) = AreTold config log page faults × (are_clear faults ≡ false)

-- what is found of a table by its first rule that doesn't hold comes first among what is found by all of them
pub record TellsFirst (rules : TableRules) (finding : Finding) : Type 0 where
  pub others : List Finding
  pub is : findings_of rules ≡ finding ∷ others
