-- What is told of each rule of a table, put together of what is told of its rings.
use Rattle.std.proofs.Common.{◌≡◌, inl, inr, ℕ, Bool, true, false, if◌then◌else◌, MatchOption, Option, Some, None, IfSome, List, refl, sym, ◌∙◌, ap}
use Rattle.std.proofs.lemmas.Bool.{true≢false}
use Rattle.fl_base.specs.declared.types.RingPlace.{RingPlace}
use Rattle.fl_flash.specs.Flash.{FlashState, page_at}
use Rattle.fl_model.specs.Record.{RowLayout}
use Rattle.fl_plan.specs.declared.table_config.TableConfig.{TableConfig}
use Rattle.fl_ring.specs.Ring.{Shape}
use Rattle.fl_check.specs.Faults.{with_keys, are_clear, table_faults}
use Rattle.fl_rules.specs.RingRules.{OverPages}
use Rattle.fl_rules.specs.Rising.{HaveRows, KeysAscend, KeysBreak}
use Rattle.fl_check.specs.Ruled.{HeadTold, RingTold, KeysTold}
use Rattle.fl_check.specs.Rules.{OfToldRing, EntriesTold, BlobsTold, HaveContent, AreTold, AreRules, in_order, rules_of, tally_told, kept_in}
use Rattle.fl_check.specs.Whole.{Fits, IfWithin, shape_in, rows_shape, layout_in, IsRowsForm, IsVarForm, IsFinding}
use Rattle.fl_check.specs.declared.faults.RingFaults.{RingFaults}
use Rattle.fl_check.specs.declared.faults.TableFaults.{TableFaults}
use Rattle.fl_check.specs.declared.faults.TableRules.TheVariants.{Kept, Broken}
use Rattle.fl_rules.specs.declared.numbering.Numbering.{Numbering}
use Rattle.fl_rules.specs.declared.tally.Tally.{Tally}
use Rattle.fl_check.proofs.FirstTold.{FirstOf, IsSoundTable, table_first}
use Rattle.fl_check.proofs.RingsKnown.{rows_there, content_there}
use Rattle.fl_check.proofs.RulesTold.{legible}

-- ---- of a ring that a table may not have

pub at_place : (Told : RingPlace → RingFaults → Option Numbering → Type 0) (o : Option RingPlace) (place : RingPlace) (faults : RingFaults) (told : Option Numbering) → o ≡ Some place → Told place faults told
    → OfToldRing Told o faults told
at_place Told o place faults told e is = rw e is

-- ---- the keys of a data ring

module _ (Form : ℕ → List ℕ → Type 0) (page : ℕ → List ℕ) (r : Shape) (at_least : ℕ) (keys : Option ℕ) where
  by_head : (head : Option ℕ) (faults : RingFaults) (told : Option Numbering) → HeadTold Form page r at_least head faults told → HeadTold Form page r at_least head (with_keys None (with_keys keys faults)) told
  by_head None faults told holds = record { m = holds.m; marks = holds.marks; state = holds.state; numbers = holds.numbers; keys = refl; rest = holds.rest }
  by_head (Some p) faults told none = (none.0, none.1, ap (λ (x : RingFaults). with_keys None (with_keys keys x)) none.2, none.3)

  -- what is told without them
  pub keyless : (faults : RingFaults) (told : Option Numbering) → RingTold Form page r at_least faults told → RingTold Form page r at_least (with_keys None (with_keys keys faults)) told
  keyless faults told ring = by_head faults.head faults told ring

pub keys_at : (layout : RowLayout) (page : ℕ → List ℕ) (r : Shape) (rows : Option Numbering) (n : Numbering) (keys : Option ℕ) → rows ≡ Some n
    → (HaveRows layout page r n.marks → MatchOption keys (KeysAscend layout page r n.marks) (λ p. KeysBreak layout page r n.marks p)) → IfSome rows (λ n. HaveRows layout page r n.marks)
    → KeysTold (OverPages layout) page r rows keys
keys_at layout page r rows n keys e is = rw e is

-- ---- rows and content

pub rows_told : (config : TableConfig) (f : FlashState) (at_least : ℕ) (faults : RingFaults) (told : Option Numbering) → Fits config f
    → RingTold (IsRowsForm config) (page_at f) (rows_shape config) at_least faults told → IfSome told (λ n. HaveRows (layout_in config) (page_at f) (rows_shape config) n.marks)
rows_told config f at_least faults None fits ring = tt
rows_told config f at_least faults (Some n) fits ring =
    let known = legible (IsRowsForm config) (page_at f) (rows_shape config) at_least n faults (Some n) refl ring in
    rows_there config f at_least n fits known.numbers known.bodies

pub content_told : (config : TableConfig) (f : FlashState) (at_least : ℕ) (o : Option RingPlace) (faults : RingFaults) (told : Option Numbering) → Fits config f
    → OfToldRing (λ place faults told. RingTold IsVarForm (page_at f) (shape_in config place) at_least faults told) o faults told → HaveContent config (page_at f) o told
content_told config f at_least None faults told fits ring = tt
content_told config f at_least (Some place) faults None fits ring = tt
content_told config f at_least (Some place) faults (Some n) fits ring =
    let known = legible IsVarForm (page_at f) (shape_in config place) at_least n faults (Some n) refl ring in
    content_there config f place at_least n fits known.numbers known.bodies

-- ---- of a ring whose states are in order

pub if_in_order : (P : Option Numbering → Type 0) (state : Option ℕ) (told : Option Numbering) → P None → P told → P (in_order state told)
if_in_order P None told none is = is
if_in_order P (Some p) told none is = none

pub none_within : (config : TableConfig) (o : Option RingPlace) → IfWithin config o None
none_within config None = tt
none_within config (Some place) = tt

pub no_content : (config : TableConfig) (page : ℕ → List ℕ) (o : Option RingPlace) → HaveContent config page o None
no_content config page None = tt
no_content config page (Some place) = tt

-- ---- all rules

module _ (config : TableConfig) (page : ℕ → List ℕ) where
  pub entries_known : (o : Option RingPlace) (x y : Option Numbering) (place : RingPlace) (index rows : Numbering) (entry : Option ℕ) → o ≡ Some place → x ≡ Some index → y ≡ Some rows
      → EntriesTold config page (Some place) (Some index) (Some rows) entry → EntriesTold config page o x y entry
  entries_known o x y place index rows entry e f g told = rw (e, f, g) told

  pub blobs_at : (o : Option RingPlace) (x y : Option Numbering) (place : RingPlace) (var rows : Numbering) (blob : Option ℕ) → o ≡ Some place → x ≡ Some var → y ≡ Some rows
      → (HaveRows (layout_in config) page (rows_shape config) rows.marks → HaveContent config page (Some place) (Some var) → BlobsTold config page (Some place) (Some var) (Some rows) blob)
      → IfSome y (λ n. HaveRows (layout_in config) page (rows_shape config) n.marks) → HaveContent config page o x → BlobsTold config page o x y blob
  blobs_at o x y place var rows blob e f g told = rw (e, f, g) told

module _ (config : TableConfig) (log : Option RingPlace) (page : ℕ → List ℕ) where
  -- what is said of a table with these faults
  module _ (faults : TableFaults) (a : AreTold config log page faults) (tally : Tally) (tally_is : tally ≡ tally_told config page a.rows) where
    by_clear : (c : Bool) → are_clear faults ≡ c → AreRules config log page (if c then Kept tally.rows (kept_in a.rows) tally.voids else Broken faults)
    by_clear false e = (a, e)
    by_clear true e = sound (table_first config log page faults a)
      where
        sound : FirstOf (IsSoundTable config log page faults a) (λ finding. IsFinding config log page finding) (table_faults faults) (are_clear faults) → AreRules config log page (Kept tally.rows (kept_in a.rows) tally.voids)
        sound (inl passes) =
            let table = passes.holds in (
              tally.blob_end,
              (record {
                t = table.t;
                sound = table.sound;
                tally_is = tally_is ∙ ap (tally_told config page) table.rows;
                kept_is = ap kept_in table.rows;
              }),
            )
        sound (inr begins) = absurd (true≢false (sym e ∙ begins.unclear))

    pub are_rules : AreRules config log page (rules_of faults a.rows tally)
    are_rules = by_clear (are_clear faults) refl
