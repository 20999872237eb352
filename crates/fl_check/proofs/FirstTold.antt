-- The first page that is told of all rules of a table is that of the first rule that doesn't hold; if none is told the table is sound.
use Rattle.std.proofs.Common.{◌≡◌, ◌⊎◌, inl, inr, ℕ, Bool, true, false, ◌&&◌, MatchOption, Option, Some, None, List, [], ◌∷◌, ◌++◌, refl, sym, ◌∙◌, ap, subst}
use Rattle.std.specs.Prelude.{is_none}
use Rattle.std.proofs.lemmas.Bool.{true≢false}
use Rattle.std.proofs.lemmas.Option.{same_Some}
use Rattle.fl_base.specs.declared.types.RingPlace.{RingPlace}
use Rattle.fl_plan.specs.declared.table_config.TableConfig.{TableConfig}
use Rattle.fl_ring.specs.Ring.{Shape}
use Rattle.fl_rules.specs.Claims.{AllBelow}
use Rattle.fl_check.specs.Entries.{HaveEntries, EntriesBreak}
use Rattle.fl_check.specs.Faults.{with_keys, is_clear, are_clear, fault_of, ring_faults, table_faults}
use Rattle.fl_rules.specs.Marks.{AreMarks}
use Rattle.fl_rules.specs.Numbering.{IsNumbered}
use Rattle.fl_rules.specs.References.{PageLeads, ReferencesBreak}
use Rattle.fl_rules.specs.Rest.{IsRestBlank, RestBreaks}
use Rattle.fl_rules.specs.RingRules.{KeyOrder, NoRows, OverPages, WithinPages, IsFormed, HaveKeys, BreakKeys, IsRingSound, BreaksRing}
use Rattle.fl_check.specs.Rules as all
use Rattle.fl_check.specs.Ruled.{BodiesTold, NumbersTold, HeadTold, RingTold, KeysTold, RowsTold}
use Rattle.fl_rules.specs.States.{HaveStates, StatesBreak}
use Rattle.fl_check.specs.Whole.{OfRing, shape_in, rows_shape, layout_in, indexing, index_end, tally_in, IsIndexForm, IsRowsForm, IsVarForm, IsLogForm, IsIndexSound, IsVarSound, IsLogSound, AreRingsSound, AreEntriesSound, AreReferencesSound, IsSound, IsFinding}
use Rattle.fl_check.specs.declared.faults.RingFaults.{RingFaults}
use Rattle.fl_check.specs.declared.faults.TableFaults.{TableFaults}
use Rattle.fl_check.specs.declared.finding.Finding.{Finding}
use Rattle.fl_check.specs.declared.finding.Finding.TheVariants.{Fault}
use Rattle.fl_check.specs.declared.finding.RingName.{RingName}
use Rattle.fl_check.specs.declared.finding.RingName.TheVariants as named
use Rattle.fl_rules.specs.declared.marks.Marks.{Marks}
use Rattle.fl_rules.specs.declared.numbering.Numbering.{Numbering}
use Rattle.fl_rules.specs.declared.rule.Rule.{Rule}
use Rattle.fl_check.specs.declared.table.TableNumbers.{TableNumbers}
use Rattle.fl_rules.specs.declared.rule.Rule.TheVariants.{Head, State, Number, Body, Keys, Entry, Blob, Rest}

-- ---- one list of what is told after another

-- the first that is told is so
pub record Begins (Is : Finding → Type 0) (findings : List Finding) (clear : Bool) : Type 0 where
  pub finding : Finding
  pub others : List Finding
  pub is : findings ≡ finding ∷ others
  pub unclear : clear ≡ false
  pub holds : Is finding

-- none is told, and the rules hold
pub record Passes (Holds : Type 0) (findings : List Finding) (clear : Bool) : Type 0 where
  pub none : findings ≡ []
  pub cleared : clear ≡ true
  pub holds : Holds

abbrev pub FirstOf : Type 0 → (Finding → Type 0) → List Finding → Bool → Type 0
FirstOf Holds Is findings clear = Passes Holds findings clear ⊎ Begins Is findings clear

pub then_first : (P : Type 0) (Q : P → Type 0) (Is : Finding → Type 0) (xs ys : List Finding) (c d : Bool) → FirstOf P Is xs c → ((p : P) → FirstOf (Q p) Is ys d)
    → FirstOf ((p : P) × Q p) Is (xs ++ ys) (c && d)
then_first P Q Is xs ys c d (inl passes) next = more (next passes.holds)
  where
    more : FirstOf (Q passes.holds) Is ys d → FirstOf ((p : P) × Q p) Is (xs ++ ys) (c && d)
    more (inl after) = inl (record {
      none = ap (λ (l : List Finding). l ++ ys) passes.none ∙ after.none;
      cleared = ap (λ (b : Bool). b && d) passes.cleared ∙ after.cleared;
      holds = (passes.holds, after.holds);
    })
    more (inr begins) = inr (record {
      finding = begins.finding;
      others = begins.others;
      is = ap (λ (l : List Finding). l ++ ys) passes.none ∙ begins.is;
      unclear = ap (λ (b : Bool). b && d) passes.cleared ∙ begins.unclear;
      holds = begins.holds;
    })
then_first P Q Is xs ys c d (inr begins) next = inr (record {
  finding = begins.finding;
  others = begins.others ++ ys;
  is = ap (λ (l : List Finding). l ++ ys) begins.is;
  unclear = ap (λ (b : Bool). b && d) begins.unclear;
  holds = begins.holds;
})

-- .. of one rule
pub one_first : (P : Type 0) (Is : Finding → Type 0) (ring : RingName) (rule : Rule) (o : Option ℕ) → MatchOption o P (λ p. Is (Fault ring p rule)) → FirstOf P Is (fault_of ring rule o) (is_none o)
one_first P Is ring rule None holds = inl (record { none = refl; cleared = refl; holds = holds })
one_first P Is ring rule (Some p) breaks = inr (record { finding = Fault ring p rule; others = []; is = refl; unclear = refl; holds = breaks })

-- a ring of which no page is told has its states
no_state : (head state number body keys rest : Option ℕ) → (is_none head && is_none state && is_none number && is_none body && is_none keys && is_none rest) ≡ true → state ≡ None
no_state head None number body keys rest e = refl
no_state None (Some p) number body keys rest e = absurd (true≢false (sym e))
no_state (Some q) (Some p) number body keys rest e = absurd (true≢false (sym e))

pub stateless : (faults : RingFaults) → is_clear faults ≡ true → faults.state ≡ None
stateless faults e = no_state faults.head faults.state faults.number faults.body faults.keys faults.rest e

-- ---- the rules of a ring

-- the ring is sound, by the marks and numbers that it tells
pub record IsSoundBy (Form : ℕ → List ℕ → Type 0) (order : KeyOrder) (page : ℕ → List ℕ) (r : Shape) (at_least : ℕ) (told : Option Numbering) : Type 0 where
  pub n : Numbering
  pub is : told ≡ Some n
  pub sound : IsRingSound Form order page r at_least n

module _ (Form : ℕ → List ℕ → Type 0) (order : KeyOrder) (page : ℕ → List ℕ) (r : Shape) (at_least : ℕ) (name : RingName) (Is : Finding → Type 0)
    (lifts : (rule : Rule) (p : ℕ) → BreaksRing Form order page r at_least rule p → Is (Fault name p rule)) (told : Option Numbering) where
  abbrev Sound : Type 0
  Sound = IsSoundBy Form order page r at_least told

  begins_at : (rule : Rule) (p : ℕ) (others findings : List Finding) (clear : Bool) → findings ≡ Fault name p rule ∷ others → clear ≡ false → BreaksRing Form order page r at_least rule p
      → FirstOf Sound Is findings clear
  begins_at rule p others findings clear is unclear breaks = inr (record { finding = Fault name p rule; others = others; is = is; unclear = unclear; holds = lifts rule p breaks })

  by_rest : (rest : Option ℕ) (n : Numbering) → told ≡ Some n → IsFormed Form page r at_least n → HaveKeys order page r n
      → MatchOption rest (IsRestBlank page r n.marks) (λ p. RestBreaks page r n.marks p) → FirstOf Sound Is (fault_of name Rest rest) (is_none rest)
  by_rest None n is formed keys blank = inl (record { none = refl; cleared = refl; holds = record { n = n; is = is; sound = record { formed = formed; keys = keys; rest = blank } } })
  by_rest (Some p) n is formed keys breaks = begins_at Rest p [] _ _ refl refl (record { n = n; formed = formed; keys = keys; breaks = breaks })

  by_keys : (keys rest : Option ℕ) (n : Numbering) → told ≡ Some n → IsFormed Form page r at_least n → MatchOption keys (HaveKeys order page r n) (λ p. BreakKeys order page r n p)
      → MatchOption rest (IsRestBlank page r n.marks) (λ p. RestBreaks page r n.marks p) → FirstOf Sound Is (fault_of name Keys keys ++ fault_of name Rest rest) (is_none keys && is_none rest)
  by_keys None rest n is formed have blank = by_rest rest n is formed have blank
  by_keys (Some p) rest n is formed breaks blank = begins_at Keys p (fault_of name Rest rest) _ _ refl refl (record { n = n; formed = formed; breaks = breaks })

  by_bodies : (body keys rest : Option ℕ) (n : Numbering) → IsNumbered page r at_least n.marks n.next → BodiesTold Form page r n body told → KeysTold order page r told keys
      → MatchOption rest (IsRestBlank page r n.marks) (λ p. RestBreaks page r n.marks p)
      → FirstOf Sound Is (fault_of name Body body ++ fault_of name Keys keys ++ fault_of name Rest rest) (is_none body && is_none keys && is_none rest)
  by_bodies None keys rest n numbered bodies have blank =
      by_keys keys rest n bodies.1 (record { numbered = numbered; bodies = bodies.0 }) (subst (λ (o : Option Numbering). KeysTold order page r o keys) bodies.1 have) blank
  by_bodies (Some p) keys rest n numbered bodies have blank =
      begins_at Body p (fault_of name Keys keys ++ fault_of name Rest rest) _ _ refl refl (record { n = n; numbered = numbered; breaks = bodies.0 })

  by_numbers : (number body keys rest : Option ℕ) (m : Marks) → AreMarks page r m → HaveStates page r m → NumbersTold Form page r m at_least number body told → KeysTold order page r told keys
      → MatchOption rest (IsRestBlank page r m) (λ p. RestBreaks page r m p)
      → FirstOf Sound Is (fault_of name Number number ++ fault_of name Body body ++ fault_of name Keys keys ++ fault_of name Rest rest) (is_none number && is_none body && is_none keys && is_none rest)
  by_numbers None body keys rest m marks states numbers have blank =
      by_bodies body keys rest (record { marks = m; next = numbers.next }) (record { marks = marks; states = states; numbers = numbers.numbers }) numbers.bodies have blank
  by_numbers (Some p) body keys rest m marks states numbers have blank =
      begins_at Number p (fault_of name Body body ++ fault_of name Keys keys ++ fault_of name Rest rest) _ _ refl refl (record { m = m; marks = marks; states = states; breaks = numbers.0 })

  by_states : (state number body keys rest : Option ℕ) (m : Marks) → AreMarks page r m → MatchOption state (HaveStates page r m) (λ p. StatesBreak page r m p)
      → NumbersTold Form page r m at_least number body told → KeysTold order page r told keys → MatchOption rest (IsRestBlank page r m) (λ p. RestBreaks page r m p)
      → FirstOf Sound Is (fault_of name State state ++ fault_of name Number number ++ fault_of name Body body ++ fault_of name Keys keys ++ fault_of name Rest rest)
      (is_none state && is_none number && is_none body && is_none keys && is_none rest)
  by_states None number body keys rest m marks states numbers have blank = by_numbers number body keys rest m marks states numbers have blank
  by_states (Some p) number body keys rest m marks breaks numbers have blank =
      begins_at State p (fault_of name Number number ++ fault_of name Body body ++ fault_of name Keys keys ++ fault_of name Rest rest) _ _ refl refl (record { m = m; marks = marks; breaks = breaks })

  pub by_head : (head keys : Option ℕ) (faults : RingFaults) → HeadTold Form page r at_least head faults told → KeysTold order page r told keys
      → FirstOf Sound Is
      (fault_of name Head head ++ fault_of name State faults.state ++ fault_of name Number faults.number ++ fault_of name Body faults.body ++ fault_of name Keys keys ++ fault_of name Rest faults.rest)
      (is_none head && is_none faults.state && is_none faults.number && is_none faults.body && is_none keys && is_none faults.rest)
  by_head None keys faults holds have = by_states faults.state faults.number faults.body keys faults.rest holds.m holds.marks holds.state holds.numbers have holds.rest
  by_head (Some p) keys faults none have =
      begins_at Head p
      (fault_of name State faults.state ++ fault_of name Number faults.number ++ fault_of name Body faults.body ++ fault_of name Keys keys ++ fault_of name Rest faults.rest) _ _ refl refl
      (none.0, none.1)

-- ---- a ring of pages without rows

module _ (Form : ℕ → List ℕ → Type 0) (page : ℕ → List ℕ) (r : Shape) (at_least : ℕ) where
  no_keys : (head : Option ℕ) (faults : RingFaults) (told : Option Numbering) → HeadTold Form page r at_least head faults told → faults.keys ≡ None
  no_keys None faults told holds = holds.keys
  no_keys (Some p) faults told none = ap (λ (x : RingFaults). x.keys) none.2

  keys_of : (told : Option Numbering) (keys : Option ℕ) → keys ≡ None → KeysTold NoRows page r told keys
  keys_of None keys is = is
  keys_of (Some n) keys is = subst (λ (o : Option ℕ). MatchOption o (HaveKeys NoRows page r n) (λ p. BreakKeys NoRows page r n p)) (sym is) tt

  pub ring_first : (faults : RingFaults) (told : Option Numbering) (name : RingName) (Is : Finding → Type 0)
      → ((rule : Rule) (p : ℕ) → BreaksRing Form NoRows page r at_least rule p → Is (Fault name p rule)) → RingTold Form page r at_least faults told
      → FirstOf (IsSoundBy Form NoRows page r at_least told) Is (ring_faults name faults) (is_clear faults)
  ring_first faults told name Is lifts ring =
      by_head Form NoRows page r at_least name Is lifts told faults.head faults.keys faults ring (keys_of told faults.keys (no_keys faults.head faults told ring))

-- ---- a ring of rows

pub rows_first : (Form : ℕ → List ℕ → Type 0) (order : KeyOrder) (page : ℕ → List ℕ) (r : Shape) (at_least : ℕ) (faults : RingFaults) (told : Option Numbering) (name : RingName) (Is : Finding → Type 0)
    → ((rule : Rule) (p : ℕ) → BreaksRing Form order page r at_least rule p → Is (Fault name p rule)) → RowsTold Form order page r at_least faults told
    → FirstOf (IsSoundBy Form order page r at_least told) Is (ring_faults name faults) (is_clear faults)
rows_first Form order page r at_least faults told name Is lifts rows =
    by_head Form order page r at_least name Is lifts told faults.head faults.keys (with_keys None faults) rows.ring rows.keys

-- ---- a table

module _ (config : TableConfig) (log : Option RingPlace) (page : ℕ → List ℕ) where
  -- a ring that it may not have
  ring_may : (Form : ℕ → List ℕ → Type 0) (order : KeyOrder) (at_least : ℕ) (Told : RingPlace → RingFaults → Option Numbering → Type 0) (o : Option RingPlace) (faults : RingFaults) (told : Option Numbering)
      (name : RingName) (Is : Finding → Type 0)
      → ((place : RingPlace) → o ≡ Some place → Told place faults told → FirstOf (IsSoundBy Form order page (shape_in config place) at_least told) Is (ring_faults name faults) (is_clear faults))
      → all.OfToldRing Told o faults told
      → FirstOf (OfRing (λ place n. IsRingSound Form order page (shape_in config place) at_least n) o told) Is (ring_faults name faults) (is_clear faults)
  ring_may Form order at_least Told None faults told name Is first none = inl (record {
    none = ap (ring_faults name) none.0;
    cleared = ap is_clear none.0;
    holds = subst (λ (x : Option Numbering). OfRing (λ place n. IsRingSound Form order page (shape_in config place) at_least n) None x) (sym none.1) tt;
  })
  ring_may Form order at_least Told (Some place) faults told name Is first ring = by (first place refl ring)
    where
      by : FirstOf (IsSoundBy Form order page (shape_in config place) at_least told) Is (ring_faults name faults) (is_clear faults)
          → FirstOf (OfRing (λ place n. IsRingSound Form order page (shape_in config place) at_least n) (Some place) told) Is (ring_faults name faults) (is_clear faults)
      by (inl passes) = inl (record {
        none = passes.none;
        cleared = passes.cleared;
        holds = subst (λ (x : Option Numbering). OfRing (λ place n. IsRingSound Form order page (shape_in config place) at_least n) (Some place) x) (sym passes.holds.is) passes.holds.sound;
      })
      by (inr begins) = inr begins

  module _ (faults : TableFaults) (a : all.AreTold config log page faults) where
    abbrev Is : Finding → Type 0
    Is finding = IsFinding config log page finding

    abbrev Index : Type 0
    Index = IsIndexSound config page a.index

    record Rows : Type 0 where
      n : Numbering
      is : a.rows ≡ Some n
      sound : IsRingSound (IsRowsForm config) (OverPages (layout_in config)) page (rows_shape config) (index_end config page a.index) n
      state : faults.rows.state ≡ None

    index_first : FirstOf Index Is (ring_faults named.Index faults.index) (is_clear faults.index)
    index_first =
        ring_may (IsIndexForm config) NoRows 0 (λ place faults told. RingTold (IsIndexForm config) page (shape_in config place) 0 faults told) config.index faults.index a.index named.Index Is
        (λ place is. ring_first (IsIndexForm config) page (shape_in config place) 0 faults.index a.index named.Index Is (λ rule p breaks. inl (record { place = place; is = is; breaks = breaks }))) a.in_index

    data_first : Index → FirstOf Rows Is (ring_faults named.Data faults.rows) (is_clear faults.rows)
    data_first index =
        by
        (rows_first (IsRowsForm config) (OverPages (layout_in config)) page (rows_shape config) (index_end config page a.index) faults.rows a.rows named.Data Is
        (λ rule p breaks. inl (record { index = a.index; index_sound = index; breaks = breaks })) a.in_rows)
      where
        by : FirstOf (IsSoundBy (IsRowsForm config) (OverPages (layout_in config)) page (rows_shape config) (index_end config page a.index) a.rows) Is (ring_faults named.Data faults.rows) (is_clear faults.rows)
            → FirstOf Rows Is (ring_faults named.Data faults.rows) (is_clear faults.rows)
        by (inl passes) = inl (record {
          none = passes.none;
          cleared = passes.cleared;
          holds = record { n = passes.holds.n; is = passes.holds.is; sound = passes.holds.sound; state = stateless faults.rows passes.cleared };
        })
        by (inr begins) = inr begins

    abbrev Var : Type 0
    Var = (n : Numbering) × (a.rows ≡ Some n) × IsVarSound config page n a.var × (faults.var.state ≡ None)

    var_first : Index × Rows → FirstOf Var Is (ring_faults named.Var faults.var) (is_clear faults.var)
    var_first two = by (ring_may IsVarForm NoRows (tally_in config page two.1.n).blob_end
        (λ place faults told. RingTold IsVarForm page (shape_in config place) (tally_in config page two.1.n).blob_end faults told) config.var faults.var a.var named.Var Is
        (λ place is. ring_first IsVarForm page (shape_in config place) (tally_in config page two.1.n).blob_end faults.var a.var named.Var Is
        (λ rule p breaks. record { index = a.index; rows = two.1.n; index_sound = two.0; rows_sound = two.1.sound; breaks = record { place = place; is = is; breaks = breaks } }))
        (subst (λ (x : Option Numbering). all.OfToldRing (λ place faults told. RingTold IsVarForm page (shape_in config place) (all.tally_told config page x).blob_end faults told) config.var faults.var a.var) two.1.is a.in_var))
      where
        by : FirstOf (OfRing (λ place n. IsRingSound IsVarForm NoRows page (shape_in config place) (tally_in config page two.1.n).blob_end n) config.var a.var) Is (ring_faults named.Var faults.var) (is_clear faults.var)
            → FirstOf Var Is (ring_faults named.Var faults.var) (is_clear faults.var)
        by (inl passes) = inl (record { none = passes.none; cleared = passes.cleared; holds = (two.1.n, two.1.is, passes.holds, stateless faults.var passes.cleared) })
        by (inr begins) = inr begins

    abbrev Three : Type 0
    Three = (Index × Rows) × Var

    one_rows : (m n : Numbering) → a.rows ≡ Some m → a.rows ≡ Some n → m ≡ n
    one_rows m n x y = same_Some m n (sym x ∙ y)

    var_sound : (three : Three) → IsVarSound config page three.0.1.n a.var
    var_sound three = subst (λ (n : Numbering). IsVarSound config page n a.var) (one_rows three.1.0 three.0.1.n three.1.1 three.0.1.is) three.1.2

    abbrev Logged : Type 0
    Logged = IsLogSound config log page a.logged

    log_first : Three → FirstOf Logged Is (ring_faults named.Log faults.log) (is_clear faults.log)
    log_first three =
        ring_may (IsLogForm config) (WithinPages (layout_in config)) 0
        (λ place faults told. RowsTold (IsLogForm config) (WithinPages (layout_in config)) page (shape_in config place) 0 faults told) log faults.log a.logged named.Log Is
        (λ place is. rows_first (IsLogForm config) (WithinPages (layout_in config)) page (shape_in config place) 0 faults.log a.logged named.Log Is
        (λ rule p breaks. record {
          index = a.index;
          rows = three.0.1.n;
          var = a.var;
          index_sound = three.0.0;
          rows_sound = three.0.1.sound;
          var_sound = var_sound three;
          breaks = record { place = place; is = is; breaks = breaks };
        })) a.in_log

    -- the rings of the table
    abbrev Rings : Type 0
    Rings = Three × Logged

    abbrev numbers : Rings → TableNumbers
    numbers rings = record { index = a.index; rows = rings.0.0.1.n; var = a.var; log = a.logged }

    rings_sound : (rings : Rings) → AreRingsSound config log page (numbers rings)
    rings_sound rings = record { index = rings.0.0.0; rows = rings.0.0.1.sound; var = var_sound rings.0; logged = rings.1 }

    -- the marks and numbers of the rows, whose states are told
    ordered : (rings : Rings) → all.in_order faults.rows.state a.rows ≡ Some rings.0.0.1.n
    ordered rings = ap (λ (state : Option ℕ). all.in_order state a.rows) rings.0.0.1.state ∙ rings.0.0.1.is

    entry_first : (rings : Rings) → FirstOf (AreEntriesSound config page (numbers rings)) Is (fault_of named.Index Entry faults.entry) (is_none faults.entry)
    entry_first rings = by config.index a.index refl refl rings.0.0.0
        (subst (λ (x : Option Numbering). all.EntriesTold config page config.index a.index x faults.entry) (ordered rings) a.entry)
      where
        by : (o : Option RingPlace) (x : Option Numbering) → config.index ≡ o → a.index ≡ x → OfRing (λ place n. IsRingSound (IsIndexForm config) NoRows page (shape_in config place) 0 n) o x
            → all.EntriesTold config page o x (Some rings.0.0.1.n) faults.entry
            → FirstOf (OfRing (λ place n. HaveEntries page (shape_in config place) (rows_shape config) (indexing config n rings.0.0.1.n)) o x) Is (fault_of named.Index Entry faults.entry) (is_none faults.entry)
        by None None e f sound told = one_first _ Is named.Index Entry faults.entry (subst (λ (k : Option ℕ). MatchOption k (Unit {0}) (λ p. Is (Fault named.Index p Entry))) (sym told) tt)
        by None (Some n) e f sound told = absurd sound
        by (Some place) None e f sound told = absurd sound
        by (Some place) (Some n) e f sound told = one_first _ Is named.Index Entry faults.entry (lift faults.entry told)
          where
            lift : (k : Option ℕ) → MatchOption k (HaveEntries page (shape_in config place) (rows_shape config) (indexing config n rings.0.0.1.n)) (λ p. EntriesBreak page (shape_in config place) (rows_shape config) (indexing config n rings.0.0.1.n) p)
                → MatchOption k (HaveEntries page (shape_in config place) (rows_shape config) (indexing config n rings.0.0.1.n)) (λ p. Is (Fault named.Index p Entry))
            lift None have = have
            lift (Some p) breaks = inr (refl, (record { t = numbers rings; rings = rings_sound rings; place = place; n = n; is = e; numbered = f; breaks = breaks }))

    blob_first : (rings : Rings) → AreEntriesSound config page (numbers rings) → FirstOf (AreReferencesSound config page (numbers rings)) Is (fault_of named.Data Blob faults.blob) (is_none faults.blob)
    blob_first rings entries = by config.var a.var refl refl rings.0.1.2
        (subst (λ (x : Option Numbering). all.BlobsTold config page config.var a.var x faults.blob) (ordered rings)
        (subst (λ (state : Option ℕ). all.BlobsTold config page config.var (all.in_order state a.var) (all.in_order faults.rows.state a.rows) faults.blob) rings.0.1.3 a.blob))
      where
        by : (o : Option RingPlace) (x : Option Numbering) → config.var ≡ o → a.var ≡ x → OfRing (λ place n. IsRingSound IsVarForm NoRows page (shape_in config place) (tally_in config page rings.0.1.0).blob_end n) o x
            → all.BlobsTold config page o x (Some rings.0.0.1.n) faults.blob
            → FirstOf (OfRing (λ place n. AllBelow (PageLeads (layout_in config) page (rows_shape config) rings.0.0.1.n.marks (shape_in config place) n) rings.0.0.1.n.marks.kept) o x) Is
            (fault_of named.Data Blob faults.blob) (is_none faults.blob)
        by None None e f sound told = one_first _ Is named.Data Blob faults.blob (subst (λ (k : Option ℕ). MatchOption k (Unit {0}) (λ p. Is (Fault named.Data p Blob))) (sym told) tt)
        by None (Some n) e f sound told = absurd sound
        by (Some place) None e f sound told = absurd sound
        by (Some place) (Some n) e f sound told = one_first _ Is named.Data Blob faults.blob (lift faults.blob told)
          where
            lift : (k : Option ℕ) → MatchOption k (AllBelow (PageLeads (layout_in config) page (rows_shape config) rings.0.0.1.n.marks (shape_in config place) n) rings.0.0.1.n.marks.kept)
                (λ p. ReferencesBreak (layout_in config) page (rows_shape config) rings.0.0.1.n.marks (shape_in config place) n p)
                → MatchOption k (AllBelow (PageLeads (layout_in config) page (rows_shape config) rings.0.0.1.n.marks (shape_in config place) n) rings.0.0.1.n.marks.kept) (λ p. Is (Fault named.Data p Blob))
            lift None have = have
            lift (Some p) breaks = inr (refl, (record { t = numbers rings; rings = rings_sound rings; entries = entries; place = place; n = n; is = e; numbered = f; breaks = breaks }))

    -- a table of which nothing is told is sound
    pub record IsSoundTable : Type 0 where
      pub t : TableNumbers
      pub rows : a.rows ≡ Some t.rows
      pub sound : IsSound config log page t

    pub table_first : FirstOf IsSoundTable Is (table_faults faults) (are_clear faults)
    table_first = whole references_first
      where
        rows_of : FirstOf ((index : Index) × Rows) Is (ring_faults named.Index faults.index ++ ring_faults named.Data faults.rows) (is_clear faults.index && is_clear faults.rows)
        rows_of = then_first Index (λ index. Rows) Is (ring_faults named.Index faults.index) (ring_faults named.Data faults.rows) (is_clear faults.index) (is_clear faults.rows) index_first data_first

        three_of : FirstOf ((two : Index × Rows) × Var) Is (ring_faults named.Index faults.index ++ ring_faults named.Data faults.rows ++ ring_faults named.Var faults.var)
            (is_clear faults.index && is_clear faults.rows && is_clear faults.var)
        three_of =
            then_first (Index × Rows) (λ two. Var) Is (ring_faults named.Index faults.index ++ ring_faults named.Data faults.rows) (ring_faults named.Var faults.var)
            (is_clear faults.index && is_clear faults.rows) (is_clear faults.var) rows_of var_first

        rings_of : FirstOf ((three : Three) × Logged) Is (ring_faults named.Index faults.index ++ ring_faults named.Data faults.rows ++ ring_faults named.Var faults.var ++ ring_faults named.Log faults.log)
            (is_clear faults.index && is_clear faults.rows && is_clear faults.var && is_clear faults.log)
        rings_of =
            then_first Three (λ three. Logged) Is (ring_faults named.Index faults.index ++ ring_faults named.Data faults.rows ++ ring_faults named.Var faults.var) (ring_faults named.Log faults.log)
            (is_clear faults.index && is_clear faults.rows && is_clear faults.var) (is_clear faults.log) three_of log_first

        entries_of : FirstOf ((rings : Rings) × AreEntriesSound config page (numbers rings)) Is
            (ring_faults named.Index faults.index ++ ring_faults named.Data faults.rows ++ ring_faults named.Var faults.var ++ ring_faults named.Log faults.log ++ fault_of named.Index Entry faults.entry)
            (is_clear faults.index && is_clear faults.rows && is_clear faults.var && is_clear faults.log && is_none faults.entry)
        entries_of =
            then_first Rings (λ rings. AreEntriesSound config page (numbers rings)) Is (ring_faults named.Index faults.index ++ ring_faults named.Data faults.rows ++ ring_faults named.Var faults.var ++ ring_faults named.Log faults.log)
            (fault_of named.Index Entry faults.entry) (is_clear faults.index && is_clear faults.rows && is_clear faults.var && is_clear faults.log) (is_none faults.entry) rings_of entry_first

        references_first : FirstOf ((x : (rings : Rings) × AreEntriesSound config page (numbers rings)) × AreReferencesSound config page (numbers x.0)) Is (table_faults faults) (are_clear faults)
        references_first =
            then_first ((rings : Rings) × AreEntriesSound config page (numbers rings)) (λ x. AreReferencesSound config page (numbers x.0)) Is
            (ring_faults named.Index faults.index ++ ring_faults named.Data faults.rows ++ ring_faults named.Var faults.var ++ ring_faults named.Log faults.log ++ fault_of named.Index Entry faults.entry)
            (fault_of named.Data Blob faults.blob) (is_clear faults.index && is_clear faults.rows && is_clear faults.var && is_clear faults.log && is_none faults.entry) (is_none faults.blob) entries_of
            (λ x. blob_first x.0 x.1)

        whole : FirstOf ((x : (rings : Rings) × AreEntriesSound config page (numbers rings)) × AreReferencesSound config page (numbers x.0)) Is (table_faults faults) (are_clear faults)
            → FirstOf IsSoundTable Is (table_faults faults) (are_clear faults)
        whole (inl passes) = inl (record {
          none = passes.none;
          cleared = passes.cleared;
          holds = record {
            t = numbers passes.holds.0.0;
            rows = passes.holds.0.0.0.0.1.is;
            sound = record { rings = rings_sound passes.holds.0.0; entries = passes.holds.0.1; references = passes.holds.1 };
          };
        })
        whole (inr begins) = inr begins
