-- What a session tells of a table beside its replies.
use Rattle.std.proofs.Common.{◌≡◌, ◌⊎◌, ◌≤◌, inl, inr, ℕ, true, false, Bool, Option, None, Some, Result, Err, List, length, ◌∙◌, refl, sym, ap, subst, arith, if◌then◌else◌, MatchBool, option_map, IsSomeAnd, slice_get, eqb}
use Rattle.std.proofs.lemmas.Bool.Decides.{eqb_tells}
use Rattle.std.proofs.lemmas.Option.{slice_get_past, slice_get_within}
use Rattle.fl_model.proofs.Lists.{slice_get-some}
use Rattle.fl_flash.specs.Flash.{FlashState}
use Rattle.fl_model.specs.Bare.{bare, bare_table}
use Rattle.fl_model.specs.Record.{Config, Plan}
use Rattle.fl_model.specs.Table as model
use Rattle.fl_model.specs.Table.{last_entry}
use Rattle.fl_machine.specs.Machine.{Machine}
use Rattle.fl_machine.specs.Step.{Located, located}
use Rattle.fl_frame.specs.Contents.{OnlyReads}
use Rattle.fl_rlc.specs.Logged as logged
use Rattle.fl_rlc.specs.Rings.{rings_of}
use Rattle.fl_rlc.specs.Table.{table_in}
use Rattle.fl_rlc.specs.declared.rings.RingCounts.{RingCounts}
use Rattle.fl_rlc.specs.declared.table.LoggedTable.{LoggedTable}
use Rattle.fl_script.specs.declared.reply.Reply as code
use Rattle.fl_table.specs.Look.{counts_of}
use Rattle.fl_table.specs.Memory as memory
use Rattle.fl_table.specs.Standing.{Stands}
use Rattle.fl_table.specs.declared.counts.TableCounts.{TableCounts}
use Rattle.fl_table.specs.declared.table.Table.{Table}
use Rattle.fl_store.specs.Tables.{first_of, EntryStands, TablesStand}
use Rattle.fl_store.specs.declared.tables.Entry.{Entry}
use Rattle.fl_store.proofs.TablesChanged.{at-place}
use Rattle.fl_ends.specs.declared.pending.TableRows.{TableRows}
use Rattle.fl_session.specs.Answer.{IsReached, Refusal}
use Rattle.fl_session.specs.Held.{TellsTable, TellsLast, TellsCounts, TellsRings}
use Rattle.fl_session.specs.Pending.{rows_of, pending_of}
use Rattle.fl_queries.specs.OldestTold.{OldestIn}
use Rattle.fl_session.specs.Told.{rows_there}
use Rattle.fl_session.specs.declared.notes.Notes.{Notes}
use Rattle.fl_session.specs.Standing.{SessionStands}
use Rattle.fl_session.proofs.NamedTable.{own-of, own-none}
use Rattle.fl_store.proofs.Queried.{stands-unlogged}

-- why nothing is told of it
pub told-refused : {A : Type 0} (config : Config) (m : Machine) (entries : List Entry) (notes : Notes) (f : FlashState) (mounted : Bool) (asked : List ℕ) (Tells : Located → A → Type 0) (said : code.Reply) →
    SessionStands config entries f mounted notes m → Refusal entries mounted asked said → TellsTable config m asked Tells (Err said)
told-refused config m entries notes f mounted asked Tells code.TheVariants.NotMounted h r = h.is_mounted ∙ r
told-refused config m entries notes f mounted asked Tells code.TheVariants.NoTable h r = (h.is_mounted ∙ r.0, own-none config m entries f mounted notes asked h r.1)
told-refused config m entries notes f mounted asked Tells said h r = absurd r

-- what is so of each table that the one of the code stands for
told-of : {A : Type 0} (config : Config) (m : Machine) (entries : List Entry) (notes : Notes) (f : FlashState) (mounted : Bool) (asked : List ℕ) (at : ℕ) (entry : Entry) (Tells : Located → A → Type 0) (value : A) →
    SessionStands config entries f mounted notes m → IsReached entries mounted asked at → slice_get entries at ≡ Some entry →
    ((first : ℕ) (plan : Plan) (table : model.Table) → EntryStands entry f true first plan table → Tells (record { place = at; plan = plan; table = table }) value) → (m.mounted ≡ true) × IsSomeAnd (located config m asked) (λ at. Tells at value)
told-of config m entries notes f mounted asked at entry Tells value h r here holds =
    let h' = subst (λ b. SessionStands config entries f b notes m) r.mounted_is h in
    let own = own-of config m entries f notes asked at entry h' here r.named in
    (h'.is_mounted, subst (λ o. IsSomeAnd o (λ at. Tells at value)) (sym own.found) (holds (first_of config.plans at) own.plan own.table own.stands))

pub last-told : (config : Config) (m : Machine) (entries : List Entry) (notes : Notes) (f : FlashState) (mounted : Bool) (asked : List ℕ) (at : ℕ) (entry : Entry) (t : Table 64 64) (key : Option ℕ) →
    SessionStands config entries f mounted notes m → IsReached entries mounted asked at → slice_get entries at ≡ Some entry → t ≡ table_in entry.table →
    ((f : FlashState) (first : ℕ) (plan : Plan) (table : model.Table) → Stands t f first plan table → key ≡ option_map (λ entry. entry.kept.key) (last_entry table)) →
    (m.mounted ≡ true) × IsSomeAnd (located config m asked) (λ at. TellsLast at key)
last-told config m entries notes f mounted asked at entry t key h r here table_is holds =
    told-of config m entries notes f mounted asked at entry TellsLast key h r here (λ first plan table stands. holds f first (bare plan) (bare_table table) (stands-unlogged t entry table_is stands))

pub counts-told : (config : Config) (m : Machine) (entries : List Entry) (notes : Notes) (f : FlashState) (mounted : Bool) (asked : List ℕ) (at : ℕ) (entry : Entry) (t : Table 64 64) (counts : TableCounts) →
    SessionStands config entries f mounted notes m → IsReached entries mounted asked at → slice_get entries at ≡ Some entry → t ≡ table_in entry.table →
    ((f : FlashState) (first : ℕ) (plan : Plan) (table : model.Table) → Stands t f first plan table → counts ≡ counts_of table) →
    (m.mounted ≡ true) × IsSomeAnd (located config m asked) (λ at. TellsCounts at counts)
counts-told config m entries notes f mounted asked at entry t counts h r here table_is holds =
    told-of config m entries notes f mounted asked at entry TellsCounts counts h r here (λ first plan table stands. holds f first (bare plan) (bare_table table) (stands-unlogged t entry table_is stands))

pub rings-told : (config : Config) (m : Machine) (entries : List Entry) (notes : Notes) (f : FlashState) (mounted : Bool) (asked : List ℕ) (at : ℕ) (entry : Entry) (t : LoggedTable 64 64) (rings : RingCounts) →
    SessionStands config entries f mounted notes m → IsReached entries mounted asked at → slice_get entries at ≡ Some entry → t ≡ entry.table →
    ((f : FlashState) (first : ℕ) (plan : Plan) (table : model.Table) → logged.Stands t f first plan table → rings ≡ rings_of table) →
    (m.mounted ≡ true) × IsSomeAnd (located config m asked) (λ at. TellsRings at rings)
rings-told config m entries notes f mounted asked at entry t rings h r here table_is holds =
    told-of config m entries notes f mounted asked at entry TellsRings rings h r here
    (λ first plan table stands. holds f first plan table (subst (λ x. logged.Stands x f first plan table) (sym table_is) stands.on_flash))

-- ---- the rows that no flush has written

-- none, or some
abbrev rows_if : List ℕ → ℕ → Bool → Option TableRows
rows_if name rows b = if b then None else Some (record { name = name; rows = rows })

rows-zero : (name : List ℕ) (rows : ℕ) → rows ≡ 0 → rows_of name rows ≡ None
rows-zero name rows none = ap (rows_of name) none

rows-some : (name : List ℕ) (rows : ℕ) → (rows ≡ 0 → ⊥) → rows_of name rows ≡ Some (record { name = name; rows = rows })
rows-some name rows some = by_test (eqb_tells rows 0)
  where
    by_test : ((eqb rows 0 ≡ true) × (rows ≡ 0)) ⊎ ((eqb rows 0 ≡ false) × (rows ≡ 0 → ⊥)) → rows_of name rows ≡ Some (record { name = name; rows = rows })
    by_test (inl is) = absurd (some is.1)
    by_test (inr other) = ap (rows_if name rows) other.0

module _ (config : Config) (m : Machine) (entries : List Entry) (notes : Notes) (f : FlashState) (mounted : Bool) (at : ℕ) (h : SessionStands config entries f mounted notes m) where
  abbrev here : Option TableRows
  here = pending_of (slice_get config.plans at) (slice_get m.tables at)

  -- nothing is pending in a session that isn't mounted
  pub pending-off : mounted ≡ false → here ≡ None
  pending-off off = by_place (slice_get config.plans at) (slice_get m.tables at) refl refl
    where
      by_place : (plan : Option Plan) (table : Option model.Table) → slice_get config.plans at ≡ plan → slice_get m.tables at ≡ table → pending_of plan table ≡ None
      by_place None table p t = refl
      by_place (Some plan) None p t = refl
      by_place (Some plan) (Some table) p t =
          let entry = slice_get-some entries at (omega (arith, slice_get_within config.plans at plan p, h.tables.as_many)) in
          let rests = subst (λ b. MatchBool b (logged.Stands entry.0.table f (first_of config.plans at) plan table) (logged.Rests f (first_of config.plans at) plan table)) off (h.tables.each at plan entry.0 table p entry.1 t).on_flash in
          rows-zero plan.name table.pending (ap (λ (x : model.Table). x.pending) rests.settled.lost)

  -- .. nor behind the last table
  pub pending-past : length entries ≤ at → here ≡ None
  pending-past past = by_plan (slice_get config.plans at) refl
    where
      by_plan : (plan : Option Plan) → slice_get config.plans at ≡ plan → pending_of plan (slice_get m.tables at) ≡ None
      by_plan None p = refl
      by_plan (Some plan) p = absurd (omega (arith, slice_get_within config.plans at plan p, h.tables.as_many, past))

  -- the table at a place tells what is pending of it
  module _ (entry : Entry) (t : Table 64 64) (rows : ℕ) (on : mounted ≡ true) (e : slice_get entries at ≡ Some entry) (table_is : t ≡ table_in entry.table)
      (tells : (f : FlashState) (first : ℕ) (plan : Plan) (table : model.Table) → Stands t f first plan table → rows ≡ table.pending) where
    pending-there : here ≡ rows_of entry.name rows
    pending-there =
        let o = at-place f (λ i. true) config.plans entries m.tables at entry (subst (λ b. TablesStand f (λ i. b) config.plans entries m.tables) on h.tables) e in
        let count : rows ≡ o.table.pending = tells f (first_of config.plans at) (bare o.plan) (bare_table o.table) (stands-unlogged t entry table_is o.stands) in
        ap (λ p. pending_of p (slice_get m.tables at)) o.plan_is
        ∙ (ap (pending_of (Some o.plan)) o.table_is
        ∙ (ap (rows_of o.plan.name) (sym count) ∙ ap (λ name. rows_of name rows) o.stands.named))

    pub pending-zero : rows ≡ 0 → here ≡ None
    pending-zero none = pending-there ∙ rows-zero entry.name rows none

    pub pending-some : (rows ≡ 0 → ⊥) → here ≡ Some (record { name = entry.name; rows = rows })
    pending-some some = pending-there ∙ rows-some entry.name rows some

-- .. over any bytes, of what a session has in memory
module _ (entries : List Entry) (mounted : Bool) (at : ℕ) where
  abbrev pub told_if : Bool → Option TableRows
  told_if b = if b then rows_there (slice_get entries at) else None

  pub none-off : mounted ≡ false → None ≡ told_if mounted
  none-off off = ap told_if (sym off)

  pub none-past : length entries ≤ at → None ≡ told_if mounted
  none-past past = by_test mounted
    where
      by_test : (b : Bool) → None ≡ told_if b
      by_test true = ap rows_there (sym (slice_get_past entries at past))
      by_test false = refl

  module _ (entry : Entry) (t : Table 64 64) (rows : ℕ) (on : mounted ≡ true) (e : slice_get entries at ≡ Some entry) (table_is : t ≡ table_in entry.table) (is : rows ≡ memory.pending_in t) where
    are-there : rows_of entry.name rows ≡ told_if mounted
    are-there =
        ap (rows_of entry.name) (is ∙ ap (λ (x : Table 64 64). memory.pending_in x) table_is)
        ∙ (ap rows_there (sym e) ∙ ap told_if (sym on))

    pub rows-none : rows ≡ 0 → None ≡ told_if mounted
    rows-none none = sym (rows-zero entry.name rows none) ∙ are-there

    pub rows-are : (rows ≡ 0 → ⊥) → Some (record { name = entry.name; rows = rows }) ≡ told_if mounted
    rows-are some = sym (rows-some entry.name rows some) ∙ are-there

-- the oldest blob of a table with a log is that of its rows
pub oldest-told : (t : Table 64 64) (entry : Entry) (f g : FlashState) (result : Result (Option ℕ) code.Reply) → t ≡ table_in entry.table → OnlyReads f g → OldestIn t f g result → OldestIn (table_in entry.table) f g result
oldest-told t entry f g result is only told = subst (λ (x : Table 64 64). OldestIn x f g result) is told
