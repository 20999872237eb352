-- How the ship of one table ends.
use Rattle.std.proofs.Common.{◌≡◌, ℕ, inl, inr, true, false, Option, Some, None, Result, Ok, Err, List, [], map, take, refl, sym, ◌∙◌, ap, subst, arith}
use Rattle.std.specs.List.{AllByRecursion}
use Rattle.std.specs.Option.{option_map}
use Rattle.std.proofs.lemmas.List.{take_all}
use Rattle.fl_base.specs.declared.types.KeyRange.{KeyRange}
use Rattle.fl_flash.specs.Flash.{FlashState}
use Rattle.fl_flash.specs.declared.flash.FlashFault.TheVariants as flash
use Rattle.fl_store.specs.Works.{Works}
use Rattle.fl_model.specs.Bare.{bare, bare_table}
use Rattle.fl_model.specs.Query.{selected}
use Rattle.fl_model.specs.Record.{Record, Plan, RowLayout, has_var}
use Rattle.fl_model.specs.Row.{Row, stored_row}
use Rattle.fl_model.specs.Ship.{MayShip, records_in}
use Rattle.fl_model.specs.Table as model
use Rattle.fl_model.specs.Table.{Entry, flushed, last_entry, lose}
use Rattle.fl_ops.specs.Columns.{records_of}
use Rattle.fl_frame.specs.Contents.{OnlyReads}
use Rattle.fl_page.specs.declared.fault.BadPage.{BadPage}
use Rattle.fl_page.specs.declared.fault.ReadFault.TheVariants as read
use Rattle.fl_page.proofs.ReadsInTurn.{IsCaused-later}
use Rattle.fl_rlc.specs.Logged.{Rests}
use Rattle.fl_rlc.specs.Table.{table_in}
use Rattle.fl_rlc.specs.declared.table.LoggedTable.{LoggedTable}
use Rattle.fl_table.specs.Look.{layout_in}
use Rattle.fl_table.specs.Standing.{Stands}
use Rattle.fl_table.specs.declared.faults.FlushFault.TheVariants as flush
use Rattle.fl_table.specs.declared.faults.PutRefusal.TheVariants as put
use Rattle.fl_table.specs.declared.table.Table as memory
use Rattle.fl_table.proofs.Entries.{few-keys}
use Rattle.fl_store.proofs.TablesChanged.{off-rests}
use Rattle.fl_ship.specs.Ends.{shipped_records}
use Rattle.fl_ship.specs.Missing.{keys_above, FollowsOn, LooksForGap}
use Rattle.fl_ship.specs.Puts.{HasPut, ShipsGiven}
use Rattle.fl_ship.specs.Rows.{FlushesCopy, RowsShip, ShipCausedBy}
use Rattle.fl_ship.specs.Tables.{ShipLeaves, StopsSo}
use Rattle.fl_ship.specs.declared.fault.ShipFault.{ShipFault}
use Rattle.fl_ship.specs.declared.fault.ShipFault.TheVariants.{Read, Put, Flush}
use Rattle.fl_ship.specs.declared.stop.Stop.{Stop}
use Rattle.fl_ship.specs.declared.stop.Stop.TheVariants as stop
use Rattle.fl_ship.proofs.Gaps.{is-gap, may-ship}
use Rattle.fl_ship.proofs.ToShip.{IsPlain, all-plain, none-to-ship, rows-to-ship}

-- the records of the source have no blobs, since its rows have the form of the copy's
pub source-plain : (t : memory.Table 64 64) (f : FlashState) (first : ℕ) (plan : Plan) (source : model.Table) (layout : RowLayout) → Stands t f first plan source → layout_in t ≡ layout → layout.blobs ≡ false → AllByRecursion IsPlain source.entries
source-plain t f first plan source layout stands form none =
    let no_var : has_var plan ≡ false = ap (λ (l : RowLayout). l.blobs) stands.planned.layout ∙ (ap (λ (l : RowLayout). l.blobs) form ∙ none) in
    all-plain plan source.entries no_var (few-keys t first plan stands.planned) stands.facts.fit

-- a table tells its last key
pub table-stands : (x : memory.Table 64 64) (copy : LoggedTable 64 64) (g : FlashState) (first : ℕ) (plan : Plan) (t : model.Table) → x ≡ table_in copy → Works copy g first plan t → Stands x g first (bare plan) (bare_table t)
table-stands x copy g first plan t is works = subst (λ (y : memory.Table 64 64). Stands y g first (bare plan) (bare_table t)) (sym is) works.stands.unlogged

-- the records of a source are to be read, so many at most
pub wanted-are : (count : ℕ) (source copy : model.Table) (last : Option ℕ) (range : KeyRange) (left : List Row) → last ≡ option_map (λ (entry : Entry). entry.kept.key) (last_entry copy) → keys_above last ≡ Some range → AllByRecursion IsPlain source.entries →
    left ≡ map stored_row (selected range None source.entries) → take count (records_of left) ≡ shipped_records count source copy
wanted-are count source copy last range left last_is is plain are = ap (take count) (ap records_of are ∙ rows-to-ship source copy last range last_is is plain)

-- a fault of a later read is one of all
pub caused-later : (f m n onto onto_now : FlashState) (fault : ShipFault) → OnlyReads f m → ShipCausedBy m n onto onto_now fault → ShipCausedBy f n onto onto_now fault
caused-later f m n onto onto_now (Read fault) only cause = IsCaused-later f m n fault only cause
caused-later f m n onto onto_now (Put put.Spent) only cause = tt
caused-later f m n onto onto_now (Put (put.Flash fault)) only cause = cause
caused-later f m n onto onto_now (Put (put.Key last)) only cause = cause
caused-later f m n onto onto_now (Put (put.Columns wanted)) only cause = cause
caused-later f m n onto onto_now (Put (put.Value column)) only cause = cause
caused-later f m n onto onto_now (Put (put.Blob limit)) only cause = cause
caused-later f m n onto onto_now (Put put.Stopped) only cause = cause
caused-later f m n onto onto_now (Flush (flush.Flash fault)) only cause = cause
caused-later f m n onto onto_now (Flush flush.Stopped) only cause = cause

-- no page is bad where the source stands
pub look-good : (items : List Record) (last : Option ℕ) (end : Stop) (bad : BadPage) → end ≡ stop.Ship (Read (read.BadPage bad)) → LooksForGap items last (Err end) → ⊥
look-good items last end bad is looks = subst (λ (s : Stop). LooksForGap items last (Err s)) is looks

module _ (first : ℕ) (plan : Plan) (source copy : model.Table) (count : ℕ) (last : Option ℕ) (last_is : last ≡ option_map (λ (entry : Entry). entry.kept.key) (last_entry copy)) where
  -- ---- there is a gap, or it wasn't read whether there is one

  gap-stops : (end : Stop) → LooksForGap (records_in source) last (Err end) → StopsSo count plan source copy copy (Err end)
  gap-stops (stop.Gap key oldest) looks = (is-gap source copy last last_is key oldest looks.0 looks.1, refl)
  gap-stops (stop.Ship (Read (read.Flash fault))) looks = inl refl
  gap-stops (stop.Ship (Read (read.BadPage bad))) looks = looks
  gap-stops (stop.Ship (Put refusal)) looks = absurd looks
  gap-stops (stop.Ship (Flush fault)) looks = absurd looks

  pub leaves-gap : (t : LoggedTable 64 64) (g : FlashState) → Works t g first plan copy → (end : Stop) → LooksForGap (records_in source) last (Err end) → ShipLeaves first plan source copy count g (Err end)
  leaves-gap t g works end looks = record { after = copy; stops = gap-stops end looks; rests = off-rests t g first plan copy true works.stands }

  -- ---- there is none

  module _ (follows : FollowsOn (records_in source) last) where
    may : MayShip (records_in source) (records_in copy)
    may = may-ship source copy last last_is follows

    -- none comes after the greatest key
    module _ (none : keys_above last ≡ None) (plain : AllByRecursion IsPlain source.entries) where
      nothing : shipped_records count source copy ≡ []
      nothing = ap (take count) (none-to-ship source copy last last_is none plain) ∙ take_all count [] (omega arith)

      none-put : HasPut plan [] 0 copy copy
      none-put = record { few = omega arith; accepted = tt; after_is = refl }

      pub leaves-none : (v : LoggedTable 64 64) (h : FlashState) → FlushesCopy first plan copy v h (Ok tt) → ShipLeaves first plan source copy count h (Ok 0)
      leaves-none v h works = record {
        after = flushed plan copy;
        stops = (may, subst (λ (given : List Record). ShipsGiven plan given copy (Ok 0) (flushed plan copy)) (sym nothing) (refl, (copy, none-put, refl)));
        rests = off-rests v h first plan (flushed plan copy) true works.stands;
      }

      pub leaves-unflushed : (v : LoggedTable 64 64) (h : FlashState) (fault : ShipFault) → FlushesCopy first plan copy v h (Err fault) → ShipLeaves first plan source copy count h (Err (stop.Ship fault))
      leaves-unflushed v h (Flush (flush.Flash flash.Media)) (after, fails, rests) = record {
        after = after;
        stops = (may, subst (λ (given : List Record). ShipsGiven plan given copy (Err (Flush (flush.Flash flash.Media))) after) (sym nothing) (copy, none-put, fails));
        rests = rests;
      }
      leaves-unflushed v h (Flush (flush.Flash flash.PowerLost)) none = absurd none
      leaves-unflushed v h (Flush flush.Stopped) none = absurd none
      leaves-unflushed v h (Read fault) none = absurd none
      leaves-unflushed v h (Put refusal) none = absurd none

    -- the rows behind it are shipped
    module _ (Told : Type 0) (told : Told) (wanted : List Record) (are : wanted ≡ shipped_records count source copy) (v : LoggedTable 64 64) (h : FlashState) where
      given-so : (result : Result ℕ ShipFault) (rows : RowsShip first plan copy Told wanted v h result) → ShipsGiven plan (shipped_records count source copy) copy result rows.after
      given-so result rows = subst (λ (given : List Record). ShipsGiven plan given copy result rows.after) (rows.are told ∙ are) rows.ships

      pub leaves-shipped : (n : ℕ) → RowsShip first plan copy Told wanted v h (Ok n) → ShipLeaves first plan source copy count h (Ok n)
      leaves-shipped n rows = record { after = rows.after; stops = (may, given-so (Ok n) rows); rests = rows.rests }

      stops-so : (fault : ShipFault) (after : model.Table) → ((bad : BadPage) → fault ≡ Read (read.BadPage bad) → ⊥) → ShipsGiven plan (shipped_records count source copy) copy (Err fault) after → StopsSo count plan source copy after (Err (stop.Ship fault))
      stops-so (Read (read.Flash fault)) after good ships = inr (fault, (may, ships))
      stops-so (Read (read.BadPage bad)) after good ships = good bad refl
      stops-so (Put refusal) after good ships = (may, ships)
      stops-so (Flush fault) after good ships = (may, ships)

      pub leaves-stopped : (fault : ShipFault) → ((bad : BadPage) → fault ≡ Read (read.BadPage bad) → ⊥) → RowsShip first plan copy Told wanted v h (Err fault) → ShipLeaves first plan source copy count h (Err (stop.Ship fault))
      leaves-stopped fault good rows = record { after = rows.after; stops = stops-so fault rows.after good (given-so (Err fault) rows); rests = rows.rests }

-- ---- whatever the source is

pub flush-rests : (first : ℕ) (plan : Plan) (copy : model.Table) (v : LoggedTable 64 64) (h : FlashState) (result : Result (Unit {0}) ShipFault) → FlushesCopy first plan copy v h result → (after : model.Table) × Rests h first plan after
flush-rests first plan copy v h (Ok done) works = (lose (flushed plan copy), off-rests v h first plan (flushed plan copy) true works.stands)
flush-rests first plan copy v h (Err (Flush (flush.Flash flash.Media))) (after, fails, rests) = (lose after, rests)
flush-rests first plan copy v h (Err (Flush (flush.Flash flash.PowerLost))) none = absurd none
flush-rests first plan copy v h (Err (Flush flush.Stopped)) none = absurd none
flush-rests first plan copy v h (Err (Read fault)) none = absurd none
flush-rests first plan copy v h (Err (Put refusal)) none = absurd none

-- what stops it, in an answer
pub same-stop : (a b : Stop) → ◌≡◌ {A = Result ℕ Stop} (Err a) (Err b) → a ≡ b
same-stop a b e = cc

pub same-fault : (a b : ShipFault) → ◌≡◌ {A = Result ℕ Stop} (Err (stop.Ship a)) (Err (stop.Ship b)) → ◌≡◌ {A = Result ℕ ShipFault} (Err a) (Err b)
same-fault a b e = let same : a ≡ b = cc e in ap (λ (fault : ShipFault). Err fault) same
