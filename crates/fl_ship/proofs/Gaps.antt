-- Where a source goes on behind its copy, and where records between the two may be gone.
use Rattle.std.proofs.Common.{◌≡◌, ℕ, zero, suc, inl, inr, Bool, true, false, ◌==◌, if◌then◌else◌, Option, Some, None, Ok, Err, List, [], ◌∷◌, ◌++◌, map, refl, sym, ◌∙◌, ap}
use Rattle.std.specs.List.{AllByRecursion, last_or, slice_get}
use Rattle.std.specs.Option.{is_some, option_map}
use Rattle.std.proofs.lemmas.Bool.{eqb-true, eq-eqb, true≢false}
use Rattle.fl_flash.specs.Buffer.{BufferState}
use Rattle.fl_model.specs.Query.{entry_at}
use Rattle.fl_model.specs.Record.{Record, Plan}
use Rattle.fl_model.specs.Ship.{HasLastOf, MayShip, records_in}
use Rattle.fl_model.specs.Table.{Table, Entry, last_entry}
use Rattle.fl_page.specs.declared.fault.ReadFault.{ReadFault}
use Rattle.fl_page.specs.declared.fault.ReadFault.TheVariants as read
use Rattle.fl_table.specs.Finding.{Finds, FindsEntry}
use Rattle.fl_table.specs.declared.find.RowAt.{RowAt}
use Rattle.fl_ship.specs.Missing.{FirstIs, FollowsOn, HasKey, HasNone, IsGap, LooksForGap}
use Rattle.fl_ship.specs.declared.fault.ShipFault.TheVariants.{Read}
use Rattle.fl_ship.specs.declared.stop.Stop.TheVariants.{Gap, Ship}

no-none : {X : Type 0} {x : X} → Some x ≡ None → ⊥
no-none e = cc

-- ---- the entry with a key

found-in : (key : ℕ) (entries : List Entry) (entry : Entry) → entry_at key entries ≡ Some entry → HasKey (map (λ (other : Entry). other.kept) entries) key
found-in key [] entry is = let no = is in cc
found-in key (first ∷ entries) entry is = by-test (λ e. found-in key entries entry e) (first.kept.key == key) refl is
  where
    by-test : (entry_at key entries ≡ Some entry → HasKey (map (λ (other : Entry). other.kept) entries) key) → (b : Bool) → (first.kept.key == key) ≡ b → (if b then Some first else entry_at key entries) ≡ Some entry → HasKey (map (λ (other : Entry). other.kept) (first ∷ entries)) key
    by-test go true own is = record { place = 0; item = first.kept; here = refl; key_is = eqb-true first.kept.key key own }
    by-test go false own is = let h = go is in record { place = suc h.place; item = h.item; here = h.here; key_is = h.key_is }

none-in : (key : ℕ) (entries : List Entry) → entry_at key entries ≡ None → AllByRecursion (λ item. item.key ≡ key → ⊥) (map (λ (other : Entry). other.kept) entries)
none-in key [] is = tt
none-in key (first ∷ entries) is = by-test (λ e. none-in key entries e) (first.kept.key == key) refl is
  where
    by-test : (entry_at key entries ≡ None → AllByRecursion (λ item. item.key ≡ key → ⊥) (map (λ (other : Entry). other.kept) entries)) → (b : Bool) → (first.kept.key == key) ≡ b → (if b then Some first else entry_at key entries) ≡ None → AllByRecursion (λ item. item.key ≡ key → ⊥) (map (λ (other : Entry). other.kept) (first ∷ entries))
    by-test go true own is = absurd (no-none is)
    by-test go false own is = (λ e. true≢false (sym (eq-eqb first.kept.key key e) ∙ own), go is)

-- ---- the look

-- a lookup of the copy's last key found its row, or none
pub looks-found : (plan : Plan) (source : Table) (last : ℕ) (buf : BufferState) (place : Option RowAt) → FindsEntry plan source last buf place → true ≡ is_some place → FollowsOn (records_in source) (Some last)
looks-found plan source last buf (Some place) found some = inr (found-in last source.entries found.entry found.found)
looks-found plan source last buf None found some = absurd (true≢false some)

pub looks-lacking : (plan : Plan) (source : Table) (last : ℕ) (buf : BufferState) (place : Option RowAt) → FindsEntry plan source last buf place → false ≡ is_some place → entry_at last source.entries ≡ None
looks-lacking plan source last buf None found none = found
looks-lacking plan source last buf (Some place) found none = absurd (true≢false (sym none))

-- .. or failed
pub looks-failed : (plan : Plan) (source : Table) (key before now : ℕ) (buf : BufferState) (last : Option ℕ) (fault : ReadFault) → Finds 64 plan source key before now buf (Err fault) → LooksForGap (records_in source) last (Err (Ship (Read fault)))
looks-failed plan source key before now buf last (read.Flash fault) h = tt
looks-failed plan source key before now buf last (read.BadPage bad) h = absurd h

pub looks-missing : (source : Table) (last oldest : ℕ) → entry_at last source.entries ≡ None → FirstIs (records_in source) (Ok (Some oldest)) → LooksForGap (records_in source) (Some last) (Err (Gap last oldest))
looks-missing source last oldest is (first, (behind, split, key)) = (refl, record { first = first; behind = behind; source_is = split; oldest_is = key; missing = none-in last source.entries is })

-- a read of it failed
pub looks-unread : (source : Table) (last : Option ℕ) (fault : ReadFault) → FirstIs (records_in source) (Err fault) → LooksForGap (records_in source) last (Err (Ship (Read fault)))
looks-unread source last (read.Flash fault) h = tt
looks-unread source last (read.BadPage bad) h = absurd h

-- ---- a table without a record has no last one

no-last : {X : Type 0} (first : X) (xs : List X) → last_or (Some first) xs ≡ None → ⊥
no-last first [] e = let no = e in cc
no-last first (x ∷ xs) e = no-last x xs e

pub none-last : (table : Table) → option_map (λ (entry : Entry). entry.kept.key) (last_entry table) ≡ None → records_in table ≡ []
none-last table is = by-entries table.entries is
  where
    by-last : (o : Option Entry) → option_map (λ (entry : Entry). entry.kept.key) o ≡ None → o ≡ None
    by-last None e = refl
    by-last (Some entry) e = let no = e in cc

    by-entries : (entries : List Entry) → option_map (λ (entry : Entry). entry.kept.key) (last_or None entries) ≡ None → map (λ (entry : Entry). entry.kept) entries ≡ []
    by-entries [] e = refl
    by-entries (entry ∷ entries) e = absurd (no-last entry entries (by-last (last_or (Some entry) entries) e))

pub looks-empty : (table : Table) (last : Option ℕ) → last ≡ option_map (λ (entry : Entry). entry.kept.key) (last_entry table) → is_some last ≡ false → records_in table ≡ []
looks-empty table None is none = none-last table (sym is)
looks-empty table (Some key) is none = absurd (true≢false none)

-- .. and another one ends with it
pub record EndsWith (items : List Record) (key : ℕ) : Type 0 where
  pub front : List Record
  pub last : Record
  pub is : items ≡ front ++ last ∷ []
  pub key_is : last.key ≡ key

ends-with : (entries : List Entry) (key : ℕ) → option_map (λ (entry : Entry). entry.kept.key) (last_or None entries) ≡ Some key → EndsWith (map (λ (entry : Entry). entry.kept) entries) key
ends-with [] key is = let no = is in cc
ends-with (entry ∷ []) key is = record { front = []; last = entry.kept; is = refl; key_is = cc }
ends-with (entry ∷ (next ∷ entries)) key is =
    let h = ends-with (next ∷ entries) key is in
    record { front = entry.kept ∷ h.front; last = h.last; is = ap (λ (l : List Record). entry.kept ∷ l) h.is; key_is = h.key_is }

-- ---- there is a gap, or none

module _ (source copy : Table) (last : Option ℕ) (last_is : last ≡ option_map (λ (entry : Entry). entry.kept.key) (last_entry copy)) where
  pub may-ship : FollowsOn (records_in source) last → MayShip (records_in source) (records_in copy)
  may-ship follows = by-last last (sym last_is) follows
    where
      by-key : (key : ℕ) → EndsWith (records_in copy) key → HasKey (records_in source) key → HasLastOf (records_in source) (records_in copy)
      by-key key ends has =
          let s = split (records_in source) has.place has.item has.here in
          record { front = ends.front; last = ends.last; others = s.0; found = has.item; back = s.1; copy_is = ends.is; source_is = s.2; key = has.key_is ∙ sym ends.key_is }
        where
          split : (items : List Record) (place : ℕ) (item : Record) → slice_get items place ≡ Some item → (others : List Record) × (back : List Record) × (items ≡ others ++ item ∷ back)
          split [] place item here = let no = here in cc
          split (first ∷ items) zero item here = ([], items, (let same : first ≡ item = cc here in ap (λ (r : Record). r ∷ items) same))
          split (first ∷ items) (suc place) item here = let h = split items place item here in (first ∷ h.0, h.1, ap (λ (l : List Record). first ∷ l) h.2)

      by-last : (o : Option ℕ) → option_map (λ (entry : Entry). entry.kept.key) (last_entry copy) ≡ o → FollowsOn (records_in source) o → MayShip (records_in source) (records_in copy)
      by-last None is follows = inr (inl (none-last copy is))
      by-last (Some key) is (inl none) = inl none
      by-last (Some key) is (inr has) = inr (inr (by-key key (ends-with copy.entries key is) has))

  pub is-gap : (key oldest : ℕ) → last ≡ Some key → HasNone (records_in source) key oldest → IsGap (records_in source) (records_in copy) key oldest
  is-gap key oldest is none =
      let ends = ends-with copy.entries key (sym last_is ∙ is) in
      record { others = ends.front; final = ends.last; copy_is = ends.is; last_is = ends.key_is; none = none }
