-- The pairs that rows make are those that their records make, as lines.
use Rattle.std.proofs.Common.{◌≡◌, ℕ, ◌≤◌, Bool, true, false, cond, eqb, Option, Some, None, option_map, ℤ, List, [], ◌∷◌, length, map, refl, ◌==◌}
use Rattle.std.specs.List.{find, cons_option}
use Rattle.fl_machine.specs.Step.{pair_reply}
use Rattle.fl_model.specs.Operators.{key_join}
use Rattle.fl_model.specs.Record.{Record}
use Rattle.fl_model.specs.Row.{stored_row}
use Rattle.fl_model.specs.Table.{Entry}
use Rattle.fl_ops.specs.Columns.{record_of, records_of}
use Rattle.fl_queries.proofs.GroupLines.{filter_map-fewer}

abbrev values_in : Option Record → Option (List ℤ)
values_in found = option_map (λ item. item.values) found

-- the values of the record with a key
found-stored : (key : ℕ) (entries : List Entry) → values_in (find (λ item. item.key == key) (records_of (map stored_row entries))) ≡ values_in (find (λ item. item.key == key) (map (λ entry. entry.kept) entries))
found-stored key [] = refl
found-stored key (entry ∷ entries) = by_test (eqb entry.kept.key key) (found-stored key entries)
  where
    by_test : (b : Bool) → values_in (find (λ item. item.key == key) (records_of (map stored_row entries))) ≡ values_in (find (λ item. item.key == key) (map (λ entry. entry.kept) entries)) → values_in (cond b (Some (record_of (stored_row entry))) (find (λ item. item.key == key) (records_of (map stored_row entries)))) ≡ values_in (cond b (Some entry.kept) (find (λ item. item.key == key) (map (λ entry. entry.kept) entries)))
    by_test true rest = refl
    by_test false rest = rest

abbrev paired : Record → Option Record → List (Record × Record) → List (Record × Record)
paired a found others = cons_option (option_map (λ b. (a, b)) found) others

pair-same : (a b : Record) → a.key ≡ b.key → a.values ≡ b.values → (o p : Option Record) → values_in o ≡ values_in p → (xs ys : List (Record × Record)) → map pair_reply xs ≡ map pair_reply ys → map pair_reply (paired a o xs) ≡ map pair_reply (paired b p ys)
pair-same a b keys values None None same xs ys rest = rest
pair-same a b keys values (Some c) (Some d) same xs ys rest =
    let right : c.values ≡ d.values = cc in
    rw (keys, values, right, rest) refl
pair-same a b keys values None (Some d) same xs ys rest = absurd (no same)
  where
    no : ◌≡◌ {A = Option (List ℤ)} None (Some d.values) → ⊥
    no e = cc
pair-same a b keys values (Some c) None same xs ys rest = absurd (no same)
  where
    no : ◌≡◌ {A = Option (List ℤ)} (Some c.values) None → ⊥
    no e = cc

pub joined-records : (left right : List Entry) → map pair_reply (key_join (records_of (map stored_row left)) (records_of (map stored_row right))) ≡ map pair_reply (key_join (map (λ entry. entry.kept) left) (map (λ entry. entry.kept) right))
joined-records [] right = refl
joined-records (entry ∷ left) right =
    pair-same (record_of (stored_row entry)) entry.kept refl refl (find (λ item. item.key == entry.kept.key) (records_of (map stored_row right))) (find (λ item. item.key == entry.kept.key) (map (λ entry. entry.kept) right))
    (found-stored entry.kept.key right) (key_join (records_of (map stored_row left)) (records_of (map stored_row right))) (key_join (map (λ entry. entry.kept) left) (map (λ entry. entry.kept) right)) (joined-records left right)

-- there are no more pairs than left records
pub pairs-fewer : (left right : List Record) → length (key_join left right) ≤ length left
pairs-fewer left right = filter_map-fewer (λ a. option_map (λ b. (a, b)) (find (λ b. b.key == a.key) right)) left
