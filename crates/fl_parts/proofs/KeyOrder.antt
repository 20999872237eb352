-- The keys of entries that ascend, read row by row.
use Rattle.std.proofs.Common.{◌≡◌, ℕ, zero, suc, ◌+◌, ◌<◌, true, cond, Option, Some, None, option_map, unwrap_or, List, [], ◌∷◌, length, map, take, drop, refl, sym, ◌∙◌, ap, arith}
use Rattle.std.proofs.lemmas.Bool.{lt-ltb}
use Rattle.std.specs.List.{slice_get, last_or}
use Rattle.fl_model.specs.Row.{stored_row}
use Rattle.fl_model.specs.Table.{Entry}
use Rattle.fl_model.proofs.Lists.{slice_get-some, slice_get-short, drop_none}
use Rattle.fl_parts.specs.Reading.{rises, keys_fault, last_in}
use Rattle.fl_parts.specs.declared.mount_fault.MountFault.TheVariants.{BadKeys}

-- the key of the last of the first k entries
abbrev pub key_before : List Entry → ℕ → Option ℕ
key_before entries zero = None
key_before entries (suc k) = option_map (λ (entry : Entry). entry.kept.key) (slice_get entries k)

pub split-at : {X : Type 0} (k : ℕ) (xs : List X) (x : X) (rest : List X) → drop k xs ≡ x ∷ rest → (slice_get xs k ≡ Some x) × (drop (suc k) xs ≡ rest)
split-at {X} zero [] x rest e = absurd (none e)
  where
    none : ◌≡◌ {A = List X} [] (x ∷ rest) → ⊥
    none e = cc
split-at {X} zero (y ∷ ys) x rest e = (cc, drop_none ys ∙ tail e)
  where
    tail : y ∷ ys ≡ x ∷ rest → ys ≡ rest
    tail e = cc
split-at {X} (suc k) [] x rest e = absurd (none e)
  where
    none : ◌≡◌ {A = List X} [] (x ∷ rest) → ⊥
    none e = cc
split-at (suc k) (y ∷ ys) x rest e = split-at k ys x rest e

module _ (entries : List Entry) (ascending : (i j : ℕ) (a b : Entry) → i < j → slice_get entries i ≡ Some a → slice_get entries j ≡ Some b → a.kept.key < b.kept.key) where
  up : (k : ℕ) (x : Entry) → slice_get entries k ≡ Some x → rises (key_before entries k) x.kept.key ≡ true
  up zero x e = refl
  up (suc k) x e =
      let before = slice_get-some entries k (omega (arith, slice_get-short entries (suc k) x e)) in
      ap (λ (o : Option Entry). rises (option_map (λ (entry : Entry). entry.kept.key) o) x.kept.key) before.1
      ∙ lt-ltb before.0.kept.key x.kept.key (ascending k (suc k) before.0 x (omega arith) before.1 e)

  -- the rows of some entries from the k-th on
  pub rising : (number k : ℕ) (rest : List Entry) → drop k entries ≡ rest → (c : ℕ) →
      (keys_fault number (key_before entries k) (map stored_row (take c rest)) ≡ None) × (last_in (key_before entries k) (map stored_row (take c rest)) ≡ key_before entries (k + length (take c rest)))
  rising number k [] e zero = (refl, ap (key_before entries) (let s : k ≡ k + 0 = omega arith in s))
  rising number k [] e (suc c) = (refl, ap (key_before entries) (let s : k ≡ k + 0 = omega arith in s))
  rising number k (x ∷ rest) e zero = (refl, ap (key_before entries) (let s : k ≡ k + 0 = omega arith in s))
  rising number k (x ∷ rest) e (suc c) =
      let at = split-at k entries x rest e in
      let more = rising number (suc k) rest at.1 c in
      let last : key_before entries (suc k) ≡ Some x.kept.key = ap (option_map (λ (entry : Entry). entry.kept.key)) at.0 in (
        ap (λ b. cond b (keys_fault number (Some x.kept.key) (map stored_row (take c rest))) (Some (BadKeys number (unwrap_or (key_before entries k) 0) x.kept.key))) (up k x at.0)
            ∙ (ap (λ (l : Option ℕ). keys_fault number l (map stored_row (take c rest))) (sym last) ∙ more.0),
        ap (λ (l : Option ℕ). last_in l (map stored_row (take c rest))) (sym last) ∙ (more.1 ∙ ap (key_before entries) (let s : suc k + length (take c rest) ≡ k + suc (length (take c rest)) = omega arith in s)),
      )

-- after all of them
pub key-last : (entries : List Entry) → key_before entries (length entries) ≡ option_map (λ (entry : Entry). entry.kept.key) (last_or None entries)
key-last [] = refl
key-last (x ∷ []) = refl
key-last (x ∷ y ∷ entries) = key-last (y ∷ entries)
