-- A table line by the parts of its reading.
use Rattle.std.proofs.Common.{◌≡◌, ℕ, ◌-◌, ◌≤◌, ℤ, true, List, length, map, take, drop, Option, Some, Result, Ok, Err, refl, ap, ◌∙◌, Bor}
use Rattle.fl_script.proofs.Few.{word_at, eleven}
use Rattle.fl_words.specs.Command as command
use Rattle.fl_words.specs.Command.{Command}
use Rattle.fl_words.specs.Grammar.{LineFault, ◌>>=◌, is_name, log_word_in, full_index_in, maybe_number, table_line}
use Rattle.fl_script.specs.Lines.{ring_numbers, lookup_numbers, HasRings, HasNoRings, HasLookup, HasNoLookup}
use Rattle.fl_script.specs.declared.settings.RingNumbers.{RingNumbers}
use Rattle.fl_script.specs.declared.settings.LookupNumbers.{LookupNumbers}

-- the table that the numbers make, with its name, its columns and the words behind the others
abbrev with_log : List ℕ → List ℕ → List (List ℕ) → Option (List ℕ) → ℕ → ℕ → ℕ → ℕ → ℕ → ℤ → ℕ → ℕ → ℕ → Result Command LineFault
with_log name columns words log k d i v n b w e l =
    maybe_number log >>= λ r. Ok (command.Table (record { name = name; key = k; columns = columns; data_blocks = d; index_blocks = i; var_blocks = v; bits = n; base = b; width = w; error = e; blob_limit = l; full_index = full_index_in words; log_blocks = r }))

abbrev others : List (Bor (List ℕ)) → List (List ℕ)
others words = map (λ word. word.now) (take (length words - 11) (drop 11 words))

module _ (words : List (Bor (List ℕ))) (least : 11 ≤ length words) (log : Option (List ℕ)) (is : is_name (word_at words 0) ≡ true) (ends : log_word_in (others words) ≡ Some log) where
  abbrev made : ℕ → ℕ → ℕ → ℕ → ℕ → ℤ → ℕ → ℕ → ℕ → Result Command LineFault
  made k d i v n b w e l = with_log (word_at words 0) (word_at words 2) (others words) log k d i v n b w e l

  abbrev behind : ℕ → ℕ → ℕ → ℕ → Result Command LineFault
  behind k d i v = lookup_numbers (word_at words 6) (word_at words 7) (word_at words 8) (word_at words 9) (word_at words 10) (made k d i v)

  begun : table_line (map (λ word. word.now) words) ≡ ring_numbers (word_at words 1) (word_at words 3) (word_at words 4) (word_at words 5) behind
  begun = ap table_line (eleven words least) ∙ rw (is, ends) refl

  pub bad-rings : {fault : LineFault} → HasNoRings (word_at words 1) (word_at words 3) (word_at words 4) (word_at words 5) fault → table_line (map (λ word. word.now) words) ≡ Err fault
  bad-rings bad = begun ∙ bad behind

  abbrev Rings : RingNumbers → Type 0
  Rings n = HasRings (word_at words 1) (word_at words 3) (word_at words 4) (word_at words 5) n

  pub bad-lookup : (n : RingNumbers) {fault : LineFault} → Rings n → HasNoLookup (word_at words 6) (word_at words 7) (word_at words 8) (word_at words 9) (word_at words 10) fault
      → table_line (map (λ word. word.now) words) ≡ Err fault
  bad-lookup n rings bad = begun ∙ rings behind ∙ bad (made n.key n.rows n.index n.var)

  pub numbers : (n : RingNumbers) (m : LookupNumbers) → Rings n → HasLookup (word_at words 6) (word_at words 7) (word_at words 8) (word_at words 9) (word_at words 10) m
      → table_line (map (λ word. word.now) words) ≡ made n.key n.rows n.index n.var m.bits m.base m.width m.error m.blob
  numbers n m rings lookup = begun ∙ rings behind ∙ lookup (made n.key n.rows n.index n.var)
