use Rattle.std.proofs.Common.{◌≡◌, ℕ, ◌≤◌, ◌&&◌, Bool, nat_le, true, IsTrue, List, ◌++◌, length, take, drop, replicate, slice_index, refl, sym, ◌∙◌, ap, subst, arith, length-append, length-drop}
use Rattle.std.proofs.lemmas.Bool.{and_parts, leb-true}
use Rattle.std.proofs.lemmas.List.{drop-replicate, take_at, length-replicate}
use Rattle.std.specs.List.{list_all}
use Rattle.fl_base.specs.NameForm.{is_name, is_small_letter, is_name_byte, StoresName, padded}
use Rattle.fl_base.proofs.name.Name.of.Goals as goal

short : (word : List ℕ) → is_name word ≡ true → length word ≤ 8
short word is =
    let fits : Bool = nat_le 1 (length word) && nat_le (length word) 8 in
    let letter = fits && is_small_letter (slice_index word 0) in
    let first = and_parts letter (list_all is_name_byte word) is in
    let second = and_parts fits (is_small_letter (slice_index word 0)) first.0 in
    let third = and_parts (nat_le 1 (length word)) (nat_le (length word) 8) second.0 in
    leb-true (length word) 8 third.1

stores_word : (word : List ℕ) → is_name word ≡ true → StoresName (word ++ drop (length word) (replicate 8 0)) (length word)
stores_word word is =
    let le = short word is in
    let same : take (length word) (word ++ drop (length word) (replicate 8 0)) ≡ word = take_at word (drop (length word) (replicate 8 0)) (length word) refl in
    record {
      within = le;
      size = omega (arith, le, length-append {A = ℕ}, length-drop {A = ℕ}, length-replicate {A = ℕ} 8 0);
      form = subst (λ (w : List ℕ). IsTrue (is_name w)) (sym same) is;
      padding = ap (λ (l : List ℕ). word ++ l) (drop-replicate (length word) 8 0) ∙ ap padded (sym same);
    }

pub invariant_of-result : goal.invariant_of-result
invariant_of-result c = subst (λ (w : List ℕ). StoresName (w ++ drop (length c.args.word.now) (replicate 8 0)) (length c.args.word.now))
    (sym c.copy_from_slice.ensures.after) (stores_word c.args.word.now (sym c.has_form.ensures ∙ c.if-not-has_form.false))
