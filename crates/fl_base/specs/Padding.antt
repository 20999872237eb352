-- A name's bytes give its fields back.
use Rattle.std.proofs.Common.{◌≡◌, ℕ, List, length, take, sym, ◌∙◌, ap, arith}
use Rattle.std.proofs.lemmas.List.{length-take-le}
use Rattle.fl_base.specs.declared.name.Name.TheInside.{Inside}
use Rattle.fl_base.specs.NameForm.{StoresName, padded}

abbrev of_fields : List ℕ → ℕ → Inside
of_fields buf len = record { buf = buf; len = len }

pub padded_back : (n : Inside) → StoresName n.buf n.len → of_fields (padded (take n.len n.buf)) (length (take n.len n.buf)) ≡ n
padded_back n stored =
    let count : length (take n.len n.buf) ≡ n.len = length-take-le n.len n.buf (omega (arith, stored.within, stored.size)) in
    ap (λ (k : ℕ). of_fields (padded (take n.len n.buf)) k) count ∙ ap (λ (b : List ℕ). of_fields b n.len) (sym stored.padding)
