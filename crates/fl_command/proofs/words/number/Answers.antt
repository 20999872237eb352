use Rattle.std.proofs.Common.{◌≡◌, eqb, List, ℕ, [], ◌∷◌, refl, sym, ◌∙◌, ap}
use Rattle.std.specs.List.{starts_with}
use Rattle.fl_csv.proofs.Numbers.{no-plus, plus-number, parsed-text}
use Rattle.fl_command.proofs.words.number.Goals as goal

pub returns-then-starts_with : goal.returns-then-starts_with
returns-then-starts_with c =
    let same : starts_with eqb c.args.word.now (43 ∷ []) ≡ starts_with eqb c.as_bytes.result.now (43 ∷ []) = ap (λ (l : List ℕ). starts_with eqb l (43 ∷ [])) (sym c.as_bytes.ensures.value) in
    plus-number c.args.word.now (same ∙ (sym c.starts_with.ensures.value ∙ c.if-starts_with.true))

pub returns : goal.returns
returns c =
    let same : starts_with eqb c.args.word.now (43 ∷ []) ≡ starts_with eqb c.as_bytes.result.now (43 ∷ []) = ap (λ (l : List ℕ). starts_with eqb l (43 ∷ [])) (sym c.as_bytes.ensures.value) in
    parsed-text c.args.word.now c.args.word.now c.parse.result _ refl c.parse.ensures.value.0
    (no-plus c.args.word.now (same ∙ (sym c.starts_with.ensures.value ∙ c.if-starts_with.false))) c.ok.ensures.value
