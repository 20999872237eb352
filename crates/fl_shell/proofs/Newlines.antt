-- What stands behind the first newline of a text, and the lines of a text that begins with the front of one.
use Rattle.std.proofs.Common.{◌≡◌, ℕ, ◌<◌, ◌⊎◌, inl, inr, Bool, false, ◌==◌, List, [], ◌∷◌, ◌++◌, length, refl, sym, ◌∙◌, ap, append-nil, append_assoc, length-append, arith}
use Rattle.std.specs.Prelude.{if◌then◌else◌}
use Rattle.std.proofs.lemmas.Bool.{ne_eqb}
use Rattle.std.proofs.lemmas.Bool.Decides.{eqb_tells}
use Rattle.std.proofs.lemmas.List.Elements.{All-nil, All-head, All-tail, All-cons, All-append}
use Rattle.fl_base.specs.Causes.{IsFront}
use Rattle.fl_lines.proofs.Parts.{OneLine, lines-line, lines-rest}
use Rattle.fl_words.specs.Grammar.{lines_of}
use Rattle.fl_shell.specs.Reading.{behind_newline}

-- a text without a newline is passed over
pub behind-front : (front rest : List ℕ) → OneLine front → behind_newline (front ++ rest) ≡ behind_newline rest
behind-front [] rest one = refl
behind-front (byte ∷ bytes) rest one =
    ap (λ (b : Bool). if b then bytes ++ rest else behind_newline (bytes ++ rest)) (All-head (λ b. (b == 10) ≡ false) byte bytes one)
    ∙ behind-front bytes rest (All-tail (λ b. (b == 10) ≡ false) byte bytes one)

pub behind-line : (line rest : List ℕ) → OneLine line → behind_newline (line ++ 10 ∷ rest) ≡ rest
behind-line line rest one = behind-front line (10 ∷ rest) one

pub behind-last : (line : List ℕ) → OneLine line → behind_newline line ≡ []
behind-last line one = ap behind_newline (sym (append-nil line)) ∙ behind-front line [] one

-- a text has a first newline, or none
pub first-newline : (text : List ℕ) → ((line : List ℕ) × (rest : List ℕ) × OneLine line × (text ≡ line ++ 10 ∷ rest)) ⊎ OneLine text
first-newline [] = inr (All-nil (λ b. (b == 10) ≡ false))
first-newline (byte ∷ bytes) = elim (eqb_tells byte 10) [
  | inl is ↦ inl ([], bytes, All-nil (λ b. (b == 10) ≡ false), ap (λ b. b ∷ bytes) is.1)
  | inr other ↦ elim (first-newline bytes) [
    | inl h ↦ inl (byte ∷ h.0, h.1, All-cons (λ b. (b == 10) ≡ false) byte h.0 (ne_eqb byte 10 other.1) h.2, ap (λ bs. byte ∷ bs) h.3)
    | inr one ↦ inr (All-cons (λ b. (b == 10) ≡ false) byte bytes (ne_eqb byte 10 other.1) one)
  ]
]

-- the first line of a text that begins with the front of one
pub long-line : (front others : List ℕ) → OneLine front → 0 < length front → (line : List ℕ) × IsFront front line × (lines_of (front ++ others) ≡ line ∷ lines_of (behind_newline others))
long-line front others one some = elim (first-newline others) [
  | inl h ↦ (
    front ++ h.0,
    (h.0, refl),
    ap lines_of (ap (λ t. front ++ t) h.3 ∙ sym (append_assoc front h.0 (10 ∷ h.1)))
        ∙ (lines-line (front ++ h.0) h.1 (All-append (λ b. (b == 10) ≡ false) front h.0 one h.2)
        ∙ ap (λ r. (front ++ h.0) ∷ lines_of r) (sym (ap behind_newline h.3 ∙ behind-line h.0 h.1 h.2))),
  )
  | inr last ↦ (
    front ++ others,
    (others, refl),
    lines-rest (front ++ others) (All-append (λ b. (b == 10) ≡ false) front others one last) (omega (arith, some, length-append front others))
        ∙ ap (λ r. (front ++ others) ∷ lines_of r) (sym (behind-last others last)),
  )
]
