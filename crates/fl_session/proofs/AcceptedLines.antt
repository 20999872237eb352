-- The lines of a script that were run, and how a configuration goes on line by line.
use Rattle.std.proofs.Common.{◌≡◌, ℕ, ◌+◌, Some, None, Result, List, [], ◌∷◌, ◌++◌, length, refl, sym, ◌∙◌, ap, append_assoc, append-nil, length-append, arith}
use Rattle.fl_words.specs.Command.{Command}
use Rattle.fl_words.specs.Grammar.{LineFault, command_of}
use Rattle.fl_words.specs.Config.{Lines, whole, no_lines}
use Rattle.fl_machine.specs.Script.{Unended, start_line, start_from, start_of, runs, accepted, accepted_onto, first_refused, refused_onto}

-- lines that are all run
pub record AllRun (lines : List (List ℕ)) : Type 0 where
  pub accepts : (others : List (List ℕ)) → accepted (lines ++ others) ≡ accepted lines ++ accepted others
  pub refuses : (n : ℕ) (others : List (List ℕ)) → first_refused n (lines ++ others) ≡ first_refused (n + length lines) others
  pub count : length (accepted lines) ≡ length lines

pub all_run-none : AllRun []
all_run-none = record { accepts = λ others. refl; refuses = λ n others. ap (λ m. first_refused m others) (let e : n ≡ n + 0 = omega arith in e); count = refl }

accepted-line : (line : List ℕ) (others : List (List ℕ)) (c : Command) → runs line ≡ Some c → accepted (line ∷ others) ≡ c ∷ accepted others
accepted-line line others c e = ap (λ r. accepted_onto r (accepted others)) e

refused-line : (n : ℕ) (line : List ℕ) (others : List (List ℕ)) (c : Command) → runs line ≡ Some c → first_refused n (line ∷ others) ≡ first_refused (n + 1) others
refused-line n line others c e = ap (λ r. refused_onto r n (first_refused (n + 1) others)) e

pub accepted-more : (lines : List (List ℕ)) (line : List ℕ) (c : Command) → AllRun lines → runs line ≡ Some c → accepted (lines ++ line ∷ []) ≡ accepted lines ++ c ∷ []
accepted-more lines line c h e = h.accepts (line ∷ []) ∙ ap (λ cs. accepted lines ++ cs) (accepted-line line [] c e)

pub all_run-more : (lines : List (List ℕ)) (line : List ℕ) (c : Command) → AllRun lines → runs line ≡ Some c → AllRun (lines ++ line ∷ [])
all_run-more lines line c h e = record {
  accepts = λ others.
      ap accepted (append_assoc lines (line ∷ []) others)
      ∙ (h.accepts (line ∷ others)
      ∙ (ap (λ cs. accepted lines ++ cs) (accepted-line line others c e)
      ∙ (sym (append_assoc (accepted lines) (c ∷ []) (accepted others)) ∙ ap (λ cs. cs ++ accepted others) (sym (accepted-more lines line c h e)))));
  refuses = λ n others.
      ap (first_refused n) (append_assoc lines (line ∷ []) others)
      ∙ (h.refuses n (line ∷ others)
      ∙ (refused-line (n + length lines) line others c e
      ∙ ap (λ m. first_refused m others) (let k : n + length lines + 1 ≡ n + length (lines ++ line ∷ []) = omega (arith, length-append lines (line ∷ [])) in k)));
  count = omega (arith, ap length (accepted-more lines line c h e), length-append (accepted lines) (c ∷ []), length-append lines (line ∷ []), h.count);
}

-- all of these lines were run
pub all_run-all : (n : ℕ) (lines : List (List ℕ)) → AllRun lines → first_refused n lines ≡ None
all_run-all n lines h = ap (first_refused n) (sym (append-nil lines)) ∙ h.refuses n []

-- the line behind them is refused
pub all_run-refused : (n : ℕ) (lines : List (List ℕ)) (line : List ℕ) (others : List (List ℕ)) → AllRun lines → runs line ≡ None →
    (first_refused n (lines ++ line ∷ others) ≡ Some (n + length lines)) × (accepted (lines ++ line ∷ others) ≡ accepted lines)
all_run-refused n lines line others h e = (
  h.refuses n (line ∷ others) ∙ ap (λ r. refused_onto r (n + length lines) (first_refused (n + length lines + 1) others)) e,
  h.accepts (line ∷ others) ∙ (ap (λ r. accepted lines ++ accepted_onto r (accepted others)) e ∙ append-nil (accepted lines)),
)

-- the configuration that lines make, before one that ends it
pub record Configures (knots : ℕ) (lines : List (List ℕ)) (now : Lines) : Type 0 where
  pub starts : (others : List (List ℕ)) → start_of knots (lines ++ others) ≡ start_from knots (length lines + 1) now others

pub configures-none : (knots : ℕ) → Configures knots [] no_lines
configures-none knots = record { starts = λ others. refl }

pub configures-end : (knots : ℕ) (lines : List (List ℕ)) (now : Lines) → Configures knots lines now → start_of knots lines ≡ Unended (whole knots now) (length lines + 1)
configures-end knots lines now h = ap (start_of knots) (sym (append-nil lines)) ∙ h.starts []

-- a line behind them
pub configures-line : (knots : ℕ) (lines : List (List ℕ)) (now : Lines) (line : List ℕ) (others : List (List ℕ)) (r : Result Command LineFault) → Configures knots lines now → command_of line ≡ r →
    start_of knots (lines ++ line ∷ others) ≡ start_line knots (length lines + 1) now line others r (λ next. start_from knots (length lines + 1 + 1) next others)
configures-line knots lines now line others r h e =
    h.starts (line ∷ others) ∙ ap (λ x. start_line knots (length lines + 1) now line others x (λ next. start_from knots (length lines + 1 + 1) next others)) e

-- a line that goes on with the configuration
pub configures-more : (knots : ℕ) (lines : List (List ℕ)) (now next : Lines) (line : List ℕ) (r : Result Command LineFault) → Configures knots lines now → command_of line ≡ r →
    ((others : List (List ℕ)) → start_line knots (length lines + 1) now line others r (λ n. start_from knots (length lines + 1 + 1) n others) ≡ start_from knots (length lines + 1 + 1) next others) →
    Configures knots (lines ++ line ∷ []) next
configures-more knots lines now next line r h e k = record {
  starts = λ others.
      ap (start_of knots) (append_assoc lines (line ∷ []) others)
      ∙ (configures-line knots lines now line others r h e
      ∙ (k others ∙ ap (λ n. start_from knots n next others) (let c : length lines + 1 + 1 ≡ length (lines ++ line ∷ []) + 1 = omega (arith, length-append lines (line ∷ [])) in c)));
}
