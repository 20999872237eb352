-- What is written of the first key, by what was said of the groups.
use Rattle.std.proofs.Common.{◌≡◌, ℕ, true, false, eqb, Bool, Option, Some, None, List, codes, sym, ◌∙◌, ap}
use Rattle.std.specs.Prelude.{if◌then◌else◌, option_map, slice_get, unwrap_or}
use Rattle.std.specs.List.{starts_with}
use Rattle.fl_words.specs.Grammar.{words_in}
use Rattle.fl_words.specs.Reply as reply
use Rattle.fl_words.specs.Reply.{text}
use Rattle.fl_shell.specs.Caused.{first_said}
use Rattle.fl_shell.specs.Refusal.{line_of}

pub said-end : (said : List ℕ) → starts_with eqb said (codes "end ") ≡ true → first_said said ≡ text reply.Absent
said-end said ends = ap (λ (b : Bool). if b then text reply.Absent else if starts_with eqb said (codes "group ") then unwrap_or (option_map line_of (slice_get (words_in said) 5)) said else said) ends

module _ (said : List ℕ) (not : starts_with eqb said (codes "end ") ≡ false) where
  behind : first_said said ≡ (if starts_with eqb said (codes "group ") then unwrap_or (option_map line_of (slice_get (words_in said) 5)) said else said)
  behind = ap (λ (b : Bool). if b then text reply.Absent else if starts_with eqb said (codes "group ") then unwrap_or (option_map line_of (slice_get (words_in said) 5)) said else said) not

  grouped : starts_with eqb said (codes "group ") ≡ true → first_said said ≡ unwrap_or (option_map line_of (slice_get (words_in said) 5)) said
  grouped begins = behind ∙ ap (λ (b : Bool). if b then unwrap_or (option_map line_of (slice_get (words_in said) 5)) said else said) begins

  pub said-group : (word : List ℕ) → starts_with eqb said (codes "group ") ≡ true → Some word ≡ slice_get (words_in said) 5 → first_said said ≡ line_of word
  said-group word begins is = grouped begins ∙ ap (λ (o : Option (List ℕ)). unwrap_or (option_map line_of o) said) (sym is)

  pub said-wordless : starts_with eqb said (codes "group ") ≡ true → None ≡ slice_get (words_in said) 5 → first_said said ≡ said
  said-wordless begins is = grouped begins ∙ ap (λ (o : Option (List ℕ)). unwrap_or (option_map line_of o) said) (sym is)
