-- The lines of a configuration, one by one.
use Rattle.std.proofs.Common.{◌≡◌, inl, inr, ℕ, ◌+◌, ◌<◌, Bool, true, false, Option, Some, None, Result, Ok, Err, IfOk, IfErr, List, [], ◌∷◌, length, drop, get_or, refl, sym, ◌∙◌, ap, subst, arith}
use Rattle.std.specs.Prelude.{if◌then◌else◌}
use Rattle.std.proofs.lemmas.Bool.{ne_eqb}
use Rattle.std.proofs.lemmas.List.{at_drop_more}
use Rattle.fl_words.specs.Command as command
use Rattle.fl_words.specs.Command.{Command}
use Rattle.fl_words.specs.Config.{ConfigFault, Lines, configured, no_lines, whole}
use Rattle.fl_words.specs.Grammar as grammar
use Rattle.fl_words.specs.Grammar.{command_of, no_empty_last}
use Rattle.fl_model.specs.Record.{Config}
use Rattle.fl_words.specs.Parts.{line_parts}
use Rattle.fl_machine.specs.Script.{Start, start_with, start_config, start_line, start_from, start_of}
use Rattle.fl_sizing.specs.Lines.{Follows, IsEnded, Reaches, RefusesText, configured_in, told_by, told_of}
use Rattle.fl_sizing.specs.declared.end.PlanEnd.{PlanEnd}
use Rattle.fl_sizing.specs.declared.end.PlanStatus.TheVariants.{Config as BadConfiguration}

-- a configuration that ended
told-with : (w : Option Config) (n : ℕ) (lines : List (List ℕ)) → told_by (start_with w n lines) ≡ told_of w
told-with None n lines = refl
told-with (Some config) n lines = refl

-- the lines before a line of a text
pub record Passed (text : List ℕ) (now : Lines) (k number : ℕ) : Type 0 where
  pub numbered : number ≡ k + 1
  pub starts : (knots : ℕ) → start_of knots (line_parts text) ≡ start_from knots (k + 1) now (drop k (line_parts text))

pub passed-line : (text : List ℕ) (now : Lines) (k number : ℕ) (line : List ℕ) → Passed text now k number → k < length (line_parts text) → line ≡ get_or (line_parts text) k line → Reaches text now line number
passed-line text now k number line h lt is = record {
  others = drop (k + 1) (line_parts text);
  lines = (k, h.numbered, at_drop_more (λ (l : List (List ℕ)). l) (line_parts text) k line lt ∙ ap (λ (x : List ℕ). x ∷ drop (k + 1) (line_parts text)) (sym is));
  starts = λ knots. h.starts knots ∙ ap (λ (n : ℕ). start_from knots n now (drop k (line_parts text))) (sym h.numbered)
      ∙ at_drop_more (start_from knots number now) (line_parts text) k line lt ∙ ap (λ (x : List ℕ). start_from knots number now (x ∷ drop (k + 1) (line_parts text))) (sym is);
}

-- it goes on
pub passed-more : (text : List ℕ) (now next : Lines) (k number : ℕ) (line : List ℕ) → Passed text now k number → k < length (line_parts text) → line ≡ get_or (line_parts text) k line →
    Follows now line number (Ok true) next → Passed text next (k + 1) (number + 1)
unfolding passed-line
passed-more text now next k number line h lt is goes =
    let r = passed-line text now k number line h lt is in
    record {
      numbered = omega (arith, h.numbered);
      starts = λ knots. r.starts knots ∙ goes knots r.others (λ l. start_from knots (number + 1) l r.others) ∙ ap (λ (n : ℕ). start_from knots n next r.others) (let e : number + 1 ≡ k + 1 + 1 = omega (arith, h.numbered) in e);
    }

-- a last part without bytes is no line, and makes no other configuration
line-alike : (knots n : ℕ) (l : Lines) (line : List ℕ) (others more : List (List ℕ)) (go run : Lines → Start) → ((x : Lines) → told_by (go x) ≡ told_by (run x)) → (r : Result Command grammar.LineFault) →
    told_by (start_line knots n l line others r go) ≡ told_by (start_line knots n l line more r run)
line-alike knots n l line others more go run h (Err fault) = refl
line-alike knots n l line others more go run h (Ok c) = by_command c
  where
    by_result : (r : Result Lines ConfigFault) → told_by (start_config n r go) ≡ told_by (start_config n r run)
    by_result (Ok x) = h x
    by_result (Err fault) = refl

    ends : told_by (start_with (whole knots l) n (line ∷ others)) ≡ told_by (start_with (whole knots l) n (line ∷ more))
    ends = told-with (whole knots l) n (line ∷ others) ∙ sym (told-with (whole knots l) n (line ∷ more))

    by_command : (c : Command) → told_by (start_line knots n l line others (Ok c) go) ≡ told_by (start_line knots n l line more (Ok c) run)
    by_command command.Nothing = h l
    by_command (command.Device page block) = by_result (configured l (command.Device page block))
    by_command (command.Table words) = by_result (configured l (command.Table words))
    by_command command.Mount = ends
    by_command command.Off = ends
    by_command (command.Cut k kind) = ends
    by_command (command.Put name key values blob) = ends
    by_command (command.Flush name) = ends
    by_command (command.Get name key) = ends
    by_command (command.Blob name key) = ends
    by_command (command.Scan name range span) = ends
    by_command (command.Open cursor name range span) = ends
    by_command (command.Next cursor count) = ends
    by_command (command.Close cursor) = ends
    by_command (command.Select name range column op value) = ends
    by_command (command.Project name range columns) = ends
    by_command (command.Agg name range column width) = ends
    by_command (command.Join left right range) = ends
    by_command (command.Stat name) = ends
    by_command command.Cost = ends
    by_command (command.Load name count step seed) = ends

nothing-empty : command_of [] ≡ Ok command.Nothing
nothing-empty = refl

alike : (knots n : ℕ) (l : Lines) (parts : List (List ℕ)) → told_by (start_from knots n l (no_empty_last parts)) ≡ told_by (start_from knots n l parts)
alike knots n l [] = refl
alike knots n l ([] ∷ []) = sym (ap (λ r. told_by (start_line knots n l [] [] r (λ now. start_from knots (n + 1) now []))) nothing-empty)
alike knots n l ((byte ∷ bytes) ∷ []) =
    ap (λ (empty : Bool). told_by (start_from knots n l (if empty then [] else (byte ∷ bytes) ∷ []))) (ne_eqb (length (byte ∷ bytes)) 0 (λ e. omega arith))
alike knots n l (line ∷ next ∷ others) =
    line-alike knots n l line (no_empty_last (next ∷ others)) (next ∷ others) (λ now. start_from knots (n + 1) now (no_empty_last (next ∷ others))) (λ now. start_from knots (n + 1) now (next ∷ others))
    (λ x. alike knots (n + 1) x (next ∷ others)) (command_of line)

same-lines : (knots : ℕ) (text : List ℕ) → configured_in knots text ≡ told_by (start_of knots (line_parts text))
same-lines knots text = alike knots 1 no_lines (line_parts text)

-- it ends with the text
pub ended-all : (text : List ℕ) (now : Lines) (k number : ℕ) → Passed text now k number → drop k (line_parts text) ≡ [] → IsEnded text now
ended-all text now k number h none = λ knots. same-lines knots text ∙ ap told_by (h.starts knots ∙ ap (start_from knots (k + 1) now) none)

-- or at the first other command
pub ended-there : (text : List ℕ) (now next : Lines) (k number : ℕ) (line : List ℕ) → Passed text now k number → k < length (line_parts text) → line ≡ get_or (line_parts text) k line →
    Follows now line number (Ok false) next → IsEnded text next
ended-there text now next k number line h lt is ends =
    let r = passed-line text now k number line h lt is in
    subst (λ (l : Lines). IsEnded text l) (sym ends.0) (λ knots. same-lines knots text ∙ ap told_by (r.starts knots) ∙ ends.1 knots r.others (λ l. start_from knots (number + 1) l r.others))

-- a line of it is refused
pub refused-there : (text : List ℕ) (now next : Lines) (k number : ℕ) (line : List ℕ) (end : PlanEnd) → Passed text now k number → k < length (line_parts text) → line ≡ get_or (line_parts text) k line →
    Follows now line number (Err end) next → RefusesText text end
refused-there text now next k number line end h lt is refused =
    let r = passed-line text now k number line h lt is in (
      λ knots. same-lines knots text ∙ ap told_by (r.starts knots) ∙ refused.1 knots r.others (λ l. start_from knots (number + 1) l r.others),
      inr (number, record { before = now; line = line; reaches = r; told = refused.0 }),
    )

-- or it has no device or no table
pub incomplete : (text : List ℕ) (now : Lines) (end : PlanEnd) → IsEnded text now → end ≡ record { status = BadConfiguration 0; reason = None } → ((knots : ℕ) → whole knots now ≡ None) → RefusesText text end
incomplete text now end ends is none = subst (λ (e : PlanEnd). RefusesText text e) (sym is) (λ knots. ends knots ∙ ap told_of (none knots), inl refl)

-- so it is with what is handed out of either
pub finished-ended : (r : Result Lines PlanEnd) (text : List ℕ) (now : Lines) (P : Lines → Type 0) → IfOk r (λ made. (made ≡ now) × P made) → IsEnded text now → IfOk r (IsEnded text)
finished-ended (Ok made) text now P h e = subst (λ (l : Lines). IsEnded text l) (sym h.0) e
finished-ended (Err end) text now P h e = tt

pub finished-refused : (r : Result Lines PlanEnd) (text : List ℕ) (now : Lines) → IfErr r (λ end. (end ≡ record { status = BadConfiguration 0; reason = None }) × ((knots : ℕ) → whole knots now ≡ None)) → IsEnded text now →
    IfErr r (RefusesText text)
finished-refused (Ok made) text now h e = tt
finished-refused (Err end) text now h e = incomplete text now end e h.0 h.1
