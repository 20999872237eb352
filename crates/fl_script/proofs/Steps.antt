-- What a line is by the steps of its reading: those that went well, and the first that failed.
use Rattle.std.proofs.Common.{◌≡◌, List, ℕ, Bool, true, false, ◌&&◌, Option, Some, None, Result, Ok, Err, refl, sym, ap, subst, ◌∙◌, MatchResult}
use Rattle.std.specs.Prelude.{IsErrAnd}
use Rattle.fl_words.specs.Command.{Command}
use Rattle.fl_words.specs.Grammar.{LineFault, Form, ◌>>=◌, form, part}
use Rattle.fl_script.specs.CommandView.{fault_view}
use Rattle.fl_script.specs.Lines.{line_view}
use Rattle.fl_script.specs.declared.command.Command as code
use Rattle.fl_script.specs.declared.command.LineFault as fault

-- a step that went well, of each of the three kinds
pub on : {A B : Type 0} {r : Result A LineFault} {x : A} (f : A → Result B LineFault) → r ≡ Ok x → (r >>= f) ≡ f x
on f e = ap (λ r. r >>= f) e

pub with_form : {A : Type 0} {ok : Bool} (others : Result A LineFault) → ok ≡ true → form ok others ≡ others
with_form others e = ap (λ ok. form ok others) e

pub with_part : {A B : Type 0} {o : Option A} {x : A} (f : A → Result B LineFault) → o ≡ Some x → part o f ≡ f x
with_part f e = ap (λ o. part o f) e

-- .. and that failed
pub stops : {A B : Type 0} {r : Result A LineFault} {e : LineFault} (f : A → Result B LineFault) → r ≡ Err e → (r >>= f) ≡ Err e
stops f e = ap (λ r. r >>= f) e

pub no_form : {A : Type 0} {ok : Bool} (others : Result A LineFault) → ok ≡ false → form ok others ≡ Err Form
no_form others e = ap (λ ok. form ok others) e

pub no_part : {A B : Type 0} {o : Option A} (f : A → Result B LineFault) → o ≡ None → part o f ≡ Err Form
no_part f e = ap (λ o. part o f) e

-- two tests, of which one failed
pub not_both : {a b : Bool} → a ≡ true → b ≡ false → (a && b) ≡ false
not_both e f = rw (e, f) refl

-- the fault of the step that failed is what the line gives
pub fails : (result : Result code.Command fault.LineFault) (room : List ℕ) (first last : fault.LineFault) {line : Result Command LineFault} → IsErrAnd result (λ e. e ≡ first) → first ≡ last
    → line ≡ Err (fault_view last) → line_view result room ≡ line
fails (Ok command) room first last is same line = absurd is
fails (Err e) room first last is same line = ap (λ e. Err (fault_view e)) (is ∙ same) ∙ sym line

-- .. and what is said of each fault holds of it
pub told : {A : Type 0} (result : Result A fault.LineFault) (first last : fault.LineFault) (Good : A → Type 0) (Bad : LineFault → Type 0) → IsErrAnd result (λ e. e ≡ first) → first ≡ last
    → Bad (fault_view last) → MatchResult result Good (λ e. Bad (fault_view e))
told (Ok found) first last Good Bad is same bad = absurd is
told (Err e) first last Good Bad is same bad = subst (λ e. Bad (fault_view e)) (sym (is ∙ same)) bad
