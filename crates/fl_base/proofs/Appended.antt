-- Texts that are appended one behind another, and what nothing was appended to.
use Rattle.std.proofs.Common.{◌≡◌, ℕ, Option, Some, None, List, [], ◌++◌, refl, sym, ◌∙◌, ap, append_assoc, append-nil}
use Rattle.fl_base.specs.Causes.{IsFront, Appends, AppendsFront}

pub appends-none : (told : Option (List ℕ)) → Appends told told []
appends-none None = tt
appends-none (Some bytes) = ap (λ (l : List ℕ). Some l) (sym (append-nil bytes))

pub appends-append : (before mid now : Option (List ℕ)) (xs ys : List ℕ) → Appends before mid xs → Appends mid now ys → Appends before now (xs ++ ys)
appends-append None mid now xs ys first then = tt
appends-append (Some told) mid now xs ys first then =
    let more : now ≡ Some (told ++ xs ++ ys) = rw first at then in
    more ∙ ap (λ l. Some l) (append_assoc told xs ys)

-- nothing of a text was appended
pub front-none : (told : Option (List ℕ)) (text : List ℕ) → AppendsFront told told text
front-none told text = ([], (text, refl), appends-none told)

-- a front of a front is one of all
pub front-longer : (before now : Option (List ℕ)) (text whole : List ℕ) → IsFront text whole → AppendsFront before now text → AppendsFront before now whole
front-longer before now text whole is h = (h.0, (h.1.0 ++ is.0, sym (append_assoc h.0 h.1.0 is.0) ∙ ap (λ (l : List ℕ). l ++ is.0) h.1.1 ∙ is.1), h.2)

pub front-more : (before now : Option (List ℕ)) (text others : List ℕ) → AppendsFront before now text → AppendsFront before now (text ++ others)
front-more before now text others front = front-longer before now text (text ++ others) (others, refl) front

-- the whole of a text was appended, and then a front of the next
pub front-behind : (before mid now : Option (List ℕ)) (first second : List ℕ) → Appends before mid first → AppendsFront mid now second → AppendsFront before now (first ++ second)
front-behind before mid now first second wrote front =
    (first ++ front.0, (front.1.0, append_assoc first front.0 front.1.0 ∙ ap (λ (l : List ℕ). first ++ l) front.1.1), appends-append before mid now first front.0 wrote front.2)
