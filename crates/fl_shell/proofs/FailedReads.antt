-- Where no line is read or an answer isn't written, the status tells the count that rose.
use Rattle.std.proofs.Common.{◌≡◌, ℕ, ◌≤◌, ◌<◌, Result, Ok, Err, refl, sym, ◌∙◌, subst, arith}
use Rattle.std.specs.Prelude.{IfErr}
use Rattle.fl_base.specs.Causes.{Rose}
use Rattle.fl_base.proofs.Risen.{rose-back}
use Rattle.fl_lines.specs.declared.lines.LinesFault.{LinesFault}
use Rattle.fl_lines.specs.declared.lines.LinesFault.TheVariants.{Failed, Long}
use Rattle.fl_ends.specs.declared.shell.ShellStatus.{ShellStatus}
use Rattle.fl_ends.specs.declared.shell.ShellStatus.TheVariants.{Done, InputRead, OutWrite, InputLong, Unconfigured}
use Rattle.fl_shell.specs.Statuses.{IsOfLines, IsOfTalk, reading_status}
use Rattle.fl_shell.specs.declared.talk.Next.TheVariants.{InHand, Unread, Ended}

pub ok-err : {A E : Type 0} (a : A) (e : E) → Ok a ≡ Err e → ⊥
ok-err {A} {E} a e same = subst (λ (r : Result A E). IfErr r (λ x. ⊥)) same tt

pub same-err : {A E : Type 0} (a b : E) (r : Result A E) → r ≡ Err a → r ≡ Err b → a ≡ b
same-err {A} {E} a b r is e = subst (λ (x : Result A E). IfErr x (λ y. y ≡ b)) (sym e ∙ is) refl

-- ---- no line is read

pub reading-lines : (fault : LinesFault) → IsOfLines (reading_status fault)
reading-lines Failed = tt
reading-lines Long = tt

pub reading-talk : (fault : LinesFault) → IsOfTalk (reading_status fault)
reading-talk Failed = tt
reading-talk Long = tt

pub reading-rose : (fault : LinesFault) (status : ShellStatus) (before mid now : ℕ) → status ≡ reading_status fault → before ≤ mid → (fault ≡ Failed → Rose mid now) → status ≡ InputRead → Rose before now
reading-rose Failed status before mid now is later failed e = rose-back before mid now later (failed refl)
reading-rose Long status before mid now is later failed e = let odd : InputLong ≡ InputRead = sym is ∙ e in cc

pub reading-write : (fault : LinesFault) (status : ShellStatus) → status ≡ reading_status fault → status ≡ OutWrite → ⊥
reading-write Failed status is e = let odd : InputRead ≡ OutWrite = sym is ∙ e in cc
reading-write Long status is e = let odd : InputLong ≡ OutWrite = sym is ∙ e in cc

-- ---- statuses that are others

pub unconfigured-read : Unconfigured ≡ InputRead → ⊥
unconfigured-read odd = cc

pub unconfigured-write : Unconfigured ≡ OutWrite → ⊥
unconfigured-write odd = cc

pub written-read : OutWrite ≡ InputRead → ⊥
written-read odd = cc

pub done-read : Done ≡ InputRead → ⊥
done-read odd = cc

pub done-write : Done ≡ OutWrite → ⊥
done-write odd = cc

-- ---- what of the input is answered first

pub hand-open : InHand ≡ Ended → ⊥
hand-open odd = cc

pub unread-open : Unread ≡ Ended → ⊥
unread-open odd = cc

-- ---- what is left

pub fewer-left : (now mid before : ℕ) → now < mid → mid ≤ before → now ≤ before
fewer-left now mid before fewer few = omega (arith, fewer, few)
