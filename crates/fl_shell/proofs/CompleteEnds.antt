-- An input is answered to its end, where no count rises and there is a configuration.
use Rattle.std.proofs.Common.{◌≡◌, ℕ, ◌+◌, ◌-◌, ◌^◌, ◌≤◌, inl, inr, IsTrue, Err, List, [], ◌∷◌, ◌++◌, length, refl, sym, ◌∙◌, ap, subst, arith}
use Rattle.fl_config.specs.Whole.{is_whole, Makes}
use Rattle.fl_config.specs.declared.image.ImageRefusal.{ImageRefusal}
use Rattle.fl_config.specs.declared.image.ImageRefusal.TheVariants.{Media, Other}
use Rattle.fl_flash.specs.Media.{MediaState}
use Rattle.fl_image.specs.Image.{IsImageOf, OnlyLooksAt}
use Rattle.fl_image.proofs.Made.{made-by, makes-of}
use Rattle.fl_model.specs.Image.{medium_len}
use Rattle.fl_model.specs.Record.{Config}
use Rattle.fl_ends.specs.declared.shell.Flushed.{Flushed}
use Rattle.fl_ends.specs.declared.shell.ShellStatus.{ShellStatus}
use Rattle.fl_ends.specs.declared.shell.ShellStatus.TheVariants.{Done, InputRead, OutWrite, MediaMake, Unconfigured, InputLong, NoMemory, NotImage, Unflushed}
use Rattle.fl_session.specs.Ends.{Told}
use Rattle.fl_session.specs.Opening.{OpensAs}
use Rattle.fl_words.specs.Config.{Lines, no_lines}
use Rattle.fl_words.specs.Grammar.{lines_of}
use Rattle.fl_shell.specs.Begin.{Step, Takes, Echoes, Refuses, Ends, Leads, LeadsTo, IsEnded, step_of}
use Rattle.fl_shell.specs.Complete.{Completes, IsConfigured}
use Rattle.fl_shell.specs.Ends.{IsEarlyBy, ShellEnds, Unbegun}
use Rattle.fl_shell.specs.Input.{InputEnds}
use Rattle.fl_shell.specs.Statuses.{IsOfSession, opening_status}

-- ---- lines lead to one configuration

leads-same : (before a b : Lines) (step : Step) (answer other : List ℕ) → LeadsTo before step answer a → LeadsTo before step other b → a ≡ b
leads-same before a b (Takes now) answer other h k = h.1 ∙ sym k.1
leads-same before a b (Echoes word) answer other h k = h.1 ∙ sym k.1
leads-same before a b Refuses answer other h k = h.1 ∙ sym k.1
leads-same before a b Ends answer other h k = h.1 ∙ sym k.1

-- where some of them lead to a whole one that the next one ends, they don't all lead to one that isn't whole
whole-ends : (before made whole : Lines) (front others : List (List ℕ)) (answers more : List ℕ) → Leads before (front ++ others) answers made → Leads before front more whole → IsEnded whole others → IsTrue (is_whole whole) → (IsTrue (is_whole made) → ⊥) → ⊥
whole-ends before made whole [] [] answers more h k ended is unmade = unmade (subst (λ (l : Lines). IsTrue (is_whole l)) (k.1 ∙ sym h.1) is)
whole-ends before made whole [] (line ∷ others) answers more h k ended is unmade =
    let step : step_of before line ≡ Ends = subst (λ l. step_of l line ≡ Ends) k.1 ended.0 in
    let at : LeadsTo before Ends h.0 h.2 = subst (λ s. LeadsTo before s h.0 h.2) step h.4 in
    at.2 (subst (λ (l : Lines). IsTrue (is_whole l)) k.1 is)
whole-ends before made whole (line ∷ front) others answers more h k ended is unmade =
    let same : h.2 ≡ k.2 = leads-same before h.2 k.2 (step_of before line) h.0 k.0 h.4 k.4 in
    whole-ends k.2 made whole front others h.1 k.1 (subst (λ l. Leads l (front ++ others) h.1 made) same h.5) k.5 ended is unmade

-- an image isn't empty
image-some : (lines : Lines) (config : Config) (content : List ℕ) → Makes lines config → IsImageOf content lines → content ≡ [] → ⊥
image-some lines config content makes image empty =
    let size : length content ≡ medium_len config = image.size config makes in
    absurd (omega (arith, size, ap length empty))

configured-begins : (knots : ℕ) (told : Told) (lines : List (List ℕ)) (made : Lines) → IsConfigured knots told.content lines → Unbegun lines made told → (IsTrue (is_whole made) → ⊥) → ⊥
configured-begins knots told lines made is h unmade =
    let b = is.3 in
    let makes = makes-of knots b.made is.0 b.makes in
    elim b.begins [
      | inl k ↦
          let f = k.1 in
          whole-ends no_lines made b.made f.0 is.1 h.answers is.2 (subst (λ ls. Leads no_lines ls h.answers made) (sym f.1) h.leads) f.2 f.3 (made-by b.made is.0 makes).whole unmade
      | inr k ↦ image-some b.made is.0 told.content makes k.1 h.empty
    ]

-- ---- the statuses that are left

pub completes : (knots : ℕ) (text : List ℕ) (told : Told) (flushed : Flushed) (status : ShellStatus) → length text ≤ 2 ^ 44 → IsConfigured knots told.content (lines_of text) → InputEnds (length text) told.left_now status →
    (status ≡ InputRead → ⊥) → (status ≡ OutWrite → ⊥) → (status ≡ MediaMake → ⊥) → ShellEnds knots text told flushed status → Completes knots text told flushed status
completes knots text told flushed Done short is input read write make h = h
completes knots text told flushed Unflushed short is input read write make h = h
completes knots text told flushed NoMemory short is input read write make h = h
completes knots text told flushed InputRead short is input read write make h = absurd (read refl)
completes knots text told flushed OutWrite short is input read write make h = absurd (write refl)
completes knots text told flushed MediaMake short is input read write make h = absurd (make refl)
completes knots text told flushed InputLong short is input read write make h = absurd (omega (arith, short, input))
completes knots text told flushed Unconfigured short is input read write make h = let k = h.1 in absurd (configured-begins knots told (lines_of text) k.0 is k.1 k.2)
completes knots text told flushed NotImage short is input read write make h =
    let b = is.3 in
    absurd (elim b.begins [ inl k ↦ h.1 k.0 | inr k ↦ h.3 b.made k.0 k.1 ])

pub completes-none : (knots : ℕ) (text : List ℕ) (told : Told) (flushed : Flushed) (status : ShellStatus) → status ≡ NoMemory → ShellEnds knots text told flushed status → Completes knots text told flushed status
completes-none knots text told flushed status is h = subst (λ s. ShellEnds knots text told flushed s → Completes knots text told flushed s) (sym is) (λ ends. ends) h

-- .. of want of memory
pub memory-read : (status : ShellStatus) → status ≡ NoMemory → status ≡ InputRead → ⊥
memory-read status is e = subst IsOfSession is (subst IsOfSession (sym e) tt)

pub memory-write : (status : ShellStatus) → status ≡ NoMemory → status ≡ OutWrite → ⊥
memory-write status is e = subst IsOfSession is (subst IsOfSession (sym e) tt)

pub memory-make : (status : ShellStatus) → status ≡ NoMemory → status ≡ MediaMake → ⊥
memory-make status is e = let odd : NoMemory ≡ MediaMake = sym is ∙ e in cc

pub opening-made : {A : Type 0} (refusal : ImageRefusal) (status : ShellStatus) → status ≡ opening_status refusal → IsOfSession status → A
opening-made Media status is of = absurd (subst IsOfSession is of)
opening-made (Other wanted found at) status is of = absurd (subst IsOfSession is of)

-- ---- the medium where no image was opened

pub session-early : (old new : MediaState) (status : ShellStatus) → IsOfSession status → IsEarlyBy old new status
session-early old new Done of = tt
session-early old new Unflushed of = tt
session-early old new InputRead of = tt
session-early old new OutWrite of = tt
session-early old new InputLong of = tt
session-early old new status of = absurd of

pub looks-early : (old new : MediaState) (status : ShellStatus) → new.content ≡ old.content → IsEarlyBy old new status
looks-early old new Unconfigured same = same
looks-early old new NoMemory same = same
looks-early old new NotImage same = same
looks-early old new MediaMake same = λ some. same
looks-early old new status same = tt

pub opening-early : (config : Config) (old looked new : MediaState) (refusal : ImageRefusal) → OnlyLooksAt old looked → OpensAs config looked (Err refusal) new → IsEarlyBy old new (opening_status refusal)
opening-early config old looked new Media looks opens = λ some. opens.kept (λ empty. some (sym looks.content ∙ empty)) ∙ looks.content
opening-early config old looked new (Other wanted found at) looks opens = opens.kept ∙ looks.content

pub early-at : (old new : MediaState) (status known : ShellStatus) → status ≡ known → IsEarlyBy old new known → IsEarlyBy old new status
early-at old new status known is h = subst (IsEarlyBy old new) (sym is) h
