-- A script of commands in their places is run to its end.
use Rattle.std.proofs.Common.{◌≡◌, ℕ, inl, inr, ◌⊎◌, Some, List, [], length, take, refl, sym, ◌∙◌, subst, arith, slice_get}
use Rattle.std.proofs.lemmas.Option.{none-some}
use Rattle.fl_model.specs.Record.{Config}
use Rattle.fl_model.specs.Image.{medium_len}
use Rattle.fl_words.specs.Command.{Command}
use Rattle.fl_words.specs.Medium.{header}
use Rattle.fl_machine.specs.Script.{Ready}
use Rattle.fl_config.specs.Opening.{Differs}
use Rattle.fl_store.specs.NewImage.{new_image}
use Rattle.fl_ends.specs.declared.run.Status.{Status}
use Rattle.fl_ends.specs.declared.run.Status.TheVariants.{Done, Usage, Line, ScriptRead, OutWrite, MediaMake, Config as BadConfiguration, OtherConfig, ScriptLong, NoMemory}
use Rattle.fl_session.specs.Complete.{IsInPlace, Completes}
use Rattle.fl_session.specs.Ends.{Told, Ends, IsOwn, IsOther, RunsAll, IsNew, effects_of}
use Rattle.fl_session.specs.ScriptEnds.{EndsDone, EndsLine, EndsConfig, EndsOther}

own-other : (config : Config) (content : List ℕ) (wanted found at : ℕ) → IsOwn config content → IsOther config content wanted found at → ⊥
own-other config content wanted found at (inl e) h = h.0 e
own-other config content wanted found at (inr own) h = by_kind h.1
  where
    same : (a b : ℕ) → slice_get (header config) at ≡ Some a → slice_get (header config) at ≡ Some b → a ≡ b
    same a b e k = let s : Some a ≡ Some b = sym e ∙ k in cc

    by_kind : ((wanted ≡ medium_len config) × (found ≡ length content) × (at ≡ 1024) × (wanted ≡ found → ⊥)) ⊎ ((length content ≡ medium_len config) × Differs (header config) (take 1024 content) at wanted found) → ⊥
    by_kind (inl k) = k.3 (k.0 ∙ (sym own.0 ∙ sym k.1))
    by_kind (inr k) = k.1.differ (same wanted found k.1.wanted_is (subst (λ l. slice_get l at ≡ Some found) own.1 k.1.found_is))

-- ---- each status

new-unbegun : (config : Config) (n : ℕ) (lines : List (List ℕ)) (told : Told) → (told.content_now ≡ told.content) ⊎ IsNew (Ready config n lines) told →
    (told.content_now ≡ told.content) ⊎ ((told.content ≡ []) × (told.content_now ≡ new_image config))
new-unbegun config n lines told (inl e) = inl e
new-unbegun config n lines told (inr e) = inr e

pub completes : (knots : ℕ) (text : List ℕ) (config : Config) (commands : List Command) (told : Told) (status : Status) → Ends knots text told status → IsInPlace knots text config commands → IsOwn config told.content →
    (status ≡ Usage → ⊥) → (status ≡ ScriptRead → ⊥) → (status ≡ OutWrite → ⊥) → (status ≡ MediaMake → ⊥) → Completes config commands told status
completes knots text config commands told (Done pending) h p own a b c d =
    let done : EndsDone (effects_of told (Done pending)) (Ready config p.number p.lines) = subst (λ s. EndsDone (effects_of told (Done pending)) s) p.starts h.1 in
    subst (λ cs. RunsAll config cs told (Done pending)) p.commands_are done.1
completes knots text config commands told NoMemory h p own a b c d =
    record { written = h.0.0; content = new-unbegun config p.number p.lines told (subst (λ s. (told.content_now ≡ told.content) ⊎ IsNew s told) p.starts h.0.1) }
completes knots text config commands told Usage h p own a b c d = a refl
completes knots text config commands told (Line n) h p own a b c d =
    let line : EndsLine (effects_of told (Line n)) (Ready config p.number p.lines) n = subst (λ s. EndsLine (effects_of told (Line n)) s n) p.starts h.0 in none-some _ (sym p.accepts ∙ line.0)
completes knots text config commands told ScriptRead h p own a b c d = b refl
completes knots text config commands told OutWrite h p own a b c d = c refl
completes knots text config commands told MediaMake h p own a b c d = d refl
completes knots text config commands told (BadConfiguration n) h p own a b c d = subst (λ s. EndsConfig (effects_of told (BadConfiguration n)) s n) p.starts h.0
completes knots text config commands told (OtherConfig wanted found at) h p own a b c d =
    let other : EndsOther (effects_of told (OtherConfig wanted found at)) (Ready config p.number p.lines) wanted found at = subst (λ s. EndsOther (effects_of told (OtherConfig wanted found at)) s wanted found at) p.starts h.0 in
    own-other config told.content wanted found at own other.0
completes knots text config commands told ScriptLong h p own a b c d = absurd (omega (arith, p.short, h.0))
