-- A session that isn't mounted, and the medium on which it stands.
use Rattle.std.proofs.Common.{◌≡◌, ℕ, ◌+◌, ◌-◌, Bool, false, inl, inr, IsTrue, Some, List, [], ◌∷◌, map, length, take, refl, sym, ◌∙◌, ap, subst, length-append, arith, replicate}
use Rattle.std.proofs.lemmas.List.{length-replicate}
use Rattle.fl_flash.specs.Flash.{FlashState}
use Rattle.fl_flash.specs.Media.{MediaState}
use Rattle.fl_frame.specs.Device.{SameDevice}
use Rattle.fl_model.specs.Record.{Config}
use Rattle.fl_model.specs.Table.{Table, lose}
use Rattle.fl_model.specs.Image.{medium_len}
use Rattle.fl_words.specs.Medium.{header, IsImage}
use Rattle.fl_machine.specs.Machine.{Machine, begins, fresh_tables}
use Rattle.fl_machine.specs.Script.{StandsFor, StandsAfter}
use Rattle.fl_machine.specs.Stays.{MomentStays}
use Rattle.fl_machine.specs.Step.{Moment}
use Rattle.fl_machine.proofs.BytesStay.{moment-same}
use Rattle.fl_store.proofs.Images.{tables-image}
use Rattle.fl_store.proofs.NewImages.{sized-image}
use Rattle.fl_store.proofs.Unmounted.{off}
use Rattle.fl_store.specs.Store.{at_rest, Holds}
use Rattle.fl_store.specs.declared.tables.Entry.{Entry}
use Rattle.fl_store.specs.NewImage.{new_image, made_image}
use Rattle.fl_session.specs.Ends.{IsOwn, IsFormed}
use Rattle.fl_session.specs.Opening.{Opened}
use Rattle.fl_session.specs.Cost.{cost_of}
use Rattle.fl_session.specs.Notes.{no_notes}
use Rattle.fl_session.specs.declared.notes.Notes.{Notes}
use Rattle.fl_session.specs.Standing.{SessionStands, RestsOn}

-- a medium that was opened stands for a state between two runs
pub new-header : (config : Config) (old new : MediaState) → Opened config old new → new.content ≡ new_image config → length (header config) ≡ 1024
new-header config old new h e =
    let count : medium_len config ≡ length (header config) + (medium_len config - 1024) =
    sym h.len ∙ (ap length e ∙ (length-append (header config) (replicate (medium_len config - 1024) 255) ∙ ap (λ n. length (header config) + n) (length-replicate {A = ℕ} (medium_len config - 1024) 255))) in
    omega (arith, count)

new-rests : (config : Config) (old new : MediaState) → Opened config old new → new.content ≡ new_image config → IsImage config new.content (fresh_tables config)
new-rests config old new h e = subst (λ (c : List ℕ). IsImage config c (fresh_tables config)) (sym e) (sized-image config (new-header config old new h e))

-- .. and holds what it had, or is new
pub opened-content : (config : Config) (old new : MediaState) → IsTrue old.tells → Opened config old new → new.content ≡ made_image config old.content
opened-content config old new told h = by-content old.content refl
  where
    by-content : (content : List ℕ) → old.content ≡ content → new.content ≡ made_image config content
    by-content [] e = h.made told e
    by-content (byte ∷ bytes) e = h.kept (λ empty. some (sym e ∙ empty)) ∙ e
      where
        some : byte ∷ bytes ≡ [] → ⊥
        some k = cc

-- .. and has the form of its configuration
pub opened-formed : (config : Config) (old new : MediaState) → IsTrue old.tells → Opened config old new → IsFormed config new.content
opened-formed config old new told h = (h.len, by-own (h.own told))
  where
    some : medium_len config ≡ 0 → ⊥
    some e = absurd (omega (arith, e))

    by-own : IsOwn config old.content → take 1024 new.content ≡ header config
    by-own (inl empty) =
        let made = h.made told empty in
        ap (take 1024) made ∙ (sized-image config (new-header config old new h made)).head
    by-own (inr formed) = ap (take 1024) (h.kept (λ e. some (sym formed.0 ∙ ap length e))) ∙ formed.1

pub opened-rests : (config : Config) (old new : MediaState) (m : Machine) → IsTrue old.tells → Opened config old new → StandsFor config old.content m → RestsOn config new.content m
opened-rests config old new m told h (inl s) = (fresh_tables config, new-rests config old new h (h.made told s.0), s.1)
opened-rests config old new m told h (inr s) = (
  s.0,
  subst (λ c. IsImage config c s.0) (sym (h.kept (λ e. some (sym s.1.len ∙ ap length e)))) s.1,
  s.2,
)
  where
    some : medium_len config ≡ 0 → ⊥
    some e = absurd (omega (arith, e))

-- .. and the session that begins over its tables for the same
pub session-begins : (config : Config) (entries entries' : List Entry) (notes : Notes) (f f' : FlashState) (mounted : Bool) (m : Machine) (tables : List Table) → entries' ≡ entries → f' ≡ f → mounted ≡ false → notes ≡ no_notes → config.knots ≡ 64 →
    SameDevice f at_rest → Holds config entries f false tables → m ≡ begins tables → SessionStands config entries' f' mounted notes m
session-begins config entries entries' notes f f' mounted m tables entries_are f_is off fresh knots calm holds is = rw (entries_are, f_is, off, is) (record {
  knots = knots;
  medium = holds.medium;
  tables = holds.stand;
  is_mounted = refl;
  cursors = refl;
  device = calm;
  cost_is = ap (λ (n : Notes). cost_of n.cost) (sym fresh);
  power = λ k. cc;
})

-- the medium on which a session ended stands for what it had on it
pub session-ends : (config : Config) (entries : List Entry) (notes : Notes) (f : FlashState) (mounted : Bool) (m : Machine) → SessionStands config entries f mounted notes m → StandsAfter config (Some f.media.content) m
session-ends config entries notes f mounted m h =
    tables-image config entries f (map lose m.tables) h.medium.len h.medium.head h.medium.start h.medium.geometry (off f mounted config.plans entries m.tables h.tables)

-- a command that leaves its content as it is
pub stays-still : (config : Config) (old : Machine) (moment : Moment) (entries : List Entry) (notes : Notes) (f g : FlashState) (mounted : Bool) → SessionStands config entries g mounted notes moment.after → g.media.content ≡ f.media.content →
    MomentStays config old moment f.media.content g.media.content
stays-still config old moment entries notes f g mounted h same = moment-same config old moment f.media.content g.media.content (session-ends config entries notes g mounted moment.after h) same
