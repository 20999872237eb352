-- What two programs of a page do that go to the medium at once.
use Rattle.std.proofs.Common.{◌≡◌, ℕ, ◌+◌, ◌*◌, ◌≤◌, ◌<◌, Bool, true, false, List, length, take, drop, slice_set, Option, None, Result, Ok, Err, IsTrue, inl, inr, refl, sym, ◌∙◌, ap, subst, arith}
use Rattle.std.proofs.lemmas.List.{take-take, drop-drop}
use base.Fml.{GName}
use Rattle.fl_base.specs.declared.types.Geometry.{Geometry}
use Rattle.fl_flash.specs.declared.armed.Armed.{Armed}
use Rattle.fl_flash.specs.declared.flash.Work.{Work}
use Rattle.fl_flash.specs.declared.flash.FlashFault.TheVariants.{Media}
use Rattle.fl_flash.specs.declared.media.PairFailed.{PairFailed}
use Rattle.fl_flash.specs.declared.media.PairFailed.TheVariants.{First, Second}
use Rattle.fl_flash.specs.Flash.{FlashState, ProgramsPage, ProgramsPair}
use Rattle.fl_flash.specs.Media.{MediaState, Torn, next_count}
use Rattle.fl_flash.specs.Places.{page_of, extent}
use Rattle.fl_flash.specs.Programs.{left_at, SecondEnds, FirstEnds, ProgramsBoth}
use Rattle.fl_flash.specs.Sim.{on_medium, AreBlank}
use Rattle.fl_flash.specs.Tear.{Rewrites, torn_now, armed_after}
use Rattle.fl_flash.proofs.Clean.{CleanBefore, program_keeps}
use Rattle.fl_flash.proofs.RangeOperations.{torn_wider}
use Rattle.fl_flash.proofs.SimCalls.{programs_ok, programs_failed}

-- one range behind the other
torn_both : (old mid new : List ℕ) (at n m : ℕ) → Torn old at n mid → Torn mid (at + n) m new → Torn old at (n + m) new
torn_both old mid new at n m first second = record {
  before = sym (take-take at (at + n) new (omega arith)) ∙ ap (λ (l : List ℕ). take at l) second.before ∙ take-take at (at + n) mid (omega arith) ∙ first.before;
  after = ap (λ (k : ℕ). drop k new) (omega arith) ∙ second.after ∙ sym (drop-drop m (at + n) mid) ∙ ap (λ (l : List ℕ). drop m l) first.after ∙ drop-drop m (at + n) old ∙ ap (λ (k : ℕ). drop k old) (omega arith);
  no_shorter = omega (arith, first.no_shorter, second.no_shorter);
  no_longer = omega (arith, first.no_longer, second.no_longer);
}

module _ (old new : MediaState) (at : ℕ) (first second : List ℕ) where
  -- the first of two programs done, and what both may have changed
  second_torn : (result : Result (Unit {0}) PairFailed) → SecondEnds old at first second result new → IsTrue old.tells → Torn old.content at (length first + length second) new.content
  second_torn result p t = torn_both old.content p.between.content new.content at (length first) (length second) (p.first_done.torn t) (p.then.torn (p.first_done.tells ∙ t))

  both_torn : (result : Result (Unit {0}) PairFailed) → ProgramsBoth old at first second result new → IsTrue old.tells → Torn old.content at (length first + length second) new.content
  both_torn (Ok u) p t = second_torn (Ok u) p t
  both_torn (Err Second) p t = second_torn (Err Second) p t
  both_torn (Err First) p t = torn_wider old.content at (length first) (length first + length second) new.content (omega arith) (p.first_failed.torn t)

  both_tell : (result : Result (Unit {0}) PairFailed) → ProgramsBoth old at first second result new → new.tells ≡ old.tells
  both_tell (Ok u) p = p.then.tells ∙ p.first_done.tells
  both_tell (Err Second) p = p.then.tells ∙ p.first_done.tells
  both_tell (Err First) p = p.first_failed.tells

-- two programs of a page leave the other pages as they are
pub pair_keeps : (g : Geometry) (blocks start : ℕ) (old new : MediaState) (flags : List Bool) (p : ℕ) (first second : List ℕ) (result : Result (Unit {0}) PairFailed)
    → p < blocks * g.block → length first + length second ≤ g.page → start + extent g blocks ≤ length old.content → ProgramsBoth old (start + p * g.page) first second result new
    → CleanBefore g blocks start old new flags → IsTrue new.tells → AreBlank (slice_set flags p false) (blocks * g.block) (page_of new.content start g.page) g.page
pair_keeps g blocks start old new flags p first second result exists range reach both =
    program_keeps g blocks start old new flags p 0 (length first + length second) exists (omega (arith, range)) reach (both_tell old new (start + p * g.page) first second result both)
    (λ t. subst (λ (k : ℕ). Torn old.content k (length first + length second) new.content) (omega arith) (both_torn old new (start + p * g.page) first second result both t))

module _ (g : Geometry) (blocks start : ℕ) (origin : GName) (armed : Option Armed) (cuts : ℕ) (work : Work) (old : MediaState) (unarmed : armed ≡ None)
    (p : ℕ) (first second : List ℕ) (exists : p < blocks * g.block) (range : length first + length second ≤ g.page) (reach : start + extent g blocks ≤ length old.content) where
  abbrev pub before : FlashState
  before = on_medium g blocks start origin true armed cuts work old

  abbrev pub at : ℕ
  at = start + p * g.page

  abbrev pub once : Work
  once = record work { programs = next_count work.programs }

  abbrev pub twice : Work
  twice = record work { programs = next_count (next_count work.programs) }

  stays : armed ≡ armed_after armed
  stays = unarmed ∙ ap armed_after (sym unarmed)

  untorn : None ≡ torn_now armed
  untorn = ap torn_now (sym unarmed)

  -- the range begins with the page
  from_begin : (result : Result (Unit {0}) PairFailed) (new : MediaState) → Rewrites old at (length first) (left_at old at first) result new
      → Rewrites old (at + 0) (length first) (left_at old (at + 0) first) result new
  from_begin result new r = subst (λ (k : ℕ). Rewrites old k (length first) (left_at old k first) result new) (omega arith) r

  -- it fails
  pub first_fails : (new : MediaState) → FirstEnds old at first new → ProgramsPair before p first second (Err Media) (on_medium g blocks start origin true armed cuts once new)
  first_fails new ends = inr (record {
    fails = refl;
    first_failed = programs_failed g blocks start origin armed cuts work old new p 0 first None (Err First) armed once exists (omega (arith, range)) reach (from_begin (Err First) new ends.first_failed) stays untorn refl
        ends.reads.few ends.reads.none refl First refl;
  })

  module _ (new : MediaState) (result : Result (Unit {0}) PairFailed) (ends : SecondEnds old at first second result new) where
    abbrev between : MediaState
    between = ends.between

    -- the first one is done
    first_ok : ProgramsPage before p 0 first (Ok tt) (on_medium g blocks start origin true armed cuts once between)
    first_ok =
        programs_ok g blocks start origin armed cuts work old between p 0 first None (let r : Result (Unit {0}) PairFailed = Ok tt in r) armed once exists (omega (arith, range)) reach (from_begin (Ok tt) between ends.first_done) stays untorn refl
        ends.reads.few ends.reads.none refl tt refl

    within : start + extent g blocks ≤ length between.content
    within = omega (arith, reach, ends.first_done.size)

    pub both_done : (u : Unit {0}) → result ≡ Ok u → ProgramsPair before p first second (Ok u) (on_medium g blocks start origin true armed cuts twice new)
    both_done u is = inl (record {
      between = on_medium g blocks start origin true armed cuts once between;
      first_done = first_ok;
      then = programs_ok g blocks start origin armed cuts once between new p (length first) second None result armed twice exists range within ends.then stays untorn refl
          (omega (arith, ends.no_read)) (λ z. ends.no_read) refl u is;
    })

    pub second_fails : (e : PairFailed) → result ≡ Err e → ProgramsPair before p first second (Err Media) (on_medium g blocks start origin true armed cuts twice new)
    second_fails e is = inl (record {
      between = on_medium g blocks start origin true armed cuts once between;
      first_done = first_ok;
      then = programs_failed g blocks start origin armed cuts once between new p (length first) second None result armed twice exists range within ends.then stays untorn refl
          (omega (arith, ends.no_read)) (λ z. ends.no_read) refl e is;
    })
