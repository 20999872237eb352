-- What a read of a flash on a medium does, whose power is on.
use Rattle.std.proofs.Common.{◌≡◌, ℕ, ◌+◌, ◌*◌, true, true≢false, List, length, take, drop, slice_range, Option, None, Some, Result, Ok, Err, OnOk, OnErr, refl, ◌∙◌, ap, subst, arith}
use base.Fml.{GName}
use Rattle.fl_base.specs.Causes.{Rose}
use Rattle.fl_base.specs.declared.types.Geometry.{Geometry}
use Rattle.fl_flash.specs.declared.armed.Armed.{Armed}
use Rattle.fl_flash.specs.declared.flash.Work.{Work}
use Rattle.fl_flash.specs.declared.flash.FlashFault.TheVariants.{Media}
use Rattle.fl_flash.specs.Buffer.{BufferState}
use Rattle.fl_flash.specs.Flash.{FlashState, Goes, ReadsPage}
use Rattle.fl_flash.specs.Media.{MediaState, ReadAt, next_count}
use Rattle.fl_flash.specs.Places.{extent}
use Rattle.fl_flash.specs.Sim.{on_medium}
use Rattle.fl_flash.proofs.Counts.{counted-read}

module _ {E : Type 0} (g : Geometry) (blocks start : ℕ) (origin : GName) (armed : Option Armed) (cuts : ℕ) (work work' : Work) (old new : MediaState) (p size : ℕ) (into : BufferState) (result : Result (Unit {0}) E)
    (counts : work' ≡ record work { reads = next_count work.reads }) (read : ReadAt old (start + p * g.page) result into.bytes new) (same : length into.bytes ≡ size) (room : size ≡ g.page) where
  abbrev before : FlashState
  before = on_medium g blocks start origin true armed cuts work old

  abbrev after : FlashState
  after = on_medium g blocks start origin true armed cuts work' new

  goes_read : Goes before after
  goes_read = record {
    geometry = refl;
    blocks = refl;
    start = refl;
    origin = refl;
    tells = read.tells;
    size = ap length read.content;
    front = λ told. ap (λ (l : List ℕ). take start l) read.content;
    back = λ told. ap (λ (l : List ℕ). drop (start + extent g blocks) l) read.content;
    cuts = omega arith;
    faults = read.cause.later;
    power = λ none. record { unarmed = none; on = λ on. on; cuts = refl };
    counted = counted-read before after counts read.reads;
  }

  pub reads_ok : (u : Unit {0}) → result ≡ Ok u → into.holds ≡ Some p → ReadsPage before p size (Ok u) into after
  reads_ok u done holds = record {
    goes = goes_read;
    same = read.content;
    size_stays = same;
    bytes = λ told. subst (λ (r : Result (Unit {0}) E). OnOk r (into.bytes ≡ slice_range old.content (start + p * g.page) (start + p * g.page + length into.bytes))) done (read.bytes told)
        ∙ ap (λ (n : ℕ). slice_range old.content (start + p * g.page) (start + p * g.page + n)) (same ∙ room);
    holds = holds;
    none = tt;
    off = λ off. absurd (true≢false off);
    counted = λ on. counts;
    one_read = λ on. read.reads;
    armed = refl;
    power = refl;
    cuts = refl;
    never_lost = λ on lost. absurd (cc lost);
    cause = record { power = λ lost. absurd cc; media = λ failed. absurd cc; on = refl };
  }

  pub reads_failed : (e : E) → result ≡ Err e → into.holds ≡ None → ReadsPage before p size (Err Media) into after
  reads_failed e failed none = record {
    goes = goes_read;
    same = read.content;
    size_stays = same;
    bytes = λ told. tt;
    holds = tt;
    none = none;
    off = λ off. absurd (true≢false off);
    counted = λ on. counts;
    one_read = λ on. read.reads;
    armed = refl;
    power = refl;
    cuts = refl;
    never_lost = λ on lost. absurd (cc lost);
    cause = record { power = λ lost. absurd cc; media = λ e. subst (λ (r : Result (Unit {0}) E). OnErr r (Rose old.faults new.faults)) failed read.cause.failed; on = tt };
  }
