-- What the calls of a flash do that find its power off: nothing.
use Rattle.std.proofs.Common.{◌≡◌, ℕ, true, false, true≢false, List, length, None, Err, inl, refl, sym, ◌∙◌, arith}
use Rattle.fl_flash.specs.declared.flash.FlashFault.TheVariants.{PowerLost}
use Rattle.fl_flash.specs.Buffer.{BufferState}
use Rattle.fl_flash.specs.Flash.{FlashState, Goes, HasFlashCause, ReadsPage, ProgramsPage, ErasesBlock}
use Rattle.fl_flash.proofs.Counts.{counted-same}

-- nothing was done
pub goes-same : (f : FlashState) → Goes f f
goes-same f = record {
  geometry = refl;
  blocks = refl;
  start = refl;
  origin = refl;
  tells = refl;
  size = refl;
  front = λ told. refl;
  back = λ told. refl;
  cuts = omega arith;
  faults = omega arith;
  power = λ none. record { unarmed = none; on = λ on. on; cuts = refl };
  counted = counted-same f f refl refl;
}

module _ (f : FlashState) (off : f.is_on ≡ false) where
  never_on : f.is_on ≡ true → ⊥
  never_on on = true≢false (sym on ∙ off)

  cause_off : HasFlashCause {T = Unit {0}} f (Err PowerLost) f
  cause_off = record { power = λ e. inl off; media = λ e. absurd cc; on = tt }

  pub read_off : (p size : ℕ) (into : BufferState) → length into.bytes ≡ size → into.holds ≡ None → ReadsPage f p size (Err PowerLost) into f
  read_off p size into same none = record {
    goes = goes-same f;
    same = refl;
    size_stays = same;
    bytes = λ told. tt;
    holds = tt;
    none = none;
    off = λ e. (refl, refl);
    counted = λ on. absurd (never_on on);
    one_read = λ on. absurd (never_on on);
    armed = refl;
    power = refl;
    cuts = refl;
    never_lost = λ on lost. never_on on;
    cause = cause_off;
  }

  pub program_off : (p at : ℕ) (from : List ℕ) → ProgramsPage f p at from (Err PowerLost) f
  program_off p at from = record {
    goes = goes-same f;
    ok = λ told. tt;
    err = λ told. record { here = record { before = refl; after = refl; size = refl }; others = λ q ne. refl };
    off = λ e. (refl, refl);
    counted = λ on. absurd (never_on on);
    few_reads = omega arith;
    zeros = λ none. refl;
    cut = λ on. absurd (never_on on);
    cause = cause_off;
  }

  pub erase_off : (b : ℕ) → ErasesBlock f b (Err PowerLost) f
  erase_off b = record {
    goes = goes-same f;
    ok = λ told. tt;
    err = λ told. record { sizes = λ i lt. refl; below = λ q lt. refl; above = λ q le. refl };
    off = λ e. (refl, refl);
    counted = λ on. absurd (never_on on);
    no_reads = refl;
    cut = λ on. absurd (never_on on);
    cause = cause_off;
  }
