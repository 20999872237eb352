-- Some work on a table that goes on, while no cut is armed: it is done, or an operation failed.
use Rattle.std.proofs.Common.{◌≡◌, ℕ, Bool, true, IsTrue, refl, sym, subst}
use Rattle.fl_flash.specs.Flash.{FlashState, Goes}
use Rattle.fl_flash.specs.declared.flash.FlashFault.{FlashFault}
use Rattle.fl_flash.specs.declared.flash.FlashFault.TheVariants.{PowerLost}
use Rattle.fl_model.specs.Record.{Plan}
use Rattle.fl_model.specs.Table as model
use Rattle.fl_model.specs.Table.{lose}
use Rattle.fl_model.specs.Work as work
use Rattle.fl_model.specs.Work.{PartEnd, Whole, CutIn, FailedIn, PartProgress}
use Rattle.fl_frame.specs.Watched.{IsWatched}
use Rattle.fl_rlc.specs.Logged.{Rests}
use Rattle.fl_rlc.specs.Outcomes.{Finishes, Breaks}
use Rattle.fl_rlc.specs.declared.table.LoggedTable.{LoggedTable}
use Rattle.fl_parts.specs.Failing.{FaultEnds}
use Rattle.fl_store.specs.Works.{FailsIn, Works}
use Rattle.fl_store.proofs.Failing.{IsWork}
use Rattle.fl_store.proofs.Risen.{has_risen, watched}

module _ (first : ℕ) (plan : Plan) (table : model.Table) (t u : LoggedTable 64 64) (f g : FlashState) (works : Works t f first plan table) where
  pub works-watched : IsWatched f g (has_risen f g) works.device
  works-watched = watched f g works.device works.told works.power works.counts

  -- some work was done on the table
  module _ (Did : Bool → work.Device → PartProgress model.Table → Type 0) (calm : IsWork Did) where
    pub works-done : Goes f g → (after : model.Table) → Finishes first plan (Did (has_risen f g) works.device) table after u f g → Works u g first plan after
    works-done goes after fin = record {
      stands = fin.stands;
      told = subst IsTrue (sym goes.tells) works.told;
      power = fin.power;
      device = fin.now.device;
      counts = fin.counts;
      unarmed = (calm (has_risen f g) works.device fin.now works.unarmed fin.did).unarmed fin.whole;
    }

    -- .. or an operation failed
    pub record IsBroken : Type 0 where
      pub after : model.Table
      pub fails : FailsIn (Did true) after
      pub rests : Rests g first plan (lose after)

    pub works-broken : (fault : FlashFault) → Breaks first plan (Did (has_risen f g) works.device) fault g → IsBroken
    works-broken fault b =
        let bad : b.now.end ≡ Whole → ⊥ = λ e. subst (λ (x : PartEnd model.Table). FaultEnds x fault g) e b.answer in
        record {
          after = b.now.state;
          fails = record { device = works.device; unarmed = works.unarmed; now = b.now; did = (calm (has_risen f g) works.device b.now works.unarmed b.did).did; failed = bad; left_is = refl };
          rests = b.rests;
        }

    -- no cut is armed, so that none falls into it
    pub works-uncut : Breaks first plan (Did (has_risen f g) works.device) PowerLost g → ⊥
    works-uncut b = by-end b.now.end refl b.answer
      where
        by-end : (end : PartEnd model.Table) → b.now.end ≡ end → FaultEnds end PowerLost g → ⊥
        by-end Whole is answer = answer
        by-end (CutIn before) is answer = (calm (has_risen f g) works.device b.now works.unarmed b.did).uncut before is
        by-end (FailedIn before) is answer = cc answer.0
