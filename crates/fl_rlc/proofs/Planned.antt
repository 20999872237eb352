-- What a log that isn't refused is beside its table, and what that table is refused for.
use Rattle.std.specs.Prelude.{◌⊎◌, IfErr, IsErrAnd}
use Rattle.std.proofs.Common.{◌≡◌, Result, Ok, Err, subst, Bool, true, false, nat_lt, ◌||◌, is_some, Option, Some, None, refl, sym, ◌∙◌, ap, arith, ◌≤◌}
use Rattle.fl_base.specs.declared.types.RingPlace.{RingPlace}
use Rattle.std.proofs.lemmas.Bool.{ltb-false}
use Rattle.fl_plan.specs.Plan.{blocks_in}
use Rattle.fl_plan.specs.Refusal.{is_bad_ring, config_fault, config_fault_with, Tells}
use Rattle.fl_plan.specs.declared.refusal.ConfigRefusal.{ConfigRefusal}
use Rattle.fl_plan.specs.declared.refusal.ConfigRefusal.TheVariants.{NoMemory}
use Rattle.fl_plan.specs.declared.table_config.TableConfig.{TableConfig}
use Rattle.fl_plan.proofs.Fits.{RingsFit, rings-fit, alone-fits}
use Rattle.fl_words.specs.Config.{ConfigFault}

-- the last tests of a log that is there
pub logged-fits : (log : Option RingPlace) (config : TableConfig) (place : RingPlace) → log ≡ Some place → config_fault_with log config ≡ None → RingsFit (Some place) config
logged-fits log config place is fits = rings-fit (Some place) config (ap (λ (o : Option RingPlace). config_fault_with o config) (sym is) ∙ fits)

abbrev IsRefusal : Option ConfigFault → ConfigRefusal → Type 0
IsRefusal fault refusal = ((refusal ≡ NoMemory) × (fault ≡ None)) ⊎ Tells {A = Unit {0}} (Err refusal) fault

-- a table that isn't refused with its log is refused by itself for memory alone
pub table-refused : {A : Type 0} (result : Result A ConfigRefusal) (refusal : ConfigRefusal) (log : Option RingPlace) (config : TableConfig) → IsErrAnd result (λ other. other ≡ refusal) →
    config_fault_with log config ≡ None → IsRefusal (config_fault config) refusal → IfErr result (λ other. IsRefusal (config_fault_with log config) other)
table-refused (Ok value) refusal log config is fits refused = absurd is
table-refused (Err other) refusal log config is fits refused =
    subst (λ (fault : Option ConfigFault). IsRefusal fault other) (alone-fits log config fits ∙ sym fits) (subst (λ (r : ConfigRefusal). IsRefusal (config_fault config) r) (sym is) refused)

-- a ring that isn't bad has three blocks
pub three-blocks : (place : RingPlace) → is_bad_ring (Some place) ≡ false → 3 ≤ place.blocks
three-blocks place e = by-tests (nat_lt place.blocks 3) refl e
  where
    by-tests : (b : Bool) → nat_lt place.blocks 3 ≡ b → (b || nat_lt 16384 place.blocks) ≡ false → 3 ≤ place.blocks
    by-tests true k e = cc
    by-tests false k e = let n = ltb-false place.blocks 3 k in omega (arith, n)

-- where there is no ring of variable data, it has no block
pub few-var : (o : Option RingPlace) → is_some o ≡ false → nat_lt 0 (blocks_in o) ≡ false
few-var None e = refl
few-var (Some place) e = cc
