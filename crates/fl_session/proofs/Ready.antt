-- The states for which a medium stands are states between two runs.
use Rattle.std.proofs.Common.{◌≡◌, ℕ, ◌+◌, ◌<◌, ◌≤◌, ◌⊎◌, inl, inr, IsTrue, Option, Some, List, [], ◌∷◌, length, map, refl, sym, ◌∙◌, ap, subst, arith, IfSome, MatchOption, option_map, slice_get}
use Rattle.std.specs.List.{AllByRecursion}
use Rattle.std.proofs.lemmas.Bool.{cases_lt}
use Rattle.std.proofs.lemmas.List.{length-map}
use Rattle.std.proofs.lemmas.Option.{slice_get-map, slice_get_past}
use Rattle.fl_model.specs.Record.{Plan, Config, has_log}
use Rattle.fl_model.specs.Table.{Table, fresh_table, lose}
use Rattle.fl_model.specs.Facts.{IsSettled}
use Rattle.fl_model.specs.Image.{AreTableImages}
use Rattle.fl_model.proofs.Fresh.{new-stand}
use Rattle.fl_model.proofs.Lists.{slice_get-some}
use Rattle.fl_model.proofs.TableImages.{images-at, images-many}
use Rattle.fl_words.specs.Medium.{IsImage}
use Rattle.fl_machine.specs.Machine.{Machine, begins, fresh_tables}
use Rattle.fl_machine.specs.Found.{IsAtRest, IsLoggedAtRest, RestsAt}
use Rattle.fl_machine.specs.OpenCursors.{AreWithin}
use Rattle.fl_machine.proofs.OpenCursors.{none-within}
use Rattle.fl_machine.proofs.Steps.{rests-settled, rests-logged}
use Rattle.fl_machine.specs.Script.{Start, Ready, StandsFor, StandsAfter}
use Rattle.fl_machine.proofs.Accepted.{IsAccepted, StartIsAccepted}
use Rattle.fl_store.proofs.TablesChanged.{some-is}
use Rattle.fl_session.specs.Execute.{IsReady, StandsAlike}

fresh-rest : (plans : List Plan) → AllByRecursion IsAtRest (map fresh_table plans)
fresh-rest [] = tt
fresh-rest (plan ∷ plans) = (record { pending = refl; numbered = omega arith }, fresh-rest plans)

images-rest : (config : Config) (bytes : List ℕ) (place : ℕ) (plans : List Plan) (tables : List Table) → AreTableImages config bytes place plans tables → AllByRecursion IsAtRest tables
images-rest config bytes place [] [] h = tt
images-rest config bytes place [] (table ∷ tables) h = absurd h
images-rest config bytes place (plan ∷ plans) [] h = absurd h
images-rest config bytes place (plan ∷ plans) (table ∷ tables) h = (rests-settled plan table h.0.settled, images-rest config bytes (place + 1) plans tables h.1)

-- each table is settled by its plan
abbrev AreSettled : List Plan → List Table → Type 0
AreSettled plans tables =
    (length tables ≡ length plans) × ((i : ℕ) (plan : Plan) (table : Table) → slice_get plans i ≡ Some plan → slice_get tables i ≡ Some table → IsSettled plan table)

settled-rests : (config : Config) (tables : List Table) → AreSettled config.plans tables → (place : ℕ) → RestsAt config place tables
settled-rests config tables h place = by_place (cases_lt place (length config.plans))
  where
    by_place : (place < length config.plans) ⊎ (length config.plans ≤ place) → RestsAt config place tables
    by_place (inl lt) =
        let plan = slice_get-some config.plans place lt in
        let table = slice_get-some tables place (omega (arith, lt, h.0)) in
        subst (λ (o : Option Plan). IfSome o (λ plan. IsTrue (has_log plan) → MatchOption (slice_get tables place) ⊥ IsLoggedAtRest)) (sym plan.1)
        (λ logged. subst (λ (o : Option Table). MatchOption o ⊥ IsLoggedAtRest) (sym table.1) (rests-logged plan.0 table.0 logged (h.1 place plan.0 table.0 plan.1 table.1)))
    by_place (inr ge) = subst (λ (o : Option Plan). IfSome o (λ plan. IsTrue (has_log plan) → MatchOption (slice_get tables place) ⊥ IsLoggedAtRest)) (sym (slice_get_past config.plans place ge)) tt

fresh-settled : (plans : List Plan) → AreSettled plans (map fresh_table plans)
fresh-settled plans = (
  length-map plans fresh_table,
  λ i plan table p t.
      let is : fresh_table plan ≡ table = some-is (slice_get (map fresh_table plans) i) (fresh_table plan) table (slice_get-map fresh_table plans i ∙ ap (option_map fresh_table) p) t in
      subst (IsSettled plan) is (new-stand plan),
)

images-settled : (config : Config) (bytes : List ℕ) (tables : List Table) → AreTableImages config bytes 0 config.plans tables → AreSettled config.plans tables
images-settled config bytes tables h =
    (images-many config bytes 0 config.plans tables h, λ i plan table p t. (images-at config bytes 0 config.plans tables h i plan table p t).settled)

begins-ready : (config : Config) (tables : List Table) (machine : Machine) → IsAccepted config → AllByRecursion IsAtRest tables → AreSettled config.plans tables → machine ≡ begins tables → IsReady config machine
begins-ready config tables machine accepted rest settled e = record {
  cursors = subst (λ (m : Machine). AreWithin m.cursors) (sym e) none-within;
  room = accepted.room;
  small = accepted.small;
  off = ap (λ (m : Machine). m.mounted) e;
  rest = subst (λ (m : Machine). AllByRecursion IsAtRest m.tables) (sym e) rest;
  logs = subst (λ (m : Machine). (place : ℕ) → RestsAt config place m.tables) (sym e) (settled-rests config tables settled);
}

pub stands-ready : (config : Config) (bytes : List ℕ) (machine : Machine) → IsAccepted config → StandsFor config bytes machine → IsReady config machine
stands-ready config bytes machine accepted (inl h) = begins-ready config (fresh_tables config) machine accepted (fresh-rest config.plans) (fresh-settled config.plans) h.1
stands-ready config bytes machine accepted (inr h) = begins-ready config h.0 machine accepted (images-rest config bytes 0 config.plans h.0 h.1.tables_are) (images-settled config bytes h.0 h.1.tables_are) h.2

-- a configuration that is accepted
pub ready-accepted : (config : Config) (n : ℕ) (lines : List (List ℕ)) (start : Start) → StartIsAccepted start → start ≡ Ready config n lines → IsAccepted config
ready-accepted config n lines start h e = subst StartIsAccepted e h

-- the medium stands for a state whatever its cursors and its cost
pub after-alike : (config : Config) (content : Option (List ℕ)) (stands : Machine → Type 0) → ((m : Machine) → stands m → StandsAfter config content m) → (m : Machine) → StandsAlike stands m → StandsAfter config content m
after-alike config content stands f m h =
    subst (λ ts. IfSome content (λ bytes. IsImage config bytes (map lose ts))) h.2.tables (f h.0 h.1)
