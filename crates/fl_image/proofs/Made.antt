-- The configuration that whole lines make, and its parts.
use Rattle.std.proofs.Common.{◌≡◌, ℕ, IsTrue, Option, Some, None, List, [], ◌∷◌, refl, sym, ◌∙◌, ap, rules}
use Rattle.fl_base.specs.declared.types.Geometry.{Geometry}
use Rattle.fl_model.specs.Record.{Plan, Config}
use Rattle.fl_words.specs.Config.{Lines, whole, whole_of}
use Rattle.fl_config.specs.Whole.{is_whole, is_whole_of, Makes}

whole-cases : (knots : ℕ) (device : Option Geometry) (plans : List Plan) → IsTrue (is_whole_of device plans) → (config : Config) × (whole_of knots device plans ≡ Some config)
whole-cases knots None plans is = absurd (search (rules, is))
whole-cases knots (Some geometry) [] is = absurd (search (rules, is))
whole-cases knots (Some geometry) (plan ∷ plans) is = (record { geometry = geometry; plans = plan ∷ plans; knots = knots }, refl)

pub whole-of : (knots : ℕ) (lines : Lines) → IsTrue (is_whole lines) → (config : Config) × (whole knots lines ≡ Some config)
whole-of knots lines is = whole-cases knots lines.device lines.plans is

-- ---- the parts of what lines make

pub record HasMade (device : Option Geometry) (plans : List Plan) (config : Config) : Type 0 where
  pub device_is : device ≡ Some config.geometry
  pub plans_are : plans ≡ config.plans
  pub whole : IsTrue (is_whole_of device plans)

has-made : (knots : ℕ) (device : Option Geometry) (plans : List Plan) (config : Config) → whole_of knots device plans ≡ Some config → HasMade device plans config × (config.knots ≡ knots)
has-made knots None plans config e = cc
has-made knots (Some geometry) [] config e = cc
has-made knots (Some geometry) (plan ∷ plans) config e =
    let same = some e in (
      record { device_is = ap (λ (c : Config). Some c.geometry) same; plans_are = ap (λ (c : Config). c.plans) same; whole = refl },
      ap (λ (c : Config). c.knots) (sym same),
    )
  where
    some : ◌≡◌ {A = Option Config} (Some (record { geometry = geometry; plans = plan ∷ plans; knots = knots })) (Some config) → record { geometry = geometry; plans = plan ∷ plans; knots = knots } ≡ config
    some q = cc

pub made-by : (lines : Lines) (config : Config) → Makes lines config → HasMade lines.device lines.plans config
made-by lines config e = (has-made config.knots lines.device lines.plans config e).0

-- ---- whatever knots it says

pub knots-of : (knots : ℕ) (lines : Lines) (config : Config) → whole knots lines ≡ Some config → config.knots ≡ knots
knots-of knots lines config e = (has-made knots lines.device lines.plans config e).1

pub makes-of : (knots : ℕ) (lines : Lines) (config : Config) → whole knots lines ≡ Some config → Makes lines config
makes-of knots lines config e = ap (λ n. whole n lines) (knots-of knots lines config e) ∙ e

pub made : (lines : Lines) → IsTrue (is_whole lines) → (config : Config) × Makes lines config
made lines is = let w = whole-of 0 lines is in (w.0, makes-of 0 lines w.0 w.1)
