-- Lines that are listed one after another.
use Rattle.std.proofs.Common.{◌≡◌, ℕ, List, [], ◌∷◌, ◌++◌, length, sym, ◌∙◌, ap, append_assoc, length-append, arith, Err}
use Rattle.fl_ops.specs.Inputs.{StepsOver}
use Rattle.fl_page.specs.declared.fault.ReadFault.{ReadFault}
use Rattle.fl_page.specs.declared.fault.ReadFault.TheVariants.{Flash, BadPage}
use Rattle.fl_words.specs.Reply.{Reply}
use Rattle.fl_queries.specs.Lines.{AreMade, IsNoBadPage}
use Rattle.fl_queries.specs.declared.listing.ListFault.TheVariants.{Read}

-- this is said of the lines so far, and where all are told these are left behind them
pub record SoFar (Made : List Reply → Type 0) (Told : Type 0) (all left lines : List Reply) : Type 0 where
  pub made : Made lines
  pub behind : Told → lines ++ left ≡ all

-- .. of which something else is said
pub made-as : (Was Made : List Reply → Type 0) (Told : Type 0) (all left lines : List Reply) → SoFar Was Told all left lines → Made lines → AreMade Made Told all lines
made-as Was Made Told all left lines h is = record { made = is; front = λ t. (left, h.behind t) }

-- the present one is behind them
pub one-behind : (lines left after all : List Reply) (line : Reply) → lines ++ left ≡ all → left ≡ line ∷ after → (lines ++ line ∷ []) ++ after ≡ all
one-behind lines left after all line behind first = append_assoc lines (line ∷ []) after ∙ (ap (λ (l : List Reply). lines ++ l) (sym first) ∙ behind)

-- none is left behind so many
pub none-behind : (lines left all : List Reply) (count : ℕ) → lines ++ left ≡ all → left ≡ [] → length lines ≡ count → length all ≡ count
none-behind lines left all count behind none many =
    omega (arith, ap (λ (l : List Reply). length l) behind, ap (λ (l : List Reply). length l) none, length-append lines left, many)

-- a step over lines that are told meets no bad page
pub no-bad : (fault : ReadFault) (left after : List Reply) (line : Reply) → StepsOver (Err fault) left line after → IsNoBadPage (Read fault)
no-bad (Flash fault) left after line step = tt
no-bad (BadPage bad) left after line step = step
