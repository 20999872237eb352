-- A reply that is kept, and how often more came than there is room for.
use Rattle.std.specs.Prelude.{◌≡◌, ℕ, ◌<◌, List, length}

pub record Kept : Type 0 where
  pub text : List ℕ
  pub faults : ℕ

-- it has failed only if it is full
abbrev pub IsFullOnFault : Kept → Type 0
IsFullOnFault kept = 0 < kept.faults → length kept.text ≡ 512
