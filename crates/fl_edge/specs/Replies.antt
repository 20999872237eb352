-- Replies on their way to a writer.
use Rattle.std.specs.Prelude.{ℕ, List, Option}
use Rattle.std.specs.Io.KnownBytes.{append_known}

-- what the writer took, where it tells that, what is held back behind it, and how often a call failed
pub record Replies : Type 0 where
  pub handed : Option (List ℕ)
  pub held : List ℕ
  pub faults : ℕ

-- all that was written
abbrev pub written_of : Replies → Option (List ℕ)
written_of r = append_known r.handed r.held
