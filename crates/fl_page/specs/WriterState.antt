-- What contracts see of a page writer.
use Rattle.std.specs.Prelude.{ℕ, List}

-- the bytes of the body, how many rows there are, and where they end
pub record WriterState : Type 0 where
  pub body : List ℕ
  pub count : ℕ
  pub end : ℕ
