-- What came of taking a lock.
use Rattle.std.specs.Prelude.{Bool, true, false, Result, Ok, Err}
use Rattle.std.specs.declared.fs.locks.TryLockError.{TryLockError}
use Rattle.std.specs.declared.fs.locks.TryLockError.TheVariants.{Error, WouldBlock}

-- whether another open of the file holds it
abbrev pub is_held : Result (Unit {0}) TryLockError → Bool
is_held (Ok _) = false
is_held (Err (Error _)) = false
is_held (Err WouldBlock) = true
