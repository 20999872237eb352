-- Three texts that are written to a sink one after another.
use Rattle.std.proofs.Common.{ℕ, Option, Result, List, ◌++◌}
use Rattle.fl_base.specs.Causes.{Appends, AppendsFront}
use Rattle.fl_base.proofs.Appended.{appends-append, front-more, front-behind}
use Rattle.fl_script.specs.Written.{Written}
use Rattle.fl_script.proofs.SinkPieces.{written-behind}

-- the first wasn't written whole
pub first-failed : (before now : Option (List ℕ)) (first second third : List ℕ) → AppendsFront before now first → AppendsFront before now (first ++ second ++ third)
first-failed before now first second third wrote = front-more before now (first ++ second) third (front-more before now first second wrote)

-- .. or the second
pub second-failed : (before mid now : Option (List ℕ)) (first second third : List ℕ) → Appends before mid first → AppendsFront mid now second → AppendsFront before now (first ++ second ++ third)
second-failed before mid now first second third done wrote = front-more before now (first ++ second) third (front-behind before mid now first second done wrote)

-- .. or all but perhaps the third
pub third-written : {E : Type 0} (before mid later now : Option (List ℕ)) (first second third : List ℕ) (result : Result (Unit {0}) E) →
    Appends before mid first → Appends mid later second → Written later now result third → Written before now result (first ++ second ++ third)
third-written before mid later now first second third result one two wrote = written-behind before later now (first ++ second) third result (appends-append before mid later first second one two) wrote
