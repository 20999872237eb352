-- What stands behind the front of a line that is too long is left.
use Rattle.std.proofs.Common.{◌≡◌, ℕ, ◌-◌, ◌≤◌, false, Option, Some, List, ◌++◌, length, sym, ap, subst, arith}
use Rattle.fl_lines.specs.Stream.{LinesState, LeavesRest, after_rest}

pub leaves-rest : (rest left : List ℕ) (most : ℕ) (mid new : LinesState) (left_now : Option (List ℕ)) → new ≡ after_rest mid → mid.closed ≡ false → mid.most ≡ most → length mid.ahead ≤ mid.most → left_now ≡ Some left → rest ≡ mid.ahead ++ left → LeavesRest most rest new left_now
leaves-rest rest left most mid new left_now is is_open same few told split =
    subst (λ s. LeavesRest most rest s left_now) (sym is)
    (record { left = left; left_is = told; split = split; fits = omega (arith, few, same); most_now = ap (λ n. n - length mid.ahead) same; open_now = is_open })
