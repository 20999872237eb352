-- Headlines are lines.
use Rattle.std.proofs.Common.{◌≡◌, ◌+◌, ℕ, zero, suc, ◌/◌, ◌%◌, nat_lt, ◌==◌, ne_eqb, Bool, true, false, if◌then◌else◌, Option, List, [], ◌∷◌, ◌++◌, codes, decimal, refl, arith}
use Rattle.std.specs.Fmt.{digit_glyph, digits, digits_onto}
use Rattle.fl_image.specs.Number as job_number
use Rattle.fl_image.specs.declared.status.ToolStatus.{ToolStatus}
use Rattle.fl_image.specs.declared.status.ToolStatus.TheVariants as job
use Rattle.fl_salvage.specs.declared.passed_over.PassedOver.{PassedOver}
use Rattle.fl_ship.specs.Number as ship_number
use Rattle.fl_ship.specs.declared.status.ShipStatus.{ShipStatus}
use Rattle.fl_ship.specs.declared.status.ShipStatus.TheVariants as ship
use Rattle.fl_sizing.specs.Number as plan_number
use Rattle.fl_sizing.specs.declared.end.PlanStatus.{PlanStatus}
use Rattle.fl_sizing.specs.declared.end.PlanStatus.TheVariants as plan
use Rattle.fl_ends.specs.RunNumber as run_number
use Rattle.fl_ends.specs.declared.run.Status.{Status}
use Rattle.fl_ends.specs.declared.run.Status.TheVariants as run
use Rattle.fl_ends.specs.ShellNumber as shell_number
use Rattle.fl_ends.specs.declared.shell.Flushed.{Flushed}
use Rattle.fl_ends.specs.declared.shell.ShellStatus.{ShellStatus}
use Rattle.fl_ends.specs.declared.shell.ShellStatus.TheVariants as shell
use Rattle.fl_command.specs.Line.{FailuresHaveOneLine, is_line}
use Rattle.fl_command.specs.Text.{plan_headline, run_headline, salvage_status_headline, shell_status_headline, ship_headline, status_headline}
use Rattle.fl_command.specs.declared.exit.Exit.TheVariants.{Run, Shell, Plan, Job, Salvage, Ship, Words, Help, InUse, CopyInUse, CopyIsImage}

-- either of two texts
either : (b : Bool) (xs ys : List ℕ) → is_line xs ≡ true → is_line ys ≡ true → is_line (if b then xs else ys) ≡ true
either true xs ys p q = p
either false xs ys p q = q

-- no digit is a newline
behind-byte : (byte : ℕ) (text : List ℕ) → (byte ≡ 10 → ⊥) → is_line text ≡ true → is_line (byte ∷ text) ≡ true
behind-byte byte text other line = rw (ne_eqb byte 10 other) line

glyph-other : (d : ℕ) → digit_glyph false d ≡ 10 → ⊥
glyph-other d is = by (nat_lt d 10) is
  where
    by : (small : Bool) → (if small then 48 + d else 87 + d) ≡ 10 → ⊥
    by true e = omega (arith, e)
    by false e = omega (arith, e)

behind-digits : (k n : ℕ) (front text : List ℕ) → is_line (front ++ text) ≡ true → is_line (digits_onto k 10 false n front ++ text) ≡ true
behind-digits zero n front text line = line
behind-digits (suc k) n front text line =
    let more = behind-byte (digit_glyph false (n % 10)) (front ++ text) (glyph-other (n % 10)) line in
    by (n / 10 == 0) more (behind-digits k (n / 10) (digit_glyph false (n % 10) ∷ front) text more)
  where
    by : (b : Bool) → is_line ((digit_glyph false (n % 10) ∷ front) ++ text) ≡ true → is_line (digits_onto k 10 false (n / 10) (digit_glyph false (n % 10) ∷ front) ++ text) ≡ true
        → is_line ((if b then digit_glyph false (n % 10) ∷ front else digits_onto k 10 false (n / 10) (digit_glyph false (n % 10) ∷ front)) ++ text) ≡ true
    by true p q = p
    by false p q = q

behind-number : (n : ℕ) (text : List ℕ) → is_line text ≡ true → is_line (decimal n ++ text) ≡ true
unfolding digits
behind-number n text line = behind-digits 64 n [] text line

run-line : (status : Status) → (run_number.number_of status ≡ 0 → ⊥) → is_line (run_headline status) ≡ true
run-line (run.Done pending) failed = absurd (failed refl)
run-line run.Usage failed = refl
run-line (run.Line n) failed = behind-number n (codes " is not a command\n") refl
run-line run.ScriptRead failed = refl
run-line run.OutWrite failed = refl
run-line run.MediaMake failed = refl
run-line (run.Config n) failed = either (n == 0) _ _ refl (behind-number n (codes " is refused\n") refl)
run-line (run.OtherConfig wanted found at) failed = refl
run-line run.ScriptLong failed = refl
run-line run.NoMemory failed = refl

plan-line : (status : PlanStatus) → (plan_number.number_of status ≡ 0 → ⊥) → is_line (plan_headline status) ≡ true
plan-line plan.Done failed = absurd (failed refl)
plan-line (plan.Line n) failed = run-line (run.Line n) failed
plan-line (plan.Config n) failed = run-line (run.Config n) failed
plan-line plan.InputRead failed = refl
plan-line plan.OutWrite failed = refl
plan-line plan.InputLong failed = refl
plan-line plan.NoMemory failed = refl

numbered : (n : ℕ) → is_line (codes "flashts: status " ++ decimal n ++ codes "\n") ≡ true
numbered n = behind-number n (codes "\n") refl

status-line : (status : ToolStatus) (kept : Option ℕ) → (job_number.number_of status ≡ 0 → ⊥) → is_line (status_headline status kept) ≡ true
status-line job.Done kept failed = absurd (failed refl)
status-line job.InputRead kept failed = refl
status-line job.OutWrite kept failed = refl
status-line job.InputLong kept failed = refl
status-line job.NoMemory kept failed = refl
status-line job.NotImage kept failed = numbered 11
status-line job.Device kept failed = numbered 12
status-line (job.BadImage table) kept failed = numbered 13
status-line job.NoTable kept failed = numbered 14
status-line (job.BadInput line) kept failed = numbered 15
status-line job.Unsound kept failed = numbered 16

shell-line : (status : ShellStatus) (flushed : Flushed) → (shell_number.number_of status ≡ 0 → ⊥) → is_line (shell_status_headline status flushed) ≡ true
shell-line shell.Done flushed failed = absurd (failed refl)
shell-line shell.InputRead flushed failed = refl
shell-line shell.OutWrite flushed failed = refl
shell-line shell.MediaMake flushed failed = refl
shell-line shell.Unconfigured flushed failed = refl
shell-line shell.InputLong flushed failed = refl
shell-line shell.NoMemory flushed failed = refl
shell-line shell.NotImage flushed failed = numbered 11
shell-line shell.Unflushed flushed failed = refl

salvage-line : (status : ToolStatus) (passed : PassedOver) → (job_number.number_of status ≡ 0 → ⊥) → is_line (salvage_status_headline status passed) ≡ true
salvage-line job.Done passed failed = absurd (failed refl)
salvage-line job.InputRead passed failed = refl
salvage-line job.OutWrite passed failed = refl
salvage-line job.InputLong passed failed = refl
salvage-line job.NoMemory passed failed = refl
salvage-line job.NotImage passed failed = numbered 11
salvage-line job.Device passed failed = numbered 12
salvage-line (job.BadImage table) passed failed = numbered 13
salvage-line job.NoTable passed failed = numbered 14
salvage-line (job.BadInput line) passed failed = numbered 15
salvage-line job.Unsound passed failed = numbered 16

ship-line : (status : ShipStatus) → (ship_number.number_of status ≡ 0 → ⊥) → is_line (ship_headline status) ≡ true
ship-line (ship.Done shipped) failed = absurd (failed refl)
ship-line ship.OutWrite failed = refl
ship-line ship.NoMemory failed = refl
ship-line (ship.NotImage side) failed = numbered 11
ship-line (ship.Device side) failed = numbered 12
ship-line (ship.BadImage side table) failed = numbered 13
ship-line ship.NoTable failed = numbered 14
ship-line (ship.Gap last oldest) failed = numbered 17
ship-line ship.OtherForm failed = numbered 18
ship-line ship.Spent failed = numbered 19

pub exit-line : FailuresHaveOneLine
exit-line (Run status) failed = run-line status failed
exit-line (Shell end) failed = shell-line end.status end.flushed failed
exit-line (Plan status) failed = plan-line status failed
exit-line (Job end) failed = status-line end.status end.kept failed
exit-line (Salvage end) failed = salvage-line end.status end.passed_over failed
exit-line (Ship status) failed = ship-line status failed
exit-line Words failed = refl
exit-line Help failed = absurd (failed refl)
exit-line InUse failed = refl
exit-line CopyInUse failed = refl
exit-line CopyIsImage failed = refl
