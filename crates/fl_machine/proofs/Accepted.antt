-- A configuration that is accepted has room: blocks of two pages at least, and three blocks of rows. And it is a small one.
use Rattle.std.proofs.Common.{◌≡◌, ℕ, ◌+◌, ◌≤◌, Bool, false, IsTrue, not, ◌&&◌, ◌||◌, nat_lt, ◌==◌, Option, Some, None, IfSome, is_some, unwrap_or, Result, Ok, Err, List, [], ◌∷◌, ◌++◌, refl, sym, ◌∙◌, ap, subst, ◌*◌, sum_by, arith}
use Rattle.std.specs.List.{AllByRecursion}
use Rattle.std.proofs.lemmas.Bool.{ltb-false, false≢true, or_parts}
use Rattle.std.proofs.lemmas.Bool.Decides.{nat_tests}
use Rattle.std.proofs.lemmas.List.Sums.{sum_by-append}
use Rattle.std.proofs.Math.Nat.{add-mul}
use Rattle.fl_base.specs.declared.types.Geometry.{Geometry}
use Rattle.fl_model.specs.Record.{Plan, Config, blocks_of}
use Rattle.fl_model.proofs.Lists.{each-push}
use Rattle.fl_words.specs.Command as command
use Rattle.fl_words.specs.Command.{Command, TableLine}
use Rattle.fl_words.specs.Grammar.{LineFault, command_of}
use Rattle.fl_words.specs.Config.{Lines, no_lines, ConfigFault, configured, with_device, with_table_line, unless, first_fault, device_faults, table_faults, plan_of, whole, whole_of, too_large, bad_log, BlockSize, DataBlocks, ErrorBound, DeviceTooLarge, LogBlocks, LogVar}
use Rattle.fl_words.proofs.Tests.{test-passes}
use Rattle.fl_machine.specs.Found.{HasRoom}
use Rattle.fl_machine.specs.Small.{IsSmallPlan, IsSmall}
use Rattle.fl_machine.specs.Script.{Start, Ready, Unended, BadLine, BadConfig, start_with, start_config, start_line, start_from, start_of, ended}

-- what is so of a configuration that is accepted
pub record IsAccepted (config : Config) : Type 0 where
  pub room : AllByRecursion HasRoom config.plans
  pub small : IsSmall config

-- the configuration so far is small, and has no table before its device
abbrev AreSmall : Option Geometry → List Plan → Type 0
AreSmall None plans = plans ≡ []
AreSmall (Some geometry) plans = (sum_by blocks_of plans * geometry.block ≤ 65536) × AllByRecursion IsSmallPlan plans

-- .. and has room
pub record LinesHaveRoom (lines : Lines) : Type 0 where
  pub device : IfSome lines.device (λ geometry. 2 ≤ geometry.block)
  pub plans : AllByRecursion HasRoom lines.plans
  pub small : AreSmall lines.device lines.plans

unless_ok : (fault : Option ConfigFault) (lines now : Lines) → unless fault lines ≡ Ok now → (fault ≡ None) × (lines ≡ now)
unless_ok None lines now h = (refl, cc)
unless_ok (Some fault) lines now h = cc

device-room : (lines now : Lines) (geometry : Geometry) (before : Option Geometry) → LinesHaveRoom lines → lines.device ≡ before → with_device lines geometry before ≡ Ok now → LinesHaveRoom now
device-room lines now geometry (Some before) room e h = cc
device-room lines now geometry None room e h =
    let ok = unless_ok (first_fault (device_faults geometry)) (record lines { device = Some geometry }) now h in
    let test : Bool × ConfigFault = (nat_lt geometry.block 2 || nat_lt 256 geometry.block, BlockSize) in
    let block : 2 ≤ geometry.block = ltb-false geometry.block 2 (or_parts (nat_lt geometry.block 2) (nat_lt 256 geometry.block) (test-passes (device_faults geometry) 1 test ok.0 refl)).0 in
    subst LinesHaveRoom ok.1 (record { device = block; plans = room.plans; small = subst (λ ps. AreSmall (Some geometry) ps) (sym (subst (λ o. AreSmall o lines.plans) e room.small)) (omega arith, tt) })

-- a table that is accepted is small, and so are all tables with it
table-small : (lines : Lines) (line : TableLine) (geometry : Geometry) → first_fault (table_faults geometry lines.plans line) ≡ None → AllByRecursion IsSmallPlan lines.plans → AreSmall (Some geometry) (lines.plans ++ plan_of geometry line ∷ [])
table-small lines line geometry h small =
    let plan = plan_of geometry line in
    let plans = lines.plans ++ plan ∷ [] in
    let passes = test-passes (table_faults geometry lines.plans line) in
    let size : Bool × ConfigFault = (too_large geometry plans, DeviceTooLarge) in
    let few = ltb-false 65536 (sum_by blocks_of plans * geometry.block) (or_parts _ (nat_lt 67108864 (sum_by blocks_of plans * geometry.block * geometry.page)) (passes 13 size h refl)).0 in
    let error : Bool × ConfigFault = (nat_lt 255 line.error, ErrorBound) in
    let own : sum_by blocks_of plans * geometry.block ≡ sum_by blocks_of lines.plans * geometry.block + blocks_of plan * geometry.block =
    ap (λ n. n * geometry.block) (sum_by-append blocks_of lines.plans (plan ∷ []) ∙ ap (λ n. sum_by blocks_of lines.plans + n) (let one : sum_by blocks_of (plan ∷ []) ≡ blocks_of plan = omega arith in one)) ∙ add-mul (sum_by blocks_of lines.plans) (blocks_of plan) geometry.block in (
      few,
      each-push IsSmallPlan lines.plans plan small (record {
        pages = omega (arith, few, own);
        error = ltb-false 255 line.error (passes 10 error h refl);
      }),
    )

-- a log has at least three blocks
log_room : (blocks : Option ℕ) → bad_log blocks ≡ false → IsTrue (nat_lt 0 (unwrap_or blocks 0)) → 3 ≤ unwrap_or blocks 0
log_room None e h = absurd (false≢true h)
log_room (Some n) e h = ltb-false n 3 (or_parts (nat_lt n 3) (nat_lt 16384 n) e).0

-- .. and there is no variable data beside it
log_alone : (blocks : Option ℕ) (var : ℕ) → (is_some blocks && not (var == 0)) ≡ false → IsTrue (nat_lt 0 (unwrap_or blocks 0)) → nat_lt 0 var ≡ false
log_alone None var e h = absurd (false≢true h)
log_alone (Some n) var e h = let none : var ≡ 0 = grind (arith, nat_tests, e) in rw none refl

table-room : (lines now : Lines) (line : TableLine) (geometry : Option Geometry) → LinesHaveRoom lines → lines.device ≡ geometry → with_table_line lines line geometry ≡ Ok now → LinesHaveRoom now
table-room lines now line None room e h = cc
table-room lines now line (Some geometry) room e h =
    let ok = unless_ok (first_fault (table_faults geometry lines.plans line)) (record lines { plans = lines.plans ++ plan_of geometry line ∷ [] }) now h in
    let test : Bool × ConfigFault = (nat_lt line.data_blocks 3 || nat_lt 16384 line.data_blocks, DataBlocks) in
    let blocks : 3 ≤ line.data_blocks = ltb-false line.data_blocks 3 (or_parts (nat_lt line.data_blocks 3) (nat_lt 16384 line.data_blocks) (test-passes (table_faults geometry lines.plans line) 5 test ok.0 refl)).0 in
    let pages : 2 ≤ geometry.block = subst (λ (o : Option Geometry). IfSome o (λ g. 2 ≤ g.block)) e room.device in
    let room_now = each-push HasRoom lines.plans (plan_of geometry line) room.plans (record { blocks = blocks; pages = pages; log_blocks = log_room line.log_blocks (test-passes (table_faults geometry lines.plans line) 15 (bad_log line.log_blocks, LogBlocks) ok.0 refl); no_var = log_alone line.log_blocks line.var_blocks (test-passes (table_faults geometry lines.plans line) 16 (is_some line.log_blocks && not (line.var_blocks == 0), LogVar) ok.0 refl) }) in
    subst LinesHaveRoom ok.1 (record { device = room.device; plans = room_now; small = subst (λ o. AreSmall o (lines.plans ++ plan_of geometry line ∷ [])) (sym e) (table-small lines line geometry ok.0 (subst (λ o. AreSmall o lines.plans) e room.small).1) })

-- what a line leaves of it, if it isn't refused
pub configured-room : (lines now : Lines) (c : Command) → LinesHaveRoom lines → configured lines c ≡ Ok now → LinesHaveRoom now
configured-room lines now (command.Device page block) room h = device-room lines now (record { page = page; block = block }) lines.device room refl h
configured-room lines now (command.Table line) room h = table-room lines now line lines.device room refl h
configured-room lines now c room h = let same : lines ≡ now = cc in subst LinesHaveRoom same room

pub no_lines-room : LinesHaveRoom no_lines
no_lines-room = record { device = tt; plans = tt; small = refl }

-- what a start that is ready says of its configuration
abbrev pub StartIsAccepted : Start → Type 0
StartIsAccepted (Ready config n lines) = IsAccepted config
StartIsAccepted (Unended config n) = IfSome config IsAccepted
StartIsAccepted (BadLine n) = Unit {0}
StartIsAccepted (BadConfig n) = Unit {0}

whole-room : (knots n : ℕ) (device : Option Geometry) (plans : List Plan) (lines : List (List ℕ)) → AllByRecursion HasRoom plans → AreSmall device plans → StartIsAccepted (start_with (whole_of knots device plans) n lines)
whole-room knots n None plans lines h k = tt
whole-room knots n (Some geometry) [] lines h k = tt
whole-room knots n (Some geometry) (plan ∷ plans) lines h k = record { room = h; small = record { pages = k.0; plans = k.1 } }

unended-room : (knots : ℕ) (device : Option Geometry) (plans : List Plan) → AllByRecursion HasRoom plans → AreSmall device plans → IfSome (whole_of knots device plans) IsAccepted
unended-room knots None plans h k = tt
unended-room knots (Some geometry) [] h k = tt
unended-room knots (Some geometry) (plan ∷ plans) h k = record { room = h; small = record { pages = k.0; plans = k.1 } }

-- a whole configuration of such lines is accepted
pub whole-accepted : (knots : ℕ) (lines : Lines) (config : Config) → LinesHaveRoom lines → whole knots lines ≡ Some config → IsAccepted config
whole-accepted knots lines config room w = subst (λ o. IfSome o IsAccepted) w (unended-room knots lines.device lines.plans room.plans room.small)

config-room : (n : ℕ) (r : Result Lines ConfigFault) (go : Lines → Start) → ((now : Lines) → r ≡ Ok now → StartIsAccepted (go now)) → StartIsAccepted (start_config n r go)
config-room n (Ok now) go h = h now refl
config-room n (Err fault) go h = tt

line-room : (knots n : ℕ) (before : Lines) (line : List ℕ) (lines : List (List ℕ)) (r : Result Command LineFault) (go : Lines → Start) → LinesHaveRoom before →
    ((now : Lines) → LinesHaveRoom now → StartIsAccepted (go now)) → StartIsAccepted (start_line knots n before line lines r go)
line-room knots n before line lines (Err fault) go room h = tt
line-room knots n before line lines (Ok (command.Device page block)) go room h =
    config-room n (configured before (command.Device page block)) go (λ now e. h now (device-room before now (record { page = page; block = block }) before.device room refl e))
line-room knots n before line lines (Ok (command.Table words)) go room h =
    config-room n (configured before (command.Table words)) go (λ now e. h now (table-room before now words before.device room refl e))
line-room knots n before line lines (Ok command.Nothing) go room h = h before room
line-room knots n before line lines (Ok c) go room h = whole-room knots n before.device before.plans (line ∷ lines) room.plans room.small

from-room : (knots n : ℕ) (before : Lines) (lines : List (List ℕ)) → LinesHaveRoom before → StartIsAccepted (start_from knots n before lines)
from-room knots n before [] room = unended-room knots before.device before.plans room.plans room.small
from-room knots n before (line ∷ lines) room =
    line-room knots n before line lines (command_of line) (λ now. start_from knots (n + 1) now lines) room (λ now r. from-room knots (n + 1) now lines r)

pub accepted-room : (knots : ℕ) (lines : List (List ℕ)) → StartIsAccepted (start_of knots lines)
accepted-room knots lines = from-room knots 1 no_lines lines no_lines-room

-- .. also where the end of the script ends the configuration
ended-room : (start : Start) → StartIsAccepted start → StartIsAccepted (ended start)
ended-room (Ready config n lines) h = h
ended-room (Unended None n) h = tt
ended-room (Unended (Some config) n) h = h
ended-room (BadLine n) h = tt
ended-room (BadConfig n) h = tt

pub accepted-room-ended : (knots : ℕ) (lines : List (List ℕ)) → StartIsAccepted (ended (start_of knots lines))
accepted-room-ended knots lines = ended-room (start_of knots lines) (accepted-room knots lines)
