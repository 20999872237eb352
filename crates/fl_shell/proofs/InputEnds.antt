-- What the statuses of the parts of a shell tell of the input.
use Rattle.std.proofs.Common.{◌≡◌, ℕ, ◌^◌, Bool, true, false, inl, inr, Option, Some, Result, Ok, Err, List, sym, subst}
use Rattle.std.specs.Prelude.{IfErr, IfOk, ◌⊎◌}
use Rattle.fl_base.specs.Causes.{Rose}
use Rattle.fl_config.specs.declared.image.ImageRefusal.{ImageRefusal}
use Rattle.fl_config.specs.declared.image.ImageRefusal.TheVariants.{Media, Other}
use Rattle.fl_lines.specs.Stream.{LinesState}
use Rattle.fl_lines.specs.declared.lines.LinesFault.{LinesFault}
use Rattle.fl_lines.specs.declared.lines.LinesFault.TheVariants.{Failed, Long}
use Rattle.fl_ends.specs.declared.shell.ShellStatus.{ShellStatus}
use Rattle.fl_ends.specs.declared.shell.ShellStatus.TheVariants.{Done, InputRead, OutWrite, MediaMake, Unconfigured, InputLong, NotImage}
use Rattle.fl_shell.specs.Input.{InputBegins, InputEnds}
use Rattle.fl_shell.specs.Leading.{LeadsAs}
use Rattle.fl_shell.specs.Reading.{AsksNext, IsLeft}
use Rattle.fl_shell.specs.Statuses.{behind, opening_status, reading_status}
use Rattle.fl_shell.specs.declared.begin.Begun.{Begun}
use Rattle.fl_shell.specs.declared.talk.Next.TheVariants.{Unread}
use Rattle.fl_shell.proofs.Header.{header-leaves}

-- the source fails, or has too many bytes
pub input-failed : (total : ℕ) (state new : LinesState) (left left_now : Option (List ℕ)) (source source_now : ℕ) (fault : LinesFault) (rest : List ℕ) → left ≡ Some rest → IsLeft state rest (2 ^ 44) total → AsksNext state left source (Err fault) new left_now source_now →
    InputEnds total left_now (reading_status fault)
input-failed total state new left left_now source source_now Failed rest is within asks = tt
input-failed total state new left left_now source source_now Long rest is within asks = let g = asks.gives rest is (2 ^ 44) total within in g.2

-- a flush reads nothing
pub input-behind : (total : ℕ) (left_now : Option (List ℕ)) (status : ShellStatus) (all : Bool) → InputEnds total left_now status → InputEnds total left_now (behind status all)
input-behind total left_now Done true h = h
input-behind total left_now Done false h = h
input-behind total left_now status all h = h

-- .. nor does the opening of an image
pub input-opening : (total : ℕ) (left_now : Option (List ℕ)) (refusal : ImageRefusal) → InputEnds total left_now (opening_status refusal)
input-opening total left_now Media = tt
input-opening total left_now (Other wanted found at) = tt

-- ---- up to the configuration

pub leads-input : (all : List (List ℕ)) (total : ℕ) (result : Result Begun ShellStatus) (new : LinesState) (left_now told told_now : Option (List ℕ)) → LeadsAs all total result new left_now told told_now → InputBegins total result new left_now
leads-input all total (Ok begun) new left_now told told_now h = h.leaves
leads-input all total (Err InputRead) new left_now told told_now h = tt
leads-input all total (Err InputLong) new left_now told told_now h = h.0
leads-input all total (Err OutWrite) new left_now told told_now h = tt
leads-input all total (Err Unconfigured) new left_now told told_now h = h.1
leads-input all total (Err status) new left_now told told_now h = absurd h

-- nothing is read where that is in the header
pub header-input : (total : ℕ) (left : List ℕ) (state : LinesState) (left_now : Option (List ℕ)) (result : Result Begun ShellStatus) (before now : ℕ) → left_now ≡ Some left → IsLeft state left (2 ^ 44) total → IfOk result (λ begun. begun.next ≡ Unread) →
    IfErr result (λ status. (status ≡ NotImage) ⊎ ((status ≡ MediaMake) × Rose before now)) → InputBegins total result state left_now
header-input total left state left_now (Ok begun) before now is within next statuses = header-leaves begun total state left left_now is within next
header-input total left state left_now (Err status) before now is within next statuses =
    elim statuses [ inl e ↦ subst (InputEnds total left_now) (sym e) tt | inr k ↦ subst (InputEnds total left_now) (sym k.0) tt ]
