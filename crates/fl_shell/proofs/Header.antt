-- The configuration of a medium that isn't empty is that of its header.
use Rattle.std.proofs.Common.{◌≡◌, ℕ, ◌^◌, Bool, inl, inr, IsTrue, Option, Some, Result, Ok, Err, List, [], ◌∷◌, length, refl, sym, ◌∙◌, ap}
use Rattle.std.specs.Prelude.{IfErr, IfOk, ◌⊎◌}
use Rattle.fl_base.specs.Causes.{Rose}
use Rattle.fl_image.specs.Header.{IsAccepted}
use Rattle.fl_image.specs.Image.{IsImageOf}
use Rattle.fl_image.specs.declared.status.ToolStatus.{ToolStatus}
use Rattle.fl_image.specs.declared.status.ToolStatus.TheVariants as tool
use Rattle.fl_lines.specs.Stream.{LinesState}
use Rattle.fl_words.specs.Config.{Lines}
use Rattle.fl_words.specs.Grammar.{lines_of}
use Rattle.fl_ends.specs.declared.shell.ShellStatus.{ShellStatus}
use Rattle.fl_ends.specs.declared.shell.ShellStatus.TheVariants.{MediaMake, NotImage}
use Rattle.fl_shell.specs.Leading.{BeginsAs, LeavesOn}
use Rattle.fl_shell.specs.Reading.{IsLeft, rest_in}
use Rattle.fl_shell.specs.Statuses.{header_status}
use Rattle.fl_shell.specs.Talking.{lines_from}
use Rattle.fl_shell.specs.declared.begin.Begun.{Begun}
use Rattle.fl_shell.specs.declared.talk.Next.{Next}
use Rattle.fl_shell.specs.declared.talk.Next.TheVariants.{Unread, Ended}

-- ---- why there is none

pub header-other : (status : ToolStatus) → (status ≡ tool.NotImage → ⊥) → header_status status ≡ MediaMake
header-other tool.NotImage other = absurd (other refl)
header-other status other = refl

pub header-none : (status : ToolStatus) (ends : ShellStatus) → ends ≡ header_status status → ends ≡ NotImage → status ≡ tool.NotImage
header-none tool.NotImage ends is e = refl
header-none status ends is e = cc

pub header-causes : (status : ToolStatus) (ends : ShellStatus) (before now : ℕ) → ends ≡ header_status status → (status ≡ tool.NotImage) ⊎ (status ≡ tool.Device) → (status ≡ tool.Device → Rose before now) → (ends ≡ NotImage) ⊎ ((ends ≡ MediaMake) × Rose before now)
header-causes status ends before now is (inl e) rose = inl (is ∙ ap header_status e)
header-causes status ends before now is (inr e) rose = inr (is ∙ ap header_status e, rose e)

-- ---- the configuration

pub some-at : (content : List ℕ) (n : ℕ) → n ≡ length content → (n ≡ 0 → ⊥) → content ≡ [] → ⊥
some-at content n e some none = some (e ∙ ap length none)

pub unread-ended : {A : Type 0} (next : Next) → next ≡ Unread → next ≡ Ended → A
unread-ended next is ended = let odd : Unread ≡ Ended = sym is ∙ ended in cc

-- no line was read
abbrev pub header-leaves : (begun : Begun) (total : ℕ) (state : LinesState) (left : List ℕ) (left_now : Option (List ℕ)) → left_now ≡ Some left → IsLeft state left (2 ^ 44) total → begun.next ≡ Unread → LeavesOn begun total state left_now
header-leaves begun total state left left_now is within next =
    record { rest = left; rest_told = is; ended = λ e. unread-ended begun.next next e; within = λ e. within; hand = state.line; hand_is = inl refl }

-- the configuration is that of its header
pub header-begins : (content : List ℕ) (state : LinesState) (total : ℕ) (left : List ℕ) (left_now told : Option (List ℕ)) (before now : ℕ) (tells : Bool) (result : Result Begun ShellStatus) → IsTrue tells → (content ≡ [] → ⊥) → left_now ≡ Some left → IsLeft state left (2 ^ 44) total →
    IfOk result (λ begun. IsTrue tells → IsAccepted begun.config × IsImageOf content begun.config) → IfOk result (λ begun. begun.next ≡ Unread) → (result ≡ Err NotImage → IsTrue tells → (lines : Lines) → IsAccepted lines → IsImageOf content lines → ⊥) →
    IfErr result (λ status. (status ≡ NotImage) ⊎ ((status ≡ MediaMake) × Rose before now)) → BeginsAs content (lines_of (rest_in state left)) total result state left_now told told
header-begins [] state total left left_now told before now tells result sure some is within image next none statuses = absurd (some refl)
header-begins (byte ∷ bytes) state total left left_now told before now tells (Ok begun) sure some is within image next none statuses = record {
  leaves = header-leaves begun total state left left_now is within next;
  others = ap (λ n. lines_from n state.line (lines_of (rest_in state left))) next;
  accepted = (image sure).0;
  image = (image sure).1;
  silent = refl;
}
header-begins (byte ∷ bytes) state total left left_now told before now tells (Err NotImage) sure some is within image next none statuses = (none refl sure, refl)
header-begins (byte ∷ bytes) state total left left_now told before now tells (Err status) sure some is within image next none statuses = elim statuses [ inl e ↦ absurd (let odd : ⊥ = cc in odd) | inr k ↦ (k.0, refl) ]
