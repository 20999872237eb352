-- How the lines of an input end, by the status of the shell.
use Rattle.std.proofs.Common.{◌≡◌, ℕ, ◌≤◌, Bool, true, false, Option, List, ◌++◌, refl}
use Rattle.fl_model.specs.Record.{Config}
use Rattle.fl_machine.specs.Machine.{Machine}
use Rattle.fl_machine.specs.Step.{Moment}
use Rattle.fl_ends.specs.declared.shell.Flushed.{Flushed}
use Rattle.fl_ends.specs.declared.shell.ShellStatus.{ShellStatus}
use Rattle.fl_ends.specs.declared.shell.ShellStatus.TheVariants.{Done, InputRead, OutWrite, InputLong, Unflushed}
use Rattle.fl_shell.specs.Flushing.{FlushesBehind}
use Rattle.fl_shell.specs.Statuses.{IsOfTalk, behind}
use Rattle.fl_shell.specs.Talk.{RanOver, Talked, moments_of}
use Rattle.fl_shell.specs.Talking.{Answered, EndsBy, MediumEnds, TalkEnds, TellsFlushed}
use Rattle.fl_shell.proofs.AnsweredLines.{causes-earlier, causes-later}
use Rattle.fl_shell.proofs.Ran.{over-seen}

-- what is said of the lines that were answered goes over into what follows from it
pub ends-map : (P Q : List (List ℕ) → Bool → Type 0) (all : List (List ℕ)) (total : ℕ) (left_now : Option (List ℕ)) (status : ShellStatus) → ((lines : List (List ℕ)) (whole : Bool) → P lines whole → Q lines whole) →
    EndsBy P all total left_now status → EndsBy Q all total left_now status
ends-map P Q all total left_now Done f h = (f all true h.0, h.1)
ends-map P Q all total left_now Unflushed f h = (f all true h.0, h.1)
ends-map P Q all total left_now InputRead f h = (h.0, h.1, h.2, f h.0 true h.3)
ends-map P Q all total left_now InputLong f h = let k = h.1 in (h.0, (k.0, k.1, k.2, f k.0 true k.3))
ends-map P Q all total left_now OutWrite f h = (h.0, h.1, h.2, f h.0 false h.3)
ends-map P Q all total left_now status f h = absurd h

-- ---- the flush behind the lines

answered-flushed : (config : Config) (old : Machine) (lines : List (List ℕ)) (whole : Bool) (stands stands_now : Machine → Type 0) (content mid content_now : List ℕ) (faults before now : ℕ) (told told_now : Option (List ℕ)) (flushed : Flushed) → before ≤ now →
    (h : Answered config old lines whole stands content mid faults before told told_now) → FlushesBehind config old (moments_of h.turns) stands_now content content_now faults now flushed →
    Talked config old lines whole flushed stands_now content content_now faults now told told_now
answered-flushed config old lines whole stands stands_now content mid content_now faults before now told told_now flushed later h f = record {
  turns = h.turns;
  each = h.each;
  flushes = f.flushes;
  flushes_all = f.flushes_all;
  ran = f.ran;
  causes = causes-later faults before now h.turns later h.causes;
  before = h.before;
  text = h.text;
  written = h.written;
  told_all = h.told_all;
  reads = h.reads;
  unread = f.unread;
}

-- what is said of the lines goes over into what is said behind the flush
pub ends-behind : (P Q : List (List ℕ) → Bool → Type 0) (all : List (List ℕ)) (total : ℕ) (left_now : Option (List ℕ)) (flushed : Flushed) (status : ShellStatus) → IsOfTalk status → ((lines : List (List ℕ)) (whole : Bool) → P lines whole → Q lines whole) →
    EndsBy P all total left_now status → EndsBy Q all total left_now (behind status flushed.all) × TellsFlushed flushed (behind status flushed.all)
ends-behind P Q all total left_now flushed status of f h = by_status status flushed.all of refl (ends-map P Q all total left_now status f h)
  where
    by_status : (status : ShellStatus) (b : Bool) → IsOfTalk status → flushed.all ≡ b → EndsBy Q all total left_now status → EndsBy Q all total left_now (behind status b) × TellsFlushed flushed (behind status b)
    by_status Done true of e h = (h, e)
    by_status Done false of e h = (h, e)
    by_status InputRead b of e h = (h, tt)
    by_status OutWrite b of e h = (h, tt)
    by_status InputLong b of e h = (h, tt)
    by_status status b of e h = absurd of

-- how it ends them
pub flush-ends : (config : Config) (old : Machine) (all : List (List ℕ)) (total : ℕ) (stands stands_now : Machine → Type 0) (content mid content_now : List ℕ) (faults before now : ℕ) (told told_now left_now : Option (List ℕ)) (flushed : Flushed) (status : ShellStatus) → IsOfTalk status → before ≤ now →
    TalkEnds config old all total stands content mid faults before told told_now left_now status →
    ((moments : List Moment) → RanOver config old moments stands content mid faults before → FlushesBehind config old moments stands_now content content_now faults now flushed) →
    MediumEnds config old all total stands_now content content_now faults now told told_now left_now flushed (behind status flushed.all)
flush-ends config old all total stands stands_now content mid content_now faults before now told told_now left_now flushed status of later h flush =
    ends-behind (λ front whole. Answered config old front whole stands content mid faults before told told_now) (λ front whole. Talked config old front whole flushed stands_now content content_now faults now told told_now) all total left_now flushed status of
    (λ front whole a. answered-flushed config old front whole stands stands_now content mid content_now faults before now told told_now flushed later a (flush (moments_of a.turns) a.ran)) h

-- ---- over a medium

-- what a session did, seen as the medium is left, with the faults counted from before
pub medium-over : (config : Config) (old : Machine) (all : List (List ℕ)) (total : ℕ) (stands stands_now : Machine → Type 0) (content content_now : List ℕ) (before mid now : ℕ) (told told_now left_now : Option (List ℕ)) (flushed : Flushed) (status : ShellStatus) → ((m : Machine) → stands m → stands_now m) → before ≤ mid →
    MediumEnds config old all total stands content content_now mid now told told_now left_now flushed status → MediumEnds config old all total stands_now content content_now before now told told_now left_now flushed status
medium-over config old all total stands stands_now content content_now before mid now told told_now left_now flushed status seen later h =
    (ends-map (λ front whole. Talked config old front whole flushed stands content content_now mid now told told_now) (λ front whole. Talked config old front whole flushed stands_now content content_now before now told told_now) all total left_now status over h.0, h.1)
  where
    over : (lines : List (List ℕ)) (whole : Bool) → Talked config old lines whole flushed stands content content_now mid now told told_now → Talked config old lines whole flushed stands_now content content_now before now told told_now
    over lines whole t = record {
      turns = t.turns;
      each = t.each;
      flushes = t.flushes;
      flushes_all = t.flushes_all;
      ran = over-seen config old (moments_of t.turns ++ t.flushes) stands stands_now content content_now before mid now seen later t.ran;
      causes = causes-earlier before mid now t.turns later t.causes;
      before = t.before;
      text = t.text;
      written = t.written;
      told_all = t.told_all;
      reads = t.reads;
      unread = t.unread;
    }
