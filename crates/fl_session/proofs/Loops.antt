-- The loop over the commands of a script, step by step.
use Rattle.std.proofs.Common.{◌≡◌, ℕ, ◌+◌, ◌^◌, ◌<◌, ◌≤◌, Bool, true, false, inl, inr, Option, Some, None, Result, Ok, Err, List, [], ◌∷◌, ◌++◌, length, take, drop, refl, sym, ◌∙◌, ap, subst, append_assoc, length-append, arith, ltb-false, true≢false}
use Rattle.fl_words.specs.Command.{Command}
use Rattle.fl_words.specs.Grammar as grammar
use Rattle.fl_words.specs.Grammar.{command_of}
use Rattle.fl_words.proofs.Lines.{too_long-command}
use Rattle.fl_machine.specs.Script.{runs, runs_read, accepted, first_refused}
use Rattle.fl_lines.specs.Texts.{whole_lines, lines_within}
use Rattle.fl_lines.specs.Stream.{LinesState, Gives, TakesPart, TakesAhead}
use Rattle.std.proofs.Math.Seq.{drop-append_seam}
use Rattle.fl_script.specs.declared.command.Command as code
use Rattle.fl_script.specs.CommandView.{command_view}
use Rattle.fl_ends.specs.declared.run.Status.{Status}
use Rattle.fl_ends.specs.declared.run.Status.TheVariants.{Line, ScriptRead, ScriptLong}
use Rattle.fl_session.specs.Next.{EndsThere, NextRun}
use Rattle.fl_session.specs.Loop.{Tail, TakesTail, TailTakes, lines_in, EndsAll, EndsBad, EndsInReply, EndsTaken, EndsCommands}
use Rattle.fl_lines.specs.declared.lines.LinesFault.{LinesFault}
use Rattle.fl_lines.specs.declared.lines.LinesFault.TheVariants.{Failed, Long}
use Rattle.fl_lines.specs.Given.{Given}
use Rattle.fl_lines.proofs.LinesInTurn.{given-few, given-over, given-none, given-line, given-last, given-all, given-taken, given-most, given-too_long, IsTooLong}
use Rattle.fl_session.proofs.AcceptedLines.{AllRun, all_run-none, all_run-more, all_run-all, all_run-refused, accepted-more}

-- a line is in hand, and those before it were run
pub record InHand (tail : Tail) (All : List Command → Type 0) (number : ℕ) (state : LinesState) (left : Option (List ℕ)) : Type 0 where
  pub ran : List (List ℕ)
  pub given : List (List ℕ)
  pub left_is : List ℕ
  pub left_told : left ≡ Some left_is
  pub order : ran ++ state.line ∷ [] ≡ tail.first ∷ given
  pub reading : Given tail.most tail.text given state.closed state.most (state.ahead ++ left_is)
  pub all_run : AllRun ran
  pub numbered : number ≡ tail.number + length ran
  pub runs : All (accepted ran)
  pub was_open : tail.closed ≡ true → state.closed ≡ true
  pub few : TakesTail tail ran left

pub in_hand-first : (tail : Tail) (All : List Command → Type 0) (state : LinesState) (left : List ℕ) (left_now : Option (List ℕ)) → All [] → left_now ≡ Some left → (state.closed ≡ true → state.ahead ++ left ≡ []) →
    tail.first ≡ state.line → tail.text ≡ state.ahead ++ left → tail.most ≡ state.most → tail.closed ≡ state.closed → tail.taken ≡ length state.ahead →
    InHand tail All tail.number state left_now
in_hand-first tail All state left left_now none told_left ended first text most closed taken = record {
  ran = [];
  given = [];
  left_is = left;
  left_told = told_left;
  order = ap (λ l. l ∷ []) (sym first);
  reading =
      subst (λ t. Given tail.most tail.text [] state.closed state.most t) text
      (subst (λ m. Given tail.most tail.text [] state.closed m tail.text) most (given-none tail.most tail.text state.closed (λ c. text ∙ ended c)));
  all_run = all_run-none;
  numbered = omega arith;
  runs = none;
  was_open = λ e. sym closed ∙ e;
  few = told_left ∙ ap Some (sym (ap (λ n. drop n tail.text) taken ∙ (ap (drop (length state.ahead)) text ∙ drop-append_seam state.ahead left)));
}

-- all lines that were given were run
pub record AllDone (tail : Tail) (All : List Command → Type 0) (number : ℕ) (state : LinesState) (left : List ℕ) : Type 0 where
  pub given : List (List ℕ)
  pub reading : Given tail.most tail.text given state.closed state.most (state.ahead ++ left)
  pub all_run : AllRun (tail.first ∷ given)
  pub numbered : number ≡ tail.number + length (tail.first ∷ given)
  pub runs : All (accepted (tail.first ∷ given))
  pub was_open : tail.closed ≡ true → state.closed ≡ true

pub all_done-next : (tail : Tail) (Before All : List Command → Type 0) (number : ℕ) (state : LinesState) (left : Option (List ℕ)) (c : Command) →
    InHand tail Before number state left → runs state.line ≡ Some c → number < 2 ^ 32 → ((commands : List Command) → length commands < 2 ^ 32 → Before commands → All (commands ++ c ∷ [])) →
    (left_is : List ℕ) × (left ≡ Some left_is) × AllDone tail All (number + 1) state left_is
all_done-next tail Before All number state left c h e lines more = (
  h.left_is,
  h.left_told,
  record {
    given = h.given;
    reading = h.reading;
    all_run = subst AllRun h.order (all_run-more h.ran state.line c h.all_run e);
    numbered = omega (arith, h.numbered, ap length h.order, length-append h.ran (state.line ∷ []));
    runs = subst All (sym (accepted-more h.ran state.line c h.all_run e) ∙ ap accepted h.order) (more (accepted h.ran) (omega (arith, lines, h.numbered, h.all_run.count)) h.runs);
    was_open = h.was_open;
  },
)

pub ends-in_reply : (tail : Tail) (Before Part : List Command → Type 0) (number : ℕ) (state : LinesState) (left : Option (List ℕ)) (c : Command) →
    InHand tail Before number state left → runs state.line ≡ Some c → ((commands : List Command) → Before commands → Part (commands ++ c ∷ [])) → EndsInReply tail left Part
ends-in_reply tail Before Part number state left c h e into =
    let more = all_run-more h.ran state.line c h.all_run e in
    let others = lines_within state.most (state.ahead ++ h.left_is) in
    let lines : lines_in tail ≡ (h.ran ++ state.line ∷ []) ++ others = ap (λ ls. tail.first ∷ ls) h.reading.lines ∙ ap (λ ls. ls ++ others) (sym h.order) in
    record {
      commands = accepted h.ran ++ c ∷ [];
      others = accepted others;
      split = ap (λ cs. cs ++ accepted others) (sym (accepted-more h.ran state.line c h.all_run e)) ∙ (sym (more.accepts others) ∙ ap accepted (sym lines));
      number = number;
      number_is = omega (arith, h.numbered, h.all_run.count, length-append (accepted h.ran) (c ∷ []));
      takes = record { before = h.ran; others = state.line ∷ others; split = lines ∙ append_assoc h.ran (state.line ∷ []) others; number_is = h.numbered; few = h.few };
      runs = into (accepted h.ran) h.runs;
    }

-- what a line that is given is: the next one, or the front of one that is too long
pub data NextLine (tail : Tail) (given : List (List ℕ)) (new : LinesState) (rest : List ℕ) : Type 0 where
  fits : Given tail.most tail.text (given ++ new.line ∷ []) new.closed new.most rest → (tail.closed ≡ false) → NextLine tail given new rest
  too_long : IsTooLong tail.most tail.text given → 4096 < length new.line → NextLine tail given new rest

was_open : (a b : Bool) → (a ≡ true → b ≡ true) → b ≡ false → a ≡ false
was_open true b h e = absurd (true≢false (sym (h refl) ∙ e))
was_open false b h e = refl

pub next_line : (tail : Tail) (given : List (List ℕ)) (old new : LinesState) (left left_now : List ℕ) →
    Given tail.most tail.text given old.closed old.most (old.ahead ++ left) → (tail.closed ≡ true → old.closed ≡ true) → Gives old (old.ahead ++ left) (Ok true) new left_now →
    NextLine tail given new (new.ahead ++ left_now)
next_line tail given old new left left_now g o (inl w) =
    let g' : Given tail.most tail.text given false old.most (old.ahead ++ left) = subst (λ b. Given tail.most tail.text given b old.most (old.ahead ++ left)) w.open_before g in
    let h = given-line tail.most tail.text given old.most (old.ahead ++ left) new.line (new.ahead ++ left_now) g' w.split w.one w.fits in
    fits
    (subst (λ b. Given tail.most tail.text (given ++ new.line ∷ []) b new.most (new.ahead ++ left_now)) (sym w.open_now)
    (subst (λ m. Given tail.most tail.text (given ++ new.line ∷ []) false m (new.ahead ++ left_now)) (sym w.most) h))
    (was_open tail.closed old.closed o w.open_before)
next_line tail given old new left left_now g o (inr (inl w)) =
    let g' : Given tail.most tail.text given false old.most (old.ahead ++ left) = subst (λ b. Given tail.most tail.text given b old.most (old.ahead ++ left)) w.open_before g in
    let h = given-last tail.most tail.text given old.most new.most (old.ahead ++ left) new.line (new.ahead ++ left_now) g' w.split w.nothing w.one w.some w.fits in
    fits
    (subst (λ b. Given tail.most tail.text (given ++ new.line ∷ []) b new.most (new.ahead ++ left_now)) (sym w.closed_now) h)
    (was_open tail.closed old.closed o w.open_before)
next_line tail given old new left left_now g o (inr (inr w)) =
    too_long (given-too_long tail.most tail.text given old.closed old.most (old.ahead ++ left) new.line w.others g w.split w.one w.long w.fits) w.long

-- what was taken with the next line
pub tail-takes : (tail : Tail) (All : List Command → Type 0) (number : ℕ) (old : LinesState) (left left_now : List ℕ) →
    AllDone tail All number old left → TakesAhead old (old.ahead ++ left) (Ok true) left_now → TailTakes tail number (Some left_now)
tail-takes tail All number old left left_now h t = record {
  before = tail.first ∷ h.given;
  others = lines_within old.most (old.ahead ++ left);
  split = ap (λ ls. tail.first ∷ ls) h.reading.lines;
  number_is = h.numbered;
  few = given-few tail.most tail.text h.given old left left_now h.reading t;
}

-- the next line comes into the hand
pub in_hand-next : (tail : Tail) (All : List Command → Type 0) (number : ℕ) (old new : LinesState) (left left_now : List ℕ) (c : Command) →
    AllDone tail All number old left → command_of new.line ≡ Ok c → Gives old (old.ahead ++ left) (Ok true) new left_now → TakesAhead old (old.ahead ++ left) (Ok true) left_now →
    InHand tail All number new (Some left_now)
in_hand-next tail All number old new left left_now c h read gives takes =
    elim (next_line tail h.given old new left left_now h.reading h.was_open gives) [
      | fits g is_open ↦ record {
        ran = tail.first ∷ h.given;
        given = h.given ++ new.line ∷ [];
        left_is = left_now;
        left_told = refl;
        order = refl;
        reading = g;
        all_run = h.all_run;
        numbered = h.numbered;
        runs = h.runs;
        was_open = λ e. absurd (true≢false (sym e ∙ is_open));
        few = given-few tail.most tail.text h.given old left left_now h.reading takes;
      }
      | too_long t long ↦ absurd (not_long (sym read ∙ too_long-command new.line long))
    ]
  where
    not_long : Ok c ≡ Err grammar.TooLong → ⊥
    not_long k = cc

pub ends-done : (tail : Tail) (All : List Command → Type 0) (number : ℕ) (state : LinesState) (left : List ℕ) →
    AllDone tail All number state left → state.ahead ++ left ≡ [] →
    (length tail.text ≤ tail.most) × EndsAll tail All
ends-done tail All number state left h e =
    let all = given-all tail.most tail.text h.given state.closed state.most (state.ahead ++ left) h.reading e in
    let lines : tail.first ∷ h.given ≡ lines_in tail = ap (λ ls. tail.first ∷ ls) (sym all.0) in (
      ltb-false tail.most (length tail.text) all.1,
      record {
        accepts = ap (first_refused tail.number) (sym lines) ∙ all_run-all tail.number (tail.first ∷ h.given) h.all_run;
        runs = subst (λ ls. All (accepted ls)) lines h.runs;
      },
    )

bad_at : (tail : Tail) (All : List Command → Type 0) (number : ℕ) (state : LinesState) (left : List ℕ) (line : List ℕ) (others : List (List ℕ)) →
    (h : AllDone tail All number state left) → runs line ≡ None → lines_within tail.most tail.text ≡ h.given ++ line ∷ others →
    EndsBad tail All number
bad_at tail All number state left line others h e lines =
    let bad = all_run-refused tail.number (tail.first ∷ h.given) line others h.all_run e in
    let is : lines_in tail ≡ (tail.first ∷ h.given) ++ line ∷ others = ap (λ ls. tail.first ∷ ls) lines in
    record {
      refuses = ap (first_refused tail.number) is ∙ (bad.0 ∙ ap Some (sym h.numbered));
      runs = subst All (sym (ap accepted is ∙ bad.1)) h.runs;
    }

pub ends-bad : (tail : Tail) (All : List Command → Type 0) (number : ℕ) (old new : LinesState) (left left_now : List ℕ) →
    AllDone tail All number old left → runs new.line ≡ None → Gives old (old.ahead ++ left) (Ok true) new left_now →
    EndsBad tail All number
ends-bad tail All number old new left left_now h e gives =
    elim (next_line tail h.given old new left left_now h.reading h.was_open gives) [
      | fits g is_open ↦
          bad_at tail All number old left new.line (lines_within new.most (new.ahead ++ left_now)) h e
          (g.lines ∙ append_assoc h.given (new.line ∷ []) (lines_within new.most (new.ahead ++ left_now)))
      | too_long t long ↦
          bad_at tail All number old left t.line t.others h
          (ap runs_read (too_long-command t.line t.long)) t.lines
    ]

pub ends-taken : (tail : Tail) (All : List Command → Type 0) (number : ℕ) (old new : LinesState) (left left_now : List ℕ) →
    AllDone tail All number old left → TakesPart old (old.ahead ++ left) new left_now →
    EndsTaken tail (Some left_now) All
ends-taken tail All number old new left left_now h part =
    let g : Given tail.most tail.text h.given false old.most (old.ahead ++ left) = subst (λ b. Given tail.most tail.text h.given b old.most (old.ahead ++ left)) part.open_before h.reading in
    let t = given-taken tail.most tail.text h.given old.most (old.ahead ++ left) new.ahead left_now g part.split part.one part.fits part.short in
    let lines : tail.first ∷ h.given ≡ tail.first ∷ whole_lines (take t.taken tail.text) = ap (λ ls. tail.first ∷ ls) (sym t.whole) in
    record {
      is_open = was_open tail.closed old.closed h.was_open part.open_before;
      taken = t.taken;
      within = t.within;
      few = t.few;
      short = t.short;
      left = ap Some (sym t.left_is);
      accepts = ap (first_refused tail.number) (sym lines) ∙ all_run-all tail.number (tail.first ∷ h.given) h.all_run;
      runs = subst (λ ls. All (accepted ls)) lines h.runs;
    }

pub ends-long : (tail : Tail) (All : List Command → Type 0) (number : ℕ) (old new : LinesState) (left more : List ℕ) →
    AllDone tail All number old left → TakesPart old (old.ahead ++ left) new more → length new.ahead ≡ old.most → 0 < length more →
    (tail.most < length tail.text) × EndsAll tail All
ends-long tail All number old new left more h part full some =
    let g : Given tail.most tail.text h.given false old.most (old.ahead ++ left) = subst (λ b. Given tail.most tail.text h.given b old.most (old.ahead ++ left)) part.open_before h.reading in
    let t = given-most tail.most tail.text h.given old.most (old.ahead ++ left) new.ahead more g part.split part.one full part.short some in
    let lines : tail.first ∷ h.given ≡ lines_in tail = ap (λ ls. tail.first ∷ ls) (sym t.0) in (
      t.1,
      record {
        accepts = ap (first_refused tail.number) (sym lines) ∙ all_run-all tail.number (tail.first ∷ h.given) h.all_run;
        runs = subst (λ ls. All (accepted ls)) lines h.runs;
      },
    )

-- how the script ends at the next line
pub ends-there_run : (tail : Tail) (All Part : List Command → Type 0) (number : ℕ) (old new : LinesState) (left left_now : List ℕ) (given : Result Bool LinesFault) (status : Status) →
    AllDone tail All number old left → Gives old (old.ahead ++ left) given new left_now → TakesAhead old (old.ahead ++ left) given left_now → EndsThere given new.line number (runs new.line ≡ None) status →
    EndsCommands tail (Some left_now) All Part status
ends-there_run tail All Part number old new left left_now (Ok true) (Line n) h gives takes e =
    subst (λ m. EndsBad tail All m × TailTakes tail m (Some left_now)) (sym e.0)
    (ends-bad tail All number old new left left_now h e.1 gives, tail-takes tail All number old left left_now h takes)
ends-there_run tail All Part number old new left left_now (Ok true) status h gives takes e = absurd e
ends-there_run tail All Part number old new left left_now (Ok false) status h gives takes e = absurd e
ends-there_run tail All Part number old new left left_now (Err Failed) ScriptRead h gives takes e =
    ends-taken tail All number old new left left_now h gives
ends-there_run tail All Part number old new left left_now (Err Failed) status h gives takes e = absurd e
ends-there_run tail All Part number old new left left_now (Err Long) ScriptLong h gives takes e =
    let long = ends-long tail All number old new left gives.0 h gives.1 gives.2 gives.3 in
    (long.0, long.1, given-over tail.most tail.text h.given old left left_now h.reading gives.1.open_before takes)
ends-there_run tail All Part number old new left left_now (Err Long) status h gives takes e = absurd e

-- all lines that were given were run, and this is left of the script
abbrev pub Done_so_far : Tail → (List Command → Type 0) → ℕ → LinesState → Option (List ℕ) → Type 0
Done_so_far tail All number state left =
    (left_is : List ℕ) × (left ≡ Some left_is) × AllDone tail All number state left_is

pub then-in_hand : (tail : Tail) (All : List Command → Type 0) (number : ℕ) (old new : LinesState) (left left_now : Option (List ℕ)) (f f_now : ℕ) (c : code.Command) (room : List ℕ) →
    Done_so_far tail All number old left → NextRun old left f number (Ok (Some c)) room new left_now f_now →
    InHand tail All number new left_now
then-in_hand tail All number old new left left_now f f_now c room d n =
    let g = n.advances.gives d.0 d.1 d.2.reading.ended in
    subst (λ l. InHand tail All number new l) (sym g.1)
    (in_hand-next tail All number old new d.0 g.0 (command_view c room) d.2 n.next.1.reads
    (subst (λ r. Gives old (old.ahead ++ d.0) r new g.0) n.next.0 g.2) (subst (λ r. TakesAhead old (old.ahead ++ d.0) r g.0) n.next.0 g.3))

pub then-done : (tail : Tail) (All : List Command → Type 0) (number : ℕ) (old new : LinesState) (left left_now : Option (List ℕ)) (f f_now : ℕ) (room : List ℕ) →
    Done_so_far tail All number old left → NextRun old left f number (Ok None) room new left_now f_now →
    (length tail.text ≤ tail.most) × EndsAll tail All × (left_now ≡ Some [])
then-done tail All number old new left left_now f f_now room d n =
    let g = n.advances.gives d.0 d.1 d.2.reading.ended in
    let k : old.ahead ++ d.0 ≡ [] = subst (λ r. Gives old (old.ahead ++ d.0) r new g.0) n.next g.2 in
    let nothing : g.0 ≡ [] = subst (λ r. TakesAhead old (old.ahead ++ d.0) r g.0) n.next g.3 in
    let done = ends-done tail All number old d.0 d.2 k in
    (done.0, done.1, g.1 ∙ ap Some nothing)

pub then-ends : (tail : Tail) (All Part : List Command → Type 0) (number : ℕ) (old new : LinesState) (left left_now : Option (List ℕ)) (f f_now : ℕ) (room : List ℕ) (status : Status) →
    Done_so_far tail All number old left → NextRun old left f number (Err status) room new left_now f_now →
    EndsCommands tail left_now All Part status
then-ends tail All Part number old new left left_now f f_now room status d n =
    let g = n.advances.gives d.0 d.1 d.2.reading.ended in
    subst (λ l. EndsCommands tail l All Part status) (sym g.1)
    (ends-there_run tail All Part number old new d.0 g.0 n.given status d.2 g.2 g.3 n.next)
