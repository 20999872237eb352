-- Lines are answered one after another, each of which has its cause.
use Rattle.std.proofs.Common.{◌≡◌, ℕ, ◌^◌, ◌<◌, Bool, true, false, inl, inr, Option, Some, None, Result, Ok, Err, List, [], ◌∷◌, ◌++◌, length, refl, sym, ◌∙◌, ap, subst, append_assoc, append-nil, length-append, arith}
use Rattle.fl_base.specs.declared.stream.SinkFailed.{SinkFailed}
use Rattle.fl_lines.specs.Stream.{LinesState}
use Rattle.fl_lines.specs.declared.lines.LinesFault.{LinesFault}
use Rattle.fl_lines.specs.declared.lines.LinesFault.TheVariants.{Failed, Long}
use Rattle.fl_machine.specs.Script.{runs}
use Rattle.fl_ends.specs.declared.shell.ShellStatus.TheVariants.{Done, OutWrite}
use Rattle.fl_session.specs.Caused.{State}
use Rattle.fl_words.specs.Grammar.{lines_of}
use Rattle.fl_shell.specs.Caused.{CausedBy, CausedIf, CausedLine, CausedLines, CausedOwn, CausedRun}
use Rattle.fl_shell.specs.Own.{Own, own_of}
use Rattle.fl_shell.specs.Reading.{AsksNext, IsGivenAs, IsLeft, rest_in}
use Rattle.fl_shell.specs.Statuses.{reading_status}
use Rattle.fl_shell.specs.Talking.{EndsBy, with_hand}
use Rattle.fl_shell.proofs.LongLines.{long-own, long-runs}

-- ---- one line

module _ (old new : State) (told told_now : Option (List ℕ)) (result : Result (Unit {0}) SinkFailed) where
  -- a line that is too long is refused, whatever it is
  refused-long : (line : List ℕ) → 4096 < length line → CausedLine {E = SinkFailed} line old new told told_now result → CausedRun {E = SinkFailed} None old new told told_now result
  refused-long line long h =
      let run : CausedRun {E = SinkFailed} (runs line) old new told told_now result = subst (λ o. CausedOwn {E = SinkFailed} o line old new told told_now result) (long-own line long) h in
      subst (λ o. CausedRun {E = SinkFailed} o old new told told_now result) (long-runs line long) run

  long-refused : (line : List ℕ) → 4096 < length line → CausedRun {E = SinkFailed} None old new told told_now result → CausedLine {E = SinkFailed} line old new told told_now result
  long-refused line long h =
      let run : CausedRun {E = SinkFailed} (runs line) old new told told_now result = subst (λ o. CausedRun {E = SinkFailed} o old new told told_now result) (sym (long-runs line long)) h in
      subst (λ o. CausedOwn {E = SinkFailed} o line old new told told_now result) (sym (long-own line long)) run

  -- by what it asks
  pub own-as : (own known : Own) (line : List ℕ) → own ≡ known → CausedOwn {E = SinkFailed} (Some known) line old new told told_now result → CausedOwn {E = SinkFailed} (Some own) line old new told told_now result
  own-as own known line is h = subst (λ o. CausedOwn {E = SinkFailed} (Some o) line old new told told_now result) (sym is) h

  pub line-as : (line : List ℕ) (o : Option Own) → own_of line ≡ o → CausedOwn {E = SinkFailed} o line old new told told_now result → CausedLine {E = SinkFailed} line old new told told_now result
  line-as line o is h = subst (λ p. CausedOwn {E = SinkFailed} p line old new told told_now result) (sym is) h

  -- what is answered to a line is so to the line as it was given
  pub caused-as : (line given : List ℕ) → IsGivenAs line given → CausedLine {E = SinkFailed} given old new told told_now result → CausedLine {E = SinkFailed} line old new told told_now result
  caused-as line given (inl same) h = subst (λ l. CausedLine {E = SinkFailed} l old new told told_now result) same h
  caused-as line given (inr w) h = long-refused line (omega (arith, w.0, ap length w.1.1, length-append given w.1.0)) (refused-long given w.0 h)

-- ---- several lines

lines-more : (lines : List (List ℕ)) (line : List ℕ) (old mid new : State) (told told_mid told_now : Option (List ℕ)) → CausedLines lines old mid told told_mid → CausedLine {E = SinkFailed} line mid new told_mid told_now (Ok tt) →
    CausedLines (lines ++ line ∷ []) old new told told_now
lines-more [] line old mid new told told_mid told_now h cause = (
  new,
  told_now,
  subst (λ s. CausedLine {E = SinkFailed} line s new told told_now (Ok tt)) h.0 (subst (λ t. CausedLine {E = SinkFailed} line mid new t told_now (Ok tt)) h.1 cause),
  (refl, refl),
)
lines-more (first ∷ lines) line old mid new told told_mid told_now h cause = (h.0, h.1, h.2, lines-more lines line h.0 mid new h.1 told_mid told_now h.3 cause)

-- a line is in hand or none, and those before it were answered
pub record InHand (all : List (List ℕ)) (total : ℕ) (old new : State) (told told_now : Option (List ℕ)) (has_line : Bool) (state : LinesState) (left : Option (List ℕ)) : Type 0 where
  pub given : List (List ℕ)
  pub hand : List ℕ
  pub hand_is : IsGivenAs hand state.line
  pub rest : List ℕ
  pub rest_told : left ≡ Some rest
  pub within : IsLeft state rest (2 ^ 44) total
  pub order : given ++ with_hand has_line hand (lines_of (rest_in state rest)) ≡ all
  pub each : CausedLines given old new told told_now

-- the lines before those that are left were answered
pub record Between (all : List (List ℕ)) (total : ℕ) (old new : State) (told told_now : Option (List ℕ)) (state : LinesState) (left : Option (List ℕ)) : Type 0 where
  pub given : List (List ℕ)
  pub rest : List ℕ
  pub rest_told : left ≡ Some rest
  pub within : IsLeft state rest (2 ^ 44) total
  pub order : given ++ lines_of (rest_in state rest) ≡ all
  pub each : CausedLines given old new told told_now

-- before any line
pub lines-first : (total : ℕ) (old : State) (told : Option (List ℕ)) (in_hand : Bool) (state : LinesState) (left_now : Option (List ℕ)) (left hand : List ℕ) → left_now ≡ Some left → IsLeft state left (2 ^ 44) total → IsGivenAs hand state.line →
    InHand (with_hand in_hand hand (lines_of (rest_in state left))) total old old told told in_hand state left_now
lines-first total old told in_hand state left_now left hand told_left within is =
    record { given = []; hand = hand; hand_is = is; rest = left; rest_told = told_left; within = within; order = refl; each = (refl, refl) }

module _ (all : List (List ℕ)) (total : ℕ) (old mid new : State) (told told_mid told_now : Option (List ℕ)) (state : LinesState) (left : Option (List ℕ)) where
  -- the line in hand is answered
  pub line-answered : (has_line : Bool) → InHand all total old mid told told_mid has_line state left → CausedIf {E = SinkFailed} has_line state.line mid new told_mid told_now (Ok tt) → Between all total old new told told_now state left
  line-answered true h cause = record {
    given = h.given ++ h.hand ∷ [];
    rest = h.rest;
    rest_told = h.rest_told;
    within = h.within;
    order = append_assoc h.given (h.hand ∷ []) (lines_of (rest_in state h.rest)) ∙ h.order;
    each = lines-more h.given h.hand old mid new told told_mid told_now h.each (caused-as mid new told_mid told_now (Ok tt) h.hand state.line h.hand_is cause);
  }
  line-answered false h none = record {
    given = h.given;
    rest = h.rest;
    rest_told = h.rest_told;
    within = h.within;
    order = h.order;
    each = subst (λ s. CausedLines h.given old s told told_now) (sym none.0) (subst (λ t. CausedLines h.given old mid told t) (sym none.1) h.each);
  }

  -- the sink fails in its answer
  pub line-into : (has_line : Bool) (failed : SinkFailed) (left_now : Option (List ℕ)) → InHand all total old mid told told_mid has_line state left → CausedIf {E = SinkFailed} has_line state.line mid new told_mid told_now (Err failed) →
      EndsBy (λ front whole. CausedBy front whole old new told told_now) all total left_now OutWrite
  line-into true failed left_now h cause = (
    h.given ++ h.hand ∷ [],
    lines_of (rest_in state h.rest),
    append_assoc h.given (h.hand ∷ []) (lines_of (rest_in state h.rest)) ∙ h.order,
    record {
      before = h.given;
      last = h.hand;
      split = refl;
      mid = mid;
      told_mid = told_mid;
      each = h.each;
      failed = failed;
      cause = caused-as mid new told_mid told_now (Err failed) h.hand state.line h.hand_is cause;
    },
  )
  line-into false failed left_now h none =
      let wrong : Err failed ≡ Ok tt = none.2 in
      cc

module _ (all : List (List ℕ)) (total : ℕ) (old now : State) (told told_now : Option (List ℕ)) (state new : LinesState) (left left_now : Option (List ℕ)) (source source_now : ℕ) (h : Between all total old now told told_now state left) where
  -- the next line is given
  pub lines-next : AsksNext state left source (Ok true) new left_now source_now → InHand all total old now told told_now true new left_now
  lines-next asks =
      let g = asks.gives h.rest h.rest_told (2 ^ 44) total h.within in
      let line = g.2.1 in
      record { given = h.given; hand = line.0; hand_is = line.1; rest = g.0; rest_told = g.1; within = g.2.0; order = ap (λ ls. h.given ++ ls) (sym line.2) ∙ h.order; each = h.each }

  -- .. or none is left
  pub lines-done : AsksNext state left source (Ok false) new left_now source_now → EndsBy (λ front whole. CausedBy front whole old now told told_now) all total left_now Done
  lines-done asks =
      let g = asks.gives h.rest h.rest_told (2 ^ 44) total h.within in
      let same : h.given ≡ all = sym (append-nil h.given) ∙ (ap (λ ls. h.given ++ ls) (sym g.2.0) ∙ h.order) in
      (subst (λ lines. CausedLines lines old now told told_now) same h.each, g.1 ∙ ap Some g.2.1)

  -- .. or the input fails
  pub lines-failed : (fault : LinesFault) → AsksNext state left source (Err fault) new left_now source_now → EndsBy (λ front whole. CausedBy front whole old now told told_now) all total left_now (reading_status fault)
  lines-failed Failed asks = (h.given, lines_of (rest_in state h.rest), h.order, h.each)
  lines-failed Long asks = let g = asks.gives h.rest h.rest_told (2 ^ 44) total h.within in (g.2, (h.given, lines_of (rest_in state h.rest), h.order, h.each))
