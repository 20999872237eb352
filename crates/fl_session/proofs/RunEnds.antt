-- How a run ends, from how its configuration was read, how its image was opened and how its commands were run.
use Rattle.std.proofs.Common.{◌≡◌, ℕ, ◌+◌, ◌<◌, ◌≤◌, Bool, true, false, inl, inr, Option, Some, None, List, [], ◌∷◌, ◌++◌, length, take, drop, refl, sym, ◌∙◌, ap, subst, append_assoc, append-nil, length-append, arith, if◌then◌else◌, lt-ltb, le-ltb, ltb-false, ltb-true}
use Rattle.std.proofs.Math.Seq.{take-append-add, drop-append-add, drop-append_seam}
use Rattle.fl_model.specs.Record.{Config}
use Rattle.fl_flash.specs.Media.{MediaState}
use Rattle.fl_words.specs.Command.{Command}
use Rattle.fl_words.specs.Config.{Lines, whole}
use Rattle.fl_machine.specs.Machine.{Machine}
use Rattle.fl_machine.specs.Script.{Start, Ready, Unended, BadLine, BadConfig, start_with, start_of, ended, StandsFor, StandsAfter, RoseBy}
use Rattle.fl_machine.specs.WholeReads.{RanReading, RanIntoReading}
use Rattle.fl_lines.specs.Texts.{most_bytes, whole_lines, rest_of, lines_read, lines_within, is_long}
use Rattle.fl_lines.specs.Stream.{LinesState}
use Rattle.fl_ends.specs.declared.pending.PendingRows.{PendingRows}
use Rattle.fl_ends.specs.declared.run.Status.{Status}
use Rattle.fl_ends.specs.declared.run.Status.TheVariants.{Done, Line, ScriptRead, OutWrite, MediaMake, Config as BadConfiguration, OtherConfig, ScriptLong}
use Rattle.fl_session.specs.Execute.{Around, IsReady, StandsAlike, RanAll, RanPart}
use Rattle.fl_session.specs.Loop.{Tail, TakesTail, TailTakes, lines_in, EndsCommands}
use Rattle.fl_session.specs.Taken.{TakesLine, TakesBegin, IsUnended}
use Rattle.fl_lines.specs.Taken.{HasTaken, TakesFew, begin_behind}
use Rattle.fl_lines.proofs.LinesInTurn.{begin-fits}
use Rattle.std.proofs.lemmas.List.Sums.{sum_by-append}
use Rattle.std.proofs.lemmas.Bool.{false_from_ne_true}
use Rattle.fl_script.specs.declared.command.Command as code
use Rattle.fl_store.specs.NewImage.{made_image}
use Rattle.fl_session.specs.Run.{tail_of, RanFrom, RunsFrom, IsOfCommands}
use Rattle.fl_session.specs.Begin.{AtCommand, AtEnd, EndsBegin, BeginsAt}
use Rattle.fl_session.specs.Ends.{Told, IsOwn, IsFormed, RunsAll, RunsInto, effects_of, Ends, IsEarlyBy}
use Rattle.fl_session.specs.Pending.{EndsAt}
use Rattle.fl_session.specs.ScriptEnds.{Effects, unsaid, start_in, EndsEarly, EndsDone, EndsLine, EndsInto, EndsConfig, EndsMaking, EndsOther, EndsWith, ScriptEnds}
use Rattle.fl_session.proofs.ConfigLines.{command-takes}
use Rattle.fl_session.proofs.NextCommand.{ran-seen, ran_into-seen}
use Rattle.fl_session.proofs.Ready.{after-alike}
use Rattle.fl_session.proofs.Plainly.{ran-plainly, ran_into-plainly}

unended-untouched : (effects : Effects) (start : Start) → IsUnended start → effects.untouched → EndsEarly effects start
unended-untouched effects (Unended config n) u h = h
unended-untouched effects (Ready config n lines) u h = absurd u
unended-untouched effects (BadLine n) u h = absurd u
unended-untouched effects (BadConfig n) u h = absurd u

-- the run ends while the configuration is read
pub ends-in_begin : (effects : Effects) (knots : ℕ) (text : List ℕ) (left : Option (List ℕ)) (status : Status) → EndsBegin knots text left status → effects.untouched → EndsWith effects knots text left status
ends-in_begin effects knots text left (Line n) h u = (subst (λ s. EndsLine effects s n) (sym h.0) (refl, u), h.1)
ends-in_begin effects knots text left (BadConfiguration n) h u = (subst (λ s. EndsConfig effects s n) (sym h.0) (refl, u), h.1)
ends-in_begin effects knots text left ScriptRead h u = record {
  taken = h.taken;
  within = h.within;
  most = h.few;
  short = h.short;
  left = h.left;
  ends = unended-untouched effects (start_of knots (whole_lines (take h.taken text))) h.unended u;
}
ends-in_begin effects knots text left ScriptLong h u = (h.0, unended-untouched effects (start_of knots (lines_read text)) h.1 u, h.2)
ends-in_begin effects knots text left status h u = absurd h

start-of_lines : (knots : ℕ) (text : List ℕ) (now : Lines) (number : ℕ) (state : LinesState) (left_now : Option (List ℕ)) (config : Config) →
    (a : AtCommand knots text now number state left_now) → whole knots now ≡ Some config → start_of knots (lines_read text) ≡ Ready config number (state.line ∷ lines_within state.most (state.ahead ++ a.left))
start-of_lines knots text now number state left_now config a w =
    let others = lines_within state.most (state.ahead ++ a.left) in
    ap (start_of knots) (a.given.lines ∙ append_assoc a.before (state.line ∷ []) others)
    ∙ (a.starts others ∙ ap (λ x. start_with x number (state.line ∷ others)) w)

in-of_lines : (knots : ℕ) (text : List ℕ) (config : Config) (n : ℕ) (lines : List (List ℕ)) → start_of knots (lines_read text) ≡ Ready config n lines → start_in knots text ≡ Ready config n lines
in-of_lines knots text config n lines e = by_test (is_long text)
  where
    by_test : (b : Bool) → (if b then start_of knots (lines_read text) else ended (start_of knots (lines_read text))) ≡ Ready config n lines
    by_test true = e
    by_test false = ap ended e

pub start-at_command : (knots : ℕ) (text : List ℕ) (now : Lines) (number : ℕ) (state : LinesState) (left_now : Option (List ℕ)) (config : Config) →
    (a : AtCommand knots text now number state left_now) → whole knots now ≡ Some config → start_in knots text ≡ Ready config number (state.line ∷ lines_within state.most (state.ahead ++ a.left))
start-at_command knots text now number state left_now config a w =
    in-of_lines knots text config number (state.line ∷ lines_within state.most (state.ahead ++ a.left)) (start-of_lines knots text now number state left_now config a w)

pub start-at_end : (knots : ℕ) (text : List ℕ) (now : Lines) (number : ℕ) (left_now : Option (List ℕ)) (config : Config) → AtEnd knots text now number left_now → whole knots now ≡ Some config → start_in knots text ≡ Ready config number []
start-at_end knots text now number left_now config a w =
    ap (λ b. if b then start_of knots (lines_read text) else ended (start_of knots (lines_read text))) (le-ltb most_bytes (length text) a.short)
    ∙ (ap ended a.starts ∙ ap (λ x. start_with x number []) w)

-- what was run in the session is what was run over the medium, and the status tells what is pending
pub record Over (config : Config) (told : Told) (status : Status) (around : Around) (stands stands_now : Machine → Type 0) : Type 0 where
  pub config_is : around.config ≡ config
  pub content : around.content ≡ made_image config told.content
  pub content_now : around.content_now ≡ told.content_now
  pub faults_now : around.faults_now ≡ told.faults_now
  pub faults : told.faults ≤ around.faults
  pub reads_now : around.reads_now ≡ told.reads_now
  pub reads : around.reads ≤ told.reads + 1
  pub written : around.told ≡ told.written
  pub written_now : around.told_now ≡ told.written_now
  pub own : IsOwn config told.content
  pub formed : IsFormed config told.content_now
  pub begins : (old : Machine) → StandsFor config told.content old → stands old × IsReady config old
  pub ends : (m : Machine) → stands_now m → EndsAt config status told.content_now m

pub rose-earlier : (n before mid now : ℕ) → before ≤ mid → RoseBy n mid now → RoseBy n before now
rose-earlier n before mid now h (inl k) = inl (omega arith)
rose-earlier n before mid now h (inr k) = inr k

ran-earlier : (config : Config) (old : Machine) (commands : List Command) (stands : Machine → Type 0) (content content_now : List ℕ) (before mid now reads reads_mid reads_now : ℕ) (told told_now : Option (List ℕ)) → before ≤ mid → reads_mid ≤ reads →
    RanReading config old commands stands content content_now mid now reads_mid reads_now told told_now → RanReading config old commands stands content content_now before now reads reads_now told told_now
ran-earlier config old commands stands content content_now before mid now reads reads_mid reads_now told told_now e few (h, within) = (
  record {
    moments = h.moments;
    commands_are = h.commands_are;
    run = h.run;
    stands_after = h.stands_after;
    reads = h.reads;
    stays = h.stays;
    rose = rose-earlier _ before mid now e h.rose;
    found = h.found;
    kept = h.kept;
    told_all = h.told_all;
  },
  λ low. omega (arith, within low, few),
)

ran_into-earlier : (config : Config) (old : Machine) (commands : List Command) (stands : Machine → Type 0) (content content_now : List ℕ) (before mid now reads reads_mid reads_now : ℕ) (told told_now : Option (List ℕ)) → before ≤ mid → reads_mid ≤ reads →
    RanIntoReading config old commands stands content content_now mid now reads_mid reads_now told told_now → RanIntoReading config old commands stands content content_now before now reads reads_now told told_now
ran_into-earlier config old commands stands content content_now before mid now reads reads_mid reads_now told told_now e few (h, within) = (
  record {
    moments = h.moments;
    commands_are = h.commands_are;
    run = h.run;
    stands_after = h.stands_after;
    limits = h.limits;
    few = h.few;
    stays = h.stays;
    rose = rose-earlier _ before mid now e h.rose;
    found = h.found;
    kept = h.kept;
    before = h.before;
    last = h.last;
    split = h.split;
    exact = h.exact;
    front = h.front;
    is_front = h.is_front;
    told_front = h.told_front;
  },
  λ low. omega (arith, within low, few),
)

-- where commands were run from each state, they were run as the plain machine does if nothing fails
runs-with : (config : Config) (commands : List Command) (told : Told) (status : Status) → IsOwn config told.content → IsFormed config told.content_now →
    ((old : Machine) → StandsFor config told.content old → RanReading config old commands (EndsAt config status told.content_now) (made_image config told.content) told.content_now told.faults told.faults_now (told.reads + 1) told.reads_now told.written told.written_now) → RunsAll config commands told status
runs-with config commands told status own formed runs = record {
  own = own;
  formed = formed;
  runs = runs;
  plain = λ calm old s uncut. ran-plainly config old commands status (made_image config told.content) told.content_now told.faults told.faults_now told.written told.written_now calm uncut (runs old s).0;
}

run-over : (config : Config) (told : Told) (status : Status) (around : Around) (stands stands_now : Machine → Type 0) (commands : List Command) → Over config told status around stands stands_now → RanAll around stands stands_now commands →
    (old : Machine) → StandsFor config told.content old → RanReading config old commands (EndsAt config status told.content_now) (made_image config told.content) told.content_now told.faults told.faults_now (told.reads + 1) told.reads_now told.written told.written_now
run-over config told status around stands stands_now commands o h old s =
    let b = o.begins old s in
    let ran = h old b.0 (subst (λ c. IsReady c old) (sym o.config_is) b.1) in
    let seen = ran-seen around.config old commands stands_now (EndsAt config status told.content_now) around.content around.content_now around.faults around.faults_now around.reads around.reads_now around.told around.told_now o.ends ran in
    let earlier = ran-earlier around.config old commands (EndsAt config status told.content_now) around.content around.content_now told.faults around.faults around.faults_now (told.reads + 1) around.reads around.reads_now around.told around.told_now o.faults o.reads seen in
    subst (λ c. RanReading c old commands (EndsAt config status told.content_now) (made_image config told.content) told.content_now told.faults told.faults_now (told.reads + 1) told.reads_now told.written told.written_now) o.config_is
    (subst (λ b. RanReading around.config old commands (EndsAt config status told.content_now) b told.content_now told.faults told.faults_now (told.reads + 1) told.reads_now told.written told.written_now) o.content
    (subst (λ b. RanReading around.config old commands (EndsAt config status told.content_now) around.content b told.faults told.faults_now (told.reads + 1) told.reads_now told.written told.written_now) o.content_now
    (subst (λ f. RanReading around.config old commands (EndsAt config status told.content_now) around.content around.content_now told.faults f (told.reads + 1) told.reads_now told.written told.written_now) o.faults_now
    (subst (λ r. RanReading around.config old commands (EndsAt config status told.content_now) around.content around.content_now told.faults around.faults_now (told.reads + 1) r told.written told.written_now) o.reads_now
    (subst (λ t. RanReading around.config old commands (EndsAt config status told.content_now) around.content around.content_now told.faults around.faults_now (told.reads + 1) around.reads_now t told.written_now) o.written
    (subst (λ t. RanReading around.config old commands (EndsAt config status told.content_now) around.content around.content_now told.faults around.faults_now (told.reads + 1) around.reads_now around.told t) o.written_now earlier))))))

pub runs-all : (config : Config) (told : Told) (status : Status) (around : Around) (stands stands_now : Machine → Type 0) (commands : List Command) → Over config told status around stands stands_now → RanAll around stands stands_now commands → RunsAll config commands told status
runs-all config told status around stands stands_now commands o h = runs-with config commands told status o.own o.formed (run-over config told status around stands stands_now commands o h)

run-over_into : (config : Config) (told : Told) (status : Status) (around : Around) (stands stands_now : Machine → Type 0) (commands : List Command) → Over config told status around stands stands_now → RanPart around stands stands_now commands →
    (old : Machine) → StandsFor config told.content old → RanIntoReading config old commands (StandsAfter config (Some told.content_now)) (made_image config told.content) told.content_now told.faults told.faults_now (told.reads + 1) told.reads_now told.written told.written_now
run-over_into config told status around stands stands_now commands o h old s =
    let b = o.begins old s in
    let ran = h old b.0 (subst (λ c. IsReady c old) (sym o.config_is) b.1) in
    let seen = ran_into-seen around.config old commands (StandsAlike stands_now) (StandsAfter config (Some told.content_now)) around.content around.content_now around.faults around.faults_now around.reads around.reads_now around.told around.told_now
    (after-alike config (Some told.content_now) stands_now (λ m s. (o.ends m s).0)) ran in
    let earlier = ran_into-earlier around.config old commands (StandsAfter config (Some told.content_now)) around.content around.content_now told.faults around.faults around.faults_now (told.reads + 1) around.reads around.reads_now around.told around.told_now o.faults o.reads seen in
    subst (λ c. RanIntoReading c old commands (StandsAfter config (Some told.content_now)) (made_image config told.content) told.content_now told.faults told.faults_now (told.reads + 1) told.reads_now told.written told.written_now) o.config_is
    (subst (λ b. RanIntoReading around.config old commands (StandsAfter config (Some told.content_now)) b told.content_now told.faults told.faults_now (told.reads + 1) told.reads_now told.written told.written_now) o.content
    (subst (λ b. RanIntoReading around.config old commands (StandsAfter config (Some told.content_now)) around.content b told.faults told.faults_now (told.reads + 1) told.reads_now told.written told.written_now) o.content_now
    (subst (λ f. RanIntoReading around.config old commands (StandsAfter config (Some told.content_now)) around.content around.content_now told.faults f (told.reads + 1) told.reads_now told.written told.written_now) o.faults_now
    (subst (λ r. RanIntoReading around.config old commands (StandsAfter config (Some told.content_now)) around.content around.content_now told.faults around.faults_now (told.reads + 1) r told.written told.written_now) o.reads_now
    (subst (λ t. RanIntoReading around.config old commands (StandsAfter config (Some told.content_now)) around.content around.content_now told.faults around.faults_now (told.reads + 1) around.reads_now t told.written_now) o.written
    (subst (λ t. RanIntoReading around.config old commands (StandsAfter config (Some told.content_now)) around.content around.content_now told.faults around.faults_now (told.reads + 1) around.reads_now around.told t) o.written_now earlier))))))

pub runs-into : (config : Config) (told : Told) (status : Status) (around : Around) (stands stands_now : Machine → Type 0) (commands : List Command) → Over config told status around stands stands_now → RanPart around stands stands_now commands → RunsInto config commands told
runs-into config told status around stands stands_now commands o h = record {
  own = o.own;
  formed = o.formed;
  runs = run-over_into config told status around stands stands_now commands o h;
  plain = λ calm old s uncut. ran_into-plainly config old commands (made_image config told.content) told.content_now told.faults told.faults_now told.written told.written_now calm uncut (run-over_into config told status around stands stands_now commands o h old s).0;
}

-- the lines up to a place behind the command that ended the configuration
start-behind : (knots : ℕ) (text : List ℕ) (now : Lines) (number : ℕ) (state : LinesState) (left_now : Option (List ℕ)) (config : Config) (more : List (List ℕ)) →
    (a : AtCommand knots text now number state left_now) → whole knots now ≡ Some config → start_of knots (a.before ++ state.line ∷ more) ≡ Ready config number (state.line ∷ more)
start-behind knots text now number state left_now config more a w = a.starts more ∙ ap (λ x. start_with x number (state.line ∷ more)) w

-- the bytes that were taken
taken-whole : (knots : ℕ) (text : List ℕ) (now : Lines) (number : ℕ) (state : LinesState) (left_now : Option (List ℕ)) (n : ℕ) (a : AtCommand knots text now number state left_now) → state.closed ≡ false →
    (take (length a.given.front + n) text ≡ a.given.front ++ take n (state.ahead ++ a.left)) × (drop (length a.given.front + n) text ≡ drop n (state.ahead ++ a.left))
taken-whole knots text now number state left_now n a o = (
  ap (take (length a.given.front + n)) (a.given.split o) ∙ take-append-add a.given.front (state.ahead ++ a.left) n,
  ap (drop (length a.given.front + n)) (a.given.split o) ∙ drop-append-add a.given.front (state.ahead ++ a.left) n,
)

-- what was taken of the text of a tail is taken of the whole text
tail-few : (knots : ℕ) (text : List ℕ) (now : Lines) (number : ℕ) (state : LinesState) (left_now : Option (List ℕ)) (before others : List (List ℕ)) (left : Option (List ℕ)) →
    (a : AtCommand knots text now number state left_now) → lines_in (tail_of number state a.left) ≡ before ++ others → TakesTail (tail_of number state a.left) before left → TakesFew text (a.before ++ before) left
tail-few knots text now number state left_now [] others left a split h =
    let same : left ≡ left_now = h ∙ (ap Some (drop-append_seam state.ahead a.left) ∙ sym a.left_is) in
    subst (λ ls. TakesFew text ls left) (sym (append-nil a.before)) (subst (λ l. TakesFew text a.before l) (sym same) a.few)
tail-few knots text now number state left_now (first ∷ given) others left a split h =
    let rest = state.ahead ++ a.left in
    let first_is : state.line ≡ first = same_head split in
    let behind : begin_behind (a.before ++ first ∷ given) ≡ begin_behind (a.before ++ state.line ∷ []) + begin_behind given =
    ap begin_behind (sym (append_assoc a.before (first ∷ []) given) ∙ ap (λ l. (a.before ++ l ∷ []) ++ given) (sym first_is)) ∙ sum_by-append (λ (l : List ℕ). length l + 1) (a.before ++ state.line ∷ []) given in
    let fits = begin-fits most_bytes text (a.before ++ state.line ∷ []) state.closed state.most rest h.taken a.given h.within (omega (arith, h.few)) in
    record {
      taken = length a.given.begin + h.taken;
      within = omega (arith, h.within, ap length a.given.parts, length-append a.given.begin rest);
      few = omega (arith, h.few, a.given.size, behind, fits);
      left = h.left ∙ ap Some (sym (ap (drop (length a.given.begin + h.taken)) a.given.parts ∙ drop-append-add a.given.begin rest h.taken));
    }
  where
    same_head : {x y : List ℕ} {xs ys : List (List ℕ)} → x ∷ xs ≡ y ∷ ys → x ≡ y
    same_head e = cc

tail-line : (knots : ℕ) (text : List ℕ) (now : Lines) (number : ℕ) (state : LinesState) (left_now : Option (List ℕ)) (n : ℕ) (left : Option (List ℕ)) →
    (a : AtCommand knots text now number state left_now) → TailTakes (tail_of number state a.left) n left → TakesLine text n left
tail-line knots text now number state left_now n left a h = record {
  before = a.before ++ h.before;
  others = h.others;
  split =
      a.given.lines
      ∙ (append_assoc a.before (state.line ∷ []) (lines_within state.most (state.ahead ++ a.left))
      ∙ (ap (λ ls. a.before ++ ls) h.split ∙ sym (append_assoc a.before h.before h.others)));
  number_is = omega (arith, h.number_is, a.numbered, length-append a.before h.before);
  few = tail-few knots text now number state left_now h.before h.others left a h.split h.few;
}

-- .. where it is too long
tail-over : (knots : ℕ) (text : List ℕ) (now : Lines) (number : ℕ) (state : LinesState) (left_now : Option (List ℕ)) (left : Option (List ℕ)) →
    (a : AtCommand knots text now number state left_now) → state.most < length (state.ahead ++ a.left) → HasTaken (state.ahead ++ a.left) (state.most + 1) left → HasTaken text (most_bytes + 1) left
tail-over knots text now number state left_now left a more h =
    let rest = state.ahead ++ a.left in
    let o : state.closed ≡ false = false_from_ne_true state.closed (λ c. omega (arith, more, ap length (a.given.ended c))) in
    let same : length a.given.begin ≡ length a.given.front = omega (arith, ap length a.given.parts, length-append a.given.begin rest, ap length (a.given.split o), length-append a.given.front rest) in
    record {
      taken = length a.given.begin + h.taken;
      within = omega (arith, h.within, ap length a.given.parts, length-append a.given.begin rest);
      few = omega (arith, h.few, a.given.bytes o, same);
      left = h.left ∙ ap Some (sym (ap (drop (length a.given.begin + h.taken)) a.given.parts ∙ drop-append-add a.given.begin rest h.taken));
    }

-- what is said of the commands that were run is said of the whole run
ends-of_commands : (effects : Effects) (knots : ℕ) (text : List ℕ) (now : Lines) (number : ℕ) (state : LinesState) (left left_now : Option (List ℕ)) (config : Config) (status : Status) →
    (a : AtCommand knots text now number state left) → whole knots now ≡ Some config →
    EndsCommands (tail_of number state a.left) left_now (effects.all config) (effects.into config) status → EndsWith effects knots text left_now status
ends-of_commands effects knots text now number state left left_now config (Done pending) a w h = (
  ltb-false most_bytes (length text) (a.given.long ∙ le-ltb state.most (length (state.ahead ++ a.left)) h.0),
  subst (λ x. EndsDone effects x) (sym (start-at_command knots text now number state left config a w)) (h.1.accepts, h.1.runs),
  h.2,
)
ends-of_commands effects knots text now number state left left_now config (Line n) a w h =
    (subst (λ x. EndsLine effects x n) (sym (start-at_command knots text now number state left config a w)) (h.0.refuses, h.0.runs), tail-line knots text now number state left n left_now a h.1)
ends-of_commands effects knots text now number state left left_now config ScriptRead a w h =
    let t = taken-whole knots text now number state left h.taken a h.is_open in
    let count : length text ≡ length a.given.front + length (state.ahead ++ a.left) = ap length (a.given.split h.is_open) ∙ length-append a.given.front (state.ahead ++ a.left) in
    let lines : whole_lines (take (length a.given.front + h.taken) text) ≡ a.before ++ state.line ∷ whole_lines (take h.taken (state.ahead ++ a.left)) =
    ap whole_lines t.0
    ∙ (a.given.whole h.is_open (take h.taken (state.ahead ++ a.left)) ∙ append_assoc a.before (state.line ∷ []) (whole_lines (take h.taken (state.ahead ++ a.left)))) in
    record {
      taken = length a.given.front + h.taken;
      within = omega (arith, h.within);
      most = omega (arith, a.given.bytes h.is_open, h.few);
      short = omega (arith, h.short, ap length (ap rest_of t.0 ∙ a.given.behind h.is_open (take h.taken (state.ahead ++ a.left))));
      left = h.left ∙ ap Some (sym t.1);
      ends =
          subst (λ x. EndsEarly effects x)
          (sym (ap (start_of knots) lines ∙ start-behind knots text now number state left config (whole_lines (take h.taken (state.ahead ++ a.left))) a w))
          (h.accepts, h.runs);
    }
ends-of_commands effects knots text now number state left left_now config OutWrite a w h =
    subst (λ x. EndsInto effects text x left_now) (sym (start-at_command knots text now number state left config a w))
    (record {
      commands = h.commands;
      others = h.others;
      split = h.split;
      runs = h.runs;
      number = h.number;
      number_is = h.number_is;
      takes = tail-line knots text now number state left h.number left_now a h.takes;
    })
ends-of_commands effects knots text now number state left left_now config ScriptLong a w h = (
  ltb-true most_bytes (length text) (a.given.long ∙ lt-ltb state.most (length (state.ahead ++ a.left)) h.0),
  subst (λ x. EndsEarly effects x) (sym (start-of_lines knots text now number state left config a w)) (h.1.accepts, h.1.runs),
  tail-over knots text now number state left left_now a h.0 h.2,
)
ends-of_commands effects knots text now number state left left_now config status a w h = absurd h

-- a script without commands
ends-empty : (effects : Effects) (knots : ℕ) (text : List ℕ) (now : Lines) (number : ℕ) (config : Config) (left : Option (List ℕ)) (pending : PendingRows) → AtEnd knots text now number left → whole knots now ≡ Some config → effects.all config [] → EndsWith effects knots text left (Done pending)
ends-empty effects knots text now number config left pending a w none = (a.short, subst (λ x. EndsDone effects x) (sym (start-at_end knots text now number left config a w)) (refl, none), a.nothing)

all-seen : (around : Around) (s s' r r' : Machine → Type 0) (commands : List Command) → ((m : Machine) → r m → s m) → ((m : Machine) → s' m → r' m) → RanAll around s s' commands → RanAll around r r' commands
all-seen around s s' r r' commands f g h old k ready =
    ran-seen around.config old commands s' r' around.content around.content_now around.faults around.faults_now around.reads around.reads_now around.told around.told_now g (h old (f old k) ready)

part-seen : (around : Around) (s s' r r' : Machine → Type 0) (commands : List Command) → ((m : Machine) → r m → s m) → ((m : Machine) → s' m → r' m) → RanPart around s s' commands → RanPart around r r' commands
part-seen around s s' r r' commands f g h old k ready =
    ran_into-seen around.config old commands (StandsAlike s') (StandsAlike r') around.content around.content_now around.faults around.faults_now around.reads around.reads_now around.told around.told_now (λ m a. (a.0, g a.0 a.1, a.2)) (h old (f old k) ready)

-- the same commands, of which something else is said that follows
pub commands-seen : (tail : Tail) (left : Option (List ℕ)) (All Part Now Into : List Command → Type 0) (status : Status) → ((commands : List Command) → All commands → Now commands) → ((commands : List Command) → Part commands → Into commands) →
    EndsCommands tail left All Part status → EndsCommands tail left Now Into status
commands-seen tail left All Part Now Into (Done pending) f g h = (h.0, record { accepts = h.1.accepts; runs = f _ h.1.runs }, h.2)
commands-seen tail left All Part Now Into (Line n) f g h = (record { refuses = h.0.refuses; runs = f _ h.0.runs }, h.1)
commands-seen tail left All Part Now Into ScriptRead f g h =
    record { is_open = h.is_open; taken = h.taken; within = h.within; few = h.few; short = h.short; left = h.left; accepts = h.accepts; runs = f _ h.runs }
commands-seen tail left All Part Now Into OutWrite f g h =
    record { commands = h.commands; others = h.others; split = h.split; number = h.number; number_is = h.number_is; takes = h.takes; runs = g h.commands h.runs }
commands-seen tail left All Part Now Into ScriptLong f g h = (h.0, record { accepts = h.1.accepts; runs = f _ h.1.runs }, h.2)
commands-seen tail left All Part Now Into status f g h = absurd h

pub runs-seen : (first : Option code.Command) (number : ℕ) (state : LinesState) (left left_now : Option (List ℕ)) (All Part Now Into : List Command → Type 0) (status : Status) → ((commands : List Command) → All commands → Now commands) → ((commands : List Command) → Part commands → Into commands) →
    RunsFrom first number state left left_now All Part status → RunsFrom first number state left left_now Now Into status
runs-seen None number state left left_now All Part Now Into status f g h = record { pending = h.pending; done = h.done; untaken = h.untaken; runs = f [] h.runs }
runs-seen (Some first) number state left left_now All Part Now Into status f g h = λ l e ended. commands-seen (tail_of number state l) left_now All Part Now Into status f g (h l e ended)

-- .. seen through other relations to the states before and after them
pub ran-through : (first : Option code.Command) (number : ℕ) (state : LinesState) (left left_now : Option (List ℕ)) (around : Around) (s s' r r' : Machine → Type 0) (status : Status) → ((m : Machine) → r m → s m) → ((m : Machine) → s' m → r' m) →
    RanFrom first number state left left_now around s s' status → RanFrom first number state left left_now around r r' status
ran-through first number state left left_now around s s' r r' status f g h =
    runs-seen first number state left left_now (λ commands. RanAll around s s' commands) (λ commands. RanPart around s s' commands) (λ commands. RanAll around r r' commands) (λ commands. RanPart around r r' commands) status
    (λ commands ran. all-seen around s s' r r' commands f g ran) (λ commands ran. part-seen around s s' r r' commands f g ran) h

-- how a run ends over an image that was opened
pub ends-of_run : (effects : Effects) (knots : ℕ) (text : List ℕ) (now : Lines) (first : Option code.Command) (number : ℕ) (state : LinesState) (left left_now : Option (List ℕ)) (config : Config) (status : Status) →
    BeginsAt knots text now first number state left → whole knots now ≡ Some config →
    RunsFrom first number state left left_now (effects.all config) (effects.into config) status → EndsWith effects knots text left_now status
ends-of_run effects knots text now None number state left left_now config status a w h =
    subst (λ x. EndsWith effects knots text left_now x) (sym h.done)
    (subst (λ l. EndsWith effects knots text l (Done h.pending)) (sym h.untaken)
    (ends-empty effects knots text now number config left h.pending a w h.runs))
ends-of_run effects knots text now (Some first) number state left left_now config status a w h =
    ends-of_commands effects knots text now number state left left_now config status a w (h a.left a.left_is a.given.ended)

-- .. over a medium that tells its content
pub ends-over : (knots : ℕ) (text : List ℕ) (now : Lines) (first : Option code.Command) (number : ℕ) (state : LinesState) (left : Option (List ℕ)) (config : Config) (told : Told) (around : Around) (stands stands_now : Machine → Type 0) (status : Status) →
    BeginsAt knots text now first number state left → whole knots now ≡ Some config → Over config told status around stands stands_now →
    RanFrom first number state left told.left_now around stands stands_now status → Ends knots text told status
ends-over knots text now first number state left config told around stands stands_now status a w o h =
    ends-of_run (effects_of told status) knots text now first number state left told.left_now config status a w
    (runs-seen first number state left told.left_now (λ commands. RanAll around stands stands_now commands) (λ commands. RanPart around stands stands_now commands)
    (λ commands. RunsAll config commands told status) (λ commands. RunsInto config commands told) status
    (λ commands ran. runs-all config told status around stands stands_now commands o ran) (λ commands ran. runs-into config told status around stands stands_now commands o ran) h)

-- .. and over any
pub script-over : (knots : ℕ) (text : List ℕ) (now : Lines) (first : Option code.Command) (number : ℕ) (state : LinesState) (left left_now : Option (List ℕ)) (config : Config) (All Part : List Command → Type 0) (status : Status) →
    BeginsAt knots text now first number state left → whole knots now ≡ Some config → RunsFrom first number state left left_now All Part status → ScriptEnds knots text left_now status
script-over knots text now first number state left left_now config All Part status a w h =
    ends-of_run unsaid knots text now first number state left left_now config status a w
    (runs-seen first number state left left_now All Part (λ commands. Unit {0}) (λ commands. Unit {0}) status (λ commands ran. tt) (λ commands ran. tt) h)

-- the configuration is ready
pub begins-ready : (knots : ℕ) (text : List ℕ) (now : Lines) (first : Option code.Command) (number : ℕ) (state : LinesState) (left : Option (List ℕ)) (config : Config) → BeginsAt knots text now first number state left → whole knots now ≡ Some config →
    (n : ℕ) × (lines : List (List ℕ)) × (start_in knots text ≡ Ready config n lines)
begins-ready knots text now None number state left config a w = (number, [], start-at_end knots text now number left config a w)
begins-ready knots text now (Some first) number state left config a w = (number, state.line ∷ lines_within state.most (state.ahead ++ a.left), start-at_command knots text now number state left config a w)

-- what was taken then
pub begins-takes : (knots : ℕ) (text : List ℕ) (now : Lines) (first : Option code.Command) (number : ℕ) (state : LinesState) (left : Option (List ℕ)) → BeginsAt knots text now first number state left → TakesBegin knots text left
begins-takes knots text now None number state left a = a.takes
begins-takes knots text now (Some first) number state left a = command-takes knots text now number state left a

-- how a run ends whose image isn't opened
pub ends-making : (effects : Effects) (knots : ℕ) (text : List ℕ) (now : Lines) (first : Option code.Command) (number : ℕ) (state : LinesState) (left : Option (List ℕ)) (config : Config) →
    BeginsAt knots text now first number state left → whole knots now ≡ Some config → effects.making config → EndsWith effects knots text left MediaMake
ends-making effects knots text now first number state left config a w h =
    let ready = begins-ready knots text now first number state left config a w in (subst (λ s. EndsMaking effects s) (sym ready.2) h, begins-takes knots text now first number state left a)

pub ends-other : (effects : Effects) (knots : ℕ) (text : List ℕ) (now : Lines) (first : Option code.Command) (number : ℕ) (state : LinesState) (left : Option (List ℕ)) (config : Config) (wanted found at : ℕ) →
    BeginsAt knots text now first number state left → whole knots now ≡ Some config → effects.other config wanted found at → EndsWith effects knots text left (OtherConfig wanted found at)
ends-other effects knots text now first number state left config wanted found at a w h =
    let ready = begins-ready knots text now first number state left config a w in (subst (λ s. EndsOther effects s wanted found at) (sym ready.2) h, begins-takes knots text now first number state left a)

-- the statuses of the commands aren't early
pub commands-early : (old new : MediaState) (told told_now : Option (List ℕ)) (status : Status) → IsOfCommands status → IsEarlyBy old new told told_now status
commands-early old new told told_now (Done pending) h = tt
commands-early old new told told_now (Line n) h = tt
commands-early old new told told_now ScriptRead h = tt
commands-early old new told told_now OutWrite h = tt
commands-early old new told told_now ScriptLong h = tt
commands-early old new told told_now status h = absurd h
