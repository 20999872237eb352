-- The flush of a table, and of one after another.
use Rattle.std.proofs.Common.{◌≡◌, ℕ, zero, suc, ◌+◌, ◌-◌, ◌^◌, ◌<◌, ◌≤◌, min, Bool, true, false, inl, inr, Option, Some, None, Ok, Err, List, [], ◌∷◌, ◌++◌, length, map, take, sum_by, lit≤, refl, sym, ◌∙◌, ap, subst, append_assoc, append-nil, length-append, arith}
use Rattle.std.specs.Prelude.{MatchBool, MatchOption, IfSome, OnErr, OnOk, Result, ◌⊎◌, if◌then◌else◌, slice_get}
use Rattle.std.proofs.lemmas.Bool.{ne_eqb}
use Rattle.fl_base.specs.declared.stream.SinkFailed.{SinkFailed}
use Rattle.std.specs.List.{AllByRecursion}
use Rattle.std.proofs.lemmas.List.{map-append, take_all}
use Rattle.std.proofs.lemmas.List.Sums.{sum_by-append}
use Rattle.fl_base.specs.Causes.{HasCause, Appends, AppendsFront}
use Rattle.fl_flash.specs.Flash.{FlashState}
use Rattle.fl_model.specs.Record.{Config, Plan}
use Rattle.fl_model.specs.Work.{Outcome, Finished, CutShort, Failed, Progress}
use Rattle.fl_words.specs.Command as command
use Rattle.fl_words.specs.Command.{Command}
use Rattle.fl_words.specs.Reply as reply
use Rattle.fl_words.specs.Reply.{Reply, texts, text}
use Rattle.fl_machine.specs.Machine.{Machine}
use Rattle.fl_machine.specs.Reads.{none_read}
use Rattle.fl_machine.specs.Run.{end_of, commands_of}
use Rattle.fl_machine.specs.Step.{Moment, Step, StepOf, Located, located, Says, EndsAs, FlushStep}
use Rattle.fl_session.specs.Execute.{Executes, IsReady, StandsAlike}
use Rattle.fl_shell.specs.Flushing.{FlushesOne, FlushesBehind}
use Rattle.fl_shell.specs.Heard.{Kept, IsFullOnFault}
use Rattle.fl_shell.specs.Talk.{IsDone, RanOver, flush_of, pending_rows, flushes_of, FlushesAll}
use Rattle.fl_model.specs.Record.{bytes_equal}
use Rattle.fl_model.proofs.Lists.{each-push, each-front, each-back}
use Rattle.fl_model.proofs.Names.{bytes_equal-same}
use Rattle.fl_shell.proofs.AlikeFlushes.{flush-goes_on, pending-stands}

-- ---- a reply that is kept

abbrev pub IsShort : List Reply → Type 0
IsShort replies = length (texts replies) ≤ 13

one-short : (moment : Moment) (r : Reply) (new : Machine) → Says moment (r ∷ []) new → IsShort (r ∷ []) → IsShort moment.replies
one-short moment r new says short = subst IsShort (sym says.replies_are) short

ends-short : (o : Outcome) (old : Machine) (moment : Moment) (end : Progress) (new : Machine) → EndsAs o old moment end [] (reply.Done ∷ []) new → IsShort moment.replies
ends-short Finished old moment end new e = subst IsShort (sym e.replies_are) (lit≤ tt)
ends-short (CutShort last) old moment end new e = subst IsShort (sym e.replies_are) (lit≤ tt)
ends-short (Failed last) old moment end new e = subst IsShort (sym e.replies_are) (lit≤ tt)

-- the reply to a flush is short
pub flush-short : (config : Config) (old : Machine) (moment : Moment) (name : List ℕ) → moment.command ≡ command.Flush name → Step config old moment → IsShort moment.replies
flush-short config old moment name is step = by_mounted old.mounted (located config old name) (subst (λ c. StepOf config old moment c) is step)
  where
    by_mounted : (b : Bool) (at : Option Located) → MatchBool b (MatchOption at (Says moment (reply.NoTable ∷ []) old) (FlushStep config old moment)) (Says moment (reply.NotMounted ∷ []) old) → IsShort moment.replies
    by_mounted false at s = one-short moment reply.NotMounted old s (lit≤ tt)
    by_mounted true None s = one-short moment reply.NoTable old s (lit≤ tt)
    by_mounted true (Some at) s = ends-short s.0.outcome old moment s.0 _ s.2

-- what was heard is the whole of it
pub heard-all : (kept : Kept) (replies : List Reply) → Appends (Some []) (Some kept.text) (texts replies) → kept.text ≡ texts replies
heard-all kept replies h = cc

-- .. unless it is full
pub heard-over : {T E : Type 0} (kept : Kept) (replies : List Reply) (error : E) → IsFullOnFault kept → HasCause {T = T} 0 kept.faults (Err error) → AppendsFront (Some []) (Some kept.text) (texts replies) → 512 ≤ length (texts replies)
heard-over kept replies error full cause wrote =
    let failed : min (0 + 1) (2 ^ 64 - 1) ≤ kept.faults = cause.failed in
    let some : 0 < kept.faults = omega (arith, failed) in
    let same : kept.text ≡ wrote.0 = cc in
    let long : length kept.text ≡ 512 = full some in
    omega (arith, long, ap length same, ap length wrote.1.1, length-append wrote.0 wrote.1.0)

-- where nothing is told, nothing is said of it
abbrev pub none-told : {E : Type 0} (result : Result (Unit {0}) E) (text : List ℕ) → OnOk result (Appends None None text)
none-told (Ok done) text = tt
none-told (Err failed) text = tt

abbrev pub none-told_front : {E : Type 0} (result : Result (Unit {0}) E) (text : List ℕ) → OnErr result (AppendsFront None None text)
none-told_front (Ok done) text = tt
none-told_front (Err failed) text = ([], (text, refl), tt)

-- a command whose replies aren't handed on
abbrev pub unsaid : {E : Type 0} (config : Config) (old : Machine) (c : Command) (stands : Machine → Type 0) (flash flash_now : FlashState) (told told_now : Option (List ℕ)) (result : Result (Unit {0}) E) →
    Executes {E = E} config old c stands flash flash_now told told_now result → Executes {E = E} config old c stands flash flash_now None None result
unsaid {E} config old c stands flash flash_now told told_now result e = record {
  moment = e.moment;
  command_is = e.command_is;
  step = e.step;
  after = e.after;
  stands_after = e.stands_after;
  alike = e.alike;
  same = e.same;
  reads = e.reads;
  stated = e.stated;
  stays = e.stays;
  rose = e.rose;
  told_all = none-told {E = E} result (texts e.moment.replies);
  told_front = none-told_front {E = E} result (texts e.moment.replies);
}

-- ---- one after another

-- none was flushed yet
pub none-flushed : (config : Config) (old : Machine) (moments : List Moment) (stands : Machine → Type 0) (content content_now : List ℕ) (faults faults_now : ℕ) → RanOver config old moments stands content content_now faults faults_now →
    RanOver config old (moments ++ []) stands content content_now faults faults_now
none-flushed config old moments stands content content_now faults faults_now h = subst (λ ms. RanOver config old ms stands content content_now faults faults_now) (sym (append-nil moments)) h

-- what was flushed so far
pub record FlushedSoFar (config : Config) (old : Machine) (moments : List Moment) (commands : List Command) (stands : Machine → Type 0) (content content_now : List ℕ) (faults faults_now : ℕ) (done : Bool) : Type 0 where
  pub flushes : List Moment
  pub commands_are : commands_of flushes ≡ commands
  pub is_done : done ≡ true → AllByRecursion IsDone flushes
  pub is_undone : done ≡ false → AllByRecursion IsDone flushes → ⊥
  pub ran : RanOver config old (moments ++ flushes) stands content content_now faults faults_now
  pub unread : AllByRecursion none_read flushes

pub flushed-none : (config : Config) (old : Machine) (moments : List Moment) (stands : Machine → Type 0) (content content_now : List ℕ) (faults faults_now : ℕ) → RanOver config old moments stands content content_now faults faults_now →
    FlushedSoFar config old moments [] stands content content_now faults faults_now true
flushed-none config old moments stands content content_now faults faults_now h =
    record { flushes = []; commands_are = refl; is_done = λ e. tt; is_undone = λ e. cc; ran = none-flushed config old moments stands content content_now faults faults_now h; unread = tt }

both-done : (a b : Bool) → (if a then b else false) ≡ true → (a ≡ true) × (b ≡ true)
both-done true true e = (refl, refl)
both-done true false e = cc
both-done false b e = cc

one-undone : (a b : Bool) → (if a then b else false) ≡ false → (a ≡ false) ⊎ (b ≡ false)
one-undone true b e = inr e
one-undone false b e = inl refl

pub flushed-more : (config : Config) (old : Machine) (moments : List Moment) (commands : List Command) (name : List ℕ) (stands stands_now : Machine → Type 0) (content : List ℕ) (faults : ℕ) (flash flash_now : FlashState) (done one : Bool) →
    IsReady config old → flash.media.faults ≤ flash_now.media.faults → FlushedSoFar config old moments commands (StandsAlike stands) content flash.media.content faults flash.media.faults done → ((m : Machine) → stands m → FlushesOne config m name stands_now flash flash_now one) →
    FlushedSoFar config old moments (commands ++ command.Flush name ∷ []) (StandsAlike stands_now) content flash_now.media.content faults flash_now.media.faults (if done then one else false)
flushed-more config old moments commands name stands stands_now content faults flash flash_now done one ready later h flush =
    let g = flush-goes_on config old (moments ++ h.flushes) name stands stands_now content faults flash flash_now one ready later h.ran flush in
    record {
      flushes = h.flushes ++ g.0 ∷ [];
      commands_are = map-append (λ (m : Moment). m.command) h.flushes (g.0 ∷ []) ∙ (ap (λ cs. cs ++ g.0.command ∷ []) h.commands_are ∙ ap (λ c. commands ++ c ∷ []) g.1);
      is_done = λ e. let b = both-done done one e in each-push IsDone h.flushes g.0 (h.is_done b.0) (g.2 b.1);
      is_undone = λ e all. elim (one-undone done one e) [ inl a ↦ h.is_undone a (each-front IsDone h.flushes (g.0 ∷ []) all) | inr b ↦ g.3 b (each-back IsDone h.flushes (g.0 ∷ []) all).0 ];
      ran = subst (λ ms. RanOver config old ms (StandsAlike stands_now) content flash_now.media.content faults flash_now.media.faults) (append_assoc moments h.flushes (g.0 ∷ [])) g.5;
      unread = each-push none_read h.flushes g.0 h.unread g.4;
    }

-- one table more
pub plan-more : (plans : List Plan) (at : ℕ) (name : List ℕ) → at < length plans → IfSome (slice_get plans at) (λ plan. name ≡ plan.name) → (plan : Plan) × (name ≡ plan.name) × (take (at + 1) plans ≡ take at plans ++ plan ∷ [])
plan-more [] at name lt is = absurd (omega arith)
plan-more (p ∷ plans) zero name lt is = (p, is, refl)
plan-more (p ∷ plans) (suc at) name lt is =
    let e : suc at + 1 ≡ suc (at + 1) = omega arith in
    let r = plan-more plans at name (omega arith) is in
    (r.0, r.1, ap (λ k. take k (p ∷ plans)) e ∙ ap (λ ps. p ∷ ps) r.2)

pub flushes-more : (plans : List Plan) (at : ℕ) (name : List ℕ) → at < length plans → IfSome (slice_get plans at) (λ plan. name ≡ plan.name) → map flush_of (take (at + 1) plans) ≡ map flush_of (take at plans) ++ command.Flush name ∷ []
flushes-more plans at name lt is =
    let r = plan-more plans at name lt is in
    ap (map flush_of) r.2 ∙ (map-append flush_of (take at plans) (r.0 ∷ []) ∙ ap (λ n. map flush_of (take at plans) ++ command.Flush n ∷ []) (sym r.1))

pub sum-more : (f : List ℕ → ℕ) (plans : List Plan) (at : ℕ) (name : List ℕ) → at < length plans → IfSome (slice_get plans at) (λ plan. name ≡ plan.name) → sum_by (λ (plan : Plan). f plan.name) (take (at + 1) plans) ≡ sum_by (λ (plan : Plan). f plan.name) (take at plans) + f name
sum-more f plans at name lt is =
    let r = plan-more plans at name lt is in
    let g : Plan → ℕ = λ plan. f plan.name in
    let one : sum_by g (r.0 ∷ []) ≡ 0 + f r.0.name = refl in
    ap (sum_by g) r.2 ∙ omega (arith, sum_by-append g (take at plans) (r.0 ∷ []), one, ap f r.1)

-- ---- all of them

pub end_of-append : (old : Machine) (moments others : List Moment) → end_of old (moments ++ others) ≡ end_of (end_of old moments) others
end_of-append old [] others = refl
end_of-append old (m ∷ moments) others = end_of-append m.after moments others

-- nothing is pending
pub flushed-nothing : (config : Config) (m : Machine) (pending : ℕ) → pending ≡ pending_rows config m → pending ≡ 0 → FlushesAll config m [] (record { pending = pending; all = true })
flushed-nothing config m pending is none =
    let zero_is : pending_rows config m ≡ 0 = sym is ∙ none in
    record {
      commands_are = rw zero_is refl;
      counted = is;
      done = λ e. (tt, zero_is);
      undone = λ e. cc;
    }

some-pending : (config : Config) (m : Machine) (n : ℕ) → n ≡ pending_rows config m → (n ≡ 0 → ⊥) → flushes_of config m ≡ map flush_of config.plans
some-pending config m n is some = ap (λ (b : Bool). if b then [] else map flush_of config.plans) (ne_eqb (pending_rows config m) 0 (λ e. some (is ∙ e)))

-- each table was flushed
pub flushed-all : (config : Config) (old : Machine) (moments : List Moment) (stands : Machine → Type 0) (content content_now : List ℕ) (faults faults_now pending left : ℕ) (done all : Bool) →
    (h : FlushedSoFar config old moments (map flush_of config.plans) (StandsAlike stands) content content_now faults faults_now done) → pending ≡ pending_rows config (end_of old moments) → (pending ≡ 0 → ⊥) → ((m : Machine) → stands m → left ≡ pending_rows config m) →
    (all ≡ true → (done ≡ true) × (left ≡ 0)) → (all ≡ false → (done ≡ false) ⊎ (left ≡ 0 → ⊥)) →
    FlushesBehind config old moments (StandsAlike stands) content content_now faults faults_now (record { pending = pending; all = all })
flushed-all config old moments stands content content_now faults faults_now pending left done all h is some left_is if_all if_not =
    let left_here : left ≡ pending_rows config (end_of (end_of old moments) h.flushes) =
    pending-stands config stands (end_of old (moments ++ h.flushes)) left left_is h.ran.stands_after ∙ ap (pending_rows config) (end_of-append old moments h.flushes) in
    record {
      flushes = h.flushes;
      flushes_all = record {
        commands_are = h.commands_are ∙ sym (some-pending config (end_of old moments) pending is some);
        counted = is;
        done = λ e. (h.is_done (if_all e).0, sym left_here ∙ (if_all e).1);
        undone = λ e both. elim (if_not e) [ inl a ↦ h.is_undone a both.0 | inr b ↦ b (left_here ∙ both.1) ];
      };
      ran = h.ran;
      unread = h.unread;
    }

-- ---- the answer to a flush

-- the text was `ok`
heard-done : (kept : List ℕ) (moment : Moment) → kept ≡ texts moment.replies → bytes_equal kept (text reply.Done) ≡ true → IsDone moment
heard-done kept moment is e = sym is ∙ bytes_equal-same kept (text reply.Done) e

heard-undone : (kept : List ℕ) (moment : Moment) → kept ≡ texts moment.replies → bytes_equal kept (text reply.Done) ≡ false → IsDone moment → ⊥
heard-undone kept moment is e done =
    let same : kept ≡ text reply.Done = is ∙ done in
    let k : bytes_equal (text reply.Done) (text reply.Done) ≡ false = subst (λ t. bytes_equal t (text reply.Done) ≡ false) same e in
    cc

pub flushed-one : (config : Config) (m : Machine) (name : List ℕ) (stands : Machine → Type 0) (flash flash_now : FlashState) (kept : Kept) (done : Bool) →
    Executes {E = SinkFailed} config m (command.Flush name) stands flash flash_now (Some []) (Some kept.text) (Ok tt) → done ≡ bytes_equal kept.text (text reply.Done) → FlushesOne config m name stands flash flash_now done
flushed-one config m name stands flash flash_now kept done e is =
    let all : kept.text ≡ texts e.moment.replies = heard-all kept e.moment.replies e.told_all in
    record {
      executes = unsaid {E = SinkFailed} config m (command.Flush name) stands flash flash_now (Some []) (Some kept.text) (Ok tt) e;
      is_done = λ said. heard-done kept.text e.moment all (sym is ∙ said);
      is_undone = λ said. heard-undone kept.text e.moment all (sym is ∙ said);
    }

-- a sink that keeps the reply doesn't fail
pub flush-heard : {T : Type 0} (config : Config) (m : Machine) (name : List ℕ) (stands : Machine → Type 0) (flash flash_now : FlashState) (kept : Kept) (error : SinkFailed) →
    Executes {E = SinkFailed} config m (command.Flush name) stands flash flash_now (Some []) (Some kept.text) (Err error) → IsFullOnFault kept → HasCause {T = T} 0 kept.faults (Err error) → ⊥
flush-heard {T} config m name stands flash flash_now kept error e full cause =
    let short : length (texts e.moment.replies) ≤ 13 = flush-short config m e.moment name e.command_is e.step in
    let long : 512 ≤ length (texts e.moment.replies) = heard-over {T = T} kept e.moment.replies error full cause e.told_front in
    omega (arith, short, long)

-- when the loop over the tables has ended
pub all-plans : (config : Config) (old : Machine) (moments : List Moment) (plans : List Plan) (at : ℕ) (stands : Machine → Type 0) (content content_now : List ℕ) (faults faults_now : ℕ) (done : Bool) → length plans ≤ at → config.plans ≡ plans →
    FlushedSoFar config old moments (map flush_of (take at plans)) stands content content_now faults faults_now done → FlushedSoFar config old moments (map flush_of config.plans) stands content content_now faults faults_now done
all-plans config old moments plans at stands content content_now faults faults_now done end same h =
    subst (λ ps. FlushedSoFar config old moments (map flush_of ps) stands content content_now faults faults_now done) (take_all at plans end ∙ sym same) h
