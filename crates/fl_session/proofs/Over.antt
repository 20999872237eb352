-- A session that was begun over an opened image, and ended.
use Rattle.std.proofs.Common.{◌≡◌, ℕ, zero, suc, Bool, true, false, IsTrue, Option, Some, None, Result, Ok, Err, inl, inr, length, take, List, ◌≤◌, refl, sym, ◌∙◌, ap, subst, le_trans, arith, if◌then◌else◌, slice_get, replicate, true≢false}
use Rattle.fl_flash.specs.Flash.{FlashState, Stays}
use Rattle.fl_flash.specs.Media.{MediaState}
use Rattle.fl_model.specs.Image.{medium_len}
use Rattle.fl_model.specs.Record.{Config}
use Rattle.fl_words.specs.Config.{Lines, whole}
use Rattle.fl_machine.specs.Machine.{Machine}
use Rattle.fl_machine.specs.Script.{start_of, ended}
use Rattle.fl_machine.proofs.Accepted.{StartIsAccepted, accepted-room, accepted-room-ended}
use Rattle.fl_script.specs.declared.command.Command as code
use Rattle.fl_store.specs.Tables.{LieOn}
use Rattle.fl_store.specs.declared.tables.Entry.{Entry}
use Rattle.fl_lines.specs.Stream.{LinesState}
use Rattle.fl_ends.specs.declared.run.Status.{Status}
use Rattle.fl_ends.specs.declared.run.Status.TheVariants.{Usage, MediaMake, NoMemory, OtherConfig, OutWrite, ScriptRead}
use Rattle.fl_session.specs.Notes.{no_notes}
use Rattle.fl_session.specs.declared.notes.Notes.{Notes}
use Rattle.fl_queries.specs.Room.{AreForgotten, HasRooms}
use Rattle.fl_session.specs.Standing.{SessionStands, IsSound, RestsTold}
use Rattle.fl_session.specs.declared.notes.TableCursor.{TableCursor}
use Rattle.fl_queries.specs.declared.buffers.Buffers.{Buffers}
use Rattle.fl_session.specs.Run.{RanFrom, around_of, IsOfCommands, refused_status}
use Rattle.fl_config.specs.declared.image.ImageRefusal.{ImageRefusal}
use Rattle.fl_config.specs.declared.image.ImageRefusal.TheVariants.{Media, Other}
use Rattle.fl_base.specs.Causes.{Rose}
use Rattle.fl_base.proofs.Appended.{appends-none}
use Rattle.fl_lines.specs.Texts.{is_long, lines_read}
use Rattle.fl_session.specs.Begin.{BeginsAt}
use Rattle.fl_session.specs.Opening.{Opened, HalfOpened, Foreign, OpensAs, KeepsForm, MediaGoes}
use Rattle.fl_session.specs.Pending.{TellsPending, EndsAt}
use Rattle.fl_session.specs.Ends.{Ends, IsFormed, IsOther, told_of, effects_of, IsEarlyBy}
use Rattle.fl_session.specs.ScriptEnds.{unsaid, start_in, ScriptEnds}
use Rattle.fl_words.specs.Medium.{header}
use Rattle.fl_config.specs.Opening.{Opens}
use Rattle.fl_session.proofs.Ready.{ready-accepted, stands-ready}
use Rattle.fl_session.proofs.RunEnds.{ran-through, ends-over, begins-ready, ends-making, ends-other}
use Rattle.fl_session.proofs.Rested.{session-ends, opened-rests, opened-content, opened-formed}

-- none of so many cursors is open
pub no-cursor : (n i : ℕ) (c : TableCursor) → slice_get (replicate n None) i ≡ Some (Some c) → ⊥
no-cursor zero i c e = none e
  where
    none : ◌≡◌ {A = Option (Option TableCursor)} None (Some (Some c)) → ⊥
    none k = cc
no-cursor (suc n) zero c e = none e
  where
    none : ◌≡◌ {A = Option (Option TableCursor)} (Some None) (Some (Some c)) → ⊥
    none k = cc
no-cursor (suc n) (suc i) c e = no-cursor n i c e

-- a session that begins is sound
pub new-sound : (entries entries' : List Entry) (f f' : FlashState) (buf buf' : Buffers) (mounted : Bool) (notes : Notes) → entries' ≡ entries → f' ≡ f → buf' ≡ buf → mounted ≡ false → notes ≡ no_notes →
    LieOn entries f → HasRooms buf f.geometry.page → AreForgotten buf → IsSound entries' f' buf' mounted notes
new-sound entries entries' f f' buf buf' mounted notes entries_are f_is buf_is off fresh lie room forgotten = rw (entries_are, f_is, buf_is) (record {
  lie = lie;
  room = room;
  running = λ on. absurd (true≢false (sym on ∙ off));
  power = λ on. absurd (true≢false (sym on ∙ off));
  forgotten = λ ended. forgotten;
  cursors = λ i c e. absurd (no-cursor 4 i c (ap (λ (n : Notes). slice_get n.cursors i) (sym fresh) ∙ e));
})

-- what was run in the session was run over the medium
pub session-runs : (config : Config) (entries entries' : List Entry) (notes notes' : Notes) (f f' : FlashState) (old new : MediaState) (mounted mounted' : Bool) → f.media ≡ old → new ≡ f'.media →
    ((m : Machine) → RestsTold config old m → SessionStands config entries f mounted notes m) →
    (first : Option code.Command) (number : ℕ) (state : LinesState) (left left_now told told_now : Option (List ℕ)) (status : Status) →
    ((m : Machine) → SessionStands config entries' f' mounted' notes' m → TellsPending config status m) →
    RanFrom first number state left left_now (around_of config f.media f'.media told told_now) (SessionStands config entries f mounted notes) (SessionStands config entries' f' mounted' notes') status →
    RanFrom first number state left left_now (around_of config old new told told_now) (RestsTold config old) (EndsAt config status new.content) status
session-runs config entries entries' notes notes' f f' old new mounted mounted' begun ended begin first number state left left_now told told_now status tells h =
    let end : (m : Machine) → SessionStands config entries' f' mounted' notes' m → EndsAt config status f'.media.content m = λ m s. (session-ends config entries' notes' f' mounted' m s, tells m s) in
    let seen = ran-through first number state left left_now (around_of config f.media f'.media told told_now) (SessionStands config entries f mounted notes) (SessionStands config entries' f' mounted' notes')
    (RestsTold config old) (EndsAt config status f'.media.content) status begin end h in
    let from : RanFrom first number state left left_now (around_of config old f'.media told told_now) (RestsTold config old) (EndsAt config status f'.media.content) status =
    subst (λ (x : MediaState). RanFrom first number state left left_now (around_of config x f'.media told told_now) (RestsTold config old) (EndsAt config status f'.media.content) status) begun seen in
    subst (λ x. RanFrom first number state left left_now (around_of config old x told told_now) (RestsTold config old) (EndsAt config status x.content) status) (sym ended) from

start-accepted : (knots : ℕ) (text : List ℕ) → StartIsAccepted (start_in knots text)
start-accepted knots text = by_test (is_long text)
  where
    by_test : (b : Bool) → StartIsAccepted (if b then start_of knots (lines_read text) else ended (start_of knots (lines_read text)))
    by_test true = accepted-room knots (lines_read text)
    by_test false = accepted-room-ended knots (lines_read text)

-- an image that was opened, and was run on, has the form of its configuration
pub kept-formed : (config : Config) (mid new : MediaState) → IsFormed config mid.content → IsTrue mid.tells → KeepsForm mid new → IsFormed config new.content
kept-formed config mid new formed tells kept = (kept.len ∙ formed.0, kept.head tells ∙ formed.1)

-- .. as a flash on it goes
pub flash-keeps : (f f' : FlashState) (old new : MediaState) → f.media ≡ old → new ≡ f'.media → f.start ≡ 1024 → Stays f f' → KeepsForm old new
flash-keeps f f' old new begun ended start goes =
    subst (KeepsForm old) (sym ended)
    (subst (λ (m : MediaState). KeepsForm m f'.media) begun (record { len = goes.size; head = λ tells. subst (λ n. take n f'.media.content ≡ take n f.media.content) start (goes.front tells) }))

-- a run over an image that was opened
pub ends-opened : (knots : ℕ) (text : List ℕ) (lines : Lines) (first : Option code.Command) (number : ℕ) (state : LinesState) (left left_now told told_now : Option (List ℕ)) (config : Config) (old mid new : MediaState) (status : Status) →
    BeginsAt knots text lines first number state left → whole knots lines ≡ Some config → IsTrue old.tells → Opened config old mid → KeepsForm mid new → mid.tells ≡ old.tells → old.faults ≤ mid.faults →
    RanFrom first number state left left_now (around_of config mid new told told_now) (RestsTold config mid) (EndsAt config status new.content) status →
    Ends knots text (told_of old new left_now told told_now) status
ends-opened knots text lines first number state left left_now told told_now config old mid new status begins w tells opened kept same_tells later h =
    let ready = begins-ready knots text lines first number state left config begins w in
    let accepted = ready-accepted config ready.0 ready.1 (start_in knots text) (start-accepted knots text) ready.2 in
    ends-over knots text lines first number state left config (told_of old new left_now told told_now) (around_of config mid new told told_now) (RestsTold config mid) (EndsAt config status new.content) status begins w
    (record {
      config_is = refl;
      content = opened-content config old mid tells opened;
      content_now = refl;
      faults_now = refl;
      faults = later;
      reads_now = refl;
      reads = opened.reads;
      written = refl;
      written_now = refl;
      own = opened.own tells;
      formed = kept-formed config mid new (opened-formed config old mid tells opened) (subst IsTrue (sym same_tells) tells) kept;
      begins = λ m s. ((subst IsTrue (sym same_tells) tells, opened-rests config old mid m tells opened s), stands-ready config old.content m accepted s);
      ends = λ m s. s;
    })
    h

-- a run whose image wasn't opened: the medium failed, or is another's
pub ends-half : (knots : ℕ) (text : List ℕ) (lines : Lines) (first : Option code.Command) (number : ℕ) (state : LinesState) (left told : Option (List ℕ)) (config : Config) (old new : MediaState) →
    BeginsAt knots text lines first number state left → whole knots lines ≡ Some config → IsTrue old.tells → HalfOpened config old new → Ends knots text (told_of old new left told told) MediaMake
ends-half knots text lines first number state left told config old new begins w tells h =
    ends-making (effects_of (told_of old new left told told) MediaMake) knots text lines first number state left config begins w (record { written = appends-none told; kept = h.kept; part = h.part })

pub foreign-other : (config : Config) (old new : MediaState) (wanted found at : ℕ) → IsTrue old.tells → Foreign config old new wanted found at → IsOther config old.content wanted found at
foreign-other config old new wanted found at tells h = (h.some, elim h.other [ inl k ↦ inl k | inr k ↦ inr (k.0, k.1 tells) ])

pub ends-foreign : (knots : ℕ) (text : List ℕ) (lines : Lines) (first : Option code.Command) (number : ℕ) (state : LinesState) (left told : Option (List ℕ)) (config : Config) (old new : MediaState) (wanted found at : ℕ) →
    BeginsAt knots text lines first number state left → whole knots lines ≡ Some config → IsTrue old.tells → Foreign config old new wanted found at → Ends knots text (told_of old new left told told) (OtherConfig wanted found at)
ends-foreign knots text lines first number state left told config old new wanted found at begins w tells h =
    ends-other (effects_of (told_of old new left told told) (OtherConfig wanted found at)) knots text lines first number state left config wanted found at begins w (foreign-other config old new wanted found at tells h, record { content = h.kept; written = appends-none told })

-- the statuses of the commands
pub commands-words : (status : Status) → IsOfCommands status → status ≡ Usage → ⊥
commands-words status h e = subst IsOfCommands e h

pub ends-refused : (knots : ℕ) (text : List ℕ) (lines : Lines) (first : Option code.Command) (number : ℕ) (state : LinesState) (left told : Option (List ℕ)) (config : Config) (old new : MediaState) (refusal : ImageRefusal) →
    BeginsAt knots text lines first number state left → whole knots lines ≡ Some config → IsTrue old.tells → OpensAs config old (Err refusal) new → Ends knots text (told_of old new left told told) (refused_status refusal)
ends-refused knots text lines first number state left told config old new Media begins w tells h = ends-half knots text lines first number state left told config old new begins w tells h
ends-refused knots text lines first number state left told config old new (Other wanted found at) begins w tells h =
    ends-foreign knots text lines first number state left told config old new wanted found at begins w tells h

-- .. whatever the medium tells
pub script-refused : (knots : ℕ) (text : List ℕ) (lines : Lines) (first : Option code.Command) (number : ℕ) (state : LinesState) (left : Option (List ℕ)) (config : Config) (refusal : ImageRefusal) →
    BeginsAt knots text lines first number state left → whole knots lines ≡ Some config → ScriptEnds knots text left (refused_status refusal)
script-refused knots text lines first number state left config Media begins w = ends-making unsaid knots text lines first number state left config begins w tt
script-refused knots text lines first number state left config (Other wanted found at) begins w = ends-other unsaid knots text lines first number state left config wanted found at begins w tt

pub early-refused : (config : Config) (old new : MediaState) (told : Option (List ℕ)) (refusal : ImageRefusal) → OpensAs config old (Err refusal) new → IsEarlyBy old new told told (refused_status refusal)
early-refused config old new told Media h = record { written = appends-none told; content = h.kept }
early-refused config old new told (Other wanted found at) h = record { written = appends-none told; content = h.kept }

pub make-refused : (config : Config) (old new : MediaState) (refusal : ImageRefusal) → OpensAs config old (Err refusal) new → refused_status refusal ≡ MediaMake → Rose old.faults new.faults
make-refused config old new Media h e = h.rose
make-refused config old new (Other wanted found at) h e = cc

-- an image that was opened, in the words of a run
pub opens-as : (config : Config) (old : MediaState) (result : Result (Unit {0}) ImageRefusal) (new : MediaState) → Opens (medium_len config) (header config) old result new → OpensAs config old result new
opens-as config old (Ok done) new (inl h) = record {
  len = h.len_is;
  sized = inl h.empty;
  own = λ t. inl h.empty;
  made = λ t e. h.content (subst IsTrue refl t);
  kept = λ some. absurd (some h.empty);
  reads = omega (arith, h.reads);
}
opens-as config old (Ok done) new (inr h) = record {
  len = ap length h.same ∙ h.len_is;
  sized = inr h.len_is;
  own = λ t. inr (h.len_is, h.head_is t);
  made = λ t e. absurd (h.some e);
  kept = λ some. h.same;
  reads = omega (arith, h.reads);
}
opens-as config old (Err Media) new h = record { rose = h.rose; kept = h.same; part = h.part; unread = h.unread; reads = h.reads }
opens-as config old (Err (Other wanted found at)) new h = record {
  some = h.some;
  other = h.other;
  kept = h.same;
  reads = h.reads;
}

pub opens-goes : (len : ℕ) (head : List ℕ) (old : MediaState) (result : Result (Unit {0}) ImageRefusal) (new : MediaState) → Opens len head old result new → MediaGoes old new
opens-goes len head old (Ok done) new (inl h) = record { tells = h.tells; faults = h.later }
opens-goes len head old (Ok done) new (inr h) = record { tells = h.tells; faults = h.later }
opens-goes len head old (Err Media) new h = record { tells = h.tells; faults = h.later }
opens-goes len head old (Err (Other wanted found at)) new h = record { tells = h.tells; faults = h.later }

pub media-goes_on : (old mid new : MediaState) → MediaGoes old mid → MediaGoes mid new → MediaGoes old new
media-goes_on old mid new a b = record { tells = b.tells ∙ a.tells; faults = le_trans a.faults b.faults }

-- a run that wants memory ends in no other way
pub memory-words : NoMemory ≡ Usage → ⊥
memory-words e = cc

pub memory-read : NoMemory ≡ ScriptRead → ⊥
memory-read e = cc

pub memory-write : NoMemory ≡ OutWrite → ⊥
memory-write e = cc

pub memory-make : NoMemory ≡ MediaMake → ⊥
memory-make e = cc
