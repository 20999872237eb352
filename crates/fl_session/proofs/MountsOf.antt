-- The mount of a session.
use Rattle.std.proofs.Common.{◌≡◌, ℕ, ◌⊎◌, Bool, true, false, IsTrue, Option, Some, None, Result, Ok, Err, inl, inr, List, [], ◌∷◌, map, refl, sym, ◌∙◌, ap, subst, ◌*◌, ◌<◌, sum_by, MatchBool, is_ok, OnOk}
use Rattle.fl_flash.specs.Flash.{FlashState, Goes, page_at}
use Rattle.fl_flash.specs.declared.flash.FlashFault.{FlashFault}
use Rattle.fl_flash.specs.declared.flash.FlashFault.TheVariants.{Media}
use Rattle.fl_frame.specs.Device.{SameDevice}
use Rattle.fl_frame.specs.Watched.{IsWatched}
use Rattle.std.proofs.lemmas.Bool.{false≢true}
use Rattle.fl_model.specs.Record.{Config, Plan, blocks_of}
use Rattle.fl_model.specs.Table as model
use Rattle.fl_model.specs.Table.{lose}
use Rattle.fl_model.specs.Work.{Device, Progress, Outcome, Finished, CutShort, Failed}
use Rattle.fl_model.specs.Mount.{Mounts, GoesOn, MountEnd, Mounted, Stopped, Unread, Turn, turns_from}
use Rattle.fl_words.specs.Command as command
use Rattle.fl_words.specs.Reply as reply
use Rattle.fl_words.specs.Reply.{text}
use Rattle.fl_machine.specs.Machine.{Machine, stopped, no_cursors}
use Rattle.fl_machine.specs.Step.{Moment, Step, Says, EndsAs, EndsMount, MountStep, all_ready}
use Rattle.fl_parts.specs.declared.mount_fault.MountFault.{MountFault}
use Rattle.fl_parts.specs.declared.mount_fault.MountFault.TheVariants as mount
use Rattle.fl_store.specs.Mounting.{AreUnlogged}
use Rattle.fl_store.specs.Repaired.{IsLeft}
use Rattle.fl_store.specs.Tables.{TablesStand, FaultIs, TablesMounted, TablesBroken, MountBreaks, TablesMount}
use Rattle.fl_store.specs.declared.tables.BadMount.{BadMount}
use Rattle.fl_store.specs.declared.tables.Entry.{Entry}
use Rattle.fl_session.specs.Answer.{Answers, bad_reply, mount_reply}
use Rattle.fl_store.specs.Replies.{fault_reply}
use Rattle.fl_session.specs.Notes.{without_cursors}
use Rattle.fl_session.specs.declared.notes.Notes.{Notes}
use Rattle.fl_session.specs.Standing.{SessionStands}
use Rattle.fl_session.proofs.CommandReplies.{answers-saying, saying, says, step-is}
use Rattle.fl_queries.proofs.RowLines.{one-text}
use Rattle.fl_session.proofs.Rested.{session-ends}
use Rattle.fl_session.proofs.MountRepairs.{mount-stays, pages-repaired}
use Rattle.fl_store.proofs.TablesOnlyRead.{tables-kept}
use Rattle.fl_store.proofs.Risen.{has_risen, risen-rose, watched}
use Rattle.fl_store.proofs.Worked.{medium-goes}
use Rattle.fl_session.proofs.PutsAndFlushes.{works-on, fault-no-refusal}

-- the power is on
stands-on : (config : Config) (old : Machine) (entries : List Entry) (notes : Notes) (f : FlashState) → SessionStands config entries f false notes old → SessionStands config entries (record f { is_on = true }) false notes old
stands-on config old entries notes f h = record {
  knots = h.knots;
  medium = record { told = h.medium.told; len = h.medium.len; head = h.medium.head; start = h.medium.start; geometry = h.medium.geometry };
  tables = tables-kept f (record f { is_on = true }) refl refl (λ i. false) config.plans entries old.tables h.tables;
  is_mounted = h.is_mounted;
  cursors = h.cursors;
  device = record { armed = h.device.armed; programs = h.device.programs; erases = h.device.erases };
  cost_is = h.cost_is;
  power = λ t. refl;
}

pub stands-powered : (config : Config) (old : Machine) (entries : List Entry) (notes : Notes) (f on : FlashState) (mounted : Bool) → SessionStands config entries f mounted notes old → mounted ≡ false → on ≡ record f { is_on = true } →
    SessionStands config entries on false notes old
stands-powered config old entries notes f on mounted h off is =
    subst (λ x. SessionStands config entries x false notes old) (sym is) (stands-on config old entries notes f (subst (λ m. SessionStands config entries f m notes old) off h))

pub mount-watched : (config : Config) (entries : List Entry) (notes : Notes) (f g : FlashState) (m : Machine) → SessionStands config entries f false notes m → f.is_on ≡ true → IsWatched f g (has_risen f g) m.device
mount-watched config entries notes f g m h on = watched f g m.device h.medium.told on h.device

-- a mount where a session is mounted, and where none is
by-mounted : (config : Config) (old : Machine) (moment : Moment) (mounted : Bool) → old.mounted ≡ mounted →
    MatchBool mounted (Says moment (reply.AlreadyMounted ∷ []) old) ((how : MountEnd) × Mounts config.plans moment.rose (turns_from 0 config.plans) old.device old.tables how × EndsMount config old moment how) → MountStep config old moment
by-mounted config old moment mounted e step =
    subst (λ b. MatchBool b (Says moment (reply.AlreadyMounted ∷ []) old) ((how : MountEnd) × Mounts config.plans moment.rose (turns_from 0 config.plans) old.device old.tables how × EndsMount config old moment how)) (sym e) step

-- nothing is done where it is mounted
pub answers-already : (config : Config) (old : Machine) (entries : List Entry) (notes : Notes) (f : FlashState) → SessionStands config entries f true notes old →
    Answers config old command.Mount (SessionStands config entries f true notes) f f (text reply.AlreadyMounted)
answers-already config old entries notes f h =
    let moment = saying command.Mount (reply.AlreadyMounted ∷ []) old in
    let step = by-mounted config old moment true h.is_mounted (says command.Mount (reply.AlreadyMounted ∷ []) old) in
    answers-saying config old command.Mount reply.AlreadyMounted old entries notes f f true refl step h

-- what a mount leaves of each page, where it ends well
abbrev pub Repairs : FlashState → FlashState → List Entry → Type 0
Repairs f g entries =
    IsTrue f.media.tells → (plans : List Plan) → (tables : List model.Table) → TablesStand f (λ i. false) plans entries tables →
    AreUnlogged entries ⊎ ((rose : Bool) × (device : Device) × IsWatched f g rose device) → (page : ℕ) → page < sum_by blocks_of plans * f.geometry.block →
    IsLeft plans f.geometry page (page_at f page) (page_at g page)

-- a read of a mount failed, and so did the medium
unread-later : (rose : Bool) (end : Progress) (o : Outcome) (now : Progress) (others : Type 0) → GoesOn o now (Unread end) others → (others → IsTrue rose) → IsTrue rose
unread-later rose end Finished now others more later = later more
unread-later rose end (CutShort before) now others e later = absurd (none e)
  where
    none : Unread end ≡ Stopped now → ⊥
    none k = cc
unread-later rose end (Failed before) now others e later = absurd (none e)
  where
    none : Unread end ≡ Stopped now → ⊥
    none k = cc

unread-rose : (plans : List Plan) (rose : Bool) (turns : List (ℕ × Turn)) (device : Device) (tables : List model.Table) (end : Progress) → Mounts plans rose turns device tables (Unread end) → IsTrue rose
unread-rose plans rose [] device tables end h = absurd (none h)
  where
    none : Unread end ≡ Mounted (record { outcome = Finished; device = device; tables = tables }) → ⊥
    none e = cc
unread-rose plans rose (at ∷ turns) device tables end (inl u) = u.1.may_fail
unread-rose plans rose (at ∷ turns) device tables end (inr (now, did, goes)) =
    unread-later rose end now.outcome now (Mounts plans rose turns now.device now.tables (Unread end)) goes (λ more. unread-rose plans rose turns now.device now.tables end more)

-- A session that isn't mounted, before a mount of its tables and after it.
module _ (config : Config) (old : Machine) (notes : Notes) (entries now : List Entry) (f g : FlashState) (h : SessionStands config entries f false notes old) (goes : Goes f g) where
  mount-step : (moment : Moment) → moment.command ≡ command.Mount → moment.rose ≡ has_risen f g → (how : MountEnd) → Mounts config.plans (has_risen f g) (turns_from 0 config.plans) old.device old.tables how → EndsMount config old moment how → Step config old moment
  mount-step moment is risen how m e =
      step-is config old moment command.Mount is
      (by-mounted config old moment false h.is_mounted (how, subst (λ rose. Mounts config.plans rose (turns_from 0 config.plans) old.device old.tables how) (sym risen) m, e))

  answers-well : TablesMounted config.plans old.tables (has_risen f g) old.device now g → IsWatched f g (has_risen f g) old.device → Repairs f g entries → Answers config old command.Mount (SessionStands config now g true (without_cursors notes)) f g (text reply.Done)
  answers-well w watched repaired =
      let after : Machine = record old { device = w.end.device; tables = all_ready config.plans w.end.tables; mounted = true; cursors = no_cursors } in
      let moment : Moment = record { command = command.Mount; rose = has_risen f g; reads = 0; last = None; replies = reply.Done ∷ []; after = after } in
      let stands : SessionStands config now g true (without_cursors notes) after = record {
        knots = h.knots;
        medium = medium-goes config f g goes h.medium;
        tables = w.stand;
        is_mounted = refl;
        cursors = refl;
        device = w.counts;
        cost_is = h.cost_is;
        power = λ k. w.power;
      } in
      record {
        moment = moment;
        command_is = refl;
        none = refl;
        step = mount-step moment refl refl (Mounted w.end) w.did (record { replies_are = refl; after_is = refl; last_is = refl });
        stands_after = stands;
        stays = record {
          image = session-ends config now (without_cursors notes) g true after stands;
          idle = λ idle. absurd (works-on (reply.Done ∷ []) refl idle);
          stays = λ calm whole. mount-stays config old.mounted f.media.content g.media.content h.is_mounted (pages-repaired config entries old.tables f g (λ i. false) h.medium stands.medium h.tables (λ page within. repaired h.medium.told config.plans old.tables h.tables (inr (has_risen f g, old.device, watched)) page within));
        };
        rose = risen-rose f g;
        said_is = one-text reply.Done;
      }

  stands-bad : (tables : List model.Table) (device : Device) → SameDevice g device → TablesStand g (λ i. false) config.plans now tables → (m : Machine) → m.tables ≡ tables → m.mounted ≡ false → m.cursors ≡ no_cursors → m.device ≡ device → m.cost ≡ old.cost →
      SessionStands config now g false (without_cursors notes) m
  stands-bad tables device counts rest m tables_are off cursors is kept = record {
    knots = h.knots;
    medium = medium-goes config f g goes h.medium;
    tables = subst (λ ts. TablesStand g (λ i. false) config.plans now ts) (sym tables_are) rest;
    is_mounted = off;
    cursors = cursors;
    device = subst (SameDevice g) (sym is) counts;
    cost_is = kept ∙ h.cost_is;
    power = λ k. cc;
  }

  -- an operation failed
  abbrev last_in : Outcome → Option (List model.Table)
  last_in Finished = None
  last_in (CutShort before) = Some before
  last_in (Failed before) = Some before

  abbrev stopped_so : Progress → FlashFault → Moment
  stopped_so end fault = record {
    command = command.Mount;
    rose = has_risen f g;
    reads = 0;
    last = last_in end.outcome;
    replies = fault_reply fault ∷ [];
    after = stopped (record old { device = end.device; tables = end.tables });
  }

  ends-stopped : (end : Progress) (fault : FlashFault) (o : Outcome) → end.outcome ≡ o → FaultIs o fault → EndsAs o old (stopped_so end fault) end [] [] old
  ends-stopped end fault Finished k x = absurd x
  ends-stopped end fault (CutShort before) k x = record { replies_are = ap (λ y. fault_reply y ∷ []) x; after_is = refl; last_is = ap last_in k }
  ends-stopped end fault (Failed before) k x = record { replies_are = ap (λ y. fault_reply y ∷ []) x; after_is = refl; last_is = ap last_in k }

  not-whole : (fault : FlashFault) (o : Outcome) → FaultIs o fault → last_in o ≡ None → ⊥
  not-whole fault Finished x e = x
  not-whole fault (CutShort before) x e = let no : ◌≡◌ {A = Option (List model.Table)} (Some before) None = e in cc
  not-whole fault (Failed before) x e = let no : ◌≡◌ {A = Option (List model.Table)} (Some before) None = e in cc

  answers-stopped : (fault : FlashFault) (end : Progress) → Mounts config.plans (has_risen f g) (turns_from 0 config.plans) old.device old.tables (Stopped end) → FaultIs end.outcome fault → SameDevice g end.device → TablesStand g (λ i. false) config.plans now (map lose end.tables) →
      Answers config old command.Mount (SessionStands config now g false (without_cursors notes)) f g (text (fault_reply fault))
  answers-stopped fault end did answer counts rest =
      let moment = stopped_so end fault in
      let stands = stands-bad (map lose end.tables) end.device counts rest moment.after refl refl refl refl refl in
      record {
        moment = moment;
        command_is = refl;
        none = refl;
        step = mount-step moment refl refl (Stopped end) did (ends-stopped end fault end.outcome refl answer);
        stands_after = stands;
        stays = record { image = session-ends config now (without_cursors notes) g false moment.after stands; idle = λ idle. absurd (works-on (fault_reply fault ∷ []) (fault-no-refusal fault) idle); stays = λ calm whole. absurd (not-whole fault end.outcome answer whole) };
        rose = risen-rose f g;
        said_is = one-text (fault_reply fault);
      }

  -- a read failed
  answers-unread : (fault : FlashFault) (end : Progress) → Mounts config.plans (has_risen f g) (turns_from 0 config.plans) old.device old.tables (Unread end) → fault ≡ Media → SameDevice g end.device → TablesStand g (λ i. false) config.plans now (map lose end.tables) →
      Answers config old command.Mount (SessionStands config now g false (without_cursors notes)) f g (text (fault_reply fault))
  answers-unread fault end did is counts rest =
      let after : Machine = record old { device = end.device; tables = map lose end.tables } in
      let moment : Moment = record { command = command.Mount; rose = has_risen f g; reads = 0; last = None; replies = reply.DeviceFault ∷ []; after = after } in
      let stands = stands-bad (map lose end.tables) end.device counts rest after refl h.is_mounted h.cursors refl refl in
      record {
        moment = moment;
        command_is = refl;
        none = refl;
        step = mount-step moment refl refl (Unread end) did (record { replies_are = refl; after_is = refl; last_is = refl });
        stands_after = stands;
        stays = record { image = session-ends config now (without_cursors notes) g false after stands; idle = λ idle. absurd (works-on (reply.DeviceFault ∷ []) refl idle); stays = λ calm whole. absurd (both (calm refl) (unread-rose config.plans (has_risen f g) (turns_from 0 config.plans) old.device old.tables end did)) };
        rose = risen-rose f g;
        said_is = one-text reply.DeviceFault ∙ ap (λ x. text (fault_reply x)) (sym is);
      }
    where
      both : has_risen f g ≡ false → IsTrue (has_risen f g) → ⊥
      both calm rose = false≢true (sym calm ∙ rose)

  answers-bad : (fault : FlashFault) → TablesBroken config.plans old.tables (has_risen f g) old.device fault now g → Answers config old command.Mount (SessionStands config now g false (without_cursors notes)) f g (text (fault_reply fault))
  answers-bad fault b = by_how b.did
    where
      by_how : (Mounts config.plans (has_risen f g) (turns_from 0 config.plans) old.device old.tables (Stopped b.end) × FaultIs b.end.outcome fault)
          ⊎ (Mounts config.plans (has_risen f g) (turns_from 0 config.plans) old.device old.tables (Unread b.end) × (fault ≡ Media)) →
          Answers config old command.Mount (SessionStands config now g false (without_cursors notes)) f g (text (fault_reply fault))
      by_how (inl x) = answers-stopped fault b.end x.0 x.1 b.counts b.rest
      by_how (inr x) = answers-unread fault b.end x.0 x.1 b.counts b.rest

  by-fault : (bad : BadMount) (fault : MountFault) → bad.fault ≡ fault → MountBreaks config.plans old.tables (has_risen f g) old.device fault now g →
      Answers config old command.Mount (SessionStands config now g false (without_cursors notes)) f g (text (bad_reply bad.name fault))
  by-fault bad (mount.Flash fault) e ends = answers-bad fault ends
  by-fault bad (mount.Ring fault) e ends = absurd ends
  by-fault bad (mount.BadPage page) e ends = absurd ends
  by-fault bad (mount.BadKeys page last key) e ends = absurd ends
  by-fault bad (mount.BadIndex end next) e ends = absurd ends
  by-fault bad (mount.BadBlob page next) e ends = absurd ends
  by-fault bad (mount.BadEntry page count limit) e ends = absurd ends

  pub mount-answers : (result : Result (Unit {0}) BadMount) (mounted : Bool) → mounted ≡ is_ok result → TablesMount config.plans old.tables (has_risen f g) old.device result now g → IsWatched f g (has_risen f g) old.device → OnOk result (Repairs f g entries) →
      Answers config old command.Mount (SessionStands config now g mounted (without_cursors notes)) f g (text (mount_reply result))
  mount-answers (Ok done) mounted m ends watched repaired = rw m (answers-well ends watched repaired)
  mount-answers (Err bad) mounted m ends watched repaired = rw m (by-fault bad bad.fault refl ends)
