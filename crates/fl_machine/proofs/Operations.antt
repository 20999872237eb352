-- The totals rise by the operations of each command.
use Rattle.std.proofs.Common.{◌≡◌, ℕ, zero, suc, ◌+◌, ◌<◌, Bool, true, false, cond, Option, Some, None, List, [], ◌∷◌, ◌++◌, ◌-◌, ◌^◌, append-nil, append_assoc, refl, sym, ap, subst, ◌∙◌, arith, inl, inr, MatchOption, MatchBool}
use Rattle.std.specs.List.{slice_get}
use Rattle.fl_base.specs.declared.types.CutKind.{CutKind}
use Rattle.fl_base.specs.Generator.{next_random}
use Rattle.fl_model.specs.Record.{Plan, Record, Config}
use Rattle.fl_model.specs.Table.{Table, Refusal, refusal_of, put_joined, put_record, table_seals}
use Rattle.fl_model.specs.Work.{Kind, Body, Mark, VoidMark, Erase, Operation, Device, cut_now, counted, done, Progress, Outcome, Finished, CutShort, Failed, Performs, PerformsFirst, operations_of, changed_at}
use Rattle.fl_model.specs.Within.{all_done}
use Rattle.fl_model.specs.Puts.{Puts, PutGoesOn, room_operations, join_operations}
use Rattle.fl_model.specs.Mount.{Turn, Mounts, MountEnd, Mounted, Stopped, Unread, GoesOn, turns_from, turned_at, operations_at}
use Rattle.fl_words.specs.Command as command
use Rattle.fl_words.specs.Command.{Command}
use Rattle.fl_words.specs.Reply as reply
use Rattle.fl_words.specs.Reply.{Reply}
use Rattle.fl_machine.specs.Machine.{Machine}
use Rattle.fl_machine.specs.Step.{Moment, StepOf, Says, EndsAs, EndsMount, WithTable, Located, located, LoadsFrom, LoadsOn, load_record, refused}
use Rattle.fl_machine.specs.Operations.{programs_in, erases_in, unless_refused, of_table, load_operations, mount_operations, accepted_operations, of_located, operations_by, CountsOperations, CountsFront, CountsMoment, OperationsAreExact}
use Rattle.fl_machine.proofs.StepCases.{IsQuiet, quiet-step}
use Rattle.fl_machine.proofs.Determined.{cut-not-finished, failed-not-finished, not-both}

-- nothing fails in a moment
record IsWhole (m : Moment) : Type 0 where
  rose : m.rose ≡ false
  last : m.last ≡ None

-- from a device on, a moment does a front of these operations, and all of them where nothing fails
record Does (m : Moment) (device : Device) (operations : List Operation) : Type 0 where
  front : CountsFront device operations m.after.device
  whole : IsWhole m → CountsOperations device operations m.after.device

abbrev Counted : Machine → List Operation → Moment → Type 0
Counted old operations m = Does m old.device operations

zero-plus : (n : ℕ) → n ≡ n + 0
zero-plus n = omega arith

counts-none : (a b : Device) → b.programs ≡ a.programs → b.erases ≡ a.erases → CountsOperations a [] b
counts-none a b p e = record { programs = λ less. p ∙ zero-plus a.programs; erases = λ less. e ∙ zero-plus a.erases }

programs-append : (xs ys : List Operation) → programs_in (xs ++ ys) ≡ programs_in xs + programs_in ys
programs-append [] ys = omega arith
programs-append (x ∷ xs) ys = omega (arith, programs-append xs ys)

erases-append : (xs ys : List Operation) → erases_in (xs ++ ys) ≡ erases_in xs + erases_in ys
erases-append [] ys = omega arith
erases-append (x ∷ xs) ys = omega (arith, erases-append xs ys)

-- counts that rise twice
rises : (most a b c m n : ℕ) → (b < most → b ≡ a + m) → (c < most → c ≡ b + n) → c < most → c ≡ a + (m + n)
rises most a b c m n f g less = omega (arith, g less, f (omega (arith, g less)))

counts-more : (a b c : Device) (xs ys : List Operation) → CountsOperations a xs b → CountsOperations b ys c → CountsOperations a (xs ++ ys) c
counts-more a b c xs ys h k = record {
  programs = λ less. rises _ a.programs b.programs c.programs (programs_in xs) (programs_in ys) h.programs k.programs less ∙ ap (λ n. a.programs + n) (sym (programs-append xs ys));
  erases = λ less. rises _ a.erases b.erases c.erases (erases_in xs) (erases_in ys) h.erases k.erases less ∙ ap (λ n. a.erases + n) (sym (erases-append xs ys));
}

-- all operations are done, or some and then a front of others, or only a front
does-all : (m : Moment) (device : Device) (operations : List Operation) → CountsOperations device operations m.after.device → Does m device operations
does-all m device operations h = record { front = record { front = operations; others = []; split = append-nil operations; counts = h }; whole = λ w. h }

does-more : (m : Moment) (device mid : Device) (xs ys : List Operation) → CountsOperations device xs mid → Does m mid ys → Does m device (xs ++ ys)
does-more m device mid xs ys h k = record {
  front = record {
    front = xs ++ k.front.front;
    others = k.front.others;
    split = append_assoc xs k.front.front k.front.others ∙ ap (λ zs. xs ++ zs) k.front.split;
    counts = counts-more device mid m.after.device xs k.front.front h k.front.counts;
  };
  whole = λ w. counts-more device mid m.after.device xs ys h (k.whole w);
}

does-front : (m : Moment) (device : Device) (xs ys : List Operation) → CountsFront device xs m.after.device → (IsWhole m → ⊥) → Does m device (xs ++ ys)
does-front m device xs ys h broken = record {
  front = record { front = h.front; others = h.others ++ ys; split = sym (append_assoc h.front h.others ys) ∙ ap (λ zs. zs ++ ys) h.split; counts = h.counts };
  whole = λ w. absurd (broken w);
}

does-part : (m : Moment) (device : Device) (xs : List Operation) → CountsFront device xs m.after.device → (IsWhole m → ⊥) → Does m device xs
does-part m device xs h broken = record { front = h; whole = λ w. absurd (broken w) }

counts-one : (operation : Operation) (device : Device) → CountsOperations device (operation ∷ []) (counted operation.kind device)
counts-one operation device = by_kind operation.kind refl
  where
    by_kind : (kind : Kind) → operation.kind ≡ kind → CountsOperations device (operation ∷ []) (counted operation.kind device)
    by_kind Body e = rw e record { programs = λ less. omega arith; erases = λ less. omega arith }
    by_kind Mark e = rw e record { programs = λ less. omega arith; erases = λ less. omega arith }
    by_kind VoidMark e = rw e record { programs = λ less. omega arith; erases = λ less. omega arith }
    by_kind Erase e = rw e record { programs = λ less. omega arith; erases = λ less. omega arith }

some-not-none : (m : Moment) (last : List Table) → m.last ≡ Some last → m.last ≡ None → ⊥
some-not-none m last e k = differ (sym e ∙ k)
  where
    differ : Some last ≡ None → ⊥
    differ e = cc

-- operations that were all done
record Did (plans : List Plan) (operations : List Operation) (device : Device) (tables : List Table) (end : Progress) : Type 0 where
  counts : CountsOperations device operations end.device
  tables_are : end.tables ≡ all_done (done plans) operations tables

performs-did : (plans : List Plan) (rose : Bool) (operations : List Operation) (device : Device) (tables : List Table) (end : Progress) →
    Performs plans rose operations device tables end → end.outcome ≡ Finished → Did plans operations device tables end
performs-did plans rose [] device tables end (outcome, d, ts) e = record { counts = counts-none device end.device (ap (λ (x : Device). x.programs) d) (ap (λ (x : Device). x.erases) d); tables_are = ts }
performs-did plans rose (operation ∷ operations) device tables end h e =
    by_cut (cut_now device) h (λ g. performs-did plans rose operations (counted operation.kind device) (done plans operation tables) end g e)
  where
    by_cut : (now : Option CutKind) → PerformsFirst plans rose now operation device tables end (Performs plans rose operations (counted operation.kind device) (done plans operation tables) end) →
        (Performs plans rose operations (counted operation.kind device) (done plans operation tables) end → Did plans operations (counted operation.kind device) (done plans operation tables) end) →
        Did plans (operation ∷ operations) device tables end
    by_cut (Some kind) (outcome, d, leaves) go = absurd (cut-not-finished tables (sym outcome ∙ e))
    by_cut None (inl (rose, outcome, d, leaves)) go = absurd (failed-not-finished tables (sym outcome ∙ e))
    by_cut None (inr goes) go = let g = go goes in record {
      counts = counts-more device (counted operation.kind device) end.device (operation ∷ []) operations (counts-one operation device) g.counts;
      tables_are = g.tables_are;
    }

-- operations of which one may have failed
performs-front : (plans : List Plan) (rose : Bool) (operations : List Operation) (device : Device) (tables : List Table) (end : Progress) →
    Performs plans rose operations device tables end → CountsFront device operations end.device
performs-front plans rose [] device tables end (outcome, d, ts) =
    record { front = []; others = []; split = refl; counts = counts-none device end.device (ap (λ (x : Device). x.programs) d) (ap (λ (x : Device). x.erases) d) }
performs-front plans rose (operation ∷ operations) device tables end h =
    by_cut (cut_now device) h (λ g. performs-front plans rose operations (counted operation.kind device) (done plans operation tables) end g)
  where
    first : (d : Device) → d.programs ≡ (counted operation.kind device).programs → d.erases ≡ (counted operation.kind device).erases → CountsFront device (operation ∷ operations) d
    first d p e = let one = counts-one operation device in record {
      front = operation ∷ [];
      others = operations;
      split = refl;
      counts = record { programs = λ less. p ∙ one.programs (subst (λ n. n < 2 ^ 64 - 1) p less); erases = λ less. e ∙ one.erases (subst (λ n. n < 2 ^ 64 - 1) e less) };
    }

    by_cut : (now : Option CutKind) → PerformsFirst plans rose now operation device tables end (Performs plans rose operations (counted operation.kind device) (done plans operation tables) end) →
        (Performs plans rose operations (counted operation.kind device) (done plans operation tables) end → CountsFront (counted operation.kind device) operations end.device) →
        CountsFront device (operation ∷ operations) end.device
    by_cut (Some kind) (outcome, d, leaves) go = first end.device (ap (λ (x : Device). x.programs) d) (ap (λ (x : Device). x.erases) d)
    by_cut None (inl (rose, outcome, d, leaves)) go = first end.device (ap (λ (x : Device). x.programs) d) (ap (λ (x : Device). x.erases) d)
    by_cut None (inr goes) go = let g = go goes in record {
      front = operation ∷ g.front;
      others = g.others;
      split = ap (λ xs. operation ∷ xs) g.split;
      counts = counts-more device (counted operation.kind device) end.device (operation ∷ []) g.front (counts-one operation device) g.counts;
    }

-- a put
puts-did : (plans : List Plan) (rose : Bool) (plan : Plan) (place : ℕ) (item : Record) (table : Table) (device : Device) (tables : List Table) (end : Progress) →
    Puts plans rose plan place item table device tables end → end.outcome ≡ Finished → CountsOperations device (accepted_operations plan place item table) end.device
puts-did plans rose plan place item table device tables end (mid, did, goes) e = by_outcome mid.outcome refl goes
  where
    by_outcome : (o : Outcome) → mid.outcome ≡ o → PutGoesOn o mid end (Performs plans rose (join_operations plan place item table) mid.device (changed_at place (put_joined plan item) tables) end) →
        CountsOperations device (accepted_operations plan place item table) end.device
    by_outcome Finished q g =
        counts-more device mid.device end.device (room_operations plan place table) (join_operations plan place item table)
        (performs-did plans rose (room_operations plan place table) device tables mid did q).counts
        (performs-did plans rose (join_operations plan place item table) mid.device (changed_at place (put_joined plan item) tables) end g e).counts
    by_outcome (CutShort last) q g = absurd (cut-not-finished last (sym q ∙ (ap (λ (x : Progress). x.outcome) (sym g) ∙ e)))
    by_outcome (Failed last) q g = absurd (failed-not-finished last (sym q ∙ (ap (λ (x : Progress). x.outcome) (sym g) ∙ e)))

puts-front : (plans : List Plan) (rose : Bool) (plan : Plan) (place : ℕ) (item : Record) (table : Table) (device : Device) (tables : List Table) (end : Progress) →
    Puts plans rose plan place item table device tables end → CountsFront device (accepted_operations plan place item table) end.device
puts-front plans rose plan place item table device tables end (mid, did, goes) = by_outcome mid.outcome refl goes
  where
    xs : List Operation
    xs = room_operations plan place table

    ys : List Operation
    ys = join_operations plan place item table

    part_done : end ≡ mid → CountsFront device (xs ++ ys) end.device
    part_done g =
        let h = performs-front plans rose xs device tables mid did in
        subst (λ (x : Progress). CountsFront device (xs ++ ys) x.device) (sym g)
        (record { front = h.front; others = h.others ++ ys; split = sym (append_assoc h.front h.others ys) ∙ ap (λ zs. zs ++ ys) h.split; counts = h.counts })

    by_outcome : (o : Outcome) → mid.outcome ≡ o → PutGoesOn o mid end (Performs plans rose ys mid.device (changed_at place (put_joined plan item) tables) end) → CountsFront device (xs ++ ys) end.device
    by_outcome Finished q g =
        let h = performs-did plans rose xs device tables mid did q in
        let k = performs-front plans rose ys mid.device (changed_at place (put_joined plan item) tables) end g in
        record {
          front = xs ++ k.front;
          others = k.others;
          split = append_assoc xs k.front k.others ∙ ap (λ zs. xs ++ zs) k.split;
          counts = counts-more device mid.device end.device xs k.front h.counts k.counts;
        }
    by_outcome (CutShort last) q g = part_done g
    by_outcome (Failed last) q g = part_done g

-- a moment in which an operation failed
stops-broken : (m : Moment) (before : List Table) → m.last ≡ Some before → IsWhole m → ⊥
stops-broken m before e w = some-not-none m before e w.last

front-to : (device : Device) (operations : List Operation) (a b : Device) → b ≡ a → CountsFront device operations a → CountsFront device operations b
front-to device operations a b e h = subst (λ d. CountsFront device operations d) (sym e) h

-- a command that does no operation
says-none : (old : Machine) (m : Moment) (replies : List Reply) (new : Machine) → Says m replies new → new.device.programs ≡ old.device.programs → new.device.erases ≡ old.device.erases → Counted old [] m
says-none old m replies new h p e =
    does-all m old.device [] (counts-none old.device m.after.device (ap (λ (x : Machine). x.device.programs) h.after_is ∙ p) (ap (λ (x : Machine). x.device.erases) h.after_is ∙ e))

-- a command that is a list of operations
operations-counted : (plans : List Plan) (old : Machine) (m : Moment) (operations : List Operation) (ok : List Reply) (new : Progress → Machine) → ((end : Progress) → (new end).device ≡ end.device) →
    ((end : Progress) × Performs plans m.rose operations old.device old.tables end × EndsAs end.outcome old m end [] ok (new end)) → Counted old operations m
operations-counted plans old m operations ok new same (end, did, ends) = by_outcome end.outcome refl ends
  where
    stopped_front : m.after.device ≡ end.device → CountsFront old.device operations m.after.device
    stopped_front e = front-to old.device operations end.device m.after.device e (performs-front plans m.rose operations old.device old.tables end did)

    by_outcome : (o : Outcome) → end.outcome ≡ o → EndsAs o old m end [] ok (new end) → Does m old.device operations
    by_outcome Finished e h =
        does-all m old.device operations
        (subst (λ (d : Device). CountsOperations old.device operations d) (sym (ap (λ (x : Machine). x.device) h.after_is ∙ same end)) (performs-did plans m.rose operations old.device old.tables end did e).counts)
    by_outcome (CutShort before) e h = does-part m old.device operations (stopped_front (ap (λ (x : Machine). x.device) h.after_is)) (stops-broken m before h.last_is)
    by_outcome (Failed before) e h = does-part m old.device operations (stopped_front (ap (λ (x : Machine). x.device) h.after_is)) (stops-broken m before h.last_is)

put-counted : (config : Config) (old : Machine) (m : Moment) (item : Record) (at : Located) (o : Option Refusal) →
    MatchOption o
    ((end : Progress) × Puts config.plans m.rose at.plan at.place item at.table old.device old.tables end
    × EndsAs end.outcome old m end [] (reply.Done ∷ []) (record old { device = end.device; tables = changed_at at.place (put_record at.plan item) old.tables }))
    (λ refusal. Says m (refused refusal ∷ []) old) →
    Counted old (unless_refused o (accepted_operations at.plan at.place item at.table)) m
put-counted config old m item at (Some refusal) h = says-none old m (refused refusal ∷ []) old h refl refl
put-counted config old m item at None (end, did, ends) = by_outcome end.outcome refl ends
  where
    operations : List Operation
    operations = accepted_operations at.plan at.place item at.table

    stopped_front : m.after.device ≡ end.device → CountsFront old.device operations m.after.device
    stopped_front e = front-to old.device operations end.device m.after.device e (puts-front config.plans m.rose at.plan at.place item at.table old.device old.tables end did)

    by_outcome : (o : Outcome) → end.outcome ≡ o → EndsAs o old m end [] (reply.Done ∷ []) (record old { device = end.device; tables = changed_at at.place (put_record at.plan item) old.tables }) → Does m old.device operations
    by_outcome Finished e h =
        does-all m old.device operations
        (subst (λ (d : Device). CountsOperations old.device operations d) (sym (ap (λ (x : Machine). x.device) h.after_is)) (puts-did config.plans m.rose at.plan at.place item at.table old.device old.tables end did e))
    by_outcome (CutShort before) e h = does-part m old.device operations (stopped_front (ap (λ (x : Machine). x.device) h.after_is)) (stops-broken m before h.last_is)
    by_outcome (Failed before) e h = does-part m old.device operations (stopped_front (ap (λ (x : Machine). x.device) h.after_is)) (stops-broken m before h.last_is)

-- the end of a load, behind which it does nothing
load-ends : (m : Moment) (old : Machine) (device : Device) (tables : List Table) (replies : List Reply) → Says m replies (record old { device = device; tables = tables }) → Does m device []
load-ends m old device tables replies h =
    does-all m device [] (counts-none device m.after.device (ap (λ (x : Machine). x.device.programs) h.after_is) (ap (λ (x : Machine). x.device.erases) h.after_is))

-- a load
loads-counted : (config : Config) (old : Machine) (m : Moment) (plan : Plan) (place step seed turns i s loaded : ℕ) (device : Device) (tables : List Table) →
    LoadsFrom config old m plan place step seed turns i s loaded device tables → Does m device (load_operations plan place step seed turns i s tables)
loads-counted config old m plan place step seed zero i s loaded device tables h = load-ends m old device tables (reply.Loaded loaded ∷ []) h
loads-counted config old m plan place step seed (suc turns) i s loaded device tables h =
    by_table (slice_get tables place) h (λ d ts g. loads-counted config old m plan place step seed turns (i + 1) (next_random s) (loaded + 1) d ts g)
  where
    Goes : Device → List Table → Type 0
    Goes d ts = LoadsFrom config old m plan place step seed turns (i + 1) (next_random s) (loaded + 1) d ts

    others : List Table → List Operation
    others ts = load_operations plan place step seed turns (i + 1) (next_random s) ts

    by_outcome : (item : Record) (table : Table) (after : List Table) (o : Outcome) (end : Progress) → end.outcome ≡ o → Puts config.plans m.rose plan place item table device tables end →
        LoadsOn o old m end loaded (Goes end.device after) → ((d : Device) (ts : List Table) → Goes d ts → Does m d (others ts)) → Does m device (accepted_operations plan place item table ++ others after)
    by_outcome item table after Finished end e did on go =
        does-more m device end.device (accepted_operations plan place item table) (others after) (puts-did config.plans m.rose plan place item table device tables end did e) (go end.device after on)
    by_outcome item table after (CutShort before) end e did on go =
        does-front m device (accepted_operations plan place item table) (others after)
        (front-to device (accepted_operations plan place item table) end.device m.after.device (ap (λ (x : Machine). x.device) on.after_is) (puts-front config.plans m.rose plan place item table device tables end did))
        (stops-broken m before on.last_is)
    by_outcome item table after (Failed before) end e did on go =
        does-front m device (accepted_operations plan place item table) (others after)
        (front-to device (accepted_operations plan place item table) end.device m.after.device (ap (λ (x : Machine). x.device) on.after_is) (puts-front config.plans m.rose plan place item table device tables end did))
        (stops-broken m before on.last_is)

    by_refusal : (table : Table) (item : Record) (o : Option Refusal) →
        MatchOption o
        ((end : Progress) × Puts config.plans m.rose plan place item table device tables end
        × LoadsOn end.outcome old m end loaded (Goes end.device (changed_at place (put_record plan item) tables)))
        (λ refusal. Says m (reply.Loaded loaded ∷ refused refusal ∷ []) (record old { device = device; tables = tables })) →
        ((d : Device) (ts : List Table) → Goes d ts → Does m d (others ts)) →
        Does m device (unless_refused o (accepted_operations plan place item table ++ others (changed_at place (put_record plan item) tables)))
    by_refusal table item (Some refusal) h go = load-ends m old device tables (reply.Loaded loaded ∷ refused refusal ∷ []) h
    by_refusal table item None (end, did, on) go =
        by_outcome item table (changed_at place (put_record plan item) tables) end.outcome end refl did on go

    by_table : (o : Option Table) →
        MatchOption o (Says m [] (record old { device = device; tables = tables })) (λ table.
        let item = load_record plan table step seed i s in
        MatchOption (refusal_of plan table item)
        ((end : Progress) × Puts config.plans m.rose plan place item table device tables end
        × LoadsOn end.outcome old m end loaded (Goes end.device (changed_at place (put_record plan item) tables)))
        (λ refusal. Says m (reply.Loaded loaded ∷ refused refusal ∷ []) (record old { device = device; tables = tables }))) →
        ((d : Device) (ts : List Table) → Goes d ts → Does m d (others ts)) →
        Does m device (of_table o (λ table.
        let item = load_record plan table step seed i s in
        unless_refused (refusal_of plan table item) (accepted_operations plan place item table ++ others (changed_at place (put_record plan item) tables))))
    by_table None h go = load-ends m old device tables [] h
    by_table (Some table) h go = by_refusal table (load_record plan table step seed i s) (refusal_of plan table (load_record plan table step seed i s)) h go

rings-counted : (config : Config) (old : Machine) (m : Moment) (rings : List (ℕ × Turn)) (device : Device) (tables : List Table) (how : MountEnd) →
    Mounts config.plans m.rose rings device tables how → EndsMount config old m how → Does m device (mount_operations config.plans rings tables)
rings-counted config old m [] device tables how is ends = ended (subst (λ (x : MountEnd). EndsMount config old m x) is ends)
  where
    ended : EndsMount config old m (Mounted (record { outcome = Finished; device = device; tables = tables })) → Does m device []
    ended h = does-all m device [] (counts-none device m.after.device (ap (λ (x : Machine). x.device.programs) h.after_is) (ap (λ (x : Machine). x.device.erases) h.after_is))
rings-counted config old m (at ∷ rings) device tables how (inl (end, unread, is)) ends =
    unread_end (subst (λ (x : MountEnd). EndsMount config old m x) is ends)
  where
    numbered : List Table
    numbered = turned_at config.plans at tables

    repairs : List Operation
    repairs = operations_at config.plans at numbered

    unread_end : EndsMount config old m (Unread end) → Does m device (repairs ++ mount_operations config.plans rings (all_done (done config.plans) repairs numbered))
    unread_end h =
        does-front m device repairs (mount_operations config.plans rings (all_done (done config.plans) repairs numbered))
        (front-to device repairs end.device m.after.device (ap (λ (x : Machine). x.device) h.after_is)
        (record { front = unread.front; others = unread.others; split = sym unread.split; counts = (performs-did config.plans m.rose unread.front device numbered end unread.did unread.outcome).counts }))
        (λ w. not-both m.rose w.rose unread.may_fail)
rings-counted config old m (at ∷ rings) device tables how (inr (end, did, goes)) ends =
    by_outcome end.outcome refl goes (λ g. rings-counted config old m rings end.device end.tables how g ends)
  where
    numbered : List Table
    numbered = turned_at config.plans at tables

    repairs : List Operation
    repairs = operations_at config.plans at numbered

    others : List Operation
    others = mount_operations config.plans rings (all_done (done config.plans) repairs numbered)

    stopped_end : (o : Outcome) → end.outcome ≡ o → how ≡ Stopped end → EndsAs o old m end [] [] old
    stopped_end o e is = subst (λ (x : Outcome). EndsAs x old m end [] [] old) e (subst (λ (x : MountEnd). EndsMount config old m x) is ends)

    broken : (before : List Table) → m.after.device ≡ end.device → m.last ≡ Some before → Does m device (repairs ++ others)
    broken before e last =
        does-front m device repairs others (front-to device repairs end.device m.after.device e (performs-front config.plans m.rose repairs device numbered end did)) (stops-broken m before last)

    by_outcome : (o : Outcome) → end.outcome ≡ o → GoesOn o end how (Mounts config.plans m.rose rings end.device end.tables how) →
        (Mounts config.plans m.rose rings end.device end.tables how → Does m end.device (mount_operations config.plans rings end.tables)) → Does m device (repairs ++ others)
    by_outcome Finished e g go =
        let d = performs-did config.plans m.rose repairs device numbered end did e in
        does-more m device end.device repairs others d.counts (subst (λ (ts : List Table). Does m end.device (mount_operations config.plans rings ts)) d.tables_are (go g))
    by_outcome (CutShort before) e g go = let h = stopped_end (CutShort before) e g in broken before (ap (λ (x : Machine). x.device) h.after_is) h.last_is
    by_outcome (Failed before) e g go = let h = stopped_end (Failed before) e g in broken before (ap (λ (x : Machine). x.device) h.after_is) h.last_is

mount-counted : (config : Config) (old : Machine) (m : Moment) (b : Bool) →
    MatchBool b (Says m (reply.AlreadyMounted ∷ []) old)
    ((how : MountEnd) × Mounts config.plans m.rose (turns_from 0 config.plans) old.device old.tables how × EndsMount config old m how) →
    Counted old (cond b [] (mount_operations config.plans (turns_from 0 config.plans) old.tables)) m
mount-counted config old m true h = says-none old m (reply.AlreadyMounted ∷ []) old h refl refl
mount-counted config old m false (how, did, ends) = rings-counted config old m (turns_from 0 config.plans) old.device old.tables how did ends

-- a command on a table
on-table : (config : Config) (old : Machine) (name : List ℕ) (m : Moment) (P : Located → Type 0) (f : Located → List Operation) → WithTable config old m name P →
    ((at : Located) → P at → Counted old (f at) m) → Counted old (cond old.mounted (of_located (located config old name) f) []) m
on-table config old name m P f h go = by_cases old.mounted (located config old name) h
  where
    by_cases : (b : Bool) (o : Option Located) → MatchBool b (MatchOption o (Says m (reply.NoTable ∷ []) old) P) (Says m (reply.NotMounted ∷ []) old) → Counted old (cond b (of_located o f) []) m
    by_cases true None h = says-none old m (reply.NoTable ∷ []) old h refl refl
    by_cases true (Some at) h = go at h
    by_cases false o h = says-none old m (reply.NotMounted ∷ []) old h refl refl

-- .. and one that does no operation
quiet-none : (config : Config) (old : Machine) (m : Moment) (c : Command) → IsQuiet c → StepOf config old m c → Counted old [] m
quiet-none config old m c quiet h =
    let left = quiet-step config old m c quiet h in
    does-all m old.device [] (counts-none old.device m.after.device left.programs left.erases)

-- each step
step-counted : (config : Config) (old : Machine) (m : Moment) (c : Command) → StepOf config old m c → Counted old (operations_by config old c) m
step-counted config old m command.Nothing h = quiet-none config old m command.Nothing tt h
step-counted config old m command.Mount h = mount-counted config old m old.mounted h
step-counted config old m command.Off h = says-none old m (reply.Done ∷ []) _ h refl refl
step-counted config old m (command.Cut n kind) h = quiet-none config old m (command.Cut n kind) tt h
step-counted config old m (command.Put name key values blob) h =
    let item : Record = record { key = key; values = values; blob = blob } in
    on-table config old name m _ _ h (λ at p. put-counted config old m item at (refusal_of at.plan at.table item) p)
step-counted config old m (command.Flush name) h =
    on-table config old name m _ _ h
    (λ at p. operations-counted config.plans old m (operations_of at.plan at.place (table_seals at.plan at.table) at.table) (reply.Done ∷ []) _ (λ end. refl) p)
step-counted config old m (command.Get name key) h = quiet-none config old m (command.Get name key) tt h
step-counted config old m (command.Blob name key) h = quiet-none config old m (command.Blob name key) tt h
step-counted config old m (command.Scan name range span) h = quiet-none config old m (command.Scan name range span) tt h
step-counted config old m (command.Open cursor name range span) h = quiet-none config old m (command.Open cursor name range span) tt h
step-counted config old m (command.Next cursor count) h = quiet-none config old m (command.Next cursor count) tt h
step-counted config old m (command.Close cursor) h = quiet-none config old m (command.Close cursor) tt h
step-counted config old m (command.Select name range column op value) h = quiet-none config old m (command.Select name range column op value) tt h
step-counted config old m (command.Project name range columns) h = quiet-none config old m (command.Project name range columns) tt h
step-counted config old m (command.Agg name range column width) h = quiet-none config old m (command.Agg name range column width) tt h
step-counted config old m (command.Join left right range) h = quiet-none config old m (command.Join left right range) tt h
step-counted config old m (command.Stat name) h = quiet-none config old m (command.Stat name) tt h
step-counted config old m command.Cost h = quiet-none config old m command.Cost tt h
step-counted config old m (command.Load name count step seed) h =
    on-table config old name m _ _ h (λ at p. loads-counted config old m at.plan at.place step seed count 1 (next_random seed) 0 old.device old.tables p)
step-counted config old m (command.Device page block) h = absurd h
step-counted config old m (command.Table line) h = absurd h

moment-counted : (config : Config) (old : Machine) (m : Moment) → StepOf config old m m.command → CountsMoment config old m
moment-counted config old m step =
    let h = step-counted config old m m.command step in record { front = h.front; whole = λ rose last. h.whole (record { rose = rose; last = last }) }

pub exact : OperationsAreExact
exact config old [] run = tt
exact config old (m ∷ ms) (step, run) = (moment-counted config old m step, exact config m.after ms run)
