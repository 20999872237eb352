-- How the mount of a table ends that may have a log.
use Rattle.std.proofs.Common.{◌≡◌, ℕ, ◌+◌, ◌≤◌, Bool, true, cond, nat_lt, Option, Some, None, IfSome, Result, Ok, Err, List, [], ◌∷◌, ◌++◌, map, filter, refl, sym, ◌∙◌, ap, subst, inl, inr, ◌⊎◌}
use Rattle.std.specs.List.{AllByRecursion}
use Rattle.std.proofs.lemmas.List.{append-nil}
use Rattle.fl_flash.specs.Flash.{FlashState, page_at}
use Rattle.fl_flash.specs.declared.flash.FlashFault.{FlashFault}
use Rattle.fl_flash.specs.declared.flash.FlashFault.TheVariants.{Media}
use Rattle.fl_machine.specs.Found.{HasRoom}
use Rattle.fl_machine.specs.Step.{made_ready}
use Rattle.fl_machine.proofs.RecordsChange.{adds-all, sure_in}
use Rattle.fl_machine.proofs.Logs.{core, IsFine, lost}
use Rattle.fl_machine.proofs.LogTables.{Resting}
use Rattle.fl_model.specs.Bare.{bare, bare_table}
use Rattle.fl_model.specs.Facts.{is_some_ring, counts_in}
use Rattle.fl_model.specs.Image.{IsRingImage, HoldsLogged, HoldsPage}
use Rattle.fl_model.specs.Mount.{Of, Replay, Turn, turns_of, rings_of, ready}
use Rattle.fl_model.specs.Record.{Plan, blocks_of, has_log, row_layout, rows_per_page}
use Rattle.fl_model.specs.Ring.{Ring, IsRing}
use Rattle.fl_model.specs.Row.{stored_row}
use Rattle.fl_model.specs.Table.{Table, Entry, RingName, LogRing, shape_of, log_pages, lose, pending_entries}
use Rattle.fl_model.specs.Within.{TableMounts, TableMountEnd, TableMounted, TableStopped, TableUnread}
use Rattle.fl_model.specs.Work.{Device}
use Rattle.fl_page.specs.Writer.{Gathers}
use Rattle.fl_table.specs.Mounting.{OutsideStands}
use Rattle.fl_table.specs.Outcomes as bare_outcomes
use Rattle.fl_parts.specs.Failing.{FaultEnds}
use Rattle.fl_table.specs.Outcomes.{mounted_of}
use Rattle.fl_parts.specs.Pages as pages
use Rattle.fl_parts.specs.Pages.{bytes_in}
use Rattle.fl_table.specs.Standing as without_log
use Rattle.fl_table.specs.declared.counts.Mounted.{Mounted}
use Rattle.fl_parts.specs.declared.mount_fault.MountFault.{MountFault}
use Rattle.fl_parts.specs.declared.mount_fault.MountFault.TheVariants as mount
use Rattle.fl_table.specs.declared.table.Table as code
use Rattle.fl_parts.proofs.Bare.{bare-table}
use Rattle.fl_parts.proofs.Loose.{rests-mountable}
use Rattle.fl_rlc.specs.Logged.{Stands, Rests, LogStands}
use Rattle.fl_rlc.specs.Memory as log_words
use Rattle.fl_rlc.specs.Memory.{rows_in}
use Rattle.fl_rlc.specs.MountingApart.{RestApart, MountsApart, FailsApart, MountApartEnds}
use Rattle.fl_rlc.specs.Outcomes.{MountsWell, MountsBadly, MountEnds}
use Rattle.fl_rlc.specs.Pages.{log_body}
use Rattle.fl_rlc.specs.Table.{IsPlanned, IsLogPlanned}
use Rattle.fl_rlc.specs.declared.log.RecordLog.{RecordLog}
use Rattle.fl_rlc.specs.declared.table.LoggedTable.{LoggedTable}
use Rattle.fl_rlc.proofs.Assembled.{bare-same, log-there, stands-of, rests-of, has-room}
use Rattle.fl_rlc.proofs.BareFacts.{bare-facts}
use Rattle.fl_rlc.proofs.Frames.{log-bytes}
use Rattle.fl_rlc.proofs.MountApart.{table-ends}
use Rattle.fl_rlc.proofs.MountFine.{mounted-done, stopped-fine, unread-fine}
use Rattle.fl_rlc.proofs.PutRows.{none-left}

turns-alone : (plan : Plan) → plan.log_blocks ≡ 0 → map (λ (ring : RingName). Of ring) (rings_of plan) ≡ turns_of plan
turns-alone plan none = sym (append-nil (map (λ (ring : RingName). Of ring) (rings_of plan))) ∙ ap (λ (n : ℕ). map (λ (ring : RingName). Of ring) (rings_of plan) ++ cond (nat_lt 0 n) (Of LogRing ∷ Replay ∷ []) []) (sym none)

module _ {KNOTS SLOTS : ℕ} (t : LoggedTable KNOTS SLOTS) (f : FlashState) (first : ℕ) (plan : Plan) (table : Table) (planned : IsPlanned t first plan) (rests : Rests f first plan table) where
  -- the table without its log rests
  pub bare-rests : pages.Rests f first (bare plan) (bare_table table)
  bare-rests = record {
    settled = record { facts = bare-facts plan table rests.settled.facts; lost = ap bare_table rests.settled.lost };
    pages = record { rows = rests.pages.rows; index = rests.pages.index; var = rests.pages.var };
  }

  pub bare-mountable : pages.RestsToMount f first (bare plan) (bare_table table)
  bare-mountable = rests-mountable f first (bare plan) (bare_table table) refl bare-rests

  none : table.pending ≡ 0
  none = ap (λ (x : Table). x.pending) rests.settled.lost

  -- ---- without a log

  module _ (alone : plan.log_blocks ≡ 0) (rose : Bool) (device : Device) (now : LoggedTable KNOTS SLOTS) (u : code.Table KNOTS SLOTS) (u_is : now.table ≡ u) (none_now : now.log ≡ None) (new : FlashState) where
    plan-same : bare plan ≡ plan
    plan-same = ap (λ (n : ℕ). record plan { log_blocks = n }) (sym alone)

    same : (result : Result Mounted MountFault) → bare_outcomes.MountEnds first (bare plan) (bare_table table) rose device result u new → bare_outcomes.MountEnds first plan table rose device result u new
    same result h =
        subst (λ (x : Table). bare_outcomes.MountEnds first plan x rose device result u new) (bare-same plan table alone rests.settled.facts)
        (subst (λ (x : Plan). bare_outcomes.MountEnds first x (bare_table table) rose device result u new) plan-same h)

    along : (how : TableMountEnd) → TableMounts plan rose (map (λ (ring : RingName). Of ring) (rings_of plan)) device table how → TableMounts plan rose (turns_of plan) device table how
    along how h = subst (λ (turns : List Turn). TableMounts plan rose turns device table how) (turns-alone plan alone) h

    made : (x : Table) → ready plan x ≡ made_ready plan x
    made x = ap (λ (n : ℕ). cond (nat_lt 0 n) x (ready plan x)) (sym alone)

    stands : (x : Table) → without_log.Stands u new first plan x → Stands now new first plan x
    stands x s = record {
      unlogged = subst (λ (y : code.Table KNOTS SLOTS). without_log.Stands y new first (bare plan) (bare_table x)) (sym u_is)
          (subst (λ (y : Plan). without_log.Stands u new first y (bare_table x)) (sym plan-same) (subst (λ (y : Table). without_log.Stands u new first plan y) (sym (bare-same plan x alone s.facts)) s));
      facts = s.facts;
      log = subst (λ (o : Option RecordLog). LogStands o new (first + blocks_of (bare plan)) plan x) (sym none_now) alone;
    }

    pub alone-ends : (result : Result Mounted MountFault) → bare_outcomes.MountEnds first (bare plan) (bare_table table) rose device result u new → MountEnds first plan table rose device result now new
    alone-ends (Ok mounted) h =
        let w = same (Ok mounted) h in
        record {
          now = w.now;
          did = along (TableMounted w.now) w.did;
          counts = w.counts;
          power = w.power;
          stands = subst (λ (x : Table). Stands now new first plan x) (made w.now.state) (stands (ready plan w.now.state) (w.stands rests.settled));
          answer = w.answer ∙ ap mounted_of (made w.now.state);
        }
    alone-ends (Err (mount.Flash fault)) h = badly fault (same (Err (mount.Flash fault)) h)
      where
        badly : (fault : FlashFault) → bare_outcomes.MountEnds first plan table rose device (Err (mount.Flash fault)) u new → MountEnds first plan table rose device (Err (mount.Flash fault)) now new
        badly fault w = record {
          now = w.now;
          did = by-did w.did;
          counts = w.counts;
          rests = subst (λ (x : Table). Rests new first plan x) (w.rests rests.settled).settled.lost (record {
            settled = (w.rests rests.settled).settled;
            pages = w.pages;
            log = subst (λ (o : Option Ring). IfSome o (λ r. IsRingImage (shape_of plan LogRing) r (bytes_in (page_at new) first plan LogRing) (HoldsLogged plan w.now.state r))) (sym (bare-table plan w.now.state alone (w.rests rests.settled).settled.facts).0) tt;
          });
        }
          where
            by-did : (TableMounts plan rose (map (λ (ring : RingName). Of ring) (rings_of plan)) device table (TableStopped w.now) × FaultEnds w.now.end fault new) ⊎ (TableMounts plan rose (map (λ (ring : RingName). Of ring) (rings_of plan)) device table (TableUnread w.now) × (fault ≡ Media)) →
                (TableMounts plan rose (turns_of plan) device table (TableStopped w.now) × FaultEnds w.now.end fault new) ⊎ (TableMounts plan rose (turns_of plan) device table (TableUnread w.now) × (fault ≡ Media))
            by-did (inl p) = inl (along (TableStopped w.now) p.0, p.1)
            by-did (inr p) = inr (along (TableUnread w.now) p.0, p.1)
    alone-ends (Err (mount.Ring fault)) h = absurd h
    alone-ends (Err (mount.BadPage bad)) h = absurd h
    alone-ends (Err (mount.BadKeys page last key)) h = absurd h
    alone-ends (Err (mount.BadIndex end next)) h = absurd h
    alone-ends (Err (mount.BadBlob page next)) h = absurd h
    alone-ends (Err (mount.BadEntry page count limit)) h = absurd h

  -- ---- with one

  module _ (l : RecordLog) (t_is : t.log ≡ Some l) where
    log-planned : log_words.IsPlanned l (first + blocks_of (bare plan)) plan
    log-planned = subst (λ (o : Option RecordLog). IsLogPlanned o (first + blocks_of (bare plan)) plan) t_is planned.log

    has : has_log plan ≡ true
    has = log-there l (first + blocks_of (bare plan)) plan log-planned

    room : HasRoom plan
    room = has-room t l first plan t_is planned.table log-planned

    -- its ring
    pub there : (ring : Ring) × (table.log ≡ Some ring)
    there = by-log table.log refl (rests.settled.facts.has_rings.2 ∙ has)
      where
        by-log : (o : Option Ring) → table.log ≡ o → is_some_ring o ≡ true → (ring : Ring) × (table.log ≡ Some ring)
        by-log None e k = cc
        by-log (Some ring) e k = (ring, e)

    -- .. apart from its log
    pub apart-of : RestApart l f first plan table
    apart-of =
        let facts = rests.settled.facts in
        let is = there.1 in
        let image : IsRingImage (shape_of plan LogRing) there.0 (bytes_in (page_at f) first plan LogRing) (HoldsLogged plan table there.0) =
        subst (λ (o : Option Ring). IfSome o (λ r. IsRingImage (shape_of plan LogRing) r (bytes_in (page_at f) first plan LogRing) (HoldsLogged plan table r))) is rests.log in
        record {
          unlogged = bare-rests;
          log = record {
            planned = log-planned;
            ring = there.0;
            ring_is = is;
            pages = record {
              facts = subst (λ (o : Option Ring). IfSome o (IsRing (shape_of plan LogRing))) is facts.log;
              number = subst (λ (o : Option Ring). IfSome o (λ r. r.next + (cond r.torn 1 0) ≤ 4294967292)) is (facts.numbers LogRing);
              each = facts.log_each ∙ ap (λ (o : Option Ring). filter (nat_lt 0) (counts_in o)) is;
              few = subst (λ (o : Option Ring). AllByRecursion (λ count. count ≤ rows_per_page plan) (counts_in o)) is facts.log_counts;
              fit = facts.log_fit;
              image = subst (λ (at : ℕ → List ℕ). IsRingImage (shape_of plan LogRing) there.0 at (HoldsPage (log_pages table) (log_body plan) there.0)) (sym (log-bytes l f first plan log-planned)) image;
            };
            logged_some = facts.logged_some;
          };
        }

    module _ (rose : Bool) (device : Device) where
      -- what is left of it where the mount stops
      badly : (fault : FlashFault) (new : FlashState) → FailsApart first plan table rose device fault l new → MountsBadly first plan table rose device fault new
      badly fault new b = by-did b.did
        where
          left : IsFine (lost (core b.now.state)) → Rests new first plan (lose b.now.state)
          left fine = rests-of l new first plan b.now.state b.rests.log.ring log-planned b.rests.unlogged b.rests.log.ring_is b.rests.log.pages b.rests.log.logged_some fine

          by-did : (TableMounts plan rose (turns_of plan) device table (TableStopped b.now) × FaultEnds b.now.end fault new) ⊎ (TableMounts plan rose (turns_of plan) device table (TableUnread b.now) × (fault ≡ Media)) → MountsBadly first plan table rose device fault new
          by-did (inl p) = record { now = b.now; did = inl p; counts = b.counts; rests = left (stopped-fine plan table there.0 there.1 rests.settled.facts none room has rose device b.now p.0) }
          by-did (inr p) = record { now = b.now; did = inr p; counts = b.counts; rests = left (unread-fine plan table there.0 there.1 rests.settled.facts none room has rose device b.now p.0) }

      pub badly-of : {K S : ℕ} (e : MountFault) (now : LoggedTable K S) (new : FlashState) → MountApartEnds first plan table rose device l (Err e) now new → MountEnds first plan table rose device (Err e) now new
      badly-of (mount.Flash fault) now new b = badly fault new b
      badly-of (mount.Ring fault) now new h = absurd h
      badly-of (mount.BadPage bad) now new h = absurd h
      badly-of (mount.BadKeys page last key) now new h = absurd h
      badly-of (mount.BadIndex end next) now new h = absurd h
      badly-of (mount.BadBlob page next) now new h = absurd h
      badly-of (mount.BadEntry page count limit) now new h = absurd h

      -- .. and where it doesn't
      pub well-of : {K' S' : ℕ} (l1 : RecordLog) (now : LoggedTable K' S') (new : FlashState) (answer : Mounted) → now.log ≡ Some l1 → (empty : Gathers (row_layout plan) [] (rows_in l1)) →
          MountsApart first plan table rose device answer l1 now new → MountsWell first plan table rose device answer now new
      well-of l1 now new answer log_is empty h =
          let done = mounted-done plan table there.0 there.1 rests.settled.facts none room has rose device h.now h.did in
          let made : h.now.state ≡ made_ready plan h.now.state = ap (λ (b : Bool). cond b h.now.state (ready plan h.now.state)) (sym has) in
          let rows : pending_entries h.now.state ≡ [] = none-left h.now.state h.none in
          record {
            now = h.now;
            did = h.did;
            counts = h.counts;
            power = h.power;
            stands = subst (λ (x : Table). Stands now new first plan x) made
                (stands-of now l1 new first plan h.now.state log_is h.unlogged
                (record { ring = h.ring; rows = subst (λ (es : List Entry). Gathers (row_layout plan) (map stored_row es) (rows_in l1)) (sym rows) empty })
                (Resting done.rests.fine (record { none = h.none; calm = done.calm }) done.paid (adds-all (sure_in (core h.now.state)))));
            answer = h.answer ∙ ap mounted_of made;
          }

  -- ---- the mount of the table failed, or there is no log behind it

  pub fails : (rose : Bool) (device : Device) (e : MountFault) (u : code.Table KNOTS SLOTS) (now : LoggedTable KNOTS SLOTS) → now.table ≡ u → now.log ≡ t.log → (new : FlashState) → OutsideStands t.table (page_at f) (page_at new) →
      bare_outcomes.MountEnds first (bare plan) (bare_table table) rose device (Err e) u new → MountEnds first plan table rose device (Err e) now new
  fails rose device e u now u_is log_is new outside h = by-log t.log refl
    where
      by-log : (o : Option RecordLog) → t.log ≡ o → MountEnds first plan table rose device (Err e) now new
      by-log None is = alone-ends (subst (λ (o : Option RecordLog). IsLogPlanned o (first + blocks_of (bare plan)) plan) is planned.log) rose device now u u_is (log_is ∙ is) new (Err e) h
      by-log (Some l) is = badly-of l is rose device e now new (table-ends t f first plan table planned l (apart-of l is) rose device e u now new outside h)

  pub mounts-alone : (rose : Bool) (device : Device) (result : Result Mounted MountFault) (now : LoggedTable KNOTS SLOTS) (new : FlashState) → t.log ≡ None → now.log ≡ None →
      bare_outcomes.MountEnds first (bare plan) (bare_table table) rose device result now.table new → MountEnds first plan table rose device result now new
  mounts-alone rose device result now new is none_now h =
      alone-ends (subst (λ (o : Option RecordLog). IsLogPlanned o (first + blocks_of (bare plan)) plan) is planned.log) rose device now now.table refl none_now new result h
