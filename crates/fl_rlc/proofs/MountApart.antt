-- How the mount of a table with a log ends, whatever records the log has.
use Rattle.std.proofs.Common.{◌≡◌, ℕ, ◌+◌, Bool, true, cond, Option, Some, List, [], ◌∷◌, ◌++◌, Ok, Err, map, sym, ◌∙◌, ap, subst, refl, arith, inl, inr, ◌⊎◌}
use Rattle.std.proofs.lemmas.List.{length-map}
use Rattle.fl_flash.specs.Flash.{FlashState, page_at}
use Rattle.fl_flash.specs.declared.flash.FlashFault.{FlashFault}
use Rattle.fl_flash.specs.declared.flash.FlashFault.TheVariants.{Media}
use Rattle.fl_model.specs.Bare.{bare, bare_table, Log, log_of, beside, end_beside, progress_beside, mount_beside}
use Rattle.fl_model.specs.Facts.{IsTable}
use Rattle.fl_model.specs.Mount.{Of, Replay, Turn, turns_of, rings_of, ready}
use Rattle.fl_model.specs.Record.{Plan, blocks_of, has_log, row_layout}
use Rattle.fl_model.specs.Ring.{Ring}
use Rattle.fl_model.specs.Row.{stored_row}
use Rattle.fl_model.specs.Table.{Table, Entry, RingName, LogRing, has_rows, log_pages, lose, pending_entries}
use Rattle.fl_model.specs.Within.{TableMounts, TableMountEnd, TableMounted, TableStopped, TableUnread}
use Rattle.fl_model.specs.Work.{Device, PartEnd, Whole, CutIn, FailedIn}
use Rattle.fl_model.proofs.Bare.{bare-tables, rings-bare}
use Rattle.fl_page.specs.Writer.{Gathers}
use Rattle.fl_table.specs.Memory as table_words
use Rattle.fl_table.specs.Mounting.{OutsideStands}
use Rattle.fl_table.specs.Outcomes as bare_outcomes
use Rattle.fl_parts.specs.Failing.{FaultEnds}
use Rattle.fl_table.specs.Outcomes.{mounted_of}
use Rattle.fl_parts.specs.Pages as pages
use Rattle.fl_table.specs.Standing as without_log
use Rattle.fl_table.specs.declared.counts.Mounted.{Mounted}
use Rattle.fl_parts.specs.declared.mount_fault.MountFault.{MountFault}
use Rattle.fl_parts.specs.declared.mount_fault.MountFault.TheVariants as mount
use Rattle.fl_table.specs.declared.table.Table as code
use Rattle.fl_parts.proofs.Bare.{bare-table}
use Rattle.fl_parts.proofs.Loose.{rests-mountable}
use Rattle.fl_parts.proofs.InTurn.{mounts-append, mounts-stop, mounts-unread}
use Rattle.fl_rlc.specs.Memory.{page_in, rows_in}
use Rattle.fl_rlc.specs.MountingApart.{RestApart, MountsApart, FailsApart, MountApartEnds}
use Rattle.fl_rlc.specs.Pages.{IsLogRing}
use Rattle.fl_rlc.specs.Repairing as repairing
use Rattle.fl_rlc.specs.Replaying.{ReplaysWell, ReplaysBadly, ReplayEnds}
use Rattle.fl_rlc.specs.Table.{IsPlanned}
use Rattle.fl_rlc.specs.declared.log.RecordLog.{RecordLog}
use Rattle.fl_rlc.specs.declared.table.LoggedTable.{LoggedTable}
use Rattle.fl_rlc.proofs.Assembled.{bare-same, log-there, stands-kept}
use Rattle.fl_rlc.proofs.Frames.{log-still}
use Rattle.fl_rlc.proofs.Paid.{logged-tops}
use Rattle.fl_rlc.proofs.PutRows.{none-left, pending-many}

turns-with : (plan : Plan) → has_log plan ≡ true → map (λ (ring : RingName). Of ring) (rings_of plan) ++ (Of LogRing ∷ Replay ∷ []) ≡ turns_of plan
turns-with plan has = ap (λ (b : Bool). map (λ (ring : RingName). Of ring) (rings_of plan) ++ cond b (Of LogRing ∷ Replay ∷ []) []) (sym has)

pub fault-beside : (L : Log) (e : PartEnd Table) (fault : FlashFault) (new : FlashState) → FaultEnds e fault new → FaultEnds (end_beside L e) fault new
fault-beside L Whole fault new a = a
fault-beside L (CutIn b) fault new a = a
fault-beside L (FailedIn b) fault new a = a

-- where the table's operations end, its log rests still
lost-rests : (l : RecordLog) (new : FlashState) (first : ℕ) (plan : Plan) (x : Table) → pages.Rests new first (bare plan) (bare_table (lose x)) → repairing.Rests l new (first + blocks_of (bare plan)) plan x → RestApart l new first plan (lose x)
lost-rests l new first plan x inner h = record {
  unlogged = inner;
  log = record { planned = h.planned; ring = h.ring; ring_is = h.ring_is; pages = h.pages; logged_some = h.logged_some };
}

module _ {KNOTS SLOTS : ℕ} (t : LoggedTable KNOTS SLOTS) (f : FlashState) (first : ℕ) (plan : Plan) (table : Table) (planned : IsPlanned t first plan) (l : RecordLog) (rests : RestApart l f first plan table) where
  has : has_log plan ≡ true
  has = log-there l (first + blocks_of (bare plan)) plan rests.log.planned

  -- the table rests for its own mount
  pub apart-mountable : pages.RestsToMount f first (bare plan) (bare_table table)
  apart-mountable = rests-mountable f first (bare plan) (bare_table table) refl rests.unlogged

  -- the log's pages, by each flash on which they stand
  log-rests : (g : FlashState) (x : Table) → log_of x ≡ log_of table → page_in l g ≡ page_in l f → repairing.Rests l g (first + blocks_of (bare plan)) plan x
  log-rests g x same still =
      let pages_are : log_pages x ≡ log_pages table = ap (λ (y : Log). y.before ++ cond (has_rows y.ring) (y.records ∷ []) []) same in
      record {
        planned = rests.log.planned;
        ring = rests.log.ring;
        ring_is = ap (λ (y : Log). y.ring) same ∙ rests.log.ring_is;
        pages = subst (λ (ps : List (List Entry)). IsLogRing plan ps rests.log.ring (page_in l g)) (sym pages_are) (subst (λ (at : ℕ → List ℕ). IsLogRing plan (log_pages table) rests.log.ring at) (sym still) rests.log.pages);
        logged_some = λ void. ap (λ (y : Log). y.records) same ∙ rests.log.logged_some (ap (λ (y : Log). has_rows y.ring) (sym same) ∙ void);
      }

  -- .. after the mount of the table
  pub log-stays : (mid : FlashState) → OutsideStands t.table (page_at f) (page_at mid) → repairing.Rests l mid (first + blocks_of (bare plan)) plan table
  log-stays mid outside = log-rests mid table refl (log-still t.table l f mid first plan planned.table outside rests.log.planned)

  module _ (rose : Bool) (device : Device) where
    -- the mount of the table, in which its log stays
    lifted : (how : TableMountEnd) → TableMounts (bare plan) rose (map (λ (ring : RingName). Of ring) (rings_of plan)) device (bare_table table) how →
        TableMounts plan rose (map (λ (ring : RingName). Of ring) (rings_of plan)) device table (mount_beside (log_of table) how)
    lifted how d = bare-tables.mounts plan rose (rings_of plan) device (bare_table table) how (log_of table) (rings-bare plan) d

    along-logged : (how : TableMountEnd) → TableMounts plan rose (map (λ (ring : RingName). Of ring) (rings_of plan) ++ (Of LogRing ∷ Replay ∷ [])) device table how → TableMounts plan rose (turns_of plan) device table how
    along-logged how h = subst (λ (turns : List Turn). TableMounts plan rose turns device table how) (turns-with plan has) h

    -- the mount of the table failed
    table-fails : {K S : ℕ} (fault : FlashFault) (u : code.Table K S) (new : FlashState) → OutsideStands t.table (page_at f) (page_at new) →
        bare_outcomes.MountEnds first (bare plan) (bare_table table) rose device (Err (mount.Flash fault)) u new → FailsApart first plan table rose device fault l new
    table-fails fault u new outside b =
        let here = log-rests new (beside (log_of table) b.now.state) refl (log-still t.table l f new first plan planned.table outside rests.log.planned) in
        let left = b.rests rests.unlogged.settled in
        let inner = subst (λ (x : Table). pages.Rests new first (bare plan) x) (left.settled.lost ∙ sym (bare-same (bare plan) (lose b.now.state) refl (subst (IsTable (bare plan)) left.settled.lost left.settled.facts))) left in
        record {
          now = progress_beside (log_of table) b.now;
          did = by-did b.did;
          counts = b.counts;
          rests = lost-rests l new first plan (beside (log_of table) b.now.state) inner here;
        }
      where
        by-did : (TableMounts (bare plan) rose (map (λ (ring : RingName). Of ring) (rings_of plan)) device (bare_table table) (TableStopped b.now) × FaultEnds b.now.end fault new)
            ⊎ (TableMounts (bare plan) rose (map (λ (ring : RingName). Of ring) (rings_of plan)) device (bare_table table) (TableUnread b.now) × (fault ≡ Media)) →
            (TableMounts plan rose (turns_of plan) device table (TableStopped (progress_beside (log_of table) b.now)) × FaultEnds (end_beside (log_of table) b.now.end) fault new)
            ⊎ (TableMounts plan rose (turns_of plan) device table (TableUnread (progress_beside (log_of table) b.now)) × (fault ≡ Media))
        by-did (inl p) =
            let last = progress_beside (log_of table) b.now in
            inl (along-logged (TableStopped last) (mounts-stop plan rose (map (λ (ring : RingName). Of ring) (rings_of plan)) (Of LogRing ∷ Replay ∷ []) device table last (lifted (TableStopped b.now) p.0)), fault-beside (log_of table) b.now.end fault new p.1)
        by-did (inr p) =
            let last = progress_beside (log_of table) b.now in
            inr (along-logged (TableUnread last) (mounts-unread plan rose (map (λ (ring : RingName). Of ring) (rings_of plan)) (Of LogRing ∷ Replay ∷ []) device table last (lifted (TableUnread b.now) p.0)), p.1)

    pub table-ends : {K S K' S' : ℕ} (e : MountFault) (u : code.Table K S) (now : LoggedTable K' S') (new : FlashState) → OutsideStands t.table (page_at f) (page_at new) →
        bare_outcomes.MountEnds first (bare plan) (bare_table table) rose device (Err e) u new → MountApartEnds first plan table rose device l (Err e) now new
    table-ends (mount.Flash fault) u now new outside h = table-fails fault u new outside h
    table-ends (mount.Ring fault) u now new outside h = absurd h
    table-ends (mount.BadPage bad) u now new outside h = absurd h
    table-ends (mount.BadKeys page last key) u now new outside h = absurd h
    table-ends (mount.BadIndex end next) u now new outside h = absurd h
    table-ends (mount.BadBlob page next) u now new outside h = absurd h
    table-ends (mount.BadEntry page count limit) u now new outside h = absurd h

    -- the table was mounted
    module _ {K S : ℕ} (mounted : Mounted) (u : code.Table K S) (mid : FlashState) (outside : OutsideStands t.table (page_at f) (page_at mid)) (w : bare_outcomes.MountEnds first (bare plan) (bare_table table) rose device (Ok mounted) u mid)
        (idle : table_words.pending_in u ≡ 0) where
      -- the table as its log has its turn
      abbrev pub between : Table
      between = beside (log_of table) w.now.state

      at-first : without_log.Stands u mid first (bare plan) (ready (bare plan) w.now.state)
      at-first = w.stands rests.unlogged.settled

      bare-between : bare_table w.now.state ≡ w.now.state
      bare-between =
          let b = bare-table (bare plan) (ready (bare plan) w.now.state) refl at-first.facts in
          ap (λ (o : Option Ring). record w.now.state { log = o; logged = []; logged_before = [] }) (sym b.0)
          ∙ (ap (λ (es : List Entry). record w.now.state { logged = es; logged_before = [] }) (sym b.1) ∙ ap (λ (ps : List (List Entry)). record w.now.state { logged_before = ps }) (sym b.2))

      pub between-stands : without_log.Stands u mid first (bare plan) (ready (bare plan) (bare_table (beside (log_of table) w.now.state)))
      between-stands = subst (λ (x : Table). without_log.Stands u mid first (bare plan) (ready (bare plan) x)) (sym bare-between) at-first

      pub between-none : w.now.state.pending ≡ 0
      between-none =
          let many = pending-many (ready (bare plan) w.now.state) (omega (arith, at-first.facts.counted)) in
          let count = at-first.memory.gathers.count in
          omega (arith, many, count, length-map (pending_entries (ready (bare plan) w.now.state)) stored_row, idle)

      pub between-rests : repairing.Rests l mid (first + blocks_of (bare plan)) plan (beside (log_of table) w.now.state)
      between-rests = log-rests mid (beside (log_of table) w.now.state) refl (log-still t.table l f mid first plan planned.table outside rests.log.planned)

      then : (how : TableMountEnd) → TableMounts plan rose (Of LogRing ∷ Replay ∷ []) w.now.device (beside (log_of table) w.now.state) how → TableMounts plan rose (turns_of plan) device table how
      then how h = along-logged how (mounts-append plan rose (map (λ (ring : RingName). Of ring) (rings_of plan)) (Of LogRing ∷ Replay ∷ []) device table (progress_beside (log_of table) w.now) how (lifted (TableMounted w.now) w.did) h)

      -- .. and its log wasn't
      log-fails : (fault : FlashFault) (new : FlashState) → ReplaysBadly first plan (beside (log_of table) w.now.state) rose w.now.device fault l new → FailsApart first plan table rose device fault l new
      log-fails fault new b = record {
        now = b.now;
        did = by-did b.did;
        counts = b.counts;
        rests = lost-rests l new first plan b.now.state b.unlogged (record { planned = rests.log.planned; ring = b.ring; ring_is = b.ring_is; pages = b.pages; logged_some = b.logged_some });
      }
        where
          by-did : (TableMounts plan rose (Of LogRing ∷ Replay ∷ []) w.now.device (beside (log_of table) w.now.state) (TableStopped b.now) × FaultEnds b.now.end fault new)
              ⊎ (TableMounts plan rose (Of LogRing ∷ Replay ∷ []) w.now.device (beside (log_of table) w.now.state) (TableUnread b.now) × (fault ≡ Media)) →
              (TableMounts plan rose (turns_of plan) device table (TableStopped b.now) × FaultEnds b.now.end fault new) ⊎ (TableMounts plan rose (turns_of plan) device table (TableUnread b.now) × (fault ≡ Media))
          by-did (inl p) = inl (then (TableStopped b.now) p.0, p.1)
          by-did (inr p) = inr (then (TableUnread b.now) p.0, p.1)

      pub replay-ends : {K' S' K'' S'' : ℕ} (e : MountFault) (l1 : RecordLog) (v : code.Table K' S') (now : LoggedTable K'' S'') (new : FlashState) → ReplayEnds first plan (beside (log_of table) w.now.state) rose w.now.device l (Err e) l1 v new →
          MountApartEnds first plan table rose device l (Err e) now new
      replay-ends (mount.Flash fault) l1 v now new h = log-fails fault new h
      replay-ends (mount.Ring fault) l1 v now new h = absurd h
      replay-ends (mount.BadPage bad) l1 v now new h = absurd h
      replay-ends (mount.BadKeys page last key) l1 v now new h = absurd h
      replay-ends (mount.BadIndex end next) l1 v now new h = absurd h
      replay-ends (mount.BadBlob page next) l1 v now new h = absurd h
      replay-ends (mount.BadEntry page count limit) l1 v now new h = absurd h

      -- .. and its log was
      pub replayed : {K' S' : ℕ} (l1 : RecordLog) (now : LoggedTable K' S') (new : FlashState) (answer : Mounted) → now.log ≡ Some l1 → Gathers (row_layout plan) [] (rows_in l1) →
          ((x : Table) → without_log.Stands now.table new first (bare plan) x → answer ≡ mounted_of x) → ReplaysWell first plan (beside (log_of table) w.now.state) rose w.now.device l1 now.table new →
          MountsApart first plan table rose device answer l1 now new
      replayed l1 now new answer log_is empty counted h = record {
        now = h.now;
        did = then (TableMounted h.now) h.did;
        counts = h.counts;
        power = h.power;
        unlogged = h.unlogged;
        ring = h.ring;
        none = h.none;
        stands = λ left.
            let paid = h.paid left in
            stands-kept now l1 new first plan h.now.state log_is h.unlogged
            (record { ring = h.ring; rows = subst (λ (es : List Entry). Gathers (row_layout plan) (map stored_row es) (rows_in l1)) (sym (none-left h.now.state h.none)) empty })
            (record { ascending = logged-tops plan h.now.state h.ring.pages.fit h.ring.logged_some; whole = inr (paid, h.unlogged.whole); safe = λ some. absurd (some paid) })
            (inr (record { none = h.none; paid = inl paid }));
        answer = counted (bare_table h.now.state) h.unlogged;
      }
