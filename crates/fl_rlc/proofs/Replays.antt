-- How the mount of a log behind its table ends, whose newest page's records join it and become a page.
use Rattle.std.proofs.Common.{◌≡◌, ℕ, ◌+◌, Bool, true, false, cond, ◌==◌, ◌&&◌, nat_lt, Ok, Err, List, [], ◌∷◌, ◌++◌, length, filter, refl, sym, ◌∙◌, ap, subst, arith, inl, inr, ◌⊎◌, IsTrue}
use Rattle.std.proofs.lemmas.List.{append-nil}
use Rattle.fl_flash.specs.Flash.{FlashState, page_at}
use Rattle.fl_flash.specs.declared.flash.FlashFault.{FlashFault}
use Rattle.fl_flash.specs.declared.flash.FlashFault.TheVariants.{Media}
use Rattle.fl_model.specs.Bare.{bare, bare_table, Log, log_of, beside, end_beside, progress_beside}
use Rattle.fl_model.specs.Mount.{Of, Replay, renumber, ready, joined}
use Rattle.fl_model.specs.Record.{Plan, blocks_of, has_index, entries_per_page}
use Rattle.fl_model.specs.Table as model
use Rattle.fl_model.specs.Table.{Table, Entry, RingName, LogRing, fill, has_rows, log_pages, lose, is_after, is_rows_spent, owed, written, table_seals, after_seals}
use Rattle.fl_model.specs.Within.{TablePerforms, TableGoesOn, TableMountEnd, TableMounts, TableMounted, TableStopped, TableUnread, TableUnreads, seals_within, repair_within, effect_within}
use Rattle.fl_model.specs.Work.{Device, PartEnd, Whole, CutIn, FailedIn, PartProgress}
use Rattle.fl_model.proofs.Among.{seals-all_done}
use Rattle.fl_model.proofs.Bare.{bare-tables, table-bare}
use Rattle.fl_model.proofs.Performs.{performs-whole}
use Rattle.fl_frame.specs.Device.{SameDevice}
use Rattle.fl_ring.specs.Ring as ring
use Rattle.fl_ring.specs.declared.fault.RingFault.{RingFault}
use Rattle.fl_ring.specs.declared.fault.RingFault.TheVariants as ring_fault
use Rattle.fl_parts.specs.Faults.{of_ring}
use Rattle.fl_parts.specs.declared.mount_fault.MountFault.{MountFault}
use Rattle.fl_parts.specs.declared.mount_fault.MountFault.TheVariants as mount
use Rattle.fl_table.specs.Memory as table_words
use Rattle.fl_table.specs.Mounting.{OutsideStands}
use Rattle.fl_table.specs.Outcomes as bare_outcomes
use Rattle.fl_parts.specs.Failing.{BySeals, FaultEnds}
use Rattle.fl_parts.specs.Pages as pages
use Rattle.fl_table.specs.Standing as without_log
use Rattle.fl_table.specs.declared.table.Table as code
use Rattle.fl_parts.proofs.Apart.{rests-apart}
use Rattle.fl_table.proofs.Apart.{stands-apart}
use Rattle.fl_table.proofs.SealAnswers.{planned-shape}
use Rattle.fl_rlc.specs.Memory.{page_in, log_shape, IsPlanned, IsSamePlan}
use Rattle.fl_rlc.specs.Pages.{IsLogRing}
use Rattle.fl_rlc.specs.Repairing as repairing
use Rattle.fl_rlc.specs.Replaying.{JoinsEnd, ReplaysWell, ReplaysBadly, ReplayEnds}
use Rattle.fl_rlc.specs.Standing.{HasRing}
use Rattle.fl_rlc.specs.declared.log.RecordLog.{RecordLog}
use Rattle.fl_rlc.proofs.Assembled.{bare-same, stands-rest}
use Rattle.fl_rlc.proofs.Frames.{log-still, table-still}
use Rattle.fl_rlc.proofs.Joined.{nothing-joins}
use Rattle.fl_rlc.proofs.JoinedRow.{same-pages}
use Rattle.fl_rlc.proofs.Paid.{logged-tops, sealed-paid}
use Rattle.fl_rlc.proofs.PutRows.{sealed-none}
use Rattle.fl_rlc.proofs.MountApart.{fault-beside}

-- a ring stands for that of each table with the same log, and on each flash on which its pages stand
pub ring-of : (l : RecordLog) (f g : FlashState) (first : ℕ) (plan : Plan) (a b : Table) → log_of b ≡ log_of a → page_in l g ≡ page_in l f → HasRing l f first plan a → HasRing l g first plan b
ring-of l f g first plan a b same still h = record {
  planned = h.planned;
  mounted = h.mounted;
  ring = h.ring;
  ring_is = ap (λ (x : Log). x.ring) same ∙ h.ring_is;
  pages = subst (λ (ps : List (List Entry)). IsLogRing plan ps h.ring (page_in l g)) (sym (ap (λ (x : Log). x.before ++ cond (has_rows x.ring) (x.records ∷ []) []) same))
      (subst (λ (at : ℕ → List ℕ). IsLogRing plan (log_pages a) h.ring at) (sym still) h.pages);
  logged_some = λ none. ap (λ (x : Log). x.records) same ∙ h.logged_some (ap (λ (x : Log). has_rows x.ring) (sym same) ∙ none);
  whole = h.whole;
  clean = h.clean;
  next = h.next;
  oldest_is = h.oldest_is;
}

-- what joins comes from the log, which stays
pub joined-log : (t : Table) → log_of (joined t) ≡ log_of t
joined-log t = by-spent (is_rows_spent t)
  where
    by-spent : (b : Bool) → log_of (cond b t (record t { entries = t.entries ++ owed t; pending = length (owed t) })) ≡ log_of t
    by-spent true = refl
    by-spent false = refl

-- operations that were all done let the mount go on
goes-on : (e : PartEnd Table) (now : PartProgress Table) (how : TableMountEnd) (others : Type 0) → e ≡ Whole → others → TableGoesOn e now how others
goes-on Whole now how others w h = h
goes-on (CutIn b) now how others w h = cc
goes-on (FailedIn b) now how others w h = cc

-- .. and one that failed stops it
stops-by : (e : PartEnd Table) (now : PartProgress Table) (others : Type 0) (fault : FlashFault) (new : FlashState) → FaultEnds e fault new → TableGoesOn e now (TableStopped now) others
stops-by Whole now others fault new a = absurd a
stops-by (CutIn b) now others fault new a = refl
stops-by (FailedIn b) now others fault new a = refl

module _ {KNOTS SLOTS : ℕ} (t : code.Table KNOTS SLOTS) (l : RecordLog) (old : FlashState) (first : ℕ) (plan : Plan) (x : Table) (rose : Bool) (device : Device)
    (s : without_log.Stands t old first (bare plan) (ready (bare plan) (bare_table x))) (none : x.pending ≡ 0) (planned : IsPlanned l (first + blocks_of (bare plan)) plan) where
  -- the table without its log rests as before
  rests-here : (f : FlashState) → ring.OutsideStands (log_shape l) (page_at old) (page_at f) → pages.Rests f first (bare plan) (lose (bare_table x))
  rests-here f outside =
      let apart = table-still t l old f first plan s.planned outside planned in
      rests-apart old f first (bare plan) apart.rows apart.index apart.var (lose (bare_table x)) (stands-rest t old first (bare plan) (ready (bare plan) (bare_table x)) s)

  -- a repair of the log failed, or a read
  pub log-badly : (f : FlashState) (fault : FlashFault) → ring.OutsideStands (log_shape l) (page_at old) (page_at f) → repairing.MountsBadly plan x rose device fault l f → ReplaysBadly first plan x rose device fault l f
  log-badly f fault outside b = record {
    now = b.now;
    did = by-did b.did;
    counts = b.counts;
    unlogged = subst (λ (z : Table). pages.Rests f first (bare plan) (lose z)) (sym b.rest) (rests-here f outside);
    ring = b.ring;
    ring_is = b.ring_is;
    pages = b.pages;
    logged_some = b.logged_some;
  }
    where
      by-did : (TablePerforms plan rose (repair_within plan LogRing (renumber plan LogRing x)) device (renumber plan LogRing x) b.now × FaultEnds b.now.end fault f)
          ⊎ (TableUnreads plan rose (repair_within plan LogRing (renumber plan LogRing x)) device (renumber plan LogRing x) b.now × (fault ≡ Media)) →
          (TableMounts plan rose (Of LogRing ∷ Replay ∷ []) device x (TableStopped b.now) × FaultEnds b.now.end fault f) ⊎ (TableMounts plan rose (Of LogRing ∷ Replay ∷ []) device x (TableUnread b.now) × (fault ≡ Media))
      by-did (inl p) = inl (inr (b.now, p.0, stops-by b.now.end b.now _ fault f p.1), p.1)
      by-did (inr p) = inr (inl (b.now, p.0, refl), p.1)

  -- its ring is never refused
  pub log-fault : {K S : ℕ} (e : RingFault) (w l1 : RecordLog) (u : code.Table K S) (f : FlashState) → ring.OutsideStands (log_shape l) (page_at old) (page_at f) →
      repairing.MountEnds (first + blocks_of (bare plan)) plan x rose device l (Err e) w f → ReplayEnds first plan x rose device l (Err (of_ring e)) l1 u f
  log-fault (ring_fault.Flash fault) w l1 u f outside h = log-badly f fault outside h
  log-fault (ring_fault.BadHead heads) w l1 u f outside h = absurd h
  log-fault (ring_fault.BadGap page) w l1 u f outside h = absurd h
  log-fault (ring_fault.BadPage page wanted found) w l1 u f outside h = absurd h
  log-fault (ring_fault.NoNumber least) w l1 u f outside h = absurd h

  -- the log was mounted
  module _ (l1 : RecordLog) (same_log : IsSamePlan l l1) (f1 : FlashState) (outside : ring.OutsideStands (log_shape l) (page_at old) (page_at f1)) (m : repairing.MountsWell (first + blocks_of (bare plan)) plan x rose device l1 f1) where
    -- the table, made ready, as the replay begins
    abbrev pub begun : Table
    begun = ready plan m.now.state

    bare-begun : bare_table (ready plan m.now.state) ≡ ready (bare plan) (bare_table x)
    bare-begun = ap bare_table (bare-tables.ready plan (bare_table m.now.state) (log_of m.now.state)) ∙ ap (ready (bare plan)) m.rest

    pub begun-stands : without_log.Stands t f1 first (bare plan) (bare_table (ready plan m.now.state))
    begun-stands =
        let apart = table-still t l old f1 first plan s.planned outside planned in
        subst (λ (z : Table). without_log.Stands t f1 first (bare plan) z) (sym bare-begun) (stands-apart old f1 first (bare plan) apart.rows apart.index apart.var t (ready (bare plan) (bare_table x)) s)

    pub begun-none : (ready plan m.now.state).pending ≡ 0
    begun-none = ap (λ (z : Table). z.pending) m.rest ∙ none

    pub begun-ring : HasRing l1 f1 (first + blocks_of (bare plan)) plan (ready plan m.now.state)
    begun-ring = ring-of l1 f1 f1 (first + blocks_of (bare plan)) plan m.now.state (ready plan m.now.state) refl refl m.ring

    -- the log's turn, behind which these come
    after-log : (how : TableMountEnd) → TableMounts plan rose (Replay ∷ []) m.now.device m.now.state how → TableMounts plan rose (Of LogRing ∷ Replay ∷ []) device x how
    after-log how h = inr (m.now, m.did, goes-on m.now.end m.now how _ m.whole h)

    -- the read of its newest page failed
    pub page-badly : (f : FlashState) (fault : FlashFault) → IsTrue rose → fault ≡ Media → page_at f ≡ page_at f1 → SameDevice f m.now.device → ReplaysBadly first plan x rose device fault l f
    page-badly f fault risen is same counts = record {
      now = m.now;
      did = inr ((inl (m.now, record { may_fail = risen; front = repair_within plan LogRing (renumber plan LogRing x); others = []; split = sym (append-nil (repair_within plan LogRing (renumber plan LogRing x))); did = m.did; whole = m.whole }, refl)), is);
      counts = counts;
      unlogged = subst (λ (z : Table). pages.Rests f first (bare plan) (lose z)) (sym m.rest) (rests-here f (λ page out. ap (λ (at : ℕ → List ℕ). at page) same ∙ outside page out));
      ring = m.ring.ring;
      ring_is = m.ring.ring_is;
      pages = subst (λ (at : ℕ → List ℕ). IsLogRing plan (log_pages m.now.state) m.ring.ring at) (same-pages l l1 f1 same_log ∙ ap {B = ℕ → List ℕ} (λ (at : ℕ → List ℕ) (n : ℕ). at (ring.place (log_shape l) n)) (sym same)) m.ring.pages;
      logged_some = m.ring.logged_some;
    }

    -- .. which is never bad
    pub page-fault : {K S : ℕ} (e : MountFault) (w : RecordLog) (t2 u : code.Table K S) (f : FlashState) → page_at f ≡ page_at f1 → SameDevice f m.now.device → JoinsEnd first plan (ready plan m.now.state) rose (Err e) t2 f →
        ReplayEnds first plan x rose device l (Err e) w u f
    page-fault (mount.Flash fault) w t2 u f same counts h = page-badly f fault h.0 h.1 same counts
    page-fault (mount.Ring fault) w t2 u f same counts h = absurd h
    page-fault (mount.BadPage bad) w t2 u f same counts h = absurd h
    page-fault (mount.BadKeys page last key) w t2 u f same counts h = absurd h
    page-fault (mount.BadIndex end next) w t2 u f same counts h = absurd h
    page-fault (mount.BadBlob page next) w t2 u f same counts h = absurd h
    page-fault (mount.BadEntry page count limit) w t2 u f same counts h = absurd h

    -- it keeps no page with records
    pub none-well : (newest : m.now.state.logged ≡ []) → ReplaysWell first plan x rose device l1 t f1
    none-well empty =
        let y = ready plan m.now.state in
        let same : joined (ready plan m.now.state) ≡ ready plan m.now.state = nothing-joins (ready plan m.now.state) begun-none empty in
        let no-seals : table_seals plan (joined (ready plan m.now.state)) ≡ [] = ap (table_seals plan) same ∙ ap (λ (n : ℕ). cond (n == 0) [] (seals_of (ready plan m.now.state))) begun-none in
        let did : TablePerforms plan rose (seals_within plan (table_seals plan (joined y)) (joined y)) m.now.device (joined y) (record { end = Whole; device = m.now.device; state = joined y }) =
        subst (λ (rings : List RingName). TablePerforms plan rose (seals_within plan rings (joined y)) m.now.device (joined y) (record { end = Whole; device = m.now.device; state = joined y })) (sym no-seals) (refl, refl, refl) in
        record {
          now = record { end = Whole; device = m.now.device; state = joined y };
          did = after-log (TableMounted (record { end = Whole; device = m.now.device; state = joined y })) (inr (record { end = Whole; device = m.now.device; state = joined y }, did, refl));
          counts = m.counts;
          power = m.power;
          unlogged = subst (λ (z : Table). without_log.Stands t f1 first (bare plan) (bare_table z)) (sym same) begun-stands;
          ring = ring-of l1 f1 f1 (first + blocks_of (bare plan)) plan y (joined y) (joined-log y) refl begun-ring;
          none = ap (λ (z : Table). z.pending) same ∙ begun-none;
          paid = λ left. ap (λ (z : Table). owed z) same ∙ ap (filter (λ (e : Entry). is_after (written (ready plan m.now.state)) e)) empty;
        }
      where
        seals_of : Table → List RingName
        seals_of z = (cond (has_index plan && (length z.waiting == entries_per_page plan)) (model.IndexRing ∷ []) []) ++ (cond (nat_lt 0 (fill z)) (model.VarRing ∷ []) []) ++ model.DataRing ∷ []

    -- its records joined the table, and were sealed
    module _ (t2 : code.Table KNOTS SLOTS) (f2 f3 : FlashState) (same : page_at f2 ≡ page_at f1) (planned2 : table_words.IsPlanned t2 first (bare plan)) (beyond : OutsideStands t2 (page_at f2) (page_at f3)) where
      abbrev j : Table
      j = joined (ready plan m.now.state)

      lifted : (now : PartProgress Table) → BySeals (bare plan) (table_seals (bare plan) (bare_table (joined (ready plan m.now.state)))) (bare_table (joined (ready plan m.now.state))) rose m.now.device now →
          TablePerforms plan rose (seals_within plan (table_seals plan (joined (ready plan m.now.state))) (joined (ready plan m.now.state))) m.now.device (joined (ready plan m.now.state)) (progress_beside (log_of (joined (ready plan m.now.state))) now)
      lifted now d = bare-tables.performs plan rose (table_seals (bare plan) (bare_table j)) m.now.device (bare_table j) now (log_of j) (table-bare (bare plan) (bare_table j)) d

      pages-still : page_in l1 f3 ≡ page_in l1 f1
      pages-still = log-still t2 l1 f2 f3 first plan planned2 beyond m.ring.planned ∙ ap {B = ℕ → List ℕ} (λ (at : ℕ → List ℕ) (n : ℕ). at (ring.place (log_shape l1) n)) same

      pub seal-well : (t3 : code.Table KNOTS SLOTS) → bare_outcomes.SealsEnd first (bare plan) (table_seals (bare plan) (bare_table (joined (ready plan m.now.state)))) (bare_table (joined (ready plan m.now.state))) rose m.now.device (Ok tt) t3 f2 f3 →
          ReplaysWell first plan x rose device l1 t3 f3
      seal-well t3 p =
          let b = bare_table j in
          let y = ready plan m.now.state in
          let last : PartProgress Table = record { end = Whole; device = p.now.device; state = beside (log_of (joined (ready plan m.now.state))) p.now.state } in
          let done = lifted p.now p.did in
          let state : p.now.state ≡ after_seals (bare plan) (table_seals (bare plan) (bare_table (joined (ready plan m.now.state)))) (bare_table (joined (ready plan m.now.state))) =
          (performs-whole (λ operation. operation.1) (effect_within (bare plan)) rose (seals_within (bare plan) (table_seals (bare plan) b) b) m.now.device b p.now p.did p.whole).0 ∙ seals-all_done (bare plan) (table_seals (bare plan) b) b in
          let plain : bare_table p.now.state ≡ after_seals (bare plan) (table_seals (bare plan) (bare_table (joined (ready plan m.now.state)))) (bare_table (joined (ready plan m.now.state))) =
          ap bare_table state ∙ bare-same (bare plan) (after_seals (bare plan) (table_seals (bare plan) b) b) refl p.stands.facts in
          record {
            now = last;
            did = after-log (TableMounted last) (inr (progress_beside (log_of j) p.now, done, goes-on (end_beside (log_of j) p.now.end) (progress_beside (log_of j) p.now) (TableMounted last) _ (ap (end_beside (log_of j)) p.whole) refl));
            counts = p.counts;
            power = p.power;
            unlogged = subst (λ (z : Table). without_log.Stands t3 f3 first (bare plan) z) (sym plain) p.stands;
            ring = ring-of l1 f1 f3 (first + blocks_of (bare plan)) plan (ready plan m.now.state) (beside (log_of j) p.now.state) (joined-log (ready plan m.now.state)) pages-still begun-ring;
            none = ap (λ (z : Table). z.pending) state ∙ sealed-none (bare plan) b (b.pending == 0) (has_index plan && (length b.waiting == entries_per_page plan)) (nat_lt 0 (fill b)) refl;
            paid = subst (λ (z : Table). is_rows_spent (beside (log_of j) z) ≡ false → owed (beside (log_of j) z) ≡ []) (sym state)
                (sealed-paid plan (planned-shape t first (bare plan) s.planned) y begun-none (omega (arith, begun-stands.facts.counted, begun-none)) begun-stands.facts.rows.not_negative
                (logged-tops plan y begun-ring.pages.fit begun-ring.logged_some));
          }

      pub seal-badly : (t3 : code.Table KNOTS SLOTS) (fault : FlashFault) → bare_outcomes.SealsEnd first (bare plan) (table_seals (bare plan) (bare_table (joined (ready plan m.now.state)))) (bare_table (joined (ready plan m.now.state))) rose m.now.device (Err fault) t3 f2 f3 →
          ReplaysBadly first plan x rose device fault l f3
      seal-badly t3 fault p =
          let r = ring-of l1 f1 f3 (first + blocks_of (bare plan)) plan (ready plan m.now.state) (beside (log_of j) p.now.state) (joined-log (ready plan m.now.state)) pages-still begun-ring in
          record {
            now = progress_beside (log_of j) p.now;
            did = inl (
              after-log (TableStopped (progress_beside (log_of j) p.now)) (inr (progress_beside (log_of j) p.now, lifted p.now p.did, stops-by (end_beside (log_of j) p.now.end) (progress_beside (log_of j) p.now) _ fault f3 (fault-beside (log_of j) p.now.end fault f3 p.answer))),
              fault-beside (log_of j) p.now.end fault f3 p.answer,
            );
            counts = p.counts;
            unlogged = subst (λ (z : Table). pages.Rests f3 first (bare plan) z) (sym (bare-same (bare plan) (lose p.now.state) refl p.rests.settled.facts)) p.rests;
            ring = r.ring;
            ring_is = r.ring_is;
            pages = subst (λ (at : ℕ → List ℕ). IsLogRing plan (log_pages (beside (log_of j) p.now.state)) r.ring at) (same-pages l l1 f3 same_log) r.pages;
            logged_some = r.logged_some;
          }
