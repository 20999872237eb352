-- How a put of a table with a log ends, by that of the table without it and by the seal of the log.
use Rattle.std.proofs.Common.{◌≡◌, ℕ, ◌+◌, Bool, true, false, nat_le, Option, Some, None, List, refl, sym, ◌∙◌, ap, subst}
use Rattle.std.proofs.Math.Path.{fun_ext}
use Rattle.std.proofs.lemmas.Option.{same_Some}
use Rattle.fl_flash.specs.Flash.{FlashState, page_at}
use Rattle.fl_flash.specs.declared.flash.FlashFault.{FlashFault}
use Rattle.fl_model.specs.Bare.{bare, bare_table, log_of, beside, end_beside, progress_beside}
use Rattle.fl_model.specs.Facts.{is_some_ring}
use Rattle.fl_model.specs.Puts.{TablePuts, TablePutGoesOn}
use Rattle.fl_model.specs.Record.{Record, Plan, blocks_of, has_index, has_log, has_var}
use Rattle.fl_model.specs.Ring.{Ring}
use Rattle.fl_model.specs.Table as model
use Rattle.fl_model.specs.Table.{Table, DataRing, IndexRing, VarRing, LogRing, Refusal, after_seal, put_joined, put_record, join_seals, make_room_seals, refusal_of, first_of, refuse_if, is_ring_spent, log_pages, lose}
use Rattle.fl_model.specs.Within.{TablePerforms, seals_within}
use Rattle.fl_model.specs.Work.{Device, PartEnd, Whole, CutIn, FailedIn, PartProgress}
use Rattle.fl_model.proofs.Bare.{bare-tables}
use Rattle.fl_machine.specs.Found.{HasRoom}
use Rattle.fl_machine.proofs.RecordsChange.{Any, any-last}
use Rattle.fl_machine.proofs.Logs.{core, IsFine, lost}
use Rattle.fl_machine.proofs.LogTables.{Between, put-goes, put-joined, join-goes-on}
use Rattle.fl_ring.specs.Kept.{PagesStand}
use Rattle.fl_ring.specs.Ring as ring
use Rattle.fl_table.specs.Mounting.{OutsideStands}
use Rattle.fl_parts.specs.Failing as failing
use Rattle.fl_table.specs.Outcomes as bare_outcomes
use Rattle.fl_parts.specs.Failing.{FaultEnds}
use Rattle.fl_parts.specs.Pages as pages
use Rattle.fl_parts.specs.Pages.{KeptStand, bytes_in}
use Rattle.fl_table.specs.Standing as table_words
use Rattle.fl_table.specs.declared.table.Table as code
use Rattle.fl_table.specs.declared.faults.PutRefusal.TheVariants.{Spent}
use Rattle.fl_table.specs.Refusal.{refused_if}
use Rattle.fl_parts.proofs.Apart.{PagesApart}
use Rattle.fl_table.proofs.Apart.{stands-apart}
use Rattle.fl_rlc.specs.Logged.{Stands, LogStands, IsKept}
use Rattle.fl_rlc.specs.Memory.{next_in, page_in, log_shape}
use Rattle.fl_rlc.specs.Outcomes.{Finishes, Breaks, LogStays}
use Rattle.fl_rlc.specs.Pages.{IsLogRing}
use Rattle.fl_rlc.specs.Refusal.{log_refused}
use Rattle.fl_rlc.specs.Sealing as sealing
use Rattle.fl_rlc.specs.Standing as log_words
use Rattle.fl_rlc.specs.declared.log.RecordLog.{RecordLog}
use Rattle.fl_rlc.specs.declared.table.LoggedTable.{LoggedTable}
use Rattle.fl_rlc.proofs.Assembled.{bare-same, log-there, stands-of, stands-rest, rests-of, has-room}
use Rattle.fl_rlc.proofs.Frames.{log-bytes, log-still, table-still}
use Rattle.fl_rlc.proofs.KeptRecords.{between-of}
use Rattle.fl_rlc.proofs.PutSteps.{put-is, put-then, put-fails}
use Rattle.fl_rlc.proofs.Stops.{stops-fine, unbeside}

module _ {KNOTS SLOTS : ℕ} (t : LoggedTable KNOTS SLOTS) (l : RecordLog) (t_is : t.log ≡ Some l) (f : FlashState) (first : ℕ) (plan : Plan) (table : Table) (h : Stands t f first plan table) where
  pub log-stands : log_words.Stands l f (first + blocks_of (bare plan)) plan table × IsKept table
  log-stands = subst (λ (o : Option RecordLog). LogStands o f (first + blocks_of (bare plan)) plan table) t_is h.log

  abbrev hr : log_words.HasRing l f (first + blocks_of (bare plan)) plan table
  hr = log-stands.0.ring

  pub has : has_log plan ≡ true
  has = log-there l (first + blocks_of (bare plan)) plan log-stands.0.ring.planned

  pub room : HasRoom plan
  room = has-room t l first plan t_is h.unlogged.planned log-stands.0.ring.planned

  pub between : Between Any table
  between = between-of plan table hr.ring hr.ring_is hr.whole h.unlogged.whole h.facts log-stands.1

  -- it refuses as the table does that isn't refused for its log
  pub not-refused : (item : Record) → refusal_of (bare plan) (bare_table table) item ≡ None → log_refused (Some l) ≡ None → refusal_of plan table item ≡ None
  not-refused item e left =
      bare-tables.refusals plan item (bare_table table) (log_of table)
      ∙ (ap (λ (o : Option Refusal). first_of o (refuse_if (is_ring_spent table.log) model.Spent)) e
      ∙ ap (λ (b : Bool). refuse_if b model.Spent) (ap is_ring_spent hr.ring_is ∙ (ap (λ (n : ℕ). nat_le 4294901760 n) (sym hr.next) ∙ not-spent (nat_le 4294901760 (next_in l)) left)))
    where
      not-spent : (b : Bool) → refused_if b Spent ≡ None → b ≡ false
      not-spent true e = absurd (no e)
        where
          no : Some Spent ≡ None → ⊥
          no k = cc
      not-spent false e = refl

  -- wherever a put stops, the records of its log are as they should
  pub put-stops-fine : (item : Record) (rose : Bool) (device : Device) (now : PartProgress Table) → refusal_of plan table item ≡ None → TablePuts plan rose item device table now → (now.end ≡ Whole → ⊥) → IsFine (lost (core now.state))
  put-stops-fine item rose device now ok d broken = by-end d.0.end refl d.2
    where
      first-part : (d.0.end ≡ Whole → ⊥) → IsFine (lost (core d.0.state))
      first-part b = stops-fine plan rose (seals_within plan (make_room_seals plan table) table) device table d.0 (put-goes Any any-last plan table item room between ok) d.1 b

      by-end : (e : PartEnd Table) → d.0.end ≡ e → TablePutGoesOn e d.0 now (TablePerforms plan rose (seals_within plan (join_seals plan (put_joined plan item table)) (put_joined plan item table)) d.0.device (put_joined plan item table) now) → IsFine (lost (core now.state))
      by-end Whole e g =
          stops-fine plan rose (seals_within plan (join_seals plan (put_joined plan item table)) (put_joined plan item table)) d.0.device (put_joined plan item table) now
          (join-goes-on Any any-last plan (put_joined plan item table) room has (put-joined Any any-last plan table item room between ok)).0 g broken
      by-end (CutIn b) e g = subst (λ (x : PartProgress Table). IsFine (lost (core x.state))) (sym g) (first-part (λ w. not-both (sym e ∙ w)))
        where
          not-both : CutIn b ≡ Whole → ⊥
          not-both k = cc
      by-end (FailedIn b) e g = subst (λ (x : PartProgress Table). IsFine (lost (core x.state))) (sym g) (first-part (λ w. not-both (sym e ∙ w)))
        where
          not-both : FailedIn b ≡ Whole → ⊥
          not-both k = cc

  pub fault-beside : (e : PartEnd Table) (fault : FlashFault) (new : FlashState) → FaultEnds e fault new → FaultEnds (end_beside (log_of table) e) fault new
  fault-beside Whole fault new a = a
  fault-beside (CutIn b) fault new a = a
  fault-beside (FailedIn b) fault new a = a

  pub fault-broken : (e : PartEnd Table) (fault : FlashFault) (new : FlashState) → FaultEnds e fault new → e ≡ Whole → ⊥
  fault-broken e fault new a w = subst (λ (x : PartEnd Table). FaultEnds x fault new) w a

  module _ (item : Record) (rose : Bool) (device : Device) (ok : refusal_of plan table item ≡ None) where
    abbrev P : Table
    P = put_record (bare plan) item (bare_table table)

    abbrev Q : Table
    Q = beside (log_of table) (put_record (bare plan) item (bare_table table))

    -- an operation of the table failed
    pub table-breaks : (fault : FlashFault) (new : FlashState) → OutsideStands t.table (page_at f) (page_at new) → failing.Breaks first (bare plan) (TablePuts (bare plan) rose item device (bare_table table)) fault new →
        Breaks first plan (TablePuts plan rose item device table) fault new
    table-breaks fault new outside p =
        let broken = fault-broken p.now.end fault new p.answer in
        let did = put-fails plan item table rose device has p.now p.did broken in
        record {
          now = progress_beside (log_of table) p.now;
          did = did;
          answer = fault-beside p.now.end fault new p.answer;
          counts = p.counts;
          rests = rests-of l new first plan (beside (log_of table) p.now.state) hr.ring hr.planned
              (subst (λ (x : Table). pages.Rests new first (bare plan) x) (sym (bare-same (bare plan) (lose p.now.state) refl p.rests.settled.facts)) p.rests)
              hr.ring_is (subst (λ (at : ℕ → List ℕ). IsLogRing plan (log_pages table) hr.ring at) (sym (log-still t.table l f new first plan h.unlogged.planned outside hr.planned)) hr.pages)
              hr.logged_some (put-stops-fine item rose device (progress_beside (log_of table) p.now) ok did (λ w. broken (unbeside table p.now.end w)));
        }

    -- the table put the record
    module _ (u : code.Table KNOTS SLOTS) (mid new : FlashState) (p : bare_outcomes.Finishes first (bare plan) (TablePuts (bare plan) rose item device (bare_table table)) (bare_table table) (put_record (bare plan) item (bare_table table)) u f mid)
        (outside : OutsideStands t.table (page_at f) (page_at mid)) (beyond : ring.OutsideStands (log_shape l) (page_at mid) (page_at new)) where
      apart : PagesApart mid new first (bare plan)
      apart = table-still t.table l mid new first plan h.unlogged.planned beyond hr.planned

      bare-is : bare_table (put_record (bare plan) item (bare_table table)) ≡ put_record (bare plan) item (bare_table table)
      bare-is = bare-same (bare plan) P refl p.stands.facts

      framed : table_words.Stands u new first (bare plan) (put_record (bare plan) item (bare_table table))
      framed = stands-apart mid new first (bare plan) apart.rows apart.index apart.var u P p.stands

      -- .. and an operation of the log failed
      pub log-breaks : (fault : FlashFault) → sealing.Breaks plan (beside (log_of table) (put_record (bare plan) item (bare_table table))) rose p.now.device fault l new → Breaks first plan (TablePuts plan rose item device table) fault new
      log-breaks fault b =
          let did = put-then plan item table rose device has p.now b.now p.did p.whole b.did in
          record {
            now = b.now;
            did = did;
            answer = b.answer;
            counts = b.counts;
            rests = rests-of l new first plan b.now.state b.ring hr.planned
                (subst (λ (x : Table). pages.Rests new first (bare plan) (lose x)) (sym (b.rest ∙ bare-is)) (stands-rest u new first (bare plan) P framed))
                b.ring_is b.pages b.logged_some (put-stops-fine item rose device b.now ok did (fault-broken b.now.end fault new b.answer));
          }

      -- .. and the log has it
      pub log-finishes : (now : LoggedTable KNOTS SLOTS) (last : RecordLog) → now.table ≡ u → now.log ≡ Some last →
          sealing.Seals (first + blocks_of (bare plan)) plan (beside (log_of table) (put_record (bare plan) item (bare_table table))) rose p.now.device l mid last new →
          Finishes first plan (TablePuts plan rose item device table) table (put_record plan item table) now f new
      log-finishes now last u_is last_is s =
          let F = after_seal plan LogRing Q in
          let is = put-is plan item table rose device has in
          let goes = (join-goes-on Any any-last plan (put_joined plan item table) room has (put-joined Any any-last plan table item room between ok)).1 in
          let still = log-still t.table l f mid first plan h.unlogged.planned outside hr.planned in
          record {
            now = s.now;
            did = put-then plan item table rose device has p.now s.now p.did p.whole s.did;
            whole = s.whole;
            counts = s.counts;
            power = s.power;
            stands = subst (λ (x : Table). Stands now new first plan x) (sym is)
                (stands-of now last new first plan F last_is
                (subst (λ (x : code.Table KNOTS SLOTS). table_words.Stands x new first (bare plan) (bare_table P)) (sym u_is) (subst (λ (x : Table). table_words.Stands u new first (bare plan) x) (sym bare-is) framed))
                s.stands (subst (Between Any) is goes));
            stand = subst (λ (x : Table). KeptStand first plan table x (page_at f) (page_at new)) (sym is) (record {
              rows = subst (λ (at : ℕ → List ℕ). PagesStand table.rows (bytes_in (page_at f) first plan DataRing) P.rows at) (sym (fun_ext (λ n. apart.rows n))) p.stand.rows;
              index = λ a b e k. subst (λ (at : ℕ → List ℕ). PagesStand a (bytes_in (page_at f) first plan IndexRing) b at) (sym (fun_ext (λ n. apart.index (has-ring table.index (has_index plan) a e h.facts.has_rings.0) n))) (p.stand.index a b e k);
              var = λ a b e k. subst (λ (at : ℕ → List ℕ). PagesStand a (bytes_in (page_at f) first plan VarRing) b at) (sym (fun_ext (λ n. apart.var (has-ring table.var (has_var plan) a e h.facts.has_rings.1) n))) (p.stand.var a b e k);
            });
            log = subst (λ (x : Table). LogStays first plan table x f new) (sym is) (λ a b e k.
                subst (λ (at : ℕ → List ℕ). PagesStand a at b (bytes_in (page_at new) first plan LogRing)) (still ∙ log-bytes l f first plan hr.planned)
                (subst (λ (at : ℕ → List ℕ). PagesStand a (page_in l mid) b at) (log-bytes last new first plan s.stands.ring.planned)
                (subst (λ (r : Ring). PagesStand a (page_in l mid) r (page_in last new)) (same_Some _ _ (sym s.stands.ring.ring_is ∙ k)) (s.stand a e))));
          }
        where
          has-ring : (o : Option Ring) (b : Bool) (a : Ring) → o ≡ Some a → is_some_ring o ≡ b → b ≡ true
          has-ring o b a e k = sym k ∙ ap is_some_ring e
