-- A put of a table without its log, and the seal of its log after it, are the put of the table with it.
use Rattle.std.proofs.Common.{◌≡◌, ℕ, Bool, true, cond, zero, suc, List, [], ◌∷◌, ◌++◌, replicate, refl, sym, ◌∙◌, ap, subst}
use Rattle.std.proofs.lemmas.List.{append-nil}
use Rattle.fl_model.specs.Bare.{bare, bare_table, Log, log_of, beside, end_beside, progress_beside, AreBare}
use Rattle.fl_model.specs.Puts.{TablePuts, TablePutGoesOn}
use Rattle.fl_model.specs.Record.{Record, Plan, has_log}
use Rattle.fl_model.specs.Table.{Table, RingName, VarRing, LogRing, after_seal, after_seals, make_room_seals, put_joined, put_record, join_seals, log_seals, fill_seals}
use Rattle.fl_model.specs.Within.{seal_within, seals_within, effect_within, TablePerforms}
use Rattle.fl_model.specs.Work.{Kind, Device, PartEnd, Whole, CutIn, FailedIn, PartProgress}
use Rattle.fl_model.proofs.Among.{after_seals-append, seals-all_done, within-append}
use Rattle.fl_model.proofs.Bare.{bare-tables, room-bare, seals-beside}
use Rattle.fl_model.proofs.Performs.{performs-front, performs-more, performs-whole}
use Rattle.fl_rlc.proofs.Stops.{unbeside}

-- ---- seals of other rings than the log

vars-bare : (n : ℕ) → AreBare (replicate n VarRing)
vars-bare zero = tt
vars-bare (suc n) = (tt, vars-bare n)

fills-bare : (plan : Plan) (t : Table) → AreBare (join_seals (bare plan) t)
fills-bare plan t = subst AreBare (sym (append-nil (fill_seals (bare plan) t))) (vars-bare _)

-- ---- a put

module _ (plan : Plan) (item : Record) (table : Table) (rose : Bool) (device : Device) where
  abbrev L : Log
  L = log_of table

  abbrev bt : Table
  bt = bare_table table

  -- the record has joined the table without its log, and the seals that follow
  abbrev pub joined : Table
  joined = put_joined (bare plan) item (bare_table table)

  abbrev pub fills : List RingName
  fills = join_seals (bare plan) (put_joined (bare plan) item (bare_table table))

  joined-is : put_joined plan item table ≡ beside (log_of table) (put_joined (bare plan) item (bare_table table))
  joined-is = bare-tables.put_joined plan item bt L

  seals-are : join_seals plan (put_joined plan item table) ≡ join_seals (bare plan) (put_joined (bare plan) item (bare_table table)) ++ log_seals plan
  seals-are = ap (join_seals plan) joined-is ∙ bare-tables.join_seals plan joined L

  -- the first part, which is the same
  room-lifts : (mid : PartProgress Table) → TablePerforms (bare plan) rose (seals_within (bare plan) (make_room_seals (bare plan) (bare_table table)) (bare_table table)) device (bare_table table) mid →
      TablePerforms plan rose (seals_within plan (make_room_seals plan table) table) device table (progress_beside (log_of table) mid)
  room-lifts mid h = bare-tables.performs plan rose (make_room_seals (bare plan) bt) device bt mid L (room-bare (bare plan) bt) h

  fills-lift : (later : Device) (now : PartProgress Table) → TablePerforms (bare plan) rose (seals_within (bare plan) (join_seals (bare plan) (put_joined (bare plan) item (bare_table table))) (put_joined (bare plan) item (bare_table table))) later (put_joined (bare plan) item (bare_table table)) now →
      TablePerforms plan rose (seals_within plan (join_seals (bare plan) (put_joined (bare plan) item (bare_table table))) (beside (log_of table) (put_joined (bare plan) item (bare_table table)))) later (beside (log_of table) (put_joined (bare plan) item (bare_table table))) (progress_beside (log_of table) now)
  fills-lift later now h = bare-tables.performs plan rose fills later joined now L (fills-bare plan joined) h

  -- the table as the seal of the log begins
  abbrev pub sealed : Table
  sealed = beside (log_of table) (put_record (bare plan) item (bare_table table))

  filled-is : after_seals plan (join_seals (bare plan) (put_joined (bare plan) item (bare_table table))) (beside (log_of table) (put_joined (bare plan) item (bare_table table))) ≡ beside (log_of table) (put_record (bare plan) item (bare_table table))
  filled-is = seals-beside plan L fills joined (fills-bare plan joined)

  module _ (has : has_log plan ≡ true) where
    log-one : log_seals plan ≡ LogRing ∷ []
    log-one = ap (λ (b : Bool). cond b (LogRing ∷ []) []) has

    rings-are : join_seals plan (put_joined plan item table) ≡ join_seals (bare plan) (put_joined (bare plan) item (bare_table table)) ++ LogRing ∷ []
    rings-are = seals-are ∙ ap (λ (rs : List RingName). fills ++ rs) log-one

    -- the table after the put
    pub put-is : put_record plan item table ≡ after_seal plan LogRing (beside (log_of table) (put_record (bare plan) item (bare_table table)))
    put-is =
        ap (λ (rs : List RingName). after_seals plan rs (put_joined plan item table)) rings-are
        ∙ (ap (after_seals plan (fills ++ LogRing ∷ [])) joined-is ∙ (after_seals-append plan fills (LogRing ∷ []) (beside L joined) ∙ ap (after_seals plan (LogRing ∷ [])) filled-is))

    -- operations of the second part, from those of both of its parts
    second : (later : Device) (now : PartProgress Table) →
        TablePerforms plan rose (seals_within plan (join_seals (bare plan) (put_joined (bare plan) item (bare_table table)) ++ LogRing ∷ []) (beside (log_of table) (put_joined (bare plan) item (bare_table table)))) later (beside (log_of table) (put_joined (bare plan) item (bare_table table))) now →
        TablePerforms plan rose (seals_within plan (join_seals plan (put_joined plan item table)) (put_joined plan item table)) later (put_joined plan item table) now
    second later now h =
        subst (λ (t : Table). TablePerforms plan rose (seals_within plan (join_seals plan (put_joined plan item table)) t) later t now) (sym joined-is)
        (subst (λ (rs : List RingName). TablePerforms plan rose (seals_within plan rs (beside (log_of table) (put_joined (bare plan) item (bare_table table)))) later (beside (log_of table) (put_joined (bare plan) item (bare_table table))) now) (sym rings-are) h)

    goes-on : (mid now : PartProgress Table) → mid.end ≡ Whole → TablePerforms plan rose (seals_within plan (join_seals plan (put_joined plan item table)) (put_joined plan item table)) mid.device (put_joined plan item table) now →
        TablePutGoesOn (end_beside (log_of table) mid.end) (progress_beside (log_of table) mid) now (TablePerforms plan rose (seals_within plan (join_seals plan (put_joined plan item table)) (put_joined plan item table)) mid.device (put_joined plan item table) now)
    goes-on mid now whole h =
        subst (λ (e : PartEnd Table). TablePutGoesOn (end_beside (log_of table) e) (progress_beside (log_of table) mid) now (TablePerforms plan rose (seals_within plan (join_seals plan (put_joined plan item table)) (put_joined plan item table)) mid.device (put_joined plan item table) now)) (sym whole) h

    -- the put of the table without its log was done, and the log's seal follows, however it ended
    pub put-then : (p now : PartProgress Table) → TablePuts (bare plan) rose item device (bare_table table) p → p.end ≡ Whole →
        TablePerforms plan rose (seal_within plan LogRing (beside (log_of table) (put_record (bare plan) item (bare_table table)))) p.device (beside (log_of table) (put_record (bare plan) item (bare_table table))) now →
        TablePuts plan rose item device table now
    put-then p now h whole seal =
        let k = by-end h.0 h.0.end refl h.2 in
        (progress_beside L h.0, room-lifts h.0 h.1, goes-on h.0 now k.0 (second h.0.device now (both h.0.device k.1)))
      where
        by-end : (mid : PartProgress Table) (e : PartEnd Table) → mid.end ≡ e → TablePutGoesOn e mid p (TablePerforms (bare plan) rose (seals_within (bare plan) (join_seals (bare plan) (put_joined (bare plan) item (bare_table table))) (put_joined (bare plan) item (bare_table table))) mid.device (put_joined (bare plan) item (bare_table table)) p) →
            (mid.end ≡ Whole) × TablePerforms (bare plan) rose (seals_within (bare plan) (join_seals (bare plan) (put_joined (bare plan) item (bare_table table))) (put_joined (bare plan) item (bare_table table))) mid.device (put_joined (bare plan) item (bare_table table)) p
        by-end mid Whole e g = (e, g)
        by-end mid (CutIn b) e g = absurd (not-cut (sym (ap (λ (x : PartProgress Table). x.end) g ∙ e) ∙ whole))
          where
            not-cut : CutIn b ≡ Whole → ⊥
            not-cut k = cc
        by-end mid (FailedIn b) e g = absurd (not-failed (sym (ap (λ (x : PartProgress Table). x.end) g ∙ e) ∙ whole))
          where
            not-failed : FailedIn b ≡ Whole → ⊥
            not-failed k = cc

        one : TablePerforms plan rose (seals_within plan (LogRing ∷ []) (beside (log_of table) (put_record (bare plan) item (bare_table table)))) p.device (beside (log_of table) (put_record (bare plan) item (bare_table table))) now
        one = subst (λ (ops : List (RingName × Kind)). TablePerforms plan rose ops p.device (beside (log_of table) (put_record (bare plan) item (bare_table table))) now) (sym (append-nil (seal_within plan LogRing sealed))) seal

        both : (later : Device) → TablePerforms (bare plan) rose (seals_within (bare plan) (join_seals (bare plan) (put_joined (bare plan) item (bare_table table))) (put_joined (bare plan) item (bare_table table))) later (put_joined (bare plan) item (bare_table table)) p →
            TablePerforms plan rose (seals_within plan (join_seals (bare plan) (put_joined (bare plan) item (bare_table table)) ++ LogRing ∷ []) (beside (log_of table) (put_joined (bare plan) item (bare_table table)))) later (beside (log_of table) (put_joined (bare plan) item (bare_table table))) now
        both later h =
            let lifted = fills-lift later p h in
            let whole-now : end_beside (log_of table) p.end ≡ Whole = ap (end_beside L) whole in
            let state : beside (log_of table) p.state ≡ after_seals plan (join_seals (bare plan) (put_joined (bare plan) item (bare_table table))) (beside (log_of table) (put_joined (bare plan) item (bare_table table))) =
            (performs-whole (λ (o : RingName × Kind). o.1) (effect_within plan) rose (seals_within plan fills (beside L joined)) later (beside L joined) (progress_beside L p) lifted whole-now).0 ∙ seals-all_done plan fills (beside L joined) in
            subst (λ (ops : List (RingName × Kind)). TablePerforms plan rose ops later (beside (log_of table) (put_joined (bare plan) item (bare_table table))) now) (sym (within-append plan fills (LogRing ∷ []) (beside L joined)))
            (performs-more (λ (o : RingName × Kind). o.1) (effect_within plan) rose (seals_within plan fills (beside L joined)) (seals_within plan (LogRing ∷ []) (after_seals plan fills (beside L joined))) later (beside L joined) (progress_beside L p) now lifted whole-now
            (subst (λ (t : Table). TablePerforms plan rose (seals_within plan (LogRing ∷ []) (after_seals plan fills (beside L joined))) p.device t now) (sym state)
            (subst (λ (t : Table). TablePerforms plan rose (seals_within plan (LogRing ∷ []) t) p.device t now) (sym filled-is) one)))

    -- the put of the table without its log failed
    pub put-fails : (p : PartProgress Table) → TablePuts (bare plan) rose item device (bare_table table) p → (p.end ≡ Whole → ⊥) → TablePuts plan rose item device table (progress_beside (log_of table) p)
    put-fails p h broken = (progress_beside L h.0, room-lifts h.0 h.1, by-end h.0.end refl h.2)
      where
        by-end : (e : PartEnd Table) → h.0.end ≡ e → TablePutGoesOn e h.0 p (TablePerforms (bare plan) rose (seals_within (bare plan) (join_seals (bare plan) (put_joined (bare plan) item (bare_table table))) (put_joined (bare plan) item (bare_table table))) h.0.device (put_joined (bare plan) item (bare_table table)) p) →
            TablePutGoesOn (end_beside (log_of table) h.0.end) (progress_beside (log_of table) h.0) (progress_beside (log_of table) p) (TablePerforms plan rose (seals_within plan (join_seals plan (put_joined plan item table)) (put_joined plan item table)) h.0.device (put_joined plan item table) (progress_beside (log_of table) p))
        by-end Whole e g =
            goes-on h.0 (progress_beside L p) e (second h.0.device (progress_beside L p)
            (subst (λ (ops : List (RingName × Kind)). TablePerforms plan rose ops h.0.device (beside (log_of table) (put_joined (bare plan) item (bare_table table))) (progress_beside (log_of table) p)) (sym (within-append plan fills (LogRing ∷ []) (beside L joined)))
            (performs-front (λ (o : RingName × Kind). o.1) (effect_within plan) rose (seals_within plan fills (beside L joined)) (seals_within plan (LogRing ∷ []) (after_seals plan fills (beside L joined))) h.0.device (beside L joined) (progress_beside L p)
            (fills-lift h.0.device p g) (λ whole. broken (unbeside table p.end whole)))))
        by-end (CutIn b) e g =
            subst (λ (x : PartEnd Table). TablePutGoesOn (end_beside (log_of table) x) (progress_beside (log_of table) h.0) (progress_beside (log_of table) p) (TablePerforms plan rose (seals_within plan (join_seals plan (put_joined plan item table)) (put_joined plan item table)) h.0.device (put_joined plan item table) (progress_beside (log_of table) p))) (sym e) (ap (progress_beside L) g)
        by-end (FailedIn b) e g =
            subst (λ (x : PartEnd Table). TablePutGoesOn (end_beside (log_of table) x) (progress_beside (log_of table) h.0) (progress_beside (log_of table) p) (TablePerforms plan rose (seals_within plan (join_seals plan (put_joined plan item table)) (put_joined plan item table)) h.0.device (put_joined plan item table) (progress_beside (log_of table) p))) (sym e) (ap (progress_beside L) g)
