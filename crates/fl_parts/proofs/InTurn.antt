-- Seals and mounts of rings, one after another, of which one stops the others.
use Rattle.std.proofs.Common.{◌≡◌, ℕ, Bool, List, subst, [], ◌∷◌, ◌++◌, refl, sym, ◌∙◌, ap, map, ◌⊎◌, inl, inr, cond, nat_lt}
use Rattle.fl_flash.specs.Flash.{FlashState}
use Rattle.fl_model.specs.Record.{Plan, Record}
use Rattle.fl_model.specs.Table.{Table, RingName, after_seals, LogRing, make_room_seals, fill_seals, join_seals, put_joined}
use Rattle.fl_model.specs.Work.{Device, Kind, PartEnd, Whole, CutIn, FailedIn, PartProgress}
use Rattle.fl_flash.specs.declared.flash.FlashFault.{FlashFault}
use Rattle.fl_model.specs.Within.{seals_within, effect_within, TablePerforms, TableGoesOn, TableMounts, TableMountEnd, TableMounted, TableStopped, TableUnread}
use Rattle.fl_model.proofs.Performs.{performs-front}
use Rattle.std.proofs.lemmas.List.{map-append, append-nil}
use Rattle.fl_flash.specs.declared.flash.FlashFault.TheVariants.{Media}
use Rattle.fl_model.specs.Mount.{Turn, Of}
use Rattle.fl_model.specs.Puts.{TablePuts, TablePutGoesOn}
use Rattle.fl_model.proofs.Among.{within-append}
use Rattle.fl_parts.specs.Failing.{Breaks, BySeals, FaultEnds, MountsBadly}

-- the same seals
pub breaks-as : (first : ℕ) (plan : Plan) (rings others : List RingName) (table : Table) (rose : Bool) (device : Device) (fault : FlashFault) (new : FlashState) → rings ≡ others →
    Breaks first plan (BySeals plan rings table rose device) fault new → Breaks first plan (BySeals plan others table rose device) fault new
breaks-as first plan rings others table rose device fault new e h = subst (λ (rs : List RingName). Breaks first plan (BySeals plan rs table rose device) fault new) e h

module _ (first : ℕ) (plan : Plan) (rings others : List RingName) (table : Table) (rose : Bool) (device : Device) where
  -- the first ones stopped
  pub seals-stop : (fault : FlashFault) (new : FlashState) → Breaks first plan (BySeals plan rings table rose device) fault new → Breaks first plan (BySeals plan (rings ++ others) table rose device) fault new
  seals-stop fault new h = record {
    now = h.now;
    did = subst (λ (ops : List (RingName × Kind)). TablePerforms plan rose ops device table h.now) (sym (within-append plan rings others table))
        (performs-front (λ (o : RingName × Kind). o.1) (effect_within plan) rose (seals_within plan rings table) (seals_within plan others (after_seals plan rings table)) device table h.now h.did
        (λ whole. subst (λ (e : PartEnd Table). FaultEnds e fault new) whole h.answer));
    answer = h.answer;
    counts = h.counts;
    rests = h.rests;
  }

-- ---- mounts of rings, one after another

-- turns came, and then others
pub mounts-append : (plan : Plan) (rose : Bool) (turns others : List Turn) (device : Device) (table : Table) (now : PartProgress Table) (how : TableMountEnd) → TableMounts plan rose turns device table (TableMounted now) → TableMounts plan rose others now.device now.state how →
    TableMounts plan rose (turns ++ others) device table how
mounts-append plan rose [] others device table now how m k =
    let same : now ≡ record { end = Whole; device = device; state = table } = cc in
    subst (λ (p : PartProgress Table). TableMounts plan rose others p.device p.state how) same k
mounts-append plan rose (turn ∷ turns) others device table now how (inl u) k = absurd (no u.0 u.2)
  where
    no : (x : PartProgress Table) → TableMounted now ≡ TableUnread x → ⊥
    no x e = cc
mounts-append plan rose (turn ∷ turns) others device table now how (inr p) k = inr (p.0, p.1, by_end (λ m. mounts-append plan rose turns others p.0.device p.0.state now how m k) p.0.end p.2)
  where
    no : (x : PartProgress Table) → TableMounted now ≡ TableStopped x → ⊥
    no x e = cc

    by_end : (TableMounts plan rose turns p.0.device p.0.state (TableMounted now) → TableMounts plan rose (turns ++ others) p.0.device p.0.state how) → (e : PartEnd Table) →
        TableGoesOn e p.0 (TableMounted now) (TableMounts plan rose turns p.0.device p.0.state (TableMounted now)) → TableGoesOn e p.0 how (TableMounts plan rose (turns ++ others) p.0.device p.0.state how)
    by_end rest Whole m = rest m
    by_end rest (CutIn before) m = absurd (no p.0 m)
    by_end rest (FailedIn before) m = absurd (no p.0 m)

-- turns of which one ended the mount
mounts-ended : (plan : Plan) (rose : Bool) (turns others : List Turn) (device : Device) (table : Table) (how : TableMountEnd) → ((now : PartProgress Table) → how ≡ TableMounted now → ⊥) → TableMounts plan rose turns device table how →
    TableMounts plan rose (turns ++ others) device table how
mounts-ended plan rose [] others device table how other m = absurd (other _ m)
mounts-ended plan rose (turn ∷ turns) others device table how other (inl u) = inl u
mounts-ended plan rose (turn ∷ turns) others device table how other (inr p) = inr (p.0, p.1, by_end (λ m. mounts-ended plan rose turns others p.0.device p.0.state how other m) p.0.end p.2)
  where
    by_end : (TableMounts plan rose turns p.0.device p.0.state how → TableMounts plan rose (turns ++ others) p.0.device p.0.state how) → (e : PartEnd Table) →
        TableGoesOn e p.0 how (TableMounts plan rose turns p.0.device p.0.state how) → TableGoesOn e p.0 how (TableMounts plan rose (turns ++ others) p.0.device p.0.state how)
    by_end rest Whole m = rest m
    by_end rest (CutIn before) m = m
    by_end rest (FailedIn before) m = m

pub mounts-stop : (plan : Plan) (rose : Bool) (turns others : List Turn) (device : Device) (table : Table) (now : PartProgress Table) → TableMounts plan rose turns device table (TableStopped now) → TableMounts plan rose (turns ++ others) device table (TableStopped now)
mounts-stop plan rose turns others device table now m = mounts-ended plan rose turns others device table (TableStopped now) (λ end e. cc) m

pub mounts-unread : (plan : Plan) (rose : Bool) (turns others : List Turn) (device : Device) (table : Table) (now : PartProgress Table) → TableMounts plan rose turns device table (TableUnread now) → TableMounts plan rose (turns ++ others) device table (TableUnread now)
mounts-unread plan rose turns others device table now m = mounts-ended plan rose turns others device table (TableUnread now) (λ end e. cc) m

-- the turns of these rings
abbrev pub of_rings : List RingName → List Turn
of_rings rings = map (λ (ring : RingName). Of ring) rings

-- the first of the rings failed
pub rings-fail : (first : ℕ) (plan : Plan) (rings others : List RingName) (table : Table) (rose : Bool) (device : Device) (fault : FlashFault) (new : FlashState) → MountsBadly first plan rings table rose device fault new → MountsBadly first plan (rings ++ others) table rose device fault new
rings-fail first plan rings others table rose device fault new b = record { now = b.now; did = by_did b.did; counts = b.counts; lost = b.lost; paged = b.paged; pages = b.pages; rests = b.rests }
  where
    both : of_rings (rings ++ others) ≡ of_rings rings ++ of_rings others
    both = map-append (λ (ring : RingName). Of ring) rings others

    along : (how : TableMountEnd) → TableMounts plan rose (of_rings rings ++ of_rings others) device table how → TableMounts plan rose (of_rings (rings ++ others)) device table how
    along how m = subst (λ (turns : List Turn). TableMounts plan rose turns device table how) (sym both) m

    by_did : (TableMounts plan rose (of_rings rings) device table (TableStopped b.now) × FaultEnds b.now.end fault new) ⊎ (TableMounts plan rose (of_rings rings) device table (TableUnread b.now) × (fault ≡ Media)) →
        (TableMounts plan rose (of_rings (rings ++ others)) device table (TableStopped b.now) × FaultEnds b.now.end fault new) ⊎ (TableMounts plan rose (of_rings (rings ++ others)) device table (TableUnread b.now) × (fault ≡ Media))
    by_did (inl p) = inl (along (TableStopped b.now) (mounts-stop plan rose (of_rings rings) (of_rings others) device table b.now p.0), p.1)
    by_did (inr p) = inr (along (TableUnread b.now) (mounts-unread plan rose (of_rings rings) (of_rings others) device table b.now p.0), p.1)

-- a put of a table without a log: it makes room, and then its record joins, and its blob is placed
module _ (first : ℕ) (plan : Plan) (item : Record) (table : Table) (rose : Bool) (device : Device) (unlogged : plan.log_blocks ≡ 0) where
  pub join_is : join_seals plan (put_joined plan item table) ≡ fill_seals plan (put_joined plan item table)
  join_is =
      ap (λ (n : ℕ). fill_seals plan (put_joined plan item table) ++ (cond (nat_lt 0 n) (LogRing ∷ []) [])) unlogged
      ∙ append-nil (fill_seals plan (put_joined plan item table))

  pub put-stops : (fault : FlashFault) (new : FlashState) → Breaks first plan (BySeals plan (make_room_seals plan table) table rose device) fault new → Breaks first plan (TablePuts plan rose item device table) fault new
  put-stops fault new h = record { now = h.now; did = (h.now, h.did, goes h.now.end h.answer); answer = h.answer; counts = h.counts; rests = h.rests }
    where
      goes : (e : PartEnd Table) → FaultEnds e fault new → TablePutGoesOn e h.now h.now (TablePerforms plan rose (seals_within plan (join_seals plan (put_joined plan item table)) (put_joined plan item table)) h.now.device (put_joined plan item table) h.now)
      goes Whole a = absurd a
      goes (CutIn before) a = refl
      goes (FailedIn before) a = refl
