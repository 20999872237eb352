-- What the mount of the tables leaves of the pages of a flash.
use Rattle.std.proofs.Common.{◌≡◌, ◌⊎◌, ℕ, Bool, false, suc, ◌+◌, ◌*◌, ◌<◌, ◌≤◌, Some, List, inl, inr, refl, sym, ◌∙◌, ap, subst, arith, slice_get, mul-le-mul_right}
use Rattle.std.proofs.lemmas.Bool.{cases_lt}
use Rattle.fl_base.specs.declared.types.Geometry.{Geometry}
use Rattle.fl_base.proofs.Risen.{rose-front}
use Rattle.fl_flash.specs.Flash.{FlashState, Goes, page_at}
use Rattle.fl_model.specs.Record.{Plan, blocks_of}
use Rattle.fl_model.specs.Table as model
use Rattle.fl_model.specs.Work.{Device}
use Rattle.fl_model.proofs.Lists.{sum_by-next}
use Rattle.fl_frame.specs.Watched.{IsWatched}
use Rattle.fl_rlc.specs.Left as one_table
use Rattle.fl_rlc.specs.Left.{LeavesPages}
use Rattle.fl_rlc.specs.Logged.{Rests}
use Rattle.fl_rlc.specs.Table.{IsPlanned, is_logged}
use Rattle.fl_rlc.proofs.RestsBehind.{rests-behind}
use Rattle.fl_store.specs.Mounting.{AreUnlogged}
use Rattle.fl_store.specs.Repaired.{IsRepaired, IsLeft}
use Rattle.fl_store.specs.Tables.{first_of, TablesStand}
use Rattle.fl_store.specs.declared.tables.Entry.{Entry}
use Rattle.fl_store.proofs.TablesChanged.{at-place}

-- each page of the first tables is left so, and all others stand
pub record LeavesFirst (plans : List Plan) (geometry : Geometry) (i : ℕ) (old new : ℕ → List ℕ) : Type 0 where
  pub each : (page : ℕ) → IsLeft plans geometry page (old page) (new page)
  pub behind : (page : ℕ) → first_of plans i * geometry.block ≤ page → new page ≡ old page

pub left-none : (plans : List Plan) (geometry : Geometry) (page : ℕ → List ℕ) → LeavesFirst plans geometry 0 page page
left-none plans geometry page = record { each = λ p. inl (inl refl); behind = λ p le. refl }

-- one more is mounted
left-more : (plans : List Plan) (geometry : Geometry) (i : ℕ) (plan : Plan) (a b c : ℕ → List ℕ) → slice_get plans i ≡ Some plan → plan.geometry ≡ geometry → LeavesFirst plans geometry i a b → LeavesPages (first_of plans i) plan b c → LeavesFirst plans geometry (i + 1) a c
left-more plans geometry i plan a b c is same so_far h = subst (λ (g : Geometry). LeavesFirst plans g i a b → LeavesFirst plans g (i + 1) a c) same more so_far
  where
    next : first_of plans (i + 1) ≡ first_of plans i + blocks_of plan
    next = ap (λ k. first_of plans k) (let s : i + 1 ≡ suc i = omega arith in s) ∙ sum_by-next blocks_of plans i plan is

    upto : (page : ℕ) → first_of plans (i + 1) * plan.geometry.block ≤ page → (first_of plans i + blocks_of plan) * plan.geometry.block ≤ page
    upto page le = subst (λ (n : ℕ). n * plan.geometry.block ≤ page) next le

    own : (page : ℕ) → IsRepaired plan.geometry.page (b page) (c page) ⊎ one_table.IsReplayed (first_of plans i) plan page (b page) → IsLeft plans plan.geometry page (b page) (c page)
    own page (inl repaired) = inl repaired
    own page (inr r) = inr (record { place = i; plan = plan; is = is; logged = r.logged; from = r.from; below = r.below; blank = r.blank })

    more : LeavesFirst plans plan.geometry i a b → LeavesFirst plans plan.geometry (i + 1) a c
    more x = record {
      each = λ page. by-place page (cases_lt page (first_of plans i * plan.geometry.block));
      behind = λ page le. h.behind page (upto page le) ∙ x.behind page (low page le);
    }
      where
        low : (page : ℕ) → first_of plans (i + 1) * plan.geometry.block ≤ page → first_of plans i * plan.geometry.block ≤ page
        low page le = let k : first_of plans i * plan.geometry.block ≤ (first_of plans i + blocks_of plan) * plan.geometry.block = mul-le-mul_right plan.geometry.block (omega arith) in omega (arith, k, upto page le)

        by-place : (page : ℕ) → (page < first_of plans i * plan.geometry.block) ⊎ (first_of plans i * plan.geometry.block ≤ page) → IsLeft plans plan.geometry page (a page) (c page)
        by-place page (inl lt) = subst (λ (bytes : List ℕ). IsLeft plans plan.geometry page (a page) bytes) (sym (h.before page lt)) (x.each page)
        by-place page (inr le) = subst (λ (bytes : List ℕ). IsLeft plans plan.geometry page bytes (c page)) (x.behind page le) (own page (h.each page))

-- none of the tables has a log, or the calls were watched
abbrev pub IsKnown : List Entry → FlashState → FlashState → Type 0
IsKnown entries f g = AreUnlogged entries ⊎ ((rose : Bool) × (device : Device) × IsWatched f g rose device)

pub known-before : (entries : List Entry) (f m n : FlashState) → Goes m n → IsKnown entries f n → IsKnown entries f m
known-before entries f m n goes (inl unlogged) = inl unlogged
known-before entries f m n goes (inr known) =
    let w = known.2 in
    inr (known.0, known.1, record { told = w.told; on = w.on; risen = λ r. w.risen (rose-front f.media.faults m.media.faults n.media.faults goes.faults r); counts = w.counts })

pub known-there : (entries : List Entry) (i : ℕ) (entry : Entry) (f m n : FlashState) → slice_get entries i ≡ Some entry → ((rose : Bool) (device : Device) → IsWatched f n rose device → (now : Device) × IsWatched m n rose now) → IsKnown entries f n →
    (is_logged entry.table ≡ false) ⊎ ((rose : Bool) × (device : Device) × IsWatched m n rose device)
known-there entries i entry f m n here watched (inl unlogged) = inl (unlogged i entry here)
known-there entries i entry f m n here watched (inr known) = let w = watched known.0 known.1 known.2 in inr (known.0, w.0, w.1)

-- the table at the next place rests still, and is mounted
pub left-next : (plans : List Plan) (tables : List model.Table) (entries : List Entry) (i : ℕ) (entry : Entry) (f m n : FlashState) → TablesStand f (λ j. false) plans entries tables → slice_get entries i ≡ Some entry →
    LeavesFirst plans f.geometry i (page_at f) (page_at m) →
    ((plan : Plan) (table : model.Table) → IsPlanned entry.table (first_of plans i) plan → Rests m (first_of plans i) plan table → LeavesPages (first_of plans i) plan (page_at m) (page_at n)) → LeavesFirst plans f.geometry (i + 1) (page_at f) (page_at n)
left-next plans tables entries i entry f m n stand here so_far mounts =
    let at = at-place f (λ j. false) plans entries tables i entry stand here in
    let behind : (page : ℕ) → first_of plans i * at.plan.geometry.block ≤ page → page_at m page ≡ page_at f page =
    subst (λ (g : Geometry). (page : ℕ) → first_of plans i * g.block ≤ page → page_at m page ≡ page_at f page) (sym at.stands.geometry) so_far.behind in
    left-more plans f.geometry i at.plan (page_at f) (page_at m) (page_at n) at.plan_is at.stands.geometry so_far (mounts at.plan at.table at.stands.planned (rests-behind f m (first_of plans i) at.plan at.table behind at.stands.on_flash))
