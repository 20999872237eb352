-- The pages of the other tables are as they were but for what a mount repairs.
use Rattle.std.proofs.Common.{◌≡◌, ℕ, zero, suc, ◌+◌, ◌-◌, ◌*◌, ◌%◌, ◌<◌, ◌≤◌, ◌⊎◌, inl, inr, true, false, nat_lt, Some, List, length, sum_by, sym, ◌∙◌, ap, subst, le_trans, arith, slice_get, mod-eq_of_lt, add-mul, mul-le-mul_right}
use Rattle.std.proofs.lemmas.Bool.{cases_order, lt-ltb}
use Rattle.std.proofs.lemmas.List.Sums.{sum_by-take-le}
use Rattle.std.proofs.lemmas.Option.{slice_get_within}
use Rattle.fl_base.specs.declared.types.Geometry.{Geometry}
use Rattle.fl_flash.specs.Flash.{FlashState, page_at}
use Rattle.fl_model.specs.Record.{Plan, blocks_of}
use Rattle.fl_model.specs.Table as model
use Rattle.fl_model.proofs.Lists.{slice_get-some}
use Rattle.fl_rlc.specs.Table.{OutsideStands}
use Rattle.fl_store.specs.Repaired.{IsLeft, IsOfOther}
use Rattle.fl_store.specs.Tables.{first_of, IsNamed, TablesStand}
use Rattle.fl_store.specs.declared.tables.Entry.{Entry}
use Rattle.fl_store.proofs.Apart.{AllApart, blocks-apart, other-pages}
use Rattle.fl_store.proofs.TableByName.{first-named, stand-named}
use Rattle.fl_store.proofs.TablesChanged.{at-place, some-is}

-- ---- the pages of a table's blocks are those of its rings

-- a page of these blocks stands at a page number
in-ring : (b at blocks page : ℕ) → at * b ≤ page → page < (at + blocks) * b → at * b + (page - at * b) % (blocks * b) ≡ page
in-ring b at blocks page from upto =
    let within : page - at * b < blocks * b = omega (arith, from, upto, add-mul at blocks b) in
    omega (arith, from, mod-eq_of_lt within)

some-blocks : (b at blocks page : ℕ) → at * b ≤ page → page < (at + blocks) * b → nat_lt 0 blocks ≡ true
some-blocks b at zero page from upto =
    let none : (at + 0) * b ≡ at * b = ap (λ (n : ℕ). n * b) (let e : at + 0 ≡ at = omega arith in e) in
    absurd (omega (arith, from, upto, none))
some-blocks b at (suc blocks) page from upto = lt-ltb 0 (suc blocks) (omega arith)

in-blocks : (f g : FlashState) (first : ℕ) (plan : Plan) → AllApart f g first plan → (page : ℕ) → first * plan.geometry.block ≤ page → page < (first + blocks_of plan) * plan.geometry.block → page_at g page ≡ page_at f page
in-blocks f g first plan stand page from upto = by-data (cases_order page ((first + plan.data_blocks) * plan.geometry.block))
  where
    there : (at blocks : ℕ) → at * plan.geometry.block ≤ page → page < (at + blocks) * plan.geometry.block →
        ((n : ℕ) → page_at g (at * plan.geometry.block + n % (blocks * plan.geometry.block)) ≡ page_at f (at * plan.geometry.block + n % (blocks * plan.geometry.block))) → page_at g page ≡ page_at f page
    there at blocks begins ends same =
        subst (λ (p : ℕ). page_at g p ≡ page_at f p) (in-ring plan.geometry.block at blocks page begins ends) (same (page - at * plan.geometry.block))

    behind : first + blocks_of plan ≡ first + plan.data_blocks + plan.index_blocks + plan.var_blocks + plan.log_blocks
    behind = omega arith

    in-log : (first + plan.data_blocks + plan.index_blocks + plan.var_blocks) * plan.geometry.block ≤ page → page_at g page ≡ page_at f page
    in-log begins =
        let ends : page < (first + plan.data_blocks + plan.index_blocks + plan.var_blocks + plan.log_blocks) * plan.geometry.block = subst (λ (n : ℕ). page < n * plan.geometry.block) behind upto in
        there (first + plan.data_blocks + plan.index_blocks + plan.var_blocks) plan.log_blocks begins ends
        (stand.log (some-blocks plan.geometry.block (first + plan.data_blocks + plan.index_blocks + plan.var_blocks) plan.log_blocks page begins ends))

    in-var : (first + plan.data_blocks + plan.index_blocks) * plan.geometry.block ≤ page → page < (first + plan.data_blocks + plan.index_blocks + plan.var_blocks) * plan.geometry.block → page_at g page ≡ page_at f page
    in-var begins ends =
        there (first + plan.data_blocks + plan.index_blocks) plan.var_blocks begins ends (stand.table.var (some-blocks plan.geometry.block (first + plan.data_blocks + plan.index_blocks) plan.var_blocks page begins ends))

    in-index : (first + plan.data_blocks) * plan.geometry.block ≤ page → page < (first + plan.data_blocks + plan.index_blocks) * plan.geometry.block → page_at g page ≡ page_at f page
    in-index begins ends =
        there (first + plan.data_blocks) plan.index_blocks begins ends (stand.table.index (some-blocks plan.geometry.block (first + plan.data_blocks) plan.index_blocks page begins ends))

    by-var : (first + plan.data_blocks + plan.index_blocks) * plan.geometry.block ≤ page →
        (page ≡ (first + plan.data_blocks + plan.index_blocks + plan.var_blocks) * plan.geometry.block)
        ⊎ ((page < (first + plan.data_blocks + plan.index_blocks + plan.var_blocks) * plan.geometry.block) ⊎ ((first + plan.data_blocks + plan.index_blocks + plan.var_blocks) * plan.geometry.block < page)) → page_at g page ≡ page_at f page
    by-var begins (inl is) = in-log (omega (arith, is))
    by-var begins (inr (inl before)) = in-var begins before
    by-var begins (inr (inr after)) = in-log (omega (arith, after))

    by-index : (first + plan.data_blocks) * plan.geometry.block ≤ page →
        (page ≡ (first + plan.data_blocks + plan.index_blocks) * plan.geometry.block) ⊎ ((page < (first + plan.data_blocks + plan.index_blocks) * plan.geometry.block) ⊎ ((first + plan.data_blocks + plan.index_blocks) * plan.geometry.block < page)) →
        page_at g page ≡ page_at f page
    by-index begins (inl is) = by-var (omega (arith, is)) (cases_order page ((first + plan.data_blocks + plan.index_blocks + plan.var_blocks) * plan.geometry.block))
    by-index begins (inr (inl before)) = in-index begins before
    by-index begins (inr (inr after)) = by-var (omega (arith, after)) (cases_order page ((first + plan.data_blocks + plan.index_blocks + plan.var_blocks) * plan.geometry.block))

    by-data : (page ≡ (first + plan.data_blocks) * plan.geometry.block) ⊎ ((page < (first + plan.data_blocks) * plan.geometry.block) ⊎ ((first + plan.data_blocks) * plan.geometry.block < page)) → page_at g page ≡ page_at f page
    by-data (inl is) = by-index (omega (arith, is)) (cases_order page ((first + plan.data_blocks + plan.index_blocks) * plan.geometry.block))
    by-data (inr (inl before)) = there first plan.data_blocks from before stand.table.rows
    by-data (inr (inr after)) = by-index (omega (arith, after)) (cases_order page ((first + plan.data_blocks + plan.index_blocks) * plan.geometry.block))

-- ---- over a flash, whose tables were mounted, and one of them was changed

-- the pages of another one stand
other-stands : (plans : List Plan) (entries : List Entry) (tables : List model.Table) (m h : FlashState) (at i : ℕ) (entry : Entry) (plan own : Plan) → TablesStand m (λ j. true) plans entries tables → slice_get entries at ≡ Some entry →
    OutsideStands entry.table (page_at m) (page_at h) → slice_get plans i ≡ Some plan → slice_get plans at ≡ Some own → (at ≡ i → ⊥) → AllApart m h (first_of plans i) plan
other-stands plans entries tables m h at i entry plan own stood here outside p o other =
    let within = slice_get_within plans i plan p in
    let beside = slice_get-some entries i (omega (arith, within, stood.as_many)) in
    let table = slice_get-some tables i (omega (arith, within, stood.all)) in
    let changed = at-place m (λ j. true) plans entries tables at entry stood here in
    other-pages plans i at plan changed.plan beside.0 entry m h true true table.0 changed.table p changed.plan_is other changed.stands outside (stood.each i plan beside.0 table.0 p beside.1 table.1)

-- the blocks of a table that stands
block-of : (f : FlashState) (plans : List Plan) (entries : List Entry) (tables : List model.Table) (i : ℕ) (plan : Plan) → TablesStand f (λ j. false) plans entries tables → slice_get plans i ≡ Some plan → plan.geometry.block ≡ f.geometry.block
block-of f plans entries tables i plan stood p =
    let within = slice_get_within plans i plan p in
    let entry = slice_get-some entries i (omega (arith, within, stood.as_many)) in
    let table = slice_get-some tables i (omega (arith, within, stood.all)) in
    ap (λ (x : Geometry). x.block) (stood.each i plan entry.0 table.0 p entry.1 table.1).geometry

-- a page of its blocks is one of all blocks
among-all : (plans : List Plan) (i b page : ℕ) (plan : Plan) → slice_get plans i ≡ Some plan → page < (first_of plans i + blocks_of plan) * b → page < sum_by blocks_of plans * b
among-all plans i b page plan p upto =
    let fits : first_of plans i + blocks_of plan ≤ sum_by blocks_of plans = le_trans (blocks-apart plans i (length plans) plan p (slice_get_within plans i plan p)) (sum_by-take-le blocks_of plans (length plans)) in
    let k : (first_of plans i + blocks_of plan) * b ≤ sum_by blocks_of plans * b = mul-le-mul_right b fits in
    omega (arith, upto, k)

-- it was repaired by the mount, and stands since
pub others-repaired : (plans : List Plan) (tables ready : List model.Table) (name : List ℕ) (f m h : FlashState) (entries now : List Entry) (at : ℕ) (entry : Entry) → TablesStand f (λ i. false) plans entries tables → IsNamed entries name at →
    TablesStand m (λ i. true) plans now ready → slice_get now at ≡ Some entry → OutsideStands entry.table (page_at m) (page_at h) →
    ((page : ℕ) → page < sum_by blocks_of plans * f.geometry.block → IsLeft plans f.geometry page (page_at f page) (page_at m page)) →
    (page : ℕ) → IsOfOther plans name f.geometry.block page → IsLeft plans f.geometry page (page_at f page) (page_at h page)
others-repaired plans tables ready name f m h entries now at entry stood named mounted here outside repaired page o =
    let own = at-place m (λ i. true) plans now ready at entry mounted here in
    let own_name : own.plan.name ≡ name = (first-named plans entries (stand-named f (λ i. false) plans entries tables stood) name at named own.plan own.plan_is).0 in
    let other : at ≡ o.at → ⊥ = λ is.
    o.other (ap (λ (p : Plan). p.name) (some-is (slice_get plans o.at) o.plan own.plan o.here (subst (λ (j : ℕ). slice_get plans j ≡ Some own.plan) is own.plan_is)) ∙ own_name) in
    let block = sym (block-of f plans entries tables o.at o.plan stood o.here) in
    let same : page_at h page ≡ page_at m page =
    in-blocks m h (first_of plans o.at) o.plan (other-stands plans now ready m h at o.at entry o.plan own.plan mounted here outside o.here own.plan_is other) page
    (subst (λ (b : ℕ). first_of plans o.at * b ≤ page) block o.from) (subst (λ (b : ℕ). page < (first_of plans o.at + blocks_of o.plan) * b) block o.upto) in
    subst (IsLeft plans f.geometry page (page_at f page)) (sym same) (repaired page (among-all plans o.at f.geometry.block page o.plan o.here o.upto))
