-- Tables that were mounted one after another, over any bytes.
use Rattle.std.proofs.Common.{◌≡◌, ℕ, zero, suc, ◌+◌, ◌<◌, ◌≤◌, Some, List, take, refl, ◌∙◌, ap, subst, arith, slice_get, length-take}
use Rattle.std.proofs.lemmas.Option.{slice_get_within}
use Rattle.fl_flash.specs.Flash.{FlashState}
use Rattle.fl_model.proofs.Lists.{slice_get-take, slice_get-front, sum_by-next}
use Rattle.fl_rlc.specs.Mounting.{FindsPages}
use Rattle.fl_rlc.specs.Table as table
use Rattle.fl_rlc.specs.Table.{IsSamePlan, repairs_in}
use Rattle.fl_rlc.specs.declared.table.LoggedTable.{LoggedTable}
use Rattle.fl_parts.specs.IndexMount.{FewRepairs}
use Rattle.fl_table.specs.declared.counts.Mounted.{Mounted}
use Rattle.fl_store.specs.Mounting.{MountsInTurn, OutsideStands, repairs_of}
use Rattle.fl_store.specs.Tables.{entries_with}
use Rattle.fl_store.specs.declared.tables.Entry.{Entry}
use Rattle.fl_store.proofs.TablesChanged.{set-there, set-elsewhere}

-- ---- in turn

turn-kept : (n : ℕ) (old a b : List Entry) (f g : FlashState) → ((i : ℕ) → i < n → slice_get b i ≡ slice_get a i) → MountsInTurn n old a f g → MountsInTurn n old b f g
turn-kept zero old a b f g same h = h
turn-kept (suc n) old a b f g same h = (
  h.0,
  turn-kept n old a b f h.0 (λ i lt. same i (omega (arith, lt))) h.1,
  record { was = h.2.was; here = h.2.here; now = h.2.now; there = same n (omega arith) ∙ h.2.there; named = h.2.named; same = h.2.same; mounted = h.2.mounted; found = h.2.found },
)

-- the tables before the place of one that was changed
pub turn-before : (i : ℕ) (old so_far : List Entry) (entry : Entry) (u : LoggedTable 64 64) (f m : FlashState) → MountsInTurn i old so_far f m → MountsInTurn i old (entries_with so_far i entry u) f m
turn-before i old so_far entry u f m h = turn-kept i old so_far (entries_with so_far i entry u) f m (λ j lt. set-elsewhere so_far i j (record { name = entry.name; table = u }) (λ is. absurd (omega (arith, lt, is)))) h

-- one more was mounted
pub turn-more : (i : ℕ) (old so_far : List Entry) (entry : Entry) (u : LoggedTable 64 64) (mounted : Mounted) (f m n : FlashState) → slice_get old i ≡ Some entry → slice_get so_far i ≡ Some entry → IsSamePlan entry.table u → FindsPages entry.table m mounted u n →
    MountsInTurn i old so_far f m → MountsInTurn (i + 1) old (entries_with so_far i entry u) f n
turn-more i old so_far entry u mounted f m n here there same found h =
    subst (λ k. MountsInTurn k old (entries_with so_far i entry u) f n) (let s : suc i ≡ i + 1 = omega arith in s) (
      m,
      turn-before i old so_far entry u f m h,
      record { was = entry; here = here; now = record { name = entry.name; table = u }; there = set-there so_far i entry (record { name = entry.name; table = u }) there; named = refl; same = same; mounted = mounted; found = found },
    )

-- ---- the repairs, and what they leave as it is

pub repairs-none : (entries : List Entry) (f : FlashState) → FewRepairs (repairs_of (take 0 entries)) f f
repairs-none entries f = record { programs = omega arith; erases = omega arith }

-- an element of a front is one of a longer front
front-there : {X : Type 0} (xs : List X) (n i : ℕ) (x : X) → slice_get (take n xs) i ≡ Some x → slice_get (take (suc n) xs) i ≡ Some x
front-there xs n i x e =
    slice_get-take (suc n) xs i (omega (arith, slice_get_within (take n xs) i x e, length-take n xs)) ∙ slice_get-front n xs i x e

some-more : (f m n a b c : ℕ) → m ≤ f + a → n ≤ m + b → c ≡ a + b → n ≤ f + c
some-more f m n a b c first then all = omega (arith, first, then, all)

pub repairs-more : (entries : List Entry) (i : ℕ) (entry : Entry) (f m n : FlashState) → slice_get entries i ≡ Some entry → FewRepairs (repairs_of (take i entries)) f m →
    FewRepairs (repairs_in entry.table) m n → FewRepairs (repairs_of (take (i + 1) entries)) f n
repairs-more entries i entry f m n here before own =
    record {
      programs = some-more f.work.programs m.work.programs n.work.programs (repairs_of (take i entries)) (repairs_in entry.table) (repairs_of (take (i + 1) entries)) before.programs own.programs all;
      erases = some-more f.work.erases m.work.erases n.work.erases (repairs_of (take i entries)) (repairs_in entry.table) (repairs_of (take (i + 1) entries)) before.erases own.erases all;
    }
  where
    all : repairs_of (take (i + 1) entries) ≡ repairs_of (take i entries) + repairs_in entry.table
    all = ap (λ k. repairs_of (take k entries)) (let s : i + 1 ≡ suc i = omega arith in s) ∙ sum_by-next (λ (e : Entry). repairs_in e.table) entries i entry here

pub outside-none : (entries : List Entry) (page : ℕ → List ℕ) → OutsideStands (take 0 entries) page page
outside-none entries page q beside = refl

pub outside-more : (entries : List Entry) (i : ℕ) (entry : Entry) (old mid new : ℕ → List ℕ) → slice_get entries i ≡ Some entry → OutsideStands (take i entries) old mid → table.OutsideStands entry.table mid new → OutsideStands (take (i + 1) entries) old new
outside-more entries i entry old mid new here before more =
    subst (λ k. OutsideStands (take k entries) old new) (let s : suc i ≡ i + 1 = omega arith in s) upto
  where
    upto : OutsideStands (take (suc i) entries) old new
    upto q beside =
        let own = beside i entry (slice_get-take (suc i) entries i (omega arith) ∙ here) in
        more q own.ring own.index own.var own.log ∙ before q (λ j other e. beside j other (front-there entries i j other e))
