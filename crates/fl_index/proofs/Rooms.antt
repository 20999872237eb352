-- A full list of bitmaps is sealed, and none else.
use Rattle.std.proofs.Common.{◌≡◌, ℕ, ◌<◌, ◌==◌, Bool, true, false, cond, Result, Ok, Err, List, [], ◌∷◌, length, refl, sym, ◌∙◌, ap, subst, arith}
use Rattle.std.proofs.lemmas.Bool.{eqb-true}
use Rattle.std.proofs.lemmas.List.{append-nil}
use Rattle.std.proofs.Common.{eq-eqb}
use Rattle.fl_flash.specs.Flash.{FlashState, page_at}
use Rattle.fl_flash.specs.declared.flash.FlashFault.{FlashFault}
use Rattle.fl_model.specs.Record.{Plan, entries_per_page}
use Rattle.fl_model.specs.Table.{Table, RingName, IndexRing, after_seal, after_seals}
use Rattle.fl_model.specs.Work.{Kind, Device, Whole}
use Rattle.fl_model.specs.Within.{seal_within, seals_within}
use Rattle.fl_frame.specs.Watched.{IsWatched}
use Rattle.fl_index.specs.declared.index.BitmapIndex.{BitmapIndex}
use Rattle.fl_index.specs.Memory.{per_page, waiting_in}
use Rattle.fl_index.specs.Standing.{Stands}
use Rattle.fl_index.specs.Outcomes.{index_seals, Finishes, Breaks, MakesRoom, SealEnds}
use Rattle.fl_index.proofs.SealEnds.{planned-page}
use Rattle.fl_index.proofs.KeptPagesStay.{nothing-stands}

none-sealed : (plan : Plan) (table : Table) → length table.waiting < entries_per_page plan → index_seals plan table ≡ []
none-sealed plan table lt = by_test (length table.waiting == entries_per_page plan) refl
  where
    by_test : (b : Bool) → (length table.waiting == entries_per_page plan) ≡ b → cond b (IndexRing ∷ []) [] ≡ []
    by_test true e = absurd (omega (arith, eqb-true (length table.waiting) (entries_per_page plan) e, lt))
    by_test false e = refl

one-sealed : (plan : Plan) (table : Table) → length table.waiting ≡ entries_per_page plan → index_seals plan table ≡ IndexRing ∷ []
one-sealed plan table e = ap (λ (b : Bool). cond b (IndexRing ∷ []) []) (eq-eqb (length table.waiting) (entries_per_page plan) e)

pub makes-nothing : (index : BitmapIndex) (f : FlashState) (first : ℕ) (plan : Plan) (table : Table) (rose : Bool) (device : Device) → IsWatched f f rose device → Stands index f first plan table → waiting_in index < per_page index →
    MakesRoom first plan table rose device (Ok tt) index f f
makes-nothing index f first plan table rose device watched stands lt =
    let few : length table.waiting < entries_per_page plan = omega (arith, lt, stands.waits.count_is, planned-page index first plan stands.in_ring.planned) in
    subst (λ (rings : List RingName). Finishes first plan (seals_within plan rings table) table (after_seals plan rings table) rose device index f f) (sym (none-sealed plan table few))
    (record {
      now = record { end = Whole; device = device; state = table };
      did = (refl, refl, refl);
      whole = refl;
      counts = watched.counts;
      power = watched.on;
      stands = stands;
      stand = nothing-stands first plan table (page_at f);
    })

pub makes-room : (index : BitmapIndex) (f : FlashState) (first : ℕ) (plan : Plan) (table : Table) (rose : Bool) (device : Device) → Stands index f first plan table → waiting_in index ≡ per_page index →
    (result : Result (Unit {0}) FlashFault) (now : BitmapIndex) (new : FlashState) → SealEnds first plan table rose device result now f new → MakesRoom first plan table rose device result now f new
makes-room index f first plan table rose device stands full result now new h = by_result result h
  where
    all : length table.waiting ≡ entries_per_page plan
    all = sym stands.waits.count_is ∙ (full ∙ planned-page index first plan stands.in_ring.planned)

    by_result : (result : Result (Unit {0}) FlashFault) → SealEnds first plan table rose device result now f new → MakesRoom first plan table rose device result now f new
    by_result (Ok u) h =
        subst (λ (rings : List RingName). Finishes first plan (seals_within plan rings table) table (after_seals plan rings table) rose device now f new) (sym (one-sealed plan table all))
        (subst (λ (kinds : List (RingName × Kind)). Finishes first plan kinds table (after_seal plan IndexRing table) rose device now f new) (sym (append-nil (seal_within plan IndexRing table))) h)
    by_result (Err fault) h =
        subst (λ (rings : List RingName). Breaks first plan (seals_within plan rings table) table rose device fault new) (sym (one-sealed plan table all))
        (subst (λ (kinds : List (RingName × Kind)). Breaks first plan kinds table rose device fault new) (sym (append-nil (seal_within plan IndexRing table))) h)
