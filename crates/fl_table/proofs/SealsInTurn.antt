-- Seals of a table, one after another.
use Rattle.std.proofs.Common.{◌≡◌, ℕ, Bool, Result, Ok, Err, List, [], ◌∷◌, ◌++◌, sym, ◌∙◌, subst}
use Rattle.std.proofs.lemmas.List.{append-nil}
use Rattle.fl_flash.specs.Flash.{FlashState, page_at}
use Rattle.fl_flash.specs.declared.flash.FlashFault.{FlashFault}
use Rattle.fl_model.specs.Record.{Plan}
use Rattle.fl_model.specs.Table.{Table, RingName, DataRing, after_seal, after_seals}
use Rattle.fl_model.specs.Within.{seal_within, seals_within, effect_within, TablePerforms}
use Rattle.fl_model.specs.Work.{Kind, Device, PartProgress}
use Rattle.fl_model.proofs.Among.{after_seals-append, seals-all_done, within-append}
use Rattle.fl_model.proofs.Performs.{performs-more, performs-whole}
use Rattle.fl_parts.specs.Failing.{Breaks, BySeals}
use Rattle.fl_table.specs.Outcomes.{Finishes, SealsEnd}
use Rattle.fl_parts.specs.Pages.{KeptStand}
use Rattle.fl_table.specs.Standing.{Stands}
use Rattle.fl_table.specs.declared.table.Table as code
use Rattle.fl_parts.proofs.SealEnds.{ByRows}
use Rattle.fl_parts.proofs.KeptPagesStay.{kept-then}

module _ (first : ℕ) (plan : Plan) (rings others : List RingName) (table : Table) (rose : Bool) (device : Device) where
  -- the first ones were done, and the others follow
  pub seals-then : {KNOTS SLOTS : ℕ} (t : code.Table KNOTS SLOTS) (old mid : FlashState) (result : Result (Unit {0}) FlashFault) (last : code.Table KNOTS SLOTS) (new : FlashState) (h : Finishes first plan (BySeals plan rings table rose device) table (after_seals plan rings table) t old mid) →
      SealsEnd first plan others (after_seals plan rings table) rose h.now.device result last mid new → SealsEnd first plan (rings ++ others) table rose device result last old new
  seals-then t old mid result last new h k = by_result result k
    where
      did : (now : PartProgress Table) → TablePerforms plan rose (seals_within plan others (after_seals plan rings table)) h.now.device (after_seals plan rings table) now → TablePerforms plan rose (seals_within plan (rings ++ others) table) device table now
      did now d =
          let done : h.now.state ≡ after_seals plan rings table = (performs-whole (λ (o : RingName × Kind). o.1) (effect_within plan) rose (seals_within plan rings table) device table h.now h.did h.whole).0 ∙ seals-all_done plan rings table in
          subst (λ (ops : List (RingName × Kind)). TablePerforms plan rose ops device table now) (sym (within-append plan rings others table))
          (performs-more (λ (o : RingName × Kind). o.1) (effect_within plan) rose (seals_within plan rings table) (seals_within plan others (after_seals plan rings table)) device table h.now now h.did h.whole
          (subst (λ (x : Table). TablePerforms plan rose (seals_within plan others (after_seals plan rings table)) h.now.device x now) (sym done) d))

      by_result : (result : Result (Unit {0}) FlashFault) → SealsEnd first plan others (after_seals plan rings table) rose h.now.device result last mid new → SealsEnd first plan (rings ++ others) table rose device result last old new
      by_result (Ok u) k = record {
        now = k.now;
        did = did k.now k.did;
        whole = k.whole;
        counts = k.counts;
        power = k.power;
        stands = subst (λ (x : Table). Stands last new first plan x) (sym (after_seals-append plan rings others table)) k.stands;
        stand = subst (λ (x : Table). KeptStand first plan table x (page_at old) (page_at new)) (sym (after_seals-append plan rings others table))
            (kept-then first plan table (after_seals plan rings table) (after_seals plan others (after_seals plan rings table)) (page_at old) (page_at mid) (page_at new) h.stands.facts k.stands.facts h.stand k.stand);
      }
      by_result (Err fault) k = record { now = k.now; did = did k.now k.did; answer = k.answer; counts = k.counts; rests = k.rests }

-- how a seal of the pending rows alone ends
abbrev pub RowsEnd : {KNOTS SLOTS : ℕ} → ℕ → Plan → Table → Bool → Device → Result (Unit {0}) FlashFault → code.Table KNOTS SLOTS → FlashState → FlashState → Type 0
RowsEnd first plan table rose device (Ok done) t old new = Finishes first plan (ByRows plan table rose device) table (after_seal plan DataRing table) t old new
RowsEnd first plan table rose device (Err fault) t old new = Breaks first plan (ByRows plan table rose device) fault new

pub ends-alone : {KNOTS SLOTS : ℕ} (first : ℕ) (plan : Plan) (table : Table) (rose : Bool) (device : Device) (result : Result (Unit {0}) FlashFault) (t : code.Table KNOTS SLOTS) (old new : FlashState) → RowsEnd first plan table rose device result t old new →
    SealsEnd first plan (DataRing ∷ []) table rose device result t old new
ends-alone first plan table rose device (Ok u) t old new h =
    subst (λ (ops : List (RingName × Kind)). Finishes first plan (λ now. TablePerforms plan rose ops device table now) table (after_seal plan DataRing table) t old new) (sym (append-nil (seal_within plan DataRing table))) h
ends-alone first plan table rose device (Err fault) t old new h =
    subst (λ (ops : List (RingName × Kind)). Breaks first plan (λ now. TablePerforms plan rose ops device table now) fault new) (sym (append-nil (seal_within plan DataRing table))) h
