-- A put with the power off.
use Rattle.std.proofs.Common.{◌≡◌, ◌⊎◌, inl, inr, ℕ, ◌+◌, ◌<◌, ◌≤◌, false, Result, Ok, Err, Option, List, length, ap, subst, arith}
use Rattle.std.proofs.lemmas.Bool.{cases_lt}
use Rattle.fl_flash.specs.Flash.{FlashState, OffChangesNothing}
use Rattle.fl_flash.specs.declared.flash.FlashFault.{FlashFault}
use Rattle.fl_flash.specs.declared.flash.FlashFault.TheVariants.{PowerLost}
use Rattle.fl_model.specs.Record.{layout_len}
use Rattle.fl_schema.specs.Schema.{layout_of}
use Rattle.fl_parts.proofs.CallsOff.{off-ok}
use Rattle.fl_parts.specs.Blobs.{pages_for}
use Rattle.fl_table.specs.Memory.{HasRoom}
use Rattle.fl_table.specs.declared.table.Table.{Table}

-- a put that has something to write: it makes room, or places a blob
pub put-off : {KNOTS SLOTS : ℕ} (old mid : Table KNOTS SLOTS) (f g h : FlashState) (blob : Option (List ℕ)) (u : Unit {0}) (result : Result (Unit {0}) FlashFault) →
    ((HasRoom old → ⊥) → OffChangesNothing {T = Unit {0}} f (Ok u) g) → (HasRoom old → (◌≡◌ {A = Result (Unit {0}) FlashFault} (Ok u) (Ok tt)) × (mid ≡ old) × (g ≡ f)) →
    (1 ≤ pages_for mid.blobs blob → OffChangesNothing g result h) → (HasRoom old → pages_for old.blobs blob ≡ 0 → ⊥) → OffChangesNothing f result h
put-off {KNOTS} {SLOTS} old mid f g h blob u result off quiet later busy = λ down. by_room down (cases_lt (length old.writer.body) (old.writer.end + layout_len (layout_of old.schema)))
  where
    some : HasRoom old → mid ≡ old → 1 ≤ pages_for mid.blobs blob
    some room same = elim (cases_lt 0 (pages_for old.blobs blob)) [
      | inl pages ↦ omega (arith, pages, ap (λ (t : Table KNOTS SLOTS). pages_for t.blobs blob) same)
      | inr none ↦ absurd (busy room (omega (arith, none)))
    ]

    by_room : f.is_on ≡ false → (length old.writer.body < old.writer.end + layout_len (layout_of old.schema)) ⊎ HasRoom old → (result ≡ Err PowerLost) × (h ≡ f)
    by_room down (inl full) = absurd (off-ok f g u (off (λ room. omega (arith, full, room))) down)
    by_room down (inr room) = let still = quiet room in subst (λ (k : FlashState). OffChangesNothing k result h) still.2 (later (some room still.1)) down
