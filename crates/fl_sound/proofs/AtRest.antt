-- A table for which a flash stands is as runs leave it.
use Rattle.std.proofs.Common.{◌≡◌, ℕ, ◌+◌, ◌-◌, ◌≤◌, ◌<◌, ◌⊎◌, inl, inr, Option, Some, None, IfSome, List, length, sym, ◌∙◌, ap, arith}
use Rattle.std.specs.List.{slice_get}
use Rattle.fl_check.specs.SoundImages.{IsAsRunsLeave}
use Rattle.fl_flash.specs.Flash.{FlashState}
use Rattle.fl_model.specs.Agrees.{reach_of}
use Rattle.fl_model.specs.Record.{Plan}
use Rattle.fl_model.specs.Ring.{Ring, oldest}
use Rattle.fl_model.specs.Table.{Table, Entry, written}
use Rattle.fl_rlc.specs.Logged.{Rests}
use Rattle.fl_sound.specs.Mounts.{TablesAreAsRunsLeave}

module _ (f : FlashState) (first : ℕ) (plan : Plan) (table : Table) (rests : Rests f first plan table) where
  all_written : written table ≡ table.entries
  all_written = ap (λ (t : Table). t.entries) (sym rests.settled.lost)

  begin : (i : ℕ) (entry : Entry) (blob : List ℕ) → slice_get table.entries i ≡ Some entry → entry.kept.blob ≡ Some blob → 0 < length blob →
      IfSome table.var (λ ring. oldest ring ≤ entry.page → slice_get ring.counts (entry.page - oldest ring) ≡ Some 0 → ⊥)
  begin i entry blob here is some = by_ring table.var (rests.settled.facts.blobs i entry blob (ap (λ (l : List Entry). slice_get l i) all_written ∙ here) is some)
    where
      by_ring : (o : Option Ring) →
          IfSome o (λ ring. (entry.page < oldest ring) ⊎ ((oldest ring ≤ entry.page) × (slice_get ring.counts (entry.page - oldest ring) ≡ Some 1) × (entry.page + reach_of plan entry blob < ring.next)))
          → IfSome o (λ ring. oldest ring ≤ entry.page → slice_get ring.counts (entry.page - oldest ring) ≡ Some 0 → ⊥)
      by_ring None at = tt
      by_ring (Some ring) (inl gone) = λ kept void. omega (arith, gone, kept)
      by_ring (Some ring) (inr (kept, one, within)) = λ le void. other (sym void ∙ one)
        where
          other : ◌≡◌ {A = Option ℕ} (Some 0) (Some 1) → ⊥
          other e = cc

  left : IsAsRunsLeave plan table
  left = record { numbers = record { each = rests.settled.facts.numbers; listed = rests.settled.facts.numbers_listed }; begin = begin }

pub as-left : TablesAreAsRunsLeave
as-left f first plan table rests = (left f first plan table rests, rests.settled.facts.logged)
