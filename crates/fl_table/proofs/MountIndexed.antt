-- The mount of the index ring is part of the mount of its table.
use Rattle.std.proofs.Common.{◌≡◌, ℕ, ◌+◌, ◌*◌, ◌<◌, Bool, true, Option, Result, Ok, Err, List, ◌∷◌, sym, subst, ◌⊎◌, inl, inr}
use Rattle.fl_flash.specs.Flash.{FlashState, page_at}
use Rattle.fl_flash.specs.declared.flash.FlashFault.TheVariants.{Media}
use Rattle.fl_index.specs.declared.index.BitmapIndex.{BitmapIndex}
use Rattle.fl_index.specs.Outcomes as outcomes
use Rattle.fl_model.specs.Mount.{rings_of}
use Rattle.fl_model.specs.Record.{Plan, has_index}
use Rattle.fl_model.specs.Ring as model
use Rattle.fl_model.specs.Table.{Table, RingName, DataRing, VarRing}
use Rattle.fl_model.specs.Work.{Device, PartEnd}
use Rattle.fl_model.specs.Within.{TableGoesOn, TableMounts, TableMountEnd, TableMounted, TableStopped, TableUnread}
use Rattle.fl_parts.specs.Failing.{FaultEnds, var_rings}
use Rattle.fl_parts.proofs.IndexMounted.{two_rings, index-settles}
use Rattle.fl_table.specs.Outcomes.{RingsEnd, MountEnds}
use Rattle.fl_parts.specs.Pages.{RestsToMount, bytes_in}
use Rattle.fl_table.specs.declared.counts.Mounted.{Mounted}
use Rattle.fl_parts.specs.declared.mount_fault.MountFault.{MountFault}
use Rattle.fl_parts.specs.declared.mount_fault.MountFault.TheVariants as mount
use Rattle.fl_table.specs.declared.table.Table as code
use Rattle.fl_parts.proofs.InTurn.{of_rings}

module _ (old new : FlashState) (first : ℕ) (plan : Plan) (table : Table) (rose : Bool) (device : Device) (has : has_index plan ≡ true) (some : 0 < plan.index_blocks * plan.geometry.block)
    (log_none : plan.log_blocks ≡ 0) (rests : RestsToMount old first plan table) (same_rows : (n : ℕ) → bytes_in (page_at new) first plan DataRing n ≡ bytes_in (page_at old) first plan DataRing n)
    (same_var : (n : ℕ) → bytes_in (page_at new) first plan VarRing n ≡ bytes_in (page_at old) first plan VarRing n) where
  pub then-rows : {KNOTS SLOTS : ℕ} (Remembers : BitmapIndex → Plan → Table → model.Ring → Type 0) (end : Option ℕ) (now : BitmapIndex) (h : outcomes.EndsWell Remembers (first + plan.data_blocks) plan table rose device end now new) (result : Result Mounted MountFault) (t : code.Table KNOTS SLOTS) (last : FlashState) →
      RingsEnd first plan (DataRing ∷ var_rings plan) h.now.state rose h.now.device result t last → MountEnds first plan table rose device result t last
  then-rows Remembers end now h result t last k = by_result result k
    where
      all : (how : TableMountEnd) → TableMounts plan rose (of_rings (DataRing ∷ var_rings plan)) h.now.device h.now.state how → TableMounts plan rose (of_rings (rings_of plan)) device table how
      all how m = subst (λ (rings : List RingName). TableMounts plan rose (of_rings rings) device table how) (sym (two_rings old new first plan table rose device has some log_none rests same_rows same_var))
          (inr (h.now, h.did, subst (λ (e : PartEnd Table). TableGoesOn e h.now how (TableMounts plan rose (of_rings (DataRing ∷ var_rings plan)) h.now.device h.now.state how)) (sym h.whole) m))

      by_result : (result : Result Mounted MountFault) → RingsEnd first plan (DataRing ∷ var_rings plan) h.now.state rose h.now.device result t last → MountEnds first plan table rose device result t last
      by_result (Ok mounted) k = record { now = k.now; did = all (TableMounted k.now) k.did; counts = k.counts; power = k.power; loaded = k.loaded; stands = λ settled. k.stands (index-settles old new first plan table rose device has some log_none rests same_rows same_var Remembers end now h settled); answer = k.answer }
      by_result (Err (mount.Flash fault)) k = record { now = k.now; did = by_did k.did; counts = k.counts; lost = k.lost; paged = k.paged; pages = k.pages; rests = λ settled. k.rests (index-settles old new first plan table rose device has some log_none rests same_rows same_var Remembers end now h settled) }
        where
          by_did : (TableMounts plan rose (of_rings (DataRing ∷ var_rings plan)) h.now.device h.now.state (TableStopped k.now) × FaultEnds k.now.end fault last) ⊎ (TableMounts plan rose (of_rings (DataRing ∷ var_rings plan)) h.now.device h.now.state (TableUnread k.now) × (fault ≡ Media)) →
              (TableMounts plan rose (of_rings (rings_of plan)) device table (TableStopped k.now) × FaultEnds k.now.end fault last) ⊎ (TableMounts plan rose (of_rings (rings_of plan)) device table (TableUnread k.now) × (fault ≡ Media))
          by_did (inl p) = inl (all (TableStopped k.now) p.0, p.1)
          by_did (inr p) = inr (all (TableUnread k.now) p.0, p.1)
      by_result (Err (mount.Ring fault)) k = k
      by_result (Err (mount.BadPage bad)) k = k
      by_result (Err (mount.BadKeys page last key)) k = k
      by_result (Err (mount.BadIndex end next)) k = k
      by_result (Err (mount.BadBlob page next)) k = k
      by_result (Err (mount.BadEntry page count limit)) k = k
