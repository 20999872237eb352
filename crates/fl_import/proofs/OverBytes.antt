-- What an import over a flash does whatever bytes that has.
use Rattle.std.proofs.Common.{◌≡◌, ℕ, Result, Ok, Err, List, refl, sym, subst}
use Rattle.fl_flash.specs.Flash.{FlashState, Goes}
use Rattle.fl_image.specs.declared.status.ToolStatus.TheVariants.{BadImage}
use Rattle.fl_store.specs.Jobs.{ChangesOwn}
use Rattle.fl_store.specs.MountsOver.{MountsOver}
use Rattle.fl_store.specs.Status.{mount_status}
use Rattle.fl_store.specs.declared.tables.BadMount.{BadMount}
use Rattle.fl_store.specs.declared.tables.Entry.{Entry}
use Rattle.fl_store.proofs.Jobs.{mounts-alone, mounts-work}
use Rattle.fl_import.specs.Over.{ImportsOver, PutsInto}
use Rattle.fl_import.specs.Taken.{end_of}
use Rattle.fl_import.specs.declared.job_end.JobEnd.{JobEnd}

module _ (entries now : List Entry) (f m : FlashState) (outcome : Result (Unit {0}) BadMount) (mounts : MountsOver entries now f outcome m) where
  -- a table is refused
  pub refuses-over : {S K : Type 0} (input : S) (out : K) (at : ℕ) (bad : BadMount) → outcome ≡ Err bad → ImportsOver (end_of (mount_status bad.fault bad.at)) input input out out at entries f m
  refuses-over input out at bad is =
      let end = end_of (mount_status bad.fault bad.at) in
      mounts-alone entries now f m outcome mounts (PutsInto end input input out out entries at m)
      (subst (λ (r : Result (Unit {0}) BadMount). PutsInto end input input out out entries at m r now m) (sym is) (refl, refl, refl, refl))

  -- all were mounted, and records were put into one
  pub puts-over : {S K : Type 0} (end : JobEnd) (input input_now : S) (out out_now : K) (at : ℕ) (g : FlashState) (done : Unit {0}) → outcome ≡ Ok done → Goes f m →
      ((table : ℕ) → end.status ≡ BadImage table → ⊥) → ChangesOwn entries at m g → ImportsOver end input input_now out out_now at entries f g
  puts-over end input input_now out out_now at g done is goes good own =
      mounts-work entries now f m g outcome done is mounts goes at own (PutsInto end input input_now out out_now entries at g)
      (subst (λ (r : Result (Unit {0}) BadMount). PutsInto end input input_now out out_now entries at g r now m) (sym is) (good, own))
