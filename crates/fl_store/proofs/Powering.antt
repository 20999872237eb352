-- The mount of a store, whose power goes on first.
use Rattle.std.proofs.Common.{◌≡◌, ◌+◌, ◌*◌, ◌≤◌, Bool, true, false, IsTrue, IfErr, Result, List, length, refl, sym, ap, subst, OnOk}
use Rattle.fl_flash.specs.Flash.{FlashState, Goes, page_at}
use Rattle.fl_frame.proofs.CallsInTurn.{goes-on, goes-then}
use Rattle.fl_model.specs.Record.{Config, Plan}
use Rattle.fl_model.specs.Table as model
use Rattle.fl_model.specs.Work.{Device}
use Rattle.fl_frame.specs.Watched.{IsWatched}
use Rattle.fl_parts.specs.Faults.{MountCausedBy}
use Rattle.fl_parts.specs.IndexMount.{FewRepairs}
use Rattle.fl_store.specs.Calls.{powered}
use Rattle.fl_store.specs.Mounting.{MountsInTurn, OutsideStands, RefusesAt, repairs_of, tried}
use Rattle.fl_store.specs.Store.{Holds, IsOnMedium}
use Rattle.fl_store.specs.Tables.{LieOn, TablesMount, TablesStand, pages_of}
use Rattle.fl_store.specs.declared.tables.BadMount.{BadMount}
use Rattle.fl_store.specs.declared.tables.Entry.{Entry}
use Rattle.fl_store.proofs.Called.{on-ok}
use Rattle.fl_store.proofs.TablesLie.{lie-on}
use Rattle.fl_store.proofs.TablesOnlyRead.{tables-kept}
use Rattle.fl_store.proofs.Worked.{medium-goes}

module _ (f on : FlashState) (is : on ≡ powered f) where
  goes-up : Goes f on
  goes-up = subst (λ x. Goes f x) (sym is) (goes-on f)

  pub lie-up : (entries : List Entry) → LieOn entries f → LieOn entries on
  lie-up entries lie = lie-on entries f on goes-up lie

  pub page-up : on.geometry.page ≡ f.geometry.page
  page-up = ap (λ (x : FlashState). x.geometry.page) is

  module _ (g : FlashState) where
    pub goes-through : Goes on g → Goes f g
    goes-through goes = goes-then f on g goes-up goes

    module _ (entries now : List Entry) (result : Result (Unit {0}) BadMount) where
      pub mounts-through : (config : Config) (tables : List model.Table) (rose : Bool) (device : Device) → Goes on g →
          ((plans : List Plan) (ts : List model.Table) (rose : Bool) (device : Device) → IsWatched on g rose device → TablesStand on (λ i. false) plans entries ts → TablesMount plans ts rose device result now g) →
          IsWatched (powered f) g rose device → Holds config entries f false tables → IsOnMedium config g × TablesMount config.plans tables rose device result now g
      mounts-through config tables rose device goes ends watched h = (
        medium-goes config f g (goes-through goes) h.medium,
        ends config.plans tables rose device (subst (λ x. IsWatched x g rose device) (sym is) watched)
            (subst (λ x. TablesStand x (λ i. false) config.plans entries tables) (sym is) (tables-kept f (powered f) refl refl (λ i. false) config.plans entries tables h.stand)),
      )

      pub found-through : OnOk result (IsTrue on.media.tells → MountsInTurn (length entries) entries now on g) → OnOk result (IsTrue f.media.tells → MountsInTurn (length entries) entries now (powered f) g)
      found-through h = subst (λ (x : FlashState). OnOk result (IsTrue x.media.tells → MountsInTurn (length entries) entries now x g)) is h

      pub refused-through : IfErr result (λ bad. IsTrue on.media.tells → RefusesAt entries now bad on g) → IfErr result (λ bad. IsTrue f.media.tells → RefusesAt entries now bad (powered f) g)
      refused-through h = subst (λ (x : FlashState). IfErr result (λ bad. IsTrue x.media.tells → RefusesAt entries now bad x g)) is h

      pub cause-through : IfErr result (λ bad. MountCausedBy on bad.fault g) → IfErr result (λ bad. MountCausedBy (powered f) bad.fault g)
      cause-through h = subst (λ (x : FlashState). IfErr result (λ bad. MountCausedBy x bad.fault g)) is h

      pub power-through : Goes on g → OnOk result (on.is_on ≡ true → g.is_on ≡ true) → OnOk result (g.is_on ≡ true)
      power-through goes h = on-ok (on.is_on ≡ true) (g.is_on ≡ true) result h (ap (λ (x : FlashState). x.is_on) is)

      pub repairs-through : FewRepairs (repairs_of (tried result entries)) on g → FewRepairs (repairs_of (tried result entries)) f g
      repairs-through h =
          let few = subst (λ (x : FlashState). FewRepairs (repairs_of (tried result entries)) x g) is h in
          record { programs = few.programs; erases = few.erases }

      pub outside-through : (IsTrue on.media.tells → OutsideStands (tried result entries) (page_at on) (page_at g)) → IsTrue f.media.tells → OutsideStands (tried result entries) (page_at f) (page_at g)
      outside-through h = subst (λ (x : FlashState). IsTrue x.media.tells → OutsideStands (tried result entries) (page_at x) (page_at g)) is h

      pub reads-through : (IsTrue on.media.tells → g.work.reads ≤ on.work.reads + 4 * pages_of entries) → IsTrue f.media.tells → g.work.reads ≤ f.work.reads + 4 * pages_of entries
      reads-through h = subst (λ (x : FlashState). IsTrue x.media.tells → g.work.reads ≤ x.work.reads + 4 * pages_of entries) is h
