use Rattle.std.proofs.Common.{◌+◌, ◌≤◌, Bool, true, not, ◌&&◌, ◌||◌, None, List, Result, sym, ◌∙◌, ap, subst, arith}
use Rattle.std.proofs.Math.IntN.{ℤ}
use Rattle.std.specs.Prelude.{OnOk}
use Rattle.fl_table.specs.Memory.{is_running, is_stopped, pending_in}
use Rattle.fl_table.specs.Stored.{Stores}
use Rattle.fl_table.specs.declared.faults.PutRefusal.{PutRefusal}
use Rattle.fl_table.specs.declared.table.Table.{Table}
use Rattle.fl_rlc.specs.Offering.{IsOffered}
use Rattle.fl_rlc.proofs.TakenRecord.{Ends, Done, Refused, ends, calm, still, offers, takes}
use Rattle.fl_rlc.proofs.join.take_record.Goals as goal

pub returns-clause-still : goal.returns-clause-still
returns-clause-still g c =
    still c.args.table.now c.put-refused.new.self (g.F.Flash.state c.args.flash.now) (g.F.Flash.state c.put-refused.new.flash) c.args.item.now.key c.as_slice.result.now c.put-refused.result c.requires.no_blobs c.requires.room c.put-refused.ensures.exact c.put-refused.ensures.memory.refused c.put-refused.ensures.page.quiet

pub returns-clause-running : goal.returns-clause-running
returns-clause-running g c =
    let calm_is = calm c.args.table.now c.put-refused.new.self (g.F.Flash.state c.args.flash.now) (g.F.Flash.state c.put-refused.new.flash) c.args.item.now.key c.as_slice.result.now c.put-refused.result c.requires.no_blobs c.requires.room c.put-refused.ensures.exact c.put-refused.ensures.memory.refused c.put-refused.ensures.page.quiet in
    c.put-refused.ensures.table.running ∙ (ap (λ (b : Bool). is_running c.args.table.now && not b) calm_is ∙ ap (λ (b : Bool). b && true) c.requires.running)

pub returns-clause-calm : goal.returns-clause-calm
returns-clause-calm g c =
    let calm_is = calm c.args.table.now c.put-refused.new.self (g.F.Flash.state c.args.flash.now) (g.F.Flash.state c.put-refused.new.flash) c.args.item.now.key c.as_slice.result.now c.put-refused.result c.requires.no_blobs c.requires.room c.put-refused.ensures.exact c.put-refused.ensures.memory.refused c.put-refused.ensures.page.quiet in
    c.put-refused.ensures.table.stopped ∙ ap (λ (b : Bool). b || is_stopped c.args.table.now) calm_is

pub returns-clause-pending : goal.returns-clause-pending
returns-clause-pending g c = by-end
    (ends c.args.table.now c.put-refused.new.self (g.F.Flash.state c.args.flash.now) (g.F.Flash.state c.put-refused.new.flash) c.args.item.now.key c.as_slice.result.now c.put-refused.result c.requires.no_blobs c.requires.room c.put-refused.ensures.exact c.put-refused.ensures.memory.refused c.put-refused.ensures.page.quiet)
  where
    by-end : Ends c.args.table.now c.put-refused.new.self (g.F.Flash.state c.args.flash.now) (g.F.Flash.state c.put-refused.new.flash) c.args.item.now.key c.as_slice.result.now c.put-refused.result c.requires.no_blobs c.requires.room c.put-refused.ensures.exact c.put-refused.ensures.memory.refused c.put-refused.ensures.page.quiet →
        pending_in c.put-refused.new.self ≤ pending_in c.args.table.now + 1
    by-end (Done is same) =
        let stored : Stores c.args.table.now c.args.item.now.key c.as_slice.result.now None c.put-refused.new.self =
        subst (λ (x : Result (Unit {0}) PutRefusal). OnOk x (Stores c.args.table.now c.args.item.now.key c.as_slice.result.now None c.put-refused.new.self)) is c.put-refused.ensures.memory.stores in
        omega (arith, (stored.room c.requires.room).pending)
    by-end (Refused e is kept u_is same) = let k = ap (λ (x : Table g.row.KNOTS g.row.SLOTS). pending_in x) u_is in omega (arith, k)

pub returns-clause-offers : goal.returns-clause-offers
returns-clause-offers g c =
    subst (λ (vs : List ℤ). IsOffered c.args.table.now (record { key = c.args.item.now.key; values = vs; blob = None }) c.put-refused.new.self) c.as_slice.ensures.value
    (offers c.args.table.now c.put-refused.new.self (g.F.Flash.state c.args.flash.now) (g.F.Flash.state c.put-refused.new.flash) c.args.item.now.key c.as_slice.result.now c.put-refused.result c.requires.no_blobs c.requires.room c.put-refused.ensures.exact c.put-refused.ensures.memory.refused c.put-refused.ensures.page.quiet
    c.put-refused.ensures.memory.stores)

pub returns-clause-takes : goal.returns-clause-takes
returns-clause-takes g c = λ first plan b rose device entry watched s fits key_is values_is.
    takes c.args.table.now c.put-refused.new.self (g.F.Flash.state c.args.flash.now) (g.F.Flash.state c.put-refused.new.flash) c.args.item.now.key c.as_slice.result.now c.put-refused.result c.requires.no_blobs c.requires.room c.put-refused.ensures.exact c.put-refused.ensures.memory.refused c.put-refused.ensures.page.quiet
    first plan b rose device entry s fits key_is (values_is ∙ sym c.as_slice.ensures.value) (c.put-refused.ensures.put first plan b rose device watched s)

pub returns-clause-same : goal.returns-clause-same
returns-clause-same g c = c.put-refused.ensures.table.same

pub returns-clause-lies : goal.returns-clause-lies
returns-clause-lies g c = c.put-refused.ensures.table.lies
