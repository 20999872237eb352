use Rattle.std.proofs.Common.{rules, ◌≡◌, ℕ, ◌+◌, ◌-◌, ◌<◌, ◌≤◌, Option, None, Some, Result, Ok, Err, unwrap_or, map, length, refl, sym, ◌∙◌, ap, subst, arith}
use Rattle.std.specs.Prelude.{option_map}
use Rattle.std.proofs.lemmas.Result.{err_from_is_err_and}
use Rattle.std.proofs.lemmas.Option.{none-some, same_Some}
use Rattle.fl_flash.specs.Flash.{page_at}
use Rattle.fl_flash.specs.declared.flash.FlashFault.{FlashFault}
use Rattle.fl_model.specs.Layout.{rows_body}
use Rattle.fl_model.specs.Record.{row_layout}
use Rattle.fl_model.specs.Row.{stored_row}
use Rattle.fl_model.specs.Table.{log_pages, pending_entries}
use Rattle.fl_ring.specs.Operations.{change, seal_kinds}
use Rattle.fl_ring.specs.Place.{StandsFor, next_of, oldest_after, shape_of}
use Rattle.fl_ring.specs.Ring.{Shape, OutsideStands, oldest, place, sealed}
use Rattle.fl_ring.specs.Sealing.{Performed}
use Rattle.fl_ring.specs.Written.{done}
use Rattle.fl_ring.proofs.Written.{held-writes, page-as}
use Rattle.fl_index.proofs.SealAnswers.{seal-on}
use Rattle.fl_var.proofs.Ahead.{held-ahead}
use Rattle.fl_rlc.specs.Memory.{log_shape, next_in}
use Rattle.fl_rlc.specs.Pages.{log_body}
use Rattle.fl_rlc.proofs.SealsInTable.{seal-breaks, seal-finishes, seal-err, ready, pages-size, next-is}
use Rattle.fl_rlc.proofs.States.{state_of}
use Rattle.fl_ring.specs.Mounting.{shape_at}
use Rattle.fl_ring.specs.declared.ring.Ring.{Ring}
use Rattle.fl_rlc.proofs.Writers.{kept-finish}
use Rattle.fl_rlc.proofs.log.RecordLog.seal.Goals as goal

pub returns-in_err-seal-clause-ends : goal.returns-in_err-seal-clause-ends
returns-in_err-seal-clause-ends g c = λ first plan table rose device watched h.
    let v = c.args.self.now in
    let f = g.F.Flash.state c.args.flash.now in
    let after = g.F.Flash.state c.seal.new.flash in
    let ring = c.in-Some.ring in
    let body = c.body.result.now in
    let lies = c.requires.lies in
    let goes = c.in_err-seal.ensures.flash.goes in
    let ring_is : c.args.self.now.ring ≡ Some c.in-Some.ring = search rules in
    let sizes = pages-size v f (g.met.F.Flash.reaches c.args.flash.now) lies.geometry lies.within in
    let later = pages-size v after (g.met.F.Flash.reaches c.seal.new.flash) (goes.geometry ∙ lies.geometry) (omega (arith, goes.blocks, lies.within)) in
    let page : plan.geometry.page ≡ c.args.self.now.geometry.page = ap (λ k. k.page) h.stands.ring.planned.geometry in
    let room : length c.args.self.now.rows.body ≡ plan.geometry.page - 8 = omega (arith, v.body, page) in
    let number : c.next_number.result ≡ next_in c.args.self.now = c.next_number.ensures ∙ sym (next-is v ring ring_is) in
    let body_is : c.body.result.now ≡ log_body plan (next_in c.args.self.now) (pending_entries table) =
    c.body.ensures ∙ (c.finish.ensures.body (row_layout plan) (map stored_row (pending_entries table)) h.stands.rows
    ∙ (ap (λ n. rows_body n (row_layout plan) c.next_number.result 0 (map stored_row (pending_entries table))) room ∙ ap (λ n. log_body plan n (pending_entries table)) number)) in
    let is = ready v f after first plan table h body sizes later body_is c.requires.left ring ring_is in
    let s = state_of plan h.stands.ring.ring (log_pages table) in
    let done = c.in_err-seal.ensures.seals s rose device is watched in
    let p = err_from_is_err_and c.from_residual.result c.from_residual.ensures.1 in
    seal-err first plan table rose device v f _ after c.from_residual.result c.in_err-seal.field-0.0 (p.1 ∙ ap (λ (e : FlashFault). Err e) p.2)
    (seal-breaks v f after first plan table h body sizes later body_is c.requires.left rose device c.in_err-seal.field-0.0
    (subst (λ (x : Shape). Performed x (change x body) rose (seal_kinds x s body) device s (Err c.in_err-seal.field-0.0) after) (v.lies ring ring_is) done.performed))

pub returns-in_err-seal-clause-outside : goal.returns-in_err-seal-clause-outside
returns-in_err-seal-clause-outside g c = λ told.
    let ring_is : c.args.self.now.ring ≡ Some c.in-Some.ring = search rules in
    subst (λ (x : Shape). OutsideStands x (page_at (g.F.Flash.state c.args.flash.now)) (page_at (g.F.Flash.state c.seal.new.flash))) (c.args.self.now.lies c.in-Some.ring ring_is) (c.in_err-seal.ensures.flash.outside told)

pub returns-clause-outside : goal.returns-clause-outside
returns-clause-outside g c = λ told.
    let ring_is : c.args.self.now.ring ≡ Some c.in-Some.ring = search rules in
    subst (λ (x : Shape). OutsideStands x (page_at (g.F.Flash.state c.args.flash.now)) (page_at (g.F.Flash.state c.seal.new.flash))) (c.args.self.now.lies c.in-Some.ring ring_is) (c.in_ok-seal.ensures.flash.outside told)

pub returns-clause-ends : goal.returns-clause-ends
returns-clause-ends g c = λ first plan table rose device watched h.
    let v = c.args.self.now in
    let f = g.F.Flash.state c.args.flash.now in
    let after = g.F.Flash.state c.seal.new.flash in
    let ring = c.in-Some.ring in
    let body = c.body.result.now in
    let lies = c.requires.lies in
    let goes = c.in_ok-seal.ensures.flash.goes in
    let ring_is : c.args.self.now.ring ≡ Some c.in-Some.ring = search rules in
    let sizes = pages-size v f (g.met.F.Flash.reaches c.args.flash.now) lies.geometry lies.within in
    let later = pages-size v after (g.met.F.Flash.reaches c.seal.new.flash) (goes.geometry ∙ lies.geometry) (omega (arith, goes.blocks, lies.within)) in
    let page : plan.geometry.page ≡ c.args.self.now.geometry.page = ap (λ k. k.page) h.stands.ring.planned.geometry in
    let room : length c.args.self.now.rows.body ≡ plan.geometry.page - 8 = omega (arith, v.body, page) in
    let number : c.next_number.result ≡ next_in c.args.self.now = c.next_number.ensures ∙ sym (next-is v ring ring_is) in
    let body_is : c.body.result.now ≡ log_body plan (next_in c.args.self.now) (pending_entries table) =
    c.body.ensures ∙ (c.finish.ensures.body (row_layout plan) (map stored_row (pending_entries table)) h.stands.rows
    ∙ (ap (λ n. rows_body n (row_layout plan) c.next_number.result 0 (map stored_row (pending_entries table))) room ∙ ap (λ n. log_body plan n (pending_entries table)) number)) in
    let is = ready v f after first plan table h body sizes later body_is c.requires.left ring ring_is in
    let s = state_of plan h.stands.ring.ring (log_pages table) in
    let done = c.in_ok-seal.ensures.seals s rose device is watched in
    let both = subst (λ (x : Shape). (p : Performed x (change x body) rose (seal_kinds x s body) device s (Ok c.in_ok-seal.field-0) after) × StandsFor c.seal.new.self p.now.state) (v.lies ring ring_is) (done.performed, done.stands) in
    let stays = subst (λ (x : Shape). (n : ℕ) → oldest (sealed x s body) ≤ n → n < s.next → page_at after (place x n) ≡ page_at f (place x n)) (v.lies ring ring_is) (c.in_ok-seal.ensures.flash.keeps watched.told s is) in
    seal-finishes v f after first plan table h body sizes later body_is c.requires.left rose device c.in_ok-seal.field-0 _ c.seal.new.self both.0 both.1 refl (record { geometry = refl; place = refl }) refl
    (c.finish.ensures.rows (row_layout plan) (map stored_row (pending_entries table)) h.stands.rows) stays

pub invariant_of-self : goal.invariant_of-self
invariant_of-self g c =
    let v = c.args.self.now in
    let k = kept-finish v.rows c.finish.new.self c.next_number.result 0 c.finish.ensures.exact c.finish.ensures.size (record { begin = v.rows_begin; room = v.rows_room; rest = v.blank_rest }) in
    let gone : c.take.new.self ≡ None = search rules in
    record {
      served = v.served;
      some_blocks = v.some_blocks;
      body = omega (arith, c.finish.ensures.size, v.body);
      rows_begin = k.begin;
      rows_room = k.room;
      blank_rest = k.rest;
      lies = λ r is. absurd (none-some r (sym gone ∙ is));
    }

pub invariant_of-self-2 : goal.invariant_of-self-2
invariant_of-self-2 g c =
    let v = c.args.self.now in
    let k = kept-finish v.rows c.finish.new.self c.next_number.result 0 c.finish.ensures.exact c.finish.ensures.size (record { begin = v.rows_begin; room = v.rows_room; rest = v.blank_rest }) in
    let ring_is : c.args.self.now.ring ≡ Some c.in-Some.ring = search rules in
    record {
      served = v.served;
      some_blocks = v.some_blocks;
      body = omega (arith, c.finish.ensures.size, v.body);
      rows_begin = k.begin;
      rows_room = k.room;
      blank_rest = k.rest;
      lies = λ r is. subst (λ (x : Ring). shape_of x ≡ shape_at v.place v.geometry) (same_Some _ _ is) (c.in_ok-seal.ensures.memory.same ∙ v.lies c.in-Some.ring ring_is);
    }

pub returns-clause-power : goal.returns-clause-power
returns-clause-power g c = seal-on _ _ _ _ _ _ _ c.in_ok-seal.ensures.flash.calls

pub returns-clause-next : goal.returns-clause-next
returns-clause-next g c =
    let ring_is : c.args.self.now.ring ≡ Some c.in-Some.ring = search rules in
    c.in_ok-seal.ensures.memory.next ∙ ap (λ n. n + 1) (sym (next-is c.args.self.now c.in-Some.ring ring_is))

pub returns-clause-ahead : goal.returns-clause-ahead
returns-clause-ahead g c = λ told.
    let ring_is : c.args.self.now.ring ≡ Some c.in-Some.ring = search rules in
    held-ahead c.in-Some.ring c.body.result.now (g.F.Flash.state c.args.flash.now) (g.F.Flash.state c.seal.new.flash) (c.requires.lies.ring c.in-Some.ring ring_is) told c.args.self.now.ring ring_is c.in_ok-seal.field-0 c.in_ok-seal.ensures.flash.calls

pub returns-in_err-seal-clause-ahead : goal.returns-in_err-seal-clause-ahead
returns-in_err-seal-clause-ahead g c = let p = err_from_is_err_and c.from_residual.result c.from_residual.ensures.1 in rw p.1 tt

pub returns-clause-oldest : goal.returns-clause-oldest
returns-clause-oldest g c =
    let ring_is : c.args.self.now.ring ≡ Some c.in-Some.ring = search rules in
    c.in_ok-seal.ensures.memory.kept_from ∙ sym (ap (λ (o : Option Ring). unwrap_or (option_map (λ r. oldest_after r) o) 0) ring_is)

pub returns-in_err-seal-clause-writes : goal.returns-in_err-seal-clause-writes
returns-in_err-seal-clause-writes g c =
    let v = c.args.self.now in
    let ring_is : c.args.self.now.ring ≡ Some c.in-Some.ring = search rules in
    let p = err_from_is_err_and c.from_residual.result c.from_residual.ensures.1 in
    let none : done c.from_residual.result ≡ 0 = ap (λ (x : Result (Unit {0}) FlashFault). done x) p.1 in
    held-writes v.ring c.in-Some.ring 0 (done c.from_residual.result) _ _ ring_is (omega (arith, none)) c.in_err-seal.ensures.flash.writes

pub returns-clause-writes : goal.returns-clause-writes
returns-clause-writes g c =
    let v = c.args.self.now in
    let ring_is : c.args.self.now.ring ≡ Some c.in-Some.ring = search rules in
    held-writes v.ring c.in-Some.ring 1 1 _ _ ring_is (omega arith) c.in_ok-seal.ensures.flash.writes

pub returns-in_err-seal-clause-page : goal.returns-in_err-seal-clause-page
returns-in_err-seal-clause-page g c = let p = err_from_is_err_and c.from_residual.result c.from_residual.ensures.1 in rw p.1 tt

pub returns-clause-page : goal.returns-clause-page
returns-clause-page g c = λ told layout rows gathers.
    let v = c.args.self.now in
    let ring = c.in-Some.ring in
    let ring_is : c.args.self.now.ring ≡ Some c.in-Some.ring = search rules in
    let number : c.next_number.result ≡ next_in c.args.self.now = c.next_number.ensures ∙ sym (next-is v ring ring_is) in
    let body : c.body.result.now ≡ rows_body (length v.rows.body) layout (next_in v) 0 rows = c.body.ensures ∙ (c.finish.ensures.body layout rows gathers ∙ ap (λ n. rows_body (length v.rows.body) layout n 0 rows) number) in
    page-as (shape_of ring) (log_shape v) (next_of ring) (next_in v) c.body.result.now (rows_body (length v.rows.body) layout (next_in v) 0 rows) (page_at (g.F.Flash.state c.args.flash.now)) (page_at (g.F.Flash.state c.seal.new.flash))
    (v.lies ring ring_is) (sym (next-is v ring ring_is)) body (c.in_ok-seal.ensures.flash.page told)
