use Rattle.std.proofs.Common.{refl, ◌≡◌, ◌+◌, ℕ, Bor, List, Option, Some, None, Result, Ok, Err, length, option_map, not, ◌&&◌, ◌||◌, arith, sym, ◌∙◌, ap, subst}
use Rattle.std.proofs.lemmas.Result.{err_from_is_err_and}
use Rattle.std.proofs.lemmas.Option.{none-some}
use Rattle.std.proofs.Math.Bool.{and-false, and-true}
use Rattle.fl_model.specs.Table.{after_seals, make_room_seals}
use Rattle.fl_table.specs.Refusal.{put_refusal, RefusesAs}
use Rattle.fl_table.specs.Memory.{is_running, is_stopped, pending_in}
use Rattle.fl_table.specs.declared.table.Table.{Table}
use Rattle.fl_table.proofs.Refusals.{fits-row, told-running, calm-cause, few-blob, not-spent, refusal-calm, calm-same}
use Rattle.fl_frame.proofs.WatchedInTurn.{watched-first, watched-then}
use Rattle.fl_table.proofs.PutAnswers.{accepts, broken-ends, join-fails, map-twice, put-ends, refused-ends}
use Rattle.fl_flash.specs.declared.flash.FlashFault.{FlashFault}
use Rattle.fl_flash.specs.declared.flash.FlashFault.TheVariants.{PowerLost}
use Rattle.fl_table.specs.declared.faults.PutRefusal.{PutRefusal}
use Rattle.fl_table.specs.declared.faults.PutRefusal.TheVariants as put
use Rattle.fl_table.proofs.PowerOff.{put-off}
use Rattle.fl_model.specs.Record.{RowLayout}
use Rattle.fl_model.specs.Row.{FitsRow}
use Rattle.fl_schema.specs.Schema.{layout_of}
use Rattle.fl_table.proofs.SealAnswers.{same-then, plan-self}
use Rattle.fl_parts.proofs.Sizes.{table-fits}
use Rattle.fl_parts.specs.Blobs.{most_pages, pages_for}
use Rattle.fl_parts.proofs.Untouched.{on-err, no-success}
use Rattle.fl_table.specs.Memory.{MayPut}
use Rattle.fl_table.specs.Stored.{HasJoined}
use Rattle.fl_table.specs.Mounting.{rings_in, OutsideStands}
use Rattle.fl_table.proofs.Paged.{page-made}
use Rattle.fl_table.proofs.Writing.{join-changes, room-changes}
use Rattle.fl_table.proofs.Sealing.{changes-done, changes-failed, changes-none}
use Rattle.fl_frame.specs.Causes.{CausedBy}
use Rattle.fl_table.specs.Causes.{PutCausedBy}
use Rattle.fl_table.proofs.table.Table.put.Goals as goal

not-done : (fault : FlashFault) (u : Unit {0}) → ◌≡◌ {A = Result (Unit {0}) FlashFault} (Err fault) (Ok u) → ⊥
not-done fault u e = cc

-- ---- a refusal

pub returns-in-Some-clause-put : goal.returns-in-Some-clause-put
returns-in-Some-clause-put g c = λ first plan table rose device watched stands.
    let t = c.args.self.now in
    let f = g.F.Flash.state c.args.flash.now in
    let bytes = option_map (λ (b : Bor (List ℕ)). b.now) c.args.blob in
    let same = map-twice (λ (b : Bor (List ℕ)). b.now) (λ (xs : List ℕ). length xs) c.args.blob in
    refused-ends t f first plan table c.args.key c.args.values.now bytes rose device stands c.in-Some.refusal
    (ap (put_refusal t c.args.key c.args.values.now) same ∙ (sym c.refusal.ensures ∙ c.in-Some.is)) t f

pub returns-in-Some-clause-exact : goal.returns-in-Some-clause-exact
returns-in-Some-clause-exact g c = subst (λ (r : Option PutRefusal). RefusesAs r (Err c.in-Some.refusal)) (sym (sym c.refusal.ensures ∙ c.in-Some.is)) refl

pub returns-in-Some-clause-table : goal.returns-in-Some-clause-table
returns-in-Some-clause-table g c = record {
  same = plan-self c.args.self.now;
  lies = c.requires.lies;
  stopped =
      let t = c.args.self.now in
      ap (λ b. b || is_stopped t) (sym (refusal-calm t c.args.key c.args.values.now _ c.in-Some.refusal (sym c.refusal.ensures ∙ c.in-Some.is)));
  running =
      let t = c.args.self.now in
      sym (and-true (is_running t)) ∙ ap (λ b. is_running t && not b) (sym (refusal-calm t c.args.key c.args.values.now _ c.in-Some.refusal (sym c.refusal.ensures ∙ c.in-Some.is)));
}

pub returns-in-Some-clause-memory : goal.returns-in-Some-clause-memory
returns-in-Some-clause-memory g c = record {
  refused = calm-same c.args.self.now (g.F.Flash.state c.args.flash.now) c.in-Some.refusal (refusal-calm c.args.self.now c.args.key c.args.values.now _ c.in-Some.refusal (sym c.refusal.ensures ∙ c.in-Some.is));
  last_stays = refl;
  pending_stays = λ room. refl;
  last = tt;
  stores = tt;
}

pub returns-in-Some-clause-page : goal.returns-in-Some-clause-page
returns-in-Some-clause-page g c = record {
  quiet = λ none. absurd (none-some c.in-Some.refusal (sym none ∙ (sym c.refusal.ensures ∙ c.in-Some.is)));
  off = λ none. absurd (no (sym none ∙ (sym c.refusal.ensures ∙ c.in-Some.is)));
  sealed = tt;
}
  where
    no : ◌≡◌ {A = Option PutRefusal} None (Some c.in-Some.refusal) → ⊥
    no e = cc

pub returns-in-Some-clause-flash : goal.returns-in-Some-clause-flash
returns-in-Some-clause-flash g c =
    let t = c.args.self.now in
    let bytes = option_map (λ (b : Bor (List ℕ)). b.now) c.args.blob in
    let most = rings_in t + most_pages t.blobs bytes in
    changes-none t (MayPut t bytes) most PutCausedBy (g.F.Flash.state c.args.flash.now) (Err c.in-Some.refusal)
    (calm-cause (g.F.Flash.state c.args.flash.now) c.in-Some.refusal (refusal-calm t c.args.key c.args.values.now _ c.in-Some.refusal (sym c.refusal.ensures ∙ c.in-Some.is)))

-- ---- the page of pending rows could not be sealed

pub returns-in_err-make_room-clause-put : goal.returns-in_err-make_room-clause-put
returns-in_err-make_room-clause-put g c = λ first plan table rose device watched stands.
    let t = c.args.self.now in
    let f = g.F.Flash.state c.args.flash.now in
    let bytes = option_map (λ (b : Bor (List ℕ)). b.now) c.args.blob in
    let same = map-twice (λ (b : Bor (List ℕ)). b.now) (λ (xs : List ℕ). length xs) c.args.blob in
    let p = err_from_is_err_and c.from_residual.result c.from_residual.ensures.1 in
    rw (p.1, p.2) (broken-ends t f first plan table c.args.key c.args.values.now bytes rose device stands
    (ap (put_refusal t c.args.key c.args.values.now) same ∙ (sym c.refusal.ensures ∙ c.in_default.is)) c.in_err-make_room.field-0.0 c.make_room.new.self (g.F.Flash.state c.make_room.new.flash)
    (c.in_err-make_room.ensures.ends first plan table rose device watched stands))

pub returns-in_err-make_room-clause-exact : goal.returns-in_err-make_room-clause-exact
returns-in_err-make_room-clause-exact g c =
    let p = err_from_is_err_and c.from_residual.result c.from_residual.ensures.1 in
    rw (p.1, p.2) (subst (λ (r : Option PutRefusal). RefusesAs r (Err (put.Flash c.in_err-make_room.field-0.0))) (sym (sym c.refusal.ensures ∙ c.in_default.is)) tt)

pub returns-in_err-make_room-clause-table : goal.returns-in_err-make_room-clause-table
returns-in_err-make_room-clause-table g c = record {
  same = c.in_err-make_room.ensures.same;
  lies = c.in_err-make_room.ensures.lies;
  stopped =
      let p = err_from_is_err_and c.from_residual.result c.from_residual.ensures.1 in
      rw (p.1, p.2) c.in_err-make_room.ensures.stopped.1;
  running =
      let p = err_from_is_err_and c.from_residual.result c.from_residual.ensures.1 in
      rw (p.1, p.2) (c.in_err-make_room.ensures.stopped.0 ∙ sym (and-false (is_running c.args.self.now)));
}

pub returns-in_err-make_room-clause-memory : goal.returns-in_err-make_room-clause-memory
returns-in_err-make_room-clause-memory g c = record {
  refused =
      let p = err_from_is_err_and c.from_residual.result c.from_residual.ensures.1 in
      rw (p.1, p.2) tt;
  last_stays = on-err c.from_residual.result c.in_err-make_room.ensures.last;
  pending_stays = on-err c.from_residual.result (λ room. c.in_err-make_room.ensures.pending_stays);
  last = no-success _ _ c.from_residual.result c.from_residual.ensures.1;
  stores = no-success _ _ c.from_residual.result c.from_residual.ensures.1;
}

pub returns-in_err-make_room-clause-page : goal.returns-in_err-make_room-clause-page
returns-in_err-make_room-clause-page g c = record {
  quiet = λ none room few. absurd (not-done c.in_err-make_room.field-0.0 tt (c.in_err-make_room.ensures.quiet room).0);
  off = λ none busy down.
      let t = c.args.self.now in
      let p = err_from_is_err_and c.from_residual.result c.from_residual.ensures.1 in
      let h = c.in_err-make_room.ensures.off (λ room. no (c.in_err-make_room.ensures.quiet room).0) down in
      rw (p.1, p.2) (ap (λ (e : FlashFault). Err (put.Flash e)) (same h.0), h.1);
  sealed = no-success _ _ c.from_residual.result c.from_residual.ensures.1;
}
  where
    no : ◌≡◌ {A = Result (Unit {0}) FlashFault} (Err c.in_err-make_room.field-0.0) (Ok tt) → ⊥
    no e = cc

    same : ◌≡◌ {A = Result (Unit {0}) FlashFault} (Err c.in_err-make_room.field-0.0) (Err PowerLost) → c.in_err-make_room.field-0.0 ≡ PowerLost
    same e = cc

pub returns-in_err-make_room-clause-flash : goal.returns-in_err-make_room-clause-flash
returns-in_err-make_room-clause-flash g c =
    let t = c.args.self.now in
    let bytes = option_map (λ (b : Bor (List ℕ)). b.now) c.args.blob in
    let most = rings_in t + most_pages t.blobs bytes in
    let fault = c.in_err-make_room.field-0.0 in
    let p = err_from_is_err_and c.from_residual.result c.from_residual.ensures.1 in
    rw (p.1, p.2) (changes-failed (MayPut t bytes) (OutsideStands t) most CausedBy PutCausedBy (g.F.Flash.state c.args.flash.now) (g.F.Flash.state c.make_room.new.flash) fault (put.Flash fault) (λ caused. caused)
    (room-changes t bytes (g.F.Flash.state c.args.flash.now) fault (g.F.Flash.state c.make_room.new.flash) (λ room. (c.in_err-make_room.ensures.quiet room).2) c.in_err-make_room.ensures.flash))

-- ---- its blob could not be placed

pub returns-in_err-join-clause-put : goal.returns-in_err-join-clause-put
returns-in_err-join-clause-put g c = λ first plan table rose device watched stands.
    let t = c.args.self.now in
    let f = g.F.Flash.state c.args.flash.now in
    let mid = g.F.Flash.state c.make_room.new.flash in
    let new = g.F.Flash.state c.join.new.flash in
    let bytes = option_map (λ (b : Bor (List ℕ)). b.now) c.args.blob in
    let same = map-twice (λ (b : Bor (List ℕ)). b.now) (λ (xs : List ℕ). length xs) c.args.blob in
    let none : put_refusal t c.args.key c.args.values.now (option_map (λ (xs : List ℕ). length xs) (option_map (λ (b : Bor (List ℕ)). b.now) c.args.blob)) ≡ None =
    ap (put_refusal t c.args.key c.args.values.now) same ∙ (sym c.refusal.ensures ∙ c.in_default.is) in
    let h = c.in_ok-make_room.ensures.ends first plan table rose device (watched-first f mid new rose device watched c.join.ensures.flash.goes) stands in
    let ok = accepts t f first plan table c.args.key c.args.values.now bytes rose device stands none c.make_room.new.self mid h c.in_ok-make_room.ensures.room in
    let k = c.in_err-join.ensures.ends first plan (after_seals plan (make_room_seals plan table) table) rose h.now.device (watched-then f mid new rose device h.now.device watched c.in_ok-make_room.ensures.flash.goes h.power h.counts) h.stands ok in
    let p = err_from_is_err_and c.from_residual-in_err-join.result c.from_residual-in_err-join.ensures.1 in
    rw (p.1, p.2) (join-fails t f first plan table c.args.key c.args.values.now bytes rose device stands none c.make_room.new.self mid h c.in_err-join.field-0.0 c.join.new.self new k)

pub returns-in_err-join-clause-exact : goal.returns-in_err-join-clause-exact
returns-in_err-join-clause-exact g c =
    let p = err_from_is_err_and c.from_residual-in_err-join.result c.from_residual-in_err-join.ensures.1 in
    rw (p.1, p.2) (subst (λ (r : Option PutRefusal). RefusesAs r (Err (put.Flash c.in_err-join.field-0.0))) (sym (sym c.refusal.ensures ∙ c.in_default.is)) tt)

pub returns-in_err-join-clause-table : goal.returns-in_err-join-clause-table
returns-in_err-join-clause-table g c = record {
  same = same-then c.args.self.now c.make_room.new.self c.join.new.self c.in_ok-make_room.ensures.same c.in_err-join.ensures.same;
  lies = c.in_err-join.ensures.lies;
  stopped =
      let p = err_from_is_err_and c.from_residual-in_err-join.result c.from_residual-in_err-join.ensures.1 in
      rw (p.1, p.2) c.in_err-join.ensures.stopped.1;
  running =
      let p = err_from_is_err_and c.from_residual-in_err-join.result c.from_residual-in_err-join.ensures.1 in
      rw (p.1, p.2) (c.in_err-join.ensures.stopped.0 ∙ sym (and-false (is_running c.args.self.now)));
}

pub returns-in_err-join-clause-memory : goal.returns-in_err-join-clause-memory
returns-in_err-join-clause-memory g c = record {
  refused =
      let p = err_from_is_err_and c.from_residual-in_err-join.result c.from_residual-in_err-join.ensures.1 in
      rw (p.1, p.2) tt;
  last_stays = on-err c.from_residual-in_err-join.result (c.in_err-join.ensures.last_stays ∙ c.in_ok-make_room.ensures.last);
  pending_stays =
      on-err c.from_residual-in_err-join.result (λ room. c.in_err-join.ensures.pending_stays ∙ ap (λ (t : Table g.row.KNOTS g.row.SLOTS). pending_in t) (c.in_ok-make_room.ensures.quiet room).1);
  last = no-success _ _ c.from_residual-in_err-join.result c.from_residual-in_err-join.ensures.1;
  stores = no-success _ _ c.from_residual-in_err-join.result c.from_residual-in_err-join.ensures.1;
}

pub returns-in_err-join-clause-page : goal.returns-in_err-join-clause-page
returns-in_err-join-clause-page g c = record {
  quiet = λ none room few. absurd (not-done c.in_err-join.field-0.0 tt (c.in_err-join.ensures.quiet (subst (λ (t : Table g.row.KNOTS g.row.SLOTS). pages_for t.blobs (option_map (λ (b : Bor (List ℕ)). b.now) c.args.blob) ≡ 0) (sym (c.in_ok-make_room.ensures.quiet room).1) few)).0);
  off = λ none busy down.
      let p = err_from_is_err_and c.from_residual-in_err-join.result c.from_residual-in_err-join.ensures.1 in
      let h = put-off c.args.self.now c.make_room.new.self (g.F.Flash.state c.args.flash.now) (g.F.Flash.state c.make_room.new.flash) (g.F.Flash.state c.join.new.flash) (option_map (λ (b : Bor (List ℕ)). b.now) c.args.blob)
      c.in_ok-make_room.field-0 (Err c.in_err-join.field-0.0) c.in_ok-make_room.ensures.off c.in_ok-make_room.ensures.quiet c.in_err-join.ensures.off busy down in
      rw (p.1, p.2) (ap (λ (e : FlashFault). Err (put.Flash e)) (same h.0), h.1);
  sealed = no-success _ _ c.from_residual-in_err-join.result c.from_residual-in_err-join.ensures.1;
}
  where
    same : ◌≡◌ {A = Result (Unit {0}) FlashFault} (Err c.in_err-join.field-0.0) (Err PowerLost) → c.in_err-join.field-0.0 ≡ PowerLost
    same e = cc

pub returns-in_err-join-clause-flash : goal.returns-in_err-join-clause-flash
returns-in_err-join-clause-flash g c =
    let t = c.args.self.now in
    let bytes = option_map (λ (b : Bor (List ℕ)). b.now) c.args.blob in
    let most = rings_in t + most_pages t.blobs bytes in
    let fault = c.in_err-join.field-0.0 in
    let p = err_from_is_err_and c.from_residual-in_err-join.result c.from_residual-in_err-join.ensures.1 in
    rw (p.1, p.2) (changes-failed (MayPut t bytes) (OutsideStands t) most CausedBy PutCausedBy (g.F.Flash.state c.args.flash.now) (g.F.Flash.state c.join.new.flash) fault (put.Flash fault) (λ caused. caused)
    (join-changes t c.make_room.new.self bytes (g.F.Flash.state c.args.flash.now) (g.F.Flash.state c.make_room.new.flash) (Err fault) (g.F.Flash.state c.join.new.flash) c.in_ok-make_room.ensures.same (λ room. (c.in_ok-make_room.ensures.quiet room).2) c.in_ok-make_room.ensures.flash c.in_err-join.ensures.flash))

-- ---- it is done

pub returns-clause-put : goal.returns-clause-put
returns-clause-put g c = λ first plan table rose device watched stands.
    let t = c.args.self.now in
    let f = g.F.Flash.state c.args.flash.now in
    let mid = g.F.Flash.state c.make_room.new.flash in
    let new = g.F.Flash.state c.join.new.flash in
    let bytes = option_map (λ (b : Bor (List ℕ)). b.now) c.args.blob in
    let same = map-twice (λ (b : Bor (List ℕ)). b.now) (λ (xs : List ℕ). length xs) c.args.blob in
    let none : put_refusal t c.args.key c.args.values.now (option_map (λ (xs : List ℕ). length xs) (option_map (λ (b : Bor (List ℕ)). b.now) c.args.blob)) ≡ None =
    ap (put_refusal t c.args.key c.args.values.now) same ∙ (sym c.refusal.ensures ∙ c.in_default.is) in
    let h = c.in_ok-make_room.ensures.ends first plan table rose device (watched-first f mid new rose device watched c.join.ensures.flash.goes) stands in
    let ok = accepts t f first plan table c.args.key c.args.values.now bytes rose device stands none c.make_room.new.self mid h c.in_ok-make_room.ensures.room in
    put-ends t f first plan table c.args.key c.args.values.now bytes rose device stands none c.make_room.new.self mid h c.join.new.self new
    (c.in_ok-join.ensures.ends first plan (after_seals plan (make_room_seals plan table) table) rose h.now.device (watched-then f mid new rose device h.now.device watched c.in_ok-make_room.ensures.flash.goes h.power h.counts) h.stands ok)

pub returns-clause-exact : goal.returns-clause-exact
returns-clause-exact g c = subst (λ (r : Option PutRefusal). RefusesAs r (Ok tt)) (sym (sym c.refusal.ensures ∙ c.in_default.is)) tt

pub returns-clause-table : goal.returns-clause-table
returns-clause-table g c = record {
  same = same-then c.args.self.now c.make_room.new.self c.join.new.self c.in_ok-make_room.ensures.same c.in_ok-join.ensures.same;
  lies = c.in_ok-join.ensures.lies;
  stopped = c.in_ok-join.ensures.calm ∙ c.in_ok-make_room.ensures.calm;
  running =
      let t = c.args.self.now in
      let none : put_refusal t c.args.key c.args.values.now (option_map (λ (b : Bor (List ℕ)). length b.now) c.args.blob) ≡ None = sym c.refusal.ensures ∙ c.in_default.is in
      c.in_ok-join.ensures.running ∙ sym (and-true (is_running t) ∙ told-running t c.args.key c.args.values.now _ none);
}

pub returns-clause-memory : goal.returns-clause-memory
returns-clause-memory g c = record {
  refused = tt;
  last_stays = tt;
  pending_stays = tt;
  last = c.in_ok-join.ensures.joined.last;
  stores =
      let bytes = option_map (λ (b : Bor (List ℕ)). b.now) c.args.blob in
      record {
        room = λ room. subst (λ (x : Table g.row.KNOTS g.row.SLOTS). HasJoined x c.args.key c.args.values.now bytes c.join.new.self) (c.in_ok-make_room.ensures.quiet room).1 c.in_ok-join.ensures.joined;
        full = λ full. (c.make_room.new.self, (c.in_ok-make_room.ensures.full full, c.in_ok-join.ensures.joined));
      };
}

pub returns-clause-page : goal.returns-clause-page
returns-clause-page g c = record {
  quiet = λ none room few. (refl, (c.in_ok-join.ensures.quiet (subst (λ (t : Table g.row.KNOTS g.row.SLOTS). pages_for t.blobs (option_map (λ (b : Bor (List ℕ)). b.now) c.args.blob) ≡ 0) (sym (c.in_ok-make_room.ensures.quiet room).1) few)).1 ∙ (c.in_ok-make_room.ensures.quiet room).2);
  off = λ none busy down.
      absurd (no (put-off c.args.self.now c.make_room.new.self (g.F.Flash.state c.args.flash.now) (g.F.Flash.state c.make_room.new.flash) (g.F.Flash.state c.join.new.flash) (option_map (λ (b : Bor (List ℕ)). b.now) c.args.blob)
      c.in_ok-make_room.field-0 (Ok c.in_ok-join.field-0) c.in_ok-make_room.ensures.off c.in_ok-make_room.ensures.quiet c.in_ok-join.ensures.off busy down).0);
  sealed = λ full.
      page-made c.args.self.now c.make_room.new.self (option_map (λ (b : Bor (List ℕ)). b.now) c.args.blob) (g.F.Flash.state c.args.flash.now) (g.F.Flash.state c.make_room.new.flash) (g.F.Flash.state c.join.new.flash)
      c.in_ok-make_room.ensures.flash.goes.tells c.in_ok-make_room.ensures.same.blobs full (c.in_ok-make_room.ensures.sealed full) c.in_ok-join.ensures.flash.writes;
}
  where
    no : ◌≡◌ {A = Result (Unit {0}) FlashFault} (Ok c.in_ok-join.field-0) (Err PowerLost) → ⊥
    no e = cc

pub returns-clause-flash : goal.returns-clause-flash
returns-clause-flash g c =
    let t = c.args.self.now in
    let bytes = option_map (λ (b : Bor (List ℕ)). b.now) c.args.blob in
    let most = rings_in t + most_pages t.blobs bytes in
    changes-done (MayPut t bytes) (OutsideStands t) most CausedBy PutCausedBy (g.F.Flash.state c.args.flash.now) (g.F.Flash.state c.join.new.flash)
    (join-changes t c.make_room.new.self bytes (g.F.Flash.state c.args.flash.now) (g.F.Flash.state c.make_room.new.flash) (Ok tt) (g.F.Flash.state c.join.new.flash) c.in_ok-make_room.ensures.same (λ room. (c.in_ok-make_room.ensures.quiet room).2) c.in_ok-make_room.ensures.flash c.in_ok-join.ensures.flash)

pub join-requires : goal.join-requires
join-requires g c =
    let t = c.args.self.now in
    let layout = layout_of t.schema in
    let none : put_refusal t c.args.key c.args.values.now (option_map (λ (b : Bor (List ℕ)). length b.now) c.args.blob) ≡ None = sym c.refusal.ensures ∙ c.in_default.is in
    let left = not-spent t c.args.key c.args.values.now _ none in (
      table-fits g.row.KNOTS g.row.SLOTS c.args.self.now.few_knots c.args.self.now.few_slots,
      (
        c.in_ok-make_room.ensures.running,
        (
          subst (λ (l : RowLayout). FitsRow l (record { key = c.args.key; values = c.args.values.now; blob = None })) (sym c.in_ok-make_room.ensures.same.layout) (fits-row t c.args.key c.args.values.now _ none),
          (
            few-blob t c.args.key c.args.values.now (option_map (λ (b : Bor (List ℕ)). b.now) c.args.blob)
                (ap (put_refusal t c.args.key c.args.values.now) (map-twice (λ (b : Bor (List ℕ)). b.now) (λ (xs : List ℕ). length xs) c.args.blob) ∙ none),
            (c.in_ok-make_room.ensures.room, (omega (arith, left.0, c.in_ok-make_room.ensures.next), (omega (arith, left.1, c.in_ok-make_room.ensures.index_next), (omega (arith, left.2, c.in_ok-make_room.ensures.blob_next), c.in_ok-make_room.ensures.lies)))),
          ),
        ),
      ),
    )

pub refusal-requires : goal.refusal-requires
refusal-requires g c = table-fits g.row.KNOTS g.row.SLOTS c.args.self.now.few_knots c.args.self.now.few_slots

pub make_room-requires : goal.make_room-requires
make_room-requires g c =
    let t = c.args.self.now in
    let none : put_refusal t c.args.key c.args.values.now (option_map (λ (b : Bor (List ℕ)). length b.now) c.args.blob) ≡ None = sym c.refusal.ensures ∙ c.in_default.is in
    (table-fits g.row.KNOTS g.row.SLOTS c.args.self.now.few_knots c.args.self.now.few_slots, (told-running t c.args.key c.args.values.now _ none, c.requires.lies))
