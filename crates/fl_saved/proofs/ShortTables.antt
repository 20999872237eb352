-- What changes a table brings no blob in that is longer than a limit.
use Rattle.std.proofs.Common.{◌≡◌, ℕ, ◌-◌, ◌≤◌, Bool, true, false, cond, Option, Some, None, option_map, unwrap_or, List, [], ◌∷◌, ◌++◌, length, refl, sym, subst, arith}
use Rattle.std.specs.List.{sum}
use Rattle.fl_model.specs.Entry.{blob_len}
use Rattle.fl_model.specs.Record.{Record, Plan}
use Rattle.fl_model.specs.Ring.{given_up, sealed}
use Rattle.fl_model.specs.Table.{Table, Entry, RingName, DataRing, IndexRing, VarRing, LogRing, shape_of, refusal_of, put_joined, put_record, join_seals, make_room_seals, seal_buffer, after_seal, after_seals, has_rows, is_after, is_rows_spent, lose, owed, pending_entries, written, with_room}
use Rattle.fl_model.specs.Work.{Kind, Body, Mark, VoidMark, Erase, effect}
use Rattle.fl_model.specs.Mount.{Turn, Of, Replay, turned, ready}
use Rattle.fl_model.proofs.Lists.{each-drop, each-push, each-take, each-append, each-filter}
use Rattle.fl_model.proofs.Accepted.{accepted}
use Rattle.fl_saved.specs.ShortBlobs.{AreShort, HasShortBlobs}

abbrev pub Keeps : ℕ → Table → Table → Type 0
Keeps limit x y = HasShortBlobs limit x → HasShortBlobs limit y

-- ---- one table

module _ (limit : ℕ) where
  abbrev Short : Entry → Type 0
  Short entry = blob_len entry.kept ≤ limit

  if-kept : (b : Bool) (entries : List Entry) → AreShort limit entries → AreShort limit (cond b entries [])
  if-kept true entries h = h
  if-kept false entries h = tt

  buffer-keeps : (plan : Plan) (ring : RingName) (t : Table) → Keeps limit t (seal_buffer plan ring t)
  buffer-keeps plan DataRing t h = record { records = each-drop Short (sum (given_up (shape_of plan DataRing) t.pending t.rows)) t.entries h.records; logged = h.logged }
  buffer-keeps plan IndexRing t h = record { records = h.records; logged = h.logged }
  buffer-keeps plan VarRing t h = record { records = h.records; logged = h.logged }
  buffer-keeps plan LogRing t h = record {
    records = h.records;
    logged = if-kept (has_rows (option_map (sealed (shape_of plan LogRing) t.pending) t.log)) (pending_entries t) (each-drop Short (length t.entries - t.pending) t.entries h.records);
  }

  pub keeps-effect : (plan : Plan) (ring : RingName) (kind : Kind) (t : Table) → Keeps limit t (effect plan ring kind t)
  keeps-effect plan ring Mark t h = buffer-keeps plan ring t h
  keeps-effect plan DataRing Body t h = record { records = h.records; logged = h.logged }
  keeps-effect plan DataRing VoidMark t h = record { records = each-drop Short (sum (given_up (shape_of plan DataRing) 0 t.rows)) t.entries h.records; logged = h.logged }
  keeps-effect plan DataRing Erase t h = record { records = h.records; logged = h.logged }
  keeps-effect plan IndexRing Body t h = record { records = h.records; logged = h.logged }
  keeps-effect plan IndexRing VoidMark t h = record { records = h.records; logged = h.logged }
  keeps-effect plan IndexRing Erase t h = record { records = h.records; logged = h.logged }
  keeps-effect plan VarRing Body t h = record { records = h.records; logged = h.logged }
  keeps-effect plan VarRing VoidMark t h = record { records = h.records; logged = h.logged }
  keeps-effect plan VarRing Erase t h = record { records = h.records; logged = h.logged }
  keeps-effect plan LogRing Body t h = record { records = h.records; logged = h.logged }
  keeps-effect plan LogRing VoidMark t h = record { records = h.records; logged = if-kept (has_rows (option_map (sealed (shape_of plan LogRing) 0) t.log)) t.logged h.logged }
  keeps-effect plan LogRing Erase t h = record { records = h.records; logged = h.logged }

  seal-keeps : (plan : Plan) (ring : RingName) (t : Table) → Keeps limit t (after_seal plan ring t)
  seal-keeps plan DataRing t h = let k = buffer-keeps plan DataRing t h in record { records = k.records; logged = k.logged }
  seal-keeps plan IndexRing t h = let k = buffer-keeps plan IndexRing t h in record { records = k.records; logged = k.logged }
  seal-keeps plan VarRing t h = let k = buffer-keeps plan VarRing t h in record { records = k.records; logged = k.logged }
  seal-keeps plan LogRing t h = let k = buffer-keeps plan LogRing t h in record { records = k.records; logged = k.logged }

  pub keeps-seals : (plan : Plan) (rings : List RingName) (t : Table) → Keeps limit t (after_seals plan rings t)
  keeps-seals plan [] t h = h
  keeps-seals plan (ring ∷ rings) t h = keeps-seals plan rings (after_seal plan ring t) (seal-keeps plan ring t h)

  pub keeps-put : (plan : Plan) (item : Record) (t : Table) → blob_len item ≤ limit → Keeps limit t (put_joined plan item t)
  keeps-put plan item t short h =
      let k = keeps-seals plan (make_room_seals plan t) t h in
      record { records = each-push Short (with_room plan t).entries _ k.records short; logged = k.logged }

  pub keeps-record : (plan : Plan) (item : Record) (t : Table) → blob_len item ≤ limit → Keeps limit t (put_record plan item t)
  keeps-record plan item t short h = keeps-seals plan (join_seals plan (put_joined plan item t)) (put_joined plan item t) (keeps-put plan item t short h)

  pub keeps-turned : (plan : Plan) (turn : Turn) (t : Table) → Keeps limit t (turned plan turn t)
  keeps-turned plan (Of DataRing) t h = record { records = h.records; logged = h.logged }
  keeps-turned plan (Of IndexRing) t h = record { records = h.records; logged = h.logged }
  keeps-turned plan (Of VarRing) t h = record { records = h.records; logged = h.logged }
  keeps-turned plan (Of LogRing) t h = record { records = h.records; logged = h.logged }
  keeps-turned plan Replay t h = by_spent (is_rows_spent (ready plan t))
    where
      by_spent : (s : Bool) → HasShortBlobs limit (cond s (ready plan t) (record (ready plan t) { entries = (ready plan t).entries ++ owed (ready plan t); pending = length (owed (ready plan t)) }))
      by_spent true = record { records = h.records; logged = h.logged }
      by_spent false = record { records = each-append Short t.entries (owed (ready plan t)) h.records (each-filter Short (λ entry. is_after (written (ready plan t)) entry) t.logged h.logged); logged = h.logged }

  pub keeps-lose : (t : Table) → Keeps limit t (lose t)
  keeps-lose t h = record { records = each-take Short (length t.entries - t.pending) t.entries h.records; logged = h.logged }

  pub keeps-trans : (x y z : Table) → Keeps limit x y → Keeps limit y z → Keeps limit x z
  keeps-trans x y z h k g = k (h g)

-- a record that isn't refused has no longer blob
pub item-short : (plan : Plan) (table : Table) (item : Record) → refusal_of plan table item ≡ None → blob_len item ≤ plan.blob_limit
item-short plan table item fine = by_blob item.blob refl
  where
    by_blob : (o : Option (List ℕ)) → item.blob ≡ o → blob_len item ≤ plan.blob_limit
    by_blob None e = subst (λ (o : Option (List ℕ)). unwrap_or (option_map (λ b. length b) o) 0 ≤ plan.blob_limit) (sym e) (omega arith)
    by_blob (Some bytes) e =
        let a = accepted plan table item fine in
        subst (λ (o : Option (List ℕ)). unwrap_or (option_map (λ b. length b) o) 0 ≤ plan.blob_limit) (sym e) (a.blob bytes e).1
