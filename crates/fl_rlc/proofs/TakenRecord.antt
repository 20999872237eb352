-- A record that is put where there is room for it joins its table, or is refused: the flash stays in either case.
use Rattle.std.proofs.Common.{◌≡◌, ℕ, ◌+◌, ◌-◌, ◌*◌, ◌/◌, ◌<◌, ◌≤◌, Bool, false, Option, Some, None, is_some, Result, Ok, Err, List, length, map, refl, sym, ◌∙◌, ap, subst, arith}
use Rattle.std.proofs.Math.IntN.{ℤ}
use Rattle.std.proofs.Math.Nat.{le-div_iff_mul-le, add-mul, mul-le-mul_right}
use Rattle.std.proofs.lemmas.List.{length-map}
use Rattle.std.specs.Prelude.{IfErr, OnOk}
use Rattle.std.proofs.lemmas.Bool.{true≢false}
use Rattle.fl_base.specs.declared.types.Geometry.{Geometry}
use Rattle.fl_flash.specs.Flash.{FlashState}
use Rattle.fl_model.specs.Bare.{bare}
use Rattle.fl_model.specs.Facts.{FitsPlan, BlobFits}
use Rattle.fl_model.specs.Record.{Record, Plan, row_layout, layout_len, rows_per_page}
use Rattle.fl_model.specs.Row.{stored_row}
use Rattle.fl_model.specs.Table as model
use Rattle.fl_model.specs.Table.{Entry, pending_entries}
use Rattle.fl_model.specs.Work.{Device}
use Rattle.fl_model.proofs.SomeRing.{no-ring}
use Rattle.fl_table.specs.BlobAt.{has_blobs}
use Rattle.fl_parts.specs.Blobs as variable
use Rattle.fl_parts.specs.Blobs.{pages_for}
use Rattle.fl_table.specs.Causes.{put_breaks, RefusedSame}
use Rattle.fl_table.specs.Look.{layout_in}
use Rattle.fl_table.specs.Memory.{HasRoom, pending_in}
use Rattle.fl_page.specs.Header.{page_count}
use Rattle.fl_page.specs.Page.{IsGoodPage}
use Rattle.fl_table.specs.Outcomes.{PutEnds}
use Rattle.fl_table.specs.Refusal.{put_refusal, RefusesAs}
use Rattle.fl_table.specs.Standing.{Stands}
use Rattle.fl_table.specs.Stored.{Stores}
use Rattle.fl_table.specs.declared.faults.PutRefusal.{PutRefusal}
use Rattle.fl_table.specs.declared.faults.PutRefusal.TheVariants as put
use Rattle.fl_table.specs.declared.table.Table.{Table}
use Rattle.fl_parts.proofs.Bare.{bare-table}
use Rattle.fl_parts.proofs.BlobsOfTable.{planned-none}
use Rattle.fl_table.proofs.Refusals.{refusal-calm}
use Rattle.fl_var.specs.declared.var_data.VarData.{VarData}
use Rattle.fl_rlc.specs.Joining.{taken}
use Rattle.fl_rlc.specs.Offering.{IsOffered}
use Rattle.fl_rlc.proofs.Joined.{IsPlain, put-more, accepted-more, refused-same}
use Rattle.fl_rlc.proofs.NewestRows.{fits-plain}
use Rattle.fl_rlc.proofs.PutRows.{pending-many}

-- a table that keeps no blobs and has no log
pub plain-of : {KNOTS SLOTS : ℕ} (t : Table KNOTS SLOTS) (f : FlashState) (first : ℕ) (plan : Plan) (b : model.Table) → has_blobs t ≡ false → Stands t f first plan b → IsPlain plan b
plain-of t f first plan b none s = by-blobs t.blobs none s.planned.var s.blobs
  where
    by-blobs : (o : Option VarData) → is_some o ≡ false → variable.ArePlanned o (first + plan.data_blocks + plan.index_blocks) plan → variable.Stand o f (first + plan.data_blocks + plan.index_blocks) plan b → IsPlain plan b
    by-blobs None e p empty =
        let no_var = planned-none (first + plan.data_blocks + plan.index_blocks) plan p in
        record { log_blocks = s.planned.log; no_var = no_var; var = no-ring b.var (s.facts.has_rings.1 ∙ no_var); log = (bare-table plan b s.planned.log s.facts).0; buffered = empty }
    by-blobs (Some v) e p stands = absurd (true≢false e)

-- a record that fits a plan fits it without its log
pub fits-bare : (plan : Plan) (entry : Entry) → FitsPlan plan entry → FitsPlan (bare plan) entry
fits-bare plan entry h = record { key = h.key; as_many = h.as_many; values = h.values; blob = by-blob entry.kept.blob h.blob }
  where
    by-blob : (o : Option (List ℕ)) → BlobFits plan entry o → BlobFits (bare plan) entry o
    by-blob None h = h
    by-blob (Some bytes) h = h

-- room in memory is room in the model
pub room-left : {KNOTS SLOTS : ℕ} (t : Table KNOTS SLOTS) (f : FlashState) (first : ℕ) (plan : Plan) (b : model.Table) → HasRoom t → Stands t f first plan b → b.pending < rows_per_page plan
room-left t f first plan b room s =
    let len : layout_len (row_layout plan) ≡ layout_len (layout_in t) = ap layout_len s.planned.layout in
    let some : 1 ≤ layout_len (row_layout plan) = omega (arith, len, t.some_row) in
    let page : t.geometry.page ≡ plan.geometry.page = ap (λ (g : Geometry). g.page) (sym s.planned.geometry) in
    let count : length (map stored_row (pending_entries b)) ≡ b.pending = length-map (pending_entries b) stored_row ∙ pending-many b (omega (arith, s.facts.counted)) in
    let end : t.writer.end ≡ 16 + b.pending * layout_len (row_layout plan) =
    s.memory.gathers.end ∙ (ap (λ (n : ℕ). 16 + n * layout_len (layout_in t)) count ∙ ap (λ (n : ℕ). 16 + b.pending * n) (sym len)) in
    let one_more : (b.pending + 1) * layout_len (row_layout plan) ≡ b.pending * layout_len (row_layout plan) + layout_len (row_layout plan) = let k = add-mul b.pending 1 (layout_len (row_layout plan)) in omega (arith, k) in
    let fits : b.pending + 1 ≤ (plan.geometry.page - 24) / layout_len (row_layout plan) =
    (le-div_iff_mul-le {k = layout_len (row_layout plan)} {x = b.pending + 1} {y = plan.geometry.page - 24} some).1 (omega (arith, one_more, end, room, t.page, page, len)) in
    omega (arith, fits)

-- .. as there is for each row of a page
pub room-for : {KNOTS SLOTS : ℕ} (t : Table KNOTS SLOTS) (bytes : List ℕ) (number i : ℕ) → IsGoodPage (layout_in t) number bytes → length bytes ≡ t.geometry.page → pending_in t ≤ i → i < page_count bytes → HasRoom t
room-for t bytes number i good size few within =
    let len = layout_len (layout_in t) in
    let fits : page_count bytes * layout_len (layout_in t) ≤ length bytes - 24 = (le-div_iff_mul-le {k = layout_len (layout_in t)} {x = page_count bytes} {y = length bytes - 24} t.some_row).0 good.room in
    let more : (pending_in t + 1) * layout_len (layout_in t) ≤ page_count bytes * layout_len (layout_in t) = mul-le-mul_right (layout_len (layout_in t)) (omega (arith, few, within)) in
    let one_more : (pending_in t + 1) * layout_len (layout_in t) ≡ pending_in t * layout_len (layout_in t) + layout_len (layout_in t) = let k = add-mul (pending_in t) 1 (layout_len (layout_in t)) in omega (arith, k) in
    omega (arith, fits, more, one_more, t.rows_end, t.page, size, t.room_for_row)

-- ---- a put where there is room

module _ {KNOTS SLOTS : ℕ} (t u : Table KNOTS SLOTS) (f g : FlashState) (key : ℕ) (values : List ℤ) (result : Result (Unit {0}) PutRefusal) (none : has_blobs t ≡ false) (room : HasRoom t)
    (exact : RefusesAs (put_refusal t key values None) result) (refused : IfErr result (λ e. RefusedSame t f e u g))
    (quiet : put_refusal t key values None ≡ None → HasRoom t → pages_for t.blobs None ≡ 0 → (result ≡ Ok tt) × (g ≡ f)) where
  -- it is done, or refused and nothing is changed
  pub data Ends : Type 0 where
    Done : result ≡ Ok tt → g ≡ f → Ends
    Refused : (e : PutRefusal) → result ≡ Err e → put_breaks (Err e) ≡ false → u ≡ t → g ≡ f → Ends

  no-pages : (o : Option VarData) → pages_for o None ≡ 0
  no-pages None = refl
  no-pages (Some var) = refl

  unchanged : (e : PutRefusal) → put_breaks (Err e) ≡ false → RefusedSame t f e u g → (u ≡ t) × (g ≡ f)
  unchanged (put.Flash fault) calm h = absurd (true≢false calm)
  unchanged (put.Key last) calm h = h
  unchanged (put.Columns wanted) calm h = h
  unchanged (put.Value column) calm h = h
  unchanged (put.Blob limit) calm h = h
  unchanged put.Spent calm h = h
  unchanged put.Stopped calm h = h

  pub ends : Ends
  ends = by-refusal (put_refusal t key values None) refl
    where
      by-refusal : (o : Option PutRefusal) → put_refusal t key values None ≡ o → Ends
      by-refusal None e = let q = quiet e room (no-pages t.blobs) in Done q.0 q.1
      by-refusal (Some r) e =
          let is : result ≡ Err r = subst (λ (o : Option PutRefusal). RefusesAs o result) e exact in
          let calm = refusal-calm t key values None r e in
          let k = unchanged r calm (subst (λ (x : Result (Unit {0}) PutRefusal). IfErr x (λ e. RefusedSame t f e u g)) is refused) in
          Refused r is calm k.0 k.1

  pub calm : put_breaks result ≡ false
  calm = by-end ends
    where
      by-end : Ends → put_breaks result ≡ false
      by-end (Done is same) = ap (λ (x : Result (Unit {0}) PutRefusal). put_breaks x) is
      by-end (Refused e is calm u_is same) = ap (λ (x : Result (Unit {0}) PutRefusal). put_breaks x) is ∙ calm

  pub still : g ≡ f
  still = by-end ends
    where
      by-end : Ends → g ≡ f
      by-end (Done is same) = same
      by-end (Refused e is kept u_is same) = same

  -- the record was offered
  pub offers : OnOk result (Stores t key values None u) → IsOffered t (record { key = key; values = values; blob = None }) u
  offers stores = by-end ends
    where
      some-refused : (e : PutRefusal) → result ≡ Err e → put_refusal t key values None ≡ None → put_breaks (Err e) ≡ false → ⊥
      some-refused e is accepted calm = no (sym is ∙ (quiet accepted room (no-pages t.blobs)).0)
        where
          no : ◌≡◌ {A = Result (Unit {0}) PutRefusal} (Err e) (Ok tt) → ⊥
          no k = cc

      not-refused : (e : PutRefusal) → result ≡ Ok tt → put_refusal t key values None ≡ Some e → ⊥
      not-refused e is refusal = no (sym is ∙ subst (λ (o : Option PutRefusal). RefusesAs o result) refusal exact)
        where
          no : ◌≡◌ {A = Result (Unit {0}) PutRefusal} (Ok tt) (Err e) → ⊥
          no k = cc

      by-end : Ends → IsOffered t (record { key = key; values = values; blob = None }) u
      by-end (Done is same) = record {
        refused = λ e refusal. absurd (not-refused e is refusal);
        joins = λ accepted. let stored : Stores t key values None u = subst (λ (x : Result (Unit {0}) PutRefusal). OnOk x (Stores t key values None u)) is stores in stored.room room;
      }
      by-end (Refused e is kept u_is same) = record {
        refused = λ e refusal. u_is;
        joins = λ accepted. absurd (some-refused e is accepted kept);
      }

  -- what it leaves of the table
  pub takes : (first : ℕ) (plan : Plan) (b : model.Table) (rose : Bool) (device : Device) (entry : Entry) → Stands t f first plan b → FitsPlan plan entry → entry.kept.key ≡ key → entry.kept.values ≡ values →
      PutEnds first plan (record { key = key; values = values; blob = None }) b rose device result u f g → Stands u g first plan (taken b entry)
  takes first plan b rose device entry s fits key_is values_is put_ends = by-end ends
    where
      plain : IsPlain plan b
      plain = plain-of t f first plan b none s

      parts : (entry.kept.blob ≡ None) × (entry.page ≡ 0) × (entry.offset ≡ 0)
      parts = fits-plain plan entry plain.no_var fits

      item : record { key = key; values = values; blob = None } ≡ entry.kept
      item =
          ap (λ (n : ℕ). record { key = n; values = values; blob = None }) (sym key_is)
          ∙ (ap (λ (vs : List ℤ). record { key = entry.kept.key; values = vs; blob = None }) (sym values_is) ∙ ap (λ (o : Option (List ℕ)). record entry.kept { blob = o }) (sym parts.0))

      of-entry : PutEnds first plan entry.kept b rose device result u f g
      of-entry = subst (λ (x : Record). PutEnds first plan x b rose device result u f g) item put_ends

      done : PutEnds first plan entry.kept b rose device (Ok tt) u f g → Stands u g first plan (taken b entry)
      done p =
          subst (λ (x : model.Table). Stands u g first plan x)
          (put-more plan b entry plain (room-left t f first plan b room s) parts.0 parts.1 parts.2 ∙ sym (accepted-more plan b entry p.0)) p.1.stands

      some-refusal : (e : PutRefusal) → put_breaks (Err e) ≡ false → PutEnds first plan entry.kept b rose device (Err e) u f g → taken b entry ≡ b
      some-refusal (put.Flash fault) calm p = absurd (true≢false calm)
      some-refusal (put.Key last) calm p = refused-same plan b entry (model.BadKey last) plain fits p
      some-refusal (put.Columns wanted) calm p = refused-same plan b entry (model.BadColumns wanted) plain fits p
      some-refusal (put.Value column) calm p = refused-same plan b entry (model.BadValue column) plain fits p
      some-refusal (put.Blob limit) calm p = refused-same plan b entry (model.BadBlob limit) plain fits p
      some-refusal put.Spent calm p = refused-same plan b entry model.Spent plain fits p
      some-refusal put.Stopped calm p = absurd p

      by-end : Ends → Stands u g first plan (taken b entry)
      by-end (Done is same) = done (subst (λ (x : Result (Unit {0}) PutRefusal). PutEnds first plan entry.kept b rose device x u f g) is of-entry)
      by-end (Refused e is calm u_is same) =
          let stays = some-refusal e calm (subst (λ (x : Result (Unit {0}) PutRefusal). PutEnds first plan entry.kept b rose device x u f g) is of-entry) in
          subst (λ (x : model.Table). Stands u g first plan x) (sym stays) (subst (λ (x : Table KNOTS SLOTS). Stands x g first plan b) (sym u_is) (subst (λ (x : FlashState). Stands t x first plan b) (sym same) s))
