-- What a salvage tells of the blob of a table's record is what an export tells of it.
use Rattle.std.proofs.Common.{◌≡◌, ◌⊎◌, inl, inr, ℕ, ◌+◌, ◌-◌, ◌*◌, ◌<◌, ◌≤◌, Bool, true, false, cond, ◌==◌, nat_lt, Option, Some, None, IfSome, option_map, unwrap_or, List, [], ◌∷◌, length, take, refl, sym, ◌∙◌, ap, subst, arith}
use Rattle.std.specs.List.{slice_get, sum_by}
use Rattle.std.proofs.lemmas.Bool.{cases_lt, le-ltb, ne_eqb, false≢true}
use Rattle.fl_csv.specs.Text.{Absent, Bytes, Gone}
use Rattle.fl_model.specs.Agrees.{reach_of, BlobsOf}
use Rattle.fl_model.specs.Entry.{blob_len}
use Rattle.fl_model.specs.Facts.{FitsPlan, BlobFits, is_some_ring}
use Rattle.fl_model.specs.Query.{Lost, Stands, blob_in, blob_of, page_stands}
use Rattle.fl_model.specs.Record.{Plan, Config, blocks_of, has_var}
use Rattle.fl_model.specs.Ring.{Ring, oldest}
use Rattle.fl_model.specs.Row.{stored_row}
use Rattle.fl_model.specs.Table.{Table, Entry, VarRing, is_dirty, written}
use Rattle.fl_model.proofs.Lists.{slice_get-short, slice_get-take, each-at}
use Rattle.fl_model.proofs.StandingPages.{stands-kept, stands-not}
use Rattle.fl_salvage.specs.Blobs.{blob_from, content_at, content_room}
use Rattle.fl_salvage.specs.Ends.{form_at}
use Rattle.fl_salvage.specs.Text.{blob_told, told_bytes}
use Rattle.fl_salvage.specs.Text as salvage
use Rattle.fl_saved.proofs.BlobBytes.{blob-held}
use Rattle.fl_saved.proofs.RingsOfImage.{IsHere, facts, idle}
use Rattle.fl_export.specs.Text.{told_blob}
use Rattle.fl_saved.proofs.VarPages.{gone-content}
use Rattle.fl_saved.proofs.WholeBlobs.{found-whole, found-gone}

module _ (config : Config) (bytes : List ℕ) (place : ℕ) (plan : Plan) (table : Table) (is : IsHere config bytes place plan table) (clean : is_dirty VarRing table ≡ false)
    (i : ℕ) (entry : Entry) (here : slice_get table.entries i ≡ Some entry) (within : blob_len entry.kept ≤ plan.blob_limit) where
  fits : FitsPlan plan entry
  fits = let f = facts config bytes place plan table is in each-at (FitsPlan plan) table.entries i entry f.fit here

  in-written : slice_get (written table) i ≡ Some entry
  in-written = slice_get-take (length table.entries - table.pending) table.entries i (omega (arith, slice_get-short table.entries i entry here, idle config bytes place plan table is)) ∙ here

  -- ---- a blob with bytes, in a table that keeps variable data

  module _ (blob : List ℕ) (has_blob : entry.kept.blob ≡ Some blob) (some : 0 < length blob) (kept : Ring) (kept_is : table.var ≡ Some kept)
      (ring : _) (ring_is : (form_at config.plans place plan).var ≡ Some ring) (has : has_var plan ≡ true) where
    clean-ring : kept.dirty ≡ false
    clean-ring = subst (λ (o : Option Ring). unwrap_or (option_map (λ r. r.dirty) o) false ≡ false) kept_is clean

    few : length blob ≤ plan.blob_limit
    few = subst (λ (o : Option (List ℕ)). unwrap_or (option_map (λ b. length b) o) 0 ≤ plan.blob_limit) has_blob within

    begins : (entry.page < oldest kept) ⊎ ((oldest kept ≤ entry.page) × (slice_get kept.counts (entry.page - oldest kept) ≡ Some 1) × (entry.page + reach_of plan entry blob < kept.next))
    begins =
        let f = facts config bytes place plan table is in
        subst (λ (o : Option Ring). IfSome o (λ r. (entry.page < oldest r) ⊎ ((oldest r ≤ entry.page) × (slice_get r.counts (entry.page - oldest r) ≡ Some 1) × (entry.page + reach_of plan entry blob < r.next)))) kept_is
        (f.blobs i entry blob in-written has_blob some)

    blobs-of : BlobsOf plan table kept
    blobs-of = let f = facts config bytes place plan table is in let a = f.agrees in subst (λ (o : Option Ring). IfSome o (BlobsOf plan table)) kept_is a.blobs

    -- what is found of it
    found-is : (b : Bool) → page_stands kept entry.page ≡ b → told_bytes (blob_from (content_at ring bytes) (content_room ring) (length blob) entry.page entry.offset (length blob)) ≡ cond b (Bytes blob) Gone
    found-is b e = by_place begins
      where
        same : {t : Bool} → page_stands kept entry.page ≡ t → cond t (Bytes blob) Gone ≡ cond b (Bytes blob) Gone
        same k = ap (λ t. cond t (Bytes blob) Gone) (sym k ∙ e)

        by_place : (entry.page < oldest kept) ⊎ ((oldest kept ≤ entry.page) × (slice_get kept.counts (entry.page - oldest kept) ≡ Some 1) × (entry.page + reach_of plan entry blob < kept.next))
            → told_bytes (blob_from (content_at ring bytes) (content_room ring) (length blob) entry.page entry.offset (length blob)) ≡ cond b (Bytes blob) Gone
        by_place (inl before) =
            ap told_bytes (found-gone (content_at ring bytes) (content_room ring) (length blob) entry.page entry.offset (length blob)
            (gone-content config bytes place plan table is ring ring_is has kept kept_is clean-ring entry.page before)) ∙ same (stands-not kept entry.page before)
        by_place (inr at) =
            let standing = stands-kept kept entry.page at.0 at.1 in
            let held = blob-held config bytes place plan table is ring ring_is has kept kept_is clean-ring entry blob (blobs-of i entry blob here has_blob some standing) at.2 some in
            ap told_bytes (found-whole (content_at ring bytes) (content_room ring) (length blob) entry.page entry.offset blob some (omega arith) held) ∙ same standing

    pub some-told : salvage.blob_in (Some ring) plan.blob_limit bytes (record { page = entry.page; offset = entry.offset; length = length blob }) ≡ told_blob (blob_in table entry (Some blob))
    some-told =
        let z : (length blob == 0) ≡ false = ne_eqb (length blob) 0 (λ e. let no : ⊥ = omega (arith, e, some) in no) in
        let l : nat_lt plan.blob_limit (length blob) ≡ false = le-ltb plan.blob_limit (length blob) few in
        let left : salvage.blob_in (Some ring) plan.blob_limit bytes (record { page = entry.page; offset = entry.offset; length = length blob }) ≡ told_bytes (blob_from (content_at ring bytes) (content_room ring) (length blob) entry.page entry.offset (length blob)) = rw (z, l) refl in
        let right : blob_in table entry (Some blob) ≡ cond (page_stands kept entry.page) (Stands blob) Lost =
        ap (λ (t : Bool). cond t (Stands []) (cond (unwrap_or (option_map (λ r. page_stands r entry.page) table.var) false) (Stands blob) Lost)) z
        ∙ ap (λ (o : Option Ring). cond (unwrap_or (option_map (λ r. page_stands r entry.page) o) false) (Stands blob) Lost) kept_is in
        left ∙ found-is (page_stands kept entry.page) refl ∙ by_test (page_stands kept entry.page) ∙ ap told_blob (sym right)
      where
        by_test : (b : Bool) → cond b (Bytes blob) Gone ≡ told_blob (cond b (Stands blob) Lost)
        by_test true = refl
        by_test false = refl

  -- ---- any blob

  has-told : (blob : List ℕ) → entry.kept.blob ≡ Some blob → has_var plan ≡ true
      → blob_told (form_at config.plans place plan) bytes (Some (record { page = entry.page; offset = entry.offset; length = length blob })) ≡ told_blob (blob_in table entry (Some blob))
  has-told blob has_blob has =
      ap (λ (b : Bool). salvage.blob_in (cond b (Some (record { first = (sum_by blocks_of (take place config.plans) + plan.data_blocks + plan.index_blocks) * plan.geometry.block; pages = plan.var_blocks * plan.geometry.block; size = plan.geometry.page })) None)
      plan.blob_limit bytes (record { page = entry.page; offset = entry.offset; length = length blob })) has
      ∙ by_length blob has_blob (cases_lt 0 (length blob)) table.var refl (let f = facts config bytes place plan table is in f.has_rings.1)
    where
      by_length : (blob : List ℕ) → entry.kept.blob ≡ Some blob → (0 < length blob) ⊎ (length blob ≤ 0) → (o : Option Ring) → table.var ≡ o → is_some_ring table.var ≡ has_var plan
          → salvage.blob_in (Some (record { first = (sum_by blocks_of (take place config.plans) + plan.data_blocks + plan.index_blocks) * plan.geometry.block; pages = plan.var_blocks * plan.geometry.block; size = plan.geometry.page }))
          plan.blob_limit bytes (record { page = entry.page; offset = entry.offset; length = length blob })
          ≡ told_blob (blob_in table entry (Some blob))
      by_length [] e none o k ring = refl
      by_length (byte ∷ rest) e (inr none) o k ring = let no : ⊥ = omega (arith, none) in absurd no
      by_length (byte ∷ rest) e (inl some) None k ring = absurd (false≢true (sym (ap is_some_ring k) ∙ ring ∙ has))
      by_length (byte ∷ rest) e (inl some) (Some kept) k ring = some-told (byte ∷ rest) e some kept k (record { first = (sum_by blocks_of (take place config.plans) + plan.data_blocks + plan.index_blocks) * plan.geometry.block; pages = plan.var_blocks * plan.geometry.block; size = plan.geometry.page })
          (ap (λ (b : Bool). cond b (Some (record { first = (sum_by blocks_of (take place config.plans) + plan.data_blocks + plan.index_blocks) * plan.geometry.block; pages = plan.var_blocks * plan.geometry.block; size = plan.geometry.page })) None) has) has

  pub blob-is : blob_told (form_at config.plans place plan) bytes (stored_row entry).blob ≡ cond (has_var plan) (told_blob (blob_of table entry)) Absent
  blob-is = by_blob entry.kept.blob refl fits.blob
    where
      by_blob : (o : Option (List ℕ)) → entry.kept.blob ≡ o → BlobFits plan entry o
          → blob_told (form_at config.plans place plan) bytes (option_map (λ b. record { page = entry.page; offset = entry.offset; length = length b }) entry.kept.blob) ≡ cond (has_var plan) (told_blob (blob_in table entry entry.kept.blob)) Absent
      by_blob None e b =
          ap (λ (o : Option (List ℕ)). blob_told (form_at config.plans place plan) bytes (option_map (λ b. record { page = entry.page; offset = entry.offset; length = length b }) o)) e
          ∙ sym (ap (λ (o : Option (List ℕ)). cond (has_var plan) (told_blob (blob_in table entry o)) Absent) e)
      by_blob (Some blob) e b =
          ap (λ (o : Option (List ℕ)). blob_told (form_at config.plans place plan) bytes (option_map (λ b. record { page = entry.page; offset = entry.offset; length = length b }) o)) e
          ∙ has-told blob e b.0
          ∙ sym (ap (λ (t : Bool). cond t (told_blob (blob_in table entry (Some blob))) Absent) b.0)
          ∙ sym (ap (λ (o : Option (List ℕ)). cond (has_var plan) (told_blob (blob_in table entry o)) Absent) e)
