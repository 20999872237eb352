-- The rules of the ring of variable data hold where a flash stands for a table.
use Rattle.std.proofs.Common.{◌≡◌, ◌⊎◌, inl, inr, ℕ, suc, ◌+◌, ◌-◌, ◌*◌, ◌^◌, ◌<◌, ◌≤◌, Bool, true, false, cond, ◌==◌, nat_lt, Option, Some, None, IfSome, is_some, option_map, List, [], ◌∷◌, length, map, max, take, refl, sym, ◌∙◌, ap, subst, arith}
use Rattle.std.specs.List.{slice_get, list_any, AllByRecursion}
use Rattle.std.proofs.lemmas.Bool.{cases_Bool, lt-ltb, false≢true}
use Rattle.std.proofs.lemmas.List.{take_all}
use Rattle.std.proofs.Math.Nat.{mul-le-mul_right}
use Rattle.std.proofs.lemmas.Option.{same_Some}
use Rattle.fl_base.specs.declared.types.RingPlace.{RingPlace}
use Rattle.fl_flash.specs.Flash.{FlashState, page_at}
use Rattle.fl_model.specs.Facts.{IsContent, is_some_ring, counts_in}
use Rattle.fl_model.specs.Agrees.{BlobsOf, reach_of}
use Rattle.fl_model.specs.Image.{IsRingImage, HoldsContent}
use Rattle.fl_model.specs.Mount.{index_end}
use Rattle.fl_model.specs.Record.{Plan}
use Rattle.fl_model.specs.Ring as model
use Rattle.fl_model.specs.Row.{Row, le, stored_row}
use Rattle.fl_model.specs.Content.{ContentPage}
use Rattle.fl_model.specs.Table.{Table, Entry, VarRing, shape_of, full_pages, written}
use Rattle.fl_model.proofs.Lists.{each-at}
use Rattle.fl_model.specs.BlobEnds.{reference_end, blobs_end}
use Rattle.fl_page.specs.Header.{page_count}
use Rattle.fl_plan.specs.Limits.{IsRingSize}
use Rattle.fl_plan.specs.Plan.{Label, blocks_in, plan_of_table}
use Rattle.fl_plan.specs.declared.table_config.TableConfig.{TableConfig}
use Rattle.fl_ring.specs.Head.{one}
use Rattle.fl_ring.specs.Mounting.{IsGood}
use Rattle.fl_ring.specs.Numbers.{renumbered}
use Rattle.fl_ring.specs.Ring.{Shape, RingState, IsShape, count, oldest, place}
use Rattle.fl_ring.proofs.Counts.{counts_length}
use Rattle.fl_ring.proofs.GoodNumbers.{renumbered_some, renumbered_none}
use Rattle.fl_ring.proofs.Images.{bytes_of}
use Rattle.fl_ring.proofs.Heads.{one-is}
use Rattle.fl_parts.proofs.Plain.{least-below}
use Rattle.fl_var.specs.Standing.{IsVarRing}
use Rattle.fl_ring.proofs.Bodies.{bodies-numbered}
use Rattle.fl_ring.proofs.HeldPages.{IsStateOf}
use Rattle.fl_var.proofs.Bodies.{once, IsBody, some-once}
use Rattle.fl_var.proofs.MountsInTable.{body-number}
use Rattle.fl_var.proofs.States.{state_of, state-is}
use Rattle.fl_rules.specs.Claims.{AllBelow}
use Rattle.fl_rules.specs.References.{PageLeads}
use Rattle.fl_rules.specs.RingRules.{NoRows, IsRingSound}
use Rattle.fl_check.specs.Whole.{OfRing, shape_in as ring_shape, rows_shape, layout_in, IsVarForm}
use Rattle.fl_rules.specs.declared.numbering.Numbering.{Numbering}
use Rattle.fl_rules.proofs.ContentPages.{content_used}
use Rattle.fl_check.proofs.KeptPages as pages
use Rattle.fl_check.proofs.Wholes.{of_ring, of_none}
use Rattle.fl_check.proofs.RingReads.{Reads}
use Rattle.fl_sound.proofs.DataPart.{StandsOn, facts, idle, rows-of}
use Rattle.fl_sound.proofs.ReferenceRule.{entry-of, HasBlobs, pages-lead}
use Rattle.fl_sound.proofs.RingReads.{IsOf, any_at}
use Rattle.fl_sound.proofs.RingSound.{SoundRing, AreFormed, sizes, counts-some, sound-ring}

-- blobs that all begin before a page end there
ends-within : (so_far bound : ℕ) (rows : List Row) → so_far ≤ bound → ((i : ℕ) (row : Row) → slice_get rows i ≡ Some row → reference_end row.blob ≤ bound) → blobs_end so_far rows ≤ bound
ends-within so_far bound [] le each = le
ends-within so_far bound (row ∷ rows) le each = let k = each 0 row refl in ends-within (max so_far (reference_end row.blob)) bound rows (omega (arith, le, k)) (λ i. each (suc i))

-- the ring of variable data in its place
pub record VarAt (label : Label) (config : TableConfig) (f : FlashState) (table : Table) (r : Shape) : Type 0 where
  pub n : Numbering
  pub sound : IsRingSound IsVarForm NoRows (page_at f) r (blobs_end 0 (map stored_row table.entries)) n
  pub leads : (rows : Numbering) → Reads (page_at f) (rows_shape config) (index_end (plan_of_table label config) table) table.rows rows →
      AllBelow (PageLeads (layout_in config) (page_at f) (rows_shape config) rows.marks r n) rows.marks.kept

-- .. which a table may not have
pub record VarPart (label : Label) (config : TableConfig) (f : FlashState) (table : Table) : Type 0 where
  pub n : Option Numbering
  pub sound : OfRing (λ place n. IsRingSound IsVarForm NoRows (page_at f) (ring_shape config place) (blobs_end 0 (map stored_row table.entries)) n) config.var n
  pub leads : (rows : Numbering) → Reads (page_at f) (rows_shape config) (index_end (plan_of_table label config) table) table.rows rows →
      OfRing (λ place n. AllBelow (PageLeads (layout_in config) (page_at f) (rows_shape config) rows.marks (ring_shape config place) n) rows.marks.kept) config.var n

module _ (label : Label) (config : TableConfig) (f : FlashState) (table : Table) (is : StandsOn label config f table) where
  abbrev plan : Plan
  plan = plan_of_table label config

  abbrev first : ℕ
  first = config.rows.first_block + config.rows.blocks + blocks_in config.index

  abbrev end : ℕ
  end = blobs_end 0 (map stored_row table.entries)

  -- where the ring stands, by the plan
  abbrev pub var_shape : Shape
  var_shape = record { first = (config.rows.first_block + config.rows.blocks + blocks_in config.index) * config.geometry.block; blocks = blocks_in config.var; per_block = config.geometry.block; size = config.geometry.page }

  all-written : written table ≡ table.entries
  all-written = take_all (length table.entries - table.pending) table.entries (let i = idle label config f table is in omega (arith, i.pending))

  module _ (at : RingPlace) (at_is : config.var ≡ Some at) (begins : at.first_block ≡ config.rows.first_block + config.rows.blocks + blocks_in config.index) (ring : model.Ring) (ring_is : table.var ≡ Some ring) where
    abbrev r : Shape
    r = var_shape

    blocks_is : blocks_in config.var ≡ at.blocks
    blocks_is = ap blocks_in at_is

    limit : IsRingSize at
    limit = subst (λ (o : Option RingPlace). IfSome o IsRingSize) at_is is.fits.limits.var

    reach : at.first_block + at.blocks ≤ f.blocks
    reach = subst (λ (o : Option RingPlace). IfSome o (λ place. place.first_block + place.blocks ≤ f.blocks)) at_is is.fits.var

    size : (n : ℕ) → length (page_at f (place r n)) ≡ config.geometry.page
    size = sizes f config.geometry first (blocks_in config.var) is.reaches is.fits.geometry (omega (arith, blocks_is, reach, begins)) (omega (arith, blocks_is, limit.0)) (omega (arith, is.fits.limits.geometry.block_low))

    shape : IsShape r
    shape = record { blocks = omega (arith, blocks_is, limit.0); per_block = is.fits.limits.geometry.block_low; size = is.fits.limits.geometry.page_low }

    in_ring : (P : Option model.Ring → Type 0) → P table.var → P (Some ring)
    in_ring P h = subst P ring_is h

    number : ring.next + (cond ring.torn 1 0) ≤ 4294967292
    number = let h = facts label config f table is in in_ring (λ (o : Option model.Ring). IfSome o (λ x. x.next + (cond x.torn 1 0) ≤ 4294967292)) (h.numbers VarRing)

    pages-are : IsVarRing plan table.var_pages ring (bytes_of r (page_at f))
    pages-are =
        let h = facts label config f table is in
        record {
          facts = in_ring (λ (o : Option model.Ring). IfSome o (model.IsRing (shape_of plan VarRing))) h.var;
          counts = subst (λ (o : Option model.Ring). AllByRecursion (λ c. (c ≡ 0) ⊎ (c ≡ 1)) (counts_in o)) ring_is h.var_counts;
          number = let k = number in omega (arith, k);
          each = subst (λ (o : Option model.Ring). length table.var_pages ≡ full_pages (counts_in o)) ring_is h.var_each;
          fit = h.var_fit;
          image = in_ring (λ (o : Option model.Ring). IfSome o (λ x. IsRingImage (shape_of plan VarRing) x (bytes_of r (page_at f)) (HoldsContent table x))) is.rests.pages.var;
        }

    abbrev s : RingState
    s = state_of ring table.var_pages

    state : IsStateOf (IsBody plan) once r (page_at f) ring table.var_pages s
    state = state-is r plan (page_at f) size shape refl ring table.var_pages pages-are

    is-of : IsOf s ring
    is-of = record {
      next = refl;
      count = sym (counts_length once s) ∙ ap (λ (x : model.Ring). length x.counts) state.counts;
      some = λ i c e. counts-some once (λ body. omega arith) s.kept i c (ap (λ (x : model.Ring). slice_get x.counts i) state.counts ∙ e);
    }

    -- where the blobs of the table begin
    places : (i : ℕ) (entry : Entry) (blob : List ℕ) → slice_get table.entries i ≡ Some entry → entry.kept.blob ≡ Some blob → 0 < length blob →
        (entry.page < model.oldest ring)
        ⊎ ((model.oldest ring ≤ entry.page) × (slice_get ring.counts (entry.page - model.oldest ring) ≡ Some 1) × (entry.page + reach_of plan entry blob < ring.next))
    places i entry blob e k some =
        let h = facts label config f table is in
        in_ring (λ (o : Option model.Ring). IfSome o (λ x. (entry.page < model.oldest x)
        ⊎ ((model.oldest x ≤ entry.page) × (slice_get x.counts (entry.page - model.oldest x) ≡ Some 1) × (entry.page + reach_of plan entry blob < x.next))))
        (h.blobs i entry blob (ap (λ (l : List Entry). slice_get l i) all-written ∙ e) k some)

    -- where no page is committed, all of them were given up
    end-low : list_any is_some s.kept ≡ false → end ≤ model.oldest ring
    end-low none = ends-within 0 (model.oldest ring) (map stored_row table.entries) (omega arith) each
      where
        never : {A : Type 0} → (j : ℕ) → slice_get ring.counts j ≡ Some 1 → A
        never j e = absurd (false≢true (sym none ∙ any_at s.kept j (is-of.some j 1 e)))

        each : (i : ℕ) (row : Row) → slice_get (map stored_row table.entries) i ≡ Some row → reference_end row.blob ≤ model.oldest ring
        each i row e =
            let h = entry-of table.entries i row e in
            subst (λ (x : Row). reference_end x.blob ≤ model.oldest ring) h.is (by_blob h.entry h.here h.entry.kept.blob refl)
          where
            by_length : (entry : Entry) (bytes : List ℕ) → slice_get table.entries i ≡ Some entry → entry.kept.blob ≡ Some bytes → cond (length bytes == 0) 0 (entry.page + 1) ≤ model.oldest ring
            by_length entry [] here k = omega arith
            by_length entry (b ∷ bytes) here k = elim (places i entry (b ∷ bytes) here k (omega arith)) [
              | inl gone ↦ by_test (length (b ∷ bytes) == 0) gone
              | inr kept ↦ never (entry.page - model.oldest ring) kept.1
            ]
              where
                by_test : (t : Bool) → entry.page < model.oldest ring → cond t 0 (entry.page + 1) ≤ model.oldest ring
                by_test true lt = omega arith
                by_test false lt = omega (arith, lt)

            by_blob : (entry : Entry) → slice_get table.entries i ≡ Some entry → (o : Option (List ℕ)) → entry.kept.blob ≡ o
                → reference_end (option_map (λ (b : List ℕ). record { page = entry.page; offset = entry.offset; length = length b }) entry.kept.blob) ≤ model.oldest ring
            by_blob entry here None k = subst (λ (o : Option (List ℕ)). reference_end (option_map (λ (b : List ℕ). record { page = entry.page; offset = entry.offset; length = length b }) o) ≤ model.oldest ring) (sym k) (omega arith)
            by_blob entry here (Some bytes) k =
                subst (λ (o : Option (List ℕ)). reference_end (option_map (λ (b : List ℕ). record { page = entry.page; offset = entry.offset; length = length b }) o) ≤ model.oldest ring) (sym k) (by_length entry bytes here k)

    -- its numbers fit
    number-fits : (renumbered r end s).next + one s.torn < 2 ^ 32
    number-fits = elim (cases_Bool (list_any is_some s.kept)) [
      | inl any ↦ let e = ap (λ (t : RingState). t.next) (renumbered_some r end s any) in let k = number in let t = one-is ring.torn in omega (arith, e, k, t)
      | inr none ↦
          let e = ap (λ (t : RingState). t.next) (renumbered_none r end s none) in
          let low = end-low none in
          let room : 0 < blocks_in config.var * config.geometry.block = let k : 3 * config.geometry.block ≤ blocks_in config.var * config.geometry.block = mul-le-mul_right config.geometry.block (omega (arith, blocks_is, limit.0)) in omega (arith, k, is.fits.limits.geometry.block_low) in
          let below = least-below (blocks_in config.var * config.geometry.block) ring.next (end + length s.kept) room (omega (arith, low, is-of.count, pages-are.facts.not_negative)) in
          let k = number in
          let t = one-is ring.torn in omega (arith, e, below, k, t)
    ]

    good : IsGood f r end s
    good = record { told = is.told; on = state.on; numbered = bodies-numbered (IsBody plan) once (some-once plan) (body-number plan) s table.var_pages state.bodies state.on.ring.not_negative (let k = pages-are.number in omega (arith, k)); fits = number-fits }

    forms : AreFormed IsVarForm (page_at f) r ring
    forms i c e some = pages.good.content plan table ring i c (page_at f (place r (model.oldest ring + i))) (facts label config f table is) (pages-are.image.kept i c e some)

    sound : SoundRing IsVarForm NoRows (page_at f) r end ring
    sound = sound-ring f r end s shape good ring is-of IsVarForm NoRows forms (λ n reads. tt)

    used : (number : ℕ) (content : ContentPage) → model.oldest ring ≤ number → slice_get ring.counts (number - model.oldest ring) ≡ Some 1
        → slice_get table.var_pages (full_pages (take (number - model.oldest ring) ring.counts)) ≡ Some content → page_count (page_at f (place r number)) ≡ content.used
    used number content low e k =
        let there : model.oldest ring + (number - model.oldest ring) ≡ number = omega (arith, low) in
        let h = pages-are.image.kept (number - model.oldest ring) 1 e (omega arith) in
        let same : h.holds ≡ content = same_Some _ _ (sym h.is ∙ k) in
        let fit = each-at (IsContent plan) table.var_pages (full_pages (take (number - model.oldest ring) ring.counts)) h.holds pages-are.fit h.is in
        let page = page_at f (place r (model.oldest ring + (number - model.oldest ring))) in
        let count = content_used page (model.oldest ring + (number - model.oldest ring)) plan h.holds fit h.bytes (omega (arith, size (model.oldest ring + (number - model.oldest ring)), is.fits.limits.geometry.page_high)) in
        sym (ap (λ (n : ℕ). page_count (page_at f (place r n))) there) ∙ count ∙ ap (λ (c : ContentPage). c.used) same

    blobs : HasBlobs plan table ring (λ number. page_at f (place r number))
    blobs = record {
      known = pages-are.facts.not_negative;
      places = places;
      holds = let h = facts label config f table is in in_ring (λ (o : Option model.Ring). IfSome o (BlobsOf plan table)) h.agrees.blobs;
      used = used;
    }

    var-here : VarAt label config f table r
    var-here = record {
      n = sound.n;
      sound = sound.sound;
      leads = λ rows reads.
          pages-lead plan (page_at f) (first * config.geometry.block) (blocks_in config.var) config.geometry.block end table ring sound.n sound.reads blobs refl
          (layout_in config) (rows_shape config) (index_end plan table) rows reads (rows-of label config f table is rows reads);
    }

    shape-is : var_shape ≡ ring_shape config at
    shape-is =
        ap (λ (k : ℕ). record { first = k * config.geometry.block; blocks = blocks_in config.var; per_block = config.geometry.block; size = config.geometry.page }) (sym begins)
        ∙ ap (λ (k : ℕ). record { first = at.first_block * config.geometry.block; blocks = k; per_block = config.geometry.block; size = config.geometry.page }) blocks_is

    var-there : VarPart label config f table
    var-there = by_part (subst (VarAt label config f table) shape-is var-here)
      where
        by_part : VarAt label config f table (ring_shape config at) → VarPart label config f table
        by_part a = record {
          n = Some a.n;
          sound = of_ring (λ place n. IsRingSound IsVarForm NoRows (page_at f) (ring_shape config place) (blobs_end 0 (map stored_row table.entries)) n) config.var (Some a.n) at a.n at_is refl a.sound;
          leads = λ rows reads.
              of_ring (λ place n. AllBelow (PageLeads (layout_in config) (page_at f) (rows_shape config) rows.marks (ring_shape config place) n) rows.marks.kept) config.var (Some a.n) at a.n at_is refl (a.leads rows reads);
        }

  -- a table without variable data
  var-none : config.var ≡ None → VarPart label config f table
  var-none none = record {
    n = None;
    sound = of_none (λ place n. IsRingSound IsVarForm NoRows (page_at f) (ring_shape config place) (blobs_end 0 (map stored_row table.entries)) n) config.var none;
    leads = λ rows reads. of_none (λ place n. AllBelow (PageLeads (layout_in config) (page_at f) (rows_shape config) rows.marks (ring_shape config place) n) rows.marks.kept) config.var none;
  }

  pub var-part : IfSome config.var (λ place. place.first_block ≡ config.rows.first_block + config.rows.blocks + blocks_in config.index) → VarPart label config f table
  var-part begins = by_place config.var refl begins table.var refl (let h = facts label config f table is in h.has_rings.1)
    where
      no : {A : Type 0} → false ≡ true → A
      no e = cc

      by_place : (o : Option RingPlace) → config.var ≡ o → IfSome o (λ place. place.first_block ≡ config.rows.first_block + config.rows.blocks + blocks_in config.index)
          → (x : Option model.Ring) → table.var ≡ x → is_some_ring table.var ≡ nat_lt 0 (blocks_in config.var) → VarPart label config f table
      by_place None e b x k has = var-none e
      by_place (Some place) e b None k has =
          let size = subst (λ (o : Option RingPlace). IfSome o IsRingSize) e is.fits.limits.var in
          no (sym (ap is_some_ring k) ∙ has ∙ ap (λ (o : Option RingPlace). nat_lt 0 (blocks_in o)) e ∙ lt-ltb 0 place.blocks (omega (arith, size.0)))
      by_place (Some place) e b (Some ring) k has = var-there place e b ring k
