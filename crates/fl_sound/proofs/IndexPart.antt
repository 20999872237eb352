-- The rules of the index ring hold where a flash stands for a table.
use Rattle.std.proofs.Common.{◌≡◌, ℕ, ◌+◌, ◌-◌, ◌*◌, ◌^◌, ◌<◌, ◌≤◌, true, false, nat_lt, IsTrue, Option, Some, None, IfSome, List, [], ◌∷◌, length, take, refl, sym, ◌∙◌, ap, subst, arith}
use Rattle.std.specs.List.{slice_get, last_or}
use Rattle.std.specs.Option.{option_map, unwrap_or}
use Rattle.std.proofs.lemmas.Bool.{lt-ltb}
use Rattle.std.proofs.Math.Nat.{div-le_self}
use Rattle.fl_base.specs.declared.types.RingPlace.{RingPlace}
use Rattle.fl_bitmap.specs.Widths.{is_bits}
use Rattle.fl_flash.specs.Flash.{FlashState, page_at}
use Rattle.fl_index.specs.Standing.{HasIndex, HoldsIndex}
use Rattle.fl_index.proofs.Lists.{below-end, firsts-length}
use Rattle.fl_index.proofs.MountsInTable.{good-ring, state-len}
use Rattle.fl_index.proofs.LookupsOfTable.{index-page}
use Rattle.fl_index.proofs.State.{shape_in, full_count, HaveSize, Found, to-state, to-index}
use Rattle.fl_model.specs.Facts.{is_some_ring, counts_in}
use Rattle.fl_model.specs.Image.{IsRingImage, HoldsEntries}
use Rattle.fl_model.specs.Layout.{IndexEntry, IndexPage}
use Rattle.fl_model.specs.Mount.{index_end}
use Rattle.fl_model.specs.Record.{Plan, entry_len, entries_per_page}
use Rattle.fl_model.specs.Ring as model
use Rattle.fl_model.specs.Table.{Table, IndexRing, shape_of, firsts, full_pages}
use Rattle.fl_model.proofs.Lists.{slice_get-short, each-at}
use Rattle.fl_model.proofs.FullIndex.{first-at}
use Rattle.fl_plan.specs.Limits.{IsRingSize}
use Rattle.fl_plan.specs.Plan.{Label, bits_in, blocks_in, plan_of_table}
use Rattle.fl_plan.specs.declared.table_config.TableConfig.{TableConfig}
use Rattle.fl_ring.specs.Mounting.{IsGood}
use Rattle.fl_ring.specs.Ring.{Shape, IsShape, place}
use Rattle.fl_parts.specs.Pages.{bytes_in}
use Rattle.fl_parts.proofs.ListsStay.{has-index}
use Rattle.fl_check.specs.Entries.{entries_in, HaveEntries}
use Rattle.fl_rules.specs.Marks.{kept_page}
use Rattle.fl_rules.specs.RingRules.{NoRows, IsRingSound}
use Rattle.fl_rules.specs.Tally.{listed_to}
use Rattle.fl_check.specs.Whole.{OfRing, shape_in as ring_shape, rows_shape, form_in, layout_in, end_in, indexing, IsIndexForm, IsIndexSound}
use Rattle.fl_check.specs.Whole as whole
use Rattle.fl_rules.specs.declared.numbering.Numbering.{Numbering}
use Rattle.fl_check.proofs.Wholes.{of_ring, of_none}
use Rattle.fl_check.proofs.ConfigFacts.{some-bits, some-room}
use Rattle.fl_check.proofs.RingReads.{Reads}
use Rattle.fl_sound.proofs.DataPart.{StandsOn, plain, idle, told, untold}
use Rattle.fl_sound.proofs.DataPart as parts
use Rattle.fl_sound.proofs.IndexRule.{ListsPages, end-is, have-entries}
use Rattle.fl_sound.proofs.RingReads.{IsOf}
use Rattle.fl_sound.proofs.RingSound.{SoundRing, AreFormed, sizes, counts-some, sound-ring}

-- the index ring in its place
pub record IndexAt (label : Label) (config : TableConfig) (f : FlashState) (table : Table) (x : Shape) : Type 0 where
  pub n : Numbering
  pub sound : IsRingSound (IsIndexForm config) NoRows (page_at f) x 0 n
  pub end : listed_to (entries_in config.geometry.page (form_in config)) (page_at f) x n.marks n.marks.kept ≡ index_end (plan_of_table label config) table
  pub entries : (rows : Numbering) → Reads (page_at f) (rows_shape config) (index_end (plan_of_table label config) table) table.rows rows → HaveEntries (page_at f) x (rows_shape config) (indexing config n rows)

-- .. which a table may not have
pub record IndexPart (label : Label) (config : TableConfig) (f : FlashState) (table : Table) : Type 0 where
  pub n : Option Numbering
  pub sound : IsIndexSound config (page_at f) n
  pub end : whole.index_end config (page_at f) n ≡ index_end (plan_of_table label config) table
  pub entries : (rows : Numbering) → Reads (page_at f) (rows_shape config) (index_end (plan_of_table label config) table) table.rows rows →
      OfRing (λ place n. HaveEntries (page_at f) (ring_shape config place) (rows_shape config) (indexing config n rows)) config.index n

module _ (label : Label) (config : TableConfig) (f : FlashState) (table : Table) (is : StandsOn label config f table) where
  abbrev plan : Plan
  plan = plan_of_table label config

  abbrev first : ℕ
  first = config.rows.first_block + config.rows.blocks

  module _ (at : RingPlace) (at_is : config.index ≡ Some at) (begins : at.first_block ≡ config.rows.first_block + config.rows.blocks) (ring_there : model.Ring) (ring_is : table.index ≡ Some ring_there) where
    blocks_is : blocks_in config.index ≡ at.blocks
    blocks_is = ap blocks_in at_is

    limit : IsRingSize at
    limit = subst (λ (o : Option RingPlace). IfSome o IsRingSize) at_is is.fits.limits.index

    reach : at.first_block + at.blocks ≤ f.blocks
    reach = subst (λ (o : Option RingPlace). IfSome o (λ place. place.first_block + place.blocks ≤ f.blocks)) at_is is.fits.index

    large : 64 ≤ config.geometry.page
    large = is.fits.limits.geometry.page_low

    bits : IsTrue (is_bits (bits_in config.buckets))
    bits = some-bits label config at at_is is.fits.limits

    per : entries_in config.geometry.page (form_in config) ≡ entries_per_page (plan_of_table label config)
    per = refl

    some : 0 < entries_per_page (plan_of_table label config)
    some = some-room config.geometry.page (form_in config) (bits_in config.buckets) bits refl large

    size : HaveSize (config.rows.first_block + config.rows.blocks) (plan_of_table label config) (page_at f)
    size = sizes f config.geometry first (blocks_in config.index) is.reaches is.fits.geometry (omega (arith, blocks_is, reach, begins)) (omega (arith, blocks_is, limit.0)) (omega (arith, is.fits.limits.geometry.block_low))

    shape : IsShape (shape_in (config.rows.first_block + config.rows.blocks) (plan_of_table label config))
    shape = record { blocks = omega (arith, blocks_is, limit.0); per_block = is.fits.limits.geometry.block_low; size = large }

    model_shape : model.IsShape (shape_of (plan_of_table label config) IndexRing)
    model_shape = record { blocks = omega (arith, blocks_is, limit.0); pages = is.fits.limits.geometry.block_low }

    found : Found (config.rows.first_block + config.rows.blocks) (plan_of_table label config) (page_at f) size shape some table
    found = to-state first plan (page_at f) size shape some table ring_there
        (has-index plan table ring_there ring_is (plain label config f table is) (let i = idle label config f table is in omega (arith, ap (λ (waiting : List IndexEntry). length waiting) i.waiting)))
        (subst (λ (o : Option model.Ring). IfSome o (λ ring. IsRingImage (shape_of plan IndexRing) ring (bytes_in (page_at f) config.rows.first_block plan IndexRing) (HoldsEntries plan table ring))) ring_is is.rests.pages.index)

    abbrev ring : model.Ring
    ring = found.is.ring

    facts : HasIndex (plan_of_table label config) table found.is.ring
    facts = found.is.facts

    image : HoldsIndex (page_at f) (config.rows.first_block + config.rows.blocks) (plan_of_table label config) table found.is.ring
    image = to-index first plan (page_at f) size shape some table found.s found.is found.on

    good : IsGood f (shape_in (config.rows.first_block + config.rows.blocks) (plan_of_table label config)) 0 found.s
    good = good-ring first plan model_shape some table found.s found.is f is.told found.on

    is-of : IsOf found.s found.is.ring
    is-of = record {
      next = sym (ap (λ (r : model.Ring). r.next) found.is.counts);
      count = state-len plan table found.s found.is;
      some = λ i c e. counts-some (full_count plan) (λ body. some) found.s.kept i c (sym (ap (λ (r : model.Ring). slice_get r.counts i) found.is.counts) ∙ e);
    }

    low-first : (i first_page : ℕ) → slice_get (firsts table) (full_pages (take i found.is.ring.counts)) ≡ Some first_page → first_page < 2 ^ 32
    low-first i first_page listed =
        let h = facts in
        let end = below-end (entries_per_page plan) (firsts table) (full_pages (take i ring.counts)) first_page h.firsts listed in
        omega (arith, end, h.listed, h.rows_number)

    first-listed : (i : ℕ) (held : IndexPage) → slice_get table.index_pages (full_pages (take i found.is.ring.counts)) ≡ Some held → slice_get (firsts table) (full_pages (take i found.is.ring.counts)) ≡ Some held.first
    first-listed i held e = first-at table.index_pages (full_pages (take i ring.counts)) held e

    many : (i : ℕ) (held : IndexPage) → slice_get table.index_pages (full_pages (take i found.is.ring.counts)) ≡ Some held → length held.entries ≡ entries_per_page (plan_of_table label config)
    many i held e = each-at (λ (p : IndexPage). length p.entries ≡ entries_per_page plan) table.index_pages (full_pages (take i ring.counts)) held (let h = facts in h.index_fit) e

    forms : AreFormed (IsIndexForm config) (page_at f) (shape_in (config.rows.first_block + config.rows.blocks) (plan_of_table label config)) found.is.ring
    forms i c e some_count =
        let h = image.kept i c e some_count in
        (size (model.oldest ring + i), record { first = h.holds.first; entries = h.holds.entries; small = low-first i h.holds.first (first-listed i h.holds h.is); full = many i h.holds h.is; bytes = h.bytes })

    sound : SoundRing (IsIndexForm config) NoRows (page_at f) (shape_in (config.rows.first_block + config.rows.blocks) (plan_of_table label config)) 0 found.is.ring
    sound = sound-ring f (shape_in first plan) 0 found.s shape good ring is-of (IsIndexForm config) NoRows forms (λ n reads. tt)

    listings : (i c : ℕ) → slice_get found.is.ring.counts i ≡ Some c → 0 < c
        → ListsPages (plan_of_table label config) table found.is.ring i (page_at f (kept_page (shape_in (config.rows.first_block + config.rows.blocks) (plan_of_table label config)) sound.n.marks i))
    listings i c e some_count =
        let h = image.kept i c e some_count in
        let lt = slice_get-short ring.counts i c e in
        let k = facts in
        let small : model.oldest ring + i < 2 ^ 32 = omega (arith, lt, k.is_ring.not_negative, k.number) in
        let short = is.fits.limits.geometry.page_high in
        let few : entries_per_page plan < 2 ^ 16 = omega (arith, div-le_self (config.geometry.page - 24) (entry_len plan), short) in
        let p = page_at f (kept_page (shape_in first plan) sound.n.marks i) in
        let listed = first-listed i h.holds h.is in
        let shows = index-page plan (model.oldest ring + i) h.holds.first h.holds.entries p small (low-first i h.holds.first listed) (many i h.holds h.is) few (sound.reads.at i lt ∙ h.bytes) in
        record {
          first = h.holds.first;
          entries = h.holds.entries;
          first_is = shows.first_is;
          listed = listed;
          full = many i h.holds h.is;
          at = shows.at;
          tell = k.tell (full_pages (take i ring.counts)) h.holds h.is;
        }

    index-here : IndexAt label config f table (shape_in (config.rows.first_block + config.rows.blocks) (plan_of_table label config))
    index-here = record {
      n = sound.n;
      sound = sound.sound;
      end = end-is plan (page_at f) (shape_in first plan) (rows_shape config) (index_end plan table) table ring sound.n sound.n facts sound.reads per listings;
      entries = λ rows reads.
          have-entries plan (page_at f) (shape_in first plan) (rows_shape config) (index_end plan table) table ring sound.n rows facts sound.reads per listings
          reads (let h = plain label config f table is in h.rows.not_negative) refl (layout_in config) (told label config f table is rows reads bits) (untold label config f table is rows reads);
    }

    shape-is : shape_in (config.rows.first_block + config.rows.blocks) (plan_of_table label config) ≡ ring_shape config at
    shape-is =
        ap (λ (k : ℕ). record { first = k * config.geometry.block; blocks = blocks_in config.index; per_block = config.geometry.block; size = config.geometry.page }) (sym begins)
        ∙ ap (λ (k : ℕ). record { first = at.first_block * config.geometry.block; blocks = k; per_block = config.geometry.block; size = config.geometry.page }) blocks_is

    index-there : IndexPart label config f table
    index-there = by_part (subst (IndexAt label config f table) shape-is index-here)
      where
        by_part : IndexAt label config f table (ring_shape config at) → IndexPart label config f table
        by_part a = record {
          n = Some a.n;
          sound = of_ring (λ place n. IsRingSound (IsIndexForm config) NoRows (page_at f) (ring_shape config place) 0 n) config.index (Some a.n) at a.n at_is refl a.sound;
          end = ap (λ (o : Option RingPlace). end_in config (page_at f) o (Some a.n)) at_is ∙ a.end;
          entries = λ rows reads. of_ring (λ place n. HaveEntries (page_at f) (ring_shape config place) (rows_shape config) (indexing config n rows)) config.index (Some a.n) at a.n at_is refl (a.entries rows reads);
        }

  -- a table without an index lists nothing
  index-none : config.index ≡ None → table.index ≡ None → IndexPart label config f table
  index-none none ring_none = record {
    n = None;
    sound = of_none (λ place n. IsRingSound (IsIndexForm config) NoRows (page_at f) (ring_shape config place) 0 n) config.index none;
    end = ap (λ (o : Option RingPlace). end_in config (page_at f) o None) none ∙ sym (ends (firsts table) (let h = parts.facts label config f table is in firsts-length table.index_pages ∙ h.index_each ∙ ap (λ (o : Option model.Ring). full_pages (counts_in o)) ring_none));
    entries = λ rows reads. of_none (λ place n. HaveEntries (page_at f) (ring_shape config place) (rows_shape config) (indexing config n rows)) config.index none;
  }
    where
      ends : (xs : List ℕ) → length xs ≡ 0 → unwrap_or (option_map (λ page. page + entries_per_page (plan_of_table label config)) (last_or None xs)) 0 ≡ 0
      ends [] e = refl
      ends (x ∷ xs) e = absurd (omega (arith, e))

  pub index-part : IfSome config.index (λ place. place.first_block ≡ config.rows.first_block + config.rows.blocks) → IndexPart label config f table
  index-part begins = by_place config.index refl begins table.index refl (let h = plain label config f table is in h.index.has)
    where
      no : {A : Type 0} → false ≡ true → A
      no e = cc

      by_place : (o : Option RingPlace) → config.index ≡ o → IfSome o (λ place. place.first_block ≡ config.rows.first_block + config.rows.blocks)
          → (r : Option model.Ring) → table.index ≡ r → is_some_ring table.index ≡ nat_lt 0 (blocks_in config.index) → IndexPart label config f table
      by_place None e b None k has = index-none e k
      by_place None e b (Some ring) k has = no (sym (ap (λ (o : Option RingPlace). nat_lt 0 (blocks_in o)) e) ∙ sym has ∙ ap is_some_ring k)
      by_place (Some place) e b None k has =
          let size = subst (λ (o : Option RingPlace). IfSome o IsRingSize) e is.fits.limits.index in
          no (sym (ap is_some_ring k) ∙ has ∙ ap (λ (o : Option RingPlace). nat_lt 0 (blocks_in o)) e ∙ lt-ltb 0 place.blocks (omega (arith, size.0)))
      by_place (Some place) e b (Some ring) k has = index-there place e b ring k
