-- No command reads many pages, where the configuration is a small one.
use Rattle.std.proofs.Common.{◌≡◌, ℕ, zero, suc, ◌+◌, ◌-◌, ◌*◌, ◌/◌, ◌%◌, ◌<◌, ◌≤◌, Bool, true, false, cond, ◌&&◌, nat_lt, ◌==◌, Option, Some, None, option_map, unwrap_or, List, [], ◌∷◌, length, count_by, take, drop, length-take, length-drop, refl, sym, ◌∙◌, ap, subst, ◌⊎◌, inl, inr, if◌then◌else◌, arith, MatchOption, MatchBool, IfSome}
use Rattle.std.specs.List.{slice_get, AllByRecursion}
use Rattle.std.proofs.lemmas.Bool.{ltb-true, le-ltb, ne_eqb, cases_lt, false≢true}
use Rattle.std.proofs.lemmas.List.Sums.{count_by-le-length}
use Rattle.std.proofs.lemmas.Nat.{mod_below}
use Rattle.std.proofs.Math.Nat.{suc-mul, add-mul, mul_comm, mul-le-mul_right, div-le_self, div-le_of_le-mul, lt-div-mul-add, div-zero}
use Rattle.std.proofs.lemmas.Option.{none-some}
use Rattle.fl_base.specs.declared.types.KeyRange.{KeyRange}
use Rattle.fl_base.specs.declared.types.Span.{Span}
use Rattle.fl_model.specs.Record.{Plan, Config, has_index, content_per_page, bytes_equal}
use Rattle.fl_model.specs.Ring.{Ring, IsRing, oldest}
use Rattle.fl_model.specs.Table.{Table, Entry, IndexRing, VarRing, shape_of, full_pages}
use Rattle.fl_model.specs.Content.{ContentPage, content_page}
use Rattle.fl_model.specs.Agrees.{content_at, reach_of, HoldsBlob, BlobsOf}
use Rattle.fl_model.specs.Facts.{IsTable, is_some_ring}
use Rattle.fl_model.specs.Query.{entry_at, page_stands, BlobState, Stands, Lost, blob_in}
use Rattle.fl_model.specs.Limits.{scan_limit, past, page_behind, is_indexed, is_spanned, is_wanted, in_pages, first_page, last_page, numbers_of}
use Rattle.fl_base.specs.Bits.{bits}
use Rattle.fl_model.specs.Spline.{lookup_limit, voids_of, is_pending_key, is_covered, retained}
use Rattle.fl_model.proofs.EntriesStayTold.{numbers-length}
use Rattle.fl_model.proofs.Lists.{each-at}
use Rattle.fl_model.proofs.StandingPages.{stands-not}
use Rattle.fl_words.specs.Command as command
use Rattle.fl_words.specs.Command.{Command}
use Rattle.fl_machine.specs.Found.{HasRoom}
use Rattle.fl_machine.specs.Machine.{Machine, OpenCursor}
use Rattle.fl_machine.specs.Step.{Moment, Located, located, located_from, cursor_at, no_column}
use Rattle.fl_machine.specs.Reads.{none_read, lowest_of, length_of, length_of_blob, blob_limit, OnTable, OnColumns, OnCursor, WithinScan, WithinMount, LimitOf}
use Rattle.fl_machine.specs.Small.{IsSmallPlan, IsSmall, AreTables, most_of_a_command}

-- a ring keeps no more pages than it has
ring-short : (blocks pages next kept : ℕ) → 1 ≤ blocks → 1 ≤ pages → kept ≤ (blocks - 1) * pages + next % pages → kept ≤ blocks * pages
ring-short zero pages next kept one some h = omega (arith, one)
ring-short (suc b) pages next kept one some h =
    let below = mod_below next pages (omega (arith, some)) in
    let less : (suc b - 1) * pages ≡ b * pages = ap (λ n. n * pages) (let e : suc b - 1 ≡ b = omega arith in e) in
    omega (arith, h, below, less, suc-mul b pages)

bits-few : (n : ℕ) → bits n ≤ 64
bits-few n = omega arith

-- a table of a small plan
module _ (knots : ℕ) (plan : Plan) (table : Table) (small : IsSmallPlan plan) (room : HasRoom plan) (is : IsTable plan table) where
  all-pages : plan.data_blocks * plan.geometry.block + plan.index_blocks * plan.geometry.block + plan.var_blocks * plan.geometry.block ≤ 65536
  all-pages = omega (arith, small.pages, add-mul (plan.data_blocks + plan.index_blocks + plan.var_blocks) plan.log_blocks plan.geometry.block, add-mul (plan.data_blocks + plan.index_blocks) plan.var_blocks plan.geometry.block, add-mul plan.data_blocks plan.index_blocks plan.geometry.block)

  data-pages : length table.rows.counts ≤ plan.data_blocks * plan.geometry.block
  data-pages = ring-short plan.data_blocks plan.geometry.block table.rows.next (length table.rows.counts) (omega (arith, room.blocks)) (omega (arith, room.pages)) is.rows.kept

  voids-few : voids_of table ≤ length table.rows.counts
  voids-few = count_by-le-length _ table.rows.counts

  lookup-few : (key : ℕ) → lookup_limit knots plan table key ≤ 512 + plan.data_blocks * plan.geometry.block
  lookup-few key = by_place (is_pending_key table key) (is_covered (retained knots plan.error table.points) key)
    where
      by_place : (p c : Bool) → cond p 0 (cond c (2 * plan.error + 2 + voids_of table) (bits (length table.rows.counts) + 1 + voids_of table)) ≤ 512 + plan.data_blocks * plan.geometry.block
      by_place true c = omega arith
      by_place false true = omega (arith, small.error, voids-few, data-pages)
      by_place false false = omega (arith, bits-few (length table.rows.counts), voids-few, data-pages)

  index-few : (spanned : Bool) → cond (has_index plan && spanned) (unwrap_or (option_map (λ (ring : Ring). full_pages ring.counts) table.index) 0) 0 ≤ plan.index_blocks * plan.geometry.block
  index-few spanned = by_index (nat_lt 0 plan.index_blocks) spanned refl table.index is.index
    where
      by_index : (i s : Bool) → nat_lt 0 plan.index_blocks ≡ i → (o : Option Ring) → IfSome o (IsRing (shape_of plan IndexRing)) →
          cond (i && s) (unwrap_or (option_map (λ (ring : Ring). full_pages ring.counts) o) 0) 0 ≤ plan.index_blocks * plan.geometry.block
      by_index false s e o h = omega arith
      by_index true false e o h = omega arith
      by_index true true e None h = omega arith
      by_index true true e (Some ring) h =
          let some = ltb-true 0 plan.index_blocks e in
          let kept = ring-short plan.index_blocks plan.geometry.block ring.next (length ring.counts) (omega (arith, some)) (omega (arith, room.pages)) h.kept in
          let full = count_by-le-length (nat_lt 0) ring.counts in
          omega (arith, kept, full)

  none-short : 0 / content_per_page plan ≤ plan.var_blocks * plan.geometry.block + 1
  none-short = let e = div-le_self 0 (content_per_page plan) in omega (arith, e)

  -- the ring of variable data keeps no more pages than it has
  var-few : (ring : Ring) → table.var ≡ Some ring → ring.next - oldest ring ≤ plan.var_blocks * plan.geometry.block
  var-few ring is_var =
      let h : IsRing (shape_of plan VarRing) ring = subst (λ (o : Option Ring). IfSome o (IsRing (shape_of plan VarRing))) is_var is.var in
      let has : nat_lt 0 plan.var_blocks ≡ true = sym is.has_rings.1 ∙ ap is_some_ring is_var in
      let some = ltb-true 0 plan.var_blocks has in
      let kept = ring-short plan.var_blocks plan.geometry.block ring.next (length ring.counts) (omega (arith, some)) (omega (arith, room.pages)) h.kept in
      omega (arith, kept, h.not_negative)

  past-few : (range : KeyRange) (span : Option Span) → past plan table range span ≤ 1
  past-few range span = by_test (plan.full_index && is_spanned span && unwrap_or (option_map (is_indexed plan table) (page_behind table range.high)) true)
    where
      by_test : (b : Bool) → cond b 0 1 ≤ 1
      by_test true = omega arith
      by_test false = omega arith

  scan-few : (range : KeyRange) (span : Option Span) (lowest : ℕ) → scan_limit knots plan table range span lowest ≤ 514 + 65536 + 65536 + 65536
  scan-few range span lowest = by_place (is_pending_key table lowest)
    where
      wanted : ℕ
      wanted = count_by (λ number. in_pages (first_page table lowest) (last_page table range.high) number && is_wanted plan table span number) (numbers_of table)

      few : wanted ≤ plan.data_blocks * plan.geometry.block
      few =
          let within = count_by-le-length (λ number. in_pages (first_page table lowest) (last_page table range.high) number && is_wanted plan table span number) (numbers_of table) in
          omega (arith, within, numbers-length (oldest table.rows) (length table.rows.counts), data-pages)

      by_place : (p : Bool) →
          cond p 0 (lookup_limit knots plan table lowest + 1 + past plan table range span + voids_of table + cond (has_index plan && is_spanned span) (unwrap_or (option_map (λ (ring : Ring). full_pages ring.counts) table.index) 0) 0 + wanted) ≤ 514 + 65536 + 65536 + 65536
      by_place true = omega arith
      by_place false = omega (arith, lookup-few lowest, past-few range span, voids-few, data-pages, index-few (is_spanned span), few, all-pages)

  -- the entry of a key stands among the entries
  found-at : (key : ℕ) (entries : List Entry) (entry : Entry) → entry_at key entries ≡ Some entry → (i : ℕ) × (slice_get entries i ≡ Some entry)
  found-at key [] entry e = absurd (none-some entry e)
  found-at key (x ∷ entries) entry e = by_key (x.kept.key == key) e (found-at key entries entry)
    where
      by_key : (b : Bool) → cond b (Some x) (entry_at key entries) ≡ Some entry → (entry_at key entries ≡ Some entry → (i : ℕ) × (slice_get entries i ≡ Some entry)) →
          (i : ℕ) × (slice_get (x ∷ entries) i ≡ Some entry)
      by_key true h go = (0, h)
      by_key false h go = let k = go h in (suc k.0, k.1)

  -- a page of which bytes are used is not behind the next one
  content-short : (ring : Ring) (number : ℕ) (page : ContentPage) → content_at plan table ring number ≡ Some page → 0 < page.used → number ≤ ring.next
  content-short ring number page e some = elim (cases_lt number ring.next) [
    | inl lt ↦ omega (arith, lt)
    | inr ge ↦ by_waiting ge (used_is (subst (λ (b : Bool). cond b (if page_stands ring number then slice_get table.var_pages (full_pages (take (number - oldest ring) ring.counts)) else None) (Some waits) ≡ Some page) (le-ltb number ring.next ge) e))
  ]
    where
      most : ℕ
      most = content_per_page plan

      bytes : List ℕ
      bytes = take most (drop ((number - ring.next) * most) table.buffered)

      waits : ContentPage
      waits = content_page plan bytes

      used_is : Some waits ≡ Some page → length bytes ≡ page.used
      used_is h = let same : waits ≡ page = cc in ap (λ (p : ContentPage). p.used) same

      by_waiting : ring.next ≤ number → length bytes ≡ page.used → number ≤ ring.next
      by_waiting ge used = elim (cases_lt ring.next number) [
        | inl lt ↦
            let whole : 1 * most ≤ (number - ring.next) * most = mul-le-mul_right most (let k : 1 ≤ number - ring.next = omega (arith, lt) in k) in
            let a = length-take most (drop ((number - ring.next) * most) table.buffered) in
            let b = length-drop ((number - ring.next) * most) table.buffered in
            absurd (omega (arith, whole, a, b, used, some, is.fill))
        | inr le ↦ le
      ]

  -- a page that stands isn't before the oldest one
  stands-kept : (ring : Ring) (number : ℕ) → page_stands ring number ≡ true → oldest ring ≤ number
  stands-kept ring number e = elim (cases_lt number (oldest ring)) [
    | inl lt ↦ absurd (false≢true (sym (stands-not ring number lt) ∙ e))
    | inr ge ↦ ge
  ]

  -- the bytes of a blob that stands are in kept pages and the next one
  stands-short : (ring : Ring) (entry : Entry) (bytes : List ℕ) → table.var ≡ Some ring → page_stands ring entry.page ≡ true → HoldsBlob plan table ring entry bytes →
      length bytes / content_per_page plan ≤ plan.var_blocks * plan.geometry.block + 1
  stands-short ring entry bytes is_var stands held =
      let reach = reach_of plan entry bytes in
      let last = content-short ring (entry.page + reach) (held.pages reach) (held.there reach (omega arith)) (omega (arith, held.ends)) in
      let first = stands-kept ring entry.page stands in
      let kept = var-few ring is_var in
      let within : length bytes / content_per_page plan ≤ reach + 1 = by_room (cases_lt 0 (content_per_page plan)) in
      omega (arith, last, first, kept, within)
    where
      by_room : (0 < content_per_page plan) ⊎ (content_per_page plan ≤ 0) → length bytes / content_per_page plan ≤ reach_of plan entry bytes + 1
      by_room (inl some) =
          let x = entry.offset + length bytes - 1 in
          let less : x < x / content_per_page plan * content_per_page plan + content_per_page plan = lt-div-mul-add some in
          let whole : content_per_page plan * (x / content_per_page plan + 1) ≡ x / content_per_page plan * content_per_page plan + content_per_page plan =
          mul_comm (content_per_page plan) (x / content_per_page plan + 1) ∙ add-mul (x / content_per_page plan) 1 (content_per_page plan) ∙ omega arith in
          div-le_of_le-mul (content_per_page plan) (omega (arith, less, whole))
      by_room (inr none) =
          let zero_room : content_per_page plan ≡ 0 = omega (arith, none) in
          let e : length bytes / content_per_page plan ≡ 0 = ap (λ n. length bytes / n) zero_room ∙ div-zero (length bytes) in
          omega (arith, e)

  blob-short : (found : Option Entry) → ((entry : Entry) → found ≡ Some entry → (i : ℕ) × (slice_get table.entries i ≡ Some entry)) →
      length_of_blob table found / content_per_page plan ≤ plan.var_blocks * plan.geometry.block + 1
  blob-short None at = none-short
  blob-short (Some entry) at = by_blob entry.kept.blob refl
    where
      by_stands : (bytes : List ℕ) (ring : Ring) → table.var ≡ Some ring → entry.kept.blob ≡ Some bytes → 0 < length bytes → (b : Bool) → page_stands ring entry.page ≡ b →
          length_of (cond b (Stands bytes) Lost) / content_per_page plan ≤ plan.var_blocks * plan.geometry.block + 1
      by_stands bytes ring v k some true e =
          let i = at entry refl in
          let blobs = subst (λ (o : Option Ring). IfSome o (BlobsOf plan table)) v is.agrees.blobs in
          stands-short ring entry bytes v e (blobs i.0 entry bytes i.1 k some e)
      by_stands bytes ring v k some false e = none-short

      by_var : (bytes : List ℕ) (o : Option Ring) → table.var ≡ o → entry.kept.blob ≡ Some bytes → 0 < length bytes →
          length_of (cond (unwrap_or (option_map (λ ring. page_stands ring entry.page) o) false) (Stands bytes) Lost) / content_per_page plan ≤ plan.var_blocks * plan.geometry.block + 1
      by_var bytes None v k some = none-short
      by_var bytes (Some ring) v k some = by_stands bytes ring v k some (page_stands ring entry.page) refl

      by_blob : (blob : Option (List ℕ)) → entry.kept.blob ≡ blob → length_of (blob_in table entry blob) / content_per_page plan ≤ plan.var_blocks * plan.geometry.block + 1
      by_blob None k = none-short
      by_blob (Some []) k = none-short
      by_blob (Some (byte ∷ bytes)) k = by_len (length (byte ∷ bytes) == 0) (ne_eqb (length (byte ∷ bytes)) 0 (λ e. omega (arith, e)))
        where
          stood : BlobState
          stood = cond (unwrap_or (option_map (λ ring. page_stands ring entry.page) table.var) false) (Stands (byte ∷ bytes)) Lost

          by_len : (b : Bool) → b ≡ false → length_of (cond b (Stands []) stood) / content_per_page plan ≤ plan.var_blocks * plan.geometry.block + 1
          by_len true e = cc
          by_len false e = by_var (byte ∷ bytes) table.var refl k (omega arith)

  blob-few : (key : ℕ) → blob_limit knots plan table key ≤ 515 + 65536
  blob-few key =
      let short = blob-short (entry_at key table.entries) (found-at key table.entries) in
      omega (arith, lookup-few key, all-pages, short)

-- a table that a name locates stands beside its plan
abbrev StandsAt : List Plan → List Table → Located → Type 0
StandsAt plans tables at = (place : ℕ) × (slice_get plans place ≡ Some at.plan) × (slice_get tables place ≡ Some at.table)

located-stands : (first : ℕ) (plans : List Plan) (tables : List Table) (name : List ℕ) → IfSome (located_from first plans tables name) (StandsAt plans tables)
located-stands first [] tables name = tt
located-stands first (plan ∷ plans) [] name = tt
located-stands first (plan ∷ plans) (table ∷ tables) name = by_name (bytes_equal plan.name name) (located_from (first + 1) plans tables name) (located-stands (first + 1) plans tables name)
  where
    later : (o : Option Located) → IfSome o (StandsAt plans tables) → IfSome o (StandsAt (plan ∷ plans) (table ∷ tables))
    later None h = tt
    later (Some at) h = (suc h.0, h.1, h.2)

    by_name : (b : Bool) (o : Option Located) → IfSome o (StandsAt plans tables) → IfSome (cond b (Some (record { place = first; plan = plan; table = table })) o) (StandsAt (plan ∷ plans) (table ∷ tables))
    by_name true o h = (0, refl, refl)
    by_name false o h = later o h

-- how many pages a scan of a table reads at most
abbrev pub most_of_a_scan : ℕ
most_of_a_scan = 514 + 65536 + 65536 + 65536

pub scan-of-name : (config : Config) (m : Machine) → IsSmall config → AllByRecursion HasRoom config.plans → AreTables config.plans m.tables → (name : List ℕ) (range : KeyRange) (span : Option Span) (lowest : ℕ) →
    IfSome (located config m name) (λ at. scan_limit config.knots at.plan at.table range span lowest ≤ most_of_a_scan)
scan-of-name config m small room tables name range span lowest = by_place (located config m name) (located-stands 0 config.plans m.tables name)
  where
    by_place : (o : Option Located) → IfSome o (StandsAt config.plans m.tables) → IfSome o (λ at. scan_limit config.knots at.plan at.table range span lowest ≤ most_of_a_scan)
    by_place None s = tt
    by_place (Some at) s =
        scan-few config.knots at.plan at.table (each-at IsSmallPlan config.plans s.0 at.plan small.plans s.1) (each-at HasRoom config.plans s.0 at.plan room s.1) (tables s.0 at.plan at.table s.1 s.2) range span lowest

-- the reads of a command from a state of a small configuration
module _ (config : Config) (old : Machine) (moment : Moment) (small : IsSmall config) (room : AllByRecursion HasRoom config.plans) (tables : AreTables config.plans old.tables) where
  abbrev Few : Type 0
  Few = moment.reads ≤ most_of_a_command

  none-few : none_read moment → Few
  none-few none = omega (arith, none)

  on-table : (name : List ℕ) (P : Located → Type 0) → ((at : Located) → IsSmallPlan at.plan → HasRoom at.plan → IsTable at.plan at.table → P at → Few) → OnTable config old moment name P → Few
  on-table name P go h = by_cases old.mounted (located config old name) (located-stands 0 config.plans old.tables name) h
    where
      by_cases : (b : Bool) (o : Option Located) → IfSome o (StandsAt config.plans old.tables) → MatchBool b (MatchOption o (none_read moment) P) (none_read moment) → Few
      by_cases true None s h = none-few h
      by_cases true (Some at) s h =
          go at (each-at IsSmallPlan config.plans s.0 at.plan small.plans s.1) (each-at HasRoom config.plans s.0 at.plan room s.1) (tables s.0 at.plan at.table s.1 s.2) h
      by_cases false o s h = none-few h

  on-columns : (columns : List ℕ) (P : Located → Type 0) (at : Located) → (P at → Few) → OnColumns moment columns P at → Few
  on-columns columns P at go h = by_lacked (no_column at.plan columns) h
    where
      by_lacked : (lacked : Option ℕ) → MatchOption lacked (P at) (λ column. none_read moment) → Few
      by_lacked None h = go h
      by_lacked (Some column) h = none-few h

  within-scan : (range : KeyRange) (span : Option Span) (at : Located) → IsSmallPlan at.plan → HasRoom at.plan → IsTable at.plan at.table → WithinScan config moment range span at → Few
  within-scan range span at s r is h = omega (arith, h, scan-few config.knots at.plan at.table s r is range span range.low)

  over-scan : (name columns : List ℕ) (range : KeyRange) → OnTable config old moment name (OnColumns moment columns (WithinScan config moment range None)) → Few
  over-scan name columns range h =
      on-table name (OnColumns moment columns (WithinScan config moment range None)) (λ at s r is p. on-columns columns (WithinScan config moment range None) at (within-scan range None at s r is) p) h

  on-cursor : (n : ℕ) →
      OnCursor config old moment n (λ c plan table. moment.reads ≤ scan_limit config.knots plan table c.cursor.range c.cursor.span (lowest_of c.cursor)) → Few
  on-cursor n h = by_cases old.mounted (cursor_at old n) h
    where
      Limited : OpenCursor → Plan → Table → Type 0
      Limited c plan table = moment.reads ≤ scan_limit config.knots plan table c.cursor.range c.cursor.span (lowest_of c.cursor)

      by_places : (c : OpenCursor) (p : Option Plan) (t : Option Table) → slice_get config.plans c.table ≡ p → slice_get old.tables c.table ≡ t →
          MatchOption p (none_read moment) (λ plan. MatchOption t (none_read moment) (Limited c plan)) → Few
      by_places c None t e k h = none-few h
      by_places c (Some plan) None e k h = none-few h
      by_places c (Some plan) (Some table) e k h =
          omega (arith, h, scan-few config.knots plan table (each-at IsSmallPlan config.plans c.table plan small.plans e) (each-at HasRoom config.plans c.table plan room e) (tables c.table plan table e k) c.cursor.range c.cursor.span (lowest_of c.cursor))

      by_cases : (b : Bool) (o : Option OpenCursor) →
          MatchBool b (MatchOption o (none_read moment) (λ c. MatchOption (slice_get config.plans c.table) (none_read moment) (λ plan. MatchOption (slice_get old.tables c.table) (none_read moment) (Limited c plan)))) (none_read moment) → Few
      by_cases true None h = none-few h
      by_cases true (Some c) h = by_places c (slice_get config.plans c.table) (slice_get old.tables c.table) refl refl h
      by_cases false o h = none-few h

  mount-few : (b : Bool) → MatchBool b (none_read moment) (WithinMount config old moment) → Few
  mount-few true h = none-few h
  mount-few false h = omega (arith, h.by_pages, small.pages)

  pub limit-few : (c : Command) → LimitOf config old moment c → Few
  limit-few command.Mount h = mount-few old.mounted h
  limit-few (command.Get name key) h = on-table name (λ at. moment.reads ≤ lookup_limit config.knots at.plan at.table key) (λ at s r is p. omega (arith, p, lookup-few config.knots at.plan at.table s r is key, all-pages config.knots at.plan at.table s r is)) h
  limit-few (command.Blob name key) h = on-table name (λ at. moment.reads ≤ blob_limit config.knots at.plan at.table key) (λ at s r is p. omega (arith, p, blob-few config.knots at.plan at.table s r is key)) h
  limit-few (command.Scan name range span) h = on-table name (WithinScan config moment range span) (within-scan range span) h
  limit-few (command.Next cursor count) h = on-cursor cursor h
  limit-few (command.Select name range column op value) h = over-scan name (column ∷ []) range h
  limit-few (command.Project name range columns) h = over-scan name columns range h
  limit-few (command.Agg name range column width) h = over-scan name (column ∷ []) range h
  limit-few (command.Join left right range) h =
      on-table left (λ a. OnTable config old moment right (Both a)) (λ a s r is p. on-table right (Both a) (λ b s' r' is' q.
      omega (arith, q, scan-few config.knots a.plan a.table s r is range None range.low, scan-few config.knots b.plan b.table s' r' is' range None range.low)) p) h
    where
      Both : Located → Located → Type 0
      Both a b = moment.reads ≤ scan_limit config.knots a.plan a.table range None range.low + scan_limit config.knots b.plan b.table range None range.low
  limit-few command.Nothing h = none-few h
  limit-few command.Off h = none-few h
  limit-few (command.Cut n kind) h = none-few h
  limit-few (command.Put name key values blob) h = none-few h
  limit-few (command.Flush name) h = none-few h
  limit-few (command.Open cursor name range span) h = none-few h
  limit-few (command.Close cursor) h = none-few h
  limit-few (command.Stat name) h = none-few h
  limit-few command.Cost h = none-few h
  limit-few (command.Load name count step seed) h = none-few h
  limit-few (command.Device page block) h = none-few h
  limit-few (command.Table line) h = none-few h
