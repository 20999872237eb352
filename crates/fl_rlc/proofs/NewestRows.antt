-- The newest page of a log has the records that its table names logged.
use Rattle.std.proofs.Common.{◌≡◌, ℕ, zero, suc, ◌+◌, ◌-◌, ◌*◌, ◌^◌, ◌<◌, ◌≤◌, ◌⊎◌, inl, inr, Bool, true, false, cond, nat_lt, ◌||◌, Option, Some, None, List, [], ◌∷◌, ◌++◌, length, map, take, filter, replicate, refl, sym, ◌∙◌, ap, subst, arith, append_assoc}
use Rattle.std.specs.List.{AllByRecursion, list_any, slice_get}
use Rattle.std.proofs.Math.Nat.{le-div_iff_mul-le}
use Rattle.std.proofs.Math.Seq.{take-length}
use Rattle.std.proofs.lemmas.Bool.{cases_lt, lt-ltb, true≢false, both_ways}
use Rattle.std.proofs.lemmas.List.{length-map, length_push}
use Rattle.std.proofs.lemmas.Option.{none-some, same_Some}
use Rattle.fl_flash.specs.Flash.{FlashState, page_at}
use Rattle.fl_mark.specs.Mark.{state_of_page}
use Rattle.fl_mark.specs.declared.page_state.PageState.{PageState}
use Rattle.fl_mark.proofs.InModel.{model_state}
use Rattle.fl_model.specs.Facts.{FitsPlan, BlobFits, IsLogPage}
use Rattle.fl_model.specs.Layout.{committed, rows_body}
use Rattle.fl_model.specs.Record.{Plan, RowLayout, row_layout, layout_len, rows_per_page, has_var}
use Rattle.fl_model.specs.Ring as model
use Rattle.fl_model.specs.Row.{Row, IsStorable, stored_row}
use Rattle.fl_model.specs.Table.{Table, Entry, full_pages, has_rows, log_pages}
use Rattle.fl_model.proofs.FullPages.{full-cons, full-one, full-void}
use Rattle.fl_model.proofs.Lists.{slice_get-some, slice_get-short, slice_get-last, each-at, drop_none, any-at}
use Rattle.fl_model.proofs.StoredRows.{stored-row}
use Rattle.fl_page.specs.Page.{IsGoodPage, rows_in}
use Rattle.fl_page.proofs.DataPages.{good_body, rows_in-rows_body}
use Rattle.fl_ring.specs.Newest.{commits, NoneCommitted}
use Rattle.fl_ring.specs.Ring.{place}
use Rattle.fl_ring.proofs.Found.{committed_state}
use Rattle.fl_schema.specs.Form.{layout_with}
use Rattle.fl_schema.specs.declared.column.ColumnType.{ColumnType}
use Rattle.fl_schema.specs.declared.schema.KeyWidth.{KeyWidth}
use Rattle.fl_ring.proofs.Images.{committed_is}
use Rattle.fl_parts.proofs.KeyOrder.{rising}
use Rattle.fl_parts.specs.Reading.{keys_fault}
use Rattle.fl_rlc.specs.Joining.{HasNewest}
use Rattle.fl_rlc.specs.Memory.{next_in, oldest_in, page_in, log_shape}
use Rattle.fl_rlc.specs.Pages.{log_body, IsPage}
use Rattle.fl_rlc.specs.Replaying.{MayStand}
use Rattle.fl_rlc.specs.Standing.{HasRing}
use Rattle.fl_rlc.specs.declared.log.RecordLog.{RecordLog}
use Rattle.fl_rlc.proofs.Bodies.{filter-some}

-- a record of a table that keeps no blobs
pub fits-plain : (plan : Plan) (entry : Entry) → has_var plan ≡ false → FitsPlan plan entry → (entry.kept.blob ≡ None) × (entry.page ≡ 0) × (entry.offset ≡ 0)
fits-plain plan entry none h = by-blob entry.kept.blob refl h.blob
  where
    by-blob : (o : Option (List ℕ)) → entry.kept.blob ≡ o → BlobFits plan entry o → (o ≡ None) × (entry.page ≡ 0) × (entry.offset ≡ 0)
    by-blob None e b = (refl, b.0, b.1)
    by-blob (Some bytes) e b = absurd (true≢false (sym b.0 ∙ none))

all-stored : (plan : Plan) → has_var plan ≡ false → (rows : List Entry) → AllByRecursion (FitsPlan plan) rows → AllByRecursion (IsStorable (row_layout plan)) (map stored_row rows)
all-stored plan none [] h = tt
all-stored plan none (row ∷ rows) h = (stored-row plan row h.0 (λ blob is some. absurd (none-some _ (sym (fits-plain plan row none h.0).0 ∙ is))), all-stored plan none rows h.1)

-- a page of these records, read
pub record IsRead (plan : Plan) (number : ℕ) (logged : List Entry) (page : List ℕ) : Type 0 where
  pub stands : MayStand (row_layout plan) number page
  pub rows : rows_in (row_layout plan) page ≡ map stored_row logged

pub log-page : (key : KeyWidth) (types : List ColumnType) (blobs : Bool) (plan : Plan) (number : ℕ) (rows : List Entry) → layout_with key types blobs ≡ row_layout plan → has_var plan ≡ false → 1 ≤ layout_len (row_layout plan) →
    layout_len (row_layout plan) + 24 ≤ plan.geometry.page → rows_per_page plan < 65536 → IsPage plan rows → number < 2 ^ 32 → IsRead plan number rows (committed (log_body plan number rows))
log-page key types blobs plan number rows same none some_row room small h low =
    let R : List Row = map stored_row rows in
    let len : ℕ = plan.geometry.page - 8 in
    let many : length (map stored_row rows) ≡ length rows = length-map rows stored_row in
    let fits : length rows * layout_len (row_layout plan) ≤ plan.geometry.page - 24 = (le-div_iff_mul-le {k = layout_len (row_layout plan)} {x = length rows} {y = plan.geometry.page - 24} some_row).0 h.few in
    let stored = subst (λ (l : RowLayout). AllByRecursion (IsStorable l) (map stored_row rows)) (sym same) (all-stored plan none rows h.page.fit) in
    let long : 16 + length (map stored_row rows) * layout_len (row_layout plan) ≤ plan.geometry.page - 8 = omega (arith, ap (λ (n : ℕ). n * layout_len (row_layout plan)) many, fits, room) in
    let keys = (rising rows h.page.ascending number 0 rows (drop_none rows) (length rows)).0 in
    let all : map stored_row (take (length rows) rows) ≡ map stored_row rows = ap (map stored_row) (take-length rows) in
    let read : rows_in (row_layout plan) (committed (log_body plan number rows)) ≡ map stored_row rows =
    subst (λ (l : RowLayout). rows_in l (committed (log_of l)) ≡ map stored_row rows) same
    (ap (λ (bytes : List ℕ). rows_in (layout_with key types blobs) bytes) (append_assoc (log_of (layout_with key types blobs)) (replicate 4 0) (replicate 4 255))
    ∙ rows_in-rows_body key types blobs len number 0 R (replicate 4 0 ++ replicate 4 255) stored (omega (arith, many, h.few, small))) in
    record {
      stands = record {
        good = subst (λ (l : RowLayout). IsGoodPage l number (committed (log_of l))) same
            (good_body key types blobs len number 0 R stored low (omega (arith, many, h.some)) (omega (arith, many, h.few, small)) (subst (λ (l : RowLayout). 16 + length (map stored_row rows) * layout_len l ≤ plan.geometry.page - 8) (sym same) long));
        keys = ap (keys_fault number None) (read ∙ sym all) ∙ keys;
      };
      rows = read;
    }
  where
    log_of : RowLayout → List ℕ
    log_of l = rows_body (plan.geometry.page - 8) l number 0 (map stored_row rows)

-- ---- which page is the newest

-- behind the last page that isn't void no page has records
last-full : (counts : List ℕ) (i c : ℕ) → slice_get counts i ≡ Some c → 0 < c → ((j d : ℕ) → i < j → slice_get counts j ≡ Some d → d ≡ 0) → length (filter (nat_lt 0) counts) ≡ full_pages (take i counts) + 1
last-full [] i c e some later = absurd (none-some c e)
last-full (x ∷ counts) zero c e some later =
    let same : x ≡ c = cc in
    let rest : filter (nat_lt 0) counts ≡ [] = all-void counts (λ j d k. later (suc j) d (omega arith) k) in
    ap (λ (l : List ℕ). length l) (filter-some x counts (omega (arith, same, some)) ∙ ap (λ (l : List ℕ). x ∷ l) rest)
  where
    all-void : (counts : List ℕ) → ((j d : ℕ) → slice_get counts j ≡ Some d → d ≡ 0) → filter (nat_lt 0) counts ≡ []
    all-void [] h = refl
    all-void (y ∷ ys) h = ap (λ (b : Bool). cond b (y ∷ filter (nat_lt 0) ys) (filter (nat_lt 0) ys)) (ap (nat_lt 0) (h 0 y refl)) ∙ all-void ys (λ j d k. h (suc j) d k)
last-full (x ∷ counts) (suc i) c e some later =
    let more = last-full counts i c e some (λ j d lt k. later (suc j) d (omega (arith, lt)) k) in
    by-count (cases_lt 0 x) more
  where
    by-count : (0 < x) ⊎ (x ≤ 0) → length (filter (nat_lt 0) counts) ≡ full_pages (take i counts) + 1 → length (filter (nat_lt 0) (x ∷ counts)) ≡ full_pages (x ∷ take i counts) + 1
    by-count (inl lt) more =
        let here = ap (λ (l : List ℕ). length l) (filter-some x counts lt) in
        omega (arith, here, more, full-cons x (take i counts), full-one x lt)
    by-count (inr le) more =
        let is : x ≡ 0 = omega (arith, le) in
        let here : length (filter (nat_lt 0) (x ∷ counts)) ≡ length (filter (nat_lt 0) counts) = ap (λ (y : ℕ). length (cond (nat_lt 0 y) (x ∷ filter (nat_lt 0) counts) (filter (nat_lt 0) counts))) is in
        omega (arith, here, more, full-cons x (take i counts), full-void x le)

-- no page has records
none-any : (counts : List ℕ) → ((j d : ℕ) → slice_get counts j ≡ Some d → d ≡ 0) → list_any (nat_lt 0) counts ≡ false
none-any [] h = refl
none-any (y ∷ ys) h = ap (λ (n : ℕ). nat_lt 0 n || list_any (nat_lt 0) ys) (h 0 y refl) ∙ none-any ys (λ j d k. h (suc j) d k)

module _ (l : RecordLog) (f : FlashState) (first : ℕ) (plan : Plan) (table : Table) (h : HasRing l f first plan table) (sizes : (n : ℕ) → length (page_at f (place (log_shape l) n)) ≡ l.geometry.page) where
  many : model.oldest h.ring + length h.ring.counts ≡ h.ring.next
  many = omega (arith, h.pages.facts.not_negative)

  committed-is : (i c : ℕ) → slice_get h.ring.counts i ≡ Some c → 0 < c → commits (state_of_page (page_in l f (model.oldest h.ring + i))) ≡ true
  committed-is i c e some =
      let held = h.pages.image.kept i c e some in
      ap (λ (s : PageState). commits s) (ap state_of_page (held.bytes ∙ committed_is (log_body plan (model.oldest h.ring + i) held.holds)) ∙ committed_state (log_body plan (model.oldest h.ring + i) held.holds))

  void-is : (i : ℕ) → slice_get h.ring.counts i ≡ Some 0 → commits (state_of_page (page_in l f (model.oldest h.ring + i))) ≡ false
  void-is i e =
      let long : 8 ≤ length (page_in l f (model.oldest h.ring + i)) = omega (arith, sizes (model.oldest h.ring + i), l.served.page_least) in
      ap (λ (s : PageState). commits s) ((model_state (page_in l f (model.oldest h.ring + i)) long).void.1 (h.pages.image.void i e))

  -- none of some pages is committed
  all-void : (from : ℕ) → NoneCommitted (page_at f) (log_shape l) from (next_in l) → (i c : ℕ) → slice_get h.ring.counts i ≡ Some c → from ≤ model.oldest h.ring + i → c ≡ 0
  all-void from none i zero e le = refl
  all-void from none i (suc c) e le =
      let short = slice_get-short h.ring.counts i (suc c) e in
      absurd (both_ways _ (none (model.oldest h.ring + i) le (omega (arith, short, many, h.next))) (committed-is i (suc c) e (omega arith)))

  -- there is no such page
  pub newest-none : NoneCommitted (page_at f) (log_shape l) (oldest_in l) (next_in l) → table.logged ≡ []
  newest-none none =
      let void : has_rows table.log ≡ false = ap has_rows h.ring_is ∙ none-any h.ring.counts (λ j d k. all-void (oldest_in l) none j d k (omega (arith, h.oldest_is))) in
      h.logged_some void

  -- .. or it is this one
  pub newest-some : (number : ℕ) → oldest_in l ≤ number → number < next_in l → commits (state_of_page (page_in l f number)) ≡ true → NoneCommitted (page_at f) (log_shape l) (number + 1) (next_in l) → HasNewest l f plan table number
  newest-some number low high is later =
      let i = number - model.oldest h.ring in
      let at : model.oldest h.ring + (number - model.oldest h.ring) ≡ number = omega (arith, low, h.oldest_is) in
      let c = slice_get-some h.ring.counts i (omega (arith, low, high, h.oldest_is, h.next, many)) in
      by-count c.0 c.1 at
    where
      by-count : (c : ℕ) → slice_get h.ring.counts (number - model.oldest h.ring) ≡ Some c → model.oldest h.ring + (number - model.oldest h.ring) ≡ number → HasNewest l f plan table number
      by-count zero e at = absurd (both_ways _ (ap (λ (n : ℕ). commits (state_of_page (page_in l f n))) (sym at) ∙ void-is (number - model.oldest h.ring) e) is)
      by-count (suc c) e at =
          let i = number - model.oldest h.ring in
          let some : 0 < suc c = omega arith in
          let held = h.pages.image.kept i (suc c) e some in
          let rows : has_rows table.log ≡ true = ap has_rows h.ring_is ∙ any-at (nat_lt 0) h.ring.counts i (suc c) e (lt-ltb 0 (suc c) some) in
          let pages : log_pages table ≡ table.logged_before ++ table.logged ∷ [] = ap (λ (b : Bool). table.logged_before ++ cond b (table.logged ∷ []) []) rows in
          let full = last-full h.ring.counts i (suc c) e some (λ j d lt k. all-void (number + 1) later j d k (omega (arith, lt, at))) in
          let each : length (log_pages table) ≡ length (filter (nat_lt 0) h.ring.counts) = sym (length-map (log_pages table) (λ (rows : List Entry). length rows)) ∙ ap (λ (ns : List ℕ). length ns) h.pages.each in
          let before : length (log_pages table) ≡ length table.logged_before + 1 = ap (λ (ps : List (List Entry)). length ps) pages ∙ length_push table.logged_before table.logged in
          let place_is : full_pages (take i h.ring.counts) ≡ length table.logged_before = omega (arith, full, each, before) in
          let there : slice_get (log_pages table) (full_pages (take i h.ring.counts)) ≡ Some table.logged =
          ap (λ (n : ℕ). slice_get (log_pages table) n) place_is ∙ (ap (λ (ps : List (List Entry)). slice_get ps (length table.logged_before)) pages ∙ slice_get-last table.logged_before table.logged) in
          let holds : held.holds ≡ table.logged = same (sym held.is ∙ there) in
          let count : length table.logged ≡ suc c = counted (log_pages table) h.ring.counts i c (full_pages (take i h.ring.counts)) table.logged h.pages.each refl e there in
          let few = each-at (λ (count : ℕ). count ≤ rows_per_page plan) h.ring.counts i (suc c) h.pages.few e in
          record {
            bytes = ap (page_in l f) (sym at) ∙ (held.bytes ∙ (ap (λ (rows : List Entry). committed (log_body plan (model.oldest h.ring + i) rows)) holds ∙ ap (λ (n : ℕ). committed (log_body plan n table.logged)) at));
            page = record { some = omega (arith, count); few = omega (arith, count, few); page = each-at (IsLogPage plan) (log_pages table) (full_pages (take i h.ring.counts)) table.logged h.pages.fit there };
            small = omega (arith, high, h.next, h.pages.number);
          }
        where
          same : {a b : List Entry} → Some a ≡ Some b → a ≡ b
          same k = cc

          -- a page has as many records as it counts
          counted : (pages : List (List Entry)) (counts : List ℕ) (i c n : ℕ) (rows : List Entry) → map (λ (rows : List Entry). length rows) pages ≡ filter (nat_lt 0) counts → full_pages (take i counts) ≡ n → slice_get counts i ≡ Some (suc c) →
              slice_get pages n ≡ Some rows → length rows ≡ suc c
          counted pages counts i c n rows each n_is e there =
              same_Some _ _ (sym (mapped pages n rows there) ∙ (ap (λ (ns : List ℕ). slice_get ns n) each ∙ (ap (λ (m : ℕ). slice_get (filter (nat_lt 0) counts) m) (sym n_is) ∙ filtered counts i c e)))
            where
              mapped : (pages : List (List Entry)) (n : ℕ) (rows : List Entry) → slice_get pages n ≡ Some rows → slice_get (map (λ (rows : List Entry). length rows) pages) n ≡ Some (length rows)
              mapped [] n rows e = absurd (none-some rows e)
              mapped (p ∷ pages) zero rows e = let same : p ≡ rows = cc in ap (λ (r : List Entry). Some (length r)) same
              mapped (p ∷ pages) (suc n) rows e = mapped pages n rows e

              filtered : (counts : List ℕ) (i c : ℕ) → slice_get counts i ≡ Some (suc c) → slice_get (filter (nat_lt 0) counts) (full_pages (take i counts)) ≡ Some (suc c)
              filtered [] i c e = absurd (none e)
                where
                  none : None ≡ Some (suc c) → ⊥
                  none k = cc
              filtered (x ∷ counts) zero c e =
                  let same : x ≡ suc c = cc in
                  ap (λ (ns : List ℕ). slice_get ns (full_pages (take 0 (x ∷ counts)))) (filter-some x counts (omega (arith, same))) ∙ ap (λ (y : ℕ). Some y) same
              filtered (x ∷ counts) (suc i) c e = by-first (cases_lt 0 x) (filtered counts i c e)
                where
                  by-first : (0 < x) ⊎ (x ≤ 0) → slice_get (filter (nat_lt 0) counts) (full_pages (take i counts)) ≡ Some (suc c) → slice_get (filter (nat_lt 0) (x ∷ counts)) (full_pages (x ∷ take i counts)) ≡ Some (suc c)
                  by-first (inl lt) k =
                      let n : full_pages (x ∷ take i counts) ≡ suc (full_pages (take i counts)) = omega (arith, full-cons x (take i counts), full-one x lt) in
                      ap (λ (m : ℕ). slice_get (filter (nat_lt 0) (x ∷ counts)) m) n ∙ (ap (λ (ns : List ℕ). slice_get ns (suc (full_pages (take i counts)))) (filter-some x counts lt) ∙ k)
                  by-first (inr le) k =
                      let n : full_pages (x ∷ take i counts) ≡ full_pages (take i counts) = omega (arith, full-cons x (take i counts), full-void x le) in
                      let is : x ≡ 0 = omega (arith, le) in
                      let gone : filter (nat_lt 0) (x ∷ counts) ≡ filter (nat_lt 0) counts = ap (λ (y : ℕ). cond (nat_lt 0 y) (x ∷ filter (nat_lt 0) counts) (filter (nat_lt 0) counts)) is in
                      ap (λ (m : ℕ). slice_get (filter (nat_lt 0) (x ∷ counts)) m) n ∙ (ap (λ (ns : List ℕ). slice_get ns (full_pages (take i counts))) gone ∙ k)
