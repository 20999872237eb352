-- The first row whose blob isn't gone, and the record whose it is.
use Rattle.std.proofs.Common.{◌≡◌, ◌⊎◌, ℕ, suc, ◌+◌, ◌<◌, ◌≤◌, Bool, true, false, cond, inl, inr, Option, Some, None, Err, List, [], ◌∷◌, length, map, refl, sym, ◌∙◌, ap, subst, arith, ◌||◌, ◌&&◌, ◌==◌, nat_le, nat_lt, option_map, unwrap_or, slice_get}
use Rattle.std.specs.List.{find}
use Rattle.std.proofs.lemmas.Bool.{le-leb, lt-leb, cases_lt, false≢true, true≢false}
use Rattle.std.proofs.lemmas.Option.{same_Some}
use Rattle.fl_cursor.proofs.Selected.{all-selected}
use Rattle.fl_base.proofs.Tests.{some_from}
use Rattle.fl_flash.specs.Flash.{FlashState}
use Rattle.fl_model.specs.Facts.{BlobFits, FitsPlan, is_some_ring}
use Rattle.fl_model.specs.Query.{Lost, Stands, blob_in, blob_of, page_stands, selected}
use Rattle.fl_model.specs.Record.{Plan, has_var}
use Rattle.fl_model.specs.Ring.{Ring, oldest}
use Rattle.fl_model.specs.Row.{Row, stored_row}
use Rattle.fl_model.specs.Table.{Table, Entry}
use Rattle.fl_model.proofs.Lists.{each-at}
use Rattle.fl_page.specs.Steps.{Steps}
use Rattle.fl_page.specs.declared.fault.ReadFault.{ReadFault}
use Rattle.fl_page.specs.declared.fault.ReadFault.TheVariants.{Flash, BadPage}
use Rattle.fl_parts.specs.Blobs as variable
use Rattle.fl_table.specs.Standing as standing
use Rattle.fl_table.specs.declared.table.Table as memory
use Rattle.fl_table.proofs.Entries.{few-keys}
use Rattle.fl_var.specs.declared.var_data.VarData.{VarData}
use Rattle.fl_queries.specs.Keys.{all_keys}
use Rattle.fl_queries.specs.OldestBlob.{first_kept, is_kept, is_left, oldest_blob, FindsAmong}

-- ---- among rows

-- what the first of them decides
by-first : (oldest : ℕ) (row : Row) (rows : List Row) (b : Bool) → is_kept oldest row.blob ≡ b → first_kept oldest (row ∷ rows) ≡ option_map (λ (r : Row). r.key) (cond b (Some row) (find (λ (r : Row). is_kept oldest r.blob) rows))
by-first oldest row rows b e = ap (λ (x : Bool). option_map (λ (r : Row). r.key) (cond x (Some row) (find (λ (r : Row). is_kept oldest r.blob) rows))) e

module _ (oldest : ℕ) (row : Row) (before after : List Row) (steps : before ≡ row ∷ after) where
  pub among-taken : is_kept oldest row.blob ≡ true → first_kept oldest before ≡ Some row.key
  among-taken e = ap (first_kept oldest) steps ∙ by-first oldest row after true e

  pub among-passed : is_kept oldest row.blob ≡ false → first_kept oldest before ≡ first_kept oldest after
  among-passed e = ap (first_kept oldest) steps ∙ by-first oldest row after false e

pub among-ended : (oldest : ℕ) (rows : List Row) → rows ≡ [] → first_kept oldest rows ≡ None
among-ended oldest rows e = ap (first_kept oldest) e

pub fewer-left : (row : Row) (before after : List Row) → before ≡ row ∷ after → length before ≡ length after + 1
fewer-left row before after e = ap (λ (l : List Row). length l) e ∙ omega arith

-- a read fails, and no page is bad
pub among-unread : (key : Option ℕ) (fault : ReadFault) (before : List Row) (row : Row) (after : List Row) → Steps (Err fault) before row after → FindsAmong key (Err fault)
among-unread key (Flash fault) before row after steps = tt
among-unread key (BadPage bad) before row after steps = absurd steps

-- ---- among records

-- each record of the rows of these entries
abbrev EachAs : (Entry → Bool) → (Row → Bool) → List Entry → Type 0
EachAs p q entries = (i : ℕ) (entry : Entry) → slice_get entries i ≡ Some entry → q (stored_row entry) ≡ p entry

find-as : (p : Entry → Bool) (q : Row → Bool) (entries : List Entry) → EachAs p q entries →
    option_map (λ (r : Row). r.key) (find q (map stored_row entries)) ≡ option_map (λ (e : Entry). e.kept.key) (find p entries)
find-as p q [] each = refl
find-as p q (entry ∷ entries) each = by-test (p entry) (each 0 entry refl) refl (find-as p q entries (λ i e k. each (suc i) e k))
  where
    by-test : (b : Bool) → q (stored_row entry) ≡ b → p entry ≡ b → option_map (λ (r : Row). r.key) (find q (map stored_row entries)) ≡ option_map (λ (e : Entry). e.kept.key) (find p entries) →
        option_map (λ (r : Row). r.key) (cond (q (stored_row entry)) (Some (stored_row entry)) (find q (map stored_row entries))) ≡ option_map (λ (e : Entry). e.kept.key) (cond (p entry) (Some entry) (find p entries))
    by-test true a b others = rw (a, b) refl
    by-test false a b others = rw (a, b) others

find-none : (p : Entry → Bool) (entries : List Entry) → ((i : ℕ) (entry : Entry) → slice_get entries i ≡ Some entry → p entry ≡ false) → find p entries ≡ None
find-none p [] each = refl
find-none p (entry ∷ entries) each = ap (λ (b : Bool). cond b (Some entry) (find p entries)) (each 0 entry refl) ∙ find-none p entries (λ i e k. each (suc i) e k)

-- ---- which blobs stand

-- a page before the oldest one doesn't stand
page-before : (ring : Ring) (page : ℕ) → length ring.counts ≤ ring.next → page < oldest ring → page_stands ring page ≡ false
page-before ring page within lt = gone (nat_le ring.next page) (nat_le (oldest ring) page) _ (lt-leb ring.next page (omega (arith, within, lt))) (lt-leb (oldest ring) page lt)
  where
    gone : (a b c : Bool) → a ≡ false → b ≡ false → cond a true (b && c) ≡ false
    gone true b c e k = cc
    gone false true c e k = cc
    gone false false c e k = refl

stands-as : (ring : Ring) (page : ℕ) → length ring.counts ≤ ring.next → (page < oldest ring) ⊎ (page_stands ring page ≡ true) → nat_le (oldest ring) page ≡ page_stands ring page
stands-as ring page within (inl lt) = lt-leb (oldest ring) page lt ∙ sym (page-before ring page within lt)
stands-as ring page within (inr stands) = elim (cases_lt page (oldest ring)) [
  | inl lt ↦ absurd (false≢true (sym (page-before ring page within lt) ∙ stands))
  | inr ge ↦ le-leb (oldest ring) page (omega (arith, ge)) ∙ sym stands
]

-- the row of an entry tells whether its blob stands
kept-as : (table : Table) (ring : Ring) (entry : Entry) → table.var ≡ Some ring → length ring.counts ≤ ring.next →
    ((blob : List ℕ) → entry.kept.blob ≡ Some blob → 0 < length blob → (entry.page < oldest ring) ⊎ (page_stands ring entry.page ≡ true)) → is_kept (oldest ring) (stored_row entry).blob ≡ is_left (blob_of table entry)
kept-as table ring entry var_is within placed = by-blob entry.kept.blob placed
  where
    by-stands : (b : Bool) (bytes : List ℕ) → b ≡ is_left (cond b (Stands bytes) Lost)
    by-stands true bytes = refl
    by-stands false bytes = refl

    by-len : (b : Bool) (bytes : List ℕ) → (length bytes == 0) ≡ b → ((b ≡ false) → (entry.page < oldest ring) ⊎ (page_stands ring entry.page ≡ true)) →
        (b || nat_le (oldest ring) entry.page) ≡ is_left (cond b (Stands []) (cond (unwrap_or (option_map (λ (ring : Ring). page_stands ring entry.page) table.var) false) (Stands bytes) Lost))
    by-len true bytes e placed = refl
    by-len false bytes e placed =
        let stands : unwrap_or (option_map (λ (ring : Ring). page_stands ring entry.page) table.var) false ≡ page_stands ring entry.page = ap (λ (o : Option Ring). unwrap_or (option_map (λ (ring : Ring). page_stands ring entry.page) o) false) var_is in
        stands-as ring entry.page within (placed refl) ∙ (sym stands ∙ by-stands (unwrap_or (option_map (λ (ring : Ring). page_stands ring entry.page) table.var) false) bytes)

    by-blob : (blob : Option (List ℕ)) → ((bytes : List ℕ) → blob ≡ Some bytes → 0 < length bytes → (entry.page < oldest ring) ⊎ (page_stands ring entry.page ≡ true)) →
        is_kept (oldest ring) (option_map (λ bytes. record { page = entry.page; offset = entry.offset; length = length bytes }) blob) ≡ is_left (blob_in table entry blob)
    by-blob None placed = refl
    by-blob (Some bytes) placed = by-len (length bytes == 0) bytes refl (λ e. placed bytes refl (some_from (length bytes) e))

-- where there is no variable data, no record has a blob
none-left : (plan : Plan) (table : Table) (entry : Entry) → has_var plan ≡ false → FitsPlan plan entry → is_left (blob_of table entry) ≡ false
none-left plan table entry none fits = by-blob entry.kept.blob fits.blob
  where
    by-blob : (blob : Option (List ℕ)) → BlobFits plan entry blob → is_left (blob_in table entry blob) ≡ false
    by-blob None h = refl
    by-blob (Some bytes) h = absurd (false≢true (sym none ∙ h.0))

-- ---- of a table

module _ (t : memory.Table 64 64) (f : FlashState) (first : ℕ) (plan : Plan) (table : Table) (stands : standing.Stands t f first plan table) where
  -- it has no variable data
  pub none-oldest : option_map (λ (ring : Ring). oldest ring) table.var ≡ None → oldest_blob table ≡ None
  none-oldest none = by-var table.var none refl
    where
      by-var : (o : Option Ring) → option_map (λ (ring : Ring). oldest ring) o ≡ None → table.var ≡ o → oldest_blob table ≡ None
      by-var None e var_is =
          let without : has_var plan ≡ false = sym stands.facts.has_rings.1 ∙ ap is_some_ring var_is in
          ap (option_map (λ (e : Entry). e.kept.key)) (find-none (λ entry. is_left (blob_of table entry)) table.entries
          (λ i entry e. none-left plan table entry without (each-at (FitsPlan plan) table.entries i entry stands.facts.fit e)))
      by-var (Some ring) e var_is = cc

  -- .. or the first of its rows whose blob is kept is that of the record
  pub first-oldest : (number : ℕ) → Some number ≡ option_map (λ (ring : Ring). oldest ring) table.var → first_kept number (map stored_row table.entries) ≡ oldest_blob table
  first-oldest number is = by-data t.blobs table.var refl refl is
    where
      by-data : (blobs : Option VarData) (o : Option Ring) → t.blobs ≡ blobs → table.var ≡ o → Some number ≡ option_map (λ (ring : Ring). oldest ring) o → first_kept number (map stored_row table.entries) ≡ oldest_blob table
      by-data blobs None b var_is e = cc
      by-data None (Some ring) b var_is e =
          let planned : plan.var_blocks ≡ 0 = subst (λ (v : Option VarData). variable.ArePlanned v (first + plan.data_blocks + plan.index_blocks) plan) b stands.planned.var in
          let has : true ≡ nat_lt 0 plan.var_blocks = sym (ap is_some_ring var_is) ∙ stands.facts.has_rings.1 in
          absurd (true≢false (has ∙ ap (nat_lt 0) planned))
      by-data (Some v) (Some ring) b var_is e =
          let there : variable.IsStanding v f (first + plan.data_blocks + plan.index_blocks) plan table = subst (λ (v : Option VarData). variable.Stand v f (first + plan.data_blocks + plan.index_blocks) plan table) b stands.blobs in
          let s = there.in_pages.ring in
          let same : s.ring ≡ ring = same_Some _ _ (sym s.ring_is ∙ var_is) in
          let number_is : number ≡ oldest ring = same_Some _ _ e in
          let few : length ring.counts ≤ ring.next = subst (λ (r : Ring). length r.counts ≤ r.next) same s.pages.facts.not_negative in
          let placed = subst (λ (r : Ring). variable.ArePlaced r table.entries) same there.placed in
          ap (λ n. first_kept n (map stored_row table.entries)) number_is
          ∙ find-as (λ entry. is_left (blob_of table entry)) (λ row. is_kept (oldest ring) row.blob) table.entries
          (λ i entry at. kept-as table ring entry var_is few (λ blob k some. placed i entry blob at k some))

  -- all of its rows
  pub all-rows : map stored_row (selected all_keys None table.entries) ≡ map stored_row table.entries
  all-rows = ap (map stored_row) (all-selected plan table.entries 0 refl (few-keys t first plan stands.planned) stands.facts.fit)
