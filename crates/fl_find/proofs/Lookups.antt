-- What a lookup ends with, in the words of the store's model.
use Rattle.std.proofs.Common.{◌≡◌, ℕ, ◌+◌, ◌-◌, IsTrue, Option, Some, None, List, map, length, refl, sym, ◌∙◌, ap, subst, arith, Err}
use Rattle.std.specs.List.{slice_get, sum}
use Rattle.std.proofs.lemmas.List.{length-take-le}
use Rattle.fl_flash.specs.Buffer.{BufferState}
use Rattle.fl_flash.specs.Flash.{FlashState}
use Rattle.fl_model.specs.Record.{Plan, RowLayout}
use Rattle.fl_model.specs.Ring as model
use Rattle.fl_model.specs.Row.{Row, stored_row}
use Rattle.fl_model.specs.Table.{Table, written, lose}
use Rattle.fl_model.specs.Image.{rows_at}
use Rattle.fl_model.specs.Query.{entry_at}
use Rattle.fl_model.specs.Spline.{page_at}
use Rattle.fl_model.proofs.Lists.{slice_get-some, slice_get-front}
use Rattle.fl_page.specs.declared.fault.ReadFault.{ReadFault}
use Rattle.fl_page.specs.declared.fault.ReadFault.TheVariants as fault
use Rattle.fl_ring.specs.Place.{shape_of, oldest_of}
use Rattle.fl_ring.specs.Ring.{place}
use Rattle.fl_ring.specs.declared.ring.Ring.{Ring}
use Rattle.fl_search.specs.Search.{IsPageOf}
use Rattle.fl_find.specs.Pages.{first_key, first_on, bytes_at, rows_on, Holds}
use Rattle.fl_find.specs.Looking.{OnlyLooks}
use Rattle.fl_find.specs.Standing.{HoldsPages}
use Rattle.fl_find.specs.Finding.{IsFound, FindsPage}
use Rattle.fl_find.specs.Rows.{RowsRise, HasKey, IsOn, LacksKey, HoldsEntry, IsLookedUp, LooksUp}
use Rattle.fl_find.specs.declared.row.PageRow.{PageRow}
use Rattle.fl_find.proofs.PageLooks.{looks-pages, looks-tell}
use Rattle.fl_find.proofs.Firsts.{key_of, Ascending}
use Rattle.fl_find.proofs.Modelled.{first-stored, found}
use Rattle.fl_find.proofs.Windows.{one-page}
use Rattle.fl_find.proofs.Entries.{part, part-ascends, rows-rise, lacks-page, has-row, lacks-row}

pub looks-err : (knots : ℕ) (plan : Plan) (layout : RowLayout) (table : Table) (key before now : ℕ) (e : ReadFault) (buf : BufferState) → FindsPage knots plan table key before now (Err e) →
    LooksUp knots plan layout table key before now (Err e) buf
looks-err knots plan layout table key before now (fault.Flash e) buf h = tt
looks-err knots plan layout table key before now (fault.BadPage bad) buf h = h

-- ---- over any bytes

module _ (layout : RowLayout) (ring : Ring) (f : FlashState) (told : IsTrue f.media.tells) where
  -- the bytes of the page that a buffer holds after the search
  held : (new : FlashState) (n : ℕ) (buf : BufferState) → OnlyLooks f new → Holds layout (shape_of ring) new n buf → buf.bytes ≡ bytes_at (shape_of ring) f n
  held new n buf looks h =
      h.bytes (subst (λ t. IsTrue t) (sym (looks-tell f new looks)) told) ∙ ap (λ (page : ℕ → List ℕ). page (place (shape_of ring) n)) (looks-pages f new looks)

  -- which page the answer is of
  module _ (end key : ℕ) (page : Option ℕ) (is : IsPageOf (first_on layout (shape_of ring) f) (oldest_of ring) end key page) where
    pub on-none : IsPageOf (first_on layout (shape_of ring) f) (oldest_of ring) end key None → IsOn layout (shape_of ring) f key page None
    on-none none = subst (λ (p : Option ℕ). IsOn layout (shape_of ring) f key p None) (one-page (first_on layout (shape_of ring) f) (oldest_of ring) end key None page none is) tt

    pub on-lacks : (new : FlashState) (n : ℕ) (buf : BufferState) → IsPageOf (first_on layout (shape_of ring) f) (oldest_of ring) end key (Some n) → OnlyLooks f new → Holds layout (shape_of ring) new n buf →
        (RowsRise (rows_on layout buf.bytes) → LacksKey (rows_on layout buf.bytes) key) → IsOn layout (shape_of ring) f key page None
    on-lacks new n buf at looks h lacks =
        subst (λ (p : Option ℕ). IsOn layout (shape_of ring) f key p None) (one-page (first_on layout (shape_of ring) f) (oldest_of ring) end key (Some n) page at is)
        (subst (λ (bytes : List ℕ). RowsRise (rows_on layout bytes) → LacksKey (rows_on layout bytes) key) (held new n buf looks h) lacks)

    pub on-has : (n row : ℕ) → IsPageOf (first_on layout (shape_of ring) f) (oldest_of ring) end key (Some n) → IsOn layout (shape_of ring) f key page (Some (record { number = n; row = row }))
    on-has n row at =
        subst (λ (p : Option ℕ). IsOn layout (shape_of ring) f key p (Some (record { number = n; row = row }))) (one-page (first_on layout (shape_of ring) f) (oldest_of ring) end key (Some n) page at is) refl

-- ---- in the words of the model

module _ (layout : RowLayout) (ring : Ring) (f : FlashState) (plan : Plan) (table : Table) (holds : HoldsPages layout ring f plan table) where
  up : Ascending (written table)
  up i j a b less e g =
      holds.facts.ascending i j a b less (slice_get-front (length table.entries - table.pending) table.entries i a e) (slice_get-front (length table.entries - table.pending) table.entries j b g)

  enough : sum table.rows.counts ≡ length (written table)
  enough = omega (arith, holds.facts.counted, length-take-le (length table.entries - table.pending) table.entries (omega arith))

  told : (page count : ℕ) → slice_get table.rows.counts page ≡ Some count → first_on layout (shape_of ring) f (model.oldest table.rows + page) ≡ key_of (part table.rows.counts (written table) page count)
  told page count e = ap first_key (holds.pages page count e).rows ∙ first-stored (rows_at (lose table) page count)

  hi_is : table.rows.next ≡ model.oldest table.rows + length table.rows.counts
  hi_is = omega (arith, holds.facts.rows.not_negative)

  pub none-entry : (key : ℕ) → page_at table key ≡ None → entry_at key (written table) ≡ None
  none-entry key none =
      lacks-page (first_on layout (shape_of ring) f) (model.oldest table.rows) table.rows.counts (written table) up enough told table.rows.next key hi_is
      (subst (λ p. IsPageOf (first_on layout (shape_of ring) f) (model.oldest table.rows) table.rows.next key p) none (found layout ring f plan table holds key))

  -- the page that was found: its place among the counts, and its rows
  record Located (key n : ℕ) (bytes : List ℕ) : Type 0 where
    page : ℕ
    count : ℕ
    at : slice_get table.rows.counts page ≡ Some count
    number : n ≡ model.oldest table.rows + page
    is : IsPageOf (first_on layout (shape_of ring) f) (model.oldest table.rows) table.rows.next key (Some (model.oldest table.rows + page))
    rows : rows_on layout bytes ≡ map stored_row (part table.rows.counts (written table) page count)

  located : (key n : ℕ) (bytes : List ℕ) → page_at table key ≡ Some n → bytes ≡ bytes_at (shape_of ring) f n → Located key n bytes
  located key n bytes e b =
      let is : IsPageOf (first_on layout (shape_of ring) f) (model.oldest table.rows) table.rows.next key (Some n) =
      subst (λ p. IsPageOf (first_on layout (shape_of ring) f) (model.oldest table.rows) table.rows.next key p) e (found layout ring f plan table holds key) in
      let at = slice_get-some table.rows.counts (n - model.oldest table.rows) (omega (arith, is.from, is.before, hi_is)) in
      let number : n ≡ model.oldest table.rows + (n - model.oldest table.rows) = omega (arith, is.from) in
      record {
        page = n - model.oldest table.rows;
        count = at.0;
        at = at.1;
        number = number;
        is = subst (λ m. IsPageOf (first_on layout (shape_of ring) f) (model.oldest table.rows) table.rows.next key (Some m)) number is;
        rows = ap (rows_on layout) (b ∙ ap (bytes_at (shape_of ring) f) number) ∙ (holds.pages (n - model.oldest table.rows) at.0 at.1).rows;
      }

  found-row : (key n : ℕ) (buf : BufferState) (at : PageRow) → page_at table key ≡ Some n → buf.bytes ≡ bytes_at (shape_of ring) f n → HasKey (rows_on layout buf.bytes) key at.row → HoldsEntry layout table key buf at
  found-row key n buf at e b has =
      let l = located key n buf.bytes e b in
      let r = has-row (first_on layout (shape_of ring) f) (model.oldest table.rows) table.rows.counts (written table) up enough told key l.page l.count at.row l.at (subst (λ (rows : List Row). HasKey rows key at.row) l.rows has) in
      record { entry = r.0; found = r.1; row = ap (λ (rows : List Row). slice_get rows at.row) l.rows ∙ r.2 }

  no-row : (key n : ℕ) (bytes : List ℕ) → page_at table key ≡ Some n → bytes ≡ bytes_at (shape_of ring) f n → (RowsRise (rows_on layout bytes) → LacksKey (rows_on layout bytes) key) → entry_at key (written table) ≡ None
  no-row key n bytes e b lacks =
      let l = located key n bytes e b in
      let rise = rows-rise (part table.rows.counts (written table) l.page l.count) (part-ascends table.rows.counts (written table) l.page l.count up) in
      let none = lacks (subst (λ (rows : List Row). RowsRise rows) (sym l.rows) rise) in
      lacks-row (first_on layout (shape_of ring) f) (model.oldest table.rows) table.rows.counts (written table) up enough told table.rows.next key l.page l.count hi_is l.at l.is
      (subst (λ (rows : List Row). LacksKey rows key) l.rows none)

  pub looks-none : (knots key before now : ℕ) (buf : BufferState) → IsFound knots plan table key before now None → IsLookedUp knots plan layout table key before now None buf
  looks-none knots key before now buf is = record { entry = none-entry key (sym is.page_is); exact = is.exact; some = tt }

  pub looks-lacks : (knots key before now n : ℕ) (new : FlashState) (buf : BufferState) → IsFound knots plan table key before now (Some n) → OnlyLooks f new → Holds layout (shape_of ring) new n buf →
      (RowsRise (rows_on layout buf.bytes) → LacksKey (rows_on layout buf.bytes) key) → IsLookedUp knots plan layout table key before now None buf
  looks-lacks knots key before now n new buf is looks h lacks = record { entry = no-row key n buf.bytes (sym is.page_is) (held layout ring f holds.tells new n buf looks h) lacks; exact = is.exact; some = tt }

  pub looks-has : (knots key before now n : ℕ) (new : FlashState) (buf : BufferState) (at : PageRow) → IsFound knots plan table key before now (Some n) → OnlyLooks f new → Holds layout (shape_of ring) new n buf →
      HasKey (rows_on layout buf.bytes) key at.row → IsLookedUp knots plan layout table key before now (Some at) buf
  looks-has knots key before now n new buf at is looks h has = record { entry = found-row key n buf at (sym is.page_is) (held layout ring f holds.tells new n buf looks h) has; exact = is.exact; some = is.some }
