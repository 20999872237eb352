-- The pages of the tables on a medium that commands keep.
use Rattle.std.proofs.Common.{◌≡◌, ℕ, ◌≤◌, Bool, true, inl, inr, Option, Some, None, List, length, refl, sym, ◌∙◌, ap, subst, le_trans, arith, MatchBool, slice_get}
use Rattle.std.proofs.lemmas.Bool.Decides.{eqb_tells}
use Rattle.std.proofs.lemmas.Option.{slice_get_within}
use Rattle.fl_flash.specs.Flash.{FlashState, page_at}
use Rattle.fl_model.specs.Facts.{is_some_ring}
use Rattle.fl_model.specs.Image.{bytes_at}
use Rattle.fl_model.specs.Record.{Config, Plan}
use Rattle.fl_model.specs.Ring.{Ring, oldest}
use Rattle.fl_model.specs.Table.{Table, RingName, DataRing, IndexRing, VarRing, LogRing}
use Rattle.fl_model.proofs.Lists.{slice_get-some}
use Rattle.fl_machine.specs.Stays.{RingStays, TablesStay}
use Rattle.fl_ring.specs.Kept.{PagesStand}
use Rattle.fl_parts.specs.Pages.{KeptStand, bytes_in}
use Rattle.fl_rlc.specs.Logged.{Stands}
use Rattle.fl_rlc.specs.Outcomes.{LogStays}
use Rattle.fl_rlc.specs.Table.{OutsideStands}
use Rattle.fl_rlc.specs.declared.table.LoggedTable.{LoggedTable}
use Rattle.fl_parts.proofs.Images.{pages-medium}
use Rattle.fl_store.specs.Tables.{first_of, EntryStands, TablesStand}
use Rattle.fl_store.specs.declared.tables.Entry.{Entry}
use Rattle.fl_store.proofs.Apart.{other-pages}
use Rattle.fl_store.proofs.TablesChanged.{some-is}
use Rattle.fl_store.specs.Store.{IsOnMedium}

-- The numbers of a ring go on, and the pages that it keeps stand.
pub record RingKeeps (config : Config) (bytes now : List ℕ) (place : ℕ) (plan : Plan) (ring : RingName) (before after : Ring) : Type 0 where
  pub later : oldest before ≤ oldest after
  pub further : before.next ≤ after.next
  pub stays : RingStays config bytes now place plan ring before after

-- a ring that a table may have
abbrev pub OptionKeeps : (Ring → Ring → Type 0) → Option Ring → Option Ring → Type 0
OptionKeeps Keeps None None = Unit {0}
OptionKeeps Keeps (Some before) (Some after) = Keeps before after
OptionKeeps Keeps None (Some after) = ⊥
OptionKeeps Keeps (Some before) None = ⊥

pub record TableKeeps (config : Config) (bytes now : List ℕ) (place : ℕ) (plan : Plan) (before after : Table) : Type 0 where
  pub rows : RingKeeps config bytes now place plan DataRing before.rows after.rows
  pub index : OptionKeeps (RingKeeps config bytes now place plan IndexRing) before.index after.index
  pub var : OptionKeeps (RingKeeps config bytes now place plan VarRing) before.var after.var
  pub log : OptionKeeps (RingKeeps config bytes now place plan LogRing) before.log after.log

pub record TablesKeep (config : Config) (bytes now : List ℕ) (tables after : List Table) : Type 0 where
  pub as_many : length after ≡ length tables
  pub each : (place : ℕ) (plan : Plan) (old new : Table) → slice_get config.plans place ≡ Some plan → slice_get tables place ≡ Some old → slice_get after place ≡ Some new →
      TableKeeps config bytes now place plan old new

-- ---- one change after another

ring-on : (config : Config) (a b c : List ℕ) (place : ℕ) (plan : Plan) (ring : RingName) (x y z : Ring) → RingKeeps config a b place plan ring x y → RingKeeps config b c place plan ring y z → RingKeeps config a c place plan ring x z
ring-on config a b c place plan ring x y z h k = record {
  later = le_trans h.later k.later;
  further = le_trans h.further k.further;
  stays = λ number from below. k.stays number from (omega (arith, below, h.further)) ∙ h.stays number (le_trans k.later from) below;
}

option-on : (P Q R : Ring → Ring → Type 0) → ((x y z : Ring) → P x y → Q y z → R x z) → (a b c : Option Ring) → OptionKeeps P a b → OptionKeeps Q b c → OptionKeeps R a c
option-on P Q R on None None None h k = tt
option-on P Q R on None None (Some z) h k = absurd k
option-on P Q R on None (Some y) c h k = absurd h
option-on P Q R on (Some x) None c h k = absurd h
option-on P Q R on (Some x) (Some y) None h k = absurd k
option-on P Q R on (Some x) (Some y) (Some z) h k = on x y z h k

table-on : (config : Config) (a b c : List ℕ) (place : ℕ) (plan : Plan) (x y z : Table) → TableKeeps config a b place plan x y → TableKeeps config b c place plan y z → TableKeeps config a c place plan x z
table-on config a b c place plan x y z h k = record {
  rows = ring-on config a b c place plan DataRing x.rows y.rows z.rows h.rows k.rows;
  index = option-on (RingKeeps config a b place plan IndexRing) (RingKeeps config b c place plan IndexRing) (RingKeeps config a c place plan IndexRing) (ring-on config a b c place plan IndexRing) x.index y.index z.index h.index k.index;
  var = option-on (RingKeeps config a b place plan VarRing) (RingKeeps config b c place plan VarRing) (RingKeeps config a c place plan VarRing) (ring-on config a b c place plan VarRing) x.var y.var z.var h.var k.var;
  log = option-on (RingKeeps config a b place plan LogRing) (RingKeeps config b c place plan LogRing) (RingKeeps config a c place plan LogRing) (ring-on config a b c place plan LogRing) x.log y.log z.log h.log k.log;
}

pub tables-on : (config : Config) (a b c : List ℕ) (xs ys zs : List Table) → TablesKeep config a b xs ys → TablesKeep config b c ys zs → TablesKeep config a c xs zs
tables-on config a b c xs ys zs h k = record {
  as_many = k.as_many ∙ h.as_many;
  each = λ place plan x z p i j.
      let y = slice_get-some ys place (omega (arith, slice_get_within xs place x i, h.as_many)) in
      table-on config a b c place plan x y.0 z (h.each place plan x y.0 p i y.1) (k.each place plan y.0 z p y.1 j);
}

-- ---- tables that are as they were

pub ring-same : (config : Config) (bytes now : List ℕ) (place : ℕ) (plan : Plan) (ring : RingName) (x : Ring) → ((number : ℕ) → bytes_at config now place plan ring number ≡ bytes_at config bytes place plan ring number) → RingKeeps config bytes now place plan ring x x
ring-same config bytes now place plan ring x same = record { later = omega arith; further = omega arith; stays = λ number from below. same number }

pub option-same : (P : Ring → Ring → Type 0) (o : Option Ring) → ((x : Ring) → o ≡ Some x → P x x) → OptionKeeps P o o
option-same P None same = tt
option-same P (Some x) same = same x refl

pub tables-keep_all : (config : Config) (bytes : List ℕ) (tables : List Table) → TablesKeep config bytes bytes tables tables
tables-keep_all config bytes tables = record {
  as_many = refl;
  each = λ place plan x y p i j. subst (λ t. TableKeeps config bytes bytes place plan x t) (some-is (slice_get tables place) x y i j) (record {
    rows = ring-same config bytes bytes place plan DataRing x.rows (λ number. refl);
    index = option-same (RingKeeps config bytes bytes place plan IndexRing) x.index (λ r e. ring-same config bytes bytes place plan IndexRing r (λ number. refl));
    var = option-same (RingKeeps config bytes bytes place plan VarRing) x.var (λ r e. ring-same config bytes bytes place plan VarRing r (λ number. refl));
    log = option-same (RingKeeps config bytes bytes place plan LogRing) x.log (λ r e. ring-same config bytes bytes place plan LogRing r (λ number. refl));
  });
}

-- ---- the pages of a flash

pub bytes-are : (config : Config) (f : FlashState) → IsOnMedium config f → (place : ℕ) (plan : Plan) (ring : RingName) (number : ℕ) → bytes_at config f.media.content place plan ring number ≡ bytes_in (page_at f) (first_of config.plans place) plan ring number
bytes-are config f h place plan DataRing number = ap (λ (page : ℕ → List ℕ). bytes_in page (first_of config.plans place) plan DataRing number) (pages-medium config f h.start h.geometry)
bytes-are config f h place plan IndexRing number = ap (λ (page : ℕ → List ℕ). bytes_in page (first_of config.plans place) plan IndexRing number) (pages-medium config f h.start h.geometry)
bytes-are config f h place plan VarRing number = ap (λ (page : ℕ → List ℕ). bytes_in page (first_of config.plans place) plan VarRing number) (pages-medium config f h.start h.geometry)
bytes-are config f h place plan LogRing number = ap (λ (page : ℕ → List ℕ). bytes_in page (first_of config.plans place) plan LogRing number) (pages-medium config f h.start h.geometry)

pub bytes-same : (config : Config) (f g : FlashState) → IsOnMedium config f → IsOnMedium config g → (place : ℕ) (plan : Plan) (ring : RingName) (number : ℕ) →
    bytes_in (page_at g) (first_of config.plans place) plan ring number ≡ bytes_in (page_at f) (first_of config.plans place) plan ring number → bytes_at config g.media.content place plan ring number ≡ bytes_at config f.media.content place plan ring number
bytes-same config f g h k place plan ring number same = bytes-are config g k place plan ring number ∙ (same ∙ sym (bytes-are config f h place plan ring number))

pub option-of : (P : Ring → Ring → Type 0) (a b : Option Ring) → is_some_ring a ≡ is_some_ring b → ((x y : Ring) → a ≡ Some x → b ≡ Some y → P x y) → OptionKeeps P a b
option-of P None None e h = tt
option-of P None (Some y) e h = cc
option-of P (Some x) None e h = cc
option-of P (Some x) (Some y) e h = h x y refl refl

-- the pages that a table's call keeps
pub table-keeps : (config : Config) (f g : FlashState) (place : ℕ) (plan : Plan) (t u : LoggedTable 64 64) (before after : Table) → IsOnMedium config f → IsOnMedium config g → KeptStand (first_of config.plans place) plan before after (page_at f) (page_at g) → LogStays (first_of config.plans place) plan before after f g →
    Stands t f (first_of config.plans place) plan before → Stands u g (first_of config.plans place) plan after → TableKeeps config f.media.content g.media.content place plan before after
table-keeps config f g place plan t u before after h k kept kept-log stood stands = record {
  rows = ring-of DataRing before.rows after.rows kept.rows;
  index = option-of (RingKeeps config f.media.content g.media.content place plan IndexRing) before.index after.index (stood.facts.has_rings.0 ∙ sym stands.facts.has_rings.0) (λ x y i j. ring-of IndexRing x y (kept.index x y i j));
  var = option-of (RingKeeps config f.media.content g.media.content place plan VarRing) before.var after.var (stood.facts.has_rings.1 ∙ sym stands.facts.has_rings.1) (λ x y i j. ring-of VarRing x y (kept.var x y i j));
  log = option-of (RingKeeps config f.media.content g.media.content place plan LogRing) before.log after.log (stood.facts.has_rings.2 ∙ sym stands.facts.has_rings.2) (λ x y i j. ring-of LogRing x y (kept-log x y i j));
}
  where
    ring-of : (ring : RingName) (x y : Ring) → PagesStand x (bytes_in (page_at f) (first_of config.plans place) plan ring) y (bytes_in (page_at g) (first_of config.plans place) plan ring) → RingKeeps config f.media.content g.media.content place plan ring x y
    ring-of ring x y p = record { later = p.later; further = p.further; stays = λ number from below. bytes-same config f g h k place plan ring number (p.bytes number from below) }

-- one table was changed by a call that leaves the pages of the others
module _ (config : Config) (f g : FlashState) (entries : List Entry) (tables after : List Table) (at : ℕ) (entry : Entry) (own : Plan) (table new : Table) (h : IsOnMedium config f) (k : IsOnMedium config g) (stand : TablesStand f (λ i. true) config.plans entries tables)
    (outside : OutsideStands entry.table (page_at f) (page_at g)) (own_is : slice_get config.plans at ≡ Some own) (table_is : slice_get tables at ≡ Some table) (stood : EntryStands entry f true (first_of config.plans at) own table) where
  keeps-own : (place : ℕ) (plan : Plan) (x y : Table) → at ≡ place → slice_get after at ≡ Some new → TableKeeps config f.media.content g.media.content at own table new → slice_get config.plans place ≡ Some plan → slice_get tables place ≡ Some x → slice_get after place ≡ Some y →
      TableKeeps config f.media.content g.media.content place plan x y
  keeps-own place plan x y is there kept p i j =
      let own_plan : own ≡ plan = some-is (slice_get config.plans at) own plan own_is (subst (λ n. slice_get config.plans n ≡ Some plan) (sym is) p) in
      let own_x : table ≡ x = some-is (slice_get tables at) table x table_is (subst (λ n. slice_get tables n ≡ Some x) (sym is) i) in
      let own_y : new ≡ y = some-is (slice_get after at) new y there (subst (λ n. slice_get after n ≡ Some y) (sym is) j) in
      subst (λ n. TableKeeps config f.media.content g.media.content n plan x y) is
      (subst (λ q. TableKeeps config f.media.content g.media.content at q x y) own_plan
      (subst (λ t. TableKeeps config f.media.content g.media.content at own t y) own_x (subst (λ t. TableKeeps config f.media.content g.media.content at own table t) own_y kept)))

  keeps-other : (place : ℕ) (plan : Plan) (x : Table) → (at ≡ place → ⊥) → slice_get config.plans place ≡ Some plan → slice_get tables place ≡ Some x → TableKeeps config f.media.content g.media.content place plan x x
  keeps-other place plan x other p i =
      let e = slice_get-some entries place (omega (arith, slice_get_within config.plans place plan p, stand.as_many)) in
      let s = stand.each place plan e.0 x p e.1 i in
      let pages = other-pages config.plans place at plan own e.0 entry f g true true x table p own_is other stood outside s in
      let there : Stands e.0.table f (first_of config.plans place) plan x = s.on_flash in
      let has = there.facts.has_rings in
      record {
        rows = ring-same config f.media.content g.media.content place plan DataRing x.rows (λ n. bytes-same config f g h k place plan DataRing n (pages.table.rows n));
        index = option-same (RingKeeps config f.media.content g.media.content place plan IndexRing) x.index (λ r is.
            ring-same config f.media.content g.media.content place plan IndexRing r (λ n. bytes-same config f g h k place plan IndexRing n (pages.table.index (sym has.0 ∙ ap is_some_ring is) n)));
        var = option-same (RingKeeps config f.media.content g.media.content place plan VarRing) x.var (λ r is.
            ring-same config f.media.content g.media.content place plan VarRing r (λ n. bytes-same config f g h k place plan VarRing n (pages.table.var (sym has.1 ∙ ap is_some_ring is) n)));
        log = option-same (RingKeeps config f.media.content g.media.content place plan LogRing) x.log (λ r is.
            ring-same config f.media.content g.media.content place plan LogRing r (λ n. bytes-same config f g h k place plan LogRing n (pages.log (sym has.2 ∙ ap is_some_ring is) n)));
      }

  pub tables-keep_changed : length after ≡ length tables → slice_get after at ≡ Some new → ((i : ℕ) → (at ≡ i → ⊥) → slice_get after i ≡ slice_get tables i) → TableKeeps config f.media.content g.media.content at own table new →
      TablesKeep config f.media.content g.media.content tables after
  tables-keep_changed len there elsewhere kept = record {
    as_many = len;
    each = λ place plan x y p i j. elim (eqb_tells at place) [
      | inl is ↦ keeps-own place plan x y is.1 there kept p i j
      | inr other ↦ subst (λ t. TableKeeps config f.media.content g.media.content place plan x t) (some-is (slice_get tables place) x y i (sym (elsewhere place other.1) ∙ j)) (keeps-other place plan x other.1 p i)
    ];
  }

-- ---- as a command says it

option-stays : (P : Ring → Ring → Type 0) (a b : Option Ring) (x y : Ring) → OptionKeeps P a b → a ≡ Some x → b ≡ Some y → P x y
option-stays P a b x y h i j = subst (λ o. OptionKeeps P o (Some y)) i (subst (λ o. OptionKeeps P a o) j h)

pub tables-stay : (config : Config) (bytes now : List ℕ) (tables after : List Table) → TablesKeep config bytes now tables after → TablesStay config bytes now tables after
tables-stay config bytes now tables after h = λ place plan old new p i j.
    let k = h.each place plan old new p i j in
    record {
      rows = k.rows.stays;
      index = λ x y a b. (option-stays (RingKeeps config bytes now place plan IndexRing) old.index new.index x y k.index a b).stays;
      var = λ x y a b. (option-stays (RingKeeps config bytes now place plan VarRing) old.var new.var x y k.var a b).stays;
      log = λ x y a b. (option-stays (RingKeeps config bytes now place plan LogRing) old.log new.log x y k.log a b).stays;
    }

-- .. which is what a command of a mounted session leaves
pub mounted-stays : (config : Config) (mounted : Bool) (bytes now : List ℕ) (tables after : List Table) → mounted ≡ true → TablesStay config bytes now tables after → MatchBool mounted (TablesStay config bytes now tables after) (now ≡ bytes)
mounted-stays config mounted bytes now tables after e stay = subst (λ b. MatchBool b (TablesStay config bytes now tables after) (now ≡ bytes)) (sym e) stay
