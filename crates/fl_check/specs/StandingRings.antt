-- The rings of a sound table stand for states of them.
use Rattle.std.specs.Prelude.{◌≡◌, ℕ, ◌+◌, ◌<◌, ◌≤◌, IsTrue, Option, Some, None, List, length, get_or}
use Rattle.fl_base.specs.declared.types.RingPlace.{RingPlace}
use Rattle.fl_flash.specs.Flash.{FlashState, page_at}
use Rattle.fl_flash.specs.Places.{extent}
use Rattle.fl_plan.specs.declared.table_config.TableConfig.{TableConfig}
use Rattle.fl_ring.specs.Mounting.{IsGood}
use Rattle.fl_ring.specs.Numbers.{renumbered}
use Rattle.fl_ring.specs.Ring.{Shape, RingState, room, count, oldest, place}
use Rattle.fl_rules.specs.Endings.{IsEnded}
use Rattle.fl_rules.specs.Marks.{kept_page}
use Rattle.fl_rules.specs.RingRules.{IsAscending}
use Rattle.fl_check.specs.Whole.{Fits, LogFits, OfRing, IsSound, IsFinding, IsIndexForm, IsRowsForm, IsVarForm, IsLogForm, layout_in, shape_in, rows_shape, index_end, tally_in}
use Rattle.fl_check.specs.declared.finding.Finding.TheVariants.{Sound}
use Rattle.fl_rules.specs.declared.numbering.Numbering.{Numbering}
use Rattle.fl_check.specs.declared.table.TableNumbers.{TableNumbers}

-- the pages of a ring have its size
abbrev pub HaveSize : (ℕ → List ℕ) → Shape → Type 0
HaveSize page r = (p : ℕ) → r.first ≤ p → p < r.first + room r → length (page p) ≡ r.size

-- a page of this form ends as a committed one
abbrev pub EndsCommitted : (ℕ → List ℕ → Type 0) → ℕ → Type 0
EndsCommitted Form size = (number : ℕ) (page : List ℕ) → length page ≡ size → Form number page → IsEnded page

-- The flash stands for a state of the ring, with the kept pages, the numbers and the torn page that the rules tell. Its committed pages
-- have this form.
pub record StandsRuled (Form : ℕ → List ℕ → Type 0) (f : FlashState) (r : Shape) (at_least : ℕ) (n : Numbering) : Type 0 where
  pub s : RingState
  pub good : IsGood f r at_least s
  pub kept : count s ≡ n.marks.kept
  pub places : (i : ℕ) → i < count s → kept_page r n.marks i ≡ place r (oldest s + i)
  pub next : s.next ≡ n.next
  -- a mount gives its pages no other numbers
  pub renumbered_next : (renumbered r at_least s).next ≡ n.next
  pub torn : s.torn ≡ n.marks.pages.front.torn
  pub forms : (i : ℕ) (body : List ℕ) → i < count s → get_or s.kept i None ≡ Some body → Form (oldest s + i) (page_at f (place r (oldest s + i)))

-- a page of the log has rows whose keys ascend
abbrev pub IsSortedLogForm : TableConfig → ℕ → List ℕ → Type 0
IsSortedLogForm config number page = IsLogForm config number page × IsAscending (layout_in config) number page

-- .. of each ring of a table, whose numbers begin where a check begins them
pub record RingsStand (config : TableConfig) (log : Option RingPlace) (f : FlashState) (records pages voids : ℕ) : Type 0 where
  pub t : TableNumbers
  pub sound : IsSound config log (page_at f) t
  pub index : OfRing (λ place n. StandsRuled (IsIndexForm config) f (shape_in config place) 0 n) config.index t.index
  pub rows : StandsRuled (IsRowsForm config) f (rows_shape config) (index_end config (page_at f) t.index) t.rows
  pub var : OfRing (λ place n. StandsRuled IsVarForm f (shape_in config place) (tally_in config (page_at f) t.rows).blob_end n) config.var t.var
  pub logged : OfRing (λ place n. StandsRuled (IsSortedLogForm config) f (shape_in config place) 0 n) log t.log
  pub kept : count rows.s ≡ pages
  pub records_is : (tally_in config (page_at f) t.rows).rows ≡ records
  pub voids_is : (tally_in config (page_at f) t.rows).voids ≡ voids

-- where a check finds a table sound, on a flash whose medium reaches to its end
abbrev pub SoundRingsStand : Type 0
SoundRingsStand =
    (config : TableConfig) (log : Option RingPlace) (f : FlashState) (rows pages voids : ℕ) → Fits config f → LogFits log f →
    f.start + extent f.geometry f.blocks ≤ length f.media.content → IsTrue f.media.tells →
    IsFinding config log (page_at f) (Sound rows pages voids) → RingsStand config log f rows pages voids
