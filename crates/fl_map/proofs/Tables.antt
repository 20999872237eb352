-- The rings of a table, as they are drawn.
use Rattle.std.proofs.Common.{◌≡◌, ℕ, ◌+◌, ◌≤◌, Option, Some, None, IfSome, List, sym, ◌∙◌, ap}
use Rattle.fl_base.specs.declared.types.Geometry.{Geometry}
use Rattle.fl_base.specs.declared.types.RingPlace.{RingPlace}
use Rattle.fl_check.specs.declared.finding.Finding.{Finding}
use Rattle.fl_check.specs.declared.finding.RingName.{RingName}
use Rattle.fl_check.specs.declared.finding.RingName.TheVariants.{Index, Data, Var, Log}
use Rattle.fl_frame.specs.Reads.{OnlyLooks}
use Rattle.fl_check.specs.Whole.{LogFits}
use Rattle.fl_frame.proofs.ReadsInTurn.{looks_pages}
use Rattle.fl_flash.specs.Flash.{FlashState, page_at}
use Rattle.fl_mark.specs.declared.page_state.PageState.{PageState}
use Rattle.fl_model.specs.Record.{row_len}
use Rattle.fl_plan.specs.Limits.{IsRingSize}
use Rattle.fl_plan.specs.Plan.{plan_of_table}
use Rattle.fl_plan.specs.Refusal.{nameless}
use Rattle.fl_plan.specs.declared.table_config.TableConfig.{TableConfig}
use Rattle.fl_ring.specs.Mounting.{shape_at}
use Rattle.fl_ring.specs.Ring.{room}
use Rattle.fl_map.specs.declared.drawing.Drawing.{Drawing}
use Rattle.fl_map.specs.declared.note.RingNote.{RingNote}
use Rattle.fl_map.specs.Drawn.{Drawn, with_ring}
use Rattle.fl_map.specs.Finding.{title_text, fault_page}
use Rattle.fl_map.specs.Pages.{states_to, note_of}
use Rattle.fl_map.specs.Table.{with_place, with_place_if, with_rings, with_fault, with_table}

-- a ring that a table may not have is one of those that are served, and lies on the flash
pub lies-there : (ring : Option RingPlace) (blocks : ℕ) → IfSome ring IsRingSize → IfSome ring (λ at. at.first_block + at.blocks ≤ blocks) →
    IfSome ring (λ at. (3 ≤ at.blocks) × (at.first_block + at.blocks ≤ blocks))
lies-there None blocks size lies = tt
lies-there (Some at) blocks size lies = (size.0, lies)

pub log-there : (log : Option RingPlace) (f : FlashState) → LogFits log f → IfSome log (λ at. (3 ≤ at.blocks) × (at.first_block + at.blocks ≤ f.blocks))
log-there None f lies = tt
log-there (Some at) f lies = (lies.0.0, lies.1)

pub place-drawn : (drawing : Drawing) (name : List ℕ) (config : TableConfig) (page : ℕ → List ℕ) (finding : Finding) (ring : RingName) (row_len : Option ℕ) (place : RingPlace) (g : Geometry)
    (title : List ℕ) (note : RingNote) (fault : Option ℕ) (states : List PageState) (d now : Drawn) → config.geometry ≡ g → title ≡ title_text name ring → fault ≡ fault_page finding →
    note ≡ note_of row_len (shape_at place g) page fault → states ≡ states_to page (shape_at place g).first (room (shape_at place g)) → now ≡ with_ring drawing title note states d →
    now ≡ with_place drawing name config page finding ring row_len place d
place-drawn drawing name config page finding ring row_len place g title note fault states d now eg et ef en es e =
    let whole : RingNote = note_of row_len (shape_at place g) page (fault_page finding) in
    let noted : note ≡ whole = en ∙ ap (λ (f : Option ℕ). note_of row_len (shape_at place g) page f) ef in
    e
    ∙ ap (λ (t : List ℕ). with_ring drawing t note states d) et
    ∙ ap (λ (n : RingNote). with_ring drawing (title_text name ring) n states d) noted
    ∙ ap (λ (s : List PageState). with_ring drawing (title_text name ring) whole s d) es
    ∙ ap (λ (h : Geometry). with_ring drawing (title_text name ring) (note_of row_len (shape_at place h) page (fault_page finding)) (states_to page (shape_at place h).first (room (shape_at place h))) d) (sym eg)

pub rings-drawn : (drawing second third fourth : Drawing) (name : List ℕ) (config : TableConfig) (log : Option RingPlace) (finding : Finding) (f0 f1 f2 f3 : FlashState) (n : ℕ) (d0 d1 d2 d3 d4 : Drawn) →
    second ≡ drawing → third ≡ second → fourth ≡ third → n ≡ row_len (plan_of_table nameless config) → OnlyLooks f0 f1 → OnlyLooks f0 f2 → OnlyLooks f0 f3 →
    d1 ≡ with_place drawing name config (page_at f0) finding Data (Some n) config.rows d0 → d2 ≡ with_place_if second name config (page_at f1) finding Index config.index d1 →
    d3 ≡ with_place_if third name config (page_at f2) finding Var config.var d2 → d4 ≡ with_place_if fourth name config (page_at f3) finding Log log d3 → d4 ≡ with_rings drawing name config log (page_at f0) finding d0
rings-drawn drawing second third fourth name config log finding f0 f1 f2 f3 n d0 d1 d2 d3 d4 es et ef en l1 l2 l3 e1 e2 e3 e4 =
    let rows = e1 ∙ ap (λ (m : ℕ). with_place drawing name config (page_at f0) finding Data (Some m) config.rows d0) en in
    let next : (x : Drawing) (f : FlashState) (ring : RingName) (place : Option RingPlace) (before before_is now : Drawn) → x ≡ drawing → OnlyLooks f0 f → before ≡ before_is →
    now ≡ with_place_if x name config (page_at f) finding ring place before → now ≡ with_place_if drawing name config (page_at f0) finding ring place before_is =
    λ x f ring place before before_is now same looks is e. e ∙ ap (λ (y : Drawing). with_place_if y name config (page_at f) finding ring place before) same
    ∙ ap (λ (p : ℕ → List ℕ). with_place_if drawing name config p finding ring place before) (looks_pages f0 f looks)
    ∙ ap (λ (d : Drawn). with_place_if drawing name config (page_at f0) finding ring place d) is in
    let index = next second f1 Index config.index d1 _ d2 es l1 rows e2 in
    let var = next third f2 Var config.var d2 _ d3 (et ∙ es) l2 index e3 in
    next fourth f3 Log log d3 _ d4 (ef ∙ et ∙ es) l3 var e4

pub table-drawn : (drawing first second : Drawing) (called name : List ℕ) (config : TableConfig) (log : Option RingPlace) (finding : Finding) (f0 f1 : FlashState) (d0 d1 d2 : Drawn) →
    first ≡ drawing → second ≡ first → called ≡ name → OnlyLooks f0 f1 → d1 ≡ with_rings first called config log (page_at f1) finding d0 → d2 ≡ with_fault second called finding d1 →
    d2 ≡ with_table drawing name config log (page_at f0) finding d0
table-drawn drawing first second called name config log finding f0 f1 d0 d1 d2 ef es en l1 e1 e2 =
    let rings = e1 ∙ ap (λ (x : Drawing). with_rings x called config log (page_at f1) finding d0) ef
    ∙ ap (λ (p : ℕ → List ℕ). with_rings drawing called config log p finding d0) (looks_pages f0 f1 l1) in
    e2 ∙ ap (λ (x : Drawing). with_fault x called finding d1) (es ∙ ef)
    ∙ ap (λ (d : Drawn). with_fault drawing called finding d) rings
    ∙ ap (λ (m : List ℕ). with_table drawing m config log (page_at f0) finding d0) en
