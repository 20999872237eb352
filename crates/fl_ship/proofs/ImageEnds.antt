-- How a ship of an image ends, from how one over its tables does, and where it ends before.
use Rattle.std.proofs.Common.{◌≡◌, ℕ, ◌+◌, ◌<◌, ◌≤◌, ◌⊎◌, inl, inr, Bool, true, false, IsTrue, Option, None, Some, List, [], ◌∷◌, length, refl, sym, ◌∙◌, ap, subst, arith}
use Rattle.std.specs.List.{slice_get}
use Rattle.std.proofs.lemmas.Option.{slice_get_within}
use Rattle.fl_base.specs.Causes.{Rose}
use Rattle.fl_base.proofs.Appended.{appends-none}
use Rattle.fl_config.specs.Whole.{is_whole, Makes}
use Rattle.fl_flash.specs.Media.{MediaState}
use Rattle.fl_image.specs.Header.{IsAccepted, IsMade}
use Rattle.fl_image.specs.Image.{IsImageOf, OnlyLooksAt}
use Rattle.fl_image.specs.declared.status.ToolStatus.{ToolStatus}
use Rattle.fl_image.specs.declared.status.ToolStatus.TheVariants as job
use Rattle.fl_machine.specs.Machine.{Machine, fresh_tables}
use Rattle.fl_machine.specs.Step.{located_from}
use Rattle.fl_model.specs.Image.{medium_len}
use Rattle.fl_model.specs.Record.{Plan, Config}
use Rattle.fl_model.specs.Table.{Table}
use Rattle.fl_model.proofs.Lists.{slice_get-some}
use Rattle.fl_model.proofs.TableImages.{images-many}
use Rattle.fl_store.proofs.NewImages.{new-image}
use Rattle.fl_store.proofs.Opened.{made-image, same-lines}
use Rattle.fl_image.proofs.Made.{made, made-by}
use Rattle.fl_store.proofs.TableByName.{first-named, located-first, located-none, new-named, none-named}
use Rattle.fl_store.specs.Tables.{AreNewTables, IsNamed, Names}
use Rattle.fl_store.specs.declared.tables.Entry.{Entry}
use Rattle.fl_words.specs.Config.{Lines}
use Rattle.fl_words.specs.Medium.{IsImage}
use Rattle.fl_store.specs.NewImage.{made_image}
use Rattle.fl_ship.specs.Ends.{Bytes, IsCopy, IsOfForm, IsUnbegun, ShipEnds, TablesShip, Told, held_in, is_shipped}
use Rattle.fl_ship.specs.Media.{bytes_of, source_status}
use Rattle.fl_ship.specs.Tables.{IsOfTables, told_of}
use Rattle.fl_ship.specs.declared.side.Side.TheVariants.{Source, Copy}
use Rattle.fl_ship.specs.declared.status.ShipStatus.{ShipStatus}
use Rattle.fl_ship.specs.declared.status.ShipStatus.TheVariants.{Done, OutWrite, NoMemory, NotImage, Device, BadImage, NoTable, Gap, OtherForm, Spent}
use Rattle.fl_ship.proofs.MadeCopy.{kept-copy}

-- ---- the copy

pub image-some : (config : Config) (bytes : List ℕ) (tables : List Table) → IsImage config bytes tables → bytes ≡ [] → ⊥
image-some config bytes tables image empty =
    let none : length bytes ≡ 0 = ap (λ (l : List ℕ). length l) empty in
    let least : 1024 ≤ medium_len config = omega arith in
    omega (arith, none, least, image.len)

-- one that holds bytes is an image
pub copy-image : (config : Config) (bytes : List ℕ) (copies : List Table) → IsCopy config bytes copies → (bytes ≡ [] → ⊥) → IsImage config bytes copies
copy-image config bytes copies (inl h) some = absurd (some h.0)
copy-image config bytes copies (inr h) some = subst (λ (ts : List Table). IsImage config bytes ts) (sym (ap (λ (m : Machine). m.tables) h.2)) h.1

-- .. and one that is empty is an image once it is made
pub copy-made : (config : Config) (bytes : List ℕ) (copies : List Table) → IsMade config → IsCopy config bytes copies → IsImage config (made_image config bytes) copies
copy-made config bytes copies made (inl h) =
    subst (λ (l : List ℕ). IsImage config (made_image config l) copies) (sym h.0)
    (subst (λ (ts : List Table). IsImage config (made_image config []) ts) (sym (ap (λ (m : Machine). m.tables) h.1)) (new-image config made))
copy-made config bytes copies made (inr h) =
    let image = copy-image config bytes copies (inr h) (image-some config bytes h.0 h.1) in
    subst (λ (l : List ℕ). IsImage config l copies) (kept-copy config bytes (image-some config bytes h.0 h.1)) image

-- .. which isn't empty
pub own-image : (bytes : List ℕ) (lines : Lines) → (bytes ≡ []) ⊎ IsImageOf bytes lines → (bytes ≡ [] → ⊥) → IsImageOf bytes lines
own-image bytes lines (inl empty) some = absurd (some empty)
own-image bytes lines (inr image) some = image

pub no-image : (bytes : List ℕ) (lines : Lines) (config : Config) → Makes lines config → IsImageOf bytes lines → bytes ≡ [] → ⊥
no-image bytes lines config makes image empty =
    let none : length bytes ≡ 0 = ap (λ (l : List ℕ). length l) empty in
    let least : 1024 ≤ medium_len config = omega arith in
    omega (arith, none, least, image.size config makes)

-- its lines make its configuration
pub copy-makes : (config : Config) (made : IsMade config) (bytes : List ℕ) (copies : List Table) (lines : Lines) → IsImage config bytes copies → IsAccepted lines → (bytes ≡ []) ⊎ IsImageOf bytes lines → Makes lines config
copy-makes config made bytes copies lines image accepted own = same-lines config made bytes copies lines image accepted (own-image bytes lines own (image-some config bytes copies image))

-- It is one of some tables once it is made, of a configuration that the lines make.
pub copy-known : (config : Config) (made_so : IsMade config) (bytes now : List ℕ) (copies : List Table) (lines : Lines) → IsTrue (is_whole lines) → IsAccepted lines → (bytes ≡ []) ⊎ IsImageOf bytes lines → IsCopy config bytes copies →
    ((configured : Config) → Makes lines configured → now ≡ made_image configured bytes) → (configured : Config) × (tables : List Table) × Makes lines configured × IsImage configured now tables
copy-known config made_so bytes now copies lines whole accepted (inl empty) stands content =
    let own = made lines whole in
    let own_made : IsMade own.0 = record { lines = lines; accepted = accepted; makes = own.1 } in
    (own.0, fresh_tables own.0, own.1, subst (λ (l : List ℕ). IsImage own.0 l (fresh_tables own.0)) (sym (content own.0 own.1)) (copy-made own.0 bytes (fresh_tables own.0) own_made (inl (empty, refl))))
copy-known config made_so bytes now copies lines whole accepted (inr is) stands content =
    let own = made lines whole in
    let image = copy-image config bytes copies stands (no-image bytes lines own.0 own.1 is) in
    let makes = same-lines config made_so bytes copies lines image accepted is in
    (config, copies, makes, subst (λ (l : List ℕ). IsImage config l copies) (sym (content config makes)) (copy-made config bytes copies made_so stands))

-- the length of one that is made where it is empty
pub made-length : (lines : Lines) (bytes now : List ℕ) → ((bytes ≡ [] → ⊥) → now ≡ bytes) → ((config : Config) → Makes lines config → bytes ≡ [] → length now ≡ medium_len config) → ((config : Config) → Makes lines config → (bytes ≡ [] → ⊥) → length bytes ≡ medium_len config) →
    (config : Config) → Makes lines config → length now ≡ medium_len config
made-length lines [] now kept fresh size config makes = fresh config makes refl
made-length lines (byte ∷ bytes) now kept fresh size config makes =
    let some : byte ∷ bytes ≡ [] → ⊥ = λ empty. cc empty in
    ap (λ (l : List ℕ). length l) (kept some) ∙ size config makes some

-- ---- both were mounted, or were to be

pub table-ends : (config : Config) (sources copies : List Table) (name : List ℕ) (count : ℕ) (told : Told) (bytes : Bytes) (status : ShipStatus) → IsOfForm config sources name true → IsOfTables status →
    TablesShip config.plans sources copies name count told (held_in config bytes) status → ShipEnds config sources copies name count told bytes status
table-ends config sources copies name count told bytes (Done shipped) form of h = (form, h)
table-ends config sources copies name count told bytes OutWrite form of h = (form, h)
table-ends config sources copies name count told bytes (Gap last oldest) form of h = (form, h)
table-ends config sources copies name count told bytes Spent form of h = (form, h)
table-ends config sources copies name count told bytes (BadImage side table) form of h = (form, h)
table-ends config sources copies name count told bytes (Device Source) form of h = inr (form, h)
table-ends config sources copies name count told bytes (Device Copy) form of h = inr (form, h)
table-ends config sources copies name count told bytes NoMemory form of h = absurd h
table-ends config sources copies name count told bytes (NotImage side) form of h = absurd of
table-ends config sources copies name count told bytes NoTable form of h = absurd of
table-ends config sources copies name count told bytes OtherForm form of h = absurd of

-- the table with the name is shipped, or isn't
module _ (config : Config) (sources : List Table) (name content : List ℕ) (image : IsImage config content sources) (lines : Lines) (entries : List Entry) (makes : Makes lines config) (fresh : AreNewTables entries lines) where
  plans_are : lines.plans ≡ config.plans
  plans_are = (made-by lines config makes).plans_are

  pub not-named : Names entries name None → located_from 0 config.plans sources name ≡ None
  not-named none =
      let others = none-named lines.plans entries (new-named entries lines fresh) name none in
      located-none config.plans sources 0 name (subst (λ (ps : List Plan). (i : ℕ) (other : Plan) → slice_get ps i ≡ Some other → other.name ≡ name → ⊥) plans_are others)

  pub formed : (at : ℕ) → IsNamed entries name at → (shipped : Bool) → ((plan : Plan) → slice_get lines.plans at ≡ Some plan → is_shipped plan ≡ shipped) → IsOfForm config sources name shipped
  formed at named shipped form =
      let plan = slice_get-some lines.plans at (omega (arith, slice_get_within entries at named.entry named.here, fresh.as_many)) in
      let here : slice_get config.plans at ≡ Some plan.0 = ap (λ (ps : List Plan). slice_get ps at) (sym plans_are) ∙ plan.1 in
      let table = slice_get-some sources at (omega (arith, slice_get_within config.plans at plan.0 here, images-many config content 0 config.plans sources image.tables_are)) in
      let own = first-named lines.plans entries (new-named entries lines fresh) name at named plan.0 plan.1 in
      let others = subst (λ (ps : List Plan). (i : ℕ) (p : Plan) → i < at → slice_get ps i ≡ Some p → p.name ≡ name → ⊥) plans_are own.1 in
      record {
        at = record { place = 0 + at; plan = plan.0; table = table.0 };
        found = located-first config.plans sources 0 at name plan.0 table.0 here table.1 own.0 others;
        form = form plan.0 plan.1;
      }

-- ---- the ship ended before

module _ (config : Config) (sources copies : List Table) (name : List ℕ) (count : ℕ) (old new copy copy_new : MediaState) (told : Option (List ℕ)) (image : IsImage config old.content sources) (stands : IsCopy config copy.content copies) (looks : OnlyLooksAt old new) where
  abbrev Ends : ShipStatus → Type 0
  Ends status = ShipEnds config sources copies name count (told_of old new copy copy_new told told) (bytes_of old new copy copy_new) status

  unbegun : OnlyLooksAt copy copy_new → IsUnbegun (bytes_of old new copy copy_new) (told_of old new copy copy_new told told)
  unbegun copy_looks = record { source = looks.content; copy = copy_looks.content; quiet = appends-none told }

  -- for want of memory
  pub memory-ends : OnlyLooksAt copy copy_new → Ends NoMemory
  memory-ends copy_looks = unbegun copy_looks

  -- since the source wasn't opened
  pub source-ends : OnlyLooksAt copy copy_new → (status : ToolStatus) → (status ≡ job.NoMemory) ⊎ (status ≡ job.Device) → (status ≡ job.Device → Rose old.faults new.faults) → Ends (source_status status)
  source-ends copy_looks status (inl is) device = subst (λ (s : ToolStatus). Ends (source_status s)) (sym is) (unbegun copy_looks)
  source-ends copy_looks status (inr is) device = subst (λ (s : ToolStatus). Ends (source_status s)) (sym is) (inl (device is, unbegun copy_looks))

  -- or since the copy was looked at in vain
  pub look-ends : OnlyLooksAt copy copy_new → (lines : Lines) → IsAccepted lines → Makes lines config → (status : ShipStatus) → (status ≡ NotImage Copy) ⊎ (status ≡ Device Copy) → (status ≡ NotImage Copy → (copy.content ≡ [] → ⊥) × (IsImageOf copy.content lines → ⊥)) →
      (status ≡ Device Copy → Rose copy.faults copy_new.faults) → Ends status
  look-ends copy_looks lines accepted makes status (inl e) other device =
      let no = other e in
      let own : IsMade config = record { lines = lines; accepted = accepted; makes = makes } in
      absurd (no.1 (made-image config own copy.content copies (copy-image config copy.content copies stands no.0)))
  look-ends copy_looks lines accepted makes status (inr e) other device = subst (λ (s : ShipStatus). Ends s) (sym e) (inl (device e, inl (unbegun copy_looks)))

  -- an empty copy was made in part
  pub half-made : copy.content ≡ [] → length copy_new.content ≤ medium_len config → copy_new.reads ≡ copy.reads → Rose copy.faults copy_new.faults → Ends (Device Copy)
  half-made empty part unread rose = inl (rose, inr (record { empty = empty; part = part; unread = unread; source = looks.content; quiet = appends-none told }))

  module _ (lines : Lines) (entries : List Entry) (makes : Makes lines config) (fresh : AreNewTables entries lines) (copy_looks : OnlyLooksAt copy copy_new) where
    -- no table has the name
    pub nameless-ends : Names entries name None → Ends NoTable
    nameless-ends none = (not-named config sources name old.content image lines entries makes fresh none, unbegun copy_looks)

    -- the one that has it isn't shipped
    pub form-ends : (at : ℕ) → IsNamed entries name at → ((plan : Plan) → slice_get lines.plans at ≡ Some plan → is_shipped plan ≡ false) → Ends OtherForm
    form-ends at named other = (formed config sources name old.content image lines entries makes fresh at named false other, unbegun copy_looks)
