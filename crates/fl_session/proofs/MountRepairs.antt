-- The pages of a medium after a mount of its tables.
use Rattle.std.proofs.Common.{◌≡◌, ◌⊎◌, ℕ, ◌+◌, ◌-◌, ◌*◌, ◌<◌, ◌≤◌, Bool, false, inl, inr, List, [], ◌∷◌, ◌++◌, length, take, drop, length-drop, sum_by, refl, sym, ◌∙◌, ap, subst, arith, MatchBool, replicate}
use Rattle.std.specs.Int.Bits.{and_zero_r}
use Rattle.std.proofs.lemmas.List.{drop_all, length-take-le}
use Rattle.fl_base.specs.declared.types.Geometry.{Geometry}
use Rattle.fl_flash.specs.Flash.{FlashState, and_bytes, blank, page_at, programmed}
use Rattle.fl_mark.proofs.InModel.{model_state}
use Rattle.fl_model.specs.Image.{page_bytes}
use Rattle.fl_model.specs.Layout.{is_blank}
use Rattle.fl_model.specs.Record.{Config, Plan, blocks_of}
use Rattle.fl_model.specs.Table as model
use Rattle.fl_model.proofs.Lists.{slice_get-some}
use Rattle.fl_machine.specs.Stays.{IsRepaired, IsReplayed, PagesAreRepaired}
use Rattle.fl_ring.proofs.Lengths.{page_length}
use Rattle.fl_parts.proofs.Images.{pages-medium}
use Rattle.fl_parts.proofs.States.{blank-is}
use Rattle.fl_store.specs.Repaired as repaired
use Rattle.fl_store.specs.Tables.{TablesStand}
use Rattle.fl_store.specs.declared.tables.Entry.{Entry}
use Rattle.fl_store.specs.Store.{IsOnMedium}

-- zeros that are programmed stand then
and-zeros : (xs : List ℕ) → and_bytes xs (replicate (length xs) 0) ≡ replicate (length xs) 0
and-zeros [] = refl
and-zeros (x ∷ xs) = ap (λ (y : ℕ). y ∷ and_bytes xs (replicate (length xs) 0)) (and_zero_r x) ∙ ap (λ (l : List ℕ). 0 ∷ l) (and-zeros xs)

marked : (old : List ℕ) (size : ℕ) → length old ≡ size → 4 ≤ size → programmed old (size - 4) (replicate 4 0) ≡ take (size - 4) old ++ replicate 4 0
marked old size len least =
    let field = take 4 (drop (size - 4) old) in
    let four : length field ≡ 4 = length-take-le 4 (drop (size - 4) old) (omega (arith, len, length-drop (size - 4) old)) in
    let zeros : and_bytes field (replicate 4 0) ≡ replicate 4 0 = subst (λ n. and_bytes field (replicate n 0) ≡ replicate n 0) four (and-zeros field) in
    let behind : drop (size - 4 + 4) old ≡ [] = drop_all (size - 4 + 4) old (omega (arith, len)) in
    ap (λ (l : List ℕ). take (size - 4) old ++ (l ++ drop (size - 4 + 4) old)) zeros ∙ ap (λ (l : List ℕ). take (size - 4) old ++ (replicate 4 0 ++ l)) behind

-- tables have pages of 64 bytes at least
served-by : (plans : List Plan) (entries : List Entry) (tables : List model.Table) (f : FlashState) (mounted : ℕ → Bool) (page : ℕ) → TablesStand f mounted plans entries tables → page < sum_by blocks_of plans * f.geometry.block → 64 ≤ f.geometry.page
served-by [] entries tables f mounted page h within = absurd (omega (arith, within))
served-by (plan ∷ plans) entries tables f mounted page h within =
    let entry = slice_get-some entries 0 (omega (arith, h.as_many)) in
    let table = slice_get-some tables 0 (omega (arith, h.all)) in
    let s = h.each 0 plan entry.0 table.0 refl entry.1 table.1 in
    omega (arith, entry.0.table.table.served.page_least, ap (λ (g : Geometry). g.page) (sym s.planned.table.geometry ∙ s.geometry))

-- what a mount leaves of a flash's pages, as of those of its medium
pub pages-repaired : (config : Config) (entries : List Entry) (tables : List model.Table) (f g : FlashState) (mounted : ℕ → Bool) → IsOnMedium config f → IsOnMedium config g → TablesStand f mounted config.plans entries tables →
    ((page : ℕ) → page < sum_by blocks_of config.plans * f.geometry.block → repaired.IsLeft config.plans f.geometry page (page_at f page) (page_at g page)) → PagesAreRepaired config f.media.content g.media.content
pages-repaired config entries tables f g mounted h k stand each page within =
    subst (λ (old : ℕ → List ℕ). IsRepaired config (old page) (page_bytes config g.media.content page) ⊎ IsReplayed config page (old page)) (sym (pages-medium config f h.start h.geometry))
    (subst (λ (new : ℕ → List ℕ). IsRepaired config (page_at f page) (new page) ⊎ IsReplayed config page (page_at f page)) (sym (pages-medium config g k.start k.geometry))
    (as-left (subst (λ (x : Geometry). repaired.IsLeft config.plans x page (page_at f page) (page_at g page)) h.geometry (each page inside))))
  where
    blocks : ℕ
    blocks = sum_by blocks_of config.plans

    inside : page < blocks * f.geometry.block
    inside = subst (λ (x : Geometry). page < blocks * x.block) (sym h.geometry) within

    size : f.geometry.page ≡ config.geometry.page
    size = ap (λ (x : Geometry). x.page) h.geometry

    least : 64 ≤ config.geometry.page
    least = omega (arith, size, served-by config.plans entries tables f mounted page stand inside)

    reaches : f.start + blocks * f.geometry.block * f.geometry.page ≤ length f.media.content
    reaches = omega (arith, h.start, h.len, ap (λ (x : Geometry). blocks * x.block * x.page) h.geometry)

    len : length (page_at f page) ≡ config.geometry.page
    len = page_length (record f { blocks = blocks }) page reaches inside ∙ size

    as-left : repaired.IsLeft config.plans config.geometry page (page_at f page) (page_at g page) → IsRepaired config (page_at f page) (page_at g page) ⊎ IsReplayed config page (page_at f page)
    as-left (inl (inl same)) = inl (inl same)
    as-left (inl (inr (inl void))) = inl (inr (inl ((model_state (page_at f page) (omega (arith, len, least))).torn.0 void.0, void.1 ∙ marked (page_at f page) config.geometry.page len (omega (arith, least)))))
    as-left (inl (inr (inr erased))) = inl (inr (inr (ap is_blank erased ∙ blank-is config.geometry.page)))
    as-left (inr filled) =
        inr (record { place = filled.place; plan = filled.plan; is = filled.is; logged = filled.logged; from = filled.from; below = filled.below; blank = ap is_blank filled.blank ∙ blank-is config.geometry.page })

-- a mount where nothing is mounted
pub mount-stays : (config : Config) (mounted : Bool) (bytes now : List ℕ) → mounted ≡ false → PagesAreRepaired config bytes now → MatchBool mounted (now ≡ bytes) (PagesAreRepaired config bytes now)
mount-stays config mounted bytes now off h = subst (λ b. MatchBool b (now ≡ bytes) (PagesAreRepaired config bytes now)) (sym off) h
