-- The pages of a medium that was just made.
use Rattle.std.proofs.Common.{◌≡◌, ℕ, ◌+◌, ◌-◌, ◌*◌, ◌≤◌, inl, inr, Bool, true, false, ◌==◌, IsTrue, Option, Some, Ok, [], ◌∷◌, List, ◌++◌, length, take, drop, slice_range, sum_by, refl, sym, ◌∙◌, ap, subst, arith, replicate, length-append, eqb-true, mul-le-mul_right}
use Rattle.std.proofs.lemmas.List.{drop-replicate, length-replicate, take-replicate}
use Rattle.std.proofs.Math.Seq.{drop-append-add}
use Rattle.fl_base.specs.declared.types.Geometry.{Geometry}
use Rattle.fl_config.specs.Opening.{IsMade, Opens}
use Rattle.fl_config.specs.Whole.{is_whole, Makes}
use Rattle.fl_flash.specs.Media.{MediaState}
use Rattle.fl_image.specs.Header.{IsAccepted}
use Rattle.fl_image.proofs.Made.{made, made-by}
use Rattle.fl_machine.specs.Machine.{fresh_tables}
use Rattle.fl_model.specs.Image.{medium_len}
use Rattle.fl_model.specs.Record.{Plan, Config, blocks_of}
use Rattle.fl_words.specs.Config.{Lines}
use Rattle.fl_words.specs.Medium.{IsImage, header}
use Rattle.fl_store.specs.Made.{MakesImage}
use Rattle.fl_store.specs.Store.{IsBlankBehind}
use Rattle.fl_store.proofs.NewImages.{new-image}

-- a medium without a byte
pub none-of : (bytes : List ℕ) (n : ℕ) → n ≡ length bytes → (n == 0) ≡ true → bytes ≡ []
none-of [] n e zero = refl
none-of (byte ∷ bytes) n e zero = absurd (omega (arith, eqb-true n 0 zero, e))

bytes-behind : (head : List ℕ) (n at size : ℕ) → length head ≤ at → at + size ≤ length head + n → slice_range (head ++ replicate n 255) at (at + size) ≡ replicate size 255
bytes-behind head n at size h e =
    let k = at - length head in
    let at_is : at ≡ length head + k = omega arith in
    let cut : drop at (head ++ replicate n 255) ≡ replicate (n - k) 255 =
    ap (λ m. drop m (head ++ replicate n 255)) at_is ∙ (drop-append-add head (replicate n 255) k ∙ drop-replicate k n 255) in
    let count : at + size - at ≡ size = omega arith in
    ap (λ l. take (at + size - at) l) cut ∙ (ap (λ m. take m (replicate (n - k) 255)) count ∙ take-replicate size (n - k) 255 (omega arith))

-- lengths of the image, by its lines
len-of : (lines : Lines) (config : Config) (geometry : Geometry) → Makes lines config → lines.device ≡ Some geometry → medium_len config ≡ 1024 + sum_by blocks_of lines.plans * geometry.block * geometry.page
len-of lines config geometry makes device =
    let parts = made-by lines config makes in
    let same : config.geometry ≡ geometry = let k : ◌≡◌ {A = Option Geometry} (Some config.geometry) (Some geometry) = sym parts.device_is ∙ device in cc in
    ap (λ (ps : List Plan). 1024 + sum_by blocks_of ps * config.geometry.block * config.geometry.page) (sym parts.plans_are)
    ∙ ap (λ (g : Geometry). 1024 + sum_by blocks_of lines.plans * g.block * g.page) same

-- the pages behind a whole header
pub blank-behind : (lines : Lines) (config : Config) (geometry : Geometry) (content : List ℕ) → Makes lines config → lines.device ≡ Some geometry → content ≡ header config ++ replicate (medium_len config - 1024) 255 → length (header config) ≡ 1024 →
    IsBlankBehind geometry (sum_by blocks_of lines.plans) content
blank-behind lines config geometry content makes device e size p within =
    let fits : (p + 1) * geometry.page ≤ sum_by blocks_of lines.plans * geometry.block * geometry.page = mul-le-mul_right geometry.page (omega (arith, within)) in
    ap (λ c. slice_range c (1024 + p * geometry.page) (1024 + p * geometry.page + geometry.page)) e
    ∙ bytes-behind (header config) (medium_len config - 1024) (1024 + p * geometry.page) geometry.page (omega (arith, size)) (omega (arith, size, len-of lines config geometry makes device, fits))

new-blank : (lines : Lines) (config : Config) (old new : MediaState) (geometry : Geometry) → Makes lines config → lines.device ≡ Some geometry → IsMade (medium_len config) (header config) old new → IsTrue new.tells →
    IsBlankBehind geometry (sum_by blocks_of lines.plans) new.content
new-blank lines config old new geometry makes device h told =
    let e = h.content (subst IsTrue h.tells told) in
    let count : medium_len config ≡ length (header config) + (medium_len config - 1024) =
    sym h.len_is ∙ (ap length e ∙ (length-append (header config) (replicate (medium_len config - 1024) 255) ∙ ap (λ n. length (header config) + n) (length-replicate {A = ℕ} (medium_len config - 1024) 255))) in
    blank-behind lines config geometry new.content makes device e (omega (arith, count))

-- ---- the call that makes an image

pub makes-so : (len : ℕ) (head : List ℕ) (old new : MediaState) (n : ℕ) (is_new : Bool) → n ≡ length old.content → is_new ≡ (n == 0) → Opens len head old (Ok tt) new → MakesImage len head old (Ok is_new) new
makes-so len head old new n true e k (inl h) = h
makes-so len head old new n true e k (inr found) = absurd (found.some (none-of old.content n e (sym k)))
makes-so len head old new n false e k (inr found) = found
makes-so len head old new n false e k (inl h) =
    let zero : n ≡ 0 = e ∙ ap (λ (l : List ℕ). length l) h.empty in
    let no : false ≡ true = k ∙ ap (λ x. x == 0) zero in
    absurd (cc no)

pub makes-len : (len : ℕ) (head : List ℕ) (old new : MediaState) (is_new : Bool) → MakesImage len head old (Ok is_new) new → length new.content ≡ len
makes-len len head old new true h = h.len_is
makes-len len head old new false found = ap (λ (l : List ℕ). length l) found.same ∙ found.len_is

pub makes-blank : (lines : Lines) (old new : MediaState) (is_new : Bool) → IsTrue (is_whole lines) → ((config : Config) → Makes lines config → MakesImage (medium_len config) (header config) old (Ok is_new) new) → is_new ≡ true → IsTrue new.tells → (geometry : Geometry) → lines.device ≡ Some geometry →
    IsBlankBehind geometry (sum_by blocks_of lines.plans) new.content
makes-blank lines old new true whole makes is told geometry device =
    let some = made lines whole in
    new-blank lines some.0 old new geometry some.1 device (makes some.0 some.1) told
makes-blank lines old new false whole makes is told geometry device = absurd (cc is)

-- it stands for empty tables then
pub makes-empty : (lines : Lines) (old new : MediaState) (is_new : Bool) → ((config : Config) → Makes lines config → MakesImage (medium_len config) (header config) old (Ok is_new) new) → is_new ≡ true → IsTrue new.tells → IsAccepted lines → (config : Config) → Makes lines config →
    IsImage config new.content (fresh_tables config)
makes-empty lines old new true makes is told accepted config own =
    let h = makes config own in
    subst (λ (content : List ℕ). IsImage config content (fresh_tables config)) (sym (h.content (subst IsTrue h.tells told))) (new-image config (record { lines = lines; accepted = accepted; makes = own }))
makes-empty lines old new false makes is told accepted config own = absurd (cc is)
