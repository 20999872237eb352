-- The image on a medium.
use Rattle.std.proofs.Common.{◌≡◌, ℕ, ◌+◌, ◌<◌, List, length, take, slice_range, sym, ◌∙◌, ap, subst, arith}
use Rattle.fl_model.specs.Record.{Config}
use Rattle.fl_model.specs.Image.{medium_len}
use Rattle.fl_words.specs.Config.{Lines}
use Rattle.fl_config.specs.Whole.{Makes}
use Rattle.fl_config.proofs.Opened.{range-front}
use Rattle.fl_image.specs.Header.{IsAccepted, IsHeaderOf}
use Rattle.fl_image.specs.Image.{IsImageOf}
use Rattle.fl_image.proofs.Made.{made}
use Rattle.fl_image.proofs.ReadBack.{one-header}

-- an image isn't shorter than a header
pub no-image : (bytes : List ℕ) (lines : Lines) → length bytes < 1024 → IsImageOf bytes lines → ⊥
no-image bytes lines short is = let m = made lines is.head.whole in omega (arith, short, is.size m.0 m.1)

-- the first bytes of a medium, as they were read
pub front-read : (content into : List ℕ) → length into ≡ 1024 → into ≡ slice_range content 0 (0 + length into) → take 1024 content ≡ into
front-read content into size is = sym (is ∙ ap (λ n. slice_range content 0 (0 + n)) size ∙ range-front content 1024)

pub other-head : (content into : List ℕ) (lines : Lines) → take 1024 content ≡ into → (IsHeaderOf into lines → ⊥) → IsImageOf content lines → ⊥
other-head content into lines front none is = none (subst (λ l. IsHeaderOf l lines) front is.head)

-- the header is that of one configuration, whose images have another length
pub other-length : (content into : List ℕ) (found lines : Lines) → take 1024 content ≡ into → length into ≡ 1024 → IsAccepted found → IsHeaderOf into found →
    ((config : Config) → Makes found config → length content ≡ medium_len config → ⊥) → IsAccepted lines → IsImageOf content lines → ⊥
other-length content into found lines front size accepted head other also is =
    let same = one-header into lines found (omega (arith, size)) also (subst (λ l. IsHeaderOf l lines) front is.head) accepted head in
    let m = made found head.whole in
    other m.0 m.1 (is.size m.0 (subst (λ l. Makes l m.0) (sym same) m.1))
