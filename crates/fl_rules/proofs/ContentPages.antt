-- Pages of variable data, by their bytes.
use Rattle.std.proofs.Common.{◌≡◌, ℕ, ◌+◌, ◌-◌, ◌<◌, ◌≤◌, true, List, ◌++◌, length, take, drop, replicate, slice_range, refl, sym, ap, ◌∙◌, arith, length-append, append_assoc}
use Rattle.std.proofs.Math.Seq.{take-add, drop-append_seam}
use Rattle.std.proofs.lemmas.List.{drop-drop, take-take, drop-take, take_at}
use Rattle.fl_base.specs.Bytes.{all_are}
use Rattle.fl_model.specs.Facts.{IsContent}
use Rattle.fl_model.specs.Layout.{ContentPage, content_body, committed}
use Rattle.fl_model.specs.Record.{Plan, content_per_page}
use Rattle.fl_model.specs.Row.{le, number_of}
use Rattle.fl_page.specs.Header.{page_number, page_count}
use Rattle.fl_schema.proofs.Numbers.{number_of-le}
use Rattle.fl_rules.specs.ContentPage.{IsContentPage}
use Rattle.fl_rules.specs.Endings.{IsEnded}
use Rattle.fl_rules.proofs.BytesBack.{AreBytes}
use Rattle.fl_rules.proofs.Parts.{field_is, zero_is, is_zero}

module _ (page : List ℕ) (number : ℕ) (least : 24 ≤ length page) where
  pub is_content : AreBytes page → page_number page ≡ number → 0 < page_count page → page_count page ≤ length page - 16 → all_are 0 (slice_range page 6 8) ≡ true
      → IsEnded page → IsContentPage number page
  is_content each number_is some most zero marks = record {
    used = page_count page;
    some = some;
    most = most;
    head =
        take-add 4 4 page ∙ ap (λ (l : List ℕ). take 4 page ++ l) (take-add 2 2 (drop 4 page) ∙ ap (λ (l : List ℕ). take 2 (drop 4 page) ++ take 2 l) (drop-drop 2 4 page))
        ∙ ap (λ (l : List ℕ). l ++ (take 2 (drop 4 page) ++ take 2 (drop 6 page))) (field_is page 0 4 number each (omega (arith, least)) number_is)
        ∙ ap (λ (l : List ℕ). le 4 number ++ (l ++ take 2 (drop 6 page))) (field_is page 4 2 (page_count page) each (omega (arith, least)) refl)
        ∙ ap (λ (l : List ℕ). le 4 number ++ (le 2 (page_count page) ++ l)) (zero_is page 6 2 8 refl (omega (arith, least)) zero);
    marks = marks;
  }

module _ (page : List ℕ) (number : ℕ) (is : IsContentPage number page) where
  pub content_count : length page < 65536 → page_count page ≡ is.used
  content_count short =
      ap number_of (sym (take-take 2 4 (drop 4 page) (omega arith)) ∙ ap (λ (l : List ℕ). take 2 l) (sym (drop-take 4 4 page) ∙ ap (λ (l : List ℕ). drop 4 l) is.head))
      ∙ number_of-le 2 is.used (omega (arith, is.most, short))

  pub content_zero : all_are 0 (slice_range page 6 8) ≡ true
  content_zero = is_zero page 6 2 8 refl (sym (drop-take 6 2 page) ∙ ap (λ (l : List ℕ). drop 6 l) is.head)

module _ (page : List ℕ) (number : ℕ) (plan : Plan) (content : ContentPage) (is : IsContent plan content) (bytes : page ≡ committed (content_body number content)) where
  parts : page ≡ content_body number content ++ (replicate 4 0 ++ replicate 4 255)
  parts = bytes ∙ append_assoc (content_body number content) (replicate 4 0) (replicate 4 255)

  length-page : length page ≡ length (content_body number content) + 8
  length-page = ap (λ (l : List ℕ). length l) parts ∙ length-append (content_body number content) (replicate 4 0 ++ replicate 4 255)

  length-body : length (content_body number content) ≡ 8 + length content.bytes
  length-body = length-append (le 4 number ++ le 2 content.used ++ le 2 0) content.bytes

  pub content_of_page : IsContentPage number page
  content_of_page = record {
    used = content.used;
    some = is.some;
    most = omega (arith, is.most, is.length, length-page, length-body);
    head = ap (λ (l : List ℕ). take 8 l) bytes;
    marks =
        ap (λ (k : ℕ). drop k page) (let e : length page - 8 ≡ length (content_body number content) = omega (arith, length-page) in e)
        ∙ ap (λ (l : List ℕ). drop (length (content_body number content)) l) parts ∙ drop-append_seam (content_body number content) (replicate 4 0 ++ replicate 4 255);
  }

  pub content_used : length page < 65536 → page_count page ≡ content.used
  content_used short = ap page_count bytes ∙ number_of-le 2 content.used (omega (arith, is.most, is.length, length-page, length-body, short))

  abbrev content_with : ℕ → List ℕ → ContentPage
  content_with used bytes = record { used = used; bytes = bytes }

  bytes_back : take (content_per_page plan) (drop 8 page) ≡ content.bytes
  bytes_back = ap (λ (l : List ℕ). take (content_per_page plan) (drop 8 l)) parts ∙ take_at content.bytes (replicate 4 0 ++ replicate 4 255) (content_per_page plan) is.length

  -- its content by its bytes
  pub content_back : length page < 65536 → content ≡ record { used = page_count page; bytes = take (content_per_page plan) (drop 8 page) }
  content_back short = ap (λ (used : ℕ). content_with used content.bytes) (sym (content_used short)) ∙ ap (content_with (page_count page)) (sym bytes_back)
