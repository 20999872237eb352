use Rattle.std.proofs.Common.{ℕ, ◌≡◌, ◌≤◌, false, List, length, sym, ◌∙◌, ap, subst}
use Rattle.std.proofs.lemmas.Bool.{and_right}
use Rattle.fl_index.specs.Looking.{is_kept}
use Rattle.fl_index.specs.Memory.{first_in, lists, per_page}
use Rattle.fl_index.specs.Page.{page_number}
use Rattle.fl_index.proofs.index.BitmapIndex.held_listing.Goals as goal

pub number_in-page-requires : goal.number_in-page-requires
number_in-page-requires c = subst (λ (n : ℕ). 16 ≤ n) (sym (ap (λ (l : List ℕ). length l) c.bytes.ensures)) c.requires.room

pub returns-clause-none : goal.returns-clause-none
returns-clause-none c = λ e.
    let t = c.args.self.now in
    and_right (is_kept t c.args.buf.now) _ (subst (λ (p : ℕ). lists (per_page t) c.args.number (first_in t p) ≡ false) (c.number_in-page.ensures ∙ ap page_number c.bytes.ensures) (c.listing_on.ensures.none e))
