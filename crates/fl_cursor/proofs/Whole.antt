-- Parts of a step, one after another.
use Rattle.std.proofs.Common.{◌≡◌, ℕ, Bool, true, false, Some, List, [], Ok, refl, sym, ◌∙◌, ap, subst, arith}
use Rattle.fl_model.specs.Row.{Row}
use Rattle.std.specs.Bool.{OnFalse}
use Rattle.fl_frame.specs.Contents.{Contents}
use Rattle.fl_page.specs.Steps.{Steps}
use Rattle.fl_cursor.specs.Asked.{asked_by, is_left}
use Rattle.fl_cursor.specs.Cursor.{table_of, mark_of, buffer_of, here_of, is_here, is_here_at, present_of, left_of}
use Rattle.fl_cursor.specs.Going.{Keeps, Notes, Gives, Goes, Fails, is_start, is_in_page, is_at_pages}
use Rattle.fl_cursor.specs.declared.bookmark.Bookmark.{Bookmark}
use Rattle.fl_cursor.specs.declared.cursor.Cursor.{Cursor}
use Rattle.fl_cursor.specs.declared.place.Here.TheVariants.{Nowhere}
use Rattle.fl_cursor.specs.declared.place.Place.{Place}
use Rattle.fl_cursor.specs.declared.place.Place.TheVariants.{Start, Pages, InPage, Pending, Ended}

pub keeps-then : {KNOTS SLOTS : ℕ} (a b c : Cursor KNOTS SLOTS) → Keeps a b → Keeps b c → Keeps a c
keeps-then a b c h k = record { table = k.table ∙ h.table; rows_name = k.rows_name ∙ h.rows_name; rows_room = k.rows_room ∙ h.rows_room; index_name = k.index_name ∙ h.index_name; index_room = k.index_room ∙ h.index_room }

notes-then : {KNOTS SLOTS : ℕ} (taken : Bool) (a b c : Cursor KNOTS SLOTS) → mark_of b ≡ mark_of a → Notes taken b c → Notes taken a c
notes-then false a b c e h = h ∙ e
notes-then true a b c e h = (
  h.0 ∙ ap (λ (m : Bookmark). record m { after = Some (present_of c).key }) e,
  subst (λ (m : Bookmark). is_left (asked_by m) (present_of c) ≡ true) e h.1,
  h.2,
  h.3,
)

gives-then : (taken : Bool) (before mid after : List Row) (row : Row) → mid ≡ before → Gives taken mid row after → Gives taken before row after
gives-then false before mid after row e h = h ∙ e
gives-then true before mid after row e h = sym e ∙ h

pub goes-then : {KNOTS SLOTS : ℕ} (taken : Bool) (contents : Contents) (reads mid now : ℕ) (a b c : Cursor KNOTS SLOTS) → Goes false contents reads a mid b → Goes taken contents mid b now c → Goes taken contents reads a now c
goes-then taken contents reads mid now a b c h k = record {
  keeps = keeps-then a b c h.keeps k.keeps;
  notes = notes-then taken a b c h.notes k.notes;
  ready = λ held r. k.ready held (h.ready held r);
  told = λ told. k.told (h.told told);
  gives = λ told. gives-then taken (left_of a contents) (left_of b contents) (left_of c contents) (present_of c) (h.gives told) (k.gives (h.told told));
  most = λ told.
      let first = h.most told in
      let second = k.most (h.told told) in
      omega (arith, first, second);
  fewer = λ told.
      let first = h.fewer told in
      let second = k.fewer (h.told told) in
      omega (arith, first, second);
  later = λ lt.
      let second = k.later lt in
      let first = h.later (omega (arith, second, lt)) in
      omega (arith, first, second);
  least = λ told lt.
      let rises = k.later lt in
      let second = k.least (h.told told) lt in
      let first = h.least told (omega (arith, rises, lt)) in
      omega (arith, first, second);
}

pub fails-then : {KNOTS SLOTS : ℕ} (contents : Contents) (reads mid now : ℕ) (a b c : Cursor KNOTS SLOTS) → Goes false contents reads a mid b → Fails contents mid b now c → Fails contents reads a now c
fails-then contents reads mid now a b c h k = record {
  keeps = keeps-then a b c h.keeps k.keeps;
  notes = k.notes ∙ h.notes;
  ready = λ held r. k.ready held (h.ready held r);
  told = λ told. k.told (h.told told);
  most = λ told.
      let first = h.most told in
      let second = k.most (h.told told) in
      omega (arith, first, second);
  fewer = λ told.
      let first = h.fewer told in
      let second = k.fewer (h.told told) in
      omega (arith, first, second);
}

-- a cursor that holds no row yet
pub goes-nowhere : {KNOTS SLOTS : ℕ} (a : Cursor KNOTS SLOTS) (contents : Contents) (reads : ℕ) → Goes false contents reads a reads (record a { here = Nowhere })
goes-nowhere a contents reads = record {
  keeps = record { table = refl; rows_name = refl; rows_room = refl; index_name = refl; index_room = refl };
  notes = refl;
  ready = λ held h. record { flash = h.flash; same = h.same; lies = h.lies; rows_room = h.rows_room; index_room = h.index_room; placed = h.placed; index_good = h.index_good };
  told = λ told. record { standing = told.standing; ascends = told.ascends; passes = told.passes; fresh = told.fresh; looking = told.looking };
  gives = λ told. refl;
  most = λ told. omega arith;
  fewer = λ told. omega arith;
  later = λ lt. omega arith;
  least = λ told lt. omega arith;
}

-- a cursor that stays as it is
pub goes-still : {KNOTS SLOTS : ℕ} (a : Cursor KNOTS SLOTS) (contents : Contents) (reads : ℕ) → Goes false contents reads a reads a
goes-still a contents reads = record {
  keeps = record { table = refl; rows_name = refl; rows_room = refl; index_name = refl; index_room = refl };
  notes = refl;
  ready = λ held h. h;
  told = λ told. told;
  gives = λ told. refl;
  most = λ told. omega arith;
  fewer = λ told. omega arith;
  later = λ lt. omega arith;
  least = λ told lt. omega arith;
}

-- there is a row just where one was taken
pub here-after : {KNOTS SLOTS : ℕ} (taken : Bool) (a c : Cursor KNOTS SLOTS) → Notes taken a c → OnFalse taken (here_of c ≡ here_of a) → here_of a ≡ Nowhere → is_here c ≡ taken
here-after true a c notes same none = notes.2
here-after false a c notes same none = ap (is_here_at (table_of c) (buffer_of c)) (same ∙ none)

-- behind the pages
pub behind-pages : (place : Place) → is_start place ≡ false → is_in_page place ≡ false → ((next : ℕ) → place ≡ Pages next → ⊥) → is_at_pages place ≡ false
behind-pages (Pages next) begun outside other = absurd (other next refl)
behind-pages (InPage number row) begun outside other = outside
behind-pages (Pending row) begun outside other = refl
behind-pages Ended begun outside other = refl
behind-pages Start begun outside other = begun

-- what a step makes of the rows left
pub goes-steps : (more : Bool) (before : List Row) (row : Row) (after : List Row) → Gives more before row after → OnFalse more (after ≡ []) → Steps (Ok more) before row after
goes-steps true before row after gives none = gives
goes-steps false before row after gives none = (sym gives ∙ none, none)
