-- What a put changes of a flash: the calls of the table, and then those of its log.
use Rattle.std.proofs.Common.{◌≡◌, ◌⊎◌, ℕ, ◌+◌, ◌*◌, ◌≤◌, Bool, true, cond, is_some, Option, List, IsTrue, inl, inr, refl, sym, ◌∙◌, ap, subst, arith}
use Rattle.fl_flash.specs.Flash.{FlashState, page_at}
use Rattle.fl_frame.specs.Reads.{OnlyReads}
use Rattle.fl_ring.specs.Written.{Writes}
use Rattle.fl_ring.proofs.Written.{few-writes, writes-then, writes-wider}
use Rattle.fl_parts.specs.Blobs.{most_pages, MayFill}
use Rattle.fl_table.specs.Memory as table
use Rattle.fl_table.specs.Mounting as mounting
use Rattle.fl_parts.specs.IndexMount.{FewRepairs}
use Rattle.fl_parts.proofs.PlacedBlobs.{same}
use Rattle.fl_table.specs.Paged as paged
use Rattle.fl_table.specs.Paged.{next_page}
use Rattle.fl_table.specs.declared.table.Table.{Table}
use Rattle.fl_parts.proofs.BlobsOfTable.{same-some}
use Rattle.fl_parts.proofs.IndexOfTable.{same-index}
use Rattle.fl_table.proofs.Paged.{rows-ahead-later}
use Rattle.fl_rlc.specs.Paged.{HasMadePage}
use Rattle.fl_rlc.specs.Rows.{StandOutside}
use Rattle.fl_rlc.specs.Table.{repairs_in, rings_in, MayPut, MaySealLog}
use Rattle.fl_rlc.specs.declared.table.LoggedTable.{LoggedTable}
use Rattle.fl_rlc.proofs.PutFrames.{log-outside}

none : 0 ≤ 0
none = omega arith

one-more : (a b c : ℕ) → a + b ≤ a + c + b
one-more a b c = omega arith

other-order : (a b c : ℕ) → a + b + c ≤ a + c + b
other-order a b c = omega arith

nothing-more : (n : ℕ) → n ≤ n + 0
nothing-more n = omega arith

module _ {KNOTS SLOTS : ℕ} (t : LoggedTable KNOTS SLOTS) (blob : Option (List ℕ)) where
  -- those of the table alone
  pub table-writes : (f g : FlashState) → Writes (table.MayPut t.table blob) 0 (mounting.rings_in t.table + most_pages t.table.blobs blob) f g → Writes (MayPut t blob) 0 (rings_in t + most_pages t.table.blobs blob) f g
  table-writes f g h =
      writes-wider (table.MayPut t.table blob) (MayPut t blob) 0 0 (mounting.rings_in t.table + most_pages t.table.blobs blob) (rings_in t + most_pages t.table.blobs blob) f g (λ page may. inl may) none
      (one-more (mounting.rings_in t.table) (most_pages t.table.blobs blob) (cond (is_some t.log) 1 0)) h

  -- .. and of both
  pub logged-writes : (least : ℕ) (f m g : FlashState) → m.media.tells ≡ f.media.tells → Writes (table.MayPut t.table blob) least (mounting.rings_in t.table + most_pages t.table.blobs blob) f m →
      Writes (MaySealLog t.log) 0 (cond (is_some t.log) 1 0) m g → Writes (MayPut t blob) least (rings_in t + most_pages t.table.blobs blob) f g
  logged-writes least f m g tells first second =
      let all = mounting.rings_in t.table + most_pages t.table.blobs blob in
      writes-wider (MayPut t blob) (MayPut t blob) (least + 0) least (mounting.rings_in t.table + most_pages t.table.blobs blob + cond (is_some t.log) 1 0) (rings_in t + most_pages t.table.blobs blob) f g (λ page may. may) (nothing-more least)
      (other-order (mounting.rings_in t.table) (most_pages t.table.blobs blob) (cond (is_some t.log) 1 0))
      (writes-then (MayPut t blob) least all 0 (cond (is_some t.log) 1 0) f m g tells
      (writes-wider (table.MayPut t.table blob) (MayPut t blob) least least all all f m (λ page may. inl may) (same least) (same all) first)
      (writes-wider (MaySealLog t.log) (MayPut t blob) 0 0 (cond (is_some t.log) 1 0) (cond (is_some t.log) 1 0) m g (λ page may. inr may) none (same (cond (is_some t.log) 1 0)) second))

  -- the page of pending rows stays behind the seal of the log
  pub page-logged : (f m g : FlashState) → m.media.tells ≡ f.media.tells → paged.HasMadePage t.table blob f m → Writes (MaySealLog t.log) 0 (cond (is_some t.log) 1 0) m g →
      (IsTrue m.media.tells → StandOutside t.log (page_at m) (page_at g)) → HasMadePage t blob f g
  page-logged f m g tells made second outside = record {
    writes = logged-writes 1 f m g tells made.writes second;
    page = λ told apart beside rows gathers.
        log-outside t.log (page_at m) (page_at g) (next_page t.table) (outside (subst IsTrue (sym tells) told)) beside ∙ made.page told apart rows gathers;
    ahead = λ told.
        rows-ahead-later t.table (MayFill blob t.table.blobs) (λ page. MayFill blob t.table.blobs page ⊎ MaySealLog t.log page) (page_at m) (page_at g) (λ page not may. not (inl may))
        (λ page not. second.tries.stands (subst IsTrue (sym tells) told) page (λ may. not (inr may))) (made.ahead told);
  }

-- ---- what a mount repairs

same-rings : {KNOTS SLOTS : ℕ} (t u : Table KNOTS SLOTS) → table.IsSamePlan t u → mounting.rings_in u ≡ mounting.rings_in t
same-rings t u plan =
    ap (λ (b : Bool). cond b 1 0 + cond (is_some u.blobs) 1 0 + 1) (same-index t.bitmaps u.bitmaps plan.bitmaps)
    ∙ ap (λ (b : Bool). cond (is_some t.bitmaps) 1 0 + cond b 1 0 + 1) (same-some t.blobs u.blobs plan.blobs)

some-few : (f g a : ℕ) → g ≤ f + 1 → g ≤ f + (1 + 2 * a)
some-few f g a le = omega (arith, le)

all-programs : (f m n g a b : ℕ) → m ≤ f + 1 → n ≡ m → g ≤ n + 2 * b → b ≡ a → g ≤ f + (1 + 2 * a)
all-programs f m n g a b first read sealed rings = omega (arith, first, read, sealed, rings)

all-erases : (f m n g a b : ℕ) → m ≤ f + 1 → n ≡ m → g ≤ n + b → b ≡ a → g ≤ f + (1 + 2 * a)
all-erases f m n g a b first read sealed rings = omega (arith, first, read, sealed, rings)

both-few : (f m g a b one two : ℕ) → m ≤ f + a → g ≤ m + (1 + 2 * b) → b ≡ a → one ≡ 1 → two ≡ 2 * a → g ≤ f + (a + one + two)
both-few f m g a b one two first then rings is are = omega (arith, first, then, rings, is, are)

alone-few : (f g a one two : ℕ) → g ≤ f + a → g ≤ f + (a + one + two)
alone-few f g a one two le = omega (arith, le)

module _ {KNOTS SLOTS : ℕ} (t : Table KNOTS SLOTS) where
  -- the log was repaired, ..
  pub repairs-log : (f m : FlashState) → m.work.programs ≤ f.work.programs + 1 → m.work.erases ≤ f.work.erases + 1 → FewRepairs (1 + 2 * mounting.rings_in t) f m
  repairs-log f m programs erases = record {
    programs = some-few f.work.programs m.work.programs (mounting.rings_in t) programs;
    erases = some-few f.work.erases m.work.erases (mounting.rings_in t) erases;
  }

  -- .. its newest page was read, ..
  pub repairs-read : (k : ℕ) (f m n : FlashState) → m.work.programs ≤ f.work.programs + 1 → m.work.erases ≤ f.work.erases + 1 → OnlyReads m k n → FewRepairs (1 + 2 * mounting.rings_in t) f n
  repairs-read k f m n programs erases reads = record {
    programs = all-programs f.work.programs m.work.programs n.work.programs n.work.programs (mounting.rings_in t) (mounting.rings_in t) programs reads.programs (omega arith) refl;
    erases = all-erases f.work.erases m.work.erases n.work.erases n.work.erases (mounting.rings_in t) (mounting.rings_in t) erases reads.erases (omega arith) refl;
  }

  -- .. and what joined was sealed
  pub repairs-sealed : (u : Table KNOTS SLOTS) (k : ℕ) (f m n g : FlashState) → table.IsSamePlan t u → m.work.programs ≤ f.work.programs + 1 → m.work.erases ≤ f.work.erases + 1 → OnlyReads m k n →
      Writes (table.MaySeal u) 0 (mounting.rings_in u) n g → FewRepairs (1 + 2 * mounting.rings_in t) f g
  repairs-sealed u k f m n g plan programs erases reads writes =
      let few = few-writes (table.MaySeal u) 0 (mounting.rings_in u) n g writes in
      let rings = same-rings t u plan in
      record {
        programs = all-programs f.work.programs m.work.programs n.work.programs g.work.programs (mounting.rings_in t) (mounting.rings_in u) programs reads.programs few.0 rings;
        erases = all-erases f.work.erases m.work.erases n.work.erases g.work.erases (mounting.rings_in t) (mounting.rings_in u) erases reads.erases few.1 rings;
      }

module _ {KNOTS SLOTS : ℕ} (t : LoggedTable KNOTS SLOTS) where
  -- a table that has no log, or whose log wasn't come to
  pub repairs-alone : (f g : FlashState) → FewRepairs (mounting.rings_in t.table) f g → FewRepairs (repairs_in t) f g
  repairs-alone f g few =
      let log : ℕ = cond (is_some t.log) 1 0 in
      let page : ℕ = cond (is_some t.log) (2 * mounting.rings_in t.table) 0 in
      record {
        programs = alone-few f.work.programs g.work.programs (mounting.rings_in t.table) log page few.programs;
        erases = alone-few f.work.erases g.work.erases (mounting.rings_in t.table) log page few.erases;
      }

  -- the table and its log
  pub repairs-both : (u : Table KNOTS SLOTS) (f m g : FlashState) → is_some t.log ≡ true → table.IsSamePlan t.table u → FewRepairs (mounting.rings_in t.table) f m → FewRepairs (1 + 2 * mounting.rings_in u) m g → FewRepairs (repairs_in t) f g
  repairs-both u f m g some plan first then =
      let rings = same-rings t.table u plan in
      let one : cond (is_some t.log) 1 0 ≡ 1 = ap (λ (b : Bool). cond b 1 0) some in
      let two : cond (is_some t.log) (2 * mounting.rings_in t.table) 0 ≡ 2 * mounting.rings_in t.table = ap (λ (b : Bool). cond b (2 * mounting.rings_in t.table) 0) some in
      record {
        programs = both-few f.work.programs m.work.programs g.work.programs (mounting.rings_in t.table) (mounting.rings_in u) (cond (is_some t.log) 1 0) (cond (is_some t.log) (2 * mounting.rings_in t.table) 0) first.programs then.programs rings one two;
        erases = both-few f.work.erases m.work.erases g.work.erases (mounting.rings_in t.table) (mounting.rings_in u) (cond (is_some t.log) 1 0) (cond (is_some t.log) (2 * mounting.rings_in t.table) 0) first.erases then.erases rings one two;
      }

-- how often a put may read the medium, by rings and by pages of its blob
pub apart-reads : (n m a b : ℕ) → n ≤ m + (a + b) → n ≤ m + a + b
apart-reads n m a b le = omega (arith, le)

-- what a flush of the table alone may read is at most one read for each ring
pub all-rings : {KNOTS SLOTS : ℕ} (t : LoggedTable KNOTS SLOTS) (n m : ℕ) → n ≤ m + mounting.rings_in t.table → n ≤ m + rings_in t
all-rings t n m le = omega (arith, le)
