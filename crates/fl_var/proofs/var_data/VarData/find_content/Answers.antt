use Rattle.std.proofs.Common.{rules, ◌≡◌, ◌^◌, ◌<◌, ◌≤◌, length, sym, ◌∙◌, Err, ℕ, Option, IfSome, List, refl, ap, subst, pos_of_ne-zero}
use Rattle.fl_var.proofs.PageImages.{next-state, next-count, next-has, next-bad}
use Rattle.fl_page.proofs.ReadsInTurn.{IsCaused-read}
use Rattle.fl_frame.proofs.ContentsInTurn.{OnlyReads-read, OnlyReads-same}
use Rattle.fl_frame.proofs.ReadsInTurn.{none_read}
use Rattle.fl_frame.proofs.SingleReads.{one_read}
use Rattle.std.specs.Option.{is_some}
use Rattle.std.proofs.lemmas.Bool.{true≢false}
use Rattle.fl_base.specs.declared.types.Geometry.{Geometry}
use Rattle.fl_ring.specs.declared.ring.Ring.{Ring}
use Rattle.fl_ring.proofs.Exists.{lies_exists}
use Rattle.std.proofs.lemmas.Option.{none-some, IfSome_then}
use Rattle.fl_flash.specs.Flash.{page_at}
use Rattle.fl_mark.specs.Mark.{state_of_page}
use Rattle.fl_mark.specs.declared.page_state.PageState.TheVariants.{Committed}
use Rattle.fl_page.specs.Header.{page_count}
use Rattle.fl_page.specs.Page.{bad_page}
use Rattle.fl_var.specs.Content.{HasContent}
use Rattle.fl_var.proofs.PageLooks.{lies-later, before-next, not-behind, no-less, page-sized, next-within, page-within, bytes-page, bytes-image}
use Rattle.fl_var.proofs.var_data.VarData.find_content.Goals as goal

pub returns-then-len-eq0-clause-bad : goal.returns-then-len-eq0-clause-bad
returns-then-len-eq0-clause-bad g c = λ told.
    let v = c.args.self.now in
    let f = g.F.Flash.state c.args.flash.now in
    let is = c.if-number-next_number.true ∙ c.next_number.ensures in
    let none = sym (ap length c.content-len.ensures.content) ∙ c.if-len-eq0.true in
    let small : c.args.number < 2 ^ 32 = search rules in
    let bad = next-bad v f c.args.number small is none in
    (next-state v f c.args.number small is, bad.0, c.end_fault.ensures ∙ bad.1)

pub returns-then-number-next_number-clause-good : goal.returns-then-number-next_number-clause-good
returns-then-number-next_number-clause-good g c = λ told.
    let v = c.args.self.now in
    let f = g.F.Flash.state c.args.flash.now in
    let is = c.if-number-next_number.true ∙ c.next_number.ensures in
    let small : c.args.number < 2 ^ 32 = search rules in
    let same = ap length c.content-len.ensures.content in
    let some = pos_of_ne-zero (λ e. c.if-len-eq0.false (same ∙ e)) in
    (next-has v f c.args.number small is some, same ∙ sym (next-count v f c.args.number small is))

pub returns-in-Err-clause-counts : goal.returns-in-Err-clause-counts
returns-in-Err-clause-counts g c = OnlyReads-read _ _ _ _ _ _ c.read.ensures

pub returns-in-Ok-clause-counts : goal.returns-in-Ok-clause-counts
returns-in-Ok-clause-counts g c = OnlyReads-read _ _ _ _ _ _ c.read.ensures

pub returns-in-Err-used_in-clause-counts : goal.returns-in-Err-used_in-clause-counts
returns-in-Err-used_in-clause-counts g c = OnlyReads-read _ _ _ _ _ _ c.read.ensures

pub returns-in-Err-clause-fails : goal.returns-in-Err-clause-fails
returns-in-Err-clause-fails g c = IsCaused-read _ _ _ _ (Err c.in-Err.fault) _ c.in-Err.ensures

pub returns-then-len-eq0-clause-reads : goal.returns-then-len-eq0-clause-reads
returns-then-len-eq0-clause-reads g c = none_read (g.F.Flash.state c.args.flash.now) 1

pub returns-then-len-eq0-clause-counts : goal.returns-then-len-eq0-clause-counts
returns-then-len-eq0-clause-counts g c = OnlyReads-same (g.F.Flash.state c.args.flash.now)

pub returns-then-len-eq0-clause-pending : goal.returns-then-len-eq0-clause-pending
returns-then-len-eq0-clause-pending g c = λ le. (refl, tt)

pub returns-then-len-eq0-clause-lies : goal.returns-then-len-eq0-clause-lies
returns-then-len-eq0-clause-lies g c = c.requires.lies

pub returns-then-len-eq0-clause-room : goal.returns-then-len-eq0-clause-room
returns-then-len-eq0-clause-room g c = refl

pub returns-then-number-next_number-clause-reads : goal.returns-then-number-next_number-clause-reads
returns-then-number-next_number-clause-reads g c = none_read (g.F.Flash.state c.args.flash.now) 1

pub returns-then-number-next_number-clause-counts : goal.returns-then-number-next_number-clause-counts
returns-then-number-next_number-clause-counts g c = OnlyReads-same (g.F.Flash.state c.args.flash.now)

pub returns-then-number-next_number-clause-pending : goal.returns-then-number-next_number-clause-pending
returns-then-number-next_number-clause-pending g c = λ le. (refl, tt)

pub returns-then-number-next_number-clause-lies : goal.returns-then-number-next_number-clause-lies
returns-then-number-next_number-clause-lies g c = c.requires.lies

pub returns-then-number-next_number-clause-room : goal.returns-then-number-next_number-clause-room
returns-then-number-next_number-clause-room g c = refl

pub returns-then-number-next_number-clause-none : goal.returns-then-number-next_number-clause-none
returns-then-number-next_number-clause-none g c = λ told none. absurd (none-some _ (sym none))

pub returns-then-number-next_number-clause-uncommitted : goal.returns-then-number-next_number-clause-uncommitted
returns-then-number-next_number-clause-uncommitted g c = λ told none. absurd (none-some _ (sym none))

pub returns-then-number-next_number-clause-holds : goal.returns-then-number-next_number-clause-holds
returns-then-number-next_number-clause-holds g c = λ told lt. absurd (no-less _ _ (c.if-number-next_number.true ∙ c.next_number.ensures) lt)

pub returns-then-number-next_number-clause-some : goal.returns-then-number-next_number-clause-some
returns-then-number-next_number-clause-some g c = next-within c.args.self.now c.args.number _ c.args.buf.now.bytes (c.if-number-next_number.true ∙ c.next_number.ensures) (ap length c.content-len.ensures.content) c.if-len-eq0.false

pub returns-in-Err-clause-reads : goal.returns-in-Err-clause-reads
returns-in-Err-clause-reads g c = one_read _ _ _ _ _ _ c.read.ensures

pub returns-in-Err-clause-pending : goal.returns-in-Err-clause-pending
returns-in-Err-clause-pending g c = λ le. absurd (not-behind _ _ c.requires.within (λ e. c.if-number-next_number.false (e ∙ sym c.next_number.ensures)) le)

pub returns-in-Err-clause-lies : goal.returns-in-Err-clause-lies
returns-in-Err-clause-lies g c = lies-later c.args.self.now (g.F.Flash.state c.args.flash.now) _ c.requires.lies c.read.ensures.goes

pub returns-in-Err-clause-room : goal.returns-in-Err-clause-room
returns-in-Err-clause-room g c = c.read.ensures.size_stays

pub returns-in-Ok-clause-reads : goal.returns-in-Ok-clause-reads
returns-in-Ok-clause-reads g c = one_read _ _ _ _ _ _ c.read.ensures

pub returns-in-Ok-clause-pending : goal.returns-in-Ok-clause-pending
returns-in-Ok-clause-pending g c = λ le. absurd (not-behind _ _ c.requires.within (λ e. c.if-number-next_number.false (e ∙ sym c.next_number.ensures)) le)

pub returns-in-Ok-clause-lies : goal.returns-in-Ok-clause-lies
returns-in-Ok-clause-lies g c = lies-later c.args.self.now (g.F.Flash.state c.args.flash.now) _ c.requires.lies c.read.ensures.goes

pub returns-in-Ok-clause-room : goal.returns-in-Ok-clause-room
returns-in-Ok-clause-room g c = c.read.ensures.size_stays

pub returns-in-Err-used_in-clause-reads : goal.returns-in-Err-used_in-clause-reads
returns-in-Err-used_in-clause-reads g c = one_read _ _ _ _ _ _ c.read.ensures

pub returns-in-Err-used_in-clause-pending : goal.returns-in-Err-used_in-clause-pending
returns-in-Err-used_in-clause-pending g c = λ le. absurd (not-behind _ _ c.requires.within (λ e. c.if-number-next_number.false (e ∙ sym c.next_number.ensures)) le)

pub returns-in-Err-used_in-clause-lies : goal.returns-in-Err-used_in-clause-lies
returns-in-Err-used_in-clause-lies g c = lies-later c.args.self.now (g.F.Flash.state c.args.flash.now) _ c.requires.lies c.read.ensures.goes

pub returns-in-Err-used_in-clause-room : goal.returns-in-Err-used_in-clause-room
returns-in-Err-used_in-clause-room g c = c.read.ensures.size_stays

pub returns-in-Ok-clause-good : goal.returns-in-Ok-clause-good
returns-in-Ok-clause-good g c =
    λ told.
    let got : c.read.new.into.bytes ≡ page_at (g.F.Flash.state c.args.flash.now) c.place_of.result = rw c.in_default-read.is at c.read.ensures.bytes told in
    let same = c.bytes.ensures ∙ bytes-image c.args.self.now (g.F.Flash.state c.args.flash.now) c.args.number c.in-Some.ring c.in-Some.is c.place_of.result c.place_of.ensures.place c.read.new.into.bytes got (λ e. c.if-number-next_number.false (e ∙ sym c.next_number.ensures)) in
    subst (λ (page : List ℕ). IfSome c.in-Ok.used (λ n. HasContent c.args.number page × (n ≡ page_count page))) same c.in-Ok.ensures.good

pub returns-in-Ok-clause-none : goal.returns-in-Ok-clause-none
returns-in-Ok-clause-none g c =
    λ told none.
    let got : c.read.new.into.bytes ≡ page_at (g.F.Flash.state c.args.flash.now) c.place_of.result = rw c.in_default-read.is at c.read.ensures.bytes told in
    (before-next _ _ c.requires.within (λ e. c.if-number-next_number.false (e ∙ sym c.next_number.ensures)), λ committed. c.in-Ok.ensures.none none (ap state_of_page (c.bytes.ensures ∙ bytes-page c.args.self.now (g.F.Flash.state c.args.flash.now) c.args.number c.in-Some.ring c.in-Some.is c.place_of.result c.place_of.ensures.place c.read.new.into.bytes got) ∙ committed))

pub returns-in-Ok-clause-uncommitted : goal.returns-in-Ok-clause-uncommitted
returns-in-Ok-clause-uncommitted g c =
    λ told none.
    let got : c.read.new.into.bytes ≡ page_at (g.F.Flash.state c.args.flash.now) c.place_of.result = rw c.in_default-read.is at c.read.ensures.bytes told in
    bytes-image c.args.self.now (g.F.Flash.state c.args.flash.now) c.args.number c.in-Some.ring c.in-Some.is c.place_of.result c.place_of.ensures.place c.read.new.into.bytes got (λ e. c.if-number-next_number.false (e ∙ sym c.next_number.ensures))

pub returns-in-Ok-clause-holds : goal.returns-in-Ok-clause-holds
returns-in-Ok-clause-holds g c =
    λ told lt.
    let got : c.read.new.into.bytes ≡ page_at (g.F.Flash.state c.args.flash.now) c.place_of.result = rw c.in_default-read.is at c.read.ensures.bytes told in
    bytes-page c.args.self.now (g.F.Flash.state c.args.flash.now) c.args.number c.in-Some.ring c.in-Some.is c.place_of.result c.place_of.ensures.place c.read.new.into.bytes got

pub returns-in-Ok-clause-some : goal.returns-in-Ok-clause-some
returns-in-Ok-clause-some g c =
    let size = c.read.ensures.size_stays ∙ c.requires.room in
    IfSome_then c.in-Ok.used (subst (λ (page : List ℕ). IfSome c.in-Ok.used (λ n. HasContent c.args.number page × (n ≡ page_count page))) c.bytes.ensures c.in-Ok.ensures.good) (λ n k. page-within c.args.self.now c.args.number n c.read.new.into.bytes (λ e. c.if-number-next_number.false (e ∙ sym c.next_number.ensures)) size k.0 k.1)

pub returns-in-Err-used_in-clause-bad : goal.returns-in-Err-used_in-clause-bad
returns-in-Err-used_in-clause-bad g c =
    λ told.
    let got : c.read.new.into.bytes ≡ page_at (g.F.Flash.state c.args.flash.now) c.place_of.result = rw c.in_default-read.is at c.read.ensures.bytes told in
    let same = c.bytes.ensures ∙ bytes-image c.args.self.now (g.F.Flash.state c.args.flash.now) c.args.number c.in-Some.ring c.in-Some.is c.place_of.result c.place_of.ensures.place c.read.new.into.bytes got (λ e. c.if-number-next_number.false (e ∙ sym c.next_number.ensures)) in
    subst (λ (page : List ℕ). (state_of_page page ≡ Committed) × (HasContent c.args.number page → ⊥) × (c.in-Err-used_in.bad ≡ bad_page c.args.number page)) same c.in-Err-used_in.ensures.bad

pub unreachable-requires : goal.unreachable-requires
unreachable-requires g c = true≢false (sym c.requires.mounted ∙ ap (λ (o : Option Ring). is_some o) c.in_default.is)

pub unreachable-unreachable : goal.unreachable-unreachable
unreachable-unreachable g c = c.unreachable.type_inv

pub read-requires-clause-exists : goal.read-requires-clause-exists
read-requires-clause-exists g c = lies_exists c.in-Some.ring (g.F.Flash.state c.args.flash.now) c.place_of.result (c.requires.lies.ring c.in-Some.ring c.in-Some.is) c.place_of.ensures.within

pub read-requires-clause-room : goal.read-requires-clause-room
read-requires-clause-room g c = c.requires.room ∙ sym (ap (λ (x : Geometry). x.page) c.requires.lies.geometry)

pub used_in-requires : goal.used_in-requires
used_in-requires g c = subst (λ (l : List ℕ). 24 ≤ length l) (sym c.bytes.ensures) (page-sized c.args.self.now c.read.new.into.bytes (c.read.ensures.size_stays ∙ c.requires.room))
