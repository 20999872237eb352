use Rattle.fl_ring.specs.declared.ring.Ring.{Ring}
use Rattle.std.proofs.Common.{None, is_some, ◌≡◌, Option, ◌+◌, ◌*◌, ◌%◌, ◌^◌, ℕ, ◌<◌, ◌≤◌, ◌==◌, cond, List, ◌++◌, Some, Result, Ok, Err, length, take, drop, get_or, set, unwrap_or, zero-le, arith, refl, sym, ◌∙◌, ap, subst}
use Rattle.std.specs.Prelude.{option_map}
use Rattle.std.proofs.lemmas.Result.{err_from_is_err_and}
use Rattle.std.proofs.lemmas.Bool.{true≢false}
use Rattle.std.proofs.lemmas.Option.{none-some, same_Some}
use Rattle.fl_base.specs.Bytes.{splice}
use Rattle.fl_flash.specs.Flash.{page_at}
use Rattle.fl_flash.specs.declared.flash.FlashFault.{FlashFault}
use Rattle.fl_ring.specs.Written.{done}
use Rattle.fl_ring.proofs.Written.{held-writes}
use Rattle.fl_ring.specs.Operations.{change, seal_kinds}
use Rattle.fl_ring.specs.Place.{next_of, oldest_after, shape_of, StandsFor}
use Rattle.fl_ring.specs.Ring.{Shape, OutsideStands, oldest, place, sealed}
use Rattle.fl_ring.specs.Sealing.{Performed, Seals}
use Rattle.fl_index.specs.Page.{header_bytes}
use Rattle.fl_index.proofs.WaitingEntries.{written-back, headed-length, rest-headed}
use Rattle.fl_index.specs.Memory.{next_in, per_page, len_in}
use Rattle.fl_index.proofs.Lies.{lies-later, no-ring, this-ring}
use Rattle.fl_index.proofs.Lookups.{next-same}
use Rattle.fl_index.proofs.HeaderPages.{remembered-behind}
use Rattle.fl_index.proofs.State.{shape_in, HaveSize}
use Rattle.fl_index.proofs.SealEnds.{planned-ring, lies-size, seal-ready, seal-breaks, seal-finishes}
use Rattle.fl_index.proofs.SealAnswers.{sealing-of, some-room, number-of, seal-on}
use Rattle.std.proofs.Math.Nat.{mod-lt}
use Rattle.fl_ring.proofs.NumbersAfterSeal.{fits_below}
use Rattle.fl_index.proofs.Limits.{none-after, few-fit, body-large}
use Rattle.fl_index.proofs.index.BitmapIndex.seal.Goals as goal

pub nonzero_rem-at : goal.nonzero_rem-at
nonzero_rem-at g c = let t = c.args.self.now in some-room t c.len.result c.len.ensures

pub returns-in_err-seal-clause-ends : goal.returns-in_err-seal-clause-ends
returns-in_err-seal-clause-ends g c = λ first plan table rose device watched stands.
    let t = c.args.self.now in
    let old = g.F.Flash.state c.args.flash.now in
    let new = g.F.Flash.state c.seal.new.flash in
    let ring = c.in-Some.ring in
    let has : t.ring ≡ Some ring = sym c.take.ensures.value ∙ c.in-Some.is in
    let shape : shape_of ring ≡ shape_in first plan = t.lies ring has ∙ planned-ring t first plan stands.in_ring.planned in
    let lies = c.requires.lies in
    let goes = c.seal.ensures.flash.goes in
    let sizes : HaveSize first plan (page_at old) = lies-size t old first plan stands.in_ring.planned lies.geometry lies.within (g.met.F.Flash.reaches c.args.flash.now) in
    let sizes_now : HaveSize first plan (page_at new) = lies-size t new first plan stands.in_ring.planned (goes.geometry ∙ lies.geometry) (omega (arith, goes.blocks, lies.within)) (g.met.F.Flash.reaches c.seal.new.flash) in
    let headed : take t.body.len (c.write_header.new.body ++ drop (length c.write_header.new.body) t.body.items) ≡ splice t.body.items 0 (header_bytes c.next_number-number.result t.first t.waiting) =
    written-back t.body.len t.body.items c.write_header.new.body _ (c.write_header.ensures ∙ ap (λ (l : List ℕ). splice l 0 (header_bytes c.next_number-number.result t.first t.waiting)) c.deref_mut.ensures.value)
    (headed-length c.next_number-number.result t.first t.waiting t.body.items (body-large _ _ t.page t.served.page_least)) t.body.ok.0 in
    let is = sealing-of t old first plan table ring c.next_number-number.result stands sizes has c.next_number-number.ensures c.requires.left c.requires.full in
    let body = splice t.body.items 0 (header_bytes c.next_number-number.result t.first t.waiting) in
    let seals : Seals is.s body rose device ring (Err c.in_err-seal.field-0.0) c.seal.new.self new =
    subst (λ (b : List ℕ). Seals is.s b rose device ring (Err c.in_err-seal.field-0.0) c.seal.new.self new) (c.deref.ensures.value ∙ headed)
    (c.in_err-seal.ensures.seals is.s rose device (seal-ready t old first plan table body is ring has shape) watched) in
    let p = err_from_is_err_and c.from_residual.result c.from_residual.ensures.1 in
    rw (p.1, p.2) (seal-breaks t old first plan table body is rose device new sizes_now c.in_err-seal.field-0.0
    (subst (λ (r : Shape). Performed r (change r body) rose (seal_kinds r is.s body) device is.s (Err c.in_err-seal.field-0.0) new) shape seals.performed))

pub returns-clause-ends : goal.returns-clause-ends
returns-clause-ends g c = λ first plan table rose device watched stands.
    let t = c.args.self.now in
    let old = g.F.Flash.state c.args.flash.now in
    let new = g.F.Flash.state c.seal.new.flash in
    let ring = c.in-Some.ring in
    let after = c.seal.new.self in
    let has : t.ring ≡ Some ring = sym c.take.ensures.value ∙ c.in-Some.is in
    let shape : shape_of ring ≡ shape_in first plan = t.lies ring has ∙ planned-ring t first plan stands.in_ring.planned in
    let lies = c.requires.lies in
    let goes = c.seal.ensures.flash.goes in
    let sizes : HaveSize first plan (page_at old) = lies-size t old first plan stands.in_ring.planned lies.geometry lies.within (g.met.F.Flash.reaches c.args.flash.now) in
    let sizes_now : HaveSize first plan (page_at new) = lies-size t new first plan stands.in_ring.planned (goes.geometry ∙ lies.geometry) (omega (arith, goes.blocks, lies.within)) (g.met.F.Flash.reaches c.seal.new.flash) in
    let headed : take t.body.len (c.write_header.new.body ++ drop (length c.write_header.new.body) t.body.items) ≡ splice t.body.items 0 (header_bytes c.next_number-number.result t.first t.waiting) =
    written-back t.body.len t.body.items c.write_header.new.body _ (c.write_header.ensures ∙ ap (λ (l : List ℕ). splice l 0 (header_bytes c.next_number-number.result t.first t.waiting)) c.deref_mut.ensures.value)
    (headed-length c.next_number-number.result t.first t.waiting t.body.items (body-large _ _ t.page t.served.page_least)) t.body.ok.0 in
    let is = sealing-of t old first plan table ring c.next_number-number.result stands sizes has c.next_number-number.ensures c.requires.left c.requires.full in
    let body = splice t.body.items 0 (header_bytes c.next_number-number.result t.first t.waiting) in
    let u = c.in_ok-seal.field-0 in
    let seals : Seals is.s body rose device ring (Ok u) after new =
    subst (λ (b : List ℕ). Seals is.s b rose device ring (Ok u) after new) (c.deref.ensures.value ∙ headed)
    (c.in_ok-seal.ensures.seals is.s rose device (seal-ready t old first plan table body is ring has shape) watched) in
    let both : (h : Performed (shape_in first plan) (change (shape_in first plan) body) rose (seal_kinds (shape_in first plan) is.s body) device is.s (Ok u) new) × StandsFor after h.now.state =
    subst (λ (r : Shape). (h : Performed r (change r body) rose (seal_kinds r is.s body) device is.s (Ok u) new) × StandsFor after h.now.state) shape (seals.performed, seals.stands) in
    let keeps : (n : ℕ) → oldest (sealed (shape_in first plan) is.s body) ≤ n → n < is.s.next → page_at new (place (shape_in first plan) n) ≡ page_at old (place (shape_in first plan) n) =
    subst (λ (r : Shape). (n : ℕ) → oldest (sealed r is.s body) ≤ n → n < is.s.next → page_at new (place r n) ≡ page_at old (place r n)) shape
    (subst (λ (b : List ℕ). (n : ℕ) → oldest (sealed (shape_of ring) is.s b) ≤ n → n < is.s.next → page_at new (place (shape_of ring) n) ≡ page_at old (place (shape_of ring) n)) (c.deref.ensures.value ∙ headed)
    (c.in_ok-seal.ensures.flash.keeps watched.told is.s (seal-ready t old first plan table body is ring has shape))) in
    let number : c.next_number-number.result ≡ is.is.ring.next = number-of t old first plan table ring c.next_number-number.result stands has c.next_number-number.ensures is.s is.is in
    let len : c.len.result ≡ length t.firsts.items = c.len.ensures ∙ t.firsts.ok.0 in
    seal-finishes t old first plan table body is rose device new sizes_now after u _ both.0 both.1
    (record { geometry = refl; place = refl; bits = refl; full = refl }) refl refl refl
    (ap (λ n. set t.firsts.items (n % c.len.result) (Some t.first)) number ∙ ap (λ n. set t.firsts.items (is.is.ring.next % n) (Some t.first)) len)
    keeps

pub returns-in_err-seal-clause-outside : goal.returns-in_err-seal-clause-outside
returns-in_err-seal-clause-outside g c = λ told.
    let t = c.args.self.now in
    let has : t.ring ≡ Some c.in-Some.ring = sym c.take.ensures.value ∙ c.in-Some.is in
    subst (λ (r : Shape). OutsideStands r (page_at (g.F.Flash.state c.args.flash.now)) (page_at (g.F.Flash.state c.seal.new.flash))) (t.lies c.in-Some.ring has) (c.seal.ensures.flash.outside told)

pub returns-clause-outside : goal.returns-clause-outside
returns-clause-outside g c = λ told.
    let t = c.args.self.now in
    let has : t.ring ≡ Some c.in-Some.ring = sym c.take.ensures.value ∙ c.in-Some.is in
    subst (λ (r : Shape). OutsideStands r (page_at (g.F.Flash.state c.args.flash.now)) (page_at (g.F.Flash.state c.seal.new.flash))) (t.lies c.in-Some.ring has) (c.seal.ensures.flash.outside told)

pub returns-clause-power : goal.returns-clause-power
returns-clause-power g c = λ on. seal-on _ _ _ _ _ _ _ c.in_ok-seal.ensures.flash.calls

pub invariant_of-self : goal.invariant_of-self
invariant_of-self g c =
    let t = c.args.self.now in
    let back : take t.body.len (c.write_header.new.body ++ drop (length c.write_header.new.body) t.body.items) ≡ splice t.body.items 0 (header_bytes c.next_number-number.result t.first t.waiting) =
    written-back t.body.len t.body.items c.write_header.new.body _ (c.write_header.ensures ∙ ap (λ (l : List ℕ). splice l 0 (header_bytes c.next_number-number.result t.first t.waiting)) c.deref_mut.ensures.value)
    (headed-length c.next_number-number.result t.first t.waiting t.body.items (body-large _ _ t.page t.served.page_least)) t.body.ok.0 in
    record {
      served = t.served;
      some_blocks = t.some_blocks;
      few_blocks = t.few_blocks;
      some_bits = t.some_bits;
      remembered = t.remembered;
      page = ap (λ (l : List ℕ). length l + 8) back ∙ (ap (λ n. n + 8) (headed-length c.next_number-number.result t.first t.waiting t.body.items (body-large _ _ t.page t.served.page_least)) ∙ t.page);
      blank_rest = rest-headed c.next_number-number.result t.first t.waiting (per_page t * len_in t) t.body.items _ (body-large _ _ t.page t.served.page_least) back t.blank_rest;
      few = t.few;
      left = t.left;
      lies = λ r has. absurd (none-some r (sym c.take.ensures.after ∙ has));
    }

pub invariant_of-self-2-clause-blank_rest : goal.invariant_of-self-2-clause-blank_rest
invariant_of-self-2-clause-blank_rest g c =
    let t = c.args.self.now in
    let back : take t.body.len (c.write_header.new.body ++ drop (length c.write_header.new.body) t.body.items) ≡ splice t.body.items 0 (header_bytes c.next_number-number.result t.first t.waiting) =
    written-back t.body.len t.body.items c.write_header.new.body _ (c.write_header.ensures ∙ ap (λ (l : List ℕ). splice l 0 (header_bytes c.next_number-number.result t.first t.waiting)) c.deref_mut.ensures.value)
    (headed-length c.next_number-number.result t.first t.waiting t.body.items (body-large _ _ t.page t.served.page_least)) t.body.ok.0 in
    rest-headed c.next_number-number.result t.first t.waiting (per_page t * len_in t) t.body.items _ (body-large _ _ t.page t.served.page_least) back t.blank_rest

pub invariant_of-self-2-clause-page : goal.invariant_of-self-2-clause-page
invariant_of-self-2-clause-page g c =
    let t = c.args.self.now in
    let back : take t.body.len (c.write_header.new.body ++ drop (length c.write_header.new.body) t.body.items) ≡ splice t.body.items 0 (header_bytes c.next_number-number.result t.first t.waiting) =
    written-back t.body.len t.body.items c.write_header.new.body _ (c.write_header.ensures ∙ ap (λ (l : List ℕ). splice l 0 (header_bytes c.next_number-number.result t.first t.waiting)) c.deref_mut.ensures.value)
    (headed-length c.next_number-number.result t.first t.waiting t.body.items (body-large _ _ t.page t.served.page_least)) t.body.ok.0 in
    ap (λ (l : List ℕ). length l + 8) back ∙ (ap (λ n. n + 8) (headed-length c.next_number-number.result t.first t.waiting t.body.items (body-large _ _ t.page t.served.page_least)) ∙ t.page)

pub returns-clause-firsts : goal.returns-clause-firsts
returns-clause-firsts g c = λ number low high fits.
    let t = c.args.self.now in
    let has : t.ring ≡ Some c.in-Some.ring = sym c.take.ensures.value ∙ c.in-Some.is in
    let begin : c.next_number-number.result ≡ next_in t = c.next_number-number.ensures ∙ sym (ap (λ (o : Option Ring). unwrap_or (option_map (λ ring. next_of ring) o) 0) has) in
    let len : c.len.result ≡ length t.firsts.items = c.len.ensures ∙ t.firsts.ok.0 in
    let end : next_of c.seal.new.self ≡ next_in t + 1 = c.in_ok-seal.ensures.memory.next ∙ sym (ap (λ (o : Option Ring). unwrap_or (option_map (λ ring. next_of ring) o) 0 + 1) has) in
    let before : number < next_of c.seal.new.self = high in
    let within : next_of c.seal.new.self ≤ number + t.firsts.len = fits in
    let all : set t.firsts.items (c.next_number-number.result % c.len.result) (Some t.first) ≡ set t.firsts.items (next_in t % length t.firsts.items) (Some t.first) =
    ap (λ n. set t.firsts.items (n % c.len.result) (Some t.first)) begin ∙ ap (λ n. set t.firsts.items (next_in t % n) (Some t.first)) len in
    ap (λ (xs : List (Option ℕ)). get_or xs (number % t.firsts.len) None) all
    ∙ (ap (λ n. get_or (set t.firsts.items (next_in t % length t.firsts.items) (Some t.first)) (number % n) None) t.firsts.ok.0
    ∙ (remembered-behind t.firsts.items (next_in t) number (Some t.first) (omega (arith, before, end)) (omega (arith, within, end, t.firsts.ok.0))
    ∙ ap (λ n. cond (number == next_in t) (Some t.first) (get_or t.firsts.items (number % n) None)) (sym t.firsts.ok.0)))

pub returns-clause-oldest : goal.returns-clause-oldest
returns-clause-oldest g c =
    let has : c.args.self.now.ring ≡ Some c.in-Some.ring = sym c.take.ensures.value ∙ c.in-Some.is in
    c.in_ok-seal.ensures.memory.kept_from ∙ sym (ap (λ (o : Option Ring). unwrap_or (option_map (λ ring. oldest_after ring) o) 0) has)

pub returns-in_err-seal-clause-writes : goal.returns-in_err-seal-clause-writes
returns-in_err-seal-clause-writes g c =
    let t = c.args.self.now in
    let has : t.ring ≡ Some c.in-Some.ring = sym c.take.ensures.value ∙ c.in-Some.is in
    let p = err_from_is_err_and c.from_residual.result c.from_residual.ensures.1 in
    let none : done c.from_residual.result ≡ 0 = ap (λ (x : Result (Unit {0}) FlashFault). done x) p.1 in
    held-writes t.ring c.in-Some.ring 0 (done c.from_residual.result) _ _ has (omega (arith, none)) c.in_err-seal.ensures.flash.writes

pub returns-clause-writes : goal.returns-clause-writes
returns-clause-writes g c =
    let t = c.args.self.now in
    let has : t.ring ≡ Some c.in-Some.ring = sym c.take.ensures.value ∙ c.in-Some.is in
    held-writes t.ring c.in-Some.ring 1 1 _ _ has (omega arith) c.in_ok-seal.ensures.flash.writes

pub seal-requires-clause-lies : goal.seal-requires-clause-lies
seal-requires-clause-lies g c = c.requires.lies.ring c.in-Some.ring (sym c.take.ensures.value ∙ c.in-Some.is)

pub seal-requires-clause-left : goal.seal-requires-clause-left
seal-requires-clause-left g c = subst (λ n. n + 1 < 2 ^ 32) (next-same c.args.self.now c.in-Some.ring (sym c.take.ensures.value ∙ c.in-Some.is)) c.requires.left

pub returns-in_err-seal-clause-goes : goal.returns-in_err-seal-clause-goes
returns-in_err-seal-clause-goes g c = c.seal.ensures.flash.goes

pub returns-in_err-seal-clause-same : goal.returns-in_err-seal-clause-same
returns-in_err-seal-clause-same g c = record { geometry = refl; place = refl; bits = refl; full = refl }

pub returns-in_err-seal-clause-number : goal.returns-in_err-seal-clause-number
returns-in_err-seal-clause-number g c =
    let p = err_from_is_err_and c.from_residual.result c.from_residual.ensures.1 in
    rw p.1 tt

pub returns-in_err-seal-clause-oldest : goal.returns-in_err-seal-clause-oldest
returns-in_err-seal-clause-oldest g c =
    let p = err_from_is_err_and c.from_residual.result c.from_residual.ensures.1 in
    rw p.1 tt

pub returns-in_err-seal-clause-firsts : goal.returns-in_err-seal-clause-firsts
returns-in_err-seal-clause-firsts g c =
    let p = err_from_is_err_and c.from_residual.result c.from_residual.ensures.1 in
    rw p.1 tt

pub returns-in_err-seal-clause-empty : goal.returns-in_err-seal-clause-empty
returns-in_err-seal-clause-empty g c =
    let p = err_from_is_err_and c.from_residual.result c.from_residual.ensures.1 in
    rw p.1 tt

pub returns-in_err-seal-clause-next : goal.returns-in_err-seal-clause-next
returns-in_err-seal-clause-next g c =
    let p = err_from_is_err_and c.from_residual.result c.from_residual.ensures.1 in
    rw p.1 tt

pub returns-in_err-seal-clause-running : goal.returns-in_err-seal-clause-running
returns-in_err-seal-clause-running g c =
    let p = err_from_is_err_and c.from_residual.result c.from_residual.ensures.1 in
    rw p.1 tt

pub returns-in_err-seal-clause-power : goal.returns-in_err-seal-clause-power
returns-in_err-seal-clause-power g c =
    let p = err_from_is_err_and c.from_residual.result c.from_residual.ensures.1 in
    rw p.1 tt

pub returns-in_err-seal-clause-broken : goal.returns-in_err-seal-clause-broken
returns-in_err-seal-clause-broken g c =
    let p = err_from_is_err_and c.from_residual.result c.from_residual.ensures.1 in
    rw p.1 (ap (λ (o : Option Ring). is_some o) c.take.ensures.after)

pub returns-in_err-seal-clause-reads : goal.returns-in_err-seal-clause-reads
returns-in_err-seal-clause-reads g c = c.seal.ensures.flash.reads

pub returns-in_err-seal-clause-media_reads : goal.returns-in_err-seal-clause-media_reads
returns-in_err-seal-clause-media_reads g c = c.seal.ensures.flash.media_reads

pub returns-in_err-seal-clause-cause : goal.returns-in_err-seal-clause-cause
returns-in_err-seal-clause-cause g c =
    let p = err_from_is_err_and c.from_residual.result c.from_residual.ensures.1 in
    rw (p.1, p.2) c.in_err-seal.ensures.flash.cause

pub returns-in_err-seal-clause-off : goal.returns-in_err-seal-clause-off
returns-in_err-seal-clause-off g c =
    let p = err_from_is_err_and c.from_residual.result c.from_residual.ensures.1 in
    rw (p.1, p.2) c.in_err-seal.ensures.flash.off

pub invariant_of-self-2-clause-served : goal.invariant_of-self-2-clause-served
invariant_of-self-2-clause-served g c = c.args.self.now.served

pub invariant_of-self-2-clause-some_blocks : goal.invariant_of-self-2-clause-some_blocks
invariant_of-self-2-clause-some_blocks g c = c.args.self.now.some_blocks

pub invariant_of-self-2-clause-few_blocks : goal.invariant_of-self-2-clause-few_blocks
invariant_of-self-2-clause-few_blocks g c = c.args.self.now.few_blocks

pub invariant_of-self-2-clause-some_bits : goal.invariant_of-self-2-clause-some_bits
invariant_of-self-2-clause-some_bits g c = c.args.self.now.some_bits

pub invariant_of-self-2-clause-remembered : goal.invariant_of-self-2-clause-remembered
invariant_of-self-2-clause-remembered g c = c.args.self.now.remembered

pub invariant_of-self-2-clause-lies : goal.invariant_of-self-2-clause-lies
invariant_of-self-2-clause-lies g c = λ r is.
    ap (λ (x : Ring). shape_of x) (sym (same_Some c.seal.new.self r is)) ∙ (c.seal.ensures.memory.same ∙ c.args.self.now.lies c.in-Some.ring (sym c.take.ensures.value ∙ c.in-Some.is))

pub returns-clause-goes : goal.returns-clause-goes
returns-clause-goes g c = c.seal.ensures.flash.goes

pub returns-clause-same : goal.returns-clause-same
returns-clause-same g c = record { geometry = refl; place = refl; bits = refl; full = refl }

pub returns-clause-number : goal.returns-clause-number
returns-clause-number g c = c.in_ok-seal.ensures.memory.next ∙ sym (ap (λ n. n + 1) (next-same c.args.self.now c.in-Some.ring (sym c.take.ensures.value ∙ c.in-Some.is)))

pub returns-clause-empty : goal.returns-clause-empty
returns-clause-empty g c = refl

pub returns-clause-next : goal.returns-clause-next
returns-clause-next g c = refl

pub returns-clause-running : goal.returns-clause-running
returns-clause-running g c = refl

pub returns-clause-reads : goal.returns-clause-reads
returns-clause-reads g c = c.seal.ensures.flash.reads

pub returns-clause-media_reads : goal.returns-clause-media_reads
returns-clause-media_reads g c = c.seal.ensures.flash.media_reads

pub returns-clause-off : goal.returns-clause-off
returns-clause-off g c = c.in_ok-seal.ensures.flash.off

pub returns-in_err-seal-clause-lies : goal.returns-in_err-seal-clause-lies
returns-in_err-seal-clause-lies g c =
    lies-later c.args.self.now _ (g.F.Flash.state c.args.flash.now) (g.F.Flash.state c.seal.new.flash) (record { geometry = refl; place = refl; bits = refl; full = refl }) c.requires.lies c.seal.ensures.flash.goes (no-ring c.take.new.self (g.F.Flash.state c.seal.new.flash) c.take.ensures.after)

pub returns-clause-lies : goal.returns-clause-lies
returns-clause-lies g c =
    lies-later c.args.self.now _ (g.F.Flash.state c.args.flash.now) (g.F.Flash.state c.seal.new.flash) (record { geometry = refl; place = refl; bits = refl; full = refl }) c.requires.lies c.seal.ensures.flash.goes (this-ring c.seal.new.self (g.F.Flash.state c.seal.new.flash) c.in_ok-seal.ensures.memory.lies)

pub unreachable-requires : goal.unreachable-requires
unreachable-requires g c = absurd (true≢false (sym c.requires.running ∙ ap (λ (o : Option Ring). is_some o) (sym c.take.ensures.value ∙ c.in_default.is)))

pub unreachable-unreachable : goal.unreachable-unreachable
unreachable-unreachable g c = c.unreachable.type_inv

pub invariant_of-self-2-clause-few : goal.invariant_of-self-2-clause-few
invariant_of-self-2-clause-few g c = zero-le

pub invariant_of-self-2-clause-left : goal.invariant_of-self-2-clause-left
invariant_of-self-2-clause-left g c = none-after _ c.args.self.now.left

pub overflow_add-self : goal.overflow_add-self
overflow_add-self g c = fits_below _ c.args.self.now.left

pub overflow_cast-self : goal.overflow_cast-self
overflow_cast-self g c = few-fit _ _ _ c.args.self.now.few c.args.self.now.served.page_greatest

pub index_mut-requires : goal.index_mut-requires
index_mut-requires g c = let t = c.args.self.now in subst (λ (n : ℕ). c.next_number-number.result % c.len.result < n) c.len.ensures (mod-lt c.next_number-number.result (some-room t c.len.result c.len.ensures))

pub write_header-requires : goal.write_header-requires
write_header-requires g c = let t = c.args.self.now in subst (λ (n : ℕ). 16 ≤ n) (sym (ap (λ (l : List ℕ). length l) c.deref_mut.ensures.value)) (body-large _ _ t.page t.served.page_least)

pub seal-requires-clause-body : goal.seal-requires-clause-body
seal-requires-clause-body g c =
    let t = c.args.self.now in
    let ring = c.in-Some.ring in
    let has : t.ring ≡ Some ring = sym c.take.ensures.value ∙ c.in-Some.is in
    let size = headed-length c.next_number-number.result t.first t.waiting t.body.items (body-large _ _ t.page t.served.page_least) in
    let headed : take t.body.len (c.write_header.new.body ++ drop (length c.write_header.new.body) t.body.items) ≡ splice t.body.items 0 (header_bytes c.next_number-number.result t.first t.waiting) =
    written-back t.body.len t.body.items c.write_header.new.body _ (c.write_header.ensures ∙ ap (λ (l : List ℕ). splice l 0 (header_bytes c.next_number-number.result t.first t.waiting)) c.deref_mut.ensures.value) size t.body.ok.0 in
    ap (λ (l : List ℕ). length l + 8) (c.deref.ensures.value ∙ headed) ∙ (ap (λ (k : ℕ). k + 8) size ∙ (t.page ∙ sym (ap (λ (r : Shape). r.size) (t.lies ring has))))
