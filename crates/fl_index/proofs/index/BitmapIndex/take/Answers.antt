use Rattle.std.proofs.Common.{◌≡◌, ◌+◌, ◌*◌, ◌<◌, ◌≤◌, ◌%◌, ℕ, Some, None, List, ◌++◌, length, take, drop, get_or, set, refl, sym, ◌∙◌, ap, arith, length-set, get_or-set_same}
use Rattle.std.proofs.Math.Nat.{mod-lt}
use Rattle.fl_base.specs.Bytes.{splice}
use Rattle.fl_index.specs.Memory.{form_in, len_in, per_page}
use Rattle.fl_index.specs.Page.{form_len}
use Rattle.fl_index.proofs.WaitingEntries.{written-back}
use Rattle.fl_index.proofs.LoadedPages.{body-room, copied-entries, copied-length, copied-blank, found-same}
use Rattle.fl_index.proofs.SealAnswers.{some-room}
use Rattle.fl_index.proofs.ListingOn.{none-at, other-at}
use Rattle.fl_index.proofs.Limits.{least-few, least-left}
use Rattle.fl_index.proofs.index.BitmapIndex.take.Goals as goal

pub invariant_of-self-2-clause-page : goal.invariant_of-self-2-clause-page
invariant_of-self-2-clause-page c =
    let t = c.args.self.now in
    let page = c.args.page.now in
    let n = per_page t * len_in t in
    let bytes : c.capacity-capacity.result * c.entry_len.result ≡ n = ap (λ (k : ℕ). k * c.entry_len.result) c.capacity-capacity.ensures.exact ∙ ap (λ (k : ℕ). per_page t * k) (c.entry_len.ensures ∙ ap form_len c.form.ensures.exact) in
    let size = copied-length t.body.items page n (body-room t) (omega (arith, body-room t, c.requires.size, t.page)) in
    let back : take t.body.len (c.copy_entries.new.body ++ drop (length c.copy_entries.new.body) t.body.items) ≡ splice t.body.items 16 (take n (drop 16 page)) =
    written-back t.body.len t.body.items c.copy_entries.new.body _ (c.copy_entries.ensures ∙ (ap (λ (l : List ℕ). splice l 16 (take (c.capacity-capacity.result * c.entry_len.result) (drop 16 page))) c.deref_mut.ensures.value ∙ ap (λ (k : ℕ). splice t.body.items 16 (take k (drop 16 page))) bytes)) size t.body.ok.0 in
    ap (λ (l : List ℕ). length l + 8) back ∙ (ap (λ k. k + 8) size ∙ t.page)

pub invariant_of-self-2-clause-blank_rest : goal.invariant_of-self-2-clause-blank_rest
invariant_of-self-2-clause-blank_rest c =
    let t = c.args.self.now in
    let page = c.args.page.now in
    let n = per_page t * len_in t in
    let bytes : c.capacity-capacity.result * c.entry_len.result ≡ n = ap (λ (k : ℕ). k * c.entry_len.result) c.capacity-capacity.ensures.exact ∙ ap (λ (k : ℕ). per_page t * k) (c.entry_len.ensures ∙ ap form_len c.form.ensures.exact) in
    let size = copied-length t.body.items page n (body-room t) (omega (arith, body-room t, c.requires.size, t.page)) in
    let back : take t.body.len (c.copy_entries.new.body ++ drop (length c.copy_entries.new.body) t.body.items) ≡ splice t.body.items 16 (take n (drop 16 page)) =
    written-back t.body.len t.body.items c.copy_entries.new.body _ (c.copy_entries.ensures ∙ (ap (λ (l : List ℕ). splice l 16 (take (c.capacity-capacity.result * c.entry_len.result) (drop 16 page))) c.deref_mut.ensures.value ∙ ap (λ (k : ℕ). splice t.body.items 16 (take k (drop 16 page))) bytes)) size t.body.ok.0 in
    copied-blank t page _ c.requires.size back

pub returns-clause-loaded : goal.returns-clause-loaded
returns-clause-loaded c =
    let t = c.args.self.now in
    let page = c.args.page.now in
    let n = per_page t * len_in t in
    let first = c.first_in-first.result in
    let k = c.args.number % c.len.result in
    let bytes : c.capacity-capacity.result * c.entry_len.result ≡ n = ap (λ (k : ℕ). k * c.entry_len.result) c.capacity-capacity.ensures.exact ∙ ap (λ (k : ℕ). per_page t * k) (c.entry_len.ensures ∙ ap form_len c.form.ensures.exact) in
    let whole : 16 + n ≤ length page = omega (arith, body-room t, c.requires.size, t.page) in
    let size = copied-length t.body.items page n (body-room t) whole in
    let back : take t.body.len (c.copy_entries.new.body ++ drop (length c.copy_entries.new.body) t.body.items) ≡ splice t.body.items 16 (take n (drop 16 page)) =
    written-back t.body.len t.body.items c.copy_entries.new.body _ (c.copy_entries.ensures ∙ (ap (λ (l : List ℕ). splice l 16 (take (c.capacity-capacity.result * c.entry_len.result) (drop 16 page))) c.deref_mut.ensures.value ∙ ap (λ (k : ℕ). splice t.body.items 16 (take k (drop 16 page))) bytes)) size t.body.ok.0 in
    let some = c.in-Ok-true.ensures.some c.in-Ok-true.field-0-test in
    let least : c.min-self.result ≤ per_page t = omega (arith, c.min-self.ensures, c.capacity-capacity.ensures.exact) in
    let inside : k < length (set t.firsts.items k None) = omega (arith, length-set t.firsts.items k None, mod-lt c.args.number (some-room t c.len.result c.len.ensures), c.len.ensures, t.firsts.ok.0) in
    record {
      committed = some.0;
      good = some.1;
      first_is = c.first_in-first.ensures;
      remembered = ap (λ (m : ℕ). get_or (set (set t.firsts.items k None) k (Some first)) (c.args.number % m) None) (sym c.len.ensures) ∙ get_or-set_same (set t.firsts.items k None) k (Some first) None inside;
      begin = refl;
      many = omega (arith, c.min-self.ensures, c.capacity-capacity.ensures.exact);
      each = λ j lt. found-same (form_in t) _ page (per_page t) j (ap (λ (l : List ℕ). take n (drop 16 l)) back ∙ copied-entries t.body.items page n (body-room t) whole) (omega (arith, lt, least));
    }

pub invariant_of-self : goal.invariant_of-self
invariant_of-self c =
    let t = c.args.self.now in
    record {
      served = t.served;
      some_blocks = t.some_blocks;
      few_blocks = t.few_blocks;
      some_bits = t.some_bits;
      remembered = t.remembered;
      page = t.page;
      blank_rest = t.blank_rest;
      few = t.few;
      left = t.left;
      lies = t.lies;
    }

pub invariant_of-self-2-clause-served : goal.invariant_of-self-2-clause-served
invariant_of-self-2-clause-served c = c.args.self.now.served

pub invariant_of-self-2-clause-some_blocks : goal.invariant_of-self-2-clause-some_blocks
invariant_of-self-2-clause-some_blocks c = c.args.self.now.some_blocks

pub invariant_of-self-2-clause-few_blocks : goal.invariant_of-self-2-clause-few_blocks
invariant_of-self-2-clause-few_blocks c = c.args.self.now.few_blocks

pub invariant_of-self-2-clause-some_bits : goal.invariant_of-self-2-clause-some_bits
invariant_of-self-2-clause-some_bits c = c.args.self.now.some_bits

pub invariant_of-self-2-clause-remembered : goal.invariant_of-self-2-clause-remembered
invariant_of-self-2-clause-remembered c = c.args.self.now.remembered

pub invariant_of-self-2-clause-lies : goal.invariant_of-self-2-clause-lies
invariant_of-self-2-clause-lies c = c.args.self.now.lies

pub invariant_of-self-2-clause-few : goal.invariant_of-self-2-clause-few
invariant_of-self-2-clause-few c = least-few _ _ _ _ c.min-self.ensures c.capacity-capacity.ensures.exact

pub invariant_of-self-2-clause-left : goal.invariant_of-self-2-clause-left
invariant_of-self-2-clause-left c = least-left _ _ _ c.min-self.ensures c.first_in-first.type_inv

pub returns-in-Err-clause-still : goal.returns-in-Err-clause-still
returns-in-Err-clause-still c = refl

pub returns-in-Err-clause-same : goal.returns-in-Err-clause-same
returns-in-Err-clause-same c = record { geometry = refl; place = refl; bits = refl; full = refl }

pub returns-in-Ok-false-clause-still : goal.returns-in-Ok-false-clause-still
returns-in-Ok-false-clause-still c = refl

pub returns-in-Ok-false-clause-same : goal.returns-in-Ok-false-clause-same
returns-in-Ok-false-clause-same c = record { geometry = refl; place = refl; bits = refl; full = refl }

pub returns-clause-still : goal.returns-clause-still
returns-clause-still c = refl

pub returns-clause-same : goal.returns-clause-same
returns-clause-same c = record { geometry = refl; place = refl; bits = refl; full = refl }

pub nonzero_rem-at : goal.nonzero_rem-at
nonzero_rem-at c = some-room c.args.self.now c.len.result c.len.ensures

pub returns-in-Err-clause-loaded : goal.returns-in-Err-clause-loaded
returns-in-Err-clause-loaded c = let bad = c.in-Err.ensures.bad in (bad.0, bad.1, bad.2, record { remembered = none-at c.args.self.now c.args.number c.len.result c.len.ensures; many = c.requires.none }, c.first_in-first.ensures)

pub returns-in-Ok-false-clause-loaded : goal.returns-in-Ok-false-clause-loaded
returns-in-Ok-false-clause-loaded c = (c.in-Ok-false.ensures.none c.in-Ok-false.field-0-test, record { remembered = none-at c.args.self.now c.args.number c.len.result c.len.ensures; many = c.requires.none })

pub returns-in-Err-clause-others : goal.returns-in-Err-clause-others
returns-in-Err-clause-others c = λ n other. other-at c.args.self.now c.args.self.now.firsts.items n c.args.number c.len.result None c.len.ensures other

pub returns-in-Ok-false-clause-others : goal.returns-in-Ok-false-clause-others
returns-in-Ok-false-clause-others c = λ n other. other-at c.args.self.now c.args.self.now.firsts.items n c.args.number c.len.result None c.len.ensures other

pub returns-clause-others : goal.returns-clause-others
returns-clause-others c = λ n other.
    let t = c.args.self.now in
    other-at t (set t.firsts.items (c.args.number % c.len.result) None) n c.args.number c.len.result (Some c.first_in-first.result) c.len.ensures other
    ∙ other-at t t.firsts.items n c.args.number c.len.result None c.len.ensures other
