use Rattle.std.proofs.Common.{◌≡◌, ◌+◌, ◌*◌, ℕ, List, [], ◌∷◌, ◌++◌, length, take, drop, refl, sym, ◌∙◌, ap, subst, length-append}
use Rattle.fl_base.specs.Bytes.{splice}
use Rattle.fl_model.specs.Layout.{IndexEntry}
use Rattle.fl_index.specs.Page.{form_len, bytes_of, bitmap_at, full_view}
use Rattle.fl_index.specs.declared.page.EntryForm.{EntryForm}
use Rattle.fl_index.specs.Memory.{form_in, per_page}
use Rattle.fl_index.proofs.WaitingEntries.{InFront, bytes-same, other-kept, push-in, written-back, entry-length, rest-kept}
use Rattle.fl_index.proofs.Memories.{ring-same, entry-room}
use Rattle.std.proofs.Math.Numerals.{add-one-le}
use Rattle.fl_index.proofs.Limits.{one-left, one-fits}
use Rattle.fl_index.proofs.index.BitmapIndex.note.Goals as goal

pub returns-clause-others : goal.returns-clause-others
returns-clause-others c = λ j lt.
    let t = c.args.self.now in
    let entry : IndexEntry = record { bitmap = c.args.bitmap; full = full_view c.args.full } in
    let written : take t.body.len (c.write_entry.new.body ++ drop (length c.write_entry.new.body) t.body.items) ≡ splice t.body.items (16 + t.waiting * form_len (form_in t)) (bytes_of (form_in t) entry) =
    written-back t.body.len t.body.items c.write_entry.new.body _ (c.write_entry.ensures ∙ (ap (λ (l : List ℕ). splice l (16 + t.waiting * form_len c.form-form.result) (bytes_of c.form-form.result entry)) c.deref_mut.ensures.value
    ∙ ap (λ (form : EntryForm). splice t.body.items (16 + t.waiting * form_len form) (bytes_of form entry)) c.form-form.ensures.exact)) (entry-length (form_in t) t.waiting t.body.items entry (entry-room t c.requires.few)) t.body.ok.0 in
    ap (λ (b : List ℕ). bitmap_at (form_in t) b j) written ∙ other-kept (form_in t) t.waiting j t.body.items entry lt (entry-room t c.requires.few)

pub returns-clause-ring : goal.returns-clause-ring
returns-clause-ring c = λ f begin plan table stands.
    ring-same c.args.self.now _ f begin plan table (record { geometry = refl; place = refl; bits = refl; full = refl }) (record { ring = refl; firsts = refl }) stands

pub returns-clause-waits : goal.returns-clause-waits
returns-clause-waits c = λ first entries entry waits bitmap full.
    let t = c.args.self.now in
    let noted : IndexEntry = record { bitmap = c.args.bitmap; full = full_view c.args.full } in
    let written : take t.body.len (c.write_entry.new.body ++ drop (length c.write_entry.new.body) t.body.items) ≡ splice t.body.items (16 + t.waiting * form_len (form_in t)) (bytes_of (form_in t) noted) =
    written-back t.body.len t.body.items c.write_entry.new.body _ (c.write_entry.ensures ∙ (ap (λ (l : List ℕ). splice l (16 + t.waiting * form_len c.form-form.result) (bytes_of c.form-form.result noted)) c.deref_mut.ensures.value
    ∙ ap (λ (form : EntryForm). splice t.body.items (16 + t.waiting * form_len form) (bytes_of form noted)) c.form-form.ensures.exact)) (entry-length (form_in t) t.waiting t.body.items noted (entry-room t c.requires.few)) t.body.ok.0 in
    let same : bytes_of (form_in t) noted ≡ bytes_of (form_in t) entry = bytes-same (form_in t) noted entry (sym bitmap) (λ h. sym (full h)) in
    record {
      first_is = waits.first_is;
      count_is = ap (λ k. k + 1) waits.count_is ∙ sym (length-append entries (entry ∷ []));
      gathered = subst (λ (b : List ℕ). InFront (form_in t) (drop 16 b) (entries ++ entry ∷ [])) (sym (written ∙ ap (splice t.body.items (16 + t.waiting * form_len (form_in t))) same))
          (push-in (form_in t) t.waiting t.body.items entries entry (sym waits.count_is) (entry-room t c.requires.few) waits.gathered);
    }

pub invariant_of-self-clause-blank_rest : goal.invariant_of-self-clause-blank_rest
invariant_of-self-clause-blank_rest c =
    let t = c.args.self.now in
    let entry : IndexEntry = record { bitmap = c.args.bitmap; full = full_view c.args.full } in
    let written : take t.body.len (c.write_entry.new.body ++ drop (length c.write_entry.new.body) t.body.items) ≡ splice t.body.items (16 + t.waiting * form_len (form_in t)) (bytes_of (form_in t) entry) =
    written-back t.body.len t.body.items c.write_entry.new.body _ (c.write_entry.ensures ∙ (ap (λ (l : List ℕ). splice l (16 + t.waiting * form_len c.form-form.result) (bytes_of c.form-form.result entry)) c.deref_mut.ensures.value
    ∙ ap (λ (form : EntryForm). splice t.body.items (16 + t.waiting * form_len form) (bytes_of form entry)) c.form-form.ensures.exact)) (entry-length (form_in t) t.waiting t.body.items entry (entry-room t c.requires.few)) t.body.ok.0 in
    rest-kept (form_in t) t.waiting (per_page t) t.body.items entry _ c.requires.few (entry-room t c.requires.few) written t.blank_rest

pub invariant_of-self-clause-page : goal.invariant_of-self-clause-page
invariant_of-self-clause-page c =
    let t = c.args.self.now in
    let entry : IndexEntry = record { bitmap = c.args.bitmap; full = full_view c.args.full } in
    let written : take t.body.len (c.write_entry.new.body ++ drop (length c.write_entry.new.body) t.body.items) ≡ splice t.body.items (16 + t.waiting * form_len (form_in t)) (bytes_of (form_in t) entry) =
    written-back t.body.len t.body.items c.write_entry.new.body _ (c.write_entry.ensures ∙ (ap (λ (l : List ℕ). splice l (16 + t.waiting * form_len c.form-form.result) (bytes_of c.form-form.result entry)) c.deref_mut.ensures.value
    ∙ ap (λ (form : EntryForm). splice t.body.items (16 + t.waiting * form_len form) (bytes_of form entry)) c.form-form.ensures.exact)) (entry-length (form_in t) t.waiting t.body.items entry (entry-room t c.requires.few)) t.body.ok.0 in
    ap (λ (l : List ℕ). length l + 8) written ∙ (ap (λ n. n + 8) (entry-length (form_in t) t.waiting t.body.items entry (entry-room t c.requires.few)) ∙ t.page)

pub invariant_of-self-clause-served : goal.invariant_of-self-clause-served
invariant_of-self-clause-served c = c.args.self.now.served

pub invariant_of-self-clause-some_blocks : goal.invariant_of-self-clause-some_blocks
invariant_of-self-clause-some_blocks c = c.args.self.now.some_blocks

pub invariant_of-self-clause-few_blocks : goal.invariant_of-self-clause-few_blocks
invariant_of-self-clause-few_blocks c = c.args.self.now.few_blocks

pub invariant_of-self-clause-some_bits : goal.invariant_of-self-clause-some_bits
invariant_of-self-clause-some_bits c = c.args.self.now.some_bits

pub invariant_of-self-clause-remembered : goal.invariant_of-self-clause-remembered
invariant_of-self-clause-remembered c = c.args.self.now.remembered

pub invariant_of-self-clause-lies : goal.invariant_of-self-clause-lies
invariant_of-self-clause-lies c = c.args.self.now.lies

pub invariant_of-self-clause-few : goal.invariant_of-self-clause-few
invariant_of-self-clause-few c = add-one-le c.requires.few

pub invariant_of-self-clause-left : goal.invariant_of-self-clause-left
invariant_of-self-clause-left c = one-left _ _ c.requires.left

pub overflow_add-self : goal.overflow_add-self
overflow_add-self c = one-fits _ _ c.requires.left

pub returns-clause-same : goal.returns-clause-same
returns-clause-same c = record { geometry = refl; place = refl; bits = refl; full = refl }

pub returns-clause-still : goal.returns-clause-still
returns-clause-still c = record { ring = refl; firsts = refl }

pub returns-clause-first : goal.returns-clause-first
returns-clause-first c = refl

pub returns-clause-one : goal.returns-clause-one
returns-clause-one c = refl

pub returns-clause-lies : goal.returns-clause-lies
returns-clause-lies c = λ f lies. record { geometry = lies.geometry; within = lies.within; few = lies.few; ring = lies.ring }

pub write_entry-requires-clause-few : goal.write_entry-requires-clause-few
write_entry-requires-clause-few c = c.form-form.ensures.few
