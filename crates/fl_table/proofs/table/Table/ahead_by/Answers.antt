use Rattle.std.proofs.Common.{◌≡◌, ℕ, Bool, true, false, refl, sym, ◌∙◌, ap, subst}
use Rattle.std.specs.Prelude.{bit_and, ◌==◌, if◌then◌else◌}
use Rattle.std.proofs.lemmas.Bool.{eq-eqb, ne_eqb}
use Rattle.fl_parts.specs.declared.ahead.Ahead.{Ahead}
use Rattle.fl_parts.specs.declared.ahead.Ahead.TheVariants.{Wanted, Missed, Beyond}
use Rattle.fl_parts.proofs.Sizes.{table-fits}
use Rattle.fl_table.proofs.table.Table.ahead_by.Goals as goal

-- what is answered, by the two tests
beyond : (above : Bool) (rest : Ahead) → above ≡ true → Beyond ≡ (if above then Beyond else rest)
beyond true rest e = refl
beyond false rest e = cc

missed : (above : Bool) (bits : ℕ) → above ≡ false → bits ≡ 0 → Missed ≡ (if above then Beyond else if bits == 0 then Missed else Wanted)
missed true bits e none = cc
missed false bits e none = ap (λ (b : Bool). if b then Missed else Wanted) (sym (eq-eqb bits 0 none))

wanted : (above : Bool) (bits : ℕ) → above ≡ false → (bits ≡ 0 → ⊥) → Wanted ≡ (if above then Beyond else if bits == 0 then Missed else Wanted)
wanted true bits e some = cc
wanted false bits e some = ap (λ (b : Bool). if b then Missed else Wanted) (sym (ne_eqb bits 0 some))

not-beyond : Beyond ≡ Missed → ⊥
not-beyond e = cc

not-wanted : Wanted ≡ Missed → ⊥
not-wanted e = cc

pub mask-requires : goal.mask-requires
mask-requires g c = table-fits g.row.KNOTS g.row.SLOTS c.args.self.now.few_knots c.args.self.now.few_slots

pub returns-then-begins_above-clause-exact : goal.returns-then-begins_above-clause-exact
returns-then-begins_above-clause-exact g c = λ plan has some. beyond _ _ (sym c.begins_above.ensures ∙ c.if-begins_above.true)

pub returns-then-begins_above-clause-misses : goal.returns-then-begins_above-clause-misses
returns-then-begins_above-clause-misses g c = λ plan entries range has some is e. absurd (not-beyond e)

pub returns-then-found-mask-eq0-clause-exact : goal.returns-then-found-mask-eq0-clause-exact
returns-then-found-mask-eq0-clause-exact g c = λ plan has some.
    missed _ _ (sym c.begins_above.ensures ∙ c.if-begins_above.false) (subst (λ (mask : ℕ). bit_and c.args.found.bitmap mask ≡ 0) (c.mask.ensures.exact plan has some) c.if-found-mask-eq0.true)

pub returns-then-found-mask-eq0-clause-misses : goal.returns-then-found-mask-eq0-clause-misses
returns-then-found-mask-eq0-clause-misses g c = λ plan entries range has some is e. c.mask.ensures.misses plan entries range has some (subst (λ (bitmap : ℕ). bit_and bitmap c.mask.result ≡ 0) is c.if-found-mask-eq0.true)

pub returns-clause-exact : goal.returns-clause-exact
returns-clause-exact g c = λ plan has some.
    wanted _ _ (sym c.begins_above.ensures ∙ c.if-begins_above.false) (subst (λ (mask : ℕ). bit_and c.args.found.bitmap mask ≡ 0 → ⊥) (c.mask.ensures.exact plan has some) c.if-found-mask-eq0.false)

pub returns-clause-misses : goal.returns-clause-misses
returns-clause-misses g c = λ plan entries range has some is e. absurd (not-wanted e)

pub returns-then-begins_above-clause-told : goal.returns-then-begins_above-clause-told
returns-then-begins_above-clause-told g c = beyond _ _ (sym c.begins_above.ensures ∙ c.if-begins_above.true)

pub returns-then-found-mask-eq0-clause-told : goal.returns-then-found-mask-eq0-clause-told
returns-then-found-mask-eq0-clause-told g c =
    missed _ _ (sym c.begins_above.ensures ∙ c.if-begins_above.false) (subst (λ (mask : ℕ). bit_and c.args.found.bitmap mask ≡ 0) c.mask.ensures.told c.if-found-mask-eq0.true)

pub returns-clause-told : goal.returns-clause-told
returns-clause-told g c =
    wanted _ _ (sym c.begins_above.ensures ∙ c.if-begins_above.false) (subst (λ (mask : ℕ). bit_and c.args.found.bitmap mask ≡ 0 → ⊥) c.mask.ensures.told c.if-found-mask-eq0.false)
