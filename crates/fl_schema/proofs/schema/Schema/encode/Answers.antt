use Rattle.std.proofs.Common.{◌≡◌, ℕ, ◌+◌, ◌<◌, le_of_eq, arith, rules, ap, sym, ◌∙◌, get_or, pos, length, take}
use Rattle.std.proofs.lemmas.Int.{to_z-of_z}
use Rattle.std.specs.Prelude.{FitsSigned}
use Rattle.std.specs.Int.{w64}
use Rattle.fl_schema.specs.declared.column.ColumnType.TheVariants.{U8}
use Rattle.fl_schema.specs.Form.{key_width, columns_in}
use Rattle.fl_model.specs.Record.{columns_len}
use Rattle.fl_model.specs.Row.{le}
use Rattle.fl_schema.specs.Schema.{types_of, layout_of}
use Rattle.fl_schema.proofs.Numbers.{length-le, length-reference_bytes}
use Rattle.fl_schema.proofs.Places.{columns-fit, length-columns_in, fits_at, place_within}
use Rattle.fl_schema.proofs.RowColumns.{Written-more, Written-key, key-fits, key-room, row-written, row-written-blob, reference-place, back-again, no-reference}
use Rattle.fl_schema.proofs.schema.Schema.encode.Goals as goal

pub write-requires-in-loop-i-clause-fits : goal.write-requires-in-loop-i-clause-fits
write-requires-in-loop-i-clause-fits g c =
    let word : FitsSigned w64 (get_or c.args.values.now c.loop-i.i (pos 0)) = search rules in
    let lt : c.loop-i.i < length c.args.self.now.columns.items = search rules in
    let many : c.loop-i.i < length c.args.values.now = omega (arith, c.requires.fits.as_many, length-columns_in c.args.self.now.columns.items) in
    rw (to_z-of_z w64 (get_or c.args.values.now c.loop-i.i (pos 0)) word, c.as_slice-column-items.ensures.value)
    (fits_at 1 c.args.self.now.columns.items c.args.values.now c.loop-i.i _ (search rules) many c.requires.fits.values)

pub write-requires-in-loop-i-clause-room : goal.write-requires-in-loop-i-clause-room
write-requires-in-loop-i-clause-room g c =
    rw c.as_slice-column-items.ensures.value
    (let within = place_within c.args.self.now.key c.args.self.now.columns.items c.loop-i.i (record { of = U8; at = 0 }) c.args.self.now.placed (search rules) in omega (arith, within, c.loop-i.invariant.len, c.requires.room))

pub loop-i-preserved : goal.loop-i-preserved
loop-i-preserved g c =
    let word : FitsSigned w64 (get_or c.args.values.now c.loop-i.i (pos 0)) = search rules in
    let front : length (le (key_width c.args.self.now.key) c.args.key) ≡ key_width c.args.self.now.key = length-le (key_width c.args.self.now.key) c.args.key in
    let lt : c.loop-i.i < length c.args.self.now.columns.items = search rules in
    let many : c.loop-i.i < length c.args.values.now = omega (arith, c.requires.fits.as_many, length-columns_in c.args.self.now.columns.items) in
    rw (c.write-in-loop-i.ensures, to_z-of_z w64 (get_or c.args.values.now c.loop-i.i (pos 0)) word, c.as_slice-column-items.ensures.value)
    (Written-more _ _ _ _ _ _ _ _ lt many (c.args.self.now.placed c.loop-i.i _ lt ∙ ap (λ (k : ℕ). k + columns_len (columns_in (take c.loop-i.i c.args.self.now.columns.items))) (sym front)) (omega (arith, front, c.requires.room)) c.loop-i.invariant)

pub write-requires-clause-fits : goal.write-requires-clause-fits
write-requires-clause-fits g c = key-fits c.args.self.now.key (types_of c.args.self.now) c.args.self.now.blobs c.args.key c.requires.fits.key

pub write-requires-clause-room : goal.write-requires-clause-room
write-requires-clause-room g c = key-room c.args.self.now.key (types_of c.args.self.now) c.args.self.now.blobs _ c.requires.room

pub loop-i-init : goal.loop-i-init
loop-i-init g c = Written-key (key_width c.args.self.now.key) c.args.key c.args.self.now.columns.items c.args.values.now c.args.into.now _ (key-room c.args.self.now.key (types_of c.args.self.now) c.args.self.now.blobs _ c.requires.room) c.write.ensures

pub bounds-column-items-i : goal.bounds-column-items-i
bounds-column-items-i g c = c.loop-i-test.true

pub overflow_sub-self : goal.overflow_sub-self
overflow_sub-self g c = reference-place c.args.self.now.key c.args.self.now.columns.items c.args.self.now.blobs _ c.if-self.true c.args.self.now.row_is

pub write_reference-requires : goal.write_reference-requires
write_reference-requires g c = le_of_eq (back-again _ (reference-place c.args.self.now.key c.args.self.now.columns.items c.args.self.now.blobs _ c.if-self.true c.args.self.now.row_is) ∙ c.args.self.now.row_is ∙ sym c.requires.room ∙ sym c.loop-i.invariant.len)

pub returns-then-self-clause-bytes : goal.returns-then-self-clause-bytes
returns-then-self-clause-bytes g c =
    row-written-blob c.args.self.now.key c.args.self.now.columns.items c.args.self.now.blobs (record { key = c.args.key; values = c.args.values.now; blob = c.args.blob }) _ c.loop-i.i _ c.loop-i.into _ c.if-self.true (rw c.as_slice-column-items.ensures.value at c.loop-i-test.false) c.requires.room
    (back-again _ (reference-place c.args.self.now.key c.args.self.now.columns.items c.args.self.now.blobs _ c.if-self.true c.args.self.now.row_is) ∙ c.args.self.now.row_is ∙ sym c.requires.room) (length-reference_bytes c.args.blob) c.loop-i.invariant c.write_reference.ensures.bytes

pub returns-then-self-clause-storable : goal.returns-then-self-clause-storable
returns-then-self-clause-storable g c = record { fits = c.requires.fits; bytes = c.write_reference.ensures.fits }

pub returns-else-self-clause-bytes : goal.returns-else-self-clause-bytes
returns-else-self-clause-bytes g c = row-written c.args.self.now.key c.args.self.now.columns.items c.args.self.now.blobs (record { key = c.args.key; values = c.args.values.now; blob = c.args.blob }) _ c.loop-i.i c.loop-i.into c.if-self.false (rw c.as_slice-column-items.ensures.value at c.loop-i-test.false) c.requires.room c.loop-i.invariant

pub returns-else-self-clause-storable : goal.returns-else-self-clause-storable
returns-else-self-clause-storable g c = record { fits = c.requires.fits; bytes = no-reference (layout_of c.args.self.now) c.args.blob c.if-self.false c.requires.fits.blob }

pub as_slice-column-items-requires : goal.as_slice-column-items-requires
as_slice-column-items-requires g c = columns-fit g.row.COLS c.args.self.now.few
