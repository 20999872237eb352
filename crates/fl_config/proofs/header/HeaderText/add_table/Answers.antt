use Rattle.std.proofs.Common.{◌≡◌, [], ◌∷◌, ◌++◌, map, nat_lt, codes, decimal, refl, rules}
use Rattle.std.specs.List.{join_with_byte}
use Rattle.std.specs.Fmt.{signed_decimal}
use Rattle.fl_words.specs.Medium.{column_name}
use Rattle.fl_config.specs.Entry.{plan_in}
use Rattle.fl_config.proofs.Room.{behind-name, behind-part, behind-number, room-for, room-for-number, ended}
use Rattle.fl_config.proofs.Texts.{endings-onto}
use Rattle.fl_config.proofs.header.HeaderText.add_table.Goals as goal

pub returns-clause-text : goal.returns-clause-text
returns-clause-text c =
    let plan = plan_in c.args.table.now in
    let base : c.add_number-6.new.self ≡ c.add_number-5.new.self ++ 32 ∷ signed_decimal plan.base = search rules in
    rw (
      c.add-2.ensures,
      c.add_log.ensures.text,
      c.log_blocks.ensures,
      c.add_format.ensures.text,
      c.add_number-9.ensures.text,
      c.add_number-8.ensures.text,
      c.add_number-7.ensures.text,
      base,
      c.add_number-5.ensures.text,
      c.add_number-4.ensures.text,
      c.add_number-3.ensures.text,
      c.add_number-2.ensures.text,
      c.add_columns.ensures.text,
      c.add_number.ensures.text,
      c.add_word.ensures,
      c.add.ensures,
      c.bytes.ensures.same,
      c.width.ensures,
      c.as_slice.ensures.value,
      c.index_blocks.ensures,
      c.var_blocks.ensures,
      c.bits.ensures,
      c.width-2.ensures,
    )
    (endings-onto c.args.self.now (codes "table") (plan.name ∷ decimal plan.key_bytes ∷ join_with_byte 44 (map column_name plan.columns)
    ∷ decimal plan.data_blocks ∷ decimal plan.index_blocks ∷ decimal plan.var_blocks ∷ decimal plan.bits ∷ signed_decimal plan.base
    ∷ decimal plan.width ∷ decimal plan.error ∷ decimal plan.blob_limit ∷ []) plan.full_index (nat_lt 0 plan.log_blocks) (codes "index2") (codes "rlc") (decimal plan.log_blocks))

pub add_number-requires : goal.add_number-requires
add_number-requires c = room-for-number _ _ _ (behind-name _ _ _ _ c.add.ensures c.bytes.ensures.name c.add_word.ensures) c.requires refl

pub add_columns-requires-clause-few : goal.add_columns-requires-clause-few
add_columns-requires-clause-few c = c.as_slice.ensures.fits

pub add_columns-requires-clause-room : goal.add_columns-requires-clause-room
add_columns-requires-clause-room c = room-for _ _ _ (behind-number _ _ _ c.add_number.ensures.short (behind-name _ _ _ _ c.add.ensures c.bytes.ensures.name c.add_word.ensures)) c.requires refl

pub add_number-requires-2 : goal.add_number-requires-2
add_number-requires-2 c = room-for-number _ _ _ (behind-part _ _ _ c.add_columns.ensures.short (behind-number _ _ _ c.add_number.ensures.short (behind-name _ _ _ _ c.add.ensures c.bytes.ensures.name c.add_word.ensures))) c.requires refl

pub add_number-requires-3 : goal.add_number-requires-3
add_number-requires-3 c = room-for-number _ _ _ (behind-number _ _ _ c.add_number-2.ensures.short (behind-part _ _ _ c.add_columns.ensures.short (behind-number _ _ _ c.add_number.ensures.short (behind-name _ _ _ _ c.add.ensures c.bytes.ensures.name c.add_word.ensures)))) c.requires refl

pub add_number-requires-4 : goal.add_number-requires-4
add_number-requires-4 c = room-for-number _ _ _ (behind-number _ _ _ c.add_number-3.ensures.short (behind-number _ _ _ c.add_number-2.ensures.short (behind-part _ _ _ c.add_columns.ensures.short (behind-number _ _ _ c.add_number.ensures.short (behind-name _ _ _ _ c.add.ensures c.bytes.ensures.name c.add_word.ensures))))) c.requires refl

pub add_number-requires-5 : goal.add_number-requires-5
add_number-requires-5 c = room-for-number _ _ _ (behind-number _ _ _ c.add_number-4.ensures.short (behind-number _ _ _ c.add_number-3.ensures.short (behind-number _ _ _ c.add_number-2.ensures.short (behind-part _ _ _ c.add_columns.ensures.short (behind-number _ _ _ c.add_number.ensures.short (behind-name _ _ _ _ c.add.ensures c.bytes.ensures.name c.add_word.ensures)))))) c.requires refl

pub add_number-requires-6 : goal.add_number-requires-6
add_number-requires-6 c = room-for-number _ _ _ (behind-number _ _ _ c.add_number-5.ensures.short (behind-number _ _ _ c.add_number-4.ensures.short (behind-number _ _ _ c.add_number-3.ensures.short (behind-number _ _ _ c.add_number-2.ensures.short (behind-part _ _ _ c.add_columns.ensures.short (behind-number _ _ _ c.add_number.ensures.short (behind-name _ _ _ _ c.add.ensures c.bytes.ensures.name c.add_word.ensures))))))) c.requires refl

pub add_number-requires-7 : goal.add_number-requires-7
add_number-requires-7 c = room-for-number _ _ _ (behind-number _ _ _ c.add_number-6.ensures.short (behind-number _ _ _ c.add_number-5.ensures.short (behind-number _ _ _ c.add_number-4.ensures.short (behind-number _ _ _ c.add_number-3.ensures.short (behind-number _ _ _ c.add_number-2.ensures.short (behind-part _ _ _ c.add_columns.ensures.short (behind-number _ _ _ c.add_number.ensures.short (behind-name _ _ _ _ c.add.ensures c.bytes.ensures.name c.add_word.ensures)))))))) c.requires refl

pub add_number-requires-8 : goal.add_number-requires-8
add_number-requires-8 c = room-for-number _ _ _ (behind-number _ _ _ c.add_number-7.ensures.short (behind-number _ _ _ c.add_number-6.ensures.short (behind-number _ _ _ c.add_number-5.ensures.short (behind-number _ _ _ c.add_number-4.ensures.short (behind-number _ _ _ c.add_number-3.ensures.short (behind-number _ _ _ c.add_number-2.ensures.short (behind-part _ _ _ c.add_columns.ensures.short (behind-number _ _ _ c.add_number.ensures.short (behind-name _ _ _ _ c.add.ensures c.bytes.ensures.name c.add_word.ensures))))))))) c.requires refl

pub add_number-requires-9 : goal.add_number-requires-9
add_number-requires-9 c = room-for-number _ _ _ (behind-number _ _ _ c.add_number-8.ensures.short (behind-number _ _ _ c.add_number-7.ensures.short (behind-number _ _ _ c.add_number-6.ensures.short (behind-number _ _ _ c.add_number-5.ensures.short (behind-number _ _ _ c.add_number-4.ensures.short (behind-number _ _ _ c.add_number-3.ensures.short (behind-number _ _ _ c.add_number-2.ensures.short (behind-part _ _ _ c.add_columns.ensures.short (behind-number _ _ _ c.add_number.ensures.short (behind-name _ _ _ _ c.add.ensures c.bytes.ensures.name c.add_word.ensures)))))))))) c.requires refl

pub add_format-requires : goal.add_format-requires
add_format-requires c = room-for _ _ _ (behind-number _ _ _ c.add_number-9.ensures.short (behind-number _ _ _ c.add_number-8.ensures.short (behind-number _ _ _ c.add_number-7.ensures.short (behind-number _ _ _ c.add_number-6.ensures.short (behind-number _ _ _ c.add_number-5.ensures.short (behind-number _ _ _ c.add_number-4.ensures.short (behind-number _ _ _ c.add_number-3.ensures.short (behind-number _ _ _ c.add_number-2.ensures.short (behind-part _ _ _ c.add_columns.ensures.short (behind-number _ _ _ c.add_number.ensures.short (behind-name _ _ _ _ c.add.ensures c.bytes.ensures.name c.add_word.ensures))))))))))) c.requires refl

pub add_log-requires : goal.add_log-requires
add_log-requires c = room-for _ _ _ (behind-part _ _ _ c.add_format.ensures.short (behind-number _ _ _ c.add_number-9.ensures.short (behind-number _ _ _ c.add_number-8.ensures.short (behind-number _ _ _ c.add_number-7.ensures.short (behind-number _ _ _ c.add_number-6.ensures.short (behind-number _ _ _ c.add_number-5.ensures.short (behind-number _ _ _ c.add_number-4.ensures.short (behind-number _ _ _ c.add_number-3.ensures.short (behind-number _ _ _ c.add_number-2.ensures.short (behind-part _ _ _ c.add_columns.ensures.short (behind-number _ _ _ c.add_number.ensures.short (behind-name _ _ _ _ c.add.ensures c.bytes.ensures.name c.add_word.ensures)))))))))))) c.requires refl

pub add-requires-2 : goal.add-requires-2
add-requires-2 c = room-for _ _ _ (behind-part _ _ _ c.add_log.ensures.short (behind-part _ _ _ c.add_format.ensures.short (behind-number _ _ _ c.add_number-9.ensures.short (behind-number _ _ _ c.add_number-8.ensures.short (behind-number _ _ _ c.add_number-7.ensures.short (behind-number _ _ _ c.add_number-6.ensures.short (behind-number _ _ _ c.add_number-5.ensures.short (behind-number _ _ _ c.add_number-4.ensures.short (behind-number _ _ _ c.add_number-3.ensures.short (behind-number _ _ _ c.add_number-2.ensures.short (behind-part _ _ _ c.add_columns.ensures.short (behind-number _ _ _ c.add_number.ensures.short (behind-name _ _ _ _ c.add.ensures c.bytes.ensures.name c.add_word.ensures))))))))))))) c.requires refl

pub returns-clause-short : goal.returns-clause-short
returns-clause-short c = ended _ _ _ _ c.add-2.ensures (behind-part _ _ _ c.add_log.ensures.short (behind-part _ _ _ c.add_format.ensures.short (behind-number _ _ _ c.add_number-9.ensures.short (behind-number _ _ _ c.add_number-8.ensures.short (behind-number _ _ _ c.add_number-7.ensures.short (behind-number _ _ _ c.add_number-6.ensures.short (behind-number _ _ _ c.add_number-5.ensures.short (behind-number _ _ _ c.add_number-4.ensures.short (behind-number _ _ _ c.add_number-3.ensures.short (behind-number _ _ _ c.add_number-2.ensures.short (behind-part _ _ _ c.add_columns.ensures.short (behind-number _ _ _ c.add_number.ensures.short (behind-name _ _ _ _ c.add.ensures c.bytes.ensures.name c.add_word.ensures))))))))))))) refl
