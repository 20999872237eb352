use Rattle.std.proofs.Common.{◌<◌, arith, ap, pos, ◌∙◌, rules}
use Rattle.std.proofs.lemmas.Int.{to_z_pos}
use Rattle.std.specs.Int.{w64}
use Rattle.fl_schema.proofs.Numbers.{four_bytes_most, number_read}
use Rattle.fl_schema.proofs.column.read_unsigned.Goals as goal

pub overflow_cast-result : goal.overflow_cast-result
overflow_cast-result c =
    let few : c.read_uint.result < 4294967296 = four_bytes_most c.args.width c.args.at _ c.args.from.now c.requires.few (λ k. (let f = c.type_inv.from k in omega arith)) c.read_uint.ensures in
    search rules

pub returns : goal.returns
returns c =
    let few : c.read_uint.result < 4294967296 = four_bytes_most c.args.width c.args.at _ c.args.from.now c.requires.few (λ k. (let f = c.type_inv.from k in omega arith)) c.read_uint.ensures in
    to_z_pos w64 c.read_uint.result (omega arith) ∙ ap pos (c.read_uint.ensures ∙ number_read c.args.width c.args.at c.args.from.now c.requires.room)
