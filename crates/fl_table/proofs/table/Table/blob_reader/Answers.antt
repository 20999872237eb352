use Rattle.std.proofs.Common.{◌≡◌, Option, Some, true, false, ap, sym, subst, ◌∙◌}
use Rattle.std.specs.Prelude.{option_map, unwrap_or, is_some}
use Rattle.fl_var.specs.declared.var_data.VarData.{VarData}
use Rattle.fl_table.proofs.table.Table.blob_reader.Goals as goal

pub reader-requires-clause-mounted : goal.reader-requires-clause-mounted
reader-requires-clause-mounted g c = c.args.self.now.blobs_running c.requires.running c.in-Some.var c.in-Some.is

pub reader-requires-clause-room : goal.reader-requires-clause-room
reader-requires-clause-room g c = c.requires.room ∙ ap (λ (o : Option VarData). unwrap_or (option_map (λ var. var.geometry.page) o) 0) c.in-Some.is

pub returns-clause-var : goal.returns-clause-var
returns-clause-var g c = ap Some c.reader.ensures.data ∙ sym c.in-Some.is

pub unreachable-requires : goal.unreachable-requires
unreachable-requires g c =
    let no : false ≡ true = subst (λ (o : Option VarData). is_some o ≡ true) c.in_default.is c.requires.blobs in
    cc

pub unreachable-unreachable : goal.unreachable-unreachable
unreachable-unreachable g c = c.unreachable.type_inv
