-- What clauses see of a table's variable data.
use Rattle.std.specs.Prelude.{ℕ, ◌-◌, Bool, Option, is_some, option_map, unwrap_or}
use Rattle.fl_table.specs.declared.table.Table.{Table}
use Rattle.fl_var.specs.declared.var_data.VarData.{VarData}

-- they themselves, where it has any
abbrev pub data_in : {KNOTS SLOTS : ℕ} → Table KNOTS SLOTS → Option VarData
data_in t = t.blobs

abbrev pub has_blobs : {KNOTS SLOTS : ℕ} → Table KNOTS SLOTS → Bool
has_blobs t = is_some t.blobs

-- how many bytes a page of theirs has, where there are any
abbrev pub blob_page_len : {KNOTS SLOTS : ℕ} → Table KNOTS SLOTS → ℕ
blob_page_len t = unwrap_or (option_map (λ var. var.geometry.page) t.blobs) 0

-- how many bytes of content a page of them holds
abbrev pub content_in : {KNOTS SLOTS : ℕ} → Table KNOTS SLOTS → ℕ
content_in t = t.geometry.page - 16
