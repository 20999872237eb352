use Rattle.fl_index.proofs.Limits.{key-within, count-within, end-within}
use Rattle.fl_index.proofs.page.full_in.Goals as goal

pub get_u64-requires : goal.get_u64-requires
get_u64-requires c = key-within _ _ c.requires

pub get_u16-requires : goal.get_u16-requires
get_u16-requires c = count-within _ _ c.requires

pub get_u32-requires : goal.get_u32-requires
get_u32-requires c = end-within _ _ c.requires
