use Rattle.std.proofs.Common.{ℕ, List, Err, inl, ap, subst}
use Rattle.fl_base.proofs.Appended.{appends-none}
use Rattle.fl_words.specs.Config.{Lines}
use Rattle.fl_image_check.specs.Checking.{TablesEndBy}
use Rattle.fl_image.specs.declared.status.ToolStatus.{ToolStatus}
use Rattle.fl_image.proofs.Reach.{reach}
use Rattle.fl_image_check.proofs.CheckEnds.{over-of, ends-over, image-ends, early-ends, ends-known}
use Rattle.fl_image_check.proofs.check.check_tables_of.Goals as goal

pub with_room-flash-requires-clause-reach : goal.with_room-flash-requires-clause-reach
with_room-flash-requires-clause-reach g c =
    let found = c.in-Ok-config_of_image.ensures in
    reach c.in-Ok-config_of_image.config c.geometry-geometry.result c.blocks-blocks.result (g.M.Media.state c.args.media.now).content (g.M.Media.state c.config_of_image.new.media).content
    found.whole c.geometry-geometry.ensures.device c.blocks-blocks.ensures.exact found.size found.looks.content

pub check_tables-status-requires : goal.check_tables-status-requires
check_tables-status-requires g c = record {
  over = over-of c.in-Ok-config_of_image.config c.geometry-geometry.result c.blocks-blocks.result _ _ _ _ c.with_room-flash.ensures c.geometry-geometry.ensures.device c.blocks-blocks.ensures.exact c.blocks-blocks.ensures.fits;
}

pub returns-in_default-clause-ends : goal.returns-in_default-clause-ends
returns-in_default-clause-ends g c told = inl (appends-none (g.K.Sink.written c.args.out.now))

pub returns-in_default-new-clause-ends : goal.returns-in_default-new-clause-ends
returns-in_default-new-clause-ends g c told = inl (appends-none (g.K.Sink.written c.args.out.now))

pub returns-in-Err-clause-ends : goal.returns-in-Err-clause-ends
returns-in-Err-clause-ends g c told =
    early-ends (λ (l : Lines) (s : ToolStatus). TablesEndBy c.args.extent g.C.CheckTable.finds g.C.CheckTable.rules l (g.M.Media.state c.args.media.now).content (g.K.Sink.written c.args.out.now) (g.K.Sink.written c.args.out.now) s) (g.M.Media.state c.args.media.now).content (g.K.Sink.written c.args.out.now) c.in-Err.status c.in-Err.ensures.statuses
    (λ is. c.in-Err.ensures.none (ap (λ s. Err s) is) told)

pub returns-clause-ends : goal.returns-clause-ends
returns-clause-ends g c told =
    let found = c.in-Ok-config_of_image.ensures in
    let image = found.image told in
    let lines = c.in-Ok-config_of_image.config in
    let before = g.K.Sink.written c.args.out.now in
    let now = g.K.Sink.written c.check_tables-status.new.out in
    let bytes = (g.M.Media.state c.args.media.now).content in
    let status = c.check_tables-status.result in
    let ends : TablesEndBy c.args.extent g.C.CheckTable.finds g.C.CheckTable.rules lines bytes before now status =
    ends-over (λ (l : List ℕ) (s : ToolStatus). TablesEndBy c.args.extent g.C.CheckTable.finds g.C.CheckTable.rules lines l before now s) status
    (g.M.Media.state c.args.media.now).tells c.geometry-geometry.result c.blocks-blocks.result _ _ (g.M.Media.state c.config_of_image.new.media) _ bytes c.with_room-flash.ensures found.looks.content found.looks.tells told c.check_tables-status.ensures.ends in
    image-ends (λ (l : Lines) (s : ToolStatus). TablesEndBy c.args.extent g.C.CheckTable.finds g.C.CheckTable.rules l bytes before now s) bytes before now status
    (λ is. ends-known c.args.extent g.C.CheckTable.finds g.C.CheckTable.rules lines bytes before now (subst (λ (s : ToolStatus). TablesEndBy c.args.extent g.C.CheckTable.finds g.C.CheckTable.rules lines bytes before now s) is ends))
    (record { lines = lines; accepted = image.0; image = image.1; ends = ends })
