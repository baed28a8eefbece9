use Rattle.std.proofs.Common.{◌≡◌, ◌∙◌, ap, List, ◌∷◌, [], ◌++◌}
use Rattle.zed_world.specs.declared.board.BoardData.{BoardData}
use Rattle.zed_export.proofs.NewWorlds.{made_is_normal, made_is_short}
use Rattle.zed_export.proofs.fresh_world.new_world.Goals as goal

pub new-requires-clause-parts : goal.new-requires-clause-parts
new-requires-clause-parts c =
    let boards : c.push.new.self ≡ [] ++ c.in_ok-title.title ∷ []
    = c.in_ok-push.ensures.ok ∙ ap (λ (bs : List BoardData). bs ++ c.in_ok-title.title ∷ []) c.new-boards.ensures in
    made_is_normal c.args.name.now c.in_ok-header.header c.push.new.self c.in_ok-title.title c.in_ok-header.ensures boards c.in_ok-title.ensures

pub new-requires-clause-bodies : goal.new-requires-clause-bodies
new-requires-clause-bodies c =
    let boards : c.push.new.self ≡ [] ++ c.in_ok-title.title ∷ []
    = c.in_ok-push.ensures.ok ∙ ap (λ (bs : List BoardData). bs ++ c.in_ok-title.title ∷ []) c.new-boards.ensures in
    made_is_short c.push.new.self c.in_ok-title.title boards c.in_ok-title.ensures
