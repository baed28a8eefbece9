use Rattle.std.proofs.Common.{◌∙◌, List, ap, arith, length, subst, sym}
use Rattle.std.specs.Prelude.{slice_set}
use Rattle.std.specs.List.{AllByRecursion}
use Rattle.zed_world.specs.declared.board.BoardData.{BoardData}
use Rattle.zed_world.specs.declared.header.Header.{Header}
use Rattle.zed_world.specs.Normal.{HasNormalParts, HasShortBody}
use Rattle.zed_world.proofs.WorldAgain.{short_within}
use Rattle.cmd_program.specs.Sizes.{CanBeCounted}
use Rattle.cmd_program.proofs.Counted.{all_counted}
use Rattle.cmd_program.proofs.Lists.{all_set, set_had}
use Rattle.cmd_program.proofs.Normal.{world_normal}
use Rattle.cmd_program.proofs.worlds.with_board.Goals as goal

pub within_limit-requires : goal.within_limit-requires
within_limit-requires c =
    let w = c.args.world.now in
    let had = c.in_ok-boards.ensures ∙ c.boards.ensures.result in
    let all = c.as_slice.ensures ∙ c.set.ensures ∙ ap (λ bs. slice_set bs c.args.number c.args.changed) had in
    subst (λ (bs : List BoardData). AllByRecursion CanBeCounted bs) (sym all)
    (all_set CanBeCounted w.boards c.args.number c.args.changed (all_counted (length w.boards) w.boards c.boards.ensures.normal.boards) c.requires.counted)

pub new-requires-clause-bodies : goal.new-requires-clause-bodies
new-requires-clause-bodies c =
    subst (λ (bs : List BoardData). AllByRecursion HasShortBody bs) c.as_slice.ensures (short_within 32767 0 c.as_slice.result.now (omega arith) c.in_default.ensures.fits)

pub new-requires-clause-parts : goal.new-requires-clause-parts
new-requires-clause-parts c =
    let w = c.args.world.now in
    let had = c.in_ok-boards.ensures ∙ c.boards.ensures.result in
    let all = c.set.ensures ∙ ap (λ bs. slice_set bs c.args.number c.args.changed) had in
    let head = c.in_ok-header.ensures ∙ c.header.ensures.result in
    let short = subst (λ (bs : List BoardData). AllByRecursion HasShortBody bs) all (new-requires-clause-bodies c) in
    let one = c.requires.normal (set_had HasShortBody w.boards c.args.number c.args.changed c.requires.within short) in
    subst (λ (h : Header). HasNormalParts (record { header = h; boards = c.set.new.self })) (sym head)
    (subst (λ (bs : List BoardData). HasNormalParts (record { header = w.header; boards = bs })) (sym all) (world_normal w c.args.number c.args.changed c.boards.ensures.normal one))
