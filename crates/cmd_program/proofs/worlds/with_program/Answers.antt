use Rattle.std.proofs.Common.{◌≡◌, ◌∙◌, ◌<◌, Bor, ap, inr, length, option_map, subst, sym}
use Rattle.std.proofs.lemmas.Option.{slice_get_within}
use Rattle.zed_world.specs.declared.board.BoardData.{BoardData}
use Rattle.zed_world.specs.declared.stat.StatData.{StatData}
use Rattle.zed_world.specs.Normal.{HasShortBody, IsNormalBoard}
use Rattle.cmd_program.specs.Codes.{owner_of}
use Rattle.cmd_program.specs.Sizes.{CanBeCounted}
use Rattle.cmd_program.specs.Worlds.{board_with}
use Rattle.cmd_program.proofs.Counted.{changed_counted}
use Rattle.cmd_program.proofs.Lists.{all_get}
use Rattle.cmd_program.proofs.Reprogrammed.{lacks_there, no_board, no_such, reprogrammed}
use Rattle.cmd_program.proofs.Short.{changed_normal}
use Rattle.cmd_program.proofs.worlds.with_program.Goals as goal

pub returns-in_default-clause-result : goal.returns-in_default-clause-result
returns-in_default-clause-result c =
    let at = sym c.board_at.ensures.found ∙ ap (option_map (λ (b : Bor BoardData). b.now)) c.in_default.is in
    inr (no_board c.args.world.now c.args.board c.args.stat c.args.program.now at)

pub returns-in_default-stat_at-clause-result : goal.returns-in_default-stat_at-clause-result
returns-in_default-stat_at-clause-result c =
    let at = sym c.board_at.ensures.found ∙ ap (option_map (λ (b : Bor BoardData). b.now)) c.in-Some.is in
    let here = sym c.stat_at.ensures ∙ ap (option_map (λ (s : Bor StatData). s.now)) c.in_default-stat_at.is in
    inr (no_such c.args.world.now c.args.board c.args.stat c.args.program.now c.in-Some.old.now at here)

pub with_board-requires-clause-within : goal.with_board-requires-clause-within
with_board-requires-clause-within c =
    let at = sym c.board_at.ensures.found ∙ ap (option_map (λ (b : Bor BoardData). b.now)) c.in-Some.is in
    subst (λ n. n < length c.args.world.now.boards) (sym c.from.ensures) (slice_get_within c.args.world.now.boards c.args.board c.in-Some.old.now at)

pub with_board-requires-clause-counted : goal.with_board-requires-clause-counted
with_board-requires-clause-counted c =
    let w = c.args.world.now in
    let b = c.in-Some.old.now in
    let at = sym c.board_at.ensures.found ∙ ap (option_map (λ (b : Bor BoardData). b.now)) c.in-Some.is in
    let normal = all_get (IsNormalBoard (length w.boards)) w.boards c.args.board b c.board_at.ensures.normal.boards at in
    subst CanBeCounted (sym c.in_ok-changed.ensures)
    (changed_counted (length w.boards) c.owner_of-owner.result c.args.program.now b c.length_of.ensures normal)

pub with_board-requires-clause-normal : goal.with_board-requires-clause-normal
with_board-requires-clause-normal c = λ short.
    let w = c.args.world.now in
    let b = c.in-Some.old.now in
    let s = c.in-Some-stat_at.given.now in
    let at = sym c.board_at.ensures.found ∙ ap (option_map (λ (b : Bor BoardData). b.now)) c.in-Some.is in
    let here = sym c.stat_at.ensures ∙ ap (option_map (λ (s : Bor StatData). s.now)) c.in-Some-stat_at.is in
    let normal = all_get (IsNormalBoard (length w.boards)) w.boards c.args.board b c.board_at.ensures.normal.boards at in
    let is : c.in_ok-changed.changed ≡ board_with (owner_of c.args.stat s.code) c.args.program.now b =
    c.in_ok-changed.ensures ∙ ap (λ n. board_with n c.args.program.now b) c.owner_of-owner.ensures in
    subst (IsNormalBoard (length w.boards)) (sym is) (changed_normal (length w.boards) b c.args.stat s c.args.program.now normal here (subst HasShortBody is short))

pub returns-clause-result : goal.returns-clause-result
returns-clause-result c =
    let b = c.in-Some.old.now in
    let s = c.in-Some-stat_at.given.now in
    let at = sym c.board_at.ensures.found ∙ ap (option_map (λ (b : Bor BoardData). b.now)) c.in-Some.is in
    let here = sym c.stat_at.ensures ∙ ap (option_map (λ (s : Bor StatData). s.now)) c.in-Some-stat_at.is in
    let is : c.in_ok-changed.changed ≡ board_with (owner_of c.args.stat s.code) c.args.program.now b =
    c.in_ok-changed.ensures ∙ ap (λ n. board_with n c.args.program.now b) c.owner_of-owner.ensures in
    reprogrammed c.args.world.now c.args.board c.args.stat c.args.program.now b s c.from.result c.in_ok-changed.changed c.with_board.result at here c.from.ensures is c.with_board.ensures

pub returns-clause-memory_only_when : goal.returns-clause-memory_only_when
returns-clause-memory_only_when c =
    let at = sym c.board_at.ensures.found ∙ ap (option_map (λ (b : Bor BoardData). b.now)) c.in-Some.is in
    let here = sym c.stat_at.ensures ∙ ap (option_map (λ (s : Bor StatData). s.now)) c.in-Some-stat_at.is in
    lacks_there c.args.world.now c.args.board c.args.stat c.in-Some.old.now c.in-Some-stat_at.given.now c.with_board.result at here

pub returns-in_err-changed-clause-memory_only_when : goal.returns-in_err-changed-clause-memory_only_when
returns-in_err-changed-clause-memory_only_when c =
    let at = sym c.board_at.ensures.found ∙ ap (option_map (λ (b : Bor BoardData). b.now)) c.in-Some.is in
    let here = sym c.stat_at.ensures ∙ ap (option_map (λ (s : Bor StatData). s.now)) c.in-Some-stat_at.is in
    lacks_there c.args.world.now c.args.board c.args.stat c.in-Some.old.now c.in-Some-stat_at.given.now c.from_residual.result at here
