use Rattle.std.proofs.Common.{◌≡◌, ◌∙◌, ◌≤◌, List, length, ap, sym, subst}
use Rattle.std.specs.List.{AllByRecursion}
use Rattle.zed_world.specs.Contents.{Contents}
use Rattle.zed_world.specs.declared.board.BoardData.{BoardData}
use Rattle.zed_world.specs.declared.header.Header.{Header}
use Rattle.zed_edit.specs.Numbers.{alive_boards, alive_stats}
use Rattle.zed_export.specs.ByNumber.{AreByNumber}
use Rattle.zed_export.specs.World.{exported_header, exported_boards}
use Rattle.zed_export.specs.Fields.{FitsHeader, FitsBoard}
use Rattle.zed_export.proofs.Mapped.{each_at, exported_at}
use Rattle.zed_export.proofs.Within.{boards_within, all_few, all_readable}
use Rattle.zed_export.proofs.Normality.{world_normal}
use Rattle.zed_export.proofs.exporting.world_within.Goals as goal

pub boards_of-requires-clause-few_stats : goal.boards_of-requires-clause-few_stats
boards_of-requires-clause-few_stats c =
    let p = c.args.view.now in
    let by_number = subst (AreByNumber p) (sym c.as_slice-places.ensures) c.boards_by_number-order.ensures in
    each_at (λ b. length (alive_stats b) ≤ 151) p c.as_slice-places.result.now by_number (all_few c.args.limit 0 p (alive_boards p) (boards_within c.args.limit p c.requires.within))

pub new-requires-clause-parts : goal.new-requires-clause-parts
new-requires-clause-parts c =
    let p = c.args.view.now in
    let by_number = subst (AreByNumber p) (sym c.as_slice-places.ensures) c.boards_by_number-order.ensures in
    let header : c.in_ok-header.header ≡ exported_header p = c.in_ok-header.ensures.result in
    let boards : c.in_ok-boards.boards ≡ exported_boards p =
    c.in_ok-boards.ensures.result ∙ exported_at p c.as_slice-places.result.now by_number in
    let fits_header : FitsHeader (exported_header p) = rw (sym header) c.in_ok-header.ensures.fits in
    let fits_boards : AllByRecursion FitsBoard (exported_boards p) = rw (sym boards) c.in_ok-boards.ensures.fits in
    rw (header, boards) (world_normal c.args.limit p c.requires.regular c.requires.ordered c.requires.limit c.requires.within fits_header fits_boards)

pub new-requires-clause-bodies : goal.new-requires-clause-bodies
new-requires-clause-bodies c =
    let p = c.args.view.now in
    let by_number = subst (AreByNumber p) (sym c.as_slice-places.ensures) c.boards_by_number-order.ensures in
    let boards : c.in_ok-boards.boards ≡ exported_boards p =
    c.in_ok-boards.ensures.result ∙ exported_at p c.as_slice-places.result.now by_number in
    rw boards (all_readable c.args.limit 0 (exported_boards p) c.requires.limit (boards_within c.args.limit p c.requires.within))

pub returns : goal.returns
returns c =
    let p = c.args.view.now in
    let by_number = subst (AreByNumber p) (sym c.as_slice-places.ensures) c.boards_by_number-order.ensures in
    let make : Header → List BoardData → Contents = λ h bs. record { header = h; boards = bs } in
    c.new.ensures
    ∙ ap (λ (h : Header). make h c.in_ok-boards.boards) c.in_ok-header.ensures.result
    ∙ ap (make (exported_header p)) (c.in_ok-boards.ensures.result ∙ exported_at p c.as_slice-places.result.now by_number)
