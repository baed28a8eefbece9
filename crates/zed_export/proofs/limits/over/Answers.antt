use Rattle.std.proofs.Common.{◌≡◌, ℕ, length, [], arith}
use Rattle.zed_edit.specs.Numbers.{alive_stats}
use Rattle.zed_view.specs.View.{board_at}
use Rattle.zed_export.specs.World.{exported_board}
use Rattle.zed_export.proofs.Boards.{length_above, stats_over, body_over, not_over}
use Rattle.zed_edit.specs.declared.plain.Plain.{Plain}
use Rattle.zed_laws.specs.Regular.{IsRegularBoard}
use Rattle.zed_view.specs.View.{no_board}
use Rattle.zed_export.proofs.Normality.{texts_fit}
use Rattle.zed_export.proofs.Ordered.{all_at}
use Rattle.zed_export.proofs.limits.over.Goals as goal

-- as many stats are exported as aren't removed
all_exported : (view : Plain) (i : ℕ) → length (exported_board view (board_at view i)).stats ≡ length (alive_stats (board_at view i))
all_exported view i = length_above view (board_at view i) [] (alive_stats (board_at view i))

pub returns-then-stats-gt-STATS_LIMIT : goal.returns-then-stats-gt-STATS_LIMIT
returns-then-stats-gt-STATS_LIMIT c =
    let same = all_exported c.args.view.now c.args.i in
    stats_over c.args.limit c.args.number c.saturating_sub-stats.result (exported_board c.args.view.now (board_at c.args.view.now c.args.i)) (omega (arith, same, c.saturating_sub-stats.ensures, c.alive_stats.ensures)) (omega arith)

pub returns-then-limit-bytes : goal.returns-then-limit-bytes
returns-then-limit-bytes c =
    let same = all_exported c.args.view.now c.args.i in
    body_over c.args.limit c.args.number c.body_bytes-bytes.result (exported_board c.args.view.now (board_at c.args.view.now c.args.i)) (omega (arith, same, c.saturating_sub-stats.ensures, c.alive_stats.ensures)) c.requires.limit c.body_bytes-bytes.ensures (omega arith)

pub returns-else-limit-bytes : goal.returns-else-limit-bytes
returns-else-limit-bytes c =
    let same = all_exported c.args.view.now c.args.i in
    not_over c.args.limit c.args.number c.body_bytes-bytes.result (exported_board c.args.view.now (board_at c.args.view.now c.args.i)) (omega (arith, same, c.saturating_sub-stats.ensures, c.alive_stats.ensures)) c.requires.limit c.body_bytes-bytes.ensures (omega arith)

pub body_bytes-bytes-requires-clause-name : goal.body_bytes-bytes-requires-clause-name
body_bytes-bytes-requires-clause-name c =
    (texts_fit _ (all_at IsRegularBoard c.args.view.now.boards c.args.i no_board c.requires.board c.requires.regular.boards).texts).0

pub body_bytes-bytes-requires-clause-message : goal.body_bytes-bytes-requires-clause-message
body_bytes-bytes-requires-clause-message c =
    (texts_fit _ (all_at IsRegularBoard c.args.view.now.boards c.args.i no_board c.requires.board c.requires.regular.boards).texts).1
