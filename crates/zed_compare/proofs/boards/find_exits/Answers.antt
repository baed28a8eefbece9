use Rattle.zed_compare.specs.Findings.{board_findings, exits}
use Rattle.zed_compare.proofs.Kept.{board_kept, kept_on}
use Rattle.zed_compare.proofs.boards.find_exits.Goals as goal

pub returns-clause-registers : goal.returns-clause-registers
returns-clause-registers c =
    kept_on c.find_registers.result c.args.found.now.items c.find_registers.new.found.items (board_findings c.args.views.now c.args.id exits) c.find_registers.ensures
    (board_kept c.args.views.now c.args.id exits)
