-- An edit adds the boards that it makes of an empty document.
use Rattle.std.proofs.Common.{◌≡◌, OnOk, subst}
use Rattle.zed_live.proofs.BoardsMade.{genesis-adds, board-adds}
use Rattle.zed_live.proofs.boards.LiveBoards.take.Goals as goal

pub returns-in-Genesis-clause-ok : goal.returns-in-Genesis-clause-ok
returns-in-Genesis-clause-ok c =
    subst (λ ys. OnOk c.make.result (c.make.new.self ≡ ys)) (genesis-adds c.args.edit.now _ c.args.self.now c.in-Genesis.is) c.make.ensures.ok

pub returns-in-BoardAdd-clause-ok : goal.returns-in-BoardAdd-clause-ok
returns-in-BoardAdd-clause-ok c =
    subst (λ ys. OnOk c.make-in-BoardAdd.result (c.make-in-BoardAdd.new.self ≡ ys)) (board-adds c.args.edit.now _ c.args.self.now c.in-BoardAdd.is) c.make-in-BoardAdd.ensures.ok
