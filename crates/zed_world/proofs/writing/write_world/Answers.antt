use Rattle.std.proofs.Common.{◌≡◌, List, sym, subst, ap, ◌∙◌, length, inr, None, Some}
use Rattle.std.specs.List.{AllByRecursion}
use Rattle.std.proofs.lemmas.Result.{err_from_is_err_and}
use Rattle.zed_world.specs.declared.board.BoardData.{BoardData}
use Rattle.zed_world.specs.Writing.{first_over}
use Rattle.zed_world.specs.Normal.{HasShortBody, IsWritable}
use Rattle.zed_world.proofs.Limits.{over_written, text_written, over_is_told}
use Rattle.zed_world.proofs.Writable.{all_writable}
use Rattle.zed_world.proofs.Rewritten.{written_canonical}
use Rattle.zed_world.proofs.WorldAgain.{short_within, written_back}
use Rattle.zed_world.proofs.writing.write_world.Goals as goal

pub within_limit-requires : goal.within_limit-requires
within_limit-requires c =
    subst (λ (bs : List BoardData). AllByRecursion IsWritable bs) (sym c.boards-boards.ensures.result) (all_writable (length c.args.world.now.boards) c.args.world.now.boards c.boards-boards.ensures.normal.boards)

pub text_of-requires-clause-writable : goal.text_of-requires-clause-writable
text_of-requires-clause-writable c =
    subst (λ (bs : List BoardData). AllByRecursion IsWritable bs) (sym c.boards-boards.ensures.result) (all_writable (length c.args.world.now.boards) c.args.world.now.boards c.boards-boards.ensures.normal.boards)

pub text_of-requires-clause-short : goal.text_of-requires-clause-short
text_of-requires-clause-short c = short_within c.args.limit 0 c.boards-boards.result.now c.requires c.in_ok-within_limit.ensures.result

pub returns-in_err-within_limit-clause-result : goal.returns-in_err-within_limit-clause-result
returns-in_err-within_limit-clause-result c =
    let p = err_from_is_err_and c.from_residual.result c.from_residual.ensures.1 in
    let e = c.in_err-within_limit.field-0.0 in
    let over = rw c.boards-boards.ensures.result at c.in_err-within_limit.ensures.over in
    rw (p.1, p.2) (inr (over_written c.args.limit c.args.world.now e over))

pub returns-in_err-within_limit-clause-memory_only_when : goal.returns-in_err-within_limit-clause-memory_only_when
returns-in_err-within_limit-clause-memory_only_when c =
    let p = err_from_is_err_and c.from_residual.result c.from_residual.ensures.1 in
    let e = c.in_err-within_limit.field-0.0 in
    rw (p.1, p.2) (λ m. absurd (over_is_told c.args.limit 0 c.boards-boards.result.now e c.in_err-within_limit.ensures.over m))

pub returns-clause-result : goal.returns-clause-result
returns-clause-result c =
    let within = rw c.boards-boards.ensures.result at c.in_ok-within_limit.ensures.result in
    let text = rw (c.header-header.ensures.result, c.boards-boards.ensures.result) at c.text_of.ensures.result in
    text_written c.args.limit c.args.world.now c.text_of.result within text c.text_of.ensures.err

pub returns-clause-back : goal.returns-clause-back
returns-clause-back c =
    written_back c.written_is_read.ensures.back c.args.limit c.args.world.now c.text_of.result c.requires c.boards-boards.ensures.normal (returns-clause-result c)

pub returns-clause-canonical : goal.returns-clause-canonical
returns-clause-canonical c =
    written_canonical c.written_is_read.ensures.back c.args.limit c.args.world.now c.text_of.result c.requires c.boards-boards.ensures.normal (returns-clause-result c)
