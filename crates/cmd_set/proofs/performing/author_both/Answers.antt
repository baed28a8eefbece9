use Rattle.std.proofs.Common.{◌≡◌, ◌∙◌, inl, sym}
use Rattle.std.proofs.lemmas.Result.{err_from_is_err_and}
use Rattle.cmd_set.proofs.Turns.{both_end, first_refused, second_leaves}
use Rattle.cmd_set.proofs.performing.author_both.Goals as goal

pub returns-in_err-author-clause-ends : goal.returns-in_err-author-clause-ends
returns-in_err-author-clause-ends c =
    let p = err_from_is_err_and c.from_residual.result c.from_residual.ensures.1 in
    let same : p.0 ≡ c.in_err-author.field-0.0 = p.2 in
    rw (p.1, same) (first_refused c.args.document.now c.args.replica c.args.first c.args.second c.in_err-author.field-0.0 c.in_err-author.ensures.ends)

pub returns-clause-ends : goal.returns-clause-ends
returns-clause-ends c =
    both_end c.args.document.now c.author.new.document c.args.replica c.args.first c.args.second c.author-2.result _
    c.in_ok-author.ensures.ends (c.in_ok-author.ensures.sound ∙ sym c.requires) c.author-2.ensures.ends

pub returns-clause-memory_only_when : goal.returns-clause-memory_only_when
returns-clause-memory_only_when c = λ lack. c.in_ok-author.ensures.left

pub returns-in_err-author-clause-kept : goal.returns-in_err-author-clause-kept
returns-in_err-author-clause-kept c =
    let p = err_from_is_err_and c.from_residual.result c.from_residual.ensures.1 in
    rw p.1 (inl c.in_err-author.ensures.kept)

pub returns-clause-kept : goal.returns-clause-kept
returns-clause-kept c =
    second_leaves c.args.document.now c.author.new.document c.args.replica c.args.first c.args.second c.author-2.result _ c.in_ok-author.ensures.ends c.author-2.ensures.kept
