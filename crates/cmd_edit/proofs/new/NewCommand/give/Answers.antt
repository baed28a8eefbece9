use Rattle.std.proofs.Common.{option_map}
use Rattle.std.proofs.lemmas.Result.{err_from_is_err_and}
use Rattle.zed_files.specs.Texts.{text_in}
use Rattle.cmd_edit.proofs.Making.{given_so, one_left, refused_so}
use Rattle.cmd_edit.proofs.new.NewCommand.give.Goals as goal

pub returns-clause-stands : goal.returns-clause-stands
returns-clause-stands c = λ first files is.
    let s = c.args.self.now in
    let more = rw is.2 at c.requires.next in
    let made = rw is.1 at c.in_ok-made.ensures in
    (is.0, is.1, is.2, is.3, given_so first.world (text_in first.from) files c.args.file (option_map (λ f. f.items) s.file) c.in_ok-made.made.items is.4 more made)

pub returns-in_err-made-clause-stands : goal.returns-in_err-made-clause-stands
returns-in_err-made-clause-stands c = λ first files is.
    let s = c.args.self.now in
    let p = err_from_is_err_and c.from_residual.result c.from_residual.ensures.1 in
    let more = rw is.2 at c.requires.next in
    rw (p.1, p.2) (refused_so first.out.now first.world (text_in first.from) (text_in first.name) files c.args.file (option_map (λ f. f.items) s.file) _ is.4 more c.in_err-made.ensures)

pub returns-clause-fewer : goal.returns-clause-fewer
returns-clause-fewer c =
    let s = c.args.self.now in one_left (text_in s.from) (option_map (λ f. f.items) s.file) c.requires.next
