use Rattle.std.proofs.Common.{Err, Ok, subst}
use Rattle.std.proofs.lemmas.Result.{err_from_is_err_and}
use Rattle.zed_files.specs.Texts.{text_in}
use Rattle.zed_driver.specs.declared.command.Stop.TheVariants.{Memory}
use Rattle.cmd_edit.specs.Fresh.{NewComes}
use Rattle.cmd_edit.proofs.Making.{finished_so, lack_so, written_so}
use Rattle.cmd_edit.proofs.new.NewCommand.finish.Goals as goal

pub returns : goal.returns
returns c = record {
  comes = λ first files is.
      let s = c.args.self.now in
      let none = rw is.2 at c.requires.next in
      let held = rw (c.take.ensures.value, is.1) at c.in_ok-file.ensures in
      let file = finished_so first.out.now first.world (text_in first.from) (text_in s.name) files s.file (Ok c.in_ok-file.file) is.4 none held in
      let effect = rw is.0 at c.in_ok-written_to.ensures in
      subst (λ n. NewComes first.out.now first.world (text_in first.from) (text_in n) files (Ok c.in_ok-written_to.field-0)) is.3
      (written_so first.out.now first.world (text_in first.from) (text_in s.name) files c.in_ok-file.file.items c.in_ok-written_to.field-0 file effect);
}

pub returns-in_err-file : goal.returns-in_err-file
returns-in_err-file c = record {
  comes = λ first files is.
      let s = c.args.self.now in
      let p = err_from_is_err_and c.from_residual.result c.from_residual.ensures.1 in
      let none = rw is.2 at c.requires.next in
      let held = rw c.take.ensures.value at c.in_err-file.ensures in
      rw (p.1, p.2) (subst (λ n. NewComes first.out.now first.world (text_in first.from) (text_in n) files (Err c.in_err-file.field-0.0)) is.3
      (finished_so first.out.now first.world (text_in first.from) (text_in s.name) files s.file (Err c.in_err-file.field-0.0) is.4 none held));
}

pub returns-in_err-written_to : goal.returns-in_err-written_to
returns-in_err-written_to c = record {
  comes = λ first files is.
      let s = c.args.self.now in
      let p = err_from_is_err_and c.from_residual-in_err-written_to.result c.from_residual-in_err-written_to.ensures.1 in
      let none = rw is.2 at c.requires.next in
      let held = rw (c.take.ensures.value, is.1) at c.in_ok-file.ensures in
      let file = finished_so first.out.now first.world (text_in first.from) (text_in s.name) files s.file (Ok c.in_ok-file.file) is.4 none held in
      rw (p.1, p.2) (subst (λ n. NewComes first.out.now first.world (text_in first.from) (text_in n) files (Err Memory)) is.3
      (lack_so first.out.now first.world (text_in first.from) (text_in s.name) files c.in_ok-file.file.items file));
}
