use Rattle.std.proofs.Common.{◌≡◌, ◌∙◌, Ok, Err, MatchResult, map, refl, subst, sym, inl}
use Rattle.std.specs.Prelude.{◌⊎◌}
use Rattle.std.proofs.lemmas.Result.{err_from_is_err_and}
use Rattle.zed_driver.specs.declared.command.Stop.TheVariants.{Memory}
use Rattle.zed_files.specs.Gathers.{GathersTo}
use Rattle.zed_files.specs.Texts.{texts_of}
use Rattle.zed_files.proofs.Gathers.{all_read}
use Rattle.zed_files.proofs.Tells.{told}
use Rattle.zed_files.proofs.telling.OfFilesCommand.finish.Goals as goal

pub tell-requires : goal.tell-requires
tell-requires g c = c.in_ok-document.ensures.sound c.requires.stands.1 c.requires.stands.2.3

pub returns : goal.returns
returns g c = record {
  comes = λ first files is.
      let s = c.args.self.now in
      let all = all_read (texts_of s.names.now) files s.count s.refusal c.requires.next is.2 in
      let set = c.in_ok-document.ensures.set files is.3 all in
      let es = c.in_ok-document.document.edits in
      told (g.T.Telling.tells first.telling) (texts_of first.names.now) files es c.tell.result
      (subst (λ n. GathersTo (texts_of n.now) files (Ok es)) is.0 set)
      (subst (λ t. MatchResult c.tell.result (λ x. g.T.Telling.tells t es ≡ Ok x) (λ e. (e ≡ Memory) ⊎ (g.T.Telling.tells t es ≡ Err e))) (c.settle.ensures.telling ∙ is.1) c.tell.ensures);
}

pub returns-in_err-document : goal.returns-in_err-document
returns-in_err-document g c = record {
  comes = λ first files is.
      let s = c.args.self.now in
      let p = err_from_is_err_and c.from_residual.result c.from_residual.ensures.1 in
      let all = all_read (texts_of s.names.now) files s.count s.refusal c.requires.next is.2 in
      let set = c.in_err-document.ensures.set files is.3 all in
      rw p.1 (inl (Err p.0, subst (λ n. GathersTo (texts_of n.now) files (Err p.0)) is.0 (subst (λ e. GathersTo (texts_of s.names.now) files (Err e)) (sym p.2) set), refl));
}
