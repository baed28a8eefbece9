use Rattle.std.proofs.Common.{is_err, refl}
use Rattle.zed_program.proofs.Endings.{complained}
use Rattle.zed_program.proofs.program.tell_words.Goals as goal

pub returns-in-Memory-clause-told : goal.returns-in-Memory-clause-told
returns-in-Memory-clause-told g c = λ t at.
    rw c.in-Memory.is (_, (refl, refl), complained c.complain.result _ _ _ t _ _ at (rw at at c.complain.ensures.complained) c.complain.ensures.half c.complain.ensures.faults)

pub returns-in-Memory-clause-asked : goal.returns-in-Memory-clause-asked
returns-in-Memory-clause-asked g c = rw c.in-Memory.is (_, (refl, refl), (is_err c.complain.result, c.complain.ensures.asked))
