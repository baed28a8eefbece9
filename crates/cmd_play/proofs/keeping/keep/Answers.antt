use Rattle.cmd_play.proofs.keeping.keep.Goals as goal

pub returns-in-Some-clause-half : goal.returns-in-Some-clause-half
returns-in-Some-clause-half g c = λ t at. rw c.in-Some.is (c.keep_in.ensures.half t at)
