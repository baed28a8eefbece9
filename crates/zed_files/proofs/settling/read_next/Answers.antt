use Rattle.zed_files.proofs.settling.read_next.Goals as goal

pub returns-in-Ok-clause-took : goal.returns-in-Ok-clause-took
returns-in-Ok-clause-took c = λ es fit came. let k = c.in-Ok.ensures.took es fit came in (c.in-Ok.fault, k.0, k.1, k.2, c.stop_at.ensures)
