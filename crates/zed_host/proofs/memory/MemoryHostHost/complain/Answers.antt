use Rattle.std.proofs.Common.{inl, refl, rules}
use Rattle.zed_host.specs.Memory.{contents_of}
use Rattle.zed_host.proofs.memory.MemoryHostHost.complain.Goals as goal

-- nothing changed
pub returns-in-Err-clause-half : goal.returns-in-Err-clause-half
returns-in-Err-clause-half c = (contents_of c.args.self.now, inl refl, search rules)
