use Rattle.zed_host.proofs.Logs.{logged_each}
use Rattle.zed_host.proofs.logged.calls_are_logged.Goals as goal

pub returns : goal.returns
returns g c = logged_each _ _ (λ old call new is. is.1)
