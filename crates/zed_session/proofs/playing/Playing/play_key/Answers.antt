use Rattle.std.proofs.Common.{rules, ◌≡◌, Err}
use Rattle.zed_session.specs.declared.error.SessionError.TheVariants.{ScreenFault}
use Rattle.zed_session.proofs.playing.Playing.play_key.Goals as goal

-- the step stands, though it isn't shown
pub returns-in_err-show-clause-result : goal.returns-in_err-show-clause-result
returns-in_err-show-clause-result g c =
    let fault : c.from_residual-in_err-show.result ≡ Err ScreenFault = search rules in
    rw fault (c.in_ok-used.used, search rules)
