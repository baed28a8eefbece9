-- What `clap` makes of `--help` and of `--version`.
use Rattle.std.proofs.Common.{refl}
use Rattle.clap.proofs.OnLiterals.{clap_on_literals}
use Rattle.zed_tool_words.specs.Laws.{HelpAsksHelp, HelpOfCommands, VersionAsksVersion}

pub alone : HelpAsksHelp
unfolding clap_on_literals
alone = refl

pub behind_commands : HelpOfCommands
unfolding clap_on_literals
behind_commands = (refl, refl, refl, refl, refl, refl, refl, refl, refl, refl, refl, refl)

pub version : VersionAsksVersion
unfolding clap_on_literals
version = refl
