use Rattle.zed_tool_words.proofs.HelpWords.{alone, behind_commands}
use Rattle.zed_tool_words.proofs.laws.help_words.Goals as goal

pub returns-clause-alone : goal.returns-clause-alone
returns-clause-alone c = alone

pub returns-clause-commands : goal.returns-clause-commands
returns-clause-commands c = behind_commands
