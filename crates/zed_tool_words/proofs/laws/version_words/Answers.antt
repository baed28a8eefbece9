use Rattle.zed_tool_words.proofs.HelpWords.{version}
use Rattle.zed_tool_words.proofs.laws.version_words.Goals as goal

pub returns : goal.returns
returns c = version
