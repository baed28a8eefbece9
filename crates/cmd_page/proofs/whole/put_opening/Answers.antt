use Rattle.cmd_page.specs.Page.{opening}
use Rattle.cmd_page.proofs.whole.put_opening.Goals as goal

pub returns : goal.returns
unfolding opening
returns c = c.put_text.ensures
