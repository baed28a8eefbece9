use Rattle.cmd_page.specs.Page.{style}
use Rattle.cmd_page.proofs.whole.put_style.Goals as goal

pub returns : goal.returns
unfolding style
returns c = c.put_text.ensures
