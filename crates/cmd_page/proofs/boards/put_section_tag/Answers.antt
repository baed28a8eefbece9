use Rattle.cmd_page.specs.Boards.{section_tag}
use Rattle.cmd_page.proofs.boards.put_section_tag.Goals as goal

pub returns : goal.returns
unfolding section_tag
returns c = c.put_text.ensures
