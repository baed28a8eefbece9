use Rattle.std.proofs.Common.{◌∙◌, sym, subst}
use Rattle.std.specs.List.{AllByRecursion}
use Rattle.zed_texts.specs.Texts.{IsOpened}
use Rattle.zed_texts.proofs.WorldTexts.{texts-made, texts-opened}
use Rattle.zed_texts.proofs.texts.LiveTexts.open.Goals as goal

pub add_made-requires : goal.add_made-requires
add_made-requires c =
    let made = c.requires.made ∙ texts-made c.args.edit.now in
    record { opened = subst (AllByRecursion IsOpened) (sym made) (texts-opened c.read_is_normal.ensures c.args.edit.now c.requires.fits) }
