use Rattle.zed_view.proofs.TextsAlike.{texts_alike}
use Rattle.zed_view.proofs.same.things.LiveTextsListed.is_same_at.Goals as goal

pub returns : goal.returns
returns c =
    let both = texts_alike c.args.self.now c.args.other.now c.args.i c.at.result.0 c.at-2.result.0 c.at.result.1.now c.at-2.result.1.now c.at.ensures c.at-2.ensures in (
      λ t. both.0 (c.text_same.ensures.0 t),
      λ e. c.text_same.ensures.1 (both.1 e),
    )
