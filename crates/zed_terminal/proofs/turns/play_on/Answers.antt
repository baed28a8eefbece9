use Rattle.std.proofs.Common.{◌≡◌, ◌∙◌, true, sym}
use Rattle.zed_terminal.proofs.Turning.{one_more}
use Rattle.zed_terminal.proofs.turns.play_on.Goals as goal

pub loop-preserved : goal.loop-preserved
loop-preserved g c =
    let old = c.loop.invariant in
    let played : c.in_ok-turn.field-0 ≡ true = c.if-not-branch.false in
    let going = sym c.is_over.ensures ∙ c.if-is_over.false in
    record {
      plays = one_more (g.A.Atlas.world c.args.atlas.now) c.loop.counter c.in_ok-turn.field-0 _ _ _ old.plays going played c.in_ok-turn.ensures.turns;
      within = c.in_ok-turn.ensures.within;
      keys = c.in_ok-turn.ensures.key_faults ∙ old.keys;
      screen = c.in_ok-turn.ensures.screen_faults ∙ old.screen;
      left = c.in_ok-turn.ensures.left ∙ old.left;
      calm = c.in_ok-turn.ensures.calm (λ is. cc) ∙ old.calm;
    }
