use Rattle.zed_scene.proofs.scene.Scene.+push_within.Given as goal

abbrev pub decreases-push_within : goal.decreases-push_within
decreases-push_within l = l.reach
