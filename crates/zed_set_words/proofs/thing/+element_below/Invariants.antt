use Rattle.zed_set_words.proofs.thing.+element_below.Given as goal

abbrev pub decreases-element_below : goal.decreases-element_below
decreases-element_below l = l.n
