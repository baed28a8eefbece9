use Rattle.std.proofs.Common.{◌∙◌}
use Rattle.clap.specs.Words.{found_of}
use Rattle.clap.proofs.WalkLemmas.{raw_values-rows}
use Rattle.zed_words.proofs.words.words_in.Goals as goal

pub returns-in_ok-from_slice-in-Some : goal.returns-in_ok-from_slice-in-Some
returns-in_ok-from_slice-in-Some c =
    let read = c.get_strs.ensures ∙ raw_values-rows (found_of c.args.matches.now) c.args.name.now in
    rw c.in_ok-from_slice-in-Some.ensures.items (rw c.in-Some.is at read)

pub returns-in-None : goal.returns-in-None
returns-in-None c =
    let read = c.get_strs.ensures ∙ raw_values-rows (found_of c.args.matches.now) c.args.name.now in
    rw c.in-None.is at read
