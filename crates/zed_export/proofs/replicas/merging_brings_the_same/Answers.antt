use Rattle.zed_export.proofs.Accepted.{associates, commutes, itself, repeats}
use Rattle.zed_export.proofs.replicas.merging_brings_the_same.Goals as goal

pub returns : goal.returns
returns c = record {
  commutative = commutes c.union_is_of_sets.ensures.agree c.union_is_of_sets.ensures.commutes;
  associative = associates c.sets_rise.ensures.union c.union_is_of_sets.ensures.agree c.union_is_of_sets.ensures.members c.union_is_of_sets.ensures.associates;
  idempotent = repeats c.union_is_of_sets.ensures.agree c.union_is_of_sets.ensures.members c.union_is_of_sets.ensures.own;
  itself = itself c.union_is_of_sets.ensures.own;
}
