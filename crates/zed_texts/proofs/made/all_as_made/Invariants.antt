use Rattle.std.proofs.Common.{◌≡◌, ◌++◌, drop}
use Rattle.std.specs.List.{AllByRecursion}
use Rattle.zed_texts.specs.Texts.{elements_of, named, IsUnworked, IsOpened}
use Rattle.zed_texts.proofs.made.all_as_made.Given as goal

-- what was made so far, with what is left to make, is the whole
abbrev pub invariant-loop-text : goal.invariant-loop-text
invariant-loop-text l = record {
  made : elements_of l.made.items ++ named (drop l.text-index l.texts) ≡ named l.texts;
  unworked : AllByRecursion (λ y. IsUnworked y.1) l.made.items;
  opened : AllByRecursion IsOpened (drop l.text-index l.texts);
}
