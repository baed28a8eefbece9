use Rattle.std.proofs.Common.{◌≡◌, take, true}
use Rattle.std.specs.List.{filter_map, list_all}
use Rattle.zed_plaintext.specs.Characters.{byte_of, is_known}
use Rattle.zed_plaintext.proofs.reading.spelled_program.Given as goal

abbrev pub invariant-loop-i : goal.invariant-loop-i
invariant-loop-i l = record {
  made : l.program.items ≡ filter_map byte_of (take l.i l.characters);
  known : list_all is_known (take l.i l.characters) ≡ true;
}
