use Rattle.std.proofs.Common.{◌≡◌, map, take}
use Rattle.zed_export.specs.Fields.{place_among}
use Rattle.zed_export.proofs.numbers.places_of.Given as goal

-- the places of the names so far
abbrev pub invariant-loop-name : goal.invariant-loop-name
invariant-loop-name l = l.places.items ≡ map (place_among l.others) (take l.name-index l.names)
