use Rattle.std.proofs.Common.{◌≡◌, ◌++◌, take}
use Rattle.std.specs.List.{flat_map}
use Rattle.zed_look.specs.Glyphs.{glyph}
use Rattle.zed_look.proofs.glyphs.put_glyphs.Given as goal

abbrev pub invariant-loop-byte : goal.invariant-loop-byte
invariant-loop-byte l = l.out.items ≡ l.fn.out.items ++ flat_map glyph (take l.byte-index l.bytes)
