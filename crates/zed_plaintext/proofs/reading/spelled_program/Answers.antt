use Rattle.std.proofs.Common.{◌≡◌, ◌∙◌, None, refl, sym, inr}
use Rattle.zed_plaintext.specs.Characters.{byte_of}
use Rattle.zed_plaintext.proofs.Lists.{spelled_bad}
use Rattle.zed_plaintext.proofs.reading.spelled_program.Goals as goal

pub returns-in_default : goal.returns-in_default
returns-in_default c =
    let x = c.index-characters-i.result in
    let none : byte_of x ≡ None = sym c.byte_of.ensures ∙ c.in_default.is in
    inr (
      c.place_behind.result,
      refl,
      spelled_bad c.args.characters.now c.loop-i.i x c.split_at.result.0.now c.place_behind.result
          c.loop-i-test.true c.index-characters-i.is none c.loop-i.invariant.known c.split_at.ensures.front c.place_behind.ensures,
    )
