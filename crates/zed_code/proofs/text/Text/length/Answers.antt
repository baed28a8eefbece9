use Rattle.std.proofs.Common.{length, refl, sym, ap, ◌∙◌}
use Rattle.zed_types.specs.Text.{alive_bytes}
use Rattle.zed_code.specs.Blocks.{runs_of}
use Rattle.zed_code.specs.Reading.{live}
use Rattle.zed_code.proofs.PutBytes.{shown}
use Rattle.zed_code.proofs.Alive.{live-bytes}
use Rattle.zed_code.proofs.text.Text.length.Goals as goal

pub returns : goal.returns
returns c =
    let runs = runs_of c.self.inside.blocks.items in
    c.count_live.ensures ∙ ap (λ bs. live (runs_of bs)) c.deref.ensures.value ∙ sym (live-bytes c.self.inside.store.items runs c.self.invariant.kept.each)
    ∙ ap (λ xs. length (alive_bytes xs)) (sym (shown c.self.inside.store.items runs _ c.args.self.now refl c.self.view_is))
