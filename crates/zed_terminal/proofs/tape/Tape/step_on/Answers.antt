use Rattle.std.proofs.Common.{◌≡◌, ◌∙◌, ◌++◌, [], ◌∷◌, ap, drop}
use Rattle.zed_terminal.specs.declared.moves.Move.TheVariants.{Key}
use Rattle.zed_terminal.specs.Course.{next_by, over_step, point}
use Rattle.zed_terminal.specs.Overlaid.{or_other}
use Rattle.zed_terminal.proofs.Stepping.{point_is}
use Rattle.zed_terminal.proofs.tape.Tape.step_on.Goals as goal

-- the step is made, and leads on
pub returns-clause-ok : goal.returns-clause-ok
returns-clause-ok g c =
    let made = c.supply.new.self in
    let words = c.in_ok-keep.ensures.words ∙ c.go_on.ensures.words in
    let used = c.in_ok-keep.ensures.used ∙ c.go_on.ensures.used in
    let next = c.in_ok-next.ensures.next ∙ ap (λ way. next_by (g.A.Atlas.world c.args.atlas.now) way made.play.ending made.play) c.way-way.ensures.result in (
      point made,
      c.in_ok-supply.ensures.ok,
      point_is c.keep.new.self _ _ _ _ _ _
          (c.in_ok-keep.ensures.play ∙ c.go_on.ensures.play ∙ ap (λ n. or_other n made.play) next)
          (c.in_ok-keep.ensures.overlay ∙ c.go_on.ensures.overlay ∙ ap (λ n. over_step n made.play) next)
          (c.in_ok-keep.ensures.keys ∙ ap (λ ks. ks.items ++ Key c.args.key ∷ []) (c.go_on.ensures.keys ∙ c.in_ok-supply.ensures.keys))
          (ap (λ ws. ws.items) words)
          (ap (λ n. drop n c.keep.new.self.words.items) used ∙ ap (λ ws. drop made.used ws.items) words)
          (c.in_ok-keep.ensures.size ∙ c.go_on.ensures.size ∙ c.in_ok-supply.ensures.size),
    )
