use Rattle.std.proofs.Common.{rules, ◌≡◌, Some, refl, sym, ap, ◌∙◌, arith}
use Rattle.zed_code.proofs.Alive.{name_at}
use Rattle.zed_code.proofs.LiveBytes.{run-told, name-told}
use Rattle.zed_code.proofs.text.Text.elem_at.Goals as goal

pub name-requires : goal.name-requires
name-requires c =
    let p = run-told c.self.inside.store.items c.self.inside.blocks.items c.deref.result.now _ c.args.self.now c.args.k c.live_at.result c.self.invariant.kept.each refl c.self.view_is c.deref.ensures.value c.live_at.ensures c.in-Some.run' c.in-Some.i (c.in-Some.is ∙ search rules) in
    omega (arith, p.0.numbered, p.1)

pub returns-in-Some : goal.returns-in-Some
returns-in-Some c =
    let found : c.live_at.result ≡ Some (c.in-Some.run', c.in-Some.i) = c.in-Some.is ∙ search rules in
    let told = name-told c.self.inside.store.items c.self.inside.blocks.items c.deref.result.now _ c.args.self.now c.args.k c.live_at.result c.self.invariant.kept.each refl c.self.view_is c.deref.ensures.value c.live_at.ensures in
    sym (told ∙ ap name_at found ∙ ap Some (sym c.name.ensures))

pub returns-in-None : goal.returns-in-None
returns-in-None c =
    let told = name-told c.self.inside.store.items c.self.inside.blocks.items c.deref.result.now _ c.args.self.now c.args.k c.live_at.result c.self.invariant.kept.each refl c.self.view_is c.deref.ensures.value c.live_at.ensures in
    sym (told ∙ ap name_at c.in-None.is)
