use Rattle.std.proofs.Common.{rules, ◌≡◌, Some, length, vec_len, refl, sym, ap, ◌∙◌, arith}
use Rattle.zed_code.proofs.Alive.{value_at, byte-there}
use Rattle.zed_code.proofs.LiveBytes.{run-told, byte-told}
use Rattle.zed_code.proofs.text.Text.byte_at.Goals as goal

pub overflow_add-run : goal.overflow_add-run
overflow_add-run c =
    let p = run-told c.self.inside.store.items c.self.inside.blocks.items c.deref.result.now _ c.args.self.now c.args.k c.live_at.result c.self.invariant.kept.each refl c.self.view_is c.deref.ensures.value c.live_at.ensures c.in-Some.run' c.in-Some.i (c.in-Some.is ∙ search rules) in
    let n : length c.self.inside.store.items ≡ vec_len c.self.inside.store = search rules in
    omega (arith, p.0.within, p.1, n, c.self.inside.store.ok.0, c.self.inside.store.ok.1, c.self.inside.store.small)

pub index-requires : goal.index-requires
index-requires c =
    let p = run-told c.self.inside.store.items c.self.inside.blocks.items c.deref.result.now _ c.args.self.now c.args.k c.live_at.result c.self.invariant.kept.each refl c.self.view_is c.deref.ensures.value c.live_at.ensures c.in-Some.run' c.in-Some.i (c.in-Some.is ∙ search rules) in
    let n : length c.self.inside.store.items ≡ vec_len c.self.inside.store = search rules in
    omega (arith, p.0.within, p.1, n)

pub returns-in-Some : goal.returns-in-Some
returns-in-Some c =
    let store = c.self.inside.store.items in
    let found : c.live_at.result ≡ Some (c.in-Some.run', c.in-Some.i) = c.in-Some.is ∙ search rules in
    let p = run-told store c.self.inside.blocks.items c.deref.result.now _ c.args.self.now c.args.k c.live_at.result c.self.invariant.kept.each refl c.self.view_is c.deref.ensures.value c.live_at.ensures c.in-Some.run' c.in-Some.i found in
    let told = byte-told store c.self.inside.blocks.items c.deref.result.now _ c.args.self.now c.args.k c.live_at.result c.self.invariant.kept.each refl c.self.view_is c.deref.ensures.value c.live_at.ensures in
    sym (told ∙ ap (value_at store) found ∙ byte-there store c.in-Some.run' c.in-Some.i c.index.result.now p.0 p.1 c.index.ensures)

pub returns-in-None : goal.returns-in-None
returns-in-None c =
    let store = c.self.inside.store.items in
    let told = byte-told store c.self.inside.blocks.items c.deref.result.now _ c.args.self.now c.args.k c.live_at.result c.self.invariant.kept.each refl c.self.view_is c.deref.ensures.value c.live_at.ensures in
    sym (told ∙ ap (value_at store) c.in-None.is)
