-- One text more is written.
use Rattle.std.proofs.Common.{◌≡◌, ◌∙◌, ◌+◌, suc, take, set, get_or, ap, arith}
use Rattle.std.proofs.lemmas.List.{get_or-set_other}
use Rattle.zed_types.specs.Register.{keep_later, written_at}
use Rattle.zed_live.specs.Header.{write_each}
use Rattle.zed_live.proofs.Tables.{write_each-more}
use Rattle.zed_live.proofs.properties.write_texts.Goals as goal

pub loop-i-preserved : goal.loop-i-preserved
loop-i-preserved c =
    let s = c.args.stamp in
    let vs = c.args.values.now in
    let rs = c.args.slots.now in
    let i = c.loop-i.i in
    let r0 = c.index-slots-i.result in
    let v = c.index-values-i.result in
    let there : get_or c.loop-i.values i v ≡ get_or vs i v = c.loop-i.invariant.rest i v (omega arith) in
    let kept =
    c.keep_in.ensures
    ∙ ap (λ x. keep_later (get_or c.loop-i.slots i r0) (written_at s x)) (c.taken_out-value.ensures ∙ there) in
    let one : suc i ≡ i + 1 = omega arith in
    record {
      slots =
          ap (λ r. set c.loop-i.slots i r) kept
          ∙ ap (λ xs. set xs i (keep_later (get_or xs i r0) (written_at s (get_or vs i v)))) c.loop-i.invariant.slots
          ∙ write_each-more s vs rs i v r0 (omega arith) (omega arith)
          ∙ ap (λ n. write_each s (take n vs) rs) one;
      rest = λ j d le. get_or-set_other c.loop-i.values i j _ d (omega arith) ∙ c.loop-i.invariant.rest j d (omega arith);
    }
