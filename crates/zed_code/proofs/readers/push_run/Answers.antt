use Rattle.std.proofs.Common.{rules, ◌≡◌, ◌+◌, ◌-◌, ◌++◌, ◌∷◌, [], vec_len, append_assoc, append-nil, sym, ap, ◌∙◌, arith}
use Rattle.zed_types.specs.Names.{byte_of}
use Rattle.zed_code.specs.Reading.{names_from}
use Rattle.zed_code.proofs.Names.{names-next}
use Rattle.zed_code.proofs.readers.push_run.Goals as goal

pub loop-i-preserved : goal.loop-i-preserved
loop-i-preserved c =
    let s = c.args.run.stamp in
    let n = c.args.run.first in
    let out = c.loop-i.out.items in
    let here = byte_of s (n + c.loop-i.i) in
    let rest = names_from s (n + (c.loop-i.i + 1)) (c.args.to - (c.loop-i.i + 1)) in
    let put : c.push.new.self.items ≡ out ++ c.name.result ∷ [] = search rules in
    let len : vec_len c.push.new.self ≡ vec_len c.loop-i.out + 1 = search rules in
    record {
      made =
          ap (λ xs. xs ++ rest) (put ∙ ap (λ x. out ++ x ∷ []) c.name.ensures)
          ∙ append_assoc out (here ∷ []) rest
          ∙ ap (λ xs. out ++ xs) (sym (names-next s n c.loop-i.i c.args.to c.loop-i-test.true)) ∙ c.loop-i.invariant.made;
      used = omega (arith, len, c.loop-i.invariant.used, c.loop-i-test.true);
      capacity = search rules;
    }
