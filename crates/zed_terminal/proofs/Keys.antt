-- What bytes come to, read one after the other.
use Rattle.std.proofs.Common.{◌≡◌, ◌∙◌, ℕ, List, [], ◌∷◌, Option, Some, None, ap, refl, sym, subst}
use Rattle.std.specs.Prelude.{IfSome}
use Rattle.zed_terminal.specs.declared.input.Input.{Input}
use Rattle.zed_terminal.specs.declared.typing.Reading.{Reading}
use Rattle.zed_terminal.specs.declared.typing.Reading.TheVariants.{Over}
use Rattle.zed_terminal.specs.Terminals.{Takes, first_of, without_first}
use Rattle.zed_terminal.specs.Typing.{inputs_in, inputs_left, typed, with_input}

-- once they are over nothing comes
over_none : (bytes : List ℕ) → inputs_in Over bytes ≡ []
over_none [] = refl
over_none (b ∷ bytes) = over_none bytes

pub over_takes : (told : Option (List ℕ)) (inputs : Option (List Input)) → inputs_left Over told ≡ inputs
    → Takes None inputs (inputs_left Over told)
over_takes None inputs is = (subst (λ k. IfSome k (λ ks. None ≡ first_of ks)) is tt, ap without_first is)
over_takes (Some bytes) inputs is =
    let none : inputs_left Over (Some bytes) ≡ Some [] = ap (λ ks. Some ks) (over_none bytes) in
    (subst (λ k. IfSome k (λ ks. None ≡ first_of ks)) is (ap first_of (sym (over_none bytes))), none ∙ ap without_first (sym none ∙ is))

-- a byte was taken that completes nothing
pub goes_on : (r : Reading) (b : ℕ) (old new : Option (List ℕ)) → Takes (Some b) old new → (typed r b).input ≡ None
    → inputs_left (typed r b).reading new ≡ inputs_left r old
goes_on r b None new takes is = ap (inputs_left (typed r b).reading) takes.1
goes_on r b (Some []) new takes is = absurd (let no : Some b ≡ None = takes.0 in cc)
goes_on r b (Some (c ∷ cs)) new takes is =
    let first : Some b ≡ Some c = takes.0 in
    let same : b ≡ c = cc in
    ap (inputs_left (typed r b).reading) takes.1
    ∙ ap (λ i. Some (with_input i (inputs_in (typed r b).reading cs))) (sym is)
    ∙ ap (λ x. Some (with_input (typed r x).input (inputs_in (typed r x).reading cs))) same

-- a byte was taken that completes this
pub comes : (r : Reading) (b : ℕ) (input : Input) (old new : Option (List ℕ)) → Takes (Some b) old new → (typed r b).input ≡ Some input
    → Takes (Some input) (inputs_left r old) (inputs_left (typed r b).reading new)
comes r b input None new takes is = (tt, ap (inputs_left (typed r b).reading) takes.1)
comes r b input (Some []) new takes is = absurd (let no : Some b ≡ None = takes.0 in cc)
comes r b input (Some (c ∷ cs)) new takes is =
    let first : Some b ≡ Some c = takes.0 in
    let same : b ≡ c = cc in
    let whole : inputs_left r (Some (c ∷ cs)) ≡ Some (input ∷ inputs_in (typed r b).reading cs) =
    ap (λ x. Some (with_input (typed r x).input (inputs_in (typed r x).reading cs))) (sym same) ∙ ap (λ t. Some (with_input t (inputs_in (typed r b).reading cs))) is in
    let rest : inputs_left (typed r b).reading new ≡ Some (inputs_in (typed r b).reading cs) =
    ap (inputs_left (typed r b).reading) takes.1 in
    subst (λ l. Takes (Some input) l (inputs_left (typed r b).reading new)) (sym whole) (refl, rest)

-- no byte was left
pub none_comes : (r : Reading) (old new : Option (List ℕ)) → Takes None old new → Takes None (inputs_left r old) (inputs_left r new)
none_comes r None new takes = (tt, ap (inputs_left r) takes.1)
none_comes r (Some []) new takes = (refl, ap (inputs_left r) takes.1)
none_comes r (Some (c ∷ cs)) new takes = absurd (let no : None ≡ Some c = takes.0 in cc)
