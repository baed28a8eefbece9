-- Moves that come before what a source has.
use Rattle.std.proofs.Common.{◌≡◌, ◌∙◌, ◌+◌, ◌<◌, ◌++◌, ℕ, suc, false, get_or, length, ltb, List, [], ◌∷◌, Option, Some, None, ap, arith, drop, drop_of_length-le, inl, inr, map, refl, slice_get, subst, sym}
use Rattle.std.proofs.Math.Seq.{drop-cons}
use Rattle.std.proofs.lemmas.Bool.{ltb-false}
use Rattle.std.proofs.lemmas.Option.{get_or_from_slice_get, slice_get-get_or, slice_get_cases, slice_get_past, slice_get_within}
use Rattle.zed_terminal.specs.declared.input.Input.{Input}
use Rattle.zed_terminal.specs.declared.input.Input.TheVariants.{Kept}
use Rattle.zed_terminal.specs.declared.moves.Move.{Move}
use Rattle.zed_terminal.specs.Terminals.{Takes, behind_first, first_of}
use Rattle.zed_terminal.specs.Stage.{behind_kept}

-- these moves, and others behind them
abbrev before : List Move → List Input → List Input
before keys later = map (λ key. Kept key) keys ++ later

-- what a slice with the moves of a list has at a place
pub got : (kept keys : List Move) (k : ℕ) (key : Move) → keys ≡ kept → k < length keys → key ≡ get_or keys k key → slice_get kept k ≡ Some key
got kept keys k key e below is = subst (λ ks. slice_get ks k ≡ Some key) e (slice_get-get_or keys k key below ∙ ap (λ x. Some x) (sym is))

pub missed : (kept keys : List Move) (k : ℕ) → keys ≡ kept → false ≡ ltb k (length keys) → slice_get kept k ≡ None
missed kept keys k e past = subst (λ ks. slice_get ks k ≡ None) e (slice_get_past keys k (ltb-false k (length keys) (sym past)))

-- the next of the moves that were kept is taken
pub takes_kept : (kept : List Move) (taken : ℕ) (key : Move) (left : Option (List Input)) → slice_get kept taken ≡ Some key
    → Takes (Some (Kept key)) (behind_kept (drop taken kept) left) (behind_kept (drop (taken + 1) kept) left)
takes_kept kept taken key None is = (tt, refl)
takes_kept kept taken key (Some later) is =
    let first : drop taken kept ≡ key ∷ drop (suc taken) kept =
    drop-cons kept taken key (slice_get_within kept taken key is)
    ∙ ap (λ x. x ∷ drop (suc taken) kept) (get_or_from_slice_get kept taken key key is) in
    let same : suc taken ≡ taken + 1 = omega arith in
    let here : drop taken kept ≡ key ∷ drop (taken + 1) kept = first ∙ ap (λ n. key ∷ drop n kept) same in
    (sym (ap (λ ks. first_of (before ks later)) here), ap (λ ks. Some (behind_first (before ks later))) (sym here))

-- without any left it is as the source tells it
none_before : (left : Option (List Input)) → behind_kept [] left ≡ left
none_before None = refl
none_before (Some later) = refl

typed_next : (keys : List Move) (input : Option Input) (left left_then : Option (List Input)) → keys ≡ [] → Takes input left left_then
    → Takes input (behind_kept keys left) (behind_kept keys left_then)
typed_next keys input left left_then none takes =
    let old : left ≡ behind_kept keys left = sym (ap (λ ks. behind_kept ks left) none ∙ none_before left) in
    let new : left_then ≡ behind_kept keys left_then = sym (ap (λ ks. behind_kept ks left_then) none ∙ none_before left_then) in
    subst (λ l. Takes input l (behind_kept keys left_then)) old (subst (λ l. Takes input left l) new takes)

-- none is left behind the last
none_left : (kept : List Move) (taken : ℕ) → slice_get kept taken ≡ None → drop taken kept ≡ []
none_left kept taken is = elim (slice_get_cases kept taken).1 [
  | inl there ↦ absurd (let no : Some there.0 ≡ None = sym there.2 ∙ is in cc)
  | inr past ↦ drop_of_length-le kept past.0
]

-- the source's next is taken, once none of them is left
pub takes_typed : (kept : List Move) (taken : ℕ) (input : Option Input) (left left_then : Option (List Input)) → slice_get kept taken ≡ None
    → Takes input left left_then
    → Takes input (behind_kept (drop taken kept) left) (behind_kept (drop taken kept) left_then)
takes_typed kept taken input left left_then is takes = typed_next (drop taken kept) input left left_then (none_left kept taken is) takes
