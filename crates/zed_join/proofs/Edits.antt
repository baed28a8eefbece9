-- Edits that are walked, and those of them that another set has.
use Rattle.std.proofs.Common.{◌≡◌, ◌∙◌, ℕ, ◌+◌, ◌<◌, Bool, true, false, cond, List, [], ◌∷◌, ◌++◌, ap, drop, length, refl, sym, add-one, append_assoc}
use Rattle.std.specs.Prelude.{slice_index_or}
use Rattle.zed_op.specs.declared.op.Edit.{Edit}
use Rattle.zed_history.proofs.Walks.{drop-item}
use Rattle.zed_sides.specs.Sides.{common}
use Rattle.zed_join.specs.Sides.{has_stamp}

-- an edit that was looked at: its copy, if the other set has it, with those of the rest, are all as before
pub one_looked : (es fs : List Edit) (i : ℕ) (e : Edit) (old new all : List Edit) → i < length es → e ≡ slice_index_or es i e
    → old ++ common (drop i es) fs ≡ all → new ≡ cond (has_stamp fs e.stamp) (old ++ e ∷ []) old
    → new ++ common (drop (i + 1) es) fs ≡ all
one_looked es fs i e old new all within is was put = go (has_stamp fs e.stamp) refl put
  where
    rest : List Edit
    rest = common (drop (i + 1) es) fs

    cut : drop i es ≡ e ∷ drop (i + 1) es
    cut = drop-item es i e within is ∙ ap (λ k. e ∷ drop k es) (sym (add-one i))

    split : (b : Bool) → has_stamp fs e.stamp ≡ b → old ++ cond b (e ∷ rest) rest ≡ all
    split b has = ap (λ c. old ++ cond c (e ∷ rest) rest) (sym has) ∙ ap (λ l. old ++ common l fs) (sym cut) ∙ was

    go : (b : Bool) → has_stamp fs e.stamp ≡ b → new ≡ cond b (old ++ e ∷ []) old → new ++ rest ≡ all
    go true has put = ap (λ l. l ++ rest) put ∙ append_assoc old (e ∷ []) rest ∙ split true has
    go false has put = ap (λ l. l ++ rest) put ∙ split false has
