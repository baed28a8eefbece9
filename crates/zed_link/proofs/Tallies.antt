-- Counts of lists one after the other, and how large they are.
use Rattle.std.proofs.Common.{◌≡◌, ◌++◌, ◌+◌, ◌≤◌, ℕ, Bool, cond, List, [], ◌∷◌, refl, sym, subst, arith, length}
use Rattle.std.specs.List.{count_by}
use Rattle.std.proofs.lemmas.List.Sums.{count_by-le-length, sum_by-append}
use Rattle.zed_op.specs.declared.op.Edit.{Edit}
use Rattle.zed_document.specs.declared.delivered.State.{State}
use Rattle.zed_op.specs.Set.{with_edit}
use Rattle.zed_link.specs.declared.pulled.Pulled.{Pulled}
use Rattle.zed_link.specs.Tally.{is_held, is_known, is_taken, plus, states, tally}

-- counts that are the same
pub same_counts : (p q : Pulled) → p.taken ≡ q.taken → p.held ≡ q.held → p.known ≡ q.known → p ≡ q
same_counts p q a b c =
    let make : ℕ → ℕ → ℕ → Pulled = λ t h k. record { taken = t; held = h; known = k } in
    let path : make p.taken p.held p.known ≡ make q.taken q.held q.known = rw (a, b, c) refl in path

count_by-append : {X : Type 0} (p : X → Bool) (xs ys : List X) → count_by p (xs ++ ys) ≡ count_by p xs + count_by p ys
count_by-append p xs ys = sum_by-append (λ x. cond (p x) 1 0) xs ys

-- the count of two lists
pub tally_more : (xs ys : List State) → tally (xs ++ ys) ≡ plus (tally xs) (tally ys)
tally_more xs ys = same_counts (tally (xs ++ ys)) (plus (tally xs) (tally ys)) (count_by-append is_taken xs ys) (count_by-append is_held xs ys) (count_by-append is_known xs ys)

pub length_states : (log es : List Edit) → length (states log es) ≡ length es
length_states log [] = refl
length_states log (e ∷ es) = let rest = length_states (with_edit e log) es in omega arith

-- each count is at most the length
pub record Below (p : Pulled) (n : ℕ) : Type 0 where
  pub taken : p.taken ≤ n
  pub held : p.held ≤ n
  pub known : p.known ≤ n

pub tally_below : (log es : List Edit) (p : Pulled) → p ≡ tally (states log es) → Below p (length es)
tally_below log es p is =
    let n = length_states log es in
    subst (λ q. Below q (length es)) (sym is) (record {
      taken = let le = count_by-le-length is_taken (states log es) in omega arith;
      held = let le = count_by-le-length is_held (states log es) in omega arith;
      known = let le = count_by-le-length is_known (states log es) in omega arith;
    })
