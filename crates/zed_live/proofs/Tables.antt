-- Tables of registers after writes.
use Rattle.std.proofs.Common.{◌≡◌, ℕ, zero, suc, ◌<◌, Bool, true, false, cond, List, [], ◌∷◌, length, take, set, get_or, eqb, ltb, Option, Some, None, refl, ap, ◌∙◌, arith}
use Rattle.std.proofs.lemmas.Bool.{eqb-true}
use Rattle.zed_types.specs.declared.stamp.Stamp.{Stamp}
use Rattle.zed_types.specs.declared.written.Written.{Written}
use Rattle.zed_types.specs.Register.{keep_later, written_at}
use Rattle.zed_laws.specs.Registers.{overwritten, kept_after}
use Rattle.zed_laws.specs.Fields.{if_at}
use Rattle.zed_laws.proofs.Found.{written-at}
use Rattle.zed_cells.specs.Writes.{register, set_register}
use Rattle.zed_live.specs.Header.{write_each}

-- one register more
pub write_each-more : {V : Type 0} (s : Stamp) (vs : List V) (rs : List (Option (Written V))) (i : ℕ) (d : V) (r0 : Option (Written V))
    → i < length vs → length vs ≡ length rs
    → set (write_each s (take i vs) rs) i (keep_later (get_or (write_each s (take i vs) rs) i r0) (written_at s (get_or vs i d)))
    ≡ write_each s (take (suc i) vs) rs
write_each-more s [] rs i d r0 h e = absurd (omega arith)
write_each-more s (v ∷ vs) [] i d r0 h e = absurd (omega arith)
write_each-more s (v ∷ vs) (r ∷ rs) zero d r0 h e = refl
write_each-more s (v ∷ vs) (r ∷ rs) (suc i) d r0 h e =
    ap (λ xs. keep_later r (written_at s v) ∷ xs) (write_each-more s vs rs i d r0 (omega arith) (omega arith))

-- what stands at each place
pub write_each-at : {V : Type 0} (s : Stamp) (vs : List V) (rs : List (Option (Written V))) (i : ℕ) (d : V) → i < length vs
    → length vs ≡ length rs
    → register i (write_each s vs rs) ≡ keep_later (register i rs) (written_at s (get_or vs i d))
write_each-at s [] rs i d h e = absurd (omega arith)
write_each-at s (v ∷ vs) [] i d h e = absurd (omega arith)
write_each-at s (v ∷ vs) (r ∷ rs) zero d h e = refl
write_each-at s (v ∷ vs) (r ∷ rs) (suc i) d h e = write_each-at s vs rs i d (omega arith) (omega arith)

pub write_each-length : {V : Type 0} (s : Stamp) (vs : List V) (rs : List (Option (Written V))) → length (write_each s vs rs) ≡ length rs
write_each-length s [] rs = refl
write_each-length s (v ∷ vs) [] = refl
write_each-length s (v ∷ vs) (r ∷ rs) = ap suc (write_each-length s vs rs)

-- register i of a table of n after a write into register j
pub set_register-at : {V : Type 0} (s : Stamp) (v : V) (rs : List (Option (Written V))) (n i j : ℕ) → length rs ≡ n → ltb i n ≡ true
    → register i (set_register j (written_at s v) rs) ≡ kept_after s (register i rs) (if_at i j v)
set_register-at s v rs n i j e h = written-at None rs n i j (keep_later (register j rs) (written_at s v)) e h ∙ go (eqb j i) refl
  where
    go : (b : Bool) → eqb j i ≡ b
        → overwritten (register i rs) (cond b (Some (keep_later (register j rs) (written_at s v))) None)
        ≡ kept_after s (register i rs) (cond b (Some v) None)
    go true b = let same : j ≡ i = eqb-true j i b in ap (λ k. keep_later (register k rs) (written_at s v)) same
    go false b = refl
