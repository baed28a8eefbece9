-- The skip rule where no byte is of a later edit, and deletions over two parts of a text.
use Rattle.std.proofs.Common.{◌≡◌, List, [], ◌∷◌, ◌++◌, Option, Some, None, refl, ap, sym, append-nil}
use Rattle.zed_types.specs.declared.stamp.Stamp.{Stamp}
use Rattle.zed_types.specs.declared.names.ElemId.{ElemId}
use Rattle.zed_types.specs.declared.text.ByteRange.{ByteRange}
use Rattle.zed_types.specs.declared.text.TextByte.{TextByte}
use Rattle.zed_types.specs.Text.{NoneLater, behind, kill, kill_within, pass_later, put_after, put_late}

pub pass_later-none : (s : Stamp) (e xs : List TextByte) → NoneLater s xs → pass_later s e xs ≡ e ++ xs
pass_later-none s e [] n = sym (append-nil e)
pass_later-none s e (x ∷ xs) n = rw (n.0)

behind-none_later : (s : Stamp) (e : List TextByte) (p : ElemId) (xs : List TextByte) → NoneLater s xs
    → behind p (pass_later s e) xs ≡ behind p (λ rest. e ++ rest) xs
behind-none_later s e p [] n = refl
behind-none_later s e p (x ∷ xs) n = rw (pass_later-none s e xs n.1, behind-none_later s e p xs n.1)

pub put_late-none_later : (s : Stamp) (e : List TextByte) (p : Option ElemId) (xs : List TextByte) → NoneLater s xs
    → put_late p s e xs ≡ put_after p e xs
put_late-none_later s e None xs n = pass_later-none s e xs n
put_late-none_later s e (Some p) xs n = behind-none_later s e p xs n

pub kill-append : (x : ByteRange) (xs ys : List TextByte) → kill x (xs ++ ys) ≡ kill x xs ++ kill x ys
kill-append x [] ys = refl
kill-append x (e ∷ xs) ys = ap (λ rest. kill_within x e ∷ rest) (kill-append x xs ys)
