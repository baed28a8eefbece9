-- Reading a table of elements row by row.
use Rattle.std.proofs.Common.{◌≡◌, ℕ, zero, suc, ◌<◌, ◌≤◌, List, [], ◌∷◌, length, refl, arith}
use Rattle.std.specs.Prelude.{slice_index_or}
use Rattle.zed_types.specs.declared.kind.Element.{Element}
use Rattle.zed_types.specs.Elements.{Row, IsRow, AreRows}

pub is_row-at : (es : List Element) (rs : List Row) (n : ℕ) (d : Element) (r : Row) → AreRows es rs → n < length es
    → IsRow (slice_index_or es n d) (slice_index_or rs n r)
is_row-at [] [] n d r a l = absurd (omega arith)
is_row-at (e ∷ es) (s ∷ rs) zero d r a l = a.0
is_row-at (e ∷ es) (s ∷ rs) (suc n) d r a l = is_row-at es rs n d r a.1 (omega arith)
is_row-at [] (s ∷ rs) n d r a l = absurd a
is_row-at (e ∷ es) [] n d r a l = absurd a

pub index-past : (rs : List Row) (n : ℕ) (r : Row) → length rs ≤ n → slice_index_or rs n r ≡ r
index-past [] n r l = refl
index-past (s ∷ rs) zero r l = absurd (omega arith)
index-past (s ∷ rs) (suc n) r l = index-past rs n r (omega arith)
