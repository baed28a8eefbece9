-- What is read at a place of a table.
use Rattle.std.proofs.Common.{◌≡◌, ◌∙◌, ◌<◌, ℕ, List, length, get_or, Option, None, ap, sym}
use Rattle.std.proofs.Math.ListN.{get_or-map}
use Rattle.std.proofs.lemmas.List.{get_or_read_under}
use Rattle.zed_types.specs.declared.written.Written.{Written}
use Rattle.zed_types.specs.Register.{value_or}
use Rattle.zed_live.specs.Shown.{values_or}

-- the value of the register there
pub read_at : {V : Type 0} (v : V) (rs : List (Option (Written V))) (i n : ℕ) (x : Option (Written V)) → x ≡ get_or rs i x → i < n
    → n ≡ length rs
    → value_or v x ≡ get_or (values_or v rs) i v
read_at v rs i n x is l e = ap (value_or v) (get_or_read_under rs i n x None is l e) ∙ sym (get_or-map (value_or v) rs i None)
