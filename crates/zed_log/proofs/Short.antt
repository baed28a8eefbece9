-- Short lines.
use Rattle.std.proofs.Common.{◌≡◌, ℕ, true, false, List, [], ◌∷◌, ◌++◌, length, get_or, drop, codes, refl, sym, ap, ◌∙◌, append_assoc, arith}
use Rattle.zed_op.specs.declared.op.Op.{Op}
use Rattle.zed_op.specs.declared.op.Op.TheVariants.{Genesis}
use Rattle.zed_op.specs.declared.op.Edit.{Edit}
use Rattle.zed_log.specs.declared.length.Length.TheVariants.{Short}
use Rattle.zed_log.specs.Fields.{number, quoted}
use Rattle.zed_log.specs.Line.{op_text, short_op, text_at}
use Rattle.zed_log.specs.Laws.{IsNoLineInFull, IsShortAsItIs, makes_world}
use Rattle.zed_log.proofs.Codes.{led}
use Rattle.zed_log.proofs.Numerals.{number_code}
use Rattle.zed_log.proofs.Ops.{line_parts, op_kind_at, parts_at, stamp_text_code}

same_op : (op : Op) → makes_world op ≡ false → short_op op ≡ op_text op
same_op (Genesis s) h = absurd cc
same_op op h = refl

pub as_it_is : (e : Edit) → IsShortAsItIs e
unfolding text_at
as_it_is e h = ap (λ (t : List ℕ). number e.stamp.time ++ 32 ∷ number e.stamp.replica ++ (codes "  " ++ t) ++ 10 ∷ []) (same_op e.op h)

-- where the bytes would begin, two dots are no quote
short_world : (s : List ℕ) (op : Op) → short_op (Genesis s) ++ 10 ∷ [] ≡ op_text op ++ 10 ∷ [] → ⊥
unfolding quoted
short_world s (Genesis t) h =
    let left = append_assoc (codes "genesis " ++ number (length s)) (codes " bytes ..") (10 ∷ []) in
    let right =
    append_assoc ((codes "genesis " ++ number (length t)) ++ codes " bytes ") (quoted t) (10 ∷ [])
    ∙ append_assoc (codes "genesis " ++ number (length t)) (codes " bytes ") (quoted t ++ 10 ∷ []) in
    let r = led (codes "genesis ") number number_code (length s) (length t) (codes " bytes .." ++ 10 ∷ []) (codes " bytes " ++ (quoted t ++ 10 ∷ [])) refl refl (sym left ∙ h ∙ right) in
    absurd (omega (arith, ap (λ (l : List ℕ). get_or l 7 0) r.1))
short_world s op h = absurd (omega (arith, ap op_kind_at h))

no_world : (op other : Op) → makes_world op ≡ true → short_op op ++ 10 ∷ [] ≡ op_text other ++ 10 ∷ [] → ⊥
no_world (Genesis s) other w h = short_world s other h
no_world op other w h = absurd cc

pub no_line_in_full : (e f : Edit) → IsNoLineInFull e f
no_line_in_full e f w h =
    let parts = sym (parts_at Short e []) ∙ ap (λ (l : List ℕ). l ++ []) h ∙ line_parts f [] in
    let r = stamp_text_code (e.stamp.time, e.stamp.replica) (f.stamp.time, f.stamp.replica) (codes "  " ++ (short_op e.op ++ (10 ∷ []))) (codes "  " ++ (op_text f.op ++ (10 ∷ []))) refl refl parts in
    no_world e.op f.op w (ap (drop 2) r.1)
