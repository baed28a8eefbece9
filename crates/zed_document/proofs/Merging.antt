-- The laws of merging.
use Rattle.std.proofs.Common.{List, ◌++◌, refl, ap, sym, inl, inr}
use Rattle.std.specs.List.{Contains}
use Rattle.std.proofs.lemmas.List.Elements.{Contains-append_right, Contains-append_cases}
use Rattle.zed_op.specs.declared.op.Edit.{Edit}
use Rattle.zed_op.specs.Set.{Agrees, IsRising, union}
use Rattle.zed_op.specs.SetLaws.{RisingAgrees, UnionHasBoth, UnionCommutes, UnionAssociates, UnionOfItsOwn, UnionOfSets, SetIsOfAnyOrder, SetGrowsByEdits}
use Rattle.zed_edit.specs.Replay.{replay, held}
use Rattle.zed_history.specs.Clash.{Agree}
use Rattle.zed_document.specs.Laws.{merged, MergeCommutes, MergeAssociates, MergeRepeats, MergeOfItself, EditsDecide, document_of, DeliveriesMakeIt, MergeIsDeliveries, OrderNeverCounts}

pub edits_decide : EditsDecide
edits_decide d o w e = (w, (ap (λ es. (replay es).header) e, ap (λ es. (replay es).boards) e, ap (λ es. (replay es).texts) e), ap held e)

agree-back : (es fs : List Edit) → Agree es fs → Agree fs es
agree-back es fs a e f m n s = sym (a f e n m (sym s))

-- lists of which each agrees, and both with one another
agrees-append : (es fs : List Edit) → Agrees es → Agrees fs → Agree es fs → Agrees (es ++ fs)
agrees-append es fs a b c e f m n s =
    elim (Contains-append_cases es fs e m) [
      | inl x ↦ elim (Contains-append_cases es fs f n) [ inl y ↦ a e f x y s | inr y ↦ c e f x y s ]
      | inr x ↦ elim (Contains-append_cases es fs f n) [ inl y ↦ agree-back es fs c e f x y s | inr y ↦ b e f x y s ]
    ]

agree-append : (es fs gs : List Edit) → Agree es fs → Agree es gs → Agree es (fs ++ gs)
agree-append es fs gs a b e f m n s = elim (Contains-append_cases fs gs f n) [ inl y ↦ a e f m y s | inr y ↦ b e f m y s ]

pub merge-commutes : RisingAgrees → UnionCommutes → MergeCommutes
merge-commutes rising law d o (w, r, s, a) =
    edits_decide (merged d o) (merged o d) w (law d.edits o.edits r s (agrees-append d.edits o.edits (rising d.edits r) (rising o.edits s) a))

pub merge-associates : RisingAgrees → UnionAssociates → MergeAssociates
merge-associates rising law a b c (w, r, s, p) (v, s', t, q) (u, r', t', k) =
    let both : Agrees (b.edits ++ c.edits) = agrees-append b.edits c.edits (rising b.edits s) (rising c.edits t) q in
    let all : Agrees (a.edits ++ (b.edits ++ c.edits)) =
    agrees-append a.edits (b.edits ++ c.edits) (rising a.edits r) both (agree-append a.edits b.edits c.edits p k) in
    edits_decide (merged (merged a b) c) (merged a (merged b c)) refl (law a.edits b.edits c.edits r all)

has_all-right : UnionHasBoth → (es fs : List Edit) → Agrees (es ++ fs) → (e : Edit) → Contains fs e → Contains (union es fs) e
has_all-right law es fs a e m = (law es fs a e).1 (Contains-append_right es fs e m)

pub merge-repeats : RisingAgrees → ((es fs : List Edit) → IsRising es → IsRising (union es fs)) → UnionHasBoth → UnionOfItsOwn
    → MergeRepeats
merge-repeats rising stays both law d o (w, r, s, a) =
    let all : Agrees (d.edits ++ o.edits) = agrees-append d.edits o.edits (rising d.edits r) (rising o.edits s) a in
    edits_decide (merged (merged d o) o) (merged d o) refl (law (union d.edits o.edits) o.edits (stays d.edits o.edits r) (has_all-right both d.edits o.edits all))

pub merge-itself : UnionOfItsOwn → MergeOfItself
merge-itself law d r = edits_decide (merged d d) d refl (law d.edits d.edits r (λ e m. m))

pub deliveries-make_it : SetGrowsByEdits → DeliveriesMakeIt
deliveries-make_it law world c k es e = law es e

pub merge-is_deliveries : UnionOfSets → MergeIsDeliveries
merge-is_deliveries law world b c k es fs a = (refl, law es fs a, refl)

pub order-never_counts : SetIsOfAnyOrder → OrderNeverCounts
order-never_counts law world c k es fs a h = edits_decide (document_of world c es) (document_of world k fs) refl (law es fs a h)
