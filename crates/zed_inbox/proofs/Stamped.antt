-- Edits in a map, each under its stamp.
use Rattle.std.proofs.Common.{◌≡◌, ◌∙◌, Bool, true, false, cond, ◌||◌, List, [], ◌∷◌, Option, Some, None, refl, ap, subst, sym, arith}
use Rattle.std.specs.Ordering.{is_eq}
use Rattle.std.specs.BTreeMap.{insert_entry, is_at}
use Rattle.std.specs.List.{find, list_any, AllByRecursion}
use Rattle.std.specs.Map.{lookup, remove_entry, keys_of, values_of}
use Rattle.std.specs.Option.{is_some}
use Rattle.zed_types.specs.declared.stamp.Stamp.{Stamp}
use Rattle.zed_types.specs.Stamp.{before, same_stamp, stamp_cmp}
use Rattle.zed_types.proofs.Orderings.{by_tests}
use Rattle.zed_types.proofs.StampOrder.{same_stamp-sym}
use Rattle.zed_op.specs.declared.op.Edit.{Edit}
use Rattle.zed_op.specs.Set.{IsRising, with_edit, stamps_of}
use Rattle.zed_op.specs.declared.thing.Thing.{Thing}
use Rattle.zed_inbox.specs.Kept.{stamped, AreListed, AreKept}
use Rattle.zed_inbox.specs.Waiting.{without}

-- whether an edit has a stamp
abbrev pub has_stamp : Stamp → Edit → Bool
has_stamp s e = same_stamp e.stamp s

-- stamps that compare alike are one
pub alike : (a b : Stamp) → is_eq (stamp_cmp a b) ≡ same_stamp b a
alike a b = grind (arith)

-- the map has under a stamp the edit with this stamp
pub lookup_stamped : (s : Stamp) (es : List Edit) → lookup (is_at (stamp_cmp s)) (stamped es) ≡ find (has_stamp s) es
lookup_stamped s [] = refl
lookup_stamped s (e ∷ es) =
    ap (λ b. cond b (Some e) (lookup (is_at (stamp_cmp s)) (stamped es))) (alike s e.stamp)
    ∙ ap (λ o. cond (same_stamp e.stamp s) (Some e) o) (lookup_stamped s es)

-- without the edit under a stamp
pub remove_stamped : (s : Stamp) (es : List Edit) → remove_entry (is_at (stamp_cmp s)) (stamped es) ≡ stamped (without s es)
remove_stamped s [] = refl
remove_stamped s (e ∷ es) =
    ap (λ b. cond b (stamped es) ((e.stamp, e) ∷ remove_entry (is_at (stamp_cmp s)) (stamped es))) (alike s e.stamp)
    ∙ go (same_stamp e.stamp s) (remove_stamped s es)
  where
    go : (b : Bool) → remove_entry (is_at (stamp_cmp s)) (stamped es) ≡ stamped (without s es)
        → cond b (stamped es) ((e.stamp, e) ∷ remove_entry (is_at (stamp_cmp s)) (stamped es)) ≡ stamped (cond b es (e ∷ without s es))
    go true more = refl
    go false more = ap (λ m. (e.stamp, e) ∷ m) more

-- an edit with a new stamp goes to its place
pub insert_stamped : (e : Edit) (es : List Edit) → find (has_stamp e.stamp) es ≡ None
    → insert_entry stamp_cmp (stamped es) e.stamp e ≡ stamped (with_edit e es)
insert_stamped e [] none = refl
insert_stamped e (f ∷ fs) none =
    let split = apart (same_stamp f.stamp e.stamp) refl none in
    by_tests e.stamp f.stamp _ _ _ ∙ go (before e.stamp f.stamp) (same_stamp e.stamp f.stamp) (same_stamp-sym e.stamp f.stamp ∙ split.0) (insert_stamped e fs split.1)
  where
    apart : (b : Bool) → same_stamp f.stamp e.stamp ≡ b → cond b (Some f) (find (has_stamp e.stamp) fs) ≡ None
        → (same_stamp f.stamp e.stamp ≡ false) × (find (has_stamp e.stamp) fs ≡ None)
    apart true is bad = let no : Some f ≡ None = bad in cc
    apart false is rest = (is, rest)

    go : (c d : Bool) → d ≡ false → insert_entry stamp_cmp (stamped fs) e.stamp e ≡ stamped (with_edit e fs)
        → cond c ((e.stamp, e) ∷ stamped (f ∷ fs)) (cond d ((f.stamp, e) ∷ stamped fs) ((f.stamp, f) ∷ insert_entry stamp_cmp (stamped fs) e.stamp e))
        ≡ stamped (cond c (e ∷ f ∷ fs) (cond d (f ∷ fs) (f ∷ with_edit e fs)))
    go true d q more = refl
    go false true q more = cc
    go false false q more = ap (λ m. (f.stamp, f) ∷ m) more

-- the edits of the map are those that it was made of
pub edits_stamped : (es : List Edit) → values_of (stamped es) ≡ es
edits_stamped [] = refl
edits_stamped (e ∷ es) = ap (λ fs. e ∷ fs) (edits_stamped es)

pub values_stamped : (m : List (Stamp × Edit)) (es : List Edit) → m ≡ stamped es → values_of m ≡ es
values_stamped m es is = ap values_of is ∙ edits_stamped es

-- its keys are their stamps
pub stamps_stamped : (es : List Edit) → keys_of (stamped es) ≡ stamps_of es
stamps_stamped [] = refl
stamps_stamped (e ∷ es) = ap (λ ss. e.stamp ∷ ss) (stamps_stamped es)

pub kept_stamped : (m : List (Stamp × Edit)) (es : List Edit) (ws : List (Thing × Stamp)) → m ≡ stamped es → IsRising es → AreListed ws es
    → AreKept m ws
kept_stamped m es ws is rises are = record {
  under = is ∙ ap stamped (sym (values_stamped m es is));
  rising = rw (values_stamped m es is) rises;
  listed = subst (λ fs. AreListed ws fs) (sym (values_stamped m es is)) are;
}

-- whether an edit with a stamp is there
pub find_some : (s : Stamp) (es : List Edit) → is_some (find (has_stamp s) es) ≡ list_any (has_stamp s) es
find_some s [] = refl
find_some s (e ∷ es) = go (same_stamp e.stamp s) (find_some s es)
  where
    go : (b : Bool) → is_some (find (has_stamp s) es) ≡ list_any (has_stamp s) es
        → is_some (cond b (Some e) (find (has_stamp s) es)) ≡ (b || list_any (has_stamp s) es)
    go true more = refl
    go false more = more

-- an edit whose stamp is there adds nothing
pub with_edit_there : (e : Edit) (es : List Edit) → IsRising es → list_any (has_stamp e.stamp) es ≡ true → with_edit e es ≡ es
with_edit_there e [] r h = absurd (cc)
with_edit_there e (f ∷ fs) r h = go (before e.stamp f.stamp) refl (same_stamp e.stamp f.stamp) refl (λ k. with_edit_there e fs r.1 k)
  where
    later : (s : Stamp) (gs : List Edit) → before s f.stamp ≡ true → AllByRecursion (λ g. before f.stamp g.stamp ≡ true) gs
        → list_any (has_stamp s) gs ≡ false
    later s [] b a = refl
    later s (g ∷ gs) b a = let d : same_stamp g.stamp s ≡ false = apart s f.stamp g.stamp b a.0 in rw (d, later s gs b a.1) refl
      where
        apart : (s t u : Stamp) → before s t ≡ true → before t u ≡ true → same_stamp u s ≡ false
        apart s t u b c = grind (arith)

    here : before e.stamp f.stamp ≡ true → same_stamp f.stamp e.stamp ≡ false
    here b = no e.stamp f.stamp b
      where
        no : (s t : Stamp) → before s t ≡ true → same_stamp t s ≡ false
        no s t b = grind (arith)

    go : (b : Bool) → before e.stamp f.stamp ≡ b → (c : Bool) → same_stamp e.stamp f.stamp ≡ c
        → (list_any (has_stamp e.stamp) fs ≡ true → with_edit e fs ≡ fs)
        → cond b (e ∷ f ∷ fs) (cond c (f ∷ fs) (f ∷ with_edit e fs)) ≡ f ∷ fs
    go true b c d more =
        let gone : list_any (has_stamp e.stamp) (f ∷ fs) ≡ false = rw (here b, later e.stamp fs b r.0) refl in
        let bad : true ≡ false = sym h ∙ gone in absurd (cc)
    go false b true d more = refl
    go false b false d more =
        let k : same_stamp f.stamp e.stamp ≡ false = same_stamp-sym f.stamp e.stamp ∙ d in
        ap (λ gs. f ∷ gs) (more (sym (ap (λ x. x || list_any (has_stamp e.stamp) fs) k) ∙ h))

none_from : (o : Option Edit) → is_some o ≡ false → o ≡ None
none_from None h = refl
none_from (Some e) h = absurd (cc)

pub find_none : (s : Stamp) (es : List Edit) → list_any (has_stamp s) es ≡ false → find (has_stamp s) es ≡ None
find_none s es h = none_from (find (has_stamp s) es) (find_some s es ∙ h)
