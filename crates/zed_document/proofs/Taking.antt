-- The stamps of those held, renewed after one edit more.
use Rattle.std.proofs.Common.{◌≡◌, ◌∙◌, ℕ, zero, suc, ◌<◌, ◌≤◌, ◌||◌, Bool, true, false, cond, List, [], ◌∷◌, ◌++◌, length, filter, refl, ap, sym, subst, arith}
use mathlib.Core.Logic.{inl, inr}
use Rattle.std.proofs.lemmas.List.Sums.{count_by-le-length, length-filter}
use Rattle.std.specs.BTreeMap.{is_at}
use Rattle.std.specs.BTreeSet.{insert_key}
use Rattle.std.specs.Ordering.{is_eq, match_ordering}
use Rattle.std.specs.Prelude.{◌⊎◌, if◌then◌else◌}
use Rattle.std.specs.Set.{remove_key}
use Rattle.std.specs.declared.cmp.Ordering.{Ordering}
use Rattle.std.specs.declared.cmp.Ordering.TheVariants.{Less, Equal, Greater}
use Rattle.zed_types.specs.declared.stamp.Stamp.{Stamp}
use Rattle.zed_types.specs.Stamp.{before, same_stamp, stamp_cmp}
use Rattle.zed_types.proofs.StampOrder.{same_stamp-true, same_stamp-itself}
use Rattle.zed_types.proofs.Orderings.{by_tests}
use Rattle.zed_op.specs.declared.op.Edit.{Edit}
use Rattle.zed_op.specs.Fit.{Fits}
use Rattle.zed_op.specs.Set.{AllFit, IsRising, stamps_of, with_edit}
use Rattle.zed_op.proofs.Sets.{Member-all, with_edit-rising}
use Rattle.zed_edit.specs.Document.{empty_document}
use Rattle.zed_edit.specs.Replay.{can, held, replay}
use Rattle.zed_laws.proofs.ReplaySteps.{held_are_remembered}
use Rattle.zed_laws.proofs.EarlierThings.{earlier_decide}
use Rattle.zed_laws.proofs.HeldAlone.{held_is_one_more}
use Rattle.zed_inbox.proofs.Stamped.{alike}
use Rattle.zed_delivery.specs.declared.take.Taken.{Taken}
use Rattle.zed_delivery.specs.Taking.{IsApart, is_held}
use Rattle.zed_delivery.proofs.Members.{IsCut, all-behind, all-members, cut, held-in}
use Rattle.zed_delivery.proofs.Woken.{still-held, told-done, woken-held}
use Rattle.zed_document.specs.Held.{held_stamps, is_among, waits_in, woken}

-- ---- stamps in a set

-- one that was put in is taken out again
pub undone : (s : Stamp) (ts : List Stamp) → is_among ts s ≡ false → remove_key (is_at (stamp_cmp s)) (insert_key stamp_cmp ts s) ≡ ts
undone s [] n = rw (alike s s ∙ same_stamp-itself s) refl
undone s (t ∷ ts) n = go (stamp_cmp s t) refl (same_stamp t s) (alike s t) n (undone s ts)
  where
    go : (o : Ordering) → stamp_cmp s t ≡ o → (b : Bool) → is_eq (stamp_cmp s t) ≡ b → (b || is_among ts s) ≡ false
        → (is_among ts s ≡ false → remove_key (is_at (stamp_cmp s)) (insert_key stamp_cmp ts s) ≡ ts)
        → remove_key (is_at (stamp_cmp s)) (match_ordering o (s ∷ t ∷ ts) (t ∷ ts) (t ∷ insert_key stamp_cmp ts s)) ≡ t ∷ ts
    go Less q b e n more = rw (alike s s ∙ same_stamp-itself s) refl
    go Equal q true e n more = absurd (cc)
    go Equal q false e n more = absurd (let bad : true ≡ false = sym (ap is_eq q) ∙ e in cc)
    go Greater q true e n more = absurd (cc)
    go Greater q false e n more = rw e (ap (λ us. t ∷ us) (more n))

-- without a stamp that fails a test just the same ones pass
pub removed : (q : Stamp → Bool) (s : Stamp) (ts : List Stamp) → q s ≡ false → filter q (remove_key (is_at (stamp_cmp s)) ts) ≡ filter q ts
removed q s [] n = refl
removed q s (t ∷ ts) n = go (is_at (stamp_cmp s) t) refl (removed q s ts n)
  where
    go : (b : Bool) → is_at (stamp_cmp s) t ≡ b → filter q (remove_key (is_at (stamp_cmp s)) ts) ≡ filter q ts
        → filter q (cond b ts (t ∷ remove_key (is_at (stamp_cmp s)) ts)) ≡ filter q (t ∷ ts)
    go true h more =
        let same : t ≡ s = same_stamp-true t s (sym (alike s t) ∙ h) in
        let fails : q t ≡ false = ap q same ∙ n in
        rw fails refl
    go false h more = ap (λ us. cond (q t) (t ∷ us) us) more

-- where as many pass as there are, all pass
pub all-pass : (q : Stamp → Bool) (ts : List Stamp) → length (filter q ts) ≡ length ts → filter q ts ≡ ts
all-pass q [] h = refl
all-pass q (t ∷ ts) h = go (q t) h (all-pass q ts)
  where
    few : length (filter q ts) ≤ length ts
    few = subst (λ n. n ≤ length ts) (sym (length-filter q ts)) (count_by-le-length q ts)

    go : (b : Bool) → length (cond b (t ∷ filter q ts) (filter q ts)) ≡ suc (length ts)
        → (length (filter q ts) ≡ length ts → filter q ts ≡ ts)
        → cond b (t ∷ filter q ts) (filter q ts) ≡ t ∷ ts
    go true h more = ap (λ us. t ∷ us) (more (omega (arith, h)))
    go false h more = absurd (omega (arith, h, few))

-- ---- the stamps of edits

stamps-with : (e : Edit) (es : List Edit) → IsApart e es → insert_key stamp_cmp (stamps_of es) e.stamp ≡ stamps_of (with_edit e es)
stamps-with e [] n = refl
stamps-with e (f ∷ es) n =
    by_tests e.stamp f.stamp _ _ _ ∙ go (before e.stamp f.stamp) (same_stamp e.stamp f.stamp) n.0 (stamps-with e es n.1)
  where
    go : (b c : Bool) → c ≡ false → insert_key stamp_cmp (stamps_of es) e.stamp ≡ stamps_of (with_edit e es)
        → cond b (e.stamp ∷ f.stamp ∷ stamps_of es) (cond c (f.stamp ∷ stamps_of es) (f.stamp ∷ insert_key stamp_cmp (stamps_of es) e.stamp))
        ≡ stamps_of (cond b (e ∷ f ∷ es) (cond c (f ∷ es) (f ∷ with_edit e es)))
    go true c q more = refl
    go false true q more = absurd (cc)
    go false false q more = ap (λ ts. f.stamp ∷ ts) more

stamps-pass : (q : Stamp → Bool) (es : List Edit) → filter q (stamps_of es) ≡ stamps_of (filter (λ (e : Edit). q e.stamp) es)
stamps-pass q [] = refl
stamps-pass q (e ∷ es) = go (q e.stamp) (stamps-pass q es)
  where
    go : (b : Bool) → filter q (stamps_of es) ≡ stamps_of (filter (λ (f : Edit). q f.stamp) es)
        → cond b (e.stamp ∷ filter q (stamps_of es)) (filter q (stamps_of es))
        ≡ stamps_of (cond b (e ∷ filter (λ (f : Edit). q f.stamp) es) (filter (λ (f : Edit). q f.stamp) es))
    go true more = ap (λ ts. e.stamp ∷ ts) more
    go false more = more

waits-stamp : (s : Stamp) (es : List Edit) → waits_in es s ≡ is_among (stamps_of es) s
waits-stamp s [] = refl
waits-stamp s (e ∷ es) = rw (waits-stamp s es) refl

-- ---- one edit more

-- an edit that is new is none of those held
pub new-among : (e : Edit) (es : List Edit) → IsApart e es → is_among (held_stamps es) e.stamp ≡ false
new-among e es n = ap (λ ts. is_among ts e.stamp) (sym (held_are_remembered es)) ∙ none (held es) apart
  where
    apart : IsApart e (held es)
    apart = all-members (λ g. same_stamp e.stamp g.stamp ≡ false) (held es) (λ g m. Member-all (λ h. same_stamp e.stamp h.stamp ≡ false) es n g (held-in empty_document g es m))

    turned : (s t : Stamp) → same_stamp s t ≡ false → same_stamp t s ≡ false
    turned s t h = grind (arith)

    none : (fs : List Edit) → IsApart e fs → is_among (stamps_of fs) e.stamp ≡ false
    none [] a = refl
    none (f ∷ fs) a = rw (turned e.stamp f.stamp a.0) (none fs a.1)

-- an edit that is held is one more of those held
pub held-more : (e : Edit) (es : List Edit) → IsRising es → AllFit es → Fits e → IsApart e es → is_held (with_edit e es) e.stamp ≡ true
    → held_stamps (with_edit e es) ≡ insert_key stamp_cmp (held_stamps es) e.stamp
held-more e es r f fits n waits = go (can (replay es) e) refl
  where
    k : IsCut e es
    k = cut e es n

    rises : IsRising (k.low ++ e ∷ k.high)
    rises = subst IsRising k.with_it (with_edit-rising e es r)

    apart : IsApart e (held es)
    apart = all-members (λ g. same_stamp e.stamp g.stamp ≡ false) (held es) (λ g m. Member-all (λ h. same_stamp e.stamp h.stamp ≡ false) es n g (held-in empty_document g es m))

    go : (b : Bool) → can (replay es) e ≡ b → held_stamps (with_edit e es) ≡ insert_key stamp_cmp (held_stamps es) e.stamp
    go true able = absurd (let bad : true ≡ false = sym waits ∙ told-done e es r f fits n able in cc)
    go false cant =
        let at_place : can (replay k.low) e ≡ false =
        sym (earlier_decide e k.low k.high rises (fits, all-behind Fits k.low k.high (subst AllFit k.whole f)))
        ∙ ap (λ xs. can (replay xs) e) (sym k.whole) ∙ cant in
        let more : held (with_edit e es) ≡ with_edit e (held es) =
        ap held k.with_it ∙ held_is_one_more e k.low k.high rises at_place ∙ ap (λ xs. with_edit e (held xs)) (sym k.whole) in
        sym (held_are_remembered (with_edit e es)) ∙ ap stamps_of more ∙ sym (stamps-with e (held es) apart) ∙ ap (λ ts. insert_key stamp_cmp ts e.stamp) (held_are_remembered es)

-- where an edit wakes others, it isn't held, and those held are the ones held before that wait still
pub waking : (e : Edit) (es : List Edit) → IsRising es → AllFit es → Fits e → IsApart e es → 0 < woken es (with_edit e es)
    → (is_held (with_edit e es) e.stamp ≡ false)
    × (filter (waits_in (held (with_edit e es))) (held_stamps es) ≡ stamps_of (held (with_edit e es)))
waking e es r f fits n some = go (can (replay es) e) refl
  where
    new : List Edit
    new = with_edit e es

    same : filter (λ (g : Edit). waits_in (held new) g.stamp) (held es) ≡ filter (λ (g : Edit). is_held new g.stamp) (held es)
    same =
        (λ i. filter (λ (g : Edit). waits-stamp g.stamp (held new) i) (held es))
        ∙ ap (λ ts. filter (λ (g : Edit). is_among ts g.stamp) (held es)) (held_are_remembered new)

    go : (b : Bool) → can (replay es) e ≡ b
        → (is_held new e.stamp ≡ false) × (filter (waits_in (held new)) (held_stamps es) ≡ stamps_of (held new))
    go true able = (
      told-done e es r f fits n able,
      ap (filter (waits_in (held new))) (sym (held_are_remembered es)) ∙ stamps-pass (waits_in (held new)) (held es) ∙ ap stamps_of (same ∙ still-held e es r f fits n able),
    )
    go false cant = absurd (let none = woken-held e es r f fits n cant in omega (arith, none, some))

-- ---- renewed stamps

-- the stamps kept are renewed after a body took an edit: they are those that wait by now, or where it wakes none, those kept before, with its own if it waits
abbrev pub IsRenewed : Taken → Edit → List Edit → List Stamp → List Stamp → Type 0
IsRenewed t e waiting old new =
    (new ≡ stamps_of waiting) ⊎ ((t.woken ≡ 0) × (new ≡ (if t.held then insert_key stamp_cmp old e.stamp else old)))

pub is_renewed : (t : Taken) (e : Edit) (waiting : List Edit) (old mid new : List Stamp) (w : ℕ) → t.woken ≡ w
    → mid ≡ (if t.held then insert_key stamp_cmp old e.stamp else old) → (0 < w → new ≡ stamps_of waiting) → (w ≡ 0 → new ≡ mid)
    → IsRenewed t e waiting old new
is_renewed t e waiting old mid new zero q is some none = inr (q, none refl ∙ is)
is_renewed t e waiting old mid new (suc w) q is some none = inl (some (omega arith))
