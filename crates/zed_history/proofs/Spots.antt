-- Where an edit with a stamp stands in a log, or belongs.
use Rattle.std.proofs.Common.{◌≡◌, ℕ, zero, suc, ◌<◌, ◌≤◌, ◌-◌, Bool, true, false, get_or, List, [], ◌∷◌, ◌++◌, Some, None, take, drop, length, refl, ap, sym, subst, ◌∙◌, arith}
use Rattle.std.proofs.lemmas.List.{take-append-drop}
use Rattle.std.specs.Bool.{OnTrue}
use Rattle.std.specs.Prelude.{insert, not}
use Rattle.std.specs.List.{AllByRecursion, AllWithin}
use Rattle.std.specs.List.Sorted.{IsPartitionedBy}
use Rattle.std.specs.Prelude.{slice_get, slice_index_or, IfSome}
use Rattle.zed_types.specs.declared.stamp.Stamp.{Stamp}
use Rattle.zed_types.specs.Stamp.{before, same_stamp}
use Rattle.zed_op.specs.declared.op.Edit.{Edit}
use Rattle.zed_op.specs.Set.{IsRising, with_edit}
use Rattle.zed_history.specs.Finding.{AllAbove, AllBelow, edit_with}
use Rattle.zed_types.proofs.StampOrder.{same_stamp-itself, before_irrefl, before_trans, before_asym, before_differs, before_differs_after}

-- an edit goes between those below it and those above it
pub with_edit-between : (e : Edit) (low high : List Edit) → AllBelow e.stamp low → AllAbove e.stamp high
    → with_edit e (low ++ high) ≡ low ++ e ∷ high
with_edit-between e [] [] b a = refl
with_edit-between e [] (f ∷ high) b a = rw a.0
with_edit-between e (f ∷ low) high b a =
    let after = before_asym f.stamp e.stamp b.0 in
    let other = before_differs_after f.stamp e.stamp b.0 in
    rw (after, other) (ap (λ rest. f ∷ rest) (with_edit-between e low high b.1 a))

pub edit_with-none : (s : Stamp) (high : List Edit) → AllAbove s high → edit_with s high ≡ None
edit_with-none s [] a = refl
edit_with-none s (f ∷ high) a = rw (before_differs_after s f.stamp a.0) (edit_with-none s high a.1)

pub none-below : (s : Stamp) (low : List Edit) → AllBelow s low → edit_with s low ≡ None
none-below s [] b = refl
none-below s (f ∷ low) b = rw (before_differs f.stamp s b.0) (none-below s low b.1)

-- a stamp behind all edits of a log isn't there
pub none-after : (b : Bool) (s : Stamp) (log whole : List Edit) → log ≡ whole → OnTrue b (AllBelow s log)
    → OnTrue b (edit_with s whole ≡ None)
none-after true s log whole is below = ap (edit_with s) (sym is) ∙ none-below s log below
none-after false s log whole is below = tt

pub edit_with-past : (s : Stamp) (low rest : List Edit) → AllBelow s low → edit_with s (low ++ rest) ≡ edit_with s rest
edit_with-past s [] rest b = refl
edit_with-past s (f ∷ low) rest b = rw (before_differs f.stamp s b.0) (edit_with-past s low rest b.1)

-- in a rising log all before an edit that is below a stamp are below it too
pub AllBelow-take : (s : Stamp) (es : List Edit) (i : ℕ) → IsRising es → IfSome (slice_get es i) (λ f. before f.stamp s ≡ true)
    → i < length es
    → AllBelow s (take (suc i) es)
AllBelow-take s [] i r h l = tt
AllBelow-take s (x ∷ xs) zero r h l = (h, tt)
AllBelow-take s (x ∷ []) (suc i) r h l = absurd (omega arith)
AllBelow-take s (x ∷ y ∷ ys) (suc i) r h l =
    let more = AllBelow-take s (y ∷ ys) i r.1 h (omega arith) in
    (before_trans x.stamp y.stamp s r.0.0 more.0, more)

-- whatever comes first in a rising log is below each later edit
below_head : (x : Edit) (xs : List Edit) (i : ℕ) (s : Stamp) → AllByRecursion (λ f. before x.stamp f.stamp ≡ true) xs
    → IfSome (slice_get xs i) (λ f. f.stamp ≡ s) → i < length xs
    → before x.stamp s ≡ true
below_head x [] i s a h l = absurd (omega arith)
below_head x (y ∷ ys) zero s a h l = rw (← h) a.0
below_head x (y ∷ ys) (suc i) s a h l = below_head x ys i s a.1 h (omega arith)

pub edit_with-at : (s : Stamp) (es : List Edit) (i : ℕ) → IsRising es → IfSome (slice_get es i) (λ f. f.stamp ≡ s) → i < length es
    → edit_with s es ≡ slice_get es i
edit_with-at s [] i r h l = absurd (omega arith)
edit_with-at s (x ∷ xs) zero r h l =
    let t : same_stamp x.stamp s ≡ true = rw h (same_stamp-itself s) in rw t
edit_with-at s (x ∷ xs) (suc i) r h l =
    let t = before_differs x.stamp s (below_head x xs i s r.0 h (omega arith)) in
    rw t (edit_with-at s xs i r.1 h (omega arith))

pub with_edit-at : (e : Edit) (es : List Edit) (i : ℕ) → IsRising es → IfSome (slice_get es i) (λ f. f.stamp ≡ e.stamp) → i < length es
    → with_edit e es ≡ es
with_edit-at e [] i r h l = absurd (omega arith)
with_edit-at e (x ∷ xs) zero r h l =
    let t : same_stamp e.stamp x.stamp ≡ true = rw h (same_stamp-itself e.stamp) in
    let n : before e.stamp x.stamp ≡ false = rw h (before_irrefl e.stamp) in
    rw (n, t)
with_edit-at e (x ∷ xs) (suc i) r h l =
    let b = below_head x xs i e.stamp r.0 h (omega arith) in
    let after = before_asym x.stamp e.stamp b in
    let other = before_differs_after x.stamp e.stamp b in
    rw (after, other) (ap (λ rest. x ∷ rest) (with_edit-at e xs i r.1 h (omega arith)))

-- what is not above a stamp and has another is below it
below_of : (s : Stamp) (es : List Edit) (i : ℕ) → IfSome (slice_get es i) (λ f. before s f.stamp ≡ false)
    → IfSome (slice_get es i) (λ f. same_stamp s f.stamp ≡ false)
    → IfSome (slice_get es i) (λ f. before f.stamp s ≡ true)
below_of s [] i b d = b
below_of s (x ∷ xs) zero b d = grind (arith)
below_of s (x ∷ xs) (suc i) b d = below_of s xs i b d

-- what comes after a stamp comes before all that is later
not_after : (s t u : Stamp) → before t u ≡ true → not (before s u) ≡ true → not (before s t) ≡ true
not_after s t u later h = grind (arith)

-- in a rising log the edits that don't come after a stamp stand at the front
pub partitioned : (s : Stamp) (es : List Edit) → IsRising es → IsPartitionedBy (λ e. not (before s e.stamp)) es
partitioned s [] r i j d le lt h = absurd (omega arith)
partitioned s (x ∷ xs) r zero zero d le lt h = h
partitioned s (x ∷ xs) r (suc i) zero d le lt h = absurd (omega arith)
partitioned s (x ∷ xs) r (suc i) (suc j) d le lt h = partitioned s xs r.1 i j d (omega arith) (omega arith) h
partitioned s (x ∷ xs) r zero (suc j) d le lt h = not_after s x.stamp (get_or xs j d).stamp (later xs j r.0 (omega arith)) h
  where
    later : (ys : List Edit) (k : ℕ) → AllByRecursion (λ f. before x.stamp f.stamp ≡ true) ys → k < length ys
        → before x.stamp (get_or ys k d).stamp ≡ true
    later [] k a lt = absurd (omega arith)
    later (y ∷ ys) zero a lt = a.0
    later (y ∷ ys) (suc k) a lt = later ys k a.1 (omega arith)

not_false : (b : Bool) → not b ≡ false → b ≡ true
not_false true h = refl
not_false false h = absurd (let bad : true ≡ false = h in cc)

not_true : (b : Bool) → not b ≡ true → b ≡ false
not_true true h = absurd (let bad : false ≡ true = h in cc)
not_true false h = refl

pub parted-above : (s : Stamp) (es : List Edit) (i : ℕ) → AllWithin (λ e. not (before s e.stamp) ≡ false) es i (length es)
    → AllAbove s (drop i es)
parted-above s [] zero h = tt
parted-above s [] (suc i) h = tt
parted-above s (x ∷ xs) zero h = (not_false (before s x.stamp) (h 0 x (omega arith) (omega arith)), parted-above s xs zero (λ k d le lt. h (suc k) d (omega arith) (omega arith)))
parted-above s (x ∷ xs) (suc i) h = parted-above s xs i (λ k d le lt. h (suc k) d (omega arith) (omega arith))

-- the last of those that don't come after a stamp
last_below : (s : Stamp) (es : List Edit) (i : ℕ) → ((d : Edit) → not (before s (get_or es i d).stamp) ≡ true)
    → IfSome (slice_get es i) (λ f. before s f.stamp ≡ false)
last_below s [] i h = tt
last_below s (x ∷ xs) zero h = not_true (before s x.stamp) (h x)
last_below s (x ∷ xs) (suc i) h = last_below s xs i h

pub parted-below : (s : Stamp) (es : List Edit) (i : ℕ) → AllWithin (λ e. not (before s e.stamp) ≡ true) es 0 i → 0 < i → i ≤ length es
    → IfSome (slice_get es (i - 1)) (λ f. before s f.stamp ≡ false)
parted-below s es i h some within = last_below s es (i - 1) (λ d. h (i - 1) d (omega arith) (omega arith))

abbrev pub IsSpot : Stamp → List Edit → ℕ → Type 0
IsSpot s es p = (p ≤ length es) × AllAbove s (drop p es) × (0 < p → IfSome (slice_get es (p - 1)) (λ f. before s f.stamp ≡ false)) × (0 < p → IfSome (slice_get es (p - 1)) (λ f. same_stamp s f.stamp ≡ false))

-- all before a free spot is below the stamp
pub spot-below : (s : Stamp) (es : List Edit) (p : ℕ) → IsRising es → IsSpot s es p → AllBelow s (take p es)
spot-below s es zero r h = tt
spot-below s es (suc p) r h =
    let q : suc p - 1 ≡ p = omega arith in
    let b = rw q at (h.2 (omega arith)) in
    let d = rw q at (h.3 (omega arith)) in
    AllBelow-take s es p r (below_of s es p b d) (omega arith)

pub edit_with-free : (s : Stamp) (es : List Edit) (p : ℕ) → IsRising es → IsSpot s es p → edit_with s es ≡ None
edit_with-free s es p r h =
    let P : List Edit → Type 0 = λ xs. edit_with s xs ≡ None in
    subst P (take-append-drop p es) (edit_with-past s (take p es) (drop p es) (spot-below s es p r h) ∙ edit_with-none s (drop p es) h.1)

pub with_edit-free : (e : Edit) (es : List Edit) (p : ℕ) → IsRising es → IsSpot e.stamp es p → with_edit e es ≡ insert es p e
with_edit-free e es p r h =
    let P : List Edit → Type 0 = λ xs. with_edit e xs ≡ insert es p e in
    subst P (take-append-drop p es) (with_edit-between e (take p es) (drop p es) (spot-below e.stamp es p r h) h.1)

-- an element at its place
pub get-at : (es : List Edit) (i : ℕ) (x : Edit) → i < length es → x ≡ slice_index_or es i x → slice_get es i ≡ Some x
get-at [] i x l h = absurd (omega arith)
get-at (y ∷ ys) zero x l h = ap Some (sym h)
get-at (y ∷ ys) (suc i) x l h = get-at ys i x (omega arith) h

pub above-later : (s t : Stamp) (es : List Edit) → before s t ≡ true → AllAbove t es → AllAbove s es
above-later s t [] b a = tt
above-later s t (e ∷ es) b a = (before_trans s t e.stamp b a.0, above-later s t es b a.1)

above-from : (s : Stamp) (es : List Edit) (p : ℕ) (x : Edit) → IsRising es → slice_get es p ≡ Some x → before s x.stamp ≡ true
    → AllAbove s (drop p es)
above-from s [] zero x r at b = tt
above-from s [] (suc p) x r at b = tt
above-from s (y ∷ ys) zero x r at b =
    let is : y ≡ x = cc in
    let first : before s y.stamp ≡ true = subst (λ (z : Edit). before s z.stamp ≡ true) (sym is) b in
    (first, above-later s y.stamp ys first r.0)
above-from s (y ∷ ys) (suc p) x r at b = above-from s ys p x r.1 at b

-- all from an edit on that comes after a stamp come after it
pub above-on : (b : Bool) (s : Stamp) (es : List Edit) (p : ℕ) (x : Edit) → IsRising es → p < length es → slice_get es p ≡ Some x
    → b ≡ before s x.stamp
    → OnTrue b ((p ≤ length es) × AllAbove s (drop p es))
above-on true s es p x r l at is = (omega arith, above-from s es p x r at (sym is))
above-on false s es p x r l at is = tt

-- all behind an edit of a stamp come after it
pub behind-on : (s : Stamp) (es : List Edit) (p : ℕ) → IsRising es → IfSome (slice_get es p) (λ f. f.stamp ≡ s) → p < length es
    → AllAbove s (drop (suc p) es)
behind-on s [] p r h l = absurd (omega arith)
behind-on s (y ∷ ys) zero r h l = subst (λ (t : Stamp). AllAbove t ys) h r.0
behind-on s (y ∷ ys) (suc p) r h l = behind-on s ys p r.1 h (omega arith)

pub at-not-before : (s : Stamp) (es : List Edit) (p : ℕ) → IfSome (slice_get es p) (λ f. f.stamp ≡ s)
    → IfSome (slice_get es p) (λ f. before s f.stamp ≡ false)
at-not-before s [] p h = tt
at-not-before s (y ∷ ys) zero h = rw h (before_irrefl s)
at-not-before s (y ∷ ys) (suc p) h = at-not-before s ys p h
