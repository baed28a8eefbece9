-- Whether two logs clash.
use Rattle.std.proofs.Common.{◌≡◌, ℕ, zero, suc, ◌<◌, Bool, true, false, List, [], ◌∷◌, ◌++◌, Option, Some, None, take, drop, length, get_or, refl, ap, sym, subst, ◌∙◌, arith, inl, inr}
use Rattle.std.specs.List.{AllByRecursion, Contains}
use Rattle.std.specs.Prelude.{◌≢◌, slice_get, slice_index_or, IfSome, IsSomeAnd}
use Rattle.zed_types.specs.declared.stamp.Stamp.{Stamp}
use Rattle.zed_types.specs.Stamp.{before, same_stamp}
use Rattle.zed_op.specs.declared.op.Edit.{Edit}
use Rattle.zed_op.specs.Set.{IsRising}
use Rattle.zed_history.specs.Finding.{AllBelow, AllFrom, edit_with}
use Rattle.zed_history.specs.Clash.{Agree, ClashesAt, IsLeastClash}
use Rattle.zed_types.proofs.StampOrder.{same_stamp-itself, same_stamp-true, before_irrefl, before_asym, before_differs, same_stamp-sym}
use Rattle.std.proofs.lemmas.List.{take-append-drop}
use Rattle.std.proofs.lemmas.List.Elements.{Contains-append_right, Contains-append_cases}
use Rattle.zed_history.proofs.Spots.{edit_with-none, edit_with-past}
use Rattle.zed_history.proofs.Walks.{above-rising, drop-item, rising-drop, take-item}

-- a log has no other edit with the stamp of this one
abbrev pub IsFine : List Edit → Edit → Type 0
IsFine es f = IfSome (edit_with f.stamp es) (λ e. e ≡ f)

edit_with-same : (s : Stamp) (f : Edit) (es : List Edit) → f.stamp ≡ s → edit_with s (f ∷ es) ≡ Some f
edit_with-same s f es q = let t : same_stamp f.stamp s ≡ true = rw q (same_stamp-itself s) in rw t

-- a log from a stamp on that doesn't begin with it has no edit of it
pub none-begun : (s : Stamp) (es : List Edit) → IsRising es → AllFrom s es → IfSome (slice_get es 0) (λ f. same_stamp s f.stamp ≡ false)
    → edit_with s es ≡ None
none-begun s es r a h = edit_with-none s es (above-rising s es r a h)

-- the edit of a rising log with the stamp of one of its edits is that edit
later : (x : Edit) (xs : List Edit) (k : ℕ) (e : Edit) → AllByRecursion (λ f. before x.stamp f.stamp ≡ true) xs → k < length xs
    → get_or xs k e ≡ e
    → before x.stamp e.stamp ≡ true
later x [] k e a l q = absurd (omega arith)
later x (y ∷ ys) zero e a l q = rw (← q) a.0
later x (y ∷ ys) (suc k) e a l q = later x ys k e a.1 (omega arith) q

there_at : (es : List Edit) (k : ℕ) (e : Edit) → IsRising es → k < length es → get_or es k e ≡ e → edit_with e.stamp es ≡ Some e
there_at [] k e r l q = absurd (omega arith)
there_at (x ∷ xs) zero e r l q = edit_with-same e.stamp x xs (ap (λ y. y.stamp) q) ∙ ap Some q
there_at (x ∷ xs) (suc k) e r l q =
    let t = before_differs x.stamp e.stamp (later x xs k e r.0 (omega arith) q) in
    rw t (there_at xs k e r.1 (omega arith) q)

pub edit_with-there : (es : List Edit) (e : Edit) → IsRising es → Contains es e → edit_with e.stamp es ≡ Some e
edit_with-there es e r h = there_at es h.0 e r h.1 h.2

-- and the edit with a stamp is one of the log
pub edit_with-stands : (s : Stamp) (es : List Edit) (e : Edit) → edit_with s es ≡ Some e → Contains es e × (e.stamp ≡ s)
edit_with-stands s [] e h = absurd (cc)
edit_with-stands s (x ∷ xs) e h = go (same_stamp x.stamp s) refl (λ k. edit_with-stands s xs e k)
  where
    go : (b : Bool) → same_stamp x.stamp s ≡ b → (edit_with s xs ≡ Some e → Contains xs e × (e.stamp ≡ s))
        → Contains (x ∷ xs) e × (e.stamp ≡ s)
    go true b more =
        let q : x ≡ e = let k = rw b at h in cc in
        ((zero, omega arith, q), ap (λ y. y.stamp) (sym q) ∙ same_stamp-true x.stamp s b)
    go false b more =
        let m = more (rw b at h) in
        ((suc m.0.0, omega (arith, m.0.1), m.0.2), m.1)

-- what is left of a log serves for what is left of the other
pub serve-on : (own rest left : List Edit) (s : Stamp) (fs : List Edit)
    → AllByRecursion (λ f. edit_with f.stamp rest ≡ edit_with f.stamp own) fs
    → ((t : Stamp) → before t s ≡ false → edit_with t left ≡ edit_with t rest) → AllFrom s fs
    → AllByRecursion (λ f. edit_with f.stamp left ≡ edit_with f.stamp own) fs
serve-on own rest left s [] a h n = tt
serve-on own rest left s (f ∷ fs) a h n = (h f.stamp n.0 ∙ a.0, serve-on own rest left s fs a.1 h n.1)

-- an edit from a rising log on
from-head : (f : Edit) (fs : List Edit) → AllByRecursion (λ g. before f.stamp g.stamp ≡ true) fs → AllFrom f.stamp fs
from-head f [] a = tt
from-head f (g ∷ fs) a = (before_asym f.stamp g.stamp a.0, from-head f fs a.1)

pub from-itself : (f : Edit) (fs : List Edit) → IsRising (f ∷ fs) → AllFrom f.stamp (f ∷ fs)
from-itself f fs r = (before_irrefl f.stamp, from-head f fs r.0)

All-push : (es : List Edit) (fs : List Edit) (f : Edit) → AllByRecursion (IsFine es) fs → IsFine es f
    → AllByRecursion (IsFine es) (fs ++ f ∷ [])
All-push es [] f a h = (h, tt)
All-push es (g ∷ fs) f a h = (a.0, All-push es fs f a.1 h)

All-at : (P : Edit → Type 0) (fs : List Edit) (f : Edit) → AllByRecursion P fs → Contains fs f → P f
All-at P fs f a h = go fs a h.0 h.1 h.2
  where
    go : (gs : List Edit) → AllByRecursion P gs → (k : ℕ) → k < length gs → get_or gs k f ≡ f → P f
    go [] b k l q = absurd (omega arith)
    go (g ∷ gs) b zero l q = subst P q b.0
    go (g ∷ gs) b (suc k) l q = go gs b.1 k (omega arith) q

fine-same : (es : List Edit) (e f : Edit) → IsRising es → Contains es e → e.stamp ≡ f.stamp → IsFine es f → e ≡ f
fine-same es e f r m s h =
    let w : edit_with f.stamp es ≡ Some e = rw (← s) (edit_with-there es e r m) in
    rw w at h

pub all-fine : (es fs : List Edit) → IsRising es → AllByRecursion (IsFine es) fs → Agree es fs
all-fine es fs r a e f m n s = fine-same es e f r m s (All-at (IsFine es) fs f a n)

pub fine-from : (own left : List Edit) (f : Edit) → edit_with f.stamp left ≡ edit_with f.stamp own
    → IfSome (edit_with f.stamp left) (λ e. e ≡ f)
    → IsFine own f
fine-from own left f q h = rw q at h

below-from : (s t : Stamp) (es : List Edit) → before s t ≡ false → AllBelow t es → AllBelow s es
below-from s t [] n a = tt
below-from s t (e ∷ es) n a = (through e.stamp s t a.0 n, below-from s t es n a.1)
  where
    through : (a b c : Stamp) → before a c ≡ true → before b c ≡ false → before a b ≡ true
    through a b c p q = grind (arith)

pub from-there : (s t : Stamp) (log rest : List Edit) (n : ℕ) → before s t ≡ false → AllBelow t (take n log) → rest ≡ drop n log
    → edit_with s rest ≡ edit_with s log
from-there s t log rest n b a q =
    ap (edit_with s) q ∙ sym (edit_with-past s (take n log) (drop n log) (below-from s t (take n log) b a)) ∙ ap (edit_with s) (take-append-drop n log)

Contains-from : (fs : List Edit) (i : ℕ) (f : Edit) → Contains (drop i fs) f → Contains fs f
Contains-from fs i f m = subst (λ xs. Contains xs f) (take-append-drop i fs) (Contains-append_right (take i fs) (drop i fs) f m)

-- the first clash of two logs, of which all edits of the one that are behind are fine
pub first-clash : (own other left : List Edit) (f : Edit) (i : ℕ) → IsRising own → IsRising other → drop i other ≡ f ∷ drop (suc i) other
    → edit_with f.stamp left ≡ edit_with f.stamp own → AllByRecursion (IsFine own) (take i other)
    → IsSomeAnd (edit_with f.stamp left) (λ e. e ≢ f)
    → IsLeastClash own other f.stamp
first-clash own other left f i r s d q fine h = record { clashes = clash (edit_with f.stamp own) refl; least = least }
  where
    here : Contains other f
    here = Contains-from other i f (rw d (zero, omega arith, refl))

    clash : (o : Option Edit) → edit_with f.stamp own ≡ o → ClashesAt own other f.stamp
    clash None w = absurd (let k = rw (q, w) at h in k)
    clash (Some e) w =
        let k : e ≢ f = (let k' = rw (q, w) at h in k') in
        let m = edit_with-stands f.stamp own e w in
        (e, f, m.0, here, m.1, refl, k)

    at : (t : Stamp) (e g : Edit) → Contains own e → Contains other g → e.stamp ≡ t → g.stamp ≡ t → e ≢ g → before t f.stamp ≡ false
    at t e g m n u v k =
        elim (Contains-append_cases (take i other) (drop i other) g (subst (λ xs. Contains xs g) (sym (take-append-drop i other)) n)) [
          | inl x ↦ absurd (k (fine-same own e g r m (u ∙ sym v) (All-at (IsFine own) (take i other) g fine x)))
          | inr x ↦ (let from : AllFrom f.stamp (drop i other) = rw d (from-itself f (drop (suc i) other) (subst IsRising d (rising-drop other i s))) in
              let b : before g.stamp f.stamp ≡ false = All-at (λ y. before y.stamp f.stamp ≡ false) (drop i other) g from x in
              rw (← v) b)
        ]

    least : (t : Stamp) → ClashesAt own other t → before t f.stamp ≡ false
    least t (e, g, m, n, u, v, k) = at t e g m n u v k

-- the next edit of a log, and what is left of the other log for it and for those behind it
pub record IsNextOf (own other left : List Edit) (f : Edit) (i : ℕ) : Type 0 where
  pub cut : drop i other ≡ f ∷ drop (suc i) other
  pub seen : take (suc i) other ≡ take i other ++ f ∷ []
  pub here : edit_with f.stamp left ≡ edit_with f.stamp own
  pub serves : AllByRecursion (λ g. edit_with g.stamp left ≡ edit_with g.stamp own) (drop (suc i) other)

pub serve-step : (own other rest left : List Edit) (f : Edit) (i : ℕ) → IsRising other → i < length other → f ≡ slice_index_or other i f
    → AllByRecursion (λ g. edit_with g.stamp rest ≡ edit_with g.stamp own) (drop i other)
    → ((t : Stamp) → before t f.stamp ≡ false → edit_with t left ≡ edit_with t rest)
    → IsNextOf own other left f i
serve-step own other rest left f i r l at a h =
    let d = drop-item other i f l at in
    let all = serve-on own rest left f.stamp (f ∷ drop (suc i) other) (subst (AllByRecursion (λ g. edit_with g.stamp rest ≡ edit_with g.stamp own)) d a) h (from-itself f (drop (suc i) other) (subst IsRising d (rising-drop other i r))) in
    record { cut = d; seen = take-item other i f l at; here = all.0; serves = all.1 }

pub fine-step : (own other left : List Edit) (f : Edit) (i : ℕ) → take (suc i) other ≡ take i other ++ f ∷ []
    → AllByRecursion (IsFine own) (take i other) → edit_with f.stamp left ≡ edit_with f.stamp own
    → IfSome (edit_with f.stamp left) (λ e. e ≡ f)
    → AllByRecursion (IsFine own) (take (suc i) other)
fine-step own other left f i t a q h = rw t (All-push own (take i other) f a (fine-from own left f q h))

pub none-begun-by : (s : Stamp) (es : List Edit) (f : Edit) → IsRising es → AllFrom s es → slice_get es 0 ≡ Some f
    → same_stamp f.stamp s ≡ false
    → edit_with s es ≡ None
none-begun-by s es f r a g n =
    let h : IfSome (slice_get es 0) (λ x. same_stamp s x.stamp ≡ false) = rw g (same_stamp-sym s f.stamp ∙ n) in
    none-begun s es r a h
