-- Runs of edits in stamp order, no stamp in two of them.
use Rattle.std.proofs.Common.{◌≡◌, ◌∙◌, ◌≤◌, ◌<◌, ◌+◌, ℕ, zero, suc, Bool, true, false, cond, arith, length, take, List, [], ◌∷◌, ◌++◌, Some, None, Option, refl, ap, sym, subst, append_assoc, append-nil}
use Rattle.std.specs.List.{AllByRecursion}
use Rattle.std.proofs.lemmas.List.{length-append}
use Rattle.std.specs.Prelude.{slice_index_or, slice_set}
use mathlib.Core.Logic.{◌⊎◌, inl, inr}
use Rattle.zed_types.specs.declared.stamp.Stamp.{Stamp}
use Rattle.zed_types.specs.Stamp.{before, same_stamp}
use Rattle.zed_types.proofs.StampOrder.{same_stamp-itself, same_stamp-true}
use Rattle.zed_op.specs.declared.op.Edit.{Edit}
use Rattle.zed_op.specs.Set.{IsRising, union, with_edit}
use Rattle.zed_op.proofs.SetLaws.{each-with_edit}
use Rattle.zed_history.specs.Finding.{AllBelow, AreNew, edit_with, first_of}
use Rattle.zed_history.specs.Runs.{AreRuns, count_in, found_in, joined}
use Rattle.zed_history.proofs.Lookups.{first-assoc, first-none, found-union, found-with_edit, rising-found}
use Rattle.zed_history.proofs.Opened.{SetsHold, still-new}
use Rattle.zed_history.proofs.Spots.{with_edit-between}

abbrev Runs : Type 0
Runs = List (List Edit)

abbrev Found : Type 0
Found = Option Edit

pub first-both : (a b : Found) → first_of a b ≡ None → (a ≡ None) × (b ≡ None)
first-both None b h = (refl, h)
first-both (Some x) b h = absurd (let bad : Some x ≡ None = h in cc)

-- ---- what runs are together

pub runs-rise : SetsHold → (rs : Runs) → AreRuns rs → IsRising (joined rs)
runs-rise laws [] a = tt
runs-rise laws (r ∷ rs) a = laws.joins r (joined rs) a.0

pub found-joined : SetsHold → (s : Stamp) (rs : Runs) → AreRuns rs → edit_with s (joined rs) ≡ found_in s rs
found-joined laws s [] a = refl
found-joined laws s (r ∷ rs) a = found-union laws.rises s r (joined rs) a.0 ∙ ap (first_of (edit_with s r)) (found-joined laws s rs a.2)

-- an edit is found in all of them where it is found in one
pub found-whole : SetsHold → (s : Stamp) (rs : Runs) (whole : List Edit) → AreRuns rs → joined rs ≡ whole
    → edit_with s whole ≡ found_in s rs
found-whole laws s rs whole a is = sym (ap (edit_with s) is) ∙ found-joined laws s rs a

pub found-append : (s : Stamp) (rs qs : Runs) → found_in s (rs ++ qs) ≡ first_of (found_in s rs) (found_in s qs)
found-append s [] qs = refl
found-append s (r ∷ rs) qs =
    ap (first_of (edit_with s r)) (found-append s rs qs) ∙ sym (first-assoc (edit_with s r) (found_in s rs) (found_in s qs))

-- runs in which the same is found are the same together
pub runs-same : SetsHold → (rs qs : Runs) → AreRuns rs → AreRuns qs → ((s : Stamp) → found_in s rs ≡ found_in s qs) → joined rs ≡ joined qs
runs-same laws rs qs a b same =
    rising-found laws.known (joined rs) (joined qs) (runs-rise laws rs a) (runs-rise laws qs b) (λ s. found-joined laws s rs a ∙ same s ∙ sym (found-joined laws s qs b))

-- runs in which one more edit is found have that edit together
pub joined-more : SetsHold → (e : Edit) (rs qs : Runs) → AreRuns rs → AreRuns qs
    → ((s : Stamp) → found_in s qs ≡ first_of (found_in s rs) (edit_with s (e ∷ [])))
    → joined qs ≡ with_edit e (joined rs)
joined-more laws e rs qs a b more =
    rising-found laws.known (joined qs) (with_edit e (joined rs)) (runs-rise laws qs b) (laws.rises e (joined rs) (runs-rise laws rs a)) same
  where
    same : (s : Stamp) → edit_with s (joined qs) ≡ edit_with s (with_edit e (joined rs))
    same s =
        found-joined laws s qs b
        ∙ more s
        ∙ ap (λ o. first_of o (edit_with s (e ∷ []))) (sym (found-joined laws s rs a))
        ∙ sym (found-with_edit s e (joined rs) (runs-rise laws rs a))

-- ---- two runs joined

new-union : (r es fs : List Edit) → AreNew r es → AreNew r fs → AreNew r (union es fs)
new-union r es [] n m = n
new-union r es (f ∷ fs) n m = new-union r (with_edit f es) fs (each-with_edit (λ (g : Edit). edit_with g.stamp r ≡ None) f es m.0 n) m.1

all-merged : (r a b : List Edit) (front : Runs) → AllByRecursion (AreNew r) (front ++ a ∷ b ∷ [])
    → AllByRecursion (AreNew r) (front ++ union a b ∷ [])
all-merged r a b [] n = let rest : AllByRecursion (AreNew r) (b ∷ []) = n.1 in (new-union r a b n.0 rest.0, tt)
all-merged r a b (f ∷ front) n = (n.0, all-merged r a b front n.1)

pub runs-merge : SetsHold → (front : Runs) (a b : List Edit) → AreRuns (front ++ a ∷ b ∷ []) → AreRuns (front ++ union a b ∷ [])
runs-merge laws [] a b h = (laws.joins a b h.0, tt, tt)
runs-merge laws (f ∷ front) a b h = (h.0, all-merged f a b front h.1, runs-merge laws front a b h.2)

pub record ArePair (a b : List Edit) : Type 0 where
  pub first : IsRising a
  pub second : IsRising b
  pub apart : AreNew a b

pair : (front : Runs) (a b : List Edit) → AreRuns (front ++ a ∷ b ∷ []) → ArePair a b
pair [] a b h =
    let next : AllByRecursion (AreNew a) (b ∷ []) = h.1 in
    let more : AreRuns (b ∷ []) = h.2 in
    record { first = h.0; second = more.0; apart = next.0 }
pair (f ∷ front) a b h = pair front a b h.2

-- one behind runs, with the last of them
pub last-two : (rs front : Runs) (a b : List Edit) → rs ≡ front ++ a ∷ [] → rs ++ b ∷ [] ≡ front ++ a ∷ b ∷ []
last-two rs front a b is = ap (λ (qs : Runs). qs ++ b ∷ []) is ∙ append_assoc front (a ∷ []) (b ∷ [])

pub last-pair : (rs front : Runs) (a b : List Edit) → rs ≡ front ++ a ∷ [] → AreRuns (rs ++ b ∷ []) → ArePair a b
last-pair rs front a b is h = pair front a b (subst AreRuns (last-two rs front a b is) h)

pub found-merge : SetsHold → (s : Stamp) (front : Runs) (a b : List Edit) → IsRising a
    → found_in s (front ++ union a b ∷ []) ≡ found_in s (front ++ a ∷ b ∷ [])
found-merge laws s front a b r =
    found-append s front (union a b ∷ []) ∙ ap (first_of (found_in s front)) step ∙ sym (found-append s front (a ∷ b ∷ []))
  where
    step : found_in s (union a b ∷ []) ≡ found_in s (a ∷ b ∷ [])
    step =
        first-none (edit_with s (union a b)) ∙ found-union laws.rises s a b r
        ∙ ap (first_of (edit_with s a)) (sym (first-none (edit_with s b)))

-- ---- an edit in the last run

all-more : (r run : List Edit) (e : Edit) (front : Runs) → AllByRecursion (AreNew r) (front ++ run ∷ []) → edit_with e.stamp r ≡ None
    → AllByRecursion (AreNew r) (front ++ with_edit e run ∷ [])
all-more r run e [] n m = (each-with_edit (λ (g : Edit). edit_with g.stamp r ≡ None) e run m n.0, tt)
all-more r run e (f ∷ front) n m = (n.0, all-more r run e front n.1 m)

pub runs-more : SetsHold → (e : Edit) (front : Runs) (run : List Edit) → AreRuns (front ++ run ∷ [])
    → found_in e.stamp (front ++ run ∷ []) ≡ None
    → AreRuns (front ++ with_edit e run ∷ [])
runs-more laws e [] run h none = (laws.rises e run h.0, tt, tt)
runs-more laws e (f ∷ front) run h none =
    let both = first-both (edit_with e.stamp f) (found_in e.stamp (front ++ run ∷ [])) none in
    (h.0, all-more f run e front h.1 both.0, runs-more laws e front run h.2 both.1)

pub last-rises : (front : Runs) (run : List Edit) → AreRuns (front ++ run ∷ []) → IsRising run
last-rises [] run h = h.0
last-rises (f ∷ front) run h = last-rises front run h.2

pub found-in-last : SetsHold → (s : Stamp) (e : Edit) (front : Runs) (run : List Edit) → AreRuns (front ++ run ∷ [])
    → found_in s (front ++ with_edit e run ∷ []) ≡ first_of (found_in s (front ++ run ∷ [])) (edit_with s (e ∷ []))
found-in-last laws s e front run h =
    found-append s front (with_edit e run ∷ [])
    ∙ ap (first_of (found_in s front)) (first-none (edit_with s (with_edit e run)) ∙ found-with_edit s e run (last-rises front run h))
    ∙ sym (first-assoc (found_in s front) (edit_with s run) (edit_with s (e ∷ [])))
    ∙ ap (λ o. first_of (first_of (found_in s front) o) (edit_with s (e ∷ []))) (sym (first-none (edit_with s run)))
    ∙ ap (λ o. first_of o (edit_with s (e ∷ []))) (sym (found-append s front (run ∷ [])))

-- ---- an edit behind the last run

run-rises : SetsHold → (e : Edit) (run : List Edit) → IsRising run → AllBelow e.stamp run → with_edit e run ≡ run ++ e ∷ []
run-rises laws e run r below = ap (with_edit e) (sym (append-nil run)) ∙ with_edit-between e run [] below tt

found-more : SetsHold → (s : Stamp) (e : Edit) (run : List Edit) → IsRising run → AllBelow e.stamp run
    → edit_with s (run ++ e ∷ []) ≡ first_of (edit_with s run) (edit_with s (e ∷ []))
found-more laws s e run r below = sym (ap (edit_with s) (run-rises laws e run r below)) ∙ found-with_edit s e run r

pub runs-push : SetsHold → (e : Edit) (front : Runs) (run : List Edit) → AreRuns (front ++ run ∷ [])
    → found_in e.stamp (front ++ run ∷ []) ≡ None → AllBelow e.stamp run
    → AreRuns (front ++ (run ++ e ∷ []) ∷ [])
runs-push laws e front run h none below =
    subst (λ (es : List Edit). AreRuns (front ++ es ∷ [])) (run-rises laws e run (last-rises front run h) below) (runs-more laws e front run h none)

pub found-push : SetsHold → (s : Stamp) (e : Edit) (front : Runs) (run : List Edit) → AreRuns (front ++ run ∷ []) → AllBelow e.stamp run
    → found_in s (front ++ (run ++ e ∷ []) ∷ []) ≡ first_of (found_in s (front ++ run ∷ [])) (edit_with s (e ∷ []))
found-push laws s e front run h below =
    sym (ap (λ (es : List Edit). found_in s (front ++ es ∷ [])) (run-rises laws e run (last-rises front run h) below)) ∙ found-in-last laws s e front run h

-- ---- an edit behind the first run

all-first : (e : Edit) (log : List Edit) (rs : Runs) → IsRising log → AllByRecursion (AreNew log) rs → found_in e.stamp rs ≡ None
    → AllByRecursion (AreNew (with_edit e log)) rs
all-first e log [] r n none = tt
all-first e log (q ∷ rs) r n none =
    let both = first-both (edit_with e.stamp q) (found_in e.stamp rs) none in
    (still-new e log q r n.0 both.0, all-first e log rs r n.1 both.1)

pub runs-first : SetsHold → (e : Edit) (log : List Edit) (rs : Runs) → AreRuns (log ∷ rs) → found_in e.stamp (log ∷ rs) ≡ None
    → AllBelow e.stamp log
    → AreRuns ((log ++ e ∷ []) ∷ rs)
runs-first laws e log rs h none below =
    let both = first-both (edit_with e.stamp log) (found_in e.stamp rs) none in
    let last = run-rises laws e log h.0 below in
    (subst IsRising last (laws.rises e log h.0), subst (λ es. AllByRecursion (AreNew es) rs) last (all-first e log rs h.0 h.1 both.1), h.2)

first-swap : (a b c : Found) → (b ≡ None) ⊎ (c ≡ None) → first_of (first_of a b) c ≡ first_of (first_of a c) b
first-swap (Some x) b c h = refl
first-swap None b c (inl none) = rw none (sym (first-none c))
first-swap None b c (inr none) = rw none (first-none b)

one-found : (s : Stamp) (e : Edit) (rs : Runs) → found_in e.stamp rs ≡ None → (edit_with s (e ∷ []) ≡ None) ⊎ (found_in s rs ≡ None)
one-found s e rs none = go (same_stamp e.stamp s) refl
  where
    go : (b : Bool) → same_stamp e.stamp s ≡ b → (edit_with s (e ∷ []) ≡ None) ⊎ (found_in s rs ≡ None)
    go true q = inr (subst (λ t. found_in t rs ≡ None) (same_stamp-true e.stamp s q) none)
    go false q = inl (rw q refl)

pub found-first : SetsHold → (s : Stamp) (e : Edit) (log : List Edit) (rs : Runs) → AreRuns (log ∷ rs) → found_in e.stamp (log ∷ rs) ≡ None
    → AllBelow e.stamp log
    → found_in s ((log ++ e ∷ []) ∷ rs) ≡ first_of (found_in s (log ∷ rs)) (edit_with s (e ∷ []))
found-first laws s e log rs h none below =
    let both = first-both (edit_with e.stamp log) (found_in e.stamp rs) none in
    ap (λ o. first_of o (found_in s rs)) (found-more laws s e log h.0 below)
    ∙ first-swap (edit_with s log) (edit_with s (e ∷ [])) (found_in s rs) (one-found s e rs both.1)

-- ---- the last run joined to the first

-- what stands in one of two runs that are apart isn't in the other
some-there : (x : Edit) (front rest : List Edit) → edit_with x.stamp (front ++ x ∷ rest) ≡ None → ⊥
some-there x [] rest h = let bad : Some x ≡ None = rw (same_stamp-itself x.stamp) at h in cc
some-there x (f ∷ front) rest h = go (same_stamp f.stamp x.stamp) refl (λ k. some-there x front rest k)
  where
    go : (b : Bool) → same_stamp f.stamp x.stamp ≡ b → (edit_with x.stamp (front ++ x ∷ rest) ≡ None → ⊥) → ⊥
    go true q more = let bad : Some f ≡ None = rw q at h in cc
    go false q more = more (rw q at h)

new-in : (x : Edit) (a b : List Edit) → (edit_with x.stamp a ≡ None → ⊥) → AreNew a b → edit_with x.stamp b ≡ None
new-in x a [] some n = refl
new-in x a (f ∷ fs) some n = go (same_stamp f.stamp x.stamp) refl (new-in x a fs some n.1)
  where
    go : (b : Bool) → same_stamp f.stamp x.stamp ≡ b → edit_with x.stamp fs ≡ None → edit_with x.stamp (f ∷ fs) ≡ None
    go true q more = absurd (some (subst (λ t. edit_with t a ≡ None) (same_stamp-true f.stamp x.stamp q) n.0))
    go false q more = rw q more

turned : (front rest b : List Edit) → AreNew (front ++ rest) b → AreNew b rest
turned front [] b n = tt
turned front (x ∷ rest) b n = (
  new-in x (front ++ x ∷ rest) b (some-there x front rest) n,
  turned (front ++ x ∷ []) rest b (subst (λ es. AreNew es b) (sym (append_assoc front (x ∷ []) rest)) n),
)

pub apart-turned : (a b : List Edit) → AreNew a b → AreNew b a
apart-turned a b n = turned [] a b n

abbrev pub AreNewIn : List Edit → Runs → Type 0
AreNewIn q rs = AllByRecursion (λ r. AreNew r q) rs

cut-last : (r q : List Edit) (rs : Runs) → AllByRecursion (AreNew r) (rs ++ q ∷ []) → AllByRecursion (AreNew r) rs × AreNew r q
cut-last r q [] n = (tt, n.0)
cut-last r q (p ∷ rs) n = let more = cut-last r q rs n.1 in ((n.0, more.0), more.1)

runs-cut : (q : List Edit) (rs : Runs) → AreRuns (rs ++ q ∷ []) → AreRuns rs × AreNewIn q rs
runs-cut q [] h = (tt, tt)
runs-cut q (r ∷ rs) h =
    let more = runs-cut q rs h.2 in
    let cut = cut-last r q rs h.1 in
    ((h.0, cut.0, more.0), (cut.1, more.1))

new-to-both : SetsHold → (log q r : List Edit) → IsRising log → AreNew log r → AreNew q r → AreNew (union log q) r
new-to-both laws log q [] i n m = tt
new-to-both laws log q (f ∷ r) i n m =
    let here : edit_with f.stamp (union log q) ≡ None =
    found-union laws.rises f.stamp log q i ∙ ap (λ o. first_of o (edit_with f.stamp q)) n.0 ∙ m.0 in
    (here, new-to-both laws log q r i n.1 m.1)

all-new-to-both : SetsHold → (log q : List Edit) (rs : Runs) → IsRising log → AllByRecursion (AreNew log) rs → AreNewIn q rs
    → AllByRecursion (AreNew (union log q)) rs
all-new-to-both laws log q [] i n m = tt
all-new-to-both laws log q (r ∷ rs) i n m = (new-to-both laws log q r i n.0 (apart-turned r q m.0), all-new-to-both laws log q rs i n.1 m.1)

pub runs-close : SetsHold → (log q : List Edit) (rs : Runs) → AreRuns (log ∷ rs ++ q ∷ []) → AreRuns (union log q ∷ rs)
runs-close laws log q rs h =
    let cut = cut-last log q rs h.1 in
    let more = runs-cut q rs h.2 in
    (laws.joins log q h.0, all-new-to-both laws log q rs h.0 cut.0 more.1, more.0)

pub close-apart : (log q : List Edit) (rs : Runs) → AreRuns (log ∷ rs ++ q ∷ []) → AreNew log q
close-apart log q rs h = (cut-last log q rs h.1).1

-- of two that are apart from a run one at most has a stamp
new-of : (s : Stamp) (r q : List Edit) (g : Edit) → AreNew r q → edit_with s q ≡ Some g → edit_with s r ≡ None
new-of s r [] g n some = absurd (let bad : None ≡ Some g = some in cc)
new-of s r (f ∷ q) g n some = go (same_stamp f.stamp s) refl (λ k. new-of s r q g n.1 k)
  where
    go : (b : Bool) → same_stamp f.stamp s ≡ b → (edit_with s q ≡ Some g → edit_with s r ≡ None) → edit_with s r ≡ None
    go true k more = subst (λ t. edit_with t r ≡ None) (same_stamp-true f.stamp s k) n.0
    go false k more = more (rw k at some)

none-in : (s : Stamp) (q : List Edit) (g : Edit) (rs : Runs) → AreNewIn q rs → edit_with s q ≡ Some g → found_in s rs ≡ None
none-in s q g [] n some = refl
none-in s q g (r ∷ rs) n some = ap (λ (o : Found). first_of o (found_in s rs)) (new-of s r q g n.0 some) ∙ none-in s q g rs n.1 some

one-of : (s : Stamp) (q : List Edit) (rs : Runs) → AreNewIn q rs → (found_in s rs ≡ None) ⊎ (edit_with s q ≡ None)
one-of s q rs n = go (edit_with s q) refl
  where
    go : (o : Found) → edit_with s q ≡ o → (found_in s rs ≡ None) ⊎ (edit_with s q ≡ None)
    go None k = inr k
    go (Some g) k = inl (none-in s q g rs n k)

pub found-close : SetsHold → (s : Stamp) (log q : List Edit) (rs : Runs) → AreRuns (log ∷ rs ++ q ∷ [])
    → found_in s (union log q ∷ rs) ≡ found_in s (log ∷ rs ++ q ∷ [])
found-close laws s log q rs h =
    ap (λ (o : Found). first_of o (found_in s rs)) (found-union laws.rises s log q h.0)
    ∙ sym (first-swap (edit_with s log) (found_in s rs) (edit_with s q) (one-of s q rs (runs-cut q rs h.2).1))
    ∙ first-assoc (edit_with s log) (found_in s rs) (edit_with s q)
    ∙ ap (λ (o : Found). first_of (edit_with s log) (first_of (found_in s rs) o)) (sym (first-none (edit_with s q)))
    ∙ ap (first_of (edit_with s log)) (sym (found-append s rs (q ∷ [])))

pub joined-close : SetsHold → (log q : List Edit) (rs : Runs) → AreRuns (log ∷ rs ++ q ∷ [])
    → joined (union log q ∷ rs) ≡ joined (log ∷ rs ++ q ∷ [])
joined-close laws log q rs h =
    runs-same laws (union log q ∷ rs) (log ∷ rs ++ q ∷ []) (runs-close laws log q rs h) h (λ s. found-close laws s log q rs h)

-- ---- one of the runs

pub found-at : (s : Stamp) (rs : Runs) (i : ℕ) (r : List Edit) (f : Edit) → i < length rs → r ≡ slice_index_or rs i r
    → found_in s (take i rs) ≡ None → edit_with s r ≡ Some f
    → found_in s rs ≡ Some f
found-at s [] i r f l is none some = absurd (omega arith)
found-at s (q ∷ rs) zero r f l is none some = ap (λ (o : Found). first_of o (found_in s rs)) (ap (edit_with s) (sym is) ∙ some)
found-at s (q ∷ rs) (suc i) r f l is none some =
    let both = first-both (edit_with s q) (found_in s (take i rs)) none in
    ap (λ (o : Found). first_of o (found_in s rs)) both.0 ∙ found-at s rs i r f (omega arith) is both.1 some

-- runs stay as they are where one is put back
pub put-back : (rs : Runs) (i : ℕ) (r : List Edit) → i < length rs → r ≡ slice_index_or rs i r → slice_set rs i r ≡ rs
put-back [] i r l is = absurd (omega arith)
put-back (q ∷ rs) zero r l is = ap (λ (p : List Edit). p ∷ rs) is
put-back (q ∷ rs) (suc i) r l is = ap (λ (qs : Runs). q ∷ qs) (put-back rs i r (omega arith) is)

pub none-on : (s : Stamp) (rs : Runs) (i : ℕ) (r : List Edit) → i < length rs → r ≡ slice_index_or rs i r → found_in s (take i rs) ≡ None
    → edit_with s r ≡ None
    → found_in s (take (suc i) rs) ≡ None
none-on s [] i r l is none not = absurd (omega arith)
none-on s (q ∷ []) zero r l is none not = ap (λ (o : Found). first_of o None) (ap (edit_with s) (sym is) ∙ not)
none-on s (q ∷ p ∷ rs) zero r l is none not = ap (λ (o : Found). first_of o None) (ap (edit_with s) (sym is) ∙ not)
none-on s (q ∷ rs) (suc i) r l is none not =
    let both = first-both (edit_with s q) (found_in s (take i rs)) none in
    ap (λ (o : Found). first_of o (found_in s (take (suc i) rs))) both.0 ∙ none-on s rs i r (omega arith) is both.1 not

-- ---- how many

length-with : (e : Edit) (es : List Edit) → length (with_edit e es) ≤ length es + 1
length-with e [] = omega arith
length-with e (f ∷ fs) = go (before e.stamp f.stamp) (same_stamp e.stamp f.stamp) (length-with e fs)
  where
    go : (c d : Bool) → length (with_edit e fs) ≤ length fs + 1
        → length (cond c (e ∷ f ∷ fs) (cond d (f ∷ fs) (f ∷ with_edit e fs))) ≤ length (f ∷ fs) + 1
    go true d h = omega arith
    go false true h = omega arith
    go false false h = omega arith

pub length-union : (es fs : List Edit) → length (union es fs) ≤ length es + length fs
length-union es [] = omega arith
length-union es (f ∷ fs) = let one = length-with f es in let rest = length-union (with_edit f es) fs in omega arith

pub count-merge : (front : Runs) (a b : List Edit) → count_in (front ++ union a b ∷ []) ≤ count_in (front ++ a ∷ b ∷ [])
count-merge [] a b = let most = length-union a b in omega arith
count-merge (f ∷ front) a b = let most = count-merge front a b in omega arith

pub count-last : (front : Runs) (a : List Edit) → count_in (front ++ a ∷ []) ≡ count_in front + length a
count-last [] a = omega arith
count-last (f ∷ front) a = let most = count-last front a in omega arith

pub count-in-last : (front : Runs) (a : List Edit) (e : Edit) → count_in (front ++ with_edit e a ∷ []) ≤ count_in (front ++ a ∷ []) + 1
count-in-last [] a e = let more = length-with e a in omega arith
count-in-last (f ∷ front) a e = let most = count-in-last front a e in omega arith

pub count-push : (front : Runs) (a : List Edit) (e : Edit) → count_in (front ++ (a ++ e ∷ []) ∷ []) ≡ count_in (front ++ a ∷ []) + 1
count-push [] a e = let more = length-append a (e ∷ []) in omega arith
count-push (f ∷ front) a e = let most = count-push front a e in omega arith

-- runs without any edit are nothing
pub none-joined : (rs : Runs) → count_in rs ≤ 0 → joined rs ≡ []
none-joined [] h = refl
none-joined ([] ∷ rs) h = ap (union []) (none-joined rs (omega arith))
none-joined ((e ∷ r) ∷ rs) h = absurd (omega arith)

pub none-more : (log : List Edit) (rs : Runs) → count_in rs ≤ 0 → joined (log ∷ rs) ≡ log
none-more log rs h = ap (union log) (none-joined rs h)

-- a run without edits behind others
pub runs-empty : (rs : Runs) → AreRuns rs → AreRuns (rs ++ [] ∷ [])
runs-empty [] h = (tt, tt, tt)
runs-empty (r ∷ rs) h = (h.0, all-empty rs h.1, runs-empty rs h.2)
  where
    all-empty : (qs : Runs) → AllByRecursion (AreNew r) qs → AllByRecursion (AreNew r) (qs ++ [] ∷ [])
    all-empty [] n = (tt, tt)
    all-empty (q ∷ qs) n = (n.0, all-empty qs n.1)

-- what is neither in the log nor in the runs that ended is in the last run, or nowhere
pub found-last : (s : Stamp) (log run : List Edit) (ended : Runs) → edit_with s log ≡ None → found_in s ended ≡ None
    → found_in s (log ∷ (ended ++ run ∷ [])) ≡ edit_with s run
found-last s log run ended none others =
    ap (λ (o : Found). first_of o (found_in s (ended ++ run ∷ []))) none
    ∙ found-append s ended (run ∷ [])
    ∙ ap (λ (o : Found). first_of o (found_in s (run ∷ []))) others
    ∙ first-none (edit_with s run)

-- what is in no other run is sought in the last one
pub found-behind : SetsHold → (s : Stamp) (log run all : List Edit) (ended : Runs) → AreRuns (log ∷ (ended ++ run ∷ []))
    → joined (log ∷ (ended ++ run ∷ [])) ≡ all → edit_with s log ≡ None → found_in s ended ≡ None
    → edit_with s all ≡ edit_with s run
found-behind laws s log run all ended are is none others =
    found-whole laws s (log ∷ (ended ++ run ∷ [])) all are is ∙ found-last s log run ended none others

pub found-empty : (s : Stamp) (rs : Runs) → found_in s (rs ++ [] ∷ []) ≡ found_in s rs
found-empty s rs = found-append s rs ([] ∷ []) ∙ first-none (found_in s rs)
