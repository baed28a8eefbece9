-- An insertion that comes late, put in by the skip rule, gives the text of the edits in rising stamp order.
use Rattle.std.proofs.Common.{◌≡◌, ℕ, ◌+◌, Bool, true, false, cond, List, [], ◌∷◌, Option, Some, None, refl, ap, ◌∙◌, sym, arith}
use Rattle.std.specs.List.{AllByRecursion}
use Rattle.zed_types.specs.declared.stamp.Stamp.{Stamp}
use Rattle.zed_types.specs.declared.names.TextId.{TextId}
use Rattle.zed_types.specs.declared.names.ElemId.{ElemId}
use Rattle.zed_types.specs.declared.text.ByteRange.{ByteRange}
use Rattle.zed_op.specs.declared.op.Op.{Op}
use Rattle.zed_op.specs.declared.op.Op.TheVariants.{TextInsert, TextDelete}
use Rattle.zed_op.specs.declared.op.Edit.{Edit}
use Rattle.zed_types.specs.Stamp.{before, same_stamp}
use Rattle.zed_types.specs.Names.{same_text, same_element}
use Rattle.zed_types.specs.Text.{NoneLater, run_from, behind, put_after, pass_later, put_late, kill, kill_within}
use Rattle.zed_laws.proofs.SkipRule.{NotNamed, Later, PlaceNotIn, put_late-put_after}
use Rattle.zed_types.specs.declared.text.TextByte.{TextByte}
use Rattle.zed_types.proofs.Passing.{put_late-none_later, kill-append}

-- what an edit does to the elements of a text that is there
abbrev pub elements_step : TextId → Stamp → Op → List TextByte → List TextByte
elements_step t s (TextInsert u after bytes) xs = cond (same_text u t) (put_after after (run_from s 0 bytes) xs) xs
elements_step t s (TextDelete u x) xs = cond (same_text u t) (kill x xs) xs
elements_step t s _ xs = xs

abbrev pub elements_steps : TextId → List Edit → List TextByte → List TextByte
elements_steps t [] xs = xs
elements_steps t (e ∷ es) xs = elements_steps t es (elements_step t e.stamp e.op xs)

-- each byte of a run has the stamp of the run
run-later : (s r : Stamp) (n : ℕ) (bytes : List ℕ) → before s r ≡ true → Later s (run_from r n bytes)
run-later s r n [] h = tt
run-later s r n (b ∷ bytes) h = (h, run-later s r (n + 1) bytes h)

run-not_named : (a : ElemId) (r : Stamp) (n : ℕ) (bytes : List ℕ) → same_stamp r a.name.stamp ≡ false → NotNamed a (run_from r n bytes)
run-not_named a r n [] h = tt
run-not_named a r n (b ∷ bytes) h = (rw h refl, run-not_named a r (n + 1) bytes h)

-- a place is the head, or after an element of an earlier edit
abbrev pub PlaceBelow : Stamp → Option ElemId → Type 0
PlaceBelow s None = Unit {0}
PlaceBelow s (Some a) = before a.name.stamp s ≡ true

-- no place of an element of the edit `s`
abbrev pub PlaceNotOf : Stamp → Option ElemId → Type 0
PlaceNotOf s None = Unit {0}
PlaceNotOf s (Some a) = same_stamp s a.name.stamp ≡ false

run-place_not_in : (r : Stamp) (n : ℕ) (bytes : List ℕ) (a : Option ElemId) → PlaceNotOf r a → PlaceNotIn a (run_from r n bytes)
run-place_not_in r n bytes None h = tt
run-place_not_in r n bytes (Some a) h = run-not_named a r n bytes h

-- an edit that is later than `s` and names no byte of `s`
abbrev pub NamesNoByteOf : Stamp → Op → Type 0
NamesNoByteOf s (TextInsert u after bytes) = PlaceNotOf s after
NamesNoByteOf s (TextDelete u x) = same_stamp s x.stamp ≡ false
NamesNoByteOf s _ = Unit {0}

place_below-not_of : (s r : Stamp) (a : Option ElemId) → before s r ≡ true → PlaceBelow s a → PlaceNotOf r a
place_below-not_of s r None h p = tt
place_below-not_of s r (Some a) h p = grind (arith)

-- marking dead keeps names, so it can change places with the skip rule
pub kill-run : (x : ByteRange) (r : Stamp) (n : ℕ) (bytes : List ℕ) → same_stamp r x.stamp ≡ false
    → kill x (run_from r n bytes) ≡ run_from r n bytes
kill-run x r n [] h = refl
kill-run x r n (b ∷ bytes) h = rw (h, kill-run x r (n + 1) bytes h)

kill-pass_later : (s : Stamp) (x : ByteRange) (e xs : List TextByte) → kill x e ≡ e
    → pass_later s e (kill x xs) ≡ kill x (pass_later s e xs)
kill-pass_later s x e [] h = sym h
kill-pass_later s x e (y ∷ xs) h = go (kill-pass_later s x e xs h) (before s y.id.name.stamp) refl
  where
    go : pass_later s e (kill x xs) ≡ kill x (pass_later s e xs) → (b : Bool) → before s y.id.name.stamp ≡ b
        → pass_later s e (kill x (y ∷ xs)) ≡ kill x (pass_later s e (y ∷ xs))
    go more true b = rw b (ap (λ rest. kill_within x y ∷ rest) more)
    go more false b = rw b (rw (kill-append, h) refl)

kill-behind : (s : Stamp) (x : ByteRange) (e : List TextByte) (a : ElemId) (xs : List TextByte) → kill x e ≡ e
    → behind a (pass_later s e) (kill x xs) ≡ kill x (behind a (pass_later s e) xs)
kill-behind s x e a [] h = refl
kill-behind s x e a (y ∷ xs) h = go (kill-behind s x e a xs h) (same_element y.id a) refl
  where
    go : behind a (pass_later s e) (kill x xs) ≡ kill x (behind a (pass_later s e) xs) → (b : Bool) → same_element y.id a ≡ b
        → behind a (pass_later s e) (kill x (y ∷ xs)) ≡ kill x (behind a (pass_later s e) (y ∷ xs))
    go more true b = rw b (ap (λ rest. kill_within x y ∷ rest) (kill-pass_later s x e xs h))
    go more false b = rw b (ap (λ rest. kill_within x y ∷ rest) more)

kill-put_late : (s : Stamp) (x : ByteRange) (e : List TextByte) (a : Option ElemId) (xs : List TextByte) → kill x e ≡ e
    → put_late a s e (kill x xs) ≡ kill x (put_late a s e xs)
kill-put_late s x e None xs h = kill-pass_later s x e xs h
kill-put_late s x e (Some a) xs h = kill-behind s x e a xs h

-- a later edit and the skip rule: in either order
pub put_late-step : (t : TextId) (s r : Stamp) (op : Op) (a : Option ElemId) (bytes : List ℕ) (xs : List TextByte) → before s r ≡ true
    → PlaceBelow s a → NamesNoByteOf s op
    → put_late a s (run_from s 0 bytes) (elements_step t r op xs) ≡ elements_step t r op (put_late a s (run_from s 0 bytes) xs)
put_late-step t s r (TextInsert u after new) a bytes xs h p n = go (same_text u t) refl
  where
    go : (b : Bool) → same_text u t ≡ b
        → put_late a s (run_from s 0 bytes) (elements_step t r (TextInsert u after new) xs)
        ≡ elements_step t r (TextInsert u after new) (put_late a s (run_from s 0 bytes) xs)
    go true b = rw b (put_late-put_after s (run_from s 0 bytes) (run_from r 0 new) a after xs (run-place_not_in s 0 bytes after n) (run-place_not_in r 0 new a (place_below-not_of s r a h p)) (run-later s r 0 new h))
    go false b = rw b
put_late-step t s r (TextDelete u x) a bytes xs h p n = go (same_text u t) refl
  where
    go : (b : Bool) → same_text u t ≡ b
        → put_late a s (run_from s 0 bytes) (elements_step t r (TextDelete u x) xs)
        ≡ elements_step t r (TextDelete u x) (put_late a s (run_from s 0 bytes) xs)
    go true b = rw b (kill-put_late s x (run_from s 0 bytes) a xs (kill-run x s 0 bytes n))
    go false b = rw b
put_late-step t s r _ a bytes xs h p n = refl

-- edits that are later than `s` and name no byte of it
abbrev pub LaterEdits : Stamp → List Edit → Type 0
LaterEdits s es = AllByRecursion (λ e. (before s e.stamp ≡ true) × NamesNoByteOf s e.op) es

pub put_late-steps : (t : TextId) (s : Stamp) (es : List Edit) (a : Option ElemId) (bytes : List ℕ) (xs : List TextByte) → PlaceBelow s a
    → LaterEdits s es
    → put_late a s (run_from s 0 bytes) (elements_steps t es xs) ≡ elements_steps t es (put_late a s (run_from s 0 bytes) xs)
put_late-steps t s [] a bytes xs p l = refl
put_late-steps t s (e ∷ es) a bytes xs p l =
    put_late-steps t s es a bytes (elements_step t e.stamp e.op xs) p l.1
    ∙ ap (elements_steps t es) (put_late-step t s e.stamp e.op a bytes xs l.0.0 p l.0.1)

-- the skip rule gives the text that the edits give in rising stamp order
pub put_late-sorted : (t : TextId) (s : Stamp) (low high : List Edit) (a : Option ElemId) (bytes : List ℕ) (xs : List TextByte)
    → PlaceBelow s a → NoneLater s (elements_steps t low xs) → LaterEdits s high
    → put_late a s (run_from s 0 bytes) (elements_steps t high (elements_steps t low xs))
    ≡ elements_steps t high (put_after a (run_from s 0 bytes) (elements_steps t low xs))
put_late-sorted t s low high a bytes xs p n l =
    put_late-steps t s high a bytes (elements_steps t low xs) p l
    ∙ ap (elements_steps t high) (put_late-none_later s (run_from s 0 bytes) a (elements_steps t low xs) n)
