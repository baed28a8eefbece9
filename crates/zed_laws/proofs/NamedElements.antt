-- The elements of a text have names of their own.
use Rattle.std.proofs.Common.{◌≡◌, ℕ, ◌+◌, ◌<◌, Bool, true, false, cond, List, [], ◌∷◌, ◌++◌, Option, Some, None, Result, Ok, Err, refl, arith}
use Rattle.std.specs.List.{AllByRecursion}
use Rattle.zed_types.specs.declared.stamp.Stamp.{Stamp}
use Rattle.zed_types.specs.declared.names.ElemId.{ElemId}
use Rattle.zed_types.specs.declared.text.TextByte.{TextByte}
use Rattle.zed_types.specs.declared.text.ByteRange.{ByteRange}
use Rattle.zed_types.specs.Stamp.{before}
use Rattle.zed_types.specs.Names.{text_of, byte_of, same_element}
use Rattle.zed_types.specs.Table.{map_from}
use Rattle.zed_types.specs.Text.{run_from, behind, put_after, kill}
use Rattle.zed_types.proofs.Facts.{all_joined}
use Rattle.zed_types.proofs.StampOrder.{before_trans}
use Rattle.zed_world.specs.Contents.{Contents}
use Rattle.zed_world.specs.Reading.{world_at}
use Rattle.zed_world.specs.declared.error.WorldError.{WorldError}
use Rattle.zed_op.specs.declared.op.Op.{Op}
use Rattle.zed_op.specs.declared.op.Op.TheVariants.{Genesis, TextAdd, TextInsert, TextDelete}
use Rattle.zed_op.specs.declared.op.Edit.{Edit}
use Rattle.zed_edit.specs.declared.plain.Text.{Text}
use Rattle.zed_edit.specs.declared.plain.Plain.{Plain}
use Rattle.zed_edit.specs.Document.{empty_document}
use Rattle.zed_edit.specs.Genesis.{opened_text, opened_texts, programs_of}
use Rattle.zed_edit.specs.Replay.{can, do_op, open_world, step, replay_on}
use Rattle.zed_op.specs.Set.{IsRising}
use Rattle.zed_laws.specs.TextNames.{HaveOwnNames, ElementsHaveOwnNames}
use Rattle.zed_laws.proofs.MadeElements.{All-behind, keep-change, Pass, IsGood, good-step, found-all}

abbrev Below : Stamp → List TextByte → Type 0
Below s xs = Pass (λ r. before r s) xs

-- none of these has the name
abbrev Others : ElemId → List TextByte → Type 0
Others a xs = AllByRecursion (λ y. same_element a y.id ≡ false) xs

other-index : (s : Stamp) (m n : ℕ) → m < n → same_element (byte_of s m) (byte_of s n) ≡ false
other-index s m n h = grind (arith)

before-other : (a b : ElemId) → before a.name.stamp b.name.stamp ≡ true → same_element b a ≡ false
before-other a b h = grind (arith)

before-other_back : (a b : ElemId) → before a.name.stamp b.name.stamp ≡ true → same_element a b ≡ false
before-other_back a b h = grind (arith)

run-others : (s : Stamp) (m n : ℕ) (bytes : List ℕ) → m < n → Others (byte_of s m) (run_from s n bytes)
run-others s m n [] h = tt
run-others s m n (b ∷ bytes) h = (other-index s m n h, run-others s m (n + 1) bytes (omega arith))

below-others : (s : Stamp) (n : ℕ) (xs : List TextByte) → Below s xs → Others (byte_of s n) xs
below-others s n [] a = tt
below-others s n (x ∷ xs) a = (before-other x.id (byte_of s n) a.0, below-others s n xs a.1)

earlier-others : (a : ElemId) (s : Stamp) (n : ℕ) (bytes : List ℕ) → before a.name.stamp s ≡ true → Others a (run_from s n bytes)
earlier-others a s n [] h = tt
earlier-others a s n (b ∷ bytes) h = (before-other_back a (byte_of s n) h, earlier-others a s (n + 1) bytes h)

own-front : (s : Stamp) (n : ℕ) (bytes : List ℕ) (xs : List TextByte) → Below s xs → HaveOwnNames xs
    → HaveOwnNames (run_from s n bytes ++ xs)
own-front s n [] xs b o = o
own-front s n (c ∷ bytes) xs b o = (
  all_joined (λ y. same_element (byte_of s n) y.id ≡ false) (run_from s (n + 1) bytes) xs (run-others s n (n + 1) bytes (omega arith)) (below-others s n xs b),
  own-front s (n + 1) bytes xs b o,
)

own-behind : (s : Stamp) (a : ElemId) (bytes : List ℕ) (xs : List TextByte) → Below s xs → HaveOwnNames xs
    → HaveOwnNames (behind a (λ rest. run_from s 0 bytes ++ rest) xs)
own-behind s a bytes [] b o = tt
own-behind s a bytes (x ∷ xs) b o = go (same_element x.id a) (own-behind s a bytes xs b.1 o.1)
  where
    go : (t : Bool) → HaveOwnNames (behind a (λ rest. run_from s 0 bytes ++ rest) xs)
        → HaveOwnNames (x ∷ cond t (run_from s 0 bytes ++ xs) (behind a (λ rest. run_from s 0 bytes ++ rest) xs))
    go true more = (all_joined (λ y. same_element x.id y.id ≡ false) (run_from s 0 bytes) xs (earlier-others x.id s 0 bytes b.0) o.0, own-front s 0 bytes xs b.1 o.1)
    go false more =
        (All-behind (λ y. same_element x.id y.id ≡ false) a (run_from s 0 bytes) xs (earlier-others x.id s 0 bytes b.0) o.0, more)

own-put : (s : Stamp) (after : Option ElemId) (bytes : List ℕ) (xs : List TextByte) → Below s xs → HaveOwnNames xs
    → HaveOwnNames (put_after after (run_from s 0 bytes) xs)
own-put s None bytes xs b o = own-front s 0 bytes xs b o
own-put s (Some a) bytes xs b o = own-behind s a bytes xs b o

kill-others : (a : ElemId) (r : ByteRange) (xs : List TextByte) → Others a xs → Others a (kill r xs)
kill-others a r [] h = tt
kill-others a r (x ∷ xs) h = (h.0, kill-others a r xs h.1)

own-kill : (r : ByteRange) (xs : List TextByte) → HaveOwnNames xs → HaveOwnNames (kill r xs)
own-kill r [] o = tt
own-kill r (x ∷ xs) o = (kill-others x.id r xs o.0, own-kill r xs o.1)

abbrev IsOwn : Text → Type 0
IsOwn x = HaveOwnNames x.elements

run-own : (s : Stamp) (n : ℕ) (bytes : List ℕ) → HaveOwnNames (run_from s n bytes)
run-own s n [] = tt
run-own s n (b ∷ bytes) = (run-others s n (n + 1) bytes (omega arith), run-own s (n + 1) bytes)

own-opened : (s : Stamp) (n : ℕ) (programs : List (List ℕ)) → AllByRecursion IsOwn (map_from (opened_text s) n programs)
own-opened s n [] = tt
own-opened s n (bytes ∷ programs) = (run-own s 0 bytes, own-opened s (n + 1) programs)

own-world : (s : Stamp) (r : Result Contents WorldError) (p : Plain) → AllByRecursion IsOwn p.texts
    → AllByRecursion IsOwn (open_world s r p).texts
own-world s (Err e) p a = a
own-world s (Ok w) p a = all_joined IsOwn p.texts (opened_texts s w.boards) a (own-opened s 0 (programs_of w.boards))

-- texts that have names of their own, all before a stamp
abbrev IsOwnBelow : Stamp → Text → Type 0
IsOwnBelow s x = Below s x.elements × IsOwn x

both : (s : Stamp) (xs : List Text) → AllByRecursion (IsGood (λ r. before r s)) xs → AllByRecursion IsOwn xs
    → AllByRecursion (IsOwnBelow s) xs
both s [] a b = tt
both s (x ∷ xs) a b = ((a.0.1, b.0), both s xs a.1 b.1)

own-do_op : (s : Stamp) (op : Op) (p : Plain) → AllByRecursion (IsGood (λ r. before r s)) p.texts → AllByRecursion IsOwn p.texts
    → AllByRecursion IsOwn (do_op s op p).texts
own-do_op s (Genesis bytes) p g a = own-world s (world_at bytes) p a
own-do_op s TextAdd p g a = all_joined IsOwn p.texts (record { id = text_of s 0; elements = [] } ∷ []) a (tt, tt)
own-do_op s (TextInsert t after bytes) p g a =
    keep-change (IsOwnBelow s) IsOwn t (put_after after (run_from s 0 bytes)) p.texts (λ x h. own-put s after bytes x.elements h.0 h.1) (λ x h. h.1) (both s p.texts g a)
own-do_op s (TextDelete t r) p g a =
    keep-change IsOwn IsOwn t (kill r) p.texts (λ x h. own-kill r x.elements h) (λ x h. h) a
own-do_op s _ p g a = a

own-step : (p : Plain) (e : Edit) → AllByRecursion (IsGood (λ r. before r e.stamp)) p.texts → AllByRecursion IsOwn p.texts
    → AllByRecursion IsOwn (step p e).texts
own-step p e g a = go (can p e) refl
  where
    go : (b : Bool) → can p e ≡ b → AllByRecursion IsOwn (step p e).texts
    go true b = rw b (own-do_op e.stamp e.op p g a)
    go false b = rw b a

-- all that is there is before each edit that comes
abbrev AllBefore : Plain → List Edit → Type 0
AllBefore p [] = Unit {0}
AllBefore p (e ∷ es) = AllByRecursion (IsGood (λ r. before r e.stamp)) p.texts

later-elements : (s t : Stamp) (xs : List TextByte) → before s t ≡ true → Below s xs → Below t xs
later-elements s t [] h a = tt
later-elements s t (x ∷ xs) h a = (before_trans x.id.name.stamp s t a.0 h, later-elements s t xs h a.1)

later-texts : (s t : Stamp) (xs : List Text) → before s t ≡ true → AllByRecursion (IsGood (λ r. before r s)) xs
    → AllByRecursion (IsGood (λ r. before r t)) xs
later-texts s t [] h a = tt
later-texts s t (x ∷ xs) h a = ((before_trans x.id.name.stamp s t a.0.0 h, later-elements s t x.elements h a.0.1), later-texts s t xs h a.1)

before-next : (p : Plain) (e : Edit) (es : List Edit) → IsRising (e ∷ es) → AllByRecursion (IsGood (λ r. before r e.stamp)) p.texts
    → AllBefore (step p e) es
before-next p e [] r a = tt
before-next p e (f ∷ es) r a = good-step (λ s. before s f.stamp) p e r.0.0 (later-texts e.stamp f.stamp p.texts r.0.0 a)

own-on : (p : Plain) (es : List Edit) → IsRising es → AllBefore p es → AllByRecursion IsOwn p.texts
    → AllByRecursion IsOwn (replay_on p es).texts
own-on p [] r b a = a
own-on p (e ∷ es) r b a = own-on (step p e) es r.1 (before-next p e es r b) (own-step p e b a)

none-before : (es : List Edit) → AllBefore empty_document es
none-before [] = tt
none-before (e ∷ es) = tt

pub elements_have_own_names : ElementsHaveOwnNames
elements_have_own_names es t r =
    found-all HaveOwnNames t (replay_on empty_document es).texts tt (own-on empty_document es r (none-before es) tt)
