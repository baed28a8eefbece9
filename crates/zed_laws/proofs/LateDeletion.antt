-- A deletion that comes late leaves what it leaves at its place among the edits.
use Rattle.std.proofs.Common.{◌≡◌, Bool, true, false, cond, not, ◌&&◌, List, [], ◌∷◌, ◌++◌, Option, Some, None, refl, ap, ◌∙◌, sym, arith}
use Rattle.std.specs.List.{AllByRecursion}
use Rattle.std.proofs.lemmas.Bool.{and_parts}
use Rattle.zed_types.specs.declared.stamp.Stamp.{Stamp}
use Rattle.zed_types.specs.declared.names.TextId.{TextId}
use Rattle.zed_types.specs.declared.names.ElemId.{ElemId}
use Rattle.zed_types.specs.declared.text.TextByte.{TextByte}
use Rattle.zed_types.specs.declared.text.ByteRange.{ByteRange}
use Rattle.zed_types.specs.Stamp.{before, same_stamp}
use Rattle.zed_types.specs.Names.{byte_of, same_text, same_element}
use Rattle.zed_types.specs.Text.{run_from, put_after, kill, kill_within, is_within}
use Rattle.zed_op.specs.declared.op.Op.{Op}
use Rattle.zed_op.specs.declared.op.Op.TheVariants.{TextInsert, TextDelete}
use Rattle.zed_op.specs.declared.op.Edit.{Edit}
use Rattle.zed_edit.specs.declared.plain.Plain.{Plain as Document}
use Rattle.zed_op.specs.declared.thing.Thing.TheVariants.{Text as text, Element as element}
use Rattle.zed_edit.specs.Document.{elements, has, empty_document}
use Rattle.zed_op.specs.Fit.{names_earlier}
use Rattle.zed_op.specs.Set.{IsRising}
use Rattle.zed_edit.specs.Replay.{replay, held}
use Rattle.zed_laws.specs.Laws.{deletion}
use Rattle.zed_types.proofs.StampOrder.{same_text-itself}
use Rattle.zed_types.proofs.Passing.{kill-append}
use Rattle.zed_laws.proofs.TextSteps.{elements_step, elements_steps, kill-run}
use Rattle.zed_laws.proofs.LateInsertion.{there-steps, text_there, rising-high}
use Rattle.zed_laws.proofs.DoneEdits.{all_done, AllCan, all_done-append, AllCan-tail, AllCan-none_held, replay_on-all_done}

kill-put_after : (x : ByteRange) (a : Option ElemId) (run xs : List TextByte) → kill x run ≡ run
    → kill x (put_after a run xs) ≡ put_after a run (kill x xs)
kill-put_after x None run xs h = kill-append x run xs ∙ ap (λ front. front ++ kill x xs) h
kill-put_after x (Some q) run [] h = refl
kill-put_after x (Some q) run (y ∷ xs) h = go (same_element y.id q) refl (kill-put_after x (Some q) run xs h)
  where
    go : (b : Bool) → same_element y.id q ≡ b → kill x (put_after (Some q) run xs) ≡ put_after (Some q) run (kill x xs)
        → kill x (put_after (Some q) run (y ∷ xs)) ≡ put_after (Some q) run (kill x (y ∷ xs))
    go true b more = rw b (ap (λ rest. kill_within x y ∷ rest) (kill-append x run xs ∙ ap (λ front. front ++ kill x xs) h))
    go false b more = rw b (ap (λ rest. kill_within x y ∷ rest) more)

and_swap : (a b c : Bool) → ((a && b) && c) ≡ ((a && c) && b)
and_swap true true true = refl
and_swap true true false = refl
and_swap true false true = refl
and_swap true false false = refl
and_swap false b c = refl

kill-kill : (x y : ByteRange) (xs : List TextByte) → kill x (kill y xs) ≡ kill y (kill x xs)
kill-kill x y [] = refl
kill-kill x y (z ∷ xs) =
    let e = and_swap z.alive (not (is_within y z.id)) (not (is_within x z.id)) in
    let mk : Bool → TextByte = λ b. record { id = z.id; byte = z.byte; alive = b } in
    ap (λ b. mk b ∷ kill x (kill y xs)) e ∙ ap (λ rest. kill_within y (kill_within x z) ∷ rest) (kill-kill x y xs)

-- a later edit and marking dead: in either order
kill-step : (t : TextId) (x : ByteRange) (r : Stamp) (op : Op) (xs : List TextByte) → same_stamp r x.stamp ≡ false
    → kill x (elements_step t r op xs) ≡ elements_step t r op (kill x xs)
kill-step t x r (TextInsert u after bytes) xs h = go (same_text u t)
  where
    go : (b : Bool)
        → kill x (cond b (put_after after (run_from r 0 bytes) xs) xs)
        ≡ cond b (put_after after (run_from r 0 bytes) (kill x xs)) (kill x xs)
    go true = kill-put_after x after (run_from r 0 bytes) xs (kill-run x r 0 bytes h)
    go false = refl
kill-step t x r (TextDelete u y) xs h = go (same_text u t)
  where
    go : (b : Bool) → kill x (cond b (kill y xs) xs) ≡ cond b (kill y (kill x xs)) (kill x xs)
    go true = kill-kill x y xs
    go false = refl
kill-step t x r _ xs h = refl

kill-steps : (t : TextId) (x : ByteRange) (s : Stamp) (es : List Edit) (xs : List TextByte) → before x.stamp s ≡ true
    → AllByRecursion (λ e. before s e.stamp ≡ true) es
    → kill x (elements_steps t es xs) ≡ elements_steps t es (kill x xs)
kill-steps t x s [] xs b h = refl
kill-steps t x s (e ∷ es) xs b h =
    kill-steps t x s es (elements_step t e.stamp e.op xs) b h.1
    ∙ ap (elements_steps t es) (kill-step t x e.stamp e.op xs (grind (arith, b, h.0)))

first_earlier : (s : Stamp) (t : TextId) (x : ByteRange) → names_earlier (deletion s t x) ≡ true → before x.stamp s ≡ true
first_earlier s t x h =
    let k = and_parts (before t.name.stamp s) (before x.stamp s && (before x.stamp s && true)) h in
    let l = and_parts (before x.stamp s) (before x.stamp s && true) k.1 in
    l.0

-- a deletion that comes late marks dead what it marks at its place among the edits
pub deletion_among_done : (s : Stamp) (t : TextId) (x : ByteRange) (low high : List Edit) → IsRising (low ++ deletion s t x ∷ high)
    → held (low ++ high) ≡ [] → held (low ++ deletion s t x ∷ high) ≡ [] → names_earlier (deletion s t x) ≡ true
    → elements (replay (low ++ deletion s t x ∷ high)) t ≡ kill x (elements (replay (low ++ high)) t)
deletion_among_done s t x low high r n m b =
    let e : Edit = deletion s t x in
    let p : Document = all_done empty_document low in
    let c : AllCan empty_document (low ++ high) = AllCan-none_held empty_document (low ++ high) n in
    let d : AllCan empty_document (low ++ e ∷ high) = AllCan-none_held empty_document (low ++ e ∷ high) m in
    let i = AllCan-tail empty_document low (e ∷ high) d in
    let j = and_parts (has p (text t)) (has p (element t (byte_of x.stamp x.first)) && (has p (element t (byte_of x.stamp x.last)) && true)) i.0 in
    let f = text_there t e p j.0 in
    ap (λ q. elements q t) (replay_on-all_done empty_document (low ++ e ∷ high) d ∙ all_done-append empty_document low (e ∷ high))
    ∙ there-steps t (e ∷ high) p f.0 f.1 ∙ ap (elements_steps t high) (rw (same_text-itself t) refl)
    ∙ sym (kill-steps t x s high f.0.elements (first_earlier s t x b) (rising-high e low high r))
    ∙ ap (kill x) (sym (there-steps t high p f.0 f.1))
    ∙ ap (λ q. kill x (elements q t)) (sym (replay_on-all_done empty_document (low ++ high) c ∙ all_done-append empty_document low high))
