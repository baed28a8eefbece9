-- What putting bytes into a text shows.
use Rattle.std.proofs.Common.{◌≡◌, ◌⊎◌, inl, inr, ℕ, zero, suc, ◌+◌, ◌<◌, Bool, true, false, ◌||◌, cond, List, [], ◌∷◌, ◌++◌, length, take, drop, Option, Some, None, Result, Ok, Err, refl, ap, sym, ◌∙◌, append-nil, arith, subst}
use Rattle.std.specs.Prelude.{MatchBool, OnOk, is_ok, slice_get, option_map, nat_le}
use Rattle.std.specs.List.{AllByRecursion, list_any}
use Rattle.std.proofs.lemmas.List.{length-map}
use Rattle.std.proofs.lemmas.Bool.{leb-true}
use Rattle.zed_types.specs.declared.stamp.Stamp.{Stamp}
use Rattle.zed_types.specs.declared.names.ElemId.{ElemId}
use Rattle.zed_types.specs.declared.names.TextId.{TextId}
use Rattle.zed_types.specs.declared.text.TextByte.{TextByte}
use Rattle.zed_types.specs.Names.{same_element, same_text}
use Rattle.zed_types.specs.Text.{alive, run_from, behind, put_after, alive_bytes}
use Rattle.zed_op.specs.declared.cause.Cause.{Cause}
use Rattle.zed_op.specs.declared.op.Op.TheVariants.{TextInsert}
use Rattle.zed_op.specs.declared.op.Edit.{Edit}
use Rattle.zed_edit.specs.declared.plain.Text.{Text}
use Rattle.zed_edit.specs.declared.plain.Plain.{Plain}
use Rattle.zed_op.specs.declared.thing.Thing.TheVariants as thing
use Rattle.zed_edit.specs.Document.{change_such, change_elements, find_text, elements_in, elements, text, has}
use Rattle.zed_laws.specs.Laws.{OneMoreIsOneStep}
use Rattle.zed_op.specs.Fit.{Fits, fault}
use Rattle.zed_edit.specs.Replay.{replay, step, can, do_edit, hold}
use Rattle.zed_op.specs.Set.{IsRising, with_edit}
use Rattle.zed_laws.specs.TextNames.{HaveOwnNames, ElementsHaveOwnNames}
use Rattle.zed_history.specs.Clock.{is_spent, next_time}
use Rattle.zed_history.specs.Finding.{AllBelow, edit_with}
use Rattle.zed_document.specs.declared.error.DocumentError.{DocumentError}
use Rattle.zed_document.specs.declared.error.DocumentError.TheVariants.{Memory, Stale, NoSuch, OutOfRange}
use Rattle.zed_document.specs.Authoring.{byte_before, insertion_at, authored, with_bytes, AnswersMade, AnswersToDo, AnswersFault, AnswersInsertion, MayTakeMemory}
use Rattle.zed_document.specs.Reading.{has_text}
use Rattle.zed_document.specs.Replica.{Replica}
use Rattle.zed_document.proofs.Authored.{authored-late, last-edit}
use Rattle.zed_types.proofs.StampOrder.{same_stamp-itself}
use Rattle.zed_history.proofs.Spots.{edit_with-past}

pub same_element-itself : (a : ElemId) → same_element a a ≡ true
same_element-itself a = rw (same_stamp-itself a.name.stamp) (grind (arith))

-- the text of a name is changed where it is
pub changed-text : (t : TextId) (f : List TextByte → List TextByte) (xs : List Text) → list_any (λ x. same_text x.id t) xs ≡ true
    → elements_in (find_text t (change_such (λ x. same_text x.id t) (change_elements f) xs)) ≡ f (elements_in (find_text t xs))
changed-text t f [] h = absurd (cc)
changed-text t f (x ∷ xs) h = go (same_text x.id t) refl (λ k. changed-text t f xs k)
  where
    go : (b : Bool) → same_text x.id t ≡ b
        → (list_any (λ y. same_text y.id t) xs ≡ true → elements_in (find_text t (change_such (λ y. same_text y.id t) (change_elements f) xs)) ≡ f (elements_in (find_text t xs)))
        → elements_in (find_text t (change_such (λ y. same_text y.id t) (change_elements f) (x ∷ xs)))
        ≡ f (elements_in (find_text t (x ∷ xs)))
    go true b more = rw (b, b) refl
    go false b more = rw (b, b) (more (rw b at h))

-- the alive bytes of parts
pub alive-append : (xs ys : List TextByte) → alive_bytes (xs ++ ys) ≡ alive_bytes xs ++ alive_bytes ys
alive-append [] ys = refl
alive-append (x ∷ xs) ys = go x.alive refl (alive-append xs ys)
  where
    go : (b : Bool) → x.alive ≡ b → alive_bytes (xs ++ ys) ≡ alive_bytes xs ++ alive_bytes ys
        → alive_bytes ((x ∷ xs) ++ ys) ≡ alive_bytes (x ∷ xs) ++ alive_bytes ys
    go true b more = rw b (ap (λ rest. x.byte ∷ rest) more)
    go false b more = rw b more

pub alive-run : (s : Stamp) (n : ℕ) (bytes : List ℕ) → alive_bytes (run_from s n bytes) ≡ bytes
alive-run s n [] = refl
alive-run s n (b ∷ bytes) = ap (λ rest. b ∷ rest) (alive-run s (n + 1) bytes)

pub get-there : {X : Type 0} (xs : List X) (k : ℕ) → k < length xs → (x : X) × (slice_get xs k ≡ Some x)
get-there [] k l = absurd (omega arith)
get-there (y ∷ ys) zero l = (y, refl)
get-there (y ∷ ys) (suc k) l = get-there ys k (omega arith)

-- what holds of all elements holds of each that is alive
alive-each : (P : TextByte → Type 0) (xs : List TextByte) (k : ℕ) (x : TextByte) → AllByRecursion P xs → slice_get (alive xs) k ≡ Some x
    → P x
alive-each P [] k x a h = absurd (cc)
alive-each P (y ∷ ys) k x a h = go y.alive refl k h (λ j q. alive-each P ys j x a.1 q)
  where
    go : (b : Bool) → y.alive ≡ b → (j : ℕ) → slice_get (alive (y ∷ ys)) j ≡ Some x → ((i : ℕ) → slice_get (alive ys) i ≡ Some x → P x)
        → P x
    go true b zero q more = let e : y ≡ x = (let r = rw b at q in cc) in subst P e a.0
    go true b (suc j) q more = more j (rw b at q)
    go false b j q more = more j (rw b at q)

alive-there : (xs : List TextByte) (k : ℕ) (x : TextByte) → slice_get (alive xs) k ≡ Some x
    → list_any (λ y. same_element y.id x.id) xs ≡ true
alive-there [] k x h = absurd (cc)
alive-there (y ∷ ys) k x h = go y.alive refl k h (λ j q. alive-there ys j x q)
  where
    or_true : (b : Bool) → (b || true) ≡ true
    or_true true = refl
    or_true false = refl

    go : (b : Bool) → y.alive ≡ b → (j : ℕ) → slice_get (alive (y ∷ ys)) j ≡ Some x
        → ((i : ℕ) → slice_get (alive ys) i ≡ Some x → list_any (λ z. same_element z.id x.id) ys ≡ true)
        → list_any (λ z. same_element z.id x.id) (y ∷ ys) ≡ true
    go true b zero q more =
        let e : y ≡ x = (let r = rw b at q in cc) in
        let s : same_element y.id x.id ≡ true = rw e (same_element-itself x.id) in
        rw s refl
    go true b (suc j) q more = rw (more j (rw b at q)) (or_true (same_element y.id x.id))
    go false b j q more = rw (more j (rw b at q)) (or_true (same_element y.id x.id))

abbrev pub ShowsBehind : List TextByte → ElemId → List TextByte → ℕ → Type 0
ShowsBehind run a xs k =
    alive_bytes (behind a (λ rest. run ++ rest) xs) ≡ take (suc k) (alive_bytes xs) ++ (alive_bytes run ++ drop (suc k) (alive_bytes xs))

-- a run put after an alive byte stands behind it among the alive bytes
pub behind-shows : (run xs : List TextByte) (k : ℕ) (x : TextByte) → HaveOwnNames xs → slice_get (alive xs) k ≡ Some x
    → ShowsBehind run x.id xs k
behind-shows run [] k x o h = absurd (cc)
behind-shows run (y ∷ ys) k x o h =
    go y.alive refl k h (λ j q. behind-shows run ys j x o.1 q) (λ j q. alive-each (λ z. same_element y.id z.id ≡ false) ys j x o.0 q)
  where
    go : (b : Bool) → y.alive ≡ b → (j : ℕ) → slice_get (alive (y ∷ ys)) j ≡ Some x
        → ((i : ℕ) → slice_get (alive ys) i ≡ Some x → ShowsBehind run x.id ys i)
        → ((i : ℕ) → slice_get (alive ys) i ≡ Some x → same_element y.id x.id ≡ false)
        → ShowsBehind run x.id (y ∷ ys) j
    go true b zero q more other =
        let e : y ≡ x = (let r = rw b at q in cc) in
        let s : same_element y.id x.id ≡ true = rw e (same_element-itself x.id) in
        rw (b, s) (ap (λ rest. y.byte ∷ rest) (alive-append run ys))
    go true b (suc j) q more other =
        let q' : slice_get (alive ys) j ≡ Some x = rw b at q in
        let s = other j q' in
        rw (b, s) (ap (λ rest. y.byte ∷ rest) (more j q'))
    go false b j q more other =
        let q' : slice_get (alive ys) j ≡ Some x = rw b at q in
        let s = other j q' in
        rw (b, s) (more j q')

-- a run put at a position stands there among the alive bytes
pub put-shows : (s : Stamp) (bytes : List ℕ) (xs : List TextByte) (p : ℕ) → HaveOwnNames xs → nat_le p (length (alive_bytes xs)) ≡ true
    → alive_bytes (put_after (byte_before xs p) (run_from s 0 bytes) xs) ≡ with_bytes p bytes (alive_bytes xs)
put-shows s bytes xs zero o l = alive-append (run_from s 0 bytes) xs ∙ ap (λ run. run ++ alive_bytes xs) (alive-run s 0 bytes)
put-shows s bytes xs (suc k) o l =
    let m : length (alive_bytes xs) ≡ length (alive xs) = length-map (alive xs) (λ x. x.byte) in
    let n = leb-true (suc k) (length (alive_bytes xs)) l in
    let g = get-there (alive xs) k (omega arith) in
    let b : byte_before xs (suc k) ≡ Some (g.0).id = ap (option_map (λ x. x.id)) g.1 in
    let shown : ShowsBehind (run_from s 0 bytes) (g.0).id xs k = behind-shows (run_from s 0 bytes) xs k g.0 o g.1 in
    ap (λ a. alive_bytes (put_after a (run_from s 0 bytes) xs)) b
    ∙ shown
    ∙ ap (λ run. take (suc k) (alive_bytes xs) ++ (run ++ drop (suc k) (alive_bytes xs))) (alive-run s 0 bytes)

-- the byte before a position was made
place-made : (p : Plain) (t : TextId) (k : ℕ) → has p (thing.Text t) ≡ true → nat_le k (length (text p t)) ≡ true
    → (s : Stamp) (bytes : List ℕ)
    → can p (record { stamp = s; op = TextInsert t (byte_before (elements p t) k) bytes }) ≡ true
place-made p t zero h l s bytes = rw h refl
place-made p t (suc k) h l s bytes =
    let xs : List TextByte = elements p t in
    let m : length (alive_bytes xs) ≡ length (alive xs) = length-map (alive xs) (λ x. x.byte) in
    let n = leb-true (suc k) (length (alive_bytes xs)) l in
    let g = get-there (alive xs) k (omega arith) in
    let there = alive-there xs k g.0 g.1 in
    let b : byte_before xs (suc k) ≡ Some (g.0).id = ap (option_map (λ x. x.id)) g.1 in
    let named : can p (record { stamp = s; op = TextInsert t (Some (g.0).id) bytes }) ≡ true = rw (h, there) refl in
    subst (λ a. can p (record { stamp = s; op = TextInsert t a bytes }) ≡ true) (sym b) named

-- what holds of an insertion that is made at the next time
pub record MadeInsertion (es : List Edit) (t : TextId) (p : ℕ) (bytes : List ℕ) (e : Edit) : Type 0 where
  pub late : AllBelow e.stamp es
  pub can_be : can (replay es) e ≡ true
  pub free : edit_with e.stamp es ≡ None
  pub last : with_edit e es ≡ es ++ e ∷ []
  pub shows : text (replay (es ++ e ∷ [])) t ≡ with_bytes p bytes (text (replay es) t)

pub made_insertion : OneMoreIsOneStep → ElementsHaveOwnNames → (es : List Edit) (replica : ℕ) (t : TextId) (p : ℕ) (bytes : List ℕ)
    → IsRising es → has (replay es) (thing.Text t) ≡ true → nat_le p (length (text (replay es) t)) ≡ true
    → MadeInsertion es t p bytes (authored es replica (insertion_at es t p bytes))
made_insertion one names es replica t p bytes rises h l =
    let e : Edit = authored es replica (insertion_at es t p bytes) in
    let below : AllBelow e.stamp es = authored-late es replica (insertion_at es t p bytes) refl in
    let c : can (replay es) e ≡ true = place-made (replay es) t p h l e.stamp bytes in
    let xs : List TextByte = elements (replay es) t in
    let stepped : step (replay es) e ≡ do_edit (replay es) e = ap (λ b. cond b (do_edit (replay es) e) (hold (replay es) e)) c in
    let changed : elements (do_edit (replay es) e) t ≡ put_after (byte_before xs p) (run_from e.stamp 0 bytes) xs =
    changed-text t (put_after (byte_before xs p) (run_from e.stamp 0 bytes)) (replay es).texts h in
    record {
      late = below;
      can_be = c;
      free = ap (edit_with e.stamp) (sym (append-nil es)) ∙ edit_with-past e.stamp es [] below;
      last = last-edit e es below;
      shows = ap (λ d. text d t) (one es e ∙ stepped) ∙ ap alive_bytes changed ∙ put-shows e.stamp bytes xs p (names es t rises) l;
    }

-- a match on a test that is known
pub match-true : (b : Bool) (A B : Type 0) → b ≡ true → A → MatchBool b A B
match-true true A B h a = a
match-true false A B h a = absurd (cc)

pub match-false : (b : Bool) (A B : Type 0) → b ≡ false → B → MatchBool b A B
match-false true A B h x = absurd (cc)
match-false false A B h x = x

matched-true : (b : Bool) (A B : Type 0) → b ≡ true → MatchBool b A B → A
matched-true true A B h m = m
matched-true false A B h m = absurd (cc)

abbrev pub Place : Type 0
Place = Result (Option ElemId) DocumentError

abbrev pub place_of : Option ElemId → Place
place_of o = Ok o

abbrev pub insertion_edit : Stamp → TextId → Option ElemId → List ℕ → Edit
insertion_edit s t after bytes = record { stamp = s; op = TextInsert t after bytes }

abbrev pub next_stamp : List Edit → ℕ → Stamp
next_stamp es replica = record { time = next_time es; replica = replica }

-- what the place tells of the text
pub placed : (b h l : Bool) (o a : Option ElemId)
    → MatchBool b (place_of o ≡ Err Stale) (MatchBool h (MatchBool l (place_of o ≡ Ok a) (place_of o ≡ Err OutOfRange)) (place_of o ≡ Err NoSuch))
    → (b ≡ false) × (h ≡ true) × (l ≡ true) × (o ≡ a)
placed true h l o a m = absurd (cc)
placed false false l o a m = absurd (cc)
placed false true false o a m = absurd (cc)
placed false true true o a m = (refl, refl, refl, (cc))

pub made-as : (es : List Edit) (replica : ℕ) (t : TextId) (p : ℕ) (bytes : List ℕ) (s : Stamp) (after : Option ElemId)
    → s ≡ record { time = next_time es; replica = replica } → after ≡ byte_before (elements (replay es) t) p
    → insertion_edit s t after bytes ≡ authored es replica (insertion_at es t p bytes)
made-as es replica t p bytes s after e f =
    ap (λ x. insertion_edit x t after bytes) e
    ∙ ap (λ o. insertion_edit (record { time = next_time es; replica = replica }) t o bytes) f

-- bytes typed at a place that is there, and the edit that is made of them
pub record Typed (d : Replica) (replica : ℕ) (t : TextId) (p : ℕ) (bytes : List ℕ) (s : Stamp) (after : Option ElemId) : Type 0 where
  pub sound : d.is_stale ≡ false
  pub there : has_text d t ≡ true
  pub within : nat_le p (length (text (replay d.edits) t)) ≡ true
  pub made : MadeInsertion d.edits t p bytes (authored d.edits replica (insertion_at d.edits t p bytes))
  pub stamp : s ≡ next_stamp d.edits replica
  pub is : insertion_edit s t after bytes ≡ authored d.edits replica (insertion_at d.edits t p bytes)

pub typed : OneMoreIsOneStep → ElementsHaveOwnNames
    → (d : Replica) (replica : ℕ) (t : TextId) (p : ℕ) (bytes : List ℕ) (s : Stamp) (after : Option ElemId) (es : List Edit)
    → IsRising d.edits → es ≡ d.edits → s ≡ next_stamp es replica
    → MatchBool d.is_stale (place_of after ≡ Err Stale) (MatchBool (has_text d t) (MatchBool (nat_le p (length (text (replay d.edits) t))) (place_of after ≡ Ok (byte_before (elements (replay d.edits) t) p)) (place_of after ≡ Err OutOfRange)) (place_of after ≡ Err NoSuch))
    → Typed d replica t p bytes s after
typed one names d replica t p bytes s after es rising same next place =
    let q = placed _ _ _ _ _ place in
    let stamp : s ≡ next_stamp d.edits replica = next ∙ ap (λ fs. next_stamp fs replica) same in
    record {
      sound = q.0;
      there = q.1;
      within = q.2;
      made = made_insertion one names d.edits replica t p bytes rising q.1 q.2;
      stamp = stamp;
      is = made-as d.edits replica t p bytes s after stamp q.3;
    }

pub to-fault : (f : Option Cause) (es : List Edit) (e : Edit) (r : Result Edit DocumentError) → can (replay es) e ≡ true
    → edit_with e.stamp es ≡ None → AnswersToDo f es e r
    → AnswersFault f e r
to-fault (Some c) es e r h n a = a
to-fault None es e r h n a =
    let m = matched-true (can (replay es) e) (AnswersMade (edit_with e.stamp es) e r) (r ≡ Err NoSuch) h a in
    subst (λ o. AnswersMade o e r) n m

pub insertion-answers : (d : Replica) (replica : ℕ) (t : TextId) (p : ℕ) (bytes : List ℕ) (r : Result Edit DocumentError)
    → d.is_stale ≡ false → has_text d t ≡ true → nat_le p (length (text (replay d.edits) t)) ≡ true → is_spent d.edits 1 ≡ false
    → MadeInsertion d.edits t p bytes (authored d.edits replica (insertion_at d.edits t p bytes))
    → (r ≡ Err Memory)
    ⊎ AnswersToDo (fault (authored d.edits replica (insertion_at d.edits t p bytes))) d.edits (authored d.edits replica (insertion_at d.edits t p bytes)) r
    → (r ≡ Err Memory) ⊎ AnswersInsertion d replica t p bytes r
insertion-answers d replica t p bytes r b h l s made (inl m) = inl m
insertion-answers d replica t p bytes r b h l s made (inr a) =
    let e : Edit = authored d.edits replica (insertion_at d.edits t p bytes) in
    inr (match-false _ _ _ b (match-true _ _ _ h (match-true _ _ _ l (match-false _ _ _ s (to-fault (fault e) d.edits e r made.can_be made.free a)))))

-- what holds of the new set after an Ok
pub on-ok : (r : Result Edit DocumentError) (new old made : List Edit) (P : List Edit → Type 0) → new ≡ cond (is_ok r) made old → P made
    → OnOk r (P new)
on-ok (Ok e) new old made P h p = subst P (sym h) p
on-ok (Err x) new old made P h p = tt

-- an insertion takes memory only where it fits
pub insertion-fits : (es : List Edit) (s : Stamp) (t : TextId) (a : Option ElemId) (bytes : List ℕ)
    → MayTakeMemory es (insertion_edit s t a bytes)
    → Fits (insertion_edit s t a bytes)
insertion-fits es s t a bytes (inl h) = absurd (let k : false ≡ true = h.0 in cc)
insertion-fits es s t a bytes (inr h) = h.0
