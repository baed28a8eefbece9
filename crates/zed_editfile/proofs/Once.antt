-- Each list of edits has one text, and bytes are read in one way.
use Rattle.std.proofs.Common.{◌≡◌, ℕ, ◌^◌, ◌<◌, false, List, [], ◌∷◌, ◌++◌, length, take, drop, get_or, Option, Some, None, refl, sym, ap, subst, ◌∙◌, append_assoc, arith, inl, inr}
use Rattle.std.specs.List.{flat_map}
use Rattle.std.proofs.lemmas.List.{append-nil, take_at, drop_at, append_cancel_left}
use Rattle.byteorder.specs.Endian.{little_number}
use Rattle.zed_types.specs.declared.property.BoardSetting.{BoardSetting}
use Rattle.zed_types.specs.declared.property.BoardSetting.TheVariants as board
use Rattle.zed_op.specs.declared.op.Op.{Op}
use Rattle.zed_op.specs.declared.op.Op.TheVariants.{Genesis, SetHeader, BoardAdd, BoardRemove, SetBoard, SetCells, StatAdd, StatRemove, SetStat, TextAdd, TextInsert, TextDelete}
use Rattle.zed_op.specs.declared.op.Edit.{Edit}
use Rattle.zed_editfile.specs.declared.error.EditFileError.TheVariants.{Memory}
use Rattle.zed_editfile.specs.Spelling.{number, spelling, record_text, head_text, text_of, file_text, IsPropertyOf, IsOpOf, IsOf, AreOf}
use Rattle.zed_editfile.specs.Laws.{IsFrontOf}
use Rattle.zed_editfile.specs.Reading.{edit_at}
use Rattle.zed_editfile.specs.Stream.{Stop, is_other, fault_of, head_stop, record_stop, IsRecord, AreRecords, IsTextOf, Frames, Progress, stop_of, Stops, InRecords, Reads}
use Rattle.zed_editfile.proofs.Numbers.{length_number, number_back}
use Rattle.zed_types.proofs.Steps.{ok_is}
use Rattle.zed_editfile.proofs.Edits.{edit_again}
use Rattle.zed_editfile.proofs.Cuts.{frame_number, frame_behind, frame_stop}
use Rattle.zed_editfile.proofs.Found.{some_stop, no_record}
use Rattle.zed_editfile.proofs.Heads.{head_front}

-- ---- versions

property_of_two : (s : BoardSetting) → IsPropertyOf 2 s
property_of_two (board.Byte f n) = tt
property_of_two (board.Flag f b) = tt
property_of_two (board.TimeLimit n) = tt
property_of_two (board.Exit d b) = tt
property_of_two (board.Text f s) = tt
property_of_two (board.Rank n) = omega arith

op_of_two : (op : Op) → IsOpOf 2 op
op_of_two (Genesis bytes) = tt
op_of_two (SetHeader s) = tt
op_of_two (BoardAdd s) = tt
op_of_two (BoardRemove b) = tt
op_of_two (SetBoard b s) = property_of_two s
op_of_two (SetCells b r t) = tt
op_of_two (StatAdd b f) = tt
op_of_two (StatRemove s) = tt
op_of_two (SetStat s x) = tt
op_of_two TextAdd = tt
op_of_two (TextInsert t a bytes) = tt
op_of_two (TextDelete t r) = tt

-- version 2 has a spelling of each edit
of_two : (e : Edit) → IsOf 2 e
of_two e = op_of_two e.op

are_of_two : (es : List Edit) → AreOf 2 es
are_of_two [] = tt
are_of_two (e ∷ es) = (of_two e, are_of_two es)

-- ---- records

frame_of : (e : Edit) (x : List ℕ) → IsRecord e → Frames (record_text e ++ x) (spelling e) x
unfolding record_text
frame_of e x r = record { long = r.2; parts = append_assoc (number 4 (length (spelling e))) (spelling e) x }

not_stopped : (v : ℕ) (e : Edit) (x : List ℕ) → IsRecord e → IsOf v e → record_stop v (record_text e ++ x) ≡ None
not_stopped v e x r of = frame_stop v (record_text e ++ x) (spelling e) x (frame_of e x r) ∙ ap fault_of (edit_again v e r.1 r.0 of)

-- what has a record at the front has no other there
pub one_record : (e f : Edit) (x y : List ℕ) → IsRecord e → IsRecord f → record_text e ++ x ≡ record_text f ++ y → (e ≡ f) × (x ≡ y)
one_record e f x y r q same =
    let a = frame_of e x r in
    let b = frame_of f y q in
    let len : length (spelling e) ≡ length (spelling f) =
    sym (frame_number (record_text e ++ x) (spelling e) x a) ∙ ap (little_number 4) same
    ∙ frame_number (record_text f ++ y) (spelling f) y b in
    let behind : spelling e ++ x ≡ spelling f ++ y =
    sym (frame_behind (record_text e ++ x) (spelling e) x a) ∙ ap (drop 4) same ∙ frame_behind (record_text f ++ y) (spelling f) y b in
    let body : spelling e ≡ spelling f =
    sym (take_at (spelling e) x (length (spelling e)) refl) ∙ ap (take (length (spelling e))) behind
    ∙ take_at (spelling f) y (length (spelling e)) (sym len) in
    let rest : x ≡ y = append_cancel_left (spelling f) x y (ap (λ (t : List ℕ). t ++ x) (sym body) ∙ behind) in
    (ok_is e f (sym (edit_again 2 e r.1 r.0 (of_two e)) ∙ ap (edit_at 2) body ∙ edit_again 2 f q.1 q.0 (of_two f)), rest)

none_is_not : (s : Stop) → None ≡ some_stop s → ⊥
none_is_not s h = absurd cc

pub one_split : (v : ℕ) (es fs : List Edit) (t u : List ℕ) (p q : Stop) → AreRecords es → AreOf v es → AreRecords fs → AreOf v fs
    → flat_map record_text es ++ t ≡ flat_map record_text fs ++ u → record_stop v t ≡ some_stop p → record_stop v u ≡ some_stop q
    → (es ≡ fs) × (t ≡ u)
one_split v [] [] t u p q a k b l same m n = (refl, same)
one_split v [] (f ∷ fs) t u p q a k b l same m n =
    let whole : t ≡ record_text f ++ (flat_map record_text fs ++ u) = same ∙ append_assoc (record_text f) (flat_map record_text fs) u in
    absurd (none_is_not p (sym (ap (record_stop v) whole ∙ not_stopped v f (flat_map record_text fs ++ u) b.0 l.0) ∙ m))
one_split v (e ∷ es) [] t u p q a k b l same m n =
    let whole : u ≡ record_text e ++ (flat_map record_text es ++ t) = sym same ∙ append_assoc (record_text e) (flat_map record_text es) t in
    absurd (none_is_not q (sym (ap (record_stop v) whole ∙ not_stopped v e (flat_map record_text es ++ t) a.0 k.0) ∙ n))
one_split v (e ∷ es) (f ∷ fs) t u p q a k b l same m n =
    let flat : record_text e ++ (flat_map record_text es ++ t) ≡ record_text f ++ (flat_map record_text fs ++ u) =
    sym (append_assoc (record_text e) (flat_map record_text es) t) ∙ same ∙ append_assoc (record_text f) (flat_map record_text fs) u in
    let first = one_record e f (flat_map record_text es ++ t) (flat_map record_text fs ++ u) a.0 b.0 flat in
    let others = one_split v es fs t u p q a.1 k.1 b.1 l.1 first.1 m n in
    (ap (λ (x : Edit). x ∷ es) first.0 ∙ ap (λ (x : List Edit). f ∷ x) others.0, others.1)

-- edits whose records stand at the front of those of others are the first of these
pub front_of : (es fs : List Edit) (u : List ℕ) → AreRecords es → AreRecords fs → flat_map record_text es ≡ flat_map record_text fs ++ u
    → IsFrontOf fs es
front_of es [] u a b same = (es, refl)
front_of [] (f ∷ fs) u a b same =
    let whole : [] ≡ record_text f ++ (flat_map record_text fs ++ u) = same ∙ append_assoc (record_text f) (flat_map record_text fs) u in
    absurd (none_is_not (record { rest = []; fault = None }) (sym (not_stopped 2 f (flat_map record_text fs ++ u) b.0 (of_two f)) ∙ ap (record_stop 2) (sym whole) ∙ no_record 2))
front_of (e ∷ es) (f ∷ fs) u a b same =
    let flat : record_text e ++ flat_map record_text es ≡ record_text f ++ (flat_map record_text fs ++ u) =
    same ∙ append_assoc (record_text f) (flat_map record_text fs) u in
    let first = one_record e f (flat_map record_text es) (flat_map record_text fs ++ u) a.0 b.0 flat in
    let others = front_of es fs u a.1 b.1 first.1 in
    (others.0, ap (λ (x : Edit). x ∷ es) first.0 ∙ ap (λ (x : List Edit). f ∷ x) others.1)

-- ---- heads

head_number : (v n : ℕ) (x : List ℕ) → n < 2 ^ 64 → little_number 8 (drop 4 (head_text v n ++ x)) ≡ n
unfolding head_text
head_number v n x lt = number_back 8 n x lt

length_head : (v n : ℕ) → length (head_text v n) ≡ 12
unfolding head_text
length_head v n = omega (arith, length_number 8 n)

head_version : (v n : ℕ) (x : List ℕ) → get_or (head_text v n ++ x) 3 0 ≡ v
unfolding head_text
head_version v n x = refl

pub one_head : (v w m n : ℕ) (x y : List ℕ) → m < 2 ^ 64 → n < 2 ^ 64 → head_text v m ++ x ≡ head_text w n ++ y
    → (v ≡ w) × (m ≡ n) × (x ≡ y)
one_head v w m n x y a b same = (
  sym (head_version v m x) ∙ ap (λ (t : List ℕ). get_or t 3 0) same ∙ head_version w n y,
  sym (head_number v m x a) ∙ ap (λ (t : List ℕ). little_number 8 (drop 4 t)) same ∙ head_number w n y b,
  sym (drop_at (head_text v m) x 12 (length_head v m)) ∙ ap (drop 12) same ∙ drop_at (head_text w n) y 12 (length_head w n),
)

pub one_file : (m n : ℕ) (es fs : List Edit) → m < 2 ^ 64 → n < 2 ^ 64 → AreRecords es → AreRecords fs → (v w : ℕ)
    → text_of v m es ≡ text_of w n fs
    → (v ≡ w) × (m ≡ n) × (es ≡ fs)
one_file m n es fs a b r q v w same =
    let h = one_head v w m n (flat_map record_text es) (flat_map record_text fs) a b same in
    let flat : flat_map record_text es ++ [] ≡ flat_map record_text fs ++ [] = ap (λ (t : List ℕ). t ++ []) h.2 in
    (h.0, h.1, (one_split 2 es fs [] [] (record { rest = []; fault = None }) (record { rest = []; fault = None }) r (are_of_two es) q (are_of_two fs) flat (no_record 2) (no_record 2)).0)

-- ---- readings

abbrev stopped : (left : List ℕ) (p : Progress) → (p.fault ≡ Some Memory → ⊥) → (o : Option Stop) → Stops left p o → o ≡ some_stop (stop_of p)
stopped left p m o s = elim s [ inl bad ↦ absurd (m bad.0) | inr h ↦ h ]

abbrev stop_in : Stop → Option Stop → Stop
stop_in d None = d
stop_in d (Some x) = x

stop_is : (s t : Stop) → some_stop s ≡ some_stop t → s ≡ t
stop_is s t h = ap (stop_in s) h

abbrev made : Option ℕ → Option ℕ → ℕ → Stop → Progress
made asked world version stop = record { asked = asked; world = world; version = version; rest = stop.rest; fault = stop.fault }

same_progress : (p q : Progress) → p.asked ≡ q.asked → p.world ≡ q.world → p.version ≡ q.version → stop_of p ≡ stop_of q → p ≡ q
same_progress p q a w v s =
    let path : made p.asked p.world p.version (stop_of p) ≡ made q.asked q.world q.version (stop_of q) =
    ap (λ (x : Option ℕ). made x p.world p.version (stop_of p)) a ∙ ap (λ (x : Option ℕ). made q.asked x p.version (stop_of p)) w ∙ ap (λ (x : ℕ). made q.asked q.world x (stop_of p)) v ∙ ap (λ (x : Stop). made q.asked q.world q.version x) s in
    path

head_is_whole : (asked : Option ℕ) (bytes : List ℕ) (found : List Edit) (p : Progress) → p.asked ≡ asked → (h : InRecords bytes found p)
    → head_stop asked bytes ≡ None
head_is_whole asked bytes found p same h =
    ap (head_stop asked) (h.whole ∙ append_assoc (head_text p.version h.number) (flat_map record_text found) h.tail) ∙ head_front asked p.version h.number (flat_map record_text found ++ h.tail) h.fits h.known (ap (λ (x : Option ℕ). is_other x h.number) (sym same) ∙ h.asked)

pub one_reading : (bytes : List ℕ) (es fs : List Edit) (p q : Progress) → p.asked ≡ q.asked → (p.fault ≡ Some Memory → ⊥)
    → (q.fault ≡ Some Memory → ⊥) → Reads bytes es p → Reads bytes fs q
    → (es ≡ fs) × (p ≡ q)
one_reading bytes es fs p q same m n a b = elim a [
  | inl x ↦
      elim b [
        | inl y ↦
            let s = x.stop in
            let t = y.stop in
            (x.none ∙ sym y.none, same_progress p q same (x.world ∙ sym y.world) (x.version ∙ sym y.version) (stop_is (stop_of p) (stop_of q) (sym s ∙ ap (λ (o : Option ℕ). head_stop o bytes) same ∙ t)))
        | inr y ↦ absurd (none_is_not (stop_of p) (sym (head_is_whole p.asked bytes fs q (sym same) y) ∙ x.stop))
      ]
  | inr x ↦
      elim b [
        | inl y ↦ absurd (none_is_not (stop_of q) (sym (head_is_whole q.asked bytes es p same x) ∙ y.stop))
        | inr y ↦
            let s = stopped x.tail p m (record_stop p.version x.tail) x.stop in
            let t = stopped y.tail q n (record_stop q.version y.tail) y.stop in
            let texts : head_text p.version x.number ++ (flat_map record_text es ++ x.tail) ≡ head_text q.version y.number ++ (flat_map record_text fs ++ y.tail) = sym (append_assoc (head_text p.version x.number) (flat_map record_text es) x.tail) ∙ sym x.whole ∙ y.whole ∙ append_assoc (head_text q.version y.number) (flat_map record_text fs) y.tail in
            let h = one_head p.version q.version x.number y.number (flat_map record_text es ++ x.tail) (flat_map record_text fs ++ y.tail) x.fits y.fits texts in
            let spelled = subst (λ (v : ℕ). AreOf v fs) (sym h.0) y.spelled in
            let u = ap (λ (v : ℕ). record_stop v y.tail) h.0 ∙ t in
            let r = one_split p.version es fs x.tail y.tail (stop_of p) (stop_of q) x.good x.spelled y.good spelled h.2 s u in
            (r.0, same_progress p q same (x.world ∙ ap (λ (k : ℕ). Some k) h.1 ∙ sym y.world) h.0 (stop_is (stop_of p) (stop_of q) (sym s ∙ ap (record_stop p.version) r.1 ∙ u)))
      ]
]

-- the whole text of edits is read so
pub file_reads : (asked : Option ℕ) (n : ℕ) (es : List Edit) (bytes : List ℕ) → n < 2 ^ 64 → is_other asked n ≡ false → AreRecords es
    → (file : IsTextOf n es bytes)
    → Reads bytes es (record { asked = asked; world = Some n; version = file.version; rest = []; fault = None })
file_reads asked n es bytes lt other good file =
    inr (record { number = n; tail = []; fits = lt; asked = other; world = refl; known = file.known; good = good; spelled = file.spelled; whole = file.text ∙ sym (append-nil (text_of file.version n es)); stop = inr (no_record file.version) })

pub written_is_text : (n : ℕ) (es : List Edit) → IsTextOf n es (file_text n es)
written_is_text n es = record { version = 2; known = refl; spelled = are_of_two es; text = refl }
