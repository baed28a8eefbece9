-- Where reading stops: at the front of a record, however many bytes follow, and what records are taken before it.
use Rattle.std.proofs.Common.{◌≡◌, ℕ, zero, suc, ◌+◌, ◌^◌, ◌<◌, ◌≤◌, Bool, true, false, ltb, leb, ◌&&◌, List, [], ◌∷◌, ◌++◌, length, take, drop, Option, Some, None, Result, Ok, Err, refl, sym, ap, subst, ◌∙◌, append_assoc, ◌-◌, arith, ◌⊎◌, inl, inr}
use Rattle.std.specs.Prelude.{IsOk}
use Rattle.std.specs.List.{flat_map}
use Rattle.std.proofs.lemmas.Bool.{ltb-true, ltb-false, lt-ltb, le-ltb, leb-true}
use Rattle.std.proofs.lemmas.List.{append-nil, take_at, drop_at, take-append-drop, take-append-le, length-append, length-take, length-drop}
use Rattle.byteorder.specs.Endian.{little_number}
use Rattle.byteorder.specs.Numbers.{little_from-append}
use Rattle.zed_op.specs.declared.op.Edit.{Edit}
use Rattle.zed_editfile.specs.declared.error.EditFileError.{EditFileError}
use Rattle.zed_editfile.specs.declared.error.EditFileError.TheVariants.{Memory, RecordLength}
use Rattle.zed_editfile.specs.Spelling.{number, record_text, AreOf}
use Rattle.zed_editfile.specs.Reading.{edit_at, SpellsString}
use Rattle.zed_editfile.specs.Stream.{Stop, waits, fails, is_length, fault_of, body_at, record_stop, AreRecords, Frames, Gains, HasLength, IsLong, MayWantMemory, MayWantMemoryBehind}
use Rattle.zed_editfile.proofs.Numbers.{IsBytes, IsBytes-front, IsBytes-behind, length_number, number_is, number_back}
use Rattle.zed_editfile.proofs.Edits.{edit_takes}

-- ---- the front of a record

pub is_short : (v : ℕ) (b : List ℕ) → length b < 4 → record_stop v b ≡ waits b
unfolding record_stop
is_short v b lt = let t : ltb (length b) 4 ≡ true = lt-ltb _ _ lt in rw t refl

pub is_bad : (v : ℕ) (b : List ℕ) → 4 ≤ length b → is_length (little_number 4 b) ≡ false → record_stop v b ≡ fails RecordLength
unfolding record_stop
is_bad v b le bad = let t : ltb (length b) 4 ≡ false = le-ltb _ _ le in rw (t, bad) refl

pub is_cut : (v : ℕ) (b : List ℕ) → 4 ≤ length b → is_length (little_number 4 b) ≡ true → length (drop 4 b) < little_number 4 b
    → record_stop v b ≡ waits b
unfolding record_stop
is_cut v b le good lt =
    let t : ltb (length b) 4 ≡ false = le-ltb _ _ le in
    let u : ltb (length (drop 4 b)) (little_number 4 b) ≡ true = lt-ltb _ _ lt in
    rw (t, good, u) refl

pub is_whole : (v : ℕ) (b : List ℕ) → 4 ≤ length b → is_length (little_number 4 b) ≡ true → little_number 4 b ≤ length (drop 4 b)
    → record_stop v b ≡ fault_of (edit_at v (body_at b))
unfolding record_stop
is_whole v b le good long =
    let t : ltb (length b) 4 ≡ false = le-ltb _ _ le in
    let u : ltb (length (drop 4 b)) (little_number 4 b) ≡ false = le-ltb _ _ long in
    rw (t, good, u) refl

-- which of the four it is
pub record IsBad (b : List ℕ) : Type 0 where
  pub long : 4 ≤ length b
  pub bad : is_length (little_number 4 b) ≡ false

pub record IsCut (b : List ℕ) : Type 0 where
  pub long : 4 ≤ length b
  pub good : is_length (little_number 4 b) ≡ true
  pub cut : length (drop 4 b) < little_number 4 b

pub record IsWhole (b : List ℕ) : Type 0 where
  pub long : 4 ≤ length b
  pub good : is_length (little_number 4 b) ≡ true
  pub whole : little_number 4 b ≤ length (drop 4 b)

cases_bool : (b : Bool) → (b ≡ true) ⊎ (b ≡ false)
cases_bool true = inl refl
cases_bool false = inr refl

pub front_cases : (b : List ℕ) → (length b < 4) ⊎ (IsBad b ⊎ (IsCut b ⊎ IsWhole b))
front_cases b = elim (cases_bool (ltb (length b) 4)) [
  | inl t ↦ inl (ltb-true _ _ t)
  | inr t ↦
      let le : 4 ≤ length b = ltb-false _ _ t in
      elim (cases_bool (is_length (little_number 4 b))) [
        | inr bad ↦ inr (inl (record { long = le; bad = bad }))
        | inl good ↦
            elim (cases_bool (ltb (length (drop 4 b)) (little_number 4 b))) [
              | inl u ↦ inr (inr (inl (record { long = le; good = good; cut = ltb-true _ _ u })))
              | inr u ↦ inr (inr (inr (record { long = le; good = good; whole = ltb-false _ _ u })))
            ]
      ]
]

abbrev fault_in : Option Stop → Option EditFileError
fault_in None = None
fault_in (Some s) = s.fault

abbrev rest_in : Option Stop → List ℕ
rest_in None = []
rest_in (Some s) = s.rest

pub waits_not_fails : (bytes : List ℕ) (e : EditFileError) → waits bytes ≡ fails e → ⊥
waits_not_fails bytes e h = let c : fault_in (waits bytes) ≡ fault_in (fails e) = ap fault_in h in absurd cc

pub waits_same : (a b : List ℕ) → waits a ≡ waits b → a ≡ b
waits_same a b h = ap rest_in h

fault_never_waits : (r : Result Edit EditFileError) (bytes : List ℕ) → fault_of r ≡ waits bytes → ⊥
fault_never_waits (Ok e) bytes h = absurd cc
fault_never_waits (Err e) bytes h = waits_not_fails bytes e (sym h)

-- what waits is less than a record, and all of it is kept
pub waits_is : (v : ℕ) (b rest : List ℕ) → record_stop v b ≡ waits rest → (b ≡ rest) × ((length b < 4) ⊎ IsCut b)
waits_is v b rest h = elim (front_cases b) [
  | inl short ↦ (waits_same b rest (sym (is_short v b short) ∙ h), inl short)
  | inr (inl bad) ↦ absurd (waits_not_fails rest RecordLength (sym h ∙ is_bad v b bad.long bad.bad))
  | inr (inr (inl cut)) ↦ (waits_same b rest (sym (is_cut v b cut.long cut.good cut.cut) ∙ h), inr cut)
  | inr (inr (inr whole)) ↦ absurd (fault_never_waits (edit_at v (body_at b)) rest (sym (is_whole v b whole.long whole.good whole.whole) ∙ h))
]

-- the same number at the front, whatever follows
pub same_number : (b x : List ℕ) → 4 ≤ length b → little_number 4 (b ++ x) ≡ little_number 4 b
same_number b x le = little_from-append 4 b x le

drop_longer : (n : ℕ) (b x : List ℕ) → n ≤ length b → drop n (b ++ x) ≡ drop n b ++ x
drop_longer zero b x le = refl
drop_longer (suc n) [] x le = absurd (omega arith)
drop_longer (suc n) (y ∷ b) x le = drop_longer n b x (omega arith)

whole_longer : (b x : List ℕ) → IsWhole b → IsWhole (b ++ x) × (body_at (b ++ x) ≡ body_at b)
whole_longer b x w =
    let le : 4 ≤ length b = w.long in
    let same : little_number 4 (b ++ x) ≡ little_number 4 b = same_number b x le in
    let behind : drop 4 (b ++ x) ≡ drop 4 b ++ x = drop_longer 4 b x le in
    let long : little_number 4 b ≤ length (drop 4 b) = w.whole in
    let n : ℕ = little_number 4 b in
    let front : take n (drop 4 b ++ x) ≡ take n (drop 4 b) = take-append-le n (drop 4 b) x long in
    let more : length (drop 4 b ++ x) ≡ length (drop 4 b) + length x = length-append (drop 4 b) x in
    let all : length (b ++ x) ≡ length b + length x = length-append b x in
    (record { long = omega (arith, all, le); good = ap is_length same ∙ w.good; whole = rw (same, behind) (omega (arith, more, long)) }, ap (λ (k : ℕ). take k (drop 4 (b ++ x))) same ∙ ap (take n) behind ∙ front)

-- a fault that shows stays
pub fault_stays : (v : ℕ) (b x : List ℕ) (e : EditFileError) → record_stop v b ≡ fails e → record_stop v (b ++ x) ≡ fails e
fault_stays v b x e h = elim (front_cases b) [
  | inl short ↦ absurd (waits_not_fails b e (sym (is_short v b short) ∙ h))
  | inr (inl bad) ↦
      let le : 4 ≤ length (b ++ x) = omega (arith, length-append b x, bad.long) in
      let c : is_length (little_number 4 (b ++ x)) ≡ false = ap is_length (same_number b x bad.long) ∙ bad.bad in
      is_bad v (b ++ x) le c ∙ sym (is_bad v b bad.long bad.bad) ∙ h
  | inr (inr (inl cut)) ↦ absurd (waits_not_fails b e (sym (is_cut v b cut.long cut.good cut.cut) ∙ h))
  | inr (inr (inr whole)) ↦
      let w = whole_longer b x whole in
      is_whole v (b ++ x) w.0.long w.0.good w.0.whole ∙ ap (λ (t : List ℕ). fault_of (edit_at v t)) w.1 ∙ sym (is_whole v b whole.long whole.good whole.whole) ∙ h
]

-- ---- a length and a body

pub frames_at : (b : List ℕ) (n : ℕ) → IsBytes b → 4 ≤ length b → n ≡ little_number 4 b → is_length n ≡ true → n ≤ length (drop 4 b)
    → Frames b (take n (drop 4 b)) (drop n (drop 4 b))
frames_at b n fits le is good long =
    let len : length (take n (drop 4 b)) ≡ n = omega (arith, length-take n (drop 4 b)) in
    let number_front : number 4 n ≡ take 4 b = ap (number 4) is ∙ number_is 4 b fits le in
    let whole : b ≡ number 4 n ++ (take n (drop 4 b) ++ drop n (drop 4 b)) =
    sym (take-append-drop 4 b) ∙ ap (λ (t : List ℕ). t ++ drop 4 b) (sym number_front) ∙ ap (λ (t : List ℕ). number 4 n ++ t) (sym (take-append-drop n (drop 4 b))) in
    record { long = ap is_length len ∙ good; parts = whole ∙ ap (λ (k : ℕ). number 4 k ++ (take n (drop 4 b) ++ drop n (drop 4 b))) (sym len) }

second_true : (a b : Bool) → (a && b) ≡ true → b ≡ true
second_true true b h = h
second_true false b h = absurd cc

first_true : (a b : Bool) → (a && b) ≡ true → a ≡ true
first_true true b h = refl
first_true false b h = absurd cc

length_above : (n : ℕ) → is_length n ≡ true → 9 ≤ n
length_above n h = leb-true 9 n (first_true (leb 9 n) (leb n 4194304) h)

length_below : (n : ℕ) → is_length n ≡ true → n < 256 ^ 4
length_below n h = let le : n ≤ 4194304 = leb-true n 4194304 (second_true (leb 9 n) (leb n 4194304) h) in omega arith

-- what a frame says of the front
pub frame_number : (b body after : List ℕ) → Frames b body after → little_number 4 b ≡ length body
frame_number b body after f = ap (little_number 4) f.parts ∙ number_back 4 (length body) (body ++ after) (length_below (length body) f.long)

pub frame_behind : (b body after : List ℕ) → Frames b body after → drop 4 b ≡ body ++ after
frame_behind b body after f = ap (drop 4) f.parts ∙ drop_at (number 4 (length body)) (body ++ after) 4 (length_number 4 (length body))

pub frame_body : (b body after : List ℕ) → Frames b body after → body_at b ≡ body
frame_body b body after f =
    ap (λ (k : ℕ). take k (drop 4 b)) (frame_number b body after f) ∙ ap (take (length body)) (frame_behind b body after f)
    ∙ take_at body after (length body) refl

pub frame_whole : (b body after : List ℕ) → Frames b body after → IsWhole b
frame_whole b body after f =
    let same : little_number 4 b ≡ length body = frame_number b body after f in
    let behind : drop 4 b ≡ body ++ after = frame_behind b body after f in
    let len : length b ≡ length (number 4 (length body)) + length (body ++ after) =
    ap length f.parts ∙ length-append (number 4 (length body)) (body ++ after) in
    let four : length (number 4 (length body)) ≡ 4 = length_number 4 (length body) in
    record { long = omega (arith, len, four); good = ap is_length same ∙ f.long; whole = rw (same, behind) (omega (arith, length-append body after)) }

pub frame_stop : (v : ℕ) (b body after : List ℕ) → Frames b body after → record_stop v b ≡ fault_of (edit_at v body)
frame_stop v b body after f = let w = frame_whole b body after f in is_whole v b w.long w.good w.whole ∙ ap (λ (t : List ℕ). fault_of (edit_at v t)) (frame_body b body after f)

pub frame_shorter : (b body after : List ℕ) → Frames b body after → length after < length b
frame_shorter b body after f =
    let len : length b ≡ length (number 4 (length body)) + length (body ++ after) =
    ap length f.parts ∙ length-append (number 4 (length body)) (body ++ after) in
    omega (arith, len, length_number 4 (length body), length-append body after)

-- ---- what a list gains

pub no_gain : (v : ℕ) (before after : List Edit) (b : List ℕ) → after ≡ before → Gains v before after b b
no_gain v before after b e = record { edits = []; gained = e ∙ sym (append-nil before); good = tt; spelled = tt; whole = refl }

pub one_gain : (v : ℕ) (before after : List Edit) (b body rest : List ℕ) (e : Edit) → IsBytes b → Frames b body rest → edit_at v body ≡ Ok e
    → after ≡ before ++ e ∷ []
    → Gains v before after b rest
unfolding record_text
one_gain v before after b body rest e fits f read is =
    let inner : IsBytes (number 4 (length body) ++ (body ++ rest)) = subst (λ (t : List ℕ). IsBytes t) f.parts fits in
    let body_fits : IsBytes body = IsBytes-front body rest (IsBytes-behind (number 4 (length body)) (body ++ rest) inner) in
    let t = edit_takes v body e body_fits read in
    let text : b ≡ record_text e ++ rest =
    f.parts ∙ sym (append_assoc (number 4 (length body)) body rest) ∙ ap (λ (t : List ℕ). (number 4 (length t) ++ t) ++ rest) t.0 in
    record { edits = e ∷ []; gained = is; good = ((t.2, t.1, ap (λ (b : List ℕ). is_length (length b)) (sym t.0) ∙ f.long), tt); spelled = (t.3, tt); whole = text ∙ ap (λ (t : List ℕ). t ++ rest) (sym (append-nil (record_text e))) }

pub flat_both : (es fs : List Edit) → flat_map record_text (es ++ fs) ≡ flat_map record_text es ++ flat_map record_text fs
flat_both [] fs = refl
flat_both (e ∷ es) fs =
    ap (λ (t : List ℕ). record_text e ++ t) (flat_both es fs)
    ∙ sym (append_assoc (record_text e) (flat_map record_text es) (flat_map record_text fs))

pub records_both : (es fs : List Edit) → AreRecords es → AreRecords fs → AreRecords (es ++ fs)
records_both [] fs a b = b
records_both (e ∷ es) fs a b = (a.0, records_both es fs a.1 b)

pub spelled_both : (v : ℕ) (es fs : List Edit) → AreOf v es → AreOf v fs → AreOf v (es ++ fs)
spelled_both v [] fs a b = b
spelled_both v (e ∷ es) fs a b = (a.0, spelled_both v es fs a.1 b)

pub gain_on : (v : ℕ) (x y z : List Edit) (b c d : List ℕ) → Gains v x y b c → Gains v y z c d → Gains v x z b d
gain_on v x y z b c d g h = record {
  edits = g.edits ++ h.edits;
  gained = h.gained ∙ ap (λ (t : List Edit). t ++ h.edits) g.gained ∙ append_assoc x g.edits h.edits;
  good = records_both g.edits h.edits g.good h.good;
  spelled = spelled_both v g.edits h.edits g.spelled h.spelled;
  whole =
      g.whole ∙ ap (λ (t : List ℕ). flat_map record_text g.edits ++ t) h.whole
      ∙ sym (append_assoc (flat_map record_text g.edits) (flat_map record_text h.edits) d)
      ∙ ap (λ (t : List ℕ). t ++ d) (sym (flat_both g.edits h.edits));
}

-- the same with more bytes behind
pub gain_longer : (v : ℕ) (x y : List Edit) (b c d : List ℕ) → Gains v x y b c → Gains v x y (b ++ d) (c ++ d)
gain_longer v x y b c d g = record { edits = g.edits; gained = g.gained; good = g.good; spelled = g.spelled; whole = ap (λ (t : List ℕ). t ++ d) g.whole ∙ append_assoc (flat_map record_text g.edits) c d }

-- ---- as the code goes

pub framed : (b rest body after : List ℕ) (n : ℕ) → IsBytes b → (4 ≤ length b) × (n ≡ little_number 4 b) × (is_length n ≡ true)
    → rest ≡ drop 4 b → n ≤ length rest → body ≡ take n rest → after ≡ drop n rest
    → Frames b body after
framed b rest body after n fits h r long e f =
    let le : n ≤ length (drop 4 b) = subst (λ (t : List ℕ). n ≤ length t) r long in
    rw (e, f, r) (frames_at b n fits h.0 h.1 h.2 le)

pub frame_after : (b body after : List ℕ) → Frames b body after → after ≡ drop (little_number 4 b) (drop 4 b)
frame_after b body after f = sym (ap (λ (k : ℕ). drop k (drop 4 b)) (frame_number b body after f) ∙ ap (drop (length body)) (frame_behind b body after f) ∙ drop_at body after (length body) refl)

-- a whole record is longer than what is kept without memory
frame_past : (b body after : List ℕ) → Frames b body after → 12 < length b
frame_past b body after f =
    let len : length b ≡ length (number 4 (length body)) + length (body ++ after) =
    ap length f.parts ∙ length-append (number 4 (length body)) (body ++ after) in
    omega (arith, len, length_number 4 (length body), length-append body after, length_above (length body) f.long)

-- memory may be wanted for what a whole record spells
frame_wants : (v : ℕ) (b body after : List ℕ) → Frames b body after → IsOk (edit_at v body) ⊎ SpellsString v body → MayWantMemory v b
frame_wants v b body after f w =
    let whole = frame_whole b body after f in
    let P : List ℕ → Type 0 = λ t. IsOk (edit_at v t) ⊎ SpellsString v t in
    (((whole.long, whole.good), frame_past b body after f), inr (subst P (sym (frame_body b body after f)) w))

pub frame_fault : (v : ℕ) (b body after : List ℕ) (e : EditFileError) → Frames b body after
    → ((e ≡ Memory) × SpellsString v body) ⊎ (edit_at v body ≡ Err e)
    → ((e ≡ Memory) × MayWantMemory v b) ⊎ (record_stop v b ≡ fails e)
frame_fault v b body after e f h =
    elim h [ inl m ↦ inl (m.0, frame_wants v b body after f (inr m.1)) | inr r ↦ inr (frame_stop v b body after f ∙ ap fault_of r) ]

is_ok : (r : Result Edit EditFileError) (e : Edit) → r ≡ Ok e → IsOk r
is_ok (Ok x) e h = refl
is_ok (Err d) e h = absurd cc

pub frame_edit : (v : ℕ) (b body after : List ℕ) (e : Edit) → Frames b body after → edit_at v body ≡ Ok e → MayWantMemory v b
frame_edit v b body after e f h = frame_wants v b body after f (inl (is_ok (edit_at v body) e h))

-- a record that waits with more than its length is cut
pub waits_wants : (v : ℕ) (b : List ℕ) → record_stop v b ≡ waits b → 12 < length b → MayWantMemory v b
waits_wants v b stop past = elim (waits_is v b b stop).1 [ inl short ↦ absurd (omega arith) | inr cut ↦ (((cut.long, cut.good), past), inl cut.cut) ]

-- a good length stays, whatever follows
pub length_stays : (k l : List ℕ) → HasLength k → HasLength (k ++ l)
length_stays k l h = (omega (arith, h.0, length-append k l), ap is_length (same_number k l h.0) ∙ h.1)

pub length_on : (total k l : List ℕ) → k ++ l ≡ total → HasLength k → HasLength total
length_on total k l whole h = subst HasLength whole (length_stays k l h)

pub behind_length : (v : ℕ) (kept bytes tail : List ℕ) → MayWantMemoryBehind v kept bytes tail → HasLength tail
behind_length v kept bytes tail h = elim h [ inl began ↦ began.2.0 | inr wants ↦ wants.0.0 ]

pub long_on : (total k l : List ℕ) → k ++ l ≡ total → IsLong k → IsLong total
long_on total k l whole h =
    let longer : length total ≡ length k + length l = sym (ap length whole) ∙ length-append k l in
    (length_on total k l whole h.0, omega (arith, h.1, longer))

-- a fault of the front is one of the whole
pub fault_on : (v : ℕ) (total k l old : List ℕ) (e : EditFileError) → k ++ l ≡ total → 0 < length old
    → ((e ≡ Memory) × MayWantMemory v k) ⊎ (record_stop v k ≡ fails e)
    → ((e ≡ Memory) × (0 < length old) × IsLong total) ⊎ (record_stop v total ≡ fails e)
fault_on v total k l old e whole some h = elim h [ inl m ↦ inl (m.0, some, long_on total k l whole m.1.0) | inr r ↦ inr (ap (record_stop v) (sym whole) ∙ fault_stays v k l e r) ]

-- the same of a record that began in earlier pieces
pub began_fault : (v : ℕ) (kept total : List ℕ) (e : EditFileError)
    → ((e ≡ Memory) × (0 < length kept) × IsLong total) ⊎ (record_stop v total ≡ fails e)
    → ((e ≡ Memory) × MayWantMemoryBehind v kept total total) ⊎ (record_stop v total ≡ fails e)
began_fault v kept total e h = elim h [ inl m ↦ inl (m.0, inl (m.1, refl, m.2)) | inr r ↦ inr r ]

-- and of one behind it
pub behind_fault : (v : ℕ) (kept total tail : List ℕ) (e : EditFileError)
    → ((e ≡ Memory) × MayWantMemory v tail) ⊎ (record_stop v tail ≡ fails e)
    → ((e ≡ Memory) × MayWantMemoryBehind v kept total tail) ⊎ (record_stop v tail ≡ fails e)
behind_fault v kept total tail e h = elim h [ inl m ↦ inl (m.0, inr m.1) | inr r ↦ inr r ]

pub bad_on : (v : ℕ) (total k l : List ℕ) (e : EditFileError) → k ++ l ≡ total
    → (e ≡ RecordLength) × (4 ≤ length k) × (is_length (little_number 4 k) ≡ false)
    → record_stop v total ≡ fails e
bad_on v total k l e whole h = ap (record_stop v) (sym whole) ∙ fault_stays v k l e (is_bad v k h.1 h.2 ∙ ap fails (sym h.0))

pub short_on : (v : ℕ) (total k l : List ℕ) → k ++ l ≡ total → (length k < 4 → l ≡ []) → length k < 4
    → (k ≡ total) × (record_stop v k ≡ waits k)
short_on v total k l whole none lt = (sym (append-nil k) ∙ ap (λ (t : List ℕ). k ++ t) (sym (none lt)) ∙ whole, is_short v k lt)

-- the number of a record that goes on is the same
number_on : (k2 l2 k1 l1 : List ℕ) → k2 ++ l2 ≡ k1 ++ l1 → 4 ≤ length k1 → 4 ≤ length k2 → little_number 4 k2 ≡ little_number 4 k1
number_on k2 l2 k1 l1 same a b = sym (same_number k2 l2 b) ∙ ap (little_number 4) same ∙ same_number k1 l1 a

pub cut_on : (v : ℕ) (k2 l2 k1 l1 : List ℕ) (n : ℕ) → k2 ++ l2 ≡ k1 ++ l1
    → (4 ≤ length k1) × (n ≡ little_number 4 k1) × (is_length n ≡ true) → record_stop v k2 ≡ waits k2 → (length k2 < 4 + n → l2 ≡ [])
    → k2 ≡ k1 ++ l1
cut_on v k2 l2 k1 l1 n same h stop none =
    let less : length k2 < 4 + n = elim (waits_is v k2 k2 stop).1 [
      | inl short ↦ omega arith
      | inr cut ↦
          let e : little_number 4 k2 ≡ n = number_on k2 l2 k1 l1 same h.0 cut.long ∙ sym h.1 in
          let lt : length (drop 4 k2) < n = subst (λ (m : ℕ). length (drop 4 k2) < m) e cut.cut in
          omega (arith, length-drop 4 k2, lt, cut.long)
    ] in
    sym (append-nil k2) ∙ ap (λ (t : List ℕ). k2 ++ t) (sym (none less)) ∙ same

nil_of : (r : List ℕ) → length r ≡ 0 → r ≡ []
nil_of [] h = refl
nil_of (x ∷ r) h = absurd (omega arith)

-- a record that was cut has room for no more than its bytes
pub nothing_left : (k2 l2 k1 l1 r : List ℕ) (n : ℕ) → k2 ++ l2 ≡ k1 ++ l1
    → (4 ≤ length k1) × (n ≡ little_number 4 k1) × (is_length n ≡ true) → length k2 ≤ 4 + n → r ≡ drop (little_number 4 k2) (drop 4 k2)
    → r ≡ []
nothing_left k2 l2 k1 l1 r n same h size is =
    let len : length r ≡ length (drop 4 k2) - little_number 4 k2 = ap length is ∙ length-drop (little_number 4 k2) (drop 4 k2) in
    let all : length (drop 4 k2) ≡ length k2 - 4 = length-drop 4 k2 in
    nil_of r (elim (cases_bool (ltb (length k2) 4)) [
      | inl t ↦ let lt : length k2 < 4 = ltb-true _ _ t in omega (arith, len, all)
      | inr t ↦
          let le : 4 ≤ length k2 = ltb-false _ _ t in
          let e : little_number 4 k2 ≡ n = number_on k2 l2 k1 l1 same h.0 le ∙ sym h.1 in
          omega (arith, len, all, e)
    ])

-- a cut record is shorter than its length says
pub within_size : (v : ℕ) (old k1 : List ℕ) (n : ℕ) → record_stop v old ≡ waits old → (length old ≤ 4 → length k1 ≤ 4)
    → (4 ≤ length old → k1 ≡ old) → (4 ≤ length k1) × (n ≡ little_number 4 k1) × (is_length n ≡ true)
    → length k1 ≤ 4 + n
within_size v old k1 n stop size full h = elim (waits_is v old old stop).1 [
  | inl short ↦ let le : length k1 ≤ 4 = size (omega arith) in omega (arith, le)
  | inr cut ↦
      let same : k1 ≡ old = full cut.long in
      let e : little_number 4 old ≡ n = sym (h.1 ∙ ap (little_number 4) same) in
      let lt : length (drop 4 old) < n = subst (λ (m : ℕ). length (drop 4 old) < m) e cut.cut in
      let l : length k1 ≡ length old = ap length same in
      omega (arith, length-drop 4 old, lt, l)
]

pub taken_on : (v : ℕ) (x y : List Edit) (total k2 l2 r : List ℕ) → k2 ++ l2 ≡ total → r ≡ [] → Gains v x y k2 r → Gains v x y total l2
taken_on v x y total k2 l2 r whole nothing g =
    let P : List ℕ → Type 0 = λ t. Gains v x y t l2 in
    let Q : List ℕ → Type 0 = λ t. Gains v x y (k2 ++ l2) (t ++ l2) in
    subst P whole (subst Q nothing (gain_longer v x y k2 r l2 g))
