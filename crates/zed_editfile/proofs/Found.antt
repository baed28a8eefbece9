-- What a reader has found, from piece to piece.
use Rattle.std.proofs.Common.{◌≡◌, ℕ, Bool, true, false, not, cond, ltb, List, [], ◌++◌, length, drop, get_or, Option, Some, None, Result, Ok, Err, refl, sym, ap, subst, ◌∙◌, append_assoc, arith, ◌⊎◌, inl, inr}
use Rattle.std.specs.List.{flat_map}
use Rattle.std.proofs.lemmas.List.{append-nil}
use Rattle.byteorder.specs.Endian.{little_number}
use Rattle.zed_op.specs.declared.op.Edit.{Edit}
use Rattle.zed_editfile.specs.declared.error.EditFileError.{EditFileError}
use Rattle.zed_editfile.specs.declared.error.EditFileError.TheVariants.{Memory, Magic, NewVersion, OtherWorld, RecordLength}
use Rattle.zed_editfile.specs.Spelling.{record_text, head_text, text_of, AreOf}
use Rattle.zed_editfile.specs.Reading.{edit_at}
use Rattle.zed_editfile.specs.Stream.{Stop, waits, fails, has_letters, is_other, is_version, is_length, fault_of, body_at, head_stop, record_stop, Progress, stop_of, IsTextOf, Reads, Feeds, AreRecords, Collects, Enters, Advances, Gains, IsWaiting}
use Rattle.zed_editfile.proofs.Cuts.{waits_is, fault_stays, length_stays, behind_length, no_gain, flat_both, records_both, spelled_both, is_short}
use Rattle.zed_editfile.proofs.Heads.{head_stays, head_waits}

-- ---- the forms of a stop

abbrev Form : List ℕ → Option Stop → Type 0
Form bytes o = (o ≡ None) ⊎ ((o ≡ waits bytes) ⊎ ((f : EditFileError) × (o ≡ fails f)))

failing : (bytes : List ℕ) (f : EditFileError) → Form bytes (fails f)
failing bytes f = inr (inr (f, refl))

waiting : (bytes : List ℕ) → Form bytes (waits bytes)
waiting bytes = inr (inl refl)

either : (bytes : List ℕ) (b : Bool) (x y : Option Stop) → Form bytes x → Form bytes y → Form bytes (cond b x y)
either bytes true x y g h = g
either bytes false x y g h = h

of_fault : (bytes : List ℕ) (r : Result Edit EditFileError) → Form bytes (fault_of r)
of_fault bytes (Ok e) = inl refl
of_fault bytes (Err f) = failing bytes f

nowhere : (bytes : List ℕ) → Form bytes None
nowhere bytes = inl refl

head_form : (asked : Option ℕ) (h : List ℕ) → Form h (head_stop asked h)
unfolding head_stop
head_form asked h =
    either h (not (has_letters h)) _ _ (failing h Magic)
    (either h (ltb (length h) 4) _ _ (waiting h)
    (either h (not (is_version (get_or h 3 0))) _ _ (failing h NewVersion) (either h (ltb (length h) 12) _ _ (waiting h) (either h (is_other asked (little_number 8 (drop 4 h))) _ _ (failing h OtherWorld) (nowhere h)))))

record_form : (v : ℕ) (b : List ℕ) → Form b (record_stop v b)
unfolding record_stop
record_form v b =
    either b (ltb (length b) 4) _ _ (waiting b)
    (either b (not (is_length (little_number 4 b))) _ _ (failing b RecordLength) (either b (ltb (length (drop 4 b)) (little_number 4 b)) _ _ (waiting b) (of_fault b (edit_at v (body_at b)))))

abbrev pub some_stop : Stop → Option Stop
some_stop s = Some s

abbrev fault_in : Option Stop → Option EditFileError
fault_in None = None
fault_in (Some s) = s.fault

fault_is : (o : Option Stop) (bytes : List ℕ) (s : Stop) (e : EditFileError) → Form bytes o → o ≡ some_stop s → s.fault ≡ Some e
    → (f : EditFileError) × (o ≡ fails f)
fault_is o bytes s e form h g = elim form [
  | inl n ↦ let c : None ≡ some_stop s = sym n ∙ h in absurd cc
  | inr (inl w) ↦ let c : None ≡ s.fault = ap fault_in (sym w ∙ h) in let d : None ≡ Some e = c ∙ g in absurd cc
  | inr (inr f) ↦ f
]

-- ---- after a fault

head_ended : (asked : Option ℕ) (h x : List ℕ) (s : Stop) (e : EditFileError) → head_stop asked h ≡ some_stop s → s.fault ≡ Some e
    → head_stop asked (h ++ x) ≡ some_stop s
head_ended asked h x s e stop g = let f = fault_is (head_stop asked h) h s e (head_form asked h) stop g in head_stays asked h x f.0 f.1 ∙ sym f.1 ∙ stop

record_ended : (v : ℕ) (b x : List ℕ) (s : Stop) (e : EditFileError) → record_stop v b ≡ some_stop s → s.fault ≡ Some e
    → record_stop v (b ++ x) ≡ some_stop s
record_ended v b x s e stop g = let f = fault_is (record_stop v b) b s e (record_form v b) stop g in fault_stays v b x f.0 f.1 ∙ sym f.1 ∙ stop

pub stays : (bytes x : List ℕ) (found : List Edit) (p : Progress) (e : EditFileError) → p.fault ≡ Some e → Reads bytes found p
    → Reads (bytes ++ x) (found ++ []) p
stays bytes x found p e g r = elim r [
  | inl h ↦
      inl (record {
        world = h.world;
        version = h.version;
        none = append-nil found ∙ h.none;
        stop = head_ended p.asked bytes x (stop_of p) e h.stop g;
      })
  | inr h ↦
      inr (record {
        number = h.number;
        tail = h.tail ++ x;
        fits = h.fits;
        asked = h.asked;
        world = h.world;
        known = h.known;
        good = subst (λ (t : List Edit). AreRecords t) (sym (append-nil found)) h.good;
        spelled = subst (λ (t : List Edit). AreOf p.version t) (sym (append-nil found)) h.spelled;
        whole =
            ap (λ (t : List ℕ). t ++ x) h.whole ∙ append_assoc (text_of p.version h.number found) h.tail x
            ∙ ap (λ (t : List Edit). text_of p.version h.number t ++ (h.tail ++ x)) (sym (append-nil found));
        stop =
            elim h.stop [ inl m ↦ inl (m.0, length_stays h.tail x m.1) | inr s ↦ inr (record_ended p.version h.tail x (stop_of p) e s g) ];
      })
]

pub feeds_nothing : (x : List ℕ) (before : List Edit) (p : Progress) (e : EditFileError) → p.fault ≡ Some e → Feeds x before before p p
feeds_nothing x before p e g =
    record { edits = []; gained = sym (append-nil before); good = tt; reads = λ bytes found r. stays bytes x found p e g r }

-- an empty piece changes nothing
pub feeds_empty : (before : List Edit) (p : Progress) → Feeds [] before before p p
feeds_empty before p = record {
  edits = [];
  gained = sym (append-nil before);
  good = tt;
  reads = λ bytes found r.
      subst (λ (b : List ℕ). Reads b (found ++ []) p) (sym (append-nil bytes)) (subst (λ (f : List Edit). Reads bytes f p) (sym (append-nil found)) r);
}

-- ---- going on

abbrev pub at_rest : Option ℕ → Option ℕ → ℕ → List ℕ → Progress
at_rest asked world version rest = record { asked = asked; world = world; version = version; rest = rest; fault = None }

abbrev moved : Option ℕ → Option ℕ → ℕ → Stop → Progress
moved asked world version s = record { asked = asked; world = world; version = version; rest = s.rest; fault = s.fault }

-- a reader in the head has all the bytes
in_head : (asked : Option ℕ) (v : ℕ) (rest bytes : List ℕ) (found : List Edit) → Reads bytes found (at_rest asked None v rest)
    → (bytes ≡ rest) × (found ≡ []) × (v ≡ 0)
in_head asked v rest bytes found r = elim r [
  | inl h ↦ ((head_waits asked bytes rest h.stop).0, h.none, h.version)
  | inr h ↦ let c : None ≡ Some h.number = h.world in absurd cc
]

on_head : (asked : Option ℕ) (v : ℕ) (rest x : List ℕ) (before after : List Edit) (s : Stop) → after ≡ before
    → head_stop asked (rest ++ x) ≡ some_stop s
    → Feeds x before after (at_rest asked None v rest) (moved asked None v s)
on_head asked v rest x before after s same ends = record {
  edits = [];
  gained = same ∙ sym (append-nil before);
  good = tt;
  reads = λ bytes found r.
      let i = in_head asked v rest bytes found r in
      inl (record { world = refl; version = i.2; none = append-nil found ∙ i.1; stop = ap (λ (t : List ℕ). head_stop asked (t ++ x)) i.0 ∙ ends });
}

into_records : (asked : Option ℕ) (v w n : ℕ) (rest x : List ℕ) (before after : List Edit) (s : Stop)
    → Enters asked w n (rest ++ x) before after s
    → Feeds x before after (at_rest asked None v rest) (moved asked (Some n) w s)
into_records asked v w n rest x before after s e = record {
  edits = e.records.gains.edits;
  gained = e.records.gains.gained;
  good = e.records.gains.good;
  reads = λ bytes found r.
      let i = in_head asked v rest bytes found r in
      let new : List Edit = e.records.gains.edits in
      let tail : List ℕ = e.records.tail in
      let whole : rest ++ x ≡ text_of w n new ++ tail =
      e.head ∙ ap (λ (t : List ℕ). head_text w n ++ t) e.records.gains.whole
      ∙ sym (append_assoc (head_text w n) (flat_map record_text new) tail) in
      inr (record {
        number = n;
        tail = tail;
        fits = e.fits;
        asked = e.asked_for;
        world = refl;
        known = e.known;
        good = subst (λ (t : List Edit). AreRecords (t ++ new)) (sym i.1) e.records.gains.good;
        spelled = subst (λ (t : List Edit). AreOf w (t ++ new)) (sym i.1) e.records.gains.spelled;
        whole = ap (λ (t : List ℕ). t ++ x) i.0 ∙ whole ∙ ap (λ (t : List Edit). text_of w n (t ++ new) ++ tail) (sym i.1);
        stop = elim e.records.ends [ inl m ↦ inl (m.0, behind_length w [] e.left tail m.1) | inr e ↦ inr e ];
      });
}

on_records : (asked : Option ℕ) (v m n : ℕ) (rest x : List ℕ) (before after : List Edit) (s : Stop) → n ≡ m
    → Collects v rest (rest ++ x) before after s
    → Feeds x before after (at_rest asked (Some m) v rest) (moved asked (Some n) v s)
on_records asked v m n rest x before after s same c = record {
  edits = c.gains.edits;
  gained = c.gains.gained;
  good = c.gains.good;
  reads = λ bytes found r.
      elim r [
        | inl h ↦ let d : Some m ≡ None = h.world in absurd cc
        | inr h ↦
            let new : List Edit = c.gains.edits in
            let k : ℕ = h.number in
            let tail_is : h.tail ≡ rest = elim h.stop [ inl m ↦ let c : None ≡ Some Memory = m.0 in absurd cc | inr w ↦ (waits_is v h.tail rest w).0 ] in
            let behind : h.tail ++ x ≡ flat_map record_text new ++ c.tail = ap (λ (t : List ℕ). t ++ x) tail_is ∙ c.gains.whole in
            let named : Some m ≡ Some k = h.world in
            let km : m ≡ k = cc in
            let texts : text_of v k found ++ (flat_map record_text new ++ c.tail) ≡ text_of v k (found ++ new) ++ c.tail =
            sym (append_assoc (text_of v k found) (flat_map record_text new) c.tail)
            ∙ ap (λ (t : List ℕ). t ++ c.tail) (append_assoc (head_text v k) (flat_map record_text found) (flat_map record_text new) ∙ ap (λ (t : List ℕ). head_text v k ++ t) (sym (flat_both found new))) in
            inr (record {
              number = k;
              tail = c.tail;
              fits = h.fits;
              asked = h.asked;
              world = ap (λ (t : ℕ). Some t) (same ∙ km);
              known = h.known;
              good = records_both found new h.good c.gains.good;
              spelled = spelled_both v found new h.spelled c.gains.spelled;
              whole =
                  ap (λ (t : List ℕ). t ++ x) h.whole ∙ append_assoc (text_of v k found) h.tail x
                  ∙ ap (λ (t : List ℕ). text_of v k found ++ t) behind ∙ texts;
              stop = elim c.ends [ inl m ↦ inl (m.0, behind_length v rest (rest ++ x) c.tail m.1) | inr e ↦ inr e ];
            })
      ];
}

pub goes_on : (asked world next : Option ℕ) (v w : ℕ) (rest x : List ℕ) (before after : List Edit) (s : Stop)
    → Advances asked world next v w rest (rest ++ x) before after s
    → Feeds x before after (at_rest asked world v rest) (moved asked next w s)
goes_on asked None None v w rest x before after s a =
    let P : ℕ → Type 0 = λ k. Feeds x before after (at_rest asked None v rest) (moved asked None k s) in
    subst P (sym a.0) (on_head asked v rest x before after s a.1 a.2)
goes_on asked None (Some n) v w rest x before after s a = into_records asked v w n rest x before after s a
goes_on asked (Some m) None v w rest x before after s a = absurd a
goes_on asked (Some m) (Some n) v w rest x before after s a =
    let P : ℕ → Type 0 = λ k. Feeds x before after (at_rest asked (Some m) v rest) (moved asked (Some n) k s) in
    subst P (sym a.0) (on_records asked v m n rest x before after s a.1 a.2)

-- without bytes a reader that waits stays where it is
pub stands : (asked world : Option ℕ) (v : ℕ) (rest : List ℕ) (before : List Edit) → IsWaiting asked world v rest
    → Advances asked world world v v rest (rest ++ []) before before (record { rest = rest; fault = None })
stands asked None v rest before w = (refl, refl, ap (head_stop asked) (append-nil rest) ∙ w)
stands asked (Some n) v rest before w =
    (refl, refl, record { tail = rest; gains = subst (λ (t : List ℕ). Gains v before before t rest) (sym (append-nil rest)) (no_gain v before before rest refl); ends = inr w })

-- ---- the beginning and the end

pub begins : (asked : Option ℕ) → head_stop asked [] ≡ waits []
unfolding head_stop
begins asked = refl

pub reads_nothing : (asked : Option ℕ) → Reads [] [] (at_rest asked None 0 [])
reads_nothing asked = inl (record { world = refl; version = refl; none = refl; stop = begins asked })

pub no_record : (v : ℕ) → record_stop v [] ≡ waits []
no_record v = is_short v [] (omega arith)

pub ends_well : (asked : Option ℕ) (v n : ℕ) (bytes : List ℕ) (found : List Edit) → Reads bytes found (at_rest asked (Some n) v [])
    → (x : ℕ) × ((at_rest asked (Some n) v []).world ≡ Some x) × AreRecords found × IsTextOf x found bytes
ends_well asked v n bytes found r = elim r [
  | inl h ↦ let d : Some n ≡ None = h.world in absurd cc
  | inr h ↦
      let tail_is : h.tail ≡ [] = elim h.stop [ inl m ↦ let c : None ≡ Some Memory = m.0 in absurd cc | inr w ↦ (waits_is v h.tail [] w).0 ] in
      (h.number, h.world, h.good, record { version = v; known = h.known; spelled = h.spelled; text = h.whole ∙ ap (λ (t : List ℕ). text_of v h.number found ++ t) tail_is ∙ append-nil (text_of v h.number found) })
]

pub ends_whole : (asked world : Option ℕ) (v : ℕ) (rest : List ℕ) (fault : Option EditFileError) (bytes : List ℕ) (found : List Edit)
    → fault ≡ None → (world ≡ None → ⊥) → rest ≡ []
    → Reads bytes found (record { asked = asked; world = world; version = v; rest = rest; fault = fault })
    → (x : ℕ) × (world ≡ Some x) × AreRecords found × IsTextOf x found bytes
ends_whole asked None v rest fault bytes found f w r h = absurd (w refl)
ends_whole asked (Some n) v rest fault bytes found f w r h =
    let P : Option EditFileError → Type 0 =
    λ t. Reads bytes found (record { asked = asked; world = Some n; version = v; rest = rest; fault = t }) in
    let Q : List ℕ → Type 0 = λ t. Reads bytes found (at_rest asked (Some n) v t) in
    ends_well asked v n bytes found (subst Q r (subst P f h))
