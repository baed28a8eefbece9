-- What a command asked of its host.
use Rattle.zed_files.specs.declared.refusal.Refusal.{Refusal}
use Rattle.zed_files.specs.declared.refusal.Refusal.TheVariants.{File, Memory}
use Rattle.std.proofs.Common.{◌≡◌, ◌∙◌, ◌+◌, ◌<◌, ℕ, true, false, List, [], ◌∷◌, ◌++◌, Option, Some, None, Result, Ok, Err, MatchResult, ap, append_assoc, append-nil, add-one, codes, cond, drop, drop-cons, get_or, length, refl, subst, sym, inl, inr}
use Rattle.std.specs.Borrow.{Bor}
use Rattle.std.specs.Global.{Vec}
use Rattle.std.specs.Prelude.{◌⊎◌}
use Rattle.std.specs.Str.{bytes_eq}
use Rattle.zed_host.specs.Calls.{Ask, Call, Printing, Reading, Writing, Leads, call, failed_at, passed}
use Rattle.zed_host.proofs.Calls.{leads_then, passed_then}
use Rattle.zed_files.specs.Asked.{Asks, BrokenOff, reading, refusal_in, writing}
use Rattle.zed_files.specs.Refusals.{is_file_refusal}
use Rattle.zed_files.specs.Texts.{texts_of}
use Rattle.zed_files.proofs.Failures.{is_other, memory_is_other}

none_before : (front rest : List Ask) → [] ≡ front ++ rest → front ≡ []
none_before [] rest is = refl
none_before (ask ∷ front) rest is = absurd (let no : [] ≡ ask ∷ (front ++ rest) = is in cc)

none_broken : (calls : List Call) → BrokenOff [] calls → ⊥
none_broken calls broken = go broken.0 broken.1 broken.2 broken.3
  where
    go : (front : List Ask) (ask : Ask) (rest : List Ask) → [] ≡ front ++ ask ∷ rest → ⊥
    go [] ask rest is = let no : [] ≡ ask ∷ rest = is in cc
    go (first ∷ front) ask rest is = let no : [] ≡ first ∷ (front ++ ask ∷ rest) = is in cc

-- nothing was asked for
pub asks_nothing : {H : Type 0} (called : H → Call → H → Type 0) (reads last : List Ask) (e : Refusal) (host : H) → (e ≡ File → ⊥)
    → Asks called reads last (Some e) host host
asks_nothing called reads last e host other = ([], refl, inl (other, ([], reads, refl, refl)))

-- a command that was refused after its reads, for what isn't theirs
pub refused_after : {H : Type 0} (called : H → Call → H → Type 0) (reads last : List Ask) (e : Refusal) (old new : H) → (e ≡ File → ⊥)
    → Asks called reads [] None old new → Asks called reads last (Some e) old new
refused_after called reads last e old new other asks =
    (asks.0, asks.1, inl (other, (reads, [], sym (append-nil reads), asks.2 ∙ ap passed (append-nil reads))))

-- or at them
pub refused_at : {H : Type 0} (called : H → Call → H → Type 0) (reads last : List Ask) (e : Refusal) (old new : H)
    → Asks called reads [] (Some e) old new → Asks called reads last (Some e) old new
refused_at called reads last e old new asks = (
  asks.0,
  asks.1,
  elim asks.2 [
    | inl begun ↦ inl begun
    | inr broken ↦ elim broken [
      | inl read ↦ inr (inl read)
      | inr ending ↦ absurd (none_broken ending.1.0 ending.1.1)
    ]
  ],
)

-- another refusal in place of one, or of none
pub refused_instead : {H : Type 0} (called : H → Call → H → Type 0) (reads : List Ask) (told : Option Refusal) (e : Refusal) (old new : H)
    → (e ≡ File → ⊥) → (e ≡ Memory → ⊥)
    → Asks called reads [] told old new → Asks called reads [] (Some e) old new
refused_instead called reads None e old new other ample asks = refused_after called reads [] e old new other asks
refused_instead called reads (Some f) e old new other ample asks = (
  asks.0,
  asks.1,
  elim asks.2 [
    | inl begun ↦ inl (other, begun.1)
    | inr broken ↦ elim broken [
      | inl read ↦ inr (inl (ample, read.1))
      | inr ending ↦ absurd (none_broken ending.1.0 ending.1.1)
    ]
  ],
)

-- what is done after all reads
pub then_last : {H : Type 0} (called : H → Call → H → Type 0) (reads last : List Ask) (told : Option Refusal) (old mid new : H)
    → Asks called reads [] None old mid → Asks called [] last told mid new → Asks called reads last told old new
then_last called reads last None old mid new first second = (
  first.0 ++ second.0,
  leads_then called first.0 second.0 old mid new first.1 second.1,
  let before : first.0 ≡ passed reads = first.2 ∙ ap passed (append-nil reads) in
      let behind : second.0 ≡ passed last = second.2 in
      ap (λ calls. calls ++ second.0) before ∙ ap (λ calls. passed reads ++ calls) behind ∙ sym (passed_then reads last),
)
then_last called reads last (Some e) old mid new first second =
    let before : first.0 ≡ passed reads = first.2 ∙ ap passed (append-nil reads) in (
      first.0 ++ second.0,
      leads_then called first.0 second.0 old mid new first.1 second.1,
      elim second.2 [
        | inl begun ↦ (
            let none : begun.1.0 ≡ [] = none_before begun.1.0 begun.1.1 begun.1.2 in
            let behind : second.0 ≡ [] = begun.1.3 ∙ ap passed none in
            let all : first.0 ++ second.0 ≡ passed reads = ap (λ calls. first.0 ++ calls) behind ∙ append-nil first.0 ∙ before in
            inl (begun.0, (reads, [], sym (append-nil reads), all)))
        | inr broken ↦ elim broken [
          | inl read ↦ absurd (none_broken second.0 read.1)
          | inr ending ↦ inr (inr (ending.0, (ending.1.0, ending.1.1, ap (λ calls. calls ++ second.0) before ∙ ap (λ calls. passed reads ++ calls) ending.1.2)))
        ]
      ],
    )

-- a read before others
pub read_before : {H : Type 0} (called : H → Call → H → Type 0) (ask : Ask) (reads : List Ask) (told : Option Refusal) (old mid new : H)
    → called old (call ask false) mid → Asks called reads [] told mid new → Asks called (ask ∷ reads) [] told old new
read_before called ask reads None old mid new first later =
    (call ask false ∷ later.0, (mid, first, later.1), ap (λ calls. call ask false ∷ calls) later.2)
read_before called ask reads (Some e) old mid new first later = (
  call ask false ∷ later.0,
  (mid, first, later.1),
  elim later.2 [
    | inl begun ↦ inl (begun.0, (ask ∷ begun.1.0, begun.1.1, ap (λ asks. ask ∷ asks) begun.1.2, ap (λ calls. call ask false ∷ calls) begun.1.3))
    | inr broken ↦ elim broken [
      | inl read ↦ (
          let lost = read.1 in
          inr (inl (read.0, (ask ∷ lost.0, lost.1, lost.2, ap (λ asks. ask ∷ asks) lost.3, ap (λ calls. call ask false ∷ calls) lost.4))))
      | inr ending ↦ absurd (none_broken ending.1.0 ending.1.1)
    ]
  ],
)

file_lacks_nothing : File ≡ Memory → ⊥
file_lacks_nothing is = cc

-- the first of some reads, if it was refused
pub read_refused : {H : Type 0} (called : H → Call → H → Type 0) (name : List ℕ) (reads : List Ask) (e : Refusal) (old new : H)
    → called old (call (Reading name) (is_file_refusal {X = Vec ℕ} (Err e))) new → (e ≡ Memory) ⊎ (e ≡ File)
    → Asks called (Reading name ∷ reads) [] (Some e) old new
read_refused called name reads e old new is why =
    elim why [
      | inl memory ↦ subst (λ e. called old (call (Reading name) (is_file_refusal {X = Vec ℕ} (Err e))) new → Asks called (Reading name ∷ reads) [] (Some e) old new) (sym memory)
          (λ is. (call (Reading name) false ∷ [], (new, is, refl), inl (memory_is_other Memory refl, (Reading name ∷ [], reads, refl, refl)))) is
      | inr file ↦ subst (λ e. called old (call (Reading name) (is_file_refusal {X = Vec ℕ} (Err e))) new → Asks called (Reading name ∷ reads) [] (Some e) old new) (sym file)
          (λ is. (call (Reading name) true ∷ [], (new, is, refl), inr (inl (file_lacks_nothing, ([], Reading name, reads, refl, refl))))) is
    ]

-- the others aren't needed
pub read_then_stopped : {H : Type 0} (called : H → Call → H → Type 0) (name : List ℕ) (reads : List Ask) (e : Refusal) (old new : H)
    → (e ≡ File → ⊥)
    → called old (call (Reading name) false) new → Asks called (Reading name ∷ reads) [] (Some e) old new
read_then_stopped called name reads e old new other is =
    (call (Reading name) false ∷ [], (new, is, refl), inl (other, (Reading name ∷ [], reads, refl, refl)))

-- an answer after all reads
pub answer_after : {X H : Type 0} (P : X → Type 0) (Q : Refusal → Type 0) (called : H → Call → H → Type 0) (reads : List Ask) (answer : Result X Refusal) (old new : H)
    → Asks called reads [] None old new → MatchResult answer P (λ e. (e ≡ Memory) ⊎ Q e) → ((e : Refusal) → Q e → e ≡ File → ⊥)
    → Asks called reads [] (refusal_in answer) old new
answer_after P Q called reads (Ok x) old new asks match other = asks
answer_after P Q called reads (Err e) old new asks match other =
    refused_after called reads [] e old new (is_other (Q e) e match (other e)) asks

-- what was read of some files, and that the others come next
abbrev pub ReadSoFar : {H : Type 0} → (H → Call → H → Type 0) → List (Bor (List ℕ)) → ℕ → H → H → Type 0
ReadSoFar called names i old new =
    (done : List Ask) × (reading (texts_of names) ≡ done ++ reading (texts_of (drop i names))) × Leads called (passed done) old new

pub read_next : {H : Type 0} (called : H → Call → H → Type 0) (names : List (Bor (List ℕ))) (i : ℕ) (d : Bor (List ℕ)) (old mid new : H)
    → i < length names
    → ReadSoFar called names i old mid → called mid (call (Reading (get_or names i d).now) false) new
    → ReadSoFar called names (i + 1) old new
read_next called names i d old mid new lt so is =
    let ask = Reading (get_or names i d).now in
    let left : reading (texts_of (drop i names)) ≡ ask ∷ reading (texts_of (drop (i + 1) names)) =
    rw add-one (ap (λ ns. reading (texts_of ns)) (drop-cons names i d lt)) in (
      so.0 ++ ask ∷ [],
      so.1 ∙ ap (λ asks. so.0 ++ asks) left ∙ sym (append_assoc so.0 (ask ∷ []) (reading (texts_of (drop (i + 1) names)))),
      subst (λ calls. Leads called calls old new) (sym (passed_then so.0 (ask ∷ []))) (leads_then called (passed so.0) (call ask false ∷ []) old mid new so.2 (new, is, refl)),
    )

-- the next one couldn't be read
read_lost : {H : Type 0} (called : H → Call → H → Type 0) (names : List (Bor (List ℕ))) (i : ℕ) (d : Bor (List ℕ)) (old mid new : H) (e : Refusal)
    → i < length names → (e ≡ Memory → ⊥)
    → ReadSoFar called names i old mid → called mid (call (Reading (get_or names i d).now) true) new
    → Asks called (reading (texts_of names)) [] (Some e) old new
read_lost called names i d old mid new e lt ample so is =
    let ask = Reading (get_or names i d).now in
    let left : reading (texts_of (drop i names)) ≡ ask ∷ reading (texts_of (drop (i + 1) names)) =
    rw add-one (ap (λ ns. reading (texts_of ns)) (drop-cons names i d lt)) in (
      failed_at so.0 ask,
      leads_then called (passed so.0) (call ask true ∷ []) old mid new so.2 (new, is, refl),
      inr (inl (ample, (so.0, ask, reading (texts_of (drop (i + 1) names)), so.1 ∙ ap (λ asks. so.0 ++ asks) left, refl))),
    )

-- no more were read
pub read_enough : {H : Type 0} (called : H → Call → H → Type 0) (names : List (Bor (List ℕ))) (i : ℕ) (old new : H) (e : Refusal)
    → (e ≡ File → ⊥)
    → ReadSoFar called names i old new → Asks called (reading (texts_of names)) [] (Some e) old new
read_enough called names i old new e other so = (passed so.0, so.2, inl (other, (so.0, reading (texts_of (drop i names)), so.1, refl)))

pub next_lost : {H : Type 0} (called : H → Call → H → Type 0) (names : List (Bor (List ℕ))) (i : ℕ) (d : Bor (List ℕ)) (old mid new : H) (e told : Refusal)
    → i < length names → (told ≡ Memory → ⊥)
    → ReadSoFar called names i old mid → called mid (call (Reading (get_or names i d).now) (is_file_refusal {X = Vec ℕ} (Err e))) new
    → e ≡ File
    → Asks called (reading (texts_of names)) [] (Some told) old new
next_lost called names i d old mid new e told lt ample so is file =
    let P : Refusal → Type 0 = λ e. called mid (call (Reading (get_or names i d).now) (is_file_refusal {X = Vec ℕ} (Err e))) new → Asks called (reading (texts_of names)) [] (Some told) old new in
    subst P (sym file) (λ is. read_lost called names i d old mid new told lt ample so is) is

-- or was refused, for want of memory
pub next_refused : {H : Type 0} (called : H → Call → H → Type 0) (names : List (Bor (List ℕ))) (i : ℕ) (d : Bor (List ℕ)) (old mid new : H) (e told : Refusal)
    → i < length names → (told ≡ File → ⊥)
    → ReadSoFar called names i old mid → called mid (call (Reading (get_or names i d).now) (is_file_refusal {X = Vec ℕ} (Err e))) new
    → (e ≡ Memory) ⊎ (e ≡ File) → (e ≡ File → ⊥)
    → Asks called (reading (texts_of names)) [] (Some told) old new
next_refused called names i d old mid new e told lt other so is why read =
    let P : Refusal → Type 0 = λ e. called mid (call (Reading (get_or names i d).now) (is_file_refusal {X = Vec ℕ} (Err e))) new → Asks called (reading (texts_of names)) [] (Some told) old new in
    elim why [
      | inl memory ↦ subst P (sym memory) (λ is. read_enough called names (i + 1) old new told other (read_next called names i d old mid new lt so is)) is
      | inr file ↦ absurd (read file)
    ]

-- the file wasn't written
pub write_failed : {H : Type 0} (called : H → Call → H → Type 0) (out : List ℕ) (e : Refusal) (old new : H) → e ≡ File
    → called old (call (Writing out) true) new
    → Asks called [] (writing out) (Some e) old new
write_failed called out e old new file is =
    (call (Writing out) true ∷ [], (new, is, refl), inr (inr (file, (call (Writing out) true ∷ [], ([], Writing out, cond (bytes_eq out (codes "stdout")) [] (Printing ∷ []), refl, refl), refl))))

with_line : (out : List ℕ) → bytes_eq out (codes "stdout") ≡ false → writing out ≡ Writing out ∷ Printing ∷ []
with_line out other = ap (λ b. Writing out ∷ cond b [] (Printing ∷ [])) other

-- nor the line printed
pub line_failed : {H : Type 0} (called : H → Call → H → Type 0) (out : List ℕ) (e : Refusal) (old mid new : H)
    → bytes_eq out (codes "stdout") ≡ false → e ≡ File
    → called old (call (Writing out) false) mid → called mid (call Printing true) new → Asks called [] (writing out) (Some e) old new
line_failed called out e old mid new other file first is = (
  call (Writing out) false ∷ call Printing true ∷ [],
  (mid, first, (new, is, refl)),
  inr (inr (file, (call (Writing out) false ∷ call Printing true ∷ [], (Writing out ∷ [], Printing, [], with_line out other, refl), refl))),
)

-- a text was printed, or not
pub print_failed : {H : Type 0} (called : H → Call → H → Type 0) (e : Refusal) (old new : H) → e ≡ File
    → called old (call Printing true) new
    → Asks called [] (Printing ∷ []) (Some e) old new
print_failed called e old new file is =
    (call Printing true ∷ [], (new, is, refl), inr (inr (file, (call Printing true ∷ [], ([], Printing, [], refl, refl), refl))))
