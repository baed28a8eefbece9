-- What a playtest that is kept asked of its host.
use Rattle.zed_files.specs.declared.refusal.Refusal.{Refusal}
use Rattle.zed_files.specs.declared.refusal.Refusal.TheVariants.{File, Memory}
use Rattle.std.proofs.Common.{◌≡◌, ◌∙◌, ℕ, true, List, [], ◌∷◌, ◌++◌, Option, Some, None, Result, Ok, Err, IfErr, ap, append_assoc, map, refl, subst, sym, inl, inr}
use Rattle.std.specs.Prelude.{◌⊎◌}
use Rattle.std.proofs.lemmas.List.{map-append}
use Rattle.zed_host.specs.Calls.{Ask, Call, Writing, call, failed_at, passed}
use Rattle.zed_host.proofs.Calls.{leads_then, passed_then}
use Rattle.zed_files.specs.Asked.{Asks, BrokenOff, named, reading, refusal_in}
use Rattle.zed_files.proofs.Asked.{asks_nothing}
use Rattle.zed_files.proofs.Failures.{memory_is_other}
use Rattle.cmd_play.specs.Asking.{AsksBehind, AsksKept, AsksNoMore, AsksPlay, keeping}

-- ---- what comes behind what is kept

-- other calls in place of those that came last
pub behind_same : {H : Type 0} (called : H → Call → H → Type 0) (words keys : Option (List ℕ)) (Later Next : Option Refusal → H → H → Type 0) (told : Option Refusal) (old new : H)
    → AsksBehind called words keys Later told old new → ((mid : H) → Later told mid new → Next told mid new)
    → AsksBehind called words keys Next told old new
behind_same called words keys Later Next told old new asks next = elim asks [
  | inl lost ↦ inl lost
  | inr first ↦ (
      let second = first.2 in
      inr (
        first.0,
        first.1,
        elim second [
          | inl lost ↦ inl lost
          | inr both ↦ inr (both.0, both.1, next both.0 both.2)
        ],
      ))
]

-- and more behind them, where they passed
pub behind_more : {H : Type 0} (called : H → Call → H → Type 0) (words keys : Option (List ℕ)) (Later Next : Option Refusal → H → H → Type 0) (told : Option Refusal) (old mid new : H)
    → AsksBehind called words keys Later None old mid → ((last : H) → Later None last mid → Next told last new)
    → AsksBehind called words keys Next told old new
behind_more called words keys Later Next told old mid new asks next = elim asks [
  | inl lost ↦ absurd (let no : None ≡ Some lost.0 = lost.1 in cc)
  | inr first ↦ (
      let second = first.2 in
      inr (
        first.0,
        first.1,
        elim second [
          | inl lost ↦ absurd (let no : None ≡ Some lost.0 = lost.1 in cc)
          | inr both ↦ inr (both.0, both.1, next both.0 both.2)
        ],
      ))
]

-- the first couldn't be had
pub first_lost : {H : Type 0} (called : H → Call → H → Type 0) (words keys : Option (List ℕ)) (Later : Option Refusal → H → H → Type 0) (e : Refusal) (old new : H)
    → AsksKept called words (Some e) old new → AsksBehind called words keys Later (Some e) old new
first_lost called words keys Later e old new lost = inl (e, refl, lost)

-- or the second
pub second_lost : {H : Type 0} (called : H → Call → H → Type 0) (words keys : Option (List ℕ)) (Later : Option Refusal → H → H → Type 0) (e : Refusal) (old mid new : H)
    → AsksKept called words None old mid → AsksKept called keys (Some e) mid new → AsksBehind called words keys Later (Some e) old new
second_lost called words keys Later e old mid new first lost = inr (mid, first, inl (e, refl, lost))

-- both were had
pub both_had : {H : Type 0} (called : H → Call → H → Type 0) (words keys : Option (List ℕ)) (told : Option Refusal) (old mid new : H)
    → AsksKept called words None old mid → AsksKept called keys None mid new → (told ≡ None) ⊎ (told ≡ Some Memory)
    → AsksBehind called words keys AsksNoMore told old new
both_had called words keys told old mid new first second why = inr (mid, first, inr (new, second, (refl, why)))

-- ---- calls one after the other

no_calls : (calls : List Call) → BrokenOff [] calls → ⊥
no_calls calls broken = go broken.0 broken.1 broken.2 broken.3
  where
    go : (front : List Ask) (ask : Ask) (rest : List Ask) → [] ≡ front ++ ask ∷ rest → ⊥
    go [] ask rest is = let no : [] ≡ ask ∷ rest = is in cc
    go (first ∷ front) ask rest is = let no : [] ≡ first ∷ (front ++ ask ∷ rest) = is in cc

-- last calls that failed are among those with others behind them
broken_on : (last more : List Ask) (calls : List Call) → BrokenOff last calls → BrokenOff (last ++ more) calls
broken_on last more calls broken =
    (broken.0, broken.1, broken.2 ++ more, ap (λ asks. asks ++ more) broken.3 ∙ append_assoc broken.0 (broken.1 ∷ broken.2) more, broken.4)

-- and with others in front of them
broken_after : (last more : List Ask) (calls : List Call) → BrokenOff more calls → BrokenOff (last ++ more) (passed last ++ calls)
broken_after last more calls broken =
    let whole : last ++ more ≡ (last ++ broken.0) ++ broken.1 ∷ broken.2 =
    ap (λ asks. last ++ asks) broken.3 ∙ sym (append_assoc last broken.0 (broken.1 ∷ broken.2)) in
    let made : passed last ++ calls ≡ failed_at (last ++ broken.0) broken.1 =
    ap (λ c. passed last ++ c) broken.4 ∙ sym (append_assoc (passed last) (passed broken.0) (call broken.1 true ∷ []))
    ∙ ap (λ c. c ++ call broken.1 true ∷ []) (sym (passed_then last broken.0)) in
    (last ++ broken.0, broken.1, broken.2, whole, made)

-- a refusal among other last calls
pub refused_on : {H : Type 0} (called : H → Call → H → Type 0) (reads last more : List Ask) (e : Refusal) (old new : H)
    → Asks called reads last (Some e) old new → Asks called reads (last ++ more) (Some e) old new
refused_on called reads last more e old new asks = (
  asks.0,
  asks.1,
  elim asks.2 [
    | inl begun ↦ inl begun
    | inr broken ↦ elim broken [
      | inl read ↦ inr (inl read)
      | inr ending ↦ inr (inr (ending.0, (ending.1.0, broken_on last more ending.1.0 ending.1.1, ending.1.2)))
    ]
  ],
)

-- last calls that all passed, and then more
pub last_then : {H : Type 0} (called : H → Call → H → Type 0) (reads last more : List Ask) (told : Option Refusal) (old mid new : H)
    → ((e : Refusal) → told ≡ Some e → e ≡ File)
    → Asks called reads last None old mid → Asks called [] more told mid new → Asks called reads (last ++ more) told old new
last_then called reads last more None old mid new file first second =
    let all : first.0 ++ second.0 ≡ passed (reads ++ (last ++ more)) =
    ap (λ c. c ++ second.0) first.2 ∙ ap (λ c. passed (reads ++ last) ++ c) second.2 ∙ sym (passed_then (reads ++ last) more)
    ∙ ap passed (append_assoc reads last more) in
    (first.0 ++ second.0, leads_then called first.0 second.0 old mid new first.1 second.1, all)
last_then called reads last more (Some e) old mid new file first second = (
  first.0 ++ second.0,
  leads_then called first.0 second.0 old mid new first.1 second.1,
  elim second.2 [
    | inl begun ↦ absurd (begun.0 (file e refl))
    | inr broken ↦ elim broken [
      | inl read ↦ absurd (no_calls second.0 read.1)
      | inr ending ↦ (
          let made : first.0 ++ second.0 ≡ passed reads ++ (passed last ++ ending.1.0) =
          ap (λ c. c ++ second.0) (first.2 ∙ passed_then reads last) ∙ ap (λ c. (passed reads ++ passed last) ++ c) ending.1.2
          ∙ append_assoc (passed reads) (passed last) ending.1.0 in
          inr (inr (ending.0, (passed last ++ ending.1.0, broken_after last more ending.1.0 ending.1.1, made))))
    ]
  ],
)

-- nothing was asked for where memory ran out
pub memory_asks : {H : Type 0} (called : H → Call → H → Type 0) (reads last : List Ask) (host : H)
    → Asks called reads last (Some Memory) host host
memory_asks called reads last host = asks_nothing called reads last Memory host (memory_is_other Memory refl)

-- ---- files that are written

pub one_unwritten : {H : Type 0} (called : H → Call → H → Type 0) (name : List ℕ) (e : Refusal) (old new : H) → e ≡ File
    → called old (call (Writing name) true) new
    → Asks called [] (Writing name ∷ []) (Some e) old new
one_unwritten called name e old new file is =
    (call (Writing name) true ∷ [], (new, is, refl), inr (inr (file, (call (Writing name) true ∷ [], ([], Writing name, [], refl, refl), refl))))

-- the names of two files, one behind the other
pub keeping_both : (words keys : Option (List ℕ))
    → map (λ name. Writing name) (named words) ++ map (λ name. Writing name) (named keys) ≡ keeping words keys
keeping_both words keys = sym (map-append (λ name. Writing name) (named words) (named keys))

-- ---- a playtest

-- what comes behind what is kept
pub play_on : {H : Type 0} (called : H → Call → H → Type 0) (words keys : Option (List ℕ)) (files : List (List ℕ)) (last : List Ask) (told : Option Refusal) (old mid new : H)
    → AsksBehind called words keys AsksNoMore None old mid → Asks called (reading files) last told mid new
    → AsksPlay called words keys files last told old new
play_on called words keys files last told old mid new first second =
    behind_more called words keys AsksNoMore (Asks called (reading files) last) told old mid new first
    (λ before rests. subst (λ h. Asks called (reading files) last told h new) rests.0 second)

-- or what is kept can't be had
pub play_lost : {H : Type 0} (called : H → Call → H → Type 0) (words keys : Option (List ℕ)) (files : List (List ℕ)) (last : List Ask) (e : Refusal) (old new : H)
    → AsksBehind called words keys AsksNoMore (Some e) old new → AsksPlay called words keys files last (Some e) old new
play_lost called words keys files last e old new asks =
    behind_same called words keys AsksNoMore (Asks called (reading files) last) (Some e) old new asks (λ mid rests. no_more mid rests.0 rests.1)
  where
    no_more : (mid : _) → new ≡ mid → (Some e ≡ None) ⊎ (Some e ≡ Some Memory) → Asks called (reading files) last (Some e) mid new
    no_more mid same why = elim why [
      | inl none ↦ absurd (let no : Some e ≡ None = none in cc)
      | inr memory ↦ (
          let lacks : e ≡ Memory = cc in
          subst (λ h. Asks called (reading files) last (Some e) mid h) (sym same) (asks_nothing called (reading files) last e mid (memory_is_other e lacks)))
    ]

-- what is told of it is printed, or not
pub told_asks : {H : Type 0} (called : H → Call → H → Type 0) (words keys : Option (List ℕ)) (files : List (List ℕ)) (last more : List Ask) (told : Option Refusal) (old mid new : H)
    → ((e : Refusal) → told ≡ Some e → e ≡ File) → AsksPlay called words keys files last None old mid → Asks called [] more told mid new
    → AsksPlay called words keys files (last ++ more) told old new
told_asks called words keys files last more told old mid new file first second =
    behind_more called words keys (Asks called (reading files) last) (Asks called (reading files) (last ++ more)) told old mid new first
    (λ before asks. last_then called (reading files) last more told before mid new file asks second)

pub untold_asks : {H : Type 0} (called : H → Call → H → Type 0) (words keys : Option (List ℕ)) (files : List (List ℕ)) (last more : List Ask) (e : Refusal) (old new : H)
    → AsksPlay called words keys files last (Some e) old new → AsksPlay called words keys files (last ++ more) (Some e) old new
untold_asks called words keys files last more e old new asks =
    behind_same called words keys (Asks called (reading files) last) (Asks called (reading files) (last ++ more)) (Some e) old new asks
    (λ mid later. refused_on called (reading files) last more e mid new later)

-- what a print refuses
pub print_refuses : {X : Type 0} (answer : Result X Refusal) → IfErr answer (λ e. e ≡ File) → (e : Refusal) → refusal_in answer ≡ Some e
    → e ≡ File
print_refuses (Ok x) file e is = absurd (let no : None ≡ Some e = is in cc)
print_refuses (Err f) file e is = (let same : f ≡ e = cc in sym same ∙ file)

-- what a write refuses, with more that is told of it
pub write_refuses : {X : Type 0} (Q : Refusal → Type 0) (answer : Result X Refusal) → IfErr answer (λ e. (e ≡ File) × Q e) → (e : Refusal)
    → refusal_in answer ≡ Some e
    → e ≡ File
write_refuses Q (Ok x) file e is = absurd (let no : None ≡ Some e = is in cc)
write_refuses Q (Err f) file e is = (let same : f ≡ e = cc in sym same ∙ file.0)
