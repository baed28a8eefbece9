-- Which refusals come of a playtest that was begun.
use Rattle.zed_files.specs.declared.refusal.Refusal.{Refusal}
use Rattle.zed_files.specs.declared.refusal.Refusal.TheVariants.{File}
use Rattle.zed_play.specs.declared.key.Key.{Key}
use Rattle.zed_session.specs.declared.error.SessionError.{SessionError}
use Rattle.zed_session.specs.declared.error.SessionError.TheVariants as session
use Rattle.zed_session.specs.declared.playing.Playing.{Playing}
use Rattle.std.proofs.Common.{◌≡◌, ◌∙◌, ℕ, true, List, [], ◌∷◌, ◌++◌, Option, Result, Ok, Err, ap, refl, subst, sym, inl, inr}
use Rattle.std.specs.Prelude.{◌⊎◌, IfErr, IsErrAnd}
use Rattle.zed_host.specs.Calls.{Ask, Call, Leads, Printing, call, failed_at}
use Rattle.zed_session.specs.Play.{PlaysKey, goes_on}
use Rattle.zed_files.specs.Asked.{Asks, BrokenOff, refusal_in}
use Rattle.zed_files.specs.Refusals.{session_refusal}
use Rattle.cmd_show.specs.Shown.{IsOfPlay, is_of_playing}

-- no playtest was begun
pub unbegun : {X : Type 0} (answer : Result X Refusal) (kept : Type 0) → kept → IfErr answer (λ e. (is_of_playing e ≡ true) ⊎ kept)
unbegun (Ok x) kept is = tt
unbegun (Err e) kept is = inr is

-- what `?` hands on of one
pub of_playing : {X : Type 0} (answer : Result X Refusal) (e : Refusal) (kept : Type 0) → IsErrAnd answer (λ x. x ≡ e)
    → is_of_playing e ≡ true
    → IfErr answer (λ e. (is_of_playing e ≡ true) ⊎ kept)
of_playing (Ok x) e kept told is = absurd told
of_playing (Err x) e kept told is = inl (ap is_of_playing told ∙ is)

-- a key that is refused is one of a playtest that goes on
pub key_of_playing : (why : SessionError) (words : List ℕ) (old new : Playing) (keys left : Option (List Key)) → goes_on old.playtest ≡ true
    → PlaysKey (Err why) words old keys new left → is_of_playing (session_refusal why) ≡ true
key_of_playing session.Over words old new keys left on plays = absurd (let off = plays.0 in cc)
key_of_playing session.KeyFault words old new keys left on plays = refl
key_of_playing session.NoWords words old new keys left on plays = refl
key_of_playing session.Memory words old new keys left on plays = refl
key_of_playing session.ScreenFault words old new keys left on plays = refl
key_of_playing _ words old new keys left on plays = absurd plays

-- what `?` hands on before anything is printed
pub untold : {H X : Type 0} (called : H → Call → H → Type 0) (host : H) (answer : Result X Refusal) (e : Refusal) (kept : Type 0)
    → IsErrAnd answer (λ x. x ≡ e)
    → (is_of_playing e ≡ true) ⊎ kept → IfErr answer (λ e. IsOfPlay called e host ⊎ kept)
untold called host (Ok x) e kept told why = absurd told
untold called host (Err x) e kept told why = elim why [ inl played ↦ inl (inl (ap is_of_playing told ∙ played)) | inr stays ↦ inr stays ]

no_more : (front : List Ask) (ask : Ask) (rest : List Ask) → [] ≡ front ++ ask ∷ rest → ⊥
no_more [] ask rest is = let no : [] ≡ ask ∷ rest = is in cc
no_more (x ∷ front) ask rest is = let no : [] ≡ x ∷ (front ++ ask ∷ rest) = is in cc

-- the call that failed was to print, where that was all that was asked for
print_lost : {H : Type 0} (called : H → Call → H → Type 0) (calls : List Call) (old new : H) → Leads called calls old new
    → BrokenOff (Printing ∷ []) calls
    → (before : H) × called before (call Printing true) new
print_lost {H = H} called calls old new leads (front, ask, rest, asks, is) =
    go front asks (subst (λ calls. Leads called calls old new) is leads)
  where
    go : (front : List Ask) → Printing ∷ [] ≡ front ++ ask ∷ rest → Leads called (failed_at front ask) old new
        → (before : H) × called before (call Printing true) new
    go [] same (mid, first, last) =
        let printing : ask ≡ Printing = (let s : Printing ∷ [] ≡ ask ∷ rest = same in cc) in
        (old, subst (λ a. called old (call a true) new) printing (subst (λ m. called old (call ask true) m) (sym last) first))
    go (x ∷ front) same leads =
        let none : [] ≡ front ++ ask ∷ rest = (let s : Printing ∷ [] ≡ x ∷ (front ++ ask ∷ rest) = same in cc) in
        absurd (no_more front ask rest none)

-- what is told of a playtest couldn't be printed
pub unprinted : {H X : Type 0} (called : H → Call → H → Type 0) (old new : H) (answer : Result X Refusal) (kept : Type 0)
    → IfErr answer (λ e. e ≡ File)
    → Asks called [] (Printing ∷ []) (refusal_in answer) old new → IfErr answer (λ e. IsOfPlay called e new ⊎ kept)
unprinted called old new (Ok x) kept file asks = tt
unprinted called old new (Err e) kept file (calls, leads, how) = elim how [
  | inl begun ↦ absurd (begun.0 file)
  | inr broken ↦ elim broken [
    | inl read ↦ absurd (let lost = read.1 in no_more lost.0 lost.1 lost.2 lost.3)
    | inr ending ↦ inl (inr (file, print_lost called calls old new leads (subst (λ c. BrokenOff (Printing ∷ []) c) (sym ending.1.2) ending.1.1)))
  ]
]
