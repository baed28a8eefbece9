-- What an effect leaves that was carried out, or at which the host failed.
use Rattle.std.proofs.Common.{◌≡◌, ◌∙◌, ◌≤◌, ℕ, Bool, true, false, List, [], ◌∷◌, ◌++◌, Option, Some, None, ap, append-nil, append_assoc, arith, map, refl, subst, sym, inl, inr}
use Rattle.std.specs.Prelude.{IfSome, option_map}
use Rattle.zed_host.specs.Calls.{Ask, Call, Complaining, Leads, Printing, Writing, call, failed_at, passed}
use Rattle.zed_host.specs.Counting.{Counts, Rose}
use Rattle.zed_host.specs.HostContents.{HalfComplained, HalfPrinted, HalfWritten, HostContents, StillTells, with_complaint, with_file}
use Rattle.zed_host.proofs.Calls.{leads_one, leads_then, passed_then}
use Rattle.zed_host.proofs.Counts.{counted_up}
use Rattle.zed_driver.specs.Effects.{Effect, HalfDone, HalfOf, HalfText, NotedIn, Output, after, asks_of, noting, printing, with_files, with_note, with_text}
use Rattle.zed_driver.specs.Hosts.{Hosts}
use Rattle.zed_driver.specs.Writes.{Broke, BrokeAmong, BrokeOff, BrokeText, CarriedOut, Noted, Passed, PrintedText, WroteAll}

twice : (f g : HostContents → HostContents) (o : Option HostContents) → option_map g (option_map f o) ≡ option_map (λ t. g (f t)) o
twice f g None = refl
twice f g (Some t) = refl

unchanged : (o : Option HostContents) → o ≡ option_map (λ t. t) o
unchanged None = refl
unchanged (Some t) = refl

-- ---- calls that passed

record Did {H : Type 0} (h : Hosts H) (change : HostContents → HostContents) (asks : List Ask) (old new : H) : Type 0 where
  pub left : h.contents new ≡ option_map change (h.contents old)
  pub asked : Leads h.called (passed asks) old new
  pub failed : h.failed new ≡ h.failed old
  pub faults : h.faults new ≡ h.faults old

did_nothing : {H : Type 0} (h : Hosts H) (old : H) → Did h (λ t. t) [] old old
did_nothing h old = record { left = unchanged (h.contents old); asked = refl; failed = refl; faults = refl }

did_one : {H : Type 0} (h : Hosts H) (ask : Ask) (change : HostContents → HostContents) (old new : H) → Passed h ask change old new
    → Did h change (ask ∷ []) old new
did_one h ask change old new one =
    record { left = one.left; asked = leads_one h.called (call ask false) old new one.asked; failed = one.failed; faults = one.faults }

did_both : {H : Type 0} (h : Hosts H) (f g : HostContents → HostContents) (xs ys : List Ask) (old mid new : H) → Did h f xs old mid → Did h g ys mid new
    → Did h (λ t. g (f t)) (xs ++ ys) old new
did_both h f g xs ys old mid new first second = record {
  left = second.left ∙ ap (option_map g) first.left ∙ twice f g (h.contents old);
  asked = subst (λ calls. Leads h.called calls old new) (sym (passed_then xs ys)) (leads_then h.called (passed xs) (passed ys) old mid new first.asked second.asked);
  failed = second.failed ∙ first.failed;
  faults = second.faults ∙ first.faults;
}

all_written : {H : Type 0} (h : Hosts H) (fs : List Output) (old new : H) → WroteAll h fs old new
    → Did h (with_files fs) (map (λ f. Writing f.name) fs) old new
all_written h [] old new is = subst (λ at. Did h (λ t. t) [] old at) (sym is) (did_nothing h old)
all_written h (f ∷ fs) old new is =
    did_both h (with_file f.name f.bytes) (with_files fs) (Writing f.name ∷ []) (map (λ f. Writing f.name) fs) old is.0 new
    (did_one h (Writing f.name) (with_file f.name f.bytes) old is.0 is.1) (all_written h fs is.0 new is.2)

text_printed : {H : Type 0} (h : Hosts H) (text : Option (List ℕ)) (old new : H) → PrintedText h text old new
    → Did h (with_text text) (printing text) old new
text_printed h None old new is = subst (λ at. Did h (λ t. t) [] old at) (sym is) (did_nothing h old)
text_printed h (Some text) old new is = did_one h Printing (with_text (Some text)) old new is

-- ---- a note

-- where a device failed only if another did, a note is there for that one, too
pub noted_so : {P Q : Type 0} (note : Option (List ℕ)) (t u : HostContents) → (P → Q) → NotedIn P note t u → NotedIn Q note t u
noted_so None t u so is = is
noted_so (Some note) t u so is = elim is [ inl whole ↦ inl whole | inr half ↦ inr (so half.0, half.1) ]

whole : (note : Option (List ℕ)) (t u : HostContents) → NotedIn ⊥ note t u → u ≡ with_note note t
whole None t u is = is
whole (Some note) t u is = elim is [ inl all ↦ all | inr half ↦ absurd half.0 ]

-- where none did, all of it is there
pub noted_whole : (note : Option (List ℕ)) (t : HostContents) (new : Option HostContents) → StillTells (NotedIn ⊥ note t) new → new ≡ Some (with_note note t)
noted_whole note t new is = is.2 ∙ ap (λ u. Some u) (whole note t is.0 is.1)

-- without a note all stays
pub unnoted : (P : Type 0) (note : Option (List ℕ)) (t : HostContents) (new : Option HostContents) → note ≡ None → StillTells (NotedIn P note t) new
    → new ≡ Some t
unnoted P None t new none is = is.2 ∙ ap (λ u. Some u) is.1
unnoted P (Some note) t new none is = absurd (cc)

-- and no call is made
pub unnoting : (note : Option (List ℕ)) (failed : Bool) (calls : List Call) → note ≡ None → calls ++ noting failed note ≡ calls
unnoting None failed calls none = append-nil calls
unnoting (Some note) failed calls none = absurd (cc)

record WasNoted {H : Type 0} (h : Hosts H) (note : Option (List ℕ)) (old new : H) : Type 0 where
  pub left : (t : HostContents) → h.contents old ≡ Some t → StillTells (NotedIn (Rose (h.faults old) (h.faults new)) note t) (h.contents new)
  pub told : Bool
  pub asked : Leads h.called (noting told note) old new
  pub failed : Counts told (h.failed old) (h.failed new)
  pub faults : Counts told (h.faults old) (h.faults new)

half_at : (o : Option HostContents) (P : HostContents → Type 0) (t : HostContents) → o ≡ Some t → IfSome o P → P t
half_at o P t some is = subst (λ o. IfSome o P) some is

note_left : {P : Type 0} (note : List ℕ) (t : HostContents) (new : Option HostContents) → P → StillTells (HalfComplained note t) new
    → StillTells (NotedIn P (Some note) t) new
note_left note t new fault is = (is.0, inr (fault, is.1), is.2)

was_noted : {H : Type 0} (h : Hosts H) (note : Option (List ℕ)) (old new : H) → Noted h note old new → WasNoted h note old new
was_noted h None old new is =
    subst (λ at. WasNoted h None old at) (sym is)
    (record { left = λ t at. (t, refl, at); told = false; asked = refl; failed = refl; faults = refl })
was_noted h (Some note) old new is = elim is [
  | inl one ↦ record {
    left = λ t at. (with_complaint note t, inl refl, one.left ∙ ap (option_map (with_complaint note)) at);
    told = false;
    asked = leads_one h.called (call (Complaining note) false) old new one.asked;
    failed = one.failed;
    faults = one.faults;
  }
  | inr one ↦ record {
    left = λ t at. note_left note t (h.contents new) one.faults (half_at (h.contents old) (λ t. StillTells (HalfComplained note t) (h.contents new)) t at one.half);
    told = true;
    asked = leads_one h.called (call (Complaining note) true) old new one.asked;
    failed = one.failed;
    faults = one.faults;
  }
]

-- ---- an effect that was carried out

-- each call once and in this order, and no other
pub record WasDone {H : Type 0} (h : Hosts H) (x : Effect) (old new : H) : Type 0 where
  pub left : (t : HostContents) → h.contents old ≡ Some t → StillTells (NotedIn (Rose (h.faults old) (h.faults new)) x.note (after x t)) (h.contents new)
  pub told : Bool
  pub asked : Leads h.called (passed (asks_of x) ++ noting told x.note) old new
  pub failed : h.failed old ≤ h.failed new
  pub faults : h.faults old ≤ h.faults new

pub was_done : {H : Type 0} (h : Hosts H) (x : Effect) (old new : H) → CarriedOut h x old new → WasDone h x old new
was_done h x old new is =
    let mid = is.1 in
    let did = did_both h (with_files x.files) (with_text x.text) (map (λ f. Writing f.name) x.files) (printing x.text) old is.0 mid
    (all_written h x.files old is.0 is.2) (text_printed h x.text is.0 mid is.3) in
    let note = was_noted h x.note mid new is.4 in
    let more = counted_up note.told _ _ note.failed in
    let up = counted_up note.told _ _ note.faults in
    record {
      left = λ t at.
          let there = note.left (after x t) (did.left ∙ ap (option_map (after x)) at) in
          (there.0, noted_so x.note (after x t) there.0 (λ rose. subst (λ n. Rose n (h.faults new)) did.faults rose) there.1, there.2);
      told = note.told;
      asked = leads_then h.called (passed (asks_of x)) (noting note.told x.note) old mid new did.asked note.asked;
      failed = omega (arith, did.failed, more);
      faults = omega (arith, did.faults, up);
    }

-- ---- an effect at which the host failed

-- the calls up to the one that failed, and no other
pub record WasBroken {H : Type 0} (h : Hosts H) (Half : HostContents → HostContents → Type 0) (asks : List Ask) (old new : H) : Type 0 where
  pub half : IfSome (h.contents old) (λ t. StillTells (Half t) (h.contents new))
  pub calls : List Call
  pub asked : Leads h.called calls old new
  pub cut : (front : List Ask) × (ask : Ask) × (rest : List Ask) × (asks ≡ front ++ ask ∷ rest) × (calls ≡ failed_at front ask)
  pub failed : Rose (h.failed old) (h.failed new)
  pub faults : Rose (h.faults old) (h.faults new)

half_so : (P Q : HostContents → HostContents → Type 0) (f : HostContents → HostContents) (old mid new : Option HostContents)
    → mid ≡ option_map f old → ((t u : HostContents) → P (f t) u → Q t u)
    → IfSome mid (λ t. StillTells (P t) new) → IfSome old (λ t. StillTells (Q t) new)
half_so P Q f None mid new is so half = tt
half_so P Q f (Some t) mid new is so half =
    let all : StillTells (P (f t)) new = subst (λ o. IfSome o (λ t. StillTells (P t) new)) is half in (all.0, so t all.0 all.1, all.2)

breaks_one : {H : Type 0} (h : Hosts H) (ask : Ask) (rest : List Ask) (P Q : HostContents → HostContents → Type 0) (old new : H)
    → ((t u : HostContents) → P t u → Q t u) → Broke h ask P old new
    → WasBroken h Q (ask ∷ rest) old new
breaks_one h ask rest P Q old new so broke = record {
  half = half_so P Q (λ t. t) (h.contents old) (h.contents old) (h.contents new) (unchanged (h.contents old)) so broke.half;
  calls = call ask true ∷ [];
  asked = leads_one h.called (call ask true) old new broke.asked;
  cut = ([], ask, rest, refl, refl);
  failed = broke.failed;
  faults = broke.faults;
}

failed_behind : (xs front : List Ask) (ask : Ask) (calls : List Call) → calls ≡ failed_at front ask → passed xs ++ calls ≡ failed_at (xs ++ front) ask
failed_behind xs front ask calls is =
    ap (λ c. passed xs ++ c) is ∙ sym (append_assoc (passed xs) (passed front) (call ask true ∷ [])) ∙ ap (λ c. c ++ call ask true ∷ []) (sym (passed_then xs front))

breaks_later : {H : Type 0} (h : Hosts H) (f : HostContents → HostContents) (xs ys : List Ask) (P Q : HostContents → HostContents → Type 0) (old mid new : H)
    → ((t u : HostContents) → P (f t) u → Q t u) → Did h f xs old mid → WasBroken h P ys mid new
    → WasBroken h Q (xs ++ ys) old new
breaks_later h f xs ys P Q old mid new so first second =
    let cut = second.cut in
    record {
      half = half_so P Q f (h.contents old) (h.contents mid) (h.contents new) first.left so second.half;
      calls = passed xs ++ second.calls;
      asked = leads_then h.called (passed xs) second.calls old mid new first.asked second.asked;
      cut = (xs ++ cut.0, cut.1, cut.2, ap (λ asks. xs ++ asks) cut.3 ∙ sym (append_assoc xs cut.0 (cut.1 ∷ cut.2)), failed_behind xs cut.0 cut.1 second.calls cut.4);
      failed = subst (λ n. Rose n (h.failed new)) first.failed second.failed;
      faults = subst (λ n. Rose n (h.faults new)) first.faults second.faults;
    }

-- what would have come behind it
breaks_before : {H : Type 0} (h : Hosts H) (xs ys : List Ask) (P Q : HostContents → HostContents → Type 0) (old new : H)
    → ((t u : HostContents) → P t u → Q t u) → WasBroken h P xs old new → WasBroken h Q (xs ++ ys) old new
breaks_before h xs ys P Q old new so is =
    let cut = is.cut in
    record {
      half = half_so P Q (λ t. t) (h.contents old) (h.contents old) (h.contents new) (unchanged (h.contents old)) so is.half;
      calls = is.calls;
      asked = is.asked;
      cut = (cut.0, cut.1, cut.2 ++ ys, ap (λ asks. asks ++ ys) cut.3 ∙ append_assoc cut.0 (cut.1 ∷ cut.2) ys, cut.4);
      failed = is.failed;
      faults = is.faults;
    }

half_first : (f : Output) (fs : List Output) (t u : HostContents) → HalfWritten f.name f.bytes t u → HalfOf (f ∷ fs) t u
half_first f fs t u half = ([], f, fs, refl, half)

half_later : (f : Output) (fs : List Output) (t u : HostContents) → HalfOf fs (with_file f.name f.bytes t) u → HalfOf (f ∷ fs) t u
half_later f fs t u half = (f ∷ half.0, half.1, half.2, ap (λ gs. f ∷ gs) half.3, half.4)

files_broken : {H : Type 0} (h : Hosts H) (fs : List Output) (old new : H) → BrokeAmong h fs old new
    → WasBroken h (HalfOf fs) (map (λ f. Writing f.name) fs) old new
files_broken h [] old new is = absurd is
files_broken h (f ∷ fs) old new is = elim is [
  | inl broke ↦ breaks_one h (Writing f.name) (map (λ f. Writing f.name) fs) (HalfWritten f.name f.bytes) (HalfOf (f ∷ fs)) old new (half_first f fs) broke
  | inr later ↦ breaks_later h (with_file f.name f.bytes) (Writing f.name ∷ []) (map (λ f. Writing f.name) fs) (HalfOf fs) (HalfOf (f ∷ fs)) old later.0 new (half_later f fs)
      (did_one h (Writing f.name) (with_file f.name f.bytes) old later.0 later.1) (files_broken h fs later.0 new later.2)
]

text_broken : {H : Type 0} (h : Hosts H) (text : Option (List ℕ)) (old new : H) → BrokeText h text old new
    → WasBroken h (HalfText text) (printing text) old new
text_broken h None old new is = absurd is
text_broken h (Some text) old new is = breaks_one h Printing [] (HalfPrinted text) (HalfText (Some text)) old new (λ t u half. half) is

pub was_broken : {H : Type 0} (h : Hosts H) (x : Effect) (old new : H) → BrokeOff h x old new → WasBroken h (HalfDone x) (asks_of x) old new
was_broken h x old new is = elim is [
  | inl files ↦ breaks_before h (map (λ f. Writing f.name) x.files) (printing x.text) (HalfOf x.files) (HalfDone x) old new (λ t u half. inl half) (files_broken h x.files old new files)
  | inr text ↦ breaks_later h (with_files x.files) (map (λ f. Writing f.name) x.files) (printing x.text) (HalfText x.text) (HalfDone x) old text.0 new (λ t u half. inr half)
      (all_written h x.files old text.0 text.1) (text_broken h x.text text.0 new text.2)
]
