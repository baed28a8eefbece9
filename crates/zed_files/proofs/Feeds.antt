-- What a feed answers, as deliveries to its document.
use Rattle.std.proofs.Common.{◌≡◌, ◌∙◌, ℕ, Bool, false, List, [], Option, Some, None, Result, Ok, Err, MatchOption, MatchResult, subst, sym}
use Rattle.std.specs.Prelude.{◌≢◌, IfErr, IfOk, OnErr, OnOk}
use mathlib.Core.Logic.{inl, inr}
use Rattle.zed_types.specs.declared.stamp.Stamp.{Stamp}
use Rattle.zed_op.specs.declared.op.Edit.{Edit}
use Rattle.zed_editfile.specs.declared.error.EditFileError.{EditFileError}
use Rattle.zed_editfile.specs.declared.error.EditFileError.TheVariants as file
use Rattle.zed_editfile.specs.Stream.{Feeds, Progress}
use Rattle.zed_document.specs.declared.error.DocumentError.TheVariants as document
use Rattle.zed_document.specs.Delivery.{DeliversEach, unless_clash}
use Rattle.zed_document.specs.Replica.{Replica}
use Rattle.zed_link.specs.declared.error.LinkError.{LinkError}
use Rattle.zed_link.specs.declared.error.LinkError.TheVariants as link
use Rattle.zed_link.specs.declared.pulled.Pulled.{Pulled}
use Rattle.zed_link.specs.Pieces.{TakesPiece}
use Rattle.zed_files.specs.declared.refusal.Refusal.{Refusal}
use Rattle.zed_files.specs.declared.refusal.Refusal.TheVariants as refusal
use Rattle.zed_link.specs.Refusals.{file_refusal}

no_clash : (f : EditFileError) (s : Stamp) → link.Clash s ≡ file_refusal f → ⊥
no_clash file.Memory s is = cc
no_clash file.Magic s is = cc
no_clash file.NewVersion s is = cc
no_clash file.OtherWorld s is = cc
no_clash file.RecordLength s is = cc
no_clash (file.BadEdit c) s is = cc
no_clash file.CutShort s is = cc

-- a clash
pub put_clash : (d : Replica) (es : List Edit) (q : Progress) (e : LinkError) (s : Stamp) (left : List Edit) → e ≡ link.Clash s
    → TakesPiece d es q (Err e) left
    → DeliversEach d es (Err (document.Clash s)) left
put_clash d es q e s left is (inl (inl memory)) = absurd (let no : link.Clash s ≡ link.Memory = sym is ∙ memory.0 in cc)
put_clash d es q e s left is (inl (inr clash)) =
    let both : link.Clash s ≡ link.Clash clash.0 = sym is ∙ clash.1 in
    let same : clash.0 ≡ s = cc in
    subst (λ t. DeliversEach d es (Err (document.Clash t)) left) same clash.2
put_clash d es q e s left is (inr fault) = absurd (no_clash fault.0 s (sym is ∙ fault.1))

-- a fault of the file, behind all edits before it
pub put_fault : (d : Replica) (es : List Edit) (q : Progress) (e : LinkError) (left : List Edit) → e ≢ link.Memory
    → ((s : Stamp) → e ≢ link.Clash s) → TakesPiece d es q (Err e) left
    → DeliversEach d es (Ok tt) left
put_fault d es q e left memory clash (inl (inl lack)) = absurd (memory lack.0)
put_fault d es q e left memory clash (inl (inr two)) = absurd (clash two.0 two.1)
put_fault d es q e left memory clash (inr fault) = fault.3

-- what a feed was refused for
abbrev pub Tells : Result (Option Stamp) Refusal → LinkError → Type 0
Tells r e = MatchResult r
    (λ clash. MatchOption clash ((e ≢ link.Memory) × ((s : Stamp) → e ≢ link.Clash s)) (λ s. e ≡ link.Clash s))
    (λ x. (x ≡ refusal.Memory) × (e ≡ link.Memory))

pub put_refused : (d : Replica) (bytes : List ℕ) (p q : Progress) (e : LinkError) (left : List Edit) (r : Result (Option Stamp) Refusal)
    → Tells r e
    → (es : List Edit) × Feeds bytes [] es p q × TakesPiece d es q (Err e) left
    → IfOk r (λ clash. (es : List Edit) × Feeds bytes [] es p q × DeliversEach d es (unless_clash clash) left)
put_refused d bytes p q e left (Err x) told k = tt
put_refused d bytes p q e left (Ok None) told k = (k.0, k.1, put_fault d k.0 q e left told.0 told.1 k.2)
put_refused d bytes p q e left (Ok (Some s)) told k = (k.0, k.1, put_clash d k.0 q e s left told k.2)

-- memory ran out
pub put_lacks : (d : Replica) (bytes : List ℕ) (p q : Progress) (e : LinkError) (left : List Edit) (r : Result (Option Stamp) Refusal)
    → Tells r e
    → (es : List Edit) × Feeds bytes [] es p q × TakesPiece d es q (Err e) left
    → OnErr r ((es : List Edit) × Feeds bytes [] es p q × TakesPiece d es q (Err link.Memory) left)
put_lacks d bytes p q e left (Ok clash) told k = tt
put_lacks d bytes p q e left (Err x) told k = (k.0, k.1, subst (λ f. TakesPiece d k.0 q (Err f) left) told.1 k.2)

pub told_memory : (e : LinkError) (r : Result (Option Stamp) Refusal) → Tells r e → IfErr r (λ x. x ≡ refusal.Memory)
told_memory e (Ok clash) told = tt
told_memory e (Err x) told = told.0

abbrev answer : LinkError → Result Pulled LinkError
answer e = Err e

other_answer : (e f : LinkError) → e ≢ f → answer e ≢ answer f
other_answer e f other same = other (let both : answer e ≡ answer f = same in cc)

pub put_sound : (e : LinkError) (now was : Bool) (r : Result (Option Stamp) Refusal) → Tells r e
    → (answer e ≢ answer link.Memory → now ≡ was) → was ≡ false
    → OnOk r (now ≡ false)
put_sound e now was (Err x) told stays sound = tt
put_sound e now was (Ok None) told stays sound = stays (other_answer e link.Memory told.0) ∙ sound
put_sound e now was (Ok (Some s)) told stays sound = stays (other_answer e link.Memory (λ lack. let no : link.Clash s ≡ link.Memory = sym told ∙ lack in cc)) ∙ sound
