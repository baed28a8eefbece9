-- What is done with what was read.
use Rattle.zed_op.specs.declared.op.Edit.{Edit}
use Rattle.zed_document.specs.declared.error.DocumentError.{DocumentError}
use Rattle.zed_document.specs.declared.error.DocumentError.TheVariants as document
use Rattle.zed_take.specs.declared.error.TakeError.{TakeError}
use Rattle.zed_refusal.specs.declared.reason.Reason.TheVariants as reason
use Rattle.zed_driver.specs.declared.command.Stop.TheVariants.{Memory}
use Rattle.std.proofs.Common.{◌≡◌, ◌∙◌, ℕ, Bool, true, false, cond, eqb, List, [], ◌∷◌, ◌++◌, Option, Some, None, Result, Ok, Err, ap, length, refl, subst, sym, inl, inr}
use Rattle.std.specs.Prelude.{◌⊎◌, IfErr, IfOk, IfSome, MatchBool}
use Rattle.std.proofs.lemmas.Bool.{eq-eqb}
use Rattle.zed_world.specs.Contents.{Contents}
use Rattle.zed_op.specs.Set.{union}
use Rattle.zed_edit.specs.Replay.{replay}
use Rattle.zed_history.specs.Clash.{Agree}
use Rattle.zed_document.specs.Merge.{AnswersJoin, AnswersMerge, Merged}
use Rattle.zed_document.specs.Replica.{Replica}
use Rattle.zed_refusal.specs.Stops.{document_stop}
use Rattle.zed_take.specs.Refusals.{CanBegin, IsLate, IsRefused}
use Rattle.zed_take.specs.Taken.{AreTaken, next_stamp}
use Rattle.zed_driver.specs.Effects.{Effect, effect}
use Rattle.cmd_take.specs.declared.opening.Forcing.{Forcing}
use Rattle.cmd_take.specs.Base.{edits_of_base}
use Rattle.cmd_take.specs.Note.{noting, told, with_told}
use Rattle.cmd_take.specs.Stops.{DrawingStop, drawing_stop, refused_for, take_stop}
use Rattle.cmd_take.specs.Taking.{Draws, Given, IsJoined, IsTaken, Takes, drawn, given, grown, made_line, stamps_told, taken_line, took}
use Rattle.cmd_take.specs.Steps.{Gives}

-- the planner of edits refused
abbrev pub Lacks : Replica → Replica → Contents → TakeError → Type 0
Lacks d b w e = IsRefused d b w e ⊎ (CanBegin d b w × IsLate b.edits w e)

-- ---- a file that is its own base

-- where nothing can be taken, nothing more is done
pub alone_none : (base file : List ℕ) (replica : ℕ) (d : Replica) (w : Contents) (e : DrawingStop)
    → (e ≡ Memory) ⊎ IsTaken d.edits d.edits w replica (Err e)
    → (e ≡ Memory) ⊎ Draws base file replica (given (d.world, d.edits) None w) (Err e)
unfolding Draws IsJoined
alone_none base file replica d w e why = elim why [ inl lack ↦ inl lack | inr is ↦ inr (Ok d.edits, refl, (Err e, is, refl)) ]

-- the file is added to, where memory suffices
pub alone_ends : (base file : List ℕ) (replica : ℕ) (d : Replica) (w : Contents) (new : List Edit) (had : ℕ) (x : Effect)
    → IsTaken d.edits d.edits w replica (Ok new) → had ≡ length d.edits
    → x ≡ effect (grown file d.world had (union d.edits new)) (Some (taken_line new (length (union d.edits new)))) 0
    → Draws base file replica (given (d.world, d.edits) None w) (Ok x)
unfolding Draws IsJoined
alone_ends base file replica d w new had x is had_is done =
    let same : effect (grown file d.world had (union d.edits new)) (Some (taken_line new (length (union d.edits new)))) 0
    ≡ drawn base file (given (d.world, d.edits) None w) d.edits new = rw had_is refl in
    (Ok d.edits, refl, (Ok new, is, ap (λ y. Ok y) (done ∙ same)))

-- the same by what it had
pub alone_grown : {E : Type 0} (file : List ℕ) (all now : Replica) (new : List Edit) (had taken : ℕ) (stamps : List ℕ) (result : Result Effect E)
    → now.edits ≡ union all.edits new → now.world ≡ all.world → taken ≡ length new → stamps ≡ stamps_told new
    → IfOk result (λ x. x ≡ effect (grown file now.world had now.edits) (Some (made_line taken (length now.edits) stamps)) 0)
    → IfOk result (λ x. x ≡ effect (grown file all.world had (union all.edits new)) (Some (taken_line new (length (union all.edits new)))) 0)
alone_grown file all now new had taken stamps (Err e) now_is now_of taken_is stamps_are done = tt
alone_grown file all now new had taken stamps (Ok x) now_is now_of taken_is stamps_are done =
    let same : effect (grown file now.world had now.edits) (Some (made_line taken (length now.edits) stamps)) 0
    ≡ effect (grown file all.world had (union all.edits new)) (Some (taken_line new (length (union all.edits new)))) 0
    = rw (now_is, now_of, taken_is, stamps_are) refl in
    done ∙ same

-- ---- what is told of edits that are taken

-- too many boards go
took_not : (base file : List ℕ) (forcing : Forcing) (g : Given) (all new : List Edit) (e : DrawingStop)
    → Err e ≡ told forcing (replay (edits_of_base g.base g.edits)) new → Err e ≡ took base file forcing g all new
took_not base file forcing g all new e is = ap (λ t. with_told t (drawn base file g all new)) is

-- the edits are taken, with a note
took_so : (base file : List ℕ) (forcing : Forcing) (g : Given) (all new : List Edit) (text : List ℕ) (x y : Effect)
    → Ok text ≡ told forcing (replay (edits_of_base g.base g.edits)) new → x ≡ drawn base file g all new → y ≡ noting text x
    → Ok y ≡ took base file forcing g all new
took_so base file forcing g all new text x y is drawn_is noted_is =
    ap (λ z. Ok z) (noted_is ∙ ap (noting text) drawn_is) ∙ ap (λ t. with_told t (drawn base file g all new)) is

-- of a file that is its own base
pub take_none : (base file : List ℕ) (replica : ℕ) (forcing : Forcing) (d : Replica) (w : Contents) (e : DrawingStop)
    → (e ≡ Memory) ⊎ IsTaken d.edits d.edits w replica (Err e)
    → (e ≡ Memory) ⊎ Takes base file replica forcing (given (d.world, d.edits) None w) (Err e)
unfolding Takes IsJoined
take_none base file replica forcing d w e why =
    elim why [ inl lack ↦ inl lack | inr is ↦ inr (Ok d.edits, refl, (Err e, is, refl)) ]

pub take_slips : (base file : List ℕ) (replica : ℕ) (forcing : Forcing) (d : Replica) (w : Contents) (new : List Edit) (e : DrawingStop)
    → IsTaken d.edits d.edits w replica (Ok new) → (e ≡ Memory) ⊎ (Err e ≡ told forcing (replay d.edits) new)
    → (e ≡ Memory) ⊎ Takes base file replica forcing (given (d.world, d.edits) None w) (Err e)
unfolding Takes IsJoined
take_slips base file replica forcing d w new e is why = elim why [
  | inl lack ↦ inl lack
  | inr slip ↦ inr (Ok d.edits, refl, (Ok new, is, took_not base file forcing (given (d.world, d.edits) None w) d.edits new e slip))
]

pub take_ends : (base file : List ℕ) (replica : ℕ) (forcing : Forcing) (d : Replica) (w : Contents) (new : List Edit) (had : ℕ) (text : List ℕ) (x y : Effect)
    → IsTaken d.edits d.edits w replica (Ok new) → had ≡ length d.edits → Ok text ≡ told forcing (replay d.edits) new
    → x ≡ effect (grown file d.world had (union d.edits new)) (Some (taken_line new (length (union d.edits new)))) 0
    → y ≡ noting text x
    → Takes base file replica forcing (given (d.world, d.edits) None w) (Ok y)
unfolding Takes IsJoined
take_ends base file replica forcing d w new had text x y is had_is told_is done noted_is =
    let g = given (d.world, d.edits) None w in
    let same : effect (grown file d.world had (union d.edits new)) (Some (taken_line new (length (union d.edits new)))) 0
    ≡ drawn base file g d.edits new = rw had_is refl in
    (Ok d.edits, refl, (Ok new, is, took_so base file forcing g d.edits new text x y told_is (done ∙ same) noted_is))

-- ---- a base of its own

-- documents of one world that aren't stale are merged, or clash
merge_joins : (d o : Replica) (r : Merged) → d.is_stale ≡ false → o.world ≡ d.world → AnswersMerge d o r → AnswersJoin d.edits o.edits r
merge_joins d o r sound world is =
    let here = subst (λ b. MatchBool b (r ≡ Err document.Stale) (MatchBool (eqb d.world o.world) (AnswersJoin d.edits o.edits r) (r ≡ Err document.OtherWorld))) sound is in
    subst (λ b. MatchBool b (AnswersJoin d.edits o.edits r) (r ≡ Err document.OtherWorld)) (eq-eqb d.world o.world (sym world)) here

abbrev merged_ok : Merged
merged_ok = Ok tt

-- a merge that was done
pub merged_agree : (d o : Replica) → d.is_stale ≡ false → o.world ≡ d.world → AnswersMerge d o (Ok tt) → Agree d.edits o.edits
merged_agree d o sound world is = elim (merge_joins d o (Ok tt) sound world is) [
  | inl all ↦ all.0
  | inr clash ↦ absurd (let no : merged_ok ≡ Err (document.Clash clash.0) = clash.2 in cc)
]

-- a merge that was done joins
pub merge_joined : (d o all : Replica) → d.is_stale ≡ false → o.world ≡ d.world → AnswersMerge d o (Ok tt)
    → all.edits ≡ union d.edits o.edits
    → IsJoined d.edits (Some o.edits) (Ok all.edits)
unfolding IsJoined
merge_joined d o all sound world is edits = inl (merged_agree d o sound world is, ap (λ es. Ok es) edits)

-- one that was refused
pub merge_clashes : (d o : Replica) (me : DocumentError) (e : DrawingStop) → d.is_stale ≡ false → o.world ≡ d.world
    → AnswersMerge d o (Err me)
    → e ≡ drawing_stop (document_stop me) → (e ≡ Memory) ⊎ IsJoined d.edits (Some o.edits) (Err e)
unfolding IsJoined
merge_clashes d o me e sound world is tells = elim (merge_joins d o (Err me) sound world is) [
  | inl all ↦ elim all.1 [
    | inl done ↦ absurd (let no : Err me ≡ Ok tt = done in cc)
    | inr lack ↦ inl (let same : me ≡ document.Memory = cc in tells ∙ ap (λ m. drawing_stop (document_stop m)) same)
  ]
  | inr clash ↦ inr (
      let same : me ≡ document.Clash clash.0 = (let why = clash.2 in cc) in
      let whole : e ≡ refused_for (reason.Clash clash.0) = tells ∙ ap (λ m. drawing_stop (document_stop m)) same in
      inr (clash.0, clash.1, ap (λ x. Err x) whole))
]

-- what was taken
pub taken_is : (d b : Replica) (w : Contents) (replica : ℕ) (new : List Edit) → AreTaken b.edits w (next_stamp d.edits replica) new
    → IsTaken d.edits b.edits w replica (Ok new)
unfolding IsTaken
taken_is d b w replica new is = inl (new, is, refl)

pub taken_not : (d b : Replica) (w : Contents) (replica : ℕ) (te : TakeError) (e : DrawingStop) → d.is_stale ≡ false → b.is_stale ≡ false
    → Lacks d b w te → e ≡ take_stop te
    → IsTaken d.edits b.edits w replica (Err e)
unfolding IsTaken
taken_not d b w replica te e sound base why is = inr (te, (d, b, (refl, sound), (refl, base), why), ap (λ x. Err x) is)

-- where the base can't be merged, nothing more is done
pub beside_no_merge : (base file : List ℕ) (replica : ℕ) (forcing : Forcing) (d o : Replica) (w : Contents) (e : DrawingStop)
    → (e ≡ Memory) ⊎ IsJoined d.edits (Some o.edits) (Err e)
    → (e ≡ Memory) ⊎ Takes base file replica forcing (given (d.world, d.edits) (Some o.edits) w) (Err e)
unfolding Takes
beside_no_merge base file replica forcing d o w e why = elim why [ inl lack ↦ inl lack | inr is ↦ inr (Err e, is, refl) ]

pub beside_none : (base file : List ℕ) (replica : ℕ) (forcing : Forcing) (d o all : Replica) (w : Contents) (e : DrawingStop)
    → IsJoined d.edits (Some o.edits) (Ok all.edits)
    → (e ≡ Memory) ⊎ IsTaken all.edits o.edits w replica (Err e)
    → (e ≡ Memory) ⊎ Takes base file replica forcing (given (d.world, d.edits) (Some o.edits) w) (Err e)
unfolding Takes
beside_none base file replica forcing d o all w e joined why =
    elim why [ inl lack ↦ inl lack | inr is ↦ inr (Ok all.edits, joined, (Err e, is, refl)) ]

-- too many boards of the base go
pub beside_slips : (base file : List ℕ) (replica : ℕ) (forcing : Forcing) (d o all : Replica) (w : Contents) (new : List Edit) (e : DrawingStop)
    → IsJoined d.edits (Some o.edits) (Ok all.edits) → IsTaken all.edits o.edits w replica (Ok new)
    → (e ≡ Memory) ⊎ (Err e ≡ told forcing (replay o.edits) new)
    → (e ≡ Memory) ⊎ Takes base file replica forcing (given (d.world, d.edits) (Some o.edits) w) (Err e)
unfolding Takes
beside_slips base file replica forcing d o all w new e joined is why = elim why [
  | inl lack ↦ inl lack
  | inr slip ↦ inr (Ok all.edits, joined, (Ok new, is, took_not base file forcing (given (d.world, d.edits) (Some o.edits) w) all.edits new e slip))
]

-- both are added to, where memory suffices
pub beside_ends : (base file : List ℕ) (replica : ℕ) (forcing : Forcing) (d o all : Replica) (w : Contents) (new : List Edit) (had : ℕ) (text : List ℕ) (x y : Effect)
    → IsJoined d.edits (Some o.edits) (Ok all.edits) → IsTaken all.edits o.edits w replica (Ok new) → o.world ≡ d.world
    → all.world ≡ d.world → had ≡ length d.edits → Ok text ≡ told forcing (replay o.edits) new
    → x ≡ effect (grown base o.world (length o.edits) (union o.edits new) ++ grown file all.world had (union all.edits new)) (Some (taken_line new (length (union all.edits new)))) 0
    → y ≡ noting text x
    → Takes base file replica forcing (given (d.world, d.edits) (Some o.edits) w) (Ok y)
unfolding Takes
beside_ends base file replica forcing d o all w new had text x y joined is base_of all_of had_is told_is done noted_is =
    let g = given (d.world, d.edits) (Some o.edits) w in
    let same : effect (grown base o.world (length o.edits) (union o.edits new) ++ grown file all.world had (union all.edits new)) (Some (taken_line new (length (union all.edits new)))) 0
    ≡ drawn base file g all.edits new = rw (base_of, all_of, had_is) refl in
    (Ok all.edits, joined, (Ok new, is, took_so base file forcing g all.edits new text x y told_is (done ∙ same) noted_is))

-- both files by what they had
pub both_grown : {E : Type 0} (base file : List ℕ) (o all b now : Replica) (new : List Edit) (base_had had taken : ℕ) (stamps : List ℕ) (result : Result Effect E)
    → b.edits ≡ union o.edits new → b.world ≡ o.world → now.edits ≡ union all.edits new → now.world ≡ all.world → base_had ≡ length o.edits
    → taken ≡ length new → stamps ≡ stamps_told new
    → IfOk result (λ x. x ≡ effect (grown base b.world base_had b.edits ++ grown file now.world had now.edits) (Some (made_line taken (length now.edits) stamps)) 0)
    → IfOk result (λ x. x ≡ effect (grown base o.world (length o.edits) (union o.edits new) ++ grown file all.world had (union all.edits new)) (Some (taken_line new (length (union all.edits new)))) 0)
both_grown base file o all b now new base_had had taken stamps (Err e) b_is b_of now_is now_of base_is taken_is stamps_are done = tt
both_grown base file o all b now new base_had had taken stamps (Ok x) b_is b_of now_is now_of base_is taken_is stamps_are done =
    let same : effect (grown base b.world base_had b.edits ++ grown file now.world had now.edits) (Some (made_line taken (length now.edits) stamps)) 0
    ≡ effect (grown base o.world (length o.edits) (union o.edits new) ++ grown file all.world had (union all.edits new)) (Some (taken_line new (length (union all.edits new)))) 0
    = rw (b_is, b_of, now_is, now_of, base_is, taken_is, stamps_are) refl in
    done ∙ same
