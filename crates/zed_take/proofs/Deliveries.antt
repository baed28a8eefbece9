-- What deliveries leave that were all accepted, and when all are.
use Rattle.std.proofs.Common.{◌≡◌, ◌⊎◌, inl, inr, ℕ, true, false, List, [], ◌∷◌, Option, Some, None, Result, Ok, Err, MatchBool, refl, subst, arith}
use Rattle.zed_types.specs.declared.stamp.Stamp.{Stamp}
use Rattle.zed_types.specs.Stamp.{before}
use Rattle.zed_types.proofs.StampOrder.{before_differs, before_later, before_trans}
use Rattle.zed_op.specs.declared.op.Edit.{Edit}
use Rattle.zed_op.specs.Fit.{Fits, fault}
use Rattle.zed_op.specs.Set.{AllFit, union, with_edit}
use Rattle.zed_op.proofs.SetLaws.{each-with_edit}
use Rattle.zed_history.specs.Finding.{AllBelow, edit_with}
use Rattle.zed_history.proofs.Times.{later-all}
use Rattle.zed_document.specs.Replica.{Replica}
use Rattle.zed_document.proofs.Fronts.{accepted_free}
use Rattle.zed_document.specs.declared.delivered.Delivered.{Delivered}
use Rattle.zed_document.specs.Delivery.{Answers, AnswersAt, AnswersEach, AnswersFit, DeliversEach, IsFree, after_edit}
use Rattle.zed_document.specs.declared.error.DocumentError.{DocumentError}
use Rattle.zed_document.specs.declared.error.DocumentError.TheVariants as document
use Rattle.zed_take.specs.Taken.{AreFrom, Joins, later, next_stamp}

abbrev done : Result (Unit {0}) DocumentError
done = Ok tt

abbrev refused : DocumentError → Result (Unit {0}) DocumentError
refused e = Err e

abbrev not_told : DocumentError → Result Delivered DocumentError
not_told e = Err e

-- what is answered of an edit that fits, by a document that isn't stale
at_fit : (d : Replica) (e : Edit) (r : Result Delivered DocumentError) → d.is_stale ≡ false → Fits e → Answers d e r
    → AnswersAt (edit_with e.stamp d.edits) d.edits e r
at_fit d e r sound fits a =
    let b = subst (λ s. MatchBool s (r ≡ Err document.Stale) (AnswersFit (fault e) d.edits e r)) sound a in
    subst (λ c. AnswersFit c d.edits e r) fits b

-- one that is free isn't refused
free_accepted : (o : Option Edit) (es : List Edit) (e : Edit) (why : DocumentError) → o ≡ edit_with e.stamp es → IsFree es e
    → AnswersAt o es e (Err why)
    → ⊥
free_accepted None es e why is free a = a
free_accepted (Some f) es e why is free a =
    elim a [
      | inl same ↦ same.1
      | inr clash ↦ clash.0 (rw (← is) at free)
    ]

-- deliveries that were all accepted: none clashes
joins_each : (d : Replica) (es left : List Edit) → d.is_stale ≡ false → AllFit es → DeliversEach d es (Ok tt) left
    → Joins d.edits es × (left ≡ union d.edits es)
joins_each d [] left sound fit each = (tt, each.1)
joins_each d (e ∷ es) left sound fit each =
    elim each [
      | inl one ↦ (let free = accepted_free (edit_with e.stamp d.edits) d.edits e one.0 refl (at_fit d e (Ok one.0) sound fit.0 one.1) in
          let more = joins_each (after_edit e d) es left sound fit.1 one.2 in
          ((free, more.0), more.1))
      | inr clash ↦ absurd (let no : done ≡ refused clash.0 = clash.2 in cc)
    ]

-- where none clashes all are accepted
each_joins : (d : Replica) (es left : List Edit) (r : Result (Unit {0}) DocumentError) → d.is_stale ≡ false → AllFit es → Joins d.edits es
    → DeliversEach d es r left
    → (r ≡ Ok tt) × (left ≡ union d.edits es)
each_joins d [] left r sound fit joins each = each
each_joins d (e ∷ es) left r sound fit joins each =
    elim each [
      | inl one ↦ each_joins (after_edit e d) es left r sound fit.1 joins.1 one.2
      | inr clash ↦ absurd (free_accepted (edit_with e.stamp d.edits) d.edits e clash.0 refl joins.0 (at_fit d e (Err clash.0) sound fit.0 clash.1))
    ]

abbrev AnswersAll : Replica → List Edit → Result (Unit {0}) DocumentError → List Edit → Type 0
AnswersAll d es r left = (r ≡ Err document.Memory) ⊎ AnswersEach d es r left

when_sound : (d : Replica) (es left : List Edit) (r : Result (Unit {0}) DocumentError) → d.is_stale ≡ false → AnswersEach d es r left
    → DeliversEach d es r left
when_sound d es left r sound each =
    subst (λ b. MatchBool b ((r ≡ Err document.Stale) × (left ≡ d.edits)) (DeliversEach d es r left)) sound each

-- all were accepted: none clashes, and the document has them beside its own
pub all_joined : (d : Replica) (es left : List Edit) → d.is_stale ≡ false → AllFit es → AnswersAll d es (Ok tt) left
    → Joins d.edits es × (left ≡ union d.edits es)
all_joined d es left sound fit why =
    elim why [
      | inl bad ↦ absurd (let no : done ≡ refused document.Memory = bad in cc)
      | inr each ↦ joins_each d es left sound fit (when_sound d es left (Ok tt) sound each)
    ]

-- where none clashes all are accepted, or memory lacks
pub comes_out : (d : Replica) (es left : List Edit) (r : Result (Unit {0}) DocumentError) → d.is_stale ≡ false → AllFit es
    → Joins d.edits es → AnswersAll d es r left
    → (r ≡ Err document.Memory) ⊎ (r ≡ Ok tt)
comes_out d es left r sound fit joins answer =
    elim answer [
      | inl lacks ↦ inl lacks
      | inr each ↦ inr (each_joins d es left r sound fit joins (when_sound d es left r sound each)).0
    ]

-- ---- edits behind all others

none_below : (s : Stamp) (es : List Edit) → AllBelow s es → edit_with s es ≡ None
none_below s [] below = refl
none_below s (f ∷ es) below = rw (before_differs f.stamp s below.0) (none_below s es below.1)

below_later : (s : Stamp) (es : List Edit) → AllBelow s es → AllBelow (later s) es
below_later s [] below = tt
below_later s (f ∷ es) below = (before_trans f.stamp s (later s) below.0 (before_later s (later s) (omega arith)), below_later s es below.1)

free_behind : (s : Stamp) (log : List Edit) (e : Edit) → e.stamp ≡ s → AllBelow s log → IsFree log e
free_behind s log e is below = rw (is, none_below s log below) tt

pub below_with : (s : Stamp) (log : List Edit) (e : Edit) → e.stamp ≡ s → AllBelow s log → AllBelow (later s) (with_edit e log)
below_with s log e is below =
    let last : before e.stamp (later s) ≡ true = rw is (before_later s (later s) (omega arith)) in
    each-with_edit (λ f. before f.stamp (later s) ≡ true) e log last (below_later s log below)

pub behind_join : (s : Stamp) (log es : List Edit) → AllBelow s log → AreFrom s es → Joins log es
behind_join s log [] below from = tt
behind_join s log (e ∷ es) below from =
    (free_behind s log e from.0 below, behind_join (later s) (with_edit e log) es (below_with s log e from.0 below) from.1)

-- edits with the next stamps of a document clash with none of it
pub next_join : (log es : List Edit) (replica : ℕ) → AreFrom (next_stamp log replica) es → Joins log es
next_join log es replica from = behind_join (next_stamp log replica) log es (later-all (next_stamp log replica) log (omega arith)) from
