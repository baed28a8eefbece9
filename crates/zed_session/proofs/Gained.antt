-- Whence the edits of a document are after calls of its session.
use Rattle.std.proofs.Common.{◌++◌, ℕ, List, [], ◌∷◌, Result, Ok, Err, refl, sym, subst, inl, inr}
use Rattle.std.specs.Prelude.{◌⊎◌}
use Rattle.std.specs.List.{AllByRecursion, Contains, flat_map}
use Rattle.std.proofs.lemmas.List.Elements.{Contains-append_left, Contains-append_right}
use Rattle.zed_op.specs.declared.op.Edit.{Edit}
use Rattle.zed_op.proofs.Sets.{Member, Member-all, Member-from, Member-to}
use Rattle.zed_op.proofs.SetLaws.{each-with_edit}
use Rattle.zed_editfile.specs.Stream.{Progress}
use Rattle.zed_document.specs.declared.error.DocumentError.{DocumentError}
use Rattle.zed_document.specs.declared.error.DocumentError.TheVariants as document
use Rattle.zed_document.specs.Delivery.{DeliversEach, after_edit}
use Rattle.zed_document.specs.Replica.{Replica}
use Rattle.zed_link.specs.declared.error.LinkError.{LinkError}
use Rattle.zed_link.specs.declared.error.LinkError.TheVariants.{Memory, Magic, NewVersion, OtherWorld, RecordLength, BadEdit, CutShort, Clash, Stale, LinkFault, TooManyTurns}
use Rattle.zed_link.specs.declared.pulled.Pulled.{Pulled}
use Rattle.zed_link.specs.Pull.{AllDelivered, LeavesDocument, StopsForMemory}
use Rattle.zed_session.specs.Gains.{Calls, EditsAreHandedOver}

-- what holds of a list holds of its front
of_front : (P : Edit → Type 0) (front rest : List Edit) → AllByRecursion P (front ++ rest) → AllByRecursion P front
of_front P [] rest h = tt
of_front P (e ∷ front) rest h = (h.0, of_front P front rest h.1)

-- what holds of each edit that was there and of each that is delivered, holds of all then
delivered : (P : Edit → Type 0) (d : Replica) (es : List Edit) (r : Result (Unit {0}) DocumentError) (left : List Edit)
    → AllByRecursion P d.edits → AllByRecursion P es → DeliversEach d es r left → AllByRecursion P left
delivered P d [] r left old new h = subst (AllByRecursion P) (sym h.1) old
delivered P d (e ∷ es) r left old new (inl h) = delivered P (after_edit e d) es r left (each-with_edit P e d.edits new.0 old) new.1 h.2
delivered P d (e ∷ es) r left old new (inr h) = subst (AllByRecursion P) (sym h.3) old

all_delivered : (P : Edit → Type 0) (d : Replica) (es left : List Edit) → AllByRecursion P d.edits → AllByRecursion P es
    → AllDelivered d es left
    → AllByRecursion P left
all_delivered P d es left old new h = delivered P d es (Ok tt) left old new h

stopped : (P : Edit → Type 0) (d : Replica) (es left : List Edit) → AllByRecursion P d.edits → AllByRecursion P es
    → StopsForMemory d es left
    → AllByRecursion P left
stopped P d es left old new (front, e, rest, is, all, may) =
    all_delivered P d front left old (of_front P front (e ∷ rest) (subst (AllByRecursion P) is new)) all

-- the same after a pull
left_by : (P : Edit → Type 0) (d : Replica) (bytes : List ℕ) (es : List Edit) (p : Progress) (r : Result Pulled LinkError) (left : List Edit)
    → AllByRecursion P d.edits → AllByRecursion P es → LeavesDocument d bytes es p r left → AllByRecursion P left
left_by P d bytes es p (Ok pulled) left old new h = all_delivered P d es left old new h.2
left_by P d bytes es p (Err LinkFault) left old new h = all_delivered P d es left old new h.1
left_by P d bytes es p (Err TooManyTurns) left old new h = all_delivered P d es left old new h.1
left_by P d bytes es p (Err Magic) left old new h = all_delivered P d es left old new h.1
left_by P d bytes es p (Err NewVersion) left old new h = all_delivered P d es left old new h.1
left_by P d bytes es p (Err OtherWorld) left old new h = all_delivered P d es left old new h.1
left_by P d bytes es p (Err RecordLength) left old new h = all_delivered P d es left old new h.1
left_by P d bytes es p (Err (BadEdit cause)) left old new h = all_delivered P d es left old new h.1
left_by P d bytes es p (Err CutShort) left old new h = all_delivered P d es left old new h.1
left_by P d bytes es p (Err (Clash s)) left old new h = delivered P d es (Err (document.Clash s)) left old new h
left_by P d bytes es p (Err Memory) left old new (inl stop) = stopped P d es left old new stop
left_by P d bytes es p (Err Memory) left old new (inr refusal) = all_delivered P d es left old new refusal.1
left_by P d bytes es p (Err Stale) left old new h = absurd h

-- each edit of a list is one of it
all_from : (P : Edit → Type 0) (es : List Edit) → ((e : Edit) → Member e es → P e) → AllByRecursion P es
all_from P [] h = tt
all_from P (e ∷ es) h = (h e (inl refl), all_from P es (λ f m. h f (inr m)))

all_in : (P : Edit → Type 0) (es : List Edit) → ((e : Edit) → Contains es e → P e) → AllByRecursion P es
all_in P es h = all_from P es (λ e m. h e (Member-to e es m))

-- an edit was there before a call, or is of those that were spelled in it
whence : (spelled : List Edit) (d e : Replica) → Calls spelled d e → (f : Edit) → Contains e.edits f
    → Contains d.edits f ⊎ Contains spelled f
whence spelled d e (inl stays) f has = inl (subst (λ es. Contains es f) stays.1 has)
whence spelled d e (inr is) f has =
    let P : Edit → Type 0 = λ x. Contains d.edits x ⊎ Contains spelled x in
    let all : AllByRecursion P e.edits =
    left_by P d is.pull.handed is.pull.edits is.pull.reader is.answer e.edits (all_in P d.edits (λ x m. inl m))
    (all_in P is.pull.edits (λ x m. inr (subst (λ es. Contains es x) (sym is.spells) m))) is.pull.document in
    Member-all P e.edits all f (Member-from f e.edits has)

pub handed_over : EditsAreHandedOver
handed_over [] d e is f has = inl (subst (λ (q : Replica). Contains q.edits f) is has)
handed_over (spelled ∷ later) d e (mid, call, rest) f has =
    elim (handed_over later mid e rest f has) [
      | inl before ↦ elim (whence spelled d mid call f before) [
        | inl first ↦ inl first
        | inr now ↦ inr (Contains-append_left spelled (flat_map (λ es. es) later) f now)
      ]
      | inr then ↦ inr (Contains-append_right spelled (flat_map (λ es. es) later) f then)
    ]
