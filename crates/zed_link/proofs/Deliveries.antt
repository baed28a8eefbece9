-- Deliveries one list after the other.
use Rattle.std.proofs.Common.{◌≡◌, ◌∙◌, ◌⊎◌, ◌++◌, ℕ, Bool, List, [], ◌∷◌, None, Result, Ok, Err, refl, ap, sym, subst, append-nil, append_assoc}
use mathlib.Core.Logic.{inl, inr}
use Rattle.zed_op.specs.declared.op.Edit.{Edit}
use Rattle.zed_op.specs.Fit.{Fits}
use Rattle.zed_op.specs.Verdict.{HangsOnItsWorld}
use Rattle.zed_document.specs.declared.error.DocumentError.{DocumentError}
use Rattle.zed_document.specs.declared.error.DocumentError.TheVariants as document
use Rattle.zed_history.specs.Finding.{edit_with}
use Rattle.zed_document.specs.Delivery.{DeliversEach, MayTakeMemoryFor, after_edit}
use Rattle.zed_document.specs.Replica.{Replica}
use Rattle.zed_document.proofs.CountsAside.{delivers_aside, with_counts}
use Rattle.zed_link.specs.declared.error.LinkError.{LinkError}
use Rattle.zed_link.specs.declared.pulled.Pulled.{Pulled}
use Rattle.zed_link.specs.Pieces.{DeliversOne, IsStopped}
use Rattle.zed_link.specs.Pull.{AllDelivered, FrontDelivered, StopsForMemory}
use Rattle.zed_link.specs.Tally.{plus, state_in, states, tally}
use Rattle.zed_link.proofs.Tallies.{tally_more}

-- documents of which contracts see the same, but for the counts of looks
replica_is : (d m : Replica) → m.world ≡ d.world → m.edits ≡ d.edits → m.is_stale ≡ d.is_stale → m ≡ with_counts m.counts d
replica_is d m w es s =
    let make : ℕ → List Edit → Bool → Replica = λ w es s. record { world = w; edits = es; is_stale = s; counts = m.counts } in
    let path : make m.world m.edits m.is_stale ≡ make d.world d.edits d.is_stale = rw (w, es, s) refl in path

abbrev Deliveries : Type 0
Deliveries = Result (Unit {0}) DocumentError

-- all of a list were delivered, and then others
pub delivered_more : (d m : Replica) (xs ys : List Edit) (r : Deliveries) (left : List Edit) → m.world ≡ d.world → m.is_stale ≡ d.is_stale
    → AllDelivered d xs m.edits → DeliversEach m ys r left → DeliversEach d (xs ++ ys) r left
delivered_more d m [] ys r left w s all more =
    delivers_aside m.counts d ys r left (subst (λ q. DeliversEach q ys r left) (replica_is d m w all.1 s) more)
delivered_more d m (x ∷ xs) ys r left w s (inl one) more = inl (one.0, one.1, delivered_more (after_edit x d) m xs ys r left w s one.2 more)
delivered_more d m (x ∷ xs) ys r left w s (inr one) more = absurd (let allowed : Deliveries = Ok tt in let refused : Deliveries = Err one.0 in let bad : allowed ≡ refused = one.2 in cc)

-- all of a list were delivered, and then others up to one that may take memory
pub stops_more : (d m : Replica) (xs ys : List Edit) (left : List Edit) → m.world ≡ d.world → m.is_stale ≡ d.is_stale
    → AllDelivered d xs m.edits → StopsForMemory m ys left → StopsForMemory d (xs ++ ys) left
stops_more d m xs ys left w s all (front, e, rest, is, more, may) =
    (xs ++ front, e, rest, ap (λ z. xs ++ z) is ∙ sym (append_assoc xs front (e ∷ rest)), delivered_more d m xs front (Ok tt) left w s all more, (sym s ∙ may.0, may.1))

-- what was delivered up to one edit is a front
pub stop_is_front : (d : Replica) (es left : List Edit) → StopsForMemory d es left → FrontDelivered d es left
stop_is_front d es left (front, e, rest, is, all, may) = (front, e ∷ rest, is, all)

-- an edit that may take memory in a document may in one with the same edits
may_take : (d m : Replica) (e : Edit) (left : List Edit) → m.is_stale ≡ d.is_stale → left ≡ m.edits → MayTakeMemoryFor m e
    → MayTakeMemoryFor (record d { edits = left }) e
may_take d m e left s is may =
    (sym s ∙ may.0, subst (λ l. HangsOnItsWorld e ⊎ (Fits e × (edit_with e.stamp l ≡ None))) (sym is) may.1)

-- all is a front
pub all_is_front : (d : Replica) (es left : List Edit) → AllDelivered d es left → FrontDelivered d es left
all_is_front d es left all = (es, [], sym (append-nil es), all)

-- what becomes of a list, and then of others
pub states_more : (d : Replica) (xs ys mid : List Edit) → AllDelivered d xs mid
    → states d.edits (xs ++ ys) ≡ states d.edits xs ++ states mid ys
states_more d [] ys mid all = ap (λ l. states l ys) (sym all.1)
states_more d (x ∷ xs) ys mid (inl one) = ap (λ l. state_in d.edits x ∷ l) (states_more (after_edit x d) xs ys mid one.2)
states_more d (x ∷ xs) ys mid (inr one) = absurd (let allowed : Deliveries = Ok tt in let refused : Deliveries = Err one.0 in let bad : allowed ≡ refused = one.2 in cc)

-- what was refused stays so, whatever edits come behind it
pub refused_before : (d : Replica) (xs ys : List Edit) (e : DocumentError) (left : List Edit) → DeliversEach d xs (Err e) left
    → DeliversEach d (xs ++ ys) (Err e) left
refused_before d [] ys e left all = absurd (let allowed : Deliveries = Ok tt in let refused : Deliveries = Err e in let bad : refused ≡ allowed = all.0 in cc)
refused_before d (x ∷ xs) ys e left (inl one) = inl (one.0, one.1, refused_before (after_edit x d) xs ys e left one.2)
refused_before d (x ∷ xs) ys e left (inr one) = inr one

-- the counts of a list, and then of others
pub counted_more : (d : Replica) (xs ys mid : List Edit) (old got new : Pulled) → AllDelivered d xs mid
    → old ≡ tally (states d.edits xs) → got ≡ tally (states mid ys) → new ≡ plus old got → new ≡ tally (states d.edits (xs ++ ys))
counted_more d xs ys mid old got new all o g is =
    is ∙ ap (λ z. plus z got) o ∙ ap (plus (tally (states d.edits xs))) g ∙ sym (tally_more (states d.edits xs) (states mid ys)) ∙ ap tally (sym (states_more d xs ys mid all))

-- after edits that were all delivered memory ran out at one
pub one_lacks : (d m : Replica) (done rest all : List Edit) (one : Edit) (left : List Edit) → m.world ≡ d.world → m.is_stale ≡ d.is_stale
    → all ≡ done ++ one ∷ rest → AllDelivered d done m.edits → MayTakeMemoryFor m one → left ≡ m.edits → StopsForMemory d all left
one_lacks d m done rest all one left w s whole came may same =
    (done, one, rest, whole, subst (AllDelivered d done) (sym same) came, may_take d m one left s same may)

-- after edits that were all delivered one more is refused
pub one_stops : (d m : Replica) (done rest all : List Edit) (one : Edit) (e : LinkError) (left : List Edit) → m.world ≡ d.world
    → m.is_stale ≡ d.is_stale
    → all ≡ done ++ one ∷ rest → AllDelivered d done m.edits → DeliversOne m one (Err e) left → IsStopped d all e left
one_stops d m done rest all one e left w s whole came (inl memory) =
    inl (memory.0, one_lacks d m done rest all one left w s whole came memory.1 memory.2)
one_stops d m done rest all one e left w s whole came (inr clash) =
    inr (
      clash.0,
      clash.1,
      subst (λ all. DeliversEach d all (Err (document.Clash clash.0)) left) (sym whole)
          (delivered_more d m done (one ∷ rest) (Err (document.Clash clash.0)) left w s came (refused_before m (one ∷ []) rest (document.Clash clash.0) left clash.2)),
    )

-- one edit more was delivered
pub one_behind : (done rest all next : List Edit) (one : Edit) → all ≡ done ++ next → next ≡ one ∷ rest → all ≡ (done ++ one ∷ []) ++ rest
one_behind done rest all next one whole is = whole ∙ ap (λ z. done ++ z) is ∙ sym (append_assoc done (one ∷ []) rest)
