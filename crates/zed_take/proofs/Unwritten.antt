-- A register that edits behind all others don't write is as it was.
use Rattle.std.proofs.Common.{◌≡◌, Bool, true, false, cond, List, [], ◌∷◌, ◌++◌, Option, None, refl, ap, sym, ◌∙◌, append-nil, arith}
use Rattle.std.specs.Prelude.{option_map}
use Rattle.std.specs.List.{AllByRecursion}
use Rattle.std.proofs.lemmas.List.Elements.{filter_map-append}
use Rattle.zed_types.specs.declared.stamp.Stamp.{Stamp}
use Rattle.zed_types.specs.Stamp.{before, same_stamp}
use Rattle.zed_types.specs.Register.{latest_of, written_at}
use Rattle.zed_types.proofs.StampOrder.{before_asym, before_differs_after}
use Rattle.zed_op.specs.declared.op.Edit.{Edit}
use Rattle.zed_op.specs.Set.{union, with_edit}
use Rattle.zed_op.specs.Sizes.{HaveSizes}
use Rattle.zed_op.proofs.Sets.{union-rising}
use Rattle.zed_edit.specs.declared.plain.Plain.{Plain}
use Rattle.zed_edit.specs.Document.{empty_document}
use Rattle.zed_edit.specs.Replay.{can, replay, step, taken, taken_on}
use Rattle.zed_history.specs.Finding.{AllBelow}
use Rattle.zed_history.proofs.Times.{later-all}
use Rattle.zed_laws.specs.Registers.{writes_of}
use Rattle.zed_laws.specs.Winners.{GreatestStampWins, Register, latest_or}
use Rattle.zed_laws.proofs.ReplaySteps.{taken_on-append}
use Rattle.zed_take.specs.Others.{StaysUnwritten}
use Rattle.zed_take.specs.Taken.{AreFrom, later, next_stamp}
use Rattle.zed_take.proofs.Deliveries.{below_with}

push_on : (xs es : List Edit) (e : Edit) → (xs ++ e ∷ []) ++ es ≡ xs ++ e ∷ es
push_on [] es e = refl
push_on (x ∷ xs) es e = ap (λ l. x ∷ l) (push_on xs es e)

at_end : (s : Stamp) (log : List Edit) (e : Edit) → e.stamp ≡ s → AllBelow s log → with_edit e log ≡ log ++ e ∷ []
at_end s [] e is below = refl
at_end s (f ∷ log) e is below =
    let after : before e.stamp f.stamp ≡ false = rw is (before_asym f.stamp s below.0) in
    let other : same_stamp e.stamp f.stamp ≡ false = rw is (before_differs_after f.stamp s below.0) in
    rw (after, other) (ap (λ l. f ∷ l) (at_end s log e is below.1))

-- edits behind all others stand at the end
at_ends : (s : Stamp) (log es : List Edit) → AllBelow s log → AreFrom s es → union log es ≡ log ++ es
at_ends s log [] below from = sym (append-nil log)
at_ends s log (e ∷ es) below from =
    at_ends (later s) (with_edit e log) es (below_with s log e from.0 below) from.1
    ∙ ap (λ l. l ++ es) (at_end s log e from.0 below)
    ∙ push_on log es e

sizes_front : (xs ys : List Edit) → HaveSizes (xs ++ ys) → HaveSizes xs
sizes_front [] ys h = tt
sizes_front (x ∷ xs) ys h = (h.0, sizes_front xs ys h.1)

skipped : {V : Type 0} (writes : Edit → Option V) (y : Edit) (ys : List Edit) → writes y ≡ None
    → writes_of writes (y ∷ ys) ≡ writes_of writes ys
skipped writes y ys none = rw none refl

-- of edits that write nothing those that are done write nothing
nothing : {V : Type 0} (writes : Edit → Option V) (p : Plain) (ys : List Edit) → AllByRecursion (λ e. writes e ≡ None) ys
    → writes_of writes (taken_on p ys) ≡ []
nothing writes p [] none = refl
nothing writes p (y ∷ ys) none = go (can p y) (taken_on (step p y) ys) (nothing writes (step p y) ys none.1)
  where
    go : (b : Bool) (rest : List Edit) → writes_of writes rest ≡ [] → writes_of writes (cond b (y ∷ rest) rest) ≡ []
    go true rest h = skipped writes y rest none.0 ∙ h
    go false rest h = h

same_writes : {V : Type 0} (writes : Edit → Option V) (es edits : List Edit) → AllByRecursion (λ e. writes e ≡ None) edits
    → writes_of writes (taken (es ++ edits)) ≡ writes_of writes (taken es)
same_writes writes es edits none =
    ap (writes_of writes) (taken_on-append empty_document es edits)
    ∙ filter_map-append (λ e. option_map (written_at e.stamp) (writes e)) (taken es) (taken_on (replay es) edits)
    ∙ ap (λ ws. writes_of writes (taken es) ++ ws) (nothing writes (replay es) edits none)
    ∙ append-nil (writes_of writes (taken es))

pub stays : {V : Type 0} (r : Register V) → GreatestStampWins r → StaysUnwritten r
stays r wins es edits replica rises sizes from none =
    let ends = at_ends (next_stamp es replica) es edits (later-all (next_stamp es replica) es (omega arith)) from in
    let front : HaveSizes es = sizes_front es edits (rw ends at sizes) in
    let same : writes_of r.writes (taken (union es edits)) ≡ writes_of r.writes (taken es) = rw ends (same_writes r.writes es edits none) in
    wins (union es edits) (union-rising es edits rises) sizes
    ∙ ap (λ ws. latest_or (r.read empty_document) (latest_of None ws)) same
    ∙ sym (wins es rises front)
