-- The greatest stamp wins what each edit overwrites or leaves.
use Rattle.std.proofs.Common.{◌≡◌, Bool, true, false, cond, List, [], ◌∷◌, Option, Some, None, refl, ap, ◌∙◌, sym}
use Rattle.std.specs.Option.{option_or}
use Rattle.zed_types.specs.declared.written.Written.{Written}
use Rattle.zed_types.specs.Stamp.{before}
use Rattle.zed_types.specs.Register.{latest_of, last_value, value_or}
use Rattle.zed_op.specs.declared.op.Edit.{Edit}
use Rattle.zed_op.specs.Set.{IsRising}
use Rattle.zed_op.specs.Sizes.{HaveSizes}
use Rattle.zed_edit.specs.declared.plain.Plain.{Plain}
use Rattle.zed_edit.specs.Document.{empty_document}
use Rattle.zed_edit.specs.Replay.{can, do_edit, hold, step, replay_on, taken_on}
use Rattle.zed_laws.specs.Registers.{writes_of}
use Rattle.zed_laws.proofs.LatestWrites.{RisingWrites, latest_of-rising, writes-rising, taken-rising}
use Rattle.zed_laws.proofs.NamesInOrder.{NamesPass, IsBefore, before-next, none-before}
use Rattle.zed_laws.proofs.RegularSteps.{ReadIsNormal}
use Rattle.zed_laws.specs.Winners.{Register, latest_or, GreatestStampWins}
use Rattle.zed_laws.specs.Whole.{IsWhole}
use Rattle.zed_laws.proofs.WholeSteps.{step_whole, empty_whole}

-- the value of the last write, or the one from the start
abbrev last_or : {V : Type 0} → Option V → List (Written V) → Option V
last_or o [] = o
last_or o (w ∷ ws) = last_or (Some w.value) ws

last_or-some : {V : Type 0} (v : V) (ws : List (Written V)) → last_or (Some v) ws ≡ Some (last_value v ws)
last_or-some v [] = refl
last_or-some v (w ∷ ws) = last_or-some w.value ws

latest_or-some : {V : Type 0} (o : Option V) (v : V) (w : Written V) (ws : List (Written V))
    → latest_or o (latest_of (Some w) ws) ≡ Some (value_or v (latest_of (Some w) ws))
latest_or-some o v w [] = refl
latest_or-some o v w (x ∷ ws) = go (before w.stamp x.stamp) (latest_or-some o v x ws) (latest_or-some o v w ws)
  where
    go : (b : Bool) → latest_or o (latest_of (Some x) ws) ≡ Some (value_or v (latest_of (Some x) ws))
        → latest_or o (latest_of (Some w) ws) ≡ Some (value_or v (latest_of (Some w) ws))
        → latest_or o (latest_of (cond b (Some x) (Some w)) ws) ≡ Some (value_or v (latest_of (cond b (Some x) (Some w)) ws))
    go true later kept = later
    go false later kept = kept

latest_or-rising : {V : Type 0} (o : Option V) (ws : List (Written V)) → RisingWrites ws → latest_or o (latest_of None ws) ≡ last_or o ws
latest_or-rising o [] r = refl
latest_or-rising o (w ∷ ws) r =
    latest_or-some o w.value w ws ∙ ap Some (latest_of-rising w.value (w ∷ ws) r) ∙ sym (last_or-some w.value ws)

-- each edit that is done overwrites a register or leaves it, and one that is held leaves it
pub record IsStepwise {V : Type 0} (r : Register V) : Type 0 where
  pub done : (p : Plain) (e : Edit) → NamesPass (λ q. before q e.stamp) p → IsWhole p → can p e ≡ true
      → r.read (do_edit p e) ≡ option_or (r.writes e) (r.read p)
  pub kept : (p : Plain) (e : Edit) → r.read (hold p e) ≡ r.read p

module _ {V : Type 0} (normal : ReadIsNormal) (r : Register V) (steps : IsStepwise r) where
  read-on : (p : Plain) (es : List Edit) → IsRising es → HaveSizes es → IsBefore p es → IsWhole p
      → r.read (replay_on p es) ≡ last_or (r.read p) (writes_of r.writes (taken_on p es))
  read-on p [] rising sizes earlier whole = refl
  read-on p (e ∷ es) rising sizes earlier whole =
      read-on (step p e) es rising.1 sizes.1 (before-next p e es rising.0 earlier.1) (step_whole normal p e sizes.0.1 whole) ∙ go (can p e) refl
    where
      wrote : (o : Option V) → r.writes e ≡ o
          → last_or (option_or o (r.read p)) (writes_of r.writes (taken_on (step p e) es))
          ≡ last_or (r.read p) (writes_of r.writes (e ∷ taken_on (step p e) es))
      wrote None o = rw o refl
      wrote (Some v) o = rw o refl

      go : (b : Bool) → can p e ≡ b
          → last_or (r.read (cond b (do_edit p e) (hold p e))) (writes_of r.writes (taken_on (step p e) es))
          ≡ last_or (r.read p) (writes_of r.writes (cond b (e ∷ taken_on (step p e) es) (taken_on (step p e) es)))
      go true b =
          ap (λ o. last_or o (writes_of r.writes (taken_on (step p e) es))) (steps.done p e earlier.0 whole b) ∙ wrote (r.writes e) refl
      go false b = ap (λ o. last_or o (writes_of r.writes (taken_on (step p e) es))) (steps.kept p e)

  pub wins : GreatestStampWins r
  wins es rising sizes =
      read-on empty_document es rising sizes (none-before es) empty_whole
      ∙ sym (latest_or-rising (r.read empty_document) (writes_of r.writes (taken_on empty_document es)) (writes-rising r.writes (taken_on empty_document es) (taken-rising empty_document es rising)))
