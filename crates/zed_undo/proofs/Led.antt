-- Edits that lead to a world, in two parts; and documents that show none.
use Rattle.std.proofs.Common.{◌≡◌, ◌∙◌, ℕ, List, [], ◌∷◌, ◌++◌, Option, Some, None, Result, Ok, Err, ap, refl, subst, sym, inl, inr}
use Rattle.std.specs.Prelude.{◌≢◌, ◌⊎◌}
use Rattle.zed_types.specs.declared.stamp.Stamp.{Stamp}
use Rattle.zed_op.specs.declared.op.Edit.{Edit}
use Rattle.zed_op.specs.Set.{AllFit, union, with_edit}
use Rattle.zed_world.specs.Contents.{Contents}
use Rattle.zed_world.specs.declared.error.WorldError.{WorldError}
use Rattle.zed_world.specs.declared.error.WorldError.TheVariants as worlds
use Rattle.zed_world.specs.Writing.{HasText, unless_refused, world_text, written}
use Rattle.zed_edit.specs.declared.plain.Plain.{Plain}
use Rattle.zed_edit.specs.Replay.{replay}
use Rattle.zed_document.specs.Replica.{Replica}
use Rattle.zed_export.specs.declared.error.ExportError.{ExportError}
use Rattle.zed_export.specs.declared.error.ExportError.TheVariants.{Memory}
use Rattle.zed_export.specs.Limits.{Answers, exported, refusal_of, saved, unless_over, unless_stale}
use Rattle.zed_export.specs.World.{world_of}
use Rattle.zed_take.specs.Taken.{AreFrom, AreTaken, LeadsTo, Shows, next_stamp}
use Rattle.zed_take.proofs.Deliveries.{next_join}
use Rattle.zed_take.proofs.Showing as showing

-- edits that join others, and more behind them
union_append : (es first rest : List Edit) → union es (first ++ rest) ≡ union (union es first) rest
union_append es [] rest = refl
union_append es (e ∷ first) rest = union_append (with_edit e es) first rest

fit_append : (first rest : List Edit) → AllFit first → AllFit rest → AllFit (first ++ rest)
fit_append [] rest fit more = more
fit_append (e ∷ first) rest fit more = (fit.0, fit_append first rest fit.1 more)

-- those that are taken behind others lead to the world with these
pub followed_so : (es with first rest all : List Edit) (w : Contents) (s : Stamp) → AllFit first → with ≡ union es first → AreTaken with w s rest
    → all ≡ first ++ rest
    → AllFit all × Shows (union es all) w
followed_so es with first rest all w s fit is taken joined =
    let shows : Shows (union es (first ++ rest)) w = subst (λ xs. Shows xs w) (ap (λ xs. union xs rest) is ∙ sym (union_append es first rest)) taken.lead.shows in
    subst (λ xs. AllFit xs × Shows (union es xs) w) (sym joined) (fit_append first rest fit taken.lead.fit, shows)

-- with the stamps behind all others they lead there
pub leads_so : (es all : List Edit) (w : Contents) (first : Stamp) → first ≡ next_stamp es first.replica → AllFit all × Shows (union es all) w
    → AreFrom first all → LeadsTo es w first all
leads_so es all w first is both from = record {
  fit = both.0;
  from = from;
  joins = next_join es all first.replica (subst (λ s. AreFrom s all) is from);
  shows = both.1;
}

-- what is saved isn't the text of a world: that isn't shown
pub not_shown : (p : Plain) (w : Contents) (file : List ℕ) → saved 32767 p ≡ Ok file → file ≢ world_text w → exported 32767 p ≡ Ok w → ⊥
not_shown p w file is other shows = showing.not_shown p w file is other shows

abbrev as_text : List ℕ → Result (List ℕ) WorldError
as_text bytes = Ok bytes

-- a world that is refused for another reason than want of memory has no text
pub over_has_none : (w : Contents) (e : WorldError) → (e ≡ worlds.Memory → ⊥) → (e ≡ worlds.Memory) ⊎ (written 32767 w ≡ Err e)
    → HasText 32767 w
    → ⊥
unfolding written
over_has_none w e other why none = elim why [
  | inl lack ↦ other lack
  | inr over ↦ (let no : as_text (world_text w) ≡ Err e = sym (ap (λ o. unless_refused o (world_text w)) none) ∙ over in cc)
]

-- a document that is over a limit shows no world
pub over_shown : {X : Type 0} (view : X → List ℕ) (d : Replica) (e : ExportError) → Answers view (unless_over (refusal_of 32767 (replay d.edits)) (world_text (world_of (replay d.edits)))) (Err e)
    → (e ≡ Memory → ⊥) → (w : Contents) → Shows d.edits w → ⊥
over_shown view d e is not w shows = go (refusal_of 32767 (replay d.edits)) is shows
  where
    go : (o : Option ExportError) → Answers view (unless_over o (world_text (world_of (replay d.edits)))) (Err e) → unless_over o (world_of (replay d.edits)) ≡ Ok w → ⊥
    go None is shows = not is
    go (Some x) is shows = cc
