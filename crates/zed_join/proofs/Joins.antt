-- What a merge of documents of one world tells.
use Rattle.std.proofs.Common.{◌≡◌, false, eqb, MatchBool, Ok, Err, inl, inr, subst}
use Rattle.std.proofs.lemmas.Bool.{eq-eqb}
use Rattle.zed_history.specs.Clash.{Agree}
use Rattle.zed_document.specs.declared.error.DocumentError.{DocumentError}
use Rattle.zed_document.specs.declared.error.DocumentError.TheVariants.{Clash, Memory, OtherWorld, Stale}
use Rattle.zed_document.specs.Merge.{AnswersJoin, AnswersMerge, Merged}
use Rattle.zed_document.specs.Replica.{Replica}
use Rattle.zed_join.specs.Sides.{ClashOrMemory}

-- documents of one world that aren't stale are merged, or clash
answers : (d o : Replica) (r : Merged) → d.is_stale ≡ false → d.world ≡ o.world → AnswersMerge d o r → AnswersJoin d.edits o.edits r
answers d o r sound world is =
    let here = subst (λ b. MatchBool b (r ≡ Err Stale) (MatchBool (eqb d.world o.world) (AnswersJoin d.edits o.edits r) (r ≡ Err OtherWorld))) sound is in
    subst (λ b. MatchBool b (AnswersJoin d.edits o.edits r) (r ≡ Err OtherWorld)) (eq-eqb d.world o.world world) here

abbrev refused : DocumentError → Merged
refused e = Err e

-- those that were merged agree
pub merge_agrees : (d o : Replica) → d.is_stale ≡ false → d.world ≡ o.world → AnswersMerge d o (Ok tt) → Agree d.edits o.edits
merge_agrees d o sound world is = elim (answers d o (Ok tt) sound world is) [
  | inl all ↦ all.0
  | inr clash ↦ absurd (let no : Ok tt ≡ refused (Clash clash.0) = clash.2 in cc)
]

-- others clash, or memory is lacking
pub merge_clashes : (d o : Replica) (e : DocumentError) → d.is_stale ≡ false → d.world ≡ o.world → AnswersMerge d o (Err e)
    → ClashOrMemory d.edits o.edits e
merge_clashes d o e sound world is = elim (answers d o (Err e) sound world is) [
  | inl all ↦ elim all.1 [
    | inl did ↦ absurd (let no : refused e ≡ Ok tt = did in cc)
    | inr lack ↦ inl (let same : refused e ≡ Err Memory = lack in cc)
  ]
  | inr clash ↦ inr (clash.0, clash.1, (let same : refused e ≡ Err (Clash clash.0) = clash.2 in cc))
]
