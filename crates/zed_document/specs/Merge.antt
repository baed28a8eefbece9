-- What a merge answers.
use Rattle.std.specs.Prelude.{◌≡◌, ◌==◌, ◌⊎◌, List, filter, Result, Ok, Err, MatchBool}
use Rattle.zed_types.specs.declared.stamp.Stamp.{Stamp}
use Rattle.zed_types.specs.Stamp.{before}
use Rattle.zed_op.specs.declared.op.Edit.{Edit}
use Rattle.zed_history.specs.Clash.{Agree, IsLeastClash}
use Rattle.zed_document.specs.declared.error.DocumentError.{DocumentError}
use Rattle.zed_document.specs.declared.error.DocumentError.TheVariants.{Memory, OtherWorld, Stale, Clash}
use Rattle.zed_document.specs.Replica.{Replica}

-- the edits below a stamp
abbrev pub below : Stamp → List Edit → List Edit
below s es = filter (λ e. before e.stamp s) es

-- what a merge answers: that it was done, or why not
abbrev pub Merged : Type 0
Merged = Result (Unit {0}) DocumentError

-- sets that agree are joined, want of memory aside, and others clash at the least stamp
abbrev pub AnswersJoin : List Edit → List Edit → Merged → Type 0
AnswersJoin es fs r = (Agree es fs × ((r ≡ Ok tt) ⊎ (r ≡ Err Memory))) ⊎ ((s : Stamp) × IsLeastClash es fs s × (r ≡ Err (Clash s)))

-- what a merge answers: Stale, then OtherWorld, then Clash
abbrev pub AnswersMerge : Replica → Replica → Merged → Type 0
AnswersMerge d o r =
    MatchBool d.is_stale (r ≡ Err Stale) (MatchBool (d.world == o.world) (AnswersJoin d.edits o.edits r) (r ≡ Err OtherWorld))
