-- What the command comes to behind both files.
use Rattle.std.proofs.Common.{◌≡◌, List, Option, Some, None, Result, Ok, Err, MatchResult, inr}
use Rattle.zed_driver.specs.declared.command.Stop.{Stop}
use Rattle.zed_driver.specs.declared.input.Input.{Input}
use Rattle.zed_driver.specs.Effects.{Effect}
use Rattle.zed_document.specs.Replica.{Replica}
use Rattle.zed_refusal.specs.declared.reason.Reason.{Reason}
use Rattle.cmd_compare.specs.declared.comparing.Strictness.{Strictness}
use Rattle.cmd_compare.specs.Compares.{CompareComes, CompareStands, IsCompared}

same : (d e : Replica) → Some d ≡ Some e → d ≡ e
same d e is = cc

-- it comes to what both come to
pub both_come : (strictness : Strictness) (files : List Input) (first second : Option Replica) (d o : Replica) (r : Result Effect (Stop Reason))
    → first ≡ Some d → second ≡ Some o → CompareStands files first second → IsCompared strictness d.edits o.edits r
    → CompareComes strictness files r
both_come strictness files None second d o r is also stands compared = absurd (cc)
both_come strictness files (Some e) None d o r is also stands compared = absurd (cc)
both_come strictness files (Some e) (Some p) d o r is also (i, j, are, mine, theirs, world) compared =
    rw are ((e.world, e.edits), mine.1, inr ((p.world, p.edits), theirs.1, rw (same e d is, same p o also) compared))

-- the same of each answer
pub each_comes : (strictness : Strictness) (files : List Input) (first second : Option Replica) (d o : Replica) (r : Result Effect (Stop Reason))
    → first ≡ Some d → second ≡ Some o → CompareStands files first second
    → MatchResult r (λ x. IsCompared strictness d.edits o.edits (Ok x)) (λ e. IsCompared strictness d.edits o.edits (Err e))
    → MatchResult r (λ x. CompareComes strictness files (Ok x)) (λ e. CompareComes strictness files (Err e))
each_comes strictness files first second d o (Ok x) is also stands compared = both_come strictness files first second d o (Ok x) is also stands compared
each_comes strictness files first second d o (Err e) is also stands compared = both_come strictness files first second d o (Err e) is also stands compared
