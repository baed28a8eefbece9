-- Refusals that are neither of a screen nor of a source of keys.
use Rattle.zed_op.specs.declared.op.Edit.{Edit}
use Rattle.zed_files.specs.declared.refusal.Refusal.{Refusal}
use Rattle.zed_files.specs.declared.refusal.Refusal.TheVariants.{NoLink}
use Rattle.std.proofs.Common.{◌≡◌, ◌∷◌, [], ℕ, zero, suc, Bool, true, false, List, Result, Err, length, refl, subst, nat_lt, inl, inr}
use Rattle.std.specs.Prelude.{MatchBool}
use Rattle.zed_action.specs.Deeds.{with_edits}
use Rattle.zed_document.specs.Replica.{Replica}
use Rattle.zed_session.specs.Links.{LinkSeen}
use Rattle.zed_program.specs.Merged.{IsMerged, PullsEach, empty_document}
use Rattle.zed_files.specs.Refusals.{IsOffStage, link_refusal}
use Rattle.zed_files.proofs.OffStage.{is_off, link_off}

-- what is pulled over links
pulls_off : (d : Replica) (n : ℕ) (links news : List LinkSeen) (e : Refusal) → PullsEach d n links news (Err e) → IsOffStage e
pulls_off d zero links news e pulls = absurd (let no = pulls.0 in cc)
pulls_off d (suc n) [] news e pulls = absurd pulls
pulls_off d (suc n) (link ∷ links) news e pulls = elim pulls [
  | inl more ↦ pulls_off (with_edits more.2 d) n links more.3 e more.6
  | inr last ↦ is_off e (link_refusal last.0) (let why = last.5 in cc) (link_off last.0)
]

pub merged_off : (world count : ℕ) (links news : List LinkSeen) (e : Refusal) → IsMerged world count links news (Err e) → IsOffStage e
merged_off world count links news e merged = go (nat_lt (length links) count) (Err e) refl merged
  where
    go : (few : Bool) (r : Result (List Edit) Refusal) → r ≡ Err e
        → MatchBool few ((r ≡ Err NoLink) × (news ≡ links)) (PullsEach (empty_document world) count links news r)
        → IsOffStage e
    go true r same bad = is_off e NoLink (let no = bad.0 in cc) (refl, refl)
    go false r same pulls =
        pulls_off (empty_document world) count links news e (subst (λ x. PullsEach (empty_document world) count links news x) same pulls)
