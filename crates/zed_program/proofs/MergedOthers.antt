-- Refusals other than `File`.
use Rattle.zed_op.specs.declared.op.Edit.{Edit}
use Rattle.zed_files.specs.declared.refusal.Refusal.{Refusal}
use Rattle.zed_files.specs.declared.refusal.Refusal.TheVariants.{File, NoLink, TooManyTurns}
use Rattle.zed_link.specs.declared.error.LinkError.{LinkError}
use Rattle.zed_link.specs.declared.error.LinkError.TheVariants as link_error
use Rattle.zed_link.specs.Counting.{Counted}
use Rattle.zed_link.specs.Pull.{most_reads}
use Rattle.zed_session.specs.Told as linked
use Rattle.std.proofs.Common.{◌≡◌, ◌∙◌, ◌∷◌, [], ℕ, zero, suc, Bool, true, false, List, Result, Err, length, refl, subst, sym, nat_lt, inl, inr}
use Rattle.std.specs.Prelude.{MatchBool}
use Rattle.zed_action.specs.Deeds.{with_edits}
use Rattle.zed_document.specs.Replica.{Replica}
use Rattle.zed_session.specs.Links.{LinkSeen, PullsOver}
use Rattle.zed_program.specs.Merged.{IsMerged, MadeMostReads, PullsEach, empty_document}
use Rattle.zed_files.specs.Refusals.{link_refusal}
use Rattle.zed_files.proofs.Failures.{session_is_other}

-- what is pulled over links
pulls_are_other : (d : Replica) (n : ℕ) (links news : List LinkSeen) (e : Refusal) → PullsEach d n links news (Err e) → e ≡ File → ⊥
pulls_are_other d zero links news e pulls is = let no = pulls.0 in cc
pulls_are_other d (suc n) [] news e pulls is = absurd pulls
pulls_are_other d (suc n) (link ∷ links) news e pulls is = elim pulls [
  | inl more ↦ pulls_are_other (with_edits more.2 d) n links more.3 e more.6 is
  | inr last ↦ session_is_other (linked.link_refusal last.0) (let no = last.5 in let same : link_refusal last.0 ≡ e = cc in same ∙ is)
]

pub merged_is_other : (world count : ℕ) (links news : List LinkSeen) (e : Refusal) → IsMerged world count links news (Err e) → e ≡ File → ⊥
merged_is_other world count links news e merged is = go (nat_lt (length links) count) (Err e) refl merged
  where
    go : (few : Bool) (r : Result (List Edit) Refusal) → r ≡ Err e
        → MatchBool few ((r ≡ Err NoLink) × (news ≡ links)) (PullsEach (empty_document world) count links news r)
        → ⊥
    go true r same bad = let no = bad.0 in cc
    go false r same pulls = pulls_are_other (empty_document world) count links news e (subst (λ x. PullsEach (empty_document world) count links news x) same pulls) is

-- ---- too many reads

-- the link that is one place further
behind : (link new : LinkSeen) (links news : List LinkSeen) → MadeMostReads links news → MadeMostReads (link ∷ links) (new ∷ news)
behind link new links news (i, old, now, was, is, counted) = (suc i, old, now, was, is, counted)

-- a link that comes to no end made as many reads as a pull may make
turned : (d : Replica) (link new : LinkSeen) (links news : List LinkSeen) (e : LinkError) (left : List Edit) → link_refusal e ≡ TooManyTurns
    → PullsOver d link new (Err e) left → MadeMostReads (link ∷ links) (new ∷ news)
turned d link new links news link_error.TooManyTurns left is over =
    let all : over.reads ≡ most_reads = over.link.1 in
    (0, link, new, refl, refl, subst (λ n. Counted n link.reads new.reads) all over.counted)
turned d link new links news link_error.Memory left is over = absurd (cc)
turned d link new links news link_error.Magic left is over = absurd (cc)
turned d link new links news link_error.NewVersion left is over = absurd (cc)
turned d link new links news link_error.OtherWorld left is over = absurd (cc)
turned d link new links news link_error.RecordLength left is over = absurd (cc)
turned d link new links news (link_error.BadEdit c) left is over = absurd (cc)
turned d link new links news link_error.CutShort left is over = absurd (cc)
turned d link new links news (link_error.Clash s) left is over = absurd (cc)
turned d link new links news link_error.Stale left is over = absurd (cc)
turned d link new links news link_error.LinkFault left is over = absurd (cc)

pulls_turn : (d : Replica) (n : ℕ) (links news : List LinkSeen) (e : Refusal) → PullsEach d n links news (Err e) → e ≡ TooManyTurns
    → MadeMostReads links news
pulls_turn d zero links news e pulls is = absurd (let no = pulls.0 in cc)
pulls_turn d (suc n) [] news e pulls is = absurd pulls
pulls_turn d (suc n) (link ∷ links) news e (inl (pulled, new, left, more, at, over, rest)) is =
    subst (λ s. MadeMostReads (link ∷ links) s) (sym at) (behind link new links more (pulls_turn (with_edits left d) n links more e rest is))
pulls_turn d (suc n) (link ∷ links) news e (inr (why, new, left, at, over, told)) is =
    let same : link_refusal why ≡ e = cc in
    subst (λ s. MadeMostReads (link ∷ links) s) (sym at) (turned d link new links links why left (same ∙ is) over)

-- so where that is told of a merge, a link made them
pub merged_turns : (world count : ℕ) (links news : List LinkSeen) (e : Refusal) → IsMerged world count links news (Err e) → e ≡ TooManyTurns
    → MadeMostReads links news
merged_turns world count links news e merged is = go (nat_lt (length links) count) (Err e) refl merged
  where
    go : (few : Bool) (r : Result (List Edit) Refusal) → r ≡ Err e
        → MatchBool few ((r ≡ Err NoLink) × (news ≡ links)) (PullsEach (empty_document world) count links news r)
        → MadeMostReads links news
    go true r same bad = absurd (let no = bad.0 in cc)
    go false r same pulls = pulls_turn (empty_document world) count links news e (subst (λ x. PullsEach (empty_document world) count links news x) same pulls) is
