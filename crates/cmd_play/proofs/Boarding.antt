-- How playing a board of edit files ends.
use Rattle.std.proofs.Common.{◌≡◌, ◌≢◌, ◌∙◌, ◌≤◌, ℕ, List, Option, Result, Ok, Err, MatchResult, ap, arith, drop, refl, subst, sym, inl, inr}
use Rattle.std.specs.Prelude.{◌⊎◌, IfErr, IsErrAnd, ⊤}
use Rattle.zed_export.specs.declared.error.ExportError.{ExportError}
use Rattle.zed_op.specs.declared.op.Edit.{Edit}
use Rattle.zed_world.specs.Contents.{Contents}
use Rattle.zed_terminal.specs.declared.moves.Move.{Move}
use Rattle.zed_terminal.specs.declared.input.Input.{Input}
use Rattle.zed_terminal.specs.declared.input.Size.{Size}
use Rattle.zed_play.specs.Playtest.{Playtest}
use Rattle.zed_host.specs.Counting.{Rose}
use Rattle.zed_host.specs.HostContents.{HostContents}
use Rattle.zed_session.specs.Refusals as told
use Rattle.zed_files.specs.declared.refusal.Refusal.{Refusal}
use Rattle.zed_files.specs.declared.refusal.Refusal.TheVariants.{File, Memory}
use Rattle.zed_files.specs.Collected.{Collects}
use Rattle.zed_files.specs.Refusals.{export_refusal}
use Rattle.zed_files.proofs.Endings.{collected_so}
use Rattle.zed_host.proofs.Counts.{rose_later}
use Rattle.zed_files.proofs.Failures.{session_is_other}
use Rattle.zed_terminal.specs.declared.tape.Tape.{Tape}
use Rattle.cmd_play.specs.Boards.{IsPerformed, PerformsAny, PlaysFrom, over_set}
use Rattle.zed_terminal.specs.Course.{Point, point}
use Rattle.cmd_play.specs.declared.opening.Going.{Going}
use Rattle.cmd_play.specs.Opening.{opened, opened_in, over_edits}
use Rattle.zed_terminal.specs.Stage.{Stage, behind_kept}

-- a limit of an export isn't told as a failure of the host
pub limit_is_other : (x : ExportError) → export_refusal x ≢ File
limit_is_other x is = session_is_other (told.export_refusal x) is

-- what `?` hands on that isn't
pub other_on : {X : Type 0} (answer : Result X Refusal) (e : Refusal) → IsErrAnd answer (λ told. told ≡ e) → e ≢ File
    → IfErr answer (λ e. e ≢ File)
other_on (Ok x) e told other = absurd told
other_on (Err x) e told other = λ is. other (sym told ∙ is)

-- nothing was played where there is no playtest
pub unopened : (w : Option Contents) (size : Size) (o : Result Playtest Refusal) (words : List ℕ) (s : Stage) (e : Refusal)
    → (e ≡ Memory) ⊎ (o ≡ Err e)
    → ((e ≡ Memory) × (s ≡ s)) ⊎ PerformsAny w size o words s s (Err e)
unopened w size o words s e why = elim why [
  | inl memory ↦ inl (memory, refl)
  | inr is ↦ inr (subst (λ p. PerformsAny w size p words s s (Err e)) (sym is) (refl, refl))
]

-- what was played of one
pub performed : (w v : Option Contents) (size : Size) (o : Result Playtest Refusal) (p : Playtest) (words : List ℕ) (old new : Stage) (result : Result Tape Refusal)
    → o ≡ Ok p → v ≡ w
    → MatchResult result (λ t. PlaysFrom v size p words old new (Ok (point t))) (λ e. PlaysFrom v size p words old new (Err e))
    → MatchResult result (λ t. PerformsAny w size o words old new (Ok (point t))) (λ e. ((e ≡ Memory) × (new ≡ old)) ⊎ PerformsAny w size o words old new (Err e))
performed w v size o p words old new (Ok t) is over performs =
    subst (λ q. PerformsAny w size q words old new (Ok (point t))) (sym is) (subst (λ u. PlaysFrom u size p words old new (Ok (point t))) over performs)
performed w v size o p words old new (Err e) is over performs =
    inr (subst (λ q. PerformsAny w size q words old new (Err e)) (sym is) (subst (λ u. PlaysFrom u size p words old new (Err e)) over performs))

-- nothing was played where there is no set of edits
pub unread : (failed : Type 0) (t : HostContents) (going : Going) (board : ℕ) (size : Size) (words : List ℕ) (names : List (List ℕ)) (s : Stage) (e : Refusal)
    → (e ≡ Memory) ⊎ Collects failed t names (Err e)
    → ((e ≡ Memory) × (s ≡ s)) ⊎ IsPerformed failed t going board size words names s s (Err e)
unread failed t going board size words names s e why = elim why [
  | inl memory ↦ inl (memory, refl)
  | inr first ↦ inr (Err e, first, (refl, refl))
]

-- what was played of the set
pub performed_of : (failed : Type 0) (t : HostContents) (going : Going) (asked board : ℕ) (size : Size) (words : List ℕ) (names : List (List ℕ)) (es : List Edit) (old new : Stage) (result : Result Tape Refusal)
    → asked ≡ board → Collects failed t names (Ok es)
    → MatchResult result (λ tape. PerformsAny (over_edits going es) size (opened asked es) words old new (Ok (point tape)))
    (λ e. ((e ≡ Memory) × (new ≡ old)) ⊎ PerformsAny (over_edits going es) size (opened asked es) words old new (Err e))
    → MatchResult result (λ tape. IsPerformed failed t going board size words names old new (Ok (point tape)))
    (λ e. ((e ≡ Memory) × (new ≡ old)) ⊎ IsPerformed failed t going board size words names old new (Err e))
performed_of failed t going asked board size words names es old new (Ok tape) same all is =
    (Ok es, all, subst (λ n. PerformsAny (over_edits going es) size (opened n es) words old new (Ok (point tape))) same is)
performed_of failed t going asked board size words names es old new (Err e) same all why = elim why [
  | inl memory ↦ inl memory
  | inr is ↦ inr (Ok es, all, subst (λ n. PerformsAny (over_edits going es) size (opened n es) words old new (Err e)) same is)
]

-- a refusal that isn't told of the host, as one that may be for want of memory
pub or_other : {X : Type 0} (answer : Result X Refusal) → IfErr answer (λ e. e ≢ File)
    → MatchResult answer (λ _. ⊤) (λ e. (e ≡ Memory) ⊎ (e ≢ File))
or_other (Ok x) other = tt
or_other (Err e) other = inr other

-- what is so where nothing failed is so where something did
pub performed_so : (p q : Type 0) (t : HostContents) (going : Going) (board : ℕ) (size : Size) (words all : List ℕ) (names : List (List ℕ)) (old first new : Stage) (r : Result Point Refusal)
    → (p → q)
    → words ≡ all → old ≡ first → IsPerformed p t going board size words names old new r
    → IsPerformed q t going board size all names first new r
performed_so p q t going board size words all names old first new r so same stage is = (
  is.0,
  collected_so p q t names is.0 so is.1,
  subst (λ ws. PerformsAny (over_set going is.0) size (opened_in board is.0) ws first new r) same (subst (λ s. PerformsAny (over_set going is.0) size (opened_in board is.0) words s new r) stage is.2),
)

-- a count that rose has risen, whatever came before and behind
pub rose_within : (a b c d : ℕ) → a ≤ b → c ≤ d → Rose b c → Rose a d
rose_within a b c d before behind rose = on (rose_later a b c before rose)
  where
    on : Rose a c → Rose a d
    on risen = (let more = risen.0 in omega (arith, more, behind), λ few. let more = risen.1 few in omega (arith, more, behind))

-- the keys of a queue that was filled
pub filled : (taken : ℕ) (kept keys : List Move) (source now : Option (List Input)) → taken ≡ 0 → kept ≡ keys → now ≡ source
    → behind_kept (drop taken kept) now ≡ behind_kept keys source
filled taken kept keys source now none same is =
    ap (λ n. behind_kept (drop n kept) now) none ∙ ap (λ ks. behind_kept ks now) same ∙ ap (behind_kept keys) is
