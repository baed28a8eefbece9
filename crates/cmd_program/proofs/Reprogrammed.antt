-- What a world comes to with another program.
use Rattle.std.proofs.Common.{◌≡◌, ℕ, List, Some, None, Result, Ok, Err, refl, subst, sym, inl, inr}
use Rattle.std.specs.Prelude.{◌⊎◌, IfErr, MatchResult, slice_get}
use Rattle.zed_world.specs.Contents.{Contents}
use Rattle.zed_world.specs.declared.board.BoardData.{BoardData}
use Rattle.zed_world.specs.declared.stat.StatData.{StatData}
use Rattle.cmd_program.specs.declared.error.ReprogramError.{ReprogramError}
use Rattle.cmd_program.specs.declared.error.ReprogramError.TheVariants.{Memory, NoBoard, NoSuch}
use Rattle.cmd_program.specs.Codes.{owner_of}
use Rattle.cmd_program.specs.Worlds.{Fits, HasStat, IsReprogrammed, OfBoard, OfStat, board_with, world_with}

pub no_board : (w : Contents) (board stat : ℕ) (program : List ℕ) → slice_get w.boards board ≡ None
    → IsReprogrammed w board stat program (Err NoBoard)
unfolding IsReprogrammed
no_board w board stat program at = subst (λ o. OfBoard w board stat program o (Err NoBoard)) (sym at) refl

pub no_such : (w : Contents) (board stat : ℕ) (program : List ℕ) (b : BoardData) → slice_get w.boards board ≡ Some b
    → slice_get b.stats stat ≡ None
    → IsReprogrammed w board stat program (Err NoSuch)
unfolding IsReprogrammed
no_such w board stat program b at here =
    subst (λ o. OfBoard w board stat program o (Err NoSuch)) (sym at) (subst (λ o. OfStat w board b stat program o (Err NoSuch)) (sym here) refl)

fits : (w : Contents) (board stat : ℕ) (program : List ℕ) (b : BoardData) (s : StatData) (number : ℕ) (changed : BoardData) (r : Result Contents ReprogramError)
    → slice_get w.boards board ≡ Some b → slice_get b.stats stat ≡ Some s → number ≡ board
    → changed ≡ board_with (owner_of stat s.code) program b
    → Fits (world_with w number changed) r → IsReprogrammed w board stat program r
unfolding IsReprogrammed
fits w board stat program b s number changed r at here same is fit =
    let whole : Fits (world_with w board (board_with (owner_of stat s.code) program b)) r =
    subst (λ c. Fits (world_with w board c) r) is (subst (λ n. Fits (world_with w n changed) r) same fit) in
    subst (λ o. OfBoard w board stat program o r) (sym at) (subst (λ o. OfStat w board b stat program o r) (sym here) whole)

pub reprogrammed : (w : Contents) (board stat : ℕ) (program : List ℕ) (b : BoardData) (s : StatData) (number : ℕ) (changed : BoardData) (answer : Result Contents ReprogramError)
    → slice_get w.boards board ≡ Some b → slice_get b.stats stat ≡ Some s → number ≡ board
    → changed ≡ board_with (owner_of stat s.code) program b
    → MatchResult answer (λ v. Fits (world_with w number changed) (Ok v)) (λ e. (e ≡ Memory) ⊎ Fits (world_with w number changed) (Err e))
    → MatchResult answer (λ v. IsReprogrammed w board stat program (Ok v)) (λ e. (e ≡ Memory) ⊎ IsReprogrammed w board stat program (Err e))
reprogrammed w board stat program b s number changed (Ok v) at here same is fit =
    fits w board stat program b s number changed (Ok v) at here same is fit
reprogrammed w board stat program b s number changed (Err e) at here same is fit = elim fit [
  | inl lack ↦ inl lack
  | inr why ↦ inr (fits w board stat program b s number changed (Err e) at here same is why)
]

-- where the stat is there, memory may be wanted
pub lacks_there : {X : Type 0} (w : Contents) (board stat : ℕ) (b : BoardData) (s : StatData) (answer : Result X ReprogramError)
    → slice_get w.boards board ≡ Some b → slice_get b.stats stat ≡ Some s → IfErr answer (λ e. e ≡ Memory → HasStat w board stat)
lacks_there w board stat b s (Ok x) at here = tt
lacks_there w board stat b s (Err e) at here = λ _. (b, s, at, here)
