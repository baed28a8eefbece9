-- What is written where no board is over the limit, and where one is.
use Rattle.std.proofs.Common.{◌≡◌, ℕ, ◌+◌, Bool, true, false, cond, ltb, Option, Some, None, List, [], ◌∷◌, length, Result, Ok, Err, ap, sym, refl, ◌∙◌, inl, inr}
use Rattle.std.specs.Prelude.{IfOk, IfErr}
use Rattle.std.specs.Global.{Vec}
use Rattle.zed_world.specs.declared.error.WorldError.{WorldError}
use Rattle.zed_world.specs.declared.error.WorldError.TheVariants.{Memory, BoardOver}
use Rattle.zed_world.specs.declared.board.BoardData.{BoardData}
use Rattle.zed_world.specs.Contents.{Contents}
use Rattle.zed_world.specs.Reading.{Gives}
use Rattle.zed_world.specs.Writing.{body_text, world_text, first_over, unless_refused, written}

-- the first board over the limit is what writing refuses
pub over_written : (limit : ℕ) (w : Contents) (e : WorldError) → first_over limit 0 w.boards ≡ Some e → written limit w ≡ Err e
unfolding written
over_written limit w e h = ap (λ (o : Option WorldError). unless_refused o (world_text w)) h

within_written : (limit : ℕ) (w : Contents) → first_over limit 0 w.boards ≡ None → written limit w ≡ Ok (world_text w)
unfolding written
within_written limit w h = ap (λ (o : Option WorldError). unless_refused o (world_text w)) h

-- the text of a world without a board over the limit, or want of memory
pub text_written : (limit : ℕ) (w : Contents) (r : Result (Vec ℕ) WorldError) → first_over limit 0 w.boards ≡ None
    → IfOk r (λ v. v.items ≡ world_text w) → IfErr r (λ e. e ≡ Memory)
    → Gives (λ v. v.items) r (written limit w)
text_written limit w (Ok v) within h k = within_written limit w within ∙ ap (λ (t : List ℕ). Ok t) (sym h)
text_written limit w (Err e) within h k = inl k

-- what is told of a board over the limit isn't want of memory
pub over_is_told : (limit n : ℕ) (bs : List BoardData) (e : WorldError) → first_over limit n bs ≡ Some e → e ≡ Memory → ⊥
over_is_told limit n [] e h m = absurd cc
over_is_told limit n (b ∷ bs) e h m = either (over_is_told limit (n + 1) bs e) (ltb limit (length (body_text b))) h
  where
    either : (first_over limit (n + 1) bs ≡ Some e → e ≡ Memory → ⊥) → (t : Bool)
        → cond t (Some (BoardOver n (length (body_text b)))) (first_over limit (n + 1) bs) ≡ Some e
        → ⊥
    either below true k = cc
    either below false k = below k m
