-- Where a wish may want memory.
use Rattle.std.proofs.Common.{◌≡◌, ◌∙◌, ◌<◌, ℕ, length, Option, Some, None, Ok, Err, ap, subst, sym}
use mathlib.Core.Logic.{◌⊎◌, inl, inr}
use Rattle.zed_types.specs.declared.names.BoardId.{BoardId}
use Rattle.zed_types.specs.declared.names.StatId.{StatId}
use Rattle.zed_edit.specs.declared.plain.Plain.{Plain}
use Rattle.zed_edit.specs.Replay.{replay}
use Rattle.zed_document.specs.declared.error.DocumentError.{DocumentError}
use Rattle.zed_document.specs.declared.error.DocumentError.TheVariants as document
use Rattle.zed_document.specs.Reading.{text_of}
use Rattle.zed_document.specs.Replica.{Replica}
use Rattle.zed_action.proofs.Wants.{IsCalm, done_calm, found_calm, then_calm, board_calm as number_calm, stat_calm as numbers_calm}
use Rattle.zed_set_words.specs.declared.wishes.BoardPlace.{BoardPlace}
use Rattle.zed_set_words.specs.declared.wishes.BoardPlace.TheVariants as board
use Rattle.zed_set_words.specs.declared.wishes.StatPlace.{StatPlace}
use Rattle.zed_set_words.specs.declared.wishes.StatPlace.TheVariants as stat
use Rattle.zed_set_words.specs.declared.wishes.WorldWish.{WorldWish}
use Rattle.zed_set_words.specs.declared.wishes.WorldWish.TheVariants as world_wish
use Rattle.zed_set_words.specs.declared.wishes.BoardWish.{BoardWish}
use Rattle.zed_set_words.specs.declared.wishes.BoardWish.TheVariants as board_wish
use Rattle.zed_set_words.specs.declared.wishes.P3Wish.{P3Wish}
use Rattle.zed_set_words.specs.declared.wishes.P3Wish.TheVariants as p3_wish
use Rattle.zed_set_words.specs.declared.wishes.StatWish.{StatWish}
use Rattle.zed_set_words.specs.declared.wishes.StatWish.TheVariants as stat_wish
use Rattle.zed_set_words.specs.declared.wishes.Wish.{Wish}
use Rattle.zed_set_words.specs.declared.wishes.Wish.TheVariants as wish
use Rattle.cmd_set.specs.declared.deed.Deed.{Deed}
use Rattle.cmd_set.specs.Deeds.{board_at, board_deed, deed_of, exit_at, header_of, kept_in, p3_of, shared_text, stat_at, stat_deed, stat_or_none}
use Rattle.cmd_set.specs.Granting.{AnyMayTake, DeedMayTake, WishMayTake}

board_calm : (p : Plain) (place : BoardPlace) → IsCalm (board_at p place)
board_calm p (board.Numbered n) = number_calm p n
board_calm p (board.Named b) = done_calm b

stat_calm : (p : Plain) (place : StatPlace) → IsCalm (stat_at p place)
stat_calm p (stat.Numbered b s) = numbers_calm p b s
stat_calm p (stat.Named s) = done_calm s

exit_calm : (p : Plain) (place : Option BoardPlace) → IsCalm (exit_at p place)
exit_calm p None = done_calm None
exit_calm p (Some place) = then_calm (board_at p place) _ (board_calm p place) (λ b. done_calm (Some b))

other_calm : (p : Plain) (place : Option StatPlace) → IsCalm (stat_or_none p place)
other_calm p None = done_calm None
other_calm p (Some place) = then_calm (stat_at p place) _ (stat_calm p place) (λ s. done_calm (Some s))

shared_calm : (p : Plain) (place : StatPlace) → IsCalm (shared_text p place)
shared_calm p place = then_calm (stat_at p place) _ (stat_calm p place) (λ s. found_calm (text_of p s))

-- ---- wishes

header_calm : (p : Plain) (w : WorldWish) → IsCalm (header_of p w)
header_calm p (world_wish.Number f n) = done_calm _
header_calm p (world_wish.Key k has) = done_calm _
header_calm p (world_wish.Saved is) = done_calm _
header_calm p (world_wish.CurrentBoard place) = then_calm (board_at p place) _ (board_calm p place) (λ b. done_calm _)
header_calm p (world_wish.Name s) = done_calm _
header_calm p (world_wish.Flag k s) = done_calm _

property_calm : (p : Plain) (b : BoardId) (w : BoardWish) → IsCalm (board_deed p b w)
property_calm p b (board_wish.Byte f n) = done_calm _
property_calm p b (board_wish.Flag f is) = done_calm _
property_calm p b (board_wish.TimeLimit n) = done_calm _
property_calm p b (board_wish.Rank n) = done_calm _
property_calm p b (board_wish.Exit side place) = then_calm (exit_at p place) _ (exit_calm p place) (λ to. done_calm _)
property_calm p b (board_wish.Text f s) = done_calm _
property_calm p b (board_wish.Start x y) = done_calm _

p3_calm : (p : Plain) (w : P3Wish) → IsCalm (p3_of p w)
p3_calm p (p3_wish.Byte n) = done_calm _
p3_calm p (p3_wish.Board place) = then_calm (board_at p place) _ (board_calm p place) (λ b. done_calm _)

field_calm : (p : Plain) (s : StatId) (w : StatWish) → IsCalm (stat_deed p s w)
field_calm p s (stat_wish.Byte f n) = done_calm _
field_calm p s (stat_wish.Number f n) = done_calm _
field_calm p s (stat_wish.P3 target) = then_calm (p3_of p target) _ (p3_calm p target) (λ t. done_calm _)
field_calm p s (stat_wish.Follower place) = then_calm (stat_or_none p place) _ (other_calm p place) (λ other. done_calm _)
field_calm p s (stat_wish.Leader place) = then_calm (stat_or_none p place) _ (other_calm p place) (λ other. done_calm _)
field_calm p s (stat_wish.Text t) = done_calm _
field_calm p s (stat_wish.Shares place) = then_calm (shared_text p place) _ (shared_calm p place) (λ t. done_calm _)
field_calm p s (stat_wish.At x y) = done_calm _

deed_calm : (p : Plain) (w : Wish) → IsCalm (deed_of p w)
deed_calm p (wish.World w) = then_calm (header_of p w) _ (header_calm p w) (λ setting. done_calm _)
deed_calm p (wish.Board place w) = then_calm (board_at p place) _ (board_calm p place) (λ b. property_calm p b w)
deed_calm p (wish.Stat place w) = then_calm (stat_at p place) _ (stat_calm p place) (λ s. field_calm p s w)

-- the things of a wish are found without memory
pub deed_wants : (d : Replica) (replica : ℕ) (w : Wish) (e : DocumentError) → e ≡ document.Memory
    → ((e ≡ document.Memory) × (0 < length (kept_in w))) ⊎ (deed_of (replay d.edits) w ≡ Err e) → WishMayTake d replica w
deed_wants d replica w e lack why = elim why [
  | inl keeps ↦ inl keeps.1
  | inr is ↦ absurd (deed_calm (replay d.edits) w (is ∙ ap (λ (z : DocumentError). Err z) lack))
]

-- and then it may take some by what it comes to
pub perform_wants : (d : Replica) (replica : ℕ) (w : Wish) (deed : Deed) → deed_of (replay d.edits) w ≡ Ok deed → DeedMayTake d replica deed
    → WishMayTake d replica w
perform_wants d replica w deed comes takes = inr (subst (AnyMayTake d replica) (sym comes) takes)
