-- The limits of one board.
use Rattle.std.proofs.Common.{◌≡◌, ℕ, suc, ◌-◌, ◌<◌, ◌≤◌, true, false, ltb, List, [], ◌∷◌, ◌++◌, length, ap, refl, arith, Option, Some, None}
use Rattle.std.proofs.lemmas.Bool.{lt-ltb, le-ltb}
use Rattle.zed_types.specs.declared.limits.TheConstants.{READ_BODY_LIMIT}
use Rattle.zed_types.specs.declared.names.TextId.{TextId}
use Rattle.zed_world.specs.declared.board.BoardData.{BoardData}
use Rattle.zed_world.specs.Writing.{body_text}
use Rattle.zed_edit.specs.declared.plain.Board.{Board}
use Rattle.zed_edit.specs.declared.plain.Stat.{Stat}
use Rattle.zed_edit.specs.declared.plain.Plain.{Plain}
use Rattle.zed_export.specs.declared.error.ExportError.TheVariants.{StatsOver, BoardOver}
use Rattle.zed_export.specs.World.{exported_above}
use Rattle.zed_export.specs.Limits.{told, board_refusal}

-- each stat that isn't removed is exported
pub length_above : (p : Plain) (b : Board) (lower : List (Option TextId)) (ss : List Stat)
    → length (exported_above p b lower ss) ≡ length ss
length_above p b lower [] = refl
length_above p b lower (s ∷ ss) = ap suc (length_above p b (lower ++ s.fields.text ∷ []) ss)

pub stats_over : (limit n stats : ℕ) (b : BoardData) → stats ≡ length b.stats - 1 → 150 < stats
    → Some (StatsOver n stats) ≡ board_refusal limit n b
stats_over limit n stats b e lt =
    let h : ltb 150 (length b.stats - 1) ≡ true = lt-ltb _ _ (omega arith) in
    rw (h, e) refl

pub body_over : (limit n bytes : ℕ) (b : BoardData) → length b.stats - 1 ≤ 150 → limit ≤ READ_BODY_LIMIT
    → bytes ≡ told (length (body_text b)) → limit < bytes
    → Some (BoardOver n bytes) ≡ board_refusal limit n b
body_over limit n bytes b few low e lt =
    let h : ltb 150 (length b.stats - 1) ≡ false = le-ltb _ _ few in
    let k : ltb limit (length (body_text b)) ≡ true = lt-ltb _ _ (omega arith) in
    rw (h, k, e) refl

pub not_over : (limit n bytes : ℕ) (b : BoardData) → length b.stats - 1 ≤ 150 → limit ≤ READ_BODY_LIMIT
    → bytes ≡ told (length (body_text b)) → bytes ≤ limit
    → None ≡ board_refusal limit n b
not_over limit n bytes b few low e le =
    let h : ltb 150 (length b.stats - 1) ≡ false = le-ltb _ _ few in
    let k : ltb limit (length (body_text b)) ≡ false = le-ltb _ _ (omega arith) in
    rw (h, k) refl
