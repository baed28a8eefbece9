-- The texts that an edit makes of an empty document.
use Rattle.std.proofs.Common.{◌≡◌, ◌<◌, ◌^◌, ℕ, ◌+◌, Bool, true, false, cond, List, [], ◌∷◌, ◌++◌, length, filter_map, Result, Ok, Err, refl, ap, sym, subst, arith}
use Rattle.std.specs.List.{AllByRecursion}
use Rattle.zed_types.specs.declared.stamp.Stamp.{Stamp}
use Rattle.zed_types.specs.declared.tile.Tile.{Tile}
use Rattle.zed_types.specs.Text.{run_from}
use Rattle.zed_types.proofs.StampOrder.{same_stamp-true}
use Rattle.zed_types.proofs.Facts.{all_joined}
use Rattle.zed_world.specs.Contents.{Contents}
use Rattle.zed_world.specs.Reading.{world_at}
use Rattle.zed_world.specs.Normal.{IsNormalCode, AreNormalStats, IsNormalBoard}
use Rattle.zed_world.specs.Laws.{ReadIsNormal}
use Rattle.zed_world.specs.declared.error.WorldError.{WorldError}
use Rattle.zed_world.specs.declared.board.BoardData.{BoardData}
use Rattle.zed_world.specs.declared.stat.StatData.{StatData}
use Rattle.zed_world.specs.declared.stat.Code.{Code}
use Rattle.zed_world.specs.declared.stat.Code.TheVariants as code
use Rattle.zed_op.specs.declared.op.Op.{Op}
use Rattle.zed_op.specs.declared.op.Op.TheVariants.{Genesis, TextAdd}
use Rattle.zed_op.specs.declared.op.Edit.{Edit}
use Rattle.zed_op.specs.Fit.{Fits, is_own_stamp}
use Rattle.zed_edit.specs.declared.plain.Plain.{Plain}
use Rattle.zed_edit.specs.Document.{empty_document}
use Rattle.zed_edit.specs.Genesis.{own_program, programs_of, texts_from as texts_numbered}
use Rattle.zed_edit.specs.Replay.{can, do_edit, hold, open_world, step}
use Rattle.zed_laws.proofs.TakenAlone.{good_own}
use Rattle.zed_laws.specs.Making.{texts_from, made_texts}
use Rattle.zed_types.specs.Stamp.{genesis_stamp}
use Rattle.zed_texts.specs.Texts.{bytes_of, IsOpened}

-- ---- which they are

opened : (s : Stamp) (r : Result Contents WorldError) → (open_world s r empty_document).texts ≡ texts_from s r
opened s (Ok w) = refl
opened s (Err e) = refl

held-none : (b : Bool) (p q : Plain) → p.texts ≡ [] → q.texts ≡ [] → (cond b p q).texts ≡ []
held-none true p q h k = h
held-none false p q h k = k

abbrev edit_of : Stamp → Op → Edit
edit_of s op = record { stamp = s; op = op }

op-made : (s : Stamp) (op : Op) → (step empty_document (edit_of s op)).texts ≡ made_texts s op
op-made s (Genesis bytes) = opened s (world_at bytes)
op-made s TextAdd = refl
op-made s op =
    held-none (can empty_document (edit_of s op)) (do_edit empty_document (edit_of s op)) (hold empty_document (edit_of s op)) refl refl

pub texts-made : (e : Edit) → (step empty_document e).texts ≡ made_texts e.stamp e.op
texts-made e = op-made e.stamp e.op

-- ---- their bytes

own-bytes : (s : Stamp) (n : ℕ) (bytes : List ℕ) → bytes_of (run_from s n bytes) ≡ bytes
own-bytes s n [] = refl
own-bytes s n (b ∷ bytes) = ap (λ bs. b ∷ bs) (own-bytes s (n + 1) bytes)

run-length : (s : Stamp) (n : ℕ) (bytes : List ℕ) → length (run_from s n bytes) ≡ length bytes
run-length s n [] = refl
run-length s n (b ∷ bytes) = let k = run-length s (n + 1) bytes in omega arith

-- so few bytes that a text of the world may have them
abbrev AreShort : List (List ℕ) → Type 0
AreShort bs = AllByRecursion (λ b. length b < 2 ^ 15) bs

own-short : (s : StatData) (ss : List StatData) (c : Code) (lower : List StatData) → s.code ≡ c → IsNormalCode lower c
    → AreShort (filter_map own_program ss)
    → AreShort (filter_map own_program (s ∷ ss))
own-short s ss code.None lower e k a = rw e a
own-short s ss (code.Own bytes) lower e k a = rw e (k.1, a)
own-short s ss (code.Same n) lower e k a = rw e a

stats-short : (boards stats : ℕ) (tiles : List Tile) (lower ss : List StatData) → AreNormalStats boards stats tiles lower ss
    → AreShort (filter_map own_program ss)
stats-short boards stats tiles lower [] a = tt
stats-short boards stats tiles lower (s ∷ ss) a =
    own-short s ss s.code lower refl a.0.code (stats-short boards stats tiles (lower ++ s ∷ []) ss a.1)

boards-short : (boards : ℕ) (bs : List BoardData) → AllByRecursion (IsNormalBoard boards) bs → AreShort (programs_of bs)
boards-short boards [] a = tt
boards-short boards (b ∷ bs) a =
    all_joined (λ (x : List ℕ). length x < 2 ^ 15) (filter_map own_program b.stats) (programs_of bs) (stats-short boards (length b.stats) b.tiles [] b.stats a.0.stats) (boards-short boards bs a.1)

all-opened : (n : ℕ) (programs : List (List ℕ)) → AreShort programs → AllByRecursion IsOpened (texts_numbered genesis_stamp n programs)
all-opened n [] a = tt
all-opened n (b ∷ programs) a =
    let k = run-length genesis_stamp 0 b in
    let short : length b < 32768 = a.0 in
    ((ap (run_from genesis_stamp 0) (sym (own-bytes genesis_stamp 0 b)), omega arith), all-opened (n + 1) programs a.1)

from-opened : ReadIsNormal → (bytes : List ℕ) (r : Result Contents WorldError) → world_at bytes ≡ r
    → AllByRecursion IsOpened (texts_from genesis_stamp r)
from-opened normal bytes (Ok w) h = all-opened 0 (programs_of w.boards) (boards-short (length w.boards) w.boards (normal bytes w h).boards)
from-opened normal bytes (Err e) h = tt

op-opened : ReadIsNormal → (s : Stamp) (op : Op) → is_own_stamp op s ≡ true → AllByRecursion IsOpened (made_texts s op)
op-opened normal s (Genesis bytes) h =
    subst (λ q. AllByRecursion IsOpened (texts_from q (world_at bytes))) (sym (same_stamp-true s genesis_stamp h)) (from-opened normal bytes (world_at bytes) refl)
op-opened normal s TextAdd h = ((refl, omega arith), tt)
op-opened normal s _ h = tt

-- the texts that an edit makes which fits are such as a text of runs is made of
pub texts-opened : ReadIsNormal → (e : Edit) → Fits e → AllByRecursion IsOpened (made_texts e.stamp e.op)
texts-opened normal e fits = op-opened normal e.stamp e.op (good_own e fits)
