-- What each edit does to a text.
use Rattle.std.proofs.Common.{◌≡◌, Bool, true, false, cond, List, [], ◌∷◌, Option, Some, None, Result, Ok, Err, refl, ◌∙◌, arith}
use Rattle.std.specs.List.{find}
use Rattle.std.specs.Option.{option_or}
use Rattle.std.proofs.lemmas.List.Folds.{find-append}
use Rattle.zed_types.specs.declared.stamp.Stamp.{Stamp}
use Rattle.zed_types.specs.declared.names.TextId.{TextId}
use Rattle.zed_types.specs.declared.text.TextByte.{TextByte}
use Rattle.zed_types.specs.Names.{text_of, same_text}
use Rattle.zed_types.specs.Text.{run_from, put_after, kill}
use Rattle.zed_world.specs.Contents.{Contents}
use Rattle.zed_world.specs.Reading.{world_at}
use Rattle.zed_world.specs.declared.error.WorldError.{WorldError}
use Rattle.zed_op.specs.declared.op.Op.{Op}
use Rattle.zed_op.specs.declared.op.Op.TheVariants.{Genesis, TextAdd, TextInsert, TextDelete}
use Rattle.zed_edit.specs.declared.plain.Text.{Text}
use Rattle.zed_edit.specs.declared.plain.Plain.{Plain as Document}
use Rattle.zed_edit.specs.Document.{change_such, change_elements, find_text, change_text}
use Rattle.zed_edit.specs.Genesis.{opened_texts}
use Rattle.zed_edit.specs.Replay.{open_world, do_op}
use Rattle.zed_types.proofs.StampOrder.{same_text-alike, same_text-apart}

abbrev pub map_option : {X : Type 0} → (X → X) → Option X → Option X
map_option f None = None
map_option f (Some x) = Some (f x)

module _ {X : Type 0} (q p : X → Bool) (f : X → X) (kept : (x : X) → q (f x) ≡ q x) where
  -- the test of the change is that of the look-up
  pub find-change_same : ((x : X) → p x ≡ q x) → (xs : List X) → find q (change_such p f xs) ≡ map_option f (find q xs)
  find-change_same same [] = refl
  find-change_same same (x ∷ xs) = go (find-change_same same xs) (q x) refl
    where
      go : find q (change_such p f xs) ≡ map_option f (find q xs) → (b : Bool) → q x ≡ b
          → find q (change_such p f (x ∷ xs)) ≡ map_option f (find q (x ∷ xs))
      go more true b = let px = same x ∙ b in let qf = kept x ∙ b in rw (px, b) (rw qf refl)
      go more false b = let px = same x ∙ b in rw (px, b) more

  -- what passes the one test does not pass the other
  pub find-change_apart : ((x : X) → q x ≡ true → p x ≡ false) → (xs : List X) → find q (change_such p f xs) ≡ find q xs
  find-change_apart apart [] = refl
  find-change_apart apart (x ∷ xs) = go (find-change_apart apart xs) (p x) refl (q x) refl
    where
      go : find q (change_such p f xs) ≡ find q xs → (b : Bool) → p x ≡ b → (c : Bool) → q x ≡ c
          → find q (change_such p f (x ∷ xs)) ≡ find q (x ∷ xs)
      go more true b true c = grind (arith, apart x)
      go more true b false c = let qf = kept x ∙ c in rw (b, c) (rw qf more)
      go more false b true c = rw (b, c)
      go more false b false c = rw (b, c) more

-- what an edit does to a text, if it is there
abbrev pub opened_step : Stamp → Result Contents WorldError → TextId → Option Text → Option Text
opened_step s (Err e) t o = o
opened_step s (Ok w) t o = option_or o (find_text t (opened_texts s w.boards))

abbrev pub text_step : Stamp → Op → TextId → Option Text → Option Text
text_step s (Genesis bytes) t o = opened_step s (world_at bytes) t o
text_step s TextAdd t o = option_or o (find_text t (record { id = text_of s 0; elements = [] } ∷ []))
text_step s (TextInsert u after bytes) t o =
    cond (same_text u t) (map_option (change_elements (put_after after (run_from s 0 bytes))) o) o
text_step s (TextDelete u r) t o = cond (same_text u t) (map_option (change_elements (kill r)) o) o
text_step s _ t o = o

find_text-change_text : (t u : TextId) (f : List TextByte → List TextByte) (p : Document)
    → find_text t (change_text u f p).texts
    ≡ cond (same_text u t) (map_option (change_elements f) (find_text t p.texts)) (find_text t p.texts)
find_text-change_text t u f p = go (same_text u t) refl
  where
    go : (b : Bool) → same_text u t ≡ b
        → find_text t (change_text u f p).texts
        ≡ cond (same_text u t) (map_option (change_elements f) (find_text t p.texts)) (find_text t p.texts)
    go true b = rw b (find-change_same (λ x. same_text x.id t) (λ x. same_text x.id u) (change_elements f) (λ x. refl) (λ x. same_text-alike u t x.id b) p.texts)
    go false b = rw b (find-change_apart (λ x. same_text x.id t) (λ x. same_text x.id u) (change_elements f) (λ x. refl) (λ x e. same_text-apart u t x.id b e) p.texts)

find_text-opened : (t : TextId) (s : Stamp) (r : Result Contents WorldError) (p : Document)
    → find_text t (open_world s r p).texts ≡ opened_step s r t (find_text t p.texts)
find_text-opened t s (Err e) p = refl
find_text-opened t s (Ok w) p = find-append (λ x. same_text x.id t) p.texts (opened_texts s w.boards)

-- of each edit
pub find_text-do_op : (t : TextId) (s : Stamp) (op : Op) (p : Document)
    → find_text t (do_op s op p).texts ≡ text_step s op t (find_text t p.texts)
find_text-do_op t s (Genesis bytes) p = find_text-opened t s (world_at bytes) p
find_text-do_op t s TextAdd p = find-append (λ x. same_text x.id t) p.texts (record { id = text_of s 0; elements = [] } ∷ [])
find_text-do_op t s (TextInsert u after bytes) p = find_text-change_text t u (put_after after (run_from s 0 bytes)) p
find_text-do_op t s (TextDelete u r) p = find_text-change_text t u (kill r) p
find_text-do_op t s _ p = refl
