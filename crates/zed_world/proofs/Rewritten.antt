-- What is written is canonical.
use Rattle.std.proofs.Common.{◌≡◌, ◌↔◌, ℕ, ◌+◌, ◌≤◌, ltb, true, false, Option, Some, None, List, [], ◌∷◌, length, append-nil, Result, Ok, Err, refl, ap, sym, subst, ◌∙◌}
use Rattle.std.specs.Prelude.{IfOk}
use Rattle.std.specs.Global.{Vec}
use Rattle.std.specs.List.{AllByRecursion}
use Rattle.std.proofs.lemmas.Bool.{le-ltb}
use Rattle.std.proofs.lemmas.Slice.Eq.{bytes_eq-Decides}
use Rattle.zed_world.specs.declared.error.WorldError.{WorldError}
use Rattle.zed_world.specs.declared.board.BoardData.{BoardData}
use Rattle.zed_world.specs.Contents.{Contents}
use Rattle.zed_world.specs.Reading.{Gives, world_at}
use Rattle.zed_world.specs.Writing.{body_text, world_text, first_over, unless_refused, written}
use Rattle.zed_world.specs.Normal.{HasNormalParts, HasShortBody}
use Rattle.zed_world.specs.Canonical.{IsCanonical, is_text_of, is_rewritten, is_canonical}
use Rattle.zed_world.proofs.WorldAgain.{short_within}
use Rattle.zed_world.specs.Laws.{WrittenIsRead}

none_over : (n : ℕ) (bs : List BoardData) → AllByRecursion HasShortBody bs → first_over 32767 n bs ≡ None
none_over n [] h = refl
none_over n (b ∷ bs) h =
    let test : ltb 32767 (length (body_text b)) ≡ false = le-ltb _ _ h.0 in
    rw test (none_over (n + 1) bs h.1)

pub text_canonical : WrittenIsRead → (w : Contents) → HasNormalParts w → AllByRecursion HasShortBody w.boards → IsCanonical (world_text w)
unfolding written
text_canonical law w n short = record {
  world = w;
  read = ap world_at (sym (append-nil (world_text w))) ∙ law w [] n short;
  rewritten = ap (λ (o : Option WorldError). unless_refused o (world_text w)) (none_over 0 w.boards short);
}

canonical_of : WrittenIsRead → (limit : ℕ) (w : Contents) (text : List ℕ) → limit ≤ 32767 → HasNormalParts w → written limit w ≡ Ok text
    → IsCanonical text
unfolding written
canonical_of law limit w text le n h = either (first_over limit 0 w.boards) refl h
  where
    either : (o : Option WorldError) → first_over limit 0 w.boards ≡ o → unless_refused o (world_text w) ≡ Ok text → IsCanonical text
    either (Some e) p q = absurd cc
    either None p q =
        let same : world_text w ≡ text = cc in
        subst (λ (t : List ℕ). IsCanonical t) same (text_canonical law w n (short_within limit 0 w.boards le p))

pub written_canonical : WrittenIsRead → (limit : ℕ) (w : Contents) (r : Result (Vec ℕ) WorldError) → limit ≤ 32767 → HasNormalParts w
    → Gives (λ v. v.items) r (written limit w)
    → IfOk r (λ v. IsCanonical v.items)
written_canonical law limit w (Ok v) le n h = canonical_of law limit w v.items le n h
written_canonical law limit w (Err e) le n h = tt

-- ---- the test

rewritten : (bytes : List ℕ) (w : Contents) (r : Result (List ℕ) WorldError) → world_at bytes ≡ Ok w → written 32767 w ≡ r
    → is_text_of bytes r ≡ true
    → IsCanonical bytes
rewritten bytes w (Ok text) p q h =
    let same : bytes ≡ text = (bytes_eq-Decides bytes text).0 h in
    record { world = w; read = p; rewritten = q ∙ ap Ok (sym same) }
rewritten bytes w (Err e) p q h = absurd cc

tested_canonical : (bytes : List ℕ) (r : Result Contents WorldError) → world_at bytes ≡ r → is_rewritten bytes r ≡ true → IsCanonical bytes
tested_canonical bytes (Ok w) p k = rewritten bytes w (written 32767 w) p refl k
tested_canonical bytes (Err e) p k = absurd cc

pub canonical_tested : (bytes : List ℕ) → (is_canonical bytes ≡ true) ↔ IsCanonical bytes
unfolding is_canonical
canonical_tested bytes =
    (λ h. tested_canonical bytes (world_at bytes) refl h, λ h. ap (is_rewritten bytes) h.read ∙ ap (is_text_of bytes) h.rewritten ∙ (bytes_eq-Decides bytes bytes).1 refl)
