-- The messages of a playtest.
use Rattle.std.proofs.Common.{◌≡◌, ◌+◌, ◌++◌, ℕ, List, ◌∷◌, arith, drop, slice_get, Some, suc, append_assoc, sym, ap, ◌∙◌}
use Rattle.std.specs.List.{flat_map}
use Rattle.std.proofs.Math.Seq.{drop-cons}
use Rattle.std.proofs.lemmas.Option.{get_or_from_slice_get, slice_get_within}
use Rattle.cmd_show.specs.Told.{message_line}

-- the lines from a message on are its own and those behind it
pub next_message : (ms : List (List ℕ)) (i : ℕ) (m : List ℕ) → slice_get ms i ≡ Some m
    → flat_map message_line (drop i ms) ≡ message_line m ++ flat_map message_line (drop (i + 1) ms)
next_message ms i m is =
    let here : drop i ms ≡ m ∷ drop (suc i) ms =
    drop-cons ms i m (slice_get_within ms i m is) ∙ ap (λ x. x ∷ drop (suc i) ms) (get_or_from_slice_get ms i m m is) in
    let same : suc i ≡ i + 1 = omega arith in
    ap (flat_map message_line) here ∙ ap (λ n. message_line m ++ flat_map message_line (drop n ms)) same

-- and so with what was told before
pub told_more : (ms : List (List ℕ)) (i : ℕ) (m text : List ℕ) → slice_get ms i ≡ Some m
    → (text ++ message_line m) ++ flat_map message_line (drop (i + 1) ms) ≡ text ++ flat_map message_line (drop i ms)
told_more ms i m text is =
    append_assoc text (message_line m) (flat_map message_line (drop (i + 1) ms)) ∙ ap (λ l. text ++ l) (sym (next_message ms i m is))
