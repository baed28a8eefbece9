-- The text of a stat, sought board by board; and the name of a byte.
use Rattle.std.proofs.Common.{◌≡◌, ◌∙◌, ◌<◌, ◌+◌, ℕ, suc, List, ◌++◌, filter, length, drop, get_or, slice_get, Option, Some, None, refl, ap, drop-cons, add-one}
use Rattle.std.specs.List.{find, flat_map}
use Rattle.std.specs.Option.{option_map, option_or}
use Rattle.std.proofs.lemmas.List.Folds.{find-append}
use Rattle.std.proofs.lemmas.Option.{slice_get-map}
use Rattle.zed_types.specs.declared.names.StatId.{StatId}
use Rattle.zed_types.specs.declared.names.TextId.{TextId}
use Rattle.zed_types.specs.declared.text.TextByte.{TextByte}
use Rattle.zed_types.specs.Names.{same_stat}
use Rattle.zed_edit.specs.declared.plain.Board.{Board}
use Rattle.zed_edit.specs.declared.plain.Stat.{Stat}
use Rattle.zed_code.specs.Text.{alive_names}

-- the text of a stat among stats
abbrev pub text_in : StatId → List Stat → Option (Option TextId)
text_in s xs = option_map (λ x. x.fields.text) (find (λ x. same_stat x.id s) xs)

mapped-or : {X Y : Type 0} (f : X → Y) (o p : Option X) → option_map f (option_or o p) ≡ option_or (option_map f o) (option_map f p)
mapped-or f None p = refl
mapped-or f (Some x) p = refl

text-append : (s : StatId) (xs ys : List Stat) → text_in s (xs ++ ys) ≡ option_or (text_in s xs) (text_in s ys)
text-append s xs ys =
    let q = λ (x : Stat). same_stat x.id s in
    let f = λ (x : Stat). x.fields.text in
    ap (option_map f) (find-append q xs ys) ∙ mapped-or f (find q xs) (find q ys)

-- a stat that is on board i
pub text_here : (s : StatId) (bs : List Board) (i : ℕ) (d : Board) (t : Option TextId) → i < length bs
    → text_in s (get_or bs i d).stats ≡ Some t
    → text_in s (flat_map (λ b. b.stats) (drop i bs)) ≡ Some t
text_here s bs i d t l h =
    rw (drop-cons bs i d l) (text-append s (get_or bs i d).stats (flat_map (λ b. b.stats) (drop (suc i) bs)) ∙ ap (λ o. option_or o (text_in s (flat_map (λ b. b.stats) (drop (suc i) bs)))) h)

-- a stat that is not on board i is on a later one, or on none
pub text_further : (s : StatId) (bs : List Board) (i : ℕ) (d : Board) → i < length bs → text_in s (get_or bs i d).stats ≡ None
    → text_in s (flat_map (λ b. b.stats) (drop i bs)) ≡ text_in s (flat_map (λ b. b.stats) (drop (i + 1) bs))
text_further s bs i d l h =
    rw (drop-cons bs i d l, add-one) (text-append s (get_or bs i d).stats (flat_map (λ b. b.stats) (drop (suc i) bs)) ∙ ap (λ o. option_or o (text_in s (flat_map (λ b. b.stats) (drop (suc i) bs)))) h)

-- the name of a byte that is alive
pub name_there : (xs : List TextByte) (k : ℕ)
    → slice_get (alive_names xs) k ≡ option_map (λ x. x.id) (slice_get (filter (λ x. x.alive) xs) k)
name_there xs k = slice_get-map (λ (x : TextByte). x.id) (filter (λ x. x.alive) xs) k
