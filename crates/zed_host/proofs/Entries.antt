-- A search in the entries of a host over memory.
use Rattle.std.proofs.Common.{◌≡◌, ◌∙◌, ◌<◌, ◌+◌, ℕ, Bool, cond, List, ◌∷◌, Option, Some, drop, get_or, length, ap, sym, suc, add-one, drop-cons, string_bytes}
use Rattle.std.specs.Str.{bytes_eq}
use Rattle.std.specs.Ordering.{nat_cmp}
use Rattle.std.specs.Cmp.Lexicographic.{slice_cmp}
use Rattle.std.specs.FinMap.{find}
use Rattle.std.proofs.lemmas.Map.Text.{is_eq-slice_cmp}
use Rattle.zed_host.specs.declared.memory.Entry.{Entry}
use Rattle.zed_host.specs.Memory.{entries_of}

abbrev pub find_from : List ℕ → List Entry → Option (List ℕ)
find_from name entries = find (slice_cmp nat_cmp) name (entries_of entries)

-- one entry more
pub find_step : (entries : List Entry) (i : ℕ) (e : Entry) (name : List ℕ) (b : Bool) → i < length entries → e ≡ get_or entries i e
    → bytes_eq name (string_bytes e.name) ≡ b
    → find_from name (drop i entries) ≡ cond b (Some e.bytes.items) (find_from name (drop (i + 1) entries))
find_step entries i e name b lt at test = rw add-one (
    ap (find_from name) (drop-cons entries i e lt)
    ∙ ap (λ x. find_from name (x ∷ drop (suc i) entries)) (sym at)
    ∙ ap (λ t. cond t (Some e.bytes.items) (find_from name (drop (suc i) entries))) (is_eq-slice_cmp name (string_bytes e.name) ∙ test))
