-- Files as they were read.
use Rattle.std.proofs.Common.{◌≡◌, ◌∙◌, ℕ, List, [], ◌∷◌, Option, ap, map, refl, inl, inr}
use Rattle.zed_host.specs.HostContents.{AreRead, HostContents, IsRead, file_in}

-- what holds where the host failed holds where it may have failed
pub read_so : (p q : Type 0) (t : HostContents) (name : List ℕ) (read : Option (List ℕ)) → (p → q) → IsRead p t name read
    → IsRead q t name read
read_so p q t name read so is = elim is [ inl held ↦ inl held | inr failed ↦ inr (so failed.0, failed.1) ]

pub reads_so : (p q : Type 0) (t : HostContents) (names : List (List ℕ)) (reads : List (Option (List ℕ))) → (p → q)
    → AreRead p t names reads
    → AreRead q t names reads
reads_so p q t [] reads so are = are
reads_so p q t (name ∷ names) reads so are = (are.0, are.1, read_so p q t name are.0 so are.2, reads_so p q t names are.1 so are.3, are.4)

-- a host that doesn't fail gives the files that it holds
pub reads_are : (t : HostContents) (names : List (List ℕ)) (reads : List (Option (List ℕ))) → AreRead ⊥ t names reads
    → reads ≡ map (file_in t) names
reads_are t [] reads are = are
reads_are t (name ∷ names) reads are =
    elim are.2 [
      | inl held ↦ are.4 ∙ ap (λ read. read ∷ are.1) held ∙ ap (λ rest. file_in t name ∷ rest) (reads_are t names are.1 are.3)
      | inr failed ↦ absurd failed.0
    ]

-- files may be read as the host holds them
pub as_held : (failed : Type 0) (t : HostContents) (names : List (List ℕ)) → AreRead failed t names (map (file_in t) names)
as_held failed t [] = refl
as_held failed t (name ∷ names) = (file_in t name, map (file_in t) names, inl refl, as_held failed t names, refl)
