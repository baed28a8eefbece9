-- Programs that are shared.
use Rattle.std.proofs.Common.{◌≡◌, inl, inr, ℕ, zero, suc, ◌<◌, ◌^◌, true, List, [], ◌∷◌, ◌++◌, length, get_or, refl, sym, ap, ◌∙◌, arith, Option, Some, None}
use Rattle.std.specs.Prelude.{position, slice_get, option_map, IsSomeAnd}
use Rattle.zed_types.specs.declared.names.TextId.{TextId}
use Rattle.zed_world.specs.declared.stat.Code.TheVariants as code
use Rattle.zed_world.specs.declared.stat.StatData.{StatData}
use Rattle.zed_types.proofs.StampOrder.{same_text-true}
use Rattle.zed_world.specs.Writing.{code_text}
use Rattle.zed_world.specs.Normal.{IsNormalCode}
use Rattle.zed_edit.specs.declared.plain.Plain.{Plain}
use Rattle.zed_edit.specs.Document.{text}
use Rattle.zed_export.specs.World.{is_of, user_of, code_with, exported_code}
use Rattle.zed_export.specs.Fields.{IsOwned}
use Rattle.zed_export.proofs.Searching.{found_in_more, get_last}

pub owned_first : (p : Plain) → IsOwned p [] []
owned_first p t n e = absurd (cc)

above_0 : (o : Option ℕ) (n : ℕ) → option_map suc o ≡ Some n → (k : ℕ) × (o ≡ Some k) × (n ≡ suc k)
above_0 None n e = absurd (cc)
above_0 (Some k) n e = (k, refl, let h : suc k ≡ n = cc in sym h)

some_before : {X : Type 0} (P : X → Type 0) (xs ys : List X) (n : ℕ) → IsSomeAnd (slice_get xs n) P → IsSomeAnd (slice_get (xs ++ ys) n) P
some_before P [] ys n h = absurd h
some_before P (x ∷ xs) ys zero h = h
some_before P (x ∷ xs) ys (suc n) h = some_before P xs ys n h

-- the program of a stat that is there
pub owner_at : (P : StatData → Type 0) (xs : List StatData) (n : ℕ) (d : StatData) → n < length xs → IsSomeAnd (slice_get xs n) P
    → P (get_or xs n d)
owner_at P [] n d lt h = absurd h
owner_at P (x ∷ xs) zero d lt h = h
owner_at P (x ∷ xs) (suc n) d lt h = owner_at P xs n d (omega arith) h

-- a stat more
pub owned_more : (p : Plain) (lower : List (Option TextId)) (done : List StatData) (o : Option TextId) (x : StatData)
    → length done ≡ length lower → x.code ≡ exported_code p lower o → IsOwned p lower done
    → IsOwned p (lower ++ o ∷ []) (done ++ x ∷ [])
owned_more p [] done o x long is owned t n e = absurd (cc)
owned_more p (q ∷ rest) done o x long is owned t n e =
    let h = above_0 (position (is_of t) (rest ++ o ∷ [])) n e in
    elim (found_in_more (is_of t) rest o h.0 h.1) [
      | inl old ↦ some_before (λ s. s.code ≡ code_with None (text p t)) done (x ∷ []) n (owned t n (ap (option_map suc) old ∙ ap Some (sym h.2)))
      | inr new ↦
          let place : n ≡ length done = h.2 ∙ ap suc new.2 ∙ sym long in
          let there : slice_get (done ++ x ∷ []) n ≡ Some x = ap (slice_get (done ++ x ∷ [])) place ∙ get_last done x in
          rw there (is ∙ last o new.1 new.0)
    ]
  where
    last : (o : Option TextId) → is_of t o ≡ true → position (is_of t) rest ≡ None
        → exported_code p (q ∷ rest) o ≡ code_with None (text p t)
    last None h none = absurd (cc)
    last (Some u) h none =
        let same : u ≡ t = same_text-true u t h in
        ap (λ (v : TextId). exported_code p (q ∷ rest) (Some v)) same ∙ ap (λ (i : Option ℕ). code_with (option_map suc i) (text p t)) none

-- a stat that is there with a program of its own
own_found : (o : Option StatData) (bytes : List ℕ) → IsSomeAnd o (λ s. s.code ≡ code.Own bytes)
    → (owner : StatData) × (own : List ℕ) × (o ≡ Some owner) × (owner.code ≡ code.Own own)
own_found None bytes h = absurd h
own_found (Some s) bytes h = (s, bytes, refl, h)

code_case : (done : List StatData) (user : Option ℕ) (bytes : List ℕ)
    → ((n : ℕ) → user ≡ Some n → (0 < n) × IsSomeAnd (slice_get done n) (λ s. s.code ≡ code_with None bytes))
    → length (code_text (code_with user bytes)) < 2 ^ 15 → IsNormalCode done (code_with user bytes)
code_case done user [] owned short = tt
code_case done None (b ∷ bs) owned short = (omega arith, short)
code_case done (Some n) (b ∷ bs) owned short =
    let h = owned n refl in
    let f = own_found (slice_get done n) (b ∷ bs) h.1 in
    (h.0, f.0, f.1, f.2, f.3)

past_0 : (t : TextId) (lower : List (Option TextId)) (n : ℕ) → user_of t lower ≡ Some n → 0 < n
past_0 t [] n e = absurd (cc)
past_0 t (player ∷ others) n e = let h = above_0 (position (is_of t) others) n e in omega arith

pub code_normal : (p : Plain) (lower : List (Option TextId)) (done : List StatData) (o : Option TextId) → IsOwned p lower done
    → length (code_text (exported_code p lower o)) < 2 ^ 15
    → IsNormalCode done (exported_code p lower o)
code_normal p lower done None owned short = tt
code_normal p lower done (Some t) owned short = code_case done (user_of t lower) (text p t) (λ n e. (past_0 t lower n e, owned t n e)) short
