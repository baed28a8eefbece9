-- One more file that is read.
use Rattle.std.proofs.Common.{ℕ, List, [], ◌∷◌, ◌++◌, append-nil, append_assoc, refl, subst, sym}
use Rattle.std.proofs.lemmas.List.{map-append}
use Rattle.zed_driver.specs.declared.input.Input.{Input}
use Rattle.zed_driver.specs.Hosts.{Hosts}
use Rattle.zed_driver.specs.Reads.{Read}
use Rattle.zed_driver.specs.Reading.{Answer, AsksEach, Follows, ReadEach, files_of}

one : List ℕ → Input → Answer
one name file = record { name = name; file = file }

each_then : {H : Type 0} (h : Hosts H) (rs : List Answer) (name : List ℕ) (file : Input) (old mid new : H)
    → ReadEach h rs old mid → Read h name file mid new → ReadEach h (rs ++ record { name = name; file = file } ∷ []) old new
each_then h [] name file old mid new is read = (new, subst (λ at. Read h name file at new) is read, refl)
each_then h (r ∷ rs) name file old mid new is read = (is.0, is.1, each_then h rs name file is.0 mid new is.2 read)

asks_then : (Wants : List Input → List ℕ → Type 0) (before : List Input) (rs : List Answer) (name : List ℕ) (file : Input)
    → AsksEach Wants before rs → Wants (before ++ files_of rs) name → AsksEach Wants before (rs ++ record { name = name; file = file } ∷ [])
asks_then Wants before [] name file is wants = (subst (λ all. Wants all name) (append-nil before) wants, tt)
asks_then Wants before (r ∷ rs) name file is wants =
    (is.0, asks_then Wants (before ++ r.file ∷ []) rs name file is.1 (subst (λ all. Wants all name) (sym (append_assoc before (r.file ∷ []) (files_of rs))) wants))

-- nothing was read yet
pub none : {H : Type 0} (h : Hosts H) (Wants : List Input → List ℕ → Type 0) (After : List Input → H → Type 0) (old : H)
    → After [] old → Follows h Wants old After
none h Wants After old is = ([], old, refl, tt, is)

-- one more was read
pub more : {H : Type 0} (h : Hosts H) (Wants : List Input → List ℕ → Type 0) (Before After : List Input → H → Type 0) (name : List ℕ) (file : Input) (old new : H)
    → Follows h Wants old Before
    → ((files : List Input) (mid : H) → Before files mid → Wants files name × Read h name file mid new × After (files ++ file ∷ []) new)
    → Follows h Wants old After
more h Wants Before After name file old new is step =
    let rs = is.0 in
    let all = step (files_of rs) is.1 is.4 in (
      rs ++ record { name = name; file = file } ∷ [],
      new,
      each_then h rs name file old is.1 new is.2 all.1,
      asks_then Wants [] rs name file is.3 all.0,
      subst (λ files. After files new) (sym (map-append (λ r. r.file) rs (record { name = name; file = file } ∷ []))) all.2,
    )

-- the same files, behind which something else is so
pub so : {H : Type 0} (h : Hosts H) (Wants : List Input → List ℕ → Type 0) (Before After : List Input → H → Type 0) (old : H)
    → Follows h Wants old Before → ((files : List Input) (mid : H) → Before files mid → After files mid) → Follows h Wants old After
so h Wants Before After old is step = (is.0, is.1, is.2, is.3, step (files_of is.0) is.1 is.4)
