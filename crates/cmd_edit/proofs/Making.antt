-- `new`, file by file.
use Rattle.zed_world.specs.declared.error.WorldError.{WorldError}
use Rattle.zed_driver.specs.declared.command.Stop.{Stop}
use Rattle.zed_driver.specs.declared.command.Stop.TheVariants.{Memory}
use Rattle.zed_driver.specs.declared.input.Input.{Input}
use Rattle.zed_driver.specs.declared.input.Input.TheVariants.{Bytes, Missing, Failed}
use Rattle.zed_driver.specs.Effects.{Effect, writes}
use Rattle.zed_refusal.specs.declared.reason.Reason.{Reason}
use Rattle.std.proofs.Common.{◌≡◌, ◌∙◌, ◌<◌, ℕ, true, false, List, [], ◌∷◌, ◌++◌, Option, Some, None, Result, Ok, Err, ap, arith, is_some, refl, sym, inl, inr}
use Rattle.std.specs.Global.{Vec}
use Rattle.std.specs.Prelude.{◌⊎◌, MatchOption, MatchResult, option_map}
use Rattle.zed_world.specs.Reading.{world_at}
use Rattle.zed_files.specs.Lines.{edits_line}
use Rattle.cmd_edit.specs.Fresh.{IsFirstWorld, MayLack, NewComes, NewStands, first_file, left_of, made_by, next_of, refused_as, rewritten, taken_from, writes_genesis}
use Rattle.cmd_edit.proofs.Lacking.{read_wants}

-- where it asks for one, none was read
pub none_read : (world : ℕ) (from : Option (List ℕ)) (files : List Input) (held : Option (List ℕ)) → NewStands world from files held
    → is_some (next_of from held) ≡ true → (files ≡ []) × (is_some from ≡ true)
none_read world from files (Some f) stands more = absurd (let no : false ≡ true = more in cc)
none_read world from [] None stands more = (refl, more)
none_read world from (i ∷ []) None stands more = absurd (let no = stands.1.2 in cc)
none_read world from (i ∷ j ∷ files) None stands more = absurd stands

-- and one is left
pub one_left : (from held : Option (List ℕ)) → is_some (next_of from held) ≡ true → 0 < left_of held
one_left from (Some f) more = absurd (let no : false ≡ true = more in cc)
one_left from None more = omega arith

-- the file that it was given
pub given_so : (world : ℕ) (from : Option (List ℕ)) (files : List Input) (i : Input) (held : Option (List ℕ)) (made : List ℕ) → NewStands world from files held
    → is_some (next_of from held) ≡ true → (bytes : List ℕ) × (taken_from i ≡ Ok bytes) × (made ≡ first_file world bytes)
    → NewStands world from (files ++ i ∷ []) (Some made)
given_so world from files i held made stands more is =
    let none = none_read world from files held stands more in
    rw none.0 (none.1, (is.0, is.1, ap (λ f. Some f) is.2))

pub refused_so : (out : List ℕ) (world : ℕ) (from name : Option (List ℕ)) (files : List Input) (i : Input) (held : Option (List ℕ)) (e : Stop Reason)
    → NewStands world from files held → is_some (next_of from held) ≡ true → ((e ≡ Memory) × MayLack (i ∷ [])) ⊎ (taken_from i ≡ Err e)
    → NewComes out world from name (files ++ i ∷ []) (Err e)
refused_so out world from name files i held e stands more why =
    let none = none_read world from files held stands more in
    rw none.0 (go from none.1)
  where
    told : (m : Result (List ℕ) (Stop Reason)) → m ≡ Err e → Err e ≡ writes_genesis out world m
    told (Ok bytes) is = absurd (cc)
    told (Err f) is = let same : f ≡ e = cc in ap (λ e. Err e) (sym same)

    go : (from : Option (List ℕ)) → is_some from ≡ true → NewComes out world from name (i ∷ []) (Err e)
    go None some = absurd (let bad : false ≡ true = some in cc)
    go (Some file) some = (
      taken_from i,
      refl,
      elim why [
        | inl lack ↦ inr (ap (λ e. Err e) lack.0, lack.1)
        | inr is ↦ inl (told (taken_from i) is)
      ],
    )

-- ---- what it comes to

-- an edit file is of the first world, by the files that were read
abbrev pub IsFirstFile : ℕ → Option (List ℕ) → Option (List ℕ) → List Input → List ℕ → Type 0
IsFirstFile world from name files file =
    (m : Result (List ℕ) (Stop Reason)) × IsFirstWorld from name files m × ((bytes : List ℕ) × (m ≡ Ok bytes) × (file ≡ first_file world bytes))

-- it is written
pub written_so : (out : List ℕ) (world : ℕ) (from name : Option (List ℕ)) (files : List Input) (file : List ℕ) (x : Effect) → IsFirstFile world from name files file
    → x ≡ writes out file (edits_line 1) → NewComes out world from name files (Ok x)
written_so out world from name files file x (m, first, (bytes, made, is)) effect =
    (m, first, inl (ap (λ x. Ok x) (effect ∙ ap (λ f. writes out f (edits_line 1)) is) ∙ ap (writes_genesis out world) (sym made)))

refused_not : (made : Result (List ℕ) WorldError) (bytes : List ℕ) → refused_as made ≡ Ok bytes → made ≡ Ok bytes
refused_not (Ok text) bytes is = let same : text ≡ bytes = cc in ap (λ x. Ok x) same
refused_not (Err e) bytes is = absurd (cc)

-- or memory is lacking for that
pub lack_so : (out : List ℕ) (world : ℕ) (from name : Option (List ℕ)) (files : List Input) (file : List ℕ) → IsFirstFile world from name files file
    → NewComes out world from name files (Err Memory)
lack_so out world from name files file (m, first, (bytes, made, is)) = (m, first, inr (refl, go from files first))
  where
    taken : (i : Input) → m ≡ taken_from i → MayLack (i ∷ [])
    taken (Bytes text) same = read_wants text bytes (refused_not (rewritten (world_at text)) bytes (sym same ∙ made))
    taken Missing same = absurd (cc)
    taken Failed same = absurd (cc)

    go : (from : Option (List ℕ)) (files : List Input) → IsFirstWorld from name files m → MayLack files
    go None [] first = tt
    go None (i ∷ files) first = absurd first
    go (Some f) [] first = absurd first
    go (Some f) (i ∷ []) first = taken i first
    go (Some f) (i ∷ j ∷ files) first = absurd first

-- the file that it holds, or makes
pub finished_so : (out : List ℕ) (world : ℕ) (from name : Option (List ℕ)) (files : List Input) (held : Option (Vec ℕ)) (result : Result (Vec ℕ) (Stop Reason))
    → NewStands world from files (option_map (λ f. f.items) held) → next_of from (option_map (λ f. f.items) held) ≡ None
    → MatchOption held
    (MatchResult result (λ file. (bytes : List ℕ) × (made_by name ≡ Ok bytes) × (file.items ≡ first_file world bytes)) (λ e. (e ≡ Memory) ⊎ (made_by name ≡ Err e)))
    (λ file. result ≡ Ok file)
    → MatchResult result (λ file. IsFirstFile world from name files file.items) (λ e. NewComes out world from name files (Err e))
finished_so out world from name [] (Some f) result stands none is = absurd (cc)
finished_so out world (Some file) name [] None result stands none is = absurd (cc)
finished_so out world None name [] None (Ok file) stands none is = (made_by name, refl, is)
finished_so out world None name [] None (Err e) stands none is = (
  made_by name,
  refl,
  elim is [
    | inl lack ↦ inr (ap (λ e. Err e) lack, tt)
    | inr refused ↦ inl (told (made_by name) refused)
  ],
)
  where
    told : (m : Result (List ℕ) (Stop Reason)) → m ≡ Err e → Err e ≡ writes_genesis out world m
    told (Ok bytes) is = absurd (cc)
    told (Err f) is = let same : f ≡ e = cc in ap (λ e. Err e) (sym same)
finished_so out world from name (i ∷ []) None result stands none is = absurd (let no = stands.1.2 in cc)
finished_so out world None name (i ∷ []) (Some f) result stands none is = absurd (let no : false ≡ true = stands.0 in cc)
finished_so out world (Some from) name (i ∷ []) (Some f) (Ok file) stands none is =
    let same : file ≡ f = cc in
    (taken_from i, refl, (stands.1.0, stands.1.1, ap (λ (f : Vec ℕ). f.items) same ∙ items f stands.1.0 stands.1.2))
  where
    items : (f : Vec ℕ) (bytes : List ℕ) → Some f.items ≡ Some (first_file world bytes) → f.items ≡ first_file world bytes
    items f bytes same = cc
finished_so out world (Some from) name (i ∷ []) (Some f) (Err e) stands none is = absurd (cc)
finished_so out world from name (i ∷ j ∷ files) held result stands none is = absurd stands
