-- A stat that was written is read again.
use Rattle.std.proofs.Common.{◌≡◌, ℕ, zero, suc, ℤ, ◌≤◌, ltb, true, false, List, [], ◌∷◌, ◌++◌, length, take, drop, Option, Result, Ok, refl, ap, ◌∙◌, length-append, arith}
use Rattle.std.proofs.lemmas.Bool.{lt-ltb, le-ltb}
use Rattle.std.proofs.lemmas.List.{take_at, drop_at}
use Rattle.std.proofs.lemmas.Option.{slice_get_within}
use Rattle.zed_types.specs.declared.tile.Tile.{Tile}
use Rattle.zed_world.specs.declared.error.WorldError.{WorldError}
use Rattle.zed_world.specs.declared.stat.Code.{Code}
use Rattle.zed_world.specs.declared.stat.Code.TheVariants as code
use Rattle.zed_world.specs.declared.stat.StatData.{StatData}
use Rattle.zed_world.specs.Fields.{integer, integer_at, zeros, number_or_none, stat_integer}
use Rattle.zed_world.specs.Offsets.{is_passage_at, stat_with}
use Rattle.zed_world.specs.Reading.{code_at, stat_at}
use Rattle.zed_world.specs.Writing.{code_length, code_text, stat_text}
use Rattle.zed_world.specs.Normal.{IsNormalCode, IsNormalStat}
use Rattle.zed_world.proofs.FieldsAgain.{integer_again, number_fits, number_again, passage_again}
use Rattle.zed_world.proofs.Writable.{code_short}

code_again : (done : List StatData) (c : Code) (rest : List ℕ) → IsNormalCode done c
    → code_at done (code_length c) (code_text c ++ rest) ≡ Ok (c, rest)
unfolding code_at
code_again done code.None rest h = refl
code_again done (code.Own []) rest h = absurd (omega (arith, h.0))
code_again done (code.Own (b ∷ bs)) rest h =
    let own : List ℕ = b ∷ bs in
    let long : ltb (length (own ++ rest)) (length own) ≡ false = le-ltb _ _ (omega (arith, length-append own rest)) in
    let program : List ℕ → List ℕ → Result (Code × List ℕ) WorldError = λ x y. Ok (code.Own x, y) in
    let parts : program (take (length own) (own ++ rest)) (drop (length own) (own ++ rest)) ≡ program own rest =
    rw (take_at own rest (length own) refl, drop_at own rest (length own) refl) refl in
    rw long parts
code_again done (code.Same zero) rest h = absurd (omega (arith, h.0))
code_again done (code.Same (suc n)) rest h =
    let lower : ltb (suc n) (length done) ≡ true = lt-ltb _ _ (slice_get_within done (suc n) h.1 h.3) in
    rw (lower, h.3, h.4) refl

-- what is read of so many bytes
read_is : (boards stats : ℕ) (tiles : List Tile) (done : List StatData) (bytes : List ℕ) (c : Code) (after : List ℕ) → 33 ≤ length bytes
    → code_at done (integer_at bytes 23) (drop 33 bytes) ≡ Ok (c, after)
    → stat_at boards stats tiles done bytes ≡ Ok (stat_with boards stats tiles bytes c, after)
unfolding stat_at
read_is boards stats tiles done bytes c after long e =
    let test : ltb (length bytes) 33 ≡ false = le-ltb _ _ long in
    rw (test, e) refl

built : StatData → ℤ → ℤ → ℤ → ℕ → Option ℕ → Option ℕ → ℤ → StatData
built s step_x step_y cycle p3 follower leader position =
    record { x = s.x; y = s.y; step_x = step_x; step_y = step_y; cycle = cycle; p1 = s.p1; p2 = s.p2; p3 = p3; follower = follower; leader = leader; under = s.under; position = position; code = s.code }

built_is : (s : StatData) (step_x step_y cycle : ℤ) (p3 : ℕ) (follower leader : Option ℕ) (position : ℤ) → step_x ≡ s.step_x
    → step_y ≡ s.step_y → cycle ≡ s.cycle → p3 ≡ s.p3 → follower ≡ s.follower → leader ≡ s.leader → position ≡ s.position
    → built s step_x step_y cycle p3 follower leader position ≡ s
unfolding built
built_is s step_x step_y cycle p3 follower leader position a b c d e f g = rw (a, b, c, d, e, f, g) refl

fields_again : (boards stats : ℕ) (tiles : List Tile) (lower : List StatData) (s : StatData) (rest : List ℕ) → stats ≤ 151
    → IsNormalStat boards stats tiles lower s
    → stat_with boards stats tiles (stat_text s ++ rest) s.code ≡ s
unfolding stat_with stat_text integer integer_at zeros built
fields_again boards stats tiles lower s rest le n =
    built_is s _ _ _ _ _ _ _ (integer_again s.step_x [] n.step_x) (integer_again s.step_y [] n.step_y) (integer_again s.cycle [] n.cycle)
    (passage_again (is_passage_at tiles s.x s.y) boards s.p3 n.passage)
    (ap (stat_integer stats) (integer_again (number_or_none s.follower) [] (number_fits s.follower stats le n.follower)) ∙ number_again s.follower stats n.follower)
    (ap (stat_integer stats) (integer_again (number_or_none s.leader) [] (number_fits s.leader stats le n.leader)) ∙ number_again s.leader stats n.leader)
    (integer_again s.position [] n.position)

length_there : (s : StatData) (rest : List ℕ) → integer_at (stat_text s ++ rest) 23 ≡ integer_at (integer (code_length s.code) ++ []) 0
unfolding stat_text integer integer_at zeros
length_there s rest = refl

code_there : (s : StatData) (rest : List ℕ) → drop 33 (stat_text s ++ rest) ≡ code_text s.code ++ rest
unfolding stat_text integer zeros
code_there s rest = refl

long_enough : (s : StatData) (rest : List ℕ) → 33 ≤ length (stat_text s ++ rest)
unfolding stat_text integer zeros
long_enough s rest = omega arith

pub stat_again : (boards stats : ℕ) (tiles : List Tile) (lower : List StatData) (s : StatData) (rest : List ℕ) → stats ≤ 151
    → length lower ≤ 151 → IsNormalStat boards stats tiles lower s
    → stat_at boards stats tiles lower (stat_text s ++ rest) ≡ Ok (s, rest)
stat_again boards stats tiles lower s rest le few n =
    let bytes = stat_text s ++ rest in
    let len : integer_at bytes 23 ≡ code_length s.code =
    length_there s rest ∙ integer_again (code_length s.code) [] (code_short lower s.code n.code few) in
    let program : code_at lower (integer_at bytes 23) (drop 33 bytes) ≡ Ok (s.code, rest) =
    rw (len, code_there s rest) (code_again lower s.code rest n.code) in
    read_is boards stats tiles lower bytes s.code rest (long_enough s rest) program ∙ ap (λ (x : StatData). Ok (x, rest)) (fields_again boards stats tiles lower s rest le n)
