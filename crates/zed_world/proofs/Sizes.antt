-- How many bytes the parts of a body take.
use Rattle.std.proofs.Common.{◌<◌, zero, suc, take, get_or, ◌≡◌, ℕ, ℤ, pos, ◌+◌, ◌-◌, ◌≤◌, List, [], ◌∷◌, ◌++◌, length, ap, ◌∙◌, refl, length-append, arith}
use Rattle.std.specs.List.{flat_map}
use Rattle.std.proofs.lemmas.List.{length-replicate}
use Rattle.zed_runs.specs.Runs.{greedy}
use Rattle.zed_world.specs.Fields.{integer, flag, zeros, string, number_or_none}
use Rattle.zed_world.specs.Writing.{properties_text, code_length, code_text, parameters_text, stat_text, body_text}
use Rattle.zed_world.specs.declared.board.Properties.{Properties}
use Rattle.zed_world.specs.declared.board.BoardData.{BoardData}
use Rattle.zed_world.specs.declared.stat.StatData.{StatData}

-- a stat and its program
front_of : StatData → List ℕ
front_of s = (s.x ∷ s.y ∷ []) ++ integer s.step_x ++ integer s.step_y ++ integer s.cycle ++ parameters_text s ++ integer (number_or_none s.follower) ++ integer (number_or_none s.leader) ++ (s.under.element ∷ s.under.colour ∷ []) ++ zeros 4 ++ integer s.position ++ integer (code_length s.code) ++ zeros 8

length_front : (s : StatData) → length (front_of s) ≡ 33
unfolding front_of integer zeros
length_front s = refl

pub length_stat : (s : StatData) → length (stat_text s) ≡ 33 + length (code_text s.code)
unfolding stat_text front_of
length_stat s = length-append (front_of s) (code_text s.code) ∙ ap (λ (n : ℕ). n + length (code_text s.code)) (length_front s)

length_zeros : (n : ℕ) → length (zeros n) ≡ n
unfolding zeros
length_zeros n = let none : ℕ = 0 in length-replicate n none

length_integer : (z : ℤ) → length (integer z) ≡ 2
unfolding integer
length_integer z = refl

pub length_string : (field : ℕ) (text : List ℕ) → length text ≤ field → length (string field text) ≡ field + 1
unfolding string zeros
length_string field text le =
    let none : ℕ = 0 in
    omega (arith, length-append text (zeros (field - length text)), length-replicate (field - length text) none)

properties_front : Properties → List ℕ
properties_front p = (p.max_shots ∷ []) ++ flag p.dark ++ (p.north ∷ p.south ∷ p.west ∷ p.east ∷ []) ++ flag p.re_enter

pub length_properties : (p : Properties) → length p.message ≤ 58 → length (properties_text p) ≡ 86
unfolding properties_text properties_front
length_properties p le =
    let a = properties_front p in
    let m = string 58 p.message in
    let s = p.start_x ∷ p.start_y ∷ [] in
    let t = integer p.time_limit in
    let none : ℕ = 0 in
    let z : length (zeros 16) ≡ 16 = length_zeros 16 in
    omega (arith, length-append (((a ++ m) ++ s) ++ t) (zeros 16), length-append ((a ++ m) ++ s) t, length-append (a ++ m) s, length-append a m, length_string 58 p.message le, length_integer p.time_limit)

pub length_body : (b : BoardData) → length b.name ≤ 50 → length b.properties.message ≤ 58
    → length (body_text b) ≡ 139 + length (greedy b.tiles) + length (flat_map stat_text b.stats)
unfolding body_text
length_body b name message =
    let s = string 50 b.name in
    let g = greedy b.tiles in
    let p = properties_text b.properties in
    let n = integer (pos (length b.stats - 1)) in
    let t = flat_map stat_text b.stats in
    omega (arith, length-append (((s ++ g) ++ p) ++ n) t, length-append ((s ++ g) ++ p) n, length-append (s ++ g) p, length-append s g, length_string 50 b.name name, length_properties b.properties message, length_integer (pos (length b.stats - 1)))

-- one more stat in a count
pub stats_more : (ss : List StatData) (i : ℕ) (s : StatData) → i < length ss → s ≡ get_or ss i s
    → length (flat_map stat_text (take (suc i) ss)) ≡ length (flat_map stat_text (take i ss)) + (33 + length (code_text s.code))
stats_more [] i s lt e = absurd (omega arith)
stats_more (x ∷ xs) zero s lt e =
    let one = length_stat x in
    let same : length (code_text s.code) ≡ length (code_text x.code) = ap (λ (t : StatData). length (code_text t.code)) e in
    omega (arith, length-append (stat_text x) [])
stats_more (x ∷ xs) (suc i) s lt e =
    omega (arith, length-append (stat_text x) (flat_map stat_text (take (suc i) xs)), length-append (stat_text x) (flat_map stat_text (take i xs)), stats_more xs i s (omega arith) e)
