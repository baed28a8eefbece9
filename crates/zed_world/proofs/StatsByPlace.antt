-- Stats that are read are those that stand in the body one after the other.
use Rattle.std.proofs.Common.{◌≡◌, inl, inr, ℕ, zero, suc, ℤ, ◌+◌, ◌<◌, ◌≤◌, false, ltb, List, [], ◌∷◌, ◌++◌, length, drop, Some, Ok, refl, sym, ap, subst, ◌∙◌, append_assoc, append-nil, length-append, length-drop, arith}
use Rattle.std.specs.Prelude.{IfSome}
use Rattle.std.specs.List.{slice_get}
use Rattle.std.proofs.lemmas.Bool.{ltb-false, le-ltb}
use Rattle.std.proofs.lemmas.List.{length_push}
use Rattle.std.proofs.lemmas.Option.{slice_get_within}
use Rattle.zed_types.specs.declared.tile.Tile.{Tile}
use Rattle.zed_world.specs.declared.error.WorldError.TheVariants as fault
use Rattle.zed_world.specs.declared.stat.Code.{Code}
use Rattle.zed_world.specs.declared.stat.StatData.{StatData}
use Rattle.zed_world.specs.Fields.{integer_at}
use Rattle.zed_world.specs.Offsets.{stat_with}
use Rattle.zed_types.specs.Steps.{◌>>=◌}
use Rattle.zed_world.specs.Reading.{code_at, stat_at, items_at}
use Rattle.zed_world.specs.FileText.{length_field, shared_number, stat_end, StandFrom, IsCode}
use Rattle.zed_types.proofs.Steps.{ok_is, guard_ok, bind_ok}
use Rattle.zed_world.proofs.Places.{drop_drop, integer_there, get_push, get_front, get_last, get_within}
use Rattle.zed_world.proofs.CodesByPlace.{code_stays, code_found, code_read}

-- stat n stands at a place
pub record Placed (boards stats : ℕ) (tiles : List Tile) (body places : List ℕ) (n place : ℕ) (s : StatData) : Type 0 where
  pub lower : IfSome (shared_number (length_field body place)) (λ k. k < n)
  pub fields : s ≡ stat_with boards stats tiles (drop place body) s.code
  pub code : IsCode body places n s.code

abbrev pub AllPlaced : ℕ → ℕ → List Tile → List ℕ → List ℕ → List StatData → Type 0
AllPlaced boards stats tiles body places ss = (n place : ℕ) (s : StatData) → slice_get places n ≡ Some place → slice_get ss n ≡ Some s → Placed boards stats tiles body places n place s

-- ---- what is read stands there

record FoundStat (boards stats : ℕ) (tiles : List Tile) (body places : List ℕ) (n place : ℕ) (s : StatData) (rest : List ℕ) : Type 0 where
  placed : Placed boards stats tiles body (places ++ place ∷ []) n place s
  within : stat_end body place ≤ length body
  rest_is : rest ≡ drop (stat_end body place) body

stat_found : (boards stats : ℕ) (tiles : List Tile) (body places : List ℕ) (place : ℕ) (done : List StatData) (x : StatData × List ℕ)
    → length places ≡ length done → AllPlaced boards stats tiles body places done
    → stat_at boards stats tiles done (drop place body) ≡ Ok x → FoundStat boards stats tiles body places (length done) place x.0 x.1
unfolding stat_at stat_with
stat_found boards stats tiles body places place done x long all h =
    let bytes = drop place body in
    let made : Code × List ℕ → StatData × List ℕ = λ p. (stat_with boards stats tiles bytes p.0, p.1) in
    let g =
    guard_ok (ltb (length bytes) 33) fault.Truncated (code_at done (integer_at bytes 23) (drop 33 bytes) >>= λ p. Ok (made p)) x h in
    let o = bind_ok (code_at done (integer_at bytes 23) (drop 33 bytes)) (λ (p : Code × List ℕ). Ok (made p)) x g.1 in
    let whole : 33 ≤ length bytes = ltb-false _ _ g.0 in
    let read : code_at done (length_field body place) (drop (place + 33) body) ≡ Ok o.0 =
    sym (ap (λ (z : ℤ). code_at done z (drop 33 bytes)) (integer_there place 23 body) ∙ ap (code_at done (length_field body place)) (drop_drop 33 place body)) ∙ o.1 in
    let f = code_found body places place done (length_field body place) o.0 long (λ n p s a b. (all n p s a b).code) (omega (arith, length-drop place body)) refl read in
    subst (λ (y : StatData × List ℕ). FoundStat boards stats tiles body places (length done) place y.0 y.1) (ok_is (made o.0) x o.2) (record {
      placed = record { lower = f.lower; fields = refl; code = f.code };
      within = f.within;
      rest_is = f.rest_is;
    })

all_more : (boards stats : ℕ) (tiles : List Tile) (body places : List ℕ) (place : ℕ) (done : List StatData) (s : StatData)
    → length places ≡ length done → AllPlaced boards stats tiles body places done
    → Placed boards stats tiles body (places ++ place ∷ []) (length done) place s
    → AllPlaced boards stats tiles body (places ++ place ∷ []) (done ++ s ∷ [])
all_more boards stats tiles body places place done s long all new = λ n p t a b.
    elim (get_push places place n p a) [
      | inl there ↦ elim (get_push done s n t b) [
        | inl old ↦ let it = all n p t there old in record { lower = it.lower; fields = it.fields; code = code_stays body places (place ∷ []) n t.code it.code }
        | inr last ↦ absurd (omega (arith, slice_get_within places n p there, last.0))
      ]
      | inr there ↦ elim (get_push done s n t b) [
        | inl old ↦ absurd (omega (arith, slice_get_within done n t old, there.0))
        | inr last ↦ rw (last.0, there.1, last.1) new
      ]
    ]

pub record FoundStats (boards stats : ℕ) (tiles : List Tile) (body lower : List ℕ) (at : ℕ) (ss : List StatData) : Type 0 where
  pub places : List ℕ
  pub stand : StandFrom body at places
  pub as_many : length (lower ++ places) ≡ length ss
  pub all : AllPlaced boards stats tiles body (lower ++ places) ss

pub stats_found : (boards stats : ℕ) (tiles : List Tile) (body : List ℕ) (n : ℕ) (lower : List ℕ) (done : List StatData) (at : ℕ) (ss : List StatData)
    → length lower ≡ length done → AllPlaced boards stats tiles body lower done
    → items_at (stat_at boards stats tiles) n done (drop at body) ≡ Ok ss → FoundStats boards stats tiles body lower at ss
unfolding items_at
stats_found boards stats tiles body zero lower done at ss long all h =
    let none : lower ≡ lower ++ [] = sym (append-nil lower) in
    subst (λ (y : List StatData). FoundStats boards stats tiles body lower at y) (ok_is done ss h) (record {
      places = [];
      stand = tt;
      as_many = sym (ap length none) ∙ long;
      all = subst (λ (y : List ℕ). AllPlaced boards stats tiles body y done) none all;
    })
stats_found boards stats tiles body (suc n) lower done at ss long all h =
    let o = bind_ok (stat_at boards stats tiles done (drop at body)) (λ (next : StatData × List ℕ). items_at (stat_at boards stats tiles) n (done ++ next.0 ∷ []) next.1) ss h in
    let s = o.0.0 in
    let f = stat_found boards stats tiles body lower at done o.0 long all o.1 in
    let left : items_at (stat_at boards stats tiles) n (done ++ s ∷ []) (drop (stat_end body at) body) ≡ Ok ss =
    sym (ap (items_at (stat_at boards stats tiles) n (done ++ s ∷ [])) f.rest_is) ∙ o.2 in
    let r = stats_found boards stats tiles body n (lower ++ at ∷ []) (done ++ s ∷ []) (stat_end body at) ss (omega (arith, length_push lower at, length_push done s)) (all_more boards stats tiles body lower at done s long all f.placed) left in
    let whole : (lower ++ at ∷ []) ++ r.places ≡ lower ++ at ∷ r.places = append_assoc lower (at ∷ []) r.places in
    record {
      places = at ∷ r.places;
      stand = (refl, f.within, r.stand);
      as_many = sym (ap length whole) ∙ r.as_many;
      all = subst (λ (y : List ℕ). AllPlaced boards stats tiles body y ss) whole r.all;
    }

-- ---- what stands there is read

stat_read : (boards stats : ℕ) (tiles : List Tile) (body places : List ℕ) (place : ℕ) (done : List StatData) (s : StatData)
    → slice_get places (length done) ≡ Some place → stat_end body place ≤ length body
    → Placed boards stats tiles body places (length done) place s
    → ((k : ℕ) (t : StatData) → slice_get done k ≡ Some t → IsCode body places k t.code)
    → stat_at boards stats tiles done (drop place body) ≡ Ok (s, drop (stat_end body place) body)
unfolding stat_at
stat_read boards stats tiles body places place done s there within p codes =
    let bytes = drop place body in
    let test : ltb (length bytes) 33 ≡ false = le-ltb _ _ (omega (arith, length-drop place body)) in
    let code : code_at done (integer_at bytes 23) (drop 33 bytes) ≡ Ok (s.code, drop (stat_end body place) body) =
    ap (λ (z : ℤ). code_at done z (drop 33 bytes)) (integer_there place 23 body) ∙ ap (code_at done (length_field body place)) (drop_drop 33 place body)
    ∙ code_read body places (length done) place done (length_field body place) s.code refl there refl within p.lower p.code codes in
    let is : stat_with boards stats tiles bytes s.code ≡ s = sym p.fields in
    rw (test, code) (ap (λ (y : StatData). Ok (y, drop (stat_end body place) body)) is)

pub stats_read : (boards stats : ℕ) (tiles : List Tile) (body places : List ℕ) (ss : List StatData) (rest : List ℕ) (left : List StatData) (lower : List ℕ) (done : List StatData) (at : ℕ)
    → length lower ≡ length done → length rest ≡ length left
    → lower ++ rest ≡ places → done ++ left ≡ ss → StandFrom body at rest → AllPlaced boards stats tiles body places ss
    → items_at (stat_at boards stats tiles) (length left) done (drop at body) ≡ Ok ss
unfolding items_at
stats_read boards stats tiles body places ss [] [] lower done at long same p q stand all =
    ap (λ (y : List StatData). Ok y) (sym (append-nil done) ∙ q)
stats_read boards stats tiles body places ss [] (s ∷ left) lower done at long same p q stand all = absurd (omega arith)
stats_read boards stats tiles body places ss (place ∷ rest) [] lower done at long same p q stand all = absurd (omega arith)
stats_read boards stats tiles body places ss (place ∷ rest) (s ∷ left) lower done at long same p q stand all =
    let here : place ≡ at = stand.0 in
    let there : slice_get places (length done) ≡ Some at =
    ap (slice_get places) (sym long) ∙ ap (λ (y : List ℕ). slice_get y (length lower)) (sym p) ∙ get_last lower rest place
    ∙ ap (λ (k : ℕ). Some k) here in
    let stat : slice_get ss (length done) ≡ Some s = ap (λ (y : List StatData). slice_get y (length done)) (sym q) ∙ get_last done left s in
    let total : length places ≡ length lower + suc (length rest) = sym (ap length p) ∙ length-append lower (place ∷ rest) in
    let codes : (k : ℕ) (t : StatData) → slice_get done k ≡ Some t → IsCode body places k t.code = λ k t h.
    let in_list = slice_get_within done k t h in
    let w = get_within places k (omega arith) in
    (all k w.0 t w.1 (ap (λ (y : List StatData). slice_get y k) (sym q) ∙ get_front done (s ∷ left) k t h)).code in
    let first = stat_read boards stats tiles body places at done s there stand.1 (all (length done) at s there stat) codes in
    let whole : (lower ++ place ∷ []) ++ rest ≡ places = append_assoc lower (place ∷ []) rest ∙ p in
    let every : (done ++ s ∷ []) ++ left ≡ ss = append_assoc done (s ∷ []) left ∙ q in
    rw first (stats_read boards stats tiles body places ss rest left (lower ++ place ∷ []) (done ++ s ∷ []) (stat_end body at) (omega (arith, length_push lower place, length_push done s)) (omega arith) whole every stand.2 all)
