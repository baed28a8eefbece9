-- Programs that are read are those that the lengths in the file lead to.
use Rattle.std.proofs.Common.{◌≡◌, ℕ, zero, suc, ℤ, pos, negsuc, ◌+◌, ◌<◌, ◌≤◌, true, false, ltb, List, [], ◌∷◌, ◌++◌, length, take, drop, Option, Some, None, Result, Ok, refl, sym, ap, subst, ◌∙◌, length-take, length-drop, arith}
use Rattle.std.specs.Prelude.{IfSome}
use Rattle.std.specs.List.{slice_get}
use Rattle.std.proofs.lemmas.Bool.{ltb-true, ltb-false, lt-ltb, le-ltb}
use Rattle.zed_world.specs.declared.error.WorldError.{WorldError}
use Rattle.zed_world.specs.declared.error.WorldError.TheVariants as fault
use Rattle.zed_world.specs.declared.stat.Code.{Code}
use Rattle.zed_world.specs.declared.stat.Code.TheVariants as code
use Rattle.zed_world.specs.declared.stat.StatData.{StatData}
use Rattle.zed_world.specs.Reading.{shared, code_of, code_at}
use Rattle.zed_world.specs.FileText.{part, length_field, own_length, shared_number, stat_end, share_from, LeadsTo, code_along, IsCode}
use Rattle.zed_types.proofs.Steps.{ok_is, guard_ok, choice_ok}
use Rattle.zed_world.proofs.Places.{drop_drop, get_front, get_last, get_within}

-- ---- chains

share_more : (body places more : List ℕ) (n next : ℕ) → share_from body (slice_get places n) ≡ Some next
    → share_from body (slice_get (places ++ more) n) ≡ Some next
share_more body places more n next h = either (slice_get places n) refl
  where
    either : (o : Option ℕ) → slice_get places n ≡ o → share_from body (slice_get (places ++ more) n) ≡ Some next
    either None q = let none : share_from body None ≡ Some next = sym (ap (share_from body) q) ∙ h in absurd cc
    either (Some place) q = ap (share_from body) (get_front places more n place q) ∙ sym (ap (share_from body) q) ∙ h

leads_more : (body places more : List ℕ) (n : ℕ) (chain : List ℕ) (owner : ℕ) → LeadsTo body places n chain owner
    → LeadsTo body (places ++ more) n chain owner
leads_more body places more n [] owner h = h
leads_more body places more n (next ∷ chain) owner h =
    (share_more body places more n next h.0, leads_more body places more next chain owner h.1)

-- a program stays when stats are added
pub code_stays : (body places more : List ℕ) (n : ℕ) (c : Code) → IsCode body places n c → IsCode body (places ++ more) n c
code_stays body places more n c i = record {
  chain = i.chain;
  owner = i.owner;
  place = i.place;
  leads = leads_more body places more n i.chain i.owner i.leads;
  there = get_front places more i.owner i.place i.there;
  owns = i.owns;
  is = i.is;
}

-- where a chain ends nothing is shared
ends : (body places : List ℕ) (owner place : ℕ) → slice_get places owner ≡ Some place → shared_number (length_field body place) ≡ None
    → share_from body (slice_get places owner) ≡ None
ends body places owner place h k = ap (share_from body) h ∙ k

one_chain : (body places : List ℕ) (a b : List ℕ) (n p q : ℕ) → LeadsTo body places n a p → LeadsTo body places n b q
    → share_from body (slice_get places p) ≡ None → share_from body (slice_get places q) ≡ None
    → (a ≡ b) × (p ≡ q)
one_chain body places [] [] n p q h k f g = (refl, sym h ∙ k)
one_chain body places [] (y ∷ b) n p q h k f g =
    let none : share_from body (slice_get places n) ≡ None = ap (λ (i : ℕ). share_from body (slice_get places i)) h ∙ f in
    let some = k.0 in
    absurd cc
one_chain body places (x ∷ a) [] n p q h k f g =
    let none : share_from body (slice_get places n) ≡ None = ap (λ (i : ℕ). share_from body (slice_get places i)) k ∙ g in
    let some = h.0 in
    absurd cc
one_chain body places (x ∷ a) (y ∷ b) n p q h k f g =
    let some = h.0 in
    let other = k.0 in
    let same : y ≡ x = cc in
    let rest = one_chain body places a b x p q h.1 (subst (λ (i : ℕ). LeadsTo body places i b q) same k.1) f g in
    (rw (same, rest.0) refl, rest.1)

-- a stat has one program
pub one_code : (body places : List ℕ) (n : ℕ) (c d : Code) → IsCode body places n c → IsCode body places n d → c ≡ d
one_code body places n c d i j =
    let same = one_chain body places i.chain j.chain n i.owner j.owner i.leads j.leads (ends body places i.owner i.place i.there i.owns) (ends body places j.owner j.place j.there j.owns) in
    let first = i.there in
    let second = j.there in
    let owners = same.1 in
    let there : slice_get places i.owner ≡ Some j.place = ap (slice_get places) owners ∙ second in
    let place : i.place ≡ j.place = cc in
    let text : ℕ → List ℕ = λ p. part body (p + 33) (own_length (length_field body p)) in
    i.is ∙ ap (λ (x : List ℕ). code_along x i.owner (text i.place)) same.0 ∙ ap (λ (x : ℕ). code_along j.chain x (text i.place)) owners ∙ ap (λ (x : ℕ). code_along j.chain j.owner (text x)) place ∙ sym j.is

-- ---- one stat more

own_along : (n : ℕ) (bytes : List ℕ) → 0 < length bytes → code_along [] n bytes ≡ code.Own bytes
own_along n [] h = absurd (omega arith)
own_along n (b ∷ bs) h = refl

-- sharing with a stat is sharing with its owner
shared_along : (body places : List ℕ) (k : ℕ) (chain : List ℕ) (owner : ℕ) (bytes : List ℕ) → LeadsTo body places k chain owner
    → shared k (code_along chain owner bytes) ≡ code_along (k ∷ chain) owner bytes
shared_along body places k [] owner [] h = refl
shared_along body places k (x ∷ chain) owner [] h = refl
shared_along body places k [] owner (b ∷ bs) h = ap (λ (i : ℕ). code.Same i) h
shared_along body places k (x ∷ chain) owner (b ∷ bs) h = refl

-- what the reader found of a program
pub record FoundCode (body places : List ℕ) (n place : ℕ) (c : Code) (rest : List ℕ) : Type 0 where
  pub lower : IfSome (shared_number (length_field body place)) (λ k. k < n)
  pub code : IsCode body (places ++ place ∷ []) n c
  pub within : stat_end body place ≤ length body
  pub rest_is : rest ≡ drop (stat_end body place) body

nothing_taken : {A : Type 0} (xs : List A) → take 0 xs ≡ []
nothing_taken [] = refl
nothing_taken (x ∷ xs) = refl

own_code : (body places : List ℕ) (n place : ℕ) (z : ℤ) (c : Code) → n ≡ length places → length_field body place ≡ z
    → shared_number z ≡ None → c ≡ code_along [] n (part body (place + 33) (own_length z))
    → IsCode body (places ++ place ∷ []) n c
own_code body places n place z c long e none is = record {
  chain = [];
  owner = n;
  place = place;
  leads = refl;
  there = ap (slice_get (places ++ place ∷ [])) long ∙ get_last places [] place;
  owns = ap shared_number e ∙ none;
  is = is ∙ ap (λ (y : ℤ). code_along [] n (part body (place + 33) (own_length y))) (sym e);
}

share_code : (body places : List ℕ) (n place k : ℕ) (c : Code) → n ≡ length places → shared_number (length_field body place) ≡ Some k
    → IsCode body places k c
    → IsCode body (places ++ place ∷ []) n (shared k c)
share_code body places n place k c long e i = record {
  chain = k ∷ i.chain;
  owner = i.owner;
  place = i.place;
  leads = (ap (λ (m : ℕ). share_from body (slice_get (places ++ place ∷ []) m)) long ∙ ap (share_from body) (get_last places [] place) ∙ e, leads_more body places (place ∷ []) k i.chain i.owner i.leads);
  there = get_front places (place ∷ []) i.owner i.place i.there;
  owns = i.owns;
  is =
      ap (shared k) i.is
      ∙ shared_along body places k i.chain i.owner (part body (i.place + 33) (own_length (length_field body i.place))) i.leads;
}

-- the stats so far have the programs that the lengths lead to
abbrev pub HaveCodes : List ℕ → List ℕ → List StatData → Type 0
HaveCodes body places done =
    (n place : ℕ) (s : StatData) → slice_get places n ≡ Some place → slice_get done n ≡ Some s → IsCode body places n s.code

pub code_found : (body places : List ℕ) (place : ℕ) (done : List StatData) (z : ℤ) (x : Code × List ℕ) → length places ≡ length done
    → HaveCodes body places done → place + 33 ≤ length body → length_field body place ≡ z
    → code_at done z (drop (place + 33) body) ≡ Ok x → FoundCode body places (length done) place x.0 x.1
unfolding code_at
code_found body places place done (pos zero) x long codes within e h =
    let end : stat_end body place ≡ place + 33 = ap (λ (y : ℤ). place + 33 + own_length y) e ∙ omega arith in
    let nothing : code_along [] (length done) (part body (place + 33) 0) ≡ code.None =
    ap (code_along [] (length done)) (nothing_taken (drop (place + 33) body)) in
    subst (λ (y : Code × List ℕ). FoundCode body places (length done) place y.0 y.1) (ok_is (code.None, drop (place + 33) body) x h) (record {
      lower = subst (λ (y : ℤ). IfSome (shared_number y) (λ k. k < length done)) (sym e) tt;
      code = own_code body places (length done) place (pos 0) code.None (sym long) e refl (sym nothing);
      within = omega (arith, end);
      rest_is = ap (λ (k : ℕ). drop k body) (sym end);
    })
code_found body places place done (pos (suc n)) x long codes within e h =
    let rest = drop (place + 33) body in
    let own : Code × List ℕ = (code.Own (take (suc n) rest), drop (suc n) rest) in
    let g = guard_ok (ltb (length rest) (suc n)) fault.Truncated (Ok own) x h in
    let room : suc n ≤ length rest = ltb-false _ _ g.0 in
    let end : stat_end body place ≡ place + 33 + suc n = ap (λ (y : ℤ). place + 33 + own_length y) e in
    let some : 0 < length (take (suc n) rest) = omega (arith, length-take (suc n) rest) in
    subst (λ (y : Code × List ℕ). FoundCode body places (length done) place y.0 y.1) (ok_is own x g.1) (record {
      lower = subst (λ (y : ℤ). IfSome (shared_number y) (λ k. k < length done)) (sym e) tt;
      code = own_code body places (length done) place (pos (suc n)) (code.Own (take (suc n) rest)) (sym long) e refl (sym (own_along (length done) (take (suc n) rest) some));
      within = omega (arith, end, length-drop (place + 33) body);
      rest_is = drop_drop (suc n) (place + 33) body ∙ ap (λ (k : ℕ). drop k body) (sym end);
    })
code_found body places place done (negsuc n) x long codes within e h =
    let rest = drop (place + 33) body in
    let made : Code × List ℕ = (shared (suc n) (code_of (slice_get done (suc n))), rest) in
    let g = choice_ok (ltb (suc n) (length done)) (Ok made) fault.BadShare x h in
    let lower : suc n < length done = ltb-true _ _ g.0 in
    let s = get_within done (suc n) lower in
    let p = get_within places (suc n) (omega arith) in
    let end : stat_end body place ≡ place + 33 = ap (λ (y : ℤ). place + 33 + own_length y) e ∙ omega arith in
    let shares : shared_number (length_field body place) ≡ Some (suc n) = ap shared_number e in
    let code : IsCode body (places ++ place ∷ []) (length done) (shared (suc n) s.0.code) =
    share_code body places (length done) place (suc n) s.0.code (sym long) shares (codes (suc n) p.0 s.0 p.1 s.1) in
    subst (λ (y : Code × List ℕ). FoundCode body places (length done) place y.0 y.1) (ok_is made x g.1) (record {
      lower = subst (λ (y : ℤ). IfSome (shared_number y) (λ k. k < length done)) (sym e) lower;
      code = subst (λ (o : Option StatData). IsCode body (places ++ place ∷ []) (length done) (shared (suc n) (code_of o))) (sym s.1) code;
      within = omega (arith, end);
      rest_is = ap (λ (k : ℕ). drop k body) (sym end);
    })

-- ---- the other way: what the lengths lead to is read

-- stat n owns its bytes, if it has any
alone : (body places : List ℕ) (n place : ℕ) (c : Code) (i : IsCode body places n c) → slice_get places n ≡ Some place
    → shared_number (length_field body place) ≡ None
    → c ≡ code_along [] n (part body (place + 33) (own_length (length_field body place)))
alone body places n place c i there none =
    let mine : IsCode body places n (code_along [] n (part body (place + 33) (own_length (length_field body place)))) =
    record { chain = []; owner = n; place = place; leads = refl; there = there; owns = none; is = refl } in
    one_code body places n c _ i mine

-- stat n shares with stat k, which has this program
follows : (body places : List ℕ) (n place k : ℕ) (c d : Code) → slice_get places n ≡ Some place
    → shared_number (length_field body place) ≡ Some k → IsCode body places n c → IsCode body places k d
    → c ≡ shared k d
follows body places n place k c d there shares i j =
    let mine : IsCode body places n (shared k d) = record {
      chain = k ∷ j.chain;
      owner = j.owner;
      place = j.place;
      leads = (ap (share_from body) there ∙ shares, j.leads);
      there = j.there;
      owns = j.owns;
      is =
          ap (shared k) j.is
          ∙ shared_along body places k j.chain j.owner (part body (j.place + 33) (own_length (length_field body j.place))) j.leads;
    } in
    one_code body places n c (shared k d) i mine

pub code_read : (body places : List ℕ) (n place : ℕ) (done : List StatData) (z : ℤ) (c : Code) → n ≡ length done
    → slice_get places n ≡ Some place → length_field body place ≡ z → stat_end body place ≤ length body
    → IfSome (shared_number z) (λ k. k < n)
    → IsCode body places n c → ((k : ℕ) (s : StatData) → slice_get done k ≡ Some s → IsCode body places k s.code)
    → code_at done z (drop (place + 33) body) ≡ Ok (c, drop (stat_end body place) body)
unfolding code_at
code_read body places n place done (pos zero) c long there e within lower i codes =
    let end : place + 33 ≡ stat_end body place = omega arith ∙ ap (λ (y : ℤ). place + 33 + own_length y) (sym e) in
    let none : shared_number (length_field body place) ≡ None = ap shared_number e in
    let is : code.None ≡ c = sym (alone body places n place c i there none ∙ ap (λ (y : ℤ). code_along [] n (part body (place + 33) (own_length y))) e ∙ ap (code_along [] n) (nothing_taken (drop (place + 33) body))) in
    ap (λ (x : Code). Ok (x, drop (place + 33) body)) is ∙ ap (λ (k : ℕ). Ok (c, drop k body)) end
code_read body places n place done (pos (suc m)) c long there e within lower i codes =
    let rest = drop (place + 33) body in
    let end : place + 33 + suc m ≡ stat_end body place = ap (λ (y : ℤ). place + 33 + own_length y) (sym e) in
    let none : shared_number (length_field body place) ≡ None = ap shared_number e in
    let room : suc m ≤ length rest = omega (arith, end, length-drop (place + 33) body) in
    let test : ltb (length rest) (suc m) ≡ false = le-ltb _ _ room in
    let some : 0 < length (take (suc m) rest) = omega (arith, length-take (suc m) rest) in
    let is : code.Own (take (suc m) rest) ≡ c = sym (alone body places n place c i there none ∙ ap (λ (y : ℤ). code_along [] n (part body (place + 33) (own_length y))) e ∙ own_along n (take (suc m) rest) some) in
    let found : Result (Code × List ℕ) WorldError = Ok (c, drop (stat_end body place) body) in
    let after : drop (suc m) rest ≡ drop (stat_end body place) body =
    drop_drop (suc m) (place + 33) body ∙ ap (λ (k : ℕ). drop k body) end in
    rw test (ap (λ (x : Code). Ok (x, drop (suc m) rest)) is ∙ ap (λ (x : List ℕ). Ok (c, x)) after)
code_read body places n place done (negsuc m) c long there e within lower i codes =
    let rest = drop (place + 33) body in
    let test : ltb (suc m) (length done) ≡ true = lt-ltb _ _ (omega arith) in
    let s = get_within done (suc m) (omega arith) in
    let end : place + 33 ≡ stat_end body place = omega arith ∙ ap (λ (y : ℤ). place + 33 + own_length y) (sym e) in
    let shares : shared_number (length_field body place) ≡ Some (suc m) = ap shared_number e in
    let is : shared (suc m) s.0.code ≡ c = sym (follows body places n place (suc m) c s.0.code there shares i (codes (suc m) s.0 s.1)) in
    rw (test, s.1) (ap (λ (x : Code). Ok (x, rest)) is ∙ ap (λ (k : ℕ). Ok (c, drop k body)) end)
