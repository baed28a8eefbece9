-- What pulls over links come to, one after the other.
use Rattle.zed_op.specs.declared.op.Edit.{Edit}
use Rattle.zed_link.specs.declared.error.LinkError.{LinkError}
use Rattle.zed_link.specs.declared.pulled.Pulled.{Pulled}
use Rattle.zed_files.specs.declared.refusal.Refusal.{Refusal}
use Rattle.zed_files.specs.declared.refusal.Refusal.TheVariants.{Memory, NoLink}
use Rattle.std.proofs.Common.{◌≡◌, ◌∙◌, ◌≤◌, ◌<◌, ◌+◌, add-one, ap, ap₂, arith, ℕ, zero, suc, Bool, false, List, [], ◌∷◌, ◌++◌, drop, drop-cons, get_or, length, lt-ltb, set, take, nat_lt, Result, Ok, Err, refl, sym, subst, map, inl, inr}
use Rattle.std.specs.Prelude.{◌⊎◌, MatchBool}
use Rattle.std.proofs.lemmas.List.{length-map}
use Rattle.zed_editfile.specs.Spelling.{file_text}
use Rattle.zed_document.specs.Counts.{Counts}
use Rattle.zed_action.specs.Deeds.{with_edits}
use Rattle.zed_document.specs.Replica.{Replica}
use Rattle.zed_document.proofs.CountsAside.{with_counts}
use Rattle.zed_link.proofs.CountsAside.{pull_aside}
use Rattle.zed_session.specs.Links.{LinkSeen, PullsOver}
use Rattle.zed_files.specs.Lines.{joined_line}
use Rattle.zed_program.specs.Merged.{IsMerged, PullsEach, empty_document, ComesToMerge}
use Rattle.zed_files.specs.Effects.{Effect, Writes}
use Rattle.zed_files.specs.Refusals.{link_refusal}

-- what a function makes of each element of a list
abbrev pub each_of : {X Y : Type 0} → List X → (X → Y) → List Y
each_of xs f = map f xs

-- a document of the same world that isn't stale either is the other with its own edits and counts
with_own : (d m : Replica) → m.world ≡ d.world → m.is_stale ≡ d.is_stale → m ≡ with_counts m.counts (with_edits m.edits d)
with_own d m w s =
    let make : ℕ → Bool → Replica = λ w s. record { world = w; edits = m.edits; is_stale = s; counts = m.counts } in
    let path : make m.world m.is_stale ≡ make d.world d.is_stale = rw (w, s) refl in path

-- nor do pulls depend on the counts
pulls_aside : (c : Counts) (d : Replica) (n : ℕ) (links news : List LinkSeen) (r : Result (List Edit) Refusal)
    → PullsEach (with_counts c d) n links news r
    → PullsEach d n links news r
pulls_aside c d zero links news r h = h
pulls_aside c d (suc n) [] news r h = absurd h
pulls_aside c d (suc n) (link ∷ links) news r (inl (pulled, new, left, more, is, over, rest)) =
    inl (pulled, new, left, more, is, pull_aside c d link.ends new.ends link.reads new.reads (Ok pulled) left over, pulls_aside c (with_edits left d) n links more r rest)
pulls_aside c d (suc n) (link ∷ links) news r (inr (e, new, left, is, over, why)) =
    inr (e, new, left, is, pull_aside c d link.ends new.ends link.reads new.reads (Err e) left over, why)

-- ---- a list in which one element is replaced

-- what is seen of its front, the new element included, before more
front_seen : {X Y : Type 0} (f : X → Y) (xs : List X) (i : ℕ) (y : X) (more : List Y) → i < length xs
    → map f (take (suc i) (set xs i y)) ++ more ≡ map f (take i xs) ++ f y ∷ more
front_seen f [] i y more within = absurd (omega (arith, within))
front_seen f (x ∷ xs) zero y more within = refl
front_seen f (x ∷ xs) (suc i) y more within = ap (λ zs. f x ∷ zs) (front_seen f xs i y more (omega (arith, within)))

-- what is seen of all of it
set_seen : {X Y : Type 0} (f : X → Y) (xs : List X) (i : ℕ) (y : X) → i < length xs
    → map f (set xs i y) ≡ map f (take i xs) ++ f y ∷ map f (drop (suc i) xs)
set_seen f [] i y within = absurd (omega (arith, within))
set_seen f (x ∷ xs) zero y within = refl
set_seen f (x ∷ xs) (suc i) y within = ap (λ zs. f x ∷ zs) (set_seen f xs i y (omega (arith, within)))

-- what is seen of a front and of the rest
parts_seen : {X Y : Type 0} (f : X → Y) (xs : List X) (i : ℕ) → map f xs ≡ map f (take i xs) ++ map f (drop i xs)
parts_seen f [] zero = refl
parts_seen f [] (suc i) = refl
parts_seen f (x ∷ xs) zero = refl
parts_seen f (x ∷ xs) (suc i) = ap (λ zs. f x ∷ zs) (parts_seen f xs i)

-- what is behind the new element
behind_set : {X : Type 0} (xs : List X) (i : ℕ) (y : X) → drop (suc i) (set xs i y) ≡ drop (suc i) xs
behind_set [] zero y = refl
behind_set [] (suc i) y = refl
behind_set (x ∷ xs) zero y = refl
behind_set (x ∷ xs) (suc i) y = behind_set xs i y

one_less : {X : Type 0} (xs : List X) (i : ℕ) → drop (suc i) xs ≡ drop 1 (drop i xs)
one_less [] zero = refl
one_less [] (suc i) = refl
one_less (x ∷ xs) zero = refl
one_less (x ∷ xs) (suc i) = one_less xs i

same_behind : {X : Type 0} (xs ys : List X) (i : ℕ) → drop i xs ≡ drop i ys → drop (suc i) xs ≡ drop (suc i) ys
same_behind xs ys i same = one_less xs i ∙ ap (drop 1) same ∙ sym (one_less ys i)

-- ---- pulls over some of the links

-- over so many links it was pulled, and the others are as they were; what pulls over these come to, all come to
abbrev pub Pulling : {X : Type 0} → (X → LinkSeen) → ℕ → ℕ → List X → List X → ℕ → Replica → Type 0
Pulling f world count all now i d =
    (rest : ℕ) × (i + rest ≡ count) × (drop i now ≡ drop i all)
    × ((news : List LinkSeen) (r : Result (List Edit) Refusal) → PullsEach d rest (map f (drop i all)) news r
    → PullsEach (empty_document world) count (map f all) (map f (take i now) ++ news) r)

-- nothing was pulled yet
pub pulling_begins : {X : Type 0} (f : X → LinkSeen) (d : Replica) (world count : ℕ) (all : List X) → d ≡ empty_document world
    → Pulling f world count all all 0 d
pulling_begins f d world count all new =
    (count, omega arith, refl, λ news r pulls. subst (λ q. PullsEach q count (map f all) news r) new pulls)

-- the link that is next, and those behind it
next_is : {X : Type 0} (all now : List X) (i : ℕ) (x : X) → drop i now ≡ drop i all → i < length now → x ≡ get_or now i x
    → drop i all ≡ x ∷ drop (suc i) all
next_is all now i x same within is = sym same ∙ drop-cons now i x within ∙ ap₂ (λ z zs. z ∷ zs) (sym is) (same_behind now all i same)

-- one link more was pulled over
pub pulling_goes_on : {X : Type 0} (f : X → LinkSeen) (d m : Replica) (world count : ℕ) (all now : List X) (i : ℕ) (x y : X) (pulled : Pulled)
    → Pulling f world count all now i d → i < count → i < length now → x ≡ get_or now i x → m.world ≡ d.world → m.is_stale ≡ d.is_stale
    → PullsOver d (f x) (f y) (Ok pulled) m.edits → Pulling f world count all (set now i y) (i + 1) m
pulling_goes_on f d m world count all now i x y pulled (zero, sum, same, comes) few within is w s over = absurd (omega (arith, sum, few))
pulling_goes_on f d m world count all now i x y pulled (suc rest, sum, same, comes) few within is w s over = (
  rest,
  omega (arith, sum),
  subst (λ n. drop n (set now i y) ≡ drop n all) (sym (add-one i)) (behind_set now i y ∙ same_behind now all i same),
  λ news r pulls.
      let then : PullsEach m rest (map f (drop (suc i) all)) news r =
      subst (λ n. PullsEach m rest (map f (drop n all)) news r) (add-one i) pulls in
      let own : PullsEach (with_edits m.edits d) rest (map f (drop (suc i) all)) news r =
      pulls_aside m.counts (with_edits m.edits d) rest (map f (drop (suc i) all)) news r
      (subst (λ q. PullsEach q rest (map f (drop (suc i) all)) news r) (with_own d m w s) then) in
      let here : PullsEach d (suc rest) (f x ∷ map f (drop (suc i) all)) (f y ∷ news) r =
      inl (pulled, f y, m.edits, news, refl, over, own) in
      let there : PullsEach d (suc rest) (map f (drop i all)) (f y ∷ news) r =
      subst (λ xs. PullsEach d (suc rest) (map f xs) (f y ∷ news) r) (sym (next_is all now i x same within is)) here in
      let front : map f (take (suc i) (set now i y)) ++ news ≡ map f (take i now) ++ f y ∷ news = front_seen f now i y news within in
      subst (λ n. PullsEach (empty_document world) count (map f all) (map f (take n (set now i y)) ++ news) r) (sym (add-one i))
      (subst (λ seen. PullsEach (empty_document world) count (map f all) seen r) (sym front) (comes (f y ∷ news) r there)),
)

-- a pull was refused
pub pulling_stops : {X : Type 0} (f : X → LinkSeen) (d : Replica) (world count : ℕ) (all now : List X) (i : ℕ) (x y : X) (e : LinkError) (left : List Edit)
    → Pulling f world count all now i d → i < count → i < length now → x ≡ get_or now i x
    → PullsOver d (f x) (f y) (Err e) left → PullsEach (empty_document world) count (map f all) (map f (set now i y)) (Err (link_refusal e))
pulling_stops f d world count all now i x y e left (zero, sum, same, comes) few within is over = absurd (omega (arith, sum, few))
pulling_stops f d world count all now i x y e left (suc rest, sum, same, comes) few within is over =
    let behind = map f (drop (suc i) all) in
    let here : PullsEach d (suc rest) (f x ∷ behind) (f y ∷ behind) (Err (link_refusal e)) = inr (e, f y, left, refl, over, refl) in
    let there : PullsEach d (suc rest) (map f (drop i all)) (f y ∷ behind) (Err (link_refusal e)) =
    subst (λ xs. PullsEach d (suc rest) (map f xs) (f y ∷ behind) (Err (link_refusal e))) (sym (next_is all now i x same within is)) here in
    let seen : map f (set now i y) ≡ map f (take i now) ++ f y ∷ behind =
    set_seen f now i y within ∙ ap (λ zs. map f (take i now) ++ f y ∷ map f zs) (same_behind now all i same) in
    subst (λ s. PullsEach (empty_document world) count (map f all) s (Err (link_refusal e))) (sym seen) (comes (f y ∷ behind) (Err (link_refusal e)) there)

-- all were pulled over
pub pulling_ends : {X : Type 0} (f : X → LinkSeen) (d : Replica) (world count : ℕ) (all now : List X) (i : ℕ)
    → Pulling f world count all now i d → count ≤ i → PullsEach (empty_document world) count (map f all) (map f now) (Ok d.edits)
pulling_ends f d world count all now i (zero, sum, same, comes) past =
    let seen : map f now ≡ map f (take i now) ++ map f (drop i all) = parts_seen f now i ∙ ap (λ zs. map f (take i now) ++ map f zs) same in
    subst (λ s. PullsEach (empty_document world) count (map f all) s (Ok d.edits)) (sym seen) (comes (map f (drop i all)) (Ok d.edits) (refl, refl))
pulling_ends f d world count all now i (suc rest, sum, same, comes) past = absurd (omega (arith, sum, past))

pub not_fewer : (n m : ℕ) → n ≤ m → nat_lt m n ≡ false
not_fewer n m le = grind arith

-- there are links enough
pub is_merged : {X : Type 0} (f : X → LinkSeen) (world count n : ℕ) (links : List X) (news : List LinkSeen) (r : Result (List Edit) Refusal)
    → n ≡ length links → count ≤ n
    → PullsEach (empty_document world) count (map f links) news r → IsMerged world count (map f links) news r
is_merged f world count n links news r all enough pulls =
    let all_enough : count ≤ length (map f links) = rw length-map (rw all at enough) in
    subst (λ b. MatchBool b ((r ≡ Err NoLink) × (news ≡ map f links)) (PullsEach (empty_document world) count (map f links) news r)) (sym (not_fewer count (length (map f links)) all_enough)) pulls

-- or there are fewer, which are as they were
abbrev no_link : Result (List Edit) Refusal
no_link = Err NoLink

pub not_merged_few : {X : Type 0} (f : X → LinkSeen) (world count n : ℕ) (links : List X) → n ≡ length links → n < count
    → IsMerged world count (map f links) (map f links) no_link
not_merged_few f world count n links all few =
    let seen : List LinkSeen = map f links in
    let all_few : length seen < count = rw length-map (rw all at few) in
    let none : (no_link ≡ Err NoLink) × (seen ≡ seen) = (refl, refl) in
    subst (λ b. MatchBool b ((no_link ≡ Err NoLink) × (seen ≡ seen)) (PullsEach (empty_document world) count seen seen no_link)) (sym (lt-ltb (length seen) count all_few)) none

-- a list has as many elements as what is made of each
pub as_many : {X Y : Type 0} (f : X → Y) (xs : List X) → length xs ≡ length (map f xs)
as_many f xs = sym (length-map xs f)

-- the edits of the links are written
pub merge_comes : (links news : List LinkSeen) (out : List ℕ) (world count : ℕ) (es : List Edit) (bytes line : List ℕ)
    → IsMerged world count links news (Ok es) → bytes ≡ file_text world es → line ≡ joined_line es
    → ComesToMerge links news out world count (Ok (Writes out bytes line))
merge_comes links news out world count es bytes line merged text told = (Ok es, merged, rw (text, told) refl)

-- or none
pub not_merged : (links news : List LinkSeen) (out : List ℕ) (world count : ℕ) (e : Refusal)
    → IsMerged world count links news (Err e) → (e ≡ Memory) ⊎ ComesToMerge links news out world count (Err e)
not_merged links news out world count e is = inr (Err e, is, refl)

-- whether the host failed doesn't matter
pub merge_so : (links news : List LinkSeen) (out : List ℕ) (world count : ℕ) (p q : Type 0) (r : Result Effect Refusal) → (p → q)
    → ComesToMerge links news out world count r → ComesToMerge links news out world count r
merge_so links news out world count p q r so is = is
