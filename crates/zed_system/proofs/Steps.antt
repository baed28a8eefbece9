-- Steps of a folder, one after the other.
use Rattle.std.proofs.Common.{◌≡◌, ◌∙◌, false, true, [], ◌∷◌, ◌++◌, Err, List, None, Ok, Option, Result, Some, ap, option_map, refl, subst, sym}
use Rattle.std.specs.Prelude.{OnErr, is_err}
use Rattle.std.proofs.lemmas.List.{append_assoc, map-append}
use Rattle.zed_system.specs.Steps.{Step, StopsIn, Taken, Went, done, taken}

-- steps, and then others, are all of them
pub went_on : (a b : List Taken) (x y z : Option (List Taken)) → Went a x y → Went b y z → Went (a ++ b) x z
went_on a b None y z h k = k ∙ ap (option_map (λ all. all ++ b)) h
went_on a b (Some t) y z h k = k ∙ ap (option_map (λ all. all ++ b)) h ∙ ap Some (append_assoc t a b)

done_both : (a b : List Step) → done (a ++ b) ≡ done a ++ done b
done_both a b = map-append (λ step. taken step false) a b

-- the same of steps of which none failed
pub done_on : (a b : List Step) (x y z : Option (List Taken)) → Went (done a) x y → Went (done b) y z → Went (done (a ++ b)) x z
done_on a b x y z h k = subst (λ steps. Went steps x z) (sym (done_both a b)) (went_on (done a) (done b) x y z h k)

-- the first step failed
pub stops_first : (step : Step) (rest : List Step) (x y : Option (List Taken)) → Went (taken step true ∷ []) x y → StopsIn (step ∷ rest) [] x y
stops_first step rest x y went = ([], step, rest, refl, went)

-- one behind those that were done
pub stops_later : (a b : List Step) (x y z : Option (List Taken)) → Went (done a) x y → StopsIn b [] y z → StopsIn (a ++ b) [] x z
stops_later a b x y z h (front, last, rest, is, went) = (
  a ++ front,
  last,
  rest,
  ap (λ steps. a ++ steps) is ∙ sym (append_assoc a front (last ∷ rest)),
  subst (λ steps. Went steps x z) (sym (append_assoc (done a) (done front) (taken last true ∷ [])) ∙ ap (λ steps. steps ++ taken last true ∷ []) (sym (done_both a front)))
      (went_on (done a) (done front ++ taken last true ∷ []) x y z h went),
)

-- one of more steps
pub stops_before : (a b : List Step) (x y : Option (List Taken)) → StopsIn a [] x y → StopsIn (a ++ b) [] x y
stops_before a b x y (front, last, rest, is, went) =
    (front, last, rest ++ b, ap (λ steps. steps ++ b) is ∙ append_assoc front (last ∷ rest) b, went)

-- and others follow
pub stopped_then : (a behind : List Step) (x y z : Option (List Taken)) → StopsIn a [] x y → Went (done behind) y z → StopsIn a behind x z
stopped_then a behind x y z (front, last, rest, is, went) k = (
  front,
  last,
  rest,
  is,
  subst (λ steps. Went steps x z) (append_assoc (done front) (taken last true ∷ []) (done behind)) (went_on (done front ++ taken last true ∷ []) (done behind) x y z went k),
)

-- where the first step failed
pub first_fails : {X E : Type 0} (r : Result X E) (step : Step) (rest : List Step) (x y : Option (List Taken)) → Went (taken step (is_err r) ∷ []) x y
    → OnErr r (StopsIn (step ∷ rest) [] x y)
first_fails (Ok v) step rest x y went = tt
first_fails (Err e) step rest x y went = stops_first step rest x y went

-- and where the second one did
pub second_fails : {X E : Type 0} (r : Result X E) (one step : Step) (rest : List Step) (x y z : Option (List Taken)) → Went (taken one false ∷ []) x y
    → Went (taken step (is_err r) ∷ []) y z
    → OnErr r (StopsIn (one ∷ step ∷ rest) [] x z)
second_fails (Ok v) one step rest x y z h k = tt
second_fails (Err e) one step rest x y z h k = stops_later (one ∷ []) (step ∷ rest) x y z h (stops_first step rest y z k)

-- and a later one
pub later_fails : {X E : Type 0} (r : Result X E) (a : List Step) (step : Step) (x y z : Option (List Taken)) → Went (done a) x y
    → Went (taken step (is_err r) ∷ []) y z
    → OnErr r (StopsIn (a ++ step ∷ []) [] x z)
later_fails (Ok v) a step x y z h k = tt
later_fails (Err e) a step x y z h k = stops_later a (step ∷ []) x y z h (stops_first step [] y z k)

-- and one of those of a call behind others
pub call_fails : {X E : Type 0} (r : Result X E) (a b : List Step) (x y z : Option (List Taken)) → Went (done a) x y → OnErr r (StopsIn b [] y z)
    → OnErr r (StopsIn (a ++ b) [] x z)
call_fails (Ok v) a b x y z h k = tt
call_fails (Err e) a b x y z h k = stops_later a b x y z h k
