-- Taking edits out of a rising list, one by one.
use Rattle.std.proofs.Common.{◌≡◌, ◌∙◌, Bool, true, false, cond, not, List, [], ◌∷◌, ◌++◌, Option, Some, None, append_assoc, refl, ap, sym}
use Rattle.std.specs.List.{find, filter, AllByRecursion}
use Rattle.zed_types.specs.declared.stamp.Stamp.{Stamp}
use Rattle.zed_types.specs.Stamp.{before, same_stamp}
use Rattle.zed_types.proofs.StampOrder.{same_stamp-itself, before_differs}
use Rattle.zed_op.specs.declared.op.Edit.{Edit}
use Rattle.zed_op.specs.Set.{IsRising, stamps_of}
use Rattle.zed_inbox.specs.Waiting.{without}
use Rattle.zed_inbox.proofs.Stamped.{has_stamp}

all_without : (P : Edit → Type 0) (s : Stamp) (es : List Edit) → AllByRecursion P es → AllByRecursion P (without s es)
all_without P s [] a = tt
all_without P s (e ∷ es) a = go (same_stamp e.stamp s) (all_without P s es a.1)
  where
    go : (b : Bool) → AllByRecursion P (without s es) → AllByRecursion P (cond b es (e ∷ without s es))
    go true more = a.1
    go false more = (a.0, more)

pub rising_without : (s : Stamp) (es : List Edit) → IsRising es → IsRising (without s es)
rising_without s [] r = tt
rising_without s (e ∷ es) r = go (same_stamp e.stamp s) (rising_without s es r.1)
  where
    go : (b : Bool) → IsRising (without s es) → IsRising (cond b es (e ∷ without s es))
    go true more = r.1
    go false more = (all_without (λ f. before e.stamp f.stamp ≡ true) s es r.0, more)

abbrev first_or : Stamp → List Stamp → Stamp
first_or d [] = d
first_or d (s ∷ ss) = s

abbrev rest_of : List Stamp → List Stamp
rest_of [] = []
rest_of (s ∷ ss) = ss

abbrev pub some_or : Edit → Option Edit → Edit
some_or d None = d
some_or d (Some e) = e

module _ (p : Edit → Bool) where
  abbrev pub fails : Edit → Bool
  fails e = not (p e)

  abbrev keep : Bool → Edit → List Edit → List Edit
  keep b f es = cond b (f ∷ es) es

  -- the first stamp of those that pass is later than a stamp before all
  later : (f : Edit) (s : Stamp) (ss : List Stamp) (es : List Edit) → AllByRecursion (λ g. before f.stamp g.stamp ≡ true) es
      → s ∷ ss ≡ stamps_of (filter p es)
      → before f.stamp s ≡ true
  later f s ss [] a h = absurd (cc)
  later f s ss (g ∷ gs) a h = go (p g) refl (λ k. later f s ss gs a.1 k)
    where
      go : (b : Bool) → p g ≡ b → (s ∷ ss ≡ stamps_of (filter p gs) → before f.stamp s ≡ true) → before f.stamp s ≡ true
      go true e more =
          let h' : s ∷ ss ≡ g.stamp ∷ stamps_of (filter p gs) = h ∙ ap (λ b. stamps_of (keep b g (filter p gs))) e in
          let first : s ≡ g.stamp = ap (first_or s) h' in
          ap (λ t. before f.stamp t) first ∙ a.0
      go false e more = more (h ∙ ap (λ b. stamps_of (keep b g (filter p gs))) e)

  -- the first edit that passes is found by its stamp
  pub record TakesFirst (s : Stamp) (es : List Edit) : Type 0 where
    pub edit : Edit
    pub found : find (has_stamp s) es ≡ Some edit
    pub first : filter p es ≡ edit ∷ filter p (without s es)
    pub others : filter fails (without s es) ≡ filter fails es

  pub take_first : (s : Stamp) (ss : List Stamp) (es : List Edit) → IsRising es → s ∷ ss ≡ stamps_of (filter p es) → TakesFirst s es
  take_first s ss [] r h = absurd (cc)
  take_first s ss (f ∷ fs) r h = go (p f) refl (λ k. take_first s ss fs r.1 k)
    where
      go : (b : Bool) → p f ≡ b → (s ∷ ss ≡ stamps_of (filter p fs) → TakesFirst s fs) → TakesFirst s (f ∷ fs)
      go true e more =
          let h' : s ∷ ss ≡ f.stamp ∷ stamps_of (filter p fs) = h ∙ ap (λ b. stamps_of (keep b f (filter p fs))) e in
          let first : s ≡ f.stamp = ap (first_or s) h' in
          let same : same_stamp f.stamp s ≡ true = ap (λ t. same_stamp f.stamp t) first ∙ same_stamp-itself f.stamp in
          record {
            edit = f;
            found = ap (λ b. cond b (Some f) (find (has_stamp s) fs)) same;
            first = ap (λ b. keep b f (filter p fs)) e ∙ ap (λ b. f ∷ filter p (cond b fs (f ∷ without s fs))) (sym same);
            others = ap (λ b. filter fails (cond b fs (f ∷ without s fs))) same ∙ sym (ap (λ b. keep (not b) f (filter fails fs)) e);
          }
      go false e more =
          let h' : s ∷ ss ≡ stamps_of (filter p fs) = h ∙ ap (λ b. stamps_of (keep b f (filter p fs))) e in
          let apart : same_stamp f.stamp s ≡ false = before_differs f.stamp s (later f s ss fs r.0 h') in
          let rest = more h' in
          record {
            edit = rest.edit;
            found = ap (λ b. cond b (Some f) (find (has_stamp s) fs)) apart ∙ rest.found;
            first = ap (λ b. keep b f (filter p fs)) e ∙ rest.first
                ∙ ap (λ es. rest.edit ∷ es) (sym (ap (λ b. filter p (cond b fs (f ∷ without s fs))) apart ∙ ap (λ b. keep b f (filter p (without s fs))) e));
            others = ap (λ b. filter fails (cond b fs (f ∷ without s fs))) apart ∙ ap (λ b. keep (not b) f (filter fails (without s fs))) e
                ∙ ap (λ es. f ∷ es) rest.others ∙ sym (ap (λ b. keep (not b) f (filter fails fs)) e);
          }

  -- where no edit passes, the others are all
  pub none_passes : (es : List Edit) → [] ≡ stamps_of (filter p es) → (filter p es ≡ []) × (filter fails es ≡ es)
  none_passes [] h = (refl, refl)
  none_passes (f ∷ fs) h = go (p f) refl (λ k. none_passes fs k)
    where
      go : (b : Bool) → p f ≡ b → ([] ≡ stamps_of (filter p fs) → (filter p fs ≡ []) × (filter fails fs ≡ fs))
          → (filter p (f ∷ fs) ≡ []) × (filter fails (f ∷ fs) ≡ f ∷ fs)
      go true e more = let bad : [] ≡ f.stamp ∷ stamps_of (filter p fs) = h ∙ ap (λ b. stamps_of (keep b f (filter p fs))) e in absurd (cc)
      go false e more =
          let rest = more (h ∙ ap (λ b. stamps_of (keep b f (filter p fs))) e) in
          (ap (λ b. keep b f (filter p fs)) e ∙ rest.0, ap (λ b. keep (not b) f (filter fails fs)) e ∙ ap (λ es. f ∷ es) rest.1)

  -- one edit more is out
  pub record IsStep (s : Stamp) (ss : List Stamp) (out : List Edit) (edit : Edit) (es : List Edit) : Type 0 where
    pub left : ss ≡ stamps_of (filter p (without s es))
    pub got : (out ++ edit ∷ []) ++ filter p (without s es) ≡ out ++ filter p es
    pub others : filter fails (without s es) ≡ filter fails es
    pub rising : IsRising (without s es)

  pub step : (s : Stamp) (ss : List Stamp) (out : List Edit) (edit : Edit) (es : List Edit) → IsRising es → s ∷ ss ≡ stamps_of (filter p es)
      → find (has_stamp s) es ≡ Some edit
      → IsStep s ss out edit es
  step s ss out edit es r h found =
      let t = take_first s ss es r h in
      let same : t.edit ≡ edit = ap (some_or edit) (sym t.found ∙ found) in
      let tails : s ∷ ss ≡ t.edit.stamp ∷ stamps_of (filter p (without s es)) = h ∙ ap stamps_of t.first in
      record {
        left = ap rest_of tails;
        got =
            append_assoc out (edit ∷ []) (filter p (without s es)) ∙ ap (λ e. out ++ e ∷ filter p (without s es)) (sym same)
            ∙ ap (λ xs. out ++ xs) (sym t.first);
        others = t.others;
        rising = rising_without s es r;
      }
