-- An edit that is listed under some of the things that it names.
use Rattle.std.proofs.Common.{◌≡◌, ◌∙◌, Bool, true, false, not, ◌||◌, ◌&&◌, List, [], ◌∷◌, refl, ap, sym}
use Rattle.std.specs.List.{list_any}
use Rattle.zed_types.specs.declared.stamp.Stamp.{Stamp}
use Rattle.zed_types.specs.Stamp.{same_stamp}
use Rattle.zed_op.specs.declared.op.Edit.{Edit}
use Rattle.zed_op.specs.declared.thing.Thing.{Thing}
use Rattle.zed_op.specs.Names.{names_of}
use Rattle.zed_inbox.specs.Waiting.{same_thing, names}
use Rattle.zed_inbox.specs.Kept.{is_listed, belongs, IsUnlisted, ListsOne, ListsOneLess, ListsAlso, ListsNoMore, ListsTheSame}
use Rattle.zed_inbox.proofs.Holding.{unlisted_at}

or_none : (a : Bool) → (a || false) ≡ a
or_none true = refl
or_none false = refl

and_all : (a : Bool) → (a && true) ≡ a
and_all true = refl
and_all false = refl

-- p is whether this thing is meant, t whether the stamp is, and r whether a later thing is
put_in : (p t a r : Bool) → ((a || (p && t)) || (r && t)) ≡ (a || ((p || r) && t))
put_in p t true r = refl
put_in true true false r = refl
put_in true false false true = refl
put_in true false false false = refl
put_in false t false r = refl

taken_out : (p t a r : Bool) → ((a && not (p && t)) && not (r && t)) ≡ (a && not ((p || r) && t))
taken_out p t false r = refl
taken_out true true true r = refl
taken_out true false true true = refl
taken_out true false true false = refl
taken_out false t true r = refl

-- what was listed halfway, and is taken out again, is what was listed before, where nothing was listed for the stamp
out_again : (t a o n r : Bool) → (a || (r && t)) ≡ (o || (n && t)) → (t ≡ true → o ≡ false) → (a && not (n && t)) ≡ o
out_again true true o true r e h = sym (h refl)
out_again true false o true r e h = sym (h refl)
out_again true true o false r e h = e ∙ or_none o
out_again true false o false r e h = sym (h refl)
out_again false a o true true e h = and_all a ∙ sym (or_none a) ∙ e ∙ or_none o
out_again false a o true false e h = and_all a ∙ sym (or_none a) ∙ e ∙ or_none o
out_again false a o false true e h = and_all a ∙ sym (or_none a) ∙ e ∙ or_none o
out_again false a o false false e h = and_all a ∙ sym (or_none a) ∙ e ∙ or_none o

-- whether a thing is one of some
abbrev pub is_among : Thing → List Thing → Bool
is_among x ns = list_any (λ n. same_thing n x) ns

-- with the things that are left, an edit is listed
pub record IsHalf (e : Edit) (left : List Thing) (old now : List (Thing × Stamp)) : Type 0 where
  pub each : (x : Thing) (s : Stamp)
      → (is_listed x s now || (is_among x left && same_stamp e.stamp s)) ≡ (is_listed x s old || belongs x s e)

pub begun : (e : Edit) (left : List Thing) (old : List (Thing × Stamp)) → left ≡ names_of e.op → IsHalf e left old old
begun e left old is = record { each = λ x s. ap (λ ns. is_listed x s old || (is_among x ns && same_stamp e.stamp s)) is }

pub one_on : (e : Edit) (n : Thing) (left more : List Thing) (old now new : List (Thing × Stamp)) → IsHalf e left old now → left ≡ n ∷ more
    → ListsOne n e.stamp now new
    → IsHalf e more old new
one_on e n left more old now new half is one = record {
  each = λ x s.
      ap (λ b. b || (is_among x more && same_stamp e.stamp s)) (one.each x s)
      ∙ put_in (same_thing n x) (same_stamp e.stamp s) (is_listed x s now) (is_among x more)
      ∙ sym (ap (λ ns. is_listed x s now || (is_among x ns && same_stamp e.stamp s)) is)
      ∙ half.each x s;
}

pub done : (e : Edit) (left : List Thing) (old now : List (Thing × Stamp)) → IsHalf e left old now → left ≡ [] → ListsAlso e old now
done e left old now half is = record {
  each = λ x s.
      sym (or_none (is_listed x s now))
      ∙ sym (ap (λ ns. is_listed x s now || (is_among x ns && same_stamp e.stamp s)) is)
      ∙ half.each x s;
}

pub undone : (e : Edit) (left : List Thing) (old now mid new : List (Thing × Stamp)) → IsUnlisted e.stamp old → IsHalf e left old now
    → mid ≡ now → ListsNoMore e mid new
    → ListsTheSame old new
undone e left old now mid new none half is gone = record {
  each = λ x s.
      gone.each x s
      ∙ ap (λ ws. is_listed x s ws && not (belongs x s e)) is
      ∙ out_again (same_stamp e.stamp s) (is_listed x s now) (is_listed x s old) (names x e) (is_among x left) (half.each x s) (unlisted_at e old x s none);
}

-- without the things that are left, an edit is no longer listed
pub record IsHalfOff (e : Edit) (left : List Thing) (old now : List (Thing × Stamp)) : Type 0 where
  pub each : (x : Thing) (s : Stamp)
      → (is_listed x s now && not (is_among x left && same_stamp e.stamp s)) ≡ (is_listed x s old && not (belongs x s e))

pub off_begun : (e : Edit) (left : List Thing) (old : List (Thing × Stamp)) → left ≡ names_of e.op → IsHalfOff e left old old
off_begun e left old is = record { each = λ x s. ap (λ ns. is_listed x s old && not (is_among x ns && same_stamp e.stamp s)) is }

pub one_off : (e : Edit) (n : Thing) (left more : List Thing) (old now new : List (Thing × Stamp)) → IsHalfOff e left old now
    → left ≡ n ∷ more → ListsOneLess n e.stamp now new
    → IsHalfOff e more old new
one_off e n left more old now new half is one = record {
  each = λ x s.
      ap (λ b. b && not (is_among x more && same_stamp e.stamp s)) (one.each x s)
      ∙ taken_out (same_thing n x) (same_stamp e.stamp s) (is_listed x s now) (is_among x more)
      ∙ sym (ap (λ ns. is_listed x s now && not (is_among x ns && same_stamp e.stamp s)) is)
      ∙ half.each x s;
}

pub off_done : (e : Edit) (left : List Thing) (old now : List (Thing × Stamp)) → IsHalfOff e left old now → left ≡ []
    → ListsNoMore e old now
off_done e left old now half is = record {
  each = λ x s.
      sym (and_all (is_listed x s now))
      ∙ sym (ap (λ ns. is_listed x s now && not (is_among x ns && same_stamp e.stamp s)) is)
      ∙ half.each x s;
}
