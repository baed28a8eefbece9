-- Many edits come to a body, one after the other.
use Rattle.std.proofs.Common.{◌≡◌, ℕ, zero, suc, Bool, true, false, List, [], ◌∷◌, drop, refl, sym, subst}
use Rattle.std.specs.List.{AllByRecursion}
use mathlib.Core.Logic.{inl, inr}
use Rattle.zed_types.specs.declared.stamp.Stamp.{Stamp}
use Rattle.zed_types.specs.Stamp.{before, same_stamp}
use Rattle.zed_types.proofs.StampOrder.{same_stamp-true, same_stamp-itself, before_differs}
use Rattle.zed_op.specs.declared.op.Edit.{Edit}
use Rattle.zed_op.specs.Fit.{Fits}
use Rattle.zed_op.specs.Set.{AllFit, with_edit}
use Rattle.zed_op.proofs.Sets.{Member-all, with_edit-rising, with_edit-members}
use Rattle.zed_op.proofs.SetLaws.{edit_keeps_fit}
use Rattle.zed_live.specs.Document.{NoneIsEmpty as LiveNone, DocumentShows}
use Rattle.zed_live.specs.declared.document.LiveDocument.{LiveDocument}
use Rattle.zed_texts.specs.Shows.{NoneIsEmpty as TextsNone, TextsShow}
use Rattle.zed_texts.specs.Texts.{Texts, elements_of}
use Rattle.zed_delivery.specs.declared.body.Body.{Body}
use Rattle.zed_delivery.specs.Counts.{HaveFew}
use Rattle.zed_delivery.specs.Taking.{IsEmpty, IsApart, ComesTo, ShowsOneMore}
use Rattle.zed_delivery.specs.TakingAll.{AreApart, AllComeTo, ComeOneByOne, EmptyShowsNone, RisingAreApart}
use Rattle.zed_delivery.proofs.Members.{all-members}
use Rattle.zed_delivery.proofs.Stirring.{few_of_none}

-- ---- stamps that differ

other-way : (a b : Stamp) → same_stamp a b ≡ false → (v : Bool) → same_stamp b a ≡ v → v ≡ false
other-way a b d false k = refl
other-way a b d true k =
    let t = subst (λ s. same_stamp a s ≡ true) (sym (same_stamp-true b a k)) (same_stamp-itself a) in
    absurd (cc)

apart-more : (g e : Edit) (es : List Edit) → IsApart g es → same_stamp e.stamp g.stamp ≡ false → IsApart g (with_edit e es)
apart-more g e es a d = all-members (λ f. same_stamp g.stamp f.stamp ≡ false) (with_edit e es) (λ f m. elim (with_edit-members f e es m) [
  | inl q ↦ subst (λ (x : Edit). same_stamp g.stamp x.stamp ≡ false) q (other-way e.stamp g.stamp d (same_stamp g.stamp e.stamp) refl)
  | inr k ↦ Member-all (λ x. same_stamp g.stamp x.stamp ≡ false) es a f k
])

all-apart-more : (e : Edit) (es rest : List Edit) → AllByRecursion (λ g. IsApart g es) rest → IsApart e rest
    → AllByRecursion (λ g. IsApart g (with_edit e es)) rest
all-apart-more e es [] a d = tt
all-apart-more e es (g ∷ rest) a d = (apart-more g e es a.0 d.0, all-apart-more e es rest a.1 d.1)

apart-none : (es : List Edit) → AllByRecursion (λ e. IsApart e []) es
apart-none [] = tt
apart-none (e ∷ es) = (tt, apart-none es)

-- ---- one after the other

first-comes : (e : Edit) (rest es : List Edit) (b : Body) → AllComeTo (e ∷ rest) es b → ComesTo e es b
first-comes e rest es b k = record { rising = k.rising; fit = k.fit; shows = k.shows; apart = k.apart.0 }

pub one_more_came : (more : List Edit) (b : Body) (e : Edit) (rest : List Edit) (c d : Body) → Fits e → ComeOneByOne more b (e ∷ rest) c
    → ShowsOneMore e c d
    → ComeOneByOne more b rest d
one_more_came more b e rest c d fits come shows es h =
    let k = come es h in
    let a = k.1 in (
      with_edit e k.0,
      record {
        rising = with_edit-rising e k.0 a.rising;
        fit = edit_keeps_fit e k.0 fits a.fit;
        shows = shows k.0 (first-comes e rest k.0 c a);
        apart = all-apart-more e k.0 rest a.apart.1 a.among.0;
        among = a.among.1;
      },
      k.2,
    )

pub rest_fits : (i : ℕ) (es : List Edit) → AllFit es → AllFit (drop i es)
rest_fits zero es a = a
rest_fits (suc i) [] a = tt
rest_fits (suc i) (e ∷ es) a = rest_fits i es a.1

-- ---- from no edit on

pub empty_shows_none : LiveNone → TextsNone → EmptyShowsNone
empty_shows_none live texts b h =
    let P : LiveDocument → Type 0 = λ d. DocumentShows [] d in
    let Q : Texts → Type 0 = λ ts. TextsShow [] (elements_of ts) in
    record {
      content = record {
        live = subst P (sym h.0) live;
        texts = subst Q (sym h.1) texts;
        few = subst (HaveFew []) (sym h.1) few_of_none;
      };
      waiting = h.2;
    }

pub all_come_to_none : EmptyShowsNone → (more : List Edit) (b : Body) → IsEmpty b → AreApart more → AllComeTo more [] b
all_come_to_none none more b h a = record { rising = tt; fit = tt; shows = none b h; apart = apart-none more; among = a }

pub rising_are_apart : RisingAreApart
rising_are_apart [] r = tt
rising_are_apart (e ∷ es) r = (all-members (λ f. same_stamp e.stamp f.stamp ≡ false) es (λ f m. before_differs e.stamp f.stamp (Member-all (λ g. before e.stamp g.stamp ≡ true) es r.0 f m)), rising_are_apart es r.1)
