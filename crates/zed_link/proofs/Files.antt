-- A pull of a whole file.
use Rattle.std.proofs.Common.{◌≡◌, ◌∙◌, ◌++◌, ◌+◌, ◌*◌, ◌<◌, ◌^◌, ◌≢◌, ◌⊎◌, eqb, not, false, true, ℕ, List, [], ◌∷◌, Option, Some, None, Ok, Err, refl, ap, sym, subst, arith, length, append_assoc, rules, OnOk}
use mathlib.Core.Logic.{inl, inr}
use Rattle.std.proofs.lemmas.List.{append-nil, length-append}
use Rattle.zed_op.specs.declared.op.Edit.{Edit}
use Rattle.zed_editfile.specs.declared.error.EditFileError.{EditFileError}
use Rattle.zed_editfile.specs.declared.error.EditFileError.TheVariants as file
use Rattle.zed_editfile.specs.Laws.{FrontsAreRead, IsCalm, IsFrontOf, ReadsOneWay, TextsAreRead}
use Rattle.zed_editfile.specs.Stream.{AreRecords, IsTextOf, Progress, Reads, ending, ending_by, is_other}
use Rattle.zed_document.specs.declared.error.DocumentError.TheVariants as document
use Rattle.zed_document.specs.Delivery.{DeliversEach}
use Rattle.zed_document.specs.Replica.{Replica}
use Rattle.zed_link.specs.declared.error.LinkError.TheVariants.{Memory, Magic, NewVersion, OtherWorld, RecordLength, BadEdit, CutShort, Clash, Stale, LinkFault, TooManyTurns}
use Rattle.zed_link.specs.declared.pulled.Pulled.{Pulled}
use Rattle.zed_link.specs.Ends.{Changed, HandedAll, HandedOver, LinkEnds}
use Rattle.zed_link.specs.Laws.{FilesArePulled, PullsFile}
use Rattle.zed_link.specs.Pull.{AllDelivered, FromReads, FrontDelivered, LeavesDocument, LeavesLink, least_read, reads_made}
use Rattle.zed_link.specs.Tally.{states, tally}
use Rattle.zed_link.proofs.Deliveries.{all_is_front, refused_before, stop_is_front}
use Rattle.zed_link.proofs.EndsLaws.{failed_over, handed_over, may_fail}
use Rattle.zed_link.proofs.Outcomes.{Answer, refused}
use Rattle.zed_link.proofs.Paces.{is_long}

-- ---- the link

bytes_over : (r : Answer) (n : ℕ) (bytes : List ℕ) (old new : Option LinkEnds) → LeavesLink r n bytes old new
    → Changed (HandedOver bytes) old new
bytes_over (Ok pulled) n bytes old new l = handed_over bytes old new l.0
bytes_over (Err CutShort) n bytes old new l = handed_over bytes old new l.0
bytes_over (Err LinkFault) n bytes old new l = failed_over bytes old new l.0
bytes_over (Err TooManyTurns) n bytes old new l = l.0
bytes_over (Err e) n bytes old new l = l.0

-- what was handed over, and what is left then
left_over : (bytes : List ℕ) (old new : Option LinkEnds) (t : LinkEnds) → old ≡ Some t → Changed (HandedOver bytes) old new
    → (rest : List ℕ) × (bytes ++ rest ≡ t.left)
left_over bytes old new t told over =
    let h = subst (λ (o : Option LinkEnds). Changed (HandedOver bytes) o new) told over in
    (h.0.left, sym h.1.0)

-- all was handed over
all_over : (bytes : List ℕ) (old new : Option LinkEnds) (t : LinkEnds) → old ≡ Some t → Changed (HandedAll bytes) old new → bytes ≡ t.left
all_over bytes old new t told over =
    let h = subst (λ (o : Option LinkEnds). Changed (HandedAll bytes) o new) told over in
    sym (append-nil bytes) ∙ ap (λ (rest : List ℕ). bytes ++ rest) (sym h.1.1) ∙ sym h.1.0.0

-- ---- the reader

same_number : (w : ℕ) → eqb w w ≡ true
same_number w = search rules

asked_for : (asked : Option ℕ) (w : ℕ) → asked ≡ Some w → is_other asked w ≡ false
asked_for asked w is = subst (λ (o : Option ℕ). is_other o w ≡ false) (sym is) (ap not (same_number w))

-- a reader without a fault ends well, or cut
calm_end : (p : Progress) (f : EditFileError) → IsCalm p → ending p ≡ Some f → (f ≡ file.Memory) ⊎ ((f ≡ file.CutShort) × (p.fault ≡ None))
calm_end p f (inr memory) is = inl (let same : Some file.Memory ≡ Some f = sym (ap (λ (o : Option EditFileError). ending_by o p.world p.rest) memory) ∙ is in cc)
calm_end p f (inl none) is = inr (go p.world p.rest (sym (ap (λ (o : Option EditFileError). ending_by o p.world p.rest) none) ∙ is), none)
  where
    go : (w : Option ℕ) (rest : List ℕ) → ending_by None w rest ≡ Some f → f ≡ file.CutShort
    go None rest h = cc
    go (Some n) [] h = absurd cc
    go (Some n) (b ∷ rest) h = cc

-- where a reader is that read a whole file
abbrev at_end : Option ℕ → ℕ → ℕ → Progress
at_end asked n version = record { asked = asked; world = Some n; version = version; rest = []; fault = None }

calm_at_end : (asked : Option ℕ) (n version : ℕ) → (at_end asked n version).fault ≢ Some file.Memory
calm_at_end asked n version h = cc

-- whoever read a whole file may end there
whole_end : ReadsOneWay → TextsAreRead → (n : ℕ) (es found : List Edit) (bytes : List ℕ) (p : Progress) → n < 2 ^ 64 → AreRecords es
    → IsTextOf n es bytes → is_other p.asked n ≡ false → p.fault ≡ None → Reads bytes found p
    → ending p ≡ None
whole_end one texts n es found bytes p lt good text other calm reads =
    let whole = texts p.asked n es bytes lt other good text in
    let same = one bytes found es p (at_end p.asked n text.version) refl (λ bad. let both : None ≡ Some file.Memory = sym calm ∙ bad in cc) (calm_at_end p.asked n text.version) reads whole in
    ap ending same.1

-- two files of one world with one text have the same edits
same_edits : ReadsOneWay → TextsAreRead → (n : ℕ) (es fs : List Edit) (bytes : List ℕ) → n < 2 ^ 64 → AreRecords es → AreRecords fs
    → IsTextOf n es bytes → IsTextOf n fs bytes
    → es ≡ fs
same_edits one texts n es fs bytes lt good fine a b =
    let first = texts None n es bytes lt refl good a in
    let other = texts None n fs bytes lt refl fine b in
    (one bytes es fs (at_end None n a.version) (at_end None n b.version) refl (calm_at_end None n a.version) (calm_at_end None n b.version) first other).0

-- ---- the pull

-- a front of the first edits is a front of all
front_of_front : (d : Replica) (found es left : List Edit) → IsFrontOf found es → FrontDelivered d found left → FrontDelivered d es left
front_of_front d found es left first front =
    (front.0, front.1 ++ first.0, first.1 ∙ ap (λ (t : List Edit). t ++ first.0) front.2 ∙ append_assoc front.0 front.1 first.0, front.3)

-- no refusal of a file but that it is cut comes where the reader is calm
no_refusal : (p : Progress) (f : EditFileError) → (f ≡ file.Memory → ⊥) → (f ≡ file.CutShort → ⊥) → IsCalm p → ending p ≡ Some f → ⊥
no_refusal p f m c calm is = elim (calm_end p f calm is) [ inl memory ↦ m memory | inr cut ↦ c cut.0 ]

-- and that it is cut comes at its end alone, where a whole file isn't
no_cut : (p : Progress) → IsCalm p → (p.fault ≡ None → ending p ≡ None) → ending p ≡ Some file.CutShort → ⊥
no_cut p calm at_end is = elim (calm_end p file.CutShort calm is) [
  | inl memory ↦ absurd cc
  | inr cut ↦ let both : None ≡ Some file.CutShort = sym (at_end cut.1) ∙ is in absurd cc
]

-- what is known of a pull of a whole file, before its answer is looked at
record Known (t : LinkEnds) (d : Replica) (es found : List Edit) (bytes : List ℕ) (n : ℕ) (p : Progress) (r : Answer) : Type 0 where
  first : IsFrontOf found es
  calm : IsCalm p
  many : n * least_read (Some t) < length t.left + least_read (Some t)
  all : (pulled : Pulled) → r ≡ Ok pulled → AreRecords found → IsTextOf d.world found bytes → found ≡ es
  whole : (pulled : Pulled) → r ≡ Ok pulled → bytes ≡ t.left
  end : r ≡ refused CutShort → p.fault ≡ None → ending p ≡ None

comes_to : (t : LinkEnds) (d : Replica) (es found : List Edit) (bytes : List ℕ) (n reads : ℕ) (p : Progress) (r : Answer) (left : List Edit) (old new : Option LinkEnds)
    → old ≡ Some t → Known t d es found bytes n p r
    → reads ≡ reads_made r n → LeavesLink r reads bytes old new → LeavesDocument d bytes found p r left → PullsFile t d es r left
comes_to t d es found bytes n reads p (Ok pulled) left old new told k made link (good, text, all, counted) =
    let same : found ≡ es = k.all pulled refl good text in
    subst (λ (fs : List Edit). AllDelivered d fs left × (pulled ≡ tally (states d.edits fs))) same (all, counted)
comes_to t d es found bytes n reads p (Err (Clash s)) left old new told k made link of =
    subst (λ (fs : List Edit). DeliversEach d fs (Err (document.Clash s)) left) (sym k.first.1) (refused_before d found k.first.0 (document.Clash s) left of)
comes_to t d es found bytes n reads p (Err Memory) left old new told k made link of = front_of_front d found es left k.first (elim of [
  | inl stop ↦ stop_is_front d found left stop
  | inr refusal ↦ all_is_front d found left refusal.1
])
comes_to t d es found bytes n reads p (Err LinkFault) left old new told k made link of =
    (front_of_front d found es left k.first (all_is_front d found left of.1), may_fail bytes t old new told link.0)
comes_to t d es found bytes n reads p (Err TooManyTurns) left old new told k made link of = (
  front_of_front d found es left k.first (all_is_front d found left of.1),
  is_long (least_read (Some t)) (length t.left) (subst (λ (n : ℕ). n * least_read (Some t) < length t.left + least_read (Some t)) (sym made ∙ link.1) k.many),
)
comes_to t d es found bytes n reads p (Err Magic) left old new told k made link of =
    absurd (no_refusal p file.Magic (λ h. cc) (λ h. cc) k.calm of.0)
comes_to t d es found bytes n reads p (Err NewVersion) left old new told k made link of =
    absurd (no_refusal p file.NewVersion (λ h. cc) (λ h. cc) k.calm of.0)
comes_to t d es found bytes n reads p (Err OtherWorld) left old new told k made link of =
    absurd (no_refusal p file.OtherWorld (λ h. cc) (λ h. cc) k.calm of.0)
comes_to t d es found bytes n reads p (Err RecordLength) left old new told k made link of =
    absurd (no_refusal p file.RecordLength (λ h. cc) (λ h. cc) k.calm of.0)
comes_to t d es found bytes n reads p (Err (BadEdit c)) left old new told k made link of =
    absurd (no_refusal p (file.BadEdit c) (λ h. cc) (λ h. cc) k.calm of.0)
comes_to t d es found bytes n reads p (Err CutShort) left old new told k made link of = absurd (no_cut p k.calm (k.end refl) of.0)
comes_to t d es found bytes n reads p (Err Stale) left old new told k made link of = absurd of

-- nothing is left where all went well
leaves_nothing : (t : LinkEnds) (d : Replica) (es found : List Edit) (bytes : List ℕ) (n reads : ℕ) (p : Progress) (r : Answer) (left : List Edit) (old new : Option LinkEnds)
    → Known t d es found bytes n p r
    → LeavesLink r reads bytes old new → LeavesDocument d bytes found p r left → OnOk r (Changed (HandedAll t.left) old new)
leaves_nothing t d es found bytes n reads p (Ok pulled) left old new k link (good, text, all, counted) =
    subst (λ (x : List ℕ). Changed (HandedAll x) old new) (k.whole pulled refl) link.0
leaves_nothing t d es found bytes n reads p (Err e) left old new k link document = tt

pub files_are_pulled : ReadsOneWay → TextsAreRead → FrontsAreRead → FilesArePulled
files_are_pulled one texts fronts d es old new count count' r left h pull =
    let w : ℕ = d.world in
    let p : Progress = pull.reader in
    let over : Changed (HandedOver pull.handed) old new = bytes_over r pull.reads pull.handed old new pull.link in
    let rest = left_over pull.handed old new h.ends h.told over in
    let same : IsTextOf w es (pull.handed ++ rest.0) = subst (λ (x : List ℕ). IsTextOf w es x) (sym rest.1) h.text in
    let other : is_other p.asked w ≡ false = asked_for p.asked w pull.asks in
    let front = fronts w es pull.edits pull.handed rest.0 p h.number h.records other same pull.spells in
    let sum = length-append pull.handed rest.0 in
    let long = ap length rest.1 in
    let size = (subst (λ (o : Option LinkEnds). FromReads (least_read o) pull.pieces pull.handed) h.told pull.size).0 in
    let known : Known h.ends d es pull.edits pull.handed pull.pieces p r = record {
      first = front.0;
      calm = front.1;
      many = omega arith;
      all = λ counts is good text.
          let link = subst (λ (r : Answer). LeavesLink r pull.reads pull.handed old new) is pull.link in
          let whole = all_over pull.handed old new h.ends h.told link.0 in
          same_edits one texts w pull.edits es pull.handed h.number good h.records text (subst (λ (x : List ℕ). IsTextOf w es x) (sym whole) h.text);
      end = λ is calm.
          let link = subst (λ (r : Answer). LeavesLink r pull.reads pull.handed old new) is pull.link in
          let whole = all_over pull.handed old new h.ends h.told link.0 in
          whole_end one texts w es pull.edits pull.handed p h.number h.records (subst (λ (x : List ℕ). IsTextOf w es x) (sym whole) h.text) other calm pull.spells;
      whole = λ counts is.
          let link = subst (λ (r : Answer). LeavesLink r pull.reads pull.handed old new) is pull.link in
          all_over pull.handed old new h.ends h.told link.0;
    } in
    (comes_to h.ends d es pull.edits pull.handed pull.pieces pull.reads p r left old new h.told known pull.made pull.link pull.document, leaves_nothing h.ends d es pull.edits pull.handed pull.pieces pull.reads p r left old new known pull.link pull.document)
