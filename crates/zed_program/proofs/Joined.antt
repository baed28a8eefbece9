-- What pulls over links that hold edit files come to.
use Rattle.zed_document.specs.declared.error.DocumentError.TheVariants as document
use Rattle.zed_link.specs.declared.error.LinkError.TheVariants as link
use Rattle.zed_types.specs.declared.stamp.Stamp.{Stamp}
use Rattle.zed_op.specs.declared.op.Edit.{Edit}
use Rattle.zed_document.specs.declared.error.DocumentError.{DocumentError}
use Rattle.zed_link.specs.declared.error.LinkError.{LinkError}
use Rattle.zed_files.specs.declared.refusal.Refusal.{Refusal}
use Rattle.zed_files.specs.declared.refusal.Refusal.TheVariants.{Memory, NoLink}
use Rattle.std.proofs.Common.{◌≡◌, ◌∙◌, ◌≤◌, ◌<◌, ◌^◌, ◌++◌, arith, ℕ, false, List, [], ◌∷◌, length, take, zero, suc, Option, Some, None, Result, Ok, Err, refl, ap, sym, subst, map, append_assoc, append-nil, inl, inr}
use Rattle.std.specs.Prelude.{◌⊎◌, Contains, MatchBool, option_map}
use Rattle.std.proofs.lemmas.List.{length-map, length-take-le}
use Rattle.zed_op.specs.Set.{Agrees, AllFit, set_of}
use Rattle.zed_op.proofs.SetLaws.{agree_left}
use Rattle.zed_editfile.specs.Stream.{AreRecords}
use Rattle.zed_document.specs.Delivery.{DeliveriesComeToSets, DeliversEach}
use Rattle.zed_document.specs.Replica.{Replica}
use Rattle.zed_link.specs.Ends.{LinkEnds}
use Rattle.zed_link.specs.Laws.{DeliveriesGoOn, FilesArePulled, HoldsFile, IsLong, MayFail, PullsFile}
use Rattle.zed_link.specs.Pull.{AllDelivered}
use Rattle.zed_link.proofs.Readings.{records_fit}
use Rattle.zed_session.specs.Links.{LinkSeen}
use Rattle.zed_program.specs.Devices.{Devices}
use Rattle.zed_words.specs.Commands.{Merge}
use Rattle.zed_files.specs.Files.{AreTextsOf, IsTextIn, joined}
use Rattle.zed_host.specs.HostContents.{HostContents}
use Rattle.zed_program.specs.Joining.{AsksToMerge, HasLink, IsOfLinks, MergesSet, left_on}
use Rattle.zed_action.specs.Deeds.{with_edits}
use Rattle.zed_program.specs.Merged.{IsMerged, PullsEach, empty_document, writes_joined}
use Rattle.zed_program.specs.Outcome.{EndsCalmly, HasStatus}
use Rattle.zed_driver.specs.Effects.{Effect}
use Rattle.zed_program.specs.Ends.{as_effect}
use Rattle.zed_files.specs.Refusals.{link_refusal}
use Rattle.zed_program.proofs.Pulls.{not_fewer}
use Rattle.zed_program.proofs.FileTexts.{no_clash, records_left, records_right}

-- a link that holds a text tells its ends
holds : (d : Replica) (es : List Edit) (ends : Option LinkEnds) → d.world < 2 ^ 64 → AreRecords es
    → IsTextIn d.world es (option_map (λ t. t.left) ends) → HoldsFile d es ends
holds d es None small good is = absurd is
holds d es (Some t) small good is = record { ends = t; told = refl; number = small; records = good; text = is }

abbrev all_done : Result (Unit {0}) DocumentError
all_done = Ok tt

abbrev stopped : DocumentError → Result (Unit {0}) DocumentError
stopped e = Err e

-- the edits of a document without any, after all of these, are their set
set_left : DeliveriesComeToSets → (d : Replica) (es left : List Edit) → d.is_stale ≡ false → d.edits ≡ [] → AllFit es
    → AllDelivered d es left
    → left ≡ set_of es
set_left law d es left sound empty fit all =
    elim (law d es (Ok tt) left sound empty fit all) [
      | inl set ↦ set.2
      | inr clash ↦ absurd (let bad : all_done ≡ stopped (document.Clash clash.0) = clash.2 in cc)
    ]

-- edits that agree don't clash
never_clash : DeliveriesComeToSets → (d : Replica) (es left : List Edit) (s : Stamp) → d.is_stale ≡ false → d.edits ≡ [] → AllFit es
    → Agrees es
    → DeliversEach d es (Err (document.Clash s)) left → ⊥
never_clash law d es left s sound empty fit agrees each =
    elim (law d es (Err (document.Clash s)) left sound empty fit each) [
      | inl set ↦ (let bad : stopped (document.Clash s) ≡ all_done = set.0 in cc)
      | inr clash ↦ no_clash es clash.0 agrees clash.1
    ]

here : {X : Type 0} (x : X) (xs : List X) → Contains (x ∷ xs) x
here x xs = (0, omega arith, refl)

there : {X : Type 0} (y x : X) (xs : List X) → Contains xs x → Contains (y ∷ xs) x
there y x xs c = let within = c.1 in (suc c.0, omega arith, c.2)

-- a pull of a whole file of the first of these links was refused for what isn't of the file
refused_so : (d : Replica) (l : LinkSeen) (links : List LinkSeen) (es left : List Edit) (file : HoldsFile d es l.ends) (e : LinkError)
    → ((s : Stamp) → DeliversEach d es (Err (document.Clash s)) left → ⊥) → PullsFile file.ends d es (Err e) left
    → IsOfLinks (l ∷ links) (link_refusal e)
refused_so d l links es left file link.Memory never pulls = inl refl
refused_so d l links es left file link.LinkFault never pulls = inr (inl (refl, (l, file.ends, here l links, file.told, pulls.1)))
refused_so d l links es left file link.TooManyTurns never pulls = inr (inr (refl, (l, file.ends, here l links, file.told, pulls.1)))
refused_so d l links es left file (link.Clash s) never pulls = absurd (never s pulls)
refused_so d l links es left file _ never pulls = absurd pulls

-- what is of some links is of more
has_more : (P : LinkEnds → Type 0) (l : LinkSeen) (links : List LinkSeen) → HasLink P links → HasLink P (l ∷ links)
has_more P l links has = (has.0, has.1, there l has.0 links has.2, has.3, has.4)

of_more : (l : LinkSeen) (links : List LinkSeen) (e : Refusal) → IsOfLinks links e → IsOfLinks (l ∷ links) e
of_more l links e (inl memory) = inl memory
of_more l links e (inr (inl (is, may))) = inr (inl (is, has_more MayFail l links may))
of_more l links e (inr (inr (is, long))) = inr (inr (is, has_more IsLong l links long))

-- what pulls over links that hold the files of these lists come to, after other edits were delivered
abbrev pub JoinedOr : List LinkSeen → List Edit → List (List Edit) → Result (List Edit) Refusal → Type 0
JoinedOr links before lists r = (r ≡ Ok (set_of (before ++ joined lists))) ⊎ ((e : Refusal) × IsOfLinks links e × (r ≡ Err e))

-- the same with the first of the lists among the edits before
one_before : (l : LinkSeen) (links : List LinkSeen) (before es : List Edit) (lists : List (List Edit)) (r : Result (List Edit) Refusal)
    → JoinedOr links (before ++ es) lists r → JoinedOr (l ∷ links) before (es ∷ lists) r
one_before l links before es lists r (inl all) = inl (all ∙ ap (λ (fs : List Edit). Ok (set_of fs)) (append_assoc before es (joined lists)))
one_before l links before es lists r (inr why) = inr (why.0, of_more l links why.0 why.1, why.2)

-- after these edits were delivered, the links hold the files of those lists
pulls_are : FilesArePulled → DeliveriesGoOn → DeliveriesComeToSets
    → (d : Replica) (n : ℕ) (links news : List LinkSeen) (lists : List (List Edit)) (before left : List Edit) (r : Result (List Edit) Refusal)
    → d.world < 2 ^ 64 → d.is_stale ≡ false → d.edits ≡ [] → AllDelivered d before left
    → AreTextsOf d.world lists (map left_on (take n links))
    → AreRecords (before ++ joined lists) → Agrees (before ++ joined lists) → PullsEach (with_edits left d) n links news r
    → JoinedOr (take n links) before lists r
pulls_are files more sets d zero links news [] before left r small sound empty all held good agrees pulls =
    let fit = records_fit before (records_left before [] good) in
    inl (pulls.0 ∙ ap (λ x. Ok x) (set_left sets d before left sound empty fit all ∙ ap set_of (sym (append-nil before))))
pulls_are files more sets d zero links news (es ∷ lists) before left r small sound empty all held good agrees pulls = absurd held
pulls_are files more sets d (suc n) [] news lists before left r small sound empty all held good agrees pulls = absurd pulls
pulls_are files more sets d (suc n) (l ∷ links) news [] before left r small sound empty all held good agrees pulls = absurd held
pulls_are files more sets d (suc n) (l ∷ links) news (es ∷ lists) before left r small sound empty all held good agrees pulls =
    let records = records_left es (joined lists) (records_right before (es ++ joined lists) good) in
    let holding = holds (with_edits left d) es l.ends small records held.0 in
    let whole : (before ++ es) ++ joined lists ≡ before ++ (es ++ joined lists) = append_assoc before es (joined lists) in
    let good_all = subst AreRecords (sym whole) good in
    let agrees_all = subst Agrees (sym whole) agrees in
    elim pulls [
      | inl ok ↦ (
          let pulled = (files (with_edits left d) es l.ends ok.1.ends l.reads ok.1.reads (Ok ok.0) ok.2 holding ok.5).0 in
          let next = more d before es left ok.2 (Ok tt) all pulled.0 in
          one_before l (take n links) before es lists r
          (pulls_are files more sets d n links ok.3 lists (before ++ es) ok.2 r small sound empty next held.1 good_all agrees_all ok.6))
      | inr err ↦ (
          let pulled = (files (with_edits left d) es l.ends err.1.ends l.reads err.1.reads (Err err.0) err.2 holding err.4).0 in
          let fit = records_fit (before ++ es) (records_left (before ++ es) (joined lists) good_all) in
          let agree = agree_left (before ++ es) (joined lists) agrees_all in
          let never : (s : Stamp) → DeliversEach (with_edits left d) es (Err (document.Clash s)) err.2 → ⊥ =
          λ s clash. never_clash sets d (before ++ es) err.2 s sound empty fit agree
          (more d before es left err.2 (Err (document.Clash s)) all clash) in
          inr (link_refusal err.0, refused_so (with_edits left d) l (take n links) es err.2 holding err.0 never pulled, err.5))
    ]

-- the edits of links that hold files of a world
merged_are : FilesArePulled → DeliveriesGoOn → DeliveriesComeToSets
    → (world count : ℕ) (links news : List LinkSeen) (lists : List (List Edit)) (r : Result (List Edit) Refusal)
    → world < 2 ^ 64 → count ≤ length links → AreTextsOf world lists (map left_on (take count links)) → AreRecords (joined lists)
    → Agrees (joined lists)
    → IsMerged world count links news r → JoinedOr (take count links) [] lists r
merged_are files more sets world count links news lists r small enough held good agrees merged =
    let there : MatchBool false ((r ≡ Err NoLink) × (news ≡ links)) (PullsEach (empty_document world) count links news r) =
    subst (λ b. MatchBool b ((r ≡ Err NoLink) × (news ≡ links)) (PullsEach (empty_document world) count links news r)) (not_fewer count (length links) enough) merged in
    pulls_are files more sets (empty_document world) count links news lists [] [] r small refl refl (refl, refl) held good agrees there

-- there is a list for each link that is pulled over
as_many_texts : (world : ℕ) (lists : List (List Edit)) (files : List (Option (List ℕ))) → AreTextsOf world lists files
    → length lists ≡ length files
as_many_texts world [] [] texts = refl
as_many_texts world [] (f ∷ files) texts = absurd texts
as_many_texts world (es ∷ lists) [] texts = absurd texts
as_many_texts world (es ∷ lists) (f ∷ files) texts = ap (λ (n : ℕ). suc n) (as_many_texts world lists files texts.1)

as_many_lists : (count world : ℕ) (links : List LinkSeen) (lists : List (List Edit)) → count ≤ length links
    → AreTextsOf world lists (map left_on (take count links))
    → length lists ≡ count
as_many_lists count world links lists enough held =
    as_many_texts world lists (map left_on (take count links)) held ∙ length-map (take count links) left_on ∙ length-take-le count links enough

has_status : (out : List ℕ) (world count : ℕ) (links : List LinkSeen) (lists : List (List Edit)) (m : Result (List Edit) Refusal) (r : Result Effect Refusal) (t : HostContents) (status : ℕ) (new : Option HostContents)
    → length lists ≡ count → JoinedOr (take count links) [] lists m → r ≡ as_effect (writes_joined out world m) → HasStatus r t status new
    → MergesSet out t world links lists status new
has_status out world count links lists m r t status new many is made has =
    elim is [
      | inl all ↦ inl (subst (λ x. HasStatus x t status new) (made ∙ ap (λ m. as_effect (writes_joined out world m)) all) has)
      | inr e ↦ inr (e.0, subst (λ n. IsOfLinks (take n links) e.0) (sym many) e.1, subst (λ x. HasStatus x t status new) (made ∙ ap (λ m. as_effect (writes_joined out world m)) e.2) has)
    ]

-- `run` ends so
pub run_of_links : FilesArePulled → DeliveriesGoOn → DeliveriesComeToSets
    → (words : List (List ℕ)) (before after : Devices) (t : HostContents) (out : List ℕ) (world : ℕ) (lists : List (List Edit)) (status : ℕ) (new : Option HostContents)
    → (asks : AsksToMerge words before.links out world lists) → EndsCalmly before after (Merge out world asks.files) t status new
    → MergesSet out t world before.links lists status new
run_of_links files more sets words before after t out world lists status new asks ended =
    elim ended [
      | inl done ↦ (
          let comes = done.1.1 in
          has_status out world (length asks.files) before.links lists comes.0 done.0 t status new (as_many_lists (length asks.files) world before.links lists asks.enough asks.held)
          (merged_are files more sets world (length asks.files) before.links after.links lists comes.0 asks.is_number asks.enough asks.held asks.records asks.agree comes.1) (done.1.2 ∙ ap as_effect comes.2) done.2)
      | inr memory ↦ inr (Memory, inl refl, memory)
    ]
