use Rattle.std.proofs.Common.{rules, ◌≡◌, ◌∷◌, [], ℕ, List, length, set, sym, ap, ◌∙◌, subst, arith}
use Rattle.std.proofs.lemmas.List.{nil_from_length}
use Rattle.zed_types.specs.declared.names.ElemId.{ElemId}
use Rattle.zed_code.specs.declared.run.Run.{Run}
use Rattle.zed_code.specs.declared.block.Block.{Block}
use Rattle.zed_code.specs.declared.block.Spot.{Spot}
use Rattle.zed_code.specs.Found.{StandsAt}
use Rattle.zed_code.specs.Blocks.{lists, joined, list_at, before_spot, NoneEmpty}
use Rattle.zed_code.specs.Halving.{AddsHint}
use Rattle.zed_code.specs.Targets.{cut_bytes}
use Rattle.zed_code.specs.Kept.{AreHints, IsOne, NoneOf}
use Rattle.zed_code.specs.Runs.{put_in, put_run}
use Rattle.zed_code.proofs.Puts.{put-joined, full-set, some-put_in}
use Rattle.zed_code.proofs.Hinting.{put-hints, no-hints, cut-inside, hints-of}
use Rattle.zed_code.proofs.Finding.{put-stands, alone-stands, found-of}
use Rattle.zed_code.proofs.insertion.put.Goals as goal

pub aim-requires-clause-hints : goal.aim-requires-clause-hints
aim-requires-clause-hints c = hints-of c.args.hints.now.entries c.args.places.now.items c.deref-2.result.now c.args.blocks.now.items c.deref.result.now (sym c.deref-2.ensures.value) (sym c.deref.ensures.value) c.requires.hints

pub returns-in_err-wanted-clause-hints : goal.returns-in_err-wanted-clause-hints
returns-in_err-wanted-clause-hints c = hints-of c.aim.new.hints.entries c.deref-2.result.now c.args.places.now.items c.deref.result.now c.args.blocks.now.items c.deref-2.ensures.value c.deref.ensures.value c.aim.ensures.hints

pub returns-in_err-to-clause-hints : goal.returns-in_err-to-clause-hints
returns-in_err-to-clause-hints c =
    c.make_room.ensures.same.hints c.aim.new.hints.entries (hints-of c.aim.new.hints.entries c.deref-2.result.now c.args.places.now.items c.deref.result.now c.args.blocks.now.items c.deref-2.ensures.value c.deref.ensures.value c.aim.ensures.hints)

pub returns-in_err-keep_hint-clause-hints : goal.returns-in_err-keep_hint-clause-hints
returns-in_err-keep_hint-clause-hints c hint one =
    let P : List (ElemId × ℕ) → Type 0 = λ es. IsOne es hint in
    c.make_room.ensures.same.hints c.aim.new.hints.entries (hints-of c.aim.new.hints.entries c.deref-2.result.now c.args.places.now.items c.deref.result.now c.args.blocks.now.items c.deref-2.ensures.value c.deref.ensures.value c.aim.ensures.hints) hint (subst P c.in_err-keep_hint.ensures.err one)

pub returns-clause-ok : goal.returns-clause-ok
returns-clause-ok c =
    let old = lists c.args.blocks.now.items in
    let ls = lists c.make_room.new.blocks.items in
    let to = c.in_ok-to.to in
    let d : joined (lists c.deref.result.now) ≡ joined old = ap (λ bs. joined (lists bs)) c.deref.ensures.value in
    let wanted = c.in_ok-wanted.ensures.runs in
    ap joined c.put_at_aim.ensures.runs
    ∙ put-joined to.at (cut_bytes to.cut) c.args.run ls c.in_ok-to.ensures.aim.within
    ∙ ap (put_in (before_spot to.at ls) (cut_bytes to.cut) c.args.run) (c.make_room.ensures.same.runs)
    ∙ ap (λ n. put_in n (cut_bytes to.cut) c.args.run (joined old)) c.in_ok-to.ensures.moved
    ∙ ap (λ n. put_in (before_spot c.in_ok-wanted.wanted.at old) (cut_bytes n) c.args.run (joined old)) c.in_ok-to.ensures.cut
    ∙ ap (λ bs. put_in (before_spot c.in_ok-wanted.wanted.at (lists bs)) (cut_bytes c.in_ok-wanted.wanted.cut) c.args.run (joined (lists bs))) (sym c.deref.ensures.value)
    ∙ wanted ∙ ap (put_run c.args.after c.args.run) d

pub returns-clause-full : goal.returns-clause-full
returns-clause-full c =
    let ls = lists c.make_room.new.blocks.items in
    let to = c.in_ok-to.to in
    let xs = put_in to.at.place (cut_bytes to.cut) c.args.run (list_at to.at.block ls) in
    let P : List (List Run) → Type 0 = λ qs. NoneEmpty qs in
    subst P (sym c.put_at_aim.ensures.runs) (full-set ls to.at.block xs (some-put_in to.at.place (cut_bytes to.cut) c.args.run (list_at to.at.block ls)) (c.make_room.ensures.same.full c.requires.full))

pub returns-clause-hints : goal.returns-clause-hints
returns-clause-hints c =
    let ls = lists c.make_room.new.blocks.items in
    let places = c.make_room.new.places.items in
    let hs = c.aim.new.hints.entries in
    let more = c.keep_hint.new.hints.entries in
    let to = c.in_ok-to.to in
    let are = c.make_room.ensures.same.hints hs (hints-of hs c.deref-2.result.now c.args.places.now.items c.deref.result.now c.args.blocks.now.items c.deref-2.ensures.value c.deref.ensures.value c.aim.ensures.hints) in
    let N : List Run → Type 0 = λ rs. NoneOf c.args.run.stamp rs in
    let new = subst N (sym c.make_room.ensures.same.runs) c.requires.new in
    let A : List ℕ → ElemId → Type 0 = λ ps id. AddsHint ps to.at.block id hs more in
    let B : ElemId → Type 0 = λ id. A places id in
    let C : List ℕ → Type 0 = λ ps. A ps c.new-first.result in
    let adds = subst B c.new-first.ensures (subst C c.deref-3.ensures.value c.keep_hint.ensures.hints) in
    let P : List (List Run) → Type 0 = λ qs. AreHints more places qs in
    subst P (sym c.put_at_aim.ensures.runs) (put-hints hs more places ls to.at (cut_bytes to.cut) c.args.run c.in_ok-to.ensures.aim.within (λ r rs. cut-inside to ls r rs c.in_ok-to.ensures.aim) new are adds)

pub returns-in_err-at-clause-hints : goal.returns-in_err-at-clause-hints
returns-in_err-at-clause-hints c =
    let empty : c.args.blocks.now.items ≡ [] = nil_from_length c.args.blocks.now.items (search rules) in
    let E : List Block → Type 0 = λ bs. AreHints c.args.hints.now.entries c.args.places.now.items (lists bs) in
    no-hints c.args.hints.now.entries c.args.places.now.items c.put_alone.new.places.items (lists c.put_alone.new.blocks.items) (subst E empty c.requires.hints)

pub returns-then-is_empty-clause-hints : goal.returns-then-is_empty-clause-hints
returns-then-is_empty-clause-hints c =
    let empty : c.args.blocks.now.items ≡ [] = nil_from_length c.args.blocks.now.items (search rules) in
    let E : List Block → Type 0 = λ bs. AreHints c.args.hints.now.entries c.args.places.now.items (lists bs) in
    no-hints c.args.hints.now.entries c.args.places.now.items c.put_alone.new.places.items (lists c.put_alone.new.blocks.items) (subst E empty c.requires.hints)

pub returns-then-is_empty-clause-visits : goal.returns-then-is_empty-clause-visits
returns-then-is_empty-clause-visits c =
    let empty : c.args.blocks.now.items ≡ [] = nil_from_length c.args.blocks.now.items (search rules) in
    let none = ap (λ bs. length (joined (lists bs))) empty in
    (0, search rules, omega arith, λ some. omega (arith, some, none))

pub aim-requires-clause-found : goal.aim-requires-clause-found
aim-requires-clause-found c = found-of c.args.found c.args.blocks.now.items c.deref.result.now (sym c.deref.ensures.value) c.requires.found

pub returns-clause-stands : goal.returns-clause-stands
returns-clause-stands c =
    let ls = lists c.make_room.new.blocks.items in
    let to = c.in_ok-to.to in
    let N : List Run → Type 0 = λ rs. NoneOf c.args.run.stamp rs in
    let new = subst N (sym c.make_room.ensures.same.runs) c.requires.new in
    let P : List (List Run) → Spot → Type 0 = λ qs at. StandsAt c.args.run at qs in
    let Q : List (List Run) → Type 0 = λ qs. P qs c.put_at_aim.result in
    subst Q (sym c.put_at_aim.ensures.runs) (subst (P (set ls to.at.block (put_in to.at.place (cut_bytes to.cut) c.args.run (list_at to.at.block ls)))) (sym c.put_at_aim.ensures.spot) (put-stands to c.args.run ls c.in_ok-to.ensures.aim new))

pub returns-then-is_empty-clause-stands : goal.returns-then-is_empty-clause-stands
returns-then-is_empty-clause-stands c =
    let P : List (List Run) → Spot → Type 0 = λ qs at. StandsAt c.args.run at qs in
    let Q : List (List Run) → Type 0 = λ qs. P qs c.in_ok-at.at in
    subst Q (sym c.in_ok-at.ensures.ok) (subst (P ((c.args.run ∷ []) ∷ [])) (sym c.in_ok-at.ensures.spot) (alone-stands c.args.run))
