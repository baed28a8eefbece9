use Rattle.std.proofs.Common.{◌≡◌, ◌∙◌, ◌<◌, ℕ, List, ◌∷◌, length, map, take, drop, insert, All, sym, ap, subst}
use Rattle.std.proofs.lemmas.List.Elements.{All-append, All-cons, All-drop, All-take}
use Rattle.zed_view.specs.First.{put}
use Rattle.zed_view.specs.View.{board_at}
use Rattle.zed_view.proofs.Firsts.{map-take}
use Rattle.zed_view.proofs.first.put.Goals as goal

pub returns-clause-boards : goal.returns-clause-boards
returns-clause-boards c =
    let at = board_at c.args.view.now in
    let b = at c.args.i in
    let place = c.place_among-place.result in
    let placed = subst (λ (ps : List ℕ). map at (insert ps place c.args.i) ≡ put b (map at ps)) c.as_slice-2.ensures c.place_among-place.ensures.boards in
    ap (map at) (c.truncate.ensures.items ∙ ap (take 101) c.in-Ok.ensures.ok) ∙ map-take at 101 (insert c.args.first.now.items place c.args.i) ∙ ap (take 101) placed

pub returns-clause-within : goal.returns-clause-within
returns-clause-within c =
    let P : ℕ → Type 0 = λ j. j < length c.args.view.now.boards in
    let ps = c.args.first.now.items in
    let i = c.args.i in
    let place = c.place_among-place.result in
    let each : All P (insert ps place i) = All-append P (take place ps) (i ∷ drop place ps) (All-take P place ps c.requires.others) (All-cons P i (drop place ps) c.requires.board (All-drop P place ps c.requires.others)) in
    subst (All P) (sym (c.truncate.ensures.items ∙ ap (take 101) c.in-Ok.ensures.ok)) (All-take P 101 (insert ps place i) each)
