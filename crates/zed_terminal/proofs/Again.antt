-- What was played is played again by the moves and words that were kept.
use Rattle.std.proofs.Common.{◌≡◌, ◌∙◌, ◌+◌, ◌-◌, ◌++◌, ℕ, zero, suc, List, [], ◌∷◌, Option, Some, Ok, ap, append-nil, append_assoc, arith, drop, inl, inr, length, length-append, refl, subst, sym}
use Rattle.std.proofs.Math.Seq.{drop-append_seam}
use Rattle.zed_world.specs.Contents.{Contents}
use Rattle.zed_play.proofs.Front.{front_step}
use Rattle.zed_play.specs.declared.key.Key.{Key as TheKey}
use Rattle.zed_play.specs.Playtest.{Playtest}
use Rattle.zed_play.specs.Step.{Step, Steps}
use Rattle.zed_terminal.specs.declared.moves.Move.{Move}
use Rattle.zed_terminal.specs.declared.moves.Move.TheVariants.{Key, Choice}
use Rattle.zed_terminal.specs.declared.overlay.Act.{Act}
use Rattle.zed_terminal.specs.declared.overlay.Act.TheVariants.{Play, Choose, Show, Resize}
use Rattle.zed_terminal.specs.Again.{Comes, PlaysAgain}
use Rattle.zed_terminal.specs.Course.{Course, Does, PlaysKey, Point, StepsOn, asked_at, chooses, led_on, with_key}
use Rattle.zed_terminal.specs.Devices.{Chances}

-- a step isn't changed by words behind those that it had, and leaves them too
steps_more : (used : ℕ) (key : TheKey) (p q : Playtest) (words more : List ℕ) → Steps (Ok used) key p words q
    → Steps (Ok used) key p (words ++ more) q × (drop used (words ++ more) ≡ drop used words ++ more)
steps_more used key p q words more (going, (left, (step, is))) =
    let front = front_step key p q words left step in
    let taken = front.0 in
    let all : words ≡ taken ++ left = front.1.0 in
    let whole : words ++ more ≡ taken ++ (left ++ more) = ap (λ l. l ++ more) all ∙ append_assoc taken left more in
    let again : Step key p (words ++ more) (Some (q, left ++ more)) =
    subst (λ l. Step key p l (Some (q, left ++ more))) (sym whole) (front.1.1 (left ++ more)) in
    let size : length words ≡ length taken + length left = ap length all ∙ length-append taken left in
    let count : used ≡ length taken = omega (arith, is, size) in
    let longer : length (words ++ more) ≡ length taken + length (left ++ more) = ap length whole ∙ length-append taken (left ++ more) in
    let same : used ≡ length (words ++ more) - length (left ++ more) = omega (arith, count, longer) in
    let behind : drop used (words ++ more) ≡ left ++ more =
    ap (λ n. drop n (words ++ more)) count ∙ ap (drop (length taken)) whole ∙ drop-append_seam taken (left ++ more) in
    let before : drop used words ≡ left = ap (λ n. drop n words) count ∙ ap (drop (length taken)) all ∙ drop-append_seam taken left in
    ((going, (left ++ more, (again, same))), behind ∙ ap (λ l. l ++ more) (sym before))

-- a course that starts with these words left, and has others come later
comes_on : (w : Option Contents) (used : ℕ) (key : TheKey) (p stepped q : Playtest) (moves : List Move) (left came more rest behind : List ℕ)
    → Steps (Ok used) key p (left ++ came) stepped → behind ≡ drop used (left ++ came)
    → Comes w (led_on w key p stepped) moves (behind ++ more) q rest
    → Comes w p (Key key ∷ moves) (left ++ (came ++ more)) q rest
comes_on w used key p stepped q moves left came more rest behind step is later =
    let on = steps_more used key p stepped (left ++ came) more step in
    let next = led_on w key p stepped in
    let same : (left ++ came) ++ more ≡ left ++ (came ++ more) = append_assoc left came more in
    let now : Comes w p (Key key ∷ moves) ((left ++ came) ++ more) q rest =
    inl (stepped, used, on.0, subst (λ l. Comes w next moves l q rest) (ap (λ l. l ++ more) is ∙ sym on.1) later) in
    subst (λ l. Comes w p (Key key ∷ moves) l q rest) same now

-- moves and words that come from one place to another
abbrev pub Kept : Option Contents → Point → Point → Type 0
Kept w a b =
    (moves : List Move) × (came : List ℕ) × (b.keys ≡ a.keys ++ moves) × (b.words ≡ a.words ++ came)
    × Comes w a.play moves (a.left ++ came) b.play b.left

-- a step in front of others
stepped_on : (w : Option Contents) (key : TheKey) (a next b : Point) (chance chance_then : Chances) → StepsOn w key a chance next chance_then
    → Kept w next b → Kept w a b
stepped_on w key a next b chance chance_then (mid, supplied, is) (moves, more, put, all, comes) =
    let came = supplied.0 in
    let makes = supplied.3 in
    let kept : next.keys ≡ a.keys ++ Key key ∷ [] = ap (λ (x : Point). x.keys) is in
    let words : next.words ≡ mid.words = ap (λ (x : Point). x.words) is in
    let left : next.left ≡ mid.left = ap (λ (x : Point). x.left) is in
    let play : next.play ≡ led_on w key a.play mid.play = ap (λ (x : Point). x.play) is in
    let all_moves : b.keys ≡ a.keys ++ (Key key ∷ moves) = put ∙ ap (λ l. l ++ moves) kept ∙ append_assoc a.keys (Key key ∷ []) moves in
    let all_words : b.words ≡ a.words ++ (came ++ more) = all ∙ ap (λ l. l ++ more) (words ∙ makes.3) ∙ append_assoc a.words came more in
    let later : Comes w (led_on w key a.play mid.play) moves (next.left ++ more) b.play b.left =
    subst (λ p. Comes w p moves (next.left ++ more) b.play b.left) play comes in
    (Key key ∷ moves, came ++ more, all_moves, all_words, comes_on w makes.0 key a.play mid.play b.play moves a.left came more b.left next.left makes.1 (left ∙ makes.2) later)

-- a move that takes no words, in front of others
one_kept : (w : Option Contents) (made : Move) (a next b : Point) (k : Kept w next b) → next.keys ≡ a.keys ++ made ∷ [] → next.words ≡ a.words
    → Comes w a.play (made ∷ k.0) (next.left ++ k.1) b.play b.left → next.left ≡ a.left
    → Kept w a b
one_kept w made a next b (moves, more, put, all, comes) kept words now left = (
  made ∷ moves,
  more,
  put ∙ ap (λ l. l ++ moves) kept ∙ append_assoc a.keys (made ∷ []) moves,
  all ∙ ap (λ l. l ++ more) words,
  subst (λ l. Comes w a.play (made ∷ moves) (l ++ more) b.play b.left) left now,
)

-- a key in front of others
played_on : (w : Option Contents) (key : TheKey) (a next b : Point) (chance chance_then : Chances) → PlaysKey w key a chance next chance_then
    → Kept w next b → Kept w a b
played_on w key a next b chance chance_then plays kept = elim plays [
  | inl step ↦ stepped_on w key a next b chance chance_then step.1 kept
  | inr over ↦ (
      let same : with_key key a ≡ next = sym over.1 in
      subst (λ p. Kept w p b → Kept w a b) same
      (λ k. one_kept w (Key key) a (with_key key a) b k refl refl (inr (over.0, k.4)) refl) kept
      )
]

-- what is done in front of others
done_on : (w : Option Contents) (act : Act) (a next b : Point) (chance chance_then : Chances) → Does w act a chance next chance_then
    → Kept w next b → Kept w a b
done_on w (Play key) a next b chance chance_then does kept = played_on w key a next b chance chance_then does kept
done_on w (Choose c) a next b chance chance_then (is, still) kept =
    subst (λ p. Kept w p b → Kept w a b) (sym is) (λ k. one_kept w (Choice c) a (chooses c a) b k refl refl k.4 refl) kept
done_on w (Show shown) a next b chance chance_then (is, still) kept = subst (λ p. Kept w p b → Kept w a b) (sym is) (λ k. k) kept
done_on w (Resize size) a next b chance chance_then (is, still) kept = subst (λ p. Kept w p b → Kept w a b) (sym is) (λ k. k) kept

pub plays_again : PlaysAgain
plays_again w zero c d is =
    let at : d.at ≡ c.at = ap (λ (x : Course). x.at) is in (
      [],
      [],
      ap (λ (a : Point). a.keys) at ∙ sym (append-nil c.at.keys),
      ap (λ (a : Point). a.words) at ∙ sym (append-nil c.at.words),
      (ap (λ (a : Point). a.play) at, ap (λ (a : Point). a.left) at ∙ sym (append-nil c.at.left)),
    )
plays_again w (suc n) c d (next, going, (input, takes, answers, draws), on) =
    done_on w (asked_at input c.at) c.at next.at d.at c.stage.chance next.stage.chance answers (plays_again w n next d on)
