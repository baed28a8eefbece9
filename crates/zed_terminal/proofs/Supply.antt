-- Words of chance that come one after the other.
use Rattle.std.proofs.Common.{◌≡◌, ◌∙◌, ◌+◌, ◌++◌, ◌≤◌, ℕ, zero, suc, List, [], ◌∷◌, Option, Some, None, Ok, Err, ap, append_assoc, arith, drop, length, refl, subst, sym}
use Rattle.std.specs.Prelude.{⊤, option_map}
use Rattle.std.proofs.lemmas.List.{drop-append-le}
use Rattle.zed_host.specs.Counting.{Counts, Rose}
use Rattle.zed_play.specs.declared.key.Key.{Key}
use Rattle.zed_play.specs.Step.{Steps}
use Rattle.zed_terminal.specs.declared.error.TurnError.{TurnError}
use Rattle.zed_terminal.specs.declared.error.TurnError.TheVariants.{NoWords}
use Rattle.zed_terminal.specs.declared.tape.Tape.{Tape}
use Rattle.zed_terminal.specs.Course.{LacksWords, Makes, point}
use Rattle.zed_terminal.specs.Devices.{Brings}
use Rattle.zed_terminal.specs.Errors.{is_chance_fault}

-- words came, and then others
pub brings_more : (came last : List ℕ) (x y z : Option (List ℕ)) → Brings came x y → Brings last y z → Brings (came ++ last) x z
brings_more came last x y None p q = p ∙ ap (option_map (λ rest. came ++ rest)) q
brings_more came last x y (Some rest) p q =
    p ∙ ap (option_map (λ rest. came ++ rest)) q ∙ ap (λ words. Some words) (sym (append_assoc came last rest))

-- none came
pub brings_none : (x : Option (List ℕ)) → x ≡ option_map (λ rest. rest) x
brings_none None = refl
brings_none (Some rest) = refl

-- more words were put behind all
pub one_more : (first came last mid all : List ℕ) → mid ≡ first ++ came → all ≡ mid ++ last → all ≡ first ++ (came ++ last)
one_more first came last mid all before behind = behind ∙ ap (λ ws. ws ++ last) before ∙ append_assoc first came last

-- a call that failed is counted, where none had failed before
pub rose_at : (e : TurnError) (old mid new : ℕ) → mid ≡ old → e ≡ NoWords → Counts (is_chance_fault {X = ⊤} (Err e)) mid new → Rose old new
rose_at e old mid new same is counts =
    subst (λ n. Rose n new) same (subst (λ x. Counts (is_chance_fault {X = ⊤} (Err x)) mid new) is counts)

-- those that are left, and those that came, where words were put behind all
pub left_more : (used : ℕ) (words came : List ℕ) → used ≤ length words → drop used (words ++ came) ≡ drop used words ++ came
left_more used words came within = drop-append-le used words came within

none_behind : (n : ℕ) → drop {A = ℕ} n [] ≡ []
none_behind zero = refl
none_behind (suc n) = refl

-- what is behind some, and behind more
drop_more : (k n m : ℕ) (xs : List ℕ) → m ≡ k + n → drop m xs ≡ drop n (drop k xs)
drop_more zero n m xs is = let same : m ≡ n = omega (arith, is) in ap (λ j. drop j xs) same
drop_more (suc k) n m [] is = none_behind m ∙ sym (none_behind n)
drop_more (suc k) n zero (x ∷ xs) is = absurd (omega (arith, is))
drop_more (suc k) n (suc m) (x ∷ xs) is = drop_more k n m xs (omega (arith, is))

-- a step is made on a tape to which words came
pub makes_here : (key : Key) (a l b : Tape) (came : List ℕ) (n : ℕ) → a.used ≤ length a.words.items → l.words.items ≡ a.words.items ++ came
    → l.play ≡ a.play → l.used ≡ a.used
    → Steps (Ok n) key l.play (drop l.used l.words.items) b.play → b.used ≡ l.used + n → b.words ≡ l.words
    → Makes key came (point a) (point b)
makes_here key a l b came n within words play used step count same =
    let left : drop l.used l.words.items ≡ drop a.used a.words.items ++ came =
    ap (λ k. drop k l.words.items) used ∙ ap (drop a.used) words ∙ left_more a.used a.words.items came within in
    let by : Steps (Ok n) key l.play (drop a.used a.words.items ++ came) b.play =
    subst (λ ws. Steps (Ok n) key l.play ws b.play) left step in
    let made : Steps (Ok n) key a.play (drop a.used a.words.items ++ came) b.play =
    subst (λ p. Steps (Ok n) key p (drop a.used a.words.items ++ came) b.play) play by in
    let all : b.words.items ≡ l.words.items = ap (λ w. w.items) same in
    let behind : drop b.used b.words.items ≡ drop n (drop a.used a.words.items ++ came) =
    ap (drop b.used) all ∙ drop_more l.used n b.used l.words.items count ∙ ap (drop n) left in
    (n, made, behind, all ∙ words)

-- the words that came to a tape are too few
pub lacks_here : (key : Key) (a l : Tape) (came : List ℕ) → a.used ≤ length a.words.items → l.words.items ≡ a.words.items ++ came
    → l.play ≡ a.play → l.used ≡ a.used
    → LacksWords key l.play (drop l.used l.words.items) → LacksWords key a.play (drop a.used a.words.items ++ came)
lacks_here key a l came within words play used lacks =
    let left : drop l.used l.words.items ≡ drop a.used a.words.items ++ came =
    ap (λ k. drop k l.words.items) used ∙ ap (drop a.used) words ∙ left_more a.used a.words.items came within in
    subst (λ ws. LacksWords key a.play ws) left (subst (λ p. LacksWords key p (drop l.used l.words.items)) play lacks)
