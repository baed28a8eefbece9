-- What reading tiles gives is what a text of runs stands for.
use Rattle.std.proofs.Common.{◌≡◌, ℕ, zero, suc, ◌-◌, ◌+◌, ◌≤◌, ◌<◌, min, List, [], ◌∷◌, ◌++◌, length, replicate, take, Option, Some, None, refl, sym, ap, subst, ◌∙◌, inl, inr, append_assoc, length-append, arith}
use Rattle.std.proofs.lemmas.List.{replicate-append-replicate, length-replicate, append-nil, take_at}
use Rattle.std.proofs.lemmas.Bool.{cases_lt}
use Rattle.zed_types.specs.declared.tile.Tile.{Tile}
use Rattle.zed_runs.specs.Runs.{Triple, Runs, tiles_of_count, text, expansion, greedy}
use Rattle.zed_runs.specs.Reading.{followed_by, tiles_at}
use Rattle.zed_runs.proofs.Triples.{length-expansion-append}
use Rattle.zed_runs.proofs.Greedy.{greedy_reads}

positive : (n : ℕ) → 1 ≤ tiles_of_count n
positive zero = omega arith
positive (suc n) = omega arith

-- of a run that is long enough, so many tiles
enough : (wanted n : ℕ) (t : Tile) (rest : List Tile) → wanted ≤ n → replicate (min wanted n) t ≡ take wanted (replicate n t ++ rest)
enough wanted n t rest le =
    let split : replicate n t ≡ replicate wanted t ++ replicate (n - wanted) t =
    ap (λ (k : ℕ). replicate k t) (omega arith) ∙ sym (replicate-append-replicate wanted (n - wanted) t) in
    let low : min wanted n ≡ wanted = omega arith in
    ap (λ (k : ℕ). replicate k t) low ∙ sym (ap (λ (r : List Tile). take wanted (r ++ rest)) split ∙ ap (take wanted) (append_assoc (replicate wanted t) (replicate (n - wanted) t) rest) ∙ take_at (replicate wanted t) (replicate (n - wanted) t ++ rest) wanted (length-replicate wanted t))

-- of a run that isn't, all of them
take_over : (wanted n : ℕ) (t : Tile) (rest : List Tile) → n ≤ wanted
    → replicate (min wanted n) t ++ take (wanted - n) rest ≡ take wanted (replicate n t ++ rest)
take_over wanted zero t rest le =
    let low : min wanted 0 ≡ 0 = omega arith in
    let all : wanted - 0 ≡ wanted = omega arith in
    ap (λ (k : ℕ). replicate k t ++ take (wanted - 0) rest) low ∙ ap (λ (k : ℕ). take k rest) all
take_over zero (suc n) t rest le = absurd (omega arith)
take_over (suc wanted) (suc n) t rest le =
    let low : min (suc wanted) (suc n) ≡ suc (min wanted n) = omega arith in
    let less : suc wanted - suc n ≡ wanted - n = omega arith in
    rw (low, less) (ap (λ (r : List Tile). t ∷ r) (take_over wanted n t rest (omega arith)))

-- runs at the front are read
pub runs_read : (front : List Triple) (last : Triple) (wanted : ℕ) (rest : List ℕ) → length (expansion front) < wanted
    → wanted ≤ length (expansion (front ++ last ∷ []))
    → tiles_at wanted (text (front ++ last ∷ []) ++ rest) ≡ Some (take wanted (expansion (front ++ last ∷ [])), rest)
unfolding tiles_at
runs_read [] last zero rest short long = absurd (omega arith)
runs_read [] last (suc w) rest short long =
    let n = tiles_of_count last.count in
    let all : suc w ≤ n =
    omega (arith, length-expansion-append [] (last ∷ []), length-replicate n last.tile, length-append (replicate n last.tile) []) in
    let none : suc w - n ≡ 0 = omega arith in
    rw none (ap (λ (ts : List Tile). Some (ts, rest)) (append-nil (replicate (min (suc w) n) last.tile) ∙ enough (suc w) n last.tile [] all))
runs_read (t ∷ ts) last zero rest short long = absurd (omega arith)
runs_read (t ∷ ts) last (suc w) rest short long =
    let n = tiles_of_count t.count in
    let first : length (expansion (t ∷ ts)) ≡ n + length (expansion ts) =
    length-append (replicate n t.tile) (expansion ts) ∙ ap (λ (k : ℕ). k + length (expansion ts)) (length-replicate n t.tile) in
    let whole : length (expansion (t ∷ (ts ++ last ∷ []))) ≡ n + length (expansion (ts ++ last ∷ [])) =
    length-append (replicate n t.tile) (expansion (ts ++ last ∷ []))
    ∙ ap (λ (k : ℕ). k + length (expansion (ts ++ last ∷ []))) (length-replicate n t.tile) in
    let others = runs_read ts last (suc w - n) rest (omega arith) (omega arith) in
    rw others (ap (λ (r : List Tile). Some (r, rest)) (take_over (suc w) n t.tile (expansion (ts ++ last ∷ [])) (omega arith)))

pub runs_tiles : (tiles : List Tile) (bytes rest : List ℕ) → Runs tiles bytes → tiles_at 1500 (bytes ++ rest) ≡ Some (tiles, rest)
runs_tiles tiles bytes rest r =
    let all = r.front ++ r.last ∷ [] in
    let long : 1500 ≤ length (expansion all) = omega (arith, ap length r.expands, length-append tiles r.more, r.whole) in
    ap (λ (b : List ℕ). tiles_at 1500 (b ++ rest)) r.spelled ∙ runs_read r.front r.last 1500 rest r.short long
    ∙ ap (λ (x : List Tile). Some (take 1500 x, rest)) r.expands ∙ ap (λ (x : List Tile). Some (x, rest)) (take_at tiles r.more 1500 r.whole)

-- what reading found was a text of runs
pub record Found (wanted : ℕ) (bytes : List ℕ) (tiles : List Tile) (rest : List ℕ) : Type 0 where
  pub front : List Triple
  pub last : Triple
  pub more : List Tile
  pub spelled : bytes ≡ text (front ++ last ∷ []) ++ rest
  pub expands : expansion (front ++ last ∷ []) ≡ tiles ++ more
  pub whole : length tiles ≡ wanted
  pub short : length (expansion front) < wanted

followed_is : (tiles : List Tile) (r : Option (List Tile × List ℕ)) (y : List Tile × List ℕ) → followed_by tiles r ≡ Some y
    → (x : List Tile × List ℕ) × (r ≡ Some x) × ((tiles ++ x.0, x.1) ≡ y)
followed_is tiles (Some x) y h = (x, refl, some_is (tiles ++ x.0, x.1) y h)
  where
    some_is : (p q : List Tile × List ℕ) → Some p ≡ Some q → p ≡ q
    some_is p q h = cc
followed_is tiles None y h = absurd cc

last_run : (w : ℕ) (t : Triple) (rest : List ℕ) → suc w ≤ tiles_of_count t.count
    → Found (suc w) (t.count ∷ t.tile.element ∷ t.tile.colour ∷ rest) (replicate (min (suc w) (tiles_of_count t.count)) t.tile ++ []) rest
last_run w t rest le =
    let n = tiles_of_count t.count in
    let low : min (suc w) n ≡ suc w = omega arith in
    let split : replicate n t.tile ≡ replicate (suc w) t.tile ++ replicate (n - suc w) t.tile =
    ap (λ (k : ℕ). replicate k t.tile) (omega arith) ∙ sym (replicate-append-replicate (suc w) (n - suc w) t.tile) in
    let tiles : replicate (min (suc w) n) t.tile ++ [] ≡ replicate (suc w) t.tile =
    append-nil (replicate (min (suc w) n) t.tile) ∙ ap (λ (k : ℕ). replicate k t.tile) low in
    record {
      front = [];
      last = t;
      more = replicate (n - suc w) t.tile;
      spelled = refl;
      expands = append-nil (replicate n t.tile) ∙ split ∙ ap (λ (r : List Tile). r ++ replicate (n - suc w) t.tile) (sym tiles);
      whole = ap length tiles ∙ length-replicate (suc w) t.tile;
      short = omega arith;
    }

more_runs : (w m : ℕ) (t : Triple) (rest after : List ℕ) (tiles : List Tile) → m + tiles_of_count t.count ≡ w → Found m rest tiles after
    → Found w (t.count ∷ t.tile.element ∷ t.tile.colour ∷ rest) (replicate (min w (tiles_of_count t.count)) t.tile ++ tiles) after
more_runs w m t rest after tiles sum f =
    let n = tiles_of_count t.count in
    let low : min w n ≡ n = omega arith in
    let run_is : replicate (min w n) t.tile ≡ replicate n t.tile = ap (λ (k : ℕ). replicate k t.tile) low in
    record {
      front = t ∷ f.front;
      last = f.last;
      more = f.more;
      spelled = ap (λ (b : List ℕ). t.count ∷ t.tile.element ∷ t.tile.colour ∷ b) f.spelled;
      expands =
          ap (λ (r : List Tile). replicate n t.tile ++ r) f.expands ∙ sym (append_assoc (replicate n t.tile) tiles f.more)
          ∙ ap (λ (r : List Tile). (r ++ tiles) ++ f.more) (sym run_is);
      whole = omega (arith, length-append (replicate (min w n) t.tile) tiles, length-replicate (min w n) t.tile, f.whole);
      short = omega (arith, length-append (replicate n t.tile) (expansion f.front), length-replicate n t.tile, f.short);
    }

pub tiles_found : (w : ℕ) (bytes : List ℕ) (x : List Tile × List ℕ) → tiles_at (suc w) bytes ≡ Some x → Found (suc w) bytes x.0 x.1
unfolding tiles_at
tiles_found w [] x h = absurd cc
tiles_found w (a ∷ []) x h = absurd cc
tiles_found w (a ∷ b ∷ []) x h = absurd cc
tiles_found w (a ∷ b ∷ c ∷ rest) x h =
    let t : Triple = record { count = a; tile = record { element = b; colour = c } } in
    let n = tiles_of_count a in
    let o = followed_is (replicate (min (suc w) n) t.tile) (tiles_at (suc w - n) rest) x h in
    let made : List Tile × List ℕ = (replicate (min (suc w) n) t.tile ++ o.0.0, o.0.1) in
    let one = positive a in
    let none : suc w ≤ n → Found (suc w) (a ∷ b ∷ c ∷ rest) made.0 made.1 = λ le.
    let zero_left : suc w - n ≡ 0 = omega arith in
    let nothing : tiles_at 0 rest ≡ Some o.0 = sym (ap (λ (k : ℕ). tiles_at k rest) zero_left) ∙ o.1 in
    let same : ([], rest) ≡ o.0 = cc in
    subst (λ (y : List Tile × List ℕ). Found (suc w) (a ∷ b ∷ c ∷ rest) (replicate (min (suc w) n) t.tile ++ y.0) y.1) same (last_run w t rest le) in
    let some : n < suc w → Found (suc w) (a ∷ b ∷ c ∷ rest) made.0 made.1 = λ lt.
    let left : suc w - n ≡ suc (w - n) = omega arith in
    let others : tiles_at (suc (w - n)) rest ≡ Some o.0 = sym (ap (λ (k : ℕ). tiles_at k rest) left) ∙ o.1 in
    more_runs (suc w) (suc (w - n)) t rest o.0.1 o.0.0 (omega arith) (tiles_found (w - n) rest o.0 others) in
    subst (λ (y : List Tile × List ℕ). Found (suc w) (a ∷ b ∷ c ∷ rest) y.0 y.1) o.2 (elim (cases_lt n (suc w)) [ inl lt ↦ some lt | inr le ↦ none le ])

-- where no front is a text of runs, reading finds none
pub no_tiles : (bytes : List ℕ) → ((tiles : List Tile) (len : ℕ) → Runs tiles (take len bytes) → ⊥) → tiles_at 1500 bytes ≡ None
no_tiles bytes none = decided (tiles_at 1500 bytes) refl
  where
    decided : (r : Option (List Tile × List ℕ)) → tiles_at 1500 bytes ≡ r → tiles_at 1500 bytes ≡ None
    decided None h = h
    decided (Some x) h =
        let f = tiles_found 1499 bytes x h in
        let front = text (f.front ++ f.last ∷ []) in
        let cut : take (length front) bytes ≡ front = ap (take (length front)) f.spelled ∙ take_at front x.1 (length front) refl in
        absurd (none x.0 (length front) (record { front = f.front; last = f.last; more = f.more; spelled = cut; expands = f.expands; whole = f.whole; short = f.short }))

pub tiles_of_runs : (bytes rest : List ℕ) (tiles : List Tile) → tiles_at 1500 bytes ≡ Some (tiles, rest)
    → (front : List ℕ) × Runs tiles front × (bytes ≡ front ++ rest)
tiles_of_runs bytes rest tiles h =
    let f = tiles_found 1499 bytes (tiles, rest) h in
    (text (f.front ++ f.last ∷ []), record { front = f.front; last = f.last; more = f.more; spelled = refl; expands = f.expands; whole = f.whole; short = f.short }, f.spelled)

pub tiles_whole : (bytes rest : List ℕ) (tiles : List Tile) → tiles_at 1500 bytes ≡ Some (tiles, rest) → length tiles ≡ 1500
tiles_whole bytes rest tiles h = let f = tiles_found 1499 bytes (tiles, rest) h in f.whole

pub greedy_tiles : (tiles : List Tile) (rest : List ℕ) → length tiles ≡ 1500 → tiles_at 1500 (greedy tiles ++ rest) ≡ Some (tiles, rest)
greedy_tiles tiles rest long = runs_tiles tiles (greedy tiles) rest (greedy_reads tiles long)
