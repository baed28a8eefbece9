use Rattle.std.proofs.Common.{◌≡◌, ◌∙◌, ◌*◌, ◌+◌, ◌++◌, [], Ok, ap, append-nil, arith, inl, inr, length, length-append, refl, sym}
use Rattle.std.proofs.lemmas.Result.{err_from_is_err_and}
use Rattle.std.specs.Prelude.{option_map}
use Rattle.zed_terminal.proofs.Supply.{brings_more, brings_none, lacks_here, makes_here, one_more, rose_at}
use Rattle.zed_terminal.proofs.tape.Tape.supply.Goals as goal

-- the words that are left are enough
pub returns-then-branch-clause-ok : goal.returns-then-branch-clause-ok
returns-then-branch-clause-ok g c =
    let here = c.args.self.now in
    let made = c.in_ok-attempt.ensures.made (ap (λ b. Ok b) c.if-branch.true) in
    let none = sym (append-nil here.words.items) in (
      [],
      (brings_none (g.C.Chance.to_come c.args.chance.now), refl),
      inl refl,
      makes_here c.args.key here here c.attempt.new.self [] made.0 c.requires.within none refl refl made.1 made.2 c.in_ok-attempt.ensures.words,
    )

-- they are too few
pub loop-init : goal.loop-init
loop-init g c =
    let here = c.args.self.now in
    let lacking = c.in_ok-attempt.ensures.lacking (ap (λ b. Ok b) c.if-branch.false) in
    let none = sym (append-nil here.words.items) in
    record {
      came = [];
      size = refl;
      words = ap (λ w. w.items) c.in_ok-attempt.ensures.words ∙ none;
      brings = brings_none (g.C.Chance.to_come c.args.chance.now);
      lacks = lacks_here c.args.key here here [] c.requires.within none refl refl lacking.0;
      play = lacking.1;
      keys = c.in_ok-attempt.ensures.keys;
      used = lacking.2;
      screen = c.in_ok-attempt.ensures.size;
      overlay = c.in_ok-attempt.ensures.overlay;
      calm = refl;
    }

-- with 32 more of them they are enough
pub returns-then-branch-2-clause-ok : goal.returns-then-branch-2-clause-ok
returns-then-branch-2-clause-ok g c =
    let old = c.loop.invariant in
    let more = c.in_ok-refill.ensures.ok in
    let made = c.in_ok-attempt-2.ensures.made (ap (λ b. Ok b) c.if-branch-2.true) in (
      old.came ++ more.0,
      (brings_more old.came more.0 _ _ _ old.brings more.3, c.in_ok-refill.ensures.failures ∙ old.calm),
      inr (old.came, more.0, refl, more.1, old.lacks),
      makes_here c.args.key c.args.self.now c.refill.new.self c.attempt-in-loop.new.self (old.came ++ more.0) made.0 c.requires.within
          (one_more c.args.self.now.words.items old.came more.0 c.loop.self.words.items c.refill.new.self.words.items old.words more.2)
          (c.in_ok-refill.ensures.play ∙ old.play) (c.in_ok-refill.ensures.used ∙ old.used) made.1 made.2 c.in_ok-attempt-2.ensures.words,
    )

-- or still too few
pub loop-preserved : goal.loop-preserved
loop-preserved g c =
    let old = c.loop.invariant in
    let more = c.in_ok-refill.ensures.ok in
    let lacking = c.in_ok-attempt-2.ensures.lacking (ap (λ b. Ok b) c.if-branch-2.false) in
    let play = c.in_ok-refill.ensures.play ∙ old.play in
    let used = c.in_ok-refill.ensures.used ∙ old.used in
    let words =
    one_more c.args.self.now.words.items old.came more.0 c.loop.self.words.items c.refill.new.self.words.items old.words more.2 in
    let before : length old.came ≡ 32 * c.loop.counter = old.size in
    let last : length more.0 ≡ 32 = more.1 in
    let both : length (old.came ++ more.0) ≡ length old.came + length more.0 = length-append old.came more.0 in
    let size : length (old.came ++ more.0) ≡ 32 * (c.loop.counter + 1) = omega (arith, before, last, both) in
    record {
      came = old.came ++ more.0;
      size = size;
      words = ap (λ w. w.items) c.in_ok-attempt-2.ensures.words ∙ words;
      brings = brings_more old.came more.0 _ _ _ old.brings more.3;
      lacks = lacks_here c.args.key c.args.self.now c.refill.new.self (old.came ++ more.0) c.requires.within words play used lacking.0;
      play = lacking.1 ∙ play;
      keys = c.in_ok-attempt-2.ensures.keys ∙ c.in_ok-refill.ensures.keys ∙ old.keys;
      used = lacking.2 ∙ used;
      screen = c.in_ok-attempt-2.ensures.size ∙ c.in_ok-refill.ensures.size ∙ old.screen;
      overlay = c.in_ok-attempt-2.ensures.overlay ∙ c.in_ok-refill.ensures.overlay ∙ old.overlay;
      calm = c.in_ok-refill.ensures.failures ∙ old.calm;
    }

-- no more come
pub returns-in_err-refill-clause-err : goal.returns-in_err-refill-clause-err
returns-in_err-refill-clause-err g c =
    let old = c.loop.invariant in
    let p = err_from_is_err_and c.from_residual-in_err-refill.result c.from_residual-in_err-refill.ensures.1 in
    let same : p.0 ≡ c.in_err-refill.field-0.0 = p.2 in
    rw (p.1, same) (elim c.in_err-refill.ensures.err [
      | inl memory ↦ inl memory
      | inr fails ↦ inr (
        fails.0,
        (
          old.came,
          (
            old.brings ∙ ap (option_map (λ rest. old.came ++ rest)) (sym fails.1),
            inl (rose_at c.in_err-refill.field-0.0 _ _ _ old.calm fails.0 c.in_err-refill.ensures.failures),
          ),
          old.lacks,
          c.in_err-refill.ensures.play ∙ old.play,
          ap (λ v. v.items) (c.in_err-refill.ensures.keys ∙ old.keys),
        ),
      )
    ])

-- so many came, and are too few
pub returns-clause-err : goal.returns-clause-err
returns-clause-err g c =
    let old = c.loop.invariant in
    let so : length old.came ≡ 32 * c.loop.counter = old.size in
    let many : length old.came ≡ 131072 = omega (arith, so, c.loop.auto.counter-end) in
    inr (refl, (old.came, (old.brings, inr (many, old.calm)), old.lacks, old.play, ap (λ v. v.items) old.keys))
