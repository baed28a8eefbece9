-- A command stands at each place, or no word.
use Rattle.std.proofs.Common.{◌≡◌, ℕ, zero, suc, ◌+◌, ◌≤◌, Bool, true, false, ◌||◌, List, [], ◌∷◌, length, Option, Some, None, refl, sym, ◌∙◌, inl, inr, arith, codes}
use Rattle.zed_oop_syntax.specs.declared.commands.OopCommand.{OopCommand}
use Rattle.zed_oop_syntax.specs.declared.commands.OopCommand.TheVariants.{Go, Try, Walk, Shoot, Set, Clear, If, Give, Take, End, EndGame, Idle, Restart, Send, Zap, Restore, Lock, Unlock, Become, Die, Put, Change, Cycle, Char, Bind, Nothing, Other}
use Rattle.zed_oop_syntax.specs.Text.{value_at, value_end, word_at, word_end}
use Rattle.zed_oop_syntax.specs.Kind.{kind_at}
use Rattle.zed_oop_syntax.specs.Command.{BehindThen, CommandAt, CommandBehind, counter_of, is_bare, is_command, is_deed, is_naming, is_then, passed, there}
use Rattle.zed_oop_syntax.proofs.Building.{by_either, by_word}
use Rattle.zed_oop_syntax.proofs.CommandLemmas.{then_moves}
use Rattle.zed_oop_syntax.proofs.OneCondition.{query_there}
use Rattle.zed_oop_syntax.proofs.OneDirection.{direction_there}
use Rattle.zed_oop_syntax.proofs.TextLemmas.{word_end_within}

-- a command stands behind its word
abbrev pub Stands : List ℕ → List ℕ → ℕ → Type 0
Stands p w at = (c : OopCommand) × ((end : ℕ) × CommandBehind p w at c end)

deed_there : (p w : List ℕ) (at : ℕ) → is_deed w ≡ true → Stands p w at
unfolding is_deed
deed_there p w at =
    by_either _ _
    (by_either _ _
    (by_either _ _
    (by_either _ _
    (by_either _ _
    (by_either _ _
    (by_either _ _
    (by_either _ _
    (by_either _ _
    (by_word w (codes "GO") (λ e. let d = direction_there p at in (Go d.0, (d.1.0, (e, d.1.1)))))
    (by_word w (codes "TRY") (λ e. let d = direction_there p at in (Try d.0, (d.1.0, (e, d.1.1))))))
    (by_word w (codes "WALK") (λ e. let d = direction_there p at in (Walk d.0, (d.1.0, (e, d.1.1))))))
    (by_word w (codes "SHOOT") (λ e. let d = direction_there p at in (Shoot d.0, (d.1.0, (e, d.1.1))))))
    (by_word w (codes "PUT") (λ e. let d = direction_there p at in (Put d.0 (kind_at p d.1.0 false).0, ((kind_at p d.1.0 false).1, (e, (d.1.0, (d.1.1, refl))))))))
    (by_word w (codes "IF") (λ e. let q = query_there p at in (If q.0, (q.1.0, (e, q.1.1))))))
    (by_word w (codes "GIVE") (λ e. (Give (counter_of (word_at p at)) (value_at p (word_end p at)), (value_end p (word_end p at), (e, (refl, refl, refl)))))))
    (by_word w (codes "TAKE") (λ e. (Take (counter_of (word_at p at)) (value_at p (word_end p at)), (value_end p (word_end p at), (e, (refl, refl, refl)))))))
    (by_word w (codes "CYCLE") (λ e. (Cycle (value_at p at), (value_end p at, (e, refl, refl))))))
    (by_word w (codes "CHAR") (λ e. (Char (value_at p at), (value_end p at, (e, refl, refl)))))

naming_there : (p w : List ℕ) (at : ℕ) → is_naming w ≡ true → Stands p w at
unfolding is_naming
naming_there p w at =
    by_either _ _
    (by_either _ _
    (by_either _ _
    (by_either _ _
    (by_either _ _
    (by_either _ _
    (by_either _ _
    (by_word w (codes "SET") (λ e. (Set (word_at p at), (word_end p at, (e, (refl, refl))))))
    (by_word w (codes "CLEAR") (λ e. (Clear (word_at p at), (word_end p at, (e, (refl, refl)))))))
    (by_word w (codes "SEND") (λ e. (Send (word_at p at), (word_end p at, (e, (refl, refl)))))))
    (by_word w (codes "ZAP") (λ e. (Zap (word_at p at), (word_end p at, (e, (refl, refl)))))))
    (by_word w (codes "RESTORE") (λ e. (Restore (word_at p at), (word_end p at, (e, (refl, refl)))))))
    (by_word w (codes "BIND") (λ e. (Bind (word_at p at), (word_end p at, (e, (refl, refl)))))))
    (by_word w (codes "BECOME") (λ e. (Become (kind_at p at false).0, ((kind_at p at false).1, (e, refl))))))
    (by_word w (codes "CHANGE") (λ e. let k = kind_at p at false in (Change k.0 (kind_at p k.1 false).0, ((kind_at p k.1 false).1, (e, (k.1, (refl, refl)))))))

bare_there : (p w : List ℕ) (at : ℕ) → is_bare w ≡ true → Stands p w at
unfolding is_bare
bare_there p w at =
    by_either _ _
    (by_either _ _
    (by_either _ _
    (by_either _ _
    (by_either _ _
    (by_either _ _
    (by_either _ _
    (by_either _ _
    (by_word w (codes "END") (λ e. (End, (at, (e, refl)))))
    (by_word w (codes "ENDGAME") (λ e. (EndGame, (at, (e, refl))))))
    (by_word w (codes "IDLE") (λ e. (Idle, (at, (e, refl))))))
    (by_word w (codes "RESTART") (λ e. (Restart, (at, (e, refl))))))
    (by_word w (codes "LOCK") (λ e. (Lock, (at, (e, refl))))))
    (by_word w (codes "UNLOCK") (λ e. (Unlock, (at, (e, refl))))))
    (by_word w (codes "DIE") (λ e. (Die, (at, (e, refl))))))
    (by_word w (codes "PLAY") (λ e. (Nothing, (at, (inl e, refl))))))
    (by_word w (codes "THROWSTAR") (λ e. (Nothing, (at, (inr e, refl)))))

-- behind each word stands a command
pub command_behind_there : (p w : List ℕ) (at : ℕ) → Stands p w at
command_behind_there p w at = by_command (is_command w) refl
  where
    by_command : (b : Bool) → is_command w ≡ b → Stands p w at
    by_command true e = by_either (is_deed w || is_naming w) (is_bare w) (by_either (is_deed w) (is_naming w) (deed_there p w at) (naming_there p w at)) (bare_there p w at) e
    by_command false e = (Other w, (at, (e, refl, refl)))

-- the words THEN at a place end
then_there : (k : ℕ) (p : List ℕ) (at : ℕ) → length p ≤ at + k → (from : ℕ) × BehindThen p at from
then_there zero p at h = by_then (is_then p at) refl
  where
    by_then : (b : Bool) → is_then p at ≡ b → (from : ℕ) × BehindThen p at from
    by_then false e = (at, there at e)
    by_then true e =
        let moves = then_moves p at e in
        let within = word_end_within p at in
        absurd (omega arith)
then_there (suc k) p at h = by_then (is_then p at) refl (then_there k p (word_end p at))
  where
    by_then : (b : Bool) → is_then p at ≡ b → (length p ≤ word_end p at + k → (from : ℕ) × BehindThen p (word_end p at) from)
        → (from : ℕ) × BehindThen p at from
    by_then false e further = (at, there at e)
    by_then true e further =
        let moves = then_moves p at e in
        let rest = further (omega arith) in
        (rest.0, passed at rest.0 e rest.1)

-- a command stands at each place, or no word does
pub command_there : (p : List ℕ) (at : ℕ) → (c : Option OopCommand) × ((end : ℕ) × CommandAt p at c end)
command_there p at =
    let behind = then_there (length p) p at (omega arith) in
    from_word behind.0 behind.1 (word_at p behind.0) refl
  where
    from_word : (from : ℕ) → BehindThen p at from → (w : List ℕ) → word_at p from ≡ w
        → (c : Option OopCommand) × ((end : ℕ) × CommandAt p at c end)
    from_word from behind [] e = (None, (word_end p from, (from, (behind, e, refl))))
    from_word from behind (b ∷ w) e =
        let found = command_behind_there p (word_at p from) (word_end p from) in
        (Some found.0, (found.1.0, (from, (behind, (λ none. absurd (no_word b w (sym e ∙ none))), found.1.1))))
      where
        no_word : (b : ℕ) (w : List ℕ) → b ∷ w ≡ [] → ⊥
        no_word b w n = absurd (cc)
