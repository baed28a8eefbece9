-- At most one command stands at a place.
use Rattle.std.proofs.Common.{◌≡◌, ◌∙◌, ◌⊎◌, inl, inr, ℕ, Bool, true, false, cond, List, [], ◌∷◌, Option, Some, None, unwrap_or, refl, sym, ap, subst, codes}
use Rattle.zed_oop_syntax.specs.declared.heading.Heading.{Heading}
use Rattle.zed_oop_syntax.specs.declared.kinds.TileKind.{TileKind}
use Rattle.zed_oop_syntax.specs.declared.commands.Counter.{Counter}
use Rattle.zed_oop_syntax.specs.declared.commands.OopCommand.{OopCommand}
use Rattle.zed_oop_syntax.specs.declared.commands.OopCommand.TheVariants.{Go, Try, Walk, Shoot, Set, Clear, If, Give, Take, End, EndGame, Idle, Restart, Send, Zap, Restore, Lock, Unlock, Become, Die, Put, Change, Cycle, Char, Bind, Nothing, Other}
use Rattle.zed_oop_syntax.specs.Text.{meaning_in, value_at, value_end, word_at, word_end}
use Rattle.zed_oop_syntax.specs.Heading.{DirectionAt}
use Rattle.zed_oop_syntax.specs.Condition.{QueryAt}
use Rattle.zed_oop_syntax.specs.Command.{AimAt, AmountAt, BehindThen, CommandAt, CommandBehind, ExchangeAt, KindAt, NameAt, is_bare, is_command, is_deed, is_naming, is_then, passed, there}
use Rattle.zed_oop_syntax.proofs.Building.{Alone, Built, alone_one, built_one}
use Rattle.zed_oop_syntax.proofs.OneDirection.{direction_one}
use Rattle.zed_oop_syntax.proofs.OneCondition.{kind_one, query_one}

-- ---- the arguments

name_one : (p : List ℕ) (at : ℕ) (v w : List ℕ) (m n : ℕ) → NameAt p at v m → NameAt p at w n → (v ≡ w) × (m ≡ n)
name_one p at v w m n x y = (x.0 ∙ sym y.0, x.1 ∙ sym y.1)

amount_one : (p : List ℕ) (at : ℕ) (a b : Option Counter × ℕ) (m n : ℕ) → AmountAt p at a m → AmountAt p at b n → (a ≡ b) × (m ≡ n)
amount_one p at a b m n x y =
    let make : Option Counter → ℕ → Option Counter × ℕ = λ c v. (c, v) in
    let path : make a.0 a.1 ≡ make b.0 b.1 = rw (x.0 ∙ sym y.0, x.1 ∙ sym y.1) refl in
    (path, x.2 ∙ sym y.2)

aim_one : (p : List ℕ) (at : ℕ) (a b : Heading × Option TileKind) (m n : ℕ) → AimAt p at a m → AimAt p at b n → (a ≡ b) × (m ≡ n)
aim_one p at a b m n x y =
    let first = direction_one p at a.0 b.0 x.0 y.0 x.1.0 y.1.0 in
    let P : ℕ → Type 0 = λ k. KindAt p k b.1 n in
    let second = kind_one p x.0 false a.1 b.1 m n x.1.1 (subst P (sym first.1) y.1.1) in
    let make : Heading → Option TileKind → Heading × Option TileKind = λ h k. (h, k) in
    let path : make a.0 a.1 ≡ make b.0 b.1 = rw (first.0, second.0) refl in
    (path, second.1)

exchange_one : (p : List ℕ) (at : ℕ) (a b : Option TileKind × Option TileKind) (m n : ℕ) → ExchangeAt p at a m → ExchangeAt p at b n
    → (a ≡ b) × (m ≡ n)
exchange_one p at a b m n x y =
    let first = kind_one p at false a.0 b.0 x.0 y.0 x.1.0 y.1.0 in
    let P : ℕ → Type 0 = λ k. KindAt p k b.1 n in
    let second = kind_one p x.0 false a.1 b.1 m n x.1.1 (subst P (sym first.1) y.1.1) in
    let make : Option TileKind → Option TileKind → Option TileKind × Option TileKind = λ j k. (j, k) in
    let path : make a.0 a.1 ≡ make b.0 b.1 = rw (first.0, second.0) refl in
    (path, second.1)

-- a value
ValueAt : List ℕ → ℕ → ℕ → ℕ → Type 0
ValueAt p at v end = (v ≡ value_at p at) × (end ≡ value_end p at)

value_one : (p : List ℕ) (at : ℕ) (v w m n : ℕ) → ValueAt p at v m → ValueAt p at w n → (v ≡ w) × (m ≡ n)
unfolding ValueAt
value_one p at v w m n x y = (x.0 ∙ sym y.0, x.1 ∙ sym y.1)

-- ---- the words

-- the command that a word is
data Verb : Type 0 where
  VerbGo : Verb
  VerbTry : Verb
  VerbWalk : Verb
  VerbShoot : Verb
  VerbPut : Verb
  VerbIf : Verb
  VerbGive : Verb
  VerbTake : Verb
  VerbCycle : Verb
  VerbChar : Verb
  VerbSet : Verb
  VerbClear : Verb
  VerbSend : Verb
  VerbZap : Verb
  VerbRestore : Verb
  VerbBind : Verb
  VerbBecome : Verb
  VerbChange : Verb
  VerbEnd : Verb
  VerbEndGame : Verb
  VerbIdle : Verb
  VerbRestart : Verb
  VerbLock : Verb
  VerbUnlock : Verb
  VerbDie : Verb
  VerbNothing : Verb
  VerbOther : Verb

-- the words of the verbs, without those that do nothing
verbs : List (List ℕ × Verb)
verbs =
    (codes "GO", VerbGo) ∷ (codes "TRY", VerbTry) ∷ (codes "WALK", VerbWalk) ∷ (codes "SHOOT", VerbShoot)
    ∷ (codes "PUT", VerbPut) ∷ (codes "IF", VerbIf) ∷ (codes "GIVE", VerbGive) ∷ (codes "TAKE", VerbTake)
    ∷ (codes "CYCLE", VerbCycle) ∷ (codes "CHAR", VerbChar) ∷ (codes "SET", VerbSet) ∷ (codes "CLEAR", VerbClear)
    ∷ (codes "SEND", VerbSend) ∷ (codes "ZAP", VerbZap) ∷ (codes "RESTORE", VerbRestore) ∷ (codes "BIND", VerbBind)
    ∷ (codes "BECOME", VerbBecome) ∷ (codes "CHANGE", VerbChange) ∷ (codes "END", VerbEnd)
    ∷ (codes "ENDGAME", VerbEndGame) ∷ (codes "IDLE", VerbIdle) ∷ (codes "RESTART", VerbRestart)
    ∷ (codes "LOCK", VerbLock) ∷ (codes "UNLOCK", VerbUnlock) ∷ (codes "DIE", VerbDie) ∷ []

verb_by : List ℕ → Verb
verb_by w = unwrap_or (meaning_in verbs w) VerbNothing

verb : List ℕ → Verb
verb w = cond (is_command w) (verb_by w) VerbOther

other_verb : (w : List ℕ) → is_command w ≡ false → verb w ≡ VerbOther
unfolding verb
other_verb w e = ap (λ b. cond b (verb_by w) VerbOther) e

is_go : verb (codes "GO") ≡ VerbGo
unfolding verb verb_by verbs is_deed is_naming is_bare
is_go = refl

is_try : verb (codes "TRY") ≡ VerbTry
unfolding verb verb_by verbs is_deed is_naming is_bare
is_try = refl

is_walk : verb (codes "WALK") ≡ VerbWalk
unfolding verb verb_by verbs is_deed is_naming is_bare
is_walk = refl

is_shoot : verb (codes "SHOOT") ≡ VerbShoot
unfolding verb verb_by verbs is_deed is_naming is_bare
is_shoot = refl

is_put : verb (codes "PUT") ≡ VerbPut
unfolding verb verb_by verbs is_deed is_naming is_bare
is_put = refl

is_if : verb (codes "IF") ≡ VerbIf
unfolding verb verb_by verbs is_deed is_naming is_bare
is_if = refl

is_give : verb (codes "GIVE") ≡ VerbGive
unfolding verb verb_by verbs is_deed is_naming is_bare
is_give = refl

is_take : verb (codes "TAKE") ≡ VerbTake
unfolding verb verb_by verbs is_deed is_naming is_bare
is_take = refl

is_cycle : verb (codes "CYCLE") ≡ VerbCycle
unfolding verb verb_by verbs is_deed is_naming is_bare
is_cycle = refl

is_char : verb (codes "CHAR") ≡ VerbChar
unfolding verb verb_by verbs is_deed is_naming is_bare
is_char = refl

is_set : verb (codes "SET") ≡ VerbSet
unfolding verb verb_by verbs is_deed is_naming is_bare
is_set = refl

is_clear : verb (codes "CLEAR") ≡ VerbClear
unfolding verb verb_by verbs is_deed is_naming is_bare
is_clear = refl

is_send : verb (codes "SEND") ≡ VerbSend
unfolding verb verb_by verbs is_deed is_naming is_bare
is_send = refl

is_zap : verb (codes "ZAP") ≡ VerbZap
unfolding verb verb_by verbs is_deed is_naming is_bare
is_zap = refl

is_restore : verb (codes "RESTORE") ≡ VerbRestore
unfolding verb verb_by verbs is_deed is_naming is_bare
is_restore = refl

is_bind : verb (codes "BIND") ≡ VerbBind
unfolding verb verb_by verbs is_deed is_naming is_bare
is_bind = refl

is_become : verb (codes "BECOME") ≡ VerbBecome
unfolding verb verb_by verbs is_deed is_naming is_bare
is_become = refl

is_change : verb (codes "CHANGE") ≡ VerbChange
unfolding verb verb_by verbs is_deed is_naming is_bare
is_change = refl

is_end : verb (codes "END") ≡ VerbEnd
unfolding verb verb_by verbs is_deed is_naming is_bare
is_end = refl

is_endgame : verb (codes "ENDGAME") ≡ VerbEndGame
unfolding verb verb_by verbs is_deed is_naming is_bare
is_endgame = refl

is_idle : verb (codes "IDLE") ≡ VerbIdle
unfolding verb verb_by verbs is_deed is_naming is_bare
is_idle = refl

is_restart : verb (codes "RESTART") ≡ VerbRestart
unfolding verb verb_by verbs is_deed is_naming is_bare
is_restart = refl

is_lock : verb (codes "LOCK") ≡ VerbLock
unfolding verb verb_by verbs is_deed is_naming is_bare
is_lock = refl

is_unlock : verb (codes "UNLOCK") ≡ VerbUnlock
unfolding verb verb_by verbs is_deed is_naming is_bare
is_unlock = refl

is_die : verb (codes "DIE") ≡ VerbDie
unfolding verb verb_by verbs is_deed is_naming is_bare
is_die = refl

is_play : verb (codes "PLAY") ≡ VerbNothing
unfolding verb verb_by verbs is_deed is_naming is_bare
is_play = refl

is_throwstar : verb (codes "THROWSTAR") ≡ VerbNothing
unfolding verb verb_by verbs is_deed is_naming is_bare
is_throwstar = refl

-- ---- the commands

-- a command by the verb that its word is
Seen : List ℕ → ℕ → List ℕ → Verb → OopCommand → ℕ → Type 0
Seen p at w VerbGo = Built Go (DirectionAt p at)
Seen p at w VerbTry = Built Try (DirectionAt p at)
Seen p at w VerbWalk = Built Walk (DirectionAt p at)
Seen p at w VerbShoot = Built Shoot (DirectionAt p at)
Seen p at w VerbPut = Built (λ a. Put a.0 a.1) (AimAt p at)
Seen p at w VerbIf = Built If (QueryAt p at)
Seen p at w VerbGive = Built (λ a. Give a.0 a.1) (AmountAt p at)
Seen p at w VerbTake = Built (λ a. Take a.0 a.1) (AmountAt p at)
Seen p at w VerbCycle = Built Cycle (ValueAt p at)
Seen p at w VerbChar = Built Char (ValueAt p at)
Seen p at w VerbSet = Built Set (NameAt p at)
Seen p at w VerbClear = Built Clear (NameAt p at)
Seen p at w VerbSend = Built Send (NameAt p at)
Seen p at w VerbZap = Built Zap (NameAt p at)
Seen p at w VerbRestore = Built Restore (NameAt p at)
Seen p at w VerbBind = Built Bind (NameAt p at)
Seen p at w VerbBecome = Built Become (KindAt p at)
Seen p at w VerbChange = Built (λ a. Change a.0 a.1) (ExchangeAt p at)
Seen p at w VerbEnd = Alone End at
Seen p at w VerbEndGame = Alone EndGame at
Seen p at w VerbIdle = Alone Idle at
Seen p at w VerbRestart = Alone Restart at
Seen p at w VerbLock = Alone Lock at
Seen p at w VerbUnlock = Alone Unlock at
Seen p at w VerbDie = Alone Die at
Seen p at w VerbNothing = Alone Nothing at
Seen p at w VerbOther = Alone (Other w) at

seen : (p : List ℕ) (w : List ℕ) (at : ℕ) (c : OopCommand) (end : ℕ) → CommandBehind p w at c end → Seen p at w (verb w) c end
unfolding Seen ValueAt
seen p w at (Go h) end x = let P : Verb → Type 0 = λ u. Seen p at w u (Go h) end in subst P (sym (ap verb x.0 ∙ is_go)) (h, (refl, x.1))
seen p w at (Try h) end x = let P : Verb → Type 0 = λ u. Seen p at w u (Try h) end in subst P (sym (ap verb x.0 ∙ is_try)) (h, (refl, x.1))
seen p w at (Walk h) end x = let P : Verb → Type 0 = λ u. Seen p at w u (Walk h) end in subst P (sym (ap verb x.0 ∙ is_walk)) (h, (refl, x.1))
seen p w at (Shoot h) end x = let P : Verb → Type 0 = λ u. Seen p at w u (Shoot h) end in subst P (sym (ap verb x.0 ∙ is_shoot)) (h, (refl, x.1))
seen p w at (Put h k) end x = let P : Verb → Type 0 = λ u. Seen p at w u (Put h k) end in subst P (sym (ap verb x.0 ∙ is_put)) ((h, k), (refl, x.1))
seen p w at (If q) end x = let P : Verb → Type 0 = λ u. Seen p at w u (If q) end in subst P (sym (ap verb x.0 ∙ is_if)) (q, (refl, x.1))
seen p w at (Give k v) end x = let P : Verb → Type 0 = λ u. Seen p at w u (Give k v) end in subst P (sym (ap verb x.0 ∙ is_give)) ((k, v), (refl, x.1))
seen p w at (Take k v) end x = let P : Verb → Type 0 = λ u. Seen p at w u (Take k v) end in subst P (sym (ap verb x.0 ∙ is_take)) ((k, v), (refl, x.1))
seen p w at (Cycle v) end x = let P : Verb → Type 0 = λ u. Seen p at w u (Cycle v) end in subst P (sym (ap verb x.0 ∙ is_cycle)) (v, (refl, (x.1, x.2)))
seen p w at (Char v) end x = let P : Verb → Type 0 = λ u. Seen p at w u (Char v) end in subst P (sym (ap verb x.0 ∙ is_char)) (v, (refl, (x.1, x.2)))
seen p w at (Set n) end x = let P : Verb → Type 0 = λ u. Seen p at w u (Set n) end in subst P (sym (ap verb x.0 ∙ is_set)) (n, (refl, x.1))
seen p w at (Clear n) end x = let P : Verb → Type 0 = λ u. Seen p at w u (Clear n) end in subst P (sym (ap verb x.0 ∙ is_clear)) (n, (refl, x.1))
seen p w at (Send n) end x = let P : Verb → Type 0 = λ u. Seen p at w u (Send n) end in subst P (sym (ap verb x.0 ∙ is_send)) (n, (refl, x.1))
seen p w at (Zap n) end x = let P : Verb → Type 0 = λ u. Seen p at w u (Zap n) end in subst P (sym (ap verb x.0 ∙ is_zap)) (n, (refl, x.1))
seen p w at (Restore n) end x = let P : Verb → Type 0 = λ u. Seen p at w u (Restore n) end in subst P (sym (ap verb x.0 ∙ is_restore)) (n, (refl, x.1))
seen p w at (Bind n) end x = let P : Verb → Type 0 = λ u. Seen p at w u (Bind n) end in subst P (sym (ap verb x.0 ∙ is_bind)) (n, (refl, x.1))
seen p w at (Become k) end x = let P : Verb → Type 0 = λ u. Seen p at w u (Become k) end in subst P (sym (ap verb x.0 ∙ is_become)) (k, (refl, x.1))
seen p w at (Change j k) end x = let P : Verb → Type 0 = λ u. Seen p at w u (Change j k) end in subst P (sym (ap verb x.0 ∙ is_change)) ((j, k), (refl, x.1))
seen p w at End end x = let P : Verb → Type 0 = λ u. Seen p at w u End end in subst P (sym (ap verb x.0 ∙ is_end)) (refl, x.1)
seen p w at EndGame end x = let P : Verb → Type 0 = λ u. Seen p at w u EndGame end in subst P (sym (ap verb x.0 ∙ is_endgame)) (refl, x.1)
seen p w at Idle end x = let P : Verb → Type 0 = λ u. Seen p at w u Idle end in subst P (sym (ap verb x.0 ∙ is_idle)) (refl, x.1)
seen p w at Restart end x = let P : Verb → Type 0 = λ u. Seen p at w u Restart end in subst P (sym (ap verb x.0 ∙ is_restart)) (refl, x.1)
seen p w at Lock end x = let P : Verb → Type 0 = λ u. Seen p at w u Lock end in subst P (sym (ap verb x.0 ∙ is_lock)) (refl, x.1)
seen p w at Unlock end x = let P : Verb → Type 0 = λ u. Seen p at w u Unlock end in subst P (sym (ap verb x.0 ∙ is_unlock)) (refl, x.1)
seen p w at Die end x = let P : Verb → Type 0 = λ u. Seen p at w u Die end in subst P (sym (ap verb x.0 ∙ is_die)) (refl, x.1)
seen p w at Nothing end x = by_word x.0
  where
    by_word : (w ≡ codes "PLAY") ⊎ (w ≡ codes "THROWSTAR") → Seen p at w (verb w) Nothing end
    by_word (inl e) = let P : Verb → Type 0 = λ u. Seen p at w u Nothing end in subst P (sym (ap verb e ∙ is_play)) (refl, x.1)
    by_word (inr e) = let P : Verb → Type 0 = λ u. Seen p at w u Nothing end in subst P (sym (ap verb e ∙ is_throwstar)) (refl, x.1)
seen p w at (Other n) end x = let P : Verb → Type 0 = λ u. Seen p at w u (Other n) end in subst P (sym (other_verb w x.0)) (ap Other x.1, x.2)

seen_one : (p : List ℕ) (at : ℕ) (w : List ℕ) (v : Verb) (c d : OopCommand) (m n : ℕ) → Seen p at w v c m → Seen p at w v d n
    → (c ≡ d) × (m ≡ n)
unfolding Seen
seen_one p at w VerbGo = built_one Go (DirectionAt p at) (direction_one p at)
seen_one p at w VerbTry = built_one Try (DirectionAt p at) (direction_one p at)
seen_one p at w VerbWalk = built_one Walk (DirectionAt p at) (direction_one p at)
seen_one p at w VerbShoot = built_one Shoot (DirectionAt p at) (direction_one p at)
seen_one p at w VerbPut = built_one (λ a. Put a.0 a.1) (AimAt p at) (aim_one p at)
seen_one p at w VerbIf = built_one If (QueryAt p at) (query_one p at)
seen_one p at w VerbGive = built_one (λ a. Give a.0 a.1) (AmountAt p at) (amount_one p at)
seen_one p at w VerbTake = built_one (λ a. Take a.0 a.1) (AmountAt p at) (amount_one p at)
seen_one p at w VerbCycle = built_one Cycle (ValueAt p at) (value_one p at)
seen_one p at w VerbChar = built_one Char (ValueAt p at) (value_one p at)
seen_one p at w VerbSet = built_one Set (NameAt p at) (name_one p at)
seen_one p at w VerbClear = built_one Clear (NameAt p at) (name_one p at)
seen_one p at w VerbSend = built_one Send (NameAt p at) (name_one p at)
seen_one p at w VerbZap = built_one Zap (NameAt p at) (name_one p at)
seen_one p at w VerbRestore = built_one Restore (NameAt p at) (name_one p at)
seen_one p at w VerbBind = built_one Bind (NameAt p at) (name_one p at)
seen_one p at w VerbBecome = built_one Become (KindAt p at) (kind_one p at false)
seen_one p at w VerbChange = built_one (λ a. Change a.0 a.1) (ExchangeAt p at) (exchange_one p at)
seen_one p at w VerbEnd = alone_one End at
seen_one p at w VerbEndGame = alone_one EndGame at
seen_one p at w VerbIdle = alone_one Idle at
seen_one p at w VerbRestart = alone_one Restart at
seen_one p at w VerbLock = alone_one Lock at
seen_one p at w VerbUnlock = alone_one Unlock at
seen_one p at w VerbDie = alone_one Die at
seen_one p at w VerbNothing = alone_one Nothing at
seen_one p at w VerbOther = alone_one (Other w) at

-- behind a word stands at most one command
pub command_behind_one : (p w : List ℕ) (at : ℕ) (c d : OopCommand) (m n : ℕ) → CommandBehind p w at c m → CommandBehind p w at d n
    → (c ≡ d) × (m ≡ n)
command_behind_one p w at c d m n x y = seen_one p at w (verb w) c d m n (seen p w at c m x) (seen p w at d n y)

true_is_false : (b : Bool) → b ≡ true → b ≡ false → ⊥
true_is_false b x y = absurd (cc)

-- where a word begins behind THEN, or a THEN and the rest
Opened : List ℕ → ℕ → ℕ → Type 0
Opened p at from = ((is_then p at ≡ false) × (from ≡ at)) ⊎ ((is_then p at ≡ true) × BehindThen p (word_end p at) from)

opened : (p : List ℕ) (at from : ℕ) → BehindThen p at from → Opened p at from
unfolding Opened
opened p at from (there a e) = inl (e, refl)
opened p at from (passed a f e rest) = inr (e, rest)

-- behind THEN the next word begins at one place
pub behind_then_one : (p : List ℕ) (at m : ℕ) → BehindThen p at m → (n : ℕ) → BehindThen p at n → m ≡ n
unfolding Opened
behind_then_one p at m (there a e) n y = from_word (opened p a n y)
  where
    from_word : Opened p a n → a ≡ n
    from_word (inl z) = sym z.1
    from_word (inr z) = absurd (true_is_false (is_then p a) z.0 e)
behind_then_one p at m (passed a f e rest) n y = from_then (opened p a n y) (behind_then_one p (word_end p a) f rest)
  where
    from_then : Opened p a n → ((n : ℕ) → BehindThen p (word_end p a) n → f ≡ n) → f ≡ n
    from_then (inl z) further = absurd (true_is_false (is_then p a) e z.0)
    from_then (inr z) further = further n z.1

-- at most one command stands at a place
pub command_one : (p : List ℕ) (at : ℕ) (c d : Option OopCommand) (m n : ℕ) → CommandAt p at c m → CommandAt p at d n → (c ≡ d) × (m ≡ n)
command_one p at None None m n x y =
    let from = behind_then_one p at x.0 x.1.0 y.0 y.1.0 in
    (refl, x.1.2 ∙ (ap (word_end p) from ∙ sym y.1.2))
command_one p at None (Some d) m n x y =
    let from = behind_then_one p at x.0 x.1.0 y.0 y.1.0 in
    absurd (y.1.1 (ap (word_at p) (sym from) ∙ x.1.1))
command_one p at (Some c) None m n x y =
    let from = behind_then_one p at x.0 x.1.0 y.0 y.1.0 in
    absurd (x.1.1 (ap (word_at p) from ∙ y.1.1))
command_one p at (Some c) (Some d) m n x y =
    let from = behind_then_one p at x.0 x.1.0 y.0 y.1.0 in
    let P : ℕ → Type 0 = λ k. CommandBehind p (word_at p k) (word_end p k) d n in
    let one = command_behind_one p (word_at p x.0) (word_end p x.0) c d m n x.1.2 (subst P (sym from) y.1.2) in
    (ap Some one.0, one.1)
