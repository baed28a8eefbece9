-- Commands as a program writes them.
use Rattle.std.specs.Prelude.{◌≡◌, ◌≢◌, ℕ, ◌<◌, Bool, true, false, ◌||◌, ◌⊎◌, List, [], ◌∷◌, length, Option, Some, None, codes}
use Rattle.std.specs.Str.{bytes_eq}
use Rattle.zed_oop_syntax.specs.declared.heading.Heading.{Heading}
use Rattle.zed_oop_syntax.specs.declared.kinds.TileKind.{TileKind}
use Rattle.zed_oop_syntax.specs.declared.commands.Counter.{Counter}
use Rattle.zed_oop_syntax.specs.declared.commands.Counter.TheVariants.{Health, Ammo, Gems, Torches, Score, Time}
use Rattle.zed_oop_syntax.specs.declared.commands.OopCommand.{OopCommand}
use Rattle.zed_oop_syntax.specs.declared.commands.OopCommand.TheVariants.{Go, Try, Walk, Shoot, Set, Clear, If, Give, Take, End, EndGame, Idle, Restart, Send, Zap, Restore, Lock, Unlock, Become, Die, Put, Change, Cycle, Char, Bind, Nothing, Other}
use Rattle.zed_oop_syntax.specs.Text.{meaning_in, value_at, value_end, word_at, word_end}
use Rattle.zed_oop_syntax.specs.Heading.{DirectionAt, HeadingKeeps}
use Rattle.zed_oop_syntax.specs.Kind.{kind_at}
use Rattle.zed_oop_syntax.specs.Condition.{QueryAt, TestKeeps}

-- ---- the words of the table

-- the words of the commands that do, ask or count something
unfoldable pub is_deed : List ℕ → Bool
is_deed w =
    bytes_eq w (codes "GO") || bytes_eq w (codes "TRY") || bytes_eq w (codes "WALK")
    || bytes_eq w (codes "SHOOT") || bytes_eq w (codes "PUT") || bytes_eq w (codes "IF")
    || bytes_eq w (codes "GIVE") || bytes_eq w (codes "TAKE") || bytes_eq w (codes "CYCLE")
    || bytes_eq w (codes "CHAR")

-- the words of the commands that name something
unfoldable pub is_naming : List ℕ → Bool
is_naming w =
    bytes_eq w (codes "SET") || bytes_eq w (codes "CLEAR") || bytes_eq w (codes "SEND")
    || bytes_eq w (codes "ZAP") || bytes_eq w (codes "RESTORE") || bytes_eq w (codes "BIND")
    || bytes_eq w (codes "BECOME") || bytes_eq w (codes "CHANGE")

-- the words of the commands that stand alone
unfoldable pub is_bare : List ℕ → Bool
is_bare w =
    bytes_eq w (codes "END") || bytes_eq w (codes "ENDGAME") || bytes_eq w (codes "IDLE")
    || bytes_eq w (codes "RESTART") || bytes_eq w (codes "LOCK") || bytes_eq w (codes "UNLOCK")
    || bytes_eq w (codes "DIE") || bytes_eq w (codes "PLAY") || bytes_eq w (codes "THROWSTAR")

-- whether a word is a command's
abbrev pub is_command : List ℕ → Bool
is_command w = is_deed w || is_naming w || is_bare w

-- the counter of a word
unfoldable pub counter_of : List ℕ → Option Counter
counter_of w = meaning_in (
    (codes "HEALTH", Health) ∷ (codes "AMMO", Ammo) ∷ (codes "GEMS", Gems)
    ∷ (codes "TORCHES", Torches) ∷ (codes "SCORE", Score) ∷ (codes "TIME", Time) ∷ []) w

-- ---- what stands behind them

-- a word
abbrev pub NameAt : List ℕ → ℕ → List ℕ → ℕ → Type 0
NameAt p at w end = (w ≡ word_at p at) × (end ≡ word_end p at)

-- a kind; the player is none
abbrev pub KindAt : List ℕ → ℕ → Option TileKind → ℕ → Type 0
KindAt p at k end = kind_at p at false ≡ (k, end)

-- a counter and a value
abbrev pub AmountAt : List ℕ → ℕ → Option Counter × ℕ → ℕ → Type 0
AmountAt p at a end =
    (a.0 ≡ counter_of (word_at p at)) × (a.1 ≡ value_at p (word_end p at)) × (end ≡ value_end p (word_end p at))

-- a direction and a kind
abbrev pub AimAt : List ℕ → ℕ → Heading × Option TileKind → ℕ → Type 0
AimAt p at a end = (mid : ℕ) × (DirectionAt p at a.0 mid × KindAt p mid a.1 end)

-- two kinds
abbrev pub ExchangeAt : List ℕ → ℕ → Option TileKind × Option TileKind → ℕ → Type 0
ExchangeAt p at a end = (mid : ℕ) × (KindAt p at a.0 mid × KindAt p mid a.1 end)

-- the command w, a word that ends at a place, stands before another place: a row each
abbrev pub CommandBehind : List ℕ → List ℕ → ℕ → OopCommand → ℕ → Type 0
CommandBehind p w at (Go h) end = (w ≡ codes "GO") × DirectionAt p at h end
CommandBehind p w at (Try h) end = (w ≡ codes "TRY") × DirectionAt p at h end
CommandBehind p w at (Walk h) end = (w ≡ codes "WALK") × DirectionAt p at h end
CommandBehind p w at (Shoot h) end = (w ≡ codes "SHOOT") × DirectionAt p at h end
CommandBehind p w at (Set n) end = (w ≡ codes "SET") × NameAt p at n end
CommandBehind p w at (Clear n) end = (w ≡ codes "CLEAR") × NameAt p at n end
CommandBehind p w at (If q) end = (w ≡ codes "IF") × QueryAt p at q end
CommandBehind p w at (Give k v) end = (w ≡ codes "GIVE") × AmountAt p at (k, v) end
CommandBehind p w at (Take k v) end = (w ≡ codes "TAKE") × AmountAt p at (k, v) end
CommandBehind p w at (Send n) end = (w ≡ codes "SEND") × NameAt p at n end
CommandBehind p w at (Zap n) end = (w ≡ codes "ZAP") × NameAt p at n end
CommandBehind p w at (Restore n) end = (w ≡ codes "RESTORE") × NameAt p at n end
CommandBehind p w at (Bind n) end = (w ≡ codes "BIND") × NameAt p at n end
CommandBehind p w at (Become k) end = (w ≡ codes "BECOME") × KindAt p at k end
CommandBehind p w at (Put h k) end = (w ≡ codes "PUT") × AimAt p at (h, k) end
CommandBehind p w at (Change j k) end = (w ≡ codes "CHANGE") × ExchangeAt p at (j, k) end
CommandBehind p w at (Cycle v) end = (w ≡ codes "CYCLE") × (v ≡ value_at p at) × (end ≡ value_end p at)
CommandBehind p w at (Char v) end = (w ≡ codes "CHAR") × (v ≡ value_at p at) × (end ≡ value_end p at)
CommandBehind p w at End end = (w ≡ codes "END") × (end ≡ at)
CommandBehind p w at EndGame end = (w ≡ codes "ENDGAME") × (end ≡ at)
CommandBehind p w at Idle end = (w ≡ codes "IDLE") × (end ≡ at)
CommandBehind p w at Restart end = (w ≡ codes "RESTART") × (end ≡ at)
CommandBehind p w at Lock end = (w ≡ codes "LOCK") × (end ≡ at)
CommandBehind p w at Unlock end = (w ≡ codes "UNLOCK") × (end ≡ at)
CommandBehind p w at Die end = (w ≡ codes "DIE") × (end ≡ at)
CommandBehind p w at Nothing end = ((w ≡ codes "PLAY") ⊎ (w ≡ codes "THROWSTAR")) × (end ≡ at)
CommandBehind p w at (Other n) end = (is_command w ≡ false) × (n ≡ w) × (end ≡ at)

-- whether THEN stands at a place
abbrev pub is_then : List ℕ → ℕ → Bool
is_then p at = bytes_eq (word_at p at) (codes "THEN")

-- behind the words THEN from a place on another word begins, or none
pub data BehindThen (p : List ℕ) : ℕ → ℕ → Type 0 where
  there : (at : ℕ) → is_then p at ≡ false → BehindThen p at at
  passed : (at from : ℕ) → is_then p at ≡ true → BehindThen p (word_end p at) from → BehindThen p at from

-- a command, or no word at all, is the next at a place, and ends before another
abbrev pub CommandAt : List ℕ → ℕ → Option OopCommand → ℕ → Type 0
CommandAt p at None end = (from : ℕ) × (BehindThen p at from × (word_at p from ≡ []) × (end ≡ word_end p from))
CommandAt p at (Some c) end =
    (from : ℕ) × (BehindThen p at from × (word_at p from ≢ []) × CommandBehind p (word_at p from) (word_end p from) c end)

-- ---- what of them takes memory

-- a command has turns, a name or another word, which are kept in memory: a row each
abbrev pub CommandKeeps : OopCommand → Type 0
CommandKeeps (Go h) = HeadingKeeps h
CommandKeeps (Try h) = HeadingKeeps h
CommandKeeps (Walk h) = HeadingKeeps h
CommandKeeps (Shoot h) = HeadingKeeps h
CommandKeeps (Put h k) = HeadingKeeps h
CommandKeeps (If q) = TestKeeps q.test
CommandKeeps (Set n) = 0 < length n
CommandKeeps (Clear n) = 0 < length n
CommandKeeps (Send n) = 0 < length n
CommandKeeps (Zap n) = 0 < length n
CommandKeeps (Restore n) = 0 < length n
CommandKeeps (Bind n) = 0 < length n
CommandKeeps (Other n) = 0 < length n
CommandKeeps _ = ⊥

-- reading the command w, a word that ends at a place, takes memory
abbrev pub BehindTakes : List ℕ → List ℕ → ℕ → Type 0
BehindTakes p w at = (c : OopCommand) × ((end : ℕ) × (CommandBehind p w at c end × CommandKeeps c))

-- reading the command at a place takes memory
abbrev pub CommandTakes : List ℕ → ℕ → Type 0
CommandTakes p at = (c : OopCommand) × ((end : ℕ) × (CommandAt p at (Some c) end × CommandKeeps c))
