-- How the reader tells the words apart, which only its own contracts cite.
use Rattle.std.specs.Prelude.{◌≡◌, ℕ, true, false, List, Option, Some, None, codes}
use Rattle.zed_oop_syntax.specs.declared.conditions.Question.{Question}
use Rattle.zed_oop_syntax.specs.declared.conditions.Question.TheVariants.{Not, Aligned, Contact, Blocked, Any, Energized}
use Rattle.zed_oop_syntax.specs.declared.conditions.Test.{Test}
use Rattle.zed_oop_syntax.specs.declared.conditions.Test.TheVariants.{Blocked as BlockedTest, Any as AnyTest}
use Rattle.zed_oop_syntax.specs.declared.commands.Bare.{Bare}
use Rattle.zed_oop_syntax.specs.declared.commands.Bare.TheVariants.{End, EndGame, Idle, Restart, Lock, Unlock, Die, Play, ThrowStar}
use Rattle.zed_oop_syntax.specs.declared.commands.Doing.{Doing}
use Rattle.zed_oop_syntax.specs.declared.commands.Doing.TheVariants.{Go, Try, Walk, Shoot, Put, If, Give, Take, Cycle, Char}
use Rattle.zed_oop_syntax.specs.declared.commands.Naming.{Naming}
use Rattle.zed_oop_syntax.specs.declared.commands.Naming.TheVariants.{Set, Clear, Send, Zap, Restore, Bind, Become, Change}
use Rattle.zed_oop_syntax.specs.Heading.{DirectionAt, DirectionTakes}
use Rattle.zed_oop_syntax.specs.Kind.{kind_at}
use Rattle.zed_oop_syntax.specs.Condition.{QueryTakes, is_question}
use Rattle.zed_oop_syntax.specs.Command.{BehindThen, is_bare, is_deed, is_naming}
use Rattle.zed_oop_syntax.specs.Text.{HasWord, word_at, word_end}

-- the word of a question
abbrev pub question_word : Question → List ℕ
question_word Not = codes "NOT"
question_word Aligned = codes "ALLIGNED"
question_word Contact = codes "CONTACT"
question_word Blocked = codes "BLOCKED"
question_word Any = codes "ANY"
question_word Energized = codes "ENERGIZED"

-- which question a word is, if it is one
abbrev pub IsQuestion : List ℕ → Option Question → Type 0
IsQuestion w None = is_question w ≡ false
IsQuestion w (Some q) = w ≡ question_word q

-- the direction behind BLOCKED, and the kind behind ANY
abbrev pub BlockedAt : List ℕ → ℕ → Option Test → ℕ → Type 0
BlockedAt p at (Some (BlockedTest h)) end = DirectionAt p at h end
BlockedAt p at _ end = ⊥

-- the kind behind ANY, which may be the player
abbrev pub AnyAt : List ℕ → ℕ → Option Test → ℕ → Type 0
AnyAt p at (Some (AnyTest k)) end = kind_at p at true ≡ (k, end)
AnyAt p at _ end = ⊥

-- the word of a command that does, asks or counts
abbrev pub doing_word : Doing → List ℕ
doing_word Go = codes "GO"
doing_word Try = codes "TRY"
doing_word Walk = codes "WALK"
doing_word Shoot = codes "SHOOT"
doing_word Put = codes "PUT"
doing_word If = codes "IF"
doing_word Give = codes "GIVE"
doing_word Take = codes "TAKE"
doing_word Cycle = codes "CYCLE"
doing_word Char = codes "CHAR"

-- which command that does, asks or counts a word is, if it is one
abbrev pub IsDoing : List ℕ → Option Doing → Type 0
IsDoing w None = is_deed w ≡ false
IsDoing w (Some v) = w ≡ doing_word v

-- the word of a command that names something
abbrev pub naming_word : Naming → List ℕ
naming_word Set = codes "SET"
naming_word Clear = codes "CLEAR"
naming_word Send = codes "SEND"
naming_word Zap = codes "ZAP"
naming_word Restore = codes "RESTORE"
naming_word Bind = codes "BIND"
naming_word Become = codes "BECOME"
naming_word Change = codes "CHANGE"

-- which command that names something a word is, if it is one
abbrev pub IsNaming : List ℕ → Option Naming → Type 0
IsNaming w None = is_naming w ≡ false
IsNaming w (Some v) = w ≡ naming_word v

-- the word of a command that stands alone
abbrev pub bare_word : Bare → List ℕ
bare_word End = codes "END"
bare_word EndGame = codes "ENDGAME"
bare_word Idle = codes "IDLE"
bare_word Restart = codes "RESTART"
bare_word Lock = codes "LOCK"
bare_word Unlock = codes "UNLOCK"
bare_word Die = codes "DIE"
bare_word Play = codes "PLAY"
bare_word ThrowStar = codes "THROWSTAR"

-- which command that stands alone a word is, if it is one
abbrev pub IsBare : List ℕ → Option Bare → Type 0
IsBare w None = is_bare w ≡ false
IsBare w (Some v) = w ≡ bare_word v

-- a word, the first from a place on that isn't THEN, and where it ends
abbrev pub NextWord : List ℕ → ℕ → List ℕ → ℕ → Type 0
NextWord p at w end = (from : ℕ) × (BehindThen p at from × (w ≡ word_at p from) × (end ≡ word_end p from))

-- reading what stands behind the word of a command that does, asks or counts takes memory
abbrev pub DoingTakes : List ℕ → Doing → ℕ → Type 0
DoingTakes p Go at = DirectionTakes p at
DoingTakes p Try at = DirectionTakes p at
DoingTakes p Walk at = DirectionTakes p at
DoingTakes p Shoot at = DirectionTakes p at
DoingTakes p Put at = DirectionTakes p at
DoingTakes p If at = QueryTakes p at
DoingTakes p _ at = ⊥

-- reading what stands behind the word of a command that names something takes memory
abbrev pub NamingTakes : List ℕ → Naming → ℕ → Type 0
NamingTakes p Become at = ⊥
NamingTakes p Change at = ⊥
NamingTakes p _ at = HasWord p at
