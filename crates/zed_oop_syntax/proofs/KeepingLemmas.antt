-- Commands whose reading takes memory.
use Rattle.std.proofs.Common.{◌≡◌, ℕ, ◌<◌, false, List, length, refl, arith}
use Rattle.std.specs.Char.{to_ascii_uppercase}
use Rattle.std.proofs.lemmas.List.{length-map}
use Rattle.zed_oop_syntax.specs.declared.commands.Doing.{Doing}
use Rattle.zed_oop_syntax.specs.declared.commands.Doing.TheVariants.{Go as DoGo, Try as DoTry, Walk as DoWalk, Shoot as DoShoot, Put as DoPut, If as DoIf, Give as DoGive, Take as DoTake, Cycle as DoCycle, Char as DoChar}
use Rattle.zed_oop_syntax.specs.declared.commands.Naming.{Naming}
use Rattle.zed_oop_syntax.specs.declared.commands.Naming.TheVariants.{Set as NameSet, Clear as NameClear, Send as NameSend, Zap as NameZap, Restore as NameRestore, Bind as NameBind, Become as NameBecome, Change as NameChange}
use Rattle.zed_oop_syntax.specs.declared.commands.OopCommand.TheVariants.{Go, Try, Walk, Shoot, Put, If, Set, Clear, Send, Zap, Restore, Bind, Other}
use Rattle.zed_oop_syntax.specs.Text.{upper, word_at, word_end}
use Rattle.zed_oop_syntax.specs.Kind.{kind_at}
use Rattle.zed_oop_syntax.specs.Command.{BehindTakes, is_bare, is_command, is_deed, is_naming}
use Rattle.zed_oop_syntax.specs.Verbs.{DoingTakes, NamingTakes, doing_word, naming_word}

-- by the word of a command that does, asks or counts
pub doing_takes : (p w : List ℕ) (v : Doing) (at : ℕ) → w ≡ doing_word v → DoingTakes p v at → BehindTakes p w at
doing_takes p w DoGo at said (h, (end, (stands, keeps))) = (Go h, (end, ((said, stands), keeps)))
doing_takes p w DoTry at said (h, (end, (stands, keeps))) = (Try h, (end, ((said, stands), keeps)))
doing_takes p w DoWalk at said (h, (end, (stands, keeps))) = (Walk h, (end, ((said, stands), keeps)))
doing_takes p w DoShoot at said (h, (end, (stands, keeps))) = (Shoot h, (end, ((said, stands), keeps)))
doing_takes p w DoPut at said (h, (end, (stands, keeps))) =
    let found = kind_at p end false in
    (Put h found.0, (found.1, ((said, (end, (stands, refl))), keeps)))
doing_takes p w DoIf at said (q, (end, (stands, keeps))) = (If q, (end, ((said, stands), keeps)))
doing_takes p w DoGive at said takes = absurd takes
doing_takes p w DoTake at said takes = absurd takes
doing_takes p w DoCycle at said takes = absurd takes
doing_takes p w DoChar at said takes = absurd takes

-- by the word of a command that names something
pub naming_takes : (p w : List ℕ) (v : Naming) (at : ℕ) → w ≡ naming_word v → NamingTakes p v at → BehindTakes p w at
naming_takes p w NameSet at said named = (Set (word_at p at), (word_end p at, ((said, (refl, refl)), named)))
naming_takes p w NameClear at said named = (Clear (word_at p at), (word_end p at, ((said, (refl, refl)), named)))
naming_takes p w NameSend at said named = (Send (word_at p at), (word_end p at, ((said, (refl, refl)), named)))
naming_takes p w NameZap at said named = (Zap (word_at p at), (word_end p at, ((said, (refl, refl)), named)))
naming_takes p w NameRestore at said named = (Restore (word_at p at), (word_end p at, ((said, (refl, refl)), named)))
naming_takes p w NameBind at said named = (Bind (word_at p at), (word_end p at, ((said, (refl, refl)), named)))
naming_takes p w NameBecome at said takes = absurd takes
naming_takes p w NameChange at said takes = absurd takes

-- a word that is no command
pub other_takes : (p w : List ℕ) (at : ℕ) → is_deed (upper w) ≡ false → is_naming (upper w) ≡ false → is_bare (upper w) ≡ false
    → 0 < length w
    → BehindTakes p (upper w) at
other_takes p w at deed naming bare named =
    let long = length-map w to_ascii_uppercase in
    let keeps : 0 < length (upper w) = omega arith in
    let none : is_command (upper w) ≡ false = rw (deed, naming, bare) refl in
    (Other (upper w), (at, ((none, refl, refl), keeps)))
