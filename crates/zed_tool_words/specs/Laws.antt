-- Which words ask for help, and for the version.
use Rattle.std.specs.Prelude.{[], ◌∷◌, codes}
use Rattle.zed_tool_words.specs.Commands.{AsksHelp, AsksVersion}

-- `--help` asks for help
abbrev pub HelpAsksHelp : Type 0
HelpAsksHelp = AsksHelp (codes "--help" ∷ [])

-- and so it does behind the name of a command
abbrev pub HelpOfCommands : Type 0
HelpOfCommands =
    AsksHelp (codes "open" ∷ codes "--help" ∷ []) × AsksHelp (codes "take" ∷ codes "--help" ∷ [])
    × AsksHelp (codes "log" ∷ codes "--help" ∷ []) × AsksHelp (codes "list" ∷ codes "--help" ∷ [])
    × AsksHelp (codes "page" ∷ codes "--help" ∷ []) × AsksHelp (codes "show" ∷ codes "--help" ∷ []) × AsksHelp (codes "play" ∷ codes "--help" ∷ [])
    × AsksHelp (codes "lint" ∷ codes "--help" ∷ []) × AsksHelp (codes "set" ∷ codes "--help" ∷ [])
    × AsksHelp (codes "compare" ∷ codes "--help" ∷ []) × AsksHelp (codes "undo" ∷ codes "--help" ∷ [])
    × AsksHelp (codes "program" ∷ codes "--help" ∷ [])

-- `--version` asks for the version
abbrev pub VersionAsksVersion : Type 0
VersionAsksVersion = AsksVersion (codes "--version" ∷ [])
