-- What the laws on the texts of programs promise.
use Rattle.std.specs.Prelude.{◌≡◌, ◌<◌, ℕ, List, Ok}
use Rattle.std.specs.List.{AllByRecursion}
use Rattle.zed_plaintext.specs.Reading.{program_in}
use Rattle.zed_plaintext.specs.Text.{text_of}

-- what is printed of a program, which has bytes alone, is read as that program
abbrev pub PrintedIsRead : Type 0
PrintedIsRead = (program : List ℕ) → AllByRecursion (λ b. b < 256) program → program_in (text_of program) ≡ Ok program
