-- The line that tells which file a refusal is of.
use Rattle.std.specs.Prelude.{ℕ, List, [], ◌∷◌, ◌++◌, codes}
use Rattle.zed_system.specs.declared.last.Ending.{Ending}
use Rattle.zed_system.specs.declared.last.Ending.TheVariants.{Read, Written, NoFile, NotRead, NotWritten}

-- what is told of the file of a name, by how the call for it ended, with what the system says of an error, up to a line feed (10)
abbrev pub telling : Ending → List ℕ → List ℕ → List ℕ
telling Read name cause = codes "the last file read was " ++ name ++ 10 ∷ []
telling Written name cause = codes "the last file written was " ++ name ++ 10 ∷ []
telling NoFile name cause = name ++ (codes ": no such file" ++ 10 ∷ [])
telling (NotRead error) name cause = name ++ (codes " can't be read: " ++ (cause ++ 10 ∷ []))
telling (NotWritten error) name cause = name ++ (codes " can't be written: " ++ (cause ++ 10 ∷ []))

-- its line, behind these words
abbrev pub line_of : List ℕ → Ending → List ℕ → List ℕ → List ℕ
line_of front ending name cause = front ++ telling ending name cause
