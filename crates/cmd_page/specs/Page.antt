-- A world as a page.
use Rattle.std.specs.Prelude.{ℕ, ◌+◌, Bool, true, false, List, [], ◌∷◌, ◌++◌, length, codes}
use Rattle.std.specs.List.{count_by}
use Rattle.zed_world.specs.declared.board.BoardData.{BoardData}
use Rattle.zed_world.specs.declared.stat.Code.{Code}
use Rattle.zed_world.specs.declared.stat.Code.TheVariants as code
use Rattle.zed_world.specs.declared.stat.StatData.{StatData}
use Rattle.zed_world.specs.Contents.{Contents}
use Rattle.zed_log.specs.Fields.{number}
use Rattle.cmd_page.specs.Boards.{items, sections}
use Rattle.cmd_page.specs.Escaping.{escaped}

-- ---- counts

-- how many stats boards have
abbrev pub stats_in : List BoardData → ℕ
stats_in [] = 0
stats_in (b ∷ bs) = length b.stats + stats_in bs

-- whether a program is of a stat's own
abbrev pub is_own : Code → Bool
is_own code.None = false
is_own (code.Own bytes) = true
is_own (code.Same n) = false

-- how many of these stats have a program of their own
abbrev pub owners_in : List StatData → ℕ
owners_in ss = count_by (λ s. is_own s.code) ss

-- how many programs boards have; a shared one counts once
abbrev pub programs_in : List BoardData → ℕ
programs_in [] = 0
programs_in (b ∷ bs) = owners_in b.stats + programs_in bs

-- a count with its name
unfoldable pub counted : List ℕ → ℕ → List ℕ
counted name n = name ++ codes ": " ++ number n

-- the counts of a world
unfoldable pub counts : List BoardData → List ℕ
counts bs =
    codes "<p>" ++ counted (codes "boards") (length bs) ++ codes ", " ++ counted (codes "stats") (stats_in bs) ++ codes ", " ++ counted (codes "programs") (programs_in bs) ++ codes "</p>\n"

-- ---- what every page has

-- where a page begins
unfoldable pub opening : List ℕ
opening = codes "<!DOCTYPE html>\n<html lang='en'>\n<meta charset='utf-8'>\n"

-- how its parts look: the cells lie over the picture, and are seen where the mouse is over them
unfoldable pub style : List ℕ
style = codes "<style>\nbody { max-width: 60em; margin: auto; padding: 1em; font-family: sans-serif; }\ndiv { position: relative; }\ndiv svg { display: block; width: 100%; }\ndiv svg + svg { position: absolute; top: 0; fill: none; pointer-events: all; }\ndiv svg + svg rect:hover { stroke: white; }\npre { padding: 1em; overflow: auto; color: yellow; background: navy; }\n</style>\n"

-- ---- the whole

-- the name of a world, above the page and at its head
unfoldable pub head : List ℕ → List ℕ
head name = opening ++ codes "<title>" ++ escaped name ++ codes "</title>\n" ++ style ++ codes "<h1>" ++ escaped name ++ codes "</h1>\n"

-- the list of boards
unfoldable pub contents : List BoardData → List ℕ
contents bs = codes "<ul>\n" ++ items 0 bs ++ codes "</ul>\n"

-- the page of a world
unfoldable pub page_of : Contents → List ℕ
page_of w = head w.header.name ++ counts w.boards ++ contents w.boards ++ sections 0 w.boards ++ codes "</html>\n"
