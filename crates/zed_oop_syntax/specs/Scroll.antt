-- Lines of scrolls, and the names of programs.
use Rattle.std.specs.Prelude.{◌≡◌, ℕ, ◌+◌, Bool, true, false, ◌&&◌, ◌==◌, if◌then◌else◌, List, [], ◌∷◌, take, drop, position, Option, Some, None}
use Rattle.zed_oop_syntax.specs.declared.scroll.ScrollLine.{ScrollLine}
use Rattle.zed_oop_syntax.specs.declared.scroll.ScrollLine.TheVariants.{Plain, Centred, Choice, File}
use Rattle.zed_oop_syntax.specs.Label.{byte_is}
use Rattle.zed_oop_syntax.specs.Line.{line_text}

-- whether bytes begin with b
abbrev pub begins_with : ℕ → List ℕ → Bool
begins_with b [] = false
begins_with b (c ∷ cs) = c == b

-- whether a byte is `;`
abbrev pub is_semicolon : ℕ → Bool
is_semicolon b = b == 59

-- bytes up to a place; all where there is none
abbrev pub up_to : Option ℕ → List ℕ → List ℕ
up_to None w = w
up_to (Some i) w = take i w

-- bytes up to the first `;`
abbrev pub before_semicolon : List ℕ → List ℕ
before_semicolon w = up_to (position is_semicolon w) w

-- bytes behind a place; all where there is none
abbrev pub behind : Option ℕ → List ℕ → List ℕ
behind None w = w
behind (Some i) w = drop (i + 1) w

-- bytes behind the first `;`
abbrev pub behind_semicolon : List ℕ → List ℕ
behind_semicolon w = behind (position is_semicolon w) w

-- a line is centred that begins with `$`
abbrev pub is_centred : List ℕ → Bool
is_centred line = begins_with 36 line

-- a line is a choice that begins with `!`
abbrev pub is_choice : List ℕ → Bool
is_choice line = begins_with 33 line

-- where a choice leads: what stands between its `!` and the first `;`
abbrev pub link : List ℕ → List ℕ
link line = before_semicolon (drop 1 line)

-- a choice leads to a file where a `-` follows
abbrev pub is_file : List ℕ → Bool
is_file line = is_choice line && begins_with 45 (link line)

-- the text of a choice: what stands behind the first `;`, or the whole line without one
abbrev pub link_text : List ℕ → List ℕ
link_text line = behind_semicolon line

-- how a line of a scroll is shown
abbrev pub Shows : List ℕ → ScrollLine → Type 0
Shows line (Plain t) = (is_centred line ≡ false) × (is_choice line ≡ false) × (t.now ≡ line)
Shows line (Centred t) = (is_centred line ≡ true) × (t.now ≡ drop 1 line)
Shows line (Choice l t) = (is_choice line ≡ true) × (is_file line ≡ false) × (l.now ≡ link line) × (t.now ≡ link_text line)
Shows line (File f t) = (is_file line ≡ true) × (f.now ≡ drop 1 (link line)) × (t.now ≡ link_text line)

-- the name of a program: what stands behind the `@`, 64, with which it begins, on that line; empty without one
unfoldable pub name_of : List ℕ → List ℕ
name_of p = if byte_is p 0 64 then line_text p 1 else []
