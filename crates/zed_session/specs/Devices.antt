-- What screens and sources of keys tell.
use Rattle.std.specs.Prelude.{◌≡◌, Bool, false, List, [], ◌∷◌, Option, Some, None, IfSome, option_map}
use Rattle.zed_play.specs.declared.key.Key.{Key}
use Rattle.zed_screen.specs.declared.frame.Frame.{Frame}

-- a screen shows this frame, if it tells what it shows
abbrev pub showing : Frame → Option (Option Frame) → Option (Option Frame)
showing frame = option_map (λ _. Some frame)

-- the first key, if there is one
abbrev pub first_of : List Key → Option Key
first_of [] = None
first_of (key ∷ keys) = Some key

-- what is behind the first
abbrev pub behind_first : {X : Type 0} → List X → List X
behind_first [] = []
behind_first (x ∷ xs) = xs

-- the keys that are left without the first, if they are told
abbrev pub without_first : Option (List Key) → Option (List Key)
without_first = option_map behind_first

-- whether the next call fails, where these of those to come do
abbrev pub next_fails : List Bool → Bool
next_fails [] = false
next_fails (failing ∷ later) = failing

-- the next call fails or passes, as its device foretold, if it did
abbrev pub ComesAs : Bool → Option (List Bool) → Type 0
ComesAs failing foretold = IfSome foretold (λ calls. failing ≡ next_fails calls)

-- one call of a device was made, which failed or passed as that foretold: the rest is still to come
abbrev pub Foretold : Bool → Option (List Bool) → Option (List Bool) → Type 0
Foretold failing old new = ComesAs failing old × (new ≡ option_map behind_first old)

-- a key is asked for once, unless one was kept
abbrev pub AsksOnce : Option Key → Bool → Option (List Bool) → Option (List Bool) → Type 0
AsksOnce (Some kept) failing old new = new ≡ old
AsksOnce None failing old new = Foretold failing old new
