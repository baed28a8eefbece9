-- Where a tape is at, field by field.
use Rattle.std.proofs.Common.{◌≡◌, ℕ, List, drop, refl}
use Rattle.zed_play.specs.Playtest.{Playtest}
use Rattle.zed_terminal.specs.declared.input.Size.{Size}
use Rattle.zed_terminal.specs.declared.moves.Move.{Move}
use Rattle.zed_terminal.specs.declared.overlay.Overlay.{Overlay}
use Rattle.zed_terminal.specs.declared.tape.Tape.{Tape}
use Rattle.zed_terminal.specs.Course.{Point, point}

abbrev pub at : Playtest → Overlay → List Move → List ℕ → List ℕ → Size → Point
at play overlay keys words left size = record { play = play; overlay = overlay; keys = keys; words = words; left = left; size = size }

pub point_is : (t : Tape) (play : Playtest) (overlay : Overlay) (keys : List Move) (words left : List ℕ) (size : Size)
    → t.play ≡ play → t.overlay ≡ overlay → t.keys.items ≡ keys → t.words.items ≡ words → drop t.used t.words.items ≡ left → t.size ≡ size
    → point t ≡ at play overlay keys words left size
point_is t play overlay keys words left size a b c d e f =
    let path : at t.play t.overlay t.keys.items t.words.items (drop t.used t.words.items) t.size ≡ at play overlay keys words left size =
    rw (a, b, c, e, d, f) refl in
    path
