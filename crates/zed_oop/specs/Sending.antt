-- Messages to labels, and labels that are hidden and shown again.
use Rattle.std.specs.Prelude.{ℕ, zero, suc, ◌+◌, Bool, false, not, ◌&&◌, ◌||◌, ◌==◌, nat_le, nat_lt, if◌then◌else◌, List, length, take, drop, slice_get, slice_set, position, Option, Some, None, is_some, codes}
use Rattle.std.specs.List.{list_any}
use Rattle.std.specs.Str.{bytes_eq}
use Rattle.zed_scene.specs.declared.stat.Stat.{Stat}
use Rattle.zed_scene.specs.Scene.{Scene, program_of, put_stat}
use Rattle.zed_oop.specs.declared.programs.Relabelling.{Relabelling}
use Rattle.zed_oop.specs.declared.programs.Relabelling.TheVariants.{Hide, Show}
use Rattle.zed_oop_syntax.specs.Label.{byte_is, first_label, is_restart, label_at, label_place}
use Rattle.zed_oop_syntax.specs.Text.{word_at}

-- f of 0, of 1, and so on below n, each after the one before
abbrev pub for_each : {X : Type 0} → (ℕ → X → X) → ℕ → X → X
for_each f zero x = x
for_each f (suc n) x = f n (for_each f n x)

-- whether a byte is a colon
abbrev pub is_colon : ℕ → Bool
is_colon b = b == 58

-- of a word `T:L` the target T, cut at the first colon
abbrev pub target_before : List ℕ → Option ℕ → Option (List ℕ)
target_before w None = None
target_before w (Some i) = Some (take i w)

-- of a word `T:L` the target T, none without a colon
unfoldable pub target_of : List ℕ → Option (List ℕ)
target_of w = target_before w (position is_colon w)

-- of a word `T:L` the label L, by the place of the colon; without one the whole word
abbrev pub label_behind : List ℕ → Option ℕ → List ℕ
label_behind w None = w
label_behind w (Some i) = drop (i + 1) w

-- and the label L
unfoldable pub label_of : List ℕ → List ℕ
label_of w = label_behind w (position is_colon w)

-- a program that begins with `@`, 64, and a name
unfoldable pub is_named : List ℕ → List ℕ → Bool
is_named p name = byte_is p 0 64 && bytes_eq (word_at p 1) name

-- whether there is a number, and it is i
abbrev pub is_number : ℕ → Option ℕ → Bool
is_number i None = false
is_number i (Some n) = n == i

-- whether stat i is the one whose program has its turn
abbrev pub is_own : Scene → ℕ → Bool
is_own s i = is_number i s.running

-- whether stat i, whose program this is, is meant by a name: ALL and OTHERS and SELF, or that of its program
abbrev pub is_meant : List ℕ → List ℕ → ℕ → Bool → Bool
is_meant p name i own =
    if bytes_eq name (codes "ALL") then nat_le 1 i else
    if bytes_eq name (codes "OTHERS") then nat_le 1 i && not own else
    if bytes_eq name (codes "SELF") then own else nat_le 1 i && is_named p name

-- whether stat i is meant by a target, or where there is none, is the one that sends
abbrev pub is_target_of : List ℕ → Option (List ℕ) → ℕ → Bool → Bool
is_target_of p None i own = own
is_target_of p (Some name) i own = is_meant p name i own

-- whether a word is sent to stat i; without a colon it is sent to the stat itself
unfoldable pub is_target : List ℕ → List ℕ → ℕ → Bool → Bool
is_target p w i own = is_target_of p (target_of w) i own

-- whether a message reaches stat i: it is a target, and not locked, but for its own messages
abbrev pub is_reached : List ℕ → List ℕ → ℕ → Bool → Stat → Bool
is_reached p w i own a = is_target p w i own && (a.p2 == 0 || own)

-- stat i goes on at this place of its program; where there is none it stays as it is
abbrev pub set_to : ℕ → Stat → Option ℕ → Scene → Scene
set_to i a None s = s
set_to i a (Some at) s = put_stat i (record a { position = Some at }) s

-- what a word leaves that was sent to some stats
pub record Sent : Type 0 where
  pub scene : Scene
  -- whether it set the own position
  pub to_itself : Bool

-- a board on which the own position was set by now, or wasn't
abbrev pub so_far : Scene → Bool → Sent
so_far s b = record { scene = s; to_itself = b }

-- stat i goes on at this place of its program; where there is none it stays as it is
abbrev pub arrived : ℕ → Stat → Option ℕ → Sent → Sent
arrived i a None t = t
arrived i a (Some at) t = so_far (set_to i a (Some at) t.scene) (t.to_itself || is_own t.scene i)

-- a word comes to stat i: if it reaches the stat and the label is there, the stat goes on at it
abbrev pub sent_to : List ℕ → ℕ → Option Stat → Sent → Sent
sent_to w i None t = t
sent_to w i (Some a) t =
    if is_reached (program_of t.scene a.program) w i (is_own t.scene i) a
    then arrived i a (label_place (program_of t.scene a.program) (label_of w)) t
    else t

-- a message to stat i, if it is a target
unfoldable pub send_one : List ℕ → ℕ → Sent → Sent
send_one w i t = sent_to w i (slice_get t.scene.stats i) t

-- a label is sent to stat i alone, if it isn't locked
abbrev pub sent_alone_to : List ℕ → ℕ → Option Stat → Scene → Scene
sent_alone_to l i None s = s
sent_alone_to l i (Some a) s =
    if a.p2 == 0 then set_to i a (label_place (program_of s a.program) l) s else s

-- a label is sent to stat i alone, if there is one and it isn't locked
abbrev pub sent_alone : List ℕ → ℕ → Scene → Scene
sent_alone l i s = sent_alone_to l i (slice_get s.stats i) s

-- a word `T:L` is sent: the position of each target that has the label is set to it
unfoldable pub sent : List ℕ → Scene → Sent
sent w s = for_each (send_one w) (length s.stats) (so_far s false)

-- whether a word comes to stat i, and the label is there
abbrev pub is_heard_by : List ℕ → ℕ → Option Stat → Scene → Bool
is_heard_by w i None s = false
is_heard_by w i (Some a) s =
    is_reached (program_of s a.program) w i (is_own s i) a
    && is_some (label_place (program_of s a.program) (label_of w))

-- whether stat i hears a word, or one did before
abbrev pub or_heard_by : List ℕ → Scene → ℕ → Bool → Bool
or_heard_by w s i before = before || is_heard_by w i (slice_get s.stats i) s

-- whether any stat hears a word that is sent
unfoldable pub is_heard : List ℕ → Scene → Bool
is_heard w s = for_each (or_heard_by w s) (length s.stats) false

-- whether a colon is in a word, so that it names a target
abbrev pub has_colon : List ℕ → Bool
has_colon w = list_any is_colon w

-- ---- ZAP and RESTORE

-- a program with a byte put at a place; as it is where there is no place
abbrev pub with_byte : ℕ → List ℕ → Option ℕ → List ℕ
with_byte b p None = p
with_byte b p (Some at) = slice_set p at b

-- the first label of a program is hidden: `'`, 39, stands for its `:`
abbrev pub zapped_in : List ℕ → List ℕ → List ℕ
zapped_in label p = if is_restart label then p else with_byte 39 p (first_label p label)

-- a hidden label of this word at a place is shown again: `:`, 58, stands for its `'`
abbrev pub restore_at : List ℕ → ℕ → List ℕ → List ℕ
restore_at label at p = if nat_lt at (length p) && label_at 39 p label at then slice_set p at 58 else p

-- each hidden label is shown again
abbrev pub restored_in : List ℕ → List ℕ → List ℕ
restored_in label p = if is_restart label then p else for_each (restore_at label) (length p) p

-- a program whose first label is hidden, or whose hidden labels are shown
abbrev pub relabelled_in : Relabelling → List ℕ → List ℕ → List ℕ
relabelled_in Hide label p = zapped_in label p
relabelled_in Show label p = restored_in label p

-- a program changes; the stats that share it share the change
abbrev pub changed_at : (List ℕ → List ℕ) → ℕ → Option (List ℕ) → List (List ℕ) → List (List ℕ)
changed_at f k None ps = ps
changed_at f k (Some p) ps = slice_set ps k (f p)

-- program k changes, if there is one
abbrev pub changed_in : (List ℕ → List ℕ) → ℕ → List (List ℕ) → List (List ℕ)
changed_in f k ps = changed_at f k (slice_get ps k) ps

-- the program of a number changes, if there is one, for all the stats that share it
abbrev pub changed_program : (List ℕ → List ℕ) → Option ℕ → Scene → Scene
changed_program f None s = s
changed_program f (Some k) s = record s { programs = changed_in f k s.programs }

-- the program of stat i changes, if there is this stat and a word is sent to it
abbrev pub changed_of : (List ℕ → List ℕ) → List ℕ → ℕ → Option Stat → Scene → Scene
changed_of f w i None s = s
changed_of f w i (Some a) s =
    if is_target (program_of s a.program) w i (is_own s i) then changed_program f a.program s else s

-- in the program of stat i the labels L are hidden or shown, if a word `T:L` is sent to it
unfoldable pub relabel_one : Relabelling → List ℕ → ℕ → Scene → Scene
relabel_one r w i s = changed_of (relabelled_in r (label_of w)) w i (slice_get s.stats i) s

-- in each target of a word `T:L` the labels L are hidden, or shown
unfoldable pub relabelled : Relabelling → List ℕ → Scene → Scene
relabelled r w s = for_each (relabel_one r w) (length s.stats) s
