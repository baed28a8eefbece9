-- Setting again what the line of an edit says.
use Rattle.std.proofs.Common.{◌≡◌, ◌∙◌, ◌≤◌, ℕ, true, false, List, [], ◌∷◌, map, Option, Some, None, Result, Ok, refl, sym, ap, subst, append-nil, arith, le-leb, ltb-false}
use Rattle.std.specs.Prelude.{◌↔◌, nat_le}
use Rattle.std.specs.List.{list_all}
use Rattle.std.proofs.lemmas.Bool.{and_from, and_parts}
use Rattle.zed_types.specs.declared.names.BoardId.{BoardId}
use Rattle.zed_types.specs.declared.names.StatId.{StatId}
use Rattle.zed_types.specs.declared.stamp.Stamp.{Stamp}
use Rattle.zed_types.specs.Stamp.{before}
use Rattle.zed_types.specs.declared.header.HeaderSetting.{HeaderSetting}
use Rattle.zed_types.specs.declared.header.HeaderSetting.TheVariants as header
use Rattle.zed_types.specs.declared.property.BoardSetting.{BoardSetting}
use Rattle.zed_types.specs.declared.property.BoardSetting.TheVariants as board
use Rattle.zed_types.specs.declared.stat_field.ThirdParameter.TheVariants as third
use Rattle.zed_types.specs.declared.stat_field.StatSetting.{StatSetting}
use Rattle.zed_types.specs.declared.stat_field.StatSetting.TheVariants as stat
use Rattle.zed_op.specs.declared.op.Op.{Op}
use Rattle.zed_op.specs.declared.op.Op.TheVariants.{SetHeader, SetBoard, SetStat}
use Rattle.zed_op.specs.declared.op.Edit.{Edit}
use Rattle.zed_op.specs.declared.thing.Thing.{Thing}
use Rattle.zed_op.specs.Fit.{Fits, fault, has_good_stamps, has_good_world, is_author_stamp, is_header_in_range, is_in_range, is_own_stamp, is_property_in_range, is_stamp, names_earlier}
use Rattle.zed_op.specs.Names.{names_of, stamp_of}
use Rattle.zed_op.specs.Verdict.{is_genesis}
use Rattle.zed_op.proofs.FitParts.{fit_is_each_part}
use Rattle.zed_log.specs.Line.{op_text}
use Rattle.zed_history.specs.Clock.{is_spent, next_time}
use Rattle.zed_history.specs.Finding.{AllBelow, edit_with}
use Rattle.zed_history.proofs.Spots.{edit_with-past}
use Rattle.zed_edit.specs.declared.plain.Plain.{Plain as Shown}
use Rattle.zed_edit.specs.Document.{has}
use Rattle.zed_edit.specs.Replay.{can, do_edit, do_op, replay, step}
use Rattle.zed_laws.proofs.Making.{things_are_of_edits}
use Rattle.zed_laws.proofs.ReplaySteps.{one_more_is_one_step}
use Rattle.zed_document.specs.declared.error.DocumentError.{DocumentError}
use Rattle.zed_document.specs.Authoring.{AnswersAuthor, authored, is_spent_for}
use Rattle.zed_document.specs.Replica.{Replica}
use Rattle.zed_document.proofs.Authored.{authored-late, last-edit}
use Rattle.zed_action.specs.Deeds.{Authors, Made, told}
use Rattle.zed_set_words.specs.declared.wishes.BoardPlace.TheVariants as board_place
use Rattle.zed_set_words.specs.declared.wishes.StatPlace.TheVariants as stat_place
use Rattle.zed_set_words.specs.declared.wishes.Wish.{Wish}
use Rattle.zed_set_words.specs.declared.wishes.Wish.TheVariants as wish
use Rattle.zed_set_words.specs.Rows.{wish_of}
use Rattle.zed_set_words.specs.Values.{Word}
use Rattle.cmd_set.specs.Granting.{Sets}
use Rattle.cmd_set.specs.Printed.{Piece, field_wish, header_wish, line_of, property_wish, word_of}
use Rattle.cmd_set.specs.Again.{CanRedo, IsSound, PrintedSetsTheSame, PrintedWishesItsOp, WishesOp, one_more, pieces_of}
use Rattle.cmd_set.proofs.Read.{field_is_read, header_is_read, property_is_read}

-- ---- what a setting's wish does

-- a wish does to every document what authoring an op does
abbrev DoesAs : Wish → Op → Type 0
DoesAs w op = (d : Replica) (replica : ℕ) (made : Made) → Sets d replica w made ↔ Authors d replica op made

itself : (op : Op) (d : Replica) (replica : ℕ) (made : Made) → Authors d replica op made ↔ Authors d replica op made
itself op d replica made = (λ authors. authors, λ authors. authors)

header_does : (s : HeaderSetting) → DoesAs (wish.World (header_wish s)) (SetHeader s)
header_does (header.Number f n) = itself (SetHeader (header.Number f n))
header_does (header.Key k b) = itself (SetHeader (header.Key k b))
header_does (header.Saved b) = itself (SetHeader (header.Saved b))
header_does (header.CurrentBoard b) = itself (SetHeader (header.CurrentBoard b))
header_does (header.WorldName s) = itself (SetHeader (header.WorldName s))
header_does (header.Flag k s) = itself (SetHeader (header.Flag k s))

property_does : (b : BoardId) (s : BoardSetting) → DoesAs (wish.Board (board_place.Named b) (property_wish s)) (SetBoard b s)
property_does b (board.Byte f n) = itself (SetBoard b (board.Byte f n))
property_does b (board.Flag f is) = itself (SetBoard b (board.Flag f is))
property_does b (board.TimeLimit n) = itself (SetBoard b (board.TimeLimit n))
property_does b (board.Exit d None) = itself (SetBoard b (board.Exit d None))
property_does b (board.Exit d (Some to)) = itself (SetBoard b (board.Exit d (Some to)))
property_does b (board.Text f s) = itself (SetBoard b (board.Text f s))
property_does b (board.Rank n) = itself (SetBoard b (board.Rank n))

field_does : (k : StatId) (s : StatSetting) → DoesAs (wish.Stat (stat_place.Named k) (field_wish s)) (SetStat k s)
field_does k (stat.Byte f n) = itself (SetStat k (stat.Byte f n))
field_does k (stat.Number f n) = itself (SetStat k (stat.Number f n))
field_does k (stat.P3 (third.Byte n)) = itself (SetStat k (stat.P3 (third.Byte n)))
field_does k (stat.P3 (third.Board b)) = itself (SetStat k (stat.P3 (third.Board b)))
field_does k (stat.Follower None) = itself (SetStat k (stat.Follower None))
field_does k (stat.Follower (Some s)) = itself (SetStat k (stat.Follower (Some s)))
field_does k (stat.Leader None) = itself (SetStat k (stat.Leader None))
field_does k (stat.Leader (Some s)) = itself (SetStat k (stat.Leader (Some s)))
field_does k (stat.Text t) = itself (SetStat k (stat.Text t))

abbrev just : List Piece → Option (List Piece)
just ps = Some ps

-- the same of words of which the wish is known
by_words : (op : Op) (ps pieces : List Piece) (w : Wish) → just ps ≡ just pieces → op_text op ≡ line_of ps → wish_of (map word_of ps) ≡ Ok w
    → DoesAs w op → (op_text op ≡ line_of pieces) × WishesOp (map word_of pieces) op
by_words op ps pieces w same line read does =
    let is : ps ≡ pieces = cc in
    subst (λ (x : List Piece). (op_text op ≡ line_of x) × WishesOp (map word_of x) op) is (line, (w, read, does))

abbrev no_pieces : Option (List Piece)
no_pieces = None

-- the value of an edit without a fault is in its range
in_range : (e : Edit) → Fits e → is_in_range e.op ≡ true
in_range e fits = ((fit_is_each_part e).0 fits).1

printed_wishes : (op : Op) (pieces : List Piece) → pieces_of op ≡ Some pieces → (e : Edit) → e.op ≡ op → IsSound e
    → (op_text op ≡ line_of pieces) × WishesOp (map word_of pieces) op
printed_wishes (SetHeader s) pieces same e is sound =
    let short : is_header_in_range s ≡ true = sym (ap is_in_range is) ∙ in_range e sound.fits in
    let read = header_is_read s (rw is at sound.sizes) (rw is at sound.bytes) short in
    by_words (SetHeader s) _ pieces (wish.World (header_wish s)) same read.0 read.1 (header_does s)
printed_wishes (SetBoard b s) pieces same e is sound =
    let short : is_property_in_range s ≡ true = sym (ap is_in_range is) ∙ in_range e sound.fits in
    let sizes = rw is at sound.sizes in
    let read = property_is_read b s sizes.0 sizes.1 (rw is at sound.bytes) short in
    by_words (SetBoard b s) _ pieces (wish.Board (board_place.Named b) (property_wish s)) same read.0 read.1 (property_does b s)
printed_wishes (SetStat k s) pieces same e is sound =
    let sizes = rw is at sound.sizes in
    let read = field_is_read k s sizes.0 sizes.1 in
    by_words (SetStat k s) _ pieces (wish.Stat (stat_place.Named k) (field_wish s)) same read.0 read.1 (field_does k s)
printed_wishes _ pieces same e is sound = absurd (let no : no_pieces ≡ just pieces = same in cc)

pub printed_wishes_its_op : PrintedWishesItsOp
printed_wishes_its_op e pieces same sound = printed_wishes e.op pieces same e refl sound

-- ---- what the document makes of it

-- an op that writes a register: it makes no world, an author's stamp is its own, and it does the same whatever its stamp
record IsSetting (op : Op) : Type 0 where
  plain : is_genesis op ≡ false
  own : (s : Stamp) → is_own_stamp op s ≡ is_author_stamp s
  world : has_good_world op ≡ true
  still : (r s : Stamp) (p : Shown) → do_op r op p ≡ do_op s op p

is_setting : (op : Op) (pieces : List Piece) → pieces_of op ≡ Some pieces → IsSetting op
is_setting (SetHeader s) pieces same = record { plain = refl; own = λ s. refl; world = refl; still = λ r s p. refl }
is_setting (SetBoard b s) pieces same = record { plain = refl; own = λ s. refl; world = refl; still = λ r s p. refl }
is_setting (SetStat k s) pieces same = record { plain = refl; own = λ s. refl; world = refl; still = λ r s p. refl }
is_setting _ pieces same = absurd (let no : no_pieces ≡ just pieces = same in cc)

-- things that are there were made before a stamp that is later than all edits
all_before : (es : List Edit) (s : Stamp) → AllBelow s es → (ts : List Thing) → list_all (has (replay es)) ts ≡ true
    → list_all (λ x. before (stamp_of x) s) ts ≡ true
all_before es s below [] there = refl
all_before es s below (t ∷ ts) there =
    let parts = and_parts (has (replay es) t) (list_all (has (replay es)) ts) there in
    let first = things_are_of_edits (λ r. before r s) es t below parts.0 in
    rw first (all_before es s below ts parts.1)

-- an author's stamp at the next time
own_stamp : (es : List Edit) (replica : ℕ) (op : Op) → IsSetting op → 1 ≤ replica → is_spent es 1 ≡ false
    → is_own_stamp op (authored es replica op).stamp ≡ true
own_stamp es replica op setting author left =
    let last = ltb-false _ _ left in
    let time : (authored es replica op).stamp.time ≡ next_time es = rw setting.plain refl in
    let low : nat_le 2 (authored es replica op).stamp.time ≡ true = le-leb _ _ (omega (arith, time)) in
    let high : nat_le (authored es replica op).stamp.time 281474976710655 ≡ true = le-leb _ _ (omega (arith, time, last)) in
    let own : nat_le 1 replica ≡ true = le-leb _ _ author in
    setting.own (authored es replica op).stamp ∙ and_from _ _ (and_from _ _ low high) own

-- such an edit has no fault
authored_fits : (es : List Edit) (replica : ℕ) (e : Edit) → IsSetting e.op → Fits e → 1 ≤ replica → is_spent es 1 ≡ false
    → can (replay es) e ≡ true
    → Fits (authored es replica e.op)
authored_fits es replica e setting fits author left there =
    let new = authored es replica e.op in
    let old = (fit_is_each_part e).0 fits in
    let named = (and_parts (is_own_stamp e.op e.stamp) (list_all (λ x. is_stamp (stamp_of x)) (names_of e.op)) old.0).1 in
    let stamps : has_good_stamps new ≡ true = and_from _ _ (own_stamp es replica e.op setting author left) named in
    let earlier : names_earlier new ≡ true = all_before es new.stamp (authored-late es replica e.op setting.plain) (names_of e.op) there in
    (fit_is_each_part new).1 (stamps, old.1, earlier, setting.world)

-- authoring it answers the edit
answered : (d : Replica) (replica : ℕ) (e : Edit) (r : Result Edit DocumentError) → IsSetting e.op → Fits e → CanRedo d replica e
    → AnswersAuthor d replica e.op r → r ≡ Ok (authored d.edits replica e.op)
answered d replica e r setting fits can_redo answers =
    let new = authored d.edits replica e.op in
    let late = authored-late d.edits replica e.op setting.plain in
    let fit : fault new ≡ None = authored_fits d.edits replica e setting fits can_redo.author can_redo.left can_redo.there in
    let unused : edit_with new.stamp d.edits ≡ None =
    ap (edit_with new.stamp) (sym (append-nil d.edits)) ∙ edit_with-past new.stamp d.edits [] late in
    let some_left : is_spent_for d.edits e.op ≡ false = rw (setting.plain, can_redo.left) refl in
    rw (can_redo.sound, some_left, fit, can_redo.there, unused) at answers

-- what is shown with it
shown_with : (d : Replica) (replica : ℕ) (e : Edit) → IsSetting e.op → CanRedo d replica e
    → replay (one_more d replica e.op) ≡ do_edit (replay d.edits) e
shown_with d replica e setting can_redo =
    let new = authored d.edits replica e.op in
    let there : can (replay d.edits) new ≡ true = can_redo.there in
    let stepped : step (replay d.edits) new ≡ do_edit (replay d.edits) new = rw there refl in
    ap replay (last-edit new d.edits (authored-late d.edits replica e.op setting.plain)) ∙ one_more_is_one_step d.edits new ∙ stepped
    ∙ setting.still new.stamp e.stamp (replay d.edits)

-- words that wish an op, whichever wish it is that they are read as
wished : (words : List Word) (op : Op) (w : Wish) → WishesOp words op → wish_of words ≡ Ok w → (d : Replica) (replica : ℕ) (made : Made)
    → Sets d replica w made
    → Authors d replica op made
wished words op w wishes read d replica made sets =
    let is : wishes.0 ≡ w = cc in
    (wishes.2 d replica made).0 (subst (λ (x : Wish). Sets d replica x made) (sym is) sets)

made_by : (d : Replica) (replica : ℕ) (e : Edit) (made : Made) → IsSetting e.op → Fits e → CanRedo d replica e → Authors d replica e.op made
    → made ≡ Ok (one_more d replica e.op)
made_by d replica e made setting fits can_redo authors =
    let answer = answered d replica e authors.0 setting fits can_redo authors.1 in
    authors.2 ∙ ap (told (one_more d replica e.op)) answer

pub printed_sets_the_same : PrintedSetsTheSame
printed_sets_the_same e pieces w d replica made same sound can_redo read sets =
    let setting = is_setting e.op pieces same in
    let wishes = (printed_wishes_its_op e pieces same sound).1 in
    let authors = wished (map word_of pieces) e.op w wishes read d replica made sets in
    (made_by d replica e made setting sound.fits can_redo authors, shown_with d replica e setting can_redo)
