-- The first file, whose head tells the world of all.
use Rattle.std.proofs.Common.{◌≡◌, ◌∙◌, ◌==◌, ◌<◌, ◌≤◌, ◌++◌, ℕ, false, not, List, [], Option, Some, None, Result, Ok, Err, ap, arith, drop, length, refl, rules, subst}
use Rattle.std.proofs.lemmas.List.{length-append}
use mathlib.Core.Logic.{inl, inr}
use Rattle.byteorder.specs.Endian.{little_number}
use Rattle.zed_op.specs.declared.op.Edit.{Edit}
use Rattle.zed_editfile.specs.declared.error.EditFileError.{EditFileError}
use Rattle.zed_editfile.specs.declared.error.EditFileError.TheVariants.{CutShort}
use Rattle.std.specs.List.{flat_map}
use Rattle.zed_editfile.specs.Spelling.{head_text, record_text, text_of}
use Rattle.zed_editfile.specs.Stream.{Progress, Reads, ending, head_stop, stop_of}
use Rattle.zed_editfile.proofs.Numbers.{length_number}
use Rattle.zed_files.specs.Files.{IsFile, ReadsFile, end_by}

same_other : (w : ℕ) → not (w == w) ≡ false
same_other w = search rules

-- a head of the world that is asked for is a head of any
any_head : (w : ℕ) (bytes : List ℕ) → w ≡ little_number 8 (drop 4 bytes) → head_stop None bytes ≡ head_stop (Some w) bytes
unfolding head_stop
any_head w bytes is =
    let own : not (w == little_number 8 (drop 4 bytes)) ≡ false = subst (λ n. not (w == n) ≡ false) is (same_other w) in
    rw own refl

any_reads : (w : ℕ) (bytes : List ℕ) (es : List Edit) (p : Progress) → w ≡ little_number 8 (drop 4 bytes) → p.asked ≡ Some w
    → Reads bytes es p
    → Reads bytes es (record p { asked = None })
any_reads w bytes es p is asks (inl h) =
    inl (record { world = h.world; version = h.version; none = h.none; stop = any_head w bytes is ∙ subst (λ o. head_stop o bytes ≡ Some (stop_of p)) asks h.stop })
any_reads w bytes es p is asks (inr h) =
    inr (record {
      number = h.number;
      tail = h.tail;
      fits = h.fits;
      asked = refl;
      world = h.world;
      known = h.known;
      good = h.good;
      spelled = h.spelled;
      whole = h.whole;
      stop = h.stop;
    })

any_file : (w : ℕ) (bytes : List ℕ) (es : List Edit) (end : Result ℕ EditFileError) → w ≡ little_number 8 (drop 4 bytes)
    → IsFile (Some w) bytes es end
    → IsFile None bytes es end
any_file w bytes es end is file = record {
  progress = record file.progress { asked = None };
  asks = refl;
  reads = any_reads w bytes es file.progress is file.asks file.reads;
  sound = file.sound;
  ends = file.ends;
}

-- the first file is of any world, where it is of the one that its head tells
pub first_file : (w : ℕ) (bytes : List ℕ) (es : List Edit) (fault : Option EditFileError) → w ≡ little_number 8 (drop 4 bytes)
    → ReadsFile (Some w) bytes es fault (Some w)
    → ReadsFile None bytes es fault (Some w)
first_file w bytes es (Some e) is file = any_file w bytes es (Err e) is file
first_file w bytes es None is file = (file.0, file.1, any_file w bytes es (Ok file.0) is file.2)

head_long : (v n : ℕ) → length (head_text v n) ≡ 12
unfolding head_text
head_long v n = let long = length_number 8 n in omega (arith, long)

text_long : (v n : ℕ) (es : List Edit) (tail bytes : List ℕ) → bytes ≡ text_of v n es ++ tail → 12 ≤ length bytes
text_long v n es tail bytes is =
    let all : length bytes ≡ length (text_of v n es ++ tail) = ap length is in
    let one = length-append (text_of v n es) tail in
    let two = length-append (head_text v n) (flat_map record_text es) in
    let head = head_long v n in
    omega (arith, all, one, two, head)

-- bytes that are fewer than a head spell no edits, and tell no world
cut_reads : (bytes : List ℕ) (es : List Edit) (p : Progress) → length bytes < 12 → Reads bytes es p → (es ≡ []) × (p.world ≡ None)
cut_reads bytes es p short (inl h) = (h.none, h.world)
cut_reads bytes es p short (inr h) = absurd (let long = text_long p.version h.number es h.tail bytes h.whole in omega (arith, long, short))

no_end : (o : Option EditFileError) (n : ℕ) → Ok n ≡ end_by o None → ⊥
no_end None n is = let no : Ok n ≡ Err CutShort = is in cc
no_end (Some e) n is = let no : Ok n ≡ Err e = is in cc

-- a file whose head is cut
pub cut_file : (bytes : List ℕ) (es : List Edit) (fault : Option EditFileError) (world : Option ℕ) → length bytes < 12
    → ReadsFile None bytes es fault world
    → ReadsFile None bytes es fault None × (es ≡ [])
cut_file bytes es (Some e) world short file = (file, (cut_reads bytes es file.progress short file.reads).0)
cut_file bytes es None world short file = absurd (no_end (ending file.2.progress) file.0 (
    subst (λ w. Ok file.0 ≡ end_by (ending file.2.progress) w) (cut_reads bytes es file.2.progress short file.2.reads).1 file.2.ends
    ))
