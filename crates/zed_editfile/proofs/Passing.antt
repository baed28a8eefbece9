-- What stands behind numbers, and behind one text after the other.
use Rattle.std.proofs.Common.{◌≡◌, refl, inr, ℕ, ℤ, pos, get_or, ◌^◌, ◌<◌, ◌≤◌, Option, Some, None, List, [], ◌∷◌, ◌++◌, length, drop, sym, ap, ◌∙◌, append_assoc, arith, length-append}
use Rattle.std.proofs.lemmas.List.{append-nil, append_cancel_left, take-append-drop}
use Rattle.std.specs.List.{flat_map}
use denote.Ref.{Bor}
use Rattle.byteorder.specs.Endian.{little_number}
use Rattle.zed_op.specs.declared.op.Edit.{Edit}
use Rattle.std.specs.Prelude.{IfSome, is_some, true}
use Rattle.zed_editfile.specs.declared.error.EditFileError.{EditFileError}
use Rattle.zed_editfile.specs.Stream.{Feeds, IsRecord}
use Rattle.zed_editfile.proofs.Found.{at_rest, goes_on, no_record}
use Rattle.zed_editfile.specs.Known.{Lacks, Past}
use Rattle.zed_editfile.specs.Spelling.{number, integer, record_text, IsOf}
use Rattle.zed_editfile.proofs.Numbers.{IsBytes, length_number, number_is, number_back}

pub number_there : (n x : ℕ) (bytes : List ℕ) → IsBytes bytes → n ≤ length bytes → little_number n bytes ≡ x
    → bytes ≡ number n x ++ drop n bytes
number_there n x bytes h le e =
    sym (take-append-drop n bytes) ∙ ap (λ (t : List ℕ). t ++ drop n bytes) (sym (number_is n bytes h le) ∙ ap (number n) e)

pub number_short : (n x : ℕ) (bytes : List ℕ) → length bytes < n → Lacks (number n x) bytes
number_short n x bytes lt rest e =
    let same : length bytes ≡ length (number n x ++ rest) = ap length e in
    absurd (omega (arith, same, length-append (number n x) rest, length_number n x))

pub number_other : (n x : ℕ) (bytes : List ℕ) → x < 256 ^ n → (little_number n bytes ≡ x → ⊥) → Lacks (number n x) bytes
number_other n x bytes lt ne rest e = ne (ap (little_number n) e ∙ number_back n x rest lt)

pub lacks_more : (a b bytes : List ℕ) → Lacks a bytes → Lacks (a ++ b) bytes
lacks_more a b bytes l rest e = l (b ++ rest) (e ∙ append_assoc a b rest)

pub lacks_behind : (a b bytes left : List ℕ) → bytes ≡ a ++ left → Lacks b left → Lacks (a ++ b) bytes
lacks_behind a b bytes left is l rest e = l rest (append_cancel_left a left (b ++ rest) (sym is ∙ e ∙ append_assoc a b rest))

-- one text and then another
pub past_both : (a b bytes left : List ℕ) (end : Option (Bor (List ℕ))) → bytes ≡ a ++ left → Past b left end → Past (a ++ b) bytes end
past_both a b bytes left None is l = lacks_behind a b bytes left is l
past_both a b bytes left (Some x) is e = is ∙ ap (λ (t : List ℕ). a ++ t) e ∙ sym (append_assoc a b x.now)

pub three_integers : (ns : List ℤ) → length ns ≡ 3
    → flat_map integer ns ≡ integer (get_or ns 0 (pos 0)) ++ (integer (get_or ns 1 (pos 0)) ++ integer (get_or ns 2 (pos 0)))
three_integers (a ∷ b ∷ c ∷ []) e = ap (λ (t : List ℕ). integer a ++ (integer b ++ t)) (append-nil (integer c))
three_integers [] e = absurd cc
three_integers (a ∷ []) e = absurd (omega arith)
three_integers (a ∷ b ∷ []) e = absurd (omega arith)
three_integers (a ∷ b ∷ c ∷ d ∷ ns) e = absurd (omega arith)

-- a record of an edit of the version leaves a reader between records where it is, with one edit more
pub passes : (asked : Option ℕ) (v n : ℕ) (e : Edit) (before : List Edit) → IsRecord e → IsOf v e
    → Feeds (record_text e) before (before ++ e ∷ []) (at_rest asked (Some n) v []) (at_rest asked (Some n) v [])
passes asked v n e before good of =
    goes_on asked (Some n) (Some n) v v [] (record_text e) before (before ++ e ∷ []) (record { rest = []; fault = None }) (
      refl,
      refl,
      record {
        tail = [];
        gains = record { edits = e ∷ []; gained = refl; good = (good, tt); spelled = (of, tt); whole = sym (append-nil (record_text e ++ []) ∙ append-nil (record_text e)) };
        ends = inr (no_record v);
      },
    )

-- the same of a reader that was looked at
pub passing : (asked world : Option ℕ) (v : ℕ) (kept : List ℕ) (fault : Option EditFileError) (e : Edit) (piece : List ℕ) (r : Option (Bor (List ℕ)))
    → is_some world ≡ true → kept ≡ [] → fault ≡ None → IsRecord e → IsOf v e → Past (record_text e) piece r
    → IfSome r (λ rest. (piece ≡ record_text e ++ rest.now)
    × ((before : List Edit) → Feeds (record_text e) before (before ++ e ∷ []) (record { asked = asked; world = world; version = v; rest = kept; fault = fault }) (record { asked = asked; world = world; version = v; rest = kept; fault = fault })))
passing asked world v kept fault e piece None some none calm good of past = tt
passing asked None v kept fault e piece (Some x) some none calm good of past = absurd cc
passing asked (Some n) v (b ∷ kept) fault e piece (Some x) some none calm good of past = absurd cc
passing asked (Some n) v [] (Some f) e piece (Some x) some none calm good of past = absurd cc
passing asked (Some n) v [] None e piece (Some x) some none calm good of past = (past, λ before. passes asked v n e before good of)
