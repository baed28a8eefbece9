-- What the tests on stamps and names say.
use Rattle.std.proofs.Common.{◌≡◌, ◌<◌, ℕ, Bool, true, false, ◌&&◌, eqb, eq-eqb, refl, ap, ◌∙◌, arith}
use Rattle.std.proofs.lemmas.Bool.{eqb-true, and_parts, and_from}
use Rattle.zed_types.specs.declared.stamp.Stamp.{Stamp}
use Rattle.zed_types.specs.declared.names.BoardId.{BoardId}
use Rattle.zed_types.specs.declared.names.TextId.{TextId}
use Rattle.zed_types.specs.Stamp.{before, same_stamp}
use Rattle.zed_types.specs.declared.names.Name.{Name}
use Rattle.zed_types.specs.Names.{name_of, same_name, same_board, same_text}

abbrev stamp_at : ℕ → ℕ → Stamp
stamp_at t r = record { time = t; replica = r }

-- what is made of two parts is equal where a test on each part holds
both_parts : {A B C : Type 0} (make : A → B → C) (p q : Bool) {a x : A} {b y : B} → (p ≡ true → a ≡ x) → (q ≡ true → b ≡ y)
    → (p && q) ≡ true
    → make a b ≡ make x y
both_parts make p q {a} {x} {b} {y} f g h = let e = and_parts p q h in ap (λ n. make n b) (f e.0) ∙ ap (λ n. make x n) (g e.1)

pub same_stamp-true : (a b : Stamp) → same_stamp a b ≡ true → a ≡ b
same_stamp-true a b h =
    both_parts stamp_at (eqb a.time b.time) (eqb a.replica b.replica) (eqb-true a.time b.time) (eqb-true a.replica b.replica) h

pub same_stamp-itself : (a : Stamp) → same_stamp a a ≡ true
same_stamp-itself a = and_from (eqb a.time a.time) (eqb a.replica a.replica) (eq-eqb a.time a.time refl) (eq-eqb a.replica a.replica refl)

pub same_name-true : (a b : Name) → same_name a b ≡ true → a ≡ b
same_name-true a b h =
    both_parts name_of (same_stamp a.stamp b.stamp) (eqb a.index b.index) (same_stamp-true a.stamp b.stamp) (eqb-true a.index b.index) h

pub same_name-itself : (a : Name) → same_name a a ≡ true
same_name-itself a = and_from (same_stamp a.stamp a.stamp) (eqb a.index a.index) (same_stamp-itself a.stamp) (eq-eqb a.index a.index refl)

pub same_name-apart : (a b c : Name) → same_name a b ≡ false → same_name c b ≡ true → same_name c a ≡ false
same_name-apart a b c h e = grind (arith)

abbrev text_at : Name → TextId
text_at n = record { name = n }

pub same_text-true : (a b : TextId) → same_text a b ≡ true → a ≡ b
same_text-true a b h = ap text_at (same_name-true a.name b.name h)

pub same_text-itself : (a : TextId) → same_text a a ≡ true
same_text-itself a = same_name-itself a.name

pub same_stamp-sym : (a b : Stamp) → same_stamp a b ≡ same_stamp b a
same_stamp-sym a b = grind (arith)

-- the order of stamps
pub before_irrefl : (a : Stamp) → before a a ≡ false
before_irrefl a = grind (arith)

pub before_trans : (a b c : Stamp) → before a b ≡ true → before b c ≡ true → before a c ≡ true
before_trans a b c p q = grind (arith)

pub before_asym : (a b : Stamp) → before a b ≡ true → before b a ≡ false
before_asym a b p = grind (arith)

pub before_total : (a b : Stamp) → before a b ≡ false → before b a ≡ false → same_stamp a b ≡ true
before_total a b p q = grind (arith)

-- of two different stamps, one is before the other
pub before_other : (a b : Stamp) → before a b ≡ false → same_stamp a b ≡ false → before b a ≡ true
before_other a b p q = grind (arith)

pub before_later : (a b : Stamp) → a.time < b.time → before a b ≡ true
before_later a b h = grind (arith)

pub before_differs : (a b : Stamp) → before a b ≡ true → same_stamp a b ≡ false
before_differs a b p = grind (arith)

-- the same, with the two in the other order
pub before_differs_after : (a b : Stamp) → before a b ≡ true → same_stamp b a ≡ false
before_differs_after a b p = grind (arith)

pub before_other_after : (a b : Stamp) → before a b ≡ false → same_stamp b a ≡ false → before b a ≡ true
before_other_after a b p q = grind (arith)

-- whose name is another's is so of both or of neither
pub same_text-alike : (a b c : TextId) → same_text a b ≡ true → same_text c a ≡ same_text c b
same_text-alike a b c h = ap (λ n. same_text c n) (same_text-true a b h)

pub same_text-apart : (a b c : TextId) → same_text a b ≡ false → same_text c b ≡ true → same_text c a ≡ false
same_text-apart a b c h e = same_name-apart a.name b.name c.name h e

abbrev board_at : Name → BoardId
board_at n = record { name = n }

pub same_board-true : (a b : BoardId) → same_board a b ≡ true → a ≡ b
same_board-true a b h = ap board_at (same_name-true a.name b.name h)

pub same_board-apart : (a b c : BoardId) → same_board a b ≡ false → same_board c b ≡ true → same_board c a ≡ false
same_board-apart a b c h e = same_name-apart a.name b.name c.name h e
