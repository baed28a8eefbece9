-- A header that was written is read again.
use Rattle.std.proofs.Common.{◌≡◌, ℕ, zero, suc, ℤ, pos, negsuc, ◌+◌, ◌*◌, ◌<◌, ◌≤◌, Bool, ltb, ◌^◌, List, [], ◌∷◌, ◌++◌, length, take, drop, get_or, SFits, w16, refl, ap, sym, subst, ◌∙◌, append_assoc, append-nil, length-append, arith}
use Rattle.std.specs.List.{flat_map, AllByRecursion}
use Rattle.std.proofs.lemmas.List.{take_more, take_all}
use Rattle.byteorder.specs.Endian.{little_number}
use Rattle.zed_world.specs.declared.header.Header.{Header}
use Rattle.zed_world.specs.Fields.{integer, integer_at, zeros, string, string_at, flag, flag_at, board_integer}
use Rattle.zed_world.specs.Offsets.{keys_at, flags_at, header_at}
use Rattle.zed_world.specs.Writing.{header_text}
use Rattle.zed_world.specs.Normal.{IsAtMost, IsNormalHeader}
use Rattle.zed_world.proofs.FieldsAgain.{integer_again, board_again, flag_again, length_string, string_again}
use Rattle.zed_world.proofs.BoardAgain.{integer_past, index_past}

-- ---- the counters, with the keys apart

first : ℕ → Header → List Bool → List ℕ
first others h keys =
    (integer (negsuc 0) ++ integer (pos others)) ++ (integer h.ammo ++ integer h.gems ++ flat_map flag keys ++ integer h.health ++ integer (pos h.current_board) ++ integer h.torches ++ integer h.torch_ticks ++ integer h.energizer_ticks ++ zeros 2 ++ integer h.score)

record Counters (boards others : ℕ) (h : Header) (keys : List Bool) (bytes : List ℕ) : Type 0 where
  kind : little_number 2 bytes ≡ 65535
  others_is : integer_at bytes 2 ≡ pos others
  ammo : integer_at bytes 4 ≡ h.ammo
  gems : integer_at bytes 6 ≡ h.gems
  keys_are : keys_at bytes ≡ keys
  health : integer_at bytes 15 ≡ h.health
  current_board : board_integer boards (integer_at bytes 17) ≡ h.current_board
  torches : integer_at bytes 19 ≡ h.torches
  torch_ticks : integer_at bytes 21 ≡ h.torch_ticks
  energizer_ticks : integer_at bytes 23 ≡ h.energizer_ticks
  score : integer_at bytes 27 ≡ h.score

seven : (a b c d e f g p q r s t u v : Bool) → p ≡ a → q ≡ b → r ≡ c → s ≡ d → t ≡ e → u ≡ f → v ≡ g
    → p ∷ q ∷ r ∷ s ∷ t ∷ u ∷ v ∷ [] ≡ a ∷ b ∷ c ∷ d ∷ e ∷ f ∷ g ∷ []
seven a b c d e f g p q r s t u v i j k l m n o = rw (i, j, k, l, m, n, o) refl

counters_again : (boards others : ℕ) (h : Header) (a b c d e f g : Bool) (rest : List ℕ) → boards ≤ 101 → others < 2 ^ 15
    → IsNormalHeader boards h
    → Counters boards others h (a ∷ b ∷ c ∷ d ∷ e ∷ f ∷ g ∷ []) (first others h (a ∷ b ∷ c ∷ d ∷ e ∷ f ∷ g ∷ []) ++ rest)
unfolding first integer integer_at zeros
counters_again boards others h a b c d e f g rest le few n =
    let current = n.current_board in
    record {
      kind = refl;
      others_is = integer_again (pos others) [] (record { sfits = few });
      ammo = integer_again h.ammo [] n.ammo;
      gems = integer_again h.gems [] n.gems;
      keys_are = seven a b c d e f g _ _ _ _ _ _ _ (flag_again a []) (flag_again b []) (flag_again c []) (flag_again d []) (flag_again e []) (flag_again f []) (flag_again g []);
      health = integer_again h.health [] n.health;
      current_board =
          ap (board_integer boards) (integer_again (pos h.current_board) [] (record { sfits = omega arith }))
          ∙ board_again boards h.current_board current;
      torches = integer_again h.torches [] n.torches;
      torch_ticks = integer_again h.torch_ticks [] n.torch_ticks;
      energizer_ticks = integer_again h.energizer_ticks [] n.energizer_ticks;
      score = integer_again h.score [] n.score;
    }

any_keys : (boards others : ℕ) (h : Header) (keys : List Bool) (rest : List ℕ) → length keys ≡ 7 → boards ≤ 101 → others < 2 ^ 15
    → IsNormalHeader boards h
    → Counters boards others h keys (first others h keys ++ rest)
any_keys boards others h [] rest e le few n = absurd (omega arith)
any_keys boards others h (a ∷ []) rest e le few n = absurd (omega arith)
any_keys boards others h (a ∷ b ∷ []) rest e le few n = absurd (omega arith)
any_keys boards others h (a ∷ b ∷ c ∷ []) rest e le few n = absurd (omega arith)
any_keys boards others h (a ∷ b ∷ c ∷ d ∷ []) rest e le few n = absurd (omega arith)
any_keys boards others h (a ∷ b ∷ c ∷ d ∷ i ∷ []) rest e le few n = absurd (omega arith)
any_keys boards others h (a ∷ b ∷ c ∷ d ∷ i ∷ f ∷ []) rest e le few n = absurd (omega arith)
any_keys boards others h (a ∷ b ∷ c ∷ d ∷ i ∷ f ∷ g ∷ []) rest e le few n = counters_again boards others h a b c d i f g rest le few n
any_keys boards others h (a ∷ b ∷ c ∷ d ∷ i ∷ f ∷ g ∷ k ∷ ks) rest e le few n = absurd (omega arith)

length_flags : (keys : List Bool) → length (flat_map flag keys) ≡ length keys
length_flags [] = refl
length_flags (k ∷ keys) = ap suc (length_flags keys)

length_first : (others : ℕ) (h : Header) (keys : List Bool) → length keys ≡ 7 → length (first others h keys) ≡ 29
unfolding first integer zeros
length_first others h keys e =
    simp length-append (omega (arith, length_flags keys))

-- ---- the strings

drop_past : (front rest : List ℕ) (n i : ℕ) → length front ≡ n → drop (n + i) (front ++ rest) ≡ drop i rest
drop_past [] rest n i e = ap (λ (k : ℕ). drop k rest) (omega arith)
drop_past (a ∷ front) rest zero i e = absurd (omega arith)
drop_past (a ∷ front) rest (suc n) i e = let k : suc n + i ≡ suc (n + i) = omega arith in rw k (drop_past front rest n i (omega arith))

string_past : (field : ℕ) (front rest : List ℕ) (n i : ℕ) → length front ≡ n
    → string_at field (front ++ rest) (n + i) ≡ string_at field rest i
unfolding string_at
string_past field front rest n i e =
    let k : suc (n + i) ≡ n + suc i = omega arith in
    rw (index_past front rest n i e, k, drop_past front rest n (suc i) e) refl

flag_there : (fs : List (List ℕ)) (k : ℕ) (rest : List ℕ) → k < length fs → AllByRecursion (IsAtMost 20) fs
    → string_at 20 (flat_map (string 20) fs ++ rest) (21 * k) ≡ get_or fs k []
flag_there [] k rest lt h = absurd (omega arith)
flag_there (f ∷ fs) zero rest lt h =
    ap (λ (x : List ℕ). string_at 20 x 0) (append_assoc (string 20 f) (flat_map (string 20) fs) rest)
    ∙ string_again 20 f (flat_map (string 20) fs ++ rest) h.0
flag_there (f ∷ fs) (suc k) rest lt h =
    let place : 21 * suc k ≡ 21 + 21 * k = omega arith in
    ap (λ (x : List ℕ). string_at 20 x (21 * suc k)) (append_assoc (string 20 f) (flat_map (string 20) fs) rest) ∙ ap (string_at 20 (string 20 f ++ (flat_map (string 20) fs ++ rest))) place
    ∙ string_past 20 (string 20 f) (flat_map (string 20) fs ++ rest) 21 (21 * k) (length_string 20 f h.0) ∙ flag_there fs k rest (omega arith) h.1

flags_again : (front : List ℕ) (fs : List (List ℕ)) (rest : List ℕ) (k : ℕ) → length front ≡ 50 → k ≤ length fs
    → AllByRecursion (IsAtMost 20) fs
    → flags_at k (front ++ (flat_map (string 20) fs ++ rest)) ≡ take k fs
flags_again front fs rest zero e le h = refl
flags_again front fs rest (suc k) e le h =
    let one : string_at 20 (front ++ (flat_map (string 20) fs ++ rest)) (50 + 21 * k) ≡ get_or fs k [] =
    string_past 20 front (flat_map (string 20) fs ++ rest) 50 (21 * k) e ∙ flag_there fs k rest (omega arith) h in
    let next : suc k ≡ k + 1 = omega arith in
    ap (λ (x : List (List ℕ)). x ++ string_at 20 (front ++ (flat_map (string 20) fs ++ rest)) (50 + 21 * k) ∷ []) (flags_again front fs rest k e (omega arith) h)
    ∙ ap (λ (x : List ℕ). take k fs ++ x ∷ []) one ∙ sym (take_more fs k [] (omega arith)) ∙ ap (λ (i : ℕ). take i fs) (sym next)

length_strings : (fs : List (List ℕ)) → AllByRecursion (IsAtMost 20) fs → length (flat_map (string 20) fs) ≡ 21 * length fs
length_strings [] h = refl
length_strings (f ∷ fs) h =
    omega (arith, length-append (string 20 f) (flat_map (string 20) fs), length_string 20 f h.0, length_strings fs h.1)

-- ---- the end

back_of : Header → List ℕ
back_of h = integer h.time_passed ++ integer h.hundredths ++ flag h.saved ++ zeros 247

length_back : (h : Header) → length (back_of h) ≡ 252
unfolding back_of integer zeros
length_back h = refl

time_there : (h : Header) (rest : List ℕ) → SFits w16 h.time_passed → integer_at (back_of h ++ rest) 0 ≡ h.time_passed
unfolding back_of integer integer_at
time_there h rest fits = integer_again h.time_passed [] fits

hundredths_there : (h : Header) (rest : List ℕ) → SFits w16 h.hundredths → integer_at (back_of h ++ rest) 2 ≡ h.hundredths
unfolding back_of integer integer_at
hundredths_there h rest fits = integer_again h.hundredths [] fits

saved_there : (h : Header) (rest : List ℕ) → flag_at (back_of h ++ rest) 4 ≡ h.saved
unfolding back_of integer
saved_there h rest = flag_again h.saved []

-- ---- all of it

regroup : (f s g a b c z rest : List ℕ)
    → (((((f ++ (s ++ g)) ++ a) ++ b) ++ c) ++ z) ++ rest ≡ f ++ (s ++ (g ++ ((((a ++ b) ++ c) ++ z) ++ rest)))
regroup f s g a b c z rest = simp append_assoc

parts_of : (others : ℕ) (h : Header) (rest : List ℕ)
    → header_text others h ++ rest ≡ first others h h.keys ++ (string 20 h.name ++ (flat_map (string 20) h.flags ++ (back_of h ++ rest)))
unfolding header_text first back_of
parts_of others h rest = regroup (first others h h.keys) (string 20 h.name) (flat_map (string 20) h.flags) (integer h.time_passed) (integer h.hundredths) (flag h.saved) (zeros 247) rest

built : ℤ → ℤ → List Bool → ℤ → ℕ → ℤ → ℤ → ℤ → ℤ → List ℕ → List (List ℕ) → ℤ → ℤ → Bool → Header
built ammo gems keys health current_board torches torch_ticks energizer_ticks score name flags time_passed hundredths saved =
    record { ammo = ammo; gems = gems; keys = keys; health = health; current_board = current_board; torches = torches; torch_ticks = torch_ticks; energizer_ticks = energizer_ticks; score = score; name = name; flags = flags; time_passed = time_passed; hundredths = hundredths; saved = saved }

built_is : (h : Header) (ammo gems : ℤ) (keys : List Bool) (health : ℤ) (current_board : ℕ) (torches torch_ticks energizer_ticks score : ℤ) (name : List ℕ) (flags : List (List ℕ)) (time_passed hundredths : ℤ) (saved : Bool)
    → ammo ≡ h.ammo → gems ≡ h.gems → keys ≡ h.keys → health ≡ h.health → current_board ≡ h.current_board → torches ≡ h.torches
    → torch_ticks ≡ h.torch_ticks → energizer_ticks ≡ h.energizer_ticks → score ≡ h.score → name ≡ h.name → flags ≡ h.flags
    → time_passed ≡ h.time_passed → hundredths ≡ h.hundredths → saved ≡ h.saved
    → built ammo gems keys health current_board torches torch_ticks energizer_ticks score name flags time_passed hundredths saved ≡ h
unfolding built
built_is h ammo gems keys health current_board torches torch_ticks energizer_ticks score name flags time_passed hundredths saved a b c d e f g i j k l m n o = rw (a, b, c, d, e, f, g, i, j, k, l, m, n, o) refl

pub record Again (boards others : ℕ) (h : Header) (rest : List ℕ) : Type 0 where
  pub kind : little_number 2 (header_text others h ++ rest) ≡ 65535
  pub others_is : integer_at (header_text others h ++ rest) 2 ≡ pos others
  pub header : header_at boards (header_text others h ++ rest) ≡ h
  pub long : length (header_text others h) ≡ 512

pub header_again : (boards others : ℕ) (h : Header) (rest : List ℕ) → boards ≤ 101 → others < 2 ^ 15 → IsNormalHeader boards h
    → Again boards others h rest
unfolding header_at built
header_again boards others h rest le few n =
    let f = first others h h.keys in
    let s = string 20 h.name in
    let g = flat_map (string 20) h.flags in
    let bytes = header_text others h ++ rest in
    let after = back_of h ++ rest in
    let e1 : bytes ≡ f ++ (s ++ (g ++ after)) = parts_of others h rest in
    let e2 : bytes ≡ (f ++ s) ++ (g ++ after) = e1 ∙ sym (append_assoc f s (g ++ after)) in
    let e3 : bytes ≡ ((f ++ s) ++ g) ++ after = e2 ∙ sym (append_assoc (f ++ s) g after) in
    let l1 : length f ≡ 29 = length_first others h h.keys n.keys in
    let l2 : length (f ++ s) ≡ 50 = omega (arith, length-append f s, length_string 20 h.name n.name) in
    let l3 : length ((f ++ s) ++ g) ≡ 260 = omega (arith, length-append (f ++ s) g, length_strings h.flags n.each_flag, n.flags) in
    let c : Counters boards others h h.keys bytes = subst (λ (x : List ℕ). Counters boards others h h.keys x) (sym e1) (any_keys boards others h h.keys (s ++ (g ++ after)) n.keys le few n) in
    let ten = n.flags in
    let name : string_at 20 bytes 29 ≡ h.name =
    ap (λ (x : List ℕ). string_at 20 x 29) e1 ∙ string_past 20 f (s ++ (g ++ after)) 29 0 l1
    ∙ string_again 20 h.name (g ++ after) n.name in
    let flags : flags_at 10 bytes ≡ h.flags =
    ap (flags_at 10) e2 ∙ flags_again (f ++ s) h.flags after 10 l2 (omega arith) n.each_flag ∙ take_all 10 h.flags (omega arith) in
    let time : integer_at bytes 260 ≡ h.time_passed =
    ap (λ (x : List ℕ). integer_at x 260) e3 ∙ integer_past ((f ++ s) ++ g) after 260 0 l3 ∙ time_there h rest n.time_passed in
    let hundredths : integer_at bytes 262 ≡ h.hundredths =
    ap (λ (x : List ℕ). integer_at x 262) e3 ∙ integer_past ((f ++ s) ++ g) after 260 2 l3 ∙ hundredths_there h rest n.hundredths in
    let saved : flag_at bytes 264 ≡ h.saved =
    ap (λ (x : List ℕ). flag_at x 264) e3 ∙ ap (λ (k : ℕ). ltb 0 k) (index_past ((f ++ s) ++ g) after 260 4 l3) ∙ saved_there h rest in
    record {
      kind = c.kind;
      others_is = c.others_is;
      header = built_is h _ _ _ _ _ _ _ _ _ _ _ _ _ _ c.ammo c.gems c.keys_are c.health c.current_board c.torches c.torch_ticks c.energizer_ticks c.score name flags time hundredths saved;
      long = ap length (sym (append-nil (header_text others h)) ∙ parts_of others h []) ∙ omega (arith, length-append f (s ++ (g ++ (back_of h ++ []))), length-append s (g ++ (back_of h ++ [])), length-append g (back_of h ++ []), length-append (back_of h) [], length_back h, length_string 20 h.name n.name, length_strings h.flags n.each_flag, n.flags);
    }
