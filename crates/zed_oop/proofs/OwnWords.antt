-- Words without a target, which only the stat whose turn it is hears.
use Rattle.std.proofs.Common.{◌≡◌, ◌≢◌, ◌∙◌, ℕ, zero, suc, ◌≤◌, Bool, true, false, cond, ◌&&◌, ◌||◌, ◌⊎◌, inl, inr, List, length, position, Option, Some, None, slice_get, nat_lt, eqb, refl, sym, ap, arith}
use Rattle.std.proofs.lemmas.Bool.{le-ltb, lt-ltb, ltb-false, ltb-true}
use Rattle.std.proofs.lemmas.Bool.Decides.{eqb_tells}
use Rattle.std.proofs.lemmas.Option.{slice_get_past}
use Rattle.zed_scene.specs.declared.stat.Stat.{Stat}
use Rattle.zed_scene.specs.Scene.{Scene, program_of}
use Rattle.zed_oop_syntax.specs.Label.{label_place}
use Rattle.zed_oop.specs.declared.programs.Relabelling.{Relabelling}
use Rattle.zed_oop.specs.Sending.{Sent, arrived, changed_of, changed_program, for_each, is_colon, is_number, is_own, is_reached, is_target, is_target_of, label_of, relabel_one, relabelled, relabelled_in, send_one, sent, sent_to, so_far, target_before, target_of}

-- ---- where each but one does nothing

-- each but the i-th changes nothing, where that holds which the i-th keeps: then only the i-th does something
only : {X : Type 0} (f : ℕ → X → X) (P : X → Type 0) (i : ℕ) → ((j : ℕ) (x : X) → P x → j ≢ i → f j x ≡ x) → ((x : X) → P x → P (f i x))
    → (n : ℕ) (x : X) → P x
    → for_each f n x ≡ cond (nat_lt i n) (f i x) x
only f P i rest kept zero x p = sym (ap (λ b. cond b (f i x) x) (le-ltb i 0 (omega arith)))
only {X = X} f P i rest kept (suc n) x p = ap (f n) (only f P i rest kept n x p) ∙ by_place (nat_lt i n) refl (eqb_tells n i)
  where
    by_place : (b : Bool) → nat_lt i n ≡ b → ((eqb n i ≡ true) × (n ≡ i)) ⊎ ((eqb n i ≡ false) × (n ≢ i))
        → f n (cond b (f i x) x) ≡ cond (nat_lt i (suc n)) (f i x) x
    by_place true e o =
        let less = ltb-true i n e in
        rest n (f i x) (kept x p) (λ same. omega (arith, same)) ∙ sym (ap (λ b. cond b (f i x) x) (lt-ltb i (suc n) (omega arith)))
    by_place false e (inl here) =
        let same = here.1 in
        ap (λ m. f m x) same ∙ sym (ap (λ b. cond b (f i x) x) (lt-ltb i (suc n) (omega arith)))
    by_place false e (inr other) =
        let most = ltb-false i n e in
        let apart = other.1 in
        rest n x p apart ∙ sym (ap (λ b. cond b (f i x) x) (le-ltb i (suc n) (omega arith)))

-- where each changes nothing, nothing is changed
nothing : {X : Type 0} (f : ℕ → X → X) (n : ℕ) (x : X) → ((j : ℕ) → f j x ≡ x) → for_each f n x ≡ x
nothing f zero x rest = refl
nothing f (suc n) x rest = ap (f n) (nothing f n x rest) ∙ rest n

-- the i-th alone, which is there or changes nothing
there : {X : Type 0} (x y : X) (i n : ℕ) → (n ≤ i → y ≡ x) → cond (nat_lt i n) y x ≡ y
there x y i n past = by_place (nat_lt i n) refl
  where
    by_place : (b : Bool) → nat_lt i n ≡ b → cond b y x ≡ y
    by_place true e = refl
    by_place false e = sym (past (ltb-false i n e))

-- ---- who hears a word without a target

-- another stat is no target
not_meant : (p w : List ℕ) (j : ℕ) → position is_colon w ≡ None → is_target p w j false ≡ false
unfolding is_target target_of
not_meant p w j none = ap (λ o. is_target_of p (target_before w o) j false) none

-- a stat that isn't the one whose turn it is
not_own : (o : Option ℕ) (i j : ℕ) → o ≡ Some i → j ≢ i → is_number j o ≡ false
not_own None i j e other = refl
not_own (Some n) i j e other = by_number (eqb_tells n j)
  where
    by_number : ((eqb n j ≡ true) × (n ≡ j)) ⊎ ((eqb n j ≡ false) × (n ≢ j)) → eqb n j ≡ false
    by_number (inl same) = let a = same.1 in absurd (other (cc))
    by_number (inr apart) = apart.0

-- ---- messages

-- a word without a target does nothing with another stat
sent_past : (w : List ℕ) (j : ℕ) (o : Option Stat) (t : Sent) → position is_colon w ≡ None → is_own t.scene j ≡ false → sent_to w j o t ≡ t
sent_past w j None t none other = refl
sent_past w j (Some a) t none other =
    let p = program_of t.scene a.program in
    let deaf : is_reached p w j (is_own t.scene j) a ≡ false =
    ap (λ b. is_reached p w j b a) other ∙ ap (λ b. b && (eqb a.p2 0 || false)) (not_meant p w j none) in
    ap (λ b. cond b (arrived j a (label_place p (label_of w)) t) t) deaf

-- whoever hears a word, it stays the turn of the same stat
arrived_running : (i : ℕ) (a : Stat) (o : Option ℕ) (t : Sent) → (arrived i a o t).scene.running ≡ t.scene.running
arrived_running i a None t = refl
arrived_running i a (Some at) t = refl

reached_running : (b : Bool) (i : ℕ) (a : Stat) (o : Option ℕ) (t : Sent) → (cond b (arrived i a o t) t).scene.running ≡ t.scene.running
reached_running true i a o t = arrived_running i a o t
reached_running false i a o t = refl

sent_running : (w : List ℕ) (i : ℕ) (o : Option Stat) (t : Sent) → (sent_to w i o t).scene.running ≡ t.scene.running
sent_running w i None t = refl
sent_running w i (Some a) t =
    let p = program_of t.scene a.program in
    reached_running (is_reached p w i (is_own t.scene i) a) i a (label_place p (label_of w)) t

-- a word without a target is sent to the stat whose turn it is
pub sent_to_own : (w : List ℕ) (s : Scene) (i : ℕ) → position is_colon w ≡ None → s.running ≡ Some i
    → sent w s ≡ send_one w i (so_far s false)
unfolding sent send_one
sent_to_own w s i none mine =
    only (send_one w) (λ t. t.scene.running ≡ Some i) i
    (λ j t is apart. sent_past w j (slice_get t.scene.stats j) t none (not_own t.scene.running i j is apart))
    (λ t is. sent_running w i (slice_get t.scene.stats i) t ∙ is)
    (length s.stats) (so_far s false) mine
    ∙ there (so_far s false) (send_one w i (so_far s false)) i (length s.stats)
    (λ past. ap (λ o. sent_to w i o (so_far s false)) (slice_get_past s.stats i past))

-- and to none where it is the turn of none
pub sent_by_none : (w : List ℕ) (s : Scene) → position is_colon w ≡ None → s.running ≡ None → sent w s ≡ so_far s false
unfolding sent send_one
sent_by_none w s none mine =
    nothing (send_one w) (length s.stats) (so_far s false)
    (λ j. sent_past w j (slice_get s.stats j) (so_far s false) none (ap (is_number j) mine))

-- ---- labels that are hidden or shown

-- a word without a target changes no program of another stat
changed_past : (f : List ℕ → List ℕ) (w : List ℕ) (j : ℕ) (o : Option Stat) (s : Scene) → position is_colon w ≡ None → is_own s j ≡ false
    → changed_of f w j o s ≡ s
changed_past f w j None s none other = refl
changed_past f w j (Some a) s none other =
    let p = program_of s a.program in
    let deaf : is_target p w j (is_own s j) ≡ false = ap (λ b. is_target p w j b) other ∙ not_meant p w j none in
    ap (λ b. cond b (changed_program f a.program s) s) deaf

program_running : (b : Bool) (f : List ℕ → List ℕ) (o : Option ℕ) (s : Scene) → (cond b (changed_program f o s) s).running ≡ s.running
program_running true f None s = refl
program_running true f (Some k) s = refl
program_running false f o s = refl

changed_running : (f : List ℕ → List ℕ) (w : List ℕ) (i : ℕ) (o : Option Stat) (s : Scene) → (changed_of f w i o s).running ≡ s.running
changed_running f w i None s = refl
changed_running f w i (Some a) s = program_running (is_target (program_of s a.program) w i (is_own s i)) f a.program s

-- the labels of a word without a target are those of the stat whose turn it is
pub relabelled_own : (r : Relabelling) (w : List ℕ) (s : Scene) (i : ℕ) → position is_colon w ≡ None → s.running ≡ Some i
    → relabelled r w s ≡ relabel_one r w i s
unfolding relabelled relabel_one
relabelled_own r w s i none mine =
    let f = relabelled_in r (label_of w) in
    only (relabel_one r w) (λ t. t.running ≡ Some i) i
    (λ j t is apart. changed_past f w j (slice_get t.stats j) t none (not_own t.running i j is apart))
    (λ t is. changed_running f w i (slice_get t.stats i) t ∙ is)
    (length s.stats) s mine
    ∙ there s (relabel_one r w i s) i (length s.stats) (λ past. ap (λ o. changed_of f w i o s) (slice_get_past s.stats i past))

-- and none where it is the turn of none
pub relabelled_by_none : (r : Relabelling) (w : List ℕ) (s : Scene) → position is_colon w ≡ None → s.running ≡ None → relabelled r w s ≡ s
unfolding relabelled relabel_one
relabelled_by_none r w s none mine =
    nothing (relabel_one r w) (length s.stats) s
    (λ j. changed_past (relabelled_in r (label_of w)) w j (slice_get s.stats j) s none (ap (is_number j) mine))
