-- Words of chance are used from the front, and those behind can be any others.
use Rattle.std.proofs.Common.{◌≡◌, ◌∙◌, ◌++◌, ◌%◌, ℕ, slice_get, ◌==◌, if◌then◌else◌, Bool, true, false, List, [], ◌∷◌, Some, None, refl, sym, ap, append_assoc}
use Rattle.zed_types.specs.declared.tile.Place.{Place}
use Rattle.zed_scene.specs.Scene.{Scene}
use Rattle.zed_scene.specs.Seeking.{east, north, place_of, random_step, sought, south, towards, up_or_down, west}
use Rattle.zed_scene.specs.Words.{Drawn, draw, ◌>>=◌}

-- what comes to something with words left over used those in front of them, and would do so with any others behind
abbrev pub Front : {X : Type 0} → (List ℕ → Drawn X → Type 0) → Type 0
Front {X} R = (ws left : List ℕ) (x : X) → R ws (Some (x, left)) → (used : List ℕ) × ((ws ≡ used ++ left) × ((more : List ℕ) → R (used ++ more) (Some (x, more))))

abbrev pub Is : {X : Type 0} → (List ℕ → Drawn X) → List ℕ → Drawn X → Type 0
Is {X} f ws d = ◌≡◌ {A = Drawn X} d (f ws)

-- ---- what is drawn

pub front_none : {X : Type 0} (x : X) → Front (Is (λ ws. Some (x, ws)))
front_none {X} x ws left y e =
    let pair : ◌≡◌ {A = X × List ℕ} (y, left) (x, ws) = cc in
    let value : y ≡ x = ap (λ p. p.0) pair in
    ([], (sym (ap (λ p. p.1) pair), λ more. ap (λ v. Some (v, more)) value))

pub front_draw : (n : ℕ) → Front (Is (draw n))
front_draw n [] left x e = absurd (cc)
front_draw n (w ∷ ws) left x e =
    let pair : ◌≡◌ {A = ℕ × List ℕ} (x, left) (w % n, ws) = cc in
    let value : x ≡ w % n = ap (λ p. p.0) pair in
    (w ∷ [], (ap (λ l. w ∷ l) (sym (ap (λ p. p.1) pair)), λ more. ap (λ v. Some (v, more)) value))

bind_at : {A B : Type 0} (f : List ℕ → Drawn A) (g : A → List ℕ → Drawn B) → Front (Is f) → ((a : A) → Front (Is (g a)))
    → (ws left : List ℕ) (y : B) (o : Drawn A) → ◌≡◌ {A = Drawn A} o (f ws) → ◌≡◌ {A = Drawn B} (Some (y, left)) (o >>= λ r. g r.0 r.1)
    → (used : List ℕ) × ((ws ≡ used ++ left) × ((more : List ℕ) → ◌≡◌ {A = Drawn B} (Some (y, more)) (f (used ++ more) >>= λ r. g r.0 r.1)))
bind_at f g first second ws left y None is e = absurd (cc)
bind_at f g first second ws left y (Some (a, mid)) is e =
    let x = first ws mid a is in
    let z = second a mid left y e in (
      x.0 ++ z.0,
      (
        x.1.0 ∙ ap (λ l. x.0 ++ l) z.1.0 ∙ sym (append_assoc x.0 z.0 left),
        λ more. z.1.1 more ∙ ap (λ o. o >>= λ r. g r.0 r.1) (x.1.1 (z.0 ++ more) ∙ ap f (sym (append_assoc x.0 z.0 more))),
      ),
    )

pub front_bind : {A B : Type 0} (f : List ℕ → Drawn A) (g : A → List ℕ → Drawn B) → Front (Is f) → ((a : A) → Front (Is (g a)))
    → Front (Is (λ ws. f ws >>= λ r. g r.0 r.1))
front_bind f g first second ws left y e = bind_at f g first second ws left y (f ws) refl e

pub front_either : {X : Type 0} (b : Bool) (f g : List ℕ → Drawn X) → Front (Is f) → Front (Is g)
    → Front (Is (λ ws. if b then f ws else g ws))
front_either true f g one other ws left x e = one ws left x e
front_either false f g one other ws left x e = other ws left x e

-- ---- steps by chance, and towards the player

pub front_up_or_down : Front (Is up_or_down)
front_up_or_down = front_bind (draw 2) (λ r ws. Some (if r == 0 then north else south, ws)) (front_draw 2) (λ r. front_none (if r == 0 then north else south))

pub front_random : Front (Is random_step)
front_random =
    front_bind (draw 3) (λ r ws. if r == 0 then Some (west, ws) else if r == 2 then Some (east, ws) else up_or_down ws) (front_draw 3)
    (λ r. front_either (r == 0) (λ ws. Some (west, ws)) (λ ws. if r == 2 then Some (east, ws) else up_or_down ws) (front_none west)
    (front_either (r == 2) (λ ws. Some (east, ws)) up_or_down (front_none east) front_up_or_down))

pub front_sought : (from : Place) (s : Scene) → Front (Is (sought from s))
front_sought from s =
    front_bind (draw 2) (λ r ws. Some (towards from (place_of from (slice_get s.stats 0)) (r == 0), ws)) (front_draw 2)
    (λ r. front_none (towards from (place_of from (slice_get s.stats 0)) (r == 0)))

-- what is the same whatever the words
pub front_same : {X : Type 0} (f g : List ℕ → Drawn X) → ((ws : List ℕ) → ◌≡◌ {A = Drawn X} (f ws) (g ws)) → Front (Is g) → Front (Is f)
front_same f g same front ws left x e =
    let z = front ws left x (e ∙ same ws) in
    (z.0, (z.1.0, λ more. z.1.1 more ∙ sym (same (z.0 ++ more))))
