-- Steps, one after the other.
use Rattle.std.proofs.Common.{◌≡◌, ℕ, List, [], ◌∷◌, ◌++◌, append_assoc, append-nil, Result, Ok, Err, ap, refl, subst, sym, inl, inr}
use Rattle.std.specs.Prelude.{◌⊎◌}
use Rattle.zed_driver.specs.declared.command.Stop.TheVariants.{Memory}
use Rattle.zed_driver.specs.declared.input.Input.{Input}
use Rattle.zed_driver.specs.Effects.{Effect}
use Rattle.zed_driver.specs.Reading.{Wanting}
use Rattle.cmd_take.specs.Steps.{Asks, AsksNoMore, Coming, Gives, IsLed, OrMemory, Reads, Steps, Then}
use Rattle.cmd_take.specs.Stops.{DrawingStop}

pub step_ok : {X Y : Type 0} (First : Result X DrawingStop → Type 0) (Next : X → Result Y DrawingStop → Type 0) (x : X) (r : Result Y DrawingStop)
    → First (Ok x) → Next x r → Steps First Next r
step_ok First Next x r first next = (Ok x, first, next)

-- a step that was refused is the last
pub step_refused : {X Y : Type 0} (First : Result X DrawingStop → Type 0) (Next : X → Result Y DrawingStop → Type 0) (e : DrawingStop)
    → (e ≡ Memory) ⊎ First (Err e) → (e ≡ Memory) ⊎ Steps {Y = Y} First Next (Err e)
step_refused First Next e why = elim why [ inl lack ↦ inl lack | inr first ↦ inr (Err e, first, refl) ]

-- what follows a step
pub step_then : {X Y Z : Type 0} (First : Result X DrawingStop → Type 0) (Next : X → Result Y DrawingStop → Type 0) (view : Z → Y) (x : X) (answer : Result Z DrawingStop)
    → First (Ok x) → Gives view (Next x) answer → Gives view (Steps First Next) answer
step_then First Next view x (Ok z) first next = (Ok x, first, next)
step_then First Next view x (Err e) first next = elim next [ inl lack ↦ inl lack | inr is ↦ inr (Ok x, first, is) ]

-- a step before an answer was done
pub step_was : {X Y : Type 0} (First : Result X DrawingStop → Type 0) (Next : X → Result Y DrawingStop → Type 0) (y : Y)
    → Steps First Next (Ok y)
    → (x : X) × First (Ok x) × Next x (Ok y)
step_was First Next y is = go is.0 is.1 is.2
  where
    go : (m : Result _ DrawingStop) → First m → Then m Next (Ok y) → (x : _) × First (Ok x) × Next x (Ok y)
    go (Ok x) a n = (x, a, n)
    go (Err e) a n = absurd (let no : Ok y ≡ Err e = n in cc)

-- ---- files that are read

-- a file was made into this, and what that leads to is what the command comes to
pub reads_on : {X : Type 0} (Made : Input → Result X DrawingStop → Type 0) (Next : X → Coming) (i : Input) (x : X) (rest : List Input) (r : Result Effect DrawingStop)
    → Made i (Ok x) → Next x rest r → Reads Made Next (i ∷ rest) r
reads_on Made Next i x rest r made next = (Ok x, made, next)

-- ---- a command that goes on

-- by one file more
pub led_on : (files : List Input) (i : Input) (Wants WantsNow WantsNext : Wanting) (Comes ComesNow ComesNext : Coming) → IsLed files Wants Comes WantsNow ComesNow → IsLed (i ∷ []) WantsNow ComesNow WantsNext ComesNext
    → IsLed (files ++ i ∷ []) Wants Comes WantsNext ComesNext
led_on files i Wants WantsNow WantsNext Comes ComesNow ComesNext first next = record {
  wants = λ rest name is. subst (λ fs. Wants fs name) (sym (append_assoc files (i ∷ []) rest)) (first.wants (i ∷ rest) name (next.wants rest name is));
  comes = λ rest r is. subst (λ fs. Comes fs r) (sym (append_assoc files (i ∷ []) rest)) (first.comes (i ∷ rest) r (next.comes rest r is));
}

-- by what goes on as another does
pub led_by : (files : List Input) (Wants WantsNow WantsNext : Wanting) (Comes ComesNow ComesNext : Coming) → IsLed files Wants Comes WantsNow ComesNow → IsLed [] WantsNow ComesNow WantsNext ComesNext → IsLed files Wants Comes WantsNext ComesNext
led_by files Wants WantsNow WantsNext Comes ComesNow ComesNext first next = record {
  wants = λ rest name is. first.wants rest name (next.wants rest name is);
  comes = λ rest r is. first.comes rest r (next.comes rest r is);
}

-- a file that it asked for was made into this
pub read_led : {X : Type 0} (name : List ℕ) (Made : Input → Result X DrawingStop → Type 0) (NextWants : X → Wanting) (NextComes : X → Coming) (i : Input) (x : X)
    → Made i (Ok x)
    → IsLed (i ∷ []) (Asks name Made NextWants) (OrMemory (Reads Made NextComes)) (NextWants x) (OrMemory (NextComes x))
read_led name Made NextWants NextComes i x made = record {
  wants = λ rest wanted asks. (x, made, asks);
  comes = λ rest r comes. elim comes [ inl lack ↦ inl lack | inr next ↦ inr (Ok x, made, next) ];
}

-- and no more is asked for
pub read_led_last : {X : Type 0} (name : List ℕ) (Made : Input → Result X DrawingStop → Type 0) (NextWants : X → Wanting) (NextComes : X → Coming) (i : Input) (x : X)
    → Made i (Ok x)
    → IsLed (i ∷ []) (Asks name Made NextWants) (OrMemory (Reads Made NextComes)) AsksNoMore (OrMemory (NextComes x))
read_led_last name Made NextWants NextComes i x made = record {
  wants = λ rest wanted none. absurd none;
  comes = λ rest r comes. elim comes [ inl lack ↦ inl lack | inr next ↦ inr (Ok x, made, next) ];
}

-- a file was refused, or memory is lacking
pub read_not : {X : Type 0} (Made : Input → Result X DrawingStop → Type 0) (Next : X → Coming) (i : Input) (e : DrawingStop)
    → (e ≡ Memory) ⊎ Made i (Err e)
    → OrMemory (Reads Made Next) (i ∷ []) (Err e)
read_not Made Next i e why = elim why [
  | inl lack ↦ inl (ap (λ x. Err x) lack)
  | inr made ↦ inr (Err e, made, (refl, refl))
]

-- the file that it asks for now
pub wants_now : (files : List Input) (Wants WantsNow : Wanting) (Comes ComesNow : Coming) (name : List ℕ) → IsLed files Wants Comes WantsNow ComesNow → WantsNow [] name → Wants files name
wants_now files Wants WantsNow Comes ComesNow name led is = subst (λ fs. Wants fs name) (append-nil files) (led.wants [] name is)

-- what it comes to now
pub comes_now : (files : List Input) (Wants WantsNow : Wanting) (Comes ComesNow : Coming) (r : Result Effect DrawingStop) → IsLed files Wants Comes WantsNow ComesNow → ComesNow [] r → Comes files r
comes_now files Wants WantsNow Comes ComesNow r led is = subst (λ fs. Comes fs r) (append-nil files) (led.comes [] r is)
