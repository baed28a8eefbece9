-- What `new` makes of a world file, and where memory may be lacking for it.
use Rattle.zed_types.specs.Limits.{largest_body}
use Rattle.zed_world.specs.declared.error.WorldError.{WorldError}
use Rattle.zed_world.specs.declared.error.WorldError.TheVariants as world
use Rattle.zed_driver.specs.declared.command.Stop.{Stop}
use Rattle.zed_driver.specs.declared.command.Stop.TheVariants.{Memory}
use Rattle.zed_driver.specs.declared.input.Input.TheVariants.{Bytes}
use Rattle.zed_refusal.specs.declared.reason.Reason.{Reason}
use Rattle.zed_refusal.specs.Stops.{world_stop}
use Rattle.std.proofs.Common.{◌≡◌, ◌∙◌, ℕ, List, [], ◌∷◌, Option, Some, None, Result, Ok, Err, ap, refl, sym, inl, inr}
use Rattle.std.specs.Global.{Vec}
use Rattle.std.specs.Prelude.{◌⊎◌, IfErr, MatchResult}
use Rattle.zed_world.specs.Contents.{Contents}
use Rattle.zed_world.specs.Reading.{Gives, world_at}
use Rattle.zed_world.specs.Writing.{HasText, first_over, unless_refused, world_text, written}
use Rattle.cmd_edit.specs.Fresh.{MayLack, MayWantMemory, first_file, refused_as, rewritten, taken_from}

abbrev told : Stop Reason → Result (Vec ℕ) (Stop Reason)
told e = Err e

stop_is : (e f : Stop Reason) → told f ≡ told e → f ≡ e
stop_is e f is = cc

stop_so : (e : WorldError) (f : Stop Reason) → told f ≡ told (world_stop e) → e ≡ world.Memory → f ≡ Memory
stop_so e f is lack = stop_is (world_stop e) f is ∙ ap world_stop lack

abbrev as_text : List ℕ → Result (List ℕ) WorldError
as_text bytes = Ok bytes

abbrev as_refusal : WorldError → Result (List ℕ) WorldError
as_refusal e = Err e

none_over : (o : Option WorldError) (all text : List ℕ) → unless_refused o all ≡ Ok text → o ≡ None
none_over None all text is = refl
none_over (Some e) all text is = absurd (let no : as_refusal e ≡ as_text text = is in cc)

-- a world that is written has no board over the limit
has_text : (w : Contents) (text : List ℕ) → written largest_body w ≡ Ok text → HasText largest_body w
unfolding written
has_text w text is = none_over (first_over largest_body 0 w.boards) (world_text w) text is

-- a file that was read as a world, and is written again, may want memory
pub read_wants : (bytes text : List ℕ) → rewritten (world_at bytes) ≡ Ok text → MayWantMemory bytes
read_wants bytes text is = go (world_at bytes) refl is
  where
    go : (r : Result Contents WorldError) → world_at bytes ≡ r → rewritten r ≡ Ok text → MayWantMemory bytes
    go (Ok w) at is = inr (w, at, has_text w text is)
    go (Err e) at is = absurd (cc)

-- an edit file that is made of what was read, or why there is none
abbrev pub IsFirstOf : ℕ → Result (Vec ℕ) WorldError → Result (Vec ℕ) (Stop Reason) → Type 0
IsFirstOf world bytes result = MatchResult bytes
    (λ bytes. MatchResult result (λ file. file.items ≡ first_file world bytes.items) (λ e. e ≡ Memory))
    (λ e. result ≡ Err (world_stop e))

-- so is that of the bytes of a file
pub taken_so : (number : ℕ) (bytes : List ℕ) (text : Result (Vec ℕ) WorldError) (result : Result (Vec ℕ) (Stop Reason))
    → Gives (λ text. text.items) text (rewritten (world_at bytes)) → IfErr text (λ e. e ≡ world.Memory → MayWantMemory bytes)
    → IsFirstOf number text result
    → MatchResult result (λ made. (written : List ℕ) × (taken_from (Bytes bytes) ≡ Ok written) × (made.items ≡ first_file number written))
    (λ e. ((e ≡ Memory) × MayLack (Bytes bytes ∷ [])) ⊎ (taken_from (Bytes bytes) ≡ Err e))
taken_so number bytes (Ok text) (Ok file) gives wants is = (text.items, ap refused_as gives, is)
taken_so number bytes (Ok text) (Err e) gives wants is = inl (is, read_wants bytes text.items gives)
taken_so number bytes (Err e) (Ok file) gives wants is = absurd (cc)
taken_so number bytes (Err e) (Err f) gives wants is = elim gives [
  | inl lack ↦ inl (stop_so e f is lack, wants lack)
  | inr refused ↦ inr (ap refused_as refused ∙ ap (λ e. Err e) (sym (stop_is (world_stop e) f is)))
]

-- and that of a new world
pub made_so : (number : ℕ) (made : Result (List ℕ) WorldError) (text : Result (Vec ℕ) WorldError) (result : Result (Vec ℕ) (Stop Reason))
    → Gives (λ text. text.items) text made → IsFirstOf number text result
    → MatchResult result (λ file. (bytes : List ℕ) × (refused_as made ≡ Ok bytes) × (file.items ≡ first_file number bytes))
    (λ e. (e ≡ Memory) ⊎ (refused_as made ≡ Err e))
made_so number made (Ok text) (Ok file) gives is = (text.items, ap refused_as gives, is)
made_so number made (Ok text) (Err e) gives is = inl is
made_so number made (Err e) (Ok file) gives is = absurd (cc)
made_so number made (Err e) (Err f) gives is = elim gives [
  | inl lack ↦ inl (stop_so e f is lack)
  | inr refused ↦ inr (ap refused_as refused ∙ ap (λ e. Err e) (sym (stop_is (world_stop e) f is)))
]
