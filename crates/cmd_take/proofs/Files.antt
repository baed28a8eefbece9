-- What files come to.
use Rattle.std.proofs.Common.{◌≡◌, ◌∙◌, ℕ, Bool, true, false, List, [], ◌∷◌, Option, Some, None, Result, Ok, Err, ap, refl, subst, sym, inl, inr}
use Rattle.std.specs.Prelude.{◌⊎◌, IfSome, MatchBool}
use Rattle.std.specs.Str.{bytes_eq}
use Rattle.zed_op.specs.declared.op.Edit.{Edit}
use Rattle.zed_world.specs.declared.error.WorldError.{WorldError}
use Rattle.zed_world.specs.declared.error.WorldError.TheVariants as worlds
use Rattle.zed_world.specs.Contents.{Contents}
use Rattle.zed_world.specs.Reading.{world_at}
use Rattle.zed_driver.specs.declared.command.Stop.{Stop}
use Rattle.zed_driver.specs.declared.command.Stop.TheVariants.{Memory}
use Rattle.zed_driver.specs.declared.input.Input.{Input}
use Rattle.zed_driver.specs.declared.input.Input.TheVariants.{Bytes, Missing, Failed}
use Rattle.zed_document.specs.Replica.{Replica}
use Rattle.zed_driver.specs.Effects.{Effect}
use Rattle.zed_driver.specs.Reading.{Wanting}
use Rattle.zed_refusal.specs.declared.reason.Reason.{Reason}
use Rattle.zed_refusal.specs.Stops.{world_stop}
use Rattle.zed_files.specs.Files.{WantsMemory}
use Rattle.zed_files.specs.Gathers.{BeginsWithBytes}
use Rattle.zed_files.specs.Rewrites.{Opens}
use Rattle.cmd_take.specs.declared.base.Presence.{Presence}
use Rattle.cmd_take.specs.Base.{BaseAsks, BaseOf, BaseReads}
use Rattle.cmd_take.specs.Files.{IsOpened, IsWorld, world_told}
use Rattle.cmd_take.specs.Steps.{Asks, Coming, Reads}
use Rattle.cmd_take.specs.Stops.{DrawingStop, drawing_stop}

-- ---- what was read

-- an edit file that was refused
pub opened_not : (asked : Option ℕ) (bytes : List ℕ) (e : Stop Reason) (told : DrawingStop)
    → ((e ≡ Memory) × WantsMemory asked bytes) ⊎ Opens asked bytes (Err e)
    → told ≡ drawing_stop e → (told ≡ Memory) ⊎ IsOpened asked bytes (Err told)
opened_not asked bytes e told why is = elim why [
  | inl lack ↦ inl (is ∙ ap drawing_stop lack.0)
  | inr opens ↦ inr (Err e, opens, ap (λ x. Err x) is)
]

-- a world file
pub world_so : (bytes : List ℕ) (w : Contents) → world_at bytes ≡ Ok w → IsWorld bytes (Ok w)
world_so bytes w is = sym (ap world_told is)

pub world_not : (bytes : List ℕ) (e : WorldError) (told : DrawingStop) → (e ≡ worlds.Memory) ⊎ (world_at bytes ≡ Err e)
    → told ≡ drawing_stop (world_stop e)
    → (told ≡ Memory) ⊎ IsWorld bytes (Err told)
world_not bytes e told why is = elim why [
  | inl lack ↦ inl (is ∙ ap (λ x. drawing_stop (world_stop x)) lack)
  | inr refused ↦ inr (ap (λ x. Err x) is ∙ sym (ap world_told refused))
]

-- where the first file is there, it is so whatever follows
pub there_too : (i : Input) (rest : List Input) → BeginsWithBytes (i ∷ []) → BeginsWithBytes (i ∷ rest)
there_too (Bytes bytes) rest there = tt
there_too Missing rest there = absurd there
there_too Failed rest there = absurd there

-- ---- the base

-- FILE is its own base
pub own_asks : (presence : Presence) (base file : List ℕ) (number : ℕ) (Next : Option (List Edit) → Wanting) (files : List Input) (wanted : List ℕ)
    → bytes_eq base file ≡ true → Next None files wanted → BaseAsks presence base file number Next files wanted
own_asks presence base file number Next files wanted is next =
    subst (λ b. MatchBool b (Next None files wanted) (Asks base (BaseOf presence number) Next files wanted)) (sym is) next

pub own_reads : (presence : Presence) (base file : List ℕ) (number : ℕ) (Next : Option (List Edit) → Coming) (files : List Input) (r : Result Effect DrawingStop)
    → bytes_eq base file ≡ true → Next None files r → BaseReads presence base file number Next files r
own_reads presence base file number Next files r is next =
    subst (λ b. MatchBool b (Next None files r) (Reads (BaseOf presence number) Next files r)) (sym is) next

-- it has another
pub other_asks : (presence : Presence) (base file : List ℕ) (number : ℕ) (Next : Option (List Edit) → Wanting) (files : List Input) (wanted : List ℕ)
    → bytes_eq base file ≡ false → Asks base (BaseOf presence number) Next files wanted
    → BaseAsks presence base file number Next files wanted
other_asks presence base file number Next files wanted is asks =
    subst (λ b. MatchBool b (Next None files wanted) (Asks base (BaseOf presence number) Next files wanted)) (sym is) asks

pub other_reads : (presence : Presence) (base file : List ℕ) (number : ℕ) (Next : Option (List Edit) → Coming) (files : List Input) (r : Result Effect DrawingStop)
    → bytes_eq base file ≡ false → Reads (BaseOf presence number) Next files r
    → BaseReads presence base file number Next files r
other_reads presence base file number Next files r is reads =
    subst (λ b. MatchBool b (Next None files r) (Reads (BaseOf presence number) Next files r)) (sym is) reads

-- a base that isn't stale, and is of this world
pub both_sound : (number : ℕ) (base : Option Replica) → IfSome base (λ b. b.is_stale ≡ false) → IfSome base (λ b. b.world ≡ number)
    → IfSome base (λ b. (b.is_stale ≡ false) × (b.world ≡ number))
both_sound number None sound world = tt
both_sound number (Some b) sound world = (sound, world)
