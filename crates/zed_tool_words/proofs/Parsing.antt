-- What words ask for, by the fault that `clap` finds in them.
use Rattle.std.proofs.Common.{◌≡◌, arith, List, [], ◌∷◌, length, Option, None, refl, ap, sym, subst, ◌∙◌, inl, inr}
use Rattle.std.specs.Prelude.{option_and_then, ◌≢◌}
use Rattle.clap.specs.Walk.{Text}
use Rattle.clap.specs.Simple.{subcommand_of}
use Rattle.clap.specs.Faults.{fault_of}
use Rattle.clap.specs.Kinds.{HasKind, IsAmong, Kinds}
use Rattle.clap.specs.Values.{kind_of}
use Rattle.clap.specs.declared.error.Error.{Error}
use Rattle.clap.specs.declared.error.kind.ErrorKind.{ErrorKind}
use Rattle.clap.specs.declared.error.kind.ErrorKind.TheVariants as kind
use Rattle.zed_tool_words.specs.Grammar.{tool_app}
use Rattle.zed_tool_words.specs.Commands.{Command, command_of, subcommand_asks, unless_refused}

-- words that have no fault
pub wanted_without_fault : (words : List Text) → fault_of tool_app words ≡ []
    → command_of words ≡ option_and_then subcommand_asks (subcommand_of tool_app words)
unfolding command_of
wanted_without_fault words e =
    ap (λ (ks : Kinds). unless_refused ks (option_and_then subcommand_asks (subcommand_of tool_app words))) e

-- they ask for nothing that `clap` answers by itself
pub no_answer_without_fault : (k : ErrorKind) (words : List Text) → fault_of tool_app words ≡ [] → ¬ (fault_of tool_app words ≡ k ∷ [])
no_answer_without_fault k words e is = let bad : 0 ≡ 1 = ap (λ (ks : Kinds). length ks) (sym e ∙ is) in absurd (omega (arith, bad))

refused : (k : ErrorKind) (ks : Kinds) (o : Option Command) → IsAmong k ks → unless_refused ks o ≡ None
refused k [] o h = absurd h
refused k (x ∷ ks) o h = refl

-- words that have one
pub wanted_with_fault : (words : List Text) (e : Error) → HasKind (fault_of tool_app words) e → kind_of e ≢ kind.OutOfMemory
    → command_of words ≡ None
unfolding command_of
wanted_with_fault words e has other = elim has [
  | inl memory ↦ absurd (other memory)
  | inr among ↦ refused (kind_of e) (fault_of tool_app words) (option_and_then subcommand_asks (subcommand_of tool_app words)) among
]

alone : (j k : ErrorKind) → IsAmong j (k ∷ []) → j ≡ k
alone j k h = elim h [
  | inl is ↦ is
  | inr none ↦ absurd none
]

-- a fault that is no such answer
pub no_answer_with_fault : (k : ErrorKind) (words : List Text) (e : Error) → HasKind (fault_of tool_app words) e
    → kind_of e ≢ kind.OutOfMemory → kind_of e ≢ k
    → ¬ (fault_of tool_app words ≡ k ∷ [])
no_answer_with_fault k words e has other unlike is = elim has [
  | inl memory ↦ other memory
  | inr among ↦ unlike (alone (kind_of e) k (subst (λ (ks : Kinds). IsAmong (kind_of e) ks) is among))
]

-- and one that is
pub answer_with_fault : (k : ErrorKind) (words : List Text) (e : Error) → HasKind (fault_of tool_app words) e → kind_of e ≢ kind.OutOfMemory
    → kind_of e ≡ k
    → IsAmong k (fault_of tool_app words)
answer_with_fault k words e has other is = elim has [
  | inl memory ↦ absurd (other memory)
  | inr among ↦ subst (λ (j : ErrorKind). IsAmong j (fault_of tool_app words)) is among
]
