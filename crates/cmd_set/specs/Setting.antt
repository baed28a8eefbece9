-- What a wish makes of an edit file.
use Rattle.std.specs.Prelude.{◌≡◌, false, ℕ, zero, suc, List, Option, Some, None, Result, Ok, Err}
use Rattle.zed_op.specs.declared.cause.Cause.TheVariants as cause
use Rattle.zed_op.specs.declared.op.Edit.{Edit}
use Rattle.zed_document.specs.Replica.{Replica}
use Rattle.zed_action.specs.declared.error.ActionError.{ActionError}
use Rattle.zed_action.specs.Deeds.{Made}
use Rattle.zed_driver.specs.declared.command.Stop.{Stop}
use Rattle.zed_driver.specs.declared.input.Input.{Input}
use Rattle.zed_driver.specs.Effects.{Effect}
use Rattle.zed_refusal.specs.declared.reason.Reason.TheVariants.{BadEdit}
use Rattle.zed_refusal.specs.Stops.{action_stop, stop_as}
use Rattle.zed_files.specs.Opened.{FileEdits}
use Rattle.zed_files.specs.Rewrites.{RewritesCome, RewritesWant}
use Rattle.zed_set_words.specs.declared.bad.BadWord.{BadWord as WrongWord}
use Rattle.zed_set_words.specs.declared.wishes.Wish.{Wish}
use Rattle.zed_set_words.specs.Rows.{wish_of}
use Rattle.cmd_set.specs.Granting.{Sets, WishMayTake}
use Rattle.cmd_set.specs.declared.reason.SetReason.{SetReason}
use Rattle.cmd_set.specs.declared.reason.SetReason.TheVariants.{BadWord, Common}

-- why the command stops at an action
abbrev pub set_stop : ActionError → Stop SetReason
set_stop e = stop_as Common (action_stop e)

-- why it is refused before its file is read: the first wrong word, whatever else is wrong; then 0, which is no author's number
abbrev pub first_refusal : ℕ → Result Wish WrongWord → Option SetReason
first_refusal replica (Err bad) = Some (BadWord bad)
first_refusal zero (Ok w) = Some (Common (BadEdit cause.Stamp))
first_refusal (suc n) (Ok w) = None

-- the edits that a wish left, or why it is refused
abbrev pub wished : Made → Result (List Edit) (Stop SetReason)
wished (Ok es) = Ok es
wished (Err e) = Err (set_stop e)

-- a document that isn't stale has this world and these edits
abbrev pub IsOfFile : Replica → FileEdits → Type 0
IsOfFile d f = (d.world ≡ f.0) × (d.edits ≡ f.1) × (d.is_stale ≡ false)

-- a wish by a replica is done on a document of these edits
abbrev pub IsDone : ℕ → Wish → FileEdits → Result (List Edit) (Stop SetReason) → Type 0
IsDone replica w f r = (d : Replica) × IsOfFile d f × ((made : Made) × Sets d replica w made × (r ≡ wished made))

-- it may take memory on such a document
abbrev pub MayTakeOn : ℕ → Wish → FileEdits → Type 0
MayTakeOn replica w f = (d : Replica) × IsOfFile d f × WishMayTake d replica w

-- the same of what the words wish, if they wish something
abbrev pub DoesWish : ℕ → Result Wish WrongWord → FileEdits → Result (List Edit) (Stop SetReason) → Type 0
DoesWish replica (Ok w) f r = IsDone replica w f r
DoesWish replica (Err bad) f r = ⊥

-- and of where that may take memory
abbrev pub MayTakeFor : ℕ → Result Wish WrongWord → FileEdits → Type 0
MayTakeFor replica (Ok w) f = MayTakeOn replica w f
MayTakeFor replica (Err bad) f = ⊥

-- ---- what the command asks for and comes to

-- FILE, unless it is refused before
abbrev pub SetWants : List ℕ → ℕ → List (List ℕ) → List Input → List ℕ → Type 0
SetWants file replica words files wanted = RewritesWant (first_refusal replica (wish_of words)) file files wanted

-- FILE is written again with what the wish comes to, and its edits are counted; or the first refusal
abbrev pub SetComes : List ℕ → ℕ → List (List ℕ) → List Input → Result Effect (Stop SetReason) → Type 0
SetComes file replica words files r =
    RewritesCome (first_refusal replica (wish_of words)) (MayTakeFor replica (wish_of words)) (DoesWish replica (wish_of words)) Common file files r
