-- How commands end that the driver carries out, and those that call devices.
use Rattle.zed_files.specs.declared.refusal.Refusal.{Refusal}
use Rattle.std.proofs.Common.{◌≡◌, ◌∙◌, ℕ, Bool, true, false, List, [], ◌∷◌, Option, Some, None, Result, Ok, Err, ap, refl, inl, inr}
use Rattle.std.specs.Prelude.{⊤, ◌⊎◌, codes, if◌then◌else◌}
use Rattle.std.specs.Str.{bytes_eq}
use Rattle.zed_host.specs.HostContents.{HalfPrinted, HostContents, with_file, with_printed}
use Rattle.zed_driver.specs.declared.command.Stop.{Stop}
use Rattle.zed_driver.specs.declared.command.Stop.TheVariants as stop
use Rattle.zed_driver.specs.declared.input.Input.{Input}
use Rattle.zed_driver.specs.Driven.{Coming, Driven, Drives, EndsIn, some_lacks}
use Rattle.zed_driver.specs.Effects.{Effect, HalfDone, HalfText, after, output, with_text}
use Rattle.zed_driver.specs.Hosts.{Hosts}
use Rattle.zed_driver.specs.Reading.{Answer, Wanting, files_of}
use Rattle.zed_driver.proofs.Effects.{unnoted}
use Rattle.zed_refusal.specs.declared.reason.Reason.{Reason}
use Rattle.zed_files.specs.Effects as beside
use Rattle.zed_files.specs.Refusals.{stop_refusal}
use Rattle.zed_program.specs.Ends.{Carried, ComesBeside, ComesUnder, Ends, IsPlain, effect_of}
use Rattle.zed_program.proofs.Stops.{stop_is, stop_off}

-- ---- under the driver

abbrev pub ArePlain : Coming Reason → Type 0
ArePlain Comes = (files : List Input) (x : Effect) → Comes files (Ok x) → IsPlain x

abbrev pub TellsLacks : Coming Reason → Type 0
TellsLacks Comes = (rs : List Answer) → Comes (files_of rs) (Err stop.File) → some_lacks rs ≡ true

well_ends : (failed : Type 0) (t : HostContents) (Wants : Wanting) (Comes : Coming Reason) (status : ℕ) (new : Option HostContents) → ArePlain Comes
    → EndsIn failed t Wants Comes (Ok status) new → Ends failed (ComesUnder failed t Wants Comes) t (Ok tt) new
well_ends failed t Wants Comes status new plain is =
    let x = is.0 in
    let comes = is.1 in
    (x, (Ok x, comes, refl), unnoted failed x.note (after x t) new (plain (files_of comes.0) x comes.2).0 is.3)

-- it came to its effect
pub carried_well : {H : Type 0} (h : Hosts H) (Wants : Wanting) (Comes : Coming Reason) (status : ℕ) (old new : H) → ArePlain Comes
    → Drives h Wants Comes (Ok status) old new → Driven h Wants Comes (Ok status) old new → Carried h Wants Comes (Ok tt) old new
carried_well h Wants Comes status old new plain steps is = record {
  ends = λ t at. well_ends _ t Wants Comes status (h.contents new) plain (is.ends t at);
  asked = (let asked = is.asked in (Ok status, asked.0, asked.1, asked.2, refl));
  steps = (Ok status, steps, refl);
  failures = ((is.faults, is.failed), tt);
  err = tt;
}

not_ends : (failed : Type 0) (t : HostContents) (Wants : Wanting) (Comes : Coming Reason) (e : Stop Reason) (new : Option HostContents)
    → EndsIn failed t Wants Comes (Err e) new → Ends failed (ComesUnder failed t Wants Comes) t (Err (stop_refusal e)) new
not_ends failed t Wants Comes e new is = elim is [
  | inl kept ↦ (t, inl (refl, elim kept.1 [ inl lack ↦ inl (ap stop_refusal lack.0) | inr comes ↦ inr (Err e, comes, refl) ]), kept.0)
  | inr broke ↦ (
      let half = broke.2.2 in
      (half.0, inr (broke.0, ap stop_refusal broke.1, (broke.2.0, (Ok broke.2.0, broke.2.1, refl), half.1)), half.2))
]

-- it was refused, or the host failed at its effect
pub carried_not : {H : Type 0} (h : Hosts H) (Wants : Wanting) (Comes : Coming Reason) (e : Stop Reason) (old new : H) → TellsLacks Comes
    → Drives h Wants Comes (Err e) old new → Driven h Wants Comes (Err e) old new → Carried h Wants Comes (Err (stop_refusal e)) old new
carried_not h Wants Comes e old new lacks steps is = record {
  ends = λ t at. not_ends _ t Wants Comes e (h.contents new) (is.ends t at);
  asked = (let asked = is.asked in (Err e, asked.0, asked.1, asked.2, refl));
  steps = (Err e, steps, refl);
  failures = ((is.faults, is.failed), λ lost. is.file_only_when lacks (stop_is e lost));
  err = stop_off e;
}

-- what holds of a command where the host failed holds where it may have failed
pub under_so : (p q : Type 0) (t : HostContents) (Wants : Wanting) (Comes : Coming Reason) (r : Result Effect Refusal) → (p → q)
    → ComesUnder p t Wants Comes r → ComesUnder q t Wants Comes r
under_so p q t Wants Comes r so is =
    let comes = is.1 in
    let answers = comes.1 in
    (is.0, (comes.0, (answers.0, answers.1, λ fault. so (answers.2 fault)), comes.2), is.2)

-- ---- beside it

after_so : (x : beside.Effect) (t : HostContents) → beside.after x t ≡ after (effect_of x) t
after_so (beside.Writes out bytes line) t = go (bytes_eq out (codes "stdout"))
  where
    u : HostContents
    u = with_file out bytes t

    go : (b : Bool) → (if b then u else with_printed line u) ≡ with_text (if b then None else Some line) u
    go true = refl
    go false = refl
after_so (beside.Prints text) t = refl
after_so beside.Leaves t = refl

half_so : (x : beside.Effect) (t u : HostContents) → beside.HalfDone x t u → HalfDone (effect_of x) t u
half_so (beside.Writes out bytes line) t u is = elim is [
  | inl file ↦ inl ([], output out bytes, [], refl, file)
  | inr text ↦ inr (go (bytes_eq out (codes "stdout")) text.0 text.1)
]
  where
    go : (b : Bool) → b ≡ false → HalfPrinted line (with_file out bytes t) u → HalfText (if b then None else Some line) (with_file out bytes t) u
    go true lost half = absurd (let bad : true ≡ false = lost in cc)
    go false lost half = half
half_so (beside.Prints text) t u is = inr is
half_so beside.Leaves t u is = absurd is

-- a command that calls devices ends so, too
pub beside_ends : (failed : Type 0) (Comes : Result beside.Effect Refusal → Type 0) (t : HostContents) (result : Result ⊤ Refusal) (new : Option HostContents)
    → beside.Ends failed Comes t result new → Ends failed (ComesBeside Comes) t result new
beside_ends failed Comes t (Ok u) new is =
    (effect_of is.0, (Ok is.0, is.1, refl), is.2 ∙ ap (λ (u : HostContents). Some u) (after_so is.0 t))
beside_ends failed Comes t (Err e) new is = (
  is.0,
  elim is.1 [
    | inl before ↦ inl (before.0, elim before.1 [ inl memory ↦ inl memory | inr comes ↦ inr (Err e, comes, refl) ])
    | inr half ↦ (
        let broke = half.2 in
        inr (half.0, half.1, (effect_of broke.0, (Ok broke.0, broke.1, refl), half_so broke.0 t is.0 broke.2)))
  ],
  is.2,
)
