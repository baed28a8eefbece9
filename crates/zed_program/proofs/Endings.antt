-- How a run ends.
use Rattle.zed_host.specs.declared.host.WriteError.{WriteError}
use Rattle.zed_files.specs.declared.refusal.Refusal.{Refusal}
use Rattle.zed_files.specs.declared.refusal.Refusal.TheVariants.{File, Memory, TooManyTurns}
use Rattle.std.proofs.Common.{◌≡◌, ◌≤◌, ◌<◌, ◌∙◌, ℕ, List, length, sym, arith, Option, Some, None, Result, Ok, Err, OnErr, OnOk, ap, is_err, refl, subst, inl, inr}
use Rattle.std.specs.Prelude.{⊤, ◌⊎◌, Bool, IfSome}
use Rattle.zed_words.specs.declared.words.ParseError.{ParseError}
use Rattle.zed_words.specs.declared.words.ParseError.TheVariants as parse
use Rattle.zed_program.specs.Devices.{Devices}
use Rattle.zed_program.specs.Limit.{limit_of}
use Rattle.zed_words.specs.Commands.{Command, IsRefusedAloud, Save, Check, New, Edit as EditFile, Merge, Show, Play}
use Rattle.zed_host.specs.Counting.{Counts, NothingFailed, Rose}
use Rattle.zed_host.specs.HostContents.{HalfComplained, HostContents, StillTells, with_complaint}
use Rattle.zed_files.specs.Lines.{line_of}
use Rattle.zed_host.proofs.Counts.{no_rise}
use Rattle.zed_files.proofs.Failures.{memory_is_other}
use Rattle.zed_program.specs.Outcome.{ComesTo, EndsCalmly, EndsRun, HasLacked, HasStatus, HasTurned, IsComplained, IsTold, RefusedRun, SaysWhy}
use Rattle.zed_driver.specs.Effects.{Effect}
use Rattle.zed_files.specs.Effects as beside
use Rattle.zed_program.specs.Ends.{ComesBeside, Ends, IsRefused, as_effect}
use Rattle.zed_program.specs.Under.{ComesOf, WantsOf}
use Rattle.zed_session.specs.Links.{LinkSeen}
use Rattle.zed_op.specs.declared.op.Edit.{Edit}
use Rattle.zed_program.specs.Merged.{ComesToMerge, IsMerged, LacksForMerge, MadeMostReads}
use Rattle.cmd_show.specs.Shown.{CallsOnce, ComesToPlay, ComesToShow, EndsPlaying, LacksForPlay}
use Rattle.cmd_show.specs.Stage.{Stage}
use Rattle.zed_program.proofs.MergedOthers.{merged_turns}
use Rattle.cmd_show.proofs.Endings.{show_so, play_so}
use Rattle.zed_program.proofs.Under.{beside_ends, under_so}

-- what holds of a command where the host failed holds where it may have failed
pub comes_so : (old new : Devices) (p q : Type 0) (command : Command) (t : HostContents) (r : Result Effect Refusal) → (p → q)
    → ComesTo p old new command t r
    → ComesTo q old new command t r
comes_so old new p q (Save profile out files) t r so is =
    under_so p q t (WantsOf (Save profile out files)) (ComesOf (Save profile out files)) r so is
comes_so old new p q (Check profile files) t r so is =
    under_so p q t (WantsOf (Check profile files)) (ComesOf (Check profile files)) r so is
comes_so old new p q (New out world from name) t r so is =
    under_so p q t (WantsOf (New out world from name)) (ComesOf (New out world from name)) r so is
comes_so old new p q (EditFile file replica words) t r so is =
    under_so p q t (WantsOf (EditFile file replica words)) (ComesOf (EditFile file replica words)) r so is
comes_so old new p q (Merge out world files) t r so is = is
comes_so old new p q (Show profile board files) t r so is =
    (is.0, show_so old.stage new.stage t (limit_of profile) board files p q is.0 so is.1, is.2)
comes_so old new p q (Play profile board chance files) t r so is =
    (is.0, play_so old.stage new.stage t (limit_of profile) board chance files p q is.0 so is.1, is.2)

-- a text was written to the standard error, or the host failed at it
pub complained : (result : Result ⊤ WriteError) (old new : ℕ) (text : List ℕ) (t : HostContents) (before after : Option HostContents)
    → before ≡ Some t
    → OnOk result (after ≡ Some (with_complaint text t)) → OnErr result (IfSome before (λ t. StillTells (HalfComplained text t) after))
    → Counts (is_err result) old new → IsComplained (Rose old new) text t after
complained (Ok u) old new text t before after at told half count = inl told
complained (Err e) old new text t before after at told half count = inr (count, rw at at half)

-- a merge that was refused for too many turns
merge_turned : (links after : List LinkSeen) (out : List ℕ) (world count : ℕ) (e : Refusal)
    → ComesToMerge links after out world count (Err e) → e ≡ TooManyTurns
    → MadeMostReads links after
merge_turned links after out world count e (Ok es, merged, is) turns = absurd (cc)
merge_turned links after out world count e (Err f, merged, is) turns = let same : f ≡ e = cc in merged_turns world count links after f merged (same ∙ turns)

-- the refusal of a command that calls devices
refused_beside : (Comes : Result beside.Effect Refusal → Type 0) (e : Refusal) (q : Result beside.Effect Refusal) → Err e ≡ as_effect q → Comes q
    → Comes (Err e)
refused_beside Comes e (Ok x) is comes = absurd (cc)
refused_beside Comes e (Err f) is comes = let same : f ≡ e = cc in subst (λ e. Comes (Err e)) same comes

-- where too many turns are told, they were made
has_turned : (old new : Devices) (command : Command) (failed : Type 0) (t u : HostContents) (e : Refusal)
    → IsRefused failed (ComesTo failed old new command t) t e u → e ≡ TooManyTurns → HasTurned old new command
has_turned old new (Merge out world files) failed t u e refused is =
    elim refused [
      | inl before ↦ elim before.1 [
        | inl memory ↦ absurd (cc)
        | inr comes ↦ merge_turned old.links new.links out world (length files) e (refused_beside (ComesToMerge old.links new.links out world (length files)) e comes.0 comes.2 comes.1) is
      ]
      | inr failed ↦ absurd (let file = failed.1 in cc)
    ]
has_turned old new (Save profile out files) failed t u e refused is = tt
has_turned old new (Check profile files) failed t u e refused is = tt
has_turned old new (New out world from name) failed t u e refused is = tt
has_turned old new (EditFile file replica words) failed t u e refused is = tt
has_turned old new (Show profile board files) failed t u e refused is = tt
has_turned old new (Play profile board chance files) failed t u e refused is = tt

-- a refusal, and then its line
pub refused_run : (before after : Devices) (command : Command) (t u : HostContents) (e : Refusal) (old middle now : ℕ) (counted : Type 0) (new : Option HostContents)
    → old ≤ middle → middle ≤ now
    → IsRefused (Rose old middle) (ComesTo (Rose old middle) before after command t) t e u → IsTold (Rose middle now) e u new
    → (e ≡ File → counted)
    → (e ≡ Memory → HasLacked (Rose old middle) before after command t) → EndsRun before after (Some command) t old now counted 1 new
refused_run before after command t u e old middle now counted new up more refused told file lacked =
    inr (
      refl,
      record {
        refusal = e;
        left = u;
        middle = middle;
        refused = refused;
        told = told;
        rises = (up, more);
        file_only_when = file;
        turns_only_when = λ is. has_turned before after command (Rose old middle) t u e refused is;
        memory_only_when = lacked;
      },
    )

-- no device was called
lacks_idle : (failed : Type 0) (before : Devices) (command : Command) (t : HostContents) → HasLacked failed before before command t
lacks_idle failed before (Save profile out files) t = tt
lacks_idle failed before (Check profile files) t = tt
lacks_idle failed before (New out world from name) t = tt
lacks_idle failed before (EditFile file replica words) t = tt
lacks_idle failed before (Merge out world files) t = inl refl
lacks_idle failed before (Show profile board files) t = refl
lacks_idle failed before (Play profile board chance files) t = inl refl

-- want of memory, whatever was asked for
pub memory_run : (before : Devices) (command : Option Command) (t : HostContents) (old now : ℕ) (counted : Type 0) (new : Option HostContents)
    → old ≤ now
    → IsComplained (Rose old now) (line_of Memory) t new → EndsRun before before command t old now counted 1 new
memory_run before None t old now counted new up told = (line_of Memory, inr (refl, refl), told)
memory_run before (Some command) t old now counted new up told =
    inr (
      refl,
      record {
        refusal = Memory;
        left = t;
        middle = old;
        refused = inl (refl, inl refl);
        told = told;
        rises = (omega arith, up);
        file_only_when = λ is. absurd (memory_is_other Memory refl is);
        turns_only_when = λ is. absurd (cc);
        memory_only_when = λ is. lacks_idle (Rose old old) before command t;
      },
    )

-- words that ask for nothing, or for which memory was lacking
pub words_run : (before : Devices) (command : Option Command) (error : ParseError) (t : HostContents) (old now : ℕ) (counted : Type 0) (status : ℕ) (text : List ℕ) (new : Option HostContents)
    → old ≤ now
    → (error ≡ parse.Memory) ⊎ ((command ≡ None) × IsRefusedAloud error) → SaysWhy error status text
    → IsComplained (Rose old now) text t new
    → EndsRun before before command t old now counted status new
words_run before command parse.Memory t old now counted status text new up why says told =
    let Says : List ℕ → Type 0 = λ line. IsComplained (Rose old now) line t new in
    subst (λ n. EndsRun before before command t old now counted n new) (sym says.0) (memory_run before command t old now counted new up (subst Says says.1 told))
words_run before command (parse.Refused s) t old now counted status text new up why says told = elim why [
  | inl memory ↦ absurd (cc)
  | inr none ↦
      let some : 0 < length text = subst (λ (x : List ℕ). 0 < length x) (sym says.1) none.1 in
      subst (λ c. EndsRun before before c t old now counted status new) (sym none.0) (text, inl (says.0, some), told)
]

told_calmly : (old now : ℕ) (text : List ℕ) (t : HostContents) (new : Option HostContents) → NothingFailed old now
    → IsComplained (Rose old now) text t new
    → new ≡ Some (with_complaint text t)
told_calmly old now text t new calm told = elim told [ inl is ↦ is | inr failed ↦ absurd (no_rise old now now (omega arith) calm failed.0) ]

refused_calmly : (before after : Devices) (command : Command) (t : HostContents) (old now : ℕ) (counted : Type 0) (new : Option HostContents)
    → NothingFailed old now → RefusedRun before after command t old now counted new
    → EndsCalmly before after command t 1 new
refused_calmly before after command t old now counted new calm run =
    let first = run.rises.0 in
    let second = run.rises.1 in
    let same = calm.0 in
    let low = calm.1 in
    let later : NothingFailed run.middle now = (omega arith, omega arith) in
    let never : Rose old run.middle → ⊥ = no_rise old run.middle now second calm in
    let line : List ℕ = line_of run.refusal in
    let told = told_calmly run.middle now line run.left new later run.told in
    elim run.refused [
      | inr failed ↦ absurd (never failed.0)
      | inl left ↦ (
          let at : new ≡ Some (with_complaint line t) = told ∙ ap (λ u. Some (with_complaint line u)) left.0 in
          elim left.1 [
            | inl memory ↦ inr (refl, at ∙ ap (λ e. Some (with_complaint (line_of e) t)) memory)
            | inr comes ↦ inl (Err run.refusal, comes_so before after (Rose old run.middle) ⊥ command t (Err run.refusal) never comes, (refl, at))
          ])
    ]

pub run_calmly : (before after : Devices) (command : Command) (t : HostContents) (old now : ℕ) (counted : Type 0) (status : ℕ) (new : Option HostContents)
    → NothingFailed old now
    → EndsRun before after (Some command) t old now counted status new → EndsCalmly before after command t status new
run_calmly before after command t old now counted status new calm run =
    elim run [
      | inl done ↦ inl (Ok done.0, comes_so before after (Rose old now) ⊥ command t (Ok done.0) (no_rise old now now (omega arith) calm) done.1, (done.2, done.3))
      | inr refused ↦ elim (refused_calmly before after command t old now counted new calm refused.1) [
        | inl done ↦ inl (done.0, done.1, with_status done.0 refused.0 done.2)
        | inr memory ↦ inr (refused.0, memory.1)
      ]
    ]
  where
    with_status : (r : Result Effect Refusal) → status ≡ 1 → HasStatus r t 1 new → HasStatus r t status new
    with_status (Ok x) is has = (is ∙ has.0, has.1)
    with_status (Err e) is has = (is ∙ has.0, has.1)

-- ---- what is passed on to a command

-- so many links
pub merge_as : (failed : Type 0) (links after : List LinkSeen) (out : List ℕ) (world count many : ℕ) (t : HostContents) (result : Result ⊤ Refusal) (new : Option HostContents)
    → count ≡ many
    → beside.Ends failed (ComesToMerge links after out world count) t result new
    → Ends failed (ComesBeside (ComesToMerge links after out world many)) t result new
merge_as failed links after out world count many t result new same ends =
    beside_ends failed (ComesToMerge links after out world many) t result new
    (subst (λ n. beside.Ends failed (ComesToMerge links after out world n) t result new) same ends)

pub pulls_as : (world count many : ℕ) (links after : List LinkSeen) → count ≡ many
    → (r : Result (List Edit) Refusal) × IsMerged world count links after r
    → (r : Result (List Edit) Refusal) × IsMerged world many links after r
pulls_as world count many links after same pulls = subst (λ n. (r : Result (List Edit) Refusal) × IsMerged world n links after r) same pulls

pub lacks_as : (world count many : ℕ) (links after : List LinkSeen) → count ≡ many → LacksForMerge links after world count
    → (after ≡ links) ⊎ LacksForMerge links after world many
lacks_as world count many links after same lacks = inr (subst (LacksForMerge links after world) same lacks)

-- this limit, and these files
pub show_as : (failed : Type 0) (old after : Stage) (given limit board : ℕ) (names files : List (List ℕ)) (t : HostContents) (result : Result ⊤ Refusal) (new : Option HostContents)
    → given ≡ limit → names ≡ files
    → beside.Ends failed (ComesToShow failed old after t given board names) t result new
    → Ends failed (ComesBeside (ComesToShow failed old after t limit board files)) t result new
show_as failed old after given limit board names files t result new is same ends =
    beside_ends failed (ComesToShow failed old after t limit board files) t result new
    (subst (λ n. beside.Ends failed (ComesToShow failed old after t n board files) t result new) is
    (subst (λ ns. beside.Ends failed (ComesToShow failed old after t given board ns) t result new) same ends))

pub play_as : (failed : Type 0) (old after : Stage) (given limit board : ℕ) (chance : List ℕ) (names files : List (List ℕ)) (t : HostContents) (result : Result ⊤ Refusal) (new : Option HostContents)
    → given ≡ limit → names ≡ files
    → EndsPlaying failed old after t given board chance names result new
    → Ends failed (ComesBeside (ComesToPlay failed old after t limit board chance files)) t result new
    × (result ≡ Err Memory → LacksForPlay failed old after t limit board chance files)
play_as failed old after given limit board chance names files t result new is same ends =
    let all : EndsPlaying failed old after t limit board chance files result new =
    subst (λ n. EndsPlaying failed old after t n board chance files result new) is
    (subst (λ ns. EndsPlaying failed old after t given board chance ns result new) same ends) in
    (beside_ends failed (ComesToPlay failed old after t limit board chance files) t result new all.0, all.1)

-- memory was lacking for a board that was to be shown
pub show_lacks : {S : Type 0} (look : S → Stage) (result : Result ⊤ Refusal) (old new : S) (before after : Option (List Bool))
    → CallsOnce result before after (new ≡ old)
    → result ≡ Err Memory → look new ≡ look old
show_lacks look (Ok u) old new before after once is = absurd (cc)
show_lacks look (Err e) old new before after why is = elim why [ inl fault ↦ absurd (let no = fault.0 in cc) | inr stays ↦ ap look stays ]
