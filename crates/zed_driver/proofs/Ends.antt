-- What a command comes to that a driver carries out.
use Rattle.std.proofs.Common.{◌≡◌, ◌∙◌, ◌≤◌, ◌||◌, ℕ, Bool, true, false, List, [], ◌∷◌, ◌++◌, append_assoc, Option, Some, Result, Ok, Err, ap, arith, refl, subst, sym, inl, inr}
use Rattle.std.specs.Prelude.{IfSome, is_some}
use Rattle.zed_host.specs.Calls.{Call, Leads, Reading, call, passed}
use Rattle.zed_host.specs.Counting.{Counts, NothingFailed, Rose}
use Rattle.zed_host.specs.HostContents.{HostContents, StillTells, file_in}
use Rattle.zed_host.proofs.Calls.{leads_one, leads_then}
use Rattle.zed_host.proofs.Counts.{counted_up, no_rise, rose_before, rose_later}
use Rattle.zed_driver.specs.declared.command.Stop.{Stop}
use Rattle.zed_driver.specs.declared.command.Stop.TheVariants.{Memory, File}
use Rattle.zed_driver.specs.Driven.{AreAnswers, AreHeld, ComesIn, Coming, Driven, Drives, Ends, EndsIn, LacksIn, some_fails, some_lacks}
use Rattle.zed_driver.specs.Effects.{Effect, HalfDone, after, asks_of, noting}
use Rattle.zed_driver.specs.Hosts.{Hosts}
use Rattle.zed_driver.specs.Reading.{Answer, AsksEach, ReadEach, Wanting, calls_of, files_of}
use Rattle.zed_driver.specs.Reads.{IsHeld, LacksMemory, fails, lacks}
use Rattle.zed_driver.proofs.Effects.{WasBroken, WasDone, noted_so, was_broken, was_done}

-- ---- the reads

record WereRead {H : Type 0} (h : Hosts H) (rs : List Answer) (old new : H) : Type 0 where
  pub held : (t : HostContents) → h.contents old ≡ Some t → AreHeld t rs
  pub kept : h.contents new ≡ h.contents old
  pub asked : Leads h.called (calls_of rs) old new
  pub failed : Counts (some_lacks rs) (h.failed old) (h.failed new)
  pub faults : Counts (some_fails rs) (h.faults old) (h.faults new)

held_at : (o : Option HostContents) (P : HostContents → Type 0) (t : HostContents) → o ≡ Some t → IfSome o P → P t
held_at o P t is some = subst (λ o. IfSome o P) is some

counts_then : (a b : Bool) (old mid new : ℕ) → Counts a old mid → Counts b mid new → Counts (a || b) old new
counts_then true b old mid new first second = rose_before old mid new (counted_up b mid new second) first
counts_then false true old mid new first second = subst (λ m. Rose m new) first second
counts_then false false old mid new first second = second ∙ first

leads_more : {H : Type 0} (h : Hosts H) (c : Call) (cs : List Call) (old mid new : H) → h.called old c mid → Leads h.called cs mid new
    → Leads h.called (c ∷ cs) old new
leads_more h c cs old mid new first rest = leads_then h.called (c ∷ []) cs old mid new (leads_one h.called c old mid first) rest

were_read : {H : Type 0} (h : Hosts H) (rs : List Answer) (old new : H) → ReadEach h rs old new → WereRead h rs old new
were_read h [] old new is =
    subst (λ at. WereRead h [] old at) (sym is) (record { held = λ t at. tt; kept = refl; asked = refl; failed = refl; faults = refl })
were_read h (r ∷ rs) old new is =
    let rest = were_read h rs is.0 new is.2 in
    record {
      held = λ t at. (held_at (h.contents old) (λ t. IsHeld t r.name r.file) t at is.1.held, rest.held t (is.1.kept ∙ at));
      kept = rest.kept ∙ is.1.kept;
      asked = leads_more h (call (Reading r.name) (lacks r.file)) (calls_of rs) old is.0 new is.1.asked rest.asked;
      failed = counts_then (lacks r.file) (some_lacks rs) _ _ _ is.1.failed rest.failed;
      faults = counts_then (fails r.file) (some_fails rs) _ _ _ is.1.faults rest.faults;
    }

-- the files that it asked for, as the host answered them; a fault of one of them is one of the command
answers_so : {H : Type 0} (h : Hosts H) (Wants : Wanting) (rs : List Answer) (old mid new : H) (t : HostContents)
    → h.contents old ≡ Some t → AsksEach Wants [] rs → WereRead h rs old mid → h.faults mid ≤ h.faults new
    → AreAnswers (Rose (h.faults old) (h.faults new)) t Wants rs
answers_so h Wants rs old mid new t at asks read up =
    (asks, read.held t at, λ fault. rose_before _ _ _ up (subst (λ b. Counts b (h.faults old) (h.faults mid)) fault read.faults))

-- ---- the end of a command

starved : {H E : Type 0} (h : Hosts H) (Wants : Wanting) (Comes : Coming E) (e : Stop E) (rs : List Answer) (name : List ℕ) (old mid new : H)
    → e ≡ Memory → AsksEach Wants [] rs → WereRead h rs old mid → Wants (files_of rs) name → LacksMemory h name mid new
    → Driven h Wants Comes (Err e) old new
starved h Wants Comes e rs name old mid new is asks read wants lack =
    let f = counted_up (some_fails rs) _ _ read.faults in
    let n = counted_up (some_lacks rs) _ _ read.failed in
    let up : h.faults mid ≤ h.faults new = omega (arith, lack.faults) in
    record {
      ends = λ t at. inl (
        lack.kept ∙ read.kept ∙ at,
        inl (
          is,
          (
            rs,
            answers_so h Wants rs old mid new t at asks read up,
            (name, wants, held_at (h.contents mid) (λ t. is_some (file_in t name) ≡ true) t (read.kept ∙ at) lack.there),
          ),
        ),
      );
      asked = (
        calls_of rs ++ call (Reading name) false ∷ [],
        leads_then h.called (calls_of rs) (call (Reading name) false ∷ []) old mid new read.asked (leads_one h.called (call (Reading name) false) mid new lack.asked),
        inl (is, (rs, name, asks, wants, refl)),
      );
      faults = omega (arith, f, lack.faults);
      failed = omega (arith, n, lack.failed);
      file_only_when = λ only lost. absurd (let no : Memory ≡ File = sym is ∙ lost in cc);
    }

refused : {H E : Type 0} (h : Hosts H) (Wants : Wanting) (Comes : Coming E) (e : Stop E) (rs : List Answer) (old new : H)
    → AsksEach Wants [] rs → WereRead h rs old new → Comes (files_of rs) (Err e)
    → Driven h Wants Comes (Err e) old new
refused h Wants Comes e rs old new asks read comes =
    let f = counted_up (some_fails rs) _ _ read.faults in
    let n = counted_up (some_lacks rs) _ _ read.failed in
    let same : h.faults new ≤ h.faults new = omega arith in
    record {
      ends = λ t at. inl (read.kept ∙ at, inr (rs, answers_so h Wants rs old new new t at asks read same, comes));
      asked = (calls_of rs, read.asked, inr (inl (rs, asks, comes, refl)));
      faults = f;
      failed = n;
      file_only_when = λ only lost. subst (λ b. Counts b (h.failed old) (h.failed new)) (only rs (subst (λ e. Comes (files_of rs) (Err e)) lost comes)) read.failed;
    }

done : {H E : Type 0} (h : Hosts H) (Wants : Wanting) (Comes : Coming E) (status : ℕ) (x : Effect) (rs : List Answer) (old mid new : H)
    → AsksEach Wants [] rs → WereRead h rs old mid → Comes (files_of rs) (Ok x) → status ≡ x.status → WasDone h x mid new
    → Driven h Wants Comes (Ok status) old new
done h Wants Comes status x rs old mid new asks read comes is did =
    let f = counted_up (some_fails rs) _ _ read.faults in
    let n = counted_up (some_lacks rs) _ _ read.failed in
    let asked = passed (asks_of x) in
    let told = noting did.told x.note in
    record {
      ends = λ t at.
          let there = did.left t (read.kept ∙ at) in (
            x,
            (rs, answers_so h Wants rs old mid new t at asks read did.faults, comes),
            is,
            (there.0, noted_so x.note (after x t) there.0 (λ rose. rose_later _ _ _ f rose) there.1, there.2),
          );
      asked = (
        calls_of rs ++ (asked ++ told),
        leads_then h.called (calls_of rs) (asked ++ told) old mid new read.asked did.asked,
        (rs, x, did.told, asks, comes, is, sym (append_assoc (calls_of rs) asked told)),
      );
      faults = omega (arith, f, did.faults);
      failed = omega (arith, n, did.failed);
      file_only_when = λ only. tt;
    }

broken : {H E : Type 0} (h : Hosts H) (Wants : Wanting) (Comes : Coming E) (e : Stop E) (x : Effect) (rs : List Answer) (old mid new : H)
    → AsksEach Wants [] rs → WereRead h rs old mid → Comes (files_of rs) (Ok x) → e ≡ File → WasBroken h (HalfDone x) (asks_of x) mid new
    → Driven h Wants Comes (Err e) old new
broken h Wants Comes e x rs old mid new asks read comes is broke =
    let f = counted_up (some_fails rs) _ _ read.faults in
    let n = counted_up (some_lacks rs) _ _ read.failed in
    let g = counted_up true _ _ broke.faults in
    let m = counted_up true _ _ broke.failed in
    let cut = broke.cut in
    record {
      ends = λ t at. inr (
        rose_later _ _ _ f broke.faults,
        is,
        (
          x,
          (rs, answers_so h Wants rs old mid new t at asks read g, comes),
          held_at (h.contents mid) (λ t. StillTells (HalfDone x t) (h.contents new)) t (read.kept ∙ at) broke.half,
        ),
      );
      asked = (
        calls_of rs ++ broke.calls,
        leads_then h.called (calls_of rs) broke.calls old mid new read.asked broke.asked,
        inr (inr (is, (rs, x, cut.0, cut.1, cut.2, asks, comes, cut.3, ap (λ calls. calls_of rs ++ calls) cut.4))),
      );
      faults = omega (arith, f, g);
      failed = omega (arith, n, m);
      file_only_when = λ only lost. rose_later _ _ _ n broke.failed;
    }

ended : {H E : Type 0} (h : Hosts H) (Wants : Wanting) (Comes : Coming E) (answer : Result ℕ (Stop E)) (rs : List Answer) (old mid new : H)
    → AsksEach Wants [] rs → WereRead h rs old mid → Ends h Wants Comes answer new (files_of rs) mid
    → Driven h Wants Comes answer old new
ended h Wants Comes (Ok status) rs old mid new asks read is =
    done h Wants Comes status is.0 rs old mid new asks read is.1 is.2 (was_done h is.0 mid new is.3)
ended h Wants Comes (Err e) rs old mid new asks read is = elim is [
  | inl stop ↦ elim stop [
    | inl lack ↦ starved h Wants Comes e rs lack.1.0 old mid new lack.0 asks read lack.1.1 lack.1.2
    | inr says ↦ subst (λ at. Driven h Wants Comes (Err e) old at) (sym says.0) (refused h Wants Comes e rs old mid asks read says.1)
  ]
  | inr broke ↦ broken h Wants Comes e broke.1.0 rs old mid new asks read broke.1.1 broke.0 (was_broken h broke.1.0 mid new broke.1.2)
]

pub driven : {H E : Type 0} (h : Hosts H) (Wants : Wanting) (Comes : Coming E) (answer : Result ℕ (Stop E)) (old new : H)
    → Drives h Wants Comes answer old new → Driven h Wants Comes answer old new
driven h Wants Comes answer old new is = ended h Wants Comes answer is.0 old is.1 new is.3 (were_read h is.0 old is.1 is.2) is.4

-- ---- where nothing failed

answers_if : {P Q : Type 0} (t : HostContents) (Wants : Wanting) (rs : List Answer) → (P → Q) → AreAnswers P t Wants rs → AreAnswers Q t Wants rs
answers_if t Wants rs so is = (is.0, is.1, λ fault. so (is.2 fault))

comes_if : {P Q E : Type 0} (t : HostContents) (Wants : Wanting) (Comes : Coming E) (r : Result Effect (Stop E)) → (P → Q)
    → ComesIn P t Wants Comes r → ComesIn Q t Wants Comes r
comes_if t Wants Comes r so is = (is.0, answers_if t Wants is.0 so is.1, is.2)

lacks_if : {P Q : Type 0} (t : HostContents) (Wants : Wanting) → (P → Q) → LacksIn P t Wants → LacksIn Q t Wants
lacks_if t Wants so is = (is.0, answers_if t Wants is.0 so is.1, is.2)

-- a command ends so, too, where a device failed only if another did
pub ends_if : {P Q E : Type 0} (t : HostContents) (Wants : Wanting) (Comes : Coming E) (answer : Result ℕ (Stop E)) (new : Option HostContents) → (P → Q)
    → EndsIn P t Wants Comes answer new → EndsIn Q t Wants Comes answer new
ends_if t Wants Comes (Ok status) new so is =
    let there = is.3 in
    (is.0, comes_if t Wants Comes (Ok is.0) so is.1, is.2, (there.0, noted_so is.0.note (after is.0 t) there.0 so there.1, there.2))
ends_if t Wants Comes (Err e) new so is = elim is [
  | inl kept ↦ inl (
    kept.0,
    elim kept.1 [
      | inl lack ↦ inl (lack.0, lacks_if t Wants so lack.1)
      | inr says ↦ inr (comes_if t Wants Comes (Err e) so says)
    ],
  )
  | inr broke ↦ (let it = broke.2 in inr (so broke.0, broke.1, (it.0, comes_if t Wants Comes (Ok it.0) so it.1, it.2)))
]

-- where no device failed, each file is as the host holds it, and what the command came to is there whole
pub ends_calmly : {H E : Type 0} (h : Hosts H) (Wants : Wanting) (Comes : Coming E) (answer : Result ℕ (Stop E)) (t : HostContents) (old new : H)
    → h.contents old ≡ Some t → NothingFailed (h.faults old) (h.faults new) → Driven h Wants Comes answer old new
    → EndsIn ⊥ t Wants Comes answer (h.contents new)
ends_calmly h Wants Comes answer t old new at calm is =
    let same : h.faults new ≤ h.faults new = omega arith in
    ends_if t Wants Comes answer (h.contents new) (λ rose. no_rise (h.faults old) (h.faults new) (h.faults new) same calm rose) (is.ends t at)
