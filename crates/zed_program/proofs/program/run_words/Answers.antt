use Rattle.std.proofs.Common.{map, string_bytes}
use Rattle.zed_files.specs.Refusals.{is_of_keys, is_of_screen}
use Rattle.zed_words.specs.Commands.{meaning_of, command_of}
use Rattle.zed_host.proofs.Counts.{rose_before}
use Rattle.zed_program.proofs.Endings.{refused_run, words_run}
use Rattle.std.proofs.Common.{◌≡◌, Err, ap, inl, inr, refl}
use Rattle.zed_program.proofs.Asked.{words_ask, words_steps}
use Rattle.zed_program.proofs.Called.{none_called_for, status_for}
use Rattle.zed_program.proofs.Faults.{words_told}
use Rattle.zed_driver.specs.Hosts.{hosts}
use Rattle.zed_program.proofs.program.run_words.Goals as goal

pub returns-in-Ok-clause-ends : goal.returns-in-Ok-clause-ends
returns-in-Ok-clause-ends g c = λ t at.
    let ended = (c.in-Err-act.ensures.ends t at).0 in
    let lacks = (c.in-Err-act.ensures.ends t at).1 in
    rw c.in-Ok.ensures (refused_run _ _ (meaning_of c.in-Ok.command) t ended.0 c.in-Err-act.refusal _ _ _ _ _ c.in-Err-act.ensures.failures.0.0 c.complain_of.ensures.failures.0
    ended.1 (c.complain_of.ensures.told ended.0 ended.2)
    (λ is. rose_before _ _ _ c.complain_of.ensures.failures.1 (c.in-Err-act.ensures.failures.1 is)) (λ is. lacks (ap (λ e. Err e) is)))

pub returns-in-Ok-act-clause-ends : goal.returns-in-Ok-act-clause-ends
returns-in-Ok-act-clause-ends g c = λ t at.
    let done = (c.in-Ok-act.ensures.ends t at).0 in
    rw c.in-Ok.ensures (inl (done.0, done.1, refl, done.2))

pub returns-in-Ok-clause-asked : goal.returns-in-Ok-clause-asked
returns-in-Ok-clause-asked g c =
    rw c.in-Ok.ensures (inr (inl (refl, (c.in-Err-act.refusal, _, c.in-Err-act.ensures.asked, c.complain_of.ensures.asked))))

-- step by step
pub returns-in-Ok-act-clause-steps : goal.returns-in-Ok-act-clause-steps
returns-in-Ok-act-clause-steps g c = rw c.in-Ok.ensures (inl (refl, c.in-Ok-act.ensures.steps))

pub returns-in-Ok-clause-steps : goal.returns-in-Ok-clause-steps
returns-in-Ok-clause-steps g c =
    rw c.in-Ok.ensures (inr (inl (refl, (c.in-Err-act.refusal, _, c.in-Err-act.ensures.steps, c.complain_of.ensures.asked))))

-- which devices were called
pub returns-in-Ok-act-clause-devices : goal.returns-in-Ok-act-clause-devices
returns-in-Ok-act-clause-devices g c = rw c.in-Ok.ensures c.in-Ok-act.ensures.devices

pub returns-in-Ok-clause-devices : goal.returns-in-Ok-clause-devices
returns-in-Ok-clause-devices g c = rw c.in-Ok.ensures c.in-Err-act.ensures.devices

-- what was asked of screen and keys
pub returns-in-Ok-act-clause-idle : goal.returns-in-Ok-act-clause-idle
returns-in-Ok-act-clause-idle g c = inr (inl refl)

pub returns-in-Ok-clause-idle : goal.returns-in-Ok-clause-idle
returns-in-Ok-clause-idle g c = elim c.in-Err-act.ensures.idle [
  | inl played ↦ inr (inr (refl, (c.in-Err-act.refusal, _, c.complain_of.ensures.asked, played)))
  | inr stays ↦ inl stays
]

-- whose faults are told
pub returns-in-Ok-act-clause-screen_faults : goal.returns-in-Ok-act-clause-screen_faults
returns-in-Ok-act-clause-screen_faults g c = inl (λ is. (let no : 0 ≡ 1 = is in cc), c.in-Ok-act.ensures.screen_faults)

pub returns-in-Ok-clause-screen_faults : goal.returns-in-Ok-clause-screen_faults
returns-in-Ok-clause-screen_faults g c =
    inr (refl, (c.in-Err-act.refusal, _, c.complain_of.ensures.asked, c.in-Err-act.ensures.screen_faults))

pub returns-in-Ok-act-clause-key_faults : goal.returns-in-Ok-act-clause-key_faults
returns-in-Ok-act-clause-key_faults g c = inl (λ is. (let no : 0 ≡ 1 = is in cc), c.in-Ok-act.ensures.key_faults)

pub returns-in-Ok-clause-key_faults : goal.returns-in-Ok-clause-key_faults
returns-in-Ok-clause-key_faults g c = inr (refl, (c.in-Err-act.refusal, _, c.complain_of.ensures.asked, c.in-Err-act.ensures.key_faults))

-- ---- words that ask for nothing

pub returns-clause-ends : goal.returns-clause-ends
returns-clause-ends g c = λ t at.
    let told = c.tell_words.ensures.told t at in
    words_run _ (command_of (map string_bytes c.args.words.now)) c.in-Err.error t _ _ _ c.tell_words.result told.0 _ c.tell_words.ensures.failures.0 c.in-Err.ensures told.1 told.2

pub returns-clause-asked : goal.returns-clause-asked
returns-clause-asked g c =
    let told = c.tell_words.ensures.asked in
    words_ask g.H.Host.called (command_of (map string_bytes c.args.words.now)) c.in-Err.error c.tell_words.result told.0 _ _ c.in-Err.ensures told.1 told.2

pub returns-clause-steps : goal.returns-clause-steps
returns-clause-steps g c =
    let told = c.tell_words.ensures.asked in
    words_steps (hosts g.H.Host.contents g.H.Host.called g.H.Host.failed g.H.Host.faults) (command_of (map string_bytes c.args.words.now)) c.in-Err.error c.tell_words.result told.0 _ _ c.in-Err.ensures told.1 told.2

pub returns-clause-devices : goal.returns-clause-devices
returns-clause-devices g c =
    let told = c.tell_words.ensures.asked in
    none_called_for (command_of (map string_bytes c.args.words.now)) c.in-Err.error c.tell_words.result told.0 _ _ _ _ _ refl refl refl c.in-Err.ensures told.1

pub returns-clause-idle : goal.returns-clause-idle
returns-clause-idle g c = inl (refl, refl)

pub returns-clause-screen_faults : goal.returns-clause-screen_faults
returns-clause-screen_faults g c =
    let told = c.tell_words.ensures.asked in
    words_told g.H.Host.called is_of_screen c.in-Err.error c.tell_words.result told.0 _ _ _ refl told.1 told.2

pub returns-clause-key_faults : goal.returns-clause-key_faults
returns-clause-key_faults g c =
    let told = c.tell_words.ensures.asked in
    words_told g.H.Host.called is_of_keys c.in-Err.error c.tell_words.result told.0 _ _ _ refl told.1 told.2

pub returns-clause-accepted : goal.returns-clause-accepted
returns-clause-accepted g c =
    let told = c.tell_words.ensures.asked in
    (status_for (command_of (map string_bytes c.args.words.now)) c.in-Err.error c.tell_words.result told.0 c.in-Err.ensures told.1).0

pub returns-clause-refused : goal.returns-clause-refused
returns-clause-refused g c =
    let told = c.tell_words.ensures.asked in
    (status_for (command_of (map string_bytes c.args.words.now)) c.in-Err.error c.tell_words.result told.0 c.in-Err.ensures told.1).1
