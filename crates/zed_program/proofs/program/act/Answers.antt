use Rattle.std.proofs.Common.{◌≡◌, ◌<◌, ◌∙◌, Some, ap, inl, length, refl, subst, sym, true, false}
use Rattle.zed_files.specs.Texts.{texts_of}
use Rattle.zed_program.proofs.Pulls.{as_many}
use Rattle.cmd_show.specs.Stage.{Stage, stage}
use Rattle.zed_words.specs.Commands.{meaning_of}
use Rattle.zed_files.proofs.OffStage.{keys_uncounted, screen_uncounted, uncounted}
use Rattle.zed_program.proofs.Called.{kept_idle, none_called, shown_idle, shown_once}
use Rattle.zed_program.proofs.Endings.{lacks_as, merge_as, play_as, pulls_as, show_as, show_lacks}
use Rattle.zed_program.proofs.program.act.Goals as goal

pub returns-in-Save-clause-ends : goal.returns-in-Save-clause-ends
returns-in-Save-clause-ends g c =
    λ t at. rw (c.in-Save.is, ← c.as_slice.ensures.value) (c.save_files.ensures.ends t at, λ is. tt)

pub returns-in-Check-clause-ends : goal.returns-in-Check-clause-ends
returns-in-Check-clause-ends g c = λ t at. rw (c.in-Check.is, ← c.as_slice-in-Check.ensures.value) (c.check_files.ensures.ends t at, λ is. tt)

pub returns-in-New-clause-ends : goal.returns-in-New-clause-ends
returns-in-New-clause-ends g c = λ t at. rw c.in-New.is (c.make_new.ensures.ends t at, λ is. tt)

pub returns-in-Edit-clause-ends : goal.returns-in-Edit-clause-ends
returns-in-Edit-clause-ends g c = λ t at. rw (c.in-Edit.is, ← c.as_slice-in-Edit.ensures.value) (c.edit_file.ensures.ends t at, λ is. tt)

pub returns-in-Merge-clause-ends : goal.returns-in-Merge-clause-ends
returns-in-Merge-clause-ends g c = λ t at.
    let many = ap length c.as_slice-in-Merge.ensures.value ∙ as_many _ _ in
    rw c.in-Merge.is (
      merge_as _ _ _ _ _ _ _ t _ _ many (c.merge.ensures.ends t at),
      λ is. lacks_as _ _ _ _ _ many (c.merge.ensures.memory_only_when is),
    )

pub returns-in-Show-clause-ends : goal.returns-in-Show-clause-ends
returns-in-Show-clause-ends g c = λ t at.
    let old : Stage =
    stage ((goal.Screen-dyn g c.args.screen.now).shown c.args.screen.now.1)
    ((goal.Screen-dyn g c.args.screen.now).screen_foretells c.args.screen.now.1)
    ((goal.Keys-dyn g c.args.keys.now).left c.args.keys.now.1)
    ((goal.Keys-dyn g c.args.keys.now).keys_foretell c.args.keys.now.1) in
    let new : Stage =
    stage ((goal.Screen-dyn g c.args.screen.now).shown c.show.new.screen)
    ((goal.Screen-dyn g c.args.screen.now).screen_foretells c.show.new.screen)
    ((goal.Keys-dyn g c.args.keys.now).left c.args.keys.now.1)
    ((goal.Keys-dyn g c.args.keys.now).keys_foretell c.args.keys.now.1) in
    rw c.in-Show.is (
      show_as _ old new _ _ _ _ _ t _ _ c.limit_of.ensures.result (ap texts_of c.as_slice-in-Show.ensures.value) (c.show.ensures.ends t ((goal.Keys-dyn g c.args.keys.now).left c.args.keys.now.1) ((goal.Keys-dyn g c.args.keys.now).keys_foretell c.args.keys.now.1) at),
      λ is. show_lacks (λ s. stage ((goal.Screen-dyn g s).shown s.1) ((goal.Screen-dyn g s).screen_foretells s.1)
          ((goal.Keys-dyn g c.args.keys.now).left c.args.keys.now.1) ((goal.Keys-dyn g c.args.keys.now).keys_foretell c.args.keys.now.1))
          c.show.result _ _ _ _ c.show.ensures.once is,
    )

pub returns-in-Play-clause-ends : goal.returns-in-Play-clause-ends
returns-in-Play-clause-ends g c = λ t at.
    rw c.in-Play.is (play_as _ _ _ _ _ _ _ _ _ t _ _ c.limit_of-in-Play.ensures.result (ap texts_of c.as_slice-in-Play.ensures.value) (c.play.ensures.ends t at))

pub returns-in-Save-clause-asked : goal.returns-in-Save-clause-asked
returns-in-Save-clause-asked g c = rw (c.in-Save.is, ← c.as_slice.ensures.value) c.save_files.ensures.asked

pub returns-in-Check-clause-asked : goal.returns-in-Check-clause-asked
returns-in-Check-clause-asked g c = rw (c.in-Check.is, ← c.as_slice-in-Check.ensures.value) c.check_files.ensures.asked

pub returns-in-Edit-clause-asked : goal.returns-in-Edit-clause-asked
returns-in-Edit-clause-asked g c = rw (c.in-Edit.is, ← c.as_slice-in-Edit.ensures.value) c.edit_file.ensures.asked

pub returns-in-New-clause-asked : goal.returns-in-New-clause-asked
returns-in-New-clause-asked g c = rw c.in-New.is c.make_new.ensures.asked

-- step by step
pub returns-in-Save-clause-steps : goal.returns-in-Save-clause-steps
returns-in-Save-clause-steps g c = rw (c.in-Save.is, ← c.as_slice.ensures.value) c.save_files.ensures.steps

pub returns-in-Check-clause-steps : goal.returns-in-Check-clause-steps
returns-in-Check-clause-steps g c = rw (c.in-Check.is, ← c.as_slice-in-Check.ensures.value) c.check_files.ensures.steps

pub returns-in-Edit-clause-steps : goal.returns-in-Edit-clause-steps
returns-in-Edit-clause-steps g c = rw (c.in-Edit.is, ← c.as_slice-in-Edit.ensures.value) c.edit_file.ensures.steps

pub returns-in-New-clause-steps : goal.returns-in-New-clause-steps
returns-in-New-clause-steps g c = rw c.in-New.is c.make_new.ensures.steps

pub returns-in-Merge-clause-steps : goal.returns-in-Merge-clause-steps
returns-in-Merge-clause-steps g c = rw c.in-Merge.is tt

pub returns-in-Show-clause-steps : goal.returns-in-Show-clause-steps
returns-in-Show-clause-steps g c = rw c.in-Show.is tt

pub returns-in-Play-clause-steps : goal.returns-in-Play-clause-steps
returns-in-Play-clause-steps g c = rw c.in-Play.is tt

pub returns-in-Merge-clause-asked : goal.returns-in-Merge-clause-asked
returns-in-Merge-clause-asked g c = rw c.in-Merge.is c.merge.ensures.asked

pub returns-in-Show-clause-asked : goal.returns-in-Show-clause-asked
returns-in-Show-clause-asked g c = rw (c.in-Show.is, ← c.as_slice-in-Show.ensures.value) c.show.ensures.asked

pub returns-in-Play-clause-asked : goal.returns-in-Play-clause-asked
returns-in-Play-clause-asked g c = rw (c.in-Play.is, ← c.as_slice-in-Play.ensures.value) c.play.ensures.asked

-- over which links a merge pulls
pub returns-in-Merge-clause-pulls : goal.returns-in-Merge-clause-pulls
returns-in-Merge-clause-pulls g c =
    rw c.in-Merge.is (pulls_as _ _ _ _ _ (ap length c.as_slice-in-Merge.ensures.value ∙ as_many _ _) c.merge.ensures.links)

-- which devices a command calls
pub returns-in-Save-clause-devices : goal.returns-in-Save-clause-devices
returns-in-Save-clause-devices g c =
    none_called (Some (meaning_of c.args.command.now)) _ _ _ _ _ _ refl refl refl (rw c.in-Save.is refl) (rw c.in-Save.is refl)

pub returns-in-Check-clause-devices : goal.returns-in-Check-clause-devices
returns-in-Check-clause-devices g c =
    none_called (Some (meaning_of c.args.command.now)) _ _ _ _ _ _ refl refl refl (rw c.in-Check.is refl) (rw c.in-Check.is refl)

pub returns-in-New-clause-devices : goal.returns-in-New-clause-devices
returns-in-New-clause-devices g c =
    none_called (Some (meaning_of c.args.command.now)) _ _ _ _ _ _ refl refl refl (rw c.in-New.is refl) (rw c.in-New.is refl)

pub returns-in-Edit-clause-devices : goal.returns-in-Edit-clause-devices
returns-in-Edit-clause-devices g c =
    none_called (Some (meaning_of c.args.command.now)) _ _ _ _ _ _ refl refl refl (rw c.in-Edit.is refl) (rw c.in-Edit.is refl)

pub returns-in-Merge-clause-devices : goal.returns-in-Merge-clause-devices
returns-in-Merge-clause-devices g c =
    rw c.in-Merge.is (record {
      pulls = inl (pulls_as _ _ _ _ _ (ap length c.as_slice-in-Merge.ensures.value ∙ as_many _ _) c.merge.ensures.links);
      links = λ off. absurd (let bad : true ≡ false = off in cc);
      shows = tt;
      screen = λ _. refl;
      keys = λ _. refl;
    })

pub returns-in-Show-clause-devices : goal.returns-in-Show-clause-devices
returns-in-Show-clause-devices g c =
    rw c.in-Show.is (record {
      pulls = inl tt;
      links = λ _. refl;
      shows = shown_once c.show.result _ _ _ c.show.ensures.once;
      screen = λ dark. absurd (let bad : true ≡ false = dark in cc);
      keys = λ _. refl;
    })

pub returns-in-Play-clause-devices : goal.returns-in-Play-clause-devices
returns-in-Play-clause-devices g c =
    rw c.in-Play.is (record {
      pulls = inl tt;
      links = λ _. refl;
      shows = tt;
      screen = λ dark. absurd (let bad : true ≡ false = dark in cc);
      keys = λ off. absurd (let bad : true ≡ false = off in cc);
    })

-- what was asked of screen and keys
pub returns-in-Save-clause-idle : goal.returns-in-Save-clause-idle
returns-in-Save-clause-idle g c = kept_idle g.H.Host.called _ c.save_files.result _ (refl, refl)

pub returns-in-Check-clause-idle : goal.returns-in-Check-clause-idle
returns-in-Check-clause-idle g c = kept_idle g.H.Host.called _ c.check_files.result _ (refl, refl)

pub returns-in-New-clause-idle : goal.returns-in-New-clause-idle
returns-in-New-clause-idle g c = kept_idle g.H.Host.called _ c.make_new.result _ (refl, refl)

pub returns-in-Edit-clause-idle : goal.returns-in-Edit-clause-idle
returns-in-Edit-clause-idle g c = kept_idle g.H.Host.called _ c.edit_file.result _ (refl, refl)

pub returns-in-Merge-clause-idle : goal.returns-in-Merge-clause-idle
returns-in-Merge-clause-idle g c = kept_idle g.H.Host.called _ c.merge.result _ (refl, refl)

pub returns-in-Show-clause-idle : goal.returns-in-Show-clause-idle
returns-in-Show-clause-idle g c = shown_idle g.H.Host.called _ c.show.result _ _ _ _ refl c.show.ensures.once

-- whose faults a command tells
pub returns-in-Save-clause-screen_faults : goal.returns-in-Save-clause-screen_faults
returns-in-Save-clause-screen_faults g c = screen_uncounted c.save_files.result _ _ c.save_files.ensures.err refl

pub returns-in-Save-clause-key_faults : goal.returns-in-Save-clause-key_faults
returns-in-Save-clause-key_faults g c = keys_uncounted c.save_files.result _ _ c.save_files.ensures.err refl

pub returns-in-Check-clause-screen_faults : goal.returns-in-Check-clause-screen_faults
returns-in-Check-clause-screen_faults g c = screen_uncounted c.check_files.result _ _ c.check_files.ensures.err refl

pub returns-in-Check-clause-key_faults : goal.returns-in-Check-clause-key_faults
returns-in-Check-clause-key_faults g c = keys_uncounted c.check_files.result _ _ c.check_files.ensures.err refl

pub returns-in-New-clause-screen_faults : goal.returns-in-New-clause-screen_faults
returns-in-New-clause-screen_faults g c = screen_uncounted c.make_new.result _ _ c.make_new.ensures.err refl

pub returns-in-New-clause-key_faults : goal.returns-in-New-clause-key_faults
returns-in-New-clause-key_faults g c = keys_uncounted c.make_new.result _ _ c.make_new.ensures.err refl

pub returns-in-Edit-clause-screen_faults : goal.returns-in-Edit-clause-screen_faults
returns-in-Edit-clause-screen_faults g c = screen_uncounted c.edit_file.result _ _ c.edit_file.ensures.err refl

pub returns-in-Edit-clause-key_faults : goal.returns-in-Edit-clause-key_faults
returns-in-Edit-clause-key_faults g c = keys_uncounted c.edit_file.result _ _ c.edit_file.ensures.err refl

pub returns-in-Merge-clause-screen_faults : goal.returns-in-Merge-clause-screen_faults
returns-in-Merge-clause-screen_faults g c = screen_uncounted c.merge.result _ _ c.merge.ensures.err refl

pub returns-in-Merge-clause-key_faults : goal.returns-in-Merge-clause-key_faults
returns-in-Merge-clause-key_faults g c = keys_uncounted c.merge.result _ _ c.merge.ensures.err refl

pub returns-in-Show-clause-key_faults : goal.returns-in-Show-clause-key_faults
returns-in-Show-clause-key_faults g c = uncounted _ _ _ c.show.ensures.err refl

-- none of its failures is forgotten
pub returns-in-Save-clause-failures : goal.returns-in-Save-clause-failures
returns-in-Save-clause-failures g c = c.save_files.ensures.failures

pub returns-in-Check-clause-failures : goal.returns-in-Check-clause-failures
returns-in-Check-clause-failures g c = c.check_files.ensures.failures

pub returns-in-New-clause-failures : goal.returns-in-New-clause-failures
returns-in-New-clause-failures g c = c.make_new.ensures.failures

pub returns-in-Edit-clause-failures : goal.returns-in-Edit-clause-failures
returns-in-Edit-clause-failures g c = c.edit_file.ensures.failures

pub returns-in-Merge-clause-no_link : goal.returns-in-Merge-clause-no_link
returns-in-Merge-clause-no_link g c =
    rw c.in-Merge.is (λ few. c.merge.ensures.no_link (subst (λ n. length c.args.links.now.items < n) (sym (ap length c.as_slice-in-Merge.ensures.value ∙ as_many _ _)) few))
