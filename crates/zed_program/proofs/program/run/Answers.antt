use Rattle.std.proofs.Common.{◌≡◌, ◌≤◌, ◌∙◌, ap, arith, length, map, ◌∷◌, Some, string_bytes}
use Rattle.std.proofs.lemmas.List.{length-map}
use Rattle.zed_words.specs.Commands.{Merge, Save, command_of}
use Rattle.zed_session.specs.Links.{seen}
use Rattle.zed_program.specs.Devices.{Devices, devices}
use Rattle.zed_program.proofs.Endings.{run_calmly}
use Rattle.zed_program.proofs.Pulls.{each_of}
use Rattle.zed_program.proofs.Joined.{run_of_links}
use Rattle.zed_program.proofs.FileTexts.{option_adds, run_of_texts, reads_back, written_is_read}
use Rattle.zed_program.proofs.Asked.{run_calm}
use Rattle.zed_program.proofs.program.run.Goals as goal

pub returns-clause-ends_calmly : goal.returns-clause-ends_calmly
returns-clause-ends_calmly g c = λ t command asked at calm.
    run_calmly _ _ command t _ _ _ c.run_words.result _ calm (rw asked at (c.run_words.ensures.ends t at))

pub returns-clause-saves : goal.returns-clause-saves
returns-clause-saves g c = λ t profile out file files spelled plain at calm.
    let few : length (file ∷ files) ≤ 18446744073709551615 =
    let longer = option_adds profile (out ∷ file ∷ files) in
    let same = ap length spelled in
    let all = rw length-map at same in
    let counted = c.count_of-count.ensures in
    let small = c.count_of-count.type_inv in
    omega arith in
    let asked : command_of (map string_bytes c.args.words.now) ≡ Some (Save profile out (file ∷ files)) =
    ap command_of spelled ∙ c.plain_words_save.ensures profile out file files plain few in
    returns-clause-ends_calmly g c t (Save profile out (file ∷ files)) asked at calm

pub returns-clause-saves_sets : goal.returns-clause-saves_sets
returns-clause-saves_sets g c = λ t profile out world lists asks at calm.
    let before : Devices =
    devices (each_of c.args.links.now.items (λ link. seen ((goal.Link-dyn g (link.vtable, link.value)).ends link.value) ((goal.Link-dyn g (link.vtable, link.value)).reads link.value)))
    ((goal.Screen-dyn g c.args.screen.now).shown c.args.screen.now.1)
    ((goal.Screen-dyn g c.args.screen.now).screen_foretells c.args.screen.now.1)
    ((goal.Keys-dyn g c.args.keys.now).left c.args.keys.now.1)
    ((goal.Keys-dyn g c.args.keys.now).keys_foretell c.args.keys.now.1) in
    let after : Devices =
    devices (each_of c.run_words.new.links.items (λ link. seen ((goal.Link-dyn g (link.vtable, link.value)).ends link.value) ((goal.Link-dyn g (link.vtable, link.value)).reads link.value)))
    ((goal.Screen-dyn g c.args.screen.now).shown c.run_words.new.screen)
    ((goal.Screen-dyn g c.args.screen.now).screen_foretells c.run_words.new.screen)
    ((goal.Keys-dyn g c.args.keys.now).left c.run_words.new.keys)
    ((goal.Keys-dyn g c.args.keys.now).keys_foretell c.run_words.new.keys) in
    run_of_texts before after (written_is_read c.one_reading.ensures.one c.one_reading.ensures.file) (map string_bytes c.args.words.now) t profile out world lists c.run_words.result _ asks
    (returns-clause-ends_calmly g c t (Save profile out asks.files) asks.asks at calm)

pub returns-clause-reads_back : goal.returns-clause-reads_back
returns-clause-reads_back g c = λ t profile out world lists asks at calm.
    reads_back c.saved_is_read.ensures.authored (map string_bytes c.args.words.now) t profile out world lists c.run_words.result _ asks
    (returns-clause-saves_sets g c t profile out world lists asks at calm)

pub returns-clause-merges_sets : goal.returns-clause-merges_sets
returns-clause-merges_sets g c = λ t out world lists asks at calm.
    let before : Devices =
    devices (each_of c.args.links.now.items (λ link. seen ((goal.Link-dyn g (link.vtable, link.value)).ends link.value) ((goal.Link-dyn g (link.vtable, link.value)).reads link.value)))
    ((goal.Screen-dyn g c.args.screen.now).shown c.args.screen.now.1)
    ((goal.Screen-dyn g c.args.screen.now).screen_foretells c.args.screen.now.1)
    ((goal.Keys-dyn g c.args.keys.now).left c.args.keys.now.1)
    ((goal.Keys-dyn g c.args.keys.now).keys_foretell c.args.keys.now.1) in
    let after : Devices =
    devices (each_of c.run_words.new.links.items (λ link. seen ((goal.Link-dyn g (link.vtable, link.value)).ends link.value) ((goal.Link-dyn g (link.vtable, link.value)).reads link.value)))
    ((goal.Screen-dyn g c.args.screen.now).shown c.run_words.new.screen)
    ((goal.Screen-dyn g c.args.screen.now).screen_foretells c.run_words.new.screen)
    ((goal.Keys-dyn g c.args.keys.now).left c.run_words.new.keys)
    ((goal.Keys-dyn g c.args.keys.now).keys_foretell c.run_words.new.keys) in
    run_of_links c.files_are_pulled.ensures c.deliveries_go_on.ensures c.deliveries_come_to_sets.ensures (map string_bytes c.args.words.now) before after t out world lists c.run_words.result _ asks
    (returns-clause-ends_calmly g c t (Merge out world asks.files) asks.asks at calm)

pub returns-clause-calm : goal.returns-clause-calm
returns-clause-calm g c = λ within calm.
    run_calm g.H.Host.called g.H.Host.failed g.H.Host.faults g.met.H.Host.counts_failures g.met.H.Host.counts_no_fault (command_of (map string_bytes c.args.words.now)) c.run_words.result _ _ c.run_words.ensures.asked within calm
