use Rattle.std.proofs.Common.{◌≡◌, List, length, rules, ap, ◌∙◌, refl}
use Rattle.zed_types.specs.declared.header.HeaderNumber.{HeaderNumber}
use Rattle.zed_types.specs.declared.header.HeaderNumber.TheVariants.{Ammo, Gems, Health, Torches, TorchTicks, EnergizerTicks, Score, TimePassed, Hundredths}
use Rattle.zed_edit.specs.declared.plain.Header.{Header}
use Rattle.zed_laws.specs.Registers.{header_number}
use Rattle.zed_export.specs.World.{number_or_0}
use Rattle.zed_types.specs.declared.names.Name.{Name}
use Rattle.zed_export.specs.Fields.{place_or_0, board_names}
use Rattle.zed_export.proofs.Names.{board_place}
use Rattle.zed_export.proofs.Numbers16.{kept}
use Rattle.zed_export.proofs.header.header_of.Goals as goal

pub returns-clause-result : goal.returns-clause-result
returns-clause-result c =
    let p = c.args.view.now in
    let h = p.header in
    let number = λ (f : HeaderNumber). ap (header_number f) c.header-header.ensures in
    let ammo = kept c.number.result (header_number Ammo h) (search rules) (c.number.ensures ∙ number Ammo) in
    let gems = kept c.number-2.result (header_number Gems h) (search rules) (c.number-2.ensures ∙ number Gems) in
    let health = kept c.number-3.result (header_number Health h) (search rules) (c.number-3.ensures ∙ number Health) in
    let torches = kept c.number-4.result (header_number Torches h) (search rules) (c.number-4.ensures ∙ number Torches) in
    let torch_ticks = kept c.number-5.result (header_number TorchTicks h) (search rules) (c.number-5.ensures ∙ number TorchTicks) in
    let energizer_ticks =
    kept c.number-6.result (header_number EnergizerTicks h) (search rules) (c.number-6.ensures ∙ number EnergizerTicks) in
    let score = kept c.number-7.result (header_number Score h) (search rules) (c.number-7.ensures ∙ number Score) in
    let time_passed = kept c.number-8.result (header_number TimePassed h) (search rules) (c.number-8.ensures ∙ number TimePassed) in
    let hundredths = kept c.number-9.result (header_number Hundredths h) (search rules) (c.number-9.ensures ∙ number Hundredths) in
    let board : c.board_number.result ≡ number_or_0 p h.current_board
    = c.board_number.ensures ∙ ap (λ (names : List Name). place_or_0 names c.current_board.result) c.requires.named ∙ ap (place_or_0 (board_names p)) (c.current_board.ensures ∙ ap (λ (x : Header). x.current_board) c.header-header.ensures) ∙ board_place p c.requires.ordered h.current_board in
    let name : c.in_ok-from_slice.field-0 ≡ h.world_name =
    c.in_ok-from_slice.ensures.result ∙ c.world_name.ensures ∙ ap (λ (x : Header). x.world_name) c.header-header.ensures in
    let keys = c.keys_of.ensures ∙ ap (λ (x : Header). x.keys) c.header-header.ensures in
    let flags = c.in_ok-flags_of.ensures ∙ ap (λ (x : Header). x.flags) c.header-header.ensures in
    let saved = c.saved.ensures ∙ ap (λ (x : Header). x.saved) c.header-header.ensures in
    rw (ammo, gems, health, torches, torch_ticks, energizer_ticks, score, time_passed, hundredths, board, name, keys, flags, saved) refl

pub keys_of-requires : goal.keys_of-requires
keys_of-requires c = ap (λ (x : Header). length x.keys) c.header-header.ensures ∙ c.requires.regular.header.keys

pub flags_of-requires : goal.flags_of-requires
flags_of-requires c = ap (λ (x : Header). length x.flags) c.header-header.ensures ∙ c.requires.regular.header.flags
