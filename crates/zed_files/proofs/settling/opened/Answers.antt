use Rattle.std.proofs.Common.{◌≡◌, ◌∙◌, [], ap, subst, inl}
use Rattle.std.proofs.lemmas.Result.{err_from_is_err_and}
use Rattle.zed_files.specs.Collected.{world_in}
use Rattle.zed_files.specs.Files.{ReadsFile, WantsMemory}
use Rattle.zed_files.specs.Gathers.{first_stop}
use Rattle.zed_files.proofs.Deliveries.{came_sound}
use Rattle.zed_files.proofs.OneFile.{opened_fresh, opened_world, opens}
use Rattle.zed_files.proofs.settling.opened.Goals as goal

pub read_next-requires : goal.read_next-requires
read_next-requires c = record { sound = came_sound c.new-gathered.result.feed [] c.new-gathered.result.clash c.new-gathered.ensures.nothing }

pub returns-in_err-refusal-clause-opened : goal.returns-in_err-refusal-clause-opened
returns-in_err-refusal-clause-opened c =
    let p = err_from_is_err_and c.from_residual.result c.from_residual.ensures.1 in
    rw p.1 (inl (p.2, subst (λ w. WantsMemory w c.args.bytes.now) c.new-gathered.ensures.world c.in_err-refusal.ensures.memory_only_when))

pub returns-clause-opened : goal.returns-clause-opened
returns-clause-opened c =
    let g = c.read_next.new.gathered in
    let k = c.in_ok-refusal.ensures.took [] tt c.new-gathered.ensures.nothing in
    let file = subst (λ w. ReadsFile w c.args.bytes.now k.1 k.0 (world_in g.feed)) c.new-gathered.ensures.world k.2 in
    opens c.deliveries_come_to_sets.ensures c.args.asked c.args.bytes.now g.feed k.1 g.clash k.0 c.settled.result file k.3
    (c.settled.ensures.stop ∙ ap (λ r. first_stop g.clash r (world_in g.feed)) k.4) c.settled.ensures.document

pub returns-clause-world : goal.returns-clause-world
returns-clause-world c =
    let g = c.read_next.new.gathered in
    let k = c.in_ok-refusal.ensures.took [] tt c.new-gathered.ensures.nothing in
    let file = subst (λ w. ReadsFile w c.args.bytes.now k.1 k.0 (world_in g.feed)) c.new-gathered.ensures.world k.2 in
    opened_world c.args.asked c.args.bytes.now g.feed k.1 g.clash k.0 c.settled.result file
    (c.settled.ensures.stop ∙ ap (λ r. first_stop g.clash r (world_in g.feed)) k.4) c.settled.ensures.document

pub returns-clause-sound : goal.returns-clause-sound
returns-clause-sound c =
    let g = c.read_next.new.gathered in
    let k = c.in_ok-refusal.ensures.took [] tt c.new-gathered.ensures.nothing in
    opened_fresh g.feed k.1 g.clash c.in_ok-refusal.refusal c.settled.result k.3 c.settled.ensures.stop c.settled.ensures.document
