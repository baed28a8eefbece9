use Rattle.std.proofs.Common.{◌≡◌, ◌≤◌, length, map, false}
use Rattle.zed_session.specs.Links.{seen}
use Rattle.zed_program.proofs.Pulls.{Pulling}
use Rattle.zed_program.proofs.merging.pulled_from.Given as goal

-- what pulls over the links that are left come to, all come to
abbrev pub invariant-loop-i : goal.invariant-loop-i
invariant-loop-i g l = record {
  pulling : Pulling (λ link. seen ((goal.Link-dyn g (link.vtable, link.value)).ends link.value) ((goal.Link-dyn g (link.vtable, link.value)).reads link.value))
      l.world l.count l.fn.links.items l.links.items l.i l.intake;
  unwritten : map (λ link. (goal.Link-dyn g (link.vtable, link.value)).writes link.value) l.links.items
      ≡ map (λ link. (goal.Link-dyn g (link.vtable, link.value)).writes link.value) l.fn.links.items;
  many : length l.links.items ≡ length l.fn.links.items;
  enough : l.count ≤ length l.fn.links.items;
  world : l.intake.world ≡ l.world;
  sound : l.intake.is_stale ≡ false;
}
