use Rattle.std.proofs.Common.{map, refl, inr}
use Rattle.zed_files.specs.Texts.{texts_of}
use Rattle.zed_files.proofs.Deliveries.{came_sound}
use Rattle.zed_files.proofs.Tells.{fewer_left, lacked, none_refused, one_gathered, one_longer}
use Rattle.zed_files.proofs.telling.OfFilesCommand.give.Goals as goal

pub taken-requires : goal.taken-requires
taken-requires g c =
    let s = c.args.self.now in
    let has = c.requires.stands.2.3 in
    record { sound = came_sound s.gathered.feed has.0 s.gathered.clash has.3 }

pub returns-in-Ok-clause-stands : goal.returns-in-Ok-clause-stands
returns-in-Ok-clause-stands g c = λ first files is.
    let s = c.args.self.now in
    let none = none_refused (texts_of s.names.now) s.count s.refusal c.requires.next in (
      is.0,
      is.1,
      one_longer files c.args.file s.count is.2,
      one_gathered files c.args.file s.gathered.feed c.taken.new.gathered.feed s.gathered.clash c.taken.new.gathered.clash s.refusal c.in-Ok.refusal none is.3 c.in-Ok.ensures.took,
    )

pub returns-in-Ok-clause-fewer : goal.returns-in-Ok-clause-fewer
returns-in-Ok-clause-fewer g c =
    let s = c.args.self.now in
    fewer_left (texts_of s.names.now) s.count s.refusal c.requires.next

pub returns-in-Err-clause-stands : goal.returns-in-Err-clause-stands
returns-in-Err-clause-stands g c = λ first files is.
    let s = c.args.self.now in
    let none = none_refused (texts_of s.names.now) s.count s.refusal c.requires.next in
    let lack = c.in-Err.ensures.memory_only_when in
    inr (refl, lacked (texts_of first.names.now) files c.args.file lack.0 s.gathered.feed s.gathered.clash s.refusal lack.1 lack.2 none is.3)
