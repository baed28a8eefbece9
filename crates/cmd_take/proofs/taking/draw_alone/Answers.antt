use Rattle.std.proofs.Common.{◌≡◌, Err, ap, inl}
use Rattle.std.proofs.lemmas.Result.{err_from_is_err_and}
use Rattle.cmd_take.specs.Stops.{take_stop}
use Rattle.cmd_take.proofs.Drawing.{alone_ends, alone_none}
use Rattle.cmd_take.proofs.taking.draw_alone.Goals as goal

pub taken_edits-requires : goal.taken_edits-requires
taken_edits-requires c = record { file = c.requires; base = c.requires }

pub returns-in_err-edits : goal.returns-in_err-edits
returns-in_err-edits c =
    let p = err_from_is_err_and c.from_residual.result c.from_residual.ensures.1 in
    let same : p.0 ≡ c.in_err-edits.field-0.0 = p.2 in
    rw (p.1, same) (record {
      draws = λ base.
          alone_none base c.args.file.now c.args.replica c.args.document.now c.args.world.now c.in_err-edits.field-0.0 c.in_err-edits.ensures.taken;
      refused = λ x is.
          let first : c.in_err-edits.field-0.0 ≡ take_stop x = (let both = c.in_err-edits.ensures.refused x is in cc) in
          ap (λ y. Err y) first;
    })

pub add_alone-requires : goal.add_alone-requires
add_alone-requires c = record { fit = c.in_ok-edits.ensures.fit; joins = c.in_ok-edits.ensures.file_joins; sound = c.requires }

pub returns-in_err-effect : goal.returns-in_err-effect
returns-in_err-effect c =
    let p = err_from_is_err_and c.from_residual-in_err-effect.result c.from_residual-in_err-effect.ensures.1 in
    rw p.1 (record {
      draws = λ base. inl p.2;
      refused = λ x is. absurd (let no = c.in_ok-edits.ensures.refused x is in cc);
    })

pub returns : goal.returns
returns c = record {
  draws = λ base.
      alone_ends base c.args.file.now c.args.replica c.args.document.now c.args.world.now c.in_ok-edits.edits.items c.count_of-had.result c.in_ok-effect.effect
      c.in_ok-edits.ensures.taken c.count_of-had.ensures c.in_ok-effect.ensures;
  refused = λ x is. absurd (let no = c.in_ok-edits.ensures.refused x is in cc);
}
