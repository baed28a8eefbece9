use Rattle.std.proofs.Common.{◌≡◌, ◌∙◌, ◌≤◌, Ok, rules, ap, length}
use Rattle.std.proofs.lemmas.Result.{err_from_is_err_and}
use Rattle.zed_link.specs.declared.error.LinkError.TheVariants.{LinkFault, Memory}
use Rattle.zed_link.specs.Refusals.{file_refusal}
use Rattle.zed_link.specs.Pull.{most_reads}
use Rattle.zed_link.proofs.EndsLaws.{one_within}
use Rattle.zed_document.proofs.Fronts.{falls_more}
use Rattle.zed_link.proofs.Outcomes.{ends_cut, ends_well, goes_on, piece_lacks, piece_refused, read_failed, refused, room, turns_over}
use Rattle.zed_link.proofs.Paces.{piece_keeps_pace}
use Rattle.zed_link.proofs.receiving.receive_into.Goals as goal

pub returns-in_err-count-clause-pull : goal.returns-in_err-count-clause-pull
returns-in_err-count-clause-pull g c =
    let p = err_from_is_err_and c.from_residual.result c.from_residual.ensures.1 in
    let same : p.0 ≡ c.in_err-count.field-0.0 = p.2 in
    let fault : c.in_err-count.field-0.0 ≡ LinkFault = c.in_err-count.ensures.err in
    let is : c.from_residual.result ≡ refused LinkFault = p.1 ∙ ap refused (same ∙ fault) in
    rw is (read_failed c.args.intake.now _ _ _ _ _ _ c.loop-reads.reads c.loop-reads.reader c.loop-reads.intake c.loop-reads.pulled c.loop-reads-test.true
    c.loop-reads.invariant.going c.in_err-count.ensures.half c.in_err-count.ensures.reads)

pub returns-in_err-finish-clause-pull : goal.returns-in_err-finish-clause-pull
returns-in_err-finish-clause-pull g c =
    let p = err_from_is_err_and c.from_residual-in_err-finish.result c.from_residual-in_err-finish.ensures.1 in
    let same : p.0 ≡ file_refusal c.in_err-finish.field-0.0 = p.2 in
    let is : c.from_residual-in_err-finish.result ≡ refused (file_refusal c.in_err-finish.field-0.0) = p.1 ∙ ap refused same in
    let zero : c.in_ok-count.count ≡ 0 = c.if-count-eq0.true in
    rw is (ends_cut c.args.intake.now _ _ _ _ _ _ c.loop-reads.reads c.loop-reads.reader c.loop-reads.intake c.loop-reads.pulled c.in_err-finish.field-0.0 c.loop-reads-test.true
    c.loop-reads.invariant.going (c.in_ok-count.ensures.end (ap (λ n. Ok n) zero)) c.in_ok-count.ensures.reads c.in_err-finish.ensures.result)

pub returns-then-count-eq0-clause-pull : goal.returns-then-count-eq0-clause-pull
returns-then-count-eq0-clause-pull g c =
    let zero : c.in_ok-count.count ≡ 0 = c.if-count-eq0.true in
    ends_well c.args.intake.now _ _ _ _ _ _ c.loop-reads.reads c.loop-reads.reader c.loop-reads.intake c.loop-reads.pulled c.loop-reads-test.true
    c.loop-reads.invariant.going (c.in_ok-count.ensures.end (ap (λ n. Ok n) zero)) c.in_ok-count.ensures.reads c.in_ok-finish.ensures.whole

pub returns-in_err-take_piece-clause-pull : goal.returns-in_err-take_piece-clause-pull
returns-in_err-take_piece-clause-pull g c =
    let p = err_from_is_err_and c.from_residual-in_err-take_piece.result c.from_residual-in_err-take_piece.ensures.1 in
    let same : p.0 ≡ c.in_err-take_piece.field-0.0 = p.2 in
    let is : c.from_residual-in_err-take_piece.result ≡ refused c.in_err-take_piece.field-0.0 = p.1 ∙ ap refused same in
    let some : 1 ≤ length c.split_at.result.0.now = search rules in
    let few : length c.split_at.result.0.now ≤ 4096 = search rules in
    let piece = c.in_err-take_piece.ensures.result in
    rw is (piece_refused c.fronts_are_read.ensures.cut c.args.intake.now _ _ _ _ _ _ c.loop-reads.reads c.loop-reads.reader c.take_piece.new.reader c.loop-reads.intake c.loop-reads.pulled c.split_at.result.0.now _ piece.0
    c.in_err-take_piece.field-0.0 c.take_piece.new.intake.edits c.loop-reads-test.true c.loop-reads.invariant.going some few c.split_at.ensures.front c.in_ok-count.ensures.ok c.in_ok-count.ensures.reads piece.1
    c.in_err-take_piece.ensures.asked piece.2)

pub plus-pulled-requires-clause-taken : goal.plus-pulled-requires-clause-taken
plus-pulled-requires-clause-taken g c =
    let few : length c.split_at.result.0.now ≤ 4096 = search rules in
    let piece = c.in_ok-take_piece.ensures.result in
    (room c.args.intake.now _ _ _ _ c.loop-reads.reads c.loop-reads.reader c.take_piece.new.reader c.loop-reads.intake c.loop-reads.pulled c.in_ok-take_piece.field-0 c.split_at.result.0.now piece.0
    c.loop-reads.invariant.going c.loop-reads-test.true few piece.1 piece.2.2).0

pub plus-pulled-requires-clause-held : goal.plus-pulled-requires-clause-held
plus-pulled-requires-clause-held g c =
    let few : length c.split_at.result.0.now ≤ 4096 = search rules in
    let piece = c.in_ok-take_piece.ensures.result in
    (room c.args.intake.now _ _ _ _ c.loop-reads.reads c.loop-reads.reader c.take_piece.new.reader c.loop-reads.intake c.loop-reads.pulled c.in_ok-take_piece.field-0 c.split_at.result.0.now piece.0
    c.loop-reads.invariant.going c.loop-reads-test.true few piece.1 piece.2.2).1

pub plus-pulled-requires-clause-known : goal.plus-pulled-requires-clause-known
plus-pulled-requires-clause-known g c =
    let few : length c.split_at.result.0.now ≤ 4096 = search rules in
    let piece = c.in_ok-take_piece.ensures.result in
    (room c.args.intake.now _ _ _ _ c.loop-reads.reads c.loop-reads.reader c.take_piece.new.reader c.loop-reads.intake c.loop-reads.pulled c.in_ok-take_piece.field-0 c.split_at.result.0.now piece.0
    c.loop-reads.invariant.going c.loop-reads-test.true few piece.1 piece.2.2).2

pub loop-reads-preserved : goal.loop-reads-preserved
loop-reads-preserved g c =
    let old = c.loop-reads.invariant in
    let some : 1 ≤ length c.split_at.result.0.now = search rules in
    let few : length c.split_at.result.0.now ≤ 4096 = search rules in
    let long : length c.split_at.result.0.now ≡ c.in_ok-count.count = search rules in
    let full : length c.loop-reads.buffer ≡ 4096 = search rules in
    let piece = c.in_ok-take_piece.ensures.result in
    record {
      going = goes_on c.args.intake.now _ _ _ _ _ _ c.loop-reads.reads c.loop-reads.reader c.take_piece.new.reader c.loop-reads.intake c.take_piece.new.intake c.loop-reads.pulled
          c.in_ok-take_piece.field-0 c.plus-pulled.result c.split_at.result.0.now _ piece.0 old.going some few (piece_keeps_pace c.in_ok-count.count _ _ _ long full c.in_ok-count.ensures.pace) c.split_at.ensures.front c.in_ok-count.ensures.ok c.in_ok-count.ensures.reads piece.1
          c.in_ok-take_piece.ensures.asked piece.2 c.in_ok-take_piece.ensures.world (c.in_ok-take_piece.ensures.stale (λ bad. cc)) c.plus-pulled.ensures;
      calm = c.in_ok-count.ensures.failures ∙ old.calm;
      flowing = c.in_ok-count.ensures.stalls ∙ old.flowing;
      unwritten = c.in_ok-count.ensures.writes ∙ old.unwritten;
      steady = c.in_ok-count.ensures.accepts ∙ old.steady;
      falls = falls_more _ _ _ old.falls (c.in_ok-take_piece.ensures.visits (λ bad. cc));
    }

pub returns-in_err-count-clause-reads : goal.returns-in_err-count-clause-reads
returns-in_err-count-clause-reads g c =
    one_within c.loop-reads.reads most_reads _ _ _ c.loop-reads-test.true c.loop-reads.invariant.going.made c.in_err-count.ensures.reads

pub returns-in_err-finish-clause-reads : goal.returns-in_err-finish-clause-reads
returns-in_err-finish-clause-reads g c =
    one_within c.loop-reads.reads most_reads _ _ _ c.loop-reads-test.true c.loop-reads.invariant.going.made c.in_ok-count.ensures.reads

pub returns-then-count-eq0-clause-reads : goal.returns-then-count-eq0-clause-reads
returns-then-count-eq0-clause-reads g c =
    one_within c.loop-reads.reads most_reads _ _ _ c.loop-reads-test.true c.loop-reads.invariant.going.made c.in_ok-count.ensures.reads

pub returns-in_err-take_piece-clause-reads : goal.returns-in_err-take_piece-clause-reads
returns-in_err-take_piece-clause-reads g c =
    one_within c.loop-reads.reads most_reads _ _ _ c.loop-reads-test.true c.loop-reads.invariant.going.made c.in_ok-count.ensures.reads

pub returns-in_err-take_piece-clause-visits : goal.returns-in_err-take_piece-clause-visits
returns-in_err-take_piece-clause-visits g c = λ other.
    let p = err_from_is_err_and c.from_residual-in_err-take_piece.result c.from_residual-in_err-take_piece.ensures.1 in
    let same : p.0 ≡ c.in_err-take_piece.field-0.0 = p.2 in
    falls_more _ _ _ c.loop-reads.invariant.falls (c.in_err-take_piece.ensures.visits (λ bad.
    let lack : c.in_err-take_piece.field-0.0 ≡ Memory = cc in
    other (p.1 ∙ ap refused (same ∙ lack))))

pub returns-in_err-take_piece-clause-stale_only_when : goal.returns-in_err-take_piece-clause-stale_only_when
returns-in_err-take_piece-clause-stale_only_when g c = λ other.
    let going = c.loop-reads.invariant.going in
    let lack = c.in_err-take_piece.ensures.stale_only_when (λ same. other (same ∙ going.sound)) in
    piece_lacks c.args.intake.now _ _ _ _ _ _ c.loop-reads.reader c.take_piece.new.reader c.loop-reads.intake c.loop-reads.pulled c.split_at.result.0.now _ _
    going c.split_at.ensures.front c.in_ok-count.ensures.ok c.in_err-take_piece.ensures.asked lack

pub returns-clause-pull : goal.returns-clause-pull
returns-clause-pull g c =
    let all : c.loop-reads.reads ≡ most_reads = search rules in
    turns_over c.args.intake.now _ _ _ _ c.loop-reads.reads c.loop-reads.reader c.loop-reads.intake c.loop-reads.pulled all c.loop-reads.invariant.going
