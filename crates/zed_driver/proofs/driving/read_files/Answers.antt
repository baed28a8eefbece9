use Rattle.std.proofs.Common.{◌≡◌, ◌++◌, ◌∷◌, [], Err, arith, inl, inr, refl, subst, sym}
use Rattle.std.proofs.lemmas.Result.{err_from_is_err_and}
use Rattle.zed_driver.specs.Hosts.{hosts}
use Rattle.zed_driver.specs.Reads.{LacksMemory, Read}
use Rattle.zed_driver.specs.Driven.{IsStopped}
use Rattle.zed_driver.proofs.Reading.{more, so}
use Rattle.zed_driver.proofs.driving.read_files.Goals as goal

pub returns-in_err-give-in-Some-clause-err : goal.returns-in_err-give-in-Some-clause-err
returns-in_err-give-in-Some-clause-err g c =
    let h = hosts g.H.Host.contents g.H.Host.called g.H.Host.failed g.H.Host.faults in
    let first = c.args.command.now in
    let p = err_from_is_err_and c.from_residual-in_err-give-in-Some.result c.from_residual-in_err-give-in-Some.ensures.1 in
    let ok = c.in_ok-input.ensures.ok in
    let read = rw c.in-Some.is at ok in
    rw p.1 (more h (g.C.Command.Wants first) (λ files mid. (c.loop.host ≡ mid) × g.C.Command.Stands first files c.loop.command)
    (IsStopped h (g.C.Command.Wants first) (g.C.Command.Comes first) p.0 c.read_next.new.host)
    read.0 c.in-Some.input c.args.host.now c.read_next.new.host c.loop.invariant.follows
    (λ files mid at. (
      read.2 first files at.1,
      subst (λ m. Read h read.0 c.in-Some.input m c.read_next.new.host) at.0 read.3,
      inr (refl, subst (λ e. g.C.Command.Comes first (files ++ c.in-Some.input ∷ []) (Err e)) (sym p.2) (c.in_err-give-in-Some.ensures.stands first files at.1)),
    )))

pub returns-in_err-input-clause-err : goal.returns-in_err-input-clause-err
returns-in_err-input-clause-err g c =
    let h = hosts g.H.Host.contents g.H.Host.called g.H.Host.failed g.H.Host.faults in
    let first = c.args.command.now in
    let p = err_from_is_err_and c.from_residual.result c.from_residual.ensures.1 in
    let lack = c.in_err-input.ensures.err in
    rw p.1 (so h (g.C.Command.Wants first) (λ files mid. (c.loop.host ≡ mid) × g.C.Command.Stands first files c.loop.command)
    (IsStopped h (g.C.Command.Wants first) (g.C.Command.Comes first) p.0 c.read_next.new.host) c.args.host.now c.loop.invariant.follows
    (λ files mid at. inl (p.2, (lack.0, lack.1 first files at.1, subst (λ m. LacksMemory h lack.0 m c.read_next.new.host) at.0 lack.2))))

pub loop-preserved : goal.loop-preserved
loop-preserved g c =
    let h = hosts g.H.Host.contents g.H.Host.called g.H.Host.failed g.H.Host.faults in
    let first = c.args.command.now in
    let ok = c.in_ok-input.ensures.ok in
    let read = rw c.in-Some.is at ok in
    record {
      follows = more h (g.C.Command.Wants first) (λ files mid. (c.loop.host ≡ mid) × g.C.Command.Stands first files c.loop.command)
          (λ files mid. (c.read_next.new.host ≡ mid) × g.C.Command.Stands first files c.give.new.self)
          read.0 c.in-Some.input c.args.host.now c.read_next.new.host c.loop.invariant.follows
          (λ files mid at. (
            read.2 first files at.1,
            subst (λ m. Read h read.0 c.in-Some.input m c.read_next.new.host) at.0 read.3,
            (refl, c.in_ok-give-in-Some.ensures.stands first files at.1),
          ));
      fewer = omega (arith, c.loop.invariant.fewer, c.in_ok-give-in-Some.ensures.fewer);
    }
