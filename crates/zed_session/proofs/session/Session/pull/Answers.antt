use Rattle.std.proofs.Common.{◌≡◌, ◌∙◌, ◌<◌, Err, false, inl, inr, arith, ap, length, rules, refl}
use Rattle.zed_session.specs.declared.error.SessionError.TheVariants.{NoLink, Stale}
use Rattle.zed_session.specs.Told.{link_refusal}
use Rattle.zed_session.proofs.Answered.{link_is_there, stale_from}
use Rattle.zed_session.proofs.session.Session.pull.Goals as goal

-- the link is gone
pub returns-in-Err : goal.returns-in-Err
returns-in-Err g c =
    let within : c.args.i < length c.args.self.now.links.items = search rules in
    let sound : c.args.self.now.document.is_stale ≡ false = search rules in
    let told : c.from.result ≡ link_refusal c.in-Err.failed.error = c.from.ensures in
    let there : c.from.result ≡ NoLink → ⊥ = λ same. link_is_there c.in-Err.failed.error (let it : link_refusal c.in-Err.failed.error ≡ NoLink = cc in it) in
    let fresh : c.from.result ≡ Stale → ⊥ = λ same.
    let it : link_refusal c.in-Err.failed.error ≡ Stale = cc in
    c.in-Err.ensures.never_stale (stale_from c.in-Err.failed.error it) in
    record {
      no_link = (λ same. absurd (there cc), λ past. absurd (omega (arith, within, past)));
      stale = (λ same. absurd (fresh cc), λ both. absurd (let stale = both.1 in cc));
      ok = tt;
      err = λ not_link not_stale. (c.in-Err.failed.error, told, (_, c.in-Err.ensures.gone_pull));
      others = tt;
      calm = tt;
      stalls = tt;
      writes = tt;
      accepts = tt;
      kept = λ which. absurd (elim which [
        | inl same ↦ there cc
        | inr same ↦ fresh cc
      ]);
      dropped = λ not_link not_stale. c.in-Err.ensures.taken_out;
      world = c.in-Err.ensures.world;
      sound = λ ample. c.in-Err.ensures.stale (λ lack. ample (ap Err (told ∙ ap link_refusal lack)));
      stale_only_when = λ other. (_, c.in-Err.ensures.stale_only_when other);
      visits = λ ample. c.in-Err.ensures.visits (λ lack. ample (ap Err (told ∙ ap link_refusal lack)));
      stage = refl;
    }
