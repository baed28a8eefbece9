-- What a session tells of the refusals of a link.
use Rattle.std.proofs.Common.{◌≡◌, ◌≢◌, refl}
use Rattle.zed_link.specs.declared.error.LinkError.{LinkError}
use Rattle.zed_link.specs.declared.error.LinkError.TheVariants as link
use Rattle.zed_session.specs.declared.error.SessionError.TheVariants.{NoLink, Stale}
use Rattle.zed_session.specs.Told.{link_refusal}

-- a link that refuses is there
pub link_is_there : (e : LinkError) → link_refusal e ≢ NoLink
link_is_there link.Memory = λ same. cc
link_is_there _ = λ same. cc

-- Stale is told for Stale alone
pub stale_from : (e : LinkError) → link_refusal e ≡ Stale → e ≡ link.Stale
stale_from link.Stale = λ same. refl
stale_from _ = λ same. absurd (cc)
