-- Refusals of links as those of a session.
use Rattle.zed_link.specs.declared.error.LinkError.{LinkError}
use Rattle.zed_link.specs.declared.error.LinkError.TheVariants as link
use Rattle.zed_session.specs.declared.error.SessionError.{SessionError}
use Rattle.zed_session.specs.declared.error.SessionError.TheVariants.{Memory, Magic, NewVersion, OtherWorld, RecordLength, BadEdit, CutShort, Clash, Stale, LinkFault, TooManyTurns}

-- the refusal of a session for one of a link
abbrev pub link_refusal : LinkError → SessionError
link_refusal link.Memory = Memory
link_refusal link.Magic = Magic
link_refusal link.NewVersion = NewVersion
link_refusal link.OtherWorld = OtherWorld
link_refusal link.RecordLength = RecordLength
link_refusal (link.BadEdit c) = BadEdit c
link_refusal link.CutShort = CutShort
link_refusal (link.Clash s) = Clash s
link_refusal link.Stale = Stale
link_refusal link.LinkFault = LinkFault
link_refusal link.TooManyTurns = TooManyTurns
