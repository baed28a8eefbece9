-- What a feed is seen as.
use Rattle.zed_editfile.specs.Stream.{Progress}
use Rattle.zed_document.specs.Replica.{Replica}

-- where the reader of the file is, and the document that takes its edits
pub record FeedState : Type 0 where
  pub progress : Progress
  pub document : Replica
