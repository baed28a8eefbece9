use Rattle.zed_types.proofs.Passing.{put_late-none_later}
use Rattle.zed_code.proofs.laws.rising_insertions_go_directly.Goals as goal

pub returns : goal.returns
returns c = record { rule = λ a s run xs n. put_late-none_later s run a xs n }
