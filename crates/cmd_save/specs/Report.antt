-- What `check` tells of a world.
use Rattle.zed_op.specs.declared.op.Edit.{Edit}
use Rattle.zed_export.specs.declared.warning.Warning.{Warning}
use Rattle.zed_export.specs.declared.warning.Warning.TheVariants.{PlayerTile, OffBoard, SamePlace}
use Rattle.std.specs.Prelude.{ℕ, List, ◌++◌, codes, length}
use Rattle.std.specs.List.{flat_map}
use Rattle.std.specs.Fmt.{decimal}
use Rattle.zed_world.specs.Contents.{Contents}
use Rattle.zed_document.specs.Held.{held_stamps}
use Rattle.zed_world.specs.Writing.{world_text}
use Rattle.zed_export.specs.Warnings.{warnings_of}
use Rattle.zed_files.specs.Lines.{bytes_line, ended, pair_of}

-- what looks wrong, by the numbers of board and stat
abbrev pub warning_line : Warning → List ℕ
warning_line (PlayerTile b) = ended (codes "PlayerTile " ++ decimal b)
warning_line (OffBoard b s) = ended (codes "OffBoard " ++ pair_of b s)
warning_line (SamePlace b s) = ended (codes "SamePlace " ++ pair_of b s)

-- the counts of edits, held ones, boards with the title, and bytes of the world file
abbrev pub counts_line : ℕ → ℕ → ℕ → ℕ → List ℕ
counts_line edits held boards bytes =
    decimal edits ++ (codes " edits, " ++ (decimal held ++ (codes " held, " ++ (decimal boards ++ (codes " boards, " ++ bytes_line bytes)))))

-- the warnings of a world, one a line, and then the counts of the edits that it was made of
abbrev pub report_of : Contents → List Edit → List ℕ
report_of w es =
    flat_map warning_line (warnings_of w) ++ counts_line (length es) (length (held_stamps es)) (length w.boards) (length (world_text w))
