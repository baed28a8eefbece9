-- Laws of pictures.
use Rattle.std.specs.Prelude.{◌≡◌, ℕ, ◌%◌, ◌/◌, false}
use Rattle.zed_world.specs.declared.board.BoardData.{BoardData}
use Rattle.zed_world.specs.declared.header.Header.{Header}
use Rattle.zed_play.specs.Opening.{play_of}
use Rattle.zed_screen.specs.Panel.{is_on_panel, play_cell}
use Rattle.zed_screen.specs.Picture.{data_cell}

-- before the first step a playtest shows the picture of its board, but for what is written beside the board
abbrev pub PlaytestShowsItsBoard : Type 0
PlaytestShowsItsBoard =
    (h : Header) (b : BoardData) (tick k : ℕ) → is_on_panel (k % 80) (k / 80) ≡ false →
    play_cell (play_of h b tick) k ≡ data_cell b k
