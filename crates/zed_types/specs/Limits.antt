-- The numbers of the formats and their limits, by which definitions go. They are of world files of ZZT 3.2, but where a line says otherwise.
use Rattle.std.specs.Prelude.{ℕ}

-- columns of a board's table
abbrev pub table_columns : ℕ
table_columns = 60

-- rows of a board's table
abbrev pub table_rows : ℕ
table_rows = 25

-- tiles of a board's table, row after row
abbrev pub table_tiles : ℕ
table_tiles = 1500

-- most boards beside the title
abbrev pub most_boards : ℕ
most_boards = 100

-- most stats of a board beside the player
abbrev pub most_stats : ℕ
most_stats = 150

-- most bytes of a board's name
abbrev pub longest_name : ℕ
longest_name = 50

-- most bytes of a board's message
abbrev pub longest_message : ℕ
longest_message = 58

-- most bytes of a world's name and of a flag
abbrev pub longest_word : ℕ
longest_word = 20

-- most bytes of a board's body that ZZT's own tools take
abbrev pub usual_body : ℕ
usual_body = 20000

-- most bytes of a board's body that a world file can spell, since its size is a signed number of two bytes
abbrev pub largest_body : ℕ
largest_body = 32767

-- the greatest time of an edit file, which takes six bytes
abbrev pub last_time : ℕ
last_time = 281474976710655

-- the number of the time limit among the board properties of an edit file
abbrev pub time_limit_property : ℕ
time_limit_property = 5

-- the number of the rank among the board properties of an edit file
abbrev pub rank_property : ℕ
rank_property = 12

-- the element that is a player
abbrev pub player_element : ℕ
player_element = 4

-- the element that is a passage
abbrev pub passage_element : ℕ
passage_element = 11
