-- A picture as text in any form.
use Rattle.std.specs.Prelude.{ℕ, List}
use Rattle.zed_look.specs.declared.form.Form.{Form}
use Rattle.zed_look.specs.declared.form.Form.TheVariants.{Coloured, Plain, Ruled, Svg}
use Rattle.zed_look.specs.declared.look.Picture.{Picture}
use Rattle.zed_look.specs.Coloured.{coloured_text}
use Rattle.zed_look.specs.Plain.{plain_text}
use Rattle.zed_look.specs.Ruled.{ruled_text}
use Rattle.zed_look.specs.Svg.{svg_text}

-- a picture as text in this form
abbrev pub text_in : Form → Picture → List ℕ
text_in Coloured picture = coloured_text picture
text_in Plain picture = plain_text picture
text_in Ruled picture = ruled_text picture
text_in Svg picture = svg_text picture.rows
