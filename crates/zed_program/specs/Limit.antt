-- The limit that a command keeps to.
use Rattle.zed_types.specs.Limits.{usual_body, largest_body}
use Rattle.zed_words.specs.declared.profile.Profile.{Profile}
use Rattle.zed_words.specs.declared.profile.Profile.TheVariants.{Usual, Big}
use Rattle.std.specs.Prelude.{ℕ}

-- the most bytes of a board's body in a profile
abbrev pub limit_of : Profile → ℕ
limit_of Usual = usual_body
limit_of Big = largest_body
