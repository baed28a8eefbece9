use Rattle.std.proofs.Common.{◌≡◌, ◌∙◌, refl}
use Rattle.zed_compare.specs.contracts.stats.ThirdPartialEq.TheImpl.{eq-value}
use Rattle.zed_compare.specs.declared.stats.Third.{Third}
use Rattle.zed_compare.specs.declared.stats.Third.TheVariants.{Byte, Board}
use Rattle.zed_compare.specs.Registers.{same_third, third_of}
use Rattle.zed_compare.proofs.Lent.{overridden_agree}
use Rattle.zed_compare.proofs.Read.{stat_read}
use Rattle.zed_compare.proofs.stats.in_third.Goals as goal

thirds : (x y : Third) → eq-value.it x y ≡ same_third x y
thirds (Byte m) (Byte n) = refl
thirds (Byte m) (Board b) = refl
thirds (Board a) (Byte n) = refl
thirds (Board a) (Board b) = refl

pub returns : goal.returns
returns c = λ b x is.
    stat_read same_third (λ p s. third_of p s.fields.p3) c.args.views.now b x c.args.stat.now c.third_in.result c.third_in-2.result c.third_in-3.result c.third_in-4.result
    c.overridden.result is
    (rw (← c.stat.view_is) (c.third_in.ensures x)) (rw (← c.stat.view_is) (c.third_in-2.ensures x)) (rw (← c.stat.view_is) (c.third_in-3.ensures x))
    (rw (← c.stat.view_is) (c.third_in-4.ensures x))
    (c.overridden.ensures ∙ overridden_agree eq-value.it same_third thirds c.third_in.result c.third_in-2.result c.third_in-3.result c.third_in-4.result)
