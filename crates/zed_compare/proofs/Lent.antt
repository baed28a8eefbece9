-- Values that are lent, told apart as what they are.
use Rattle.std.proofs.Common.{◌≡◌, Bool, Option, Some, None, refl}
use Rattle.std.specs.Borrow.{Bor}
use Rattle.std.specs.Option.{option_copied, option_eq}
use Rattle.zed_sides.specs.Overridden.{overridden}

lent_eq : {T : Type 0} (same : T → T → Bool) (a b : Option (Bor T))
    → option_eq (λ x y. same x.now y.now) a b ≡ option_eq same (option_copied a) (option_copied b)
lent_eq same None None = refl
lent_eq same None (Some y) = refl
lent_eq same (Some x) None = refl
lent_eq same (Some x) (Some y) = refl

-- what is overridden of what is lent is overridden of it
pub overridden_lent : {T : Type 0} (same : T → T → Bool) (base mine theirs union : Option (Bor T))
    → overridden (option_eq (λ x y. same x.now y.now)) base mine theirs union
    ≡ overridden (option_eq same) (option_copied base) (option_copied mine) (option_copied theirs) (option_copied union)
overridden_lent same base mine theirs union =
    rw (lent_eq same mine base, lent_eq same union mine, lent_eq same theirs base, lent_eq same union theirs) refl

agree_eq : {V : Type 0} (f g : V → V → Bool) → ((x y : V) → f x y ≡ g x y) → (a b : Option V) → option_eq f a b ≡ option_eq g a b
agree_eq f g agree None None = refl
agree_eq f g agree None (Some y) = refl
agree_eq f g agree (Some x) None = refl
agree_eq f g agree (Some x) (Some y) = agree x y

-- what is overridden by a test is overridden by one that agrees with it
pub overridden_agree : {V : Type 0} (f g : V → V → Bool) → ((x y : V) → f x y ≡ g x y) → (base mine theirs union : Option V)
    → overridden (option_eq f) base mine theirs union ≡ overridden (option_eq g) base mine theirs union
overridden_agree f g agree base mine theirs union =
    rw (agree_eq f g agree mine base, agree_eq f g agree union mine, agree_eq f g agree theirs base, agree_eq f g agree union theirs) refl
