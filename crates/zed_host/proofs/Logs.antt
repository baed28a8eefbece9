-- Lists of calls that grow call by call.
use Rattle.std.proofs.Common.{◌≡◌, ◌∙◌, ◌++◌, List, [], ◌∷◌, Option, Some, None, ap, append-nil, append_assoc, inl, inr, refl, subst, sym}
use Rattle.std.specs.Prelude.{option_map}
use Rattle.zed_host.specs.Calls.{Call}
use Rattle.zed_host.specs.Log.{Appends, CallsAreLogged}

-- no call was made yet
appends_none : (log : Option (List Call)) → Appends [] log log
appends_none None = inl refl
appends_none (Some calls) = inl (ap (λ z. Some z) (sym (append-nil calls)))

-- calls, and then others
appends_more : (xs ys : List Call) (a b c : Option (List Call)) → Appends xs a b → Appends ys b c → Appends (xs ++ ys) a c
appends_more xs ys a b c first (inr lost) = inr lost
appends_more xs ys a b c (inr lost) (inl next) = inr (next ∙ ap (option_map (λ before. before ++ ys)) lost)
appends_more xs ys None b c (inl one) (inl next) = inl (next ∙ ap (option_map (λ before. before ++ ys)) one)
appends_more xs ys (Some l) b c (inl one) (inl next) =
    inl (next ∙ ap (option_map (λ before. before ++ ys)) one ∙ ap (λ z. Some z) (append_assoc l xs ys))

-- a host that keeps its list at each call keeps it
pub logged_each : {H : Type 0} (called : H → Call → H → Type 0) (log : H → Option (List Call))
    → ((old : H) (c : Call) (new : H) → called old c new → Appends (c ∷ []) (log old) (log new)) → CallsAreLogged called log
logged_each called log keeps [] old new is = subst (λ h. Appends [] (log old) (log h)) (sym is) (appends_none (log old))
logged_each called log keeps (c ∷ calls) old new is =
    appends_more (c ∷ []) calls (log old) (log is.0) (log new) (keeps old c is.0 is.1) (logged_each called log keeps calls is.0 new is.2)
