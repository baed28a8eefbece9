-- Waiting edits stay listed under the things that they name.
use Rattle.std.proofs.Common.{◌≡◌, ◌∙◌, false, List, [], Option, Some, refl, ap, subst, sym}
use Rattle.std.specs.BTreeMap.{insert_entry, is_at}
use Rattle.std.specs.List.{find, list_any}
use Rattle.std.specs.Map.{lookup, remove_entry, values_of}
use Rattle.zed_types.specs.declared.stamp.Stamp.{Stamp}
use Rattle.zed_types.specs.Stamp.{stamp_cmp}
use Rattle.zed_op.specs.declared.op.Edit.{Edit}
use Rattle.zed_op.specs.declared.thing.Thing.{Thing}
use Rattle.zed_op.specs.Set.{IsRising, with_edit}
use Rattle.zed_inbox.specs.Waiting.{without}
use Rattle.zed_inbox.specs.Kept.{stamped, ListsAlso, ListsNoMore, ListsTheSame, AreKept}
use Rattle.zed_inbox.proofs.Stamped.{has_stamp, lookup_stamped, remove_stamped, insert_stamped, find_none, values_stamped, kept_stamped}
use Rattle.zed_inbox.proofs.Taking.{rising_without}
use Rattle.zed_inbox.proofs.Holding.{listed_more, listed_less, listed_same, listed_back}

pub whole_empty : (m : List (Stamp × Edit)) (ws : List (Thing × Stamp)) → m ≡ [] → ws ≡ [] → AreKept m ws
whole_empty m ws no_edits no_waits =
    subst (λ q. AreKept q ws) (sym no_edits) (subst (λ v. AreKept [] v) (sym no_waits) (record { under = refl; rising = tt; listed = λ x s. refl }))

pub whole_still : (m n : List (Stamp × Edit)) (ws : List (Thing × Stamp)) → AreKept m ws → n ≡ m → AreKept n ws
whole_still m n ws whole is = subst (λ q. AreKept q ws) (sym is) whole

-- m and ws are the map and the index before, n and us those after
module _ (m n : List (Stamp × Edit)) (ws us : List (Thing × Stamp)) (whole : AreKept m ws) where
  module _ (e : Edit) (new : list_any (has_stamp e.stamp) (values_of m) ≡ false) where
    made : n ≡ insert_entry stamp_cmp m e.stamp e → n ≡ stamped (with_edit e (values_of m))
    made is =
        is ∙ ap (λ q. insert_entry stamp_cmp q e.stamp e) whole.under ∙ insert_stamped e (values_of m) (find_none e.stamp (values_of m) new)

    pub edits_more : n ≡ insert_entry stamp_cmp m e.stamp e → values_of n ≡ with_edit e (values_of m)
    edits_more is = values_stamped n (with_edit e (values_of m)) (made is)

    pub whole_more : n ≡ insert_entry stamp_cmp m e.stamp e → IsRising (with_edit e (values_of m)) → ListsAlso e ws us → AreKept n us
    whole_more is rises also =
        kept_stamped n (with_edit e (values_of m)) us (made is) rises (listed_more e (values_of m) ws us new whole.listed also)

    pub whole_back : n ≡ m → (mid : List (Thing × Stamp)) → ListsAlso e ws mid → ListsNoMore e mid us → AreKept n us
    whole_back is mid also gone = subst (λ q. AreKept q us) (sym is) (record {
      under = whole.under;
      rising = whole.rising;
      listed = listed_back e (values_of m) ws mid us new whole.listed also gone;
    })

  pub whole_same : n ≡ m → ListsTheSame ws us → AreKept n us
  whole_same is same = subst (λ q. AreKept q us) (sym is) (record {
    under = whole.under;
    rising = whole.rising;
    listed = listed_same (values_of m) ws us whole.listed same;
  })

  module _ (s : Stamp) (is : n ≡ remove_entry (is_at (stamp_cmp s)) m) where
    gone : n ≡ stamped (without s (values_of m))
    gone = is ∙ ap (λ q. remove_entry (is_at (stamp_cmp s)) q) whole.under ∙ remove_stamped s (values_of m)

    pub edits_less : values_of n ≡ without s (values_of m)
    edits_less = values_stamped n (without s (values_of m)) gone

    pub whole_less : (r : Option Edit) (e : Edit) → r ≡ lookup (is_at (stamp_cmp s)) m → r ≡ Some e → ListsNoMore e ws us → AreKept n us
    whole_less r e look some no_more =
        let found : find (has_stamp s) (values_of m) ≡ Some e =
        sym (lookup_stamped s (values_of m)) ∙ sym (ap (λ q. lookup (is_at (stamp_cmp s)) q) whole.under) ∙ sym look ∙ some in
        kept_stamped n (without s (values_of m)) us gone (rising_without s (values_of m) whole.rising) (listed_less s e (values_of m) ws us whole.rising found whole.listed no_more)
