-- Whether all edits of one file are in another.
use Rattle.std.proofs.Common.{◌≡◌, ◌∙◌, ◌↔◌, ℕ, Bool, true, false, not, List, refl, ap, sym, subst}
use Rattle.std.specs.Prelude.{Contains, IsTrue}
use Rattle.zed_op.specs.declared.op.Edit.{Edit}
use Rattle.zed_op.specs.Set.{set_of}
use Rattle.zed_editfile.specs.Laws.{ReadsOneWay, TextsAreRead}
use Rattle.zed_system.specs.Loss.{Has, HasAll, IsEditFile}
use Rattle.zed_system.proofs.Files.{one_file}

-- two files of which the one has all of the other are of one world
pub one_world : ReadsOneWay → TextsAreRead → (m n : ℕ) (es fs : List Edit) (old new : List ℕ) → IsEditFile m es old → IsEditFile n fs new
    → HasAll new old → m ≡ n
one_world one texts m n es fs old new is_file is_new has =
    let a = one_file one texts has.world m has.edits es old has.is_file is_file in
    let b = one_file one texts has.world n has.others fs new has.is_new is_new in
    sym a.0 ∙ b.0

-- the new file has all of the old one where its set has each of the edits
pub has_all : (m n : ℕ) (es fs set : List Edit) (old new : List ℕ) → m ≡ n → IsEditFile m es old → IsEditFile n fs new → set ≡ set_of fs
    → ((e : Edit) → Contains es e → Has set e) → HasAll new old
has_all m n es fs set old new same is_file is_new gathered each =
    record {
      world = m;
      edits = es;
      others = fs;
      is_file = is_file;
      is_new = subst (λ w. IsEditFile w fs new) (sym same) is_new;
      all = λ e there. subst (λ s. Has s e) gathered (each e there);
    }

-- and only then
pub has_each : ReadsOneWay → TextsAreRead → (m n : ℕ) (es fs set : List Edit) (old new : List ℕ) → IsEditFile m es old → IsEditFile n fs new
    → set ≡ set_of fs → HasAll new old → (e : Edit) → Contains es e → Has set e
has_each one texts m n es fs set old new is_file is_new gathered has e there =
    let a = one_file one texts has.world m has.edits es old has.is_file is_file in
    let b = one_file one texts has.world n has.others fs new has.is_new is_new in
    let found = has.all e (subst (λ xs. Contains xs e) (sym a.1) there) in
    subst (λ s. Has s e) (ap set_of b.1 ∙ sym gathered) found

-- what a test answers that says whether a set has each of the edits
pub told : (b : Bool) (all each : Type 0) → (each → all) → (all → each) → IsTrue b ↔ each → (not b ≡ false → all) × (all → not b ≡ false)
told true all each there back is = (λ well. there (is.0 refl), λ has. refl)
told false all each there back is = (λ no. absurd cc, λ has. let never = is.1 (back has) in absurd cc)
