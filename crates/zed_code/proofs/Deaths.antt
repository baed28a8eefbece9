-- Where a deletion begins, and what it looks at.
use Rattle.std.proofs.Common.{◌≡◌, ℕ, List, length, take, ◌∙◌, sym, subst, arith, Result, Ok, Err, OnErr}
use Rattle.std.proofs.lemmas.List.{take_all}
use Rattle.zed_types.specs.declared.names.ElemId.{ElemId}
use Rattle.zed_types.specs.declared.text.ByteRange.{ByteRange}
use Rattle.zed_code.specs.declared.run.Run.{Run}
use Rattle.zed_code.specs.declared.block.Block.{Block}
use Rattle.zed_code.specs.declared.block.Spot.{Spot}
use Rattle.zed_code.specs.Blocks.{lists, joined, before_spot}
use Rattle.zed_code.specs.Kept.{NoneFrom}
use Rattle.zed_code.specs.Runs.{sought, kill_runs}
use Rattle.zed_code.proofs.Joins.{none-sought}
use Rattle.zed_code.proofs.Kills.{cut_none}

-- the same place of the same blocks, for the same name
pub place-of : (at : Spot) (id name : ElemId) (bs cs : List Block) → id ≡ name → bs ≡ cs
    → before_spot at (lists bs) ≡ sought id.name.stamp id.name.index (joined (lists bs))
    → before_spot at (lists cs) ≡ sought name.name.stamp name.name.index (joined (lists cs))
place-of at id name bs cs e f h =
    let P : ElemId → Type 0 = λ x. before_spot at (lists bs) ≡ sought x.name.stamp x.name.index (joined (lists bs)) in
    let Q : List Block → Type 0 = λ xs. before_spot at (lists xs) ≡ sought name.name.stamp name.name.index (joined (lists xs)) in
    subst Q f (subst P e h)

-- where no run has bytes of a range, nothing dies
pub kills-none : (x : ByteRange) (rs : List Run) (n : ℕ) → n ≡ sought x.stamp x.first rs → n ≡ length rs → rs ≡ kill_runs x rs
kills-none x rs n e l =
    let N : List Run → Type 0 = λ qs. NoneFrom x.stamp x.first qs in
    let all : take (sought x.stamp x.first rs) rs ≡ rs = take_all (sought x.stamp x.first rs) rs (omega (arith, e, l)) in
    sym (cut_none x rs (subst N all (none-sought x.stamp x.first rs)))

-- before the place that was sought nothing dies, wherever its block is moved
pub none-before : (x : ByteRange) (old new : List Run) (n m : ℕ) → n ≡ sought x.stamp x.first old → m ≡ n → new ≡ old
    → NoneFrom x.stamp x.first (take m new)
none-before x old new n m e f same =
    let P : ℕ → Type 0 = λ k. NoneFrom x.stamp x.first (take k old) in
    let Q : List Run → Type 0 = λ qs. NoneFrom x.stamp x.first (take m qs) in
    subst Q (sym same) (subst P (sym (f ∙ e)) (none-sought x.stamp x.first old))

-- what is said where memory is refused
pub any_err : {A E P : Type 0} (r : Result A E) → P → OnErr r P
any_err (Ok x) p = tt
any_err (Err e) p = p
