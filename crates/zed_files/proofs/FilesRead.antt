-- What a file is read as, by where its reader is at the end.
use Rattle.std.proofs.Common.{◌≡◌, ◌∙◌, ◌++◌, ◌∷◌, ℕ, List, [], Option, Some, None, Result, Ok, Err, MatchResult, ap, refl, subst, sym}
use Rattle.std.specs.Prelude.{◌≢◌, IfErr, IfOk, OnErr}
use Rattle.zed_op.specs.declared.op.Edit.{Edit}
use Rattle.zed_editfile.specs.declared.error.EditFileError.{EditFileError}
use Rattle.zed_editfile.specs.declared.error.EditFileError.TheVariants.{BadEdit, CutShort, Magic, Memory, NewVersion, OtherWorld, RecordLength}
use Rattle.zed_editfile.specs.Stream.{Feeds, Progress, Reads, ending, ending_by, verdict_of}
use Rattle.zed_link.proofs.Readings.{asked_world}
use Rattle.zed_files.specs.declared.refusal.Refusal.{Refusal}
use Rattle.zed_files.specs.declared.refusal.Refusal.TheVariants as refusal
use Rattle.zed_files.specs.Files.{IsFile, ReadsFile, WantsMemory, end_by}
use Rattle.zed_files.specs.Refusals.{file_refusal}
use Rattle.zed_files.proofs.Wanting.{end_wants}

abbrev told_in : Refusal → Option Refusal
told_in r = Some r

same_end : (a b : Option EditFileError) → verdict_of a ≡ verdict_of b → a ≡ b
same_end None None is = refl
same_end None (Some e) is = absurd (let no : verdict_of None ≡ verdict_of (Some e) = is in cc)
same_end (Some e) None is = absurd (let no : verdict_of (Some e) ≡ verdict_of None = is in cc)
same_end (Some e) (Some f) is = let one : verdict_of (Some e) ≡ verdict_of (Some f) = is in let same : e ≡ f = cc in ap (λ x. Some x) same

-- where nothing is wrong a world was told
world_told : (q : Progress) → ending q ≡ None → (n : ℕ) × (q.world ≡ Some n)
world_told q is = go q.fault q.world q.rest is
  where
    go : (f : Option EditFileError) (w : Option ℕ) (rest : List ℕ) → ending_by f w rest ≡ None → (n : ℕ) × (w ≡ Some n)
    go (Some e) w rest h = absurd (let no : Some e ≡ None = h in cc)
    go None None rest h = absurd (let no : Some CutShort ≡ None = h in cc)
    go None (Some n) rest h = (n, refl)

ends_so : (asked : Option ℕ) (bytes : List ℕ) (es : List Edit) (q : Progress) (end : Option EditFileError) → Reads bytes es q
    → q.asked ≡ asked → q.fault ≢ Some Memory → ending q ≡ end
    → ReadsFile asked bytes es end q.world
ends_so asked bytes es q (Some e) reads asks calm is =
    record { progress = q; asks = asks; reads = reads; sound = calm; ends = sym (ap (λ o. end_by o q.world) is) }
ends_so asked bytes es q None reads asks calm is =
    let told = world_told q is in (
      told.0,
      told.1,
      record { progress = q; asks = asks; reads = reads; sound = calm; ends = sym (ap (λ o. end_by o q.world) is ∙ ap (end_by None) told.1) },
    )

memory_last : (q : Progress) → q.fault ≡ Some Memory → ending q ≡ Some Memory
memory_last q f = rw f refl

-- the bytes of a whole file were read, and its edits put into an empty list
pub file_read : (asked : Option ℕ) (bytes : List ℕ) (old new : List Edit) (p q : Progress) (end : Option EditFileError) → old ≡ []
    → Reads [] [] p → q.asked ≡ asked
    → Feeds bytes old new p q → verdict_of (ending q) ≡ verdict_of end → end ≢ Some Memory → ReadsFile asked bytes new end q.world
file_read asked bytes old new p q end none start asks feeds told other =
    let is : ending q ≡ end = same_end (ending q) end told in
    let all : new ≡ feeds.edits = feeds.gained ∙ ap (λ z. z ++ feeds.edits) none in
    ends_so asked bytes new q end (subst (λ z. Reads bytes z q) (sym all) (feeds.reads [] [] start)) asks (λ f. other (sym is ∙ memory_last q f)) is

-- the same by what was told at the end
pub read_to_end : (asked : Option ℕ) (bytes : List ℕ) (old new : List Edit) (p q : Progress) (end : Result (Unit {0}) EditFileError) (r : Result (Option EditFileError) Refusal)
    → old ≡ [] → Reads [] [] p → q.asked ≡ asked → Feeds bytes old new p q → end ≡ verdict_of (ending q)
    → MatchResult r (λ fault. (end ≡ verdict_of fault) × (fault ≢ Some Memory)) (λ e. (e ≡ refusal.Memory) × (end ≡ Err Memory))
    → IfOk r (λ fault. (es : List Edit) × (world : Option ℕ) × ReadsFile asked bytes es fault world)
read_to_end asked bytes old new p q end (Err e) none start asks feeds is told = tt
read_to_end asked bytes old new p q end (Ok fault) none start asks feeds is told =
    (new, q.world, file_read asked bytes old new p q fault none start asks feeds (sym is ∙ told.0) told.1)

pub told_lack : (end : Result (Unit {0}) EditFileError) (r : Result (Option EditFileError) Refusal)
    → MatchResult r (λ fault. (end ≡ verdict_of fault) × (fault ≢ Some Memory)) (λ e. (e ≡ refusal.Memory) × (end ≡ Err Memory))
    → IfErr r (λ e. e ≡ refusal.Memory)
told_lack end (Ok fault) told = tt
told_lack end (Err e) told = told.0

-- memory ran out before
pub past_wants : (asked : Option ℕ) (bytes : List ℕ) (old new : List Edit) (p q : Progress) (end : Result (Unit {0}) EditFileError) (r : Result (Option EditFileError) Refusal)
    → Reads [] [] p → q.asked ≡ asked → Feeds bytes old new p q → end ≡ verdict_of (ending q)
    → MatchResult r (λ fault. (end ≡ verdict_of fault) × (fault ≢ Some Memory)) (λ e. (e ≡ refusal.Memory) × (end ≡ Err Memory))
    → OnErr r (WantsMemory asked bytes)
past_wants asked bytes old new p q end (Ok fault) start asks feeds is told = tt
past_wants asked bytes old new p q end (Err e) start asks feeds is told = end_wants asked bytes old new p q end start asks feeds is told.1

-- ---- what a file is refused for

abbrev told_fault : EditFileError → Result ℕ EditFileError
told_fault e = Err e

abbrev told_world : ℕ → Result ℕ EditFileError
told_world n = Ok n

lacks_by : (f : Option EditFileError) (w : Option ℕ) (rest : List ℕ) → told_fault Memory ≡ end_by (ending_by f w rest) w → f ≡ Some Memory
lacks_by (Some e) w rest is = let it : told_fault Memory ≡ told_fault e = is in let same : e ≡ Memory = cc in ap (λ x. Some x) same
lacks_by None None rest is = absurd (let no : told_fault Memory ≡ told_fault CutShort = is in cc)
lacks_by None (Some n) [] is = absurd (let no : told_fault Memory ≡ told_world n = is in cc)
lacks_by None (Some n) (b ∷ rest) is = absurd (let no : told_fault Memory ≡ told_fault CutShort = is in cc)

-- never want of memory
pub not_lacking : (asked : Option ℕ) (bytes : List ℕ) (es : List Edit) (e : EditFileError) → IsFile asked bytes es (Err e) → e ≢ Memory
not_lacking asked bytes es e file is =
    let p = file.progress in
    file.sound (lacks_by p.fault p.world p.rest (ap told_fault (sym is) ∙ file.ends))

other_line : (e : EditFileError) → e ≢ Memory → file_refusal e ≡ refusal.Memory → ⊥
other_line Memory other is = other refl
other_line Magic other is = cc
other_line NewVersion other is = cc
other_line OtherWorld other is = cc
other_line RecordLength other is = cc
other_line (BadEdit c) other is = cc
other_line CutShort other is = cc

pub other_than_memory : (e : EditFileError) (r : Refusal) → e ≢ Memory → r ≡ file_refusal e → told_in r ≢ told_in refusal.Memory
other_than_memory e r other is same =
    let at : r ≡ refusal.Memory = (let both : told_in r ≡ told_in refusal.Memory = same in cc) in
    other_line e other (sym is ∙ at)

-- a world at the end is the one that was told
world_by : (o : Option EditFileError) (w : Option ℕ) (n : ℕ) → Ok n ≡ end_by o w → w ≡ Some n
world_by None None n is = absurd (let no : Ok n ≡ end_by None None = is in cc)
world_by None (Some m) n is = let it : Ok n ≡ end_by None (Some m) = is in let one : n ≡ m = cc in ap (λ k. Some k) (sym one)
world_by (Some e) w n is = absurd (let no : Ok n ≡ end_by (Some e) w = is in cc)

-- and the one that was asked for
pub world_asked : (w : ℕ) (bytes : List ℕ) (es : List Edit) (n : ℕ) → IsFile (Some w) bytes es (Ok n) → n ≡ w
world_asked w bytes es n file =
    let p = file.progress in
    asked_world bytes es p w n file.reads file.asks (world_by (ending p) p.world n file.ends)

-- a file of the world asked for
pub file_of : (w : ℕ) (bytes : List ℕ) (es : List Edit) (end : Option EditFileError) (world : Option ℕ)
    → ReadsFile (Some w) bytes es end world
    → ReadsFile (Some w) bytes es end (Some w)
file_of w bytes es (Some e) world file = file
file_of w bytes es None world file = (file.0, ap (λ n. Some n) (sym (world_asked w bytes es file.0 file.2)), file.2)
