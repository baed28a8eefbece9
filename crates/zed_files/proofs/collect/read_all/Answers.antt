use Rattle.std.proofs.Common.{◌≡◌, ◌∙◌, ◌+◌, ◌∷◌, ◌++◌, [], Some, None, Ok, sym, refl, subst, drop, is_some, map, ap}
use Rattle.std.proofs.lemmas.Result.{err_from_is_err_and}
use mathlib.Core.Logic.{inl, inr}
use Rattle.zed_host.specs.Counting.{Rose}
use Rattle.zed_host.specs.HostContents.{file_in}
use Rattle.zed_files.specs.declared.refusal.Refusal.TheVariants.{File, Memory}
use Rattle.zed_files.specs.Collected.{FirstIsThere, IsStreamIn, world_in}
use Rattle.zed_files.specs.Files.{IsFile, IsStream, end_of}
use Rattle.zed_files.specs.Texts.{texts_of}
use Rattle.zed_host.proofs.ReadFiles.{as_held, read_so}
use Rattle.zed_host.proofs.Counts.{rose_later}
use Rattle.zed_files.proofs.Asked.{next_lost, next_refused, read_enough, read_next}
use Rattle.zed_files.proofs.Failures.{file_is_other, memory_is_other, none_later, unfailed}
use Rattle.zed_files.specs.Refusals.{file_refusal}
use Rattle.zed_files.proofs.OffStage.{end_off, file_off, is_off}
use Rattle.zed_files.proofs.Deliveries.{came_sound}
use Rattle.zed_files.proofs.FilesRead.{not_lacking, other_than_memory}
use Rattle.zed_files.proofs.OpenedFiles.{has_ended}
use Rattle.zed_files.proofs.Settled.{end_ample}
use Rattle.zed_files.proofs.Streams.{all_read, faulty_file, file_fits, first_there, fit_append, last_file, next_file, next_read, none_left, unread_file, whole_file}
use Rattle.zed_files.proofs.Wanting.{if_err}
use Rattle.zed_files.proofs.collect.read_all.Goals as goal

pub loop-name-preserved : goal.loop-name-preserved
loop-name-preserved g c =
    let old = c.loop-name.invariant in
    let held = c.as_slice.ensures.value in
    let took = c.in_ok-read.ensures.took old.done old.fit old.came in
    let file = whole_file _ _ _ _ _ c.in-None.is took.1 in
    record {
      same = c.in-Ok.ensures.kept ∙ old.same;
      calm = c.in-Ok.ensures.calm ∙ old.calm;
      uncounted = c.in-Ok.ensures.counts ∙ old.uncounted;
      there = λ t at some. first_there t c.args.names.now c.loop-name.name-index _ c.loop-name-test.true (ap is_some (c.in-Ok.ensures.bytes t (old.same ∙ at))) (old.there t at);
      done = old.done ++ took.0;
      fit = fit_append _ _ old.fit (file_fits _ _ _ _ file.2);
      came = took.2;
      asked =
          read_next g.H.Host.called c.args.names.now c.loop-name.name-index _ _ _ _ c.loop-name-test.true old.asked c.in-Ok.ensures.asked;
      read = λ t now rest at reads s is.
          let first = c.in-Ok.ensures.bytes t (old.same ∙ at) in
          next_file (IsStreamIn (Rose (g.H.Host.faults c.args.host.now) now) t (texts_of c.args.names.now)) (world_in c.loop-name.gathered.feed) c.in-Ok.bytes.items rest _ old.done took.0 file.0
          refl (λ s is. old.read t now (Some c.in-Ok.bytes.items ∷ rest) at
          (next_read _ t c.args.names.now c.loop-name.name-index _ (Some c.in-Ok.bytes.items) rest c.loop-name-test.true (inl (sym first)) reads) s is)
          (subst (λ bytes. IsFile (world_in c.loop-name.gathered.feed) bytes took.0 (Ok file.0)) held file.2) s (subst (λ w. IsStream w rest s) file.1 is);
    }

pub returns-clause-stream : goal.returns-clause-stream
returns-clause-stream g c =
    let old = c.loop-name.invariant in (
      old.done,
      old.fit,
      old.came,
      λ t at. all_read (IsStreamIn _ t (texts_of c.args.names.now)) (world_in c.loop-name.gathered.feed) [] old.done c.end_of-gathered.result
          refl (λ s is. old.read t _ [] at (none_left _ t c.args.names.now c.loop-name.name-index c.loop-name-test.false) s is) (c.end_of-gathered.ensures ∙ ap end_of c.world.ensures),
    )

-- the world is known, where no file was refused
pub returns-clause-whole : goal.returns-clause-whole
returns-clause-whole g c = λ none. has_ended c.loop-name.gathered.feed (sym (c.end_of-gathered.ensures ∙ ap end_of c.world.ensures) ∙ none)

-- which refusals may be told
pub returns-clause-ample : goal.returns-clause-ample
returns-clause-ample g c = rw c.end_of-gathered.ensures (end_ample c.world.result)

pub returns-clause-refusal : goal.returns-clause-refusal
returns-clause-refusal g c = rw c.end_of-gathered.ensures (end_off c.world.result)

pub returns-in-File-clause-stream : goal.returns-in-File-clause-stream
returns-in-File-clause-stream g c =
    let old = c.loop-name.invariant in
    let before = unfailed g.H.Host.faults g.H.Host.failed c.args.host.now c.loop-name.host old.calm old.uncounted in (
      old.done,
      old.fit,
      old.came,
      λ t at.
          let others = map (file_in t) (texts_of (drop (c.loop-name.name-index + 1) c.args.names.now)) in
          unread_file (IsStreamIn _ t (texts_of c.args.names.now)) (world_in c.loop-name.gathered.feed) others old.done File refl
          (λ s is. old.read t _ (None ∷ others) at
          (next_read _ t c.args.names.now c.loop-name.name-index _ None others c.loop-name-test.true (read_so _ _ t _ None (rose_later _ _ _ before.0) (c.in-Err.ensures.none t (old.same ∙ at) c.in-File.is)) (as_held _ t _)) s is),
    )

pub returns-in-File-clause-asked : goal.returns-in-File-clause-asked
returns-in-File-clause-asked g c =
    next_lost g.H.Host.called c.args.names.now c.loop-name.name-index _ _ _ _ c.in-Err.refusal File c.loop-name-test.true (λ lack. cc) c.loop-name.invariant.asked c.in-Err.ensures.asked c.in-File.is

pub returns-in_default-clause-failures : goal.returns-in_default-clause-failures
returns-in_default-clause-failures g c =
    let old = c.loop-name.invariant in
    none_later g.H.Host.faults g.H.Host.failed _ c.loop-name.host _ (unfailed g.H.Host.faults g.H.Host.failed _ _ old.calm old.uncounted) c.in-Err.ensures.failures.0

pub returns-in_default-clause-asked : goal.returns-in_default-clause-asked
returns-in_default-clause-asked g c =
    next_refused g.H.Host.called c.args.names.now c.loop-name.name-index _ _ _ _ c.in-Err.refusal Memory c.loop-name-test.true (memory_is_other Memory refl) c.loop-name.invariant.asked c.in-Err.ensures.asked c.in-Err.ensures.err c.in_default.not-File

-- memory was lacking behind the first file that is there
pub returns-in_default-clause-memory_only_when : goal.returns-in_default-clause-memory_only_when
returns-in_default-clause-memory_only_when g c = λ t at.
    let old = c.loop-name.invariant in
    let lack : c.in-Err.refusal ≡ Memory =
    elim c.in-Err.ensures.err [ inl memory ↦ memory | inr file ↦ absurd (c.in_default.not-File file) ] in
    first_there t c.args.names.now c.loop-name.name-index _ c.loop-name-test.true (c.in-Err.ensures.memory_only_when t (old.same ∙ at) lack) (old.there t at)

pub returns-in_err-read-clause-memory_only_when : goal.returns-in_err-read-clause-memory_only_when
returns-in_err-read-clause-memory_only_when g c = λ t at.
    let old = c.loop-name.invariant in
    if_err c.from_residual.result (λ e. FirstIsThere t (texts_of c.args.names.now))
    (λ e. first_there t c.args.names.now c.loop-name.name-index _ c.loop-name-test.true (ap is_some (c.in-Ok.ensures.bytes t (old.same ∙ at))) (old.there t at))

pub returns-in_err-read-clause-asked : goal.returns-in_err-read-clause-asked
returns-in_err-read-clause-asked g c =
    let p = err_from_is_err_and c.from_residual.result c.from_residual.ensures.1 in
    let lack : p.0 ≡ Memory = p.2 ∙ c.in_err-read.ensures.err in
    rw p.1 (read_enough g.H.Host.called c.args.names.now (c.loop-name.name-index + 1) _ _ p.0 (memory_is_other p.0 lack)
    (read_next g.H.Host.called c.args.names.now c.loop-name.name-index _ _ _ _ c.loop-name-test.true c.loop-name.invariant.asked c.in-Ok.ensures.asked))

pub returns-in-Some : goal.returns-in-Some
returns-in-Some g c =
    let old = c.loop-name.invariant in
    let held = c.as_slice.ensures.value in
    let took = c.in_ok-read.ensures.took old.done old.fit old.came in
    let file = faulty_file _ _ _ _ _ c.in-Some.error c.in-Some.is took.1 in
    record {
      stream = (
        old.done ++ took.0,
        fit_append _ _ old.fit (file_fits _ _ _ _ file),
        took.2,
        λ t at.
            let first = c.in-Ok.ensures.bytes t (old.same ∙ at) in
            let others = map (file_in t) (texts_of (drop (c.loop-name.name-index + 1) c.args.names.now)) in
            rw c.from.ensures (last_file (IsStreamIn _ t (texts_of c.args.names.now)) (world_in c.loop-name.gathered.feed) c.in-Ok.bytes.items others _ old.done took.0 c.in-Some.error
            refl (λ s is. old.read t _ (Some c.in-Ok.bytes.items ∷ others) at
            (next_read _ t c.args.names.now c.loop-name.name-index _ (Some c.in-Ok.bytes.items) others c.loop-name-test.true (inl (sym first)) (as_held _ t _)) s is)
            (rw held at file)),
      );
      whole = λ none. absurd (let no : Some c.from.result ≡ None = none in cc);
      kept = c.in-Ok.ensures.kept ∙ old.same;
      err = tt;
      refusal = is_off _ (file_refusal c.in-Some.error) c.from.ensures (file_off c.in-Some.error);
      ample = other_than_memory c.in-Some.error c.from.result (not_lacking _ _ _ c.in-Some.error file) c.from.ensures;
      memory_only_when = λ t at. tt;
      asked = read_enough g.H.Host.called c.args.names.now (c.loop-name.name-index + 1) _ _ c.from.result (λ is. file_is_other c.in-Some.error (sym c.from.ensures ∙ is))
          (read_next g.H.Host.called c.args.names.now c.loop-name.name-index _ _ _ _ c.loop-name-test.true old.asked c.in-Ok.ensures.asked);
      failures = none_later g.H.Host.faults g.H.Host.failed _ c.loop-name.host _ (unfailed g.H.Host.faults g.H.Host.failed _ _ old.calm old.uncounted) c.in-Ok.ensures.failures.0;
      file_only_when = λ is. absurd (file_is_other c.in-Some.error (let same = c.from.ensures in cc));
    }

pub read-requires : goal.read-requires
read-requires g c =
    record { sound = came_sound c.loop-name.gathered.feed c.loop-name.invariant.done c.loop-name.gathered.clash c.loop-name.invariant.came }
