use Rattle.std.proofs.Common.{◌≡◌, ◌∙◌, true, false, Some, ap, sym, string_bytes, arith, [], drop, drop_of_length-le}
use Rattle.std.proofs.lemmas.Cmp.{nat_list_cmp_total}
use Rattle.std.specs.FinMap.{get-from_entries}
use Rattle.zed_host.specs.Memory.{entries_of}
use Rattle.std.specs.Str.{bytes_eq}
use Rattle.zed_host.proofs.Entries.{find_from, find_step}
use Rattle.zed_host.proofs.memory.found.Goals as goal

pub returns-then-eq : goal.returns-then-eq
returns-then-eq c =
    let same : bytes_eq c.args.name.now (string_bytes c.entry-item.result.name) ≡ true =
    rw c.as_str.ensures.value at (sym c.eq.ensures ∙ c.if-eq.true) in
    let here = find_step c.args.entries.now c.loop-entry.entry-index c.entry-item.result c.args.name.now true c.loop-entry-test.true c.entry-item.is same in
    ap (λ bytes. Some bytes) c.as_slice.ensures.value ∙ sym here ∙ c.loop-entry.invariant
    ∙ sym (get-from_entries nat_list_cmp_total (entries_of c.args.entries.now) c.args.name.now)

pub loop-entry-preserved : goal.loop-entry-preserved
loop-entry-preserved c =
    let same : bytes_eq c.args.name.now (string_bytes c.entry-item.result.name) ≡ false =
    rw c.as_str.ensures.value at (sym c.eq.ensures ∙ c.if-eq.false) in
    let here = find_step c.args.entries.now c.loop-entry.entry-index c.entry-item.result c.args.name.now false c.loop-entry-test.true c.entry-item.is same in
    sym here ∙ c.loop-entry.invariant

pub returns : goal.returns
returns c =
    let past : drop c.loop-entry.entry-index c.args.entries.now ≡ [] = drop_of_length-le c.args.entries.now (omega arith) in
    ap (find_from c.args.name.now) (sym past) ∙ c.loop-entry.invariant
    ∙ sym (get-from_entries nat_list_cmp_total (entries_of c.args.entries.now) c.args.name.now)
