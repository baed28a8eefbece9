use Rattle.std.proofs.Common.{◌∙◌, ◌≡◌, [], drop, arith, sym}
use Rattle.std.proofs.lemmas.List.{drop_all}
use Rattle.zed_edit.proofs.Lists.{cons_at}
use Rattle.zed_edit.proofs.opened.flags_of.Goals as goal

pub returns-clause-result : goal.returns-clause-result
returns-clause-result c =
    let xs = c.args.flags.now in
    let end : [] ≡ drop 10 xs = sym (drop_all 10 xs (omega arith)) in
    let from_9 =
    cons_at xs 9 c.j-item.result c.in_ok-copy-10.field-0 _ (omega arith) (c.in_ok-copy-10.ensures.result ∙ c.j-item.is) end in
    let from_8 =
    cons_at xs 8 c.i-item.result c.in_ok-copy-9.field-0 _ (omega arith) (c.in_ok-copy-9.ensures.result ∙ c.i-item.is) from_9 in
    let from_7 =
    cons_at xs 7 c.h-item.result c.in_ok-copy-8.field-0 _ (omega arith) (c.in_ok-copy-8.ensures.result ∙ c.h-item.is) from_8 in
    let from_6 =
    cons_at xs 6 c.g-item.result c.in_ok-copy-7.field-0 _ (omega arith) (c.in_ok-copy-7.ensures.result ∙ c.g-item.is) from_7 in
    let from_5 =
    cons_at xs 5 c.f-item.result c.in_ok-copy-6.field-0 _ (omega arith) (c.in_ok-copy-6.ensures.result ∙ c.f-item.is) from_6 in
    let from_4 =
    cons_at xs 4 c.e-item.result c.in_ok-copy-5.field-0 _ (omega arith) (c.in_ok-copy-5.ensures.result ∙ c.e-item.is) from_5 in
    let from_3 =
    cons_at xs 3 c.d-item.result c.in_ok-copy-4.field-0 _ (omega arith) (c.in_ok-copy-4.ensures.result ∙ c.d-item.is) from_4 in
    let from_2 =
    cons_at xs 2 c.c-item.result c.in_ok-copy-3.field-0 _ (omega arith) (c.in_ok-copy-3.ensures.result ∙ c.c-item.is) from_3 in
    let from_1 =
    cons_at xs 1 c.b-item.result c.in_ok-copy-2.field-0 _ (omega arith) (c.in_ok-copy-2.ensures.result ∙ c.b-item.is) from_2 in
    let from_0 =
    cons_at xs 0 c.a-item.result c.in_ok-copy.field-0 _ (omega arith) (c.in_ok-copy.ensures.result ∙ c.a-item.is) from_1 in
    from_0
