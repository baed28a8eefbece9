use Rattle.std.proofs.Common.{◌≡◌, ℕ, ◌+◌, ◌<◌, ◌≤◌, true, false, not, List, [], ◌∷◌, ◌++◌, length, drop, ap, sym, ◌∙◌, arith, add-zero}
use Rattle.std.specs.Prelude.{filter, Option}
use Rattle.std.specs.List.{flat_map}
use Rattle.std.proofs.lemmas.List.{length_push, drop_all}
use Rattle.zed_types.specs.declared.names.TextId.{TextId}
use Rattle.zed_world.specs.Writing.{code_text, stat_text}
use Rattle.zed_edit.specs.declared.plain.Stat.{Stat}
use Rattle.zed_view.specs.View.{board_at, stat_at, no_stat}
use Rattle.zed_export.specs.World.{exported_code, exported_above}
use Rattle.zed_export.specs.Limits.{told}
use Rattle.zed_export.proofs.Live.{next_passes, next_fails}
use Rattle.zed_export.proofs.Sizes.{one_more_stat}
use Rattle.zed_export.proofs.size.stats_bytes.Goals as goal
use Rattle.zed_export.proofs.size.stats_bytes.Goals.{then-not-stat, else-not-stat}

pub loop-j-preserved : goal.loop-j-preserved
loop-j-preserved c =
    let p = c.args.view.now in
    let b = board_at p c.args.i in
    let s = stat_at b c.loop-j.j in
    let before = c.loop-j.texts.items in
    let is_live = λ (x : Stat). not x.removed in
    let left = filter is_live (drop (c.loop-j.j + 1) b.stats) in
    let within : c.loop-j.j < length b.stats = omega (arith, c.stats-j-end.ensures) in
    elim c.if-not-stat.branch [
      | then-not-stat w ↦
          let live : not s.removed ≡ true = ap (λ (x : Stat). not x.removed) (sym c.stat.ensures) ∙ ap not w.if-not-stat.true in
          let next = next_passes is_live b.stats c.loop-j.j no_stat within live in
          let own = c.stat.result.1.now.values.fields.text in
          let text : own ≡ s.fields.text = ap (λ (x : Stat). x.fields.text) c.stat.ensures in
          let items : c.if-not-stat.texts.items ≡ before ++ s.fields.text ∷ [] = cc in
          let program : w.program_bytes-program.result ≡ length (code_text (exported_code p before s.fields.text))
          = w.program_bytes-program.ensures ∙ ap (λ (xs : List (Option TextId)). length (code_text (exported_code p xs own))) w.as_slice.ensures ∙ ap (λ (t : Option TextId). length (code_text (exported_code p before t))) text in
          let bytes : c.if-not-stat.bytes ≡ told (told (c.loop-j.bytes + 33) + w.program_bytes-program.result)
          = w.bytes-is ∙ w.saturating_add-bytes.ensures ∙ ap (λ (n : ℕ). told (n + w.program_bytes-program.result)) w.saturating_add.ensures in
          let room : length before + length (filter is_live (drop c.loop-j.j b.stats)) ≤ 151 = c.loop-j.invariant.room in
          record {
            counts = rw (bytes, items) (one_more_stat p b before s left c.loop-j.bytes w.program_bytes-program.result program
                ∙ ap (λ (ss : List Stat). told (c.loop-j.bytes + length (flat_map stat_text (exported_above p b before ss)))) (sym next) ∙ c.loop-j.invariant.counts);
            room = rw items (omega (arith, length_push before s.fields.text, ap length next));
            fits = omega (arith, w.bytes-is);
            inline = cc;
          }
      | else-not-stat w ↦
          let gone : not s.removed ≡ false = ap (λ (x : Stat). not x.removed) (sym c.stat.ensures) ∙ ap not w.if-not-stat.false in
          let next = next_fails is_live b.stats c.loop-j.j no_stat within gone in
          rw (w.bytes-is, w.texts-is, sym next) c.loop-j.invariant
    ]

pub returns : goal.returns
returns c =
    let p = c.args.view.now in
    let b = board_at p c.args.i in
    let is_live = λ (x : Stat). not x.removed in
    let none = ap (filter is_live) (drop_all c.loop-j.j b.stats (omega (arith, c.stats-j-end.ensures))) in
    let total : told (c.loop-j.bytes + 0) ≡ told (length (flat_map stat_text (exported_above p b [] (filter is_live b.stats))))
    = ap (λ (ss : List Stat). told (c.loop-j.bytes + length (flat_map stat_text (exported_above p b c.loop-j.texts.items ss)))) (sym none) ∙ c.loop-j.invariant.counts in
    sym c.loop-j.invariant.fits ∙ ap told (sym (add-zero c.loop-j.bytes)) ∙ total
