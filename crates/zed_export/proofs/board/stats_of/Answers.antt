use Rattle.std.proofs.Common.{◌≡◌, ◌+◌, ◌<◌, true, false, not, List, [], ◌∷◌, ◌++◌, length, drop, Option, ap, sym, ◌∙◌, arith, append_assoc}
use Rattle.std.specs.Prelude.{filter}
use Rattle.std.proofs.lemmas.List.{length_push}
use Rattle.zed_types.specs.declared.names.TextId.{TextId}
use Rattle.zed_types.proofs.Facts.{all_joined}
use Rattle.zed_world.specs.declared.stat.StatData.{StatData}
use Rattle.zed_edit.specs.declared.plain.Stat.{Stat}
use Rattle.zed_view.specs.View.{board_at, stat_at, no_stat}
use Rattle.zed_export.specs.World.{exported_code, exported_stat, exported_above, stat_with}
use Rattle.zed_export.specs.Fields.{FitsStat}
use Rattle.zed_export.proofs.Live.{next_passes, next_fails}
use Rattle.zed_export.proofs.Shares.{owned_more}
use Rattle.zed_export.proofs.board.stats_of.Goals as goal
use Rattle.zed_export.proofs.board.stats_of.Goals.{then-not-stat+in_ok-code+in_ok-push+in_ok-push-2, else-not-stat}

pub loop-j-preserved : goal.loop-j-preserved
loop-j-preserved c =
    let p = c.args.view.now in
    let b = board_at p c.args.i in
    let s = stat_at b c.loop-j.j in
    let before = c.loop-j.texts.items in
    let done = c.loop-j.out.items in
    let is_live = λ (x : Stat). not x.removed in
    let left = filter is_live (drop (c.loop-j.j + 1) b.stats) in
    let within : c.loop-j.j < length b.stats = omega (arith, c.stats-j-end.ensures) in
    elim c.if-not-stat.branch [
      | then-not-stat+in_ok-code+in_ok-push+in_ok-push-2 w ↦
          let live : not s.removed ≡ true = ap (λ (x : Stat). not x.removed) (sym c.stat.ensures) ∙ ap not w.if-not-stat.true in
          let next = next_passes is_live b.stats c.loop-j.j no_stat within live in
          let x = w.stat_of.result in
          let rest = exported_above p b (before ++ s.fields.text ∷ []) left in
          let own = c.stat.result.1.now.values.fields.text in
          let text : own ≡ s.fields.text = ap (λ (x : Stat). x.fields.text) c.stat.ensures in
          let items : c.if-not-stat.texts.items ≡ before ++ s.fields.text ∷ [] = cc (w.in_ok-push-2.ensures.items) in
          let out : c.if-not-stat.out.items ≡ done ++ x ∷ [] = cc (w.in_ok-push.ensures.items) in
          let code : w.in_ok-code.code ≡ exported_code p before s.fields.text
          = w.in_ok-code.ensures ∙ ap (λ (texts : List (Option TextId)). exported_code p texts own) w.deref.ensures.value ∙ ap (exported_code p before) text in
          let is : x ≡ exported_stat p b before s = w.stat_of.ensures.result ∙ ap (stat_with p b s) code in
          record {
            completes = rw (items, out) (append_assoc done (x ∷ []) rest ∙ ap (λ (y : StatData). done ++ y ∷ rest) is ∙ ap (λ (ss : List Stat). done ++ exported_above p b before ss) (sym next) ∙ c.loop-j.invariant.completes);
            room = rw items (omega (arith, length_push before s.fields.text, ap length next, c.loop-j.invariant.room));
            each = rw (items, out) (omega (arith, length_push before s.fields.text, length_push done x, c.loop-j.invariant.each));
            owned = rw (items, out) (owned_more p before done s.fields.text x c.loop-j.invariant.each (ap (λ (y : StatData). y.code) is) c.loop-j.invariant.owned);
            fits = rw out (all_joined FitsStat done (x ∷ []) c.loop-j.invariant.fits (w.stat_of.ensures.fits, tt));
          }
      | else-not-stat w ↦
          let gone : not s.removed ≡ false = ap (λ (x : Stat). not x.removed) (sym c.stat.ensures) ∙ ap not w.if-not-stat.false in
          let next = next_fails is_live b.stats c.loop-j.j no_stat within gone in
          rw (w.texts-is, w.out-is, sym next) c.loop-j.invariant
    ]
