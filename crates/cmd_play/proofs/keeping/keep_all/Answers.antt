use Rattle.std.proofs.Common.{◌∙◌, ◌++◌, ap}
use Rattle.zed_files.specs.Texts.{text_in}
use Rattle.zed_terminal.specs.Course.{point}
use Rattle.zed_terminal.specs.Record.{spelled_moves, spelled_all}
use Rattle.cmd_play.specs.Kept.{made_for}
use Rattle.cmd_play.proofs.Kept.{no_memory, recorded, recorded_half}
use Rattle.cmd_play.proofs.keeping.keep_all.Goals as goal

pub returns-clause-ok : goal.returns-clause-ok
returns-clause-ok g c = λ t at.
    recorded (text_in c.args.words) (text_in c.args.keys) (point c.args.tape.now) c.args.rest.now c.as_slice-3.result.now c.as_slice-4.result.now t c.keep_both.result _
    (c.as_slice-3.ensures.value ∙ c.in_ok-word_bytes.ensures.ok ∙ ap (λ ws. made_for (text_in c.args.words) (spelled_all ws)) c.as_slice.ensures.value)
    (c.as_slice-4.ensures.value ∙ c.in_ok-key_bytes.ensures.ok ∙ ap (λ ks. made_for (text_in c.args.keys) (spelled_moves ks ++ spelled_moves c.args.rest.now)) c.as_slice-2.ensures.value)
    (c.keep_both.ensures.ok t at)

pub returns-clause-half : goal.returns-clause-half
returns-clause-half g c = λ t at.
    recorded_half (text_in c.args.words) (text_in c.args.keys) (point c.args.tape.now) c.args.rest.now c.as_slice-3.result.now c.as_slice-4.result.now t c.keep_both.result _
    (c.as_slice-3.ensures.value ∙ c.in_ok-word_bytes.ensures.ok ∙ ap (λ ws. made_for (text_in c.args.words) (spelled_all ws)) c.as_slice.ensures.value)
    (c.as_slice-4.ensures.value ∙ c.in_ok-key_bytes.ensures.ok ∙ ap (λ ks. made_for (text_in c.args.keys) (spelled_moves ks ++ spelled_moves c.args.rest.now)) c.as_slice-2.ensures.value)
    (c.keep_both.ensures.half t at)

pub returns-clause-memory_only_when : goal.returns-clause-memory_only_when
returns-clause-memory_only_when g c = no_memory _ _ c.keep_both.result c.keep_both.ensures.err
