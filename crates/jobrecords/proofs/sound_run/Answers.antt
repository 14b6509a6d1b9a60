use Rattle.std.proofs.Common.{sym, ◌∙◌, arith}
use Rattle.jobrecords.proofs.Fronts.{run_here, none_if_ok}
use Rattle.jobrecords.proofs.sound_run.Goals as goal

pub returns-then-is_ok : goal.returns-then-is_ok
returns-then-is_ok c =
    let a = c.args in record {
      inside = omega arith;
      reads = λ q. run_here a.file.now a.at q (omega arith) (sym c.is_mark.ensures ∙ c.if-not-is_mark.false) c.h_at-count.result c.w_at-bytes.result c.h_at-count.ensures c.w_at-bytes.ensures;
      turn = sym c.run_follows.ensures ∙ c.if-run_follows.true;
      ranges = sym c.accept_slots.ensures ∙ none_if_ok c.accept_slots.result (sym c.is_ok.ensures.value ∙ c.if-is_ok.true);
    }
