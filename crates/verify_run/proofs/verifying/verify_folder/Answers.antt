use Rattle.std.proofs.Common.{◌∙◌, ap, sym}
use Rattle.verify_run.proofs.Checks.{checked_then, folder_checked}
use Rattle.verify_run.proofs.Others.{shown_said, as_many, others_stopped, verdict_stopped}
use Rattle.verify_run.proofs.Stops.{lines_more}
use Rattle.verify_run.proofs.verifying.verify_folder.Goals as goal

pub returns-in-Err : goal.returns-in-Err
returns-in-Err g c = λ others is. lines_more _ _ _ _ _ c.in-Err.ensures

pub returns-in-Err-say_others : goal.returns-in-Err-say_others
returns-in-Err-say_others g c = λ others is. checked_then _ _ _ _ _ _ _ _ _ c.in-Ok.ensures (others_stopped _ _ _ others _ (c.deref.ensures.value ∙ is) (c.in-Err-say_others.ensures c.args.d))

pub returns-in-Ok-say_verdict : goal.returns-in-Ok-say_verdict
returns-in-Ok-say_verdict g c = λ others is.
    folder_checked _ _ others _ _ _ _ _ _ _ c.in-Ok.ensures (ap (λ n. record c.in-Ok.counts { unlisted = n }) (c.len.ensures ∙ sym c.deref.ensures.len ∙ as_many _ others (c.deref.ensures.value ∙ is))) (shown_said _ _ others (c.deref.ensures.value ∙ is) (c.in-Ok-say_others.ensures c.args.d)) (c.in-Ok-say_verdict.ensures c.args.d)

pub returns-in-Err-say_verdict : goal.returns-in-Err-say_verdict
returns-in-Err-say_verdict g c = λ others is. checked_then _ _ _ _ _ _ _ _ _ c.in-Ok.ensures (verdict_stopped _ _ _ others _ (c.deref.ensures.value ∙ is) (c.in-Ok-say_others.ensures c.args.d) (c.in-Err-say_verdict.ensures c.args.d))
