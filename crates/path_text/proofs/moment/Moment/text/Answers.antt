use Rattle.std.proofs.Common.{◌∙◌}
use Rattle.path_text.proofs.Moments.{parts_text}
use Rattle.path_text.proofs.moment.Moment.text.Goals as goal

pub returns : goal.returns
returns c =
    let date = c.date_on-date.ensures in
    rw (← c.self.view_is) (c.date_time.ensures ∙ parts_text _ _ _ _ date.year date.month date.day)
