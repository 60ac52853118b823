use Rattle.run_state.proofs.Apart.{is_beside, still_apart, still_owns, turned_apart}
use Rattle.run_state.proofs.laws.another_turn_is_beside.Goals as goal

pub returns-clause-beside : goal.returns-clause-beside
returns-clause-beside c = λ o p at b d first run apart owns turn keeps. is_beside o p at b d first run apart owns turn keeps c.a_turn_calls_its_own.ensures

pub returns-clause-apart : goal.returns-clause-apart
returns-clause-apart c = λ o p at b d first run apart owns turn keeps. (still_apart o p at b d first run apart owns turn keeps, still_owns o p at b d first run apart owns turn keeps)

pub returns-clause-turned : goal.returns-clause-turned
returns-clause-turned c = turned_apart
